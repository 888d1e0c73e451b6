-- Lemmas of the crates below, for the crates above.
pub use Rattle.b67_session.proofs.Keeps.{row_keeps}
