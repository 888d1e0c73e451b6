-- Lemmas of the crates below, for the crates above.
pub use Rattle.b67_session.proofs.Openings.{ordered_opens}
pub use Rattle.b67_session.proofs.Rows.{none_of}
pub use Rattle.b67_session.proofs.Shaping.{stands_untold}
