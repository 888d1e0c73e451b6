-- What crates above take of the crate below through this one.
pub use Rattle.b67_layout_spans.proofs.Sessions.{copies_of, view_of}
pub use Rattle.b67_layout_spans.proofs.FullDevice.{short_full, within}
