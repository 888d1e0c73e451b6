-- What crates above take of the crate below through this one.
pub use Rattle.b67_mcp.proofs.Frames.{replaces_cut, replaces_answered, waits_cut, waits_answered}
pub use Rattle.b67_mcp.proofs.CallTables.{WaitsThere, jobs_kept, jobs_put, tables_after}
pub use Rattle.b67_mcp.proofs.RunningRow.{row_of}
