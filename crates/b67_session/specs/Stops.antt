-- Why a step isn't made, for the crates above.
pub use Rattle.b67_session.specs.AttemptStops.{Stop, NoCore, BackingFull, BackingFault, PrintFault}
