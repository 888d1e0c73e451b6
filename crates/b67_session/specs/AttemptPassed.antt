-- Definitions of the crates below, for the crates above.
pub use Rattle.b67_exec.specs.Near.{HoldsCode}
pub use Rattle.b67_mcp.specs.Running.{CallCauses, CanNumber, JobsHaveRoom, Keeps}
pub use Rattle.b67_mcp.specs.Called.{AreCountable, IsShortAt, Lengthens, StartsTask, CallsDevice, WaitsSo, IsCalled, OnlyPrinted, printed_text}
pub use Rattle.b67_presence.specs.Bringing.{StandsOver}
