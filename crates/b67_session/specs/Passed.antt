-- Definitions of the crates below, for the crates above.
pub use Rattle.b67_session.specs.Attempts.{IsLacking, TakesSectors, LacksRoom, CodeFits, TellsAfter, TellsSectors}
pub use Rattle.b67_session.specs.AttemptPassed.{AreCountable, CallCauses, IsShortAt, Lengthens, StartsTask, CallsDevice}
