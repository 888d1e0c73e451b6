-- What crates above take of the crates below through this one.
pub use Rattle.b67_layout.specs.Machine.{DeviceAfterCalls}
pub use Rattle.b67_image.specs.Parts.{parts_of}
pub use Rattle.b67_image.specs.Typed.{AreTyped}
pub use Rattle.b67_session.specs.declared.seeking.CodePlace.{CodePlace}
pub use Rattle.b67_session.specs.declared.seeking.Sought.{Sought}
pub use Rattle.b67_session.specs.declared.seeking.Sought.TheVariants.{Place, Switch, Within, Deepest}
