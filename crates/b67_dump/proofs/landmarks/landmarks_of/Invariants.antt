use Rattle.std.proofs.Common.{◌≡◌, length}
use Rattle.b67_layout_shown.specs.Machines.{sight_of}
use Rattle.b67_dump.specs.Landmarks.{AreLandmarks}
use Rattle.b67_dump.proofs.landmarks.landmarks_of.Given as goal

abbrev pub invariant-each : goal.invariant-each
invariant-each l = (length l.landmarks.items ≡ l._at) × AreLandmarks (sight_of l.machine) l.landmarks.items
