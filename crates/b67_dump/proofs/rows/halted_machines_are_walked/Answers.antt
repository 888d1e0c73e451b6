use Rattle.std.proofs.Common.{refl}
use Rattle.std.specs.Fmt.{digits}
use Rattle.b67_layout_shown.specs.Reading.{stack_seen}
use Rattle.b67_dump.specs.Walk.{marks_in, walk_text}
use Rattle.b67_dump.proofs.rows.halted_machines_are_walked.Goals as goal

pub returns : goal.returns
unfolding stack_seen marks_in walk_text digits
returns c = refl
