use Rattle.std.proofs.Common.{refl}
use Rattle.std.specs.Fmt.{digits}
use Rattle.b67_layout_shown.specs.Reading.{stack_seen}
use Rattle.b67_dump.specs.Dump.{dump_text}
use Rattle.b67_dump.proofs.rows.halted_machines_are_dumped.Goals as goal

pub returns : goal.returns
unfolding stack_seen dump_text digits
returns c = refl
