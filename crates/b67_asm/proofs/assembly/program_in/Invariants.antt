use Rattle.std.proofs.Common.{◌≡◌, false, length, drop}
use Rattle.b67_model_text.specs.Asm.{program_from, version_in}
use Rattle.b67_asm.specs.Scope.{names_in}
use Rattle.b67_asm.specs.Blocks.{Grows, program_after, has_entry_card}
use Rattle.b67_asm.proofs.assembly.program_in.Given as goal

abbrev pub invariant-loop-line : goal.invariant-loop-line
invariant-loop-line l = (l.next ≡ l.line-index) × Grows l.file × (l.file.version ≡ version_in l.lines) × (l.file.version ≡ 1 → has_entry_card l.lines ≡ false) × (program_after l.file (program_from (names_in l.names) l.segments (length l.file.segments) (length l.file.rows) (drop l.line-index l.lines)) ≡ program_from (names_in l.names) l.segments 0 0 l.lines)
