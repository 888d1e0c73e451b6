use Rattle.std.proofs.Common.{◌≡◌, map, drop}
use Rattle.b67_model_text.specs.Command.{row_of}
use Rattle.b67_asm.specs.Rows.{key_and_mnemonic}
use Rattle.b67_asm.proofs.statement.look_up.Given as goal

abbrev pub invariant-loop-row : goal.invariant-loop-row
invariant-loop-row l = row_of l.word (map key_and_mnemonic (drop l.row-index l.rows)) ≡ row_of l.word (map key_and_mnemonic l.rows)
