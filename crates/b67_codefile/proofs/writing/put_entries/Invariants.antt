use Rattle.std.proofs.Common.{◌≡◌, ◌++◌, length, take}
use Rattle.std.specs.Int.{w8, w16, to_be_bytes}
use Rattle.std.specs.List.{flat_map}
use Rattle.b67_codefile.proofs.writing.put_entries.Given as goal

abbrev pub invariant-loop-entry : goal.invariant-loop-entry
invariant-loop-entry l = l.out ≡ l.fn.out ++ (to_be_bytes w8 (length l.entries) ++ flat_map (to_be_bytes w16) (take l.entry-index l.entries))
