use Rattle.std.proofs.Common.{◌≡◌, ◌++◌, not, false, map, drop}
use Rattle.std.specs.List.{list_any, AllByRecursion}
use Rattle.b67_word.specs.Tagged.{contents}
use Rattle.b67_codefile.specs.Spelling.{HasTag}
use Rattle.b67_model_text.specs.Asm.{is_word, value_in}
use Rattle.b67_asm.proofs.row.put_more.Given as goal

abbrev pub invariant-loop-value : goal.invariant-loop-value
invariant-loop-value l = (list_any (λ v. not (is_word v)) (drop l.value-index l.values) ≡ false) × (contents l.into ++ map value_in (drop l.value-index l.values) ≡ contents l.fn.into ++ map value_in l.values) × (AllByRecursion (HasTag 0) l.fn.into → AllByRecursion (HasTag 0) l.into)
