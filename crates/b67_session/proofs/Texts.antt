-- The texts of a step's lines.
use Rattle.std.proofs.Common.{◌≡◌, List, ◌++◌}
use Rattle.std.proofs.lemmas.Grind.{flat_map-append}
use Rattle.b67_model.specs.Lines.{run_text}
use Rattle.b67_model.specs.Run.{RunLine}

pub run_text-append : (xs ys : List RunLine) → run_text (xs ++ ys) ≡ run_text xs ++ run_text ys
run_text-append xs ys = flat_map-append _ xs ys
