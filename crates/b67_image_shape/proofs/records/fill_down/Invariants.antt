use Rattle.b67_image_shape.proofs.Filling.{IsFillingAt}
use Rattle.b67_image_shape.proofs.records.fill_down.Given as goal

abbrev pub invariant-down : goal.invariant-down
invariant-down l = IsFillingAt l.core l.base l.turns l._turn l.f l.s l.records (l.mark) (l.high) l.fn.records
