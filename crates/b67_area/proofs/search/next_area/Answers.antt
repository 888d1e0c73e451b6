use Rattle.std.proofs.Common.{◌∙◌, sym, arith}
use Rattle.b67_area.proofs.Keeps.{next_in, next_end, next_area_here, next_hole_here}
use Rattle.b67_area.proofs.search.next_area.Goals as goal

pub returns-then-at-size : goal.returns-then-at-size
returns-then-at-size c = λ b h ss i. next_end c.args.core.now b h c.args.at ss i (c.if-at-size.true ∙ c.size-size.ensures.value)

pub get-requires : goal.get-requires
get-requires c = let (b, h, ss, i) = c.requires in next_in c.args.core.now b h c.args.at ss i (λ e. c.if-at-size.false (e ∙ sym c.size-size.ensures.value))

pub overflow_add-result : goal.overflow_add-result
overflow_add-result c = let (b, h, ss, i) = c.requires in omega (arith, i.small, next_in c.args.core.now b h c.args.at ss i (λ e. c.if-at-size.false (e ∙ sym c.size-size.ensures.value)))

pub returns-then-part-ne3 : goal.returns-then-part-ne3
returns-then-part-ne3 c = λ b h ss i. next_area_here c.args.core.now b h c.args.at ss c.get.result i c.get.ensures (λ e. c.if-part-ne3.true (c.part.ensures.value ∙ e))

pub room_of-room-requires : goal.room_of-room-requires
room_of-room-requires c = grind (arith, next_hole_here)

pub overflow_add-at : goal.overflow_add-at
overflow_add-at c = grind (arith, next_hole_here)

pub returns-then-at-room : goal.returns-then-at-room
returns-then-at-room c = grind (arith, next_hole_here)

pub overflow_add-result-2 : goal.overflow_add-result-2
overflow_add-result-2 c = grind (arith, next_hole_here)

pub overflow_add-result-3 : goal.overflow_add-result-3
overflow_add-result-3 c = grind (arith, next_hole_here)

pub returns : goal.returns
returns c = grind (arith, next_hole_here)
