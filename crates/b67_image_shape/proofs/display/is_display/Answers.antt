use Rattle.std.proofs.Common.{◌≡◌, true, false, sym, ◌∙◌, arith}
use Rattle.b67_image_shape.proofs.Displays.{level_fits, alike_shows, shows_alike}
use Rattle.std.proofs.lemmas.Bool.{OnTrue_from, OnFalse_from}
use Rattle.b67_image_shape.proofs.display.is_display.Goals as goal

pub overflow_add-regs : goal.overflow_add-regs
overflow_add-regs c = omega (arith, level_fits c.args.core.now c.args.regs.now c.requires)

pub are_alike-requires : goal.are_alike-requires
are_alike-requires c = level_fits c.args.core.now c.args.regs.now c.requires

pub returns-clause-yes : goal.returns-clause-yes
returns-clause-yes c = OnTrue_from c.are_alike.result _ (λ e a. alike_shows c.args.core.now c.args.regs.now a c.args.display.now c.rebuild.new.display (c.rebuild.ensures a) (sym c.are_alike.ensures ∙ e))

pub returns-clause-not : goal.returns-clause-not
returns-clause-not c =
    OnFalse_from c.are_alike.result _ (λ e a d. (let t : false ≡ true = sym e ∙ c.are_alike.ensures ∙ shows_alike c.args.core.now c.args.regs.now a c.args.display.now c.rebuild.new.display (c.rebuild.ensures a) d in let z : ⊥ = cc in z))
