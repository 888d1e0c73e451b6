use Rattle.std.proofs.Common.{◌≡◌, ℕ, ap, arith, sym, subst}
use Rattle.b67_area.specs.declared.Areas.{Areas}
use Rattle.b67_area.specs.declared.Info.{Info}
use Rattle.b67_stack.specs.Represents.{Represents, info_of}
use Rattle.b67_overlay.specs.Spans.{MachineCanPage}
use Rattle.b67_overlay.specs.Overlaid.{overlaid, dropped, IsOut}
use Rattle.b67_overlay.proofs.Sectors.{about, area_here, directory_at, info_is, out_clean}
use Rattle.b67_ctl.specs.declared.registers.Regs.{Regs}
use Rattle.b67_stack.specs.declared.Cpu.{Cpu}
use Rattle.b67_overlay.proofs.Finish.{clean_machine}
use Rattle.b67_overlay.proofs.overlays.discard.Goals as goal

pub info-info-requires : goal.info-info-requires
info-info-requires c =
    let (x, p, t, s, k, low, at, no_array) = c.requires in
    (x.spans, info_of x t, directory_at x c.args.cpu.now.core c.args.cpu.now.regs p s c.args.area t at c.args.areas.now.low low, area_here x c.args.cpu.now.core c.args.cpu.now.regs p s c.args.area t at c.args.areas.now.low low)

pub give_back-requires : goal.give_back-requires
give_back-requires c =
    let (x, p, t, s, k, low, at, no_array) = c.requires in
    let ab = about x c.args.cpu.now.core c.args.cpu.now.regs p s c.args.area t at in
    let is = info_is x c.args.cpu.now.core c.args.cpu.now.regs p s c.args.area t at c.args.areas.now.low low c.info-info.result c.info-info.ensures in
    record { machine = (x, p, t, s, k, low, at, is); first = omega (arith, ab.small, ap (λ (i : Info). i.kept) is) }

pub returns-clause-stands : goal.returns-clause-stands
returns-clause-stands c = λ x table told p t m at no_array.
    let is = info_is x c.args.cpu.now.core c.args.cpu.now.regs p m.stands c.args.area t at c.args.areas.now.low m.low c.info-info.result c.info-info.ensures in
    let out = out_clean x c.args.cpu.now.core c.args.cpu.now.regs p m.stands c.args.area t at no_array in
    let I : ℕ → Type 0 = λ n. IsOut x x p t n in
    let J : ℕ → Regs → Type 0 = λ n r. Represents (dropped x x t c.args.area n) c.give_back.new.cpu.core r p in
    let regs : c.give_back.new.cpu.regs ≡ c.args.cpu.now.regs = ap (λ (z : Cpu). z.regs) c.give_back.ensures.rest in
    let M : Cpu → Type 0 = λ z. MachineCanPage (overlaid x t c.args.area told) z c.give_back.new.areas table told p in
    let kept : c.info-info.result.kept ≡ (x.held t.home).chain = ap (λ (i : Info). i.kept) is in
    let d = subst (J (x.held t.home).chain) regs (subst (λ (n : ℕ). J n c.give_back.new.cpu.regs) kept (c.give_back.ensures.stands x x p t m.stands m.copies m.low at is (subst I (sym kept) out))) in
    subst M (sym c.give_back.ensures.rest) (clean_machine x c.args.cpu.now c.args.areas.now c.give_back.new.areas table told p c.args.area t m at no_array (ap (λ (z : Areas). z.low) c.give_back.ensures.areas) c.give_back.new.cpu.core (c.give_back.ensures.outside x p t m.stands m.copies m.low at is) d)

pub returns-clause-outside : goal.returns-clause-outside
returns-clause-outside c = λ x p t s k low at.
    let is = info_is x c.args.cpu.now.core c.args.cpu.now.regs p s c.args.area t at c.args.areas.now.low low c.info-info.result c.info-info.ensures in
    c.give_back.ensures.outside x p t s k low at is
