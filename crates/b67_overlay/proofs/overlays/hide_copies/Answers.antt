use Rattle.std.proofs.Common.{ℕ, ap, subst, sym, ◌∙◌}
use Rattle.b67_area.specs.declared.Info.{Info}
use Rattle.b67_overlay.specs.Turns.{Searched}
use Rattle.b67_overlay.proofs.Hiding.{hidden_data, hidden_code}
use Rattle.b67_overlay.proofs.overlays.hide_copies.Goals as goal

pub returns-in-Array-clause-hides : goal.returns-in-Array-clause-hides
returns-in-Array-clause-hides c = λ x p t h s k at is.
    let owner = ap (λ (i : Info). i.owner) is in
    let P : ℕ → Type 0 = λ n. Searched p p.peak c.args.area n c.args.cpu.now.core c.search_copies.new.cpu.core in
    hidden_data x c.args.cpu.now.core c.args.cpu.now.regs p s c.args.area t at h c.search_copies.new.cpu.core (subst P owner (c.search_copies.ensures.searched x p t s k at (sym owner)))

pub returns-in-Code-clause-hides : goal.returns-in-Code-clause-hides
returns-in-Code-clause-hides c = λ x p t h s k at is.
    hidden_code x c.args.cpu.now.core c.args.cpu.now.regs p s c.args.area t at h (sym (ap (λ (i : Info). i.kind) is) ∙ c.in-Code.is)

pub search_copies-requires : goal.search_copies-requires
search_copies-requires c =
    let (x, p, t, s, k, at, is) = c.requires in
    (x, p, t, s, k, at, ap (λ (i : Info). i.owner) (sym is))
