use Rattle.std.proofs.Common.{ap, sym, ◌∙◌, subst, ℕ, ◌<◌, length}
use Rattle.std.specs.List.{slice_get}
use Rattle.std.proofs.lemmas.Option.{same_Some}
use Rattle.b67_exec_cells.specs.Elements.{original_desc}
use Rattle.b67_exec_cells.proofs.Arrays.{word-is, home-inside, desc-fits}
use Rattle.b67_exec_cells.proofs.elements.array_descriptor.Goals as goal

pub get-requires : goal.get-requires
get-requires c =
    let q = c.requires.1 in
    let r = q.runs in
    let P : ℕ → Type 0 = λ i. i < length c.args.cpu.now.core in
    subst P (sym q.home) (home-inside r.storage c.args.cpu.now r.plan r.session r.member r.task r.ordered r.stands r.running q.number c.requires.0 q.element)

pub returns : goal.returns
returns c = λ x plan s m t ordered h runs n index home e.
    let cpu = c.args.cpu.now in
    let w = word-is x cpu plan s m t ordered h runs n index e in
    let f = desc-fits x cpu plan s m t ordered h runs n index e in
    c.read.ensures (original_desc x plan m n) f (same_Some _ _ (sym c.get.ensures ∙ ap (slice_get cpu.core) home ∙ w))
