use Rattle.std.proofs.Common.{◌≡◌, ◌-◌, ◌+◌, ◌∙◌, sym, ap, subst, arith, ℕ, true, Ok, Err, Result, Option}
use Rattle.std.proofs.lemmas.Option.{none-some, slice_get_within}
use Rattle.b67_word.specs.declared.faults.Fault.{Fault}
use Rattle.b67_model.specs.Chase.{Leads, link_at, chase_on}
use Rattle.b67_layout.specs.Meets.{here}
use Rattle.b67_refer.specs.declared.ends.End.{End}
use Rattle.b67_refer.specs.RunningContext.{LiveContext, running_of}
use Rattle.b67_refer.specs.LiveEnds.{EndMeets, LinkMeets}
use Rattle.b67_refer.proofs.SeenFrom.{eye, either}
use Rattle.b67_refer.proofs.Names.{Rest, turn_end, turn_fault, turn_on, turn_last, cell_found, ends_chain, ends_missing}
use Rattle.b67_refer.proofs.Chains.{level_is, level_small}
use Rattle.b67_refer.proofs.Named.{Finds, finds_couple, finds_alone, asks_alone}
use Rattle.b67_refer.proofs.ends.chase_reference.Goals.{In-Ok, In-Err, in-Some, in-None}
use Rattle.b67_refer.proofs.ends.chase_reference.Goals as goal

pub loop-i-init : goal.loop-i-init
loop-i-init c = λ a q shown at owner v stands ref.
    let none : c.args.links ≡ c.args.links - 0 = omega arith in
    (true, record { at = at; owner = owner; word = v; stands = stands; reference = ref; same = ap (λ (i : ℕ). chase_on (here a.member a.runner q) i (Leads v)) none })

pub couple_at-requires-clause-level : goal.couple_at-requires-clause-level
couple_at-requires-clause-level c = let a = running_of c.requires.0 in omega (arith, level_is c.args.core.now c.args.regs.now a, level_small c.args.core.now c.args.regs.now a)

pub cell_of-named-requires : goal.cell_of-named-requires
cell_of-named-requires c = let (a, shown, at, owner, v, stands, ref) = c.requires in (running_of a, shown)

pub cell_at-named-requires : goal.cell_at-named-requires
cell_at-named-requires c =
    let (a, shown, at, owner, v, stands, ref) = c.requires in
    let (own, l) = c.loop-i.invariant a a.runner.place shown at owner v stands ref in
    asks_alone c.args.core.now c.args.regs.now c.args.display.now c.loop-i.w (λ i fits e. none-some i (sym c.in-None.is ∙ c.from_word.ensures.known i fits e)) c.read.result c.read.ensures (eye a own) l.at l.owner l.word l.stands l.reference

-- the cell that the word names
named : (c : In-Ok) → Finds c.args.core.now c.args.regs.now c.args.display.now c.loop-i.w (Ok c.in-Ok.at)
named c =
    let F : Result ℕ Fault → Type 0 = Finds c.args.core.now c.args.regs.now c.args.display.now c.loop-i.w in
    subst F c.in-Ok.is (elim c.match-from_word.branch [
      | in-Some w ↦ subst F (sym w.named-is) (finds_couple c.args.core.now c.args.regs.now c.args.display.now c.loop-i.w w.in-Some.r w.in-Some.ensures.some.0 w.in-Some.ensures.some.1 w.couple_at.result w.couple_at.ensures w.cell_of-named.result w.cell_of-named.ensures)
      | in-None w ↦ subst F (sym w.named-is) (finds_alone c.args.core.now c.args.regs.now c.args.display.now c.loop-i.w (λ i fits e. none-some i (sym w.in-None.is ∙ c.from_word.ensures.known i fits e)) w.read.result w.read.ensures w.cell_at-named.result w.cell_at-named.ensures)
    ])

-- or why it names none
missing : (c : In-Err) → Finds c.args.core.now c.args.regs.now c.args.display.now c.loop-i.w (Err c.in-Err.fault)
missing c =
    let F : Result ℕ Fault → Type 0 = Finds c.args.core.now c.args.regs.now c.args.display.now c.loop-i.w in
    subst F c.in-Err.is (elim c.match-from_word.branch [
      | in-Some w ↦ subst F (sym w.named-is) (finds_couple c.args.core.now c.args.regs.now c.args.display.now c.loop-i.w w.in-Some.r w.in-Some.ensures.some.0 w.in-Some.ensures.some.1 w.couple_at.result w.couple_at.ensures w.cell_of-named.result w.cell_of-named.ensures)
      | in-None w ↦ subst F (sym w.named-is) (finds_alone c.args.core.now c.args.regs.now c.args.display.now c.loop-i.w (λ i fits e. none-some i (sym w.in-None.is ∙ c.from_word.ensures.known i fits e)) w.read.result w.read.ensures w.cell_at-named.result w.cell_at-named.ensures)
    ])

pub returns-in-Err : goal.returns-in-Err
returns-in-Err c = λ a q shown at owner v stands ref.
    let l = c.loop-i.invariant a q shown at owner v stands ref in
    ends_missing c.args.core.now c.args.regs.now a q c.args.links (c.args.links - c.loop-i._i) v c.loop-i.w l c.in-Err.fault (omega (arith, c.loop-i-test.true)) (missing (goal.at.returns-in-Err c).In-Err (eye a l.0) q shown l.1.at l.1.owner l.1.word l.1.stands l.1.reference)

pub end_at-requires : goal.end_at-requires
end_at-requires c =
    let (a, shown, at, owner, v, stands, ref) = c.requires in
    let q = a.runner.place in
    let l = c.loop-i.invariant a q shown at owner v stands ref in
    let f = cell_found c.args.core.now c.args.regs.now a q c.args.links (c.args.links - c.loop-i._i) v c.loop-i.w c.in-Ok.at l (named (goal.at.end_at-requires c).In-Ok (eye a l.0) q shown l.1.at l.1.owner l.1.word l.1.stands l.1.reference) in
    (eye a f.next, q, f.turned.frame, f.turned.offset, f.turned.word, f.turned.cell)

pub returns-in-Ok-Some : goal.returns-in-Ok-Some
returns-in-Ok-Some c = λ a q shown at owner v stands ref.
    let l = c.loop-i.invariant a q shown at owner v stands ref in
    let f = cell_found c.args.core.now c.args.regs.now a q c.args.links (c.args.links - c.loop-i._i) v c.loop-i.w c.in-Ok.at l (named (goal.at.returns-in-Ok-Some c).In-Ok (eye a l.0) q shown l.1.at l.1.owner l.1.word l.1.stands l.1.reference) in
    let m = subst (λ (y : Result (Option End) Fault). LinkMeets (eye a f.next) q y (link_at (here a.member a.runner q) f.turned.frame f.turned.offset f.turned.word)) (c.in-Ok-Some.is ∙ ap Ok c.in-Ok-Some.field-0-is) (c.end_at.ensures (eye a f.next) q f.turned.frame f.turned.offset f.turned.word f.turned.cell) in
    ends_chain c.args.core.now c.args.regs.now a q c.args.links (c.args.links - c.loop-i._i) v c.loop-i.w f.own f.next f.rest (Ok c.in-Ok-Some.end)
    (turn_end c.args.core.now c.args.regs.now (eye a f.next) q (c.args.links - c.loop-i._i) c.in-Ok.at f.rest.word f.turned c.in-Ok-Some.end (omega (arith, c.loop-i-test.true)) m)

pub get-w-requires : goal.get-w-requires
get-w-requires c =
    let (a, shown, at, owner, v, stands, ref) = c.requires in
    let q = a.runner.place in
    let l = c.loop-i.invariant a q shown at owner v stands ref in
    let f = cell_found c.args.core.now c.args.regs.now a q c.args.links (c.args.links - c.loop-i._i) v c.loop-i.w c.in-Ok.at l (named (goal.at.get-w-requires c).In-Ok (eye a l.0) q shown l.1.at l.1.owner l.1.word l.1.stands l.1.reference) in
    slice_get_within c.args.core.now c.in-Ok.at f.turned.cell.word f.turned.cell.there

pub returns-in-Err-end_at : goal.returns-in-Err-end_at
returns-in-Err-end_at c = λ a q shown at owner v stands ref.
    let l = c.loop-i.invariant a q shown at owner v stands ref in
    let f = cell_found c.args.core.now c.args.regs.now a q c.args.links (c.args.links - c.loop-i._i) v c.loop-i.w c.in-Ok.at l (named (goal.at.returns-in-Err-end_at c).In-Ok (eye a l.0) q shown l.1.at l.1.owner l.1.word l.1.stands l.1.reference) in
    let m = subst (λ (y : Result (Option End) Fault). LinkMeets (eye a f.next) q y (link_at (here a.member a.runner q) f.turned.frame f.turned.offset f.turned.word)) c.in-Err-end_at.is (c.end_at.ensures (eye a f.next) q f.turned.frame f.turned.offset f.turned.word f.turned.cell) in
    ends_chain c.args.core.now c.args.regs.now a q c.args.links (c.args.links - c.loop-i._i) v c.loop-i.w f.own f.next f.rest (Err c.in-Err-end_at.fault)
    (turn_fault c.args.core.now c.args.regs.now (eye a f.next) q (c.args.links - c.loop-i._i) c.in-Ok.at f.rest.word f.turned c.in-Err-end_at.fault (omega (arith, c.loop-i-test.true)) m)

pub loop-i-preserved : goal.loop-i-preserved
loop-i-preserved c = λ a q shown at owner v stands ref.
    let l = c.loop-i.invariant a q shown at owner v stands ref in
    let f = cell_found c.args.core.now c.args.regs.now a q c.args.links (c.args.links - c.loop-i._i) v c.loop-i.w c.in-Ok.at l (named (goal.at.loop-i-preserved c).In-Ok (eye a l.0) q shown l.1.at l.1.owner l.1.word l.1.stands l.1.reference) in
    let m = subst (λ (y : Result (Option End) Fault). LinkMeets (eye a f.next) q y (link_at (here a.member a.runner q) f.turned.frame f.turned.offset f.turned.word)) (c.in-Ok-None.is ∙ ap Ok c.in-Ok-None.field-0-is) (c.end_at.ensures (eye a f.next) q f.turned.frame f.turned.offset f.turned.word f.turned.cell) in
    let n : c.args.links - c.loop-i._i - 1 ≡ c.args.links - (c.loop-i._i + 1) = omega arith in (
      f.next,
      subst (λ (i : ℕ). Rest c.args.core.now c.args.regs.now (eye a f.next) q c.args.links i v c.get-w.result) n
          (turn_on c.args.core.now c.args.regs.now (eye a f.next) q c.args.links (c.args.links - c.loop-i._i) c.in-Ok.at v f.rest.word c.get-w.result f.rest.same f.turned (omega (arith, c.loop-i-test.true)) m c.get-w.ensures),
    )

pub returns : goal.returns
returns c = λ a q shown at owner v stands ref.
    let (own, l) = c.loop-i.invariant a q shown at owner v stands ref in
    let e = turn_last c.args.core.now c.args.regs.now (eye a own) q c.args.links (c.args.links - c.loop-i._i) v c.loop-i.w (omega (arith, c.loop-i-test.false)) l in
    either a (λ (d : LiveContext c.args.core.now c.args.regs.now). EndMeets d q (Err Rattle.b67_word.specs.declared.faults.Fault.TheVariants.Loop) (chase_on (here a.member a.runner q) c.args.links (Leads v))) own e
