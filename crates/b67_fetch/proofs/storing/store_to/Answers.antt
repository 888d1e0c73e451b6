use Rattle.std.proofs.Common.{◌≡◌, ◌≢◌, ℕ, sym, ◌∙◌, ap, subst, refl, inl, inr, Result, Ok, Err, arith}
use Rattle.std.proofs.lemmas.Option.{same_Some}
use Rattle.b67_word.specs.Tagged.{Tagged}
use Rattle.b67_word.specs.declared.faults.Fault.{Fault}
use Rattle.b67_word.specs.declared.faults.Fault.TheVariants.{MemoryProtect}
use Rattle.b67_stack.specs.declared.Step.{Step}
use Rattle.b67_stack.specs.declared.Step.TheVariants as step
use Rattle.b67_layout.specs.Common.{RunsSome, cells}
use Rattle.b67_refer.specs.Own.{FollowsTo}
use Rattle.b67_refer.specs.declared.ends.End.{End}
use Rattle.b67_refer.specs.declared.ends.End.TheVariants as end
use Rattle.b67_exec_cells.proofs.Put.{room}
use Rattle.b67_fetch.specs.Stores.{StoresTo}
use Rattle.b67_fetch.proofs.Chosen.{two_words, chosen_leads}
use Rattle.b67_fetch.proofs.StoreContext.{Context, Places, Stores, context, each, other_stores, holds_element, element_refused, inside, done_stores, fault_no_call, done_no_call}
use Rattle.b67_fetch.proofs.storing.store_to.Goals.{Start, In-Err-element_address, Joined-end, in-Cell, in-Element+in-Ok-element_address}
use Rattle.b67_fetch.proofs.storing.store_to.Goals as goal

its_context : (c : Start) (r : RunsSome c.args.cpu.now) → Context c.args.cpu.now c.args.next r (c.requires.one.reference, c.args.value) c.args.found
its_context c r = let one = c.requires.one in context c.args.cpu.now c.args.next r one.two (one.reference, c.args.value) one.given one.choice one.zero c.args.found one.follows

-- where the word goes
target : (c : Joined-end) → (e : End) × (c.args.found ≡ Ok e) × StoresTo c.args.cpu.now e c.match-end.at
target c = elim c.match-end.branch [
  | in-Cell w ↦ (end.Cell w.in-Cell.at, c.in-Ok.is ∙ ap Ok w.in-Cell.is, sym w.at-is)
  | in-Element+in-Ok-element_address w ↦
      let P : Result ℕ Step → Type 0 = λ z. Places c.args.cpu.now w.in-Element.original w.in-Element.index z in
      (end.Element w.in-Element.original w.in-Element.index, c.in-Ok.is ∙ ap Ok w.in-Element.is, subst P (w.in-Ok-element_address.is ∙ ap Ok (sym w.at-is)) w.element_address.ensures)
]

-- the element's place was refused, or is absent
refused : (c : In-Err-element_address) (r : RunsSome c.args.cpu.now) → Stores c.args.cpu.now c.args.next r c.args.keeps c.in-Err-element_address.step c.args.cpu.now × (c.in-Err-element_address.step ≢ step.Done) × ((n : ℕ) → c.in-Err-element_address.step ≢ step.Call n)
refused c r =
    let P : Result ℕ Step → Type 0 = λ z. Places c.args.cpu.now c.in-Element.original c.in-Element.index z in
    element_refused c.args.cpu.now c.args.next r c.args.keeps _ _ (its_context c.before.before.before.before r) c.in-Element.original c.in-Element.index (c.in-Ok.is ∙ ap Ok c.in-Element.is) c.requires.one.above
    c.in-Err-element_address.step (subst P c.in-Err-element_address.is c.element_address.ensures)

pub returns-in-Err-clause-row : goal.returns-in-Err-clause-row
returns-in-Err-clause-row c = each c.args.cpu.now c.args.next c.args.keeps (step.Fault c.in-Err.fault) c.args.cpu.now (λ r.
    other_stores c.args.cpu.now c.args.next r c.args.keeps _ _ (its_context (goal.at.returns-in-Err-clause-row c).Start r) (Err c.in-Err.fault) _ refl c.in-Err.is)

pub element_address-requires : goal.element_address-requires
element_address-requires c =
    let r = c.requires.runs in
    holds_element c.args.cpu.now c.args.next r c.args.keeps _ _ (its_context (goal.at.element_address-requires c).Start r) c.in-Element.original c.in-Element.index (c.in-Ok.is ∙ ap Ok c.in-Element.is)

pub returns-in-Err-element_address-clause-row : goal.returns-in-Err-element_address-clause-row
returns-in-Err-element_address-clause-row c = each c.args.cpu.now c.args.next c.args.keeps c.in-Err-element_address.step c.args.cpu.now (λ r. (refused (goal.at.returns-in-Err-element_address-clause-row c).In-Err-element_address r).0)

pub returns-in-Err-element_address-clause-stays : goal.returns-in-Err-element_address-clause-stays
returns-in-Err-element_address-clause-stays c = λ e. absurd ((refused (goal.at.returns-in-Err-element_address-clause-stays c).In-Err-element_address c.requires.runs).1 e)

pub returns-in-Err-element_address-clause-comes : goal.returns-in-Err-element_address-clause-comes
returns-in-Err-element_address-clause-comes c = (refused (goal.at.returns-in-Err-element_address-clause-comes c).In-Err-element_address c.requires.runs).2

pub returns-in-Array-clause-row : goal.returns-in-Array-clause-row
returns-in-Array-clause-row c = each c.args.cpu.now c.args.next c.args.keeps (step.Fault MemoryProtect) c.args.cpu.now (λ r.
    (let k = its_context (goal.at.returns-in-Array-clause-row c).Start r in
    elim c.in-Array.is [
      | inl i ↦ other_stores c.args.cpu.now c.args.next r c.args.keeps _ _ k (Ok (end.Array i.0)) _ refl (c.in-Ok.is ∙ ap Ok i.1)
      | inr i ↦ other_stores c.args.cpu.now c.args.next r c.args.keeps _ _ k (Ok (end.Intrinsic i.0)) _ refl (c.in-Ok.is ∙ ap Ok i.1)
    ]))

pub returns-in-Proc-clause-row : goal.returns-in-Proc-clause-row
returns-in-Proc-clause-row c = each c.args.cpu.now c.args.next c.args.keeps (step.Call 255) c.args.cpu.now (λ r.
    other_stores c.args.cpu.now c.args.next r c.args.keeps _ _ (its_context (goal.at.returns-in-Proc-clause-row c).Start r) (Ok (end.Proc c.in-Proc.cell)) _ refl (c.in-Ok.is ∙ ap Ok c.in-Proc.is))

pub put-requires-clause-at : goal.put-requires-clause-at
put-requires-clause-at c =
    let r = c.requires.runs in
    let g = goal.at.put-requires-clause-at c in
    let (e, is, there) = target g.Joined-end in
    inside c.args.cpu.now c.args.next r c.args.keeps _ _ (its_context g.Start r) c.match-end.at e is there

pub put-requires-clause-top : goal.put-requires-clause-top
put-requires-clause-top c = let r = c.requires.runs in let g = room r.storage c.args.cpu.now r.plan r.session r.member r.task r.ordered r.stands r.running in omega (arith, g.last, g.under, g.inside)

pub returns-clause-row : goal.returns-clause-row
returns-clause-row c =
    let g = goal.at.returns-clause-row c in
    let (e, is, there) = target g.Joined-end in
    each c.args.cpu.now c.args.next c.args.keeps step.Done c.put.new.cpu (λ r. done_stores c.args.cpu.now c.args.next r c.args.keeps _ _ (its_context g.Start r) c.match-end.at c.requires.one.above e is there c.put.new.cpu c.put.ensures)

pub returns-in-Err-clause-comes : goal.returns-in-Err-clause-comes
returns-in-Err-clause-comes c = fault_no_call c.in-Err.fault

pub returns-in-Array-clause-comes : goal.returns-in-Array-clause-comes
returns-in-Array-clause-comes c = fault_no_call MemoryProtect

pub returns-in-Proc-clause-comes : goal.returns-in-Proc-clause-comes
returns-in-Proc-clause-comes c = λ u v under over.
    let r = c.requires.runs in
    let one = c.requires.one in
    let old = c.args.cpu.now in
    let L : Tagged → Type 0 = λ w. FollowsTo old.core old.regs old.display w (Ok (end.Proc c.in-Proc.cell)) in
    let leads : L one.reference = subst (λ (z : Result End Fault). FollowsTo old.core old.regs old.display one.reference z) (c.in-Ok.is ∙ ap Ok c.in-Proc.is) one.follows in
    let two = two_words r.storage r.plan r.member r.task old (cells r.task) one.two (one.given r.storage r.plan r.session r.member r.task r.ordered r.stands r.running) in
    chosen_leads one.two (one.reference, c.args.value) one.choice u v (same_Some _ _ (sym two.0 ∙ under)) (same_Some _ _ (sym two.1 ∙ over)) L leads

pub returns-clause-comes : goal.returns-clause-comes
returns-clause-comes c = done_no_call
