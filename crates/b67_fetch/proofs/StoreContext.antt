-- STOD and STON: which of the two words is stored, and where the other one leads.
use Rattle.std.proofs.Common.{◌≡◌, ◌≢◌, ℕ, ◌+◌, ◌<◌, ◌≤◌, ◌∷◌, Bool, Result, Ok, Err, length, sym, refl, arith, subst}
use Rattle.std.specs.Prelude.{if◌then◌else◌}
use Rattle.b67_word.specs.Tagged.{Tagged, word}
use Rattle.b67_word.specs.declared.couples.Place.{Place}
use Rattle.b67_word.specs.declared.faults.Fault.{Fault}
use Rattle.b67_model.specs.Common.{Answer, ◌>>=◌, in_order, follow, Operand, SessionJob, store_at, cells_of}
use Rattle.b67_model.specs.Chase as Chase
use Rattle.b67_model.specs.Rows as rows
use Rattle.b67_layout.specs.Common.{Placement, RunsSome, ForEach, here, cells}
use Rattle.b67_stack.specs.declared.Cpu.{Cpu}
use Rattle.b67_stack.specs.declared.Step.{Step}
use Rattle.b67_stack.specs.declared.Step.TheVariants as step
use Rattle.b67_stack.specs.Represents.{Storage}
use Rattle.b67_refer.specs.RunningContext.{RunningContext}
use Rattle.b67_refer.specs.Ends.{EndMeets}
use Rattle.b67_refer.specs.Own.{FollowsTo}
use Rattle.b67_refer.specs.declared.ends.End.{End}
use Rattle.b67_refer.specs.declared.ends.End.TheVariants as end
use Rattle.b67_exec_cells.specs.Tops.{GivesTwo}
use Rattle.b67_exec_cells.specs.Elements.{HasElement, HoldsElement}
use Rattle.b67_fetch.specs.Fetches.{enters_at, EntersOrMeets}
use Rattle.b67_fetch.specs.Stores.{Choice, ElementAt, StoresTo, store_end, stored}
use Rattle.b67_fetch.proofs.Values.{here_scene, here_shown, followed_stands}
use Rattle.b67_fetch.proofs.Words.{Given, given, is_operand, followed}
use Rattle.b67_fetch.proofs.Stores.{followed_end, Unstored, at_other, cell_inside, element_inside, holds, cell_done, element_done, element_not}

-- what was answered for an element's place
abbrev pub Places : Cpu → (original index : ℕ) → Result ℕ Step → Type 0
Places old original index result = ForEach old (λ x plan s m t. (n : ℕ) → original ≡ plan.home m.constants.number n → HasElement m.progress.job n index → ElementAt x plan m n original index result)

-- neither a fault nor the end of a step is a call
pub fault_no_call : (fault : Fault) (n : ℕ) → step.Fault fault ≢ step.Call n
fault_no_call fault n e = cc

pub done_no_call : (n : ℕ) → step.Done ≢ step.Call n
done_no_call n e = cc

not_done : (x : Storage) (plan : Placement) (m : SessionJob) (n original index : ℕ) (answered : Step) → ElementAt x plan m n original index (Err answered) → (answered ≢ step.Done) × ((n : ℕ) → answered ≢ step.Call n)
not_done x plan m n original index answered e = grind arith

-- of whichever session the machine represents
module _ (old : Cpu) (q : Place) (r : RunsSome old) where
  abbrev scene : RunningContext old.core old.regs
  scene = here_scene r.storage old r.plan r.session r.member r.task r.ordered r.stands r.running

  pub record Context (p : Tagged × Tagged) (found : Result End Fault) : Type 0 where
    pub cells : Given r.storage r.plan r.member r.task old p
    pub bits : ℕ
    pub operand : (in_order cells.first cells.second).1 ≡ Operand bits
    pub word_is : p.1 ≡ word 0 bits
    pub leads : EndMeets scene q found (follow (here r.member r.task q) (in_order cells.first cells.second).0)

  pub context : (two p : Tagged × Tagged) → ForEach old (λ x plan s m t. GivesTwo x plan m t old (cells t) (Ok two)) → Choice two p → p.1.tag ≡ 0 → (found : Result End Fault) → FollowsTo old.core old.regs old.display p.0 found → Context p found
  context two p gives choice zero found follows =
      let g = given r.storage r.plan r.member r.task old two p (gives r.storage r.plan r.session r.member r.task r.ordered r.stands r.running) choice in
      let op = is_operand r.storage r.plan r.member r.task old p g zero in
      let w = (in_order g.first g.second).0 in
      let f = followed r.storage r.plan r.session r.member r.task r.ordered r.running old p g in
      let stands = followed_stands r.storage old r.plan r.session r.member r.task r.ordered r.stands r.running p.0 w f in
      record {
        cells = g;
        bits = op.0;
        operand = op.1;
        word_is = op.2;
        leads = follows scene q (here_shown r.storage old r.plan r.session r.member r.task r.ordered r.stands r.running) f.at f.owner w stands;
      }

  -- the row's clause
  abbrev pub Stores : Bool → Step → Cpu → Type 0
  Stores keeps answered new = let h = here r.member r.task q in EntersOrMeets r.storage r.plan r.session r.member answered old new (enters_at (store_end h (cells_of h))) (rows.store keeps h (cells_of h))

  module _ (keeps : Bool) (p : Tagged × Tagged) (found : Result End Fault) (k : Context p found) where
    abbrev end_found : Answer Chase.End
    end_found = follow (here r.member r.task q) (in_order k.cells.first k.cells.second).0

    ends : (end : Result End Fault) → found ≡ end → EndMeets scene q end end_found
    ends end is = subst (λ (z : Result End Fault). EndMeets scene q z end_found) is k.leads

    -- what is shown where it leads
    abbrev Shown : Step → Cpu → Type 0
    Shown answered new = EntersOrMeets r.storage r.plan r.session r.member answered old new (enters_at end_found)
        (end_found >>= store_at (here r.member r.task q) k.cells.rest (if keeps then Operand k.bits ∷ k.cells.rest else k.cells.rest) k.bits)

    stores : (answered : Step) (new : Cpu) → Shown answered new → Stores keeps answered new
    stores answered new shown = followed_end r.storage old r.plan r.session r.member r.task r.ordered r.stands r.running q keeps p k.cells answered new k.bits k.operand shown

    -- nothing is stored there
    pub other_stores : (end : Result End Fault) (answered : Step) → Unstored end answered → found ≡ end → Stores keeps answered old
    other_stores end answered other is =
        stores answered old (at_other r.storage old r.plan r.session r.member r.task r.ordered r.stands r.running q keeps answered old k.cells.rest k.bits end end_found (ends end is) other refl)

    -- an element
    module _ (original index : ℕ) (is : found ≡ Ok (end.Element original index)) where
      pub holds_element : HoldsElement old original index
      holds_element = holds r.storage old r.plan r.session r.member r.task r.ordered r.stands r.running q keeps original index end_found (ends (Ok (end.Element original index)) is)

      pub element_refused : old.regs.f + 2 ≤ old.regs.s → (answered : Step) → Places old original index (Err answered) → Stores keeps answered old × (answered ≢ step.Done) × ((n : ℕ) → answered ≢ step.Call n)
      element_refused above answered places =
          let leads = ends (Ok (end.Element original index)) is in
          let i = holds_element in
          let made = element_not r.storage old r.plan r.session r.member r.task r.ordered r.stands r.running q keeps k.cells.first k.cells.second k.cells.rest k.cells.is above k.bits k.operand original index answered old refl leads
          (places r.storage r.plan r.session r.member r.task r.ordered r.stands r.running) in
          let no = not_done i.runs.storage i.runs.plan i.runs.member i.number original index answered (places i.runs.storage i.runs.plan i.runs.session i.runs.member i.runs.task i.runs.ordered i.runs.stands i.runs.running i.number i.home i.element) in
          (stores answered old made, no.0, no.1)

    -- the address that a word is stored at
    module _ (at : ℕ) where
      pub inside : (e : End) → found ≡ Ok e → StoresTo old e at → at < length old.core
      inside (end.Cell cell) is there = subst (λ (n : ℕ). n < length old.core) there (cell_inside r.storage old r.plan r.session r.member r.task r.ordered r.stands r.running q keeps cell end_found (ends (Ok (end.Cell cell)) is))
      inside (end.Element original index) is there = element_inside r.storage old r.plan r.session r.member r.task r.ordered r.stands r.running q keeps original index at end_found (ends (Ok (end.Element original index)) is)
          (there r.storage r.plan r.session r.member r.task r.ordered r.stands r.running)
      inside _ is there = absurd there

      shown_at : old.regs.f + 2 ≤ old.regs.s → (e : End) → found ≡ Ok e → StoresTo old e at → Shown step.Done (stored old at (word 0 k.bits) keeps q)
      shown_at above (end.Cell cell) is there = subst (λ (n : ℕ). Shown step.Done (stored old n (word 0 k.bits) keeps q)) there
          (cell_done r.storage old r.plan r.session r.member r.task r.ordered r.stands r.running q keeps k.cells.first k.cells.second k.cells.rest k.cells.is above k.bits k.operand cell (ends (Ok (end.Cell cell)) is))
      shown_at above (end.Element original index) is there = element_done r.storage old r.plan r.session r.member r.task r.ordered r.stands r.running q keeps k.cells.first k.cells.second k.cells.rest k.cells.is above k.bits k.operand original index at (ends (Ok (end.Element original index)) is)
          (there r.storage r.plan r.session r.member r.task r.ordered r.stands r.running)
      shown_at above _ is there = absurd there

      pub done_stores : old.regs.f + 2 ≤ old.regs.s → (e : End) → found ≡ Ok e → StoresTo old e at → (new : Cpu) → new ≡ stored old at p.1 keeps q → Stores keeps step.Done new
      done_stores above e is there new made =
          let N : Cpu → Type 0 = λ z. Stores keeps step.Done z in
          let T : Tagged → Type 0 = λ v. Stores keeps step.Done (stored old at v keeps q) in
          subst N (sym made) (subst T (sym k.word_is) (stores step.Done (stored old at (word 0 k.bits) keeps q) (shown_at above e is there)))

-- for each of them
pub each : (old : Cpu) (q : Place) (keeps : Bool) (answered : Step) (new : Cpu) → ((r : RunsSome old) → Stores old q r keeps answered new)
    → ForEach old (λ x plan s m t. let h = here m t q in EntersOrMeets x plan s m answered old new (enters_at (store_end h (cells_of h))) (rows.store keeps h (cells_of h)))
each old q keeps answered new f x plan s m t o h runs = f (record { storage = x; plan = plan; session = s; member = m; task = t; ordered = o; stands = h; running = runs })
