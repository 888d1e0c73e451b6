-- STOD and STON where the top cell is followed without a search, and arrays found so.
use Rattle.std.proofs.Common.{◌≡◌, ℕ, ◌+◌, ◌<◌, ◌≤◌, List, Bool, Ok, Err, refl, arith, inr, length}
use Rattle.b67_word.specs.Tagged.{Tagged}
use Rattle.b67_word.specs.declared.couples.Place.{Place}
use Rattle.b67_word.specs.declared.faults.Fault.{Fault}
use Rattle.b67_word.specs.declared.faults.Fault.TheVariants.{InvalidOperand}
use Rattle.b67_ctl.specs.declared.registers.Regs.{Regs}
use Rattle.std.specs.Prelude.{Some, slice_get}
use Rattle.b67_model.specs.Chase as Chase
use Rattle.b67_model.specs.Common.{Answer, Done, Session, Task, SessionJob, cells_of, follow, Word, array_of}
use Rattle.b67_model.specs.Rows as rows
use Rattle.b67_layout.specs.Common.{IsInOrderButCounts, Placement, IsRunning, IsMade, RepresentsSession, RunsSome, ForEach, here, cells}
use Rattle.b67_stack.specs.declared.Cpu.{Cpu}
use Rattle.b67_stack.specs.declared.Step.TheVariants as step
use Rattle.b67_stack.specs.Represents.{Storage}
use Rattle.b67_refer.specs.declared.ends.End.{End}
use Rattle.b67_refer.specs.declared.ends.End.TheVariants as end
use Rattle.b67_refer.specs.Ends.{EndMeets}
use Rattle.b67_refer.specs.Own.{NamesCell, LeadsTo, EndsAt}
use Rattle.b67_refer.specs.RunningContext.{RunningContext, live_of}
use Rattle.b67_refer.proofs.Follows.{follows_none}
use Rattle.b67_refer.proofs.Owns.{named_operand}
use Rattle.b67_exec_cells.specs.Tops.{GivesTwo}
use Rattle.b67_fetch.specs.Fetches.{EntersOrMeets, IsFollowed}
use Rattle.b67_fetch.specs.Indexes.{FindsArray, array_in}
use Rattle.b67_fetch.proofs.Found.{found_end}
use Rattle.b67_fetch.proofs.Values.{here_scene, here_shown, followed_stands, finds_end}
use Rattle.b67_fetch.specs.Stores.{stored, StoresThrough}
use Rattle.b67_fetch.proofs.StoreContext.{Context, context, inside, done_stores}

-- what is done enters no procedure
done_made : (x : Storage) (plan : Placement) (s : Session) (m : SessionJob) (old new : Cpu) (enters : Bool) (answer : Answer Done) → EntersOrMeets x plan s m step.Done old new enters answer → IsMade x plan s m old new answer
done_made x plan s m old new enters answer i = grind arith

-- a store through a couple of an operand's cell goes to this cell
pub operand_through : (cpu : Cpu) (w : Tagged) (at : ℕ) → w.tag ≡ 1 → NamesCell cpu.core cpu.regs cpu.display w at → (v : Tagged) → slice_get cpu.core at ≡ Some v → v.tag ≡ 0 → StoresThrough cpu w at
operand_through cpu w at one names v there zero = record { other = λ z. omega (arith, z, one); end = end.Cell at; leads = named_operand cpu.core cpu.regs cpu.display w at names v there zero; there = refl }

-- so does one through a stuffed reference
both_ends : (core : List Tagged) (r : Regs) (a : RunningContext core r) (q : Place) (fault : Fault) (e : End) (y : Answer Chase.End) → EndMeets a q (Err fault) y → EndMeets a q (Ok e) y → ⊥
both_ends core r a q fault e y m n = grind arith

pub stuffed_through : (x : Storage) (cpu : Cpu) (plan : Placement) (s : Session) (m : SessionJob) (t : Task) (o : IsInOrderButCounts s) (h : RepresentsSession x cpu plan s) (runs : IsRunning plan s.jobs m t) (w : Tagged) (v : Word) → IsFollowed x plan m t w v
    → (at : ℕ) → EndsAt cpu.core cpu.regs w (end.Cell at) → StoresThrough cpu w at
stuffed_through x cpu plan s m t o h runs w v i at ends = record {
  other = λ zero.
      (let a = here_scene x cpu plan s m t o h runs in
      let stands = followed_stands x cpu plan s m t o h runs w v i in
      both_ends cpu.core cpu.regs a a.task.place InvalidOperand (end.Cell at) (follow (here a.member a.task a.task.place) v)
      (follows_none cpu.core cpu.regs (live_of a) a.task.place i.at i.owner w v stands (λ one. omega (arith, zero, one)) (λ five. omega (arith, zero, five)))
      (ends a a.task.place i.at i.owner v stands));
  end = end.Cell at;
  leads = λ a q shown. ends a q;
  there = refl;
}

-- what is made by the row, of whichever session the machine represents
abbrev pub MadeSo : (old : Cpu) (q : Place) (keeps : Bool) (new : Cpu) → Type 0
MadeSo old q keeps new = ForEach old (λ x plan s m t. let h = here m t q in IsMade x plan s m old new (rows.store keeps h (cells_of h)))

module _ (old : Cpu) (q : Place) (keeps : Bool) (lower upper : Tagged) (found : ForEach old (λ x plan s m t. GivesTwo x plan m t old (cells t) (Ok (lower, upper)))) (zero : lower.tag ≡ 0) (at : ℕ) (through : StoresThrough old upper at) where
  its_context : (r : RunsSome old) → Context old q r (upper, lower) (Ok through.end)
  its_context r = context old q r (lower, upper) (upper, lower) found (inr (through.other, refl)) zero (Ok through.end) through.leads

  pub own_inside : RunsSome old → at < length old.core
  own_inside r = inside old q r keeps (upper, lower) (Ok through.end) (its_context r) at through.end refl through.there

  pub own_stored : old.regs.f + 2 ≤ old.regs.s → (new : Cpu) → new ≡ stored old at lower keeps q → MadeSo old q keeps new
  own_stored above new is x plan s m t o h runs =
      let r : RunsSome old = record { storage = x; plan = plan; session = s; member = m; task = t; ordered = o; stands = h; running = runs } in
      done_made x plan s m old new _ _ (done_stores old q r keeps (upper, lower) (Ok through.end) (its_context r) at above through.end refl through.there new is)

-- a couple of an original leads to its array
pub at_array : (e : End) (original : ℕ) → array_in e ≡ Ok original → e ≡ end.Array original
at_array e original is = grind arith

pub own_finds_array : (x : Storage) (cpu : Cpu) (plan : Placement) (s : Session) (m : SessionJob) (t : Task) (o : IsInOrderButCounts s) (h : RepresentsSession x cpu plan s) (runs : IsRunning plan s.jobs m t) (q : Place) (w : Tagged) (original : ℕ)
    → LeadsTo cpu.core cpu.regs cpu.display w (end.Array original) → w.tag ≡ 1 → (v : Word) → IsFollowed x plan m t w v → FindsArray plan m (Ok original) (array_of (here m t q) v)
own_finds_array x cpu plan s m t o h runs q w original leads one v i =
    let a = here_scene x cpu plan s m t o h runs in
    let e = leads a q (here_shown x cpu plan s m t o h runs) i.at i.owner v (followed_stands x cpu plan s m t o h runs w v i) in
    found_end x plan m t q cpu.core w v (end.Array original) i (λ z. omega (arith, z, one)) (finds_end x cpu plan s m t o h runs q (Ok (end.Array original)) (follow (here m t q) v) e)
