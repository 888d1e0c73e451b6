-- The core that a step needs, where its code or the array that it touches is wanted.
use Rattle.std.proofs.Common.{◌≡◌, ◌≢◌, ℕ, ◌+◌, ◌*◌, ◌<◌, ◌≤◌, List, length, Option, Some, None, unwrap_or, refl, sym, ◌∙◌, ap, arith, subst}
use Rattle.std.specs.Prelude.{max}
use Rattle.b67_area.proofs.Laws.{area_inside}
use Rattle.b67_model.specs.Keyed.{keyed}
use Rattle.b67_model.specs.Common.{Array, Task, Job, SessionJob, no_array, array, fixed, touched_of, started_by, need, code_of, step, live_tasks, Session, ArrayInOrder}
use Rattle.b67_layout.specs.Common.{IsInOrderButCounts, Placement, IsRunning}
use Rattle.b67_stack.specs.declared.What.{What}
use Rattle.b67_stack.specs.declared.What.TheVariants as what
use Rattle.b67_stack.specs.Represents.{Storage, info_of}
use Rattle.b67_layout.proofs.Fresh.{running_in_order}
use Rattle.b67_exec_cells.specs.Running.{code_area}
use Rattle.b67_exec_cells.proofs.Codes.{area-inside}
use Rattle.b67_task.specs.Needing.{array_area, need_with}
use Rattle.b67_task.proofs.Needs.{need_above_low}
use Rattle.b67_task.specs.declared.tables.Machine.{Machine}
use Rattle.b67_task.specs.Tables.{MachineRepresents}
use Rattle.b67_presence.specs.Bringing.{IsWanted}
use Rattle.b67_presence.proofs.Wants.{array_area-some}
use Rattle.b67_session.specs.Tries.{IsWantedByStep}
use Rattle.b67_session.proofs.Started.{none_started}
use Rattle.b67_lemmas.specs.Lists.{Has}
use Rattle.b67_lemmas.proofs.Members.{all_in, keyed_falls}

module _ (core : ℕ) (s : Session) (m : SessionJob) (t : Task) (low : live_tasks s.jobs ≤ s.peak) where
  abbrev base : ℕ
  base = fixed s.jobs + s.peak * m.constants.stack_size + (length (code_of m.constants t.segment) + 2)

  peak_is : max s.peak (live_tasks s.jobs + 0) ≡ s.peak
  peak_is = omega (arith, low)

  base_is : base ≡ need_with s m t 0 0
  base_is = rw peak_is (omega arith)

  -- the code isn't there
  pub need_code : core < need_with s m t 0 0 → need core s m t ≡ need_with s m t 0 0
  need_code above = grind arith

  -- the code is there, and an array is touched
  pub need_array : (a : ℕ) → need_with s m t 0 0 ≤ core → started_by m.progress.job (step m.constants m.progress.job t) ≡ 0 → touched_of m.constants m.progress.job t (step m.constants m.progress.job t) ≡ Some a
      → need core s m t ≡ need_with s m t 0 0 + (length (array m.progress.job a).numbers + 2)
  need_array a room none touched = grind arith

  -- core has room for the code where it has for the step
  pub code_of_step : need core s m t ≤ core → need_with s m t 0 0 ≤ core
  code_of_step fits = grind arith

-- an array of a job, by its identity
array_is : (job : Job) (a : Array) → keyed (λ (z : Array). z.identity) a.identity job.arrays ≡ Some a → array job a.identity ≡ a
array_is job a e = ap (λ (o : Option Array). unwrap_or o no_array) e

-- arrays of a job with one identity are as long
pub same_array : (plan : Placement) (s : Session) (m : SessionJob) (t : Task) → IsInOrderButCounts s → IsRunning plan s.jobs m t → (a b : Array) → Has m.progress.job.arrays a → Has m.progress.job.arrays b → a.identity ≡ b.identity → length a.numbers ≡ length b.numbers
same_array plan s m t o runs a b there here same =
    let order = (running_in_order plan s m t o runs).0.tasks in
    grind (arith, keyed_falls)

module _ (x : Storage) (told : Option (List (List ℕ))) (k : Machine) (plan : Placement) (s : Session) (m : SessionJob) (t : Task) (o : IsInOrderButCounts s) (h : MachineRepresents x told k plan s) (runs : IsRunning plan s.jobs m t) where
  -- the running segment's area lies in core, behind the stacks
  code_fits : (area : Option ℕ) → code_area x plan m t ≡ area → area ≢ None → need_with s m t 0 0 ≤ length k.cpu.core
  code_fits None is some = absurd (some refl)
  code_fits (Some at) is some =
      let owned = h.session.holds.memory.owned.of_held (plan.dictionary m.constants.number + 1 + t.segment) at is in
      let low = (area_inside k.cpu.core x.low x.spans at (info_of x owned.0) h.session.holds.memory.directory owned.3).0 in
      let high = area-inside x k.cpu plan s m t o h.session runs at is in
      let need_is = need_above_low x told k plan s m t o h runs 0 in
      grind arith

  -- the need of a step whose segment is there, and whose array is wanted
  array_need : (home words : ℕ) → IsWanted x plan m t (what.Array home) words → IsWantedByStep plan m t (what.Array home) words → need (length k.cpu.core) s m t ≡ need_with s m t 0 words
  array_need home words wanted touched =
      let (a, among, home_is, is, count) = touched in
      let order = (running_in_order plan s m t o runs).0.tasks in
      let some = (all_in ArrayInOrder m.progress.job.arrays a order.arrays among).length_low in
      let found = keyed_falls (λ (z : Array). z.identity) m.progress.job.next_array m.progress.job.arrays a order.names among in
      let room = code_fits (code_area x plan m t) refl wanted.code in
      let n : length (array m.progress.job a.identity).numbers ≡ words = ap (λ (z : Array). length z.numbers) (array_is m.progress.job a found) ∙ sym count in
      let area : array_area words ≡ words + 2 = array_area-some words (omega (arith, some, count)) in
      let zero_area : array_area 0 ≡ 0 = refl in
      need_array (length k.cpu.core) s m t o.peak_low a.identity room (none_started plan s.jobs m t a.identity runs is) is
      ∙ (let z : need_with s m t 0 0 + (length (array m.progress.job a.identity).numbers + 2) ≡ need_with s m t 0 words = omega (arith, n, area, zero_area) in z)

  -- what is wanted has the number of the step's need
  pub need_of : (found : What) (words : ℕ) → IsWanted x plan m t found words → IsWantedByStep plan m t found words → length k.cpu.core < need_with s m t 0 words → need (length k.cpu.core) s m t ≡ need_with s m t 0 words
  need_of found words wanted touched above = grind (arith, array_need)

  -- core has room for the step where it has for the array that is wanted
  pub need_fits : (home words : ℕ) → IsWanted x plan m t (what.Array home) words → IsWantedByStep plan m t (what.Array home) words → need_with s m t 0 words ≤ length k.cpu.core → need (length k.cpu.core) s m t ≤ length k.cpu.core
  need_fits home words wanted touched low = let is = array_need home words wanted touched in let N : ℕ → Type 0 = λ n. n ≤ length k.cpu.core in subst N (sym is) low
