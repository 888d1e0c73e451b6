-- A number stored into an element, and the operands off the stack: what STOD and STON make at an element.
use Rattle.std.proofs.Common.{◌≡◌, ℕ, ◌+◌, ◌-◌, ◌<◌, ◌≤◌, List, [], ◌∷◌, length, Some, Ok, refl, sym, ◌∙◌, ap, arith, true, ⊎_elim, inl, inr, ◌⊎◌, subst, slice_set}
use Rattle.std.specs.Prelude.{unwrap_or}
use Rattle.std.specs.List.{slice_get}
use Rattle.std.proofs.lemmas.Bool.{cases_eq}
use Rattle.b67_core.proofs.Writes.{slice_get-set_other}
use Rattle.b67_word.specs.Tagged.{word}
use Rattle.b67_word.specs.declared.couples.Place.{Place}
use Rattle.b67_model.specs.Keyed.{keyed}
use Rattle.b67_model.specs.Common.{Word, Operand, Array, Task, Job, SessionJob, with_task, array, no_array, with_element, with_number, Session, Goes, with_cells}
use Rattle.b67_layout.specs.Common.{IsInOrderButCounts, Placement, IsRunning, RepresentsSession, RepresentsSessionBut, here, with_job, IsMade, cells}
use Rattle.b67_stack.specs.declared.Cpu.{Cpu}
use Rattle.b67_stack.specs.MachineView.{PagedObject}
use Rattle.b67_stack.specs.Represents.{Storage}
use Rattle.b67_layout.proofs.Common.{fresh, no_objects_gone, with_course, IsFree, task_with, course_twice}
use Rattle.b67_exec_cells.specs.Tops.{NoOriginals}
use Rattle.b67_exec_cells.proofs.Put.{room, registers}
use Rattle.b67_layout_step.proofs.Arrays.{number_renumbers}
use Rattle.b67_layout_step.proofs.Objects.{identities_kept}
use Rattle.b67_layout_step.proofs.Machine.{RepresentsSession-element, still_runs}
use Rattle.b67_fetch.proofs.Finishes.{finish_drop, finish_keep}

module _ (x : Storage) (old : Cpu) (plan : Placement) (s : Session) (m : SessionJob) (t : Task) (o : IsInOrderButCounts s) (h : RepresentsSession x old plan s) (runs : IsRunning plan s.jobs m t) (q : Place)
    (a : Array) (found : keyed (λ (z : Array). z.identity) a.identity m.progress.job.arrays ≡ Some a) (writable : a.writable ≡ true) (i bits b : ℕ) (low : i < length a.numbers) (held : (x.held (plan.home m.constants.number a.identity)).area ≡ Some b) where
  abbrev job1 : Job
  job1 = with_element m.progress.job a.identity i bits

  abbrev m1 : SessionJob
  m1 = record m { progress = record m.progress { job = with_element m.progress.job a.identity i bits } }

  abbrev s1 : Session
  s1 = record s { jobs = with_course s.jobs m.constants.number (record m.progress { job = with_element m.progress.job a.identity i bits }) }

  abbrev mid : Cpu
  mid = record old { core = slice_set old.core (b + i) (word 0 bits) }

  stands1 : RepresentsSession x (record old { core = slice_set old.core (b + i) (word 0 bits) }) plan s1
  stands1 = RepresentsSession-element x old plan s m t o h runs a found writable i bits b low held

  runs1 : IsRunning plan s1.jobs m1 t
  runs1 = still_runs x old plan s m t o h runs a found writable i bits b low held

  free1 : IsFree (with_element m.progress.job a.identity i bits) m.progress.job.next_frame
  free1 = let f0 = fresh plan s m t o runs in record { some = f0.some; uncritical = f0.uncritical }

  -- the job that the row makes
  abbrev pub made : List Word → Job
  made kept = with_task (with_element m.progress.job a.identity i bits) (with_cells (here m t q) kept)

  finish : (new : Cpu) (kept : List Word) → RepresentsSession x new plan (record s1 { jobs = with_course s1.jobs m.constants.number (record m1.progress { job = with_task job1 (task_with t kept q) }) })
      → ((k : ℕ) → (slice_get new.core k ≡ slice_get old.core k) ⊎ (((old.regs.bosr < k) × (k ≤ old.regs.losr)) ⊎ (k ≡ b + i))) → IsMade x plan s m old new (Ok (Goes (made kept) [] (Some a.identity)))
  finish new kept stands changed =
      let J1 = with_task job1 (task_with t kept q) in
      let S : List SessionJob → Session = λ jobs. record s { jobs = jobs } in
      let P : List SessionJob → Type 0 = λ jobs. RepresentsSession x new plan (S jobs) in
      let whole : RepresentsSession x new plan (with_job s m (made kept)) = subst P (course_twice s.jobs m.constants.number (record m.progress { job = job1 }) (record m.progress { job = J1 })) stands in
      let L : List PagedObject → Type 0 = λ left. RepresentsSessionBut left x new plan (with_job s m (made kept)) in
      let same : array m.progress.job a.identity ≡ a = ap (λ q. unwrap_or q no_array) found in
      let long = ap (λ (z : Array). length z.numbers) same in
      record {
        job = made kept;
        touched = Some a.identity;
        is = refl;
        present = (b, held);
        stands = subst L (sym (no_objects_gone plan m (made kept) (identities_kept a.identity (with_number i bits) (number_renumbers i bits) m.progress.job.arrays))) whole;
        changed = λ k. ⊎_elim inl (λ c. inr (⊎_elim inl (λ e. inr (inr (b, held, omega (arith, e), omega (arith, e, low, long)))) c)) (changed k);
      }

  -- STOD
  pub dropped : (u w : Word) (rest : List Word) → cells t ≡ u ∷ w ∷ rest → NoOriginals (u ∷ w ∷ [])
      → IsMade x plan s m old (record old { core = slice_set old.core (b + i) (word 0 bits); regs = record old.regs { s = old.regs.s - 2; place = q } }) (Ok (Goes (made rest) [] (Some a.identity)))
  dropped u w rest e plain =
      let stands = finish_drop x mid plan s1 m1 t stands1 runs1 m.progress.job.next_frame free1 q (u ∷ w ∷ []) rest e plain in
      finish (record old { core = slice_set old.core (b + i) (word 0 bits); regs = record old.regs { s = old.regs.s - 2; place = q } }) rest stands
      (λ k. ⊎_elim (λ (z : k ≡ b + i). inr (inr z)) (λ (z : k ≡ b + i → ⊥). inl (slice_get-set_other old.core (b + i) k (word 0 bits) z)) (cases_eq k (b + i)))

  -- STON
  pub kept : (u w : Word) (rest : List Word) → cells t ≡ u ∷ w ∷ rest → NoOriginals (u ∷ w ∷ []) → old.regs.f + 2 ≤ old.regs.s
      → IsMade x plan s m old (record old { core = slice_set (slice_set old.core (b + i) (word 0 bits)) (old.regs.s - 1) (word 0 bits); regs = record old.regs { s = old.regs.s - 1; place = q } }) (Ok (Goes (made (Operand bits ∷ rest)) [] (Some a.identity)))
  kept u w rest e plain enough =
      let g = room x old plan s m t o h runs in
      let first = (registers x old plan s m t o h runs).first in
      let stands = finish_keep x mid plan s1 m1 t stands1 runs1 m.progress.job.next_frame free1 q (u ∷ w ∷ []) rest bits (old.regs.s - 1) e plain
      (omega (arith, enough)) (omega (arith, g.last)) (omega (arith, enough, g.mark, first)) in
      let N : Cpu = record old { core = slice_set (slice_set old.core (b + i) (word 0 bits)) (old.regs.s - 1) (word 0 bits); regs = record old.regs { s = old.regs.s - 1; place = q } } in
      finish N (Operand bits ∷ rest) stands
      (λ k. ⊎_elim (λ (z : k ≡ old.regs.s - 1). inr (inl (omega (arith, z, enough, g.mark), omega (arith, z, g.last))))
      (λ (z : k ≡ old.regs.s - 1 → ⊥). ⊎_elim (λ (y : k ≡ b + i). inr (inr y)) (λ (y : k ≡ b + i → ⊥). inl (slice_get-set_other (slice_set old.core (b + i) (word 0 bits)) (old.regs.s - 1) k (word 0 bits) z ∙ slice_get-set_other old.core (b + i) k (word 0 bits) y)) (cases_eq k (b + i)))
      (cases_eq k (old.regs.s - 1)))
