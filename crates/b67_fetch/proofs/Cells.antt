-- A number stored into a cell, and the operands off the stack: what STOD and STON make at a cell.
use Rattle.std.proofs.Common.{◌≡◌, ℕ, ◌+◌, ◌-◌, ◌<◌, ◌≤◌, List, [], ◌∷◌, ◌++◌, length, None, Ok, refl, sym, ◌∙◌, ap, arith, Bool, true, false, ◌==◌, ⊎_elim, inl, inr, ◌⊎◌, subst, slice_set}
use Rattle.std.specs.Prelude.{if◌then◌else◌}
use Rattle.std.specs.List.{slice_get}
use Rattle.std.proofs.lemmas.Bool.{cases_eq}
use Rattle.b67_core.proofs.Writes.{slice_get-set_other}
use Rattle.b67_word.specs.Tagged.{word}
use Rattle.b67_word.specs.declared.couples.Place.{Place}
use Rattle.b67_model.specs.Common.{Word, Operand, Frame, Standing, Task, Job, SessionJob, top, with_top_cells, with_task, head_words, with_cell, is_original, Session, Goes, with_cells, IsEntered}
use Rattle.b67_layout.specs.Common.{IsInOrderButCounts, Placement, IsRunning, RepresentsSession, RepresentsSessionBut, here, with_job, IsMade, IsLiveCell, cells}
use Rattle.b67_stack.specs.declared.Cpu.{Cpu}
use Rattle.b67_stack.specs.MachineView.{PagedObject}
use Rattle.b67_stack.specs.Represents.{Storage}
use Rattle.b67_layout.proofs.Common.{fresh, no_objects_gone, with_course, IsFree, task_with, course_twice}
use Rattle.b67_refer.specs.RunningContext.{RunningContext}
use Rattle.b67_refer.specs.Cells.{IsCellAt}
use Rattle.b67_refer.proofs.Scenes as Scenes
use Rattle.b67_exec_cells.specs.Tops.{NoOriginals}
use Rattle.b67_exec_cells.proofs.Put.{room, registers}
use Rattle.b67_layout_step.proofs.Puts.{put}
use Rattle.b67_layout_step.proofs.Frames.{put_frames, put_job, with_cell_is, frame_found}
use Rattle.b67_layout_step.proofs.Mapped.{put_task}
use Rattle.b67_layout_step.proofs.Stored as Stored
use Rattle.b67_layout_step.proofs.Stored.{RepresentsSession-store, still_runs}
use Rattle.b67_fetch.proofs.Finishes.{finish_drop, finish_keep}
use Rattle.b67_lemmas.proofs.Members.{has_map_back, keyed_has}
use Rattle.b67_lemmas.proofs.Keyed.{change_map}

entered_head : (standing : Standing) → IsEntered standing → head_words standing ≡ 2
entered_head standing e = grind arith

-- the top frame's cells, where the word may be stored in one of them
abbrev stored : Bool → ℕ → Word → List Word → List Word
stored b i w cs = if b then put i w cs else cs

abbrev is_top : ℕ → List Frame → Bool
is_top id fs = (top fs).identity == id

put_with : (id i : ℕ) (w : Word) (fs : List Frame) (cs : List Word) → put_frames id i w (with_top_cells fs cs) ≡ with_top_cells (put_frames id i w fs) (stored (is_top id fs) i w cs)
put_with id h e fs cs = grind arith

put_top : (id i : ℕ) (w : Word) (fs : List Frame) → (top (put_frames id i w fs)).cells ≡ stored (is_top id fs) i w (top fs).cells
put_top id h e fs = grind arith

-- two cells on top, of which none is an original
record Two (b : Bool) (i : ℕ) (w x y : Word) (rest : List Word) : Type 0 where
  pub first : Word
  pub second : Word
  pub is : stored b i w (x ∷ y ∷ rest) ≡ first ∷ second ∷ stored b i w rest
  pub plain : NoOriginals (first ∷ second ∷ [])

choice_plain : (b : Bool) (v x : Word) → is_original v ≡ false → is_original x ≡ false → is_original (if b then v else x) ≡ false
choice_plain b v x ev ex = grind arith

two : (b : Bool) (i bits : ℕ) (x y : Word) (rest : List Word) → NoOriginals (x ∷ y ∷ []) → Two b i (Operand bits) x y rest
two true i bits x y rest plain = record {
  first = if i == length (y ∷ rest) then Operand bits else x;
  second = if i == length rest then Operand bits else y;
  is = refl;
  plain = (choice_plain (i == length (y ∷ rest)) (Operand bits) x refl plain.0, (choice_plain (i == length rest) (Operand bits) y refl plain.1.0, tt));
}
two false i bits x y rest plain = record { first = x; second = y; is = refl; plain = plain }

kept_value : (b : Bool) (i : ℕ) (w : Word) (rest : List Word) → stored b i w (w ∷ rest) ≡ w ∷ stored b i w rest
kept_value b h e rest = grind arith

module _ (x : Storage) (old : Cpu) (plan : Placement) (s : Session) (m : SessionJob) (t : Task) (o : IsInOrderButCounts s) (h : RepresentsSession x old plan s) (runs : IsRunning plan s.jobs m t) (q : Place)
    (at f offset old_bits bits : ℕ) (cell : IsCellAt (Scenes.scene [] x old.core old.regs old.critical plan s m t o h.holds runs) q at f offset (Operand old_bits)) where
  abbrev scene : RunningContext old.core old.regs
  scene = Scenes.scene [] x old.core old.regs old.critical plan s m t o h.holds runs

  abbrev i : ℕ
  i = offset - 2

  abbrev w : Word
  w = Operand bits

  abbrev job1 : Job
  job1 = put_job m.progress.job f (offset - 2) (Operand bits)

  abbrev m1 : SessionJob
  m1 = record m { progress = record m.progress { job = put_job m.progress.job f (offset - 2) (Operand bits) } }

  abbrev s1 : Session
  s1 = record s { jobs = with_course s.jobs m.constants.number (record m.progress { job = put_job m.progress.job f (offset - 2) (Operand bits) }) }

  abbrev t1 : Task
  t1 = put_task f (offset - 2) (Operand bits) t

  abbrev mid : Cpu
  mid = record old { core = slice_set old.core at (word 0 bits) }

  stands1 : RepresentsSession x (record old { core = slice_set old.core at (word 0 bits) }) plan s1
  stands1 = RepresentsSession-store x old plan s m t o h runs q at f offset old_bits bits cell

  runs1 : IsRunning plan s1.jobs m1 t1
  runs1 = still_runs x old plan s m t o h runs q at f offset old_bits bits cell

  free1 : IsFree (put_job m.progress.job f (offset - 2) (Operand bits)) m.progress.job.next_frame
  free1 =
      let f0 = fresh plan s m t o runs in
      record { some = f0.some; uncritical = λ u in_u e. (let b = has_map_back (put_task f (offset - 2) (Operand bits)) m.progress.job.tasks u in_u in f0.uncritical b.item b.among (ap (λ (z : Task). z.critical) b.is ∙ e)) }

  -- the job that the row makes
  abbrev pub made : List Word → Job
  made kept = with_cell (with_task m.progress.job (with_cells (here m t q) kept)) f offset (Operand bits)

  job_is : (kept : List Word) → with_task job1 (task_with t1 (stored (is_top f t.frames) (offset - 2) (Operand bits) kept) q) ≡ made kept
  job_is kept =
      let T : Task = task_with t kept q in
      let J : List Task → Job = λ ts. record m.progress.job { tasks = ts } in
      let same : put_task f (offset - 2) (Operand bits) T ≡ task_with t1 (stored (is_top f t.frames) (offset - 2) (Operand bits) kept) q =
      ap (λ fs. let z : Task = record t { frames = fs; place = q } in z) (put_with f (offset - 2) (Operand bits) t.frames kept) in
      ap J (change_map (λ (v : Task). v.number) (put_task f (offset - 2) (Operand bits)) t.number T (task_with t1 (stored (is_top f t.frames) (offset - 2) (Operand bits) kept) q) m.progress.job.tasks (λ v. refl) same)
      ∙ sym (with_cell_is (with_task m.progress.job (with_cells (here m t q) kept)) f offset (Operand bits))

  -- the cell is that of a live frame, which is entered
  live_cell : IsLiveCell plan m at
  live_cell =
      let u = Stored.own_of old.core old.regs scene q at f offset old_bits cell in
      let g = Stored.found_in f u.task.frames u.has in
      let b = Stored.bounds old.core old.regs scene q at f offset old_bits cell in
      let own_spot = Stored.own_address old.core old.regs scene q at f offset old_bits cell in
      record {
        task = u.task;
        there = (keyed_has (λ (v : Task). v.number) u.task.number m.progress.job.tasks u.task u.there).0;
        frame = frame_found f u.task.frames;
        among = g.0;
        index = offset - 2;
        inside = omega (arith, b.0, b.1);
        at = omega (arith, own_spot, b.0, entered_head (frame_found f u.task.frames).standing (Stored.found_entered old.core old.regs scene q at f offset old_bits cell));
      }

  finish : (new : Cpu) (kept : List Word) → RepresentsSession x new plan (record s1 { jobs = with_course s1.jobs m.constants.number (record m1.progress { job = with_task job1 (task_with t1 (stored (is_top f t.frames) (offset - 2) (Operand bits) kept) q) }) })
      → ((k : ℕ) → (slice_get new.core k ≡ slice_get old.core k) ⊎ (((old.regs.bosr < k) × (k ≤ old.regs.losr)) ⊎ (k ≡ at))) → IsMade x plan s m old new (Ok (Goes (made kept) [] None))
  finish new kept stands changed =
      let J1 = with_task job1 (task_with t1 (stored (is_top f t.frames) (offset - 2) (Operand bits) kept) q) in
      let S : List SessionJob → Session = λ jobs. record s { jobs = jobs } in
      let P : List SessionJob → Type 0 = λ jobs. RepresentsSession x new plan (S jobs) in
      let Q : Job → Type 0 = λ job. RepresentsSession x new plan (with_job s m job) in
      let whole = subst Q (job_is kept) (subst P (course_twice s.jobs m.constants.number (record m.progress { job = job1 }) (record m.progress { job = J1 })) stands) in
      let L : List PagedObject → Type 0 = λ left. RepresentsSessionBut left x new plan (with_job s m (made kept)) in
      record {
        job = made kept;
        touched = None;
        is = refl;
        present = tt;
        stands = subst L (sym (no_objects_gone plan m (made kept) refl)) whole;
        changed = λ k. ⊎_elim inl (λ c. inr (⊎_elim inl (λ e. inr (inl (subst (IsLiveCell plan m) (sym e) live_cell))) c)) (changed k);
      }

  -- STOD
  pub dropped : (b a : Word) (rest : List Word) → cells t ≡ b ∷ a ∷ rest → NoOriginals (b ∷ a ∷ [])
      → IsMade x plan s m old (record old { core = slice_set old.core at (word 0 bits); regs = record old.regs { s = old.regs.s - 2; place = q } }) (Ok (Goes (made rest) [] None))
  dropped b a rest e plain =
      let d = two (is_top f t.frames) (offset - 2) bits b a rest plain in
      let is : cells t1 ≡ (d.first ∷ d.second ∷ []) ++ stored (is_top f t.frames) (offset - 2) (Operand bits) rest = put_top f (offset - 2) (Operand bits) t.frames ∙ ap (stored (is_top f t.frames) (offset - 2) (Operand bits)) e ∙ d.is in
      let stands = finish_drop x mid plan s1 m1 t1 stands1 runs1 m.progress.job.next_frame free1 q (d.first ∷ d.second ∷ []) (stored (is_top f t.frames) (offset - 2) (Operand bits) rest) is d.plain in
      finish (record old { core = slice_set old.core at (word 0 bits); regs = record old.regs { s = old.regs.s - 2; place = q } }) rest stands
      (λ k. ⊎_elim (λ (z : k ≡ at). inr (inr z)) (λ (z : k ≡ at → ⊥). inl (slice_get-set_other old.core at k (word 0 bits) z)) (cases_eq k at))

  -- STON
  pub kept : (b a : Word) (rest : List Word) → cells t ≡ b ∷ a ∷ rest → NoOriginals (b ∷ a ∷ []) → old.regs.f + 2 ≤ old.regs.s
      → IsMade x plan s m old (record old { core = slice_set (slice_set old.core at (word 0 bits)) (old.regs.s - 1) (word 0 bits); regs = record old.regs { s = old.regs.s - 1; place = q } }) (Ok (Goes (made (Operand bits ∷ rest)) [] None))
  kept b a rest e plain enough =
      let d = two (is_top f t.frames) (offset - 2) bits b a rest plain in
      let is : cells t1 ≡ (d.first ∷ d.second ∷ []) ++ stored (is_top f t.frames) (offset - 2) (Operand bits) rest = put_top f (offset - 2) (Operand bits) t.frames ∙ ap (stored (is_top f t.frames) (offset - 2) (Operand bits)) e ∙ d.is in
      let g = room x old plan s m t o h runs in
      let first = (registers x old plan s m t o h runs).first in
      let stands = finish_keep x mid plan s1 m1 t1 stands1 runs1 m.progress.job.next_frame free1 q (d.first ∷ d.second ∷ []) (stored (is_top f t.frames) (offset - 2) (Operand bits) rest) bits (old.regs.s - 1) is d.plain
      (omega (arith, enough)) (omega (arith, g.last)) (omega (arith, enough, g.mark, first)) in
      let N : Cpu = record old { core = slice_set (slice_set old.core at (word 0 bits)) (old.regs.s - 1) (word 0 bits); regs = record old.regs { s = old.regs.s - 1; place = q } } in
      let P : List Word → Type 0 = λ cs. RepresentsSession x N plan (record s1 { jobs = with_course s1.jobs m.constants.number (record m1.progress { job = with_task job1 (task_with t1 cs q) }) }) in
      finish N (Operand bits ∷ rest) (subst P (sym (kept_value (is_top f t.frames) (offset - 2) (Operand bits) rest)) stands)
      (λ k. ⊎_elim (λ (z : k ≡ old.regs.s - 1). inr (inl (omega (arith, z, enough, g.mark), omega (arith, z, g.last))))
      (λ (z : k ≡ old.regs.s - 1 → ⊥). ⊎_elim (λ (y : k ≡ at). inr (inr y)) (λ (y : k ≡ at → ⊥). inl (slice_get-set_other (slice_set old.core at (word 0 bits)) (old.regs.s - 1) k (word 0 bits) z ∙ slice_get-set_other old.core at k (word 0 bits) y)) (cases_eq k at))
      (cases_eq k (old.regs.s - 1)))
