-- What `drop_cells` and `replace_cells` leave is what the rows on cells make.
use Rattle.std.proofs.Common.{◌≡◌, ◌≢◌, ℕ, suc, ◌+◌, ◌-◌, ◌<◌, ◌≤◌, List, [], ◌∷◌, ◌++◌, map, length, Ok, Err, None, refl, sym, ◌∙◌, ap, arith, inl, inr, true, slice_set, subst, length-append, ◌⊎◌, ⊎_elim, Some}
use Rattle.std.specs.Prelude.{Bool, nat_le}
use Rattle.std.specs.List.{slice_get}
use Rattle.std.proofs.lemmas.Bool.Decides.{nat_tests}
use Rattle.std.proofs.lemmas.List.{map-append, length-map}
use Rattle.b67_word.specs.Tagged.{Tagged}
use Rattle.b67_word.specs.declared.couples.Place.{Place}
use Rattle.b67_word.specs.declared.faults.Fault.TheVariants.{StackUnderflow, StackOverflow}
use Rattle.b67_ctl.specs.declared.marks.Mscw.{Mscw}
use Rattle.b67_ctl.specs.Layout.{flag_bit}
use Rattle.b67_core.proofs.Writes.{slice_get-set_other}
use Rattle.b67_model.specs.Common.{Word, Task, Job, SessionJob, with_top_cells, height, with_task, leaves_cells, number_of, Session}
use Rattle.b67_layout.specs.Common.{IsInOrderButCounts, Placement, spot_in, outer_spots, shape, stack_of_task, machine_view, IsRunning, RepresentsSession, RepresentsSessionBut, here, with_job, IsMade, IsWordOf, IsAt, cells, GivesTop}
use Rattle.b67_stack.specs.declared.Cpu.{Cpu}
use Rattle.b67_stack.specs.Common.{Shape, Fits, StackPlace, Activation, stack_words, top_mark, PagedObject, RunsOn, NoOriginalAboveTop, Storage, RepresentsRunning, Represents, with_stack, stack_with_cells, top_cells}
use Rattle.b67_stack.proofs.Tops.{cells_above}
use Rattle.b67_stack.proofs.Slots.{running_slot}
use Rattle.b67_stack.proofs.Pushes.{Room, room_of}
use Rattle.b67_layout.proofs.Common.{height-is, runs_on, GoesOn, task_with, RepresentsSession-cells, fresh, running_in_order, no_objects_gone}
use Rattle.b67_layout.proofs.Starts as Starts
use Rattle.b67_exec_cells.specs.Tops.{GivesTwo, MayStand, NoOriginals}
use Rattle.b67_exec_cells.proofs.Replaced.{cells-are, height-with, shapes_plain, may_push, Represents-less, Represents-put, word_under}
use Rattle.b67_lemmas.proofs.Members.{keyed_has}

pub flag_low : (b : Bool) → flag_bit b ≤ 1
flag_low b = grind arith

module _ (x : Storage) (old : Cpu) (plan : Placement) (s : Session) (m : SessionJob) (t : Task) (ordered : IsInOrderButCounts s) (h : RepresentsSession x old plan s) (runs : IsRunning plan s.jobs m t) where
  -- the running stack, and the shapes of its top cells
  abbrev pub stack : List Activation
  stack = stack_of_task plan m.constants.number m.progress.job plan.running t

  abbrev pub shaped : Word → Shape
  shaped = shape plan m.constants.number m.progress.job (spot_in plan.running (outer_spots plan m.constants.number m.progress.job t.critical t.parents) t.frames)

  pub runs_here : RunsOn (machine_view plan s.jobs) plan.running stack
  runs_here = runs_on plan s.jobs m t h.holds.fits.rows (keyed_has number_of m.constants.number s.jobs m runs.member).0 (keyed_has (λ (u : Task). u.number) t.number m.progress.job.tasks t runs.task).0 runs.slot runs.member runs.task

  pub registers : RepresentsRunning old.regs (machine_view plan s.jobs) plan.running stack
  registers = running_slot x old.core old.regs (machine_view plan s.jobs) plan.running stack h.holds.memory runs_here

  pub room : Room x old.core old.regs (machine_view plan s.jobs) plan.running stack
  room = room_of x old.core old.regs (machine_view plan s.jobs) plan.running stack h.holds.memory runs_here

  pub size-is : m.constants.stack_size ≡ plan.size
  size-is = h.holds.fits.sizes m (keyed_has number_of m.constants.number s.jobs m runs.member).0

  some_frame : t.frames ≢ []
  some_frame = (running_in_order plan s m t ordered runs).1.some

  height_of : height t.frames ≡ suc (stack_words stack)
  height_of = height-is plan m.constants.number m.progress.job plan.running (outer_spots plan m.constants.number m.progress.job t.critical t.parents) t.frames

  -- the words of a state's words, as the view has them
  pub seen : (w : Word) (at : ℕ) (v : Tagged) → IsWordOf x plan m t w at v → Fits x.held (shaped w) at v
  seen w at v f = grind arith

  pub shown : (w : Word) (at : ℕ) (v : Tagged) → Fits x.held (shaped w) at v → IsWordOf x plan m t w at v
  shown w at v f = grind arith

  pub tops : (gone rest : List Word) → cells t ≡ gone ++ rest → top_cells stack ≡ map shaped gone ++ map shaped rest
  tops gone rest e = grind (arith, cells-are, map-append)

  -- other cells on top, whatever the machine's words
  pub stands_cells : (new : Cpu) (q : Place) (cs : List Word) → new.display ≡ old.display → new.critical ≡ old.critical → GoesOn old.regs new.regs q
      → ((i : ℕ) → (slice_get new.core i ≡ slice_get old.core i) ⊎ ((old.regs.bosr < i) × (i ≤ old.regs.losr)))
      → Represents x new.core new.regs (with_stack (machine_view plan s.jobs) plan.running (stack_with_cells stack (map shaped cs))) × NoOriginalAboveTop (with_stack (machine_view plan s.jobs) plan.running (stack_with_cells stack (map shaped cs)))
      → RepresentsSession x new plan (with_job s m (with_task m.progress.job (task_with t cs q)))
  stands_cells new q cs display critical on changed stands =
      let low : plan.stacks ≤ old.regs.bosr = omega (arith, registers.first) in
      RepresentsSession-cells x old new plan s m t q h runs (λ i below. ⊎_elim (λ e. e) (λ o. absurd (omega (arith, o.0, below, low))) (changed i)) on display critical m.progress.job.next_frame cs (fresh plan s m t ordered runs) stands.0 stands.1

  pub made_cells : (new : Cpu) (q : Place) (cs : List Word) → new.display ≡ old.display → new.critical ≡ old.critical → GoesOn old.regs new.regs q
      → ((i : ℕ) → (slice_get new.core i ≡ slice_get old.core i) ⊎ ((old.regs.bosr < i) × (i ≤ old.regs.losr)))
      → Represents x new.core new.regs (with_stack (machine_view plan s.jobs) plan.running (stack_with_cells stack (map shaped cs))) × NoOriginalAboveTop (with_stack (machine_view plan s.jobs) plan.running (stack_with_cells stack (map shaped cs)))
      → height (with_top_cells t.frames cs) ≤ m.constants.stack_size
      → IsMade x plan s m old new (leaves_cells (here m t q) cs None)
  made_cells new q cs display critical on changed stands fits =
      let job : Job = with_task m.progress.job (task_with t cs q) in
      let test : nat_le (height (with_top_cells t.frames cs)) m.constants.stack_size ≡ true = grind (arith, nat_tests) in
      record {
        job = job;
        touched = None;
        is = rw test refl;
        present = tt;
        stands = (let P : List PagedObject → Type 0 = λ left. RepresentsSessionBut left x new plan (with_job s m job) in subst P (sym (no_objects_gone plan m job refl)) (stands_cells new q cs display critical on changed stands));
        changed = λ i. ⊎_elim (λ e. inl e) (λ o. inr (inl o)) (changed i);
      }

  -- fewer cells
  Represents-dropped : (count : ℕ) (q : Place) (gone rest : List Word) → cells t ≡ gone ++ rest → length gone ≡ count → NoOriginals gone
      → Represents x old.core (record old.regs { s = old.regs.s - count; place = q }) (with_stack (machine_view plan s.jobs) plan.running (stack_with_cells stack (map shaped rest))) × NoOriginalAboveTop (with_stack (machine_view plan s.jobs) plan.running (stack_with_cells stack (map shaped rest)))
  Represents-dropped count q gone rest e n plain =
      let d = Represents-less x old.core old.regs (machine_view plan s.jobs) plan.running stack h.holds.memory runs_here (map shaped gone) (map shaped rest) q (tops gone rest e)
      (shapes_plain plan m.constants.number m.progress.job (spot_in plan.running (outer_spots plan m.constants.number m.progress.job t.critical t.parents) t.frames) gone plain) h.holds.settled in
      grind (arith, length-map)

  pub dropped_stands : (count : ℕ) (q : Place) (gone rest : List Word) → cells t ≡ gone ++ rest → length gone ≡ count → NoOriginals gone
      → RepresentsSession x (record old { regs = record old.regs { s = old.regs.s - count; place = q } }) plan (with_job s m (with_task m.progress.job (task_with t rest q)))
  dropped_stands count q gone rest e n plain =
      stands_cells (record old { regs = record old.regs { s = old.regs.s - count; place = q } }) q rest refl refl (record { slot = refl; dict = refl; entries = refl; segment = refl; place = refl }) (λ i. inl refl) (Represents-dropped count q gone rest e n plain)

  pub dropped-fits : (gone rest : List Word) → cells t ≡ gone ++ rest → height (with_top_cells t.frames rest) ≤ m.constants.stack_size
  dropped-fits gone rest e = grind (arith, runs_here, length-append, height_of, size-is)

  pub dropped : (count : ℕ) (q : Place) (gone rest : List Word) → cells t ≡ gone ++ rest → length gone ≡ count → NoOriginals gone
      → IsMade x plan s m old (record old { regs = record old.regs { s = old.regs.s - count; place = q } }) (leaves_cells (here m t q) rest None)
  dropped count q gone rest e n plain =
      made_cells (record old { regs = record old.regs { s = old.regs.s - count; place = q } }) q rest refl refl
      (record { slot = refl; dict = refl; entries = refl; segment = refl; place = refl }) (λ i. inl refl)
      (Represents-dropped count q gone rest e n plain) (dropped-fits gone rest e)

  -- a word in the place of cells
  Represents-replaced : (count i : ℕ) (v : Tagged) (q : Place) (gone rest : List Word) (w : Word) → cells t ≡ gone ++ rest → length gone ≡ count → i ≡ old.regs.s - count + 1 → i ≤ old.regs.losr
      → NoOriginals gone → MayStand m.progress.job w → IsWordOf x plan m t w i v
      → Represents x (slice_set old.core i v) (record old.regs { s = i; place = q }) (with_stack (machine_view plan s.jobs) plan.running (stack_with_cells stack (map shaped (w ∷ rest)))) × NoOriginalAboveTop (with_stack (machine_view plan s.jobs) plan.running (stack_with_cells stack (map shaped (w ∷ rest))))
  Represents-replaced count i v q gone rest w e n at inside plain may fit =
      let spot : ℕ → StackPlace = spot_in plan.running (outer_spots plan m.constants.number m.progress.job t.critical t.parents) t.frames in
      let has_m = (keyed_has number_of m.constants.number s.jobs m runs.member).0 in
      let count-is : length (map shaped gone) ≡ count = length-map gone shaped ∙ n in
      Represents-put x old.core old.regs (machine_view plan s.jobs) plan.running stack h.holds.memory runs_here (map shaped gone) (map shaped rest) (shaped w) v i q (tops gone rest e)
      (at ∙ ap (λ (k : ℕ). old.regs.s - k + 1) (sym count-is)) inside (shapes_plain plan m.constants.number m.progress.job spot gone plain) h.holds.settled (may_push plan s.jobs m spot w has_m may) (seen w i v fit)

  within : (count i : ℕ) (v : Tagged) → old.regs.f + count ≤ old.regs.s → i ≡ old.regs.s - count + 1 → i ≤ old.regs.losr → (k : ℕ) → (slice_get (slice_set old.core i v) k ≡ slice_get old.core k) ⊎ ((old.regs.bosr < k) × (k ≤ old.regs.losr))
  within count i v enough at inside k = grind (arith, room, slice_get-set_other)

  pub replaced_stands : (count i : ℕ) (v : Tagged) (q : Place) (gone rest : List Word) (w : Word) → cells t ≡ gone ++ rest → length gone ≡ count → old.regs.f + count ≤ old.regs.s → i ≡ old.regs.s - count + 1 → i ≤ old.regs.losr
      → NoOriginals gone → MayStand m.progress.job w → IsWordOf x plan m t w i v
      → RepresentsSession x (record old { core = slice_set old.core i v; regs = record old.regs { s = i; place = q } }) plan (with_job s m (with_task m.progress.job (task_with t (w ∷ rest) q)))
  replaced_stands count i v q gone rest w e n enough at inside plain may fit =
      stands_cells (record old { core = slice_set old.core i v; regs = record old.regs { s = i; place = q } }) q (w ∷ rest) refl refl
      (record { slot = refl; dict = refl; entries = refl; segment = refl; place = refl }) (within count i v enough at inside) (Represents-replaced count i v q gone rest w e n at inside plain may fit)

  pub replaced : (count i : ℕ) (v : Tagged) (q : Place) (gone rest : List Word) (w : Word) → cells t ≡ gone ++ rest → length gone ≡ count → old.regs.f + count ≤ old.regs.s → i ≡ old.regs.s - count + 1 → i ≤ old.regs.losr
      → NoOriginals gone → MayStand m.progress.job w → IsWordOf x plan m t w i v
      → IsMade x plan s m old (record old { core = slice_set old.core i v; regs = record old.regs { s = i; place = q } }) (leaves_cells (here m t q) (w ∷ rest) None)
  replaced count i v q gone rest w e n enough at inside plain may fit =
      let tall = height-with t.frames (w ∷ rest) some_frame in
      let longer = ap length e ∙ length-append gone rest in
      let g = registers in
      made_cells (record old { core = slice_set old.core i v; regs = record old.regs { s = i; place = q } }) q (w ∷ rest) refl refl
      (record { slot = refl; dict = refl; entries = refl; segment = refl; place = refl }) (within count i v enough at inside) (Represents-replaced count i v q gone rest w e n at inside plain may fit)
      (omega (arith, tall, longer, n, height_of, size-is, g.last, g.top, at, inside, enough))

  -- such a word fits where its place lies in the slot
  pub fitting : (count i : ℕ) (gone rest : List Word) (w : Word) → cells t ≡ gone ++ rest → length gone ≡ count → old.regs.f + count ≤ old.regs.s → i ≡ old.regs.s - count + 1 → i ≤ old.regs.losr
      → nat_le (height (with_top_cells t.frames (w ∷ rest))) m.constants.stack_size ≡ true
  fitting count i gone rest w e n enough at inside = grind (arith, length-append, registers, height_of, size-is)

  -- no room for it
  pub overflows : (count i : ℕ) (q : Place) (gone rest : List Word) (w : Word) → cells t ≡ gone ++ rest → length gone ≡ count → old.regs.f + count ≤ old.regs.s → i ≡ old.regs.s - count + 1 → old.regs.losr < i
      → leaves_cells (here m t q) (w ∷ rest) None ≡ Err StackOverflow
  overflows count i q gone rest w e n enough at over = grind (arith, some_frame, length-append, registers, height_of, size-is)

  -- the cells by S, F and the mark
  pub counted : (mark : Mscw) (n : ℕ) → mark ≡ top_mark old.regs.slot stack → n ≡ flag_bit mark.entered → old.regs.s ≡ old.regs.f + n + length (cells t)
  counted mark n is e =
      cells_above x old.core old.regs (machine_view plan s.jobs) old.regs.slot stack h.holds.memory (Starts.runs_here x old plan s m t h runs)
      ∙ ap (λ (i : ℕ). old.regs.f + i + length (top_cells stack)) (sym (e ∙ ap (λ (w : Mscw). flag_bit w.entered) is))
      ∙ ap (λ (i : ℕ). old.regs.f + n + i) (ap length (cells-are plan m.constants.number m.progress.job plan.running (outer_spots plan m.constants.number m.progress.job t.critical t.parents) t.frames) ∙ length-map (cells t) shaped)

  -- all words above the mark but one are cells
  pub counted_near : old.regs.s ≤ old.regs.f + length (cells t) + 1
  counted_near =
      let mark = top_mark old.regs.slot stack in
      let e = counted mark (flag_bit mark.entered) refl refl in
      grind (arith, flag_low)

  -- a word that is read is that of the cell there
  read_at : (above : List Word) (w : Word) (rest : List Word) (i : ℕ) (v : Tagged) → cells t ≡ above ++ w ∷ rest → old.regs.s - length above ≡ i → slice_get old.core i ≡ Some v → IsAt x plan m t old.core w i v
  read_at above w rest i v e at got =
      let d = word_under x old.core old.regs (machine_view plan s.jobs) plan.running stack h.holds.memory runs_here (map shaped above) (shaped w) (map shaped rest) (tops above (w ∷ rest) e) in
      grind (arith, length-map)

  pub top_given : (v : Tagged) → slice_get old.core old.regs.s ≡ Some v → 1 ≤ length (cells t) → GivesTop x plan m t old (cells t) (Ok v)
  top_given v got some = by_cells (cells t) refl some where
    by_cells : (cs : List Word) → cells t ≡ cs → 1 ≤ length cs → GivesTop x plan m t old cs (Ok v)
    by_cells [] e n = absurd (omega (arith, n))
    by_cells (a ∷ rest) e n = (v, refl, read_at [] a rest old.regs.s v e (omega arith) got)

  pub two_given : (u v : Tagged) → slice_get old.core (old.regs.s - 1) ≡ Some u → slice_get old.core old.regs.s ≡ Some v → 2 ≤ length (cells t) → GivesTwo x plan m t old (cells t) (Ok (u, v))
  two_given u v got_u got_v some = by_cells (cells t) refl some where
    by_cells : (cs : List Word) → cells t ≡ cs → 2 ≤ length cs → GivesTwo x plan m t old cs (Ok (u, v))
    by_cells [] e n = absurd (omega (arith, n))
    by_cells (b ∷ []) e n = absurd (omega (arith, n))
    by_cells (b ∷ a ∷ rest) e n = (u, v, refl, read_at (b ∷ []) a rest (old.regs.s - 1) u e refl got_u, read_at [] b (a ∷ rest) old.regs.s v e (omega arith) got_v)

-- too few cells
pub none_given : (x : Storage) (cpu : Cpu) (plan : Placement) (m : SessionJob) (t : Task) (cs : List Word) → length cs < 1 → GivesTop x plan m t cpu cs (Err StackUnderflow)
none_given x cpu plan m t cs n = grind arith

pub one_given : (x : Storage) (cpu : Cpu) (plan : Placement) (m : SessionJob) (t : Task) (cs : List Word) → length cs < 2 → GivesTwo x plan m t cpu cs (Err StackUnderflow)
one_given x cpu plan m t cs n = grind arith
