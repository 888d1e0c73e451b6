-- In a session that is in order each copy on a stack is one of an array of the session.
use Rattle.std.proofs.Common.{◌≡◌, ◌≢◌, ℕ, List, [], ◌∷◌, map, Option, Some, None, refl, sym, ◌∙◌, inl, inr, ⊎_elim, Bool, true, false, subst, if◌then◌else◌, arith}
use Rattle.std.specs.Prelude.{flat_map, ◌==◌}
use Rattle.std.specs.List.{AllByRecursion}
use Rattle.b67_word.specs.Tagged.{Tagged}
use Rattle.b67_area.specs.declared.Kind.TheVariants as kind
use Rattle.b67_lemmas.specs.Lists.{Has}
use Rattle.b67_lemmas.proofs.Members.{all_in, has_append_cases, has_append_right, has_flat, has_map, has_map_back, keyed_has}
use Rattle.b67_model.specs.Keyed.{keyed}
use Rattle.b67_model.specs.Common.{Word, Row, Original, Frame, Array, Task, Job, SessionJob, number_of, Session, Starts, IsSegment, Known, WordInOrder, FramesInOrder, outer_of}
use Rattle.b67_layout.specs.Common.{IsInOrderButCounts, Slotted, Placement, spot_in, outer_spots, shape, activations, stack_of_task, slot_with, slot_in, slot_by, slot_at, array_object, code_objects, objects_of, machine_view, with_objects}
use Rattle.b67_stack.specs.Shapes as Shapes
use Rattle.b67_stack.specs.Common.{Shape, Is, Copy, Copied, StackPlace, Activation, words, PagedObject, Slot, Free, Running, Waiting, stack_of, SlotFits, CopiesName}

-- a descriptor's shape
abbrev pub IsDescriptor : Shape → Type 0
IsDescriptor a = (w : Tagged) → Is w ≢ a

-- a descriptor on a stack is a cell
pub record IsCell (stack : List Activation) (a : Shape) : Type 0 where
  pub activation : Activation
  pub among : Has stack activation
  pub cell : Has activation.cells a

pub words_descriptor : (k : ℕ) (stack : List Activation) (a : Shape) → IsDescriptor a → Has (words k stack) a → IsCell stack a
words_descriptor k [] a n h = absurd h
words_descriptor k (e ∷ below) a n h = grind (arith, has_append_cases, words_descriptor k below a n)

-- the word of a frame that it represents
pub record IsWord (plan : Placement) (j : ℕ) (job : Job) (frames : List Frame) (a : Shape) : Type 0 where
  pub frame : Frame
  pub among : Has frames frame
  pub spot : ℕ → StackPlace
  pub word : Word
  pub cell : Has frame.cells word
  pub is : shape plan j job spot word ≡ a

module _ (plan : Placement) (j : ℕ) (job : Job) (k : ℕ) (outer : ℕ → StackPlace) where
  pub cell_word : (frames : List Frame) (a : Shape) (e : Activation) → Has (activations plan j job k outer frames) e → Has e.cells a → IsWord plan j job frames a
  cell_word [] a e h i = absurd h
  cell_word (f ∷ below) a e (inl q) i =
      let r = has_map_back (shape plan j job (spot_in k outer (f ∷ below))) f.cells a (subst (λ (b : Activation). Has b.cells a) (sym q) i) in
      record { frame = f; among = inl refl; spot = spot_in k outer (f ∷ below); word = r.item; cell = r.among; is = r.is }
  cell_word (f ∷ below) a e (inr h) i = grind (arith, cell_word below a e h i)

-- the array of a copy
abbrev pub home_of : Shape → ℕ
home_of (Is w) = 0
home_of (Shapes.Original home) = home
home_of (Copy c home) = home

module _ (plan : Placement) (j : ℕ) (job : Job) (spot : ℕ → StackPlace) (P : Starts) (reach : List Known) (owner : ℕ) where
  copy_named : (v : Word) (c : Copied) (home : ℕ) → shape plan j job spot v ≡ Copy c home → WordInOrder P job.arrays reach owner v → (a : Array) × Has job.arrays a × (plan.home j a.identity ≡ home)
  copy_named v c home e o = grind arith

-- a frame's words are in order, by some reach
pub record FrameWords (P : Starts) (arrays : List Array) (f : Frame) : Type 0 where
  pub reach : List Known
  pub words : AllByRecursion (WordInOrder P arrays reach f.identity) f.cells

pub frame_words : (P : Starts) (arrays : List Array) (outer : List Known) (frames : List Frame) (f : Frame) → FramesInOrder P arrays outer frames → Has frames f → FrameWords P arrays f
frame_words P arrays outer [] f o h = absurd h
frame_words P arrays outer (g ∷ below) f o (inl e) =
    let r : FrameWords P arrays g = record { reach = _; words = o.0.0 } in
    subst (λ (b : Frame). FrameWords P arrays b) e r
frame_words P arrays outer (g ∷ below) f o (inr h) = frame_words P arrays outer below f o.2 h

pub array_kind : (b : Bool) → (if b then kind.Array else kind.Row) ≢ kind.Code
array_kind b e = grind arith

-- in a session in order each task's frames are
pub frames_in_order : (s : Session) → IsInOrderButCounts s → (m : SessionJob) (t : Task) → Has s.jobs m → Has m.progress.job.tasks t → FramesInOrder (IsSegment m.constants) m.progress.job.arrays (outer_of m.progress.job t) t.frames
frames_in_order s o m t inm int = grind (arith, all_in)

module _ (plan : Placement) (s : Session) (o : (m : SessionJob) (t : Task) → Has s.jobs m → Has m.progress.job.tasks t → FramesInOrder (IsSegment m.constants) m.progress.job.arrays (outer_of m.progress.job t) t.frames) where
  abbrev objects : List PagedObject
  objects = flat_map (objects_of plan) s.jobs

  task_names : (m : SessionJob) (t : Task) (k : ℕ) → Has s.jobs m → Has m.progress.job.tasks t → CopiesName objects (words k (stack_of_task plan m.constants.number m.progress.job k t))
  task_names m t k inm int = λ c home h.
      let job = m.progress.job in
      let j = m.constants.number in
      let outer = outer_spots plan j job t.critical t.parents in
      let cell = words_descriptor k (stack_of_task plan j job k t) (Copy c home) (λ w z. cc) h in
      let w = cell_word plan j job k outer t.frames (Copy c home) cell.activation cell.among cell.cell in
      let f = frame_words (IsSegment m.constants) job.arrays (outer_of job t) t.frames w.frame (o m t inm int) w.among in
      let a = copy_named plan j job w.spot (IsSegment m.constants) f.reach w.frame.identity w.word c home w.is (all_in (WordInOrder (IsSegment m.constants) job.arrays f.reach w.frame.identity) w.frame.cells w.word f.words w.cell) in
      let there : Has (objects_of plan m) (array_object plan j a.0) = has_append_right (code_objects plan j 1 m.constants.segments) (map (array_object plan j) job.arrays) (array_object plan j a.0) (has_map (array_object plan j) job.arrays a.0 a.1) in
      (array_object plan j a.0, has_flat (objects_of plan) s.jobs m (array_object plan j a.0) inm there, a.2, array_kind a.0.writable)

  -- each slot's words
  pub slot_names : (k : ℕ) → CopiesName objects (words k (stack_of (slot_at plan s.jobs k)))
  slot_names k = by_row (keyed (λ (r : Slotted). r.slot) k plan.rows) where
    by_bool : (b : Bool) (stack : List Activation) → CopiesName objects (words k stack) → CopiesName objects (words k (stack_of (if b then Running stack else Waiting stack)))
    by_bool true stack n = n
    by_bool false stack n = n

    by_task : (j : ℕ) (m : SessionJob) → Has s.jobs m → m.constants.number ≡ j → (number : ℕ) (t : Option Task) → keyed (λ (t : Task). t.number) number m.progress.job.tasks ≡ t → CopiesName objects (words k (stack_of (slot_with plan k j m.progress.job t)))
    by_task j m inm e number None q = λ c home h. absurd h
    by_task j m inm e number (Some t) q =
        let n = task_names m t k inm (keyed_has (λ (t : Task). t.number) number m.progress.job.tasks t q).0 in
        let P : ℕ → Type 0 = λ i. CopiesName objects (words k (stack_of_task plan i m.progress.job k t)) in
        by_bool (k == plan.running) (stack_of_task plan j m.progress.job k t) (subst P e n)

    by_member : (r : Slotted) (m : Option SessionJob) → keyed number_of r.job s.jobs ≡ m → CopiesName objects (words k (stack_of (slot_in plan k r.job r.task m)))
    by_member r None q = λ c home h. absurd h
    by_member r (Some m) q =
        let h = keyed_has number_of r.job s.jobs m q in
        by_task r.job m h.0 h.1 r.task (keyed (λ (t : Task). t.number) r.task m.progress.job.tasks) refl

    by_row : (r : Option Slotted) → CopiesName objects (words k (stack_of (slot_by plan s.jobs k r)))
    by_row None = λ c home h. absurd h
    by_row (Some r) = by_member r (keyed number_of r.job s.jobs) refl

  fits_named : (more : List PagedObject) (k : ℕ) (slot : Slot) → SlotFits (with_objects more (machine_view plan s.jobs)) k slot → CopiesName objects (words k (stack_of slot)) → SlotFits (machine_view plan s.jobs) k slot
  fits_named more k Free f n = f
  fits_named more k (Running stack) f n = (f.0, n)
  fits_named more k (Waiting stack) f n = (f.0, n)

  pub slots_fit : (more : List PagedObject) (k : ℕ) → SlotFits (with_objects more (machine_view plan s.jobs)) k (slot_at plan s.jobs k) → SlotFits (machine_view plan s.jobs) k (slot_at plan s.jobs k)
  slots_fit more k f = fits_named more k (slot_at plan s.jobs k) f (slot_names k)
