-- Stacks whose copies are held as the words of their originals say.
use Rattle.std.proofs.Common.{◌≡◌, ℕ, suc, ◌+◌, Bool, true, false, List, [], ◌∷◌, map, length, Option, Some, None, refl, sym, ◌∙◌, ap, subst, inl, inr, ⊎_elim}
use Rattle.std.specs.Prelude.{MatchBool, if◌then◌else◌}
use Rattle.std.specs.List.{AllByRecursion, list_any}
use Rattle.std.proofs.lemmas.Bool.{cases_Bool}
use Rattle.b67_word.specs.Tagged.{Tagged}
use Rattle.b67_lemmas.specs.Lists.{Has}
use Rattle.b67_lemmas.proofs.Members.{has_append_cases, has_append_right, has_map, has_flat}
use Rattle.b67_model.specs.Common.{Array, Known, Job, Starts, WordInOrder, FramesInOrder, IsSegment, outer_of}
use Rattle.b67_stack.specs.Common as stack
use Rattle.b67_stack.specs.Shapes as Shapes
use Rattle.b67_stack.specs.Common.{Shape, Is, Original, Copy, Copied, Location, Locations, Fits, LieDownward, Head, Activation, StackPlace, headed, words, PagedObject}
use Rattle.b67_stack.specs.Shapes.{IsCopy}
use Rattle.b67_layout.specs.Common.{Placement, array_object, code_objects, objects_of, TaskRow}
use Rattle.b67_layout.specs.Placement.{outer_spots}
use Rattle.b67_layout.specs.Layout.{shape, activations}
use Rattle.b67_layout_shown.specs.Shown.{Sight, word_seen, copy_by, frames_of, frame_seen, array_homed, constants_in, job_seen, member_in, task_in, stack_of_row, shown, placed}
use Rattle.b67_image_shape.specs.TableFacts.{TableFacts}
use Rattle.b67_image_shape.specs.Held.{location_in, is_home_of, view_in, held_of}
use Rattle.b67_image_shape.specs.Items.{base_at, StackFactsBy, StackFacts, CellFacts}
use Rattle.b67_image_shape.specs.NearStacks.{NearStacksSuffice, StacksAreNear}
use Rattle.b67_image_shape.proofs.Rows.{of_row}
use Rattle.b67_image_shape.proofs.EachTask.{each_task, task_at}
use Rattle.b67_image_shape.proofs.ObjectMarks.{held_at}
use Rattle.std.proofs.Common.{arith}

-- ---- words of shapes that are held otherwise

copy_held : (a b : Locations) (c : Copied) (home : ℕ) (w : Tagged) → ((at : ℕ) → (a home).area ≡ Some at → (b home).area ≡ Some at) → IsCopy a c home w → IsCopy b c home w
copy_held a b c home w same i = grind arith

fits_held : (a b : Locations) (x : Shape) (at : ℕ) (w : Tagged) → ((c : Copied) (home : ℕ) → x ≡ Copy c home → (n : ℕ) → (a home).area ≡ Some n → (b home).area ≡ Some n) → Fits a x at w → Fits b x at w
fits_held a b (Is v) at w same f = f
fits_held a b (Original home) at w same f = f
fits_held a b (Copy c home) at w same f = copy_held a b c home w (same c home refl) f

lie_held : (a b : Locations) (core : List Tagged) (from : ℕ) (xs : List Shape) → ((c : Copied) (home : ℕ) → Has xs (Copy c home) → (n : ℕ) → (a home).area ≡ Some n → (b home).area ≡ Some n) → LieDownward (Fits a) core from xs → LieDownward (Fits b) core from xs
lie_held a b core from [] same l = tt
lie_held a b core from (x ∷ more) same l =
    let (w, is, fits) = l.0 in
    ((w, is, fits_held a b x (from + length more) w (λ c home e. same c home (inl e)) fits), lie_held a b core from more (λ c home h. same c home (inr h)) l.1)

-- ---- the array of a copy

abbrev first_cells : List Activation → List Shape
first_cells [] = []
first_cells (a ∷ below) = a.cells

abbrev records_below : List Activation → List Activation
records_below [] = []
records_below (a ∷ below) = below

abbrev first_shape : List Shape → Shape
first_shape [] = Original 0
first_shape (x ∷ more) = x

abbrev shapes_below : List Shape → List Shape
shapes_below [] = []
shapes_below (x ∷ more) = more

abbrev home_in : Shape → ℕ
home_in (Is w) = 0
home_in (Original h) = h
home_in (Copy c h) = h

module _ (P : Starts) (plan : Placement) (j : ℕ) (job : Job) (arrays : List Array) (frame : StackPlace → ℕ) (array : ℕ → ℕ) where
  -- an array that stands at an address
  abbrev ArrayAt : ℕ → Type 0
  ArrayAt home = (a : Array) × Has arrays a × (plan.home j a.identity ≡ home)

  copied : (reach : List Known) (owner : ℕ) (spot : ℕ → StackPlace) (index : Option ℕ) (c : Copied) (home : ℕ) → WordInOrder P arrays reach owner (copy_by index (array home)) → shape plan j job spot (copy_by index (array home)) ≡ Copy c home → ArrayAt home
  copied reach owner spot index c home w e = grind arith

  cell_copy : (reach : List Known) (owner : ℕ) (spot : ℕ → StackPlace) (cells : List Shape) → AllByRecursion (WordInOrder P arrays reach owner) (map (word_seen frame array) cells) → map (shape plan j job spot) (map (word_seen frame array) cells) ≡ cells
      → (c : Copied) (home : ℕ) → Has cells (Copy c home) → ArrayAt home
  cell_copy reach owner spot [] all e c home h = absurd h
  cell_copy reach owner spot (x ∷ more) all e c home (inr h) = cell_copy reach owner spot more all.1 (ap shapes_below e) c home h
  cell_copy reach owner spot (x ∷ more) all e c home (inl is) = grind arith

  head_copy : (k : ℕ) (h : Head) (below : List Activation) (under : List Shape) (c : Copied) (home : ℕ) → Has (headed k h below under) (Copy c home) → Has under (Copy c home)
  head_copy k h below under c home e = grind arith

  copy_array : (outer : List Known) (k slot number : ℕ) (spots : ℕ → StackPlace) (acts : List Activation) → FramesInOrder P arrays outer (frames_of number frame array acts) → activations plan j job k spots (frames_of number frame array acts) ≡ acts
      → (c : Copied) (home : ℕ) → Has (words slot acts) (Copy c home) → ArrayAt home
  copy_array outer k slot number spots [] f e c home h = absurd h
  copy_array outer k slot number spots (a ∷ below) f e c home h = elim (has_append_cases a.cells (headed slot a.head below (words slot below)) (Copy c home) h) [
    | inl z ↦ cell_copy _ _ _ a.cells f.0.0 (ap first_cells e) c home z
    | inr z ↦ copy_array outer k slot number spots below f.2 (ap records_below e) c home (head_copy slot a.head below (words slot below) c home z)
  ]

-- ---- both ways

module _ (k : Sight) (facts : TableFacts k) where
  no_object : (home n : ℕ) → (held_of k home).area ≡ Some n → (location_in k.core home).area ≡ Some n
  no_object home n e = grind arith

  near_stack : (r : TaskRow) (h : Has k.tasks r) → StackFactsBy (location_in k.core) k (of_row k facts r h).row r.job r → CellFacts k (of_row k facts r h).row r.job r → StackFacts k (of_row k facts r h).row r.job r
  near_stack r h s cells = record {
    fits = s.fits;
    top = s.top;
    lie = lie_held (location_in k.core) (held_of k) k.core (suc (base_at k r)) (words r.slot (stack_of_row k r)) held s.lie;
    returns = s.returns;
    place = s.place;
  }
    where
      held : (c : Copied) (home : ℕ) → Has (words r.slot (stack_of_row k r)) (Copy c home) → (n : ℕ) → (location_in k.core home).area ≡ Some n → (held_of k home).area ≡ Some n
      held c home among n e =
          let row = (of_row k facts r h).row in
          let job = job_seen k row r.job in
          let t = task_in k row r.job r in
          let (a, live, at) = copy_array (IsSegment (constants_in k (of_row k facts r h).row r.job)) (placed k) r.job (job_seen k (of_row k facts r h).row r.job) (job_seen k (of_row k facts r h).row r.job).arrays (frame_seen k.tasks r.job) (array_homed k.regs k.tasks (of_row k facts r h).row)
          (outer_of (job_seen k (of_row k facts r h).row r.job) (task_in k (of_row k facts r h).row r.job r)) r.slot r.slot r.number (outer_spots (placed k) r.job (job_seen k (of_row k facts r h).row r.job) (task_in k (of_row k facts r h).row r.job r).critical (task_in k (of_row k facts r h).row r.job r).parents) (stack_of_row k r) cells.frames cells.same c home among in
          let object = has_append_right (code_objects (placed k) r.job 1 (constants_in k row r.job).segments) (map (array_object (placed k) r.job) job.arrays) (array_object (placed k) r.job a) (has_map (array_object (placed k) r.job) job.arrays a live) in
          let there = has_flat (objects_of (placed k)) (shown k).jobs (member_in k row r.job) (array_object (placed k) r.job a) (of_row k facts r h).among object in
          ap (λ (l : Location). l.area) (subst (λ n. held_of k n ≡ location_in k.core n) at (held_at k.core (view_in k).objects (array_object (placed k) r.job a) there)) ∙ e

  stack_near : (r : TaskRow) (h : Has k.tasks r) → StackFacts k (of_row k facts r h).row r.job r → StackFactsBy (location_in k.core) k (of_row k facts r h).row r.job r
  stack_near r h s = record {
    fits = s.fits;
    top = s.top;
    lie = lie_held (held_of k) (location_in k.core) k.core (suc (base_at k r)) (words r.slot (stack_of_row k r)) (λ c home among n e. no_object home n e) s.lie;
    returns = s.returns;
    place = s.place;
  }

pub near_stacks_suffice : NearStacksSuffice
near_stacks_suffice k facts near cells = each_task k facts (StackFacts k) (λ r h. near_stack k facts r h (task_at k facts (StackFactsBy (location_in k.core) k) near r h) (task_at k facts (CellFacts k) cells r h))

pub stacks_are_near : StacksAreNear
stacks_are_near k facts stacks = each_task k facts (StackFactsBy (location_in k.core) k) (λ r h. stack_near k facts r h (task_at k facts (StackFacts k) stacks r h))
