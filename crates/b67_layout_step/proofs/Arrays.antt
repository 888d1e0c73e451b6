-- A job with another number in an array: its stacks look the same, and of its objects one is replaced.
use Rattle.std.proofs.Common.{◌≡◌, ℕ, List, [], ◌∷◌, map, Option, Some, None, refl, sym, ◌∙◌, ap, ⊎_elim, arith}
use Rattle.std.specs.Prelude.{if◌then◌else◌, unwrap_or}
use Rattle.std.proofs.lemmas.Bool.{cases_eq}
use Rattle.b67_model.specs.Keyed.{keyed, change_keyed}
use Rattle.b67_model.specs.Words as Words
use Rattle.b67_model.specs.Common.{Word, Frame, Array, Task, Job, JobProgress, SessionJob, height, array, no_array, with_number, with_array, number_of, is_critical}
use Rattle.b67_stack.specs.Common.{Shape, StackPlace, Activation}
use Rattle.b67_layout.specs.Common.{Slotted, Placement, slot_of, spot_in, outer_spots, spots, shape, head, activations, slot_with, slot_in, slot_by, slot_at, critical_mark}
use Rattle.b67_layout.proofs.MachineViews.{with_course, member-same, member-other}

-- a change of an array's numbers
pub record Renumbers (f : Array → Array) : Type 0 where
  pub identity : (a : Array) → (f a).identity ≡ a.identity
  pub owner : (a : Array) → (f a).owner ≡ a.owner
  pub writable : (a : Array) → (f a).writable ≡ a.writable

pub number_renumbers : (i v : ℕ) → Renumbers (with_number i v)
number_renumbers i v = record { identity = λ a. refl; owner = λ a. refl; writable = λ a. refl }

-- an array is as writable as before
same_in : (id n : ℕ) (f : Array → Array) → Renumbers f → (xs : List Array) → let a = unwrap_or (keyed (λ (z : Array). z.identity) n xs) no_array in let b = unwrap_or (keyed (λ (z : Array). z.identity) n (change_keyed (λ (z : Array). z.identity) id f xs)) no_array in
    b.writable ≡ a.writable
same_in id n f k [] = refl
same_in id n f k (x ∷ xs) = grind (arith, same_in id n f k xs)

module _ (plan : Placement) (j : ℕ) (job : Job) (id : ℕ) (f : Array → Array) (keeps : Renumbers f) where
  abbrev job' : Job
  job' = with_array job id f

  same : (n : ℕ) → (array (with_array job id f) n).writable ≡ (array job n).writable
  same n = same_in id n f keeps job.arrays

  shape_same : (spot : ℕ → StackPlace) (w : Word) → shape plan j (with_array job id f) spot w ≡ shape plan j job spot w
  shape_same spot w = grind (arith, same)

  shapes_same : (spot : ℕ → StackPlace) (ws : List Word) → map (shape plan j (with_array job id f) spot) ws ≡ map (shape plan j job spot) ws
  shapes_same spot [] = refl
  shapes_same spot (w ∷ ws) = ap (λ (s : Shape). s ∷ map (shape plan j job' spot) ws) (shape_same spot w) ∙ ap (λ (ss : List Shape). shape plan j job spot w ∷ ss) (shapes_same spot ws)

  activations_same : (k : ℕ) (outer : ℕ → StackPlace) (fs : List Frame) → activations plan j (with_array job id f) k outer fs ≡ activations plan j job k outer fs
  activations_same k outer [] = refl
  activations_same k outer (g ∷ below) =
      let A : List Shape → Activation = λ ss. record { head = head (spot_in k outer below) g.standing; cells = ss } in
      ap (λ (ss : List Shape). A ss ∷ activations plan j job' k outer below) (shapes_same (spot_in k outer (g ∷ below)) g.cells)
      ∙ ap (λ (under : List Activation). A (map (shape plan j job (spot_in k outer (g ∷ below))) g.cells) ∷ under) (activations_same k outer below)

  outer_by : (parents : List ℕ) (c g : ℕ) → outer_spots plan j (with_array job id f) c parents g ≡ outer_spots plan j job c parents g
  outer_by [] c g = refl
  outer_by (parent ∷ more) c g = grind arith

  pub outer_same : (c : ℕ) (parents : List ℕ) → outer_spots plan j (with_array job id f) c parents ≡ outer_spots plan j job c parents
  outer_same c parents = λ z g. outer_by parents c g z

  pub spots_same : (t : Task) → spots plan j (with_array job id f) t ≡ spots plan j job t
  spots_same t = ap (λ (o : ℕ → StackPlace). spot_in (slot_of plan j t.number) o t.frames) (outer_same t.critical t.parents)

  slot_with_same : (k : ℕ) (o : Option Task) → slot_with plan k j (with_array job id f) o ≡ slot_with plan k j job o
  slot_with_same k o = grind (arith, activations_same)

  pub mark_same : (fs : List Frame) → critical_mark (with_array job id f) fs ≡ critical_mark job fs
  mark_same [] = refl
  mark_same (g ∷ fs) = ap (λ (n : ℕ). if is_critical job g.identity then height fs else n) (mark_same fs)

-- the slots of a session with such a job
module _ (plan : Placement) (jobs : List SessionJob) (m : SessionJob) (id : ℕ) (f : Array → Array) (keeps : Renumbers f) (member : keyed number_of m.constants.number jobs ≡ Some m) where
  abbrev c : JobProgress
  c = record m.progress { job = with_array m.progress.job id f }

  by_row : (q : ℕ) (o : Option Slotted) → slot_by plan (with_course jobs m.constants.number (record m.progress { job = with_array m.progress.job id f })) q o ≡ slot_by plan jobs q o
  by_row q None = refl
  by_row q (Some r) = ⊎_elim
      (λ (z : r.job ≡ m.constants.number).
      let new : keyed number_of r.job (with_course jobs m.constants.number c) ≡ Some (record m { progress = c }) = ap (λ (n : ℕ). keyed number_of n (with_course jobs m.constants.number c)) z ∙ member-same jobs m.constants.number c m member in
      let old : keyed number_of r.job jobs ≡ Some m = ap (λ (n : ℕ). keyed number_of n jobs) z ∙ member in
      ap (slot_in plan q r.job r.task) new
      ∙ slot_with_same plan r.job m.progress.job id f keeps q (keyed (λ (t : Task). t.number) r.task m.progress.job.tasks)
      ∙ ap (slot_in plan q r.job r.task) (sym old))
      (λ (z : r.job ≡ m.constants.number → ⊥). ap (slot_in plan q r.job r.task) (member-other jobs m.constants.number c r.job z))
      (cases_eq r.job m.constants.number)

  pub slots_same : slot_at plan (with_course jobs m.constants.number (record m.progress { job = with_array m.progress.job id f })) ≡ slot_at plan jobs
  slots_same = λ z q. by_row q (keyed (λ (r : Slotted). r.slot) q plan.rows) z
