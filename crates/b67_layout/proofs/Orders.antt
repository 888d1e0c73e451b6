-- The running task is in order with its marked frame entered, or with an entered one more, where it is ready then.
use Rattle.std.proofs.Common.{◌≡◌, ◌≢◌, ℕ, ◌+◌, ◌≤◌, List, [], ◌∷◌, ◌++◌, map, Some, refl, inl, inr, arith, false, length-append}
use Rattle.std.specs.List.{AllByRecursion}
use Rattle.std.proofs.lemmas.Bool.Decides.{eqb_tells}
use Rattle.b67_word.specs.declared.couples.Place.{Place}
use Rattle.b67_model.specs.Keyed.{keyed}
use Rattle.b67_lemmas.specs.Lists.{Has, Falls}
use Rattle.b67_lemmas.proofs.Members.{all_in, falls_low, keyed_has, total_append}
use Rattle.b67_model.specs.Words as Words
use Rattle.b67_model.specs.Common.{Word, Frame, Standing, Marked, Entered, Return, Array, Ready, Task, JobConstants, Job, OperatorContext, top, below_top, height, with_task, level_of_frame, running, Starts, Known, WordInOrder, NoCopyUnder, CopiesAbove, is_original_of, known_numbers, known_of, from_frame, outer_of, EnvironmentInOrder, StandsInOrder, ReturnsInOrder, CellsInOrder, TaskInOrder, originals_in, TasksInOrder}
use Rattle.b67_law.proofs.Reaches.{alike_same, known_number}
use Rattle.b67_law.proofs.Replaced.{replaced}
use Rattle.b67_law.proofs.Changes.{Change, fresh_frame, change_cells, change_enter, change_replaces}
use Rattle.b67_layout.proofs.Fresh.{critical-below}
use Rattle.b67_layout.proofs.Tops.{task_on}

-- its identity isn't that of what lies in its reach
pub top_apart : (bound : ℕ) (fs : List Frame) (outer : List Known) (n : ℕ) (s : Standing) → fs ≢ [] → Falls bound (known_numbers (map known_of fs ++ outer)) → Has (map known_of (below_top fs) ++ outer) (n, s) → (top fs).identity ≢ n
top_apart bound fs outer n s some falls k = grind (arith, falls_low, known_number)

-- cells in order stay so without the first one
all_front : (Q : Word → Type 0) (xs : List Word) (y : Word) → AllByRecursion Q (xs ++ y ∷ []) → AllByRecursion Q xs
all_front Q [] y all = tt
all_front Q (x ∷ xs) y all = (all.0, all_front Q xs y all.1)

no_copy_front : (w : Word) (xs : List Word) (y : Word) → NoCopyUnder w (xs ++ y ∷ []) → NoCopyUnder w xs
no_copy_front w xs y none = grind (arith, total_append)

copies_front : (xs : List Word) (y : Word) → CopiesAbove (xs ++ y ∷ []) → CopiesAbove xs
copies_front [] y c = tt
copies_front (x ∷ xs) y c = (no_copy_front x xs y c.0, copies_front xs y c.1)

pub cells_front : (P : Starts) (arrays : List Array) (known : List Known) (owner : ℕ) (xs : List Word) (y : Word) → CellsInOrder P arrays known owner (xs ++ y ∷ []) → CellsInOrder P arrays known owner xs
cells_front P arrays known owner xs y c = (all_front (WordInOrder P arrays known owner) xs y c.0, copies_front xs y c.1)

-- the same originals where the first cell, which is none, gives way to the return
pub originals_entered : (n : ℕ) (fs : List Frame) (standing : Standing) (xs : List Word) (y : Word) → fs ≢ [] → (top fs).cells ≡ xs ++ y ∷ [] → is_original_of n y ≡ false
    → originals_in n (record (top fs) { standing = standing; cells = xs } ∷ below_top fs) ≡ originals_in n fs
originals_entered n fs standing xs y some e plain = grind (arith, total_append)

-- as many words
pub height_entered : (fs : List Frame) (level environment : ℕ) (back : Return) (xs : List Word) (y : Word) → fs ≢ [] → (top fs).standing ≡ Marked → (top fs).cells ≡ xs ++ y ∷ []
    → height (record (top fs) { standing = Entered level environment (Some back); cells = xs } ∷ below_top fs) ≡ height fs
height_entered fs level environment back xs y some marked e = grind (arith, length-append)

module _ (P : Starts) (constants : JobConstants) (job : Job) (t : Task) (g : TasksInOrder P constants job) (found : keyed (λ (u : Task). u.number) t.number job.tasks ≡ Some t) where
  abbrev pub at : OperatorContext
  at = record { constants = constants; job = job; task = t; at = t.place }

  own : TaskInOrder P constants job t
  own = all_in (TaskInOrder P constants job) job.tasks t g.tasks (keyed_has (λ (u : Task). u.number) t.number job.tasks t found).0

  -- the task's frames as they are
  pub start : Change P (record { constants = constants; job = job; task = t; at = t.place }) job.arrays t.frames job.next_frame
  start = record {
    order = own.frames;
    returns = own.returns;
    some = own.some;
    falls = own.falls;
    up = omega arith;
    alike = λ u k. alike_same (map known_of (from_frame u.critical t.frames));
    stays = λ u k c. c;
    fewer = λ n low. omega arith;
  }

  -- a fresh frame on top
  pub push : (frames : List Frame) (standing : Standing) → Change P at job.arrays frames job.next_frame → StandsInOrder (map known_of frames ++ outer_of job t) standing → ReturnsInOrder P standing frames
      → Change P at job.arrays (fresh_frame at standing ∷ frames) (job.next_frame + 1)
  push frames standing c stands returns = record {
    order = ((tt, tt), stands, c.order);
    returns = (returns, c.returns);
    some = λ e. cc;
    falls = (omega arith, c.falls);
    up = omega arith;
    alike = λ u k. elim (eqb_tells job.next_frame u.critical) [
      | inl e ↦ absurd (omega (arith, e.1, critical-below P constants job g u k))
      | inr e ↦ rw e.0 (c.alike u k)
    ];
    stays = λ u k i. inr (c.stays u k i);
    fewer = λ n low. elim (eqb_tells job.next_frame n) [
      | inl e ↦ absurd (omega (arith, e.1, low))
      | inr e ↦ rw e.0 (omega (arith, c.fewer n low))
    ];
  }

  -- the marked frame on top, with these cells, is entered
  pub enter : (frames : List Frame) (next level environment : ℕ) (back : Return) (cells : List Word) → Change P at job.arrays frames next → CellsInOrder P job.arrays (map known_of frames ++ outer_of job t) (top frames).identity cells → (top frames).standing ≡ Marked
      → EnvironmentInOrder (map known_of (below_top frames) ++ outer_of job t) level environment → ReturnsInOrder P (Entered level environment (Some back)) (below_top frames)
      → Change P at job.arrays (record (top frames) { standing = Entered level environment (Some back); cells = cells } ∷ below_top frames) next
  enter [] next level environment back cells c words marked stands returns = absurd (c.some refl)
  enter (f ∷ below) next level environment back cells c words marked stands returns =
      change_enter P at job.arrays (record f { cells = cells }) below next level environment back (change_cells P at job.arrays (f ∷ below) next cells c words) marked stands returns

  -- the job with the task that goes on with these frames, and is ready
  pub ready_with : (frames : List Frame) (next segment : ℕ) (place : Place) → Change P at job.arrays frames next → height frames ≤ constants.stack_size
      → P segment (level_of_frame (running frames)) place → ((n : ℕ) → originals_in n frames ≡ originals_in n t.frames)
      → TasksInOrder P constants (with_task (record job { next_frame = next }) (task_on t frames segment place Ready))
  ready_with frames next segment place c low starts same =
      replaced P constants job t (with_task (record job { next_frame = next }) (task_on t frames segment place Ready)) (task_on t frames segment place Ready) g found
      (change_replaces P at frames next segment place Ready job.numbers g c low starts tt same g.reads)
