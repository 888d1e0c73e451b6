-- A task without its top frame, whose arrays are gone, is in order, where it is ready then.
use Rattle.std.proofs.Common.{◌≡◌, ◌≢◌, ℕ, ◌+◌, ◌≤◌, not, eqb, List, [], ◌∷◌, ◌++◌, map, refl, sym, ap, ◌∙◌, subst, inl, inr, arith}
use Rattle.std.proofs.lemmas.Bool.Decides.{eqb_tells}
use Rattle.std.proofs.lemmas.Bool.{true≢false}
use Rattle.b67_word.specs.declared.couples.Place.{Place}
use Rattle.b67_lemmas.specs.Lists.{Has}
use Rattle.b67_lemmas.proofs.Members.{all_from, all_in, falls_filter, falls_low, has_filter, has_filter_in, none_pass}
use Rattle.b67_model.specs.Common.{Frame, Array, Ready, Task, JobConstants, Job, OperatorContext, height, with_task, level_of_frame, running, without_arrays_of, Starts, known_of, known_numbers, from_frame, outer_of, WordInOrder, TaskInOrder, ArrayInOrder, is_original_of, originals_in, originals_of, frames_named, TasksInOrder, IsSegment}
use Rattle.b67_law.proofs.Reaches.{Alike, alike_same, Stays}
use Rattle.b67_law.proofs.Replaced.{Replaced, replaced, outer_kept}
use Rattle.b67_law.proofs.Changes.{Change, change_drop, change_arrays}
use Rattle.b67_law.proofs.Entries.{none_original}
use Rattle.b67_law.proofs.RowSteps.{originals}
use Rattle.b67_layout.proofs.Common.{others, high, live}
use Rattle.b67_layout.proofs.Nowhere.{MayLeave, uncritical}
use Rattle.b67_layout.proofs.Leaves.{task_at}

module _ (constants : JobConstants) (job : Job) (t : Task) (f : Frame) (below : List Frame) (may : MayLeave constants job t f below) where
  P : Starts
  P = IsSegment constants

  abbrev pub at : OperatorContext
  at = record { constants = constants; job = job; task = t; at = t.place }

  own : TaskInOrder (IsSegment constants) constants job t
  own = all_in (TaskInOrder (IsSegment constants) constants job) job.tasks t may.top.order.tasks (live constants job t f below may.top)

  -- the task's frames as they are
  start : Change (IsSegment constants) at job.arrays (f ∷ below) job.next_frame
  start = subst (λ (fs : List Frame). Change (IsSegment constants) at job.arrays fs job.next_frame) may.top.frames (record {
    order = own.frames;
    returns = own.returns;
    some = own.some;
    falls = own.falls;
    up = omega arith;
    alike = λ u k. alike_same (map known_of (from_frame u.critical t.frames));
    stays = λ u k c. c;
    fewer = λ n low. omega arith;
  })

  stays_by : (a : Array) → Has job.arrays a → a.owner ≢ f.identity → Stays (others f.identity job.arrays) a
  stays_by a k other = grind (arith, has_filter_in)

  -- without the frame
  pub dropped : below ≢ [] → Change (IsSegment constants) at (others f.identity job.arrays) below job.next_frame
  dropped some =
      let c = change_drop (IsSegment constants) at job.arrays f below job.next_frame start (uncritical constants job t f below may) some in
      change_arrays (IsSegment constants) at job.arrays (others f.identity job.arrays) below job.next_frame c
      (λ a k at. stays_by a k (λ e. let low = falls_low f.identity (known_numbers (map known_of below ++ outer_of job t)) a.owner start.falls.1 at in omega (arith, low, e)))

  replaces : (segment : ℕ) (place : Place) → below ≢ [] → IsSegment constants segment (level_of_frame (running below)) place
      → Replaced (IsSegment constants) constants job t (with_task (without_arrays_of f.identity job) (task_at t below segment place Ready)) (task_at t below segment place Ready)
  replaces segment place some starts =
      let new : Task = task_at t below segment place Ready in
      let c = dropped some in
      let count : frames_named f.identity below + 1 ≤ frames_named f.identity t.frames = subst (λ (fs : List Frame). frames_named f.identity below + 1 ≤ frames_named f.identity fs) (sym may.top.frames) (elim (eqb_tells f.identity f.identity) [ inl e ↦ rw e.0 (omega arith) | inr e ↦ absurd (e.1 refl) ]) in
      let fewer : height below ≤ height t.frames = subst (λ (fs : List Frame). height below ≤ height fs) (sym may.top.frames) (omega arith) in
      record {
        number = refl;
        line = refl;
        critical = refl;
        tasks = refl;
        next_task = refl;
        next_frame = omega arith;
        frames = c.order;
        returns = c.returns;
        some = c.some;
        falls = c.falls;
        not_higher = omega (arith, fewer, own.not_higher);
        place = starts;
        condition = tt;
        alike = c.alike;
        stays = c.stays;
        fewer = c.fewer;
        kept = λ a k. elim (eqb_tells a.owner f.identity) [
          | inl e ↦ record { case = inr (omega (arith, high constants job t f below may.top, e.1), subst (λ (m : ℕ). frames_named m below + 1 ≤ frames_named m t.frames) (sym e.1) count) }
          | inr e ↦ record { case = inl (stays_by a k e.1) }
        ];
        arrays = all_from ArrayInOrder (others f.identity job.arrays) (λ a k. all_in ArrayInOrder job.arrays a may.top.order.arrays (has_filter (λ (x : Array). not (eqb x.owner f.identity)) job.arrays a k).0);
        once = λ a k.
            let inside = has_filter (λ (x : Array). not (eqb x.owner f.identity)) job.arrays a k in
            let other : a.owner ≢ f.identity = λ e. elim (eqb_tells a.owner f.identity) [ inl s ↦ true≢false (sym inside.1 ∙ rw s.0 refl) | inr s ↦ s.1 e ] in
            let none : originals a.identity f.cells ≡ 0 = none_pass (is_original_of a.identity) f.cells (λ w j.
            none_original job (IsSegment constants) (map known_of (f ∷ below) ++ outer_of job t) f.identity a may.top.order.names inside.0 other w (all_in (WordInOrder (IsSegment constants) job.arrays (map known_of (f ∷ below) ++ outer_of job t) f.identity) f.cells w start.order.0.0 j)) in
            let split : originals_in a.identity t.frames ≡ originals a.identity f.cells + originals_in a.identity below = ap (originals_in a.identity) may.top.frames in
            omega (arith, split, none, all_in (λ (x : Array). originals_of x.identity constants job ≡ 1) job.arrays a may.top.order.once inside.0);
        names = falls_filter (λ (x : Array). x.identity) (λ (x : Array). not (eqb x.owner f.identity)) job.next_array job.arrays may.top.order.names;
        reads = may.top.order.reads;
      }

  pub left_ready : (segment : ℕ) (place : Place) → below ≢ [] → IsSegment constants segment (level_of_frame (running below)) place
      → TasksInOrder (IsSegment constants) constants (with_task (without_arrays_of f.identity job) (task_at t below segment place Ready))
  left_ready segment place some starts =
      replaced (IsSegment constants) constants job t (with_task (without_arrays_of f.identity job) (task_at t below segment place Ready)) (task_at t below segment place Ready) may.top.order may.top.there (replaces segment place some starts)

  -- what lies outside the task's frames is alike
  pub left_outer : (segment : ℕ) (place : Place) → below ≢ [] → IsSegment constants segment (level_of_frame (running below)) place
      → Alike (outer_of job t) (outer_of (with_task (without_arrays_of f.identity job) (task_at t below segment place Ready)) (task_at t below segment place Ready))
  left_outer segment place some starts =
      outer_kept (IsSegment constants) constants job t (with_task (without_arrays_of f.identity job) (task_at t below segment place Ready)) (task_at t below segment place Ready) may.top.order may.top.there (replaces segment place some starts)
