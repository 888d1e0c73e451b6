-- What is seen of a task's reach is the reach of what is shown.
use Rattle.std.proofs.Common.{◌≡◌, ℕ, zero, suc, List, [], ◌∷◌, ◌++◌, map, Option, Some, None, refl, sym, ◌∙◌, ap, arith}
use Rattle.std.proofs.lemmas.List.{map-append}
use Rattle.b67_lemmas.specs.Lists.{Has}
use Rattle.b67_lemmas.proofs.Members.{keyed_has}
use Rattle.b67_model.specs.Keyed.{keyed}
use Rattle.b67_model.specs.Common.{Frame, Task, Known, known_of, from_frame, frames_of_task, critical_of, outer_reach}
use Rattle.b67_stack.specs.Stacks.{StackPlace, Activation}
use Rattle.b67_layout.specs.Rows.{TaskRow, JobRow}
use Rattle.b67_layout_shown.specs.Places.{named}
use Rattle.b67_layout_shown.specs.Shown.{Sight, frame_seen, array_homed, frames_of, stack_of_row, parents_by, critical_by, job_seen}
use Rattle.b67_layout_shown.specs.Seen.{seen_in, from_disp, base_seen, seen_from, known_seen, RowsAreSound, ReachIsSeen}

module _ (k : Sight) (row : JobRow) (job : ℕ) (sound : RowsAreSound k row job) where
  abbrev frame : StackPlace → ℕ
  frame = frame_seen k.tasks job

  abbrev arrays : ℕ → ℕ
  arrays = array_homed k.regs k.tasks row

  in_slot : (r : TaskRow) → Has k.tasks r → (d : ℕ) → frame_seen k.tasks job (record { stack = r.slot; disp = d }) ≡ named r.number d
  in_slot r there d = grind arith

  own_seen : (r : TaskRow) → Has k.tasks r → (acts : List Activation) → map known_of (frames_of r.number (frame_seen k.tasks job) arrays acts) ≡ map (known_seen k job) (seen_in r.slot acts)
  own_seen r there [] = refl
  own_seen r there (a ∷ below) = grind (arith, own_seen r there below)

  from_same : (number disp : ℕ) (acts : List Activation) → from_frame (named number disp) (frames_of number (frame_seen k.tasks job) arrays acts) ≡ frames_of number (frame_seen k.tasks job) arrays (from_disp disp acts)
  from_same number disp [] = refl
  from_same number disp (a ∷ below) = grind (arith, from_same number disp below)

  base_known : map (known_seen k job) (base_seen job) ≡ outer_reach (job_seen k row job) 0 []
  base_known = grind arith

  outer_seen : (n disp : ℕ) (p : Option TaskRow) → ((q : TaskRow) → p ≡ Some q → Has k.tasks q × (q.job ≡ job))
      → outer_reach (job_seen k row job) (critical_by k.tasks disp p) (parents_by k.tasks n p) ≡ map (known_seen k job) (seen_from k job n disp p)
  outer_seen zero disp p inside = sym base_known
  outer_seen (suc n) disp None inside = sym base_known
  outer_seen (suc n) disp (Some p) inside =
      let here = inside p refl in
      let next = keyed (λ (q : TaskRow). q.slot) p.parent k.tasks in
      let rest = outer_seen n p.critical (keyed (λ (q : TaskRow). q.slot) p.parent k.tasks) (λ q e. ((keyed_has (λ (w : TaskRow). w.slot) p.parent k.tasks q e).0, sound.same p q here.0 here.1 e)) in
      let G : Option Task → List Known = λ t. map known_of (from_frame (named p.number disp) (frames_of_task t)) ++ outer_reach (job_seen k row job) (critical_of t) (parents_by k.tasks n (keyed (λ (q : TaskRow). q.slot) p.parent k.tasks)) in
      ap G (sound.task p here.0 here.1)
      ∙ ap (λ (fs : List Frame). map known_of fs ++ outer_reach (job_seen k row job) (critical_by k.tasks p.critical (keyed (λ (q : TaskRow). q.slot) p.parent k.tasks)) (parents_by k.tasks n (keyed (λ (q : TaskRow). q.slot) p.parent k.tasks))) (from_same p.number disp (stack_of_row k p))
      ∙ ap (λ (ks : List Known). ks ++ outer_reach (job_seen k row job) (critical_by k.tasks p.critical (keyed (λ (q : TaskRow). q.slot) p.parent k.tasks)) (parents_by k.tasks n (keyed (λ (q : TaskRow). q.slot) p.parent k.tasks))) (own_seen p here.0 (from_disp disp (stack_of_row k p)))
      ∙ ap (λ (ks : List Known). map (known_seen k job) (seen_in p.slot (from_disp disp (stack_of_row k p))) ++ ks) rest
      ∙ sym (map-append (known_seen k job) (seen_in p.slot (from_disp disp (stack_of_row k p))) (seen_from k job n p.critical (keyed (λ (q : TaskRow). q.slot) p.parent k.tasks)))

pub reach_seen : ReachIsSeen
reach_seen k row job sound r there e =
    let p = keyed (λ (q : TaskRow). q.slot) r.parent k.tasks in
    let outer = outer_seen k row job sound 15 r.critical (keyed (λ (q : TaskRow). q.slot) r.parent k.tasks) (λ q f. ((keyed_has (λ (w : TaskRow). w.slot) r.parent k.tasks q f).0, sound.same r q there e f)) in
    ap (λ (ks : List Known). ks ++ outer_reach (job_seen k row job) (critical_by k.tasks r.critical (keyed (λ (q : TaskRow). q.slot) r.parent k.tasks)) (parents_by k.tasks 15 (keyed (λ (q : TaskRow). q.slot) r.parent k.tasks))) (own_seen k row job sound r there (stack_of_row k r))
    ∙ ap (λ (ks : List Known). map (known_seen k job) (seen_in r.slot (stack_of_row k r)) ++ ks) outer
    ∙ sym (map-append (known_seen k job) (seen_in r.slot (stack_of_row k r)) (seen_from k job 15 r.critical (keyed (λ (q : TaskRow). q.slot) r.parent k.tasks)))
    ∙ ap (λ j. map (known_seen k job) (seen_in r.slot (stack_of_row k r) ++ seen_from k j 15 r.critical (keyed (λ (q : TaskRow). q.slot) r.parent k.tasks))) (sym e)
