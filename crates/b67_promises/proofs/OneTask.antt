-- A job that never calls PROCESS has one task at most.
use Rattle.std.proofs.Common.{◌≡◌, ◌≤◌, ◌<◌, ⊎_elim, inl, inr, ◌⊎◌, ℕ, zero, suc, List, [], ◌∷◌, length, refl, sym, ap, subst, ◌∙◌, arith, Option, Some, None}
use Rattle.std.specs.Prelude.{IfSome}
use Rattle.std.proofs.lemmas.Bool.{cases_lt}
use Rattle.std.proofs.lemmas.Bool.Decides.{eqb_tells}
use Rattle.std.proofs.lemmas.List.Sums.{sum_by-cons}
use Rattle.b67_lemmas.specs.Lists.{Has, total}
use Rattle.b67_lemmas.proofs.Members.{all_in}
use Rattle.b67_model.specs.declared.operators.Op.{Op}
use Rattle.b67_model.specs.Keyed.{change_keyed}
use Rattle.b67_model.specs.Common.{Frame, Standing, Marked, Entered, Task, SessionJob, Session, Choice, StepResult, called, moment_by, next, after, after_from, live_tasks, number_of, ready, Starts, IsStart, StackInOrder, ReturnsInOrder, frames_named, IsInOrder}
use Rattle.b67_law.specs.Made.{MakesMark, by_process}
use Rattle.b67_law.specs.RunMade.{EarlierStep, FrameMadeInRun, context}
use Rattle.b67_session_lines.specs.Stops.{live_after}
use Rattle.b67_job.specs.Device.{Device}
use Rattle.b67_job.specs.States.{IsMadeByOperators}
use Rattle.b67_job.specs.Runs.{run_of}
use Rattle.b67_promises.specs.Switches.{NeverTwoReady, CallsProcess}
use Rattle.b67_promises.proofs.OneStack.{ready_live, none_later}
use Rattle.b67_promises.proofs.MoreCore.{WholeRun}
use denote.Ref.{Bor}

-- ---- a session has as many jobs as before

length_changed : {A : Type 0} (key : A → ℕ) (n : ℕ) (f : A → A) (xs : List A) → length (change_keyed key n f xs) ≡ length xs
length_changed key n f [] = refl
length_changed key n f (y ∷ ys) = elim (eqb_tells (key y) n) [ inl t ↦ rw t.0 refl | inr t ↦ rw t.0 (ap suc (length_changed key n f ys)) ]

abbrev jobs_in : Option StepResult → List SessionJob
jobs_in None = []
jobs_in (Some x) = x.session.jobs

jobs_by_member : (s : Session) (c : Choice) (o : Option SessionJob) (r : StepResult) → moment_by s c o ≡ Some r → length r.session.jobs ≡ length s.jobs
jobs_by_member s c o r e = grind (arith, length_changed)

jobs_next : (s : Session) (r : StepResult) → next s ≡ Some r → length r.session.jobs ≡ length s.jobs
unfolding next
jobs_next s r e = grind (arith, jobs_by_member)

jobs_from : (n : ℕ) (s : Session) (o : Option StepResult) → next s ≡ o → ((t : Session) → length (after n t).jobs ≡ length t.jobs) → length (after_from (suc n) s o).jobs ≡ length s.jobs
jobs_from n s o e rest = grind (arith, jobs_next)

jobs_after : (n : ℕ) (s : Session) → length (after n s).jobs ≡ length s.jobs
jobs_after zero s = refl
jobs_after (suc n) s = jobs_from n s (next s) refl (jobs_after n)

-- ---- the frame that nothing returns from

record Bottom (frames : List Frame) : Type 0 where
  pub frame : Frame
  pub among : Has frames frame
  pub level : ℕ
  pub environment : ℕ
  pub stands : frame.standing ≡ Entered level environment None

lone_frame : (P : Starts) (f : Frame) (z : Standing) → f.standing ≡ z → StackInOrder P (f ∷ []) → Bottom (f ∷ [])
lone_frame P f Marked e h = absurd ((subst (λ (x : Standing). ReturnsInOrder P x []) e h.0) refl)
lone_frame P f (Entered level environment None) e h = record { frame = f; among = inl refl; level = level; environment = environment; stands = e }
lone_frame P f (Entered level environment (Some back)) e h = absurd ((subst (λ (x : Standing). ReturnsInOrder P x []) e h.0).0 refl)

bottom : (P : Starts) (frames : List Frame) → (frames ≡ [] → ⊥) → StackInOrder P frames → Bottom frames
bottom P [] some h = absurd (some refl)
bottom P (f ∷ []) some h = lone_frame P f f.standing refl h
bottom P (f ∷ g ∷ more) some h = grind (arith, bottom P (g ∷ more))

-- without PROCESS it is the outer block's
not_made : {op : Op} {call : Option ℕ} {level environment : ℕ} → MakesMark op call (Entered level environment None) → call ≡ Some 12
not_made (by_process o c) = c

process_made : (op : Op) (call : Option ℕ) (z : Standing) (level environment : ℕ) → z ≡ Entered level environment None → MakesMark op call z → call ≡ Some 12
process_made op call z level environment is made = not_made (subst (λ (x : Standing). MakesMark op call x) is made)

named_two : (frames : List Frame) (f : Frame) → Has frames f → f.identity ≡ 2 → 1 ≤ frames_named 2 frames
named_two [] f h e = absurd h
named_two (g ∷ frames) f (inl is) e = grind arith
named_two (g ∷ frames) f (inr h) e = let few = named_two frames f h e in omega (arith, few)

each_once : (tasks : List Task) → ((t : Task) → Has tasks t → 1 ≤ frames_named 2 t.frames) → length tasks ≤ total (λ (t : Task). frames_named 2 t.frames) tasks
each_once [] all = omega arith
each_once (t ∷ tasks) all = grind (arith, each_once tasks)

-- ---- a session of one job

frame_named : (first : Session) (j job : ℕ) (frames : List Frame) (b : Bottom frames) → FrameMadeInRun first j job b.frame → (CallsProcess first j job → ⊥) → 1 ≤ frames_named 2 frames
frame_named first j job frames b how none = by_mark how.mark
  where
    by_mark : ((b.frame.identity ≡ 2) × (b.frame.standing ≡ Entered 2 1 None)) ⊎ EarlierStep first j job (λ op call. MakesMark op call b.frame.standing) → 1 ≤ frames_named 2 frames
    by_mark (inl outer) = named_two frames b.frame b.among outer.0
    by_mark (inr step) =
        let calls : CallsProcess first j job = record {
          steps_before = step.steps_before;
          earlier = step.earlier;
          number = step.number;
          op = step.op;
          ran = step.ran;
          made = process_made step.op (called step.op (context step.ran)) b.frame.standing b.level b.environment b.stands step.made;
        } in
        absurd (none calls)

first_frame : (first : Session) (j : ℕ) → IsInOrder (after j first) → IsMadeByOperators j first → ((job : ℕ) → CallsProcess first j job → ⊥)
    → (m : SessionJob) (t : Task) → Has (after j first).jobs m → Has m.progress.job.tasks t → 1 ≤ frames_named 2 t.frames
first_frame first j order made none m t h k =
    let good = all_in _ m.progress.job.tasks t (all_in _ (after j first).jobs m order.jobs h).tasks.tasks k in
    let b = bottom (IsStart m.constants) t.frames good.some good.returns in
    frame_named first j (number_of m) t.frames b (made m t b.frame h k b.among) (none (number_of m))

one_job : (first : Session) (j : ℕ) → length first.jobs ≡ 1 → IsInOrder (after j first) → IsMadeByOperators j first → ((job : ℕ) → CallsProcess first j job → ⊥) → live_tasks (after j first).jobs ≤ 1
one_job first j one order made none = by_jobs (after j first).jobs refl
  where
    by_jobs : (jobs : List SessionJob) → (after j first).jobs ≡ jobs → live_tasks jobs ≤ 1
    by_jobs [] e = omega arith
    by_jobs (m ∷ []) e =
        let h : Has (after j first).jobs m = subst (λ (js : List SessionJob). Has js m) (sym e) (inl refl) in
        let apart = (all_in _ (after j first).jobs m order.jobs h).tasks.apart 2 in
        let many = each_once m.progress.job.tasks (λ t k. first_frame first j order made none m t h k) in
        let sum = sum_by-cons (λ (n : SessionJob). length n.progress.job.tasks) m [] in
        omega (arith, apart, many, sum)
    by_jobs (m ∷ k ∷ more) e =
        let same : length (m ∷ k ∷ more) ≡ 1 = ap (λ (js : List SessionJob). length js) (sym e) ∙ jobs_after j first ∙ one in
        absurd (omega (arith, same))

-- ---- a whole run

module _ {S B : Type 0} {words : List (Bor (List ℕ))} {left : S → Option (List ℕ)} {deck deck' : S} {d : Device B} (w : WholeRun words left deck deck' d)
    (one : length (run_of w.p).session.jobs ≡ 1) (none : (n job : ℕ) → n ≤ w.k.tasks.made → CallsProcess (run_of w.p).session n job → ⊥) where
  pub never_two : (steps : ℕ) → IfSome (run_of w.p).halt (λ count. steps ≤ count) → NeverTwoReady steps (run_of w.p).session
  never_two steps within j less = ⊎_elim
      (λ (before : j < w.k.tasks.made). upto before)
      (λ (past : w.k.tasks.made ≤ j). by_last w.last past) (cases_lt j w.k.tasks.made)
    where
      upto : j < w.k.tasks.made → length (ready (after j (run_of w.p).session)) ≤ 1
      upto before =
          let few = one_job (run_of w.p).session j one (w.opens.in_order.ordered j (omega (arith, before))) (w.opens.in_order.made j (omega (arith, before))) (λ job. none j job (omega (arith, before))) in
          omega (arith, few, ready_live (after j (run_of w.p).session).jobs)

      by_last : (live_after w.k.tasks.made (run_of w.p).session ≡ 0) ⊎ ((run_of w.p).halt ≡ Some w.k.tasks.made) → w.k.tasks.made ≤ j → length (ready (after j (run_of w.p).session)) ≤ 1
      by_last (inl over) past = none_later w.k.tasks.made j (run_of w.p).session over past
      by_last (inr halt) past =
          let upto : steps ≤ w.k.tasks.made = subst (λ (o : Option ℕ). IfSome o (λ count. steps ≤ count)) halt within in
          absurd (omega (arith, upto, past, less))
