-- A run stops with one status and one text.
use Rattle.std.proofs.Common.{◌≡◌, ◌≤◌, ◌+◌, ◌-◌, ℕ, zero, suc, false, List, [], ◌∷◌, length, map, reverse, refl, sym, ap, subst, ◌∙◌, arith, append-nil, append_assoc, Option, Some, None}
use Rattle.std.specs.Prelude.{◌&&◌, ◌||◌, ◌==◌, ◌++◌, not, nat_lt, find, filter, flat_map}
use Rattle.std.specs.List.{list_any}
use Rattle.std.proofs.lemmas.List.Sums.{sum_by-cons}
use Rattle.std.proofs.lemmas.Bool.Decides.{nat_tests}
use Rattle.b67_model.specs.Common.{Task, SessionJob, is_ready, Who, Session, is_same, is_before, ready_of, ready, afresh, switched, first, next_after, choice_by, choice, StepResult, next, moment_for, live_tasks, lines, lines_from, after, after_from, run_text}
use Rattle.b67_model.specs.Schedule.{goes_on}
use Rattle.b67_io.specs.Line.{ended}
use Rattle.b67_session_lines.specs.Stops.{Run, halted_line, StopsOnce, live_after, IsFinished, IsHalted, StopsWith, finished, halted, run_status}

-- ---- a session without tasks makes no step

none : {A : Type 0} (xs : List A) → length xs ≡ 0 → xs ≡ []
none [] e = refl
none (x ∷ xs) e = absurd (omega arith)

none-ready : (jobs : List SessionJob) → live_tasks jobs ≡ 0 → flat_map ready_of jobs ≡ []
none-ready [] e = refl
none-ready (m ∷ jobs) e =
    let both : length m.progress.job.tasks + live_tasks jobs ≡ 0 = sym (sum_by-cons (λ (m : SessionJob). length m.progress.job.tasks) m jobs) ∙ e in
    let own : m.progress.job.tasks ≡ [] = none m.progress.job.tasks (omega (arith, both)) in
    ap (λ (tasks : List Task). map (λ (t : Task). record { job = m.constants.number; task = t.number }) (filter is_ready (reverse tasks)) ++ flat_map ready_of jobs) own
    ∙ none-ready jobs (omega (arith, both))

none-chosen : (s : Session) → ready s ≡ [] → choice s ≡ None
none-chosen s e = grind arith

pub over-next : (s : Session) → live_tasks s.jobs ≡ 0 → next s ≡ None
unfolding next
over-next s e = ap (moment_for s) (none-chosen s (none-ready s.jobs e))

-- ---- steps after steps

after-stays : (n : ℕ) (s : Session) → next s ≡ None → after n s ≡ s
after-stays n s e = grind arith

one-more : (k m : ℕ) (s : Session) → ((t : Session) → after (k + m) t ≡ after m (after k t)) → (o : Option StepResult) → next s ≡ o → after_from (suc (k + m)) s o ≡ after m (after_from (suc k) s o)
one-more k m s more o e = grind arith

pub after-add : (k m : ℕ) (s : Session) → after (k + m) s ≡ after m (after k s)
after-add zero m s = let same : 0 + m ≡ m = omega arith in ap (λ n. after n s) same
after-add (suc k) m s = let same : suc k + m ≡ suc (k + m) = omega arith in ap (λ n. after n s) same ∙ one-more k m s (after-add k m) (next s) refl

-- a session whose tasks have ended stays so
pub over-stays : (k n : ℕ) (s : Session) → live_after k s ≡ 0 → k ≤ n → live_after n s ≡ 0
over-stays k n s e le =
    let same : n ≡ k + (n - k) = omega arith in
    ap (λ i. live_after i s) same ∙ ap (λ (t : Session). live_tasks t.jobs) (after-add k (n - k) s ∙ after-stays (n - k) (after k s) (over-next (after k s) e)) ∙ e

no-lines : (n : ℕ) (s : Session) → next s ≡ None → lines n s ≡ []
no-lines n s e = grind arith

more-lines : (k m : ℕ) (s : Session) → ((t : Session) → lines (k + m) t ≡ lines k t ++ lines m (after k t)) → (o : Option StepResult) → next s ≡ o
    → lines_from (suc (k + m)) o ≡ lines_from (suc k) o ++ lines m (after_from (suc k) s o)
more-lines k m s more None e = sym (no-lines m s e)
more-lines k m s more (Some n) e = ap (λ ls. n.lines ++ ls) (more n.session) ∙ sym (append_assoc n.lines (lines k n.session) (lines m (after k n.session)))

lines-add : (k m : ℕ) (s : Session) → lines (k + m) s ≡ lines k s ++ lines m (after k s)
lines-add zero m s = let same : 0 + m ≡ m = omega arith in ap (λ n. lines n s) same
lines-add (suc k) m s = let same : suc k + m ≡ suc (k + m) = omega arith in ap (λ n. lines n s) same ∙ more-lines k m s (lines-add k m) (next s) refl

-- and prints no more
over-lines : (k n : ℕ) (s : Session) → live_after k s ≡ 0 → k ≤ n → lines n s ≡ lines k s
over-lines k n s e le =
    let same : n ≡ k + (n - k) = omega arith in
    ap (λ i. lines i s) same ∙ lines-add k (n - k) s ∙ ap (λ ls. lines k s ++ ls) (no-lines (n - k) (after k s) (over-next (after k s) e)) ∙ append-nil (lines k s)

-- ---- one status

pub finished-status : (r : Run) (text : List ℕ) → IsFinished r text → run_status r ≡ 0
finished-status r text f = grind (arith, over-stays)

pub halted-status : (r : Run) (text : List ℕ) → IsHalted r text → run_status r ≡ 3
halted-status r text h = let lives : (live_after h.count r.session == 0) ≡ false = let some = h.lives in grind (arith, nat_tests) in rw (h.halt, lives) refl

pub stops-with : (r : Run) (status : ℕ) (text : List ℕ) → StopsWith r status text → status ≡ run_status r
stops-with r status text (finished e f) = e ∙ sym (finished-status r text f)
stops-with r status text (halted e h) = e ∙ sym (halted-status r text h)

-- ---- one text

one-end : (r : Run) (text text' : List ℕ) → IsFinished r text → IsFinished r text' → text ≡ text'
one-end r text text' f g = grind (arith, over-lines)

one-halt : (r : Run) (text text' : List ℕ) → IsHalted r text → IsHalted r text' → text ≡ text'
one-halt r text text' h i = grind arith

three : (n : ℕ) → n ≡ 0 → n ≡ 3 → ⊥
three n e f = omega arith

one-text : (r : Run) (status : ℕ) (text text' : List ℕ) → StopsWith r status text → StopsWith r status text' → text ≡ text'
one-text r status text text' (finished e f) (finished e' g) = one-end r text text' f g
one-text r status text text' (halted e h) (halted e' i) = one-halt r text text' h i
one-text r status text text' (finished e f) (halted e' i) = absurd (three status e e')
one-text r status text text' (halted e h) (finished e' g) = absurd (three status e' e)

pub stops-once : StopsOnce
stops-once r status status' text text' s t =
    let same : status ≡ status' = stops-with r status text s ∙ sym (stops-with r status' text' t) in
    (same, one-text r status' text text' (subst (λ n. StopsWith r n text) same s) t)
