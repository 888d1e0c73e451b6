-- Which task is chosen.
use Rattle.std.proofs.Common.{◌≡◌, ℕ, Bool, true, false, not, List, [], ◌∷◌, ◌++◌, filter, Option, Some, None, refl, sym, ap, ◌∙◌, subst, arith}
use Rattle.std.specs.Prelude.{◌==◌, ◌&&◌, ◌||◌, nat_lt, find, flat_map}
use Rattle.std.specs.List.{list_any}
use Rattle.b67_lemmas.proofs.Members.{all_in, keyed_falls}
use Rattle.b67_model.specs.Common.{Ready, Task, SessionJob, Who, Session, Choice, is_same, is_before, ready_of, ready, afresh, switched, first, choice_by, choice, number_of, IsSegment, JobInOrder, IsInOrderButPlaces}
use Rattle.b67_model.specs.Keyed.{keyed}
use Rattle.b67_model.specs.Schedule.{goes_on}
use Rattle.b67_law.specs.Weaker.{AllOtherNumbers}
use Rattle.b67_law.proofs.Chosen.{chosen, keyed_numbered}
use Rattle.b67_law.specs.Turns.{IsNext, ChoiceIgnoresNumbers, ChosenTasksAreReady}

-- ---- by who is ready

ready_others : (ms ns : List SessionJob) → AllOtherNumbers ms ns → flat_map ready_of ns ≡ flat_map ready_of ms
ready_others [] [] o = refl
ready_others (m ∷ ms) (n ∷ ns) o = grind (arith, ready_others ms ns o.1)
ready_others [] (n ∷ ns) o = absurd o
ready_others (m ∷ ms) [] o = absurd o

abbrev by_ready : Who → ℕ → List Who → Option Who → Bool → Option Choice
by_ready last turn rs (Some who) on = afresh (Some who)
by_ready last turn rs None true = Some (record { who = last; turn = turn })
by_ready last turn rs None false = afresh (first (filter (is_before last) rs ++ filter (λ who. not (is_before last who)) rs))

by_is : (s : Session) (o : Option Who) (on : Bool) → choice_by s o on ≡ by_ready s.last s.turn (ready s) o on
by_is s o on = grind arith

abbrev chosen_from : Session → List Who → Option Choice
chosen_from s rs =
    by_ready s.last s.turn rs
    (find (λ who. list_any (λ switch. (switch.count == s.made) && is_same switch.to who) s.switches) rs)
    (list_any (is_same s.last) rs && (list_any (λ switch. nat_lt s.made switch.count) s.switches || nat_lt s.turn s.quantum))

from_is : (s : Session) → choice s ≡ chosen_from s (ready s)
from_is s = by_is s (switched s) (goes_on s)

pub choice_ignores_numbers : ChoiceIgnoresNumbers
choice_ignores_numbers s jobs o =
    let other : Session = record s { jobs = jobs } in
    from_is other ∙ ap (chosen_from other) (ready_others s.jobs jobs o) ∙ sym (from_is s)

-- ---- the task

pub chosen_tasks_are_ready : ChosenTasksAreReady
chosen_tasks_are_ready s c o is =
    let k = chosen s c is in
    let m = k.who.member in
    let t = k.who.task in
    let j = all_in (λ (x : SessionJob). JobInOrder (IsSegment x.constants) x.constants x.progress) s.jobs m o.jobs k.who.among in
    let member : keyed number_of c.who.job s.jobs ≡ Some m = subst (λ (n : ℕ). keyed number_of n s.jobs ≡ Some m) k.who.named (keyed_numbered 1 s.jobs m o.numbered k.who.among) in
    let task : keyed (λ (u : Task). u.number) c.who.task m.progress.job.tasks ≡ Some t =
    subst (λ (n : ℕ). keyed (λ (u : Task). u.number) n m.progress.job.tasks ≡ Some t) k.who.numbered
    (keyed_falls (λ (u : Task). u.number) m.progress.job.next_task m.progress.job.tasks t j.tasks.numbers k.who.lives) in
    let n : IsNext s m t = record { chosen = c; is = is; member = member; task = task } in
    (m, t, n, refl, k.who.ready)

-- the same of the task that is known to be the next one
pub next_is_ready : (s : Session) (m : SessionJob) (t : Task) → IsInOrderButPlaces s → IsNext s m t → t.condition ≡ Ready
next_is_ready s m t o n = grind (arith, chosen_tasks_are_ready)
