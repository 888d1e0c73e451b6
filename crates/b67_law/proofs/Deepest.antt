-- The tasks that are left, deepest first, and the endings of a step with DEADLOCK.
use Rattle.std.proofs.Common.{◌≡◌, ℕ, zero, suc, Bool, true, false, not, List, [], ◌∷◌, ◌++◌, map, filter, length, refl, sym, ap, ◌∙◌, append-nil, arith}
use Rattle.std.specs.Prelude.{◌==◌}
use Rattle.std.specs.List.{list_all}
use Rattle.std.proofs.lemmas.List.{map-append}
use Rattle.std.proofs.lemmas.List.Elements.{filter-append}
use Rattle.b67_word.specs.declared.faults.Ending.{Ending}
use Rattle.b67_word.specs.declared.faults.Ending.TheVariants.{Deadlock}
use Rattle.b67_lemmas.proofs.Members.{reverse_cons}
use Rattle.b67_model.specs.Common.{Task, Job, among, released, at_depth, deepest_below, deepest_first, all_with, is_ready, Settled, ends_each_if, ends_task, deadlocked}

-- numbers without some
abbrev pub others : List ℕ → List ℕ → List ℕ
others numbers ns = filter (λ (n : ℕ). not (among numbers n)) ns

abbrev left : List ℕ → List Task → List Task
left numbers tasks = map (λ (t : Task). record t { condition = released numbers t.condition }) (filter (λ (t : Task). not (among numbers t.number)) tasks)

module _ (numbers : List ℕ) (depth : ℕ) where
  abbrev at : Task → Bool
  at t = length t.parents == depth

  abbrev stays : ℕ → Bool
  stays n = not (among numbers n)

  own : List Task → List ℕ
  own ts = map (λ (t : Task). t.number) (filter at ts)

  depth_cons : (t : Task) (ts : List Task) → at_depth depth (t ∷ ts) ≡ at_depth depth ts ++ map (λ (u : Task). u.number) (filter at (t ∷ []))
  depth_cons t ts = grind (arith, reverse_cons, filter-append, map-append)

  -- one task more
  with_one : (t : Task) (ts : List Task) → at_depth depth (left numbers ts) ≡ others numbers (at_depth depth ts) → (b : Bool) → stays t.number ≡ b → (d : Bool) → at t ≡ d
      → at_depth depth (left numbers (t ∷ ts)) ≡ others numbers (at_depth depth ts ++ map (λ (u : Task). u.number) (filter at (t ∷ [])))
  with_one t ts e b s d a = grind (arith, depth_cons, filter-append, append-nil)

  depth_left : (ts : List Task) → at_depth depth (left numbers ts) ≡ others numbers (at_depth depth ts)
  depth_left [] = refl
  depth_left (t ∷ ts) = with_one t ts (depth_left ts) (stays t.number) refl (at t) refl ∙ ap (others numbers) (sym (depth_cons t ts))

below_left : (numbers : List ℕ) (depth : ℕ) (ts : List Task) → deepest_below depth (left numbers ts) ≡ others numbers (deepest_below depth ts)
below_left numbers zero ts = refl
below_left numbers (suc depth) ts = grind (arith, depth_left, filter-append, below_left numbers depth ts)

-- who is left of a job once these have ended
pub deepest_left : (numbers : List ℕ) (ts : List Task) → deepest_first (left numbers ts) ≡ others numbers (deepest_first ts)
deepest_left numbers ts = below_left numbers 15 ts

-- ---- the endings of a step in which a task ends by itself

abbrev pub numbers_of : List (ℕ × Ending) → List ℕ
numbers_of endings = map (λ (e : ℕ × Ending). e.0) endings

abbrev pub with_stuck : Bool → List (ℕ × Ending) → List Task → List (ℕ × Ending)
with_stuck true endings tasks = endings ++ all_with Deadlock (others (numbers_of endings) (deepest_first tasks))
with_stuck false endings tasks = endings

-- whether none is ready then
abbrev pub is_stuck : Job → ℕ → Ending → Bool
is_stuck job number ending = list_all (λ t. not (is_ready t)) (ends_task job number ending).job.tasks

pub first_endings : (job : Job) (number : ℕ) (ending : Ending) → (deadlocked (ends_task job number ending)).endings ≡ with_stuck (is_stuck job number ending) (ends_task job number ending).endings job.tasks
first_endings job number ending = by (is_stuck job number ending)
  where
    z : Settled
    z = ends_task job number ending

    by : (b : Bool) → (ends_each_if b Deadlock z).endings ≡ with_stuck b z.endings job.tasks
    by true = ap (λ (ns : List ℕ). z.endings ++ all_with Deadlock ns) (deepest_left (numbers_of z.endings) job.tasks)
    by false = refl
