-- Numbers that differ are few, and each live task has one slot.
use Rattle.std.proofs.Common.{◌≡◌, ◌≢◌, ℕ, ◌+◌, ◌≤◌, List, [], ◌∷◌, map, flat_map, length, refl, sym, ◌∙◌, arith, inl, inr, ⊎_elim, subst, length-append}
use Rattle.std.proofs.lemmas.List.{length-map}
use Rattle.std.proofs.lemmas.List.Sums.{sum_by-cons}
use Rattle.b67_lemmas.specs.Lists.{Has}
use Rattle.b67_model.specs.Common.{Task, SessionJob, live_tasks}
use Rattle.b67_layout.specs.Common.{Placement, slot_of, Differ}

-- the slots of a job's live tasks
abbrev pub slots_of : Placement → SessionJob → List ℕ
slots_of plan m = map (λ (t : Task). slot_of plan m.constants.number t.number) m.progress.job.tasks

-- a list without one of its numbers
record Without (ys : List ℕ) (n : ℕ) : Type 0 where
  pub rest : List ℕ
  pub shorter : length ys ≡ length rest + 1
  pub others : (k : ℕ) → k ≢ n → Has ys k → Has rest k

without : (ys : List ℕ) (n : ℕ) → Has ys n → Without ys n
without [] n h = absurd h
without (y ∷ ys) n (inl e) = record { rest = ys; shorter = omega arith; others = λ k ne h. ⊎_elim (λ (z : y ≡ k). absurd (ne (sym z ∙ e))) (λ (i : Has ys k). i) h }
without (y ∷ ys) n (inr h) =
    let r = without ys n h in
    record { rest = y ∷ r.rest; shorter = omega (arith, r.shorter); others = λ k ne o. ⊎_elim (λ (z : y ≡ k). inl z) (λ (i : Has ys k). inr (r.others k ne i)) o }

-- numbers that differ and are all in another list are at most as many as that has
pub not_more : (xs ys : List ℕ) → Differ xs → ((n : ℕ) → Has xs n → Has ys n) → length xs ≤ length ys
not_more [] ys d h = omega arith
not_more (x ∷ xs) ys d h =
    let r = without ys x (h x (inl refl)) in
    let i = not_more xs r.rest d.1 (λ n k. r.others n (λ (e : n ≡ x). d.0 (subst (Has xs) e k)) (h n (inr k))) in
    omega (arith, i, r.shorter)

pub slots_length : (plan : Placement) (jobs : List SessionJob) → length (flat_map (slots_of plan) jobs) ≡ live_tasks jobs
slots_length plan [] = refl
slots_length plan (m ∷ more) = omega (
  arith,
  length-append (slots_of plan m) (flat_map (slots_of plan) more),
  length-map m.progress.job.tasks (λ (t : Task). slot_of plan m.constants.number t.number),
  slots_length plan more,
  sum_by-cons (λ (y : SessionJob). length y.progress.job.tasks) m more,
)
