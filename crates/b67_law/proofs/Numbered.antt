-- Jobs by their numbers.
use Rattle.std.proofs.Common.{◌≡◌, ℕ, ◌+◌, List, [], ◌∷◌, sym, ◌∙◌, inl, inr, ◌≤◌, arith, subst, Some, ap, length}
use Rattle.std.proofs.lemmas.Bool.Decides.{eqb_tells}
use Rattle.b67_model.specs.Keyed.{change_keyed, keyed}
use Rattle.b67_model.specs.Common.{SessionJob, number_of, NumberedFrom}
use Rattle.b67_lemmas.specs.Lists.{Has}

pub numbered_change : (k n : ℕ) (new : SessionJob) (jobs : List SessionJob) → NumberedFrom k jobs → number_of new ≡ n → NumberedFrom k (change_keyed number_of n (λ y. new) jobs)
numbered_change k n new [] a e = tt
numbered_change k n new (y ∷ ys) a e = grind (arith, numbered_change (k + 1) n new ys a.1 e)

-- a job of a session in order is the first of its number, and a task the first of its number in its job
pub numbered_low : (n : ℕ) (jobs : List SessionJob) (m : SessionJob) → NumberedFrom n jobs → Has jobs m → n ≤ m.constants.number
numbered_low n [] m d h = absurd h
numbered_low n (y ∷ more) m d (inl e) = let P : SessionJob → Type 0 = λ z. n ≤ z.constants.number in subst P e (omega (arith, d.0))
numbered_low n (y ∷ more) m d (inr h) = omega (arith, numbered_low (n + 1) more m d.1 h)

pub keyed_member : (n : ℕ) (xs : List SessionJob) (y : SessionJob) → NumberedFrom n xs → Has xs y → keyed number_of y.constants.number xs ≡ Some y
keyed_member n [] y o h = absurd h
keyed_member n (x ∷ xs) y o (inl e) = elim (eqb_tells x.constants.number y.constants.number) [ inl t ↦ rw t.0 (ap Some e) | inr t ↦ absurd (t.1 (ap (λ (z : SessionJob). z.constants.number) e)) ]
keyed_member n (x ∷ xs) y o (inr h) =
    let low = numbered_low (n + 1) xs y o.1 h in
    elim (eqb_tells x.constants.number y.constants.number) [ inl t ↦ absurd (omega (arith, low, t.1, o.0)) | inr t ↦ rw t.0 (keyed_member (n + 1) xs y o.1 h) ]

abbrev pub tasks_of : SessionJob → ℕ
tasks_of m = length m.progress.job.tasks

abbrev pub made_of : SessionJob → ℕ
made_of m = m.progress.made
