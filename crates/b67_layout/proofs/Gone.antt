-- A step that leaves the identities of the arrays leaves no array to release.
use Rattle.std.proofs.Common.{◌≡◌, ℕ, List, [], ◌∷◌, map, refl, sym, ap, true, false, not, ◌==◌, inl, inr, ⊎_elim, subst, arith}
use Rattle.std.specs.Prelude.{filter}
use Rattle.std.specs.List.{list_any}
use Rattle.std.proofs.lemmas.Bool.{cases_Bool, eq-eqb}
use Rattle.b67_lemmas.specs.Lists.{Has}
use Rattle.b67_model.specs.State.{Array, Job, SessionJob}
use Rattle.b67_layout.specs.Common.{Placement, array_object, gone, objects_gone}

named : (n : ℕ) (xs : List Array) → Has (map (λ (b : Array). b.identity) xs) n → list_any (λ (b : Array). b.identity == n) xs ≡ true
named n [] h = absurd h
named n (a ∷ more) (inl e) = rw (eq-eqb a.identity n e) refl
named n (a ∷ more) (inr h) = grind (arith, named n more h)

none_left : (new old : List Array) → ((a : Array) → Has old a → Has (map (λ (b : Array). b.identity) new) a.identity) → filter (λ (a : Array). not (list_any (λ (b : Array). b.identity == a.identity) new)) old ≡ []
none_left new [] all = refl
none_left new (a ∷ more) all = rw (named a.identity new (all a (inl refl))) (none_left new more (λ b h. all b (inr h)))

has-mapped : (xs : List Array) (a : Array) → Has xs a → Has (map (λ (b : Array). b.identity) xs) a.identity
has-mapped [] a h = absurd h
has-mapped (b ∷ bs) a (inl e) = inl (ap (λ (z : Array). z.identity) e)
has-mapped (b ∷ bs) a (inr h) = inr (has-mapped bs a h)

pub none_gone : (old new : Job) → map (λ (b : Array). b.identity) new.arrays ≡ map (λ (b : Array). b.identity) old.arrays → gone old new ≡ []
none_gone old new e = none_left new.arrays old.arrays (λ a h. let P : List ℕ → Type 0 = λ ns. Has ns a.identity in subst P (sym e) (has-mapped old.arrays a h))

pub no_objects_gone : (plan : Placement) (m : SessionJob) (job : Job) → map (λ (b : Array). b.identity) job.arrays ≡ map (λ (b : Array). b.identity) m.progress.job.arrays → objects_gone plan m job ≡ []
no_objects_gone plan m job e = ap (λ (xs : List Array). map (array_object plan m.constants.number) xs) (none_gone m.progress.job job e)
