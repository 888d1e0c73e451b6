-- An admitted program has a first segment of level 2, at whose first place an operator stands.
use Rattle.std.proofs.Common.{◌≡◌, ◌≢◌, ℕ, suc, ◌-◌, ◌*◌, ◌<◌, Bool, true, false, ltb, eqb, not, List, [], ◌∷◌, ◌++◌, length, Ok, Err, refl, sym, subst, inl, inr, arith}
use Rattle.std.specs.List.{AllByRecursion}
use Rattle.std.proofs.lemmas.Bool.{cases_Bool, true≢false, ltb-false, eqb-true}
use Rattle.std.proofs.lemmas.Bool.Decides.{eqb_tells}
use Rattle.b67_word.specs.declared.couples.Place.{Place}
use Rattle.b67_model.specs.declared.operators.Op.{Op}
use Rattle.b67_model.specs.declared.operators.Undecodable.TheVariants.{BadPlace, NotAdmitted, PastEnd}
use Rattle.b67_lemmas.specs.Lists.{Has}
use Rattle.b67_model.specs.Common.{Segment, Reading, operator_at, form_of, syllable, count_at, Program, At, Listed, origin, listing, entries_from, refused, broken_at, broken_in, refusals_of, wrong_entries, refusals_from, IsAdmitted}
use Rattle.b67_law.proofs.Admitted.{reads_good}

-- where there is no refusal no test holds
none_holds : (number : ℕ) (place : Place) (tests : List (ℕ × Bool)) → refused number place tests ≡ [] → AllByRecursion (λ (t : ℕ × Bool). t.1 ≡ false) tests
none_holds number place [] e = tt
none_holds number place ((rule, true) ∷ more) e = absurd cc
none_holds number place ((rule, false) ∷ more) e = (refl, none_holds number place more e)

nil_left : {A : Type 0} (xs ys : List A) → xs ++ ys ≡ [] → xs ≡ []
nil_left [] ys e = refl
nil_left (x ∷ xs) ys e = absurd cc

-- inside a segment reading never comes to a bad place
origin_well : (code : List ℕ) → 0 < length code → operator_at code origin ≢ Err BadPlace
origin_well code some e = grind (arith, reads_good, ltb-false)

-- the operator at the first place of a segment
pub record FirstStands (s : Segment) : Type 0 where
  pub level : s.level ≡ 2
  pub op : Op
  pub stands : Has (listing s.code) (At origin op)

by_reading : (p : Program) (s : Segment) (n : ℕ) (read : Reading) → read ≢ Err BadPlace →
    refusals_of (record { program = p; number = 1; segment = s; entries = listing s.code }) (entries_from (suc n) s.code origin read) ≡ [] →
    (s.level ≡ 2) × ((op : Op) × Has (entries_from (suc n) s.code origin read) (At origin op))
by_reading p s n (Err BadPlace) well e = absurd (well refl)
by_reading p s n (Err NotAdmitted) well e = absurd cc
by_reading p s n (Err PastEnd) well e = absurd cc
by_reading p s n (Ok read) well e =
    let l : Listed = record { program = p; number = 1; segment = s; entries = listing s.code } in
    let here = nil_left (refused 1 origin (broken_at l (At origin read.0) ++ broken_in l)) _ e in
    let tests = none_holds 1 origin (broken_at l (At origin read.0) ++ broken_in l) here in
    (is_two s.level tests.1.1.1.1.1.1.1.0, (read.0, inl refl))
  where
    is_two : (level : ℕ) → not (eqb level 2) ≡ false → level ≡ 2
    is_two level f =
        elim (eqb_tells level 2) [
          | inl t ↦ t.1
          | inr t ↦ let g : true ≡ false = rw t.0 at f in absurd (true≢false g)
        ]

-- so it is in each admitted program
pub first_stands : (s : Segment) (more : List Segment) (rows : List (List ℕ)) → 0 < length s.code → IsAdmitted (record { segments = s ∷ more; rows = rows }) → FirstStands s
first_stands s more rows some admitted =
    let p : Program = record { segments = s ∷ more; rows = rows } in
    let l : Listed = record { program = p; number = 1; segment = s; entries = listing s.code } in
    let all : (refusals_of l (listing s.code) ++ wrong_entries l s.entries) ++ refusals_from p 2 more ≡ [] = elim (cases_Bool (eqb (length (s ∷ more)) 0)) [
      | inl t ↦ absurd (omega (arith, eqb-true (length (s ∷ more)) 0 t))
      | inr t ↦ rw t at admitted
    ] in
    let own : refusals_of l (listing s.code) ≡ [] = nil_left (refusals_of l (listing s.code)) (wrong_entries l s.entries) (nil_left (refusals_of l (listing s.code) ++ wrong_entries l s.entries) (refusals_from p 2 more) all) in
    let read = operator_at s.code origin in
    let fuel : 6 * length s.code ≡ suc (6 * length s.code - 1) = omega (arith, some) in
    let found = by_reading p s (6 * length s.code - 1) read (origin_well s.code some) (subst (λ k. refusals_of l (entries_from k s.code origin read) ≡ []) fuel own) in
    record {
      level = found.0;
      op = found.1.0;
      stands = subst (λ k. Has (entries_from k s.code origin read) (At origin found.1.0)) (sym fuel) found.1.1;
    }
