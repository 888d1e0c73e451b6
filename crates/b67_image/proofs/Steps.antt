-- Reading one number after the other, as a function does that goes on with `?`.
use Rattle.std.proofs.Common.{◌≡◌, ◌∙◌, ℕ, ◌-◌, ◌≤◌, ◌<◌, List, Bool, true, false, cond, length, take, drop, Some, None, refl, sym, ap, subst, arith}
use Rattle.std.specs.Prelude.{Option, nat_le, ◌&&◌, ◌==◌, if◌then◌else◌}
use Rattle.std.specs.Int.{w8}
use Rattle.std.proofs.lemmas.Bool.{le-leb, lt-leb, lt-ltb, le-ltb, ne_eqb}
use Rattle.std.proofs.lemmas.List.{take_all, length-drop}
use Rattle.std.proofs.lemmas.Option.{same_Some}
use Rattle.b67_model_text.specs.Cards.{is_name, name_in}
use Rattle.b67_task.specs.declared.tables.TaskState.TheVariants.{Ready, Awaits}
use Rattle.b67_image.specs.declared.flaw.Flaw.{Flaw}
use Rattle.b67_image.specs.declared.flaw.Flaw.TheVariants.{Bad, Memory}
use Rattle.b67_image.specs.Giving.{◌>>=◌, ReadingFails, read_number}
use Rattle.b67_image.specs.Reading.{if_passes, number_within, read_bytes, read_name, state_by_kind}

-- the first step that fails
pub fails : {A B : Type 0} (e : Flaw) (read : Option A) (f : A → Option B) → ReadingFails e read → ReadingFails e (read >>= f)
fails Memory read f p = tt
fails Bad read f p = rw p refl

-- a step that went well before one that fails, or before the last
pub then_fails : {A B : Type 0} (e : Flaw) (read : Option A) (x : A) (f : A → Option B) → read ≡ Some x → ReadingFails e (f x) → ReadingFails e (read >>= f)
then_fails {A} e read x f is p = subst (λ (r : Option A). ReadingFails e (r >>= f)) (sym is) p

pub then_gives : {A B : Type 0} (read : Option A) (x : A) (y : Option B) (f : A → Option B) → read ≡ Some x → f x ≡ y → read >>= f ≡ y
then_gives {A} read x y f is p = subst (λ (r : Option A). r >>= f ≡ y) (sym is) p

pub then_none : {A B : Type 0} (read : Option A) (f : A → Option B) → read ≡ None → read >>= f ≡ None
then_none read f is = rw is refl

-- a number within bounds, or outside them
pub within : (low high : ℕ) (n : ℕ × List ℕ) → low ≤ n.0 → n.0 ≤ high → number_within low high n ≡ Some n
within low high n l h = ap (λ (b : Bool). if_passes (b && nat_le n.0 high) n) (le-leb low n.0 l) ∙ ap (λ (b : Bool). if_passes b n) (le-leb n.0 high h)

pub below : (low high : ℕ) (n : ℕ × List ℕ) → n.0 < low → number_within low high n ≡ None
below low high n lt = ap (λ (b : Bool). if_passes (b && nat_le n.0 high) n) (lt-leb low n.0 lt)

pub above : (low high : ℕ) (n : ℕ × List ℕ) → high < n.0 → number_within low high n ≡ None
above low high n lt = ap (λ (b : Bool). if_passes (nat_le low n.0 && b) n) (lt-leb n.0 high lt) ∙ fails_both (nat_le low n.0)
  where
    fails_both : (b : Bool) → if_passes (b && false) n ≡ None
    fails_both true = refl
    fails_both false = refl

-- ---- no state of a kind

pub no_offset : (number offset : ℕ) → (offset ≡ 0 → ⊥) → None ≡ state_by_kind 0 number offset
no_offset number offset n = by_tests (number == 0) (offset == 0) (ne_eqb offset 0 n)
  where
    by_tests : (a b : Bool) → b ≡ false → None ≡ if_passes (a && b) Ready
    by_tests true b e = rw e refl
    by_tests false b e = refl

pub no_number : (number offset : ℕ) → (number ≡ 0 → ⊥) → None ≡ state_by_kind 0 number offset
no_number number offset n = sym (ap (λ (b : Bool). if_passes (b && (offset == 0)) Ready) (ne_eqb number 0 n))

pub no_other : (number offset : ℕ) → (offset ≡ 0 → ⊥) → None ≡ state_by_kind 1 number offset
no_other number offset n = sym (ap (λ (b : Bool). if_passes b (Awaits number)) (ne_eqb offset 0 n))

-- ---- a name

short : (n : ℕ) (rest : List ℕ) → length rest < n → read_bytes n rest ≡ None
short n rest lt = ap (λ (b : Bool). cond b None (Some (take n rest, drop n rest))) (lt-ltb (length rest) n lt)

long : (n : ℕ) (rest : List ℕ) → n ≤ length rest → read_bytes n rest ≡ Some (take n rest, drop n rest)
long n rest le = ap (λ (b : Bool). cond b None (Some (take n rest, drop n rest))) (le-ltb (length rest) n le)

pub no_name : (bytes : List ℕ) (n k : ℕ) (rest : List ℕ) → read_number w8 bytes ≡ Some (n, rest) → k ≡ n → length rest < k → read_name bytes ≡ None
unfolding read_name
no_name bytes n k rest h e lt = then_gives _ _ _ _ h (then_none _ _ (short n rest (subst (λ (m : ℕ). length rest < m) e lt)))

pub bad_name : (bytes : List ℕ) (n k : ℕ) (rest : List ℕ) → read_number w8 bytes ≡ Some (n, rest) → k ≡ n → k ≤ length rest → None ≡ name_in (take k rest) → read_name bytes ≡ None
unfolding read_name
bad_name bytes n k rest h e le bad =
    then_gives _ _ _ _ h (then_gives _ _ _ _ (long n rest (subst (λ (m : ℕ). m ≤ length rest) e le)) (by_test (is_name (take n rest)) (subst (λ (m : ℕ). None ≡ name_in (take m rest)) e bad)))
  where
    by_test : (b : Bool) → None ≡ (if b then Some (take n rest) else None) → if_passes {A = List ℕ × List ℕ} b (take n rest, drop n rest) ≡ None
    by_test true x = absurd (let z : ⊥ = cc in z)
    by_test false x = refl

pub good_name : (bytes : List ℕ) (n k : ℕ) (rest name : List ℕ) → read_number w8 bytes ≡ Some (n, rest) → k ≡ n → k ≤ length rest → Some name ≡ name_in (take k rest)
    → read_name bytes ≡ Some (name, take (length rest - k) (drop k rest))
unfolding read_name
good_name bytes n k rest name h e le good =
    then_gives _ _ _ _ h (then_gives _ _ _ _ (long n rest (subst (λ (m : ℕ). m ≤ length rest) e le)) (subst (λ (m : ℕ). if_passes {A = List ℕ × List ℕ} (is_name (take m rest)) (take m rest, drop m rest) ≡ Some (name, take (length rest - k) (drop k rest))) e (by_test (is_name (take k rest)) good)))
  where
    behind : take (length rest - k) (drop k rest) ≡ drop k rest
    behind = take_all (length rest - k) (drop k rest) (subst (λ (m : ℕ). m ≤ length rest - k) (sym (length-drop k rest)) (omega arith))

    by_test : (b : Bool) → Some name ≡ (if b then Some (take k rest) else None) → if_passes {A = List ℕ × List ℕ} b (take k rest, drop k rest) ≡ Some (name, take (length rest - k) (drop k rest))
    by_test true x = sym (ap (λ (t : List ℕ × List ℕ). Some t) (ap (λ (t : List ℕ). (t, take (length rest - k) (drop k rest))) (same_Some name (take k rest) x) ∙ ap (λ (t : List ℕ). (take k rest, t)) behind))
    by_test false x = absurd (let z : ⊥ = cc in z)

-- ---- numbers that pass a test of another kind

pub few : (n most : ℕ) (x : ℕ × List ℕ) → n ≤ most → if_passes (nat_le n most) x ≡ Some x
few n most x le = ap (λ (b : Bool). if_passes b x) (le-leb n most le)

pub many : (n most : ℕ) (x : ℕ × List ℕ) → most < n → if_passes (nat_le n most) x ≡ None
many n most x lt = ap (λ (b : Bool). if_passes b x) (lt-leb n most lt)
