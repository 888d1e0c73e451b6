-- Totals over slots, over ranges of core, and over the cells of a job.
use Rattle.std.proofs.Common.{◌≡◌, ◌≢◌, ℕ, zero, suc, ◌+◌, ◌<◌, ◌==◌, Bool, List, [], ◌∷◌, map, length, refl, sym, ◌∙◌, ap, arith, inl, inr, ⊎_elim, subst}
use Rattle.std.specs.Prelude.{if◌then◌else◌}
use Rattle.std.specs.List.{slice_get}
use Rattle.std.proofs.lemmas.Bool.{cases_eq, eq-eqb, ne_eqb}
use Rattle.b67_word.specs.Tagged.{Tagged}
use Rattle.b67_lemmas.specs.Lists.{Has, Falls, total, how_many}
use Rattle.b67_lemmas.proofs.Members.{falls_low, has_map, total_same, total_zero}
use Rattle.b67_lemmas.proofs.Sums.{total_plus}
use Rattle.b67_model.specs.Common.{Word, Array, sectors_for, is_original_of}
use Rattle.b67_layout.specs.Rows.{Differ}
use Rattle.b67_task.specs.Sums.{sectors_at, core_sectors_from}

-- a function of the numbers below n
abbrev pub upto : (ℕ → ℕ) → ℕ → ℕ
upto h zero = 0
upto h (suc n) = upto h n + h n

upto-same : (h g : ℕ → ℕ) (n : ℕ) → ((k : ℕ) → k < n → h k ≡ g k) → upto h n ≡ upto g n
upto-same h g zero e = refl
upto-same h g (suc n) e = omega (arith, upto-same h g n (λ k low. e k (omega arith)), e n (omega arith))

upto-zero : (h : ℕ → ℕ) (n : ℕ) → ((k : ℕ) → k < n → h k ≡ 0) → upto h n ≡ 0
upto-zero h zero e = refl
upto-zero h (suc n) e = omega (arith, upto-zero h n (λ k low. e k (omega arith)), e n (omega arith))

-- 0 at one number
abbrev but : ℕ → (ℕ → ℕ) → ℕ → ℕ
but k h i = if i == k then 0 else h i

but-here : (k : ℕ) (h : ℕ → ℕ) → but k h k ≡ 0
but-here k h = rw (eq-eqb k k refl) refl

but-other : (k : ℕ) (h : ℕ → ℕ) (i : ℕ) → i ≢ k → but k h i ≡ h i
but-other k h i ne = rw (ne_eqb i k ne) refl

upto-but : (k : ℕ) (h : ℕ → ℕ) (n : ℕ) → k < n → upto h n ≡ h k + upto (but k h) n
upto-but k h zero low = absurd (omega arith)
upto-but k h (suc n) low = ⊎_elim
    (λ (e : k ≡ n). subst (λ (i : ℕ). upto h n + h n ≡ h i + (upto (but i h) n + but i h n)) (sym e)
    (omega (arith, but-here n h, upto-same h (but n h) n (λ i less. sym (but-other n h i (λ z. omega (arith, z, less)))))))
    (λ (ne : k ≡ n → ⊥). omega (arith, upto-but k h n (omega arith), but-other k h n (λ z. ne (sym z))))
    (cases_eq k n)

-- the numbers at which a function isn't 0 are some of a list
pub slots_total : (h : ℕ → ℕ) (n : ℕ) (ks : List ℕ) → Differ ks → ((k : ℕ) → Has ks k → k < n) → ((k : ℕ) → k < n → h k ≢ 0 → Has ks k) → upto h n ≡ total h ks
slots_total h n [] d low all = upto-zero h n (λ k less. ⊎_elim (λ (e : h k ≡ 0). e) (λ (ne : h k ≡ 0 → ⊥). absurd (all k less ne)) (cases_eq (h k) 0))
slots_total h n (k ∷ ks) d low all = grind (arith, but-other, total_same, upto-but, slots_total (but k h) n ks d.1)

-- a range in two
pub range_split : (code : Bool) (core : List Tagged) (from a n b : ℕ) → n ≡ a + b → core_sectors_from code core from n ≡ core_sectors_from code core from a + core_sectors_from code core (from + a) b
range_split code core from a n zero e = omega (arith, ap (core_sectors_from code core from) (let z : n ≡ a = omega (arith, e) in z))
range_split code core from a zero (suc b) e = absurd (omega (arith, e))
range_split code core from a (suc n) (suc b) e = grind (arith, range_split code core from a n b)

pub range_first : (code : Bool) (core : List Tagged) (from n b : ℕ) → n ≡ b + 1 → core_sectors_from code core from n ≡ sectors_at code (slice_get core from) + core_sectors_from code core (from + 1) b
range_first code core from n b e =
    let at : from + 0 ≡ from = omega arith in
    omega (arith, range_split code core from 1 n b (omega (arith, e)), ap (λ (i : ℕ). sectors_at code (slice_get core i)) at)

-- what the arrays of a list keep for the original that a word is
abbrev pub kept : List Array → Word → ℕ
kept arrays w = total (λ (a : Array). if is_original_of a.identity w then sectors_for (length a.numbers) else 0) arrays

no_hit : {A : Type 0} (test : A → Bool) (c : ℕ) (xs : List A) → how_many test xs ≡ 0 → total (λ x. if test x then c else 0) xs ≡ 0
no_hit test c [] e = refl
no_hit test c (x ∷ xs) e = grind (arith, no_hit test c xs)

one_hit : {A : Type 0} (test : A → Bool) (c : ℕ) (xs : List A) → how_many test xs ≡ 1 → total (λ x. if test x then c else 0) xs ≡ c
one_hit test c [] e = absurd (omega (arith, e))
one_hit test c (x ∷ xs) e = grind (arith, no_hit, one_hit test c xs)

-- where each array has one original among some words, these keep what the arrays do
pub kept_once : (arrays : List Array) (ws : List Word) → ((a : Array) → Has arrays a → how_many (is_original_of a.identity) ws ≡ 1) → total (kept arrays) ws ≡ total (λ (a : Array). sectors_for (length a.numbers)) arrays
kept_once [] ws once = total_zero (kept []) ws (λ w there. refl)
kept_once (a ∷ more) ws once = omega (
  arith,
  total_plus (λ (w : Word). if is_original_of a.identity w then sectors_for (length a.numbers) else 0) (kept more) ws,
  one_hit (is_original_of a.identity) (sectors_for (length a.numbers)) ws (once a (inl refl)),
  kept_once more ws (λ b there. once b (inr there)),
)

-- an original keeps its array's sectors
pub kept_original : (bound : ℕ) (arrays : List Array) (item : Array) → Falls bound (map (λ (a : Array). a.identity) arrays) → Has arrays item
    → total (λ (a : Array). if item.identity == a.identity then sectors_for (length a.numbers) else 0) arrays ≡ sectors_for (length item.numbers)
kept_original bound [] item f h = absurd h
kept_original bound (a ∷ more) item f (inl e) =
    let none = total_zero (λ (b : Array). if item.identity == b.identity then sectors_for (length b.numbers) else 0) more
    (λ b there.
    let low = falls_low a.identity (map (λ (c : Array). c.identity) more) b.identity f.1 (has_map (λ (c : Array). c.identity) more b there) in
    rw (ne_eqb item.identity b.identity (λ z. omega (arith, z, low, ap (λ (c : Array). c.identity) e))) refl) in
    rw (eq-eqb item.identity a.identity (ap (λ (c : Array). c.identity) (sym e))) (omega (arith, none, ap (λ (c : Array). sectors_for (length c.numbers)) e))
kept_original bound (a ∷ more) item f (inr h) =
    let low = falls_low a.identity (map (λ (c : Array). c.identity) more) item.identity f.1 (has_map (λ (c : Array). c.identity) more item h) in
    rw (ne_eqb item.identity a.identity (λ z. omega (arith, z, low))) (omega (arith, kept_original a.identity more item f.1 h))
