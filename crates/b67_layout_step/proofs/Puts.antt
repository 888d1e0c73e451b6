-- A stack with another shape in one cell.
use Rattle.std.proofs.Common.{◌≡◌, ◌≢◌, ℕ, suc, ◌+◌, ◌<◌, ◌≤◌, List, [], ◌∷◌, ◌++◌, map, length, Some, None, refl, sym, ◌∙◌, ap, arith, Bool, true, false, ◌==◌, ⊎_elim, inl, inr, subst, slice_set, length-append}
use Rattle.std.specs.Prelude.{if◌then◌else◌}
use Rattle.std.specs.List.{slice_get}
use Rattle.std.proofs.lemmas.Bool.{cases_Bool, eqb-true, eqb-false}
use Rattle.b67_word.specs.Tagged.{Tagged}
use Rattle.b67_core.proofs.Writes.{slice_get-set_same, slice_get-set_other}
use Rattle.b67_lemmas.specs.Lists.{Has}
use Rattle.std.proofs.lemmas.List.{length-map}
use Rattle.b67_ctl.specs.Layout.{mscw_word, rcw_word}
use Rattle.b67_stack.specs.Common.{Copied, Shape, Is, Copy, LieDownward, Head, Marked, Entered, Activation, head_size, top_size, stack_words, mark_place, level_from, stack_level, mark_of, return_of, headed, words, HeadsFit}
use Rattle.b67_stack.proofs.Lies.{Lie-same, Lie-under}
use Rattle.b67_stack.proofs.Heights.{words-length, headed-length}

-- the items with another one of this number, counted from the end
abbrev pub put : {A : Type 0} → ℕ → A → List A → List A
put i w [] = []
put i w (x ∷ xs) = (if i == length xs then w else x) ∷ put i w xs

pub put_length : {A : Type 0} (i : ℕ) (w : A) (xs : List A) → length (put i w xs) ≡ length xs
put_length i w [] = refl
put_length i w (x ∷ xs) = ap suc (put_length i w xs)

-- past the first item nothing changes
pub put_past : {A : Type 0} (i : ℕ) (w : A) (xs : List A) → length xs ≤ i → put i w xs ≡ xs
put_past i w [] high = refl
put_past i w (x ∷ xs) high = grind (arith, put_past i w xs)

pub put_map : {A B : Type 0} (f : A → B) (i : ℕ) (w : A) (xs : List A) → map f (put i w xs) ≡ put i (f w) (map f xs)
put_map f i w [] = refl
put_map f i w (x ∷ xs) = grind (arith, length-map, put_map f i w xs)

-- words that lie, with another one
pub put_lies : (R : Shape → ℕ → Tagged → Type 0) (core : List Tagged) (from i : ℕ) (c : Shape) (v : Tagged) (cs under : List Shape) → i < length cs → from + length under + i < length core → R c (from + length under + i) v
    → LieDownward R core from (cs ++ under) → LieDownward R (slice_set core (from + length under + i) v) from (put i c cs ++ under)
put_lies R core from i c v [] under low inside fit l = absurd (omega (arith, low))
put_lies R core from i c v (x ∷ xs) under low inside fit l = ⊎_elim
    (λ (t : (i == length xs) ≡ true).
    let is = eqb-true i (length xs) t in
    let past : put i c xs ≡ xs = put_past i c xs (omega (arith, is)) in
    let at : from + length under + i ≡ from + length (put i c xs ++ under) = (let n = length-append (put i c xs) under in let k = put_length i c xs in omega (arith, n, k, is)) in
    let P : ℕ → Type 0 = λ n. (w : Tagged) × (slice_get (slice_set core (from + length under + i) v) n ≡ Some w) × R c n w in
    let first = subst P at (v, slice_get-set_same core (from + length under + i) v inside, fit) in
    let rest : LieDownward R (slice_set core (from + length under + i) v) from (put i c xs ++ under) = (let Q : List Shape → Type 0 = λ ys. LieDownward R (slice_set core (from + length under + i) v) from (ys ++ under) in
    subst Q (sym past) (Lie-same R core (slice_set core (from + length under + i) v) from (xs ++ under) (λ k down up. slice_get-set_other core (from + length under + i) k v (λ z. (let n = length-append xs under in omega (arith, z, up, n, is)))) l.1)) in
    let F : Bool → Type 0 = λ b. LieDownward R (slice_set core (from + length under + i) v) from (((if b then c else x) ∷ put i c xs) ++ under) in
    subst F (sym t) (first, rest))
    (λ (t : (i == length xs) ≡ false).
    let ne = eqb-false i (length xs) t in
    let n = length-append xs under in
    let m = length-append (put i c xs) under in
    let k = put_length i c xs in
    let at : from + length (xs ++ under) ≡ from + length (put i c xs ++ under) = omega (arith, n, m, k) in
    let P : ℕ → Type 0 = λ p. (w : Tagged) × (slice_get (slice_set core (from + length under + i) v) p ≡ Some w) × R x p w in
    let first = subst P at (l.0.0, slice_get-set_other core (from + length under + i) (from + length (xs ++ under)) v (λ z. omega (arith, z, n, ne)) ∙ l.0.1, l.0.2) in
    let rest = put_lies R core from i c v xs under (omega (arith, low, ne)) inside fit l.1 in
    let F : Bool → Type 0 = λ b. LieDownward R (slice_set core (from + length under + i) v) from (((if b then c else x) ∷ put i c xs) ++ under) in
    subst F (sym t) (first, rest))
    (cases_Bool (i == length xs))

-- no copy is new
pub put_has : (i : ℕ) (c : Shape) (cs under : List Shape) (d : Copied) (home : ℕ) → c ≢ Copy d home → Has (put i c cs ++ under) (Copy d home) → Has (cs ++ under) (Copy d home)
put_has i c [] under d home ne h = h
put_has i c (x ∷ xs) under d home ne (inl e) = grind arith
put_has i c (x ∷ xs) under d home ne (inr h) = inr (put_has i c xs under d home ne h)

-- one activation record has another shape in a cell, which lies so many words over the first mark
pub data Puts (c : Shape) : ℕ → List Activation → List Activation → Type 0 where
  within : (a : Activation) (below : List Activation) (i : ℕ) → i < length a.cells → Puts c (stack_words below + head_size a.head + i) (a ∷ below) (record a { cells = put i c a.cells } ∷ below)
  lower : {at : ℕ} {below below' : List Activation} (a : Activation) → Puts c at below below' → Puts c at (a ∷ below) (a ∷ below')

pub puts_high : {c : Shape} {at : ℕ} {st st' : List Activation} → Puts c at st st' → stack_words st' ≡ stack_words st
puts_high {c = c} (within a below i low) = let n = put_length i c a.cells in omega (arith, n)
puts_high (lower a p) = let h = puts_high p in omega (arith, h)

pub puts_top : {c : Shape} {at : ℕ} {st st' : List Activation} → Puts c at st st' → top_size st' ≡ top_size st
puts_top {c = c} (within a below i low) = let n = put_length i c a.cells in omega (arith, n)
puts_top (lower a p) = refl

pub puts_mark : {c : Shape} {at : ℕ} {st st' : List Activation} → Puts c at st st' → mark_place st' ≡ mark_place st
puts_mark h = grind (arith, puts_high)

pub puts_level : {c : Shape} {at : ℕ} {st st' : List Activation} → Puts c at st st' → stack_level st' ≡ stack_level st
puts_level (within a below i low) = refl
puts_level (lower a p) = ap (level_from a.head) (puts_level p)

pub puts_some : {c : Shape} {at : ℕ} {st st' : List Activation} → Puts c at st st' → st' ≢ []
puts_some h e = grind arith

puts_none : {c : Shape} {at : ℕ} {st st' : List Activation} → Puts c at st st' → st ≡ [] → ⊥
puts_none h e = grind arith

pub puts_heads : {c : Shape} {at : ℕ} {st st' : List Activation} → Puts c at st st' → HeadsFit st → HeadsFit st'
puts_heads (within a below i low) f = f
puts_heads (lower {below = below} {below' = below'} a p) f = grind (arith, puts_none, puts_heads p f.1)

-- the head words on it are the same
puts_headed : {c : Shape} {at : ℕ} {st st' : List Activation} (k : ℕ) (h : Head) (under : List Shape) → Puts c at st st' → headed k h st' under ≡ headed k h st under
puts_headed k Marked under p = ap (λ (n : ℕ). Is (mscw_word (record { far = false; entered = false; env_stack = 0; env_disp = 0; value = false; level = 0; back = n })) ∷ under) (puts_top p)
puts_headed k (Entered level environment None) under p = grind (arith, puts_top)
puts_headed {st = st} {st' = st'} k (Entered level environment (Some r)) under p = grind (arith, puts_level, puts_top)

-- a word over others, where those others are as many
moved : (R : Shape → ℕ → Tagged → Type 0) (core : List Tagged) (from i : ℕ) (v : Tagged) (sh : Shape) (n n' : ℕ) → n' ≡ n → i < from + n
    → (w : Tagged) × (slice_get core (from + n) ≡ Some w) × R sh (from + n) w → (w : Tagged) × (slice_get (slice_set core i v) (from + n') ≡ Some w) × R sh (from + n') w
moved R core from i v sh n n' same low m = grind (arith, slice_get-set_other)

Lie-tops : (R : Shape → ℕ → Tagged → Type 0) (core : List Tagged) (from i : ℕ) (v : Tagged) (xs under under' : List Shape) → length under' ≡ length under → i < from + length under → LieDownward R (slice_set core i v) from under' → LieDownward R core from (xs ++ under) → LieDownward R (slice_set core i v) from (xs ++ under')
Lie-tops R core from i v [] under under' same low l m = l
Lie-tops R core from i v (x ∷ xs) under under' same low l m =
    let n = length-append xs under in
    let n' = length-append xs under' in
    (moved R core from i v x (length (xs ++ under)) (length (xs ++ under')) (omega (arith, n, n', same)) (omega (arith, low, n)) m.0, Lie-tops R core from i v xs under under' same low l m.1)

Lie-head : (R : Shape → ℕ → Tagged → Type 0) (core : List Tagged) (from i : ℕ) (v : Tagged) (k : ℕ) (h : Head) (below : List Activation) (under under' : List Shape) → length under' ≡ length under → i < from + length under → LieDownward R (slice_set core i v) from under' → LieDownward R core from (headed k h below under)
    → LieDownward R (slice_set core i v) from (headed k h below under')
Lie-head R core from i v k Marked below under under' same low l m = (moved R core from i v (Is (mscw_word (mark_of k Marked below))) (length under) (length under') same low m.0, l)
Lie-head R core from i v k (Entered level environment back) below under under' same low l m = (
  moved R core from i v (Is (rcw_word (return_of back below))) (suc (length under)) (suc (length under')) (ap suc same) (omega (arith, low)) m.0,
  (moved R core from i v (Is (mscw_word (mark_of k (Entered level environment back) below))) (length under) (length under') same low m.1.0, l),
)

pub puts_low : {c : Shape} {at : ℕ} {st st' : List Activation} → Puts c at st st' → at < stack_words st
puts_low (within a below i low) = omega (arith, low)
puts_low (lower a p) = let h = puts_low p in omega (arith, h)

Lie-down : (R : Shape → ℕ → Tagged → Type 0) (core : List Tagged) (from k : ℕ) (h : Head) (below : List Activation) → LieDownward R core from (headed k h below (words k below)) → LieDownward R core from (words k below)
Lie-down R core from k h below l = grind arith

pub puts_lies : {c : Shape} {at : ℕ} {st st' : List Activation} (R : Shape → ℕ → Tagged → Type 0) (core : List Tagged) (from k : ℕ) (v : Tagged) → Puts c at st st' → from + at < length core → R c (from + at) v → LieDownward R core from (words k st) → LieDownward R (slice_set core (from + at) v) from (words k st')
puts_lies {c = c} R core from k v (within a below i low) inside fit l =
    let under = headed k a.head below (words k below) in
    let n = headed-length k a.head below (words k below) in
    let m = words-length k below in
    let at : from + length under + i ≡ from + (stack_words below + head_size a.head + i) = omega (arith, n, m) in
    let P : ℕ → Type 0 = λ q. LieDownward R (slice_set core q v) from (put i c a.cells ++ under) in
    let Q : ℕ → Type 0 = λ q. R c q v in
    subst P at (put_lies R core from i c v a.cells under low (omega (arith, at, inside)) (subst Q (sym at) fit) l)
puts_lies {c = c} {at = at} R core from k v (lower {below = below} {below' = below'} a p) inside fit l =
    let low = puts_low p in
    let n = words-length k below in
    let n' = words-length k below' in
    let h = puts_high p in
    let rest = puts_lies R core from k v p inside fit (Lie-down R core from k a.head below (Lie-under R core from a.cells (headed k a.head below (words k below)) l)) in
    let same : length (words k below') ≡ length (words k below) = omega (arith, n, n', h) in
    let head = Lie-head R core from (from + at) v k a.head below (words k below) (words k below') same (omega (arith, low, n)) rest (Lie-under R core from a.cells (headed k a.head below (words k below)) l) in
    let g = headed-length k a.head below (words k below) in
    let g' = headed-length k a.head below (words k below') in
    let whole = Lie-tops R core from (from + at) v a.cells (headed k a.head below (words k below)) (headed k a.head below (words k below')) (omega (arith, g, g', same)) (omega (arith, low, n, g)) head l in
    let P : List Shape → Type 0 = λ ys. LieDownward R (slice_set core (from + at) v) from (a.cells ++ ys) in
    subst P (sym (puts_headed k a.head (words k below') p)) whole

pub puts_has : {c : Shape} {at : ℕ} {st st' : List Activation} (k : ℕ) (d : Copied) (home : ℕ) → c ≢ Copy d home → Puts c at st st' → Has (words k st') (Copy d home) → Has (words k st) (Copy d home)
puts_has {c = c} k d home ne (within a below i low) h = put_has i c a.cells (headed k a.head below (words k below)) d home ne h
puts_has {c = c} k d home ne (lower {below = below} {below' = below'} a p) h =
    let P : List Shape → Type 0 = λ ys. Has (a.cells ++ ys) (Copy d home) in
    has_top a.cells (headed k a.head below (words k below)) (headed k a.head below (words k below')) (has_head k a.head below (words k below) (words k below') (puts_has k d home ne p)) (subst P (puts_headed k a.head (words k below') p) h) where
      has_top : (xs ys ys' : List Shape) → (Has ys' (Copy d home) → Has ys (Copy d home)) → Has (xs ++ ys') (Copy d home) → Has (xs ++ ys) (Copy d home)
      has_top [] ys ys' f h = f h
      has_top (x ∷ xs) ys ys' f (inl e) = inl e
      has_top (x ∷ xs) ys ys' f (inr h) = inr (has_top xs ys ys' f h)

      has_head : (k : ℕ) (h : Head) (below : List Activation) (ys ys' : List Shape) → (Has ys' (Copy d home) → Has ys (Copy d home)) → Has (headed k h below ys') (Copy d home) → Has (headed k h below ys) (Copy d home)
      has_head k Marked below ys ys' f (inl e) = inl e
      has_head k Marked below ys ys' f (inr h) = inr (f h)
      has_head k (Entered level environment back) below ys ys' f (inl e) = inl e
      has_head k (Entered level environment back) below ys ys' f (inr (inl e)) = inr (inl e)
      has_head k (Entered level environment back) below ys ys' f (inr (inr h)) = inr (inr (f h))
