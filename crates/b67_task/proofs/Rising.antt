-- Switches whose counts rise: the one of a count, and whether one is left.
use Rattle.std.proofs.Common.{◌≡◌, ℕ, zero, suc, ◌+◌, ◌-◌, ◌^◌, ◌<◌, ◌≤◌, ◌&&◌, ◌==◌, Bool, true, false, List, [], ◌∷◌, length, Some, None, sym, ◌∙◌, ap, arith, inl, inr, subst, ltb, map, get_or}
use Rattle.std.specs.List.{slice_get, list_any}
use Rattle.std.proofs.lemmas.Option.{same_Some, none-some, slice_get_within, get_or_from_slice_get}
use Rattle.std.proofs.lemmas.Bool.{cases_lt, cases_Bool, true≢false, lt-ltb, le-ltb, ltb-true}
use Rattle.std.proofs.lemmas.List.{length-map}
use Rattle.b67_model_text.specs.declared.deck.Switch as text
use Rattle.b67_lemmas.specs.Lists.{Has}
use Rattle.b67_lemmas.proofs.Members.{any_has, any_some, has_get}
use Rattle.b67_lemmas.proofs.Places.{at_mapped, get_within, has_at, mapped_at}
use Rattle.b67_model.specs.Common.{SwitchesRise, Who, Switch, is_same}
use Rattle.b67_task.specs.Counted.{Past, IsStillDue}
use Rattle.b67_task.specs.Chosen.{SwitchesTo}
use Rattle.b67_task.specs.Tables.{switch_of}
use Rattle.b67_task.proofs.Nearer.{seen}

rise_rest : (a : Switch) (more : List Switch) → SwitchesRise (a ∷ more) → SwitchesRise more
rise_rest a more h = grind arith

rise_low : (a : Switch) (more : List Switch) (w : Switch) → SwitchesRise (a ∷ more) → Has more w → a.count < w.count
rise_low a [] w h k = absurd k
rise_low a (b ∷ more) w h (inl e) = omega (arith, h.0, ap (λ (v : Switch). v.count) e)
rise_low a (b ∷ more) w h (inr k) = omega (arith, h.0, rise_low b more w h.1 k)

-- a later switch has a higher count
pub rise_at : (xs : List Switch) (i j : ℕ) (a b : Switch) → SwitchesRise xs → i < j → slice_get xs i ≡ Some a → slice_get xs j ≡ Some b → a.count < b.count
rise_at [] i j a b h lt ea eb = absurd (none-some a ea)
rise_at (x ∷ xs) i zero a b h lt ea eb = absurd (omega (arith, lt))
rise_at (x ∷ xs) zero (suc j) a b h lt ea eb = omega (arith, rise_low x xs b h (has_get xs j b eb), ap (λ (v : Switch). v.count) (same_Some x a ea))
rise_at (x ∷ xs) (suc i) (suc j) a b h lt ea eb = rise_at xs i j a b (rise_rest x xs h) (omega (arith, lt)) ea eb

rise_once : (xs : List Switch) (a b : Switch) → SwitchesRise xs → Has xs a → Has xs b → a.count ≡ b.count → a ≡ b
rise_once [] a b h ka kb e = absurd ka
rise_once (x ∷ xs) a b h (inl p) (inl q) e = sym p ∙ q
rise_once (x ∷ xs) a b h (inl p) (inr k) e = absurd (omega (arith, e, rise_low x xs b h k, ap (λ (v : Switch). v.count) p))
rise_once (x ∷ xs) a b h (inr k) (inl q) e = absurd (omega (arith, e, rise_low x xs a h k, ap (λ (v : Switch). v.count) q))
rise_once (x ∷ xs) a b h (inr k) (inr l) e = rise_once xs a b (rise_rest x xs h) k l e

module _ (xs : List Switch) (i made : ℕ) (past : Past i made xs) where
  -- the switch after those that are past is the one of this count
  pub named : (w : Switch) → slice_get xs i ≡ Some w → w.count ≡ made → Has xs (record { count = made; to = w.to })
  named w at e = subst (λ (n : ℕ). Has xs (record { count = n; to = w.to })) e (has_get xs i w at)

  -- or none is, where its count is higher, or all are past
  pub none_named : (w : Switch) → SwitchesRise xs → slice_get xs i ≡ Some w → made < w.count → (v : Switch) → Has xs v → v.count ≡ made → ⊥
  none_named w rise at high v k e = grind (arith, has_at, rise_at)

  pub all_past : length xs ≤ i → (v : Switch) → Has xs v → v.count ≡ made → ⊥
  all_past le v k e = let (j, at_v) = has_at xs v k in absurd (omega (arith, e, past j v (omega (arith, le, slice_get_within xs j v at_v)) at_v))

-- the last switch tells whether one is left
pub left_last : (xs : List Switch) (made : ℕ) (w : Switch) → SwitchesRise xs → slice_get xs (length xs - 1) ≡ Some w → list_any (λ v. ltb made v.count) xs ≡ ltb made w.count
left_last xs made w rise at = elim (cases_lt made w.count) [
  | inl lt ↦ any_some (λ v. ltb made v.count) xs w (has_get xs (length xs - 1) w at) (lt-ltb made w.count lt) ∙ sym (lt-ltb made w.count lt)
  | inr le ↦ elim (cases_Bool (list_any (λ v. ltb made v.count) xs)) [
    | inl t ↦
        let (v, k, high) = any_has (λ v. ltb made v.count) xs t in
        let (j, at_v) = has_at xs v k in
        elim (cases_lt j (length xs - 1)) [
          | inl lt ↦ t ∙ sym (lt-ltb made w.count (omega (arith, ltb-true made v.count high, rise_at xs j (length xs - 1) v w rise lt at_v at)))
          | inr up ↦
              let is : j ≡ length xs - 1 = omega (arith, up, slice_get_within xs j v at_v) in
              let same : v ≡ w = same_Some v w (sym at_v ∙ ap (slice_get xs) is ∙ at) in
              t ∙ sym (ap (λ (z : Switch). ltb made z.count) (sym same) ∙ high)
        ]
    | inr t ↦ t ∙ sym (le-ltb made w.count le)
  ]
]

pub left_of : (xs : List text.Switch) (made : ℕ) (d : text.Switch) → 0 < length xs → SwitchesRise (map switch_of xs) → ltb made (get_or xs (length xs - 1) d).count ≡ list_any (λ w. ltb made w.count) (map switch_of xs)
left_of xs made d some rise =
    let at = at_mapped switch_of xs (length xs - 1) (get_or xs (length xs - 1) d) (seen xs (length xs - 1) d (omega (arith, some))) in
    sym (left_last (map switch_of xs) made (switch_of (get_or xs (length xs - 1) d)) rise (ap (λ (n : ℕ). slice_get (map switch_of xs) (n - 1)) (length-map xs switch_of) ∙ at))

-- whether a task is named by a switch of this count
abbrev pub is_named : ℕ → List Switch → Who → Bool
is_named made xs who = list_any (λ w. (w.count == made) && is_same w.to who) xs

pub nobody_named : (made : ℕ) (xs : List Switch) (who : Who) → SwitchesTo made xs None → is_named made xs who ≡ false
nobody_named made xs who none = grind (arith, any_has)

pub is_named_one : (made : ℕ) (xs : List Switch) (who : Who) → SwitchesTo made xs (Some who) → is_named made xs who ≡ true
is_named_one made xs who k = grind (arith, any_some)

pub named_one : (made : ℕ) (xs : List Switch) (who v : Who) → SwitchesRise xs → SwitchesTo made xs (Some who) → is_named made xs v ≡ true → v ≡ who
named_one made xs who v rise k t = grind (arith, any_has, rise_once)

-- the next switch is left, where the one before it was left before this operator
pub next_left : (xs : List text.Switch) (from before made : ℕ) → SwitchesRise (map switch_of xs) → from < length xs → made ≤ before + 1 → IsStillDue from before (map switch_of xs) → IsStillDue (from + 1) made (map switch_of xs)
next_left xs from before made rise inside more left = λ w at.
    let (v, e) = get_within (map switch_of xs) from (omega (arith, inside, length-map xs switch_of)) in
    omega (arith, more, left v e, rise_at (map switch_of xs) from (from + 1) v w rise (omega arith) e at)

pub still_left : (xs : List text.Switch) (from made : ℕ) (d : text.Switch) → (from < length xs → made ≤ (get_or xs from d).count) → IsStillDue from made (map switch_of xs)
still_left xs from made d high = grind (arith, mapped_at, slice_get_within, get_or_from_slice_get)

pub lent_left : (lent xs : List text.Switch) (from next made : ℕ) → lent ≡ xs
    → ((before : ℕ) → length lent < 2 ^ 32 → SwitchesRise (map switch_of lent) → made ≤ before + 1 → IsStillDue from before (map switch_of lent) → IsStillDue next made (map switch_of lent))
    → (before : ℕ) → length xs < 2 ^ 32 → SwitchesRise (map switch_of xs) → made ≤ before + 1 → IsStillDue from before (map switch_of xs) → IsStillDue next made (map switch_of xs)
lent_left lent xs from next made is h =
    let P : List text.Switch → Type 0 = λ l. (before : ℕ) → length l < 2 ^ 32 → SwitchesRise (map switch_of l) → made ≤ before + 1 → IsStillDue from before (map switch_of l) → IsStillDue next made (map switch_of l) in
    subst P is h
