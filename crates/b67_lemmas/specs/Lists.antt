-- Members of lists, and totals over them.
use Rattle.std.specs.Prelude.{◌≡◌, ℕ, ◌+◌, ◌<◌, Bool, List, [], ◌∷◌, ◌⊎◌, if◌then◌else◌}

-- x is an item of the list
abbrev pub Has : {A : Type 0} → List A → A → Type 0
Has [] x = ⊥
Has (y ∷ ys) x = (y ≡ x) ⊎ Has ys x

abbrev pub total : {A : Type 0} → (A → ℕ) → List A → ℕ
total f [] = 0
total f (x ∷ xs) = f x + total f xs

-- how many items pass the test
abbrev pub how_many : {A : Type 0} → (A → Bool) → List A → ℕ
how_many test xs = total (λ x. if test x then 1 else 0) xs

-- numbers that fall from below a bound
abbrev pub Falls : ℕ → List ℕ → Type 0
Falls bound [] = Unit {0}
Falls bound (n ∷ more) = (n < bound) × Falls n more
