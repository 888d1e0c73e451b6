-- Members of lists, look-ups by number, and totals.
use Rattle.std.proofs.Common.{List, [], ◌∷◌, ◌++◌, inl, inr, ◌⊎◌, map, ap, ◌≡◌, refl, flat_map, sym, subst, Bool, true, filter, ◌∙◌, ℕ, Some, ◌<◌, arith, ◌≤◌, ◌≢◌, ◌+◌, cond, eqb, suc, length, false, reverse, zero, not, None, find, ⊎_elim}
use Rattle.std.proofs.lemmas.Bool.{cases_Bool, true≢false}
use Rattle.std.specs.List.{AllByRecursion, slice_get, list_any}
use Rattle.std.proofs.lemmas.Bool.Decides.{eqb_tells}
use Rattle.std.proofs.lemmas.List.{reverse-append, reverse-reverse}
use Rattle.std.specs.Prelude.{find}
use Rattle.std.proofs.lemmas.Option.{same_Some, none-some}
use Rattle.b67_lemmas.specs.Lists.{Has, Falls, total, how_many}
use Rattle.b67_lemmas.specs.Keyed.{keyed, change_keyed}

pub has_append_left : {A : Type 0} (xs ys : List A) (x : A) → Has xs x → Has (xs ++ ys) x
has_append_left [] ys x h = absurd h
has_append_left (y ∷ xs) ys x h = elim h [ inl e ↦ inl e | inr m ↦ inr (has_append_left xs ys x m) ]

pub has_append_right : {A : Type 0} (xs ys : List A) (x : A) → Has ys x → Has (xs ++ ys) x
has_append_right [] ys x h = h
has_append_right (y ∷ xs) ys x h = inr (has_append_right xs ys x h)

pub has_append_cases : {A : Type 0} (xs ys : List A) (x : A) → Has (xs ++ ys) x → Has xs x ⊎ Has ys x
has_append_cases [] ys x h = inr h
has_append_cases (y ∷ xs) ys x h = elim h [
  | inl e ↦ inl (inl e)
  | inr m ↦ elim (has_append_cases xs ys x m) [ inl a ↦ inl (inr a) | inr b ↦ inr b ]
]

pub has_map : {A B : Type 0} (f : A → B) (xs : List A) (x : A) → Has xs x → Has (map f xs) (f x)
has_map f [] x h = absurd h
has_map f (y ∷ xs) x h = elim h [ inl e ↦ inl (ap f e) | inr m ↦ inr (has_map f xs x m) ]

pub record Source {A B : Type 0} (f : A → B) (xs : List A) (y : B) : Type 0 where
  pub item : A
  pub among : Has xs item
  pub is : f item ≡ y

pub has_map_back : {A B : Type 0} (f : A → B) (xs : List A) (y : B) → Has (map f xs) y → Source f xs y
has_map_back f [] y h = absurd h
has_map_back f (x ∷ xs) y h = elim h [
  | inl e ↦ record { item = x; among = inl refl; is = e }
  | inr m ↦ let r = has_map_back f xs y m in record { item = r.item; among = inr r.among; is = r.is }
]

pub record Part {A B : Type 0} (f : A → List B) (xs : List A) (y : B) : Type 0 where
  pub item : A
  pub among : Has xs item
  pub inside : Has (f item) y

pub has_flat : {A B : Type 0} (f : A → List B) (xs : List A) (x : A) (y : B) → Has xs x → Has (f x) y → Has (flat_map f xs) y
has_flat f [] x y h inside = absurd h
has_flat f (z ∷ xs) x y h inside = elim h [
  | inl e ↦ has_append_left (f z) (flat_map f xs) y (subst (λ w. Has (f w) y) (sym e) inside)
  | inr m ↦ has_append_right (f z) (flat_map f xs) y (has_flat f xs x y m inside)
]

pub has_flat_back : {A B : Type 0} (f : A → List B) (xs : List A) (y : B) → Has (flat_map f xs) y → Part f xs y
has_flat_back f [] y h = absurd h
has_flat_back f (x ∷ xs) y h = elim (has_append_cases (f x) (flat_map f xs) y h) [
  | inl a ↦ record { item = x; among = inl refl; inside = a }
  | inr b ↦ let r = has_flat_back f xs y b in record { item = r.item; among = inr r.among; inside = r.inside }
]

pub has_filter : {A : Type 0} (p : A → Bool) (xs : List A) (x : A) → Has (filter p xs) x → Has xs x × (p x ≡ true)
has_filter p [] x h = absurd h
has_filter p (y ∷ xs) x h = elim (cases_Bool (p y)) [
  | inl t ↦ elim (rw t at h) [
    | inl e ↦ (inl e, ap p (sym e) ∙ t)
    | inr m ↦ let r = has_filter p xs x m in (inr r.0, r.1)
  ]
  | inr t ↦ let r = has_filter p xs x (rw t at h) in (inr r.0, r.1)
]

pub has_filter_in : {A : Type 0} (p : A → Bool) (xs : List A) (x : A) → Has xs x → p x ≡ true → Has (filter p xs) x
has_filter_in p [] x h t = absurd h
has_filter_in p (y ∷ xs) x h t = elim (cases_Bool (p y)) [
  | inl s ↦ rw s (elim h [ inl e ↦ inl e | inr m ↦ inr (has_filter_in p xs x m t) ])
  | inr s ↦ rw s (elim h [ inl e ↦ absurd (true≢false (sym t ∙ ap p (sym e) ∙ s)) | inr m ↦ has_filter_in p xs x m t ])
]

pub all_in : {A : Type 0} (P : A → Type 0) (xs : List A) (x : A) → AllByRecursion P xs → Has xs x → P x
all_in P [] x all h = absurd h
all_in P (y ∷ xs) x all h = elim h [ inl e ↦ subst P e all.0 | inr m ↦ all_in P xs x all.1 m ]

pub all_from : {A : Type 0} (P : A → Type 0) (xs : List A) → ((x : A) → Has xs x → P x) → AllByRecursion P xs
all_from P [] each = tt
all_from P (y ∷ xs) each = (each y (inl refl), all_from P xs (λ x h. each x (inr h)))

pub keyed_has : {A : Type 0} (key : A → ℕ) (n : ℕ) (xs : List A) (x : A) → keyed key n xs ≡ Some x → Has xs x × (key x ≡ n)
keyed_has key n [] x e = cc
keyed_has key n (y ∷ ys) x e = elim (eqb_tells (key y) n) [
  | inl t ↦ let at : Some y ≡ Some x = rw t.0 at e in
      let same : y ≡ x = cc in
      (inl same, ap key (sym same) ∙ t.1)
  | inr t ↦ let r = keyed_has key n ys x (rw t.0 at e) in (inr r.0, r.1)
]

pub falls_low : (bound : ℕ) (xs : List ℕ) (n : ℕ) → Falls bound xs → Has xs n → n < bound
falls_low bound [] n f h = absurd h
falls_low bound (x ∷ xs) n f h = elim h [ inl e ↦ subst (λ m. m < bound) e f.0 | inr m ↦ omega (arith, f.0, falls_low x xs n f.1 m) ]

pub falls_more : (low high : ℕ) (xs : List ℕ) → low ≤ high → Falls low xs → Falls high xs
falls_more low high [] le f = tt
falls_more low high (x ∷ xs) le f = (omega (arith, f.0, le), f.1)

-- the first item of a number, where numbers fall
pub keyed_falls : {A : Type 0} (key : A → ℕ) (bound : ℕ) (xs : List A) (x : A) → Falls bound (map key xs) → Has xs x → keyed key (key x) xs ≡ Some x
keyed_falls key bound [] x f h = absurd h
keyed_falls key bound (y ∷ ys) x f h = elim h [
  | inl e ↦ elim (eqb_tells (key y) (key x)) [ inl t ↦ rw t.0 (ap Some e) | inr t ↦ absurd (t.1 (ap key e)) ]
  | inr m ↦ elim (eqb_tells (key y) (key x)) [
    | inl t ↦ let low : key x < key y = falls_low (key y) (map key ys) (key x) f.1 (has_map key ys x m) in absurd (omega (arith, low, t.1))
    | inr t ↦ rw t.0 (keyed_falls key (key y) ys x f.1 m)
  ]
]

-- what a list has after its first item of a number was replaced
pub has_change : {A : Type 0} (key : A → ℕ) (bound n : ℕ) (new : A) (xs : List A) (x : A) → Falls bound (map key xs) → Has (change_keyed key n (λ y. new) xs) x →
    (new ≡ x) ⊎ (Has xs x × (key x ≢ n))
has_change key bound n new [] x f h = absurd h
has_change key bound n new (y ∷ ys) x f h = elim (eqb_tells (key y) n) [
  | inl t ↦ elim (rw t.0 at h) [
    | inl e ↦ inl e
    | inr m ↦ inr (inr m, λ e. let low : key x < key y = falls_low (key y) (map key ys) (key x) f.1 (has_map key ys x m) in omega (arith, low, t.1, e))
  ]
  | inr t ↦ elim (rw t.0 at h) [
    | inl e ↦ inr (inl e, λ k. t.1 (ap key e ∙ k))
    | inr m ↦ elim (has_change key (key y) n new ys x f.1 m) [ inl e ↦ inl e | inr r ↦ inr (inr r.0, r.1) ]
  ]
]

pub map_change : {A : Type 0} (key : A → ℕ) (n : ℕ) (new : A) (xs : List A) → key new ≡ n → map key (change_keyed key n (λ y. new) xs) ≡ map key xs
map_change key n new [] k = refl
map_change key n new (y ∷ ys) k = elim (eqb_tells (key y) n) [
  | inl t ↦ rw t.0 (ap (λ m. m ∷ map key ys) (k ∙ sym t.1))
  | inr t ↦ rw t.0 (ap (λ ms. key y ∷ ms) (map_change key n new ys k))
]

pub change_twice : {A : Type 0} (key : A → ℕ) (n : ℕ) (a b : A) (xs : List A) → key a ≡ n →
    change_keyed key n (λ y. b) (change_keyed key n (λ y. a) xs) ≡ change_keyed key n (λ y. b) xs
change_twice key n a b [] k = refl
change_twice key n a b (y ∷ ys) k = elim (eqb_tells (key y) n) [
  | inl t ↦ elim (eqb_tells (key a) n) [ inl s ↦ rw (t.0, s.0) refl | inr s ↦ absurd (s.1 k) ]
  | inr t ↦ rw (t.0, t.0) (ap (λ more. y ∷ more) (change_twice key n a b ys k))
]

pub total_change : {A : Type 0} (key : A → ℕ) (weight : A → ℕ) (n : ℕ) (old new : A) (xs : List A) → keyed key n xs ≡ Some old →
    total weight (change_keyed key n (λ y. new) xs) + weight old ≡ total weight xs + weight new
total_change key weight n old new [] e = cc
total_change key weight n old new (y ∷ ys) e = elim (eqb_tells (key y) n) [
  | inl t ↦ let at : Some y ≡ Some old = rw t.0 at e in
      let same : y ≡ old = cc in
      rw t.0 (omega (arith, ap weight same))
  | inr t ↦ let ih = total_change key weight n old new ys (rw t.0 at e) in rw t.0 (omega (arith, ih))
]

pub total_append : {A : Type 0} (weight : A → ℕ) (xs ys : List A) → total weight (xs ++ ys) ≡ total weight xs + total weight ys
total_append weight [] ys = omega arith
total_append weight (x ∷ xs) ys = omega (arith, total_append weight xs ys)

pub total_same : {A : Type 0} (f g : A → ℕ) (xs : List A) → ((x : A) → Has xs x → f x ≡ g x) → total f xs ≡ total g xs
total_same f g [] same = refl
total_same f g (x ∷ xs) same = omega (arith, same x (inl refl), total_same f g xs (λ y h. same y (inr h)))

pub total_map : {A B : Type 0} (f : A → B) (weight : B → ℕ) (xs : List A) → total weight (map f xs) ≡ total (λ x. weight (f x)) xs
total_map f weight [] = refl
total_map f weight (x ∷ xs) = omega (arith, total_map f weight xs)

pub total_flat : {A B : Type 0} (f : A → List B) (weight : B → ℕ) (xs : List A) → total weight (flat_map f xs) ≡ total (λ x. total weight (f x)) xs
total_flat f weight [] = refl
total_flat f weight (x ∷ xs) = omega (arith, total_append weight (f x) (flat_map f xs), total_flat f weight xs)

pub total_has : {A : Type 0} (weight : A → ℕ) (xs : List A) (x : A) → Has xs x → weight x ≤ total weight xs
total_has weight [] x h = absurd h
total_has weight (y ∷ xs) x h = elim h [
  | inl e ↦ let s : weight y ≡ weight x = ap weight e in omega (arith, s)
  | inr m ↦ omega (arith, total_has weight xs x m)
]

-- an item whose number stands once is the one that is found
pub keyed_once : {A : Type 0} (key : A → ℕ) (n : ℕ) (xs : List A) (x : A) → how_many (λ y. eqb (key y) n) xs ≤ 1 → Has xs x → key x ≡ n → keyed key n xs ≡ Some x
keyed_once key n [] x few h k = absurd h
keyed_once key n (y ∷ ys) x few h k = elim (eqb_tells (key y) n) [
  | inl t ↦ elim h [
    | inl e ↦ rw t.0 (ap Some e)
    | inr m ↦ let lows : 1 + how_many (λ z. eqb (key z) n) ys ≤ 1 = rw t.0 at few in
        let one = total_has (λ z. cond (eqb (key z) n) 1 0) ys x m in
        elim (eqb_tells (key x) n) [
          | inl s ↦ let one' : 1 ≤ how_many (λ z. eqb (key z) n) ys = rw s.0 at one in absurd (omega (arith, lows, one'))
          | inr s ↦ absurd (s.1 k)
        ]
  ]
  | inr t ↦ elim h [
    | inl e ↦ absurd (t.1 (ap key e ∙ k))
    | inr m ↦ let lows : 0 + how_many (λ z. eqb (key z) n) ys ≤ 1 = rw t.0 at few in rw t.0 (keyed_once key n ys x (omega (arith, lows)) m k)
  ]
]

pub change_found : {A : Type 0} (key : A → ℕ) (n : ℕ) (old new : A) (xs : List A) → key new ≡ n → keyed key n xs ≡ Some old → keyed key n (change_keyed key n (λ y. new) xs) ≡ Some new
change_found key n old new [] k e = cc
change_found key n old new (y ∷ ys) k e = elim (eqb_tells (key y) n) [
  | inl t ↦ elim (eqb_tells (key new) n) [ inl s ↦ rw (t.0, s.0) refl | inr s ↦ absurd (s.1 k) ]
  | inr t ↦ rw (t.0, t.0) (change_found key n old new ys k (rw t.0 at e))
]

pub change_other : {A : Type 0} (key : A → ℕ) (m n : ℕ) (new : A) (xs : List A) → key new ≡ n → m ≢ n → keyed key m (change_keyed key n (λ y. new) xs) ≡ keyed key m xs
change_other key m n new [] k ne = refl
change_other key m n new (y ∷ ys) k ne = elim (eqb_tells (key y) n) [
  | inl t ↦ elim (eqb_tells (key y) m) [
    | inl u ↦ absurd (ne (sym u.1 ∙ t.1))
    | inr u ↦ elim (eqb_tells (key new) m) [ inl s ↦ absurd (ne (sym s.1 ∙ k)) | inr s ↦ rw (t.0, s.0, u.0) refl ]
  ]
  | inr t ↦ rw t.0 (ap (λ r. cond (eqb (key y) m) (Some y) r) (change_other key m n new ys k ne))
]

pub length_change : {A : Type 0} (key : A → ℕ) (n : ℕ) (new : A) (xs : List A) → length (change_keyed key n (λ y. new) xs) ≡ length xs
length_change key n new [] = refl
length_change key n new (y ∷ ys) = elim (eqb_tells (key y) n) [ inl t ↦ rw t.0 refl | inr t ↦ rw t.0 (ap suc (length_change key n new ys)) ]

-- the front lies above what follows
pub falls_above : (bound : ℕ) (xs ys : List ℕ) (x y : ℕ) → Falls bound (xs ++ ys) → Has xs x → Has ys y → y < x
falls_above bound [] ys x y f h k = absurd h
falls_above bound (z ∷ xs) ys x y f h k = elim h [
  | inl e ↦ let low : y < z = falls_low z (xs ++ ys) y f.1 (has_append_right xs ys y k) in omega (arith, low, e)
  | inr m ↦ falls_above z xs ys x y f.1 m k
]

-- a number stands once where numbers fall
pub falls_once : {A : Type 0} (key : A → ℕ) (n bound : ℕ) (xs : List A) → Falls bound (map key xs) → (n < bound ⊎ how_many (λ x. eqb (key x) n) xs ≡ 0) × (how_many (λ x. eqb (key x) n) xs ≤ 1)
falls_once key n bound [] f = (inr refl, omega arith)
falls_once key n bound (x ∷ xs) f = let ih = falls_once key n (key x) xs f.1 in elim (eqb_tells (key x) n) [
  | inl t ↦ (inl (omega (arith, t.1, f.0)), rw t.0 (elim ih.0 [ inl l ↦ absurd (omega (arith, l, t.1)) | inr z ↦ omega (arith, z) ]))
  | inr t ↦ (elim ih.0 [ inl l ↦ inl (omega (arith, l, f.0)) | inr z ↦ inr (rw t.0 (omega (arith, z))) ], rw t.0 (omega (arith, ih.1)))
]

-- a number that passes nobody's test
pub none_pass : {A : Type 0} (test : A → Bool) (xs : List A) → ((x : A) → Has xs x → test x ≡ false) → how_many test xs ≡ 0
none_pass test [] none = refl
none_pass test (x ∷ xs) none = let t = none x (inl refl) in rw t (omega (arith, none_pass test xs (λ y h. none y (inr h))))

pub total_zero : {A : Type 0} (weight : A → ℕ) (xs : List A) → ((x : A) → Has xs x → weight x ≡ 0) → total weight xs ≡ 0
total_zero weight [] none = refl
total_zero weight (x ∷ xs) none = omega (arith, none x (inl refl), total_zero weight xs (λ y h. none y (inr h)))

pub keyed_left : {A : Type 0} (key : A → ℕ) (n : ℕ) (xs ys : List A) (x : A) → keyed key n xs ≡ Some x → keyed key n (xs ++ ys) ≡ Some x
keyed_left key n [] ys x e = cc
keyed_left key n (y ∷ xs) ys x e = elim (eqb_tells (key y) n) [
  | inl t ↦ rw t.0 (rw t.0 at e)
  | inr t ↦ rw t.0 (keyed_left key n xs ys x (rw t.0 at e))
]

pub keyed_right : {A : Type 0} (key : A → ℕ) (n : ℕ) (xs ys : List A) → how_many (λ y. eqb (key y) n) xs ≡ 0 → keyed key n (xs ++ ys) ≡ keyed key n ys
keyed_right key n [] ys none = refl
keyed_right key n (y ∷ xs) ys none = elim (eqb_tells (key y) n) [
  | inl t ↦ let one : 1 + how_many (λ z. eqb (key z) n) xs ≡ 0 = rw t.0 at none in absurd (omega (arith, one))
  | inr t ↦ let rest : 0 + how_many (λ z. eqb (key z) n) xs ≡ 0 = rw t.0 at none in rw t.0 (keyed_right key n xs ys (omega (arith, rest)))
]

pub reverse_cons : {A : Type 0} (x : A) (xs : List A) → reverse (x ∷ xs) ≡ reverse xs ++ (x ∷ [])
reverse_cons x xs = reverse-append (x ∷ []) xs

pub has_reverse : {A : Type 0} (xs : List A) (x : A) → Has xs x → Has (reverse xs) x
has_reverse [] x h = absurd h
has_reverse (y ∷ xs) x h = rw (reverse_cons y xs) (elim h [
  | inl e ↦ has_append_right (reverse xs) (y ∷ []) x (inl e)
  | inr m ↦ has_append_left (reverse xs) (y ∷ []) x (has_reverse xs x m)
])

pub has_reverse_back : {A : Type 0} (xs : List A) (x : A) → Has (reverse xs) x → Has xs x
has_reverse_back xs x h = let twice : reverse (reverse xs) ≡ xs = reverse-reverse xs in subst (λ ys. Has ys x) twice (has_reverse (reverse xs) x h)

pub has_get : {A : Type 0} (xs : List A) (i : ℕ) (x : A) → slice_get xs i ≡ Some x → Has xs x
has_get [] i x e = cc
has_get (y ∷ xs) zero x e = inl (let same : y ≡ x = cc in same)
has_get (y ∷ xs) (suc i) x e = inr (has_get xs i x e)

pub any_none : {A : Type 0} (test : A → Bool) (xs : List A) (x : A) → list_any test xs ≡ false → Has xs x → test x ≡ false
any_none test [] x none h = absurd h
any_none test (y ∷ xs) x none h = elim (cases_Bool (test y)) [
  | inl t ↦ let no : true ≡ false = rw t at none in absurd (true≢false no)
  | inr t ↦ elim h [ inl e ↦ ap test (sym e) ∙ t | inr m ↦ any_none test xs x (rw t at none) m ]
]

pub falls_filter : {A : Type 0} (key : A → ℕ) (p : A → Bool) (bound : ℕ) (xs : List A) → Falls bound (map key xs) → Falls bound (map key (filter p xs))
falls_filter key p bound [] f = tt
falls_filter key p bound (x ∷ xs) f = elim (cases_Bool (p x)) [
  | inl t ↦ rw t (f.0, falls_filter key p (key x) xs f.1)
  | inr t ↦ rw t (falls_more (key x) bound (map key (filter p xs)) (omega (arith, f.0)) (falls_filter key p (key x) xs f.1))
]

pub total_reverse : {A : Type 0} (weight : A → ℕ) (xs : List A) → total weight (reverse xs) ≡ total weight xs
total_reverse weight [] = refl
total_reverse weight (x ∷ xs) = rw (reverse_cons x xs) (omega (arith, total_append weight (reverse xs) (x ∷ []), total_reverse weight xs))

-- two items of one number are one, where numbers fall
pub falls_same : {A : Type 0} (key : A → ℕ) (bound : ℕ) (xs : List A) (x y : A) → Falls bound (map key xs) → Has xs x → Has xs y → key x ≡ key y → x ≡ y
falls_same key bound xs x y f h k e =
    let one : keyed key (key x) xs ≡ Some x = keyed_falls key bound xs x f h in
    let two : keyed key (key x) xs ≡ Some y = rw e (keyed_falls key bound xs y f k) in
    let both : Some x ≡ Some y = sym one ∙ two in
    cc

pub keyed_map : {A : Type 0} (key : A → ℕ) (n : ℕ) (change : A → A) (xs : List A) (x : A) → ((y : A) → key (change y) ≡ key y) → keyed key n xs ≡ Some x → keyed key n (map change xs) ≡ Some (change x)
keyed_map key n change [] x same e = cc
keyed_map key n change (y ∷ ys) x same e = elim (eqb_tells (key y) n) [
  | inl t ↦ let at : Some y ≡ Some x = rw t.0 at e in
      let is : y ≡ x = cc in
      let k : eqb (key (change y)) n ≡ true = rw (same y) t.0 in
      rw k (ap (λ z. Some (change z)) is)
  | inr t ↦ let k : eqb (key (change y)) n ≡ false = rw (same y) t.0 in
      rw k (keyed_map key n change ys x same (rw t.0 at e))
]

pub map_map_key : {A B : Type 0} (key : A → B) (change : A → A) (xs : List A) → ((y : A) → key (change y) ≡ key y) → map key (map change xs) ≡ map key xs
map_map_key key change [] same = refl
map_map_key key change (x ∷ xs) same = ap (λ k. k ∷ map key (map change xs)) (same x) ∙ ap (λ ks. key x ∷ ks) (map_map_key key change xs same)

pub keyed_filter : {A : Type 0} (key : A → ℕ) (n : ℕ) (p : A → Bool) (xs : List A) (x : A) → keyed key n xs ≡ Some x → p x ≡ true → ((y : A) → key y ≡ n → p y ≡ p x) → keyed key n (filter p xs) ≡ Some x
keyed_filter key n p [] x e t same = cc
keyed_filter key n p (y ∷ ys) x e t same = elim (eqb_tells (key y) n) [
  | inl k ↦ let at : Some y ≡ Some x = rw k.0 at e in
      let py : p y ≡ true = same y k.1 ∙ t in
      rw (py, k.0) at
  | inr k ↦ let rest : keyed key n (filter p ys) ≡ Some x = keyed_filter key n p ys x (rw k.0 at e) t same in
      elim (cases_Bool (p y)) [ inl q ↦ rw (q, k.0) rest | inr q ↦ rw q rest ]
]

pub total_split : {A : Type 0} (weight : A → ℕ) (p : A → Bool) (xs : List A) → total weight (filter p xs) + total weight (filter (λ x. not (p x)) xs) ≡ total weight xs
total_split weight p [] = omega arith
total_split weight p (x ∷ xs) = elim (cases_Bool (p x)) [
  | inl t ↦ rw t (omega (arith, total_split weight p xs))
  | inr t ↦ rw t (omega (arith, total_split weight p xs))
]

pub length_filter : {A : Type 0} (p : A → Bool) (xs : List A) → length (filter p xs) ≤ length xs
length_filter p [] = omega arith
length_filter p (x ∷ xs) = elim (cases_Bool (p x)) [
  | inl t ↦ rw t (omega (arith, length_filter p xs))
  | inr t ↦ rw t (omega (arith, length_filter p xs))
]

-- a list of falling numbers among others is no longer
pub falls_short : (bound : ℕ) (xs : List ℕ) (c : ℕ) (ys : List ℕ) → Falls bound xs → Falls c ys → ((x : ℕ) → Has xs x → Has ys x) → length xs ≤ length ys
falls_short bound [] c ys f g among = omega arith
falls_short bound (x ∷ xs) c [] f g among = absurd (among x (inl refl))
falls_short bound (x ∷ xs) c (y ∷ ys) f g among =
    let rest : length xs ≤ length ys = falls_short x xs y ys f.1 g.1 (λ z h. elim (among z (inr h)) [
      | inl e ↦ let low = falls_low x xs z f.1 h in elim (among x (inl refl)) [
        | inl d ↦ absurd (omega (arith, low, e, d))
        | inr m ↦ let under = falls_low y ys x g.1 m in absurd (omega (arith, low, e, under))
      ]
      | inr m ↦ m
    ]) in
    omega (arith, rest)

pub any_some : {A : Type 0} (test : A → Bool) (xs : List A) (x : A) → Has xs x → test x ≡ true → list_any test xs ≡ true
any_some test [] x h t = absurd h
any_some test (y ∷ xs) x h t = elim (cases_Bool (test y)) [
  | inl s ↦ rw s refl
  | inr s ↦ rw s (elim h [ inl e ↦ absurd (true≢false (sym t ∙ ap test (sym e) ∙ s)) | inr m ↦ any_some test xs x m t ])
]

pub any_has : {A : Type 0} (test : A → Bool) (xs : List A) → list_any test xs ≡ true → (x : A) × Has xs x × (test x ≡ true)
any_has test [] t = absurd (true≢false (sym t))
any_has test (y ∷ xs) t = elim (cases_Bool (test y)) [
  | inl s ↦ (y, inl refl, s)
  | inr s ↦ let r = any_has test xs (rw s at t) in (r.0, inr r.1, r.2)
]

-- all tasks end
pub filter_none : {A : Type 0} (p : A → Bool) (xs : List A) → ((x : A) → Has xs x → p x ≡ false) → filter p xs ≡ []
filter_none p [] none = refl
filter_none p (x ∷ xs) none = let t = none x (inl refl) in rw t (filter_none p xs (λ y h. none y (inr h)))

pub find_none : {A : Type 0} (p : A → Bool) (xs : List A) → ((x : A) → Has xs x → p x ≡ false) → find p xs ≡ None
find_none p [] none = refl
find_none p (x ∷ xs) none = let t = none x (inl refl) in rw t (find_none p xs (λ y k. none y (inr k)))

pub find_one : {A : Type 0} (p : A → Bool) (xs : List A) (w : A) → Has xs w → p w ≡ true → ((x : A) → p x ≡ true → x ≡ w) → find p xs ≡ Some w
find_one p [] w h t one = absurd h
find_one p (x ∷ xs) w h t one = elim (cases_Bool (p x)) [
  | inl e ↦ rw e (ap Some (one x e))
  | inr e ↦ rw e (elim h [ inl is ↦ absurd (true≢false (sym t ∙ ap p (sym is) ∙ e)) | inr k ↦ find_one p xs w k t one ])
]

pub found-has : {A : Type 0} (test : A → Bool) (xs : List A) (x : A) → find test xs ≡ Some x → Has xs x × (test x ≡ true)
found-has test [] x e = absurd (none-some x e)
found-has test (y ∷ ys) x e = ⊎_elim
    (λ (t : test y ≡ true). let same : y ≡ x = same_Some y x (rw t at e) in (inl same, ap test (sym same) ∙ t))
    (λ (t : test y ≡ false). let r = found-has test ys x (rw t at e) in (inr r.0, r.1))
    (cases_Bool (test y))
