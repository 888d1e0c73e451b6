-- The refusal before which no other comes.
use Rattle.std.proofs.Common.{◌≡◌, ◌⊎◌, ℕ, ◌<◌, ◌≤◌, Bool, true, false, cond, eqb, ltb, ◌&&◌, ◌||◌, List, [], ◌∷◌, ◌++◌, Option, Some, None, Err, refl, sym, ap, subst, ◌∙◌, arith, inl, inr}
use Rattle.std.specs.Prelude.{option_map, slice_get}
use Rattle.std.specs.List.{AllByRecursion}
use Rattle.std.proofs.lemmas.Bool.{cases_Bool, cases_lt, lt-ltb, le-ltb, ltb-true, eq-eqb}
use Rattle.std.proofs.lemmas.Bool.Decides.{eqb_tells}
use Rattle.b67_word.specs.declared.couples.Place.{Place}
use Rattle.b67_lemmas.specs.Lists.{Has}
use Rattle.b67_lemmas.proofs.Members.{has_append_left, has_append_right}
use Rattle.b67_lemmas.proofs.Joins.{all_append, all_by}
use Rattle.b67_model.specs.Loader as loader
use Rattle.b67_model.specs.Loader.{same_place, Listed, Refusal, listing, refusals_of, wrong_entries, stands_before, comes_before, first_of}
use Rattle.b67_word.specs.Tagged.{contents}
use Rattle.b67_codefile.specs.declared.file.Segment.{Segment}
use Rattle.b67_codefile.specs.declared.file.Codefile.{Codefile}
use Rattle.b67_codefile.specs.Spelling.{EntriesRise}
use Rattle.b67_load.specs.declared.rules.Broken.{Broken}
use Rattle.b67_load.specs.declared.fault.LoadFault.{LoadFault}
use Rattle.b67_load.specs.declared.fault.LoadFault.TheVariants.{Refused, Memory}
use Rattle.b67_load.specs.Broken.{listed, refusal_at, wrong_at, earlier, Finds, FindsFirst}
use Rattle.b67_load.specs.Order.{StandsBefore, ComesBefore, IsLeast, IsFirst, TellsLeast}
use Rattle.b67_load.proofs.InOrder.{InOrder, IsLow, listing-in_order, listing-low, wrong-in_order}

-- ---- the order of places and of refusals

place_is : (a b : Place) → a.word ≡ b.word → a.syllable ≡ b.syllable → a ≡ b
place_is a b w s = λ i. record { word = w i; syllable = s i }

-- one place stands before another, or is it, or stands after it
places : (a b : Place) → ((stands_before a b ≡ true) × StandsBefore a b) ⊎ ((stands_before a b ≡ false) × ((a ≡ b) ⊎ StandsBefore b a))
places a b = grind arith

stands_not : (a : Place) → StandsBefore a a → ⊥
stands_not a h = grind arith

pub comes_then : (a b c : Refusal) → ComesBefore a b → ComesBefore b c → ComesBefore a c
comes_then a b c h e = grind arith

comes_not : (a : Refusal) → ComesBefore a a → ⊥
comes_not a h = grind arith

comes_true : (a b : Refusal) → ComesBefore a b → comes_before a b ≡ true
comes_true a b h = grind (arith, lt-ltb, eq-eqb)

comes_so : (a b : Refusal) → comes_before a b ≡ true → ComesBefore a b
comes_so a b e = grind (arith, ltb-true, eqb_tells)

-- where a comes before b or is it, b doesn't come before a
comes_false : (a b : Refusal) → (b ≡ a) ⊎ ComesBefore a b → comes_before b a ≡ false
comes_false a b h = elim (cases_Bool (comes_before b a)) [
  | inl t ↦ absurd (either h (comes_so b a t))
  | inr t ↦ t
]
  where
    either : (b ≡ a) ⊎ ComesBefore a b → ComesBefore b a → ⊥
    either (inl e) c = comes_not a (subst (λ (x : Refusal). ComesBefore x a) e c)
    either (inr d) c = comes_not a (comes_then a b a d c)

-- ---- the first of a list

pub has_all : (P : Refusal → Type 0) (rs : List Refusal) (r : Refusal) → AllByRecursion P rs → Has rs r → P r
has_all P [] r all h = absurd h
has_all P (x ∷ rs) r all (inl e) = subst P e all.0
has_all P (x ∷ rs) r all (inr h) = has_all P rs r all.1 h

abbrev sooner : Refusal → Option Refusal → Refusal
sooner r None = r
sooner r (Some s) = cond (comes_before s r) s r

some_is : (a b : Refusal) → Some a ≡ Some b → a ≡ b
some_is a b e = cc

sooner_has : (x r : Refusal) (rs : List Refusal) (o : Option Refusal) → ((s : Refusal) → o ≡ Some s → Has rs s) → sooner x o ≡ r → Has (x ∷ rs) r
sooner_has x r rs o more e = grind arith

first_has : (rs : List Refusal) (r : Refusal) → first_of rs ≡ Some r → Has rs r
first_has [] r e = cc
first_has (x ∷ rs) r e = sooner_has x r rs (first_of rs) (λ s is. first_has rs s is) (some_is _ _ e)

-- x is the first, and comes before the first of the rest
sooner_here : (x r : Refusal) (o : Option Refusal) → x ≡ r → ((s : Refusal) → o ≡ Some s → (s ≡ r) ⊎ ComesBefore r s) → sooner x o ≡ r
sooner_here x r o e later = grind (arith, comes_false)

sooner_there : (x r : Refusal) → (x ≡ r) ⊎ ComesBefore r x → cond (comes_before r x) r x ≡ r
sooner_there x r h = grind (arith, comes_true)

-- the least refusal of a list is the one that is reported
pub first_unique : (rs : List Refusal) (r : Refusal) → IsFirst rs r → first_of rs ≡ Some r
first_unique [] r h = absurd h.among
first_unique (x ∷ rs) r h = elim h.among [
  | inl e ↦ ap Some (sooner_here x r (first_of rs) e (λ s is. has_all (λ b. (b ≡ r) ⊎ ComesBefore r b) rs s h.least.1 (first_has rs s is)))
  | inr m ↦ ap (λ (o : Option Refusal). Some (sooner x o)) (first_unique rs r (record { among = m; least = h.least.1 })) ∙ ap Some (sooner_there x r h.least.0)
]

-- the head of a list in order
pub head_first : (rs : List Refusal) (r : Refusal) → InOrder rs → slice_get rs 0 ≡ Some r → IsFirst rs r
head_first [] r h e = absurd cc
head_first (x ∷ rs) r h e = grind (arith, all_by)

nothing_first : {X : Type 0} (xs : List X) → slice_get xs 0 ≡ None → xs ≡ []
nothing_first [] e = refl
nothing_first (x ∷ xs) e = absurd cc

after_all : (r s : Refusal) (rs : List Refusal) → ComesBefore r s → IsLeast rs s → IsLeast rs r
after_all r s rs c least = all_by (λ b. (b ≡ s) ⊎ ComesBefore s b) (λ b. (b ≡ r) ⊎ ComesBefore r b) (λ b h. inr (either b h)) rs least
  where
    either : (b : Refusal) → (b ≡ s) ⊎ ComesBefore s b → ComesBefore r b
    either b (inl e) = subst (ComesBefore r) (sym e) c
    either b (inr d) = comes_then r s b c d

-- the first of two lists
pub first_left : (xs ys : List Refusal) (r s : Refusal) → ComesBefore r s → IsFirst xs r → IsFirst ys s → IsFirst (xs ++ ys) r
first_left xs ys r s c x y = record { among = has_append_left xs ys r x.among; least = all_append (λ b. (b ≡ r) ⊎ ComesBefore r b) xs ys x.least (after_all r s ys c y.least) }

pub first_right : (xs ys : List Refusal) (r s : Refusal) → ComesBefore s r → IsFirst xs r → IsFirst ys s → IsFirst (xs ++ ys) s
first_right xs ys r s c x y = record { among = has_append_right xs ys s y.among; least = all_append (λ b. (b ≡ s) ⊎ ComesBefore s b) xs ys (after_all s r xs c x.least) y.least }

-- the first of a list before others that come after it
pub first_before : (xs ys : List Refusal) (r : Refusal) → IsFirst xs r → AllByRecursion (ComesBefore r) ys → IsFirst (xs ++ ys) r
first_before xs ys r x after = record { among = has_append_left xs ys r x.among; least = all_append (λ b. (b ≡ r) ⊎ ComesBefore r b) xs ys x.least (all_by (ComesBefore r) (λ b. (b ≡ r) ⊎ ComesBefore r b) (λ b c. inr c) ys after) }

-- ---- one segment: what is broken at places of the listing, and at entries

append-none : (xs : List Refusal) → xs ++ [] ≡ xs
append-none [] = refl
append-none (x ∷ xs) = ap (λ (ys : List Refusal). x ∷ ys) (append-none xs)

abbrev pub Tells : ℕ → Option Broken → List Refusal → Type 0
Tells number None refusals = refusals ≡ []
Tells number (Some b) refusals = IsFirst refusals (refusal_at number b)

pub merged : (number : ℕ) (xs ys : List Refusal) (listed : Option Broken) (wrong : Option Place) → InOrder xs → InOrder ys → AllByRecursion IsLow xs
    → slice_get xs 0 ≡ option_map (refusal_at number) listed → slice_get ys 0 ≡ option_map (λ place. refusal_at number (wrong_at place)) wrong
    → Tells number (earlier listed wrong) (xs ++ ys)
merged number xs ys None None x y low p q = rw (nothing_first xs p) (nothing_first ys q)
merged number xs ys None (Some place) x y low p q = rw (nothing_first xs p) (head_first ys (refusal_at number (wrong_at place)) y q)
merged number xs ys (Some b) None x y low p q = rw (nothing_first ys q, append-none xs) (head_first xs (refusal_at number b) x p)
merged number xs ys (Some b) (Some place) x y low p q = elim (places place b.place) [
  | inl t ↦ rw t.0 (first_right xs ys (refusal_at number b) (refusal_at number (wrong_at place)) (inr (refl, inl t.1)) first second)
  | inr t ↦ rw t.0 (first_left xs ys (refusal_at number b) (refusal_at number (wrong_at place)) (inr (refl, order t.1)) first second)
]
  where
    first : IsFirst xs (refusal_at number b)
    first = head_first xs (refusal_at number b) x p

    second : IsFirst ys (refusal_at number (wrong_at place))
    second = head_first ys (refusal_at number (wrong_at place)) y q

    order : (place ≡ b.place) ⊎ StandsBefore b.place place → StandsBefore b.place place ⊎ ((b.place ≡ place) × (b.rule < 11))
    order (inl e) = inr (sym e, has_all IsLow xs (refusal_at number b) low first.among)
    order (inr s) = inl s

-- of a segment
pub told : (f : Codefile) (number : ℕ) (s : Segment) (entries : List loader.Entry) (at_places : Option Broken) (wrong : Option Place) (first : Option Broken) → entries ≡ listing (contents s.code) → EntriesRise 0 s.entries
    → slice_get (refusals_of (listed f number s entries) entries) 0 ≡ option_map (refusal_at number) at_places
    → slice_get (wrong_entries (listed f number s entries) s.entries) 0 ≡ option_map (λ place. refusal_at number (wrong_at place)) wrong
    → first ≡ earlier at_places wrong
    → Tells number first (refusals_of (listed f number s (listing (contents s.code))) (listing (contents s.code)) ++ wrong_entries (listed f number s (listing (contents s.code))) s.entries)
told f number s entries at_places wrong first is rise p q e = grind (arith, merged, listing-in_order, wrong-in_order, listing-low)

-- ---- the whole

pub finds : (X Y : Type 0) (fault : LoadFault) (refusals : List Refusal) → FindsFirst {X = X} (Err fault) refusals → Finds {X = Y} (Err fault) refusals
finds X Y fault refusals h = grind (arith, first_unique)

pub tells_least : (X : Type 0) (fault : LoadFault) (refusals : List Refusal) → FindsFirst {X = X} (Err fault) refusals → TellsLeast fault refusals
tells_least X fault refusals h = grind arith
