-- The entries that a segment's cards name, in order.
use Rattle.std.proofs.Common.{◌⊎◌, inl, inr, ◌≡◌, ℕ, ◌+◌, ◌*◌, ◌/◌, ◌%◌, ◌^◌, ◌<◌, ◌≤◌, true, false, eqb, refl, sym, ◌∙◌, ap, subst, arith, Option, Some, List, [], ◌∷◌, map, min, Ok}
use Rattle.std.specs.List.{AllByRecursion, list_any}
use Rattle.std.proofs.lemmas.Bool.{cases_lt, lt-ltb, le-ltb}
use Rattle.std.proofs.lemmas.Bool.Decides.{eqb_tells}
use Rattle.b67_word.specs.declared.couples.Place.{Place}
use Rattle.b67_lemmas.specs.Lists.{Has}
use Rattle.b67_model.specs.Operators.{place_at, place_of_bits}
use Rattle.b67_model_text.specs.declared.assembly.Statement.TheVariants as statements
use Rattle.b67_model_text.specs.declared.assembly.Line.{Line}
use Rattle.b67_model_text.specs.declared.assembly.Sketch as sketch
use Rattle.b67_model_text.specs.Answers.{Answer}
use Rattle.b67_model_text.specs.declared.assembly.Statement as statement
use Rattle.b67_model_text.specs.Asm.{Scope, SegmentContent, syllable_bits, inserted_in_order}
use Rattle.b67_model_text.specs.Pass.{Added, syllable_behind, entries_behind, with_added, pass_content}
use Rattle.b67_model_text.proofs.Contents.{same_Ok, Adds, headed}
use Rattle.b67_law_examples.specs.Listing.{IsEntryLabel, Rise, AreEntered}
use Rattle.b67_model.specs.declared.limits.TheConstants.{MOST_SEGMENT}

-- ---- a number among numbers in order

order_has : (n m : ℕ) (xs : List ℕ) → Has xs m → Has (inserted_in_order n xs) m
order_has n m [] h = absurd h
order_has n m (x ∷ xs) h = grind (arith, order_has n m xs)

order_new : (n : ℕ) (xs : List ℕ) → Has (inserted_in_order n xs) n
order_new n [] = inl refl
order_new n (x ∷ xs) = grind (arith, order_new n xs)

order_only : (n m : ℕ) (xs : List ℕ) → Has (inserted_in_order n xs) m → (n ≡ m) ⊎ Has xs m
order_only n m [] h = h
order_only n m (x ∷ xs) h = grind (arith, order_only n m xs)

all_later : (n m : ℕ) (xs : List ℕ) → n < m → AllByRecursion (λ (k : ℕ). m < k) xs → AllByRecursion (λ (k : ℕ). n < k) xs
all_later n m [] lt h = tt
all_later n m (x ∷ xs) lt h = (omega (arith, lt, h.0), all_later n m xs lt h.1)

order_above : (low n : ℕ) (xs : List ℕ) → low < n → AllByRecursion (λ (k : ℕ). low < k) xs → AllByRecursion (λ (k : ℕ). low < k) (inserted_in_order n xs)
order_above low n [] lt h = (lt, tt)
order_above low n (x ∷ xs) lt h = grind (arith, order_above low n xs lt h.1)

-- a number that isn't there yet
order_rises : (n : ℕ) (xs : List ℕ) → list_any (λ m. eqb m n) xs ≡ false → Rise xs → Rise (inserted_in_order n xs)
order_rises n [] fresh h = (tt, tt)
order_rises n (x ∷ xs) fresh h = elim (eqb_tells x n) [
  | inl t ↦ absurd (no (rw t.0 at fresh))
  | inr t ↦ elim (cases_lt n x) [
    | inl lt ↦ rw (lt-ltb n x lt) ((lt, all_later n x xs lt h.0), h)
    | inr le ↦ rw (le-ltb n x le) (order_above x n xs (above t.1 le) h.0, order_rises n xs (rw t.0 at fresh) h.1)
  ]
]
  where
    no : true ≡ false → ⊥
    no e = cc

    above : (x ≡ n → ⊥) → x ≤ n → x < n
    above ne le = omega (arith, ne, le)

-- ---- the cards

-- what these cards make of the entries before them
record Enters (x : Scope) (before : List ℕ) (lines : List Line) (after : List ℕ) : Type 0 where
  rise : Rise after
  kept : (n : ℕ) → Has before n → Has after n
  named : (label : List ℕ) → IsEntryLabel label lines → (n : ℕ) × (x.labels label ≡ Some n) × Has after n
  only : (n : ℕ) → Has after n → Has before n ⊎ ((label : List ℕ) × IsEntryLabel label lines × (x.labels label ≡ Some n))

further : (label : List ℕ) (l : Line) (lines : List Line) → IsEntryLabel label lines → IsEntryLabel label (l ∷ lines)
further label l lines h = record { card = h.card; among = inr h.among; says = h.says }

same_entry : (a b : List ℕ) → ◌≡◌ {A = Answer statement.Statement} (Ok (statements.Entry a)) (Ok (statements.Entry b)) → a ≡ b
same_entry a b e = cc

no_entry : (l : Line) (label : List ℕ) (text : Option (List ℕ)) (own : sketch.Sketch) → l.says ≡ Ok (statements.Operator text own) → l.says ≡ Ok (statements.Entry label) → ⊥
no_entry l label text own e f = let g : ◌≡◌ {A = Answer statement.Statement} (Ok (statements.Operator text own)) (Ok (statements.Entry label)) = sym e ∙ f in cc

enters : (x : Scope) (n : ℕ) (before : List ℕ) (lines : List Line) (content : SegmentContent) → Rise before → pass_content x n before lines ≡ Ok content → Enters x before lines content.entries
enters x n before [] content rise e = grind arith
enters x n before (l ∷ more) content rise e =
    let h = headed x n before l more content e in
    subst (λ (c : SegmentContent). Enters x before (l ∷ more) c.entries) h.all
    (by h.added h.rest h.adds (λ rising. enters x (syllable_behind n h.added) (entries_behind before h.added) more h.rest rising h.behind_it))
  where
    by : (added : Added) (rest : SegmentContent) → Adds x n before l added → (Rise (entries_behind before added) → Enters x (entries_behind before added) more rest.entries) → Enters x before (l ∷ more) (with_added added rest).entries
    by added rest (inl a) go =
        let r : Enters x before more rest.entries = subst (λ (z : Added). Rise (entries_behind before z) → Enters x (entries_behind before z) more rest.entries) (sym a.is) go rise in
        subst (λ (z : Added). Enters x before (l ∷ more) (with_added z rest).entries) a.is (record {
          rise = r.rise;
          kept = r.kept;
          named = λ label h. elim h.among [
            | inl same ↦ absurd (no_entry l label a.label a.own a.says (ap (λ (z : Line). z.says) same ∙ h.says))
            | inr there ↦ r.named label (record { card = h.card; among = there; says = h.says })
          ];
          only = λ n h. elim (r.only n h) [ inl b ↦ inl b | inr k ↦ inr (k.0, further k.0 l more k.1, k.2) ];
        })
    by added rest (inr a) go =
        let r : Enters x (inserted_in_order a.syllable before) more rest.entries = subst (λ (z : Added). Rise (entries_behind before z) → Enters x (entries_behind before z) more rest.entries) (sym a.is) go (order_rises a.syllable before a.fresh rise) in
        subst (λ (z : Added). Enters x before (l ∷ more) (with_added z rest).entries) a.is (record {
          rise = r.rise;
          kept = λ n h. r.kept n (order_has a.syllable n before h);
          named = λ label h. elim h.among [
            | inl same ↦
                let is : a.label ≡ label = same_entry a.label label (sym a.says ∙ ap (λ (z : Line). z.says) same ∙ h.says) in
                (a.syllable, subst (λ (q : List ℕ). x.labels q ≡ Some a.syllable) is a.found, r.kept a.syllable (order_new a.syllable before))
            | inr there ↦ r.named label (record { card = h.card; among = there; says = h.says })
          ];
          only = λ n h. elim (r.only n h) [
            | inl b ↦ elim (order_only a.syllable n before b) [
              | inl e ↦ inr (a.label, record { card = l; among = inl refl; says = a.says }, a.found ∙ ap Some e)
              | inr k ↦ inl k
            ]
            | inr k ↦ inr (k.0, further k.0 l more k.1, k.2)
          ];
        })

-- a place's 16 bits
place_back : (n : ℕ) → n ≤ 6 * MOST_SEGMENT → place_of_bits (syllable_bits n) ≡ place_at n
place_back n few = grind arith

places_back : (ns : List ℕ) → ((n : ℕ) → Has ns n → n ≤ 6 * MOST_SEGMENT) → map place_of_bits (map syllable_bits ns) ≡ map place_at ns
places_back [] few = refl
places_back (n ∷ ns) few =
    ap (λ (p : Place). p ∷ map place_of_bits (map syllable_bits ns)) (place_back n (few n (inl refl))) ∙ ap (λ (ps : List Place). place_at n ∷ ps) (places_back ns (λ m h. few m (inr h)))

pub are_entered : (x : Scope) (lines : List Line) (content : SegmentContent) → ((q : List ℕ) (m : ℕ) → x.labels q ≡ Some m → m ≤ 6 * MOST_SEGMENT) → pass_content x 0 [] lines ≡ Ok content → AreEntered x.labels lines (map syllable_bits content.entries)
are_entered x lines content small e = grind (arith, enters, places_back)
