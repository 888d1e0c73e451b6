-- The entries of a segment's cards are places within it, in order.
use Rattle.std.proofs.Common.{inl, inr, ◌≡◌, ◌≤◌, ◌<◌, ◌+◌, ◌*◌, ◌/◌, ◌^◌, ℕ, Bool, true, false, not, cond, List, [], ◌∷◌, map, length, drop, zero, suc, Option, Some, Result, Ok, Err, refl, sym, ap, subst, ◌∙◌, arith}
use Rattle.std.specs.Prelude.{nat_lt, ◌==◌}
use Rattle.std.specs.List.{AllByRecursion, list_any}
use Rattle.std.proofs.lemmas.Bool.{ltb-true, ltb-false, or_parts}
use Rattle.b67_codefile.specs.Spelling.{entry_count, EntriesRise, AreEntries}
use Rattle.b67_model_text.specs.declared.assembly.Line.{Line}
use Rattle.b67_model_text.specs.Deck.{Refusal}
use Rattle.b67_model_text.specs.Asm as asm
use Rattle.b67_model_text.specs.Pass as pass
use Rattle.b67_model_text.proofs.Contents.{AddsEntry, headed, same_Ok, label_small}
use Rattle.b67_model_text.proofs.Pass.{content_is}
use Rattle.b67_asm.specs.Putting.{put_behind}
use Rattle.b67_asm.specs.Blocks.{has_entry_card}
use Rattle.b67_asm.specs.Scope.{scope_at}
use Rattle.b67_model.specs.declared.limits.TheConstants.{MOST_SEGMENT, MOST_ENTRIES}

abbrev Rises : ℕ → List ℕ → Type 0
Rises low [] = Unit {0}
Rises low (n ∷ more) = (low < n) × Rises n more

strictly : (m n : ℕ) → m ≤ n → (m == n) ≡ false → m < n
strictly m n le e = grind arith

-- a number that isn't there is put among numbers that rise
rises_in : (low n : ℕ) (xs : List ℕ) → Rises low xs → low < n → list_any (λ m. m == n) xs ≡ false → Rises low (asm.inserted_in_order n xs)
rises_in low n [] h lt none = (lt, tt)
rises_in low n (m ∷ more) h lt none =
    let parts = or_parts (m == n) (list_any (λ m. m == n) more) none in
    by_test (λ le. rises_in m n more h.1 (strictly m n le parts.0) parts.1) (nat_lt n m) refl
  where
    by_test : (m ≤ n → Rises m (asm.inserted_in_order n more)) → (b : Bool) → nat_lt n m ≡ b → Rises low (cond b (n ∷ m ∷ more) (m ∷ asm.inserted_in_order n more))
    by_test go true t = (lt, (ltb-true n m t, h.1))
    by_test go false t = (h.0, go (ltb-false n m t))

length_in : (n : ℕ) (xs : List ℕ) → length (asm.inserted_in_order n xs) ≡ length xs + 1
length_in n [] = refl
length_in n (m ∷ more) = by_test (length_in n more) (nat_lt n m)
  where
    by_test : length (asm.inserted_in_order n more) ≡ length more + 1 → (b : Bool) → length (cond b (n ∷ m ∷ more) (m ∷ asm.inserted_in_order n more)) ≡ length (m ∷ more) + 1
    by_test rest true = omega arith
    by_test rest false = omega (arith, rest)

abbrev IsLow : ℕ → Type 0
IsLow n = n ≤ 6 * MOST_SEGMENT

all_low : (n : ℕ) (xs : List ℕ) → AllByRecursion IsLow xs → IsLow n → AllByRecursion IsLow (asm.inserted_in_order n xs)
all_low n [] h low = (low, tt)
all_low n (m ∷ more) h low = by_test (all_low n more h.1 low) (nat_lt n m)
  where
    by_test : AllByRecursion IsLow (asm.inserted_in_order n more) → (b : Bool) → AllByRecursion IsLow (cond b (n ∷ m ∷ more) (m ∷ asm.inserted_in_order n more))
    by_test rest true = (low, h)
    by_test rest false = (h.0, rest)

-- syllables of entries
record Fit (entries : List ℕ) : Type 0 where
  rise : Rises 0 entries
  few : length entries ≤ MOST_ENTRIES
  low : AllByRecursion IsLow entries

abbrev AreLow : (List ℕ → Option ℕ) → Type 0
AreLow labels = (q : List ℕ) (m : ℕ) → labels q ≡ Some m → m ≤ 6 * MOST_SEGMENT

entry_fits : (x : asm.Scope) (entries : List ℕ) (l : Line) (added : pass.Added) → AreLow x.labels → Fit entries → AddsEntry x entries l added → Fit (pass.entries_behind entries added)
entry_fits x entries l added low fit a = subst (λ (added : pass.Added). Fit (pass.entries_behind entries added)) a.is (record {
  rise = rises_in 0 a.syllable entries fit.rise a.above a.fresh;
  few = omega (arith, length_in a.syllable entries, a.few);
  low = all_low a.syllable entries fit.low (low a.label a.syllable a.found);
})

same_entries : (added : pass.Added) (rest : asm.SegmentContent) → (pass.with_added added rest).entries ≡ rest.entries
same_entries (pass.AddedOperator op) rest = refl
same_entries (pass.AddedEntry n) rest = refl

content_fits : (x : asm.Scope) (n : ℕ) (entries : List ℕ) (lines : List Line) (content : asm.SegmentContent) → AreLow x.labels → Fit entries → pass.pass_content x n entries lines ≡ Ok content → Fit content.entries
content_fits x n entries [] content low fit e = subst (λ (c : asm.SegmentContent). Fit c.entries) (same_Ok (record { operators = []; entries = entries }) content e) fit
content_fits x n entries (l ∷ more) content low fit e =
    let h = headed x n entries l more content e in
    let behind : Fit (pass.entries_behind entries h.added) = elim h.adds [
      | inl a ↦ subst (λ (added : pass.Added). Fit (pass.entries_behind entries added)) a.is fit
      | inr a ↦ entry_fits x entries l h.added low fit a
    ] in
    let rest = content_fits x (pass.syllable_behind n h.added) (pass.entries_behind entries h.added) more h.rest low behind h.behind_it in
    subst (λ (c : asm.SegmentContent). Fit c.entries) h.all (subst Fit (sym (same_entries h.added h.rest)) rest)

count_is : (n : ℕ) → n ≤ 6 * MOST_SEGMENT → entry_count (asm.syllable_bits n) ≡ n
count_is n low = omega (arith, low)

syllable_fits : (n : ℕ) → asm.syllable_bits n / 2 ^ 13 < 6
syllable_fits n = omega arith

bits_rise : (low : ℕ) (entries : List ℕ) → Rises low entries → AllByRecursion IsLow entries → EntriesRise low (map asm.syllable_bits entries)
bits_rise low [] rise all = tt
bits_rise low (n ∷ more) rise all =
    let is = count_is n all.0 in (
      record { syllable = syllable_fits n; later = subst (λ (m : ℕ). low < m) (sym is) rise.0 },
      subst (λ (m : ℕ). EntriesRise m (map asm.syllable_bits more)) (sym is) (bits_rise n more rise.1 all.1),
    )

length_bits : (entries : List ℕ) → length (map asm.syllable_bits entries) ≡ length entries
length_bits [] = refl
length_bits (n ∷ more) = omega (arith, length_bits more)

abbrev entries_in : Result (List ℕ × List ℕ) Refusal → List ℕ
entries_in (Ok p) = p.1
entries_in (Err refusal) = []

content_found : (answer : Result asm.SegmentContent Refusal) (syllables entries : List ℕ) → put_behind [] answer ≡ Ok (syllables, entries) → (content : asm.SegmentContent) × (answer ≡ Ok content) × (content.entries ≡ entries)
content_found (Ok content) syllables entries e = (content, refl, ap entries_in e)
content_found (Err refusal) syllables entries e = absurd (let z : ⊥ = cc in z)

-- the entries of a segment are those of a codefile
pub entries_fit : (names : asm.Names) (segments l : ℕ) (lines : List Line) (syllables entries own : List ℕ) → put_behind [] (asm.content_of (scope_at names segments l lines) lines) ≡ Ok (syllables, entries) → own ≡ map asm.syllable_bits entries → AreEntries own
entries_fit names segments l lines syllables entries own e is =
    let x = scope_at names segments l lines in
    let found = content_found (asm.content_of x lines) syllables entries e in
    let passed : pass.pass_content x 0 [] lines ≡ Ok found.0 = sym (content_is x lines) ∙ found.1 in
    let none : Fit [] = record { rise = tt; few = omega arith; low = tt } in
    let fit = content_fits x 0 [] lines found.0 (λ q m there. label_small x 0 [] lines found.0 q m passed there) none passed in
    let here : Fit entries = subst Fit found.2 fit in
    subst AreEntries (sym is) (record { few = omega (arith, here.few, length_bits entries); rise = bits_rise 0 entries here.rise here.low })

-- ---- without ENTRY cards there are no entries

plain_content : (x : asm.Scope) (n : ℕ) (entries : List ℕ) (lines : List Line) (content : asm.SegmentContent) → has_entry_card lines ≡ false → pass.pass_content x n entries lines ≡ Ok content → content.entries ≡ entries
plain_content x n entries [] content none e = ap (λ (c : asm.SegmentContent). c.entries) (sym (same_Ok (record { operators = []; entries = entries }) content e))
plain_content x n entries (l ∷ more) content none e =
    let h = headed x n entries l more content e in
    let parts = or_parts (asm.says_entry l.says) (has_entry_card more) none in
    let stay : pass.entries_behind entries h.added ≡ entries = elim h.adds [
      | inl a ↦ ap (pass.entries_behind entries) (sym a.is)
      | inr a ↦ absurd (let no : true ≡ false = sym (ap asm.says_entry a.says) ∙ parts.0 in let z : ⊥ = cc in z)
    ] in
    let rest = plain_content x (pass.syllable_behind n h.added) (pass.entries_behind entries h.added) more h.rest parts.1 h.behind_it in
    ap (λ (c : asm.SegmentContent). c.entries) (sym h.all) ∙ same_entries h.added h.rest ∙ rest ∙ stay

pub no_entries : (names : asm.Names) (segments l : ℕ) (lines : List Line) (syllables entries own : List ℕ) → put_behind [] (asm.content_of (scope_at names segments l lines) lines) ≡ Ok (syllables, entries) → own ≡ map asm.syllable_bits entries → has_entry_card lines ≡ false → own ≡ []
no_entries names segments l lines syllables entries own e is none =
    let x = scope_at names segments l lines in
    let found = content_found (asm.content_of x lines) syllables entries e in
    let passed : pass.pass_content x 0 [] lines ≡ Ok found.0 = sym (content_is x lines) ∙ found.1 in
    let here : entries ≡ [] = sym found.2 ∙ plain_content x 0 [] lines found.0 none passed in
    is ∙ ap (map asm.syllable_bits) here

-- ---- the own cards of a segment or row

plain_own : (lines : List Line) → has_entry_card lines ≡ false → has_entry_card (asm.own lines) ≡ false
plain_own [] none = refl
plain_own (l ∷ more) none =
    let parts = or_parts (asm.says_entry l.says) (has_entry_card more) none in
    by_test parts.0 (plain_own more parts.1) (not (asm.is_head l.kind))
  where
    by_test : asm.says_entry l.says ≡ false → has_entry_card (asm.own more) ≡ false → (b : Bool) → has_entry_card (cond b (l ∷ asm.own more) []) ≡ false
    by_test first rest true = rw first rest
    by_test first rest false = refl

plain_drop : (n : ℕ) (lines : List Line) → has_entry_card lines ≡ false → has_entry_card (drop n lines) ≡ false
plain_drop zero lines none = none
plain_drop (suc n) [] none = none
plain_drop (suc n) (l ∷ more) none = plain_drop n more (or_parts (asm.says_entry l.says) (has_entry_card more) none).1

pub plain_rest : (n : ℕ) (lines : List Line) → has_entry_card lines ≡ false → has_entry_card (asm.own (drop n lines)) ≡ false
plain_rest n lines none = plain_own (drop n lines) (plain_drop n lines none)
