-- The refusals at places of a listing stand in order, by place and then by rule, and so do those at entries.
use Rattle.std.proofs.Common.{◌≡◌, ℕ, zero, suc, ◌+◌, ◌*◌, ◌<◌, ◌≤◌, lit<, Bool, true, false, not, cond, List, [], ◌∷◌, ◌++◌, length, map, filter, Ok, Err, refl, sym, ◌∙◌, arith, inl, inr}
use Rattle.std.specs.List.{AllByRecursion}
use Rattle.std.proofs.Math.Nat.{le_refl}
use Rattle.std.proofs.lemmas.Bool.{cases_lt}
use Rattle.b67_word.specs.declared.couples.Place.{Place}
use Rattle.b67_model.specs.declared.operators.Undecodable.TheVariants.{BadPlace, NotAdmitted, PastEnd}
use Rattle.b67_model.specs.Common.{Reading, count_at, operator_at, place_of_bits, Segment, Program, Entry, At, Break, entries_from, origin, listing, place_of_entry, same_place, is_start, Listed, Refusal, refused, refusals_of, wrong_entries, refusals_from}
use Rattle.b67_codefile.specs.Spelling.{entry_count, EntriesRise}
use Rattle.b67_load.specs.Broken.{rules_at}
use Rattle.b67_load.specs.Order.{ComesBefore}
use Rattle.b67_load.proofs.Operator.{operator_at-is}
use Rattle.b67_load.proofs.Listed.{IsRead, listing-read}
use Rattle.b67_lemmas.proofs.Joins.{all_append, all_by}

-- each refusal comes before those behind it
abbrev pub InOrder : List Refusal → Type 0
InOrder [] = Unit {0}
InOrder (r ∷ rs) = AllByRecursion (ComesBefore r) rs × InOrder rs

in_order-append : (P Q : Refusal → Type 0) → ((a b : Refusal) → P a → Q b → ComesBefore a b) → (xs ys : List Refusal) → AllByRecursion P xs → AllByRecursion Q ys → InOrder xs → InOrder ys → InOrder (xs ++ ys)
in_order-append P Q before [] ys p q h k = k
in_order-append P Q before (x ∷ xs) ys p q h k =
    (all_append (ComesBefore x) xs ys h.0 (all_by Q (ComesBefore x) (λ b qb. before x b p.0 qb) ys q), in_order-append P Q before xs ys p.1 q h.1 k)

-- ---- the rules of a place

abbrev Rising : List (ℕ × Bool) → Type 0
Rising [] = Unit {0}
Rising (t ∷ ts) = AllByRecursion (λ u. t.0 < u.0) ts × Rising ts

-- a refusal of this segment at this place
pub record IsOf (number : ℕ) (place : Place) (r : Refusal) : Type 0 where
  pub in_segment : r.segment ≡ number
  pub at_place : r.place ≡ place

refused-of : (number : ℕ) (place : Place) (rules : List (ℕ × Bool)) → AllByRecursion (IsOf number place) (refused number place rules)
refused-of number place [] = tt
refused-of number place (t ∷ ts) = grind (arith, refused-of number place ts)

refused-above : (number : ℕ) (place : Place) (rule : ℕ) (rules : List (ℕ × Bool)) → AllByRecursion (λ t. rule < t.0) rules → AllByRecursion (ComesBefore (record { segment = number; place = place; rule = rule })) (refused number place rules)
refused-above number place rule [] h = tt
refused-above number place rule (t ∷ ts) h = grind (arith, refused-above number place rule ts h.1)

refused-in_order : (number : ℕ) (place : Place) (rules : List (ℕ × Bool)) → Rising rules → InOrder (refused number place rules)
refused-in_order number place [] h = tt
refused-in_order number place (t ∷ ts) h = at_test t.1 (refused-above number place t.0 ts h.0) (refused-in_order number place ts h.1)
  where
    at_test : (b : Bool) → AllByRecursion (ComesBefore (record { segment = number; place = place; rule = t.0 })) (refused number place ts) → InOrder (refused number place ts)
        → InOrder (map (λ u. record { segment = number; place = place; rule = u.0 }) (cond b (t ∷ filter (λ u. u.1) ts) (filter (λ u. u.1) ts)))
    at_test true above h = (above, h)
    at_test false above h = h

rules_at-rising : (l : Listed) (e : Entry) → Rising (rules_at l e)
rules_at-rising l e = grind arith

-- ---- the places of a segment

-- the entries stand behind this place or at it, each behind the one before
abbrev Climb : ℕ → List Entry → Type 0
Climb n [] = Unit {0}
Climb n (e ∷ more) = (n ≤ count_at (place_of_entry e)) × Climb (suc (count_at (place_of_entry e))) more

lower : (n m : ℕ) (entries : List Entry) → n ≤ m → Climb m entries → Climb n entries
lower n m [] le h = tt
lower n m (e ∷ more) le h = (omega (arith, h.0), h.1)

entries_from-climb : (steps : ℕ) (code : List ℕ) (at : Place) (read : Reading) → operator_at code at ≡ read → Climb (count_at at) (entries_from steps code at read)
entries_from-climb zero code at read e = tt
entries_from-climb (suc n) code at (Err BadPlace) e = tt
entries_from-climb (suc n) code at (Err NotAdmitted) e = (le_refl (count_at at), tt)
entries_from-climb (suc n) code at (Err PastEnd) e = (le_refl (count_at at), tt)
entries_from-climb (suc n) code at (Ok read) e =
    (le_refl (count_at at), lower (suc (count_at at)) (count_at read.1) _ (omega (arith, (operator_at-is code at read e).after)) (entries_from-climb n code read.1 (operator_at code read.1) refl))

-- a refusal of this segment, at a place from syllable n on
pub record IsFrom (number n : ℕ) (r : Refusal) : Type 0 where
  pub segment : r.segment ≡ number
  pub count : n ≤ count_at r.place
  pub syllable : r.place.syllable < 6

abbrev IsSound : Entry → Type 0
IsSound e = (place_of_entry e).syllable < 6

of-from : (number : ℕ) (place : Place) → place.syllable < 6 → (r : Refusal) → IsOf number place r → IsFrom number (count_at place) r
of-from number place sound r h = record { segment = h.in_segment; count = rw h.at_place (le_refl (count_at place)); syllable = rw h.at_place sound }

from-lower : (number n m : ℕ) → n ≤ m → (r : Refusal) → IsFrom number m r → IsFrom number n r
from-lower number n m le r h = record { segment = h.segment; count = omega (arith, h.count); syllable = h.syllable }

refusals_of-from : (l : Listed) (n : ℕ) (entries : List Entry) → Climb n entries → AllByRecursion IsSound entries → AllByRecursion (IsFrom l.number n) (refusals_of l entries)
refusals_of-from l n [] h sound = tt
refusals_of-from l n (e ∷ more) h sound =
    let at : ℕ = count_at (place_of_entry e) in
    let here = all_by (IsOf l.number (place_of_entry e)) (IsFrom l.number n) (λ r o. from-lower l.number n at h.0 r (of-from l.number (place_of_entry e) sound.0 r o)) _ (refused-of l.number (place_of_entry e) (rules_at l e)) in
    let there = refusals_of-from l (suc at) more h.1 sound.1 in
    all_append (IsFrom l.number n) _ _ here (all_by (IsFrom l.number (suc at)) (IsFrom l.number n) (λ r o. from-lower l.number n (suc at) (omega (arith, h.0)) r o) _ there)

of-before : (number : ℕ) (place : Place) → place.syllable < 6 → (a b : Refusal) → IsOf number place a → IsFrom number (suc (count_at place)) b → ComesBefore a b
of-before number place sound a b p q = grind arith

refusals_of-in_order : (l : Listed) (n : ℕ) (entries : List Entry) → Climb n entries → AllByRecursion IsSound entries → InOrder (refusals_of l entries)
refusals_of-in_order l n [] h sound = tt
refusals_of-in_order l n (e ∷ more) h sound =
    in_order-append (IsOf l.number (place_of_entry e)) (IsFrom l.number (suc (count_at (place_of_entry e)))) (of-before l.number (place_of_entry e) sound.0) _ _
    (refused-of l.number (place_of_entry e) (rules_at l e)) (refusals_of-from l (suc (count_at (place_of_entry e))) more h.1 sound.1)
    (refused-in_order l.number (place_of_entry e) (rules_at l e) (rules_at-rising l e)) (refusals_of-in_order l (suc (count_at (place_of_entry e))) more h.1 sound.1)

listing-climb : (code : List ℕ) → Climb 0 (listing code)
listing-climb code = entries_from-climb (6 * length code) code origin (operator_at code origin) refl

listing-sound : (code : List ℕ) → AllByRecursion IsSound (listing code)
listing-sound code = all_by (IsRead code) IsSound (λ e h. h.inside.syllable) (listing code) (listing-read code)

-- what is refused of a listing
pub listing-in_order : (l : Listed) (code : List ℕ) → InOrder (refusals_of l (listing code))
listing-in_order l code = refusals_of-in_order l 0 (listing code) (listing-climb code) (listing-sound code)

-- ---- entries of a segment

abbrev rule_11 : Listed → ℕ → List (ℕ × Bool)
rule_11 l bits = (11, not (is_start l.entries (place_of_bits bits))) ∷ []

wrong-from : (l : Listed) (before : ℕ) (entries : List ℕ) → EntriesRise before entries → AllByRecursion (IsFrom l.number (suc before)) (wrong_entries l entries)
wrong-from l before [] rise = tt
wrong-from l before (bits ∷ more) rise = grind (arith, all_by, wrong-from l (entry_count bits) more rise.1)

pub wrong-in_order : (l : Listed) (before : ℕ) (entries : List ℕ) → EntriesRise before entries → InOrder (wrong_entries l entries)
wrong-in_order l before [] rise = tt
wrong-in_order l before (bits ∷ more) rise =
    in_order-append (IsOf l.number (place_of_bits bits)) (IsFrom l.number (suc (entry_count bits))) (of-before l.number (place_of_bits bits) rise.0.syllable) _ _
    (refused-of l.number (place_of_bits bits) (rule_11 l bits)) (wrong-from l (entry_count bits) more rise.1)
    (refused-in_order l.number (place_of_bits bits) (rule_11 l bits) (tt, tt)) (wrong-in_order l (entry_count bits) more rise.1)

-- ---- rules and segments of refusals

abbrev pub IsLow : Refusal → Type 0
IsLow r = r.rule < 11

abbrev AreLow : List (ℕ × Bool) → Type 0
AreLow rules = AllByRecursion (λ (t : ℕ × Bool). t.0 < 11) rules

refused-low : (number : ℕ) (place : Place) (rules : List (ℕ × Bool)) → AreLow rules → AllByRecursion IsLow (refused number place rules)
refused-low number place [] h = tt
refused-low number place (t ∷ ts) h = grind (arith, refused-low number place ts h.1)

rules_at-low : (l : Listed) (e : Entry) → AreLow (rules_at l e)
rules_at-low l e = grind arith

pub listing-low : (l : Listed) (entries : List Entry) → AllByRecursion IsLow (refusals_of l entries)
listing-low l [] = tt
listing-low l (e ∷ more) = all_append IsLow _ _ (refused-low l.number (place_of_entry e) (rules_at l e) (rules_at-low l e)) (listing-low l more)

abbrev pub InSegment : ℕ → Refusal → Type 0
InSegment number r = r.segment ≡ number

listing-segment : (l : Listed) (entries : List Entry) → AllByRecursion (InSegment l.number) (refusals_of l entries)
listing-segment l [] = tt
listing-segment l (e ∷ more) =
    all_append (InSegment l.number) _ _ (all_by (IsOf l.number (place_of_entry e)) (InSegment l.number) (λ r o. o.in_segment) _ (refused-of l.number (place_of_entry e) (rules_at l e))) (listing-segment l more)

wrong-segment : (l : Listed) (entries : List ℕ) → AllByRecursion (InSegment l.number) (wrong_entries l entries)
wrong-segment l [] = tt
wrong-segment l (bits ∷ more) = grind (arith, wrong-segment l more)

pub own-segment : (l : Listed) → AllByRecursion (InSegment l.number) (refusals_of l l.entries ++ wrong_entries l l.segment.entries)
own-segment l = all_append (InSegment l.number) (refusals_of l l.entries) (wrong_entries l l.segment.entries) (listing-segment l l.entries) (wrong-segment l l.segment.entries)

-- all refusals from segment n on are of segment n or a later one
pub segments-later : (p : Program) (n : ℕ) (segments : List Segment) → AllByRecursion (λ r. n ≤ r.segment) (refusals_from p n segments)
segments-later p n [] = tt
segments-later p n (s ∷ more) =
    let l : Listed = record { program = p; number = n; segment = s; entries = listing s.code } in
    all_append (λ r. n ≤ r.segment) _ _ (all_by (InSegment n) (λ r. n ≤ r.segment) (λ r h. omega (arith, h)) _ (own-segment l))
    (all_by (λ r. n + 1 ≤ r.segment) (λ r. n ≤ r.segment) (λ r h. omega (arith, h)) _ (segments-later p (n + 1) more))
