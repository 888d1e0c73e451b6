-- A listing, read one operator after the other.
use Rattle.std.proofs.Common.{◌≡◌, ℕ, zero, suc, ◌+◌, ◌-◌, ◌*◌, ◌<◌, ◌≤◌, List, [], ◌∷◌, ◌++◌, length, lit<, Result, Ok, Err, refl, sym, subst, ◌∙◌, append_assoc, arith}
use Rattle.std.specs.List.{AllByRecursion}
use Rattle.std.proofs.lemmas.List.{append-nil, length-map}
use Rattle.b67_word.specs.declared.couples.Place.{Place}
use Rattle.b67_word.specs.Tagged.{Tagged, contents}
use Rattle.b67_model.specs.declared.operators.Op.{Op}
use Rattle.b67_model.specs.declared.operators.Undecodable.{Undecodable}
use Rattle.b67_model.specs.declared.operators.Undecodable.TheVariants.{BadPlace, NotAdmitted, PastEnd}
use Rattle.b67_model.specs.Common.{Reading, count_at, operator_at, Entry, At, Break, entries_from, origin, listing}
use Rattle.b67_load.specs.Listing.{entry_of_read, CouplesFit, IsInside}
use Rattle.b67_load.proofs.Operator.{IsPlaceIn, operator_at-inside, operator_at-is, operator_at-reads, operator_at-outside}
use Rattle.b67_lemmas.proofs.Joins.{all_by}

-- what was read before a place, with what is read from there on, is the listing
pub record Reads (code : List ℕ) (at : Place) (entries : List Entry) : Type 0 where
  pub syllable : at.syllable < 6
  pub steps : ℕ
  pub enough : 6 * length code ≤ count_at at + steps
  pub so_far : entries ++ entries_from steps code at (operator_at code at) ≡ listing code

pub begins : (code : List ℕ) → Reads code origin []
begins code = record { syllable = lit< tt; steps = 6 * length code; enough = omega arith; so_far = refl }

inside-count : (code : List ℕ) (at : Place) → IsPlaceIn code at → count_at at < 6 * length code
inside-count code at h = omega (arith, h.word, h.syllable)

pub goes_on : (code : List ℕ) (at : Place) (entries : List Entry) (op : Op) (next : Place) → operator_at code at ≡ Ok (op, next) → Reads code at entries → Reads code next (entries ++ At at op ∷ [])
goes_on code at entries op next e r = at_step r.steps r.enough r.so_far
  where
    inside : IsPlaceIn code at
    inside = operator_at-inside code at (Ok (op, next)) (λ x. absurd cc) e

    at_step : (n : ℕ) → 6 * length code ≤ count_at at + n → entries ++ entries_from n code at (operator_at code at) ≡ listing code → Reads code next (entries ++ At at op ∷ [])
    at_step zero enough so_far = absurd (omega (arith, inside-count code at inside))
    at_step (suc n) enough so_far =
        let is = operator_at-is code at (op, next) e in
        let one : entries ++ entries_from (suc n) code at (operator_at code at) ≡ (entries ++ At at op ∷ []) ++ entries_from n code next (operator_at code next) = rw e (sym (append_assoc entries (At at op ∷ []) (entries_from n code next (operator_at code next)))) in
        record { syllable = is.syllable; steps = n; enough = omega (arith, is.after); so_far = sym one ∙ so_far }

pub ends : (code : List ℕ) (at : Place) (entries : List Entry) → length code ≤ at.word → Reads code at entries → entries ≡ listing code
ends code at entries le r = sym (rw (operator_at-outside code at le) (nothing r.steps)) ∙ r.so_far
  where
    nothing : (n : ℕ) → entries ++ entries_from n code at (Err BadPlace) ≡ entries
    nothing zero = append-nil entries
    nothing (suc n) = append-nil entries

pub breaks : (code : List ℕ) (at : Place) (entries : List Entry) (why : Undecodable) → at.word < length code → operator_at code at ≡ Err why → Reads code at entries → entries ++ Break at why ∷ [] ≡ listing code
breaks code at entries why lt e r = sym (rw e (last r.steps why r.enough (operator_at-reads code at why inside e))) ∙ r.so_far
  where
    inside : IsPlaceIn code at
    inside = record { word = lt; syllable = r.syllable }

    last : (n : ℕ) (why : Undecodable) → 6 * length code ≤ count_at at + n → (why ≡ BadPlace → ⊥) → entries ++ entries_from n code at (Err why) ≡ entries ++ Break at why ∷ []
    last zero why enough other = absurd (omega (arith, inside-count code at inside))
    last (suc n) BadPlace enough other = absurd (other refl)
    last (suc n) NotAdmitted enough other = refl
    last (suc n) PastEnd enough other = refl

-- each entry stands inside the code, and its couple has 14 bits
pub record IsRead (code : List ℕ) (e : Entry) : Type 0 where
  pub inside : IsInside (length code) e
  pub couples : CouplesFit e

is_read : (code : List ℕ) (at : Place) (read : Result Op Undecodable) → IsPlaceIn code at → CouplesFit (entry_of_read at read) → IsRead code (entry_of_read at read)
is_read code at read inside couples = grind arith

entries_from-read : (n : ℕ) (code : List ℕ) (at : Place) (read : Reading) → operator_at code at ≡ read → AllByRecursion (IsRead code) (entries_from n code at read)
entries_from-read zero code at read e = tt
entries_from-read (suc n) code at (Err BadPlace) e = tt
entries_from-read (suc n) code at (Err NotAdmitted) e = (is_read code at (Err NotAdmitted) (operator_at-inside code at _ (λ x. absurd cc) e) tt, tt)
entries_from-read (suc n) code at (Err PastEnd) e = (is_read code at (Err PastEnd) (operator_at-inside code at _ (λ x. absurd cc) e) tt, tt)
entries_from-read (suc n) code at (Ok read) e =
    (is_read code at (Ok read.0) (operator_at-inside code at _ (λ x. absurd cc) e) (operator_at-is code at read e).couple, entries_from-read n code read.1 (operator_at code read.1) refl)

pub listing-read : (code : List ℕ) → AllByRecursion (IsRead code) (listing code)
listing-read code = entries_from-read (6 * length code) code origin (operator_at code origin) refl

listing-inside : (code : List ℕ) (entries : List Entry) → entries ≡ listing code → AllByRecursion (IsInside (length code)) entries
listing-inside code entries e = subst (AllByRecursion (IsInside (length code))) (sym e) (all_by (IsRead code) (IsInside (length code)) (λ x h. h.inside) (listing code) (listing-read code))

pub listing-couples : (code : List ℕ) (entries : List Entry) → entries ≡ listing code → AllByRecursion CouplesFit entries
listing-couples code entries e = subst (AllByRecursion CouplesFit) (sym e) (all_by (IsRead code) CouplesFit (λ x h. h.couples) (listing code) (listing-read code))

-- ---- of a segment's words

pub words-smaller : (code : List Tagged) (at : Place) (op : Op) (next : Place) → operator_at (contents code) at ≡ Ok (op, next) → 6 * length code - count_at next < 6 * length code - count_at at
words-smaller code at op next e =
    let is = operator_at-is (contents code) at (op, next) e in
    let inside = inside-count (contents code) at (operator_at-inside (contents code) at (Ok (op, next)) (λ x. absurd cc) e) in
    grind (arith, length-map)

pub words-inside : (code : List Tagged) (entries : List Entry) → entries ≡ listing (contents code) → AllByRecursion (IsInside (length code)) entries
words-inside code entries e = subst (λ (n : ℕ). AllByRecursion (IsInside n) entries) (length-map code (λ w. w.bits)) (listing-inside (contents code) entries e)
