-- The marks of a listing's starts, and its last entry.
use Rattle.std.proofs.Common.{◌≡◌, ◌⊎◌, ℕ, zero, suc, ◌+◌, ◌-◌, ◌*◌, ◌<◌, Bool, true, false, eqb, ◌&&◌, ◌||◌, List, [], ◌∷◌, ◌++◌, length, map, get_or, set, take, Option, Some, Result, Ok, Err, refl, sym, ap, ◌∙◌, arith, inl, inr}
use Rattle.std.specs.Prelude.{slice_get}
use Rattle.std.specs.Option.{option_map_or}
use Rattle.std.specs.List.{AllByRecursion}
use Rattle.std.proofs.lemmas.Bool.{cases_eq, ne_eqb, eq-eqb}
use Rattle.std.proofs.lemmas.List.{get_or-set_same, get_or-set_other, length-set, map-append, take_more}
use Rattle.std.proofs.lemmas.List.Folds.{list_any-append}
use Rattle.b67_word.specs.declared.couples.Place.{Place}
use Rattle.b67_model.specs.declared.operators.Op.{Op}
use Rattle.b67_model.specs.declared.operators.Undecodable.{Undecodable}
use Rattle.b67_model.specs.Common.{count_at, place_of_entry, same_place, is_start, is_last}
use Rattle.b67_model.specs.Loader as loader
use Rattle.b67_load.specs.declared.entry.Entry.{Entry}
use Rattle.b67_load.specs.Listing.{entry_of_read, seen, IsInside, Marks}

place_of-entry_at : (place : Place) (read : Result Op Undecodable) → place_of_entry (entry_of_read place read) ≡ place
place_of-entry_at place read = grind arith

pub place_of-seen : (e : Entry) → place_of_entry (seen e) ≡ e.place
place_of-seen e = place_of-entry_at e.place e.read

-- what holds of each item holds of the one at an index
pub at_index : (P : loader.Entry → Type 0) (entries : List Entry) (i : ℕ) (d : Entry) → i < length entries → AllByRecursion P (map seen entries) → P (seen (get_or entries i d))
at_index P [] i d lt h = absurd (omega arith)
at_index P (x ∷ xs) zero d lt h = h.0
at_index P (x ∷ xs) (suc i) d lt h = at_index P xs i d (omega arith) h.1

-- ---- marks

-- one mark more
set-any : (starts : List Bool) (k j : ℕ) → k < length starts → get_or (set starts k true) j false ≡ (get_or starts j false || (eqb k j || false))
set-any starts k j lt = grind (arith, get_or-set_same, get_or-set_other)

marks-push : (words : ℕ) (starts : List Bool) (entries : List loader.Entry) (e : loader.Entry) → length starts ≡ 6 * words → IsInside words e → Marks starts entries → Marks (set starts (count_at (place_of_entry e)) true) (entries ++ e ∷ [])
marks-push words starts entries e len inside m = grind (arith, set-any, list_any-append)

-- the marks of a loop over the entries
pub record Marked (words : ℕ) (starts : List Bool) (entries : List loader.Entry) : Type 0 where
  pub room : length starts ≡ 6 * words
  pub marks : Marks starts entries

pub marked-more : (words : ℕ) (starts : List Bool) (entries : List Entry) (i : ℕ) (d : Entry) → i < length entries → AllByRecursion (IsInside words) (map seen entries)
    → Marked words starts (map seen (take i entries)) → Marked words (set starts (count_at (get_or entries i d).place) true) (map seen (take (i + 1) entries))
marked-more words starts entries i d lt all m =
    let e : Entry = get_or entries i d in
    let inside : IsInside words (seen e) = at_index (IsInside words) entries i d lt all in
    let more : map seen (take (i + 1) entries) ≡ map seen (take i entries) ++ seen e ∷ [] = rw (take_more entries i d lt) (map-append seen (take i entries) (e ∷ [])) in
    let at : count_at (place_of_entry (seen e)) ≡ count_at e.place = ap count_at (place_of-seen e) in
    record {
      room = length-set starts (count_at e.place) true ∙ m.room;
      marks = rw (more, ← at) (marks-push words starts (map seen (take i entries)) (seen e) m.room inside m.marks);
    }

pub mark-within : (words : ℕ) (entries : List Entry) (i : ℕ) (d : Entry) (k room : ℕ) → i < length entries → AllByRecursion (IsInside words) (map seen entries) → room ≡ 6 * words → k ≡ count_at (get_or entries i d).place → k < room
mark-within words entries i d k room lt all len is =
    let inside : IsInside words (seen (get_or entries i d)) = at_index (IsInside words) entries i d lt all in
    grind arith

-- ---- the last entry

is_last-map : (entries : List Entry) (place : Place) → is_last (map seen entries) place ≡ option_map_or (λ e. same_place e.place place) (slice_get entries (length entries - 1)) false
is_last-map [] place = refl
is_last-map (x ∷ []) place = ap (λ (p : Place). same_place p place) (place_of-seen x)
is_last-map (x ∷ y ∷ more) place =
    let k : length (x ∷ y ∷ more) - 1 ≡ suc (length (y ∷ more) - 1) = omega arith in
    rw k (is_last-map (y ∷ more) place)

pub last_found : (entries : List Entry) (listing : List loader.Entry) (place : Place) (e : Entry) → map seen entries ≡ listing → Some e ≡ slice_get entries (length entries - 1) → same_place e.place place ≡ is_last listing place
last_found entries listing place e seen_is found = grind (arith, is_last-map)
