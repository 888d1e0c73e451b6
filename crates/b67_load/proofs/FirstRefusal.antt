-- The first refusal of a listing, of a segment's entries and of a program.
use Rattle.std.proofs.Common.{◌≡◌, ℕ, ◌+◌, ◌/◌, ◌^◌, ◌<◌, ◌≤◌, Bool, true, false, not, cond, eqb, List, [], ◌∷◌, ◌++◌, length, map, filter, get_or, drop, Some, None, Err, refl, sym, ap, subst, ◌∙◌, arith, inl}
use Rattle.std.specs.Prelude.{option_map, slice_get, find}
use Rattle.std.specs.List.{AllByRecursion}
use Rattle.std.proofs.lemmas.List.{drop_more, drop_all, length-map}
use Rattle.b67_word.specs.declared.couples.Place.{Place}
use Rattle.b67_word.specs.Tagged.{contents}
use Rattle.b67_lemmas.proofs.Joins.{all_by}
use Rattle.b67_model.specs.State as state
use Rattle.b67_model.specs.Common.{place_of_bits, Listed, Refusal, place_of_entry, same_place, origin, is_start, broken_at, broken_in, refused, refusals_of, wrong_entries, refusals_from, refusals, listing, Program}
use Rattle.b67_model.specs.Loader as loader
use Rattle.b67_codefile.specs.declared.file.Segment.{Segment}
use Rattle.b67_codefile.specs.declared.file.Codefile.{Codefile}
use Rattle.b67_codefile.specs.Meaning.{segment_of, program_of}
use Rattle.b67_codefile.specs.Spelling.{entry_count, EntriesRise}
use Rattle.b67_load.specs.declared.fault.LoadFault.{LoadFault}
use Rattle.b67_load.specs.declared.fault.LoadFault.TheVariants.{Refused, Memory}
use Rattle.b67_load.specs.declared.entry.Entry.{Entry}
use Rattle.b67_load.specs.Listing.{seen, CouplesFit}
use Rattle.b67_load.specs.Broken.{listed, rules_at, first_broken, FindsFirst}
use Rattle.b67_load.specs.Order.{ComesBefore}
use Rattle.b67_load.proofs.Starts.{place_of-seen}
use Rattle.b67_load.proofs.InOrder.{InSegment, own-segment, segments-later}
use Rattle.b67_load.proofs.Least.{has_all, first_before}

abbrev refusal : ℕ → Place → ℕ → Refusal
refusal number place rule = record { segment = number; place = place; rule = rule }

pub first_refused : (number : ℕ) (place : Place) (rules : List (ℕ × Bool)) → slice_get (refused number place rules) 0 ≡ option_map (refusal number place) (first_broken rules)
first_refused number place [] = refl
first_refused number place (r ∷ rules) = grind (arith, first_refused number place rules)

nothing_first : {X : Type 0} (xs : List X) → slice_get xs 0 ≡ None → xs ≡ []
nothing_first [] e = refl
nothing_first (x ∷ xs) e = absurd cc

pub first-append : {X : Type 0} (xs ys : List X) (x : X) → slice_get xs 0 ≡ Some x → slice_get (xs ++ ys) 0 ≡ Some x
first-append [] ys x e = absurd cc
first-append (y ∷ xs) ys x e = e

-- where an entry at the first place breaks no rule, the segment's level decides
pub rules_at-level : (l : Listed) (e : Entry) → None ≡ first_broken (broken_at l (seen e)) → true ≡ same_place e.place origin → first_broken (broken_in l) ≡ first_broken (rules_at l (seen e))
rules_at-level l e none first =
    let at : same_place (place_of_entry (seen e)) origin ≡ true = ap (λ (p : Place). same_place p origin) (place_of-seen e) ∙ sym first in
    rw at (behind (broken_at l (seen e)) (broken_in l) none)
  where
    behind : (xs ys : List (ℕ × Bool)) → None ≡ first_broken xs → first_broken ys ≡ first_broken (xs ++ ys)
    behind [] ys none = refl
    behind (x ∷ xs) ys none = at_test x.1 (behind xs ys) none
      where
        at_test : (b : Bool) → (None ≡ first_broken xs → first_broken ys ≡ first_broken (xs ++ ys)) → None ≡ option_map (λ r. r.0) (cond b (Some x) (find (λ r. r.1) xs)) → first_broken ys ≡ option_map (λ r. r.0) (cond b (Some x) (find (λ r. r.1) (xs ++ ys)))
        at_test true h none = absurd cc
        at_test false h none = h none

-- the refusals of a listing, one entry later
refusals-step : (l : Listed) (entries : List Entry) (i : ℕ) (d : Entry) → i < length entries
    → refusals_of l (map seen (drop i entries)) ≡ refused l.number (get_or entries i d).place (rules_at l (seen (get_or entries i d))) ++ refusals_of l (map seen (drop (i + 1) entries))
refusals-step l entries i d lt = grind (arith, drop_more)

-- what is refused of the entries from here on is what is refused of all
pub record Remains (l : Listed) (entries rest : List loader.Entry) : Type 0 where
  pub refusals : refusals_of l rest ≡ refusals_of l entries
  pub couples : AllByRecursion CouplesFit rest

couples-here : (l : Listed) (all : List loader.Entry) (entries : List Entry) (i : ℕ) (d : Entry) → i < length entries → Remains l all (map seen (drop i entries)) → CouplesFit (seen (get_or entries i d)) × AllByRecursion CouplesFit (map seen (drop (i + 1) entries))
couples-here l all entries i d lt r = subst (λ (rest : List Entry). AllByRecursion CouplesFit (map seen rest)) (drop_more entries i d lt) r.couples

pub couple-fits : (l : Listed) (all : List loader.Entry) (entries : List Entry) (i : ℕ) (d : Entry) → i < length entries → Remains l all (map seen (drop i entries)) → CouplesFit (seen (get_or entries i d))
couple-fits l all entries i d lt r = (couples-here l all entries i d lt r).0

pub goes_on : (l : Listed) (all : List loader.Entry) (entries : List Entry) (i : ℕ) (d : Entry) → i < length entries → first_broken (rules_at l (seen (get_or entries i d))) ≡ None
    → Remains l all (map seen (drop i entries)) → Remains l all (map seen (drop (i + 1) entries))
goes_on l all entries i d lt none r =
    let e : Entry = get_or entries i d in
    let nothing : refused l.number e.place (rules_at l (seen e)) ≡ [] = nothing_first _ (first_refused l.number e.place (rules_at l (seen e)) ∙ ap (option_map (refusal l.number e.place)) none) in
    record {
      refusals = sym (refusals-step l entries i d lt ∙ ap (λ (x : List Refusal). x ++ refusals_of l (map seen (drop (i + 1) entries))) nothing) ∙ r.refusals;
      couples = (couples-here l all entries i d lt r).1;
    }

pub refuses : (l : Listed) (all : List loader.Entry) (entries : List Entry) (i : ℕ) (d : Entry) (rule : ℕ) → i < length entries → first_broken (rules_at l (seen (get_or entries i d))) ≡ Some rule
    → Remains l all (map seen (drop i entries)) → slice_get (refusals_of l all) 0 ≡ Some (record { segment = l.number; place = (get_or entries i d).place; rule = rule })
refuses l all entries i d rule lt some r =
    let e : Entry = get_or entries i d in
    let first : slice_get (refused l.number e.place (rules_at l (seen e))) 0 ≡ Some (refusal l.number e.place rule) = first_refused l.number e.place (rules_at l (seen e)) ∙ ap (option_map (refusal l.number e.place)) some in
    ap (λ (x : List Refusal). slice_get x 0) (sym r.refusals ∙ refusals-step l entries i d lt) ∙ first-append _ _ _ first

pub is_done : (l : Listed) (all : List loader.Entry) (entries : List Entry) (i : ℕ) → length entries ≤ i → Remains l all (map seen (drop i entries)) → refusals_of l all ≡ []
is_done l all entries i le r = sym r.refusals ∙ ap (λ (rest : List Entry). refusals_of l (map seen rest)) (drop_all i entries le)

-- ---- entries of a segment

-- what is wrong of the entries from here on is what is wrong of all
pub record RemainsWrong (l : Listed) (entries rest : List ℕ) : Type 0 where
  pub refusals : wrong_entries l rest ≡ wrong_entries l entries

-- the entries from here on still rise
abbrev pub StillRise : List ℕ → Type 0
StillRise rest = (before : ℕ) × EntriesRise before rest

wrong-step : (l : Listed) (entries : List ℕ) (i d : ℕ) → i < length entries
    → wrong_entries l (drop i entries) ≡ refused l.number (place_of_bits (get_or entries i d)) ((11, not (is_start l.entries (place_of_bits (get_or entries i d)))) ∷ []) ++ wrong_entries l (drop (i + 1) entries)
wrong-step l entries i d lt = rw (drop_more entries i d lt) refl

pub entry-here : (entries : List ℕ) (i d : ℕ) → i < length entries → StillRise (drop i entries) → (get_or entries i d / 2 ^ 13 < 6) × StillRise (drop (i + 1) entries)
entry-here entries i d lt r =
    let h : EntriesRise r.0 (get_or entries i d ∷ drop (i + 1) entries) = subst (EntriesRise r.0) (drop_more entries i d lt) r.1 in
    (h.0.syllable, (entry_count (get_or entries i d), h.1))

pub wrong-goes_on : (l : Listed) (entries : List ℕ) (i d : ℕ) → i < length entries → is_start l.entries (place_of_bits (get_or entries i d)) ≡ true
    → RemainsWrong l entries (drop i entries) → RemainsWrong l entries (drop (i + 1) entries)
wrong-goes_on l entries i d lt start r =
    let one : wrong_entries l (drop i entries) ≡ wrong_entries l (drop (i + 1) entries) = wrong-step l entries i d lt ∙ rw start refl in
    record { refusals = sym one ∙ r.refusals }

-- ---- segments

-- what is refused of the segments from here on is what is refused of the program
pub record Segments (p : Program) (n : ℕ) (rest : List Segment) : Type 0 where
  pub refusals : refusals_from p n (map segment_of rest) ≡ refusals p

pub segments-begin : (f : Codefile) → eqb (length f.segments) 0 ≡ false → Segments (program_of f) 1 f.segments
segments-begin f e = record { refusals = sym (rw (length-map f.segments segment_of, e) refl) }

-- the refusals of segment n
abbrev listed_at : Codefile → ℕ → Segment → Listed
listed_at f n s = listed f n s (listing (contents s.code))

abbrev refusals_at : Codefile → ℕ → Segment → List Refusal
refusals_at f n s = refusals_of (listed_at f n s) (listing (contents s.code)) ++ wrong_entries (listed_at f n s) s.entries

segments-step : (f : Codefile) (n i : ℕ) (segments : List Segment) (s : Segment) → i < length segments → s ≡ get_or segments i s
    → refusals_from (program_of f) n (map segment_of (drop i segments)) ≡ refusals_at f n s ++ refusals_from (program_of f) (n + 1) (map segment_of (drop (i + 1) segments))
segments-step f n i segments s lt is = grind (arith, drop_more)

pub segments-go_on : (f : Codefile) (n i : ℕ) (segments : List Segment) (s : Segment) → i < length segments → s ≡ get_or segments i s → refusals_at f n s ≡ []
    → Segments (program_of f) n (drop i segments) → Segments (program_of f) (n + 1) (drop (i + 1) segments)
segments-go_on f n i segments s lt is none h =
    record { refusals = sym (segments-step f n i segments s lt is ∙ ap (λ (x : List Refusal). x ++ refusals_from (program_of f) (n + 1) (map segment_of (drop (i + 1) segments))) none) ∙ h.refusals }

-- what is first of a segment is first of it and of the segments after it
first_finds : (X Y : Type 0) (e : LoadFault) (p : Program) (l : Listed) (more : List state.Segment) → FindsFirst {X = X} (Err e) (refusals_of l l.entries ++ wrong_entries l l.segment.entries)
    → FindsFirst {X = Y} (Err e) ((refusals_of l l.entries ++ wrong_entries l l.segment.entries) ++ refusals_from p (l.number + 1) more)
first_finds X Y e p l more h = grind (arith, has_all, own-segment, first_before, all_by, segments-later)

pub segments-refuse : (X Y : Type 0) (f : Codefile) (n i : ℕ) (segments : List Segment) (s : Segment) (e : LoadFault) → i < length segments → s ≡ get_or segments i s → FindsFirst {X = X} (Err e) (refusals_at f n s)
    → Segments (program_of f) n (drop i segments) → FindsFirst {X = Y} (Err e) (refusals (program_of f))
segments-refuse X Y f n i segments s e lt is found h =
    subst (λ (x : List Refusal). FindsFirst {X = Y} (Err e) x) (sym (segments-step f n i segments s lt is) ∙ h.refusals) (first_finds X Y e (program_of f) (listed_at f n s) (map segment_of (drop (i + 1) segments)) found)

pub segments-done : (f : Codefile) (n i : ℕ) (segments : List Segment) → length segments ≤ i → Segments (program_of f) n (drop i segments) → refusals (program_of f) ≡ []
segments-done f n i segments le h = sym h.refusals ∙ ap (λ (rest : List Segment). refusals_from (program_of f) n (map segment_of rest)) (drop_all i segments le)
