-- A bound file is within the limits, and breaks no rule.
use Rattle.std.proofs.Common.{◌≡◌, ℕ, zero, suc, ◌+◌, ◌-◌, ◌%◌, ◌^◌, ◌<◌, ◌≤◌, Bool, true, false, cond, eqb, ◌||◌, List, [], ◌∷◌, length, map, Option, Some, None, Err, refl, sym, ap, subst, ◌∙◌, arith, ◌⊎◌, inl, inr}
use Rattle.std.specs.Prelude.{slice_get}
use Rattle.std.specs.List.{AllByRecursion, list_any}
use Rattle.std.proofs.lemmas.Bool.{or_parts}
use Rattle.std.proofs.lemmas.Option.{same_Some, none-some, slice_get_within}
use Rattle.std.proofs.lemmas.List.{length-map}
use Rattle.b67_word.specs.Tagged.{Tagged, contents}
use Rattle.b67_lemmas.specs.Lists.{Has}
use Rattle.b67_lemmas.proofs.Members.{any_none, keyed_has, all_in, all_from, has_get}
use Rattle.b67_lemmas.proofs.Places.{get_within, at_mapped}
use Rattle.b67_model.specs.State as state
use Rattle.b67_model.specs.Common.{Program, Entry, broken_in, first_of, Listed, Refusal, IsAdmitted}
use Rattle.b67_load.specs.declared.fault.LoadFault.TheVariants.{Refused}
use Rattle.b67_load.specs.Broken.{Finds}
use Rattle.b67_word.specs.declared.couples.Place.{Place}
use Rattle.b67_codefile.specs.declared.file.Segment.{Segment}
use Rattle.b67_codefile.specs.declared.file.Codefile.{Codefile}
use Rattle.b67_codefile.specs.Spelling.{HasTag, IsFileSegment, HasNoEntries, IsWithin}
use Rattle.b67_codefile.specs.Meaning.{segment_of, program_of}
use Rattle.b67_bind.specs.declared.pairs.Pair.{Pair}
use Rattle.b67_bind.specs.Reasons.{Binding, binding, pair_at, pair_named, entries_in, names_unpaired, first_refusal}
use Rattle.b67_bind.specs.Bound.{by_pair, rebound, rebound_word, changed_at, change_one, change_literals, literal_of, change_entry, rebound_segment, placed_segment, bound_segments, bound}
use Rattle.b67_bind.specs.Laws.{IsGood}
use Rattle.b67_bind.proofs.Literals.{literals-length}
use Rattle.b67_bind.proofs.Rebound.{rebound-listing}
use Rattle.b67_bind.proofs.Rules.{AllFalse, listed_in, IsClean, level-clean, program-clean, some-segments, clean-program, Alike, alike-clean}
use Rattle.b67_bind.proofs.Passing.{Passes, pairs-pass, Fits, each-fits}
use Rattle.b67_bind.proofs.Procs.{proc-fits, fits-proc, numbered-get, bound-length, bound-at, paired-is, kept-fits, rebound-fits}

-- ---- within the limits

-- words of code, with the literals of MPCWs rebound
word-fits : (pairs : List Pair) (w : Tagged) → AllByRecursion (λ (a : Pair). a.host ≤ 255) pairs → HasTag 3 w → HasTag 3 (rebound_word pairs w)
word-fits pairs w few h = record { tagged = h.tagged; bits = at_pair (pair_named pairs w.bits) refl }
  where
    at_pair : (o : Option Pair) → pair_named pairs w.bits ≡ o → by_pair o w.bits < 2 ^ 48
    at_pair None is = h.bits
    at_pair (Some a) is =
        let has = keyed_has (λ (b : Pair). b.part + 1) (w.bits % 2 ^ 14) pairs a is in
        let small : a.host ≤ 255 = all_in (λ (b : Pair). b.host ≤ 255) pairs a few has.0 in
        omega (arith, small, h.bits)

one-all : {A : Type 0} (P : A → Type 0) (f : A → A) (n : ℕ) (xs : List A) → ((x : A) → P x → P (f x)) → AllByRecursion P xs → AllByRecursion P (changed_at f n xs)
one-all P f n [] go h = tt
one-all P f zero (x ∷ xs) go h = (go x h.0, h.1)
one-all P f (suc n) (x ∷ xs) go h = (h.0, one-all P f n xs go h.1)

some-all : {A : Type 0} (P : A → Type 0) (f : A → A) (o : Option ℕ) (xs : List A) → ((x : A) → P x → P (f x)) → AllByRecursion P xs → AllByRecursion P (change_one f o xs)
some-all P f o xs go h = grind (arith, one-all)

literals-all : {A : Type 0} (P : A → Type 0) (f : A → A) (entries : List Entry) (xs : List A) → ((x : A) → P x → P (f x)) → AllByRecursion P xs → AllByRecursion P (change_literals f entries xs)
literals-all P f [] xs go h = h
literals-all P f (e ∷ more) xs go h = literals-all P f more (change_one f (literal_of e) xs) go (some-all P f (literal_of e) xs go h)

segment-within : (pairs : List Pair) (s : Segment) → AllByRecursion (λ (a : Pair). a.host ≤ 255) pairs → IsFileSegment s → IsFileSegment (rebound_segment pairs s)
segment-within pairs s few h = grind (arith, literals-length, literals-all, word-fits)

-- what stands in the place of a segment of the host is that segment, or one of the part's
abbrev BothSo : (Segment → Type 0) → Binding → Type 0
BothSo P x = ((s : Segment) → Has x.host.segments s → P s) × ((s : Segment) → Has x.part.segments s → P (rebound_segment x.pairs s))

placed-so : (P : Segment → Type 0) (x : Binding) (s : Segment) (o : Option Pair) → BothSo P x → Has x.host.segments s → P (placed_segment x s o)
placed-so P x s o h m = grind (arith, has_get)

segments-so : (P : Segment → Type 0) (x : Binding) (n : ℕ) (segments : List Segment) → BothSo P x → ((s : Segment) → Has segments s → Has x.host.segments s) → AllByRecursion P (bound_segments x n segments)
segments-so P x n [] h sub = tt
segments-so P x n (s ∷ more) h sub = (placed-so P x s (pair_at x.pairs n) h (sub s (inl refl)), segments-so P x (n + 1) more h (λ t m. sub t (inr m)))

all-so : (P : Segment → Type 0) (x : Binding) → AllByRecursion P x.host.segments → AllByRecursion (λ (s : Segment). P (rebound_segment x.pairs s)) x.part.segments → AllByRecursion P (bound_segments x 1 x.host.segments)
all-so P x host part =
    segments-so P x 1 x.host.segments (λ s m. all_in P x.host.segments s host m, λ s m. all_in (λ (t : Segment). P (rebound_segment x.pairs t)) x.part.segments s part m) (λ s m. m)

-- a file that isn't of version 2 is of version 1
first-version : (v : ℕ) → (v ≡ 1) ⊎ (v ≡ 2) → eqb v 2 ≡ false → v ≡ 1
first-version v h t = grind arith

abbrev version_by : Bool → ℕ
version_by b = cond b 2 1

pub bound-within : (x : Binding) → IsWithin x.host → IsWithin x.part → Passes x [] x.pairs → IsWithin (bound x)
unfolding bound
bound-within x host part h = record {
  version = at_test (eqb x.host.version 2 || eqb x.part.version 2);
  count = omega (arith, bound-length x 1 x.host.segments, host.count);
  segments = all-so IsFileSegment x host.segments (all_from (λ (s : Segment). IsFileSegment (rebound_segment x.pairs s)) x.part.segments (λ s m. segment-within x.pairs s small (all_in IsFileSegment x.part.segments s part.segments m)));
  rows = host.rows;
  plain = λ one. plain (eqb x.host.version 2 || eqb x.part.version 2) refl one;
}
  where
    at_test : (b : Bool) → (version_by b ≡ 1) ⊎ (version_by b ≡ 2)
    at_test true = inr refl
    at_test false = inl refl

    small : AllByRecursion (λ (a : Pair). a.host ≤ 255) x.pairs
    small = all_from (λ (a : Pair). a.host ≤ 255) x.pairs (λ a m. host_small a (each-fits x [] x.pairs a h m))
      where
        host_small : (a : Pair) → Fits x a → a.host ≤ 255
        host_small a fit =
            let at = numbered-get x.host.segments a.host fit.old fit.at_host in
            let inside : a.host - 1 < length x.host.segments = slice_get_within x.host.segments (a.host - 1) fit.old at.1 in
            omega (arith, inside, host.count, at.0)

    plain : (b : Bool) → (eqb x.host.version 2 || eqb x.part.version 2) ≡ b → version_by b ≡ 1 → AllByRecursion HasNoEntries (bound_segments x 1 x.host.segments)
    plain true t one = absurd (omega (arith, one))
    plain false t one =
        let both = or_parts (eqb x.host.version 2) (eqb x.part.version 2) t in
        all-so HasNoEntries x (host.plain (first-version x.host.version host.version both.0)) (part.plain (first-version x.part.version part.version both.1))

-- ---- admitted

-- the same PCWs
changed-same : (entries : List Entry) → map (change_entry (λ bits. bits)) entries ≡ entries
changed-same [] = refl
changed-same (e ∷ more) = grind (arith, changed-same more)

-- a segment of the host at its place
record Stands (x : Binding) (i : ℕ) (s : Segment) : Type 0 where
  at : slice_get x.host.segments i ≡ Some s
  some : 1 ≤ length s.code
  clean : IsClean (listed_in (program_of x.host) (1 + i) (segment_of s))

kept-clean : (x : Binding) (i : ℕ) (s : Segment) → Passes x [] x.pairs → Stands x i s → pair_at x.pairs (1 + i) ≡ None → IsClean (listed_in (program_of (bound x)) (1 + i) (segment_of s))
kept-clean x i s h stands none =
    let l : Listed = listed_in (program_of x.host) (1 + i) (segment_of s) in
    let m : Listed = listed_in (program_of (bound x)) (1 + i) (segment_of s) in
    let alike : Alike (λ bits. bits) l m = record { words = refl; level = refl; own = refl; entries = sym (changed-same (entries_in s)) } in
    alike-clean (λ bits. bits) l m alike (level-clean (program_of x.host) (1 + i) (segment_of s) (omega (arith, length-map s.code (λ (w : Tagged). w.bits), stands.some)) stands.clean)
    (λ e bits among is stray eight. fits-proc m bits (kept-fits x i s.level bits s e h stands.at none among is (proc-fits l bits stray eight))) stands.clean

-- the rules on a level, by number and level
level-moved : (p q : Program) (n : ℕ) (s t : state.Segment) → t.level ≡ s.level → AllFalse (broken_in (listed_in p n s)) → AllFalse (broken_in (listed_in q n t))
level-moved p q n s t e h = rw e h

rebound-clean : (x : Binding) (i j : ℕ) (s t : Segment) → Passes x [] x.pairs → length x.host.segments ≤ 255 → Stands x i s → s.level ≡ t.level → list_any (names_unpaired x.pairs) (entries_in t) ≡ false
    → IsClean (listed_in (program_of x.part) (1 + j) (segment_of t)) → IsClean (listed_in (program_of (bound x)) (1 + i) (segment_of (rebound_segment x.pairs t)))
rebound-clean x i j s t h few stands level paired clean =
    let l : Listed = listed_in (program_of x.part) (1 + j) (segment_of t) in
    let m : Listed = listed_in (program_of (bound x)) (1 + i) (segment_of (rebound_segment x.pairs t)) in
    let f : ℕ → ℕ = rebound x.pairs in
    let words : length (contents (rebound_segment x.pairs t).code) ≡ length (contents t.code) =
    length-map (rebound_segment x.pairs t).code (λ (w : Tagged). w.bits) ∙ literals-length (rebound_word x.pairs) (entries_in t) t.code ∙ sym (length-map t.code (λ (w : Tagged). w.bits)) in
    let alike : Alike f l m = record { words = words; level = refl; own = refl; entries = rebound-listing x.pairs t } in
    let host_level : AllFalse (broken_in (listed_in (program_of x.host) (1 + i) (segment_of s))) =
    level-clean (program_of x.host) (1 + i) (segment_of s) (omega (arith, length-map s.code (λ (w : Tagged). w.bits), stands.some)) stands.clean in
    alike-clean f l m alike (level-moved (program_of x.host) (program_of (bound x)) (1 + i) (segment_of s) (segment_of (rebound_segment x.pairs t)) (sym level) host_level)
    (λ e bits among is stray eight. fits-proc m (f bits) (rebound-fits x t.level bits e h few (any_none (names_unpaired x.pairs) (entries_in t) e paired among) is (proc-fits l bits stray eight))) clean

segment-clean : (x : Binding) (i : ℕ) (s : Segment) → IsGood x.part → Passes x [] x.pairs → length x.host.segments ≤ 255 → Stands x i s → (o : Option Pair) → pair_at x.pairs (1 + i) ≡ o → IsClean (listed_in (program_of (bound x)) (1 + i) (segment_of (placed_segment x s o)))
segment-clean x i s part h few stands None pair = kept-clean x i s h stands pair
segment-clean x i s part h few stands (Some a) pair =
    let has = keyed_has (λ (b : Pair). b.host) (1 + i) x.pairs a pair in
    let fit : Fits x a = each-fits x [] x.pairs a h has.0 in
    let host = numbered-get x.host.segments a.host fit.old fit.at_host in
    let own = numbered-get x.part.segments a.part fit.new fit.at_part in
    let place : a.host - 1 ≡ i = omega (arith, has.1) in
    let same : fit.old ≡ s = same_Some fit.old s (sym host.1 ∙ ap (slice_get x.host.segments) place ∙ stands.at) in
    let clean : IsClean (listed_in (program_of x.part) (1 + (a.part - 1)) (segment_of fit.new)) = program-clean (program_of x.part) (a.part - 1) (segment_of fit.new) part.1 (at_mapped segment_of x.part.segments (a.part - 1) fit.new own.1) in
    let level : s.level ≡ fit.new.level = sym (ap (λ (r : Segment). r.level) same) ∙ fit.level in
    subst (λ (r : Segment). IsClean (listed_in (program_of (bound x)) (1 + i) (segment_of r))) (sym (paired-is x s a fit)) (rebound-clean x i (a.part - 1) s fit.new h few stands level fit.paired clean)

host-stands : (x : Binding) (i : ℕ) (s : Segment) → IsGood x.host → slice_get x.host.segments i ≡ Some s → Stands x i s
host-stands x i s host at = record {
  at = at;
  some = (all_in IsFileSegment x.host.segments s host.0.segments (has_get x.host.segments i s at)).code.some;
  clean = program-clean (program_of x.host) i (segment_of s) host.1 (at_mapped segment_of x.host.segments i s at);
}

bound-source : (x : Binding) (i : ℕ) (r : state.Segment) → slice_get (program_of (bound x)).segments i ≡ Some r → (s : Segment) × (slice_get x.host.segments i ≡ Some s) × (segment_of (placed_segment x s (pair_at x.pairs (1 + i))) ≡ r)
unfolding bound
bound-source x i r e = at_segment (slice_get x.host.segments i) refl
  where
    at_segment : (o : Option Segment) → slice_get x.host.segments i ≡ o → (s : Segment) × (slice_get x.host.segments i ≡ Some s) × (segment_of (placed_segment x s (pair_at x.pairs (1 + i))) ≡ r)
    at_segment (Some s) is = (s, is, same_Some (segment_of (placed_segment x s (pair_at x.pairs (1 + i)))) r (sym (bound-at x i s is) ∙ e))
    at_segment None is = absurd (past (slice_get_within (program_of (bound x)).segments i r e))
      where
        past : i < length (program_of (bound x)).segments → ⊥
        past lt =
            let inside : i < length x.host.segments = omega (arith, lt, length-map (bound_segments x 1 x.host.segments) segment_of, bound-length x 1 x.host.segments) in
            let there = get_within x.host.segments i inside in
            none-some there.0 (sym is ∙ there.1)

bound-some : (x : Binding) → IsAdmitted (program_of x.host) → eqb (length (program_of (bound x)).segments) 0 ≡ false
unfolding bound
bound-some x host = rw (length-map (bound_segments x 1 x.host.segments) segment_of, bound-length x 1 x.host.segments) (rw (length-map x.host.segments segment_of) at (some-segments (program_of x.host) host))

pub bound-admitted : (x : Binding) → IsGood x.host → IsGood x.part → Passes x [] x.pairs → IsAdmitted (program_of (bound x))
bound-admitted x host part h =
    clean-program (program_of (bound x)) (bound-some x host.1)
    (λ i r e.
    let source = bound-source x i r e in
    let stands : Stands x i source.0 = host-stands x i source.0 host source.1 in
    subst (λ (t : state.Segment). IsClean (listed_in (program_of (bound x)) (1 + i) t)) source.2 (segment-clean x i source.0 part h few stands (pair_at x.pairs (1 + i)) refl))
  where
    few : length x.host.segments ≤ 255
    few = omega (arith, host.0.count)

-- whatever host, part and pairs of which none is refused
pub bound-good : (x : Binding) → IsGood x.host → IsGood x.part → first_refusal x ≡ None → IsGood (bound x)
bound-good x host part none = grind (arith, pairs-pass, bound-within, bound-admitted)

-- ---- what is bound by a call

pub file-good : (host part h p : Codefile) (pairs : List Pair) (file : Codefile) → h ≡ host → IsWithin host → IsAdmitted (program_of host) → p ≡ part → IsWithin part → IsAdmitted (program_of part) → first_refusal (binding h p pairs) ≡ None
    → file ≡ bound (binding h p pairs) → IsGood file
file-good host part h p pairs file host_is host_in host_ok part_is part_in part_ok none is = grind (arith, bound-good)

pub never-refused : (X : Type 0) (refusals : List Refusal) (segment reason : ℕ) (place : Place) → refusals ≡ [] → Finds {X = X} (Err (Refused segment place reason)) refusals → ⊥
never-refused X refusals segment reason place none found = none-some _ (sym (ap first_of none) ∙ found)
