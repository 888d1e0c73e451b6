-- A file that is bound into itself.
use Rattle.std.proofs.Common.{◌≡◌, ℕ, zero, suc, ◌+◌, ◌-◌, ◌*◌, ◌/◌, ◌%◌, ◌^◌, ◌<◌, ◌≤◌, Bool, false, not, cond, eqb, ◌||◌, List, [], ◌∷◌, ◌++◌, length, Option, Some, None, refl, sym, ap, subst, ◌∙◌, arith, ◌⊎◌, inl, inr}
use Rattle.std.specs.Prelude.{slice_get, is_none}
use Rattle.std.specs.List.{AllByRecursion, list_any}
use Rattle.std.proofs.lemmas.Bool.{eq-eqb, or_from, not_from_true}
use Rattle.std.proofs.lemmas.List.{length-map}
use Rattle.std.proofs.lemmas.Option.{same_Some, none-some, slice_get_within}
use Rattle.b67_word.specs.Tagged.{Tagged, contents}
use Rattle.b67_lemmas.specs.Lists.{Has}
use Rattle.b67_lemmas.specs.Keyed.{keyed}
use Rattle.b67_lemmas.proofs.Joins.{all_append, all_by}
use Rattle.b67_lemmas.proofs.Members.{all_in}
use Rattle.b67_lemmas.proofs.Places.{at_mapped}
use Rattle.b67_model.specs.Common.{Entry, At, Break, place_of_entry, holds_of, has_stray_bits, breaks_rule_8, broken_at, Listed, refused, refusals_of}
use Rattle.b67_codefile.specs.declared.file.Segment.{Segment}
use Rattle.b67_codefile.specs.declared.file.Codefile.{Codefile}
use Rattle.b67_codefile.specs.Meaning.{segment_of, program_of}
use Rattle.b67_bind.specs.declared.pairs.Pair.{Pair}
use Rattle.b67_bind.specs.Reasons.{Binding, numbered, pair_at, pair_named, entries_in, proc_in, procs_from, is_taken, names_unpaired, has_level_1, reasons, first_refusal}
use Rattle.b67_bind.specs.Bound.{rebound, rebound_word, literal_of, changed_at, change_one, change_literals, rebound_segment, from_part, placed_segment, bound_segments, bound}
use Rattle.b67_bind.specs.Laws.{IsGood, same_pairs, HasNoLevel1, into_itself}
use Rattle.b67_bind.proofs.Relisted.{HoldsLiteral, listing-literals}
use Rattle.b67_bind.proofs.Rules.{AllFalse, refused-none, append-none, entry-own, listed_in, IsClean, program-clean}
use Rattle.b67_bind.proofs.Passing.{Passes, none-refused}
use Rattle.b67_bind.proofs.Procs.{ProcFits, proc-fits, get-numbered}

none_any : {A : Type 0} (test : A → Bool) (xs : List A) → ((x : A) → Has xs x → test x ≡ false) → list_any test xs ≡ false
none_any test [] h = refl
none_any test (x ∷ xs) h = or_from (test x) (list_any test xs) (h x (inl refl)) (none_any test xs (λ y m. h y (inr m)))

-- ---- the pairs of a file with itself

abbrev same_pair : ℕ → Pair
same_pair n = record { host = n; part = n }

same-host : (n : ℕ) (segments : List Segment) (m : ℕ) → n ≤ m → m < n + length segments → pair_at (same_pairs n segments) m ≡ Some (same_pair m)
same-host n [] m low high = absurd (omega arith)
same-host n (s ∷ more) m low high = grind (arith, same-host (n + 1) more m)

same-part : (n : ℕ) (segments : List Segment) (d : ℕ) → n + 1 ≤ d → d < n + 1 + length segments → keyed (λ (a : Pair). a.part + 1) d (same_pairs n segments) ≡ Some (same_pair (d - 1))
same-part n [] d low high = absurd (omega arith)
same-part n (s ∷ more) d low high = grind (arith, same-part (n + 1) more d)

-- ---- an MPCW names a segment of its file

proc-clean : (l : Listed) (e : Entry) (bits : ℕ) → proc_in e ≡ Some bits → AllFalse (broken_at l e) → (has_stray_bits l.program bits ≡ false) × (breaks_rule_8 l bits ≡ false)
proc-clean l e bits is h = grind arith

entry-clean : (l : Listed) (entries : List Entry) (e : Entry) → refusals_of l entries ≡ [] → Has entries e → AllFalse (broken_at l e)
entry-clean l [] e none m = absurd m
entry-clean l (d ∷ more) e none m = grind (arith, append-none, entry-own, refused-none, entry-clean l more e)

-- the pair that a PCW of an admitted file names
own-pair : (file : Codefile) (i : ℕ) (s : Segment) (e : Entry) (bits : ℕ) → IsGood file → slice_get file.segments i ≡ Some s → Has (entries_in s) e → proc_in e ≡ Some bits
    → (2 ≤ bits % 2 ^ 14) × (pair_named (same_pairs 1 file.segments) bits ≡ Some (same_pair (bits % 2 ^ 14 - 1)))
own-pair file i s e bits good at among is =
    let l : Listed = listed_in (program_of file) (1 + i) (segment_of s) in
    let clean : IsClean l = program-clean (program_of file) i (segment_of s) good.1 (at_mapped segment_of file.segments i s at) in
    let both = proc-clean l e bits is (entry-clean l (entries_in s) e clean.places among) in
    let fit : ProcFits (program_of file) s.level bits = proc-fits l bits both.0 both.1 in
    let inside : bits % 2 ^ 14 - 2 < length (program_of file).segments = slice_get_within (program_of file).segments (bits % 2 ^ 14 - 2) fit.named fit.found in
    let high : bits % 2 ^ 14 < 1 + 1 + length file.segments = omega (arith, inside, fit.low, length-map file.segments segment_of) in
    (fit.low, same-part 1 file.segments (bits % 2 ^ 14) (omega (arith, fit.low)) high)

-- ---- no pair is refused

-- the host keeps no segment
none-kept : (pairs : List Pair) (n : ℕ) (segments : List Segment) → ((m : ℕ) → n ≤ m → m < n + length segments → pair_at pairs m ≡ Some (same_pair m)) → procs_from pairs n segments ≡ []
none-kept pairs n [] h = refl
none-kept pairs n (s ∷ more) h = grind (arith, none-kept pairs (n + 1) more)

-- earlier pairs, of lower numbers
abbrev Lower : ℕ → Pair → Type 0
Lower n b = (b.host < n) × (b.part < n)

not_again : (before : List Pair) (n : ℕ) → AllByRecursion (Lower n) before → is_taken before (same_pair n) ≡ false
not_again [] n h = refl
not_again (b ∷ before) n h = grind (arith, not_again before n h.1)

more-lower : (before : List Pair) (n : ℕ) → AllByRecursion (Lower n) before → AllByRecursion (Lower (n + 1)) (before ++ same_pair n ∷ [])
more-lower before n h = all_append (Lower (n + 1)) before (same_pair n ∷ []) (all_by (Lower n) (Lower (n + 1)) (λ b k. (omega (arith, k.0), omega (arith, k.1))) before h) ((omega arith, omega arith), tt)

own-reasons : (file : Codefile) (before : List Pair) (i : ℕ) (s : Segment) → IsGood file → HasNoLevel1 s → slice_get file.segments i ≡ Some s → AllByRecursion (Lower (1 + i)) before
    → AllFalse (reasons (into_itself file) before (same_pair (1 + i)))
own-reasons file before i s good plain at lower =
    let x : Binding = into_itself file in
    let place : 1 + i ≡ i + 1 = omega arith in
    let there : numbered file.segments (1 + i) ≡ Some s = ap (numbered file.segments) place ∙ get-numbered file.segments i ∙ at in
    let level : not (eqb s.level s.level) ≡ false = not_from_true (eqb s.level s.level) (eq-eqb s.level s.level refl) in
    let paired : list_any (names_unpaired x.pairs) (entries_in s) ≡ false = none_any (names_unpaired x.pairs) (entries_in s) (λ e m. named e m (proc_in e) refl) in
    let couples : list_any (has_level_1 s.level) (entries_in s) ≡ false = none_any (has_level_1 s.level) (entries_in s) (λ e m. all_in (λ (d : Entry). has_level_1 s.level d ≡ false) (entries_in s) e plain m) in
    let kept : procs_from x.pairs 1 file.segments ≡ [] = none-kept x.pairs 1 file.segments (λ m low high. same-host 1 file.segments m low high) in
    rw (there, not_again before (1 + i) lower, level, paired, couples, kept) (refl, (refl, (refl, (refl, (refl, (refl, (refl, tt)))))))
  where
    named : (e : Entry) → Has (entries_in s) e → (o : Option ℕ) → proc_in e ≡ o → holds_of o (λ bits. is_none (pair_named (same_pairs 1 file.segments) bits)) ≡ false
    named e m None is = refl
    named e m (Some bits) is = ap is_none (own-pair file i s e bits good at m is).1

itself-passes : (file : Codefile) (before : List Pair) (i : ℕ) (segments : List Segment) → IsGood file → AllByRecursion HasNoLevel1 segments → ((j : ℕ) → slice_get file.segments (i + j) ≡ slice_get segments j) → AllByRecursion (Lower (1 + i)) before
    → Passes (into_itself file) before (same_pairs (1 + i) segments)
itself-passes file before i [] good plain tail lower = tt
itself-passes file before i (s ∷ more) good plain tail lower =
    let here : slice_get file.segments i ≡ Some s = ap (slice_get file.segments) (same i) ∙ tail 0 in (
      own-reasons file before i s good plain.0 here lower,
      subst (λ (n : ℕ). Passes (into_itself file) (before ++ same_pair (1 + i) ∷ []) (same_pairs n more)) (next i)
          (itself-passes file (before ++ same_pair (1 + i) ∷ []) (i + 1) more good plain.1 (λ j. ap (slice_get file.segments) (later i j) ∙ tail (suc j))
          (subst (λ (n : ℕ). AllByRecursion (Lower n) (before ++ same_pair (1 + i) ∷ [])) (sym (next i)) (more-lower before (1 + i) lower))),
    )
  where
    same : (i : ℕ) → i ≡ i + 0
    same i = omega arith

    next : (i : ℕ) → 1 + (i + 1) ≡ 1 + i + 1
    next i = omega arith

    later : (i j : ℕ) → i + 1 + j ≡ i + suc j
    later i j = omega arith

pub itself-refused : (file : Codefile) → IsGood file → AllByRecursion HasNoLevel1 file.segments → first_refusal (into_itself file) ≡ None
itself-refused file good plain = none-refused (into_itself file) (itself-passes file [] 0 file.segments good plain (λ j. ap (slice_get file.segments) (zero j)) tt)
  where
    zero : (j : ℕ) → 0 + j ≡ j
    zero j = omega arith

-- ---- and nothing is changed

unchanged-at : {A : Type 0} (f : A → A) (n : ℕ) (xs : List A) → ((x : A) → slice_get xs n ≡ Some x → f x ≡ x) → changed_at f n xs ≡ xs
unchanged-at f n [] h = refl
unchanged-at f zero (x ∷ xs) h = ap (λ y. y ∷ xs) (h x refl)
unchanged-at f (suc n) (x ∷ xs) h = ap (λ ys. x ∷ ys) (unchanged-at f n xs h)

unchanged-one : {A : Type 0} (f : A → A) (o : Option ℕ) (xs : List A) → ((n : ℕ) (x : A) → o ≡ Some n → slice_get xs n ≡ Some x → f x ≡ x) → change_one f o xs ≡ xs
unchanged-one f o xs h = grind (arith, unchanged-at)

unchanged-literals : {A : Type 0} (f : A → A) (entries : List Entry) (xs : List A) → ((e : Entry) (n : ℕ) (x : A) → Has entries e → literal_of e ≡ Some n → slice_get xs n ≡ Some x → f x ≡ x) → change_literals f entries xs ≡ xs
unchanged-literals f [] xs h = refl
unchanged-literals f (e ∷ more) xs h =
    ap (change_literals f more) (unchanged-one f (literal_of e) xs (λ n x is at. h e n x (inl refl) is at)) ∙ unchanged-literals f more xs (λ d n x m is at. h d n x (inr m) is at)

-- the PCW behind an MPCW
literal-proc : (e : Entry) (n : ℕ) → literal_of e ≡ Some n → (bits : ℕ) × (proc_in e ≡ Some bits) × (n ≡ (place_of_entry e).word + 1)
literal-proc (Break place why) n is = absurd (none-some n is)
literal-proc (At place o) n is = grind arith

rebound-same : (file : Codefile) (i : ℕ) (s : Segment) (e : Entry) (bits : ℕ) → IsGood file → slice_get file.segments i ≡ Some s → Has (entries_in s) e → proc_in e ≡ Some bits → rebound (same_pairs 1 file.segments) bits ≡ bits
rebound-same file i s e bits good at m is = grind (arith, own-pair)

segment-same : (file : Codefile) (i : ℕ) (s : Segment) → IsGood file → slice_get file.segments i ≡ Some s → rebound_segment (same_pairs 1 file.segments) s ≡ s
segment-same file i s good at =
    ap (λ (code : List Tagged). segment code)
    (unchanged-literals (rebound_word (same_pairs 1 file.segments)) (entries_in s) s.code
    (λ e n w m is there.
    let proc = literal-proc e n is in
    let holds : HoldsLiteral (contents s.code) e = all_in (HoldsLiteral (contents s.code)) (entries_in s) e (listing-literals (contents s.code)) m in
    let word : slice_get (contents s.code) n ≡ Some w.bits = at_mapped (λ (v : Tagged). v.bits) s.code n w there in
    let bits : proc.0 ≡ w.bits = same_Some proc.0 w.bits (sym (holds.word proc.0 proc.1) ∙ ap (slice_get (contents s.code)) (sym proc.2) ∙ word) in
    ap (tagged w.tag) (rebound-same file i s e w.bits good at m (proc.1 ∙ ap Some bits))))
  where
    segment : List Tagged → Segment
    segment code = record { level = s.level; entries = s.entries; code = code }

    tagged : ℕ → ℕ → Tagged
    tagged t b = record { tag = t; bits = b }

segments-same : (file : Codefile) (i : ℕ) (segments : List Segment) → IsGood file → ((j : ℕ) → slice_get file.segments (i + j) ≡ slice_get segments j) → i + length segments ≡ length file.segments → bound_segments (into_itself file) (1 + i) segments ≡ segments
segments-same file i [] good tail len = refl
segments-same file i (s ∷ more) good tail len =
    let x : Binding = into_itself file in
    let here : slice_get file.segments i ≡ Some s = ap (slice_get file.segments) (same i) ∙ tail 0 in
    let pair : pair_at x.pairs (1 + i) ≡ Some (same_pair (1 + i)) = same-host 1 file.segments (1 + i) (omega arith) (omega (arith, len)) in
    let place : 1 + i ≡ i + 1 = omega arith in
    let there : numbered file.segments (1 + i) ≡ Some s = ap (numbered file.segments) place ∙ get-numbered file.segments i ∙ here in
    let own : placed_segment x s (pair_at x.pairs (1 + i)) ≡ s = ap (placed_segment x s) pair ∙ ap (from_part x.pairs s) there ∙ segment-same file i s good here in
    let rest : bound_segments x (1 + i + 1) more ≡ more = ap (λ (n : ℕ). bound_segments x n more) (next i) ∙ segments-same file (i + 1) more good (λ j. ap (slice_get file.segments) (later i j) ∙ tail (suc j)) (omega (arith, len)) in
    ap (λ (r : Segment). r ∷ bound_segments x (1 + i + 1) more) own ∙ ap (λ (rs : List Segment). s ∷ rs) rest
  where
    same : (i : ℕ) → i ≡ i + 0
    same i = omega arith

    next : (i : ℕ) → 1 + i + 1 ≡ 1 + (i + 1)
    next i = omega arith

    later : (i j : ℕ) → i + 1 + j ≡ i + suc j
    later i j = omega arith

version-same : (v : ℕ) → (v ≡ 1) ⊎ (v ≡ 2) → cond (eqb v 2 || eqb v 2) 2 1 ≡ v
version-same v h = grind arith

pub itself-same : (file : Codefile) → IsGood file → bound (into_itself file) ≡ file
unfolding bound
itself-same file good =
    let segments : bound_segments (into_itself file) 1 file.segments ≡ file.segments = segments-same file 0 file.segments good (λ j. ap (slice_get file.segments) (zero j)) (omega arith) in
    ap (λ (v : ℕ). whole v (bound_segments (into_itself file) 1 file.segments)) (version-same file.version good.0.version) ∙ ap (λ (ss : List Segment). whole file.version ss) segments
  where
    zero : (j : ℕ) → 0 + j ≡ j
    zero j = omega arith

    whole : ℕ → List Segment → Codefile
    whole v ss = record { version = v; segments = ss; rows = file.rows }

-- each segment for itself, where no couple has level 1
pub itself : (file : Codefile) → IsGood file → AllByRecursion HasNoLevel1 file.segments → (first_refusal (into_itself file) ≡ None) × (bound (into_itself file) ≡ file)
itself file good plain = (itself-refused file good plain, itself-same file good)
