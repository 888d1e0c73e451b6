-- The PCWs of a bound file.
use Rattle.std.proofs.Common.{◌≡◌, ℕ, zero, suc, ◌+◌, ◌-◌, ◌*◌, ◌/◌, ◌%◌, ◌^◌, ◌<◌, ◌≤◌, true, false, eqb, ◌||◌, List, [], ◌∷◌, length, Option, Some, None, refl, sym, ap, ◌∙◌, arith, inl, inr}
use Rattle.std.specs.Prelude.{slice_get, is_none}
use Rattle.std.proofs.lemmas.Bool.{true≢false, eqb-true, or_parts}
use Rattle.std.proofs.lemmas.Option.{same_Some, none-some, slice_get_within}
use Rattle.b67_word.specs.Operands.{bit}
use Rattle.b67_lemmas.specs.Lists.{Has}
use Rattle.b67_lemmas.proofs.Members.{any_none, has_append_left, has_append_right, keyed_has}
use Rattle.b67_lemmas.proofs.Places.{mapped_at, at_mapped}
use Rattle.b67_model.specs.State as state
use Rattle.b67_model.specs.Common.{Program, Entry, holds_of, named_segment, named_level, may_begin_at, has_stray_bits, breaks_rule_8, Listed}
use Rattle.b67_codefile.specs.declared.file.Segment.{Segment}
use Rattle.b67_codefile.specs.Meaning.{segment_of, program_of}
use Rattle.b67_bind.specs.declared.pairs.Pair.{Pair}
use Rattle.b67_bind.specs.Reasons.{Binding, numbered, pair_at, pair_named, entries_in, proc_in, procs, procs_from, names_unpaired, enters_elsewhere}
use Rattle.b67_bind.specs.Bound.{by_pair, rebound, rebound_segment, from_part, placed_segment, bound_segments, bound}
use Rattle.b67_bind.proofs.Passing.{Passes, Fits, each-fits, found-host}

-- ---- what rules 7 and 8 ask of a PCW in a segment of this level

pub record ProcFits (p : Program) (own bits : ℕ) : Type 0 where
  pub small : bits < 2 ^ 36
  pub plain : bit 19 bits ≡ 0
  pub low : 2 ≤ bits % 2 ^ 14
  pub named : state.Segment
  pub found : slice_get p.segments (bits % 2 ^ 14 - 2) ≡ Some named
  pub level : named.level ≡ (bits / 2 ^ 14) % 2 ^ 5
  pub above : (bits / 2 ^ 14) % 2 ^ 5 ≡ own + 1
  pub begins : may_begin_at (Some named) (bits / 2 ^ 20) ≡ true

-- a segment of a level at which a procedure may begin
record Named (p : Program) (disp level place : ℕ) : Type 0 where
  low : 2 ≤ disp
  named : state.Segment
  found : slice_get p.segments (disp - 2) ≡ Some named
  of_level : named.level ≡ level
  begins : may_begin_at (Some named) place ≡ true

abbrev level_of : Option state.Segment → Option ℕ
level_of None = None
level_of (Some s) = Some s.level

named_some : (p : Program) (disp level place : ℕ) → 2 ≤ disp → (o : Option state.Segment) → slice_get p.segments (disp - 2) ≡ o → holds_of (level_of o) (λ n. eqb n level) ≡ true → may_begin_at o place ≡ true → Named p disp level place
named_some p disp level place low o is e b = grind arith

named_by : (p : Program) (disp level place : ℕ) → holds_of (named_level p disp) (λ n. eqb n level) ≡ true → may_begin_at (named_segment p disp) place ≡ true → Named p disp level place
named_by p disp level place e b = grind arith

pub proc-fits : (l : Listed) (bits : ℕ) → has_stray_bits l.program bits ≡ false → breaks_rule_8 l bits ≡ false → ProcFits l.program l.segment.level bits
proc-fits l bits stray eight = grind (arith, or_parts, named_by, eqb-true)

pub fits-proc : (l : Listed) (bits : ℕ) → ProcFits l.program l.segment.level bits → (has_stray_bits l.program bits ≡ false) × (breaks_rule_8 l bits ≡ false)
fits-proc l bits h = grind arith

-- ---- segments by their numbers

pub numbered-get : {A : Type 0} (xs : List A) (n : ℕ) (x : A) → numbered xs n ≡ Some x → (1 ≤ n) × (slice_get xs (n - 1) ≡ Some x)
numbered-get xs n x e = grind arith

pub get-numbered : {A : Type 0} (xs : List A) (i : ℕ) → numbered xs (i + 1) ≡ slice_get xs i
get-numbered xs i = grind arith

pub bound-get : (x : Binding) (n i : ℕ) (segments : List Segment) (s : Segment) → slice_get segments i ≡ Some s → slice_get (bound_segments x n segments) i ≡ Some (placed_segment x s (pair_at x.pairs (n + i)))
bound-get x n i [] s e = absurd (none-some s e)
bound-get x n zero (t ∷ more) s e = grind arith
bound-get x n (suc i) (t ∷ more) s e = grind (arith, bound-get x (n + 1) i more s e)

pub bound-length : (x : Binding) (n : ℕ) (segments : List Segment) → length (bound_segments x n segments) ≡ length segments
bound-length x n [] = refl
bound-length x n (s ∷ more) = ap suc (bound-length x (n + 1) more)

-- the bound file's segment at a place, without the tags of its words
pub bound-at : (x : Binding) (i : ℕ) (s : Segment) → slice_get x.host.segments i ≡ Some s → slice_get (program_of (bound x)).segments i ≡ Some (segment_of (placed_segment x s (pair_at x.pairs (1 + i))))
unfolding bound
bound-at x i s e = at_mapped segment_of (bound_segments x 1 x.host.segments) i (placed_segment x s (pair_at x.pairs (1 + i))) (bound-get x 1 i x.host.segments s e)

-- ---- the segment that takes the place of the host's

-- what stands there has the level of the host's
pub paired-is : (x : Binding) (s : Segment) (a : Pair) (h : Fits x a) → placed_segment x s (Some a) ≡ rebound_segment x.pairs h.new
paired-is x s a h = ap (from_part x.pairs s) h.at_part

-- ---- a PCW of a segment that stays

filtered : (entries : List Entry) (e : Entry) (bits : ℕ) → Has entries e → proc_in e ≡ Some bits → Has (procs entries) bits
filtered [] e bits m is = absurd m
filtered (d ∷ more) e bits (inl same) is = rw (ap proc_in same ∙ is) (inl refl)
filtered (d ∷ more) e bits (inr m) is = grind (arith, filtered more e bits m is)

kept-has : (pairs : List Pair) (n i : ℕ) (segments : List Segment) (s : Segment) (bits : ℕ) → slice_get segments i ≡ Some s → pair_at pairs (n + i) ≡ None → Has (procs (entries_in s)) bits → Has (procs_from pairs n segments) bits
kept-has pairs n i [] s bits at none h = absurd (none-some s at)
kept-has pairs n zero (t ∷ more) s bits at none h = grind (arith, has_append_left)
kept-has pairs n (suc i) (t ∷ more) s bits at none h = grind (arith, has_append_right, kept-has pairs (n + 1) i more s bits)

begins-there : (a : Pair) (t : Segment) (bits : ℕ) → enters_elsewhere a t bits ≡ false → bits % 2 ^ 14 ≡ a.host + 1 → may_begin_at (Some (segment_of t)) (bits / 2 ^ 20) ≡ true
begins-there a t bits e is = grind arith

-- the bound file's segment that a kept PCW names is fit for it
record Stands (x : Binding) (i : ℕ) (old : state.Segment) (place : ℕ) : Type 0 where
  new : state.Segment
  found : slice_get (program_of (bound x)).segments i ≡ Some new
  level : new.level ≡ old.level
  begins : may_begin_at (Some new) place ≡ true

stays : (x : Binding) (bits : ℕ) (old : state.Segment) → Passes x [] x.pairs → 2 ≤ bits % 2 ^ 14 → slice_get (program_of x.host).segments (bits % 2 ^ 14 - 2) ≡ Some old → may_begin_at (Some old) (bits / 2 ^ 20) ≡ true
    → Has (procs_from x.pairs 1 x.host.segments) bits → Stands x (bits % 2 ^ 14 - 2) old (bits / 2 ^ 20)
stays x bits old h low found begins kept =
    let i : ℕ = bits % 2 ^ 14 - 2 in
    let source = mapped_at segment_of x.host.segments i old found in
    at_pair source.0 source.1 source.2 (pair_at x.pairs (1 + i)) refl
  where
    at_pair : (s : Segment) → slice_get x.host.segments (bits % 2 ^ 14 - 2) ≡ Some s → segment_of s ≡ old → (o : Option Pair) → pair_at x.pairs (1 + (bits % 2 ^ 14 - 2)) ≡ o → Stands x (bits % 2 ^ 14 - 2) old (bits / 2 ^ 20)
    at_pair s at is None none = record {
      new = old;
      found = bound-at x (bits % 2 ^ 14 - 2) s at ∙ ap (λ (o : Option Pair). Some (segment_of (placed_segment x s o))) none ∙ ap Some is;
      level = refl;
      begins = begins;
    }
    at_pair s at is (Some a) pair =
        let has = keyed_has (λ (b : Pair). b.host) (1 + (bits % 2 ^ 14 - 2)) x.pairs a pair in
        let fit : Fits x a = each-fits x [] x.pairs a h has.0 in
        let host = numbered-get x.host.segments a.host fit.old fit.at_host in
        let place : a.host - 1 ≡ bits % 2 ^ 14 - 2 = omega (arith, has.1) in
        let same : fit.old ≡ s = same_Some fit.old s (sym host.1 ∙ ap (slice_get x.host.segments) place ∙ at) in
        let level : fit.new.level ≡ old.level = sym fit.level ∙ ap (λ (r : Segment). r.level) same ∙ ap (λ (r : state.Segment). r.level) is in
        record {
          new = segment_of (rebound_segment x.pairs fit.new);
          found = bound-at x (bits % 2 ^ 14 - 2) s at ∙ ap (λ (o : Option Pair). Some (segment_of (placed_segment x s o))) pair ∙ ap (λ (r : Segment). Some (segment_of r)) (paired-is x s a fit);
          level = level;
          begins = begins-there a fit.new bits (any_none (enters_elsewhere a fit.new) (procs_from x.pairs 1 x.host.segments) bits fit.begins kept) (omega (arith, has.1, low));
        }

-- the PCW of an MPCW of a segment that no pair names
pub kept-fits : (x : Binding) (i own bits : ℕ) (s : Segment) (e : Entry) → Passes x [] x.pairs → slice_get x.host.segments i ≡ Some s → pair_at x.pairs (1 + i) ≡ None → Has (entries_in s) e → proc_in e ≡ Some bits
    → ProcFits (program_of x.host) own bits → ProcFits (program_of (bound x)) own bits
kept-fits x i own bits s e h at none m is fit =
    let kept : Has (procs_from x.pairs 1 x.host.segments) bits = kept-has x.pairs 1 i x.host.segments s bits at none (filtered (entries_in s) e bits m is) in
    let there : Stands x (bits % 2 ^ 14 - 2) fit.named (bits / 2 ^ 20) = stays x bits fit.named h fit.low fit.found fit.begins kept in
    record {
      small = fit.small;
      plain = fit.plain;
      low = fit.low;
      named = there.new;
      found = there.found;
      level = there.level ∙ fit.level;
      above = fit.above;
      begins = there.begins;
    }

-- ---- a PCW of a segment of the part

-- the fields of a PCW with another displacement
record Moved (host bits new : ℕ) : Type 0 where
  disp : new % 2 ^ 14 ≡ host + 1
  small : new < 2 ^ 36
  plain : bit 19 new ≡ bit 19 bits
  level : (new / 2 ^ 14) % 2 ^ 5 ≡ (bits / 2 ^ 14) % 2 ^ 5
  place : new / 2 ^ 20 ≡ bits / 2 ^ 20

moved : (host bits new : ℕ) → host ≤ 255 → bits < 2 ^ 36 → new ≡ bits / 2 ^ 14 * 2 ^ 14 + (host + 1) → Moved host bits new
moved host bits new few small is = record { disp = omega arith; small = omega arith; plain = omega arith; level = omega arith; place = omega arith }

back : (n : ℕ) → 1 ≤ n → 1 + (n - 1) ≡ n
back n le = omega arith

pub rebound-fits : (x : Binding) (own bits : ℕ) (e : Entry) → Passes x [] x.pairs → length x.host.segments ≤ 255 → names_unpaired x.pairs e ≡ false → proc_in e ≡ Some bits
    → ProcFits (program_of x.part) own bits → ProcFits (program_of (bound x)) own (rebound x.pairs bits)
rebound-fits x own bits e h few paired is fit = at_pair (pair_named x.pairs bits) refl (rw is at paired)
  where
    at_pair : (o : Option Pair) → pair_named x.pairs bits ≡ o → is_none (pair_named x.pairs bits) ≡ false → ProcFits (program_of (bound x)) own (rebound x.pairs bits)
    at_pair None none some = absurd (true≢false (sym (ap is_none none) ∙ some))
    at_pair (Some a) pair some =
        let has = keyed_has (λ (b : Pair). b.part + 1) (bits % 2 ^ 14) x.pairs a pair in
        let own_fit : Fits x a = each-fits x [] x.pairs a h has.0 in
        let host = numbered-get x.host.segments a.host own_fit.old own_fit.at_host in
        let part = numbered-get x.part.segments a.part own_fit.new own_fit.at_part in
        let inside : a.host - 1 < length x.host.segments = slice_get_within x.host.segments (a.host - 1) own_fit.old host.1 in
        let new : ℕ = rebound x.pairs bits in
        let value : new ≡ bits / 2 ^ 14 * 2 ^ 14 + (a.host + 1) = ap (λ (o : Option Pair). by_pair o bits) pair in
        let m : Moved a.host bits new = moved a.host bits new (omega (arith, inside, few)) fit.small value in
        let place : bits % 2 ^ 14 - 2 ≡ a.part - 1 = omega (arith, has.1, part.0) in
        let named : segment_of own_fit.new ≡ fit.named = same_Some (segment_of own_fit.new) fit.named (sym (at_mapped segment_of x.part.segments (a.part - 1) own_fit.new part.1) ∙ ap (slice_get (program_of x.part).segments) (sym place) ∙ fit.found) in
        let found_pair : pair_at x.pairs (1 + (a.host - 1)) ≡ Some a = ap (pair_at x.pairs) (back a.host host.0) ∙ found-host x [] x.pairs a h has.0 in
        let there : slice_get (program_of (bound x)).segments (a.host - 1) ≡ Some (segment_of (rebound_segment x.pairs own_fit.new)) =
        bound-at x (a.host - 1) own_fit.old host.1 ∙ ap (λ (o : Option Pair). Some (segment_of (placed_segment x own_fit.old o))) found_pair ∙ ap (λ (r : Segment). Some (segment_of r)) (paired-is x own_fit.old a own_fit) in
        let down : new % 2 ^ 14 - 2 ≡ a.host - 1 = omega (arith, m.disp) in
        record {
          small = m.small;
          plain = m.plain ∙ fit.plain;
          low = omega (arith, m.disp, host.0);
          named = segment_of (rebound_segment x.pairs own_fit.new);
          found = ap (slice_get (program_of (bound x)).segments) down ∙ there;
          level = ap (λ (r : state.Segment). r.level) named ∙ fit.level ∙ sym m.level;
          above = m.level ∙ fit.above;
          begins = ap (may_begin_at (Some (segment_of (rebound_segment x.pairs own_fit.new)))) m.place ∙ ap (λ (r : state.Segment). may_begin_at (Some r) (bits / 2 ^ 20)) named ∙ fit.begins;
        }
