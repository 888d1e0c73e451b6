-- The words, marks and returns of an opening state.
use Rattle.std.proofs.Common.{◌≡◌, ℕ, zero, suc, ◌+◌, ◌<◌, ◌≤◌, List, [], ◌∷◌, ◌++◌, length, refl, ap, subst, inl, inr, arith}
use Rattle.b67_lemmas.specs.Lists.{Has}
use Rattle.b67_lemmas.proofs.Members.{has_append_cases, has_append_left, has_append_right, has_reverse, has_reverse_back}
use Rattle.b67_model.specs.Words as Words
use Rattle.b67_model.specs.Common.{Word, Operand, Name, Ref, Row, Element, Original, Proc, Intrinsic, Segment, SessionJob, Program, segment_words, originals, opened}
use Rattle.b67_law.specs.Opening.{Opening, opened_from}
use Rattle.b67_law.specs.Opened.{LoaderMakes, MadeByLoader, OpenedByLoader, OpeningsMadeByLoader}

-- a number of these
pub record Numbered (kind : ℕ → Word) (low many : ℕ) (w : Word) : Type 0 where
  pub number : ℕ
  pub is : kind number ≡ w
  pub from_low : low ≤ number
  pub below : number < low + many

segment_numbered : (n : ℕ) (segments : List Segment) (w : Word) → Has (segment_words n segments) w → Numbered Words.Segment n (length segments) w
segment_numbered n [] w h = absurd h
segment_numbered n (s ∷ more) w h = grind (arith, segment_numbered (n + 1) more w)

original_numbered : (n : ℕ) (rows : List (List ℕ)) (w : Word) → Has (originals n rows) w → Numbered Original n (length rows) w
original_numbered n [] w h = absurd h
original_numbered n (r ∷ more) w h = grind (arith, original_numbered (n + 1) more w)

segment_stands : (n : ℕ) (segments : List Segment) (k number : ℕ) → k < length segments → n + k ≡ number → Has (segment_words n segments) (Words.Segment number)
segment_stands n [] k number few is = absurd (omega (arith, few))
segment_stands n (s ∷ more) zero number few is = inl (ap Words.Segment (omega (arith, is)))
segment_stands n (s ∷ more) (suc k) number few is = inr (segment_stands (n + 1) more k number (omega (arith, few)) (omega (arith, is)))

original_stands : (n : ℕ) (rows : List (List ℕ)) (k number : ℕ) → k < length rows → n + k ≡ number → Has (originals n rows) (Original number)
original_stands n [] k number few is = absurd (omega (arith, few))
original_stands n (r ∷ more) zero number few is = inl (ap Original (omega (arith, is)))
original_stands n (r ∷ more) (suc k) number few is = inr (original_stands (n + 1) more k number (omega (arith, few)) (omega (arith, is)))

only : (p : Program) (w : Word) → Has (segment_words 1 p.segments ++ originals 1 p.rows) w → LoaderMakes p w
only p w h = elim (has_append_cases (segment_words 1 p.segments) (originals 1 p.rows) w h) [
  | inl a ↦
      let r = segment_numbered 1 p.segments w a in
      let bounds : LoaderMakes p (Words.Segment r.number) = (omega (arith, r.from_low), omega (arith, r.below)) in
      subst (LoaderMakes p) r.is bounds
  | inr b ↦
      let r = original_numbered 1 p.rows w b in
      let bounds : LoaderMakes p (Original r.number) = (omega (arith, r.from_low), omega (arith, r.below)) in
      subst (LoaderMakes p) r.is bounds
]

all : (p : Program) (w : Word) → LoaderMakes p w → Has (segment_words 1 p.segments ++ originals 1 p.rows) w
all p (Operand bits) m = absurd m
all p (Name couple) m = absurd m
all p (Ref frame offset) m = absurd m
all p (Row array) m = absurd m
all p (Element array index) m = absurd m
all p (Original zero) m = absurd (omega (arith, m.0))
all p (Original (suc n)) m = has_append_right (segment_words 1 p.segments) (originals 1 p.rows) (Original (suc n)) (original_stands 1 p.rows n (suc n) (omega (arith, m.1)) (omega arith))
all p (Proc segment level place) m = absurd m
all p (Intrinsic number) m = absurd m
all p (Words.Segment zero) m = absurd (omega (arith, m.0))
all p (Words.Segment (suc n)) m = has_append_left (segment_words 1 p.segments) (originals 1 p.rows) (Words.Segment (suc n)) (segment_stands 1 p.segments n (suc n) (omega (arith, m.1)) (omega arith))

loader_made : (number stack : ℕ) (o : Opening) → MadeByLoader o.program (opened number o.program stack o.limit o.numbers)
loader_made number stack o = grind (arith, only, has_reverse_back, has_reverse, all)

each_made : (number stack : ℕ) (openings : List Opening) (m : SessionJob) → Has (opened_from number stack openings) m → OpenedByLoader openings m
each_made number stack [] m h = absurd h
each_made number stack (o ∷ more) m h = elim h [
  | inl is ↦ record { opens = o; among = inl refl; made = subst (λ (x : SessionJob). MadeByLoader o.program x) is (loader_made number stack o) }
  | inr r ↦ let k = each_made (number + 1) stack more m r in record { opens = k.opens; among = inr k.among; made = k.made }
]

pub openings_are_made_by_the_loader : OpeningsMadeByLoader
openings_are_made_by_the_loader stack quantum switches openings m h = each_made 1 stack openings m h
