use Rattle.std.proofs.Common.{◌≡◌, ◌+◌, ◌-◌, ◌^◌, ◌<◌, ◌≤◌, ◌∙◌, sym, ap, arith, Some, List, length, slice_set}
use Rattle.b67_area.specs.declared.kinds.Info.{Info}
use Rattle.b67_area.specs.Spans.{Span, area_at}
use Rattle.b67_area.specs.Directory.{IsDirectory}
use Rattle.b67_area.specs.Words.{head_word, tail_word}
use Rattle.b67_area.specs.Walk.{link_high, with_hole}
use Rattle.b67_area.proofs.Keeps.{area_here}
use Rattle.b67_area.proofs.Frees.{leaves_link}
use Rattle.b67_area.proofs.Shrinks.{bounds, shrinks, shrinks_outside, area_at-shortened}
use Rattle.b67_area.proofs.directory.Areas.shrink.Goals.{After-vacated-v, After-set-2}
use Rattle.b67_area.proofs.directory.Areas.shrink.Goals as goal

pub overflow_sub-address : goal.overflow_sub-address
overflow_sub-address c = let (ss, a, d, e, fits) = c.requires.area in (area_here c.args.core.now c.args.self.now.low ss c.args.address a d e).0

pub info_at-whole-requires : goal.info_at-whole-requires
info_at-whole-requires c = let (ss, a, d, e, fits) = c.requires.area in (a, (area_here c.args.core.now c.args.self.now.low ss c.args.address a d e).1)

-- what the area's directory tells of the words that are left
record Shrinks (c : After-vacated-v) (ss : List Span) (a : Info) : Type 0 where
  whole : c.info_at-whole.result ≡ a
  fits : c.args.words ≤ a.words

context : (c : After-vacated-v) (ss : List Span) (a : Info) → IsDirectory c.args.core.now c.args.self.now.low ss → area_at c.args.self.now.low ss c.args.address ≡ Some a → Shrinks c ss a
context c ss a d e =
    let (ss', a', d', e', fits) = c.requires.area in
    let whole = c.info_at-whole.ensures a (area_here c.args.core.now c.args.self.now.low ss c.args.address a d e).1 in
    let other = c.info_at-whole.ensures a' (area_here c.args.core.now c.args.self.now.low ss' c.args.address a' d' e').1 in
    record { whole = whole; fits = let w = ap (λ (i : Info). i.words) (sym other ∙ whole) in omega (arith, w, fits) }

known : (c : After-vacated-v) → (a : Info) × (c.info_at-whole.result ≡ a) × (c.args.words < 2 ^ 20) × (c.vacated-v.result.at + (c.args.words + 2) ≤ length c.args.core.now) × (c.args.words + 2 ≤ c.vacated-v.result.size) × (c.vacated-v.result.at + (c.args.words + 1) < length c.args.core.now) × (a.owner < 2 ^ 20) × (a.kept < 2 ^ 20) × (length c.args.core.now < 2 ^ 20)
known c =
    let (ss, a, d, e, fits) = c.requires.area in
    let k = context c ss a d e in
    let b = bounds c.args.core.now c.args.self.now.low ss c.args.address a c.vacated-v.result d (c.vacated-v.ensures.found c.args.self.now.low ss a d e) c.args.words c.requires.some k.fits in
    (a, k.whole, b.0, b.1, b.2, b.3, b.4, b.5, d.small)

pub overflow_add-taken : goal.overflow_add-taken
overflow_add-taken c = let k = known c in omega (arith, k.2)

pub overflow_add-v : goal.overflow_add-v
overflow_add-v c = let k = known (goal.at.overflow_add-v c).After-vacated-v in omega (arith, k.3, k.8)

pub overflow_sub-v : goal.overflow_sub-v
overflow_sub-v c = (known (goal.at.overflow_sub-v c).After-vacated-v).4

pub head-requires-clause-words : goal.head-requires-clause-words
head-requires-clause-words c = (known (goal.at.head-requires-clause-words c).After-vacated-v).2

pub head-requires-clause-owner : goal.head-requires-clause-owner
head-requires-clause-owner c = let k = known (goal.at.head-requires-clause-owner c).After-vacated-v in let w = ap (λ (i : Info). i.owner) k.1 in omega (arith, w, k.6)

pub tail-requires-clause-words : goal.tail-requires-clause-words
tail-requires-clause-words c = (known (goal.at.tail-requires-clause-words c).After-vacated-v).2

pub tail-requires-clause-kept : goal.tail-requires-clause-kept
tail-requires-clause-kept c = let k = known (goal.at.tail-requires-clause-kept c).After-vacated-v in let w = ap (λ (i : Info). i.kept) k.1 in omega (arith, w, k.7)

pub set-requires-2 : goal.set-requires-2
set-requires-2 c = let k = known (goal.at.set-requires-2 c).After-vacated-v in omega (arith, k.5, c.set.ensures.len, c.leave.ensures.len)

-- core after the call
left_core : (c : After-set-2) (ss : List Span) (a : Info) (d : IsDirectory c.args.core.now c.args.self.now.low ss) (e : area_at c.args.self.now.low ss c.args.address ≡ Some a) → c.info_at-whole.result ≡ a → let v = c.vacated-v.result in let t = c.vacated-v.ensures.found c.args.self.now.low ss a d e in
    c.set-2.new.self ≡ slice_set (slice_set (with_hole c.args.core.now v.before (link_high t.below) (v.at + (c.args.words + 2)) (v.size - (c.args.words + 2)) v.next) v.at (head_word (record a { words = c.args.words }))) (v.at + (c.args.words + 1)) (tail_word (record a { words = c.args.words }))
left_core c ss a d e w =
    let t = c.vacated-v.ensures.found c.args.self.now.low ss a d e in
    let l = leaves_link c.args.core.now c.args.self.now.low ss c.args.address a c.vacated-v.result d t in
    let n = c.leave.ensures.value (link_high t.below) l.0 l.1 l.2 in
    cc

pub returns-clause-row : goal.returns-clause-row
returns-clause-row c = λ ss a d e.
    let k = context (goal.at.returns-clause-row c).After-vacated-v ss a d e in
    shrinks c.args.core.now c.args.self.now.low ss c.args.address a c.vacated-v.result d (c.vacated-v.ensures.found c.args.self.now.low ss a d e) c.args.words c.requires.some k.fits c.set-2.new.self (left_core c ss a d e k.whole)

pub returns-clause-outside : goal.returns-clause-outside
returns-clause-outside c = λ ss a d e.
    let k = context (goal.at.returns-clause-outside c).After-vacated-v ss a d e in
    shrinks_outside c.args.core.now c.args.self.now.low ss c.args.address a c.vacated-v.result d (c.vacated-v.ensures.found c.args.self.now.low ss a d e) c.args.words c.requires.some k.fits c.set-2.new.self (left_core c ss a d e k.whole)

pub returns-clause-areas : goal.returns-clause-areas
returns-clause-areas c = grind (arith, context, area_at-shortened)
