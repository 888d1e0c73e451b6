use Rattle.std.proofs.Common.{◌≡◌, ◌+◌, ◌-◌, List, sym, ap, arith, slice_set, lit<}
use Rattle.b67_area.specs.Spans.{Span, address, fresh}
use Rattle.b67_area.specs.Words.{head_word, tail_word}
use Rattle.b67_area.specs.Directory.{IsDirectory, IsInfo}
use Rattle.b67_area.specs.Walk.{link_high, with_hole}
use Rattle.b67_area.proofs.Holes.{spot-none, fill-none}
use Rattle.b67_area.proofs.Places.{hole_link, placed, found, outside}
use Rattle.b67_area.proofs.Laws.{area_at-fill, spot-hole}
use Rattle.b67_area.proofs.directory.Areas.place.Goals.{After-struct_known-in-Some-3-1}
use Rattle.b67_area.proofs.directory.Areas.place.Goals as goal

pub returns-in-None-clause-row : goal.returns-in-None-clause-row
returns-in-None-clause-row c = grind (arith, spot-none, fill-none)

-- core after the call
left_core : (c : After-struct_known-in-Some-3-1) (ss : List Span) (d : IsDirectory c.args.core.now c.args.self.now.low ss) → let t = c.in-Some.ensures.found c.args.self.now.low ss d in let f = c.in-Some.f in let a = fresh c.args.kind c.args.words c.args.owner in c.set-in-Some.new.self ≡ slice_set (slice_set (with_hole c.args.core.now f.before (link_high t.below) (f.at + (c.args.words + 2)) (f.room - (c.args.words + 2)) f.next) f.at (head_word a)) (f.at + (c.args.words + 1)) (tail_word a)
left_core c ss d =
    let t = c.in-Some.ensures.found c.args.self.now.low ss d in
    let f = c.in-Some.ensures.facts in
    let e = c.leave.ensures.value (link_high t.below) c.in-Some.f.at (omega (arith, f.fits, f.small, f.room)) (hole_link c.args.core.now (c.args.words + 2) c.args.self.now.low ss c.in-Some.f d t) in
    cc

pub returns-in-Some-clause-row : goal.returns-in-Some-clause-row
returns-in-Some-clause-row c = λ ss d.
    let t = c.in-Some.ensures.found c.args.self.now.low ss d in
    let f = c.in-Some.f in
    let a = fresh c.args.kind c.args.words c.args.owner in
    let i : IsInfo a = record { words = c.requires.words; owner = c.requires.owner; kept = lit< tt } in
    (sym (ap address (found c.args.core.now c.args.self.now.low ss a f d t c.set-in-Some.new.self i (left_core c ss d))), placed c.args.core.now c.args.self.now.low ss a f d t c.set-in-Some.new.self i (left_core c ss d))

pub returns-in-Some-clause-outside : goal.returns-in-Some-clause-outside
returns-in-Some-clause-outside c = λ ss d.
    let t = c.in-Some.ensures.found c.args.self.now.low ss d in
    let a = fresh c.args.kind c.args.words c.args.owner in
    let i : IsInfo a = record { words = c.requires.words; owner = c.requires.owner; kept = lit< tt } in
    outside c.args.core.now c.args.self.now.low ss a c.in-Some.f d t c.set-in-Some.new.self i (left_core c ss d)

pub returns-in-None-clause-areas : goal.returns-in-None-clause-areas
returns-in-None-clause-areas c = grind (arith, spot-none, area_at-fill)

pub returns-in-Some-clause-areas : goal.returns-in-Some-clause-areas
returns-in-Some-clause-areas c = λ ss x d.
    let t = c.in-Some.ensures.found c.args.self.now.low ss d in
    let a = fresh c.args.kind c.args.words c.args.owner in
    let i : IsInfo a = record { words = c.requires.words; owner = c.requires.owner; kept = lit< tt } in
    rw (found c.args.core.now c.args.self.now.low ss a c.in-Some.f d t c.set-in-Some.new.self i (left_core c ss d)) at (area_at-fill a c.args.self.now.low ss x)

pub returns-in-Some-clause-taken : goal.returns-in-Some-clause-taken
returns-in-Some-clause-taken c = λ ss i d low high.
    let t = c.in-Some.ensures.found c.args.self.now.low ss d in
    let a = fresh c.args.kind c.args.words c.args.owner in
    let k : IsInfo a = record { words = c.requires.words; owner = c.requires.owner; kept = lit< tt } in
    spot-hole (c.args.words + 2) c.args.self.now.low ss c.in-Some.f.at i (found c.args.core.now c.args.self.now.low ss a c.in-Some.f d t c.set-in-Some.new.self k (left_core c ss d)) (omega arith) (omega arith)
