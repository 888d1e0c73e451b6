use Rattle.b67_area.specs.Walk.{link_high}
use Rattle.b67_area.proofs.Frees.{below_hole, leaves_link, freed_alone, outside_alone, freed_joined, outside_joined}
use Rattle.b67_area.proofs.Laws.{area_at-without}
use Rattle.b67_area.proofs.directory.Areas.free.Goals as goal

pub returns-then-v-clause-row : goal.returns-then-v-clause-row
returns-then-v-clause-row c = λ ss a d e.
    let t = c.vacated-v.ensures.found c.args.self.now.low ss a d e in
    let b = below_hole c.args.core.now c.args.self.now.low ss c.args.address a c.vacated-v.result d t c.if-v.true in
    freed_joined c.args.core.now c.args.self.now.low ss c.args.address a c.vacated-v.result d t b.0 b.1 b.2 c.set.new.self cc

pub returns-then-v-clause-outside : goal.returns-then-v-clause-outside
returns-then-v-clause-outside c = λ ss a d e.
    let t = c.vacated-v.ensures.found c.args.self.now.low ss a d e in
    let b = below_hole c.args.core.now c.args.self.now.low ss c.args.address a c.vacated-v.result d t c.if-v.true in
    outside_joined c.args.core.now c.args.self.now.low ss c.args.address a c.vacated-v.result d t b.0 b.1 b.2 c.set.new.self cc

pub returns-else-v-clause-row : goal.returns-else-v-clause-row
returns-else-v-clause-row c = λ ss a d e.
    let t = c.vacated-v.ensures.found c.args.self.now.low ss a d e in
    let l = leaves_link c.args.core.now c.args.self.now.low ss c.args.address a c.vacated-v.result d t in
    freed_alone c.args.core.now c.args.self.now.low ss c.args.address a c.vacated-v.result d t c.if-v.false c.leave.new.core (c.leave.ensures.value (link_high t.below) l.0 l.1 l.2)

pub returns-else-v-clause-outside : goal.returns-else-v-clause-outside
returns-else-v-clause-outside c = λ ss a d e.
    let t = c.vacated-v.ensures.found c.args.self.now.low ss a d e in
    let l = leaves_link c.args.core.now c.args.self.now.low ss c.args.address a c.vacated-v.result d t in
    outside_alone c.args.core.now c.args.self.now.low ss c.args.address a c.vacated-v.result d t c.if-v.false c.leave.new.core (c.leave.ensures.value (link_high t.below) l.0 l.1 l.2)

pub returns-then-v-clause-areas : goal.returns-then-v-clause-areas
returns-then-v-clause-areas c = λ ss x. area_at-without c.args.self.now.low c.args.address ss x

pub returns-else-v-clause-areas : goal.returns-else-v-clause-areas
returns-else-v-clause-areas c = λ ss x. area_at-without c.args.self.now.low c.args.address ss x
