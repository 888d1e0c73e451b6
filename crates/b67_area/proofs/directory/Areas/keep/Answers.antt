use Rattle.b67_area.proofs.Keeps.{area_here, keeps, keeps_outside}
use Rattle.b67_area.proofs.Laws.{area_at-keeping}
use Rattle.b67_area.proofs.directory.Areas.keep.Goals as goal

pub overflow_sub-address : goal.overflow_sub-address
overflow_sub-address c = let (ss, a, d, e) = c.requires.area in (area_here c.args.core.now c.args.self.now.low ss c.args.address a d e).0

pub words_of-words-requires : goal.words_of-words-requires
words_of-words-requires c = let (ss, a, d, e) = c.requires.area in (a, (area_here c.args.core.now c.args.self.now.low ss c.args.address a d e).1)

pub overflow_sub-address-2 : goal.overflow_sub-address-2
overflow_sub-address-2 c = let (ss, a, d, e) = c.requires.area in (area_here c.args.core.now c.args.self.now.low ss c.args.address a d e).0

pub returns-clause-row : goal.returns-clause-row
returns-clause-row c = λ ss a d e.
    let w = c.words_of-words.ensures.value a (area_here c.args.core.now c.args.self.now.low ss c.args.address a d e).1 in
    keeps c.args.core.now c.args.self.now.low ss c.args.address a d e c.args.first c.requires.first c.set.new.self cc

pub returns-clause-outside : goal.returns-clause-outside
returns-clause-outside c = λ ss a d e.
    let w = c.words_of-words.ensures.value a (area_here c.args.core.now c.args.self.now.low ss c.args.address a d e).1 in
    keeps_outside c.args.core.now c.args.self.now.low ss c.args.address a d e c.args.first c.requires.first c.set.new.self cc

pub returns-clause-areas : goal.returns-clause-areas
returns-clause-areas c = λ ss x. area_at-keeping c.args.self.now.low c.args.address c.args.first ss x
