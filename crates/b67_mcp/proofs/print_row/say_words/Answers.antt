use Rattle.std.proofs.Common.{List, length, ap, arith}
use Rattle.b67_word.specs.Tagged.{Tagged}
use Rattle.b67_mcp.proofs.Texts.{whole_row, part_row, short_range}
use Rattle.b67_mcp.proofs.print_row.say_words.Goals as goal

pub returns-clause-whole : goal.returns-clause-whole
returns-clause-whole g c =
    let r = c.running_row-task in
    whole_row g.K.Sink.taken c.args.paper.now c.say_row.new.paper c.args.machine.now c.say_row.result c.words.result.now _ c.words.ensures c.args.printed.now c.say_row.new.printed r.result.job r.result.number r.ensures.job r.ensures.number c.say_row.ensures.whole

pub returns-clause-part : goal.returns-clause-part
returns-clause-part g c =
    let r = c.running_row-task in
    part_row g.K.Sink.taken c.args.paper.now c.say_row.new.paper c.args.machine.now c.say_row.result c.words.result.now _ c.words.ensures c.args.printed.now c.say_row.new.printed r.result.job r.result.number r.ensures.job r.ensures.number c.say_row.ensures.part

pub say_row-requires-clause-short : goal.say_row-requires-clause-short
say_row-requires-clause-short g c = omega (arith, ap (λ (l : List Tagged). length l) c.words.ensures, short_range c.args.machine.now.cpu.core c.args.at c.args.count, c.ranges.count)
