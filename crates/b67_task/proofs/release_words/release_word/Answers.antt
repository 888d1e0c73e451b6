use Rattle.std.proofs.Common.{◌∙◌}
use Rattle.b67_layout.specs.Session.{with_objects}
use Rattle.b67_task.specs.Released.{storage_released}
use Rattle.b67_task.proofs.Remaining.{one_left, copy_none, tag_none, other_none, rest, drops, remains_one, remains_none, in_all}
use Rattle.b67_task.proofs.release_words.release_word.Goals as goal

pub returns-then-tag-ne5-clause-stands : goal.returns-then-tag-ne5-clause-stands
returns-then-tag-ne5-clause-stands c = λ x told p left upto m l inside.
    (x, left, m, remains_none x c.args.cpu.now c.args.areas.now c.args.sectors.now told p left c.args.at upto m l c.get-word.result c.get-word.ensures (tag_none c.get-word.result (λ five. c.if-tag-ne5.true (c.tag.ensures.value ∙ five))))

pub release_original-requires : goal.release_original-requires
release_original-requires c =
    let (x, told, p, left, upto, m, l, inside) = c.requires.left in
    let d = c.in-Some.ensures.some in
    let o = one_left x c.args.cpu.now c.args.areas.now c.args.sectors.now told p left c.args.at upto m l c.get-word.result c.in-Some.original c.get-word.ensures d.0 d.1 c.if-not-original.true inside in
    (x, told, with_objects left p, o.0, m, in_all x c.args.cpu.now c.args.areas.now c.args.sectors.now told p left c.args.at upto m l o.0 o.1, o.3)

pub returns-then-not-original-clause-stands : goal.returns-then-not-original-clause-stands
returns-then-not-original-clause-stands c = λ x told p left upto m l inside.
    let cpu = c.args.cpu.now in
    let areas = c.args.areas.now in
    let table = c.args.sectors.now in
    let at = c.args.at in
    let d = c.in-Some.ensures.some in
    let o = one_left x cpu areas table told p left at upto m l c.get-word.result c.in-Some.original c.get-word.ensures d.0 d.1 c.if-not-original.true inside in
    let there = in_all x cpu areas table told p left at upto m l o.0 o.1 in
    let e = c.release_original.ensures in (
      storage_released x o.0,
      rest x cpu areas table told p left at upto m l o.0 o.1 o.2,
      e.stands x told (with_objects left p) o.0 _ m o.3 (drops x cpu areas table told p left at upto m l o.0 o.1 o.2),
      remains_one x cpu areas table told p left at upto m l o.0 o.1 o.2 c.release_original.new.cpu.core (e.below x told (with_objects left p) o.0 m there o.3),
    )

pub returns-else-not-original-clause-stands : goal.returns-else-not-original-clause-stands
returns-else-not-original-clause-stands c = λ x told p left upto m l inside.
    let d = c.in-Some.ensures.some in
    (x, left, m, remains_none x c.args.cpu.now c.args.areas.now c.args.sectors.now told p left c.args.at upto m l c.get-word.result c.get-word.ensures (copy_none c.get-word.result c.in-Some.original d.0 d.1 c.if-not-original.false))

pub returns-in-None-clause-stands : goal.returns-in-None-clause-stands
returns-in-None-clause-stands c = λ x told p left upto m l inside.
    (x, left, m, remains_none x c.args.cpu.now c.args.areas.now c.args.sectors.now told p left c.args.at upto m l c.get-word.result c.get-word.ensures (other_none c.get-word.result c.from_word.result c.from_word.ensures.known c.in-None.is))
