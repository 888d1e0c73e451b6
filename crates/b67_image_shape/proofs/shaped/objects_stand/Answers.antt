use Rattle.std.proofs.Common.{◌∙◌}
use Rattle.b67_layout_shown.specs.Machines.{sight_of}
use Rattle.b67_image_shape.proofs.Shaping.{low_enough, links_inside, links_few, kept_told}
use Rattle.b67_image_shape.proofs.shaped.objects_stand.Goals as goal

pub are_kept-requires-clause-low : goal.are_kept-requires-clause-low
are_kept-requires-clause-low c = low_enough c.args.machine.now c.requires.front

pub are_kept-requires-clause-inside : goal.are_kept-requires-clause-inside
are_kept-requires-clause-inside c = c.requires.front.fixed.inside

pub are_kept-requires-clause-codes : goal.are_kept-requires-clause-codes
are_kept-requires-clause-codes c = (c.tables_mark.ensures (sight_of c.args.machine.now) c.args.machine.now.areas.low c.args.machine.now.areas.size c.args.kinds.now c.requires.front.tables c.requires.front.fixed c.requires.front.stacks c.requires.kinds).1

pub are_kept-requires-clause-kinds : goal.are_kept-requires-clause-kinds
are_kept-requires-clause-kinds c = c.requires.kinds.many

pub are_kept-requires-clause-links : goal.are_kept-requires-clause-links
are_kept-requires-clause-links c = links_inside c.args.machine.now.sectors c.requires.shelf.0 c.as_slice.result.now c.sectors_tell_chains.ensures c.requires.shelf.1 (c.as_slice.ensures.value ∙ c.in_ok-links.ensures)

pub are_kept-requires-clause-few : goal.are_kept-requires-clause-few
are_kept-requires-clause-few c = links_few c.args.machine.now.sectors c.requires.shelf.0 c.as_slice.result.now c.requires.shelf.1 (c.as_slice.ensures.value ∙ c.in_ok-links.ensures)

pub returns : goal.returns
returns c =
    let k = c.args.machine.now in
    kept_told c.args.machine.now c.args.kinds.now c.as_slice.result.now c.in_ok-kept.kept c.requires.shelf.0 c.requires.shelf.1 c.objects_are_tested.ensures
    (c.tables_mark.ensures (sight_of k) k.areas.low k.areas.size c.args.kinds.now c.requires.front.tables c.requires.front.fixed c.requires.front.stacks c.requires.kinds).0 (c.as_slice.ensures.value ∙ c.in_ok-links.ensures) c.in_ok-kept.ensures.yes c.in_ok-kept.ensures.not
