use Rattle.std.proofs.Common.{◌<◌, ℕ, length, nat_lt, ◌∙◌, ap, arith}
use Rattle.b67_backing.specs.Shelf.{times}
use Rattle.b67_backing.specs.Links.{free_sectors}
use Rattle.b67_image_shape.proofs.LinkLists.{one_link, all_links}
use Rattle.b67_image_shape.proofs.links.links_marked.Goals as goal

pub link_marked-requires-clause-free : goal.link_marked-requires-clause-free
link_marked-requires-clause-free c =
    let inside : c.each.k < length c.mark_free.new.marks = omega (arith, c.each-test.true, c.requires, c.count-count.ensures, c.mark_free.ensures.length) in
    c.mark_free.ensures.each c.each.k inside ∙ ap (λ (n : ℕ). nat_lt 0 (times n (free_sectors c.args.sectors.now))) (omega arith)

pub each-preserved : goal.each-preserved
each-preserved c = c.in_ok-push.ensures.items ∙ one_link c.args.sectors.now c.count-count.result c.each.k c.link_marked.result c.each.links.items c.count-count.ensures c.each-test.true c.each.invariant c.link_marked.ensures

pub returns : goal.returns
returns c = all_links c.args.sectors.now c.count-count.result c.each.k c.each.links.items c.count-count.ensures (omega (arith, c.each-test.false)) c.each.invariant
