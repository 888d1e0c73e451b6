use Rattle.std.proofs.Common.{◌≡◌, ◌∙◌, ◌+◌, ◌<◌, ℕ, [], length, take, drop, nat_lt, Ok, sym, ap, arith}
use Rattle.b67_backing.specs.Shelf.{times}
use Rattle.b67_backing.specs.Links.{free_sectors, links_in}
use Rattle.b67_backing.proofs.Linkings.{links_in-length, links_in-at}
use Rattle.b67_image.proofs.Chunks.{punched_none, punched_is, item_on, item_stop, items_end, window_length, window_at}
use Rattle.b67_image.specs.Spelling.{four_bytes}
use Rattle.b67_image.proofs.writing.put_window.Goals as goal

pub each-init : goal.each-init
each-init g c = record { later = omega arith; punched = punched_none g.K.Sink.taken c.args.sink.now c.args.hand.now (omega (arith, c.len-held.ensures.len, c.len-held.ensures.small)) }

pub link_marked-link-requires-clause-free : goal.link_marked-link-requires-clause-free
link_marked-link-requires-clause-free g c =
    let inside : c.each.k < length c.mark_free.new.marks = omega (arith, c.each-test.true, c.requires.few, c.mark_free.ensures.length) in
    c.mark_free.ensures.each c.each.k inside ∙ ap (λ (n : ℕ). nat_lt 0 (times n (free_sectors c.args.sectors.now))) (omega arith)

pub each-preserved : goal.each-preserved
each-preserved g c =
    let links = links_in c.args.sectors.now in
    let low : c.args.before + c.each.k < c.count-count.result = omega (arith, c.each-test.true, c.requires.inside, c.count-count.ensures) in
    let long : length (take c.args.many (drop c.args.before links)) ≡ c.args.many = window_length links c.args.before c.args.many (omega (arith, c.requires.inside, c.count-count.ensures, links_in-length c.args.sectors.now c.count-count.result c.count-count.ensures)) in
    record {
      later = omega (arith, c.each.invariant.later, c.in_ok-punch.ensures.cause.later);
      punched =
          item_on four_bytes g.K.Sink.taken c.args.sink.now c.each.sink c.punch.new.sink c.args.hand.now c.each.hand c.punch.new.self [] (take c.args.many (drop c.args.before links)) 0 c.each.k (omega (arith, c.each-test.true, long)) c.each.invariant.punched
          (punched_is g.K.Sink.taken c.each.sink c.punch.new.sink c.each.hand c.punch.new.self (Ok tt) _ _ (c.to_be_bytes.ensures ∙ ap four_bytes (c.link_marked-link.ensures ∙ sym (window_at links c.args.before c.args.many c.each.k c.each-test.true ∙ links_in-at c.args.sectors.now c.count-count.result (c.args.before + c.each.k) c.count-count.ensures low))) c.in_ok-punch.ensures.row);
    }

pub returns-in_err-punch-clause-row : goal.returns-in_err-punch-clause-row
returns-in_err-punch-clause-row g c =
    let links = links_in c.args.sectors.now in
    let low : c.args.before + c.each.k < c.count-count.result = omega (arith, c.each-test.true, c.requires.inside, c.count-count.ensures) in
    let long : length (take c.args.many (drop c.args.before links)) ≡ c.args.many = window_length links c.args.before c.args.many (omega (arith, c.requires.inside, c.count-count.ensures, links_in-length c.args.sectors.now c.count-count.result c.count-count.ensures)) in
    item_stop four_bytes g.K.Sink.taken c.args.sink.now c.each.sink c.punch.new.sink c.args.hand.now c.each.hand c.punch.new.self [] (take c.args.many (drop c.args.before links)) 0 c.each.k c.from_residual.result _ c.from_residual.ensures.0 (c.to_be_bytes.ensures ∙ ap four_bytes (c.link_marked-link.ensures ∙ sym (window_at links c.args.before c.args.many c.each.k c.each-test.true ∙ links_in-at c.args.sectors.now c.count-count.result (c.args.before + c.each.k) c.count-count.ensures low))) (omega (arith, c.each-test.true, long)) c.each.invariant.punched c.in_err-punch.ensures.row

pub returns-clause-row : goal.returns-clause-row
returns-clause-row g c =
    let links = links_in c.args.sectors.now in
    let long : length (take c.args.many (drop c.args.before links)) ≡ c.args.many = window_length links c.args.before c.args.many (omega (arith, c.requires.inside, c.count-count.ensures, links_in-length c.args.sectors.now c.count-count.result c.count-count.ensures)) in
    items_end four_bytes g.K.Sink.taken c.args.sink.now c.each.sink c.args.hand.now c.each.hand [] (take c.args.many (drop c.args.before links)) c.each.k (omega (arith, c.each-test.false, long)) c.each.invariant.punched
