use Rattle.std.proofs.Common.{map, sym, arith}
use Rattle.std.proofs.lemmas.List.{map-append, length-map}
use Rattle.b67_word.specs.Tagged.{Tagged, contents}
use Rattle.b67_load.specs.Listing.{seen}
use Rattle.b67_load.proofs.Listed.{begins, goes_on, ends, breaks, words-smaller}
use Rattle.b67_load.proofs.entry.entries_of.Goals as goal

pub entries-init : goal.entries-init
entries-init c = rw c.new-entries.ensures.items (begins (contents c.args.code.now))

pub entries-smaller : goal.entries-smaller
entries-smaller c = words-smaller c.args.code.now c.entries.at c.in-Ok.op c.in-Ok.next (sym (c.in-Ok.ensures.segment (omega arith)))

pub entries-preserved : goal.entries-preserved
entries-preserved c =
    rw (c.in_ok-push-in-Ok.ensures.items, map-append) (goes_on (contents c.args.code.now) c.entries.at (map seen c.entries.entries.items) c.in-Ok.op c.in-Ok.next (sym (c.in-Ok.ensures.segment (omega arith))) c.entries.invariant)

pub returns-in-Err : goal.returns-in-Err
returns-in-Err c =
    let len = length-map c.args.code.now (λ (w : Tagged). w.bits) in
    rw (c.in_ok-push-in-Err.ensures.items, map-append) (breaks (contents c.args.code.now) c.entries.at (map seen c.entries.entries.items) c.in-Err.why (omega (arith, c.from.ensures, len)) (sym (c.in-Err.ensures.segment (omega arith))) c.entries.invariant)

pub returns : goal.returns
returns c =
    let len = length-map c.args.code.now (λ (w : Tagged). w.bits) in
    ends (contents c.args.code.now) c.entries.at (map seen c.entries.entries.items) (omega (arith, c.from.ensures, len)) c.entries.invariant
