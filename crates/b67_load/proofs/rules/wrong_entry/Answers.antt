use Rattle.std.proofs.Common.{refl, sym, ◌∙◌}
use Rattle.b67_load.specs.Broken.{listed}
use Rattle.b67_load.proofs.FirstRefusal.{entry-here, wrong-goes_on}
use Rattle.b67_load.proofs.rules.wrong_entry.Goals as goal

pub entries-init : goal.entries-init
entries-init c = ((0, c.requires), λ file number. record { refusals = refl })

pub has_start-requires : goal.has_start-requires
has_start-requires c = rw (c.place_of_entry-place.ensures, c.as_slice-entry-items.ensures) ((entry-here c.args.segment.now.entries c.entries.entry-index 0 (rw c.as_slice-entry-items.ensures at c.entries-test.true) c.entries.invariant.0).0)

pub entries-preserved : goal.entries-preserved
entries-preserved c =
    let start = sym c.has_start.ensures ∙ c.if-not-has_start.false in
    let inside = rw c.as_slice-entry-items.ensures at c.entries-test.true in
    let rest = entry-here c.args.segment.now.entries c.entries.entry-index 0 inside c.entries.invariant.0 in (
      rest.1,
      λ file number. wrong-goes_on (listed file number c.args.segment.now c.args.listing.now) c.args.segment.now.entries c.entries.entry-index 0 inside
          (rw (c.place_of_entry-place.ensures, c.as_slice-entry-items.ensures) at start) (c.entries.invariant.1 file number),
    )
