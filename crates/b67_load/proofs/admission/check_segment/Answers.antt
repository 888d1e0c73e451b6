use Rattle.std.proofs.Common.{Some, None}
use Rattle.b67_load.proofs.Least.{told}
use Rattle.b67_load.proofs.admission.check_segment.Goals as goal

pub returns-in-Some : goal.returns-in-Some
returns-in-Some c = told c.args.file.now c.args.number c.args.segment.now _ _ _ (Some c.in-Some.broken) (rw c.as_slice.ensures at c.in_ok-listing.ensures) c.requires.entries.rise c.broken_in_listing-listed.ensures (c.wrong_entry.ensures c.args.file.now c.args.number) c.in-Some.ensures

pub returns : goal.returns
returns c = told c.args.file.now c.args.number c.args.segment.now _ _ _ None (rw c.as_slice.ensures at c.in_ok-listing.ensures) c.requires.entries.rise c.broken_in_listing-listed.ensures (c.wrong_entry.ensures c.args.file.now c.args.number) c.in-None.ensures
