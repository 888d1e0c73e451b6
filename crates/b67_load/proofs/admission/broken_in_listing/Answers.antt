use Rattle.std.proofs.Common.{List, sym, refl, ap}
use Rattle.std.specs.Prelude.{slice_get}
use Rattle.b67_model.specs.Loader.{Refusal}
use Rattle.b67_load.proofs.FirstRefusal.{goes_on, refuses, couple-fits, is_done}
use Rattle.b67_load.proofs.admission.broken_in_listing.Goals as goal

pub entries-init : goal.entries-init
entries-init c = rw c.entries-entry-items.ensures.same (record { refusals = refl; couples = c.entries-entry-items.ensures.couples })

pub broken_rule-requires : goal.broken_rule-requires
broken_rule-requires c = couple-fits _ _ c.entries-entry-items.result.now c.entries.entry-index _ c.entries-test.true c.entries.invariant

pub returns-in-Some : goal.returns-in-Some
returns-in-Some c = refuses _ _ c.entries-entry-items.result.now c.entries.entry-index _ c.in-Some.rule c.entries-test.true (sym c.in-Some.ensures) c.entries.invariant

pub entries-preserved : goal.entries-preserved
entries-preserved c = goes_on _ _ c.entries-entry-items.result.now c.entries.entry-index _ c.entries-test.true (sym c.in_default.ensures) c.entries.invariant

pub returns : goal.returns
returns c = ap (λ (rs : List Refusal). slice_get rs 0) (is_done _ _ c.entries-entry-items.result.now c.entries.entry-index c.entries-test.false c.entries.invariant)
