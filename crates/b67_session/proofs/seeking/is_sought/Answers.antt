use Rattle.std.proofs.Common.{sym, subst}
use Rattle.std.proofs.lemmas.Bool.{false≢true, not-false, not-true}
use Rattle.std.proofs.lemmas.Option.{slice_get_within}
use Rattle.b67_session.specs.declared.seeking.Sought.{Sought}
use Rattle.b67_session.specs.Search.{IsSought}
use Rattle.b67_session.proofs.Standing.{none_sought, place_sought, place_unsought, switch_sought, switch_unsought, stands_chosen, chose_some, within_sought, within_told}
use Rattle.b67_session.proofs.Turned.{who}
use Rattle.b67_session.proofs.seeking.is_sought.Goals as goal

pub returns-in-None-clause-holds : goal.returns-in-None-clause-holds
returns-in-None-clause-holds c = λ said s h e. absurd (false≢true e)

pub returns-in-None-clause-fails : goal.returns-in-None-clause-fails
returns-in-None-clause-fails c = λ said s h e. none_sought c.args.what c.args.places.now s (c.in-None.ensures.choice h.plan s h.ordered h.stands.tables)

pub place_of-requires : goal.place_of-requires
place_of-requires c =
    let i = c.requires.stands in
    let chooses = c.in-Some.ensures.choice i.stands.plan i.session i.stands.ordered i.stands.stands.tables in
    slice_get_within c.args.machine.now.tasks.rows.items c.in-Some.chosen.row chooses.0.row chooses.0.at

pub returns-in-Place-clause-holds : goal.returns-in-Place-clause-holds
returns-in-Place-clause-holds c = λ said s h e.
    subst (λ (what : Sought). IsSought what c.args.places.now s) (sym c.in-Place.is)
    (place_sought said c.args.machine.now s h c.in-Some.chosen (c.in-Some.ensures.choice h.plan s h.ordered h.stands.tables) c.args.places.now c.place_of.result c.place_of.ensures (c.is_among.ensures.holds e))

pub returns-in-Place-clause-fails : goal.returns-in-Place-clause-fails
returns-in-Place-clause-fails c = λ said s h e.
    subst (λ (what : Sought). IsSought what c.args.places.now s → ⊥) (sym c.in-Place.is)
    (place_unsought said c.args.machine.now s h c.in-Some.chosen (c.in-Some.ensures.choice h.plan s h.ordered h.stands.tables) c.args.places.now c.place_of.result c.place_of.ensures (c.is_among.ensures.fails e))

pub returns-in-Switch-clause-holds : goal.returns-in-Switch-clause-holds
returns-in-Switch-clause-holds c = λ said s h e.
    subst (λ (what : Sought). IsSought what c.args.places.now s) (sym c.in-Switch.is)
    (switch_sought said c.args.machine.now s h c.in-Some.chosen (c.in-Some.ensures.choice h.plan s h.ordered h.stands.tables) c.args.places.now (c.is_last.ensures.other (not-true c.is_last.result e)))

pub returns-in-Switch-clause-fails : goal.returns-in-Switch-clause-fails
returns-in-Switch-clause-fails c = λ said s h e.
    subst (λ (what : Sought). IsSought what c.args.places.now s → ⊥) (sym c.in-Switch.is)
    (switch_unsought said c.args.machine.now s h c.in-Some.chosen (c.in-Some.ensures.choice h.plan s h.ordered h.stands.tables) c.args.places.now (c.is_last.ensures.same (not-false c.is_last.result e)))

pub is_within-requires : goal.is_within-requires
is_within-requires c =
    let i = c.requires.stands in
    chose_some i.said c.args.machine.now i.session i.stands c.in-Some.chosen (c.in-Some.ensures.choice i.stands.plan i.session i.stands.ordered i.stands.stands.tables)

pub returns-in-Within-clause-holds : goal.returns-in-Within-clause-holds
returns-in-Within-clause-holds c = λ said s h e.
    let k = c.args.machine.now in
    let chooses = c.in-Some.ensures.choice h.plan s h.ordered h.stands.tables in
    let w = who said k s h c.in-Some.chosen chooses in
    subst (λ (what : Sought). IsSought what c.args.places.now s) (sym c.in-Within.is)
    (within_sought said k s h c.in-Some.chosen chooses c.args.places.now c.in-Within.job c.in-Within.number c.in-Within.height
    (c.is_within.ensures.holds h.storage said h.plan s w.member w.task (stands_chosen said k s h c.in-Some.chosen chooses) e))

pub returns-in-Within-clause-fails : goal.returns-in-Within-clause-fails
returns-in-Within-clause-fails c = λ said s h e is.
    let k = c.args.machine.now in
    let chooses = c.in-Some.ensures.choice h.plan s h.ordered h.stands.tables in
    let w = who said k s h c.in-Some.chosen chooses in
    let told = within_told said k s h c.in-Some.chosen chooses c.args.places.now c.in-Within.job c.in-Within.number c.in-Within.height (subst (λ (what : Sought). IsSought what c.args.places.now s) c.in-Within.is is) in
    c.is_within.ensures.fails h.storage said h.plan s w.member w.task (stands_chosen said k s h c.in-Some.chosen chooses) e told.0 told.1 told.2

pub returns-in-Deepest-clause-holds : goal.returns-in-Deepest-clause-holds
returns-in-Deepest-clause-holds c = λ said s h e. absurd (false≢true e)

pub returns-in-Deepest-clause-fails : goal.returns-in-Deepest-clause-fails
returns-in-Deepest-clause-fails c = λ said s h e is. subst (λ (what : Sought). IsSought what c.args.places.now s) c.in-Deepest.is is
