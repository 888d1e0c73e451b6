use Rattle.std.proofs.Common.{subst}
use Rattle.std.proofs.lemmas.Bool.{not-true}
use Rattle.b67_session.specs.declared.seeking.Sought.{Sought}
use Rattle.b67_session.specs.Search.{IsSought}
use Rattle.b67_session.proofs.Standing.{place_elsewhere, no_switch, within_elsewhere}
use Rattle.b67_session.proofs.seeking.is_elsewhere.Goals as goal

pub returns-in-Place : goal.returns-in-Place
returns-in-Place c = λ e said s m t n h last runs is.
    c.is_among.ensures.fails (not-true c.is_among.result e)
    (place_elsewhere said c.args.machine.now s m t n h last runs c.args.places.now (subst (λ (what : Sought). IsSought what c.args.places.now s) c.in-Place.is is))

pub returns-in-Switch : goal.returns-in-Switch
returns-in-Switch c = λ e said s m t n h last runs is. no_switch said c.args.machine.now s m t n h last runs c.args.places.now (subst (λ (what : Sought). IsSought what c.args.places.now s) c.in-Switch.is is)

pub returns-in-Within : goal.returns-in-Within
returns-in-Within c = λ e said s m t n h last runs is.
    let w = within_elsewhere said c.args.machine.now s m t n h last runs c.args.places.now c.in-Within.job c.in-Within.number c.in-Within.height (subst (λ (what : Sought). IsSought what c.args.places.now s) c.in-Within.is is) in
    c.is_last_within.ensures (not-true c.is_last_within.result e) w.0 w.1 w.2

pub returns-in-Deepest : goal.returns-in-Deepest
returns-in-Deepest c = λ e said s m t n h last runs is. subst (λ (what : Sought). IsSought what c.args.places.now s) c.in-Deepest.is is
