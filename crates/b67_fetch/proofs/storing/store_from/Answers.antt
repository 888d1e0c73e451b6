use Rattle.std.proofs.Common.{sym, inr, arith, ◌≡◌, ◌∙◌, ap}
use Rattle.std.proofs.lemmas.Option.{same_Some}
use Rattle.b67_word.specs.Tagged.{Tagged}
use Rattle.b67_layout.specs.Tops.{cells}
use Rattle.b67_exec_cells.proofs.Put.{room}
use Rattle.b67_fetch.proofs.Chosen.{two_words}
use Rattle.b67_fetch.proofs.Items.{two_followed}
use Rattle.b67_fetch.proofs.Values.{here_scene, here_shown, followed_stands}
use Rattle.b67_fetch.proofs.storing.store_from.Goals as goal

pub chase_from-found-requires : goal.chase_from-found-requires
chase_from-found-requires c =
    let q = c.requires.runs in
    let from = c.requires.from in
    let two = two_followed q.storage c.args.cpu.now q.plan q.session q.member q.task from.two.0 from.two.1 q.ordered q.running (from.given q.storage q.plan q.session q.member q.task q.ordered q.stands q.running) in (
      here_scene q.storage c.args.cpu.now q.plan q.session q.member q.task q.ordered q.stands q.running,
      here_shown q.storage c.args.cpu.now q.plan q.session q.member q.task q.ordered q.stands q.running,
      from.two.1,
      from.names,
      two.top.at,
      two.top.owner,
      two.upper,
      followed_stands q.storage c.args.cpu.now q.plan q.session q.member q.task q.ordered q.stands q.running from.two.1 two.upper two.top,
    )

pub get-value-requires : goal.get-value-requires
get-value-requires c = let r = c.requires.runs in let g = room r.storage c.args.cpu.now r.plan r.session r.member r.task r.ordered r.stands r.running in omega (arith, g.last, g.under, g.inside)

pub store_to-requires-clause-one : goal.store_to-requires-clause-one
store_to-requires-clause-one c =
    let q = c.requires.runs in
    let from = c.requires.from in
    let words = two_words q.storage q.plan q.member q.task c.args.cpu.now (cells q.task) from.two (from.given q.storage q.plan q.session q.member q.task q.ordered q.stands q.running) in
    let is : from.two.0 ≡ c.get-value.result = same_Some _ _ (sym words.0 ∙ c.get-value.ensures) in
    record {
      two = from.two;
      given = from.given;
      above = from.above;
      reference = from.two.1;
      choice = inr (λ zero. omega (arith, zero, from.couple), ap (λ (w : Tagged). (from.two.1, w)) (sym is));
      zero = ap (λ (w : Tagged). w.tag) (sym is) ∙ from.operand;
      follows = c.chase_from-found.ensures from.two.1 from.names;
    }
