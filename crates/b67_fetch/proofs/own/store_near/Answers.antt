use Rattle.std.proofs.Common.{◌≡◌, ℕ, ◌<◌, ◌∙◌, length, sym, subst, arith}
use Rattle.b67_model.specs.Words.{Word}
use Rattle.b67_stack.specs.declared.Cpu.{Cpu}
use Rattle.b67_exec_cells.proofs.Put.{room}
use Rattle.b67_fetch.specs.Fetches.{IsFollowed}
use Rattle.b67_fetch.specs.Stores.{StoresFrom, StoresThrough, stored}
use Rattle.b67_fetch.proofs.Values.{here_scene, here_shown, followed_stands}
use Rattle.b67_fetch.proofs.Items.{two_followed}
use Rattle.b67_fetch.proofs.Owns.{MadeSo, own_inside, own_stored, operand_through, stuffed_through}
use Rattle.b67_fetch.proofs.own.store_near.Goals.{Else-tag-ne0, Else-tag-ne0-2, Then-stuffed-ne0}
use Rattle.b67_fetch.proofs.own.store_near.Goals as goal

-- the word on top is followed
upper : (c : Else-tag-ne0) → (v : Word) × IsFollowed c.requires.storage c.requires.plan c.requires.member c.requires.task c.in-Ok.two.1 v
upper c =
    let q = c.requires in
    let two = two_followed q.storage c.args.cpu.now q.plan q.session q.member q.task c.in-Ok.two.0 c.in-Ok.two.1 q.ordered q.running (c.in-Ok.ensures.cells q.storage q.plan q.session q.member q.task q.ordered q.stands q.running) in
    (two.upper, two.top)

-- the operand under it is stored at an address
inside_at : (c : Else-tag-ne0) (at : ℕ) → StoresThrough c.args.cpu.now c.in-Ok.two.1 at → at < length c.args.cpu.now.core
inside_at c at through = own_inside c.args.cpu.now c.args.next c.args.keeps c.in-Ok.two.0 c.in-Ok.two.1 c.in-Ok.ensures.cells (sym c.tag.ensures.value ∙ c.if-tag-ne0.false) at through c.requires

stored_at : (c : Else-tag-ne0) (at : ℕ) → StoresThrough c.args.cpu.now c.in-Ok.two.1 at → (new : Cpu) → new ≡ stored c.args.cpu.now at c.in-Ok.two.0 c.args.keeps c.args.next → MadeSo c.args.cpu.now c.args.next c.args.keeps new
stored_at c at through = own_stored c.args.cpu.now c.args.next c.args.keeps c.in-Ok.two.0 c.in-Ok.two.1 c.in-Ok.ensures.cells (sym c.tag.ensures.value ∙ c.if-tag-ne0.false) at through c.in-Ok.ensures.above

near : (c : Else-tag-ne0-2) → StoresThrough c.args.cpu.now c.in-Ok.two.1 c.near_place-near.result
near c = operand_through c.args.cpu.now c.in-Ok.two.1 c.near_place-near.result (c.near_place-near.ensures.couple c.if-near-ne0.true) (c.near_place-near.ensures.names c.if-near-ne0.true) c.get.result c.get.ensures (sym c.tag-then-near-ne0.ensures.value ∙ c.if-tag-ne0-2.false)

stuffed : (c : Then-stuffed-ne0) → (v : Word) → IsFollowed c.requires.storage c.requires.plan c.requires.member c.requires.task c.in-Ok.two.1 v → StoresThrough c.args.cpu.now c.in-Ok.two.1 c.stuffed_operand-stuffed.result
stuffed c v followed = let q = c.requires in stuffed_through q.storage c.args.cpu.now q.plan q.session q.member q.task q.ordered q.stands q.running c.in-Ok.two.1 v followed c.stuffed_operand-stuffed.result (c.stuffed_operand-stuffed.ensures c.if-stuffed-ne0.true)

pub near_place-near-requires : goal.near_place-near-requires
near_place-near-requires c =
    let q = c.requires in
    (here_scene q.storage c.args.cpu.now q.plan q.session q.member q.task q.ordered q.stands q.running, here_shown q.storage c.args.cpu.now q.plan q.session q.member q.task q.ordered q.stands q.running)

pub get-requires : goal.get-requires
get-requires c = c.near_place-near.ensures.inside c.if-near-ne0.true

pub put-requires-clause-at : goal.put-requires-clause-at
put-requires-clause-at c = let g = goal.at.put-requires-clause-at c in inside_at g.Else-tag-ne0 c.near_place-near.result (near g.Else-tag-ne0-2)

pub put-requires-clause-top : goal.put-requires-clause-top
put-requires-clause-top c = let r = c.requires in let g = room r.storage c.args.cpu.now r.plan r.session r.member r.task r.ordered r.stands r.running in omega (arith, g.last, g.under, g.inside)

pub returns-then-near-ne0-clause-row : goal.returns-then-near-ne0-clause-row
returns-then-near-ne0-clause-row c = λ made. let g = goal.at.returns-then-near-ne0-clause-row c in stored_at g.Else-tag-ne0 c.near_place-near.result (near g.Else-tag-ne0-2) c.put.new.cpu c.put.ensures

pub returns-then-tag-ne0-2-clause-names : goal.returns-then-tag-ne0-2-clause-names
returns-then-tag-ne0-2-clause-names c = λ near e other.
    let is : c.near_place-near.result ≡ near = cc in
    subst (λ (at : ℕ). StoresFrom c.args.cpu.now at) is (record {
      two = c.in-Ok.two;
      given = c.in-Ok.ensures.cells;
      above = c.in-Ok.ensures.above;
      operand = sym c.tag.ensures.value ∙ c.if-tag-ne0.false;
      couple = c.near_place-near.ensures.couple c.if-near-ne0.true;
      names = c.near_place-near.ensures.names c.if-near-ne0.true;
    })

pub stuffed_operand-stuffed-requires : goal.stuffed_operand-stuffed-requires
stuffed_operand-stuffed-requires c =
    let q = c.requires in
    let (v, i) = upper (goal.at.stuffed_operand-stuffed-requires c).Else-tag-ne0 in
    let stands = followed_stands q.storage c.args.cpu.now q.plan q.session q.member q.task q.ordered q.stands q.running c.in-Ok.two.1 v i in
    (here_scene q.storage c.args.cpu.now q.plan q.session q.member q.task q.ordered q.stands q.running, i.at, i.owner, v, stands)

pub put-requires-then-stuffed-ne0-clause-at : goal.put-requires-then-stuffed-ne0-clause-at
put-requires-then-stuffed-ne0-clause-at c =
    let g = goal.at.put-requires-then-stuffed-ne0-clause-at c in
    let (v, i) = upper g.Else-tag-ne0 in
    inside_at g.Else-tag-ne0 c.stuffed_operand-stuffed.result (stuffed g.Then-stuffed-ne0 v i)

pub put-requires-then-stuffed-ne0-clause-top : goal.put-requires-then-stuffed-ne0-clause-top
put-requires-then-stuffed-ne0-clause-top c = let r = c.requires in let g = room r.storage c.args.cpu.now r.plan r.session r.member r.task r.ordered r.stands r.running in omega (arith, g.last, g.under, g.inside)

pub returns-then-stuffed-ne0-clause-row : goal.returns-then-stuffed-ne0-clause-row
returns-then-stuffed-ne0-clause-row c = λ made.
    let g = goal.at.returns-then-stuffed-ne0-clause-row c in
    let (v, i) = upper g.Else-tag-ne0 in
    stored_at g.Else-tag-ne0 c.stuffed_operand-stuffed.result (stuffed g.Then-stuffed-ne0 v i) c.put-then-stuffed-ne0.new.cpu c.put-then-stuffed-ne0.ensures

pub own_element-at-requires : goal.own_element-at-requires
own_element-at-requires c = let (v, i) = upper (goal.at.own_element-at-requires c).Else-tag-ne0 in record { runs = c.requires; word = v; followed = i }

pub put-requires-2-clause-at : goal.put-requires-2-clause-at
put-requires-2-clause-at c = inside_at (goal.at.put-requires-2-clause-at c).Else-tag-ne0 c.own_element-at.result (c.own_element-at.ensures c.if-at-eq0.false)

pub put-requires-2-clause-top : goal.put-requires-2-clause-top
put-requires-2-clause-top c = let r = c.requires in let g = room r.storage c.args.cpu.now r.plan r.session r.member r.task r.ordered r.stands r.running in omega (arith, g.last, g.under, g.inside)

pub returns-clause-row : goal.returns-clause-row
returns-clause-row c = λ made. stored_at (goal.at.returns-clause-row c).Else-tag-ne0 c.own_element-at.result (c.own_element-at.ensures c.if-at-eq0.false) c.put-2.new.cpu c.put-2.ensures
