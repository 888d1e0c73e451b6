use Rattle.std.proofs.Common.{sym, subst}
use Rattle.b67_model.specs.declared.operators.Op.TheVariants.{Plain}
use Rattle.b67_stack.specs.declared.Cpu.{Cpu}
use Rattle.b67_layout.specs.Meets.{RunsSome}
use Rattle.b67_model.specs.Operators.{Alone}
use Rattle.b67_fetch.specs.Stores.{StoresFrom}
use Rattle.b67_exec.specs.Operators.{store_code}
use Rattle.b67_exec.specs.Far.{MadeWent}
use Rattle.b67_exec.proofs.Through.{ReadsThrough, lone_through, inside_of}
use Rattle.b67_exec.proofs.Mades.{went_made, short_made, store_stays}
use Rattle.b67_exec.proofs.Owns.{store_made}
use Rattle.b67_exec.proofs.arms.stores.Goals.{After-after-next}
use Rattle.b67_exec.proofs.arms.stores.Goals as goal

-- the operator was read, and this is the reader behind it
reads : (c : After-after-next) → ReadsThrough c.args.cpu.now (Plain (store_code c.args.keeps)) c.after-next.result
reads c =
    let b = c.requires.stands in
    let code = store_code c.args.keeps in
    lone_through c.args.cpu.now c.args.reader.now b code c.after-next.result c.requires.begins (c.after-next.ensures 0 (inside_of c.args.cpu.now c.args.reader.now 0 (Alone code) c.requires.runs b c.requires.begins))

pub returns-in-Ok : goal.returns-in-Ok
returns-in-Ok c =
    short_made c.args.cpu.now c.store_near.new.cpu c.args.reader.now c.after-next.result (Plain (store_code c.args.keeps)) c.place.result c.requires.runs c.requires.stands (reads (goal.at.returns-in-Ok c).After-after-next) c.place.ensures
    (store_stays c.args.keeps) (store_made c.place.result c.args.cpu.now c.store_near.new.cpu c.args.keeps (c.store_near.ensures.row c.in-Ok.is) (c.store_near.ensures.stays c.in-Ok.is))

pub makes_store_from-went-requires-clause-runs : goal.makes_store_from-went-requires-clause-runs
makes_store_from-went-requires-clause-runs c = subst RunsSome (sym (c.store_near.ensures.rest c.in-Err.near c.in-Err.is)) c.requires.runs

pub makes_store_from-went-requires-clause-from : goal.makes_store_from-went-requires-clause-from
makes_store_from-went-requires-clause-from c = subst (λ (z : Cpu). StoresFrom z c.in-Err.near) (sym (c.store_near.ensures.rest c.in-Err.near c.in-Err.is)) (c.store_near.ensures.names c.in-Err.near c.in-Err.is c.if-near-ne0.true)

pub returns-then-near-ne0 : goal.returns-then-near-ne0
returns-then-near-ne0 c =
    went_made c.args.cpu.now c.makes_store_from-went.new.cpu c.args.reader.now c.after-next.result (Plain (store_code c.args.keeps)) c.place-then-near-ne0.result c.requires.runs c.requires.stands (reads (goal.at.returns-then-near-ne0 c).After-after-next) c.place-then-near-ne0.ensures
    (store_stays c.args.keeps) c.makes_store_from-went.result c.goes.result c.goes.new.reader c.makes_store_from-went.new.why
    (subst (λ (z : Cpu). MadeWent (Plain (store_code c.args.keeps)) c.place-then-near-ne0.result z c.makes_store_from-went.result c.makes_store_from-went.new.cpu c.makes_store_from-went.new.why) (c.store_near.ensures.rest c.in-Err.near c.in-Err.is) c.makes_store_from-went.ensures) c.goes.ensures

pub makes_store-went-requires : goal.makes_store-went-requires
makes_store-went-requires c = subst RunsSome (sym (c.store_near.ensures.rest c.in-Err.near c.in-Err.is)) c.requires.runs

pub returns : goal.returns
returns c =
    went_made c.args.cpu.now c.makes_store-went.new.cpu c.args.reader.now c.after-next.result (Plain (store_code c.args.keeps)) c.place-2.result c.requires.runs c.requires.stands (reads (goal.at.returns c).After-after-next) c.place-2.ensures
    (store_stays c.args.keeps) c.makes_store-went.result c.goes-2.result c.goes-2.new.reader c.makes_store-went.new.why
    (subst (λ (z : Cpu). MadeWent (Plain (store_code c.args.keeps)) c.place-2.result z c.makes_store-went.result c.makes_store-went.new.cpu c.makes_store-went.new.why) (c.store_near.ensures.rest c.in-Err.near c.in-Err.is) c.makes_store-went.ensures) c.goes-2.ensures
