use Rattle.std.proofs.Common.{List, refl, sym, ◌∙◌, arith, subst, inl, inr, slice_set}
use Rattle.b67_word.specs.Tagged.{Tagged}
use Rattle.b67_model.specs.Rows as rows
use Rattle.b67_layout.specs.Meets.{here, IsMade}
use Rattle.b67_stack.specs.declared.Cpu.{Cpu}
use Rattle.b67_exec_cells.proofs.Put.{room}
use Rattle.b67_exec_cells.proofs.Rows.{two_missing}
use Rattle.b67_exec_cells.proofs.Exchanges.{exchanges, exchange_refused}
use Rattle.b67_exec_cells.proofs.moves.exch.Goals.{then-is_original-via-then-is_original, then-is_original-via-else-is_original+then-is_original-2}
use Rattle.b67_exec_cells.proofs.moves.exch.Goals as goal

pub returns-in-Err : goal.returns-in-Err
returns-in-Err c = record {
  row = λ x plan s m t ordered h runs.
      (two_missing x c.args.cpu.now plan s m t c.args.next rows.exch c.in-Err.fault refl (λ b. refl) (c.in-Err.ensures.cells x plan s m t ordered h runs), refl);
}

pub returns-then-is_original : goal.returns-then-is_original
returns-then-is_original c = record {
  row = λ x plan s m t ordered h runs. (
    exchange_refused x c.args.cpu.now plan m t c.in-Ok.words.0 c.in-Ok.words.1 c.args.next (c.in-Ok.ensures.cells x plan s m t ordered h runs)
        (elim c.then-is_original.branch [
          | then-is_original-via-then-is_original w ↦ inl (λ v at f. sym (c.is_original.ensures x plan m t v at f) ∙ w.if-is_original.true)
          | then-is_original-via-else-is_original+then-is_original-2 w ↦ inr (λ v at f. sym (w.is_original-else-is_original.ensures x plan m t v at f) ∙ w.if-is_original-2.true)
        ]),
    refl,
  );
}

pub set-requires : goal.set-requires
set-requires c = let q = c.requires in let r = room q.storage c.args.cpu.now q.plan q.session q.member q.task q.ordered q.stands q.running in omega (arith, r.last, r.under, r.inside)

pub set-requires-2 : goal.set-requires-2
set-requires-2 c = let q = c.requires in let r = room q.storage c.args.cpu.now q.plan q.session q.member q.task q.ordered q.stands q.running in omega (arith, r.last, r.under, r.inside, c.set.ensures.len)

pub returns : goal.returns
returns c = record {
  row = λ x plan s m t ordered h runs.
      let old = c.args.cpu.now in
      let P : List Tagged → Type 0 = λ core. IsMade x plan s m old (record old { core = core; regs = record old.regs { place = c.args.next } }) (rows.on_cells rows.exch (here m t c.args.next)) in
      let Q : List Tagged → Type 0 = λ core. IsMade x plan s m old (record old { core = slice_set core old.regs.s c.in-Ok.words.0; regs = record old.regs { place = c.args.next } }) (rows.on_cells rows.exch (here m t c.args.next)) in
      let R : Cpu → Type 0 = λ now. IsMade x plan s m old now (rows.on_cells rows.exch (here m t c.args.next)) in
      subst R (sym c.go_on_at.ensures) (subst P (sym c.set-2.ensures.value) (subst Q (sym c.set.ensures.value)
      (exchanges x old plan s m t ordered h runs c.in-Ok.words.0 c.in-Ok.words.1 c.args.next (c.in-Ok.ensures.cells x plan s m t ordered h runs) c.in-Ok.ensures.above
      (λ v at f. sym (c.is_original.ensures x plan m t v at f) ∙ c.if-is_original.false) (λ v at f. sym (c.is_original-else-is_original.ensures x plan m t v at f) ∙ c.if-is_original-2.false))));
}
