use Rattle.std.proofs.Common.{ℕ, ◌==◌, ap, arith, sym, ◌∙◌}
use Rattle.b67_exec_cells.proofs.Dictionaries.{named_word, unnamed, entry-inside}
use Rattle.b67_exec_cells.proofs.procedures.is_procedure.Goals as goal

pub returns-then-not-names_entry : goal.returns-then-not-names_entry
returns-then-not-names_entry c = λ x plan s m t ordered h runs q.
    unnamed x c.args.cpu.now plan s m t ordered h runs c.args.bits q (sym c.names_entry.ensures ∙ c.if-not-names_entry.true)

pub overflow_add-cpu : goal.overflow_add-cpu
overflow_add-cpu c =
    let q = c.requires in
    let i = entry-inside q.storage c.args.cpu.now q.plan q.session q.member q.task q.ordered q.stands q.running c.args.bits (sym c.names_entry.ensures ∙ c.if-not-names_entry.false) in
    omega (arith, i.0, i.1)

pub get-requires : goal.get-requires
get-requires c =
    let q = c.requires in
    (entry-inside q.storage c.args.cpu.now q.plan q.session q.member q.task q.ordered q.stands q.running c.args.bits (sym c.names_entry.ensures ∙ c.if-not-names_entry.false)).0

pub returns : goal.returns
returns c = λ x plan s m t ordered h runs q.
    ap (λ (n : ℕ). n == 3) c.tag.ensures.value ∙ named_word x c.args.cpu.now plan s m t ordered h runs c.args.bits c.get.result q (sym c.names_entry.ensures ∙ c.if-not-names_entry.false) c.get.ensures
