use Rattle.std.proofs.Common.{sym, ◌∙◌}
use Rattle.b67_entry.proofs.WordRefusals.{base_low, couple_refused, own_refused, other_passes}
use Rattle.b67_entry.proofs.refusals.reference_refusal.Goals as goal
use Rattle.b67_entry.proofs.refusals.reference_refusal.Goals.{else-r-from-via-then-r-from+else-from-cpu, else-r-from-via-else-r-from}

pub overflow_sub-cpu : goal.overflow_sub-cpu
overflow_sub-cpu c = let r = c.requires.run.0 in base_low r.storage c.args.cpu.now r.plan r.session r.member r.task r.stands r.running

pub returns-in-None : goal.returns-in-None
returns-in-None c = λ x plan s m t o h runs v b. couple_refused x c.args.cpu.now plan s m t o h runs v c.args.word b c.requires.tag c.from_word.result c.from_word.ensures.known c.in-None.is

pub returns-then-from-cpu : goal.returns-then-from-cpu
returns-then-from-cpu c = λ x plan s m t o h runs v b. own_refused x c.args.cpu.now plan s m t o h runs v c.args.word b c.requires.tag c.from_word.result c.in-Some.r c.from_word.ensures.known c.in-Some.is c.in-Some.ensures.some.1
    (c.if-r-from.true ∙ c.from.ensures) (sym c.from-then-r-from.ensures ∙ c.if-from-cpu.true)

pub returns-else-r-from : goal.returns-else-r-from
returns-else-r-from c = elim c.else-r-from.branch [
  | else-r-from-via-then-r-from+else-from-cpu w ↦ (λ x plan s m t o h runs v b. other_passes x c.args.cpu.now plan s m t o h runs v c.args.word b c.requires.tag c.from_word.result c.in-Some.r c.from_word.ensures.known c.in-Some.is c.in-Some.ensures.some.1
      (λ e d. w.if-from-cpu.false (w.from-then-r-from.ensures ∙ d)))
  | else-r-from-via-else-r-from w ↦ (λ x plan s m t o h runs v b. other_passes x c.args.cpu.now plan s m t o h runs v c.args.word b c.requires.tag c.from_word.result c.in-Some.r c.from_word.ensures.known c.in-Some.is c.in-Some.ensures.some.1
      (λ e d. w.if-r-from.false (e ∙ sym c.from.ensures)))
]
