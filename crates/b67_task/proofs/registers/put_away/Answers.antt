use Rattle.std.proofs.Common.{◌∙◌, ap, List}
use Rattle.std.specs.List.{slice_get}
use Rattle.b67_word.specs.Tagged.{Tagged}
use Rattle.b67_core.proofs.Writes.{slice_get-set_other}
use Rattle.b67_layout.specs.Layout.{machine_view}
use Rattle.b67_layout.proofs.Starts.{meets_runs}
use Rattle.b67_task.proofs.TopWords.{running_inside}
use Rattle.b67_task.proofs.Saving.{runs_of, none_runs, running_stack, runs_here, saved}
use Rattle.b67_task.proofs.registers.put_away.Goals as goal

pub top_word-word-requires : goal.top_word-word-requires
top_word-word-requires c =
    let q = c.requires in
    let k = c.args.cpu.now in
    let (m, t, runs) = runs_of q.storage k.core k.regs k.critical q.plan q.session q.stands.holds c.if-cpu.false in
    meets_runs q.storage k q.plan q.session m t q.stands runs

pub set-requires : goal.set-requires
set-requires c =
    let q = c.requires in
    let k = c.args.cpu.now in
    let (m, t, runs) = runs_of q.storage k.core k.regs k.critical q.plan q.session q.stands.holds c.if-cpu.false in
    running_inside q.storage k.core k.regs (machine_view q.plan q.session.jobs) q.stands.holds.memory
    (running_stack q.storage k.core k.regs k.critical q.plan q.session m t q.stands.holds runs) (runs_here q.storage k.core k.regs k.critical q.plan q.session m t q.stands.holds runs)

pub returns-clause-stands : goal.returns-clause-stands
returns-clause-stands c = λ x plan s h.
    let k = c.args.cpu.now in
    let (m, t, runs) = runs_of x k.core k.regs k.critical plan s h.holds c.if-cpu.false in
    record {
      holds = saved x k.core k.regs k.critical plan s m t h.holds runs c.set.new.self c.top_word-word.result c.set.ensures.value c.set.ensures.len
          (c.top_word-word.ensures x (machine_view plan s.jobs) (running_stack x k.core k.regs k.critical plan s m t h.holds runs) h.holds.memory (runs_here x k.core k.regs k.critical plan s m t h.holds runs));
      shows = λ y u q. absurd (none_runs x k.core k.regs k.critical plan s h.holds y u q);
    }

pub returns-clause-words : goal.returns-clause-words
returns-clause-words c = λ i ne. ap (λ (l : List Tagged). slice_get l i) c.set.ensures.value ∙ slice_get-set_other c.args.cpu.now.core c.args.cpu.now.regs.bosr i c.top_word-word.result ne
