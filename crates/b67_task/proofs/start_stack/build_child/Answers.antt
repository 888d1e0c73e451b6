use Rattle.std.proofs.Common.{◌≡◌, ℕ, ◌+◌, ◌*◌, ◌^◌, Some, not, true, false, ◌==◌, slice_set, ◌∙◌, ap, arith, refl}
use Rattle.b67_word.specs.Tagged.{Tagged}
use Rattle.b67_ctl.specs.declared.marks.Mscw.{Mscw}
use Rattle.b67_layout.specs.Layout.{machine_view, stack_of_task}
use Rattle.b67_task.proofs.Building.{on_stack, two_marks, few_words, base_is, few_copied, apart, slot_small, job_small, child_built}
use Rattle.b67_task.proofs.start_stack.build_child.Goals as goal

pub mark_disp-under-requires : goal.mark_disp-under-requires
mark_disp-under-requires c =
    let q = c.requires in
    let k = c.args.cpu.now in (
      q.storage,
      machine_view q.plan q.session.jobs,
      stack_of_task q.plan q.member.constants.number q.member.progress.job q.plan.running q.task,
      q.may.stands.holds.memory,
      on_stack q.storage k q.plan q.session q.member q.task q.after q.child c.args.slot c.args.job c.args.env_stack c.args.env_disp c.args.level c.args.count q.may,
      two_marks q.storage k q.plan q.session q.member q.task q.after q.child c.args.slot c.args.job c.args.env_stack c.args.env_disp c.args.level c.args.count q.may,
    )

pub overflow_add-from : goal.overflow_add-from
overflow_add-from c =
    let q = c.requires in
    omega (arith, (few_words q.storage c.args.cpu.now q.plan q.session q.member q.task q.after q.child c.args.slot c.args.job c.args.env_stack c.args.env_disp c.args.level c.args.count q.may).0)

pub overflow_sub-from : goal.overflow_sub-from
overflow_sub-from c = let q = c.requires in few_copied q.storage c.args.cpu.now q.plan q.session q.member q.task q.after q.child c.args.slot c.args.job c.args.env_stack c.args.env_disp c.args.level c.args.count q.may

pub build_stack-requires-clause-apart : goal.build_stack-requires-clause-apart
build_stack-requires-clause-apart c =
    let q = c.requires in
    let k = c.args.cpu.now in
    apart q.storage k q.plan q.session q.member q.task q.after q.child c.args.slot c.args.job c.args.env_stack c.args.env_disp c.args.level c.args.count q.may _ 0
    (base_is q.storage k q.plan q.session q.member q.task q.after q.child c.args.slot c.args.job c.args.env_stack c.args.env_disp c.args.level c.args.count q.may c.from.result c.from-2.result c.from.ensures c.from-2.ensures)

pub build_stack-requires-clause-source : goal.build_stack-requires-clause-source
build_stack-requires-clause-source c =
    let q = c.requires in
    let k = c.args.cpu.now in
    omega (
      arith,
      (few_words q.storage k q.plan q.session q.member q.task q.after q.child c.args.slot c.args.job c.args.env_stack c.args.env_disp c.args.level c.args.count q.may).1,
      few_copied q.storage k q.plan q.session q.member q.task q.after q.child c.args.slot c.args.job c.args.env_stack c.args.env_disp c.args.level c.args.count q.may,
    )

pub word-requires-3 : goal.word-requires-3
word-requires-3 c =
    let q = c.requires in
    let k = c.args.cpu.now in
    record {
      parent = omega (arith, c.from-4.ensures, slot_small q.storage k q.plan q.session q.member q.task q.after q.child c.args.slot c.args.job c.args.env_stack c.args.env_disp c.args.level c.args.count q.may);
      job = omega (arith, job_small q.storage k q.plan q.session q.member q.task q.after q.child c.args.slot c.args.job c.args.env_stack c.args.env_disp c.args.level c.args.count q.may);
    }

pub raise-requires : goal.raise-requires
raise-requires c = let q = c.requires in slot_small q.storage c.args.cpu.now q.plan q.session q.member q.task q.after q.child c.args.slot c.args.job c.args.env_stack c.args.env_disp c.args.level c.args.count q.may

pub returns-clause-stands : goal.returns-clause-stands
returns-clause-stands c = λ x plan s m t after child b.
    let k = c.args.cpu.now in
    let slot = c.args.slot in
    let vector : 2 ^ 46 + c.from-4.result * 2 ^ 36 + c.args.job * 2 ^ 16 ≡ 2 ^ 46 + k.regs.slot * 2 ^ 36 + c.args.job * 2 ^ 16 = omega (arith, c.from-4.ensures) in
    let written = c.set.ensures.value ∙ ap (λ (n : ℕ). slice_set c.build_stack.new.core (32 + n) c.word-3.result) c.from-5.ensures ∙ ap (λ (w : Tagged). slice_set c.build_stack.new.core (32 + slot) w) c.word-3.ensures in
    child_built x k plan s m t after child slot c.args.job c.args.env_stack c.args.env_disp c.args.level c.args.count b
    c.set.new.self c.build_stack.new.core c.raise.new.critical _ c.mark_disp-under.result _ _ _
    (base_is x k plan s m t after child slot c.args.job c.args.env_stack c.args.env_disp c.args.level c.args.count b c.from.result c.from-2.result c.from.ensures c.from-2.ensures)
    refl
    (ap (λ (n : ℕ). let w : Mscw = record { far = not (c.args.env_stack == n); entered = true; env_stack = c.args.env_stack; env_disp = c.args.env_disp; value = false; level = c.args.level; back = 0 } in w) c.from-3.ensures)
    (c.mark_disp-under.ensures x (machine_view plan s.jobs) (stack_of_task plan m.constants.number m.progress.job plan.running t) b.stands.holds.memory
    (on_stack x k plan s m t after child slot c.args.job c.args.env_stack c.args.env_disp c.args.level c.args.count b)
    (two_marks x k plan s m t after child slot c.args.job c.args.env_stack c.args.env_disp c.args.level c.args.count b))
    vector
    (c.build_stack.ensures.stack.top ∙ ap (λ (w : Tagged). Some w) c.word.ensures)
    (c.build_stack.ensures.stack.mark ∙ ap (λ (w : Tagged). Some w) c.word-2.ensures)
    c.build_stack.ensures.stack.back c.build_stack.ensures.stack.cells c.build_stack.ensures.outside c.build_stack.ensures.len
    written c.set.ensures.len c.raise.ensures.own c.raise.ensures.others
