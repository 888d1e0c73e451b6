use Rattle.std.proofs.Common.{◌≡◌, ◌+◌, ℕ, map, subst, arith}
use Rattle.b67_task.specs.Tables.{switch_of}
use Rattle.b67_task.specs.Counted.{IsStillDue}
use Rattle.b67_task.proofs.Rising.{next_left, still_left}
use Rattle.b67_task.proofs.Counts.{past_grown}
use Rattle.b67_task.proofs.counting.first_left.Goals as goal
use Rattle.b67_task.proofs.counting.first_left.Goals.{else-from-switches-via-then-from-switches+else-switches-from, else-from-switches-via-else-from-switches}

pub returns-then-switches-from-clause-past : goal.returns-then-switches-from-clause-past
returns-then-switches-from-clause-past c = past_grown c.args.switches.now c.args.from c.args.made c.saturating_add.result _ (omega arith) c.if-switches-from.true (omega (arith, c.saturating_add.ensures))

pub returns-then-switches-from-clause-left : goal.returns-then-switches-from-clause-left
returns-then-switches-from-clause-left c = λ before short rise more left.
    let is : c.args.from + 1 ≡ c.saturating_add.result = omega (arith, c.saturating_add.ensures, short) in
    subst (λ (n : ℕ). IsStillDue n c.args.made (map switch_of c.args.switches.now)) is (next_left c.args.switches.now c.args.from before c.args.made rise (omega arith) more left)

pub returns-clause-left : goal.returns-clause-left
returns-clause-left c = λ before short rise more left.
    still_left c.args.switches.now c.args.from c.args.made (record { count = 0; job = 0; task = 0 }) (λ inside. elim c.else-from-switches.branch [
      | else-from-switches-via-then-from-switches+else-switches-from w ↦ w.if-switches-from.false
      | else-from-switches-via-else-from-switches w ↦ absurd (omega (arith, inside, w.if-from-switches.false))
    ])
