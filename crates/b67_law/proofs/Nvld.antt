-- A step over an admitted program faults INVALID OPERATOR exactly at NVLD.
use Rattle.std.proofs.Common.{◌≡◌, ◌↔◌, ℕ, ◌-◌, true, Some, Ok, Err, refl, subst, inl, inr, arith}
use Rattle.std.specs.List.{slice_get}
use Rattle.b67_word.specs.declared.couples.Place.{Place}
use Rattle.b67_word.specs.declared.faults.Fault.TheVariants.{InvalidOperator}
use Rattle.b67_model.specs.declared.operators.Op.{Op}
use Rattle.b67_model.specs.declared.operators.Op.TheVariants.{Mpcw, Plain}
use Rattle.b67_model.specs.declared.operators.Code.TheVariants.{Nvld}
use Rattle.b67_lemmas.specs.Lists.{Has}
use Rattle.b67_lemmas.proofs.Members.{all_in, keyed_has}
use Rattle.b67_model.specs.Common.{Task, JobConstants, Job, operator_at, Program, At, origin, listing, has_stray_bits, IsAdmitted, is_proc, row, reading_of, step, IsStart, TaskInOrder, TasksInOrder}
use Rattle.b67_law.proofs.Kept.{here}
use Rattle.b67_law.proofs.Admitted.{listed, Sound, admitted_sound, Entered, entered}
use Rattle.b67_law.proofs.FaultRows.{invalid_operator_is_nvld}
use Rattle.b67_law.specs.RunFaults.{FaultsAtNvld, InvalidOperatorExactlyAtNvld}
use Rattle.b67_law.proofs.Literals.{literal_passes}

-- the row of an operator whose literal passes
row_faults : (constants : JobConstants) (job : Job) (task : Task) (op : Op) (next : Place) → ((bits : ℕ) → op ≡ Mpcw bits → is_proc (here constants job task next) bits ≡ true) →
    (row op (here constants job task next) ≡ Err InvalidOperator) ↔ (op ≡ Plain Nvld)
row_faults constants job task op next passes = grind (arith, invalid_operator_is_nvld)

step_faults : (constants : JobConstants) (job : Job) (task : Task) (op : Op) (next : Place) → reading_of constants task ≡ Ok (op, next) → ((bits : ℕ) → op ≡ Mpcw bits → is_proc (here constants job task next) bits ≡ true) →
    (step constants job task ≡ Err InvalidOperator) ↔ (op ≡ Plain Nvld)
unfolding step
step_faults constants job task op next reads passes = grind (arith, row_faults)

-- a task at a start
pub start_faults : (p : Program) (constants : JobConstants) (job : Job) (task : Task) (level : ℕ) → IsAdmitted p → constants.segments ≡ p.segments → IsStart constants task.segment level task.place → FaultsAtNvld constants job task
start_faults p constants job task level admitted same at = record {
  op = at.op;
  next = entry.next;
  stands = reads;
  faults = step_faults constants job task at.op entry.next reads passes;
}
  where
    entry : Entered at.code.code (listing at.code.code) task.place at.op
    entry = entered _ at.code.code origin (operator_at at.code.code origin) task.place at.op refl at.stands

    reads : reading_of constants task ≡ Ok (at.op, entry.next)
    reads = rw at.found entry.reads

    sound : (m : ℕ) × Sound (listed p m at.code)
    sound = admitted_sound p (task.segment - 1) at.code admitted (subst (λ ss. slice_get ss (task.segment - 1) ≡ Some at.code) same at.found)

    passes : (bits : ℕ) → at.op ≡ Mpcw bits → is_proc (here constants job task entry.next) bits ≡ true
    passes bits is =
        let stands : Has (listing at.code.code) (At task.place (Mpcw bits)) = subst (λ o. Has (listing at.code.code) (At task.place o)) is at.stands in
        literal_passes p (here constants job task entry.next) bits same (sound.1.rules (At task.place (Mpcw bits)) stands (7, has_stray_bits p bits) (inr (inr (inr (inr (inl refl))))))

pub task_faults : (p : Program) (constants : JobConstants) (job : Job) (task : Task) → IsAdmitted p → constants.segments ≡ p.segments → TasksInOrder (IsStart constants) constants job → Has job.tasks task → FaultsAtNvld constants job task
task_faults p constants job task admitted same order live =
    start_faults p constants job task _ admitted same (all_in (TaskInOrder (IsStart constants) constants job) job.tasks task order.tasks live).place

pub invalid_operator_exactly_at_nvld : InvalidOperatorExactlyAtNvld
invalid_operator_exactly_at_nvld p constants job task admitted same order live = grind (arith, task_faults, keyed_has)
