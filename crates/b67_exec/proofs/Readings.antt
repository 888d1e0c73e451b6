-- The operator that was read: its parameters, and the intrinsic that it calls.
use Rattle.std.proofs.Common.{◌≡◌, ℕ, Some, Ok, arith}
use Rattle.b67_word.specs.declared.couples.Place.{Place}
use Rattle.b67_ctl.specs.Layout.{IsPlace}
use Rattle.b67_model.specs.declared.operators.Op.{Op}
use Rattle.b67_model.specs.Common.{Reading, reading_of, step_by, step, Task, JobConstants, SessionJob, Session, SettingInOrder}
use Rattle.b67_law.proofs.Readings.{OpBits}
use Rattle.b67_law.proofs.Segments.{reading_fits}
use Rattle.b67_stack.specs.declared.Cpu.{Cpu}
use Rattle.b67_stack.specs.declared.Step.{Step}
use Rattle.b67_stack.specs.Represents.{Storage}
use Rattle.b67_layout.specs.Placement.{Placement}
use Rattle.b67_exec_cells.specs.Running.{code_area}
use Rattle.b67_entry.specs.Procedures.{CallsOrMeets}
use Rattle.b67_exec.specs.Operators.{ParametersHaveBits, called_by_reading, OperatorMeets}

fits_by : (op : Op) → OpBits op → ParametersHaveBits op
fits_by op o = grind arith

pub read_fits : (constants : JobConstants) (t : Task) (op : Op) (next : Place) → SettingInOrder constants → ◌≡◌ {A = Reading} (Ok (op, next)) (reading_of constants t) → ParametersHaveBits op × IsPlace next
read_fits constants t op next g is = grind (arith, reading_fits)

pub operator_read : (x : Storage) (plan : Placement) (s : Session) (m : SessionJob) (t : Task) (answered : Step) (old new : Cpu) (at : ℕ) (reading : Reading) → code_area x plan m t ≡ Some at → reading ≡ reading_of m.constants t
    → CallsOrMeets x plan s m answered old new (called_by_reading m t reading) (step_by m.constants m.progress.job t reading) → OperatorMeets x plan s m t answered old new
unfolding step
operator_read x plan s m t answered old new at reading area is made = grind arith
