-- What stays of the machine where core keeps its areas, and where nothing has changed.
use Rattle.std.proofs.Common.{◌≡◌, ℕ, length, refl, sym, ◌∙◌, subst, arith}
use Rattle.b67_model.specs.Schedule.{Session}
use Rattle.b67_stack.specs.declared.Cpu.{Cpu}
use Rattle.b67_stack.specs.Represents.{Storage}
use Rattle.b67_layout.specs.Placement.{Placement}
use Rattle.b67_layout.specs.Session.{RepresentsSession}
use Rattle.b67_task.specs.declared.tables.Machine.{Machine}
use Rattle.b67_task.specs.Runs.{Keeps}
use Rattle.b67_task.proofs.Keeping.{keeps_same}

-- core has the size that the spans of its directory have
pub same_size : (x y : Storage) (old new : Cpu) (plan there : Placement) (s z : Session) → RepresentsSession x old plan s → RepresentsSession y new there z → y.low ≡ x.low → y.spans ≡ x.spans → length new.core ≡ length old.core
same_size x y old new plan there s z a b low spans = grind arith

pub kept_is : (old new : Machine) → new ≡ old → Keeps old new
kept_is old new e = subst (λ (k : Machine). Keeps old k) (sym e) (keeps_same old)

-- how much is printed is no part of it
pub kept_printed : (old : Machine) (printed : ℕ) → Keeps old (record old { tasks = record old.tasks { printed = printed } })
kept_printed old printed = record { core = refl; sectors = refl; given = refl }
