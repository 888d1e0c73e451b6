-- What the calls behind which far operators stand answer and leave.
use Rattle.std.specs.Prelude.{◌≡◌, ◌≢◌, ◌+◌, Bool, true, false}
use Rattle.b67_word.specs.declared.couples.Place.{Place}
use Rattle.b67_model.specs.declared.operators.Op.{Op}
use Rattle.b67_model.specs.Common.{row, called}
use Rattle.b67_stack.specs.declared.Cpu.{Cpu}
use Rattle.b67_stack.specs.declared.Step.{Step}
use Rattle.b67_stack.specs.declared.Step.TheVariants.{Done}
use Rattle.b67_layout.specs.Meets.{here, ForEach}
use Rattle.b67_exec_cells.specs.Tops.{StaysInSegment}
use Rattle.b67_entry.specs.Procedures.{CallsOrMeets}
use Rattle.b67_exec.specs.Operators.{CutsRecord}
use Rattle.b67_exec.specs.declared.reader.Reader.{Reader}
use Rattle.b67_exec.specs.declared.apart.Went.{Went}
use Rattle.b67_exec.specs.declared.apart.Went.TheVariants as went
use Rattle.b67_exec.specs.declared.arms.Made.{Made}
use Rattle.b67_exec.specs.declared.arms.Made.TheVariants as outcome

-- what a step answers is the operator's row, at such a place behind it
abbrev pub RowAnswers : Op → Place → Cpu → Cpu → Step → Type 0
RowAnswers op next old new step = ForEach old (λ x plan s m t. CallsOrMeets x plan s m step old new (called op (here m t next)) (row op (here m t next)))

-- an operator was made by its row
abbrev pub RowMade : Op → Place → Cpu → Cpu → Type 0
RowMade op next old new = RowAnswers op next old new Done

-- it wasn't, for such a reason, and nothing was changed
pub record RowRefused (op : Op) (next : Place) (old new : Cpu) (why : Step) : Type 0 where
  pub same : new ≡ old
  pub other : why ≢ Done
  pub row : RowAnswers op next old new why

-- it was made, and the task goes on behind it in its segment; or it was refused
abbrev pub MadeOn : Op → Place → Cpu → Bool → Cpu → Step → Type 0
MadeOn op next old true new why = RowMade op next old new × StaysInSegment old new next
MadeOn op next old false new why = RowRefused op next old new why

-- it was made, or refused
abbrev pub MadeAway : Op → Place → Cpu → Bool → Cpu → Step → Type 0
MadeAway op next old true new why = RowMade op next old new
MadeAway op next old false new why = RowRefused op next old new why

-- it was made, and the task goes on behind it in its segment, or elsewhere; or it was refused
abbrev pub MadeWent : Op → Place → Cpu → Went → Cpu → Step → Type 0
MadeWent op next old went.On new why = RowMade op next old new × StaysInSegment old new next
MadeWent op next old went.Away new why = RowMade op next old new
MadeWent op next old went.Not new why = RowRefused op next old new why

-- it was made, wherever it ends, and an activation record was left; or it was refused
abbrev pub MadeLeaving : Op → Cpu → Bool → Cpu → Step → Type 0
MadeLeaving op old true new why = ((next : Place) → RowMade op next old new) × CutsRecord old new
MadeLeaving op old false new why = (next : Place) → RowRefused op next old new why

-- the same, with the address up to below which the record's words go
abbrev pub LeavesBy : Op → Cpu → Made → Cpu → Step → Type 0
LeavesBy op old (outcome.Left upto) new why = ((next : Place) → RowMade op next old new) × CutsRecord old new × (upto ≡ old.regs.s + 1)
LeavesBy op old outcome.Not new why = (next : Place) → RowRefused op next old new why
LeavesBy op old _ new why = ⊥

-- whether a step was made, after which the task goes on behind the operator, or why not
abbrev pub SaysOn : Step → Went → Step → Type 0
SaysOn step went.On why = step ≡ Done
SaysOn step went.Away why = ⊥
SaysOn step went.Not why = (why ≡ step) × (step ≢ Done)

-- whether a step was made, after which it may go on elsewhere, or why not
abbrev pub SaysAway : Step → Went → Step → Type 0
SaysAway step went.On why = ⊥
SaysAway step went.Away why = step ≡ Done
SaysAway step went.Not why = (why ≡ step) × (step ≢ Done)

-- ---- short ways: if one isn't an operator's, nothing was changed, and it goes the long way

abbrev pub OnShortly : Op → Place → Cpu → Bool → Cpu → Type 0
OnShortly op next old true new = RowMade op next old new × StaysInSegment old new next
OnShortly op next old false new = new ≡ old

abbrev pub WentShortly : Op → Place → Cpu → Went → Cpu → Type 0
WentShortly op next old went.On new = RowMade op next old new × StaysInSegment old new next
WentShortly op next old went.Away new = RowMade op next old new
WentShortly op next old went.Not new = new ≡ old

abbrev pub LeavesShortly : Op → Cpu → Bool → Cpu → Type 0
LeavesShortly op old true new = ((next : Place) → RowMade op next old new) × CutsRecord old new
LeavesShortly op old false new = new ≡ old

abbrev pub SaysMade : Step → Bool → Type 0
SaysMade step true = step ≡ Done
SaysMade step false = step ≢ Done

abbrev pub ShortlyOn : Step → Went → Type 0
ShortlyOn step went.On = step ≡ Done
ShortlyOn step went.Away = ⊥
ShortlyOn step went.Not = step ≢ Done

abbrev pub ShortlyAway : Step → Went → Type 0
ShortlyAway step went.On = ⊥
ShortlyAway step went.Away = step ≡ Done
ShortlyAway step went.Not = step ≢ Done

-- where an operator leads that was made, and a reader
abbrev pub LeadsTo : Went → Reader → Reader → Made → Reader → Type 0
LeadsTo went.On before next made after = (made ≡ outcome.On) × (after ≡ next)
LeadsTo went.Away before next made after = made ≡ outcome.Away
LeadsTo went.Not before next made after = (made ≡ outcome.Not) × (after ≡ before)
