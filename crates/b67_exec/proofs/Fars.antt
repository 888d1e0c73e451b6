-- What a call answers behind which a far operator stands, by the step there.
use Rattle.std.proofs.Common.{◌≡◌, ◌≢◌, ◌+◌, Bool, true, false, subst, arith}
use Rattle.b67_word.specs.declared.couples.Place.{Place}
use Rattle.b67_model.specs.declared.operators.Op.{Op}
use Rattle.b67_model.specs.Common.{row, called}
use Rattle.b67_stack.specs.declared.Cpu.{Cpu}
use Rattle.b67_stack.specs.declared.Step.{Step}
use Rattle.b67_stack.specs.declared.Step.TheVariants.{Done}
use Rattle.b67_layout.specs.Common.{RunsSome, here}
use Rattle.b67_exec_cells.specs.Tops.{StaysInSegment}
use Rattle.b67_exec.specs.Operators.{CutsRecord}
use Rattle.b67_exec.specs.Near.{SaysDone}
use Rattle.b67_exec.specs.Far.{RowAnswers, RowMade, RowRefused, MadeOn, MadeAway, MadeWent, MadeLeaving, SaysOn, SaysAway, SaysMade, ShortlyOn, ShortlyAway, OnShortly, WentShortly, LeavesShortly}
use Rattle.b67_exec.specs.declared.apart.Went.{Went}
use Rattle.b67_exec.specs.declared.apart.Went.TheVariants as wents
use Rattle.b67_exec.proofs.Nears.{unmade}

module _ (op : Op) (next : Place) (old new : Cpu) (r : RunsSome old) where
  pub same : (step : Step) → step ≢ Done → RowAnswers op next old new step → new ≡ old
  same step other each =
      let h = here r.member r.task next in
      unmade r.storage r.plan r.session r.member step old new (called op h) (row op h) other (each r.storage r.plan r.session r.member r.task r.ordered r.stands r.running)

  -- another answer is the reason
  pub refused : (step why : Step) → why ≡ step → step ≢ Done → RowAnswers op next old new step → RowRefused op next old new why
  refused step why is other each = grind (arith, same)

  pub on_by : (step : Step) (made : Bool) (why : Step) → SaysDone step made why → RowAnswers op next old new step → (step ≡ Done → StaysInSegment old new next) → MadeOn op next old made new why
  on_by step true why done each stays = (subst (RowAnswers op next old new) done each, stays done)
  on_by step false why says each stays = refused step why says.0 says.1 each

  pub away_by : (step : Step) (made : Bool) (why : Step) → SaysDone step made why → RowAnswers op next old new step → MadeAway op next old made new why
  away_by step true why done each = subst (RowAnswers op next old new) done each
  away_by step false why says each = refused step why says.0 says.1 each

  pub stayed_by : (step : Step) (went : Went) (why : Step) → SaysOn step went why → RowAnswers op next old new step → (step ≡ Done → StaysInSegment old new next) → MadeWent op next old went new why
  stayed_by step wents.On why done each stays = (subst (RowAnswers op next old new) done each, stays done)
  stayed_by step wents.Away why says each stays = absurd says
  stayed_by step wents.Not why says each stays = refused step why says.0 says.1 each

  pub entered_by : (step : Step) (went : Went) (why : Step) → SaysAway step went why → RowAnswers op next old new step → MadeWent op next old went new why
  entered_by step wents.On why says each = absurd says
  entered_by step wents.Away why done each = subst (RowAnswers op next old new) done each
  entered_by step wents.Not why says each = refused step why says.0 says.1 each

  -- short ways
  pub on_shortly : (step : Step) (made : Bool) → SaysMade step made → RowAnswers op next old new step → (step ≡ Done → StaysInSegment old new next) → OnShortly op next old made new
  on_shortly step made done each stays = grind (arith, same)

  pub stayed_shortly : (step : Step) (went : Went) → ShortlyOn step went → RowAnswers op next old new step → (step ≡ Done → StaysInSegment old new next) → WentShortly op next old went new
  stayed_shortly step went done each stays = grind (arith, same)

  pub entered_shortly : (step : Step) (went : Went) → ShortlyAway step went → RowAnswers op next old new step → WentShortly op next old went new
  entered_shortly step went says each = grind (arith, same)

pub leaving_by : (op : Op) (old new : Cpu) → RunsSome old → (step : Step) (made : Bool) (why : Step) → SaysDone step made why → ((next : Place) → RowAnswers op next old new step) → (step ≡ Done → CutsRecord old new) → MadeLeaving op old made new why
leaving_by op old new r step true why done each cuts = (λ next. subst (RowAnswers op next old new) done (each next), cuts done)
leaving_by op old new r step false why says each cuts = λ next. refused op next old new r step why says.0 says.1 (each next)

pub leaving_shortly : (op : Op) (old new : Cpu) → RunsSome old → (step : Step) (made : Bool) → SaysMade step made → ((next : Place) → RowAnswers op next old new step) → (step ≡ Done → CutsRecord old new) → LeavesShortly op old made new
leaving_shortly op old new r step true done each cuts = (λ next. subst (RowAnswers op next old new) done (each next), cuts done)
leaving_shortly op old new r step false other each cuts = same op r.task.place old new r step other (each r.task.place)

-- a short way that isn't one
pub on_rest : (op : Op) (next : Place) (old new : Cpu) (made : Bool) → made ≡ false → OnShortly op next old made new → new ≡ old
on_rest op next old new made is m = grind arith

pub on_short : (op : Op) (next : Place) (old new : Cpu) (made : Bool) → made ≡ true → OnShortly op next old made new → RowMade op next old new × StaysInSegment old new next
on_short op next old new made is m = grind arith

pub leaving_rest : (op : Op) (old new : Cpu) (made : Bool) → made ≡ false → LeavesShortly op old made new → new ≡ old
leaving_rest op old new made is m = grind arith

pub leaving_short : (op : Op) (old new : Cpu) (made : Bool) → made ≡ true → LeavesShortly op old made new → ((next : Place) → RowMade op next old new) × CutsRecord old new
leaving_short op old new made is m = grind arith

-- EXIT leaves core as it was
pub exit_cuts : (old new : Cpu) → new.core ≡ old.core → new.regs.s + 1 ≡ old.regs.f → CutsRecord old new
exit_cuts old new core top = grind arith
