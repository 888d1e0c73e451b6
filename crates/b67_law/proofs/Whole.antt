-- A step keeps order where what it reads fits.
use Rattle.std.proofs.Common.{◌≡◌, Ok, Err, refl}
use Rattle.b67_word.specs.declared.couples.Place.{Place}
use Rattle.b67_model.specs.declared.operators.Op.{Op}
use Rattle.b67_model.specs.Common.{Task, JobConstants, Job, OperatorContext, Reading, row, reading_of, step_by, step, Starts}
use Rattle.b67_law.specs.Parameters.{ParametersFit}
use Rattle.b67_law.specs.Ends.{StepsFrom}
use Rattle.b67_law.specs.Keeping.{KeepsOrder, AfterFits}
use Rattle.b67_law.proofs.Rows.{row_good}
use Rattle.b67_law.proofs.Kept.{here, keeps, starts_run}

-- what a step reads fits
pub record ReadingFits (P : Starts) (h : OperatorContext) (op : Op) : Type 0 where
  pub after : AfterFits P h op
  pub parameters : ParametersFit P h op

by_reading : (P : Starts) (constants : JobConstants) (job : Job) (task : Task) → StepsFrom P constants job task → (r : Reading) →
    ((op : Op) (next : Place) → r ≡ Ok (op, next) → ReadingFits P (here constants job task next) op) → KeepsOrder P constants job task (step_by constants job task r)
by_reading P constants job task s (Err why) fits = tt
by_reading P constants job task s (Ok read) fits =
    let fit = fits read.0 read.1 refl in
    keeps P constants job task read.1 (row read.0 (here constants job task read.1)) (row_good P (here constants job task read.1) (starts_run P constants job task read.1 s) s.few read.0 fit.after fit.parameters)

pub step_good : (P : Starts) (constants : JobConstants) (job : Job) (task : Task) → StepsFrom P constants job task →
    ((op : Op) (next : Place) → reading_of constants task ≡ Ok (op, next) → ReadingFits P (here constants job task next) op) → KeepsOrder P constants job task (step constants job task)
unfolding step
step_good P constants job task s fits = by_reading P constants job task s (reading_of constants task) fits
