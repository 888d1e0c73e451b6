-- What any code words keep.
use Rattle.std.proofs.Common.{◌≡◌, ℕ, ◌+◌, ◌-◌, ◌/◌, ◌%◌, ◌^◌, ◌<◌, eqb, ltb, ◌&&◌, length, Option, Some, None, Ok, refl, subst, arith}
use Rattle.std.specs.List.{AllByRecursion, slice_get}
use Rattle.std.proofs.lemmas.Bool.{ltb-true, and_parts}
use Rattle.b67_model.specs.declared.operators.Op.{Op}
use Rattle.b67_model.specs.declared.operators.Op.TheVariants.{Valc, Namc, Lt8, Lt16, Lt48, Mpcw, Brun, Brtr, Brfl, Bset, Brst, Isol, Insr, Plain}
use Rattle.b67_model.specs.State as State
use Rattle.b67_model.specs.Common.{Task, JobConstants, OperatorContext, code_of, reading_of, IsSegment, SegmentInOrder, SettingInOrder, TaskInOrder}
use Rattle.b67_law.specs.Parameters.{ParametersFit}
use Rattle.b67_law.specs.Laws.{RowsKeepOrderButPlaces}
use Rattle.b67_law.proofs.Readings.{OpBits, ReadFits, operator_fits}
use Rattle.b67_law.proofs.Kept.{here}
use Rattle.b67_law.proofs.Whole.{step_good}
use Rattle.b67_lemmas.proofs.Members.{all_in, has_get, keyed_has}

-- the code of a segment has its bits
code_fits : (constants : JobConstants) (segment : ℕ) → SettingInOrder constants → (length (code_of constants segment) < 2 ^ 13) × AllByRecursion (λ (w : ℕ). w < 2 ^ 48) (code_of constants segment)
code_fits constants segment g = by (slice_get constants.segments (segment - 1)) refl where
  by : (o : Option State.Segment) → slice_get constants.segments (segment - 1) ≡ o → (length (code_of constants segment) < 2 ^ 13) × AllByRecursion (λ (w : ℕ). w < 2 ^ 48) (code_of constants segment)
  by None e = rw e (omega arith, tt)
  by (Some s) e = let fits = all_in SegmentInOrder constants.segments s g.segments (has_get constants.segments (segment - 1) s e) in rw e (fits.length_high, fits.words)

pub reading_fits : (constants : JobConstants) (task : Task) → SettingInOrder constants → ReadFits (reading_of constants task)
reading_fits constants task g = let code = code_fits constants task.segment g in operator_fits (code_of constants task.segment) task.place code.0 code.1

pub parameters_fit : (h : OperatorContext) (level : ℕ) (op : Op) → IsSegment h.constants h.task.segment level h.at → OpBits op → ParametersFit (IsSegment h.constants) h op
parameters_fit h level op at bits = grind arith

pub rows_keep_order_but_places : RowsKeepOrderButPlaces
rows_keep_order_but_places constants job task s =
    let own = all_in (TaskInOrder (IsSegment constants) constants job) job.tasks task s.order.tasks (keyed_has (λ t. t.number) task.number job.tasks task s.live).0 in
    step_good (IsSegment constants) constants job task s (λ op next e.
    let read : ReadFits (Ok (op, next)) = subst ReadFits e (reading_fits constants task s.unchanging) in
    record {
      after = λ goes. record { from_one = own.place.from_one; within = own.place.within; word_fits = read.1.0; syllable_fits = read.1.1 };
      parameters = parameters_fit (here constants job task next) _ op own.place read.0;
    })
