-- What calls of this crate answer.
use Rattle.std.specs.Prelude.{◌≡◌, ℕ, ◌+◌, List, Option, Result, Ok, Err}
use Rattle.b67_io.specs.Told.{GaveAll}
use Rattle.b67_io.specs.Causes.{Rose}
use Rattle.b67_model_text.specs.Deck.{limit}
use Rattle.b67_card.specs.Reading.{GaveFirst}
use Rattle.b67_job.specs.declared.admit_fault.AdmitFault.{AdmitFault}
use Rattle.b67_job.specs.declared.admit_fault.AdmitFault.TheVariants.{Refused, SourceFault, Memory}
use Rattle.b67_job.specs.Meets as admit
use Rattle.b67_job.specs.Verdicts.{Verdict}

-- the answer is this verdict, unless memory ran out
abbrev pub MeetsVerdict : Result (List ℕ) AdmitFault → Verdict → Type 0
MeetsVerdict answer verdict = admit.MeetsAnswer (λ text. text) answer verdict

-- Of the text that the source gave to its end, this is the verdict. A refusal is by the bytes up to the first one past the
-- limit, where reading stops. The source failed only where its count of faults rose. Want of memory is free.
abbrev pub IsJudged : {S : Type 0} → (S → Option (List ℕ)) → (S → ℕ) → S → S → (List ℕ → Verdict) → Result (List ℕ) AdmitFault → Type 0
IsJudged left faults old new verdict (Ok printed) = (text : List ℕ) × GaveAll left old new text × (verdict text ≡ Ok printed)
IsJudged left faults old new verdict (Err (Refused r)) = (text : List ℕ) × GaveFirst left (limit + 1) old new text × (verdict text ≡ Err r)
IsJudged left faults old new verdict (Err SourceFault) = Rose faults old new
IsJudged left faults old new verdict (Err Memory) = Unit {0}
