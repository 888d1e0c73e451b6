-- What was taken of an input, where that failed, and where no text is asked for.
use Rattle.std.proofs.Common.{◌≡◌, ◌≤◌, ◌+◌, ◌-◌, ◌^◌, ℕ, List, [], subst, sym, refl, ◌∙◌, Option, Some, None, Err, Bool, true, false}
use Rattle.std.specs.Prelude.{min}
use Rattle.std.proofs.lemmas.Bool.{false≢true}
use Rattle.b67_model_text.proofs.Answers.{err-ok}
use Rattle.std.proofs.lemmas.Option.{none-some}
use Rattle.b67_job.specs.declared.command.CommandLine.{CommandLine}
use Rattle.b67_job.specs.declared.command.CommandLine.TheVariants as lines
use Rattle.b67_job.specs.Judgement.{reads_text, text_limit}
use Rattle.b67_program.specs.declared.reading.InputFault.{InputFault}
use Rattle.b67_program.specs.declared.reading.InputFault.TheVariants.{SourceFault}
use Rattle.b67_recorded.specs.Given.{WasTextTaken}

-- a command has a limit where it reads a text
limited : (o : Option CommandLine) (most : ℕ) → text_limit o ≡ Some most → reads_text o ≡ true
limited None most e = absurd (none-some most e)
limited (Some (lines.Exercise seed size core)) most e = absurd (none-some most e)
limited (Some (lines.Run core)) most e = refl
limited (Some (lines.Image core)) most e = refl
limited (Some lines.Resume) most e = refl
limited (Some lines.Dump) most e = refl
limited (Some lines.Asm) most e = refl
limited (Some lines.Check) most e = refl
limited (Some lines.Convert) most e = refl
limited (Some (lines.Bind pairs)) most e = refl

-- a command that reads no text has no limit of one
pub unlimited : (o : Option CommandLine) → reads_text o ≡ false → text_limit o ≡ None
unlimited o none = by_limit (text_limit o) refl
  where
    by_limit : (most : Option ℕ) → text_limit o ≡ most → text_limit o ≡ None
    by_limit None e = e
    by_limit (Some most) e = absurd (false≢true (sym none ∙ limited o most e))

module _ (before after : List ℕ) (failed failed' : ℕ) (ended : Bool) where
  by_limit : (limit : Option ℕ) → WasTextTaken limit before after failed failed' ended (Err SourceFault) → min (failed + 1) (2 ^ 64 - 1) ≤ failed'
  by_limit (Some most) t = t
  by_limit None t = err-ok SourceFault [] _ t.2

  -- a read failed
  pub failed_of : (limit : Option ℕ) (f : InputFault) → f ≡ SourceFault → WasTextTaken limit before after failed failed' ended (Err f) → min (failed + 1) (2 ^ 64 - 1) ≤ failed'
  failed_of limit f is t = by_limit limit (subst (λ (x : InputFault). WasTextTaken limit before after failed failed' ended (Err x)) is t)

  -- and the command reads a text
  pub reads : (o : Option CommandLine) (limit : Option ℕ) → limit ≡ text_limit o → (f : InputFault) → WasTextTaken limit before after failed failed' ended (Err f) → reads_text o ≡ true
  reads o (Some most) is f t = limited o most (sym is)
  reads o None is f t = err-ok f [] _ t.2
