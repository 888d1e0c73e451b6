-- How the parts of the program's call fit.
use Rattle.std.proofs.Common.{◌≡◌, ◌≢◌, ℕ, List, [], true, false, Result, Ok, Err, Option, Some, None, refl, sym, subst, ap, ◌∙◌, append-nil, arith}
use Rattle.std.proofs.lemmas.Bool.{false≢true}
use Rattle.std.proofs.lemmas.Option.{none-some}
use denote.Ref.{Bor}
use Rattle.b67_io.specs.Causes.{Rose}
use Rattle.b67_model_text.proofs.Answers.{err-ok}
use Rattle.b67_session_lines.specs.Ends.{EndsPrinting, all_printed, cut_off}
use Rattle.b67_job.specs.Command.{command_line_of}
use Rattle.b67_job.specs.declared.command.CommandLine.{CommandLine}
use Rattle.b67_job.specs.declared.command.CommandLine.TheVariants as lines
use Rattle.b67_job.specs.Device.{Device, device_of, DeviceUnchanged}
use Rattle.b67_job.specs.Due.{reading_text}
use Rattle.b67_job.specs.Judgement.{reads_text, text_limit}
use Rattle.b67_job.specs.Lines.{memory_text}
use Rattle.b67_job.specs.Passed.{DeviceAfterCalls}
use Rattle.b67_program.specs.declared.reading.InputFault.{InputFault}
use Rattle.b67_program.specs.declared.reading.InputFault.TheVariants.{SourceFault, Memory}
use Rattle.b67_program.specs.Input.{IsTakenIn}
use Rattle.b67_program.specs.Opening.{OpensPaths}
use Rattle.b67_program.specs.Served.{OutlastsCalls, CarriesOut, IsAnswered, carried_out, reading_failed, text_wants_memory}

-- a command has a limit where it reads a text
limited : (o : Option CommandLine) (most : ℕ) → text_limit o ≡ Some most → reads_text o ≡ true
limited None most e = absurd (none-some most e)
limited (Some (lines.Exercise seed size core)) most e = absurd (none-some most e)
limited (Some (lines.Run core)) most e = refl
limited (Some (lines.Image core)) most e = refl
limited (Some lines.Resume) most e = refl
limited (Some lines.Dump) most e = refl
limited (Some lines.Asm) most e = refl
limited (Some lines.Check) most e = refl
limited (Some lines.Convert) most e = refl
limited (Some (lines.Bind pairs)) most e = refl

module _ {S : Type 0} (o : Option CommandLine) (left : S → Option (List ℕ)) (faults : S → ℕ) (old new : S) (limit : Option ℕ) (is : limit ≡ text_limit o) where
  taken_so : (r : Result (List ℕ) InputFault) → IsTakenIn limit left faults old new r → IsTakenIn (text_limit o) left faults old new r
  taken_so r t = subst (λ (most : Option ℕ). IsTakenIn most left faults old new r) is t

  pub unread_of : (r : Result (List ℕ) InputFault) → IsTakenIn limit left faults old new r → reads_text o ≡ false → new ≡ old
  unread_of r t none = by_limit (text_limit o) refl (taken_so r t)
    where
      by_limit : (most : Option ℕ) → text_limit o ≡ most → IsTakenIn most left faults old new r → new ≡ old
      by_limit (Some most) e t = absurd (false≢true (sym none ∙ limited o most e))
      by_limit None e t = t.0

  pub failed_of : IsTakenIn limit left faults old new (Err SourceFault) → (reads_text o ≡ true) × Rose faults old new
  failed_of t = by_limit (text_limit o) refl (taken_so (Err SourceFault) t)
    where
      by_limit : (most : Option ℕ) → text_limit o ≡ most → IsTakenIn most left faults old new (Err SourceFault) → (reads_text o ≡ true) × Rose faults old new
      by_limit (Some most) e t = (limited o most e, t)
      by_limit None e t = err-ok SourceFault [] _ t.1

  pub wanted_of : IsTakenIn limit left faults old new (Err Memory) → reads_text o ≡ true
  wanted_of t = by_limit (text_limit o) refl (taken_so (Err Memory) t)
    where
      by_limit : (most : Option ℕ) → text_limit o ≡ most → IsTakenIn most left faults old new (Err Memory) → reads_text o ≡ true
      by_limit (Some most) e t = limited o most e
      by_limit None e t = err-ok Memory [] _ t.1

module _ {S B K : Type 0} {words : List (Bor (List ℕ))} {left : S → Option (List ℕ)} {source_faults : S → ℕ} {input input' : S} {d : Device B}
    {taken : K → Option (List ℕ)} {faults : K → ℕ} {old new : K} {answer : ℕ} where
  -- the command was carried out over what was read
  pub carried : (limit : Option ℕ) (bytes : List ℕ) → limit ≡ text_limit (command_line_of words) → IsTakenIn limit left source_faults input input' (Ok bytes)
      → CarriesOut words bytes d taken faults old new answer → IsAnswered words left source_faults input input' d taken faults old new answer
  carried limit bytes is t over = carried_out (record {
    bytes = bytes;
    given = subst (λ (most : Option ℕ). IsTakenIn most left source_faults input input' (Ok bytes)) is t;
    over = over;
  })

  -- a read failed
  pub failed : (limit : Option ℕ) → limit ≡ text_limit (command_line_of words) → IsTakenIn limit left source_faults input input' (Err SourceFault) → DeviceUnchanged d → EndsPrinting taken faults old new 7 reading_text answer
      → IsAnswered words left source_faults input input' d taken faults old new answer
  failed limit is t same ends = let f = failed_of (command_line_of words) left source_faults input input' limit is t in reading_failed f.0 f.1 same ends

  -- memory was refused
  pub wanted : (limit : Option ℕ) → limit ≡ text_limit (command_line_of words) → IsTakenIn limit left source_faults input input' (Err Memory) → DeviceUnchanged d → EndsPrinting taken faults old new 9 memory_text answer
      → IsAnswered words left source_faults input input' d taken faults old new answer
  wanted limit is t same ends = text_wants_memory (wanted_of (command_line_of words) left source_faults input input' limit is t) same ends

  -- only a failed read has status 7: the tape in memory can't fail
  pub seven : IsAnswered words left source_faults input input' d taken faults old new answer → answer ≡ 7 → Rose source_faults input input'
  seven (carried_out r) e = absurd (omega (arith, (r.over.means.reading_fault e).1))
  seven (reading_failed r rose same ends) e = rose
  seven (text_wants_memory r same (all_printed a t)) e = absurd (omega (arith, a, e))
  seven (text_wants_memory r same (cut_off a f t)) e = absurd (omega (arith, a, e))

pub not_seven : {K : Type 0} (taken : K → Option (List ℕ)) (faults : K → ℕ) (old new : K) (answer : ℕ) (P : Type 0) → EndsPrinting taken faults old new 9 memory_text answer → answer ≡ 7 → P
not_seven taken faults old new answer P (all_printed a t) e = absurd (omega (arith, a, e))
not_seven taken faults old new answer P (cut_off a f t) e = absurd (omega (arith, a, e))

-- what calls of a device leave of it
module _ {B : Type 0} (holds : B → Option (List (List ℕ))) (size calls faults : B → ℕ) (old new : B) (after : DeviceAfterCalls holds size calls faults old new) where
  pub tells_on : holds old ≢ None → holds new ≢ None
  tells_on tells = by_content (holds old) refl tells
    where
      by_content : (o : Option (List (List ℕ))) → holds old ≡ o → o ≢ None → holds new ≢ None
      by_content None e t = absurd (t refl)
      by_content (Some all) e t = let there = after.tells.told all e in λ none. none-some there.0 (sym none ∙ there.1)

  pub outlasts : OutlastsCalls (device_of holds size faults old new)
  outlasts = record { size = after.size; faults = after.faults; tells = tells_on }

-- nothing was opened
pub opens_none : {R : Type 0} (opened : R → Option (List (List ℕ))) (now : R) → OpensPaths opened now now []
opens_none opened now = record { told = λ before e. e ∙ ap Some (sym (append-nil before)) }
