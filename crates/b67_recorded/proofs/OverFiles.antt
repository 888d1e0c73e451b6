-- How the parts of the program's call over ends that record fit.
use Rattle.std.proofs.Common.{◌≡◌, ℕ, List, [], ◌∷◌, append-nil, refl, sym, subst, ◌∙◌, Option, Some, None, Ok, true}
use Rattle.std.proofs.lemmas.Option.{same_Some}
use Rattle.std.specs.declared.io.Write as write
use denote.Ref.{Bor}
use Rattle.b67_backing.specs.declared.device.Backing.{Ghosts}
use Rattle.b67_model_text.proofs.Contents.{same_Ok}
use Rattle.b67_job.specs.Command.{command_line_of, backing_path}
use Rattle.b67_job.specs.Judgement.{text_limit}
use Rattle.b67_program.specs.Input.{IsTakenIn}
use Rattle.b67_program.specs.Opening.{Finds, paths_of}
use Rattle.b67_program.specs.Served.{carried_out, over_file}
use Rattle.b67_recorded.specs.Ends.{text_told, text_faults}
use Rattle.b67_recorded.specs.Files.{reads_sectors, OpensNoted}
use Rattle.b67_recorded.specs.Given.{WasTextTaken}
use Rattle.b67_recorded.specs.Mirror.{IsMirrorOf}
use Rattle.b67_recorded.specs.Recorded.{RunsOverMirror, RunsOverCopy, is_copied, is_unread, ServesText, is_served, isnt_copied}
use Rattle.b67_recorded.specs.declared.mirror.Mirrored.{Mirrored}
use Rattle.b67_recorded.specs.declared.sink.RecordedSink.{RecordedSink}

-- a text that was given is what a text in memory gives
pub as_taken : (limit : Option ℕ) (before after : List ℕ) (failed failed' : ℕ) (ended : _) (text : List ℕ) → WasTextTaken limit before after failed failed' ended (Ok text) → IsTakenIn limit text_told text_faults text [] (Ok text)
as_taken (Some most) before after failed failed' ended text t = record {
  gave = record { told = λ all e. ([], sym (same_Some text all e) ∙ sym (append-nil text), refl) };
  few = t.0.few;
  all = λ short. record { told = λ rest e. sym (same_Some [] rest e) };
  calm = refl;
}
as_taken None before after failed failed' ended text t = (sym (same_Ok text [] t.2), t.2)

-- no file was opened
pub opens_nothing : {D : Type 0} (opened : D → Option (List (List ℕ))) (now : D) (noted : List (List ℕ)) → OpensNoted opened now now noted noted []
opens_nothing opened now noted = record { notes = sym (append-nil noted); opens = record { told = λ before e. subst (λ (x : List (List ℕ)). opened now ≡ Some x) (sym (append-nil before)) e } }

-- the path is that of the words
opens_path : {D : Type 0} (opened : D → Option (List (List ℕ))) (words : List (Bor (List ℕ))) (path : List ℕ) (now later : D) (noted noted' : List (List ℕ)) → backing_path words ≡ Some path → OpensNoted opened now later noted noted' (path ∷ [])
    → OpensNoted opened now later noted noted' (paths_of (backing_path words))
opens_path opened words path now later noted noted' named opens = subst (λ (o : Option (List ℕ)). OpensNoted opened now later noted noted' (paths_of o)) (sym named) opens

module _ {D F W : Type 0} {g : Ghosts F} {w : write.Ghosts W} (opened : D → Option (List (List ℕ))) (kept : D → List ℕ → Option (List (List ℕ))) (words : List (Bor (List ℕ))) (text path : List ℕ) (now later : D) (noted noted' : List (List ℕ))
    (old new : RecordedSink W w) (status : ℕ) (named : backing_path words ≡ Some path) (opens : OpensNoted opened now later noted noted' (path ∷ [])) (taken : IsTakenIn (text_limit (command_line_of words)) text_told text_faults text [] (Ok text))
    (device : F) (found : Finds kept g.holds now path device) where
  pub over_mirror : (file : Mirrored F g) → IsMirrorOf g.holds g.size (reads_sectors (command_line_of words)) device file.inner file.held.items → file.faults ≡ 0 → RunsOverMirror kept words text path file later old new status
      → ServesText g opened kept words text now later noted noted' old new status
  over_mirror file mirrors calm r =
      is_served (opens_path opened words path now later noted noted' named opens) (over_file path file r.file_after named (record { device = device; found = found; mirrors = mirrors; calm = calm }) r.left_so (carried_out (record { bytes = text; given = taken; over = r.over })))

  pub over_copy : reads_sectors (command_line_of words) ≡ true → RunsOverCopy g kept words text path device later old new status → ServesText g opened kept words text now later noted noted' old new status
  over_copy first (is_copied file mirrors calm r) = over_mirror file (mirrors (reads_sectors (command_line_of words))) calm r
  over_copy first (is_unread left left_so failed ends) = isnt_copied path named first opens (record { device = device; device_after = left; found = found; left_so = left_so; failed = failed }) ends
