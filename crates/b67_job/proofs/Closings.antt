-- What is printed after the steps of a run that has halted, and that nothing of the next step is printed before it.
use Rattle.std.proofs.Common.{◌≡◌, ◌≢◌, ◌⊎◌, inl, inr, ◌≤◌, ℕ, zero, suc, List, ◌++◌, sym, subst, ◌∙◌, refl, arith, Option, None, Result, Ok, Err}
use Rattle.b67_io.specs.Line.{ended}
use Rattle.b67_io.specs.Told.{Took, TookPart}
use Rattle.b67_io.specs.Causes.{Rose}
use Rattle.b67_io.proofs.Joined.{Took-then}
use Rattle.b67_image.specs.Image.{image_text}
use Rattle.b67_image.proofs.Chunks.{TookPart-then, TookPart-longer}
use Rattle.b67_layout.specs.Machine.{Says, content_after}
use Rattle.b67_model.specs.Common.{Session, StepResult}
use Rattle.b67_task.specs.declared.tables.Machine.{Machine}
use Rattle.b67_session.specs.Stops.{Stop}
use Rattle.b67_session.specs.Stops as stops
use Rattle.b67_session.specs.declared.slices.Progress.{Progress}
use Rattle.b67_session.specs.declared.slices.Progress.TheVariants as progress
use Rattle.b67_session.specs.Slices.{LivesOn, StandsLimited, HasNoTasks, StandsAt, IsLimited, RepresentsWithoutTasks, IsOpen, PrintsWhole, Slices, Resumes, StaysEnded}
use Rattle.b67_session_lines.specs.Ends.{EndsPrinting, all_printed, cut_off}
use Rattle.b67_session_lines.specs.Stops.{halted_line}
use Rattle.b67_job.specs.declared.summaries.Closing.{Closing}
use Rattle.b67_job.specs.declared.summaries.Closing.TheVariants as closings
use Rattle.b67_job.specs.declared.summaries.Exercise.{Exercise}
use Rattle.b67_job.specs.Lines.{halted_text}

-- ---- one text after another

ends_behind : {K : Type 0} {taken : K → Option (List ℕ)} {faults : K → ℕ} {a b c : K} {x y : List ℕ} {status answer : ℕ} → Took taken a b x → faults a ≤ faults b → EndsPrinting taken faults b c status y answer
    → EndsPrinting taken faults a c status (x ++ y) answer
ends_behind took later (all_printed e t) = all_printed e (Took-then took t)
ends_behind took later (cut_off e rose part) = cut_off e (omega (arith, later, rose)) (TookPart-then took part)

module _ {K : Type 0} (taken : K → Option (List ℕ)) (faults : K → ℕ) (old new : K) (k : Machine) (closing : Closing) where
  -- the line of the halt alone
  pub closes_plain : (line : List ℕ) (answer : ℕ) → closing ≡ closings.Plain → line ≡ halted_line k.tasks.made → EndsPrinting taken faults old new 3 (ended line) answer
      → EndsPrinting taken faults old new 3 (halted_text closing k) answer
  closes_plain line answer is e ends =
      subst (λ (c : Closing). EndsPrinting taken faults old new 3 (halted_text c k) answer) (sym is) (subst (λ (x : List ℕ). EndsPrinting taken faults old new 3 (ended x) answer) e ends)

  pub closes_exercise : (of : Exercise) (line : List ℕ) (answer : ℕ) → closing ≡ closings.Exercise of → line ≡ halted_line k.tasks.made → EndsPrinting taken faults old new 3 (ended line) answer
      → EndsPrinting taken faults old new 3 (halted_text closing k) answer
  closes_exercise of line answer is e ends =
      subst (λ (c : Closing). EndsPrinting taken faults old new 3 (halted_text c k) answer) (sym is) (subst (λ (x : List ℕ). EndsPrinting taken faults old new 3 (ended x) answer) e ends)

  -- behind the image
  pub closes_image : (between : K) (line : List ℕ) (answer : ℕ) → closing ≡ closings.Image → Took taken old between (image_text k) → faults old ≤ faults between → line ≡ halted_line k.tasks.made
      → EndsPrinting taken faults between new 3 (ended line) answer → EndsPrinting taken faults old new 3 (halted_text closing k) answer
  closes_image between line answer is took later e ends =
      subst (λ (c : Closing). EndsPrinting taken faults old new 3 (halted_text c k) answer) (sym is)
      (ends_behind took later (subst (λ (x : List ℕ). EndsPrinting taken faults between new 3 (ended x) answer) e ends))

  -- or the printer failed in the image
  pub cuts_image : closing ≡ closings.Image → Rose faults old new → TookPart taken old new (image_text k) → EndsPrinting taken faults old new 3 (halted_text closing k) 8
  cuts_image is rose part =
      subst (λ (c : Closing). EndsPrinting taken faults old new 3 (halted_text c k) 8) (sym is) (cut_off refl rose (TookPart-longer (image_text k) (ended (halted_line k.tasks.made)) part))

-- ---- what a slice leaves printed

-- whole texts were printed, after a machine that had printed nothing of its next one
pub none_printed : {K : Type 0} (steps : ℕ) (k0 k : Machine) (paper paper' : K) → k0.tasks.printed ≡ 0 → PrintsWhole steps k0 k paper paper' → k.tasks.printed ≡ 0
none_printed zero k0 k paper paper' none w = (w.none refl).0 ∙ none
none_printed (suc n) k0 k paper paper' none w = w.some (omega arith)

no_fault : (answered : Result Progress Stop) → answered ≡ Ok progress.Halted → answered ≢ Err stops.PrintFault
no_fault answered is e = cc

-- a slice has halted, that had printed nothing of its first text
pub halted_unprinted : {B K : Type 0} (holds : B → Option (List (List ℕ))) (taken : K → Option (List ℕ)) (count n : ℕ) (answered : Result Progress Stop) (old new : Machine) (device device' : B) (paper paper' : K)
    → IsOpen (holds device) old → old.tasks.printed ≡ 0
    → ((told : Option (List (List ℕ))) (s : Session) → Says told (holds device) → StandsAt told old s → Slices taken (content_after told (holds device')) (told ≢ None) count n s answered old new paper paper')
    → ((told : Option (List (List ℕ))) (h : Session) (part : StepResult) → Says told (holds device) → IsLimited told old h part
    → Resumes holds taken told (content_after told (holds device')) count n h part answered old new device device' paper paper')
    → ((told : Option (List (List ℕ))) (s : Session) → RepresentsWithoutTasks told old s → StaysEnded answered old new device device' paper paper')
    → answered ≡ Ok progress.Halted → new.tasks.printed ≡ 0
halted_unprinted {B = B} {K = K} holds taken count n answered old new device device' paper paper' opens none row resumed ended is = by_stage opens.stage
  where
    by_resumed : {told said : Option (List (List ℕ))} {h : Session} {part : StepResult} → Resumes holds taken told said count n h part answered old new device device' paper paper' → new.tasks.printed ≡ 0
    by_resumed (inl again) = absurd (no_fault answered is again.answer)
    by_resumed (inr on) = none_printed on.slices.steps on.middle new on.printer paper' on.unprinted (on.slices.texts (no_fault answered is))

    by_stage : LivesOn (holds device) old ⊎ (StandsLimited (holds device) old ⊎ HasNoTasks (holds device) old) → new.tasks.printed ≡ 0
    by_stage (inl lives) =
        let slices = row lives.some.said lives.some.session lives.some.says lives.some.stands in
        none_printed slices.steps old new paper paper' none (slices.texts (no_fault answered is))
    by_stage (inr (inl limited)) = by_resumed (resumed limited.said limited.session limited.part limited.says limited.limited)
    by_stage (inr (inr rests)) = absurd (let stays = ended rests.said rests.session rests.rests in let z : ⊥ = cc in z)
