-- What a command that was carried out over a text prints and answers.
use Rattle.std.proofs.Common.{◌≡◌, ◌≤◌, ◌+◌, ◌⊎◌, inl, inr, ℕ, List, [], ◌∷◌, ◌++◌, length, take, append-nil, arith, refl, sym, ap, subst, ◌∙◌, Option, Some, None, Ok, Err, is_some, false}
use Rattle.std.specs.Prelude.{IfSome}
use Rattle.std.proofs.lemmas.Bool.{false≢true}
use Rattle.std.proofs.lemmas.List.{length-append, take_all}
use Rattle.std.proofs.lemmas.Option.{same_Some, none-some}
use Rattle.std.specs.declared.io.Write as write
use denote.Ref.{Bor}
use Rattle.b67_io.specs.Free.{free_told, free_faults}
use Rattle.b67_io.specs.Line.{ended}
use Rattle.b67_card.specs.Reading.{GaveFirst}
use Rattle.b67_io.specs.Told.{GaveAll}
use Rattle.b67_model.specs.Common.{Session, StepsFit, after, lines, run_text}
use Rattle.b67_model_text.specs.Deck as deck
use Rattle.b67_gen.specs.Generated.{generated_text}
use Rattle.b67_image.specs.Text as image
use Rattle.b67_image.specs.Meaning.{told_in, IsMeant, IsImageRead}
use Rattle.b67_image.specs.declared.fault.ImageFault.TheVariants as images
use Rattle.b67_task.specs.declared.tables.Machine.{Machine}
use Rattle.b67_job.specs.declared.refusal.Refusal.{Refusal}
use Rattle.b67_job.specs.declared.command.CommandLine.{CommandLine}
use Rattle.b67_job.specs.declared.command.CommandLine.TheVariants as commands
use Rattle.b67_job.specs.declared.summaries.Closing.{Closing}
use Rattle.b67_job.specs.declared.summaries.Closing.TheVariants as closings
use Rattle.b67_job.specs.declared.summaries.Exercise.{Exercise}
use Rattle.b67_job.specs.Admitting.{Prepared, deck_prepared, run_of}
use Rattle.b67_job.specs.Command.{command_line_of}
use Rattle.b67_job.specs.Device.{Device, DeviceTells, knowing, known_now}
use Rattle.b67_job.specs.Due.{ReadAll, WasGiven, CommandWasRead, IsRun, usage_due, refusal_due, print_due, image_due, dump_due, run_due, reading_due, memory_due, Answered, answered, cut_in_step, goes_on, usage_text, reading_text}
use Rattle.b67_job.specs.Going.{run_from, StepsFrom}
use Rattle.b67_job.specs.Judgement as judging
use Rattle.b67_job.specs.Judgement.{Judgement, Refused, Runs, Prints, OfImage, judgement, asked, closing_of, core_asked, image_sectors, reads_text}
use Rattle.b67_job.specs.Lines.{memory_text, refused_image_line}
use Rattle.b67_job.specs.Runs.{StandsAt, IsHaltedAt, IsPrintingStep, memory_refused, opening_wants_core, opening_wants_sectors, opening_fails, RunStops, unopened, opened, StopsUnopened, StepsEnd, steps_stop, next_is_cut}
use Rattle.b67_job.specs.Told.{refusal_text}
use Rattle.b67_job.specs.Texts.{Text, whole_of, PrintsAndAnswers, all_taken, cut_short}
use Rattle.b67_job.specs.Verdicts.{Verdict}
use Rattle.b67_program.specs.Served.{CarriesOut}
use Rattle.b67_recorded.specs.Ends.{sink_told, sink_faults}
use Rattle.b67_recorded.specs.declared.sink.RecordedSink.{RecordedSink}
use Rattle.b67_promises.specs.Commands as commanded
use Rattle.b67_promises.specs.Commands.{TakesText, PrintsText, is_printed, is_cut, PrintsFailure, reading_fails, memory_is_wanted, PrintsRun, PrintsVerdict, is_made, isnt_made, PrintsDump, dump_is_printed, isnt_dumped, PrintsImage, doesnt_halt, is_cut_in_lines, halts, PrintsSteps, steps_are_due, steps_are_cut, PrintsRest, doesnt_go_on}
use Rattle.b67_promises.specs.Described as described
use Rattle.b67_promises.specs.Described.{IsDueOf}
use Rattle.b67_promises.specs.Halts.{text_of_halt}
use Rattle.b67_promises.proofs.CallsDescribed.{AsksFor, call_is, longer, refused_deck, runs_deck}
use Rattle.b67_promises.proofs.RecordedCalls.{took_bytes}
use Rattle.b67_promises.proofs.StepsDescribed.{StopIsDue, stop_so, cut_so}
use Rattle.b67_promises.proofs.Words.{no_print}

-- ---- judgements

made_so : (v : Verdict) (made : List ℕ) → judging.printed v ≡ Prints made → v ≡ Ok made
made_so v made e = grind arith

refused_so : (v : Verdict) (refusal : Refusal) → judging.printed v ≡ Refused refusal → v ≡ Err refusal
refused_so v refusal e = grind arith

image_prints_no : (made : List ℕ) → OfImage ≡ Prints made → ⊥
image_prints_no made e = cc

image_refuses_no : (refusal : Refusal) → OfImage ≡ Refused refusal → ⊥
image_refuses_no refusal e = cc

at_halt : (o : Option ℕ) (count : ℕ) → o ≡ Some count → IfSome o (λ c. count ≤ c)
at_halt o count e = subst (λ (x : Option ℕ). IfSome x (λ c. count ≤ c)) (sym e) (omega arith)

-- so many first bytes of a text that isn't longer are all
all_given : (text read rest : List ℕ) (most : ℕ) → text ≡ read ++ rest → length read ≡ most → length text ≤ most → read ≡ text
all_given text read [] most is exactly few = sym (is ∙ append-nil read)
all_given text read (x ∷ rest) most is exactly few = absurd (omega (arith, exactly, few, ap length is, length-append read (x ∷ rest)))

module _ {B W : Type 0} {h : write.Ghosts W} (words : List (Bor (List ℕ))) (text : List ℕ) (d : Device B) (old new : RecordedSink W h) (status : ℕ) (r : CarriesOut words text d sink_told sink_faults old new status) where
  abbrev takes : List ℕ → Type 0
  takes out = TakesText old new out

  -- ---- what was printed

  printed_so : (due : ℕ) (t : Text) → PrintsAndAnswers sink_told sink_faults old new due t status → PrintsText due (whole_of t) status takes
  printed_so due t (all_taken a took) = is_printed a (took_bytes old new (whole_of t) took)
  printed_so due t (cut_short count a rose part) = is_cut (t.front ++ take count t.last) a (took_bytes old new (t.front ++ take count t.last) part.took) (longer t.front t.last count part.proper)

  text_printed : (due n : ℕ) (t : Text) (whole : List ℕ) → due ≡ n → whole_of t ≡ whole → PrintsAndAnswers sink_told sink_faults old new due t status → PrintsText n whole status takes
  text_printed due n t whole s e p = subst (λ (x : ℕ). PrintsText x whole status takes) s (subst (λ (x : List ℕ). PrintsText due x status takes) e (printed_so due t p))

  -- ---- what was read

  told : free_told r.deck ≡ Some text
  told = ap Some r.holds

  read_all : (read : List ℕ) → GaveAll free_told r.deck r.deck_after read → read ≡ text
  read_all read g = sym (g.told text told).0

  read_some : length text ≤ deck.limit + 1 → (read : List ℕ) → WasGiven free_told r.deck r.deck_after read → read ≡ text
  read_some few read (inl all) = read_all read all
  read_some few read (inr front) = let f = front.0.told text told in all_given text read f.0 (deck.limit + 1) f.1 front.1 few

  read_first : length text ≤ image.limit + 1 → (read : List ℕ) → GaveFirst free_told (image.limit + 1) r.deck r.deck_after read → read ≡ text
  read_first few read g = (g.told text told).0 ∙ take_all (image.limit + 1) text few

  -- ---- no command

  module _ (none : command_line_of words ≡ None) where
    no_command : (other : CommandLine) → command_line_of words ≡ Some other → ⊥
    no_command other c = none-some other (sym none ∙ c)

    by_usage : Answered words free_told free_faults r.deck r.deck_after d r.machine sink_told sink_faults old new status → PrintsText 1 usage_text status takes
    by_usage (answered due t (usage_due c g same m s e) p) = text_printed due 1 t usage_text s (ap whole_of e) p
    by_usage (answered due t (refusal_due other read refusal c was same said m s e) p) = absurd (no_command other c)
    by_usage (answered due t (print_due other read made c was same said m s e) p) = absurd (no_command other c)
    by_usage (answered due t (image_due other sectors card reason c wanted was same m s e) p) = absurd (no_command other c)
    by_usage (answered due t (dump_due m dump o same absent s e) p) = absurd (no_command commands.Dump o.is)
    by_usage (answered due t (run_due core q run stops) p) = absurd (no_command run.command run.is)
    by_usage (answered due t (reading_due c rose same m s e) p) = absurd (false≢true (sym (ap reads_text none) ∙ c))
    by_usage (answered due t (memory_due c same m s e) p) = absurd (false≢true (sym (ap is_some none) ∙ c))
    by_usage (cut_in_step core q t count run printing a rose part) = absurd (no_command run.command run.is)
    by_usage (goes_on g) = absurd (no_command commands.Resume g.of.is)

    pub usage_printed : PrintsText 1 usage_text status takes
    usage_printed = by_usage r.due

  -- ---- a command

  module _ (command : CommandLine) (is : command_line_of words ≡ Some command) where
    one : (other : CommandLine) → command_line_of words ≡ Some other → other ≡ command
    one other e = same_Some other command (sym e ∙ is)

    no_usage : is_some (command_line_of words) ≡ false → ⊥
    no_usage e = false≢true (sym e ∙ ap is_some is)

    no_core : core_asked command ≡ None → (core : ℕ) (p : Prepared) → IsRun words free_told r.deck r.deck_after core p → ⊥
    no_core none core p run = none-some core (sym none ∙ ap core_asked (sym (one run.command run.is)) ∙ run.opens)

    no_image : (count : ℕ) (sectors : Option ℕ) (other : CommandLine) → image_sectors count command ≡ None → command_line_of words ≡ Some other → image_sectors count other ≡ Some sectors → ⊥
    no_image count sectors other none e wanted = none-some sectors (sym none ∙ ap (image_sectors count) (sym (one other e)) ∙ wanted)

    -- ---- the commands that make a text of a text

    module _ (few : length text ≤ deck.limit + 1) (verdict : List ℕ → Verdict) (judges : (bytes : List ℕ) → asked command bytes ≡ judging.printed (verdict bytes)) (opens_none : core_asked command ≡ None) (wants_none : (count : ℕ) → image_sectors count command ≡ None)
        (all : (bytes : List ℕ) → ReadAll command free_told r.deck r.deck_after bytes → GaveAll free_told r.deck r.deck_after bytes) (some : (bytes : List ℕ) → CommandWasRead command free_told r.deck r.deck_after bytes → WasGiven free_told r.deck r.deck_after bytes) where
      verdict_is : (other : CommandLine) (read : List ℕ) (j : Judgement) → other ≡ command → read ≡ text → asked other read ≡ j → judging.printed (verdict text) ≡ j
      verdict_is other read j here same said = sym (judges text) ∙ ap (asked command) (sym same) ∙ ap (λ (x : CommandLine). asked x read) (sym here) ∙ said

      by_verdict : Answered words free_told free_faults r.deck r.deck_after d r.machine sink_told sink_faults old new status → PrintsVerdict (verdict text) status takes ⊎ PrintsFailure status takes
      by_verdict (answered due t (usage_due c g same m s e) p) = absurd (no_usage c)
      by_verdict (answered due t (refusal_due other read refusal c was same said m s e) p) =
          let here = one other c in
          let at = read_some few read (some read (subst (λ (x : CommandLine). CommandWasRead x free_told r.deck r.deck_after read) here was)) in
          inl (isnt_made refusal (refused_so (verdict text) refusal (verdict_is other read (Refused refusal) here at said)) (text_printed due 2 t (refusal_text refusal) s (ap whole_of e) p))
      by_verdict (answered due t (print_due other read made c was same said m s e) p) =
          let here = one other c in
          let at = read_all read (all read (subst (λ (x : CommandLine). ReadAll x free_told r.deck r.deck_after read) here was)) in
          inl (is_made made (made_so (verdict text) made (verdict_is other read (Prints made) here at said)) (text_printed due 0 t made s (ap whole_of e) p))
      by_verdict (answered due t (image_due other sectors card reason c wanted was same m s e) p) = absurd (no_image d.sectors sectors other (wants_none d.sectors) c wanted)
      by_verdict (answered due t (dump_due m dump o same none s e) p) = absurd (no_image d.sectors None commands.Dump (wants_none d.sectors) o.is refl)
      by_verdict (answered due t (run_due core q run stops) p) = absurd (no_core opens_none core q run)
      by_verdict (answered due t (reading_due c rose same m s e) p) = inr (reading_fails (text_printed due 7 t reading_text s (ap whole_of e) p))
      by_verdict (answered due t (memory_due c same m s e) p) = inr (memory_is_wanted (text_printed due 9 t memory_text s (ap whole_of e) p))
      by_verdict (cut_in_step core q t count run printing a rose part) = absurd (no_core opens_none core q run)
      by_verdict (goes_on g) = absurd (no_image d.sectors (Some d.sectors) commands.Resume (wants_none d.sectors) g.of.is refl)

      pub verdict_printed : PrintsVerdict (verdict text) status takes ⊎ PrintsFailure status takes
      verdict_printed = by_verdict r.due

    -- ---- those that read an image

    module _ (few : length text ≤ image.limit + 1) (opens_none : core_asked command ≡ None) (of_image : (bytes : List ℕ) → asked command bytes ≡ OfImage) where
      refuses_no : (other : CommandLine) (read : List ℕ) (refusal : Refusal) → command_line_of words ≡ Some other → asked other read ≡ Refused refusal → ⊥
      refuses_no other read refusal c said = image_refuses_no refusal (sym (of_image read) ∙ ap (λ (x : CommandLine). asked x read) (sym (one other c)) ∙ said)

      prints_no : (other : CommandLine) (read made : List ℕ) → command_line_of words ≡ Some other → asked other read ≡ Prints made → ⊥
      prints_no other read made c said = image_prints_no made (sym (of_image read) ∙ ap (λ (x : CommandLine). asked x read) (sym (one other c)) ∙ said)

      -- its first refusal
      refused_image : (sectors wanted : Option ℕ) (card reason : ℕ) → sectors ≡ wanted → IsImageRead free_told free_faults r.deck r.deck_after sectors (Err (images.Card card reason)) → IsMeant (Err (images.Card card reason)) (told_in wanted text)
      refused_image sectors wanted card reason e was =
          let x = subst (λ (o : Option ℕ). IsImageRead free_told free_faults r.deck r.deck_after o (Err (images.Card card reason))) e was in
          subst (λ (b : List ℕ). IsMeant (Err (images.Card card reason)) (told_in wanted b)) (read_first few x.0 x.1) x.2

      -- its machine
      meant_image : (wanted : Option ℕ) (m : Machine) → IsImageRead free_told free_faults r.deck r.deck_after wanted (Ok m) → IsMeant (Ok m) (told_in wanted text)
      meant_image wanted m was = subst (λ (b : List ℕ). IsMeant (Ok m) (told_in wanted b)) (read_all was.0 was.1) was.2

      module _ (dumps : command ≡ commands.Dump) where
        any_sectors : (count : ℕ) (other : CommandLine) (sectors : Option ℕ) → command_line_of words ≡ Some other → image_sectors count other ≡ Some sectors → sectors ≡ None
        any_sectors count other sectors c wanted = sym (same_Some None sectors (sym (ap (image_sectors count) (one other c ∙ dumps)) ∙ wanted))

        not_resume : commands.Resume ≡ commands.Dump → ⊥
        not_resume e = cc

        by_dump : Answered words free_told free_faults r.deck r.deck_after d r.machine sink_told sink_faults old new status → PrintsDump text status takes ⊎ PrintsFailure status takes
        by_dump (answered due t (usage_due c g same m s e) p) = absurd (no_usage c)
        by_dump (answered due t (refusal_due other read refusal c was same said m s e) p) = absurd (refuses_no other read refusal c said)
        by_dump (answered due t (print_due other read made c was same said m s e) p) = absurd (prints_no other read made c said)
        by_dump (answered due t (image_due other sectors card reason c wanted was same m s e) p) =
            inl (isnt_dumped card reason (refused_image sectors None card reason (any_sectors d.sectors other sectors c wanted) was) (text_printed due 2 t (ended (refused_image_line card reason)) s (ap whole_of e) p))
        by_dump (answered due t (dump_due m dump o same none s e) p) = inl (dump_is_printed m dump (meant_image None m o.read) o.dumps (text_printed due 0 t dump s (ap whole_of e) p))
        by_dump (answered due t (run_due core q run stops) p) = absurd (no_core opens_none core q run)
        by_dump (answered due t (reading_due c rose same m s e) p) = inr (reading_fails (text_printed due 7 t reading_text s (ap whole_of e) p))
        by_dump (answered due t (memory_due c same m s e) p) = inr (memory_is_wanted (text_printed due 9 t memory_text s (ap whole_of e) p))
        by_dump (cut_in_step core q t count run printing a rose part) = absurd (no_core opens_none core q run)
        by_dump (goes_on g) = absurd (not_resume (one commands.Resume g.of.is ∙ dumps))

        pub dump_printed : PrintsDump text status takes ⊎ PrintsFailure status takes
        dump_printed = by_dump r.due

      module _ (resumes : command ≡ commands.Resume) (found : List (List ℕ)) (before : d.before ≡ Some found) where
        its_sectors : (other : CommandLine) (sectors : Option ℕ) → command_line_of words ≡ Some other → image_sectors d.sectors other ≡ Some sectors → sectors ≡ Some d.sectors
        its_sectors other sectors c wanted = sym (same_Some (Some d.sectors) sectors (sym (ap (image_sectors d.sectors) (one other c ∙ resumes)) ∙ wanted))

        not_dump : commands.Dump ≡ commands.Resume → ⊥
        not_dump e = cc

        knows : DeviceTells (knowing (Some found) d)
        knows e = none-some found (sym e)

        fit_in : {core steps : ℕ} {s : Session} {m k : Machine} → core ≡ length m.cpu.core → StepsFrom (knowing (Some found) d) steps s m k → StepsFit core steps s
        fit_in {steps = steps} {s = s} size from = subst (λ (n : ℕ). StepsFit n steps s) (sym size) (from.fitted knows)

        by_end : (core steps : ℕ) (s : Session) (m k : Machine) → core ≡ length m.cpu.core → StepsFrom (knowing (Some found) d) steps s m k → StepsEnd sink_told sink_faults (knowing (Some found) d) core steps (run_from s) closings.Plain k old new status
            → PrintsSteps core d.sectors (run_from s) status takes
        by_end core steps s m k size from (steps_stop due t none stops p) = by_stop (stop_so (knowing (Some found) d) knows core (run_from s) closings.Plain (λ n. refl) steps k due t stops)
          where
            by_stop : StopIsDue (knowing (Some found) d) knows core (run_from s) steps due (whole_of t) ⊎ ((due ≡ 3) × IsHaltedAt (knowing (Some found) d) steps (run_from s) closings.Plain k t) → PrintsSteps core d.sectors (run_from s) status takes
            by_stop (inl x) =
                steps_are_due steps due x.line (record { within = x.within; fit = fit_in size from }) x.stops
                (text_printed due due t (run_text (lines steps s) ++ x.line) refl x.text p)
            by_stop (inr x) = absurd (none-some steps x.1.halt)
        by_end core steps s m k size from (next_is_cut t cut a rose part) =
            let x = cut_so (knowing (Some found) d) knows core (run_from s) steps k t k.tasks.printed (fit_in size from) part.proper cut in
            steps_are_cut (t.front ++ take k.tasks.printed t.last) x.steps a (took_bytes old new (t.front ++ take k.tasks.printed t.last) part.took) x.made x.begins

        by_rest : Answered words free_told free_faults r.deck r.deck_after d r.machine sink_told sink_faults old new status → PrintsRest d.sectors found text status takes ⊎ PrintsFailure status takes
        by_rest (answered due t (usage_due c g same m s e) p) = absurd (no_usage c)
        by_rest (answered due t (refusal_due other read refusal c was same said m s e) p) = absurd (refuses_no other read refusal c said)
        by_rest (answered due t (print_due other read made c was same said m s e) p) = absurd (prints_no other read made c said)
        by_rest (answered due t (image_due other sectors card reason c wanted was same m s e) p) =
            inl (doesnt_go_on card reason (refused_image sectors (Some d.sectors) card reason (its_sectors other sectors c wanted) was) (text_printed due 2 t (ended (refused_image_line card reason)) s (ap whole_of e) p))
        by_rest (answered due t (dump_due m dump o same none s e) p) = absurd (not_dump (one commands.Dump o.is ∙ resumes))
        by_rest (answered due t (run_due core q run stops) p) = absurd (no_core opens_none core q run)
        by_rest (answered due t (reading_due c rose same m s e) p) = inr (reading_fails (text_printed due 7 t reading_text s (ap whole_of e) p))
        by_rest (answered due t (memory_due c same m s e) p) = inr (memory_is_wanted (text_printed due 9 t memory_text s (ap whole_of e) p))
        by_rest (cut_in_step core q t count run printing a rose part) = absurd (no_core opens_none core q run)
        by_rest (goes_on g) = inl (commanded.goes_on g.image (meant_image (Some d.sectors) g.image g.of.read)
            (λ s stands. let e = g.gone.each (Some found) s before stands in by_end (length g.image.cpu.core) e.0 s g.image g.k refl e.1 e.2))

        pub rest_printed : PrintsRest d.sectors found text status takes ⊎ PrintsFailure status takes
        rest_printed = by_rest r.due

  -- ---- runs

  module _ (core : ℕ) (is : command_line_of words ≡ Some (commands.Run core)) (tells : DeviceTells d) (few : length text ≤ deck.limit + 1) where
    pub run_printed : PrintsRun None core d.sectors text status takes
    run_printed =
        let it : CommandLine = commands.Run core in
        let asks : AsksFor words free_told r.deck r.deck_after None core text = record {
          command = it;
          is = is;
          asks = record {
            judged = λ n p run.
                let here = one it is run.command run.is in
                let read = read_all run.bytes (subst (λ (x : CommandLine). ReadAll x free_told r.deck r.deck_after run.bytes) here run.read) in
                ap judgement (sym read) ∙ subst (λ (x : CommandLine). asked x run.bytes ≡ Runs p) here run.judged;
            closing_is = λ n p run. ap closing_of is;
            no_image = λ count other sectors c wanted. no_image it is count sectors other refl c wanted;
            no_text = λ other bytes made c said. no_print bytes made (subst (λ (x : CommandLine). asked x bytes ≡ Prints made) (one it is other c) said);
            refuses = λ other bytes refusal c was said.
                let here = one it is other c in
                let read = read_some few bytes (subst (λ (x : CommandLine). CommandWasRead x free_told r.deck r.deck_after bytes) here was) in
                (refusal, ap judgement (sym read) ∙ subst (λ (x : CommandLine). asked x bytes ≡ Refused refusal) here said);
          };
          opens = λ n p run. same_Some n core (sym run.opens ∙ ap core_asked (one it is run.command run.is));
          refused = λ other bytes refusal c was said.
              let here = one it is other c in
              let read = read_some few bytes (subst (λ (x : CommandLine). CommandWasRead x free_told r.deck r.deck_after bytes) here was) in
              refused_deck text refusal (ap judgement (sym read) ∙ subst (λ (x : CommandLine). asked x bytes ≡ Refused refusal) here said);
        } in
        let x = call_is words free_told free_faults r.deck r.deck_after d r.machine None core text asks tells r.due in
        (x.0, took_bytes old new x.0 x.1, x.2)

  module _ (e : Exercise) (core : ℕ) (is : command_line_of words ≡ Some (commands.Exercise e.seed e.size core)) (tells : DeviceTells d) where
    pub exercise_printed : PrintsRun (Some e) core d.sectors (generated_text e.seed e.size) status takes
    exercise_printed =
        let it : CommandLine = commands.Exercise e.seed e.size core in
        let bytes = generated_text e.seed e.size in
        let asks : AsksFor words free_told r.deck r.deck_after (Some e) core bytes = record {
          command = it;
          is = is;
          asks = record {
            judged = λ n p run. subst (λ (x : CommandLine). asked x run.bytes ≡ Runs p) (one it is run.command run.is) run.judged;
            closing_is = λ n p run. ap closing_of is;
            no_image = λ count other sectors c wanted. no_image it is count sectors other refl c wanted;
            no_text = λ other text made c said. no_print bytes made (subst (λ (x : CommandLine). asked x text ≡ Prints made) (one it is other c) said);
            refuses = λ other text refusal c was said. (refusal, subst (λ (x : CommandLine). asked x text ≡ Refused refusal) (one it is other c) said);
          };
          opens = λ n p run. same_Some n core (sym run.opens ∙ ap core_asked (one it is run.command run.is));
          refused = λ other text refusal c was said. refused_deck bytes refusal (subst (λ (x : CommandLine). asked x text ≡ Refused refusal) (one it is other c) said);
        } in
        let x = call_is words free_told free_faults r.deck r.deck_after d r.machine (Some e) core bytes asks tells r.due in
        (x.0, took_bytes old new x.0 x.1, x.2)

  module _ (core : ℕ) (is : command_line_of words ≡ Some (commands.Image core)) (tells : DeviceTells d) (left : List (List ℕ)) (now : known_now d ≡ Some left) (few : length text ≤ deck.limit + 1) where
    abbrev Imaged : Type 0
    Imaged = PrintsImage core d.sectors left text status takes

    deck_of : (n : ℕ) (p : Prepared) → IsRun words free_told r.deck r.deck_after n p → deck_prepared text ≡ Ok p
    deck_of n p run =
        let here = one (commands.Image core) is run.command run.is in
        let read = read_all run.bytes (subst (λ (x : CommandLine). ReadAll x free_told r.deck r.deck_after run.bytes) here run.read) in
        runs_deck text p (ap judgement (sym read) ∙ subst (λ (x : CommandLine). asked x run.bytes ≡ Runs p) here run.judged)

    core_of : (n : ℕ) (p : Prepared) → IsRun words free_told r.deck r.deck_after n p → n ≡ core
    core_of n p run = same_Some n core (sym run.opens ∙ ap core_asked (one (commands.Image core) is run.command run.is))

    due_so : (due n : ℕ) (t : Text) → (due ≡ n) → (n ≡ 3 → ⊥) → IsDueOf None core d.sectors text due (whole_of t) → PrintsAndAnswers sink_told sink_faults old new due t status → Imaged
    due_so due n t s other is p = doesnt_halt due (whole_of t) (λ e. other (sym s ∙ e)) is (text_printed due due t (whole_of t) refl refl p)

    unopened_so : (p : Prepared) (due : ℕ) (t : Text) → deck_prepared text ≡ Ok p → StopsUnopened d core p due t → PrintsAndAnswers sink_told sink_faults old new due t status → Imaged
    unopened_so p due t e (memory_refused same s l) ends = due_so due 9 t s (λ z. omega (arith, z)) (described.memory_is_refused s (ap whole_of l)) ends
    unopened_so p due t e (opening_wants_core same more s l) ends = due_so due 4 t s (λ z. omega (arith, z)) (described.deck_runs p e (described.opening_lacks_core s more (ap whole_of l))) ends
    unopened_so p due t e (opening_wants_sectors same fits more s l) ends = due_so due 5 t s (λ z. omega (arith, z)) (described.deck_runs p e (described.opening_lacks_sectors s fits more (ap whole_of l))) ends
    unopened_so p due t e (opening_fails room failed s l) ends = due_so due 6 t s (λ z. omega (arith, z)) (described.deck_runs p e (described.device_fails_at_opening s room (ap whole_of l))) ends

    run_so : (p : Prepared) (due : ℕ) (t : Text) → deck_prepared text ≡ Ok p → RunStops d core p closings.Image r.machine due t → PrintsAndAnswers sink_told sink_faults old new due t status → Imaged
    run_so p due t e (unopened none u) ends = unopened_so p due t e u ends
    run_so p due t e (opened k here opens none stops) ends = by_stop (stop_so d tells core (run_of p) closings.Image (λ n. refl) k.tasks.made k due t stops)
      where
        by_stop : StopIsDue d tells core (run_of p) k.tasks.made due (whole_of t) ⊎ ((due ≡ 3) × IsHaltedAt d k.tasks.made (run_of p) closings.Image k t) → Imaged
        by_stop (inl x) =
            doesnt_halt due (whole_of t) x.not_halted (described.deck_runs p e (described.runs k.tasks.made x.line opens.room (record { within = x.within; fit = opens.fitted tells }) x.stops x.text))
            (text_printed due due t (whole_of t) refl refl ends)
        by_stop (inr x) =
            let stop = x.1.stop in
            halts p k.tasks.made k e opens.room (record { within = at_halt (run_of p).halt k.tasks.made x.1.halt; fit = opens.fitted tells }) x.1.halt opens.core_size
            (subst (λ (o : Option (List (List ℕ))). StandsAt o k (after k.tasks.made (run_of p).session)) now (subst (λ (s : Session). StandsAt (known_now d) k s) (stop.comes.session tells) stop.stands))
            (text_printed due 3 t (text_of_halt (lines k.tasks.made (run_of p).session) k k.tasks.made) x.0
            (ap whole_of x.1.text_is ∙ ap (λ ls. text_of_halt ls k k.tasks.made) (stop.comes.lines_are tells)) ends)

    by_image : Answered words free_told free_faults r.deck r.deck_after d r.machine sink_told sink_faults old new status → Imaged
    by_image (answered due t (usage_due c g same m s e) p) = absurd (no_usage (commands.Image core) is c)
    by_image (answered due t (refusal_due other read refusal c was same said m s e) p) =
        let here = one (commands.Image core) is other c in
        let at = read_some few read (subst (λ (x : CommandLine). CommandWasRead x free_told r.deck r.deck_after read) here was) in
        let refused = refused_deck text refusal (ap judgement (sym at) ∙ subst (λ (x : CommandLine). asked x read ≡ Refused refusal) here said) in
        due_so due 2 t s (λ z. omega (arith, z)) (described.deck_is_refused refusal refused s (ap whole_of e)) p
    by_image (answered due t (print_due other read made c was same said m s e) p) = absurd (no_print read made (subst (λ (x : CommandLine). asked x read ≡ Prints made) (one (commands.Image core) is other c) said))
    by_image (answered due t (image_due other sectors card reason c wanted was same m s e) p) = absurd (no_image (commands.Image core) is d.sectors sectors other refl c wanted)
    by_image (answered due t (dump_due m dump o same none s e) p) = absurd (no_image (commands.Image core) is d.sectors None commands.Dump refl o.is refl)
    by_image (answered due t (run_due n q run stops) p) =
        run_so q due t (deck_of n q run)
        (subst (λ (x : Closing). RunStops d core q x r.machine due t) (ap closing_of is) (subst (λ (x : ℕ). RunStops d x q (closing_of (command_line_of words)) r.machine due t) (core_of n q run) stops)) p
    by_image (answered due t (reading_due c rose same m s e) p) = due_so due 7 t s (λ z. omega (arith, z)) (described.source_fails s (ap whole_of e)) p
    by_image (answered due t (memory_due c same m s e) p) = due_so due 9 t s (λ z. omega (arith, z)) (described.memory_is_refused s (ap whole_of e)) p
    by_image (cut_in_step n q t count run printing a rose part) =
        let it = subst (λ (x : ℕ). IsPrintingStep d x q r.machine t count) (core_of n q run) printing in
        let x = cut_so d tells core (run_of q) it.left.tasks.made it.left t count (it.opens.fitted tells) part.proper it.cut in
        is_cut_in_lines (t.front ++ take count t.last) q x.steps a (took_bytes old new (t.front ++ take count t.last) part.took) (deck_of n q run) it.opens.room x.made x.begins
    by_image (goes_on g) = absurd (no_image (commands.Image core) is d.sectors (Some d.sectors) commands.Resume refl g.of.is refl)

    pub image_printed : Imaged
    image_printed = by_image r.due
