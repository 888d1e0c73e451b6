-- What a call of the program prints, as the run of its deck has it.
use Rattle.std.proofs.Common.{◌≡◌, ◌≢◌, ◌≤◌, ◌+◌, inl, inr, ℕ, List, [], ◌∷◌, ◌++◌, length, append-nil, refl, sym, ap, subst, ◌∙◌, arith, Option, Some, None, Ok}
use Rattle.std.proofs.lemmas.List.{length-append}
use Rattle.std.proofs.lemmas.Option.{none-some}
use Rattle.std.proofs.lemmas.Bool.{false≢true}
use denote.Ref.{Bor}
use Rattle.b67_io.specs.Free.{free_told, free_faults}
use Rattle.b67_backing.specs.Memory.{memory_sectors, memory_told, memory_faults}
use Rattle.b67_model_text.specs.Deck.{limit}
use Rattle.b67_session_lines.specs.Ends.{EndsPrinting, all_printed, cut_off}
use Rattle.b67_job.specs.declared.command.CommandLine.{CommandLine}
use Rattle.b67_job.specs.declared.command.CommandLine.TheVariants as commands
use Rattle.b67_job.specs.Command.{command_line_of, backing_path}
use Rattle.b67_job.specs.Device.{Device, DeviceTells, device_of}
use Rattle.b67_job.specs.Due.{usage_due, refusal_due, print_due, image_due, dump_due, run_due, reading_due, memory_due, Answered, answered, cut_in_step, goes_on, usage_text, reading_text}
use Rattle.b67_job.specs.Judgement.{judgement, reads_text, text_limit}
use Rattle.b67_job.specs.Lines.{memory_text}
use Rattle.b67_job.specs.Texts.{PrintsAndAnswers, all_taken, cut_short, only}
use Rattle.std.specs.Prelude.{is_some}
use Rattle.b67_task.specs.declared.tables.Machine.{Machine}
use Rattle.b67_program.specs.Input.{IsTakenIn}
use Rattle.b67_program.specs.Opening.{Finds}
use Rattle.b67_program.specs.Served.{IsCarriedOut, IsAnswered, carried_out, reading_failed, text_wants_memory, IsServed, over_file, over_memory, sectors_want_memory}
use Rattle.b67_promises.specs.Paging.{AsksForRun, FileIsTold}
use Rattle.b67_promises.proofs.Calls.{Prints_so, call_prints, short_call, short_at, lone}
use Rattle.b67_promises.proofs.OneLines.{usage_is_one, reading_is_one, memory_is_one}
use Rattle.b67_promises.proofs.Words.{asks_run, run_words}

-- a file tells its sectors if it is told what its path's file holds
pub found_tells : {R B : Type 0} (kept : R → List ℕ → Option (List (List ℕ))) (holds : B → Option (List (List ℕ))) (now : R) (path : List ℕ) (file : B) → kept now path ≢ None → Finds kept holds now path file → holds file ≢ None
found_tells kept holds now path file known f none = grind arith

-- so does one at the path that is named
pub named_tells : {R B : Type 0} (kept : R → List ℕ → Option (List (List ℕ))) (holds : B → Option (List (List ℕ))) (now : R) (named : Option (List ℕ)) → FileIsTold kept now named
    → (path : List ℕ) (file : B) → named ≡ Some path → Finds kept holds now path file → holds file ≢ None
named_tells kept holds now named known path file e f = found_tells kept holds now path file (subst (FileIsTold kept now) e known) f

pub answers_so : {K : Type 0} (taken : K → Option (List ℕ)) (faults : K → ℕ) (old new : K) (status : ℕ) (text : List ℕ) (answer : ℕ) → EndsPrinting taken faults old new status text answer → PrintsAndAnswers taken faults old new status (only text) answer
answers_so taken faults old new status text answer (all_printed a took) = all_taken a took
answers_so taken faults old new status text answer (cut_off a rose part) = cut_short part.count a rose (record { proper = part.proper; took = part.first })

-- a text that is one byte longer than what may be read, or less, was read to its end
pub taken_whole : {S : Type 0} (left : S → Option (List ℕ)) (faults : S → ℕ) (input input' : S) (most : ℕ) (bytes : List ℕ) → left input ≡ Some bytes → length bytes ≤ most + 1
    → (read : List ℕ) → IsTakenIn (Some most) left faults input input' (Ok read) → bytes ≡ read
taken_whole left faults input input' most bytes told few read t =
    let g = t.gave.told bytes told in by_rest g.0 g.1 (λ short. (t.all short).told g.0 g.2)
  where
    by_rest : (rest : List ℕ) → bytes ≡ read ++ rest → (length read ≤ most → rest ≡ []) → bytes ≡ read
    by_rest [] is none = is ∙ append-nil read
    by_rest (x ∷ rest) is none = absurd (omega (arith, ap length (none (omega (arith, few, ap length is, length-append read (x ∷ rest))))))

module _ {S K : Type 0} (words : List (Bor (List ℕ))) (w : AsksForRun words) (left : S → Option (List ℕ)) (source_faults : S → ℕ) (input input' : S) (taken : K → Option (List ℕ)) (faults : K → ℕ) (old new : K) (answer : ℕ)
    (bytes : List ℕ) (told : left input ≡ Some bytes) (few : length bytes ≤ limit + 1) where
  abbrev So : Type 0
  So = Prints_so taken faults old new (judgement bytes) None answer

  -- no command: the usage is printed
  usage : {T B : Type 0} (left' : T → Option (List ℕ)) (faults' : T → ℕ) (deck deck' : T) (d : Device B) (machine : Option Machine) → command_line_of words ≡ None → Answered words left' faults' deck deck' d machine taken faults old new answer → So
  usage left' faults' deck deck' d machine none (answered status text (usage_due c g same m s t) closes) = short_call taken faults old new (judgement bytes) None status text answer (short_at status 1 s (inr (omega arith, omega arith))) (λ r. lone r text usage_text usage_is_one t) closes
  usage left' faults' deck deck' d machine none (answered status text (refusal_due command b refusal c r same judged m s t) closes) = absurd (none-some command (sym none ∙ c))
  usage left' faults' deck deck' d machine none (answered status text (print_due command b printed c r same judged m s t) closes) = absurd (none-some command (sym none ∙ c))
  usage left' faults' deck deck' d machine none (answered status text (image_due command sectors card reason c wanted r same m s t) closes) = absurd (none-some command (sym none ∙ c))
  usage left' faults' deck deck' d machine none (answered status text (dump_due image dump o same m s t) closes) = absurd (none-some commands.Dump (sym none ∙ o.is))
  usage left' faults' deck deck' d machine none (answered status text (run_due core p run stops) closes) = absurd (none-some run.command (sym none ∙ run.is))
  usage left' faults' deck deck' d machine none (answered status text (reading_due c r same m s t) closes) = absurd (false≢true (sym (ap reads_text none) ∙ c))
  usage left' faults' deck deck' d machine none (answered status text (memory_due c same m s t) closes) = absurd (false≢true (sym (ap is_some none) ∙ c))
  usage left' faults' deck deck' d machine none (cut_in_step core p text count run printing a rose part) = absurd (none-some run.command (sym none ∙ run.is))
  usage left' faults' deck deck' d machine none (goes_on g) = absurd (none-some commands.Resume (sym none ∙ g.of.is))

  -- a run: all bytes were read
  pub all_read : (read : List ℕ) → IsTakenIn (Some limit) left source_faults input input' (Ok read) → bytes ≡ read
  all_read read t = taken_whole left source_faults input input' limit bytes told few read t

  carried : {B : Type 0} (d : Device B) → DeviceTells d → IsCarriedOut words left source_faults input input' d taken faults old new answer → So
  carried d tells r = by_command (command_line_of words) refl
    where
      by_command : (o : Option CommandLine) → command_line_of words ≡ o → So
      by_command None none = usage free_told free_faults r.over.deck r.over.deck_after d r.over.machine none r.over.due
      by_command (Some command) is =
          let c = run_words words w command is in
          let most : text_limit (command_line_of words) ≡ Some limit = ap text_limit (is ∙ ap Some c.1) in
          let same : bytes ≡ r.bytes = all_read r.bytes (subst (λ (o : Option ℕ). IsTakenIn o left source_faults input input' (Ok r.bytes)) most r.given) in
          call_prints taken faults old new (judgement bytes) None (asks_run words free_told r.over.deck r.over.deck_after bytes w (ap Some (r.over.holds ∙ sym same))) tells answer r.over.due

  by_answer : {B : Type 0} (d : Device B) → DeviceTells d → IsAnswered words left source_faults input input' d taken faults old new answer → So
  by_answer d tells (carried_out r) = carried d tells r
  by_answer d tells (reading_failed reads rose kept ends) =
      short_call taken faults old new (judgement bytes) None 7 (only reading_text) answer (short_at 7 7 refl (inl (omega arith))) (λ r. lone r (only reading_text) reading_text reading_is_one refl) (answers_so taken faults old new 7 reading_text answer ends)
  by_answer d tells (text_wants_memory reads kept ends) =
      short_call taken faults old new (judgement bytes) None 9 (only memory_text) answer (short_at 9 9 refl (inl (omega arith))) (λ r. lone r (only memory_text) memory_text memory_is_one refl) (answers_so taken faults old new 9 memory_text answer ends)

  pub serve_prints : {B : Type 0} (holds : B → Option (List (List ℕ))) (size broken : B → ℕ) (finds leaves : List ℕ → B → Type 0) → ((path : List ℕ) (file : B) → backing_path words ≡ Some path → finds path file → holds file ≢ None) → IsServed words left source_faults input input' finds leaves (device_of holds size broken) taken faults old new answer → So
  serve_prints holds size broken finds leaves tells (over_file path file file' is found left_so a) = by_answer (device_of holds size broken file file') (tells path file is found) a
  serve_prints holds size broken finds leaves tells (over_memory held held' none zeros reads writes calm a) =
      by_answer (device_of memory_told (λ b. length (memory_sectors b)) memory_faults held held') (λ e. none-some (memory_sectors held) (sym e)) a
  serve_prints holds size broken finds leaves tells (sectors_want_memory none ends) =
      short_call taken faults old new (judgement bytes) None 9 (only memory_text) answer (short_at 9 9 refl (inl (omega arith))) (λ r. lone r (only memory_text) memory_text memory_is_one refl) (answers_so taken faults old new 9 memory_text answer ends)
