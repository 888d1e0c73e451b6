-- What each command of the program's call over ends that record prints and answers.
use Rattle.std.proofs.Common.{◌≡◌, ◌⊎◌, inl, inr, ℕ, List, [], ◌∷◌, ◌++◌, length, take, replicate, append-nil, arith, refl, sym, ap, subst, ◌∙◌, Option, Some, None, Ok, Bool, true}
use Rattle.std.proofs.lemmas.List.{append_cancel_left, length-replicate}
use Rattle.std.proofs.lemmas.Option.{same_Some, none-some}
use Rattle.std.specs.declared.io.Write as write
use denote.Ref.{Bor}
use Rattle.b67_io.specs.Causes.{Rose}
use Rattle.b67_io.specs.Line.{ended}
use Rattle.b67_backing.specs.declared.device.Backing.{Ghosts}
use Rattle.b67_backing.specs.declared.memory.MemoryBacking.{MemoryBacking}
use Rattle.b67_backing.specs.Memory.{memory_sectors, memory_told, memory_faults}
use Rattle.b67_gen.specs.Generated.{generated_text}
use Rattle.b67_model_text.proofs.Contents.{same_Ok}
use Rattle.b67_session_lines.specs.Ends.{EndsPrinting, all_printed, cut_off}
use Rattle.b67_job.specs.declared.command.CommandLine.{CommandLine}
use Rattle.b67_job.specs.declared.command.CommandLine.TheVariants as commands
use Rattle.b67_job.specs.declared.summaries.Exercise.{Exercise}
use Rattle.b67_job.specs.Command.{command_line_of, backing_path}
use Rattle.b67_job.specs.Device.{Device, DeviceTells, Failed, device_of}
use Rattle.b67_job.specs.Due.{reading_text}
use Rattle.b67_job.specs.Judgement.{reads_text, text_limit}
use Rattle.b67_job.specs.Lines.{backing_fault_line, memory_text}
use Rattle.b67_job.specs.Verdicts.{asm_verdict, check_verdict, convert_verdict, bind_verdict}
use Rattle.b67_program.specs.Input.{IsTakenIn}
use Rattle.b67_program.specs.Opening.{paths_of}
use Rattle.b67_program.specs.Served.{CarriesOut, IsAnswered, carried_out, reading_failed, text_wants_memory, over_file, over_memory, sectors_want_memory}
use Rattle.b67_program.specs.Words.{texts_of}
use Rattle.b67_recorded.specs.Given.{WasTextTaken}
use Rattle.b67_recorded.specs.Ends.{mirror_sectors, mirror_told, mirror_size, mirror_faults, text_told, text_faults, sink_told, sink_faults}
use Rattle.b67_recorded.specs.Files.{reads_sectors, FindsMirrored, LeavesMirrored, WasNotCopied}
use Rattle.b67_recorded.specs.Recorded as recorded
use Rattle.b67_recorded.specs.Recorded.{ServesText, is_served, IsTextServed, over_text, IsRecordServed, on_words, words_want_memory}
use Rattle.b67_recorded.specs.declared.mirror.Mirrored.{Mirrored}
use Rattle.b67_recorded.specs.declared.process.RecordedProcess.{RecordedProcess}
use Rattle.b67_recorded.specs.declared.sink.RecordedSink.{RecordedSink}
use Rattle.b67_recorded.specs.declared.source.RecordedSource.{RecordedSource}
use Rattle.b67_promises.specs.Commands.{TakesText, PrintsText, is_printed, is_cut, PrintsFailure, reading_fails, memory_is_wanted, PrintsRun, AnswersAlone, AnswersOver, IsTextOf, PrintsAlone, answers_alone, fails_alone, PrintsOver, answers_over, copy_isnt_made, fails_over, HasCauses}
use Rattle.b67_promises.specs.Paging.{texts}
use Rattle.b67_promises.proofs.CallsDescribed.{longer}
use Rattle.b67_promises.proofs.Commanded.{usage_printed, verdict_printed, dump_printed, rest_printed, run_printed, exercise_printed, image_printed}
use Rattle.b67_promises.proofs.NamedFiles.{NamesNone, names_none, NamesOne, names_one}
use Rattle.b67_promises.proofs.NotedWords.{same_line, same_path}
use Rattle.b67_promises.proofs.RecordedCalls.{always_told, took_bytes}

module _ {R : Type 0} (input input' : RecordedSource R) where
  -- the text that was given is the command's
  pub text_of : (o : Option ℕ) (text : List ℕ) → WasTextTaken o input.given.bytes input'.given.bytes input.faults input'.faults input'.ended (Ok text) → (input'.given.bytes ≡ input.given.bytes ++ text) × IsTextOf o text input'.ended
  text_of (Some most) text t = (t.0.gave, (t.0.few, t.0.all))
  text_of None text t =
      let none = same_Ok text [] t.2 in
      (t.0 ∙ sym (append-nil input.given.bytes) ∙ ap (λ (x : List ℕ). input.given.bytes ++ x) (sym none), none)

-- a text in memory is read whole
pub read_whole : (o : Option ℕ) (text read : List ℕ) → IsTakenIn o text_told text_faults text [] (Ok read) → read ≡ text
read_whole (Some most) text read t =
    let g = t.gave.told text refl in
    let none : [] ≡ g.0 = same_Some [] g.0 g.2 in
    sym (g.1 ∙ ap (λ (x : List ℕ). read ++ x) (sym none) ∙ append-nil read)
read_whole None text read t = same_Ok read [] t.1 ∙ t.0

module _ {W : Type 0} {h : write.Ghosts W} (old new : RecordedSink W h) (status : ℕ) where
  abbrev takes : List ℕ → Type 0
  takes out = TakesText old new out

  ended_so : (due : ℕ) (line : List ℕ) → EndsPrinting sink_told sink_faults old new due line status → PrintsText due line status takes
  ended_so due line (all_printed a took) = is_printed a (took_bytes old new line took)
  ended_so due line (cut_off a rose cut) = is_cut (take cut.count line) a (took_bytes old new (take cut.count line) cut.first) (longer [] line cut.count cut.proper)

  -- the status of such an end is that which is due, or the printer failed
  pub ended_at : (due n : ℕ) (line : List ℕ) → EndsPrinting sink_told sink_faults old new due line status → status ≡ n → (n ≡ 8 → ⊥) → due ≡ n
  ended_at due n line (all_printed a took) e other = sym a ∙ e
  ended_at due n line (cut_off a rose cut) e other = absurd (other (sym e ∙ a))

  ended_by : (due : ℕ) (line : List ℕ) → EndsPrinting sink_told sink_faults old new due line status → (due ≡ 8 → ⊥) → status ≡ 8 → Rose sink_faults old new
  ended_by due line (all_printed a took) other e = absurd (other (sym a ∙ e))
  ended_by due line (cut_off a rose cut) other e = rose

  module _ (words : List (Bor (List ℕ))) (text : List ℕ) where
    -- ---- of a text that was read

    exercise_so : {B : Type 0} (d : Device B) → d.sectors ≡ 4096 → (e : Exercise) (core : ℕ) → PrintsRun (Some e) core d.sectors (generated_text e.seed e.size) status takes → PrintsRun (Some e) core 4096 (generated_text e.seed e.size) status takes
    exercise_so d size e core p = subst (λ (n : ℕ). PrintsRun (Some e) core n (generated_text e.seed e.size) status takes) size p

    carried_alone : {B : Type 0} (d : Device B) → DeviceTells d → d.sectors ≡ 4096 → (o : Option CommandLine) → NamesNone o → (ended : Bool) → command_line_of words ≡ o → IsTextOf (text_limit o) text ended → CarriesOut words text d sink_told sink_faults old new status
        → AnswersAlone o text status takes ⊎ PrintsFailure status takes
    carried_alone d tells size None n ended e t r = inl (usage_printed words text d old new status r e)
    carried_alone d tells size (Some commands.Asm) n ended e t r = verdict_printed words text d old new status r commands.Asm e t.0 asm_verdict (λ b. refl) refl (λ n. refl) (λ b x. x) (λ b x. x)
    carried_alone d tells size (Some commands.Check) n ended e t r = verdict_printed words text d old new status r commands.Check e t.0 check_verdict (λ b. refl) refl (λ n. refl) (λ b x. x) (λ b x. x)
    carried_alone d tells size (Some commands.Convert) n ended e t r = verdict_printed words text d old new status r commands.Convert e t.0 convert_verdict (λ b. refl) refl (λ n. refl) (λ b x. x) (λ b x. x)
    carried_alone d tells size (Some (commands.Bind pairs)) n ended e t r = verdict_printed words text d old new status r (commands.Bind pairs) e t.0 (bind_verdict pairs) (λ b. refl) refl (λ n. refl) (λ b x. x) (λ b x. x)
    carried_alone d tells size (Some commands.Dump) n ended e t r = dump_printed words text d old new status r commands.Dump e t.0 refl (λ b. refl) refl
    carried_alone d tells size (Some (commands.Exercise seed many core)) n ended e t r =
        let it : Exercise = record { seed = seed; size = many } in
        inl (exercise_so d size it core (exercise_printed words text d old new status r it core e tells))
    carried_alone d tells size (Some (commands.Run core)) n ended e t r = absurd n
    carried_alone d tells size (Some (commands.Image core)) n ended e t r = absurd n
    carried_alone d tells size (Some commands.Resume) n ended e t r = absurd n

    carried_over : {F : Type 0} {g : Ghosts F} (file file' : Mirrored F g) (o : Option CommandLine) → NamesOne o → (ended : Bool) → command_line_of words ≡ o → IsTextOf (text_limit o) text ended
        → CarriesOut words text (device_of mirror_told mirror_size mirror_faults file file') sink_told sink_faults old new status → AnswersOver o (mirror_size file) (mirror_sectors file) (mirror_sectors file') text status takes ⊎ PrintsFailure status takes
    carried_over file file' (Some (commands.Run core)) n ended e t r = inl (run_printed words text (device_of mirror_told mirror_size mirror_faults file file') old new status r core e (always_told file) t.0)
    carried_over file file' (Some (commands.Image core)) n ended e t r = inl (image_printed words text (device_of mirror_told mirror_size mirror_faults file file') old new status r core e (always_told file) (mirror_sectors file') refl t.0)
    carried_over file file' (Some commands.Resume) n ended e t r = rest_printed words text (device_of mirror_told mirror_size mirror_faults file file') old new status r commands.Resume e t.0 refl (λ b. refl) refl (mirror_sectors file) refl
    carried_over file file' None n ended e t r = absurd n
    carried_over file file' (Some commands.Asm) n ended e t r = absurd n
    carried_over file file' (Some commands.Check) n ended e t r = absurd n
    carried_over file file' (Some commands.Convert) n ended e t r = absurd n
    carried_over file file' (Some (commands.Bind pairs)) n ended e t r = absurd n
    carried_over file file' (Some commands.Dump) n ended e t r = absurd n
    carried_over file file' (Some (commands.Exercise seed many core)) n ended e t r = absurd n

    -- over a text in memory a call fails only for want of memory
    by_answer : {B A : Type 0} (d : Device B) → (CarriesOut words text d sink_told sink_faults old new status → A ⊎ PrintsFailure status takes) → IsAnswered words text_told text_faults text [] d sink_told sink_faults old new status
        → A ⊎ PrintsFailure status takes
    by_answer d carried (carried_out r) = carried (subst (λ (x : List ℕ). CarriesOut words x d sink_told sink_faults old new status) (read_whole (text_limit (command_line_of words)) text r.bytes r.given) r.over)
    by_answer d carried (reading_failed reads rose same ends) = inr (reading_fails (ended_so 7 reading_text ends))
    by_answer d carried (text_wants_memory reads same ends) = inr (memory_is_wanted (ended_so 9 memory_text ends))

    -- ---- the causes of statuses

    no_seven : {B : Type 0} (d : Device B) → IsAnswered words text_told text_faults text [] d sink_told sink_faults old new status → status ≡ 7 → ⊥
    no_seven d (carried_out r) e = omega (arith, (r.over.means.reading_fault e).1)
    no_seven d (reading_failed reads rose same ends) e = omega (arith, rose)
    no_seven d (text_wants_memory reads same ends) e = let n = ended_at 9 7 memory_text ends e (λ z. omega (arith, z)) in omega (arith, n)

    eight_by : {B : Type 0} (d : Device B) → IsAnswered words text_told text_faults text [] d sink_told sink_faults old new status → status ≡ 8 → Rose sink_faults old new
    eight_by d (carried_out r) e = (r.over.means.printing_fault e).0
    eight_by d (reading_failed reads rose same ends) e = ended_by 7 reading_text ends (λ z. omega (arith, z)) e
    eight_by d (text_wants_memory reads same ends) e = ended_by 9 memory_text ends (λ z. omega (arith, z)) e

    six_by : {B : Type 0} (d : Device B) → IsAnswered words text_told text_faults text [] d sink_told sink_faults old new status → status ≡ 6 → Failed d
    six_by d (carried_out r) e = (r.over.means.backing_fault e).0
    six_by d (reading_failed reads rose same ends) e = let n = ended_at 7 6 reading_text ends e (λ z. omega (arith, z)) in absurd (omega (arith, n))
    six_by d (text_wants_memory reads same ends) e = let n = ended_at 9 6 memory_text ends e (λ z. omega (arith, z)) in absurd (omega (arith, n))

-- ---- a whole call

-- memory of so many sectors
abbrev memory_of : MemoryBacking → MemoryBacking → Device MemoryBacking
memory_of held held' = device_of memory_told (λ b. length (memory_sectors b)) memory_faults held held'

module _ {D F R W : Type 0} {g : Ghosts F} {h : write.Ghosts W} (opens : D → Option (List (List ℕ))) (kept : D → List ℕ → Option (List (List ℕ))) (process process' : RecordedProcess D F g) (input input' : RecordedSource R) (old new : RecordedSink W h) (status : ℕ) where
  abbrev Served : List (Bor (List ℕ)) → List ℕ → Type 0
  Served words text = ServesText g opens kept words text process.inner process'.inner process.opened.texts process'.opened.texts old new status

  abbrev TextServed : List (Bor (List ℕ)) → Type 0
  TextServed words = IsTextServed g opens kept words process.inner process'.inner process.opened.texts process'.opened.texts input input' old new status

  abbrev Given : List (Bor (List ℕ)) → List ℕ → Type 0
  Given words text = WasTextTaken (text_limit (command_line_of words)) input.given.bytes input'.given.bytes input.faults input'.faults input'.ended (Ok text)

  abbrev Alone : Option CommandLine → Type 0
  Alone command = PrintsAlone command process process' input input' old new status

  abbrev Over : Option CommandLine → List ℕ → Type 0
  Over command path = PrintsOver kept command path process process' input input' old new status

  -- ---- of words that name no file

  served_alone : (words : List (Bor (List ℕ))) → backing_path words ≡ None → (text : List ℕ) → Given words text → Served words text → Alone (command_line_of words)
  served_alone words none text given (recorded.isnt_copied path named first noted uncopied ends) = absurd (none-some path (sym none ∙ named))
  served_alone words none text given (is_served noted (over_file path file file' is found left_so a)) = absurd (none-some path (sym none ∙ is))
  served_alone words none text given (is_served noted (sectors_want_memory is ends)) =
      let t = text_of input input' (text_limit (command_line_of words)) text given in
      fails_alone text t.0 (noted.notes ∙ ap (λ (o : Option (List ℕ)). process.opened.texts ++ paths_of o) none ∙ append-nil process.opened.texts) (memory_is_wanted (ended_so old new status 9 memory_text ends))
  served_alone words none text given (is_served noted (over_memory held held' is zeros reads writes calm a)) =
      let t = text_of input input' (text_limit (command_line_of words)) text given in
      let d = memory_of held held' in
      let tells : DeviceTells d = λ e. none-some (memory_sectors held) (sym e) in
      let size : d.sectors ≡ 4096 = ap (λ (x : List (List ℕ)). length x) zeros ∙ length-replicate 4096 (replicate {A = ℕ} 30 0) in
      let x = by_answer old new status words text d (carried_alone old new status words text d tells size (command_line_of words) (names_none words none) input'.ended refl t.1) a in
      by_result t.0 t.1 (noted.notes ∙ ap (λ (o : Option (List ℕ)). process.opened.texts ++ paths_of o) none ∙ append-nil process.opened.texts) x
    where
      by_result : input'.given.bytes ≡ input.given.bytes ++ text → IsTextOf (text_limit (command_line_of words)) text input'.ended → process'.opened.texts ≡ process.opened.texts
          → AnswersAlone (command_line_of words) text status (TakesText old new) ⊎ PrintsFailure status (TakesText old new) → Alone (command_line_of words)
      by_result gave t same (inl x) = answers_alone text gave t same x
      by_result gave t same (inr f) = fails_alone text gave same f

  text_alone : (words : List (Bor (List ℕ))) → backing_path words ≡ None → TextServed words → Alone (command_line_of words)
  text_alone words none (over_text text given s) = served_alone words none text given s
  text_alone words none (recorded.reading_failed reads part gave rose same ends) = fails_alone part gave same.notes (reading_fails (ended_so old new status 7 reading_text ends))
  text_alone words none (recorded.memory_wanted part gave same ends) = fails_alone part gave same.notes (memory_is_wanted (ended_so old new status 9 memory_text ends))

  pub prints_alone : (told : D → Option (List (List ℕ))) (words : List (Bor (List ℕ))) → process'.words.texts ≡ process.words.texts ++ texts words → backing_path words ≡ None
      → IsRecordServed told opens kept process process' input input' old new status → Alone (command_line_of words)
  prints_alone told words is none (on_words words' tells is' unread s) =
      let same : texts_of words' ≡ texts words = append_cancel_left process.words.texts (texts_of words') (texts words) (sym is' ∙ is) in
      subst Alone (same_line words words' same) (text_alone words' (same_path words words' same ∙ none) s)
  prints_alone told words is none (words_want_memory same unread ends) =
      fails_alone [] (ap (λ (s : RecordedSource R). s.given.bytes) unread ∙ sym (append-nil input.given.bytes)) same.notes (memory_is_wanted (ended_so old new status 9 memory_text ends))

  -- ---- of words that name a path

  served_over : (words : List (Bor (List ℕ))) (path : List ℕ) → backing_path words ≡ Some path → (text : List ℕ) → Given words text → Served words text → Over (command_line_of words) path
  served_over words path named text given (recorded.isnt_copied other is first noted uncopied ends) =
      let t = text_of input input' (text_limit (command_line_of words)) text given in
      let same : other ≡ path = same_Some other path (sym is ∙ named) in
      copy_isnt_made text t.0 t.1 (noted.notes ∙ ap (λ (x : List ℕ). process.opened.texts ++ x ∷ []) same) first
      (subst (λ (x : List ℕ). WasNotCopied kept g.holds g.size g.faults process.inner process'.inner x) same uncopied) (ended_so old new status 6 (ended backing_fault_line) ends)
  served_over words path named text given (is_served noted (over_memory held held' none zeros reads writes calm a)) = absurd (none-some path (sym none ∙ named))
  served_over words path named text given (is_served noted (sectors_want_memory none ends)) = absurd (none-some path (sym none ∙ named))
  served_over words path named text given (is_served noted (over_file other file file' is found left_so a)) =
      let t = text_of input input' (text_limit (command_line_of words)) text given in
      let same : other ≡ path = same_Some other path (sym is ∙ named) in
      let x = by_answer old new status words text (device_of mirror_told mirror_size mirror_faults file file') (carried_over old new status words text file file' (command_line_of words) (names_one words path named) input'.ended refl t.1) a in
      by_result t.0 t.1 (noted.notes ∙ ap (λ (o : Option (List ℕ)). process.opened.texts ++ paths_of o) named)
      (subst (λ (q : List ℕ). FindsMirrored kept process.inner (reads_sectors (command_line_of words)) q file) same found) (subst (λ (q : List ℕ). LeavesMirrored kept process'.inner q file') same left_so) x
    where
      by_result : input'.given.bytes ≡ input.given.bytes ++ text → IsTextOf (text_limit (command_line_of words)) text input'.ended → process'.opened.texts ≡ process.opened.texts ++ path ∷ []
          → FindsMirrored kept process.inner (reads_sectors (command_line_of words)) path file → LeavesMirrored kept process'.inner path file'
          → AnswersOver (command_line_of words) (mirror_size file) (mirror_sectors file) (mirror_sectors file') text status (TakesText old new) ⊎ PrintsFailure status (TakesText old new) → Over (command_line_of words) path
      by_result gave t notes found left_so (inl x) = answers_over text gave t notes file file' found left_so x
      by_result gave t notes found left_so (inr f) = fails_over text gave (inr notes) f

  text_over : (words : List (Bor (List ℕ))) (path : List ℕ) → backing_path words ≡ Some path → TextServed words → Over (command_line_of words) path
  text_over words path named (over_text text given s) = served_over words path named text given s
  text_over words path named (recorded.reading_failed reads part gave rose same ends) = fails_over part gave (inl same.notes) (reading_fails (ended_so old new status 7 reading_text ends))
  text_over words path named (recorded.memory_wanted part gave same ends) = fails_over part gave (inl same.notes) (memory_is_wanted (ended_so old new status 9 memory_text ends))

  pub prints_over : (told : D → Option (List (List ℕ))) (words : List (Bor (List ℕ))) (path : List ℕ) → process'.words.texts ≡ process.words.texts ++ texts words → backing_path words ≡ Some path
      → IsRecordServed told opens kept process process' input input' old new status → Over (command_line_of words) path
  prints_over told words path is named (on_words words' tells is' unread s) =
      let same : texts_of words' ≡ texts words = append_cancel_left process.words.texts (texts_of words') (texts words) (sym is' ∙ is) in
      subst (λ (o : Option CommandLine). Over o path) (same_line words words' same) (text_over words' path (same_path words words' same ∙ named) s)
  prints_over told words path is named (words_want_memory same unread ends) =
      fails_over [] (ap (λ (s : RecordedSource R). s.given.bytes) unread ∙ sym (append-nil input.given.bytes)) (inl same.notes) (memory_is_wanted (ended_so old new status 9 memory_text ends))

  -- ---- the causes of statuses

  abbrev Reads : Option CommandLine → Type 0
  Reads command = (reads_text command ≡ true) × Rose (λ (s : RecordedSource R). s.faults) input input'

  served_seven : (words : List (Bor (List ℕ))) (text : List ℕ) → Served words text → status ≡ 7 → ⊥
  served_seven words text (recorded.isnt_copied other is first noted uncopied ends) e = let n = ended_at old new status 6 7 (ended backing_fault_line) ends e (λ z. omega (arith, z)) in omega (arith, n)
  served_seven words text (is_served noted (over_memory held held' none zeros reads writes calm a)) e = no_seven old new status words text (memory_of held held') a e
  served_seven words text (is_served noted (sectors_want_memory none ends)) e = let n = ended_at old new status 9 7 memory_text ends e (λ z. omega (arith, z)) in omega (arith, n)
  served_seven words text (is_served noted (over_file other file file' is found left_so a)) e = no_seven old new status words text (device_of mirror_told mirror_size mirror_faults file file') a e

  served_eight : (words : List (Bor (List ℕ))) (text : List ℕ) → Served words text → status ≡ 8 → Rose sink_faults old new
  served_eight words text (recorded.isnt_copied other is first noted uncopied ends) e = ended_by old new status 6 (ended backing_fault_line) ends (λ z. omega (arith, z)) e
  served_eight words text (is_served noted (over_memory held held' none zeros reads writes calm a)) e = eight_by old new status words text (memory_of held held') a e
  served_eight words text (is_served noted (sectors_want_memory none ends)) e = ended_by old new status 9 memory_text ends (λ z. omega (arith, z)) e
  served_eight words text (is_served noted (over_file other file file' is found left_so a)) e = eight_by old new status words text (device_of mirror_told mirror_size mirror_faults file file') a e

  seven_so : (words : List (Bor (List ℕ))) → TextServed words → status ≡ 7 → Reads (command_line_of words)
  seven_so words (over_text text given s) e = absurd (served_seven words text s e)
  seven_so words (recorded.reading_failed reads part gave rose same ends) e = (reads, rose)
  seven_so words (recorded.memory_wanted part gave same ends) e = let n = ended_at old new status 9 7 memory_text ends e (λ z. omega (arith, z)) in absurd (omega (arith, n))

  eight_so : (words : List (Bor (List ℕ))) → TextServed words → status ≡ 8 → Rose sink_faults old new
  eight_so words (over_text text given s) e = served_eight words text s e
  eight_so words (recorded.reading_failed reads part gave rose same ends) e = ended_by old new status 7 reading_text ends (λ z. omega (arith, z)) e
  eight_so words (recorded.memory_wanted part gave same ends) e = ended_by old new status 9 memory_text ends (λ z. omega (arith, z)) e

  pub has_causes : (told : D → Option (List (List ℕ))) (words : List (Bor (List ℕ))) → process'.words.texts ≡ process.words.texts ++ texts words → IsRecordServed told opens kept process process' input input' old new status
      → HasCauses (command_line_of words) input input' old new status
  has_causes told words is (on_words words' tells is' unread s) =
      let same : texts_of words' ≡ texts words = append_cancel_left process.words.texts (texts_of words') (texts words) (sym is' ∙ is) in
      record {
        reading = λ e. subst Reads (same_line words words' same) (seven_so words' s e);
        printing = λ e. eight_so words' s e;
      }
  has_causes told words is (words_want_memory same unread ends) = record {
    reading = λ e. let n = ended_at old new status 9 7 memory_text ends e (λ z. omega (arith, z)) in absurd (omega (arith, n));
    printing = λ e. ended_by old new status 9 memory_text ends (λ z. omega (arith, z)) e;
  }
