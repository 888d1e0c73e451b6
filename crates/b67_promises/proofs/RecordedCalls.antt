-- What the program's call over ends that record prints and answers, as the machine of the model has it.
use Rattle.std.proofs.Common.{◌≡◌, ◌≢◌, ◌≤◌, ◌+◌, ◌⊎◌, inl, inr, ℕ, List, [], ◌∷◌, ◌++◌, length, take, append-nil, arith, refl, sym, ap, subst, ◌∙◌, Option, Some, None, Ok, Bool, false}
use Rattle.std.specs.Prelude.{codes, decimal}
use Rattle.std.proofs.lemmas.Bool.{false≢true}
use Rattle.std.proofs.lemmas.List.{append_cancel_left}
use Rattle.std.proofs.lemmas.Option.{same_Some, none-some}
use denote.Ref.{Bor}
use Rattle.std.specs.declared.io.Write as write
use Rattle.b67_io.specs.Told.{Took}
use Rattle.b67_backing.specs.declared.device.Backing.{Ghosts}
use Rattle.b67_model_text.proofs.Contents.{same_Ok}
use Rattle.b67_model_text.specs.Deck.{limit}
use Rattle.b67_session_lines.specs.Ends.{EndsPrinting, all_printed, cut_off}
use Rattle.b67_job.specs.declared.command.CommandLine.{CommandLine}
use Rattle.b67_job.specs.Command.{command_line_of, backing_path}
use Rattle.b67_job.specs.Due.{reading_text}
use Rattle.b67_job.specs.Judgement.{judgement, text_limit}
use Rattle.b67_job.specs.Lines.{memory_text}
use Rattle.b67_job.specs.Texts.{only}
use Rattle.b67_program.specs.Opening.{paths_of}
use Rattle.b67_program.specs.Words.{texts_of}
use Rattle.b67_recorded.specs.Given.{WasTextTaken}
use Rattle.b67_recorded.specs.Ends.{mirror_sectors, mirror_told, mirror_size, mirror_faults, text_told, text_faults, sink_told, sink_faults}
use Rattle.b67_recorded.specs.Files.{reads_sectors, FindsMirrored, LeavesMirrored}
use Rattle.b67_recorded.specs.Recorded.{ServesText, is_served, isnt_copied, IsTextServed, over_text, reading_failed, memory_wanted, IsRecordServed, on_words, words_want_memory}
use Rattle.b67_recorded.specs.declared.mirror.Mirrored.{Mirrored}
use Rattle.b67_recorded.specs.declared.process.RecordedProcess.{RecordedProcess}
use Rattle.b67_recorded.specs.declared.sink.RecordedSink.{RecordedSink}
use Rattle.b67_recorded.specs.declared.source.RecordedSource.{RecordedSource}
use Rattle.b67_promises.specs.Described as described
use Rattle.b67_promises.specs.Described.{IsRunCommand, IsAnsweredSo, IsDueOf}
use Rattle.b67_promises.specs.Paged.{PagesOverMirror}
use Rattle.b67_promises.specs.Paging.{texts, IsWhole, AsksForRun}
use Rattle.b67_promises.specs.Shipped.{FilesHave, IsWholeText, IsStoppedEarly, PrintsAsDescribed, TookTheSame}
use Rattle.b67_promises.proofs.CallsDescribed.{longer}
use Rattle.b67_promises.proofs.Calls.{Prints_so, short_call, short_at, lone}
use Rattle.b67_promises.proofs.OneLines.{reading_is_one, memory_is_one}
use Rattle.b67_promises.proofs.Pairs.{same_lines}
use Rattle.b67_promises.proofs.RunWords.{run_command, run_path}
use Rattle.b67_promises.proofs.Serves.{answers_so, serve_prints}
use Rattle.b67_promises.proofs.ServesDescribed.{serve_told, whole_over_file}
use Rattle.b67_promises.proofs.Words.{run_words}

-- ---- words, texts and bytes

-- the two forms of a run command
abbrev RunTexts : ℕ → List ℕ → List (List ℕ) → Type 0
RunTexts core path ts = (ts ≡ codes "run" ∷ codes "--core" ∷ decimal core ∷ codes "--backing" ∷ path ∷ []) ⊎ (ts ≡ codes "run" ∷ codes "--backing" ∷ path ∷ codes "--core" ∷ decimal core ∷ [])

-- of the words only the texts matter
pub same_command : (core : ℕ) (words words' : List (Bor (List ℕ))) → texts words' ≡ texts words → (w : IsRunCommand core words) → (w' : IsRunCommand core words') × (w'.path ≡ w.path)
same_command core words words' same w = (
  record {
    path = w.path;
    is = subst (RunTexts core w.path) (sym same) w.is;
    least = w.least;
    most = w.most;
    named = w.named;
  },
  refl,
)

-- the bytes that a printer took
pub took_bytes : {W : Type 0} {h : write.Ghosts W} (old new : RecordedSink W h) (out : List ℕ) → Took sink_told old new out → new.noted.bytes ≡ old.noted.bytes ++ out
took_bytes old new out t = same_Some new.noted.bytes (old.noted.bytes ++ out) (t.told old.noted.bytes refl)

-- a mirrored file tells what its sectors hold
pub always_told : {F : Type 0} {g : Ghosts F} (file : Mirrored F g) → mirror_told file ≢ None
always_told file e = none-some (mirror_sectors file) (sym e)

-- the text of a command that reads one was read to its end, or past the limit
whole_text : {R : Type 0} (o : Option ℕ) (input input' : RecordedSource R) (text : List ℕ) → o ≡ Some limit → WasTextTaken o input.given.bytes input'.given.bytes input.faults input'.faults input'.ended (Ok text)
    → (input'.given.bytes ≡ input.given.bytes ++ text) × IsWholeText text input'.ended
whole_text (Some most) input input' text e t = grind arith
whole_text None input input' text e t = absurd (none-some limit e)

early : {K : Type 0} (taken : K → Option (List ℕ)) (faults : K → ℕ) (old new : K) (due : ℕ) (text : List ℕ) (status : ℕ) → (due ≡ 7) ⊎ (due ≡ 9) → EndsPrinting taken faults old new due text status → IsStoppedEarly status
early taken faults old new due text status (inl e) (all_printed a t) = inl (a ∙ e)
early taken faults old new due text status (inr e) (all_printed a t) = inr (inr (a ∙ e))
early taken faults old new due text status e (cut_off a rose part) = inr (inl a)

-- ---- one call

-- the words of a run don't read sectors first
runs_first : (core : ℕ) (words : List (Bor (List ℕ))) → IsRunCommand core words → reads_sectors (command_line_of words) ≡ false
runs_first core words w = ap reads_sectors (run_command core words w)

module _ {D F R W : Type 0} {g : Ghosts F} {h : write.Ghosts W} (kept : D → List ℕ → Option (List (List ℕ))) (core sectors : ℕ) (process process' : RecordedProcess D F g) (input input' : RecordedSource R) (old new : RecordedSink W h) (status : ℕ) where
  -- it ends before a file is opened
  stopped : (path : List ℕ) (due : ℕ) (line part : List ℕ) → IsDueOf None core sectors part due line → (due ≡ 7) ⊎ (due ≡ 9) → input'.given.bytes ≡ input.given.bytes ++ part
      → process'.opened.texts ≡ process.opened.texts → EndsPrinting sink_told sink_faults old new due line status → PrintsAsDescribed core sectors path process process' input input' old new status
  stopped path due line part is at gave same (all_printed a took) = record {
    text = part;
    gave = gave;
    out = line;
    took = took_bytes old new line took;
    so = described.as_due (subst (λ (n : ℕ). IsDueOf None core sectors part n line) (sym a) is);
    opened = inr (early sink_told sink_faults old new due line status at (all_printed a took), same);
  }
  stopped path due line part is at gave same (cut_off a rose cut) = record {
    text = part;
    gave = gave;
    out = take cut.count line;
    took = took_bytes old new (take cut.count line) cut.first;
    so = described.cut_in_due due line a is (longer [] line cut.count cut.proper);
    opened = inr (inr (inl a), same);
  }

  served : (opens : D → Option (List (List ℕ))) (words : List (Bor (List ℕ))) (w : IsRunCommand core words) → FilesHave process sectors → (text : List ℕ)
      → WasTextTaken (text_limit (command_line_of words)) input.given.bytes input'.given.bytes input.faults input'.faults input'.ended (Ok text)
      → ServesText g opens kept words text process.inner process'.inner process.opened.texts process'.opened.texts old new status → PrintsAsDescribed core sectors w.path process process' input input' old new status
  served opens words w have text given (is_served noted s) =
      let read = whole_text (text_limit (command_line_of words)) input input' text (ap text_limit (run_command core words w)) given in
      let first = reads_sectors (command_line_of words) in
      let told : (path : List ℕ) (file : Mirrored F g) → backing_path words ≡ Some path → FindsMirrored kept process.inner first path file → mirror_told file ≢ None = λ path file is found. always_told file in
      let x = serve_told words core w text_told text_faults text [] sink_told sink_faults old new status text refl read.1.few (mirror_told {F = F} {g = g}) mirror_size mirror_faults (FindsMirrored {g = g} kept process.inner first) (LeavesMirrored {g = g} kept process'.inner) told s in
      record {
        text = text;
        gave = read.0;
        out = x.2.0;
        took = took_bytes old new x.2.0 x.2.1;
        so = subst (λ (n : ℕ). IsAnsweredSo None core n text status x.2.0) (have x.0.inner) x.2.2;
        opened = inl (read.1, noted.notes ∙ ap (λ (o : Option (List ℕ)). process.opened.texts ++ paths_of o) (run_path core words w));
      }
  served opens words w have text given (isnt_copied path named first noted uncopied ends) = absurd (false≢true (sym (runs_first core words w) ∙ first))

  text_served : (opens : D → Option (List (List ℕ))) (words : List (Bor (List ℕ))) (w : IsRunCommand core words) → FilesHave process sectors
      → IsTextServed g opens kept words process.inner process'.inner process.opened.texts process'.opened.texts input input' old new status → PrintsAsDescribed core sectors w.path process process' input input' old new status
  text_served opens words w have (over_text text given s) = served opens words w have text given s
  text_served opens words w have (reading_failed reads part gave rose same ends) = stopped w.path 7 reading_text part (described.source_fails refl refl) (inl refl) gave same.notes ends
  text_served opens words w have (memory_wanted part gave same ends) = stopped w.path 9 memory_text part (described.memory_is_refused refl refl) (inr refl) gave same.notes ends

  pub described_so : (told opens : D → Option (List (List ℕ))) (words : List (Bor (List ℕ))) (w : IsRunCommand core words) → process'.words.texts ≡ process.words.texts ++ texts words → FilesHave process sectors
      → IsRecordServed told opens kept process process' input input' old new status → PrintsAsDescribed core sectors w.path process process' input input' old new status
  described_so told opens words w is have (on_words words' tells is' unread s) =
      let same : texts_of words' ≡ texts words = append_cancel_left process.words.texts (texts_of words') (texts words) (sym is' ∙ is) in
      let w' = same_command core words words' same w in
      subst (λ (path : List ℕ). PrintsAsDescribed core sectors path process process' input input' old new status) w'.1 (text_served opens words' w'.0 have s)
  described_so told opens words w is have (words_want_memory same unread ends) =
      stopped w.path 9 memory_text [] (described.memory_is_refused refl refl) (inr refl) (ap (λ (s : RecordedSource R). s.given.bytes) unread ∙ sym (append-nil input.given.bytes)) same.notes ends

  -- ---- one that is whole has paged over its file

  -- a call that stopped so isn't whole
  not_due : (due : ℕ) (line : List ℕ) → (due ≡ 7) ⊎ (due ≡ 9) → EndsPrinting sink_told sink_faults old new due line status → IsWhole status → ⊥
  not_due due line at ends whole =
      let e : IsStoppedEarly status = early sink_told sink_faults old new due line status at ends in
      short e whole
    where
      short : IsStoppedEarly status → IsWhole status → ⊥
      short (inl e) w = short_at status 7 e (inl (omega arith)) w
      short (inr (inl e)) w = short_at status 8 e (inl (omega arith)) w
      short (inr (inr e)) w = short_at status 9 e (inl (omega arith)) w

  abbrev Pages : List ℕ → Type 0
  Pages path = PagesOverMirror kept core path process process' input input' status

  served_pages : (opens : D → Option (List (List ℕ))) (words : List (Bor (List ℕ))) (w : IsRunCommand core words) → IsWhole status → (text : List ℕ)
      → WasTextTaken (text_limit (command_line_of words)) input.given.bytes input'.given.bytes input.faults input'.faults input'.ended (Ok text)
      → ServesText g opens kept words text process.inner process'.inner process.opened.texts process'.opened.texts old new status → Pages w.path
  served_pages opens words w whole text given (is_served noted s) =
      let read = whole_text (text_limit (command_line_of words)) input input' text (ap text_limit (run_command core words w)) given in
      let first = reads_sectors (command_line_of words) in
      let told : (path : List ℕ) (file : Mirrored F g) → backing_path words ≡ Some path → FindsMirrored kept process.inner first path file → mirror_told file ≢ None = λ path file is found. always_told file in
      let y = whole_over_file words core w text_told text_faults text [] sink_told sink_faults old new status text refl read.1.few (mirror_told {F = F} {g = g}) mirror_size mirror_faults (FindsMirrored {g = g} kept process.inner first) (LeavesMirrored {g = g} kept process'.inner) told whole s in
      record {
        text = text;
        gave = read.0;
        file = y.0;
        found = subst (λ (copies : Bool). FindsMirrored kept process.inner copies w.path y.0) (runs_first core words w) y.2;
        file_after = y.1;
        left = y.3;
        p = y.4.0;
        prepared = y.4.1;
        paged = y.4.2;
      }
  served_pages opens words w whole text given (isnt_copied path named first noted uncopied ends) = absurd (false≢true (sym (runs_first core words w) ∙ first))

  text_pages : (opens : D → Option (List (List ℕ))) (words : List (Bor (List ℕ))) (w : IsRunCommand core words) → IsWhole status
      → IsTextServed g opens kept words process.inner process'.inner process.opened.texts process'.opened.texts input input' old new status → Pages w.path
  text_pages opens words w whole (over_text text given s) = served_pages opens words w whole text given s
  text_pages opens words w whole (reading_failed reads part gave rose same ends) = absurd (not_due 7 reading_text (inl refl) ends whole)
  text_pages opens words w whole (memory_wanted part gave same ends) = absurd (not_due 9 memory_text (inr refl) ends whole)

  pub paged_so : (told opens : D → Option (List (List ℕ))) (words : List (Bor (List ℕ))) (w : IsRunCommand core words) → process'.words.texts ≡ process.words.texts ++ texts words → IsWhole status
      → IsRecordServed told opens kept process process' input input' old new status → Pages w.path
  paged_so told opens words w is whole (on_words words' tells is' unread s) =
      let same : texts_of words' ≡ texts words = append_cancel_left process.words.texts (texts_of words') (texts words) (sym is' ∙ is) in
      let w' = same_command core words words' same w in
      subst Pages w'.1 (text_pages opens words' w'.0 whole s)
  paged_so told opens words w is whole (words_want_memory same unread ends) = absurd (not_due 9 memory_text (inr refl) ends whole)

-- ---- two calls

module _ {D F R W : Type 0} {g : Ghosts F} {h : write.Ghosts W} (kept : D → List ℕ → Option (List (List ℕ))) (process process' : RecordedProcess D F g) (input input' : RecordedSource R) (old new : RecordedSink W h) (status : ℕ) (text : List ℕ) where
  abbrev So : Type 0
  So = Prints_so sink_told sink_faults old new (judgement text) None status

  short_reading : EndsPrinting sink_told sink_faults old new 7 reading_text status → So
  short_reading ends =
      short_call sink_told sink_faults old new (judgement text) None 7 (only reading_text) status (short_at 7 7 refl (inl (omega arith))) (λ r. lone r (only reading_text) reading_text reading_is_one refl) (answers_so sink_told sink_faults old new 7 reading_text status ends)

  short_memory : EndsPrinting sink_told sink_faults old new 9 memory_text status → So
  short_memory ends =
      short_call sink_told sink_faults old new (judgement text) None 9 (only memory_text) status (short_at 9 9 refl (inl (omega arith))) (λ r. lone r (only memory_text) memory_text memory_is_one refl) (answers_so sink_told sink_faults old new 9 memory_text status ends)

  -- the text that was read is that which the input gave
  given_text : (o : Option CommandLine) → ((command : CommandLine) → o ≡ Some command → text_limit o ≡ Some limit) → input'.given.bytes ≡ input.given.bytes ++ text → (read : List ℕ)
      → WasTextTaken (text_limit o) input.given.bytes input'.given.bytes input.faults input'.faults input'.ended (Ok read) → (read ≡ text) × (length read ≤ limit + 1)
  given_text (Some command) reads gave read t =
      let whole = whole_text (text_limit (Some command)) input input' read (reads command refl) t in
      (append_cancel_left input.given.bytes read text (sym whole.0 ∙ gave), whole.1.few)
  given_text None reads gave read t =
      let none : read ≡ [] = same_Ok read [] t.2 in
      let empty : [] ≡ text = append_cancel_left input.given.bytes [] text (append-nil input.given.bytes ∙ sym t.0 ∙ gave) in
      (none ∙ empty, omega (arith, ap length none))

  served_prints : (opens : D → Option (List (List ℕ))) (words : List (Bor (List ℕ))) → AsksForRun words → input'.given.bytes ≡ input.given.bytes ++ text → (read : List ℕ)
      → WasTextTaken (text_limit (command_line_of words)) input.given.bytes input'.given.bytes input.faults input'.faults input'.ended (Ok read)
      → ServesText g opens kept words read process.inner process'.inner process.opened.texts process'.opened.texts old new status → So
  served_prints opens words asks gave read given (is_served noted s) =
      let reads : (command : CommandLine) → command_line_of words ≡ Some command → text_limit (command_line_of words) ≡ Some limit = λ command is. ap text_limit (is ∙ ap Some (run_words words asks command is).1) in
      let t = given_text (command_line_of words) reads gave read given in
      let first = reads_sectors (command_line_of words) in
      let told : (path : List ℕ) (file : Mirrored F g) → backing_path words ≡ Some path → FindsMirrored kept process.inner first path file → mirror_told file ≢ None = λ path file is found. always_told file in
      subst (λ (x : List ℕ). Prints_so sink_told sink_faults old new (judgement x) None status) t.0
      (serve_prints words asks text_told text_faults read [] sink_told sink_faults old new status read refl t.1 (mirror_told {F = F} {g = g}) mirror_size mirror_faults (FindsMirrored {g = g} kept process.inner first) (LeavesMirrored {g = g} kept process'.inner) told s)
  served_prints opens words asks gave read given (isnt_copied path named first noted uncopied ends) = absurd (by_command (command_line_of words) refl)
    where
      by_command : (o : Option CommandLine) → command_line_of words ≡ o → ⊥
      by_command None e = false≢true (sym (ap reads_sectors e) ∙ first)
      by_command (Some command) e = false≢true (sym (ap reads_sectors (e ∙ ap Some (run_words words asks command e).1)) ∙ first)

  pub call_prints : (told opens : D → Option (List (List ℕ))) (words : List (Bor (List ℕ))) → AsksForRun words → process'.words.texts ≡ process.words.texts ++ texts words → input'.given.bytes ≡ input.given.bytes ++ text
      → IsRecordServed told opens kept process process' input input' old new status → So
  call_prints told opens words asks is gave (on_words words' tells is' unread (over_text read given s)) =
      let same : texts_of words' ≡ texts words = append_cancel_left process.words.texts (texts_of words') (texts words) (sym is' ∙ is) in
      served_prints opens words' (ap (λ (ts : List (List ℕ)). take 1 ts) same ∙ asks) gave read given s
  call_prints told opens words asks is gave (on_words words' tells is' unread (reading_failed reads part given rose same ends)) = short_reading ends
  call_prints told opens words asks is gave (on_words words' tells is' unread (memory_wanted part given same ends)) = short_memory ends
  call_prints told opens words asks is gave (words_want_memory same unread ends) = short_memory ends

pub took_same : {W X : Type 0} {h : write.Ghosts W} {i : write.Ghosts X} (old new : RecordedSink W h) (status : ℕ) (old' new' : RecordedSink X i) (status' : ℕ) (text : List ℕ)
    → Prints_so sink_told sink_faults old new (judgement text) None status → Prints_so sink_told sink_faults old' new' (judgement text) None status' → TookTheSame old new status old' new' status'
took_same old new status old' new' status' text one other =
    let l = same_lines sink_told old new status sink_told old' new' status' (judgement text) None one other in
    record {
      out = l.text;
      out' = l.text';
      took = took_bytes old new l.text l.printed;
      took' = took_bytes old' new' l.text' l.printed';
      same = l.same;
      cut = l.cut;
      cut' = l.cut';
    }
