-- How a text and a deck are judged, and how a judgement is answered.
use Rattle.std.proofs.Common.{◌≡◌, ◌≤◌, ◌<◌, ◌+◌, inl, inr, true, false, ℕ, List, [], length, map, take, drop, min, ◌++◌, Bool, Result, refl, sym, ap, ◌∙◌, subst, arith, Option, Some, None, Ok, Err}
use Rattle.std.specs.Prelude.{nat_lt, is_some, count_by, ◌==◌}
use Rattle.std.proofs.lemmas.Bool.{lt-ltb, false≢true}
use Rattle.std.proofs.lemmas.Bool.Decides.{nat_tests}
use Rattle.std.proofs.lemmas.List.{length-take, length-map, take_all, drop_all, take-append-drop, take-take}
use denote.Ref.{Bor}
use Rattle.b67_io.specs.Causes.{Rose}
use Rattle.b67_io.specs.Told.{GaveAll}
use Rattle.b67_codefile.specs.Meaning.{program_of}
use Rattle.b67_model_text.specs.Deck.{limit, deck_of}
use Rattle.b67_card.specs.Reading.{GaveFirst}
use Rattle.b67_task.specs.declared.tables.Machine.{Machine}
use Rattle.b67_job.specs.declared.refusal.Refusal.{Refusal}
use Rattle.b67_job.specs.declared.refusal.Refusal.TheVariants as refusals
use Rattle.b67_job.specs.declared.admit_fault.AdmitFault.{AdmitFault}
use Rattle.b67_job.specs.declared.admit_fault.AdmitFault.TheVariants as admits
use Rattle.b67_job.specs.declared.programs.Loaded.{Loaded}
use Rattle.b67_model_text.specs.declared.deck.Deck.{Deck}
use Rattle.b67_gen.specs.Generated.{generated_text}
use Rattle.b67_job.specs.Admitting.{Prepared, with_programs, deck_prepared}
use Rattle.b67_job.specs.Meets.{MeetsAnswer, LoadsDeck, prepared_of}
use Rattle.b67_job.proofs.Loads.{loaded, refused_program}
use Rattle.b67_job.specs.Told.{refusal_text}
use Rattle.b67_job.specs.Verdicts.{Verdict}
use Rattle.b67_job.specs.CommandMeets.{IsJudged}
use Rattle.b67_job.proofs.Bound.{bind_long}
use Rattle.b67_job.proofs.Judged.{too_long, check_long, asm_long, convert_long}
use Rattle.b67_session.specs.Decks.{DeckInRange}
use Rattle.b67_job.proofs.Prepared.{prepared_in_range}
use Rattle.b67_job.specs.Device.{Device, DeviceUnchanged}
use Rattle.b67_job.specs.Lines.{memory_text}
use Rattle.b67_job.specs.Texts.{only}
use Rattle.b67_job.specs.Runs.{RunStops, DeckRunEnds, run_stops, step_is_cut}
use Rattle.b67_job.proofs.Ran.{closes_only}
use Rattle.b67_job.specs.Command.{command_line_of}
use Rattle.b67_job.specs.declared.command.CommandLine.{CommandLine}
use Rattle.b67_job.specs.declared.command.CommandLine.TheVariants as lines
use Rattle.b67_job.specs.Judgement.{Refused, Runs, judgement, printed, asked, closing_of, reads_text, reads_deck}
use Rattle.b67_job.specs.declared.summaries.Closing.{Closing}
use Rattle.b67_job.specs.declared.summaries.Closing.TheVariants as closings
use Rattle.b67_job.specs.Due.{WasGiven, CommandWasRead, ReadAll, ExerciseEnds, exercise_wants_memory, exercise_is_refused, exercise_runs, refusal_due, print_due, run_due, reading_due, memory_due, Answered, answered, cut_in_step, Serves, RunsWhatItReads, RefusalEnds, TextEnds, WritesText, reading_text}

-- ---- decks

pub prepared_is : (text : List ℕ) (p : Prepared) → deck_prepared text ≡ Ok p → judgement text ≡ Runs p
unfolding judgement
prepared_is text p e = rw e refl

refused_is : (text : List ℕ) (r : Refusal) → deck_prepared text ≡ Err r → judgement text ≡ Refused r
unfolding judgement
refused_is text r e = rw e refl

pub judged_long : (text : List ℕ) → limit < length text → judgement text ≡ Refused (too_long text)
unfolding judgement deck_prepared
judged_long text long = rw (lt-ltb limit (length text) long) refl

-- a deck that was loaded is within its ranges, and has a program for each job
pub loaded_in_range : {S : Type 0} (left : S → Option (List ℕ)) (faults : S → ℕ) (deck deck' : S) (loaded : Loaded) → LoadsDeck left faults deck deck' (Ok loaded)
    → DeckInRange loaded.deck × (length loaded.programs ≡ length loaded.deck.jobs)
loaded_in_range left faults deck deck' loaded h =
    let range = prepared_in_range h.0 loaded.deck (map program_of loaded.programs) h.2 in
    (range.0, sym (length-map loaded.programs program_of) ∙ range.1)

-- ---- what was read

take_first : (n : ℕ) (text : List ℕ) → take n (take (n + 1) text) ≡ take n text
take_first n text = take-take n (n + 1) text (omega arith)

-- a text past the limit is refused as its first bytes are, by a command that reads it
pub asked_long : (command : CommandLine) (text : List ℕ) → reads_deck command ≡ true → limit < length text → asked command text ≡ Refused (too_long text)
asked_long (lines.Run core) text r long = judged_long text long
asked_long (lines.Image core) text r long = judged_long text long
asked_long lines.Resume text r long = absurd (false≢true r)
asked_long lines.Dump text r long = absurd (false≢true r)
asked_long lines.Asm text r long = ap printed (asm_long text long)
asked_long lines.Check text r long = ap printed (check_long text long)
asked_long lines.Convert text r long = ap printed (convert_long text long)
asked_long (lines.Bind pairs) text r long = ap printed (bind_long pairs text long)
asked_long (lines.Exercise seed size core) text r long = absurd (false≢true r)

asked_alike : (command : CommandLine) (text : List ℕ) → reads_deck command ≡ true → limit < length text → asked command (take (limit + 1) text) ≡ asked command text
asked_alike command text r long =
    let l : length (take (limit + 1) text) ≡ min (limit + 1) (length text) = length-take (limit + 1) text in
    let longer : limit < length (take (limit + 1) text) = omega (arith, l, long) in
    asked_long command (take (limit + 1) text) r longer
    ∙ ap (λ (xs : List ℕ). Refused (refusals.Deck (count_by (λ b. b == 10) xs + 1) 14)) (take_first limit text)
    ∙ sym (asked_long command text r long)

-- a command that reads has read what was given
given_read : {S : Type 0} {left : S → Option (List ℕ)} {deck deck' : S} {bytes : List ℕ} (command : CommandLine) → reads_deck command ≡ true → WasGiven left deck deck' bytes → CommandWasRead command left deck deck' bytes
given_read (lines.Run core) r given = given
given_read (lines.Image core) r given = given
given_read lines.Resume r given = given
given_read lines.Dump r given = given
given_read lines.Asm r given = given
given_read lines.Check r given = given
given_read lines.Convert r given = given
given_read (lines.Bind pairs) r given = given
given_read (lines.Exercise seed size core) r given = absurd (false≢true r)

given_all : {S : Type 0} {left : S → Option (List ℕ)} {deck deck' : S} {bytes : List ℕ} (command : CommandLine) → reads_deck command ≡ true → GaveAll left deck deck' bytes → ReadAll command left deck deck' bytes
given_all (lines.Run core) r given = given
given_all (lines.Image core) r given = given
given_all lines.Resume r given = given
given_all lines.Dump r given = given
given_all lines.Asm r given = given
given_all lines.Check r given = given
given_all lines.Convert r given = given
given_all (lines.Bind pairs) r given = given
given_all (lines.Exercise seed size core) r given = absurd (false≢true r)

-- which is a command that reads a text
deck_is_text : (command : CommandLine) → reads_deck command ≡ true → reads_text (Some command) ≡ true
deck_is_text (lines.Run core) r = refl
deck_is_text (lines.Image core) r = refl
deck_is_text lines.Resume r = refl
deck_is_text lines.Dump r = refl
deck_is_text lines.Asm r = refl
deck_is_text lines.Check r = refl
deck_is_text lines.Convert r = refl
deck_is_text (lines.Bind pairs) r = refl
deck_is_text (lines.Exercise seed size core) r = absurd (false≢true r)

-- what was read, and is refused
abbrev ReadAndRefused : {S : Type 0} → (S → Option (List ℕ)) → S → S → CommandLine → Refusal → Type 0
ReadAndRefused left deck deck' command r = (bytes : List ℕ) × CommandWasRead command left deck deck' bytes × (asked command bytes ≡ Refused r)

-- first bytes of a source are all that it had, or one more than a deck may have
was_read : {S : Type 0} {left : S → Option (List ℕ)} {deck deck' : S} {bytes : List ℕ} (command : CommandLine) (r : Refusal) → reads_deck command ≡ true → GaveFirst left (limit + 1) deck deck' bytes → asked command bytes ≡ Refused r
    → ReadAndRefused left deck deck' command r
was_read {left = left} {deck = deck} {deck' = deck'} {bytes = bytes} command r is first refused = by_test (nat_lt limit (length bytes)) refl
  where
    all_of : (before : List ℕ) → length bytes ≤ limit → bytes ≡ take (limit + 1) before → length before ≤ limit + 1
    all_of before short e =
        let l : length bytes ≡ min (limit + 1) (length before) = ap length e ∙ length-take (limit + 1) before in
        omega (arith, short, l)

    front : (before : List ℕ) → bytes ≡ take (limit + 1) before → take (limit + 1) bytes ≡ take (limit + 1) before
    front before e = ap (take (limit + 1)) e ∙ take-take (limit + 1) (limit + 1) before (omega arith)

    by_test : (b : Bool) → nat_lt limit (length bytes) ≡ b → ReadAndRefused left deck deck' command r
    by_test true t =
        let long : limit < length bytes = grind (arith, nat_tests) in
        let l : length (take (limit + 1) bytes) ≡ min (limit + 1) (length bytes) = length-take (limit + 1) bytes in
        let exactly : length (take (limit + 1) bytes) ≡ limit + 1 = omega (arith, l, long) in (
          take (limit + 1) bytes,
          given_read command is (inr (
            record {
              told = λ before e.
                  let h = first.told before e in
                  (drop (limit + 1) before, sym (take-append-drop (limit + 1) before) ∙ ap (λ (xs : List ℕ). xs ++ drop (limit + 1) before) (sym (front before h.0)), h.1);
            },
            exactly,
          )),
          asked_alike command bytes is long ∙ refused,
        )
    by_test false t =
        let short : length bytes ≤ limit = grind (arith, nat_tests) in (
          bytes,
          given_read command is (inl (record {
            told = λ before e.
                let h = first.told before e in
                let few = all_of before short h.0 in
                (sym (h.0 ∙ take_all (limit + 1) before few), h.1 ∙ ap Some (drop_all (limit + 1) before few));
          })),
          refused,
        )

-- ---- commands

pub commanded : (words : List (Bor (List ℕ))) (command : CommandLine) → command_line_of words ≡ Some command → is_some (command_line_of words) ≡ true
commanded words command e = ap is_some e

-- the same of a result that has this status and no machine
pub without : {S B K : Type 0} (words : List (Bor (List ℕ))) (left : S → Option (List ℕ)) (source_faults : S → ℕ) (deck deck' : S) (d : Device B) (taken : K → Option (List ℕ)) (faults : K → ℕ) (old new : K)
    (machine : Option Machine) (status answer : ℕ) → machine ≡ None → status ≡ answer → Answered words left source_faults deck deck' d None taken faults old new answer
    → Answered words left source_faults deck deck' d machine taken faults old new status
without words left source_faults deck deck' d taken faults old new machine status answer none same a =
    subst (λ (m : Option Machine). Answered words left source_faults deck deck' d m taken faults old new status) (sym none)
    (subst (λ (n : ℕ). Answered words left source_faults deck deck' d None taken faults old new n) (sym same) a)

-- why a command isn't carried out, which is handed on
abbrev IsUnserved : {S : Type 0} → (S → Option (List ℕ)) → (S → ℕ) → S → S → CommandLine → AdmitFault → Type 0
IsUnserved left source_faults deck deck' command (admits.Refused r) = (bytes : List ℕ) × GaveFirst left (limit + 1) deck deck' bytes × (asked command bytes ≡ Refused r)
IsUnserved left source_faults deck deck' command admits.SourceFault = Rose source_faults deck deck'
IsUnserved left source_faults deck deck' command admits.Memory = Unit {0}

module _ {S B K : Type 0} {left : S → Option (List ℕ)} {source_faults : S → ℕ} {deck deck' : S} {taken : K → Option (List ℕ)} {faults : K → ℕ} {old new : K} where
  unserved : (d : Device B) (command : CommandLine) (fault : AdmitFault) (answer : ℕ) → reads_deck command ≡ true → DeviceUnchanged d → IsUnserved left source_faults deck deck' command fault → RefusalEnds fault taken faults old new answer
      → Serves command left source_faults deck deck' d None taken faults old new answer
  unserved d command (admits.Refused r) answer is same h ends = λ words e.
      let read = was_read command r is h.1 h.2 in
      answered 2 (only (refusal_text r)) (refusal_due command read.0 r e read.1 same read.2 refl refl refl) (closes_only ends)
  unserved d command admits.SourceFault answer is same rose ends = λ words e. answered 7 (only reading_text) (reading_due (ap reads_text e ∙ deck_is_text command is) rose same refl refl refl) (closes_only ends)
  unserved d command admits.Memory answer is same free ends = λ words e. answered 9 (only memory_text) (memory_due (commanded words command e) same refl refl refl) (closes_only ends)

  -- a deck that was loaded, or wasn't
  pub served_deck : (d : Device B) (command : CommandLine) (core : ℕ) (closing : Closing) (loaded : Loaded) (machine : Option Machine) (answer : ℕ) → RunsWhatItReads command core closing
      → LoadsDeck left source_faults deck deck' (Ok loaded) → DeckRunEnds taken faults d core (prepared_of loaded) closing machine old new answer
      → Serves command left source_faults deck deck' d machine taken faults old new answer
  served_deck d command core closing loaded machine answer r h ends = by_end (r.asks h.0 ∙ prepared_is h.0 (prepared_of loaded) h.2) (given_all command r.reads h.1) ends
    where
      by_end : asked command h.0 ≡ Runs (prepared_of loaded) → ReadAll command left deck deck' h.0 → DeckRunEnds taken faults d core (prepared_of loaded) closing machine old new answer
          → Serves command left source_faults deck deck' d machine taken faults old new answer
      by_end is read (run_stops status text stops ends) = λ words e.
          answered status text (run_due core (prepared_of loaded) (record { command = command; bytes = h.0; is = e; opens = r.opens; read = read; judged = is })
          (subst (λ (x : Closing). RunStops d core (prepared_of loaded) x machine status text) (sym (ap closing_of e ∙ r.closes)) stops)) ends
      by_end is read (step_is_cut text count printing a rose part) = λ words e.
          cut_in_step core (prepared_of loaded) text count (record { command = command; bytes = h.0; is = e; opens = r.opens; read = read; judged = is }) printing a rose part

  pub served_refusal : (d : Device B) (command : CommandLine) (core : ℕ) (closing : Closing) (fault : AdmitFault) (answer : ℕ) → RunsWhatItReads command core closing → DeviceUnchanged d
      → LoadsDeck left source_faults deck deck' (Err fault) → RefusalEnds fault taken faults old new answer → Serves command left source_faults deck deck' d None taken faults old new answer
  served_refusal d command core closing fault answer runs same h ends = unserved d command fault answer runs.reads same (by_fault fault h) ends
    where
      by_fault : (fault : AdmitFault) → LoadsDeck left source_faults deck deck' (Err fault) → IsUnserved left source_faults deck deck' command fault
      by_fault (admits.Refused r) h = (h.0, h.1, runs.asks h.0 ∙ refused_is h.0 r h.2)
      by_fault admits.SourceFault h = h
      by_fault admits.Memory h = h

  -- a text that was made, or wasn't
  pub served_text : (d : Device B) (command : CommandLine) (verdict : List ℕ → Verdict) (answer : ℕ) → reads_deck command ≡ true → DeviceUnchanged d → ((bytes : List ℕ) → asked command bytes ≡ printed (verdict bytes))
      → WritesText verdict left source_faults deck deck' taken faults old new answer → Serves command left source_faults deck deck' d None taken faults old new answer
  served_text d command verdict answer is untouched same h = by_made h.0 h.1 h.2
    where
      by_fault : (fault : AdmitFault) → IsJudged left source_faults deck deck' verdict (Err fault) → IsUnserved left source_faults deck deck' command fault
      by_fault (admits.Refused r) j = (j.0, j.1, same j.0 ∙ ap printed j.2)
      by_fault admits.SourceFault j = j
      by_fault admits.Memory j = j

      by_made : (made : Result (List ℕ) AdmitFault) → IsJudged left source_faults deck deck' verdict made → TextEnds made taken faults old new answer → Serves command left source_faults deck deck' d None taken faults old new answer
      by_made (Ok text) j ends = λ words e. answered 0 (only text) (print_due command j.0 text e (given_all command is j.1) untouched (same j.0 ∙ ap printed j.2) refl refl refl) (closes_only ends)
      by_made (Err fault) j ends = unserved d command fault answer is untouched (by_fault fault j) ends

-- ---- an exercise

-- its deck and programs are in range
pub exercise_in_range : (text : List ℕ) (d : Deck) (l : Loaded) → deck_of text ≡ Ok d → with_programs d ≡ Ok (prepared_of l) → DeckInRange l.deck × (length l.programs ≡ length l.deck.jobs)
exercise_in_range text d l e f =
    let range = prepared_in_range text l.deck (map program_of l.programs) (loaded text d (prepared_of l) e f) in
    (range.0, sym (length-map l.programs program_of) ∙ range.1)

module _ {B K : Type 0} (seed size core : ℕ) (d : Device B) {taken : K → Option (List ℕ)} {faults : K → ℕ} {old new : K} (deck : Deck) (is : deck_of (generated_text seed size) ≡ Ok deck) where
  -- it runs
  pub exercise_ran : (l : Loaded) (machine : Option Machine) (answer : ℕ) → with_programs deck ≡ Ok (prepared_of l)
      → DeckRunEnds taken faults d core (prepared_of l) (closings.Exercise (record { seed = seed; size = size })) machine old new answer → ExerciseEnds seed size core d machine taken faults old new answer
  exercise_ran l machine answer e ends = exercise_runs (prepared_of l) (prepared_is (generated_text seed size) (prepared_of l) (loaded (generated_text seed size) deck (prepared_of l) is e)) ends

  -- or is refused
  pub exercise_unprepared : (fault : AdmitFault) (machine : Option Machine) (answer status : ℕ) → MeetsAnswer prepared_of (Err fault) (with_programs deck) → DeviceUnchanged d → machine ≡ None → status ≡ answer
      → RefusalEnds fault taken faults old new answer → ExerciseEnds seed size core d machine taken faults old new status
  exercise_unprepared fault machine answer status m same none e ends = subst (λ (n : ℕ). ExerciseEnds seed size core d machine taken faults old new n) (sym e) (by_fault fault m ends)
    where
      by_fault : (fault : AdmitFault) → MeetsAnswer prepared_of (Err fault) (with_programs deck) → RefusalEnds fault taken faults old new answer → ExerciseEnds seed size core d machine taken faults old new answer
      by_fault (admits.Refused r) m ends = exercise_is_refused r (refused_is (generated_text seed size) r (refused_program (generated_text seed size) deck r is m)) same none ends
      by_fault admits.SourceFault m ends = absurd m
      by_fault admits.Memory m ends = exercise_wants_memory same none ends

-- an exercise that ended so is what is due
pub exercised : {S B K : Type 0} (words : List (Bor (List ℕ))) (left : S → Option (List ℕ)) (source_faults : S → ℕ) (deck : S) (seed size core : ℕ) (d : Device B) (machine : Option Machine)
    (taken : K → Option (List ℕ)) (faults : K → ℕ) (old new : K) (answer : ℕ) → command_line_of words ≡ Some (lines.Exercise seed size core) → ExerciseEnds seed size core d machine taken faults old new answer
    → Answered words left source_faults deck deck d machine taken faults old new answer
exercised words left source_faults deck seed size core d machine taken faults old new answer e (exercise_wants_memory same none ends) =
    answered 9 (only memory_text) (memory_due (commanded words (lines.Exercise seed size core) e) same none refl refl) (closes_only ends)
exercised words left source_faults deck seed size core d machine taken faults old new answer e (exercise_is_refused r j same none ends) =
    answered 2 (only (refusal_text r)) (refusal_due (lines.Exercise seed size core) [] r e refl same j none refl refl) (closes_only ends)
exercised words left source_faults deck seed size core d machine taken faults old new answer e (exercise_runs p j (run_stops status text stops ends)) =
    answered status text (run_due core p (record { command = lines.Exercise seed size core; bytes = []; is = e; opens = refl; read = refl; judged = j })
    (subst (λ (x : Closing). RunStops d core p x machine status text) (sym (ap closing_of e)) stops)) ends
exercised words left source_faults deck seed size core d machine taken faults old new answer e (exercise_runs p j (step_is_cut text count printing a rose part)) =
    cut_in_step core p text count (record { command = lines.Exercise seed size core; bytes = []; is = e; opens = refl; read = refl; judged = j }) printing a rose part
