-- Calls that print a program, and calls of two decks that hold it.
use Rattle.std.proofs.Common.{◌≡◌, ◌⊎◌, inl, inr, ℕ, true, false, List, [], ◌∷◌, Option, Some, None, refl, sym, ap, subst, ◌∙◌, arith, codes, Ok}
use Rattle.std.specs.Prelude.{is_some, ◌&&◌}
use Rattle.std.proofs.lemmas.Option.{same_Some, none-some}
use denote.Ref.{Bor}
use Rattle.b67_io.specs.Told.{Took, GaveAll}
use Rattle.b67_io.specs.Causes.{Rose}
use Rattle.b67_model.specs.Common.{Session}
use Rattle.b67_task.specs.declared.tables.Machine.{Machine}
use Rattle.b67_bind.specs.declared.pairs.Pair.{Pair}
use Rattle.b67_job.specs.declared.refusal.Refusal.{Refusal}
use Rattle.b67_job.specs.Admitting.{Prepared}
use Rattle.b67_job.specs.Verdicts.{Verdict, asm_verdict, convert_verdict, bind_verdict}
use Rattle.b67_session_lines.specs.Stops.{Run}
use Rattle.b67_job.specs.declared.summaries.Exercise.{Exercise}
use Rattle.b67_job.specs.declared.command.CommandLine.{CommandLine}
use Rattle.b67_job.specs.declared.command.CommandLine.TheVariants as lines
use Rattle.b67_job.specs.Command.{bind, command_line_of}
use Rattle.b67_job.specs.Device.{Device}
use Rattle.b67_job.specs.Texts.{Text, whole_of, only, PrintsAndAnswers}
use Rattle.b67_job.specs.Runs.{run_of}
use Rattle.b67_job.specs.Judgement.{Judgement, Refused, Runs, Prints, OfImage, judgement, printed, asked, core_asked, image_sectors}
use Rattle.b67_job.specs.Due.{ReadAll, CommandWasRead, WasGiven, IsRun, IsDue, usage_due, refusal_due, print_due, image_due, dump_due, run_due, reading_due, memory_due, Answered, answered, cut_in_step, goes_on}
use Rattle.b67_promises.specs.Paging.{SameLines}
use Rattle.b67_promises.specs.Cards.{AsksForAsm, AsksForConvert, AsksForBind, AsksForCheck, HoldPrinted}
use Rattle.b67_promises.proofs.Calls.{Printed, Shape, CallPrints, shape_of, cut_from, agree}
use Rattle.b67_promises.proofs.Words.{no_print, no_image_asked}
use Rattle.b67_promises.proofs.TurnCalls.{prepared_is}
use Rattle.b67_promises.proofs.SourceDecks.{OneRun, asm_keeps, convert_keeps}

-- ---- the words

abbrev lone : List (List ℕ) → List (List ℕ)
lone [] = []
lone (x ∷ xs) = xs

asm_command : (words : List (Bor (List ℕ))) → AsksForAsm words → command_line_of words ≡ Some lines.Asm
asm_command words w = grind arith

convert_command : (words : List (Bor (List ℕ))) → AsksForConvert words → command_line_of words ≡ Some lines.Convert
convert_command words w = grind arith

bind_command : (words : List (Bor (List ℕ))) → AsksForBind words → command_line_of words ≡ bind words
bind_command words w = grind arith

bind_pairs : (words : List (Bor (List ℕ))) (command : CommandLine) → bind words ≡ Some command → (pairs : List Pair) × (command ≡ lines.Bind pairs)
bind_pairs words command e = grind arith

check_command : (words : List (Bor (List ℕ))) → AsksForCheck words → command_line_of words ≡ Some lines.Check
check_command words w = grind arith

-- ---- a call whose command prints a text

-- its command reads a text and prints another one; it opens no session and reads no image
record PrintsText (command : CommandLine) : Type 1 where
  opens : core_asked command ≡ None
  no_image : (count : ℕ) → image_sectors count command ≡ None
  reads : {S : Type 0} (left : S → Option (List ℕ)) (deck deck' : S) (bytes : List ℕ) → ReadAll command left deck deck' bytes → GaveAll left deck deck' bytes
  was_read : {S : Type 0} (left : S → Option (List ℕ)) (deck deck' : S) (bytes : List ℕ) → CommandWasRead command left deck deck' bytes → WasGiven left deck deck' bytes

-- how such a call ends
pub data CallComes {S K : Type 0} (left : S → Option (List ℕ)) (source_faults : S → ℕ) (deck deck' : S) (taken : K → Option (List ℕ)) (faults : K → ℕ) (old new : K) (command : CommandLine) (text : List ℕ) (answer : ℕ) : Type 0 where
  prints : (output : List ℕ) → answer ≡ 0 → asked command text ≡ Prints output → Took taken old new output → CallComes left source_faults deck deck' taken faults old new command text answer
  refuses : (bytes : List ℕ) (refusal : Refusal) → answer ≡ 2 → WasGiven left deck deck' bytes → asked command bytes ≡ Refused refusal → CallComes left source_faults deck deck' taken faults old new command text answer
  reading_fails : answer ≡ 7 → Rose source_faults deck deck' → CallComes left source_faults deck deck' taken faults old new command text answer
  printing_fails : answer ≡ 8 → Rose faults old new → CallComes left source_faults deck deck' taken faults old new command text answer
  memory_is_wanted : answer ≡ 9 → CallComes left source_faults deck deck' taken faults old new command text answer

same_command : (words : List (Bor (List ℕ))) (command other : CommandLine) → command_line_of words ≡ Some command → command_line_of words ≡ Some other → other ≡ command
same_command words command other is e = same_Some other command (sym e ∙ is)

-- the printer takes a text, or fails
closes : {K C : Type 0} (taken : K → Option (List ℕ)) (faults : K → ℕ) (old new : K) (status : ℕ) (t : Text) (answer : ℕ) → PrintsAndAnswers taken faults old new status t answer
    → (answer ≡ 8 → Rose faults old new → C) → (answer ≡ status → Took taken old new (whole_of t) → C) → C
closes taken faults old new status t answer h fails goes = grind arith

no_run : {S : Type 0} (words : List (Bor (List ℕ))) (left : S → Option (List ℕ)) (deck deck' : S) (command : CommandLine) → command_line_of words ≡ Some command → PrintsText command → (core : ℕ) (p : Prepared) → IsRun words left deck deck' core p → ⊥
no_run words left deck deck' command is c core p r =
    let asked_core : core_asked command ≡ Some core = subst (λ (x : CommandLine). core_asked x ≡ Some core) (same_command words command r.command is r.is) r.opens in
    none-some core (sym c.opens ∙ asked_core)

no_image_read : (words : List (Bor (List ℕ))) (command : CommandLine) → command_line_of words ≡ Some command → PrintsText command → (count : ℕ) (other : CommandLine) (sectors : Option ℕ) → command_line_of words ≡ Some other → image_sectors count other ≡ Some sectors → ⊥
no_image_read words command is c count other sectors e wanted = none-some sectors (sym (c.no_image count) ∙ ap (image_sectors count) (sym (same_command words command other is e)) ∙ wanted)

module _ {S B K : Type 0} {words : List (Bor (List ℕ))} {left : S → Option (List ℕ)} {source_faults : S → ℕ} {deck deck' : S} {d : Device B} {machine : Option Machine}
    (taken : K → Option (List ℕ)) (faults : K → ℕ) (old new : K) (command : CommandLine) (is : command_line_of words ≡ Some command) (c : PrintsText command) (text : List ℕ) (told : left deck ≡ Some text) where
  by_due : (status : ℕ) (t : Text) (answer : ℕ) → IsDue words left source_faults deck deck' d machine status t → PrintsAndAnswers taken faults old new status t answer → CallComes left source_faults deck deck' taken faults old new command text answer
  by_due status t answer (usage_due none same kept m s x) end = absurd (let z : true ≡ false = ap is_some (sym is) ∙ none in let no : ⊥ = cc in no)
  by_due status t answer (refusal_due other bytes refusal e read same judged m s x) end =
      let command_is = same_command words command other is e in
      closes taken faults old new status t answer end (λ a rose. printing_fails a rose)
      (λ a took. refuses bytes refusal (a ∙ s) (c.was_read left deck deck' bytes (subst (λ (y : CommandLine). CommandWasRead y left deck deck' bytes) command_is read))
      (subst (λ (y : CommandLine). asked y bytes ≡ Refused refusal) command_is judged))
  by_due status t answer (print_due other bytes output e read same judged m s x) end =
      let command_is = same_command words command other is e in
      let gave = c.reads left deck deck' bytes (subst (λ (y : CommandLine). ReadAll y left deck deck' bytes) command_is read) in
      closes taken faults old new status t answer end (λ a rose. printing_fails a rose)
      (λ a took. prints output (a ∙ s) (ap (asked command) (gave.told text told).0 ∙ subst (λ (y : CommandLine). asked y bytes ≡ Prints output) command_is judged)
      (subst (λ (y : Text). Took taken old new (whole_of y)) x took))
  by_due status t answer (image_due other sectors card reason e wanted read same m s x) end = absurd (no_image_read words command is c d.sectors other sectors e wanted)
  by_due status t answer (dump_due image dump o same m s x) end = absurd (no_image_read words command is c d.sectors lines.Dump None o.is refl)
  by_due status t answer (run_due core p run stops) end = absurd (no_run words left deck deck' command is c core p run)
  by_due status t answer (reading_due r rose same m s x) end = closes taken faults old new status t answer end (λ a rose. printing_fails a rose) (λ a took. reading_fails (a ∙ s) rose)
  by_due status t answer (memory_due r same m s x) end = closes taken faults old new status t answer end (λ a rose. printing_fails a rose) (λ a took. memory_is_wanted (a ∙ s))

  call_comes : (answer : ℕ) → Answered words left source_faults deck deck' d machine taken faults old new answer → CallComes left source_faults deck deck' taken faults old new command text answer
  call_comes answer (answered status t due end) = by_due status t answer due end
  call_comes answer (cut_in_step core p t count run printing a rose part) = absurd (no_run words left deck deck' command is c core p run)
  call_comes answer (goes_on g) = absurd (no_image_read words command is c d.sectors lines.Resume (Some d.sectors) g.of.is refl)

pub verdict_is : (v : Verdict) (text : List ℕ) → printed v ≡ Prints text → v ≡ Ok text
verdict_is v text e = grind arith

-- ---- the commands of one word, and `bind`

module _ {S B K : Type 0} {words : List (Bor (List ℕ))} {left : S → Option (List ℕ)} {source_faults : S → ℕ} {deck deck' : S} {d : Device B} {machine : Option Machine}
    (taken : K → Option (List ℕ)) (faults : K → ℕ) (old new : K) (text : List ℕ) (told : left deck ≡ Some text) (answer : ℕ) (call : Answered words left source_faults deck deck' d machine taken faults old new answer) where
  pub check_comes : AsksForCheck words → CallComes left source_faults deck deck' taken faults old new lines.Check text answer
  check_comes w = call_comes taken faults old new lines.Check (check_command words w) (record { opens = refl; no_image = λ n. refl; reads = λ l a b bytes r. r; was_read = λ l a b bytes r. r }) text told answer call

  -- what a call printed that answered 0
  module _ (made : List ℕ) (empty : taken old ≡ Some []) (full : taken new ≡ Some made) (zero : answer ≡ 0) where
    made_text : (command : CommandLine) → CallComes left source_faults deck deck' taken faults old new command text answer → asked command text ≡ Prints made
    made_text command (prints output none is took) =
        let same : ◌≡◌ {A = Option (List ℕ)} (Some output) (Some made) = sym (took.told [] empty) ∙ full in
        is ∙ ap Prints (same_Some output made same)
    made_text command (refuses bytes refusal two was is) = absurd (omega (arith, zero, two))
    made_text command (reading_fails seven rose) = absurd (omega (arith, zero, seven))
    made_text command (printing_fails eight rose) = absurd (omega (arith, zero, eight))
    made_text command (memory_is_wanted nine) = absurd (omega (arith, zero, nine))

    pub asm_made : AsksForAsm words → asm_verdict text ≡ Ok made
    asm_made w = grind (arith, asm_command)

    pub convert_made : AsksForConvert words → convert_verdict text ≡ Ok made
    convert_made w = grind (arith, convert_command)

    pub bind_made : (is_some (command_line_of words) ≡ false → (answer ≡ 1) ⊎ (answer ≡ 8)) → AsksForBind words → (pairs : List Pair) × (bind_verdict pairs text ≡ Ok made)
    bind_made none w = by_command (command_line_of words) refl
      where
        no_answer : (answer ≡ 1) ⊎ (answer ≡ 8) → ⊥
        no_answer (inl one) = omega (arith, zero, one)
        no_answer (inr eight) = omega (arith, zero, eight)

        by_command : (o : Option CommandLine) → command_line_of words ≡ o → (pairs : List Pair) × (bind_verdict pairs text ≡ Ok made)
        by_command None e = absurd (no_answer (none (ap is_some e)))
        by_command (Some command) e =
            let p = bind_pairs words command (sym (bind_command words w) ∙ e) in (
              p.0,
              verdict_is (bind_verdict p.0 text) made (made_text (lines.Bind p.0)
                  (call_comes taken faults old new (lines.Bind p.0) (e ∙ ap Some p.1) (record { opens = refl; no_image = λ n. refl; reads = λ l a b bytes r. r; was_read = λ l a b bytes r. r }) text told answer call)),
            )

-- ---- two decks of one run

runs_are : (p q : Prepared) → OneRun p q → run_of q ≡ run_of p
runs_are p q h = ap (λ (s : Session). record { session = s; halt = q.0.halt }) h.session ∙ ap (λ (o : Option ℕ). record { session = (run_of p).session; halt = o }) h.halt

module _ {K L : Type 0} (taken : K → Option (List ℕ)) (old new : K) (status : ℕ) (taken' : L → Option (List ℕ)) (old' new' : L) (status' : ℕ) (bytes other : List ℕ) (e : Option Exercise)
    (same : (p q : Prepared) → judgement bytes ≡ Runs p → judgement other ≡ Runs q → run_of q ≡ run_of p)
    (one : (text : List ℕ) × Took taken old new text × CallPrints (judgement bytes) e status text) (two : (text : List ℕ) × Took taken' old' new' text × CallPrints (judgement other) e status' text) where
  first_shape : (q : Prepared) → judgement other ≡ Runs q → (j : Judgement) → judgement bytes ≡ j → Shape (run_of q) one.0
  first_shape q is (Runs p) js = subst (λ (r : Run). Shape r one.0) (sym (same p q js is)) (shape_of (run_of p) e status one.0 (one.2.prints p js))
  first_shape q is (Refused refusal) js = one.2.refused refusal js (run_of q)
  first_shape q is (Prints text) js = absurd (no_print bytes text js)
  first_shape q is OfImage js = absurd (no_image_asked bytes js)

  second_shape : (p : Prepared) → judgement bytes ≡ Runs p → (j : Judgement) → judgement other ≡ j → Shape (run_of p) two.0
  second_shape p is (Runs q) js = subst (λ (r : Run). Shape r two.0) (same p q is js) (shape_of (run_of q) e status' two.0 (two.2.prints q js))
  second_shape p is (Refused refusal) js = two.2.refused refusal js (run_of p)
  second_shape p is (Prints text) js = absurd (no_print other text js)
  second_shape p is OfImage js = absurd (no_image_asked other js)

  pub one_run_lines : SameLines taken old new status taken' old' new' status'
  one_run_lines = record {
    text = one.0;
    text' = two.0;
    printed = one.1;
    printed' = two.1;
    same = λ w w'.
        let p = one.2.runs w in
        let q = two.2.runs w' in
        agree (run_of p.0) e status status' one.0 two.0 (one.2.prints p.0 p.1) (subst (λ (r : Run). Printed r e status' two.0) (same p.0 q.0 p.1 q.1) (two.2.prints q.0 q.1)) w w';
    cut = λ w'. let q = two.2.runs w' in cut_from (run_of q.0) e status' two.0 one.0 (two.2.prints q.0 q.1) w' (first_shape q.0 q.1 (judgement bytes) refl);
    cut' = λ w. let p = one.2.runs w in cut_from (run_of p.0) e status one.0 two.0 (one.2.prints p.0 p.1) w (second_shape p.0 p.1 (judgement other) refl);
  }

module _ (bytes other text made : List ℕ) (p q : Prepared) (one : judgement bytes ≡ Runs p) (two : judgement other ≡ Runs q) where
  pub asm_run : HoldPrinted (codes "?ASM") bytes other text made → asm_verdict text ≡ Ok made → run_of q ≡ run_of p
  asm_run h e = runs_are p q (asm_keeps bytes other text made p q (prepared_is bytes p one) (prepared_is other q two) h e)

  pub convert_run : HoldPrinted (codes "?HEX") bytes other text made → convert_verdict text ≡ Ok made → run_of q ≡ run_of p
  convert_run h e = runs_are p q (convert_keeps bytes other text made p q (prepared_is bytes p one) (prepared_is other q two) h e)
