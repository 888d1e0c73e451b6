-- What the rest of a run that halted prints, however it stops, begins what the whole run prints behind the halt.
use Rattle.std.proofs.Common.{◌≡◌, ◌≤◌, ◌+◌, inl, inr, ℕ, List, [], ◌++◌, length, take, drop, take-append-drop, append-nil, append_assoc, sym, ap, subst, ◌∙◌, Option, Some, Ok, arith}
use Rattle.std.proofs.lemmas.Option.{none-some}
use Rattle.std.proofs.lemmas.Grind.{flat_map-append}
use denote.Ref.{Bor}
use Rattle.b67_io.specs.Line.{ended}
use Rattle.b67_io.specs.Told.{Took}
use Rattle.b67_model.specs.Common.{Session, RunLine, run_text, lines, after}
use Rattle.b67_job.specs.Runs.{StandsAt}
use Rattle.b67_session_lines.specs.Stops.{live_after, halted_line}
use Rattle.b67_task.specs.declared.tables.Machine.{Machine}
use Rattle.b67_image.specs.Text.{limit, first_card, last_card, card_lines}
use Rattle.b67_image.specs.Image.{image_text}
use Rattle.b67_image.specs.Spelling.{image_bytes}
use Rattle.b67_image.specs.Parts.{ImageParts, parts_of}
use Rattle.b67_image.specs.Meaning.{told_in, IsMeant}
use Rattle.b67_image.specs.Laws.{PartsTellSessions}
use Rattle.b67_job.specs.declared.command.CommandLine.{CommandLine}
use Rattle.b67_job.specs.declared.command.CommandLine.TheVariants as commands
use Rattle.b67_job.specs.declared.summaries.Closing.TheVariants as closings
use Rattle.b67_job.specs.Device.{Device, DeviceTells, knowing}
use Rattle.b67_job.specs.Lines.{memory_line, backing_fault_line, summary}
use Rattle.b67_job.specs.Texts.{Text, whole_of, PrintsAndAnswers}
use Rattle.b67_job.specs.Runs.{StandsAfter, IsPrintingNext, StopsOpened, all_end, halt_comes, step_wants_core, step_wants_sectors, step_fails, StepsEnd, steps_stop, next_is_cut}
use Rattle.b67_job.specs.Going.{run_from}
use Rattle.b67_job.specs.Judgement.{Prints, asked, core_asked}
use Rattle.b67_job.specs.Due.{IsDue, usage_due, refusal_due, print_due, image_due, dump_due, run_due, reading_due, memory_due, Answered, answered, cut_in_step, goes_on, usage_text, reading_text}
use Rattle.b67_promises.specs.Paging.{IsOneLine, IsCutFrom}
use Rattle.b67_promises.specs.Halts.{AsksForResume, ResumeBegins}
use Rattle.b67_promises.proofs.Calls.{Shape, TextShape, whole_shape, cut_shape, lone}
use Rattle.b67_promises.proofs.Halves.{resume_words, stands_again, says_self}
use Rattle.b67_promises.proofs.OneLines.{none_is_one, no_core_is_one, backing_full_is_one, backing_fault_is_one, memory_is_one, usage_is_one, reading_is_one, summary_is_one, refusal_is_one, image_refusal_is_one}
use Rattle.b67_promises.proofs.OtherLines.{lines_other}
use Rattle.b67_promises.proofs.Steps.{Begins, begins_then, begins_over, lines_add}

-- ---- the text of the rest

module _ {B : Type 0} (e : Device B) (tells : DeviceTells e) (s : Session) where
  stepped : (steps : ℕ) (z : Session) (printed : List RunLine) (text : Text) (line : List ℕ) → StandsAfter e steps s z printed → IsOneLine line → text ≡ record { front = run_text printed; last = line } → TextShape (run_from s) text
  stepped steps z printed text line comes one is = grind (arith, append-nil)

  stop_shape : (n steps status : ℕ) (m : Machine) (text : Text) → StopsOpened e n steps (run_from s) closings.Plain m status text → TextShape (run_from s) text
  stop_shape n steps status m text (all_end z h) = stepped steps h.session h.printed text (summary closings.Plain m.tasks.made) h.comes (summary_is_one closings.Plain m.tasks.made) h.text_is
  stop_shape n steps status m text (halt_comes z h) = absurd (none-some steps h.halt)
  stop_shape n steps status m text (step_wants_core z h) = stepped steps h.stop.session h.stop.printed text _ h.stop.comes (no_core_is_one _ _) h.text_is
  stop_shape n steps status m text (step_wants_sectors z h) = stepped steps h.stop.session h.stop.printed text _ h.stop.comes (backing_full_is_one _ _) h.text_is
  stop_shape n steps status m text (step_fails z failed h) = stepped steps h.stop.session h.stop.printed text (ended backing_fault_line) h.stop.comes backing_fault_is_one h.text_is

  part_shape : (text : Text) (count steps : ℕ) → Begins (whole_of text) (run_text (lines steps s)) → Shape (run_from s) (text.front ++ take count text.last)
  part_shape text count steps begins = record {
    steps = steps;
    within = tt;
    front = text.front ++ take count text.last;
    line = [];
    begins = begins_then (text.front ++ take count text.last) (whole_of text) (run_text (lines steps s))
        (drop count text.last, ap (λ (xs : List ℕ). text.front ++ xs) (sym (take-append-drop count text.last)) ∙ sym (append_assoc text.front (take count text.last) (drop count text.last)))
        begins;
    one = none_is_one;
    is = sym (append-nil (text.front ++ take count text.last));
  }

  printing_shape : (n steps : ℕ) (m : Machine) (text : Text) (count : ℕ) → IsPrintingNext e n steps (run_from s) m text → Shape (run_from s) (text.front ++ take count text.last)
  printing_shape n steps m text count (inl c) = let b = c.begins tells in part_shape text count (steps + 1) (b.0, sym b.1)
  printing_shape n steps m text count (inr c) = part_shape text count steps ([], sym (c.exact tells).all ∙ sym (append-nil (whole_of text)))

-- ---- the second call

module _ {S B L : Type 0} (words : List (Bor (List ℕ))) (left : S → Option (List ℕ)) (source_faults : S → ℕ) (image image' : S) (d : Device B) (machine : Option Machine) (taken : L → Option (List ℕ)) (faults : L → ℕ) (old new : L)
    (w : AsksForResume words) (tells : DeviceTells d) (s : Session) (k : Machine) (stands : StandsAt d.before k s) (printed : List ℕ) (given : left image ≡ Some printed) (law : PartsTellSessions)
    (same : (card : ℕ) (p : ImageParts) → length printed ≤ limit → told_in (Some d.sectors) printed ≡ Ok (card, p) → p ≡ parts_of k) (answer : ℕ) where
  abbrev So : Type 0
  So = (text : List ℕ) × Took taken old new text × Shape (run_from s) text

  by_text : (status : ℕ) (text : Text) → TextShape (run_from s) text → PrintsAndAnswers taken faults old new status text answer → So
  by_text status text shape h = grind (arith, whole_shape, cut_shape)

  by_due : (status : ℕ) (text : Text) → IsDue words left source_faults image image' d machine status text → PrintsAndAnswers taken faults old new status text answer → So
  by_due status text (usage_due c g kept m z t) closes = by_text status text (lone (run_from s) text usage_text usage_is_one t) closes
  by_due status text (refusal_due command b refusal c r kept judged m z t) closes = by_text status text (lone (run_from s) text _ (refusal_is_one refusal) t) closes
  by_due status text (print_due command b out c r kept judged m z t) closes =
      let e : asked commands.Resume b ≡ Prints out = subst (λ (x : CommandLine). asked x b ≡ Prints out) (resume_words words w command c) judged in
      absurd (let no : ⊥ = cc in no)
  by_due status text (image_due command sectors card reason c wanted r kept m z t) closes = by_text status text (lone (run_from s) text _ (image_refusal_is_one card reason) t) closes
  by_due status text (dump_due i dump o kept m z t) closes =
      let e : commands.Dump ≡ commands.Resume = resume_words words w commands.Dump o.is in
      absurd (let no : ⊥ = cc in no)
  by_due status text (run_due n p its_run stops) closes = absurd (none-some n (sym (ap core_asked (resume_words words w its_run.command its_run.is)) ∙ its_run.opens))
  by_due status text (reading_due c rose kept m z t) closes = by_text status text (lone (run_from s) text reading_text reading_is_one t) closes
  by_due status text (memory_due c kept m z t) closes = by_text status text (lone (run_from s) text (ended memory_line) memory_is_one t) closes

  by_steps : (n steps : ℕ) (m : Machine) → StepsEnd taken faults (knowing d.before d) n steps (run_from s) closings.Plain m old new answer → So
  by_steps n steps m (steps_stop status text none stops closes) = by_text status text (stop_shape (knowing d.before d) tells s n steps status m text stops) closes
  by_steps n steps m (next_is_cut text cut a rose part) = (text.front ++ take m.tasks.printed text.last, part.took, printing_shape (knowing d.before d) tells s n steps m text m.tasks.printed cut)

  pub rest_printed : Answered words left source_faults image image' d machine taken faults old new answer → So
  rest_printed (answered status text due closes) = by_due status text due closes
  rest_printed (cut_in_step n p text count its_run printing a rose part) = absurd (none-some n (sym (ap core_asked (resume_words words w its_run.command its_run.is)) ∙ its_run.opens))
  rest_printed (goes_on g) =
      let read = g.of.read in
      let is : printed ≡ read.0 = (read.1.told printed given).0 in
      let meant = subst (λ (t : List ℕ). IsMeant (Ok g.image) (told_in (Some d.sectors) t)) (sym is) read.2 in
      let again = stands_again words left source_faults image image' d machine taken faults old new w tells s k stands printed given law same g.image meant in
      let e = g.gone.each d.before s (says_self d.before) again in
      by_steps (length g.image.cpu.core) e.0 g.k e.2

-- ---- behind the lines of the halted run

cut_behind : (made all : ℕ) (s : Session) (resumed whole : List ℕ) → live_after all s ≡ 0 → whole ≡ run_text (lines all s) → Shape (run_from (after made s)) resumed → IsCutFrom whole (run_text (lines made s) ++ resumed)
cut_behind made all s resumed whole over is shape =
    let front = run_text (lines made s) in
    let steps = shape.steps in
    let more : run_text (lines (made + steps) s) ≡ front ++ run_text (lines steps (after made s)) = ap run_text (lines_add made steps s) ∙ flat_map-append _ (lines made s) (lines steps (after made s)) in
    let begun : Begins (front ++ shape.front) (run_text (lines (made + steps) s)) =
    (shape.begins.0, more ∙ ap (λ (t : List ℕ). front ++ t) shape.begins.1 ∙ sym (append_assoc front shape.front shape.begins.0)) in
    let b = begins_then (front ++ shape.front) (run_text (lines (made + steps) s)) (run_text (lines all s)) begun (begins_over (made + steps) all s over) in
    record { front = front ++ shape.front; rest = b.0; line = shape.line; begins = is ∙ b.1; ends = ap (λ (t : List ℕ). front ++ t) shape.is ∙ sym (append_assoc front shape.front shape.line); one = shape.one }

pub resume_begins : {L M : Type 0} (taken : L → Option (List ℕ)) (old new : L) (taken' : M → Option (List ℕ)) (old' new' : M) (made all : ℕ) (s : Session) (k : Machine) (halted resumed whole : List ℕ) → live_after all s ≡ 0
    → halted ≡ run_text (lines made s) ++ (image_text k ++ ended (halted_line made)) → whole ≡ run_text (lines all s) → Shape (run_from (after made s)) resumed → Took taken old new resumed → Took taken' old' new' whole
    → ResumeBegins halted taken old new taken' old' new'
unfolding image_text
resume_begins taken old new taken' old' new' made all s k halted resumed whole over is is' shape printed printed' =
    let bytes = image_bytes (parts_of k) in
    let more : List ℕ = card_lines bytes ++ ended last_card in
    record {
      resumed = resumed;
      whole = whole;
      printed = printed;
      printed' = printed';
      front = run_text (lines made s);
      rest = more ++ ended (halted_line made);
      halts = is ∙ ap (λ (t : List ℕ). run_text (lines made s) ++ t) (append_assoc (ended first_card) more (ended (halted_line made)));
      other = lines_other (lines made s);
      begins = cut_behind made all s resumed whole over is' shape;
    }
