-- What a call prints, as the run of its deck has it.
use Rattle.std.proofs.Common.{◌≡◌, ◌≤◌, ◌<◌, ◌+◌, ◌⊎◌, inl, inr, ℕ, List, [], ◌++◌, take, drop, take-append-drop, append-nil, append_assoc, refl, sym, ap, subst, ◌∙◌, arith, Option, Some, None}
use Rattle.std.specs.Prelude.{IfSome}
use denote.Ref.{Bor}
use Rattle.b67_io.specs.Line.{ended}
use Rattle.b67_io.specs.Told.{Took}
use Rattle.b67_model.specs.Common.{run_text, Session, RunLine, lines, after, live_tasks}
use Rattle.b67_task.specs.declared.tables.Machine.{Machine}
use Rattle.b67_job.specs.declared.refusal.Refusal.{Refusal}
use Rattle.b67_job.specs.Admitting.{Prepared}
use Rattle.b67_session_lines.specs.Stops.{Run, live_after, halted_line, IsFinished, IsHalted, halted}
use Rattle.b67_session_lines.proofs.Statuses.{finished-status, halted-status, stops-once}
use Rattle.b67_job.specs.declared.command.CommandLine.TheVariants as commands
use Rattle.b67_job.specs.declared.summaries.Exercise.{Exercise}
use Rattle.b67_job.specs.declared.summaries.Closing.{Closing}
use Rattle.b67_job.specs.Device.{Device, DeviceTells}
use Rattle.b67_job.specs.Lines.{memory_line, backing_fault_line, summary, halted_text}
use Rattle.b67_job.specs.Texts.{Text, whole_of, only, PrintsAndAnswers, all_taken, cut_short}
use Rattle.b67_job.specs.Runs.{run_of, StandsAfter, IsWithinHalt, memory_refused, opening_wants_core, opening_wants_sectors, opening_fails, all_end, halt_comes, step_wants_core, step_wants_sectors, step_fails, RunStops, unopened, opened, IsPrintingNext, IsPrintingStep}
use Rattle.b67_job.specs.Judgement.{Judgement, Refused, Runs, Prints, OfImage}
use Rattle.b67_job.specs.Due.{IsDue, usage_due, refusal_due, print_due, image_due, dump_due, run_due, reading_due, memory_due, Answered, answered, cut_in_step, goes_on, usage_text, reading_text}
use Rattle.b67_job.proofs.Finished.{is_halted}
use Rattle.b67_promises.specs.Paging.{IsWhole, IsOneLine, IsCutFrom}
use Rattle.b67_promises.proofs.OneLines.{none_is_one, taken_is_one, halted_is_one, no_core_is_one, backing_full_is_one, backing_fault_is_one, memory_is_one, usage_is_one, reading_is_one, summary_is_one, refusal_is_one}
use Rattle.b67_promises.proofs.Steps.{Begins, begins_then, begins_more, begins_over, same_session}
use Rattle.b67_promises.proofs.Words.{Asks, closing_by}

-- ---- what was printed

-- a beginning of what some steps print, and at most one line
pub record Shape (r : Run) (text : List ℕ) : Type 0 where
  pub steps : ℕ
  pub within : IsWithinHalt r steps
  pub front : List ℕ
  pub line : List ℕ
  pub begins : Begins front (run_text (lines steps r.session))
  pub one : IsOneLine line
  pub is : text ≡ front ++ line

-- a call whose deck is this run has answered this status and printed this text
pub data Printed (r : Run) (e : Option Exercise) (status : ℕ) (text : List ℕ) : Type 0 where
  all_ended : status ≡ 0 → (steps : ℕ) → IsWithinHalt r steps → live_after steps r.session ≡ 0 → (after steps r.session).made ≡ steps
      → text ≡ run_text (lines steps r.session) ++ summary (closing_by e) steps → Printed r e status text
  halt_came : status ≡ 3 → IsHalted r text → Printed r e status text
  fell_short : (IsWhole status → ⊥) → Shape r text → Printed r e status text

-- ---- counts and the halt

within_none : (o : Option ℕ) → IfSome o (λ count. 0 ≤ count)
within_none o = grind arith

within_less : (o : Option ℕ) (steps : ℕ) → IfSome o (λ count. steps < count) → IfSome o (λ count. steps ≤ count)
within_less o steps h = grind arith

within_next : (o : Option ℕ) (steps : ℕ) → IfSome o (λ count. steps < count) → IfSome o (λ count. steps + 1 ≤ count)
within_next o steps h = grind arith

at_halt : (o : Option ℕ) (count : ℕ) → o ≡ Some count → IfSome o (λ c. count ≤ c)
at_halt o count e = subst (λ (x : Option ℕ). IfSome x (λ c. count ≤ c)) (sym e) (omega arith)

-- ---- statuses that aren't whole

pub short_at : (status n : ℕ) → status ≡ n → (4 ≤ n) ⊎ ((1 ≤ n) × (n ≤ 2)) → IsWhole status → ⊥
short_at status n e h g = grind arith

-- ---- two calls of one run

all_of : (text : List ℕ) → Begins text text
all_of text = ([], sym (append-nil text))

pub shape_of : (r : Run) (e : Option Exercise) (status : ℕ) (text : List ℕ) → Printed r e status text → Shape r text
shape_of r e status text h = grind (arith, all_of, summary_is_one, halted_is_one)

-- what steps up to the halt print begins what a whole run printed
covers : (r : Run) (e : Option Exercise) (status : ℕ) (text : List ℕ) → Printed r e status text → IsWhole status → (k : ℕ) → IsWithinHalt r k → Begins (run_text (lines k r.session)) text
covers r e status text (all_ended z steps within over made is) whole k low =
    begins_then (run_text (lines k r.session)) (run_text (lines steps r.session)) text (begins_over k steps r.session over) (summary (closing_by e) steps, is)
covers r e status text (halt_came z h) whole k low =
    let le : k ≤ h.count = subst (λ (o : Option ℕ). IfSome o (λ c. k ≤ c)) h.halt low in
    begins_then (run_text (lines k r.session)) (run_text (lines h.count r.session)) text (begins_more k h.count r.session le) (ended (halted_line h.count), h.printed)
covers r e status text (fell_short short shape) whole k low = absurd (short whole)

pub cut_from : (r : Run) (e : Option Exercise) (status : ℕ) (text text' : List ℕ) → Printed r e status text → IsWhole status → Shape r text' → IsCutFrom text text'
cut_from r e status text text' printed whole s =
    let b = begins_then s.front (run_text (lines s.steps r.session)) text s.begins (covers r e status text printed whole s.steps s.within) in
    record { front = s.front; rest = b.0; line = s.line; begins = b.1; ends = s.is; one = s.one }

one_status : (r : Run) → (a b : List ℕ) → IsFinished r a → IsHalted r b → ⊥
one_status r a b f h =
    let zero = finished-status r a f in
    grind (arith, halted-status)

finished_at : (r : Run) (steps : ℕ) → IsWithinHalt r steps → live_after steps r.session ≡ 0 → IsFinished r (run_text (lines steps r.session))
finished_at r steps within over = record { steps = steps; within = within; over = over; printed = refl }

pub agree : (r : Run) (e : Option Exercise) (status status' : ℕ) (text text' : List ℕ) → Printed r e status text → Printed r e status' text' → IsWhole status → IsWhole status' → (status ≡ status') × (text ≡ text')
agree r e status status' text text' (all_ended z n within over made is) (all_ended z' m within' over' made' is') w w' = grind (arith, same_session)
agree r e status status' text text' (halt_came z h) (halt_came z' h') w w' = (z ∙ sym z', (stops-once r 3 3 text text' (halted refl h) (halted refl h')).1)
agree r e status status' text text' (all_ended z n within over made is) (halt_came z' h') w w' = absurd (one_status r (run_text (lines n r.session)) text' (finished_at r n within over) h')
agree r e status status' text text' (halt_came z h) (all_ended z' m within' over' made' is') w w' = absurd (one_status r (run_text (lines m r.session)) text (finished_at r m within' over') h)
agree r e status status' text text' (fell_short short shape) other w w' = absurd (short w)
agree r e status status' text text' one (fell_short short shape) w w' = absurd (short w')

-- ---- the text that is due

-- its front begins what some steps print, and its last part is at most one line
pub record TextShape (r : Run) (text : Text) : Type 0 where
  pub steps : ℕ
  pub within : IsWithinHalt r steps
  pub begins : Begins text.front (run_text (lines steps r.session))
  pub one : IsOneLine text.last

pub whole_shape : (r : Run) (text : Text) → TextShape r text → Shape r (whole_of text)
whole_shape r text s = record { steps = s.steps; within = s.within; front = text.front; line = text.last; begins = s.begins; one = s.one; is = refl }

pub cut_shape : (r : Run) (text : Text) (count : ℕ) → TextShape r text → Shape r (text.front ++ take count text.last)
cut_shape r text count s = record { steps = s.steps; within = s.within; front = text.front; line = take count text.last; begins = s.begins; one = taken_is_one count text.last s.one; is = refl }

-- of a run and of an exercise that halt the line alone is printed
halted_alone : (e : Option Exercise) (k : Machine) → halted_text (closing_by e) k ≡ ended (halted_line k.tasks.made)
halted_alone e k = grind arith

abbrev behind : List RunLine → List ℕ → Text
behind printed last = record { front = run_text printed; last = last }

pub lone : (r : Run) (text : Text) (line : List ℕ) → IsOneLine line → text ≡ only line → TextShape r text
lone r text line one is = subst (λ (x : Text). TextShape r x) (sym is) (record { steps = 0; within = within_none r.halt; begins = (run_text (lines 0 r.session), refl); one = one })

module _ {B : Type 0} (d : Device B) (tells : DeviceTells d) (core : ℕ) (p : Prepared) where
  abbrev of_deck : Run
  of_deck = run_of p

  stepped : (k : Machine) (s : Session) (printed : List RunLine) (text : Text) (line : List ℕ) → StandsAfter d k.tasks.made of_deck.session s printed → IsWithinHalt of_deck k.tasks.made → IsOneLine line
      → text ≡ record { front = run_text printed; last = line } → TextShape of_deck text
  stepped k s printed text line comes within one is = grind (arith, append-nil)

  stop_shape : (e : Option Exercise) (machine : Option Machine) (status : ℕ) (text : Text) → RunStops d core p (closing_by e) machine status text → TextShape of_deck text
  stop_shape e machine status text (unopened none (memory_refused same s t)) = lone of_deck text (ended memory_line) memory_is_one t
  stop_shape e machine status text (unopened none (opening_wants_core same more s t)) = lone of_deck text _ (no_core_is_one _ _) t
  stop_shape e machine status text (unopened none (opening_wants_sectors same fits more s t)) = lone of_deck text _ (backing_full_is_one _ _) t
  stop_shape e machine status text (unopened none (opening_fails room failed s t)) = lone of_deck text (ended backing_fault_line) backing_fault_is_one t
  stop_shape e machine status text (opened k is opens none (all_end s h)) = stepped k h.session h.printed text (summary (closing_by e) k.tasks.made) h.comes h.within (summary_is_one (closing_by e) k.tasks.made) h.text_is
  stop_shape e machine status text (opened k is opens none (halt_comes s h)) =
      stepped k h.stop.session h.stop.printed text (ended (halted_line k.tasks.made)) h.stop.comes (at_halt of_deck.halt k.tasks.made h.halt) (halted_is_one k.tasks.made)
      (h.text_is ∙ ap (behind h.stop.printed) (halted_alone e k))
  stop_shape e machine status text (opened k is opens none (step_wants_core s h)) = stepped k h.stop.session h.stop.printed text _ h.stop.comes (within_less of_deck.halt k.tasks.made h.due) (no_core_is_one _ _) h.text_is
  stop_shape e machine status text (opened k is opens none (step_wants_sectors s h)) = stepped k h.stop.session h.stop.printed text _ h.stop.comes (within_less of_deck.halt k.tasks.made h.due) (backing_full_is_one _ _) h.text_is
  stop_shape e machine status text (opened k is opens none (step_fails s failed h)) =
      stepped k h.stop.session h.stop.printed text (ended backing_fault_line) h.stop.comes (within_less of_deck.halt k.tasks.made h.due) backing_fault_is_one h.text_is

  stop_prints : (e : Option Exercise) (machine : Option Machine) (status : ℕ) (text : Text) → RunStops d core p (closing_by e) machine status text → Printed of_deck e status (whole_of text)
  stop_prints e machine status text stops = by_stop stops (whole_shape of_deck text (stop_shape e machine status text stops))
    where
      by_stop : RunStops d core p (closing_by e) machine status text → Shape of_deck (whole_of text) → Printed of_deck e status (whole_of text)
      by_stop (unopened none (memory_refused same s t)) shape = fell_short (short_at status 9 s (inl (omega arith))) shape
      by_stop (unopened none (opening_wants_core same more s t)) shape = fell_short (short_at status 4 s (inl (omega arith))) shape
      by_stop (unopened none (opening_wants_sectors same fits more s t)) shape = fell_short (short_at status 5 s (inl (omega arith))) shape
      by_stop (unopened none (opening_fails room failed s t)) shape = fell_short (short_at status 6 s (inl (omega arith))) shape
      by_stop (opened k is opens none (all_end s h)) shape =
          all_ended s k.tasks.made h.within (subst (λ (z : Session). live_tasks z.jobs ≡ 0) (h.comes.session tells) h.rests.none)
          (ap (λ (z : Session). z.made) (sym (h.comes.session tells)) ∙ sym h.rests.stands.tables.counts.made)
          (ap whole_of h.text_is ∙ ap (λ (ls : List RunLine). run_text ls ++ summary (closing_by e) k.tasks.made) (h.comes.lines_are tells))
      by_stop (opened k is opens none (halt_comes s h)) shape =
          halt_came s (subst (λ (x : List ℕ). IsHalted of_deck (text.front ++ x)) (sym (ap (λ (x : Text). x.last) h.text_is ∙ halted_alone e k))
          (is_halted d k.tasks.made of_deck (closing_by e) k text h tells))
      by_stop (opened k is opens none (step_wants_core s h)) shape = fell_short (short_at status 4 s (inl (omega arith))) shape
      by_stop (opened k is opens none (step_wants_sectors s h)) shape = fell_short (short_at status 5 s (inl (omega arith))) shape
      by_stop (opened k is opens none (step_fails s failed h)) shape = fell_short (short_at status 6 s (inl (omega arith))) shape

  -- the printer failed in the text of a step
  part_shape : (text : Text) (count steps : ℕ) → IsWithinHalt of_deck steps → Begins (whole_of text) (run_text (lines steps of_deck.session)) → Shape of_deck (text.front ++ take count text.last)
  part_shape text count steps within begins = record {
    steps = steps;
    within = within;
    front = text.front ++ take count text.last;
    line = [];
    begins = begins_then (text.front ++ take count text.last) (whole_of text) (run_text (lines steps of_deck.session))
        (drop count text.last, ap (λ (xs : List ℕ). text.front ++ xs) (sym (take-append-drop count text.last)) ∙ sym (append_assoc text.front (take count text.last) (drop count text.last)))
        begins;
    one = none_is_one;
    is = sym (append-nil (text.front ++ take count text.last));
  }

  printing_shape : (machine : Option Machine) (text : Text) (count : ℕ) → IsPrintingStep d core p machine text count → Shape of_deck (text.front ++ take count text.last)
  printing_shape machine text count h = by_cut h.cut
    where
      by_cut : IsPrintingNext d core h.left.tasks.made of_deck h.left text → Shape of_deck (text.front ++ take count text.last)
      by_cut (inl c) = let b = c.begins tells in part_shape text count (h.left.tasks.made + 1) (within_next of_deck.halt h.left.tasks.made c.due) (b.0, sym b.1)
      by_cut (inr c) = part_shape text count h.left.tasks.made c.within ([], sym (c.exact tells).all ∙ sym (append-nil (whole_of text)))

-- ---- calls

-- a call printed what its deck gives
pub record CallPrints (j : Judgement) (e : Option Exercise) (status : ℕ) (text : List ℕ) : Type 0 where
  pub runs : IsWhole status → (p : Prepared) × (j ≡ Runs p)
  pub prints : (p : Prepared) → j ≡ Runs p → Printed (run_of p) e status text
  pub refused : (refusal : Refusal) → j ≡ Refused refusal → (r : Run) → Shape r text

abbrev pub prepared_in : Prepared → Judgement → Prepared
prepared_in other (Refused refusal) = other
prepared_in other (Runs p) = p
prepared_in other (Prints text) = other
prepared_in other OfImage = other

pub not_refused : (j : Judgement) (p : Prepared) → j ≡ Runs p → (refusal : Refusal) → j ≡ Refused refusal → ⊥
not_refused j p is refusal refused = let both : Runs p ≡ Refused refusal = sym is ∙ refused in cc

with_deck : (j : Judgement) (e : Option Exercise) (status : ℕ) (text : List ℕ) (p : Prepared) → j ≡ Runs p → Printed (run_of p) e status text → CallPrints j e status text
with_deck j e status text p is printed = grind arith

module _ {K : Type 0} (taken : K → Option (List ℕ)) (faults : K → ℕ) (old new : K) (j : Judgement) (e : Option Exercise) where
  abbrev pub Prints_so : ℕ → Type 0
  Prints_so answer = (text : List ℕ) × Took taken old new text × CallPrints j e answer text

  -- a call that isn't whole, whatever its deck
  pub short_call : (status : ℕ) (text : Text) (answer : ℕ) → (IsWhole status → ⊥) → ((r : Run) → TextShape r text) → PrintsAndAnswers taken faults old new status text answer → Prints_so answer
  short_call status text answer short shape (all_taken a took) = grind (arith, whole_shape)
  short_call status text answer short shape (cut_short count a rose part) = grind (arith, cut_shape)

  run_call : (p : Prepared) (status : ℕ) (text : Text) (answer : ℕ) → j ≡ Runs p → Printed (run_of p) e status (whole_of text) → TextShape (run_of p) text → PrintsAndAnswers taken faults old new status text answer → Prints_so answer
  run_call p status text answer is printed shape (all_taken a took) = (whole_of text, took, with_deck j e answer (whole_of text) p is (subst (λ (n : ℕ). Printed (run_of p) e n (whole_of text)) (sym a) printed))
  run_call p status text answer is printed shape (cut_short count a rose part) =
      (text.front ++ take count text.last, part.took, with_deck j e answer (text.front ++ take count text.last) p is (fell_short (short_at answer 8 a (inl (omega arith))) (cut_shape (run_of p) text count shape)))

  module _ {S B : Type 0} {words : List (Bor (List ℕ))} {left : S → Option (List ℕ)} {source_faults : S → ℕ} {deck deck' : S} {d : Device B} {machine : Option Machine} (asks : Asks words left deck deck' j e) (tells : DeviceTells d) where
    by_due : (status : ℕ) (text : Text) (answer : ℕ) → IsDue words left source_faults deck deck' d machine status text → PrintsAndAnswers taken faults old new status text answer → Prints_so answer
    by_due status text answer (usage_due c g same m s t) closes = short_call status text answer (short_at status 1 s (inr (omega arith, omega arith))) (λ r. lone r text usage_text usage_is_one t) closes
    by_due status text answer (refusal_due command b refusal c r same judged m s t) closes = short_call status text answer (short_at status 2 s (inr (omega arith, omega arith))) (λ r. lone r text _ (refusal_is_one refusal) t) closes
    by_due status text answer (print_due command b printed c r same judged m s t) closes = absurd (asks.no_text command b printed c judged)
    by_due status text answer (image_due command sectors card reason c wanted r same m s t) closes = absurd (asks.no_image d.sectors command sectors c wanted)
    by_due status text answer (dump_due image dump o same m s t) closes = absurd (asks.no_image d.sectors commands.Dump None o.is refl)
    by_due status text answer (run_due core p run stops) closes =
        let same = subst (λ (x : Closing). RunStops d core p x machine status text) (asks.closing_is core p run) stops in
        run_call p status text answer (asks.judged core p run) (stop_prints d tells core p e machine status text same) (stop_shape d tells core p e machine status text same) closes
    by_due status text answer (reading_due c r same m s t) closes = short_call status text answer (short_at status 7 s (inl (omega arith))) (λ r. lone r text reading_text reading_is_one t) closes
    by_due status text answer (memory_due c same m s t) closes = short_call status text answer (short_at status 9 s (inl (omega arith))) (λ r. lone r text (ended memory_line) memory_is_one t) closes

    pub call_prints : (answer : ℕ) → Answered words left source_faults deck deck' d machine taken faults old new answer → Prints_so answer
    call_prints answer (answered status text due closes) = by_due status text answer due closes
    call_prints answer (cut_in_step core p text count run printing a rose part) = (
      text.front ++ take count text.last,
      part.took,
      with_deck j e answer (text.front ++ take count text.last) p (asks.judged core p run)
          (fell_short (short_at answer 8 a (inl (omega arith))) (printing_shape d tells core p machine text count printing)),
    )
    call_prints answer (goes_on g) = absurd (asks.no_image d.sectors commands.Resume (Some d.sectors) g.of.is refl)
