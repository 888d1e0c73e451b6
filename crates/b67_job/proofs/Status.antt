-- The status of a call for which core, the device and the printer suffice.
use Rattle.std.proofs.Common.{◌≡◌, ◌+◌, ◌<◌, ◌≤◌, ◌⊎◌, inl, inr, true, ℕ, List, ◌++◌, length, take, sym, ap, ◌∙◌, subst, arith, refl, Option, Some, None, Result, Ok, Err}
use Rattle.std.specs.Prelude.{is_some, option_map}
use Rattle.std.proofs.lemmas.Bool.{false≢true}
use Rattle.std.proofs.lemmas.Option.{none-some, same_Some}
use Rattle.std.proofs.lemmas.List.{length-append}
use denote.Ref.{Bor}
use Rattle.b67_io.specs.Line.{ended}
use Rattle.b67_io.specs.Causes.{Stayed}
use Rattle.b67_model_text.specs.Deck as deck_text
use Rattle.b67_model_text.specs.Deck.{Refusal}
use Rattle.b67_task.specs.declared.tables.Machine.{Machine}
use Rattle.b67_job.specs.Admitting.{Prepared}
use Rattle.b67_model.specs.Common.{need, need_of_job, need_by, need_next, Task, SessionJob, Session}
use Rattle.b67_law.specs.Turns.{IsNext}
use Rattle.b67_session.specs.Passed.{TakesSectors}
use Rattle.b67_session.proofs.Tells.{takes_of}
use Rattle.b67_session_lines.specs.Stops.{Run, run_status, halted_line}
use Rattle.b67_layout.specs.Machine.{Says}
use Rattle.b67_image.specs.Parts.{ImageParts}
use Rattle.b67_image.specs.Text.{limit}
use Rattle.b67_image.specs.Meaning.{told_in, IsMeant, IsImageRead}
use Rattle.b67_image.specs.declared.fault.ImageFault.TheVariants as images
use Rattle.b67_session_lines.proofs.Statuses.{finished-status, halted-status}
use Rattle.b67_job.specs.declared.summaries.Closing.TheVariants as closings
use Rattle.b67_job.specs.Device.{Device, DeviceTells, Worked, knowing}
use Rattle.b67_job.specs.Texts.{Text, all_taken, cut_short}
use Rattle.b67_job.specs.Going.{run_from, PlainEnd, Resumed}
use Rattle.b67_job.specs.Runs.{run_of, StopsOpened, steps_stop, next_is_cut, memory_refused, opening_wants_core, opening_wants_sectors, opening_fails, all_end, halt_comes, step_wants_core, step_wants_sectors, step_fails, RunStops, unopened, opened}
use Rattle.b67_job.specs.Command.{command_line_of}
use Rattle.b67_job.specs.declared.command.CommandLine.{CommandLine}
use Rattle.b67_job.specs.declared.command.CommandLine.TheVariants as lines
use Rattle.b67_job.specs.Judgement.{Judgement, Refused, Runs, Prints, asked, judged_status, core_asked, closing_of, reads_text, reads_deck, image_sectors}
use Rattle.b67_job.specs.declared.summaries.Closing.{Closing}
use Rattle.b67_job.specs.Due.{WasGiven, CommandWasRead, ReadAll, Supplies, IsDue, usage_due, refusal_due, print_due, run_due, reading_due, memory_due, image_due, dump_due, Answered, answered, cut_in_step, goes_on, SufficesForSteps, SufficesForRun, IsImageText, IsAmple}
use Rattle.b67_job.proofs.Served.{asked_long}
use Rattle.b67_job.proofs.Finished.{is_finished, is_halted}
use Rattle.b67_job.proofs.Going.{told_alike}

-- the need of a task that makes the next step is the session's
next_need : (core : ℕ) (s : Session) (m : SessionJob) (t : Task) → IsNext s m t → need_next core s ≡ Some (need core s m t)
next_need core s m t n =
    ap (need_by core s) n.is ∙ ap (need_of_job core s n.chosen.who.task) n.member ∙ ap (λ (o : Option Task). option_map (need core s m) o) n.task

-- ---- texts that begin alike past the limit are judged alike

given_status : {S : Type 0} {left : S → Option (List ℕ)} {deck deck' : S} (command : CommandLine) (bytes told : List ℕ) → reads_deck command ≡ true → left deck ≡ Some told → WasGiven left deck deck' bytes
    → judged_status (asked command told) ≡ judged_status (asked command bytes)
given_status command bytes told r e (inl all) = ap (λ (text : List ℕ). judged_status (asked command text)) (all.told told e).0
given_status command bytes told r e (inr front) =
    let f = front.0.told told e in
    let exactly = front.1 in
    let long : deck_text.limit < length bytes = omega (arith, exactly) in
    let longer : deck_text.limit < length told = rw f.1 (omega (arith, length-append bytes f.0)) in
    ap judged_status (asked_long command told r longer) ∙ sym (ap judged_status (asked_long command bytes r long))

read_status : {S : Type 0} (left : S → Option (List ℕ)) (faults : S → ℕ) (deck deck' : S) (command : CommandLine) (bytes told : List ℕ) → Supplies command left faults deck deck' told → CommandWasRead command left deck deck' bytes
    → judged_status (asked command told) ≡ judged_status (asked command bytes)
read_status left faults deck deck' (lines.Run core) bytes told h given = given_status (lines.Run core) bytes told refl h.0 given
read_status left faults deck deck' (lines.Image core) bytes told h given = given_status (lines.Image core) bytes told refl h.0 given
read_status left faults deck deck' lines.Resume bytes told h given = refl
read_status left faults deck deck' lines.Dump bytes told h given = refl
read_status left faults deck deck' lines.Asm bytes told h given = given_status lines.Asm bytes told refl h.0 given
read_status left faults deck deck' lines.Check bytes told h given = given_status lines.Check bytes told refl h.0 given
read_status left faults deck deck' lines.Convert bytes told h given = given_status lines.Convert bytes told refl h.0 given
read_status left faults deck deck' (lines.Bind pairs) bytes told h given = given_status (lines.Bind pairs) bytes told refl h.0 given
read_status left faults deck deck' (lines.Exercise seed size core) bytes told h same = refl

-- a text that was read to its end is judged as the one that the source tells
same_judgement : {S : Type 0} (left : S → Option (List ℕ)) (faults : S → ℕ) (deck deck' : S) (command : CommandLine) (bytes told : List ℕ) → Supplies command left faults deck deck' told → ReadAll command left deck deck' bytes
    → asked command told ≡ asked command bytes
same_judgement left faults deck deck' (lines.Run core) bytes told h all = ap (asked (lines.Run core)) (all.told told h.0).0
same_judgement left faults deck deck' (lines.Image core) bytes told h all = ap (asked (lines.Image core)) (all.told told h.0).0
same_judgement left faults deck deck' lines.Resume bytes told h all = refl
same_judgement left faults deck deck' lines.Dump bytes told h all = refl
same_judgement left faults deck deck' lines.Asm bytes told h all = ap (asked lines.Asm) (all.told told h.0).0
same_judgement left faults deck deck' lines.Check bytes told h all = ap (asked lines.Check) (all.told told h.0).0
same_judgement left faults deck deck' lines.Convert bytes told h all = ap (asked lines.Convert) (all.told told h.0).0
same_judgement left faults deck deck' (lines.Bind pairs) bytes told h all = ap (asked (lines.Bind pairs)) (all.told told h.0).0
same_judgement left faults deck deck' (lines.Exercise seed size core) bytes told h same = refl

-- a source that supplies a command that reads it hasn't failed
stays : {S : Type 0} (left : S → Option (List ℕ)) (faults : S → ℕ) (deck deck' : S) (told : List ℕ) (command : CommandLine) → reads_text (Some command) ≡ true → Supplies command left faults deck deck' told → Stayed faults deck deck'
stays left faults deck deck' told (lines.Run core) r h = h.1
stays left faults deck deck' told (lines.Image core) r h = h.1
stays left faults deck deck' told lines.Resume r h = h.1
stays left faults deck deck' told lines.Dump r h = h.1
stays left faults deck deck' told lines.Asm r h = h.1
stays left faults deck deck' told lines.Check r h = h.1
stays left faults deck deck' told lines.Convert r h = h.1
stays left faults deck deck' told (lines.Bind pairs) r h = h.1
stays left faults deck deck' told (lines.Exercise seed size core) r h = absurd (false≢true r)

-- what is ample for a command is so for the session that it opens
ample_run : {B : Type 0} {d : Device B} {core : ℕ} {p : Prepared} (command : CommandLine) (told : List ℕ) → core_asked command ≡ Some core → asked command told ≡ Runs p → IsAmple d command told → DeviceTells d × SufficesForRun d core p
ample_run {d = d} {core = core} {p = p} (lines.Run n) told e judged ample = (ample.0, subst (λ (m : ℕ). SufficesForRun d m p) (same_Some n core e) (ample.1 p judged))
ample_run {d = d} {core = core} {p = p} (lines.Image n) told e judged ample = (ample.0, subst (λ (m : ℕ). SufficesForRun d m p) (same_Some n core e) (ample.1 p judged))
ample_run {d = d} {core = core} {p = p} (lines.Exercise seed size n) told e judged ample = (ample.0, subst (λ (m : ℕ). SufficesForRun d m p) (same_Some n core e) (ample.1 p judged))
ample_run {core = core} lines.Resume told e judged ample = absurd (none-some core e)
ample_run {core = core} lines.Dump told e judged ample = absurd (none-some core e)
ample_run {core = core} lines.Asm told e judged ample = absurd (none-some core e)
ample_run {core = core} lines.Check told e judged ample = absurd (none-some core e)
ample_run {core = core} lines.Convert told e judged ample = absurd (none-some core e)
ample_run {core = core} (lines.Bind pairs) told e judged ample = absurd (none-some core e)

-- ---- the status that is due

same_command : (o : Option CommandLine) (a b : CommandLine) → o ≡ Some a → o ≡ Some b → a ≡ b
same_command o a b e f = cc

opened_status : {B : Type 0} (d : Device B) (core steps : ℕ) (r : Run) (closing : Closing) (k : Machine) (status : ℕ) (text : Text) → DeviceTells d → SufficesForSteps d core r → Worked d
    → StopsOpened d core steps r closing k status text → status ≡ run_status r
opened_status d core steps r closing k status text tells ample worked (all_end s h) = s ∙ sym (finished-status r text.front (is_finished d steps r closing k text h tells))
opened_status d core steps r closing k status text tells ample worked (halt_comes s h) = s ∙ sym (halted-status r (text.front ++ ended (halted_line steps)) (is_halted d steps r closing k text h tells))
opened_status d core steps r closing k status text tells ample worked (step_wants_core s w) =
    let same = w.stop.comes.session tells in
    let less = subst (λ (z : Session). need_next core z ≡ Some (need core w.stop.session w.stop.member w.stop.task) → need core w.stop.session w.stop.member w.stop.task ≤ core) (sym same)
    (ample.core_suffices steps (need core w.stop.session w.stop.member w.stop.task) w.due) (next_need core w.stop.session w.stop.member w.stop.task w.stop.next) in
    let more = w.exceeds in
    absurd (omega (arith, more, less))
opened_status d core steps r closing k status text tells ample worked (step_wants_sectors s w) =
    let same = w.stop.comes.session tells in
    let less = subst (λ (z : Session). IsNext z w.stop.member w.stop.task → TakesSectors z w.stop.member w.stop.task w.sum → w.sum ≤ d.sectors) (sym same)
    (ample.sectors_suffice steps w.sum w.stop.member w.stop.task w.due) w.stop.next
    (takes_of (DeviceTells d) w.stop.stands.storage w.stop.stands.plan w.stop.session w.stop.member w.stop.task w.sum w.tells) in
    let more = w.exceeds in
    absurd (omega (arith, more, less))
opened_status d core steps r closing k status text tells ample worked (step_fails s failed h) = absurd (omega (arith, failed, worked))

run_status_is : {B : Type 0} (d : Device B) (core : ℕ) (p : Prepared) (closing : Closing) (machine : Option Machine) (status : ℕ) (text : Text) → DeviceTells d → SufficesForRun d core p → Worked d → RunStops d core p closing machine status text
    → (status ≡ judged_status (Runs p)) ⊎ (status ≡ 9)
run_status_is d core p closing machine status text tells ample worked (unopened none (memory_refused same s t)) = inr s
run_status_is d core p closing machine status text tells ample worked (unopened none (opening_wants_core same more s t)) = let room = ample.room.0 in absurd (omega (arith, more, room))
run_status_is d core p closing machine status text tells ample worked (unopened none (opening_wants_sectors same fits more s t)) = let room = ample.room.1 in absurd (omega (arith, more, room))
run_status_is d core p closing machine status text tells ample worked (unopened none (opening_fails room failed s t)) = absurd (omega (arith, failed, worked))
run_status_is d core p closing machine status text tells ample worked (opened k is opens none stops) = inl (opened_status d core k.tasks.made (run_of p) closing k status text tells ample.steps worked stops)

-- ---- a run that goes on from an image

says_itself : (told : Option (List (List ℕ))) → Says told told
says_itself None = tt
says_itself (Some all) = refl

end_status : {B K : Type 0} {taken : K → Option (List ℕ)} {faults : K → ℕ} {old new : K} {answer : ℕ} (e : Device B) (core steps : ℕ) (s : Session) (k : Machine) → DeviceTells e → SufficesForSteps e core (run_from s) → Worked e → Stayed faults old new
    → PlainEnd taken faults old new answer e core steps (run_from s) k → answer ≡ 0
end_status e core steps s k tells ample worked calm (steps_stop status text none stops (all_taken a took)) = a ∙ opened_status e core steps (run_from s) closings.Plain k status text tells ample worked stops
end_status e core steps s k tells ample worked calm (steps_stop status text none stops (cut_short count a rose part)) = absurd (omega (arith, rose, calm))
end_status e core steps s k tells ample worked calm (next_is_cut text cut a rose part) = absurd (omega (arith, rose, calm))

-- what is ample for a command that reads an image
ample_image : {B : Type 0} (d : Device B) (command : CommandLine) (told : List ℕ) (sectors : Option ℕ) → image_sectors d.sectors command ≡ Some sectors → IsAmple d command told → IsImageText sectors told
ample_image d lines.Resume told sectors e ample = subst (λ (o : Option ℕ). IsImageText o told) (same_Some (Some d.sectors) sectors e) ample.1.read
ample_image d lines.Dump told sectors e ample = subst (λ (o : Option ℕ). IsImageText o told) (same_Some None sectors e) ample
ample_image d (lines.Run n) told sectors e ample = absurd (none-some sectors e)
ample_image d (lines.Image n) told sectors e ample = absurd (none-some sectors e)
ample_image d (lines.Exercise seed size n) told sectors e ample = absurd (none-some sectors e)
ample_image d lines.Asm told sectors e ample = absurd (none-some sectors e)
ample_image d lines.Check told sectors e ample = absurd (none-some sectors e)
ample_image d lines.Convert told sectors e ample = absurd (none-some sectors e)
ample_image d (lines.Bind pairs) told sectors e ample = absurd (none-some sectors e)

supplied_image : {S : Type 0} (left : S → Option (List ℕ)) (faults : S → ℕ) (deck deck' : S) (told : List ℕ) (count : ℕ) (command : CommandLine) (sectors : Option ℕ) → image_sectors count command ≡ Some sectors → Supplies command left faults deck deck' told → left deck ≡ Some told
supplied_image left faults deck deck' told count lines.Resume sectors e h = h.0
supplied_image left faults deck deck' told count lines.Dump sectors e h = h.0
supplied_image left faults deck deck' told count (lines.Run n) sectors e h = h.0
supplied_image left faults deck deck' told count (lines.Image n) sectors e h = h.0
supplied_image left faults deck deck' told count lines.Asm sectors e h = h.0
supplied_image left faults deck deck' told count lines.Check sectors e h = h.0
supplied_image left faults deck deck' told count lines.Convert sectors e h = h.0
supplied_image left faults deck deck' told count (lines.Bind pairs) sectors e h = h.0
supplied_image left faults deck deck' told count (lines.Exercise seed size n) sectors e h = absurd (none-some sectors e)

-- an image that is ample isn't refused
not_refused : {S B : Type 0} (left : S → Option (List ℕ)) (faults : S → ℕ) (deck deck' : S) (d : Device B) (command : CommandLine) (told : List ℕ) (sectors : Option ℕ) (card reason : ℕ) → image_sectors d.sectors command ≡ Some sectors
    → Supplies command left faults deck deck' told → IsAmple d command told → IsImageRead left faults deck deck' sectors (Err (images.Card card reason)) → ⊥
not_refused left faults deck deck' d command told sectors card reason wanted supplies ample read =
    let a = ample_image d command told sectors wanted ample in
    let given = supplied_image left faults deck deck' told d.sectors command sectors wanted supplies in
    let front : read.0 ≡ take (limit + 1) told = (read.1.told told given).0 in
    let meant = subst (λ (r : Result (ℕ × ImageParts) Refusal). IsMeant (Err (images.Card card reason)) r) (ap (told_in sectors) front ∙ told_alike sectors told) read.2 in
    a card reason meant

commanded : (words : List (Bor (List ℕ))) (command : CommandLine) → command_line_of words ≡ Some command → is_some (command_line_of words) ≡ true
commanded words command e = ap is_some e

module _ {S B : Type 0} {words : List (Bor (List ℕ))} {left : S → Option (List ℕ)} {source_faults : S → ℕ} {deck deck' : S} {d : Device B} {machine : Option Machine} where
  due_status : {status : ℕ} {text : Text} (command : CommandLine) (told : List ℕ) → command_line_of words ≡ Some command → Supplies command left source_faults deck deck' told → IsAmple d command told → Worked d
      → IsDue words left source_faults deck deck' d machine status text → (status ≡ judged_status (asked command told)) ⊎ (status ≡ 9)
  due_status command told is supplies ample worked (usage_due c g same m s t) = absurd (false≢true (sym c ∙ commanded words command is))
  due_status command told is supplies ample worked (refusal_due other b refusal c r untouched j m s t) =
      let same : other ≡ command = same_command (command_line_of words) other command c is in
      let read = subst (λ (x : CommandLine). CommandWasRead x left deck deck' b) same r in
      let judged = subst (λ (x : CommandLine). asked x b ≡ Refused refusal) same j in
      inl (s ∙ sym (read_status left source_faults deck deck' command b told supplies read ∙ ap judged_status judged))
  due_status command told is supplies ample worked (print_due other b printed c r untouched j m s t) =
      let same : other ≡ command = same_command (command_line_of words) other command c is in
      let read = subst (λ (x : CommandLine). ReadAll x left deck deck' b) same r in
      let judged = subst (λ (x : CommandLine). asked x b ≡ Prints printed) same j in
      inl (s ∙ sym (ap judged_status (same_judgement left source_faults deck deck' command b told supplies read ∙ judged)))
  due_status command told is supplies ample worked (image_due other sectors card reason c wanted r untouched m s t) =
      let same : other ≡ command = same_command (command_line_of words) other command c is in
      absurd (not_refused left source_faults deck deck' d command told sectors card reason (subst (λ (x : CommandLine). image_sectors d.sectors x ≡ Some sectors) same wanted) supplies ample r)
  due_status command told is supplies ample worked (dump_due image dump o untouched m s t) =
      let same : lines.Dump ≡ command = same_command (command_line_of words) lines.Dump command o.is is in
      inl (s ∙ ap (λ (x : CommandLine). judged_status (asked x told)) same)
  due_status {status = status} {text = text} command told is supplies ample worked (run_due core p run stops) =
      let same : run.command ≡ command = same_command (command_line_of words) run.command command run.is is in
      let read = subst (λ (x : CommandLine). ReadAll x left deck deck' run.bytes) same run.read in
      let opens = subst (λ (x : CommandLine). core_asked x ≡ Some core) same run.opens in
      let judged : asked command told ≡ Runs p = same_judgement left source_faults deck deck' command run.bytes told supplies read ∙ subst (λ (x : CommandLine). asked x run.bytes ≡ Runs p) same run.judged in
      let room = ample_run command told opens judged ample in
      subst (λ (j : Judgement). (status ≡ judged_status j) ⊎ (status ≡ 9)) (sym judged)
      (run_status_is d core p (closing_of (command_line_of words)) machine status text room.0 room.1 worked stops)
  due_status command told is supplies ample worked (reading_due c r same m s t) =
      let calm = stays left source_faults deck deck' told command (sym (ap reads_text is) ∙ c) supplies in
      absurd (omega (arith, r, calm))
  due_status command told is supplies ample worked (memory_due c same m s t) = inr s

  pub completed : {K : Type 0} (taken : K → Option (List ℕ)) (faults : K → ℕ) (old new : K) (answer : ℕ) (command : CommandLine) (told : List ℕ) → command_line_of words ≡ Some command
      → Supplies command left source_faults deck deck' told → IsAmple d command told → Stayed faults old new → Worked d → Answered words left source_faults deck deck' d machine taken faults old new answer
      → (answer ≡ judged_status (asked command told)) ⊎ (answer ≡ 9)
  completed taken faults old new answer command told is supplies ample calm worked (answered status text due (all_taken a took)) =
      subst (λ (n : ℕ). (n ≡ judged_status (asked command told)) ⊎ (n ≡ 9)) (sym a) (due_status command told is supplies ample worked due)
  completed taken faults old new answer command told is supplies ample calm worked (answered status text due (cut_short count a rose part)) = absurd (omega (arith, rose, calm))
  completed taken faults old new answer command told is supplies ample calm worked (goes_on g) =
      let same : lines.Resume ≡ command = same_command (command_line_of words) lines.Resume command g.of.is is in
      subst (λ (x : CommandLine). Supplies x left source_faults deck deck' told → IsAmple d x told → (answer ≡ judged_status (asked x told)) ⊎ (answer ≡ 9)) same
      (λ supplies ample. inl (goes_to_end g supplies ample)) supplies ample
    where
      goes_to_end : Resumed words left source_faults deck deck' d machine (PlainEnd taken faults old new answer) → Supplies lines.Resume left source_faults deck deck' told → IsAmple d lines.Resume told → answer ≡ 0
      goes_to_end g supplies ample =
          let same : told ≡ g.of.read.0 = (g.of.read.1.told told supplies.0).0 in
          let meant = subst (λ (text : List ℕ). IsMeant (Ok g.image) (told_in (Some d.sectors) text)) (sym same) g.of.read.2 in
          let a = ample.1.runs g.image meant in
          let z = g.gone.each d.before a.0 (says_itself d.before) a.1 in
          end_status (knowing d.before d) (length g.image.cpu.core) z.0 a.0 g.k ample.0 (record { core_suffices = a.2.core_suffices; sectors_suffice = a.2.sectors_suffice }) worked calm z.2
  completed taken faults old new answer command told is supplies ample calm worked (cut_in_step core p text count run printing a rose part) = absurd (omega (arith, rose, calm))
