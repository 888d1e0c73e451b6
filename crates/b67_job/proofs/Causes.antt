-- The causes of a status.
use Rattle.std.proofs.Common.{◌≡◌, ◌≢◌, ◌⊎◌, inl, inr, ℕ, ◌≤◌, true, false, List, refl, sym, ap, ◌∙◌, subst, arith, Option, Some, None}
use Rattle.std.specs.Prelude.{is_some}
use Rattle.std.proofs.lemmas.Bool.{false≢true}
use Rattle.std.proofs.lemmas.Option.{none-some, same_Some}
use denote.Ref.{Bor}
use Rattle.b67_io.specs.Told.{Took}
use Rattle.b67_io.specs.Causes.{Rose}
use Rattle.b67_task.specs.declared.tables.Machine.{Machine}
use Rattle.b67_job.specs.Admitting.{Prepared}
use Rattle.b67_session_lines.specs.Stops.{IsFinished}
use Rattle.b67_job.specs.declared.summaries.Closing.TheVariants as closings
use Rattle.b67_job.specs.Device.{Device, DeviceTells, Failed, DeviceUnchanged}
use Rattle.b67_job.specs.Texts.{Text, whole_of, only, TookUpTo, all_taken, cut_short}
use Rattle.b67_job.specs.Lines.{memory_text}
use Rattle.b67_job.specs.Statuses.{WentOn, IsDumped, StatusMeans}
use Rattle.b67_job.specs.Runs.{run_of, IsDone, WantsCore, WantsSectors, IsCutOff, StopsOpened, IsPrintingNext, WasOpened, memory_refused, opening_wants_core, opening_wants_sectors, opening_fails, all_end, halt_comes, step_wants_core, step_wants_sectors, step_fails, RunStops, unopened, opened, IsPrintingStep}
use Rattle.b67_job.specs.Command.{command_line_of}
use Rattle.b67_job.specs.declared.command.CommandLine.{CommandLine}
use Rattle.b67_job.specs.declared.summaries.Closing.{Closing}
use Rattle.b67_job.specs.Judgement.{Judgement, Runs, asked, closing_of, reads_text}
use Rattle.b67_job.specs.Going.{PagedFrom, PlainEnd, Resumed}
use Rattle.b67_job.specs.Due.{usage_text, reading_text, ReadAll, IsRun, IsDue, usage_due, refusal_due, print_due, run_due, reading_due, memory_due, image_due, dump_due, Answered, answered, cut_in_step, goes_on, IsAllDone, Halts, IsShortOfCore, IsShortOfSectors, IsFailedBy, TextIsRefused, ImageIsRefused, IsDumpOf, IsOpenedOrResumed, IsPagedRun, IsSpared}
use Rattle.b67_job.proofs.Finished.{is_finished, is_halted}
use Rattle.b67_job.proofs.Going.{resumed_as, some_run, no_status, done_from, core_from, sectors_from, fails_from, failed_from, rose_from, cut_from, resumed_machine}

-- ---- runs

module _ {B : Type 0} (d : Device B) (core : ℕ) (p : Prepared) (closing : Closing) (machine : Option Machine) (status : ℕ) (text : Text) where
  run_is_done : status ≡ 0 → RunStops d core p closing machine status text → IsAllDone d closing (Runs p) machine text
  run_is_done e (unopened none (memory_refused same s t)) = absurd (omega (arith, e, s))
  run_is_done e (unopened none (opening_wants_core same more s t)) = absurd (omega (arith, e, s))
  run_is_done e (unopened none (opening_wants_sectors same fits more s t)) = absurd (omega (arith, e, s))
  run_is_done e (unopened none (opening_fails room failed s t)) = absurd (omega (arith, e, s))
  run_is_done e (opened k is opens none (all_end s h)) = ((k, is, none, h), λ tells. is_finished d k.tasks.made (run_of p) closing k text h tells)
  run_is_done e (opened k is opens none (halt_comes s h)) = absurd (omega (arith, e, s))
  run_is_done e (opened k is opens none (step_wants_core s h)) = absurd (omega (arith, e, s))
  run_is_done e (opened k is opens none (step_wants_sectors s h)) = absurd (omega (arith, e, s))
  run_is_done e (opened k is opens none (step_fails s failed h)) = absurd (omega (arith, e, s))

  run_halts : status ≡ 3 → RunStops d core p closing machine status text → Halts d p closing machine text
  run_halts e (unopened none (memory_refused same s t)) = absurd (omega (arith, e, s))
  run_halts e (unopened none (opening_wants_core same more s t)) = absurd (omega (arith, e, s))
  run_halts e (unopened none (opening_wants_sectors same fits more s t)) = absurd (omega (arith, e, s))
  run_halts e (unopened none (opening_fails room failed s t)) = absurd (omega (arith, e, s))
  run_halts e (opened k is opens none (all_end s h)) = absurd (omega (arith, e, s))
  run_halts e (opened k is opens none (halt_comes s h)) = (k, is, none, (h, λ tells. is_halted d k.tasks.made (run_of p) closing k text h tells))
  run_halts e (opened k is opens none (step_wants_core s h)) = absurd (omega (arith, e, s))
  run_halts e (opened k is opens none (step_wants_sectors s h)) = absurd (omega (arith, e, s))
  run_halts e (opened k is opens none (step_fails s failed h)) = absurd (omega (arith, e, s))

  run_wants_core : status ≡ 4 → RunStops d core p closing machine status text → IsShortOfCore d core p machine text
  run_wants_core e (unopened none (memory_refused same s t)) = absurd (omega (arith, e, s))
  run_wants_core e (unopened none (opening_wants_core same more s t)) = inl (none, same, more, t)
  run_wants_core e (unopened none (opening_wants_sectors same fits more s t)) = absurd (omega (arith, e, s))
  run_wants_core e (unopened none (opening_fails room failed s t)) = absurd (omega (arith, e, s))
  run_wants_core e (opened k is opens none (all_end s h)) = absurd (omega (arith, e, s))
  run_wants_core e (opened k is opens none (halt_comes s h)) = absurd (omega (arith, e, s))
  run_wants_core e (opened k is opens none (step_wants_core s h)) = inr (k, is, none, h)
  run_wants_core e (opened k is opens none (step_wants_sectors s h)) = absurd (omega (arith, e, s))
  run_wants_core e (opened k is opens none (step_fails s failed h)) = absurd (omega (arith, e, s))

  run_wants_sectors : status ≡ 5 → RunStops d core p closing machine status text → IsShortOfSectors d core p machine text
  run_wants_sectors e (unopened none (memory_refused same s t)) = absurd (omega (arith, e, s))
  run_wants_sectors e (unopened none (opening_wants_core same more s t)) = absurd (omega (arith, e, s))
  run_wants_sectors e (unopened none (opening_wants_sectors same fits more s t)) = inl (none, same, fits, more, t)
  run_wants_sectors e (unopened none (opening_fails room failed s t)) = absurd (omega (arith, e, s))
  run_wants_sectors e (opened k is opens none (all_end s h)) = absurd (omega (arith, e, s))
  run_wants_sectors e (opened k is opens none (halt_comes s h)) = absurd (omega (arith, e, s))
  run_wants_sectors e (opened k is opens none (step_wants_core s h)) = absurd (omega (arith, e, s))
  run_wants_sectors e (opened k is opens none (step_wants_sectors s h)) = inr (k, is, none, h)
  run_wants_sectors e (opened k is opens none (step_fails s failed h)) = absurd (omega (arith, e, s))

  run_fails : status ≡ 6 → RunStops d core p closing machine status text → Failed d × IsFailedBy d core p machine text
  run_fails e (unopened none (memory_refused same s t)) = absurd (omega (arith, e, s))
  run_fails e (unopened none (opening_wants_core same more s t)) = absurd (omega (arith, e, s))
  run_fails e (unopened none (opening_wants_sectors same fits more s t)) = absurd (omega (arith, e, s))
  run_fails e (unopened none (opening_fails room failed s t)) = (failed, (room, inl (none, t)))
  run_fails e (opened k is opens none (all_end s h)) = absurd (omega (arith, e, s))
  run_fails e (opened k is opens none (halt_comes s h)) = absurd (omega (arith, e, s))
  run_fails e (opened k is opens none (step_wants_core s h)) = absurd (omega (arith, e, s))
  run_fails e (opened k is opens none (step_wants_sectors s h)) = absurd (omega (arith, e, s))
  run_fails e (opened k is opens none (step_fails s failed h)) = (failed, (opens.room, inr (k, is, none, h)))

  run_not_2 : status ≡ 2 → RunStops d core p closing machine status text → ⊥
  run_not_2 e (unopened none (memory_refused same s t)) = absurd (omega (arith, e, s))
  run_not_2 e (unopened none (opening_wants_core same more s t)) = absurd (omega (arith, e, s))
  run_not_2 e (unopened none (opening_wants_sectors same fits more s t)) = absurd (omega (arith, e, s))
  run_not_2 e (unopened none (opening_fails room failed s t)) = absurd (omega (arith, e, s))
  run_not_2 e (opened k is opens none (all_end s h)) = absurd (omega (arith, e, s))
  run_not_2 e (opened k is opens none (halt_comes s h)) = absurd (omega (arith, e, s))
  run_not_2 e (opened k is opens none (step_wants_core s h)) = absurd (omega (arith, e, s))
  run_not_2 e (opened k is opens none (step_wants_sectors s h)) = absurd (omega (arith, e, s))
  run_not_2 e (opened k is opens none (step_fails s failed h)) = absurd (omega (arith, e, s))

  run_is_9 : status ≡ 9 → RunStops d core p closing machine status text → (machine ≡ None) × DeviceUnchanged d × (text ≡ only memory_text)
  run_is_9 e (unopened none (memory_refused same s t)) = (none, same, t)
  run_is_9 e (unopened none (opening_wants_core same more s t)) = absurd (omega (arith, e, s))
  run_is_9 e (unopened none (opening_wants_sectors same fits more s t)) = absurd (omega (arith, e, s))
  run_is_9 e (unopened none (opening_fails room failed s t)) = absurd (omega (arith, e, s))
  run_is_9 e (opened k is opens none (all_end s h)) = absurd (omega (arith, e, s))
  run_is_9 e (opened k is opens none (halt_comes s h)) = absurd (omega (arith, e, s))
  run_is_9 e (opened k is opens none (step_wants_core s h)) = absurd (omega (arith, e, s))
  run_is_9 e (opened k is opens none (step_wants_sectors s h)) = absurd (omega (arith, e, s))
  run_is_9 e (opened k is opens none (step_fails s failed h)) = absurd (omega (arith, e, s))

  run_not_8 : status ≡ 8 → RunStops d core p closing machine status text → ⊥
  run_not_8 e (unopened none (memory_refused same s t)) = absurd (omega (arith, e, s))
  run_not_8 e (unopened none (opening_wants_core same more s t)) = absurd (omega (arith, e, s))
  run_not_8 e (unopened none (opening_wants_sectors same fits more s t)) = absurd (omega (arith, e, s))
  run_not_8 e (unopened none (opening_fails room failed s t)) = absurd (omega (arith, e, s))
  run_not_8 e (opened k is opens none (all_end s h)) = absurd (omega (arith, e, s))
  run_not_8 e (opened k is opens none (halt_comes s h)) = absurd (omega (arith, e, s))
  run_not_8 e (opened k is opens none (step_wants_core s h)) = absurd (omega (arith, e, s))
  run_not_8 e (opened k is opens none (step_wants_sectors s h)) = absurd (omega (arith, e, s))
  run_not_8 e (opened k is opens none (step_fails s failed h)) = absurd (omega (arith, e, s))

  run_not_7 : status ≡ 7 → RunStops d core p closing machine status text → ⊥
  run_not_7 e (unopened none (memory_refused same s t)) = absurd (omega (arith, e, s))
  run_not_7 e (unopened none (opening_wants_core same more s t)) = absurd (omega (arith, e, s))
  run_not_7 e (unopened none (opening_wants_sectors same fits more s t)) = absurd (omega (arith, e, s))
  run_not_7 e (unopened none (opening_fails room failed s t)) = absurd (omega (arith, e, s))
  run_not_7 e (opened k is opens none (all_end s h)) = absurd (omega (arith, e, s))
  run_not_7 e (opened k is opens none (halt_comes s h)) = absurd (omega (arith, e, s))
  run_not_7 e (opened k is opens none (step_wants_core s h)) = absurd (omega (arith, e, s))
  run_not_7 e (opened k is opens none (step_wants_sectors s h)) = absurd (omega (arith, e, s))
  run_not_7 e (opened k is opens none (step_fails s failed h)) = absurd (omega (arith, e, s))

  run_not_1 : status ≡ 1 → RunStops d core p closing machine status text → ⊥
  run_not_1 e (unopened none (memory_refused same s t)) = absurd (omega (arith, e, s))
  run_not_1 e (unopened none (opening_wants_core same more s t)) = absurd (omega (arith, e, s))
  run_not_1 e (unopened none (opening_wants_sectors same fits more s t)) = absurd (omega (arith, e, s))
  run_not_1 e (unopened none (opening_fails room failed s t)) = absurd (omega (arith, e, s))
  run_not_1 e (opened k is opens none (all_end s h)) = absurd (omega (arith, e, s))
  run_not_1 e (opened k is opens none (halt_comes s h)) = absurd (omega (arith, e, s))
  run_not_1 e (opened k is opens none (step_wants_core s h)) = absurd (omega (arith, e, s))
  run_not_1 e (opened k is opens none (step_wants_sectors s h)) = absurd (omega (arith, e, s))
  run_not_1 e (opened k is opens none (step_fails s failed h)) = absurd (omega (arith, e, s))

  -- without a machine
  run_spares : {S : Type 0} {words : List (Bor (List ℕ))} {left : S → Option (List ℕ)} {deck deck' : S} → IsRun words left deck deck' core p → machine ≡ None → RunStops d core p closing machine status text
      → IsSpared words left deck deck' d
  run_spares run none (unopened _ (memory_refused same s t)) = inl same
  run_spares run none (unopened _ (opening_wants_core same more s t)) = inl same
  run_spares run none (unopened _ (opening_wants_sectors same fits more s t)) = inl same
  run_spares run none (unopened _ (opening_fails room failed s t)) = inr (core, p, run, room, failed)
  run_spares run none (opened k is opens zero stops) = absurd (none-some k (sym none ∙ is))

  -- with one, of a session that was opened
  run_opened : (k : Machine) → machine ≡ Some k → RunStops d core p closing machine status text → WasOpened d core p k
  run_opened k e (unopened none stops) = absurd (none-some k (sym none ∙ e))
  run_opened k e (opened k' is opens none stops) = subst (WasOpened d core p) (same_Some k' k (sym is ∙ e)) opens

-- ---- calls

-- words that are no command ask for none that reads
unread_unknown : (o : Option CommandLine) → is_some o ≡ false → reads_text o ≡ true → ⊥
unread_unknown None none c = false≢true c
unread_unknown (Some command) none c = false≢true (sym none)

module _ {S B : Type 0} {words : List (Bor (List ℕ))} {left : S → Option (List ℕ)} {source_faults : S → ℕ} {deck deck' : S} {d : Device B} {machine : Option Machine} where
  due_done : {n : ℕ} {text : Text} → n ≡ 0 → IsDue words left source_faults deck deck' d machine n text
      → ((command : CommandLine) × (bytes : List ℕ) × (command_line_of words ≡ Some command) × ReadAll command left deck deck' bytes × IsAllDone d (closing_of (Some command)) (asked command bytes) machine text)
      ⊎ ((image : Machine) × (dump : List ℕ) × IsDumpOf words left source_faults deck deck' image dump × (machine ≡ None) × DeviceUnchanged d × (text ≡ only dump))
  due_done e (usage_due c g same m s t) = absurd (omega (arith, e, s))
  due_done e (refusal_due command b r c w same j m s t) = absurd (omega (arith, e, s))
  due_done {n = n} {text = text} e (print_due command b printed c r same j m s t) = inl (command, b, c, r, subst (λ (x : Judgement). IsAllDone d (closing_of (Some command)) x machine text) (sym j) (m, same, t))
  due_done e (image_due command sectors card reason c w r same m s t) = absurd (omega (arith, e, s))
  due_done e (dump_due image dump o same m s t) = inr (image, dump, o, m, same, t)
  due_done {n = n} {text = text} e (run_due core p run stops) = inl (
    run.command,
    run.bytes,
    run.is,
    run.read,
    subst (λ (x : Judgement). IsAllDone d (closing_of (Some run.command)) x machine text) (sym run.judged)
        (subst (λ (x : Closing). IsAllDone d x (Runs p) machine text) (ap closing_of run.is) (run_is_done d core p (closing_of (command_line_of words)) machine n text e stops)),
  )
  due_done e (reading_due c r same m s t) = absurd (omega (arith, e, s))
  due_done e (memory_due c same m s t) = absurd (omega (arith, e, s))

  due_refused : {n : ℕ} {text : Text} → n ≡ 2 → IsDue words left source_faults deck deck' d machine n text → TextIsRefused words left deck deck' d machine text ⊎ ImageIsRefused words left source_faults deck deck' d machine text
  due_refused e (usage_due c g same m s t) = absurd (omega (arith, e, s))
  due_refused e (refusal_due command b r c w same j m s t) = inl (command, b, r, c, w, same, j, m, t)
  due_refused e (print_due command b printed c r same j m s t) = absurd (omega (arith, e, s))
  due_refused e (image_due command sectors card reason c w r same m s t) = inr (command, sectors, card, reason, c, w, r, same, m, t)
  due_refused e (dump_due image dump o same m s t) = absurd (omega (arith, e, s))
  due_refused {n = n} {text = text} e (run_due core p run stops) = absurd (run_not_2 d core p (closing_of (command_line_of words)) machine n text e stops)
  due_refused e (reading_due c r same m s t) = absurd (omega (arith, e, s))
  due_refused e (memory_due c same m s t) = absurd (omega (arith, e, s))

  due_halts : {n : ℕ} {text : Text} → n ≡ 3 → IsDue words left source_faults deck deck' d machine n text → (core : ℕ) × (p : Prepared) × IsRun words left deck deck' core p × Halts d p (closing_of (command_line_of words)) machine text
  due_halts e (usage_due c g same m s t) = absurd (omega (arith, e, s))
  due_halts e (refusal_due command b r c w same j m s t) = absurd (omega (arith, e, s))
  due_halts e (print_due command b printed c r same j m s t) = absurd (omega (arith, e, s))
  due_halts e (image_due command sectors card reason c w r same m s t) = absurd (omega (arith, e, s))
  due_halts e (dump_due image dump o same m s t) = absurd (omega (arith, e, s))
  due_halts {n = n} {text = text} e (run_due core p run stops) = (core, p, run, run_halts d core p (closing_of (command_line_of words)) machine n text e stops)
  due_halts e (reading_due c r same m s t) = absurd (omega (arith, e, s))
  due_halts e (memory_due c same m s t) = absurd (omega (arith, e, s))

  due_core : {n : ℕ} {text : Text} → n ≡ 4 → IsDue words left source_faults deck deck' d machine n text → (core : ℕ) × (p : Prepared) × IsRun words left deck deck' core p × IsShortOfCore d core p machine text
  due_core e (usage_due c g same m s t) = absurd (omega (arith, e, s))
  due_core e (refusal_due command b r c w same j m s t) = absurd (omega (arith, e, s))
  due_core e (print_due command b printed c r same j m s t) = absurd (omega (arith, e, s))
  due_core e (image_due command sectors card reason c w r same m s t) = absurd (omega (arith, e, s))
  due_core e (dump_due image dump o same m s t) = absurd (omega (arith, e, s))
  due_core {n = n} {text = text} e (run_due core p run stops) = (core, p, run, run_wants_core d core p (closing_of (command_line_of words)) machine n text e stops)
  due_core e (reading_due c r same m s t) = absurd (omega (arith, e, s))
  due_core e (memory_due c same m s t) = absurd (omega (arith, e, s))

  due_sectors : {n : ℕ} {text : Text} → n ≡ 5 → IsDue words left source_faults deck deck' d machine n text → (core : ℕ) × (p : Prepared) × IsRun words left deck deck' core p × IsShortOfSectors d core p machine text
  due_sectors e (usage_due c g same m s t) = absurd (omega (arith, e, s))
  due_sectors e (refusal_due command b r c w same j m s t) = absurd (omega (arith, e, s))
  due_sectors e (print_due command b printed c r same j m s t) = absurd (omega (arith, e, s))
  due_sectors e (image_due command sectors card reason c w r same m s t) = absurd (omega (arith, e, s))
  due_sectors e (dump_due image dump o same m s t) = absurd (omega (arith, e, s))
  due_sectors {n = n} {text = text} e (run_due core p run stops) = (core, p, run, run_wants_sectors d core p (closing_of (command_line_of words)) machine n text e stops)
  due_sectors e (reading_due c r same m s t) = absurd (omega (arith, e, s))
  due_sectors e (memory_due c same m s t) = absurd (omega (arith, e, s))

  due_fails : {n : ℕ} {text : Text} → n ≡ 6 → IsDue words left source_faults deck deck' d machine n text → (core : ℕ) × (p : Prepared) × IsRun words left deck deck' core p × Failed d × IsFailedBy d core p machine text
  due_fails e (usage_due c g same m s t) = absurd (omega (arith, e, s))
  due_fails e (refusal_due command b r c w same j m s t) = absurd (omega (arith, e, s))
  due_fails e (print_due command b printed c r same j m s t) = absurd (omega (arith, e, s))
  due_fails e (image_due command sectors card reason c w r same m s t) = absurd (omega (arith, e, s))
  due_fails e (dump_due image dump o same m s t) = absurd (omega (arith, e, s))
  due_fails {n = n} {text = text} e (run_due core p run stops) = (let z = run_fails d core p (closing_of (command_line_of words)) machine n text e stops in (core, p, run, z.0, z.1))
  due_fails e (reading_due c r same m s t) = absurd (omega (arith, e, s))
  due_fails e (memory_due c same m s t) = absurd (omega (arith, e, s))

  due_9 : {n : ℕ} {text : Text} → n ≡ 9 → IsDue words left source_faults deck deck' d machine n text → (machine ≡ None) × DeviceUnchanged d × (text ≡ only memory_text)
  due_9 e (usage_due c g same m s t) = absurd (omega (arith, e, s))
  due_9 e (refusal_due command b r c w same j m s t) = absurd (omega (arith, e, s))
  due_9 e (print_due command b printed c r same j m s t) = absurd (omega (arith, e, s))
  due_9 e (image_due command sectors card reason c w r same m s t) = absurd (omega (arith, e, s))
  due_9 e (dump_due image dump o same m s t) = absurd (omega (arith, e, s))
  due_9 {n = n} {text = text} e (run_due core p run stops) = run_is_9 d core p (closing_of (command_line_of words)) machine n text e stops
  due_9 e (reading_due c r same m s t) = absurd (omega (arith, e, s))
  due_9 e (memory_due c same m s t) = (m, same, t)

  due_7 : {n : ℕ} {text : Text} → n ≡ 7 → IsDue words left source_faults deck deck' d machine n text → (reads_text (command_line_of words) ≡ true) × Rose source_faults deck deck' × (text ≡ only reading_text)
  due_7 e (usage_due c g same m s t) = absurd (omega (arith, e, s))
  due_7 e (refusal_due command b r c w same j m s t) = absurd (omega (arith, e, s))
  due_7 e (print_due command b printed c r same j m s t) = absurd (omega (arith, e, s))
  due_7 e (image_due command sectors card reason c w r same m s t) = absurd (omega (arith, e, s))
  due_7 e (dump_due image dump o same m s t) = absurd (omega (arith, e, s))
  due_7 {n = n} {text = text} e (run_due core p run stops) = absurd (run_not_7 d core p (closing_of (command_line_of words)) machine n text e stops)
  due_7 e (reading_due c r same m s t) = (c, r, t)
  due_7 e (memory_due c same m s t) = absurd (omega (arith, e, s))

  due_1 : {n : ℕ} {text : Text} → n ≡ 1 → IsDue words left source_faults deck deck' d machine n text → (is_some (command_line_of words) ≡ false) × (deck' ≡ deck) × (text ≡ only usage_text)
  due_1 e (usage_due c g same m s t) = (c, g, t)
  due_1 e (refusal_due command b r c w same j m s t) = absurd (omega (arith, e, s))
  due_1 e (print_due command b printed c r same j m s t) = absurd (omega (arith, e, s))
  due_1 e (image_due command sectors card reason c w r same m s t) = absurd (omega (arith, e, s))
  due_1 e (dump_due image dump o same m s t) = absurd (omega (arith, e, s))
  due_1 {n = n} {text = text} e (run_due core p run stops) = absurd (run_not_1 d core p (closing_of (command_line_of words)) machine n text e stops)
  due_1 e (reading_due c r same m s t) = absurd (omega (arith, e, s))
  due_1 e (memory_due c same m s t) = absurd (omega (arith, e, s))

  -- words that are no command are due the usage line alone
  due_unknown : {n : ℕ} {text : Text} → is_some (command_line_of words) ≡ false → IsDue words left source_faults deck deck' d machine n text → n ≡ 1
  due_unknown none (usage_due c g same m s t) = s
  due_unknown none (refusal_due command b r c w same j m s t) = absurd (false≢true (sym none ∙ ap is_some c))
  due_unknown none (print_due command b printed c r same j m s t) = absurd (false≢true (sym none ∙ ap is_some c))
  due_unknown none (image_due command sectors card reason c w r same m s t) = absurd (false≢true (sym none ∙ ap is_some c))
  due_unknown none (dump_due image dump o same m s t) = absurd (false≢true (sym none ∙ ap is_some o.is))
  due_unknown none (run_due core p run stops) = absurd (false≢true (sym none ∙ ap is_some run.is))
  due_unknown none (reading_due c r same m s t) = absurd (unread_unknown (command_line_of words) none c)
  due_unknown none (memory_due c same m s t) = absurd (false≢true (sym none ∙ c))

  due_not_8 : {n : ℕ} {text : Text} → IsDue words left source_faults deck deck' d machine n text → n ≢ 8
  due_not_8 (usage_due c g same m s t) e = absurd (omega (arith, e, s))
  due_not_8 (refusal_due command b r c w same j m s t) e = absurd (omega (arith, e, s))
  due_not_8 (print_due command b printed c r same j m s t) e = absurd (omega (arith, e, s))
  due_not_8 (image_due command sectors card reason c w r same m s t) e = absurd (omega (arith, e, s))
  due_not_8 (dump_due image dump o same m s t) e = absurd (omega (arith, e, s))
  due_not_8 {n = n} {text = text} (run_due core p run stops) e = run_not_8 d core p (closing_of (command_line_of words)) machine n text e stops
  due_not_8 (reading_due c r same m s t) e = absurd (omega (arith, e, s))
  due_not_8 (memory_due c same m s t) e = absurd (omega (arith, e, s))

  due_spares : {n : ℕ} {text : Text} → machine ≡ None → IsDue words left source_faults deck deck' d machine n text → IsSpared words left deck deck' d
  due_spares none (usage_due c g same m s t) = inl same
  due_spares none (refusal_due command b r c w same j m s t) = inl same
  due_spares none (print_due command b printed c r same j m s t) = inl same
  due_spares none (image_due command sectors card reason c w r same m s t) = inl same
  due_spares none (dump_due image dump o same m s t) = inl same
  due_spares {n = n} {text = text} none (run_due core p run stops) = run_spares d core p (closing_of (command_line_of words)) machine n text run none stops
  due_spares none (reading_due c r same m s t) = inl same
  due_spares none (memory_due c same m s t) = inl same

  due_opened : {n : ℕ} {text : Text} (k : Machine) → machine ≡ Some k → IsDue words left source_faults deck deck' d machine n text → (core : ℕ) × (p : Prepared) × IsRun words left deck deck' core p × WasOpened d core p k
  due_opened k e (usage_due c g same m s t) = absurd (none-some k (sym m ∙ e))
  due_opened k e (refusal_due command b r c w same j m s t) = absurd (none-some k (sym m ∙ e))
  due_opened k e (print_due command b printed c r same j m s t) = absurd (none-some k (sym m ∙ e))
  due_opened k e (image_due command sectors card reason c w r same m s t) = absurd (none-some k (sym m ∙ e))
  due_opened k e (dump_due image dump o same m s t) = absurd (none-some k (sym m ∙ e))
  due_opened {n = n} {text = text} k e (run_due core p run stops) = (core, p, run, run_opened d core p (closing_of (command_line_of words)) machine n text k e stops)
  due_opened k e (reading_due c r same m s t) = absurd (none-some k (sym m ∙ e))
  due_opened k e (memory_due c same m s t) = absurd (none-some k (sym m ∙ e))

  module _ {K : Type 0} (taken : K → Option (List ℕ)) (faults : K → ℕ) (old new : K) (answer : ℕ) (h : Answered words left source_faults deck deck' d machine taken faults old new answer) where
    -- what was due is printed, or a run has gone on from an image
    abbrev Settled : Type 0
    Settled = ((text : Text) × IsDue words left source_faults deck deck' d machine answer text × Took taken old new (whole_of text)) ⊎ Resumed words left source_faults deck deck' d machine (PlainEnd taken faults old new answer)

    due_at : answer ≢ 8 → Settled
    due_at other = by_end h
      where
        by_end : Answered words left source_faults deck deck' d machine taken faults old new answer → Settled
        by_end (answered status text due (all_taken a took)) = inl (text, subst (λ (n : ℕ). IsDue words left source_faults deck deck' d machine n text) (sym a) due, took)
        by_end (answered status text due (cut_short count a rose part)) = absurd (other a)
        by_end (cut_in_step core p text count run printing a rose part) = absurd (other a)
        by_end (goes_on g) = inr g

    -- a run that has gone on answers none of these
    not_resumed : (n : ℕ) → ((1 ≤ n) × (n ≤ 3)) ⊎ ((n ≡ 7) ⊎ (9 ≤ n)) → answer ≡ n → Resumed words left source_faults deck deck' d machine (PlainEnd taken faults old new answer) → ⊥
    not_resumed n out e g = let z = some_run g in no_status n out e z.2

    -- so it was due
    only_due : (n : ℕ) → ((1 ≤ n) × (n ≤ 3)) ⊎ ((n ≡ 7) ⊎ (9 ≤ n)) → answer ≡ n → n ≢ 8 → (text : Text) × IsDue words left source_faults deck deck' d machine answer text × Took taken old new (whole_of text)
    only_due n out e other = by_settled (due_at (λ z. other (sym e ∙ z)))
      where
        by_settled : Settled → (text : Text) × IsDue words left source_faults deck deck' d machine answer text × Took taken old new (whole_of text)
        by_settled (inl u) = u
        by_settled (inr g) = absurd (not_resumed n out e g)

    is_refused : answer ≡ 2 → (text : Text) × (TextIsRefused words left deck deck' d machine text ⊎ ImageIsRefused words left source_faults deck deck' d machine text) × Took taken old new (whole_of text)
    is_refused e = let u = only_due 2 (inl (omega arith, omega arith)) e (λ z. omega (arith, z)) in (u.0, due_refused e u.1, u.2)

    -- the work is done
    abbrev DoneSo : Type 0
    DoneSo = ((command : CommandLine) × (bytes : List ℕ) × (text : Text) × (command_line_of words ≡ Some command) × ReadAll command left deck deck' bytes
        × IsAllDone d (closing_of (Some command)) (asked command bytes) machine text × Took taken old new (whole_of text))
        ⊎ (IsDumped words left source_faults deck deck' d machine taken old new ⊎ WentOn words left source_faults deck deck' d machine taken old new (λ e core steps r k text. IsDone e steps r closings.Plain k text × (DeviceTells e → IsFinished r text.front)))

    is_done : answer ≡ 0 → DoneSo
    is_done e = by_settled (due_at (λ z. omega (arith, e, z)))
      where
        by_settled : Settled → DoneSo
        by_settled (inl u) = by_work u.0 u.2 (due_done e u.1)
          where
            by_work : (text : Text) → Took taken old new (whole_of text) → ((command : CommandLine) × (bytes : List ℕ) × (command_line_of words ≡ Some command) × ReadAll command left deck deck' bytes
                × IsAllDone d (closing_of (Some command)) (asked command bytes) machine text)
                ⊎ ((image : Machine) × (dump : List ℕ) × IsDumpOf words left source_faults deck deck' image dump × (machine ≡ None) × DeviceUnchanged d × (text ≡ only dump)) → DoneSo
            by_work text took (inl v) = inl (v.0, v.1, text, v.2, v.3, v.4, took)
            by_work text took (inr v) = inr (inl (v.0, v.1, v.2, v.3, v.4, subst (λ (x : Text). Took taken old new (whole_of x)) v.5 took))
        by_settled (inr g) = inr (inr (resumed_as (λ f core steps s k end. done_from e end) g))

    is_halt : answer ≡ 3 → (core : ℕ) × (p : Prepared) × (text : Text) × IsRun words left deck deck' core p × Halts d p (closing_of (command_line_of words)) machine text × Took taken old new (whole_of text)
    is_halt e =
        let u = only_due 3 (inl (omega arith, omega arith)) e (λ z. omega (arith, z)) in
        let v = due_halts e u.1 in
        (v.0, v.1, u.0, v.2, v.3, u.2)

    is_core : answer ≡ 4 → ((core : ℕ) × (p : Prepared) × (text : Text) × IsRun words left deck deck' core p × IsShortOfCore d core p machine text × Took taken old new (whole_of text))
        ⊎ WentOn words left source_faults deck deck' d machine taken old new WantsCore
    is_core e = by_settled (due_at (λ z. omega (arith, e, z)))
      where
        by_settled : Settled → ((core : ℕ) × (p : Prepared) × (text : Text) × IsRun words left deck deck' core p × IsShortOfCore d core p machine text × Took taken old new (whole_of text))
            ⊎ WentOn words left source_faults deck deck' d machine taken old new WantsCore
        by_settled (inl u) = let v = due_core e u.1 in inl (v.0, v.1, u.0, v.2, v.3, u.2)
        by_settled (inr g) = inr (resumed_as (λ f core steps s k end. core_from e end) g)

    is_sectors : answer ≡ 5 → ((core : ℕ) × (p : Prepared) × (text : Text) × IsRun words left deck deck' core p × IsShortOfSectors d core p machine text × Took taken old new (whole_of text))
        ⊎ WentOn words left source_faults deck deck' d machine taken old new WantsSectors
    is_sectors e = by_settled (due_at (λ z. omega (arith, e, z)))
      where
        by_settled : Settled → ((core : ℕ) × (p : Prepared) × (text : Text) × IsRun words left deck deck' core p × IsShortOfSectors d core p machine text × Took taken old new (whole_of text))
            ⊎ WentOn words left source_faults deck deck' d machine taken old new WantsSectors
        by_settled (inl u) = let v = due_sectors e u.1 in inl (v.0, v.1, u.0, v.2, v.3, u.2)
        by_settled (inr g) = inr (resumed_as (λ f core steps s k end. sectors_from e end) g)

    is_fault : answer ≡ 6 → Failed d × (((core : ℕ) × (p : Prepared) × (text : Text) × IsRun words left deck deck' core p × IsFailedBy d core p machine text × Took taken old new (whole_of text))
        ⊎ WentOn words left source_faults deck deck' d machine taken old new IsCutOff)
    is_fault e = by_settled (due_at (λ z. omega (arith, e, z)))
      where
        by_settled : Settled → Failed d × (((core : ℕ) × (p : Prepared) × (text : Text) × IsRun words left deck deck' core p × IsFailedBy d core p machine text × Took taken old new (whole_of text))
            ⊎ WentOn words left source_faults deck deck' d machine taken old new IsCutOff)
        by_settled (inl u) = let v = due_fails e u.1 in (v.3, inl (v.0, v.1, u.0, v.2, v.4, u.2))
        by_settled (inr g) = let z = some_run g in (failed_from e z.2, inr (resumed_as (λ f core steps s k end. fails_from e end) g))

    -- what the printer failed in
    abbrev Cut : Type 0
    Cut = ((text : Text) × (count : ℕ) × (((status : ℕ) × IsDue words left source_faults deck deck' d machine status text)
        ⊎ ((core : ℕ) × (p : Prepared) × IsRun words left deck deck' core p × IsPrintingStep d core p machine text count)) × TookUpTo taken old new text count)
        ⊎ Resumed words left source_faults deck deck' d machine (λ e core steps r k. (text : Text) × (count : ℕ)
        × (((due : ℕ) × StopsOpened e core steps r closings.Plain k due text) ⊎ (IsPrintingNext e core steps r k text × (count ≡ k.tasks.printed)))
        × TookUpTo taken old new text count)

    is_cut : answer ≡ 8 → Rose faults old new × Cut
    is_cut e = by_end h
      where
        by_end : Answered words left source_faults deck deck' d machine taken faults old new answer → Rose faults old new × Cut
        by_end (answered status text due (all_taken a took)) = absurd (due_not_8 due (sym a ∙ e))
        by_end (answered status text due (cut_short count a rose part)) = (rose, inl (text, count, inl (status, due), part))
        by_end (cut_in_step core p text count run printing a rose part) = (rose, inl (text, count, inr (core, p, run, printing), part))
        by_end (goes_on g) = let z = some_run g in (rose_from e z.2, inr (resumed_as (λ f core steps s k end. cut_from e end) g))

    is_memory : answer ≡ 9 → (machine ≡ None) × DeviceUnchanged d × Took taken old new memory_text
    is_memory e =
        let u = only_due 9 (inr (inr (omega arith))) e (λ z. omega (arith, z)) in
        let v = due_9 e u.1 in
        (v.0, v.1, subst (λ (x : Text). Took taken old new (whole_of x)) v.2 u.2)

    is_reading : answer ≡ 7 → (reads_text (command_line_of words) ≡ true) × Rose source_faults deck deck' × Took taken old new reading_text
    is_reading e =
        let u = only_due 7 (inr (inl refl)) e (λ z. omega (arith, z)) in
        let v = due_7 e u.1 in
        (v.0, v.1, subst (λ (x : Text). Took taken old new (whole_of x)) v.2 u.2)

    is_usage : answer ≡ 1 → (is_some (command_line_of words) ≡ false) × (deck' ≡ deck) × Took taken old new usage_text
    is_usage e =
        let u = only_due 1 (inl (omega arith, omega arith)) e (λ z. omega (arith, z)) in
        let v = due_1 e u.1 in
        (v.0, v.1, subst (λ (x : Text). Took taken old new (whole_of x)) v.2 u.2)

    is_unknown : is_some (command_line_of words) ≡ false → (answer ≡ 1) ⊎ (answer ≡ 8)
    is_unknown none = by_end h
      where
        by_end : Answered words left source_faults deck deck' d machine taken faults old new answer → (answer ≡ 1) ⊎ (answer ≡ 8)
        by_end (answered status text due (all_taken a took)) = inl (a ∙ due_unknown none due)
        by_end (answered status text due (cut_short count a rose part)) = inr a
        by_end (cut_in_step core p text count run printing a rose part) = inr a
        by_end (goes_on g) = absurd (false≢true (sym none ∙ ap is_some g.of.is))

    -- a sentence for each status
    pub means : StatusMeans words left source_faults deck deck' d machine taken faults old new answer
    means = record {
      usage = is_usage;
      no_command = is_unknown;
      refused = is_refused;
      done = is_done;
      halted = is_halt;
      core_wanted = is_core;
      sectors_wanted = is_sectors;
      backing_fault = is_fault;
      reading_fault = is_reading;
      printing_fault = is_cut;
      memory = is_memory;
    }

    pub is_spared : machine ≡ None → IsSpared words left deck deck' d
    is_spared none = by_end h
      where
        by_end : Answered words left source_faults deck deck' d machine taken faults old new answer → IsSpared words left deck deck' d
        by_end (answered status text due ends) = due_spares none due
        by_end (cut_in_step core p text count run printing a rose part) = absurd (none-some printing.left (sym none ∙ printing.is))
        by_end (goes_on g) = absurd (none-some g.k (sym none ∙ g.is))

    pub is_opened : (k : Machine) → machine ≡ Some k → IsOpenedOrResumed words left source_faults deck deck' d k
    is_opened k e = by_end h
      where
        by_end : Answered words left source_faults deck deck' d machine taken faults old new answer → IsOpenedOrResumed words left source_faults deck deck' d k
        by_end (answered status text due ends) = inl (due_opened k e due)
        by_end (cut_in_step core p text count run printing a rose part) = inl (core, p, run, subst (WasOpened d core p) (same_Some printing.left k (sym printing.is ∙ e)) printing.opens)
        by_end (goes_on g) = inr (resumed_machine e (resumed_as (λ f core steps s k end. tt) g))

-- ---- step by step

-- so it has come to the machine that is left
pub is_paged : {S B : Type 0} {words : List (Bor (List ℕ))} {left : S → Option (List ℕ)} {source_faults : S → ℕ} {deck deck' : S} {d : Device B} {k : Machine}
    → IsOpenedOrResumed words left source_faults deck deck' d k → IsPagedRun words left source_faults deck deck' d k
is_paged (inl (core, p, run, opens)) = inl (core, p, run, opens.paged)
is_paged {d = d} (inr h) = inr (h.image, h.of, subst (PagedFrom d h.image) (same_Some h.k _ (sym h.is)) h.gone.paged)
