-- A run that goes on from the machine of an image.
use Rattle.std.proofs.Common.{◌≡◌, ◌≢◌, ◌⊎◌, ⊎_elim, inl, inr, true, ℕ, ◌+◌, ◌<◌, ◌≤◌, List, length, take, min, refl, sym, ap, ◌∙◌, subst, arith, Option, Some, None, Result, Err, Ok}
use Rattle.std.specs.Prelude.{count_by, is_some, ◌==◌}
use Rattle.std.proofs.lemmas.Bool.{lt-ltb, cases_lt}
use Rattle.std.proofs.lemmas.Option.{none-some}
use Rattle.std.proofs.lemmas.List.{length-take, take_all, take-take}
use denote.Ref.{Bor}
use Rattle.b67_io.specs.Told.{Took}
use Rattle.b67_io.specs.Causes.{Rose}
use Rattle.b67_io.specs.Line.{ended}
use Rattle.b67_model.specs.Common.{Session}
use Rattle.b67_model_text.specs.Deck.{Refusal}
use Rattle.b67_task.specs.declared.tables.Machine.{Machine}
use Rattle.b67_task.specs.Tables.{AreCountable}
use Rattle.b67_task.proofs.Keeping.{halt_kept}
use Rattle.b67_layout.specs.Machine.{Says, DeviceAfterCalls, content_after}
use Rattle.b67_session_lines.specs.Stops.{Run, IsFinished}
use Rattle.b67_session.specs.Slices.{StandsAt, IsOpen, Keeps}
use Rattle.b67_session.proofs.Openings.{stands_open}
use Rattle.b67_session.proofs.Shaping.{shaped}
use Rattle.b67_image.specs.Parts.{ImageParts}
use Rattle.b67_image.specs.Text.{limit}
use Rattle.b67_image.specs.Meaning.{told_in}
use Rattle.b67_image.specs.declared.fault.ImageFault.{ImageFault}
use Rattle.b67_image.specs.declared.fault.ImageFault.TheVariants as images
use Rattle.b67_image.specs.Meaning.{ShowsParts, IsImageRead}
use Rattle.b67_job.specs.Device.{Device, DeviceTells, DeviceUnchanged, Failed, device_of, knowing}
use Rattle.b67_job.specs.declared.command.CommandLine.{CommandLine}
use Rattle.b67_job.specs.declared.summaries.Closing.TheVariants as closings
use Rattle.b67_job.specs.Judgement.{image_sectors, reads_text}
use Rattle.b67_job.specs.Lines.{memory_text, refused_image_line}
use Rattle.b67_job.specs.Texts.{Text, whole_of, only, TookUpTo, all_taken, cut_short}
use Rattle.b67_job.specs.Finishing.{SessionRan}
use Rattle.b67_job.specs.Runs.{IsDone, WantsCore, WantsSectors, IsCutOff, StopsOpened, all_end, halt_comes, step_wants_core, step_wants_sectors, step_fails, IsPrintingNext, steps_stop, next_is_cut}
use Rattle.b67_job.specs.Going.{run_from, StepsFrom, PagedFrom, HasGoneOn, PlainEnd, Resumed}
use Rattle.b67_dump.specs.Dump.{dump_text}
use Rattle.b67_dump.specs.Analysed.{ForEachShown}
use Rattle.b67_dump.specs.Laws.{DumpsAreShown}
use Rattle.b67_session_lines.specs.Ends.{EndsPrinting}
use Rattle.b67_job.specs.declared.command.CommandLine.TheVariants as lines
use Rattle.b67_job.specs.Due.{Serves, answered, image_due, dump_due, DumpEnds, is_dumped, isnt_read, reading_due, memory_due, reading_text, ImageRefusalEnds}
use Rattle.b67_session.proofs.FoundLeast.{stays_ordered}
use Rattle.b67_job.proofs.Opened.{states_follow}
use Rattle.b67_job.proofs.Closings.{none_printed}
use Rattle.b67_job.proofs.Ran.{ran, closes_only}
use Rattle.b67_job.proofs.Finished.{is_finished}
use Rattle.b67_model.specs.declared.limits.TheConstants.{MOST_MADE}

-- ---- the machine of an image

-- it represents some session, with nothing known of the device
pub image_stands : (p : ImageParts) (image : Machine) → ShowsParts p image → (s : Session) × StandsAt None image s
image_stands p image shows = let r = shows.stands in (r.session, record { storage = r.storage; plan = r.plan; ordered = r.ordered; stands = r.stands })

-- so a slice may be called on it
pub image_is_open : (told : Option (List (List ℕ))) (image : Machine) → (s : Session) × StandsAt None image s → AreCountable image.tasks.jobs → IsOpen told image
image_is_open told image some countable = stands_open None told image some.0 tt some.1 countable

-- ---- its steps

module _ {K B : Type 0} (taken : K → Option (List ℕ)) (failures : K → ℕ) (holds : B → Option (List (List ℕ))) (size calls broken : B → ℕ) (b b' : B) (image k : Machine)
    (halt : image.tasks.halt ≡ None) (none : image.tasks.printed ≡ 0) (keeps : Keeps image k) (old new : K) (answer : ℕ) where
  abbrev device : Device B
  device = device_of holds size broken b b'

  abbrev Ran : Option (List (List ℕ)) → Session → Type 0
  Ran told s = SessionRan taken failures closings.Plain (content_after told (holds b')) (told ≢ None) (Rose broken b b') (size b) MOST_MADE s image k old new answer

  -- from a session that it represents
  from_session : (told : Option (List (List ℕ))) (s : Session) → StandsAt told image s → Ran told s
      → (steps : ℕ) × StepsFrom (knowing told device) steps s image k × PlainEnd taken failures old new answer (knowing told device) (length image.cpu.core) steps (run_from s) k
  from_session told s stands r =
      let made : k.tasks.made ≡ image.tasks.made + r.slices.steps = r.slices.made in
      let unhalted : k.tasks.halt ≡ None = halt_kept image k keeps ∙ halt in (
        r.slices.steps,
        record { made = made; in_order = states_follow r.slices.steps s stands.ordered; fitted = λ tells. (r.slices.its tells).fits },
        ran taken failures (knowing told device) (length image.cpu.core) (run_from s) closings.Plain k (told ≢ None) (λ tells. tells) r.slices.steps r.slices.session r.slices.printed
            (omega (arith, made)) (stays_ordered r.slices.steps s stands.ordered)
            (λ j low e. none-some j e) (λ e. absurd (none-some k.tasks.made (sym unhalted ∙ e))) (λ e. absurd (none-some r.slices.steps e))
            (λ tells. (r.slices.its tells).leads) r.slices.was_due r.slices.is_due (λ tells. (r.slices.its tells).next) image.tasks.printed none
            r.answered old r.between new answer r.slices.meets r.finishes r.slices.prints (λ other. none_printed r.slices.steps image k old r.between none (r.slices.texts other))
            r.device_failed r.printer_failed r.later,
      )

  pub has_gone_on : DeviceAfterCalls holds size calls broken b b' → size b + 1 ≡ length image.sectors.links → IsOpen (holds b') k
      → ((told : Option (List (List ℕ))) (s : Session) → Says told (holds b) → StandsAt told image s → Ran told s)
      → PagedFrom device image k → HasGoneOn device (PlainEnd taken failures old new answer) image k
  has_gone_on served sized may_go_on rans pages = record {
    keeps = keeps;
    halt = halt_kept image k keeps ∙ halt;
    shaped = shaped (holds b') k may_go_on;
    goes_on = may_go_on;
    sized = let same = served.size in let links = keeps.sectors in omega (arith, same, links, sized);
    paged = pages;
    each = λ told s says stands. from_session told s stands (rans told s says stands);
  }

-- ---- an image that is dumped

module _ {S K : Type 0} {left : S → Option (List ℕ)} {source_faults : S → ℕ} {deck deck' : S} {taken : K → Option (List ℕ)} {faults : K → ℕ} {old new : K} where
  -- the dump of one session that its machine represents is that of each
  pub dumped : DumpsAreShown → (image : Machine) (answer : ℕ) → IsImageRead left source_faults deck deck' None (Ok image) → ForEachShown image (λ s. EndsPrinting taken faults old new 0 (dump_text s) answer)
      → DumpEnds left source_faults deck deck' taken faults old new answer
  dumped shown image answer read ends =
      let some = image_stands _ image read.2.2 in
      let one = some.1 in
      is_dumped image (dump_text some.0) read
      (λ x told plan s ordered stands. shown one.storage None image one.plan some.0 one.ordered one.stands ∙ sym (shown x told image plan s ordered stands))
      (ends one.storage None one.plan some.0 one.ordered one.stands)

-- ---- an image that isn't read

module _ {S B K : Type 0} {left : S → Option (List ℕ)} {source_faults : S → ℕ} {deck deck' : S} {taken : K → Option (List ℕ)} {faults : K → ℕ} {old new : K} where
  pub unread_image : (d : Device B) (command : CommandLine) (sectors : Option ℕ) (fault : ImageFault) (answer : ℕ) → reads_text (Some command) ≡ true → image_sectors d.sectors command ≡ Some sectors → DeviceUnchanged d
      → IsImageRead left source_faults deck deck' sectors (Err fault) → ImageRefusalEnds fault taken faults old new answer → Serves command left source_faults deck deck' d None taken faults old new answer
  unread_image d command sectors (images.Card card reason) answer reads wanted same h ends = λ words e.
      answered 2 (only (ended (refused_image_line card reason))) (image_due command sectors card reason e wanted h same refl refl refl) (closes_only ends)
  unread_image d command sectors images.SourceFault answer reads wanted same rose ends = λ words e. answered 7 (only reading_text) (reading_due (ap reads_text e ∙ reads) rose same refl refl refl) (closes_only ends)
  unread_image d command sectors images.Memory answer reads wanted same free ends = λ words e. answered 9 (only memory_text) (memory_due (ap is_some e) same refl refl refl) (closes_only ends)

  pub served_dump : (d : Device B) (answer : ℕ) → DeviceUnchanged d → DumpEnds left source_faults deck deck' taken faults old new answer → Serves lines.Dump left source_faults deck deck' d None taken faults old new answer
  served_dump d answer same (is_dumped image dump read dumps ends) = λ words e. answered 0 (only dump) (dump_due image dump (record { is = e; read = read; dumps = dumps }) same refl refl refl) (closes_only ends)
  served_dump d answer same (isnt_read fault read ends) = unread_image d lines.Dump None fault answer refl refl same read ends

-- ---- texts past the limit

image_too_long : (sectors : Option ℕ) (text : List ℕ) → limit < length text → told_in sectors text ≡ Err (record { card = count_by (λ b. b == 10) (take limit text) + 1; reason = 9 })
image_too_long sectors text long = rw (lt-ltb limit (length text) long) refl

-- they are told as their first bytes are
pub told_alike : (sectors : Option ℕ) (text : List ℕ) → told_in sectors (take (limit + 1) text) ≡ told_in sectors text
told_alike sectors text = ⊎_elim long short (cases_lt limit (length text))
  where
    refused : ℕ → Result (ℕ × ImageParts) Refusal
    refused n = Err (record { card = n; reason = 9 })

    long : limit < length text → told_in sectors (take (limit + 1) text) ≡ told_in sectors text
    long more =
        let l : length (take (limit + 1) text) ≡ min (limit + 1) (length text) = length-take (limit + 1) text in
        let longer : limit < length (take (limit + 1) text) = omega (arith, l, more) in
        image_too_long sectors (take (limit + 1) text) longer
        ∙ ap (λ (xs : List ℕ). refused (count_by (λ b. b == 10) xs + 1)) (take-take limit (limit + 1) text (omega arith))
        ∙ sym (image_too_long sectors text more)

    short : length text ≤ limit → told_in sectors (take (limit + 1) text) ≡ told_in sectors text
    short few = ap (told_in sectors) (take_all (limit + 1) text (omega (arith, few)))

-- ---- what a run that goes on answers

-- another step of each run
pub resumed_as : {S B : Type 0} {words : List (Bor (List ℕ))} {left : S → Option (List ℕ)} {source_faults : S → ℕ} {deck deck' : S} {d : Device B} {machine : Option Machine} {P Q : Device B → ℕ → ℕ → Run → Machine → Type 0}
    → ((e : Device B) (core steps : ℕ) (s : Session) (k : Machine) → P e core steps (run_from s) k → Q e core steps (run_from s) k)
    → Resumed words left source_faults deck deck' d machine P → Resumed words left source_faults deck deck' d machine Q
resumed_as f h = record {
  image = h.image;
  k = h.k;
  of = h.of;
  is = h.is;
  gone = record {
    keeps = h.gone.keeps;
    halt = h.gone.halt;
    shaped = h.gone.shaped;
    goes_on = h.gone.goes_on;
    sized = h.gone.sized;
    paged = h.gone.paged;
    each = λ told s says stands. let z = h.gone.each told s says stands in (z.0, z.1, f _ _ z.0 s h.k z.2);
  };
}

-- of the machine that is left
pub resumed_machine : {S B : Type 0} {words : List (Bor (List ℕ))} {left : S → Option (List ℕ)} {source_faults : S → ℕ} {deck deck' : S} {d : Device B} {machine : Option Machine} {k : Machine} {P : Device B → ℕ → ℕ → Run → Machine → Type 0}
    → machine ≡ Some k → Resumed words left source_faults deck deck' d machine P → Resumed words left source_faults deck deck' d (Some k) P
resumed_machine e h = record { image = h.image; k = h.k; of = h.of; is = sym e ∙ h.is; gone = h.gone }

-- from the session that its machine represents
pub some_run : {S B : Type 0} {words : List (Bor (List ℕ))} {left : S → Option (List ℕ)} {source_faults : S → ℕ} {deck deck' : S} {d : Device B} {machine : Option Machine} {P : Device B → ℕ → ℕ → Run → Machine → Type 0}
    → (h : Resumed words left source_faults deck deck' d machine P) → (s : Session) × (steps : ℕ) × P (knowing None d) (length h.image.cpu.core) steps (run_from s) h.k
some_run h =
    let some = image_stands _ h.image h.of.read.2.2 in
    let z = h.gone.each None some.0 tt some.1 in
    (some.0, z.0, z.2)

-- a text of which this holds is printed, and nothing behind it
abbrev pub Leaves : {K : Type 0} → (K → Option (List ℕ)) → K → K → Machine → (Text → Type 0) → Type 0
Leaves taken old new k P = (text : Text) × (k.tasks.printed ≡ 0) × P text × Took taken old new (whole_of text)

module _ {B : Type 0} {d : Device B} {core steps : ℕ} {r : Run} {k : Machine} {status : ℕ} {text : Text} where
  by_failure : status ≡ 6 → StopsOpened d core steps r closings.Plain k status text → Failed d × IsCutOff d core steps r k text
  by_failure e (all_end z h) = absurd (omega (arith, e, z))
  by_failure e (halt_comes z h) = absurd (omega (arith, e, z))
  by_failure e (step_wants_core z h) = absurd (omega (arith, e, z))
  by_failure e (step_wants_sectors z h) = absurd (omega (arith, e, z))
  by_failure e (step_fails z failed h) = (failed, h)

  not_eight : status ≡ 8 → StopsOpened d core steps r closings.Plain k status text → ⊥
  not_eight e (all_end z h) = omega (arith, e, z)
  not_eight e (halt_comes z h) = omega (arith, e, z)
  not_eight e (step_wants_core z h) = omega (arith, e, z)
  not_eight e (step_wants_sectors z h) = omega (arith, e, z)
  not_eight e (step_fails z failed h) = omega (arith, e, z)

module _ {K B : Type 0} {taken : K → Option (List ℕ)} {faults : K → ℕ} {d : Device B} {core steps : ℕ} {s : Session} {k : Machine} {old new : K} {answer : ℕ} where
  -- what the steps stopped with is printed
  stopped_at : answer ≢ 8 → PlainEnd taken faults old new answer d core steps (run_from s) k
      → (text : Text) × (k.tasks.printed ≡ 0) × StopsOpened d core steps (run_from s) closings.Plain k answer text × Took taken old new (whole_of text)
  stopped_at other (steps_stop status text none stops (all_taken a took)) = (text, none, subst (λ (n : ℕ). StopsOpened d core steps (run_from s) closings.Plain k n text) (sym a) stops, took)
  stopped_at other (steps_stop status text none stops (cut_short count a rose part)) = absurd (other a)
  stopped_at other (next_is_cut text cut a rose part) = absurd (other a)

  -- no other statuses come
  pub no_status : (n : ℕ) → ((1 ≤ n) × (n ≤ 3)) ⊎ ((n ≡ 7) ⊎ (9 ≤ n)) → answer ≡ n → PlainEnd taken faults old new answer d core steps (run_from s) k → ⊥
  no_status n out e h = let u = stopped_at (λ z. is_eight out z) h in by_stop u.0 u.2
    where
      is_eight : ((1 ≤ n) × (n ≤ 3)) ⊎ ((n ≡ 7) ⊎ (9 ≤ n)) → answer ≡ 8 → ⊥
      is_eight (inl o) z = let high = o.1 in omega (arith, e, z, high)
      is_eight (inr (inl o)) z = omega (arith, e, z, o)
      is_eight (inr (inr o)) z = omega (arith, e, z, o)

      is_zero : ((1 ≤ n) × (n ≤ 3)) ⊎ ((n ≡ 7) ⊎ (9 ≤ n)) → answer ≡ 0 → ⊥
      is_zero (inl o) z = let low = o.0 in omega (arith, e, z, low)
      is_zero (inr (inl o)) z = omega (arith, e, z, o)
      is_zero (inr (inr o)) z = omega (arith, e, z, o)

      is_short : ((1 ≤ n) × (n ≤ 3)) ⊎ ((n ≡ 7) ⊎ (9 ≤ n)) → 4 ≤ answer → answer ≤ 6 → ⊥
      is_short (inl o) low high = let few = o.1 in omega (arith, e, low, few)
      is_short (inr (inl o)) low high = omega (arith, e, high, o)
      is_short (inr (inr o)) low high = omega (arith, e, high, o)

      by_stop : (text : Text) → StopsOpened d core steps (run_from s) closings.Plain k answer text → ⊥
      by_stop text (all_end z h) = is_zero out z
      by_stop text (halt_comes z h) = none-some steps h.halt
      by_stop text (step_wants_core z h) = is_short out (omega (arith, z)) (omega (arith, z))
      by_stop text (step_wants_sectors z h) = is_short out (omega (arith, z)) (omega (arith, z))
      by_stop text (step_fails z failed h) = is_short out (omega (arith, z)) (omega (arith, z))

  -- by the status
  pub done_from : answer ≡ 0 → PlainEnd taken faults old new answer d core steps (run_from s) k
      → Leaves taken old new k (λ text. IsDone d steps (run_from s) closings.Plain k text × (DeviceTells d → IsFinished (run_from s) text.front))
  done_from e h = let u = stopped_at (λ z. omega (arith, e, z)) h in (u.0, u.1, by_stop u.0 u.2, u.3)
    where
      by_stop : (text : Text) → StopsOpened d core steps (run_from s) closings.Plain k answer text → IsDone d steps (run_from s) closings.Plain k text × (DeviceTells d → IsFinished (run_from s) text.front)
      by_stop text (all_end z h) = (h, λ tells. is_finished d steps (run_from s) closings.Plain k text h tells)
      by_stop text (halt_comes z h) = absurd (omega (arith, e, z))
      by_stop text (step_wants_core z h) = absurd (omega (arith, e, z))
      by_stop text (step_wants_sectors z h) = absurd (omega (arith, e, z))
      by_stop text (step_fails z failed h) = absurd (omega (arith, e, z))

  pub core_from : answer ≡ 4 → PlainEnd taken faults old new answer d core steps (run_from s) k → Leaves taken old new k (λ text. WantsCore d core steps (run_from s) k text)
  core_from e h = let u = stopped_at (λ z. omega (arith, e, z)) h in (u.0, u.1, by_stop u.0 u.2, u.3)
    where
      by_stop : (text : Text) → StopsOpened d core steps (run_from s) closings.Plain k answer text → WantsCore d core steps (run_from s) k text
      by_stop text (all_end z h) = absurd (omega (arith, e, z))
      by_stop text (halt_comes z h) = absurd (omega (arith, e, z))
      by_stop text (step_wants_core z h) = h
      by_stop text (step_wants_sectors z h) = absurd (omega (arith, e, z))
      by_stop text (step_fails z failed h) = absurd (omega (arith, e, z))

  pub sectors_from : answer ≡ 5 → PlainEnd taken faults old new answer d core steps (run_from s) k → Leaves taken old new k (λ text. WantsSectors d core steps (run_from s) k text)
  sectors_from e h = let u = stopped_at (λ z. omega (arith, e, z)) h in (u.0, u.1, by_stop u.0 u.2, u.3)
    where
      by_stop : (text : Text) → StopsOpened d core steps (run_from s) closings.Plain k answer text → WantsSectors d core steps (run_from s) k text
      by_stop text (all_end z h) = absurd (omega (arith, e, z))
      by_stop text (halt_comes z h) = absurd (omega (arith, e, z))
      by_stop text (step_wants_core z h) = absurd (omega (arith, e, z))
      by_stop text (step_wants_sectors z h) = h
      by_stop text (step_fails z failed h) = absurd (omega (arith, e, z))

  pub fails_from : answer ≡ 6 → PlainEnd taken faults old new answer d core steps (run_from s) k → Leaves taken old new k (λ text. IsCutOff d core steps (run_from s) k text)
  fails_from e h = let u = stopped_at (λ z. omega (arith, e, z)) h in (u.0, u.1, (by_failure e u.2).1, u.3)

  -- the device failed
  pub failed_from : answer ≡ 6 → PlainEnd taken faults old new answer d core steps (run_from s) k → Failed d
  failed_from e h = let u = stopped_at (λ z. omega (arith, e, z)) h in (by_failure e u.2).0

  -- or the printer did
  pub rose_from : answer ≡ 8 → PlainEnd taken faults old new answer d core steps (run_from s) k → Rose faults old new
  rose_from e (steps_stop status text none stops (all_taken a took)) = absurd (not_eight (sym a ∙ e) stops)
  rose_from e (steps_stop status text none stops (cut_short count a rose part)) = rose
  rose_from e (next_is_cut text cut a rose part) = rose

  pub cut_from : answer ≡ 8 → PlainEnd taken faults old new answer d core steps (run_from s) k
      → (text : Text) × (count : ℕ) × (((due : ℕ) × StopsOpened d core steps (run_from s) closings.Plain k due text) ⊎ (IsPrintingNext d core steps (run_from s) k text × (count ≡ k.tasks.printed)))
      × TookUpTo taken old new text count
  cut_from e (steps_stop status text none stops (all_taken a took)) = absurd (not_eight (sym a ∙ e) stops)
  cut_from e (steps_stop status text none stops (cut_short count a rose part)) = (text, count, inl (status, stops), part)
  cut_from e (next_is_cut text cut a rose part) = (text, k.tasks.printed, inr (cut, refl), part)
