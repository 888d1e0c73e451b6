-- What `image` prints of a run that halts is read over the same device as the machine that the run leaves.
use Rattle.std.proofs.Common.{◌≡◌, ◌+◌, ◌≤◌, ℕ, true, List, ◌++◌, length, Option, Some, Ok, Err, refl, sym, ap, subst, ◌∙◌, arith, inl, inr, ⊎_elim}
use Rattle.std.proofs.lemmas.Bool.{eq-eqb}
use Rattle.std.proofs.lemmas.List.{take_all}
use Rattle.std.proofs.lemmas.Option.{same_Some}
use denote.Ref.{Bor}
use Rattle.b67_lemmas.proofs.Members.{keyed_has}
use Rattle.b67_io.specs.Told.{Took}
use Rattle.b67_model.specs.Common.{number_of}
use Rattle.b67_backing.specs.Links.{links_in}
use Rattle.b67_backing.proofs.Linkings.{links_in-length}
use Rattle.b67_layout_shown.specs.Machines.{RepresentsOne}
use Rattle.b67_job.proofs.Passed.{stands_untold}
use Rattle.b67_task.specs.declared.tables.Machine.{Machine}
use Rattle.b67_job.specs.Admitting.{Prepared, deck_prepared}
use Rattle.b67_image.specs.Text.{limit}
use Rattle.b67_image.specs.Parts.{parts_of}
use Rattle.b67_image.specs.Within.{ArePartsWithin}
use Rattle.b67_image.specs.Typed.{AreTyped}
use Rattle.b67_image.specs.Meaning.{is_wanted, told_in, IsMeant}
use Rattle.b67_image.specs.declared.fault.ImageFault.TheVariants.{Card}
use Rattle.b67_job.specs.Command.{command_line_of}
use Rattle.b67_job.specs.declared.command.CommandLine.{CommandLine}
use Rattle.b67_job.specs.declared.command.CommandLine.TheVariants as commands
use Rattle.b67_job.specs.declared.summaries.Closing.{Closing}
use Rattle.b67_job.specs.declared.summaries.Closing.TheVariants as closings
use Rattle.b67_job.specs.Device.{Device, known_now}
use Rattle.b67_job.specs.Texts.{Text, whole_of}
use Rattle.b67_job.specs.Runs.{run_of, IsHaltedAt, StopsInRun, WasOpened}
use Rattle.b67_job.specs.Judgement.{Runs, asked, closing_of, image_sectors}
use Rattle.b67_job.specs.Due.{IsRun, Halts, IsOpenedOrResumed, TextIsRefused, ImageIsRefused}
use Rattle.b67_job.specs.Statuses.{StatusMeans}
use Rattle.b67_job.proofs.Commands.{NumberWithin}
use Rattle.b67_job.proofs.Prepared.{prepared_in_range, prepared_cards}
use Rattle.b67_promises.specs.Halts.{AsksForImage, AsksForResume, IsReadIn, IsReadBack, text_of_halt}
use Rattle.b67_promises.proofs.Halves.{image_words, resume_words, one_text}
use Rattle.b67_promises.proofs.OtherLines.{read_among}
use Rattle.b67_promises.proofs.Ranges.{parts_within}
use Rattle.b67_promises.proofs.TurnCalls.{prepared_is}
use Rattle.b67_model.specs.declared.limits.TheConstants.{LEAST_CORE, MOST_CORE}

not_image : (core : ℕ) → commands.Resume ≡ commands.Image core → ⊥
not_image core e = cc

-- a machine of which a task makes the next step represents a session, whatever is known of its device
one_is : {B : Type 0} (d : Device B) (steps : ℕ) (p : Prepared) (k : Machine) → StopsInRun d steps (run_of p).session k → RepresentsOne k
one_is d steps p k stop =
    let s = stands_untold (known_now d) k stop.session stop.stands in
    record { storage = s.storage; plan = s.plan; session = stop.session; ordered = s.ordered; stands = s.stands }

module _ {S B K : Type 0} (words : List (Bor (List ℕ))) (left : S → Option (List ℕ)) (source_faults : S → ℕ) (deck deck' : S) (d : Device B) (machine : Option Machine) (taken : K → Option (List ℕ)) (faults : K → ℕ) (old new : K) (w : AsksForImage words) where
  the_closing : (core : ℕ) (p : Prepared) → IsRun words left deck deck' core p → closing_of (command_line_of words) ≡ closings.Image
  the_closing core p run = let c = image_words words w run.command run.is in ap closing_of (run.is ∙ ap Some c.1)

  -- the deck that ran, and its core
  the_deck : (core : ℕ) (p : Prepared) → IsRun words left deck deck' core p → (bytes : List ℕ) × (deck_prepared bytes ≡ Ok p)
  the_deck core p run =
      let c = image_words words w run.command run.is in
      let judged = subst (λ (x : CommandLine). asked x run.bytes ≡ Runs p) c.1 run.judged in
      (run.bytes, prepared_is run.bytes p judged)

  the_core : (core : ℕ) (p : Prepared) → IsRun words left deck deck' core p → NumberWithin LEAST_CORE MOST_CORE core
  the_core core p run =
      let c = image_words words w run.command run.is in
      grind (arith, same_Some)

  within : (core : ℕ) (p q : Prepared) (k : Machine) → IsRun words left deck deck' core p → WasOpened d core p k → StopsInRun d k.tasks.made (run_of q).session k → AreTyped (parts_of k) → length k.tasks.rows.items ≤ 120 → ArePartsWithin (parts_of k)
  within core p q k run opened stop typed rows =
      let text = the_deck core p run in
      let size = opened.core_size in
      let wide = the_core core p run in
      let low = wide.from in
      let high = wide.upto in
      parts_within p.0 (prepared_in_range text.0 p.0 p.1 text.1).0 (prepared_cards text.0 p text.1) k opened.given opened.shaped.countable typed
      stop.stands.storage (known_now d) stop.stands.plan stop.session stop.member stop.stands.ordered stop.stands.stands (keyed_has number_of stop.next.chosen.who.job stop.session.jobs stop.member stop.next.member).0
      rows (omega (arith, size, low)) (omega (arith, size, high))

  module _ (before text : List ℕ) (took : taken old ≡ Some before) (took' : taken new ≡ Some (before ++ text)) (few : length text ≤ limit) where
    read_at : (q : Prepared) (k : Machine) (printed : Text) → machine ≡ Some k → IsHaltedAt d k.tasks.made (run_of q) closings.Image k printed → Took taken old new (whole_of printed)
        → IsOpenedOrResumed words left source_faults deck deck' d k → AreTyped (parts_of k) → length k.tasks.rows.items ≤ 120 → IsReadBack d.sectors_now text machine
    read_at q k printed is halts all (inl o) typed rows =
        let same : text ≡ text_of_halt halts.stop.printed k k.tasks.made = one_text taken old new before text (whole_of printed) took took' all ∙ ap whole_of halts.text_is in
        let count : length (links_in k.sectors) ≡ d.sectors_now = links_in-length k.sectors d.sectors_now o.3.sized in
        let wanted : is_wanted (Some d.sectors_now) (length (parts_of k).links) ≡ true = eq-eqb (length (links_in k.sectors)) d.sectors_now count in
        let range = within o.0 o.1 q k o.2 o.3 halts.stop typed rows in
        let read = read_among (Some d.sectors_now) halts.stop.printed k.tasks.made k range wanted (subst (λ (t : List ℕ). length t ≤ limit) same few) in
        let there = subst (λ (t : List ℕ). IsReadIn (Some d.sectors_now) t k) (sym same) read in
        record { m = k; is = is; card = there.card; told = there.told; taken = there.taken (one_is d k.tasks.made q k halts.stop) }
    read_at q k printed is halts all (inr r) typed rows =
        let c = image_words words w commands.Resume r.of.is in
        absurd (not_image c.0 c.1)

    pub read_back : StatusMeans words left source_faults deck deck' d machine taken faults old new 3 → ((k : Machine) → machine ≡ Some k → IsOpenedOrResumed words left source_faults deck deck' d k)
        → ((k : Machine) → machine ≡ Some k → AreTyped (parts_of k)) → ((k : Machine) → machine ≡ Some k → length k.tasks.rows.items ≤ 120) → IsReadBack d.sectors_now text machine
    read_back means opened typed rows =
        let r = means.halted refl in
        let closed = subst (λ (x : Closing). Halts d r.1 x machine r.2) (the_closing r.0 r.1 r.3) r.4 in
        read_at r.1 closed.0 r.2 closed.1 closed.3.0 r.5 (opened closed.0 closed.1) (typed closed.0 closed.1) (rows closed.0 closed.1)

-- ---- and a call that goes on from it doesn't refuse it

module _ {S B K : Type 0} (words : List (Bor (List ℕ))) (left : S → Option (List ℕ)) (source_faults : S → ℕ) (deck deck' : S) (d : Device B) (machine : Option Machine) (taken : K → Option (List ℕ)) (faults : K → ℕ) (old new : K)
    (w : AsksForResume words) (text : List ℕ) (given : left deck ≡ Some text) (few : length text ≤ limit) (printed : Option Machine) (back : IsReadBack d.sectors text printed) where
  no_text : (t : Text) → TextIsRefused words left deck deck' d machine t → ⊥
  no_text t h = grind arith

  no_image : (t : Text) → ImageIsRefused words left source_faults deck deck' d machine t → ⊥
  no_image t h =
      let c = resume_words words w h.0 h.4 in
      let e : image_sectors d.sectors commands.Resume ≡ Some h.1 = subst (λ (x : CommandLine). image_sectors d.sectors x ≡ Some h.1) c h.5 in
      let wanted : Some d.sectors ≡ h.1 = same_Some (Some d.sectors) h.1 e in
      let read = h.6 in
      let whole : read.0 ≡ text = (read.1.told text given).0 ∙ take_all (limit + 1) text (omega (arith, few)) in
      back.taken (Err (Card h.2 h.3))
      (subst (λ (o : Option ℕ). IsMeant (Err (Card h.2 h.3)) (told_in o text)) (sym wanted) (subst (λ (x : List ℕ). IsMeant (Err (Card h.2 h.3)) (told_in h.1 x)) whole read.2))

  pub not_refused : StatusMeans words left source_faults deck deck' d machine taken faults old new 2 → ⊥
  not_refused means = let r = means.refused refl in ⊎_elim (no_text r.0) (no_image r.0) r.1
