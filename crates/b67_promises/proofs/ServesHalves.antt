-- A run that halts and its rest, served by two calls over the file of one path, print what the model's machine gives.
use Rattle.std.proofs.Common.{◌≡◌, ◌≢◌, ◌≤◌, ◌+◌, ◌⊎◌, inl, inr, ℕ, List, ◌++◌, length, refl, sym, ap, subst, ◌∙◌, arith, Option, Some, None, Ok, is_some}
use Rattle.std.proofs.lemmas.Option.{same_Some, none-some}
use denote.Ref.{Bor}
use Rattle.b67_io.specs.Free.{free_told, free_faults}
use Rattle.b67_model.specs.Common.{Session, lines, after, live_tasks, run_text}
use Rattle.b67_model_text.specs.Deck as deck
use Rattle.b67_session_lines.specs.Ends.{EndsPrinting}
use Rattle.b67_session_lines.specs.Stops.{live_after}
use Rattle.b67_session_lines.proofs.Statuses.{after-add}
use Rattle.b67_task.specs.declared.tables.Machine.{Machine}
use Rattle.b67_image.specs.Text as image
use Rattle.b67_image.specs.Laws.{PartsTellSessions}
use Rattle.b67_image.specs.Parts.{parts_of}
use Rattle.b67_image.specs.Typed.{AreTyped}
use Rattle.b67_image.specs.Meaning.{told_in}
use Rattle.b67_job.specs.Command.{command_line_of, backing_path}
use Rattle.b67_job.specs.declared.command.CommandLine.{CommandLine}
use Rattle.b67_job.specs.Device.{Device, device_of}
use Rattle.b67_job.specs.Judgement.{text_limit}
use Rattle.b67_job.specs.Runs.{StandsAt, run_of}
use Rattle.b67_job.specs.Statuses.{StatusMeans}
use Rattle.b67_program.specs.Input.{IsTakenIn}
use Rattle.b67_program.specs.Opening.{Finds, Leaves}
use Rattle.b67_program.specs.Served.{IsCarriedOut, ImageIsTyped, IsAnswered, carried_out, reading_failed, text_wants_memory, IsServed, over_file, over_memory, sectors_want_memory}
use Rattle.b67_promises.specs.Halts.{AsksForImage, AsksForResume, PrintsTheRest}
use Rattle.b67_promises.specs.Paging.{IsWhole}
use Rattle.b67_promises.proofs.Halves as halves
use Rattle.b67_promises.proofs.OneImage.{parts_are}
use Rattle.b67_promises.proofs.Serves.{found_tells, taken_whole}

-- ---- a call that ended so was carried out over the file of its path

not_due : {K : Type 0} (taken : K → Option (List ℕ)) (faults : K → ℕ) (old new : K) (status : ℕ) (text : List ℕ) (answer : ℕ) → EndsPrinting taken faults old new status text answer → IsWhole answer → 7 ≤ status → ⊥
not_due taken faults old new status text answer h e high = grind arith

-- it was carried out over this file, which was found so and left so
pub record WasOverFile {S B K : Type 0} (words : List (Bor (List ℕ))) (left : S → Option (List ℕ)) (source_faults : S → ℕ) (input input' : S) (finds leaves : B → Type 0) (device : B → B → Device B)
    (taken : K → Option (List ℕ)) (faults : K → ℕ) (old new : K) (answer : ℕ) : Type 0 where
  pub file : B
  pub file_after : B
  pub found : finds file
  pub left_so : leaves file_after
  pub call : IsCarriedOut words left source_faults input input' (device file file_after) taken faults old new answer

module _ {R S B K : Type 0} (kept : R → List ℕ → Option (List (List ℕ))) (holds : B → Option (List (List ℕ))) (size broken : B → ℕ) (now later : R) (words : List (Bor (List ℕ))) (left : S → Option (List ℕ)) (source_faults : S → ℕ) (input input' : S)
    (taken : K → Option (List ℕ)) (faults : K → ℕ) (old new : K) (answer : ℕ) (path : List ℕ) (named : backing_path words ≡ Some path) (whole : IsWhole answer) where
  abbrev Over : Type 0
  Over = WasOverFile words left source_faults input input' (Finds kept holds now path) (Leaves kept holds later path) (device_of holds size broken) taken faults old new answer

  by_answer : (file file' : B) → Finds kept holds now path file → Leaves kept holds later path file' → IsAnswered words left source_faults input input' (device_of holds size broken file file') taken faults old new answer → Over
  by_answer file file' found left_so (carried_out r) = record { file = file; file_after = file'; found = found; left_so = left_so; call = r }
  by_answer file file' found left_so (reading_failed reads rose same ends) = absurd (not_due taken faults old new 7 _ answer ends whole (omega arith))
  by_answer file file' found left_so (text_wants_memory reads same ends) = absurd (not_due taken faults old new 9 _ answer ends whole (omega arith))

  pub over_its_file : IsServed words left source_faults input input' (Finds kept holds now) (Leaves kept holds later) (device_of holds size broken) taken faults old new answer → Over
  over_its_file (over_file other file file' is found left_so a) =
      let same : other ≡ path = same_Some other path (sym is ∙ named) in
      by_answer file file' (subst (λ (q : List ℕ). Finds kept holds now q file) same found) (subst (λ (q : List ℕ). Leaves kept holds later q file') same left_so) a
  over_its_file (over_memory held held' none zeros reads writes calm a) = absurd (none-some path (sym none ∙ named))
  over_its_file (sectors_want_memory none ends) = absurd (none-some path (sym none ∙ named))

-- what the second call finds is what the first one left
found_as_left : {R B : Type 0} (kept : R → List ℕ → Option (List (List ℕ))) (holds : B → Option (List (List ℕ))) (middle : R) (path : List ℕ) (file next : B) → holds file ≢ None → Leaves kept holds middle path file → Finds kept holds middle path next
    → holds next ≡ holds file
found_as_left kept holds middle path file next tells l f = grind arith

-- ---- the words of such calls are a command, which reads its text whole

module _ {S B K : Type 0} (words : List (Bor (List ℕ))) (left : S → Option (List ℕ)) (source_faults : S → ℕ) (input input' : S) (d : Device B) (taken : K → Option (List ℕ)) (faults : K → ℕ) (old new : K) (answer : ℕ)
    (r : IsCarriedOut words left source_faults input input' d taken faults old new answer) (whole : IsWhole answer) where
  pub the_command : (command : CommandLine) × (command_line_of words ≡ Some command)
  the_command = by_command (command_line_of words) refl
    where
      usage : (answer ≡ 1) ⊎ (answer ≡ 8) → IsWhole answer → ⊥
      usage (inl a) (inl z) = omega (arith, a, z)
      usage (inl a) (inr z) = omega (arith, a, z)
      usage (inr a) (inl z) = omega (arith, a, z)
      usage (inr a) (inr z) = omega (arith, a, z)

      by_command : (o : Option CommandLine) → command_line_of words ≡ o → (command : CommandLine) × (command_line_of words ≡ Some command)
      by_command None e = absurd (usage (r.over.means.no_command (ap is_some e)) whole)
      by_command (Some command) e = (command, e)

  given_whole : (most : ℕ) → text_limit (command_line_of words) ≡ Some most → (text : List ℕ) → left input ≡ Some text → length text ≤ most → free_told r.over.deck ≡ Some text
  given_whole most limited text told few =
      let read = subst (λ (o : Option ℕ). IsTakenIn o left source_faults input input' (Ok r.bytes)) limited r.given in
      ap Some (r.over.holds ∙ sym (taken_whole left source_faults input input' most text told (omega (arith, few)) r.bytes read))

  pub image_given : AsksForImage words → (text : List ℕ) → left input ≡ Some text → length text ≤ deck.limit → free_told r.over.deck ≡ Some text
  image_given w text told few =
      let c = the_command in
      let i = halves.image_words words w c.0 c.1 in
      given_whole deck.limit (ap text_limit (c.1 ∙ ap Some i.1)) text told few

  pub image_typed : AsksForImage words → (k : Machine) → r.over.machine ≡ Some k → AreTyped (parts_of k)
  image_typed w k is =
      let c = the_command in
      let i = halves.image_words words w c.0 c.1 in
      let typed = subst (λ (o : Option CommandLine). ImageIsTyped o r.over.machine) (c.1 ∙ ap Some i.1) r.over.typed in
      typed k is

  pub resume_given : AsksForResume words → (text : List ℕ) → left input ≡ Some text → length text ≤ image.limit → free_told r.over.deck ≡ Some text
  resume_given w text told few =
      let c = the_command in
      given_whole image.limit (ap text_limit (c.1 ∙ ap Some (halves.resume_words words w c.0 c.1))) text told few

-- ---- both calls

module _ {R S K I L B : Type 0} (kept : R → List ℕ → Option (List (List ℕ))) (holds : B → Option (List (List ℕ))) (size broken : B → ℕ) (now middle last : R)
    (words : List (Bor (List ℕ))) (left : S → Option (List ℕ)) (source_faults : S → ℕ) (input input' : S) (taken : K → Option (List ℕ)) (faults : K → ℕ) (old new : K) (answer : ℕ)
    (resume_words : List (Bor (List ℕ))) (left' : I → Option (List ℕ)) (source_faults' : I → ℕ) (image_old image_new : I) (taken' : L → Option (List ℕ)) (faults' : L → ℕ) (rest_old rest_new : L) (answer' : ℕ)
    (law : PartsTellSessions)
    (served : IsServed words left source_faults input input' (Finds kept holds now) (Leaves kept holds middle) (device_of holds size broken) taken faults old new answer)
    (served' : IsServed resume_words left' source_faults' image_old image_new (Finds kept holds middle) (Leaves kept holds last) (device_of holds size broken) taken' faults' rest_old rest_new answer') where
  pub rest_served : (path bytes before text : List ℕ) → AsksForImage words → AsksForResume resume_words → backing_path words ≡ Some path → backing_path resume_words ≡ Some path → kept now path ≢ None
      → left input ≡ Some bytes → length bytes ≤ deck.limit → taken old ≡ Some before → taken new ≡ Some (before ++ text) → left' image_old ≡ Some text → length text ≤ image.limit
      → answer ≡ 3 → answer' ≡ 0 → PrintsTheRest bytes text taken' rest_old rest_new
  rest_served path bytes before text w w' named named' known told few took took' given short three zero =
      let one = over_its_file kept holds size broken now middle words left source_faults input input' taken faults old new answer path named (inr three) served in
      let two = over_its_file kept holds size broken middle last resume_words left' source_faults' image_old image_new taken' faults' rest_old rest_new answer' path named' (inl zero) served' in
      let d = device_of holds size broken one.file one.file_after in
      let e = device_of holds size broken two.file two.file_after in
      let r = one.call in
      let r' = two.call in
      let tells = found_tells kept holds now path one.file known one.found in
      let same = found_as_left kept holds middle path one.file_after two.file (r.over.kept.tells tells) one.left_so two.found in
      let tells' : holds two.file ≢ None = λ none. r.over.kept.tells tells (sym same ∙ none) in
      let deck_told = image_given words left source_faults input input' d taken faults old new answer r (inr three) w bytes told few in
      let means = subst (λ (n : ℕ). StatusMeans words free_told free_faults r.over.deck r.over.deck_after d r.over.machine taken faults old new n) three r.over.means in
      let h = halves.halted_run words free_told free_faults r.over.deck r.over.deck_after d r.over.machine taken faults old new bytes before text w deck_told tells took took' means in
      let names = halves.names_of words free_told free_faults r.over.deck r.over.deck_after d r.over.machine taken faults old new bytes before text w deck_told tells took took' h (r.over.opened h.k h.is) in
      let typed = image_typed words left source_faults input input' d taken faults old new answer r (inr three) w h.k h.is in
      let s0 : Session = (run_of h.p).session in
      let made : ℕ = h.k.tasks.made in
      let s : Session = after made s0 in
      let stands = subst (λ (t : Option (List (List ℕ))). StandsAt t h.k s) (halves.known_is (holds one.file) (holds one.file_after) tells ∙ sym same) h.stands in
      let image_told = resume_given resume_words left' source_faults' image_old image_new e taken' faults' rest_old rest_new answer' r' (inl zero) w' text given short in
      let means' = subst (λ (n : ℕ). StatusMeans resume_words free_told free_faults r'.over.deck r'.over.deck_after e r'.over.machine taken' faults' rest_old rest_new n) zero r'.over.means in
      let rest = halves.rest_of_run resume_words free_told free_faults r'.over.deck r'.over.deck_after e r'.over.machine taken' faults' rest_old rest_new
      w' tells' s h.k stands text image_told law
      (λ card p small is. parts_are (lines made s0) made h.k _ card p (subst (λ (t : List ℕ). halves.IsShort t) h.printed small) typed names (ap (told_in _) (sym h.printed) ∙ is)) means' in
      let over : live_after (made + rest.2.steps) s0 ≡ 0 = ap (λ (t : Session). live_tasks t.jobs) (after-add made rest.2.steps s0) ∙ rest.2.over in
      record {
        p = h.p;
        deck = h.deck;
        steps = made + rest.2.steps;
        over = over;
        resumed = rest.0;
        printed = rest.1;
        parts = halves.printed_together made rest.2.steps (made + rest.2.steps) s0 h.k text rest.0 (run_text (lines (made + rest.2.steps) s0)) rest.2.over over h.printed rest.2.printed refl;
      }
