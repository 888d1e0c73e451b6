-- What a call of the program prints and answers, as the machine of the model has it.
use Rattle.std.proofs.Common.{◌≡◌, ◌≢◌, ◌≤◌, ◌+◌, inl, arith, ℕ, List, [], length, take, refl, sym, ap, subst, ◌∙◌, Option, Some, None, Ok}
use Rattle.std.proofs.lemmas.Option.{same_Some, none-some}
use denote.Ref.{Bor}
use Rattle.b67_io.specs.Told.{Took}
use Rattle.b67_io.specs.Free.{free_told, free_faults}
use Rattle.b67_model_text.specs.Deck.{limit}
use Rattle.b67_session_lines.specs.Ends.{EndsPrinting, all_printed, cut_off}
use Rattle.b67_job.specs.Command.{command_line_of, backing_path}
use Rattle.b67_job.specs.Device.{Device, DeviceTells, device_of}
use Rattle.b67_job.specs.Due.{reading_text}
use Rattle.b67_job.specs.Judgement.{text_limit, judgement}
use Rattle.b67_job.specs.Lines.{memory_text}
use Rattle.b67_program.specs.Input.{IsTakenIn}
use Rattle.b67_program.specs.Opening.{Finds, Leaves}
use Rattle.b67_program.specs.Served.{IsCarriedOut, IsAnswered, carried_out, reading_failed, text_wants_memory, IsServed, over_file, over_memory, sectors_want_memory}
use Rattle.b67_promises.specs.Described as described
use Rattle.b67_promises.specs.Described.{IsRunCommand, IsAnsweredSo, IsDueOf, PrintsOverFile}
use Rattle.b67_promises.proofs.CallsDescribed.{run_asks, call_is, longer}
use Rattle.b67_job.specs.Admitting.{Prepared, deck_prepared}
use Rattle.b67_promises.specs.Paging.{IsWhole, FileIsTold}
use Rattle.b67_promises.specs.Paged.{PagesAllTheWay, PagesOverFile}
use Rattle.b67_promises.proofs.Calls.{short_at}
use Rattle.b67_promises.proofs.MoreCore.{whole_at}
use Rattle.b67_promises.proofs.Paged.{whole_pages}
use Rattle.b67_promises.proofs.RunWords.{run_command, run_path, first_is_run}
use Rattle.b67_promises.proofs.Serves.{all_read, named_tells}

module _ {S K : Type 0} (words : List (Bor (List ℕ))) (core : ℕ) (w : IsRunCommand core words) (left : S → Option (List ℕ)) (source_faults : S → ℕ) (input input' : S) (taken : K → Option (List ℕ)) (faults : K → ℕ) (old new : K) (answer : ℕ)
    (bytes : List ℕ) (told : left input ≡ Some bytes) (few : length bytes ≤ limit + 1) where
  abbrev So : ℕ → Type 0
  So n = (text : List ℕ) × Took taken old new text × IsAnsweredSo None core n bytes answer text

  lone_due : (sectors status : ℕ) (text : List ℕ) → IsDueOf None core sectors bytes status text → EndsPrinting taken faults old new status text answer → So sectors
  lone_due sectors status text due (all_printed a took) = (text, took, described.as_due (subst (λ (n : ℕ). IsDueOf None core sectors bytes n text) (sym a) due))
  lone_due sectors status text due (cut_off a rose part) = (take part.count text, part.first, described.cut_in_due status text a due (longer [] text part.count part.proper))

  carried : {B : Type 0} (d : Device B) → DeviceTells d → IsCarriedOut words left source_faults input input' d taken faults old new answer → So d.sectors
  carried d tells r =
      let is = run_command core words w in
      let most : text_limit (command_line_of words) ≡ Some limit = ap text_limit is in
      let same : bytes ≡ r.bytes = all_read words (first_is_run core words w) left source_faults input input' taken faults old new answer bytes told few r.bytes (subst (λ (o : Option ℕ). IsTakenIn o left source_faults input input' (Ok r.bytes)) most r.given) in
      let asks = run_asks words free_told r.over.deck r.over.deck_after core bytes w (ap Some (r.over.holds ∙ sym same)) in
      call_is words free_told free_faults r.over.deck r.over.deck_after d r.over.machine None core bytes asks tells r.over.due

  by_answer : {B : Type 0} (d : Device B) → DeviceTells d → IsAnswered words left source_faults input input' d taken faults old new answer → So d.sectors
  by_answer d tells (carried_out r) = carried d tells r
  by_answer d tells (reading_failed reads rose kept ends) = lone_due d.sectors 7 reading_text (described.source_fails refl refl) ends
  by_answer d tells (text_wants_memory reads kept ends) = lone_due d.sectors 9 memory_text (described.memory_is_refused refl refl) ends

  -- over files that tell what their sectors hold
  pub serve_told : {B : Type 0} (holds : B → Option (List (List ℕ))) (size broken : B → ℕ) (finds leaves : List ℕ → B → Type 0) → ((path : List ℕ) (file : B) → backing_path words ≡ Some path → finds path file → holds file ≢ None)
      → IsServed words left source_faults input input' finds leaves (device_of holds size broken) taken faults old new answer
      → (file : B) × finds w.path file × So (size file)
  serve_told holds size broken finds leaves tells (over_file path file file' is found left_so a) =
      (file, subst (λ (q : List ℕ). finds q file) (same_Some path w.path (sym is ∙ run_path core words w)) found, by_answer (device_of holds size broken file file') (tells path file is found) a)
  serve_told holds size broken finds leaves tells (over_memory held held' none zeros reads writes calm a) = absurd (none-some w.path (sym none ∙ run_path core words w))
  serve_told holds size broken finds leaves tells (sectors_want_memory none ends) = absurd (none-some w.path (sym none ∙ run_path core words w))

  pub serve_is : {R B : Type 0} (kept : R → List ℕ → Option (List (List ℕ))) (holds : B → Option (List (List ℕ))) (size broken : B → ℕ) (now : R) (leaves : List ℕ → B → Type 0) → kept now w.path ≢ None
      → IsServed words left source_faults input input' (Finds kept holds now) leaves (device_of holds size broken) taken faults old new answer
      → PrintsOverFile kept holds size now w.path core bytes taken old new answer
  serve_is kept holds size broken now leaves known served =
      let tells = named_tells kept holds now (backing_path words) (subst (FileIsTold kept now) (sym (run_path core words w)) known) in
      let x = serve_told holds size broken (Finds kept holds now) leaves tells served in
      record { file = x.0; found = x.1; text = x.2.0; printed = x.2.1; so = x.2.2 }

  -- one that ends with 0 or 3 has paged all the way
  over_whole : {B : Type 0} (d : Device B) → DeviceTells d → IsWhole answer → IsAnswered words left source_faults input input' d taken faults old new answer → (p : Prepared) × (deck_prepared bytes ≡ Ok p) × PagesAllTheWay d.holds core p answer d.new
  over_whole d tells whole (carried_out r) =
      let is = run_command core words w in
      let most : text_limit (command_line_of words) ≡ Some limit = ap text_limit is in
      let same : bytes ≡ r.bytes = all_read words (first_is_run core words w) left source_faults input input' taken faults old new answer bytes told few r.bytes (subst (λ (o : Option ℕ). IsTakenIn o left source_faults input input' (Ok r.bytes)) most r.given) in
      let asks = run_asks words free_told r.over.deck r.over.deck_after core bytes w (ap Some (r.over.holds ∙ sym same)) in
      whole_pages words free_told r.over.deck r.over.deck_after d core bytes answer asks tells (whole_at tells (judgement bytes) None answer asks.asks whole r.over.due)
  over_whole d tells whole (reading_failed reads rose kept (all_printed a took)) = absurd (short_at answer 7 a (inl (omega arith)) whole)
  over_whole d tells whole (reading_failed reads rose kept (cut_off a failed part)) = absurd (short_at answer 8 a (inl (omega arith)) whole)
  over_whole d tells whole (text_wants_memory reads kept (all_printed a took)) = absurd (short_at answer 9 a (inl (omega arith)) whole)
  over_whole d tells whole (text_wants_memory reads kept (cut_off a failed part)) = absurd (short_at answer 8 a (inl (omega arith)) whole)

  -- over any file that tells what its sectors hold
  pub whole_over_file : {B : Type 0} (holds : B → Option (List (List ℕ))) (size broken : B → ℕ) (finds leaves : List ℕ → B → Type 0) → ((path : List ℕ) (file : B) → backing_path words ≡ Some path → finds path file → holds file ≢ None) → IsWhole answer
      → IsServed words left source_faults input input' finds leaves (device_of holds size broken) taken faults old new answer
      → (file : B) × (file' : B) × finds w.path file × leaves w.path file' × ((p : Prepared) × (deck_prepared bytes ≡ Ok p) × PagesAllTheWay holds core p answer file')
  whole_over_file holds size broken finds leaves tells whole (over_file path file file' is found left_so a) =
      let same = same_Some path w.path (sym is ∙ run_path core words w) in (
        file,
        file',
        subst (λ (q : List ℕ). finds q file) same found,
        subst (λ (q : List ℕ). leaves q file') same left_so,
        over_whole (device_of holds size broken file file') (tells path file is found) whole a,
      )
  whole_over_file holds size broken finds leaves tells whole (over_memory held held' none zeros reads writes calm a) = absurd (none-some w.path (sym none ∙ run_path core words w))
  whole_over_file holds size broken finds leaves tells whole (sectors_want_memory none ends) = absurd (none-some w.path (sym none ∙ run_path core words w))

  pub serve_pages : {R B : Type 0} (kept : R → List ℕ → Option (List (List ℕ))) (holds : B → Option (List (List ℕ))) (size broken : B → ℕ) (now later : R) → kept now w.path ≢ None → IsWhole answer
      → IsServed words left source_faults input input' (Finds kept holds now) (Leaves kept holds later) (device_of holds size broken) taken faults old new answer
      → PagesOverFile kept holds now later w.path core bytes answer
  serve_pages kept holds size broken now later known whole served =
      let tells = named_tells kept holds now (backing_path words) (subst (FileIsTold kept now) (sym (run_path core words w)) known) in
      let x = whole_over_file holds size broken (Finds kept holds now) (Leaves kept holds later) tells whole served in
      record { file = x.0; found = x.2; file_after = x.1; left = x.3; p = x.4.0; prepared = x.4.1; paged = x.4.2 }
