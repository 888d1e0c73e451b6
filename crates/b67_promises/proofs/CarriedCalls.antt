-- A call of the program over ends that record, as a command carried out over a text and the mirrored file of a path.
use Rattle.std.proofs.Common.{◌≡◌, ◌≤◌, ◌<◌, ◌+◌, ◌⊎◌, inl, inr, ℕ, List, [], ◌++◌, arith, refl, sym, ap, subst, ◌∙◌, Option, Some, None, Ok, true}
use Rattle.std.proofs.lemmas.Bool.{cases_lt}
use Rattle.std.proofs.lemmas.List.{append_cancel_left}
use Rattle.std.proofs.lemmas.Option.{same_Some, none-some}
use Rattle.std.specs.declared.io.Write as write
use denote.Ref.{Bor}
use Rattle.b67_io.specs.Free.{free_told}
use Rattle.b67_backing.specs.declared.device.Backing.{Ghosts}
use Rattle.b67_session_lines.specs.Ends.{EndsPrinting, all_printed, cut_off}
use Rattle.b67_job.specs.Admitting.{Prepared, deck_prepared}
use Rattle.b67_job.specs.Command.{command_line_of, backing_path}
use Rattle.b67_job.specs.Device.{Device, device_of}
use Rattle.b67_job.specs.Due.{reading_text}
use Rattle.b67_job.specs.Judgement.{judgement, text_limit}
use Rattle.b67_job.specs.Lines.{memory_text}
use Rattle.b67_program.specs.Served.{IsCarriedOut, IsAnswered, carried_out, reading_failed, text_wants_memory, over_file, over_memory, sectors_want_memory}
use Rattle.b67_program.specs.Words.{texts_of}
use Rattle.b67_recorded.specs.Ends.{mirror_told, mirror_size, mirror_faults, text_told, text_faults, sink_told, sink_faults}
use Rattle.b67_recorded.specs.Files.{reads_sectors, FindsMirrored, LeavesMirrored}
use Rattle.b67_recorded.specs.Recorded as recorded
use Rattle.b67_recorded.specs.Recorded.{ServesText, is_served, IsTextServed, over_text, IsRecordServed, on_words, words_want_memory}
use Rattle.b67_recorded.specs.declared.mirror.Mirrored.{Mirrored}
use Rattle.b67_recorded.specs.declared.process.RecordedProcess.{RecordedProcess}
use Rattle.b67_recorded.specs.declared.sink.RecordedSink.{RecordedSink}
use Rattle.b67_recorded.specs.declared.source.RecordedSource.{RecordedSource}
use Rattle.b67_promises.specs.Commands.{NeitherFailed}
use Rattle.b67_promises.specs.Described.{IsRunCommand, IsAnsweredSo, IsAmpleFor}
use Rattle.b67_promises.specs.Halts.{AsksForResume}
use Rattle.b67_promises.specs.Paging.{texts, IsWhole, EndsToo, memory_wanted}
use Rattle.b67_promises.specs.Shipped.{FilesHave}
use Rattle.b67_promises.proofs.Calls.{short_at}
use Rattle.b67_promises.proofs.CallsDescribed.{run_asks}
use Rattle.b67_promises.proofs.CommandedCalls.{has_causes, read_whole, text_of}
use Rattle.b67_promises.proofs.Halves as halves
use Rattle.b67_promises.proofs.NotedWords.{same_path}
use Rattle.b67_promises.proofs.OneDescribed.{answer_ends}
use Rattle.b67_promises.proofs.Pairs.{more_core_but}
use Rattle.b67_promises.proofs.RecordedCalls.{always_told, described_so, same_command}
use Rattle.b67_promises.proofs.RunWords.{run_path}
use Rattle.b67_promises.proofs.ServesHalves.{the_command}

-- one of these four
abbrev FallsShort : ℕ → Type 0
FallsShort status = (status ≡ 6) ⊎ ((status ≡ 7) ⊎ ((status ≡ 8) ⊎ (status ≡ 9)))

short_isnt_whole : (status : ℕ) → FallsShort status → IsWhole status → ⊥
short_isnt_whole status (inl e) w = short_at status 6 e (inl (omega arith)) w
short_isnt_whole status (inr (inl e)) w = short_at status 7 e (inl (omega arith)) w
short_isnt_whole status (inr (inr (inl e))) w = short_at status 8 e (inl (omega arith)) w
short_isnt_whole status (inr (inr (inr e))) w = short_at status 9 e (inl (omega arith)) w

-- the command of these words was carried out over a text that the reader gave, and over the mirrored file of a path
pub record WasCarried {D F R W : Type 0} {g : Ghosts F} {h : write.Ghosts W} (kept : D → List ℕ → Option (List (List ℕ))) (words : List (Bor (List ℕ))) (path : List ℕ) (process process' : RecordedProcess D F g) (input input' : RecordedSource R)
    (old new : RecordedSink W h) (status : ℕ) : Type 0 where
  pub text : List ℕ
  pub gave : input'.given.bytes ≡ input.given.bytes ++ text
  pub file : Mirrored F g
  pub file_after : Mirrored F g
  pub found : FindsMirrored kept process.inner (reads_sectors (command_line_of words)) path file
  pub left_so : LeavesMirrored kept process'.inner path file_after
  pub call : IsCarriedOut words text_told text_faults text [] (device_of mirror_told mirror_size mirror_faults file file_after) sink_told sink_faults old new status
  pub bytes : call.bytes ≡ text

module _ {D F R W : Type 0} {g : Ghosts F} {h : write.Ghosts W} (kept : D → List ℕ → Option (List (List ℕ))) (process process' : RecordedProcess D F g) (input input' : RecordedSource R) (old new : RecordedSink W h) (status : ℕ) where
  abbrev Carried : List (Bor (List ℕ)) → List ℕ → Type 0
  Carried words path = WasCarried kept words path process process' input input' old new status

  ends_short : (due : ℕ) (line : List ℕ) → FallsShort due → EndsPrinting sink_told sink_faults old new due line status → FallsShort status
  ends_short due line short (all_printed a took) = subst FallsShort (sym a) short
  ends_short due line short (cut_off a rose part) = inr (inr (inl a))

  by_answer : (words : List (Bor (List ℕ))) (path text : List ℕ) → input'.given.bytes ≡ input.given.bytes ++ text → (file file' : Mirrored F g) → FindsMirrored kept process.inner (reads_sectors (command_line_of words)) path file → LeavesMirrored kept process'.inner path file'
      → IsAnswered words text_told text_faults text [] (device_of mirror_told mirror_size mirror_faults file file') sink_told sink_faults old new status → Carried words path ⊎ FallsShort status
  by_answer words path text gave file file' found left_so (carried_out r) = inl (record {
    text = text;
    gave = gave;
    file = file;
    file_after = file';
    found = found;
    left_so = left_so;
    call = r;
    bytes = read_whole (text_limit (command_line_of words)) text r.bytes r.given;
  })
  by_answer words path text gave file file' found left_so (reading_failed reads rose same ends) = inr (ends_short 7 reading_text (inr (inl refl)) ends)
  by_answer words path text gave file file' found left_so (text_wants_memory reads same ends) = inr (ends_short 9 memory_text (inr (inr (inr refl))) ends)

  module _ (opens : D → Option (List (List ℕ))) where
    served_so : (words : List (Bor (List ℕ))) (path text : List ℕ) → backing_path words ≡ Some path → input'.given.bytes ≡ input.given.bytes ++ text
        → ServesText g opens kept words text process.inner process'.inner process.opened.texts process'.opened.texts old new status → Carried words path ⊎ FallsShort status
    served_so words path text named gave (recorded.isnt_copied other is first noted uncopied ends) = inr (ends_short 6 _ (inl refl) ends)
    served_so words path text named gave (is_served noted (over_memory held held' none zeros reads writes calm a)) = absurd (none-some path (sym none ∙ named))
    served_so words path text named gave (is_served noted (sectors_want_memory none ends)) = absurd (none-some path (sym none ∙ named))
    served_so words path text named gave (is_served noted (over_file other file file' is found left_so a)) =
        let same = same_Some other path (sym is ∙ named) in
        by_answer words path text gave file file' (subst (λ (q : List ℕ). FindsMirrored kept process.inner (reads_sectors (command_line_of words)) q file) same found) (subst (λ (q : List ℕ). LeavesMirrored kept process'.inner q file') same left_so) a

    text_so : (words : List (Bor (List ℕ))) (path : List ℕ) → backing_path words ≡ Some path → IsTextServed g opens kept words process.inner process'.inner process.opened.texts process'.opened.texts input input' old new status
        → Carried words path ⊎ FallsShort status
    text_so words path named (over_text text given s) = served_so words path text named (text_of input input' (text_limit (command_line_of words)) text given).0 s
    text_so words path named (recorded.reading_failed reads part gave rose same ends) = inr (ends_short 7 reading_text (inr (inl refl)) ends)
    text_so words path named (recorded.memory_wanted part gave same ends) = inr (ends_short 9 memory_text (inr (inr (inr refl))) ends)

    -- for words with the same texts
    pub carried_so : (told : D → Option (List (List ℕ))) (words : List (Bor (List ℕ))) (path : List ℕ) → process'.words.texts ≡ process.words.texts ++ texts words → backing_path words ≡ Some path
        → IsRecordServed told opens kept process process' input input' old new status → ((words' : List (Bor (List ℕ))) × (texts words' ≡ texts words) × Carried words' path) ⊎ FallsShort status
    carried_so told words path is named (on_words words' tells is' unread s) =
        let same : texts_of words' ≡ texts words = append_cancel_left process.words.texts (texts_of words') (texts words) (sym is' ∙ is) in
        by_text same (text_so words' path (same_path words words' same ∙ named) s)
      where
        by_text : texts words' ≡ texts words → Carried words' path ⊎ FallsShort status → ((words' : List (Bor (List ℕ))) × (texts words' ≡ texts words) × Carried words' path) ⊎ FallsShort status
        by_text same (inl x) = inl (words', same, x)
        by_text same (inr f) = inr f
    carried_so told words path is named (words_want_memory same unread ends) = inr (ends_short 9 memory_text (inr (inr (inr refl))) ends)

    -- one that is whole
    pub whole_so : (told : D → Option (List (List ℕ))) (words : List (Bor (List ℕ))) (path : List ℕ) → process'.words.texts ≡ process.words.texts ++ texts words → backing_path words ≡ Some path → IsWhole status
        → IsRecordServed told opens kept process process' input input' old new status → (words' : List (Bor (List ℕ))) × (texts words' ≡ texts words) × Carried words' path
    whole_so told words path is named whole s = by_case (carried_so told words path is named s)
      where
        by_case : ((words' : List (Bor (List ℕ))) × (texts words' ≡ texts words) × Carried words' path) ⊎ FallsShort status → (words' : List (Bor (List ℕ))) × (texts words' ≡ texts words) × Carried words' path
        by_case (inl x) = x
        by_case (inr f) = absurd (short_isnt_whole status f whole)

    -- ---- where core and sectors suffice

    pub complete_so : (told : D → Option (List (List ℕ))) (core sectors : ℕ) (words : List (Bor (List ℕ))) (w : IsRunCommand core words) → process'.words.texts ≡ process.words.texts ++ texts words → FilesHave process sectors → (text : List ℕ) (p : Prepared)
        → input'.given.bytes ≡ input.given.bytes ++ text → deck_prepared text ≡ Ok p → IsAmpleFor core sectors p → NeitherFailed input input' old new → IsRecordServed told opens kept process process' input input' old new status
        → IsWhole status ⊎ ((status ≡ 6) ⊎ (status ≡ 9))
    complete_so told core sectors words w is have text p gave judged ample calm s =
        let x = described_so kept core sectors process process' input input' old new status told opens words w is have s in
        let causes = has_causes opens kept process process' input input' old new status told words is s in
        let same : x.text ≡ text = append_cancel_left input.given.bytes x.text text (sym x.gave ∙ gave) in
        by_six (λ e. let rose = (causes.reading e).1 in omega (arith, rose, calm.0)) (λ e. let rose = causes.printing e in omega (arith, rose, calm.1))
        x.out (subst (λ (t : List ℕ). IsAnsweredSo None core sectors t status x.out) same x.so) (cases_lt status 6) (cases_lt 6 status)
      where
        by_nine : IsWhole status ⊎ (status ≡ 9) → IsWhole status ⊎ ((status ≡ 6) ⊎ (status ≡ 9))
        by_nine (inl whole) = inl whole
        by_nine (inr nine) = inr (inr nine)

        by_six : (status ≡ 7 → ⊥) → (status ≡ 8 → ⊥) → (out : List ℕ) → IsAnsweredSo None core sectors text status out → (status < 6) ⊎ (6 ≤ status) → (6 < status) ⊎ (status ≤ 6) → IsWhole status ⊎ ((status ≡ 6) ⊎ (status ≡ 9))
        by_six seven eight out so (inl less) other = by_nine (answer_ends text p judged ample (λ e. omega (arith, e, less)) seven eight so)
        by_six seven eight out so (inr high) (inl more) = by_nine (answer_ends text p judged ample (λ e. omega (arith, e, more)) seven eight so)
        by_six seven eight out so (inr high) (inr low) = inr (inl (omega (arith, high, low)))

-- ---- two calls

-- a resumed run that was whole reads its sectors first
reads_first : {S B K : Type 0} {left : S → Option (List ℕ)} {source_faults : S → ℕ} {input input' : S} {d : Device B} {taken : K → Option (List ℕ)} {faults : K → ℕ} {old new : K} {status : ℕ} (words : List (Bor (List ℕ))) → AsksForResume words
    → IsCarriedOut words left source_faults input input' d taken faults old new status → IsWhole status → reads_sectors (command_line_of words) ≡ true
reads_first {left = left} {source_faults = source_faults} {input = input} {input' = input'} {d = d} {taken = taken} {faults = faults} {old = old} {new = new} {status = status} words w r whole =
    let c = the_command words left source_faults input input' d taken faults old new status r whole in
    ap reads_sectors (c.1 ∙ ap Some (halves.resume_words words w c.0 c.1))

module _ {D F R W E G S X : Type 0} {g : Ghosts F} {h : write.Ghosts W} {g' : Ghosts G} {h' : write.Ghosts X} (opens : D → Option (List (List ℕ))) (kept : D → List ℕ → Option (List (List ℕ))) (process process' : RecordedProcess D F g) (input input' : RecordedSource R)
    (old new : RecordedSink W h) (status : ℕ) (opens' : E → Option (List (List ℕ))) (kept' : E → List ℕ → Option (List (List ℕ))) (other other' : RecordedProcess E G g') (other_input other_input' : RecordedSource S) (other_old other_new : RecordedSink X h') (other_status : ℕ)
    (told : D → Option (List (List ℕ))) (told' : E → Option (List (List ℕ))) (served : IsRecordServed told opens kept process process' input input' old new status) (other_served : IsRecordServed told' opens' kept' other other' other_input other_input' other_old other_new other_status) where
  -- ---- in a core that is no smaller

  pub more_so : (core more : ℕ) (words other_words : List (Bor (List ℕ))) (w : IsRunCommand core words) (w' : IsRunCommand more other_words) (text : List ℕ) → core ≤ more → process'.words.texts ≡ process.words.texts ++ texts words → other'.words.texts ≡ other.words.texts ++ texts other_words
      → input'.given.bytes ≡ input.given.bytes ++ text → other_input'.given.bytes ≡ other_input.given.bytes ++ text → NeitherFailed other_input other_input' other_old other_new → IsWhole status → EndsToo status other_status ⊎ (other_status ≡ 6)
  more_so core more words other_words w w' text le is is' gave gave' calm whole =
      let one = whole_so kept process process' input input' old new status opens told words w.path is (run_path core words w) whole served in
      let causes = has_causes opens' kept' other other' other_input other_input' other_old other_new other_status told' other_words is' other_served in
      by_six (λ e. let rose = (causes.reading e).1 in omega (arith, rose, calm.0)) (λ e. let rose = causes.printing e in omega (arith, rose, calm.1)) one.0 one.1 one.2
      (carried_so kept' other other' other_input other_input' other_old other_new other_status opens' told' other_words w'.path is' (run_path more other_words w') other_served) (cases_lt other_status 6) (cases_lt 6 other_status)
    where
      both : (words_a words_b : List (Bor (List ℕ))) → texts words_a ≡ texts words → texts words_b ≡ texts other_words → WasCarried kept words_a w.path process process' input input' old new status
          → WasCarried kept' words_b w'.path other other' other_input other_input' other_old other_new other_status → (other_status ≡ 6 → ⊥) → EndsToo status other_status
      both words_a words_b same same' x y six =
          let a = same_command core words words_a same w in
          let b = same_command more other_words words_b same' w' in
          let d = device_of mirror_told mirror_size mirror_faults x.file x.file_after in
          let e = device_of mirror_told mirror_size mirror_faults y.file y.file_after in
          let text_a : x.call.bytes ≡ text = x.bytes ∙ append_cancel_left input.given.bytes x.text text (sym x.gave ∙ gave) in
          let text_b : y.call.bytes ≡ text = y.bytes ∙ append_cancel_left other_input.given.bytes y.text text (sym y.gave ∙ gave') in
          let asks = run_asks words_a free_told x.call.over.deck x.call.over.deck_after core text a.0 (ap Some (x.call.over.holds ∙ text_a)) in
          let asks' = run_asks words_b free_told y.call.over.deck y.call.over.deck_after more text b.0 (ap Some (y.call.over.holds ∙ text_b)) in
          more_core_but (judgement text) None asks.asks asks'.asks (always_told x.file) (always_told y.file) core more asks.opens asks'.opens le (omega arith) (λ failed e. six e) calm.1 whole x.call.over.due y.call.over.due

      by_case : (other_status ≡ 7 → ⊥) → (other_status ≡ 8 → ⊥) → (words_a : List (Bor (List ℕ))) → texts words_a ≡ texts words → WasCarried kept words_a w.path process process' input input' old new status
          → ((words_b : List (Bor (List ℕ))) × (texts words_b ≡ texts other_words) × WasCarried kept' words_b w'.path other other' other_input other_input' other_old other_new other_status) ⊎ FallsShort other_status → (other_status ≡ 6 → ⊥)
          → EndsToo status other_status
      by_case seven eight words_a same x (inl y) six = both words_a y.0 same y.1 x y.2 six
      by_case seven eight words_a same x (inr (inl e)) six = absurd (six e)
      by_case seven eight words_a same x (inr (inr (inl e))) six = absurd (seven e)
      by_case seven eight words_a same x (inr (inr (inr (inl e)))) six = absurd (eight e)
      by_case seven eight words_a same x (inr (inr (inr (inr e)))) six = memory_wanted e

      by_six : (other_status ≡ 7 → ⊥) → (other_status ≡ 8 → ⊥) → (words_a : List (Bor (List ℕ))) → texts words_a ≡ texts words → WasCarried kept words_a w.path process process' input input' old new status
          → ((words_b : List (Bor (List ℕ))) × (texts words_b ≡ texts other_words) × WasCarried kept' words_b w'.path other other' other_input other_input' other_old other_new other_status) ⊎ FallsShort other_status
          → (other_status < 6) ⊎ (6 ≤ other_status) → (6 < other_status) ⊎ (other_status ≤ 6) → EndsToo status other_status ⊎ (other_status ≡ 6)
      by_six seven eight words_a same x y (inl less) any = inl (by_case seven eight words_a same x y (λ e. omega (arith, e, less)))
      by_six seven eight words_a same x y (inr high) (inl more) = inl (by_case seven eight words_a same x y (λ e. omega (arith, e, more)))
      by_six seven eight words_a same x y (inr high) (inr low) = inr (omega (arith, high, low))
