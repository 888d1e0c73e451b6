-- Calls of `check` on a deck, and on the same deck with printed cards in the place of one job's body.
use Rattle.std.proofs.Common.{◌≡◌, ◌≤◌, ◌<◌, ◌+◌, ◌⊎◌, inl, inr, ℕ, List, [], ◌∷◌, ◌++◌, length, Option, Some, None, refl, sym, ap, subst, ◌∙◌, arith, codes, Ok}
use Rattle.std.specs.List.{AllByRecursion}
use Rattle.std.specs.Str.Lines.{lines}
use Rattle.std.proofs.lemmas.List.{length-append}
use Rattle.std.proofs.lemmas.Option.{none-some}
use denote.Ref.{Bor}
use Rattle.b67_io.specs.Told.{Took}
use Rattle.b67_io.specs.Causes.{Rose, Stayed}
use Rattle.b67_model.specs.Common.{Program}
use Rattle.b67_model_text.specs.declared.card.Card.{Card}
use Rattle.b67_model_text.specs.Cards.{cards}
use Rattle.b67_model_text.specs.Command.{Command, Asm, Hex}
use Rattle.b67_model_text.specs.Deck.{limit}
use Rattle.b67_codefile.specs.Spelling.{spelling}
use Rattle.b67_codefile.specs.Meaning.{program_of}
use Rattle.b67_model_text.specs.Asm.{version_of}
use Rattle.b67_model_text.specs.Deck as deck_text
use Rattle.b67_model_text.specs.Deck.{Said, body, bytes_in, program_at}
use Rattle.b67_model_text.specs.declared.deck.Body.TheVariants.{Cards, Bytes}
use Rattle.b67_task.specs.declared.tables.Machine.{Machine}
use Rattle.b67_job.specs.declared.refusal.Refusal.{Refusal}
use Rattle.b67_job.specs.Admitting.{Prepared, program_in, first_broken_rule, deck_prepared}
use Rattle.b67_job.specs.Verdicts.{Verdict, job_lines, codefile_of, hex_lines, asm_verdict, convert_verdict, bind_verdict, check_verdict}
use Rattle.b67_job.specs.declared.command.CommandLine.TheVariants as commands
use Rattle.b67_job.specs.Command.{command_line_of}
use Rattle.b67_job.specs.Device.{Device}
use Rattle.b67_job.specs.Judgement.{Judgement, Refused, Prints, printed, asked}
use Rattle.b67_job.specs.Due.{WasGiven, Answered}
use Rattle.b67_promises.specs.Cards.{AsksForCheck, BeginsCommand, HoldPrinted, HoldsInstead, IsTakenText, accepted, memory_wanted, IsAcceptedAlike, accepted_alike, memory_wanted_alike}
use Rattle.b67_promises.proofs.Renumbered.{texts_of}
use Rattle.b67_promises.proofs.Bodies.{IsBegin}
use Rattle.b67_promises.proofs.TurnCards.{cards_at}
use Rattle.b67_promises.proofs.BodyCards.{IsNoCommand, IsHead, HasBody, BodiesOf}
use Rattle.b67_promises.proofs.PlainCards.{assembled_plain, uncommanded}
use Rattle.b67_promises.proofs.HexBack.{IsByte}
use Rattle.b67_promises.proofs.Within.{spelled_bytes}
use Rattle.b67_promises.proofs.SourceDecks.{TwoBodies, printed_bytes, Assembles, assembles, asm_holds, Converts, converts, convert_holds}
use Rattle.b67_promises.proofs.AdmittedAgain.{Likeness, IsLikeItself, AdmittedToo, PreparedToo, admitted_with, IsSame, checks, checked, same_job_lines}
use Rattle.b67_promises.proofs.BoundCards.{Binds, binds, good_holds, good_rules}
use Rattle.b67_promises.proofs.Made.{CallComes, prints, refuses, reading_fails, printing_fails, memory_is_wanted, check_comes, verdict_is}

-- ---- the second deck is accepted, if the first one is

module _ (bytes other : List ℕ) (p : Prepared) (one : deck_prepared bytes ≡ Ok p) (fits : length other ≤ limit) where
  -- of likeness by which both decks print the same
  alike_is : PreparedToo IsSame (λ q. refl) p other → check_verdict other ≡ Ok (job_lines p.0.jobs p.1)
  alike_is t = checks other t.q t.is ∙ ap Ok (same_job_lines (AdmittedToo IsSame (λ q. refl)) p.0.jobs t.q.0.jobs p.1 t.q.1 t.jobs_alike t.like)

  asm_accepted : (source made : List ℕ) → HoldPrinted (codes "?ASM") bytes other source made → asm_verdict source ≡ Ok made → check_verdict other ≡ Ok (job_lines p.0.jobs p.1)
  asm_accepted source made h e =
      let a = assembles source made e in
      let held = spelling (codefile_of (version_of (cards source)) a.p) in
      let own = lines source in
      let bodies : BodiesOf (AdmittedToo IsSame (λ q. refl)) Asm Hex own (lines (hex_lines held)) = λ xs ys f g n m q is none.
      record { program = q; holds = asm_holds source made a xs ys (f, g ∙ ap (λ (t : List ℕ). texts_of (cards_at 1 (lines t))) (sym a.is)) n m q is; admitted = none; like = refl }
      in
      alike_is (admitted_with IsSame (λ q. refl) bytes other h.front (codes "?ASM") own held h.next h.rest Asm p
      (record { is = h.is; plain = assembled_plain source a.p a.assembles; ends = h.ends })
      (h.other_is ∙ ap (λ (t : List ℕ). h.front ++ (codes "?HEX" ∷ (lines t ++ h.next ∷ h.rest))) a.is)
      (spelled_bytes (codefile_of (version_of (cards source)) a.p)) (refl, refl, refl) tt bodies fits one)

  convert_accepted : (source made : List ℕ) → HoldPrinted (codes "?HEX") bytes other source made → convert_verdict source ≡ Ok made → check_verdict other ≡ Ok (job_lines p.0.jobs p.1)
  convert_accepted source made h e =
      let a = converts source made e in
      let held = spelling (record a.file { version = 2 }) in
      let own = lines source in
      let bodies : BodiesOf (AdmittedToo IsSame (λ q. refl)) Hex Hex own (lines (hex_lines held)) = λ xs ys f g n m q is none.
      record { program = q; holds = convert_holds source made a xs ys (f, g ∙ ap (λ (t : List ℕ). texts_of (cards_at 1 (lines t))) (sym a.is)) n m q is; admitted = none; like = refl }
      in
      alike_is (admitted_with IsSame (λ q. refl) bytes other h.front (codes "?HEX") own held h.next h.rest Hex p
      (record { is = h.is; plain = a.plain; ends = h.ends })
      (h.other_is ∙ ap (λ (t : List ℕ). h.front ++ (codes "?HEX" ∷ (lines t ++ h.next ∷ h.rest))) a.is)
      (spelled_bytes (record a.file { version = 2 })) (refl, refl, refl) tt bodies fits one)

  -- of programs that needn't be alike
  abbrev AnyTwo : Likeness
  AnyTwo q r = Unit {0}

  bound_bodies : (made : List ℕ) (b : Binds made) (command : Command) → IsBegin command → (own : List (List ℕ)) → BodiesOf (AdmittedToo AnyTwo (λ q. tt)) command Hex own (lines (hex_lines (spelling b.file)))
  bound_bodies made b Asm begins own xs ys f g = λ n m q is none.
      let given : bytes_in (body ys) ≡ spelling b.file = printed_bytes (spelling b.file) (spelled_bytes b.file) ys g in
      record { program = program_of b.file; holds = ap (λ (bs : List ℕ). program_in m (Bytes bs)) given ∙ good_holds b.file b.good m; admitted = good_rules b.file b.good; like = tt }
  bound_bodies made b Hex begins own xs ys f g = λ n m q is none.
      let given : bytes_in (body ys) ≡ spelling b.file = printed_bytes (spelling b.file) (spelled_bytes b.file) ys g in
      record { program = program_of b.file; holds = ap (λ (bs : List ℕ). program_in m (Bytes bs)) given ∙ good_holds b.file b.good m; admitted = good_rules b.file b.good; like = tt }
  bound_bodies made b _ begins own xs ys f g = absurd begins

  bound_accepted : (made : List ℕ) → HoldsInstead bytes other made → Binds made → (text : List ℕ) × (check_verdict other ≡ Ok text)
  bound_accepted made h b = by_head h.begins
    where
      by_command : (command : Command) → IsHead h.head command → IsBegin command → (text : List ℕ) × (check_verdict other ≡ Ok text)
      by_command command is begins =
          let t = admitted_with AnyTwo (λ q. tt) bytes other h.front h.head h.body (spelling b.file) h.next h.rest command p
          (record { is = h.is; plain = λ n. uncommanded n h.body h.plain; ends = h.ends })
          (h.other_is ∙ ap (λ (t : List ℕ). h.front ++ (codes "?HEX" ∷ (lines t ++ h.next ∷ h.rest))) b.is)
          (spelled_bytes b.file) is begins (bound_bodies made b command begins h.body) fits one
          in
          (job_lines t.q.0.jobs t.q.1, checks other t.q t.is)

      by_head : (h.head ≡ codes "?ASM") ⊎ (h.head ≡ codes "?HEX") → (text : List ℕ) × (check_verdict other ≡ Ok text)
      by_head (inl e) = by_command Asm (subst (λ (x : List ℕ). IsHead x Asm) (sym e) (refl, refl, refl)) tt
      by_head (inr e) = by_command Hex (subst (λ (x : List ℕ). IsHead x Hex) (sym e) (refl, refl, refl)) tt

-- ---- the second call

module _ {T B L : Type 0} {words : List (Bor (List ℕ))} {left : T → Option (List ℕ)} {source_faults : T → ℕ} {deck deck' : T} {d : Device B} {machine : Option Machine}
    (taken : L → Option (List ℕ)) (faults : L → ℕ) (old new : L) (other : List ℕ) (told : left deck ≡ Some other) (fits : length other ≤ limit) (w : AsksForCheck words)
    (read : Stayed source_faults deck deck') (worked : Stayed faults old new) (answer : ℕ) (call : Answered words left source_faults deck deck' d machine taken faults old new answer) where
  not_both : (v : Verdict) (text : List ℕ) (refusal : Refusal) → v ≡ Ok text → printed v ≡ Refused refusal → ⊥
  not_both v text refusal e f = grind arith

  not_refused : (text : List ℕ) → check_verdict other ≡ Ok text → (bytes : List ℕ) (refusal : Refusal) → WasGiven left deck deck' bytes → printed (check_verdict bytes) ≡ Refused refusal → ⊥
  not_refused text e bytes refusal h f = grind (arith, length-append)

  -- it is accepted, and prints this, or memory was refused
  abbrev Accepts : List ℕ → Type 0
  Accepts text = ((answer ≡ 0) × Took taken old new text) ⊎ (answer ≡ 9)

  accepts : (text : List ℕ) → check_verdict other ≡ Ok text → Accepts text
  accepts text e = by_end (check_comes taken faults old new other told answer call w)
    where
      by_end : CallComes left source_faults deck deck' taken faults old new commands.Check other answer → Accepts text
      by_end (prints output zero is took) =
          let given = verdict_is (check_verdict other) output is in
          let same : text ≡ output = let z : ◌≡◌ {A = Verdict} (Ok text) (Ok output) = sym e ∙ given in cc in
          inl (zero, subst (Took taken old new) (sym same) took)
      by_end (refuses bytes refusal two was is) = absurd (not_refused text e bytes refusal was is)
      by_end (reading_fails seven rose) = absurd (omega (arith, rose, read))
      by_end (printing_fails eight rose) = absurd (omega (arith, rose, worked))
      by_end (memory_is_wanted nine) = inr nine

  is_accepted : (text : List ℕ) → check_verdict other ≡ Ok text → IsTakenText answer
  is_accepted text e = by_case (accepts text e)
    where
      by_case : Accepts text → IsTakenText answer
      by_case (inl a) = accepted a.0
      by_case (inr nine) = memory_wanted nine

  -- beside a first call
  module _ {S D K : Type 0} {words' : List (Bor (List ℕ))} {left' : S → Option (List ℕ)} {source_faults' : S → ℕ} {first first' : S} {d' : Device D} {machine' : Option Machine}
      (taken' : K → Option (List ℕ)) (faults' : K → ℕ) (old' new' : K) (bytes : List ℕ) (told' : left' first ≡ Some bytes) (w' : AsksForCheck words')
      (answer' : ℕ) (zero : answer' ≡ 0) (call' : Answered words' left' source_faults' first first' d' machine' taken' faults' old' new' answer') where
    -- what the first call printed
    first_printed : (output : List ℕ) × (check_verdict bytes ≡ Ok output) × Took taken' old' new' output
    first_printed = by_end (check_comes taken' faults' old' new' bytes told' answer' call' w')
      where
        by_end : CallComes left' source_faults' first first' taken' faults' old' new' commands.Check bytes answer' → (output : List ℕ) × (check_verdict bytes ≡ Ok output) × Took taken' old' new' output
        by_end (prints output none is took) = (output, verdict_is (check_verdict bytes) output is, took)
        by_end (refuses read refusal two was is) = absurd (omega (arith, zero, two))
        by_end (reading_fails seven rose) = absurd (omega (arith, zero, seven))
        by_end (printing_fails eight rose) = absurd (omega (arith, zero, eight))
        by_end (memory_is_wanted nine) = absurd (omega (arith, zero, nine))

    -- both print the same, if the same is accepted
    alike : ((p : Prepared) → deck_prepared bytes ≡ Ok p → check_verdict other ≡ Ok (job_lines p.0.jobs p.1)) → IsAcceptedAlike taken' old' new' taken old new answer
    alike also =
        let f = first_printed in
        let c = checked bytes f.0 f.1 in
        by_case f.0 f.2 (accepts f.0 (also c.0 c.1 ∙ ap Ok (sym c.2)))
      where
        by_case : (text : List ℕ) → Took taken' old' new' text → Accepts text → IsAcceptedAlike taken' old' new' taken old new answer
        by_case text took (inl a) = accepted_alike text a.0 took a.1
        by_case text took (inr nine) = memory_wanted_alike nine

    pub asm_is_accepted : (source made : List ℕ) → HoldPrinted (codes "?ASM") bytes other source made → asm_verdict source ≡ Ok made → IsAcceptedAlike taken' old' new' taken old new answer
    asm_is_accepted source made h e = alike (λ p is. asm_accepted bytes other p is fits source made h e)

    pub convert_is_accepted : (source made : List ℕ) → HoldPrinted (codes "?HEX") bytes other source made → convert_verdict source ≡ Ok made → IsAcceptedAlike taken' old' new' taken old new answer
    convert_is_accepted source made h e = alike (λ p is. convert_accepted bytes other p is fits source made h e)

    pub bound_is_accepted : (made : List ℕ) → HoldsInstead bytes other made → Binds made → IsTakenText answer
    bound_is_accepted made h b =
        let f = first_printed in
        let c = checked bytes f.0 f.1 in
        let a = bound_accepted bytes other c.0 c.1 fits made h b in
        is_accepted a.0 a.1
