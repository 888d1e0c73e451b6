-- A deck with a source, and one with what a command printed of it, open one session.
use Rattle.std.proofs.Common.{◌≡◌, ◌<◌, ℕ, List, [], ◌∷◌, refl, sym, ap, subst, ◌∙◌, Result, Ok, codes, arith}
use Rattle.std.specs.Prelude.{⊤}
use Rattle.std.specs.List.{AllByRecursion, AllZip, flat_map}
use Rattle.std.specs.Str.Lines.{lines}
use Rattle.b67_model.specs.Common.{Program}
use Rattle.b67_model_text.specs.declared.card.Card.{Card}
use Rattle.b67_model_text.specs.declared.deck.Deck.{Deck}
use Rattle.b67_model_text.specs.declared.deck.Job.{Job}
use Rattle.b67_model_text.specs.declared.deck.Body.TheVariants.{Cards, Bytes}
use Rattle.b67_model_text.specs.Answers as answers
use Rattle.b67_model_text.specs.Cards.{cards}
use Rattle.b67_model_text.specs.Command.{Asm, Hex}
use Rattle.b67_model_text.specs.Hex.{digit_bytes, hex_cards}
use Rattle.b67_model_text.specs.Deck as deck
use Rattle.b67_model_text.specs.Deck.{Said, deck_of, body, bytes_in, plain_cards}
use Rattle.b67_model_text.specs.Asm.{assembled, version_of}
use Rattle.b67_codefile.specs.declared.fault.BadFile.{BadFile}
use Rattle.b67_codefile.specs.declared.file.Codefile.{Codefile}
use Rattle.b67_codefile.specs.Spelling.{spelling}
use Rattle.b67_codefile.specs.Reading.{file_of}
use Rattle.b67_job.specs.Admitting.{◌>>=◌, Prepared, of_deck, of_cards, codefile_in, of_file, program_in, programs, prepared, deck_prepared}
use Rattle.b67_job.specs.Verdicts.{codefile_of, hex_lines, asm_of, asm_verdict, convert_verdict}
use Rattle.b67_session.specs.Decks.{openings_of, session_of}
use Rattle.b67_promises.proofs.Renumbered.{texts_of, one_program}
use Rattle.b67_promises.proofs.HexBack.{cards_are_lines, cards_are_bytes, cards_no_commands, all_digits_bytes, byte_at, texts_on_lines}
use Rattle.b67_promises.proofs.Within.{assembled_within, spelled_bytes}
use Rattle.b67_promises.specs.Cards.{HoldPrinted}
use Rattle.b67_promises.proofs.TurnCards.{cards_at}
use Rattle.b67_promises.proofs.TurnCalls.{after, of_deck_ok, parts}
use Rattle.b67_promises.proofs.Held.{codefiles_hold_programs}
use Rattle.b67_promises.proofs.Converted.{converting_keeps_programs}
use Rattle.b67_promises.proofs.Bodies.{Relation, JobsAlike, DecksAlike, bytes_by_text}
use Rattle.b67_promises.proofs.BodyCards.{IsNoCommand, BodiesOf, bodies_replaced}
use Rattle.b67_promises.proofs.PlainCards.{assembled_plain, hexadecimal_plain}

-- ---- answers

pub same_ok : {A R : Type 0} (a b : A) → ◌≡◌ {A = Result A R} (Ok a) (Ok b) → a ≡ b
same_ok a b e = cc

pub of_cards_ok : {A : Type 0} (r : Result A deck.Refusal) (a : A) → of_cards r ≡ Ok a → r ≡ Ok a
of_cards_ok r a e = grind arith

pub codefile_ok : (card : ℕ) (r : Result Codefile BadFile) (f : Codefile) → codefile_in card r ≡ Ok f → r ≡ Ok f
codefile_ok card r f e = grind arith

-- ---- the programs of two bodies are one

pub file_again : (n m : ℕ) (r : Result Codefile BadFile) (x : Program) → of_file n r ≡ Ok x → of_file m r ≡ Ok x
file_again n m r x e = grind arith

pub one_file : (n m : ℕ) (r : Result Codefile BadFile) (x y : Program) → of_file n r ≡ Ok x → of_file m r ≡ Ok y → x ≡ y
one_file n m r x y e k = same_ok x y (sym (file_again n m r x e) ∙ k)

abbrev pub OneProgram : Relation
OneProgram = record {
  alike = λ a b. (n m : ℕ) (x y : Program) → program_in n a ≡ Ok x → program_in m b ≡ Ok y → x ≡ y;
  cards = λ cs ds e n m x y one other. one_program cs ds x y e (of_cards_ok (assembled cs) x one) (of_cards_ok (assembled ds) y other);
  bytes = λ bs n m x y one other. one_file n m (file_of bs) x y one other;
}

-- ---- the sessions of decks whose programs are one

one_by_one : (js ks : List Job) (ps qs : List Program) → AllZip (JobsAlike OneProgram) js ks → programs js ≡ Ok ps → programs ks ≡ Ok qs → ps ≡ qs
one_by_one [] [] ps qs h e f = same_ok ps qs (sym e ∙ f)
one_by_one [] (k ∷ ks) ps qs h e f = absurd h
one_by_one (j ∷ js) [] ps qs h e f = absurd h
one_by_one (j ∷ js) (k ∷ ks) ps qs h e f =
    let a = after (program_in j.body_card j.program) (λ p. programs js >>= λ rest. Ok (p ∷ rest)) ps e in
    let b = after (programs js) (λ rest. Ok (a.0 ∷ rest)) ps a.2 in
    let c = after (program_in k.body_card k.program) (λ p. programs ks >>= λ rest. Ok (p ∷ rest)) qs f in
    let d = after (programs ks) (λ rest. Ok (c.0 ∷ rest)) qs c.2 in
    let first : a.0 ≡ c.0 = h.0.program j.body_card k.body_card a.0 c.0 a.1 c.1 in
    let rest : b.0 ≡ d.0 = one_by_one js ks b.0 d.0 h.1 b.1 d.1 in
    sym (same_ok (a.0 ∷ b.0) ps b.2) ∙ ap (λ (p : Program). p ∷ b.0) first ∙ ap (λ (more : List Program). c.0 ∷ more) rest ∙ same_ok (c.0 ∷ d.0) qs d.2

one_openings : (js ks : List Job) (ps : List Program) → AllZip (JobsAlike OneProgram) js ks → openings_of ks ps ≡ openings_of js ps
one_openings [] [] ps h = refl
one_openings [] (k ∷ ks) ps h = absurd h
one_openings (j ∷ js) [] ps h = absurd h
one_openings (j ∷ js) (k ∷ ks) [] h = refl
one_openings (j ∷ js) (k ∷ ks) (p ∷ ps) h = grind (arith, one_openings js ks ps h.1)

pub programs_ok : (js : List Job) (ps : List Program) → prepared js ≡ Ok ps → programs js ≡ Ok ps
programs_ok js ps e = grind arith

one_session : (d e : Deck) (ps qs : List Program) → DecksAlike OneProgram d e → qs ≡ ps → session_of e qs ≡ session_of d ps
one_session d e ps qs h same = grind (arith, one_openings)

-- two texts that are prepared
pub record OneRun (p q : Prepared) : Type 0 where
  pub session : session_of q.0 q.1 ≡ session_of p.0 p.1
  pub halt : q.0.halt ≡ p.0.halt

one_run : (p q : Prepared) → prepared p.0.jobs ≡ Ok p.1 → prepared q.0.jobs ≡ Ok q.1 → DecksAlike OneProgram p.0 q.0 → OneRun p q
one_run p q e f h = grind (arith, one_session, one_by_one)

-- ---- the cards that are printed of bytes

pub printed_texts : (bytes : List ℕ) → AllByRecursion (λ (b : ℕ). b < 256) bytes → (n : ℕ) → texts_of (cards_at n (lines (hex_lines bytes))) ≡ hex_cards bytes
printed_texts bytes small n = texts_on_lines n (hex_cards bytes) (cards_are_lines bytes small)

pub printed_plain : (bytes : List ℕ) → AllByRecursion (λ (b : ℕ). b < 256) bytes → (n : ℕ) → AllByRecursion IsNoCommand (texts_of (cards_at n (lines (hex_lines bytes))))
printed_plain bytes small n = subst (λ (ts : List (List ℕ)). AllByRecursion IsNoCommand ts) (sym (printed_texts bytes small n)) (cards_no_commands bytes)

pub printed_bytes : (bytes : List ℕ) → AllByRecursion (λ (b : ℕ). b < 256) bytes → (ys : List Said) → texts_of (body ys) ≡ texts_of (cards_at 1 (lines (hex_lines bytes))) → bytes_in (body ys) ≡ bytes
printed_bytes bytes small ys e = bytes_by_text (body ys) ∙ ap (flat_map digit_bytes) (e ∙ printed_texts bytes small 1) ∙ cards_are_bytes bytes small

-- ---- asm

pub record Assembles (source printed : List ℕ) : Type 0 where
  pub p : Program
  pub assembles : assembled (cards source) ≡ Ok p
  pub is : printed ≡ hex_lines (spelling (codefile_of (version_of (cards source)) p))

cards_are : (source : List ℕ) (cs : List Card) → plain_cards source ≡ Ok cs → cs ≡ cards source
cards_are source cs e = grind arith

pub assembles : (source printed : List ℕ) → asm_verdict source ≡ Ok printed → Assembles source printed
unfolding asm_verdict
assembles source printed e =
    let a = after (of_deck (plain_cards source)) asm_of printed e in
    let same : a.0 ≡ cards source = cards_are source a.0 (of_deck_ok (plain_cards source) a.0 a.1) in
    let f : asm_of (cards source) ≡ Ok printed = ap asm_of (sym same) ∙ a.2 in
    let b = after (of_cards (assembled (cards source))) (λ p. Ok (hex_lines (spelling (codefile_of (version_of (cards source)) p)))) printed f in
    record { p = b.0; assembles = of_cards_ok (assembled (cards source)) b.0 b.1; is = sym (same_ok (hex_lines (spelling (codefile_of (version_of (cards source)) b.0))) printed b.2) }

-- a body of these cards, and one of those that are printed
abbrev pub TwoBodies : (source printed : List ℕ) (xs ys : List Said) → Type 0
TwoBodies source printed xs ys = (texts_of (body xs) ≡ texts_of (cards_at 1 (lines source))) × (texts_of (body ys) ≡ texts_of (cards_at 1 (lines printed)))

-- hold one program
pub asm_holds : (source printed : List ℕ) → Assembles source printed → (xs ys : List Said) → TwoBodies source printed xs ys → (n m : ℕ) (x : Program) → program_in n (Cards (body xs)) ≡ Ok x → program_in m (Bytes (bytes_in (body ys))) ≡ Ok x
asm_holds source printed h xs ys both n m x one =
    let file : Codefile = codefile_of (version_of (cards source)) h.p in
    let bytes = spelling file in
    let here : x ≡ h.p = one_program (body xs) (cards source) x h.p both.0 (of_cards_ok (assembled (body xs)) x one) h.assembles in
    let given : bytes_in (body ys) ≡ bytes = printed_bytes bytes (spelled_bytes file) ys (both.1 ∙ ap (λ (t : List ℕ). texts_of (cards_at 1 (lines t))) h.is) in
    let there : program_in m (Bytes (bytes_in (body ys))) ≡ Ok h.p = ap (λ (bs : List ℕ). program_in m (Bytes bs)) given ∙ codefiles_hold_programs (version_of (cards source)) m h.p (assembled_within (cards source) h.p h.assembles) in
    there ∙ ap Ok (sym here)

asm_bodies : (source printed : List ℕ) → Assembles source printed → BodiesOf OneProgram Asm Hex (lines source) (lines printed)
asm_bodies source printed h xs ys e f n m x y one other = same_ok x y (sym (asm_holds source printed h xs ys (e, f) n m x one) ∙ other)

-- ---- convert

pub record Converts (source printed : List ℕ) : Type 0 where
  pub file : Codefile
  pub plain : (n : ℕ) → AllByRecursion IsNoCommand (texts_of (cards_at n (lines source)))
  pub holds : file_of (bytes_in (cards source)) ≡ Ok file
  pub is : printed ≡ hex_lines (spelling (record file { version = 2 }))

pub converts : (source printed : List ℕ) → convert_verdict source ≡ Ok printed → Converts source printed
unfolding convert_verdict
converts source printed e = grind (arith, hexadecimal_plain)

pub convert_holds : (source printed : List ℕ) → Converts source printed → (xs ys : List Said) → TwoBodies source printed xs ys → (n m : ℕ) (x : Program) → program_in n (Bytes (bytes_in (body xs))) ≡ Ok x → program_in m (Bytes (bytes_in (body ys))) ≡ Ok x
convert_holds source printed h xs ys both n m x one =
    let second : Codefile = record h.file { version = 2 } in
    let bytes = spelling second in
    let old = bytes_in (cards source) in
    let same : bytes_in (body xs) ≡ old = bytes_by_text (body xs) ∙ ap (flat_map digit_bytes) both.0 ∙ sym (bytes_by_text (cards source)) in
    let given : bytes_in (body ys) ≡ bytes = printed_bytes bytes (spelled_bytes second) ys (both.1 ∙ ap (λ (t : List ℕ). texts_of (cards_at 1 (lines t))) h.is) in
    grind (arith, bytes_by_text, byte_at, all_digits_bytes, converting_keeps_programs)

convert_bodies : (source printed : List ℕ) → Converts source printed → BodiesOf OneProgram Hex Hex (lines source) (lines printed)
convert_bodies source printed h xs ys e f n m x y one other = same_ok x y (sym (convert_holds source printed h xs ys (e, f) n m x one) ∙ other)

-- ---- the decks of such texts

module _ (bytes other source printed : List ℕ) (p q : Prepared) (one : deck_prepared bytes ≡ Ok p) (two : deck_prepared other ≡ Ok q) where
  pub asm_keeps : HoldPrinted (codes "?ASM") bytes other source printed → asm_verdict source ≡ Ok printed → OneRun p q
  asm_keeps h made =
      let a = assembles source printed made in
      let file : Codefile = codefile_of (version_of (cards source)) a.p in
      let d = parts bytes p one in
      let e = parts other q two in
      let plain' : (n : ℕ) → AllByRecursion IsNoCommand (texts_of (cards_at n (lines printed))) = λ n. subst (λ (t : List ℕ). AllByRecursion IsNoCommand (texts_of (cards_at n (lines t)))) (sym a.is) (printed_plain (spelling file) (spelled_bytes file) n) in
      one_run p q d.1 e.1 (bodies_replaced OneProgram bytes other h.front (codes "?ASM") (codes "?HEX") (lines source) (lines printed) h.next h.rest Asm Hex p.0 q.0
      (record { is = h.is; plain = assembled_plain source a.p a.assembles; ends = h.ends }) (record { is = h.other_is; plain = plain'; ends = h.ends })
      (refl, refl, refl) (refl, refl, refl) tt tt (asm_bodies source printed a) d.0 e.0)

  pub convert_keeps : HoldPrinted (codes "?HEX") bytes other source printed → convert_verdict source ≡ Ok printed → OneRun p q
  convert_keeps h made =
      let a = converts source printed made in
      let file : Codefile = record a.file { version = 2 } in
      let d = parts bytes p one in
      let e = parts other q two in
      let plain' : (n : ℕ) → AllByRecursion IsNoCommand (texts_of (cards_at n (lines printed))) = λ n. subst (λ (t : List ℕ). AllByRecursion IsNoCommand (texts_of (cards_at n (lines t)))) (sym a.is) (printed_plain (spelling file) (spelled_bytes file) n) in
      one_run p q d.1 e.1 (bodies_replaced OneProgram bytes other h.front (codes "?HEX") (codes "?HEX") (lines source) (lines printed) h.next h.rest Hex Hex p.0 q.0
      (record { is = h.is; plain = a.plain; ends = h.ends }) (record { is = h.other_is; plain = plain'; ends = h.ends })
      (refl, refl, refl) (refl, refl, refl) tt tt (convert_bodies source printed a) d.0 e.0)
