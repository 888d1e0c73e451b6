-- A deck that is admitted is admitted with printed cards in the place of one job's body.
use Rattle.std.proofs.Common.{◌≡◌, ◌≤◌, ℕ, List, [], ◌∷◌, ◌++◌, length, refl, sym, ap, subst, ◌∙◌, Result, Ok, Err, Option, Some, None, codes, arith}
use Rattle.std.specs.Prelude.{⊤}
use Rattle.std.specs.List.{AllByRecursion, AllZip}
use Rattle.std.specs.Str.Lines.{lines}
use Rattle.b67_model.specs.Common.{Program}
use Rattle.b67_model_text.specs.declared.card.Card.{Card}
use Rattle.b67_model_text.specs.declared.deck.Deck.{Deck}
use Rattle.b67_model_text.specs.declared.deck.Job.{Job}
use Rattle.b67_model_text.specs.declared.deck.Body.{Body}
use Rattle.b67_model_text.specs.declared.deck.Body.TheVariants.{Cards, Bytes}
use Rattle.b67_model_text.specs.Command.{Command, Hex}
use Rattle.b67_model_text.specs.Deck.{limit, deck_of}
use Rattle.b67_model_text.specs.Asm.{assembled}
use Rattle.b67_codefile.specs.Reading.{file_of}
use Rattle.b67_job.specs.Admitting.{Admission, ◌>>=◌, Prepared, of_deck, of_cards, program_in, programs, first_broken_rule, by_rules, admitted, prepared, with_programs, deck_prepared}
use Rattle.b67_job.specs.Verdicts.{job_lines, check_verdict, hex_lines}
use Rattle.b67_promises.proofs.Renumbered.{texts_of, same_program}
use Rattle.b67_promises.proofs.Bodies.{Relation, JobsAlike, DecksAlike, IsBegin}
use Rattle.b67_promises.proofs.TurnCards.{cards_at}
use Rattle.b67_promises.proofs.TurnCalls.{after, parts}
use Rattle.b67_promises.proofs.BodyCards.{IsNoCommand, IsHead, HasBody, BodiesOf, bodies_replaced}
use Rattle.b67_promises.proofs.ReadAgain.{IsHexCard, read_with}
use Rattle.b67_promises.proofs.HexBack.{IsByte, cards_are_hex}
use Rattle.b67_promises.proofs.SourceDecks.{same_ok, of_cards_ok, file_again, printed_texts, printed_plain}
use Rattle.b67_promises.proofs.OpensInOrder.{rules_kept}

-- ---- a body that holds an admitted program, too

abbrev pub Likeness : Type 1
Likeness = Program → Program → Type 0

-- the body holds one, and it is like this one
pub record HoldsAdmitted (Like : Likeness) (p : Program) (number : ℕ) (body : Body) : Type 0 where
  pub program : Program
  pub holds : program_in number body ≡ Ok program
  pub admitted : first_broken_rule program ≡ None
  pub like : Like p program

abbrev pub IsLikeItself : Likeness → Type 0
IsLikeItself Like = (p : Program) → Like p p

abbrev pub AdmittedToo : (Like : Likeness) → IsLikeItself Like → Relation
AdmittedToo Like itself = record {
  alike = λ a b. (n m : ℕ) (p : Program) → program_in n a ≡ Ok p → first_broken_rule p ≡ None → HoldsAdmitted Like p m b;
  cards = λ cs ds e n m p is none. record { program = p; holds = ap of_cards (same_program cs ds p e (of_cards_ok (assembled cs) p is)); admitted = none; like = itself p };
  bytes = λ bs n m p is none. record { program = p; holds = file_again n m (file_of bs) p is; admitted = none; like = itself p };
}

module _ (Like : Likeness) (itself : IsLikeItself Like) where
  -- ---- the programs of such jobs

  record Admits (ks : List Job) (ps : List Program) : Type 0 where
    programs_are : List Program
    holds : programs ks ≡ Ok programs_are
    rules : admitted ks programs_are ≡ Ok tt
    like : AllZip Like ps programs_are

  admits : (js ks : List Job) (ps : List Program) (u : ⊤) → AllZip (JobsAlike (AdmittedToo Like itself)) js ks → programs js ≡ Ok ps → admitted js ps ≡ Ok u → Admits ks ps
  admits [] [] ps u h e r = subst (Admits []) (same_ok [] ps e) (record { programs_are = []; holds = refl; rules = refl; like = tt })
  admits [] (k ∷ ks) ps u h e r = absurd h
  admits (j ∷ js) [] ps u h e r = absurd h
  admits (j ∷ js) (k ∷ ks) ps u h e r =
      let a = after (program_in j.body_card j.program) (λ p. programs js >>= λ rest. Ok (p ∷ rest)) ps e in
      let b = after (programs js) (λ rest. Ok (a.0 ∷ rest)) ps a.2 in
      let are : a.0 ∷ b.0 ≡ ps = same_ok (a.0 ∷ b.0) ps b.2 in
      let one = after (by_rules j.card (first_broken_rule a.0)) (λ (v : ⊤). admitted js b.0) u (ap (admitted (j ∷ js)) are ∙ r) in
      let x = h.0.program j.body_card k.body_card a.0 a.1 (rules_kept j.card (first_broken_rule a.0) one.0 one.1) in
      let rest = admits js ks b.0 u h.1 b.1 one.2 in
      subst (Admits (k ∷ ks)) are (record {
        programs_are = x.program ∷ rest.programs_are;
        holds = ap (λ (r : Admission Program). r >>= λ p. programs ks >>= λ qs. Ok (p ∷ qs)) x.holds ∙ ap (λ (r : Admission (List Program)). r >>= λ qs. Ok (x.program ∷ qs)) rest.holds;
        rules = ap (λ o. by_rules k.card o >>= λ (v : ⊤). admitted ks rest.programs_are) x.admitted ∙ rest.rules;
        like = (x.like, rest.like);
      })

  -- ---- the decks

  -- the other text is prepared, and its deck has such jobs
  pub record PreparedToo (p : Prepared) (other : List ℕ) : Type 0 where
    pub q : Prepared
    pub is : deck_prepared other ≡ Ok q
    pub jobs_alike : AllZip (JobsAlike (AdmittedToo Like itself)) p.0.jobs q.0.jobs
    pub like : AllZip Like p.1 q.1

  prepared_too : (bytes other : List ℕ) (p : Prepared) (d : Deck) → deck_prepared bytes ≡ Ok p → deck_of other ≡ Ok d → AllZip (JobsAlike (AdmittedToo Like itself)) p.0.jobs d.jobs → PreparedToo p other
  unfolding deck_prepared
  prepared_too bytes other p d is read alike =
      let both = parts bytes p is in
      let a = after (programs p.0.jobs) (λ qs. admitted p.0.jobs qs >>= λ (v : ⊤). Ok qs) p.1 both.1 in
      let b = after (admitted p.0.jobs a.0) (λ (v : ⊤). Ok a.0) p.1 a.2 in
      let same : a.0 ≡ p.1 = same_ok a.0 p.1 b.2 in
      let x = admits p.0.jobs d.jobs a.0 b.0 alike a.1 b.1 in
      record {
        q = (d, x.programs_are);
        is = ap (λ r. of_deck r >>= with_programs) read
            ∙ ap (λ (r : Admission (List Program)). (r >>= λ ps. admitted d.jobs ps >>= λ (v : ⊤). Ok ps) >>= λ ps. Ok (d, ps)) x.holds
            ∙ ap (λ (r : Admission ⊤). (r >>= λ (v : ⊤). Ok x.programs_are) >>= λ ps. Ok (d, ps)) x.rules;
        jobs_alike = alike;
        like = subst (λ (ps : List Program). AllZip Like ps x.programs_are) same x.like;
      }

  -- printed cards of bytes stand in the place of a body
  pub admitted_with : (bytes other : List ℕ) (front : List (List ℕ)) (head : List ℕ) (own : List (List ℕ)) (held : List ℕ) (next : List ℕ) (rest : List (List ℕ)) (command : Command) (p : Prepared)
      → HasBody bytes front head own next rest → lines other ≡ front ++ (codes "?HEX" ∷ (lines (hex_lines held) ++ next ∷ rest)) → AllByRecursion IsByte held → IsHead head command → IsBegin command
      → BodiesOf (AdmittedToo Like itself) command Hex own (lines (hex_lines held)) → length other ≤ limit → deck_prepared bytes ≡ Ok p → PreparedToo p other
  admitted_with bytes other front head own held next rest command p h other_is small is begins bodies fits e =
      let both = parts bytes p e in
      let h' : HasBody other front (codes "?HEX") (lines (hex_lines held)) next rest = record { is = other_is; plain = printed_plain held small; ends = h.ends } in
      let digits : (n : ℕ) → AllByRecursion IsHexCard (texts_of (cards_at n (lines (hex_lines held)))) = λ n. subst (AllByRecursion IsHexCard) (sym (printed_texts held small n)) (cards_are_hex held small) in
      let read = read_with bytes other front head own (lines (hex_lines held)) next rest command p.0 h h' is begins digits fits both.0 in
      let alike = bodies_replaced (AdmittedToo Like itself) bytes other front head (codes "?HEX") own (lines (hex_lines held)) next rest command Hex p.0 read.0 h h' is (refl, refl, refl) begins tt bodies both.0 read.1 in
      prepared_too bytes other p read.0 e read.1 alike.jobs_alike

-- ---- what `check` prints

pub checks : (text : List ℕ) (p : Prepared) → deck_prepared text ≡ Ok p → check_verdict text ≡ Ok (job_lines p.0.jobs p.1)
unfolding check_verdict
checks text p e = ap (λ (r : Admission Prepared). r >>= λ prepared. Ok (job_lines prepared.0.jobs prepared.1)) e

pub checked : (text output : List ℕ) → check_verdict text ≡ Ok output → (p : Prepared) × (deck_prepared text ≡ Ok p) × (output ≡ job_lines p.0.jobs p.1)
unfolding check_verdict
checked text output e = grind arith

-- the same programs
abbrev pub IsSame : Likeness
IsSame p q = q ≡ p

module _ (R : Relation) where
  pub same_job_lines : (js ks : List Job) (ps qs : List Program) → AllZip (JobsAlike R) js ks → AllZip IsSame ps qs → job_lines ks qs ≡ job_lines js ps
  same_job_lines [] [] ps qs h k = refl
  same_job_lines [] (x ∷ ks) ps qs h k = absurd h
  same_job_lines (j ∷ js) [] ps qs h k = absurd h
  same_job_lines (j ∷ js) (x ∷ ks) [] [] h k = refl
  same_job_lines (j ∷ js) (x ∷ ks) [] (q ∷ qs) h k = absurd k
  same_job_lines (j ∷ js) (x ∷ ks) (p ∷ ps) [] h k = absurd k
  same_job_lines (j ∷ js) (x ∷ ks) (p ∷ ps) (q ∷ qs) h k = grind (arith, same_job_lines js ks ps qs h.1 k.1)
