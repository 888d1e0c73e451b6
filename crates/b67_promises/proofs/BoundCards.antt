-- What `bind` prints holds an admitted program.
use Rattle.std.proofs.Common.{◌≡◌, ℕ, List, [], ◌∷◌, length, sym, ap, subst, ◌∙◌, Option, None, Ok, Err, arith}
use Rattle.std.specs.Prelude.{⊤}
use Rattle.std.specs.List.{AllByRecursion}
use Rattle.b67_model.specs.Common.{IsAdmitted, first_of}
use Rattle.b67_model_text.specs.declared.deck.Body.{Body}
use Rattle.b67_model_text.specs.declared.deck.Body.TheVariants.{Cards, Bytes}
use Rattle.b67_model_text.specs.declared.deck.Job.{Job}
use Rattle.b67_model_text.specs.Asm.{assembled, version_of}
use Rattle.b67_model_text.specs.Deck.{deck_of}
use Rattle.b67_codefile.specs.declared.file.Codefile.{Codefile}
use Rattle.b67_codefile.specs.Spelling.{spelling, IsWithin}
use Rattle.b67_codefile.specs.Reading.{told, file_of}
use Rattle.b67_codefile.specs.Meaning.{program_of}
use Rattle.b67_codefile.proofs.Forms.{reading_again}
use Rattle.b67_codefile.proofs.Found.{is_found}
use Rattle.b67_bind.specs.declared.pairs.Pair.{Pair}
use Rattle.b67_bind.specs.Reasons.{Binding, PairRefusal, binding, first_refusal}
use Rattle.b67_bind.specs.Bound.{bound}
use Rattle.b67_bind.specs.Laws.{IsGood}
use Rattle.b67_bind.proofs.Admitted.{bound-good}
use Rattle.b67_job.specs.Admitting.{◌>>=◌, of_deck, of_cards, codefile_in, of_file, program_in, first_broken_rule, by_rules}
use Rattle.b67_job.specs.Verdicts.{codefile_of, hex_lines, file_in, two_jobs, by_pairs, bound_text, bind_jobs, bind_deck, bind_verdict}
use Rattle.b67_promises.proofs.HexBack.{byte_at}
use Rattle.b67_promises.proofs.Within.{assembled_within}
use Rattle.b67_promises.proofs.TurnCalls.{after, of_deck_ok}
use Rattle.b67_promises.proofs.SourceDecks.{same_ok, codefile_ok}
use Rattle.b67_promises.proofs.OpensInOrder.{BodyFits, JobFits, deck_fits, cards_ok, is_admitted}

-- ---- the two files

file_within : (card : ℕ) (b : Body) (f : Codefile) → BodyFits b → file_in card b ≡ Ok f → IsWithin f
file_within card (Cards cs) f fits e =
    let a = after (of_cards (assembled cs)) (λ p. Ok (codefile_of (version_of cs) p)) f e in
    subst IsWithin (same_ok (codefile_of (version_of cs) a.0) f a.2) (assembled_within cs a.0 (cards_ok (assembled cs) a.0 a.1))
file_within card (Bytes bytes) f fits e = (is_found bytes (Ok f) (byte_at bytes fits) (codefile_ok card (file_of bytes) f e)).0

both_fit : (js : List Job) (both : Job × Job) → two_jobs js ≡ Ok both → AllByRecursion JobFits js → JobFits both.0 × JobFits both.1
both_fit js both e fits = grind arith

no_pair : (o : Option PairRefusal) (u : ⊤) → by_pairs o ≡ Ok u → o ≡ None
no_pair o u e = grind arith

-- ---- the printed cards are those of a file that is admitted

pub record Binds (printed : List ℕ) : Type 0 where
  pub file : Codefile
  pub good : IsGood file
  pub is : printed ≡ hex_lines (spelling file)

binds_jobs : (pairs : List Pair) (h p : Job) (printed : List ℕ) → JobFits h → JobFits p → bind_jobs pairs h p ≡ Ok printed → Binds printed
binds_jobs pairs h p printed fits fits' e =
    let a = after (file_in h.body_card h.program)
    (λ host. file_in p.body_card p.program >>= λ part. by_rules h.card (first_broken_rule (program_of host)) >>= λ (u : ⊤). by_rules p.card (first_broken_rule (program_of part)) >>= λ (v : ⊤). bound_text (binding host part pairs)) printed e
    in
    let b = after (file_in p.body_card p.program)
    (λ part. by_rules h.card (first_broken_rule (program_of a.0)) >>= λ (u : ⊤). by_rules p.card (first_broken_rule (program_of part)) >>= λ (v : ⊤). bound_text (binding a.0 part pairs)) printed a.2
    in
    let c = after (by_rules h.card (first_broken_rule (program_of a.0))) (λ (u : ⊤). by_rules p.card (first_broken_rule (program_of b.0)) >>= λ (v : ⊤). bound_text (binding a.0 b.0 pairs)) printed b.2 in
    let d = after (by_rules p.card (first_broken_rule (program_of b.0))) (λ (v : ⊤). bound_text (binding a.0 b.0 pairs)) printed c.2 in
    let x : Binding = binding a.0 b.0 pairs in
    let f = after (by_pairs (first_refusal x)) (λ (u : ⊤). Ok (hex_lines (spelling (bound x)))) printed d.2 in
    record {
      file = bound x;
      good = bound-good x (file_within h.body_card h.program a.0 fits a.1, is_admitted h.card (program_of a.0) c.0 c.1) (file_within p.body_card p.program b.0 fits' b.1, is_admitted p.card (program_of b.0) d.0 d.1)
          (no_pair (first_refusal x) f.0 f.1);
      is = sym (same_ok (hex_lines (spelling (bound x))) printed f.2);
    }

pub binds : (pairs : List Pair) (text printed : List ℕ) → bind_verdict pairs text ≡ Ok printed → Binds printed
unfolding bind_verdict
binds pairs text printed e =
    let a = after (of_deck (deck_of text)) (bind_deck pairs) printed e in
    let b = after (two_jobs a.0.jobs) (λ both. bind_jobs pairs both.0 both.1) printed a.2 in
    let fits = both_fit a.0.jobs b.0 b.1 (deck_fits text a.0 (of_deck_ok (deck_of text) a.0 a.1)) in
    binds_jobs pairs b.0.0 b.0.1 printed fits.0 fits.1 b.2

-- ---- its bytes are read as it

pub good_holds : (f : Codefile) → IsGood f → (card : ℕ) → program_in card (Bytes (spelling f)) ≡ Ok (program_of f)
good_holds f good card = ap (λ r. of_file card (told (length (spelling f)) r)) (reading_again f good.0)

pub good_rules : (f : Codefile) → IsGood f → first_broken_rule (program_of f) ≡ None
good_rules f good = ap first_of good.1
