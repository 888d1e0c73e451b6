-- The jobs of cards that are in range, and their numbers.
use Rattle.std.proofs.Common.{◌≡◌, ℕ, ℤ, zero, suc, ◌<◌, ◌≤◌, ◌^◌, Bool, true, false, List, [], ◌∷◌, ◌++◌, length, map, reverse, Option, Some, None, Ok, refl, sym, ap, subst, arith, cond}
use Rattle.std.specs.Prelude.{nat_abs, pos, neg_ℤ, not, unwrap_or, slice_get, ◌==◌}
use Rattle.std.specs.List.{AllByRecursion, filter_map, cons_option}
use Rattle.std.specs.Option.{option_map, option_and_then, option_or, option_to_list}
use Rattle.std.proofs.lemmas.Option.{same_Some, none-some}
use Rattle.b67_model_text.specs.declared.card.Card.{Card}
use Rattle.b67_model_text.specs.declared.deck.Deck.{Deck}
use Rattle.b67_model_text.specs.declared.deck.Job as deck_job
use Rattle.b67_model_text.specs.Cards.{cards, words_in_card, leading, is_name}
use Rattle.b67_model_text.specs.Command.{Command, Stack, Quantum, Switch, Job, Limit, Data, number_in}
use Rattle.b67_model_text.specs.Placing.{stack_in, quantum_in, switch_in, name_in, first_found, operand_in, operands_in, numbers}
use Rattle.b67_model_text.specs.Answers.{◌>>=◌}
use Rattle.b67_model_text.specs.Deck.{Said, command_in, within_limit, sayings, limit_in, body, numbers_in, numbers_at, data_numbers, limit_behind, job_of, is_job, own_cards, jobs, deck, deck_of}
use Rattle.b67_model_text.proofs.Answers.{after_both}
use Rattle.b67_session.specs.Decks.{JobInRange, DeckInRange}
use Rattle.b67_image.specs.Within.{IsSwitch}
use Rattle.b67_job.specs.Ranges.{CardsInRange}
use Rattle.b67_job.proofs.Commands.{NumberWithin, NameWithin, CommandInRange, number_within}
use Rattle.b67_job.proofs.Sayings.{Read, read, in_range_onto, follows_none, rise_onto, switches_of, few_switches, switches_onto, jobs_in, few_jobs, jobs_onto}
use Rattle.b67_model.specs.declared.limits.TheConstants.{LEAST_STACK, MOST_STACK, GREATEST, MOST_QUANTUM, MOST_LIMIT, USUAL_LIMIT}

abbrev InRange : Said → Type 0
InRange s = CommandInRange s.command

abbrev Small : ℤ → Type 0
Small v = nat_abs v < 2 ^ 39

-- numbers on cards are small
negative_small : (n : ℕ) → n ≤ GREATEST → Small (neg_ℤ (pos n))
negative_small zero h = omega arith
negative_small (suc n) h = omega arith

operand_small : (text : List ℕ) (v : ℤ) → operand_in text ≡ Some v → Small v
operand_small [] v e = absurd (none-some v e)
operand_small (b ∷ more) v e = by_test (b == 45) e
  where
    low : (o : Option ℕ) → ((n : ℕ) → o ≡ Some n → n ≤ GREATEST) → option_map (λ (n : ℕ). neg_ℤ (pos n)) o ≡ Some v → Small v
    low None h e = absurd (none-some v e)
    low (Some n) h e = subst Small (same_Some (neg_ℤ (pos n)) v e) (negative_small n (h n refl))

    high : (o : Option ℕ) → ((n : ℕ) → o ≡ Some n → n ≤ GREATEST) → option_map pos o ≡ Some v → Small v
    high None h e = absurd (none-some v e)
    high (Some n) h e = subst Small (same_Some (pos n) v e) (omega (arith, h n refl))

    by_test : (t : Bool) → cond t (option_map (λ (n : ℕ). neg_ℤ (pos n)) (number_in 1 GREATEST more)) (option_map pos (number_in 0 GREATEST (b ∷ more))) ≡ Some v → Small v
    by_test true e = low (number_in 1 GREATEST more) (λ n i. (number_within 1 GREATEST n more i).upto) e
    by_test false e = high (number_in 0 GREATEST (b ∷ more)) (λ n i. (number_within 0 GREATEST n (b ∷ more) i).upto) e

operands_small : (ws : List (List ℕ)) (vs : List ℤ) → operands_in ws ≡ Some vs → AllByRecursion Small vs
operands_small [] vs e = subst (AllByRecursion Small) (same_Some [] vs e) tt
operands_small (w ∷ more) vs e = by_rest (operands_small more) (operand_in w) (λ v i. operand_small w v i) (operands_in more) refl e
  where
    by_rest : ((us : List ℤ) → operands_in more ≡ Some us → AllByRecursion Small us) → (o : Option ℤ) → ((v : ℤ) → o ≡ Some v → Small v)
        → (r : Option (List ℤ)) → operands_in more ≡ r → option_and_then (λ (v : ℤ). option_map (λ (us : List ℤ). v ∷ us) r) o ≡ Some vs → AllByRecursion Small vs
    by_rest next None h r is e = absurd (none-some vs e)
    by_rest next (Some v) h None is e = absurd (none-some vs e)
    by_rest next (Some v) h (Some us) is e = subst (AllByRecursion Small) (same_Some (v ∷ us) vs e) (h v refl, next us is)

all_both : (xs ys : List ℤ) → AllByRecursion Small xs → AllByRecursion Small ys → AllByRecursion Small (xs ++ ys)
all_both [] ys h k = k
all_both (x ∷ xs) ys h k = (h.0, all_both xs ys h.1 k)

card_small : (o : Option (List ℤ)) → ((vs : List ℤ) → o ≡ Some vs → AllByRecursion Small vs) → AllByRecursion Small (unwrap_or o [])
card_small None h = tt
card_small (Some vs) h = h vs refl

cards_small : (cs : List Card) → AllByRecursion Small (numbers_in cs)
cards_small [] = tt
cards_small (c ∷ more) = all_both (unwrap_or (numbers c.text) []) (numbers_in more) (card_small (numbers c.text) (λ vs i. operands_small (words_in_card c.text) vs i)) (cards_small more)

data_small : (said : List Said) → AllByRecursion Small (unwrap_or (data_numbers said) [])
data_small [] = tt
data_small (s ∷ more) = by_command s.command (data_small more)
  where
    by_command : (c : Command) → AllByRecursion Small (unwrap_or (data_numbers more) []) → AllByRecursion Small (unwrap_or (option_or (numbers_at c more) (data_numbers more)) [])
    by_command Data h = cards_small (body more)
    by_command _ h = h

-- a job's limit and name
limit_within : (own : List Said) → AllByRecursion InRange own → NumberWithin 1 MOST_LIMIT (limit_behind USUAL_LIMIT own)
limit_within [] h = record { from = omega arith; upto = omega arith }
limit_within (s ∷ more) h = by_command s.command h.0
  where
    by_command : (c : Command) → CommandInRange c → NumberWithin 1 MOST_LIMIT (unwrap_or (limit_in c) USUAL_LIMIT)
    by_command (Limit n) h = h
    by_command _ h = record { from = omega arith; upto = omega arith }

leading_in : (p : Said → Bool) (said : List Said) → AllByRecursion InRange said → AllByRecursion InRange (leading p said)
leading_in p [] h = tt
leading_in p (s ∷ more) h = by_test (p s) (leading_in p more h.1)
  where
    by_test : (b : Bool) → AllByRecursion InRange (leading p more) → AllByRecursion InRange (cond b (s ∷ leading p more) [])
    by_test true k = (h.0, k)
    by_test false k = tt

named : (c : Command) (name : List ℕ) → CommandInRange c → name_in c ≡ Some name → NameWithin name
named (Job n) name h e = subst NameWithin (same_Some n name e) h
named _ name h e = absurd (none-some name e)

jobs_in_range : (said : List Said) → AllByRecursion InRange said → AllByRecursion JobInRange (jobs said)
jobs_in_range [] h = tt
jobs_in_range (s ∷ more) h = by_name (jobs_in_range more h.1) (name_in s.command) refl
  where
    by_name : AllByRecursion JobInRange (jobs more) → (o : Option (List ℕ)) → name_in s.command ≡ o
        → AllByRecursion JobInRange (option_to_list (option_map (λ name. job_of s.number name (own_cards more)) o) ++ jobs more)
    by_name rest None e = rest
    by_name rest (Some name) e =
        let name_fits = named s.command name h.0 e in
        let limit_fits = limit_within (own_cards more) (leading_in (λ (x : Said). not (is_job x)) more h.1) in
        (record { name_short = name_fits.short; name_ascii = name_fits.ascii; limit_low = limit_fits.from; limit_high = limit_fits.upto; numbers = data_small (own_cards more) }, rest)

jobs_count : (said : List Said) → length (jobs said) ≡ jobs_in said
jobs_count [] = refl
jobs_count (s ∷ more) = by_name (jobs_count more) (name_in s.command)
  where
    by_name : length (jobs more) ≡ jobs_in more → (o : Option (List ℕ))
        → length (option_to_list (option_map (λ name. job_of s.number name (own_cards more)) o) ++ jobs more) ≡ length (cons_option o (filter_map (λ (x : Said). name_in x.command) more))
    by_name rest None = rest
    by_name rest (Some name) = ap suc rest

-- the size of stacks
stack_within : (said : List Said) → AllByRecursion InRange said → NumberWithin LEAST_STACK MOST_STACK (unwrap_or (first_found (λ (s : Said). stack_in s.command) said) 512)
stack_within [] h = record { from = omega arith; upto = omega arith }
stack_within (s ∷ more) h = by_command s.command h.0 (stack_within more h.1)
  where
    by_command : (c : Command) → CommandInRange c → NumberWithin LEAST_STACK MOST_STACK (unwrap_or (first_found (λ (s : Said). stack_in s.command) more) 512)
        → NumberWithin LEAST_STACK MOST_STACK (unwrap_or (slice_get (cons_option (stack_in c) (filter_map (λ (s : Said). stack_in s.command) more)) 0) 512)
    by_command (Stack n) h k = h
    by_command _ h k = k

-- the length of turns
quantum_within : (said : List Said) → AllByRecursion InRange said → NumberWithin 1 MOST_QUANTUM (unwrap_or (first_found (λ (s : Said). quantum_in s.command) said) 1000)
quantum_within [] h = record { from = omega arith; upto = omega arith }
quantum_within (s ∷ more) h = by_command s.command h.0 (quantum_within more h.1)
  where
    by_command : (c : Command) → CommandInRange c → NumberWithin 1 MOST_QUANTUM (unwrap_or (first_found (λ (s : Said). quantum_in s.command) more) 1000)
        → NumberWithin 1 MOST_QUANTUM (unwrap_or (slice_get (cons_option (quantum_in c) (filter_map (λ (s : Said). quantum_in s.command) more)) 0) 1000)
    by_command (Quantum n) h k = h
    by_command _ h k = k

switches_within : (said : List Said) → AllByRecursion InRange said → AllByRecursion IsSwitch (switches_of said)
switches_within [] h = tt
switches_within (s ∷ more) h = by_command s.command h.0 (switches_within more h.1)
  where
    by_command : (c : Command) → CommandInRange c → AllByRecursion IsSwitch (switches_of more) → AllByRecursion IsSwitch (cons_option (switch_in c) (switches_of more))
    by_command (Switch count job task) h k = (h, k)
    by_command _ h k = k

names_are : (said : List Said) → AllByRecursion InRange said → AllByRecursion (λ (j : deck_job.Job). is_name j.name ≡ true) (jobs said)
names_are [] h = tt
names_are (s ∷ more) h = by_name (names_are more h.1) (name_in s.command) refl
  where
    by_name : AllByRecursion (λ (j : deck_job.Job). is_name j.name ≡ true) (jobs more) → (o : Option (List ℕ)) → name_in s.command ≡ o
        → AllByRecursion (λ (j : deck_job.Job). is_name j.name ≡ true) (option_to_list (option_map (λ name. job_of s.number name (own_cards more)) o) ++ jobs more)
    by_name rest None e = rest
    by_name rest (Some name) e = ((named s.command name h.0 e).is, rest)

of_read : (said : List Said) → Read said → DeckInRange (deck said)
of_read said r = subst (λ (all : List Said). DeckInRange (deck all)) (sym r.is) (record {
  stack_low = (stack_within (reverse r.all) range).from;
  stack_high = omega (arith, (stack_within (reverse r.all) range).upto);
  rise = rise_onto r.all [] r.stood tt (follows_none (first_found switch_in (map command_in r.all)));
  few = omega (arith, jobs_count (reverse r.all), jobs_onto r.all [], few_jobs r.all r.stood);
  each = jobs_in_range (reverse r.all) range;
})
  where
    range : AllByRecursion InRange (reverse r.all)
    range = in_range_onto r.all [] r.stood tt

cards_of_read : (said : List Said) → Read said → CardsInRange (deck said)
cards_of_read said r = subst (λ (all : List Said). CardsInRange (deck all)) (sym r.is) (record {
  quantum_low = (quantum_within (reverse r.all) range).from;
  quantum_high = (quantum_within (reverse r.all) range).upto;
  switches = record { some = omega arith; few = omega (arith, switches_onto r.all [], few_switches r.all r.stood); each = switches_within (reverse r.all) range };
  names = names_are (reverse r.all) range;
})
  where
    range : AllByRecursion InRange (reverse r.all)
    range = in_range_onto r.all [] r.stood tt

pub decks_in_range : (text : List ℕ) (d : Deck) → deck_of text ≡ Ok d → DeckInRange d
decks_in_range text d e =
    let a = after_both (within_limit text) (λ u. sayings [] (cards text) >>= λ (said : List Said). Ok (deck said)) d e in
    let b = after_both (sayings [] (cards text)) (λ (said : List Said). Ok (deck said)) d a.2 in
    let is : deck b.0 ≡ d = cc in
    subst DeckInRange is (of_read b.0 (read [] (cards text) b.0 tt b.1))

pub cards_in_range : (text : List ℕ) (d : Deck) → deck_of text ≡ Ok d → CardsInRange d
cards_in_range text d e =
    let a = after_both (within_limit text) (λ u. sayings [] (cards text) >>= λ (said : List Said). Ok (deck said)) d e in
    let b = after_both (sayings [] (cards text)) (λ (said : List Said). Ok (deck said)) d a.2 in
    let is : deck b.0 ≡ d = cc in
    subst CardsInRange is (cards_of_read b.0 (read [] (cards text) b.0 tt b.1))
