-- The decks of two texts that differ in a ?HALT card.
use Rattle.std.proofs.Common.{◌≡◌, ◌+◌, ℕ, Bool, true, false, cond, not, List, [], ◌∷◌, ◌++◌, length, map, reverse, refl, sym, ap, subst, ◌∙◌, Option, Some, None, Ok, codes, arith}
use Rattle.std.specs.Prelude.{⊤, ◌||◌, if◌then◌else◌}
use Rattle.std.specs.List.{filter_map}
use Rattle.std.specs.Option.{option_map, option_to_list}
use Rattle.std.specs.Str.{bytes_eq}
use Rattle.std.proofs.lemmas.List.Elements.{filter_map-append}
use Rattle.b67_model_text.specs.declared.card.Card.{Card}
use Rattle.b67_model_text.specs.declared.deck.Deck.{Deck}
use Rattle.b67_model_text.specs.declared.deck.Stand.{Stand}
use Rattle.b67_model_text.specs.declared.deck.Stand.TheVariants.{Front}
use Rattle.b67_model_text.specs.declared.deck.Keyword.TheVariants as keywords
use Rattle.b67_model_text.specs.Answers.{Answer, ◌>>=◌, ◌>>◌, needs, or_reason}
use Rattle.b67_model_text.specs.Cards.{card_of, cards, is_empty, words_in_card}
use Rattle.b67_model_text.specs.Command.{Command, Halt, one_number, says, command_of, plain_card, said}
use Rattle.b67_model_text.specs.Placing.{stand, stand_after, placed_card, stack_in, switch_in, name_in}
use Rattle.b67_model_text.specs.Deck.{Said, command_in, of_card, said_after, sayings, job_of, own_cards, jobs, deck, deck_of}
use Rattle.b67_model_text.proofs.Answers.{after_both, err-ok}
use Rattle.b67_promises.specs.Halts.{DifferInHalt}
use Rattle.b67_promises.proofs.TurnCards.{cards_at, is_filled, cards-append, filled, first_word, trimmed_three, placed_first, first_said, say_same, reverse_cons, deck_said}
use Rattle.b67_model.specs.declared.limits.TheConstants.{MOST_MADE}

-- ---- a card of a halt

abbrev IsHaltCommand : Command → Type 0
IsHaltCommand (Halt n) = Unit {0}
IsHaltCommand _ = ⊥

halt_says : (o : Option ℕ) (c : Command) → or_reason (option_map Halt o) 4 ≡ Ok c → IsHaltCommand c
halt_says o c e = grind arith

by_halt : (b : Bool) (parameters : List (List ℕ)) (c : Command) → (or_reason (if b then Some keywords.Halt else None) 3 >>= λ keyword. or_reason (says keyword parameters) 4) ≡ Ok c → IsHaltCommand c
by_halt true parameters c e = halt_says (one_number 1 MOST_MADE parameters) c e
by_halt false parameters c e = err-ok 3 c _ e

halt_key : (y : List ℕ) (parameters : List (List ℕ)) (c : Command) → command_of ((63 ∷ 72 ∷ 65 ∷ y) ∷ parameters) ≡ Ok c → IsHaltCommand c
halt_key y parameters c e = by_halt (bytes_eq (codes "LT") y) parameters c e

halt_said : (t : List ℕ) (c : Command) → said (63 ∷ 72 ∷ 65 ∷ t) ≡ Ok c → IsHaltCommand c
halt_said t c e =
    let text = 63 ∷ 72 ∷ 65 ∷ t in
    let w = first_word 63 72 65 t refl refl refl in
    let s = after_both (plain_card text) (λ (u : ⊤). command_of (words_in_card text)) c e in
    halt_key w.0 w.1 c (ap command_of (sym w.2) ∙ s.2)

-- ---- where it stands

stands_in_front : (before : List Command) (c : Command) (u : ⊤) → IsHaltCommand c → placed_card before c ≡ Ok u → stand before ≡ Front
stands_in_front before c u is e = grind arith

-- what stands in front names no job
names_none : (s : Stand) (c : Command) → stand_after s c ≡ Front → (s ≡ Front) × (name_in c ≡ None)
names_none s c e = grind arith

-- ---- the jobs behind it

no_job : (s : Said) (tail : List Said) → name_in s.command ≡ None → jobs (s ∷ tail) ≡ jobs tail
no_job s tail none = ap (λ (o : Option (List ℕ)). option_to_list (option_map (λ name. job_of s.number name (own_cards tail)) o) ++ jobs tail) none

jobs_after : (before tail : List Said) → stand (map command_in before) ≡ Front → jobs (reverse before ++ tail) ≡ jobs tail
jobs_after [] tail e = refl
jobs_after (s ∷ before) tail e = grind (arith, reverse_cons, jobs_after before (s ∷ tail))

-- ---- the deck but for the halt

pub record SameButHalt (d e : Deck) : Type 0 where
  pub stack : e.stack ≡ d.stack
  pub quantum : e.quantum ≡ d.quantum
  pub switches : e.switches ≡ d.switches
  pub jobs : e.jobs ≡ d.jobs

passed_over : {B : Type 0} (f : Said → Option B) (front tail : List Said) (s : Said) → f s ≡ None → filter_map f (front ++ tail) ≡ filter_map f (front ++ s ∷ tail)
passed_over f front tail s none = grind (arith, filter_map-append)

no_stack : (c : Command) → IsHaltCommand c → stack_in c ≡ None
no_stack c h = grind arith

no_switch : (c : Command) → IsHaltCommand c → switch_in c ≡ None
no_switch c h = grind arith

same_deck : (before tail : List Said) (s : Said) → IsHaltCommand s.command → stand (map command_in before) ≡ Front → SameButHalt (deck (reverse before ++ s ∷ tail)) (deck (reverse before ++ tail))
same_deck before tail s h e = grind (arith, passed_over, jobs_after)

-- ---- what is said

-- the same cards before others
say_front : (cs more more' : List Card) (before a b : List Said) → sayings before (cs ++ more) ≡ Ok a → sayings before (cs ++ more') ≡ Ok b
    → (behind : List Said) × (sayings behind more ≡ Ok a) × (sayings behind more' ≡ Ok b)
say_front [] more more' before a b e f = (before, e, f)
say_front (card ∷ cs) more more' before a b e f =
    let s = first_said before card (cs ++ more) a e in
    let t = first_said before card (cs ++ more') b f in
    let same : t.0 ≡ s.0 = let z : ◌≡◌ {A = Answer Command} (Ok t.0) (Ok s.0) = sym t.1 ∙ s.1 in cc in
    say_front cs more more' (record { number = card.number; command = s.0 } ∷ before) a b s.2
    (subst (λ (c : Command). sayings (record { number = card.number; command = c } ∷ before) (cs ++ more') ≡ Ok b) same t.2)

without_halt : (behind a b : List Said) (card : Card) (more : List Card) → ((c : Command) → said card.text ≡ Ok c → IsHaltCommand c) → sayings behind (card ∷ more) ≡ Ok a → sayings behind more ≡ Ok b
    → SameButHalt (deck a) (deck b)
without_halt behind a b card more is e f =
    let p = placed_first behind card more a e in
    let s = first_said behind card more a e in
    let x : Said = record { number = card.number; command = s.0 } in
    let h : IsHaltCommand s.0 = is s.0 s.1 in
    let there : stand (map command_in behind) ≡ Front = stands_in_front (map command_in behind) p.0 p.2 (is p.0 p.1) p.3 in
    let t = say_same more (x ∷ behind) behind a b s.2 f in
    subst (λ (l : List Said). SameButHalt (deck l) (deck b)) (sym (t.1 ∙ reverse_cons x behind t.0))
    (subst (λ (l : List Said). SameButHalt (deck (reverse behind ++ x ∷ t.0)) (deck l)) (sym t.2) (same_deck behind t.0 x h there))

-- ---- the decks of texts

halt_card : (n : ℕ) (count : List ℕ) → (c : Command) → said (card_of (n, codes "?HALT" ++ count)).text ≡ Ok c → IsHaltCommand c
halt_card n count c e = let t = trimmed_three 63 72 65 (codes "LT" ++ count) refl in halt_said t.0 c (ap said (sym t.1) ∙ e)

halt_filled : (n : ℕ) (count : List ℕ) → is_filled (card_of (n, codes "?HALT" ++ count)) ≡ true
halt_filled n count = let t = trimmed_three 63 72 65 (codes "LT" ++ count) refl in ap (λ (xs : List ℕ). not (is_empty xs)) t.1 ∙ ap not (filled 63 (72 ∷ 65 ∷ t.0))

pub decks_without : (bytes other : List ℕ) (d e : Deck) → DifferInHalt bytes other → deck_of bytes ≡ Ok d → deck_of other ≡ Ok e → SameButHalt d e
decks_without bytes other d e h is is' =
    let a = deck_said bytes d is in
    let b = deck_said other e is' in
    let line : List ℕ = codes "?HALT" ++ h.count in
    let at : ℕ = 1 + length h.front in
    let behind : List Card = cards_at (at + 1) h.rest in
    let one : cards bytes ≡ cards_at 1 h.front ++ card_of (at, line) ∷ behind =
    ap (cards_at 1) h.is ∙ cards-append 1 h.front (line ∷ h.rest) ∙ ap (λ (t : Bool). cards_at 1 h.front ++ cond t (card_of (at, line) ∷ behind) behind) (halt_filled at h.count) in
    let two : cards other ≡ cards_at 1 h.front ++ behind = ap (cards_at 1) h.other_is ∙ cards-append 1 h.front ([] ∷ h.rest) in
    let s = say_front (cards_at 1 h.front) (card_of (at, line) ∷ behind) behind [] a.0 b.0 (ap (sayings []) (sym one) ∙ a.1) (ap (sayings []) (sym two) ∙ b.1) in
    let same = without_halt s.0 a.0 b.0 (card_of (at, line)) behind (halt_card at h.count) s.1 s.2 in
    subst (λ (x : Deck). SameButHalt x e) (sym a.2) (subst (λ (x : Deck). SameButHalt (deck a.0) x) (sym b.2) same)
