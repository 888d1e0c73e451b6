-- The deck of a text: its first refused card, or the run that its cards describe.
use Rattle.std.specs.Prelude.{ℕ, ◌+◌, ◌==◌, not, nat_lt, Bool, true, false, ℤ, List, [], ◌∷◌, ◌++◌, map, reverse, take, length, count_by, Option, Some, None, is_some, unwrap_or, Result, Ok, Err, ⊤}
use Rattle.std.specs.List.{filter_map, flat_map}
use Rattle.std.specs.Option.{option_map, option_or, option_to_list}
use Rattle.b67_model_text.specs.declared.card.Card.{Card}
use Rattle.b67_model_text.specs.declared.deck.Stand.{Stand}
use Rattle.b67_model_text.specs.declared.deck.Stand.TheVariants.{Front, Ended}
use Rattle.b67_model_text.specs.declared.deck.Body.{Body}
use Rattle.b67_model_text.specs.declared.deck.Body.TheVariants.{Cards, Bytes}
use Rattle.b67_model_text.specs.declared.deck.Job as declared
use Rattle.b67_model_text.specs.declared.deck.Deck.{Deck}
use Rattle.b67_model_text.specs.Answers.{Answer, ◌>>=◌, ◌>>◌, needs}
use Rattle.b67_model_text.specs.Cards.{cards, leading}
use Rattle.b67_model_text.specs.Hex.{digit_bytes, is_hex}
use Rattle.b67_model_text.specs.Command.{Command, Limit, Asm, Hex, Data, Plain, plain_card, said}
use Rattle.b67_model_text.specs.Placing.{stand, placed_card, stack_in, quantum_in, halt_in, switch_in, name_in, first_found, numbers}
use Rattle.b67_model.specs.declared.limits.TheConstants.{USUAL_LIMIT, DECK_BYTES}

pub record Said : Type 0 where
  pub number : ℕ
  pub command : Command

abbrev pub command_in : Said → Command
command_in s = s.command

pub record Refusal : Type 0 where
  pub card : ℕ
  pub reason : ℕ

abbrev pub of_card : {A : Type 0} → ℕ → Answer A → Result A Refusal
of_card number (Ok a) = Ok a
of_card number (Err reason) = Err (record { card = number; reason = reason })

-- what a card says behind these cards, the nearest first
abbrev pub said_after : List Said → Card → Answer Said
said_after before card = do
  c ← said card.text
  _ ← placed_card (map command_in before) c
  Ok (record { number = card.number; command = c })

abbrev pub is_between : Stand → Bool
is_between Front = true
is_between Ended = true
is_between _ = false

abbrev pub number_of_last : List Said → ℕ
number_of_last [] = 0
number_of_last (s ∷ before) = s.number

-- a deck ends outside jobs
abbrev pub ended_deck : List Said → Result (List Said) Refusal
ended_deck before = of_card (number_of_last before) (needs (is_between (stand (map command_in before))) 13) >> Ok (reverse before)

-- what all cards say, or the first card that is refused with its lowest reason
abbrev pub sayings : List Said → List Card → Result (List Said) Refusal
sayings before [] = ended_deck before
sayings before (card ∷ more) = do
  s ← of_card card.number (said_after before card)
  sayings (s ∷ before) more

-- ---- the run that accepted cards describe

abbrev pub limit_in : Command → Option ℕ
limit_in (Limit n) = Some n
limit_in _ = None

abbrev pub text_in : Command → Option (List ℕ)
text_in (Plain text) = Some text
text_in _ = None

abbrev pub card_in : Said → Option Card
card_in s = option_map (λ text. record { number = s.number; text = text }) (text_in s.command)

abbrev pub is_plain : Said → Bool
is_plain s = is_some (text_in s.command)

-- the plain cards at the front
abbrev pub body : List Said → List Card
body more = filter_map card_in (leading is_plain more)

abbrev pub bytes_in : List Card → List ℕ
bytes_in cards = flat_map (λ c. digit_bytes c.text) cards

abbrev pub numbers_in : List Card → List ℤ
numbers_in cards = flat_map (λ c. unwrap_or (numbers c.text) []) cards

-- a job's program stands behind its ?ASM or ?HEX card
abbrev pub program_at : Command → List Said → Option Body
program_at Asm more = Some (Cards (body more))
program_at Hex more = Some (Bytes (bytes_in (body more)))
program_at _ more = None

abbrev pub program : List Said → Option (ℕ × Body)
program [] = None
program (s ∷ more) = option_or (option_map (λ p. (s.number, p)) (program_at s.command more)) (program more)

-- a job's numbers stand behind its ?DATA card
abbrev pub numbers_at : Command → List Said → Option (List ℤ)
numbers_at Data more = Some (numbers_in (body more))
numbers_at _ more = None

abbrev pub data_numbers : List Said → Option (List ℤ)
data_numbers [] = None
data_numbers (s ∷ more) = option_or (numbers_at s.command more) (data_numbers more)

-- a ?LIMIT card stands directly behind the ?JOB card
abbrev pub limit_behind : ℕ → List Said → ℕ
limit_behind default [] = default
limit_behind default (s ∷ more) = unwrap_or (limit_in s.command) default

-- the job of a ?JOB card and the cards behind it
abbrev pub job_of : ℕ → List ℕ → List Said → declared.Job
job_of number name own = record {
  name = name;
  card = number;
  limit = limit_behind USUAL_LIMIT own;
  body_card = (unwrap_or (program own) (0, Cards [])).0;
  program = (unwrap_or (program own) (0, Cards [])).1;
  numbers = unwrap_or (data_numbers own) [];
}

abbrev pub is_job : Said → Bool
is_job s = is_some (name_in s.command)

-- a job's cards are those up to the next ?JOB
abbrev pub own_cards : List Said → List Said
own_cards more = leading (λ s. not (is_job s)) more

abbrev pub jobs : List Said → List declared.Job
jobs [] = []
jobs (s ∷ more) = option_to_list (option_map (λ name. job_of s.number name (own_cards more)) (name_in s.command)) ++ jobs more

abbrev pub deck : List Said → Deck
deck said = record {
  stack = unwrap_or (first_found (λ s. stack_in s.command) said) 512;
  quantum = unwrap_or (first_found (λ s. quantum_in s.command) said) 1000;
  halt = first_found (λ s. halt_in s.command) said;
  switches = filter_map (λ s. switch_in s.command) said;
  jobs = jobs said;
}

-- ---- whole texts

-- a text may have so many bytes
abbrev pub limit : ℕ
limit = DECK_BYTES

-- the card with the first byte past the limit is refused before all else
abbrev pub within_limit : List ℕ → Result ⊤ Refusal
within_limit text = of_card (count_by (λ b. b == 10) (take limit text) + 1) (needs (not (nat_lt limit (length text))) 14)

-- the deck of a text, or the first refused card with its lowest reason
abbrev pub deck_of : List ℕ → Result Deck Refusal
deck_of text = within_limit text >>= λ _. sayings [] (cards text) >>= λ said. Ok (deck said)

abbrev pub all_plain : List Card → Result ⊤ Refusal
all_plain [] = Ok tt
all_plain (card ∷ more) = of_card card.number (plain_card card.text) >> all_plain more

-- the cards of a text of plain cards, or the first refused card with its lowest reason
abbrev pub plain_cards : List ℕ → Result (List Card) Refusal
plain_cards text = within_limit text >>= λ _. all_plain (cards text) >>= λ _. Ok (cards text)

-- what is refused of a hexadecimal card
abbrev pub hexadecimal : List ℕ → Answer ⊤
hexadecimal text = plain_card text >> needs (is_hex text) 11

abbrev pub all_hexadecimal : List Card → Result ⊤ Refusal
all_hexadecimal [] = Ok tt
all_hexadecimal (card ∷ more) = of_card card.number (hexadecimal card.text) >> all_hexadecimal more

-- the cards of a text of hexadecimal cards, or the first refused card with its lowest reason
abbrev pub hexadecimal_cards : List ℕ → Result (List Card) Refusal
hexadecimal_cards text = within_limit text >>= λ _. all_hexadecimal (cards text) >>= λ _. Ok (cards text)

-- the first of these cards, 1 for none
abbrev pub first_number : List Card → ℕ
first_number [] = 1
first_number (card ∷ more) = card.number
