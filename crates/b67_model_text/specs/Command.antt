-- What a card of a deck says by itself.
use Rattle.std.specs.Prelude.{ℕ, ◌+◌, ◌==◌, ◌&&◌, nat_le, Bool, false, List, [], ◌∷◌, length, take, drop, position, Option, Some, None, Ok, Err, if◌then◌else◌, codes, ⊤}
use Rattle.std.specs.List.{list_all}
use Rattle.std.specs.Option.{option_map, option_and_then}
use Rattle.std.specs.Str.{bytes_eq}
use Rattle.b67_model_text.specs.declared.deck.Keyword as keyword
use Rattle.b67_model_text.specs.declared.deck.Keyword.TheVariants as keywords
use Rattle.b67_model_text.specs.Answers.{Answer, ◌>>=◌, ◌>>◌, needs, or_reason}
use Rattle.b67_model_text.specs.Cards.{words_in_card, natural, name_in, is_empty}
use Rattle.b67_model.specs.declared.limits.TheConstants.{LEAST_STACK, MOST_STACK, MOST_JOBS, MOST_QUANTUM, MOST_LIMIT, MOST_NUMBER, MOST_MADE}

pub data Command : Type 0 where
  Stack : (words : ℕ) → Command
  Quantum : (operators : ℕ) → Command
  Halt : (count : ℕ) → Command
  Switch : (count job task : ℕ) → Command
  Job : (name : List ℕ) → Command
  Limit : (operators : ℕ) → Command
  Asm : Command
  Hex : Command
  Data : Command
  End : Command
  Plain : (text : List ℕ) → Command

-- the first row with this key
abbrev pub row_of : {A : Type 0} → List ℕ → List (List ℕ × A) → Option A
row_of key [] = None
row_of key (row ∷ more) = if bytes_eq row.0 key then Some row.1 else row_of key more

abbrev pub keyword_of : List ℕ → Option keyword.Keyword
keyword_of word = row_of word all
  where
    all : List (List ℕ × keyword.Keyword)
    all =
        (codes "?STACK", keywords.Stack) ∷ (codes "?QUANTUM", keywords.Quantum) ∷ (codes "?HALT", keywords.Halt) ∷
        (codes "?SWITCH", keywords.Switch) ∷ (codes "?JOB", keywords.Job) ∷ (codes "?LIMIT", keywords.Limit) ∷
        (codes "?ASM", keywords.Asm) ∷ (codes "?HEX", keywords.Hex) ∷ (codes "?DATA", keywords.Data) ∷
        (codes "?END", keywords.End) ∷ []

-- a number within these bounds
abbrev pub number_in : ℕ → ℕ → List ℕ → Option ℕ
number_in low high text = option_and_then (λ n. if nat_le low n && nat_le n high then Some n else None) (natural text)

-- a text before the first such mark, and what stands behind the mark
abbrev pub parted : ℕ → List ℕ → Option (List ℕ × List ℕ)
parted mark text = option_map (λ at. (take at text, drop (at + 1) text)) (position (λ b. b == mark) text)

-- a lone parameter, a number within these bounds
abbrev pub one_number : ℕ → ℕ → List (List ℕ) → Option ℕ
one_number low high [] = None
one_number low high (word ∷ more) = if is_empty more then number_in low high word else None

-- task t of job j, which is written j.t
abbrev pub target : List ℕ → Option (ℕ × ℕ)
target word = option_and_then (λ p. option_and_then (λ job. option_map (λ task. (job, task)) (number_in 1 MOST_NUMBER p.1)) (number_in 1 MOST_JOBS p.0)) (parted 46 word)

abbrev pub switch : List (List ℕ) → Option Command
switch (count ∷ word ∷ []) = option_and_then (λ n. option_map (λ t. Switch n t.0 t.1) (target word)) (number_in 0 MOST_MADE count)
switch _ = None

abbrev pub job_named : List ℕ → Option Command
job_named word = option_map Job (name_in word)

abbrev pub job : List (List ℕ) → Option Command
job [] = None
job (word ∷ more) = if is_empty more then job_named word else None

abbrev pub alone : Command → List (List ℕ) → Option Command
alone command parameters = if is_empty parameters then Some command else None

-- what a keyword says with these parameters
abbrev pub says : keyword.Keyword → List (List ℕ) → Option Command
says keywords.Stack parameters = option_map Stack (one_number LEAST_STACK MOST_STACK parameters)
says keywords.Quantum parameters = option_map Quantum (one_number 1 MOST_QUANTUM parameters)
says keywords.Halt parameters = option_map Halt (one_number 1 MOST_MADE parameters)
says keywords.Switch parameters = switch parameters
says keywords.Job parameters = job parameters
says keywords.Limit parameters = option_map Limit (one_number 1 MOST_LIMIT parameters)
says keywords.Asm parameters = alone Asm parameters
says keywords.Hex parameters = alone Hex parameters
says keywords.Data parameters = alone Data parameters
says keywords.End parameters = alone End parameters

abbrev pub command_of : List (List ℕ) → Answer Command
command_of [] = Err 3
command_of (key ∷ parameters) = do
  keyword ← or_reason (keyword_of key) 3
  or_reason (says keyword parameters) 4

-- a card that begins with a question mark
abbrev pub is_command : List ℕ → Bool
is_command [] = false
is_command (b ∷ more) = b == 63

abbrev pub is_printable : ℕ → Bool
is_printable b = nat_le 32 b && nat_le b 126

-- what is refused of any card
abbrev pub plain_card : List ℕ → Answer ⊤
plain_card text = do
  needs (nat_le (length text) 80) 1
  needs (list_all is_printable text) 2

abbrev pub said : List ℕ → Answer Command
said text = do
  _ ← plain_card text
  if is_command text then command_of (words_in_card text) else Ok (Plain text)
