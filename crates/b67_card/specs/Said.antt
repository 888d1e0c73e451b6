-- What a card was understood to say.
use Rattle.std.specs.Prelude.{◌≡◌, ℕ, List, Result, Ok, Err, ⊤}
use Rattle.b67_model_text.specs.declared.deck.Switch.{Switch}
use Rattle.b67_model_text.specs.Answers.{Answer}
use Rattle.b67_model_text.specs.Command as text
use Rattle.b67_card.specs.declared.command.Command as command
use Rattle.b67_card.specs.declared.command.Command.TheVariants as says
use Rattle.b67_card.specs.declared.command.Refused.{Refused}
use Rattle.b67_card.specs.declared.command.Refused.TheVariants.{Reason, Memory}

abbrev pub said_switch : Switch → text.Command
said_switch s = text.Switch s.count s.job s.task

abbrev pub said_command : command.Command → text.Command
said_command (says.Stack n) = text.Stack n
said_command (says.Quantum n) = text.Quantum n
said_command (says.Halt n) = text.Halt n
said_command (says.Switch s) = said_switch s
said_command (says.Job name) = text.Job name
said_command (says.Limit n) = text.Limit n
said_command says.Asm = text.Asm
said_command says.Hex = text.Hex
said_command says.Data = text.Data
said_command says.End = text.End
said_command (says.Plain t) = text.Plain t

-- the card says this, or is refused with its lowest reason
abbrev pub CardSays : Result command.Command Refused → Answer text.Command → Type 0
CardSays (Ok c) answer = answer ≡ Ok (said_command c)
CardSays (Err (Reason r)) answer = answer ≡ Err r
CardSays (Err Memory) answer = Unit {0}

-- the card's text, or the reason of 1 and 2 why it is refused
abbrev pub IsPlain : Result (List ℕ) Refused → List ℕ → Answer ⊤ → Type 0
IsPlain (Ok kept) text answer = (answer ≡ Ok tt) × (kept ≡ text)
IsPlain (Err (Reason r)) text answer = answer ≡ Err r
IsPlain (Err Memory) text answer = ⊥
