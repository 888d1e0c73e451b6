-- Where a card of a deck may stand, by the cards before it, the nearest first.
use Rattle.std.specs.Prelude.{ℕ, ◌==◌, ◌&&◌, ◌||◌, not, nat_lt, Bool, true, false, ℤ, pos, neg_ℤ, List, [], ◌∷◌, length, Option, Some, None, is_some, slice_get, Ok, if◌then◌else◌, ⊤}
use Rattle.std.specs.List.{filter_map}
use Rattle.std.specs.Option.{option_map, option_and_then}
use Rattle.b67_model_text.specs.declared.deck.Switch as switches
use Rattle.b67_model_text.specs.declared.deck.Stand.{Stand}
use Rattle.b67_model_text.specs.declared.deck.Stand.TheVariants.{Front, Begun, Limited, InAsm, InHex, InData, Ended}
use Rattle.b67_model_text.specs.Answers.{Answer, ◌>>=◌, ◌>>◌, needs}
use Rattle.b67_model_text.specs.Cards.{words_in_card}
use Rattle.b67_model_text.specs.Hex.{hex_bytes}
use Rattle.b67_model_text.specs.Command.{number_in, Command, Stack, Quantum, Halt, Switch, Job, Limit, Asm, Hex, Data, End, Plain}
use Rattle.b67_model.specs.declared.limits.TheConstants.{MOST_JOBS, GREATEST, MOST_SWITCHES}

-- where a card stands: by the nearest command before it
abbrev pub stand_after : Stand → Command → Stand
stand_after s (Job name) = Begun
stand_after s (Limit n) = Limited
stand_after s Asm = InAsm
stand_after s Hex = InHex
stand_after s Data = InData
stand_after s End = Ended
stand_after s _ = s

abbrev pub stand : List Command → Stand
stand [] = Front
stand (c ∷ before) = stand_after (stand before) c

-- which card may stand where
abbrev pub may_stand : Stand → Command → Bool
may_stand Front (Stack n) = true
may_stand Front (Quantum n) = true
may_stand Front (Halt n) = true
may_stand Front (Switch count job task) = true
may_stand Front (Job name) = true
may_stand Begun (Limit n) = true
may_stand Begun Asm = true
may_stand Begun Hex = true
may_stand Limited Asm = true
may_stand Limited Hex = true
may_stand InAsm (Plain text) = true
may_stand InAsm Data = true
may_stand InAsm End = true
may_stand InHex (Plain text) = true
may_stand InHex Data = true
may_stand InHex End = true
may_stand InData (Plain text) = true
may_stand InData End = true
may_stand Ended (Job name) = true
may_stand _ _ = false

abbrev pub has_no_program : Stand → Bool
has_no_program Begun = true
has_no_program Limited = true
has_no_program _ = false

abbrev pub ends_here : Command → Bool
ends_here Data = true
ends_here End = true
ends_here _ = false

-- an ?END or ?DATA of a job without a program
abbrev pub lacks_program : Stand → Command → Bool
lacks_program s c = has_no_program s && ends_here c

abbrev pub stack_in : Command → Option ℕ
stack_in (Stack n) = Some n
stack_in _ = None

abbrev pub quantum_in : Command → Option ℕ
quantum_in (Quantum n) = Some n
quantum_in _ = None

abbrev pub halt_in : Command → Option ℕ
halt_in (Halt n) = Some n
halt_in _ = None

abbrev pub switch_in : Command → Option switches.Switch
switch_in (Switch count job task) = Some (record { count = count; job = job; task = task })
switch_in _ = None

abbrev pub name_in : Command → Option (List ℕ)
name_in (Job name) = Some name
name_in _ = None

-- the first that there is
abbrev pub first_found : {A B : Type 0} → (A → Option B) → List A → Option B
first_found f xs = slice_get (filter_map f xs) 0

-- a run card whose like stands before it
abbrev pub is_repeated : List Command → Command → Bool
is_repeated before (Stack n) = is_some (first_found stack_in before)
is_repeated before (Quantum n) = is_some (first_found quantum_in before)
is_repeated before (Halt n) = is_some (first_found halt_in before)
is_repeated before _ = false

-- the count is above that of the switch before
abbrev pub is_above : Option switches.Switch → ℕ → Bool
is_above None count = true
is_above (Some last) count = nat_lt last.count count

abbrev pub rises : List Command → Command → Bool
rises before (Switch count job task) = is_above (first_found switch_in before) count
rises before _ = true

abbrev pub has_room : List Command → Command → Answer ⊤
has_room before (Switch count job task) = needs (nat_lt (length (filter_map switch_in before)) MOST_SWITCHES) 8
has_room before (Job name) = needs (nat_lt (length (filter_map name_in before)) MOST_JOBS) 9
has_room before _ = Ok tt

-- a whole number of magnitude 549,755,813,887 at most, with a minus sign before anything but 0
abbrev pub operand_in : List ℕ → Option ℤ
operand_in [] = None
operand_in (b ∷ more) = if b == 45 then option_map (λ n. neg_ℤ (pos n)) (number_in 1 GREATEST more) else option_map pos (number_in 0 GREATEST (b ∷ more))

abbrev pub operands_in : List (List ℕ) → Option (List ℤ)
operands_in [] = Some []
operands_in (w ∷ more) = let rest = operands_in more in option_and_then (λ v. option_map (λ vs. v ∷ vs) rest) (operand_in w)

-- the numbers of a card
abbrev pub numbers : List ℕ → Option (List ℤ)
numbers text = operands_in (words_in_card text)

abbrev pub is_well_formed : Stand → Command → Answer ⊤
is_well_formed InHex (Plain text) = needs (is_some (hex_bytes text)) 11
is_well_formed InData (Plain text) = needs (is_some (numbers text)) 12
is_well_formed _ _ = Ok tt

-- what is refused of a card, apart from its digits
abbrev pub arranged : List Command → Command → Answer ⊤
arranged before c = do
  needs (may_stand (stand before) c || lacks_program (stand before) c) 5
  needs (not (is_repeated before c)) 6
  needs (rises before c) 7
  _ ← has_room before c
  needs (not (lacks_program (stand before) c)) 10

-- what is refused of a card by the cards before it
abbrev pub placed_card : List Command → Command → Answer ⊤
placed_card before c = do
  _ ← arranged before c
  is_well_formed (stand before) c
