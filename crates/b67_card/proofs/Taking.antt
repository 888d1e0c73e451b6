-- What a reader knows behind one more card.
use Rattle.std.proofs.Common.{◌≡◌, ℕ, List, ◌∷◌, map, Result, Ok, Err, refl}
use Rattle.std.specs.Prelude.{⊤}
use Rattle.b67_model_text.specs.declared.card.Card.{Card}
use Rattle.b67_model_text.specs.Command.{Command, said}
use Rattle.b67_model_text.specs.Placing.{stand, arranged, is_well_formed}
use Rattle.b67_model_text.specs.Deck.{Said, command_in, said_after}
use Rattle.b67_card.specs.Shape.{Shows}
use Rattle.b67_card.specs.Contents.{AddsCard, jobs_told}
use Rattle.b67_card.specs.Reader.{IsAccepted, ReaderTook}
use Rattle.b67_card.specs.declared.command.Refused.{Refused}
use Rattle.b67_card.specs.declared.command.Refused.TheVariants.{Reason, Memory}
use Rattle.b67_card.specs.declared.deck.Reader.{Reader}

said_ok : (before : List Said) (card : Card) (c : Command) → said card.text ≡ Ok c → arranged (map command_in before) c ≡ Ok tt → is_well_formed (stand (map command_in before)) c ≡ Ok tt → said_after before card ≡ Ok (record { number = card.number; command = c })
said_ok before card c e a w = rw (e, a, w) refl

said_bad : (before : List Said) (card : Card) (c : Command) (r : ℕ) → said card.text ≡ Ok c → arranged (map command_in before) c ≡ Ok tt → is_well_formed (stand (map command_in before)) c ≡ Err r → said_after before card ≡ Err r
said_bad before card c r e a w = rw (e, a, w) refl

pub taken : (result : Result ⊤ Refused) (before : List Said) (card : Card) (c : Command) (new : Reader) → said card.text ≡ Ok c → arranged (map command_in before) c ≡ Ok tt → Shows new.shape (c ∷ map command_in before) → new.last ≡ card.number → IsAccepted (map command_in before) → AddsCard result (stand (map command_in before)) card.number c (jobs_told before) new.contents → ReaderTook result before card new
taken (Ok done) before card c new e a shows last accepted told = (record { number = card.number; command = c }, said_ok before card c e a told.0, record { shape = shows; contents = told.1; last = last; accepted = (a, accepted) })
taken (Err (Reason r)) before card c new e a shows last accepted told = said_bad before card c r e a told
taken (Err Memory) before card c new e a shows last accepted told = tt
