-- What reading an image answers.
use Rattle.std.specs.Prelude.{◌≡◌, ◌⊎◌, ℕ, ◌+◌, ◌==◌, Bool, true, List, length, Option, Some, None, Result, Ok, Err}
use Rattle.b67_io.specs.Told.{GaveAll}
use Rattle.b67_io.specs.Causes.{Rose}
use Rattle.b67_backing.specs.Shelf.{Table, IsShelf}
use Rattle.b67_backing.specs.Links.{AreLinksOf, unlinked}
use Rattle.b67_card.specs.Reading.{GaveFirst}
use Rattle.b67_card.specs.declared.command.Refused.{Refused}
use Rattle.b67_card.specs.declared.command.Refused.TheVariants as refused
use Rattle.b67_model_text.specs.Answers.{Answer, ◌>>=◌, ◌>>◌, needs, or_reason}
use Rattle.b67_model_text.specs.Deck.{Refusal, of_card}
use Rattle.b67_task.specs.declared.tables.Machine.{Machine}
use Rattle.b67_task.specs.Tables.{AreCountable}
use Rattle.b67_layout_shown.specs.Machines.{RepresentsOne}
use Rattle.b67_image.specs.Parts.{ImageParts, parts_of}
use Rattle.b67_image.specs.Shape.{has_header, has_shape}
use Rattle.b67_image.specs.Reading.{parts_in}
use Rattle.b67_image.specs.Text.{limit, within_image_limit, bytes_of}
use Rattle.b67_image.specs.declared.fault.ImageFault.{ImageFault}
use Rattle.b67_image.specs.declared.fault.ImageFault.TheVariants.{Card, SourceFault, Memory}

-- so many sectors are wanted, or any number
abbrev pub is_wanted : Option ℕ → ℕ → Bool
is_wanted None count = true
is_wanted (Some wanted) count = count == wanted

-- the parts that bytes tell, or the lowest reason of 4 to 7 why they don't
unfoldable pub parts_told : Option ℕ → List ℕ → Answer ImageParts
parts_told sectors bytes =
    needs (has_header bytes) 4 >> (needs (has_shape bytes) 5 >> (or_reason (parts_in bytes) 6 >>= λ p. (needs (is_wanted sectors (length p.links)) 7 >> Ok p)))

-- the parts that a text tells, with the number of the image's first card, or the card that is refused with the lowest reason but 8
abbrev pub told_in : Option ℕ → List ℕ → Result (ℕ × ImageParts) Refusal
told_in sectors text = do
  _ ← within_image_limit text
  found ← bytes_of text
  p ← of_card found.0 (parts_told sectors found.1)
  Ok (found.0, p)

-- The machine has these parts, and represents a session. It has no count at which it stops, and nothing of a step that was
-- printed. Its sectors are in the chains that the links tell, and the others are free, in the order of their numbers
pub record ShowsParts (p : ImageParts) (m : Machine) : Type 0 where
  pub parts : parts_of m ≡ p
  pub stands : RepresentsOne m
  pub halt : m.tasks.halt ≡ None
  pub printed : m.tasks.printed ≡ 0
  pub chains : (ks : List (List ℕ)) × AreLinksOf p.links ks
  pub sectors : (ks : List (List ℕ)) → AreLinksOf p.links ks → IsShelf m.sectors (record { free = unlinked 1 p.links; chains = ks })

-- no machine with these parts represents a session
abbrev pub ShowsNone : ImageParts → Type 0
ShowsNone p = (m : Machine) → parts_of m ≡ p → RepresentsOne m → ⊥

-- the machine is one of these parts, or no session stands behind them, or the parts are refused
abbrev pub IsTold : Result Machine Refused → Answer ImageParts → Type 0
IsTold (Ok m) told = (p : ImageParts) × (told ≡ Ok p) × ShowsParts p m
IsTold (Err (refused.Reason r)) told = (told ≡ Err r) ⊎ ((r ≡ 8) × ((p : ImageParts) × (told ≡ Ok p) × ShowsNone p))
IsTold (Err refused.Memory) told = Unit {0}

-- the answer of a text whose first card has this number
abbrev pub of_image : ℕ → Result Machine Refused → Result Machine ImageFault
of_image card (Ok m) = Ok m
of_image card (Err (refused.Reason r)) = Err (Card card r)
of_image card (Err refused.Memory) = Err Memory

-- the same of a text
abbrev pub IsMeant : Result Machine ImageFault → Result (ℕ × ImageParts) Refusal → Type 0
IsMeant (Ok m) told = (found : ℕ × ImageParts) × (told ≡ Ok found) × ShowsParts found.1 m
IsMeant (Err (Card card reason)) told =
    (told ≡ Err (record { card = card; reason = reason })) ⊎ ((reason ≡ 8) × ((p : ImageParts) × (told ≡ Ok (card, p)) × ShowsNone p))
IsMeant (Err SourceFault) told = ⊥
IsMeant (Err Memory) told = Unit {0}

-- The same of the text that the source gave to its end. A refusal is by the bytes up to the first one past the limit, where
-- reading stops. The source failed only where its count of faults rose. Want of memory is free.
abbrev pub IsImageRead : {S : Type 0} → (S → Option (List ℕ)) → (S → ℕ) → S → S → Option ℕ → Result Machine ImageFault → Type 0
IsImageRead left faults old new sectors (Ok m) = (text : List ℕ) × GaveAll left old new text × IsMeant (Ok m) (told_in sectors text)
IsImageRead left faults old new sectors (Err (Card card reason)) = (text : List ℕ) × GaveFirst left (limit + 1) old new text × IsMeant (Err (Card card reason)) (told_in sectors text)
IsImageRead left faults old new sectors (Err SourceFault) = Rose faults old new
IsImageRead left faults old new sectors (Err Memory) = Unit {0}

-- so many sectors beside number 0, or any number
abbrev pub HasWanted : Option ℕ → Table → Type 0
HasWanted None t = Unit {0}
HasWanted (Some wanted) t = wanted + 1 ≡ length t.links

-- what a run asks of a machine beside the session: jobs whose numbers can be counted, and as many sectors as are wanted
pub record CanBeRun (sectors : Option ℕ) (m : Machine) : Type 0 where
  pub countable : AreCountable m.tasks.jobs
  pub sized : HasWanted sectors m.sectors
