-- What opening a session answers.
use Rattle.std.specs.Prelude.{◌≡◌, ℕ, ◌+◌, ◌<◌, ◌≤◌, List, length, Option, Result, Ok, Err}
use Rattle.b67_io.specs.Causes.{Rose}
use Rattle.b67_lemmas.specs.Lists.{Has}
use Rattle.b67_model_text.specs.declared.deck.Deck.{Deck}
pub use Rattle.b67_model_text.specs.Opening.{need_of, sectors_of_all}
use Rattle.b67_model.specs.Common.{Program}
use Rattle.b67_stack.specs.Represents.{Storage}
use Rattle.b67_session.specs.Opened.{opening_plan}
use Rattle.b67_layout.specs.Machine.{content_after}
use Rattle.b67_task.specs.declared.tables.JobRow.{JobRow}
use Rattle.b67_task.specs.declared.tables.Machine.{Machine}
use Rattle.b67_task.specs.Tables.{MachineRepresents}
use Rattle.b67_session.specs.declared.open_fault.OpenFault.{OpenFault}
use Rattle.b67_session.specs.declared.open_fault.OpenFault.TheVariants.{Memory, NoCore, BackingFull, BackingFault}
use Rattle.b67_session.specs.Decks.{session_of, deck_given, given_of, IsCountable}

-- the machine represents the opening state of a deck's session, in a core of so many words over a device of so many sectors,
-- and has what the deck gives. A slice of steps may be called on it
pub record OpensAs (told : Option (List (List ℕ))) (d : Deck) (ps : List Program) (core sectors : ℕ) (k : Machine) : Type 0 where
  pub storage : Storage
  pub stands : MachineRepresents storage told k (opening_plan d.stack ps) (session_of d ps)
  pub given : given_of k.tasks ≡ deck_given d
  pub printed : k.tasks.printed ≡ 0
  pub core_size : length k.cpu.core ≡ core
  pub sized : length k.sectors.links ≡ sectors + 1
  pub countable : (r : JobRow) → Has k.tasks.jobs r → IsCountable r

-- Need and the programs' sectors fit exactly if there is a machine or the device failed. Want of memory is free. The device
-- is as it was where it is too small, core is, or memory was refused
abbrev pub IsOpened : {D : Type 0} → (D → Option (List (List ℕ))) → (D → ℕ) → (D → ℕ) → Deck → List Program → ℕ → D → D → Result Machine OpenFault → Type 0
IsOpened tell size faults d ps core old new (Ok k) =
    (need_of d ps ≤ core) × (sectors_of_all d ps ≤ size old) × OpensAs (content_after (tell old) (tell new)) d ps core (size old) k
IsOpened tell size faults d ps core old new (Err Memory) = new ≡ old
IsOpened tell size faults d ps core old new (Err (NoCore need words)) = (need ≡ need_of d ps) × (words ≡ core) × (core < need_of d ps) × (new ≡ old)
IsOpened tell size faults d ps core old new (Err (BackingFull sum count)) =
    (need_of d ps ≤ core) × (sum ≡ sectors_of_all d ps) × (count ≡ size old) × (size old < sectors_of_all d ps) × (new ≡ old)
IsOpened tell size faults d ps core old new (Err BackingFault) = (need_of d ps ≤ core) × (sectors_of_all d ps ≤ size old) × Rose faults old new
