-- When a machine represents the sessions that programs open.
use Rattle.std.specs.Prelude.{◌≡◌, ℕ, List, Option}
use Rattle.b67_area.specs.declared.Areas.{Areas}
use Rattle.b67_backing.specs.Shelf.{Table}
use Rattle.b67_model.specs.Program.{Program}
use Rattle.b67_model.specs.Schedule.{Switch}
use Rattle.b67_law.specs.Opening.{Opening, DeckWithin, opening}
use Rattle.b67_stack.specs.declared.Cpu.{Cpu}
use Rattle.b67_stack.specs.Represents.{Storage}
use Rattle.b67_layout.specs.Session.{RepresentsSession, RepresentsStorage}
use Rattle.b67_session.specs.Opened.{opening_plan, programs_of}

-- whatever their quantum, switches, limits and numbers are
pub record Opens (areas : Areas) (table : Table) (told : Option (List (List ℕ))) (x : Storage) (cpu : Cpu) (stack : ℕ) (programs : List Program) : Type 0 where
  pub storage : RepresentsStorage areas table told cpu.core x
  pub session : (quantum : ℕ) (switches : List Switch) (openings : List Opening)
      → programs_of openings ≡ programs → DeckWithin stack switches openings
      → RepresentsSession x cpu (opening_plan stack programs) (opening stack quantum switches openings)
