-- The word that is followed among the two top ones, where it leads to a procedure.
use Rattle.std.proofs.Common.{◌≡◌, ◌≢◌, ◌-◌, List, Some, Ok, arith}
use Rattle.std.specs.List.{slice_get}
use Rattle.b67_word.specs.Tagged.{Tagged}
use Rattle.b67_model.specs.Common.{Word, Task, SessionJob}
use Rattle.b67_stack.specs.declared.Cpu.{Cpu}
use Rattle.b67_stack.specs.Represents.{Storage}
use Rattle.b67_layout.specs.Common.{Placement}
use Rattle.b67_exec_cells.specs.Tops.{GivesTwo}
use Rattle.b67_fetch.specs.Stores.{Choice}

-- the two words that were read
pub two_words : (x : Storage) (plan : Placement) (m : SessionJob) (t : Task) (cpu : Cpu) (ws : List Word) (two : Tagged × Tagged) → GivesTwo x plan m t cpu ws (Ok two) → (slice_get cpu.core (cpu.regs.s - 1) ≡ Some two.0) × (slice_get cpu.core cpu.regs.s ≡ Some two.1)
two_words x plan m t cpu ws two g = grind arith

-- the lower one is followed under an operand, else the upper one
pub chosen_leads : (two p : Tagged × Tagged) → Choice two p → (u v : Tagged) → two.0 ≡ u → two.1 ≡ v → (P : Tagged → Type 0) → P p.0 → (v.tag ≡ 0 → P u) × (v.tag ≢ 0 → P v)
chosen_leads two p h u v eu ev P leads = grind arith
