-- The tasks of a job that die, in their order, with the arrays whose originals lie in their slots.
use Rattle.std.specs.Prelude.{ℕ, ◌+◌, ◌*◌, ◌&&◌, nat_lt, not, List, [], ◌∷◌, filter, Bool}
use Rattle.b67_lemmas.specs.Lists.{Has}
use Rattle.b67_model.specs.State.{Task}
use Rattle.b67_stack.specs.MachineView.{PagedObject}
use Rattle.b67_layout.specs.Placement.{Placement, slot_of}
use Rattle.b67_task.specs.DeathsInTurn.{Death}

-- nobody who is left names one of them as a parent
unfoldable pub InTurn : List Task → List Task → List Task → Type 0
InTurn live gone [] = Unit {0}
InTurn live gone (t ∷ ts) = Has live t × (Has gone t → ⊥) × ((u : Task) → Has live u → Has u.parents t.number → Has gone u) × InTurn live (t ∷ gone) ts

abbrev pub lies_in : Placement → ℕ → PagedObject → Bool
lies_in plan k u = nat_lt (plan.stacks + k * plan.size) u.home && nat_lt u.home (plan.stacks + k * plan.size + plan.size)

abbrev pub lies_out : Placement → ℕ → PagedObject → Bool
lies_out plan k u = not (lies_in plan k u)

unfoldable pub deaths : Placement → ℕ → List PagedObject → List Task → List Death
deaths plan j objects [] = []
deaths plan j objects (t ∷ ts) =
    record { slot = slot_of plan j t.number; gone = filter (lies_in plan (slot_of plan j t.number)) objects; rest = filter (lies_out plan (slot_of plan j t.number)) objects }
    ∷ deaths plan j (filter (lies_out plan (slot_of plan j t.number)) objects) ts
