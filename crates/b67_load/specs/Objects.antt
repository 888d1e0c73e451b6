-- The segments and data rows of a program, by the places of their descriptors.
use Rattle.std.specs.Prelude.{ℕ, ◌+◌, List, [], ◌∷◌, ◌++◌, length}
use Rattle.b67_area.specs.declared.Kind.TheVariants.{Row, Code}
use Rattle.b67_backing.specs.Held.{sectors_for}
use Rattle.b67_lemmas.specs.Lists.{total}
use Rattle.b67_model.specs.State.{Segment}
use Rattle.b67_model.specs.Program.{Program}
use Rattle.b67_stack.specs.MachineView.{PagedObject}

-- segments whose descriptors follow each other from an address on
abbrev pub code_from : ℕ → List Segment → List PagedObject
code_from at [] = []
code_from at (s ∷ more) = record { home = at; kind = Code; numbers = s.code } ∷ code_from (at + 1) more

-- and data rows
abbrev pub rows_from : ℕ → List (List ℕ) → List PagedObject
rows_from at [] = []
rows_from at (r ∷ more) = record { home = at; kind = Row; numbers = r } ∷ rows_from (at + 1) more

-- the objects of a program whose dictionary begins at base: its segments, and then its data rows, after two words
abbrev pub program_objects : ℕ → Program → List PagedObject
program_objects base p = code_from (base + 2) p.segments ++ rows_from (base + (2 + length p.segments)) p.rows

-- how many entries a dictionary has
abbrev pub entries_of : Program → ℕ
entries_of p = length p.segments + length p.rows

-- the sectors of an object, and of all
abbrev pub object_sectors : PagedObject → ℕ
object_sectors t = sectors_for (length t.numbers)

abbrev pub sectors_of_objects : List PagedObject → ℕ
sectors_of_objects objects = total object_sectors objects

-- the sectors that a program takes
abbrev pub sectors_of_program : Program → ℕ
sectors_of_program p =
    total (λ (s : Segment). sectors_for (length s.code)) p.segments + total (λ (r : List ℕ). sectors_for (length r)) p.rows
