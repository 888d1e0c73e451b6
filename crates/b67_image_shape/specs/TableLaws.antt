-- What the table of marks needs and tells.
use Rattle.std.specs.Prelude.{ℕ, ◌≤◌, List, slice_index}
use Rattle.b67_layout_shown.specs.Shown.{Sight}
use Rattle.b67_image_shape.specs.TableFacts.{TableFacts}
use Rattle.b67_image_shape.specs.FixedWords.{FixedFacts}
use Rattle.b67_image_shape.specs.Held.{view_in}
use Rattle.b67_image_shape.specs.ObjectMarks.{AreMarked}
use Rattle.b67_image_shape.specs.TableMarks.{HaveSlots, IsTable}
use Rattle.b67_image_shape.specs.NearStacks.{NearStacks}

abbrev pub SlotsAreThere : Type 0
SlotsAreThere = (k : Sight) (low size : ℕ) → TableFacts k → FixedFacts k low size → HaveSlots k

-- over stacks that stand it marks the objects that are shown
abbrev pub TablesMark : Type 0
TablesMark = (k : Sight) (low size : ℕ) (kinds : List ℕ) → TableFacts k → FixedFacts k low size → NearStacks k → IsTable k kinds → AreMarked k.core kinds (view_in k).objects × ((i : ℕ) → slice_index kinds i ≤ 3)
