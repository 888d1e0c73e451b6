-- Stacks whose copies are held as the words of their originals say.
use Rattle.b67_layout_shown.specs.Shown.{Sight}
use Rattle.b67_image_shape.specs.TableFacts.{TableFacts}
use Rattle.b67_image_shape.specs.Held.{location_in}
use Rattle.b67_image_shape.specs.Items.{EachTask, StackFactsBy, StackFacts, CellFacts}

abbrev pub NearStacks : Sight → Type 0
NearStacks k = EachTask k (StackFactsBy (location_in k.core) k)

-- once the cells are in order each copy's array is an object, so that the two say the same
abbrev pub NearStacksSuffice : Type 0
NearStacksSuffice = (k : Sight) → TableFacts k → NearStacks k → EachTask k (CellFacts k) → EachTask k (StackFacts k)

-- and the other way round, cells or not
abbrev pub StacksAreNear : Type 0
StacksAreNear = (k : Sight) → TableFacts k → EachTask k (StackFacts k) → NearStacks k
