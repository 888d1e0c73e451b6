-- What the objects of a machine are judged by.
use Rattle.std.specs.Prelude.{◌≡◌, ◌≤◌, ℕ, length, slice_index}
use Rattle.b67_backing.specs.Links.{AreInside, AreLed}
use Rattle.b67_image_shape.specs.declared.objects.Objects.{Objects}
use Rattle.b67_image_shape.specs.AreaWalk.{AreasWalked}

-- there is a mark for each word of core; the areas were walked; links lead to sectors, and those that they lead to are told
pub record AreJudged (o : Objects) : Type 0 where
  pub kinds : length o.kinds.now ≡ length o.core.now
  pub codes : (i : ℕ) → slice_index o.kinds.now i ≤ 3
  pub walked : AreasWalked o.core.now o.low o.kinds.now o.housed.now
  pub links : AreInside o.links.now
  pub led : AreLed o.links.now o.led.now
