-- Tasks that have the same stack.
use Rattle.std.specs.Prelude.{◌≡◌, Option, Some, None}
use Rattle.b67_model.specs.State.{Task}

-- the same stack, whatever the task's condition and place are
pub record SameStack (t' t : Task) : Type 0 where
  pub number : t'.number ≡ t.number
  pub parents : t'.parents ≡ t.parents
  pub critical : t'.critical ≡ t.critical
  pub frames : t'.frames ≡ t.frames

-- two look-ups find tasks of the same stack, or none
abbrev pub Like : Option Task → Option Task → Type 0
Like None None = Unit {0}
Like (Some t') (Some t) = SameStack t' t
Like None (Some t) = ⊥
Like (Some t') None = ⊥
