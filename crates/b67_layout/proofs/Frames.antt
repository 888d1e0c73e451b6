-- A task's frames as activation records: what a change of the top frame makes of them. All of it computes.
use Rattle.std.proofs.Common.{◌≡◌, ℕ, suc, List, [], ◌∷◌, refl, sym, ap, arith}
use Rattle.std.proofs.lemmas.List.{length-map}
use Rattle.b67_model.specs.Common.{Standing, Frame, Job, head_words, words_of, height, level_of_standing, level_of_frame, running_from, running}
use Rattle.b67_model.specs.State as State
use Rattle.b67_stack.specs.Common.{StackPlace, head_size, top_size, stack_words, stack_level, level_from}
use Rattle.b67_layout.specs.Common.{Placement, spot_in, shape, head, activations}

module _ (plan : Placement) (j : ℕ) (job : Job) (k : ℕ) (outer : ℕ → StackPlace) where
  head_size-head : (spot : ℕ → StackPlace) (s : Standing) → head_size (head spot s) ≡ head_words s
  head_size-head spot s = grind arith

  pub size-is : (f : Frame) (below : List Frame) → top_size (activations plan j job k outer (f ∷ below)) ≡ words_of f
  size-is f below = omega (arith, head_size-head (spot_in k outer below) f.standing, length-map f.cells (shape plan j job (spot_in k outer (f ∷ below))))

  pub height-is : (fs : List Frame) → height fs ≡ suc (stack_words (activations plan j job k outer fs))
  height-is [] = refl
  height-is (f ∷ below) = omega (arith, height-is below, size-is f below)

  level-head : (spot : ℕ → StackPlace) (s : Standing) (f next : Frame) (level : ℕ) → f.standing ≡ s → level ≡ level_of_frame next → level_from (head spot s) level ≡ level_of_frame (running_from s f next)
  level-head spot s f next level e h = grind arith

  pub level-is : (fs : List Frame) → stack_level (activations plan j job k outer fs) ≡ level_of_frame (running fs)
  level-is [] = refl
  level-is (f ∷ below) = level-head (spot_in k outer below) f.standing f (running below) (stack_level (activations plan j job k outer below)) refl (level-is below)
