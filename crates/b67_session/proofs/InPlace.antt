-- What is left is held as it was: over one call and the next.
use Rattle.std.proofs.Common.{◌≡◌, ℕ, List, [], ◌∷◌, ◌++◌, Some, refl, ◌∙◌, arith}
use Rattle.std.specs.Prelude.{flat_map}
use Rattle.b67_model.specs.Common.{SessionJob, number_of, Session}
use Rattle.b67_model.specs.Keyed.{keyed, change_keyed}
use Rattle.b67_stack.specs.Common.{Storage}
use Rattle.b67_layout.specs.Common.{Placement, machine_view, objects_of}
use Rattle.b67_session.specs.Ends.{LeavesInPlace}

pub in_place_same : (x : Storage) (plan : Placement) (s : Session) → LeavesInPlace x x plan plan s s
in_place_same x plan s = record { were = λ t i. i; held = λ t i. refl }

pub in_place_then : (x y z : Storage) (p q r : Placement) (s u v : Session) → LeavesInPlace x y p q s u → LeavesInPlace y z q r u v → LeavesInPlace x z p r s v
in_place_then x y z p q r s u v a b = record { were = λ t i. a.were t (b.were t i); held = λ t i. b.held t i ∙ a.held t (b.were t i) }

-- a session with the same view
pub in_place_view : (x y : Storage) (plan placed : Placement) (s after other : Session) → machine_view placed other.jobs ≡ machine_view placed after.jobs → LeavesInPlace x y plan placed s after → LeavesInPlace x y plan placed s other
in_place_view x y plan placed s after other same a = grind arith

-- a job that is changed in other things than its arrays has the same objects
pub objects_kept : (plan : Placement) (n : ℕ) (f : SessionJob → SessionJob) (m : SessionJob) (jobs : List SessionJob) → keyed number_of n jobs ≡ Some m → objects_of plan (f m) ≡ objects_of plan m
    → flat_map (objects_of plan) (change_keyed number_of n f jobs) ≡ flat_map (objects_of plan) jobs
objects_kept plan n f m [] found same = refl
objects_kept plan n f m (y ∷ ys) found same = grind (arith, objects_kept plan n f m ys)
