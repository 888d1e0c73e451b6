-- The view of a session doesn't show how many operators were made.
use Rattle.std.proofs.Common.{◌≡◌, ℕ, List, [], ◌∷◌, ◌++◌, Option, Some, None, refl, ◌∙◌, ap, true, false, ⊎_elim, arith}
use Rattle.std.specs.Prelude.{◌==◌, flat_map}
use Rattle.std.proofs.lemmas.Bool.{cases_Bool}
use Rattle.b67_model.specs.Common.{JobConstants, Task, Job, SessionJob, number_of}
use Rattle.b67_model.specs.Keyed.{keyed}
use Rattle.b67_stack.specs.MachineView.{PagedObject, Slot, MachineView}
use Rattle.b67_layout.specs.Common.{Slotted, Placement, slot_with, slot_in, slot_by, slot_at, objects_of, machine_view}

-- the same setting and the same job
pub record SameJob (m n : SessionJob) : Type 0 where
  pub constants : n.constants ≡ m.constants
  pub job : n.progress.job ≡ m.progress.job

abbrev pub SameJobs : List SessionJob → List SessionJob → Type 0
SameJobs [] [] = Unit {0}
SameJobs (m ∷ ms) (n ∷ ns) = SameJob m n × SameJobs ms ns
SameJobs _ _ = ⊥

abbrev SameOption : Option SessionJob → Option SessionJob → Type 0
SameOption None None = Unit {0}
SameOption (Some m) (Some n) = SameJob m n
SameOption _ _ = ⊥

same_keyed : (j : ℕ) (ms ns : List SessionJob) → SameJobs ms ns → SameOption (keyed number_of j ms) (keyed number_of j ns)
same_keyed j [] [] e = tt
same_keyed j (m ∷ ms) (n ∷ ns) e = grind (arith, same_keyed j ms ns e.1)
same_keyed j [] (n ∷ ns) e = absurd e
same_keyed j (m ∷ ms) [] e = absurd e

module _ (plan : Placement) (ms ns : List SessionJob) (e : SameJobs ms ns) where
  same_in : (k j task : ℕ) (a b : Option SessionJob) → SameOption a b → slot_in plan k j task b ≡ slot_in plan k j task a
  same_in k j task a b s = grind arith

  same_by : (k : ℕ) (o : Option Slotted) → slot_by plan ns k o ≡ slot_by plan ms k o
  same_by k None = refl
  same_by k (Some r) = same_in k r.job r.task (keyed number_of r.job ms) (keyed number_of r.job ns) (same_keyed r.job ms ns e)

  same_slots : (k : ℕ) → slot_at plan ns k ≡ slot_at plan ms k
  same_slots k = same_by k (keyed (λ (r : Slotted). r.slot) k plan.rows)

same_objects : (plan : Placement) (ms ns : List SessionJob) → SameJobs ms ns → flat_map (objects_of plan) ns ≡ flat_map (objects_of plan) ms
same_objects plan [] [] e = refl
same_objects plan (m ∷ ms) (n ∷ ns) e = grind (arith, same_objects plan ms ns e.1)
same_objects plan [] (n ∷ ns) e = absurd e
same_objects plan (m ∷ ms) [] e = absurd e

pub same_machine_view : (plan : Placement) (ms ns : List SessionJob) → SameJobs ms ns → machine_view plan ns ≡ machine_view plan ms
same_machine_view plan ms ns e = grind (arith, same_slots, same_objects)
