-- What was known of the device is forgotten.
use Rattle.std.proofs.Common.{ℕ, List, Option, None, ◌⊎◌, inl, inr}
use Rattle.b67_model.specs.Schedule.{Session}
use Rattle.b67_model.specs.Run.{StepResult}
use Rattle.b67_layout.proofs.Untold.{untold}
use Rattle.b67_task.specs.declared.tables.Machine.{Machine}
use Rattle.b67_session.proofs.Untold.{machine_untold}
use Rattle.b67_session.specs.Slices.{StandsAt, LivesOn, StandsLimited, HasNoTasks, IsLimited, RepresentsWithoutTasks, IsOpen}
use Rattle.b67_session.specs.Shaped.{IsShaped}

pub stands_untold : (told : Option (List (List ℕ))) (k : Machine) (s : Session) → StandsAt told k s → StandsAt None k s
stands_untold told k s h = record { storage = untold h.storage; plan = h.plan; ordered = h.ordered; stands = machine_untold h.storage told k h.plan s h.stands }

limited_untold : (told : Option (List (List ℕ))) (k : Machine) (s : Session) (part : StepResult) → IsLimited told k s part → IsLimited None k s part
limited_untold told k s part h = record { storage = untold h.storage; plan = h.plan; ordered = h.ordered; is = h.is; stands = machine_untold h.storage told k h.plan s h.stands }

rests_untold : (told : Option (List (List ℕ))) (k : Machine) (s : Session) → RepresentsWithoutTasks told k s → RepresentsWithoutTasks None k s
rests_untold told k s h = record { storage = untold h.storage; plan = h.plan; stands = machine_untold h.storage told k h.plan s h.stands; none = h.none }

stage_untold : (told now : Option (List (List ℕ))) (k : Machine) → LivesOn told k ⊎ (StandsLimited told k ⊎ HasNoTasks told k) → LivesOn now k ⊎ (StandsLimited now k ⊎ HasNoTasks now k)
stage_untold told now k (inl h) =
    inl (record {
      some = record { said = None; says = tt; session = h.some.session; stands = stands_untold h.some.said k h.some.session h.some.stands };
      member = h.member;
      task = h.task;
      next = h.next;
    })
stage_untold told now k (inr (inl h)) = inr (inl (record { said = None; says = tt; session = h.session; part = h.part; limited = limited_untold h.said k h.session h.part h.limited }))
stage_untold told now k (inr (inr h)) = inr (inr (record { said = None; says = tt; session = h.session; ordered = h.ordered; rests = rests_untold h.said k h.session h.rests }))

-- a machine that may make steps over a device that tells this may make them over one that tells that, of which nothing is known
pub over_any : (told now : Option (List (List ℕ))) (k : Machine) → IsOpen told k → IsOpen now k
over_any told now k h = record { stage = stage_untold told now k h.stage; countable = h.countable }

pub shaped : (told : Option (List (List ℕ))) (k : Machine) → IsOpen told k → IsShaped k
shaped told k h = over_any told None k h

-- so each device may be handed in
pub open_over : (told : Option (List (List ℕ))) (k : Machine) → IsShaped k → IsOpen told k
open_over told k h = over_any None told k h
