-- A slice that pauses, and what is still known of the sectors.
use Rattle.std.proofs.Common.{◌≡◌, ◌≢◌, ℕ, ◌≤◌, List, Option, Some, None, Ok, arith}
use Rattle.b67_layout.specs.Machine.{Says, DeviceAfterCalls, content_after}
use Rattle.b67_model.specs.Schedule.{Session}
use Rattle.b67_task.specs.declared.tables.Machine.{Machine}
use Rattle.b67_session.specs.declared.slices.Progress.{Progress}
use Rattle.b67_session.specs.declared.slices.Progress.TheVariants as progress
use Rattle.b67_session.specs.Slices.{Pauses, Slices}
use Rattle.b67_session.proofs.Going.{Going, going-halted, going-ended}

-- what is known later is what the device then tells, if anything
pub says_retold : (said told : Option (List (List ℕ))) → Says (content_after said told) told
says_retold said told = grind arith

-- where something was known, the device tells its sectors still
pub still_told : {D : Type 0} (holds : D → Option (List (List ℕ))) (size calls faults : D → ℕ) (d e : D) (told : Option (List (List ℕ))) → Says told (holds d) → DeviceAfterCalls holds size calls faults d e → told ≢ None → holds e ≢ None
still_told holds size calls faults d e told says served some = grind arith

pub known_still : (said told : Option (List (List ℕ))) → (said ≢ None → told ≢ None) → said ≢ None → content_after said told ≢ None
known_still said told tells some = grind arith

pub retold_twice : (said told told' : Option (List (List ℕ))) → (said ≢ None → told ≢ None) → content_after (content_after said told) told' ≡ content_after said told'
retold_twice said told told' tells = grind arith

pub pause_slices : {K : Type 0} (taken : K → Option (List ℕ)) (exact : Type 0) (told : Option (List (List ℕ))) (count n steps : ℕ) (first : Session) (old now : Machine) (paper paper' : K) → Going taken exact told steps first old now paper paper'
    → steps ≤ n → (p : Progress) → Pauses now.tasks now.tasks.halt (Some p) → Slices taken told exact count n first (Ok p) old now paper paper'
pause_slices taken exact told count n steps first old now paper paper' g few progress.Ended h = going-ended taken exact told count n steps first old now paper paper' g few h
pause_slices taken exact told count n steps first old now paper paper' g few progress.Halted h = going-halted taken exact told count n steps first old now paper paper' g few h.0 h.1
pause_slices taken exact told count n steps first old now paper paper' g few progress.More h = absurd h
