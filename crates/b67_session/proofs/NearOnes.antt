-- An operator that was made at a reader.
use Rattle.std.proofs.Common.{◌≡◌, ◌≢◌, ℕ, ◌+◌, ◌^◌, ◌<◌, ◌≤◌, List, length, Option, true, refl, sym, arith, subst}
use Rattle.b67_model.specs.Common.{Session}
use Rattle.b67_layout.specs.Common.{Placement, RepresentsStorage}
use Rattle.b67_stack.specs.declared.Cpu.{Cpu}
use Rattle.b67_stack.specs.declared.Step.{Step}
use Rattle.b67_stack.specs.declared.Step.TheVariants.{Done}
use Rattle.b67_stack.specs.MachineView.{PagedObject}
use Rattle.b67_stack.specs.Represents.{Storage}
use Rattle.b67_exec.specs.declared.apart.Went.TheVariants as wents
use Rattle.b67_exec.specs.Operators.{CutsRecord}
use Rattle.b67_exec.specs.Near.{FarMade, LeftMade, StopsHere}
use Rattle.b67_task.specs.LeftArrays.{IsLeft, AreReleased}
use Rattle.b67_task.specs.declared.tables.Machine.{Machine}
use Rattle.b67_task.specs.Runs.{RunsTask, Keeps}
use Rattle.b67_session.specs.Makes.{MakesInSegment, ForEachReady}
use Rattle.b67_session.proofs.Gives.{Lefts, upto_fits, asks, in_turn, kept_after, gives}
use Rattle.b67_session.proofs.OperatorsMade.{operator_made, not_made, operator_length}

-- no two answers are one
pub on_not : wents.On ≢ wents.Not
on_not e = let z : ⊥ = cc in z

pub away_not : wents.Away ≢ wents.Not
away_not e = let z : ⊥ = cc in z

pub away_on : wents.Away ≢ wents.On
away_on e = let z : ⊥ = cc in z

pub not_on : wents.Not ≢ wents.On
not_on e = let z : ⊥ = cc in z

-- one that leaves no record
pub stays_made : (old : Machine) (new : Cpu) → FarMade old.cpu new → ForEachReady old (λ x told plan s m t. MakesInSegment x told plan s m t Done old (record old { cpu = new }))
stays_made old new made x told plan s m t o h runs ready =
    operator_made x told plan s m t old o h runs ready new Done (λ code. made.left x plan s m t o h.session runs) (made.row x plan s m t o h.session runs)

pub stays_keeps : (old : Machine) (new : Cpu) → RunsTask old → FarMade old.cpu new → Keeps old (record old { cpu = new })
stays_keeps old new r made = record {
  core = operator_length r.storage r.plan r.session r.member r.task Done old.cpu new r.stands.session (made.row r.storage r.plan r.session r.member r.task r.ordered r.stands.session r.running);
  sectors = refl;
  given = refl;
}

-- what isn't made, by its reason
pub stopped : (k : Machine) (why : Step) → StopsHere k.cpu why → ForEachReady k (λ x told plan s m t. MakesInSegment x told plan s m t why k k)
stopped k why stops x told plan s m t o h runs ready = not_made x told plan s m t k o h runs ready k.cpu why stops.other (stops.row x plan s m t o h.session runs)

-- the first operator of a turn was made, or this is the reason
pub stopped_first : (old new : Machine) (why : Step) → new ≡ old → StopsHere new.cpu why → ForEachReady old (λ x told plan s m t. MakesInSegment x told plan s m t why old new)
stopped_first old new why same stops = subst (λ (z : Machine). ForEachReady z (λ x told plan s m t. MakesInSegment x told plan s m t why z new)) same (stopped new why stops)

-- what giving back its arrays, up to an address, says of a machine
abbrev pub GivesUpto : Machine → Cpu → ℕ → Machine → Type 0
GivesUpto old new high after =
    (left : List PagedObject) (x : Storage) (told : Option (List (List ℕ))) (plan : Placement) (s : Session)
    → IsLeft left x new plan s (new.regs.s + 1) high → RepresentsStorage old.areas old.sectors told new.core x
    → AreReleased left x new after.cpu after.areas after.sectors told plan s

-- one that leaves a record
module _ (old : Machine) (new : Cpu) (high : ℕ) (made : LeftMade old.cpu new high) where
  lefts : Lefts old.cpu true
  lefts x plan s m t o h runs code = sym (made.left x plan s m t o h runs)

  cuts : true ≡ true → Done ≡ Done → CutsRecord old.cpu new
  cuts leaves done = made.cuts

  -- the new top's address fits
  pub left_fits : RunsTask old → new.regs.s + 1 < 2 ^ 20
  left_fits r = omega (arith, in_turn old new Done true made.row lefts cuts refl refl r, upto_fits old r)

  -- what is asked of giving back
  pub left_asks : RunsTask old → (left : List PagedObject) × (x : Storage) × (told : Option (List (List ℕ))) × (plan : Placement) × (s : Session)
      × IsLeft left x new plan s (new.regs.s + 1) high × RepresentsStorage old.areas old.sectors told new.core x
  left_asks r =
      let P : ℕ → Type 0 = λ n. (left : List PagedObject) × (x : Storage) × (told : Option (List (List ℕ))) × (plan : Placement) × (s : Session)
      × IsLeft left x new plan s (new.regs.s + 1) n × RepresentsStorage old.areas old.sectors told new.core x in
      subst P (sym made.upto) (asks old new Done true made.row lefts cuts refl refl r)

  pub left_in_turn : RunsTask old → new.regs.s + 1 ≤ high
  left_in_turn r = omega (arith, in_turn old new Done true made.row lefts cuts refl refl r, made.upto)

  module _ (after : Machine) (areas : after.areas ≡ old.areas) (tasks : after.tasks ≡ old.tasks) (given : GivesUpto old new high after) where
    back : GivesUpto old new (old.cpu.regs.s + 1) after
    back = subst (λ (n : ℕ). GivesUpto old new n after) made.upto given

    -- what is made
    pub left_made : ForEachReady old (λ x told plan s m t. MakesInSegment x told plan s m t Done old after)
    left_made = gives old new Done true made.row lefts cuts refl refl after areas tasks back

    pub left_keeps : RunsTask old → length after.sectors.links ≡ length old.sectors.links → Keeps old after
    left_keeps r count = kept_after old new Done true made.row lefts cuts refl refl r after areas tasks count back
