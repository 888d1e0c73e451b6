-- What a machine shows is the session that it represents, in all but four things: the names of frames and arrays, the numbers in arrays,
-- the levels, entries and code words of segments, and what is kept of ended tasks.
use Rattle.std.specs.Prelude.{◌≡◌, ℕ, ◌+◌, List, [], ◌∷◌, map, length, Option}
use Rattle.b67_lemmas.specs.Lists.{Has}
use Rattle.b67_model.specs.Common.{Array, Segment, SessionJob, Session, IsInOrderButPlaces}
use Rattle.b67_stack.specs.Represents.{Storage}
use Rattle.b67_layout.specs.Placement.{Placement}
use Rattle.b67_task.specs.declared.tables.Machine.{Machine}
use Rattle.b67_task.specs.Tables.{MachineRepresents}
use Rattle.b67_layout_shown.specs.Places.{job_placed}
use Rattle.b67_layout_shown.specs.Shown.{shown}
use Rattle.b67_layout_shown.specs.Machines.{sight_of}

-- how many code words each segment has
abbrev pub code_lengths : List Segment → List ℕ
code_lengths ss = map (λ (g : Segment). length g.code) ss

-- The one is the other under names by place, with as many numbers in each array and as many words in each segment.
pub record IsJobButNames (seen m : SessionJob) : Type 0 where
  pub number : seen.constants.number ≡ m.constants.number
  pub stack_size : seen.constants.stack_size ≡ m.constants.stack_size
  pub limit : seen.constants.limit ≡ m.constants.limit
  pub dictionary : seen.constants.dictionary ≡ m.constants.dictionary
  pub code : code_lengths seen.constants.segments ≡ code_lengths m.constants.segments
  pub made : seen.progress.made ≡ m.progress.made
  pub rows : ℕ
  pub all : rows + length m.constants.segments ≡ length m.constants.dictionary.cells
  pub numbers : ℕ → List ℕ
  pub long : (a : Array) → Has m.progress.job.arrays a → length (numbers a.identity) ≡ length a.numbers
  pub job : seen.progress.job ≡ job_placed rows numbers m.progress.job

abbrev pub AreJobsButNames : List SessionJob → List SessionJob → Type 0
AreJobsButNames [] [] = Unit {0}
AreJobsButNames (y ∷ seen) (m ∷ more) = IsJobButNames y m × AreJobsButNames seen more
AreJobsButNames _ _ = ⊥

pub record IsSessionButNames (seen s : Session) : Type 0 where
  pub jobs : AreJobsButNames seen.jobs s.jobs
  pub made : seen.made ≡ s.made
  pub last : seen.last ≡ s.last
  pub turn : seen.turn ≡ s.turn
  pub switches : seen.switches ≡ s.switches
  pub quantum : seen.quantum ≡ s.quantum
  pub peak : seen.peak ≡ s.peak

-- so it is of each session in order but for places that a machine represents, whatever its device tells
abbrev pub MachinesShowTheirSessions : Type 0
MachinesShowTheirSessions =
    (x : Storage) (told : Option (List (List ℕ))) (k : Machine) (plan : Placement) (s : Session) →
    IsInOrderButPlaces s → MachineRepresents x told k plan s → IsSessionButNames (shown (sight_of k)) s
