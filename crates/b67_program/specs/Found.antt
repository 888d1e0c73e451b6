-- What a search over memory answers.
use Rattle.std.specs.Prelude.{◌≡◌, ◌≤◌, ◌<◌, ◌^◌, ℕ, List, length, Option, Some, Result, Ok, Err}
use Rattle.b67_backing.specs.Held.{blank}
use Rattle.b67_backing.specs.Memory.{honest_sectors}
use Rattle.b67_backing.specs.declared.honest.HonestBacking.{HonestBacking}
use Rattle.b67_io.specs.Free.{free_left, free_told, free_faults}
use Rattle.b67_io.specs.declared.free.FreeTape.{FreeTape}
use Rattle.b67_model.specs.declared.limits.TheConstants.{LEAST_CORE}
use Rattle.b67_job.specs.Passed.{CodePlace, Sought}
use Rattle.b67_job.specs.declared.searching.SearchFault.{SearchFault}
use Rattle.b67_job.specs.Searches.{FindsInText, FailsInDeck}
use Rattle.b67_job.specs.SearchStatus.{search_status}
use Rattle.b67_program.specs.declared.finding.FindFault.{FindFault}
use Rattle.b67_program.specs.declared.finding.FindFault.TheVariants as faults

-- The text was on a tape in memory, and so many sectors of zeros were in memory too, neither of which can fail. The search through
-- the run of the deck has come to this, by its cause.
pub record FailsInMemory (text : List ℕ) (core sectors : ℕ) (what : Sought) (places : List CodePlace) (from most : ℕ) (fault : SearchFault) : Type 0 where
  pub deck : FreeTape
  pub deck_after : FreeTape
  pub reads : free_left deck ≡ text
  pub device : HonestBacking
  pub device_after : HonestBacking
  pub zeros : honest_sectors device ≡ blank sectors
  pub cause : FailsInDeck free_told free_faults deck deck_after (λ (b : HonestBacking). Some (honest_sectors b)) (λ (b : HonestBacking). length (honest_sectors b)) (λ (b : HonestBacking). 0) device device_after
      core what places from most fault

-- there are a core of so many words and a device of so many sectors
pub record AreInBounds (core sectors : ℕ) : Type 0 where
  pub core_low : LEAST_CORE ≤ core
  pub core_high : core < 2 ^ 20
  pub some : 1 ≤ sectors
  pub few : sectors < 2 ^ 20

-- Of the run of the text's deck this is the least of the counts from `from` on, below `most` and before the halt, at which what is
-- sought holds, or none is; that core has the words of the steps before it, or of all. Or the search answers nothing, and says why;
-- memory may be refused.
abbrev pub IsFoundInMemory : List ℕ → ℕ → ℕ → Sought → List CodePlace → ℕ → ℕ → Result (Option ℕ) FindFault → Type 0
IsFoundInMemory text core sectors what places from most (Ok found) = FindsInText text core what places from most found
IsFoundInMemory text core sectors what places from most (Err (faults.Search fault)) = FailsInMemory text core sectors what places from most fault
IsFoundInMemory text core sectors what places from most (Err faults.Memory) = Unit {0}
IsFoundInMemory text core sectors what places from most (Err faults.OutOfBounds) = AreInBounds core sectors → ⊥

-- the status that tells why a search answers nothing
abbrev pub find_status : FindFault → ℕ
find_status (faults.Search fault) = search_status fault
find_status faults.Memory = 9
find_status faults.OutOfBounds = 255
