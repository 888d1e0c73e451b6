-- What steps from an image over the caller's memory answer.
use Rattle.std.specs.Prelude.{◌≡◌, ◌≤◌, ◌<◌, ◌^◌, ℕ, List, [], take, length}
use Rattle.b67_io.specs.Free.{free_left, free_told, free_faults}
use Rattle.b67_io.specs.Paper.{paper_bytes, paper_told, paper_faults}
use Rattle.b67_io.specs.declared.free.FreeTape.{FreeTape}
use Rattle.b67_io.specs.declared.paper.Paper.{Paper}
use Rattle.b67_job.specs.Device.{device_of}
use Rattle.b67_job.specs.Stepping.{StepsFromImage}
use Rattle.b67_program.specs.Lent.{lent_sectors, lent_told, lent_size, lent_faults}
use Rattle.b67_program.specs.declared.lent.LentSectors.{LentSectors}

-- The image was on a tape in memory that can't fail. The sectors were those that the caller lent, in memory that can't fail, and what
-- was left in them is known. All was printed on a paper with so much room, of which no put fails that fits, and these bytes were taken.
pub record IsStepInMemory (image : List ℕ) (most : ℕ) (sectors sectors' : List (List ℕ)) (room : ℕ) (printed : List ℕ) (status : ℕ) : Type 0 where
  pub source : FreeTape
  pub source_after : FreeTape
  pub reads : free_left source ≡ image
  pub device : LentSectors
  pub device_after : LentSectors
  pub lent : lent_sectors device ≡ sectors
  pub left : lent_sectors device_after ≡ sectors'
  pub paper : Paper
  pub paper_after : Paper
  pub clean : paper_bytes paper ≡ []
  pub wide : paper.room ≡ room
  pub calm : paper.fails ≡ []
  pub holds : printed ≡ take room (paper_bytes paper_after)
  pub steps : StepsFromImage most free_told free_faults source source_after (device_of lent_told lent_size lent_faults device device_after) paper_told paper_faults paper paper_after status

-- It was so; or memory was refused for the image, the paper or the sectors; or no device has so many sectors. Then nothing is printed,
-- and the caller's sectors are as they were.
pub data IsSteppedInMemory (image : List ℕ) (most : ℕ) (sectors sectors' : List (List ℕ)) (room : ℕ) (printed : List ℕ) (status : ℕ) : Type 0 where
  is_step : IsStepInMemory image most sectors sectors' room printed status → IsSteppedInMemory image most sectors sectors' room printed status
  lacks_memory : status ≡ 9 → printed ≡ [] → sectors' ≡ sectors → IsSteppedInMemory image most sectors sectors' room printed status
  lacks_device : (1 ≤ length sectors → length sectors < 2 ^ 20 → ⊥) → status ≡ 255 → printed ≡ [] → sectors' ≡ sectors → IsSteppedInMemory image most sectors sectors' room printed status
