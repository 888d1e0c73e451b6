-- One file in memory, whatever the path, and what a call of `serve` over it is.
use Rattle.std.specs.Prelude.{ℕ, List, Option, Some}
use denote.Ref.{Bor}
use Rattle.b67_io.specs.declared.free.FreeTape.{FreeTape}
use Rattle.b67_io.specs.declared.paper.Paper.{Paper}
use Rattle.b67_io.specs.Free.{free_told, free_faults}
use Rattle.b67_io.specs.Paper.{paper_told, paper_faults}
use Rattle.b67_job.specs.Device.{device_of}
use Rattle.b67_program.specs.Opening.{Finds, Leaves}
use Rattle.b67_program.specs.Served.{IsServed}
use Rattle.b67_promises.specs.declared.shelf.Shelf.{Shelf}
use Rattle.b67_promises.specs.declared.shelf.ShelfFile.{ShelfFile}

-- what the file of each path holds
abbrev pub shelf_kept : Shelf → List ℕ → Option (List (List ℕ))
shelf_kept shelf path = Some shelf.held

-- what its sectors hold while they are used
abbrev pub shelf_told : ShelfFile → Option (List (List ℕ))
shelf_told file = Some file.held

-- `serve` answers so on these words, a shelf, a tape and a paper
abbrev pub IsServedOnShelf : List (Bor (List ℕ)) → (shelf shelf' : Shelf) (input input' : FreeTape) (old new : Paper) (answer : ℕ) → Type 0
IsServedOnShelf words shelf shelf' input input' old new answer =
    IsServed words free_told free_faults input input' (Finds shelf_kept shelf_told shelf) (Leaves shelf_kept shelf_told shelf') (device_of shelf_told (λ file. 64) (λ file. 0)) paper_told paper_faults old new answer
