-- What the program's call does with the file of its path.
use Rattle.std.specs.Prelude.{◌≡◌, ◌≤◌, ◌++◌, ℕ, List, Option, Some, Bool, true, false}
use Rattle.b67_io.specs.Causes.{Rose}
use Rattle.b67_backing.specs.declared.device.Backing.{Ghosts}
use Rattle.b67_job.specs.declared.command.CommandLine.{CommandLine}
use Rattle.b67_job.specs.declared.command.CommandLine.TheVariants as lines
use Rattle.b67_program.specs.Opening.{OpensPaths, Finds, Leaves}
use Rattle.b67_recorded.specs.Mirror.{IsMirrorOf}
use Rattle.b67_recorded.specs.declared.mirror.Mirrored.{Mirrored}

-- the command that reads sectors before it has written them
abbrev pub reads_sectors : Option CommandLine → Bool
reads_sectors (Some lines.Resume) = true
reads_sectors _ = false

-- The file of a path was opened and is mirrored: if it is read before it is written, the copy is what all its sectors hold.
pub record FindsMirrored {D F : Type 0} {g : Ghosts F} (kept : D → List ℕ → Option (List (List ℕ))) (now : D) (copies : Bool) (path : List ℕ) (file : Mirrored F g) : Type 0 where
  pub device : F
  pub found : Finds kept g.holds now path device
  pub mirrors : IsMirrorOf g.holds g.size copies device file.inner file.held.items
  pub calm : file.faults ≡ 0

-- the device behind a mirror is left as the file of the path
abbrev pub LeavesMirrored : {D F : Type 0} {g : Ghosts F} → (D → List ℕ → Option (List (List ℕ))) → D → List ℕ → Mirrored F g → Type 0
LeavesMirrored {g = g} kept later path file = Leaves kept g.holds later path file.inner

-- The sectors of a file with no more than 65,536 weren't all copied: a read of it failed.
pub record WasNotCopied {D F : Type 0} (kept : D → List ℕ → Option (List (List ℕ))) (holds : F → Option (List (List ℕ))) (size faults : F → ℕ) (now later : D) (path : List ℕ) : Type 0 where
  pub device : F
  pub device_after : F
  pub found : Finds kept holds now path device
  pub left_so : Leaves kept holds later path device_after
  pub failed : size device ≤ 65536 → Rose faults device device_after

-- these paths were noted, and the files of these were opened and no others
pub record OpensNoted {D : Type 0} (opened : D → Option (List (List ℕ))) (now later : D) (noted noted' paths : List (List ℕ)) : Type 0 where
  pub notes : noted' ≡ noted ++ paths
  pub opens : OpensPaths opened now later paths

-- no file was opened, and none was closed
pub record FilesUnchanged {D : Type 0} (now later : D) (noted noted' : List (List ℕ)) : Type 0 where
  pub notes : noted' ≡ noted
  pub same : later ≡ now
