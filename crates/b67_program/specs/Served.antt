-- How the program's call ends.
use Rattle.std.specs.Prelude.{◌≡◌, ◌≢◌, ◌≤◌, ◌⊎◌, ℕ, List, [], length, Option, Some, None, Ok, true}
use denote.Ref.{Bor}
use Rattle.b67_io.specs.Causes.{Rose, Stayed}
use Rattle.b67_io.specs.Free.{free_left, free_told, free_faults}
use Rattle.b67_io.specs.declared.free.FreeTape.{FreeTape}
use Rattle.b67_backing.specs.Memory.{memory_sectors, memory_told, memory_faults, failing_reads, failing_writes}
use Rattle.b67_backing.specs.Held.{blank}
use Rattle.b67_backing.specs.declared.memory.MemoryBacking.{MemoryBacking}
use Rattle.b67_task.specs.declared.tables.Machine.{Machine}
use Rattle.b67_session_lines.specs.Ends.{EndsPrinting}
use Rattle.b67_job.specs.Command.{command_line_of, backing_path}
use Rattle.b67_job.specs.declared.command.CommandLine.{CommandLine}
use Rattle.b67_job.specs.declared.command.CommandLine.TheVariants as commands
use Rattle.b67_job.specs.Device.{Device, DeviceTells, device_of, DeviceUnchanged}
use Rattle.b67_job.specs.Due.{Answered, Supplies, IsAmple, IsOpenedOrResumed, reading_text}
use Rattle.b67_job.specs.Judgement.{asked, judged_status, reads_text, text_limit}
use Rattle.b67_job.specs.Lines.{memory_text}
use Rattle.b67_job.specs.Passed.{AreTyped, parts_of}
use Rattle.b67_job.specs.Statuses.{StatusMeans}
use Rattle.b67_program.specs.Input.{IsTakenIn}

-- The device has as many sectors as before, its count of failures didn't fall, and if it told what its sectors hold it still does.
pub record OutlastsCalls {B : Type 0} (d : Device B) : Type 0 where
  pub size : d.sectors_now ≡ d.sectors
  pub faults : d.failed_before ≤ d.failed_now
  pub tells : DeviceTells d → d.now ≢ None

-- each number of a machine whose image was asked for is within its type: so it is known by that image
abbrev pub ImageIsTyped : Option CommandLine → Option Machine → Type 0
ImageIsTyped (Some (commands.Image core)) machine = (k : Machine) → machine ≡ Some k → AreTyped (parts_of k)
ImageIsTyped _ machine = Unit {0}

-- The command was carried out over a text: a tape in memory has it, which tells its bytes and can't fail. What `run` says of a deck
-- is said of this tape.
pub record CarriesOut {B K : Type 0} (words : List (Bor (List ℕ))) (bytes : List ℕ) (d : Device B) (taken : K → Option (List ℕ)) (faults : K → ℕ) (old new : K) (status : ℕ) : Type 0 where
  pub deck : FreeTape
  pub deck_after : FreeTape
  pub holds : free_left deck ≡ bytes
  pub machine : Option Machine
  pub kept : OutlastsCalls d
  pub opened : (k : Machine) → machine ≡ Some k → IsOpenedOrResumed words free_told free_faults deck deck_after d k
  pub typed : ImageIsTyped (command_line_of words) machine
  pub due : Answered words free_told free_faults deck deck_after d machine taken faults old new status
  pub means : StatusMeans words free_told free_faults deck deck_after d machine taken faults old new status
  -- If core and device suffice, and the printer and the device don't fail, the command and these bytes decide, or memory was
  -- refused.
  pub complete : (command : CommandLine) → (text : List ℕ) → command_line_of words ≡ Some command
      → Supplies command free_told free_faults deck deck_after text → IsAmple d command text
      → Stayed faults old new → Stayed (λ (count : ℕ). count) d.failed_before d.failed_now
      → (status ≡ judged_status (asked command text)) ⊎ (status ≡ 9)

-- it was so over the bytes that were read
pub record IsCarriedOut {S B K : Type 0} (words : List (Bor (List ℕ))) (left : S → Option (List ℕ)) (source_faults : S → ℕ) (input input' : S) (d : Device B)
    (taken : K → Option (List ℕ)) (faults : K → ℕ) (old new : K) (status : ℕ) : Type 0 where
  pub bytes : List ℕ
  pub given : IsTakenIn (text_limit (command_line_of words)) left source_faults input input' (Ok bytes)
  pub over : CarriesOut words bytes d taken faults old new status

-- the command was carried out, or a read of its text failed, or memory was refused for that text
pub data IsAnswered {S B K : Type 0} (words : List (Bor (List ℕ))) (left : S → Option (List ℕ)) (source_faults : S → ℕ) (input input' : S) (d : Device B)
    (taken : K → Option (List ℕ)) (faults : K → ℕ) (old new : K) (answer : ℕ) : Type 0 where
  carried_out : IsCarriedOut words left source_faults input input' d taken faults old new answer → IsAnswered words left source_faults input input' d taken faults old new answer
  reading_failed : reads_text (command_line_of words) ≡ true → Rose source_faults input input' → DeviceUnchanged d → EndsPrinting taken faults old new 7 reading_text answer
      → IsAnswered words left source_faults input input' d taken faults old new answer
  text_wants_memory : reads_text (command_line_of words) ≡ true → DeviceUnchanged d → EndsPrinting taken faults old new 9 memory_text answer → IsAnswered words left source_faults input input' d taken faults old new answer

-- over a file if the words name a path, from what it was found to hold to what it is left to hold; over 4,096 sectors of zeros in memory if they don't, unless memory is refused for these
pub data IsServed {S B K : Type 0} (words : List (Bor (List ℕ))) (left : S → Option (List ℕ)) (source_faults : S → ℕ) (input input' : S) (finds leaves : List ℕ → B → Type 0) (device : B → B → Device B)
    (taken : K → Option (List ℕ)) (faults : K → ℕ) (old new : K) (answer : ℕ) : Type 0 where
  over_file : (path : List ℕ) (file file' : B) → backing_path words ≡ Some path → finds path file → leaves path file' → IsAnswered words left source_faults input input' (device file file') taken faults old new answer
      → IsServed words left source_faults input input' finds leaves device taken faults old new answer
  over_memory : (held held' : MemoryBacking) → backing_path words ≡ None → memory_sectors held ≡ blank 4096 → failing_reads held ≡ [] → failing_writes held ≡ [] → held.faults ≡ 0
      → IsAnswered words left source_faults input input' (device_of memory_told (λ b. length (memory_sectors b)) memory_faults held held') taken faults old new answer
      → IsServed words left source_faults input input' finds leaves device taken faults old new answer
  sectors_want_memory : backing_path words ≡ None → EndsPrinting taken faults old new 9 memory_text answer → IsServed words left source_faults input input' finds leaves device taken faults old new answer
