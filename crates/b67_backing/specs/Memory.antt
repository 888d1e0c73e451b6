-- Devices in memory.
use Rattle.std.specs.Prelude.{ℕ, ℤ, List, Option, Some}
use Rattle.b67_backing.specs.declared.memory.MemoryBacking.{MemoryBacking}
use Rattle.b67_backing.specs.declared.honest.HonestBacking.{HonestBacking}

-- the sectors of a device in memory
abbrev pub memory_sectors : MemoryBacking → List (List ℕ)
memory_sectors b = b.held.items

abbrev pub memory_told : MemoryBacking → Option (List (List ℕ))
memory_told b = Some (memory_sectors b)

abbrev pub memory_faults : MemoryBacking → ℕ
memory_faults b = b.faults

abbrev pub memory_calls : MemoryBacking → ℕ
memory_calls b = b.calls

abbrev pub honest_sectors : HonestBacking → List (List ℕ)
honest_sectors b = b.held.items

-- the numbers of the reads and of the writes that fail, and how many were made
abbrev pub failing_reads : MemoryBacking → List ℤ
failing_reads b = b.reads.fails

abbrev pub failing_writes : MemoryBacking → List ℤ
failing_writes b = b.writes.fails

abbrev pub reads_made : MemoryBacking → ℤ
reads_made b = b.reads.made

abbrev pub writes_made : MemoryBacking → ℤ
writes_made b = b.writes.made
