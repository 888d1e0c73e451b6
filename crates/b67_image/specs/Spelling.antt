-- The bytes of an image, all numbers in big-endian order.
use Rattle.std.specs.Prelude.{ℕ, ℤ, List, ◌++◌, length}
use Rattle.std.specs.List.{flat_map}
use Rattle.std.specs.Int.{w8, w16, w32, w64, to_be_bytes, cast_unsigned}
use Rattle.b67_word.specs.Tagged.{Tagged}
use Rattle.b67_word.specs.declared.couples.Place.{Place}
use Rattle.b67_word.specs.Numbers.{number}
use Rattle.b67_ctl.specs.declared.registers.Regs.{Regs}
use Rattle.b67_area.specs.declared.directory.Areas.{Areas}
use Rattle.b67_model_text.specs.declared.deck.Switch.{Switch}
use Rattle.b67_task.specs.declared.tables.TaskState.{TaskState}
use Rattle.b67_task.specs.declared.tables.TaskState.TheVariants.{Ready, Awaits, WaitsAt}
use Rattle.b67_task.specs.declared.tables.TaskRow.{TaskRow}
use Rattle.b67_task.specs.declared.tables.JobRow.{JobRow}
use Rattle.b67_image.specs.Parts.{ToldCounts, ImageParts}

-- a number in 1, 2, 4 and 8 bytes
abbrev pub one_byte : ℕ → List ℕ
one_byte n = to_be_bytes w8 n

abbrev pub two_bytes : ℕ → List ℕ
two_bytes n = to_be_bytes w16 n

abbrev pub four_bytes : ℕ → List ℕ
four_bytes n = to_be_bytes w32 n

abbrev pub eight_bytes : ℕ → List ℕ
eight_bytes n = to_be_bytes w64 n

-- the text B67IMAGE
abbrev pub image_header : ℕ
image_header = 0x423637494d414745

-- the number of items, and each item
abbrev pub listed_bytes : {X : Type 0} → (X → List ℕ) → List X → List ℕ
listed_bytes spell xs = four_bytes (length xs) ++ flat_map spell xs

-- a whole number in two's complement
abbrev pub signed_bytes : ℤ → List ℕ
signed_bytes z = eight_bytes (cast_unsigned w64 z)

abbrev pub tagged_bytes : Tagged → List ℕ
tagged_bytes w = eight_bytes (number w)

abbrev pub place_bytes : Place → List ℕ
place_bytes p = two_bytes p.word ++ one_byte p.syllable

abbrev pub regs_bytes : Regs → List ℕ
regs_bytes r =
    four_bytes r.s ++ (four_bytes r.f ++ (four_bytes r.bosr ++ (four_bytes r.losr ++ (one_byte r.slot ++ (one_byte r.level ++ (two_bytes r.segment
    ++ (place_bytes r.place ++ (four_bytes r.dict ++ (two_bytes r.entries ++ (four_bytes r.stacks ++ (two_bytes r.stack_size ++ one_byte r.peak)))))))))))

abbrev pub areas_bytes : Areas → List ℕ
areas_bytes a = four_bytes a.size ++ four_bytes a.low

abbrev pub counts_bytes : ToldCounts → List ℕ
counts_bytes c =
    four_bytes c.quantum ++ (eight_bytes c.made ++ (four_bytes c.turn ++ (one_byte c.last_job ++ (four_bytes c.last_number ++ (one_byte c.running ++ four_bytes c.next_switch)))))

abbrev pub switch_bytes : Switch → List ℕ
switch_bytes w = eight_bytes w.count ++ (one_byte w.job ++ four_bytes w.task)

abbrev pub name_bytes : List ℕ → List ℕ
name_bytes name = one_byte (length name) ++ name

-- a job but for its name and its numbers for READ
abbrev pub job_front : JobRow → List ℕ
job_front j = four_bytes j.dict ++ (two_bytes j.segments ++ (two_bytes j.rows ++ (eight_bytes j.limit ++ (eight_bytes j.made ++ four_bytes j.next_task))))

-- the numbers for READ, and which is the next
abbrev pub job_numbers : JobRow → List ℕ
job_numbers j = listed_bytes signed_bytes j.numbers ++ four_bytes j.next_number

abbrev pub job_bytes : JobRow → List ℕ
job_bytes j = name_bytes j.name ++ (job_front j ++ job_numbers j)

-- whether a task may go on: its kind, a number and an offset
abbrev pub state_bytes : TaskState → List ℕ
state_bytes Ready = one_byte 0 ++ (four_bytes 0 ++ two_bytes 0)
state_bytes (Awaits n) = one_byte 1 ++ (four_bytes n ++ two_bytes 0)
state_bytes (WaitsAt mark offset) = one_byte 2 ++ (four_bytes mark ++ two_bytes offset)

abbrev pub task_row_bytes : TaskRow → List ℕ
task_row_bytes r =
    one_byte r.job ++ (four_bytes r.number ++ (one_byte r.slot ++ (one_byte r.parent ++ (two_bytes r.critical ++ (state_bytes r.state ++ (two_bytes r.segment ++ place_bytes r.place))))))

-- core and the registers
abbrev pub cpu_bytes : ImageParts → List ℕ
cpu_bytes p = listed_bytes tagged_bytes p.core ++ (regs_bytes p.regs ++ (flat_map four_bytes p.display ++ flat_map two_bytes p.critical))

-- the tables of jobs and tasks
abbrev pub tables_bytes : ImageParts → List ℕ
tables_bytes p = counts_bytes p.counts ++ (listed_bytes switch_bytes p.switches ++ (listed_bytes job_bytes p.jobs ++ listed_bytes task_row_bytes p.rows))

-- all bytes
unfoldable pub image_bytes : ImageParts → List ℕ
image_bytes p = eight_bytes image_header ++ (cpu_bytes p ++ (areas_bytes p.areas ++ (listed_bytes four_bytes p.links ++ tables_bytes p)))
