-- Whether cells and static links are in order, each by its word and what the tables of records and of marks have at the place that it names.
use Rattle.std.specs.Prelude.{ℕ, zero, suc, ◌+◌, ◌-◌, ◌*◌, ◌/◌, ◌^◌, ◌<◌, ◌==◌, Bool, true, false, ◌&&◌, ◌||◌, not, nat_lt, nat_le, List, [], ◌∷◌, Option, Some, None, slice_get, slice_index, if◌then◌else◌}
use Rattle.std.specs.List.{list_all}
use Rattle.b67_ctl.specs.declared.map.TheConstants.{DICTIONARY_STACKS, MCP_STACK}
use Rattle.b67_model.specs.declared.limits.TheConstants.{MOST_TASKS}
use Rattle.b67_word.specs.Tagged.{Tagged, bits_at}
use Rattle.b67_lemmas.specs.Lists.{Has}
use Rattle.b67_ctl.specs.declared.marks.Mscw.{Mscw}
use Rattle.b67_ctl.specs.declared.descriptors.DataDesc.{DataDesc}
use Rattle.b67_stack.specs.Common.{StackPlace}
use Rattle.b67_layout.specs.Rows.{TaskRow, JobRow}
use Rattle.b67_layout_shown.specs.Reading.{word_seen_at, is_set, mscw_in, desc_in, home_by}
use Rattle.b67_layout_shown.specs.Shown.{Sight, top_in}
use Rattle.b67_image_shape.specs.Deciding.{Decides}
use Rattle.b67_image_shape.specs.TableFacts.{row_in_slot, TableFacts}
use Rattle.b67_image_shape.specs.FixedWords.{FixedFacts}
use Rattle.b67_image_shape.specs.NearStacks.{NearStacks}
use Rattle.b67_image_shape.specs.TableMarks.{IsTable}
use Rattle.b67_image_shape.specs.RecordTable.{IsRecordTable}
use Rattle.b67_image_shape.specs.Items.{EachTask, CellFacts, base_at}

abbrev pub place : ℕ → ℕ → StackPlace
place stack disp = record { stack = stack; disp = disp }

-- ---- entered marks in reach

-- the mark of a dictionary of a job, or that of the MCP
abbrev pub is_outermost : ℕ → StackPlace → Bool
is_outermost job p = (p.disp == 0) && ((p.stack == DICTIONARY_STACKS + job) || (p.stack == MCP_STACK))

-- an entered mark at a place of a task's stack, up to a displacement
abbrev pub enters_below : Sight → List ℕ → StackPlace → ℕ → TaskRow → Bool
enters_below k records p disp q = (p.stack == q.slot) && (nat_le p.disp disp && (slice_index records (base_at k q + p.disp) == p.disp * 2 + 1))

-- a mark at a displacement of a task's stack
abbrev pub has_record_at : Sight → List ℕ → ℕ → TaskRow → Bool
has_record_at k records disp q = nat_lt 0 disp && (nat_lt disp k.regs.stack_size && (slice_index records (base_at k q + disp) / 2 == disp))

-- an entered mark at a place, from a mark at a displacement of a task's stack down
abbrev pub enters_from : Sight → List ℕ → StackPlace → ℕ → TaskRow → Bool
enters_from k records p disp q = has_record_at k records disp q && enters_below k records p disp q

-- one in the stacks of at most n tasks, each from a mark down that the next one may not leave
abbrev pub enters_outside : Sight → List ℕ → StackPlace → ℕ → ℕ → Option TaskRow → Bool
enters_outside k records p zero disp o = false
enters_outside k records p (suc n) disp None = false
enters_outside k records p (suc n) disp (Some q) =
    enters_from k records p disp q || enters_outside k records p n q.critical (row_in_slot k.tasks q.parent)

-- an entered mark at a place, seen by a task from a displacement of its stack down
unfoldable pub is_in_sight : Sight → List ℕ → TaskRow → ℕ → StackPlace → Bool
is_in_sight k records r disp p = is_outermost r.job p || (enters_below k records p disp r || enters_outside k records p MOST_TASKS r.critical (row_in_slot k.tasks r.parent))

-- ---- cells

-- a reference to an entered mark in sight
unfoldable pub reference_stands : Sight → List ℕ → TaskRow → ℕ → Tagged → Bool
reference_stands k records r disp w = (bits_at w 46 2 == 1) && ((bits_at w 12 8 == 0) && is_in_sight k records r disp (place (bits_at w 36 10) (bits_at w 20 16)))

-- a program word of one of so many segments
unfoldable pub procedure_stands : ℕ → Tagged → Bool
procedure_stands segments w = (bits_at w 19 1 == 0) && ((bits_at w 36 12 == 0) && (nat_lt 1 (bits_at w 0 14) && nat_le (bits_at w 0 14 - 1) segments))

abbrev pub is_in_slot : Sight → ℕ → TaskRow → Bool
is_in_slot k at r = nat_le (base_at k r) at && nat_lt at (base_at k r + k.regs.stack_size)

-- the row of the task in whose slot an address is
abbrev pub row_holding : Sight → ℕ → List TaskRow → Option TaskRow
row_holding k at [] = None
row_holding k at (r ∷ more) = if is_in_slot k at r then Some r else row_holding k at more

-- a data row of a job
abbrev pub is_data_row : JobRow → ℕ → Bool
is_data_row row home = nat_lt (row.dictionary + 1 + row.segments) home && nat_le home (row.dictionary + 1 + (row.segments + row.rows))

-- the array whose original stands at an address of a task's stack is that of an entered record in sight
abbrev pub array_in_sight : Sight → List ℕ → TaskRow → ℕ → ℕ → Option TaskRow → Bool
array_in_sight k records r disp home None = false
array_in_sight k records r disp home (Some q) = (q.job == r.job) && is_in_sight k records r disp (place q.slot (slice_index records home / 2))

-- a copy at an address below s names a data row, or an array in sight whose original doesn't stand above it up to s
unfoldable pub copy_stands : Sight → List ℕ → List ℕ → JobRow → TaskRow → ℕ → ℕ → ℕ → DataDesc → Bool
copy_stands k records kinds row r disp s at d =
    let home = home_by k.core d.address d.present in
    (d.read_only && is_data_row row home)
    || (not d.read_only
    && ((slice_index kinds home == 1)
    && ((nat_le home at || nat_lt s home) && array_in_sight k records r disp home (row_holding k home k.tasks))))

-- a cell at an address, of a record that reaches up to s and whose mark has this displacement
unfoldable pub cell_stands : Sight → List ℕ → List ℕ → JobRow → TaskRow → ℕ → ℕ → ℕ → Tagged → Bool
cell_stands k records kinds row r disp s at w =
    (w.tag == 0)
    || (((w.tag == 1) && (nat_lt w.bits (2 ^ 14) || reference_stands k records r disp w))
    || (((w.tag == 7) && procedure_stands row.segments w)
    || ((w.tag == 5) && (not (is_set w 46) || copy_stands k records kinds row r disp s at (desc_in w)))))

-- n cells from an address up
abbrev pub cells_stand : Sight → List ℕ → List ℕ → JobRow → TaskRow → ℕ → ℕ → ℕ → ℕ → Bool
cells_stand k records kinds row r disp s from zero = true
cells_stand k records kinds row r disp s from (suc n) = cell_stands k records kinds row r disp s (from + n) (word_seen_at k.core (from + n)) && cells_stand k records kinds row r disp s from n

-- ---- static links

-- the level of a mark at a place that is in sight
abbrev pub level_at : Sight → ℕ → StackPlace → Bool → ℕ
level_at k job p true = if p.stack == MCP_STACK then 0 else 1
level_at k job p false = bits_at (word_seen_at k.core (k.regs.stacks + p.stack * k.regs.stack_size + p.disp)) 14 5

-- an entered mark of a displacement has its environment in sight below it, of the level below
unfoldable pub link_stands : Sight → List ℕ → TaskRow → ℕ → Mscw → Bool
link_stands k records r disp m =
    let p = place m.env_stack m.env_disp in
    nat_le 2 m.level && (is_in_sight k records r (disp - 1) p && (level_at k r.job p (is_outermost r.job p) + 1 == m.level))

-- ---- records and stacks

-- the record of the mark at f, which reaches up to s
abbrev pub record_stands_by : Sight → List ℕ → List ℕ → JobRow → TaskRow → ℕ → ℕ → ℕ → Mscw → Bool → Bool
record_stands_by k records kinds row r base f s m true = link_stands k records r (f - base) m && cells_stand k records kinds row r (f - base) s (f + 2) (s - (f + 1))
record_stands_by k records kinds row r base f s m false = cells_stand k records kinds row r (f - base) s (f + 1) (s - f)

unfoldable pub record_stands : Sight → List ℕ → List ℕ → JobRow → TaskRow → ℕ → ℕ → ℕ → Bool
record_stands k records kinds row r base f s = let m = mscw_in (word_seen_at k.core f) in record_stands_by k records kinds row r base f s m m.entered

-- by the distance of the next mark
abbrev pub stands_under : ℕ → (ℕ → Bool) → Bool
stands_under zero rest = true
stands_under (suc d) rest = rest (suc d)

-- at most n records from the mark at f down, of which the first reaches up to s
unfoldable pub records_stand : Sight → List ℕ → List ℕ → JobRow → TaskRow → ℕ → ℕ → ℕ → ℕ → Bool
records_stand k records kinds row r base zero f s = true
records_stand k records kinds row r base (suc n) f s =
    record_stands k records kinds row r base f s && stands_under (bits_at (word_seen_at k.core f) 0 14) (λ d. records_stand k records kinds row r base n (f - d) (f - 1))

abbrev pub row_stands_by : Sight → List ℕ → List ℕ → TaskRow → Option JobRow → Bool
row_stands_by k records kinds r None = false
row_stands_by k records kinds r (Some row) = let t = top_in k r in records_stand k records kinds row r (base_at k r) k.regs.stack_size t.f t.s

abbrev pub row_stands : Sight → List ℕ → List ℕ → TaskRow → Bool
row_stands k records kinds r = row_stands_by k records kinds r (slice_get k.jobs (r.job - 1))

abbrev pub rows_stand : Sight → List ℕ → List ℕ → Bool
rows_stand k records kinds = list_all (row_stands k records kinds) k.tasks

-- ---- what it tells

-- words of 48 bits
abbrev pub AreSmall : List Tagged → Type 0
AreSmall core = (w : Tagged) → Has core w → w.bits < 2 ^ 48

-- over stacks that stand and the tables, the cells and static links of all live tasks are in order exactly if this passes
abbrev pub CellsAreDecided : Type 0
CellsAreDecided =
    (k : Sight) (low size : ℕ) (records kinds : List ℕ) → TableFacts k → FixedFacts k low size → NearStacks k → AreSmall k.core → IsRecordTable k records → IsTable k kinds
    → Decides (rows_stand k records kinds) (EachTask k (CellFacts k))
