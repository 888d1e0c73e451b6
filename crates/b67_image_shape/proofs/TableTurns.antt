-- Turns of the loops that make the table of marks.
use Rattle.std.proofs.Common.{◌≡◌, ◌≢◌, ℕ, ◌+◌, ◌-◌, ◌*◌, ◌/◌, ◌<◌, ◌≤◌, Bool, true, false, List, ◌∷◌, map, length, drop, get_or, slice_set, Option, Some, None, refl, sym, ◌∙◌, ap, subst, arith, ⊎_elim, lt-ltb, le-ltb}
use Rattle.std.specs.Prelude.{◌&&◌, nat_lt, nat_le, option_map, unwrap_or, if◌then◌else◌}
use Rattle.std.specs.List.{slice_get}
use Rattle.std.proofs.lemmas.Bool.{cases_eq, cases_lt, le-leb, lt-leb}
use Rattle.std.proofs.lemmas.List.{at_drop_more, get_or-set_same, get_or-set_other}
use Rattle.b67_word.specs.Tagged.{Tagged, word}
use Rattle.b67_lemmas.specs.Lists.{Has}
use Rattle.b67_lemmas.proofs.Members.{keyed_has}
use Rattle.b67_layout.specs.Rows as rows
use Rattle.b67_task.specs.declared.tables.TaskRow.{TaskRow}
use Rattle.b67_task.specs.declared.tables.JobRow.{JobRow}
use Rattle.b67_task.specs.Tables.{task_row, job_row}
use Rattle.b67_layout_shown.specs.Reading.{word_seen_at}
use Rattle.b67_layout_shown.specs.Shown.{Sight, top_in}
use Rattle.b67_image_shape.specs.TableFacts.{row_in_slot}
use Rattle.b67_image_shape.specs.Items.{base_at}
use Rattle.b67_image_shape.specs.ObjectTable.{entry_mark, has_entry_at, mark_in_dictionary, is_original_word, stack_mark, mark_at}
use Rattle.b67_image_shape.specs.TableMarks.{end_by, HaveSlots}

-- ---- a table that is filled from its beginning

pub filled_next : (F : ℕ → ℕ) (xs : List ℕ) (i x : ℕ) → i < length xs → ((n : ℕ) → n < i → get_or xs n 0 ≡ F n) → x ≡ F i → (n : ℕ) → n < i + 1 → get_or (slice_set xs i x) n 0 ≡ F n
filled_next F xs i x low before e n h = grind (arith, ⊎_elim, get_or, slice_set, get_or-set_same, get_or-set_other, cases_lt, cases_eq)

-- ---- ends

pub end_found : (k : Sight) (s : ℕ) (o : Option TaskRow) (q : Option rows.TaskRow) (r : TaskRow) → option_map task_row o ≡ q → o ≡ Some r → s ≡ (top_in k (task_row r)).s → s + 1 ≡ end_by k q
end_found k s o q r e is t = ap (λ n. n + 1) t ∙ ap (end_by k) (ap (λ (p : Option TaskRow). option_map task_row p) (sym is) ∙ e)

pub end_none : (k : Sight) (o : Option TaskRow) (q : Option rows.TaskRow) → option_map task_row o ≡ q → o ≡ None → 0 ≡ end_by k q
end_none k o q e is = ap (end_by k) (ap (λ (p : Option TaskRow). option_map task_row p) (sym is) ∙ e)

-- ---- dictionaries

entry_step : (js : List JobRow) (at i : ℕ) (row : JobRow) → i < length js → mark_in_dictionary (map job_row js) at ≡ mark_in_dictionary (map job_row (drop i js)) at → row ≡ get_or js i row
    → mark_in_dictionary (map job_row js) at ≡ mark_in_dictionary (job_row row ∷ map job_row (drop (i + 1) js)) at
entry_step js at i row low inv is =
    inv ∙ at_drop_more (λ xs. mark_in_dictionary (map job_row xs) at) js i row low
    ∙ ap (λ (x : JobRow). mark_in_dictionary (job_row x ∷ map job_row (drop (i + 1) js)) at) (sym is)

pub entry_later : (js : List JobRow) (at i : ℕ) (row : JobRow) → i < length js → mark_in_dictionary (map job_row js) at ≡ mark_in_dictionary (map job_row (drop i js)) at → row ≡ get_or js i row → has_entry_at (job_row row) at ≡ false
    → mark_in_dictionary (map job_row js) at ≡ mark_in_dictionary (map job_row (drop (i + 1) js)) at
entry_later js at i row low inv is e =
    entry_step js at i row low inv is
    ∙ ap (λ (b : Bool). if b then entry_mark row.segments (at - (row.dict + 1)) else mark_in_dictionary (map job_row (drop (i + 1) js)) at) e

pub entry_found : (js : List JobRow) (at i n : ℕ) (row : JobRow) → i < length js → mark_in_dictionary (map job_row js) at ≡ mark_in_dictionary (map job_row (drop i js)) at → row ≡ get_or js i row → has_entry_at (job_row row) at ≡ true
    → n ≡ entry_mark row.segments (at - (row.dict + 1)) → n ≡ mark_in_dictionary (map job_row js) at
entry_found js at i n row low inv is e number =
    number ∙ sym (entry_step js at i row low inv is
    ∙ ap (λ (b : Bool). if b then entry_mark row.segments (at - (row.dict + 1)) else mark_in_dictionary (map job_row (drop (i + 1) js)) at) e)

pub segment_here : (row : JobRow) (at : ℕ) → at - (row.dict + 1) ≤ row.segments → 3 ≡ entry_mark row.segments (at - (row.dict + 1))
segment_here row at h = sym (ap (λ (b : Bool). if b then 3 else 2) (le-leb (at - (row.dict + 1)) row.segments h))

pub data_here : (row : JobRow) (at : ℕ) → row.segments < at - (row.dict + 1) → 2 ≡ entry_mark row.segments (at - (row.dict + 1))
data_here row at h = sym (ap (λ (b : Bool). if b then 3 else 2) (lt-leb (at - (row.dict + 1)) row.segments h))

-- ---- marks

pub below_slots : (k : Sight) (at n : ℕ) → at < k.regs.stacks → n ≡ mark_in_dictionary k.jobs at → n ≡ mark_at k at
below_slots k at n h e = e ∙ sym (ap (λ (b : Bool). if b then mark_in_dictionary k.jobs at else stack_mark k at (row_in_slot k.tasks ((at - k.regs.stacks) / k.regs.stack_size))) (lt-ltb at k.regs.stacks h))

in_slots : (k : Sight) (at : ℕ) → k.regs.stacks ≤ at → mark_at k at ≡ stack_mark k at (row_in_slot k.tasks ((at - k.regs.stacks) / k.regs.stack_size))
in_slots k at h = ap (λ (b : Bool). if b then mark_in_dictionary k.jobs at else stack_mark k at (row_in_slot k.tasks ((at - k.regs.stacks) / k.regs.stack_size))) (le-ltb at k.regs.stacks h)

-- a slot in which no task lives
no_row_mark : (k : Sight) (at n : ℕ) (o : Option rows.TaskRow) → row_in_slot k.tasks n ≡ o → ((r : rows.TaskRow) → Has k.tasks r → r.slot ≡ n → ⊥) → 0 ≡ stack_mark k at o
no_row_mark k at n None e none = refl
no_row_mark k at n (Some r) e none = let (h, q) = keyed_has (λ (w : rows.TaskRow). w.slot) n k.tasks r e in absurd (none r h q)

pub no_slots : (k : Sight) (at : ℕ) → HaveSlots k → k.regs.stacks ≤ at → k.regs.stack_size ≡ 0 → 0 ≡ mark_at k at
no_slots k at slots h z = grind (arith, no_row_mark, in_slots)

pub past_slots : (k : Sight) (at : ℕ) → HaveSlots k → k.regs.stacks ≤ at → 120 ≤ (at - k.regs.stacks) / k.regs.stack_size → 0 ≡ mark_at k at
past_slots k at slots h far = grind (arith, no_row_mark, in_slots)

-- ---- by the end of what stands in a slot

in_slot : (k : Sight) (n : ℕ) (r : rows.TaskRow) → row_in_slot k.tasks n ≡ Some r → k.regs.stacks + n * k.regs.stack_size ≡ base_at k r
in_slot k n r e = let (h, q) = keyed_has (λ (w : rows.TaskRow). w.slot) n k.tasks r e in ap (λ m. k.regs.stacks + m * k.regs.stack_size) (sym q)

low_by : (k : Sight) (at n : ℕ) (o : Option rows.TaskRow) → row_in_slot k.tasks n ≡ o → at ≤ k.regs.stacks + n * k.regs.stack_size → 0 ≡ stack_mark k at o
low_by k at n o e h = grind (arith, le-ltb, in_slot)

high_by : (k : Sight) (at : ℕ) (o : Option rows.TaskRow) → end_by k o ≤ at → 0 ≡ stack_mark k at o
high_by k at o h = grind arith

other_by : (k : Sight) (at : ℕ) (o : Option rows.TaskRow) → is_original_word (word_seen_at k.core at) ≡ false → 0 ≡ stack_mark k at o
other_by k at o h = grind arith

here_by : (k : Sight) (at n : ℕ) (o : Option rows.TaskRow) → row_in_slot k.tasks n ≡ o → k.regs.stacks + n * k.regs.stack_size < at → at < end_by k o → is_original_word (word_seen_at k.core at) ≡ true → 1 ≡ stack_mark k at o
here_by k at n o e lo hi w = grind (arith, lt-ltb, in_slot, le-leb)

-- the slot of an address
abbrev pub slot_of : Sight → ℕ → ℕ
slot_of k at = (at - k.regs.stacks) / k.regs.stack_size

pub slot_is : (k : Sight) (at size : ℕ) → size ≡ k.regs.stack_size → (at - k.regs.stacks) / size ≡ slot_of k at
slot_is k at size e = ap (λ n. (at - k.regs.stacks) / n) e

base_is : (k : Sight) (s n z m : ℕ) → s ≡ k.regs.stacks → n ≡ m → z ≡ k.regs.stack_size → s + n * z ≡ k.regs.stacks + m * k.regs.stack_size
base_is k s n z m a b c = rw (a, b, c) refl

pub low_mark : (k : Sight) (at a s n z : ℕ) → k.regs.stacks ≤ at → a ≡ at → s ≡ k.regs.stacks → n ≡ slot_of k at → z ≡ k.regs.stack_size → a ≤ s + n * z → 0 ≡ mark_at k at
low_mark k at a s n z h is f e g low = grind (arith, base_is, low_by, in_slots)

pub high_mark : (k : Sight) (at a end : ℕ) → k.regs.stacks ≤ at → a ≡ at → end ≡ end_by k (row_in_slot k.tasks (slot_of k at)) → end ≤ a → 0 ≡ mark_at k at
high_mark k at a end h is e past = high_by k at (row_in_slot k.tasks (slot_of k at)) (omega (arith, e, past, is)) ∙ sym (in_slots k at h)

pub other_mark : (k : Sight) (at : ℕ) → k.regs.stacks ≤ at → is_original_word (word_seen_at k.core at) ≡ false → 0 ≡ mark_at k at
other_mark k at h w = other_by k at (row_in_slot k.tasks (slot_of k at)) w ∙ sym (in_slots k at h)

pub here_mark : (k : Sight) (at a s n z more end : ℕ) → k.regs.stacks ≤ at → a ≡ at → s ≡ k.regs.stacks → n ≡ slot_of k at → z ≡ k.regs.stack_size → s + n * z < a → more ≡ at → end ≡ end_by k (row_in_slot k.tasks (slot_of k at)) → more < end
    → is_original_word (word_seen_at k.core at) ≡ true → 1 ≡ mark_at k at
here_mark k at a s n z more end h is f e g lo also ends hi w = grind (arith, base_is, here_by, in_slots)

-- the word that is read at an address
pub word_read : (core : List Tagged) (at : ℕ) (w : Tagged) → slice_get core at ≡ Some w → w ≡ word_seen_at core at
word_read core at w e = sym (ap (λ (o : Option Tagged). unwrap_or o (word 0 0)) e)
