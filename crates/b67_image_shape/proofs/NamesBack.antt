-- The names of arrays and frames of what a machine shows fall, so each stands once.
use Rattle.std.proofs.Common.{◌≡◌, ℕ, zero, suc, ◌+◌, ◌/◌, ◌^◌, ◌<◌, ◌≤◌, ◌==◌, Bool, true, false, List, [], ◌∷◌, ◌++◌, map, length, Option, Some, None, refl, sym, ◌∙◌, ap, subst, arith, inl, inr}
use Rattle.std.specs.Prelude.{◌⊎◌, flat_map, if◌then◌else◌}
use Rattle.std.proofs.lemmas.Bool.{eq-eqb, ne_eqb}
use Rattle.std.proofs.lemmas.Bool.Decides.{eqb_tells}
use Rattle.std.proofs.lemmas.List.{map-append, append_assoc}
use Rattle.std.proofs.Math.Arith.{digits_div}
use Rattle.b67_word.specs.Tagged.{Tagged}
use Rattle.b67_lemmas.specs.Lists.{Has, Falls, total, how_many}
use Rattle.b67_lemmas.proofs.Members.{has_map, falls_more, falls_once, total_append, total_has, none_pass}
use Rattle.b67_model.specs.Common.{Array, Frame, Task, is_original_of, originals_in, frames_named}
use Rattle.b67_stack.specs.Shapes as shapes
use Rattle.b67_stack.specs.Common as stack
use Rattle.b67_stack.specs.Common.{Locations, Shape, Is, Copy, Fits, LieDownward, Head, Activation, StackPlace, headed, head_size, words, stack_words}
use Rattle.b67_layout.specs.Rows.{TaskRow, JobRow}
use Rattle.b67_layout_shown.specs.Places.{named}
use Rattle.b67_layout_shown.specs.Reading.{is_set}
use Rattle.b67_layout_shown.specs.Shown.{Sight, frame_seen, array_homed, word_seen, copy_by, plain_by, reference_by, frames_of, arrays_in, arrays_of, data_rows, row_cells, segment_cells, stack_of_row, task_in}
use Rattle.b67_image_shape.proofs.Critical.{place_of_name}

-- ---- lists that fall, one after the other

pub falls_join : (b c : ℕ) (xs ys : List ℕ) → c ≤ b → Falls b xs → ((x : ℕ) → Has xs x → c ≤ x) → Falls c ys → Falls b (xs ++ ys)
falls_join b c [] ys low f above g = falls_more c b ys low g
falls_join b c (x ∷ xs) ys low f above g = (f.0, falls_join x c xs ys (above x (inl refl)) f.1 (λ y h. above y (inr h)) g)

-- ---- originals among words

abbrev pub names_in : (ℕ → ℕ) → List Shape → List ℕ
names_in array [] = []
names_in array (Is w ∷ more) = names_in array more
names_in array (Copy c home ∷ more) = names_in array more
names_in array (shapes.Original home ∷ more) = array home ∷ names_in array more

names_append : (array : ℕ → ℕ) (xs ys : List Shape) → names_in array (xs ++ ys) ≡ names_in array xs ++ names_in array ys
names_append array [] ys = refl
names_append array (Is w ∷ more) ys = names_append array more ys
names_append array (Copy c home ∷ more) ys = names_append array more ys
names_append array (shapes.Original home ∷ more) ys = ap (λ ns. array home ∷ ns) (names_append array more ys)

names_head : (array : ℕ → ℕ) (k : ℕ) (h : Head) (below : List Activation) (under : List Shape) → names_in array (headed k h below under) ≡ names_in array under
names_head array k h below under = grind arith

cells_named : (core : List Tagged) (owner : ℕ) (array : ℕ → ℕ) (cells : List Shape) → map (λ (a : Array). a.identity) (arrays_in core owner array cells) ≡ names_in array cells
cells_named core owner array [] = refl
cells_named core owner array (Is w ∷ more) = cells_named core owner array more
cells_named core owner array (Copy c home ∷ more) = cells_named core owner array more
cells_named core owner array (shapes.Original home ∷ more) = ap (λ ns. array home ∷ ns) (cells_named core owner array more)

pub arrays_named : (core : List Tagged) (slot number : ℕ) (array : ℕ → ℕ) (acts : List Activation) → map (λ (a : Array). a.identity) (arrays_of core number array acts) ≡ names_in array (words slot acts)
arrays_named core slot number array [] = refl
arrays_named core slot number array (a ∷ below) = grind (arith, map-append, cells_named, names_head, names_append, arrays_named core slot number array below)

-- they fall, where an original's name is its task's number and its displacement
pub names_fall : (held : Locations) (core : List Tagged) (base number : ℕ) (array : ℕ → ℕ) (room : ℕ) → ((d : ℕ) → d < room → array (base + d) ≡ named number d) → (xs : List Shape) → length xs < room → LieDownward (Fits held) core (suc base) xs
    → Falls (named number (length xs + 1)) (names_in array xs) × ((n : ℕ) → Has (names_in array xs) n → named number 0 ≤ n)
names_fall held core base number array room name [] short l = (tt, λ n h. absurd h)
names_fall held core base number array room name (Is w ∷ more) short l = grind (arith, falls_more, names_fall held core base number array room name more)
names_fall held core base number array room name (Copy c home ∷ more) short l = grind (arith, falls_more, names_fall held core base number array room name more)
names_fall held core base number array room name (shapes.Original home ∷ more) short l =
    let r = names_fall held core base number array room name more (omega (arith, short)) l.1 in
    let at = l.0.2.0 in
    let place : home ≡ base + (length more + 1) = omega (arith, at) in
    let is : array home ≡ named number (length more + 1) = ap array place ∙ name (length more + 1) (omega (arith, short)) in
    ((omega (arith, is), subst (λ b. Falls b (names_in array more)) (sym is) r.0), each is r.1) where
      each : array home ≡ named number (length more + 1) → ((n : ℕ) → Has (names_in array more) n → named number 0 ≤ n) → (n : ℕ) → (array home ≡ n) ⊎ Has (names_in array more) n → named number 0 ≤ n
      each is rest n (inl e) = omega (arith, is, e)
      each is rest n (inr h) = rest n h

-- ---- data rows

rows_fall : (core : List Tagged) (before n : ℕ) → Falls (n + 1) (map (λ (a : Array). a.identity) (data_rows core before n))
rows_fall core before zero = tt
rows_fall core before (suc n) = (omega arith, (let e : n + 1 ≡ suc n = omega arith in subst (λ b. Falls b (map (λ (a : Array). a.identity) (data_rows core before n))) e (rows_fall core before n)))

-- the arrays of tasks whose numbers fall, and the data rows after them
pub all_fall : (core : List Tagged) (arrays : TaskRow → List Array) (before rows : ℕ) → rows + 1 ≤ 2 ^ 14 → (b : ℕ) → 1 ≤ b → (rs : List TaskRow) → Falls b (map (λ (r : TaskRow). r.number) rs)
    → ((r : TaskRow) → Has rs r → (0 < r.number) × Falls (named (r.number + 1) 0) (map (λ (a : Array). a.identity) (arrays r)) × ((n : ℕ) → Has (map (λ (a : Array). a.identity) (arrays r)) n → named r.number 0 ≤ n))
    → Falls (named b 0) (map (λ (a : Array). a.identity) (flat_map arrays rs ++ data_rows core before rows))
all_fall core arrays before rows few b some [] f each = falls_more (rows + 1) (named b 0) (map (λ (a : Array). a.identity) (data_rows core before rows)) (omega (arith, few, some)) (rows_fall core before rows)
all_fall core arrays before rows few b some (r ∷ more) f each =
    let e = each r (inl refl) in
    let low = f.0 in
    let rest = all_fall core arrays before rows few r.number e.0 more f.1 (λ q h. each q (inr h)) in
    let assoc : (arrays r ++ flat_map arrays more) ++ data_rows core before rows ≡ arrays r ++ (flat_map arrays more ++ data_rows core before rows) = append_assoc (arrays r) (flat_map arrays more) (data_rows core before rows) in
    subst (Falls (named b 0)) (sym (ap (map (λ (a : Array). a.identity)) assoc ∙ map-append (λ (a : Array). a.identity) (arrays r) (flat_map arrays more ++ data_rows core before rows)))
    (falls_join (named b 0) (named r.number 0) (map (λ (a : Array). a.identity) (arrays r)) (map (λ (a : Array). a.identity) (flat_map arrays more ++ data_rows core before rows)) (omega (arith, low))
    (falls_more (named (r.number + 1) 0) (named b 0) (map (λ (a : Array). a.identity) (arrays r)) (omega (arith, low)) e.1) e.2 rest)

-- ---- each original is an array's

abbrev has_name : ℕ → Array → Bool
has_name i a = a.identity == i

no_original : (i : ℕ) (frame : StackPlace → ℕ) (w : Tagged) (a b c : Bool) → is_original_of i (plain_by w frame a b c) ≡ false
no_original i frame w a b c = grind arith

no_copy : (i a : ℕ) (o : Option ℕ) → is_original_of i (copy_by o a) ≡ false
no_copy i a o = grind arith

cells_count : (i : ℕ) (core : List Tagged) (owner : ℕ) (frame : StackPlace → ℕ) (array : ℕ → ℕ) (cells : List Shape) → how_many (is_original_of i) (map (word_seen frame array) cells) ≡ how_many (has_name i) (arrays_in core owner array cells)
cells_count i core owner frame array [] = refl
cells_count i core owner frame array (Is w ∷ more) = grind (arith, no_original, cells_count i core owner frame array more)
cells_count i core owner frame array (Copy c home ∷ more) = grind (arith, no_copy, cells_count i core owner frame array more)
cells_count i core owner frame array (shapes.Original home ∷ more) = ap (λ n. (if array home == i then 1 else 0) + n) (cells_count i core owner frame array more)

frames_count : (i : ℕ) (core : List Tagged) (number : ℕ) (frame : StackPlace → ℕ) (array : ℕ → ℕ) (acts : List Activation) → originals_in i (frames_of number frame array acts) ≡ how_many (has_name i) (arrays_of core number array acts)
frames_count i core number frame array [] = refl
frames_count i core number frame array (a ∷ below) =
    ap (λ n. n + originals_in i (frames_of number frame array below)) (cells_count i core (named number (stack_words below + 1)) frame array a.cells)
    ∙ ap (λ n. how_many (has_name i) (arrays_in core (named number (stack_words below + 1)) array a.cells) + n) (frames_count i core number frame array below)
    ∙ sym (total_append (λ (b : Array). if has_name i b then 1 else 0) (arrays_in core (named number (stack_words below + 1)) array a.cells) (arrays_of core number array below))

pub tasks_count : (i : ℕ) (k : Sight) (row : JobRow) (j : ℕ) (rs : List TaskRow) → total (λ (t : Task). originals_in i t.frames) (map (task_in k row j) rs)
    ≡ how_many (has_name i) (flat_map (λ (r : TaskRow). arrays_of k.core r.number (array_homed k.regs k.tasks row) (stack_of_row k r)) rs)
tasks_count i k row j [] = refl
tasks_count i k row j (r ∷ more) = grind (arith, frames_count, total_append, tasks_count i k row j more)

segments_count : (i n : ℕ) → how_many (is_original_of i) (segment_cells n) ≡ 0
segments_count i zero = refl
segments_count i (suc n) = (let rest = segments_count i n in let z : 0 + how_many (is_original_of i) (segment_cells n) ≡ 0 = omega (arith, rest) in z)

pub entries_count : (i : ℕ) (core : List Tagged) (before rows segments : ℕ) → how_many (is_original_of i) (row_cells rows ++ segment_cells segments) ≡ how_many (has_name i) (data_rows core before rows)
entries_count i core before zero segments = segments_count i segments
entries_count i core before (suc n) segments = ap (λ m. (if suc n == i then 1 else 0) + m) (entries_count i core before n segments)

-- a name of a list that falls stands once
pub name_once : (b : ℕ) (xs : List Array) (a : Array) → Falls b (map (λ (a : Array). a.identity) xs) → Has xs a → how_many (has_name a.identity) xs ≡ 1
name_once b xs a f h =
    let few = (falls_once (λ (a : Array). a.identity) a.identity b xs f).1 in
    grind (arith, eq-eqb, total_has)

-- ---- frames

frames_fall : (number : ℕ) (frame : StackPlace → ℕ) (array : ℕ → ℕ) (acts : List Activation) → Falls (named number (stack_words acts + 1)) (map (λ (f : Frame). f.identity) (frames_of number frame array acts))
frames_fall number frame array [] = tt
frames_fall number frame array (a ∷ below) = grind (arith, frames_fall number frame array below)

-- a frame of a name is of the task of that number
frames_low : (i : ℕ) (k : Sight) (row : JobRow) (j : ℕ) (r : TaskRow) → stack_words (stack_of_row k r) < 2 ^ 14 → frames_named i (task_in k row j r).frames ≤ (if r.number == i / 2 ^ 14 then 1 else 0)
frames_low i k row j r short = elim (eqb_tells r.number (i / 2 ^ 14)) [
  | inl t ↦
      let few = (falls_once (λ (f : Frame). f.identity) i (named r.number (stack_words (stack_of_row k r) + 1)) (task_in k row j r).frames (frames_fall r.number (frame_seen k.tasks j) (array_homed k.regs k.tasks row) (stack_of_row k r))).1 in
      subst (λ (b : Bool). frames_named i (task_in k row j r).frames ≤ (if b then 1 else 0)) (sym t.0) few
  | inr t ↦
      let none = none_pass (λ (f : Frame). f.identity == i) (task_in k row j r).frames (λ f h. ne_eqb f.identity i (λ e.
      let (d, same, some, low) = place_of_name r.number (frame_seen k.tasks j) (array_homed k.regs k.tasks row) (stack_of_row k r) f.identity (has_map (λ (f : Frame). f.identity) (task_in k row j r).frames f h) in
      t.1 (sym (ap (λ n. n / 2 ^ 14) (sym e ∙ same) ∙ digits_div r.number (omega (arith, low, short)))))) in
      subst (λ (b : Bool). frames_named i (task_in k row j r).frames ≤ (if b then 1 else 0)) (sym t.0) (omega (arith, none))
]

pub frames_few : (i : ℕ) (k : Sight) (row : JobRow) (j : ℕ) (rs : List TaskRow) → ((r : TaskRow) → Has rs r → stack_words (stack_of_row k r) < 2 ^ 14)
    → total (λ (t : Task). frames_named i t.frames) (map (task_in k row j) rs) ≤ how_many (λ (r : TaskRow). r.number == i / 2 ^ 14) rs
frames_few i k row j [] short = omega arith
frames_few i k row j (r ∷ more) short = grind (arith, frames_low, frames_few i k row j more)
