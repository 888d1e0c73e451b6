-- What is spelled so is read.
use Rattle.std.proofs.Common.{◌≡◌, ℕ, suc, ◌+◌, ◌*◌, ◌/◌, ◌%◌, ◌^◌, ◌<◌, ◌≤◌, ℤ, true, false, ◌&&◌, List, [], ◌∷◌, ◌++◌, length, Some, refl, sym, ap, ◌∙◌, append_assoc, arith, nat_lt, ltb, append-nil, ◌||◌}
use Rattle.std.specs.Prelude.{nat_abs}
use Rattle.std.specs.Int.{Width, w8, w16, w32, w64, byte_len, from_be_bytes, to_be_bytes, cast_signed, cast_unsigned}
use Rattle.std.specs.List.{flat_map, AllByRecursion, list_all}
use Rattle.std.specs.Cmp.Derive.{both_true}
use Rattle.std.proofs.lemmas.Bool.{lt-ltb, le-ltb, le-leb, cond-true, and_parts, ltb-true}
use Rattle.std.proofs.lemmas.List.{take_at, drop_at, length-append}
use Rattle.std.proofs.lemmas.List.Concat.{flat_map-cons}
use Rattle.std.proofs.lemmas.Nat.{from_be_bytes-to_be_bytes_2, from_be_bytes-to_be_bytes_4, from_be_bytes-to_be_bytes_8}
use mir.Val.{SFits}
use Rattle.std.specs.Char.{is_ascii_uppercase, is_ascii_digit}
use Rattle.std.proofs.Math.Facts.{Fits-of_z}
use Rattle.std.proofs.lemmas.Int.{to_z-of_z}
use Rattle.b67_word.specs.Common.{Tagged, IsWord}
use Rattle.b67_word.specs.declared.couples.Place.{Place}
use Rattle.b67_ctl.specs.declared.registers.Regs.{Regs}
use Rattle.b67_area.specs.declared.directory.Areas.{Areas}
use Rattle.b67_model_text.specs.Cards.{is_name}
use Rattle.b67_model_text.specs.declared.deck.Switch.{Switch}
use Rattle.b67_task.specs.declared.tables.TaskState.{TaskState}
use Rattle.b67_task.specs.declared.tables.TaskState.TheVariants.{Ready, Awaits, WaitsAt}
use Rattle.b67_task.specs.declared.tables.TaskRow.{TaskRow}
use Rattle.b67_task.specs.declared.tables.JobRow.{JobRow}
use Rattle.b67_image.specs.Parts.{ToldCounts, ImageParts}
use Rattle.b67_image.proofs.Loops.{small_fits}
use Rattle.b67_image.specs.Spelling.{one_byte, two_bytes, four_bytes, eight_bytes, image_header, listed_bytes, signed_bytes, tagged_bytes, place_bytes, regs_bytes, areas_bytes, counts_bytes, switch_bytes, name_bytes, job_front, job_numbers, job_bytes, state_bytes, task_row_bytes, cpu_bytes, image_bytes}
use Rattle.b67_image.specs.Giving.{ItemReader, read_number, read_many, read_place}
use Rattle.b67_image.specs.Reading.{is_within, number_within, read_count, read_counted, read_word, read_core, read_regs, read_areas, read_links, read_counts, read_switch, read_switches, read_bytes, read_name, read_signed, read_job, read_jobs, read_state, read_row, read_rows, read_parts, parts_in}
use Rattle.b67_image.specs.Within.{AreItems, IsPlaceInRange, AreRegs, AreAreas, AreCounts, IsSwitch, IsReadNumber, IsJob, IsState, IsRowInRange, IsFour, IsTwo, ArePartsWithin}
use Rattle.b67_model.specs.declared.limits.TheConstants.{LEAST_CORE, MOST_CORE, MOST_SECTORS, LEAST_STACK, MOST_STACK, MOST_JOBS, MOST_PARTS, GREATEST, MOST_QUANTUM, MOST_LIMIT, MOST_NUMBER, MOST_MADE, MOST_SWITCHES}

-- ---- numbers

pub record IsWide (w : Width) (limit : ℕ) : Type 0 where
  pub len : (n : ℕ) → length (to_be_bytes w n) ≡ byte_len w
  pub once : (n : ℕ) → n < limit → from_be_bytes w (to_be_bytes w n) ≡ n

pub wide8 : IsWide w8 (2 ^ 8)
wide8 = record { len = λ n. refl; once = λ n lt. omega arith }

pub wide16 : IsWide w16 (2 ^ 16)
wide16 = record { len = λ n. refl; once = λ n lt. from_be_bytes-to_be_bytes_2 n lt }

pub wide32 : IsWide w32 (2 ^ 32)
wide32 = record { len = λ n. refl; once = λ n lt. from_be_bytes-to_be_bytes_4 n lt }

pub wide64 : IsWide w64 (2 ^ 64)
wide64 = record { len = λ n. refl; once = λ n lt. from_be_bytes-to_be_bytes_8 n lt }

pub number_again : (w : Width) (limit : ℕ) (wide : IsWide w limit) (n : ℕ) (rest : List ℕ) → n < limit → read_number w (to_be_bytes w n ++ rest) ≡ Some (n, rest)
number_again w limit wide n rest lt =
    let len = wide.len n in
    let long : ltb (length (to_be_bytes w n ++ rest)) (byte_len w) ≡ false = le-ltb _ _ (omega (arith, length-append (to_be_bytes w n) rest)) in
    rw (long, take_at (to_be_bytes w n) rest (byte_len w) len, drop_at (to_be_bytes w n) rest (byte_len w) len, wide.once n lt) refl

within_again : (low high : ℕ) (n : ℕ × List ℕ) → low ≤ n.0 → n.0 ≤ high → number_within low high n ≡ Some n
within_again low high n l h = cond-true (is_within low high n.0) _ _ (both_true (le-leb low n.0 l) (le-leb n.0 high h))

-- ---- lists

many_again : {X : Type 0} (read : ItemReader X) (spell : X → List ℕ) (P : X → Type 0) → ((x : X) (rest : List ℕ) → P x → read (spell x ++ rest) ≡ Some (x, rest))
    → (xs : List X) (rest : List ℕ) → AllByRecursion P xs → read_many read (length xs) (flat_map spell xs ++ rest) ≡ Some (xs, rest)
unfolding read_many
many_again read spell P again [] rest fits = refl
many_again read spell P again (x ∷ xs) rest fits =
    let regrouped : flat_map spell (x ∷ xs) ++ rest ≡ spell x ++ (flat_map spell xs ++ rest) = ap (λ (t : List ℕ). t ++ rest) (flat_map-cons spell x xs) ∙ append_assoc (spell x) (flat_map spell xs) rest in
    ap (read_many read (suc (length xs))) regrouped ∙ rw (again x (flat_map spell xs ++ rest) fits.0, many_again read spell P again xs rest fits.1) refl

counted_again : {X : Type 0} (low high : ℕ) (read : ItemReader X) (spell : X → List ℕ) (P : X → Type 0) → high < 2 ^ 32 → ((x : X) (rest : List ℕ) → P x → read (spell x ++ rest) ≡ Some (x, rest))
    → (xs : List X) (rest : List ℕ) → AreItems low high P xs → read_counted low high read (listed_bytes spell xs ++ rest) ≡ Some (xs, rest)
unfolding read_counted read_count
counted_again low high read spell P small again xs rest h =
    let regrouped : listed_bytes spell xs ++ rest ≡ four_bytes (length xs) ++ (flat_map spell xs ++ rest) = append_assoc (four_bytes (length xs)) (flat_map spell xs) rest in
    let lt : length xs < 2 ^ 32 = omega (arith, h.few) in
    ap (read_counted low high read) regrouped ∙ rw (number_again w32 (2 ^ 32) wide32 (length xs) (flat_map spell xs ++ rest) lt, within_again low high (length xs, flat_map spell xs ++ rest) h.some h.few) (many_again read spell P again xs rest h.each)

four_again : (n : ℕ) (rest : List ℕ) → IsFour n → read_number w32 (four_bytes n ++ rest) ≡ Some (n, rest)
four_again n rest lt = number_again w32 (2 ^ 32) wide32 n rest lt

two_again : (n : ℕ) (rest : List ℕ) → IsTwo n → read_number w16 (two_bytes n ++ rest) ≡ Some (n, rest)
two_again n rest lt = number_again w16 (2 ^ 16) wide16 n rest lt

-- ---- items

word_again : (w : Tagged) (rest : List ℕ) → IsWord w → read_word (tagged_bytes w ++ rest) ≡ Some (w, rest)
unfolding read_word
word_again w rest h =
    let t : w.tag < 8 = h.tag in
    let b : w.bits < 2 ^ 48 = h.bits in
    let lt : w.tag * 2 ^ 48 + w.bits < 2 ^ 64 = omega arith in
    let small : ltb (w.tag * 2 ^ 48 + w.bits) (2 ^ 51) ≡ true = lt-ltb _ _ (omega arith) in
    let tag : (w.tag * 2 ^ 48 + w.bits) / 2 ^ 48 ≡ w.tag = omega arith in
    let bits : (w.tag * 2 ^ 48 + w.bits) % 2 ^ 48 ≡ w.bits = omega arith in
    rw (number_again w64 (2 ^ 64) wide64 (w.tag * 2 ^ 48 + w.bits) rest lt, small, tag, bits) refl

place_again : (p : Place) (rest : List ℕ) → IsPlaceInRange p → read_place (place_bytes p ++ rest) ≡ Some (p, rest)
unfolding read_place
place_again p rest h =
    let regrouped : place_bytes p ++ rest ≡ two_bytes p.word ++ (one_byte p.syllable ++ rest) = refl in
    ap read_place regrouped ∙ rw (
      number_again w16 (2 ^ 16) wide16 p.word (one_byte p.syllable ++ rest) h.word,
      number_again w8 (2 ^ 8) wide8 p.syllable rest h.syllable,
    ) refl

regs_again : (r : Regs) (rest : List ℕ) → AreRegs r → read_regs (regs_bytes r ++ rest) ≡ Some (r, rest)
unfolding read_regs
regs_again r rest h =
    let t = h.typed in
    let regrouped : regs_bytes r ++ rest ≡ four_bytes r.s ++ (four_bytes r.f ++ (four_bytes r.bosr ++ (four_bytes r.losr ++ (one_byte r.slot ++ (one_byte r.level ++ (two_bytes r.segment ++ (place_bytes r.place ++ (four_bytes r.dict ++ (two_bytes r.entries ++ (four_bytes r.stacks ++ (two_bytes r.stack_size ++ (one_byte r.peak ++ rest)))))))))))) = refl in
    ap read_regs regrouped ∙ rw (
      number_again w32 (2 ^ 32) wide32 r.s (four_bytes r.f ++ (four_bytes r.bosr ++ (four_bytes r.losr ++ (one_byte r.slot ++ (one_byte r.level ++ (two_bytes r.segment ++ (place_bytes r.place ++ (four_bytes r.dict ++ (two_bytes r.entries ++ (four_bytes r.stacks ++ (two_bytes r.stack_size ++ (one_byte r.peak ++ rest)))))))))))) t.s,
      number_again w32 (2 ^ 32) wide32 r.f (four_bytes r.bosr ++ (four_bytes r.losr ++ (one_byte r.slot ++ (one_byte r.level ++ (two_bytes r.segment ++ (place_bytes r.place ++ (four_bytes r.dict ++ (two_bytes r.entries ++ (four_bytes r.stacks ++ (two_bytes r.stack_size ++ (one_byte r.peak ++ rest))))))))))) t.f,
      number_again w32 (2 ^ 32) wide32 r.bosr (four_bytes r.losr ++ (one_byte r.slot ++ (one_byte r.level ++ (two_bytes r.segment ++ (place_bytes r.place ++ (four_bytes r.dict ++ (two_bytes r.entries ++ (four_bytes r.stacks ++ (two_bytes r.stack_size ++ (one_byte r.peak ++ rest)))))))))) t.bosr,
      number_again w32 (2 ^ 32) wide32 r.losr (one_byte r.slot ++ (one_byte r.level ++ (two_bytes r.segment ++ (place_bytes r.place ++ (four_bytes r.dict ++ (two_bytes r.entries ++ (four_bytes r.stacks ++ (two_bytes r.stack_size ++ (one_byte r.peak ++ rest))))))))) t.losr,
      number_again w8 (2 ^ 8) wide8 r.slot (one_byte r.level ++ (two_bytes r.segment ++ (place_bytes r.place ++ (four_bytes r.dict ++ (two_bytes r.entries ++ (four_bytes r.stacks ++ (two_bytes r.stack_size ++ (one_byte r.peak ++ rest)))))))) t.slot,
      number_again w8 (2 ^ 8) wide8 r.level (two_bytes r.segment ++ (place_bytes r.place ++ (four_bytes r.dict ++ (two_bytes r.entries ++ (four_bytes r.stacks ++ (two_bytes r.stack_size ++ (one_byte r.peak ++ rest))))))) t.level,
      number_again w16 (2 ^ 16) wide16 r.segment (place_bytes r.place ++ (four_bytes r.dict ++ (two_bytes r.entries ++ (four_bytes r.stacks ++ (two_bytes r.stack_size ++ (one_byte r.peak ++ rest)))))) t.segment,
      place_again r.place (four_bytes r.dict ++ (two_bytes r.entries ++ (four_bytes r.stacks ++ (two_bytes r.stack_size ++ (one_byte r.peak ++ rest))))) t.place,
      number_again w32 (2 ^ 32) wide32 r.dict (two_bytes r.entries ++ (four_bytes r.stacks ++ (two_bytes r.stack_size ++ (one_byte r.peak ++ rest)))) t.dict,
      number_again w16 (2 ^ 16) wide16 r.entries (four_bytes r.stacks ++ (two_bytes r.stack_size ++ (one_byte r.peak ++ rest))) t.entries,
      number_again w32 (2 ^ 32) wide32 r.stacks (two_bytes r.stack_size ++ (one_byte r.peak ++ rest)) t.stacks,
      number_again w16 (2 ^ 16) wide16 r.stack_size (one_byte r.peak ++ rest) t.stack_size,
      within_again LEAST_STACK MOST_STACK (r.stack_size, (one_byte r.peak ++ rest)) h.stack_low h.stack_high,
      number_again w8 (2 ^ 8) wide8 r.peak rest t.peak,
    ) refl

areas_again : (a : Areas) (rest : List ℕ) → AreAreas a → read_areas (areas_bytes a ++ rest) ≡ Some (a, rest)
unfolding read_areas
areas_again a rest h =
    let regrouped : areas_bytes a ++ rest ≡ four_bytes a.size ++ (four_bytes a.low ++ rest) = refl in
    ap read_areas regrouped ∙ rw (
      number_again w32 (2 ^ 32) wide32 a.size (four_bytes a.low ++ rest) h.size,
      number_again w32 (2 ^ 32) wide32 a.low rest h.low,
    ) refl

counts_again : (k : ToldCounts) (rest : List ℕ) → AreCounts k → read_counts (counts_bytes k ++ rest) ≡ Some (k, rest)
unfolding read_counts
counts_again k rest h =
    let quantum : k.quantum < 2 ^ 32 = omega (arith, h.quantum_high) in
    let regrouped : counts_bytes k ++ rest ≡ four_bytes k.quantum ++ (eight_bytes k.made ++ (four_bytes k.turn ++ (one_byte k.last_job ++ (four_bytes k.last_number ++ (one_byte k.running ++ (four_bytes k.next_switch ++ rest)))))) = refl in
    ap read_counts regrouped ∙ rw (
      number_again w32 (2 ^ 32) wide32 k.quantum (eight_bytes k.made ++ (four_bytes k.turn ++ (one_byte k.last_job ++ (four_bytes k.last_number ++ (one_byte k.running ++ (four_bytes k.next_switch ++ rest)))))) quantum,
      within_again 1 MOST_QUANTUM (k.quantum, (eight_bytes k.made ++ (four_bytes k.turn ++ (one_byte k.last_job ++ (four_bytes k.last_number ++ (one_byte k.running ++ (four_bytes k.next_switch ++ rest))))))) h.quantum_low h.quantum_high,
      number_again w64 (2 ^ 64) wide64 k.made (four_bytes k.turn ++ (one_byte k.last_job ++ (four_bytes k.last_number ++ (one_byte k.running ++ (four_bytes k.next_switch ++ rest))))) h.made,
      number_again w32 (2 ^ 32) wide32 k.turn (one_byte k.last_job ++ (four_bytes k.last_number ++ (one_byte k.running ++ (four_bytes k.next_switch ++ rest)))) h.turn,
      number_again w8 (2 ^ 8) wide8 k.last_job (four_bytes k.last_number ++ (one_byte k.running ++ (four_bytes k.next_switch ++ rest))) h.last_job,
      number_again w32 (2 ^ 32) wide32 k.last_number (one_byte k.running ++ (four_bytes k.next_switch ++ rest)) h.last_number,
      number_again w8 (2 ^ 8) wide8 k.running (four_bytes k.next_switch ++ rest) h.running,
      number_again w32 (2 ^ 32) wide32 k.next_switch rest h.next_switch,
    ) refl

switch_again : (w : Switch) (rest : List ℕ) → IsSwitch w → read_switch (switch_bytes w ++ rest) ≡ Some (w, rest)
unfolding read_switch
switch_again w rest h =
    let count : w.count < 2 ^ 64 = omega (arith, h.count) in
    let job : w.job < 2 ^ 8 = omega (arith, h.job_high) in
    let task : w.task < 2 ^ 32 = omega (arith, h.task_high) in
    let regrouped : switch_bytes w ++ rest ≡ eight_bytes w.count ++ (one_byte w.job ++ (four_bytes w.task ++ rest)) = refl in
    ap read_switch regrouped ∙ rw (
      number_again w64 (2 ^ 64) wide64 w.count (one_byte w.job ++ (four_bytes w.task ++ rest)) count,
      within_again 0 MOST_MADE (w.count, (one_byte w.job ++ (four_bytes w.task ++ rest))) (omega arith) h.count,
      number_again w8 (2 ^ 8) wide8 w.job (four_bytes w.task ++ rest) job,
      within_again 1 MOST_JOBS (w.job, (four_bytes w.task ++ rest)) h.job_low h.job_high,
      number_again w32 (2 ^ 32) wide32 w.task rest task,
      within_again 1 MOST_NUMBER (w.task, rest) h.task_low h.task_high,
    ) refl

bytes_again : (xs rest : List ℕ) → read_bytes (length xs) (xs ++ rest) ≡ Some (xs, rest)
bytes_again xs rest =
    let long : ltb (length (xs ++ rest)) (length xs) ≡ false = le-ltb _ _ (omega (arith, length-append xs rest)) in
    rw (long, take_at xs rest (length xs) refl, drop_at xs rest (length xs) refl) refl

pub name_short : (name : List ℕ) → is_name name ≡ true → length name ≤ 16
name_short [] e = omega arith
name_short (b ∷ more) e =
    let last = and_parts (is_ascii_uppercase b && list_all (λ c. is_ascii_uppercase c || is_ascii_digit c) more) (nat_lt (length more) 16) e in
    omega (arith, ltb-true (length more) 16 last.1)

name_again : (name rest : List ℕ) → is_name name ≡ true → read_name (name_bytes name ++ rest) ≡ Some (name, rest)
unfolding read_name
name_again name rest h =
    let regrouped : name_bytes name ++ rest ≡ one_byte (length name) ++ (name ++ rest) = append_assoc (one_byte (length name)) name rest in
    let lt : length name < 2 ^ 8 = omega (arith, name_short name h) in
    ap read_name regrouped ∙ rw (number_again w8 (2 ^ 8) wide8 (length name) (name ++ rest) lt, bytes_again name rest, h) refl

signed_again : (z : ℤ) (rest : List ℕ) → IsReadNumber z → read_signed (signed_bytes z ++ rest) ≡ Some (z, rest)
unfolding read_signed
signed_again z rest h =
    let fits : SFits w64 z = small_fits z h.small in
    let lt : cast_unsigned w64 z < 2 ^ 64 = (Fits-of_z {w = w64} {z = z} fits).fits in
    let back : cast_signed w64 (cast_unsigned w64 z) ≡ z = to_z-of_z w64 z fits in
    rw (number_again w64 (2 ^ 64) wide64 (cast_unsigned w64 z) rest lt, back, le-leb (nat_abs z) GREATEST h.small) refl

pub front_parts : (j : JobRow) (rest : List ℕ) → job_bytes j ++ rest
    ≡ name_bytes j.name ++ (four_bytes j.dict ++ (two_bytes j.segments ++ (two_bytes j.rows ++ (eight_bytes j.limit ++ (eight_bytes j.made ++ (four_bytes j.next_task ++ (listed_bytes signed_bytes j.numbers ++ (four_bytes j.next_number ++ rest))))))))
front_parts j rest =
    append_assoc (name_bytes j.name) (job_front j ++ job_numbers j) rest
    ∙ ap (λ (t : List ℕ). name_bytes j.name ++ t) (append_assoc (job_front j) (job_numbers j) rest)
    ∙ ap (λ (t : List ℕ). name_bytes j.name ++ (job_front j ++ t)) (append_assoc (listed_bytes signed_bytes j.numbers) (four_bytes j.next_number) rest)

job_again : (j : JobRow) (rest : List ℕ) → IsJob j → read_job (job_bytes j ++ rest) ≡ Some (j, rest)
unfolding read_job
job_again j rest h =
    let segments : j.segments < 2 ^ 16 = omega (arith, h.few) in
    let rows : j.rows < 2 ^ 16 = omega (arith, h.few) in
    let limit : j.limit < 2 ^ 64 = omega (arith, h.limit_high) in
    let a : List ℕ = four_bytes j.next_number ++ rest in
    let b : List ℕ = listed_bytes signed_bytes j.numbers ++ a in
    let c : List ℕ = four_bytes j.next_task ++ b in
    let d : List ℕ = eight_bytes j.made ++ c in
    let e : List ℕ = eight_bytes j.limit ++ d in
    let f : List ℕ = two_bytes j.rows ++ e in
    let g : List ℕ = two_bytes j.segments ++ f in
    ap read_job (front_parts j rest) ∙ rw (
      name_again j.name (four_bytes j.dict ++ g) h.name,
      number_again w32 (2 ^ 32) wide32 j.dict g h.dict,
      number_again w16 (2 ^ 16) wide16 j.segments f segments,
      number_again w16 (2 ^ 16) wide16 j.rows e rows,
      le-leb (j.segments + j.rows) MOST_PARTS h.few,
      number_again w64 (2 ^ 64) wide64 j.limit d limit,
      within_again 1 MOST_LIMIT (j.limit, d) h.limit_low h.limit_high,
      number_again w64 (2 ^ 64) wide64 j.made c h.made,
      number_again w32 (2 ^ 32) wide32 j.next_task b h.next_task,
      counted_again 0 4294967295 read_signed signed_bytes IsReadNumber (omega arith) signed_again j.numbers a h.numbers,
      number_again w32 (2 ^ 32) wide32 j.next_number rest h.next_number,
    ) refl

state_again : (s : TaskState) (rest : List ℕ) → IsState s → read_state (state_bytes s ++ rest) ≡ Some (s, rest)
unfolding read_state
state_again Ready rest h = rw (number_again w8 (2 ^ 8) wide8 0 (four_bytes 0 ++ (two_bytes 0 ++ rest)) (omega arith), number_again w32 (2 ^ 32) wide32 0 (two_bytes 0 ++ rest) (omega arith), number_again w16 (2 ^ 16) wide16 0 rest (omega arith)) refl
state_again (Awaits n) rest h = rw (number_again w8 (2 ^ 8) wide8 1 (four_bytes n ++ (two_bytes 0 ++ rest)) (omega arith), number_again w32 (2 ^ 32) wide32 n (two_bytes 0 ++ rest) h, number_again w16 (2 ^ 16) wide16 0 rest (omega arith)) refl
state_again (WaitsAt mark offset) rest h = rw (number_again w8 (2 ^ 8) wide8 2 (four_bytes mark ++ (two_bytes offset ++ rest)) (omega arith), number_again w32 (2 ^ 32) wide32 mark (two_bytes offset ++ rest) h.0, number_again w16 (2 ^ 16) wide16 offset rest h.1) refl

pub row_parts : (r : TaskRow) (rest : List ℕ) → task_row_bytes r ++ rest ≡ one_byte r.job ++ (four_bytes r.number ++ (one_byte r.slot ++ (one_byte r.parent ++ (two_bytes r.critical ++ (state_bytes r.state ++ (two_bytes r.segment ++ (place_bytes r.place ++ rest)))))))
row_parts r rest = ap (λ (t : List ℕ). one_byte r.job ++ (four_bytes r.number ++ (one_byte r.slot ++ (one_byte r.parent ++ (two_bytes r.critical ++ t))))) (append_assoc (state_bytes r.state) (two_bytes r.segment ++ place_bytes r.place) rest)

row_again : (r : TaskRow) (rest : List ℕ) → IsRowInRange r → read_row (task_row_bytes r ++ rest) ≡ Some (r, rest)
unfolding read_row
row_again r rest h =
    let a : List ℕ = place_bytes r.place ++ rest in
    let b : List ℕ = two_bytes r.segment ++ a in
    let c : List ℕ = state_bytes r.state ++ b in
    let d : List ℕ = two_bytes r.critical ++ c in
    let e : List ℕ = one_byte r.parent ++ d in
    let f : List ℕ = one_byte r.slot ++ e in
    ap read_row (row_parts r rest) ∙ rw (
      number_again w8 (2 ^ 8) wide8 r.job (four_bytes r.number ++ f) h.job,
      number_again w32 (2 ^ 32) wide32 r.number f h.number,
      number_again w8 (2 ^ 8) wide8 r.slot e h.slot,
      number_again w8 (2 ^ 8) wide8 r.parent d h.parent,
      number_again w16 (2 ^ 16) wide16 r.critical c h.critical,
      state_again r.state b h.state,
      number_again w16 (2 ^ 16) wide16 r.segment a h.segment,
      place_again r.place rest h.place,
    ) refl

-- ---- all of the bytes

-- each part by itself
abbrev pub flat_parts : ImageParts → List ℕ
flat_parts p = eight_bytes image_header ++ (listed_bytes tagged_bytes p.core ++ (regs_bytes p.regs ++ (flat_map four_bytes p.display ++ (flat_map two_bytes p.critical ++ (areas_bytes p.areas
    ++ (listed_bytes four_bytes p.links ++ (counts_bytes p.counts ++ (listed_bytes switch_bytes p.switches ++ (listed_bytes job_bytes p.jobs ++ (listed_bytes task_row_bytes p.rows ++ []))))))))))

pub all_parts : (p : ImageParts) → image_bytes p ≡ flat_parts p
unfolding image_bytes
all_parts p =
    let tables : List ℕ = counts_bytes p.counts ++ (listed_bytes switch_bytes p.switches ++ (listed_bytes job_bytes p.jobs ++ (listed_bytes task_row_bytes p.rows ++ []))) in
    let rest : List ℕ = areas_bytes p.areas ++ (listed_bytes four_bytes p.links ++ tables) in
    ap (λ (t : List ℕ). eight_bytes image_header ++ (cpu_bytes p ++ (areas_bytes p.areas ++ (listed_bytes four_bytes p.links ++ (counts_bytes p.counts ++ (listed_bytes switch_bytes p.switches ++ (listed_bytes job_bytes p.jobs ++ t))))))) (sym (append-nil (listed_bytes task_row_bytes p.rows)))
    ∙ ap (λ (t : List ℕ). eight_bytes image_header ++ t) (append_assoc (listed_bytes tagged_bytes p.core) (regs_bytes p.regs ++ (flat_map four_bytes p.display ++ flat_map two_bytes p.critical)) rest
    ∙ ap (λ (t : List ℕ). listed_bytes tagged_bytes p.core ++ t) (append_assoc (regs_bytes p.regs) (flat_map four_bytes p.display ++ flat_map two_bytes p.critical) rest
    ∙ ap (λ (t : List ℕ). regs_bytes p.regs ++ t) (append_assoc (flat_map four_bytes p.display) (flat_map two_bytes p.critical) rest)))

pub parts_again : (p : ImageParts) → ArePartsWithin p → parts_in (image_bytes p) ≡ Some p
unfolding parts_in read_parts read_core read_links read_switches read_jobs read_rows
parts_again p h =
    let a : List ℕ = listed_bytes task_row_bytes p.rows ++ [] in
    let b : List ℕ = listed_bytes job_bytes p.jobs ++ a in
    let c : List ℕ = listed_bytes switch_bytes p.switches ++ b in
    let d : List ℕ = counts_bytes p.counts ++ c in
    let e : List ℕ = listed_bytes four_bytes p.links ++ d in
    let f : List ℕ = areas_bytes p.areas ++ e in
    let g : List ℕ = flat_map two_bytes p.critical ++ f in
    let i : List ℕ = flat_map four_bytes p.display ++ g in
    let j : List ℕ = regs_bytes p.regs ++ i in
    let display : read_many (read_number w32) 32 i ≡ Some (p.display, g) = ap (λ (n : ℕ). read_many (read_number w32) n i) (sym h.display_many) ∙ many_again (read_number w32) four_bytes IsFour four_again p.display g h.display in
    let critical : read_many (read_number w16) 120 g ≡ Some (p.critical, f) = ap (λ (n : ℕ). read_many (read_number w16) n g) (sym h.critical_many) ∙ many_again (read_number w16) two_bytes IsTwo two_again p.critical f h.critical in
    ap parts_in (all_parts p) ∙ rw (
      number_again w64 (2 ^ 64) wide64 image_header (listed_bytes tagged_bytes p.core ++ j) (omega arith),
      counted_again LEAST_CORE MOST_CORE read_word tagged_bytes IsWord (omega arith) word_again p.core j h.core,
      regs_again p.regs i h.regs,
      display,
      critical,
      areas_again p.areas e h.areas,
      counted_again 1 MOST_SECTORS (read_number w32) four_bytes IsFour (omega arith) four_again p.links d h.links,
      counts_again p.counts c h.counts,
      counted_again 0 MOST_SWITCHES read_switch switch_bytes IsSwitch (omega arith) switch_again p.switches b h.switches,
      counted_again 0 8 read_job job_bytes IsJob (omega arith) job_again p.jobs a h.jobs,
      counted_again 0 120 read_row task_row_bytes IsRowInRange (omega arith) row_again p.rows [] h.rows,
    ) refl
