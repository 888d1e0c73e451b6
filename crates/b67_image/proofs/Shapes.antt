-- What is spelled has the shape of an image.
use Rattle.std.proofs.Common.{◌≡◌, ℕ, suc, ◌+◌, ◌*◌, ◌<◌, ◌^◌, true, false, List, [], ◌∷◌, ◌++◌, length, Some, refl, sym, ap, ◌∙◌, append_assoc, arith, ltb}
use Rattle.std.specs.Int.{w8, w32, w64}
use Rattle.std.specs.List.{flat_map, AllByRecursion}
use Rattle.std.proofs.lemmas.Bool.{le-ltb}
use Rattle.std.proofs.Math.Nat.{suc-mul}
use Rattle.std.proofs.lemmas.List.{drop_at, length-append}
use Rattle.std.proofs.lemmas.List.Concat.{flat_map-cons}
use Rattle.b67_task.specs.declared.tables.TaskState.{TaskState}
use Rattle.b67_task.specs.declared.tables.TaskState.TheVariants.{Ready, Awaits, WaitsAt}
use Rattle.b67_task.specs.declared.tables.TaskRow.{TaskRow}
use Rattle.b67_task.specs.declared.tables.JobRow.{JobRow}
use Rattle.b67_image.specs.Parts.{ImageParts}
use Rattle.b67_image.specs.Spelling.{one_byte, two_bytes, four_bytes, eight_bytes, image_header, listed_bytes, signed_bytes, tagged_bytes, regs_bytes, areas_bytes, counts_bytes, switch_bytes, name_bytes, job_front, job_numbers, job_bytes, state_bytes, task_row_bytes, cpu_bytes, tables_bytes, image_bytes}
use Rattle.b67_image.specs.Shape.{skipped, skipped_list, skipped_job, skipped_many, skipped_jobs, skipped_all, has_shape, has_header}
use Rattle.b67_image.specs.Within.{AreItems, IsJob, ArePartsWithin}
use Rattle.b67_image.proofs.Forms.{wide8, wide32, wide64, number_again, name_short, flat_parts, all_parts}
use Rattle.b67_model.specs.declared.limits.TheConstants.{MOST_JOBS}

skip_again : (n : ℕ) (xs rest : List ℕ) → length xs ≡ n → skipped n (xs ++ rest) ≡ Some rest
skip_again n xs rest len =
    let long : ltb (length (xs ++ rest)) n ≡ false = le-ltb _ _ (omega (arith, length-append xs rest)) in
    rw (long, drop_at xs rest n len) refl

-- so many items of one width
more_is : (a width b m total : ℕ) → a ≡ width → b ≡ m → total ≡ m + width → a + b ≡ total
more_is a width b m total e f g = omega (arith, e, f, g)

pub flat_many : {X : Type 0} (spell : X → List ℕ) (width : ℕ) → ((x : X) → length (spell x) ≡ width) → (xs : List X) → length (flat_map spell xs) ≡ length xs * width
flat_many spell width each [] = omega arith
flat_many spell width each (x ∷ xs) =
    ap length (flat_map-cons spell x xs) ∙ length-append (spell x) (flat_map spell xs)
    ∙ (let more : suc (length xs) * width ≡ length xs * width + width = suc-mul (length xs) width in
    let e : length (spell x) + length (flat_map spell xs) ≡ suc (length xs) * width = more_is (length (spell x)) width (length (flat_map spell xs)) (length xs * width) (suc (length xs) * width) (each x) (flat_many spell width each xs) more in e)

list_again : {X : Type 0} (spell : X → List ℕ) (width : ℕ) → ((x : X) → length (spell x) ≡ width) → (xs : List X) (rest : List ℕ) → length xs < 2 ^ 32 → skipped_list width (listed_bytes spell xs ++ rest) ≡ Some rest
unfolding skipped_list
list_again spell width each xs rest lt =
    let regrouped : listed_bytes spell xs ++ rest ≡ four_bytes (length xs) ++ (flat_map spell xs ++ rest) = append_assoc (four_bytes (length xs)) (flat_map spell xs) rest in
    ap (skipped_list width) regrouped ∙ rw (number_again w32 (2 ^ 32) wide32 (length xs) (flat_map spell xs ++ rest) lt) (skip_again (length xs * width) (flat_map spell xs) rest (flat_many spell width each xs))

job_again : (j : JobRow) (rest : List ℕ) → IsJob j → skipped_job (job_bytes j ++ rest) ≡ Some rest
unfolding skipped_job
job_again j rest h =
    let numbers : List ℕ = four_bytes j.next_number ++ rest in
    let fixed : List ℕ = four_bytes j.dict ++ (two_bytes j.segments ++ (two_bytes j.rows ++ (eight_bytes j.limit ++ (eight_bytes j.made ++ four_bytes j.next_task)))) in
    let front : List ℕ = j.name ++ fixed in
    let regrouped : job_bytes j ++ rest ≡ one_byte (length j.name) ++ (front ++ (listed_bytes signed_bytes j.numbers ++ numbers)) =
    append_assoc (name_bytes j.name) (job_front j ++ job_numbers j) rest
    ∙ append_assoc (one_byte (length j.name)) j.name ((job_front j ++ job_numbers j) ++ rest)
    ∙ ap (λ (t : List ℕ). one_byte (length j.name) ++ (j.name ++ t)) (append_assoc fixed (job_numbers j) rest)
    ∙ ap (λ (t : List ℕ). one_byte (length j.name) ++ t) (sym (append_assoc j.name fixed (job_numbers j ++ rest)))
    ∙ ap (λ (t : List ℕ). one_byte (length j.name) ++ (front ++ t)) (append_assoc (listed_bytes signed_bytes j.numbers) (four_bytes j.next_number) rest) in
    let lt : length j.name < 2 ^ 8 = omega (arith, name_short j.name h.name) in
    let long : length front ≡ length j.name + 28 = length-append j.name fixed in
    let few : length j.numbers < 2 ^ 32 = omega (arith, h.numbers.few) in
    ap skipped_job regrouped ∙ rw (
      number_again w8 (2 ^ 8) wide8 (length j.name) (front ++ (listed_bytes signed_bytes j.numbers ++ numbers)) lt,
      skip_again (length j.name + 28) front (listed_bytes signed_bytes j.numbers ++ numbers) long,
      list_again signed_bytes 8 (λ z. refl) j.numbers numbers few,
      skip_again 4 (four_bytes j.next_number) rest refl,
    ) refl

jobs_again : (jobs : List JobRow) (rest : List ℕ) → AllByRecursion IsJob jobs → skipped_many skipped_job (length jobs) (flat_map job_bytes jobs ++ rest) ≡ Some rest
unfolding skipped_many
jobs_again [] rest h = refl
jobs_again (j ∷ jobs) rest h =
    let regrouped : flat_map job_bytes (j ∷ jobs) ++ rest ≡ job_bytes j ++ (flat_map job_bytes jobs ++ rest) = ap (λ (t : List ℕ). t ++ rest) (flat_map-cons job_bytes j jobs) ∙ append_assoc (job_bytes j) (flat_map job_bytes jobs) rest in
    ap (skipped_many skipped_job (suc (length jobs))) regrouped ∙ rw (job_again j (flat_map job_bytes jobs ++ rest) h.0) (jobs_again jobs rest h.1)

job_list_again : (jobs : List JobRow) (rest : List ℕ) → AreItems 0 MOST_JOBS IsJob jobs → skipped_jobs (listed_bytes job_bytes jobs ++ rest) ≡ Some rest
job_list_again jobs rest h =
    let regrouped : listed_bytes job_bytes jobs ++ rest ≡ four_bytes (length jobs) ++ (flat_map job_bytes jobs ++ rest) = append_assoc (four_bytes (length jobs)) (flat_map job_bytes jobs) rest in
    let lt : length jobs < 2 ^ 32 = omega (arith, h.few) in
    ap skipped_jobs regrouped ∙ rw (number_again w32 (2 ^ 32) wide32 (length jobs) (flat_map job_bytes jobs ++ rest) lt) (jobs_again jobs rest h.each)

-- 21 bytes for each task
pub row_width : (r : TaskRow) → length (task_row_bytes r) ≡ 21
row_width r = by_state r.state
  where
    by_state : (s : TaskState) → length (one_byte r.job ++ (four_bytes r.number ++ (one_byte r.slot ++ (one_byte r.parent ++ (two_bytes r.critical ++ (state_bytes s ++ (two_bytes r.segment ++ (two_bytes r.place.word ++ one_byte r.place.syllable)))))))) ≡ 21
    by_state Ready = refl
    by_state (Awaits n) = refl
    by_state (WaitsAt mark offset) = refl

pub shape_again : (p : ImageParts) → ArePartsWithin p → has_shape (image_bytes p) ≡ true
unfolding skipped_all
shape_again p h =
    let g : List ℕ = listed_bytes task_row_bytes p.rows ++ [] in
    let f : List ℕ = listed_bytes job_bytes p.jobs ++ g in
    let e : List ℕ = listed_bytes switch_bytes p.switches ++ f in
    let d : List ℕ = counts_bytes p.counts ++ e in
    let c : List ℕ = listed_bytes four_bytes p.links ++ d in
    let middle : List ℕ = regs_bytes p.regs ++ (flat_map four_bytes p.display ++ (flat_map two_bytes p.critical ++ areas_bytes p.areas)) in
    let parts : regs_bytes p.regs ++ (flat_map four_bytes p.display ++ (flat_map two_bytes p.critical ++ (areas_bytes p.areas ++ c))) ≡ middle ++ c =
    ap (λ (t : List ℕ). regs_bytes p.regs ++ (flat_map four_bytes p.display ++ t)) (sym (append_assoc (flat_map two_bytes p.critical) (areas_bytes p.areas) c))
    ∙ ap (λ (t : List ℕ). regs_bytes p.regs ++ t) (sym (append_assoc (flat_map four_bytes p.display) (flat_map two_bytes p.critical ++ areas_bytes p.areas) c))
    ∙ sym (append_assoc (regs_bytes p.regs) (flat_map four_bytes p.display ++ (flat_map two_bytes p.critical ++ areas_bytes p.areas)) c) in
    let whole : flat_parts p ≡ eight_bytes image_header ++ (listed_bytes tagged_bytes p.core ++ (middle ++ c)) = ap (λ (t : List ℕ). eight_bytes image_header ++ (listed_bytes tagged_bytes p.core ++ t)) parts in
    ap has_shape (all_parts p ∙ whole) ∙ rw (
      skip_again 8 (eight_bytes image_header) (listed_bytes tagged_bytes p.core ++ (middle ++ c)) refl,
      list_again tagged_bytes 8 (λ w. refl) p.core (middle ++ c) (omega (arith, h.core.few)),
      skip_again 412 middle c middle_is,
      list_again four_bytes 4 (λ n. refl) p.links d (omega (arith, h.links.few)),
      skip_again 26 (counts_bytes p.counts) e refl,
      list_again switch_bytes 13 (λ w. refl) p.switches f (omega (arith, h.switches.few)),
      job_list_again p.jobs g h.jobs,
      list_again task_row_bytes 21 row_width p.rows [] (omega (arith, h.rows.few)),
    ) refl
  where
    middle_is : length (regs_bytes p.regs ++ (flat_map four_bytes p.display ++ (flat_map two_bytes p.critical ++ areas_bytes p.areas))) ≡ 412
    middle_is =
        length-append (regs_bytes p.regs) (flat_map four_bytes p.display ++ (flat_map two_bytes p.critical ++ areas_bytes p.areas))
        ∙ (let e : 36 + length (flat_map four_bytes p.display ++ (flat_map two_bytes p.critical ++ areas_bytes p.areas)) ≡ 412 =
        omega (arith, length-append (flat_map four_bytes p.display) (flat_map two_bytes p.critical ++ areas_bytes p.areas), length-append (flat_map two_bytes p.critical) (areas_bytes p.areas), flat_many four_bytes 4 (λ n. refl) p.display, flat_many two_bytes 2 (λ n. refl) p.critical, h.display_many, h.critical_many) in e)

pub header_again : (p : ImageParts) → has_header (image_bytes p) ≡ true
unfolding image_bytes
header_again p = rw (number_again w64 (2 ^ 64) wide64 image_header (cpu_bytes p ++ (areas_bytes p.areas ++ (listed_bytes four_bytes p.links ++ tables_bytes p))) (omega arith)) refl
