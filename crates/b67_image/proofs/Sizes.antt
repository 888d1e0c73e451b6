-- How long the text of an image is.
use Rattle.std.proofs.Common.{◌≡◌, ℕ, zero, suc, ◌+◌, ◌*◌, ◌/◌, ◌%◌, ◌≤◌, List, [], ◌∷◌, ◌++◌, map, length, take, drop, refl, ap, ◌∙◌, arith}
use Rattle.std.specs.List.{flat_map, range_with_len, AllByRecursion}
use Rattle.std.proofs.lemmas.List.{length-append}
use Rattle.std.proofs.lemmas.List.Concat.{flat_map-cons}
use Rattle.std.proofs.lemmas.List.FromFn.{length-range_with_len}
use Rattle.b67_io.specs.Line.{ended}
use Rattle.b67_ctl.specs.declared.map.TheConstants.{SLOTS}
use Rattle.b67_model_text.specs.Hex.{hex_char, hex_text}
use Rattle.b67_task.specs.declared.tables.JobRow.{JobRow}
use Rattle.b67_image.specs.Parts.{ImageParts, parts_of}
use Rattle.b67_image.specs.Spelling.{one_byte, eight_bytes, four_bytes, two_bytes, image_header, listed_bytes, signed_bytes, tagged_bytes, regs_bytes, areas_bytes, counts_bytes, switch_bytes, name_bytes, job_front, job_numbers, job_bytes, task_row_bytes, image_bytes}
use Rattle.b67_image.specs.Text.{first_card, last_card, card_lines, image_text_of}
use Rattle.b67_image.specs.Within.{IsJob, ArePartsWithin}
use Rattle.b67_image.specs.Image.{image_text}
use Rattle.b67_image.specs.Laws.{ImagesAreShort, numbers_for_read}
use Rattle.b67_image.proofs.Forms.{name_short, all_parts}
use Rattle.b67_image.proofs.Shapes.{flat_many, row_width}
use Rattle.b67_model.specs.declared.limits.TheConstants.{MOST_CORE, MOST_SECTORS, MOST_JOBS, MOST_SWITCHES}

-- ---- lines

take_most : (n : ℕ) (xs : List ℕ) → length (take n xs) ≤ n
take_most zero xs = omega arith
take_most (suc n) [] = omega arith
take_most (suc n) (x ∷ xs) = let h = take_most n xs in omega (arith, h)

pub card_most : (bytes : List ℕ) (i : ℕ) → length (hex_text (take 32 (drop (32 * i) bytes))) ≤ 64
card_most bytes i =
    let few = take_most 32 (drop (32 * i) bytes) in
    let long : length (hex_text (take 32 (drop (32 * i) bytes))) ≡ length (take 32 (drop (32 * i) bytes)) * 2 = flat_many (λ (b : ℕ). hex_char (b / 16) ∷ hex_char (b % 16) ∷ []) 2 (λ b. refl) (take 32 (drop (32 * i) bytes)) in
    omega (arith, few, long)

lines_most : (card : ℕ → List ℕ) → ((i : ℕ) → length (card i) ≤ 64) → (is : List ℕ) → length (flat_map ended (map card is)) ≤ 65 * length is
lines_most card each [] = omega arith
lines_most card each (i ∷ is) =
    let whole : length (flat_map ended (map card (i ∷ is))) ≡ length (ended (card i)) + length (flat_map ended (map card is)) = ap length (flat_map-cons ended (card i) (map card is)) ∙ length-append (ended (card i)) (flat_map ended (map card is)) in
    let one : length (ended (card i)) ≡ length (card i) + 1 = length-append (card i) (10 ∷ []) in
    let few = each i in
    let rest = lines_most card each is in
    omega (arith, whole, one, few, rest)

cards_most : (bytes : List ℕ) → length (card_lines bytes) ≤ 65 * ((length bytes + 31) / 32)
cards_most bytes =
    let n = (length bytes + 31) / 32 in
    let many : length (range_with_len 0 n) ≡ n = length-range_with_len 0 n in
    let most : length (card_lines bytes) ≤ 65 * length (range_with_len 0 n) = lines_most (λ (i : ℕ). hex_text (take 32 (drop (32 * i) bytes))) (card_most bytes) (range_with_len 0 n) in
    omega (arith, many, most)

text_most : (bytes : List ℕ) → length (image_text_of bytes) ≤ 12 + 65 * ((length bytes + 31) / 32)
text_most bytes =
    let whole : length (image_text_of bytes) ≡ 7 + length (card_lines bytes ++ ended last_card) = length-append (ended first_card) (card_lines bytes ++ ended last_card) in
    let end : length (card_lines bytes ++ ended last_card) ≡ length (card_lines bytes) + 5 = length-append (card_lines bytes) (ended last_card) in
    let most = cards_most bytes in
    omega (arith, whole, end, most)

-- ---- bytes

list_long : {X : Type 0} (spell : X → List ℕ) (width : ℕ) → ((x : X) → length (spell x) ≡ width) → (xs : List X) → length (listed_bytes spell xs) ≡ 4 + length xs * width
list_long spell width each xs = length-append (four_bytes (length xs)) (flat_map spell xs) ∙ ap (λ (n : ℕ). 4 + n) (flat_many spell width each xs)

job_long : (j : JobRow) → length (job_bytes j) ≡ length j.name + 37 + length j.numbers * 8
job_long j =
    let whole = length-append (name_bytes j.name) (job_front j ++ job_numbers j) in
    let name : length (name_bytes j.name) ≡ 1 + length j.name = length-append (one_byte (length j.name)) j.name in
    let more : length (job_front j ++ job_numbers j) ≡ 28 + length (job_numbers j) = length-append (job_front j) (job_numbers j) in
    let numbers : length (job_numbers j) ≡ length (listed_bytes signed_bytes j.numbers) + 4 = length-append (listed_bytes signed_bytes j.numbers) (four_bytes j.next_number) in
    let each = list_long signed_bytes 8 (λ z. refl) j.numbers in
    omega (arith, whole, name, more, numbers, each)

jobs_most : (jobs : List JobRow) → AllByRecursion IsJob jobs → length (flat_map job_bytes jobs) ≤ 53 * length jobs + 8 * numbers_for_read jobs
jobs_most [] h = omega arith
jobs_most (j ∷ jobs) h =
    let whole : length (flat_map job_bytes (j ∷ jobs)) ≡ length (job_bytes j) + length (flat_map job_bytes jobs) = ap length (flat_map-cons job_bytes j jobs) ∙ length-append (job_bytes j) (flat_map job_bytes jobs) in
    let one = job_long j in
    let name = name_short j.name h.0.name in
    let rest = jobs_most jobs h.1 in
    omega (arith, whole, one, name, rest)

-- the fields in their order: the header, core, what stands behind it, links, counts, switches, jobs with the numbers of a deck, rows
abbrev whole_most : ℕ
whole_most = 8 + (4 + 8 * MOST_CORE) + 412 + (4 + 4 * MOST_SECTORS) + 26 + (4 + 13 * MOST_SWITCHES) + (4 + 53 * MOST_JOBS + 8 * 2097152) + (4 + 21 * SLOTS)

bytes_most : (p : ImageParts) → ArePartsWithin p → numbers_for_read p.jobs ≤ 2097152 → length (image_bytes p) ≤ whole_most
bytes_most p h many =
    let i : List ℕ = listed_bytes task_row_bytes p.rows ++ [] in
    let g : List ℕ = listed_bytes job_bytes p.jobs ++ i in
    let f : List ℕ = listed_bytes switch_bytes p.switches ++ g in
    let e : List ℕ = counts_bytes p.counts ++ f in
    let d : List ℕ = listed_bytes four_bytes p.links ++ e in
    let c : List ℕ = areas_bytes p.areas ++ d in
    let b : List ℕ = flat_map two_bytes p.critical ++ c in
    let a : List ℕ = flat_map four_bytes p.display ++ b in
    let r : List ℕ = regs_bytes p.regs ++ a in
    let tail : length i ≤ 4 + 21 * SLOTS = let z = length-append (listed_bytes task_row_bytes p.rows) [] in let n = list_long task_row_bytes 21 row_width p.rows in let few = h.rows.few in omega (arith, z, n, few) in
    let jobs : length g ≤ 4 + 53 * MOST_JOBS + 8 * 2097152 + length i = let z = length-append (listed_bytes job_bytes p.jobs) i in let y = length-append (four_bytes (length p.jobs)) (flat_map job_bytes p.jobs) in jobs_fit p.jobs i z y (jobs_most p.jobs h.jobs.each) h.jobs.few many in
    let switches : length f ≤ 4 + 13 * MOST_SWITCHES + length g = let z = length-append (listed_bytes switch_bytes p.switches) g in let n = list_long switch_bytes 13 (λ w. refl) p.switches in let few = h.switches.few in omega (arith, z, n, few) in
    let counts : length e ≡ 26 + length f = length-append (counts_bytes p.counts) f in
    let links : length d ≤ 4 + 4 * MOST_SECTORS + length e = let z = length-append (listed_bytes four_bytes p.links) e in let n = list_long four_bytes 4 (λ k. refl) p.links in let few = h.links.few in omega (arith, z, n, few) in
    let areas : length c ≡ 8 + length d = length-append (areas_bytes p.areas) d in
    let critical : length b ≡ 240 + length c = let z = length-append (flat_map two_bytes p.critical) c in let n = flat_many two_bytes 2 (λ k. refl) p.critical in let is = h.critical_many in omega (arith, z, n, is) in
    let display : length a ≡ 128 + length b = let z = length-append (flat_map four_bytes p.display) b in let n = flat_many four_bytes 4 (λ k. refl) p.display in let is = h.display_many in omega (arith, z, n, is) in
    let regs : length r ≡ 36 + length a = length-append (regs_bytes p.regs) a in
    let core : length (listed_bytes tagged_bytes p.core ++ r) ≤ 4 + 8 * MOST_CORE + length r = let z = length-append (listed_bytes tagged_bytes p.core) r in let n = list_long tagged_bytes 8 (λ w. refl) p.core in let few = h.core.few in omega (arith, z, n, few) in
    let whole : length (image_bytes p) ≡ 8 + length (listed_bytes tagged_bytes p.core ++ r) = ap length (all_parts p) ∙ length-append (eight_bytes image_header) (listed_bytes tagged_bytes p.core ++ r) in
    omega (arith, tail, jobs, switches, counts, links, areas, critical, display, regs, core, whole)
  where
    jobs_fit : (jobs : List JobRow) (rest : List ℕ) → length (listed_bytes job_bytes jobs ++ rest) ≡ length (listed_bytes job_bytes jobs) + length rest → length (listed_bytes job_bytes jobs) ≡ 4 + length (flat_map job_bytes jobs)
        → length (flat_map job_bytes jobs) ≤ 53 * length jobs + 8 * numbers_for_read jobs → length jobs ≤ MOST_JOBS → numbers_for_read jobs ≤ 2097152 → length (listed_bytes job_bytes jobs ++ rest) ≤ 4 + 53 * MOST_JOBS + 8 * 2097152 + length rest
    jobs_fit jobs rest z y most few many = omega (arith, z, y, most, few, many)

pub image_short : ImagesAreShort
unfolding image_text
image_short m h many = let bytes = bytes_most (parts_of m) h many in let text = text_most (image_bytes (parts_of m)) in omega (arith, bytes, text)
