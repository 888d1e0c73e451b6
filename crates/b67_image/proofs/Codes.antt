-- No two machines have one image: an item is known by the bytes in front, and so are those behind it.
use Rattle.std.proofs.Common.{◌≡◌, ℕ, suc, ◌+◌, ◌-◌, ◌*◌, ◌^◌, ◌<◌, ◌≤◌, ℤ, List, [], ◌∷◌, ◌++◌, length, take, drop, map, true, nat_lt, ◌&&◌, ◌||◌, refl, sym, ap, subst, ◌∙◌, append_assoc, append-nil, arith}
use Rattle.std.specs.Int.{Width, w8, w16, w32, w64, to_be_bytes, cast_signed, cast_unsigned}
use Rattle.std.specs.List.{flat_map, AllByRecursion, list_all}
use Rattle.std.specs.Char.{is_ascii_uppercase, is_ascii_digit}
use Rattle.std.proofs.lemmas.Bool.{and_parts, ltb-true}
use Rattle.b67_model_text.specs.Cards.{is_name}
use Rattle.std.proofs.lemmas.Option.{same_Some}
use Rattle.std.proofs.lemmas.List.{length-append, take_at, drop_at}
use Rattle.std.proofs.lemmas.List.Concat.{flat_map-cons}
use Rattle.std.proofs.Math.Facts.{Fits-of_z}
use Rattle.std.proofs.lemmas.Int.{to_z-of_z}
use Rattle.b67_word.specs.Common.{IsWord}
use Rattle.b67_word.specs.Numbers.{number}
use Rattle.b67_backing.specs.Shelf.{Table, row}
use Rattle.b67_backing.specs.Links.{table_link, links_in}
use Rattle.b67_model_text.specs.declared.deck.Switch.{Switch}
use Rattle.b67_task.specs.declared.tables.TaskState.TheVariants.{Ready, Awaits, WaitsAt}
use Rattle.b67_task.specs.declared.tables.JobRow.{JobRow}
use Rattle.b67_image.specs.Parts.{ToldCounts, ImageParts}
use Rattle.b67_image.specs.Giving.{read_number}
use Rattle.b67_image.specs.Spelling.{one_byte, two_bytes, four_bytes, eight_bytes, image_header, listed_bytes, signed_bytes, tagged_bytes, place_bytes, regs_bytes, areas_bytes, counts_bytes, switch_bytes, name_bytes, job_front, job_numbers, job_bytes, state_bytes, task_row_bytes, cpu_bytes, tables_bytes, image_bytes}
use Rattle.b67_image.specs.Within.{IsPlaceInRange, AreAreas, AreCounts, IsSwitch, IsReadNumber, IsJob, IsState, IsRowInRange, IsFour, IsTwo, ArePartsWithin}
use Rattle.b67_image.specs.Typed.{AreTypedRegs, AreTypedCounts, IsTypedSwitch, IsTypedNumber, IsTypedJob, AreTyped, HaveShortNames, ImagesTellOne}
use Rattle.b67_image.proofs.Loops.{small_fits}
use Rattle.b67_lemmas.proofs.Joins.{all_by}
use Rattle.b67_image.proofs.Forms.{IsWide, wide8, wide16, wide32, wide64, number_again}

-- items with this property are known by the bytes in front
abbrev IsCode : {X : Type 0} → (X → Type 0) → (X → List ℕ) → Type 0
IsCode {X} P spell = (x y : X) (xs ys : List ℕ) → P x → P y → spell x ++ xs ≡ spell y ++ ys → (x ≡ y) × (xs ≡ ys)

-- ---- numbers

number_code : (w : Width) (limit : ℕ) → IsWide w limit → IsCode (λ (n : ℕ). n < limit) (to_be_bytes w)
number_code w limit wide n m xs ys a b e =
    let same : ◌≡◌ {A = ℕ × List ℕ} (n, xs) (m, ys) = same_Some (n, xs) (m, ys) (sym (number_again w limit wide n xs a) ∙ ap (read_number w) e ∙ number_again w limit wide m ys b) in
    (ap (λ (p : ℕ × List ℕ). p.0) same, ap (λ (p : ℕ × List ℕ). p.1) same)

byte : IsCode (λ (n : ℕ). n < 2 ^ 8) one_byte
byte = number_code w8 (2 ^ 8) wide8

two : IsCode (λ (n : ℕ). n < 2 ^ 16) two_bytes
two = number_code w16 (2 ^ 16) wide16

four : IsCode (λ (n : ℕ). n < 2 ^ 32) four_bytes
four = number_code w32 (2 ^ 32) wide32

eight : IsCode (λ (n : ℕ). n < 2 ^ 64) eight_bytes
eight = number_code w64 (2 ^ 64) wide64

-- ---- lists

same_head : {X : Type 0} (x y : X) (xs ys : List X) → x ≡ y → xs ≡ ys → x ∷ xs ≡ y ∷ ys
same_head x y xs ys e f = λ j. e j ∷ f j

many_code : {X : Type 0} (P : X → Type 0) (spell : X → List ℕ) → IsCode P spell → (xs ys : List X) (us vs : List ℕ) → length xs ≡ length ys → AllByRecursion P xs → AllByRecursion P ys
    → flat_map spell xs ++ us ≡ flat_map spell ys ++ vs → (xs ≡ ys) × (us ≡ vs)
many_code P spell code [] [] us vs n a b e = (refl, e)
many_code P spell code [] (y ∷ ys) us vs n a b e = absurd (omega (arith, n))
many_code P spell code (x ∷ xs) [] us vs n a b e = absurd (omega (arith, n))
many_code P spell code (x ∷ xs) (y ∷ ys) us vs n a b e =
    let left : flat_map spell (x ∷ xs) ++ us ≡ spell x ++ (flat_map spell xs ++ us) = ap (λ (t : List ℕ). t ++ us) (flat_map-cons spell x xs) ∙ append_assoc (spell x) (flat_map spell xs) us in
    let right : flat_map spell (y ∷ ys) ++ vs ≡ spell y ++ (flat_map spell ys ++ vs) = ap (λ (t : List ℕ). t ++ vs) (flat_map-cons spell y ys) ∙ append_assoc (spell y) (flat_map spell ys) vs in
    let first = code x y _ _ a.0 b.0 (sym left ∙ e ∙ right) in
    let fewer : length xs ≡ length ys = omega (arith, n) in
    let rest = many_code P spell code xs ys us vs fewer a.1 b.1 first.1 in
    (same_head x y xs ys first.0 rest.0, rest.1)

-- a list whose items can be counted
record Listed {X : Type 0} (P : X → Type 0) (xs : List X) : Type 0 where
  few : length xs < 2 ^ 32
  each : AllByRecursion P xs

listed_code : {X : Type 0} (P : X → Type 0) (spell : X → List ℕ) → IsCode P spell → IsCode (Listed P) (listed_bytes spell)
listed_code P spell code xs ys us vs a b e =
    let n = four (length xs) (length ys) _ _ a.few b.few e in
    many_code P spell code xs ys us vs n.0 a.each b.each n.1

-- each item has a byte, so a list has no more items than its bytes
abbrev HasBytes : {X : Type 0} → (X → List ℕ) → Type 0
HasBytes {X} spell = (x : X) → 0 < length (spell x)

few_items : {X : Type 0} (spell : X → List ℕ) → HasBytes spell → (xs : List X) → length xs ≤ length (flat_map spell xs)
few_items spell some [] = omega arith
few_items spell some (x ∷ xs) =
    let here = some x in
    let rest = few_items spell some xs in
    let sum : length (flat_map spell (x ∷ xs)) ≡ length (spell x) + length (flat_map spell xs) = ap length (flat_map-cons spell x xs) ∙ length-append (spell x) (flat_map spell xs) in
    omega (arith, here, rest, sum)

few_listed : {X : Type 0} (spell : X → List ℕ) → HasBytes spell → (xs : List X) → length xs ≤ length (listed_bytes spell xs)
few_listed spell some xs = let few = few_items spell some xs in let sum : length (listed_bytes spell xs) ≡ suc (suc (suc (suc (length (flat_map spell xs))))) = refl in omega (arith, few, sum)

-- ---- items

word_code : IsCode IsWord tagged_bytes
word_code w v xs ys a b e =
    let tag : w.tag < 8 = a.tag in
    let bits : w.bits < 2 ^ 48 = a.bits in
    let tag' : v.tag < 8 = b.tag in
    let bits' : v.bits < 2 ^ 48 = b.bits in
    let n = eight (number w) (number v) _ _ (omega (arith, tag, bits)) (omega (arith, tag', bits')) e in
    let same : w.tag * 2 ^ 48 + w.bits ≡ v.tag * 2 ^ 48 + v.bits = n.0 in
    let t : w.tag ≡ v.tag = omega (arith, tag, bits, tag', bits', same) in
    let s : w.bits ≡ v.bits = omega (arith, tag, bits, tag', bits', same) in
    ((λ j. record { tag = t j; bits = s j }), n.1)

place_code : IsCode IsPlaceInRange place_bytes
place_code p q xs ys a b e =
    let w = two p.word q.word _ _ a.word b.word e in
    let s = byte p.syllable q.syllable _ _ a.syllable b.syllable w.1 in
    ((λ j. record { word = w.0 j; syllable = s.0 j }), s.1)

regs_code : IsCode AreTypedRegs regs_bytes
regs_code r q xs ys a b e =
    let k1 = four r.s q.s _ _ a.s b.s e in
    let k2 = four r.f q.f _ _ a.f b.f k1.1 in
    let k3 = four r.bosr q.bosr _ _ a.bosr b.bosr k2.1 in
    let k4 = four r.losr q.losr _ _ a.losr b.losr k3.1 in
    let k5 = byte r.slot q.slot _ _ a.slot b.slot k4.1 in
    let k6 = byte r.level q.level _ _ a.level b.level k5.1 in
    let k7 = two r.segment q.segment _ _ a.segment b.segment k6.1 in
    let k8 = place_code r.place q.place _ _ a.place b.place k7.1 in
    let k9 = four r.dict q.dict _ _ a.dict b.dict k8.1 in
    let k10 = two r.entries q.entries _ _ a.entries b.entries k9.1 in
    let k11 = four r.stacks q.stacks _ _ a.stacks b.stacks k10.1 in
    let k12 = two r.stack_size q.stack_size _ _ a.stack_size b.stack_size k11.1 in
    let k13 = byte r.peak q.peak _ _ a.peak b.peak k12.1 in
    ((λ j. record { s = k1.0 j; f = k2.0 j; bosr = k3.0 j; losr = k4.0 j; slot = k5.0 j; level = k6.0 j; segment = k7.0 j; place = k8.0 j; dict = k9.0 j; entries = k10.0 j; stacks = k11.0 j; stack_size = k12.0 j; peak = k13.0 j }), k13.1)

areas_code : IsCode AreAreas areas_bytes
areas_code x y xs ys a b e =
    let size = four x.size y.size _ _ a.size b.size e in
    let low = four x.low y.low _ _ a.low b.low size.1 in
    ((λ j. record { size = size.0 j; low = low.0 j }), low.1)

counts_code : IsCode AreTypedCounts counts_bytes
counts_code c d xs ys a b e =
    let k1 = four c.quantum d.quantum _ _ a.quantum b.quantum e in
    let k2 = eight c.made d.made _ _ a.made b.made k1.1 in
    let k3 = four c.turn d.turn _ _ a.turn b.turn k2.1 in
    let k4 = byte c.last_job d.last_job _ _ a.last_job b.last_job k3.1 in
    let k5 = four c.last_number d.last_number _ _ a.last_number b.last_number k4.1 in
    let k6 = byte c.running d.running _ _ a.running b.running k5.1 in
    let k7 = four c.next_switch d.next_switch _ _ a.next_switch b.next_switch k6.1 in
    ((λ j. record { quantum = k1.0 j; made = k2.0 j; turn = k3.0 j; last_job = k4.0 j; last_number = k5.0 j; running = k6.0 j; next_switch = k7.0 j }), k7.1)

switch_code : IsCode IsTypedSwitch switch_bytes
switch_code w v xs ys a b e =
    let count = eight w.count v.count _ _ a.count b.count e in
    let job = byte w.job v.job _ _ a.job b.job count.1 in
    let task = four w.task v.task _ _ a.task b.task job.1 in
    ((λ j. record { count = count.0 j; job = job.0 j; task = task.0 j }), task.1)

signed_code : IsCode IsTypedNumber signed_bytes
signed_code z v xs ys a b e =
    let n = eight (cast_unsigned w64 z) (cast_unsigned w64 v) _ _ (Fits-of_z {w = w64} {z = z} a).fits (Fits-of_z {w = w64} {z = v} b).fits e in
    (sym (to_z-of_z w64 z a) ∙ ap (cast_signed w64) n.0 ∙ to_z-of_z w64 v b, n.1)

name_code : IsCode (λ (name : List ℕ). length name < 2 ^ 8) name_bytes
name_code x y xs ys a b e =
    let n = byte (length x) (length y) _ _ a b e in
    let front : take (length x) (x ++ xs) ≡ take (length x) (y ++ ys) = ap (take (length x)) n.1 in
    let back : drop (length x) (x ++ xs) ≡ drop (length x) (y ++ ys) = ap (drop (length x)) n.1 in (
      sym (take_at x xs (length x) refl) ∙ front ∙ take_at y ys (length x) (sym n.0),
      sym (drop_at x xs (length x) refl) ∙ back ∙ drop_at y ys (length x) (sym n.0),
    )

-- a job whose numbers can be counted
record CountedJob (j : JobRow) : Type 0 where
  typed : IsTypedJob j
  name : length j.name < 2 ^ 8
  few : length j.numbers < 2 ^ 32

job_code : IsCode CountedJob job_bytes
job_code x y xs ys a b e =
    let p = a.typed in
    let q = b.typed in
    let left : job_bytes x ++ xs ≡ name_bytes x.name ++ ((job_front x ++ job_numbers x) ++ xs) = append_assoc (name_bytes x.name) (job_front x ++ job_numbers x) xs in
    let right : job_bytes y ++ ys ≡ name_bytes y.name ++ ((job_front y ++ job_numbers y) ++ ys) = append_assoc (name_bytes y.name) (job_front y ++ job_numbers y) ys in
    let k1 = name_code x.name y.name _ _ a.name b.name (sym left ∙ e ∙ right) in
    let k2 = four x.dict y.dict _ _ p.dict q.dict k1.1 in
    let k3 = two x.segments y.segments _ _ p.segments q.segments k2.1 in
    let k4 = two x.rows y.rows _ _ p.rows q.rows k3.1 in
    let k5 = eight x.limit y.limit _ _ p.limit q.limit k4.1 in
    let k6 = eight x.made y.made _ _ p.made q.made k5.1 in
    let k7 = four x.next_task y.next_task _ _ p.next_task q.next_task k6.1 in
    let numbers_left : job_numbers x ++ xs ≡ listed_bytes signed_bytes x.numbers ++ (four_bytes x.next_number ++ xs) = append_assoc (listed_bytes signed_bytes x.numbers) (four_bytes x.next_number) xs in
    let numbers_right : job_numbers y ++ ys ≡ listed_bytes signed_bytes y.numbers ++ (four_bytes y.next_number ++ ys) = append_assoc (listed_bytes signed_bytes y.numbers) (four_bytes y.next_number) ys in
    let k8 = listed_code IsTypedNumber signed_bytes signed_code x.numbers y.numbers _ _ (record { few = a.few; each = p.numbers }) (record { few = b.few; each = q.numbers }) (sym numbers_left ∙ k7.1 ∙ numbers_right) in
    let k9 = four x.next_number y.next_number _ _ p.next_number q.next_number k8.1 in
    ((λ j. record { name = k1.0 j; dict = k2.0 j; segments = k3.0 j; rows = k4.0 j; limit = k5.0 j; made = k6.0 j; next_task = k7.0 j; numbers = k8.0 j; next_number = k9.0 j }), k9.1)

state_code : IsCode IsState state_bytes
state_code Ready Ready xs ys a b e =
    let k1 = byte 0 0 _ _ (omega arith) (omega arith) e in
    let k2 = four 0 0 _ _ (omega arith) (omega arith) k1.1 in
    let k3 = two 0 0 _ _ (omega arith) (omega arith) k2.1 in
    (refl, k3.1)
state_code (Awaits n) (Awaits m) xs ys a b e =
    let k1 = byte 1 1 _ _ (omega arith) (omega arith) e in
    let k2 = four n m _ _ a b k1.1 in
    let k3 = two 0 0 _ _ (omega arith) (omega arith) k2.1 in
    (ap Awaits k2.0, k3.1)
state_code (WaitsAt mark offset) (WaitsAt mark' offset') xs ys a b e =
    let k1 = byte 2 2 _ _ (omega arith) (omega arith) e in
    let k2 = four mark mark' _ _ a.0 b.0 k1.1 in
    let k3 = two offset offset' _ _ a.1 b.1 k2.1 in
    ((λ j. WaitsAt (k2.0 j) (k3.0 j)), k3.1)
state_code Ready (Awaits m) xs ys a b e = let k = byte 0 1 _ _ (omega arith) (omega arith) e in let z : 0 ≡ 1 = k.0 in absurd (omega (arith, z))
state_code Ready (WaitsAt mark' offset') xs ys a b e = let k = byte 0 2 _ _ (omega arith) (omega arith) e in let z : 0 ≡ 2 = k.0 in absurd (omega (arith, z))
state_code (Awaits n) Ready xs ys a b e = let k = byte 1 0 _ _ (omega arith) (omega arith) e in let z : 1 ≡ 0 = k.0 in absurd (omega (arith, z))
state_code (Awaits n) (WaitsAt mark' offset') xs ys a b e = let k = byte 1 2 _ _ (omega arith) (omega arith) e in let z : 1 ≡ 2 = k.0 in absurd (omega (arith, z))
state_code (WaitsAt mark offset) Ready xs ys a b e = let k = byte 2 0 _ _ (omega arith) (omega arith) e in let z : 2 ≡ 0 = k.0 in absurd (omega (arith, z))
state_code (WaitsAt mark offset) (Awaits m) xs ys a b e = let k = byte 2 1 _ _ (omega arith) (omega arith) e in let z : 2 ≡ 1 = k.0 in absurd (omega (arith, z))

row_code : IsCode IsRowInRange task_row_bytes
row_code r q xs ys a b e =
    let k1 = byte r.job q.job _ _ a.job b.job e in
    let k2 = four r.number q.number _ _ a.number b.number k1.1 in
    let k3 = byte r.slot q.slot _ _ a.slot b.slot k2.1 in
    let k4 = byte r.parent q.parent _ _ a.parent b.parent k3.1 in
    let k5 = two r.critical q.critical _ _ a.critical b.critical k4.1 in
    let left : (state_bytes r.state ++ (two_bytes r.segment ++ place_bytes r.place)) ++ xs ≡ state_bytes r.state ++ ((two_bytes r.segment ++ place_bytes r.place) ++ xs) = append_assoc (state_bytes r.state) (two_bytes r.segment ++ place_bytes r.place) xs in
    let right : (state_bytes q.state ++ (two_bytes q.segment ++ place_bytes q.place)) ++ ys ≡ state_bytes q.state ++ ((two_bytes q.segment ++ place_bytes q.place) ++ ys) = append_assoc (state_bytes q.state) (two_bytes q.segment ++ place_bytes q.place) ys in
    let k6 = state_code r.state q.state _ _ a.state b.state (sym left ∙ k5.1 ∙ right) in
    let k7 = two r.segment q.segment _ _ a.segment b.segment k6.1 in
    let k8 = place_code r.place q.place _ _ a.place b.place k7.1 in
    ((λ j. record { job = k1.0 j; number = k2.0 j; slot = k3.0 j; parent = k4.0 j; critical = k5.0 j; state = k6.0 j; segment = k7.0 j; place = k8.0 j }), k8.1)

-- ---- how many items there are

word_has : HasBytes tagged_bytes
word_has w = omega arith

four_has : HasBytes four_bytes
four_has n = omega arith

switch_has : HasBytes switch_bytes
switch_has w = omega arith

job_has : HasBytes job_bytes
job_has j = omega arith

row_has : HasBytes task_row_bytes
row_has r = omega arith

signed_has : HasBytes signed_bytes
signed_has z = omega arith

few_numbers : (j : JobRow) → length j.numbers ≤ length (job_bytes j)
few_numbers j =
    let few = few_listed signed_bytes signed_has j.numbers in
    let all : length (job_bytes j) ≡ length (name_bytes j.name) + length (job_front j ++ job_numbers j) = length-append (name_bytes j.name) (job_front j ++ job_numbers j) in
    let back : length (job_front j ++ job_numbers j) ≡ length (job_front j) + length (job_numbers j) = length-append (job_front j) (job_numbers j) in
    let own : length (job_numbers j) ≡ length (listed_bytes signed_bytes j.numbers) + length (four_bytes j.next_number) = length-append (listed_bytes signed_bytes j.numbers) (four_bytes j.next_number) in
    omega (arith, few, all, back, own)

counted_jobs : (js : List JobRow) → AllByRecursion IsTypedJob js → HaveShortNames js → length (flat_map job_bytes js) < 2 ^ 32 → AllByRecursion CountedJob js
counted_jobs [] a s lt = tt
counted_jobs (j ∷ js) a s lt =
    let sum : length (flat_map job_bytes (j ∷ js)) ≡ length (job_bytes j) + length (flat_map job_bytes js) = ap length (flat_map-cons job_bytes j js) ∙ length-append (job_bytes j) (flat_map job_bytes js) in
    let own = few_numbers j in
    (record { typed = a.0; name = s.0; few = omega (arith, own, sum, lt) }, counted_jobs js a.1 s.1 (omega (arith, sum, lt)))

-- the lists of an image of fewer than 2^32 bytes
record AreListed (p : ImageParts) : Type 0 where
  core : Listed IsWord p.core
  links : Listed IsFour p.links
  switches : Listed IsTypedSwitch p.switches
  jobs : Listed CountedJob p.jobs
  rows : Listed IsRowInRange p.rows

lists_of : (p : ImageParts) → AreTyped p → HaveShortNames p.jobs → length (image_bytes p) < 2 ^ 32 → AreListed p
unfolding image_bytes
lists_of p a s lt =
    let links_on = listed_bytes four_bytes p.links ++ tables_bytes p in
    let switches_on = listed_bytes switch_bytes p.switches ++ (listed_bytes job_bytes p.jobs ++ listed_bytes task_row_bytes p.rows) in
    let jobs_on = listed_bytes job_bytes p.jobs ++ listed_bytes task_row_bytes p.rows in
    let regs_on = regs_bytes p.regs ++ (flat_map four_bytes p.display ++ flat_map two_bytes p.critical) in
    let n0 : length (image_bytes p) ≡ suc (suc (suc (suc (suc (suc (suc (suc (length (cpu_bytes p ++ (areas_bytes p.areas ++ links_on)))))))))) = refl in
    let n1 : length (cpu_bytes p ++ (areas_bytes p.areas ++ links_on)) ≡ length (cpu_bytes p) + length (areas_bytes p.areas ++ links_on) = length-append (cpu_bytes p) (areas_bytes p.areas ++ links_on) in
    let n2 : length (cpu_bytes p) ≡ length (listed_bytes tagged_bytes p.core) + length regs_on = length-append (listed_bytes tagged_bytes p.core) regs_on in
    let n3 : length (areas_bytes p.areas ++ links_on) ≡ suc (suc (suc (suc (suc (suc (suc (suc (length links_on)))))))) = refl in
    let n4 : length links_on ≡ length (listed_bytes four_bytes p.links) + length (tables_bytes p) = length-append (listed_bytes four_bytes p.links) (tables_bytes p) in
    let n5 : length (tables_bytes p) ≡ length (counts_bytes p.counts) + length switches_on = length-append (counts_bytes p.counts) switches_on in
    let n6 : length switches_on ≡ length (listed_bytes switch_bytes p.switches) + length jobs_on = length-append (listed_bytes switch_bytes p.switches) jobs_on in
    let n7 : length jobs_on ≡ length (listed_bytes job_bytes p.jobs) + length (listed_bytes task_row_bytes p.rows) = length-append (listed_bytes job_bytes p.jobs) (listed_bytes task_row_bytes p.rows) in
    let n8 : length (listed_bytes job_bytes p.jobs) ≡ suc (suc (suc (suc (length (flat_map job_bytes p.jobs))))) = refl in
    let core = few_listed tagged_bytes word_has p.core in
    let links = few_listed four_bytes four_has p.links in
    let switches = few_listed switch_bytes switch_has p.switches in
    let jobs = few_listed job_bytes job_has p.jobs in
    let rows = few_listed task_row_bytes row_has p.rows in
    record {
      core = record { few = omega (arith, core, n0, n1, n2, lt); each = a.core };
      links = record { few = omega (arith, links, n0, n1, n3, n4, lt); each = a.links };
      switches = record { few = omega (arith, switches, n0, n1, n3, n4, n5, n6, lt); each = a.switches };
      jobs = record { few = omega (arith, jobs, n0, n1, n3, n4, n5, n6, n7, lt); each = counted_jobs p.jobs a.jobs s (omega (arith, n0, n1, n3, n4, n5, n6, n7, n8, lt)) };
      rows = record { few = omega (arith, rows, n0, n1, n3, n4, n5, n6, n7, lt); each = a.rows };
    }

-- ---- all parts

pub images_tell_one : ImagesTellOne
unfolding image_bytes
images_tell_one p q a b s z lt e =
    let ls = lists_of p a s lt in
    let ms = lists_of q b z (subst (λ (t : List ℕ). length t < 2 ^ 32) e lt) in
    let cpu_on : (p : ImageParts) → List ℕ = λ p. areas_bytes p.areas ++ (listed_bytes four_bytes p.links ++ tables_bytes p) in
    let regs_on : (p : ImageParts) → List ℕ = λ p. regs_bytes p.regs ++ (flat_map four_bytes p.display ++ flat_map two_bytes p.critical) in
    let marks_on : (p : ImageParts) → List ℕ = λ p. flat_map four_bytes p.display ++ flat_map two_bytes p.critical in
    let head : image_header < 2 ^ 64 = omega arith in
    let k0 = eight image_header image_header _ _ head head e in
    let at_core : (p : ImageParts) → cpu_bytes p ++ cpu_on p ≡ listed_bytes tagged_bytes p.core ++ (regs_on p ++ cpu_on p) = λ p. append_assoc (listed_bytes tagged_bytes p.core) (regs_on p) (cpu_on p) in
    let k1 = listed_code IsWord tagged_bytes word_code p.core q.core _ _ ls.core ms.core (sym (at_core p) ∙ k0.1 ∙ at_core q) in
    let at_regs : (p : ImageParts) → regs_on p ++ cpu_on p ≡ regs_bytes p.regs ++ (marks_on p ++ cpu_on p) = λ p. append_assoc (regs_bytes p.regs) (marks_on p) (cpu_on p) in
    let k2 = regs_code p.regs q.regs _ _ a.regs b.regs (sym (at_regs p) ∙ k1.1 ∙ at_regs q) in
    let at_marks : (p : ImageParts) → marks_on p ++ cpu_on p ≡ flat_map four_bytes p.display ++ (flat_map two_bytes p.critical ++ cpu_on p) = λ p. append_assoc (flat_map four_bytes p.display) (flat_map two_bytes p.critical) (cpu_on p) in
    let k3 = many_code IsFour four_bytes four p.display q.display _ _ (a.display_many ∙ sym b.display_many) a.display b.display (sym (at_marks p) ∙ k2.1 ∙ at_marks q) in
    let k4 = many_code IsTwo two_bytes two p.critical q.critical _ _ (a.critical_many ∙ sym b.critical_many) a.critical b.critical k3.1 in
    let k5 = areas_code p.areas q.areas _ _ a.areas b.areas k4.1 in
    let k6 = listed_code IsFour four_bytes four p.links q.links _ _ ls.links ms.links k5.1 in
    let k7 = counts_code p.counts q.counts _ _ a.counts b.counts k6.1 in
    let k8 = listed_code IsTypedSwitch switch_bytes switch_code p.switches q.switches _ _ ls.switches ms.switches k7.1 in
    let k9 = listed_code CountedJob job_bytes job_code p.jobs q.jobs _ _ ls.jobs ms.jobs k8.1 in
    let none : (xs : List ℕ) → xs ++ [] ≡ xs = λ xs. append-nil xs in
    let k10 = listed_code IsRowInRange task_row_bytes row_code p.rows q.rows _ _ ls.rows ms.rows (none (listed_bytes task_row_bytes p.rows) ∙ k9.1 ∙ sym (none (listed_bytes task_row_bytes q.rows))) in
    (λ j. record { core = k1.0 j; regs = k2.0 j; display = k3.0 j; critical = k4.0 j; areas = k5.0 j; links = k6.0 j; counts = k7.0 j; switches = k8.0 j; jobs = k9.0 j; rows = k10.0 j })

-- ---- what is within its ranges is so

within_counts : (c : ToldCounts) → AreCounts c → AreTypedCounts c
within_counts c h = record { quantum = omega (arith, h.quantum_high); made = h.made; turn = h.turn; last_job = h.last_job; last_number = h.last_number; running = h.running; next_switch = h.next_switch }

within_switch : (w : Switch) → IsSwitch w → IsTypedSwitch w
within_switch w h = record { count = omega (arith, h.count); job = omega (arith, h.job_high); task = omega (arith, h.task_high) }

within_number : (z : ℤ) → IsReadNumber z → IsTypedNumber z
within_number z h = small_fits z h.small

within_job : (j : JobRow) → IsJob j → IsTypedJob j
within_job j h = let few = h.few in record {
  dict = h.dict;
  segments = omega (arith, few);
  rows = omega (arith, few);
  limit = omega (arith, h.limit_high);
  made = h.made;
  next_task = h.next_task;
  numbers = all_by IsReadNumber IsTypedNumber within_number j.numbers h.numbers.each;
  next_number = h.next_number;
}

name_short : (j : JobRow) → IsJob j → length j.name < 2 ^ 8
name_short j h = of_name j.name h.name
  where
    of_name : (bs : List ℕ) → is_name bs ≡ true → length bs < 2 ^ 8
    of_name [] t = omega arith
    of_name (b ∷ more) t =
        let outer = and_parts (is_ascii_uppercase b && list_all (λ c. is_ascii_uppercase c || is_ascii_digit c) more) (nat_lt (length more) 16) t in
        omega (arith, ltb-true (length more) 16 outer.1)

pub within_typed : (p : ImageParts) → ArePartsWithin p → AreTyped p × HaveShortNames p.jobs
within_typed p h = (
  record {
    core = h.core.each;
    regs = h.regs.typed;
    display = h.display;
    display_many = h.display_many;
    critical = h.critical;
    critical_many = h.critical_many;
    areas = h.areas;
    links = h.links.each;
    counts = within_counts p.counts h.counts;
    switches = all_by IsSwitch IsTypedSwitch within_switch p.switches h.switches.each;
    jobs = all_by IsJob IsTypedJob within_job p.jobs h.jobs.each;
    rows = h.rows.each;
  },
  all_by IsJob (λ (j : JobRow). length j.name < 2 ^ 8) name_short p.jobs h.jobs.each,
)

-- ---- the links of a table, all looked at

pub links_typed : (t : Table) (n : ℕ) → n ≡ 0 → AllByRecursion IsFour (map (table_link t) (row (n + 1) (length t.links - 1 - n))) → AllByRecursion IsFour (links_in t)
unfolding links_in
links_typed t n e h =
    let all : length t.links - 1 - n ≡ length t.links - 1 = omega (arith, e) in
    let from : n + 1 ≡ 1 = omega (arith, e) in
    subst (λ (k : ℕ). AllByRecursion IsFour (map (table_link t) (row k (length t.links - 1)))) from (subst (λ (k : ℕ). AllByRecursion IsFour (map (table_link t) (row (n + 1) k))) all h)
