-- What is read is spelled so, and within its range.
use Rattle.std.proofs.Common.{◌≡◌, ℕ, zero, suc, ◌+◌, ◌*◌, ◌/◌, ◌%◌, ◌^◌, ◌<◌, ◌≤◌, ℤ, Bool, true, false, cond, ◌&&◌, List, [], ◌∷◌, ◌++◌, length, get_or, take, drop, Option, Some, None, refl, ap, subst, ◌∙◌, append_assoc, arith, ltb, ⊎_elim, ◌==◌}
use Rattle.std.specs.Prelude.{nat_abs, nat_le}
use Rattle.std.specs.Int.{Width, w8, w16, w32, w64, byte_len, from_be_bytes, to_be_bytes, cast_signed, cast_unsigned}
use Rattle.std.specs.List.{flat_map, AllByRecursion}
use Rattle.std.proofs.lemmas.Bool.{cases_lt, ltb-false, ltb-true, leb-true, and_parts, eqb-true}
use Rattle.std.proofs.lemmas.Option.{same_Some}
use Rattle.std.proofs.lemmas.Int.{of_z-to_z}
use Rattle.std.proofs.lemmas.List.{take-append-drop, length-take, get_or-drop, get_or-take, get_or_past}
use Rattle.std.proofs.lemmas.List.Concat.{flat_map-cons}
use Rattle.std.proofs.lemmas.Nat.{be_bytes_2, be_bytes_4, be_bytes_8}
use Rattle.b67_word.specs.Common.{Tagged, IsWord}
use Rattle.b67_word.specs.declared.couples.Place.{Place}
use Rattle.b67_core.specs.Numbers.{word_of}
use Rattle.b67_ctl.specs.declared.registers.Regs.{Regs}
use Rattle.b67_area.specs.declared.directory.Areas.{Areas}
use Rattle.b67_model_text.specs.Cards.{is_name}
use Rattle.b67_model_text.specs.declared.deck.Switch.{Switch}
use Rattle.b67_task.specs.declared.tables.TaskState.{TaskState}
use Rattle.b67_task.specs.declared.tables.TaskState.TheVariants.{Ready, Awaits, WaitsAt}
use Rattle.b67_task.specs.declared.tables.TaskRow.{TaskRow}
use Rattle.b67_task.specs.declared.tables.JobRow.{JobRow}
use Rattle.b67_image.specs.Parts.{ToldCounts}
use Rattle.b67_image.specs.Spelling.{one_byte, two_bytes, four_bytes, eight_bytes, listed_bytes, signed_bytes, tagged_bytes, place_bytes, regs_bytes, areas_bytes, counts_bytes, switch_bytes, name_bytes, job_bytes, state_bytes, task_row_bytes}
use Rattle.b67_image.specs.Giving.{◌>>=◌, ItemReader, read_number, read_many, read_place}
use Rattle.b67_image.specs.Reading.{if_passes, is_within, number_within, read_count, read_counted, read_word, read_regs, read_areas, read_counts, read_switch, read_bytes, read_name, read_signed, read_job, state_by_kind, read_state, read_row}
use Rattle.b67_image.specs.Within.{AreItems, IsPlaceInRange, AreRegs, AreAreas, AreCounts, IsSwitch, IsReadNumber, IsJob, IsState, IsRowInRange, IsFour, IsTwo}
use Rattle.b67_image.proofs.Forms.{front_parts, row_parts}
use Rattle.b67_model.specs.declared.limits.TheConstants.{LEAST_STACK, MOST_STACK, MOST_PARTS, GREATEST, MOST_QUANTUM, MOST_LIMIT, MOST_NUMBER, MOST_MADE}

abbrev pub IsBytes : List ℕ → Type 0
IsBytes bytes = (i : ℕ) → get_or bytes i 0 < 256

bytes-drop : (n : ℕ) (bytes : List ℕ) → IsBytes bytes → IsBytes (drop n bytes)
bytes-drop n bytes h i = rw get_or-drop (h (n + i))

bytes-take : (n : ℕ) (bytes : List ℕ) → IsBytes bytes → IsBytes (take n bytes)
bytes-take n bytes h i = ⊎_elim
    (λ lt. rw (get_or-take n bytes i 0 lt) (h i))
    (λ le. rw (get_or_past (take n bytes) i 0 (omega (arith, length-take n bytes, le))) (omega arith))
    (cases_lt i n)

-- a step that gave something
pub bind_some : {A B : Type 0} (r : Option A) (f : A → Option B) (y : B) → (r >>= f) ≡ Some y → (x : A) × (r ≡ Some x) × (f x ≡ Some y)
bind_some (Some x) f y e = (x, refl, e)
bind_some None f y e = absurd cc

-- a test that passed
pub passed : {A : Type 0} (b : Bool) (x y : A) → if_passes b x ≡ Some y → (b ≡ true) × (x ≡ y)
passed true x y e = (refl, same_Some x y e)
passed false x y e = absurd cc

-- what a reader took from the front of bytes: an item within its range, spelled so; and bytes are left
pub record IsFront {X : Type 0} (spell : X → List ℕ) (P : X → Type 0) (bytes : List ℕ) (found : X × List ℕ) : Type 0 where
  pub spelled : spell found.0 ++ found.1 ≡ bytes
  pub fits : P found.0
  pub raw : IsBytes found.1

pub record Backs {X : Type 0} (read : ItemReader X) (spell : X → List ℕ) (P : X → Type 0) : Type 0 where
  pub back : (bytes : List ℕ) (found : X × List ℕ) → IsBytes bytes → read bytes ≡ Some found → IsFront spell P bytes found

pub on : {X : Type 0} {spell : X → List ℕ} {P : X → Type 0} {bytes : List ℕ} {found : X × List ℕ} {after : List ℕ} → IsFront spell P bytes found → after ≡ found.1 → spell found.0 ++ after ≡ bytes
on {spell = spell} {found = found} f e = ap (λ (t : List ℕ). spell found.0 ++ t) e ∙ f.spelled

-- ---- numbers

record IsWhole (w : Width) (limit : ℕ) : Type 0 where
  pub back : (bytes : List ℕ) → length bytes ≡ byte_len w → IsBytes bytes → to_be_bytes w (from_be_bytes w bytes) ≡ bytes
  pub below : (bytes : List ℕ) → IsBytes bytes → from_be_bytes w bytes < limit

module _ (w : Width) (limit : ℕ) (whole : IsWhole w limit) (bytes : List ℕ) (found : ℕ × List ℕ) (raw : IsBytes bytes) where
  number_by : (b : Bool) → ltb (length bytes) (byte_len w) ≡ b → cond b None (Some (from_be_bytes w (take (byte_len w) bytes), drop (byte_len w) bytes)) ≡ Some found → IsFront (to_be_bytes w) (λ n. n < limit) bytes found
  number_by true t e = absurd cc
  number_by false t e =
      let long : byte_len w ≤ length bytes = ltb-false _ _ t in
      let len : length (take (byte_len w) bytes) ≡ byte_len w = omega (arith, length-take (byte_len w) bytes) in
      let some = bytes-take (byte_len w) bytes raw in
      subst (λ (found : ℕ × List ℕ). IsFront (to_be_bytes w) (λ n. n < limit) bytes found) (same_Some (from_be_bytes w (take (byte_len w) bytes), drop (byte_len w) bytes) found e) (record {
        spelled = ap (λ (t : List ℕ). t ++ drop (byte_len w) bytes) (whole.back (take (byte_len w) bytes) len some) ∙ take-append-drop (byte_len w) bytes;
        fits = whole.below (take (byte_len w) bytes) some;
        raw = bytes-drop (byte_len w) bytes raw;
      })

number_front : (w : Width) (limit : ℕ) → IsWhole w limit → Backs (read_number w) (to_be_bytes w) (λ n. n < limit)
number_front w limit whole = record { back = λ bytes found raw e. number_by w limit whole bytes found raw (ltb (length bytes) (byte_len w)) refl e }

be_bytes_1 : (bytes : List ℕ) → length bytes ≡ 1 → IsBytes bytes → to_be_bytes w8 (from_be_bytes w8 bytes) ≡ bytes
be_bytes_1 [] len raw = absurd (omega (arith, len))
be_bytes_1 (b ∷ []) len raw = let lt = raw 0 in ap (λ (n : ℕ). n ∷ []) (omega (arith, lt))
be_bytes_1 (b ∷ c ∷ more) len raw = absurd (omega (arith, len))

abbrev IsOne : ℕ → Type 0
IsOne n = n < 2 ^ 8

abbrev IsEight : ℕ → Type 0
IsEight n = n < 2 ^ 64

pub one_back : Backs (read_number w8) one_byte IsOne
one_back = number_front w8 (2 ^ 8) (record { back = λ bytes len raw. be_bytes_1 bytes len raw; below = λ bytes raw. omega (arith, raw 0) })

pub two_back : Backs (read_number w16) two_bytes IsTwo
two_back = number_front w16 (2 ^ 16) (record { back = λ bytes len raw. be_bytes_2 bytes _ len raw refl; below = λ bytes raw. omega (arith, raw 0, raw 1) })

pub four_back : Backs (read_number w32) four_bytes IsFour
four_back = number_front w32 (2 ^ 32) (record { back = λ bytes len raw. be_bytes_4 bytes _ len raw refl; below = λ bytes raw. omega (arith, raw 0, raw 1, raw 2, raw 3) })

pub eight_back : Backs (read_number w64) eight_bytes IsEight
eight_back = number_front w64 (2 ^ 64) (record { back = λ bytes len raw. be_bytes_8 bytes _ len raw refl; below = λ bytes raw. omega (arith, raw 0, raw 1, raw 2, raw 3, raw 4, raw 5, raw 6, raw 7) })

-- the same number within bounds
pub record IsBetween (P : ℕ → Type 0) (low high n : ℕ) : Type 0 where
  pub fits : P n
  pub least : low ≤ n
  pub most : n ≤ high

bounded : {spell : ℕ → List ℕ} {P : ℕ → Type 0} {bytes : List ℕ} (low high : ℕ) (n m : ℕ × List ℕ) → IsFront spell P bytes n → number_within low high n ≡ Some m → IsFront spell (IsBetween P low high) bytes m
bounded {spell = spell} {P = P} {bytes = bytes} low high n m f e =
    let p = passed (is_within low high n.0) n m e in
    let b = and_parts (nat_le low n.0) (nat_le n.0 high) p.0 in
    subst (λ (x : ℕ × List ℕ). IsFront spell (IsBetween P low high) bytes x) p.1 (record { spelled = f.spelled; fits = record { fits = f.fits; least = leb-true low n.0 b.0; most = leb-true n.0 high b.1 }; raw = f.raw })

-- ---- lists

pub record AreMany {X : Type 0} (P : X → Type 0) (n : ℕ) (xs : List X) : Type 0 where
  pub many : length xs ≡ n
  pub each : AllByRecursion P xs

pub many_front : {X : Type 0} (read : ItemReader X) (spell : X → List ℕ) (P : X → Type 0) → Backs read spell P → (n : ℕ) (bytes : List ℕ) (found : List X × List ℕ) → IsBytes bytes → read_many read n bytes ≡ Some found
    → IsFront (flat_map spell) (AreMany P n) bytes found
unfolding read_many
many_front {X} read spell P back zero bytes found raw e = subst (λ (t : List X × List ℕ). IsFront (flat_map spell) (AreMany P 0) bytes t) (same_Some ([], bytes) found e) (record { spelled = refl; fits = record { many = refl; each = tt }; raw = raw })
many_front {X} read spell P back (suc n) bytes found raw e =
    let (first, e1, h1) = bind_some (read bytes) (λ first. read_many read n first.1 >>= λ others. Some (first.0 ∷ others.0, others.1)) found e in
    let (others, e2, h2) = bind_some (read_many read n first.1) (λ others. Some (first.0 ∷ others.0, others.1)) found h1 in
    let a = back.back bytes first raw e1 in
    let b = many_front read spell P back n first.1 others a.raw e2 in
    let parts : flat_map spell (first.0 ∷ others.0) ++ others.1 ≡ bytes =
    ap (λ (t : List ℕ). t ++ others.1) (flat_map-cons spell first.0 others.0) ∙ append_assoc (spell first.0) (flat_map spell others.0) others.1 ∙ on a b.spelled in
    subst (λ (t : List X × List ℕ). IsFront (flat_map spell) (AreMany P (suc n)) bytes t) (same_Some (first.0 ∷ others.0, others.1) found h2)
    (record { spelled = parts; fits = record { many = ap suc b.fits.many; each = (a.fits, b.fits.each) }; raw = b.raw })

counted_front : {X : Type 0} (low high : ℕ) (read : ItemReader X) (spell : X → List ℕ) (P : X → Type 0) → Backs read spell P → (bytes : List ℕ) (found : List X × List ℕ) → IsBytes bytes → read_counted low high read bytes ≡ Some found
    → IsFront (listed_bytes spell) (AreItems low high P) bytes found
unfolding read_counted read_count
counted_front low high read spell P back bytes found raw e =
    let (n, e1, h1) = bind_some (read_count low high bytes) (λ n. read_many read n.0 n.1) found e in
    let (k, e2, h2) = bind_some (read_number w32 bytes) (λ n. number_within low high n) n e1 in
    let b = bounded low high k n (four_back.back bytes k raw e2) h2 in
    let c = many_front read spell P back n.0 n.1 found b.raw h1 in
    let len = c.fits.many in
    record {
      spelled = append_assoc (four_bytes (length found.0)) (flat_map spell found.0) found.1 ∙ ap (λ (k : ℕ). four_bytes k ++ (flat_map spell found.0 ++ found.1)) len ∙ on b c.spelled;
      fits = record { some = let l = b.fits.least in omega (arith, len, l); few = let h = b.fits.most in omega (arith, len, h); each = c.fits.each };
      raw = c.raw;
    }

pub counted_back : {X : Type 0} (low high : ℕ) (read : ItemReader X) (spell : X → List ℕ) (P : X → Type 0) → Backs read spell P → Backs (read_counted low high read) (listed_bytes spell) (AreItems low high P)
counted_back low high read spell P back = record { back = λ bytes found raw e. counted_front low high read spell P back bytes found raw e }

-- ---- items

word_front : (bytes : List ℕ) (found : Tagged × List ℕ) → IsBytes bytes → read_word bytes ≡ Some found → IsFront tagged_bytes IsWord bytes found
unfolding read_word
word_front bytes found raw e =
    let (n, e1, h1) = bind_some (read_number w64 bytes) (λ n. if_passes (ltb n.0 (2 ^ 51)) (word_of n.0, n.1)) found e in
    let a = eight_back.back bytes n raw e1 in
    let p = passed (ltb n.0 (2 ^ 51)) (word_of n.0, n.1) found h1 in
    let lt : n.0 < 2 ^ 51 = ltb-true n.0 (2 ^ 51) p.0 in
    let same : n.0 / 2 ^ 48 * 2 ^ 48 + n.0 % 2 ^ 48 ≡ n.0 = omega arith in
    subst (λ (t : Tagged × List ℕ). IsFront tagged_bytes IsWord bytes t) p.1 (record { spelled = ap (λ (k : ℕ). eight_bytes k ++ n.1) same ∙ a.spelled; fits = record { tag = omega arith; bits = omega arith }; raw = a.raw })

pub word_back : Backs read_word tagged_bytes IsWord
word_back = record { back = word_front }

place_front : (bytes : List ℕ) (found : Place × List ℕ) → IsBytes bytes → read_place bytes ≡ Some found → IsFront place_bytes IsPlaceInRange bytes found
unfolding read_place
place_front bytes found raw e =
    let (word, e1, h1) = bind_some (read_number w16 bytes) _ found e in
    let a = two_back.back bytes word raw e1 in
    let (syllable, e2, h2) = bind_some (read_number w8 word.1) _ found h1 in
    let b = one_back.back word.1 syllable a.raw e2 in
    let parts : two_bytes word.0 ++ (one_byte syllable.0 ++ syllable.1) ≡ bytes = on a b.spelled in
    subst (λ (t : Place × List ℕ). IsFront place_bytes IsPlaceInRange bytes t) (same_Some (record { word = word.0; syllable = syllable.0 }, syllable.1) found h2) (record { spelled = parts; fits = record { word = a.fits; syllable = b.fits }; raw = b.raw })

pub place_back : Backs read_place place_bytes IsPlaceInRange
place_back = record { back = place_front }

-- a step that took something, and what is read behind it
pub take_then : {X B C : Type 0} {read : ItemReader X} {spell : X → List ℕ} {P : X → Type 0} (back : Backs read spell P) (bytes : List ℕ) (f : X × List ℕ → Option B) (y : B) → IsBytes bytes → (read bytes >>= f) ≡ Some y
    → ((x : X × List ℕ) → IsFront spell P bytes x → f x ≡ Some y → C) → C
take_then {read = read} back bytes f y raw e go = let (x, is, more) = bind_some (read bytes) f y e in go x (back.back bytes x raw is) more

-- a number within bounds
within_then : {B C : Type 0} {spell : ℕ → List ℕ} {P : ℕ → Type 0} {bytes : List ℕ} (low high : ℕ) (n : ℕ × List ℕ) → IsFront spell P bytes n → (f : ℕ × List ℕ → Option B) (y : B) → (number_within low high n >>= f) ≡ Some y
    → ((m : ℕ × List ℕ) → IsFront spell (IsBetween P low high) bytes m → f m ≡ Some y → C) → C
within_then low high n front f y e go = let (m, is, more) = bind_some (number_within low high n) f y e in go m (bounded low high n m front is) more

-- a number after a test
pass_then : {B C : Type 0} {spell : ℕ → List ℕ} {P : ℕ → Type 0} {bytes : List ℕ} (Q : ℕ → Type 0) (b : Bool) (n : ℕ × List ℕ) → IsFront spell P bytes n → (b ≡ true → Q n.0) → (f : ℕ × List ℕ → Option B) (y : B) → (if_passes b n >>= f) ≡ Some y
    → ((m : ℕ × List ℕ) → IsFront spell Q bytes m → f m ≡ Some y → C) → C
pass_then {spell = spell} {bytes = bytes} Q b n front q f y e go =
    let (m, is, more) = bind_some (if_passes b n) f y e in
    let p = passed b n m is in
    go m (subst (λ (x : ℕ × List ℕ). IsFront spell Q bytes x) p.1 (record { spelled = front.spelled; fits = q p.0; raw = front.raw })) more

below_16 : (n : ℕ) → n ≤ MOST_STACK → n < 2 ^ 16
below_16 n most = omega (arith, most)

regs_front : (bytes : List ℕ) (found : Regs × List ℕ) → IsBytes bytes → read_regs bytes ≡ Some found → IsFront regs_bytes AreRegs bytes found
unfolding read_regs
regs_front bytes found raw e =
    take_then four_back bytes _ found raw e (λ s f0 h0.
    take_then four_back s.1 _ found f0.raw h0 (λ f f1 h1.
    take_then four_back f.1 _ found f1.raw h1 (λ bosr f2 h2.
    take_then four_back bosr.1 _ found f2.raw h2 (λ losr f3 h3.
    take_then one_back losr.1 _ found f3.raw h3 (λ slot f4 h4.
    take_then one_back slot.1 _ found f4.raw h4 (λ level f5 h5.
    take_then two_back level.1 _ found f5.raw h5 (λ segment f6 h6.
    take_then place_back segment.1 _ found f6.raw h6 (λ place f7 h7.
    take_then four_back place.1 _ found f7.raw h7 (λ dict f8 h8.
    take_then two_back dict.1 _ found f8.raw h8 (λ entries f9 h9.
    take_then four_back entries.1 _ found f9.raw h9 (λ stacks f10 h10.
    take_then two_back stacks.1 _ found f10.raw h10 (λ size f11 h11.
    within_then LEAST_STACK MOST_STACK size f11 _ found h11 (λ stack_size f12 h12.
    take_then one_back stack_size.1 _ found f12.raw h12 (λ peak f13 h13.
    subst (λ (t : Regs × List ℕ). IsFront regs_bytes AreRegs bytes t) (same_Some (record { s = s.0; f = f.0; bosr = bosr.0; losr = losr.0; slot = slot.0; level = level.0; segment = segment.0; place = place.0; dict = dict.0; entries = entries.0; stacks = stacks.0; stack_size = stack_size.0; peak = peak.0 }, peak.1) found h13) (record { spelled = on f0 (on f1 (on f2 (on f3 (on f4 (on f5 (on f6 (on f7 (on f8 (on f9 (on f10 (on f12 f13.spelled))))))))))); fits = record { typed = record { s = f0.fits; f = f1.fits; bosr = f2.fits; losr = f3.fits; slot = f4.fits; level = f5.fits; segment = f6.fits; place = f7.fits; dict = f8.fits; entries = f9.fits; stacks = f10.fits; stack_size = below_16 stack_size.0 f12.fits.most; peak = f13.fits }; stack_low = f12.fits.least; stack_high = f12.fits.most }; raw = f13.raw })))))))))))))))

pub regs_back : Backs read_regs regs_bytes AreRegs
regs_back = record { back = regs_front }

areas_front : (bytes : List ℕ) (found : Areas × List ℕ) → IsBytes bytes → read_areas bytes ≡ Some found → IsFront areas_bytes AreAreas bytes found
unfolding read_areas
areas_front bytes found raw e =
    take_then four_back bytes _ found raw e (λ size f0 h0.
    take_then four_back size.1 _ found f0.raw h0 (λ low f1 h1.
    subst (λ (t : Areas × List ℕ). IsFront areas_bytes AreAreas bytes t) (same_Some (record { size = size.0; low = low.0 }, low.1) found h1) (record { spelled = on f0 f1.spelled; fits = record { size = f0.fits; low = f1.fits }; raw = f1.raw })))

pub areas_back : Backs read_areas areas_bytes AreAreas
areas_back = record { back = areas_front }

counts_front : (bytes : List ℕ) (found : ToldCounts × List ℕ) → IsBytes bytes → read_counts bytes ≡ Some found → IsFront counts_bytes AreCounts bytes found
unfolding read_counts
counts_front bytes found raw e =
    take_then four_back bytes _ found raw e (λ q f0 h0.
    within_then 1 MOST_QUANTUM q f0 _ found h0 (λ quantum f1 h1.
    take_then eight_back quantum.1 _ found f1.raw h1 (λ made_ f2 h2.
    take_then four_back made_.1 _ found f2.raw h2 (λ turn f3 h3.
    take_then one_back turn.1 _ found f3.raw h3 (λ last_job f4 h4.
    take_then four_back last_job.1 _ found f4.raw h4 (λ last_number f5 h5.
    take_then one_back last_number.1 _ found f5.raw h5 (λ running f6 h6.
    take_then four_back running.1 _ found f6.raw h6 (λ next_switch f7 h7.
    subst (λ (t : ToldCounts × List ℕ). IsFront counts_bytes AreCounts bytes t) (same_Some (record { quantum = quantum.0; made = made_.0; turn = turn.0; last_job = last_job.0; last_number = last_number.0; running = running.0; next_switch = next_switch.0 }, next_switch.1) found h7) (record { spelled = on f1 (on f2 (on f3 (on f4 (on f5 (on f6 f7.spelled))))); fits = record { quantum_low = f1.fits.least; quantum_high = f1.fits.most; made = f2.fits; turn = f3.fits; last_job = f4.fits; last_number = f5.fits; running = f6.fits; next_switch = f7.fits }; raw = f7.raw })))))))))

pub counts_back : Backs read_counts counts_bytes AreCounts
counts_back = record { back = counts_front }

switch_front : (bytes : List ℕ) (found : Switch × List ℕ) → IsBytes bytes → read_switch bytes ≡ Some found → IsFront switch_bytes IsSwitch bytes found
unfolding read_switch
switch_front bytes found raw e =
    take_then eight_back bytes _ found raw e (λ c f0 h0.
    within_then 0 MOST_MADE c f0 _ found h0 (λ count f1 h1.
    take_then one_back count.1 _ found f1.raw h1 (λ j f2 h2.
    within_then 1 8 j f2 _ found h2 (λ job f3 h3.
    take_then four_back job.1 _ found f3.raw h3 (λ k f4 h4.
    within_then 1 MOST_NUMBER k f4 _ found h4 (λ task f5 h5.
    subst (λ (t : Switch × List ℕ). IsFront switch_bytes IsSwitch bytes t) (same_Some (record { count = count.0; job = job.0; task = task.0 }, task.1) found h5) (record { spelled = on f1 (on f3 f5.spelled); fits = record { count = f1.fits.most; job_low = f3.fits.least; job_high = f3.fits.most; task_low = f5.fits.least; task_high = f5.fits.most }; raw = f5.raw })))))))

pub switch_back : Backs read_switch switch_bytes IsSwitch
switch_back = record { back = switch_front }

signed_front : (bytes : List ℕ) (found : ℤ × List ℕ) → IsBytes bytes → read_signed bytes ≡ Some found → IsFront signed_bytes IsReadNumber bytes found
unfolding read_signed
signed_front bytes found raw e =
    let (n, e1, h1) = bind_some (read_number w64 bytes) _ found e in
    let a = eight_back.back bytes n raw e1 in
    let p = passed (nat_le (nat_abs (cast_signed w64 n.0)) GREATEST) (cast_signed w64 n.0, n.1) found h1 in
    let same : cast_unsigned w64 (cast_signed w64 n.0) ≡ n.0 = of_z-to_z w64 n.0 a.fits in
    subst (λ (t : ℤ × List ℕ). IsFront signed_bytes IsReadNumber bytes t) p.1 (record { spelled = ap (λ (k : ℕ). eight_bytes k ++ n.1) same ∙ a.spelled; fits = record { small = leb-true _ _ p.0 }; raw = a.raw })

pub signed_back : Backs read_signed signed_bytes IsReadNumber
signed_back = record { back = signed_front }

abbrev IsName : List ℕ → Type 0
IsName name = is_name name ≡ true

record IsCut (n : ℕ) (bytes : List ℕ) (found : List ℕ × List ℕ) : Type 0 where
  pub long : length found.0 ≡ n
  pub parts : found.0 ++ found.1 ≡ bytes
  pub raw : IsBytes found.1

cut_by : (n : ℕ) (bytes : List ℕ) (found : List ℕ × List ℕ) → IsBytes bytes → (b : Bool) → ltb (length bytes) n ≡ b → cond b None (Some (take n bytes, drop n bytes)) ≡ Some found → IsCut n bytes found
cut_by n bytes found raw true t e = absurd cc
cut_by n bytes found raw false t e =
    let long : n ≤ length bytes = ltb-false _ _ t in
    let len : length (take n bytes) ≡ n = omega (arith, length-take n bytes) in
    subst (λ (t : List ℕ × List ℕ). IsCut n bytes t) (same_Some (take n bytes, drop n bytes) found e) (record { long = len; parts = take-append-drop n bytes; raw = bytes-drop n bytes raw })

name_front : (bytes : List ℕ) (found : List ℕ × List ℕ) → IsBytes bytes → read_name bytes ≡ Some found → IsFront name_bytes IsName bytes found
unfolding read_name
name_front bytes found raw e =
    let (n, e1, h1) = bind_some (read_number w8 bytes) _ found e in
    let a = one_back.back bytes n raw e1 in
    let (name, e2, h2) = bind_some (read_bytes n.0 n.1) _ found h1 in
    let b = cut_by n.0 n.1 name a.raw (ltb (length n.1) n.0) refl e2 in
    let p = passed (is_name name.0) name found h2 in
    let long = b.long in
    let parts : name_bytes name.0 ++ name.1 ≡ bytes = append_assoc (one_byte (length name.0)) name.0 name.1 ∙ ap (λ (k : ℕ). one_byte k ++ (name.0 ++ name.1)) long ∙ on a b.parts in
    subst (λ (t : List ℕ × List ℕ). IsFront name_bytes IsName bytes t) p.1 (record { spelled = parts; fits = p.0; raw = b.raw })

pub name_back : Backs read_name name_bytes IsName
name_back = record { back = name_front }

numbers_back : Backs (read_counted 0 4294967295 read_signed) (listed_bytes signed_bytes) (AreItems 0 4294967295 IsReadNumber)
numbers_back = counted_back 0 4294967295 read_signed signed_bytes IsReadNumber signed_back

job_front : (bytes : List ℕ) (found : JobRow × List ℕ) → IsBytes bytes → read_job bytes ≡ Some found → IsFront job_bytes IsJob bytes found
unfolding read_job
job_front bytes found raw e =
    take_then name_back bytes _ found raw e (λ name f0 h0.
    take_then four_back name.1 _ found f0.raw h0 (λ dict f1 h1.
    take_then two_back dict.1 _ found f1.raw h1 (λ segments f2 h2.
    take_then two_back segments.1 _ found f2.raw h2 (λ r f3 h3.
    pass_then (λ k. segments.0 + k ≤ MOST_PARTS) (nat_le (segments.0 + r.0) MOST_PARTS) r f3 (λ t. leb-true _ _ t) _ found h3 (λ rows f4 h4.
    take_then eight_back rows.1 _ found f4.raw h4 (λ l f5 h5.
    within_then 1 MOST_LIMIT l f5 _ found h5 (λ limit f6 h6.
    take_then eight_back limit.1 _ found f6.raw h6 (λ made_ f7 h7.
    take_then four_back made_.1 _ found f7.raw h7 (λ next_task f8 h8.
    take_then numbers_back next_task.1 _ found f8.raw h8 (λ numbers f9 h9.
    take_then four_back numbers.1 _ found f9.raw h9 (λ next_number f10 h10.
    subst (λ (t : JobRow × List ℕ). IsFront job_bytes IsJob bytes t) (same_Some (record { name = name.0; dict = dict.0; segments = segments.0; rows = rows.0; limit = limit.0; made = made_.0; next_task = next_task.0; numbers = numbers.0; next_number = next_number.0 }, next_number.1) found h10) (record { spelled = front_parts (record { name = name.0; dict = dict.0; segments = segments.0; rows = rows.0; limit = limit.0; made = made_.0; next_task = next_task.0; numbers = numbers.0; next_number = next_number.0 }) next_number.1 ∙ on f0 (on f1 (on f2 (on f4 (on f6 (on f7 (on f8 (on f9 f10.spelled))))))); fits = record { name = f0.fits; dict = f1.fits; few = f4.fits; limit_low = f6.fits.least; limit_high = f6.fits.most; made = f7.fits; next_task = f8.fits; numbers = f9.fits; next_number = f10.fits }; raw = f10.raw }))))))))))))

pub job_back : Backs read_job job_bytes IsJob
job_back = record { back = job_front }

-- a state is spelled by its kind, its number and its offset
record IsSpelledState (kind number offset : ℕ) (s : TaskState) : Type 0 where
  pub spelled : state_bytes s ≡ one_byte kind ++ (four_bytes number ++ two_bytes offset)
  pub fits : number < 2 ^ 32 → offset < 2 ^ 16 → IsState s

state_by : (kind number offset : ℕ) (s : TaskState) (a b c : Bool) → (kind == 0) ≡ a → (kind == 1) ≡ b → (kind == 2) ≡ c
    → cond a (if_passes ((number == 0) && (offset == 0)) Ready) (cond b (if_passes (offset == 0) (Awaits number)) (cond c (Some (WaitsAt number offset)) None)) ≡ Some s → IsSpelledState kind number offset s
state_by kind number offset s true b c ea eb ec e =
    let p = passed ((number == 0) && (offset == 0)) Ready s e in
    let z = and_parts (number == 0) (offset == 0) p.0 in
    subst (λ (s : TaskState). IsSpelledState kind number offset s) p.1 (record { spelled = rw (eqb-true kind 0 ea, eqb-true number 0 z.0, eqb-true offset 0 z.1) refl; fits = λ m o. tt })
state_by kind number offset s false true c ea eb ec e =
    let p = passed (offset == 0) (Awaits number) s e in
    subst (λ (s : TaskState). IsSpelledState kind number offset s) p.1 (record { spelled = rw (eqb-true kind 1 eb, eqb-true offset 0 p.0) refl; fits = λ m o. m })
state_by kind number offset s false false true ea eb ec e =
    subst (λ (s : TaskState). IsSpelledState kind number offset s) (same_Some (WaitsAt number offset) s e) (record { spelled = rw (eqb-true kind 2 ec) refl; fits = λ m o. (m, o) })
state_by kind number offset s false false false ea eb ec e = absurd cc

state_front : (bytes : List ℕ) (found : TaskState × List ℕ) → IsBytes bytes → read_state bytes ≡ Some found → IsFront state_bytes IsState bytes found
unfolding read_state
state_front bytes found raw e =
    let (kind, e0, h0) = bind_some (read_number w8 bytes) _ found e in
    let f0 = one_back.back bytes kind raw e0 in
    let (number, e1, h1) = bind_some (read_number w32 kind.1) _ found h0 in
    let f1 = four_back.back kind.1 number f0.raw e1 in
    let (offset, e2, h2) = bind_some (read_number w16 number.1) _ found h1 in
    let f2 = two_back.back number.1 offset f1.raw e2 in
    let (state, e3, h3) = bind_some (state_by_kind kind.0 number.0 offset.0) _ found h2 in
    let s = state_by kind.0 number.0 offset.0 state (kind.0 == 0) (kind.0 == 1) (kind.0 == 2) refl refl refl e3 in
    let parts : state_bytes state ++ offset.1 ≡ bytes = ap (λ (t : List ℕ). t ++ offset.1) s.spelled ∙ on f0 (on f1 f2.spelled) in
    subst (λ (t : TaskState × List ℕ). IsFront state_bytes IsState bytes t) (same_Some (state, offset.1) found h3) (record { spelled = parts; fits = s.fits f1.fits f2.fits; raw = f2.raw })

pub state_back : Backs read_state state_bytes IsState
state_back = record { back = state_front }

row_front : (bytes : List ℕ) (found : TaskRow × List ℕ) → IsBytes bytes → read_row bytes ≡ Some found → IsFront task_row_bytes IsRowInRange bytes found
unfolding read_row
row_front bytes found raw e =
    take_then one_back bytes _ found raw e (λ job f0 h0.
    take_then four_back job.1 _ found f0.raw h0 (λ number f1 h1.
    take_then one_back number.1 _ found f1.raw h1 (λ slot f2 h2.
    take_then one_back slot.1 _ found f2.raw h2 (λ parent f3 h3.
    take_then two_back parent.1 _ found f3.raw h3 (λ critical f4 h4.
    take_then state_back critical.1 _ found f4.raw h4 (λ state f5 h5.
    take_then two_back state.1 _ found f5.raw h5 (λ segment f6 h6.
    take_then place_back segment.1 _ found f6.raw h6 (λ place f7 h7.
    subst (λ (t : TaskRow × List ℕ). IsFront task_row_bytes IsRowInRange bytes t) (same_Some (record { job = job.0; number = number.0; slot = slot.0; parent = parent.0; critical = critical.0; state = state.0; segment = segment.0; place = place.0 }, place.1) found h7) (record { spelled = row_parts (record { job = job.0; number = number.0; slot = slot.0; parent = parent.0; critical = critical.0; state = state.0; segment = segment.0; place = place.0 }) place.1 ∙ on f0 (on f1 (on f2 (on f3 (on f4 (on f5 (on f6 f7.spelled)))))); fits = record { job = f0.fits; number = f1.fits; slot = f2.fits; parent = f3.fits; critical = f4.fits; state = f5.fits; segment = f6.fits; place = f7.fits }; raw = f7.raw })))))))))

pub row_back : Backs read_row task_row_bytes IsRowInRange
row_back = record { back = row_front }
