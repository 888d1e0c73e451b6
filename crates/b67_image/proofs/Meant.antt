-- What a text tells is within the ranges, and its bytes are those that it is spelled with.
use Rattle.std.proofs.Common.{◌≡◌, ℕ, zero, suc, ◌-◌, ◌<◌, Bool, true, false, cond, ◌&&◌, List, [], ◌∷◌, ◌++◌, length, Option, Some, None, Result, Ok, Err, refl, sym, ap, subst, ◌∙◌, arith, ◌==◌, unwrap_or}
use Rattle.std.specs.Prelude.{nat_le, IfOk}
use Rattle.std.specs.Int.{w16, w32, w64}
use Rattle.std.specs.List.{flat_map}
use Rattle.std.specs.Str.{bytes_eq}
use Rattle.std.proofs.lemmas.Bool.{leb-true, and_parts, eqb-true}
use Rattle.std.proofs.lemmas.Option.{same_Some}
use Rattle.b67_word.specs.Common.{IsWord}
use Rattle.b67_model_text.specs.declared.card.Card.{Card}
use Rattle.b67_model_text.specs.Answers.{Answer, ◌>>=◌, ◌>>◌, needs, or_reason}
use Rattle.b67_model_text.proofs.Contents.{same_Ok}
use Rattle.b67_model_text.specs.Cards.{cards}
use Rattle.b67_model_text.specs.Deck.{of_card}
use Rattle.b67_model_text.specs.Hex.{digit_value, digit_bytes}
use Rattle.b67_task.specs.declared.tables.Machine.{Machine}
use Rattle.b67_image.specs.declared.fault.ImageFault.{ImageFault}
use Rattle.b67_image.specs.Parts.{ImageParts, parts_of}
use Rattle.b67_image.specs.Spelling.{two_bytes, four_bytes, eight_bytes, image_header, listed_bytes, tagged_bytes, regs_bytes, areas_bytes, counts_bytes, switch_bytes, job_bytes, task_row_bytes, image_bytes}
use Rattle.b67_image.specs.Giving.{read_number, read_many}
use Rattle.b67_image.specs.Reading.{read_counted, read_word, read_core, read_links, read_switch, read_switches, read_job, read_jobs, read_row, read_rows, read_parts, parts_in}
use Rattle.b67_image.specs.Shape.{is_header, has_header, has_shape}
use Rattle.b67_image.specs.Text.{last_card, refused_card, within_image_limit, found_from, is_digits, bytes_from, bytes_of}
use Rattle.b67_image.specs.Within.{AreItems, IsSwitch, IsJob, IsRowInRange, IsFour, IsTwo, ArePartsWithin}
use Rattle.b67_image.specs.Meaning.{is_wanted, parts_told, told_in, IsMeant}
use Rattle.b67_image.specs.Laws.{IsSpelled, ImagesAreReadAgain, ImagesAreSpelled}
use Rattle.b67_image.proofs.Whole.{image_again}
use Rattle.b67_image.proofs.Forms.{all_parts}
use Rattle.b67_image.proofs.Back.{IsBytes, Backs, AreMany, passed, on, take_then, bind_some, two_back, four_back, eight_back, many_front, counted_back, word_back, regs_back, areas_back, counts_back, switch_back, job_back, row_back}
use Rattle.b67_model.specs.declared.limits.TheConstants.{LEAST_CORE, MOST_CORE, MOST_SECTORS, MOST_JOBS, MOST_SWITCHES}

-- ---- all parts

record ArePartsOf (bytes : List ℕ) (found : ImageParts × List ℕ) : Type 0 where
  pub spelled : listed_bytes tagged_bytes found.0.core ++ (regs_bytes found.0.regs ++ (flat_map four_bytes found.0.display ++ (flat_map two_bytes found.0.critical ++ (areas_bytes found.0.areas
      ++ (listed_bytes four_bytes found.0.links ++ (counts_bytes found.0.counts ++ (listed_bytes switch_bytes found.0.switches ++ (listed_bytes job_bytes found.0.jobs ++ (listed_bytes task_row_bytes found.0.rows ++ found.1))))))))) ≡ bytes
  pub fits : ArePartsWithin found.0

display_back : Backs (read_many (read_number w32) 32) (flat_map four_bytes) (AreMany IsFour 32)
display_back = record { back = many_front (read_number w32) four_bytes IsFour four_back 32 }

critical_back : Backs (read_many (read_number w16) 120) (flat_map two_bytes) (AreMany IsTwo 120)
critical_back = record { back = many_front (read_number w16) two_bytes IsTwo two_back 120 }

core_back : Backs (read_counted LEAST_CORE MOST_CORE read_word) (listed_bytes tagged_bytes) (AreItems LEAST_CORE MOST_CORE IsWord)
core_back = counted_back LEAST_CORE MOST_CORE read_word tagged_bytes IsWord word_back

links_back : Backs (read_counted 1 MOST_SECTORS (read_number w32)) (listed_bytes four_bytes) (AreItems 1 MOST_SECTORS IsFour)
links_back = counted_back 1 MOST_SECTORS (read_number w32) four_bytes IsFour four_back

switches_back : Backs (read_counted 0 MOST_SWITCHES read_switch) (listed_bytes switch_bytes) (AreItems 0 MOST_SWITCHES IsSwitch)
switches_back = counted_back 0 MOST_SWITCHES read_switch switch_bytes IsSwitch switch_back

jobs_back : Backs (read_counted 0 MOST_JOBS read_job) (listed_bytes job_bytes) (AreItems 0 MOST_JOBS IsJob)
jobs_back = counted_back 0 8 read_job job_bytes IsJob job_back

rows_back : Backs (read_counted 0 120 read_row) (listed_bytes task_row_bytes) (AreItems 0 120 IsRowInRange)
rows_back = counted_back 0 120 read_row task_row_bytes IsRowInRange row_back

parts_front : (bytes : List ℕ) (found : ImageParts × List ℕ) → IsBytes bytes → read_parts bytes ≡ Some found → ArePartsOf bytes found
unfolding read_parts read_core read_links read_switches read_jobs read_rows
parts_front bytes found raw e =
    take_then core_back bytes _ found raw e (λ core f0 h0.
    take_then regs_back core.1 _ found f0.raw h0 (λ regs f1 h1.
    take_then display_back regs.1 _ found f1.raw h1 (λ display f2 h2.
    take_then critical_back display.1 _ found f2.raw h2 (λ critical f3 h3.
    take_then areas_back critical.1 _ found f3.raw h3 (λ areas f4 h4.
    take_then links_back areas.1 _ found f4.raw h4 (λ links f5 h5.
    take_then counts_back links.1 _ found f5.raw h5 (λ counts f6 h6.
    take_then switches_back counts.1 _ found f6.raw h6 (λ switches f7 h7.
    take_then jobs_back switches.1 _ found f7.raw h7 (λ jobs f8 h8.
    take_then rows_back jobs.1 _ found f8.raw h8 (λ rows f9 h9.
    subst (λ (t : ImageParts × List ℕ). ArePartsOf bytes t)
    (same_Some (record { core = core.0; regs = regs.0; display = display.0; critical = critical.0; areas = areas.0; links = links.0; counts = counts.0; switches = switches.0; jobs = jobs.0; rows = rows.0 }, rows.1) found h9)
    (record {
      spelled = on f0 (on f1 (on f2 (on f3 (on f4 (on f5 (on f6 (on f7 (on f8 f9.spelled))))))));
      fits = record { core = f0.fits; regs = f1.fits; display = f2.fits.each; display_many = f2.fits.many; critical = f3.fits.each; critical_many = f3.fits.many; areas = f4.fits; links = f5.fits; counts = f6.fits; switches = f7.fits; jobs = f8.fits; rows = f9.fits };
    })))))))))))

-- bytes that tell parts
record AreOf (bytes : List ℕ) (p : ImageParts) : Type 0 where
  pub fits : ArePartsWithin p
  pub spelled : image_bytes p ≡ bytes

none_left : (xs : List ℕ) → (length xs == 0) ≡ true → xs ≡ []
none_left [] e = refl
none_left (x ∷ xs) e = let z : suc (length xs) ≡ 0 = eqb-true (suc (length xs)) 0 e in absurd (omega arith)

whole_of : (bytes : List ℕ) (p : ImageParts) → IsBytes bytes → has_header bytes ≡ true → parts_in bytes ≡ Some p → AreOf bytes p
unfolding parts_in
whole_of bytes p raw h e =
    let (n, e0, h0) = bind_some (read_number w64 bytes) _ p e in
    let a = eight_back.back bytes n raw e0 in
    let (found, e1, h1) = bind_some (read_parts n.1) _ p h0 in
    let b = parts_front n.1 found a.raw e1 in
    let q = passed (length found.1 == 0) found.0 p h1 in
    let first : n.0 ≡ image_header = eqb-true n.0 image_header (ap is_header (sym e0) ∙ h) in
    let parts = b.spelled in
    ending bytes n.0 n.1 found p first a.spelled (none_left found.1 q.0) parts b.fits q.1
  where
    ending : (bytes : List ℕ) (n : ℕ) (rest : List ℕ) (found : ImageParts × List ℕ) (p : ImageParts) → n ≡ image_header → eight_bytes n ++ rest ≡ bytes → found.1 ≡ []
        → listed_bytes tagged_bytes found.0.core ++ (regs_bytes found.0.regs ++ (flat_map four_bytes found.0.display ++ (flat_map two_bytes found.0.critical ++ (areas_bytes found.0.areas
        ++ (listed_bytes four_bytes found.0.links ++ (counts_bytes found.0.counts ++ (listed_bytes switch_bytes found.0.switches ++ (listed_bytes job_bytes found.0.jobs ++ (listed_bytes task_row_bytes found.0.rows ++ found.1))))))))) ≡ rest
        → ArePartsWithin found.0 → found.0 ≡ p → AreOf bytes p
    ending bytes n rest (q, left) p first front none parts fits is =
        let whole : image_bytes q ≡ bytes =
        all_parts q
        ∙ ap (λ (t : List ℕ). eight_bytes image_header ++ (listed_bytes tagged_bytes q.core ++ (regs_bytes q.regs ++ (flat_map four_bytes q.display ++ (flat_map two_bytes q.critical ++ (areas_bytes q.areas
        ++ (listed_bytes four_bytes q.links ++ (counts_bytes q.counts ++ (listed_bytes switch_bytes q.switches ++ (listed_bytes job_bytes q.jobs ++ (listed_bytes task_row_bytes q.rows ++ t))))))))))) (sym none)
        ∙ ap (λ (t : List ℕ). eight_bytes image_header ++ t) parts
        ∙ ap (λ (k : ℕ). eight_bytes k ++ rest) (sym first)
        ∙ front in
        subst (AreOf bytes) is (record { fits = fits; spelled = whole })

-- ---- answers

needed : {B : Type 0} (b : Bool) (reason : ℕ) (rest : Answer B) (p : B) → (needs b reason >> rest) ≡ Ok p → (b ≡ true) × (rest ≡ Ok p)
needed true reason rest p e = (refl, e)
needed false reason rest p e = absurd cc

given : {A B : Type 0} (o : Option A) (reason : ℕ) (go : A → Answer B) (p : B) → (or_reason o reason >>= go) ≡ Ok p → (x : A) × (o ≡ Some x) × (go x ≡ Ok p)
given (Some x) reason go p e = (x, refl, e)
given None reason go p e = absurd cc

bind_ok : {A B R : Type 0} (r : Result A R) (f : A → Result B R) (y : B) → (r >>= f) ≡ Ok y → (x : A) × (r ≡ Ok x) × (f x ≡ Ok y)
bind_ok (Ok x) f y e = (x, refl, e)
bind_ok (Err d) f y e = absurd cc

card_ok : {A : Type 0} (n : ℕ) (a : Answer A) (x : A) → of_card n a ≡ Ok x → a ≡ Ok x
card_ok n (Ok a) x e = ap Ok (same_Ok a x e)
card_ok n (Err reason) x e = absurd cc

told_of : (sectors : Option ℕ) (bytes : List ℕ) (p : ImageParts) → IsBytes bytes → parts_told sectors bytes ≡ Ok p → AreOf bytes p
unfolding parts_told
told_of sectors bytes p raw e =
    let h = needed (has_header bytes) 4 _ p e in
    let s = needed (has_shape bytes) 5 _ p h.1 in
    let (q, is, more) = given (parts_in bytes) 6 _ p s.1 in
    let w = needed (is_wanted sectors (length q.links)) 7 (Ok q) p more in
    whole_of bytes p raw h.0 (is ∙ ap Some (same_Ok q p w.1))

-- ---- the cards' bytes

digit_small : (b : ℕ) → digit_value b < 16
digit_small b = by (nat_le 48 b && nat_le b 57) (nat_le 65 b && nat_le b 70) (nat_le 97 b && nat_le b 102) refl refl refl
  where
    by : (x y z : Bool) → (nat_le 48 b && nat_le b 57) ≡ x → (nat_le 65 b && nat_le b 70) ≡ y → (nat_le 97 b && nat_le b 102) ≡ z
        → unwrap_or (cond x (Some (b - 48)) (cond y (Some (b - 55)) (cond z (Some (b - 87)) None))) 0 < 16
    by true y z ex ey ez = let t = and_parts (nat_le 48 b) (nat_le b 57) ex in omega (arith, leb-true 48 b t.0, leb-true b 57 t.1)
    by false true z ex ey ez = let t = and_parts (nat_le 65 b) (nat_le b 70) ey in omega (arith, leb-true 65 b t.0, leb-true b 70 t.1)
    by false false true ex ey ez = let t = and_parts (nat_le 97 b) (nat_le b 102) ez in omega (arith, leb-true 97 b t.0, leb-true b 102 t.1)
    by false false false ex ey ez = omega arith

none_raw : IsBytes []
none_raw i = omega arith

digits_raw : (text : List ℕ) → IsBytes (digit_bytes text)
digits_raw [] i = none_raw i
digits_raw (a ∷ []) i = none_raw i
digits_raw (a ∷ b ∷ more) zero = let high = digit_small a in let low = digit_small b in omega (arith, high, low)
digits_raw (a ∷ b ∷ more) (suc i) = digits_raw more i

joined_raw : (xs ys : List ℕ) → IsBytes xs → IsBytes ys → IsBytes (xs ++ ys)
joined_raw [] ys a b i = b i
joined_raw (x ∷ xs) ys a b zero = a zero
joined_raw (x ∷ xs) ys a b (suc i) = joined_raw xs ys (λ j. a (suc j)) b i

cards_raw : (last : ℕ) (cs : List Card) (bytes : List ℕ) → bytes_from last cs ≡ Ok bytes → IsBytes bytes
unfolding bytes_from
cards_raw last [] bytes e = absurd cc
cards_raw last (card ∷ more) bytes e = by (bytes_eq card.text last_card) (is_digits card.text) (λ rest is. cards_raw card.number more rest is) e
  where
    by : (x y : Bool) → ((rest : List ℕ) → bytes_from card.number more ≡ Ok rest → IsBytes rest) → cond x (Ok []) (cond y (bytes_from card.number more >>= λ bytes. Ok (digit_bytes card.text ++ bytes)) (refused_card card.number 2)) ≡ Ok bytes → IsBytes bytes
    by true y behind e = subst IsBytes (same_Ok [] bytes e) none_raw
    by false true behind e =
        let (rest, is, more_is) = bind_ok (bytes_from card.number more) (λ bytes. Ok (digit_bytes card.text ++ bytes)) bytes e in
        subst IsBytes (same_Ok (digit_bytes card.text ++ rest) bytes more_is) (joined_raw (digit_bytes card.text) rest (digits_raw card.text) (behind rest is))
    by false false behind e = absurd cc

-- ---- a text

pub spelled_in : ImagesAreSpelled
spelled_in sectors text card p e =
    let (u, e0, h0) = bind_ok (within_image_limit text) _ (card, p) e in
    let (found, e1, h1) = bind_ok (bytes_of text) _ (card, p) h0 in
    let (q, e2, h2) = bind_ok (of_card found.0 (parts_told sectors found.1)) _ (card, p) h1 in
    let same : (found.0, q) ≡ (card, p) = same_Ok _ (card, p) h2 in
    let (first, e3, h3) = bind_ok (found_from 0 (cards text)) _ found e1 in
    let (bytes, e4, h4) = bind_ok (bytes_from first.0 first.1) _ found h3 in
    let at : (first.0, bytes) ≡ found = same_Ok _ found h4 in
    let raw : IsBytes found.1 = subst (λ (f : ℕ × List ℕ). IsBytes f.1) at (cards_raw first.0 first.1 bytes e4) in
    let told = told_of sectors found.1 q raw (card_ok found.0 (parts_told sectors found.1) q e2) in
    subst (λ (t : ℕ × ImageParts). IsSpelled text t.0 t.1) same (record { within = told.fits; bytes = e1 ∙ ap (λ (bytes : List ℕ). Ok (found.0, bytes)) (sym told.spelled) })

-- it has as many sectors as are wanted
pub wanted_in : (sectors : Option ℕ) (text : List ℕ) (card : ℕ) (p : ImageParts) → told_in sectors text ≡ Ok (card, p) → is_wanted sectors (length p.links) ≡ true
unfolding parts_told
wanted_in sectors text card p e =
    let (u, e0, h0) = bind_ok (within_image_limit text) _ (card, p) e in
    let (found, e1, h1) = bind_ok (bytes_of text) _ (card, p) h0 in
    let (q, e2, h2) = bind_ok (of_card found.0 (parts_told sectors found.1)) _ (card, p) h1 in
    let same : (found.0, q) ≡ (card, p) = same_Ok _ (card, p) h2 in
    let h = needed (has_header found.1) 4 _ q (card_ok found.0 (parts_told sectors found.1) q e2) in
    let s = needed (has_shape found.1) 5 _ q h.1 in
    let (t, is, more) = given (parts_in found.1) 6 _ q s.1 in
    let w = needed (is_wanted sectors (length t.links)) 7 (Ok t) q more in
    let whole : t ≡ p = same_Ok t q w.1 ∙ ap (λ (f : ℕ × ImageParts). f.1) same in
    subst (λ (r : ImageParts). is_wanted sectors (length r.links) ≡ true) whole w.0

pub spelled_again : ImagesAreReadAgain
spelled_again sectors text card m e le = image_again None m (record { within = (spelled_in sectors text card (parts_of m) e).within; short = le; wanted = refl })

pub within_read : (sectors : Option ℕ) (text : List ℕ) (r : Result Machine ImageFault) → IsMeant r (told_in sectors text) → IfOk r (λ m. ArePartsWithin (parts_of m))
within_read sectors text (Ok m) (found, told, shows) = subst ArePartsWithin (sym shows.parts) (spelled_in sectors text found.0 found.1 told).within
within_read sectors text (Err fault) h = tt
