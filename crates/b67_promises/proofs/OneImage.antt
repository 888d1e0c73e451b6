-- The machine whose image a call printed is the one that is read of the whole text.
use Rattle.std.proofs.Common.{◌≡◌, ◌<◌, ◌≤◌, ◌+◌, ◌*◌, ◌/◌, ◌^◌, ℕ, zero, suc, List, [], ◌∷◌, ◌++◌, length, take, drop, map, Option, Ok, Result, refl, ap, ◌∙◌, arith}
use Rattle.std.specs.List.{flat_map, AllByRecursion, range_with_len}
use Rattle.std.proofs.lemmas.List.{length-append, length-take, length-drop}
use Rattle.std.proofs.lemmas.List.Concat.{flat_map-cons}
use Rattle.b67_io.specs.Line.{ended}
use Rattle.b67_model.specs.Common.{RunLine, run_text}
use Rattle.b67_model_text.specs.Hex.{hex_text}
use Rattle.b67_model_text.specs.Deck.{Refusal}
use Rattle.b67_session_lines.specs.Stops.{halted_line}
use Rattle.b67_task.specs.declared.tables.Machine.{Machine}
use Rattle.b67_task.specs.declared.tables.JobRow.{JobRow}
use Rattle.b67_image.specs.Parts.{ImageParts, parts_of}
use Rattle.b67_image.specs.Spelling.{image_bytes}
use Rattle.b67_image.specs.Text.{limit, card_lines, image_text_of, bytes_of}
use Rattle.b67_image.specs.Image.{image_text}
use Rattle.b67_image.specs.Typed.{AreTyped, HaveShortNames}
use Rattle.b67_image.specs.Meaning.{told_in}
use Rattle.b67_image.proofs.Octets.{HasNameBytes, octets_by}
use Rattle.b67_image.proofs.Codes.{images_tell_one, within_typed}
use Rattle.b67_image.proofs.Meant.{spelled_in}
use Rattle.b67_promises.proofs.Among.{bytes_among}
use Rattle.b67_promises.proofs.OtherLines.{lines_other}

-- ---- bytes are no more than the digits of their cards

text_length : (bs : List ℕ) → length (hex_text bs) ≡ 2 * length bs
text_length [] = refl
text_length (b ∷ bs) = omega (arith, text_length bs)

ended_length : (t : List ℕ) → length (ended t) ≡ length t + 1
ended_length t = length-append t (10 ∷ [])

module _ (bytes : List ℕ) where
  abbrev piece : ℕ → List ℕ
  piece i = take 32 (drop (32 * i) bytes)

  cards_length : (k a : ℕ) → length bytes ≤ 32 * (a + k) → length bytes ≤ 32 * a + length (flat_map ended (map (λ i. hex_text (piece i)) (range_with_len a k)))
  cards_length zero a high = omega (arith, high)
  cards_length (suc k) a high =
      let rest = cards_length k (a + 1) (omega (arith, high)) in
      let more : List ℕ = flat_map ended (map (λ i. hex_text (piece i)) (range_with_len (a + 1) k)) in
      let all : length (flat_map ended (map (λ i. hex_text (piece i)) (range_with_len a (suc k)))) ≡ length (ended (hex_text (piece a))) + length more = ap length (flat_map-cons ended (hex_text (piece a)) (map (λ i. hex_text (piece i)) (range_with_len (a + 1) k))) ∙ length-append (ended (hex_text (piece a))) more in
      let line = ended_length (hex_text (piece a)) in
      let digits = text_length (piece a) in
      let size = length-take 32 (drop (32 * a) bytes) in
      grind (arith, length-drop)

  lines_length : length bytes ≤ length (card_lines bytes)
  lines_length = omega (arith, cards_length ((length bytes + 31) / 32) 0 (omega arith))

image_length : (before bytes tail : List ℕ) → length bytes ≤ length (before ++ (image_text_of bytes ++ tail))
image_length before bytes tail =
    let few = lines_length bytes in
    grind (arith, length-append)

-- ---- the parts that are read

same_pair : (c d : ℕ) (x y : List ℕ) → ◌≡◌ {A = Result (ℕ × List ℕ) Refusal} (Ok (c, x)) (Ok (d, y)) → x ≡ y
same_pair c d x y e = let same : ◌≡◌ {A = ℕ × List ℕ} (c, x) (d, y) = cc in ap (λ (p : ℕ × List ℕ). p.1) same

-- the names of a machine's jobs are few bytes
pub record HasNames (js : List JobRow) : Type 0 where
  pub short : HaveShortNames js
  pub bytes : AllByRecursion HasNameBytes js

module _ (printed : List RunLine) (count : ℕ) (k : Machine) where
  abbrev pub text_of_halt : List ℕ
  text_of_halt = run_text printed ++ (image_text k ++ ended (halted_line count))

  pub parts_are : (sectors : Option ℕ) (card : ℕ) (p : ImageParts) → length text_of_halt ≤ limit → AreTyped (parts_of k) → HasNames k.tasks.jobs → told_in sectors text_of_halt ≡ Ok (card, p) → p ≡ parts_of k
  unfolding image_text
  parts_are sectors card p few typed names told =
      let o = lines_other printed in
      let bytes = image_bytes (parts_of k) in
      let tail = ended (halted_line count) in
      let all = (octets_by (parts_of k) names.bytes).all in
      let b = bytes_among o.each tail bytes o.other all in
      let whole : bytes_of text_of_halt ≡ Ok (b.0, bytes) = ap (λ (x : List ℕ). bytes_of (x ++ (image_text_of bytes ++ tail))) o.is ∙ b.1 in
      let s = spelled_in sectors text_of_halt card p told in
      grind (arith, within_typed, image_length, images_tell_one)
