-- Code that is read syllable after syllable.
use Rattle.std.proofs.Common.{◌≡◌, ℕ, ◌+◌, ◌-◌, ◌*◌, ◌/◌, ◌%◌, ◌^◌, ◌<◌, ◌≤◌, List, get_or, length, Some, None, refl, sym, ◌∙◌, ap, arith}
use Rattle.std.specs.Prelude.{slice_index}
use Rattle.std.specs.Int.{w64, rotate_left}
use Rattle.std.specs.Int.Bits.{bit_or}
use Rattle.std.proofs.lemmas.Grind.{low_zeros, or_after_shift}
use Rattle.std.specs.List.{slice_range}
use Rattle.b67_word.specs.Tagged.{Tagged, contents}
use Rattle.b67_word.specs.declared.couples.Place.{Place}
use Rattle.b67_ctl.specs.declared.descriptors.SegDesc.{SegDesc}
use Rattle.b67_model.specs.Common.{Task, SessionJob, Session, form_of, code_of, count_at}
use Rattle.b67_stack.specs.declared.Cpu.{Cpu}
use Rattle.b67_stack.specs.Common.{Storage}
use Rattle.b67_layout.specs.Common.{Placement, IsInOrderButCounts, IsRunning, RepresentsSession}
use Rattle.std.proofs.lemmas.List.{get_or-map, length-map}
use Rattle.b67_exec_cells.specs.Running.{GivesSegment}
use Rattle.b67_exec_cells.proofs.Codes.{present, desc-inside, code-read}
use Rattle.b67_exec.specs.declared.reader.Reader.{Reader}
use Rattle.b67_exec.specs.Near.{syllables_of, ReaderAt}

-- below six
by_six : (P : ℕ → Type 0) → P 0 → P 1 → P 2 → P 3 → P 4 → P 5 → (n : ℕ) → n < 6 → P n
by_six P a b c d e f n low = grind arith

-- what is turned goes in above what is left
turns : (n by : ℕ) → 2 ^ by ≡ 2 ^ low_zeros 128 (2 ^ by) → n * 2 ^ by % 2 ^ 64 ≡ n % 2 ^ (64 - by) * 2 ^ by % 2 ^ 64 → n / 2 ^ (64 - by) < 2 ^ by → n % 2 ^ (64 - by) * 2 ^ by < 2 ^ 64
    → bit_or (n * 2 ^ by % 2 ^ 64) (n / 2 ^ (64 - by)) ≡ n % 2 ^ (64 - by) * 2 ^ by + n / 2 ^ (64 - by)
turns n by power same low high = ap (λ z. bit_or z (n / 2 ^ (64 - by))) same ∙ or_after_shift (n % 2 ^ (64 - by)) (2 ^ by) (2 ^ 64) (n / 2 ^ (64 - by)) power low high

-- a word's syllables
turned : (w k : ℕ) → k < 6 → (let n = w * 2 ^ 16 % 2 ^ 64 in syllables_of w k ≡ n % 2 ^ (56 - 8 * k) * 2 ^ (8 + 8 * k) + n / 2 ^ (56 - 8 * k))
unfolding syllables_of
turned w k low =
    let n = w * 2 ^ 16 % 2 ^ 64 in
    by_six (λ l. rotate_left w64 n (8 + 8 * l) ≡ n % 2 ^ (56 - 8 * l) * 2 ^ (8 + 8 * l) + n / 2 ^ (56 - 8 * l))
    (turns n 8 refl (omega arith) (omega arith) (omega arith)) (turns n 16 refl (omega arith) (omega arith) (omega arith)) (turns n 24 refl (omega arith) (omega arith) (omega arith))
    (turns n 32 refl (omega arith) (omega arith) (omega arith)) (turns n 40 refl (omega arith) (omega arith) (omega arith)) (turns n 48 refl (omega arith) (omega arith) (omega arith)) k low

-- the first one, by the word
pub top_is : (w k : ℕ) → k < 6 → syllables_of w k % 2 ^ 8 ≡ w / 256 ^ (5 - k) % 256
top_is w k low =
    let P : ℕ → Type 0 = λ l. syllables_of w l ≡ (let n = w * 2 ^ 16 % 2 ^ 64 in n % 2 ^ (56 - 8 * l) * 2 ^ (8 + 8 * l) + n / 2 ^ (56 - 8 * l)) → syllables_of w l % 2 ^ 8 ≡ w / 256 ^ (5 - l) % 256 in
    by_six P (λ e. omega (arith, e)) (λ e. omega (arith, e)) (λ e. omega (arith, e)) (λ e. omega (arith, e)) (λ e. omega (arith, e)) (λ e. omega (arith, e)) k low (turned w k low)

-- those from the next one on
turned_on : (n : ℕ) → n < 2 ^ 64 → rotate_left w64 n 8 ≡ n % 2 ^ 56 * 2 ^ 8 + n / 2 ^ 56
turned_on n small = turns n 8 refl (omega arith) (omega (arith, small)) (omega arith)

pub shifted_is : (w k : ℕ) → k < 5 → rotate_left w64 (syllables_of w k) 8 ≡ syllables_of w (k + 1)
shifted_is w k low =
    let n = w * 2 ^ 16 % 2 ^ 64 in
    let T : ℕ → ℕ = λ l. n % 2 ^ (56 - 8 * l) * 2 ^ (8 + 8 * l) + n / 2 ^ (56 - 8 * l) in
    let P : ℕ → Type 0 = λ l. l < 5 → T l % 2 ^ 56 * 2 ^ 8 + T l / 2 ^ 56 ≡ T (l + 1) in
    let Q : ℕ → Type 0 = λ l. T l < 2 ^ 64 in
    let small : T k < 2 ^ 64 = by_six Q (omega arith) (omega arith) (omega arith) (omega arith) (omega arith) (omega arith) k (omega (arith, low)) in
    ap (λ z. rotate_left w64 z 8) (turned w k (omega (arith, low))) ∙ turned_on (T k) small
    ∙ by_six P (λ z. omega arith) (λ z. omega arith) (λ z. omega arith) (λ z. omega arith) (λ z. omega arith) (λ z. absurd (omega (arith, z))) k (omega (arith, low)) low
    ∙ sym (turned w (k + 1) (omega (arith, low)))

module _ (x : Storage) (cpu : Cpu) (plan : Placement) (s : Session) (m : SessionJob) (t : Task) (ordered : IsInOrderButCounts s) (h : RepresentsSession x cpu plan s) (runs : IsRunning plan s.jobs m t)
    (desc : SegDesc) (given : GivesSegment x plan m t (Some desc)) where
  -- as many words as the descriptor says
  pub words-are : desc.words ≡ length (code_of m.constants t.segment)
  words-are = ap (λ (d : SegDesc). d.words) given.0

  -- a word of the code
  pub word-in : (words : List Tagged) (i : ℕ) (w : Tagged) → words ≡ slice_range cpu.core desc.address (desc.address + desc.words) → i < desc.words → w ≡ get_or words i w → slice_index (code_of m.constants t.segment) i ≡ w.bits
  word-in words i w is low got =
      let n : words ≡ slice_range cpu.core desc.address (desc.address + length (code_of m.constants t.segment)) = is ∙ ap (λ (k : ℕ). slice_range cpu.core desc.address (desc.address + k)) words-are in
      let c : contents words ≡ code_of m.constants t.segment = code-read x cpu plan s m t ordered h runs desc.address words (present x cpu plan s m t ordered h runs desc given.0 given.1) n in
      grind (arith, length-map, get_or-map)

  pub in-core : desc.address + desc.words ≤ length cpu.core
  in-core = let i = desc-inside x cpu plan s m t ordered h runs desc given.0 given.1 in omega (arith, i)

  pub range-long : (words : List Tagged) → words ≡ slice_range cpu.core desc.address (desc.address + desc.words) → length words ≡ desc.words
  range-long words is =
      let n : words ≡ slice_range cpu.core desc.address (desc.address + length (code_of m.constants t.segment)) = is ∙ ap (λ (k : ℕ). slice_range cpu.core desc.address (desc.address + k)) words-are in
      let c : contents words ≡ code_of m.constants t.segment = code-read x cpu plan s m t ordered h runs desc.address words (present x cpu plan s m t ordered h runs desc given.0 given.1) n in
      omega (arith, words-are, ap length c, length-map words (λ (v : Tagged). v.bits))

-- the next syllable of the word
pub stepped : (r : Reader) (code : List ℕ) (k : ℕ) → ReaderAt r code k → r.word < length code → r.syllable < 5 → (bits : ℕ) → bits ≡ rotate_left w64 r.bits 8 → (more : ℕ) → more ≡ k + 1
    → ReaderAt (record r { syllable = r.syllable + 1; bits = bits }) code more
stepped r code k a inside some bits is more more_is = grind (arith, shifted_is)

-- the first one of the next word
pub crossed : (r : Reader) (code : List ℕ) (k : ℕ) → ReaderAt r code k → 5 ≤ r.syllable → r.word + 1 < length code → (bits : ℕ) → bits ≡ syllables_of (slice_index code (r.word + 1)) 0 → (more : ℕ) → more ≡ k + 1
    → ReaderAt (record { code = r.code; word = r.word + 1; syllable = 0; bits = bits }) code more
crossed r code k a last inside bits is more more_is = grind arith

-- the first one of a word
pub opened : (desc : SegDesc) (code : List ℕ) (word bits : ℕ) → word < length code → bits ≡ syllables_of (slice_index code word) 0
    → ReaderAt (record { code = desc; word = word; syllable = 0; bits = bits }) code (6 * word)
opened desc code word bits inside is = grind arith

-- the end of the code
pub ended : (desc : SegDesc) (code : List ℕ) (word bits : ℕ) → word ≡ length code → form_of (bits % 2 ^ 8) ≡ None
    → ReaderAt (record { code = desc; word = word; syllable = 0; bits = bits }) code (6 * word)
ended desc code word bits end none = grind arith

-- the one at a place
pub begun : (desc : SegDesc) (code : List ℕ) (place : Place) (bits : ℕ) → place.syllable < 6 → place.word < length code → bits ≡ syllables_of (slice_index code place.word) place.syllable
    → ReaderAt (record { code = desc; word = place.word; syllable = place.syllable; bits = bits }) code (count_at place + 0)
begun desc code place bits in_word inside is = grind arith
