-- What the words of stacks and of dictionaries keep.
use Rattle.std.proofs.Common.{◌≡◌, ◌≢◌, ℕ, ◌+◌, ◌*◌, ◌^◌, ◌/◌, ◌%◌, ◌<◌, Bool, true, false, List, [], ◌∷◌, length, Some, refl, ◌∙◌, ap, arith}
use Rattle.std.specs.List.{slice_get}
use Rattle.std.proofs.lemmas.Bool.{eq-eqb, ne_eqb}
use Rattle.b67_word.specs.Tagged.{Tagged, bits_at}
use Rattle.b67_area.specs.declared.Kind.{Kind}
use Rattle.b67_area.specs.declared.Kind.TheVariants.{Code}
use Rattle.b67_ctl.specs.Layout.{flag_bit}
use Rattle.b67_lemmas.specs.Lists.{total}
use Rattle.b67_model.specs.Sectors.{sectors_for}
use Rattle.b67_stack.specs.Shapes as Shapes
use Rattle.b67_stack.specs.Common.{Location, Locations, Shape, Is, Copy, Fits, LieDownward, Head, Activation, headed, is_present, address_or, home_word_of}
use Rattle.b67_stack.proofs.Homes.{bit-lt}
use Rattle.b67_task.specs.Sums.{sectors_of_word, sectors_at, core_sectors_from}

code_bit : (p l a : ℕ) → p < 2 → l < 2 ^ 16 → a < 2 ^ 20 → (p * 2 ^ 47 + l * 2 ^ 20 + a) / 2 ^ 46 % 2 ^ 1 ≡ 0
code_bit p l a hp hl ha = omega arith

code_length : (p l a : ℕ) → p < 2 → l < 2 ^ 16 → a < 2 ^ 20 → (p * 2 ^ 47 + l * 2 ^ 20 + a) / 2 ^ 20 % 2 ^ 16 ≡ l
code_length p l a hp hl ha = omega arith

is_code : (w : Tagged) (n : ℕ) → w.tag ≡ 3 → bits_at w 46 1 ≡ 0 → bits_at w 20 16 ≡ n → sectors_of_word true w ≡ sectors_for n
is_code w n t b l = rw (ne_eqb w.tag 5 (λ z. omega (arith, t, z)), eq-eqb w.tag 3 t, eq-eqb (bits_at w 46 1) 0 b) (ap sectors_for l)

is_copy : (w : Tagged) → w.tag ≡ 5 → bits_at w 46 1 ≡ 1 → sectors_of_word false w ≡ 0
is_copy w t b = rw (eq-eqb w.tag 5 t, ne_eqb (bits_at w 46 1) 0 (λ z. omega (arith, b, z))) refl

is_plain : (w : Tagged) → w.tag ≢ 5 → sectors_of_word false w ≡ 0
is_plain w t = rw (ne_eqb w.tag 5 t) refl

-- the word at the home of an object
module _ (n : ℕ) (h : Location) (short : n < 2 ^ 16) (low : address_or h.area h.chain < 2 ^ 20) where
  pub home_array : (code : Bool) (k : Kind) → k ≢ Code → sectors_of_word code (home_word_of k n h) ≡ sectors_for n
  home_array code k ne = grind arith

  pub home_code : sectors_of_word true (home_word_of Code n h) ≡ sectors_for n
  home_code = is_code (home_word_of Code n h) n refl (code_bit (flag_bit (is_present h.area)) n (address_or h.area h.chain) (bit-lt (is_present h.area)) short low) (code_length (flag_bit (is_present h.area)) n (address_or h.area h.chain) (bit-lt (is_present h.area)) short low)

-- what a word of a shape keeps
abbrev pub of_shape : List Tagged → Shape → ℕ
of_shape core (Is v) = 0
of_shape core (Shapes.Original home) = sectors_at false (slice_get core home)
of_shape core (Copy c home) = 0

word_fits : (held : Locations) (core : List Tagged) (c : Shape) (at : ℕ) (w : Tagged) → slice_get core at ≡ Some w → Fits held c at w → sectors_of_word false w ≡ of_shape core c
word_fits held core c at w get f = grind arith

pub lies_total : (held : Locations) (core : List Tagged) (from : ℕ) (xs : List Shape) → LieDownward (Fits held) core from xs → core_sectors_from false core from (length xs) ≡ total (of_shape core) xs
lies_total held core from [] l = refl
lies_total held core from (a ∷ more) l = grind (arith, lies_total held core from more l.1)

pub headed_total : (core : List Tagged) (k : ℕ) (h : Head) (below : List Activation) (under : List Shape) → total (of_shape core) (headed k h below under) ≡ total (of_shape core) under
headed_total core k h below under = grind arith
