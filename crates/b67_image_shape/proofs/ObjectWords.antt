-- Descriptors, areas and numbers of objects, read back.
use Rattle.std.proofs.Common.{◌≡◌, ℕ, zero, suc, ◌+◌, ◌-◌, ◌*◌, ◌/◌, ◌%◌, ◌^◌, ◌<◌, ◌≤◌, Bool, true, false, List, [], ◌∷◌, map, length, Some, refl, sym, ◌∙◌, ap, subst, arith}
use Rattle.std.specs.List.{slice_get}
use Rattle.std.proofs.lemmas.List.{length-replicate}
use Rattle.b67_word.specs.Tagged.{Tagged, word, bits_at}
use Rattle.b67_ctl.specs.Descriptors.{data_word, seg_word}
use Rattle.b67_area.specs.declared.Info.{Info}
use Rattle.b67_area.specs.declared.Kind.{Kind}
use Rattle.b67_area.specs.declared.Kind.TheVariants.{Array, Row, Code}
use Rattle.b67_area.specs.Words.{tail_word}
use Rattle.b67_area.specs.Spans.{Span, area_at}
use Rattle.b67_area.specs.Directory.{IsDirectory}
use Rattle.b67_area.proofs.Keeps.{area_here}
use Rattle.b67_stack.specs.Common.{home_word_of, LieUpward}
use Rattle.b67_layout_shown.specs.Reading.{word_seen_at, desc_in, is_set}
use Rattle.b67_layout_shown.specs.Shown.{numbers_seen, contents_by}
use Rattle.b67_layout_shown.proofs.Stacks.{word_is}
use Rattle.b67_image_shape.specs.Held.{location_by}
use Rattle.b67_image_shape.specs.ObjectMarks.{described}

-- ---- words of core

pub there : (core : List Tagged) (i : ℕ) → i < length core → slice_get core i ≡ Some (word_seen_at core i)
there [] i h = absurd (omega (arith, h))
there (w ∷ ws) zero h = refl
there (w ∷ ws) (suc i) h = there ws i (omega (arith, h))

pub inside : (core : List Tagged) (i : ℕ) (w : Tagged) → slice_get core i ≡ Some w → i < length core
inside [] i w e = absurd (let z : ⊥ = cc in z)
inside (v ∷ ws) zero w e = omega arith
inside (v ∷ ws) (suc i) w e = let h = inside ws i w e in omega (arith, h)

-- ---- descriptors

-- the word that is made again of the fields is that of how the object is held
pub made_again : (core : List Tagged) (kind : Kind) (w : Tagged) → described kind (desc_in w) ≡ home_word_of kind (desc_in w).length (location_by core w (is_set w 47))
made_again core kind w = grind arith

-- ---- numbers

from_length : (core : List Tagged) (at n : ℕ) → length (numbers_seen core at n) ≡ n
from_length core at zero = refl
from_length core at (suc n) = ap suc (from_length core (at + 1) n)

-- as many as the descriptor says
pub contents_length : (core : List Tagged) (n at : ℕ) (p : Bool) → length (contents_by core n at p) ≡ n
contents_length core n at p = grind (arith, from_length, length-replicate)

-- numbers under a tag lie in core exactly if the words have this tag
pub lie_up : (core : List Tagged) (tag at n : ℕ) → at + n ≤ length core → ((j : ℕ) → j < n → (word_seen_at core (at + j)).tag ≡ tag) → LieUpward core at (map (word tag) (numbers_seen core at n))
lie_up core tag at zero h tags = tt
lie_up core tag at (suc n) h tags =
    let z : at + 0 ≡ at = omega arith in
    let first : (word_seen_at core at).tag ≡ tag = subst (λ i. (word_seen_at core i).tag ≡ tag) z (tags 0 (omega arith)) in (
      there core at (omega (arith, h)) ∙ ap (λ t. Some (word t (word_seen_at core at).bits)) first,
      lie_up core tag (at + 1) n (omega (arith, h)) (λ j low. let e : at + suc j ≡ at + 1 + j = omega arith in subst (λ i. (word_seen_at core i).tag ≡ tag) e (tags (suc j) (omega (arith, low)))),
    )

pub up_tags : (core : List Tagged) (tag at n : ℕ) → LieUpward core at (map (word tag) (numbers_seen core at n)) → (j : ℕ) → j < n → (word_seen_at core (at + j)).tag ≡ tag
up_tags core tag at zero l j low = absurd (omega (arith, low))
up_tags core tag at (suc n) l zero low = grind arith
up_tags core tag at (suc n) l (suc j) low = grind (arith, up_tags core tag (at + 1) n l.1 j)

-- ---- areas

tail_kept : (w f : ℕ) → w < 2 ^ 20 → f < 2 ^ 20 → (w * 2 ^ 20 + f) / 2 ^ 0 % 2 ^ 20 ≡ f
tail_kept w f wh fh = omega arith

-- the tail of an area says what it keeps
pub kept_read : (core : List Tagged) (low : ℕ) (ss : List Span) (at : ℕ) (a : Info) → IsDirectory core low ss → area_at low ss at ≡ Some a
    → (bits_at (word_seen_at core (at + a.words)) 0 20 ≡ a.kept) × (at + a.words < length core)
kept_read core low ss at a d e =
    let (one, area) = area_here core low ss at a d e in
    grind (arith, word_is, tail_kept)
