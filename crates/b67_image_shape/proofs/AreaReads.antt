-- What the words at the place of the walk say.
use Rattle.std.proofs.Common.{◌≡◌, ◌≢◌, ℕ, ◌+◌, ◌-◌, ◌*◌, ◌^◌, ◌<◌, ◌≤◌, true, false, List, length, get_or, Some, sym, ◌∙◌, ap, subst, arith}
use Rattle.std.specs.List.{slice_get}
use Rattle.std.proofs.lemmas.Bool.{eq-eqb, eqb-true}
use Rattle.std.proofs.lemmas.List.{get_or_past}
use Rattle.std.proofs.lemmas.Option.{same_Some}
use Rattle.b67_word.specs.Tagged.{Tagged, word, bits_at}
use Rattle.b67_area.specs.declared.Info.{Info}
use Rattle.b67_area.specs.declared.Kind.{Kind}
use Rattle.b67_area.specs.declared.Kind.TheVariants.{Array, Row, Code}
use Rattle.b67_area.specs.Words.{link_word, hole_high, head_word, tail_word}
use Rattle.b67_area.specs.Walk.{IsArea}
use Rattle.b67_layout_shown.specs.Reading.{word_seen_at}
use Rattle.b67_layout_shown.specs.Areas.{kind_in, info_in}
use Rattle.b67_layout_shown.proofs.Stacks.{word_is}
use Rattle.b67_image_shape.specs.declared.areas.Walk.{Walk}
use Rattle.b67_image_shape.specs.ObjectMarks.{kind_code, AreaFits}
use Rattle.b67_image_shape.specs.AreaWalk.{hole_words, HoleStands, past_hole}

-- a field of the word at an address
pub field_is : (core : List Tagged) (at : ℕ) (w : Tagged) (low width n : ℕ) → slice_get core at ≡ Some w → n ≡ bits_at w low width → bits_at (word_seen_at core at) low width ≡ n
field_is core at w low width n e b = ap (λ (v : Tagged). bits_at v low width) (word_is core at w e) ∙ sym b

-- ---- words

pub same_bits : (w : Tagged) (tag bits t b : ℕ) → t ≡ w.tag → b ≡ w.bits → t ≡ tag → b ≡ bits → w ≡ word tag bits
same_bits w tag bits t b te be et eb = ap (λ i. word i w.bits) (sym te ∙ et) ∙ ap (λ i. word tag i) (sym be ∙ eb)

pub other_tag : (w : Tagged) (tag bits t : ℕ) → t ≡ w.tag → t ≢ tag → w ≡ word tag bits → ⊥
other_tag w tag bits t te ne e = ne (te ∙ ap (λ (v : Tagged). v.tag) e)

pub other_bits : (w : Tagged) (tag bits b : ℕ) → b ≡ w.bits → b ≢ bits → w ≡ word tag bits → ⊥
other_bits w tag bits b be ne e = ne (be ∙ ap (λ (v : Tagged). v.bits) e)

pub link_is : (core : List Tagged) (before high next m : ℕ) (w : Tagged) → m ≡ next → slice_get core before ≡ Some w → w ≡ word 3 (high * 1048576 + m) → slice_get core before ≡ Some (link_word high next)
link_is core before high next m w me e is = e ∙ ap Some is ∙ ap (λ k. Some (link_word high k)) me

pub no_link : (core : List Tagged) (before high next m : ℕ) (w : Tagged) → m ≡ next → slice_get core before ≡ Some w → (w ≡ word 3 (high * 1048576 + m) → ⊥) → slice_get core before ≡ Some (link_word high next) → ⊥
no_link core before high next m w me e never is = never (same_Some w (link_word high m) (sym e ∙ is ∙ ap (λ k. Some (link_word high k)) (sym me)))

-- ---- holes

pub hole_made : (core : List Tagged) (w : Walk) (n m : ℕ) → m ≡ n → hole_words core w ≡ n → w.hole ≡ false → n ≢ 0 → n ≤ length core - w.at → w.at < length core → slice_get core w.before ≡ Some (link_word w.high w.at)
    → HoleStands core w × (record { before = w.at; high = 201326592 + m; at = w.at + n; hole = true } ≡ past_hole core w)
hole_made core w n m me e first some room inside link = grind arith

pub after_hole : (core : List Tagged) (w : Walk) → w.hole ≡ true → HoleStands core w → ⊥
after_hole core w e s = let z : true ≡ false = sym e ∙ s.first in let y : ⊥ = cc in y

pub empty_hole : (core : List Tagged) (w : Walk) (n : ℕ) → hole_words core w ≡ n → n ≡ 0 → HoleStands core w → ⊥
empty_hole core w n e z s = let some = s.some in omega (arith, e, z, some)

pub long_hole : (core : List Tagged) (w : Walk) (n : ℕ) → hole_words core w ≡ n → length core - w.at < n → HoleStands core w → ⊥
long_hole core w n e more s = let fits = subst (λ k. w.at + k ≤ length core) e s.fits in omega (arith, more, fits)

-- ---- areas

-- what is read of an area's words
pub info_made : (core : List Tagged) (at : ℕ) (head tail : Tagged) (kind : Kind) (k words owner kept : ℕ) → slice_get core at ≡ Some head → slice_get core (at + (words + 1)) ≡ Some tail
    → kind ≡ kind_in k → k ≡ bits_at head 46 2 → words ≡ bits_at head 20 20 → owner ≡ bits_at head 0 20 → kept ≡ bits_at tail 0 20
    → record { kind = kind; words = words; owner = owner; kept = kept } ≡ info_in core at
info_made core at head tail kind k words owner kept h t ke kb we oe fe = grind arith

-- the words of an area
pub area_made : (core : List Tagged) (at : ℕ) (a : Info) (head tail : Tagged) → a ≡ info_in core at → slice_get core at ≡ Some head → slice_get core (at + (a.words + 1)) ≡ Some tail
    → 1 ≤ a.words → a.words < 2 ^ 20 → a.owner < 2 ^ 20 → a.kept < 2 ^ 20 → at + (a.words + 1) < length core → length core < 2 ^ 20 → head ≡ head_word a → tail ≡ tail_word a → IsArea core at (info_in core at)
area_made core at a head tail is h t some few owner kept room small he te = grind arith

pub empty_area : (core : List Tagged) (at : ℕ) (w : Tagged) (n : ℕ) → slice_get core at ≡ Some w → n ≡ bits_at w 20 20 → n ≡ 0 → IsArea core at (info_in core at) → ⊥
empty_area core at w n e b z a = let some = a.info.words in let f = field_is core at w 20 20 n e b in omega (arith, some, f, z)

pub long_area : (core : List Tagged) (at : ℕ) (w : Tagged) (n : ℕ) → slice_get core at ≡ Some w → n ≡ bits_at w 20 20 → length core - at ≤ n + 1 → IsArea core at (info_in core at) → ⊥
long_area core at w n e b more a = grind arith

pub other_head : (core : List Tagged) (at : ℕ) (a : Info) (head again : Tagged) (t b : ℕ) → a ≡ info_in core at → slice_get core at ≡ Some head → again ≡ head_word a → t ≡ again.tag → b ≡ again.bits → (head ≡ word t b → ⊥) → IsArea core at (info_in core at) → ⊥
other_head core at a head again t b is h ag te be never area = grind arith

pub other_tail : (core : List Tagged) (at : ℕ) (a : Info) (tail again : Tagged) (t b : ℕ) → a ≡ info_in core at → slice_get core (at + (a.words + 1)) ≡ Some tail → again ≡ tail_word a → t ≡ again.tag → b ≡ again.bits → (tail ≡ word t b → ⊥) → IsArea core at (info_in core at) → ⊥
other_tail core at a tail again t b is h ag te be never area = grind arith

pub again_is : (w again v : Tagged) (t b : ℕ) → again ≡ v → t ≡ again.tag → b ≡ again.bits → w ≡ word t b → w ≡ v
again_is w again v t b ag te be e = e ∙ ap (λ i. word i b) te ∙ ap (λ i. word again.tag i) be ∙ ag

-- ---- owners

pub owner_fits : (core : List Tagged) (kinds : List ℕ) (at : ℕ) (a : Info) (d : Tagged) (p q n : ℕ) → get_or kinds a.owner 0 ≡ kind_code a.kind → slice_get core a.owner ≡ Some d
    → p ≡ bits_at d 47 1 → p ≡ 1 → q ≡ bits_at d 0 20 → q ≡ at → n ≡ bits_at d 20 20 → n ≡ a.words → AreaFits core kinds at a
owner_fits core kinds at a d p q n owner e pb pe qb qe nb ne = grind arith

pub owner_past : (core : List Tagged) (kinds : List ℕ) (at : ℕ) (a : Info) → length kinds ≡ length core → length core ≤ a.owner → AreaFits core kinds at a → ⊥
owner_past core kinds at a many past f = grind (arith, get_or_past)

pub owner_absent : (core : List Tagged) (kinds : List ℕ) (at : ℕ) (a : Info) (d : Tagged) (p : ℕ) → slice_get core a.owner ≡ Some d → p ≡ bits_at d 47 1 → p ≢ 1 → AreaFits core kinds at a → ⊥
owner_absent core kinds at a d p e pb ne f = ne (sym (field_is core a.owner d 47 1 p e pb) ∙ eqb-true (bits_at (word_seen_at core a.owner) 47 1) 1 f.present)

pub owner_elsewhere : (core : List Tagged) (kinds : List ℕ) (at : ℕ) (a : Info) (d : Tagged) (q : ℕ) → slice_get core a.owner ≡ Some d → q ≡ bits_at d 0 20 → q ≢ at → AreaFits core kinds at a → ⊥
owner_elsewhere core kinds at a d q e qb ne f = ne (sym (field_is core a.owner d 0 20 q e qb) ∙ f.address)

pub owner_other : (core : List Tagged) (kinds : List ℕ) (at : ℕ) (a : Info) (d : Tagged) (n : ℕ) → slice_get core a.owner ≡ Some d → n ≡ bits_at d 20 20 → n ≢ a.words → AreaFits core kinds at a → ⊥
owner_other core kinds at a d n e nb ne f = ne (sym (field_is core a.owner d 20 20 n e nb) ∙ f.words)
