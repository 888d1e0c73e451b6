-- The words that came into an area are those of the object.
use Rattle.std.proofs.Common.{◌≡◌, ◌≢◌, ℕ, zero, suc, ◌+◌, ◌*◌, ◌%◌, ◌<◌, ◌≤◌, ◌^◌, List, [], ◌∷◌, length, map, option_map, Option, Some, None, Result, OnOk, refl, sym, ◌∙◌, ap, arith, inl, inr, ◌⊎◌, ⊎_elim, subst}
use Rattle.std.specs.List.{slice_get}
use Rattle.std.proofs.lemmas.List.{length-map}
use Rattle.std.proofs.lemmas.Option.{same_Some}
use Rattle.b67_word.specs.Common.{Tagged, word, number}
use Rattle.b67_area.specs.declared.Areas.{Areas}
use Rattle.b67_area.specs.declared.Kind.TheVariants.{Array}
use Rattle.b67_backing.proofs.Fills.{Fills-holds}
use Rattle.b67_backing.specs.Shelf.{Shelf, Table, HasChain, chain_of}
use Rattle.b67_backing.specs.Held.{AreTagged, Tells, sectors_for, under, Holds}
use Rattle.b67_stack.specs.declared.Cpu.{Cpu}
use Rattle.b67_stack.specs.Common.{LieUpward, PagedObject, MachineView, object_words, tag_of, AreZero, Storage, Content, AbsentContent, HoldsIn, Told}
use Rattle.b67_layout.specs.Machine.{Says, IsAbsent, AreBits}
use Rattle.b67_overlay.specs.Spans.{MachineCanPage}
use Rattle.b67_presence.specs.declared.paging.AbsentObject.{AbsentObject}
use Rattle.b67_presence.specs.Brought.{Loaded, resting, NumbersAreKnown}

-- words that were read from a chain, with the tag of the object's kind
pub loaded : {D T E : Type 0} (tell : D → Option (List (List ℕ))) (device : D) (table : Table) (at : ℕ) (object : AbsentObject) (new : List Tagged) (tag : ℕ) (result : Result T E) → tag ≡ tag_of object.kind → object.first ≢ 0
    → OnOk result ((st : Shelf) → HasChain table st object.first (sectors_for object.words) → Tells tell device (λ all. (numbers : List ℕ) → length numbers ≡ object.words → Holds all (chain_of object.first st.chains) 0 numbers
    → (i : ℕ) → i < object.words → slice_get new (at + i) ≡ option_map (under tag) (slice_get numbers i)))
    → OnOk result (AreTagged new at object.words tag) → OnOk result (Loaded (tell device) table at object new)
loaded tell device table at object new tag result is some gives words = grind arith

zeros_up : (core : List Tagged) (at : ℕ) (ns : List ℕ) → AreZero ns → ((i : ℕ) → at ≤ i → i < at + length ns → slice_get core i ≡ Some (word 0 0)) → LieUpward core at (map (word 0) ns)
zeros_up core at [] z f = tt
zeros_up core at (n ∷ ns) z f = (f at (omega arith) (omega arith) ∙ ap (λ (m : ℕ). Some (word 0 m)) (sym z.0), zeros_up core (at + 1) ns z.1 (λ i low high. f i (omega arith) (omega arith)))

low_bits : (tag n : ℕ) → n < 2 ^ 48 → (tag * 2 ^ 48 + n) % 2 ^ 48 ≡ n
low_bits tag n h = omega arith

told_up : (core : List Tagged) (at tag : ℕ) (ns : List ℕ) → AreBits ns → ((i : ℕ) → i < length ns → slice_get core (at + i) ≡ option_map (under tag) (slice_get (map number (map (word tag) ns)) i)) → LieUpward core at (map (word tag) ns)
told_up core at tag [] b f = tt
told_up core at tag (n ∷ ns) b f =
    let here : at + 0 ≡ at = omega arith in (
      ap (slice_get core) (sym here) ∙ f 0 (omega arith) ∙ ap (λ (m : ℕ). Some (word tag m)) (low_bits tag n b.0),
      told_up core (at + 1) tag ns b.1 (λ i low. ap (slice_get core) (let e : at + 1 + i ≡ at + suc i = omega arith in e) ∙ f (suc i) (omega arith)),
    )

-- the bits of the word at an address are those of the word that is known there
bits_there : (core : List Tagged) (at : ℕ) (w v : Tagged) → slice_get core at ≡ Some w → slice_get core at ≡ Some v → v.bits < 2 ^ 48 → w.bits < 2 ^ 48
bits_there core at w v e f small = let P : Tagged → Type 0 = λ u. u.bits < 2 ^ 48 in subst P (same_Some v w (sym f ∙ e)) small

-- words of one tag, as numbers
collected : (core : List Tagged) (tag n at : ℕ) → ((i : ℕ) → i < n → (w : Tagged) × (slice_get core (at + i) ≡ Some w) × (w.tag ≡ tag))
    → ((i : ℕ) → i < n → (w : Tagged) × (slice_get core (at + i) ≡ Some w) × (w.bits < 2 ^ 48)) → (ns : List ℕ) × (length ns ≡ n) × AreBits ns × LieUpward core at (map (word tag) ns)
collected core tag zero at f g = ([], refl, tt, tt)
collected core tag (suc n) at f g =
    let next : (i : ℕ) → at + 1 + i ≡ at + suc i = λ i. omega arith in
    let w = f 0 (omega arith) in
    let v = g 0 (omega arith) in
    let more = collected core tag n (at + 1) (λ i low. let v = f (suc i) (omega arith) in (v.0, ap (slice_get core) (next i) ∙ v.1, v.2)) (λ i low. let v = g (suc i) (omega arith) in (v.0, ap (slice_get core) (next i) ∙ v.1, v.2)) in
    let is : w.0 ≡ word tag w.0.bits = ap (λ (t : ℕ). word t w.0.bits) w.2 in
    (w.0.bits ∷ more.0, ap suc more.1, (bits_there core (at + 0) w.0 v.0 w.1 v.1 v.2, more.2), (ap (slice_get core) (let e : at ≡ at + 0 = omega arith in e) ∙ w.1 ∙ ap Some is, more.3))

zeros_bits : (ns : List ℕ) → AreZero ns → AreBits ns
zeros_bits [] z = tt
zeros_bits (n ∷ ns) z = (omega (arith, z.0), zeros_bits ns z.1)

what_is_told : (d told : Option (List (List ℕ))) (chain ns : List ℕ) → Says d told → d ≢ None → Told d chain ns → (all : List (List ℕ)) × (told ≡ Some all) × Holds all chain 0 ns
what_is_told d told chain ns s n h = grind (arith, Fills-holds)

module _ (x : Storage) (cpu : Cpu) (areas : Areas) (table : Table) (told : Option (List (List ℕ))) (p : MachineView) (home : ℕ) (t : PagedObject) (m : MachineCanPage x cpu areas table told p) (a : IsAbsent x p home t) where
  abbrev first : ℕ
  first = (x.held t.home).chain

  rests : AbsentContent x t first
  rests = let C : Option ℕ → Type 0 = λ o. Content x cpu.core t o first in subst C (ap (λ q. (x.held q).area) a.is ∙ a.absent) (m.stands.objects t a.there).content

  has_chain : HoldsIn x t first → HasChain table x.shelf first (sectors_for (length t.numbers))
  has_chain h = record { shelf = m.shelf; many = h.chain.sectors }

  -- what is to be read from
  pub chain_at : (first ≡ 0) ⊎ ((st : Shelf) × HasChain table st first (sectors_for (length t.numbers)))
  chain_at = ⊎_elim (λ (h : HoldsIn x t first). inr (x.shelf, has_chain h)) (λ (z : (first ≡ 0) × (t.kind ≡ Array) × AreZero t.numbers). inl z.0) rests

  module _ (at : ℕ) (new : List Tagged) (l : Loaded told table at (resting x t) new) where
    untouched : (first ≡ 0) × (t.kind ≡ Array) × AreZero t.numbers → LieUpward new at (object_words t)
    untouched z = grind (arith, zeros_up)

    pub known_words : NumbersAreKnown x t → LieUpward new at (object_words t)
    known_words k = grind (arith, length-map, what_is_told, told_up, untouched, rests)

    pub some_words : (ns : List ℕ) × (length ns ≡ length t.numbers) × AreBits ns × LieUpward new at (map (word (tag_of t.kind)) ns) × ((0 < first) ⊎ (ns ≡ t.numbers))
    some_words = ⊎_elim
        (λ (h : HoldsIn x t first). let c = collected new (tag_of t.kind) (length t.numbers) at (l.tagged (λ z. omega (arith, h.chain.some))).tags (l.tagged (λ z. omega (arith, h.chain.some))).low in
        let r : (ns : List ℕ) × (length ns ≡ length t.numbers) × AreBits ns × LieUpward new at (map (word (tag_of t.kind)) ns) × ((0 < first) ⊎ (ns ≡ t.numbers)) = (c.0, c.1, c.2, c.3, inl h.chain.some) in r)
        (λ (z : (first ≡ 0) × (t.kind ≡ Array) × AreZero t.numbers).
        let r : (ns : List ℕ) × (length ns ≡ length t.numbers) × AreBits ns × LieUpward new at (map (word (tag_of t.kind)) ns) × ((0 < first) ⊎ (ns ≡ t.numbers)) = (t.numbers, refl, zeros_bits t.numbers z.2, untouched z, inr refl) in r)
        rests
