-- Objects that were written to free sectors stand at rest.
use Rattle.std.proofs.Common.{◌≡◌, ℕ, ◌-◌, ◌%◌, ◌<◌, ◌≤◌, ◌^◌, List, [], length, Option, Some, sym, ◌∙◌, ap, subst, arith, inl, ⊎_elim}
use Rattle.std.specs.List.{slice_get}
use Rattle.b67_word.specs.Tagged.{Tagged}
use Rattle.b67_area.specs.declared.Kind.{Kind}
use Rattle.b67_backing.specs.Shelf.{Table, Shelf, IsShelf, first, chain_of}
use Rattle.b67_lemmas.specs.Lists.{Has}
use Rattle.b67_stack.specs.Common.{PagedObject, home_word_of, home_word, Storage, HoldsIn, RepresentsObject, Owned, at_rest}
use Rattle.b67_load.specs.Objects.{sectors_of_objects}
use Rattle.b67_load.specs.StoredObjects.{StoredObject, placed, stocked, DescriptorsStand, WritesFreeSectors}
use Rattle.b67_load.proofs.Shelves.{Apart, placed_chain, placed_object}
use Rattle.b67_session.specs.Stored.{sector_named, absent_storage}
use Rattle.b67_layout.specs.Machine.{content_after}
use Rattle.b67_session.proofs.StoredChains.{first_apart, chain_found, no_zero, chain_begins, placed_length, placed_has, chain_placed, Alone, one_place}

-- objects that were written, from sectors that were all free
pub record Stored (core : List Tagged) (old new : Table) (st : Shelf) (ts : List PagedObject) (before now : Option (List (List ℕ))) : Type 0 where
  pub old_shelf : IsShelf old st
  pub new_shelf : IsShelf new (stocked ts st)
  pub links : length new.links ≡ length old.links
  pub none : st.chains ≡ []
  pub room : sectors_of_objects ts ≤ length st.free
  pub long : (t : PagedObject) → Has ts t → 0 < length t.numbers
  pub descriptors : DescriptorsStand core (placed ts st.free)
  pub stocks : (a : List (List ℕ)) → before ≡ Some a → (b : List (List ℕ)) × (now ≡ Some b) × WritesFreeSectors ts st.free a b

-- the sector that a descriptor names
named : (kind : Kind) (n f : ℕ) → f < 2 ^ 20 → (home_word_of kind n (at_rest f)).bits % 2 ^ 20 ≡ f
named kind n f h = grind arith

module _ (core : List Tagged) (low : ℕ) (old new : Table) (st : Shelf) (ts : List PagedObject) (before now : Option (List (List ℕ))) (stored : Stored core old new st ts before now) where
  abbrev x : Storage
  x = absent_storage core low (stocked ts st) (content_after before now)

  long : (r : StoredObject) → Has (placed ts st.free) r → 1 ≤ length r.chain
  long r h = grind (arith, placed_object, placed_length)

  apart : (r : StoredObject) → Has (placed ts st.free) r → Apart new (stocked ts st) (first r.chain)
  apart r h = first_apart new (stocked ts st) r.chain stored.new_shelf (placed_chain ts st r h)

  small : (r : StoredObject) → Has (placed ts st.free) r → first r.chain < 2 ^ 20
  small r h = omega (arith, (apart r h).high, stored.new_shelf.small)

  alone : (r : StoredObject) → Has (placed ts st.free) r → Alone st.free r
  alone r h = record { some = long r h; once = omega (arith, stored.old_shelf.once (first r.chain) (apart r h).low (omega (arith, (apart r h).high, stored.links))) }

  names : (r : StoredObject) → Has (placed ts st.free) r → sector_named (slice_get core r.object.home) ≡ first r.chain
  names r h = ap sector_named (stored.descriptors r h) ∙ named r.object.kind (length r.object.numbers) (first r.chain) (small r h)

  holds : (r : StoredObject) → Has (placed ts st.free) r → HoldsIn x r.object (first r.chain)
  holds r h = grind (arith, chain_found, placed_chain, apart, placed_length)

  pub object_stands : (t : PagedObject) → Has ts t → RepresentsObject x core t
  object_stands t h =
      let r = placed_has ts st.free t h in
      subst (λ u. RepresentsObject x core u) r.2 (record {
        home = stored.descriptors r.0 r.1 ∙ ap (λ f. Some (home_word r.0.object (at_rest f))) (sym (names r.0 r.1));
        content = inl (subst (λ f. HoldsIn x r.0.object f) (sym (names r.0 r.1)) (holds r.0 r.1));
      })

  chained : (first_sector : ℕ) → 0 < length (chain_of first_sector (stocked ts st).chains) → (t : PagedObject) × Has ts t × ((x.held t.home).chain ≡ first_sector)
  chained c some =
      let b = chain_begins (stocked ts st).chains c some in
      ⊎_elim
      (λ (m : Has st.chains (chain_of c (stocked ts st).chains)). absurd (subst (λ ks. Has ks (chain_of c (stocked ts st).chains)) stored.none m))
      (λ (m : (r : StoredObject) × Has (placed ts st.free) r × (r.chain ≡ chain_of c (stocked ts st).chains)).
      (m.0.object, placed_object ts st.free m.0 m.1, names m.0 m.1 ∙ ap first m.2 ∙ b.1))
      (chain_placed ts st (chain_of c (stocked ts st).chains) b.0)

  one_home : (t u : PagedObject) → Has ts t → Has ts u → (x.held t.home).chain ≡ (x.held u.home).chain → t.home ≡ u.home
  one_home t u h k e =
      let r = placed_has ts st.free t h in
      let q = placed_has ts st.free u k in
      grind (arith, names, one_place, alone)

  pub owned : Owned x ts
  owned = grind (arith, chained, no_zero, one_home)
