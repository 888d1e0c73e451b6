-- A chain that is given back, and the chains that stay.
use Rattle.std.proofs.Common.{◌≡◌, ◌≢◌, ℕ, ◌^◌, ◌<◌, ◌≤◌, ◌==◌, ◌⊎◌, List, [], length, Option, Some, None, refl, sym, ◌∙◌, ap, arith, inl, inr, ⊎_elim, subst, slice_set, if◌then◌else◌}
use Rattle.std.specs.List.{slice_get}
use Rattle.std.proofs.lemmas.Bool.{cond-false, ne_eqb}
use Rattle.b67_word.specs.Tagged.{Tagged}
use Rattle.b67_backing.specs.Shelf.{Table, Shelf, IsShelf, chain_of, given}
use Rattle.b67_backing.specs.Held.{sectors_for}
use Rattle.b67_backing.proofs.News.{chain_of-given}
use Rattle.b67_lemmas.specs.Lists.{Has}
use Rattle.b67_ctl.specs.declared.registers.Regs.{Regs}
use Rattle.b67_ctl.specs.declared.descriptors.DataDesc.{DataDesc}
use Rattle.b67_ctl.specs.Descriptors.{data_word, IsDataDesc}
use Rattle.b67_area.specs.declared.Kind.{Kind}
use Rattle.b67_area.specs.declared.Kind.TheVariants.{Array}
use Rattle.b67_stack.specs.Common.{Location, PagedObject, MachineView, home_desc, home_word_of, Storage, Represents, ObjectHasChain, ChainStays}
use Rattle.b67_stack.proofs.Homes.{chain_small}
use Rattle.b67_stack.proofs.Unchanged.{area_bounds}
use Rattle.b67_layout.proofs.Chained.{Content-chain}
use Rattle.b67_mcp.specs.Lengths.{IsArray, IsChain, freed_chain}

pub freed_some : (s : Shelf) (first : ℕ) → first ≢ 0 → freed_chain first s ≡ given first s
freed_some s first n = cond-false (first == 0) s (given first s) (ne_eqb first 0 n)

module _ (x : Storage) (core : List Tagged) (r : Regs) (p : MachineView) (s : Represents x core r p) (t : PagedObject) (int : Has p.objects t) where
  abbrev kept : ℕ
  kept = (x.held t.home).chain

  pub chain_or : (u : PagedObject) → Has p.objects u → ((x.held u.home).chain ≡ 0) ⊎ ObjectHasChain x u (x.held u.home).chain
  chain_or u inu = Content-chain x core u (x.held u.home).area (x.held u.home).chain (s.objects u inu).content

  some_sectors : (n : ℕ) → 0 < n → 1 ≤ sectors_for n
  some_sectors n h = omega arith

  pub is_chain : IsChain x.shelf (x.held t.home).chain
  is_chain = ⊎_elim inl (λ (h : ObjectHasChain x t (x.held t.home).chain). inr (omega (arith, h.sectors, some_sectors (length t.numbers) (s.slots.laid.lengths t int).0))) (chain_or t int)

  module _ (table : Table) (sh : IsShelf table x.shelf) where
    -- what is left of the chains
    left_of : (f : ℕ) → kept ≢ 0 → chain_of f (freed_chain (x.held t.home).chain x.shelf).chains ≡ (if (x.held t.home).chain == f then [] else chain_of f x.shelf.chains)
    left_of f n = grind (arith, is_chain, freed_some, chain_of-given)

    pub stays_left : (f : ℕ) → kept ≢ f → chain_of f (freed_chain (x.held t.home).chain x.shelf).chains ≡ chain_of f x.shelf.chains
    stays_left f m = grind (arith, left_of, ne_eqb)

    pub no_zero_left : chain_of 0 (freed_chain (x.held t.home).chain x.shelf).chains ≡ []
    no_zero_left = grind (arith, stays_left)

    pub of_left : (f : ℕ) → 0 < length (chain_of f (freed_chain (x.held t.home).chain x.shelf).chains) → (0 < length (chain_of f x.shelf.chains)) × (f ≢ (x.held t.home).chain)
    of_left f some = grind (arith, left_of)

    pub other_left : (y : Storage) → y.shelf ≡ freed_chain (x.held t.home).chain x.shelf → y.device ≡ x.device → (u : PagedObject) → Has p.objects u → u.home ≢ t.home → ChainStays x y (x.held u.home).chain
    other_left y e d u inu m = grind (arith, stays_left)

-- the word of an array's original
pub original_is : (x : Storage) (core : List Tagged) (r : Regs) (p : MachineView) → Represents x core r p → (t : PagedObject) (home : ℕ) → IsArray p home t
    → IsDataDesc (home_desc Rattle.std.specs.Prelude.false (length t.numbers) (x.held t.home)) × (slice_get core home ≡ Some (data_word (home_desc Rattle.std.specs.Prelude.false (length t.numbers) (x.held t.home))))
original_is x core r p s t home a =
    let o = s.objects t a.there in
    let small = chain_small x core t (x.held t.home).area (x.held t.home).chain o.content in
    let few = (s.slots.laid.lengths t a.there).1 in
    let W : Kind → Type 0 = λ k. slice_get core t.home ≡ Some (home_word_of k (length t.numbers) (x.held t.home)) in
    (fits (x.held t.home).area (x.held t.home).chain small few (λ b e. let q = area_bounds x core r p s t a.there b e in omega (arith, q.1, s.directory.small)), ap (slice_get core) (sym a.is) ∙ subst W a.kind o.home) where
      fits : (o : Option ℕ) (c : ℕ) → c < 2 ^ 20 → length t.numbers < 2 ^ 16 → ((b : ℕ) → o ≡ Some b → b < 2 ^ 20) → IsDataDesc (home_desc Rattle.std.specs.Prelude.false (length t.numbers) (record { area = o; chain = c }))
      fits None c small few h = record { words = omega arith; address = small; indexed = λ z. absurd (Rattle.std.proofs.lemmas.Bool.false≢true z) }
      fits (Some b) c small few h = record { words = omega arith; address = h b refl; indexed = λ z. absurd (Rattle.std.proofs.lemmas.Bool.false≢true z) }

-- what is read of it
pub original_read : (x : Storage) (core : List Tagged) (r : Regs) (p : MachineView) → Represents x core r p → (t : PagedObject) (home : ℕ) → IsArray p home t → (d : DataDesc) → ((e : DataDesc) → IsDataDesc e → slice_get core home ≡ Some (data_word e) → d ≡ e)
    → d ≡ home_desc Rattle.std.specs.Prelude.false (length t.numbers) (x.held t.home)
original_read x core r p s t home a d reads = let o = original_is x core r p s t home a in reads (home_desc Rattle.std.specs.Prelude.false (length t.numbers) (x.held t.home)) o.0 o.1

pub read_present : (h : Location) (n : ℕ) (d : DataDesc) → d ≡ home_desc Rattle.std.specs.Prelude.false n h → d.present ≡ Rattle.std.specs.Prelude.true → h.area ≡ Some d.address
read_present h n d e there = grind arith

pub read_absent : (h : Location) (n : ℕ) (d : DataDesc) → d ≡ home_desc Rattle.std.specs.Prelude.false n h → d.present ≡ Rattle.std.specs.Prelude.false → (h.area ≡ None) × (d.address ≡ h.chain)
read_absent h n d e there = grind arith

-- core with an original's word
pub set_original : (mid new : List Tagged) (home n : ℕ) (h : Location) (t : PagedObject) (e : DataDesc) (w : Tagged) → t.home ≡ home → t.kind ≡ Array → e ≡ home_desc Rattle.std.specs.Prelude.false n h → w ≡ data_word e → new ≡ slice_set mid home w → new ≡ slice_set mid t.home (home_word_of t.kind n h)
set_original mid new home n h t e w is array d word_is set = grind arith
