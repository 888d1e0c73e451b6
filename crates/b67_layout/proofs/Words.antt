-- The words of stacks where one original's word is another.
use Rattle.std.proofs.Common.{◌≡◌, ◌≢◌, ℕ, suc, ◌<◌, ◌≤◌, ◌^◌, List, length, Option, Some, None, refl, sym, ◌∙◌, ap, arith, ⊎_elim, Bool, true, false, subst}
use Rattle.std.specs.Prelude.{MatchBool}
use Rattle.std.specs.List.{slice_get}
use Rattle.std.proofs.lemmas.Option.{none-some}
use Rattle.std.proofs.lemmas.Bool.{cases_eq, false≢true}
use Rattle.b67_word.specs.Tagged.{Tagged}
use Rattle.b67_area.specs.declared.Kind.{Kind}
use Rattle.b67_area.specs.declared.Kind.TheVariants.{Array, Row, Code}
use Rattle.b67_ctl.specs.declared.registers.Regs.{Regs}
use Rattle.b67_lemmas.specs.Lists.{Has}
use Rattle.b67_stack.specs.Common.{Location, Locations, Shape, Is, Original, Copy, IsOriginal, Fits, words, PagedObject, MachineView, stack_of, slot_base, home_desc, home_word, home_word_of, Storage, StacksLie, Represents, with_held}
use Rattle.b67_stack.proofs.Homes.{not_home, chain_small}
use Rattle.b67_stack.proofs.Lies.{Lie-each}
use Rattle.b67_stack.proofs.Helds.{held-other}
use Rattle.b67_stack.proofs.Unchanged.{slot_below, area_bounds}

-- the word of an array's or data row's original
pub original_word : (k : Kind) (n : ℕ) (h : Location) → k ≢ Code → n < 2 ^ 20 → h.chain < 2 ^ 20 → ((b : ℕ) → h.area ≡ Some b → b < 2 ^ 20) → IsOriginal (home_word_of k n h)
original_word k n h no_code few small area = by k no_code where
  address : (o : Option ℕ) → ((b : ℕ) → o ≡ Some b → b < 2 ^ 20) → (read_only : Bool) → IsOriginal (home_word_of Array n (record { area = o; chain = h.chain })) × IsOriginal (home_word_of Row n (record { area = o; chain = h.chain }))
  address None f b = (
    record { desc = home_desc false n (record { area = None; chain = h.chain }); fits = record { words = few; address = small; indexed = λ z. absurd (false≢true z) }; own = refl; is = refl },
    record { desc = home_desc true n (record { area = None; chain = h.chain }); fits = record { words = few; address = small; indexed = λ z. absurd (false≢true z) }; own = refl; is = refl },
  )
  address (Some a) f b = (
    record { desc = home_desc false n (record { area = Some a; chain = h.chain }); fits = record { words = few; address = f a refl; indexed = λ z. absurd (false≢true z) }; own = refl; is = refl },
    record { desc = home_desc true n (record { area = Some a; chain = h.chain }); fits = record { words = few; address = f a refl; indexed = λ z. absurd (false≢true z) }; own = refl; is = refl },
  )

  by : (k : Kind) → k ≢ Code → IsOriginal (home_word_of k n h)
  by Array ne = (address h.area area false).0
  by Row ne = (address h.area area false).1
  by Code ne = absurd (ne refl)

-- a copy of another array
pub copy_other : (held : Locations) (home : ℕ) (h : Location) (a : Shape) (i : ℕ) (v : Tagged) → ((b : ℕ) → (held home).area ≡ Some b → ⊥) → Fits held a i v → Fits (with_held held home h) a i v
copy_other held home h (Is u) i v absent f = f
copy_other held home h (Original q) i v absent f = f
copy_other held home h (Copy c q) i v absent f = record { number = f.number; numbered = f.numbered; present = f.present; address = f.address; fits = f.fits; is = f.is; to = by f.present f.to } where
  by : (b : Bool) → MatchBool b ((held q).area ≡ Some f.address) (f.address ≡ q) → MatchBool b ((with_held held home h q).area ≡ Some f.address) (f.address ≡ q)
  by false e = e
  by true e = ap (λ (g : Location). g.area) (held-other held home h q (λ z. absent f.address (ap (λ n. (held n).area) (sym z) ∙ e))) ∙ e

module _ (x : Storage) (core : List Tagged) (r : Regs) (p : MachineView) (s : Represents x core r p) (t : PagedObject) (int : Has p.objects t) where
  -- what stands at an original's address is that original
  pub shape_home : (a : Shape) (i : ℕ) (v : Tagged) → i ≡ t.home → p.stacks ≤ i → slice_get core i ≡ Some v → Fits x.held a i v → (q : ℕ) × (a ≡ Original q) × (i ≡ q)
  shape_home (Is u) i v e low get f = absurd (not_home x core r p (Is u) v i s low get f (λ q z. let b : ⊥ = cc in b) t int (sym e))
  shape_home (Original q) i v e low get f = (q, refl, f.0)
  shape_home (Copy c q) i v e low get f = absurd (not_home x core r p (Copy c q) v i s low get f (λ n z. let b : ⊥ = cc in b) t int (sym e))

  -- a word above slot 0 that is an original's is one of an array
  pub no_code_above : p.stacks ≤ t.home → t.kind ≢ Code
  no_code_above low e = omega (arith, s.slots.laid.codes t int e)

  -- the words of the stacks, where an absent object is held otherwise
  pub StacksLie-home : (new : List Tagged) (h : Location) (w : Tagged) → (x.held t.home).area ≡ None
      → ((i : ℕ) → 160 ≤ i → i < x.low → i ≢ t.home → slice_get new i ≡ slice_get core i)
      → slice_get new t.home ≡ Some w → (t.kind ≢ Code → IsOriginal w)
      → StacksLie (with_held x.held t.home h) new p
  StacksLie-home new h w absent below home original k hk = Lie-each (Fits x.held) (Fits (with_held x.held t.home h)) core new (suc (slot_base p k)) (words k (stack_of (p.slots k)))
      (λ a i v there low high get f. ⊎_elim
      (λ (e : i ≡ t.home).
      let is = shape_home a i v e (omega arith) get f in
      let o : IsOriginal w = original (no_code_above (omega arith)) in
      let r : (u : Tagged) × (slice_get new i ≡ Some u) × Fits (with_held x.held t.home h) (Original is.0) i u = (w, ap (slice_get new) e ∙ home, (is.2, o)) in
      let P : Shape → Type 0 = λ b. (u : Tagged) × (slice_get new i ≡ Some u) × Fits (with_held x.held t.home h) b i u in
      subst P (sym is.1) r)
      (λ (n : i ≡ t.home → ⊥). (v, below i (omega (arith, (slot_below x core r p s k hk).0)) ((slot_below x core r p s k hk).1 i (omega arith) high) n ∙ get, copy_other x.held t.home h a i v (λ b e. none-some b (sym absent ∙ e)) f))
      (cases_eq i t.home))
      (s.stacks k hk)

  -- the original of any array or data row
  pub original_of_home : t.kind ≢ Code → IsOriginal (home_word t (x.held t.home))
  original_of_home no_code = original_word t.kind (length t.numbers) (x.held t.home) no_code (omega (arith, (s.slots.laid.lengths t int).1)) (chain_small x core t (x.held t.home).area (x.held t.home).chain (s.objects t int).content)
      (λ b e. omega (arith, (area_bounds x core r p s t int b e).1, s.directory.small))
