-- The words of originals, and why no other word of a stack stands where an original is.
use Rattle.std.proofs.Common.{◌≡◌, ◌≢◌, ℕ, ◌+◌, ◌*◌, ◌<◌, ◌≤◌, ◌^◌, List, length, Option, Some, None, refl, sym, ◌∙◌, ap, arith, inl, inr, Bool, true, false}
use Rattle.std.specs.List.{slice_get}
use Rattle.std.proofs.lemmas.Option.{same_Some}
use Rattle.std.proofs.lemmas.Bool.{false≢true}
use Rattle.b67_word.specs.Tagged.{Tagged}
use Rattle.b67_ctl.specs.Layout.{flag_bit}
use Rattle.b67_ctl.specs.declared.descriptors.DataDesc.{DataDesc}
use Rattle.b67_ctl.specs.declared.registers.Regs.{Regs}
use Rattle.b67_ctl.specs.Descriptors.{data_word, IsDataDesc}
use Rattle.b67_area.specs.declared.Kind.{Kind}
use Rattle.b67_area.specs.declared.Kind.TheVariants.{Array, Row, Code}
use Rattle.b67_area.proofs.Laws.{area_inside}
use Rattle.b67_lemmas.specs.Lists.{Has}
use Rattle.b67_stack.specs.Common.{Location, Shape, Is, Original, Copy, copy_desc, Fits, PagedObject, MachineView, home_word_of, Storage, Content, Represents, info_of}

same_bit : (a b : Bool) → flag_bit a ≡ flag_bit b → a ≡ b
same_bit a b e = grind arith

pub bit-lt : (a : Bool) → flag_bit a < 2
bit-lt a = grind arith

abbrev sum : (p c i r l a : ℕ) → ℕ
sum p c i r l a = p * 2 ^ 47 + c * 2 ^ 46 + i * 2 ^ 45 + r * 2 ^ 43 + l * 2 ^ 20 + a

same_fields : (p c i r l a p' c' i' r' l' a' : ℕ) → p < 2 → c < 2 → i < 2 → r < 2 → l < 2 ^ 20 → a < 2 ^ 20 → p' < 2 → c' < 2 → i' < 2 → r' < 2 → l' < 2 ^ 20 → a' < 2 ^ 20
    → sum p c i r l a ≡ sum p' c' i' r' l' a' → (p ≡ p') × (c ≡ c') × (a ≡ a')
same_fields p c i r l a p' c' i' r' l' a' hp hc hi hr hl ha hp' hc' hi' hr' hl' ha' e = (omega arith, omega arith, omega arith)

-- what two descriptors of one word have in common, as far as it is needed
pub record SameDesc (d e : DataDesc) : Type 0 where
  pub present : d.present ≡ e.present
  pub copy : d.copy ≡ e.copy
  pub address : d.address ≡ e.address

pub same_desc : (d e : DataDesc) → IsDataDesc d → IsDataDesc e → data_word d ≡ data_word e → SameDesc d e
same_desc d e hd he s = grind (arith, bit-lt)

-- the word of an array's original or a segment's descriptor is no copy
home_no_copy : (k : Kind) (n : ℕ) (a : Option ℕ) (f : ℕ) (d : DataDesc) → n < 2 ^ 20 → f < 2 ^ 20 → ((b : ℕ) → a ≡ Some b → b < 2 ^ 20) → IsDataDesc d → home_word_of k n (record { area = a; chain = f }) ≡ data_word d → d.copy ≡ true → ⊥
home_no_copy k n a f d small fits af fd e c = grind arith

pub chain_small : (x : Storage) (core : List Tagged) (t : PagedObject) (a : Option ℕ) (f : ℕ) → Content x core t a f → f < 2 ^ 20
chain_small x core t a f c = grind arith

tag-home : (k : Kind) (n : ℕ) (h : Location) → k ≢ Code → (home_word_of k n h).tag ≡ 5
tag-home k n h ne = grind arith

-- no plain word and no copy stands at a home above slot 0
pub not_home : (x : Storage) (core : List Tagged) (r : Regs) (p : MachineView) (c : Shape) (w : Tagged) (i : ℕ) → Represents x core r p → p.stacks ≤ i → slice_get core i ≡ Some w → Fits x.held c i w → ((home : ℕ) → c ≢ Original home)
    → (t : PagedObject) → Has p.objects t → t.home ≢ i
not_home x core r p c w i s low get fit plain t int e = by_shape c fit plain where
  no_code : t.kind ≢ Code
  no_code z = omega (arith, s.slots.laid.codes t int z, e, low)

  is : w ≡ home_word_of t.kind (length t.numbers) (x.held t.home)
  is = same_Some _ _ (sym get ∙ ap (slice_get core) (sym e) ∙ (s.objects t int).home)

  area_small : (b : ℕ) → (x.held t.home).area ≡ Some b → b < 2 ^ 20
  area_small b q =
      let o = s.owned.of_held t.home b q in
      omega (arith, (area_inside core x.low x.spans b (info_of x o.0) s.directory o.3).1, s.directory.small)

  by_shape : (d : Shape) → Fits x.held d i w → ((home : ℕ) → d ≢ Original home) → ⊥
  by_shape (Is v) f n = f.1 (ap (λ (z : Tagged). z.tag) (sym f.0 ∙ is) ∙ tag-home t.kind (length t.numbers) (x.held t.home) no_code)
  by_shape (Original home) f n = n home refl
  by_shape (Copy d home) f n = home_no_copy t.kind (length t.numbers) (x.held t.home).area (x.held t.home).chain (copy_desc d f.number f.present f.address) (omega (arith, (s.slots.laid.lengths t int).1)) (chain_small x core t (x.held t.home).area (x.held t.home).chain (s.objects t int).content) area_small f.fits (sym is ∙ f.is) refl
