-- What the descriptor of an absent object tells.
use Rattle.std.proofs.Common.{◌≡◌, ◌≢◌, ℕ, ◌<◌, ◌^◌, List, length, Option, Some, None, refl, sym, ◌∙◌, ap, arith, Bool, true, false, if◌then◌else◌, subst}
use Rattle.std.specs.List.{slice_get}
use Rattle.std.proofs.lemmas.Option.{same_Some}
use Rattle.std.proofs.lemmas.Bool.{false≢true}
use Rattle.b67_word.specs.Tagged.{Tagged}
use Rattle.b67_ctl.specs.declared.descriptors.DataDesc.{DataDesc}
use Rattle.b67_ctl.specs.declared.descriptors.SegDesc.{SegDesc}
use Rattle.b67_ctl.specs.declared.registers.Regs.{Regs}
use Rattle.b67_ctl.specs.Descriptors.{data_word, seg_word, IsDataDesc, IsSegDesc}
use Rattle.b67_area.specs.declared.Kind.{Kind}
use Rattle.b67_area.specs.declared.Kind.TheVariants.{Array, Row, Code}
use Rattle.b67_stack.specs.Common.{at_rest, PagedObject, MachineView, home_desc, home_word_of, Storage, Represents}
use Rattle.b67_layout.specs.Machine.{IsAbsent}
use Rattle.b67_stack.proofs.Unchanged.{area_bounds}
use Rattle.b67_presence.specs.declared.paging.AbsentObject.{AbsentObject}
use Rattle.b67_presence.specs.Brings.{IsCode}

abbrev pub rest_desc : Bool → ℕ → ℕ → DataDesc
rest_desc read_only n first = home_desc read_only n (at_rest first)

abbrev pub rest_seg : ℕ → ℕ → SegDesc
rest_seg n first = record { present = false; words = n; address = first }

-- the word of an absent object, and what it needs to be read
pub record AtRest (core : List Tagged) (home : ℕ) (k : Kind) (n first : ℕ) : Type 0 where
  pub word : slice_get core home ≡ Some (home_word_of k n (at_rest first))
  pub some : 0 < n
  pub few : n < 2 ^ 16
  pub small : first < 2 ^ 20

module _ (x : Storage) (core : List Tagged) (r : Regs) (p : MachineView) (home : ℕ) (t : PagedObject) (s : Represents x core r p) (a : IsAbsent x p home t) where
  none : (x.held t.home).area ≡ None
  none = ap (λ q. (x.held q).area) a.is ∙ a.absent

  pub rest_here : AtRest core home t.kind (length t.numbers) (x.held t.home).chain
  rest_here = grind arith

module _ (core : List Tagged) (home : ℕ) (w : Tagged) (get : slice_get core home ≡ Some w) (n first : ℕ) where
  is : (k : Kind) → AtRest core home k n first → w ≡ home_word_of k n (at_rest first)
  is k h = same_Some _ _ (sym get ∙ h.word)

  abbrev said : Kind → ℕ → ℕ → AbsentObject
  said k words chain = record { kind = k; words = words; first = chain }

  -- by its tag it is a segment's, or a data descriptor
  pub code_read : (k : Kind) → AtRest core home k n first → w.tag ≡ 3 → (d : SegDesc) → ((e : SegDesc) → IsSegDesc e → w ≡ seg_word e → d ≡ e) → said Code d.words d.address ≡ said k n first
  code_read Array h tag d read = absurd (let five : w.tag ≡ 5 = ap (λ (v : Tagged). v.tag) (is Array h) in let z : ⊥ = omega (arith, tag, five) in z)
  code_read Row h tag d read = absurd (let five : w.tag ≡ 5 = ap (λ (v : Tagged). v.tag) (is Row h) in let z : ⊥ = omega (arith, tag, five) in z)
  code_read Code h tag d read = ap (λ (e : SegDesc). said Code e.words e.address) (read (rest_seg n first) (record { words = omega (arith, h.few); address = h.small }) (is Code h))

  pub data_read : (k : Kind) → AtRest core home k n first → w.tag ≢ 3 → (d : DataDesc) → ((e : DataDesc) → IsDataDesc e → w ≡ data_word e → d ≡ e) → (kind : Kind) → kind ≡ (if d.read_only then Row else Array)
      → said kind d.length d.address ≡ said k n first
  data_read Array h other d read kind e =
      let same = read (rest_desc false n first) (record { words = omega (arith, h.few); address = h.small; indexed = λ z. absurd (false≢true z) }) (is Array h) in
      ap (λ (q : Kind). said q d.length d.address) e ∙ ap (λ (z : DataDesc). said (if z.read_only then Row else Array) z.length z.address) same
  data_read Row h other d read kind e =
      let same = read (rest_desc true n first) (record { words = omega (arith, h.few); address = h.small; indexed = λ z. absurd (false≢true z) }) (is Row h) in
      ap (λ (q : Kind). said q d.length d.address) e ∙ ap (λ (z : DataDesc). said (if z.read_only then Row else Array) z.length z.address) same
  data_read Code h other d read kind e = absurd (other (ap (λ (v : Tagged). v.tag) (is Code h)))

-- the segment descriptor of code that is in core
pub record Segment (core : List Tagged) (code n at : ℕ) : Type 0 where
  pub desc : SegDesc
  pub fits : IsSegDesc desc
  pub word : slice_get core code ≡ Some (seg_word desc)
  pub words : desc.words ≡ n
  pub address : desc.address ≡ at
  pub inside : code < length core

pub segment_here : (x : Storage) (core : List Tagged) (r : Regs) (p : MachineView) (code at : ℕ) (c : PagedObject) → Represents x core r p → IsCode x p code at c → Segment core code (length c.numbers) at
segment_here x core r p code at c s k =
    let it = s.objects c k.there in
    let present : (x.held c.home).area ≡ Some at = ap (λ q. (x.held q).area) k.is ∙ k.present in
    let l = s.slots.laid.lengths c k.there in
    let b = area_bounds x core r p s c k.there at present in
    let H : Kind → Type 0 = λ q. slice_get core c.home ≡ Some (home_word_of q (length c.numbers) (x.held c.home)) in
    let w : slice_get core c.home ≡ Some (home_word_of Code (length c.numbers) (x.held c.home)) = subst H k.kind it.home in
    let A : Option ℕ → Type 0 = λ o. slice_get core c.home ≡ Some (home_word_of Code (length c.numbers) (record { area = o; chain = (x.held c.home).chain })) in
    record {
      desc = record { present = true; words = length c.numbers; address = at };
      fits = record { words = omega (arith, l.1); address = omega (arith, b.1, s.directory.small) };
      word = ap (slice_get core) (sym k.is) ∙ subst A present w;
      words = refl;
      address = refl;
      inside = omega (arith, (s.slots.laid.homes c k.there).1, s.inside, k.is);
    }
