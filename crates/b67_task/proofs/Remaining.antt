-- The arrays that are left, one word after another.
use Rattle.std.proofs.Common.{◌≡◌, ◌≢◌, ℕ, ◌+◌, ◌<◌, ◌^◌, ◌==◌, List, [], ◌∷◌, ◌++◌, length, Option, Some, None, refl, sym, ◌∙◌, ap, arith, inl, inr, ◌⊎◌, ⊎_elim, Bool, true, false, not, subst, if◌then◌else◌}
use Rattle.std.specs.List.{slice_get}
use Rattle.std.proofs.lemmas.Bool.{cases_eq, ne_eqb, false≢true, not-true}
use Rattle.std.proofs.lemmas.Option.{same_Some, none-some}
use Rattle.b67_word.specs.Tagged.{Tagged}
use Rattle.b67_area.specs.declared.Areas.{Areas}
use Rattle.b67_area.specs.declared.Kind.{Kind}
use Rattle.b67_area.specs.declared.Kind.TheVariants.{Array, Row, Code}
use Rattle.b67_backing.specs.Shelf.{Table, IsShelf, chain_of}
use Rattle.b67_ctl.specs.declared.descriptors.DataDesc.{DataDesc}
use Rattle.b67_ctl.specs.declared.registers.Regs.{Regs}
use Rattle.b67_ctl.specs.Descriptors.{data_word, IsDataDesc}
use Rattle.b67_lemmas.specs.Lists.{Has}
use Rattle.b67_lemmas.proofs.Members.{has_append_cases, has_append_left, has_append_right}
use Rattle.b67_stack.specs.declared.Cpu.{Cpu}
use Rattle.b67_stack.specs.Common.{Location, IsOriginal, nowhere, PagedObject, MachineView, Slot, SlotFits, is_present, address_or, home_desc, home_word_of, Storage, Represents, info_of}
use Rattle.b67_stack.proofs.Homes.{same_desc, chain_small}
use Rattle.b67_layout.specs.Machine.{MachineRepresentsView}
use Rattle.b67_stack.proofs.Helds.{held-other, held-same}
use Rattle.b67_stack.proofs.Unchanged.{area_of_object, area_bounds}
use Rattle.b67_layout.proofs.Words.{original_of_home}
use Rattle.b67_layout.specs.Session.{with_objects}
use Rattle.b67_task.specs.Released.{storage_released, of_objects, Drops, LocatesArray, SameBelow, HasHome, Released, AreLeft, SomeRemain}
use Rattle.b67_task.proofs.Dropped.{chains_other, chains_gone}

-- the word of an array's original, as a descriptor
record HomeDesc (k : Kind) (n : ℕ) (h : Location) : Type 0 where
  desc : DataDesc
  fits : IsDataDesc desc
  is : home_word_of k n h ≡ data_word desc
  present : desc.present ≡ is_present h.area
  address : desc.address ≡ address_or h.area h.chain

home_fits : (read_only : Bool) (n : ℕ) (a : Option ℕ) (f : ℕ) → n < 2 ^ 20 → f < 2 ^ 20 → ((b : ℕ) → a ≡ Some b → b < 2 ^ 20) → IsDataDesc (home_desc read_only n (record { area = a; chain = f }))
home_fits read_only n a f small chain area = grind arith

home_desc_of : (k : Kind) (n : ℕ) (h : Location) → k ≢ Code → n < 2 ^ 20 → h.chain < 2 ^ 20 → ((b : ℕ) → h.area ≡ Some b → b < 2 ^ 20) → HomeDesc k n h
home_desc_of Array n h ne small chain area = record { desc = home_desc false n h; fits = home_fits false n h.area h.chain small chain area; is = refl; present = refl; address = refl }
home_desc_of Row n h ne small chain area = record { desc = home_desc true n h; fits = home_fits true n h.area h.chain small chain area; is = refl; present = refl; address = refl }
home_desc_of Code n h ne small chain area = absurd (ne refl)

module _ (x : Storage) (core : List Tagged) (r : Regs) (p : MachineView) (s : Represents x core r p) (t : PagedObject) (int : Has p.objects t) (array : t.kind ≢ Code) where
  -- the descriptor at an array's home tells how it is held
  pub finds : (w : Tagged) (d : DataDesc) → slice_get core t.home ≡ Some w → IsDataDesc d → w ≡ data_word d → LocatesArray x.low x.spans (x.held t.home) d
  finds w d get fits is =
      let e = home_desc_of t.kind (length t.numbers) (x.held t.home) array (omega (arith, (s.slots.laid.lengths t int).1)) (chain_small x core t (x.held t.home).area (x.held t.home).chain (s.objects t int).content)
      (λ b e. omega (arith, (area_bounds x core r p s t int b e).1, s.directory.small)) in
      let same = same_desc d e.desc fits e.fits (sym is ∙ same_Some _ _ (sym get ∙ (s.objects t int).home) ∙ e.is) in
      record { present = same.present ∙ e.present; address = same.address ∙ e.address; area = λ at a. (info_of x t, area_of_object x core r p s t int at a, refl) }

  -- and is an original
  pub is_original : (w : Tagged) → slice_get core t.home ≡ Some w → IsOriginal w
  is_original w get =
      let P : Tagged → Type 0 = λ v. IsOriginal v in
      subst P (same_Some _ _ (sym (s.objects t int).home ∙ get)) (original_of_home x core r p s t int array)

-- a copy is no original
pub copy_none : (w : Tagged) (d : DataDesc) → IsDataDesc d → w ≡ data_word d → not d.copy ≡ false → IsOriginal w → ⊥
copy_none w d fits is copy o = grind arith

-- nor is one with another tag
pub tag_none : (w : Tagged) → w.tag ≢ 5 → IsOriginal w → ⊥
tag_none w off o = off (ap (λ (z : Tagged). z.tag) o.is)

-- nor is a word off a descriptor's layout
pub other_none : (w : Tagged) (r : Option DataDesc) → ((d : DataDesc) → IsDataDesc d → w ≡ data_word d → r ≡ Some d) → r ≡ None → IsOriginal w → ⊥
other_none w r known none o = none-some o.desc (sym none ∙ known o.desc o.fits o.is)

-- the objects but for those of a home
abbrev without_home : ℕ → List PagedObject → List PagedObject
without_home home [] = []
without_home home (t ∷ ts) = if t.home == home then without_home home ts else t ∷ without_home home ts

without_home-in : (home : ℕ) (ts : List PagedObject) (t : PagedObject) → Has (without_home home ts) t → Has ts t × (t.home ≢ home)
without_home-in home [] t h = absurd h
without_home-in home (u ∷ us) t h = grind (arith, without_home-in home us t)

without_home-there : (home : ℕ) (ts : List PagedObject) (t : PagedObject) → Has ts t → t.home ≢ home → Has (without_home home ts) t
without_home-there home [] t h n = absurd h
without_home-there home (u ∷ us) t (inl e) n = rw (ne_eqb u.home home (λ z. n (sym (ap (λ (v : PagedObject). v.home) e) ∙ z))) (inl e)
without_home-there home (u ∷ us) t (inr k) n = grind (arith, without_home-there home us t k n)

-- nothing was released
pub Released-none : (Gone : ℕ → Type 0) (x : Storage) → ((home : ℕ) → Gone home → ⊥) → Released Gone x x
Released-none Gone x no_one = grind arith

-- one after others
pub Released-then : (P Q R : ℕ → Type 0) (x y z : Storage) → ((home : ℕ) → P home → Q home → ⊥) → ((home : ℕ) → R home → P home ⊎ Q home) → ((home : ℕ) → P home → R home) → ((home : ℕ) → Q home → R home)
    → Released P x y → Released Q y z → Released R x z
Released-then P Q R x y z apart cases left right a b = record {
  low = b.low ∙ a.low;
  device = b.device ∙ a.device;
  others = λ home n. b.others home (λ q. n (right home q)) ∙ a.others home (λ q. n (left home q));
  nowhere = λ home g. ⊎_elim
      (λ (q : P home). b.others home (λ m. apart home q m) ∙ a.nowhere home q)
      (λ (q : Q home). b.nowhere home q)
      (cases home g);
  free = λ home g. ⊎_elim
      (λ (q : P home). b.no_more (x.held home).chain (a.free home q))
      (λ (q : Q home). ap (λ (h : Location). chain_of h.chain z.shelf.chains) (sym (a.others home (λ m. apart home m q))) ∙ b.free home q)
      (cases home g);
  chains = λ first n. b.chains first (λ home q e. n home (right home q) (ap (λ (h : Location). h.chain) (sym (a.others home (λ m. apart home m q))) ∙ e)) ∙ a.chains first (λ home q. n home (left home q));
  no_more = λ first e. b.no_more first (a.no_more first e);
}

pub Released-same : (P Q : ℕ → Type 0) (x y : Storage) → ((home : ℕ) → P home → Q home) → ((home : ℕ) → Q home → P home) → Released P x y → Released Q x y
Released-same P Q x y to from a = grind arith

-- one array
pub Released-one : (x : Storage) (core : List Tagged) (r : Regs) (p : MachineView) (table : Table) → Represents x core r p → IsShelf table x.shelf → (t : PagedObject) → Has p.objects t
    → (Gone : ℕ → Type 0) → Gone t.home → ((home : ℕ) → Gone home → home ≡ t.home) → Released Gone x (storage_released x t)
Released-one x core r p table s sh t int Gone here only = grind (arith, held-other, held-same, chains_other, chains_gone)

fits_more : (p : MachineView) (more : List PagedObject) (k : ℕ) (slot : Slot) → SlotFits p k slot → SlotFits (of_objects p (more ++ p.objects)) k slot
fits_more p more k slot f = grind (arith, has_append_right)

module _ (x : Storage) (cpu : Cpu) (areas : Areas) (table : Table) (told : Option (List (List ℕ))) (p : MachineView) (left : List PagedObject) (at upto : ℕ)
    (m : MachineRepresentsView x cpu areas table told (with_objects left p)) (l : AreLeft p cpu.core at upto left) where
  pub in_all : (t : PagedObject) → Has left t → Has (left ++ p.objects) t
  in_all t h = has_append_left left p.objects t h

  -- a word that is no original
  pub remains_none : (w : Tagged) → slice_get cpu.core at ≡ Some w → (IsOriginal w → ⊥) → SomeRemain (λ home. (home ≡ at) × HasHome left home) x x p cpu.core cpu.core (at + 1) upto left left
  remains_none w get no_one =
      let not_here : (t : PagedObject) → Has left t → t.home ≢ at = λ t int e. no_one (is_original x cpu.core cpu.regs (with_objects left p) m.stands t (in_all t int) (l.arrays t int) w (ap (slice_get cpu.core) e ∙ get)) in
      record {
        released = Released-none (λ home. (home ≡ at) × HasHome left home) x (λ home g. not_here g.1.0 g.1.1 (g.1.2 ∙ g.0));
        among = λ t h. h;
        others = λ t h n. h;
        still = record {
          low = omega (arith, l.low);
          high = l.high;
          each = λ i v down up g o. l.each i v (omega arith) up g o;
          among = λ t h. (let n : at ≢ t.home = λ e. not_here t h (sym e) in omega (arith, n, (l.among t h).0), (l.among t h).1);
          arrays = l.arrays;
          alone = l.alone;
          fits = l.fits;
        };
        below = λ i h n. refl;
      }

  -- a word that is one
  pub one_left : (w : Tagged) (d : DataDesc) → slice_get cpu.core at ≡ Some w → IsDataDesc d → w ≡ data_word d → not d.copy ≡ true → at < upto
      → (t : PagedObject) × Has left t × (t.home ≡ at) × LocatesArray x.low x.spans (x.held t.home) d
  one_left w d get fits is own inside =
      let o : IsOriginal w = record { desc = d; fits = fits; own = not-true d.copy own; is = is } in
      let r = l.each at w (omega arith) inside get o in
      (r.0, r.1, r.2, finds x cpu.core cpu.regs (with_objects left p) m.stands r.0 (in_all r.0 r.1) (l.arrays r.0 r.1) w d (ap (slice_get cpu.core) r.2 ∙ get) fits is)

  module _ (t : PagedObject) (int : Has left t) (home : t.home ≡ at) where
    abbrev pub rest : List PagedObject
    rest = without_home at left

    pub drops : Drops (with_objects left p) t (rest ++ p.objects)
    drops = grind (arith, without_home-in, has_append_right, has_append_cases, has_append_left, without_home-there, fits_more)

    pub remains_one : (new : List Tagged) → SameBelow x.low cpu.core new → SomeRemain (λ h. (h ≡ at) × HasHome left h) x (storage_released x t) p cpu.core new (at + 1) upto left rest
    remains_one new same = record {
      released = Released-one x cpu.core cpu.regs (with_objects left p) table m.stands m.shelf t (in_all t int) (λ h. (h ≡ at) × HasHome left h) (home, (t, int, refl)) (λ h g. g.0 ∙ sym home);
      among = λ u h. (without_home-in at left u h).0;
      others = λ u h n. without_home-there at left u h (λ e. omega arith);
      still = record {
        low = omega (arith, l.low);
        high = l.high;
        each = λ i v down up g o.
            let was = same i (omega (arith, l.high, m.stands.slots.laid.low)) (λ e. omega (arith, l.low, m.stands.slots.laid.first)) in
            let r = l.each i v (omega arith) up (sym was ∙ g) o in
            (r.0, without_home-there at left r.0 r.1 (λ e. omega (arith, r.2)), r.2);
        among = λ u h. let r = without_home-in at left u h in (let n : at ≢ u.home = λ e. r.1 (sym e) in omega (arith, n, (l.among u r.0).0), (l.among u r.0).1);
        arrays = λ u h. l.arrays u (without_home-in at left u h).0;
        alone = λ u v h. l.alone u v (without_home-in at left u h).0;
        fits = l.fits;
      };
      below = same;
    }

-- the words up to here, and the next one
pub Remains-then : (x y z : Storage) (p : MachineView) (old mid new : List Tagged) (at upto : ℕ) (left rest more : List PagedObject)
    → SomeRemain (λ home. (home < at) × HasHome left home) x y p old mid at upto left rest
    → SomeRemain (λ home. (home ≡ at) × HasHome rest home) y z p mid new (at + 1) upto rest more
    → SomeRemain (λ home. (home < at + 1) × HasHome left home) x z p old new (at + 1) upto left more
Remains-then x y z p old mid new at upto left rest more a b = record {
  released = Released-then (λ home. (home < at) × HasHome left home) (λ home. (home ≡ at) × HasHome rest home) (λ home. (home < at + 1) × HasHome left home) x y z
      (λ home g h. omega (arith, g.0, h.0))
      (λ home g. ⊎_elim
      (λ (e : home ≡ at). let r : (home ≡ at) × HasHome rest home = (e, (g.1.0, a.others g.1.0 g.1.1 (omega (arith, g.1.2)), g.1.2)) in inr r)
      (λ (n : home ≡ at → ⊥). let r : (home < at) × HasHome left home = (omega (arith, g.0, n), g.1) in inl r)
      (cases_eq home at))
      (λ home g. (omega (arith, g.0), g.1))
      (λ home g. (omega (arith, g.0), (g.1.0, a.among g.1.0 g.1.1, g.1.2)))
      a.released b.released;
  among = λ t h. a.among t (b.among t h);
  others = λ t h n. b.others t (a.others t h (omega arith)) n;
  still = b.still;
  below = λ i h n. b.below i (let e = a.released.low in omega (arith, e)) n ∙ a.below i h n;
}

no_rest : (upto : ℕ) (p : MachineView) (core : List Tagged) (rest : List PagedObject) → AreLeft p core upto upto rest → rest ≡ []
no_rest upto p core [] l = refl
no_rest upto p core (t ∷ ts) l = let b = l.among t (inl refl) in absurd (omega (arith, b.0, b.1))

-- all of them
pub remains_all : (x y : Storage) (cpu : Cpu) (areas : Areas) (table : Table) (told : Option (List (List ℕ))) (p : MachineView) (old : List Tagged) (from upto : ℕ) (left rest : List PagedObject) → AreLeft p old from upto left
    → MachineRepresentsView y cpu areas table told (with_objects rest p) → SomeRemain (λ home. (home < upto) × HasHome left home) x y p old cpu.core upto upto left rest
    → Released (HasHome left) x y × MachineRepresentsView y cpu areas table told p × SameBelow x.low old cpu.core
remains_all x y cpu areas table told p old from upto left rest l m r = (
  Released-same (λ home. (home < upto) × HasHome left home) (HasHome left) x y (λ home g. g.1) (λ home g. (omega (arith, (l.among g.0 g.1).1, g.2), g)) r.released,
  subst (λ (ts : List PagedObject). MachineRepresentsView y cpu areas table told (with_objects ts p)) (no_rest upto p cpu.core rest r.still) m,
  r.below,
)
