-- The machine after an object was brought in, by what the calls tell.
use Rattle.std.proofs.Common.{◌≡◌, ℕ, ◌+◌, ◌<◌, List, length, Option, Some, None, refl, sym, ◌∙◌, ap, ⊎_elim, slice_set, subst, arith}
use Rattle.b67_word.specs.Tagged.{Tagged}
use Rattle.b67_area.specs.declared.Areas.{Areas}
use Rattle.b67_area.specs.declared.Kind.{Kind}
use Rattle.b67_area.specs.Spans.{Span, area_at, fill, fresh, keeping, without}
use Rattle.b67_area.specs.Directory.{IsDirectory}
use Rattle.b67_backing.specs.Held.{OnlyWords}
use Rattle.b67_backing.specs.Shelf.{Table}
use Rattle.b67_ctl.specs.declared.registers.Regs.{Regs}
use Rattle.b67_stack.specs.declared.Cpu.{Cpu}
use Rattle.b67_stack.specs.Common.{LieUpward, PagedObject, MachineView, home_word_of, object_words, Storage, Represents, LowWordsStayed, renumbered, with_held}
use Rattle.b67_layout.specs.Machine.{Says, IsAbsent, AreBits}
use Rattle.b67_overlay.specs.Spans.{CopiesLie, MachineCanPage}
use Rattle.b67_overlay.proofs.Copies.{copies_stay, copies_objects}
use Rattle.b67_layout.proofs.Renumbered.{Represents-renumbered, there_renumbered, renumbered-same}
use Rattle.b67_presence.specs.declared.paging.AbsentObject.{AbsentObject}
use Rattle.b67_presence.specs.Brought.{Loaded, brought, resting, NumbersAreKnown, IsSpot}
use Rattle.b67_presence.proofs.Contents.{known_words, some_words}
use Rattle.b67_presence.proofs.Placing.{Placed, Kept, Freed, brought_in, given_back, below_in, below_back, without_here, directory2, area_here, bounds}

pub Says-on : (d told new : Option (List (List ℕ))) → ((all : List (List ℕ)) → told ≡ Some all → new ≡ Some all) → Says d told → Says d new
Says-on d told new f s = grind arith

-- what an area that was placed and filled needs to be kept or freed
pub record Ready (low : ℕ) (ss : List Span) (core new : List Tagged) (home at : ℕ) (object : AbsentObject) : Type 0 where
  pub directory : IsDirectory new low (fill (fresh object.kind object.words home) ss)
  pub area : area_at low (fill (fresh object.kind object.words home) ss) at ≡ Some (fresh object.kind object.words home)
  pub under : low < at
  pub high : at + object.words < length core

pub ready : (x : Storage) (core : List Tagged) (r : Regs) (p : MachineView) (home at low : ℕ) (t : PagedObject) (c1 c2 : List Tagged) (object : AbsentObject) → Represents x core r p → IsAbsent x p home t → object ≡ resting x t → low ≡ x.low
    → Placed low x.spans core c1 home at object → OnlyWords at object.words c1 c2 → Ready low x.spans core c2 home at object
ready x core r p home at low t c1 c2 object s a is e pl fl =
    let P : ℕ → AbsentObject → Type 0 = λ l z. Placed l x.spans core c1 home at z × OnlyWords at z.words c1 c2 in
    let (pl', fl') = subst (λ (z : AbsentObject). P x.low z) is (subst (λ (l : ℕ). P l object) e (pl, fl)) in
    let b = bounds x core r p home t s a at c1 pl' in
    let r' : Ready x.low x.spans core c2 home at (resting x t) = record { directory = directory2 x core r p home t s a at c1 pl' c2 fl'; area = area_here x core r p home t s a at c1 pl'; under = b.0; high = b.1 } in
    subst (λ (l : ℕ). Ready l x.spans core c2 home at object) (sym e) (subst (λ (z : AbsentObject). Ready x.low x.spans core c2 home at z) (sym is) r')

-- all that was done to core
pub record Steps (low : ℕ) (ss : List Span) (core c1 c2 c3 : List Tagged) (home at : ℕ) (object : AbsentObject) : Type 0 where
  pub placed : Placed low ss core c1 home at object
  pub filled : OnlyWords at object.words c1 c2
  pub kept : Kept low (fill (fresh object.kind object.words home) ss) c2 c3 at object.words object.first

abbrev place_of : Storage → Kind → ℕ → ℕ → ℕ → ℕ → Storage
place_of x kind words home first at = record x {
  held = with_held x.held home (record { area = Some at; chain = first });
  spans = keeping x.low at first (fill (fresh kind words home) x.spans);
}

-- with the number of words apart from the numbers
placed_in : (x : Storage) (core c1 c2 c3 : List Tagged) (r : Regs) (p : MachineView) (home at : ℕ) (t : PagedObject) (n : ℕ) → length t.numbers ≡ n
    → Represents x core r p → IsAbsent x p home t → Steps x.low x.spans core c1 c2 c3 home at (record { kind = t.kind; words = n; first = (x.held t.home).chain }) → LieUpward c2 at (object_words t)
    → Represents (place_of x t.kind n t.home (x.held t.home).chain at) (slice_set c3 home (home_word_of t.kind n (record { area = Some at; chain = (x.held t.home).chain }))) r p
placed_in x core c1 c2 c3 r p home at t n e s a st up =
    let P : ℕ → Type 0 = λ m. Steps x.low x.spans core c1 c2 c3 home at (record { kind = t.kind; words = m; first = (x.held t.home).chain }) in
    let st' = subst P (sym e) st in
    let Q : ℕ → Type 0 = λ m. Represents (place_of x t.kind m t.home (x.held t.home).chain at) (slice_set c3 home (home_word_of t.kind m (record { area = Some at; chain = (x.held t.home).chain }))) r p in
    subst Q e (brought_in x core r p home t s a at c1 st'.placed c2 st'.filled c3 st'.kept up)

module _ (x : Storage) (cpu : Cpu) (areas after : Areas) (table : Table) (told new : Option (List (List ℕ))) (p : MachineView) (home : ℕ) (t : PagedObject) (m : MachineCanPage x cpu areas table told p) (a : IsAbsent x p home t) (low : after.low ≡ areas.low) (says : (all : List (List ℕ)) → told ≡ Some all → new ≡ Some all) where
  with_core : (y : Storage) (q : MachineView) (core : List Tagged) → y.low ≡ x.low → y.shelf ≡ x.shelf → y.device ≡ x.device → Represents y core cpu.regs q → CopiesLie core q → MachineCanPage y (record cpu { core = core }) after table new q
  with_core y q core el es ed s k = record {
    stands = s;
    low = low ∙ m.low ∙ sym el;
    shelf = rw es m.shelf;
    device = rw ed (Says-on x.device told new says m.device);
    copies = k;
  }

  module _ (at : ℕ) (c1 c2 c3 : List Tagged) (object : AbsentObject) (is : object ≡ resting x t) (st : Steps areas.low x.spans cpu.core c1 c2 c3 home at object) (l : Loaded told table at object c2) where
    abbrev word_at : AbsentObject → Tagged
    word_at z = home_word_of z.kind z.words (record { area = Some at; chain = z.first })

    st' : Steps x.low x.spans cpu.core c1 c2 c3 home at (resting x t)
    st' = grind arith

    l' : Loaded told table at (resting x t) c2
    l' = let P : AbsentObject → Type 0 = λ z. Loaded told table at z c2 in subst P is l

    back : (y : Storage) (q : MachineView) → Represents y (slice_set c3 home (word_at (resting x t))) cpu.regs q → Represents y (slice_set c3 home (word_at object)) cpu.regs q
    back y q s = let P : AbsentObject → Type 0 = λ z. Represents y (slice_set c3 home (word_at z)) cpu.regs q in subst P (sym is) s

    pub paged_below : (v : Tagged) → LowWordsStayed p cpu.core (slice_set c3 home v)
    paged_below v = below_in x cpu.core cpu.regs p home t m.stands a at c1 st'.placed c2 st'.filled c3 st'.kept v

    lie_below : (v : Tagged) → CopiesLie (slice_set c3 home v) p
    lie_below v = copies_stay x cpu.core cpu.regs p m.stands (slice_set c3 home v) (paged_below v) m.copies

    pub in_place : IsSpot x t at
    in_place = sym st'.placed.row.0

    pub paged_known : NumbersAreKnown x t → MachineCanPage (brought x t at) (record cpu { core = slice_set c3 home (word_at object) }) after table new p
    paged_known k = with_core (brought x t at) p (slice_set c3 home (word_at object)) refl refl refl
        (back (brought x t at) p (placed_in x cpu.core c1 c2 c3 cpu.regs p home at t (length t.numbers) refl m.stands a st' (known_words x cpu areas table told p home t m a at c2 l' k))) (lie_below (word_at object))

    pub paged_untold : x.device ≡ None → (ns : List ℕ) × (length ns ≡ length t.numbers) × AreBits ns × MachineCanPage (brought x t at) (record cpu { core = slice_set c3 home (word_at object) }) after table new (renumbered p home ns)
    paged_untold untold =
        let (ns, count, bits, up, way) = some_words x cpu areas table told p home t m a at c2 l' in
        let none : (x.held t.home).area ≡ None = ap (λ q. (x.held q).area) a.is ∙ a.absent in
        let t' : PagedObject = record t { numbers = ns } in
        let p' : MachineView = renumbered p t.home ns in
        let s' : Represents x cpu.core cpu.regs p' = ⊎_elim
        (λ (some : 0 < (x.held t.home).chain). Represents-renumbered x cpu.core cpu.regs p m.stands t a.there ns count untold none some)
        (λ (e : ns ≡ t.numbers). let P : MachineView → Type 0 = λ q. Represents x cpu.core cpu.regs q in subst P (sym (ap (renumbered p t.home) e ∙ renumbered-same x cpu.core cpu.regs p m.stands t a.there)) m.stands)
        way in
        let there = there_renumbered x cpu.core cpu.regs p m.stands t a.there ns count in
        let a' : IsAbsent x p' home t' = record { there = there; is = a.is; absent = a.absent } in
        let d = placed_in x cpu.core c1 c2 c3 cpu.regs p' home at t' (length t.numbers) count s' a' st' up in
        let P : ℕ → Type 0 = λ q. MachineCanPage (brought x t at) (record cpu { core = slice_set c3 home (word_at object) }) after table new (renumbered p q ns) in
        (ns, count, bits, subst P a.is (with_core (brought x t at) p' (slice_set c3 home (word_at object)) refl refl refl (back (brought x t at) p' d) (copies_objects (slice_set c3 home (word_at object)) p p'.objects (lie_below (word_at object)))))

  pub back_below : (at : ℕ) (c1 c2 c3 : List Tagged) (object : AbsentObject) → object ≡ resting x t → Placed areas.low x.spans cpu.core c1 home at object → OnlyWords at object.words c1 c2 → Freed areas.low (without areas.low at (fill (fresh object.kind object.words home) x.spans)) c2 c3 → LowWordsStayed p cpu.core c3
  back_below at c1 c2 c3 object is pl fl fr =
      let P : ℕ → AbsentObject → Type 0 = λ n z. Placed n x.spans cpu.core c1 home at z × OnlyWords at z.words c1 c2 × Freed n (without n at (fill (fresh z.kind z.words home) x.spans)) c2 c3 in
      let (pl', fl', fr') = subst (λ (z : AbsentObject). P x.low z) is (subst (λ (n : ℕ). P n object) m.low (pl, fl, fr)) in
      let Q : List Span → Type 0 = λ ss. Freed x.low ss c2 c3 in
      below_back x cpu.core cpu.regs p home t m.stands a at c1 pl' c2 fl' c3 (subst Q (without_here x cpu.core cpu.regs p home t m.stands a at c1 pl' c2 fl') fr')

  pub paged_back : (at : ℕ) (c1 c2 c3 : List Tagged) (object : AbsentObject) → object ≡ resting x t → Placed areas.low x.spans cpu.core c1 home at object → OnlyWords at object.words c1 c2 → Freed areas.low (without areas.low at (fill (fresh object.kind object.words home) x.spans)) c2 c3 → MachineCanPage x (record cpu { core = c3 }) after table new p
  paged_back at c1 c2 c3 object is pl fl fr =
      let P : ℕ → AbsentObject → Type 0 = λ n z. Placed n x.spans cpu.core c1 home at z × OnlyWords at z.words c1 c2 × Freed n (without n at (fill (fresh z.kind z.words home) x.spans)) c2 c3 in
      let (pl', fl', fr') = subst (λ (z : AbsentObject). P x.low z) is (subst (λ (n : ℕ). P n object) m.low (pl, fl, fr)) in
      let Q : List Span → Type 0 = λ ss. Freed x.low ss c2 c3 in
      with_core x p c3 refl refl refl (given_back x cpu.core cpu.regs p home t m.stands a at c1 pl' c2 fl' c3 (subst Q (without_here x cpu.core cpu.regs p home t m.stands a at c1 pl' c2 fl') fr'))
      (copies_stay x cpu.core cpu.regs p m.stands c3 (back_below at c1 c2 c3 object is pl fl fr) m.copies)
