-- A live array is an object of the view: its original and its numbers in core.
use Rattle.std.proofs.Common.{◌≡◌, ℕ, zero, suc, ◌+◌, ◌<◌, ◌^◌, List, [], ◌∷◌, map, flat_map, length, Option, Some, None, refl, sym, ◌∙◌, ap, arith, Bool, true, false, not, subst}
use Rattle.std.specs.Prelude.{slice_index, if◌then◌else◌}
use Rattle.std.specs.List.{slice_get}
use Rattle.std.proofs.lemmas.Bool.{false≢true}
use Rattle.std.proofs.lemmas.Option.{slice_get_within}
use Rattle.b67_word.specs.Tagged.{Tagged, word}
use Rattle.b67_area.specs.declared.Kind.TheVariants as kind
use Rattle.b67_area.proofs.Laws.{area_inside}
use Rattle.b67_ctl.specs.declared.descriptors.DataDesc.{DataDesc}
use Rattle.b67_ctl.specs.Descriptors.{data_word, IsDataDesc}
use Rattle.b67_lemmas.specs.Lists.{Has}
use Rattle.b67_lemmas.proofs.Members.{keyed_falls, keyed_has}
use Rattle.b67_model.specs.Common.{Row, array, element, Array, Task, SessionJob, number_of, Session}
use Rattle.b67_layout.specs.Common.{IsInOrderButCounts, Placement, array_object, objects_of, IsRunning, RepresentsSession, area_held, IsWordOf}
use Rattle.b67_stack.specs.declared.Cpu.{Cpu}
use Rattle.b67_stack.specs.Common.{Location, LieUpward, PagedObject, is_present, address_or, home_desc, home_word, tag_of, Storage, Content, RepresentsObject}
use Rattle.b67_stack.proofs.Homes.{chain_small}
use Rattle.b67_layout.proofs.Fresh.{running_in_order}
use Rattle.b67_exec_cells.proofs.Replaced.{array_object-has}
use Rattle.b67_exec_cells.specs.Elements.{HasElement, original_desc}

home_by : (plan : Placement) (j : ℕ) (a : Array) (b : Bool) (h : Location) → a.writable ≡ b → home_word (array_object plan j a) h ≡ data_word (home_desc (not a.writable) (length a.numbers) h)
home_by plan j a b h e = grind arith

pub tag_by : (a : Array) (b : Bool) → a.writable ≡ b → tag_of (if a.writable then kind.Array else kind.Row) ≡ 0
tag_by a b e = grind arith

-- words that lie upward, by their places
upward-get : (core : List Tagged) (tag : ℕ) (at : ℕ) (ns : List ℕ) (i : ℕ) → i < length ns → LieUpward core at (map (word tag) ns) → slice_get core (at + i) ≡ Some (word tag (slice_index ns i))
upward-get core tag at [] i low u = absurd (omega (arith, low))
upward-get core tag at (n ∷ ns) zero low u = ap (slice_get core) (let e : at + 0 ≡ at = omega arith in e) ∙ u.0
upward-get core tag at (n ∷ ns) (suc i) low u = ap (slice_get core) (let e : at + suc i ≡ at + 1 + i = omega arith in e) ∙ upward-get core tag (at + 1) ns i (omega (arith, low)) u.1

module _ (x : Storage) (cpu : Cpu) (plan : Placement) (s : Session) (m : SessionJob) (t : Task) (ordered : IsInOrderButCounts s) (h : RepresentsSession x cpu plan s) (runs : IsRunning plan s.jobs m t) (n index : ℕ) (e : HasElement m.progress.job n index) where
  held : Location
  held = x.held (plan.home m.constants.number n)

  pub array_is : array m.progress.job n ≡ e.item
  array_is =
      let o = (running_in_order plan s m t ordered runs).0 in
      grind (arith, keyed_falls)

  abbrev object : PagedObject
  object = array_object plan m.constants.number e.item

  there : Has (flat_map (objects_of plan) s.jobs) object
  there = array_object-has plan s.jobs m e.item (keyed_has number_of m.constants.number s.jobs m runs.member).0 e.live

  home-is : plan.home m.constants.number e.item.identity ≡ plan.home m.constants.number n
  home-is = ap (plan.home m.constants.number) e.named

  stands : RepresentsObject x cpu.core object
  stands = h.holds.memory.objects object there

  pub word-is : slice_get cpu.core (plan.home m.constants.number n) ≡ Some (data_word (original_desc x plan m n))
  word-is =
      ap (slice_get cpu.core) (sym home-is) ∙ stands.home
      ∙ ap Some (home_by plan m.constants.number e.item e.item.writable (x.held (plan.home m.constants.number e.item.identity)) refl)
      ∙ ap (λ (i : ℕ). Some (data_word (home_desc (not e.item.writable) (length e.item.numbers) (x.held i)))) home-is
      ∙ ap (λ (a : Array). Some (data_word (home_desc (not a.writable) (length a.numbers) (x.held (plan.home m.constants.number n))))) (sym array_is)

  pub home-inside : plan.home m.constants.number n < length cpu.core
  home-inside = slice_get_within cpu.core (plan.home m.constants.number n) (data_word (original_desc x plan m n)) word-is

  pub bound : length cpu.core < 2 ^ 20
  bound = h.holds.memory.directory.small

  -- the area lies in core
  pub area-inside : (at : ℕ) → area_held x plan m.constants.number n ≡ Some at → at + length (array m.progress.job n).numbers < length cpu.core
  area-inside at a =
      let o = h.holds.memory.owned.of_held (plan.home m.constants.number n) at a in
      let same : o.0 ≡ object = h.holds.memory.slots.laid.differ o.0 object o.1 there (o.2 ∙ sym home-is) in
      grind (arith, area_inside, array_is)

  chain-small : (x.held (plan.home m.constants.number n)).chain < 2 ^ 20
  chain-small = subst (λ i. (x.held i).chain < 2 ^ 20) home-is (chain_small x cpu.core object (x.held object.home).area (x.held object.home).chain stands.content)

  pub long : length (array m.progress.job n).numbers < 2 ^ 16
  long = let l = (h.holds.memory.slots.laid.lengths object there).1 in let k : length e.item.numbers ≡ length (array m.progress.job n).numbers = ap (λ (z : Array). length z.numbers) (sym array_is) in omega (arith, l, k)

  address-small : (o : Option ℕ) (f : ℕ) → ((at : ℕ) → o ≡ Some at → at < 2 ^ 20) → f < 2 ^ 20 → address_or o f < 2 ^ 20
  address-small o f a c = grind arith

  pub desc-fits : IsDataDesc (original_desc x plan m n)
  desc-fits = grind (arith, long, area-inside, chain-small)

  no_area : (o : Option ℕ) → is_present o ≡ false → o ≡ None
  no_area o a = grind arith

  an_area : (o : Option ℕ) (f : ℕ) → is_present o ≡ true → o ≡ Some (address_or o f)
  an_area o f a = grind arith

  pub absent : (d : DataDesc) → d ≡ original_desc x plan m n → d.present ≡ false → area_held x plan m.constants.number n ≡ None
  absent d is off = no_area (area_held x plan m.constants.number n) (ap (λ (z : DataDesc). z.present) (sym is) ∙ off)

  pub present : (d : DataDesc) → d ≡ original_desc x plan m n → d.present ≡ true → area_held x plan m.constants.number n ≡ Some d.address
  present d is on = an_area (area_held x plan m.constants.number n) (x.held (plan.home m.constants.number n)).chain (ap (λ (z : DataDesc). z.present) (sym is) ∙ on) ∙ ap (λ (z : DataDesc). Some z.address) (sym is)

  pub inside : index < length (array m.progress.job n).numbers
  inside = let k : length e.item.numbers ≡ length (array m.progress.job n).numbers = ap (λ (z : Array). length z.numbers) (sym array_is) in omega (arith, e.inside, k)

  -- an element lies in core
  pub element-inside : (d : DataDesc) → d ≡ original_desc x plan m n → d.present ≡ true → d.address + index < length cpu.core
  element-inside d is on = let i = area-inside d.address (present d is on) in omega (arith, i, inside)

  pub element-is : (d : DataDesc) (w : Tagged) → d ≡ original_desc x plan m n → d.present ≡ true → slice_get cpu.core (d.address + index) ≡ Some w → w ≡ word 0 (element m.progress.job n index)
  element-is d w is on got =
      let C : Option ℕ → Type 0 = λ o. Content x cpu.core object o (x.held object.home).chain in
      let area : (x.held object.home).area ≡ Some d.address = ap (λ (i : ℕ). (x.held i).area) home-is ∙ present d is on in
      let up = (subst C area stands.content).0 in
      grind (arith, upward-get, array_is)

  -- a copy of the descriptor is a row copy
  pub present-copy : (d : DataDesc) (w : Tagged) (at : ℕ) → d ≡ original_desc x plan m n → d.present ≡ true → w ≡ data_word (record d { copy = true }) → IsWordOf x plan m t (Row n) at w
  present-copy d w at is on made = record {
    number = length (array m.progress.job n).numbers;
    numbered = (omega (arith, inside), long);
    present = true;
    address = d.address;
    fits = record { words = omega (arith, long); address = (let a = area-inside d.address (present d is on) in omega (arith, a, bound)); indexed = λ z. absurd (false≢true z) };
    is = made
        ∙ ap (λ (b : Bool). data_word (record { present = b; copy = true; indexed = d.indexed; read_only = d.read_only; length = d.length; address = d.address })) on
        ∙ ap (λ (z : DataDesc). data_word (record { present = true; copy = true; indexed = z.indexed; read_only = z.read_only; length = z.length; address = d.address })) is;
    to = present d is on;
  }

  pub absent-copy : (d : DataDesc) (w : Tagged) (at : ℕ) → d ≡ original_desc x plan m n → d.present ≡ false → w ≡ data_word (record d { copy = true; address = plan.home m.constants.number n }) → IsWordOf x plan m t (Row n) at w
  absent-copy d w at is off made = record {
    number = length (array m.progress.job n).numbers;
    numbered = (omega (arith, inside), long);
    present = false;
    address = plan.home m.constants.number n;
    fits = record { words = omega (arith, long); address = omega (arith, home-inside, bound); indexed = λ z. absurd (false≢true z) };
    is = made
        ∙ ap (λ (b : Bool). data_word (record { present = b; copy = true; indexed = d.indexed; read_only = d.read_only; length = d.length; address = plan.home m.constants.number n })) off
        ∙ ap (λ (z : DataDesc). data_word (record { present = false; copy = true; indexed = z.indexed; read_only = z.read_only; length = z.length; address = plan.home m.constants.number n })) is;
    to = refl;
  }

  pub copy-fits : (d : DataDesc) → d ≡ original_desc x plan m n → IsDataDesc (record d { copy = true })
  copy-fits d is = subst (λ (z : DataDesc). IsDataDesc (record z { copy = true })) (sym is) (record { words = desc-fits.words; address = desc-fits.address; indexed = λ z. refl })

  pub home-fits : (d : DataDesc) (original : ℕ) → d ≡ original_desc x plan m n → original ≡ plan.home m.constants.number n → IsDataDesc (record d { copy = true; address = original })
  home-fits d original is at = record { words = (copy-fits d is).words; address = omega (arith, at, home-inside, bound); indexed = (copy-fits d is).indexed }
