-- What an overlay leaves of a storage.
use Rattle.std.proofs.Common.{◌≡◌, ◌≢◌, ℕ, ◌^◌, ◌<◌, ◌≤◌, ◌==◌, ◌⊎◌, arith, List, length, Option, Some, None, refl, sym, ◌∙◌, ap, subst}
use Rattle.std.proofs.lemmas.Option.{same_Some, none-some}
use Rattle.std.proofs.lemmas.Bool.{cond-false, ne_eqb}
use Rattle.b67_area.specs.declared.Areas.{Areas}
use Rattle.b67_area.specs.declared.Info.{Info}
use Rattle.b67_area.specs.Spans.{Span, area_at, first_area, area_after, without}
use Rattle.b67_area.specs.Directory.{IsDirectory}
use Rattle.b67_area.proofs.Laws.{area_inside, area_at-without}
use Rattle.b67_backing.specs.Shelf.{Table}
use Rattle.b67_stack.specs.declared.Cpu.{Cpu}
use Rattle.b67_stack.specs.Common.{Location, PagedObject, MachineView, Storage}
use Rattle.b67_layout.specs.Machine.{IsPresent, Says, DeviceAfterCalls, content_after}
use Rattle.b67_overlay.specs.Spans.{MachineCanPage}
use Rattle.b67_stack.proofs.Helds.{held-other}
use Rattle.b67_overlay.specs.Overlaid.{overlaid, retelling, chain_out, IsShort}
use Rattle.b67_backing.specs.Held.{sectors_for}
use Rattle.b67_overlay.specs.AreasEvicted.{AreasEvicted, EvictedBelow, Remains, IsShortBy}
use Rattle.b67_overlay.proofs.Visits.{left_of, walk_falls, Remains-first, Remains-gone, Remains-past}

pub AreasEvicted-none : (x : Storage) (spare : ℕ) → AreasEvicted x x spare
AreasEvicted-none x spare = record { low = refl; resting = λ q e. refl; spared = λ q e. refl; untold = λ e. e; told = λ n. n }

pub AreasEvicted-then : (x y z : Storage) (spare : ℕ) → AreasEvicted x y spare → AreasEvicted y z spare → AreasEvicted x z spare
AreasEvicted-then x y z spare a b = record {
  low = b.low ∙ a.low;
  resting = λ q e. b.resting q (ap (λ (h : Location). h.area) (a.resting q e) ∙ e) ∙ a.resting q e;
  spared = λ q e. b.spared q (ap (λ (h : Location). h.area) (a.spared q e) ∙ e) ∙ a.spared q e;
  untold = λ e. b.untold (a.untold e);
  told = λ n. b.told (a.told n);
}

-- a device that told its content tells one
pub tells_still : {D : Type 0} {tell : D → Option (List (List ℕ))} {size calls faults : D → ℕ} {before after : D} → DeviceAfterCalls tell size calls faults before after → (all : List (List ℕ)) → tell before ≡ Some all → tell after ≢ None
tells_still d all e n = let (now, is, same) = d.tells.told all e in none-some now (sym n ∙ is)

retold-none : (d told : Option (List (List ℕ))) → d ≡ None → content_after d told ≡ None
retold-none None told e = refl
retold-none (Some all) told e = absurd (let z : ⊥ = cc in z)

module _ (x : Storage) (told new : Option (List (List ℕ))) (says : Says x.device told) (tells : (all : List (List ℕ)) → told ≡ Some all → new ≢ None) where
  not_none : x.device ≢ None → content_after x.device new ≢ None
  not_none n = by x.device n says where
    by : (d : Option (List (List ℕ))) → d ≢ None → Says d told → content_after d new ≢ None
    by None m s e = m refl
    by (Some all) m s e = tells all s e

  pub AreasEvicted-retelling : (spare : ℕ) → AreasEvicted x (retelling x new) spare
  AreasEvicted-retelling spare = record { low = refl; resting = λ q e. refl; spared = λ q e. refl; untold = λ e. retold-none x.device new e; told = not_none }

  pub AreasEvicted-overlaid : (t : PagedObject) (at spare : ℕ) → (x.held t.home).area ≡ Some at → at ≢ spare → AreasEvicted x (overlaid x t at new) spare
  AreasEvicted-overlaid t at spare here n =
      let h : Location = record { area = None; chain = chain_out x.shelf (x.held t.home).chain } in
      record {
        low = refl;
        resting = λ q e. held-other x.held t.home h q (λ z. none-some at (sym e ∙ ap (λ k. (x.held k).area) z ∙ here));
        spared = λ q e. held-other x.held t.home h q (λ z. n (same_Some _ _ (sym here ∙ ap (λ k. (x.held k).area) (sym z) ∙ e)));
        untold = λ e. retold-none x.device new e;
        told = not_none;
      }

-- the same for areas that have a word below an address
pub EvictedBelow-none : (upto : ℕ) (x : Storage) → EvictedBelow upto x x
EvictedBelow-none upto x = record { evicted = AreasEvicted-none x 0; stays = λ at a h e. e }

pub EvictedBelow-then : (upto : ℕ) (x y z : Storage) → EvictedBelow upto x y → EvictedBelow upto y z → EvictedBelow upto x z
EvictedBelow-then upto x y z a b = record {
  evicted = AreasEvicted-then x y z 0 a.evicted b.evicted;
  stays = λ at i h e. b.stays at i h (a.stays at i h e);
}

pub EvictedBelow-retelling : (upto : ℕ) (x : Storage) (told new : Option (List (List ℕ))) → Says x.device told → ((all : List (List ℕ)) → told ≡ Some all → new ≢ None) → EvictedBelow upto x (retelling x new)
EvictedBelow-retelling upto x told new says tells = record { evicted = AreasEvicted-retelling x told new says tells 0; stays = λ at a h e. e }

other_area : (low at b : ℕ) (ss : List Span) (a : Info) → at ≢ b → area_at low ss b ≡ Some a → area_at low (without low at ss) b ≡ Some a
other_area low at b ss a n e = area_at-without low at ss b ∙ cond-false (at == b) None (area_at low ss b) (ne_eqb at b n) ∙ e

pub EvictedBelow-overlaid : (upto : ℕ) (x : Storage) (told new : Option (List (List ℕ))) → Says x.device told → ((all : List (List ℕ)) → told ≡ Some all → new ≢ None)
    → (t : PagedObject) (at : ℕ) → (x.held t.home).area ≡ Some at → at ≢ 0 → at ≤ upto → EvictedBelow upto x (overlaid x t at new)
EvictedBelow-overlaid upto x told new says tells t at here n within = record {
  evicted = AreasEvicted-overlaid x told new says tells t at 0 here n;
  stays = λ b a h e. other_area x.low at b x.spans a (λ z. omega (arith, z, h, within)) e;
}

-- the object of an area
pub at_area : (x : Storage) (cpu : Cpu) (areas : Areas) (table : Table) (told : Option (List (List ℕ))) (p : MachineView) → MachineCanPage x cpu areas table told p → (at : ℕ) (a : Info) → area_at x.low x.spans at ≡ Some a → (t : PagedObject) × IsPresent x p at t
at_area x cpu areas table told p m at a e = let o = m.stands.owned.of_area at a e in (o.0, record { there = o.1; present = o.2 })

-- a walk upwards that gives areas back: the machine stands, and the next area is there
pub record Walks (y : Storage) (p : MachineView) (spare : ℕ) (next : Option ℕ) (cpu : Cpu) (areas : Areas) (table : Table) (told : Option (List (List ℕ))) : Type 0 where
  pub remains : Remains y.low y.spans spare next
  pub stands : MachineCanPage y cpu areas table told p

pub directory_of : {y : Storage} {cpu : Cpu} {areas : Areas} {table : Table} {told : Option (List (List ℕ))} {p : MachineView} → MachineCanPage y cpu areas table told p → IsDirectory cpu.core areas.low y.spans
directory_of {y} {cpu} m = subst (λ (n : ℕ). IsDirectory cpu.core n y.spans) (sym m.low) m.stands.directory

-- the walk begins
pub walk_begins : {y : Storage} {cpu : Cpu} {areas : Areas} {table : Table} {told : Option (List (List ℕ))} {p : MachineView} (spare : ℕ) (next : Option ℕ) → MachineCanPage y cpu areas table told p
    → ((ss : List Span) → IsDirectory cpu.core areas.low ss → next ≡ first_area areas.low ss) → Walks y p spare next cpu areas table told
walk_begins {y} spare next m first =
    let e : next ≡ first_area y.low y.spans = first y.spans (directory_of m) ∙ ap (λ (n : ℕ). first_area n y.spans) m.low in
    let P : Option ℕ → Type 0 = λ o. Remains y.low y.spans spare o in
    record { remains = subst P (sym e) (Remains-first y.low y.spans spare); stands = m }

-- a turn of it
module _ {y : Storage} {p : MachineView} {spare : ℕ} {next : Option ℕ} {cpu : Cpu} {areas : Areas} {table : Table} {told : Option (List (List ℕ))} (w : Walks y p spare next cpu areas table told) where
  at_next : (o : Option ℕ) → next ≡ o → Remains y.low y.spans spare o
  at_next o is = let P : Option ℕ → Type 0 = λ o. Remains y.low y.spans spare o in subst P is w.remains

  pub none_here : next ≡ None → (at : ℕ) (a : Info) → area_at y.low y.spans at ≡ Some a → at ≡ spare
  none_here is = at_next None is

  module _ {at : ℕ} (is : next ≡ Some at) where
    here : Remains y.low y.spans spare (Some at)
    here = at_next (Some at) is

    pub above_here : (b : ℕ) (a : Info) → area_at y.low y.spans b ≡ Some a → (b ≡ spare) ⊎ (at ≤ b)
    above_here = here.1

    low_here : area_at areas.low y.spans at ≡ Some here.0.0
    low_here = ap (λ (n : ℕ). area_at n y.spans at) w.stands.low ∙ here.0.1

    pub directory_here : (ss : List Span) × (a : Info) × IsDirectory cpu.core areas.low ss × (area_at areas.low ss at ≡ Some a)
    directory_here = (y.spans, here.0.0, directory_of w.stands, low_here)

    pub object_here : (t : PagedObject) × IsPresent y p at t
    object_here = at_area y cpu areas table told p w.stands at here.0.0 here.0.1

    pub small_here : (y.low < at) × (at < 2 ^ 20)
    small_here = let b = area_inside cpu.core y.low y.spans at here.0.0 w.stands.stands.directory here.0.1 in (b.0, omega (arith, b.1, w.stands.stands.directory.small))

    module _ (later : Option ℕ) (after : (ss : List Span) (a : Info) → IsDirectory cpu.core areas.low ss → area_at areas.low ss at ≡ Some a → later ≡ area_after areas.low ss at) where
      after_here : later ≡ area_after y.low y.spans at
      after_here = after y.spans here.0.0 (directory_of w.stands) low_here ∙ ap (λ (n : ℕ). area_after n y.spans at) w.stands.low

      pub falls_here : left_of later < left_of next
      falls_here =
          let f = walk_falls y.low y.spans at here.0.0 here.0.1 small_here.1 in
          omega (arith, f, ap left_of after_here, ap left_of is)

      pub gone_here : at ≢ spare → Remains y.low (without y.low at y.spans) spare later
      gone_here n = let P : Option ℕ → Type 0 = λ o. Remains y.low (without y.low at y.spans) spare o in subst P (sym after_here) (Remains-gone y.low y.spans spare at n here)

      pub past_here : at ≡ spare → Remains y.low y.spans spare later
      past_here q = let P : Option ℕ → Type 0 = λ o. Remains y.low y.spans spare o in subst P (sym after_here) (Remains-past y.low y.spans spare at q here)

-- an array that was short stays so
pub short_at : (y : Storage) (p : MachineView) (t : PagedObject) (at wants free : ℕ) (told : Option (List (List ℕ))) → IsPresent y p at t → IsShort y t × (wants ≡ sectors_for (length t.numbers)) × (free ≡ length y.shelf.free)
    → (short : IsShortBy (retelling y told) p wants free) × (short.at ≡ at)
short_at y p t at wants free told pr s = (
  record {
    object = t;
    at = at;
    present = record { there = pr.there; present = pr.present };
    short = record { kind = s.0.kind; none = s.0.none; few = s.0.few };
    wants_is = s.1;
    free_is = s.2;
  },
  refl,
)

pub short_by : (y : Storage) (p : MachineView) (t : PagedObject) (at wants free : ℕ) (told : Option (List (List ℕ))) → IsPresent y p at t → IsShort y t × (wants ≡ sectors_for (length t.numbers)) × (free ≡ length y.shelf.free) → IsShortBy (retelling y told) p wants free
short_by y p t at wants free told pr s = (short_at y p t at wants free told pr s).0
