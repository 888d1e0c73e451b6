-- An array that gets zeros after its numbers, in a chain that goes on.
use Rattle.std.proofs.Common.{◌≡◌, ◌≢◌, ℕ, zero, suc, ◌+◌, ◌-◌, ◌<◌, ◌≤◌, ◌^◌, ◌==◌, List, [], ◌∷◌, ◌++◌, length, map, take, replicate, Option, Some, None, refl, sym, ◌∙◌, ap, arith, inl, inr, ⊎_elim, subst, slice_set, length-append}
use Rattle.std.specs.List.{slice_get}
use Rattle.std.proofs.lemmas.List.{length-set, length-map, length-replicate}
use Rattle.std.proofs.lemmas.Option.{none-some}
use Rattle.std.proofs.lemmas.Bool.{cases_eq, cases_lt}
use Rattle.b67_word.specs.Common.{Tagged, word, number}
use Rattle.b67_core.proofs.Writes.{slice_get-set_same, slice_get-set_other}
use Rattle.b67_area.specs.declared.Kind.TheVariants.{Array}
use Rattle.b67_area.specs.Spans.{area_at}
use Rattle.b67_area.proofs.Climbs.{area_at-low}
use Rattle.b67_area.proofs.Separation.{IsDirectory-set_below}
use Rattle.b67_backing.specs.Shelf.{Table, Shelf, IsShelf, chain_of, first}
use Rattle.b67_backing.specs.Held.{SameBut, sectors_for}
use Rattle.b67_backing.specs.Extending.{extended, sectors_more, Prolongs, ExtendMeets, KeepsDevice}
use Rattle.b67_lemmas.specs.Lists.{Has}
use Rattle.b67_ctl.specs.declared.registers.Regs.{Regs}
use Rattle.b67_stack.specs.Common.{Location, PagedObject, MachineView, slot_base, home_word_of, object_words, Storage, Represents, HoldsIn, Told, info_of, TakesPlace}
use Rattle.b67_layout.specs.Machine.{IsPresent, DeviceAfterCalls, Says, content_after}
use Rattle.b67_overlay.specs.Spans.{MachineCanPage}
use Rattle.b67_stack.proofs.Unchanged.{area_of_object, home_below}
use Rattle.b67_layout.proofs.Words.{StacksLie-home, original_word}
use Rattle.b67_stack.proofs.Helds.{held-other, held-same}
use Rattle.b67_stack.proofs.Reheld.{storage_with}
use Rattle.b67_layout.proofs.Changed.{Changed, Represents-changed}
use Rattle.std.specs.Prelude.{Result, Ok, Err}
use Rattle.b67_area.specs.declared.Areas.{Areas}
use Rattle.b67_backing.specs.declared.SpaceFault.{SpaceFault}
use Rattle.b67_backing.specs.declared.SpaceFault.TheVariants as spaces
use Rattle.b67_stack.specs.declared.Cpu.{Cpu}
use Rattle.b67_overlay.specs.AreasEvicted.{Overlays}
use Rattle.b67_overlay.specs.Overlaid.{retelling, overlaid, chain_out, IsShort}
use Rattle.b67_overlay.proofs.Chains.{free_apart, free_first, Told-same, Says-retold}
use Rattle.b67_mcp.specs.Lengths.{grown_to, OthersStay, LengthenMeets}
use Rattle.b67_mcp.proofs.Freed.{hole_freed}

-- what a device tells after a call
abbrev pub Tells : Option (List (List ℕ)) → Option (List (List ℕ)) → (List (List ℕ) → List (List ℕ) → Type 0) → Type 0
Tells told new R = (all : List (List ℕ)) → told ≡ Some all → (y : List (List ℕ)) × (new ≡ Some y) × R all y

-- only sectors that were free hold something else
module _ (x : Storage) (core : List Tagged) (r : Regs) (p : MachineView) (s : Represents x core r p) (table : Table) (sh : IsShelf table x.shelf) (told new : Option (List (List ℕ))) (says : Says x.device told) (n : ℕ)
    (f : Tells told new (SameBut (take n x.shelf.free))) where
  pub told_stays : (c : ℕ) (ns : List ℕ) → Told x.device (chain_of c x.shelf.chains) ns → Told (content_after x.device new) (chain_of c x.shelf.chains) ns
  told_stays c ns h = Told-same (take n x.shelf.free) (chain_of c x.shelf.chains) ns x.device told new says f (free_apart table x.shelf sh c n) h

  pub retold_free : Represents (retelling x new) core r p
  retold_free = grind (arith, told_stays)

-- the words of an array with zeros after them
numbers_grown : (ns : List ℕ) (k : ℕ) → map number (map (word 0) (ns ++ replicate k zero)) ≡ map number (map (word 0) ns) ++ replicate k zero
numbers_grown [] zero = refl
numbers_grown [] (suc k) = ap (λ (ms : List ℕ). 0 ∷ ms) (numbers_grown [] k)
numbers_grown (n ∷ ns) k = ap (λ (ms : List ℕ). number (word 0 n) ∷ ms) (numbers_grown ns k)

module _ (x : Storage) (core : List Tagged) (r : Regs) (p : MachineView) (s : Represents x core r p) (t : PagedObject) (int : Has p.objects t) (array : t.kind ≡ Array) (absent : (x.held t.home).area ≡ None) (some : 0 < (x.held t.home).chain) where
  abbrev c : ℕ
  c = (x.held t.home).chain

  pub rests : HoldsIn x t (x.held t.home).chain
  rests = grind arith

  module _ (table table' : Table) (sh : IsShelf table x.shelf) (told new : Option (List (List ℕ))) (says : Says x.device told) (words : ℕ) (longer : length t.numbers < words) (few : words < 2 ^ 16) where
    abbrev more : ℕ
    more = sectors_more (length t.numbers) words

    abbrev h : Location
    h = record { area = None; chain = (x.held t.home).chain }

    abbrev w : Tagged
    w = home_word_of t.kind words h

    abbrev core' : List Tagged
    core' = slice_set core t.home w

    abbrev shelf : Shelf
    shelf = extended c more x.shelf

    abbrev device : Option (List (List ℕ))
    device = content_after x.device new

    below : (160 ≤ t.home) × (t.home < x.low)
    below = home_below x core r p s t int

    other : (i : ℕ) → i ≢ t.home → slice_get core' i ≡ slice_get core i
    other i n = slice_get-set_other core t.home i w n

    here : slice_get core' t.home ≡ Some w
    here = slice_get-set_same core t.home w (omega (arith, below.1, s.inside))

    none_held : (b : ℕ) → (x.held t.home).area ≢ Some b
    none_held b e = none-some b (sym absent ∙ e)

    long : length (grown_to words t).numbers ≡ words
    long = length-append t.numbers (replicate (words - length t.numbers) zero) ∙ (let e : length t.numbers + length (replicate (words - length t.numbers) zero) ≡ words = omega (arith, length-replicate (words - length t.numbers) zero, longer) in e)

    own_chain : (u : PagedObject) → Has p.objects u → u.home ≢ t.home → (x.held u.home).chain ≢ c
    own_chain u inu m e = m (s.owned.one_chain u t inu int (omega (arith, some, e)) e)

    module _ (chain : (y : ℕ) → y ≢ (x.held t.home).chain → chain_of y (extended (x.held t.home).chain (sectors_more (length t.numbers) words) x.shelf).chains ≡ chain_of y x.shelf.chains)
        (many : length (chain_of (x.held t.home).chain (extended (x.held t.home).chain (sectors_more (length t.numbers) words) x.shelf).chains) ≡ sectors_for words)
        (same : Tells told new (SameBut (take (sectors_more (length t.numbers) words) x.shelf.free)))
        (content : Tells told new (Prolongs (chain_of (x.held t.home).chain x.shelf.chains) (chain_of (x.held t.home).chain (extended (x.held t.home).chain (sectors_more (length t.numbers) words) x.shelf).chains) (length t.numbers) words))
        (objects : List PagedObject) (re : TakesPlace p.objects objects t (grown_to words t)) where
      -- the longer chain holds the numbers and the zeros
      told_more : (d : Option (List (List ℕ))) → Says d told → Told d (chain_of c x.shelf.chains) (map number (object_words t)) → Told (content_after d new) (chain_of c shelf.chains) (map number (object_words t) ++ replicate (words - length t.numbers) zero)
      told_more None says h = tt
      told_more (Some all) says h =
          let k = content all says in
          grind (arith, length-map)

      numbers_are : map number (object_words (grown_to words t)) ≡ map number (object_words t) ++ replicate (words - length t.numbers) zero
      numbers_are = grind (arith, numbers_grown)

      abbrev y : Storage
      y = storage_with x t.home h x.spans shelf device

      holds : HoldsIn y (grown_to words t) c
      holds = grind (arith, long, numbers_are, told_more)

      changed : Changed x core core' p t (grown_to words t) h x.spans shelf device
      changed = record {
        bases = λ k hk. other (slot_base p k) (λ e. s.slots.laid.not_base t int k hk (sym e));
        stacks = StacksLie-home x core r p s t int core' h w absent (λ i low up n. other i n) here (λ n. original_word t.kind words h n (omega (arith, few)) rests.chain.small (λ b e. absurd (none-some b e)));
        home = here ∙ ap (λ (m : ℕ). Some (home_word_of t.kind m h)) (sym long);
        content = inl holds;
        others = λ u inu m. record {
          word = other u.home m;
          body = λ b e q down high. other q (λ z. let l = area_at-low x.low x.spans b (info_of x u) (area_of_object x core r p s u inu b e) in omega (arith, l, z, below.1, down));
          chain = record { chain = chain (x.held u.home).chain (own_chain u inu m); told = told_stays x core r p s table sh told new says more same (x.held u.home).chain };
        };
        area_of = λ b i e. inr (e, none_held b);
        area_here = λ b e. absurd (none-some b e);
        area_stays = λ b i e m. e;
        chains_of = λ g has. ⊎_elim
            (λ (e : g ≡ c). inl e)
            (λ (n : g ≡ c → ⊥). inr (omega (arith, has, ap length (chain g n)), n))
            (cases_eq g c);
        no_zero = chain 0 (λ e. omega (arith, some, e)) ∙ s.owned.no_zero;
        own_chain = λ u inu m has. own_chain u inu m;
        directory = IsDirectory-set_below core x.low x.spans t.home w s.directory below.1 (inr below.0);
        size = length-set core t.home w;
      }

      pub made_longer : Represents (storage_with x t.home (record { area = None; chain = (x.held t.home).chain }) x.spans (extended (x.held t.home).chain (sectors_more (length t.numbers) words) x.shelf) (content_after x.device new))
          (slice_set core t.home (home_word_of t.kind words (record { area = None; chain = (x.held t.home).chain }))) r (record p { objects = objects })
      made_longer = Represents-changed x core core' r p objects t (grown_to words t) h x.spans shelf device int s re changed

-- an array that was written out is absent, in a chain
pub record IsOut (y : Storage) (t : PagedObject) : Type 0 where
  pub absent : (y.held t.home).area ≡ None
  pub some : 0 < (y.held t.home).chain

pub is_out : (x : Storage) (core : List Tagged) (r : Regs) (p : MachineView) → Represents x core r p → (t : PagedObject) → Has p.objects t → t.kind ≡ Array → (table : Table) → IsShelf table x.shelf → (at : ℕ) (told : Option (List (List ℕ))) → (IsShort x t → ⊥) → IsOut (overlaid x t at told) t
is_out x core r p s t int array table sh at told full = grind (arith, held-same, ⊎_elim, cases_lt, free_first)

-- all but it is held as it was
pub others_out : (x : Storage) (t : PagedObject) (at : ℕ) (told : Option (List (List ℕ))) → OthersStay x (overlaid x t at told) t.home told
others_out x t at told = record { low = refl; others = λ q n. held-other x.held t.home (record { area = None; chain = chain_out x.shelf (x.held t.home).chain }) q n; device = refl }

-- a device that is retold twice
pub retold_twice : (d told told1 told2 : Option (List (List ℕ))) → Says d told → ((all : List (List ℕ)) → told ≡ Some all → (y : List (List ℕ)) × (told1 ≡ Some y)) → content_after (content_after d told1) told2 ≡ content_after d told2
retold_twice d told told1 told2 says f = grind arith

-- refusals
module _ {D : Type 0} (tell : D → Option (List (List ℕ))) (x : Storage) (p : MachineView) (t : PagedObject) (at words : ℕ) (areas : Areas) where
  pub refused_overlay : (fault : SpaceFault) (old cpu : Cpu) (table table' : Table) (b0 b1 : D) → IsPresent x p at t → ((need size : ℕ) → ◌≡◌ {A = Result (Unit {0}) SpaceFault} (Err fault) (Err (spaces.NoCore need size)) → ⊥) → Overlays tell x p at t (Err fault) old cpu areas table table' b0 b1
      → LengthenMeets x p t words (Err fault) cpu areas table' (tell b1)
  refused_overlay (spaces.BackingFull wants free) old cpu table table' b0 b1 h none o =
      let k = (o.full wants free).0 refl in
      (retelling x (tell b1), record { low = refl; others = λ q n. refl; device = refl }, o.refused, (k.2, omega (arith, k.0.few, k.1, k.2), inl (k.0.none, λ e. none-some at (sym e ∙ h.present), k.1)), λ e. absurd (none-some at (sym e ∙ h.present)))
  refused_overlay spaces.BackingFault old cpu table table' b0 b1 h none o = (retelling x (tell b1), record { low = refl; others = λ q n. refl; device = refl }, o.refused)
  refused_overlay (spaces.NoCore need size) old cpu table table' b0 b1 h none o = none need size refl

  -- the chain is as before
  pub refused_extend : (fault : SpaceFault) (told : Option (List (List ℕ))) (cpu : Cpu) (t1 t2 : Table) (b1 b2 : D) → Says x.device told → ((all : List (List ℕ)) → told ≡ Some all → (y : List (List ℕ)) × (tell b1 ≡ Some y))
      → area_at x.low x.spans at ≡ Some (info_of x t) → MachineCanPage (overlaid x t at (tell b1)) cpu areas t1 (tell b1) p → IsOut (overlaid x t at (tell b1)) t → length t.numbers < words
      → ExtendMeets tell b1 b2 t1 t2 (overlaid x t at (tell b1)).shelf ((overlaid x t at (tell b1)).held t.home).chain (length t.numbers) words (Err fault)
      → LengthenMeets x p t words (Err fault) cpu areas t2 (tell b2)
  refused_extend (spaces.BackingFull wants free) told cpu t1 t2 b1 b2 says f was m out longer (w, e, less, same, still) =
      let y = overlaid x t at (tell b1) in
      let M : Table → D → Type 0 = λ z b. MachineCanPage y cpu areas z (tell b) p in
      let O : D → Type 0 = λ b. OthersStay x y t.home (tell b) in
      (y, subst O (sym still) (others_out x t at (tell b1)), subst (λ (z : Table). M z b2) (sym same) (subst (M t1) (sym still) m), (e, less, inr (λ z. omega (arith, out.some, z), omega (arith, w, longer))), λ none. hole_freed x.low at x.spans (info_of x t) was)
  refused_extend spaces.BackingFault told cpu t1 t2 b1 b2 says f was m out longer (room, shelf, same) =
      let y = overlaid x t at (tell b1) in (
        retelling y (tell b2),
        record { low = refl; others = (others_out x t at (tell b1)).others; device = retold_twice x.device told (tell b1) (tell b2) says f },
        record {
          stands = retold_free y cpu.core cpu.regs p m.stands t1 m.shelf (tell b1) (tell b2) m.device (sectors_more (length t.numbers) words) same.told;
          low = m.low;
          shelf = shelf;
          device = Says-retold y.device (tell b1) (tell b2) m.device (λ all is. let k = same.told all is in (k.0, k.1));
          copies = m.copies;
        },
      )
  refused_extend (spaces.NoCore need size) told cpu t1 t2 b1 b2 says f was m out longer e = e

-- a device after a chain was made longer, or wasn't
pub device_extended : {D : Type 0} (tell : D → Option (List (List ℕ))) (many counted failed : D → ℕ) (b1 b2 : D) (t1 t2 : Table) (s : Shelf) (first have want : ℕ) (result : Result (Unit {0}) SpaceFault) → KeepsDevice many counted failed b1 b2 result
    → ExtendMeets tell b1 b2 t1 t2 s first have want result → DeviceAfterCalls tell many counted failed b1 b2
device_extended tell many counted failed b1 b2 t1 t2 s first have want result d e = record { size = d.size; calls = d.calls; faults = d.faults; tells = record { told = by result e } } where
  by : (result : Result (Unit {0}) SpaceFault) → ExtendMeets tell b1 b2 t1 t2 s first have want result → (all : List (List ℕ)) → tell b1 ≡ Some all → (y : List (List ℕ)) × (tell b2 ≡ Some y) × (length y ≡ length all)
  by (Ok done) e all is = let k = e.same.told all is in (k.0, k.1, k.2.count)
  by (Err (spaces.BackingFull wants free)) (w, f, less, same, still) all is = (all, ap tell still ∙ is, refl)
  by (Err spaces.BackingFault) (room, shelf, same) all is = let k = same.told all is in (k.0, k.1, k.2.count)
  by (Err (spaces.NoCore need size)) e all is = absurd e
