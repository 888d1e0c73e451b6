-- A machine represents a view with one array more, of which nothing is held, where the word of its original stands.
use Rattle.std.proofs.Common.{◌≡◌, ◌≢◌, ℕ, ◌<◌, ◌≤◌, ◌^◌, List, length, Some, sym, ◌∙◌, ap, arith, inl, inr, ◌⊎◌, subst}
use Rattle.std.specs.List.{slice_get}
use Rattle.b67_word.specs.Tagged.{Tagged}
use Rattle.b67_area.specs.declared.Kind.TheVariants.{Array, Code}
use Rattle.b67_ctl.specs.declared.registers.Regs.{Regs}
use Rattle.b67_lemmas.specs.Lists.{Has}
use Rattle.b67_stack.specs.Common.{Location, nowhere, PagedObject, MachineView, Slot, SlotFits, AreZero, home_word, slot_base, Storage, RepresentsSlot, RepresentsObject, Represents}
use Rattle.b67_layout.proofs.Objects.{of_objects}

-- an array of zeros that was never touched, at an address where no object is known
pub record Fresh (x : Storage) (core : List Tagged) (p : MachineView) (new : PagedObject) : Type 0 where
  pub array : new.kind ≡ Array
  pub zeros : AreZero new.numbers
  pub long : (0 < length new.numbers) × (length new.numbers < 2 ^ 16)
  pub apart : (t : PagedObject) → Has p.objects t → t.home ≢ new.home
  pub low : 160 ≤ new.home
  pub high : new.home < x.low
  pub not_base : (k : ℕ) → k < p.peak → new.home ≢ slot_base p k
  pub held : x.held new.home ≡ nowhere
  pub word : slice_get core new.home ≡ Some (home_word new nowhere)

-- the objects with one more
pub record Added (old : List PagedObject) (new : PagedObject) (all : List PagedObject) : Type 0 where
  pub there : (t : PagedObject) → Has old t → Has all t
  pub mine : Has all new
  pub back : (t : PagedObject) → Has all t → (t ≡ new) ⊎ Has old t

pub each : (old : List PagedObject) (new : PagedObject) (all : List PagedObject) (a : Added old new all) (P : PagedObject → Type 0) → P new → ((t : PagedObject) → Has old t → P t) → (t : PagedObject) → Has all t → P t
each old new all a P here o t i = elim (a.back t i) [ inl e ↦ subst P (sym e) here | inr k ↦ o t k ]

module _ (x : Storage) (core : List Tagged) (r : Regs) (p : MachineView) (new : PagedObject) (all : List PagedObject) (s : Represents x core r p) (f : Fresh x core p new) (a : Added p.objects new all) where
  fits : (k : ℕ) (slot : Slot) → SlotFits p k slot → SlotFits (of_objects p all) k slot
  fits k slot g = grind arith

  stands : (k : ℕ) (slot : Slot) → RepresentsSlot core r p k slot → RepresentsSlot core r (of_objects p all) k slot
  stands k slot g = grind arith

  new_object : RepresentsObject x core new
  new_object = grind arith

  no_chain : (t : PagedObject) → t ≡ new → (x.held t.home).chain ≡ 0
  no_chain t e = ap (λ (u : PagedObject). (x.held u.home).chain) e ∙ ap (λ (g : Location). g.chain) f.held

  pub Represents-added : Represents x core r (of_objects p all)
  Represents-added = record {
    slots = record {
      laid = record {
        low = s.slots.laid.low;
        first = s.slots.laid.first;
        room = s.slots.laid.room;
        slots = λ k h. fits k (p.slots k) (s.slots.laid.slots k h);
        homes = each p.objects new all a (λ t. (160 ≤ t.home) × (t.home < x.low)) (f.low, f.high) s.slots.laid.homes;
        codes = each p.objects new all a (λ t. t.kind ≡ Code → t.home < p.stacks) (λ e. absurd (let z : Array ≡ Code = sym f.array ∙ e in let b : ⊥ = cc in b)) s.slots.laid.codes;
        differ = λ t u i j e. elim (a.back t i) [
          | inl z ↦ elim (a.back u j) [
            | inl w ↦ z ∙ sym w
            | inr l ↦ absurd (f.apart u l (sym e ∙ ap (λ (v : PagedObject). v.home) z))
          ]
          | inr k ↦ elim (a.back u j) [
            | inl w ↦ absurd (f.apart t k (e ∙ ap (λ (v : PagedObject). v.home) w))
            | inr l ↦ s.slots.laid.differ t u k l e
          ]
        ];
        not_base = each p.objects new all a (λ t. (k : ℕ) → k < p.peak → t.home ≢ slot_base p k) f.not_base s.slots.laid.not_base;
        lengths = each p.objects new all a (λ t. (0 < length t.numbers) × (length t.numbers < 2 ^ 16)) f.long s.slots.laid.lengths;
      };
      regs = record { stacks = s.slots.regs.stacks; size = s.slots.regs.size; peak = s.slots.regs.peak };
      slots = λ k h. stands k (p.slots k) (s.slots.slots k h);
    };
    stacks = s.stacks;
    objects = each p.objects new all a (RepresentsObject x core) new_object s.objects;
    owned = record {
      of_area = λ at b e. let (t, i, h, q) = s.owned.of_area at b e in (t, a.there t i, h, q);
      of_held = λ home at e. let (t, i, h, q) = s.owned.of_held home at e in (t, a.there t i, h, q);
      of_chain = λ first e. let (t, i, h) = s.owned.of_chain first e in (t, a.there t i, h);
      no_zero = s.owned.no_zero;
      one_chain = λ t u i j some e. elim (a.back t i) [
        | inl z ↦ absurd (let b : ⊥ = omega (arith, some, no_chain t z) in b)
        | inr k ↦ elim (a.back u j) [
          | inl z ↦ absurd (let b : ⊥ = omega (arith, some, e, no_chain u z) in b)
          | inr l ↦ s.owned.one_chain t u k l some e
        ]
      ];
    };
    directory = s.directory;
    inside = s.inside;
  }
