-- A machine represents a view with other numbers in its objects, if these are what is in core.
use Rattle.std.proofs.Common.{◌≡◌, ℕ, zero, suc, ◌<◌, List, length, replicate, Some, None, refl, sym, ◌∙◌, ap, subst, arith}
use Rattle.std.proofs.lemmas.List.{length-replicate}
use Rattle.b67_word.specs.Tagged.{Tagged}
use Rattle.b67_ctl.specs.declared.registers.Regs.{Regs}
use Rattle.b67_area.specs.declared.Info.{Info}
use Rattle.b67_area.specs.declared.Kind.TheVariants as kind
use Rattle.b67_word.specs.Sectors.{sectors_for}
use Rattle.b67_lemmas.specs.Lists.{Has}
use Rattle.b67_stack.specs.Common.{PagedObject, Slot, MachineView, is_present, address_or, SlotFits, IsLaidOut, AreZero, Storage, RepresentsSlot, RepresentsObject, ObjectHasChain, Content, info_of, Represents}
use Rattle.b67_layout_shown.specs.Shown.{contents_by}
use Rattle.b67_layout_shown.proofs.Contents.{up_numbers}

-- an object with the numbers that core has of it
abbrev pub read_object : Storage → List Tagged → PagedObject → PagedObject
read_object x core t = record t { numbers = contents_by core (length t.numbers) (address_or (x.held t.home).area (x.held t.home).chain) (is_present (x.held t.home).area) }

pub record Reads (x : Storage) (core : List Tagged) (objects read : List PagedObject) : Type 0 where
  pub to : (t : PagedObject) → Has objects t → Has read (read_object x core t)
  pub from : (u : PagedObject) → Has read u → (t : PagedObject) × Has objects t × (read_object x core t ≡ u)

module _ (x : Storage) (core : List Tagged) (r : Regs) (p : MachineView) (read : List PagedObject) (stands : Represents x core r p) (reads : Reads x core p.objects read) (untold : x.device ≡ None) where
  abbrev f : PagedObject → PagedObject
  f t = read_object x core t

  -- ---- numbers

  record Same (t u : PagedObject) : Type 0 where
    long : length u.numbers ≡ length t.numbers
    content : Content x core u (x.held t.home).area (x.held t.home).chain

  zeros : (n : ℕ) → AreZero (replicate n zero)
  zeros zero = tt
  zeros (suc n) = (refl, zeros n)

  has_chain : (t : PagedObject) (ns : List ℕ) (first : ℕ) → length ns ≡ length t.numbers → ObjectHasChain x t first → ObjectHasChain x (record t { numbers = ns }) first
  has_chain t ns first e h = record { some = h.some; small = h.small; sectors = h.sectors ∙ ap sectors_for (sym e) }

  content_read : (t : PagedObject) → Has p.objects t → Same t (f t)
  content_read t there = grind (arith, up_numbers, length-replicate, zeros)

  -- ---- the view

  info_same : (t : PagedObject) (a : Info) → length (f t).numbers ≡ length t.numbers → a ≡ info_of x t → a ≡ info_of x (f t)
  info_same t a long e = e ∙ ap (λ n. record { kind = t.kind; words = n; owner = t.home; kept = (x.held t.home).chain }) (sym long)

  fits_over : (k : ℕ) (sl : Slot) → SlotFits p k sl → SlotFits (record p { objects = read }) k sl
  fits_over k sl h = grind arith

  slot_over : (k : ℕ) (sl : Slot) → RepresentsSlot core r p k sl → RepresentsSlot core r (record p { objects = read }) k sl
  slot_over k sl h = grind arith

  -- what holds of each object holds of it with the numbers read
  each : (Q : PagedObject → Type 0) → ((t : PagedObject) → Has p.objects t → Q (f t)) → (u : PagedObject) → Has read u → Q u
  each Q h u there = let (t, in_old, is) = reads.from u there in subst Q is (h t in_old)

  laid_over : IsLaidOut x.low (record p { objects = read })
  laid_over = grind (arith, fits_over, content_read)

  object_over : (t : PagedObject) → Has p.objects t → RepresentsObject x core (f t)
  object_over t there = grind (arith, content_read)

  pub represents_over : Represents x core r (record p { objects = read })
  represents_over = record {
    slots = record { laid = laid_over; regs = record { stacks = stands.slots.regs.stacks; size = stands.slots.regs.size; peak = stands.slots.regs.peak }; slots = λ k small. slot_over k (p.slots k) (stands.slots.slots k small) };
    stacks = stands.stacks;
    objects = each (RepresentsObject x core) object_over;
    owned = record {
      of_area = λ at a e. (let (t, there, area, info) = stands.owned.of_area at a e in (f t, reads.to t there, area, info_same t a (content_read t there).long info));
      of_held = λ home at e. (let (t, there, is, area) = stands.owned.of_held home at e in (f t, reads.to t there, is, area ∙ ap Some (info_same t (info_of x t) (content_read t there).long refl)));
      of_chain = λ first some. (let (t, there, is) = stands.owned.of_chain first some in (f t, reads.to t there, is));
      no_zero = stands.owned.no_zero;
      one_chain = λ u v hu hv some e.
          let (t, ht, et) = reads.from u hu in
          let (w, hw, ew) = reads.from v hv in
          let a = ap (λ (q : PagedObject). q.home) et in
          let b = ap (λ (q : PagedObject). q.home) ew in
          sym a ∙ stands.owned.one_chain t w ht hw (subst (λ n. 0 < (x.held n).chain) (sym a) some) (ap (λ n. (x.held n).chain) a ∙ e ∙ ap (λ n. (x.held n).chain) (sym b)) ∙ b;
    };
    directory = stands.directory;
    inside = stands.inside;
  }
