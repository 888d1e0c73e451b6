use Rattle.std.proofs.Common.{◌≡◌, ◌≢◌, ◌⊎◌, ℕ, ◌+◌, ◌<◌, ◌≤◌, List, length, map, Option, Some, Result, Err, refl, ap, arith, sym, ◌∙◌, subst, inl, inr, ⊎_elim}
use Rattle.std.specs.Prelude.{slice_range}
use Rattle.b67_word.specs.Common.{Tagged, word, number}
use Rattle.b67_area.specs.declared.Areas.{Areas}
use Rattle.b67_area.specs.declared.Info.{Info}
use Rattle.b67_area.specs.declared.Kind.TheVariants.{Array, Row, Code}
use Rattle.b67_area.specs.Spans.{Span, area_at}
use Rattle.b67_area.specs.Directory.{IsDirectory}
use Rattle.b67_backing.specs.Shelf.{Table, IsShelf, HasChain as ChainIs}
use Rattle.b67_backing.specs.Held.{sectors_for, Stores, SameBut, Changes}
use Rattle.b67_stack.specs.Common.{PagedObject, MachineView, object_words, tag_of, Storage, Represents, ObjectHasChain, info_of}
use Rattle.b67_layout.specs.Machine.{IsPresent, content_after}
use Rattle.b67_overlay.specs.Spans.{MachineCanPage}
use Rattle.std.proofs.lemmas.List.{length-map}
use Rattle.b67_layout.proofs.Below.{Stayed-none}
use Rattle.b67_overlay.specs.Overlaid.{chain_out, shelf_out, sectors_out, overlaid, dropped, IsOut}
use Rattle.b67_overlay.proofs.Sectors.{About, about, area_here, directory_at, info_is, kept_chain, out_written, Represents-retold, range_up}
use Rattle.b67_ctl.specs.declared.registers.Regs.{Regs}
use Rattle.b67_stack.specs.declared.Cpu.{Cpu}
use Rattle.b67_backing.specs.declared.SpaceFault.{SpaceFault}
use Rattle.b67_backing.specs.declared.SpaceFault.TheVariants.{BackingFull}
use Rattle.b67_overlay.proofs.Answered.{ok_err, same_err}
use Rattle.b67_overlay.proofs.Finish.{overlaid_machine, retold_machine}
use Rattle.b67_overlay.proofs.overlays.overlay.Goals as goal

-- what is known of an area by what info says of it
record Known (x : Storage) (core : List Tagged) (table : Table) (area : ℕ) (t : PagedObject) (i : Info) : Type 0 where
  facts : About x core area t
  is : i ≡ info_of x t
  array : i.kind ≡ Array → t.kind ≡ Array
  no_array : (i.kind ≡ Row) ⊎ (i.kind ≡ Code) → t.kind ≢ Array
  chain : i.kind ≡ Array → (i.kept ≡ 0) ⊎ ChainIs table x.shelf i.kept (sectors_for i.words)

-- what is known once it is written out
record Written (x : Storage) (p : MachineView) (t : PagedObject) (told new : Option (List (List ℕ))) (first : ℕ) (after : Table) : Type 0 where
  first_is : first ≡ chain_out x.shelf (x.held t.home).chain
  shelf : IsShelf after (shelf_out x.shelf (x.held t.home).chain (length t.numbers))
  room : (x.held t.home).chain ≡ 0 → sectors_for (length t.numbers) ≤ length x.shelf.free
  stored : (all : List (List ℕ)) → told ≡ Some all → (y : List (List ℕ)) × (new ≡ Some y) × Stores (sectors_out x.shelf (x.held t.home).chain (length t.numbers)) (map number (object_words t)) all y
  out : IsOut x (record x { shelf = shelf_out x.shelf (x.held t.home).chain (length t.numbers); device = content_after x.device new }) p t (chain_out x.shelf (x.held t.home).chain)

module _ {x : Storage} {cpu : Cpu} {areas : Areas} {table : Table} {told : Option (List (List ℕ))} {p : MachineView} {t : PagedObject} (m : MachineCanPage x cpu areas table told p) {area : ℕ} (at : IsPresent x p area t) where
  module _ {i : Info} where
    known : ((spans : List Span) (j : Info) → IsDirectory cpu.core areas.low spans → area_at areas.low spans area ≡ Some j → i ≡ j) → Known x cpu.core table area t i
    known says =
        let is = info_is x cpu.core cpu.regs p m.stands area t at areas.low m.low i says in
        let array : i.kind ≡ Array → t.kind ≡ Array = λ k. ap (λ (j : Info). j.kind) (sym is) ∙ k in
        let Q : Info → Type 0 = λ j. (j.kept ≡ 0) ⊎ ChainIs table x.shelf j.kept (sectors_for j.words) in
        record {
          facts = about x cpu.core cpu.regs p m.stands area t at;
          is = is;
          array = array;
          no_array = λ k z. ⊎_elim
              (λ (q : i.kind ≡ Row). let b : ⊥ = cc (z, q, ap (λ (j : Info). j.kind) is) in b)
              (λ (q : i.kind ≡ Code). let b : ⊥ = cc (z, q, ap (λ (j : Info). j.kind) is) in b)
              k;
          chain = λ k. subst Q (sym is) (⊎_elim
              (λ (z : (x.held t.home).chain ≡ 0). let r : Q (info_of x t) = inl z in r)
              (λ (h : ObjectHasChain x t (x.held t.home).chain). let r : Q (info_of x t) = inr (record { shelf = m.shelf; many = h.sectors }) in r)
              (kept_chain x cpu.core cpu.regs p m.stands area t at table told told m.shelf m.device (array k)));
        }

    module _ (k : Known x cpu.core table area t i) (array : t.kind ≡ Array) (new : Option (List (List ℕ))) (first : ℕ) (after : Table) where
      abbrev Wrote : Info → Type 0
      Wrote j = (first ≡ chain_out x.shelf j.kept) × IsShelf after (shelf_out x.shelf j.kept j.words) × (j.kept ≡ 0 → sectors_for j.words ≤ length x.shelf.free)
          × ((all : List (List ℕ)) → told ≡ Some all → (y : List (List ℕ)) × (new ≡ Some y) × Stores (sectors_out x.shelf j.kept j.words) (map number (slice_range cpu.core area (area + j.words))) all y)

      written : Wrote i → Written x p t told new first after
      written w =
          let (f, s, room, st) = subst Wrote k.is w in
          let S : List Tagged → Type 0 = λ ws. (all : List (List ℕ)) → told ≡ Some all → (y : List (List ℕ)) × (new ≡ Some y) × Stores (sectors_out x.shelf (x.held t.home).chain (length t.numbers)) (map number ws) all y in
          let stores = subst S (range_up cpu.core area (length t.numbers) (object_words t) (length-map t.numbers (word (tag_of t.kind))) k.facts.words) st in
          record { first_is = f; shelf = s; room = room; stored = stores; out = out_written x cpu.core cpu.regs p m.stands area t at table told new m.shelf m.device array stores room }

pub info-info-requires : goal.info-info-requires
info-info-requires g c =
    let (x, p, t, m, at) = c.requires.machine in
    (x.spans, info_of x t, directory_at x c.args.cpu.now.core c.args.cpu.now.regs p m.stands c.args.area t at c.args.areas.now.low m.low, area_here x c.args.cpu.now.core c.args.cpu.now.regs p m.stands c.args.area t at c.args.areas.now.low m.low)

pub write_out-requires-clause-words : goal.write_out-requires-clause-words
write_out-requires-clause-words g c =
    let (x, p, t, m, at) = c.requires.machine in
    let k = known m at c.info-info.ensures in
    record {
      some = omega (arith, k.facts.some, ap (λ (i : Info). i.words) k.is);
      few = omega (arith, k.facts.few, ap (λ (i : Info). i.words) k.is);
      inside = omega (arith, k.facts.inside, ap (λ (i : Info). i.words) k.is);
    }

pub write_out-requires-clause-chain : goal.write_out-requires-clause-chain
write_out-requires-clause-chain g c =
    let (x, p, t, m, at) = c.requires.machine in
    (x.shelf, m.shelf, (known m at c.info-info.ensures).chain c.in-Array.is)

pub give_back-requires-clause-machine : goal.give_back-requires-clause-machine
give_back-requires-clause-machine g c =
    let (x, p, t, m, at) = c.requires.machine in
    (x, p, t, m.stands, m.copies, m.low, at, (known m at c.info-info.ensures).is)

pub give_back-requires-clause-first : goal.give_back-requires-clause-first
give_back-requires-clause-first g c =
    let (x, p, t, m, at) = c.requires.machine in
    let k = known m at c.info-info.ensures in
    let wr = (c.in-Ok.ensures.row x.shelf m.shelf).written (k.chain c.in-Array.is) in
    let w = written m at k (k.array c.in-Array.is) (g.B.Backing.holds c.write_out.new.backing) c.in-Ok.first c.write_out.new.sectors (wr.0, wr.1, (c.in-Ok.ensures.row x.shelf m.shelf).room, wr.2.told) in
    omega (arith, w.out.holds.chain.small, w.first_is)

pub returns-in-Row-clause-row : goal.returns-in-Row-clause-row
returns-in-Row-clause-row g c = λ x p t m at.
    let no_array = (known m at c.info-info.ensures).no_array c.in-Row.is in
    record {
      stands = c.discard.ensures.stands x c.args.sectors.now (g.B.Backing.holds c.args.backing.now) p t m at no_array;
      refused = tt;
      outside = c.discard.ensures.outside x p t m.stands m.copies m.low at;
      full = λ wants free. (λ e. absurd (ok_err e), λ h. absurd (no_array h.0.kind));
      clean = λ _. (refl, refl, refl);
    }

pub returns-in-Ok-clause-row : goal.returns-in-Ok-clause-row
returns-in-Ok-clause-row g c = λ x p t m at.
    let k = known m at c.info-info.ensures in
    let wr = (c.in-Ok.ensures.row x.shelf m.shelf).written (k.chain c.in-Array.is) in
    let w = written m at k (k.array c.in-Array.is) (g.B.Backing.holds c.write_out.new.backing) c.in-Ok.first c.write_out.new.sectors (wr.0, wr.1, (c.in-Ok.ensures.row x.shelf m.shelf).room, wr.2.told) in
    record {
      stands =
          let y : Storage = record x { shelf = shelf_out x.shelf (x.held t.home).chain (length t.numbers); device = content_after x.device (g.B.Backing.holds c.write_out.new.backing) } in
          let I : ℕ → Type 0 = λ n. IsOut x y p t n in
          let J : ℕ → Regs → Type 0 = λ n r. Represents (dropped x y t c.args.area n) c.give_back.new.cpu.core r p in
          let regs : c.give_back.new.cpu.regs ≡ c.args.cpu.now.regs = ap (λ (z : Cpu). z.regs) c.give_back.ensures.rest in
          let M : Cpu → Type 0 = λ z. MachineCanPage (overlaid x t c.args.area (g.B.Backing.holds c.write_out.new.backing)) z c.give_back.new.areas c.write_out.new.sectors (g.B.Backing.holds c.write_out.new.backing) p in
          let d = subst (J (chain_out x.shelf (x.held t.home).chain)) regs (subst (λ (n : ℕ). J n c.give_back.new.cpu.regs) w.first_is (c.give_back.ensures.stands x y p t m.stands m.copies m.low at k.is (subst I (sym w.first_is) w.out))) in
          subst M (sym c.give_back.ensures.rest) (overlaid_machine x c.args.cpu.now c.args.areas.now c.give_back.new.areas c.args.sectors.now c.write_out.new.sectors (g.B.Backing.holds c.args.backing.now) (g.B.Backing.holds c.write_out.new.backing) p c.args.area t m
          (ap (λ (z : Areas). z.low) c.give_back.ensures.areas) w.shelf (λ all e. let (q, i, st) = w.stored all e in (q, i)) c.give_back.new.cpu.core (c.give_back.ensures.outside x p t m.stands m.copies m.low at k.is) d);
      refused = tt;
      outside = c.give_back.ensures.outside x p t m.stands m.copies m.low at k.is;
      full = λ wants free. (λ e. absurd (ok_err e), λ h. absurd (omega (arith, h.0.few, w.room h.0.none)));
      clean = λ no_array. absurd (no_array (k.array c.in-Array.is));
    }

pub returns-in-Err-clause-row : goal.returns-in-Err-clause-row
returns-in-Err-clause-row g c = λ x p t m at.
    let k = known m at c.info-info.ensures in
    let array = k.array c.in-Array.is in
    record {
      stands = tt;
      refused =
          let W : Info → Type 0 = λ i. IsShelf c.write_out.new.sectors x.shelf × Changes g.B.Backing.holds c.args.backing.now c.write_out.new.backing (SameBut (sectors_out x.shelf i.kept i.words)) in
          let rf = subst W k.is ((c.in-Err.ensures.row x.shelf m.shelf).refused (k.chain c.in-Array.is)) in
          let st = Represents-retold x c.args.cpu.now.core c.args.cpu.now.regs p m.stands c.args.area t at c.args.sectors.now (g.B.Backing.holds c.args.backing.now) (g.B.Backing.holds c.write_out.new.backing) m.shelf m.device array rf.1.told in
          retold_machine x c.args.cpu.now c.args.areas.now c.args.areas.now c.args.sectors.now c.write_out.new.sectors (g.B.Backing.holds c.args.backing.now) (g.B.Backing.holds c.write_out.new.backing) p m refl rf.0 (λ all e. let (q, i, s) = rf.1.told all e in (q, i)) st;
      outside = Stayed-none p c.args.cpu.now.core;
      full = λ wants free.
          let F : Info → Type 0 = λ i. (◌≡◌ {A = Result ℕ SpaceFault} (Err c.in-Err.fault) (Err (BackingFull wants free)) → (i.kept ≡ 0) × (length x.shelf.free < sectors_for i.words) × (wants ≡ sectors_for i.words) × (free ≡ length x.shelf.free))
          × ((i.kept ≡ 0) × (length x.shelf.free < sectors_for i.words) × (wants ≡ sectors_for i.words) × (free ≡ length x.shelf.free) → ◌≡◌ {A = Result ℕ SpaceFault} (Err c.in-Err.fault) (Err (BackingFull wants free))) in
          let fl = subst F k.is ((c.in-Err.ensures.row x.shelf m.shelf).full wants free) in (
            λ e. let r = fl.0 (same_err e) in (record { kind = array; none = r.0; few = r.1 }, r.2, r.3),
            λ h. same_err (fl.1 (h.0.none, h.0.few, h.1, h.2)),
          );
      clean = λ no_array. absurd (no_array array);
    }

pub discard-requires : goal.discard-requires
discard-requires g c =
    let (x, p, t, m, at) = c.requires.machine in
    (x, p, t, m.stands, m.copies, m.low, at, (known m at c.info-info.ensures).no_array c.in-Row.is)
