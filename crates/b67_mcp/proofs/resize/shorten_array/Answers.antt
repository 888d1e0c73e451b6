use Rattle.std.proofs.Common.{◌≡◌, ℕ, ◌<◌, ◌≤◌, ◌==◌, List, Option, Some, length, sym, ◌∙◌, ap, arith, subst, slice_set, true, false, refl}
use Rattle.std.proofs.lemmas.Bool.{cond-true, eq-eqb}
use Rattle.b67_word.specs.Tagged.{Tagged}
use Rattle.b67_area.specs.declared.Areas.{Areas}
use Rattle.b67_area.specs.declared.Info.{Info}
use Rattle.b67_area.specs.Spans.{Span, area_at, shortened, keeping, with_words}
use Rattle.b67_area.specs.Directory.{IsDirectory}
use Rattle.b67_backing.specs.Shelf.{IsShelf}
use Rattle.b67_ctl.specs.declared.descriptors.DataDesc.{DataDesc}
use Rattle.b67_stack.specs.Common.{PagedObject, MachineView, home_desc, home_word_of, address_or, Storage, Represents, info_of, LowWordsStayed}
use Rattle.b67_layout.specs.Machine.{IsPresent}
use Rattle.b67_overlay.specs.Spans.{MachineCanPage}
use Rattle.b67_overlay.proofs.Copies.{copies_stay, copies_objects}
use Rattle.b67_stack.proofs.Unchanged.{area_of_object, area_bounds}
use Rattle.b67_mcp.specs.Lengths.{IsArray, IsChain, shorter, freed_chain}
use Rattle.b67_mcp.proofs.Freeing.{is_chain, original_is, original_read, set_original}
use Rattle.b67_mcp.proofs.Shorter.{Shrunk, made_shorter, below_short}
use Rattle.b67_mcp.proofs.resize.shorten_array.Goals.{After-original_at-at, After-keep, After-set}
use Rattle.b67_mcp.proofs.resize.shorten_array.Goals as goal

pub original_at-at-requires : goal.original_at-at-requires
original_at-at-requires c =
    let (x, told, p, t, at, m, a, h, fewer) = c.requires.machine in
    let o = original_is x c.args.cpu.now.core c.args.cpu.now.regs p m.stands t c.args.home a in
    (home_desc false (length t.numbers) (x.held t.home), o.0, o.1)

-- what the original and the directory tell of the array
record Known (c : After-original_at-at) (x : Storage) (t : PagedObject) (at : ℕ) : Type 0 where
  address : c.original_at-at.result.address ≡ at
  fewer : c.args.words < length t.numbers
  directory : IsDirectory c.args.cpu.now.core c.args.areas.now.low x.spans
  here : area_at c.args.areas.now.low x.spans c.original_at-at.result.address ≡ Some (info_of x t)

context : (c : After-original_at-at) (x : Storage) (told : Option (List (List ℕ))) (p : MachineView) (t : PagedObject) (at : ℕ) → MachineCanPage x c.args.cpu.now c.args.areas.now c.args.sectors.now told p → IsArray p c.args.home t → IsPresent x p at t → Known c x t at
context c x told p t at m a h =
    let (x0, told0, p0, t0, at0, m0, a0, h0, fewer) = c.requires.machine in
    let d0 = original_read x0 c.args.cpu.now.core c.args.cpu.now.regs p0 m0.stands t0 c.args.home a0 c.original_at-at.result c.original_at-at.ensures in
    let d = original_read x c.args.cpu.now.core c.args.cpu.now.regs p m.stands t c.args.home a c.original_at-at.result c.original_at-at.ensures in
    let address : c.original_at-at.result.address ≡ at = ap (λ (z : DataDesc). z.address) d ∙ ap (λ (o : Option ℕ). address_or o (x.held t.home).chain) h.present in
    let D : ℕ → Type 0 = λ low. IsDirectory c.args.cpu.now.core low x.spans × (area_at low x.spans c.original_at-at.result.address ≡ Some (info_of x t)) in
    let k = subst D (sym m.low) (m.stands.directory, ap (area_at x.low x.spans) address ∙ area_of_object x c.args.cpu.now.core c.args.cpu.now.regs p m.stands t a.there at h.present) in
    record {
      address = address;
      fewer = omega (arith, fewer, ap (λ (z : DataDesc). z.length) d0, ap (λ (z : DataDesc). z.length) d);
      directory = k.0;
      here = k.1;
    }

pub info-kept-requires : goal.info-kept-requires
info-kept-requires c =
    let (x, told, p, t, at, m, a, h, fewer) = c.requires.machine in
    let k = context (goal.at.info-kept-requires c).After-original_at-at x told p t at m a h in
    (x.spans, info_of x t, k.directory, k.here)

pub shrink-requires-clause-area : goal.shrink-requires-clause-area
shrink-requires-clause-area c =
    let (x, told, p, t, at, m, a, h, fewer) = c.requires.machine in
    let k = context (goal.at.shrink-requires-clause-area c).After-original_at-at x told p t at m a h in
    (x.spans, info_of x t, k.directory, k.here, omega (arith, k.fewer))

-- the area after it was shrunk
short_info : (x : Storage) (t : PagedObject) (words : ℕ) → Info
short_info x t words = record { kind = t.kind; words = words; owner = t.home; kept = (x.held t.home).chain }

short_area : (low : ℕ) (ss ss' : List Span) (address words : ℕ) (x : Storage) (t : PagedObject) → area_at low ss address ≡ Some (info_of x t) → area_at low ss' address ≡ with_words address words address (area_at low ss address) → area_at low ss' address ≡ Some (short_info x t words)
unfolding short_info
short_area low ss ss' address words x t here areas = areas ∙ ap (with_words address words address) here ∙ cond-true (address == address) _ _ (eq-eqb address address refl)

pub keep-requires-clause-area : goal.keep-requires-clause-area
keep-requires-clause-area c =
    let (x, told, p, t, at, m, a, h, fewer) = c.requires.machine in
    let k = context (goal.at.keep-requires-clause-area c).After-original_at-at x told p t at m a h in
    let low = c.args.areas.now.low in
    let adr = c.original_at-at.result.address in
    let D : Areas → Type 0 = λ z. IsDirectory c.shrink.new.core z.low (shortened low adr c.args.words x.spans) × (area_at z.low (shortened low adr c.args.words x.spans) adr ≡ Some (short_info x t c.args.words)) in
    let r = subst D (sym c.shrink.ensures.same) (c.shrink.ensures.row x.spans (info_of x t) k.directory k.here, short_area low x.spans (shortened low adr c.args.words x.spans) adr c.args.words x t k.here (c.shrink.ensures.areas x.spans (info_of x t) adr k.directory k.here)) in
    (shortened low adr c.args.words x.spans, short_info x t c.args.words, r.0, r.1)

pub original-requires-clause-address : goal.original-requires-clause-address
original-requires-clause-address c =
    let (x, told, p, t, at, m, a, h, fewer) = c.requires.machine in
    let k = context (goal.at.original-requires-clause-address c).After-original_at-at x told p t at m a h in
    omega (arith, k.address, (area_bounds x c.args.cpu.now.core c.args.cpu.now.regs p m.stands t a.there at h.present).1, m.stands.directory.small)

pub give_kept-requires : goal.give_kept-requires
give_kept-requires c =
    let (x, told, p, t, at, m, a, h, fewer) = c.requires.machine in
    let k = context (goal.at.give_kept-requires c).After-original_at-at x told p t at m a h in
    let e = ap (λ (z : Info). z.kept) (c.info-kept.ensures x.spans (info_of x t) k.directory k.here) in
    (x.shelf, m.shelf, subst (IsChain x.shelf) (sym e) (is_chain x c.args.cpu.now.core c.args.cpu.now.regs p m.stands t a.there))

-- the directory after both calls
shrunk : (c : After-keep) (x : Storage) (told : Option (List (List ℕ))) (p : MachineView) (t : PagedObject) (at : ℕ) → (m : MachineCanPage x c.args.cpu.now c.args.areas.now c.args.sectors.now told p) → c.original_at-at.result.address ≡ at
    → IsDirectory c.args.cpu.now.core c.args.areas.now.low x.spans → area_at c.args.areas.now.low x.spans c.original_at-at.result.address ≡ Some (info_of x t)
    → Shrunk x.low at c.args.words x.spans c.args.cpu.now.core c.keep.new.core
unfolding short_info
shrunk c x told p t at m address directory here =
    let low = c.args.areas.now.low in
    let adr = c.original_at-at.result.address in
    let ss = shortened low adr c.args.words x.spans in
    let i = short_info x t c.args.words in
    let dir = c.shrink.ensures.row x.spans (info_of x t) directory here in
    let at_short = short_area low x.spans ss adr c.args.words x t here (c.shrink.ensures.areas x.spans (info_of x t) adr directory here) in
    let D : Areas → Type 0 = λ z. IsDirectory c.shrink.new.core z.low ss × (area_at z.low ss adr ≡ Some i) in
    let r = subst D (sym c.shrink.ensures.same) (dir, at_short) in
    let K : Areas → Type 0 = λ z. IsDirectory c.keep.new.core z.low (keeping z.low adr 0 ss) in
    let A : Areas → Type 0 = λ z. (y : ℕ) → area_at z.low (keeping z.low adr 0 ss) y ≡ Rattle.b67_area.specs.Spans.with_kept adr 0 y (area_at z.low ss y) in
    let kept = subst K c.shrink.ensures.same (c.keep.ensures.row ss i r.0 r.1) in
    let areas = subst A c.shrink.ensures.same (λ y. c.keep.ensures.areas ss y) in
    let short : (y : ℕ) → area_at low ss y ≡ with_words adr c.args.words y (area_at low x.spans y) = λ y. c.shrink.ensures.areas x.spans (info_of x t) y directory here in
    let it : Shrunk low adr c.args.words x.spans c.args.cpu.now.core c.keep.new.core = record {
      directory = kept;
      areas = λ y. areas y ∙ ap (Rattle.b67_area.specs.Spans.with_kept adr 0 y) (short y);
      short = short;
      outside = λ q n a b out. c.keep.ensures.outside ss i r.0 r.1 q b ∙ c.shrink.ensures.outside x.spans (info_of x t) directory here q n a b out;
      size = c.keep.ensures.len ∙ c.shrink.ensures.len;
    } in
    let S : ℕ → ℕ → Type 0 = λ low adr. Shrunk low adr c.args.words x.spans c.args.cpu.now.core c.keep.new.core in
    subst (S x.low) address (subst (λ (n : ℕ). S n adr) m.low it)

-- core after the call
left_core : (c : After-set) (x : Storage) (p : MachineView) (t : PagedObject) (at : ℕ) → IsArray p c.args.home t → c.original_at-at.result.address ≡ at
    → c.set.new.self ≡ slice_set c.keep.new.core t.home (home_word_of t.kind c.args.words (record { area = Some at; chain = 0 }))
left_core c x p t at a address =
    let D : ℕ → DataDesc = λ n. record { present = true; copy = false; indexed = false; read_only = false; length = c.args.words; address = n } in
    set_original c.keep.new.core c.set.new.self c.args.home c.args.words (record { area = Some at; chain = 0 }) t (D c.original_at-at.result.address) c.original.result a.is a.kind (ap D address) c.original.ensures c.set.ensures.value

-- the words below the slots
stays : (c : After-set) (x : Storage) (told : Option (List (List ℕ))) (p : MachineView) (t : PagedObject) (at : ℕ) → (m : MachineCanPage x c.args.cpu.now c.args.areas.now c.args.sectors.now told p) → IsArray p c.args.home t → IsPresent x p at t
    → c.original_at-at.result.address ≡ at → 1 ≤ c.args.words → c.args.words < length t.numbers → Shrunk x.low at c.args.words x.spans c.args.cpu.now.core c.keep.new.core → LowWordsStayed p c.args.cpu.now.core c.set.new.self
stays c x told p t at m a h address some fewer f =
    let P : List Tagged → Type 0 = λ core. LowWordsStayed p c.args.cpu.now.core core in
    subst P (sym (left_core c x p t at a address)) (below_short x c.args.cpu.now.core c.args.cpu.now.regs p m.stands t a.kind at h c.args.words some fewer c.keep.new.core f)

pub returns-clause-row : goal.returns-clause-row
returns-clause-row c = λ x told p t at objects m a h re.
    let k = context (goal.at.returns-clause-row c).After-original_at-at x told p t at m a h in
    let e = ap (λ (z : Info). z.kept) (c.info-kept.ensures x.spans (info_of x t) k.directory k.here) in
    let f = shrunk (goal.at.returns-clause-row c).After-keep x told p t at m k.address k.directory k.here in
    let is = left_core (goal.at.returns-clause-row c).After-set x p t at a k.address in
    let it = made_shorter x c.args.cpu.now.core c.args.cpu.now.regs p m.stands t a.kind at h c.args.words c.requires.some k.fewer c.keep.new.core f c.args.sectors.now m.shelf objects re in
    let P : List Tagged → Type 0 = λ core. Represents (shorter x t at c.args.words) core c.args.cpu.now.regs (record p { objects = objects }) in
    let chain = is_chain x c.args.cpu.now.core c.args.cpu.now.regs p m.stands t a.there in
    let S : ℕ → Type 0 = λ n. IsChain x.shelf n → IsShelf c.give_kept.new.sectors (freed_chain n x.shelf) in
    record {
      stands = subst P (sym is) it;
      low = ap (λ (z : Areas). z.low) (c.keep.ensures.same ∙ c.shrink.ensures.same) ∙ m.low;
      shelf = subst S e (λ q. c.give_kept.ensures.row x.shelf m.shelf q) chain;
      device = m.device;
      copies = copies_objects c.set.new.self p objects (copies_stay x c.args.cpu.now.core c.args.cpu.now.regs p m.stands c.set.new.self (stays (goal.at.returns-clause-row c).After-set x told p t at m a h k.address c.requires.some k.fewer f) m.copies);
    }

pub returns-clause-outside : goal.returns-clause-outside
returns-clause-outside c = λ x told p t at m a h.
    let k = context (goal.at.returns-clause-outside c).After-original_at-at x told p t at m a h in
    let f = shrunk (goal.at.returns-clause-outside c).After-keep x told p t at m k.address k.directory k.here in
    stays (goal.at.returns-clause-outside c).After-set x told p t at m a h k.address c.requires.some k.fewer f
