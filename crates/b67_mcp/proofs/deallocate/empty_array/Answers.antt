use Rattle.std.proofs.Common.{◌≡◌, ℕ, List, Option, Some, length, sym, ◌∙◌, ap, arith, subst, slice_set, false}
use Rattle.b67_word.specs.Tagged.{Tagged}
use Rattle.b67_area.specs.declared.Areas.{Areas}
use Rattle.b67_area.specs.declared.Info.{Info}
use Rattle.b67_area.specs.Spans.{Span, area_at}
use Rattle.b67_area.specs.Directory.{IsDirectory}
use Rattle.b67_backing.specs.Shelf.{Table, IsShelf}
use Rattle.b67_ctl.specs.declared.descriptors.DataDesc.{DataDesc}
use Rattle.b67_ctl.specs.declared.registers.Regs.{Regs}
use Rattle.b67_ctl.specs.Descriptors.{data_word}
use Rattle.b67_stack.specs.declared.Cpu.{Cpu}
use Rattle.b67_stack.specs.Common.{nowhere, PagedObject, MachineView, home_desc, home_word_of, Storage, Represents, info_of, LowWordsStayed}
use Rattle.b67_layout.specs.Machine.{IsPresent}
use Rattle.b67_overlay.specs.Spans.{CopiesLie, MachineCanPage}
use Rattle.b67_overlay.proofs.Copies.{copies_stay, copies_objects}
use Rattle.b67_stack.proofs.Unchanged.{area_of_object}
use Rattle.b67_overlay.specs.Turns.{Searched, Hides}
use Rattle.b67_overlay.proofs.Hiding.{hidden_data}
use Rattle.b67_overlay.proofs.Dropping.{Freed, directory2, below_dropped}
use Rattle.b67_mcp.specs.Lengths.{IsArray, IsChain, emptied, freed_chain}
use Rattle.b67_mcp.proofs.Freeing.{is_chain, original_is, original_read, read_present, read_absent, set_original}
use Rattle.b67_mcp.proofs.Emptied.{emptied_area, emptied_absent, stayed_absent}
use Rattle.b67_mcp.proofs.deallocate.empty_array.Goals.{Start, Then-original, After-free}
use Rattle.b67_mcp.proofs.deallocate.empty_array.Goals as goal

pub original_at-original-requires : goal.original_at-original-requires
original_at-original-requires c =
    let (x, told, p, t, m, a) = c.requires in
    let o = original_is x c.args.cpu.now.core c.args.cpu.now.regs p m.stands t c.args.home a in
    (home_desc false (length t.numbers) (x.held t.home), o.0, o.1)

pub original-untouched-requires-clause-words : goal.original-untouched-requires-clause-words
original-untouched-requires-clause-words c =
    let (x, told, p, t, m, a) = c.requires in
    let d = original_read x c.args.cpu.now.core c.args.cpu.now.regs p m.stands t c.args.home a c.original_at-original.result c.original_at-original.ensures in
    omega (arith, ap (λ (z : DataDesc). z.length) d, (m.stands.slots.laid.lengths t a.there).1)

-- the array is in an area
there : (c : Then-original) (x : Storage) (told : Option (List (List ℕ))) (p : MachineView) (t : PagedObject) → MachineCanPage x c.args.cpu.now c.args.areas.now c.args.sectors.now told p → IsArray p c.args.home t → IsPresent x p c.original_at-original.result.address t
there c x told p t m a =
    let d = original_read x c.args.cpu.now.core c.args.cpu.now.regs p m.stands t c.args.home a c.original_at-original.result c.original_at-original.ensures in
    record { there = a.there; present = read_present (x.held t.home) (length t.numbers) c.original_at-original.result d c.if-original.true }

-- in the directory
in_area : (x : Storage) (cpu : Cpu) (areas : Areas) (table : Table) (told : Option (List (List ℕ))) (p : MachineView) (t : PagedObject) (area : ℕ) → MachineCanPage x cpu areas table told p → IsPresent x p area t
    → IsDirectory cpu.core areas.low x.spans × (area_at areas.low x.spans area ≡ Some (info_of x t))
in_area x cpu areas table told p t area m at =
    let D : ℕ → Type 0 = λ low. IsDirectory cpu.core low x.spans × (area_at low x.spans area ≡ Some (info_of x t)) in
    subst D (sym m.low) (m.stands.directory, area_of_object x cpu.core cpu.regs p m.stands t at.there area at.present)

pub info-kept-requires : goal.info-kept-requires
info-kept-requires c =
    let (x, told, p, t, m, a) = c.requires in
    let k = in_area x c.args.cpu.now c.args.areas.now c.args.sectors.now told p t c.original_at-original.result.address m (there (goal.at.info-kept-requires c).Then-original x told p t m a) in
    (x.spans, info_of x t, k.0, k.1)

pub search_copies-requires : goal.search_copies-requires
search_copies-requires c =
    let (x, told, p, t, m, a) = c.requires in
    (x, p, t, m.stands, m.copies, there (goal.at.search_copies-requires c).Then-original x told p t m a, a.is)

-- what the search for copies leaves of core
hidden : (c : Then-original) (x : Storage) (told : Option (List (List ℕ))) (p : MachineView) (t : PagedObject) (mid : List Tagged) → (m : MachineCanPage x c.args.cpu.now c.args.areas.now c.args.sectors.now told p) → IsArray p c.args.home t
    → ((x : Storage) (p : MachineView) (t : PagedObject) → Represents x c.args.cpu.now.core c.args.cpu.now.regs p → CopiesLie c.args.cpu.now.core p → IsPresent x p c.original_at-original.result.address t → t.home ≡ c.args.home → Searched p p.peak c.original_at-original.result.address c.args.home c.args.cpu.now.core mid) → Hides x c.args.cpu.now.core mid p t nowhere
hidden c x told p t mid m a searched =
    let area = c.original_at-original.result.address in
    let P : ℕ → Type 0 = λ n. Searched p p.peak area n c.args.cpu.now.core mid in
    hidden_data x c.args.cpu.now.core c.args.cpu.now.regs p m.stands area t (there c x told p t m a) nowhere mid (subst P (sym a.is) (searched x p t m.stands m.copies (there c x told p t m a) a.is))

-- the original's new word
untouched : (c : Start) (x : Storage) (told : Option (List (List ℕ))) (p : MachineView) (t : PagedObject) (mid new : List Tagged) (d : DataDesc) (w : Tagged) → (m : MachineCanPage x c.args.cpu.now c.args.areas.now c.args.sectors.now told p) → IsArray p c.args.home t
    → d ≡ home_desc false (length t.numbers) (x.held t.home) → w ≡ data_word (record { present = false; copy = false; indexed = false; read_only = false; length = d.length; address = 0 }) → new ≡ slice_set mid c.args.home w
    → new ≡ slice_set mid t.home (home_word_of t.kind (length t.numbers) nowhere)
untouched c x told p t mid new d w m a is word_is set =
    let D : ℕ → DataDesc = λ n. record { present = false; copy = false; indexed = false; read_only = false; length = n; address = 0 } in
    set_original mid new c.args.home (length t.numbers) nowhere t (D d.length) w a.is a.kind (ap D (ap (λ (z : DataDesc). z.length) is)) word_is set

-- the directory before the area is free
ready : (x : Storage) (cpu : Cpu) (areas : Areas) (table : Table) (told : Option (List (List ℕ))) (p : MachineView) (t : PagedObject) (area : ℕ) (mid new : List Tagged) → (m : MachineCanPage x cpu areas table told p) → (at : IsPresent x p area t) → Hides x cpu.core mid p t nowhere
    → new ≡ slice_set mid t.home (home_word_of t.kind (length t.numbers) nowhere) → IsDirectory new areas.low x.spans × (area_at areas.low x.spans area ≡ Some (info_of x t))
ready x cpu areas table told p t area mid new m at hd is =
    let D : ℕ → Type 0 = λ low. IsDirectory new low x.spans × (area_at low x.spans area ≡ Some (info_of x t)) in
    let E : List Tagged → Type 0 = λ core. IsDirectory core x.low x.spans in
    subst D (sym m.low) (subst E (sym is) (directory2 x x cpu.core cpu.regs p m.stands area t at 0 mid hd), area_of_object x cpu.core cpu.regs p m.stands t at.there area at.present)

pub free-requires : goal.free-requires
free-requires c =
    let (x, told, p, t, m, a) = c.requires in
    let b = (goal.at.free-requires c).Then-original in
    let at = there b x told p t m a in
    let d = original_read x c.args.cpu.now.core c.args.cpu.now.regs p m.stands t c.args.home a c.original_at-original.result c.original_at-original.ensures in
    let hd = hidden b x told p t c.search_copies.new.cpu.core m a (λ x p t s k i e. c.search_copies.ensures.searched x p t s k i e) in
    let is = untouched (goal.at.free-requires c).Start x told p t c.search_copies.new.cpu.core c.set.new.self c.original_at-original.result c.original-untouched.result m a d c.original-untouched.ensures c.set.ensures.value in
    let k = ready x c.args.cpu.now c.args.areas.now c.args.sectors.now told p t c.original_at-original.result.address c.search_copies.new.cpu.core c.set.new.self m at hd is in
    (x.spans, info_of x t, k.0, k.1)

-- the chain that is given back
kept_is : (c : Then-original) (x : Storage) (told : Option (List (List ℕ))) (p : MachineView) (t : PagedObject) (i : Info) → (m : MachineCanPage x c.args.cpu.now c.args.areas.now c.args.sectors.now told p) → (a : IsArray p c.args.home t)
    → ((ss : List Span) (j : Info) → IsDirectory c.args.cpu.now.core c.args.areas.now.low ss → area_at c.args.areas.now.low ss c.original_at-original.result.address ≡ Some j → i ≡ j) → i.kept ≡ (x.held t.home).chain
kept_is c x told p t i m a known =
    let k = in_area x c.args.cpu.now c.args.areas.now c.args.sectors.now told p t c.original_at-original.result.address m (there c x told p t m a) in
    ap (λ (z : Info). z.kept) (known x.spans (info_of x t) k.0 k.1)

pub give_kept-requires : goal.give_kept-requires
give_kept-requires c =
    let (x, told, p, t, m, a) = c.requires in
    let k = kept_is (goal.at.give_kept-requires c).Then-original x told p t c.info-kept.result m a c.info-kept.ensures in
    (x.shelf, m.shelf, subst (IsChain x.shelf) (sym k) (is_chain x c.args.cpu.now.core c.args.cpu.now.regs p m.stands t a.there))

pub give_kept-requires-else-original : goal.give_kept-requires-else-original
give_kept-requires-else-original c =
    let (x, told, p, t, m, a) = c.requires in
    let d = original_read x c.args.cpu.now.core c.args.cpu.now.regs p m.stands t c.args.home a c.original_at-original.result c.original_at-original.ensures in
    let k = (read_absent (x.held t.home) (length t.numbers) c.original_at-original.result d c.if-original.false).1 in
    (x.shelf, m.shelf, subst (IsChain x.shelf) (sym k) (is_chain x c.args.cpu.now.core c.args.cpu.now.regs p m.stands t a.there))

-- the area is free
freed : (c : After-free) (x : Storage) (told : Option (List (List ℕ))) (p : MachineView) (t : PagedObject) → (m : MachineCanPage x c.args.cpu.now c.args.areas.now c.args.sectors.now told p) → (a : IsArray p c.args.home t) → (b : Then-original)
    → IsDirectory c.set.new.self c.args.areas.now.low x.spans × (area_at c.args.areas.now.low x.spans c.original_at-original.result.address ≡ Some (info_of x t))
    → c.set.new.self ≡ slice_set c.search_copies.new.cpu.core t.home (home_word_of t.kind (length t.numbers) nowhere)
    → Freed x.low c.original_at-original.result.address x.spans (slice_set c.search_copies.new.cpu.core t.home (home_word_of t.kind (length t.numbers) nowhere)) c.free.new.core
freed c x told p t m a b k is =
    let area = c.original_at-original.result.address in
    let fr : Freed c.args.areas.now.low area x.spans c.set.new.self c.free.new.core = record {
      directory = c.free.ensures.row x.spans (info_of x t) k.0 k.1;
      outside = c.free.ensures.outside x.spans (info_of x t) k.0 k.1;
      areas = λ q. c.free.ensures.areas x.spans q;
      size = c.free.ensures.len;
    } in
    let F : List Tagged → ℕ → Type 0 = λ core n. Freed n area x.spans core c.free.new.core in
    subst (λ (core : List Tagged). F core x.low) is (subst (F c.set.new.self) m.low fr)

pub set-requires : goal.set-requires
set-requires c =
    let (x, told, p, t, m, a) = c.requires in
    let hd = hidden (goal.at.set-requires c).Then-original x told p t c.search_copies.new.cpu.core m a (λ x p t s k i e. c.search_copies.ensures.searched x p t s k i e) in
    omega (arith, hd.size, (m.stands.slots.laid.homes t a.there).1, a.is, m.stands.inside)

pub returns-then-original-clause-keeps : goal.returns-then-original-clause-keeps
returns-then-original-clause-keeps c =
    let (x, told, p, t, m, a) = c.requires in
    let hd = hidden (goal.at.returns-then-original-clause-keeps c).Then-original x told p t c.search_copies.new.cpu.core m a (λ x p t s k i e. c.search_copies.ensures.searched x p t s k i e) in
    record {
      rest = ap (λ (z : Cpu). record z { core = c.free.new.core }) c.search_copies.ensures.rest;
      len = c.free.ensures.len ∙ c.set.ensures.len ∙ hd.size;
      areas = c.free.ensures.same;
      count = c.give_kept.ensures.count;
    }

pub returns-then-original-clause-row : goal.returns-then-original-clause-row
returns-then-original-clause-row c = λ x told p t objects m a re.
    let b = (goal.at.returns-then-original-clause-row c).Then-original in
    let area = c.original_at-original.result.address in
    let mid = c.search_copies.new.cpu.core in
    let at = there b x told p t m a in
    let d = original_read x c.args.cpu.now.core c.args.cpu.now.regs p m.stands t c.args.home a c.original_at-original.result c.original_at-original.ensures in
    let hd = hidden b x told p t mid m a (λ x p t s k i e. c.search_copies.ensures.searched x p t s k i e) in
    let is = untouched (goal.at.returns-then-original-clause-row c).Start x told p t mid c.set.new.self c.original_at-original.result c.original-untouched.result m a d c.original-untouched.ensures c.set.ensures.value in
    let k = ready x c.args.cpu.now c.args.areas.now c.args.sectors.now told p t area mid c.set.new.self m at hd is in
    let f = freed (goal.at.returns-then-original-clause-row c).After-free x told p t m a b k is in
    let kept = kept_is b x told p t c.info-kept.result m a c.info-kept.ensures in
    let chain = is_chain x c.args.cpu.now.core c.args.cpu.now.regs p m.stands t a.there in
    let S : ℕ → Type 0 = λ n. IsChain x.shelf n → IsShelf c.give_kept.new.sectors (freed_chain n x.shelf) in
    let shelf = subst S kept (λ h. c.give_kept.ensures.row x.shelf m.shelf h) chain in
    let it = emptied_area x c.args.cpu.now.core c.args.cpu.now.regs p m.stands t a.there a.kind c.args.sectors.now m.shelf objects re area at mid c.free.new.core hd f in
    let R : Regs → Type 0 = λ r. Represents (emptied x t) c.free.new.core r (record p { objects = objects }) in
    record {
      stands = subst R (ap (λ (z : Cpu). z.regs) (sym c.search_copies.ensures.rest)) it;
      low = ap (λ (z : Areas). z.low) c.free.ensures.same ∙ m.low;
      shelf = shelf;
      device = m.device;
      copies = copies_objects c.free.new.core p objects (copies_stay x c.args.cpu.now.core c.args.cpu.now.regs p m.stands c.free.new.core (below_dropped x x c.args.cpu.now.core c.args.cpu.now.regs p m.stands area t at 0 mid hd c.free.new.core f) m.copies);
    }

pub returns-then-original-clause-outside : goal.returns-then-original-clause-outside
returns-then-original-clause-outside c = λ x told p t m a.
    let b = (goal.at.returns-then-original-clause-outside c).Then-original in
    let area = c.original_at-original.result.address in
    let mid = c.search_copies.new.cpu.core in
    let at = there b x told p t m a in
    let d = original_read x c.args.cpu.now.core c.args.cpu.now.regs p m.stands t c.args.home a c.original_at-original.result c.original_at-original.ensures in
    let hd = hidden b x told p t mid m a (λ x p t s k i e. c.search_copies.ensures.searched x p t s k i e) in
    let is = untouched (goal.at.returns-then-original-clause-outside c).Start x told p t mid c.set.new.self c.original_at-original.result c.original-untouched.result m a d c.original-untouched.ensures c.set.ensures.value in
    let k = ready x c.args.cpu.now c.args.areas.now c.args.sectors.now told p t area mid c.set.new.self m at hd is in
    below_dropped x x c.args.cpu.now.core c.args.cpu.now.regs p m.stands area t at 0 mid hd c.free.new.core (freed (goal.at.returns-then-original-clause-outside c).After-free x told p t m a b k is)

pub returns-else-original-clause-row : goal.returns-else-original-clause-row
returns-else-original-clause-row c = λ x told p t objects m a re.
    let d = original_read x c.args.cpu.now.core c.args.cpu.now.regs p m.stands t c.args.home a c.original_at-original.result c.original_at-original.ensures in
    let k = read_absent (x.held t.home) (length t.numbers) c.original_at-original.result d c.if-original.false in
    let is = untouched (goal.at.returns-else-original-clause-row c).Start x told p t c.args.cpu.now.core c.set-else-original.new.self c.original_at-original.result c.original-untouched.result m a d c.original-untouched.ensures c.set-else-original.ensures.value in
    let chain = is_chain x c.args.cpu.now.core c.args.cpu.now.regs p m.stands t a.there in
    let S : ℕ → Type 0 = λ n. IsChain x.shelf n → IsShelf c.give_kept-else-original.new.sectors (freed_chain n x.shelf) in
    let it = emptied_absent x c.args.cpu.now.core c.args.cpu.now.regs p m.stands t a.there a.kind c.args.sectors.now m.shelf objects re k.0 in
    let P : List Tagged → Type 0 = λ core. Represents (emptied x t) core c.args.cpu.now.regs (record p { objects = objects }) in
    record {
      stands = subst P (sym is) it;
      low = m.low;
      shelf = subst S k.1 (λ h. c.give_kept-else-original.ensures.row x.shelf m.shelf h) chain;
      device = m.device;
      copies =
          let Y : List Tagged → Type 0 = λ core. LowWordsStayed p c.args.cpu.now.core core in
          let stayed = subst Y (sym c.set-else-original.ensures.value) (stayed_absent p t a.there c.args.cpu.now.core c.args.home c.original-untouched.result a.is) in
          copies_objects c.set-else-original.new.self p objects (copies_stay x c.args.cpu.now.core c.args.cpu.now.regs p m.stands c.set-else-original.new.self stayed m.copies);
    }

pub returns-else-original-clause-outside : goal.returns-else-original-clause-outside
returns-else-original-clause-outside c = λ x told p t m a.
    let S : List Tagged → Type 0 = λ core. LowWordsStayed p c.args.cpu.now.core core in
    subst S (sym c.set-else-original.ensures.value) (stayed_absent p t a.there c.args.cpu.now.core c.args.home c.original-untouched.result a.is)
