-- The running segment is an object of the view: its descriptor and its words in core.
use Rattle.std.proofs.Common.{◌≡◌, ℕ, zero, suc, ◌+◌, ◌-◌, ◌<◌, ◌^◌, List, [], ◌∷◌, map, flat_map, length, Option, Some, None, refl, sym, ◌∙◌, ap, arith, inr, true, false, subst}
use Rattle.std.specs.List.{slice_get, slice_range}
use Rattle.std.proofs.lemmas.Option.{none-some, slice_get_within}
use Rattle.std.proofs.lemmas.List.{length-map}
use Rattle.b67_word.specs.Tagged.{Tagged, word, contents}
use Rattle.b67_area.specs.declared.Kind.TheVariants as kind
use Rattle.b67_area.proofs.Laws.{area_inside}
use Rattle.b67_ctl.specs.declared.descriptors.SegDesc.{SegDesc}
use Rattle.b67_ctl.specs.Descriptors.{seg_word, IsSegDesc}
use Rattle.b67_lemmas.specs.Lists.{Has}
use Rattle.b67_lemmas.proofs.Members.{all_in, has_get, keyed_has}
use Rattle.b67_lemmas.proofs.Places.{get_within}
use Rattle.b67_model.specs.Common.{Segment, Task, SessionJob, Reading, operator_at, code_of, reading_of, number_of, Session, SegmentInOrder}
use Rattle.b67_layout.specs.Common.{IsInOrderButCounts, Placement, code_objects, objects_of, array_object, IsRunning, RepresentsSession}
use Rattle.b67_stack.specs.declared.Cpu.{Cpu}
use Rattle.b67_stack.specs.Common.{PagedObject, is_present, address_or, Storage, Content, RepresentsObject}
use Rattle.b67_stack.proofs.Homes.{chain_small}
use Rattle.b67_stack.proofs.Lies.{upward-range}
use Rattle.b67_layout.proofs.Fresh.{running_in_order}
use Rattle.b67_exec_cells.proofs.Replaced.{member_objects, before}
use Rattle.b67_exec_cells.specs.Running.{code_held, code_area, code_desc}

pub code_object : (plan : Placement) (j n : ℕ) (ss : List Segment) (i at : ℕ) (g : Segment) → slice_get ss i ≡ Some g → at ≡ plan.dictionary j + 1 + (n + i) → Has (code_objects plan j n ss) (record { home = at; kind = kind.Code; numbers = g.code })
code_object plan j n [] i at g e is = absurd (none-some g e)
code_object plan j n (s ∷ ss) zero at g e is = grind arith
code_object plan j n (s ∷ ss) (suc i) at g e is = inr (code_object plan j (n + 1) ss i at g e (is ∙ (let z : plan.dictionary j + 1 + (n + suc i) ≡ plan.dictionary j + 1 + (n + 1 + i) = omega arith in z)))

contents-words : (tag : ℕ) (ns : List ℕ) → contents (map (word tag) ns) ≡ ns
contents-words tag [] = refl
contents-words tag (n ∷ ns) = ap (λ ms. n ∷ ms) (contents-words tag ns)

module _ (x : Storage) (cpu : Cpu) (plan : Placement) (s : Session) (m : SessionJob) (t : Task) (ordered : IsInOrderButCounts s) (h : RepresentsSession x cpu plan s) (runs : IsRunning plan s.jobs m t) where
  has_m : Has s.jobs m
  has_m = (keyed_has number_of m.constants.number s.jobs m runs.member).0

  home : ℕ
  home = plan.dictionary m.constants.number + 1 + t.segment

  -- the running segment, which is one of the job
  found : (g : Segment) × (slice_get m.constants.segments (t.segment - 1) ≡ Some g)
  found = let o = (running_in_order plan s m t ordered runs).1.place in get_within m.constants.segments (t.segment - 1) (omega (arith, o.from_one, o.within))

  code-is : code_of m.constants t.segment ≡ found.0.code
  code-is = rw (found.1) refl

  abbrev object : PagedObject
  object = record { home = plan.dictionary m.constants.number + 1 + t.segment; kind = kind.Code; numbers = found.0.code }

  there : Has (flat_map (objects_of plan) s.jobs) object
  there =
      let o = (running_in_order plan s m t ordered runs).1.place in
      member_objects plan s.jobs m object has_m
      (before (code_objects plan m.constants.number 1 m.constants.segments) (map (array_object plan m.constants.number) m.progress.job.arrays) object
      (code_object plan m.constants.number 1 m.constants.segments (t.segment - 1) (plan.dictionary m.constants.number + 1 + t.segment) found.0 found.1 (omega (arith, o.from_one))))

  stands : RepresentsObject x cpu.core object
  stands = h.holds.memory.objects object there

  -- the address of its descriptor
  pub at-is : cpu.regs.dict + cpu.regs.segment ≡ plan.dictionary m.constants.number + 1 + t.segment
  at-is = let o = h.holds.running m t runs in omega (arith, o.dict, o.segment)

  pub word-is : slice_get cpu.core (cpu.regs.dict + cpu.regs.segment) ≡ Some (seg_word (code_desc x plan m t))
  word-is =
      let held = code_held x plan m t in
      ap (slice_get cpu.core) at-is ∙ stands.home
      ∙ ap (λ (n : ℕ). Some (seg_word (record { present = is_present held.area; words = n; address = address_or held.area held.chain }))) (ap length (sym code-is))

  pub at-small : cpu.regs.dict + cpu.regs.segment < length cpu.core
  at-small = slice_get_within cpu.core (cpu.regs.dict + cpu.regs.segment) (seg_word (code_desc x plan m t)) word-is

  pub bound : length cpu.core < 2 ^ 20
  bound = h.holds.memory.directory.small

  pub short : length (code_of m.constants t.segment) < 2 ^ 13
  short =
      let o = (running_in_order plan s m t ordered runs).0.unchanging in
      let g = all_in SegmentInOrder m.constants.segments found.0 o.segments (has_get m.constants.segments (t.segment - 1) found.0 found.1) in
      omega (arith, g.length_high, ap length code-is)

  -- the area lies in core
  pub area-inside : (at : ℕ) → code_area x plan m t ≡ Some at → at + length (code_of m.constants t.segment) < length cpu.core
  area-inside at e =
      let o = h.holds.memory.owned.of_held (plan.dictionary m.constants.number + 1 + t.segment) at e in
      let same : o.0 ≡ object = h.holds.memory.slots.laid.differ o.0 object o.1 there o.2 in
      grind (arith, area_inside)

  address-small : (o : Option ℕ) (f : ℕ) → ((at : ℕ) → o ≡ Some at → at < 2 ^ 20) → f < 2 ^ 20 → address_or o f < 2 ^ 20
  address-small o f a c = grind arith

  pub desc-fits : IsSegDesc (code_desc x plan m t)
  desc-fits =
      let held = code_held x plan m t in
      record {
        words = omega (arith, short);
        address = address-small held.area held.chain (λ at e. (let i = area-inside at e in omega (arith, i, bound))) (chain_small x cpu.core object held.area held.chain stands.content);
      }

  -- what is read in the area
  pub code-read : (at : ℕ) (words : List Tagged) → code_area x plan m t ≡ Some at → words ≡ slice_range cpu.core at (at + length (code_of m.constants t.segment)) → contents words ≡ code_of m.constants t.segment
  code-read at words e is =
      let C : Option ℕ → Type 0 = λ o. Content x cpu.core object o (code_held x plan m t).chain in
      let up = (subst C e stands.content).0 in
      grind (arith, length-map, upward-range, contents-words)

  no_area : (o : Option ℕ) → is_present o ≡ false → o ≡ None
  no_area o e = grind arith

  an_area : (o : Option ℕ) (f : ℕ) → is_present o ≡ true → o ≡ Some (address_or o f)
  an_area o f e = grind arith

  pub absent : (d : SegDesc) → d ≡ code_desc x plan m t → d.present ≡ false → code_area x plan m t ≡ None
  absent d e off = no_area (code_area x plan m t) (ap (λ (z : SegDesc). z.present) (sym e) ∙ off)

  pub present : (d : SegDesc) → d ≡ code_desc x plan m t → d.present ≡ true → code_area x plan m t ≡ Some d.address
  present d e on = an_area (code_area x plan m t) (code_held x plan m t).chain (ap (λ (z : SegDesc). z.present) (sym e) ∙ on) ∙ ap (λ (z : SegDesc). Some z.address) (sym e)

  -- the words of the descriptor lie in core
  pub desc-inside : (d : SegDesc) → d ≡ code_desc x plan m t → d.present ≡ true → d.address + d.words < length cpu.core
  desc-inside d e on = let i = area-inside d.address (present d e on) in omega (arith, i, ap (λ (z : SegDesc). z.words) e)

  code-length : (d : SegDesc) (words : List Tagged) → d ≡ code_desc x plan m t → d.present ≡ true → words ≡ slice_range cpu.core d.address (d.address + d.words) → length words ≡ length (code_of m.constants t.segment)
  code-length d words e on is =
      let w : d.words ≡ length (code_of m.constants t.segment) = ap (λ (z : SegDesc). z.words) e in
      let c = code-read d.address words (present d e on) (is ∙ ap (λ (n : ℕ). slice_range cpu.core d.address (d.address + n)) w) in
      sym (length-map words (λ (v : Tagged). v.bits)) ∙ ap length c

  pub words-short : (d : SegDesc) (words : List Tagged) → d ≡ code_desc x plan m t → d.present ≡ true → words ≡ slice_range cpu.core d.address (d.address + d.words) → length words < 2 ^ 13
  words-short d words e on is = let n = code-length d words e on is in omega (arith, n, short)

  pub read-is : (d : SegDesc) (words : List Tagged) (r : Reading) → d ≡ code_desc x plan m t → d.present ≡ true → words ≡ slice_range cpu.core d.address (d.address + d.words) → r ≡ operator_at (contents words) cpu.regs.place
      → r ≡ reading_of m.constants t
  read-is d words r e on is decoded = grind (arith, code-read)
