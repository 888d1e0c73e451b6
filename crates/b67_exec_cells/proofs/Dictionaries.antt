-- The words of a dictionary's entries: which are segments.
use Rattle.std.proofs.Common.{◌≡◌, ℕ, zero, suc, ◌+◌, ◌-◌, ◌/◌, ◌%◌, ◌<◌, ◌≤◌, ◌^◌, List, [], ◌∷◌, map, reverse, length, Some, None, Err, refl, ◌∙◌, ap, arith, Bool, true, false, ◌==◌, ◌&&◌, ◌⊎◌, ⊎_elim, inl, inr, subst}
use Rattle.std.specs.Prelude.{nat_lt, nat_le}
use Rattle.std.specs.List.{slice_get}
use Rattle.std.proofs.lemmas.Option.{slice_get_within}
use Rattle.std.proofs.lemmas.Bool.{cases_lt, and_parts, leb-true, ltb-true}
use Rattle.std.proofs.lemmas.List.{length-reverse}
use Rattle.b67_word.specs.Common.{Tagged, word, bit}
use Rattle.b67_word.specs.declared.couples.Place.{Place}
use Rattle.b67_area.specs.declared.Kind.{Kind}
use Rattle.b67_lemmas.specs.Lists.{Has}
use Rattle.b67_lemmas.proofs.Members.{all_in, has_get, has_reverse_back, keyed_has}
use Rattle.b67_lemmas.proofs.Places.{get_within}
use Rattle.b67_model.specs.Common.{Word, Original, Array, Segment, Task, SessionJob, number_of, leaves_cells, is_proc, proc_of, mpcw, Session, OwnsArray, EntryInOrder, DictionaryWords}
use Rattle.b67_word.specs.declared.faults.Fault.TheVariants.{InvalidOperator}
use Rattle.b67_layout.specs.Common.{IsInOrderButCounts, Placement, code_objects, array_object, IsRunning, RepresentsSession, here, IsWordOf, cells}
use Rattle.b67_stack.specs.declared.Cpu.{Cpu}
use Rattle.b67_stack.specs.Common.{Location, home_word_of, home_word, Storage}
use Rattle.b67_layout.proofs.Common.{running_in_order, code_object, entry_row, words_enough}
use Rattle.b67_exec_cells.proofs.Replaced.{member_objects, before, array_object-has}

-- the words after the segments are originals
original_at : (n : ℕ) (ss : List Segment) (ws : List Word) (i : ℕ) (w : Word) → DictionaryWords n ss ws → slice_get ws i ≡ Some w → length ss ≤ i → w ≡ Original (1 + (i - length ss))
original_at n [] ws i w d e low = entry_row 1 ws i w d e ∙ ap (λ k. Original (1 + k)) (let z : i ≡ i - 0 = omega arith in z)
original_at n (s ∷ ss) [] i w d e low = absurd d
original_at n (s ∷ ss) (v ∷ ws) zero w d e low = absurd (omega (arith, low))
original_at n (s ∷ ss) (v ∷ ws) (suc i) w d e low = original_at (n + 1) ss ws i w d.1 e (omega (arith, low)) ∙ ap (λ k. Original (1 + k)) (let z : i - length ss ≡ suc i - length (s ∷ ss) = omega arith in z)

array_tag : (plan : Placement) (j : ℕ) (a : Array) (b : Bool) (h : Location) → a.writable ≡ b → (home_word (array_object plan j a) h).tag ≡ 5
array_tag plan j a b h e = grind arith

module _ (x : Storage) (cpu : Cpu) (plan : Placement) (s : Session) (m : SessionJob) (t : Task) (ordered : IsInOrderButCounts s) (h : RepresentsSession x cpu plan s) (runs : IsRunning plan s.jobs m t) where
  has_m : Has s.jobs m
  has_m = (keyed_has number_of m.constants.number s.jobs m runs.member).0

  -- the word of an entry is of tag 3 for a segment, and 5 for a data row
  pub record Entry (d : ℕ) : Type 0 where
    pub word : Tagged
    pub there : slice_get cpu.core (plan.dictionary m.constants.number + d) ≡ Some word
    pub is : ((d < length m.constants.segments + 2) × (word.tag ≡ 3)) ⊎ ((length m.constants.segments + 2 ≤ d) × (word.tag ≡ 5))

  pub few : length m.constants.segments ≤ length m.constants.dictionary.cells
  few =
      let o = (running_in_order plan s m t ordered runs).0.unchanging in
      grind (arith, words_enough, length-reverse)

  pub entry : (d : ℕ) → 2 ≤ d → d ≤ length m.constants.dictionary.cells + 1 → Entry d
  entry d low high = ⊎_elim
      (λ (l : d < length m.constants.segments + 2).
      (let g = code_object plan m.constants.number 1 m.constants.segments (d - 2) (omega (arith, l, low)) in
      let st = h.holds.memory.objects g.0 (member_objects plan s.jobs m g.0 has_m (before (code_objects plan m.constants.number 1 m.constants.segments) (map (array_object plan m.constants.number) m.progress.job.arrays) g.0 g.1)) in
      let at : plan.dictionary m.constants.number + d ≡ g.0.home = omega (arith, g.2, low) in
      record {
        word = home_word g.0 (x.held g.0.home);
        there = ap (slice_get cpu.core) at ∙ st.home;
        is = inl (l, ap (λ (k : Kind). (home_word_of k (length g.0.numbers) (x.held g.0.home)).tag) g.3);
      }))
      (λ (l : length m.constants.segments + 2 ≤ d).
      (let o = running_in_order plan s m t ordered runs in
      let n = 1 + (d - 2 - length m.constants.segments) in
      let w = get_within (reverse m.constants.dictionary.cells) (d - 2) (omega (arith, low, high, length-reverse m.constants.dictionary.cells)) in
      let e : w.0 ≡ Original n = original_at 1 m.constants.segments (reverse m.constants.dictionary.cells) (d - 2) w.0 o.0.unchanging.dictionary w.1 (omega (arith, l)) in
      let has : Has m.constants.dictionary.cells w.0 = has_reverse_back m.constants.dictionary.cells w.0 (has_get (reverse m.constants.dictionary.cells) (d - 2) w.0 w.1) in
      let a : OwnsArray m.progress.job.arrays 1 n = subst (EntryInOrder m.progress.job.arrays) e (all_in (EntryInOrder m.progress.job.arrays) m.constants.dictionary.cells w.0 o.0.tasks.entries has) in
      let T = array_object plan m.constants.number a.item in
      let st = h.holds.memory.objects T (array_object-has plan s.jobs m a.item has_m a.live) in
      let home : T.home ≡ plan.home m.constants.number n = ap (plan.home m.constants.number) a.named in
      let row = h.holds.fits.row_homes m has_m n (omega arith) (omega (arith, l, low, high)) in
      let at : plan.dictionary m.constants.number + d ≡ T.home = omega (arith, home, row, l, low) in
      record { word = home_word T (x.held T.home); there = ap (slice_get cpu.core) at ∙ st.home; is = inr (l, array_tag plan m.constants.number a.item a.item.writable (x.held T.home) refl) }))
      (cases_lt d (length m.constants.segments + 2))

  -- the entry that bits name
  pub named_word : (bits : ℕ) (v : Tagged) (q : Place)
      → (nat_lt bits (2 ^ 36) && (bit 19 bits == 0) && nat_lt 1 (bits % 2 ^ 14) && nat_le (bits % 2 ^ 14) (cpu.regs.entries + 1)) ≡ true
      → slice_get cpu.core (cpu.regs.dict + bits % 2 ^ 14) ≡ Some v → (v.tag == 3) ≡ is_proc (here m t q) bits
  named_word bits v q named there =
      let o = h.holds.running m t runs in
      let two = and_parts (nat_lt bits (2 ^ 36) && (bit 19 bits == 0) && nat_lt 1 (bits % 2 ^ 14)) (nat_le (bits % 2 ^ 14) (cpu.regs.entries + 1)) named in
      let three = and_parts (nat_lt bits (2 ^ 36) && (bit 19 bits == 0)) (nat_lt 1 (bits % 2 ^ 14)) two.0 in
      let low = ltb-true 1 (bits % 2 ^ 14) three.1 in
      let high = leb-true (bits % 2 ^ 14) (cpu.regs.entries + 1) two.1 in
      let e = entry (bits % 2 ^ 14) (omega (arith, low)) (omega (arith, high, o.entries)) in
      grind arith

  pub unnamed : (bits : ℕ) (q : Place) → (nat_lt bits (2 ^ 36) && (bit 19 bits == 0) && nat_lt 1 (bits % 2 ^ 14) && nat_le (bits % 2 ^ 14) (cpu.regs.entries + 1)) ≡ false → false ≡ is_proc (here m t q) bits
  unnamed bits q named = grind (arith, few)

  -- an entry that bits name lies in core
  pub entry-inside : (bits : ℕ) → (nat_lt bits (2 ^ 36) && (bit 19 bits == 0) && nat_lt 1 (bits % 2 ^ 14) && nat_le (bits % 2 ^ 14) (cpu.regs.entries + 1)) ≡ true
      → (cpu.regs.dict + bits % 2 ^ 14 < length cpu.core) × (length cpu.core < 2 ^ 20)
  entry-inside bits named =
      let o = h.holds.running m t runs in
      let two = and_parts (nat_lt bits (2 ^ 36) && (bit 19 bits == 0) && nat_lt 1 (bits % 2 ^ 14)) (nat_le (bits % 2 ^ 14) (cpu.regs.entries + 1)) named in
      let three = and_parts (nat_lt bits (2 ^ 36) && (bit 19 bits == 0)) (nat_lt 1 (bits % 2 ^ 14)) two.0 in
      let low = ltb-true 1 (bits % 2 ^ 14) three.1 in
      let high = leb-true (bits % 2 ^ 14) (cpu.regs.entries + 1) two.1 in
      let e = entry (bits % 2 ^ 14) (omega (arith, low)) (omega (arith, high, o.entries)) in
      grind (arith, slice_get_within)

pub procedure_fits : (x : Storage) (plan : Placement) (m : SessionJob) (t : Task) (q : Place) (bits at : ℕ) → is_proc (here m t q) bits ≡ true → (bits < 2 ^ 36) × IsWordOf x plan m t (proc_of bits) at (word 7 bits)
procedure_fits x plan m t q bits at is = grind arith

pub procedure_row : (m : SessionJob) (t : Task) (q : Place) (bits : ℕ) → is_proc (here m t q) bits ≡ true → mpcw (here m t q) bits ≡ leaves_cells (here m t q) (proc_of bits ∷ cells t) None
procedure_row m t q bits is = rw is refl

pub no_procedure : (m : SessionJob) (t : Task) (q : Place) (bits : ℕ) → is_proc (here m t q) bits ≡ false → mpcw (here m t q) bits ≡ Err InvalidOperator
no_procedure m t q bits is = rw is refl
