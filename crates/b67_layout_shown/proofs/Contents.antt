-- Numbers and code that are read have the lengths and the bits of the session's; the dictionary's words are its own.
use Rattle.std.proofs.Common.{◌≡◌, ℕ, zero, suc, ◌+◌, ◌^◌, ◌<◌, ◌≤◌, Bool, List, [], ◌∷◌, ◌++◌, map, reverse, replicate, length, Option, Some, None, refl, sym, ◌∙◌, ap, subst, arith, inl, inr}
use Rattle.std.specs.Prelude.{not, if◌then◌else◌}
use Rattle.std.specs.List.{AllByRecursion}
use Rattle.std.proofs.lemmas.List.{length-replicate, length-reverse, reverse-append, reverse-reverse}
use Rattle.std.proofs.lemmas.Bool.Decides.{eqb_tells}
use Rattle.b67_word.specs.Tagged.{Tagged, word, bits_at}
use Rattle.b67_ctl.specs.declared.descriptors.DataDesc.{DataDesc}
use Rattle.b67_ctl.specs.declared.registers.Regs.{Regs}
use Rattle.b67_ctl.specs.Descriptors.{data_word}
use Rattle.b67_area.specs.declared.Info.{Info}
use Rattle.b67_area.specs.declared.Kind.TheVariants as kind
use Rattle.b67_area.specs.Spans.{Span, Area, Hole, wide, end, area_at}
use Rattle.b67_lemmas.specs.Lists.{Has}
use Rattle.b67_model.specs.Words as Words
use Rattle.b67_model.specs.Common.{Word, Original, Array, Segment, SegmentInOrder, rows_after, DictionaryWords}
use Rattle.b67_stack.specs.Common.{Location, LieUpward, PagedObject, MachineView, is_present, address_or, home_desc, home_word_of, Storage, Represents, Content}
use Rattle.b67_layout.specs.Common.{Placement, array_object, code_objects}
use Rattle.b67_layout_shown.specs.Reading.{word_seen_at, is_set, desc_in}
use Rattle.b67_layout_shown.specs.Shown.{numbers_seen, contents_by, numbers_read, segments_from, row_cells, segment_cells}
use Rattle.b67_layout_shown.specs.ButNames.{code_lengths}
use Rattle.b67_layout_shown.proofs.Bits.{desc_read, seg_read}
use Rattle.b67_layout_shown.proofs.Stacks.{word_is}
use Rattle.b67_layout_shown.proofs.Upward.{up_rows, up_segments, rows_turned, segments_turned}

-- ---- a dictionary's words

rows_are : (i n : ℕ) (ws : List Word) → rows_after i ws → length ws ≡ n → ws ≡ up_rows i n
rows_are i zero [] r e = refl
rows_are i zero (w ∷ ws) r e = absurd (omega (arith, e))
rows_are i (suc n) [] r e = absurd (omega (arith, e))
rows_are i (suc n) (w ∷ ws) r e = ap (λ v. v ∷ ws) r.0 ∙ ap (λ vs. Original i ∷ vs) (rows_are (i + 1) n ws r.1 (omega (arith, e)))

words_are : (i n : ℕ) (segments : List Segment) (ws : List Word) → DictionaryWords i segments ws → length ws ≡ n + length segments → ws ≡ up_segments i (length segments) ++ up_rows 1 n
words_are i n [] ws d e = rows_are 1 n ws d (omega (arith, e))
words_are i n (s ∷ more) [] d e = absurd d
words_are i n (s ∷ more) (w ∷ ws) d e = ap (λ v. v ∷ ws) d.0 ∙ ap (λ vs. Words.Segment i ∷ vs) (words_are (i + 1) n more ws d.1 (omega (arith, e)))

pub dictionary_is : (n : ℕ) (segments : List Segment) (cells : List Word) → DictionaryWords 1 segments (reverse cells) → n + length segments ≡ length cells → row_cells n ++ segment_cells (length segments) ≡ cells
dictionary_is n segments cells d e =
    let long = length-reverse cells in
    let turned : reverse (row_cells n ++ segment_cells (length segments)) ≡ reverse cells =
    reverse-append (row_cells n) (segment_cells (length segments)) ∙ ap (λ ws. ws ++ reverse (row_cells n)) (segments_turned (length segments))
    ∙ ap (λ ws. up_segments 1 (length segments) ++ ws) (rows_turned n) ∙ sym (words_are 1 n segments (reverse cells) d (omega (arith, e, long))) in
    sym (reverse-reverse (row_cells n ++ segment_cells (length segments))) ∙ ap reverse turned ∙ reverse-reverse cells

-- ---- numbers

pub up_numbers : (core : List Tagged) (tag : ℕ) (at : ℕ) (ns : List ℕ) → LieUpward core at (map (word tag) ns) → numbers_seen core at (length ns) ≡ ns
up_numbers core tag at [] l = refl
up_numbers core tag at (n ∷ ns) l = ap (λ (w : Tagged). w.bits ∷ numbers_seen core (at + 1) (length ns)) (word_is core at (word tag n) l.0) ∙ ap (λ ms. n ∷ ms) (up_numbers core tag (at + 1) ns l.1)

abbrev pub AreNumbers : List ℕ → Type 0
AreNumbers ns = AllByRecursion (λ n. n < 2 ^ 48) ns

zeros : (n : ℕ) → AreNumbers (replicate n zero)
zeros zero = tt
zeros (suc n) = (omega arith, zeros n)

area_below : (at : ℕ) (ss : List Span) (x : ℕ) (a : Info) → area_at at ss x ≡ Some a → x ≤ end at ss
area_below at [] x a e = let z : ⊥ = cc in absurd z
area_below at (Hole n ∷ ss) x a e = area_below (at + n) ss x a e
area_below at (Area i ∷ ss) x a e = elim (eqb_tells (at + 1) x) [
  | inl q ↦ (let low = end_above (at + (i.words + 2)) ss in omega (arith, q.1, low))
  | inr q ↦ area_below (at + (i.words + 2)) ss x a (subst (λ (t : Bool). (if t then Some i else area_at (at + (i.words + 2)) ss x) ≡ Some a) q.0 e)
] where
  end_above : (at : ℕ) (ss : List Span) → at ≤ end at ss
  end_above at [] = omega arith
  end_above at (s ∷ ss) = let low = end_above (at + wide s) ss in omega (arith, low)

-- what is read of an object: its own numbers, or as many zeros
pub record IsRead (old new : List ℕ) : Type 0 where
  pub long : length new ≡ length old
  pub bits : AreNumbers old → AreNumbers new

-- segments
pub record AreShown (ss shown : List Segment) : Type 0 where
  pub long : length shown ≡ length ss
  pub lengths : code_lengths shown ≡ code_lengths ss
  pub order : AllByRecursion SegmentInOrder shown

module _ (x : Storage) (core : List Tagged) (r : Regs) (p : MachineView) (stands : Represents x core r p) where
  -- the address in a descriptor has 20 bits
  pub address_small : (t : PagedObject) → Has p.objects t → address_or (x.held t.home).area (x.held t.home).chain < 2 ^ 20
  address_small t there = by (x.held t.home).area refl (stands.objects t there).content where
    by : (o : Option ℕ) → (x.held t.home).area ≡ o → Content x core t o (x.held t.home).chain → address_or o (x.held t.home).chain < 2 ^ 20
    by None e (inl h) = h.chain.small
    by None e (inr h) = let z = h.0 in omega (arith, z)
    by (Some at) e h =
        let o = stands.owned.of_held t.home at e in
        let low = area_below x.low x.spans at _ o.3 in
        let all = stands.directory.all in
        let small = stands.directory.small in
        omega (arith, low, all, small)

  contents_read : (t : PagedObject) → Has p.objects t → IsRead t.numbers (contents_by core (length t.numbers) (address_or (x.held t.home).area (x.held t.home).chain) (is_present (x.held t.home).area))
  contents_read t there = grind (arith, length-replicate, zeros, up_numbers)

  pub word_of_object : (t : PagedObject) → Has p.objects t → word_seen_at core t.home ≡ home_word_of t.kind (length t.numbers) (x.held t.home)
  word_of_object t there = word_is core t.home (home_word_of t.kind (length t.numbers) (x.held t.home)) (stands.objects t there).home

  pub kinds : (b : Bool) (n : ℕ) (h : Location) → home_word_of (if b then kind.Array else kind.Row) n h ≡ data_word (home_desc (not b) n h)
  kinds b n h = grind arith

  pub array_fits : (plan : Placement) (j : ℕ) (a : Array) → Has p.objects (array_object plan j a) → length a.numbers < 2 ^ 16 → IsRead a.numbers (numbers_read core (plan.home j) a.identity)
  array_fits plan j a there small =
      let h = x.held (plan.home j a.identity) in
      let desc = home_desc (not a.writable) (length a.numbers) h in
      let is : desc_in (word_seen_at core (plan.home j a.identity)) ≡ desc =
      ap desc_in (word_of_object (array_object plan j a) there ∙ kinds a.writable (length a.numbers) h) ∙ desc_read desc (omega (arith, small)) (address_small (array_object plan j a) there) in
      subst (λ (d : DataDesc). IsRead a.numbers (contents_by core d.length d.address d.present)) (sym is) (contents_read (array_object plan j a) there)

  pub segments_read : (plan : Placement) (j n : ℕ) (ss : List Segment) → ((t : PagedObject) → Has (code_objects plan j n ss) t → Has p.objects t) → AllByRecursion SegmentInOrder ss
      → (at : ℕ) → at ≡ plan.dictionary j + 1 + n → AreShown ss (segments_from core at (length ss))
  segments_read plan j n [] inside all at e = record { long = refl; lengths = refl; order = tt }
  segments_read plan j n (s ∷ more) inside all at e =
      let t : PagedObject = record { home = plan.dictionary j + 1 + n; kind = kind.Code; numbers = s.code } in
      let there = inside t (inl refl) in
      let own = all.0 in
      let high = own.length_high in
      let low = own.length_low in
      let h = x.held (plan.dictionary j + 1 + n) in
      let is = ap (word_seen_at core) e ∙ word_of_object t there in
      let f = seg_read (is_present h.area) (length s.code) (address_or h.area h.chain) (omega (arith, high)) (address_small t there) in
      let code : contents_by core (bits_at (word_seen_at core at) 20 20) (bits_at (word_seen_at core at) 0 20) (is_set (word_seen_at core at) 47) ≡ contents_by core (length s.code) (address_or h.area h.chain) (is_present h.area) =
      ap (λ (w : Tagged). contents_by core (bits_at w 20 20) (bits_at w 0 20) (is_set w 47)) is
      ∙ ap (λ b. contents_by core (bits_at (home_word_of kind.Code (length s.code) h) 20 20) (bits_at (home_word_of kind.Code (length s.code) h) 0 20) b) f.0
      ∙ ap (λ q. contents_by core q (bits_at (home_word_of kind.Code (length s.code) h) 0 20) (is_present h.area)) f.1
      ∙ ap (λ q. contents_by core (length s.code) q (is_present h.area)) f.2 in
      let c = contents_read t there in
      let long = c.long in
      let rest = segments_read plan j (n + 1) more (λ u k. inside u (inr k)) all.1 (at + 1) (omega (arith, e)) in
      record {
        long = ap suc rest.long;
        lengths = ap (λ q. q ∷ code_lengths (segments_from core (at + 1) (length more))) (ap (λ (ns : List ℕ). length ns) code ∙ c.long) ∙ ap (λ (qs : List ℕ). length s.code ∷ qs) rest.lengths;
        order = (
          subst (λ (ns : List ℕ). SegmentInOrder (record { level = 0; entries = []; code = ns })) (sym code)
              (record { length_low = omega (arith, long, low); length_high = omega (arith, long, high); words = c.bits own.words }),
          rest.order,
        );
      }

  pub array_read : (plan : Placement) (j : ℕ) (a : Array) → Has p.objects (array_object plan j a) → length a.numbers < 2 ^ 16
      → numbers_read core (plan.home j) a.identity ≡ contents_by core (length a.numbers) (address_or (x.held (plan.home j a.identity)).area (x.held (plan.home j a.identity)).chain) (is_present (x.held (plan.home j a.identity)).area)
  array_read plan j a there small =
      let h = x.held (plan.home j a.identity) in
      let desc = home_desc (not a.writable) (length a.numbers) h in
      ap (λ (d : DataDesc). contents_by core d.length d.address d.present)
      (ap desc_in (word_of_object (array_object plan j a) there ∙ kinds a.writable (length a.numbers) h) ∙ desc_read desc (omega (arith, small)) (address_small (array_object plan j a) there))

  -- the objects of segments, with the code that is read
  pub codes_read : (plan plan' : Placement) (j n : ℕ) (ss : List Segment) → ((t : PagedObject) → Has (code_objects plan j n ss) t → Has p.objects t) → AllByRecursion SegmentInOrder ss → plan'.dictionary j ≡ plan.dictionary j
      → (at : ℕ) → at ≡ plan.dictionary j + 1 + n
      → code_objects plan' j n (segments_from core at (length ss))
      ≡ map (λ (t : PagedObject). record t { numbers = contents_by core (length t.numbers) (address_or (x.held t.home).area (x.held t.home).chain) (is_present (x.held t.home).area) }) (code_objects plan j n ss)
  codes_read plan plan' j n [] inside all dict at e = refl
  codes_read plan plan' j n (s ∷ more) inside all dict at e =
      let t : PagedObject = record { home = plan.dictionary j + 1 + n; kind = kind.Code; numbers = s.code } in
      let there = inside t (inl refl) in
      let own = all.0 in
      let high = own.length_high in
      let h = x.held (plan.dictionary j + 1 + n) in
      let is = ap (word_seen_at core) e ∙ word_of_object t there in
      let f = seg_read (is_present h.area) (length s.code) (address_or h.area h.chain) (omega (arith, high)) (address_small t there) in
      let code : contents_by core (bits_at (word_seen_at core at) 20 20) (bits_at (word_seen_at core at) 0 20) (is_set (word_seen_at core at) 47) ≡ contents_by core (length s.code) (address_or h.area h.chain) (is_present h.area) =
      ap (λ (w : Tagged). contents_by core (bits_at w 20 20) (bits_at w 0 20) (is_set w 47)) is
      ∙ ap (λ b. contents_by core (bits_at (home_word_of kind.Code (length s.code) h) 20 20) (bits_at (home_word_of kind.Code (length s.code) h) 0 20) b) f.0
      ∙ ap (λ q. contents_by core q (bits_at (home_word_of kind.Code (length s.code) h) 0 20) (is_present h.area)) f.1
      ∙ ap (λ q. contents_by core (length s.code) q (is_present h.area)) f.2 in
      let rest = codes_read plan plan' j (n + 1) more (λ u k. inside u (inr k)) all.1 dict (at + 1) (omega (arith, e)) in
      ap (λ d. record { home = d + 1 + n; kind = kind.Code; numbers = contents_by core (bits_at (word_seen_at core at) 20 20) (bits_at (word_seen_at core at) 0 20) (is_set (word_seen_at core at) 47) } ∷ code_objects plan' j (n + 1) (segments_from core (at + 1) (length more))) dict
      ∙ ap (λ (ns : List ℕ). record { home = plan.dictionary j + 1 + n; kind = kind.Code; numbers = ns } ∷ code_objects plan' j (n + 1) (segments_from core (at + 1) (length more))) code
      ∙ ap (λ (ts : List PagedObject). record { home = plan.dictionary j + 1 + n; kind = kind.Code; numbers = contents_by core (length s.code) (address_or h.area h.chain) (is_present h.area) } ∷ ts) rest
