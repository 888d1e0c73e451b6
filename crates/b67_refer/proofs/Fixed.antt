-- The cells of the MCP and of the job's dictionary.
use Rattle.std.proofs.Common.{◌≡◌, ◌≢◌, ℕ, zero, suc, ◌+◌, ◌-◌, ◌<◌, ◌≤◌, ◌^◌, List, [], ◌∷◌, ◌++◌, map, flat_map, reverse, length, Option, Some, None, Ok, Err, refl, sym, ◌∙◌, ap, arith, Bool, true, false, ◌⊎◌, ⊎_elim, inl, inr, subst}
use Rattle.std.specs.Prelude.{if◌then◌else◌, nat_lt}
use Rattle.std.specs.List.{slice_get}
use Rattle.std.specs.Option.{ok_or}
use Rattle.std.proofs.lemmas.Bool.{le-ltb}
use Rattle.std.proofs.lemmas.Option.{same_Some, slice_get_past}
use Rattle.std.proofs.lemmas.List.{length-reverse}
use Rattle.b67_word.specs.Tagged.{Tagged}
use Rattle.b67_word.specs.declared.couples.Place.{Place}
use Rattle.b67_word.specs.declared.faults.Fault.TheVariants.{InvalidAddress}
use Rattle.b67_ctl.specs.declared.registers.Regs.{Regs}
use Rattle.b67_ctl.specs.Descriptors.{IsDataDesc}
use Rattle.b67_area.specs.declared.Kind.{Kind}
use Rattle.b67_area.specs.declared.Kind.TheVariants as kind
use Rattle.b67_area.proofs.Laws.{area_inside}
use Rattle.b67_model.specs.Common.{Word, Original, Intrinsic, Frame, Entered, Segment, mcp, first_offset, cell_of, cell, OwnsArray, EntryInOrder, DictionaryWords}
use Rattle.b67_lemmas.specs.Lists.{Has}
use Rattle.b67_lemmas.proofs.Members.{all_in, has_append_left, has_append_right, has_flat, has_get, has_map, has_reverse_back, keyed_has}
use Rattle.b67_lemmas.proofs.Places.{get_within}
use Rattle.b67_model.specs.Words as Words
use Rattle.b67_stack.specs.Common.{Location, IsOriginal, PagedObject, MachineView, home_desc, home_word_of, Storage, Represents, info_of}
use Rattle.b67_stack.proofs.Homes.{chain_small}
use Rattle.b67_layout.specs.Common.{address_of, array_object, code_objects, objects_of, frame_address, here}
use Rattle.b67_layout.proofs.Sessions.{code_object, dictionary_above, entry_row}
use Rattle.b67_refer.specs.RunningContext.{LiveContext}
use Rattle.b67_refer.specs.LiveCells.{StandsFor, IsCellAt, CellMeets}
use Rattle.b67_refer.proofs.Bases.{viewed}
use Rattle.b67_refer.proofs.Marks.{view_low, base_in, frame_dictionary, frame_mcp, dictionary_address}

mcp_get : (i : ℕ) → i < 11 → slice_get (reverse mcp.cells) i ≡ Some (Intrinsic (8 + i))
mcp_get i low = grind arith

entry_is : (n : ℕ) (ss : List Segment) (ws : List Word) (i : ℕ) (w : Word) → DictionaryWords n ss ws → slice_get ws i ≡ Some w
    → ((i < length ss) × (w ≡ Words.Segment (n + i))) ⊎ ((length ss ≤ i) × (w ≡ Original (1 + (i - length ss))))
entry_is n [] ws i w d e = inr (omega arith, entry_row 1 ws i w d e ∙ ap (λ k. Original (1 + k)) (let z : i ≡ i - 0 = omega arith in z))
entry_is n (s ∷ ss) [] i w d e = absurd d
entry_is n (s ∷ ss) (v ∷ ws) zero w d e = inl (omega arith, sym (same_Some v w e) ∙ d.0 ∙ ap Words.Segment (let z : n ≡ n + 0 = omega arith in z))
entry_is n (s ∷ ss) (v ∷ ws) (suc i) w d e = grind (arith, entry_is (n + 1) ss ws i w d.1 e)

module _ (x : Storage) (core : List Tagged) (r : Regs) (p : MachineView) (s : Represents x core r p) (t : PagedObject) (int : Has p.objects t) where
  pub area_small : (b : ℕ) → (x.held t.home).area ≡ Some b → b < 2 ^ 20
  area_small b e =
      let o = s.owned.of_held t.home b e in
      omega (arith, (area_inside core x.low x.spans b (info_of x o.0) s.directory o.3).1, s.directory.small)

  pub desc_fits : (b : Bool) (n : ℕ) (o : Option ℕ) (f : ℕ) → n < 2 ^ 20 → f < 2 ^ 20 → ((z : ℕ) → o ≡ Some z → z < 2 ^ 20) → IsDataDesc (home_desc b n (record { area = o; chain = f }))
  desc_fits b n o f small fits af = grind arith

  original_by : (k : Kind) (h : Location) → k ≢ kind.Code → length t.numbers < 2 ^ 20 → h.chain < 2 ^ 20 → ((z : ℕ) → h.area ≡ Some z → z < 2 ^ 20) → IsOriginal (home_word_of k (length t.numbers) h)
  original_by kind.Array h n small fits af = record { desc = home_desc false (length t.numbers) h; fits = desc_fits false (length t.numbers) h.area h.chain small fits af; own = refl; is = refl }
  original_by kind.Row h n small fits af = record { desc = home_desc true (length t.numbers) h; fits = desc_fits true (length t.numbers) h.area h.chain small fits af; own = refl; is = refl }
  original_by kind.Code h n small fits af = absurd (n refl)

  -- the word of an array's original
  pub object_original : t.kind ≢ kind.Code → IsOriginal (home_word_of t.kind (length t.numbers) (x.held t.home))
  object_original n = original_by t.kind (x.held t.home) n (omega (arith, (s.slots.laid.lengths t int).1)) (chain_small x core t (x.held t.home).area (x.held t.home).chain (s.objects t int).content) area_small

no_code : (b : Bool) → (if b then kind.Array else kind.Row) ≢ kind.Code
no_code b e = grind arith

module _ (core : List Tagged) (r : Regs) (a : LiveContext core r) where
  pub mcp_address : frame_address a.plan a.member a.task 0 ≡ 0
  mcp_address = ap (address_of a.plan) (view_low core r a 0 (omega arith))

  pub dictionary_home : frame_address a.plan a.member a.task 1 ≡ a.plan.dictionary a.member.constants.number
  dictionary_home = ap (address_of a.plan) (view_low core r a 1 (omega arith)) ∙ dictionary_address core r a

  has_member : Has a.session.jobs a.member
  has_member = (keyed_has (λ m. m.constants.number) a.member.constants.number a.session.jobs a.member a.running.member).0

  pub dictionary_high : 160 ≤ a.plan.dictionary a.member.constants.number
  dictionary_high = dictionary_above a.plan 160 a.session.jobs a.member a.holds.fits.dictionaries has_member

  pub has_object : (t : PagedObject) → Has (objects_of a.plan a.member) t → Has (a.left ++ flat_map (objects_of a.plan) a.session.jobs) t
  has_object t h = has_append_right a.left (flat_map (objects_of a.plan) a.session.jobs) t (has_flat (objects_of a.plan) a.session.jobs a.member t has_member h)

  module _ (q : Place) where
    look_mcp : (offset : ℕ) → cell (here a.member a.task q) 0 offset ≡ ok_or (if nat_lt offset 8 then None else slice_get (reverse mcp.cells) (offset - 8)) InvalidAddress
    look_mcp offset = ap (λ (g : Frame). ok_or (cell_of g offset) InvalidAddress) (frame_mcp core r a q)

    pub mcp_misses : (offset : ℕ) → (offset < 8) ⊎ (18 < offset) → cell (here a.member a.task q) 0 offset ≡ Err InvalidAddress
    mcp_misses offset far = grind (arith, look_mcp)

    pub mcp_lands : (offset : ℕ) → 8 ≤ offset → offset ≤ 18 → CellMeets a q 0 offset (Ok offset) (cell (here a.member a.task q) 0 offset)
    mcp_lands offset low up =
        let t : nat_lt offset 8 ≡ false = le-ltb offset 8 low in
        let w : slice_get (reverse mcp.cells) (offset - 8) ≡ Some (Intrinsic offset) = mcp_get (offset - 8) (omega (arith, low, up)) ∙ ap (λ n. Some (Intrinsic n)) (let e : 8 + (offset - 8) ≡ offset = omega (arith, low) in e) in
        let found : cell (here a.member a.task q) 0 offset ≡ Ok (Intrinsic offset) = look_mcp offset ∙ (rw t (ap (λ (o : Option Word). ok_or o InvalidAddress) w)) in
        let is : IsCellAt a q offset 0 offset (Intrinsic offset) = record {
          address = (let z = mcp_address in omega (arith, z));
          names = record { standing = Entered 0 0 None; among = base_in core r a 0 (Entered 0 0 None) (inr (inl refl)); entered = tt };
          found = found;
          word = Rattle.b67_word.specs.Tagged.word 7 (2 ^ 19 + offset);
          there = a.holds.mcp.intrinsics offset low up;
          stands = (refl, low, up);
        } in
        grind arith

    look_dictionary : (offset : ℕ) → cell (here a.member a.task q) 1 offset ≡ ok_or (if nat_lt offset 2 then None else slice_get (reverse a.member.constants.dictionary.cells) (offset - 2)) InvalidAddress
    look_dictionary offset =
        ap (λ (g : Frame). ok_or (cell_of g offset) InvalidAddress) (frame_dictionary core r a q)
        ∙ (let first : first_offset a.member.constants.dictionary ≡ 2 = rw a.ordered.constants.named refl in
        ap (λ (n : ℕ). ok_or (if nat_lt offset n then None else slice_get (reverse a.member.constants.dictionary.cells) (offset - n)) InvalidAddress) first)

    pub dictionary_misses : (offset : ℕ) → (offset < 2) ⊎ (1 + length a.member.constants.dictionary.cells < offset) → cell (here a.member a.task q) 1 offset ≡ Err InvalidAddress
    dictionary_misses offset far = grind (arith, look_dictionary, slice_get_past, length-reverse)

    -- the word of core at an entry
    record Entry (i : ℕ) (w : Word) : Type 0 where
      pub word : Tagged
      pub there : slice_get core (a.plan.dictionary a.member.constants.number + (2 + i)) ≡ Some word
      pub stands : StandsFor a (a.plan.dictionary a.member.constants.number + (2 + i)) 1 word w

    entry : (i : ℕ) (w : Word) → i < length a.member.constants.dictionary.cells → slice_get (reverse a.member.constants.dictionary.cells) i ≡ Some w → Entry i w
    entry i w low e = ⊎_elim
        (λ (l : (i < length a.member.constants.segments) × (w ≡ Words.Segment (1 + i))).
        (let t = code_object a.plan a.member.constants.number 1 a.member.constants.segments i l.0 in
        let int = has_object t.0 (has_append_left (code_objects a.plan a.member.constants.number 1 a.member.constants.segments) (map (array_object a.plan a.member.constants.number) a.member.progress.job.arrays) t.0 t.1) in
        let st = a.holds.memory.objects t.0 int in
        let at : a.plan.dictionary a.member.constants.number + (2 + i) ≡ t.0.home = (let h = t.2 in omega (arith, h)) in
        let is : Entry i (Words.Segment (1 + i)) = record {
          word = home_word_of t.0.kind (length t.0.numbers) (a.storage.held t.0.home);
          there = ap (slice_get core) at ∙ st.home;
          stands = ap (λ (k : Kind). (home_word_of k (length t.0.numbers) (a.storage.held t.0.home)).tag) t.3;
        } in
        subst (Entry i) (sym l.1) is))
        (λ (l : (length a.member.constants.segments ≤ i) × (w ≡ Original (1 + (i - length a.member.constants.segments)))).
        (let n = 1 + (i - length a.member.constants.segments) in
        let has : Has a.member.constants.dictionary.cells w = has_reverse_back a.member.constants.dictionary.cells w (has_get (reverse a.member.constants.dictionary.cells) i w e) in
        let o : OwnsArray a.member.progress.job.arrays 1 n = subst (EntryInOrder a.member.progress.job.arrays) l.1 (all_in (EntryInOrder a.member.progress.job.arrays) a.member.constants.dictionary.cells w a.ordered.tasks.entries has) in
        let t = array_object a.plan a.member.constants.number o.item in
        let int = has_object t (has_append_right (code_objects a.plan a.member.constants.number 1 a.member.constants.segments) (map (array_object a.plan a.member.constants.number) a.member.progress.job.arrays) t (has_map (array_object a.plan a.member.constants.number) a.member.progress.job.arrays o.item o.live)) in
        let st = a.holds.memory.objects t int in
        let home : t.home ≡ a.plan.home a.member.constants.number n = ap (a.plan.home a.member.constants.number) o.named in
        let at : a.plan.dictionary a.member.constants.number + (2 + i) ≡ a.plan.home a.member.constants.number n =
        (let z = a.holds.fits.row_homes a.member has_member n (omega arith) (omega (arith, low, l.0)) in omega (arith, z, l.0)) in
        let is : Entry i (Original n) = record {
          word = home_word_of t.kind (length t.numbers) (a.storage.held t.home);
          there = ap (slice_get core) (at ∙ sym home) ∙ st.home;
          stands = ((at, object_original a.storage core r (viewed core r a) a.holds.memory t int (no_code o.item.writable)), o);
        } in
        subst (Entry i) (sym l.1) is))
        (entry_is 1 a.member.constants.segments (reverse a.member.constants.dictionary.cells) i w a.ordered.constants.dictionary e)

    pub dictionary_lands : (offset : ℕ) → 2 ≤ offset → offset ≤ 1 + length a.member.constants.dictionary.cells
        → CellMeets a q 1 offset (Ok (a.plan.dictionary a.member.constants.number + offset)) (cell (here a.member a.task q) 1 offset)
    dictionary_lands offset low up =
        let t : nat_lt offset 2 ≡ false = le-ltb offset 2 low in
        let small : offset - 2 < length a.member.constants.dictionary.cells = omega (arith, low, up) in
        let w = get_within (reverse a.member.constants.dictionary.cells) (offset - 2) (let l = length-reverse a.member.constants.dictionary.cells in omega (arith, small, l)) in
        let found : cell (here a.member a.task q) 1 offset ≡ Ok w.0 = look_dictionary offset ∙ (rw t (ap (λ (o : Option Word). ok_or o InvalidAddress) w.1)) in
        let n = entry (offset - 2) w.0 small w.1 in
        let at : a.plan.dictionary a.member.constants.number + (2 + (offset - 2)) ≡ a.plan.dictionary a.member.constants.number + offset = omega (arith, low) in
        let S : ℕ → Type 0 = λ i. StandsFor a i 1 n.word w.0 in
        let is : IsCellAt a q (a.plan.dictionary a.member.constants.number + offset) 1 offset w.0 = record {
          address = ap (λ (i : ℕ). i + offset) (sym dictionary_home);
          names = record { standing = Entered 1 0 None; among = base_in core r a 1 (Entered 1 0 None) (inl refl); entered = tt };
          found = found;
          word = n.word;
          there = ap (slice_get core) (sym at) ∙ n.there;
          stands = subst S at n.stands;
        } in
        grind arith
