-- Stacks are read back.
use Rattle.std.proofs.Common.{◌≡◌, ◌≢◌, ℕ, zero, suc, ◌+◌, ◌-◌, ◌^◌, ◌<◌, ◌≤◌, Bool, List, [], ◌∷◌, ◌++◌, length, Option, Some, None, refl, sym, ◌∙◌, ap, subst, arith, length-append}
use Rattle.std.specs.Prelude.{MatchBool, unwrap_or}
use Rattle.std.specs.List.{slice_get}
use Rattle.std.proofs.lemmas.Bool.{ne_eqb}
use Rattle.std.proofs.lemmas.Bool.Decides.{eqb_tells}
use Rattle.b67_word.specs.Tagged.{Tagged, word, bits_at}
use Rattle.b67_ctl.specs.declared.descriptors.DataDesc.{DataDesc}
use Rattle.b67_ctl.specs.declared.marks.Mscw.{Mscw}
use Rattle.b67_ctl.specs.declared.registers.Regs.{Regs}
use Rattle.b67_ctl.specs.Descriptors.{data_word}
use Rattle.b67_ctl.specs.Layout.{mscw_word, rcw_word}
use Rattle.b67_area.specs.declared.Info.{Info}
use Rattle.b67_area.specs.Spans.{Span, Area, Hole, area_at}
use Rattle.b67_area.specs.Words.{head_word, kind_number, hole_high}
use Rattle.b67_area.specs.Directory as directory
use Rattle.b67_model.specs.State.{Return}
use Rattle.b67_stack.specs.Common.{Shape, Is, Original, Copy, Locations, is_indexed, IsNumber, copy_desc, Fits, LieDownward, Head, Marked, Entered, Activation, head_size, top_size, wants_value, ReturnFits, stack_words, mark_place, stack_level, mark_of, return_of, headed, words, HeadFits, HeadsFit, IsStack, MachineView, Slot, slot_base, stack_of, SlotFits, Storage, Represents, info_of}
use Rattle.b67_stack.proofs.Lies.{Lie-under}
use Rattle.b67_stack.proofs.Heights.{words-length}
use Rattle.b67_layout_shown.specs.Reading.{word_seen_at, mscw_in, rcw_in, home_by, index_by, descriptor_by, shape_by, shape_in, cells_in, return_by, activation_by, below_by, stack_seen}
use Rattle.b67_layout_shown.specs.Laws.{HasCaller, HaveCallers, StacksAreRead}
use Rattle.b67_layout_shown.proofs.Bits.{mscw_read, desc_read, owner_read}

-- the head of the area in which an object is held names the object's home
abbrev pub FindsHomes : List Tagged → Locations → Type 0
FindsHomes core held = (home at : ℕ) → (held home).area ≡ Some at → bits_at (word_seen_at core (at - 1)) 0 20 ≡ home

pub word_is : (core : List Tagged) (i : ℕ) (w : Tagged) → slice_get core i ≡ Some w → word_seen_at core i ≡ w
word_is core i w e = ap (λ (o : Option Tagged). unwrap_or o (word 0 0)) e

-- ---- words

index_read : (index : Option ℕ) (number : ℕ) → IsNumber index number → index_by number (is_indexed index) ≡ index
index_read index number h = grind arith

module _ (core : List Tagged) (held : Locations) (finds : FindsHomes core held) where
  home_read : (home address : ℕ) (present : Bool) → MatchBool present ((held home).area ≡ Some address) (address ≡ home) → home_by core address present ≡ home
  home_read home address present e = grind arith

  described : (at : ℕ) (d : DataDesc) → d.length < 2 ^ 20 → d.address < 2 ^ 20 → shape_in core at (data_word d) ≡ descriptor_by core at d d.copy
  described at d lh kh = ap (λ (e : DataDesc). descriptor_by core at e e.copy) (desc_read d lh kh)

  shape_read : (a : Shape) (at : ℕ) (w : Tagged) → Fits held a at w → shape_in core at w ≡ a
  shape_read (Is v) at w f = ap (shape_by core at w) (ne_eqb w.tag 5 (λ z. f.1 (sym (ap (λ (u : Tagged). u.tag) f.0) ∙ z))) ∙ ap Is f.0
  shape_read (Original home) at w f = grind arith
  shape_read (Copy c home) at w f =
      ap (shape_in core at) f.is ∙ described at (copy_desc c f.number f.present f.address) f.fits.words f.fits.address
      ∙ ap (λ (i : Option ℕ). Copy (record { index = i; read_only = c.read_only }) (home_by core f.address f.present)) (index_read c.index f.number f.numbered)
      ∙ ap (λ (h : ℕ). Copy c h) (home_read home f.address f.present f.to)

  cells_read : (from : ℕ) (cells rest : List Shape) → LieDownward (Fits held) core from (cells ++ rest) → (low : ℕ) → low ≡ from + length rest → cells_in core low (length cells) ≡ cells
  cells_read from [] rest l low e = refl
  cells_read from (a ∷ more) rest l low e = grind (arith, length-append, shape_read, cells_read from more rest l.1 low e)

  -- ---- heads

  mark_read : (i from : ℕ) (m : Mscw) (under : List Shape) → LieDownward (Fits held) core from (Is (mscw_word m) ∷ under) → i ≡ from + length under
      → m.env_stack < 2 ^ 10 → m.env_disp < 2 ^ 16 → m.level < 2 ^ 5 → m.back < 2 ^ 14 → mscw_in (word_seen_at core i) ≡ m
  mark_read i from m under l e ch dh lh kh = grind (arith, mscw_read)

  pub top_some : (below : List Activation) → below ≢ [] → 0 < top_size below
  top_some below some = grind arith

  return_read : (i from : ℕ) (back : Option Return) (below : List Activation) (under : List Shape) → ReturnFits back below → HasCaller (Entered 0 (record { stack = 0; disp = 0 }) back) below → stack_level below < 2 ^ 5
      → LieDownward (Fits held) core from (Is (rcw_word (return_of back below)) ∷ under) → i ≡ from + length under
      → return_by (wants_value back) (rcw_in (word_seen_at core i)) (top_size below) ≡ back
  return_read i from back below under fits caller level l e = grind arith

  -- the activation record of a mark
  pub one_read : (k base : ℕ) (h : Head) (cells : List Shape) (below : List Activation) → HeadFits h below → HasCaller h below → stack_level below < 2 ^ 5 → top_size below < 2 ^ 14
      → LieDownward (Fits held) core (suc base) (cells ++ headed k h below (words k below))
      → (f s : ℕ) → f ≡ base + (stack_words below + 1) → s ≡ base + (stack_words below + (head_size h + length cells))
      → (mscw_in (word_seen_at core f) ≡ mark_of k h below) × (activation_by core f s (mark_of k h below) (mark_of k h below).entered ≡ record { head = h; cells = cells })
  one_read k base Marked cells below fits caller level back l f s ef es =
      let under = words k below in
      let long = words-length k below in
      let tail = Lie-under (Fits held) core (suc base) cells (headed k Marked below under) l in
      let place : f ≡ suc base + length under = omega (arith, ef, long) in
      let many : s - f ≡ length cells = omega (arith, ef, es) in
      let low : f + 1 ≡ suc base + length (headed k Marked below under) = omega (arith, ef, long) in (
        mark_read f (suc base) (mark_of k Marked below) under tail place (omega arith) (omega arith) (omega arith) back,
        ap (λ (n : ℕ). record { head = Marked; cells = cells_in core (f + 1) n }) many ∙ ap (λ (xs : List Shape). record { head = Marked; cells = xs }) (cells_read (suc base) cells (headed k Marked below under) l (f + 1) low),
      )
  one_read k base (Entered level environment back) cells below fits caller lower high l f s ef es =
      let h : Head = Entered level environment back in
      let under = words k below in
      let long = words-length k below in
      let tail = Lie-under (Fits held) core (suc base) cells (headed k (Entered level environment back) below under) l in
      let place : f ≡ suc base + length under = omega (arith, ef, long) in
      let next : f + 1 ≡ suc base + suc (length under) = omega (arith, ef, long) in
      let many : s - (f + 1) ≡ length cells = omega (arith, ef, es) in
      let low : f + 2 ≡ suc base + length (headed k (Entered level environment back) below under) = omega (arith, ef, long) in (
        mark_read f (suc base) (mark_of k (Entered level environment back) below) under tail.1 place fits.1 fits.2 fits.0 high,
        ap (λ (n : ℕ). record { head = Entered level environment (return_by (wants_value back) (rcw_in (word_seen_at core (f + 1))) (top_size below)); cells = cells_in core (f + 2) n }) many
            ∙ ap (λ (xs : List Shape). record { head = Entered level environment (return_by (wants_value back) (rcw_in (word_seen_at core (f + 1))) (top_size below)); cells = xs }) (cells_read (suc base) cells (headed k (Entered level environment back) below under) l (f + 2) low)
            ∙ ap (λ (r : Option Return). record { head = Entered level environment r; cells = cells }) (return_read (f + 1) (suc base) back below (Is (mscw_word (mark_of k (Entered level environment back) below)) ∷ under) fits.3 (caller_any back caller) lower tail next),
      ) where
        caller_any : (b : Option Return) → HasCaller (Entered level environment b) below → HasCaller (Entered 0 (record { stack = 0; disp = 0 }) b) below
        caller_any None c = c
        caller_any (Some r) c = c

  -- ---- stacks

  pub level_small : (stack : List Activation) → HeadsFit stack → stack_level stack < 2 ^ 5
  level_small [] fits = omega arith
  level_small (a ∷ below) fits = grind (arith, level_small below fits.1)

  below_some : (n : ℕ) (g : ℕ → List Activation) → 0 < n → below_by n g ≡ g n
  below_some n g h = grind arith

  pub top_within : (below : List Activation) → top_size below ≤ stack_words below
  top_within below = grind arith

  pub place_below : (base f : ℕ) (below : List Activation) → below ≢ [] → f ≡ base + (stack_words below + 1) → f - top_size below ≡ base + mark_place below
  place_below base f below some e = grind arith

  pub stack_read : (k base : ℕ) (stack : List Activation) → HeadsFit stack → HaveCallers stack → stack_words stack < 2 ^ 14 → LieDownward (Fits held) core (suc base) (words k stack) → stack ≢ []
      → (n : ℕ) → length stack ≤ n → (f s : ℕ) → f ≡ base + mark_place stack → s ≡ base + stack_words stack → stack_seen core n f s ≡ stack
  unfolding stack_seen
  stack_read k base [] fits callers small l some n many f s ef es = absurd (some refl)
  stack_read k base (a ∷ below) fits callers small l some zero many f s ef es = absurd (omega (arith, many))
  stack_read k base (a ∷ below) fits callers small l some (suc n) many f s ef es =
      let near = top_within below in
      let short : top_size below < 2 ^ 14 = omega (arith, near, small) in
      let one = one_read k base a.head a.cells below fits.0 callers.0 (level_small below fits.1) short l f s ef es in
      ap (λ (m : Mscw). activation_by core f s m m.entered ∷ below_by m.back (λ (d : ℕ). stack_seen core n (f - d) (f - 1))) one.0
      ∙ ap (λ (b : Activation). b ∷ below_by (mark_of k a.head below).back (λ (d : ℕ). stack_seen core n (f - d) (f - 1))) one.1
      ∙ ap (λ (bs : List Activation). a ∷ bs) (back_is a.head ∙ rest below (λ more. stack_read k base below fits.1 callers.1 (omega (arith, small)) under more n (omega (arith, many)) (f - top_size below) (f - 1) (place_below base f below more ef) (omega (arith, ef)))) where
        back_is : (h : Head) → below_by (mark_of k h below).back (λ (d : ℕ). stack_seen core n (f - d) (f - 1)) ≡ below_by (top_size below) (λ (d : ℕ). stack_seen core n (f - d) (f - 1))
        back_is Marked = refl
        back_is (Entered level environment back) = refl

        under_by : (h : Head) → LieDownward (Fits held) core (suc base) (headed k h below (words k below)) → LieDownward (Fits held) core (suc base) (words k below)
        under_by Marked x = x.1
        under_by (Entered level environment back) x = x.1.1

        under : LieDownward (Fits held) core (suc base) (words k below)
        under = under_by a.head (Lie-under (Fits held) core (suc base) a.cells (headed k a.head below (words k below)) l)

        rest : (more : List Activation) → (more ≢ [] → stack_seen core n (f - top_size more) (f - 1) ≡ more) → below_by (top_size more) (λ (d : ℕ). stack_seen core n (f - d) (f - 1)) ≡ more
        rest [] ih = refl
        rest (b ∷ more) ih = below_some (top_size (b ∷ more)) (λ (d : ℕ). stack_seen core n (f - d) (f - 1)) (top_some (b ∷ more) (λ z. cc)) ∙ ih (λ z. cc)

-- ---- the machine

head_at : (core : List Tagged) (b h at : ℕ) (ss : List Span) (x : ℕ) (a : Info) → directory.Laid core b h at ss → directory.AreSpans ss → area_at at ss x ≡ Some a
    → (slice_get core (x - 1) ≡ Some (head_word a)) × (a.owner < 2 ^ 20)
head_at core b h at [] x a laid spans e = let z : ⊥ = cc in absurd z
head_at core b h at (Hole n ∷ ss) x a laid spans e = head_at core at (hole_high n) (at + n) ss x a laid.1 spans.2 e
head_at core b h at (Area i ∷ ss) x a laid spans e = grind (arith, eqb_tells, head_at core b h (at + (i.words + 2)) ss x a laid.2 spans.1)

-- each object that is in an area is named by the head of that area
pub finds_homes : (x : Storage) (core : List Tagged) (r : Regs) (p : MachineView) → Represents x core r p → FindsHomes core x.held
finds_homes x core r p stands home at e =
    let o = stands.owned.of_held home at e in
    let h = head_at core 152 0 x.low x.spans at (info_of x o.0) stands.directory.laid stands.directory.spans o.3 in
    ap (λ (w : Tagged). bits_at w 0 20) (word_is core (at - 1) (head_word (info_of x o.0)) h.0)
    ∙ owner_read (kind_number (info_of x o.0).kind) (info_of x o.0).words (info_of x o.0).owner h.1 ∙ o.2

pub is_stack : (p : MachineView) (k : ℕ) (slot : Slot) (stack : List Activation) → SlotFits p k slot → stack_of slot ≡ stack → stack ≢ [] → IsStack p.size stack
is_stack p k slot stack fits e some = grind arith

pub stacks_read : StacksAreRead
stacks_read x core r p stands k small stack e some callers n many =
    let is = is_stack p k (p.slots k) stack (stands.slots.laid.slots k small) e some in
    let room = stands.slots.laid.room in
    let fits = is.fits in
    stack_read core x.held (finds_homes x core r p stands) k (slot_base p k) stack is.heads callers (omega (arith, room, fits))
    (subst (λ (s : List Activation). LieDownward (Fits x.held) core (suc (slot_base p k)) (words k s)) e (stands.stacks k small)) some n many
    (slot_base p k + mark_place stack) (slot_base p k + stack_words stack) refl refl
