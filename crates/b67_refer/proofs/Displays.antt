-- Displays that hold an environment, and where they agree with the running one.
use Rattle.std.proofs.Common.{Bool, ◌≡◌, ◌≢◌, ℕ, zero, suc, ◌+◌, ◌-◌, ◌*◌, ◌<◌, ◌≤◌, ◌^◌, List, [], ◌∷◌, Some, refl, sym, ◌∙◌, ap, arith, subst, length, slice_set, ⊎_elim, inl, inr}
use Rattle.std.specs.List.{slice_get}
use Rattle.std.proofs.lemmas.Bool.{cases_eq, cases_lt}
use Rattle.std.proofs.lemmas.Option.{same_Some}
use Rattle.b67_core.proofs.Writes.{slice_get-set_other}
use Rattle.b67_word.specs.Tagged.{Tagged}
use Rattle.b67_ctl.specs.declared.registers.Regs.{Regs}
use Rattle.b67_ctl.specs.declared.marks.Mscw.{Mscw}
use Rattle.b67_ctl.specs.Layout.{mscw_word, IsMscw, flag_bit}
use Rattle.b67_stack.specs.Stacks.{mark_of, mark_place}
use Rattle.b67_stack.proofs.Bases.{base-apart}
use Rattle.b67_layout.specs.Common.{slot_of, spot_in, outer_spots, head, here}
use Rattle.b67_layout.proofs.Frames.{height-is}
use Rattle.b67_lemmas.specs.Lists.{Has}
use Rattle.b67_model.specs.State as State
use Rattle.b67_model.specs.Common.{Frame, Standing, frame_at, height, level_of_frame, level_of_standing, Known, base as base_known}
use Rattle.b67_refer.specs.RunningContext.{RunningContext, LiveContext, IsShown, live_of}
use Rattle.b67_refer.specs.Displays.{HoldsMark, HoldsEnvironment, EntersIn}
use Rattle.b67_refer.proofs.Bases.{viewed, of_slot}
use Rattle.b67_refer.proofs.Slots.{base, acts, Part, mark_in, part_mark, whole, registers}
use Rattle.b67_refer.proofs.Seats.{seat}
use Rattle.b67_refer.proofs.Marks.{low_is}
use Rattle.b67_refer.proofs.Rule.{seat_address}
use Rattle.b67_refer.proofs.Unders.{one_word}
use Rattle.b67_refer.proofs.Turns.{start, mark_ends}
use Rattle.b67_refer.proofs.Chains.{Written, written_start, level, level_low, level_at, mark_of_level, address_at, slot_below, address_one, address_zero, written_more, Reads}

-- other registers of the same stacks and dictionary
pub holds_on : (core : List Tagged) (r v : Regs) (display : List ℕ) (known : ℕ) → v.stacks ≡ r.stacks → v.stack_size ≡ r.stack_size → v.dict ≡ r.dict → HoldsEnvironment core r display known → HoldsEnvironment core v display known
holds_on core r v display known stacks size dict h = record {
  marks = λ n two low.
      (let m = h.marks n two low in
      record {
        at = m.at;
        mark = m.mark;
        shown = m.shown;
        fits = m.fits;
        there = m.there;
        below = m.below ∙ ap (λ (k : ℕ). Some (k + m.mark.env_stack * r.stack_size + m.mark.env_disp)) (sym stacks) ∙ ap (λ (k : ℕ). Some (v.stacks + m.mark.env_stack * k + m.mark.env_disp)) (sym size);
      });
  dictionary = h.dictionary ∙ ap Some (sym dict);
  mcp = h.mcp;
}

-- up to a lower level
pub holds_to : (core : List Tagged) (r : Regs) (display : List ℕ) (known up : ℕ) → up ≤ known → HoldsEnvironment core r display known → HoldsEnvironment core r display up
holds_to core r display known up low h = record { marks = λ n two below. h.marks n two (omega (arith, below, low)); dictionary = h.dictionary; mcp = h.mcp }

-- the fields of one word
fields : (far entered stack disp value level back far' entered' stack' disp' value' level' back' : ℕ)
    → entered < 2 → stack < 2 ^ 10 → disp < 2 ^ 16 → value < 2 → level < 2 ^ 5 → back < 2 ^ 14
    → entered' < 2 → stack' < 2 ^ 10 → disp' < 2 ^ 16 → value' < 2 → level' < 2 ^ 5 → back' < 2 ^ 14
    → far * 2 ^ 47 + entered * 2 ^ 46 + stack * 2 ^ 36 + disp * 2 ^ 20 + value * 2 ^ 19 + level * 2 ^ 14 + back ≡ far' * 2 ^ 47 + entered' * 2 ^ 46 + stack' * 2 ^ 36 + disp' * 2 ^ 20 + value' * 2 ^ 19 + level' * 2 ^ 14 + back'
    → (stack ≡ stack') × (disp ≡ disp') × (level ≡ level') × (entered ≡ entered')
fields far entered stack disp value level back far' entered' stack' disp' value' level' back' a b c d e f a' b' c' d' e' f' z = (omega arith, omega arith, omega arith, omega arith)

flag_small : (b : Bool) → flag_bit b < 2
flag_small b = grind arith

-- the mark of a word is one
pub one_mark : (m n : Mscw) → IsMscw m → IsMscw n → mscw_word m ≡ mscw_word n → (m.env_stack ≡ n.env_stack) × (m.env_disp ≡ n.env_disp) × (m.level ≡ n.level) × (m.entered ≡ n.entered)
one_mark m n fm fn e = grind (arith, flag_small)

module _ (core : List Tagged) (r : Regs) (a : RunningContext core r) where
  -- a level at which both agree, and the next one
  agrees_next : (n : ℕ) (display : List ℕ) → 2 ≤ n → suc n ≤ level core r a → HoldsMark core r display n
      → slice_get display (suc n) ≡ Some (address_at core r a a.task.place (suc n)) → slice_get display n ≡ Some (address_at core r a a.task.place n)
  agrees_next n display two up h e =
      let m = mark_of_level core r a a.task.place n up in
      grind (arith, one_mark, slot_below)

  -- what agrees at a level agrees below it
  pub agrees : (n : ℕ) (display : List ℕ) → 2 ≤ n → n ≤ level core r a → HoldsEnvironment core r display n → slice_get display n ≡ Some (address_at core r a a.task.place n)
      → (k : ℕ) → k ≤ n → slice_get display k ≡ Some (address_at core r a a.task.place k)
  agrees zero display two up h e k low = absurd (omega (arith, two))
  agrees (suc n) display two up h e k low = ⊎_elim
      (λ (z : k ≡ suc n). rw z e)
      (λ (z : k ≡ suc n → ⊥). ⊎_elim
      (λ (more : 1 < n).
      (let below : HoldsEnvironment core r display n = record { marks = λ i t l. h.marks i t (omega (arith, l)); dictionary = h.dictionary; mcp = h.mcp } in
      agrees n display (omega (arith, more)) (omega (arith, up)) below (agrees_next n display (omega (arith, more)) up (h.marks n (omega (arith, more)) (omega arith)) e) k (omega (arith, low, z))))
      (λ (less : n ≤ 1). low_levels (omega (arith, less, low, z)))
      (cases_lt 1 n))
      (cases_eq k (suc n)) where
        low_levels : k ≤ 1 → slice_get display k ≡ Some (address_at core r a a.task.place k)
        low_levels small = ⊎_elim
            (λ (z : k ≡ 0). rw z (h.mcp ∙ ap Some (address_zero core r a)))
            (λ (z : k ≡ 0 → ⊥). (let one : k ≡ 1 = omega (arith, small, z) in rw one (h.dictionary ∙ ap Some (address_one core r a))))
            (cases_eq k 0)

  -- the display is written down to a level at which it agreed
  pub shown_from : (at n : ℕ) (display : List ℕ) → Written core r a at n display → 2 ≤ n → HoldsEnvironment core r display n → slice_get display n ≡ Some at → IsShown a display
  shown_from at n display w two h e k up = ⊎_elim
      (λ (high : n < k). w.done k high up)
      (λ (low : k ≤ n). agrees n display two w.low h (e ∙ ap Some w.address) k low)
      (cases_lt n k)

  -- it is written down to level 2
  pub shown_all : (at n : ℕ) (display : List ℕ) → Written core r a at n display → 2 ≤ n → n ≤ 2 → length display ≡ 32 → HoldsEnvironment core r display 0 → IsShown a (slice_set display 2 at)
  shown_all at n display w low high len h k up = ⊎_elim
      (λ (two : 1 < k). subst (λ (i : ℕ). slice_get (slice_set display i at) k ≡ Some (address_at core r a a.task.place k)) (let e : n ≡ 2 = omega (arith, low, high) in e) (written_more core r a at n display w len k (omega (arith, two, high)) up))
      (λ (small : k ≤ 1). slice_get-set_other display 2 k at (λ e. omega (arith, e, small)) ∙ ⊎_elim
      (λ (z : k ≡ 0). rw z (h.mcp ∙ ap Some (address_zero core r a)))
      (λ (z : k ≡ 0 → ⊥). (let one : k ≡ 1 = omega (arith, small, z) in rw one (h.dictionary ∙ ap Some (address_one core r a))))
      (cases_eq k 0))
      (cases_lt 1 k)

  -- a level is written: what the display holds below it stays
  pub holds_over : (n at known : ℕ) (display : List ℕ) → 2 < n → known < n → HoldsEnvironment core r display known → HoldsEnvironment core r (slice_set display n at) known
  holds_over n at known display two low h = record {
    marks = λ i t l. (let m = h.marks i t l in record {
      at = m.at;
      mark = m.mark;
      shown = slice_get-set_other display n (suc i) at (λ e. omega (arith, e, l, low)) ∙ m.shown;
      fits = m.fits;
      there = m.there;
      below = slice_get-set_other display n i at (λ e. omega (arith, e, l, low)) ∙ m.below;
    });
    dictionary = slice_get-set_other display n 1 at (λ e. omega (arith, e, two)) ∙ h.dictionary;
    mcp = slice_get-set_other display n 0 at (λ e. omega (arith, e, two)) ∙ h.mcp;
  }

  -- the mark of the next turn
  pub turn_slot : (at n : ℕ) (display : List ℕ) (m : Mscw) → Written core r a at n display → 2 < n → Reads core r a at m
      → (m.env_stack < a.plan.peak) × (r.stacks + m.env_stack * r.stack_size + m.env_disp ≡ address_at core r a a.task.place (n - 1))
  turn_slot at n display m w high read =
      let e : n ≡ suc (n - 1) = omega (arith, high) in
      let up : suc (n - 1) ≤ level core r a = omega (arith, e, w.low) in
      let k = mark_of_level core r a a.task.place (n - 1) up in
      let there : slice_get core at ≡ Some (mscw_word k.mark) = ap (slice_get core) (w.address ∙ ap (address_at core r a a.task.place) e) ∙ k.there in
      subst (λ (z : Mscw). (z.env_stack < a.plan.peak) × (r.stacks + z.env_stack * r.stack_size + z.env_disp ≡ address_at core r a a.task.place (n - 1))) (sym (read k.mark k.fits there)) (slot_below core r a (n - 1) up (omega (arith, high)))

  -- the top record is entered: the walk begins there, and goes on in the slot that its mark names
  module _ (slot disp : ℕ) (e : EntersIn core r slot disp) where
    pub from_top : (display : List ℕ) → Written core r a r.f r.level display
    from_top display =
        let k = mark_ends core r a r.f (start core r a) in
        let word : mscw_word k.0 ≡ mscw_word e.mark = same_Some _ _ (sym k.2 ∙ e.there) in
        written_start core r a r.f display (k.3 ((one_mark k.0 e.mark k.1 e.fits word).3 ∙ e.entered))

    pub named_slot : (slot < a.plan.peak) × (r.stacks + slot * r.stack_size + disp ≡ address_at core r a a.task.place (r.level - 1))
    named_slot =
        let w = from_top [] in
        let at : r.level ≡ suc (r.level - 1) = omega (arith, e.high) in
        let up : suc (r.level - 1) ≤ level core r a = omega (arith, at, w.low) in
        let k = mark_of_level core r a a.task.place (r.level - 1) up in
        grind (arith, one_mark, slot_below)

  -- the marks of the running environment, of levels above 2
  module _ (k : ℕ) (two : 2 < k) (up : k ≤ level core r a) where
    high : 1 < (frame_at (here a.member a.task a.task.place) k).identity
    high = ⊎_elim
        (λ (z : 1 < (frame_at (here a.member a.task a.task.place) k).identity). z)
        (λ (z : (frame_at (here a.member a.task a.task.place) k).identity ≤ 1). (let b = level_at core r a a.task.place k up in absurd (by_base (frame_at (here a.member a.task a.task.place) k) b.level (low_is core r (live_of a) (frame_at (here a.member a.task a.task.place) k).identity (frame_at (here a.member a.task a.task.place) k).standing b.among z))))
        (cases_lt 1 (frame_at (here a.member a.task a.task.place) k).identity) where
          by_base : (f : Frame) → level_of_frame f ≡ k → Has base_known (f.identity, f.standing) → ⊥
          by_base f e (inl z) = omega (arith, two, e, ap (λ (k : Known). level_of_standing k.1) z)
          by_base f e (inr (inl z)) = omega (arith, two, e, ap (λ (k : Known). level_of_standing k.1) z)
          by_base f e (inr (inr z)) = absurd z

    -- they don't lie over the last mark in the running stack
    pub low_mark : (i : ℕ) → r.f < i → i ≤ r.losr → address_at core r a a.task.place k ≢ i
    low_mark i above within e =
        let b = level_at core r a a.task.place k up in
        let f = frame_at (here a.member a.task a.task.place) k in
        let s = seat core r (live_of a) f.identity f.standing b.among high in
        let at = seat_address core r (live_of a) a.task.place f.identity f.standing s b.entered high in
        let g = registers core r (live_of a) in
        let h = height-is a.plan a.member.constants.number a.member.progress.job s.slot s.outer s.below in
        let w = one_word (spot_in s.slot s.outer s.below) s.frame.standing in
        let own : ℕ = slot_of a.plan a.member.constants.number a.task.number in
        elim (cases_lt s.slot own) [
          | inl z ↦ (let far = base-apart (viewed core r (live_of a)) s.slot own z in omega (arith, e, at, far, h, w, s.part.low, s.part.room, g.first, g.mark, above))
          | inr z ↦ elim (cases_lt own s.slot) [
            | inl y ↦ (let far = base-apart (viewed core r (live_of a)) own s.slot y in omega (arith, e, at, far, h, g.last, within))
            | inr y ↦ (let same : r.slot ≡ s.slot = omega (arith, g.slot, z, y) in elim (s.part.last same) [
              | inl t ↦ (let mark = t.1 in omega (arith, mark, e, at, h, above))
              | inr t ↦ omega (arith, t, e, at, h, w, above)
            ])
          ]
        ]

    -- nor where a mark of another level lies
    pub other_level : (i : ℕ) (m : Mscw) → IsMscw m → slice_get core i ≡ Some (mscw_word m) → m.level ≢ k → address_at core r a a.task.place k ≢ i
    other_level i m fits there ne e =
        let at : suc (k - 1) ≡ k = omega (arith, two) in
        let up' : suc (k - 1) ≤ level core r a = omega (arith, at, up) in
        let n = mark_of_level core r a a.task.place (k - 1) up' in
        let b = level_at core r a a.task.place (suc (k - 1)) up' in
        grind arith

  -- what is shown is held up to a level, on a core in which the marks of its levels are the same
  pub shown_holds : (core' : List Tagged) (display : List ℕ) (known : ℕ) → IsShown a display → known ≤ level core r a
      → ((k : ℕ) → 2 < k → k ≤ known → slice_get core' (address_at core r a a.task.place k) ≡ slice_get core (address_at core r a a.task.place k)) → HoldsEnvironment core' r display known
  shown_holds core' display known shown low same = record {
    marks = λ n two below.
        (let up : suc n ≤ level core r a = omega (arith, below, low) in
        let m = mark_of_level core r a a.task.place n up in
        record {
          at = address_at core r a a.task.place (suc n);
          mark = m.mark;
          shown = shown (suc n) up;
          fits = m.fits;
          there = same (suc n) (omega (arith, two)) (omega (arith, below)) ∙ m.there;
          below = shown n (omega (arith, up)) ∙ ap Some (sym (slot_below core r a n up two).1);
        });
    dictionary = shown 1 (let l = level_low core r a in omega (arith, l)) ∙ ap Some (sym (address_one core r a));
    mcp = shown 0 (omega arith) ∙ ap Some (sym (address_zero core r a));
  }

  -- the last mark
  pub last_mark : (f : Frame) (below : List Frame) → a.task.frames ≡ f ∷ below → (m : Mscw) × IsMscw m × (slice_get core r.f ≡ Some (mscw_word m)) × (m.level ≡ level_of_frame f)
  last_mark f below e =
      let k = slot_of a.plan a.member.constants.number a.task.number in
      let outer = outer_spots a.plan a.member.constants.number a.member.progress.job a.task.critical a.task.parents in
      let w = whole core r (live_of a) a.task a.running.task in
      let P : List Frame → Type 0 = λ fs. Part core r (live_of a) (slot_of a.plan a.member.constants.number a.task.number) (outer_spots a.plan a.member.constants.number a.member.progress.job a.task.critical a.task.parents) w.top fs in
      let m = part_mark core r (live_of a) k outer w.top f below (subst P e w.part) in
      let h = height-is a.plan a.member.constants.number a.member.progress.job k outer below in
      let at : r.f ≡ base core r (live_of a) k + height below = (registers core r (live_of a)).mark ∙ ap (λ (fs : List Frame). base core r (live_of a) k + mark_place (acts core r (live_of a) k outer fs)) e ∙ (omega (arith, h)) in
      (mark_in core r (live_of a) k outer f below, m.0, ap (slice_get core) at ∙ m.1, leveled f.standing) where
        leveled : (s : Standing) → (mark_of (slot_of a.plan a.member.constants.number a.task.number) (head (spot_in (slot_of a.plan a.member.constants.number a.task.number) (outer_spots a.plan a.member.constants.number a.member.progress.job a.task.critical a.task.parents) below) s) (acts core r (live_of a) (slot_of a.plan a.member.constants.number a.task.number) (outer_spots a.plan a.member.constants.number a.member.progress.job a.task.critical a.task.parents) below)).level ≡ level_of_standing s
        leveled State.Marked = refl
        leveled (State.Entered level environment back) = refl

-- a slot's address by the registers
pub slot_bound : (core : List Tagged) (r : Regs) (a : LiveContext core r) (k : ℕ) → k < a.plan.peak → (slot : ℕ) → slot ≡ k → (size : ℕ) → size ≡ r.stack_size → r.stacks + slot * size < 2 ^ 20
slot_bound core r a k used slot es size ez =
    let few = a.holds.fits.few in
    subst (λ (n : ℕ). r.stacks + slot * n < 2 ^ 20) (sym ez) (subst (λ (n : ℕ). r.stacks + n * r.stack_size < 2 ^ 20) (sym es) (of_slot core r a k (inl used) (omega (arith, used, few))).1)
