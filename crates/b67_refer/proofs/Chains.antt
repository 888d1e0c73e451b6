-- The environment of the running task, level by level.
use Rattle.std.proofs.Common.{◌≡◌, ◌≢◌, ℕ, zero, suc, ◌+◌, ◌-◌, ◌*◌, ◌<◌, ◌≤◌, List, map, Some, refl, sym, ◌∙◌, ap, arith, subst, length, slice_set, ⊎_elim, inl, inr}
use Rattle.std.specs.List.{slice_get}
use Rattle.std.proofs.lemmas.Bool.{cases_lt}
use Rattle.std.proofs.lemmas.List.{length-set}
use Rattle.b67_core.proofs.Writes.{slice_get-set_same, slice_get-set_other}
use Rattle.b67_word.specs.Tagged.{Tagged}
use Rattle.b67_word.specs.declared.couples.Place.{Place}
use Rattle.b67_ctl.specs.declared.registers.Regs.{Regs}
use Rattle.b67_ctl.specs.declared.marks.Mscw.{Mscw}
use Rattle.b67_ctl.specs.Layout.{mscw_word, IsMscw}
use Rattle.b67_lemmas.specs.Lists.{Has}
use Rattle.b67_lemmas.proofs.Members.{has_append_left, has_map}
use Rattle.b67_model.specs.Common.{Frame, OperatorContext, frame, level_of_standing, level_of_frame, environment_of, running, running_level, outward, frame_at, Known, known_of, base as base_known, outer_of, reach_of, IsEntered, IsSegment}
use Rattle.b67_stack.specs.Stacks as Stacks
use Rattle.b67_stack.proofs.Tops.{level-small}
use Rattle.b67_layout.specs.Common.{slot_of, base_spot, outer_spots, address_of, frame_address, here}
use Rattle.b67_layout.proofs.Frames.{level-is}
use Rattle.b67_refer.specs.RunningContext.{RunningContext, IsShown, IsStackOf, live_of}
use Rattle.b67_refer.specs.Displays.{ShowsAbove}
use Rattle.b67_refer.proofs.Slots.{whole, registers}
use Rattle.b67_refer.proofs.Seats.{has_task, order_of}
use Rattle.b67_refer.proofs.Bases.{dictionary_is, of_slot}
use Rattle.b67_refer.proofs.Marks.{MarkOf, mark, frame_known, high_frames, high_level, low_is, view_low, dictionary_address}
use Rattle.b67_law.proofs.Chases.{running_in}

-- the last link of a chain
outward_last : (h : OperatorContext) (links : ℕ) (f : Frame) → outward h (suc links) f ≡ frame h (environment_of (outward h links f).standing)
outward_last h zero f = refl
outward_last h (suc links) f = outward_last h links (frame h (environment_of f.standing))

module _ (core : List Tagged) (r : Regs) (a : RunningContext core r) where
  -- where the task goes on is no part of its environment
  outward_same : (q p : Place) (links : ℕ) (f : Frame) → outward (here a.member a.task q) links f ≡ outward (here a.member a.task p) links f
  outward_same q p zero f = refl
  outward_same q p (suc links) f = outward_same q p links (frame (here a.member a.task q) (environment_of f.standing))

  pub frame_at_same : (q p : Place) (n : ℕ) → frame_at (here a.member a.task q) n ≡ frame_at (here a.member a.task p) n
  frame_at_same q p n = outward_same q p (running_level (here a.member a.task q) - n) (running a.task.frames)

  abbrev pub level : ℕ
  level = level_of_frame (running a.task.frames)

  module _ (q : Place) where
    -- the frame of a level of the environment
    pub record Level (n : ℕ) (f : Frame) : Type 0 where
      pub among : Has (reach_of a.member.progress.job a.task) (known_of f)
      pub entered : IsEntered f.standing
      pub level : level_of_frame f ≡ n

    pub run_level : Level level (running a.task.frames)
    run_level =
        let o = order_of core r (live_of a) a.task (has_task core r (live_of a)) in
        let b = running_in (IsSegment a.member.constants) a.task.frames o.returns o.some in
        record { among = has_append_left (map known_of a.task.frames) (outer_of a.member.progress.job a.task) (known_of (running a.task.frames)) (has_map known_of a.task.frames (running a.task.frames) b.0); entered = b.1; level = refl }

    next_level : (n : ℕ) (f : Frame) → Level (suc n) f → Level n (frame (here a.member a.task q) (environment_of f.standing))
    next_level n f b =
        let m = mark core r (live_of a) f.identity f.standing b.among b.entered (omega (arith, b.level)) in
        let k = frame_known core r (live_of a) q (environment_of f.standing) m.standing m.among in
        record {
          among = subst (Has (reach_of a.member.progress.job a.task)) (sym k) m.among;
          entered = subst (λ (z : Known). IsEntered z.1) (sym k) m.entered;
          level = ap (λ (z : Known). level_of_standing z.1) k ∙ (let e = m.level_below in let d = b.level in omega (arith, e, d));
        }

    level_out : (links n : ℕ) (f : Frame) → Level (n + links) f → Level n (outward (here a.member a.task q) links f)
    level_out zero n f b = subst (λ (i : ℕ). Level i f) (let e : n + 0 ≡ n = omega arith in e) b
    level_out (suc links) n f b = level_out links n (frame (here a.member a.task q) (environment_of f.standing)) (next_level (n + links) f (subst (λ (i : ℕ). Level i f) (let e : n + suc links ≡ suc (n + links) = omega arith in e) b))

    pub level_at : (n : ℕ) → n ≤ level → Level n (frame_at (here a.member a.task q) n)
    level_at n up = level_out (level - n) n (running a.task.frames) (subst (λ (i : ℕ). Level i (running a.task.frames)) (let e : level ≡ n + (level - n) = omega arith in e) run_level)

    frame_at_next : (n : ℕ) → suc n ≤ level → frame_at (here a.member a.task q) n ≡ frame (here a.member a.task q) (environment_of (frame_at (here a.member a.task q) (suc n)).standing)
    frame_at_next n up =
        let e : level - n ≡ suc (level - suc n) = omega arith in
        ap (λ (i : ℕ). outward (here a.member a.task q) i (running a.task.frames)) e ∙ outward_last (here a.member a.task q) (level - suc n) (running a.task.frames)

    -- the address of the frame of a level
    abbrev pub address_at : ℕ → ℕ
    address_at n = frame_address a.plan a.member a.task (frame_at (here a.member a.task q) n).identity

    pub mark_of_level : (n : ℕ) → suc n ≤ level → MarkOf core r (live_of a) (frame_at (here a.member a.task q) (suc n)).identity (frame_at (here a.member a.task q) (suc n)).standing
    mark_of_level n up = grind (arith, level_at, mark)

    -- the mark at a level names the frame of the level below
    pub next_address : (n : ℕ) (up : suc n ≤ level) → address_of a.plan (let s : Stacks.StackPlace = record { stack = (mark_of_level n up).mark.env_stack; disp = (mark_of_level n up).mark.env_disp } in s) ≡ address_at n
    next_address n up =
        let m = mark_of_level n up in
        let k = frame_known core r (live_of a) q (environment_of (frame_at (here a.member a.task q) (suc n)).standing) m.standing m.among in
        m.address ∙ ap (frame_address a.plan a.member a.task) (sym (ap (λ (z : Known). z.0) k) ∙ ap (λ (f : Frame). f.identity) (sym (frame_at_next n up)))

  -- the level in the registers
  pub level_is : r.level ≡ level
  level_is =
      let g = registers core r (live_of a) in
      g.level ∙ level-is a.plan a.member.constants.number a.member.progress.job (slot_of a.plan a.member.constants.number a.task.number) (outer_spots a.plan a.member.constants.number a.member.progress.job a.task.critical a.task.parents) a.task.frames

  pub level_small : level < 32
  level_small =
      let w = whole core r (live_of a) a.task a.running.task in
      let e = level_is in
      let g = registers core r (live_of a) in
      omega (arith, e, g.level, level-small _ w.part.heads)

  -- a task's record is entered at level 2 or above
  pub level_low : 2 ≤ level
  level_low =
      let o = order_of core r (live_of a) a.task (has_task core r (live_of a)) in
      let b = running_in (IsSegment a.member.constants) a.task.frames o.returns o.some in
      let run = run_level a.task.place in
      high_level core r (live_of a) (running a.task.frames).identity (running a.task.frames).standing run.among run.entered
      (high_frames core r (live_of a) a.task (has_task core r (live_of a)) (running a.task.frames) b.0)

  -- from there up there are tasks' frames alone
  pub own_level : (q : Place) (n : ℕ) → 2 ≤ n → n ≤ level → 1 < (frame_at (here a.member a.task q) n).identity
  own_level q n high up = by_level (frame_at (here a.member a.task q) n) (level_at q n up) where
    by_base : (f : Frame) → Level q n f → Has base_known (f.identity, f.standing) → ⊥
    by_base f b (inl e) = let l = ap (λ (k : Known). level_of_standing k.1) e in omega (arith, l, b.level, high)
    by_base f b (inr (inl e)) = let l = ap (λ (k : Known). level_of_standing k.1) e in omega (arith, l, b.level, high)
    by_base f b (inr (inr z)) = z

    by_level : (f : Frame) → Level q n f → 1 < f.identity
    by_level f b = ⊎_elim (λ (own : 1 < f.identity). own) (λ (z : f.identity ≤ 1). absurd (by_base f b (low_is core r (live_of a) f.identity f.standing b.among z))) (cases_lt 1 f.identity)

  -- below it there are the dictionary and the MCP alone
  low_identity : (n : ℕ) (f : Frame) → Level a.task.place n f → n ≤ 1 → f.identity ≡ n
  low_identity n f b low = ⊎_elim
      (λ (high : 1 < f.identity). absurd (omega (arith, high_level core r (live_of a) f.identity f.standing b.among b.entered high, b.level, low)))
      (λ (z : f.identity ≤ 1). by_base (low_is core r (live_of a) f.identity f.standing b.among z))
      (cases_lt 1 f.identity) where
        by_base : Has base_known (f.identity, f.standing) → f.identity ≡ n
        by_base (inl e) = sym (ap (λ (k : Known). k.0) e) ∙ ap (λ (k : Known). level_of_standing k.1) e ∙ b.level
        by_base (inr (inl e)) = sym (ap (λ (k : Known). k.0) e) ∙ ap (λ (k : Known). level_of_standing k.1) e ∙ b.level
        by_base (inr (inr z)) = absurd z

  pub base_level : (q : Place) (n : ℕ) → n ≤ 1 → (frame_at (here a.member a.task q) n).identity ≤ 1
  base_level q n low =
      let e = ap (λ (f : Frame). f.identity) (frame_at_same q a.task.place n) in
      let i = low_identity n (frame_at (here a.member a.task a.task.place) n) (level_at a.task.place n (omega (arith, low, level_low))) low in
      omega (arith, e, i, low)

  address_low : (n : ℕ) → n ≤ 1 → address_at a.task.place n ≡ address_of a.plan (base_spot a.member.constants.number n)
  address_low n low =
      let f = frame_at (here a.member a.task a.task.place) n in
      let i = low_identity n f (level_at a.task.place n (omega (arith, low, level_low))) low in
      ap (frame_address a.plan a.member a.task) i ∙ ap (address_of a.plan) (view_low core r (live_of a) n low)

  pub address_one : r.dict ≡ address_at a.task.place 1
  address_one = dictionary_is core r (live_of a) ∙ sym (dictionary_address core r (live_of a)) ∙ sym (address_low 1 (omega arith))

  pub address_zero : 0 ≡ address_at a.task.place 0
  address_zero = sym (address_low 0 (omega arith))

  -- the display is written down to a level, and at is the address of that level's frame
  abbrev pub Written : (at n : ℕ) (display : List ℕ) → Type 0
  Written at n display = ShowsAbove a at n display

  pub written_start : (at : ℕ) (display : List ℕ) → at ≡ frame_address a.plan a.member a.task (running a.task.frames).identity → Written at r.level display
  written_start at display e = grind (arith, level_is)

  pub written_more : (at n : ℕ) (display : List ℕ) → Written at n display → length display ≡ 32 → (k : ℕ) → n ≤ k → k ≤ level → slice_get (slice_set display n at) k ≡ Some (address_at a.task.place k)
  written_more at n display w len k low up = grind (arith, slice_get-set_same, level_small, slice_get-set_other)

  pub written_end : (at : ℕ) (display : List ℕ) → Written at 0 display → length display ≡ 32 → IsShown a (slice_set display 0 at)
  written_end at display w len k up = written_more at 0 display w len k (omega arith) up

  -- what was read at an address
  abbrev pub Reads : ℕ → Mscw → Type 0
  Reads at m = (k : Mscw) → IsMscw k → slice_get core at ≡ Some (mscw_word k) → m ≡ k

  pub written_mark : (at n : ℕ) (display : List ℕ) → Written at (suc n) display → (m : Mscw) × IsMscw m × (slice_get core at ≡ Some (mscw_word m)) × IsStackOf (live_of a) m.env_stack × (address_of a.plan (let s : Stacks.StackPlace = record { stack = m.env_stack; disp = m.env_disp } in s) ≡ address_at a.task.place n)
  written_mark at n display w =
      let m = mark_of_level a.task.place n w.low in
      (m.mark, m.fits, ap (slice_get core) w.address ∙ m.there, m.stack, next_address a.task.place n w.low)

  pub written_next : (at n down : ℕ) (display : List ℕ) → Written at (suc n) display → length display ≡ 32 → down ≡ address_at a.task.place n → Written down n (slice_set display (suc n) at)
  written_next at n down display w len e = grind (arith, written_more)

  -- the last three levels at once
  pub written_all : (at n : ℕ) (display : List ℕ) → Written at n display → 2 ≤ n → n ≤ 2 → length display ≡ 32 → IsShown a (slice_set (slice_set (slice_set display 2 at) 1 r.dict) 0 0)
  written_all at n display w low high len =
      let two : n ≡ 2 = omega (arith, low, high) in
      let one = written_next at 1 r.dict display (subst (λ (i : ℕ). Written at i display) two w) len address_one in
      let len1 : length (slice_set display 2 at) ≡ 32 = length-set display 2 at ∙ len in
      let none = written_next r.dict 0 0 (slice_set display 2 at) one len1 address_zero in
      written_end 0 (slice_set (slice_set display 2 at) 1 r.dict) none (length-set (slice_set display 2 at) 1 r.dict ∙ len1)

  -- one turn: the mark at the address of a level above 0, and what is written and found next
  pub turn_mark : (at n : ℕ) (display : List ℕ) → Written at n display → n ≢ 0 → (m : Mscw) × IsMscw m × (slice_get core at ≡ Some (mscw_word m)) × IsStackOf (live_of a) m.env_stack × (address_of a.plan (let s : Stacks.StackPlace = record { stack = m.env_stack; disp = m.env_disp } in s) ≡ address_at a.task.place (n - 1))
  turn_mark at n display w some = written_mark at (n - 1) display (subst (λ (i : ℕ). Written at i display) (let e : n ≡ suc (n - 1) = omega (arith, some) in e) w)

  pub turn_down : (at n : ℕ) (display : List ℕ) (m : Mscw) → Written at n display → n ≢ 0 → Reads at m → IsStackOf (live_of a) m.env_stack × (address_of a.plan (let s : Stacks.StackPlace = record { stack = m.env_stack; disp = m.env_disp } in s) ≡ address_at a.task.place (n - 1))
  turn_down at n display m w some read =
      let k = turn_mark at n display w some in
      grind arith

  pub turn_next : (at n down : ℕ) (display : List ℕ) → Written at n display → n ≢ 0 → length display ≡ 32 → down ≡ address_at a.task.place (n - 1) → Written down (n - 1) (slice_set display n at)
  turn_next at n down display w some len d =
      let e : n ≡ suc (n - 1) = omega (arith, some) in
      subst (λ (i : ℕ). Written down (n - 1) (slice_set display i at)) (sym e) (written_next at (n - 1) down display (subst (λ (i : ℕ). Written at i display) e w) len d)

  -- above level 2 the environment of a record lies in a slot
  pub slot_below : (n : ℕ) (up : suc n ≤ level) → 2 ≤ n → ((mark_of_level a.task.place n up).mark.env_stack < a.plan.peak)
      × (r.stacks + (mark_of_level a.task.place n up).mark.env_stack * r.stack_size + (mark_of_level a.task.place n up).mark.env_disp ≡ address_at a.task.place n)
  slot_below n up two =
      let m = mark_of_level a.task.place n up in
      let b = level_at a.task.place (suc n) up in
      let slot = m.slotted (omega (arith, two, m.level_below, b.level)) in
      let few = a.holds.fits.few in
      let base = of_slot core r (live_of a) m.mark.env_stack (inl slot) (omega (arith, slot, few)) in
      (slot, ap (λ (i : ℕ). i + m.mark.env_disp) base.0 ∙ next_address a.task.place n up)
