-- The walk from the last mark down to the running activation record's.
use Rattle.std.proofs.Common.{◌≡◌, ℕ, ◌+◌, ◌-◌, ◌≤◌, List, [], ◌∷◌, ◌++◌, map, length, Some, refl, sym, ◌∙◌, ap, arith, true, false, ◌==◌, inr, subst}
use Rattle.std.specs.List.{slice_get}
use Rattle.std.proofs.lemmas.Bool.{eq-eqb, ne_eqb}
use Rattle.b67_word.specs.Tagged.{Tagged}
use Rattle.b67_ctl.specs.declared.registers.Regs.{Regs}
use Rattle.b67_ctl.specs.declared.marks.Mscw.{Mscw}
use Rattle.b67_ctl.specs.Layout.{mscw_word, IsMscw}
use Rattle.b67_lemmas.specs.Lists.{Has, Falls}
use Rattle.b67_lemmas.proofs.Members.{falls_low}
use Rattle.b67_model.specs.State as State
use Rattle.b67_model.specs.Common.{Frame, Standing, height, running, running_from, known_of, known_numbers, outer_of, IsSegment, TaskInOrder, StackInOrder, ReturnsInOrder}
use Rattle.b67_stack.specs.Stacks.{StackPlace, Activation, mark_of, top_size, mark_place}
use Rattle.b67_layout.specs.Common.{slot_of, spot_in, outer_spots, spots, head, frame_address}
use Rattle.b67_layout.proofs.Frames.{height-is, size-is}
use Rattle.b67_refer.specs.RunningContext.{RunningContext, live_of}
use Rattle.b67_refer.specs.Cells.{IsTop}
use Rattle.b67_refer.proofs.Slots.{Part, whole, drop, base, acts, mark_in, part_mark, registers}
use Rattle.b67_refer.proofs.Seats.{has_task, order_of}
use Rattle.b67_refer.proofs.Chains.{Reads}

marked_only : (k : ℕ) (spot : ℕ → StackPlace) (s : Standing) (below : List Activation) → (mark_of k (head spot s) below).entered ≡ false → s ≡ State.Marked
marked_only k spot s below e = grind arith

pub back_of : (k : ℕ) (spot : ℕ → StackPlace) (s : Standing) (below : List Activation) → (mark_of k (head spot s) below).back ≡ top_size below
back_of k spot s below = grind arith

module _ (core : List Tagged) (r : Regs) (a : RunningContext core r) where
  abbrev slot : ℕ
  slot = slot_of a.plan a.member.constants.number a.task.number

  abbrev outer : ℕ → StackPlace
  outer = outer_spots a.plan a.member.constants.number a.member.progress.job a.task.critical a.task.parents

  -- a mark of the running task over which no record is entered
  pub record On (at : ℕ) : Type 0 where
    pub top : ℕ
    pub bound : ℕ
    pub frame : Frame
    pub below : List Frame
    pub part : Part core r (live_of a) (slot_of a.plan a.member.constants.number a.task.number) (outer_spots a.plan a.member.constants.number a.member.progress.job a.task.critical a.task.parents) top (frame ∷ below)
    pub top_is : IsTop a (slot_of a.plan a.member.constants.number a.task.number) top
    pub at_is : at ≡ base core r (live_of a) (slot_of a.plan a.member.constants.number a.task.number) + height below
    pub same : running (frame ∷ below) ≡ running a.task.frames
    pub sees : (g : ℕ) → Has (known_numbers (map known_of (frame ∷ below) ++ outer_of a.member.progress.job a.task)) g
        → spots a.plan a.member.constants.number a.member.progress.job a.task g ≡ spot_in (slot_of a.plan a.member.constants.number a.task.number) (outer_spots a.plan a.member.constants.number a.member.progress.job a.task.critical a.task.parents) (frame ∷ below) g
    pub falls : Falls bound (known_numbers (map known_of (frame ∷ below) ++ outer_of a.member.progress.job a.task))
    pub returns : StackInOrder (IsSegment a.member.constants) (frame ∷ below)

  pub start : On r.f
  start = by_frames a.task.frames refl where
    o : TaskInOrder (IsSegment a.member.constants) a.member.constants a.member.progress.job a.task
    o = order_of core r (live_of a) a.task (has_task core r (live_of a))

    by_frames : (fs : List Frame) → a.task.frames ≡ fs → On r.f
    by_frames [] e = absurd (o.some e)
    by_frames (f ∷ below) e =
        let w = whole core r (live_of a) a.task a.running.task in
        let g = registers core r (live_of a) in
        let P : List Frame → Type 0 = λ fs. Part core r (live_of a) (slot_of a.plan a.member.constants.number a.task.number) (outer_spots a.plan a.member.constants.number a.member.progress.job a.task.critical a.task.parents) w.top fs in
        let m : mark_place (acts core r (live_of a) slot outer a.task.frames) ≡ height below = ap (λ (fs : List Frame). mark_place (acts core r (live_of a) slot outer fs)) e ∙ (let x = height-is a.plan a.member.constants.number a.member.progress.job slot outer below in omega (arith, x)) in
        let F : List Frame → Type 0 = λ fs. Falls a.member.progress.job.next_frame (known_numbers (map known_of fs ++ outer_of a.member.progress.job a.task)) in
        record {
          top = w.top;
          bound = a.member.progress.job.next_frame;
          frame = f;
          below = below;
          part = subst P e w.part;
          top_is = w.top_is;
          at_is = g.mark ∙ ap (λ (n : ℕ). base core r (live_of a) slot + n) m;
          same = ap running (sym e);
          sees = λ i h. ap (λ (fs : List Frame). spot_in slot outer fs i) e;
          falls = subst F e o.falls;
          returns = subst (StackInOrder (IsSegment a.member.constants)) e o.returns;
        }

  read : (at : ℕ) (m : Mscw) (on : On at) → Reads core r a at m → m ≡ mark_in core r (live_of a) slot outer on.frame on.below
  read at m on d = let g = part_mark core r (live_of a) slot outer on.top on.frame on.below on.part in d _ g.0 (ap (slice_get core) on.at_is ∙ g.1)

  pub has_mark : (at : ℕ) → On at → (m : Mscw) × IsMscw m × (slice_get core at ≡ Some (mscw_word m))
  has_mark at on = let g = part_mark core r (live_of a) slot outer on.top on.frame on.below on.part in (mark_in core r (live_of a) slot outer on.frame on.below, g.0, ap (slice_get core) on.at_is ∙ g.1)

  ends_at : (at : ℕ) (on : On at) → (mark_in core r (live_of a) slot outer on.frame on.below).entered ≡ true → at ≡ frame_address a.plan a.member a.task (running a.task.frames).identity
  ends_at at on e = grind (arith, eq-eqb)

  pub ends : (at : ℕ) (m : Mscw) → On at → Reads core r a at m → m.entered ≡ true → at ≡ frame_address a.plan a.member a.task (running a.task.frames).identity
  ends at m on d e = ends_at at on (ap (λ (k : Mscw). k.entered) (sym (read at m on d)) ∙ e)

  pub mark_ends : (at : ℕ) → On at → (m : Mscw) × IsMscw m × (slice_get core at ≡ Some (mscw_word m)) × (m.entered ≡ true → at ≡ frame_address a.plan a.member a.task (running a.task.frames).identity)
  mark_ends at on = let g = part_mark core r (live_of a) slot outer on.top on.frame on.below on.part in (mark_in core r (live_of a) slot outer on.frame on.below, g.0, ap (slice_get core) on.at_is ∙ g.1, ends_at at on)

  pub goes : (at : ℕ) (m : Mscw) → On at → Reads core r a at m → m.entered ≡ false → (1 ≤ m.back) × (m.back ≤ at) × On (at - m.back)
  goes at m on d e = by_below on.below refl where
    is : m ≡ mark_in core r (live_of a) slot outer on.frame on.below
    is = read at m on d

    marked : on.frame.standing ≡ State.Marked
    marked = marked_only slot (spot_in slot outer on.below) on.frame.standing (acts core r (live_of a) slot outer on.below) (ap (λ (k : Mscw). k.entered) (sym is) ∙ e)

    back : m.back ≡ top_size (acts core r (live_of a) slot outer on.below)
    back = ap (λ (k : Mscw). k.back) is ∙ back_of slot (spot_in slot outer on.below) on.frame.standing (acts core r (live_of a) slot outer on.below)

    by_below : (fs : List Frame) → on.below ≡ fs → (1 ≤ m.back) × (m.back ≤ at) × On (at - m.back)
    by_below [] z = absurd (let n : ReturnsInOrder (IsSegment a.member.constants) State.Marked on.below = subst (λ (s : Standing). ReturnsInOrder (IsSegment a.member.constants) s on.below) marked on.returns.0 in n z)
    by_below (g ∷ fs) z =
        let P : List Frame → Type 0 = λ fs. Part core r (live_of a) (slot_of a.plan a.member.constants.number a.task.number) (outer_spots a.plan a.member.constants.number a.member.progress.job a.task.critical a.task.parents) on.top fs in
        let words = size-is a.plan a.member.constants.number a.member.progress.job slot outer g fs in
        let size : m.back ≡ State.words_of g = back ∙ ap (λ (gs : List Frame). top_size (acts core r (live_of a) slot outer gs)) z ∙ words in
        let some : 1 ≤ State.words_of g = one_word g.standing in
        let high : height on.below ≡ height fs + State.words_of g = ap height z in
        let at_is = on.at_is in
        let F : List Frame → Type 0 = λ fs. Falls on.frame.identity (known_numbers (map known_of fs ++ outer_of a.member.progress.job a.task)) in (
          omega (arith, size, some),
          omega (arith, size, high, at_is),
          record {
            top = on.top;
            bound = on.frame.identity;
            frame = g;
            below = fs;
            part = subst P z (drop core r (live_of a) slot outer on.top on.frame on.below on.part);
            top_is = on.top_is;
            at_is = omega (arith, size, high, at_is);
            same = ap running (sym z) ∙ (let x : running_from on.frame.standing on.frame (running on.below) ≡ running on.below = ap (λ (s : Standing). running_from s on.frame (running on.below)) marked in sym x) ∙ on.same;
            sees = λ i h.
                (let there : Has (known_numbers (map known_of on.below ++ outer_of a.member.progress.job a.task)) i = subst (λ (gs : List Frame). Has (known_numbers (map known_of gs ++ outer_of a.member.progress.job a.task)) i) (sym z) h in
                let low = falls_low on.frame.identity (known_numbers (map known_of on.below ++ outer_of a.member.progress.job a.task)) i on.falls.1 there in
                let ne : (on.frame.identity == i) ≡ false = ne_eqb on.frame.identity i (λ x. omega (arith, x, low)) in
                on.sees i (inr there) ∙ (rw ne refl) ∙ ap (λ (gs : List Frame). spot_in slot outer gs i) z);
            falls = subst F z on.falls.1;
            returns = subst (StackInOrder (IsSegment a.member.constants)) z on.returns.1;
          },
        ) where
          one_word : (s : Standing) → 1 ≤ State.head_words s + length g.cells
          one_word State.Marked = omega arith
          one_word (State.Entered level environment return) = omega arith
