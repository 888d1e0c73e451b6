-- The walk down the marks of a stack: between two of them lie the words of one activation record.
use Rattle.std.proofs.Common.{◌≡◌, ℕ, suc, ◌+◌, ◌-◌, ◌<◌, ◌≤◌, ◌^◌, List, [], ◌∷◌, ◌++◌, map, length, reverse, Some, Ok, Err, refl, sym, ◌∙◌, ap, arith, ◌⊎◌, ⊎_elim, inl, inr, subst, true, false}
use Rattle.std.specs.List.{slice_get}
use Rattle.std.specs.Prelude.{nat_lt}
use Rattle.std.proofs.lemmas.Bool.{cases_Bool, ltb-true, ltb-false}
use Rattle.std.proofs.lemmas.List.{length-map}
use Rattle.std.proofs.lemmas.Option.{same_Some}
use Rattle.b67_word.specs.Tagged.{Tagged}
use Rattle.b67_word.specs.declared.couples.Place.{Place}
use Rattle.b67_word.specs.declared.faults.Fault.TheVariants.{InvalidAddress}
use Rattle.b67_ctl.specs.declared.registers.Regs.{Regs}
use Rattle.b67_ctl.specs.declared.marks.Mscw.{Mscw}
use Rattle.b67_ctl.specs.Layout.{mscw_word, IsMscw}
use Rattle.b67_lemmas.specs.Lists.{Has}
use Rattle.b67_lemmas.proofs.Members.{all_in, has_get, has_reverse_back, keyed_has}
use Rattle.b67_model.specs.Keyed.{keyed}
use Rattle.b67_model.specs.State as State
use Rattle.b67_model.specs.Common.{Frame, Standing, Task, height, cell, Known, known_of, outer_of, reach_of, IsEntered, IsSegment, NamesEntered, WordInOrder, FramesInOrder, TaskInOrder}
use Rattle.b67_stack.specs.Common.{Fits, StackPlace, Activation, head_size, mark_of, mark_place, stack_words, top_size, headed, words}
use Rattle.b67_stack.proofs.Heights.{headed-length, words-length}
use Rattle.b67_layout.specs.Common.{slot_of, spot_in, outer_spots, shape, head, frame_address, here}
use Rattle.b67_layout.proofs.Frames.{height-is, size-is}
use Rattle.b67_refer.specs.RunningContext.{LiveContext}
use Rattle.b67_refer.specs.LiveCells.{CellMeets, IsMark, IsTop, IsUnder, cell_or_none}
use Rattle.b67_refer.proofs.Slots.{Part, whole, drop, base, acts, mark_in, part_mark, registers}
use Rattle.b67_refer.proofs.Seats.{seat, order_of}
use Rattle.b67_refer.proofs.Bases.{slot_inside, stacks_is}
use Rattle.b67_refer.proofs.Rule.{end_some, end_lies, get_reverse, word_tag, seat_address}
use Rattle.b67_refer.proofs.Turns.{back_of}
use Rattle.b67_refer.proofs.Unders.{same_slot, same_ends}
use Rattle.b67_refer.proofs.Founds.{task_misses, task_marks, task_lands}

two_words : (spot : ℕ → StackPlace) (s : Standing) → head_size (head spot s) ≤ 2
two_words spot s = grind arith

-- a mark's word tells whether it is entered
same_mark : (k i : ℕ) (spot seen : ℕ → StackPlace) (s t : Standing) (below under : List Activation) → IsEntered s → IsMscw (mark_of i (head seen t) under)
    → mscw_word (mark_of k (head spot s) below) ≡ mscw_word (mark_of i (head seen t) under) → IsEntered t
same_mark k i spot seen s t below under e fits same = grind arith

-- one more word without tag 3
pub plain_more : (core : List Tagged) (from k : ℕ) (v : Tagged) → ((j : ℕ) (w : Tagged) → from ≤ j → j < k → slice_get core j ≡ Some w → w.tag ≡ 3 → ⊥)
    → slice_get core k ≡ Some v → (v.tag ≡ 3 → ⊥) → (j : ℕ) (w : Tagged) → from ≤ j → j < k + 1 → slice_get core j ≡ Some w → w.tag ≡ 3 → ⊥
plain_more core from k v plain at other j w low high there tag = grind arith

module _ (core : List Tagged) (r : Regs) (a : LiveContext core r) where
  abbrev pub slot : Task → ℕ
  slot u = slot_of a.plan a.member.constants.number u.number

  abbrev pub outer : Task → ℕ → StackPlace
  outer u = outer_spots a.plan a.member.constants.number a.member.progress.job u.critical u.parents

  abbrev pub known : Task → List Known
  known u = outer_of a.member.progress.job u

  -- a mark of a live task's stack, and the address past the words of its record
  pub record Spans (mark past : ℕ) : Type 0 where
    pub stack : ℕ
    pub outside : ℕ → StackPlace
    pub seen : List Known
    pub top : ℕ
    pub top_is : IsTop a stack top
    pub frame : Frame
    pub below : List Frame
    pub part : Part core r a stack outside top (frame ∷ below)
    pub order : FramesInOrder (IsSegment a.member.constants) a.member.progress.job.arrays seen (frame ∷ below)
    pub mark_is : mark ≡ base core r a stack + height below
    pub past_is : past ≡ base core r a stack + height (frame ∷ below)

  -- the running stack's top word is in core
  pub top_small : r.s < 2 ^ 20
  top_small =
      let g = registers core r a in
      let w = whole core r a a.runner a.running.task in
      let i = slot_inside core r a (slot a.runner) w.top_is.used in
      grind arith

  -- the walk begins at a stack's last mark, whose record ends with the top word
  pub last_spans : (u : Task) (ku : keyed (λ (v : Task). v.number) u.number a.member.progress.job.tasks ≡ Some u) → Spans (whole core r a u ku).top_is.mark ((whole core r a u ku).top + 1)
  last_spans u ku = by_frames u.frames refl where
    o : TaskInOrder (IsSegment a.member.constants) a.member.constants a.member.progress.job u
    o = order_of core r a u (keyed_has (λ (v : Task). v.number) u.number a.member.progress.job.tasks u ku).0

    by_frames : (fs : List Frame) → u.frames ≡ fs → Spans (whole core r a u ku).top_is.mark ((whole core r a u ku).top + 1)
    by_frames [] e = absurd (o.some e)
    by_frames (f ∷ below) e =
        let w = whole core r a u ku in
        let P : List Frame → Type 0 = λ fs. Part core r a (slot u) (outer u) w.top fs in
        let F : List Frame → Type 0 = λ fs. FramesInOrder (IsSegment a.member.constants) a.member.progress.job.arrays (known u) fs in
        let high : height u.frames ≡ height below + State.words_of f = ap height e in
        let all : height u.frames ≡ suc (stack_words (acts core r a (slot u) (outer u) u.frames)) = height-is a.plan a.member.constants.number a.member.progress.job (slot u) (outer u) u.frames in
        let last : mark_place (acts core r a (slot u) (outer u) u.frames) ≡ height below =
        ap (λ (fs : List Frame). mark_place (acts core r a (slot u) (outer u) fs)) e ∙ (let h = height-is a.plan a.member.constants.number a.member.progress.job (slot u) (outer u) below in omega (arith, h)) in
        let s = w.top_words in
        record {
          stack = slot u;
          outside = outer u;
          seen = known u;
          top = w.top;
          top_is = w.top_is;
          frame = f;
          below = below;
          part = subst P e w.part;
          order = subst F e o.frames;
          mark_is = w.mark_is ∙ ap (λ (n : ℕ). base core r a (slot u) + n) last;
          past_is = omega (arith, s, high, all);
        }

  -- the same from an address of the stack
  pub slot_spans : (at top : ℕ) (under : IsUnder a at top) (u : Task) (ku : keyed (λ (v : Task). v.number) u.number a.member.progress.job.tasks ≡ Some u) → under.slot ≡ slot u → Spans under.is.mark (top + 1)
  slot_spans at top under u ku k =
      let w = whole core r a u ku in
      let ends = same_ends core r a under.slot (slot u) top w.top k under.is w.top_is in
      let S : ℕ → Type 0 = λ m. Spans m (w.top + 1) in
      let T : ℕ → Type 0 = λ p. Spans under.is.mark (p + 1) in
      subst T (sym ends.0) (subst S (sym ends.1) (last_spans u ku))

  pub top_spans : Spans r.f (r.s + 1)
  top_spans =
      let w = whole core r a a.runner a.running.task in
      let g = registers core r a in
      let ends : (r.s ≡ w.top) × (r.f ≡ w.top_is.mark) = ⊎_elim (λ z. (z.1, z.2)) (λ z. absurd (z.0 g.slot)) w.top_is.by in
      let S : ℕ → Type 0 = λ m. Spans m (w.top + 1) in
      let T : ℕ → Type 0 = λ p. Spans r.f (p + 1) in
      subst T (sym ends.0) (subst S (sym ends.1) (last_spans a.runner a.running.task))

  -- the record of a frame that the task may name
  frame_spans : (g over : ℕ) (n : NamesEntered (reach_of a.member.progress.job a.task) g) (own : 1 < g) → over ≡ frame_address a.plan a.member a.task g → (past : ℕ) × Spans over past
  frame_spans g over n own e =
      let b = seat core r a g n.standing n.among own in (
        base core r a b.slot + height (b.frame ∷ b.below),
        record {
          stack = b.slot;
          outside = b.outer;
          seen = b.known;
          top = b.top;
          top_is = b.top_is;
          frame = b.frame;
          below = b.below;
          part = b.part;
          order = b.order;
          mark_is = e ∙ seat_address core r a a.task.place g n.standing b n.entered own;
          past_is = refl;
        },
      )

  pub over_spans : (over : ℕ) → IsMark a over → (past : ℕ) × Spans over past
  over_spans over = ⊎_elim
      (λ (z : over ≡ r.f). (let S : ℕ → Type 0 = λ m. Spans m (r.s + 1) in let p : (past : ℕ) × Spans over past = (r.s + 1, subst S (sym z) top_spans) in p))
      (λ z. frame_spans z.0 over z.1 z.2 z.3)

  module _ (mark past : ℕ) (x : Spans mark past) where
    -- the mark in core
    pub has_mark : (m : Mscw) × IsMscw m × (slice_get core mark ≡ Some (mscw_word m))
    has_mark = let g = part_mark core r a x.stack x.outside x.top x.frame x.below x.part in (mark_in core r a x.stack x.outside x.frame x.below, g.0, ap (slice_get core) x.mark_is ∙ g.1)

    all_words : height (x.frame ∷ x.below) ≡ suc (stack_words (acts core r a x.stack x.outside (x.frame ∷ x.below)))
    all_words = height-is a.plan a.member.constants.number a.member.progress.job x.stack x.outside (x.frame ∷ x.below)

    pub ends_inside : past ≤ x.top + 1
    ends_inside = let n = all_words in let e = x.past_is in let low = x.part.low in omega (arith, n, e, low)

    -- it lies in a slot
    pub mark_high : r.stacks ≤ mark
    mark_high = let z = stacks_is core r a in let m = x.mark_is in omega (arith, z, m)

    -- no word behind its head has tag 3
    pub plain : (k : ℕ) (w : Tagged) → mark + 2 ≤ k → k < past → slice_get core k ≡ Some w → w.tag ≡ 3 → ⊥
    plain k w low up there tag =
        let P = IsSegment a.member.constants in
        let job = a.member.progress.job in
        let j = a.member.constants.number in
        let fs = x.frame ∷ x.below in
        let cells = x.frame.cells in
        let within = map known_of fs ++ x.seen in
        let spot = spot_in x.stack x.outside fs in
        let below = acts core r a x.stack x.outside x.below in
        let first = head (spot_in x.stack x.outside x.below) x.frame.standing in
        let under = headed x.stack first below (words x.stack below) in
        let count : length under ≡ head_size first + length (words x.stack below) = headed-length x.stack first below (words x.stack below) in
        let lower : length (words x.stack below) ≡ stack_words below = words-length x.stack below in
        let high : height x.below ≡ suc (stack_words below) = height-is a.plan j job x.stack x.outside x.below in
        let two : head_size first ≤ 2 = two_words (spot_in x.stack x.outside x.below) x.frame.standing in
        let many : length (map (shape a.plan j job spot) cells) ≡ length cells = length-map cells (shape a.plan j job spot) in
        let n : height fs ≡ suc (stack_words below + (head_size first + length (map (shape a.plan j job spot) cells))) = all_words in
        let m = x.mark_is in
        let e = x.past_is in
        let i = k - (suc (base core r a x.stack) + length under) in
        let inside : i < length cells = omega (arith, count, lower, high, two, many, n, m, e, low, up) in
        let at : suc (base core r a x.stack) + length under + i ≡ k = omega (arith, count, lower, high, two, m, low) in
        let c = end_some cells i inside in
        let has : Has cells c.0 = has_reverse_back cells c.0 (has_get (reverse cells) i c.0 (get_reverse cells i ∙ c.1)) in
        let order : WordInOrder P job.arrays within x.frame.identity c.0 = all_in (WordInOrder P job.arrays within x.frame.identity) cells c.0 x.order.0.0 has in
        let l = end_lies (Fits a.storage.held) core (suc (base core r a x.stack)) (shape a.plan j job spot) cells under i c.0 x.part.lies c.1 in
        word_tag P job.arrays within x.frame.identity a.storage.held a.plan j job spot c.0 (suc (base core r a x.stack) + length under + i) l.0 order l.2
        (ap (λ (z : Tagged). z.tag) (same_Some _ _ (sym l.1 ∙ ap (slice_get core) at ∙ there)) ∙ tag)

    -- the record below it, if there is one
    pub down : (m : Mscw) → ((k : Mscw) → IsMscw k → slice_get core mark ≡ Some (mscw_word k) → m ≡ k) → (m.back ≤ mark) × ((mark - m.back ≡ mark) ⊎ Spans (mark - m.back) mark)
    unfolding has_mark
    down m read = by_below x.below refl where
      is : m ≡ mark_in core r a x.stack x.outside x.frame x.below
      is = let k = has_mark in read k.0 k.1 k.2

      back : m.back ≡ top_size (acts core r a x.stack x.outside x.below)
      back = ap (λ (k : Mscw). k.back) is ∙ back_of x.stack (spot_in x.stack x.outside x.below) x.frame.standing (acts core r a x.stack x.outside x.below)

      by_below : (fs : List Frame) → x.below ≡ fs → (m.back ≤ mark) × ((mark - m.back ≡ mark) ⊎ Spans (mark - m.back) mark)
      by_below [] z =
          let none : m.back ≡ 0 = back ∙ ap (λ (gs : List Frame). top_size (acts core r a x.stack x.outside gs)) z in
          (omega (arith, none), inl (omega (arith, none)))
      by_below (g ∷ fs) z =
          let P : List Frame → Type 0 = λ gs. Part core r a x.stack x.outside x.top gs in
          let F : List Frame → Type 0 = λ gs. FramesInOrder (IsSegment a.member.constants) a.member.progress.job.arrays (x.seen) gs in
          let size : m.back ≡ State.words_of g = back ∙ ap (λ (gs : List Frame). top_size (acts core r a x.stack x.outside gs)) z ∙ size-is a.plan a.member.constants.number a.member.progress.job x.stack x.outside g fs in
          let high : height x.below ≡ height fs + State.words_of g = ap height z in
          let e = x.mark_is in (
            omega (arith, size, high, e),
            inr (record {
              stack = x.stack;
              outside = x.outside;
              seen = x.seen;
              top = x.top;
              top_is = x.top_is;
              frame = g;
              below = fs;
              part = subst P z (drop core r a x.stack x.outside x.top x.frame x.below x.part);
              order = subst F z x.order.2;
              mark_is = omega (arith, size, high, e);
              past_is = e ∙ ap (λ (gs : List Frame). base core r a x.stack + height gs) z;
            }),
          )

  -- the record under a mark: one further down, or, at the bottom of a stack, the mark's own again
  module _ (mark past : ℕ) (x : Spans mark past) (m : Mscw) (read : (k : Mscw) → IsMscw k → slice_get core mark ≡ Some (mscw_word k) → m ≡ k) where
    pub next_spans : (m.back ≤ mark) × ((p : ℕ) × Spans (mark - m.back) p)
    next_spans =
        let d = down mark past x m read in (
          d.0,
          ⊎_elim
              (λ (same : mark - m.back ≡ mark). (let S : ℕ → Type 0 = λ n. Spans n past in let y : (p : ℕ) × Spans (mark - m.back) p = (past, subst S (sym same) x) in y))
              (λ z. (let y : (p : ℕ) × Spans (mark - m.back) p = (mark, z) in y))
              d.1,
        )

    -- where the first of a record's cells lies under that mark, the record ends there
    pub under_spans : (from : ℕ) → mark - m.back ≡ from → from < mark → Spans from mark
    under_spans from e low =
        let S : ℕ → Type 0 = λ n. Spans n mark in
        ⊎_elim (λ (same : mark - m.back ≡ mark). absurd (omega (arith, same, e, low))) (λ z. subst S e z) (down mark past x m read).1

  -- the record at a mark of the running stack, which an offset is looked up in
  module _ (q : Place) (f from offset past : ℕ) (n : NamesEntered (reach_of a.member.progress.job a.task) f) (e : from ≡ frame_address a.plan a.member a.task f) (own : 1 < f) (low : 2 ≤ offset) (x : Spans from past) where
    under_top : IsUnder a from x.top
    under_top = grind (arith, height-is)

    same_top : (seat core r a f n.standing n.among own).top ≡ x.top
    unfolding under_top
    same_top =
        let b = seat core r a f n.standing n.among own in
        let k : x.stack ≡ b.slot = same_slot core r a f n own from x.top under_top (sym e) in
        (same_ends core r a b.slot x.stack b.top x.top (sym k) b.top_is x.top_is).0

    entered_there : IsEntered x.frame.standing
    entered_there =
        let b = seat core r a f n.standing n.among own in
        let mine = part_mark core r a b.slot b.outer b.top b.frame b.below b.part in
        let its = part_mark core r a x.stack x.outside x.top x.frame x.below x.part in
        let at : base core r a b.slot + height b.below ≡ base core r a x.stack + height x.below = sym (seat_address core r a q f n.standing b n.entered own) ∙ sym e ∙ x.mark_is in
        same_mark b.slot x.stack (spot_in b.slot b.outer b.below) (spot_in x.stack x.outside x.below) b.frame.standing x.frame.standing (acts core r a b.slot b.outer b.below) (acts core r a x.stack x.outside x.below)
        (subst IsEntered (sym b.stands) n.entered) its.0 (same_Some _ _ (sym mine.1 ∙ ap (slice_get core) at ∙ its.1))

    past_head : from + 2 ≤ past
    past_head = grind (arith, entered_there)

    pub inside_lands : from + offset < past → CellMeets a q f offset (Ok (from + offset)) (cell (here a.member a.task q) f offset)
    inside_lands inside =
        let top = same_top in
        let ends = ends_inside from past x in
        task_lands core r a q f from offset n e own low (omega (arith, inside, top, ends)) (λ k w d u there tag. plain from past x k w d (omega (arith, u, inside)) there tag)

    pub outside_misses : past ≤ from + offset → CellMeets a q f offset (Err InvalidAddress) (cell (here a.member a.task q) f offset)
    outside_misses far = ⊎_elim
        (λ (z : base core r a x.stack + stack_words (acts core r a x.stack x.outside (x.frame ∷ x.below)) ≡ x.top).
        (let all = all_words from past x in let p = x.past_is in let top = same_top in task_misses core r a q f from offset n e own (inr (omega (arith, z, all, p, top, far)))))
        (λ z.
        (let all = all_words from past x in let p = x.past_is in
        let at : past ≡ suc (base core r a x.stack) + stack_words (acts core r a x.stack x.outside (x.frame ∷ x.below)) = omega (arith, all, p) in
        task_marks core r a q f from offset n e own past z.0 past_head far (ap (slice_get core) at ∙ z.1) z.2))
        x.part.above

    pub either_way : CellMeets a q f offset (cell_or_none (nat_lt (from + offset) past) (from + offset)) (cell (here a.member a.task q) f offset)
    either_way = ⊎_elim
        (λ (t : nat_lt (from + offset) past ≡ true). rw t (inside_lands (ltb-true (from + offset) past t)))
        (λ (t : nat_lt (from + offset) past ≡ false). rw t (outside_misses (ltb-false (from + offset) past t)))
        (cases_Bool (nat_lt (from + offset) past))

  -- the walk towards a record, which may not lie on it
  pub record Walk (from mark past : ℕ) : Type 0 where
    pub over : ℕ
    pub spans : Spans mark over
    pub is : (past ≡ over) ⊎ (mark ≡ from → ⊥)

  -- from the last mark of the stack in which a frame lies
  pub walk_under : (f from top : ℕ) (n : NamesEntered (reach_of a.member.progress.job a.task) f) (own : 1 < f) → from ≡ frame_address a.plan a.member a.task f → (under : IsUnder a from top) → Walk from under.is.mark (top + 1)
  walk_under f from top n own e under =
      let h = (seat core r a f n.standing n.among own).held in
      record { over = top + 1; spans = slot_spans from top under h.holder h.live (same_slot core r a f n own from top under (sym e) ∙ h.slot); is = inl refl }

  pub walk_there : (from mark past : ℕ) → Walk from mark past → mark ≡ from → Spans from past
  walk_there from mark past x e = grind arith

  pub walk_down : (from mark past : ℕ) → Walk from mark past → (mark ≡ from → ⊥) → (m : Mscw) → ((k : Mscw) → IsMscw k → slice_get core mark ≡ Some (mscw_word k) → m ≡ k)
      → (m.back ≤ mark) × Walk from (mark - m.back) mark
  walk_down from mark past x other m read =
      let d = down mark x.over x.spans m read in
      let S : ℕ → Type 0 = λ n. Spans n x.over in (
        d.0,
        ⊎_elim
            (λ (z : mark - m.back ≡ mark). (let w : Walk from (mark - m.back) mark = record { over = x.over; spans = subst S (sym z) x.spans; is = inr (λ i. other (sym z ∙ i)) } in w))
            (λ z. (let w : Walk from (mark - m.back) mark = record { over = mark; spans = z; is = inl refl } in w))
            d.1,
      )
