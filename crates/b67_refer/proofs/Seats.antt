-- Where the frames of the running task's reach lie, in whichever stack.
use Rattle.std.proofs.Common.{◌≡◌, ℕ, ◌<◌, ◌≤◌, List, [], ◌∷◌, ◌++◌, map, Option, Some, refl, sym, ◌∙◌, ap, arith, true, false, ◌==◌, ⊎_elim, inl, inr, subst}
use Rattle.std.proofs.lemmas.Bool.{cases_Bool, eq-eqb, ne_eqb}
use Rattle.b67_word.specs.Tagged.{Tagged}
use Rattle.b67_ctl.specs.declared.registers.Regs.{Regs}
use Rattle.b67_lemmas.specs.Lists.{Has, Falls}
use Rattle.b67_lemmas.proofs.Members.{all_in, falls_low, has_append_cases, has_append_right, has_map, has_map_back, keyed_has}
use Rattle.b67_model.specs.Keyed.{keyed}
use Rattle.b67_model.specs.Common.{Frame, Standing, Task, height, Known, known_of, known_numbers, from_frame, frames_of_task, critical_of, base as base_known, outer_reach, outer_of, reach_of, FramesInOrder, ParentInOrder, BirthInOrder, TaskInOrder, IsSegment}
use Rattle.b67_stack.specs.Stacks.{StackPlace}
use Rattle.b67_law.proofs.Looks.{IsFrame, from_has}
use Rattle.b67_law.proofs.Replaced.{numbers_append}
use Rattle.b67_layout.specs.Placement.{slot_of, spot_in, outer_spots, spots}
use Rattle.b67_refer.specs.RunningContext.{LiveContext}
use Rattle.b67_refer.specs.LiveCells.{IsTop}
use Rattle.b67_refer.proofs.Slots.{Part, Held, drop, part_from, whole}

-- what other frames' spots look like: frames whose identities are above one don't hide the dictionary and the MCP
pub spot_low : (k : ℕ) (outer : ℕ → StackPlace) (fs : List Frame) (id : ℕ) → id ≤ 1 → ((f : Frame) → Has fs f → 1 < f.identity) → spot_in k outer fs id ≡ outer id
spot_low k outer [] id low high = refl
spot_low k outer (f ∷ fs) id low high =
    let ne : (f.identity == id) ≡ false = ne_eqb f.identity id (λ e. omega (arith, e, low, high f (inl refl))) in
    rw ne (spot_low k outer fs id low (λ g h. high g (inr h)))

module _ (core : List Tagged) (r : Regs) (a : LiveContext core r) where
  -- a frame of a reach, seen from the frame whose spots are view
  pub record Seat (view : ℕ → StackPlace) (reach : List Known) (id : ℕ) (s : Standing) : Type 0 where
    pub frame : Frame
    pub below : List Frame
    pub slot : ℕ
    pub outer : ℕ → StackPlace
    pub known : List Known
    pub top : ℕ
    pub named : frame.identity ≡ id
    pub stands : frame.standing ≡ s
    pub spot : view id ≡ record { stack = slot; disp = height below }
    pub part : Part core r a slot outer top (frame ∷ below)
    pub held : Held core r a slot top
    pub top_is : IsTop a slot top
    pub sees : (g : ℕ) → Has (known_numbers (map known_of (frame ∷ below) ++ known)) g → view g ≡ spot_in slot outer (frame ∷ below) g
    pub among : (k : Known) → Has (map known_of (frame ∷ below) ++ known) k → Has reach k
    pub order : FramesInOrder (IsSegment a.member.constants) a.member.progress.job.arrays known (frame ∷ below)
    pub live : IsFrame a.member.progress.job frame
    pub falls : (g : ℕ) → Has (known_numbers (map known_of below ++ known)) g → g < frame.identity

  -- seen from further up
  lift : (view up : ℕ → StackPlace) (reach more : List Known) (id : ℕ) (s : Standing) → ((g : ℕ) → Has (known_numbers reach) g → up g ≡ view g) → ((k : Known) → Has reach k → Has more k)
      → Seat view reach id s → Seat up more id s
  lift view up reach more id s same within q =
      let numbered : (g : ℕ) → Has (known_numbers (map known_of (q.frame ∷ q.below) ++ q.known)) g → Has (known_numbers reach) g = λ g h.
      (let b = has_map_back (λ (k : Known). k.0) (map known_of (q.frame ∷ q.below) ++ q.known) g h in
      subst (λ (n : ℕ). Has (known_numbers reach) n) b.is (has_map (λ (k : Known). k.0) reach b.item (q.among b.item b.among))) in
      let here : Has (known_numbers reach) id = subst (λ (n : ℕ). Has (known_numbers reach) n) q.named (numbered q.frame.identity (inl refl)) in
      record {
        frame = q.frame;
        below = q.below;
        slot = q.slot;
        outer = q.outer;
        known = q.known;
        top = q.top;
        named = q.named;
        stands = q.stands;
        spot = same id here ∙ q.spot;
        part = q.part;
        held = q.held;
        top_is = q.top_is;
        sees = λ g h. same g (numbered g h) ∙ q.sees g h;
        among = λ k h. within k (q.among k h);
        order = q.order;
        live = q.live;
        falls = q.falls;
      }

  -- among frames of one stack
  find_in : (k : ℕ) (outer : ℕ → StackPlace) (known : List Known) (top bound : ℕ) (fs : List Frame) → Part core r a k outer top fs → Held core r a k top
      → FramesInOrder (IsSegment a.member.constants) a.member.progress.job.arrays known fs → ((f : Frame) → Has fs f → IsFrame a.member.progress.job f) → Falls bound (known_numbers (map known_of fs ++ known))
      → (id : ℕ) (s : Standing) → Has (map known_of fs) (id, s) → Seat (spot_in k outer fs) (map known_of fs ++ known) id s
  find_in k outer known top bound [] p t o live falls id s h = absurd h
  find_in k outer known top bound (f ∷ fs) p t o live falls id s (inl e) =
      let named : f.identity ≡ id = ap (λ (q : Known). q.0) e in
      record {
        frame = f;
        below = fs;
        slot = k;
        outer = outer;
        known = known;
        top = top;
        named = named;
        stands = ap (λ (q : Known). q.1) e;
        spot = rw (eq-eqb f.identity id named) refl;
        part = p;
        held = t;
        top_is = t.top_is;
        sees = λ g h. refl;
        among = λ q h. h;
        order = o;
        live = live f (inl refl);
        falls = λ g h. falls_low f.identity (known_numbers (map known_of fs ++ known)) g falls.1 h;
      }
  find_in k outer known top bound (f ∷ fs) p t o live falls id s (inr m) =
      lift (spot_in k outer fs) (spot_in k outer (f ∷ fs)) (map known_of fs ++ known) (map known_of (f ∷ fs) ++ known) id s
      (λ g h. (let low = falls_low f.identity (known_numbers (map known_of fs ++ known)) g falls.1 h in let ne : (f.identity == g) ≡ false = ne_eqb f.identity g (λ e. omega (arith, e, low)) in rw ne refl))
      (λ q h. inr h)
      (find_in k outer known top f.identity fs (drop core r a k outer top f fs p) t o.2 (λ g h. live g (inr h)) falls.1 id s m)

  pub order_of : (u : Task) → Has a.member.progress.job.tasks u → TaskInOrder (IsSegment a.member.constants) a.member.constants a.member.progress.job u
  order_of u h = all_in (TaskInOrder (IsSegment a.member.constants) a.member.constants a.member.progress.job) a.member.progress.job.tasks u a.ordered.tasks.tasks h

  order_from : (known : List Known) (c : ℕ) (fs : List Frame) → FramesInOrder (IsSegment a.member.constants) a.member.progress.job.arrays known fs → FramesInOrder (IsSegment a.member.constants) a.member.progress.job.arrays known (from_frame c fs)
  order_from known c [] g = tt
  order_from known c (f ∷ fs) g = grind (arith, order_from known c fs g.2)

  falls_from : (bound c : ℕ) (fs : List Frame) (known : List Known) → Falls bound (known_numbers (map known_of fs ++ known)) → (b : ℕ) × Falls b (known_numbers (map known_of (from_frame c fs) ++ known))
  falls_from bound c [] known g = (bound, g)
  falls_from bound c (f ∷ fs) known g = ⊎_elim
      (λ (t : (f.identity == c) ≡ true). (bound, rw t g))
      (λ (t : (f.identity == c) ≡ false). (let q = falls_from f.identity c fs known g.1 in (q.0, rw t q.1)))
      (cases_Bool (f.identity == c))

  -- an append in falling numbers
  apart : (bound : ℕ) (fs : List Frame) (known : List Known) (g : ℕ) → Falls bound (known_numbers (map known_of fs ++ known)) → Has (known_numbers known) g → (k : ℕ) (outer : ℕ → StackPlace) → spot_in k outer fs g ≡ outer g
  apart bound [] known g falls h k outer = refl
  apart bound (f ∷ fs) known g falls h k outer =
      let there : Has (known_numbers (map known_of fs ++ known)) g = rw numbers_append (has_append_right (known_numbers (map known_of fs)) (known_numbers known) g h) in
      let low = falls_low f.identity (known_numbers (map known_of fs ++ known)) g falls.1 there in
      let ne : (f.identity == g) ≡ false = ne_eqb f.identity g (λ e. omega (arith, e, low)) in
      rw ne (apart f.identity fs known g falls.1 h k outer)

  -- frames of one stack over an outer reach
  find_both : (k : ℕ) (outer : ℕ → StackPlace) (known : List Known) (top bound : ℕ) (fs : List Frame) → Part core r a k outer top fs → Held core r a k top
      → FramesInOrder (IsSegment a.member.constants) a.member.progress.job.arrays known fs → ((f : Frame) → Has fs f → IsFrame a.member.progress.job f) → Falls bound (known_numbers (map known_of fs ++ known))
      → (id : ℕ) (s : Standing) → (Has known (id, s) → Seat outer known id s) → Has (map known_of fs ++ known) (id, s) → Seat (spot_in k outer fs) (map known_of fs ++ known) id s
  find_both k outer known top bound fs p t o live falls id s rest h = ⊎_elim
      (λ m. find_in k outer known top bound fs p t o live falls id s m)
      (λ m. lift outer (spot_in k outer fs) known (map known_of fs ++ known) id s (λ g n. apart bound fs known g falls n k outer) (λ q n. has_append_right (map known_of fs) known q n) (rest m))
      (has_append_cases (map known_of fs) known (id, s) h)

  no_base : (id : ℕ) (s : Standing) → Has base_known (id, s) → 1 < id → ⊥
  no_base id s h high = grind arith

  find_outer : (u : Task) → Has a.member.progress.job.tasks u → (parents : List ℕ) → u.parents ≡ parents → (id : ℕ) (s : Standing) → 1 < id
      → Has (outer_reach a.member.progress.job u.critical parents) (id, s) → Seat (outer_spots a.plan a.member.constants.number a.member.progress.job u.critical parents) (outer_reach a.member.progress.job u.critical parents) id s
  find_outer u here [] line id s high h = absurd (no_base id s h high)
  find_outer u here (n ∷ more) line id s high h =
      let job = a.member.progress.job in
      let birth : ParentInOrder job u n more = subst (BirthInOrder job u) line (order_of u here).birth in
      let q = birth.parent in
      let at = keyed_has (λ (v : Task). v.number) n job.tasks q birth.found in
      let found : keyed (λ (v : Task). v.number) q.number job.tasks ≡ Some q = subst (λ (i : ℕ). keyed (λ (v : Task). v.number) i job.tasks ≡ Some q) (sym at.1) birth.found in
      let w = whole core r a q found in
      let k = slot_of a.plan a.member.constants.number q.number in
      let slot_is : slot_of a.plan a.member.constants.number n ≡ k = ap (slot_of a.plan a.member.constants.number) (sym at.1) in
      let known = outer_reach job q.critical more in
      let outer = outer_spots a.plan a.member.constants.number job q.critical more in
      let o = order_of q at.0 in
      let part : Part core r a k outer w.top q.frames = subst (λ (ps : List ℕ). Part core r a k (outer_spots a.plan a.member.constants.number job q.critical ps) w.top q.frames) birth.line w.part in
      let frames : FramesInOrder (IsSegment a.member.constants) job.arrays known q.frames = subst (λ (ps : List ℕ). FramesInOrder (IsSegment a.member.constants) job.arrays (outer_reach job q.critical ps) q.frames) birth.line o.frames in
      let falls : Falls job.next_frame (known_numbers (map known_of q.frames ++ known)) = subst (λ (ps : List ℕ). Falls job.next_frame (known_numbers (map known_of q.frames ++ outer_reach job q.critical ps))) birth.line o.falls in
      let down = falls_from job.next_frame u.critical q.frames known falls in
      let fs = from_frame u.critical q.frames in
      let h' : Has (map known_of fs ++ known) (id, s) = rw birth.found at h in
      let seat : Seat (spot_in k outer fs) (map known_of fs ++ known) id s =
      find_both k outer known w.top down.0 fs (part_from core r a k outer w.top u.critical q.frames part) (record { holder = q; live = found; slot = refl; top_is = w.top_is }) (order_from known u.critical q.frames frames)
      (λ f m. record { task = q; live = at.0; among = from_has u.critical q.frames f m }) down.1 id s (λ m. find_outer q at.0 more birth.line id s high m) h' in
      let F : ℕ → Option Task → Type 0 = λ i v. Seat (spot_in i (outer_spots a.plan a.member.constants.number job (critical_of v) more) (from_frame u.critical (frames_of_task v)))
      (map known_of (from_frame u.critical (frames_of_task v)) ++ outer_reach job (critical_of v) more) id s in
      let G : ℕ → Type 0 = λ i. F i (Some q) in
      let H : Option Task → Type 0 = λ v. F (slot_of a.plan a.member.constants.number n) v in
      subst H (sym birth.found) (subst G (sym slot_is) seat)

  pub has_task : Has a.member.progress.job.tasks a.task
  has_task = (keyed_has (λ (v : Task). v.number) a.task.number a.member.progress.job.tasks a.task a.live).0

  -- what the running task may name
  abbrev pub view : ℕ → StackPlace
  view = spots a.plan a.member.constants.number a.member.progress.job a.task

  abbrev pub reach : List Known
  reach = reach_of a.member.progress.job a.task

  -- a live frame in the running task's reach
  pub seat : (id : ℕ) (s : Standing) → Has (reach_of a.member.progress.job a.task) (id, s) → 1 < id → Seat (spots a.plan a.member.constants.number a.member.progress.job a.task) (reach_of a.member.progress.job a.task) id s
  seat id s h high =
      let job = a.member.progress.job in
      let w = whole core r a a.task a.live in
      let o = order_of a.task has_task in
      find_both (slot_of a.plan a.member.constants.number a.task.number) (outer_spots a.plan a.member.constants.number job a.task.critical a.task.parents) (outer_of job a.task) w.top job.next_frame a.task.frames w.part (record { holder = a.task; live = a.live; slot = refl; top_is = w.top_is }) o.frames
      (λ f m. record { task = a.task; live = has_task; among = m }) o.falls id s (λ m. find_outer a.task has_task a.task.parents refl id s high m) h
