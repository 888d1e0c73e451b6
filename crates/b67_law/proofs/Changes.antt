-- The ways in which a step changes the running task's frames, each of which keeps them in order.
use Rattle.std.proofs.Common.{◌≡◌, ◌≢◌, ℕ, ◌+◌, ◌<◌, ◌≤◌, List, [], ◌∷◌, ◌++◌, map, Some, refl, sym, ap, ◌∙◌, subst, inl, inr, arith, ℤ, nat_abs, ◌^◌}
use Rattle.std.specs.List.{AllByRecursion}
use Rattle.std.proofs.lemmas.Bool.Decides.{eqb_tells}
use Rattle.b67_word.specs.declared.couples.Place.{Place}
use Rattle.b67_model.specs.Keyed.{keyed}
use Rattle.b67_lemmas.specs.Lists.{Has, Falls}
use Rattle.b67_lemmas.proofs.Members.{all_in, falls_low, falls_more, has_append_left, has_map, has_map_back, keyed_has}
use Rattle.b67_model.specs.Common.{Word, Frame, Standing, Marked, Entered, Return, Array, Condition, Task, Job, OperatorContext, top, with_top_cells, height, with_task, level_of_frame, running, Starts, Known, known_of, from_frame, outer_of, reach_of, known_numbers, identities, IsEntered, EnvironmentInOrder, StandsInOrder, CellsInOrder, FramesInOrder, StackInOrder, ReturnsInOrder, BirthInOrder, ConditionInOrder, TaskInOrder, originals_in, originals_of, frames_named, TasksInOrder}
use Rattle.b67_law.proofs.Reaches.{Alike, alike_same, Stays, Wider, words_wider, known_number, frames_alike}
use Rattle.b67_law.proofs.Replaced.{Replaced, replaced, outer_kept}
use Rattle.b67_law.proofs.Looks.{Run, own_order}

pub alike_trans : (ks ls ms : List Known) → Alike ks ls → Alike ls ms → Alike ks ms
alike_trans [] [] ms a b = b
alike_trans [] (l ∷ ls) ms a b = absurd a
alike_trans (k ∷ ks) [] ms a b = absurd a
alike_trans (k ∷ ks) (l ∷ ls) [] a b = absurd b
alike_trans (k ∷ ks) (l ∷ ls) (m ∷ ms) a b = (a.0 ∙ b.0, λ e. let first : k.1 ≡ l.1 = a.1 e in first ∙ b.1 (subst IsEntered first e), alike_trans ks ls ms a.2 b.2)

-- the running task with other frames, in a job that follows it: the job is in order, and what lies outside the task's
-- frames is alike
pub run_replaced : (P : Starts) (h : OperatorContext) (job' : Job) (new : Task) → Run P h → Replaced P h.constants h.job h.task job' new → TasksInOrder P h.constants job' × Alike (outer_of h.job h.task) (outer_of job' new)
run_replaced P h job' new run r =
    let there : Task = record run.found { segment = h.task.segment; place = h.task.place } in
    let s : Replaced P h.constants h.job there job' new = subst (λ (t : Task). Replaced P h.constants h.job t job' new) (sym run.same) r in
    let number : run.found.number ≡ h.task.number = ap (λ (t : Task). t.number) run.same in
    let found : keyed (λ t. t.number) run.found.number h.job.tasks ≡ Some run.found = subst (λ n. keyed (λ t. t.number) n h.job.tasks ≡ Some run.found) (sym number) run.running in
    let old : Replaced P h.constants h.job run.found job' new = record {
      number = s.number;
      line = s.line;
      critical = s.critical;
      tasks = s.tasks;
      next_task = s.next_task;
      next_frame = s.next_frame;
      frames = s.frames;
      returns = s.returns;
      some = s.some;
      falls = s.falls;
      not_higher = s.not_higher;
      place = s.place;
      condition = s.condition;
      alike = s.alike;
      stays = s.stays;
      fewer = s.fewer;
      kept = s.kept;
      arrays = s.arrays;
      once = s.once;
      names = s.names;
      reads = s.reads;
    } in
    let outer : Alike (outer_of h.job there) (outer_of job' new) = outer_kept P h.constants h.job run.found job' new run.order found old in
    (replaced P h.constants h.job run.found job' new run.order found old, subst (λ (t : Task). Alike (outer_of h.job t) (outer_of job' new)) run.same outer)

-- what lies outside the running task's frames
abbrev pub outside : OperatorContext → List Known
outside h = outer_of h.job h.task

-- the running task's frames may become these
pub record Change (P : Starts) (h : OperatorContext) (arrays : List Array) (frames : List Frame) (next : ℕ) : Type 0 where
  pub order : FramesInOrder P arrays (outside h) frames
  pub returns : StackInOrder P frames
  pub some : frames ≢ []
  pub falls : Falls next (known_numbers (map known_of frames ++ outside h))
  pub up : h.job.next_frame ≤ next
  pub alike : (t : Task) → Has h.job.tasks t → Alike (map known_of (from_frame t.critical h.task.frames)) (map known_of (from_frame t.critical frames))
  pub stays : (t : Task) → Has h.job.tasks t → Has (identities h.task.frames) t.critical → Has (identities frames) t.critical
  pub fewer : (n : ℕ) → n < h.job.next_frame → frames_named n frames ≤ frames_named n h.task.frames

pub no_change : (P : Starts) (h : OperatorContext) → Run P h → Change P h h.job.arrays h.task.frames h.job.next_frame
no_change P h run =
    let own = own_order P h run in
    record {
      order = own.frames;
      returns = own.returns;
      some = own.some;
      falls = own.falls;
      up = omega arith;
      alike = λ t k. alike_same (map known_of (from_frame t.critical h.task.frames));
      stays = λ t k c. c;
      fewer = λ n low. omega arith;
    }

itself : (arrays : List Array) (a : Array) → Has arrays a → Stays arrays a
itself arrays a k = record { item = a; live = k; named = refl; owned = refl }

-- the same frames among other arrays
pub change_arrays : (P : Starts) (h : OperatorContext) (arrays arrays' : List Array) (frames : List Frame) (next : ℕ) → Change P h arrays frames next →
    ((a : Array) → Has arrays a → Has (known_numbers (map known_of frames ++ outside h)) a.owner → Stays arrays' a) → Change P h arrays' frames next
change_arrays P h arrays arrays' frames next c stay = record {
  order = frames_alike P arrays arrays' (outside h) (outside h) frames (alike_same (outside h)) stay c.order;
  returns = c.returns;
  some = c.some;
  falls = c.falls;
  up = c.up;
  alike = c.alike;
  stays = c.stays;
  fewer = c.fewer;
}

-- other cells of the top frame
abbrev pub TopWords : Starts → OperatorContext → List Array → List Frame → List Word → Type 0
TopWords P h arrays frames cells = CellsInOrder P arrays (map known_of frames ++ outside h) (top frames).identity cells

pub change_cells : (P : Starts) (h : OperatorContext) (arrays : List Array) (frames : List Frame) (next : ℕ) (cells : List Word) → Change P h arrays frames next → TopWords P h arrays frames cells →
    Change P h arrays (with_top_cells frames cells) next
change_cells P h arrays [] next cells c words = absurd (c.some refl)
change_cells P h arrays (f ∷ below) next cells c words = grind arith

-- a critical frame is an old one
pub critical_low : (P : Starts) (h : OperatorContext) → Run P h → (t : Task) → Has h.job.tasks t → t.critical < h.job.next_frame
critical_low P h run t here = by t.parents (all_in (TaskInOrder P h.constants h.job) h.job.tasks t run.order.tasks here).birth where
  zero_low : (frames : List Frame) → frames ≢ [] → Falls h.job.next_frame (known_numbers (map known_of frames ++ outside h)) → 0 < h.job.next_frame
  zero_low [] some falls = absurd (some refl)
  zero_low (f ∷ below) some falls = omega (arith, falls.0)

  in_parent : (q : Task) → Has h.job.tasks q → Has (identities q.frames) t.critical → t.critical < h.job.next_frame
  in_parent q there k =
      let r = has_map_back (λ (f : Frame). f.identity) q.frames t.critical k in
      let falls = (all_in (TaskInOrder P h.constants h.job) h.job.tasks q run.order.tasks there).falls in
      let low = falls_low h.job.next_frame (known_numbers (reach_of h.job q)) r.item.identity falls (known_number (reach_of h.job q) r.item.identity r.item.standing (has_append_left (map known_of q.frames) (outer_of h.job q) (known_of r.item) (has_map known_of q.frames r.item r.among))) in
      omega (arith, low, r.is)

  by : (parents : List ℕ) → BirthInOrder h.job t parents → t.critical < h.job.next_frame
  by [] b = let own = own_order P h run in let low = zero_low h.task.frames own.some own.falls in omega (arith, low, b.1)
  by (p ∷ more) b = in_parent b.parent (keyed_has (λ t. t.number) p h.job.tasks b.parent b.found).0 b.is_critical

abbrev pub fresh_frame : OperatorContext → Standing → Frame
fresh_frame h standing = record { identity = h.job.next_frame; standing = standing; cells = [] }

-- a fresh frame on top
pub change_push : (P : Starts) (h : OperatorContext) (arrays : List Array) (frames : List Frame) (standing : Standing) → Run P h → Change P h arrays frames h.job.next_frame →
    StandsInOrder (map known_of frames ++ outside h) standing → ReturnsInOrder P standing frames → Change P h arrays (fresh_frame h standing ∷ frames) (h.job.next_frame + 1)
change_push P h arrays frames standing run c stands returns = record {
  order = ((tt, tt), stands, c.order);
  returns = (returns, c.returns);
  some = λ e. cc;
  falls = (omega arith, c.falls);
  up = omega arith;
  alike = λ t k. elim (eqb_tells h.job.next_frame t.critical) [
    | inl e ↦ absurd (omega (arith, e.1, critical_low P h run t k))
    | inr e ↦ rw e.0 (c.alike t k)
  ];
  stays = λ t k i. inr (c.stays t k i);
  fewer = λ n low. elim (eqb_tells h.job.next_frame n) [
    | inl e ↦ absurd (omega (arith, e.1, low))
    | inr e ↦ rw e.0 (omega (arith, c.fewer n low))
  ];
}

-- the top frame goes
pub change_drop : (P : Starts) (h : OperatorContext) (arrays : List Array) (f : Frame) (below : List Frame) (next : ℕ) → Change P h arrays (f ∷ below) next →
    ((t : Task) → Has h.job.tasks t → t.critical ≢ f.identity) → below ≢ [] → Change P h arrays below next
change_drop P h arrays f below next c free some = grind (arith, falls_more)

-- the marked frame on top is entered
pub change_enter : (P : Starts) (h : OperatorContext) (arrays : List Array) (f : Frame) (below : List Frame) (next level environment : ℕ) (back : Return) → Change P h arrays (f ∷ below) next → f.standing ≡ Marked →
    EnvironmentInOrder (map known_of below ++ outside h) level environment → ReturnsInOrder P (Entered level environment (Some back)) below →
    Change P h arrays (record f { standing = Entered level environment (Some back) } ∷ below) next
change_enter P h arrays f below next level environment back c marked stands returns =
    let entered : Frame = record f { standing = Entered level environment (Some back) } in
    let old : List Known = map known_of (f ∷ below) ++ outside h in
    let new : List Known = map known_of (entered ∷ below) ++ outside h in
    let more : (n : ℕ) (s : Standing) → IsEntered s → Has old (n, s) → Has new (n, s) = λ n s e k. elim k [
      | inl is ↦ let no : f.standing ≡ s = ap (λ (x : Known). x.1) is in absurd (subst IsEntered (sym no ∙ marked) e)
      | inr m ↦ inr m
    ] in
    let wide : Wider old new arrays arrays = record { entered = more; kept = λ a k at. itself arrays a k } in
    record {
      order = ((words_wider P old new arrays arrays f.identity wide (inl refl) f.cells c.order.0.0, c.order.0.1), stands, c.order.2);
      returns = (returns, c.returns.1);
      some = λ e. cc;
      falls = c.falls;
      up = c.up;
      alike = λ t k. alike_trans (map known_of (from_frame t.critical h.task.frames)) (map known_of (from_frame t.critical (f ∷ below))) (map known_of (from_frame t.critical (entered ∷ below))) (c.alike t k)
          (elim (eqb_tells f.identity t.critical) [
            | inl e ↦ rw e.0 (refl, λ is. absurd (subst IsEntered marked is), alike_same (map known_of below))
            | inr e ↦ rw e.0 (alike_same (map known_of (from_frame t.critical below)))
          ]);
      stays = c.stays;
      fewer = c.fewer;
    }

-- a change among the same arrays, with the condition and the numbers to read afterwards
pub change_replaces : (P : Starts) (h : OperatorContext) (frames : List Frame) (next segment : ℕ) (place : Place) (condition : Condition) (numbers : List ℤ) → TasksInOrder P h.constants h.job → Change P h h.job.arrays frames next →
    height frames ≤ h.constants.stack_size → P segment (level_of_frame (running frames)) place → ConditionInOrder (map known_of frames ++ outside h) condition →
    ((n : ℕ) → originals_in n frames ≡ originals_in n h.task.frames) → AllByRecursion (λ n. nat_abs n < 2 ^ 39) numbers →
    Replaced P h.constants h.job h.task (with_task (record h.job { next_frame = next; numbers = numbers }) (record h.task { frames = frames; segment = segment; place = place; condition = condition }))
    (record h.task { frames = frames; segment = segment; place = place; condition = condition })
change_replaces P h frames next segment place condition numbers order c low starts waits same reads = grind (arith, all_in)

-- the running task with these frames, among the same arrays
pub changed : (P : Starts) (h : OperatorContext) (frames : List Frame) (next segment : ℕ) (place : Place) → Run P h → Change P h h.job.arrays frames next → height frames ≤ h.constants.stack_size →
    P segment (level_of_frame (running frames)) place → ((n : ℕ) → originals_in n frames ≡ originals_in n h.task.frames) →
    TasksInOrder P h.constants (with_task (record h.job { next_frame = next }) (record h.task { frames = frames; segment = segment; place = place }))
changed P h frames next segment place run c low starts same =
    let new : Task = record h.task { frames = frames; segment = segment; place = place } in
    let waits : ConditionInOrder (map known_of frames ++ outside h) h.task.condition = subst (ConditionInOrder (map known_of frames ++ outside h)) (sym run.ready) tt in
    (run_replaced P h (with_task (record h.job { next_frame = next }) new) new run (change_replaces P h frames next segment place h.task.condition h.job.numbers run.order c low starts waits same run.order.reads)).0
