-- After a frame was left its arrays are what is left: their originals lie above the stack's new top, and no others.
use Rattle.std.proofs.Common.{◌≡◌, ◌≢◌, ℕ, suc, ◌+◌, ◌<◌, ◌≤◌, List, [], ◌∷◌, map, Option, length, Some, refl, sym, ◌∙◌, ap, arith, inl, inr, ◌⊎◌, ⊎_elim, Bool, true, false, not, subst}
use Rattle.std.specs.Prelude.{◌==◌}
use Rattle.std.specs.List.{slice_get, list_any}
use Rattle.std.proofs.lemmas.Bool.{cases_eq, eq-eqb, ne_eqb, true≢false}
use Rattle.std.proofs.lemmas.Option.{same_Some}
use Rattle.b67_word.specs.Tagged.{Tagged}
use Rattle.b67_area.specs.declared.Kind.TheVariants.{Code}
use Rattle.b67_lemmas.specs.Lists.{Has, Falls}
use Rattle.b67_lemmas.proofs.Members.{all_in, any_has, any_some, falls_same, has_append_right, has_filter, has_filter_in, has_flat, has_map, has_map_back, keyed_has}
use Rattle.b67_model.specs.Common.{Word, Original, Standing, Entered, Return, Frame, Array, Task, Job, SessionJob, number_of, Session, Starts, IsSegment, Known, WordInOrder, FramesInOrder, outer_of}
use Rattle.b67_layout.specs.Common.{JobInOrderButCounts, IsInOrderButCounts, Placement, spot_in, outer_spots, shape, head, activations, stack_of_task, array_object, code_objects, objects_of, machine_view, gone, objects_gone, with_job, IsRunning, RepresentsSession, RepresentsSessionBut}
use Rattle.b67_stack.specs.declared.Cpu.{Cpu}
use Rattle.b67_stack.specs.Shapes as Shapes
use Rattle.b67_stack.specs.Common.{Locations, Shape, IsOriginal, Fits, LieDownward, StackPlace, Activation, headed, stack_words, words, PagedObject, MachineView, RunsOn, slot_base, Storage}
use Rattle.b67_stack.specs.Stacks as Stacks
use Rattle.b67_stack.proofs.Heights.{words-length}
use Rattle.b67_stack.proofs.Lies.{Lie-under}
use Rattle.b67_stack.proofs.Slots.{running_fits, running_lies, running_slot}
use Rattle.b67_layout.proofs.Common.{runs_on, slot_below, base, all, homes_low, homes_high, others}
use Rattle.b67_layout.proofs.LeftSettles.{under}
use Rattle.b67_task.specs.Released.{HasHome}
use Rattle.b67_task.specs.LeftArrays.{IsLeft}
use Rattle.b67_task.proofs.ReleasedCopies.{words_descriptor, cell_word, frame_words, frames_in_order, array_kind}

-- the word at a place of a stack
pub record HereLies (R : Shape → ℕ → Tagged → Type 0) (core : List Tagged) (xs : List Shape) (i : ℕ) : Type 0 where
  pub shape : Shape
  pub among : Has xs shape
  pub word : Tagged
  pub there : slice_get core i ≡ Some word
  pub fits : R shape i word

pub here_lies : (R : Shape → ℕ → Tagged → Type 0) (core : List Tagged) (from : ℕ) (xs : List Shape) (i : ℕ) → LieDownward R core from xs → from ≤ i → i < from + length xs → HereLies R core xs i
here_lies R core from [] i l low up = absurd (omega arith)
here_lies R core from (a ∷ more) i l low up = ⊎_elim
    (λ (e : from + length more ≡ i).
    let r : HereLies R core (a ∷ more) i = record { shape = a; among = inl refl; word = l.0.0; there = ap (slice_get core) (sym e) ∙ l.0.1; fits = subst (λ (j : ℕ). R a j l.0.0) e l.0.2 } in r)
    (λ (n : from + length more ≡ i → ⊥).
    let q = here_lies R core from more i l.1 low (omega (arith, n)) in
    let r : HereLies R core (a ∷ more) i = record { shape = q.shape; among = inr q.among; word = q.word; there = q.there; fits = q.fits } in r)
    (cases_eq (from + length more) i)

-- the return control word of an entered record is no descriptor
return_plain : (held : Locations) (core : List Tagged) (from k level : ℕ) (environment : StackPlace) (back : Option Return) (below : List Activation) (under : List Shape) (i : ℕ)
    → LieDownward (Fits held) core from (headed k (Stacks.Entered level environment back) below under) → i ≡ from + (1 + length under) → (w : Tagged) × (slice_get core i ≡ Some w) × (w.tag ≢ 5)
return_plain held core from k level environment back below under i l e = grind arith

pub original_shape : (held : Locations) (a : Shape) (i : ℕ) (w : Tagged) → Fits held a i w → IsOriginal w → a ≡ Shapes.Original i
original_shape held a i w f o = grind arith

module _ (plan : Placement) (j : ℕ) (job : Job) (spot : ℕ → StackPlace) (P : Starts) (reach : List Known) (owner : ℕ) where
  pub original_named : (v : Word) (home : ℕ) → shape plan j job spot v ≡ Shapes.Original home → WordInOrder P job.arrays reach owner v → (a : Array) × Has job.arrays a × (plan.home j a.identity ≡ home)
  original_named v home e o = grind arith

abbrev names : ℕ → Array → Bool
names identity b = b.identity == identity

-- the arrays that are gone are those of the owner
gone_owned : (owner : ℕ) (old new : Job) → new.arrays ≡ others owner old.arrays → (a : Array) → Has (gone old new) a → Has old.arrays a × (a.owner ≡ owner)
gone_owned owner old new is a h =
    let r = has_filter (λ (b : Array). not (list_any (names b.identity) new.arrays)) old.arrays a h in
    ⊎_elim
    (λ (e : a.owner ≡ owner). let q : Has old.arrays a × (a.owner ≡ owner) = (r.0, e) in q)
    (λ (n : a.owner ≡ owner → ⊥).
    let there : Has new.arrays a = subst (λ (xs : List Array). Has xs a) (sym is) (has_filter_in (λ (b : Array). not (b.owner == owner)) old.arrays a r.0 (ap not (ne_eqb a.owner owner n))) in
    let z : ⊥ = true≢false (sym r.1 ∙ ap not (any_some (names a.identity) new.arrays a there (eq-eqb a.identity a.identity refl))) in absurd z)
    (cases_eq a.owner owner)

owned_gone : (owner bound : ℕ) (old new : Job) → Falls bound (map (λ (a : Array). a.identity) old.arrays) → new.arrays ≡ others owner old.arrays → (a : Array) → Has old.arrays a → a.owner ≡ owner → Has (gone old new) a
owned_gone owner bound old new falls is a h e = grind (arith, any_has, has_filter, falls_same, has_filter_in)

module _ (x : Storage) (old : Cpu) (plan : Placement) (s : Session) (m : SessionJob) (t : Task) (f : Frame) (below : List Frame) (o : IsInOrderButCounts s) (h : RepresentsSession x old plan s)
    (runs : IsRunning plan s.jobs m t) (frames : t.frames ≡ f ∷ below) (job : Job) (is : job.arrays ≡ others f.identity m.progress.job.arrays) where
  abbrev j : ℕ
  j = m.constants.number

  abbrev p : MachineView
  p = machine_view plan s.jobs

  -- the address of the stack's top without the frame, and with it
  abbrev pub new_top : ℕ
  new_top = base x old.core old.regs old.critical plan s m t f below o h.holds runs frames + stack_words (under x old.core old.regs old.critical plan s m t f below o h.holds runs frames)

  abbrev stack : List Activation
  stack = stack_of_task plan j m.progress.job plan.running t

  in_m : Has s.jobs m
  in_m = (keyed_has number_of j s.jobs m runs.member).0

  in_t : Has m.progress.job.tasks t
  in_t = (keyed_has (λ (u : Task). u.number) t.number m.progress.job.tasks t runs.task).0

  on : RunsOn p plan.running stack
  on = runs_on plan s.jobs m t h.holds.fits.rows in_m in_t runs.slot runs.member runs.task

  old_top : old.regs.s ≡ slot_base p plan.running + stack_words stack
  old_top = (running_slot x old.core old.regs p plan.running stack h.holds.memory on).top

  all_is : all x old.core old.regs old.critical plan s m t f below o h.holds runs frames ≡ stack
  all_is = ap (λ (fs : List Frame). activations plan j m.progress.job plan.running (outer_spots plan j m.progress.job t.critical t.parents) fs) (sym frames)

  item_of : (u : PagedObject) → Has (objects_gone plan m job) u → (a : Array) × Has (gone m.progress.job job) a × (array_object plan j a ≡ u)
  item_of u inu = let r = has_map_back (array_object plan j) (gone m.progress.job job) u inu in (r.item, r.among, r.is)

  gone_kind : (u : PagedObject) → Has (objects_gone plan m job) u → u.kind ≢ Code
  gone_kind u inu = let (a, ina, e) = item_of u inu in subst (λ (v : PagedObject). v.kind ≢ Code) e (array_kind a.writable)

  gone_home : (u : PagedObject) → Has (objects_gone plan m job) u → (new_top + 1 < u.home) × (u.home ≤ old.regs.s)
  gone_home u inu =
      let (a, ina, e) = item_of u inu in
      let r = gone_owned f.identity m.progress.job job is a ina in
      let b = homes_high x old.core old.regs old.critical plan s m t f below o h.holds runs frames a r.0 r.1 in
      grind (arith, old_top)

  gone_each : (i : ℕ) (w : Tagged) → new_top < i → i ≤ old.regs.s → slice_get old.core i ≡ Some w → IsOriginal w → HasHome (objects_gone plan m job) i
  gone_each i w low up get original =
      let l = here_lies (Fits x.held) old.core (suc (slot_base p plan.running)) (words plan.running stack) i (running_lies x old.core old.regs p plan.running stack h.holds.memory on) (omega (arith, low)) (omega (arith, up, old_top, words-length plan.running stack)) in
      let same : l.word ≡ w = same_Some _ _ (sym l.there ∙ get) in
      let a = original_shape x.held l.shape i w (subst (λ (v : Tagged). Fits x.held l.shape i v) same l.fits) original in
      let c = words_descriptor plan.running stack (Shapes.Original i) (λ w z. cc) (subst (λ (b : Shape). Has (words plan.running stack) b) a l.among) in
      let outer = outer_spots plan j m.progress.job t.critical t.parents in
      let v = cell_word plan j m.progress.job plan.running outer t.frames (Shapes.Original i) c.activation c.among c.cell in
      let g = frame_words (IsSegment m.constants) m.progress.job.arrays (outer_of m.progress.job t) t.frames v.frame (frames_in_order s o m t in_m in_t) v.among in
      let n = original_named plan j m.progress.job v.spot (IsSegment m.constants) g.reach v.frame.identity v.word i v.is (all_in (WordInOrder (IsSegment m.constants) m.progress.job.arrays g.reach v.frame.identity) v.frame.cells v.word g.words v.cell) in
      by n.0 n.1 (homes_low x old.core old.regs old.critical plan s m t f below o h.holds runs frames m in_m n.0 n.1) n.2 where
        fits : stack_words stack < plan.size
        fits = (running_fits x old.core old.regs p plan.running stack h.holds.memory on).0.fits

        names_in : Falls m.progress.job.next_array (map (λ (a : Array). a.identity) m.progress.job.arrays)
        names_in = (all_in (λ (y : SessionJob). JobInOrderButCounts (IsSegment y.constants) y.constants y.progress) s.jobs m o.jobs in_m).tasks.names

        by : (a : Array) → Has m.progress.job.arrays a → ((m ≡ m) × (a.owner ≡ f.identity)) ⊎ ((plan.home j a.identity ≤ new_top) ⊎ (slot_base p plan.running + plan.size ≤ plan.home j a.identity)) → plan.home j a.identity ≡ i → HasHome (objects_gone plan m job) i
        by a ina (inl e) home = (array_object plan j a, has_map (array_object plan j) (gone m.progress.job job) a (owned_gone f.identity m.progress.job.next_array m.progress.job job names_in is a ina e.1), home)
        by a ina (inr (inl b)) home = absurd (omega (arith, b, home, low))
        by a ina (inr (inr b)) home = absurd (omega (arith, b, home, up, old_top, fits))

  -- the old view has the objects that are gone
  gone_there : (u : PagedObject) → Has (objects_gone plan m job) u → Has p.objects u
  gone_there u inu =
      let (a, ina, e) = item_of u inu in
      let r = gone_owned f.identity m.progress.job job is a ina in
      has_flat (objects_of plan) s.jobs m u in_m (has_append_right (code_objects plan j 1 m.constants.segments) (map (array_object plan j) m.progress.job.arrays) u
      (subst (Has (map (array_object plan j) m.progress.job.arrays)) e (has_map (array_object plan j) m.progress.job.arrays a r.0)))

  -- the return control word of the frame is no original
  not_return : (level environment : ℕ) (back : Option Return) → f.standing ≡ Entered level environment back → (u : PagedObject) → Has (objects_gone plan m job) u → u.home ≢ new_top + 2
  not_return level environment back e u inu z =
      let outer = outer_spots plan j m.progress.job t.critical t.parents in
      let below_words = activations plan j m.progress.job plan.running outer below in
      let cells = map (shape plan j m.progress.job (spot_in plan.running outer (f ∷ below))) f.cells in
      let from = suc (slot_base p plan.running) in
      let L : List Frame → Type 0 = λ fs. LieDownward (Fits x.held) old.core from (words plan.running (activations plan j m.progress.job plan.running outer fs)) in
      let lies = subst L frames (running_lies x old.core old.regs p plan.running stack h.holds.memory on) in
      let H : Standing → Type 0 = λ st. LieDownward (Fits x.held) old.core from (headed plan.running (head (spot_in plan.running outer below) st) below_words (words plan.running below_words)) in
      let entered = subst H e (Lie-under (Fits x.held) old.core from cells (headed plan.running (head (spot_in plan.running outer below) f.standing) below_words (words plan.running below_words)) lies) in
      let w = return_plain x.held old.core from plan.running level (spot_in plan.running outer below environment) back below_words (words plan.running below_words) u.home entered (omega (arith, z, words-length plan.running below_words)) in
      grind (arith, gone_there)

  -- what is left, for any machine with the old words above the new top. A value may stand where the frame's mark stood, or
  -- another frame's mark and return control word in the place of those
  pub left_after : (level environment : ℕ) (back : Option Return) → f.standing ≡ Entered level environment back → (new : Cpu) → RepresentsSessionBut (objects_gone plan m job) x new plan (with_job s m job)
      → ((y : SessionJob) (u : Task) → Has (with_job s m job).jobs y → Has y.progress.job.tasks u → FramesInOrder (IsSegment y.constants) y.progress.job.arrays (outer_of y.progress.job u) u.frames)
      → (from : ℕ) → new.regs.s < from → new_top < from → from ≤ new_top + 3 → new.regs.losr ≡ old.regs.losr → ((i : ℕ) → from ≤ i → i ≤ old.regs.s → slice_get new.core i ≡ slice_get old.core i)
      → IsLeft (objects_gone plan m job) x new plan (with_job s m job) from (old.regs.s + 1)
  left_after level environment back entered new stands in_order from above low up losr same = record {
    frames = in_order;
    stands = stands;
    runs = λ e. omega (arith, e, runs.slot, slot_below plan s.jobs m t h.holds.fits.rows in_m in_t, h.holds.fits.few);
    low = above;
    high = omega (arith, losr, old_top, (running_slot x old.core old.regs p plan.running stack h.holds.memory on).last, (running_fits x old.core old.regs p plan.running stack h.holds.memory on).0.fits);
    arrays = gone_kind;
    among = λ u inu. let b = gone_home u inu in (omega (arith, b.0, up, not_return level environment back entered u inu), omega (arith, b.1));
    each = λ i w down stack_words get original. gone_each i w (omega (arith, low)) (omega arith) (sym (same i down (omega arith)) ∙ get) original;
  }
