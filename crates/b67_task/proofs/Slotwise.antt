-- In a session in order no word of a slot is a copy of an array whose original lies in the slot of a task that isn't above.
use Rattle.std.proofs.Common.{◌≡◌, ◌≢◌, ℕ, suc, ◌+◌, ◌<◌, ◌≤◌, List, [], ◌∷◌, length, reverse, Option, Some, None, refl, sym, ◌∙◌, ap, arith, inl, inr, ◌⊎◌, ⊎_elim, Bool, subst}
use Rattle.std.specs.Prelude.{if◌then◌else◌, ◌==◌}
use Rattle.std.specs.List.{slice_get}
use Rattle.std.proofs.lemmas.Bool.{cases_eq, cases_lt}
use Rattle.std.proofs.lemmas.Bool.Decides.{eqb_tells}
use Rattle.std.proofs.lemmas.Option.{same_Some}
use Rattle.std.proofs.lemmas.List.{length-reverse}
use Rattle.b67_word.specs.Tagged.{Tagged}
use Rattle.b67_ctl.specs.declared.registers.Regs.{Regs}
use Rattle.b67_lemmas.specs.Lists.{Has}
use Rattle.b67_model.specs.Common.{Word, Original, Frame, Array, Task, Job, SessionJob, number_of, Session, Starts, IsSegment, Known, identities, frames_named, OwnsArray, EntryInOrder, WordInOrder, FramesInOrder, outer_of}
use Rattle.b67_model.specs.Keyed.{keyed}
use Rattle.b67_law.proofs.Looks.{above_one}
use Rattle.b67_lemmas.proofs.Members.{has_reverse, has_map, has_map_back, keyed_has, keyed_falls, falls_same, all_in}
use Rattle.b67_stack.specs.Shapes as Shapes
use Rattle.b67_stack.specs.Common.{Shape, Copy, Copied, Fits, LieDownward, IsOriginal, StackPlace, Activation, stack_words, words, Running, Waiting, stack_of, MachineView, slot_base, Storage}
use Rattle.b67_stack.proofs.Bases.{base-apart}
use Rattle.b67_stack.proofs.Heights.{words-length}
use Rattle.b67_layout.specs.Common.{Slotted, Placement, slot_of, outer_spots, shape, stack_of_task, slot_with, slot_in, slot_by, slot_at, machine_view, DictionariesFollow, SessionHolds, JobInOrderButCounts, IsInOrderButCounts}
use Rattle.b67_layout.proofs.Common.{task_row, slot_below, lies_at, original_word, InFrame, original_of, entry_number, stack_in_slot}
use Rattle.b67_task.proofs.ReleasedCopies.{words_descriptor, cell_word, frame_words}
use Rattle.b67_task.proofs.Leavings.{here_lies, original_shape, original_named}
use Rattle.b67_task.proofs.Owners.{NamesForeign, words_foreign, total_two, counted}
use Rattle.b67_law.proofs.Numbered.{keyed_member}
use Rattle.b67_task.proofs.Vacates.{slot_room}

follow_up : (plan : Placement) (at : ℕ) (jobs : List SessionJob) → DictionariesFollow plan at jobs → at ≤ plan.stacks
follow_up plan at [] d = omega arith
follow_up plan at (m ∷ more) d = omega (arith, follow_up plan (at + (2 + length m.constants.dictionary.cells)) more d.1)

-- a dictionary lies below slot 0
dictionary_end : (plan : Placement) (at : ℕ) (jobs : List SessionJob) (y : SessionJob) → DictionariesFollow plan at jobs → Has jobs y → plan.dictionary y.constants.number + (2 + length y.constants.dictionary.cells) ≤ plan.stacks
dictionary_end plan at [] y d h = absurd h
dictionary_end plan at (m ∷ more) y d (inl e) = grind (arith, follow_up)
dictionary_end plan at (m ∷ more) y d (inr k) = dictionary_end plan (at + (2 + length m.constants.dictionary.cells)) more y d.1 k

-- each task's frames are in order
pub frames_in_order : (s : Session) → IsInOrderButCounts s → (m : SessionJob) (t : Task) → Has s.jobs m → Has m.progress.job.tasks t → FramesInOrder (IsSegment m.constants) m.progress.job.arrays (outer_of m.progress.job t) t.frames
frames_in_order s o m t inm int = grind (arith, all_in)

-- the array of a copy
module _ (plan : Placement) (j : ℕ) (job : Job) (spot : ℕ → StackPlace) where
  copy_known : (P : Starts) (reach : List Known) (owner : ℕ) (v : Word) (c : Copied) (home : ℕ) → shape plan j job spot v ≡ Copy c home → WordInOrder P job.arrays reach owner v → (a : Array) × Has job.arrays a × (plan.home j a.identity ≡ home)
  copy_known P reach owner v c home e o = grind arith

  copy_foreign : (t : Task) (v : Word) (c : Copied) (home : ℕ) → shape plan j job spot v ≡ Copy c home → NamesForeign job.arrays t v → (a : Array) × Has job.arrays a × (plan.home j a.identity ≡ home) × (Has (identities t.frames) a.owner → ⊥)
  copy_foreign t v c home e o = grind arith

module _ (x : Storage) (core : List Tagged) (r : Regs) (marks : List ℕ) (plan : Placement) (s : Session) (o : IsInOrderButCounts s) (h : SessionHolds x core r marks plan s) where
  abbrev p : MachineView
  p = machine_view plan s.jobs

  abbrev pub In : ℕ → ℕ → Type 0
  In k home = (slot_base p k < home) × (home < slot_base p k + plan.size)

  pub order_of : (y : SessionJob) → Has s.jobs y → JobInOrderButCounts (IsSegment y.constants) y.constants y.progress
  order_of y in_y = all_in (λ (z : SessionJob). JobInOrderButCounts (IsSegment z.constants) z.constants z.progress) s.jobs y o.jobs in_y

  pub found_member : (y : SessionJob) → Has s.jobs y → keyed number_of y.constants.number s.jobs ≡ Some y
  found_member y in_y = keyed_member 1 s.jobs y o.numbered in_y

  pub found_task : (y : SessionJob) → Has s.jobs y → (u : Task) → Has y.progress.job.tasks u → keyed (λ (v : Task). v.number) u.number y.progress.job.tasks ≡ Some u
  found_task y in_y u in_u = keyed_falls (λ (v : Task). v.number) y.progress.job.next_task y.progress.job.tasks u (order_of y in_y).tasks.numbers in_u

  -- no two live tasks have the same slot
  pub one_each : (y z : SessionJob) (u v : Task) → Has s.jobs y → Has s.jobs z → Has y.progress.job.tasks u → Has z.progress.job.tasks v → slot_of plan y.constants.number u.number ≡ slot_of plan z.constants.number v.number → (y ≡ z) × (u ≡ v)
  one_each y z u v in_y in_z in_u in_v e =
      let a = task_row plan s.jobs y u h.fits.rows in_y in_u in
      let b = task_row plan s.jobs z v h.fits.rows in_z in_v in
      let same : a.row ≡ b.row = h.fits.rows.differ a.row b.row a.among b.among (sym a.slot ∙ e ∙ b.slot) in
      let jobs : y.constants.number ≡ z.constants.number = sym a.job ∙ ap (λ (q : Slotted). q.job) same ∙ b.job in
      let numbers : u.number ≡ v.number = sym a.number ∙ ap (λ (q : Slotted). q.task) same ∙ b.number in
      let one : y ≡ z = same_Some y z (sym (found_member y in_y) ∙ ap (λ (n : ℕ). keyed number_of n s.jobs) jobs ∙ found_member z in_z) in
      (one, same_Some u v (sym (found_task y in_y u in_u) ∙ ap (λ (n : ℕ). keyed (λ (q : Task). q.number) n y.progress.job.tasks) numbers ∙ ap (λ (q : SessionJob). keyed (λ (w : Task). w.number) v.number q.progress.job.tasks) one ∙ found_task z in_z v in_v))

  pub lies_of_task : (y : SessionJob) → Has s.jobs y → (u : Task) → Has y.progress.job.tasks u → let k = slot_of plan y.constants.number u.number in LieDownward (Fits x.held) core (suc (slot_base p k)) (words k (stack_of_task plan y.constants.number y.progress.job k u))
  lies_of_task y in_y u in_u =
      let k = slot_of plan y.constants.number u.number in
      subst (λ (st : List Activation). LieDownward (Fits x.held) core (suc (slot_base p k)) (words k st))
      (stack_in_slot plan s.jobs y u h.fits.rows in_y in_u (found_member y in_y) (found_task y in_y u in_u))
      (h.memory.stacks k (slot_below plan s.jobs y u h.fits.rows in_y in_u))

  -- the original of an array lies in a dictionary or in the slot of the task that owns it
  pub record LiesIn (y : SessionJob) (b : Array) : Type 0 where
    pub task : Task
    pub live : Has y.progress.job.tasks task
    pub owned : Has (identities task.frames) b.owner
    pub within : In (slot_of plan y.constants.number task.number) (plan.home y.constants.number b.identity)

  pub in_frame : (y : SessionJob) → Has s.jobs y → (b : Array) → 0 < plan.size → InFrame y.progress.job b → LiesIn y b
  in_frame y in_y b some q =
      let u = q.task in
      let k = slot_of plan y.constants.number u.number in
      let S = stack_of_task plan y.constants.number y.progress.job k u in
      let at = lies_at (Fits x.held) core (suc (slot_base p k)) (words k S) (Shapes.Original (plan.home y.constants.number b.identity)) (lies_of_task y in_y u q.live)
      (original_word plan y.constants.number y.progress.job k (outer_spots plan y.constants.number y.progress.job u.critical u.parents) u.frames q.frame b.identity q.among q.word) in
      let used = slot_below plan s.jobs y u h.fits.rows in_y q.live in
      let room = slot_room p k (slot_at plan s.jobs k) (h.memory.slots.laid.slots k used) some in
      let is = stack_in_slot plan s.jobs y u h.fits.rows in_y q.live (found_member y in_y) (found_task y in_y u q.live) in
      record {
        task = u;
        live = q.live;
        owned = subst (Has (identities u.frames)) (sym q.owned) (has_map (λ (f : Frame). f.identity) u.frames q.frame q.among);
        within = (omega (arith, at.low, at.fits.0), omega (arith, at.up, at.fits.0, words-length k S, room, ap stack_words is));
      }

  pub home_lies : (y : SessionJob) → Has s.jobs y → (b : Array) → Has y.progress.job.arrays b → 0 < plan.size → (plan.home y.constants.number b.identity < plan.stacks) ⊎ LiesIn y b
  home_lies y in_y b in_b some = elim (original_of y.constants y.progress.job (order_of y in_y).tasks b in_b) [
    | inl d ↦
        let e = entry_number 1 y.constants.segments (reverse y.constants.dictionary.cells) b.identity (order_of y in_y).unchanging.dictionary (has_reverse y.constants.dictionary.cells (Original b.identity) d) in
        let n : length (reverse y.constants.dictionary.cells) ≡ length y.constants.dictionary.cells = length-reverse y.constants.dictionary.cells in
        let home = h.fits.row_homes y in_y b.identity e.0 (omega (arith, e.1, n)) in
        let end = dictionary_end plan 160 s.jobs y h.fits.dictionaries in_y in
        inl (omega (arith, home, end, e.1, n))
    | inr q ↦ inr (in_frame y in_y b some q)
  ]

  -- slots lie apart
  pub In_one : (j k home : ℕ) → In j home → In k home → j ≡ k
  In_one j k home a b = elim (cases_eq j k) [
    | inl e ↦ e
    | inr n ↦ absurd (⊎_elim
        (λ (z : j < k). omega (arith, a.1, b.0, base-apart p j k z))
        (λ (z : k ≤ j). omega (arith, b.1, a.0, base-apart p k j (omega (arith, z, n))))
        (cases_lt j k))
  ]

  -- a task that may die before all others
  module _ (m : SessionJob) (in_m : Has s.jobs m) (t : Task) (in_t : Has m.progress.job.tasks t) (some : 0 < plan.size) where
    abbrev k : ℕ
    k = slot_of plan m.constants.number t.number

    -- where an array lies that isn't its own
    pub not_there : (y : SessionJob) → Has s.jobs y → (b : Array) → Has y.progress.job.arrays b → ((y ≡ m) → Has (identities t.frames) b.owner → ⊥) → In k (plan.home y.constants.number b.identity) → ⊥
    not_there y in_y b in_b not i = elim (home_lies y in_y b in_b some) [
      | inl low ↦ let z : ⊥ = omega (arith, low, i.0) in z
      | inr l ↦
          let e = one_each y m l.task t in_y in_m l.live in_t (In_one (slot_of plan y.constants.number l.task.number) k (plan.home y.constants.number b.identity) l.within i) in
          not e.0 (subst (λ (q : Task). Has (identities q.frames) b.owner) e.1 l.owned)
    ]

    -- no word of another task is a copy of an array of its own, unless it is above that
    of_task : (y : SessionJob) → Has s.jobs y → (u : Task) → Has y.progress.job.tasks u → (q : ℕ) → (y ≡ m → (u.number ≢ t.number) × (Has u.parents t.number → ⊥)) → (c : Copied) (home : ℕ)
        → Has (words q (stack_of_task plan y.constants.number y.progress.job q u)) (Copy c home) → In k home → ⊥
    of_task y in_y u in_u q apart c home w i =
        let job = y.progress.job in
        let j = y.constants.number in
        let outer = outer_spots plan j job u.critical u.parents in
        let cell = words_descriptor q (stack_of_task plan j job q u) (Copy c home) (λ w z. cc) w in
        let v = cell_word plan j job q outer u.frames (Copy c home) cell.activation cell.among cell.cell in
        let f = frame_words (IsSegment y.constants) job.arrays (outer_of job u) u.frames v.frame (frames_in_order s o y u in_y in_u) v.among in
        let a = copy_known plan j job v.spot (IsSegment y.constants) f.reach v.frame.identity v.word c home v.is (all_in (WordInOrder (IsSegment y.constants) job.arrays f.reach v.frame.identity) v.frame.cells v.word f.words v.cell) in
        not_there y in_y a.0 a.1 (λ e own.
        (let P : Job → Type 0 = λ b. Has b.tasks t in
        let here : Has job.tasks t = subst P (ap (λ (z : SessionJob). z.progress.job) (sym e)) in_t in
        let n = copy_foreign plan j job v.spot t v.word c home v.is (words_foreign (IsSegment y.constants) y.constants job (order_of y in_y).tasks t u here in_u (λ z. (apart e).0 (sym z)) (apart e).1 v.frame v.among v.word v.cell) in
        not_there y in_y n.0 n.1 (λ z. n.3) (subst (In k) (sym n.2) i))) (subst (In k) (sym a.2) i)

    -- so with the words of another slot
    by_either : (b : Bool) (stack : List Activation) (q : ℕ) (a : Shape) → Has (words q (stack_of (if b then Running stack else Waiting stack))) a → Has (words q stack) a
    by_either b stack q a w = grind arith

    pub of_slot : (q : ℕ) → q ≢ k → ((u : Task) → Has m.progress.job.tasks u → Has u.parents t.number → slot_of plan m.constants.number u.number ≢ q) → (c : Copied) (home : ℕ)
        → Has (words q (stack_of (slot_at plan s.jobs q))) (Copy c home) → In k home → ⊥
    of_slot q ne apart c home = by_row (keyed (λ (r : Slotted). r.slot) q plan.rows) refl where
      by_task : (r : Slotted) → Has plan.rows r → r.slot ≡ q → (y : SessionJob) → Has s.jobs y → y.constants.number ≡ r.job → (z : Option Task) → keyed (λ (v : Task). v.number) r.task y.progress.job.tasks ≡ z
          → Has (words q (stack_of (slot_with plan q r.job y.progress.job z))) (Copy c home) → In k home → ⊥
      by_task r in_r at y in_y e None found w i = absurd w
      by_task r in_r at y in_y e (Some u) found w i =
          let g = keyed_has (λ (v : Task). v.number) r.task y.progress.job.tasks u found in
          let row = task_row plan s.jobs y u h.fits.rows in_y g.0 in
          let same : row.row ≡ r = h.fits.rows.tasks_differ row.row r row.among in_r (row.job ∙ e) (row.number ∙ g.1) in
          let slot : slot_of plan y.constants.number u.number ≡ q = row.slot ∙ ap (λ (v : Slotted). v.slot) same ∙ at in
          let P : ℕ → Type 0 = λ n. Has (words q (stack_of_task plan n y.progress.job q u)) (Copy c home) in
          of_task y in_y u g.0 q (λ (one : y ≡ m). (
            λ z. ne (sym slot ∙ ap (λ (n : ℕ). slot_of plan y.constants.number n) z ∙ ap (λ (v : SessionJob). slot_of plan v.constants.number t.number) one),
            λ above. apart u (subst (λ (v : SessionJob). Has v.progress.job.tasks u) one g.0) above (ap (λ (v : SessionJob). slot_of plan v.constants.number u.number) (sym one) ∙ slot),
          )) c home (subst P (sym e) (by_either (q == plan.running) (stack_of_task plan r.job y.progress.job q u) q (Copy c home) w)) i

      by_member : (r : Slotted) → Has plan.rows r → r.slot ≡ q → (z : Option SessionJob) → keyed number_of r.job s.jobs ≡ z → Has (words q (stack_of (slot_in plan q r.job r.task z))) (Copy c home) → In k home → ⊥
      by_member r in_r at None found w i = absurd w
      by_member r in_r at (Some y) found w i =
          let g = keyed_has number_of r.job s.jobs y found in
          by_task r in_r at y g.0 g.1 (keyed (λ (v : Task). v.number) r.task y.progress.job.tasks) refl w i

      by_row : (z : Option Slotted) → keyed (λ (r : Slotted). r.slot) q plan.rows ≡ z → Has (words q (stack_of (slot_by plan s.jobs q z))) (Copy c home) → In k home → ⊥
      by_row None found w i = absurd w
      by_row (Some r) found w i =
          let g = keyed_has (λ (v : Slotted). v.slot) q plan.rows r found in
          by_member r g.0 g.1 (keyed number_of r.job s.jobs) refl w i

    -- an original there is that of an array of the job
    pub each_original : (i : ℕ) (w : Tagged) → slot_base p k < i → i ≤ slot_base p k + stack_words (stack_of (slot_at plan s.jobs k)) → slice_get core i ≡ Some w → IsOriginal w
        → (a : Array) × Has m.progress.job.arrays a × (plan.home m.constants.number a.identity ≡ i)
    each_original i w low up get original =
        let j = m.constants.number in
        let job = m.progress.job in
        let stack = stack_of_task plan j job k t in
        let is = stack_in_slot plan s.jobs m t h.fits.rows in_m in_t (found_member m in_m) (found_task m in_m t in_t) in
        let l = here_lies (Fits x.held) core (suc (slot_base p k)) (words k stack) i (lies_of_task m in_m t in_t) (omega (arith, low)) (omega (arith, up, words-length k stack, ap stack_words is)) in
        let same : l.word ≡ w = same_Some _ _ (sym l.there ∙ get) in
        let a = original_shape x.held l.shape i w (subst (λ (v : Tagged). Fits x.held l.shape i v) same l.fits) original in
        let c = words_descriptor k stack (Shapes.Original i) (λ w z. cc) (subst (λ (b : Shape). Has (words k stack) b) a l.among) in
        let outer = outer_spots plan j job t.critical t.parents in
        let v = cell_word plan j job k outer t.frames (Shapes.Original i) c.activation c.among c.cell in
        let g = frame_words (IsSegment m.constants) job.arrays (outer_of job t) t.frames v.frame (frames_in_order s o m t in_m in_t) v.among in
        original_named plan j job v.spot (IsSegment m.constants) g.reach v.frame.identity v.word i v.is (all_in (WordInOrder (IsSegment m.constants) job.arrays g.reach v.frame.identity) v.frame.cells v.word g.words v.cell)

  -- the original of a task's own array lies in its slot
  pub owned_lies : (y : SessionJob) → Has s.jobs y → (g : Task) → Has y.progress.job.tasks g → (b : Array) → Has y.progress.job.arrays b → 0 < plan.size → Has (identities g.frames) b.owner → In (slot_of plan y.constants.number g.number) (plan.home y.constants.number b.identity)
  owned_lies y in_y g in_g b in_b some own = elim (original_of y.constants y.progress.job (order_of y in_y).tasks b in_b) [
    | inl d ↦
        let o = (order_of y in_y).tasks in
        let one : OwnsArray y.progress.job.arrays 1 b.identity = all_in (EntryInOrder y.progress.job.arrays) y.constants.dictionary.cells (Original b.identity) o.entries d in
        let same : one.item ≡ b = falls_same (λ (a : Array). a.identity) y.progress.job.next_array y.progress.job.arrays one.item b o.names one.live in_b one.named in
        let f = has_map_back (λ (f : Frame). f.identity) g.frames b.owner own in
        let up = above_one (IsSegment y.constants) y.constants y.progress.job o g in_g f.item f.among in
        absurd (omega (arith, up, f.is, one.owned, ap (λ (a : Array). a.owner) same))
    | inr q ↦
        let l = in_frame y in_y b some q in
        elim (eqb_tells g.number l.task.number) [
          | inl e ↦ subst (λ (n : ℕ). In (slot_of plan y.constants.number n) (plan.home y.constants.number b.identity)) (sym e.1) l.within
          | inr e ↦
              let both = total_two (λ (v : Task). v.number) (λ (v : Task). frames_named b.owner v.frames) y.progress.job.tasks g l.task in_g l.live e.1 in
              absurd (omega (arith, both, (order_of y in_y).tasks.apart b.owner, counted b.owner g.frames own, counted b.owner l.task.frames l.owned))
        ]
  ]
