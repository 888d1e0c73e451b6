-- Where a frame was left, no original of an array that is still there stands above the new top of the stack.
use Rattle.std.proofs.Common.{◌≡◌, ◌≢◌, ℕ, suc, ◌+◌, ◌<◌, ◌≤◌, List, [], ◌∷◌, map, length, reverse, Some, refl, sym, ◌∙◌, ap, arith, length-append, Bool, true, false, inl, inr, ◌⊎◌, subst}
use Rattle.std.specs.Prelude.{if◌then◌else◌, ◌==◌}
use Rattle.std.proofs.lemmas.Bool.{cases_eq, cases_lt, cases_Bool, true≢false, eq-eqb}
use Rattle.std.proofs.lemmas.Bool.Decides.{eqb_tells}
use Rattle.std.proofs.lemmas.Option.{same_Some}
use Rattle.std.proofs.lemmas.List.{length-reverse}
use Rattle.b67_word.specs.Tagged.{Tagged}
use Rattle.b67_ctl.specs.declared.registers.Regs.{Regs}
use Rattle.b67_lemmas.specs.Lists.{Has}
use Rattle.b67_lemmas.proofs.Members.{all_in, falls_same, has_map, has_reverse, keyed_falls, keyed_has}
use Rattle.b67_model.specs.Common.{Original, Frame, Array, Task, Job, JobProgress, SessionJob, number_of, Session, Known, known_of, OwnsArray, EntryInOrder, frames_named, IsSegment, NumberedFrom}
use Rattle.b67_model.specs.Keyed.{keyed}
use Rattle.b67_layout.specs.Common.{JobInOrderButCounts, IsInOrderButCounts, Slotted, Placement, slot_of, spot_in, outer_spots, shape, head, activations, stack_of_task, slot_with, slot_in, slot_by, slot_at, machine_view, RowsFit, DictionariesFollow, IsRunning, SessionHolds}
use Rattle.b67_law.proofs.Replaced.{has_counts}
use Rattle.b67_law.proofs.Numbered.{keyed_member}
use Rattle.b67_stack.specs.Shapes as Shapes
use Rattle.b67_stack.specs.Common.{Fits, LieDownward, StackPlace, Head, Activation, stack_words, headed, words, Slot, Running, Waiting, stack_of, slot_base, RunsOn, Storage}
use Rattle.b67_stack.specs.Stacks as Stacks
use Rattle.b67_stack.proofs.Bases.{base-apart}
use Rattle.b67_stack.proofs.Heights.{words-length}
use Rattle.b67_stack.proofs.Lies.{Lie-under}
use Rattle.b67_stack.proofs.Slots.{running_fits, running_lies, slot_room}
use Rattle.b67_layout.proofs.MachineViews.{with_course}
use Rattle.b67_layout.proofs.Rows.{task_row, slot_below, finds, runs_on}
use Rattle.b67_layout.proofs.Sessions.{running_only, follow-up}
use Rattle.b67_layout.proofs.NamedFirst.{IsOnTop, high as identity_high, under as once_only, elsewhere}
use Rattle.b67_layout.proofs.Originals.{lies_over, lies_at, original_word, InFrame, original_of, entry_number}

pub numbered_course : (n j : ℕ) (c : JobProgress) (xs : List SessionJob) → NumberedFrom n xs → NumberedFrom n (with_course xs j c)
numbered_course n j c [] o = tt
numbered_course n j c (x ∷ xs) o = elim (cases_Bool (number_of x == j)) [ inl t ↦ rw t o | inr t ↦ rw t (o.0, numbered_course (n + 1) j c xs o.1) ]

-- a live task's slot holds its stack
pub stack_in_slot : (plan : Placement) (jobs : List SessionJob) (y : SessionJob) (u : Task) → RowsFit plan jobs → Has jobs y → Has y.progress.job.tasks u → keyed number_of y.constants.number jobs ≡ Some y
    → keyed (λ (v : Task). v.number) u.number y.progress.job.tasks ≡ Some u → let k = slot_of plan y.constants.number u.number in
    stack_of (slot_at plan jobs k) ≡ stack_of_task plan y.constants.number y.progress.job k u
stack_in_slot plan jobs y u fit in_y in_u ky ku =
    let a = task_row plan jobs y u fit in_y in_u in
    let k = slot_of plan y.constants.number u.number in
    let f = finds (λ (r : Slotted). r.slot == k) plan.rows a.row a.among (eq-eqb a.row.slot k (sym a.slot)) in
    let same : f.item ≡ a.row = fit.differ f.item a.row f.among a.among (elim (eqb_tells f.item.slot k) [ inl e ↦ e.1 ∙ a.slot | inr e ↦ absurd (true≢false (sym f.passes ∙ e.0)) ]) in
    let S : List Activation = stack_of_task plan y.constants.number y.progress.job k u in
    let by_test : (b : Bool) → stack_of (if b then Running S else Waiting S) ≡ S = λ b. either b in
    ap (λ (o : Slot). stack_of o) (ap (slot_by plan jobs k) (f.found ∙ ap Some same)
    ∙ ap (λ (i : ℕ). slot_in plan k i a.row.task (keyed number_of i jobs)) a.job
    ∙ ap (slot_in plan k y.constants.number a.row.task) ky
    ∙ ap (λ (i : ℕ). slot_with plan k y.constants.number y.progress.job (keyed (λ (v : Task). v.number) i y.progress.job.tasks)) a.number
    ∙ ap (slot_with plan k y.constants.number y.progress.job) ku)
    ∙ by_test (k == plan.running) where
      either : {S : List Activation} (b : Bool) → stack_of (if b then Running S else Waiting S) ≡ S
      either true = refl
      either false = refl

-- a dictionary lies below slot 0
dictionary_end : (plan : Placement) (at : ℕ) (jobs : List SessionJob) (y : SessionJob) → DictionariesFollow plan at jobs → Has jobs y → plan.dictionary y.constants.number + (2 + length y.constants.dictionary.cells) ≤ plan.stacks
dictionary_end plan at [] y d h = absurd h
dictionary_end plan at (m ∷ more) y d (inl e) = grind (arith, follow-up)
dictionary_end plan at (m ∷ more) y d (inr k) = dictionary_end plan (at + (2 + length m.constants.dictionary.cells)) more y d.1 k

-- an original that lies in a stack
original_inside : (x : Storage) (core : List Tagged) (plan : Placement) (j : ℕ) (job : Job) (k from : ℕ) (outer : ℕ → StackPlace) (fs : List Frame) (g : Frame) (a : ℕ)
    → LieDownward (Fits x.held) core from (words k (activations plan j job k outer fs)) → Has fs g → Has g.cells (Original a) → (from ≤ plan.home j a) × (plan.home j a < from + stack_words (activations plan j job k outer fs))
original_inside x core plan j job k from outer fs g a l h w =
    let r = lies_at (Fits x.held) core from (words k (activations plan j job k outer fs)) (Shapes.Original (plan.home j a)) l (original_word plan j job k outer fs g a h w) in
    (omega (arith, r.low, r.fits.0), omega (arith, r.up, r.fits.0, words-length k (activations plan j job k outer fs)))

lie_below : (R : Shapes.Shape → ℕ → Tagged → Type 0) (core : List Tagged) (from k : ℕ) (h : Head) (below : List Activation) (under : List Shapes.Shape) → LieDownward R core from (headed k h below under) → LieDownward R core from under
lie_below R core from k h below e l = grind arith

head_length : (k : ℕ) (h : Head) (below : List Activation) (under : List Shapes.Shape) → 1 + length under ≤ length (headed k h below under)
head_length k h below e = grind arith

module _ (x : Storage) (core : List Tagged) (r : Regs) (marks : List ℕ) (plan : Placement) (s : Session) (m : SessionJob) (t : Task) (f : Frame) (below : List Frame)
    (o : IsInOrderButCounts s) (h : SessionHolds x core r marks plan s) (runs : IsRunning plan s.jobs m t) (frames : t.frames ≡ f ∷ below) where
  abbrev pub under : List Activation
  under = activations plan m.constants.number m.progress.job plan.running (outer_spots plan m.constants.number m.progress.job t.critical t.parents) below

  abbrev pub base : ℕ
  base = slot_base (machine_view plan s.jobs) plan.running

  -- where the homes of a member's arrays are, but for those of the frame: not in the running slot above the frames below
  abbrev pub Low : SessionJob → Array → Type 0
  Low y b = (plan.home y.constants.number b.identity ≤ base + stack_words under) ⊎ (base + plan.size ≤ plan.home y.constants.number b.identity)

  order_of : (y : SessionJob) → Has s.jobs y → JobInOrderButCounts (IsSegment y.constants) y.constants y.progress
  order_of y in_y = all_in (λ (z : SessionJob). JobInOrderButCounts (IsSegment z.constants) z.constants z.progress) s.jobs y o.jobs in_y

  used : RunsOn (machine_view plan s.jobs) plan.running (stack_of_task plan m.constants.number m.progress.job plan.running t)
  used = runs_on plan s.jobs m t h.fits.rows (keyed_has number_of m.constants.number s.jobs m runs.member).0 (keyed_has (λ (u : Task). u.number) t.number m.progress.job.tasks t runs.task).0 runs.slot runs.member runs.task

  -- of the running task
  own : (b : Array) (g : Frame) → Has t.frames g → Has g.cells (Original b.identity) → b.owner ≡ g.identity → b.owner ≢ f.identity → Low m b
  own b g in_g w owned ne = elim (subst (λ (fs : List Frame). Has fs g) frames in_g) [
    | inl e ↦ absurd (ne (owned ∙ ap (λ (z : Frame). z.identity) (sym e)))
    | inr k ↦
        let lies = running_lies x core r (machine_view plan s.jobs) plan.running (stack_of_task plan m.constants.number m.progress.job plan.running t) h.memory used in
        let outer = outer_spots plan m.constants.number m.progress.job t.critical t.parents in
        let all : LieDownward (Fits x.held) core (suc base) (words plan.running (activations plan m.constants.number m.progress.job plan.running outer (f ∷ below))) = subst (λ (fs : List Frame). LieDownward (Fits x.held) core (suc base) (words plan.running (activations plan m.constants.number m.progress.job plan.running outer fs))) frames lies in
        let fh : Head = head (spot_in plan.running outer below) f.standing in
        let rest = lie_below (Fits x.held) core (suc base) plan.running fh under (words plan.running under)
        (Lie-under (Fits x.held) core (suc base) (map (shape plan m.constants.number m.progress.job (spot_in plan.running outer (f ∷ below))) f.cells) (headed plan.running fh under (words plan.running under)) all) in
        let i = original_inside x core plan m.constants.number m.progress.job plan.running (suc base) outer below g b.identity rest k w in
        inl (omega (arith, i.1))
  ]

  -- of any task
  in_frame : (y : SessionJob) → Has s.jobs y → (b : Array) → InFrame y.progress.job b → ((y ≡ m) × (b.owner ≡ f.identity)) ⊎ Low y b
  in_frame y in_y b q =
      let j = y.constants.number in
      let u = q.task in
      let k = slot_of plan j u.number in
      let ky = keyed_member 1 s.jobs y o.numbered in_y in
      let ku = keyed_falls (λ (v : Task). v.number) y.progress.job.next_task y.progress.job.tasks u (order_of y in_y).tasks.numbers q.live in
      elim (cases_eq plan.running k) [
        | inl e ↦ running_only plan s.jobs m y t u (λ (z : SessionJob) (v : Task). Has v.frames q.frame → ((z ≡ m) × (b.owner ≡ f.identity)) ⊎ Low z b) h.fits.rows runs (record { member = ky; task = ku; slot = e })
            (λ in_g. elim (cases_eq b.owner f.identity) [ inl is ↦ inl (refl, is) | inr n ↦ inr (own b q.frame in_g q.word q.owned n) ]) q.among
        | inr n ↦
            let small = slot_below plan s.jobs y u h.fits.rows in_y q.live in
            let lies = h.memory.stacks k small in
            let S = stack_of_task plan j y.progress.job k u in
            let is : stack_of (slot_at plan s.jobs k) ≡ S = stack_in_slot plan s.jobs y u h.fits.rows in_y q.live ky ku in
            let l : LieDownward (Fits x.held) core (suc (slot_base (machine_view plan s.jobs) k)) (words k S) = subst (λ (st : List Activation). LieDownward (Fits x.held) core (suc (slot_base (machine_view plan s.jobs) k)) (words k st)) is lies in
            let i = original_inside x core plan j y.progress.job k (suc (slot_base (machine_view plan s.jobs) k)) (outer_spots plan j y.progress.job u.critical u.parents) u.frames q.frame b.identity l q.among q.word in
            inr (apart k n small (plan.home j b.identity) i.0 (omega (arith, i.1, room k small, ap stack_words is)))
      ] where
        room : (k : ℕ) → k < plan.peak → stack_words (stack_of (slot_at plan s.jobs k)) < plan.size
        room k small = slot_room (machine_view plan s.jobs) k (slot_at plan s.jobs k) (h.memory.slots.laid.slots k small)
            (omega (arith, (running_fits x core r (machine_view plan s.jobs) plan.running (stack_of_task plan m.constants.number m.progress.job plan.running t) h.memory used).0.fits))

        apart : (k : ℕ) → plan.running ≢ k → k < plan.peak → (i : ℕ) → suc (slot_base (machine_view plan s.jobs) k) ≤ i → i < slot_base (machine_view plan s.jobs) k + plan.size → (i ≤ base + stack_words under) ⊎ (base + plan.size ≤ i)
        apart k ne small i low up = elim (cases_lt k plan.running) [
          | inl a ↦ inl (omega (arith, base-apart (machine_view plan s.jobs) k plan.running a))
          | inr b ↦ inr (omega (arith, base-apart (machine_view plan s.jobs) plan.running k (omega (arith, b, ne))))
        ]

  -- of every array, but those of the frame
  pub homes_low : (y : SessionJob) → Has s.jobs y → (b : Array) → Has y.progress.job.arrays b → ((y ≡ m) × (b.owner ≡ f.identity)) ⊎ Low y b
  homes_low y in_y b in_b = elim (original_of y.constants y.progress.job (order_of y in_y).tasks b in_b) [
    | inl d ↦
        let e = entry_number 1 y.constants.segments (reverse y.constants.dictionary.cells) b.identity (order_of y in_y).unchanging.dictionary (has_reverse y.constants.dictionary.cells (Original b.identity) d) in
        let n : length (reverse y.constants.dictionary.cells) ≡ length y.constants.dictionary.cells = length-reverse y.constants.dictionary.cells in
        let home = h.fits.row_homes y in_y b.identity e.0 (omega (arith, e.1, n)) in
        let end = dictionary_end plan 160 s.jobs y h.fits.dictionaries in_y in
        inr (inl (omega (arith, home, end, e.1, n)))
    | inr q ↦ in_frame y in_y b q
  ]

  -- the frame on top, and the whole stack
  abbrev pub all : List Activation
  all = activations plan m.constants.number m.progress.job plan.running (outer_spots plan m.constants.number m.progress.job t.critical t.parents) (f ∷ below)

  on_top : IsOnTop m.constants m.progress.job t f below
  on_top = record { order = (order_of m (keyed_has number_of m.constants.number s.jobs m runs.member).0).tasks; there = runs.task; frames = frames }

  -- an original among the cells of the frame
  in_cells : (b : ℕ) → Has f.cells (Original b) → (base + stack_words under + 1 < plan.home m.constants.number b) × (plan.home m.constants.number b ≤ base + stack_words all)
  in_cells b w =
      let outer = outer_spots plan m.constants.number m.progress.job t.critical t.parents in
      let shapes = map (shape plan m.constants.number m.progress.job (spot_in plan.running outer (f ∷ below))) f.cells in
      let fh : Head = head (spot_in plan.running outer below) f.standing in
      let lies = subst (λ (fs : List Frame). LieDownward (Fits x.held) core (suc base) (words plan.running (activations plan m.constants.number m.progress.job plan.running outer fs))) frames
      (running_lies x core r (machine_view plan s.jobs) plan.running (stack_of_task plan m.constants.number m.progress.job plan.running t) h.memory used) in
      let q = lies_over (Fits x.held) core (suc base) shapes (headed plan.running fh under (words plan.running under)) (Shapes.Original (plan.home m.constants.number b)) lies
      (has_map (shape plan m.constants.number m.progress.job (spot_in plan.running outer (f ∷ below))) f.cells (Original b) w) in
      grind (arith, words-length)

  -- the arrays of the frame have their originals there
  pub homes_high : (b : Array) → Has m.progress.job.arrays b → b.owner ≡ f.identity → (base + stack_words under + 1 < plan.home m.constants.number b.identity) × (plan.home m.constants.number b.identity ≤ base + stack_words all)
  homes_high b in_b owned = elim (original_of m.constants m.progress.job on_top.order b in_b) [
    | inl d ↦
        let own : OwnsArray m.progress.job.arrays 1 b.identity = all_in (EntryInOrder m.progress.job.arrays) m.constants.dictionary.cells (Original b.identity) on_top.order.entries d in
        let same : own.item ≡ b = falls_same (λ (a : Array). a.identity) m.progress.job.next_array m.progress.job.arrays own.item b on_top.order.names own.live in_b own.named in
        absurd (omega (arith, identity_high m.constants m.progress.job t f below on_top, owned, own.owned, ap (λ (a : Array). a.owner) same))
    | inr q ↦ in_cells b.identity (its_cells q)
  ] where
    named : (g : Frame) (gs : List Frame) → Has gs g → 1 ≤ frames_named g.identity gs
    named g gs k = has_counts g.identity gs (has_map (λ (z : Known). z.0) (map known_of gs) (known_of g) (has_map known_of gs g k))

    its_cells : (q : InFrame m.progress.job b) → Has f.cells (Original b.identity)
    its_cells q =
        let same_id : q.frame.identity ≡ f.identity = sym q.owned ∙ owned in
        let counted : 1 ≤ frames_named f.identity q.task.frames = subst (λ (n : ℕ). 1 ≤ frames_named n q.task.frames) same_id (named q.frame q.task.frames q.among) in
        elim (eqb_tells q.task.number t.number) [
          | inl e ↦
              let k = keyed_falls (λ (v : Task). v.number) m.progress.job.next_task m.progress.job.tasks q.task on_top.order.numbers q.live in
              let is_t : q.task ≡ t = same_Some q.task t (sym k ∙ ap (λ (n : ℕ). keyed (λ (v : Task). v.number) n m.progress.job.tasks) e.1 ∙ runs.task) in
              elim (subst (λ (fs : List Frame). Has fs q.frame) (ap (λ (v : Task). v.frames) is_t ∙ frames) q.among) [
                | inl is ↦ subst (λ (g : Frame). Has g.cells (Original b.identity)) (sym is) q.word
                | inr k ↦ absurd (let one = subst (λ (n : ℕ). 1 ≤ frames_named n below) same_id (named q.frame below k) in let z : ⊥ = omega (arith, one, once_only m.constants m.progress.job t f below on_top) in z)
              ]
          | inr e ↦ absurd (let z : ⊥ = omega (arith, counted, elsewhere m.constants m.progress.job t f below on_top q.task q.live e.1) in z)
        ]
