-- The top activation record before ENTR: its mark, and its first cell.
use Rattle.std.proofs.Common.{◌≡◌, ◌≢◌, ℕ, ◌+◌, ◌-◌, ◌<◌, List, [], ◌∷◌, ◌++◌, length, map, reverse, Option, Some, None, Err, refl, sym, ◌∙◌, ap, arith, true, false, inl, inr, subst, length-append}
use Rattle.std.specs.List.{slice_get, AllByRecursion}
use Rattle.std.proofs.lemmas.List.{reverse-reverse}
use Rattle.std.proofs.lemmas.Option.{same_Some, slice_get_within}
use Rattle.b67_word.specs.Tagged.{Tagged}
use Rattle.b67_word.specs.declared.couples.Place.{Place}
use Rattle.b67_word.specs.declared.faults.Fault.TheVariants.{InvalidOperand, StackUnderflow}
use Rattle.b67_ctl.specs.Layout.{flag_bit}
use Rattle.b67_ctl.specs.declared.marks.Mscw.{Mscw}
use Rattle.b67_model.specs.Common.{Answer, ◌>>=◌, Word, Operand, Name, Ref, Row, Element, Proc, Intrinsic, Frame, Standing, Array, Job, OperatorContext, top, below_top, End, follow, follow_reference, cells_of, top_of, entr, entr_at, entr_with, Done, Starts, Known, IsSegment, WordInOrder, FramesInOrder, known_of, outer_of, reach_of, called_at, called_by, called_on}
use Rattle.b67_ctl.specs.declared.registers.Regs.{Regs}
use Rattle.b67_lemmas.specs.Lists.{Has}
use Rattle.b67_lemmas.proofs.Members.{all_in, reverse_cons}
use Rattle.b67_model.specs.Words as Words
use Rattle.b67_model.specs.State as State
use Rattle.b67_layout.specs.Common.{Placement, spot_in, outer_spots, spots, shape, head, activations, machine_view, stack_of_task, here, RunsSome}
use Rattle.b67_stack.specs.declared.Cpu.{Cpu}
use Rattle.b67_stack.specs.Common.{Shape, Fits, StackPlace, Marked, Activation, mark_of, top_mark, RunsOn, top_cells, Storage}
use Rattle.b67_stack.proofs.Slots.{running_slot}
use Rattle.b67_stack.proofs.Tops.{empty_at}
use Rattle.b67_stack.proofs.Cells.{cell_word}
use Rattle.b67_layout.proofs.Common.{slot_is, runs_here, running_in_order}
use Rattle.b67_refer.specs.RunningContext.{RunningContext}
use Rattle.b67_refer.specs.Cells.{StandsFor}
use Rattle.b67_layout.proofs.Enters.{IsMarkedWith, marked_stack}
use Rattle.b67_refer.specs.Ends.{IsReference}
use Rattle.b67_entry.specs.Procedures.{CallsWith}
use Rattle.b67_entry.proofs.Environments.{plain}
use Rattle.b67_entry.proofs.RetnContext.{IsTopMark, mark_is}

-- what the mark says of how the frame stands
module _ (plan : Placement) (j : ℕ) (job : Job) (k : ℕ) (outer : ℕ → StackPlace) where
  entered_by : (h : OperatorContext) (st : Standing) (spot : ℕ → StackPlace) (below : List Activation) → (mark_of k (head spot st) below).entered ≡ true → (entr h st ≡ Err InvalidOperand) × (called_on h st ≡ None)
  entered_by h st spot below e = grind arith

  marked_by : (st : Standing) (spot : ℕ → StackPlace) (below : List Activation) → (mark_of k (head spot st) below).entered ≡ false → st ≡ State.Marked
  marked_by st spot below e = grind arith

  entered_top : (h : OperatorContext) (fs : List Frame) → (top_mark k (activations plan j job k outer fs)).entered ≡ true → (entr h (top fs).standing ≡ Err InvalidOperand) × (called_on h (top fs).standing ≡ None)
  entered_top h fs e = grind arith

  marked_top : (fs : List Frame) → (top_mark k (activations plan j job k outer fs)).entered ≡ false → (top fs).standing ≡ State.Marked
  marked_top fs e = grind arith

  top_cells_is : (fs : List Frame) → top_cells (activations plan j job k outer fs) ≡ map (shape plan j job (spot_in k outer fs)) (top fs).cells
  top_cells_is fs = grind arith

-- the cells by the first one
pub record Parted (cells : List Word) : Type 0 where
  pub first : Word
  pub arguments : List Word
  pub up : reverse cells ≡ first ∷ arguments
  pub down : cells ≡ reverse arguments ++ first ∷ []

parted_by : (cells : List Word) (ws : List Word) → reverse cells ≡ ws → cells ≢ [] → Parted cells
parted_by cells [] e some = absurd (some (sym (reverse-reverse cells) ∙ ap reverse e))
parted_by cells (first ∷ arguments) e some = record { first = first; arguments = arguments; up = e; down = sym (reverse-reverse cells) ∙ ap reverse e ∙ reverse_cons first arguments }

pub parted : (cells : List Word) → cells ≢ [] → Parted cells
parted cells some = parted_by cells (reverse cells) refl some

last_has : (xs : List Word) (y : Word) → Has (xs ++ y ∷ []) y
last_has [] y = inl refl
last_has (x ∷ xs) y = inr (last_has xs y)

-- a cell's word with tag 1 is a reference, and one without isn't
module _ (P : Starts) (arrays : List Array) (known : List Known) (owner : ℕ) (x : Storage) (plan : Placement) (j : ℕ) (job : Job) (spot : ℕ → StackPlace) (i : ℕ) (v : Tagged) where
  pub refers : (w : Word) → WordInOrder P arrays known owner w → Fits x.held (shape plan j job spot w) i v → v.tag ≡ 1 → IsReference w
  refers w o f e = grind arith

  pub refers_not : (h : OperatorContext) (w : Word) → WordInOrder P arrays known owner w → Fits x.held (shape plan j job spot w) i v → v.tag ≢ 1 → follow_reference h w ≡ Err InvalidOperand
  refers_not h w o f ne = grind arith

pub same_follow : (h : OperatorContext) (w : Word) → IsReference w → follow_reference h w ≡ follow h w
same_follow h (Name couple) is = refl
same_follow h (Ref g offset) is = refl
same_follow h (Operand bits) is = absurd is
same_follow h (Row array) is = absurd is
same_follow h (Element array index) is = absurd is
same_follow h (Words.Original array) is = absurd is
same_follow h (Proc segment level place) is = absurd is
same_follow h (Intrinsic n) is = absurd is
same_follow h (Words.Segment n) is = absurd is

stands_for : {core : List Tagged} {r : Regs} (a : RunningContext core r) (at owner : ℕ) (v : Tagged) (w : Word) → IsReference w
    → Fits a.storage.held (shape a.plan a.member.constants.number a.member.progress.job (spots a.plan a.member.constants.number a.member.progress.job a.task) w) at v
    → WordInOrder (IsSegment a.member.constants) a.member.progress.job.arrays (reach_of a.member.progress.job a.task) owner w → StandsFor a at owner v w
stands_for a at owner v w is f o = grind arith

top_words : (P : Starts) (arrays : List Array) (outer : List Known) (fs : List Frame) → FramesInOrder P arrays outer fs → AllByRecursion (WordInOrder P arrays (map known_of fs ++ outer) (top fs).identity) (top fs).cells
top_words P arrays outer [] g = tt
top_words P arrays outer (f ∷ below) g = g.0.0

-- the row, by where the first cell leads
pub entr_goes : (h : OperatorContext) (st : Standing) (first : Word) (arguments : List Word) (end : Answer End) → st ≡ State.Marked → reverse (cells_of h) ≡ first ∷ arguments → follow_reference h first ≡ end
    → (entr h st ≡ (end >>= entr_at h arguments)) × (called_on h st ≡ called_at end)
entr_goes h st first arguments end marked up leads = grind arith

pub entr_empty : (h : OperatorContext) (st : Standing) → st ≡ State.Marked → cells_of h ≡ [] → (entr h st ≡ Err StackUnderflow) × (called_on h st ≡ None)
entr_empty h st marked none = (ap (entr h) marked ∙ ap (λ (cs : List Word). entr_with h (reverse cs)) none, ap (called_on h) marked ∙ ap (λ (cs : List Word). called_by h (reverse cs)) none)

-- the running task's scene
abbrev pub scene_of : {cpu : Cpu} → RunsSome cpu → RunningContext cpu.core cpu.regs
scene_of {cpu = cpu} r = plain r.storage cpu r.plan r.session r.member r.task r.ordered r.stands r.running

-- what the row answers, and what it calls
abbrev pub Comes : {cpu : Cpu} → RunsSome cpu → Place → Answer Done → Option ℕ → Type 0
Comes r q answer call = (entr (here r.member r.task q) (top_of (here r.member r.task q)).standing ≡ answer) × (called_on (here r.member r.task q) (top_of (here r.member r.task q)).standing ≡ call)

-- the first cell is a reference, and the row goes by where it leads
pub record Referring {cpu : Cpu} (r : RunsSome cpu) (q : Place) (w : Tagged) : Type 0 where
  pub reference : Word
  pub arguments : List Word
  pub stands : StandsFor (scene_of r) (cpu.regs.f + 1) (top r.task.frames).identity w reference
  pub with : CallsWith r.task reference arguments
  pub goes : (end : Answer End) → follow (here r.member r.task q) reference ≡ end → Comes r q (end >>= entr_at (here r.member r.task q) arguments) (called_at end)

module _ (cpu : Cpu) (q : Place) (r : RunsSome cpu) (mark : Mscw) (marks : IsTopMark cpu mark) where
  abbrev stack_now : List Activation
  stack_now = stack_of_task r.plan r.member.constants.number r.member.progress.job r.plan.running r.task

  abbrev outer : ℕ → StackPlace
  outer = outer_spots r.plan r.member.constants.number r.member.progress.job r.task.critical r.task.parents

  entered_is : (top_mark r.plan.running stack_now).entered ≡ mark.entered
  entered_is = ap (λ (k : ℕ). (top_mark k stack_now).entered) (sym (slot_is r.storage cpu r.plan r.session r.member r.task r.stands r.running)) ∙ ap (λ (z : Mscw). z.entered) (sym (mark_is cpu mark marks r))

  pub faults_entered : mark.entered ≡ true → Comes r q (Err InvalidOperand) None
  faults_entered e = entered_top r.plan r.member.constants.number r.member.progress.job r.plan.running outer (here r.member r.task q) r.task.frames (entered_is ∙ e)

  module _ (unentered : mark.entered ≡ false) where
    marked : (top r.task.frames).standing ≡ State.Marked
    marked = marked_top r.plan r.member.constants.number r.member.progress.job r.plan.running outer r.task.frames (entered_is ∙ unentered)

    cells_is : top_cells stack_now ≡ map (shape r.plan r.member.constants.number r.member.progress.job (spot_in r.plan.running outer r.task.frames)) (top r.task.frames).cells
    cells_is = top_cells_is r.plan r.member.constants.number r.member.progress.job r.plan.running outer r.task.frames

    empty : (cpu.regs.s ≡ cpu.regs.f → top_cells stack_now ≡ []) × (top_cells stack_now ≡ [] → cpu.regs.s ≡ cpu.regs.f)
    empty =
        let on = runs_here r.storage cpu r.plan r.session r.member r.task r.stands r.running in
        let e = empty_at r.storage cpu.core cpu.regs (machine_view r.plan r.session.jobs) cpu.regs.slot stack_now mark 0 r.stands.holds.memory on (mark_is cpu mark marks r) (ap flag_bit (sym unentered)) in
        (λ z. e.0 (omega (arith, z)), λ z. omega (arith, e.1 z))

    no_cells : (g : Word → Shape) (cs : List Word) → map g cs ≡ [] → cs ≡ []
    no_cells g [] e = refl
    no_cells g (c ∷ cs) e = cc

    pub faults_empty : cpu.regs.s ≡ cpu.regs.f → Comes r q (Err StackUnderflow) None
    faults_empty e = entr_empty (here r.member r.task q) (top r.task.frames).standing marked (no_cells _ (top r.task.frames).cells (sym cells_is ∙ empty.0 e))

    -- the first cell
    record Facing : Type 0 where
      first : Word
      arguments : List Word
      up : reverse (top r.task.frames).cells ≡ first ∷ arguments
      with : IsMarkedWith r.task.frames first (reverse arguments)
      word : Tagged
      there : slice_get cpu.core (cpu.regs.f + 1) ≡ Some word
      fits : Fits r.storage.held (shape r.plan r.member.constants.number r.member.progress.job (spots r.plan r.member.constants.number r.member.progress.job r.task) first) (cpu.regs.f + 1) word
      order : WordInOrder (IsSegment r.member.constants) r.member.progress.job.arrays (reach_of r.member.progress.job r.task) (top r.task.frames).identity first

    module _ (some : cpu.regs.s ≢ cpu.regs.f) where
      facing : Facing
      facing =
          let x = r.storage in
          let plan = r.plan in
          let p = machine_view plan r.session.jobs in
          let j = r.member.constants.number in
          let job = r.member.progress.job in
          let t = r.task in
          let memory = r.stands.holds.memory in
          let sh = shape plan j job (spot_in plan.running outer t.frames) in
          let g = (running_in_order plan r.session r.member t r.ordered r.running).1 in
          let cs = (top t.frames).cells in
          let c = parted cs (λ e. some (empty.1 (cells_is ∙ ap (map sh) e))) in
          let with : IsMarkedWith t.frames c.first (reverse c.arguments) = record { some = g.some; marked = marked; cells = c.down } in
          let frame : Activation = record { head = Marked; cells = map sh (reverse c.arguments) ++ sh c.first ∷ [] } in
          let below = activations plan j job plan.running outer (below_top t.frames) in
          let on : RunsOn p plan.running (frame ∷ below) = subst (RunsOn p plan.running) (marked_stack plan j job plan.running outer t.frames c.first (reverse c.arguments) with)
          (subst (λ (n : ℕ). RunsOn p n stack_now) (slot_is x cpu plan r.session r.member t r.stands r.running) (runs_here x cpu plan r.session r.member t r.stands r.running)) in
          let top_is = running_slot x cpu.core cpu.regs p plan.running (frame ∷ below) memory on in
          let word = cell_word x cpu.core cpu.regs p plan.running frame below memory on (map sh (reverse c.arguments)) (sh c.first) [] refl in
          let at : cpu.regs.s - length (map sh (reverse c.arguments)) ≡ cpu.regs.f + 1 = omega (arith, top_is.top, top_is.mark, length-append (map sh (reverse c.arguments)) (sh c.first ∷ [])) in
          let C : ℕ → Type 0 = λ n. (w : Tagged) × (slice_get cpu.core n ≡ Some w) × Fits x.held (sh c.first) n w in
          let d = subst C at word in
          let F : ℕ → Type 0 = λ n. Fits x.held (shape plan j job (spot_in n outer t.frames) c.first) (cpu.regs.f + 1) d.0 in
          record {
            first = c.first;
            arguments = c.arguments;
            up = c.up;
            with = with;
            word = d.0;
            there = d.1;
            fits = subst F r.running.slot d.2;
            order = all_in (WordInOrder (IsSegment r.member.constants) job.arrays (map known_of t.frames ++ outer_of job t) (top t.frames).identity) cs c.first (top_words (IsSegment r.member.constants) job.arrays (outer_of job t) t.frames g.frames) (subst (λ (ws : List Word). Has ws c.first) (sym c.down) (last_has (reverse c.arguments) c.first));
          }

      pub first_inside : cpu.regs.f + 1 < length cpu.core
      first_inside = slice_get_within _ _ _ facing.there

      module _ (w : Tagged) (got : slice_get cpu.core (cpu.regs.f + 1) ≡ Some w) where
        fits : Fits r.storage.held (shape r.plan r.member.constants.number r.member.progress.job (spots r.plan r.member.constants.number r.member.progress.job r.task) facing.first) (cpu.regs.f + 1) w
        fits =
            let F : Tagged → Type 0 = λ z. Fits r.storage.held (shape r.plan r.member.constants.number r.member.progress.job (spots r.plan r.member.constants.number r.member.progress.job r.task) facing.first) (cpu.regs.f + 1) z in
            subst F (same_Some _ _ (sym facing.there ∙ got)) facing.fits

        pub faults_other : w.tag ≢ 1 → Comes r q (Err InvalidOperand) None
        faults_other ne =
            entr_goes (here r.member r.task q) (top r.task.frames).standing facing.first facing.arguments (Err InvalidOperand) marked facing.up
            (refers_not (IsSegment r.member.constants) r.member.progress.job.arrays (reach_of r.member.progress.job r.task) (top r.task.frames).identity r.storage r.plan r.member.constants.number r.member.progress.job (spots r.plan r.member.constants.number r.member.progress.job r.task) (cpu.regs.f + 1) w (here r.member r.task q) facing.first facing.order fits ne)

        pub referring : w.tag ≡ 1 → Referring r q w
        referring tag =
            let is : IsReference facing.first = refers (IsSegment r.member.constants) r.member.progress.job.arrays (reach_of r.member.progress.job r.task) (top r.task.frames).identity r.storage r.plan r.member.constants.number r.member.progress.job (spots r.plan r.member.constants.number r.member.progress.job r.task) (cpu.regs.f + 1) w facing.first facing.order fits tag in
            record {
              reference = facing.first;
              arguments = facing.arguments;
              stands = stands_for (scene_of r) (cpu.regs.f + 1) (top r.task.frames).identity w facing.first is fits facing.order;
              with = record { some = facing.with.some; marked = facing.with.marked; cells = facing.with.cells; refers = is };
              goes = λ end leads. entr_goes (here r.member r.task q) (top r.task.frames).standing facing.first facing.arguments end marked facing.up (same_follow (here r.member r.task q) facing.first is ∙ leads);
            }
