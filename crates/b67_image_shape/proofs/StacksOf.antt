-- The stacks of a machine that represents what it shows are those that are read of it, and what they name is in order.
use Rattle.std.proofs.Common.{◌≡◌, ◌≢◌, ℕ, suc, ◌+◌, ◌*◌, ◌/◌, ◌%◌, ◌^◌, ◌<◌, ◌≤◌, ◌==◌, Bool, true, false, List, [], ◌∷◌, length, Some, None, refl, sym, ◌∙◌, ap, subst, arith}
use Rattle.std.specs.Prelude.{MatchBool, if◌then◌else◌}
use Rattle.std.specs.List.{slice_get}
use Rattle.std.proofs.lemmas.Bool.{eq-eqb, ne_eqb}
use Rattle.b67_word.specs.Tagged.{Tagged, bits_at}
use Rattle.b67_ctl.specs.Layout.{toscw_word}
use Rattle.b67_lemmas.specs.Lists.{Has}
use Rattle.b67_model.specs.Common.{Standing, Marked, Entered, Frame, Job, IsSegment, TaskInOrder, Starts, ReturnsInOrder, StackInOrder, IsInOrderButPlaces}
use Rattle.b67_stack.specs.Common as stack
use Rattle.b67_stack.specs.Common.{Locations, Shape, Is, Original, Copy, Fits, LieDownward, Head, Activation, StackPlace, head_size, level_from, HeadFits, HeadsFit, IsStack, stack_words, mark_place, stack_level, toscw_of, words, Slot, Free, Running, Waiting, MachineView, slot_base, stack_of, SlotFits, RepresentsSlot, RepresentsRunning, Storage}
use Rattle.b67_layout.specs.Common.{Placement, spot_in, outer_spots, head, activations, stack_of_task, slot_at, SessionHolds, TaskRow, JobRow, TaskShows, TablesShow}
use Rattle.b67_layout_shown.specs.Reading.{stack_seen}
use Rattle.b67_layout_shown.specs.Laws.{HasCaller, HaveCallers, StacksAreRead}
use Rattle.b67_layout_shown.specs.Shown.{Sight, top_by, top_in, stack_of_row, task_in, job_seen, member_in, constants_in, shown, placed}
use Rattle.b67_layout_shown.proofs.Stacks.{word_is}
use Rattle.b67_image_shape.specs.TableFacts.{TableFacts}
use Rattle.b67_image_shape.specs.Held.{view_in, held_of}
use Rattle.b67_image_shape.specs.Items.{EachTask, base_at, TopFacts, StackFacts, ReachFacts, CellFacts}
use Rattle.b67_image_shape.proofs.Rows.{of_row, same_number, slot_live, row_fact}
use Rattle.b67_image_shape.proofs.EachTask.{each_task}
use Rattle.b67_image_shape.proofs.TablesOf.{tables_of, task_order}
use Rattle.b67_image_shape.proofs.HeldOf.{area_same}

toscw_fields : (s l f : ℕ) → s < 2 ^ 16 → l < 2 ^ 5 → f < 2 ^ 14 → let n = s * 2 ^ 20 + l * 2 ^ 14 + f in (n / 2 ^ 20 % 2 ^ 16 ≡ s) × (n / 2 ^ 0 % 2 ^ 14 ≡ f)
toscw_fields s l f sh lh fh = (omega arith, omega arith)

place_low : (st : List Activation) → mark_place st ≤ stack_words st
place_low st = grind arith

pub many_words : (st : List Activation) → length st ≤ stack_words st
many_words [] = omega arith
many_words (a ∷ below) = by a.head (many_words below) where
  by : (h : Head) → length below ≤ stack_words below → suc (length below) ≤ stack_words below + (head_size h + length a.cells)
  by stack.Marked low = omega (arith, low)
  by (stack.Entered level environment back) low = omega (arith, low)

levels : (st : List Activation) → HeadsFit st → stack_level st < 2 ^ 5
levels [] fits = omega arith
levels (a ∷ below) fits = by a.head fits.0 (levels below fits.1) where
  by : (h : Head) → HeadFits h below → stack_level below < 2 ^ 5 → level_from h (stack_level below) < 2 ^ 5
  by stack.Marked h low = low
  by (stack.Entered level environment back) h low = h.0

pub callers : (plan : Placement) (j : ℕ) (job : Job) (k : ℕ) (outer : ℕ → StackPlace) (P : Starts) (fs : List Frame) → StackInOrder P fs → HaveCallers (activations plan j job k outer fs)
callers plan j job k outer P [] o = tt
callers plan j job k outer P (f ∷ below) o = (by below f.standing o.0, callers plan j job k outer P below o.1) where
  some : (fs : List Frame) → fs ≢ [] → activations plan j job k outer fs ≢ []
  some [] h e = h refl
  some (g ∷ more) h e = cc

  by : (fs : List Frame) (s : Standing) → ReturnsInOrder P s fs → HasCaller (head (spot_in k outer fs) s) (activations plan j job k outer fs)
  by fs Marked o = tt
  by fs (Entered level environment None) o = tt
  by fs (Entered level environment (Some back)) o = some fs o.0

-- ---- words over other locations with the same areas

module _ (held other : Locations) (same : (home : ℕ) → (other home).area ≡ (held home).area) where
  fits_over : (a : Shape) (at : ℕ) (w : Tagged) → Fits held a at w → Fits other a at w
  fits_over a at w f = grind arith

  pub lie_over : (core : List Tagged) (from : ℕ) (shapes : List Shape) → LieDownward (Fits held) core from shapes → LieDownward (Fits other) core from shapes
  lie_over core from [] l = tt
  lie_over core from (a ∷ more) l = ((l.0.0, l.0.1, fits_over a (from + length more) l.0.0 l.0.2), lie_over core from more l.1)

-- ---- each live task

module _ (read : StacksAreRead) (k : Sight) (x : Storage) (critical : List ℕ) (ordered : IsInOrderButPlaces (shown k)) (holds : SessionHolds x k.core k.regs critical (placed k) (shown k))
    (tables : TablesShow (placed k) (shown k) k.tasks k.jobs k.counts) where
  abbrev facts : TableFacts k
  facts = tables_of k x critical ordered holds tables

  module _ (r : TaskRow) (h : Has k.tasks r) where
    abbrev row : JobRow
    row = (of_row k (tables_of k x critical ordered holds tables) r h).row

    abbrev acts : List Activation
    acts = stack_of_task (placed k) r.job (job_seen k (of_row k (tables_of k x critical ordered holds tables) r h).row r.job) r.slot (task_in k (of_row k (tables_of k x critical ordered holds tables) r h).row r.job r)

    order : TaskInOrder (IsSegment (constants_in k row r.job)) (constants_in k row r.job) (job_seen k row r.job) (task_in k row r.job r)
    order = let o = of_row k facts r h in task_order k x critical ordered holds tables (member_in k o.row r.job) (task_in k o.row r.job r) o.among o.live

    shows : TaskShows (placed k) (member_in k row r.job) (task_in k row r.job r) r
    shows =
        let o = of_row k facts r h in
        let (q, hq, sh) = tables.each (member_in k o.row r.job) (task_in k o.row r.job r) o.among o.live in
        subst (TaskShows (placed k) (member_in k row r.job) (task_in k row r.job r)) (same_number k facts q r hq h sh.job sh.number) sh

    low : r.slot < k.regs.peak
    low = (row_fact k facts r h).slot

    slot : slot_at (placed k) (shown k).jobs r.slot ≡ (if r.slot == k.regs.slot then Running acts else Waiting acts)
    slot = slot_live k facts r h

    stack_is : (b : Bool) → stack_of (if b then Running acts else Waiting acts) ≡ acts
    stack_is b = grind arith

    fits : IsStack k.regs.stack_size acts
    fits = by (r.slot == k.regs.slot) (subst (SlotFits (view_in k) r.slot) slot (holds.memory.slots.laid.slots r.slot low)) where
      by : (b : Bool) → SlotFits (view_in k) r.slot (if b then Running acts else Waiting acts) → IsStack k.regs.stack_size acts
      by true f = f.0
      by false f = f.0

    there : RepresentsSlot k.core k.regs (view_in k) r.slot (if r.slot == k.regs.slot then Running acts else Waiting acts)
    there = subst (RepresentsSlot k.core k.regs (view_in k) r.slot) slot (holds.memory.slots.slots r.slot low)

    top_is : (b : Bool) → RepresentsSlot k.core k.regs (view_in k) r.slot (if b then Running acts else Waiting acts)
        → ((top_by k r (base_at k r) b).s ≡ base_at k r + stack_words acts) × ((top_by k r (base_at k r) b).f ≡ base_at k r + mark_place acts)
    top_is true rep = (rep.top, rep.mark)
    top_is false rep =
        let is = word_is k.core (base_at k r) (toscw_word (toscw_of acts)) rep.1 in
        let room = holds.memory.slots.laid.room in
        let short = fits.fits in
        let under = place_low acts in
        let f = toscw_fields (stack_words acts) (stack_level acts) (mark_place acts) (omega (arith, room, short)) (levels acts fits.heads) (omega (arith, room, short, under)) in
        (ap (λ (w : Tagged). base_at k r + bits_at w 20 16) is ∙ ap (λ n. base_at k r + n) f.0, ap (λ (w : Tagged). base_at k r + bits_at w 0 14) is ∙ ap (λ n. base_at k r + n) f.1)

    pub same : acts ≡ stack_of_row k r
    same =
        let t = top_is (r.slot == k.regs.slot) there in
        let many = many_words acts in
        let short = fits.fits in
        sym (ap (λ f. stack_seen k.core k.regs.stack_size f (top_in k r).s) t.1 ∙ ap (stack_seen k.core k.regs.stack_size (base_at k r + mark_place acts)) t.0
        ∙ read x k.core k.regs (view_in k) holds.memory r.slot low acts (ap stack_of slot ∙ stack_is (r.slot == k.regs.slot)) fits.some
        (callers (placed k) r.job (job_seen k row r.job) r.slot (outer_spots (placed k) r.job (job_seen k row r.job) (task_in k row r.job r).critical (task_in k row r.job r).parents) (IsSegment (constants_in k row r.job)) (task_in k row r.job r).frames order.returns)
        k.regs.stack_size (omega (arith, many, short)))

    top : TopFacts k r acts
    top = grind (arith, there, eq-eqb, ne_eqb)

    lie : LieDownward (Fits (held_of k)) k.core (suc (base_at k r)) (words r.slot acts)
    lie = lie_over x.held (held_of k) (area_same x k.core k.regs (view_in k) holds.memory) k.core (suc (base_at k r)) (words r.slot acts)
        (subst (λ (st : List Activation). LieDownward (Fits x.held) k.core (suc (base_at k r)) (words r.slot st)) (ap stack_of slot ∙ stack_is (r.slot == k.regs.slot)) (holds.memory.stacks r.slot low))

    pub stack_facts : StackFacts k row r.job r
    stack_facts = record {
      fits = subst (IsStack k.regs.stack_size) same fits;
      top = subst (TopFacts k r) same top;
      lie = subst (λ (st : List Activation). LieDownward (Fits (held_of k)) k.core (suc (base_at k r)) (words r.slot st)) same lie;
      returns = order.returns;
      place = order.place;
    }

    pub reach_facts : ReachFacts k row r.job r
    reach_facts = record { falls = order.falls; birth = order.birth; condition = order.condition; state = shows.state; critical = shows.critical }

    pub cell_facts : CellFacts k row r.job r
    cell_facts = record { frames = order.frames; same = same }

  pub stacks_of : EachTask k (StackFacts k)
  stacks_of = each_task k facts (StackFacts k) stack_facts

  pub reach_of : EachTask k (ReachFacts k)
  reach_of = each_task k facts (ReachFacts k) reach_facts

  pub cells_of : EachTask k (CellFacts k)
  cells_of = each_task k facts (CellFacts k) cell_facts
