-- The address of an array's original is read as the array's name.
use Rattle.std.proofs.Common.{◌≡◌, ℕ, suc, ◌+◌, ◌-◌, ◌*◌, ◌/◌, ◌%◌, ◌<◌, ◌≤◌, Bool, true, false, List, [], ◌∷◌, ◌++◌, map, length, Option, Some, None, refl, sym, ◌∙◌, ap, subst, arith, inl, inr, le-ltb, length-append}
use Rattle.std.specs.Prelude.{◌⊎◌, if◌then◌else◌}
use Rattle.std.proofs.lemmas.Bool.{cases_Bool, eq-eqb}
use Rattle.std.proofs.lemmas.List.{length-map}
use Rattle.std.proofs.lemmas.Option.{same_Some, none-some}
use Rattle.b67_word.specs.Tagged.{Tagged}
use Rattle.std.proofs.Math.Arith.{digits_div, digits_mod}
use Rattle.b67_ctl.specs.declared.registers.Regs.{Regs}
use Rattle.b67_lemmas.specs.Lists.{Has, total, how_many}
use Rattle.b67_model.specs.Words as Words
use Rattle.b67_model.specs.Common.{Word, Original, Standing, Marked, Entered, Frame, Task, Job, SessionJob, head_words, height, is_original_of, originals_in}
use Rattle.b67_stack.specs.Common.{Shape, Locations, Fits, LieDownward, StackPlace, head_size, headed, words}
use Rattle.b67_stack.proofs.Lies.{Lie-under}
use Rattle.b67_stack.proofs.Heights.{words-length, headed-length}
use Rattle.b67_layout.specs.Common.{Placement, spot_in, outer_spots, slot_of, shape, head, activations, stack_of_task, JobRow, DictionariesFollow}
use Rattle.b67_layout.specs.Rows as rows
use Rattle.b67_layout.proofs.Frames.{height-is}
use Rattle.b67_layout.proofs.Sessions.{follow-up}
use Rattle.b67_layout_shown.specs.Shown.{number_seen, array_homed}
use Rattle.b67_layout_shown.specs.Places.{named, or_else, cell_of_original, array_by, array_under, array_among}

-- an original by its test
pub is_original : (a : ℕ) (w : Word) → is_original_of a w ≡ true → w ≡ Original a
is_original a w e = grind arith

module _ (core : List Tagged) (held : Locations) (plan : Placement) (j : ℕ) (job : Job) (a : ℕ) where
  -- an original that is found stands at its home
  pub record Stands (low from d top : ℕ) : Type 0 where
    pub at : plan.home j a + low ≡ from + d
    pub above : low ≤ d
    pub below : d < top

  pub cell_home : (spot : ℕ → StackPlace) (from low : ℕ) (cells : List Word) (rest : List Shape) (d : ℕ) → LieDownward (Fits held) core from (map (shape plan j job spot) cells ++ rest)
      → cell_of_original low cells a ≡ Some d → Stands low (from + length rest) d (low + length cells)
  cell_home spot from low [] rest d l e = let z : ⊥ = cc in absurd z
  cell_home spot from low (w ∷ more) rest d l e = grind (arith, length-append, length-map, cell_home spot from low more rest d l.1)

  pub cell_there : (low : ℕ) (cells : List Word) → Has cells (Original a) → (d : ℕ) × (cell_of_original low cells a ≡ Some d)
  cell_there low [] h = absurd h
  cell_there low (w ∷ more) h = by (cases_Bool (is_original_of a w)) h (λ z. cell_there low more z) where
    by : ((is_original_of a w ≡ true) ⊎ (is_original_of a w ≡ false)) → Has (w ∷ more) (Original a) → (Has more (Original a) → (d : ℕ) × (cell_of_original low more a ≡ Some d)) → (d : ℕ) × (cell_of_original low (w ∷ more) a ≡ Some d)
    by (inl t) k r = (low + length more, ap (λ (b : Bool). if b then Some (low + length more) else cell_of_original low more a) t)
    by (inr t) (inl e) r = let yes : is_original_of a w ≡ true = ap (is_original_of a) e ∙ eq-eqb a a refl in absurd (let z : ⊥ = cc in z)
    by (inr t) (inr k) r = let q = r k in (q.0, ap (λ (b : Bool). if b then Some (low + length more) else cell_of_original low more a) t ∙ q.1)

  -- ---- the frames of a task

  record StandsIn (number base top n : ℕ) : Type 0 where
    pub disp : ℕ
    name : n ≡ named number disp
    at : plan.home j a ≡ base + disp
    below : disp < top

  head_same : (spot : ℕ → StackPlace) (s : Standing) → head_size (head spot s) ≡ head_words s
  head_same spot s = grind arith

  frames_home : (k base number : ℕ) (outer : ℕ → StackPlace) (fs : List Frame) (n : ℕ) → LieDownward (Fits held) core (suc base) (words k (activations plan j job k outer fs)) → array_under number fs a ≡ Some n → StandsIn number base (height fs) n
  frames_home k base number outer [] n l e = let z : ⊥ = cc in absurd z
  frames_home k base number outer (f ∷ below) n l e = by (cell_of_original (height below + head_words f.standing) f.cells a) refl (λ z. frames_home k base number outer below n under z) where
    spot : ℕ → StackPlace
    spot = spot_in k outer (f ∷ below)

    under_by : (h : Standing) → LieDownward (Fits held) core (suc base) (headed k (head (spot_in k outer below) h) (activations plan j job k outer below) (words k (activations plan j job k outer below))) → LieDownward (Fits held) core (suc base) (words k (activations plan j job k outer below))
    under_by Marked x = x.1
    under_by (Entered level environment back) x = x.1.1

    under : LieDownward (Fits held) core (suc base) (words k (activations plan j job k outer below))
    under = under_by f.standing (Lie-under (Fits held) core (suc base) (map (shape plan j job (spot_in k outer (f ∷ below))) f.cells) (headed k (head (spot_in k outer below) f.standing) (activations plan j job k outer below) (words k (activations plan j job k outer below))) l)

    by : (o : Option ℕ) → cell_of_original (height below + head_words f.standing) f.cells a ≡ o → (array_under number below a ≡ Some n → StandsIn number base (height below) n) → StandsIn number base (height (f ∷ below)) n
    by None c r =
        let s = r (ap (λ (o : Option ℕ). array_by number o (array_under number below a)) (sym c) ∙ e) in
        let low = s.below in
        record { disp = s.disp; name = s.name; at = s.at; below = omega (arith, low) }
    by (Some d) c r =
        let is : named number d ≡ n = same_Some (named number d) n (ap (λ (o : Option ℕ). array_by number o (array_under number below a)) (sym c) ∙ e) in
        let rest = headed k (head (spot_in k outer below) f.standing) (activations plan j job k outer below) (words k (activations plan j job k outer below)) in
        let s = cell_home (spot_in k outer (f ∷ below)) (suc base) (height below + head_words f.standing) f.cells rest d l c in
        let long = headed-length k (head (spot_in k outer below) f.standing) (activations plan j job k outer below) (words k (activations plan j job k outer below)) in
        let all = words-length k (activations plan j job k outer below) in
        let high = height-is plan j job k outer below in
        let head = head_same (spot_in k outer below) f.standing in
        let at = s.at in
        let up = s.below in
        record { disp = d; name = sym is; at = omega (arith, at, long, all, high, head); below = omega (arith, up) }

  pub under_there : (number : ℕ) (fs : List Frame) (g : Frame) → Has fs g → Has g.cells (Original a) → (n : ℕ) × (array_under number fs a ≡ Some n)
  under_there number [] g h w = absurd h
  under_there number (f ∷ below) g h w = by (cell_of_original (height below + head_words f.standing) f.cells a) refl h (λ z. under_there number below g z w) where
    by : (o : Option ℕ) → cell_of_original (height below + head_words f.standing) f.cells a ≡ o → Has (f ∷ below) g → (Has below g → (n : ℕ) × (array_under number below a ≡ Some n)) → (n : ℕ) × (array_under number (f ∷ below) a ≡ Some n)
    by (Some d) c k r = (named number d, ap (λ (o : Option ℕ). array_by number o (array_under number below a)) c)
    by None c (inl e) r =
        let t = cell_there (height below + head_words f.standing) f.cells (subst (λ (x : Frame). Has x.cells (Original a)) (sym e) w) in
        absurd (none-some t.0 (sym c ∙ t.1))
    by None c (inr k) r = let q = r k in (q.0, ap (λ (o : Option ℕ). array_by number o (array_under number below a)) c ∙ q.1)

  -- ---- the tasks of a job

  pub record StandsAmong (tasks : List Task) : Type 0 where
    pub task : Task
    pub live : Has tasks task
    pub disp : ℕ
    pub name : array_among tasks a ≡ named task.number disp
    pub at : plan.home j a ≡ plan.stacks + slot_of plan j task.number * plan.size + disp
    pub below : disp < height task.frames

  pub tasks_home : (tasks : List Task)
      → ((u : Task) → Has tasks u → LieDownward (Fits held) core (suc (plan.stacks + slot_of plan j u.number * plan.size)) (words (slot_of plan j u.number) (stack_of_task plan j job (slot_of plan j u.number) u)))
      → (v : Task) → Has tasks v → (n : ℕ) → array_under v.number v.frames a ≡ Some n → StandsAmong tasks
  tasks_home [] lies v there n e = absurd there
  tasks_home (u ∷ more) lies v there n e = by (array_under u.number u.frames a) refl there (λ h. tasks_home more (λ w i. lies w (inr i)) v h n e) where
    by : (o : Option ℕ) → array_under u.number u.frames a ≡ o → Has (u ∷ more) v → (Has more v → StandsAmong more) → StandsAmong (u ∷ more)
    by (Some k) c h r =
        let s = frames_home (slot_of plan j u.number) (plan.stacks + slot_of plan j u.number * plan.size) u.number (outer_spots plan j job u.critical u.parents) u.frames k (lies u (inl refl)) c in
        record { task = u; live = inl refl; disp = s.disp; name = ap (λ (o : Option ℕ). or_else o (array_among more a)) c ∙ s.name; at = s.at; below = s.below }
    by None c (inl same) r = absurd (none-some n (sym c ∙ subst (λ (w : Task). array_under w.number w.frames a ≡ Some n) (sym same) e))
    by None c (inr h) r =
        let s = r h in
        record { task = s.task; live = inr s.live; disp = s.disp; name = ap (λ (o : Option ℕ). or_else o (array_among more a)) c ∙ s.name; at = s.at; below = s.below }

-- ---- a name from an address

pub at_slot : (r : Regs) (rs : List rows.TaskRow) (row : JobRow) (home k disp number : ℕ) → home ≡ r.stacks + k * r.stack_size + disp → disp < r.stack_size → number_seen rs k ≡ number → array_homed r rs row home ≡ named number disp
at_slot r rs row home k disp number at below is =
    let rest : home - r.stacks ≡ k * r.stack_size + disp = omega (arith, at) in
    let slot : (home - r.stacks) / r.stack_size ≡ k = ap (λ n. n / r.stack_size) rest ∙ digits_div k below in
    let left : (home - r.stacks) % r.stack_size ≡ disp = ap (λ n. n % r.stack_size) rest ∙ digits_mod k below in
    ap (λ (b : Bool). if b then home - (row.dictionary + 1 + row.segments) else named (number_seen rs ((home - r.stacks) / r.stack_size)) ((home - r.stacks) % r.stack_size)) (le-ltb home r.stacks (omega (arith, at)))
    ∙ ap (λ q. named (number_seen rs q) ((home - r.stacks) % r.stack_size)) slot ∙ ap (λ d. named (number_seen rs k) d) left ∙ ap (λ n. named n disp) is

pub at_dictionary : (r : Regs) (rs : List rows.TaskRow) (row : JobRow) (home n : ℕ) → home ≡ row.dictionary + 1 + row.segments + n → home < r.stacks → array_homed r rs row home ≡ n
at_dictionary r rs row home n at below = grind arith

-- ---- an array of a dictionary

pub cell_none : (low : ℕ) (cells : List Word) (a : ℕ) → how_many (is_original_of a) cells ≡ 0 → cell_of_original low cells a ≡ None
cell_none low [] a h = refl
cell_none low (w ∷ more) a h = grind (arith, cell_none low more a)

pub under_none : (number : ℕ) (fs : List Frame) (a : ℕ) → originals_in a fs ≡ 0 → array_under number fs a ≡ None
under_none number [] a h = refl
under_none number (f ∷ below) a h = grind (arith, cell_none, under_none number below a)

pub among_none : (tasks : List Task) (a : ℕ) → total (λ (t : Task). originals_in a t.frames) tasks ≡ 0 → array_among tasks a ≡ a
among_none [] a h = refl
among_none (u ∷ more) a h = ap (λ (o : Option ℕ). or_else o (array_among more a)) (under_none u.number u.frames a (omega (arith, h))) ∙ among_none more a (omega (arith, h))

pub dictionary_under : (plan : Placement) (at : ℕ) (ms : List SessionJob) (y : SessionJob) → DictionariesFollow plan at ms → Has ms y → plan.dictionary y.constants.number + 2 + length y.constants.dictionary.cells ≤ plan.stacks
dictionary_under plan at [] y d h = absurd h
dictionary_under plan at (m ∷ more) y d (inl e) = grind (arith, follow-up)
dictionary_under plan at (m ∷ more) y d (inr k) = dictionary_under plan (at + (2 + length m.constants.dictionary.cells)) more y d.1 k
