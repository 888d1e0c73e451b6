-- No two arrays have their originals at one address.
use Rattle.std.proofs.Common.{◌≡◌, ◌≢◌, ℕ, suc, ◌+◌, ◌<◌, ◌≤◌, List, [], ◌∷◌, ◌++◌, map, length, sym, ◌∙◌, ap, arith, inl, inr, ◌⊎◌, ⊎_elim, subst}
use Rattle.std.proofs.lemmas.Bool.{cases_eq, cases_lt}
use Rattle.std.proofs.lemmas.List.{length-reverse}
use Rattle.std.proofs.lemmas.Option.{same_Some}
use Rattle.b67_word.specs.Tagged.{Tagged}
use Rattle.b67_ctl.specs.declared.registers.Regs.{Regs}
use Rattle.b67_lemmas.specs.Lists.{Has}
use Rattle.b67_lemmas.proofs.Members.{falls_same, has_append_left, has_map, has_reverse, keyed_falls}
use Rattle.b67_model.specs.Keyed.{keyed}
use Rattle.b67_model.specs.Common.{Word, Original, Frame, Array, Task, Job, SessionJob, number_of, Session, IsSegment}
use Rattle.b67_layout.specs.Common.{JobInOrderButCounts, IsInOrderButCounts, Slotted, Placement, slot_of, spot_in, outer_spots, shape, head, activations, stack_of_task, slot_at, machine_view, DictionariesFollow, PlanFits}
use Rattle.b67_stack.specs.Shapes as Shapes
use Rattle.b67_stack.specs.Common.{Shape, Fits, LieDownward, StackPlace, Head, Activation, stack_words, headed, words, MachineView, Slot, stack_of, slot_base, SlotFits, Storage, Represents}
use Rattle.b67_stack.proofs.Bases.{base-apart}
use Rattle.b67_stack.proofs.Heights.{words-length}
use Rattle.b67_stack.proofs.Lies.{Lie-under}
use Rattle.b67_layout.proofs.Common.{job_in_order, task_row, slot_below, dictionary_above, follow-up, lies_at, lies_over, original_word, InFrame, original_of, entry_number, stack_in_slot}
use Rattle.b67_law.proofs.Numbered.{keyed_member}

-- two words of one address are one word
module _ (x : Storage) (core : List Tagged) (plan : Placement) (j : ℕ) (job : Job) (k from : ℕ) (outer : ℕ → StackPlace) where
  head_tail : (spot : ℕ → StackPlace) (rest : List Shape) (w : Word) (ws : List Word) (a b : ℕ) → LieDownward (Fits x.held) core from (map (shape plan j job spot) (w ∷ ws) ++ rest) → w ≡ Original a → Has ws (Original b) → plan.home j a ≡ plan.home j b → ⊥
  head_tail spot rest w ws a b l wa hb e =
      let under = map (shape plan j job spot) ws ++ rest in
      let there : Fits x.held (Shapes.Original (plan.home j a)) (from + length under) l.0.0 = subst (λ (z : Word). Fits x.held (shape plan j job spot z) (from + length under) l.0.0) wa l.0.2 in
      let low = lies_at (Fits x.held) core from under (Shapes.Original (plan.home j b)) l.1 (has_append_left (map (shape plan j job spot) ws) rest (Shapes.Original (plan.home j b)) (has_map (shape plan j job spot) ws (Original b) hb)) in
      omega (arith, there.0, low.up, low.fits.0, e)

  cells_one : (spot : ℕ → StackPlace) (rest : List Shape) (ws : List Word) (a b : ℕ) → LieDownward (Fits x.held) core from (map (shape plan j job spot) ws ++ rest) → Has ws (Original a) → Has ws (Original b) → plan.home j a ≡ plan.home j b → a ≡ b
  cells_one spot rest [] a b l ha hb e = absurd ha
  cells_one spot rest (w ∷ ws) a b l (inl wa) (inl wb) e = let z : Original a ≡ Original b = sym wa ∙ wb in let same : a ≡ b = cc in same
  cells_one spot rest (w ∷ ws) a b l (inl wa) (inr hb) e = absurd (head_tail spot rest w ws a b l wa hb e)
  cells_one spot rest (w ∷ ws) a b l (inr ha) (inl wb) e = absurd (head_tail spot rest w ws b a l wb ha (sym e))
  cells_one spot rest (w ∷ ws) a b l (inr ha) (inr hb) e = cells_one spot rest ws a b l.1 ha hb e

  lie_head : (h : Head) (below : List Activation) (under : List Shape) → LieDownward (Fits x.held) core from (headed k h below under) → LieDownward (Fits x.held) core from under
  lie_head h below under l = grind arith

  head_length : (h : Head) (below : List Activation) (under : List Shape) → 1 + length under ≤ length (headed k h below under)
  head_length h below under = grind arith

  -- one in the frame on top, one below
  over_under : (f g : Frame) (below : List Frame) (a b : ℕ) → LieDownward (Fits x.held) core from (words k (activations plan j job k outer (f ∷ below))) → Has f.cells (Original a) → Has below g → Has g.cells (Original b) → plan.home j a ≡ plan.home j b → ⊥
  over_under f g below a b l ha hg hb e =
      let bs = activations plan j job k outer below in
      let fh : Head = head (spot_in k outer below) f.standing in
      let shapes = map (shape plan j job (spot_in k outer (f ∷ below))) f.cells in
      let rest = headed k fh bs (words k bs) in
      let up = lies_over (Fits x.held) core from shapes rest (Shapes.Original (plan.home j a)) l (has_map (shape plan j job (spot_in k outer (f ∷ below))) f.cells (Original a) ha) in
      let under = lie_head fh bs (words k bs) (Lie-under (Fits x.held) core from shapes rest l) in
      let low = lies_at (Fits x.held) core from (words k bs) (Shapes.Original (plan.home j b)) under (original_word plan j job k outer below g b hg hb) in
      omega (arith, up.low, up.fits.0, low.up, low.fits.0, e, head_length fh bs (words k bs))

  pub frames_one : (fs : List Frame) (f g : Frame) (a b : ℕ) → LieDownward (Fits x.held) core from (words k (activations plan j job k outer fs)) → Has fs f → Has f.cells (Original a) → Has fs g → Has g.cells (Original b) → plan.home j a ≡ plan.home j b → a ≡ b
  frames_one [] f g a b l hf ha hg hb e = absurd hf
  frames_one (y ∷ below) f g a b l (inl yf) ha (inl yg) hb e =
      cells_one (spot_in k outer (y ∷ below)) (let bs = activations plan j job k outer below in headed k (head (spot_in k outer below) y.standing) bs (words k bs)) y.cells a b l (subst (λ (z : Frame). Has z.cells (Original a)) (sym yf) ha) (subst (λ (z : Frame). Has z.cells (Original b)) (sym yg) hb) e
  frames_one (y ∷ below) f g a b l (inl yf) ha (inr hg) hb e = absurd (over_under y g below a b l (subst (λ (z : Frame). Has z.cells (Original a)) (sym yf) ha) hg hb e)
  frames_one (y ∷ below) f g a b l (inr hf) ha (inl yg) hb e = absurd (over_under y f below b a l (subst (λ (z : Frame). Has z.cells (Original b)) (sym yg) hb) hf ha (sym e))
  frames_one (y ∷ below) f g a b l (inr hf) ha (inr hg) hb e = grind (arith, lie_head, Lie-under, frames_one below f g a b)

abbrev dictionary_top : Placement → SessionJob → ℕ
dictionary_top plan y = plan.dictionary y.constants.number + (2 + length y.constants.dictionary.cells)

dictionary_under : (plan : Placement) (at : ℕ) (ms : List SessionJob) (y : SessionJob) → DictionariesFollow plan at ms → Has ms y → dictionary_top plan y ≤ plan.stacks
dictionary_under plan at [] y d h = absurd h
dictionary_under plan at (m ∷ more) y d (inl e) = grind (arith, follow-up)
dictionary_under plan at (m ∷ more) y d (inr h) = dictionary_under plan (at + (2 + length m.constants.dictionary.cells)) more y d.1 h

dictionaries_apart : (plan : Placement) (at : ℕ) (ms : List SessionJob) (y z : SessionJob) → DictionariesFollow plan at ms → Has ms y → Has ms z → (y ≡ z) ⊎ ((dictionary_top plan y ≤ plan.dictionary z.constants.number) ⊎ (dictionary_top plan z ≤ plan.dictionary y.constants.number))
dictionaries_apart plan at [] y z d hy hz = absurd hy
dictionaries_apart plan at (m ∷ more) y z d (inl ey) (inl ez) = inl (sym ey ∙ ez)
dictionaries_apart plan at (m ∷ more) y z d (inl ey) (inr hz) = grind (arith, dictionary_above)
dictionaries_apart plan at (m ∷ more) y z d (inr hy) (inl ez) = grind (arith, dictionary_above)
dictionaries_apart plan at (m ∷ more) y z d (inr hy) (inr hz) = dictionaries_apart plan (at + (2 + length m.constants.dictionary.cells)) more y z d.1 hy hz

module _ (x : Storage) (core : List Tagged) (r : Regs) (plan : Placement) (s : Session) (o : IsInOrderButCounts s) (fits : PlanFits plan s) (memory : Represents x core r (machine_view plan s.jobs)) where
  abbrev base : ℕ → ℕ
  base k = slot_base (machine_view plan s.jobs) k

  order_of : (y : SessionJob) → Has s.jobs y → JobInOrderButCounts (IsSegment y.constants) y.constants y.progress
  order_of y h = job_in_order s y o h

  room : (p : MachineView) (k : ℕ) (q : Slot) → SlotFits p k q → 0 < p.size → stack_words (stack_of q) < p.size
  room p k q f some = grind arith

  -- an original in a dictionary
  record InDictionary (y : SessionJob) (b : ℕ) : Type 0 where
    low : plan.dictionary y.constants.number ≤ plan.home y.constants.number b
    high : plan.home y.constants.number b < dictionary_top plan y
    is : plan.home y.constants.number b ≡ plan.dictionary y.constants.number + 1 + length y.constants.segments + b

  in_dictionary : (y : SessionJob) (b : ℕ) → Has s.jobs y → Has y.constants.dictionary.cells (Original b) → InDictionary y b
  in_dictionary y b h d = grind (arith, entry_number, order_of, has_reverse, length-reverse)

  -- the words of a live task on its slot
  task_lies : (y : SessionJob) (u : Task) → Has s.jobs y → Has y.progress.job.tasks u → let k = slot_of plan y.constants.number u.number in
      LieDownward (Fits x.held) core (suc (base k)) (words k (stack_of_task plan y.constants.number y.progress.job k u)) × (stack_words (stack_of_task plan y.constants.number y.progress.job k u) < plan.size)
  task_lies y u h i =
      let k = slot_of plan y.constants.number u.number in
      let ky = keyed_member 1 s.jobs y o.numbered h in
      let ku = keyed_falls (λ (v : Task). v.number) y.progress.job.next_task y.progress.job.tasks u (order_of y h).tasks.numbers i in
      let small = slot_below plan s.jobs y u fits.rows h i in
      let is = stack_in_slot plan s.jobs y u fits.rows h i ky ku in
      let size = fits.sizes y h in
      let low = (order_of y h).unchanging.stack_low in (
        subst (λ (st : List Activation). LieDownward (Fits x.held) core (suc (base k)) (words k st)) is (memory.stacks k small),
        subst (λ (st : List Activation). stack_words st < plan.size) is (room (machine_view plan s.jobs) k (slot_at plan s.jobs k) (memory.slots.laid.slots k small) (omega (arith, size, low))),
      )

  in_slot : (y : SessionJob) (b : Array) (q : InFrame y.progress.job b) → Has s.jobs y → let k = slot_of plan y.constants.number q.task.number in
      (base k < plan.home y.constants.number b.identity) × (plan.home y.constants.number b.identity < base k + plan.size)
  in_slot y b q h =
      let j = y.constants.number in
      let k = slot_of plan j q.task.number in
      let st = stack_of_task plan j y.progress.job k q.task in
      let l = task_lies y q.task h q.live in
      let a = lies_at (Fits x.held) core (suc (base k)) (words k st) (Shapes.Original (plan.home j b.identity)) l.0 (original_word plan j y.progress.job k (outer_spots plan j y.progress.job q.task.critical q.task.parents) q.task.frames q.frame b.identity q.among q.word) in
      (omega (arith, a.low, a.fits.0), omega (arith, a.up, a.fits.0, words-length k st, l.1))

  -- the slot tells the task
  same_slot : (y z : SessionJob) (u v : Task) → Has s.jobs y → Has s.jobs z → Has y.progress.job.tasks u → Has z.progress.job.tasks v → slot_of plan y.constants.number u.number ≡ slot_of plan z.constants.number v.number → (y ≡ z) × (u.number ≡ v.number)
  same_slot y z u v hy hz hu hv e =
      let a = task_row plan s.jobs y u fits.rows hy hu in
      let b = task_row plan s.jobs z v fits.rows hz hv in
      let same = fits.rows.differ a.row b.row a.among b.among (sym a.slot ∙ e ∙ b.slot) in
      let number : y.constants.number ≡ z.constants.number = sym a.job ∙ ap (λ (w : Slotted). w.job) same ∙ b.job in
      let there = keyed_member 1 s.jobs y o.numbered hy in
      let again = keyed_member 1 s.jobs z o.numbered hz in
      (same_Some y z (sym there ∙ ap (λ (n : ℕ). keyed number_of n s.jobs) number ∙ again), sym a.number ∙ ap (λ (w : Slotted). w.task) same ∙ b.number)

  in_one_task : (y : SessionJob) (b c : Array) (q : InFrame y.progress.job b) (w : InFrame y.progress.job c) → Has s.jobs y → q.task.number ≡ w.task.number → plan.home y.constants.number b.identity ≡ plan.home y.constants.number c.identity → b.identity ≡ c.identity
  in_one_task y b c q w h n e =
      let j = y.constants.number in
      let k = slot_of plan j q.task.number in
      let same : w.task ≡ q.task = falls_same (λ (t : Task). t.number) y.progress.job.next_task y.progress.job.tasks w.task q.task (order_of y h).tasks.numbers w.live q.live (sym n) in
      frames_one x core plan j y.progress.job k (suc (base k)) (outer_spots plan j y.progress.job q.task.critical q.task.parents) q.task.frames q.frame w.frame b.identity c.identity (task_lies y q.task h q.live).0
      q.among q.word (subst (λ (t : Task). Has t.frames w.frame) same w.among) w.word e

  in_frames : (y z : SessionJob) (b c : Array) (q : InFrame y.progress.job b) (w : InFrame z.progress.job c) → Has s.jobs y → Has s.jobs z → plan.home y.constants.number b.identity ≡ plan.home z.constants.number c.identity → (y ≡ z) × (b.identity ≡ c.identity)
  in_frames y z b c q w hy hz e =
      let k = slot_of plan y.constants.number q.task.number in
      let l = slot_of plan z.constants.number w.task.number in
      let a = in_slot y b q hy in
      let d = in_slot z c w hz in
      by (cases_eq k l) where
        by : (slot_of plan y.constants.number q.task.number ≡ slot_of plan z.constants.number w.task.number) ⊎ (slot_of plan y.constants.number q.task.number ≡ slot_of plan z.constants.number w.task.number → ⊥) → (y ≡ z) × (b.identity ≡ c.identity)
        by (inl is) =
            let same = same_slot y z q.task w.task hy hz q.live w.live is in
            let P : SessionJob → Type 0 = λ v. (w : InFrame v.progress.job c) → q.task.number ≡ w.task.number → plan.home y.constants.number b.identity ≡ plan.home v.constants.number c.identity → b.identity ≡ c.identity in
            (same.0, subst P same.0 (λ v n f. in_one_task y b c q v hy n f) w same.1 e)
        by (inr ne) =
            let k = slot_of plan y.constants.number q.task.number in
            let l = slot_of plan z.constants.number w.task.number in
            let a = in_slot y b q hy in
            let d = in_slot z c w hz in
            absurd (⊎_elim
            (λ up. omega (arith, base-apart (machine_view plan s.jobs) k l up, a, d, e))
            (λ down. omega (arith, base-apart (machine_view plan s.jobs) l k (omega (arith, down, ne)), a, d, e))
            (cases_lt k l))

  apart_from_slots : (y z : SessionJob) (b c : Array) → InDictionary y b.identity → (w : InFrame z.progress.job c) → Has s.jobs y → Has s.jobs z → plan.home y.constants.number b.identity ≢ plan.home z.constants.number c.identity
  apart_from_slots y z b c d w hy hz e =
      let i = in_slot z c w hz in
      let under = dictionary_under plan 160 s.jobs y fits.dictionaries hy in
      omega (arith, d.high, under, i.0, e)

  in_dictionaries : (y z : SessionJob) (b c : ℕ) → InDictionary y b → InDictionary z c → Has s.jobs y → Has s.jobs z → plan.home y.constants.number b ≡ plan.home z.constants.number c → (y ≡ z) × (b ≡ c)
  in_dictionaries y z b c d f hy hz e = grind (arith, dictionaries_apart)

  -- the address tells the array
  pub one_home : (y z : SessionJob) (b c : Array) → Has s.jobs y → Has s.jobs z → Has y.progress.job.arrays b → Has z.progress.job.arrays c → plan.home y.constants.number b.identity ≡ plan.home z.constants.number c.identity → (y ≡ z) × (b.identity ≡ c.identity)
  one_home y z b c hy hz hb hc e = by (original_of y.constants y.progress.job (order_of y hy).tasks b hb) (original_of z.constants z.progress.job (order_of z hz).tasks c hc) where
    by : (Has y.constants.dictionary.cells (Original b.identity) ⊎ InFrame y.progress.job b) → (Has z.constants.dictionary.cells (Original c.identity) ⊎ InFrame z.progress.job c) → (y ≡ z) × (b.identity ≡ c.identity)
    by (inl d) (inl f) = in_dictionaries y z b.identity c.identity (in_dictionary y b.identity hy d) (in_dictionary z c.identity hz f) hy hz e
    by (inl d) (inr w) = absurd (apart_from_slots y z b c (in_dictionary y b.identity hy d) w hy hz e)
    by (inr q) (inl f) = absurd (apart_from_slots z y c b (in_dictionary z c.identity hz f) q hz hy (sym e))
    by (inr q) (inr w) = in_frames y z b c q w hy hz e
