-- Where copies lie: each copy on a task's stack is in the span of its array.
use Rattle.std.proofs.Common.{◌≡◌, ◌≢◌, ℕ, suc, ◌+◌, ◌<◌, ◌≤◌, true, false, List, [], ◌∷◌, ◌++◌, map, length, reverse, Option, Some, refl, sym, ◌∙◌, ap, arith, length-append, inl, inr, ◌⊎◌, ⊎_elim, subst}
use Rattle.std.specs.List.{list_any, AllByRecursion}
use Rattle.std.proofs.lemmas.Bool.{cases_eq, cases_lt, eq-eqb}
use Rattle.std.proofs.lemmas.List.{length-reverse}
use Rattle.b67_word.specs.Tagged.{Tagged}
use Rattle.b67_ctl.specs.declared.registers.Regs.{Regs}
use Rattle.b67_lemmas.specs.Lists.{Has, how_many}
use Rattle.b67_lemmas.proofs.Members.{any_some, falls_low, falls_same, has_append_cases, has_append_left, has_map, has_map_back, has_reverse, keyed_falls}
use Rattle.b67_model.specs.Words as Words
use Rattle.b67_model.specs.Common.{Word, Operand, Name, Ref, Row, Element, Original, Proc, Intrinsic, Frame, Task, Job, SessionJob, Session, IsSegment, Known, known_of, outer_of, identities, NamesArray, WordInOrder, CopiesAbove, NoCopyUnder, is_copy_of, FramesInOrder, TasksInOrder}
use Rattle.b67_law.proofs.Looks.{above_one}
use Rattle.b67_law.proofs.Numbered.{keyed_member}
use Rattle.b67_stack.specs.Shapes as Shapes
use Rattle.b67_stack.specs.Common.{Shape, Fits, LieDownward, StackPlace, Head, Activation, stack_words, headed, words, MachineView, stack_of, slot_base, Storage, Represents}
use Rattle.b67_stack.proofs.Bases.{base-apart}
use Rattle.b67_stack.proofs.Heights.{words-length}
use Rattle.b67_stack.proofs.Lies.{Lie-under}
use Rattle.b67_stack.proofs.Slots.{slot_room}
use Rattle.b67_layout.specs.Common.{JobInOrderButCounts, IsInOrderButCounts, Slotted, Placement, slot_of, spot_in, outer_spots, shape, head, activations, stack_of_task, slot_by, slot_at, machine_view, PlanFits, DictionariesFollow}
use Rattle.b67_layout.proofs.Common.{job_in_order, task_row, slot_below, follow-up, lies_at, original_word, InFrame, original_of, entry_number, stack_in_slot}
use Rattle.b67_overlay.specs.declared.spans.Span.{Span}
use Rattle.b67_overlay.specs.Spans.{Families, holds, span_of, up_from, whole_stack, InSpan, ShapeInSpan, CopiesInSpans}
use Rattle.b67_overlay.proofs.Families.{is_held, not_held_under, not_held_over, span_in_job, span_in_own, span_in_parent}
use Rattle.b67_layout_spans.proofs.Residents.{kin_of, families, kin_there, parents_fall, task_order, job_found, lives_or}
use Rattle.b67_law.proofs.Lines.{outer_owned, one_task, frame_is, frame_named}

dictionary_under : (plan : Placement) (at : ℕ) (ms : List SessionJob) (y : SessionJob) → DictionariesFollow plan at ms → Has ms y → plan.dictionary y.constants.number + (2 + length y.constants.dictionary.cells) ≤ plan.stacks
dictionary_under plan at [] y d h = absurd h
dictionary_under plan at (m ∷ more) y d (inl e) = grind (arith, follow-up)
dictionary_under plan at (m ∷ more) y d (inr h) = dictionary_under plan (at + (2 + length m.constants.dictionary.cells)) more y d.1 h

module _ (x : Storage) (core : List Tagged) (r : Regs) (plan : Placement) (s : Session) (o : IsInOrderButCounts s) (fits : PlanFits plan s) (memory : Represents x core r (machine_view plan s.jobs)) where
  abbrev p : MachineView
  p = machine_view plan s.jobs

  abbrev f : Families
  f = families plan s.jobs

  order_of : (y : SessionJob) → Has s.jobs y → JobInOrderButCounts (IsSegment y.constants) y.constants y.progress
  order_of y h = job_in_order s y o h

  -- the words of a live task on its slot
  record OnSlot (y : SessionJob) (u : Task) : Type 0 where
    used : slot_of plan y.constants.number u.number < plan.peak
    is : stack_of (slot_at plan s.jobs (slot_of plan y.constants.number u.number)) ≡ stack_of_task plan y.constants.number y.progress.job (slot_of plan y.constants.number u.number) u
    lies : LieDownward (Fits x.held) core (suc (slot_base p (slot_of plan y.constants.number u.number))) (words (slot_of plan y.constants.number u.number) (stack_of_task plan y.constants.number y.progress.job (slot_of plan y.constants.number u.number) u))
    room : stack_words (stack_of_task plan y.constants.number y.progress.job (slot_of plan y.constants.number u.number) u) < plan.size

  on_slot : (y : SessionJob) (u : Task) → Has s.jobs y → Has y.progress.job.tasks u → OnSlot y u
  on_slot y u h i =
      let k = slot_of plan y.constants.number u.number in
      let ky = keyed_member 1 s.jobs y o.numbered h in
      let ku = keyed_falls (λ (v : Task). v.number) y.progress.job.next_task y.progress.job.tasks u (order_of y h).tasks.numbers i in
      let small = slot_below plan s.jobs y u fits.rows h i in
      let is = stack_in_slot plan s.jobs y u fits.rows h i ky ku in
      record {
        used = small;
        is = is;
        lies = subst (λ (st : List Activation). LieDownward (Fits x.held) core (suc (slot_base p k)) (words k st)) is (memory.stacks k small);
        room = subst (λ (st : List Activation). stack_words st < plan.size) is (slot_room p k (slot_at plan s.jobs k) (memory.slots.laid.slots k small) (omega (arith, fits.sizes y h, (order_of y h).unchanging.stack_low)));
      }

  -- an original in a frame lies in its task's slot
  home_held : (y : SessionJob) (u : Task) (g : Frame) (a : ℕ) → Has s.jobs y → Has y.progress.job.tasks u → Has u.frames g → Has g.cells (Original a) → let k = slot_of plan y.constants.number u.number in
      (slot_base p k < plan.home y.constants.number a) × (plan.home y.constants.number a < slot_base p k + plan.size)
  home_held y u g a h i hg ha =
      let j = y.constants.number in
      let k = slot_of plan j u.number in
      let st = stack_of_task plan j y.progress.job k u in
      let l = on_slot y u h i in
      let at = lies_at (Fits x.held) core (suc (slot_base p k)) (words k st) (Shapes.Original (plan.home j a)) l.lies (original_word plan j y.progress.job k (outer_spots plan j y.progress.job u.critical u.parents) u.frames g a hg ha) in
      (omega (arith, at.low, at.fits.0), omega (arith, at.up, at.fits.0, words-length k st, l.room))

  module _ (m : SessionJob) (t : Task) (hm : Has s.jobs m) (ht : Has m.progress.job.tasks t) where
    abbrev j : ℕ
    j = m.constants.number

    abbrev k : ℕ
    k = slot_of plan m.constants.number t.number

    abbrev job : Job
    job = m.progress.job

    abbrev outer : ℕ → StackPlace
    outer = outer_spots plan m.constants.number m.progress.job t.critical t.parents

    abbrev from : ℕ
    from = suc (slot_base p (slot_of plan m.constants.number t.number))

    tasks : TasksInOrder (IsSegment m.constants) m.constants m.progress.job
    tasks = (order_of m hm).tasks

    in_place : f.kin k ≡ Some (kin_of plan j t)
    in_place = kin_there plan s o fits m t hm ht

    -- the span of an array whose original is in the dictionary
    in_dictionary : (a : ℕ) → Has m.constants.dictionary.cells (Original a) → span_of f p (plan.home j a) k ≡ Some (whole_stack p k)
    in_dictionary a d =
        let e = entry_number 1 m.constants.segments (reverse m.constants.dictionary.cells) a (order_of m hm).unchanging.dictionary (has_reverse m.constants.dictionary.cells (Original a) d) in
        let n : length (reverse m.constants.dictionary.cells) ≡ length m.constants.dictionary.cells = length-reverse m.constants.dictionary.cells in
        let is = fits.row_homes m hm a e.0 (omega (arith, e.1, n)) in
        let under = dictionary_under plan 160 s.jobs m fits.dictionaries hm in
        let same = job_found plan 160 0 (plan.home j a) s.jobs m fits.dictionaries o.numbered hm (omega (arith, is)) (omega (arith, is, e.1, n)) in
        rw in_place (span_in_job f p (plan.home j a) k (kin_of plan j t) (omega (arith, is, e.1, n, under)) same)

    -- of one whose original is in the task's own stack
    in_own : (g : Frame) (a : ℕ) → Has t.frames g → Has g.cells (Original a) → span_of f p (plan.home j a) k ≡ Some (up_from p k (plan.home j a + 1))
    in_own g a hg ha =
        let h = home_held m t g a hm ht hg ha in
        rw in_place (span_in_own f p (plan.home j a) k (kin_of plan j t) (omega (arith, h.0)) (is_held p (plan.home j a) k (omega (arith, h.0)) h.1))

    -- of one whose original is in the stack of a task above
    in_above : (u : Task) (g : Frame) (a : ℕ) → Has job.tasks u → Has t.parents u.number → Has u.frames g → Has g.cells (Original a) → span_of f p (plan.home j a) k ≡ Some (whole_stack p k)
    in_above u g a hu above hg ha =
        let l = slot_of plan j u.number in
        let h = home_held m u g a hm hu hg ha in
        let older = falls_low t.number t.parents u.number (parents_fall plan s o fits m hm t t.parents (task_order plan s o fits m hm t ht).birth) above in
        let one = task_row plan s.jobs m t fits.rows hm ht in
        let two = task_row plan s.jobs m u fits.rows hm hu in
        let apart : k ≢ l = λ e. (let same = fits.rows.differ one.row two.row one.among two.among (sym one.slot ∙ e ∙ two.slot) in let z : ⊥ = omega (arith, older, one.number, two.number, ap (λ (w : Slotted). w.task) same) in z) in
        let not_own : holds p (plan.home j a) k ≡ false = ⊎_elim
        (λ (up : k < l). not_held_over p (plan.home j a) k (omega (arith, base-apart p k l up, h.0)))
        (λ (down : l ≤ k). not_held_under p (plan.home j a) k (omega (arith, base-apart p l k (omega (arith, down, apart)), h.1)))
        (cases_lt k l) in
        let some : list_any (holds p (plan.home j a)) (map (slot_of plan j) t.parents) ≡ true =
        any_some (holds p (plan.home j a)) (map (slot_of plan j) t.parents) l (has_map (slot_of plan j) t.parents u.number above) (is_held p (plan.home j a) l (omega (arith, h.0)) h.1) in
        rw in_place (span_in_parent f p (plan.home j a) k (kin_of plan j t) (omega (arith, h.0)) not_own some)

    abbrev top : ℕ
    top = slot_base p k + stack_words (stack_of (p.slots k)) + 1

    -- a copy of a named array, of which the original lies under the copy if it is in one of these frames
    covered : (fs : List Frame) (a i : ℕ) → ((g : Frame) → Has fs g → Has t.frames g) → NamesArray job.arrays (map known_of fs ++ outer_of job t) a → from ≤ i → i < top
        → ((g : Frame) → Has fs g → Has g.cells (Original a) → plan.home j a < i) → InSpan (span_of f p (plan.home j a) k) i
    covered fs a i inside named low high under = by (original_of m.constants job tasks named.item named.live) where
      cells_of : (z : Frame) (b : ℕ) → Has z.cells (Original named.item.identity) → Has z.cells (Original a)
      cells_of z b h = subst (λ (n : ℕ). Has z.cells (Original n)) named.named h

      owned : (q : InFrame job named.item) → InSpan (span_of f p (plan.home j a) k) i
      owned q =
          let word : Has q.frame.cells (Original a) = subst (λ (n : ℕ). Has q.frame.cells (Original n)) named.named q.word in
          let mine : Has (identities q.task.frames) q.frame.identity = frame_named q.task.frames q.frame q.among in
          elim (has_append_cases (map known_of fs) (outer_of job t) (named.item.owner, named.owner.standing) named.owner.among) [
            | inl h ↦
                let b = has_map_back known_of fs (named.item.owner, named.owner.standing) h in
                let is : b.item.identity ≡ q.frame.identity = ap (λ (n : Known). n.0) b.is ∙ q.owned in
                let theirs : Has (identities t.frames) q.frame.identity = subst (Has (identities t.frames)) is (frame_named t.frames b.item (inside b.item b.among)) in
                let number : t.number ≡ q.task.number = ⊎_elim (λ (e : t.number ≡ q.task.number). e) (λ (ne : t.number ≡ q.task.number → ⊥). absurd (one_task (IsSegment m.constants) m.constants job tasks t q.task ht q.live q.frame.identity theirs mine ne)) (cases_eq t.number q.task.number) in
                let same : q.task ≡ t = falls_same (λ (v : Task). v.number) job.next_task job.tasks q.task t tasks.numbers q.live ht (sym number) in
                let among : Has t.frames q.frame = subst (λ (v : Task). Has v.frames q.frame) same q.among in
                let frame : b.item ≡ q.frame = frame_is (IsSegment m.constants) m.constants job tasks t ht b.item q.frame (inside b.item b.among) among is in
                let home = under q.frame (subst (Has fs) frame b.among) word in
                rw (in_own q.frame a among word) (omega (arith, home), high)
            | inr h ↦ elim (outer_owned job t.critical t.parents named.item.owner named.owner.standing h) [
              | inl small ↦ absurd (omega (arith, small, q.owned, above_one (IsSegment m.constants) m.constants job tasks q.task q.live q.frame q.among))
              | inr (u, hu, above, among) ↦
                  let theirs : Has (identities u.frames) q.frame.identity = subst (Has (identities u.frames)) q.owned among in
                  let number : u.number ≡ q.task.number = ⊎_elim (λ (e : u.number ≡ q.task.number). e) (λ (ne : u.number ≡ q.task.number → ⊥). absurd (one_task (IsSegment m.constants) m.constants job tasks u q.task hu q.live q.frame.identity theirs mine ne)) (cases_eq u.number q.task.number) in
                  rw (in_above q.task q.frame a q.live (subst (Has t.parents) number above) q.among word) (omega (arith, low), high)
            ]
          ]

      by : (Has m.constants.dictionary.cells (Original named.item.identity) ⊎ InFrame job named.item) → InSpan (span_of f p (plan.home j a) k) i
      by (inl d) = rw (in_dictionary a (subst (λ (n : ℕ). Has m.constants.dictionary.cells (Original n)) named.named d)) (omega (arith, low), high)
      by (inr q) = owned q

    abbrev span : ℕ → Option Span
    span = λ home. span_of f p home k

    -- an original of the frame is among the words that are left, or no copy of its array is
    abbrev Under : Frame → List Word → Type 0
    Under e ws = (a : ℕ) → Has e.cells (Original a) → Has ws (Original a) ⊎ (how_many (is_copy_of a) ws ≡ 0)

    under_next : (e : Frame) (w : Word) (ws : List Word) → NoCopyUnder w ws → Under e (w ∷ ws) → Under e ws
    under_next e w ws above under a h = by (under a h) where
      by : Has (w ∷ ws) (Original a) ⊎ (how_many (is_copy_of a) (w ∷ ws) ≡ 0) → Has ws (Original a) ⊎ (how_many (is_copy_of a) ws ≡ 0)
      by (inl (inl is)) = inr (let z : NoCopyUnder (Original a) ws = subst (λ (v : Word). NoCopyUnder v ws) is above in z)
      by (inl (inr there)) = inl there
      by (inr none) = inr (omega (arith, none))

    -- the words of one frame over those of the frames below
    module _ (e : Frame) (below : List Frame) (inside : (g : Frame) → Has (e ∷ below) g → Has t.frames g) (rest : List Shape) (spot : ℕ → StackPlace)
        (lower : (g : Frame) (a : ℕ) → Has below g → Has g.cells (Original a) → plan.home j a < from + length rest) where
      abbrev shapes : List Word → List Shape
      shapes ws = map (shape plan j job spot) ws ++ rest

      copy_lies : (a : ℕ) (w : Word) (ws : List Word) → is_copy_of a w ≡ true → (w ≡ Original a → ⊥) → NamesArray job.arrays (map known_of (e ∷ below) ++ outer_of job t) a → Under e (w ∷ ws) → LieDownward (Fits x.held) core from (shapes ws)
          → from + length (shapes (w ∷ ws)) ≤ top → InSpan (span (plan.home j a)) (from + length (shapes ws))
      copy_lies a w ws copy no_original named under lies high = covered (e ∷ below) a (from + length (shapes ws)) inside named (omega arith) (omega (arith, high)) home where
        mine : Has (w ∷ ws) (Original a) ⊎ (how_many (is_copy_of a) (w ∷ ws) ≡ 0) → plan.home j a < from + length (shapes ws)
        mine (inl (inl is)) = absurd (no_original is)
        mine (inl (inr there)) =
            let at = lies_at (Fits x.held) core from (shapes ws) (Shapes.Original (plan.home j a)) lies (has_append_left (map (shape plan j job spot) ws) rest (Shapes.Original (plan.home j a)) (has_map (shape plan j job spot) ws (Original a) there)) in
            omega (arith, at.up, at.fits.0)
        mine (inr none) = let here : how_many (is_copy_of a) (w ∷ ws) ≡ 1 + how_many (is_copy_of a) ws = rw copy refl in absurd (omega (arith, none, here))

        home : (g : Frame) → Has (e ∷ below) g → Has g.cells (Original a) → plan.home j a < from + length (shapes ws)
        home g (inl is) ha = mine (under a (subst (λ (z : Frame). Has z.cells (Original a)) (sym is) ha))
        home g (inr h) ha = omega (arith, lower g a h ha, length-append (map (shape plan j job spot) ws) rest)

      word_lies : (w : Word) (ws : List Word) → WordInOrder (IsSegment m.constants) job.arrays (map known_of (e ∷ below) ++ outer_of job t) e.identity w → Under e (w ∷ ws) → LieDownward (Fits x.held) core from (shapes ws)
          → from + length (shapes (w ∷ ws)) ≤ top → ShapeInSpan span (shape plan j job spot w) (from + length (shapes ws))
      word_lies (Operand bits) ws g under lies high = tt
      word_lies (Name couple) ws g under lies high = tt
      word_lies (Ref identity offset) ws g under lies high = tt
      word_lies (Row a) ws g under lies high = copy_lies a (Row a) ws (eq-eqb a a refl) (λ z. let b : ⊥ = cc in b) g under lies high
      word_lies (Element a index) ws g under lies high = copy_lies a (Element a index) ws (eq-eqb a a refl) (λ z. let b : ⊥ = cc in b) g under lies high
      word_lies (Original a) ws g under lies high = tt
      word_lies (Proc segment level place) ws g under lies high = tt
      word_lies (Intrinsic number) ws g under lies high = tt
      word_lies (Words.Segment number) ws g under lies high = tt

      cells_lie : (ws : List Word) → AllByRecursion (WordInOrder (IsSegment m.constants) job.arrays (map known_of (e ∷ below) ++ outer_of job t) e.identity) ws → CopiesAbove ws → Under e ws
          → LieDownward (Fits x.held) core from (shapes ws) → from + length (shapes ws) ≤ top → CopiesInSpans span from rest → CopiesInSpans span from (shapes ws)
      cells_lie [] g above under lies high c = c
      cells_lie (w ∷ ws) g above under lies high c =
          (word_lies w ws g.0 under lies.1 high, cells_lie ws g.1 above.1 (under_next e w ws above.0 under) lies.1 (omega (arith, high)) c)

    lie_head : (h : Head) (under : List Activation) (shapes : List Shape) → LieDownward (Fits x.held) core from (headed k h under shapes) → LieDownward (Fits x.held) core from shapes
    lie_head h under e l = grind arith

    copies_head : (h : Head) (under : List Activation) (shapes : List Shape) → CopiesInSpans span from shapes → CopiesInSpans span from (headed k h under shapes)
    copies_head h under e c = grind arith

    head_length : (h : Head) (under : List Activation) (shapes : List Shape) → length shapes ≤ length (headed k h under shapes)
    head_length h under e = grind arith

    frames_lie : (fs : List Frame) → ((g : Frame) → Has fs g → Has t.frames g) → FramesInOrder (IsSegment m.constants) job.arrays (outer_of job t) fs → LieDownward (Fits x.held) core from (words k (activations plan j job k outer fs))
        → from + length (words k (activations plan j job k outer fs)) ≤ top → CopiesInSpans span from (words k (activations plan j job k outer fs))
    frames_lie [] inside g lies high = tt
    frames_lie (e ∷ below) inside g lies high =
        let bs : List Activation = activations plan j job k outer below in
        let fh : Head = head (spot_in k outer below) e.standing in
        let cells = map (shape plan j job (spot_in k outer (e ∷ below))) e.cells in
        let rest = headed k fh bs (words k bs) in
        let under = lie_head fh bs (words k bs) (Lie-under (Fits x.held) core from cells rest lies) in
        let long = head_length fh bs (words k bs) in
        let all = length-append cells rest in
        let down = frames_lie below (λ z h. inside z (inr h)) g.2 under (omega (arith, high, long, all)) in
        let lower : (z : Frame) (a : ℕ) → Has below z → Has z.cells (Original a) → plan.home j a < from + length rest = λ z a hz ha.
        let at = lies_at (Fits x.held) core from (words k bs) (Shapes.Original (plan.home j a)) under (original_word plan j job k outer below z a hz ha) in
        omega (arith, at.up, at.fits.0, long) in
        cells_lie e below inside rest (spot_in k outer (e ∷ below)) lower e.cells g.0.0 g.0.1 (λ a h. inl h) lies high (copies_head fh bs (words k bs) down)

    pub task_lies : CopiesInSpans span from (words k (stack_of (p.slots k)))
    task_lies =
        let l = on_slot m t hm ht in
        let st = stack_of_task plan j job k t in
        let high : from + length (words k st) ≤ top = omega (arith, words-length k st, ap (λ (z : List Activation). stack_words z) l.is) in
        subst (λ (z : List Activation). CopiesInSpans span from (words k z)) (sym l.is) (frames_lie t.frames (λ g h. h) (task_order plan s o fits m hm t ht).frames l.lies high)

  -- each copy on a stack is in the span of its array
  pub copies_lie : (k : ℕ) → CopiesInSpans (λ home. span_of f p home k) (suc (slot_base p k)) (words k (stack_of (p.slots k)))
  copies_lie k = elim (lives_or plan s.jobs k fits.rows) [
    | inl (m, t, hm, ht, is) ↦ subst (λ (n : ℕ). CopiesInSpans (λ home. span_of f p home n) (suc (slot_base p n)) (words n (stack_of (p.slots n)))) is (task_lies m t hm ht)
    | inr none ↦ subst (λ (z : Option Slotted). CopiesInSpans (λ home. span_of f p home k) (suc (slot_base p k)) (words k (stack_of (slot_by plan s.jobs k z)))) (sym none) tt
  ]
