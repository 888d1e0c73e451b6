-- The lowest slot in which no task lives, and the peak that a task more makes.
use Rattle.std.proofs.Common.{◌≡◌, ◌≢◌, ℕ, zero, suc, ◌+◌, ◌*◌, ◌^◌, ◌<◌, ◌≤◌, List, [], ◌∷◌, flat_map, length, Option, Some, None, refl, sym, ◌∙◌, ap, arith, inl, inr, ◌⊎◌, ⊎_elim, subst, true, false, ◌==◌}
use Rattle.std.specs.Prelude.{max}
use Rattle.std.specs.List.{slice_get, list_any}
use Rattle.std.proofs.lemmas.Bool.{cases_Bool, cases_eq, cases_lt, eq-eqb, eqb-true}
use Rattle.std.proofs.lemmas.Option.{same_Some}
use Rattle.b67_word.specs.Tagged.{Tagged, word}
use Rattle.b67_area.specs.declared.Areas.{Areas}
use Rattle.b67_ctl.specs.declared.registers.Regs.{Regs}
use Rattle.b67_lemmas.specs.Lists.{Has}
use Rattle.b67_lemmas.proofs.Members.{any_has, any_none, found-has, has_flat, has_flat_back, has_map, has_map_back}
use Rattle.b67_model.specs.Common.{Task, SessionJob, live_tasks, Session}
use Rattle.b67_model.specs.Keyed.{keyed}
use Rattle.b67_layout.specs.Common.{IsInOrderButCounts, Slotted, Placement, slot_of, slot_at, slot_by, machine_view, Differ, RowsFit, SessionHolds, RepresentsSession, vector_word, peak_with}
use Rattle.b67_stack.specs.declared.Cpu.{Cpu}
use Rattle.b67_stack.specs.Common.{Free, NoOriginalAboveTop, Storage, Represents}
use Rattle.b67_layout.proofs.Common.{task_row, jobs_differ, not_more, slots_of, slots_length}
use Rattle.b67_task.specs.Born.{with_peak}
use Rattle.b67_task.specs.Slots.{grown, raised, HasRoom}
use Rattle.b67_task.specs.Opening.{IsLowestFree, slot_end, HasSlot, SlotOpened}
use Rattle.b67_task.proofs.Wider.{RepresentsSession-wider}

-- the word of a slot in the stack vector has tag 0 only if no task lives in the slot
vector_tag : (plan : Placement) (j : ℕ) (parents : List ℕ) → (vector_word plan j parents).tag ≡ 3
vector_tag plan j parents = grind arith

abbrev pub IsTaken : List Tagged → ℕ → Type 0
IsTaken core i = (w : Tagged) × (slice_get core (32 + i) ≡ Some w) × (w.tag ≢ 0)

abbrev pub IsClear : List Tagged → ℕ → Type 0
IsClear core i = (w : Tagged) × (slice_get core (32 + i) ≡ Some w) × (w.tag ≡ 0)

-- a slot is that of a row or of none
row_or_none : (rows : List Slotted) (k : ℕ) → ((r : Slotted) × Has rows r × (r.slot ≡ k)) ⊎ ((r : Slotted) → Has rows r → r.slot ≢ k)
row_or_none rows k = ⊎_elim
    (λ (e : list_any (λ (r : Slotted). r.slot == k) rows ≡ true). inl (let (r, i, t) = any_has (λ (r : Slotted). r.slot == k) rows e in (r, i, eqb-true r.slot k t)))
    (λ (e : list_any (λ (r : Slotted). r.slot == k) rows ≡ false). inr (λ r i same. (let f : false ≡ true = sym (any_none (λ (r : Slotted). r.slot == k) rows r e i) ∙ eq-eqb r.slot k same in absurd (let z : ⊥ = cc in z))))
    (cases_Bool (list_any (λ (r : Slotted). r.slot == k) rows))

module _ (x : Storage) (core : List Tagged) (r : Regs) (marks : List ℕ) (plan : Placement) (s : Session) (h : SessionHolds x core r marks plan s) where
  pub few : (r.peak ≡ plan.peak) × (plan.peak ≤ 120) × (160 ≤ length core)
  few = (h.memory.slots.regs.peak, h.fits.few, omega (arith, h.memory.slots.laid.first, h.memory.slots.laid.low, h.memory.inside))

  -- slot 0 in the registers
  pub slots_start : (r.stacks ≡ plan.stacks) × (r.stack_size ≡ plan.size) × (plan.stacks ≤ length core) × (length core < 2 ^ 20)
  slots_start = (h.memory.slots.regs.stacks, h.memory.slots.regs.size, omega (arith, h.memory.slots.laid.low, h.memory.inside), h.memory.directory.small)

  -- a live task's word in the vector
  taken : (q : Slotted) → Has plan.rows q → IsTaken core q.slot
  taken q i =
      let (m, t, in_m, ej, in_t, et) = h.fits.rows.live q i in
      let w = task_row plan s.jobs m t h.fits.rows in_m in_t in
      let same : w.row ≡ q = h.fits.rows.tasks_differ w.row q w.among i (w.job ∙ ej) (w.number ∙ et) in
      let there = ap (λ (n : ℕ). slice_get core (32 + n)) (sym (w.slot ∙ ap (λ (z : Slotted). z.slot) same)) ∙ h.vector.live m t in_m in_t in
      (vector_word plan m.constants.number t.parents, there, λ e. omega (arith, e, vector_tag plan m.constants.number t.parents))

  pub lowest : (k : ℕ) → k ≤ plan.peak → ((i : ℕ) → i < k → IsTaken core i) → (k ≡ plan.peak) ⊎ IsClear core k → IsLowestFree plan k
  lowest k low below end = record {
    free = λ q i e. ⊎_elim
        (λ (z : k ≡ plan.peak). omega (arith, h.fits.rows.below q i, e, z))
        (λ (z : IsClear core k).
        let t = taken q i in
        let same : t.0 ≡ z.0 = same_Some t.0 z.0 (sym t.1 ∙ ap (λ (n : ℕ). slice_get core (32 + n)) e ∙ z.1) in
        t.2 (ap (λ (w : Tagged). w.tag) same ∙ z.2))
        end;
    lowest = λ i up. ⊎_elim
        (λ (q : (r : Slotted) × Has plan.rows r × (r.slot ≡ i)). q)
        (λ (none : (r : Slotted) → Has plan.rows r → r.slot ≢ i).
        let t = below i up in
        let z = h.vector.free i (omega (arith, up, low, h.fits.few)) none in
        let same : t.0 ≡ word 0 0 = same_Some t.0 (word 0 0) (sym t.1 ∙ z) in
        absurd (t.2 (ap (λ (w : Tagged). w.tag) same)))
        (row_or_none plan.rows i);
  }

pub end_is : (stacks size slot wide k : ℕ) (plan : Placement) → stacks ≡ plan.stacks → size ≡ plan.size → slot ≡ k → wide ≡ size → stacks + (slot + 1) * wide ≡ slot_end plan k
end_is stacks size slot wide k plan start width same is = grind arith

-- there is one lowest free slot
pub one_lowest : (plan : Placement) (a b : ℕ) → IsLowestFree plan a → IsLowestFree plan b → a ≡ b
one_lowest plan a b la lb = elim (cases_lt a b) [
  | inl low ↦ (let (r, i, e) = lb.lowest a low in absurd (la.free r i e))
  | inr high ↦ elim (cases_lt b a) [
    | inl low ↦ (let (r, i, e) = la.lowest b low in absurd (lb.free r i e))
    | inr same ↦ omega (arith, high, same)
  ]
]

-- the numbers below one
abbrev below : ℕ → List ℕ
below zero = []
below (suc n) = n ∷ below n

below_length : (n : ℕ) → length (below n) ≡ n
below_length zero = refl
below_length (suc n) = ap suc (below_length n)

below_low : (n i : ℕ) → Has (below n) i → i < n
below_low zero i h = absurd h
below_low (suc n) i (inl e) = omega (arith, e)
below_low (suc n) i (inr h) = omega (arith, below_low n i h)

below_has : (n i : ℕ) → i < n → Has (below n) i
below_has zero i low = absurd (omega (arith, low))
below_has (suc n) i low = ⊎_elim (λ (e : n ≡ i). inl e) (λ (ne : n ≡ i → ⊥). inr (below_has n i (omega (arith, low, ne)))) (cases_eq n i)

below_differ : (n : ℕ) → Differ (below n)
below_differ zero = tt
below_differ (suc n) = (λ h. omega (arith, below_low n n h), below_differ n)

module _ (plan : Placement) (s : Session) (o : IsInOrderButCounts s) (fit : RowsFit plan s.jobs) (same_peak : plan.peak ≡ s.peak) (k : ℕ) (l : IsLowestFree plan k) where
  abbrev live : List ℕ
  live = flat_map (slots_of plan) s.jobs

  live_row : (n : ℕ) → Has live n → (r : Slotted) × Has plan.rows r × (r.slot ≡ n)
  live_row n i =
      let y = has_flat_back (slots_of plan) s.jobs n i in
      let u = has_map_back (λ (v : Task). slot_of plan y.item.constants.number v.number) y.item.progress.job.tasks n y.inside in
      let w = task_row plan s.jobs y.item u.item fit y.among u.among in
      (w.row, w.among, sym w.slot ∙ u.is)

  row_live : (r : Slotted) → Has plan.rows r → Has live r.slot
  row_live r i =
      let (m, t, in_m, ej, in_t, et) = fit.live r i in
      let w = task_row plan s.jobs m t fit in_m in_t in
      let same : w.row ≡ r = fit.tasks_differ w.row r w.among i (w.job ∙ ej) (w.number ∙ et) in
      subst (Has live) (w.slot ∙ ap (λ (z : Slotted). z.slot) same) (has_flat (slots_of plan) s.jobs m (slot_of plan m.constants.number t.number) in_m (has_map (λ (v : Task). slot_of plan m.constants.number v.number) m.progress.job.tasks t in_t))

  -- as many tasks as that live
  pub lowest_low : k ≤ live_tasks s.jobs
  lowest_low =
      let n = not_more (below k) live (below_differ k) (λ i h. (let (r, ir, e) = l.lowest i (below_low k i h) in subst (Has live) e (row_live r ir))) in
      omega (arith, n, below_length k, slots_length plan s.jobs)

  pub not_past : k ≤ plan.peak
  not_past = grind arith

  room_for_one : k < plan.peak → live_tasks s.jobs + 1 ≤ plan.peak
  room_for_one low =
      let n = not_more (k ∷ live) (below plan.peak) ((λ (h : Has live k). (let (r, i, e) = live_row k h in l.free r i e)), jobs_differ plan s o fit 1 s.jobs o.numbered (λ m h. h))
      (λ i h. below_has plan.peak i (⊎_elim (λ (e : k ≡ i). omega (arith, e, low)) (λ (q : Has live i). (let (r, ir, e) = live_row i q in omega (arith, fit.below r ir, e))) h)) in
      omega (arith, n, below_length plan.peak, slots_length plan s.jobs)

  pub peak_stays : k < plan.peak → peak_with s 1 ≡ plan.peak
  peak_stays low = (let e : max s.peak (live_tasks s.jobs + 1) ≡ plan.peak = omega (arith, room_for_one low, same_peak) in e)

  pub peak_rises : k ≡ plan.peak → peak_with s 1 ≡ plan.peak + 1
  peak_rises e = (let q : max s.peak (live_tasks s.jobs + 1) ≡ plan.peak + 1 = omega (arith, lowest_low, e, same_peak, o.peak_low) in q)

module _ (x : Storage) (cpu new : Cpu) (areas areas' : Areas) (plan : Placement) (s : Session) (k : ℕ) (o : IsInOrderButCounts s) (h : RepresentsSession x cpu plan s) (low : areas.low ≡ x.low)
    (has : HasSlot x plan s (length cpu.core) k) where
  -- a slot that was used before
  pub opened_before : k < plan.peak → SlotOpened x plan s cpu areas
  opened_before less = record {
    storage = x;
    stands = subst (λ (n : ℕ). RepresentsSession x cpu (with_peak plan n) (record s { peak = n })) (sym (peak_stays plan s o h.holds.fits.rows h.holds.fits.peak k has.lowest less)) same;
    low = low;
    shelf = refl;
    device = refl;
  } where
    same : RepresentsSession x cpu (with_peak plan plan.peak) (record s { peak = plan.peak })
    same = subst (λ (n : ℕ). RepresentsSession x cpu plan (record s { peak = n })) (sym h.holds.fits.peak) h

  -- the slot after those
  module _ (is : k ≡ plan.peak) where
    peak_low : plan.peak < 120
    peak_low = omega (arith, lowest_low plan s o h.holds.fits.rows h.holds.fits.peak k has.lowest, has.few, is)

    free_slot : slot_at plan s.jobs plan.peak ≡ Free
    free_slot = by (keyed (λ (r : Slotted). r.slot) plan.peak plan.rows) refl where
      by : (q : Option Slotted) → keyed (λ (r : Slotted). r.slot) plan.peak plan.rows ≡ q → slot_by plan s.jobs plan.peak q ≡ Free
      by None e = refl
      by (Some r) e = let f = found-has (λ (r : Slotted). r.slot == plan.peak) plan.rows r e in (let z : ⊥ = omega (arith, h.holds.fits.rows.below r f.0, eqb-true r.slot plan.peak f.1) in absurd z)

    away : cpu.regs.slot ≢ plan.peak
    away e = ⊎_elim
        (λ (none : plan.running ≡ 255). omega (arith, h.holds.none none, e, peak_low))
        (λ (some : plan.running ≢ 255).
        (let (m, t, runs) = h.holds.live some in
        let in_m = keyed_in m runs.member in
        let w = task_row plan s.jobs m t h.holds.fits.rows in_m (task_in m t runs.task) in
        omega (arith, (h.holds.running m t runs).slot, w.slot, h.holds.fits.rows.below w.row w.among, e)))
        (cases_eq plan.running 255)
      where
        keyed_in : (m : SessionJob) → keyed (λ (y : SessionJob). y.constants.number) m.constants.number s.jobs ≡ Some m → Has s.jobs m
        keyed_in m e = (found-has (λ (y : SessionJob). y.constants.number == m.constants.number) s.jobs m e).0

        task_in : (m : SessionJob) (t : Task) → keyed (λ (u : Task). u.number) t.number m.progress.job.tasks ≡ Some t → Has m.progress.job.tasks t
        task_in m t e = (found-has (λ (u : Task). u.number == t.number) m.progress.job.tasks t e).0

    pub has_room : HasRoom x cpu.core cpu.regs (machine_view plan s.jobs)
    has_room = grind (arith, peak_low, free_slot, away)

    module _ (stands : Represents (raised x areas'.low) new.core new.regs (grown (machine_view plan s.jobs))) (rest : new ≡ record cpu { core = new.core; regs = record cpu.regs { peak = cpu.regs.peak + 1 } })
        (below : (i : ℕ) → i < areas.low → i ≢ 152 → slice_get new.core i ≡ slice_get cpu.core i) where
      regs_are : new.regs ≡ record cpu.regs { peak = new.regs.peak }
      regs_are = ap (λ (c : Cpu). c.regs) rest ∙ ap (λ (n : ℕ). record cpu.regs { peak = n }) (sym (ap (λ (c : Cpu). c.regs.peak) rest))

      settled : NoOriginalAboveTop (record (machine_view plan s.jobs) { peak = plan.peak + 1 })
      settled u i q up from below = grind arith

      session : RepresentsSession (raised x areas'.low) new (with_peak plan (plan.peak + 1)) (record s { peak = plan.peak + 1 })
      session = RepresentsSession-wider x (raised x areas'.low) cpu new plan s h (plan.peak + 1) (omega arith) (omega (arith, peak_low)) regs_are (ap (λ (c : Cpu). c.critical) rest) (ap (λ (c : Cpu). c.display) rest)
          (λ i under ne. below i (omega (arith, under, low, h.holds.memory.slots.laid.low)) ne) stands
          settled

      pub opened_now : SlotOpened x plan s new areas'
      opened_now = record {
        storage = raised x areas'.low;
        stands = subst (λ (n : ℕ). RepresentsSession (raised x areas'.low) new (with_peak plan n) (record s { peak = n })) (sym (peak_rises plan s o h.holds.fits.rows h.holds.fits.peak k has.lowest is)) session;
        low = refl;
        shelf = refl;
        device = refl;
      }
