-- The view after a frame was left is settled.
use Rattle.std.proofs.Common.{◌≡◌, ◌≢◌, ℕ, ◌+◌, ◌≤◌, List, ◌∷◌, map, flat_map, sym, ◌∙◌, ap, arith, inl, inr, ◌⊎◌, subst}
use Rattle.std.proofs.lemmas.Bool.{cases_eq}
use Rattle.std.proofs.lemmas.Option.{same_Some}
use Rattle.b67_word.specs.Tagged.{Tagged}
use Rattle.b67_ctl.specs.declared.registers.Regs.{Regs}
use Rattle.b67_lemmas.specs.Lists.{Has, Falls}
use Rattle.b67_lemmas.proofs.Members.{has_append_cases, has_append_right, has_filter, has_flat_back, has_map_back, keyed_has}
use Rattle.b67_model.specs.Common.{Frame, Array, Task, JobProgress, SessionJob, number_of, Session}
use Rattle.b67_model.specs.Keyed.{keyed}
use Rattle.b67_layout.specs.Common.{IsInOrderButCounts, Placement, stack_of_task, slot_at, objects_of, array_object, code_objects, machine_view, IsRunning, SessionHolds, objects_gone}
use Rattle.b67_stack.specs.Common.{stack_words, PagedObject, Slot, Running, stack_of, slot_base, NoOriginalAboveTop, Storage}
use Rattle.b67_stack.proofs.Slots.{slot-same, slot-other}
use Rattle.b67_layout.proofs.Common.{with_course, member-same, RowOf, change-has, others, Replaces, numbered_course, homes_low, code_kind}
use Rattle.b67_layout.proofs.Objects.{objects-after}
use Rattle.b67_layout.proofs.Slots.{OthersSame, slots-after}
use Rattle.b67_layout.proofs.LeftSettles.{under}
use Rattle.b67_law.proofs.Numbered.{keyed_member}

module _ (x : Storage) (core : List Tagged) (r : Regs) (marks : List ℕ) (plan : Placement) (s : Session) (m : SessionJob) (t : Task) (f : Frame) (below : List Frame)
    (o : IsInOrderButCounts s) (h : SessionHolds x core r marks plan s) (runs : IsRunning plan s.jobs m t) (frames : t.frames ≡ f ∷ below)
    (c : JobProgress) (t' : Task) (by : Replaces m.progress.job c.job t t') (row : RowOf plan m.constants.number t.number plan.running) (words : OthersSame c.job m.progress.job t) (bound : ℕ)
    (falls : Falls bound (map (λ (a : Array). a.identity) m.progress.job.arrays)) (is : c.job.arrays ≡ others f.identity m.progress.job.arrays) where
  abbrev high_under : ℕ
  high_under = stack_words (under x core r marks plan s m t f below o h runs frames)

  abbrev first : ℕ
  first = slot_base (machine_view plan s.jobs) plan.running

  abbrev LowHome : ℕ → Type 0
  LowHome home = (home ≤ first + high_under) ⊎ (first + plan.size ≤ home)

  owner_apart : (b : Array) → Has c.job.arrays b → Has m.progress.job.arrays b × (b.owner ≢ f.identity)
  owner_apart b k = grind (arith, has_filter)

  array_low : (z : SessionJob) → Has (with_course s.jobs m.constants.number c) z → (b : Array) → Has z.progress.job.arrays b → LowHome (plan.home z.constants.number b.identity)
  array_low z in_z b in_b = elim (cases_eq z.constants.number m.constants.number) [
    | inl e ↦
        let one = keyed_member 1 (with_course s.jobs m.constants.number c) z (numbered_course 1 m.constants.number c s.jobs o.numbered) in_z in
        let two = member-same s.jobs m.constants.number c m runs.member in
        let same : z ≡ record m { progress = c } = same_Some z (record m { progress = c }) (sym one ∙ ap (λ (n : ℕ). keyed number_of n (with_course s.jobs m.constants.number c)) e ∙ two) in
        let a = owner_apart b (subst (λ (y : SessionJob). Has y.progress.job.arrays b) same in_b) in
        elim (homes_low x core r marks plan s m t f below o h runs frames m (keyed_has number_of m.constants.number s.jobs m runs.member).0 b a.0) [
          | inl q ↦ absurd (a.1 q.1)
          | inr q ↦ subst (λ (n : ℕ). LowHome (plan.home n b.identity)) (sym e) q
        ]
    | inr n ↦ elim (change-has number_of m.constants.number (λ (y : SessionJob). record y { progress = c }) s.jobs m runs.member z in_z) [
      | inl k ↦ elim (homes_low x core r marks plan s m t f below o h runs frames z k b in_b) [ inl q ↦ absurd (n (ap (λ (y : SessionJob). y.constants.number) q.0)) | inr q ↦ q ]
      | inr e ↦ absurd (n (ap (λ (y : SessionJob). y.constants.number) e))
    ]
  ]

  in_old : (u : PagedObject) → Has (flat_map (objects_of plan) (with_course s.jobs m.constants.number c)) u → Has (flat_map (objects_of plan) s.jobs) u
  in_old u i = (objects-after plan s.jobs m c f.identity bound runs.member falls is).back u (has_append_right (objects_gone plan m c.job) (flat_map (objects_of plan) (with_course s.jobs m.constants.number c)) u i)

  object_low : (u : PagedObject) → Has (flat_map (objects_of plan) (with_course s.jobs m.constants.number c)) u → LowHome u.home
  object_low u i =
      let q = has_flat_back (objects_of plan) (with_course s.jobs m.constants.number c) u i in
      let j = q.item.constants.number in
      elim (has_append_cases (code_objects plan j 1 q.item.constants.segments) (map (array_object plan j) q.item.progress.job.arrays) u q.inside) [
        | inl a ↦ inl (let low = h.memory.slots.laid.codes u (in_old u i) (code_kind plan j 1 q.item.constants.segments u a) in omega (arith, low))
        | inr b ↦ let a = has_map_back (array_object plan j) q.item.progress.job.arrays u b in subst LowHome (ap (λ (v : PagedObject). v.home) a.is) (array_low q.item q.among a.item a.among)
      ]

  pub settled-after : high_under ≤ stack_words (stack_of_task plan m.constants.number c.job plan.running t') → NoOriginalAboveTop (machine_view plan (with_course s.jobs m.constants.number c))
  settled-after higher u i k small low up = elim (cases_eq k plan.running) [
    | inl e ↦
        let S = stack_of_task plan m.constants.number c.job plan.running t' in
        let here : slot_at plan (with_course s.jobs m.constants.number c) plan.running ≡ Running S = slots-after plan s.jobs m c t t' plan.running runs.member by row words plan.running ∙ slot-same (machine_view plan s.jobs) plan.running (Running S) in
        let there : stack_words (stack_of (slot_at plan (with_course s.jobs m.constants.number c) k)) ≡ stack_words S = ap (λ (n : ℕ). stack_words (stack_of (slot_at plan (with_course s.jobs m.constants.number c) n))) e ∙ ap (λ (y : Slot). stack_words (stack_of y)) here in
        let base_is : slot_base (machine_view plan s.jobs) k ≡ first = ap (slot_base (machine_view plan s.jobs)) e in
        elim (object_low u i) [
          | inl d ↦ omega (arith, d, there, base_is, higher)
          | inr d ↦ absurd (omega (arith, d, up, base_is))
        ]
    | inr n ↦
        let S = stack_of_task plan m.constants.number c.job plan.running t' in
        let same : slot_at plan (with_course s.jobs m.constants.number c) k ≡ slot_at plan s.jobs k = slots-after plan s.jobs m c t t' plan.running runs.member by row words k ∙ slot-other (machine_view plan s.jobs) plan.running (Running S) k n in
        let was = h.settled u (in_old u i) k small low up in
        subst (λ (y : Slot). u.home ≤ slot_base (machine_view plan s.jobs) k + stack_words (stack_of y)) (sym same) was
  ]
