-- Live frames of different identities have different names.
use Rattle.std.proofs.Common.{◌≡◌, ◌≢◌, ℕ, ◌+◌, ◌*◌, ◌^◌, ◌<◌, ◌≤◌, ◌==◌, Bool, List, [], ◌∷◌, map, refl, sym, ◌∙◌, ap, arith, inl, inr}
use Rattle.std.specs.Prelude.{if◌then◌else◌}
use Rattle.std.specs.List.{list_any}
use Rattle.std.proofs.lemmas.Bool.{ne_eqb, eq-eqb}
use Rattle.std.proofs.lemmas.Bool.Decides.{eqb_tells}
use Rattle.b67_lemmas.specs.Lists.{Has}
use Rattle.b67_lemmas.proofs.Members.{all_in, falls_same, keyed_has}
use Rattle.b67_model.specs.Common.{Frame, Task, Job, JobConstants, height, is_critical, Starts, identities, TaskInOrder, TasksInOrder, BirthInOrder}
use Rattle.b67_layout.specs.Session.{critical_mark}
use Rattle.b67_layout_shown.specs.Places.{name_among, frame_by, task_by}
use Rattle.b67_layout_shown.proofs.Frames.{Named}
use Rattle.b67_layout_shown.proofs.Names.{named_frames}
use Rattle.b67_layout_shown.proofs.Outer.{name_low}
use Rattle.b67_layout_shown.proofs.Reach.{named_low, height_by}
use Rattle.b67_layout_shown.proofs.Jobs.{task_number}

module _ (rename : ℕ → ℕ) (relabel : ℕ → ℕ) where
  pub named_high : (number : ℕ) (fs : List Frame) → Named rename number fs → (c : ℕ) → Has (identities fs) c → number * 2 ^ 14 ≤ rename c
  named_high number [] names c h = absurd h
  named_high number (f ∷ below) names c (inl e) = let n = names.0 in let same = ap rename e in omega (arith, n, same)
  named_high number (f ∷ below) names c (inr h) = named_high number below names.1 c h

  one_list : (number : ℕ) (fs : List Frame) → Named rename number fs → (c d : ℕ) → Has (identities fs) c → Has (identities fs) d → rename c ≡ rename d → c ≡ d
  one_list number [] names c d hc hd e = absurd hc
  one_list number (f ∷ below) names c d (inl a) (inl b) e = sym a ∙ b
  one_list number (f ∷ below) names c d (inl a) (inr b) e = (let low = named_low rename relabel number (height below) below names.1 (omega arith) d b in let n = names.0 in let same = ap rename a in absurd (omega (arith, low, n, same, e)))
  one_list number (f ∷ below) names c d (inr a) (inl b) e = (let low = named_low rename relabel number (height below) below names.1 (omega arith) c a in let n = names.0 in let same = ap rename b in absurd (omega (arith, low, n, same, e)))
  one_list number (f ∷ below) names c d (inr a) (inr b) e = one_list number below names.1 c d a b e

module _ (P : Starts) (constants : JobConstants) (job : Job) (order : TasksInOrder P constants job) (small : constants.stack_size < 2 ^ 14) (relabel : ℕ → ℕ) where
  abbrev rename : ℕ → ℕ
  rename = name_among job.tasks

  names : (t : Task) → Has job.tasks t → Named (name_among job.tasks) t.number t.frames
  names t there = named_frames P constants job t order there

  own : (t : Task) → Has job.tasks t → TaskInOrder P constants job t
  own t there = all_in (TaskInOrder P constants job) job.tasks t order.tasks there

  -- where a name lies
  between : (t : Task) → Has job.tasks t → (c : ℕ) → Has (identities t.frames) c → (t.number * 2 ^ 14 ≤ rename c) × (rename c < (t.number + 1) * 2 ^ 14)
  between t there c h =
      let low = named_high rename relabel t.number t.frames (names t there) c h in
      let up = named_low rename relabel t.number (height t.frames) t.frames (names t there) (omega arith) c h in
      let high = (own t there).not_higher in
      (low, omega (arith, up, high, small))

  pub live_high : (t : Task) → Has job.tasks t → (c : ℕ) → Has (identities t.frames) c → 2 ^ 14 ≤ rename c
  live_high t there c h = let b = between t there c h in let number = task_number P constants job t (own t there) in omega (arith, b, number)

  pub live_apart : (t u : Task) → Has job.tasks t → Has job.tasks u → (c d : ℕ) → Has (identities t.frames) c → Has (identities u.frames) d → rename c ≡ rename d → c ≡ d
  live_apart t u ht hu c d hc hd e = grind (arith, between, falls_same, one_list, names)

  -- ---- critical frames

  critical_same : (t u : Task) → Has job.tasks t → Has job.tasks u → (d : ℕ) → Has (identities t.frames) d → (rename u.critical == rename d) ≡ (u.critical == d)
  critical_same t u ht hu d hd = elim (eqb_tells u.critical d) [
    | inl q ↦ eq-eqb (rename u.critical) (rename d) (ap rename q.1) ∙ sym q.0
    | inr q ↦ ne_eqb (rename u.critical) (rename d) (differs u.parents (own u hu).birth q.1) ∙ sym q.0
  ] where
    differs : (ps : List ℕ) → BirthInOrder job u ps → u.critical ≢ d → name_among job.tasks u.critical ≢ name_among job.tasks d
    differs [] b ne e =
        let zero = name_low P constants job order 0 (omega arith) in
        let same = ap (name_among job.tasks) b.1 in
        let high = live_high t ht d hd in
        absurd (omega (arith, zero, same, high, e))
    differs (p ∷ above) b ne e =
        let found = keyed_has (λ (v : Task). v.number) p job.tasks b.parent b.found in
        ne (live_apart b.parent t found.0 ht u.critical d b.is_critical hd e)

  any_same : (ts : List Task) → ((u : Task) → Has ts u → Has job.tasks u) → (t : Task) → Has job.tasks t → (d : ℕ) → Has (identities t.frames) d
      → list_any (λ (u : Task). u.critical == rename d) (map (task_by (name_among job.tasks) relabel) ts) ≡ list_any (λ (u : Task). u.critical == d) ts
  any_same [] inside t ht d hd = refl
  any_same (u ∷ ts) inside t ht d hd = grind (arith, critical_same, any_same ts)

  pub critical_mark_same : (job' : Job) → job'.tasks ≡ map (task_by (name_among job.tasks) relabel) job.tasks → (t : Task) → Has job.tasks t → (fs : List Frame) → ((d : ℕ) → Has (identities fs) d → Has (identities t.frames) d)
      → critical_mark job' (map (frame_by (name_among job.tasks) relabel) fs) ≡ critical_mark job fs
  critical_mark_same job' tasks_are t ht [] inside = refl
  critical_mark_same job' tasks_are t ht (f ∷ below) inside =
      let high = height_by (name_among job.tasks) relabel below in
      ap (λ (b : Bool). if b then height (map (frame_by (name_among job.tasks) relabel) below) else critical_mark job' (map (frame_by (name_among job.tasks) relabel) below))
      (ap (λ (ts : List Task). list_any (λ (u : Task). u.critical == rename f.identity) ts) tasks_are ∙ any_same job.tasks (λ u h. h) t ht f.identity (inside f.identity (inl refl)))
      ∙ ap (λ n. if is_critical job f.identity then n else critical_mark job' (map (frame_by (name_among job.tasks) relabel) below)) high
      ∙ ap (λ n. if is_critical job f.identity then height below else n) (critical_mark_same job' tasks_are t ht below (λ d h. inside d (inr h)))
