-- A task is replaced by one of whose frames others see the same: where all find the frames on which they depend.
use Rattle.std.proofs.Common.{◌≡◌, ◌≢◌, ℕ, List, [], ◌∷◌, Option, Some, None, refl, sym, ◌∙◌, ap, ⊎_elim, inl, inr, ◌⊎◌, arith}
use Rattle.std.proofs.lemmas.Bool.{cases_eq}
use Rattle.b67_lemmas.specs.Lists.{Has}
use Rattle.b67_lemmas.proofs.Members.{change_found, change_other, keyed_has}
use Rattle.b67_model.specs.Common.{Task, Job, from_frame, frames_of_task, critical_of}
use Rattle.b67_model.specs.Keyed.{keyed, change_keyed}
use Rattle.b67_stack.specs.Stacks.{StackPlace}
use Rattle.b67_layout.specs.Placement.{Placement, slot_of, spot_in, outer_spots}
use Rattle.b67_layout.proofs.Others.{spot_in-outer, OnTop}

-- the MCP's frame, or one that a live task depends on
abbrev pub IsDependedOn : Job → ℕ → Type 0
IsDependedOn job c = (c ≡ 0) ⊎ ((u : Task) × Has job.tasks u × (u.critical ≡ c))

-- a task is replaced, and others find the frames on which they depend, and what lies below these, where they were
pub record Replaces (job job' : Job) (t t' : Task) : Type 0 where
  pub there : keyed (λ (u : Task). u.number) t.number job.tasks ≡ Some t
  pub number : t'.number ≡ t.number
  pub critical : t'.critical ≡ t.critical
  pub parents : t'.parents ≡ t.parents
  pub tasks : job'.tasks ≡ change_keyed (λ (u : Task). u.number) t.number (λ u. t') job.tasks
  pub seen : (c s : ℕ) (outer : ℕ → StackPlace) (id : ℕ) → IsDependedOn job c → spot_in s outer (from_frame c t'.frames) id ≡ spot_in s outer (from_frame c t.frames) id

module _ (plan : Placement) (j : ℕ) (job job' : Job) (t t' : Task) (by : Replaces job job' t t') where
  depended : (m : ℕ) (o : Option Task) → keyed (λ (u : Task). u.number) m job.tasks ≡ o → IsDependedOn job (critical_of o)
  depended m o e = grind (arith, keyed_has)

  pub task-same : keyed (λ (u : Task). u.number) t.number job'.tasks ≡ Some t'
  task-same = ap (λ (ts : List Task). keyed (λ (u : Task). u.number) t.number ts) by.tasks ∙ change_found (λ (u : Task). u.number) t.number t t' job.tasks by.number by.there

  pub task-other : (m : ℕ) → m ≢ t.number → keyed (λ (u : Task). u.number) m job'.tasks ≡ keyed (λ (u : Task). u.number) m job.tasks
  task-other m ne = ap (λ (ts : List Task). keyed (λ (u : Task). u.number) m ts) by.tasks ∙ change_other (λ (u : Task). u.number) m t.number t' job.tasks by.number ne

  pub outer_spots-after : (parents : List ℕ) (c : ℕ) → IsDependedOn job c → (id : ℕ) → outer_spots plan j job' c parents id ≡ outer_spots plan j job c parents id
  outer_spots-after [] c d id = refl
  outer_spots-after (parent ∷ more) c d id =
      let O : Job → Option Task → ℕ → StackPlace = λ k o. outer_spots plan j k (critical_of o) more in
      let S : (ℕ → StackPlace) → Option Task → StackPlace = λ out o. spot_in (slot_of plan j parent) out (from_frame c (frames_of_task o)) id in
      let old = keyed (λ (u : Task). u.number) parent job.tasks in
      let new = keyed (λ (u : Task). u.number) parent job'.tasks in
      ⊎_elim
      (λ (e : parent ≡ t.number).
      let is_old : old ≡ Some t = ap (λ m. keyed (λ (u : Task). u.number) m job.tasks) e ∙ by.there in
      let is_new : new ≡ Some t' = ap (λ m. keyed (λ (u : Task). u.number) m job'.tasks) e ∙ task-same in
      let inner : (x : ℕ) → O job' (Some t') x ≡ O job (Some t) x = λ x. outer_spots-after more t'.critical (inr (t, (keyed_has (λ (u : Task). u.number) t.number job.tasks t by.there).0, sym by.critical)) x ∙ ap (λ d. outer_spots plan j job d more x) by.critical in
      ap (λ o. S (O job' o) o) is_new
      ∙ spot_in-outer (slot_of plan j parent) (O job (Some t)) (O job' (Some t')) inner (from_frame c t'.frames) id
      ∙ by.seen c (slot_of plan j parent) (O job (Some t)) id d
      ∙ ap (λ o. S (O job o) o) (sym is_old))
      (λ (e : parent ≡ t.number → ⊥).
      let is_new : new ≡ old = task-other parent e in
      let inner : (x : ℕ) → O job' old x ≡ O job old x = λ x. outer_spots-after more (critical_of old) (depended parent old refl) x in
      ap (λ o. S (O job' o) o) is_new
      ∙ spot_in-outer (slot_of plan j parent) (O job old) (O job' old) inner (from_frame c (frames_of_task old)) id)
      (cases_eq parent t.number)

-- a task that changed on top of a frame that none depends on
pub on_top_replaces : (job job' : Job) (t t' : Task) (n : ℕ) → OnTop job job' t t' n → Replaces job job' t t'
on_top_replaces job job' t t' n top = grind arith
