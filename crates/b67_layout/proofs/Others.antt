-- What other tasks see of a task that changed on top of a frame that none of them depends on.
use Rattle.std.proofs.Common.{◌≡◌, ◌≢◌, ℕ, List, [], ◌∷◌, map, Option, Some, None, refl, sym, ◌∙◌, ap, cond, ◌==◌, ⊎_elim, arith}
use Rattle.std.specs.Prelude.{if◌then◌else◌}
use Rattle.std.proofs.lemmas.Bool.{cases_eq, ne_eqb}
use Rattle.b67_lemmas.specs.Lists.{Has}
use Rattle.b67_lemmas.proofs.Members.{change_found, change_other, keyed_has}
use Rattle.b67_model.specs.Words as Words
use Rattle.b67_model.specs.Common.{Operand, Name, Ref, Row, Element, Original, Proc, Intrinsic, Frame, Array, Task, Job, height, from_frame, frames_of_task, critical_of}
use Rattle.b67_model.specs.Keyed.{keyed, change_keyed}
use Rattle.b67_stack.specs.Common.{Shape, StackPlace, Activation, Slot, Running, Waiting}
use Rattle.b67_layout.specs.Common.{Placement, slot_of, spot_in, outer_spots, shape, head, activations, slot_with}

pub spot_in-outer : (s : ℕ) (o o' : ℕ → StackPlace) → ((id : ℕ) → o' id ≡ o id) → (fs : List Frame) (id : ℕ) → spot_in s o' fs id ≡ spot_in s o fs id
spot_in-outer s o o' e [] id = e id
spot_in-outer s o o' e (f ∷ fs) id = ap (λ r. cond (f.identity == id) (let p : StackPlace = record { stack = s; disp = height fs } in p) r) (spot_in-outer s o o' e fs id)

-- a task changed on top of frame n, and nothing else in its job but numbers and counts
pub record OnTop (job job' : Job) (t t' : Task) (n : ℕ) : Type 0 where
  pub there : keyed (λ (u : Task). u.number) t.number job.tasks ≡ Some t
  pub number : t'.number ≡ t.number
  pub critical : t'.critical ≡ t.critical
  pub parents : t'.parents ≡ t.parents
  pub tasks : job'.tasks ≡ change_keyed (λ (u : Task). u.number) t.number (λ u. t') job.tasks
  pub arrays : job'.arrays ≡ job.arrays
  pub some : 0 ≢ n
  -- no live task depends on frame n
  pub uncritical : (u : Task) → Has job.tasks u → u.critical ≢ n
  -- frames other than n are found where they were
  pub same : (c s : ℕ) (outer : ℕ → StackPlace) (id : ℕ) → c ≢ n → spot_in s outer (from_frame c t'.frames) id ≡ spot_in s outer (from_frame c t.frames) id

module _ (plan : Placement) (j : ℕ) (job job' : Job) (t t' : Task) (n : ℕ) (top : OnTop job job' t t' n) where
  any : (m : ℕ) (o : Option Task) → keyed (λ (u : Task). u.number) m job.tasks ≡ o → critical_of o ≢ n
  any m None e = top.some
  any m (Some u) e = top.uncritical u (keyed_has (λ (u : Task). u.number) m job.tasks u e).0

  pub task-same : keyed (λ (u : Task). u.number) t.number job'.tasks ≡ Some t'
  task-same = ap (λ ts. keyed (λ (u : Task). u.number) t.number ts) top.tasks ∙ change_found (λ (u : Task). u.number) t.number t t' job.tasks top.number top.there

  pub task-other : (m : ℕ) → m ≢ t.number → keyed (λ (u : Task). u.number) m job'.tasks ≡ keyed (λ (u : Task). u.number) m job.tasks
  task-other m ne = ap (λ ts. keyed (λ (u : Task). u.number) m ts) top.tasks ∙ change_other (λ (u : Task). u.number) m t.number t' job.tasks top.number ne

  pub outer_spots-after : (parents : List ℕ) (c : ℕ) → c ≢ n → (id : ℕ) → outer_spots plan j job' c parents id ≡ outer_spots plan j job c parents id
  outer_spots-after [] c ne id = refl
  outer_spots-after (parent ∷ more) c ne id =
      let O : Job → Option Task → ℕ → StackPlace = λ k o. outer_spots plan j k (critical_of o) more in
      let S : (ℕ → StackPlace) → Option Task → StackPlace = λ out o. spot_in (slot_of plan j parent) out (from_frame c (frames_of_task o)) id in
      let old = keyed (λ (u : Task). u.number) parent job.tasks in
      let new = keyed (λ (u : Task). u.number) parent job'.tasks in
      ⊎_elim
      (λ (e : parent ≡ t.number).
      let is_old : old ≡ Some t = ap (λ m. keyed (λ (u : Task). u.number) m job.tasks) e ∙ top.there in
      let is_new : new ≡ Some t' = ap (λ m. keyed (λ (u : Task). u.number) m job'.tasks) e ∙ task-same in
      let inner : (x : ℕ) → O job' (Some t') x ≡ O job (Some t) x = λ x. outer_spots-after more t'.critical (λ z. top.uncritical t (keyed_has (λ (u : Task). u.number) t.number job.tasks t top.there).0 (sym top.critical ∙ z)) x ∙ ap (λ d. outer_spots plan j job d more x) top.critical in
      ap (λ o. S (O job' o) o) is_new
      ∙ spot_in-outer (slot_of plan j parent) (O job (Some t)) (O job' (Some t')) inner (from_frame c t'.frames) id
      ∙ top.same c (slot_of plan j parent) (O job (Some t)) id ne
      ∙ ap (λ o. S (O job o) o) (sym is_old))
      (λ (e : parent ≡ t.number → ⊥).
      let is_new : new ≡ old = task-other parent e in
      let inner : (x : ℕ) → O job' old x ≡ O job old x = λ x. outer_spots-after more (critical_of old) (any parent old refl) x in
      ap (λ o. S (O job' o) o) is_new
      ∙ spot_in-outer (slot_of plan j parent) (O job old) (O job' old) inner (from_frame c (frames_of_task old)) id)
      (cases_eq parent t.number)

-- a shape reads nothing of a job but its arrays
module _ (plan : Placement) (j : ℕ) (job job' : Job) (e : job'.arrays ≡ job.arrays) where
  pub activations-job : (k : ℕ) (outer : ℕ → StackPlace) (fs : List Frame) → activations plan j job' k outer fs ≡ activations plan j job k outer fs
  activations-job k outer [] = refl
  activations-job k outer (f ∷ below) = grind arith

-- the slot of every task but the one that changed is as it was
pub slot_with-after : (plan : Placement) (j : ℕ) (job job' : Job) (t t' : Task) (n : ℕ) → OnTop job job' t t' n → (k : ℕ) (u : Task) → u.critical ≢ n → slot_with plan k j job' (Some u) ≡ slot_with plan k j job (Some u)
slot_with-after plan j job job' t t' n top k u ne =
    let outer : outer_spots plan j job' u.critical u.parents ≡ outer_spots plan j job u.critical u.parents = λ i id. outer_spots-after plan j job job' t t' n top u.parents u.critical ne id i in
    grind (arith, activations-job)

pub seen-mark : (f : Frame) (fs : List Frame) (c s : ℕ) (outer : ℕ → StackPlace) (id : ℕ) → c ≢ f.identity → spot_in s outer (from_frame c (f ∷ fs)) id ≡ spot_in s outer (from_frame c fs) id
seen-mark f fs c s outer id ne = rw (ne_eqb f.identity c (λ e. ne (sym e))) refl
