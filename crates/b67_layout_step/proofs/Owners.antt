-- Whose frame it is that a live task names, and where it lies in its task's stack.
use Rattle.std.proofs.Common.{◌≡◌, ◌≢◌, ℕ, ◌<◌, ◌≤◌, List, [], ◌∷◌, ◌++◌, map, Option, Some, refl, sym, ◌∙◌, ap, arith, true, false, ◌==◌, ⊎_elim, inl, inr, subst}
use Rattle.std.proofs.lemmas.Bool.{cases_Bool, ne_eqb}
use Rattle.b67_lemmas.specs.Lists.{Has, Falls, total}
use Rattle.b67_lemmas.proofs.Members.{all_in, falls_low, has_append_cases, has_append_right, has_map, keyed_has, total_has}
use Rattle.b67_model.specs.Keyed.{keyed}
use Rattle.b67_model.specs.Common.{Frame, Standing, Task, Job, JobConstants, height, IsSegment, Known, known_of, known_numbers, identities, from_frame, frames_of_task, critical_of, base, outer_reach, outer_of, reach_of, NamesEntered, ParentInOrder, BirthInOrder, TaskInOrder, TasksInOrder, frames_named}
use Rattle.b67_law.proofs.Replaced.{numbers_append}
use Rattle.b67_stack.specs.Stacks.{StackPlace}
use Rattle.b67_layout.specs.Placement.{Placement, slot_of, spot_in, outer_spots, spots}
use Rattle.b67_layout.proofs.Fresh.{has-number}
use Rattle.b67_layout_step.proofs.Frames.{frames_under}

identity_has : (fs : List Frame) (id : ℕ) (s : Standing) → Has (map known_of fs) (id, s) → Has (identities fs) id
identity_has [] id s h = absurd h
identity_has (f ∷ fs) id s (inl e) = inl (ap (λ (k : Known). k.0) e)
identity_has (f ∷ fs) id s (inr h) = inr (identity_has fs id s h)

pub spot_under : (k : ℕ) (outer : ℕ → StackPlace) (fs : List Frame) (id : ℕ) → Has (identities fs) id → spot_in k outer fs id ≡ record { stack = k; disp = height (frames_under id fs) }
spot_under k outer [] id h = absurd h
spot_under k outer (f ∷ fs) id h = grind (arith, spot_under k outer fs id)

from_identity : (c : ℕ) (fs : List Frame) (id : ℕ) → Has (identities (from_frame c fs)) id → Has (identities fs) id
from_identity c [] id h = h
from_identity c (f ∷ fs) id h = grind (arith, from_identity c fs id)

-- a frame at or under the critical one is found under the same frames
from_under : (bound c : ℕ) (fs : List Frame) (known : List Known) (id : ℕ) → Falls bound (known_numbers (map known_of fs ++ known)) → Has (identities (from_frame c fs)) id → frames_under id (from_frame c fs) ≡ frames_under id fs
from_under bound c [] known id falls h = refl
from_under bound c (f ∷ fs) known id falls h = ⊎_elim
    (λ (t : (f.identity == c) ≡ true). rw t refl)
    (λ (t : (f.identity == c) ≡ false).
    let more : Has (identities (from_frame c fs)) id = rw t at h in
    let low = falls_low f.identity (known_numbers (map known_of fs ++ known)) id falls.1 (has-number fs known id (from_identity c fs id more)) in
    let ne : (f.identity == id) ≡ false = ne_eqb f.identity id (λ e. omega (arith, e, low)) in
    rw t (rw ne (from_under f.identity c fs known id falls.1 more)))
    (cases_Bool (f.identity == c))

apart : (bound : ℕ) (fs : List Frame) (known : List Known) (g : ℕ) → Falls bound (known_numbers (map known_of fs ++ known)) → Has (known_numbers known) g → (k : ℕ) (outer : ℕ → StackPlace) → spot_in k outer fs g ≡ outer g
apart bound [] known g falls h k outer = refl
apart bound (f ∷ fs) known g falls h k outer =
    let there : Has (known_numbers (map known_of fs ++ known)) g = rw numbers_append (has_append_right (known_numbers (map known_of fs)) (known_numbers known) g h) in
    let low = falls_low f.identity (known_numbers (map known_of fs ++ known)) g falls.1 there in
    let ne : (f.identity == g) ≡ false = ne_eqb f.identity g (λ e. omega (arith, e, low)) in
    rw ne (apart f.identity fs known g falls.1 h k outer)

falls_from : (bound c : ℕ) (fs : List Frame) (known : List Known) → Falls bound (known_numbers (map known_of fs ++ known)) → (b : ℕ) × Falls b (known_numbers (map known_of (from_frame c fs) ++ known))
falls_from bound c [] known g = (bound, g)
falls_from bound c (f ∷ fs) known g = ⊎_elim
    (λ (t : (f.identity == c) ≡ true). (bound, rw t g))
    (λ (t : (f.identity == c) ≡ false). (let q = falls_from f.identity c fs known g.1 in (q.0, rw t q.1)))
    (cases_Bool (f.identity == c))

no_base : (id : ℕ) (s : Standing) → Has base (id, s) → 1 < id → ⊥
no_base id s h high = grind arith

module _ (plan : Placement) (constants : JobConstants) (job : Job) (ordered : TasksInOrder (IsSegment constants) constants job) where
  order_of : (u : Task) → Has job.tasks u → TaskInOrder (IsSegment constants) constants job u
  order_of u h = all_in (TaskInOrder (IsSegment constants) constants job) job.tasks u ordered.tasks h

  pub record OwnerAt (view : ℕ → StackPlace) (id : ℕ) : Type 0 where
    pub task : Task
    pub there : keyed (λ (v : Task). v.number) task.number job.tasks ≡ Some task
    pub has : Has (identities task.frames) id
    pub spot : view id ≡ record { stack = slot_of plan constants.number task.number; disp = height (frames_under id task.frames) }

  owner_outer : (u : Task) → Has job.tasks u → (parents : List ℕ) → u.parents ≡ parents → (id : ℕ) (s : Standing) → 1 < id
      → Has (outer_reach job u.critical parents) (id, s) → OwnerAt (outer_spots plan constants.number job u.critical parents) id
  owner_outer u here [] line id s high h = absurd (no_base id s h high)
  owner_outer u here (n ∷ more) line id s high h =
      let birth : ParentInOrder job u n more = subst (BirthInOrder job u) line (order_of u here).birth in
      let q = birth.parent in
      let at = keyed_has (λ (v : Task). v.number) n job.tasks q birth.found in
      let found : keyed (λ (v : Task). v.number) q.number job.tasks ≡ Some q = subst (λ (i : ℕ). keyed (λ (v : Task). v.number) i job.tasks ≡ Some q) (sym at.1) birth.found in
      let k = slot_of plan constants.number q.number in
      let slot_is : slot_of plan constants.number n ≡ k = ap (slot_of plan constants.number) (sym at.1) in
      let known = outer_reach job q.critical more in
      let outer = outer_spots plan constants.number job q.critical more in
      let falls : Falls job.next_frame (known_numbers (map known_of q.frames ++ known)) = subst (λ (ps : List ℕ). Falls job.next_frame (known_numbers (map known_of q.frames ++ outer_reach job q.critical ps))) birth.line (order_of q at.0).falls in
      let fs = from_frame u.critical q.frames in
      let h' : Has (map known_of fs ++ known) (id, s) = rw birth.found at h in
      let F : Option Task → ℕ → Type 0 = λ v i. OwnerAt (λ g. spot_in i (outer_spots plan constants.number job (critical_of v) more) (from_frame u.critical (frames_of_task v)) g) id in
      let G : ℕ → Type 0 = λ i. F (Some q) i in
      let H : Option Task → Type 0 = λ v. F v (slot_of plan constants.number n) in
      let result : OwnerAt (λ g. spot_in k outer fs g) id = ⊎_elim
      (λ m.
      (let inside = identity_has fs id s m in
      let o : OwnerAt (λ g. spot_in k outer fs g) id = record {
        task = q;
        there = found;
        has = from_identity u.critical q.frames id inside;
        spot = spot_under k outer fs id inside ∙ ap (λ gs. let z : StackPlace = record { stack = k; disp = height gs } in z) (from_under job.next_frame u.critical q.frames known id falls inside);
      } in o))
      (λ m.
      (let o = owner_outer q at.0 more birth.line id s high m in
      let down = falls_from job.next_frame u.critical q.frames known falls in
      let p : OwnerAt (λ g. spot_in k outer fs g) id = record { task = o.task; there = o.there; has = o.has; spot = apart down.0 fs known id down.1 (has_map (λ (z : Known). z.0) known (id, s) m) k outer ∙ o.spot } in p))
      (has_append_cases (map known_of fs) known (id, s) h') in
      subst H (sym birth.found) (subst G (sym slot_is) result)

  -- the owner of a frame of a task that is named
  pub owner : (t : Task) → keyed (λ (v : Task). v.number) t.number job.tasks ≡ Some t → (id : ℕ) → NamesEntered (reach_of job t) id → 1 < id → OwnerAt (spots plan constants.number job t) id
  owner t live id n high =
      let in_t : Has job.tasks t = (keyed_has (λ (v : Task). v.number) t.number job.tasks t live).0 in
      let k = slot_of plan constants.number t.number in
      let outer = outer_spots plan constants.number job t.critical t.parents in
      let falls = (order_of t in_t).falls in
      ⊎_elim
      (λ m. (let inside = identity_has t.frames id n.standing m in
      let o : OwnerAt (spots plan constants.number job t) id = record { task = t; there = live; has = inside; spot = spot_under k outer t.frames id inside } in o))
      (λ m. (let o = owner_outer t in_t t.parents refl id n.standing high m in
      let p : OwnerAt (spots plan constants.number job t) id = record { task = o.task; there = o.there; has = o.has; spot = apart job.next_frame t.frames (outer_of job t) id falls (has_map (λ (z : Known). z.0) (outer_of job t) (id, n.standing) m) k outer ∙ o.spot } in p))
      (has_append_cases (map known_of t.frames) (outer_of job t) (id, n.standing) n.among)

-- a frame's identity is one task's alone
named_once : (fs : List Frame) (id : ℕ) → Has (identities fs) id → 1 ≤ frames_named id fs
named_once [] id h = absurd h
named_once (f ∷ fs) id h = grind (arith, named_once fs id)

pub others_none : (xs : List Task) (u v : Task) (id : ℕ) → Has xs u → Has xs v → u.number ≢ v.number → Has (identities u.frames) id → total (λ (t : Task). frames_named id t.frames) xs ≤ 1 → frames_named id v.frames ≡ 0
others_none [] u v id hu hv ne has low = absurd hu
others_none (x ∷ xs) u v id (inl eu) (inl ev) ne has low = absurd (ne (ap (λ (t : Task). t.number) (sym eu ∙ ev)))
others_none (x ∷ xs) u v id (inl eu) (inr hv) ne has low =
    let one = named_once u.frames id has in
    let e : frames_named id x.frames ≡ frames_named id u.frames = ap (λ (t : Task). frames_named id t.frames) eu in
    let m = total_has (λ (t : Task). frames_named id t.frames) xs v hv in
    omega (arith, one, e, m, low)
others_none (x ∷ xs) u v id (inr hu) (inl ev) ne has low =
    let one = named_once u.frames id has in
    let e : frames_named id x.frames ≡ frames_named id v.frames = ap (λ (t : Task). frames_named id t.frames) ev in
    let m = total_has (λ (t : Task). frames_named id t.frames) xs u hu in
    omega (arith, one, e, m, low)
others_none (x ∷ xs) u v id (inr hu) (inr hv) ne has low = others_none xs u v id hu hv ne has (omega (arith, low))
