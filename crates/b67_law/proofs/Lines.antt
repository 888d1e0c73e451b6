-- Whose array a word may name: one of a dictionary, of a frame of its own task at or under its own, or of a task above.
use Rattle.std.proofs.Common.{◌≡◌, ◌≢◌, ℕ, ◌+◌, ◌≤◌, List, [], ◌∷◌, map, Option, Some, None, refl, sym, ◌∙◌, ap, arith, inl, inr, ◌⊎◌, subst}
use Rattle.std.proofs.lemmas.Bool.{eq-eqb}
use Rattle.std.proofs.lemmas.Bool.Decides.{eqb_tells}
use Rattle.b67_lemmas.specs.Lists.{Has, total}
use Rattle.b67_lemmas.proofs.Members.{has_append_cases, has_map, has_map_back, keyed_has, total_has}
use Rattle.b67_model.specs.Keyed.{keyed}
use Rattle.b67_model.specs.Common.{Frame, Standing, Task, JobConstants, Job, Starts, Known, known_of, from_frame, frames_of_task, critical_of, outer_reach, identities, TasksInOrder, frames_named}

from_has : (c : ℕ) (fs : List Frame) (f : Frame) → Has (from_frame c fs) f → Has fs f
from_has c [] f h = h
from_has c (e ∷ below) f h = grind (arith, from_has c below f)

-- the MCP's frame or the dictionary, or a frame of a live task above
abbrev pub Above : Job → List ℕ → ℕ → Type 0
Above job parents id = (id ≤ 1) ⊎ ((q : Task) × Has job.tasks q × Has parents q.number × Has (identities q.frames) id)

wider : (job : Job) (n : ℕ) (parents : List ℕ) (id : ℕ) → Above job parents id → Above job (n ∷ parents) id
wider job n parents id h = grind arith

from_task : (job : Job) (c n id : ℕ) (s : Standing) (parents : List ℕ) (o : Option Task) → keyed (λ (t : Task). t.number) n job.tasks ≡ o → Has (map known_of (from_frame c (frames_of_task o))) (id, s) → Above job (n ∷ parents) id
from_task job c n id s parents None e h = absurd h
from_task job c n id s parents (Some q) e h =
    let r = has_map_back known_of (from_frame c q.frames) (id, s) h in
    let k = keyed_has (λ (t : Task). t.number) n job.tasks q e in
    let among : Has (identities q.frames) r.item.identity = has_map (λ (f : Frame). f.identity) q.frames r.item (from_has c q.frames r.item r.among) in
    inr (q, k.0, inl (sym k.1), subst (Has (identities q.frames)) (ap (λ (z : Known). z.0) r.is) among)

pub outer_owned : (job : Job) (c : ℕ) (parents : List ℕ) (id : ℕ) (s : Standing) → Has (outer_reach job c parents) (id, s) → Above job parents id
outer_owned job c [] id s (inl e) = inl (let z : 1 ≡ id = ap (λ (n : Known). n.0) e in omega (arith, z))
outer_owned job c [] id s (inr (inl e)) = inl (let z : 0 ≡ id = ap (λ (n : Known). n.0) e in omega (arith, z))
outer_owned job c [] id s (inr (inr h)) = absurd h
outer_owned job c (n ∷ above) id s h =
    let o = keyed (λ (t : Task). t.number) n job.tasks in
    elim (has_append_cases (map known_of (from_frame c (frames_of_task o))) (outer_reach job (critical_of o) above) (id, s) h) [
      | inl a ↦ from_task job c n id s above o refl a
      | inr b ↦ wider job n above id (outer_owned job (critical_of o) above id s b)
    ]

-- two items of different numbers weigh no more than all
pub total_two : {A : Type 0} (key weight : A → ℕ) (xs : List A) (x y : A) → Has xs x → Has xs y → key x ≢ key y → weight x + weight y ≤ total weight xs
total_two key weight [] x y hx hy ne = absurd hx
total_two key weight (z ∷ zs) x y (inl ex) (inl ey) ne = absurd (ne (ap key (sym ex) ∙ ap key ey))
total_two key weight (z ∷ zs) x y (inl ex) (inr hy) ne = omega (arith, ap weight ex, total_has weight zs y hy)
total_two key weight (z ∷ zs) x y (inr hx) (inl ey) ne = omega (arith, ap weight ey, total_has weight zs x hx)
total_two key weight (z ∷ zs) x y (inr hx) (inr hy) ne = omega (arith, total_two key weight zs x y hx hy ne)

pub counted : (id : ℕ) (fs : List Frame) → Has (identities fs) id → 1 ≤ frames_named id fs
counted id [] h = absurd h
counted id (f ∷ fs) (inl e) = rw (eq-eqb f.identity id e) (omega arith)
counted id (f ∷ fs) (inr h) = omega (arith, counted id fs h)

pub frame_named : (fs : List Frame) (f : Frame) → Has fs f → Has (identities fs) f.identity
frame_named fs f h = has_map (λ (g : Frame). g.identity) fs f h

module _ (P : Starts) (constants : JobConstants) (job : Job) (o : TasksInOrder P constants job) where
  -- no two tasks have frames of one identity
  pub one_task : (t u : Task) → Has job.tasks t → Has job.tasks u → (id : ℕ) → Has (identities t.frames) id → Has (identities u.frames) id → (t.number ≢ u.number) → ⊥
  one_task t u ht hu id mine theirs ne =
      let both = total_two (λ (v : Task). v.number) (λ (v : Task). frames_named id v.frames) job.tasks t u ht hu ne in
      omega (arith, both, o.apart id, counted id t.frames mine, counted id u.frames theirs)

  -- nor has one task two
  one_frame : (t : Task) → Has job.tasks t → (id : ℕ) → frames_named id t.frames ≤ 1
  one_frame t h id = omega (arith, total_has (λ (v : Task). frames_named id v.frames) job.tasks t h, o.apart id)

  twice : (id : ℕ) (e : Frame) (more : List Frame) (g : Frame) → e.identity ≡ id → frames_named id (e ∷ more) ≤ 1 → Has more g → g.identity ≡ id → ⊥
  twice id e more g is one b eg = grind (arith, counted, frame_named)

  same_frame : (fs : List Frame) (f g : Frame) (id : ℕ) → frames_named id fs ≤ 1 → Has fs f → Has fs g → f.identity ≡ id → g.identity ≡ id → f ≡ g
  same_frame [] f g id one hf hg ef eg = absurd hf
  same_frame (e ∷ more) f g id one (inl a) (inl b) ef eg = sym a ∙ b
  same_frame (e ∷ more) f g id one (inl a) (inr b) ef eg = absurd (twice id e more g (ap (λ (z : Frame). z.identity) a ∙ ef) one b eg)
  same_frame (e ∷ more) f g id one (inr a) (inl b) ef eg = absurd (twice id e more f (ap (λ (z : Frame). z.identity) b ∙ eg) one a ef)
  same_frame (e ∷ more) f g id one (inr a) (inr b) ef eg = same_frame more f g id (omega arith) a b ef eg

  pub frame_is : (t : Task) → Has job.tasks t → (f g : Frame) → Has t.frames f → Has t.frames g → f.identity ≡ g.identity → f ≡ g
  frame_is t h f g hf hg e = same_frame t.frames f g g.identity (one_frame t h g.identity) hf hg e refl
