-- No two live tasks of a job have a frame of one identity.
use Rattle.std.proofs.Common.{◌≡◌, ◌≢◌, ℕ, ◌+◌, ◌≤◌, List, [], ◌∷◌, refl, sym, ◌∙◌, ap, arith, inl, inr}
use Rattle.std.proofs.lemmas.Bool.{eq-eqb}
use Rattle.b67_lemmas.specs.Lists.{Has, total}
use Rattle.b67_model.specs.Common.{Frame, Task, JobConstants, Job, Starts, TasksInOrder, frames_named}
use Rattle.b67_lemmas.proofs.Members.{total_has}

-- two items of different numbers weigh no more than all
pub total_two : {A : Type 0} (key weight : A → ℕ) (xs : List A) (x y : A) → Has xs x → Has xs y → key x ≢ key y → weight x + weight y ≤ total weight xs
total_two key weight [] x y hx hy ne = absurd hx
total_two key weight (z ∷ zs) x y (inl ex) (inl ey) ne = absurd (ne (ap key (sym ex) ∙ ap key ey))
total_two key weight (z ∷ zs) x y (inl ex) (inr hy) ne = omega (arith, ap weight ex, total_has weight zs y hy)
total_two key weight (z ∷ zs) x y (inr hx) (inl ey) ne = omega (arith, ap weight ey, total_has weight zs x hx)
total_two key weight (z ∷ zs) x y (inr hx) (inr hy) ne = omega (arith, total_two key weight zs x y hx hy ne)

counted : (id : ℕ) (fs : List Frame) (f : Frame) → Has fs f → f.identity ≡ id → 1 ≤ frames_named id fs
counted id [] f h e = absurd h
counted id (g ∷ fs) f (inl same) e = rw (eq-eqb g.identity id (ap (λ (z : Frame). z.identity) same ∙ e)) (omega arith)
counted id (g ∷ fs) f (inr h) e = omega (arith, counted id fs f h e)

pub frames_apart : (P : Starts) (constants : JobConstants) (job : Job) → TasksInOrder P constants job → (t u : Task) → Has job.tasks t → Has job.tasks u → t.number ≢ u.number → (f g : Frame) → Has t.frames f → Has u.frames g → f.identity ≢ g.identity
frames_apart P constants job o t u lt lu ne f g hf hg e =
    let both = total_two (λ (v : Task). v.number) (λ (v : Task). frames_named g.identity v.frames) job.tasks t u lt lu ne in
    omega (arith, both, o.apart g.identity, counted g.identity t.frames f hf e, counted g.identity u.frames g hg refl)
