-- Names of a frame on top are in nobody's reach but its own.
use Rattle.std.proofs.Common.{◌≡◌, ◌≢◌, ◌+◌, ◌<◌, List, [], ◌∷◌, Some, refl, sym, ◌∙◌, ap, arith, inl, inr, subst}
use Rattle.std.proofs.lemmas.Bool.Decides.{eqb_tells}
use Rattle.b67_lemmas.specs.Lists.{Has}
use Rattle.b67_lemmas.proofs.Members.{keyed_has, total_change, total_has}
use Rattle.b67_model.specs.Common.{Frame, Task, JobConstants, Job, frames_named, IsSegment, TasksInOrder}
use Rattle.b67_model.specs.Keyed.{keyed, change_keyed}
use Rattle.b67_law.proofs.Looks.{above_one}
use Rattle.b67_layout.proofs.Sessions.{change-kept}

-- the top frame of a live task
pub record IsOnTop (constants : JobConstants) (job : Job) (t : Task) (f : Frame) (below : List Frame) : Type 0 where
  pub order : TasksInOrder (IsSegment constants) constants job
  pub there : keyed (λ (u : Task). u.number) t.number job.tasks ≡ Some t
  pub frames : t.frames ≡ f ∷ below

named_first : (f : Frame) (below : List Frame) → frames_named f.identity (f ∷ below) ≡ 1 + frames_named f.identity below
named_first f below = elim (eqb_tells f.identity f.identity) [ inl e ↦ rw e.0 refl | inr e ↦ absurd (e.1 refl) ]

module _ (constants : JobConstants) (job : Job) (t : Task) (f : Frame) (below : List Frame) (top : IsOnTop constants job t f below) where
  pub live : Has job.tasks t
  live = (keyed_has (λ (u : Task). u.number) t.number job.tasks t top.there).0

  pub high : 1 < f.identity
  high = above_one (IsSegment constants) constants job top.order t live f (subst (λ (fs : List Frame). Has fs f) (sym top.frames) (inl refl))

  own_named : frames_named f.identity t.frames ≡ 1 + frames_named f.identity below
  own_named = ap (frames_named f.identity) top.frames ∙ named_first f below

  -- it stands once
  pub under : frames_named f.identity below ≡ 0
  under = omega (arith, own_named, total_has (λ (u : Task). frames_named f.identity u.frames) job.tasks t live, top.order.apart f.identity)

  pub elsewhere : (u : Task) → Has job.tasks u → u.number ≢ t.number → frames_named f.identity u.frames ≡ 0
  elsewhere u h ne = elim (change-kept (λ (v : Task). v.number) t.number (λ (v : Task). record t { frames = [] }) job.tasks t top.there u h) [
    | inl k ↦
        let e = total_change (λ (v : Task). v.number) (λ (v : Task). frames_named f.identity v.frames) t.number t (record t { frames = [] }) job.tasks top.there in
        let l = total_has (λ (v : Task). frames_named f.identity v.frames) (change_keyed (λ (v : Task). v.number) t.number (λ (v : Task). record t { frames = [] }) job.tasks) u k in
        omega (arith, e, l, own_named, top.order.apart f.identity)
    | inr k ↦ absurd (ne (ap (λ (v : Task). v.number) k.0))
  ]
