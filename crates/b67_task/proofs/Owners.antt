-- Whose arrays the words of a task may name: its own, and those of the tasks above it. So no other task's word names an
-- array of a task that is above nobody who stays.
use Rattle.std.proofs.Common.{◌≡◌, ◌≢◌, ℕ, ◌<◌, List, [], ◌∷◌, ◌++◌, map, refl, sym, ap, arith, inl, inr, subst}
use Rattle.b67_lemmas.specs.Lists.{Has}
use Rattle.b67_model.specs.Words as Words
use Rattle.b67_model.specs.Common.{Word, Operand, Name, Ref, Row, Element, Original, Proc, Intrinsic, Frame, Standing, Array, Task, JobConstants, Job, Starts, Known, known_of, outer_of, reach_of, identities, WordInOrder, FramesInOrder, TaskInOrder, TasksInOrder}
use Rattle.b67_lemmas.proofs.Members.{has_append_cases, has_map, has_map_back, all_in}
use Rattle.b67_law.proofs.Looks.{above_one}
use Rattle.b67_law.proofs.Lines.{Above, outer_owned, one_task}
pub use Rattle.b67_law.proofs.Lines.{counted, total_two}

-- a word names only arrays that no frame of a task owns
abbrev pub Foreign : List Array → Task → ℕ → Type 0
Foreign arrays t a = (item : Array) × Has arrays item × (item.identity ≡ a) × (Has (identities t.frames) item.owner → ⊥)

abbrev pub NamesForeign : List Array → Task → Word → Type 0
NamesForeign arrays t (Row a) = Foreign arrays t a
NamesForeign arrays t (Element a index) = Foreign arrays t a
NamesForeign arrays t (Original a) = Foreign arrays t a
NamesForeign arrays t (Operand bits) = Unit {0}
NamesForeign arrays t (Name couple) = Unit {0}
NamesForeign arrays t (Ref frame offset) = Unit {0}
NamesForeign arrays t (Proc segment level place) = Unit {0}
NamesForeign arrays t (Intrinsic number) = Unit {0}
NamesForeign arrays t (Words.Segment number) = Unit {0}

module _ (P : Starts) (constants : JobConstants) (job : Job) (g : TasksInOrder P constants job) (t u : Task) (lt : Has job.tasks t) (lu : Has job.tasks u) (other : t.number ≢ u.number) (not_above : Has u.parents t.number → ⊥) where
  high : (id : ℕ) → Has (identities t.frames) id → 1 < id
  high id h =
      let r = has_map_back (λ (f : Frame). f.identity) t.frames id h in
      subst (λ (n : ℕ). 1 < n) r.is (above_one P constants job g t lt r.item r.among)

  -- no frame of the other task's reach is one of this task's
  reach_apart : (id : ℕ) (s : Standing) → Has (reach_of job u) (id, s) → Has (identities t.frames) id → ⊥
  reach_apart id s h mine = elim (has_append_cases (map known_of u.frames) (outer_of job u) (id, s) h) [
    | inl a ↦
        let r = has_map_back known_of u.frames (id, s) a in
        let theirs : Has (identities u.frames) id = subst (Has (identities u.frames)) (ap (λ (n : Known). n.0) r.is) (has_map (λ (f : Frame). f.identity) u.frames r.item r.among) in
        one_task P constants job g t u lt lu id mine theirs other
    | inr b ↦ by (outer_owned job u.critical u.parents id s b)
  ] where
    by : Above job u.parents id → ⊥
    by (inl low) = omega (arith, low, high id mine)
    by (inr (q, lq, above, among)) = one_task P constants job g t q lt lq id mine among (λ e. not_above (subst (Has u.parents) (sym e) above))

  foreign : (reach : List Known) → ((id : ℕ) (s : Standing) → Has reach (id, s) → Has (identities t.frames) id → ⊥) → (owner : ℕ) → (Has (identities t.frames) owner → ⊥) → (w : Word) → WordInOrder P job.arrays reach owner w → NamesForeign job.arrays t w
  foreign reach apart owner own w o = grind arith

  frames_foreign : (outer : List Known) (fs : List Frame) → FramesInOrder P job.arrays outer fs → ((id : ℕ) (s : Standing) → Has (map known_of fs ++ outer) (id, s) → Has (identities t.frames) id → ⊥) → (f : Frame) → Has fs f → (w : Word) → Has f.cells w → NamesForeign job.arrays t w
  frames_foreign outer [] order apart f h w i = absurd h
  frames_foreign outer (e ∷ below) order apart f (inl same) w i =
      let here : Has e.cells w = subst (λ (z : Frame). Has z.cells w) (sym same) i in
      foreign (map known_of (e ∷ below) ++ outer) apart e.identity (λ k. apart e.identity e.standing (inl refl) k) w (all_in (WordInOrder P job.arrays (map known_of (e ∷ below) ++ outer) e.identity) e.cells w order.0.0 here)
  frames_foreign outer (e ∷ below) order apart f (inr h) w i = frames_foreign outer below order.2 (λ id s k. apart id s (inr k)) f h w i

  -- the words of the other task
  pub words_foreign : (f : Frame) → Has u.frames f → (w : Word) → Has f.cells w → NamesForeign job.arrays t w
  words_foreign f h w i = frames_foreign (outer_of job u) u.frames (all_in (TaskInOrder P constants job) job.tasks u g.tasks lu).frames reach_apart f h w i
