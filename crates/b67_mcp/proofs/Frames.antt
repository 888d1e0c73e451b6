-- A call is cut off a task's frames: what others, and the task where it waits, see of these.
use Rattle.std.proofs.Common.{◌≡◌, ◌≢◌, ℕ, ◌<◌, List, [], ◌∷◌, ◌++◌, map, refl, sym, ◌∙◌, ap, arith, inl, inr, subst}
use Rattle.std.proofs.lemmas.Bool.{ne_eqb}
use Rattle.b67_word.specs.declared.couples.Place.{Place}
use Rattle.b67_lemmas.specs.Lists.{Has, Falls}
use Rattle.b67_lemmas.proofs.Members.{falls_low, has_map}
use Rattle.b67_model.specs.Common.{Word, Frame, Marked, Condition, Ready, Awaits, WaitsAt, Task, Job, SessionJob, below_top, with_top_cells, answered, Session, Known, known_of, known_numbers, from_frame, outer_of, reach_of, IsEntered, NamesEntered, ConditionInOrder}
use Rattle.b67_model.specs.Keyed.{change_keyed}
use Rattle.b67_layout.specs.Common.{IsInOrderButCounts, Placement, spot_in, IsRunning, here}
use Rattle.b67_stack.specs.Stacks.{StackPlace}
use Rattle.b67_layout.proofs.Common.{running_in_order, IsDependedOn, Replaces}
use Rattle.b67_layout.proofs.Leaves.{Leaver, Frames-below}
use Rattle.b67_mcp.specs.Calls.{MayCut}
use Rattle.b67_mcp.proofs.Cuts.{Cut, cut_of}
use Rattle.b67_mcp.proofs.CallTables.{WaitsThere}

-- a marked frame on top isn't one whose cell is waited at
not_waited : (g : Frame) (rest : List Known) (bound f : ℕ) → g.standing ≡ Marked → Falls bound (known_numbers (known_of g ∷ rest)) → NamesEntered (known_of g ∷ rest) f → f ≢ g.identity
not_waited g rest bound f marked falls names e = by names.among
  where
    by : Has (known_of g ∷ rest) (f, names.standing) → ⊥
    by (inl is) =
        let same : g.standing ≡ names.standing = ap (λ (k : Known). k.1) is in
        subst IsEntered (sym same ∙ marked) names.entered
    by (inr k) = let low : f < g.identity = falls_low g.identity (known_numbers rest) f falls.1 (has_map (λ (k : Known). k.0) rest (f, names.standing) k) in omega (arith, low, e)

module _ (plan : Placement) (s : Session) (m : SessionJob) (t : Task) (o : IsInOrderButCounts s) (runs : IsRunning plan s.jobs m t) (may : MayCut m t) where
  cut : Cut m t
  cut = cut_of plan s m t o runs may

  leaver : Leaver plan s m t cut.f (cut.next ∷ cut.more)
  leaver = record { ordered = o; running = runs; frames = cut.frames; free = cut.free }

  seen_below : (c k : ℕ) (outer : ℕ → StackPlace) (id : ℕ) → IsDependedOn m.progress.job c → spot_in k outer (from_frame c (below_top t.frames)) id ≡ spot_in k outer (from_frame c t.frames) id
  seen_below c k outer id d = ap (λ (fs : List Frame). spot_in k outer (from_frame c (below_top fs)) id) cut.frames ∙ (Frames-below plan s m t cut.f (cut.next ∷ cut.more) leaver).seen c k outer id d

  -- others see the same of the task without the call, and with a word on the frame below
  pub replaces_cut : (q : Place) (job' : Job) → job'.tasks ≡ change_keyed (λ (u : Task). u.number) t.number (λ (u : Task). answered (here m t q) []) m.progress.job.tasks → Replaces m.progress.job job' t (answered (here m t q) [])
  replaces_cut q job' tasks = record { there = runs.task; number = refl; critical = refl; parents = refl; tasks = tasks; seen = seen_below }

  pub replaces_answered : (q : Place) (w : Word) (job' : Job) → job'.tasks ≡ change_keyed (λ (u : Task). u.number) t.number (λ (u : Task). answered (here m t q) (w ∷ [])) m.progress.job.tasks
      → Replaces m.progress.job job' t (answered (here m t q) (w ∷ []))
  replaces_answered q w job' tasks = grind (arith, seen_below)

  waits_by : (d : Condition) → ConditionInOrder (reach_of m.progress.job t) d → WaitsThere d t.frames (below_top t.frames)
  waits_by Ready h = tt
  waits_by (Awaits n) h = tt
  waits_by (WaitsAt f offset) h = λ k outer.
      (let falls = (running_in_order plan s m t o runs).1.falls in
      let N : List Frame → Type 0 = λ fs. NamesEntered (map known_of fs ++ outer_of m.progress.job t) f in
      let F : List Frame → Type 0 = λ fs. Falls m.progress.job.next_frame (known_numbers (map known_of fs ++ outer_of m.progress.job t)) in
      let apart = not_waited cut.f (map known_of (cut.next ∷ cut.more) ++ outer_of m.progress.job t) m.progress.job.next_frame f cut.marked (subst F cut.frames falls) (subst N cut.frames h.0) in
      let E : List Frame → Type 0 = λ fs. spot_in k outer (below_top fs) f ≡ spot_in k outer fs f in
      subst E (sym cut.frames) (rw (ne_eqb cut.f.identity f (λ e. apart (sym e))) refl))

  pub waits_cut : WaitsThere t.condition t.frames (below_top t.frames)
  waits_cut = waits_by t.condition (running_in_order plan s m t o runs).1.condition

  waits_with : (d : Condition) (cells : List Word) → WaitsThere d t.frames (below_top t.frames) → WaitsThere d t.frames (with_top_cells (below_top t.frames) cells)
  waits_with d cells h = grind arith

  pub waits_answered : (cells : List Word) → WaitsThere t.condition t.frames (with_top_cells (below_top t.frames) cells)
  waits_answered cells = waits_with t.condition cells waits_cut
