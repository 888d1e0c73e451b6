-- The intrinsics that the MCP's cells hold have numbers from 8 to 18.
use Rattle.std.proofs.Common.{◌≡◌, ℕ, zero, suc, ◌≤◌, List, [], ◌∷◌, flat_map, Option, Some, unwrap_or, Ok, refl, sym, ◌∙◌, ap, subst, inl, inr, arith}
use Rattle.b67_model.specs.Common.{Answer, Word, Operand, Name, Ref, Row, Element, Original, Proc, Intrinsic, Frame, Array, Task, JobConstants, SessionJob, OperatorContext, mcp, no_frame, all_frames, cell, place_of, End, AtIntrinsic, Link, Stops, Leads, link_at, link_in, link_from, link, chase_on, follow_reference, Session, Starts, IsSegment, Known, outer_of, WordInOrder, EntryInOrder, FramesInOrder, TaskInOrder, TasksInOrder}
use Rattle.b67_model.specs.Keyed.{keyed}
use Rattle.b67_lemmas.specs.Lists.{Has}
use Rattle.b67_lemmas.proofs.Members.{all_in, has_append_cases, has_flat_back, keyed_has}
use Rattle.b67_model.specs.Words as Words
use Rattle.b67_layout.specs.Common.{IsInOrderButCounts, Placement, IsRunning, here}
use Rattle.b67_layout.proofs.Fresh.{running_in_order}
use Rattle.b67_exec_cells.specs.Called.{called_in}
use Rattle.b67_mcp.proofs.Callings.{calling}
use Rattle.b67_law.proofs.Chases.{cell_has}
use Rattle.b67_model.specs.declared.limits.TheConstants.{MOST_LINKS}

abbrev IsLow : Word → Type 0
IsLow (Intrinsic n) = (8 ≤ n) × (n ≤ 18)
IsLow _ = Unit {0}

abbrev EndLow : Answer End → Type 0
EndLow (Ok (AtIntrinsic n)) = (8 ≤ n) × (n ≤ 18)
EndLow _ = Unit {0}

abbrev LinkLow : Link → Type 0
LinkLow (Stops end) = EndLow end
LinkLow (Leads w) = Unit {0}

of_task : (P : Starts) (arrays : List Array) (reach : List Known) (owner : ℕ) (w : Word) → WordInOrder P arrays reach owner w → IsLow w
of_task P arrays reach owner w g = grind arith

of_entry : (arrays : List Array) (w : Word) → EntryInOrder arrays w → IsLow w
of_entry arrays w g = grind arith

of_frames : (P : Starts) (arrays : List Array) (outer : List Known) (fs : List Frame) (f : Frame) (w : Word) → FramesInOrder P arrays outer fs → Has fs f → Has f.cells w → IsLow w
of_frames P arrays outer [] f w g h k = absurd h
of_frames P arrays outer (y ∷ ys) f w g (inl e) k = grind (arith, all_in)
of_frames P arrays outer (y ∷ ys) f w g (inr h) k = of_frames P arrays outer ys f w g.2 h k

module _ (constants : JobConstants) (h : OperatorContext) (same : h.constants ≡ constants) (o : TasksInOrder (IsSegment constants) constants h.job) where
  in_frames : (f : Frame) (w : Word) → Has (all_frames h) f → Has f.cells w → IsLow w
  in_frames f w k c = elim (has_append_cases (flat_map (λ (t : Task). t.frames) h.job.tasks) (h.constants.dictionary ∷ mcp ∷ []) f k) [
    | inl a ↦
        let p = has_flat_back (λ (t : Task). t.frames) h.job.tasks f a in
        let own = all_in (TaskInOrder (IsSegment constants) constants h.job) h.job.tasks p.item o.tasks p.among in
        of_frames (IsSegment constants) h.job.arrays (outer_of h.job p.item) p.item.frames f w own.frames p.inside c
    | inr (inl e) ↦
        let there : Has constants.dictionary.cells w = subst (λ (z : Frame). Has z.cells w) (sym e ∙ ap (λ (z : JobConstants). z.dictionary) same) c in
        of_entry h.job.arrays w (all_in (EntryInOrder h.job.arrays) constants.dictionary.cells w o.entries there)
    | inr (inr (inl e)) ↦
        let there : Has mcp.cells w = subst (λ (z : Frame). Has z.cells w) (sym e) c in
        all_in IsLow mcp.cells w ((omega arith, omega arith), ((omega arith, omega arith), ((omega arith, omega arith), ((omega arith, omega arith), ((omega arith, omega arith), ((omega arith, omega arith), ((omega arith, omega arith), ((omega arith, omega arith), ((omega arith, omega arith), ((omega arith, omega arith), ((omega arith, omega arith), tt))))))))))) there
    | inr (inr (inr z)) ↦ absurd z
  ]

  in_frame : (id : ℕ) (q : Option Frame) → keyed (λ (f : Frame). f.identity) id (all_frames h) ≡ q → (w : Word) → Has (unwrap_or q no_frame).cells w → IsLow w
  in_frame id q e w c = grind (arith, in_frames, keyed_has)

  at_word : (f offset : ℕ) (w : Word) → IsLow w → LinkLow (link_at h f offset w)
  at_word f offset w g = grind arith

  at_cell : (f offset : ℕ) (a : Answer Word) → cell h f offset ≡ a → LinkLow (link_in h f offset a)
  at_cell f offset a e = grind (arith, at_word, in_frame, cell_has)

  at_place : (a : Answer (ℕ × ℕ)) → LinkLow (link_from h a)
  at_place a = grind (arith, at_cell)

  chased : (links : ℕ) (l : Link) → LinkLow l → EndLow (chase_on h links l)
  chased links (Stops end) g = g
  chased zero (Leads w) g = tt
  chased (suc links) (Leads w) g = chased links (link h w) (at_place (place_of h w))

  followed : (w : Word) → EndLow (follow_reference h w)
  followed (Name c) = chased MOST_LINKS (Leads (Name c)) tt
  followed (Ref f offset) = chased MOST_LINKS (Leads (Ref f offset)) tt
  followed (Operand bits) = tt
  followed (Row a) = tt
  followed (Element a i) = tt
  followed (Original a) = tt
  followed (Proc s l p) = tt
  followed (Intrinsic n) = tt
  followed (Words.Segment n) = tt

pub numbered : (plan : Placement) (s : Session) (m : SessionJob) (t : Task) (n : ℕ) → IsInOrderButCounts s → IsRunning plan s.jobs m t → called_in m t ≡ Some n → (8 ≤ n) × (n ≤ 18)
numbered plan s m t n o runs c =
    let k = calling m t n c in
    subst EndLow k.ends (followed m.constants (here m t k.next) refl (running_in_order plan s m t o runs).0.tasks k.reference)
