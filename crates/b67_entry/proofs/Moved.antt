-- The word that is returned, seen from the task without the frame.
use Rattle.std.proofs.Common.{◌≡◌, ◌≢◌, ℕ, List, ◌∷◌, ◌++◌, map, Ok, refl, sym, ◌∙◌, ap, not, inl, inr, subst}
use Rattle.std.specs.Prelude.{◌==◌}
use Rattle.std.proofs.lemmas.Bool.Decides.{eqb_tells}
use Rattle.b67_word.specs.Tagged.{Tagged}
use Rattle.b67_lemmas.specs.Lists.{Has}
use Rattle.b67_lemmas.proofs.Members.{has_filter_in, keyed_has}
use Rattle.b67_model.specs.Words as Words
use Rattle.b67_model.specs.Common.{Word, Operand, Name, Ref, Row, Element, Original, Proc, Intrinsic, Ready, Frame, Standing, Array, Task, Job, SessionJob, owner_of, returnable, Session, IsSegment, IsEntered, Known, known_of, outer_of, reach_of, NamesEntered, NamesArray, WordInOrder}
use Rattle.b67_layout.specs.Common.{IsInOrderButCounts, Placement, spot_in, outer_spots, spots, shape, IsRunning, RepresentsSession}
use Rattle.b67_law.proofs.Reaches.{Alike, alike_has, alike_under}
use Rattle.b67_stack.specs.declared.Cpu.{Cpu}
use Rattle.b67_stack.specs.Common.{Shape, Fits, StackPlace, Storage}
use Rattle.b67_layout.proofs.Fresh.{running_in_order}
use Rattle.b67_refer.specs.Cells.{StandsFor}
use Rattle.b67_layout.proofs.Nowhere.{shape-same}
use Rattle.b67_layout.proofs.Replaces.{outer_spots-after}
use Rattle.b67_layout.proofs.Leaves.{may_leave, Frames-below, replaces}
use Rattle.b67_layout.proofs.LeftOrders.{left_outer}
use Rattle.b67_entry.specs.Left.{Returns}
use Rattle.b67_entry.specs.Returned.{ReturnsWord}
use Rattle.b67_entry.proofs.Leaving.{some_first, may, outer, job_at, task_left, scene_left}
use Rattle.b67_entry.proofs.Returning.{other_frame, other_row, other_element}
use Rattle.b67_entry.proofs.CopyRefusals.{found_array}
use Rattle.b67_entry.proofs.Replacing.{Puts, new_shape, frame_is, puts_word}

module _ (x : Storage) (old : Cpu) (plan : Placement) (s : Session) (m : SessionJob) (t : Task) (o : IsInOrderButCounts s) (h : RepresentsSession x old plan s) (runs : IsRunning plan s.jobs m t) (a : Returns m t) where
  abbrev job : Job
  job = job_at x old plan s m t o h runs a Ready

  abbrev task : Task
  task = task_left x old plan s m t o h runs a Ready

  outside_alike : Alike (outer_of m.progress.job t) (outer_of job task)
  outside_alike = left_outer m.constants m.progress.job t a.f (a.next ∷ a.more) (may_leave plan s m t a.f (a.next ∷ a.more) (may x old plan s m t o h runs a)) a.back.segment a.back.place (some_first a.next a.more) a.starts

  -- what was entered in reach is so still, but for the frame that was left
  known_moved : (n : ℕ) (st : Standing) → IsEntered st → n ≢ a.f.identity → Has (reach_of m.progress.job t) (n, st) → Has (reach_of job task) (n, st)
  known_moved n st e ne k =
      let there : Has (map known_of (a.f ∷ a.next ∷ a.more) ++ outer_of m.progress.job t) (n, st) = subst (λ (fs : List Frame). Has (map known_of fs ++ outer_of m.progress.job t) (n, st)) a.frames k in
      let under : Has (map known_of (a.next ∷ a.more) ++ outer_of m.progress.job t) (n, st) = elim there [
        | inl is ↦ absurd (ne (sym (ap (λ (z : Known). z.0) is)))
        | inr k ↦ k
      ] in
      alike_has (map known_of (a.next ∷ a.more) ++ outer_of m.progress.job t) (map known_of (a.next ∷ a.more) ++ outer_of job task) n st (alike_under (outer_of m.progress.job t) (outer_of job task) (a.next ∷ a.more) outside_alike) e under

  entered_moved : (n : ℕ) → n ≢ a.f.identity → NamesEntered (reach_of m.progress.job t) n → NamesEntered (reach_of job task) n
  entered_moved n ne g = record { standing = g.standing; among = known_moved n g.standing g.entered ne g.among; entered = g.entered }

  array_moved : (n : ℕ) → owner_of m.progress.job n ≢ a.f.identity → NamesArray m.progress.job.arrays (reach_of m.progress.job t) n → NamesArray job.arrays (reach_of job task) n
  array_moved n ne g =
      let is = found_array m.progress.job (reach_of m.progress.job t) n g (running_in_order plan s m t o runs).0.tasks.names in
      let apart : g.item.owner ≢ a.f.identity = λ e. ne (ap (λ (z : Array). z.owner) is ∙ e) in
      record {
        item = g.item;
        live = has_filter_in (λ (z : Array). not (z.owner == a.f.identity)) m.progress.job.arrays g.item g.live (elim (eqb_tells g.item.owner a.f.identity) [ inl e ↦ absurd (apart e.1) | inr e ↦ ap not e.0 ]);
        named = g.named;
        owner = entered_moved g.item.owner apart g.owner;
      }

  pub word_moved : (v : Word) → WordInOrder (IsSegment m.constants) m.progress.job.arrays (reach_of m.progress.job t) a.f.identity v → returnable m.progress.job a.f.identity v ≡ Ok v
      → WordInOrder (IsSegment m.constants) job.arrays (reach_of job task) a.next.identity v
  word_moved (Ref f offset) g e = (entered_moved f (other_frame m.progress.job a.f.identity f offset e) g.0, g.1)
  word_moved (Row n) g e = array_moved n (other_row m.progress.job a.f.identity n e) g
  word_moved (Element n index) g e = array_moved n (other_element m.progress.job a.f.identity n index e) g
  word_moved (Original n) g e = absurd (let z : ⊥ = cc in z)
  word_moved (Operand bits) g e = g
  word_moved (Name couple) g e = g
  word_moved (Proc segment level place) g e = g
  word_moved (Intrinsic number) g e = absurd g
  word_moved (Words.Segment number) g e = absurd g

  -- the spots that the task names then
  spots_same : spots plan m.constants.number job task ≡ spot_in plan.running (outer x old plan s m t o h runs a) (a.next ∷ a.more)
  spots_same =
      let by = replaces plan s m t a.f (a.next ∷ a.more) (may x old plan s m t o h runs a) job (a.next ∷ a.more) a.back.segment a.back.place Ready refl refl (Frames-below plan s m t a.f (a.next ∷ a.more) (may x old plan s m t o h runs a)) in
      let in_t = (keyed_has (λ (u : Task). u.number) t.number m.progress.job.tasks t runs.task).0 in
      let out : outer_spots plan m.constants.number job t.critical t.parents ≡ outer x old plan s m t o h runs a = λ z i. outer_spots-after plan m.constants.number m.progress.job job t task by t.parents t.critical (inr (t, in_t, refl)) i z in
      (λ z i. (ap (λ (k : ℕ). spot_in k (outer_spots plan m.constants.number job t.critical t.parents) (a.next ∷ a.more) i) (sym runs.slot) ∙ ap (λ (q : ℕ → StackPlace). spot_in plan.running q (a.next ∷ a.more) i) out) z)

  module _ (v : Word) (w : Tagged) (b : ReturnsWord x plan m t old a v w) where
    put : Puts x old plan s m t o h runs a v w
    put = puts_word x old plan s m t o h runs a v w b

    order : WordInOrder (IsSegment m.constants) m.progress.job.arrays (reach_of m.progress.job t) a.f.identity v
    order = subst (λ (f : Frame). WordInOrder (IsSegment m.constants) m.progress.job.arrays (reach_of m.progress.job t) f.identity v) (frame_is x old plan s m t o h runs a v w b) b.word.order

    fits_there : (i : ℕ) → Fits x.held (shape plan m.constants.number job (spots plan m.constants.number job task) v) i w
    fits_there i =
        let one : shape plan m.constants.number job (spots plan m.constants.number job task) v ≡ new_shape x old plan s m t o h runs a v =
        ap (λ (sp : ℕ → StackPlace). shape plan m.constants.number job sp v) spots_same ∙ shape-same plan m.constants.number job m.progress.job (spot_in plan.running (outer x old plan s m t o h runs a) (a.next ∷ a.more)) v (put.same job refl) in
        subst (λ (c : Shape). Fits x.held c i w) (sym one) (put.fits i)

    -- it is a word of the task without the frame
    pub stands_for : (i : ℕ) → StandsFor (scene_left x old plan s m t o h runs a) i a.next.identity w v
    stands_for i = by v (fits_there i) (word_moved v order b.passes) where
      by : (u : Word) → Fits x.held (shape plan m.constants.number (job_at x old plan s m t o h runs a Ready) (spots plan m.constants.number (job_at x old plan s m t o h runs a Ready) (task_left x old plan s m t o h runs a Ready)) u) i w
          → WordInOrder (IsSegment m.constants) (job_at x old plan s m t o h runs a Ready).arrays (reach_of (job_at x old plan s m t o h runs a Ready) (task_left x old plan s m t o h runs a Ready)) a.next.identity u
          → StandsFor (scene_left x old plan s m t o h runs a) i a.next.identity w u
      by (Operand bits) f g = (f, g)
      by (Name couple) f g = (f, g)
      by (Ref n offset) f g = (f, g)
      by (Row n) f g = (f, g)
      by (Element n index) f g = (f, g)
      by (Original n) f g = (f, g)
      by (Proc segment level place) f g = (f, g)
      by (Intrinsic number) f g = absurd g
      by (Words.Segment number) f g = absurd g
