-- What a task with other cells on top sees: the same frames at the same places, and cells further down.
use Rattle.std.proofs.Common.{◌≡◌, ◌≢◌, ℕ, zero, suc, List, [], ◌∷◌, ◌++◌, map, flat_map, reverse, Option, Some, Ok, refl, sym, ◌∙◌, ap, true, false, ◌==◌, ◌⊎◌, ⊎_elim, subst, append_assoc, unwrap_or, arith}
use Rattle.std.specs.List.{slice_get}
use Rattle.std.specs.Option.{ok_or}
use Rattle.std.proofs.lemmas.Bool.{cases_Bool}
use Rattle.std.proofs.lemmas.Option.{same_Some, none-some}
use Rattle.std.proofs.lemmas.List.{reverse-append}
use Rattle.b67_word.specs.declared.couples.Place.{Place}
use Rattle.b67_word.specs.declared.faults.Fault.TheVariants.{InvalidAddress}
use Rattle.b67_model.specs.Common.{Answer, Word, Frame, Task, Job, SessionJob, top, with_top_cells, with_task, all_frames, frame, no_frame, level_of_frame, cell, cell_of, known_of, outer_reach, reach_of, Session}
use Rattle.b67_model.specs.Keyed.{keyed, change_keyed}
use Rattle.b67_lemmas.specs.Lists.{Has}
use Rattle.b67_lemmas.proofs.Members.{has_get, has_reverse_back, change_found, change_other, keyed_has}
use Rattle.b67_model.specs.State as State
use Rattle.b67_layout.specs.Common.{IsInOrderButCounts, Placement, slot_of, spot_in, outer_spots, spots, IsRunning, here}
use Rattle.b67_stack.specs.Stacks.{StackPlace}
use Rattle.b67_layout.proofs.Common.{OnTop, task_with, spots-with, fresh}
use Rattle.b67_layout.proofs.Others.{outer_spots-after}
use Rattle.b67_law.proofs.Chases.{ok_some}
use Rattle.b67_law.proofs.Looks.{known_cells}

-- a list of frames of which one list of a task has other cells on top
abbrev pub Seen : List Frame → List Word → Option Frame → Option Frame → Type 0
Seen fs cs new old = (new ≡ old) ⊎ ((old ≡ Some (top fs)) × (new ≡ Some (record (top fs) { cells = cs })))

abbrev look : ℕ → List Frame → Option Frame
look id xs = keyed (λ (f : Frame). f.identity) id xs

look-own : (id : ℕ) (fs : List Frame) (cs : List Word) (more : List Frame) → Seen fs cs (look id (with_top_cells fs cs ++ more)) (look id (fs ++ more))
look-own id fs cs more = grind arith

look-past : (id : ℕ) (fs : List Frame) (cs : List Word) (xs new old : List Frame) → Seen fs cs (look id new) (look id old) → Seen fs cs (look id (xs ++ new)) (look id (xs ++ old))
look-past id fs cs [] new old s = s
look-past id fs cs (f ∷ xs) new old s = grind (arith, look-past id fs cs xs new old s)

abbrev frames_of : List Task → List Frame
frames_of ts = flat_map (λ (u : Task). u.frames) ts

look-tasks : (id : ℕ) (t : Task) (cs : List Word) (q : Place) (base : List Frame) (ts : List Task) → keyed (λ (u : Task). u.number) t.number ts ≡ Some t
    → Seen t.frames cs (look id (frames_of (change_keyed (λ (u : Task). u.number) t.number (λ (u : Task). task_with t cs q) ts) ++ base)) (look id (frames_of ts ++ base))
look-tasks id t cs q base [] k = absurd (none-some t k)
look-tasks id t cs q base (y ∷ ys) k = ⊎_elim
    (λ (e : (y.number == t.number) ≡ true).
    let same : y ≡ t = same_Some y t (rw e at k) in
    let P : Task → Type 0 = λ z. Seen t.frames cs (look id (frames_of (task_with t cs q ∷ ys) ++ base)) (look id (frames_of (z ∷ ys) ++ base)) in
    let L : List Frame → List Frame → Type 0 = λ a b. Seen t.frames cs (look id a) (look id b) in
    let own : L (with_top_cells t.frames cs ++ (frames_of ys ++ base)) (t.frames ++ (frames_of ys ++ base)) = look-own id t.frames cs (frames_of ys ++ base) in
    let here_own : L (frames_of (task_with t cs q ∷ ys) ++ base) (frames_of (t ∷ ys) ++ base) = rw (append_assoc, append_assoc) own in
    rw e (subst P (sym same) here_own))
    (λ (e : (y.number == t.number) ≡ false).
    let at : keyed (λ (u : Task). u.number) t.number ys ≡ Some t = rw e at k in
    let L : List Frame → List Frame → Type 0 = λ a b. Seen t.frames cs (look id a) (look id b) in
    let new = change_keyed (λ (u : Task). u.number) t.number (λ (u : Task). task_with t cs q) ys in
    let past : L (y.frames ++ (frames_of new ++ base)) (y.frames ++ (frames_of ys ++ base)) = look-past id t.frames cs y.frames (frames_of new ++ base) (frames_of ys ++ base) (look-tasks id t cs q base ys at) in
    let all : L (frames_of (y ∷ new) ++ base) (frames_of (y ∷ ys) ++ base) = rw (append_assoc, append_assoc) past in
    rw e all)
    (cases_Bool (y.number == t.number))

-- the item at a place of the front part
get_front : {A : Type 0} (xs ys zs : List A) (i : ℕ) (w : A) → slice_get (xs ++ ys) i ≡ Some w → (Has ys w → ⊥) → slice_get (xs ++ zs) i ≡ Some w
get_front [] ys zs i w e other = absurd (other (has_get ys i w e))
get_front (x ∷ xs) ys zs zero w e other = e
get_front (x ∷ xs) ys zs (suc i) w e other = get_front xs ys zs i w e other

get_other : (gone rest put : List Word) (i : ℕ) (w : Word) → slice_get (reverse (gone ++ rest)) i ≡ Some w → (Has gone w → ⊥) → slice_get (reverse (put ++ rest)) i ≡ Some w
get_other gone rest put i w e other = grind (arith, reverse-append, get_front, has_reverse_back)

cell_other : (f : Frame) (gone rest put : List Word) (offset : ℕ) (w : Word) → f.cells ≡ gone ++ rest → cell_of f offset ≡ Some w → (Has gone w → ⊥) → cell_of (record f { cells = put ++ rest }) offset ≡ Some w
cell_other f gone rest put offset w e found other = grind (arith, get_other)

module _ (plan : Placement) (s : Session) (m : SessionJob) (t : Task) (ordered : IsInOrderButCounts s) (runs : IsRunning plan s.jobs m t) (cs : List Word) (p : Place) where
  abbrev pub job_with : Job
  job_with = with_task m.progress.job (task_with t cs p)

  abbrev pub member_with : SessionJob
  member_with = record m { progress = record m.progress { job = with_task m.progress.job (task_with t cs p) } }

  on_top : OnTop m.progress.job (with_task m.progress.job (task_with t cs p)) t (task_with t cs p) m.progress.job.next_frame
  on_top = grind (arith, fresh)

  pub spots-same : (id : ℕ) → spots plan m.constants.number (with_task m.progress.job (task_with t cs p)) (task_with t cs p) id ≡ spots plan m.constants.number m.progress.job t id
  spots-same id =
      let own : t.critical ≢ m.progress.job.next_frame = (fresh plan s m t ordered runs).uncritical t (keyed_has (λ (u : Task). u.number) t.number m.progress.job.tasks t runs.task).0 in
      let outer : outer_spots plan m.constants.number (with_task m.progress.job (task_with t cs p)) t.critical t.parents ≡ outer_spots plan m.constants.number m.progress.job t.critical t.parents =
      λ z i. outer_spots-after plan m.constants.number m.progress.job (with_task m.progress.job (task_with t cs p)) t (task_with t cs p) m.progress.job.next_frame on_top t.parents t.critical own i z in
      ap (λ (o : ℕ → StackPlace). spot_in (slot_of plan m.constants.number t.number) o (with_top_cells t.frames cs) id) outer
      ∙ spots-with (slot_of plan m.constants.number t.number) (outer_spots plan m.constants.number m.progress.job t.critical t.parents) t.frames cs id

  -- the reach of each task
  reach-by : (parents : List ℕ) (c : ℕ) → outer_reach (with_task m.progress.job (task_with t cs p)) c parents ≡ outer_reach m.progress.job c parents
  reach-by [] c = refl
  reach-by (parent ∷ more) c = grind (arith, change_found, change_other, reach-by more)

  pub reach-same : reach_of (with_task m.progress.job (task_with t cs p)) (task_with t cs p) ≡ reach_of m.progress.job t
  reach-same = ap (λ ks. ks ++ outer_reach (with_task m.progress.job (task_with t cs p)) t.critical t.parents) (known_cells t.frames cs) ∙ ap (λ ks. map known_of t.frames ++ ks) (reach-by t.parents t.critical)

  -- a frame that is looked up
  look-same : (q : Place) (id : ℕ) → Seen t.frames cs (look id (all_frames (here member_with (task_with t cs p) q))) (look id (all_frames (here m t q)))
  look-same q id = look-tasks id t cs p (m.constants.dictionary ∷ State.mcp ∷ []) m.progress.job.tasks runs.task

  pub level-same : (q : Place) (id : ℕ) → level_of_frame (frame (here member_with (task_with t cs p) q) id) ≡ level_of_frame (frame (here m t q) id)
  level-same q id = ⊎_elim
      (λ (e : look id (all_frames (here member_with (task_with t cs p) q)) ≡ look id (all_frames (here m t q))). ap (λ o. level_of_frame (unwrap_or o no_frame)) e)
      (λ (e : (look id (all_frames (here m t q)) ≡ Some (top t.frames)) × (look id (all_frames (here member_with (task_with t cs p) q)) ≡ Some (record (top t.frames) { cells = cs }))).
      ap (λ o. level_of_frame (unwrap_or o no_frame)) e.1 ∙ ap (λ o. level_of_frame (unwrap_or o no_frame)) (sym e.0))
      (look-same q id)

  -- a cell that stays
  pub cell-same : (q : Place) (gone rest put : List Word) (id offset : ℕ) (w : Word) → (top t.frames).cells ≡ gone ++ rest → cs ≡ put ++ rest → cell (here m t q) id offset ≡ Ok w → (Has gone w → ⊥)
      → cell (here member_with (task_with t cs p) q) id offset ≡ Ok w
  cell-same q gone rest put id offset w e new found other = ⊎_elim
      (λ (l : look id (all_frames (here member_with (task_with t cs p) q)) ≡ look id (all_frames (here m t q))). ap (λ o. ok_or (cell_of (unwrap_or o no_frame) offset) InvalidAddress) l ∙ found)
      (λ (l : (look id (all_frames (here m t q)) ≡ Some (top t.frames)) × (look id (all_frames (here member_with (task_with t cs p) q)) ≡ Some (record (top t.frames) { cells = cs }))).
      let F : Option Frame → Answer Word = λ o. ok_or (cell_of (unwrap_or o no_frame) offset) InvalidAddress in
      let old : cell_of (top t.frames) offset ≡ Some w = ok_some (cell_of (top t.frames) offset) w (ap F (sym l.0) ∙ found) in
      ap F l.1 ∙ ap (λ (ds : List Word). ok_or (cell_of (record (top t.frames) { cells = ds }) offset) InvalidAddress) new
      ∙ ap (λ (o : Option Word). ok_or o InvalidAddress) (cell_other (top t.frames) gone rest put offset w e old other))
      (look-same q id)
