-- The running task with other cells on top: its job and its session in order.
use Rattle.std.proofs.Common.{◌≡◌, ◌≢◌, ℕ, ◌+◌, ◌<◌, ◌≤◌, ◌^◌, List, [], ◌∷◌, ◌++◌, map, refl, sym, ap, subst, inl, inr, arith}
use Rattle.std.proofs.lemmas.Bool.Decides.{eqb_tells}
use Rattle.b67_word.specs.declared.couples.Place.{Place}
use Rattle.b67_lemmas.specs.Lists.{Has, Falls, how_many}
use Rattle.b67_lemmas.proofs.Members.{all_in, length_change}
use Rattle.b67_model.specs.Common.{Word, Frame, Array, Task, Job, SessionJob, top, with_top_cells, height, with_task, Session, Starts, IsSegment, Known, known_of, known_numbers, from_frame, outer_of, identities, is_original_of, originals_in, originals_of, frames_named, FramesInOrder, StackInOrder, CellsInOrder, ConditionInOrder, TaskInOrder, TasksInOrder}
use Rattle.b67_layout.specs.Common.{JobInOrderButCounts, IsInOrderButCounts, Placement, IsRunning, with_job}
use Rattle.b67_law.proofs.Reaches.{Alike, alike_same}
use Rattle.b67_law.proofs.Replaced.{replaced}
use Rattle.b67_law.proofs.Looks.{some_cells}
use Rattle.b67_layout.proofs.Whole.{task_with}
use Rattle.b67_layout.proofs.Fresh.{running_in_order}
use Rattle.b67_layout.proofs.Members.{member_kept}

-- what other cells leave of the frames
module _ (P : Starts) (fs : List Frame) (cs : List Word) where
  known-same : map known_of (with_top_cells fs cs) ≡ map known_of fs
  known-same = grind arith

pub frames_with : (P : Starts) (arrays : List Array) (outer : List Known) (fs : List Frame) (cs : List Word) → FramesInOrder P arrays outer fs → CellsInOrder P arrays (map known_of fs ++ outer) (top fs).identity cs → FramesInOrder P arrays outer (with_top_cells fs cs)
frames_with P arrays outer [] cs o words = o
frames_with P arrays outer (f ∷ below) cs o words = (words, o.1, o.2)

returns_with : (P : Starts) (fs : List Frame) (cs : List Word) → StackInOrder P fs → StackInOrder P (with_top_cells fs cs)
returns_with P fs cs o = grind arith

alike_with : (n : ℕ) (fs : List Frame) (cs : List Word) → Alike (map known_of (from_frame n fs)) (map known_of (from_frame n (with_top_cells fs cs)))
alike_with n fs cs = grind (arith, alike_same)

stays_with : (n : ℕ) (fs : List Frame) (cs : List Word) → Has (identities fs) n → Has (identities (with_top_cells fs cs)) n
stays_with n fs cs h = grind arith

named_with : (n : ℕ) (fs : List Frame) (cs : List Word) → frames_named n (with_top_cells fs cs) ≡ frames_named n fs
named_with n fs cs = grind arith

originals_with : (n : ℕ) (fs : List Frame) (cs : List Word) → fs ≢ [] → how_many (is_original_of n) cs ≡ how_many (is_original_of n) (top fs).cells → originals_in n (with_top_cells fs cs) ≡ originals_in n fs
originals_with n fs cs some e = grind arith

module _ (plan : Placement) (s : Session) (m : SessionJob) (t : Task) (ordered : IsInOrderButCounts s) (runs : IsRunning plan s.jobs m t) (cs : List Word) (q : Place)
    (words : CellsInOrder (IsSegment m.constants) m.progress.job.arrays (map known_of t.frames ++ outer_of m.progress.job t) (top t.frames).identity cs)
    (originals : (n : ℕ) → how_many (is_original_of n) cs ≡ how_many (is_original_of n) (top t.frames).cells)
    (fits : height (with_top_cells t.frames cs) ≤ m.constants.stack_size) (word_fits : q.word < 2 ^ 13) (syllable_fits : q.syllable < 2 ^ 3) where
  new : Job
  new = with_task m.progress.job (task_with t cs q)

  whole : JobInOrderButCounts (IsSegment m.constants) m.constants m.progress
  whole = (running_in_order plan s m t ordered runs).0

  own : TaskInOrder (IsSegment m.constants) m.constants m.progress.job t
  own = (running_in_order plan s m t ordered runs).1

  reach-same : map known_of (with_top_cells t.frames cs) ++ outer_of m.progress.job t ≡ map known_of t.frames ++ outer_of m.progress.job t
  reach-same = ap (λ ks. ks ++ outer_of m.progress.job t) (known-same (IsSegment m.constants) t.frames cs)

  tasks_in_order : TasksInOrder (IsSegment m.constants) m.constants (with_task m.progress.job (task_with t cs q))
  tasks_in_order = replaced (IsSegment m.constants) m.constants m.progress.job t (with_task m.progress.job (task_with t cs q)) (task_with t cs q) whole.tasks runs.task (record {
    number = refl;
    line = refl;
    critical = refl;
    tasks = refl;
    next_task = refl;
    next_frame = omega arith;
    frames = frames_with (IsSegment m.constants) m.progress.job.arrays (outer_of m.progress.job t) t.frames cs own.frames words;
    returns = returns_with (IsSegment m.constants) t.frames cs own.returns;
    some = some_cells t.frames cs own.some;
    falls = subst (λ ks. Falls m.progress.job.next_frame (known_numbers ks)) (sym reach-same) own.falls;
    not_higher = fits;
    place = record { from_one = own.place.from_one; within = own.place.within; word_fits = word_fits; syllable_fits = syllable_fits };
    condition = subst (λ ks. ConditionInOrder ks t.condition) (sym reach-same) own.condition;
    alike = λ u k. alike_with u.critical t.frames cs;
    stays = λ u k c. stays_with u.critical t.frames cs c;
    fewer = λ n low. (let e = named_with n t.frames cs in omega (arith, e));
    kept = λ a k. record { case = inl (record { item = a; live = k; named = refl; owned = refl }) };
    arrays = whole.tasks.arrays;
    once = λ a k. (let e = originals_with a.identity t.frames cs own.some (originals a.identity) in let one = all_in (λ (b : Array). originals_of b.identity m.constants m.progress.job ≡ 1) m.progress.job.arrays a whole.tasks.once k in omega (arith, e, one));
    names = whole.tasks.names;
    reads = whole.tasks.reads;
  })

  job_in_order : JobInOrderButCounts (IsSegment m.constants) m.constants (record m.progress { job = with_task m.progress.job (task_with t cs q) })
  job_in_order = record {
    unchanging = whole.unchanging;
    tasks = tasks_in_order;
    few_born = whole.few_born;
  }

  -- the session with these cells on top is in order
  pub cells_in_order : IsInOrderButCounts (with_job s m (with_task m.progress.job (task_with t cs q)))
  cells_in_order = member_kept s m (with_task m.progress.job (task_with t cs q)) ordered runs.member job_in_order (length_change (λ (v : Task). v.number) t.number (task_with t cs q) m.progress.job.tasks)
