-- A job whose running task is replaced stays in order.
use Rattle.std.proofs.Common.{◌≡◌, ◌≢◌, ℕ, ◌+◌, ◌^◌, ◌<◌, ◌≤◌, eqb, List, [], ◌∷◌, ◌++◌, map, nat_abs, Option, Some, None, refl, sym, ap, ◌∙◌, subst, inl, inr, ◌⊎◌, arith}
use Rattle.std.specs.List.{AllByRecursion}
use Rattle.std.proofs.lemmas.Bool.Decides.{eqb_tells}
use Rattle.std.proofs.lemmas.Bool.{cases_lt}
use Rattle.b67_model.specs.Keyed.{keyed, change_keyed}
use Rattle.b67_lemmas.specs.Lists.{Has, Falls}
use Rattle.b67_lemmas.proofs.Members.{all_from, all_in, change_found, change_other, falls_low, falls_more, falls_once, has_append_cases, has_append_left, has_change, has_map, keyed_has, length_change, map_change, none_pass, total_change, total_has, total_zero}
use Rattle.b67_model.specs.Words as Words
use Rattle.b67_model.specs.Common.{Word, Operand, Name, Ref, Row, Element, Original, Proc, Intrinsic, Frame, Array, Condition, Ready, Awaits, WaitsAt, Task, JobConstants, Job, height, level_of_frame, running, Starts, Known, known_of, from_frame, frames_of_task, critical_of, outer_reach, outer_of, reach_of, known_numbers, identities, FramesInOrder, StackInOrder, BirthInOrder, ConditionInOrder, TaskInOrder, ArrayInOrder, EntryInOrder, originals_in, originals_of, frames_named, frames_in_job, TasksInOrder}
use Rattle.b67_law.proofs.Reaches.{Alike, alike_same, alike_under, alike_numbers, alike_has, Stays, frames_alike, Follower, Follows, Births, outer_alike, birth_follows}

condition_alike : (reach reach' : List Known) (c : Condition) → Alike reach reach' → ConditionInOrder reach c → ConditionInOrder reach' c
condition_alike reach reach' c alike g = grind (arith, alike_has)

-- a task that doesn't change, in a job that follows
pub task_kept : (P : Starts) (constants : JobConstants) (job job' : Job) (Lives : ℕ → Type 0) → Follows job job' Lives → Births job → job.next_frame ≤ job'.next_frame → (t : Task) → Has job.tasks t →
    ((n : ℕ) → Has t.parents n → Lives n) →
    ((a : Array) → Has job.arrays a → Has (known_numbers (reach_of job' t)) a.owner → Stays job'.arrays a) → TaskInOrder P constants job t → TaskInOrder P constants job' t
task_kept P constants job job' Lives follows births up t here live stay g =
    let outer : Alike (outer_of job t) (outer_of job' t) = outer_alike job job' Lives follows births t here t.parents refl live in
    let reach : Alike (reach_of job t) (reach_of job' t) = alike_under (outer_of job t) (outer_of job' t) t.frames outer in
    record {
      frames = frames_alike P job.arrays job'.arrays (outer_of job t) (outer_of job' t) t.frames outer stay g.frames;
      returns = g.returns;
      some = g.some;
      falls = falls_more job.next_frame job'.next_frame (known_numbers (reach_of job' t)) up (subst (Falls job.next_frame) (alike_numbers (reach_of job t) (reach_of job' t) reach) g.falls);
      not_higher = g.not_higher;
      place = g.place;
      birth = birth_follows job job' Lives follows t here t.parents live g.birth;
      condition = condition_alike (reach_of job t) (reach_of job' t) t.condition reach g.condition;
    }

-- every frame in reach is a live one, or the dictionary's or the MCP's
pub record IsLive (job : Job) (n : ℕ) : Type 0 where
  pub counted : (n ≤ 1) ⊎ (1 ≤ frames_in_job n job)

pub has_counts : (n : ℕ) (frames : List Frame) → Has (known_numbers (map known_of frames)) n → 1 ≤ frames_named n frames
has_counts n [] h = absurd h
has_counts n (f ∷ below) h = grind (arith, has_counts n below)

pub from_counts : (n c : ℕ) (frames : List Frame) → frames_named n (from_frame c frames) ≤ frames_named n frames
from_counts n c [] = omega arith
from_counts n c (f ∷ below) = elim (eqb_tells f.identity c) [ inl t ↦ rw t.0 (omega arith) | inr t ↦ rw t.0 (omega (arith, from_counts n c below)) ]

pub numbers_append : (xs ys : List Known) → known_numbers (xs ++ ys) ≡ known_numbers xs ++ known_numbers ys
numbers_append [] ys = refl
numbers_append (x ∷ xs) ys = ap (λ ns. x.0 ∷ ns) (numbers_append xs ys)

live_by : (job : Job) (n c parent : ℕ) (o : Option Task) → keyed (λ t. t.number) parent job.tasks ≡ o → Has (known_numbers (map known_of (from_frame c (frames_of_task o)))) n → 1 ≤ frames_in_job n job
live_by job n c parent None e h = absurd h
live_by job n c parent (Some q) e h =
    let one = has_counts n (from_frame c q.frames) h in
    let two = total_has (λ (t : Task). frames_named n t.frames) job.tasks q (keyed_has (λ t. t.number) parent job.tasks q e).0 in
    omega (arith, one, two, from_counts n c q.frames)

pub outer_live : (job : Job) (n c : ℕ) (parents : List ℕ) → Has (known_numbers (outer_reach job c parents)) n → IsLive job n
outer_live job n c [] h = record { counted = inl (elim h [ inl e ↦ omega (arith, e) | inr m ↦ elim m [ inl e ↦ omega (arith, e) | inr x ↦ absurd x ] ]) }
outer_live job n c (p ∷ more) h =
    let o = keyed (λ (t : Task). t.number) p job.tasks in
    let here = map known_of (from_frame c (frames_of_task o)) in
    elim (has_append_cases (known_numbers here) (known_numbers (outer_reach job (critical_of o) more)) n (subst (λ ns. Has ns n) (numbers_append here (outer_reach job (critical_of o) more)) h)) [
      | inl a ↦ record { counted = inr (live_by job n c p o refl a) }
      | inr b ↦ outer_live job n (critical_of o) more b
    ]

pub reach_live : (job : Job) (t : Task) (n : ℕ) → Has job.tasks t → Has (known_numbers (reach_of job t)) n → IsLive job n
reach_live job t n here h = elim (has_append_cases (known_numbers (map known_of t.frames)) (known_numbers (outer_of job t)) n (subst (λ ns. Has ns n) (numbers_append (map known_of t.frames) (outer_of job t)) h)) [
  | inl a ↦ let one = has_counts n t.frames a in
      let two = total_has (λ (u : Task). frames_named n u.frames) job.tasks t here in
      record { counted = inr (omega (arith, one, two)) }
  | inr b ↦ outer_live job n t.critical t.parents b
]

-- an array stays, or its owner left with the task's frames
pub record KeptOrLeft (arrays' : List Array) (old new : List Frame) (a : Array) : Type 0 where
  pub case : Stays arrays' a ⊎ ((1 < a.owner) × (frames_named a.owner new + 1 ≤ frames_named a.owner old))

-- the running task is replaced, and the rest of the job may change so
pub record Replaced (P : Starts) (constants : JobConstants) (job : Job) (old : Task) (job' : Job) (new : Task) : Type 0 where
  pub number : new.number ≡ old.number
  pub line : new.parents ≡ old.parents
  pub critical : new.critical ≡ old.critical
  pub tasks : job'.tasks ≡ change_keyed (λ t. t.number) old.number (λ t. new) job.tasks
  pub next_task : job'.next_task ≡ job.next_task
  pub next_frame : job.next_frame ≤ job'.next_frame
  pub frames : FramesInOrder P job'.arrays (outer_of job old) new.frames
  pub returns : StackInOrder P new.frames
  pub some : new.frames ≢ []
  pub falls : Falls job'.next_frame (known_numbers (map known_of new.frames ++ outer_of job old))
  pub not_higher : height new.frames ≤ constants.stack_size
  pub place : P new.segment (level_of_frame (running new.frames)) new.place
  pub condition : ConditionInOrder (map known_of new.frames ++ outer_of job old) new.condition
  pub alike : (t : Task) → Has job.tasks t → Alike (map known_of (from_frame t.critical old.frames)) (map known_of (from_frame t.critical new.frames))
  pub stays : (t : Task) → Has job.tasks t → Has (identities old.frames) t.critical → Has (identities new.frames) t.critical
  pub fewer : (n : ℕ) → n < job.next_frame → frames_named n new.frames ≤ frames_named n old.frames
  pub kept : (a : Array) → Has job.arrays a → KeptOrLeft job'.arrays old.frames new.frames a
  pub arrays : AllByRecursion ArrayInOrder job'.arrays
  pub once : (a : Array) → Has job'.arrays a → originals_in a.identity new.frames + originals_of a.identity constants job ≡ originals_in a.identity old.frames + 1
  pub names : Falls job'.next_array (map (λ a. a.identity) job'.arrays)
  pub reads : AllByRecursion (λ n. nat_abs n < 2 ^ 39) job'.numbers

pub birth_same : (job : Job) (t u : Task) (parents : List ℕ) → u.number ≡ t.number → u.critical ≡ t.critical → BirthInOrder job t parents → BirthInOrder job u parents
birth_same job t u parents n c b = grind arith

pub entry_kept : (arrays arrays' : List Array) (w : Word) → ((a : Array) → Has arrays a → a.owner ≡ 1 → Stays arrays' a) → EntryInOrder arrays w → EntryInOrder arrays' w
entry_kept arrays arrays' w h g = grind arith

-- a fresh identity stands nowhere
frames_fresh : (bound n : ℕ) (frames : List Frame) (outer : List Known) → Falls bound (known_numbers (map known_of frames ++ outer)) → bound ≤ n → frames_named n frames ≡ 0
frames_fresh bound n frames outer falls high = none_pass (λ (f : Frame). eqb f.identity n) frames (λ f h. elim (eqb_tells f.identity n) [
  | inl t ↦ let low : f.identity < bound = falls_low bound (known_numbers (map known_of frames ++ outer)) f.identity falls (has_map (λ (k : Known). k.0) (map known_of frames ++ outer) (known_of f) (has_append_left (map known_of frames) outer (known_of f) (has_map known_of frames f h))) in absurd (omega (arith, low, high, t.1))
  | inr t ↦ t.0
])

pub job_fresh : (P : Starts) (constants : JobConstants) (job : Job) (n : ℕ) → TasksInOrder P constants job → job.next_frame ≤ n → frames_in_job n job ≡ 0
job_fresh P constants job n g high = total_zero (λ (t : Task). frames_named n t.frames) job.tasks (λ t h. frames_fresh job.next_frame n t.frames (outer_of job t) (all_in (TaskInOrder P constants job) job.tasks t g.tasks h).falls high)

frames_falls : (bound : ℕ) (frames : List Frame) (outer : List Known) → Falls bound (known_numbers (map known_of frames ++ outer)) → Falls bound (map (λ f. f.identity) frames)
frames_falls bound [] outer f = tt
frames_falls bound (g ∷ frames) outer f = (f.0, frames_falls g.identity frames outer f.1)

module _ (P : Starts) (constants : JobConstants) (job : Job) (old : Task) (job' : Job) (new : Task) (g : TasksInOrder P constants job) (found : keyed (λ t. t.number) old.number job.tasks ≡ Some old) (r : Replaced P constants job old job' new) where
  births : Births job
  births t h = (all_in (TaskInOrder P constants job) job.tasks t g.tasks h).birth

  old_live : Has job.tasks old
  old_live = (keyed_has (λ t. t.number) old.number job.tasks old found).0

  follows : Follows job job' (λ n. Unit {0})
  follows n q lives e = elim (eqb_tells n old.number) [
    | inl t ↦
        let at : keyed (λ t. t.number) n job.tasks ≡ Some old = rw t.1 found in
        let both : Some q ≡ Some old = sym e ∙ at in
        let same : q ≡ old = cc in
        let new_found : keyed (λ t. t.number) old.number job'.tasks ≡ Some new = rw r.tasks (change_found (λ (t : Task). t.number) old.number old new job.tasks r.number found) in
        let for_old : Follower job job' n old = record { item = new; found = rw t.1 new_found; critical = r.critical; line = r.line; alike = r.alike; stays = r.stays } in
        subst (Follower job job' n) (sym same) for_old
    | inr t ↦
        let there : keyed (λ t. t.number) n job'.tasks ≡ keyed (λ t. t.number) n job.tasks = rw r.tasks (change_other (λ (t : Task). t.number) n old.number new job.tasks r.number t.1) in
        record { item = q; found = there ∙ e; critical = refl; line = refl; alike = λ u h. alike_same (map known_of (from_frame u.critical q.frames)); stays = λ u h k. k }
  ]

  counted : (n : ℕ) → frames_in_job n job' + frames_named n old.frames ≡ frames_in_job n job + frames_named n new.frames
  counted n = let e = total_change (λ (t : Task). t.number) (λ (t : Task). frames_named n t.frames) old.number old new job.tasks found in rw r.tasks e

  apart : (n : ℕ) → frames_in_job n job' ≤ 1
  apart n = elim (cases_lt n job.next_frame) [
    | inl low ↦ omega (arith, counted n, r.fewer n low, g.apart n)
    | inr high ↦
        let few = (falls_once (λ (f : Frame). f.identity) n job'.next_frame new.frames (frames_falls job'.next_frame new.frames (outer_of job old) r.falls)).1 in
        omega (arith, counted n, job_fresh P constants job n g high, few)
  ]

  stay : (t : Task) → Has job'.tasks t → (a : Array) → Has job.arrays a → Has (known_numbers (reach_of job' t)) a.owner → Stays job'.arrays a
  stay t here a live at = grind (arith, reach_live, counted)

  pub outer_kept : Alike (outer_of job old) (outer_of job' new)
  outer_kept =
      let outer : Alike (outer_of job old) (outer_reach job' old.critical old.parents) = outer_alike job job' (λ n. Unit {0}) follows births old old_live old.parents refl (λ n h. tt) in
      grind arith

  own : TaskInOrder P constants job' new
  own =
      let outer' = outer_kept in
      let reach : Alike (map known_of new.frames ++ outer_of job old) (reach_of job' new) = alike_under (outer_of job old) (outer_of job' new) new.frames outer' in
      record {
        frames = frames_alike P job'.arrays job'.arrays (outer_of job old) (outer_of job' new) new.frames outer' (λ a h at. record { item = a; live = h; named = refl; owned = refl }) r.frames;
        returns = r.returns;
        some = r.some;
        falls = subst (Falls job'.next_frame) (alike_numbers (map known_of new.frames ++ outer_of job old) (reach_of job' new) reach) r.falls;
        not_higher = r.not_higher;
        place = r.place;
        birth = subst (BirthInOrder job' new) (sym r.line) (birth_same job' old new old.parents r.number r.critical (birth_follows job job' (λ n. Unit {0}) follows old old_live old.parents (λ n h. tt) (births old old_live)));
        condition = condition_alike (map known_of new.frames ++ outer_of job old) (reach_of job' new) new.condition reach r.condition;
      }

  each : (t : Task) → Has job'.tasks t → TaskInOrder P constants job' t
  each t here = elim (has_change (λ (u : Task). u.number) job.next_task old.number new job.tasks t g.numbers (rw r.tasks at here)) [
    | inl e ↦ subst (TaskInOrder P constants job') e own
    | inr h ↦ task_kept P constants job job' (λ n. Unit {0}) follows births r.next_frame t h.0 (λ n k. tt) (stay t here) (all_in (TaskInOrder P constants job) job.tasks t g.tasks h.0)
  ]

  once : (a : Array) → Has job'.arrays a → originals_of a.identity constants job' ≡ 1
  once a live = grind (arith, total_change)

  pub replaced : TasksInOrder P constants job'
  replaced = record {
    tasks = all_from (TaskInOrder P constants job') job'.tasks each;
    apart = apart;
    arrays = r.arrays;
    once = all_from (λ (a : Array). originals_of a.identity constants job' ≡ 1) job'.arrays once;
    entries = all_from (EntryInOrder job'.arrays) constants.dictionary.cells (λ w h. entry_kept job.arrays job'.arrays w
        (λ a live owned. elim (r.kept a live).case [ inl s ↦ s | inr gone ↦ absurd (omega (arith, gone.0, owned)) ])
        (all_in (EntryInOrder job.arrays) constants.dictionary.cells w g.entries h));
    numbers = rw (r.next_task, r.tasks) (subst (Falls job.next_task) (sym (map_change (λ (t : Task). t.number) old.number new job.tasks r.number)) g.numbers);
    names = r.names;
    few = rw r.tasks (omega (arith, length_change (λ (t : Task). t.number) old.number new job.tasks, g.few));
    reads = r.reads;
  }
