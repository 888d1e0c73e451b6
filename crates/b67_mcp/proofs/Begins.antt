-- A task was started, and its call is answered.
use Rattle.std.proofs.Common.{◌≡◌, ℕ, zero, suc, ◌+◌, ◌*◌, ◌<◌, ◌≤◌, List, [], ◌∷◌, ◌++◌, map, reverse, take, length, Option, refl, sym, ◌∙◌, ap, arith, false, inl, inr, subst}
use Rattle.std.specs.Prelude.{max}
use Rattle.std.proofs.lemmas.Bool.{ne_eqb}
use Rattle.std.proofs.lemmas.List.{length-reverse}
use Rattle.std.proofs.Math.Nat.{mul-le-mul_right}
use Rattle.b67_word.specs.declared.couples.Place.{Place}
use Rattle.b67_lemmas.specs.Lists.{Has, Falls}
use Rattle.b67_lemmas.proofs.Members.{all_in, falls_low, has_map, has_reverse_back, keyed_has, length_change, total_change}
use Rattle.b67_lemmas.proofs.Keyed.{change_is, all_change}
use Rattle.b67_lemmas.proofs.Sums.{sum_total}
use Rattle.b67_model.specs.Keyed.{change_keyed}
use Rattle.b67_model.specs.Common.{Word, Operand, Proc, Frame, Standing, Task, Job, SessionJob, top, below_top, is_critical, number_of, live_tasks, Starts, IsSegment, Known, known_of, outer_of, reach_of, known_numbers, IsEntered, EnvironmentInOrder, NumberedFrom, is_original, Session}
use Rattle.b67_law.proofs.Looks.{below_marked}
use Rattle.b67_law.proofs.Reaches.{Wider}
use Rattle.b67_law.proofs.Cells.{plain_word}
use Rattle.b67_law.proofs.Children.{word_any}
use Rattle.b67_layout.specs.Common.{JobInOrderButCounts, IsInOrderButCounts, Placement, IsRunning, with_job, cells, peak_with, session_moved}
use Rattle.b67_stack.specs.Represents.{Storage}
use Rattle.b67_layout.proofs.Common.{running_in_order, member-same, with_job-twice, numbered_course}
use Rattle.b67_entry.proofs.Sites.{Site, site}
use Rattle.b67_mcp.specs.Calls.{MayCut}
use Rattle.b67_mcp.specs.Answered.{job_answered}
use Rattle.b67_mcp.proofs.Cuts.{Cut, cut_of}
use Rattle.b67_fetch.proofs.Values.{here_scene}
use Rattle.b67_task.specs.Needing.{need_with}
use Rattle.b67_task.proofs.Needs.{follow_all}
use Rattle.b67_task.specs.Opening.{IsLowestFree, slot_end}
use Rattle.b67_task.specs.Starts.{MayStart, arguments, child, with_child}
use Rattle.b67_task.proofs.Begins.{has_slot}
use Rattle.b67_task.proofs.Opens.{lowest_low}
use Rattle.b67_task.proofs.Starting.{found_cell}
use Rattle.b67_task.specs.Born.{with_task_at}
use Rattle.b67_task.proofs.OneMore.{slot_of-other}
use Rattle.b67_task.specs.declared.tables.Machine.{Machine}
use Rattle.b67_task.specs.Tables.{MachineRepresents}
use Rattle.b67_mcp.specs.Asked.{job_started}
use Rattle.b67_mcp.specs.Begins.{StandsMoved}
use Rattle.b67_mcp.proofs.Cells.{cell_order}
use Rattle.b67_mcp.proofs.Children.{under_call, ChildInOrder, child_good}

taken_has : {A : Type 0} (xs : List A) (n : ℕ) (x : A) → Has (take n xs) x → Has xs x
taken_has xs zero x h = absurd h
taken_has [] (suc n) x h = absurd h
taken_has (y ∷ ys) (suc n) x (inl e) = inl e
taken_has (y ∷ ys) (suc n) x (inr h) = inr (taken_has ys n x h)

taken_low : {A : Type 0} (xs : List A) (n : ℕ) → length (take n xs) ≤ n
taken_low xs zero = omega arith
taken_low [] (suc n) = omega arith
taken_low (y ∷ ys) (suc n) = omega (arith, taken_low ys n)

module _ (x : Storage) (told : Option (List (List ℕ))) (k : Machine) (plan : Placement) (s : Session) (m : SessionJob) (t : Task) (o : IsInOrderButCounts s) (h : MachineRepresents x told k plan s) (runs : IsRunning plan s.jobs m t)
    (cell count f segment level : ℕ) (place : Place) (slot : ℕ) (may : MayStart x plan m t (length k.cpu.core) cell count f segment level place slot) (cut : MayCut m t) where
  abbrev pub new : Task
  new = child m t count f segment level place

  abbrev pub job1 : Job
  job1 = with_child m.progress.job (child m t count f segment level place)

  abbrev pub session1 : Session
  session1 = session_moved s m job1 1

  abbrev pub member1 : SessionJob
  member1 = record m { progress = record m.progress { job = job1 } }

  abbrev pub plan1 : Placement
  plan1 = with_task_at plan m.constants.number new.number slot (peak_with s 1)

  off : Cut m t
  off = cut_of plan s m t o runs cut

  own : JobInOrderButCounts (IsSegment m.constants) m.constants m.progress
  own = (running_in_order plan s m t o runs).0

  P : Starts
  P = IsSegment m.constants

  abbrev under : List Known
  under = under_call m.progress.job t off.next off.more

  keeps_under : (n : ℕ) (st : Standing) → IsEntered st → Has (reach_of m.progress.job t) (n, st) → Has under (n, st)
  keeps_under n st e i = subst (λ (fs : List Frame). Has (map known_of (below_top fs) ++ outer_of m.progress.job t) (n, st)) off.frames (below_marked t.frames (outer_of m.progress.job t) n st cut.marked e i)

  here_site : Site k.cpu.core k.cpu.regs (here_scene x k.cpu plan s m t o h.session runs) t.place f
  here_site = site k.cpu.core k.cpu.regs (here_scene x k.cpu plan s m t o h.session runs) t.place f may.proc.names may.proc.own

  proc_order : (level ≤ 31) × IsSegment m.constants segment level place
  proc_order = (found_cell k.cpu.core k.cpu.regs (here_scene x k.cpu plan s m t o h.session runs) t.place f may.proc.offset (Proc segment level place) may.proc.names may.proc.own may.proc.found).stands.1

  environment_order : EnvironmentInOrder under level f
  environment_order = record {
    low = omega (arith, here_site.low, here_site.level, may.proc.level_is);
    high = proc_order.0;
    standing = here_site.standing;
    among = keeps_under f here_site.standing here_site.entered here_site.among;
    entered = here_site.entered;
    level_below = omega (arith, here_site.level, may.proc.level_is);
  }

  wide : Wider (reach_of m.progress.job t) under m.progress.job.arrays m.progress.job.arrays
  wide = record { entered = keeps_under; kept = λ a i at. record { item = a; live = i; named = refl; owned = refl } }

  in_order : ChildInOrder (IsSegment m.constants) m.constants m.progress.job t (child m t count f segment level place)
  in_order = record {
    live = runs.task;
    number = refl;
    line = refl;
    call = off.f;
    under = off.next;
    below = off.more;
    stack = off.frames;
    critical = ap (λ (fs : List Frame). (top (below_top fs)).identity) off.frames;
    level = level;
    environment = f;
    cells = reverse (reverse (arguments t count));
    frames = refl;
    fit = λ w i.
        let there : Has (arguments t count) w = has_reverse_back (arguments t count) w (has_reverse_back (reverse (arguments t count)) w i) in
        let plain = all_in (λ (v : Word). is_original v ≡ false) (arguments t count) w may.plain there in (
          word_any (IsSegment m.constants) m.progress.job.arrays (reach_of m.progress.job t) under (top t.frames).identity m.progress.job.next_frame w wide plain
              (cell_order (IsSegment m.constants) m.progress.job.arrays (outer_of m.progress.job t) t.frames w (running_in_order plan s m t o runs).1.frames (taken_has (cells t) count w there)),
          plain_word w plain,
        );
    stands = environment_order;
    low = omega (arith, may.room, taken_low (cells t) count, length-reverse (arguments t count), length-reverse (reverse (arguments t count)));
    place = proc_order.1;
    ready = refl;
    few = may.few;
  }

  in_m : Has s.jobs m
  in_m = (keyed_has number_of m.constants.number s.jobs m runs.member).0

  abbrev Good : SessionJob → Type 0
  Good y = JobInOrderButCounts (IsSegment y.constants) y.constants y.progress

  pub order1 : IsInOrderButCounts (session_moved s m job1 1)
  order1 =
      let n : ℕ = m.constants.number in
      let jobs' : List SessionJob = change_keyed number_of n (λ (y : SessionJob). member1) s.jobs in
      let changed : (with_job s m job1).jobs ≡ jobs' = change_is number_of n (λ (y : SessionJob). record y { progress = record m.progress { job = job1 } }) m s.jobs runs.member in
      let size : SessionJob → Type 0 = λ y. y.constants.stack_size ≡ o.one_size.0 in
      let alive : SessionJob → ℕ = λ y. length y.progress.job.tasks in
      let few : live_tasks s.jobs < 120 = (has_slot x k.cpu plan s m t o h.session runs (length k.cpu.core) cell count f segment level place slot may).few in
      let Q : List SessionJob → Type 0 = λ jobs. IsInOrderButCounts (record s { jobs = jobs; peak = peak_with s 1 }) in
      let total = total_change number_of alive n m member1 s.jobs runs.member in
      subst Q (sym changed) (record {
        few = omega (arith, o.few, length_change number_of n member1 s.jobs);
        numbered = subst (NumberedFrom 1) changed (numbered_course 1 n (record m.progress { job = job1 }) s.jobs o.numbered);
        one_size = (o.one_size.0, all_change size number_of n member1 s.jobs o.one_size.1 (all_in size s.jobs m o.one_size.1 in_m));
        jobs = all_change Good number_of n member1 s.jobs o.jobs
            (record { unchanging = own.unchanging; tasks = child_good (IsSegment m.constants) m.constants m.progress.job t (child m t count f segment level place) own.tasks in_order; few_born = omega (arith, may.number) });
        peak_low = (let e : live_tasks jobs' ≤ max s.peak (live_tasks s.jobs + 1) = omega (arith, sum_total alive s.jobs, sum_total alive jobs', total) in e);
        peak_high = (let e : max s.peak (live_tasks s.jobs + 1) ≤ 120 = omega (arith, o.peak_high, few) in e);
      })

  lower : t.number < m.progress.job.next_task
  lower =
      let r = keyed_has (λ (u : Task). u.number) t.number m.progress.job.tasks t runs.task in
      falls_low m.progress.job.next_task (map (λ (u : Task). u.number) m.progress.job.tasks) t.number own.tasks.numbers (has_map (λ (u : Task). u.number) m.progress.job.tasks t r.0)

  pub runs1 : IsRunning plan1 session1.jobs member1 t
  runs1 = record {
    member = member-same s.jobs m.constants.number (record m.progress { job = job1 }) m runs.member;
    task = rw (ne_eqb m.progress.job.next_task t.number (λ e. omega (arith, e, lower))) runs.task;
    slot = runs.slot ∙ sym (slot_of-other plan m.constants.number m.progress.job.next_task slot (peak_with s 1) m.constants.number t.number (λ e z. omega (arith, z, lower)));
  }

  free1 : is_critical job1 (top t.frames).identity ≡ false
  free1 =
      let falls = (running_in_order plan s m t o runs).1.falls in
      let F : List Frame → Type 0 = λ fs. Falls m.progress.job.next_frame (known_numbers (map known_of fs ++ outer_of m.progress.job t)) in
      let low = (subst F off.frames falls).1.0 in
      let own_is : (top t.frames).identity ≡ off.f.identity = ap (λ (fs : List Frame). (top fs).identity) off.frames in
      grind (arith, ne_eqb)

  pub cut1 : MayCut member1 t
  cut1 = record { marked = cut.marked; plain = cut.plain; free = free1 }

  -- once the call is answered with the child's number
  pub is_moved : (number : ℕ) (next : Place) (y : Storage) (after : Machine) → number ≡ m.progress.job.next_task
      → MachineRepresents y told after plan1 (with_job session1 member1 (job_answered member1 t (Operand number) next job1.numbers)) → StandsMoved told s m (job_started m t (child m t count f segment level place) next) 1 after
  is_moved number next y after number_is stands = grind (arith, with_job-twice)

-- the lowest free slot lies in a core that is large enough for one task more
module _ (x : Storage) (told : Option (List (List ℕ))) (k : Machine) (plan : Placement) (s : Session) (m : SessionJob) (t : Task) (o : IsInOrderButCounts s) (h : MachineRepresents x told k plan s) (runs : IsRunning plan s.jobs m t) where
  pub slot_inside : (slot core : ℕ) → IsLowestFree plan slot → need_with s m t 1 0 ≤ core → slot_end plan slot ≤ core
  slot_inside slot core lowest need =
      let holds = h.session.holds in
      let low = lowest_low plan s o holds.fits.rows holds.fits.peak slot lowest in
      let size : m.constants.stack_size ≡ plan.size = holds.fits.sizes m (keyed_has number_of m.constants.number s.jobs m runs.member).0 in
      grind (arith, follow_all, mul-le-mul_right)
