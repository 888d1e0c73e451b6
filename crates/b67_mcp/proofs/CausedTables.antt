-- The tables once a cell is caused: they show the job with its number there, and its waiters ready.
use Rattle.std.proofs.Common.{◌≡◌, ◌≢◌, ℕ, zero, suc, ◌-◌, ◌<◌, List, [], ◌∷◌, map, Option, Some, None, refl, sym, ◌∙◌, ap, Bool, true, false, ◌==◌, ◌&&◌, ◌⊎◌, inl, inr, subst, arith}
use Rattle.std.specs.Prelude.{if◌then◌else◌, option_map}
use Rattle.std.specs.List.{slice_get}
use Rattle.std.proofs.lemmas.Bool.{cases_eq, eq-eqb, ne_eqb}
use Rattle.std.proofs.lemmas.Option.{same_Some}
use Rattle.b67_lemmas.specs.Lists.{Has}
use Rattle.b67_lemmas.proofs.Members.{all_in, has_map, has_map_back, keyed_has}
use Rattle.b67_law.proofs.Numbered.{keyed_member}
use Rattle.b67_model.specs.Keyed.{keyed}
use Rattle.b67_model.specs.Common.{Word, Condition, Task, Job, SessionJob, woken_at, number_of, Session, IsSegment, frames_of_task, reach_of, NamesEntered, ConditionInOrder, TaskInOrder}
use Rattle.b67_model.specs.State as State
use Rattle.b67_stack.specs.declared.Cpu.{Cpu}
use Rattle.b67_stack.specs.Represents.{Storage}
use Rattle.b67_stack.specs.Stacks.{StackPlace}
use Rattle.b67_layout.specs.Common.{IsInOrderButCounts, Placement, slot_of, spot_in, base_spot, spots, address_of, RowState, WaitsAtCell, RunningRow, shown, critical_disp, TaskShows, Differ, IsRunning, frame_address, RepresentsSession, with_job}
use Rattle.b67_layout.specs.Rows as rows
use Rattle.b67_layout.proofs.Common.{running_in_order, member-same, change-has, change-kept, live_in_order}
use Rattle.b67_layout_step.proofs.Frames.{put_job, put_spot}
use Rattle.b67_layout_step.proofs.Mapped.{put_task, keyed_put, spots_put}
use Rattle.b67_task.specs.declared.tables.TaskRow.{TaskRow}
use Rattle.b67_task.specs.declared.tables.TaskState.{TaskState}
use Rattle.b67_task.specs.declared.tables.TaskState.TheVariants.{Ready, Awaits, WaitsAt}
use Rattle.b67_task.specs.declared.tables.Tasks.{Tasks}
use Rattle.b67_task.specs.Tables.{state_of, task_row, job_row, TasksShow}
use Rattle.b67_mcp.proofs.CallTables.{jobs_kept}
use Rattle.b67_mcp.specs.Woken.{woken_state, woken_row}
use Rattle.b67_mcp.proofs.Addresses.{tells_frames}
use Rattle.b67_mcp.proofs.Waking.{wake_task, wake_job, keyed_wake, spots_wake}
use Rattle.b67_mcp.proofs.WokenRows.{row_own, row_other, row_slot}

flip : (a b : ℕ) → (a == b) ≡ (b == a)
flip a b = elim (cases_eq a b) [ inl e ↦ eq-eqb a b e ∙ sym (eq-eqb b a (sym e)) | inr e ↦ ne_eqb a b e ∙ sym (ne_eqb b a (λ z. e (sym z))) ]

-- the slots of the rows stay, and the running row
slots_same : (job mark offset : ℕ) (rs : List TaskRow) → map (λ (r : rows.TaskRow). r.slot) (map task_row (map (woken_row job mark offset) rs)) ≡ map (λ (r : rows.TaskRow). r.slot) (map task_row rs)
slots_same job mark offset [] = refl
slots_same job mark offset (r ∷ rs) = grind (arith, slots_same job mark offset rs)

running_same : (plan : Placement) (job mark offset : ℕ) (rs : List TaskRow) (i n : ℕ) → RunningRow plan (slice_get (map task_row rs) i) n → RunningRow plan (slice_get (map task_row (map (woken_row job mark offset) rs)) i) n
running_same plan job mark offset [] zero n r = r
running_same plan job mark offset [] (suc i) n r = r
running_same plan job mark offset (q ∷ rs) zero n r = (r.0, row_slot job mark offset q ∙ r.1)
running_same plan job mark offset (q ∷ rs) (suc i) n r = running_same plan job mark offset rs i n r

module _ (x : Storage) (cpu : Cpu) (plan : Placement) (s : Session) (m : SessionJob) (t : Task) (o : IsInOrderButCounts s) (h : RepresentsSession x cpu plan s) (runs : IsRunning plan s.jobs m t)
    (f offset mark : ℕ) (names : NamesEntered (reach_of m.progress.job t) f) (own : 1 < f) (at_mark : mark ≡ frame_address plan m t f) (w : Word) where
  abbrev job2 : Job
  job2 = wake_job (woken_at f offset) (put_job m.progress.job f (offset - 2) w)

  abbrev after : SessionJob
  after = record m { progress = record m.progress { job = wake_job (woken_at f offset) (put_job m.progress.job f (offset - 2) w) } }

  abbrev change : Task → Task
  change u = wake_task (woken_at f offset) (put_task f (offset - 2) w u)

  keyed_change : (n : ℕ) → keyed (λ (v : Task). v.number) n job2.tasks ≡ option_map (wake_task (woken_at f offset)) (option_map (put_task f (offset - 2) w) (keyed (λ (v : Task). v.number) n m.progress.job.tasks))
  keyed_change n =
      keyed_wake (woken_at f offset) n (put_job m.progress.job f (offset - 2) w).tasks
      ∙ ap (option_map (wake_task (woken_at f offset))) (keyed_put plan m.constants.number m.progress.job f (offset - 2) w n m.progress.job.tasks)

  critical_change : (c : ℕ) (parents : List ℕ) → critical_disp plan m.constants.number job2 c parents ≡ critical_disp plan m.constants.number m.progress.job c parents
  critical_change c [] = refl
  critical_change c (parent ∷ more) =
      let k = slot_of plan m.constants.number parent in
      let D : Option Task → ℕ = λ q. (spot_in k (base_spot m.constants.number) (frames_of_task q) c).disp in
      ap D (keyed_change parent) ∙ by (keyed (λ (v : Task). v.number) parent m.progress.job.tasks) where
        by : (q : Option Task) → (spot_in (slot_of plan m.constants.number parent) (base_spot m.constants.number) (frames_of_task (option_map (wake_task (woken_at f offset)) (option_map (put_task f (offset - 2) w) q))) c).disp
            ≡ (spot_in (slot_of plan m.constants.number parent) (base_spot m.constants.number) (frames_of_task q) c).disp
        by None = refl
        by (Some v) = ap (λ (z : ℕ → StackPlace). (z c).disp) (put_spot f (offset - 2) w (slot_of plan m.constants.number parent) (base_spot m.constants.number) v.frames)

  spots_change : (u : Task) → spots plan m.constants.number job2 (change u) ≡ spots plan m.constants.number m.progress.job u
  spots_change u =
      spots_wake plan m.constants.number (put_job m.progress.job f (offset - 2) w) (woken_at f offset) (put_task f (offset - 2) w u)
      ∙ spots_put plan m.constants.number m.progress.job f (offset - 2) w u

  abbrev Live : Task → Type 0
  Live u = keyed (λ (v : Task). v.number) u.number m.progress.job.tasks ≡ Some u

  -- who waits at the cell is ready, and all others wait as before
  shown_change : (u : Task) → Live u → (d : Condition) → ConditionInOrder (reach_of m.progress.job u) d → (state : TaskState) → state_of state ≡ shown plan m.constants.number m.progress.job u d
      → state_of (woken_state mark offset state) ≡ shown plan m.constants.number job2 (change u) (woken_at f offset d)
  shown_change u live State.Ready c Ready e = refl
  shown_change u live State.Ready c (Awaits n) e = absurd (let z : ⊥ = cc in z)
  shown_change u live State.Ready c (WaitsAt at k) e = absurd (let z : ⊥ = cc in z)
  shown_change u live (State.Awaits n) c Ready e = absurd (let z : ⊥ = cc in z)
  shown_change u live (State.Awaits n) c (Awaits k) e = e
  shown_change u live (State.Awaits n) c (WaitsAt at k) e = absurd (let z : ⊥ = cc in z)
  shown_change u live (State.WaitsAt g other) c Ready e = absurd (let z : ⊥ = cc in z)
  shown_change u live (State.WaitsAt g other) c (Awaits k) e = absurd (let z : ⊥ = cc in z)
  shown_change u live (State.WaitsAt g other) c (WaitsAt at k) e =
      let ea : at ≡ frame_address plan m u g = cc in
      let eo : k ≡ other = cc in
      let one : (at == mark) ≡ (f == g) = ap (λ (n : ℕ). n == mark) ea ∙ ap (λ (n : ℕ). frame_address plan m u g == n) at_mark ∙ tells_frames x cpu plan s m t o h runs t u runs.task live f g names own c.0 in
      let two : (k == offset) ≡ (offset == other) = ap (λ (n : ℕ). n == offset) eo ∙ flip other offset in
      let test : ((at == mark) && (k == offset)) ≡ ((f == g) && (offset == other)) = ap (λ (b : Bool). b && (k == offset)) one ∙ ap (λ (b : Bool). (f == g) && b) two in
      let S : Bool → RowState = λ b. state_of (if b then Ready else WaitsAt at k) in
      ap S test ∙ by ((f == g) && (offset == other)) where
        by : (b : Bool) → state_of (if b then Ready else WaitsAt at k) ≡ shown plan m.constants.number job2 (change u) (if b then State.Ready else State.WaitsAt g other)
        by true = refl
        by false = e ∙ ap (λ (z : ℕ → StackPlace). WaitsAtCell (address_of plan (z g)) other) (sym (spots_change u))

  has_m : Has s.jobs m
  has_m = (keyed_has number_of m.constants.number s.jobs m runs.member).0

  own_row : (u : Task) → Has m.progress.job.tasks u → (row : TaskRow) → TaskShows plan m u (task_row row) → TaskShows plan after (change u) (task_row (woken_row m.constants.number mark offset row))
  own_row u i row k =
      let P : TaskRow → Type 0 = λ z. TaskShows plan after (change u) (task_row z) in
      let live = live_in_order s m u o has_m i in
      let order = all_in (TaskInOrder (IsSegment m.constants) m.constants m.progress.job) m.progress.job.tasks u (running_in_order plan s m t o runs).0.tasks.tasks i in
      subst P (row_own m.constants.number mark offset row (woken_state mark offset row.state) k.job refl) (record {
        job = k.job;
        number = k.number;
        slot = k.slot;
        parent = k.parent;
        critical = k.critical ∙ sym (critical_change u.critical u.parents);
        state = shown_change u live u.condition order.condition row.state k.state;
        segment = k.segment;
        place = k.place;
      })

  other_row : (y : SessionJob) (u : Task) (row : TaskRow) → number_of y ≢ m.constants.number → TaskShows plan y u (task_row row) → TaskShows plan y u (task_row (woken_row m.constants.number mark offset row))
  other_row y u row ne k = subst (λ (z : TaskRow). TaskShows plan y u (task_row z)) (row_other m.constants.number mark offset row (λ z. ne (sym k.job ∙ z))) k

  module _ (after_order : IsInOrderButCounts (with_job s m (wake_job (woken_at f offset) (put_job m.progress.job f (offset - 2) w)))) where
    abbrev s2 : Session
    s2 = with_job s m (wake_job (woken_at f offset) (put_job m.progress.job f (offset - 2) w))

    found_after : keyed number_of m.constants.number s2.jobs ≡ Some after
    found_after = member-same s.jobs m.constants.number (record m.progress { job = job2 }) m runs.member

    has_after : Has s2.jobs after
    has_after = (keyed_has number_of m.constants.number s2.jobs after found_after).0

    kept_member : (y : SessionJob) → Has s.jobs y → number_of y ≢ m.constants.number → Has s2.jobs y
    kept_member y i ne = elim (change-kept number_of m.constants.number (λ (z : SessionJob). record z { progress = record m.progress { job = job2 } }) s.jobs m runs.member y i) [
      | inl k ↦ k
      | inr k ↦ absurd (ne (ap number_of k.0))
    ]

    member_back : (y : SessionJob) → Has s2.jobs y → (Has s.jobs y × (number_of y ≢ m.constants.number)) ⊎ (y ≡ after)
    member_back y i = grind (arith, change-has, keyed_member, found_after)

    has_changed : (u : Task) → Has m.progress.job.tasks u → Has job2.tasks (change u)
    has_changed u i = has_map (wake_task (woken_at f offset)) (put_job m.progress.job f (offset - 2) w).tasks (put_task f (offset - 2) w u) (has_map (put_task f (offset - 2) w) m.progress.job.tasks u i)

    abbrev Shown : rows.TaskRow → Type 0
    Shown row = (y : SessionJob) × (u : Task) × Has s2.jobs y × Has y.progress.job.tasks u × TaskShows plan y u row

    shown_by : (row : TaskRow) (y : SessionJob) (u : Task) → Has s.jobs y → Has y.progress.job.tasks u → TaskShows plan y u (task_row row) → Shown (task_row (woken_row m.constants.number mark offset row))
    shown_by row y u iny inu k = elim (cases_eq (number_of y) m.constants.number) [
      | inr ne ↦ (y, u, kept_member y iny ne, inu, other_row y u row ne k)
      | inl e ↦
          let same : m ≡ y = sym (same_Some y m (sym (keyed_member 1 s.jobs y o.numbered iny) ∙ ap (λ (n : ℕ). keyed number_of n s.jobs) e ∙ runs.member)) in
          let P : SessionJob → Type 0 = λ z. Has z.progress.job.tasks u × TaskShows plan z u (task_row row) in
          let (int, shows) = subst P (sym same) (inu, k) in
          (after, change u, has_after, has_changed u int, own_row u int row shows)
    ]

    pub tables_caused : (tasks new : Tasks) → new ≡ record tasks { rows = new.rows } → new.rows.items ≡ map (woken_row m.constants.number mark offset) tasks.rows.items → TasksShow plan s tasks → TasksShow plan s2 new
    tables_caused tasks new rest items k =
        let ρ = woken_row m.constants.number mark offset in
        let Q : Tasks → List TaskRow → Type 0 = λ z l. rows.TablesShow plan s2 (map task_row l) (map job_row z.jobs) (Rattle.b67_task.specs.Tables.counts_of z) in
        let base : Q tasks (map ρ tasks.rows.items) = record {
          tasks = λ row i.
              let a = has_map_back task_row (map ρ tasks.rows.items) row i in
              let b = has_map_back ρ tasks.rows.items a.item a.among in
              let (y, u, iny, inu, shows) = k.tasks (task_row b.item) (has_map task_row tasks.rows.items b.item b.among) in
              subst Shown (ap task_row b.is ∙ a.is) (shown_by b.item y u iny inu shows);
          each = λ y u iny inu. elim (member_back y iny) [
            | inl z ↦
                (let (row, i, shows) = k.each y u z.0 inu in
                let a = has_map_back task_row tasks.rows.items row i in
                (task_row (ρ a.item), has_map task_row (map ρ tasks.rows.items) (ρ a.item) (has_map ρ tasks.rows.items a.item a.among), other_row y u a.item z.1 (subst (TaskShows plan y u) (sym a.is) shows)))
            | inr e ↦
                (let T : SessionJob → Type 0 = λ z. Has z.progress.job.tasks u → (row : rows.TaskRow) × Has (map task_row (map ρ tasks.rows.items)) row × TaskShows plan z u row in
                subst T (sym e) (λ int.
                let c = has_map_back (wake_task (woken_at f offset)) (put_job m.progress.job f (offset - 2) w).tasks u int in
                let b = has_map_back (put_task f (offset - 2) w) m.progress.job.tasks c.item c.among in
                let (row, i, shows) = k.each m b.item has_m b.among in
                let a = has_map_back task_row tasks.rows.items row i in
                let is : change b.item ≡ u = ap (wake_task (woken_at f offset)) b.is ∙ c.is in (
                  task_row (ρ a.item),
                  has_map task_row (map ρ tasks.rows.items) (ρ a.item) (has_map ρ tasks.rows.items a.item a.among),
                  subst (λ (v : Task). TaskShows plan after v (task_row (ρ a.item))) is (own_row b.item b.among a.item (subst (TaskShows plan m b.item) (sym a.is) shows)),
                )) inu)
          ];
          once = subst Differ (sym (slots_same m.constants.number mark offset tasks.rows.items)) k.once;
          jobs = jobs_kept plan m.constants.number m (record m.progress { job = job2 }) s.jobs (map job_row tasks.jobs) runs.member
              (λ row z. record { dictionary = z.dictionary; segments = z.segments; rows = z.rows; limit = z.limit; made = z.made; next_task = z.next_task; numbers = z.numbers }) k.jobs;
          counts =
              (let n = k.counts in
              record {
                quantum = n.quantum;
                made = n.made;
                turn = n.turn;
                last_job = n.last_job;
                last_number = n.last_number;
                switches = n.switches;
                next = n.next;
                past = n.past;
                running = running_same plan m.constants.number mark offset tasks.rows.items tasks.running tasks.running n.running;
              });
        } in
        grind arith
