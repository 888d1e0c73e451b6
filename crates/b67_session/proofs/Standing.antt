-- Where the chosen task stands, by the registers or by its row, and whether what is sought holds of it.
use Rattle.std.proofs.Common.{◌≡◌, ◌≢◌, ◌≤◌, ℕ, ◌-◌, List, map, Option, Some, None, refl, sym, ap, ◌∙◌, subst, arith}
use Rattle.std.specs.List.{slice_get}
use Rattle.std.proofs.lemmas.Option.{same_Some}
use Rattle.b67_lemmas.specs.Lists.{Has}
use Rattle.b67_lemmas.proofs.Places.{at_mapped}
use Rattle.b67_word.specs.declared.couples.Place.{Place}
use Rattle.b67_model.specs.Common.{Task, SessionJob, Session, Who, Choice, choice}
use Rattle.b67_law.specs.Turns.{IsNext}
use Rattle.b67_layout.specs.Common.{Placement, slot_of, TaskShows, RunningRow, IsRunning}
use Rattle.b67_stack.specs.Common.{Activation, stack_words, mark_place, MachineView, Storage, Represents}
use Rattle.b67_layout.specs.Rows as rows
use Rattle.b67_layout.proofs.Common.{differ_at}
use Rattle.b67_layout.proofs.Rows.{slot_below}
use Rattle.b67_task.specs.declared.tables.TaskRow.{TaskRow}
use Rattle.b67_task.specs.declared.tables.Machine.{Machine}
use Rattle.b67_task.specs.Tables.{task_row}
use Rattle.b67_task.specs.declared.counting.Chosen.{Chosen}
use Rattle.b67_task.specs.Counted.{choice_of}
use Rattle.b67_task.specs.Chosen.{who_of, IsReadyAt, Chooses}
use Rattle.b67_session.specs.Slices.{StandsAt}
use Rattle.b67_session.specs.declared.seeking.CodePlace.{CodePlace}
use Rattle.b67_session.specs.declared.seeking.Sought.{Sought}
use Rattle.b67_session.specs.declared.seeking.Sought.TheVariants as sought
use Rattle.b67_session.specs.Search.{stands_at, mark_height, IsSought}
use Rattle.b67_session.specs.Closing.{StandsChosen, ChoseSome}
use Rattle.b67_session.proofs.Heights.{AreHeights, running_heights, waits_in_one, waiting_heights}
use Rattle.b67_task.specs.Turns.{WaitsOn, WaitsInOne}
use Rattle.b67_session.proofs.Next.{in_session, in_job, job_is, task_is, found, task_found, chose_row, as_next}
use Rattle.b67_session.proofs.Turned.{who}

abbrev pub code_place : ℕ → ℕ → Place → CodePlace
code_place job segment place = record { job = job; segment = segment; place = place }

same_place : {job job' segment segment' : ℕ} {place place' : Place} → job ≡ job' → segment ≡ segment' → place ≡ place' → code_place job segment place ≡ code_place job' segment' place'
same_place {job' = job'} {segment = segment} {segment' = segment'} {place = place} a b c = grind arith

-- the chosen row is that of the task that makes the next step
pub its_who : (rows : List TaskRow) (c : Chosen) (s : Session) (m : SessionJob) (t : Task) (n : IsNext s m t) → n.chosen ≡ choice_of c → IsReadyAt rows c.row (choice_of c).who → (r : TaskRow) → slice_get rows c.row ≡ Some r → who_of r ≡ n.chosen.who
its_who rows c s m t n same ready r at = grind arith

module _ (said : Option (List (List ℕ))) (k : Machine) (s : Session) (m : SessionJob) (t : Task) (n : IsNext s m t) (h : StandsAt said k s) (i : ℕ) (r : TaskRow) (at : slice_get k.tasks.rows.items i ≡ Some r) (is : who_of r ≡ n.chosen.who) where
  its_row : TaskShows h.plan m t (task_row r)
  its_row = chose_row s m t n h.plan k.tasks i r h.ordered h.stands.tables at is

  shown : slice_get (map task_row k.tasks.rows.items) i ≡ Some (task_row r)
  shown = at_mapped task_row k.tasks.rows.items i r at

  pub runs_here : k.tasks.running ≡ i → IsRunning h.plan s.jobs m t
  runs_here e =
      let here : slice_get (map task_row k.tasks.rows.items) k.tasks.running ≡ Some (task_row r) = ap (slice_get (map task_row k.tasks.rows.items)) e ∙ shown in
      let runs : RunningRow h.plan (Some (task_row r)) k.tasks.running = subst (λ (o : Option rows.TaskRow). RunningRow h.plan o k.tasks.running) here h.stands.tables.counts.running in
      record { member = found s m t n; task = task_found s m t n; slot = sym runs.1 ∙ its_row.slot }

  pub in_registers : k.tasks.running ≡ i → code_place r.job k.cpu.regs.segment k.cpu.regs.place ≡ stands_at m t
  in_registers e = let q = h.stands.session.holds.running m t (runs_here e) in same_place its_row.job q.segment q.place

  pub apart : k.tasks.running ≢ i → r.slot ≢ h.plan.running
  apart other e = by (slice_get (map task_row k.tasks.rows.items) k.tasks.running) refl h.stands.tables.counts.running where
    by : (o : Option rows.TaskRow) → slice_get (map task_row k.tasks.rows.items) k.tasks.running ≡ o → RunningRow h.plan o k.tasks.running → ⊥
    by None is (rows_end, none) =
        let idle : h.plan.running ≡ 255 = none in
        let low = slot_below h.plan s.jobs m t h.stands.session.holds.fits.rows (in_session s m t n) (in_job s m t n) in
        omega (arith, e, idle, its_row.slot, low, h.stands.session.holds.fits.few)
    by (Some q) is (some, slot) = other (differ_at (λ (z : rows.TaskRow). z.slot) (map task_row k.tasks.rows.items) k.tasks.running i q (task_row r) h.stands.tables.once is shown (slot ∙ sym e))

  pub in_row : k.tasks.running ≢ i → code_place r.job r.segment r.place ≡ stands_at m t
  in_row other = same_place its_row.job (its_row.segment (apart other)) (its_row.place (apart other))

abbrev who_by : ℕ → ℕ → Who
who_by job task = record { job = job; task = task }

-- how high the chosen task's stack is
module _ (x : Storage) (told : Option (List (List ℕ))) (k : Machine) (plan : Placement) (s : Session) (m : SessionJob) (t : Task) (c : Chosen) (w : StandsChosen x told k plan s m t c) where
  abbrev at : StandsAt told k s
  at = record { storage = x; plan = plan; ordered = w.ordered; stands = w.stands }

  its : who_of w.row.row ≡ w.next.chosen.who
  its = ap (λ (z : ℕ). who_by z w.row.row.number) (w.row.shows.job ∙ job_is s m t w.next) ∙ ap (who_by w.next.chosen.who.job) (w.row.shows.number ∙ task_is s m t w.next)

  pub chosen_running : k.tasks.running ≡ c.row → (top mark : ℕ) → top ≡ k.cpu.regs.s - k.cpu.regs.bosr → mark ≡ k.cpu.regs.f - k.cpu.regs.bosr → AreHeights top mark t
  chosen_running e top mark top_is mark_is =
      let high = running_heights x k.cpu plan s m t w.stands.session (runs_here told k s m t w.next at c.row w.row.row w.row.there its e) in
      (omega (arith, top_is, high.0), mark_is ∙ high.1)

  module _ (other : k.tasks.running ≢ c.row) (v : TaskRow) (is : v ≡ w.row.row) where
    here : v.slot ≡ slot_of plan m.constants.number t.number
    here = ap (λ (z : TaskRow). z.slot) is ∙ w.row.shows.slot

    away : v.slot ≢ plan.running
    away e = apart told k s m t w.next at c.row w.row.row w.row.there its other (sym (ap (λ (z : TaskRow). z.slot) is) ∙ e)

    pub chosen_waits : WaitsInOne k.cpu.core k.cpu.regs v.slot
    chosen_waits = waits_in_one x k.cpu plan s m t w.stands.session w.next v.slot here away

    pub chosen_waiting : (top mark : ℕ) → ((y : Storage) (p : MachineView) (st : List Activation) → Represents y k.cpu.core k.cpu.regs p → WaitsOn p v.slot st → (top ≡ stack_words st) × (mark ≡ mark_place st)) → AreHeights top mark t
    chosen_waiting top mark tell = waiting_heights x k.cpu plan s m t w.stands.session w.next v.slot here away top mark tell

-- where no task is chosen, nothing is sought
pub none_sought : (what : Sought) (places : List CodePlace) (s : Session) → choice s ≡ None → IsSought what places s → ⊥
none_sought what places s none is = grind arith

-- a chosen task stands there
abbrev pub IsPlaceOf : Machine → Chosen → CodePlace → Type 0
IsPlaceOf k c there =
    (said : Option (List (List ℕ))) (s : Session) (m : SessionJob) (t : Task) (n : IsNext s m t) → StandsAt said k s → n.chosen ≡ choice_of c → IsReadyAt k.tasks.rows.items c.row (choice_of c).who
    → there ≡ stands_at m t

module _ (said : Option (List (List ℕ))) (k : Machine) (s : Session) (h : StandsAt said k s) (c : Chosen) (chooses : Chooses k.tasks.rows.items (Some c) (choice s)) where
  pub stands_chosen : (let w = who said k s h c chooses in StandsChosen h.storage said k h.plan s w.member w.task c)
  stands_chosen =
      let w = who said k s h c chooses in
      let is = its_who k.tasks.rows.items c s w.member w.task w.next w.chosen chooses.0 chooses.0.row chooses.0.at in
      record {
        ordered = h.ordered;
        next = w.next;
        chosen = w.chosen;
        stands = h.stands;
        row = record {
          row = chooses.0.row;
          there = chooses.0.at;
          member = in_session s w.member w.task w.next;
          task = in_job s w.member w.task w.next;
          shows = its_row said k s w.member w.task w.next h c.row chooses.0.row chooses.0.at is;
        };
      }

  pub chose_some : ChoseSome k c
  chose_some = let w = who said k s h c chooses in record { storage = h.storage; told = said; plan = h.plan; session = s; member = w.member; task = w.task; stands = stands_chosen }

module _ (said : Option (List (List ℕ))) (k : Machine) (s : Session) (h : StandsAt said k s) (c : Chosen) (chooses : Chooses k.tasks.rows.items (Some c) (choice s)) (places : List CodePlace) where
  pub place_sought : (there : CodePlace) → IsPlaceOf k c there → Has places there → IsSought sought.Place places s
  place_sought there is has =
      let w = who said k s h c chooses in
      (w.member, w.task, w.next, subst (Has places) (is said s w.member w.task w.next h w.chosen chooses.0) has)

  pub place_unsought : (there : CodePlace) → IsPlaceOf k c there → (Has places there → ⊥) → IsSought sought.Place places s → ⊥
  place_unsought there is none (m, t, n, has) = none (subst (Has places) (sym (is said s m t n h (same_Some n.chosen (choice_of c) (sym n.is ∙ chooses.1)) chooses.0)) has)

  -- the chosen task's numbers
  number_is : (let w = who said k s h c chooses in (w.member.constants.number ≡ c.job) × (w.task.number ≡ c.number))
  number_is =
      let w = who said k s h c chooses in
      (job_is s w.member w.task w.next ∙ ap (λ (z : Choice). z.who.job) w.chosen, task_is s w.member w.task w.next ∙ ap (λ (z : Choice). z.who.task) w.chosen)

  pub within_sought : (job number upto : ℕ) → (let w = who said k s h c chooses in (c.job ≡ job) × (c.number ≡ number) × (mark_height w.task ≤ upto)) → IsSought (sought.Within job number upto) places s
  within_sought job number upto is = (let w = who said k s h c chooses in (w.member, w.task, w.next, number_is.0 ∙ is.0, number_is.1 ∙ is.1, is.2))

  pub within_told : (job number upto : ℕ) → IsSought (sought.Within job number upto) places s → (let w = who said k s h c chooses in (c.job ≡ job) × (c.number ≡ number) × (mark_height w.task ≤ upto))
  within_told job number upto (m, t, n, same_job, same_number, low) =
      let w = who said k s h c chooses in
      as_next s w.member m w.task t (λ (z : SessionJob) (v : Task). (c.job ≡ job) × (c.number ≡ number) × (mark_height v ≤ upto)) n w.next
      (let here = same_Some n.chosen (choice_of c) (sym n.is ∙ chooses.1) in
      (sym (job_is s m t n ∙ ap (λ (z : Choice). z.who.job) here) ∙ same_job, sym (task_is s m t n ∙ ap (λ (z : Choice). z.who.task) here) ∙ same_number, low))

  pub switch_sought : (c.job ≡ k.tasks.last_job → c.number ≢ k.tasks.last_number) → IsSought sought.Switch places s
  switch_sought other = grind arith

  pub switch_unsought : (c.job ≡ k.tasks.last_job) × (c.number ≡ k.tasks.last_number) → IsSought sought.Switch places s → ⊥
  switch_unsought (job, number) (d, is, other) = grind arith

-- the last task makes the next operator, and its registers are in use
module _ (said : Option (List (List ℕ))) (k : Machine) (s : Session) (m : SessionJob) (t : Task) (n : IsNext s m t) (h : StandsAt said k s) (last : n.chosen.who ≡ s.last) (runs : IsRunning h.plan s.jobs m t) (places : List CodePlace) where
  last_job : k.tasks.last_job ≡ m.constants.number
  last_job = h.stands.tables.counts.last_job ∙ ap (λ (z : Who). z.job) (sym last) ∙ sym (job_is s m t n)

  last_number : k.tasks.last_number ≡ t.number
  last_number = h.stands.tables.counts.last_number ∙ ap (λ (z : Who). z.task) (sym last) ∙ sym (task_is s m t n)

  pub place_elsewhere : IsSought sought.Place places s → Has places (code_place k.tasks.last_job k.cpu.regs.segment k.cpu.regs.place)
  place_elsewhere (y, u, next, has) = grind (arith, last_job)

  pub no_switch : IsSought sought.Switch places s → ⊥
  no_switch (c, is, other) = other (ap (λ (z : Choice). z.who) (same_Some c n.chosen (sym is ∙ n.is)) ∙ last)

  pub within_elsewhere : (job number upto : ℕ) → IsSought (sought.Within job number upto) places s → (k.tasks.last_job ≡ job) × (k.tasks.last_number ≡ number) × (k.cpu.regs.f - k.cpu.regs.bosr ≤ upto)
  within_elsewhere job number upto (y, u, next, same_job, same_number, low) =
      let high = running_heights h.storage k.cpu h.plan s m t h.stands.session runs in
      grind (arith, last_job, last_number)
