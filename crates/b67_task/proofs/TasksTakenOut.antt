-- Several tasks of a session die: before, their slots may be emptied in turn; afterwards, the machine represents the session
-- that the endings leave.
use Rattle.std.proofs.Common.{◌≡◌, ◌≢◌, ℕ, ◌<◌, List, [], ◌∷◌, map, refl, sym, ◌∙◌, ap, arith, inl, inr, ◌⊎◌, ⊎_elim, subst}
use Rattle.std.specs.Prelude.{◌==◌, filter}
use Rattle.std.proofs.lemmas.Bool.{eq-eqb, eqb-true}
use Rattle.std.proofs.lemmas.Simd.{map-map}
use Rattle.b67_word.specs.Tagged.{Tagged}
use Rattle.b67_ctl.specs.declared.registers.Regs.{Regs}
use Rattle.b67_lemmas.specs.Lists.{Has}
use Rattle.b67_model.specs.Common.{Task, SessionJob, Session, among}
use Rattle.b67_lemmas.proofs.Members.{any_has, any_some, falls_same, has_filter, has_filter_in, has_map, has_map_back}
use Rattle.b67_stack.specs.Common.{PagedObject, MachineView, Storage, Represents}
use Rattle.b67_layout.specs.Common.{Placement, slot_of, slot_at, machine_view, RepresentsCritical, SessionHolds, IsInOrderButCounts}
use Rattle.b67_layout.proofs.MachineViews.{with_course}
use Rattle.b67_task.specs.Vacated.{put_out}
use Rattle.b67_task.specs.DeathsInTurn.{Death, MayAllDie, all_died, slots_of, SameButSlots, ZeroVector, all_put_out}
use Rattle.b67_task.specs.DeathTurns.{InTurn, lies_out, deaths}
use Rattle.b67_task.specs.Leaves.{Lost, Cleared}
use Rattle.b67_task.specs.Ends.{gone_of, job_without, rows_without}
use Rattle.b67_task.specs.TakenOut.{MayTakeOut, IsBuried, slots_gone, plan_without, session_without}
use Rattle.b67_task.proofs.Slotwise.{order_of}
use Rattle.b67_task.proofs.DeathTurns.{SomeDied, none_died, AllDied, deaths_may, deaths_done}
use Rattle.b67_task.proofs.After.{SessionHolds-left}
use Rattle.b67_task.proofs.EndsAlone.{lists, leaves}

-- the slots of the tasks, in turn
pub slots_deaths : (plan : Placement) (j : ℕ) (todo : List Task) (objects : List PagedObject) → slots_of (deaths plan j objects todo) ≡ map (λ (t : Task). slot_of plan j t.number) todo
unfolding deaths
slots_deaths plan j [] objects = refl
slots_deaths plan j (t ∷ todo) objects = ap (λ (ks : List ℕ). slot_of plan j t.number ∷ ks) (slots_deaths plan j todo (filter (lies_out plan (slot_of plan j t.number)) objects))

-- no registers are in use after the death of the running task
pub halts : (r : Regs) (ks : List ℕ) → (r.slot ≡ 255) ⊎ Has ks r.slot → (all_put_out r ks).slot ≡ 255
unfolding all_put_out
halts r [] e = ⊎_elim (λ (z : r.slot ≡ 255). z) (λ (z : ⊥). absurd z) e
halts r (k ∷ ks) e = grind (arith, halts (put_out r k) ks)

module _ (x : Storage) (core : List Tagged) (r : Regs) (marks : List ℕ) (plan : Placement) (s : Session) (o : IsInOrderButCounts s) (h : SessionHolds x core r marks plan s)
    (m : SessionJob) (in_m : Has s.jobs m) (some : 0 < plan.size) (todo : List Task) (turn : InTurn m.progress.job.tasks [] todo) where
  abbrev j : ℕ
  j = m.constants.number

  abbrev p : MachineView
  p = machine_view plan s.jobs

  abbrev pub dying : List Death
  dying = deaths plan m.constants.number (machine_view plan s.jobs).objects todo

  -- they may die in turn
  pub may_die : MayAllDie (machine_view plan s.jobs) core dying
  may_die = deaths_may x core r marks plan s o h m in_m some todo (slot_at plan s.jobs) p.objects [] (none_died x core r marks plan s o h m in_m some) turn

  result : AllDied x core r marks plan s o h m in_m some (slot_at plan s.jobs) p.objects [] todo
  result = deaths_done x core r marks plan s o h m in_m some todo (slot_at plan s.jobs) p.objects [] (none_died x core r marks plan s o h m in_m some) turn

  module _ (numbers : List ℕ) (there : (t : Task) → Has todo t → Has (gone_of m.progress.job numbers) t) (back : (t : Task) → Has (gone_of m.progress.job numbers) t → Has todo t)
      (stopped : (plan.running ≡ 255) ⊎ Lost plan m.constants.number (gone_of m.progress.job numbers) plan.running) where
    abbrev gone : List Task
    gone = gone_of m.progress.job numbers

    all_there : (t : Task) → Has result.all t → Has gone t
    all_there t i = ⊎_elim (λ (z : ⊥). absurd z) (λ (z : Has todo t). there t z) (result.back t i)

    all_back : (t : Task) → Has gone t → Has result.all t
    all_back t i = result.there t (inr (back t i))

    died : SomeDied x core r marks plan s o h m in_m some result.slots result.objects gone
    died =
        let d = result.died in
        record {
          alive = λ g i. d.alive g (all_back g i);
          free = d.free;
          kept = λ t i away. d.kept t i (λ g. away (all_there t g));
          lost = λ t i. d.lost t (all_back t i);
          stays = λ q away. d.stays q (λ g i. away g (all_there g i));
          closed = λ g i u in_u above. all_there u (d.closed g (all_back g i) u in_u above);
          fits = d.fits;
          out = λ u i g in_g. d.out u i g (all_back g in_g);
          was = d.was;
          still = λ u i away. d.still u i (λ g in_g. away g (all_there g in_g));
        }

    abbrev pub plan_end : Placement
    plan_end = record plan { rows = rows_without plan m.constants.number numbers; running = 255 }

    abbrev pub session_end : Session
    session_end = record s { jobs = with_course s.jobs m.constants.number (record m.progress { job = job_without m.progress.job numbers }) }

    slots_is : (t : Task) → Has gone t → Has (slots_of dying) (slot_of plan m.constants.number t.number)
    slots_is t i = subst (λ (ks : List ℕ). Has ks (slot_of plan j t.number)) (sym (slots_deaths plan j todo p.objects)) (has_map (λ (u : Task). slot_of plan j u.number) todo t (back t i))

    slot_task : (k : ℕ) → Has (slots_of dying) k → (t : Task) × Has gone t × (slot_of plan j t.number ≡ k)
    slot_task k i =
        let b = has_map_back (λ (u : Task). slot_of plan j u.number) todo k (subst (λ (ks : List ℕ). Has ks k) (slots_deaths plan j todo p.objects) i) in
        (b.item, there b.item b.among, b.is)

    -- their slots' words are cleared, and no others below the slots
    cleared : (new : List Tagged) → SameButSlots x.low (machine_view plan s.jobs) (slots_of dying) core new → ZeroVector (slots_of dying) new → Cleared core new plan m gone
    cleared new same zero = grind (arith, slot_task, slots_is)

    running_among : (r.slot ≡ 255) ⊎ Has (slots_of dying) r.slot
    running_among = grind (arith, slots_is)

    pub SessionHolds-end : (y : Storage) (new : List Tagged) (marks' : List ℕ) → Represents y new (all_put_out r (slots_of dying)) (all_died (machine_view plan s.jobs) dying) → SameButSlots x.low (machine_view plan s.jobs) (slots_of dying) core new → ZeroVector (slots_of dying) new
        → RepresentsCritical marks' plan_end session_end.jobs → SessionHolds y new (all_put_out r (slots_of dying)) marks' plan_end session_end
    SessionHolds-end y new marks' st same zero critical =
        SessionHolds-left x core r marks plan s o h m in_m some (rows_without plan m.constants.number numbers) (job_without m.progress.job numbers) gone (leaves x core r marks plan s o h m in_m numbers stopped) result.slots result.objects died (lists x core r marks plan s o h m in_m numbers)
        y new (all_put_out r (slots_of dying)) marks' (cleared new same zero) (halts r (slots_of dying) running_among) (subst (λ (q : MachineView). Represents y new (all_put_out r (slots_of dying)) q) result.is st) critical

-- who goes in turn lives
turn_live : (live before todo : List Task) (t : Task) → InTurn live before todo → Has todo t → Has live t
unfolding InTurn
turn_live live before [] t h i = absurd i
turn_live live before (u ∷ todo) t h (inl e) = subst (Has live) e h.0
turn_live live before (u ∷ todo) t h (inr i) = turn_live live (u ∷ before) todo t h.3 i

module _ (x : Storage) (core : List Tagged) (r : Regs) (marks : List ℕ) (plan : Placement) (s : Session) (m : SessionJob) (numbers : List ℕ) (b : MayTakeOut x core r marks plan s m numbers) where
  abbrev all_dying : List Death
  all_dying = deaths plan m.constants.number (machine_view plan s.jobs).objects b.todo

  pub ends_in : (ds : List Death) × MayAllDie (machine_view plan s.jobs) core ds × (slots_of ds ≡ slots_gone plan m numbers)
  ends_in = (
    all_dying,
    may_die x core r marks plan s b.ordered b.holds m b.member b.room b.todo b.turn,
    slots_deaths plan m.constants.number b.todo (machine_view plan s.jobs).objects
        ∙ sym (map-map (slot_of plan m.constants.number) (λ (t : Task). t.number) b.todo) ∙ ap (map (slot_of plan m.constants.number)) b.named,
  )

  -- they are the tasks with these numbers
  there : (t : Task) → Has b.todo t → Has (gone_of m.progress.job numbers) t
  there t i =
      let named : Has numbers t.number = subst (λ (ns : List ℕ). Has ns t.number) b.named (has_map (λ (u : Task). u.number) b.todo t i) in
      has_filter_in (λ (u : Task). among numbers u.number) m.progress.job.tasks t (turn_live m.progress.job.tasks [] b.todo t b.turn i) (any_some (λ (n : ℕ). n == t.number) numbers t.number named (eq-eqb t.number t.number refl))

  back : (t : Task) → Has (gone_of m.progress.job numbers) t → Has b.todo t
  back t i =
      let k = has_filter (λ (u : Task). among numbers u.number) m.progress.job.tasks t i in
      let (n, in_n, is) = any_has (λ (n : ℕ). n == t.number) numbers k.1 in
      let u = has_map_back (λ (v : Task). v.number) b.todo n (subst (λ (ns : List ℕ). Has ns n) (sym b.named) in_n) in
      let same : u.item ≡ t = falls_same (λ (v : Task). v.number) m.progress.job.next_task m.progress.job.tasks u.item t (order_of x core r marks plan s b.ordered b.holds m b.member).tasks.numbers (turn_live m.progress.job.tasks [] b.todo u.item b.turn u.among) k.0 (u.is ∙ eqb-true n t.number is) in
      subst (Has b.todo) same u.among

  pub buried_so : (y : Storage) (new : List Tagged) (r' : Regs) → r' ≡ all_put_out r (slots_of ends_in.0) → Represents y new r' (all_died (machine_view plan s.jobs) ends_in.0)
      → SameButSlots x.low (machine_view plan s.jobs) (slots_of ends_in.0) core new → ZeroVector (slots_of ends_in.0) new → IsBuried y new r' plan s m numbers
  unfolding ends_in
  buried_so y new r' e st same zero marks' critical =
      subst (λ (q : Regs). SessionHolds y new q marks' (plan_without plan m numbers) (session_without s m numbers)) (sym e)
      (SessionHolds-end x core r marks plan s b.ordered b.holds m b.member b.room b.todo b.turn numbers there back b.stopped y new marks'
      (subst (λ (q : Regs). Represents y new q (all_died (machine_view plan s.jobs) all_dying)) e st) same zero critical)
