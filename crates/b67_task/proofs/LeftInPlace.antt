-- What is left when tasks end is held as it was.
use Rattle.std.proofs.Common.{◌≡◌, ◌≢◌, ℕ, ◌+◌, ◌<◌, List, [], ◌∷◌, map, sym, ◌∙◌, ap, arith, inl, inr, ◌⊎◌, subst, ◌==◌}
use Rattle.std.proofs.lemmas.Bool.{eq-eqb}
use Rattle.b67_area.specs.declared.Kind.TheVariants as kind
use Rattle.b67_word.specs.Tagged.{Tagged}
use Rattle.b67_ctl.specs.declared.registers.Regs.{Regs}
use Rattle.b67_lemmas.specs.Lists.{Has}
use Rattle.b67_lemmas.proofs.Members.{any_some, has_append_cases, has_append_left, has_append_right, has_filter_in, has_flat, has_flat_back, has_map, has_map_back}
use Rattle.b67_model.specs.Common.{Array, Segment, Task, SessionJob, Session, among}
use Rattle.b67_law.proofs.Deaths.{IsClosed}
use Rattle.b67_stack.specs.MachineView.{PagedObject, MachineView, slot_base}
use Rattle.b67_stack.specs.Represents.{Storage}
use Rattle.b67_layout.specs.Common.{Placement, slot_of, code_objects, array_object, objects_of, machine_view, SessionHolds, IsInOrderButCounts}
use Rattle.b67_task.specs.DeathsInTurn.{Death, MayAllDie}
use Rattle.b67_task.specs.Vacated.{died}
use Rattle.b67_task.specs.Ends.{gone_of, job_without}
use Rattle.b67_task.specs.Leaves.{Lost, NotTheirs}
use Rattle.b67_task.specs.TakenOut.{GaveBack, plan_without, session_without, slots_gone}
use Rattle.b67_task.proofs.EndsAlone.{leaves}
use Rattle.b67_task.proofs.Slotwise.{not_there}
use Rattle.b67_task.specs.Deaths.{LeavesInPlace}
use Rattle.b67_task.proofs.Remains.{member', member_of}

-- what goes lies in a slot of those that die
gone_lies : (p : MachineView) (core : List Tagged) (ds : List Death) → MayAllDie p core ds → (d : Death) → Has ds d → (v : PagedObject) → Has d.gone v → (slot_base p d.slot < v.home) × (v.home < slot_base p d.slot + p.size)
unfolding MayAllDie
gone_lies p core [] may d i v among = absurd i
gone_lies p core (e ∷ ds) may d (inl is) v among = grind arith
gone_lies p core (e ∷ ds) may d (inr i) v among = gone_lies (died p e.slot e.rest) core ds may.1 d i v among

-- segments
code_kind : (plan : Placement) (j n : ℕ) (segments : List Segment) (u : PagedObject) → Has (code_objects plan j n segments) u → u.kind ≡ kind.Code
code_kind plan j n [] u i = absurd i
code_kind plan j n (q ∷ more) u (inl e) = ap (λ (v : PagedObject). v.kind) (sym e)
code_kind plan j n (q ∷ more) u (inr i) = code_kind plan j (n + 1) more u i

code_same : (plan : Placement) (m : SessionJob) (numbers : List ℕ) (j n : ℕ) (segments : List Segment) (u : PagedObject) → Has (code_objects (plan_without plan m numbers) j n segments) u → Has (code_objects plan j n segments) u
code_same plan m numbers j n [] u i = i
code_same plan m numbers j n (q ∷ more) u (inl e) = inl e
code_same plan m numbers j n (q ∷ more) u (inr i) = inr (code_same plan m numbers j (n + 1) more u i)

module _ (x : Storage) (core : List Tagged) (r : Regs) (marks : List ℕ) (plan : Placement) (s : Session) (o : IsInOrderButCounts s) (h : SessionHolds x core r marks plan s)
    (m : SessionJob) (in_m : Has s.jobs m) (numbers : List ℕ) (stopped : (plan.running ≡ 255) ⊎ Lost plan m.constants.number (gone_of m.progress.job numbers) plan.running)
    (closed : IsClosed m.progress.job numbers) where
  abbrev gone : List Task
  gone = gone_of m.progress.job numbers

  -- an object of the session that isn't an array of the dead
  data Left (u : PagedObject) : Type 0 where
    segment : (y : SessionJob) → Has s.jobs y → Has (code_objects plan y.constants.number 1 y.constants.segments) u → Left u
    array : (y : SessionJob) → Has s.jobs y → (b : Array) → Has y.progress.job.arrays b → array_object plan y.constants.number b ≡ u → (y ≡ m → NotTheirs gone b) → Left u

  of_member : (z : SessionJob) → (Has s.jobs z × (z.constants.number ≢ m.constants.number)) ⊎ (z ≡ member' x core r marks plan s o h m in_m numbers stopped closed) → (u : PagedObject) → Has (objects_of (plan_without plan m numbers) z) u → Left u
  of_member z (inl other) u i =
      elim (has_append_cases (code_objects (plan_without plan m numbers) z.constants.number 1 z.constants.segments) (map (array_object plan z.constants.number) z.progress.job.arrays) u i) [
        | inl c ↦ segment z other.0 (code_same plan m numbers z.constants.number 1 z.constants.segments u c)
        | inr c ↦
            let b = has_map_back (array_object plan z.constants.number) z.progress.job.arrays u c in
            array z other.0 b.item b.among b.is (λ e. absurd (other.1 (ap (λ (v : SessionJob). v.constants.number) e)))
      ]
  of_member z (inr is) u i =
      let own = subst (λ (v : SessionJob). Has (objects_of (plan_without plan m numbers) v) u) is i in
      let job' = job_without m.progress.job numbers in
      elim (has_append_cases (code_objects (plan_without plan m numbers) m.constants.number 1 m.constants.segments) (map (array_object plan m.constants.number) job'.arrays) u own) [
        | inl c ↦ segment m in_m (code_same plan m numbers m.constants.number 1 m.constants.segments u c)
        | inr c ↦
            let b = has_map_back (array_object plan m.constants.number) job'.arrays u c in
            let k = (leaves x core r marks plan s o h m in_m numbers stopped).array_in b.item b.among in
            array m in_m b.item k.0 b.is (λ e. k.1)
      ]

  left : (u : PagedObject) → Has (machine_view (plan_without plan m numbers) (session_without s m numbers).jobs).objects u → Left u
  left u i =
      let part = has_flat_back (objects_of (plan_without plan m numbers)) (session_without s m numbers).jobs u i in
      of_member part.item (member_of x core r marks plan s o h m in_m numbers stopped closed part.item part.among) u part.inside

  was : (u : PagedObject) → Left u → Has (machine_view plan s.jobs).objects u
  was u (segment y in_y c) = grind (arith, has_flat, has_append_left)
  was u (array y in_y b in_b is away) =
      has_flat (objects_of plan) s.jobs y u in_y
      (has_append_right (code_objects plan y.constants.number 1 y.constants.segments) (map (array_object plan y.constants.number) y.progress.job.arrays) u
      (subst (Has (map (array_object plan y.constants.number) y.progress.job.arrays)) is (has_map (array_object plan y.constants.number) y.progress.job.arrays b in_b)))

  module _ (some : 0 < plan.size) (live : (n : ℕ) → Has numbers n → (t : Task) × Has m.progress.job.tasks t × (t.number ≡ n)) where
    -- it doesn't lie in the slot of one of them
    not_in : (n : ℕ) → Has numbers n → (u : PagedObject) → Left u → slot_base (machine_view plan s.jobs) (slot_of plan m.constants.number n) < u.home
        → u.home < slot_base (machine_view plan s.jobs) (slot_of plan m.constants.number n) + plan.size → ⊥
    not_in n in_n u (segment y in_y c) low up =
        let below = h.memory.slots.laid.codes u (was u (segment y in_y c)) (code_kind plan y.constants.number 1 y.constants.segments u c) in omega (arith, below, low)
    not_in n in_n u (array y in_y b in_b is away) low up =
        let (g, in_g, at) = live n in_n in
        let in_gone : Has gone g = has_filter_in (λ (t : Task). among numbers t.number) m.progress.job.tasks g in_g (any_some (λ (i : ℕ). i == g.number) numbers n in_n (eq-eqb n g.number (sym at))) in
        let home : plan.home y.constants.number b.identity ≡ u.home = ap (λ (v : PagedObject). v.home) is in
        let slot : slot_of plan m.constants.number g.number ≡ slot_of plan m.constants.number n = ap (slot_of plan m.constants.number) at in
        let P : ℕ → ℕ → Type 0 = λ k a. (slot_base (machine_view plan s.jobs) k < a) × (a < slot_base (machine_view plan s.jobs) k + plan.size) in
        not_there x core r marks plan s o h m in_m g in_g some y in_y b in_b (λ e own. away e g in_gone own) (subst (λ (k : ℕ). P k (plan.home y.constants.number b.identity)) (sym slot) (subst (P (slot_of plan m.constants.number n)) (sym home) (low, up)))

    pub left_in_place : (y : Storage) (new : List Tagged) (slots : List ℕ) → GaveBack x y (machine_view plan s.jobs) core new slots → slots_gone plan m numbers ≡ slots
        → LeavesInPlace x y plan (plan_without plan m numbers) s (session_without s m numbers)
    left_in_place y new slots gave same = record {
      were = λ u i. was u (left u i);
      held = λ u i. gave.released.others u.home (λ went. (
          let (d, in_d, away) = went in
          let (v, in_v, at) = away in
          let lies = gone_lies (machine_view plan s.jobs) core gave.deaths gave.may d in_d v in_v in
          let k = has_map_back (slot_of plan m.constants.number) numbers d.slot (subst (λ (ks : List ℕ). Has ks d.slot) (gave.slots_are ∙ sym same) (has_map (λ (z : Death). z.slot) gave.deaths d in_d)) in
          let P : ℕ → ℕ → Type 0 = λ q a. (slot_base (machine_view plan s.jobs) q < a) × (a < slot_base (machine_view plan s.jobs) q + plan.size) in
          let here = subst (P (slot_of plan m.constants.number k.item)) at (subst (λ (q : ℕ). P q v.home) (sym k.is) lies) in
          not_in k.item k.among u (left u i) here.0 here.1));
    }
