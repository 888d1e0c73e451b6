-- Endings take tasks, slots and arrays away, and nothing else.
use Rattle.std.proofs.Common.{◌≡◌, ℕ, List, [], ◌∷◌, map, Option, None, refl, sym, ◌∙◌, ap, arith, inl, inr, ◌⊎◌, ⊎_elim, Bool, true, false, not, subst}
use Rattle.std.specs.Prelude.{if◌then◌else◌, ◌==◌, ◌&&◌, filter, find, unwrap_or}
use Rattle.std.specs.List.{list_any}
use Rattle.std.proofs.lemmas.Bool.{cases_Bool, cases_eq, eq-eqb, ne_eqb, eqb-true, true≢false}
use Rattle.std.proofs.lemmas.Option.{same_Some}
use Rattle.b67_word.specs.Tagged.{Tagged}
use Rattle.b67_ctl.specs.declared.registers.Regs.{Regs}
use Rattle.b67_lemmas.specs.Lists.{Has}
use Rattle.b67_model.specs.Common.{Frame, Array, Task, Job, SessionJob, among, released, is_owned_by, Session, identities}
use Rattle.b67_model.specs.Keyed.{keyed}
use Rattle.b67_lemmas.proofs.Members.{has_map, has_map_back, has_filter, has_filter_in, any_some, any_has, falls_same}
use Rattle.b67_stack.specs.Represents.{Storage}
use Rattle.b67_layout.specs.Common.{Placement, Slotted, slot_of, is_row_of, SessionHolds, IsInOrderButCounts}
use Rattle.b67_layout.proofs.Rows.{task_row}
use Rattle.b67_task.specs.Likes.{Like}
use Rattle.b67_task.specs.Leaves.{Lost, Stays, NotTheirs, EndingLeaves, Lists}
use Rattle.b67_task.specs.Ends.{gone_of, job_without, row_stays, rows_without}
use Rattle.b67_task.proofs.Slotwise.{order_of, found_member}

find_kept : {A : Type 0} (p q : A → Bool) (xs : List A) → ((x : A) → Has xs x → p x ≡ true → q x ≡ true) → find p (filter q xs) ≡ find p xs
find_kept p q [] g = refl
find_kept p q (x ∷ xs) g = grind (arith, find_kept p q xs)

find_none : {A : Type 0} (p q : A → Bool) (xs : List A) → ((x : A) → Has xs x → p x ≡ true → q x ≡ false) → find p (filter q xs) ≡ None
find_none p q [] g = refl
find_none p q (x ∷ xs) g = grind (arith, find_none p q xs)

like_kept : (numbers : List ℕ) (p : Task → Bool) (u : ℕ) (xs : List Task) → ((t : Task) → Has xs t → t.number ≡ u → p t ≡ true)
    → Like (keyed (λ (t : Task). t.number) u (map (λ (t : Task). record t { condition = released numbers t.condition }) (filter p xs))) (keyed (λ (t : Task). t.number) u xs)
like_kept numbers p u [] g = tt
like_kept numbers p u (x ∷ xs) g = grind (arith, like_kept numbers p u xs)

row_out : (j : ℕ) (numbers : List ℕ) (z : Slotted) → z.job ≡ j → among numbers z.task ≡ true → row_stays j numbers z ≡ false
row_out j numbers z e t = rw (eq-eqb z.job j e) (ap not t)

row_in_if : (j : ℕ) (numbers : List ℕ) (z : Slotted) → (z.job ≡ j → among numbers z.task ≡ false) → row_stays j numbers z ≡ true
row_in_if j numbers z f = elim (cases_eq z.job j) [ inl e ↦ rw (eq-eqb z.job j e) (ap not (f e)) | inr n ↦ rw (ne_eqb z.job j n) refl ]

row_in_then : (j : ℕ) (numbers : List ℕ) (z : Slotted) → row_stays j numbers z ≡ true → z.job ≡ j → among numbers z.task ≡ false
row_in_then j numbers z t e = elim (cases_Bool (among numbers z.task)) [ inl a ↦ absurd (true≢false (sym t ∙ row_out j numbers z e a)) | inr a ↦ a ]

-- owned by one of some tasks
owned_then : (gone : List Task) (a : Array) → is_owned_by gone a ≡ true → (g : Task) × Has gone g × Has (identities g.frames) a.owner
owned_then gone a t =
    let g = any_has (λ (t : Task). list_any (λ (f : Frame). f.identity == a.owner) t.frames) gone t in
    let f = any_has (λ (f : Frame). f.identity == a.owner) g.0.frames g.2 in
    (g.0, g.1, subst (Has (identities g.0.frames)) (eqb-true f.0.identity a.owner f.2) (has_map (λ (f : Frame). f.identity) g.0.frames f.0 f.1))

owned_if : (gone : List Task) (a : Array) (g : Task) → Has gone g → Has (identities g.frames) a.owner → is_owned_by gone a ≡ true
owned_if gone a g i own = grind (arith, has_map_back, any_some)

not_owned : (gone : List Task) (a : Array) → NotTheirs gone a → not (is_owned_by gone a) ≡ true
not_owned gone a away = grind (arith, owned_then)

module _ (x : Storage) (core : List Tagged) (r : Regs) (marks : List ℕ) (plan : Placement) (s : Session) (o : IsInOrderButCounts s) (h : SessionHolds x core r marks plan s)
    (m : SessionJob) (in_m : Has s.jobs m) (numbers : List ℕ) where
  abbrev j : ℕ
  j = m.constants.number

  abbrev job : Job
  job = m.progress.job

  abbrev gone : List Task
  gone = gone_of m.progress.job numbers

  abbrev N : Task → ℕ
  N t = t.number

  among_gone : (g : Task) → Has gone g → Has job.tasks g × (among numbers g.number ≡ true)
  among_gone g i = has_filter (λ (t : Task). among numbers t.number) job.tasks g i

  -- a live task is gone or stays
  kept_then : (t : Task) → Has job.tasks t → Stays gone t.number → among numbers t.number ≡ false
  kept_then t i stays = elim (cases_Bool (among numbers t.number)) [
    | inl e ↦ absurd (stays t (has_filter_in (λ (t : Task). among numbers t.number) job.tasks t i e) refl)
    | inr e ↦ e
  ]

  stays_if : (u : ℕ) → among numbers u ≡ false → Stays gone u
  stays_if u e g i n = true≢false (sym (among_gone g i).1 ∙ ap (among numbers) n ∙ e)

  -- the task of a row
  task_of : (z : Slotted) → Has plan.rows z → z.job ≡ j → (t : Task) × Has job.tasks t × (t.number ≡ z.task)
  task_of z in_z e =
      let (y, t, in_y, ej, in_t, et) = h.fits.rows.live z in_z in
      let is : y ≡ m = same_Some y m (sym (found_member x core r marks plan s o h y in_y) ∙ ap (λ (n : ℕ). keyed (λ (q : SessionJob). q.constants.number) n s.jobs) (ej ∙ e) ∙ found_member x core r marks plan s o h m in_m) in
      (t, subst (λ (q : SessionJob). Has q.progress.job.tasks t) is in_t, et)

  row_kept_if : (z : Slotted) → Has plan.rows z → (z.job ≡ j → Stays gone z.task) → row_stays j numbers z ≡ true
  row_kept_if z in_z stays = row_in_if j numbers z (λ e. let t = task_of z in_z e in ap (among numbers) (sym t.2) ∙ kept_then t.0 t.1 (subst (Stays gone) (sym t.2) (stays e)))

  -- the slot of a row is that of its task
  row_slot : (z : Slotted) → Has plan.rows z → (g : Task) → Has job.tasks g → z.job ≡ j → g.number ≡ z.task → slot_of plan j g.number ≡ z.slot
  row_slot z in_z g in_g e n =
      let a = task_row plan s.jobs m g h.fits.rows in_m in_g in
      let same : a.row ≡ z = h.fits.rows.tasks_differ a.row z a.among in_z (a.job ∙ sym e) (a.number ∙ n) in
      a.slot ∙ ap (λ (v : Slotted). v.slot) same

  pub lists : Lists plan m gone (rows_without plan j numbers) (job_without job numbers)
  lists = record {
    row_in = λ z i. let k = has_filter (row_stays j numbers) plan.rows z i in (k.0, λ e. stays_if z.task (row_in_then j numbers z k.1 e));
    row_kept = λ z i stays. has_filter_in (row_stays j numbers) plan.rows z i (row_kept_if z i stays);
    task_in = λ u i.
        let b = has_map_back (λ (t : Task). record t { condition = released numbers t.condition }) (filter (λ (t : Task). not (among numbers t.number)) job.tasks) u i in
        let k = has_filter (λ (t : Task). not (among numbers t.number)) job.tasks b.item b.among in
        let out : among numbers b.item.number ≡ false = elim (cases_Bool (among numbers b.item.number)) [ inl e ↦ absurd (true≢false (sym k.1 ∙ ap not e)) | inr e ↦ e ] in
        (b.item, k.0, record { number = ap (λ (t : Task). t.number) (sym b.is); parents = ap (λ (t : Task). t.parents) (sym b.is); critical = ap (λ (t : Task). t.critical) (sym b.is); frames = ap (λ (t : Task). t.frames) (sym b.is) }, stays_if b.item.number out);
    task_kept = λ t i stays.
        let there = has_filter_in (λ (t : Task). not (among numbers t.number)) job.tasks t i (ap not (kept_then t i stays)) in (
          record t { condition = released numbers t.condition },
          has_map (λ (t : Task). record t { condition = released numbers t.condition }) (filter (λ (t : Task). not (among numbers t.number)) job.tasks) t there,
          record { number = refl; parents = refl; critical = refl; frames = refl },
        );
  }

  pub leaves : (plan.running ≡ 255) ⊎ Lost plan m.constants.number (gone_of m.progress.job numbers) plan.running → EndingLeaves plan m (gone_of m.progress.job numbers) (rows_without plan m.constants.number numbers) 255 (job_without m.progress.job numbers)
  leaves stopped = record {
    row_gone = λ q l. find_none (λ (z : Slotted). z.slot == q) (row_stays j numbers) plan.rows (λ z i t.
        (let (g, in_g, at) = l in
        let k = among_gone g in_g in
        let a = task_row plan s.jobs m g h.fits.rows in_m k.0 in
        let same : a.row ≡ z = h.fits.rows.differ a.row z a.among i (sym a.slot ∙ at ∙ sym (eqb-true z.slot q t)) in
        row_out j numbers z (ap (λ (v : Slotted). v.job) (sym same) ∙ a.job) (ap (among numbers) (ap (λ (v : Slotted). v.task) (sym same) ∙ a.number) ∙ k.1)));
    row_other = λ q away. find_kept (λ (z : Slotted). z.slot == q) (row_stays j numbers) plan.rows (λ z i t.
        row_kept_if z i (λ e g in_g n. away (g, in_g, row_slot z i g (among_gone g in_g).0 e n ∙ eqb-true z.slot q t)));
    slots = λ i u stays. ap (λ (z : Option Slotted). unwrap_or (Rattle.std.specs.Prelude.option_map (λ (r : Slotted). r.slot) z) 255) (find_kept (is_row_of i u) (row_stays j numbers) plan.rows (λ z in_z t.
        (let b = row_true i u z t in row_kept_if z in_z (λ e. subst (Stays gone) (sym b.1) (stays (sym b.0 ∙ e))))));
    runs = λ q small away. ne_eqb q 255 (λ e. omega (arith, e, small)) ∙ sym (ne_eqb q plan.running (λ e. ⊎_elim
        (λ (z : plan.running ≡ 255). let w : ⊥ = omega (arith, z, e, small) in w)
        (λ (l : Lost plan j gone plan.running). away (l.0, l.1, l.2 ∙ sym e))
        stopped));
    tasks = λ u stays. like_kept numbers (λ (t : Task). not (among numbers t.number)) u job.tasks (λ t i e. ap not (kept_then t i (subst (Stays gone) (sym e) stays)));
    arrays = λ a k.
        let (item, i, e, away) = k in
        ap (λ (z : Option Array). unwrap_or z Rattle.b67_model.specs.Arrays.no_array) (find_kept (λ (b : Array). b.identity == a) (λ (b : Array). not (is_owned_by gone b)) job.arrays (λ b in_b t.
        (let same : b ≡ item = falls_same (λ (c : Array). c.identity) job.next_array job.arrays b item (order_of x core r marks plan s o h m in_m).tasks.names in_b i (eqb-true b.identity a t ∙ sym e) in
        not_owned gone b (subst (NotTheirs gone) (sym same) away))));
    array_in = λ a i.
        let k = has_filter (λ (b : Array). not (is_owned_by gone b)) job.arrays a i in
        (k.0, λ g in_g own. true≢false (sym k.1 ∙ ap not (owned_if gone a g in_g own)));
    array_kept = λ a i away. has_filter_in (λ (b : Array). not (is_owned_by gone b)) job.arrays a i (not_owned gone a away);
  } where
    row_true : (i u : ℕ) (z : Slotted) → is_row_of i u z ≡ true → (z.job ≡ i) × (z.task ≡ u)
    row_true i u z t = elim (cases_Bool (z.job == i)) [
      | inl e ↦ (let w : (z.task == u) ≡ true = rw e at t in (eqb-true z.job i e, eqb-true z.task u w))
      | inr e ↦ absurd (true≢false (sym (let w : false ≡ true = rw e at t in w)))
    ]
