-- The machine represents the session without the tasks that died.
use Rattle.std.proofs.Common.{◌≡◌, ◌≢◌, ℕ, ◌+◌, ◌*◌, ◌^◌, ◌<◌, ◌≤◌, List, [], ◌∷◌, length, Some, refl, sym, ◌∙◌, ap, arith, ◌==◌, inl, inr, ◌⊎◌, ⊎_elim, subst}
use Rattle.std.specs.List.{slice_get}
use Rattle.std.proofs.lemmas.Bool.{cases_eq}
use Rattle.std.proofs.lemmas.Option.{same_Some}
use Rattle.b67_word.specs.Tagged.{Tagged, word}
use Rattle.b67_ctl.specs.declared.registers.Regs.{Regs}
use Rattle.b67_lemmas.specs.Lists.{Has}
use Rattle.b67_model.specs.Common.{Task, Job, JobProgress, SessionJob, number_of, Session}
use Rattle.b67_model.specs.Keyed.{keyed}
use Rattle.b67_stack.specs.Common.{stack_words, PagedObject, Slot, stack_of, NoOriginalAboveTop, slot_base, Storage, Represents}
use Rattle.b67_layout.specs.Common.{Placement, Slotted, slot_of, slot_at, machine_view, RowsFit, DictionariesFollow, RowHomes, PlanFits, RepresentsDictionary, RepresentsVector, RepresentsCritical, vector_word, SessionHolds, IsInOrderButCounts}
use Rattle.b67_layout.proofs.Common.{with_course, slot_below, dictionary_below}
use Rattle.b67_task.proofs.Births.{changed_member, kept_member, moved_member}
use Rattle.b67_task.specs.Leaves.{Stays, EndingLeaves, Lists, Cleared}
use Rattle.b67_task.proofs.Slotwise.{In, one_each, found_member}
use Rattle.b67_task.proofs.DeathTurns.{SomeDied, pic}
use Rattle.b67_lemmas.proofs.Members.{keyed_has}
use Rattle.b67_task.proofs.Fewer.{lost_or_not, stays_row, slots_left, back, Represents-left, above}

follow : (plan : Placement) (rows : List Slotted) (running at : ℕ) (jobs : List SessionJob) → DictionariesFollow plan at jobs → DictionariesFollow (record plan { rows = rows; running = running }) at jobs
follow plan rows running at [] d = d
follow plan rows running at (m ∷ rest) d = (d.0, follow plan rows running (at + (2 + length m.constants.dictionary.cells)) rest d.1)

follow_course : (plan : Placement) (i at : ℕ) (c : JobProgress) (jobs : List SessionJob) → DictionariesFollow plan at jobs → DictionariesFollow plan at (with_course jobs i c)
follow_course plan i at c [] d = d
follow_course plan i at c (m ∷ rest) d = grind (arith, follow_course plan i (at + (2 + length m.constants.dictionary.cells)) c rest d.1)

dictionary_above : (plan : Placement) (at : ℕ) (jobs : List SessionJob) (z : SessionJob) → DictionariesFollow plan at jobs → Has jobs z → at ≤ plan.dictionary z.constants.number
dictionary_above plan at [] z d h = absurd h
dictionary_above plan at (w ∷ ws) z d (inl e) = let P : SessionJob → Type 0 = λ q. at ≤ plan.dictionary q.constants.number in subst P e (omega (arith, d.0))
dictionary_above plan at (w ∷ ws) z d (inr h) = omega (arith, dictionary_above plan (at + (2 + length w.constants.dictionary.cells)) ws z d.1 h)

module _ (x : Storage) (core : List Tagged) (r : Regs) (marks : List ℕ) (plan : Placement) (s : Session) (o : IsInOrderButCounts s) (h : SessionHolds x core r marks plan s)
    (m : SessionJob) (in_m : Has s.jobs m) (some : 0 < plan.size) (rows : List Slotted) (job' : Job) (gone : List Task) (lv : EndingLeaves plan m gone rows 255 job')
    (f : ℕ → Slot) (ts : List PagedObject) (d : SomeDied x core r marks plan s o h m in_m some f ts gone) (ls : Lists plan m gone rows job') where
  abbrev j : ℕ
  j = m.constants.number

  abbrev pub plan_after : Placement
  plan_after = record plan { rows = rows; running = 255 }

  abbrev pub member_after : SessionJob
  member_after = record m { progress = record m.progress { job = job' } }

  abbrev pub after : Session
  after = record s { jobs = with_course s.jobs m.constants.number (record m.progress { job = job' }) }

  found_m : keyed number_of m.constants.number s.jobs ≡ Some m
  found_m = found_member x core r marks plan s o h m in_m

  member_of : (z : SessionJob) → Has after.jobs z → (Has s.jobs z × (z.constants.number ≢ m.constants.number)) ⊎ (z ≡ member_after)
  member_of z i = changed_member 1 m.constants.number (record m.progress { job = job' }) s.jobs m o.numbered found_m z i

  for_members : (P : SessionJob → Type 0) → ((z : SessionJob) → Has s.jobs z → z.constants.number ≢ m.constants.number → P z) → P member_after → (z : SessionJob) → Has after.jobs z → P z
  for_members P old here z i = ⊎_elim (λ q. old z q.0 q.1) (λ (e : z ≡ member_after). subst P (sym e) here) (member_of z i)

  moved : Has after.jobs member_after
  moved = moved_member m.constants.number (record m.progress { job = job' }) s.jobs m found_m

  is_m : (z : SessionJob) → Has s.jobs z → z.constants.number ≡ m.constants.number → z ≡ m
  is_m z i e = same_Some z m (sym (found_member x core r marks plan s o h z i) ∙ ap (λ (n : ℕ). keyed number_of n s.jobs) e ∙ found_m)

  -- a task that stays has another slot than one that died
  slot_away : (z : SessionJob) (u : Task) → Has s.jobs z → Has z.progress.job.tasks u → (z.constants.number ≡ m.constants.number → Stays gone u.number) → (g : Task) → Has gone g → slot_of plan z.constants.number u.number ≢ slot_of plan m.constants.number g.number
  slot_away z u in_z in_u stays g in_g e =
      let one = one_each x core r marks plan s o h z m u g in_z in_m in_u (d.alive g in_g) e in
      stays (ap (λ (v : SessionJob). v.constants.number) one.0) g in_g (ap (λ (v : Task). v.number) (sym one.1))

  slot_same : (z : SessionJob) (u : Task) → (z.constants.number ≡ m.constants.number → Stays gone u.number) → slot_of plan_after z.constants.number u.number ≡ slot_of plan z.constants.number u.number
  slot_same z u stays = lv.slots z.constants.number u.number stays

  rows_fit : RowsFit plan_after after.jobs
  rows_fit = record {
    live = λ q i.
        let k = ls.row_in q i in
        let (z, u, in_z, ej, in_u, et) = h.fits.rows.live q k.0 in
        ⊎_elim
        (λ (e : z.constants.number ≡ m.constants.number).
        let v = ls.task_kept u (subst (λ (w : SessionJob). Has w.progress.job.tasks u) (is_m z in_z e) in_u) (subst (Stays gone) (sym et) (k.1 (sym ej ∙ e))) in
        (member_after, v.0, moved, sym e ∙ ej, v.1, v.2.number ∙ et))
        (λ (ne : z.constants.number ≡ m.constants.number → ⊥). (z, u, kept_member m.constants.number (record m.progress { job = job' }) s.jobs z in_z ne, ej, in_u, et))
        (cases_eq z.constants.number m.constants.number);
    slotted = λ z u in_z in_u. for_members (λ z. (u : Task) → Has z.progress.job.tasks u → (q : Slotted) × Has rows q × (q.job ≡ z.constants.number) × (q.task ≡ u.number))
        (λ z in_z ne u in_u. let (q, in_q, a, b) = h.fits.rows.slotted z u in_z in_u in (q, ls.row_kept q in_q (λ e. absurd (ne (sym a ∙ e))), a, b))
        (λ u in_u.
        let v = ls.task_in u in_u in
        let (q, in_q, a, b) = h.fits.rows.slotted m v.0 in_m v.1 in
        (q, ls.row_kept q in_q (λ e. subst (Stays gone) (sym b) v.3), a, b ∙ sym v.2.number))
        z in_z u in_u;
    below = λ q i. h.fits.rows.below q (ls.row_in q i).0;
    differ = λ a b ia ib. h.fits.rows.differ a b (ls.row_in a ia).0 (ls.row_in b ib).0;
    tasks_differ = λ a b ia ib. h.fits.rows.tasks_differ a b (ls.row_in a ia).0 (ls.row_in b ib).0;
  }

  plan_fits : PlanFits plan_after after
  plan_fits = record {
    rows = rows_fit;
    peak = h.fits.peak;
    few = h.fits.few;
    sizes = for_members (λ z. z.constants.stack_size ≡ plan.size) (λ z i ne. h.fits.sizes z i) (h.fits.sizes m in_m);
    dictionaries = follow_course plan_after m.constants.number 160 (record m.progress { job = job' }) s.jobs (follow plan rows 255 160 s.jobs h.fits.dictionaries);
    row_homes = for_members (λ z. RowHomes plan_after z) (λ z i ne. h.fits.row_homes z i) (h.fits.row_homes m in_m);
  }

  -- nothing lies above a stack's top
  settled_after : NoOriginalAboveTop (machine_view plan_after after.jobs)
  settled_after u i k hk low up =
      let there : Has ts u = back x core r marks plan s o h m in_m some rows 255 job' gone lv d.closed d.alive f ts d u i in
      let same : stack_words (stack_of (slot_at plan_after after.jobs k)) ≡ stack_words (stack_of (f k)) = ap (λ (z : Slot). stack_words (stack_of z)) (slots_left x core r marks plan s o h m in_m some rows 255 job' gone lv d.closed d.alive f ts d k) in
      elim (lost_or_not plan m.constants.number gone k) [
        | inl l ↦
            let not_base = h.memory.slots.laid.not_base u (d.was u there) k hk in
            let above_base : slot_base (machine_view plan s.jobs) k < u.home = omega (arith, low, not_base) in
            absurd (d.out u there l.0 l.1 (subst (λ (n : ℕ). In x core r marks plan s o h n u.home) (sym l.2) (above_base, up)))
        | inr n ↦
            let kept : stack_words (stack_of (f k)) ≡ stack_words (stack_of (slot_at plan s.jobs k)) = ap (λ (z : Slot). stack_words (stack_of z)) (d.stays k (λ g in_g e. n (g, in_g, e))) in
            omega (arith, h.settled u (d.was u there) k hk low up, same, kept)
      ]

  module _ (y : Storage) (new : List Tagged) (r' : Regs) (marks' : List ℕ) (c : Cleared core new plan m gone) (halted : r'.slot ≡ 255) where
    low : 160 ≤ plan.stacks
    low = h.memory.slots.laid.first

    gone_low : (g : Task) → Has gone g → slot_of plan m.constants.number g.number < 120
    gone_low g in_g = omega (arith, slot_below plan s.jobs m g h.fits.rows in_m (d.alive g in_g), h.fits.few)

    dictionary : (z : SessionJob) → Has s.jobs z → RepresentsDictionary new plan_after z
    dictionary z i =
        let e = dictionary_below plan 160 s.jobs z h.fits.dictionaries i in
        grind (arith, dictionary_above, gone_low)

    vector_same : (z : SessionJob) (u : Task) → Has s.jobs z → Has z.progress.job.tasks u → (z.constants.number ≡ m.constants.number → Stays gone u.number) → slice_get new (32 + slot_of plan_after z.constants.number u.number) ≡ Some (vector_word plan z.constants.number u.parents)
    vector_same z u i l stays =
        let under : slot_of plan z.constants.number u.number < 120 = omega (arith, slot_below plan s.jobs z u h.fits.rows i l, h.fits.few) in
        ap (λ (n : ℕ). slice_get new (32 + n)) (slot_same z u stays)
        ∙ c.words (32 + slot_of plan z.constants.number u.number) (omega (arith, under, low)) (λ e. omega (arith, e, under)) (λ g k e. slot_away z u i l stays g k (omega (arith, e)))
        ∙ h.vector.live z u i l

    vector_word_same : (i : ℕ) (parents : List ℕ) → (i ≡ m.constants.number → (n : ℕ) → Has parents n → Stays gone n) → vector_word plan_after i parents ≡ vector_word plan i parents
    vector_word_same i [] old = refl
    vector_word_same i (parent ∷ more) old = ap (λ (q : ℕ). word 3 (2 ^ 46 + q * 2 ^ 36 + i * 2 ^ 16)) (lv.slots i parent (λ e. old e parent (inl refl)))

    vector_after : RepresentsVector new plan_after after.jobs
    vector_after = record {
      live = λ z u i l. for_members (λ z. (u : Task) → Has z.progress.job.tasks u → slice_get new (32 + slot_of plan_after z.constants.number u.number) ≡ Some (vector_word plan_after z.constants.number u.parents))
          (λ z i ne u l. vector_same z u i l (λ e. absurd (ne e)) ∙ ap Some (sym (vector_word_same z.constants.number u.parents (λ e. absurd (ne e)))))
          (λ u l.
          let v = ls.task_in u l in
          ap (λ (n : ℕ). slice_get new (32 + slot_of plan_after m.constants.number n)) v.2.number
          ∙ vector_same m v.0 in_m v.1 (λ e. v.3)
          ∙ ap Some (sym (vector_word_same m.constants.number v.0.parents (λ e. above x core r marks plan s o h m in_m some rows 255 job' gone lv d.closed d.alive v.0 v.1 v.3)))
          ∙ ap (λ (ps : List ℕ). Some (vector_word plan_after m.constants.number ps)) (sym v.2.parents))
          z i u l;
      free = λ q hq none. elim (lost_or_not plan m.constants.number gone q) [
        | inl l ↦ ap (λ (n : ℕ). slice_get new (32 + n)) (sym l.2) ∙ c.vector l.0 l.1
        | inr n ↦
            c.words (32 + q) (omega (arith, hq, low)) (λ e. omega (arith, e, hq)) (λ g k e. n (g, k, omega (arith, e)))
            ∙ h.vector.free q hq (λ w i at. none w (ls.row_kept w i (stays_row x core r marks plan s o h m in_m some rows 255 job' gone lv d.closed d.alive q n w i at)) at)
      ];
    }

    pub SessionHolds-left : Represents y new r' (pic x core r marks plan s o h m in_m some f ts) → RepresentsCritical marks' plan_after after.jobs → SessionHolds y new r' marks' plan_after after
    SessionHolds-left st critical = record {
      fits = plan_fits;
      memory = Represents-left x core r marks plan s o h m in_m some rows 255 job' gone lv d.closed d.alive f ts d y new r' st;
      settled = settled_after;
      dictionaries = for_members (RepresentsDictionary new plan_after) (λ z i ne. dictionary z i) (let e = dictionary m in_m in record { mark = e.mark; entries = e.entries });
      mcp = record {
        mark = c.words 0 (omega (arith, low)) (λ e. omega (arith, e)) (λ g k e. omega (arith, e)) ∙ h.mcp.mark;
        intrinsics = λ i a b. c.words i (omega (arith, low, b)) (λ e. omega (arith, e, b)) (λ g k e. omega (arith, e, b)) ∙ h.mcp.intrinsics i a b;
      };
      vector = vector_after;
      critical = critical;
      live = λ ne. absurd (ne refl);
      running = λ z u q. absurd (let w : ⊥ = omega (arith, q.slot, slot_below plan_after after.jobs z u rows_fit (keyed_has number_of z.constants.number after.jobs z q.member).0 (keyed_has (λ (v : Task). v.number) u.number z.progress.job.tasks u q.task).0, h.fits.few) in w);
      none = λ e. halted;
    }
