-- The tasks of a job that die in turn may die, one after another.
use Rattle.std.proofs.Common.{◌≡◌, ◌≢◌, ℕ, ◌+◌, ◌<◌, ◌≤◌, List, [], ◌∷◌, map, Some, refl, sym, ◌∙◌, ap, arith, inl, inr, ◌⊎◌, ⊎_elim, true, not, nat_lt, subst}
use Rattle.std.specs.Prelude.{if◌then◌else◌, ◌==◌, ◌&&◌, filter}
use Rattle.std.specs.List.{slice_get}
use Rattle.std.proofs.lemmas.Bool.{cases_Bool, cases_eq, eq-eqb, ne_eqb, lt-ltb, true≢false}
use Rattle.b67_word.specs.Tagged.{Tagged}
use Rattle.b67_ctl.specs.declared.registers.Regs.{Regs}
use Rattle.b67_lemmas.specs.Lists.{Has}
use Rattle.b67_model.specs.Common.{Task, SessionJob, Session}
use Rattle.b67_lemmas.proofs.Members.{has_append_left, has_append_right, has_append_cases, has_flat, has_map, has_filter, has_filter_in}
use Rattle.b67_stack.specs.Common.{Copy, Copied, IsOriginal, stack_words, words, PagedObject, Slot, Free, Running, Waiting, stack_of, MachineView, SlotFits, slot_base, Storage}
use Rattle.b67_stack.proofs.Slots.{by_slot}
use Rattle.b67_layout.specs.Common.{Placement, slot_of, slot_at, array_object, code_objects, objects_of, machine_view, SessionHolds, IsInOrderButCounts}
use Rattle.b67_layout.proofs.Rows.{slot_below}
use Rattle.b67_task.specs.Released.{HasHome, of_objects}
use Rattle.b67_task.specs.Vacated.{died, MayDie}
use Rattle.b67_task.specs.DeathsInTurn.{MayAllDie, all_died}
use Rattle.b67_task.specs.DeathTurns.{InTurn, lies_in, lies_out, deaths}
use Rattle.b67_task.proofs.Vacates.{slot_room}
use Rattle.b67_task.proofs.Slotwise.{In, In_one, one_each, of_slot, each_original}

both : (a b c : ℕ) → (nat_lt a b && nat_lt b c) ≡ true → (a < b) × (b < c)
both a b c e = grind arith

both_in : (a b c : ℕ) → a < b → b < c → (nat_lt a b && nat_lt b c) ≡ true
both_in a b c l u = rw (lt-ltb a b l) (lt-ltb b c u)

fewer : (p : MachineView) (rest : List PagedObject) (q : ℕ) (z : Slot) → ((c : Copied) (home : ℕ) → Has (words q (stack_of z)) (Copy c home) → (u : PagedObject) → Has p.objects u → u.home ≡ home → Has rest u) → SlotFits p q z → SlotFits (of_objects p rest) q z
fewer p rest q Free keep f = f
fewer p rest q (Running st) keep f = (f.0, λ c home w. let (u, i, e, n) = f.1 c home w in (u, keep c home w u i e, e, n))
fewer p rest q (Waiting st) keep f = (f.0, λ c home w. let (u, i, e, n) = f.1 c home w in (u, keep c home w u i e, e, n))

free_slot : (p : MachineView) (q k : ℕ) (rest : List PagedObject) (z : Slot) → SlotFits (of_objects p rest) q z → SlotFits (died p k rest) q z
free_slot h q e rest z f = grind arith

module _ (x : Storage) (core : List Tagged) (r : Regs) (marks : List ℕ) (plan : Placement) (s : Session) (o : IsInOrderButCounts s) (h : SessionHolds x core r marks plan s)
    (m : SessionJob) (in_m : Has s.jobs m) (some : 0 < plan.size) where
  abbrev p : MachineView
  p = machine_view plan s.jobs

  abbrev slot : Task → ℕ
  slot t = slot_of plan m.constants.number t.number

  abbrev pub pic : (ℕ → Slot) → List PagedObject → MachineView
  pic f ts = record { stacks = plan.stacks; size = plan.size; peak = plan.peak; slots = f; objects = ts }

  -- some tasks are gone
  pub record SomeDied (f : ℕ → Slot) (ts : List PagedObject) (gone : List Task) : Type 0 where
    pub alive : (g : Task) → Has gone g → Has m.progress.job.tasks g
    pub free : (j : ℕ) → (f j ≡ slot_at plan s.jobs j) ⊎ (f j ≡ Free)
    pub kept : (t : Task) → Has m.progress.job.tasks t → (Has gone t → ⊥) → f (slot t) ≡ slot_at plan s.jobs (slot t)
    pub lost : (t : Task) → Has gone t → f (slot t) ≡ Free
    pub stays : (j : ℕ) → ((g : Task) → Has gone g → slot g ≢ j) → f j ≡ slot_at plan s.jobs j
    pub closed : (g : Task) → Has gone g → (u : Task) → Has m.progress.job.tasks u → Has u.parents g.number → Has gone u
    pub fits : (j : ℕ) → j < plan.peak → SlotFits (pic f ts) j (f j)
    pub out : (u : PagedObject) → Has ts u → (g : Task) → Has gone g → In x core r marks plan s o h (slot g) u.home → ⊥
    pub was : (u : PagedObject) → Has ts u → Has p.objects u
    pub still : (u : PagedObject) → Has p.objects u → ((g : Task) → Has gone g → In x core r marks plan s o h (slot g) u.home → ⊥) → Has ts u

  pub none_died : SomeDied (slot_at plan s.jobs) p.objects []
  none_died = grind arith

  module _ (f : ℕ → Slot) (ts : List PagedObject) (gone : List Task) (d : SomeDied f ts gone) (t : Task) (in_t : Has m.progress.job.tasks t) (new : Has gone t → ⊥)
      (last : (u : Task) → Has m.progress.job.tasks u → Has u.parents t.number → Has gone u) where
    abbrev k : ℕ
    k = slot t

    abbrev goes : List PagedObject
    goes = filter (lies_in plan k) ts

    abbrev rests : List PagedObject
    rests = filter (lies_out plan k) ts

    used : k < plan.peak
    used = slot_below plan s.jobs m t h.fits.rows in_m in_t

    same_stack : stack_words (stack_of (f k)) ≡ stack_words (stack_of (slot_at plan s.jobs k))
    same_stack = ap (λ (z : Slot). stack_words (stack_of z)) (d.kept t in_t new)

    in_goes : (u : PagedObject) → Has goes u → Has ts u × (slot_base p k < u.home) × (u.home < slot_base p k + plan.size)
    in_goes u i = let g = has_filter (lies_in plan k) ts u i in let b = both (slot_base p k) u.home (slot_base p k + plan.size) g.1 in (g.0, b.0, b.1)

    in_rests : (u : PagedObject) → Has rests u → Has ts u × (slot_base p k < u.home → u.home < slot_base p k + plan.size → ⊥)
    in_rests u i = grind (arith, has_filter)

    to_rests : (u : PagedObject) → Has ts u → (slot_base p k < u.home → u.home < slot_base p k + plan.size → ⊥) → Has rests u
    to_rests u i out = grind (arith, has_filter_in)

    elsewhere : (q : ℕ) → q ≢ k → (c : Copied) (home : ℕ) → Has (words q (stack_of (f q))) (Copy c home) → slot_base p k < home → home < slot_base p k + plan.size → ⊥
    elsewhere q ne c home w low up = elim (d.free q) [
      | inl e ↦ of_slot x core r marks plan s o h m in_m t in_t some q ne (λ u in_u above at.
          (let none : f q ≡ Free = ap f (sym at) ∙ d.lost u (last u in_u above) in
          subst (λ (z : Slot). Has (words q (stack_of z)) (Copy c home)) none w))
          c home (subst (λ (z : Slot). Has (words q (stack_of z)) (Copy c home)) e w) (low, up)
      | inr e ↦ subst (λ (z : Slot). Has (words q (stack_of z)) (Copy c home)) e w
    ]

    fits_others : (q : ℕ) → q < plan.peak → q ≢ k → SlotFits (of_objects (pic f ts) rests) q (f q)
    fits_others q hq ne = fewer (pic f ts) rests q (f q) (λ c home w u i e. to_rests u i (λ low up. elsewhere q ne c home w (omega (arith, low, e)) (omega (arith, up, e)))) (d.fits q hq)

    homed : (i : ℕ) (w : Tagged) → slot_base p k < i → i ≤ slot_base p k + stack_words (stack_of (f k)) → slice_get core i ≡ Some w → IsOriginal w → HasHome goes i
    homed i w low up get original =
        let a = each_original x core r marks plan s o h m in_m t in_t some i w low (omega (arith, up, same_stack)) get original in
        let j = m.constants.number in
        let u : PagedObject = array_object plan j a.0 in
        let there : Has (objects_of plan m) u = has_append_right (code_objects plan j 1 m.constants.segments) (map (array_object plan j) m.progress.job.arrays) u (has_map (array_object plan j) m.progress.job.arrays a.0 a.1) in
        let room = slot_room p k (slot_at plan s.jobs k) (h.memory.slots.laid.slots k used) some in
        let below : i < slot_base p k + plan.size = omega (arith, up, same_stack, room) in
        let now : Has ts u = d.still u (has_flat (objects_of plan) s.jobs m u in_m there) (λ g in_g q.
        (let e = one_each x core r marks plan s o h m m g t in_m in_m (d.alive g in_g) in_t
        (In_one x core r marks plan s o h (slot g) k i (omega (arith, q.0, a.2), omega (arith, q.1, a.2)) (low, below)) in
        new (subst (Has gone) e.1 in_g))) in
        (u, has_filter_in (lies_in plan k) ts u now (both_in (slot_base p k) u.home (slot_base p k + plan.size) (omega (arith, low, a.2)) (omega (arith, below, a.2))), a.2)

    pub may_one : MayDie (pic f ts) core k goes rests
    may_one = record {
      used = used;
      few = h.fits.few;
      room = omega (arith, same_stack, slot_room p k (slot_at plan s.jobs k) (h.memory.slots.laid.slots k used) some);
      there = λ u i. elim (cases_Bool (lies_in plan k u)) [
        | inl e ↦ has_append_left goes rests u (has_filter_in (lies_in plan k) ts u i e)
        | inr e ↦ has_append_right goes rests u (has_filter_in (lies_out plan k) ts u i (ap not e))
      ];
      back = λ u i. elim (has_append_cases goes rests u i) [
        | inl g ↦ (in_goes u g).0
        | inr g ↦ (in_rests u g).0
      ];
      arrays = λ u i e. let g = in_goes u i in let z : ⊥ = omega (arith, h.memory.slots.laid.codes u (d.was u g.0) e, g.1) in z;
      among = λ u i. let g = in_goes u i in (g.1, omega (arith, same_stack, h.settled u (d.was u g.0) k used (omega (arith, g.1)) g.2));
      each = homed;
      alone = λ u v i l e. (in_rests v l).1 (omega (arith, e, (in_goes u i).1)) (omega (arith, e, (in_goes u i).2));
      fits = fits_others;
    }

    abbrev f' : ℕ → Slot
    f' = λ j. if j == k then Free else f j

    emptied : f' k ≡ Free
    emptied = rw (eq-eqb k k refl) refl

    other : (j : ℕ) → j ≢ k → f' j ≡ f j
    other j ne = rw (ne_eqb j k ne) refl

    pub one_more : SomeDied f' rests (t ∷ gone)
    one_more = record {
      alive = λ g i. ⊎_elim (λ (e : t ≡ g). subst (Has m.progress.job.tasks) e in_t) (λ (i : Has gone g). d.alive g i) i;
      free = λ j. elim (cases_eq j k) [
        | inl e ↦ inr (ap f' e ∙ emptied)
        | inr n ↦ elim (d.free j) [ inl e ↦ inl (other j n ∙ e) | inr e ↦ inr (other j n ∙ e) ]
      ];
      kept = λ u in_u no. other (slot u) (λ e. no (inl (sym (one_each x core r marks plan s o h m m u t in_m in_m in_u in_t e).1))) ∙ d.kept u in_u (λ i. no (inr i));
      lost = λ u i. elim (cases_eq (slot u) k) [
        | inl e ↦ ap f' e ∙ emptied
        | inr n ↦ ⊎_elim (λ (e : t ≡ u). absurd (n (ap slot (sym e)))) (λ (i : Has gone u). other (slot u) n ∙ d.lost u i) i
      ];
      stays = λ j no. other j (λ e. no t (inl refl) (sym e)) ∙ d.stays j (λ g i. no g (inr i));
      closed = λ g i u in_u above. ⊎_elim (λ (e : t ≡ g). inr (last u in_u (subst (λ (v : Task). Has u.parents v.number) (sym e) above))) (λ (i : Has gone g). inr (d.closed g i u in_u above)) i;
      out = λ u i g in_g q. ⊎_elim
          (λ (e : t ≡ g). let q' = subst (λ (v : Task). In x core r marks plan s o h (slot v) u.home) (sym e) q in (in_rests u i).1 q'.0 q'.1)
          (λ (in_g : Has gone g). d.out u (in_rests u i).0 g in_g q)
          in_g;
      fits = by_slot (pic f ts) k Free (λ j z. SlotFits (pic f' rests) j z) tt (λ j hj n. free_slot (pic f ts) j k rests (f j) (fits_others j hj n));
      was = λ u i. d.was u (in_rests u i).0;
      still = λ u i no. to_rests u (d.still u i (λ g in_g. no g (inr in_g))) (λ low up. no t (inl refl) (low, up));
    }

  -- all of them, one after another
  pub deaths_may : (todo : List Task) (f : ℕ → Slot) (ts : List PagedObject) (gone : List Task) → SomeDied f ts gone → InTurn m.progress.job.tasks gone todo → MayAllDie (pic f ts) core (deaths plan m.constants.number ts todo)
  unfolding MayAllDie InTurn deaths
  deaths_may [] f ts gone d turn = tt
  deaths_may (t ∷ todo) f ts gone d turn = (
    may_one f ts gone d t turn.0 turn.1 turn.2,
    deaths_may todo (λ j. if j == slot t then Free else f j) (filter (lies_out plan (slot t)) ts) (t ∷ gone) (one_more f ts gone d t turn.0 turn.1 turn.2) turn.3,
  )

  -- and then the others are left
  pub record AllDied (f : ℕ → Slot) (ts : List PagedObject) (gone todo : List Task) : Type 0 where
    pub slots : ℕ → Slot
    pub objects : List PagedObject
    pub all : List Task
    pub is : all_died (pic f ts) (deaths plan m.constants.number ts todo) ≡ pic slots objects
    pub died : SomeDied slots objects all
    pub there : (t : Task) → Has gone t ⊎ Has todo t → Has all t
    pub back : (t : Task) → Has all t → Has gone t ⊎ Has todo t

  pub deaths_done : (todo : List Task) (f : ℕ → Slot) (ts : List PagedObject) (gone : List Task) → SomeDied f ts gone → InTurn m.progress.job.tasks gone todo → AllDied f ts gone todo
  unfolding all_died InTurn deaths
  deaths_done [] f ts gone d turn = record { slots = f; objects = ts; all = gone; is = refl; died = d; there = λ t i. ⊎_elim (λ (g : Has gone t). g) (λ (g : ⊥). absurd g) i; back = λ t i. inl i }
  deaths_done (t ∷ todo) f ts gone d turn =
      let q = deaths_done todo (λ j. if j == slot t then Free else f j) (filter (lies_out plan (slot t)) ts) (t ∷ gone) (one_more f ts gone d t turn.0 turn.1 turn.2) turn.3 in
      record {
        slots = q.slots;
        objects = q.objects;
        all = q.all;
        is = q.is;
        died = q.died;
        there = λ u i. ⊎_elim (λ (g : Has gone u). q.there u (inl (inr g))) (λ (g : Has (t ∷ todo) u). ⊎_elim (λ (e : t ≡ u). q.there u (inl (inl e))) (λ (g : Has todo u). q.there u (inr g)) g) i;
        back = λ u i. ⊎_elim (λ (g : Has (t ∷ gone) u). ⊎_elim (λ (e : t ≡ u). inr (inl e)) (λ (g : Has gone u). inl g) g) (λ (g : Has todo u). inr (inr g)) (q.back u i);
      }
