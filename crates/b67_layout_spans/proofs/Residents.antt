-- Who lives in each slot of a session, with the slots of the parents, and where its dictionaries lie.
use Rattle.std.proofs.Common.{◌≡◌, ◌≢◌, ℕ, ◌+◌, ◌<◌, ◌≤◌, List, [], ◌∷◌, map, length, Option, Some, None, refl, sym, ◌∙◌, ap, arith, inl, inr, ◌⊎◌, subst}
use Rattle.std.specs.Prelude.{nat_lt, ◌==◌}
use Rattle.std.specs.List.{slice_get}
use Rattle.std.proofs.lemmas.Bool.{cond-true, cond-false, lt-ltb, le-ltb, eq-eqb, eqb-true}
use Rattle.std.proofs.lemmas.List.{length-map}
use Rattle.std.proofs.lemmas.Option.{same_Some, none-some}
use Rattle.b67_word.specs.Tagged.{Tagged}
use Rattle.b67_lemmas.specs.Lists.{Has, Falls}
use Rattle.b67_lemmas.proofs.Members.{all_in, falls_short, has_map, keyed_falls, keyed_has}
use Rattle.b67_model.specs.Keyed.{keyed}
use Rattle.b67_model.specs.Common.{Task, SessionJob, number_of, Session, IsSegment, NumberedFrom, BirthInOrder, TaskInOrder, TasksInOrder}
use Rattle.b67_law.proofs.Numbered.{keyed_member}
use Rattle.b67_layout.specs.Common.{JobInOrderButCounts, IsInOrderButCounts, Slotted, Placement, slot_of, machine_view, RowsFit, DictionariesFollow, PlanFits, RepresentsDictionary, RepresentsVector, vector_word}
use Rattle.b67_layout.proofs.Common.{job_in_order, task_row, slot_below, finds, dictionary_above}
use Rattle.b67_overlay.specs.Spans.{Resident, Families, kin_word, LineStands, ResidentFits, DictionariesLie, ShowsFamilies, job_at}

-- a task's job and the slots of its parents
abbrev pub kin_of : Placement → ℕ → Task → Resident
kin_of plan j t = record { job = j; parents = map (slot_of plan j) t.parents }

abbrev pub kin_with : Placement → ℕ → Option Task → Option Resident
kin_with plan j None = None
kin_with plan j (Some t) = Some (kin_of plan j t)

abbrev pub kin_in : Placement → ℕ → ℕ → Option SessionJob → Option Resident
kin_in plan j task None = None
kin_in plan j task (Some m) = kin_with plan j (keyed (λ (t : Task). t.number) task m.progress.job.tasks)

abbrev pub kin_by : Placement → List SessionJob → Option Slotted → Option Resident
kin_by plan jobs None = None
kin_by plan jobs (Some r) = kin_in plan r.job r.task (keyed number_of r.job jobs)

abbrev pub families : Placement → List SessionJob → Families
families plan jobs = record {
  kin = λ k. kin_by plan jobs (keyed (λ (r : Slotted). r.slot) k plan.rows);
  entries = map (λ (m : SessionJob). length m.constants.dictionary.cells) jobs;
}

-- a live task of a slot, or no row of it
abbrev pub Lives : Placement → List SessionJob → ℕ → Type 0
Lives plan jobs k = (m : SessionJob) × (t : Task) × Has jobs m × Has m.progress.job.tasks t × (slot_of plan m.constants.number t.number ≡ k)

keyed_none : (k : ℕ) (rows : List Slotted) → keyed (λ (r : Slotted). r.slot) k rows ≡ None → (r : Slotted) → Has rows r → r.slot ≢ k
keyed_none k rows e r h is =
    let f = finds (λ (q : Slotted). q.slot == k) rows r h (eq-eqb r.slot k is) in
    none-some f.item (sym e ∙ f.found)

pub lives_or : (plan : Placement) (jobs : List SessionJob) (k : ℕ) → RowsFit plan jobs → Lives plan jobs k ⊎ (keyed (λ (r : Slotted). r.slot) k plan.rows ≡ None)
lives_or plan jobs k fit = by (keyed (λ (r : Slotted). r.slot) k plan.rows) refl where
  by : (o : Option Slotted) → keyed (λ (r : Slotted). r.slot) k plan.rows ≡ o → Lives plan jobs k ⊎ (keyed (λ (r : Slotted). r.slot) k plan.rows ≡ None)
  by None e = inr e
  by (Some r) e =
      let h = keyed_has (λ (q : Slotted). q.slot) k plan.rows r e in
      let (m, t, hm, jm, ht, nt) = fit.live r h.0 in
      let a = task_row plan jobs m t fit hm ht in
      let same : a.row ≡ r = fit.tasks_differ a.row r a.among h.0 (a.job ∙ jm) (a.number ∙ nt) in
      inl (m, t, hm, ht, a.slot ∙ ap (λ (q : Slotted). q.slot) same ∙ h.1)

module _ (plan : Placement) (s : Session) (o : IsInOrderButCounts s) (fits : PlanFits plan s) where
  order_of : (y : SessionJob) → Has s.jobs y → JobInOrderButCounts (IsSegment y.constants) y.constants y.progress
  order_of y h = job_in_order s y o h

  -- who lives in a live task's slot
  pub kin_there : (m : SessionJob) (t : Task) → Has s.jobs m → Has m.progress.job.tasks t → (families plan s.jobs).kin (slot_of plan m.constants.number t.number) ≡ Some (kin_of plan m.constants.number t)
  kin_there m t hm ht =
      let km = keyed_member 1 s.jobs m o.numbered hm in
      let kt = keyed_falls (λ (v : Task). v.number) m.progress.job.next_task m.progress.job.tasks t (order_of m hm).tasks.numbers ht in
      let a = task_row plan s.jobs m t fits.rows hm ht in
      let k = slot_of plan m.constants.number t.number in
      let f = finds (λ (r : Slotted). r.slot == k) plan.rows a.row a.among (eq-eqb a.row.slot k (sym a.slot)) in
      let same : f.item ≡ a.row = fits.rows.differ f.item a.row f.among a.among (eqb-true f.item.slot k f.passes ∙ a.slot) in
      ap (kin_by plan s.jobs) (f.found ∙ ap Some same)
      ∙ ap (λ (i : ℕ). kin_in plan i a.row.task (keyed number_of i s.jobs)) a.job
      ∙ ap (kin_in plan m.constants.number a.row.task) km
      ∙ ap (λ (i : ℕ). kin_with plan m.constants.number (keyed (λ (v : Task). v.number) i m.progress.job.tasks)) a.number
      ∙ ap (kin_with plan m.constants.number) kt

  -- the line of a task's parents, who are older than it
  module _ (m : SessionJob) (hm : Has s.jobs m) where
    pub tasks : TasksInOrder (IsSegment m.constants) m.constants m.progress.job
    tasks = (order_of m hm).tasks

    pub task_order : (t : Task) → Has m.progress.job.tasks t → TaskInOrder (IsSegment m.constants) m.constants m.progress.job t
    task_order t h = all_in (TaskInOrder (IsSegment m.constants) m.constants m.progress.job) m.progress.job.tasks t tasks.tasks h

    birth_of : (t : Task) (parents : List ℕ) → Has m.progress.job.tasks t → t.parents ≡ parents → BirthInOrder m.progress.job t parents
    birth_of t parents h e = subst (λ (ps : List ℕ). BirthInOrder m.progress.job t ps) e (task_order t h).birth

    pub line_stands : (t : Task) (parents : List ℕ) → BirthInOrder m.progress.job t parents → LineStands (families plan s.jobs) plan.peak m.constants.number (map (slot_of plan m.constants.number) parents)
    line_stands t [] b = tt
    line_stands t (n ∷ above) b =
        let h = keyed_has (λ (v : Task). v.number) n m.progress.job.tasks b.parent b.found in
        let j = m.constants.number in
        let low = subst (λ (i : ℕ). slot_of plan j i < plan.peak) h.1 (slot_below plan s.jobs m b.parent fits.rows hm h.0) in
        let kin = subst (λ (i : ℕ). (families plan s.jobs).kin (slot_of plan j i) ≡ Some (kin_of plan j b.parent)) h.1 (kin_there m b.parent hm h.0) in
        let K : List ℕ → Resident = λ ps. record { job = j; parents = map (slot_of plan j) ps } in
        (low, kin ∙ ap (λ (ps : List ℕ). Some (K ps)) b.line, line_stands b.parent above (birth_of b.parent above h.0 b.line))

    pub parents_fall : (t : Task) (parents : List ℕ) → BirthInOrder m.progress.job t parents → Falls t.number parents
    parents_fall t [] b = tt
    parents_fall t (n ∷ above) b = grind (arith, keyed_has, birth_of, parents_fall b.parent above)

    parents_live : (t : Task) (parents : List ℕ) → BirthInOrder m.progress.job t parents → (n : ℕ) → Has parents n → Has (map (λ (v : Task). v.number) m.progress.job.tasks) n
    parents_live t [] b n h = absurd h
    parents_live t (k ∷ above) b n (inl e) =
        let h = keyed_has (λ (v : Task). v.number) k m.progress.job.tasks b.parent b.found in
        subst (Has (map (λ (v : Task). v.number) m.progress.job.tasks)) (h.1 ∙ e) (has_map (λ (v : Task). v.number) m.progress.job.tasks b.parent h.0)
    parents_live t (k ∷ above) b n (inr i) = grind (arith, keyed_has, birth_of, parents_live b.parent above)

    pub few_parents : (t : Task) → Has m.progress.job.tasks t → length t.parents ≤ 15
    few_parents t h =
        let b = (task_order t h).birth in
        let short = falls_short t.number t.parents m.progress.job.next_task (map (λ (v : Task). v.number) m.progress.job.tasks) (parents_fall t t.parents b) tasks.numbers (parents_live t t.parents b) in
        omega (arith, short, length-map m.progress.job.tasks (λ (v : Task). v.number), tasks.few)

    pub kin_fits : (t : Task) → Has m.progress.job.tasks t → m.constants.number ≤ 8 → ResidentFits (families plan s.jobs) plan.peak (slot_of plan m.constants.number t.number) (kin_of plan m.constants.number t)
    kin_fits t h small = record {
      used = slot_below plan s.jobs m t fits.rows hm h;
      job = omega arith;
      few = omega (arith, few_parents t h, length-map t.parents (slot_of plan m.constants.number));
      line = line_stands t t.parents (task_order t h).birth;
    }

-- job numbers are few
number_high : (n : ℕ) (jobs : List SessionJob) (m : SessionJob) → NumberedFrom n jobs → Has jobs m → m.constants.number < n + length jobs
number_high n [] m o h = absurd h
number_high n (y ∷ more) m o (inl e) = omega (arith, o.0, ap (λ (z : SessionJob). z.constants.number) e)
number_high n (y ∷ more) m o (inr h) = omega (arith, number_high (n + 1) more m o.1 h)

vector_is : (plan : Placement) (j : ℕ) (parents : List ℕ) → vector_word plan j parents ≡ kin_word (Some (record { job = j; parents = map (slot_of plan j) parents }))
vector_is plan j parents = grind arith

dictionaries_lie : (core : List Tagged) (plan : Placement) (at : ℕ) (jobs : List SessionJob) → DictionariesFollow plan at jobs → ((m : SessionJob) → Has jobs m → RepresentsDictionary core plan m)
    → DictionariesLie core plan.stacks at (map (λ (m : SessionJob). length m.constants.dictionary.cells) jobs)
dictionaries_lie core plan at [] d r = d
dictionaries_lie core plan at (m ∷ more) d r = grind (arith, dictionaries_lie core plan (at + (2 + length m.constants.dictionary.cells)) more d.1)

-- the number of the job in whose dictionary an address lies
pub job_found : (plan : Placement) (at n i : ℕ) (jobs : List SessionJob) (m : SessionJob) → DictionariesFollow plan at jobs → NumberedFrom (n + 1) jobs → Has jobs m → plan.dictionary m.constants.number ≤ i
    → i < plan.dictionary m.constants.number + (2 + length m.constants.dictionary.cells) → job_at at (map (λ (y : SessionJob). length y.constants.dictionary.cells) jobs) n i ≡ m.constants.number
job_found plan at n i [] m d o h low high = absurd h
job_found plan at n i (y ∷ more) m d o (inl e) low high =
    let same = ap (λ (z : SessionJob). plan.dictionary z.constants.number) e in
    let size = ap (λ (z : SessionJob). length z.constants.dictionary.cells) e in
    let begins : at ≤ i = omega (arith, d.0, same, low) in
    let ends : i < at + (2 + length y.constants.dictionary.cells) = omega (arith, d.0, same, size, high) in
    cond-false (nat_lt i at) _ _ (le-ltb i at begins) ∙ past (at + (2 + length y.constants.dictionary.cells)) (n + 1) more ends ∙ sym o.0 ∙ ap (λ (z : SessionJob). z.constants.number) e where
      past : (to before : ℕ) (rest : List SessionJob) → i < to → job_at to (map (λ (y : SessionJob). length y.constants.dictionary.cells) rest) before i ≡ before
      past to before [] h = refl
      past to before (z ∷ rest) h = cond-true (nat_lt i to) _ _ (lt-ltb i to h)
job_found plan at n i (y ∷ more) m d o (inr h) low high =
    let above = dictionary_above plan (at + (2 + length y.constants.dictionary.cells)) more m d.1 h in
    cond-false (nat_lt i at) _ _ (le-ltb i at (omega (arith, above, low))) ∙ job_found plan (at + (2 + length y.constants.dictionary.cells)) (n + 1) i more m d.1 o.1 h low high

-- core shows the families of the session that it represents
pub families_shown : (core : List Tagged) (plan : Placement) (s : Session) → IsInOrderButCounts s → PlanFits plan s → ((m : SessionJob) → Has s.jobs m → RepresentsDictionary core plan m) → RepresentsVector core plan s.jobs
    → ShowsFamilies core (machine_view plan s.jobs) (families plan s.jobs)
families_shown core plan s o fits d v = record {
  few = fits.few;
  vector = vector;
  kin = kin;
  dictionaries = dictionaries_lie core plan 160 s.jobs fits.dictionaries d;
} where
  f : Families
  f = families plan s.jobs

  vector : (k : ℕ) → k < 120 → slice_get core (32 + k) ≡ Some (kin_word ((families plan s.jobs).kin k))
  vector k small = elim (lives_or plan s.jobs k fits.rows) [
    | inl (m, t, hm, ht, is) ↦
        subst (λ (i : ℕ). slice_get core (32 + i) ≡ Some (kin_word ((families plan s.jobs).kin i))) is
        (v.live m t hm ht ∙ ap Some (vector_is plan m.constants.number t.parents) ∙ ap (λ (a : Option Resident). Some (kin_word a)) (sym (kin_there plan s o fits m t hm ht)))
    | inr none ↦ v.free k small (keyed_none k plan.rows none) ∙ ap (λ (r : Option Slotted). Some (kin_word (kin_by plan s.jobs r))) (sym none)
  ]

  kin : (k : ℕ) (a : Resident) → (families plan s.jobs).kin k ≡ Some a → ResidentFits (families plan s.jobs) plan.peak k a
  kin k a e = elim (lives_or plan s.jobs k fits.rows) [
    | inl (m, t, hm, ht, is) ↦
        let there = kin_there plan s o fits m t hm ht in
        let same : kin_of plan m.constants.number t ≡ a = same_Some _ _ (sym there ∙ ap (families plan s.jobs).kin is ∙ e) in
        let few : m.constants.number ≤ 8 = omega (arith, number_high 1 s.jobs m o.numbered hm, o.few) in
        subst (λ (i : ℕ). ResidentFits (families plan s.jobs) plan.peak i a) is (subst (λ (b : Resident). ResidentFits (families plan s.jobs) plan.peak (slot_of plan m.constants.number t.number) b) same (kin_fits plan s o fits m hm t ht few))
    | inr none ↦ absurd (none-some a (sym (ap (kin_by plan s.jobs) none) ∙ e))
  ]
