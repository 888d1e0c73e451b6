-- The choice, by what the rows and switches tell.
use Rattle.std.proofs.Common.{◌≡◌, ℕ, ◌<◌, ◌≤◌, ◌&&◌, Bool, true, false, not, List, [], ◌∷◌, ◌++◌, map, filter, length, Option, Some, None, refl, sym, ◌∙◌, ap, arith, inl, inr, subst}
use Rattle.std.specs.Prelude.{IfSome}
use Rattle.std.proofs.lemmas.Option.{slice_get_within}
use Rattle.std.specs.List.{list_any}
use Rattle.std.proofs.lemmas.Bool.{cases_Bool, true≢false}
use Rattle.b67_lemmas.specs.Lists.{Has}
use Rattle.b67_lemmas.proofs.Members.{any_has, any_some, find_none, find_one}
use Rattle.b67_model.specs.Common.{Who, Switch, Session, Choice, is_same, is_before, ready, switched, first, next_after, afresh, choice_by, choice, SwitchesRise, IsInOrderButPlaces}
use Rattle.b67_model.specs.Schedule.{goes_on}
use Rattle.b67_layout.specs.Placement.{Placement}
use Rattle.b67_layout.specs.Rows as rows
use Rattle.b67_layout.specs.Rows.{TablesShow}
use Rattle.b67_task.specs.declared.tables.TaskRow.{TaskRow}
use Rattle.b67_task.specs.Tables.{task_row, switch_of}
use Rattle.b67_model_text.specs.declared.deck.Switch as text
use Rattle.b67_task.specs.declared.counting.Chosen.{Chosen}
use Rattle.b67_task.specs.Counted.{Past, choice_of}
use Rattle.b67_task.specs.Chosen.{IsReadyAt, ReadyRow, NextRow, is_sooner, RowOf, GoesOnAt, SwitchesTo, Chooses, turn_lasts}
use Rattle.b67_task.proofs.Rising.{is_named, nobody_named, is_named_one, named_one}
use Rattle.b67_task.proofs.Orders.{same_is, is_self, after_too, after_neither, before_neither}
use Rattle.b67_task.proofs.ReadyTasks.{Rises, ready_rises, row_ready, ready_row}

-- the first of a part of a list in order
pub first_passing : (p : Who → Bool) (xs : List Who) (w : Who) → Rises xs → Has xs w → p w ≡ true → ((x : Who) → Has xs x → p x ≡ true → is_before x w ≡ false) → first (filter p xs) ≡ Some w
first_passing p [] w r h t least = absurd h
first_passing p (x ∷ xs) w r h t least = grind (arith, first_passing p xs w r.1)

first_append : (xs ys : List Who) (w : Who) → first xs ≡ Some w → first (xs ++ ys) ≡ Some w
first_append xs ys w e = grind arith

filter_none : (p : Who → Bool) (xs : List Who) → ((x : Who) → Has xs x → p x ≡ false) → filter p xs ≡ []
filter_none p [] none = refl
filter_none p (x ∷ xs) none = let t = none x (inl refl) in rw t (filter_none p xs (λ y k. none y (inr k)))

filter_rest : (p : Who → Bool) (xs : List Who) → ((x : Who) → Has xs x → p x ≡ false) → filter (λ x. not (p x)) xs ≡ xs
filter_rest p [] none = refl
filter_rest p (x ∷ xs) none = let t = none x (inl refl) in rw t (ap (λ l. x ∷ l) (filter_rest p xs (λ y k. none y (inr k))))

first_of : (xs : List Who) (w : Who) → Rises xs → Has xs w → ((x : Who) → Has xs x → is_before x w ≡ false) → first xs ≡ Some w
first_of xs w r h least = grind arith

abbrev pub cyclic : Who → List Who → Option Who
cyclic last xs = first (filter (is_before last) xs ++ filter (λ who. not (is_before last who)) xs)

-- the next one of a list in order: the first in the circle behind the last one
pub cyclic_is : (last : Who) (xs : List Who) (w : Who) → Rises xs → Has xs w → ((x : Who) → Has xs x → is_sooner last x w ≡ false) → cyclic last xs ≡ Some w
cyclic_is last xs w r h least = elim (cases_Bool (is_before last w)) [
  | inl t ↦ first_append (filter (is_before last) xs) (filter (λ who. not (is_before last who)) xs) w (first_passing (is_before last) xs w r h t (λ x k b. after_too last x w b t (least x k)))
  | inr t ↦
      ap (λ (l : List Who). first (l ++ filter (λ who. not (is_before last who)) xs)) (filter_none (is_before last) xs (λ x k. after_neither last x w t (least x k)))
      ∙ ap first (filter_rest (is_before last) xs (λ x k. after_neither last x w t (least x k)))
      ∙ first_of xs w r h (λ x k. before_neither last x w t (least x k))
]

pub cyclic_none : (last : Who) (xs : List Who) → ((x : Who) → Has xs x → ⊥) → cyclic last xs ≡ None
cyclic_none last [] none = refl
cyclic_none last (x ∷ xs) none = absurd (none x (inl refl))

-- the choice by its rules
pub choice_is : (s : Session) (o : Option Who) (b : Bool) → switched s ≡ o → goes_on s ≡ b → choice s ≡ choice_by s o b
choice_is s o b e f = ap (λ (v : Option Who). choice_by s v (goes_on s)) e ∙ ap (λ (v : Bool). choice_by s o v) f

module _ (plan : Placement) (s : Session) (o : IsInOrderButPlaces s) (task_rows : List TaskRow) (job_rows : List rows.JobRow) (c : rows.JobCounts) (shows : TablesShow plan s (map task_row task_rows) job_rows c) where
  in_row : (i : ℕ) (w : Who) → IsReadyAt task_rows i w → Has (ready s) w
  in_row = row_ready plan s o task_rows job_rows c shows

  row_in : (w : Who) → Has (ready s) w → (i : ℕ) × IsReadyAt task_rows i w
  row_in = ready_row plan s o task_rows job_rows c shows

  rises : Rises (ready s)
  rises = ready_rises plan s o

  of_session : (named : Option Who) → SwitchesTo c.made c.switches named → SwitchesTo s.made s.switches named
  of_session named h = subst (λ (l : List Switch). SwitchesTo s.made l named) shows.counts.switches (subst (λ (n : ℕ). SwitchesTo n c.switches named) shows.counts.made h)

  pub switched_at : (who : Who) (i : Option ℕ) → SwitchesTo c.made c.switches (Some who) → ReadyRow task_rows who i → RowOf task_rows i (switched s)
  switched_at who None to none = find_none (is_named s.made s.switches) (ready s) (λ x k. elim (cases_Bool (is_named s.made s.switches x)) [
    | inl t ↦
        let is = named_one s.made s.switches who x o.switches (of_session (Some who) to) t in
        let (i, a) = row_in x k in
        absurd (none i (subst (λ (v : Who). IsReadyAt task_rows i v) is a))
    | inr t ↦ t
  ])
  switched_at who (Some i) to a =
      (who, a, find_one (is_named s.made s.switches) (ready s) who (in_row i who a) (is_named_one s.made s.switches who (of_session (Some who) to)) (λ x t. named_one s.made s.switches who x o.switches (of_session (Some who) to) t))

  pub rises_there : SwitchesRise c.switches
  rises_there = subst SwitchesRise (sym shows.counts.switches) o.switches

  pub switched_none : SwitchesTo c.made c.switches None → switched s ≡ None
  switched_none none = find_none (is_named s.made s.switches) (ready s) (λ x k. nobody_named s.made s.switches x (of_session None none))

  pub last_is : record { job = c.last_job; task = c.last_number } ≡ s.last
  last_is = ap (λ (n : ℕ). record { job = n; task = c.last_number }) shows.counts.last_job ∙ ap (λ (n : ℕ). record { job = s.last.job; task = n }) shows.counts.last_number

  pub goes_on_at : (who : Who) (i : Option ℕ) → who ≡ s.last → turn_lasts s ≡ true → ReadyRow task_rows who i → GoesOnAt task_rows i s
  goes_on_at who None is lasts none = elim (cases_Bool (list_any (is_same s.last) (ready s))) [
    | inl t ↦
        let (x, k, q) = any_has (is_same s.last) (ready s) t in
        let (i, a) = row_in x k in
        absurd (none i (subst (λ (v : Who). IsReadyAt task_rows i v) (sym (same_is s.last x q) ∙ sym is) a))
    | inr t ↦ ap (λ (b : Bool). b && turn_lasts s) t
  ]
  goes_on_at who (Some i) is lasts a =
      let b : IsReadyAt task_rows i s.last = subst (λ (v : Who). IsReadyAt task_rows i v) is a in
      (b, ap (λ (b : Bool). b && turn_lasts s) (any_some (is_same s.last) (ready s) s.last (in_row i s.last b) (is_self s.last)) ∙ lasts)

  module _ (n : ℕ) (all : length task_rows ≤ n) where
    within : (i : ℕ) (w : Who) → IsReadyAt task_rows i w → i < n
    within i w a = omega (arith, all, slice_get_within task_rows i a.row a.at)

    pub next_at : (last : Who) (i : Option ℕ) → last ≡ s.last → NextRow n task_rows last i → RowOf task_rows i (next_after s)
    next_at last None is none = subst (λ (v : Who). cyclic v (ready s) ≡ None) is (cyclic_none last (ready s) (λ x k. let (j, a) = row_in x k in none j x (within j x a) a))
    next_at last (Some i) is h =
        (h.who, h.at, subst (λ (v : Who). cyclic v (ready s) ≡ Some h.who) is (cyclic_is last (ready s) h.who rises (in_row i h.who h.at) (λ x k. let (j, a) = row_in x k in h.first j x (within j x a) a)))

pub ready_inside : (task_rows : List TaskRow) (who : Who) (i : Option ℕ) → ReadyRow task_rows who i → IfSome i (λ k. k < length task_rows)
ready_inside task_rows who i h = grind (arith, slice_get_within)

pub next_inside : (n : ℕ) (task_rows : List TaskRow) (last : Who) (i : Option ℕ) → NextRow n task_rows last i → IfSome i (λ k. k < length task_rows)
next_inside n task_rows last i h = grind (arith, slice_get_within)

-- through a lent slice
pub lent_named : (lent xs : List text.Switch) (from made : ℕ) (named : Option Who) → lent ≡ xs
    → (SwitchesRise (map switch_of lent) → Past from made (map switch_of lent) → SwitchesTo made (map switch_of lent) named)
    → SwitchesRise (map switch_of xs) → Past from made (map switch_of xs) → SwitchesTo made (map switch_of xs) named
lent_named lent xs from made named is h = grind arith

pub lent_ready : (lent xs : List TaskRow) (who : Who) (i : Option ℕ) → lent ≡ xs → ReadyRow lent who i → ReadyRow xs who i
lent_ready lent xs who i is h = subst (λ (l : List TaskRow). ReadyRow l who i) is h

pub lent_next : (lent xs : List TaskRow) (last : Who) (i : Option ℕ) → lent ≡ xs → NextRow (length lent) lent last i → NextRow (length xs) xs last i
lent_next lent xs last i is h = subst (λ (l : List TaskRow). NextRow (length l) l last i) is h

chosen_with : (rows : List TaskRow) (i : ℕ) (c : Chosen) (who : Who) (turn : ℕ) → IsReadyAt rows i who → choice_of c ≡ record { who = who; turn = turn } → c.row ≡ i
    → (choice : Option Choice) → choice ≡ Some (record { who = who; turn = turn }) → Chooses rows (Some c) choice
chosen_with rows i c who turn a is row choice e = grind arith

-- a switch, and then the next task in order, begin a turn
pub chosen_by_switch : (s : Session) (rows : List TaskRow) (i : ℕ) (c : Chosen) → RowOf rows (Some i) (switched s) → ((who : Who) → IsReadyAt rows i who → choice_of c ≡ record { who = who; turn = 0 }) → c.row ≡ i
    → Chooses rows (Some c) (choice s)
chosen_by_switch s rows i c named is row =
    let (who, a, e) = named in
    chosen_with rows i c who 0 a (is who a) row (choice s) (choice_is s (Some who) (goes_on s) e refl)

pub chosen_next : (s : Session) (rows : List TaskRow) (i : ℕ) (c : Chosen) → switched s ≡ None → goes_on s ≡ false → RowOf rows (Some i) (next_after s) → ((who : Who) → IsReadyAt rows i who → choice_of c ≡ record { who = who; turn = 0 }) → c.row ≡ i
    → Chooses rows (Some c) (choice s)
chosen_next s rows i c none ends named is row =
    let (who, a, e) = named in
    chosen_with rows i c who 0 a (is who a) row (choice s) (choice_is s None false none ends ∙ ap afresh e)
