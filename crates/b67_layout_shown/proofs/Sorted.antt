-- A job's rows by falling numbers are those of its tasks.
use Rattle.std.proofs.Common.{◌≡◌, ◌≢◌, ℕ, ◌<◌, ◌≤◌, ◌==◌, Bool, true, false, List, [], ◌∷◌, map, filter, refl, sym, ◌∙◌, ap, subst, arith, inl, inr, lt-ltb, le-ltb}
use Rattle.std.specs.Prelude.{◌⊎◌, if◌then◌else◌}
use Rattle.std.proofs.lemmas.Bool.{eq-eqb, eqb-true, cases_lt, cases_Bool}
use Rattle.std.proofs.lemmas.Option.{same_Some}
use Rattle.b67_lemmas.specs.Lists.{Has, Falls}
use Rattle.b67_lemmas.proofs.Members.{falls_low, falls_same, has_map, has_map_back, has_filter, has_filter_in}
use Rattle.b67_law.proofs.Numbered.{keyed_member}
use Rattle.b67_model.specs.Common.{Task, SessionJob, number_of, Session, NumberedFrom}
use Rattle.b67_model.specs.Keyed.{keyed}
use Rattle.b67_layout.specs.Common.{Placement, TaskRow, JobRow, JobCounts, TaskShows, Differ, TablesShow}
use Rattle.b67_layout_shown.specs.Shown.{insert_row, sorted, rows_of}

-- ---- sorting

abbrev pub number_in : TaskRow → ℕ
number_in r = r.number

insert_has : (r : TaskRow) (xs : List TaskRow) (q : TaskRow) → Has (insert_row r xs) q → (r ≡ q) ⊎ Has xs q
insert_has r [] q (inl e) = inl e
insert_has r [] q (inr h) = absurd h
insert_has r (x ∷ more) q h = grind (arith, insert_has r more q)

insert_there : (r : TaskRow) (xs : List TaskRow) (q : TaskRow) → (r ≡ q) ⊎ Has xs q → Has (insert_row r xs) q
insert_there r [] q (inl e) = inl e
insert_there r [] q (inr h) = absurd h
insert_there r (x ∷ more) q h = grind (arith, insert_there r more q)

insert_falls : (bound : ℕ) (r : TaskRow) (xs : List TaskRow) → r.number < bound → ((q : TaskRow) → Has xs q → q.number ≢ r.number) → Falls bound (map number_in xs) → Falls bound (map number_in (insert_row r xs))
insert_falls bound r [] low other f = (low, tt)
insert_falls bound r (x ∷ more) low other f = elim (cases_lt x.number r.number) [
  | inl h ↦ subst (λ (b : Bool). Falls bound (map number_in (if b then r ∷ x ∷ more else x ∷ insert_row r more))) (sym (lt-ltb x.number r.number h)) (low, (h, f.1))
  | inr h ↦
      let ne = other x (inl refl) in
      subst (λ (b : Bool). Falls bound (map number_in (if b then r ∷ x ∷ more else x ∷ insert_row r more))) (sym (le-ltb x.number r.number h))
      (f.0, insert_falls x.number r more (omega (arith, h, ne)) (λ q k. other q (inr k)) f.1)
]

-- no number stands twice
abbrev pub NumbersApart : List TaskRow → Type 0
NumbersApart [] = Unit {0}
NumbersApart (r ∷ more) = ((q : TaskRow) → Has more q → q.number ≢ r.number) × NumbersApart more

pub sorted_has : (xs : List TaskRow) (q : TaskRow) → Has (sorted xs) q → Has xs q
sorted_has [] q h = h
sorted_has (r ∷ more) q h = elim (insert_has r (sorted more) q h) [ inl e ↦ inl e | inr k ↦ inr (sorted_has more q k) ]

pub sorted_there : (xs : List TaskRow) (q : TaskRow) → Has xs q → Has (sorted xs) q
sorted_there [] q h = h
sorted_there (r ∷ more) q (inl e) = insert_there r (sorted more) q (inl e)
sorted_there (r ∷ more) q (inr h) = insert_there r (sorted more) q (inr (sorted_there more q h))

pub sorted_falls : (bound : ℕ) (xs : List TaskRow) → ((q : TaskRow) → Has xs q → q.number < bound) → NumbersApart xs → Falls bound (map number_in (sorted xs))
sorted_falls bound [] low apart = tt
sorted_falls bound (r ∷ more) low apart = insert_falls bound r (sorted more) (low r (inl refl)) (λ q h. apart.0 q (sorted_has more q h)) (sorted_falls bound more (λ q h. low q (inr h)) apart.1)

-- ---- two falling lists with the same members

same_list : (bound : ℕ) (xs ys : List ℕ) → Falls bound xs → Falls bound ys → ((n : ℕ) → Has xs n → Has ys n) → ((n : ℕ) → Has ys n → Has xs n) → xs ≡ ys
same_list bound [] [] fx fy to from = refl
same_list bound [] (y ∷ ys) fx fy to from = absurd (from y (inl refl))
same_list bound (x ∷ xs) [] fx fy to from = absurd (to x (inl refl))
same_list bound (x ∷ xs) (y ∷ ys) fx fy to from =
    ap (λ n. n ∷ xs) head ∙ ap (λ ns. y ∷ ns) (same_list x xs ys fx.1 (subst (λ b. Falls b ys) (sym head) fy.1) drop_to drop_from) where
      up : x ≤ y
      up = elim (to x (inl refl)) [ inl e ↦ omega (arith, e) | inr h ↦ (let low = falls_low y ys x fy.1 h in omega (arith, low)) ]

      down : y ≤ x
      down = elim (from y (inl refl)) [ inl e ↦ omega (arith, e) | inr h ↦ (let low = falls_low x xs y fx.1 h in omega (arith, low)) ]

      head : x ≡ y
      head = omega (arith, up, down)

      drop_to : (n : ℕ) → Has xs n → Has ys n
      drop_to n h = elim (to n (inr h)) [ inl e ↦ (let low = falls_low x xs n fx.1 h in absurd (omega (arith, low, e, head))) | inr k ↦ k ]

      drop_from : (n : ℕ) → Has ys n → Has xs n
      drop_from n h = elim (from n (inr h)) [ inl e ↦ (let low = falls_low y ys n fy.1 h in absurd (omega (arith, low, e, head))) | inr k ↦ k ]

-- what two lists give, whose items go together by their numbers
pub paired : {A : Type 0} (f : TaskRow → A) (g : Task → A) (xs : List TaskRow) (ts : List Task) → map number_in xs ≡ map (λ (t : Task). t.number) ts
    → ((r : TaskRow) (t : Task) → Has xs r → Has ts t → r.number ≡ t.number → f r ≡ g t) → map f xs ≡ map g ts
paired f g [] [] e h = refl
paired f g [] (t ∷ ts) e h = let z : ⊥ = cc in absurd z
paired f g (r ∷ xs) [] e h = let z : ⊥ = cc in absurd z
paired f g (r ∷ xs) (t ∷ ts) e h = grind (arith, paired f g xs ts)

-- ---- the rows of a job

module _ (plan : Placement) (s : Session) (m : SessionJob) (rows : List TaskRow) (jobs : List JobRow) (c : JobCounts)
    (numbered : NumberedFrom 1 s.jobs) (in_session : Has s.jobs m) (falls : Falls m.progress.job.next_task (map (λ (t : Task). t.number) m.progress.job.tasks))
    (tables : TablesShow plan s rows jobs c) where
  abbrev mine : TaskRow → Bool
  mine r = r.job == m.constants.number

  -- the task that a row of the job shows
  pub record Shows (r : TaskRow) : Type 0 where
    pub task : Task
    pub live : Has m.progress.job.tasks task
    pub shows : TaskShows plan m task r

  pub shows_mine : (r : TaskRow) → Has rows r → r.job ≡ m.constants.number → Shows r
  shows_mine r there e =
      let (y, t, iny, int, sh) = tables.tasks r there in
      let same : y ≡ m = same_Some y m (sym (keyed_member 1 s.jobs y numbered iny) ∙ ap (λ n. keyed number_of n s.jobs) (sym sh.job ∙ e) ∙ keyed_member 1 s.jobs m numbered in_session) in
      let both = subst (λ (z : SessionJob). Has z.progress.job.tasks t × TaskShows plan z t r) same (int, sh) in
      record { task = t; live = both.0; shows = both.1 }

  pub shows_task : (r : TaskRow) (t : Task) → Has (rows_of rows m.constants.number) r → Has m.progress.job.tasks t → r.number ≡ t.number → TaskShows plan m t r
  shows_task r t hr int e =
      let f = has_filter mine rows r (sorted_has (filter mine rows) r hr) in
      let sh = shows_mine r f.0 (eqb-true r.job m.constants.number f.1) in
      let same : sh.task ≡ t = falls_same (λ (u : Task). u.number) m.progress.job.next_task m.progress.job.tasks sh.task t falls sh.live int (sym sh.shows.number ∙ e) in
      subst (λ (u : Task). TaskShows plan m u r) same sh.shows

  slot_by_number : (r q : TaskRow) → Has rows r → Has rows q → r.job ≡ m.constants.number → q.job ≡ m.constants.number → q.number ≡ r.number → q.slot ≡ r.slot
  slot_by_number r q hr hq er eq e = grind arith

  apart_rows : (xs : List TaskRow) → ((r : TaskRow) → Has xs r → Has rows r) → Differ (map (λ (r : TaskRow). r.slot) xs) → NumbersApart (filter mine xs)
  apart_rows [] inside differ = tt
  apart_rows (r ∷ more) inside differ = by (cases_Bool (mine r)) (apart_rows more (λ q h. inside q (inr h)) differ.1) where
    by : (mine r ≡ true) ⊎ (mine r ≡ false) → NumbersApart (filter mine more) → NumbersApart (filter mine (r ∷ more))
    by (inl t) rest = subst (λ (b : Bool). NumbersApart (if b then r ∷ filter mine more else filter mine more)) (sym t) (
      (λ q h e.
          let f = has_filter mine more q h in
          let slot = slot_by_number r q (inside r (inl refl)) (inside q (inr f.0)) (eqb-true r.job m.constants.number t) (eqb-true q.job m.constants.number f.1) e in
          differ.0 (subst (Has (map (λ (r : TaskRow). r.slot) more)) slot (has_map (λ (r : TaskRow). r.slot) more q f.0))),
      rest,
    )
    by (inr t) rest = subst (λ (b : Bool). NumbersApart (if b then r ∷ filter mine more else filter mine more)) (sym t) rest

  -- the rows have the numbers of the tasks, in their order
  pub same_numbers : map (λ (r : TaskRow). r.number) (rows_of rows m.constants.number) ≡ map (λ (t : Task). t.number) m.progress.job.tasks
  same_numbers = same_list m.progress.job.next_task (map (λ (r : TaskRow). r.number) (rows_of rows m.constants.number)) (map (λ (t : Task). t.number) m.progress.job.tasks)
      (sorted_falls m.progress.job.next_task (filter mine rows) (λ q h. (let i = inner q h in subst (λ n. n < m.progress.job.next_task) (sym i.shows.number) (falls_low m.progress.job.next_task (map (λ (t : Task). t.number) m.progress.job.tasks) i.task.number falls (has_map (λ (t : Task). t.number) m.progress.job.tasks i.task i.live))))
      (apart_rows rows (λ r h. h) tables.once))
      falls
      (λ n h.
      let b = has_map_back (λ (r : TaskRow). r.number) (rows_of rows m.constants.number) n h in
      let i = inner b.item (sorted_has (filter mine rows) b.item b.among) in
      subst (Has (map (λ (t : Task). t.number) m.progress.job.tasks)) (sym i.shows.number ∙ b.is) (has_map (λ (t : Task). t.number) m.progress.job.tasks i.task i.live))
      (λ n h.
      let b = has_map_back (λ (t : Task). t.number) m.progress.job.tasks n h in
      let (r, inr_, sh) = tables.each m b.item in_session b.among in
      subst (Has (map (λ (r : TaskRow). r.number) (rows_of rows m.constants.number))) (sh.number ∙ b.is)
      (has_map (λ (r : TaskRow). r.number) (rows_of rows m.constants.number) r (sorted_there (filter mine rows) r (has_filter_in mine rows r inr_ (eq-eqb r.job m.constants.number sh.job))))) where
        inner : (q : TaskRow) → Has (filter mine rows) q → Shows q
        inner q h = let f = has_filter mine rows q h in shows_mine q f.0 (eqb-true q.job m.constants.number f.1)
