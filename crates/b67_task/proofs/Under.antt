-- The tasks of a job that are under a head, sorted, are the model's.
use Rattle.std.proofs.Common.{◌≡◌, ◌≢◌, ℕ, zero, suc, ◌+◌, ◌-◌, ◌<◌, ◌≤◌, List, [], ◌∷◌, ◌++◌, map, length, take, drop, reverse, Some, refl, sym, ◌∙◌, ap, arith, inl, inr, ⊎_elim, subst, Bool, true, ◌==◌}
use Rattle.std.specs.Prelude.{filter}
use Rattle.std.specs.List.{slice_get}
use Rattle.std.proofs.lemmas.Bool.{cases_lt, eq-eqb, eqb-true}
use Rattle.std.proofs.lemmas.List.{map-append, length-map, take-append-drop}
use Rattle.std.proofs.lemmas.Option.{same_Some, none-some}
use Rattle.std.proofs.lemmas.Simd.{map-map}
use Rattle.b67_lemmas.specs.Lists.{Has, Falls}
use Rattle.b67_lemmas.proofs.Members.{any_has, any_some, falls_low, falls_same, has_append_cases, has_append_left, has_append_right, has_filter, has_filter_in, has_map, has_map_back, has_reverse, has_reverse_back, reverse_cons}
use Rattle.b67_model.specs.Common.{Task, SessionJob, among, at_depth, deepest_below, Session, IsSegment}
use Rattle.b67_layout.specs.Common.{Placement, slot_of, parent_slot, Differ}
use Rattle.b67_layout.specs.Rows as rows
use Rattle.b67_layout.proofs.Rows.{task_row}
use Rattle.b67_layout.proofs.Counting.{not_more}
use Rattle.b67_task.specs.declared.tables.TaskRow.{TaskRow}
use Rattle.b67_task.specs.declared.tables.Tasks.{Tasks}
use Rattle.b67_task.specs.declared.families.Deep.{Deep}
use Rattle.b67_task.specs.RowOf.{IsRowOf}
use Rattle.b67_task.specs.Family.{TablesHold, IsUnderHead, EndsBefore, AreSorted, AreUnder}
use Rattle.b67_task.proofs.Sorted.{before_self, sorted_append, sorted_one, sorted_put}
use Rattle.b67_task.proofs.Depths.{Parent, order, depth_low, parent_of, slot_small}

abbrev pub number : Task → ℕ
number t = t.number

abbrev pub deep_of : ℕ → Task → Deep
deep_of over t = record { number = t.number; depth = length t.parents - over }

-- tasks from the deepest up
abbrev pub level : ℕ → List Task → List Task
level depth ts = filter (λ (t : Task). length t.parents == depth) (reverse ts)

abbrev pub deepest : ℕ → List Task → List Task
deepest zero ts = []
deepest (suc depth) ts = level depth ts ++ deepest depth ts

pub deepest_numbers : (n : ℕ) (ts : List Task) → map number (deepest n ts) ≡ deepest_below n ts
deepest_numbers zero ts = refl
deepest_numbers (suc n) ts = map-append number (level n ts) (deepest n ts) ∙ ap (λ (ns : List ℕ). at_depth n ts ++ ns) (deepest_numbers n ts)

pub deepest_has : (n : ℕ) (ts : List Task) (t : Task) → Has ts t → length t.parents < n → Has (deepest n ts) t
deepest_has zero ts t i low = absurd (omega (arith, low))
deepest_has (suc n) ts t i low = grind (arith, has_append_left, has_filter_in, has_reverse, has_append_right, deepest_has n ts t i)

level_back : (n : ℕ) (ts : List Task) (t : Task) → Has (level n ts) t → Has ts t × (length t.parents ≡ n)
level_back n ts t i = let k = has_filter (λ (u : Task). length u.parents == n) (reverse ts) t i in (has_reverse_back ts t k.0, eqb-true (length t.parents) n k.1)

pub deepest_back : (n : ℕ) (ts : List Task) (t : Task) → Has (deepest n ts) t → Has ts t × (length t.parents < n)
deepest_back zero ts t i = absurd i
deepest_back (suc n) ts t i = grind (arith, level_back, has_append_cases, deepest_back n ts t)

-- numbers that rise
abbrev Rises : List Task → Type 0
Rises [] = Unit {0}
Rises (t ∷ ts) = ((u : Task) → Has ts u → t.number < u.number) × Rises ts

rises_last : (xs : List Task) (t : Task) → Rises xs → ((u : Task) → Has xs u → u.number < t.number) → Rises (xs ++ t ∷ [])
rises_last [] t r low = (λ u i. absurd i, tt)
rises_last (x ∷ xs) t r low = (
  λ u i. ⊎_elim
      (λ (l : Has xs u). r.0 u l)
      (λ (e : Has (t ∷ []) u). ⊎_elim (λ (same : t ≡ u). omega (arith, low x (inl refl), ap number same)) (λ (z : ⊥). absurd z) e)
      (has_append_cases xs (t ∷ []) u i),
  rises_last xs t r.1 (λ u i. low u (inr i)),
)

rises_reverse : (bound : ℕ) (ts : List Task) → Falls bound (map number ts) → Rises (reverse ts)
rises_reverse bound [] f = tt
rises_reverse bound (t ∷ ts) f =
    subst Rises (sym (reverse_cons t ts)) (rises_last (reverse ts) t (rises_reverse t.number ts f.1)
    (λ u i. falls_low t.number (map number ts) u.number f.1 (has_map number ts u (has_reverse_back ts u i))))

rises_filter : (p : Task → Bool) (ts : List Task) → Rises ts → Rises (filter p ts)
rises_filter p [] r = tt
rises_filter p (t ∷ ts) r = grind (arith, has_filter, rises_filter p ts r.1)

level_sorted : (over d : ℕ) (ts : List Task) → Rises ts → ((t : Task) → Has ts t → length t.parents ≡ d) → AreSorted (map (deep_of over) ts)
level_sorted over d [] r same = tt
level_sorted over d (t ∷ ts) r same = (
  λ e i. (let b = has_map_back (deep_of over) ts e i in
      let low = r.0 b.item b.among in
      let one = same t (inl refl) in
      let two = same b.item (inr b.among) in
      subst (EndsBefore (deep_of over t)) b.is (inr (omega (arith, one, two), low))),
  level_sorted over d ts r.1 (λ u i. same u (inr i)),
)

pub deepest_sorted : (over n bound : ℕ) (ts : List Task) → Falls bound (map number ts) → ((t : Task) → Has ts t → over ≤ length t.parents) → AreSorted (map (deep_of over) (deepest n ts))
deepest_sorted over zero bound ts f high = tt
deepest_sorted over (suc n) bound ts f high =
    subst AreSorted (sym (map-append (deep_of over) (level n ts) (deepest n ts)))
    (sorted_append (map (deep_of over) (level n ts)) (map (deep_of over) (deepest n ts))
    (level_sorted over n (level n ts) (rises_filter (λ (t : Task). length t.parents == n) (reverse ts) (rises_reverse bound ts f)) (λ t i. (level_back n ts t i).1))
    (deepest_sorted over n bound ts f high)
    (λ a b ia ib.
    let x = has_map_back (deep_of over) (level n ts) a ia in
    let y = has_map_back (deep_of over) (deepest n ts) b ib in
    let kx = level_back n ts x.item x.among in
    let ky = deepest_back n ts y.item y.among in
    let above = high y.item ky.0 in
    subst (λ (z : Deep). EndsBefore z b) x.is (subst (EndsBefore (deep_of over x.item)) y.is (inl (omega (arith, kx.1, ky.1, above))))))

-- places of rows whose slots differ
differ_places : (rows : List TaskRow) (i k : ℕ) (a b : TaskRow) → Differ (map (λ (r : TaskRow). r.slot) rows) → slice_get rows i ≡ Some a → slice_get rows k ≡ Some b → a.slot ≡ b.slot → i ≡ k
differ_places [] i k a b d ei ek e = absurd (none-some a ei)
differ_places (r ∷ rows) zero zero a b d ei ek e = refl
differ_places (r ∷ rows) zero (suc k) a b d ei ek e =
    absurd (d.0 (subst (Has (map (λ (r : TaskRow). r.slot) rows)) (sym e ∙ ap (λ (z : TaskRow). z.slot) (sym (same_Some r a ei))) (has_map (λ (r : TaskRow). r.slot) rows b (Rattle.b67_lemmas.proofs.Members.has_get rows k b ek))))
differ_places (r ∷ rows) (suc i) zero a b d ei ek e =
    absurd (d.0 (subst (Has (map (λ (r : TaskRow). r.slot) rows)) (e ∙ ap (λ (z : TaskRow). z.slot) (sym (same_Some r b ek))) (has_map (λ (r : TaskRow). r.slot) rows a (Rattle.b67_lemmas.proofs.Members.has_get rows i a ei))))
differ_places (r ∷ rows) (suc i) (suc k) a b d ei ek e = ap suc (differ_places rows i k a b d.1 ei ek e)

-- a head, and which tasks of the job are under it, and how many parents the head has with itself
pub record HeadOf (plan : Placement) (m : SessionJob) (head over : ℕ) (below : Task → Bool) : Type 0 where
  pub depth : (t : Task) (d : ℕ) → Has m.progress.job.tasks t → IsUnderHead plan m.constants.number head t.parents d → (below t ≡ true) × (d + over ≡ length t.parents)
  pub under : (t : Task) → Has m.progress.job.tasks t → below t ≡ true → (d : ℕ) × IsUnderHead plan m.constants.number head t.parents d

drop_all : (xs : List ℕ) → drop (length xs) xs ≡ []
drop_all [] = refl
drop_all (x ∷ xs) = drop_all xs

drop_length : (d : ℕ) (xs ys : List ℕ) → drop d xs ≡ ys → d ≤ length xs → length xs ≡ d + length ys
drop_length zero xs ys e low = (let n = ap (λ (zs : List ℕ). length zs) e in omega (arith, n))
drop_length (suc d) [] ys e low = (let z : ⊥ = omega (arith, low) in absurd z)
drop_length (suc d) (x ∷ xs) ys e low = (let n = drop_length d xs ys e (omega (arith, low)) in omega (arith, n))

drop_has : (d : ℕ) (xs : List ℕ) (y : ℕ) → Has (drop d xs) y → Has xs y
drop_has zero xs y i = i
drop_has (suc d) [] y i = absurd i
drop_has (suc d) (x ∷ xs) y i = inr (drop_has d xs y i)

has_drop : (xs : List ℕ) (n : ℕ) → Has xs n → (d : ℕ) × (rest : List ℕ) × (drop d xs ≡ n ∷ rest) × (d ≤ length xs)
has_drop [] n i = absurd i
has_drop (x ∷ xs) n (inl e) = (zero, xs, ap (λ (z : ℕ). z ∷ xs) e, omega arith)
has_drop (x ∷ xs) n (inr i) = let (d, rest, is, low) = has_drop xs n i in (suc d, rest, is, omega (arith, low))

module _ (plan : Placement) (s : Session) (tasks : Tasks) (h : TablesHold plan s tasks) (m : SessionJob) (in_m : Has s.jobs m) where
  -- so many parents up lives a task
  upward : (d : ℕ) (t : Task) → Has m.progress.job.tasks t → d ≤ length t.parents → (u : Task) × Has m.progress.job.tasks u × (drop d t.parents ≡ u.parents)
  upward zero t i low = (t, i, refl)
  upward (suc d) t i low = ⊎_elim
      (λ (e : t.parents ≡ []). absurd (let z : ⊥ = omega (arith, low, ap (λ (ps : List ℕ). length ps) e) in z))
      (λ (p : Parent plan s tasks h m in_m t).
      (let r = upward d p.task p.live (omega (arith, low, ap (λ (ps : List ℕ). length ps) p.line)) in
      (r.0, r.1, ap (drop (suc d)) p.line ∙ r.2)))
      (parent_of plan s tasks h m in_m t i t.parents refl)

  pub all_under : HeadOf plan m 255 0 (λ (t : Task). true)
  all_under = record {
    depth = λ t d i u.
        (let (v, iv, line) = upward d t i u.within in
        ⊎_elim
        (λ (e : v.parents ≡ []). (refl, (let l = drop_length d t.parents [] (line ∙ e) u.within in omega (arith, l))))
        (λ (p : Parent plan s tasks h m in_m v).
        (let small = slot_small plan s tasks h m in_m p.task p.live in
        let is = sym u.is ∙ ap (parent_slot plan m.constants.number) (line ∙ p.line) in
        absurd (let z : ⊥ = omega (arith, is, small) in z)))
        (parent_of plan s tasks h m in_m v iv v.parents refl));
    under = λ t i e. (length t.parents, record { within = omega arith; is = ap (parent_slot plan m.constants.number) (drop_all t.parents) });
  }

  -- a slot tells the task
  pub one_task : (t u : Task) → Has m.progress.job.tasks t → Has m.progress.job.tasks u → t.number ≡ u.number → t ≡ u
  one_task t u it iu e = falls_same number m.progress.job.next_task m.progress.job.tasks t u (order plan s tasks h m in_m).numbers it iu e

  slot_tells : (t u : Task) → Has m.progress.job.tasks t → Has m.progress.job.tasks u → slot_of plan m.constants.number t.number ≡ slot_of plan m.constants.number u.number → t ≡ u
  slot_tells t u it iu e =
      let a = task_row plan s.jobs m t h.fits in_m it in
      let b = task_row plan s.jobs m u h.fits in_m iu in
      let same = h.fits.differ a.row b.row a.among b.among (sym a.slot ∙ e ∙ b.slot) in
      one_task t u it iu (sym a.number ∙ ap (λ (r : Rattle.b67_layout.specs.Placement.Slotted). r.task) same ∙ b.number)

  pub task_under : (head : Task) → Has m.progress.job.tasks head → HeadOf plan m (slot_of plan m.constants.number head.number) (suc (length head.parents)) (λ (t : Task). among t.parents head.number)
  task_under head in_head = record {
    depth = λ t d i u.
        (let (v, iv, line) = upward d t i u.within in
        ⊎_elim
        (λ (e : v.parents ≡ []).
        (let small = slot_small plan s tasks h m in_m head in_head in
        let is = sym u.is ∙ ap (parent_slot plan m.constants.number) (line ∙ e) in
        absurd (let z : ⊥ = omega (arith, is, small) in z)))
        (λ (p : Parent plan s tasks h m in_m v).
        (let same : p.task ≡ head = slot_tells p.task head p.live in_head (sym (ap (parent_slot plan m.constants.number) (line ∙ p.line)) ∙ u.is) in
        let at : drop d t.parents ≡ head.number ∷ head.parents = subst (λ (w : Task). drop d t.parents ≡ w.number ∷ w.parents) same (line ∙ p.line) in
        let l = drop_length d t.parents (head.number ∷ head.parents) at u.within in (
          any_some (λ (n : ℕ). n == head.number) t.parents head.number (drop_has d t.parents head.number (subst (λ (ns : List ℕ). Has ns head.number) (sym at) (inl refl))) (eq-eqb head.number head.number refl),
          omega (arith, l),
        )))
        (parent_of plan s tasks h m in_m v iv v.parents refl));
    under = λ t i e.
        (let (n, in_n, is) = any_has (λ (k : ℕ). k == head.number) t.parents e in
        let (d, rest, at, low) = has_drop t.parents n in_n in
        (d, record { within = low; is = ap (parent_slot plan m.constants.number) at ∙ ap (slot_of plan m.constants.number) (eqb-true n head.number is) }));
  }

  module _ (head over : ℕ) (below : Task → Bool) (o : HeadOf plan m head over below) where
    -- an item is that of its task
    item_is : (upto : ℕ) (list : List Deep) → AreUnder plan s m head tasks.rows.items upto list → (d : Deep) → Has list d → (t : Task) × Has m.progress.job.tasks t × (below t ≡ true) × (deep_of over t ≡ d) × (over ≤ length t.parents)
    item_is upto list u d i = grind arith

    numbers_differ : (list : List Deep) → AreSorted list → ((d : Deep) → Has list d → (t : Task) × Has m.progress.job.tasks t × (deep_of over t ≡ d)) → Differ (map (λ (d : Deep). d.number) list)
    numbers_differ [] s each = tt
    numbers_differ (d ∷ more) s each = (
      λ i. (let b = has_map_back (λ (e : Deep). e.number) more d.number i in
          let (t, it, dt) = each d (inl refl) in
          let (u, iu, du) = each b.item (inr b.among) in
          let same : t ≡ u = one_task t u it iu (ap (λ (z : Deep). z.number) dt ∙ sym b.is ∙ ap (λ (z : Deep). z.number) (sym du)) in
          before_self d (subst (EndsBefore d) (sym du ∙ ap (deep_of over) (sym same) ∙ dt) (s.0 b.item b.among))),
      numbers_differ more s.1 (λ e i. each e (inr i)),
    )

    -- there is room for one task that isn't among them
    pub room_for : (upto : ℕ) (list : List Deep) → AreUnder plan s m head tasks.rows.items upto list → (t : Task) → Has m.progress.job.tasks t → (Has (map (λ (d : Deep). d.number) list) t.number → ⊥) → length list < 15
    room_for upto list u t it new =
        let differ = numbers_differ list u.sorted (λ d i. let (v, iv, b, e, q) = item_is upto list u d i in (v, iv, e)) in
        let few = not_more (t.number ∷ map (λ (d : Deep). d.number) list) (map number m.progress.job.tasks) (new, differ)
        (λ n i. ⊎_elim
        (λ (e : t.number ≡ n). subst (Has (map number m.progress.job.tasks)) e (has_map number m.progress.job.tasks t it))
        (λ (k : Has (map (λ (d : Deep). d.number) list) n).
        (let b = has_map_back (λ (d : Deep). d.number) list n k in
        let (v, iv, w, e, q) = item_is upto list u b.item b.among in
        subst (Has (map number m.progress.job.tasks)) (ap (λ (z : Deep). z.number) e ∙ b.is) (has_map number m.progress.job.tasks v iv)))
        i) in
        omega (arith, few, length-map list (λ (d : Deep). d.number), length-map m.progress.job.tasks number, (order plan s tasks h m in_m).few)

    pub under_none : AreUnder plan s m head tasks.rows.items 0 []
    under_none = record { sorted = tt; each = λ d i. absurd i; all = λ i t d low. absurd (omega (arith, low)) }

    pub under_skip : (upto : ℕ) (list : List Deep) → AreUnder plan s m head tasks.rows.items upto list → ((t : Task) (d : ℕ) → IsRowOf plan s tasks.rows.items upto m t → IsUnderHead plan m.constants.number head t.parents d → ⊥) → AreUnder plan s m head tasks.rows.items (upto + 1) list
    under_skip upto list u never = record {
      sorted = u.sorted;
      each = λ d i. (let (k, t, low, row, n, under) = u.each d i in (k, t, omega (arith, low), row, n, under));
      all = λ i t d low row under. elim (cases_lt i upto) [
        | inl less ↦ u.all i t d less row under
        | inr more ↦ absurd (never t d (subst (λ (k : ℕ). IsRowOf plan s tasks.rows.items k m t) (let e : i ≡ upto = omega (arith, more, low) in e) row) under)
      ];
    }

    module _ (upto : ℕ) (list : List Deep) (u : AreUnder plan s m head tasks.rows.items upto list) (t : Task) (row : IsRowOf plan s tasks.rows.items upto m t) (d : ℕ) (under : IsUnderHead plan m.constants.number head t.parents d) where
      abbrev pub item : Deep
      item = record { number = t.number; depth = d }

      -- the task of this row isn't among those before
      pub new_number : Has (map (λ (e : Deep). e.number) list) t.number → ⊥
      new_number i =
          let b = has_map_back (λ (e : Deep). e.number) list t.number i in
          let (k, v, low, other, n, w) = u.each b.item b.among in
          let same : v.number ≡ t.number = sym n ∙ b.is in
          let e = differ_places tasks.rows.items k upto other.row row.row differ other.there row.there (other.shows.slot ∙ ap (slot_of plan m.constants.number) same ∙ sym row.shows.slot) in
          omega (arith, low, e)
        where
          differ : Differ (map (λ (r : TaskRow). r.slot) tasks.rows.items)
          differ = subst Differ (map-map (λ (r : rows.TaskRow). r.slot) Rattle.b67_task.specs.Tables.task_row tasks.rows.items) h.shows.once

      pub item_new : (e : Deep) → Has list e → e ≢ record { number = t.number; depth = d }
      item_new e i same = new_number (subst (Has (map (λ (z : Deep). z.number) list)) (ap (λ (z : Deep). z.number) same) (has_map (λ (z : Deep). z.number) list e i))

      pub item_room : length list < 15
      item_room = room_for upto list u t row.task new_number

      pub under_put : (n : ℕ) → ((i : ℕ) (e : Deep) → i < n → slice_get list i ≡ Some e → EndsBefore e (record { number = t.number; depth = d })) → ((i : ℕ) (e : Deep) → n ≤ i → slice_get list i ≡ Some e → EndsBefore (record { number = t.number; depth = d }) e)
          → AreUnder plan s m head tasks.rows.items (upto + 1) (take n list ++ record { number = t.number; depth = d } ∷ drop n list)
      under_put n before behind = record {
        sorted = sorted_put list n item u.sorted before behind;
        each = λ e i. ⊎_elim
            (λ (l : Has (take n list) e). old e (has_append_left (take n list) (drop n list) e l))
            (λ (r : Has (item ∷ drop n list) e). ⊎_elim
            (λ (same : item ≡ e). (upto, t, omega arith, row, ap (λ (z : Deep). z.number) (sym same), subst (λ (z : Deep). IsUnderHead plan m.constants.number head t.parents z.depth) same under))
            (λ (k : Has (drop n list) e). old e (has_append_right (take n list) (drop n list) e k))
            r)
            (has_append_cases (take n list) (item ∷ drop n list) e i);
        all = λ i v q low other w. elim (cases_lt i upto) [
          | inl less ↦ (let (e, ie, en, ed) = u.all i v q less other w in (e, new e ie, en, ed))
          | inr more ↦
              (let at : i ≡ upto = omega (arith, more, low) in
              let same_row : other.row ≡ row.row = same_Some other.row row.row (sym other.there ∙ ap (slice_get tasks.rows.items) at ∙ row.there) in
              let same : t ≡ v = one_task t v row.task other.task (sym row.shows.number ∙ ap (λ (z : TaskRow). z.number) (sym same_row) ∙ other.shows.number) in
              let deep : d ≡ q = (let a = (o.depth t d row.task under).1 in let b = (o.depth v q other.task w).1 in omega (arith, a, b, ap (λ (z : Task). length z.parents) same)) in
              (item, has_append_right (take n list) (item ∷ drop n list) item (inl refl), ap number same, deep))
        ];
      } where
        whole : (e : Deep) → Has (take n list ++ drop n list) e → Has list e
        whole e i = subst (λ (zs : List Deep). Has zs e) (take-append-drop n list) i

        old : (e : Deep) → Has (take n list ++ drop n list) e → (i : ℕ) × (v : Task) × (i < upto + 1) × IsRowOf plan s tasks.rows.items i m v × (e.number ≡ v.number) × IsUnderHead plan m.constants.number head v.parents e.depth
        old e i = let (k, v, low, other, n, w) = u.each e (whole e i) in (k, v, omega (arith, low), other, n, w)

        new : (e : Deep) → Has list e → Has (take n list ++ item ∷ drop n list) e
        new e i = ⊎_elim
            (λ (l : Has (take n list) e). has_append_left (take n list) (item ∷ drop n list) e l)
            (λ (r : Has (drop n list) e). has_append_right (take n list) (item ∷ drop n list) e (inr r))
            (has_append_cases (take n list) (drop n list) e (subst (λ (zs : List Deep). Has zs e) (sym (take-append-drop n list)) i))

    -- all rows together give the model's list
    pub family_is : (list : List Deep) → AreUnder plan s m head tasks.rows.items (length tasks.rows.items) list → list ≡ map (deep_of over) (deepest 15 (filter below m.progress.job.tasks))
    family_is list u = sorted_one list (map (deep_of over) (deepest 15 mine)) u.sorted
        (deepest_sorted over 15 m.progress.job.next_task mine (Rattle.b67_lemmas.proofs.Members.falls_filter number below m.progress.job.next_task m.progress.job.tasks (order plan s tasks h m in_m).numbers) high)
        (λ d i. (let (t, it, b, e, q) = item_is (length tasks.rows.items) list u d i in
        subst (Has (map (deep_of over) (deepest 15 mine))) e (has_map (deep_of over) (deepest 15 mine) t (deepest_has 15 mine t (has_filter_in below m.progress.job.tasks t it b) (depth_low (IsSegment m.constants) m.constants m.progress.job (order plan s tasks h m in_m) t it)))))
        (λ d i.
        (let b = has_map_back (deep_of over) (deepest 15 mine) d i in
        let k = has_filter below m.progress.job.tasks b.item (deepest_back 15 mine b.item b.among).0 in
        let (q, under) = o.under b.item k.0 k.1 in
        let (r, in_r, shows) = Rattle.b67_task.proofs.Depths.row_of plan s tasks h m in_m b.item k.0 in
        let (at, there) = Rattle.b67_lemmas.proofs.Places.has_at tasks.rows.items r in_r in
        let (e, ie, en, ed) = u.all at b.item q (Rattle.std.proofs.lemmas.Option.slice_get_within tasks.rows.items at r there) (record { row = r; there = there; member = in_m; task = k.0; shows = shows }) under in
        let depth = (o.depth b.item q k.0 under).1 in
        let same : e ≡ d = ap (λ (z : ℕ). record e { number = z }) en ∙ ap (λ (z : ℕ). record { number = b.item.number; depth = z }) (let w : e.depth ≡ length b.item.parents - over = omega (arith, ed, depth) in w) ∙ b.is in
        subst (Has list) same ie))
      where
        mine : List Task
        mine = filter below m.progress.job.tasks

        high : (t : Task) → Has (filter below m.progress.job.tasks) t → over ≤ length t.parents
        high t i = let k = has_filter below m.progress.job.tasks t i in let (q, under) = o.under t k.0 k.1 in let e = (o.depth t q k.0 under).1 in omega (arith, e)
