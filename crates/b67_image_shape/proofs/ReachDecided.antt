-- Whether what live tasks name is in their reach.
use Rattle.std.proofs.Common.{◌≡◌, ℕ, zero, suc, ◌+◌, ◌-◌, ◌^◌, ◌<◌, ◌≤◌, ◌==◌, Bool, true, false, List, [], ◌∷◌, ◌++◌, map, length, Option, Some, None, refl, sym, ◌∙◌, ap, subst, arith, inl, inr}
use Rattle.std.specs.Prelude.{◌&&◌, nat_lt, if◌then◌else◌}
use Rattle.std.specs.List.{slice_get, list_all}
use Rattle.std.proofs.lemmas.List.{map-append, length-map}
use Rattle.std.proofs.lemmas.Bool.{eq-eqb}
use Rattle.std.proofs.lemmas.Option.{same_Some}
use Rattle.b67_lemmas.specs.Lists.{Has, Falls}
use Rattle.b67_lemmas.proofs.Members.{keyed_has, has_append_left, has_map, has_map_back, has_filter_in, falls_more, falls_short}
use Rattle.b67_model.specs.Common.{Task, Known, IsEntered, BirthInOrder, ConditionInOrder, identities, known_numbers, reach_of, frames_of_task}
use Rattle.b67_model.specs.Keyed.{keyed}
use Rattle.b67_stack.specs.Common as stack
use Rattle.b67_stack.specs.Common.{Head, Activation, StackPlace, stack_words}
use Rattle.b67_layout.specs.Common.{RowState, IsReady, AwaitsTask, WaitsAtCell, TaskRow, JobRow, address_of, base_spot, slot_of, spot_in, spots, critical_disp}
use Rattle.b67_layout.specs.Rows as rows
use Rattle.b67_layout_shown.specs.Places.{named}
use Rattle.b67_layout_shown.specs.Seen.{Seen, seen_in, from_disp, base_seen, seen_from, seen_by, known_seen, ReachIsSeen}
use Rattle.b67_layout_shown.specs.Shown.{Sight, standing_of, frames_of, frame_seen, array_homed, place_seen, condition_in, critical_by, parents_by, sorted, insert_row, rows_of, stack_of_row, task_in, job_seen, placed}
use Rattle.b67_image_shape.specs.Deciding.{Decides}
use Rattle.b67_image_shape.specs.TableFacts.{row_in_slot, rows_in, BornBy, JobFacts, TableFacts}
use Rattle.b67_image_shape.specs.FixedWords.{FixedFacts}
use Rattle.b67_image_shape.specs.Held.{location_in}
use Rattle.b67_image_shape.specs.Items.{base_at, EachTask, ReachFacts}
use Rattle.b67_image_shape.specs.NearStacks.{NearStacks}
use Rattle.b67_image_shape.specs.Reaching.{marked_at, is_kept, reached_at, waits_within, row_reaches, reaches, ReachesAreDecided}
use Rattle.b67_image_shape.proofs.Deciding.{both, like, yes, less}
use Rattle.b67_layout_shown.proofs.Sorted.{sorted_there}
use Rattle.b67_image_shape.proofs.Rows.{of_row, row_fact, each_at, map_numbers, numbers_fall, slot_is}
use Rattle.b67_image_shape.proofs.EachTask.{each_task, task_at}
use Rattle.b67_image_shape.proofs.Sources.{number_some}
use Rattle.b67_image_shape.proofs.NamesBack.{falls_join}
use Rattle.b67_image_shape.proofs.Spots.{job_low, found_task, parent_job, rows_sound, in_slot, dictionary_name, mcp_name, short, spots_in, from_words, seen_is_spot, one_row}
use Rattle.b67_image_shape.proofs.MarksSeen.{is_entered_head, MarkAt, seen_stack}
use Rattle.b67_image_shape.proofs.ReachSeen.{SeesAt, mark_told, reached_told, place_back}

-- ---- lists

-- each item passes exactly if each is as it should be
each_in : {A : Type 0} (test : A → Bool) (P : A → Type 0) (xs : List A) → ((x : A) → Has xs x → Decides (test x) (P x)) → Decides (list_all test xs) ((x : A) → Has xs x → P x)
each_in test P [] d = yes (λ x h. absurd h)
each_in {A} test P (x ∷ xs) d = grind (arith, like, both, each_in test P xs)

insert_long : (r : TaskRow) (xs : List TaskRow) → length (insert_row r xs) ≡ suc (length xs)
insert_long r [] = refl
insert_long r (q ∷ more) = grind (arith, insert_long r more)

sorted_long : (xs : List TaskRow) → length (sorted xs) ≡ length xs
sorted_long [] = refl
sorted_long (r ∷ more) = insert_long r (sorted more) ∙ ap suc (sorted_long more)

-- parents of whom fewer than n are found are all found
parents_stop : (tasks : List TaskRow) (n : ℕ) (o : Option TaskRow) → length (parents_by tasks n o) < n → parents_by tasks (suc n) o ≡ parents_by tasks n o
parents_stop tasks zero o h = absurd (omega (arith, h))
parents_stop tasks (suc n) None h = refl
parents_stop tasks (suc n) (Some r) h = ap (λ ns. r.number ∷ ns) (parents_stop tasks n (row_in_slot tasks r.parent) (omega (arith, h)))

-- ---- heads

standing_entered : (frame : StackPlace → ℕ) (h : Head) → is_entered_head h ≡ true → IsEntered (standing_of frame h)
standing_entered frame h e = grind arith

entered_standing : (frame : StackPlace → ℕ) (h : Head) → IsEntered (standing_of frame h) → is_entered_head h ≡ true
entered_standing frame h e = grind arith

-- ---- frames by their marks

frame_of : (slot number : ℕ) (frame : StackPlace → ℕ) (array : ℕ → ℕ) (acts : List Activation) (x : Seen) → Has (seen_in slot acts) x → Has (identities (frames_of number frame array acts)) (named number x.0.disp)
frame_of slot number frame array [] x h = absurd h
frame_of slot number frame array (a ∷ below) x (inl e) = inl (ap (λ (y : Seen). named number y.0.disp) e)
frame_of slot number frame array (a ∷ below) x (inr h) = inr (frame_of slot number frame array below x h)

mark_of : (slot number : ℕ) (frame : StackPlace → ℕ) (array : ℕ → ℕ) (acts : List Activation) (i : ℕ) → Has (identities (frames_of number frame array acts)) i → (x : Seen) × Has (seen_in slot acts) x × (named number x.0.disp ≡ i)
mark_of slot number frame array [] i h = absurd h
mark_of slot number frame array (a ∷ below) i (inl e) = ((record { stack = slot; disp = stack_words below + 1 }, a.head), inl refl, e)
mark_of slot number frame array (a ∷ below) i (inr h) = let (x, there, e) = mark_of slot number frame array below i h in (x, inr there, e)

named_same : (number c d : ℕ) → named number c ≡ named number d → c ≡ d
named_same number c d e = omega (arith, e)

module _ (seen : ReachIsSeen) (k : Sight) (low size : ℕ) (facts : TableFacts k) (fixed : FixedFacts k low size) (near : NearStacks k) where
  abbrev held : stack.Locations
  held = location_in k.core

  live_parent : (q : TaskRow) (p : TaskRow) → row_in_slot k.tasks q.parent ≡ Some p → Has k.tasks p
  live_parent q p e = (keyed_has (λ (z : TaskRow). z.slot) q.parent k.tasks p e).0

  module _ (r : TaskRow) (h : Has k.tasks r) (row : JobRow) (found : slice_get k.jobs (r.job - 1) ≡ Some row) where
    few : r.job < 9
    few = job_low (location_in k.core) k facts near fixed.stack_high r h

    reach_is : reach_of (job_seen k row r.job) (task_in k row r.job r) ≡ map (known_seen k r.job) (seen_by k r)
    reach_is = seen k row r.job (rows_sound (location_in k.core) k facts near fixed.stack_high row r.job found few) r h refl

    spot_is : (x : Seen) → Has (seen_by k r) x → spots (placed k) r.job (job_seen k row r.job) (task_in k row r.job r) (frame_seen k.tasks r.job x.0) ≡ x.0
    spot_is x there = subst (λ (w : JobRow). spots (placed k) r.job (job_seen k w r.job) (task_in k w r.job r) (frame_seen k.tasks r.job x.0) ≡ x.0) (one_row (location_in k.core) k facts near fixed.stack_high row r.job found r h refl)
        (seen_is_spot (location_in k.core) k facts near fixed.stack_high r h x there)

    -- ---- where it waits

    abbrev name_at : ℕ → ℕ
    name_at mark = frame_seen k.tasks r.job (place_seen k.regs row r.job mark)

    abbrev Waits : RowState → Type 0
    Waits s = ConditionInOrder (reach_of (job_seen k row r.job) (task_in k row r.job r)) (condition_in name_at s) × (s ≡ rows.shown (placed k) r.job (job_seen k row r.job) (task_in k row r.job r) (condition_in name_at s))

    abbrev spot_at : ℕ → StackPlace
    spot_at i = spots (placed k) r.job (job_seen k row r.job) (task_in k row r.job r) i

    abbrev mark_in : RowState → ℕ
    mark_in IsReady = 0
    mark_in (AwaitsTask n) = 0
    mark_in (WaitsAtCell mark offset) = mark

    waits_told : (s : RowState) → Decides (waits_within k r s) (Waits s)
    waits_told IsReady = yes (tt, refl)
    waits_told (AwaitsTask n) = yes (tt, refl)
    waits_told (WaitsAtCell mark offset) = like (nat_lt offset (2 ^ 12) && reached_at k r mark) to from (both (nat_lt offset (2 ^ 12)) (reached_at k r mark) (less offset (2 ^ 12)) (reached_told k low size facts fixed near r row h found few mark)) where
      to : (offset < 2 ^ 12) × SeesAt k (seen_by k r) mark → Waits (WaitsAtCell mark offset)
      to (lo, (x, hx, (en, a))) =
          let place = ap (place_seen k.regs row r.job) (sym a) ∙ place_back k low size facts fixed near r row h found few x hx in
          let name = ap (frame_seen k.tasks r.job) place in
          let among = subst (λ n. Has (map (known_seen k r.job) (seen_by k r)) (n, standing_of (frame_seen k.tasks r.job) x.1)) (sym name) (has_map (known_seen k r.job) (seen_by k r) x hx) in (
            (record { standing = standing_of (frame_seen k.tasks r.job) x.1; among = subst (λ (xs : List Known). Has xs (name_at mark, standing_of (frame_seen k.tasks r.job) x.1)) (sym reach_is) among; entered = standing_entered (frame_seen k.tasks r.job) x.1 en }, lo),
            ap (λ n. WaitsAtCell n offset) (sym (ap (λ n. address_of (placed k) (spot_at n)) name ∙ ap (address_of (placed k)) (spot_is x hx) ∙ a)),
          )

      from : Waits (WaitsAtCell mark offset) → (offset < 2 ^ 12) × SeesAt k (seen_by k r) mark
      from ((ne, lo), e) =
          let b = has_map_back (known_seen k r.job) (seen_by k r) (name_at mark, ne.standing) (subst (λ (xs : List Known). Has xs (name_at mark, ne.standing)) reach_is ne.among) in
          let name : frame_seen k.tasks r.job b.item.0 ≡ name_at mark = ap (λ (q : Known). q.0) b.is in
          let stands : standing_of (frame_seen k.tasks r.job) b.item.1 ≡ ne.standing = ap (λ (q : Known). q.1) b.is in
          let here : mark ≡ address_of (placed k) (spot_at (name_at mark)) = ap mark_in e in
          (lo, (b.item, b.among, (entered_standing (frame_seen k.tasks r.job) b.item.1 (subst IsEntered (sym stands) ne.entered), sym (here ∙ ap (λ n. address_of (placed k) (spot_at n)) (sym name) ∙ ap (address_of (placed k)) (spot_is b.item b.among)))))

    -- ---- its birth

    abbrev numbers : List ℕ
    numbers = map (λ (u : Task). u.number) (job_seen k row r.job).tasks

    numbers_few : length numbers ≤ 15
    numbers_few = grind (arith, row_fact, each_at, map_numbers, length-map, sorted_long)

    number_in : (q : TaskRow) → Has k.tasks q → q.job ≡ r.job → Has numbers q.number
    number_in q hq e = subst (λ ns. Has ns q.number) (sym (map_numbers k row r.job (rows_of k.tasks r.job)))
        (has_map (λ (z : TaskRow). z.number) (rows_of k.tasks r.job) q (sorted_there (rows_in k.tasks r.job) q (has_filter_in (λ (z : TaskRow). z.job == r.job) k.tasks q hq (eq-eqb q.job r.job e))))

    abbrev Older : ℕ → Option TaskRow → Type 0
    Older bound o = (p : TaskRow) → o ≡ Some p → Has k.tasks p × (p.job ≡ r.job) × (p.number < bound)

    older_than : (q : TaskRow) → Has k.tasks q → q.job ≡ r.job → Older q.number (row_in_slot k.tasks q.parent)
    older_than q hq e p is = let b = parent_job (location_in k.core) k facts near fixed.stack_high q p hq is in (live_parent q p is, b.0 ∙ e, b.1)

    line_falls : (n bound : ℕ) (o : Option TaskRow) → Older bound o → Falls bound (parents_by k.tasks n o) × ((m : ℕ) → Has (parents_by k.tasks n o) m → Has numbers m)
    line_falls zero bound o old = (tt, λ m z. absurd z)
    line_falls (suc n) bound None old = (tt, λ m z. absurd z)
    line_falls (suc n) bound (Some p) old =
        let (hp, job, under) = old p refl in
        let rest = line_falls n p.number (row_in_slot k.tasks p.parent) (older_than p hp job) in
        ((under, rest.0), among hp job rest.1) where
          among : Has k.tasks p → p.job ≡ r.job → ((m : ℕ) → Has (parents_by k.tasks n (row_in_slot k.tasks p.parent)) m → Has numbers m) → (m : ℕ) → Has (p.number ∷ parents_by k.tasks n (row_in_slot k.tasks p.parent)) m → Has numbers m
          among hp job rest m (inl e) = subst (Has numbers) e (number_in p hp job)
          among hp job rest m (inr g) = rest m g

    -- a parent's parents are those above it
    line_is : (p : TaskRow) → row_in_slot k.tasks r.parent ≡ Some p → parents_by k.tasks 15 (row_in_slot k.tasks p.parent) ≡ parents_by k.tasks 14 (row_in_slot k.tasks p.parent)
    line_is p e =
        let (hp, job, under) = older_than r h refl p e in
        let rest = line_falls 14 p.number (row_in_slot k.tasks p.parent) (older_than p hp job) in
        let short = falls_short (r.number + 1) (r.number ∷ p.number ∷ parents_by k.tasks 14 (row_in_slot k.tasks p.parent)) row.next_task numbers (omega arith, (under, rest.0)) (numbers_fall k facts r.job row found) (among hp job rest.1) in
        let few = numbers_few in
        parents_stop k.tasks 14 (row_in_slot k.tasks p.parent) (omega (arith, short, few)) where
          among : Has k.tasks p → p.job ≡ r.job → ((m : ℕ) → Has (parents_by k.tasks 14 (row_in_slot k.tasks p.parent)) m → Has numbers m) → (m : ℕ) → Has (r.number ∷ p.number ∷ parents_by k.tasks 14 (row_in_slot k.tasks p.parent)) m → Has numbers m
          among hp job rest m (inl e) = subst (Has numbers) e (number_in r h refl)
          among hp job rest m (inr (inl e)) = subst (Has numbers) e (number_in p hp job)
          among hp job rest m (inr (inr g)) = rest m g

    abbrev Born : Option TaskRow → Type 0
    Born o = BirthInOrder (job_seen k row r.job) (task_in k row r.job r) (parents_by k.tasks 15 o) × (r.critical ≡ critical_disp (placed k) r.job (job_seen k row r.job) (critical_by k.tasks r.critical o) (parents_by k.tasks 15 o))

    born_told : (o : Option TaskRow) → row_in_slot k.tasks r.parent ≡ o → BornBy r o → Decides (is_kept k r o) (Born o)
    born_told None e b = yes ((b.0, ap (critical_by k.tasks r.critical) e), b.1.1)
    born_told (Some p) e b = like (marked_at k p (base_at k p + r.critical)) to from (mark_told k low size facts fixed near p (live_parent r p e) (base_at k p + r.critical)) where
      hp : Has k.tasks p
      hp = live_parent r p e

      there : keyed (λ (u : Task). u.number) p.number (job_seen k row r.job).tasks ≡ Some (task_in k row r.job p)
      there = found_task (location_in k.core) k facts near fixed.stack_high row r.job found p (live_parent r p e) b.0

      critical_is : (task_in k row r.job r).critical ≡ named p.number r.critical
      critical_is = ap (critical_by k.tasks r.critical) e

      slot : slot_of (placed k) r.job p.number ≡ p.slot
      slot = ap (λ i. slot_of (placed k) i p.number) (sym b.0) ∙ slot_is k facts p (live_parent r p e)

      disp_is : (x : Seen) → Has (seen_in p.slot (stack_of_row k p)) x → x.0.disp ≡ r.critical → r.critical ≡ critical_disp (placed k) r.job (job_seen k row r.job) (named p.number r.critical) (p.number ∷ parents_by k.tasks 14 (row_in_slot k.tasks p.parent))
      disp_is x hx is =
          let place : x.0 ≡ record { stack = p.slot; disp = r.critical } = ap (λ n. record { stack = n; disp = x.0.disp }) (seen_stack p.slot (stack_of_row k p) x hx) ∙ ap (λ n. record { stack = p.slot; disp = n }) is in
          let name = ap (frame_seen k.tasks r.job) place ∙ in_slot (location_in k.core) k facts near fixed.stack_high r.job p (live_parent r p e) r.critical in
          sym (ap (λ (o : Option Task). (spot_in (slot_of (placed k) r.job p.number) (base_spot r.job) (frames_of_task o) (named p.number r.critical)).disp) there
          ∙ ap (λ n. (spot_in n (base_spot r.job) (task_in k row r.job p).frames (named p.number r.critical)).disp) slot
          ∙ ap (λ n. (spot_in p.slot (base_spot r.job) (task_in k row r.job p).frames n).disp) (sym name)
          ∙ ap (λ (q : StackPlace). q.disp) (spots_in (location_in k.core) k facts near fixed.stack_high r.job p (live_parent r p e) (array_homed k.regs k.tasks row) (base_spot r.job) [] (λ s z. absurd z) (stack_of_row k p) x (has_append_left (seen_in p.slot (stack_of_row k p)) [] x hx))
          ∙ is)

      to : MarkAt (base_at k p) (seen_in p.slot (stack_of_row k p)) (base_at k p + r.critical) → Born (Some p)
      to (x, hx, at) =
          let is : x.0.disp ≡ r.critical = omega (arith, at) in (
            record {
              parent = task_in k row r.job p;
              found = there;
              line = line_is p e;
              older = b.1;
              is_critical = subst (Has (identities (task_in k row r.job p).frames)) (ap (named p.number) is ∙ sym critical_is) (frame_of p.slot p.number (frame_seen k.tasks r.job) (array_homed k.regs k.tasks row) (stack_of_row k p) x hx);
            },
            disp_is x hx is,
          )

      from : Born (Some p) → MarkAt (base_at k p) (seen_in p.slot (stack_of_row k p)) (base_at k p + r.critical)
      from (born, c) =
          let same : born.parent ≡ task_in k row r.job p = same_Some born.parent (task_in k row r.job p) (sym born.found ∙ there) in
          let has = subst (λ (u : Task). Has (identities u.frames) (named p.number r.critical)) same (subst (Has (identities born.parent.frames)) critical_is born.is_critical) in
          let (x, hx, is) = mark_of p.slot p.number (frame_seen k.tasks r.job) (array_homed k.regs k.tasks row) (stack_of_row k p) (named p.number r.critical) has in
          (x, hx, ap (λ d. base_at k p + d) (named_same p.number x.0.disp r.critical is))

    -- ---- its reach falls

    abbrev name_of : Seen → ℕ
    name_of x = frame_seen k.tasks r.job x.0

    -- in one stack
    stack_falls : (p : TaskRow) → Has k.tasks p → (acts : List Activation) → Falls (named p.number (stack_words acts + 1)) (map name_of (seen_in p.slot acts))
    stack_falls p hp [] = tt
    stack_falls p hp (a ∷ below) = grind (arith, in_slot, stack_falls p hp below)

    stack_above : (p : TaskRow) → Has k.tasks p → (acts : List Activation) (n : ℕ) → Has (map name_of (seen_in p.slot acts)) n → named p.number 0 ≤ n
    stack_above p hp acts n there =
        let b = has_map_back name_of (seen_in p.slot acts) n there in
        grind (arith, seen_stack, in_slot)

    base_falls : (bound : ℕ) → 1 ≤ bound → Falls (named bound 0) (map name_of (base_seen r.job))
    base_falls bound some = grind (arith, dictionary_name, mcp_name, few)

    joined_falls : (p : TaskRow) → Has k.tasks p → (acts : List Activation) (rest : List Seen) (bound : ℕ) → stack_words acts < 2 ^ 14 → p.number < bound → Falls (named p.number 0) (map name_of rest) → Falls (named bound 0) (map name_of (seen_in p.slot acts ++ rest))
    joined_falls p hp acts rest bound small under f =
        subst (Falls (named bound 0)) (sym (map-append name_of (seen_in p.slot acts) rest))
        (falls_join (named bound 0) (named p.number 0) (map name_of (seen_in p.slot acts)) (map name_of rest) (omega (arith, under))
        (falls_more (named p.number (stack_words acts + 1)) (named bound 0) (map name_of (seen_in p.slot acts)) (omega (arith, small, under)) (stack_falls p hp acts)) (stack_above p hp acts) f)

    cut_words : (disp : ℕ) (acts : List Activation) → stack_words (from_disp disp acts) ≤ stack_words acts
    cut_words disp acts = from_words (location_in k.core) k facts near fixed.stack_high disp acts

    outside_falls : (n disp bound : ℕ) (o : Option TaskRow) → 1 ≤ bound → Older bound o → Falls (named bound 0) (map name_of (seen_from k r.job n disp o))
    outside_falls zero disp bound o some old = base_falls bound some
    outside_falls (suc n) disp bound None some old = base_falls bound some
    outside_falls (suc n) disp bound (Some p) some old =
        let (hp, job, under) = old p refl in
        let words = cut_words disp (stack_of_row k p) in
        let small = short (location_in k.core) k facts near fixed.stack_high p hp in
        joined_falls p hp (from_disp disp (stack_of_row k p)) (seen_from k r.job n p.critical (row_in_slot k.tasks p.parent)) bound (omega (arith, words, small)) under
        (outside_falls n p.critical p.number (row_in_slot k.tasks p.parent) (number_some k facts p hp) (older_than p hp job))

    falls_told : Falls (job_seen k row r.job).next_frame (known_numbers (reach_of (job_seen k row r.job) (task_in k row r.job r)))
    falls_told =
        let small = short (location_in k.core) k facts near fixed.stack_high r h in
        let o = of_row k facts r h in
        let same = one_row (location_in k.core) k facts near fixed.stack_high row r.job found r h refl in
        let born : r.number < row.next_task = subst (λ (w : JobRow). r.number < w.next_task) same o.told.0 in
        subst (Falls (named (row.next_task + 1) 0)) (sym (ap known_numbers reach_is ∙ names_map (seen_by k r)))
        (joined_falls r h (stack_of_row k r) (seen_from k r.job 15 r.critical (row_in_slot k.tasks r.parent)) (row.next_task + 1) small (omega (arith, born))
        (outside_falls 15 r.critical r.number (row_in_slot k.tasks r.parent) (number_some k facts r h) (older_than r h refl)))
      where
        names_map : (xs : List Seen) → known_numbers (map (known_seen k r.job) xs) ≡ map name_of xs
        names_map [] = refl
        names_map (x ∷ xs) = ap (λ ns. name_of x ∷ ns) (names_map xs)

    row_told : Decides (row_reaches k r) (ReachFacts k row r.job r)
    row_told =
        like (row_reaches k r) to (λ f. ((f.birth, f.critical), (f.condition, f.state)))
        (both (is_kept k r (row_in_slot k.tasks r.parent)) (waits_within k r r.state) (born_told (row_in_slot k.tasks r.parent) refl (row_fact k facts r h).born) (waits_told r.state)) where
          to : Born (row_in_slot k.tasks r.parent) × Waits r.state → ReachFacts k row r.job r
          to ((b, c), (w, s)) = record { falls = falls_told; birth = b; condition = w; state = s; critical = c }

  pub reaches_told : Decides (reaches k) (EachTask k (ReachFacts k))
  reaches_told =
      like (reaches k) (λ f. each_task k facts (ReachFacts k) (λ r h. f r h (of_row k facts r h).row (of_row k facts r h).found)) back
      (each_in (row_reaches k) (λ r. (row : JobRow) → slice_get k.jobs (r.job - 1) ≡ Some row → ReachFacts k row r.job r) k.tasks
      (λ r h. like (row_reaches k r) (λ f row found. (row_told r h row found).0 ((row_told r h (of_row k facts r h).row (of_row k facts r h).found).1 f)) (λ f. f (of_row k facts r h).row (of_row k facts r h).found) (row_told r h (of_row k facts r h).row (of_row k facts r h).found)))
    where
      back : EachTask k (ReachFacts k) → (r : TaskRow) → Has k.tasks r → (row : JobRow) → slice_get k.jobs (r.job - 1) ≡ Some row → ReachFacts k row r.job r
      back each r h row found = subst (λ (w : JobRow). ReachFacts k w r.job r) (one_row (location_in k.core) k facts near fixed.stack_high row r.job found r h refl) (task_at k facts (ReachFacts k) each r h)

pub reaches_decided : ReachIsSeen → ReachesAreDecided
reaches_decided seen k low size facts fixed near = reaches_told seen k low size facts fixed near
