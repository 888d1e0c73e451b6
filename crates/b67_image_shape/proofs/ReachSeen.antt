-- What is seen of a task, by the addresses of its marks.
use Rattle.std.proofs.Common.{◌≡◌, ℕ, zero, suc, ◌+◌, ◌-◌, ◌*◌, ◌/◌, ◌%◌, ◌<◌, ◌≤◌, ◌==◌, Bool, true, false, List, ◌++◌, length, Option, Some, None, refl, sym, ◌∙◌, ap, subst, arith, inl, inr, lt-ltb, le-ltb}
use Rattle.std.specs.Prelude.{◌⊎◌, ◌&&◌, ◌||◌, nat_lt, nat_le, if◌then◌else◌}
use Rattle.std.specs.List.{slice_get}
use Rattle.std.proofs.lemmas.Bool.{eq-eqb, ne_eqb}
use Rattle.std.proofs.lemmas.Bool.Decides.{Decides-or}
use Rattle.std.proofs.Math.Arith.{digits_div, digits_mod}
use Rattle.b67_lemmas.specs.Lists.{Has}
use Rattle.b67_lemmas.proofs.Members.{keyed_has, has_append_left, has_append_right, has_append_cases}
use Rattle.b67_stack.specs.Common.{Entered, Activation}
use Rattle.b67_layout.specs.Common.{address_of, base_of, TaskRow, JobRow}
use Rattle.b67_layout_shown.specs.Reading.{word_seen_at, is_set}
use Rattle.b67_layout_shown.specs.Seen.{Seen, seen_in, from_disp, base_seen, seen_from, seen_by}
use Rattle.b67_layout_shown.specs.Shown.{Sight, stack_of_row, dictionary_from, place_seen, placed, top_in}
use Rattle.b67_image_shape.specs.Deciding.{Decides}
use Rattle.b67_image_shape.specs.TableFacts.{row_in_slot, TableFacts}
use Rattle.b67_image_shape.specs.FixedWords.{FixedFacts}
use Rattle.b67_image_shape.specs.Held.{location_in}
use Rattle.b67_image_shape.specs.Items.{base_at, StackFactsBy}
use Rattle.b67_image_shape.specs.NearStacks.{NearStacks}
use Rattle.b67_image_shape.specs.StackWalk.{walk_test}
use Rattle.b67_image_shape.specs.TaskWalk.{level_in, TaskStands}
use Rattle.b67_image_shape.specs.Reaching.{marked_at, entered_at, kept_at, outside_at, is_dictionary, reached_at}
use Rattle.b67_image_shape.proofs.Deciding.{same_number, at_most, both, like, nothing}
use Rattle.b67_image_shape.proofs.Rows.{of_row, row_fact}
use Rattle.b67_image_shape.proofs.EachTask.{task_at}
use Rattle.b67_image_shape.proofs.Sources.{dictionary_lies}
use Rattle.b67_image_shape.proofs.HoldsBack.{dictionary_at}
use Rattle.b67_image_shape.proofs.Walked.{stands_walk}
use Rattle.b67_image_shape.proofs.TaskWalked.{tasks_stand}
use Rattle.b67_image_shape.proofs.StandTurns.{slot_inside}
use Rattle.b67_image_shape.proofs.MarksSeen.{is_entered_head, MarkAt, mark_seen, entered_seen, seen_stack, seen_low, from_cut, from_in}

-- an entered one of these marks stands at an address
abbrev pub SeesAt : Sight → List Seen → ℕ → Type 0
SeesAt k xs at = (x : Seen) × Has xs x × ((is_entered_head x.1 ≡ true) × (address_of (placed k) x.0 ≡ at))

sees_either : (k : Sight) (at : ℕ) (xs ys : List Seen) → SeesAt k xs at ⊎ SeesAt k ys at → SeesAt k (xs ++ ys) at
sees_either k at xs ys h = grind (arith, has_append_left, has_append_right)

sees_one : (k : Sight) (at : ℕ) (xs ys : List Seen) → SeesAt k (xs ++ ys) at → SeesAt k xs at ⊎ SeesAt k ys at
sees_one k at xs ys (x, h, p) = by (has_append_cases xs ys x h) where
  by : Has xs x ⊎ Has ys x → SeesAt k xs at ⊎ SeesAt k ys at
  by (inl g) = inl (x, g, p)
  by (inr g) = inr (x, g, p)

itself : (b : Bool) → Decides b (b ≡ true)
itself b = (λ e. e, λ e. e)

swap : (a b c : Bool) → (a || (b || c)) ≡ (b || (a || c))
swap a b c = grind arith

four : (a b c d : Bool) → (c || ((a || b) || d)) ≡ (a || (b || (c || d)))
four a b c d = grind arith

module _ (k : Sight) (low size : ℕ) (facts : TableFacts k) (fixed : FixedFacts k low size) (near : NearStacks k) where
  stack_of : (r : TaskRow) (h : Has k.tasks r) → StackFactsBy (location_in k.core) k (of_row k facts r h).row r.job r
  stack_of r h = task_at k facts (StackFactsBy (location_in k.core) k) near r h

  slot_few : (r : TaskRow) → Has k.tasks r → r.slot < 120
  slot_few r h = (let s = (row_fact k facts r h).slot in let p = facts.peak in omega (arith, s, p))

  inside : (r : TaskRow) → Has k.tasks r → base_at k r + k.regs.stack_size ≤ length k.core
  inside r h = slot_inside k.regs.stacks r.slot k.regs.stack_size k.regs.peak low (length k.core) (row_fact k facts r h).slot fixed.begins fixed.inside

  stands : (r : TaskRow) (h : Has k.tasks r) → TaskStands k (of_row k facts r h).row.segments r
  stands r h = (tasks_stand k (of_row k facts r h).row r.job r fixed.stack_high (inside r h)).1 (stack_of r h)

  top_inside : (r : TaskRow) → Has k.tasks r → (top_in k r).s < length k.core
  top_inside r h = (let s = (stands r h).low in let i = inside r h in omega (arith, s, i))

  walks : (r : TaskRow) (h : Has k.tasks r) → walk_test k.core (base_at k r) r.slot (of_row k facts r h).row.segments k.regs.stack_size (level_in k r) (top_in k r).f (top_in k r).s ≡ true
  walks r h =
      let s = (stands r h).low in
      let small = fixed.stack_high in
      stands_walk k.core (base_at k r) r.slot (of_row k facts r h).row.segments k.regs.stack_size (level_in k r) (top_in k r).f (top_in k r).s (omega (arith, s, small)) (stands r h).stands

  -- ---- one stack

  pub mark_told : (r : TaskRow) → Has k.tasks r → (at : ℕ) → Decides (marked_at k r at) (MarkAt (base_at k r) (seen_in r.slot (stack_of_row k r)) at)
  mark_told r h at = mark_seen k.core (base_at k r) r.slot (of_row k facts r h).row.segments k.regs.stack_size (level_in k r) (top_in k r).f (top_in k r).s (top_inside r h) (walks r h) at

  head_told : (r : TaskRow) → Has k.tasks r → (x : Seen) → Has (seen_in r.slot (stack_of_row k r)) x → is_entered_head x.1 ≡ is_set (word_seen_at k.core (base_at k r + x.0.disp)) 46
  head_told r h x there = entered_seen k.core (base_at k r) r.slot (of_row k facts r h).row.segments k.regs.stack_size (level_in k r) (top_in k r).f (top_in k r).s (top_inside r h) (walks r h) x there

  pub address_is : (r : TaskRow) → Has k.tasks r → (acts : List Activation) (x : Seen) → Has (seen_in r.slot acts) x → address_of (placed k) x.0 ≡ base_at k r + x.0.disp
  address_is r h acts x there = grind (arith, seen_stack, lt-ltb, slot_few)

  entered_told : (r : TaskRow) → Has k.tasks r → (at : ℕ) → Decides (entered_at k r at) (SeesAt k (seen_in r.slot (stack_of_row k r)) at)
  entered_told r h at = grind (arith, like, both, itself, mark_told, head_told, address_is)

  kept_told : (p : TaskRow) → Has k.tasks p → (disp at : ℕ) → Decides (kept_at k disp p at) (SeesAt k (seen_in p.slot (from_disp disp (stack_of_row k p))) at)
  kept_told p h disp at =
      like (kept_at k disp p at) to from
      (both (nat_le at (base_at k p + disp)) (marked_at k p (base_at k p + disp) && entered_at k p at) (at_most at (base_at k p + disp))
      (both (marked_at k p (base_at k p + disp)) (entered_at k p at) (mark_told p h (base_at k p + disp)) (entered_told p h at)))
    where
      to : (at ≤ base_at k p + disp) × (MarkAt (base_at k p) (seen_in p.slot (stack_of_row k p)) (base_at k p + disp) × SeesAt k (seen_in p.slot (stack_of_row k p)) at) → SeesAt k (seen_in p.slot (from_disp disp (stack_of_row k p))) at
      to (le, ((y, hy, is), (x, hx, (e, a)))) =
          let here = address_is p h (stack_of_row k p) x hx in
          (x, from_in p.slot disp (stack_of_row k p) x (y, hy, omega (arith, is)) hx (omega (arith, here, a, le)), (e, a))

      from : SeesAt k (seen_in p.slot (from_disp disp (stack_of_row k p))) at → (at ≤ base_at k p + disp) × (MarkAt (base_at k p) (seen_in p.slot (stack_of_row k p)) (base_at k p + disp) × SeesAt k (seen_in p.slot (stack_of_row k p)) at)
      from (x, hx, (e, a)) =
          let ((y, hy, is), there, le) = from_cut p.slot disp (stack_of_row k p) x hx in
          let here = address_is p h (stack_of_row k p) x there in
          (omega (arith, here, a, le), ((y, hy, ap (λ d. base_at k p + d) is), (x, there, (e, a))))

  -- ---- the dictionary and the MCP

  dictionary_is : (j : ℕ) (row : JobRow) → slice_get k.jobs (j - 1) ≡ Some row → 0 < j → j < 9 → address_of (placed k) (record { stack = 127 + j; disp = 0 }) ≡ row.dictionary
  dictionary_is j row found some few =
      let n : 127 + j - 127 ≡ 1 + (j - 1) = omega (arith, some) in
      grind (arith, dictionary_at, le-ltb, lt-ltb)

  base_told : (j : ℕ) (row : JobRow) → slice_get k.jobs (j - 1) ≡ Some row → 0 < j → j < 9 → (at : ℕ) → Decides ((at == 0) || is_dictionary (slice_get k.jobs (j - 1)) at) (SeesAt k (base_seen j) at)
  base_told j row found some few at =
      subst (λ o. Decides ((at == 0) || is_dictionary o at) (SeesAt k (base_seen j) at)) (sym found)
      (like ((at == 0) || (at == row.dictionary)) to from (Decides-or (at == 0) (at == row.dictionary) (same_number at 0) (same_number at row.dictionary)))
    where
      to : (at ≡ 0) ⊎ (at ≡ row.dictionary) → SeesAt k (base_seen j) at
      to (inl z) = ((record { stack = 136; disp = 0 }, Entered 0 (record { stack = 136; disp = 0 }) None), inr (inl refl), (refl, sym z))
      to (inr z) = ((record { stack = 127 + j; disp = 0 }, Entered 1 (record { stack = 136; disp = 0 }) None), inl refl, (refl, dictionary_is j row found some few ∙ sym z))

      from : SeesAt k (base_seen j) at → (at ≡ 0) ⊎ (at ≡ row.dictionary)
      from (x, inl e, (t, a)) = inr (sym a ∙ ap (λ (y : Seen). address_of (placed k) y.0) (sym e) ∙ dictionary_is j row found some few)
      from (x, inr (inl e), (t, a)) = inl (sym a ∙ ap (λ (y : Seen). address_of (placed k) y.0) (sym e))
      from (x, inr (inr h), p) = absurd h

  -- ---- the parents' stacks

  module _ (j at : ℕ) (b : Bool) (d : Decides b (SeesAt k (base_seen j) at)) where
    base_alone : Decides (b || false) (SeesAt k (base_seen j) at)
    base_alone = grind arith

    outside_told : (n disp : ℕ) (o : Option TaskRow) → ((p : TaskRow) → o ≡ Some p → Has k.tasks p) → Decides (b || outside_at k n disp o at) (SeesAt k (seen_from k j n disp o) at)
    outside_told zero disp o live = base_alone
    outside_told (suc n) disp None live = base_alone
    outside_told (suc n) disp (Some p) live =
        subst (λ c. Decides c (SeesAt k (seen_from k j (suc n) disp (Some p)) at)) (swap (kept_at k disp p at) b (outside_at k n p.critical (row_in_slot k.tasks p.parent) at))
        (like (kept_at k disp p at || (b || outside_at k n p.critical (row_in_slot k.tasks p.parent) at))
        (sees_either k at (seen_in p.slot (from_disp disp (stack_of_row k p))) (seen_from k j n p.critical (row_in_slot k.tasks p.parent)))
        (sees_one k at (seen_in p.slot (from_disp disp (stack_of_row k p))) (seen_from k j n p.critical (row_in_slot k.tasks p.parent)))
        (Decides-or (kept_at k disp p at) (b || outside_at k n p.critical (row_in_slot k.tasks p.parent) at) (kept_told p (live p refl) disp at)
        (outside_told n p.critical (row_in_slot k.tasks p.parent) (λ q e. (keyed_has (λ (z : TaskRow). z.slot) p.parent k.tasks q e).0))))

  -- an entered mark of a task's reach stands at an address exactly if it passes
  pub reached_told : (r : TaskRow) (row : JobRow) → Has k.tasks r → slice_get k.jobs (r.job - 1) ≡ Some row → r.job < 9 → (at : ℕ) → Decides (reached_at k r at) (SeesAt k (seen_by k r) at)
  reached_told r row h found few at =
      let mine = entered_at k r at in
      let other = outside_at k 15 r.critical (row_in_slot k.tasks r.parent) at in
      let dict = is_dictionary (slice_get k.jobs (r.job - 1)) at in
      subst (λ c. Decides c (SeesAt k (seen_by k r) at)) (four (at == 0) dict mine other)
      (like (entered_at k r at || (((at == 0) || is_dictionary (slice_get k.jobs (r.job - 1)) at) || outside_at k 15 r.critical (row_in_slot k.tasks r.parent) at))
      (sees_either k at (seen_in r.slot (stack_of_row k r)) (seen_from k r.job 15 r.critical (row_in_slot k.tasks r.parent)))
      (sees_one k at (seen_in r.slot (stack_of_row k r)) (seen_from k r.job 15 r.critical (row_in_slot k.tasks r.parent)))
      (Decides-or (entered_at k r at) (((at == 0) || is_dictionary (slice_get k.jobs (r.job - 1)) at) || outside_at k 15 r.critical (row_in_slot k.tasks r.parent) at) (entered_told r h at)
      (outside_told r.job at ((at == 0) || is_dictionary (slice_get k.jobs (r.job - 1)) at) (base_told r.job row found (row_fact k facts r h).from_one few at) 15 r.critical (row_in_slot k.tasks r.parent) (λ q e. (keyed_has (λ (z : TaskRow). z.slot) r.parent k.tasks q e).0))))

  -- ---- places of addresses

  module _ (row : JobRow) (j : ℕ) (found : slice_get k.jobs (j - 1) ≡ Some row) (some : 0 < j) (few : j < 9) where
    place_own : (p : TaskRow) → Has k.tasks p → (x : Seen) → Has (seen_in p.slot (stack_of_row k p)) x → place_seen k.regs row j (address_of (placed k) x.0) ≡ x.0
    place_own p h x there =
        let e = address_is p h (stack_of_row k p) x there in
        let words = seen_low p.slot (stack_of_row k p) x there in
        let room = (stack_of p h).fits.fits in
        let small : x.0.disp < k.regs.stack_size = omega (arith, words, room) in
        let rest : base_at k p + x.0.disp - k.regs.stacks ≡ p.slot * k.regs.stack_size + x.0.disp = omega arith in
        ap (place_seen k.regs row j) e
        ∙ ap (λ (b : Bool). if b then (if base_at k p + x.0.disp == row.dictionary then record { stack = 127 + j; disp = 0 } else record { stack = 136; disp = 0 }) else record { stack = (base_at k p + x.0.disp - k.regs.stacks) / k.regs.stack_size; disp = (base_at k p + x.0.disp - k.regs.stacks) % k.regs.stack_size })
        (le-ltb (base_at k p + x.0.disp) k.regs.stacks (omega arith))
        ∙ ap (λ (a : ℕ). record { stack = a / k.regs.stack_size; disp = a % k.regs.stack_size }) rest
        ∙ ap (λ (q : ℕ). record { stack = q; disp = (p.slot * k.regs.stack_size + x.0.disp) % k.regs.stack_size }) (digits_div p.slot small)
        ∙ ap (λ (q : ℕ). record { stack = p.slot; disp = q }) (digits_mod p.slot small)
        ∙ ap (λ (q : ℕ). record { stack = q; disp = x.0.disp }) (sym (seen_stack p.slot (stack_of_row k p) x there))

    place_base : (x : Seen) → Has (base_seen j) x → place_seen k.regs row j (address_of (placed k) x.0) ≡ x.0
    place_base x (inl e) =
        let l = dictionary_lies k.core k.regs.stacks 160 k.jobs (j - 1) row fixed.dictionaries found in
        let high = l.high in
        subst (λ (y : Seen). place_seen k.regs row j (address_of (placed k) y.0) ≡ y.0) e
        (ap (place_seen k.regs row j) (dictionary_is j row found some few)
        ∙ ap (λ (b : Bool). if b then (if row.dictionary == row.dictionary then record { stack = 127 + j; disp = 0 } else record { stack = 136; disp = 0 }) else record { stack = (row.dictionary - k.regs.stacks) / k.regs.stack_size; disp = (row.dictionary - k.regs.stacks) % k.regs.stack_size })
        (lt-ltb row.dictionary k.regs.stacks (omega (arith, high)))
        ∙ ap (λ (b : Bool). if b then record { stack = 127 + j; disp = 0 } else record { stack = 136; disp = 0 }) (eq-eqb row.dictionary row.dictionary refl))
    place_base x (inr (inl e)) =
        let l = dictionary_lies k.core k.regs.stacks 160 k.jobs (j - 1) row fixed.dictionaries found in
        grind (arith, lt-ltb, ne_eqb)
    place_base x (inr (inr h)) = absurd h

    place_from : (n disp : ℕ) (o : Option TaskRow) → ((p : TaskRow) → o ≡ Some p → Has k.tasks p) → (x : Seen) → Has (seen_from k j n disp o) x → place_seen k.regs row j (address_of (placed k) x.0) ≡ x.0
    place_from zero disp o live x h = place_base x h
    place_from (suc n) disp None live x h = place_base x h
    place_from (suc n) disp (Some p) live x h = grind (arith, has_append_cases, keyed_has, place_own, from_cut, place_from n p.critical)

  -- the place of the address of a mark in reach is the mark's
  pub place_back : (r : TaskRow) (row : JobRow) → Has k.tasks r → slice_get k.jobs (r.job - 1) ≡ Some row → r.job < 9 → (x : Seen) → Has (seen_by k r) x → place_seen k.regs row r.job (address_of (placed k) x.0) ≡ x.0
  place_back r row h found few x there = by (has_append_cases (seen_in r.slot (stack_of_row k r)) (seen_from k r.job 15 r.critical (row_in_slot k.tasks r.parent)) x there) where
    by : Has (seen_in r.slot (stack_of_row k r)) x ⊎ Has (seen_from k r.job 15 r.critical (row_in_slot k.tasks r.parent)) x → place_seen k.regs row r.job (address_of (placed k) x.0) ≡ x.0
    by (inl g) = place_own row r.job found (row_fact k facts r h).from_one few r h x g
    by (inr g) = place_from row r.job found (row_fact k facts r h).from_one few 15 r.critical (row_in_slot k.tasks r.parent) (λ q e. (keyed_has (λ (z : TaskRow). z.slot) r.parent k.tasks q e).0) x g
