-- An entered mark is in sight exactly if it is seen.
use Rattle.std.proofs.Common.{◌≡◌, ℕ, zero, suc, ◌+◌, ◌*◌, ◌/◌, ◌<◌, ◌≤◌, ◌==◌, Bool, true, false, List, ◌++◌, Option, Some, None, refl, sym, ◌∙◌, ap, subst, arith, inl, inr}
use Rattle.std.specs.Prelude.{◌⊎◌, ◌&&◌, ◌||◌, nat_lt, nat_le, slice_index}
use Rattle.std.proofs.lemmas.Bool.Decides.{Decides-or}
use Rattle.b67_lemmas.specs.Lists.{Has}
use Rattle.b67_lemmas.proofs.Members.{keyed_has, has_append_left, has_append_right, has_append_cases}
use Rattle.b67_stack.specs.Common as stack
use Rattle.b67_stack.specs.Common.{Head, Activation, StackPlace, stack_words}
use Rattle.b67_layout.specs.Rows.{TaskRow}
use Rattle.b67_layout_shown.specs.Seen.{Seen, seen_in, from_disp, base_seen, seen_from}
use Rattle.b67_layout_shown.specs.Shown.{Sight, stack_of_row}
use Rattle.b67_image_shape.specs.Deciding.{Decides}
use Rattle.b67_image_shape.specs.TableFacts.{row_in_slot}
use Rattle.b67_image_shape.specs.Items.{base_at}
use Rattle.b67_image_shape.specs.RecordTable.{record_of_disp, IsRecordTable}
use Rattle.b67_image_shape.specs.CellWalk.{is_outermost, enters_below, has_record_at, enters_from, enters_outside, is_in_sight}
use Rattle.b67_image_shape.proofs.Deciding.{same_number, less, at_most, both, like, nothing}
use Rattle.b67_image_shape.proofs.MarksSeen.{is_entered_head, seen_stack, from_cut, from_in}
use Rattle.b67_image_shape.proofs.RecordsSeen.{entered_code, code_seen, entered_there, mark_there, there_mark}

-- an entered one of these marks stands at a place
abbrev pub SeesEntered : List Seen → StackPlace → Type 0
SeesEntered xs p = (h : Head) × Has xs (p, h) × (is_entered_head h ≡ true)

sees_either : (p : StackPlace) (xs ys : List Seen) → SeesEntered xs p ⊎ SeesEntered ys p → SeesEntered (xs ++ ys) p
sees_either p xs ys h = grind (arith, has_append_left, has_append_right)

sees_one : (p : StackPlace) (xs ys : List Seen) → SeesEntered (xs ++ ys) p → SeesEntered xs p ⊎ SeesEntered ys p
sees_one p xs ys (h, there, e) = grind (arith, has_append_cases)

swap : (a b c : Bool) → (a || (b || c)) ≡ (b || (a || c))
swap a b c = grind arith

outermost_seen : (j : ℕ) (p : StackPlace) → Decides (is_outermost j p) (SeesEntered (base_seen j) p)
outermost_seen j p = like (is_outermost j p) to from (both (p.disp == 0) ((p.stack == 127 + j) || (p.stack == 136)) (same_number p.disp 0) (Decides-or (p.stack == 127 + j) (p.stack == 136) (same_number p.stack (127 + j)) (same_number p.stack 136))) where
  to : (p.disp ≡ 0) × ((p.stack ≡ 127 + j) ⊎ (p.stack ≡ 136)) → SeesEntered (base_seen j) p
  to (d, inl s) = (stack.Entered 1 (record { stack = 136; disp = 0 }) None, inl (ap (λ n. (record { stack = n; disp = 0 }, stack.Entered 1 (record { stack = 136; disp = 0 }) None)) (sym s) ∙ ap (λ n. (record { stack = p.stack; disp = n }, stack.Entered 1 (record { stack = 136; disp = 0 }) None)) (sym d)), refl)
  to (d, inr s) = (stack.Entered 0 (record { stack = 136; disp = 0 }) None, inr (inl (ap (λ n. (record { stack = n; disp = 0 }, stack.Entered 0 (record { stack = 136; disp = 0 }) None)) (sym s) ∙ ap (λ n. (record { stack = p.stack; disp = n }, stack.Entered 0 (record { stack = 136; disp = 0 }) None)) (sym d))), refl)

  from : SeesEntered (base_seen j) p → (p.disp ≡ 0) × ((p.stack ≡ 127 + j) ⊎ (p.stack ≡ 136))
  from (h, inl e, t) = (ap (λ (y : Seen). y.0.disp) (sym e), inl (ap (λ (y : Seen). y.0.stack) (sym e)))
  from (h, inr (inl e), t) = (ap (λ (y : Seen). y.0.disp) (sym e), inr (ap (λ (y : Seen). y.0.stack) (sym e)))
  from (h, inr (inr g), t) = absurd g

module _ (k : Sight) (records : List ℕ) (table : IsRecordTable k records) (high : (r : TaskRow) → Has k.tasks r → stack_words (stack_of_row k r) < k.regs.stack_size) (p : StackPlace) where
  -- ---- one stack

  -- among these records of a task's stack, whose marks stand up to a displacement
  pub below_seen : (r : TaskRow) → Has k.tasks r → (b : ℕ) (acts : List Activation) → b < k.regs.stack_size → ((d : ℕ) → d ≤ b → record_of_disp d (stack_of_row k r) ≡ record_of_disp d acts) → ((x : Seen) → Has (seen_in r.slot acts) x → x.0.disp ≤ b)
      → Decides (enters_below k records p b r) (SeesEntered (seen_in r.slot acts) p)
  below_seen r h b acts small same marks =
      like (enters_below k records p b r) to from
      (both (p.stack == r.slot) (nat_le p.disp b && (slice_index records (base_at k r + p.disp) == p.disp * 2 + 1)) (same_number p.stack r.slot)
      (both (nat_le p.disp b) (slice_index records (base_at k r + p.disp) == p.disp * 2 + 1) (at_most p.disp b) (same_number (slice_index records (base_at k r + p.disp)) (p.disp * 2 + 1))))
    where
      to : (p.stack ≡ r.slot) × ((p.disp ≤ b) × (slice_index records (base_at k r + p.disp) ≡ p.disp * 2 + 1)) → SeesEntered (seen_in r.slot acts) p
      to (at, (le, e)) =
          let (q, there, t) = entered_there r.slot p.disp acts (sym (same p.disp le) ∙ sym (table.each r h p.disp (omega (arith, le, small))) ∙ e) in
          (q, subst (λ n. Has (seen_in r.slot acts) (record { stack = n; disp = p.disp }, q)) (sym at) there, t)

      from : SeesEntered (seen_in r.slot acts) p → (p.stack ≡ r.slot) × ((p.disp ≤ b) × (slice_index records (base_at k r + p.disp) ≡ p.disp * 2 + 1))
      from (q, there, t) =
          let le = marks (p, q) there in
          (seen_stack r.slot acts (p, q) there, (le, table.each r h p.disp (omega (arith, le, small)) ∙ same p.disp le ∙ (code_seen r.slot acts (p, q) there).0 ∙ entered_code p.disp q t))

  cut_seen : (q : TaskRow) → Has k.tasks q → (disp : ℕ) → Decides (has_record_at k records disp q && enters_below k records p disp q) (SeesEntered (seen_in q.slot (from_disp disp (stack_of_row k q))) p)
  cut_seen q h disp =
      like (has_record_at k records disp q && enters_below k records p disp q) to from
      (both (has_record_at k records disp q) (enters_below k records p disp q)
      (both (nat_lt 0 disp) (nat_lt disp k.regs.stack_size && (slice_index records (base_at k q + disp) / 2 == disp)) (less 0 disp)
      (both (nat_lt disp k.regs.stack_size) (slice_index records (base_at k q + disp) / 2 == disp) (less disp k.regs.stack_size) (same_number (slice_index records (base_at k q + disp) / 2) disp)))
      (both (p.stack == q.slot) (nat_le p.disp disp && (slice_index records (base_at k q + p.disp) == p.disp * 2 + 1)) (same_number p.stack q.slot)
      (both (nat_le p.disp disp) (slice_index records (base_at k q + p.disp) == p.disp * 2 + 1) (at_most p.disp disp) (same_number (slice_index records (base_at k q + p.disp)) (p.disp * 2 + 1)))))
    where
      to : ((0 < disp) × ((disp < k.regs.stack_size) × (slice_index records (base_at k q + disp) / 2 ≡ disp))) × ((p.stack ≡ q.slot) × ((p.disp ≤ disp) × (slice_index records (base_at k q + p.disp) ≡ p.disp * 2 + 1)))
          → SeesEntered (seen_in q.slot (from_disp disp (stack_of_row k q))) p
      to ((some, (small, half)), (at, (le, e))) =
          let mark = mark_there q.slot disp (stack_of_row k q) some (ap (λ n. n / 2) (sym (table.each q h disp small)) ∙ half) in
          let (t, there, entered) = entered_there q.slot p.disp (stack_of_row k q) (sym (table.each q h p.disp (omega (arith, le, small))) ∙ e) in
          let mine = subst (λ n. Has (seen_in q.slot (stack_of_row k q)) (record { stack = n; disp = p.disp }, t)) (sym at) there in
          (t, from_in q.slot disp (stack_of_row k q) (p, t) mark mine le, entered)

      from : SeesEntered (seen_in q.slot (from_disp disp (stack_of_row k q))) p
          → ((0 < disp) × ((disp < k.regs.stack_size) × (slice_index records (base_at k q + disp) / 2 ≡ disp))) × ((p.stack ≡ q.slot) × ((p.disp ≤ disp) × (slice_index records (base_at k q + p.disp) ≡ p.disp * 2 + 1)))
      from (t, there, entered) =
          let (mark, mine, le) = from_cut q.slot disp (stack_of_row k q) (p, t) there in
          let (some, half, low) = there_mark q.slot disp (stack_of_row k q) mark in
          let room = high q h in
          let small : disp < k.regs.stack_size = omega (arith, low, room) in (
            (some, (small, ap (λ n. n / 2) (table.each q h disp small) ∙ half)),
            (seen_stack q.slot (stack_of_row k q) (p, t) mine, (le, table.each q h p.disp (omega (arith, le, small)) ∙ (code_seen q.slot (stack_of_row k q) (p, t) mine).0 ∙ entered_code p.disp t entered)),
          )

  -- ---- the parents' stacks

  module _ (j : ℕ) where
    base_alone : Decides (is_outermost j p || false) (SeesEntered (base_seen j) p)
    base_alone = grind (arith, like, Decides-or, outermost_seen, nothing)

    outside_seen : (n disp : ℕ) (o : Option TaskRow) → ((q : TaskRow) → o ≡ Some q → Has k.tasks q) → Decides (is_outermost j p || enters_outside k records p n disp o) (SeesEntered (seen_from k j n disp o) p)
    outside_seen zero disp o live = base_alone
    outside_seen (suc n) disp None live = base_alone
    outside_seen (suc n) disp (Some q) live =
        let here = has_record_at k records disp q && enters_below k records p disp q in
        subst (λ c. Decides c (SeesEntered (seen_from k j (suc n) disp (Some q)) p)) (swap (enters_from k records p disp q) (is_outermost j p) (enters_outside k records p n q.critical (row_in_slot k.tasks q.parent)))
        (like (here || (is_outermost j p || enters_outside k records p n q.critical (row_in_slot k.tasks q.parent)))
        (sees_either p (seen_in q.slot (from_disp disp (stack_of_row k q))) (seen_from k j n q.critical (row_in_slot k.tasks q.parent)))
        (sees_one p (seen_in q.slot (from_disp disp (stack_of_row k q))) (seen_from k j n q.critical (row_in_slot k.tasks q.parent)))
        (Decides-or (has_record_at k records disp q && enters_below k records p disp q) (is_outermost j p || enters_outside k records p n q.critical (row_in_slot k.tasks q.parent)) (cut_seen q (live q refl) disp)
        (outside_seen n q.critical (row_in_slot k.tasks q.parent) (λ t e. (keyed_has (λ (z : TaskRow). z.slot) q.parent k.tasks t e).0))))

  -- an entered mark is in sight of these records exactly if it is seen from them
  pub in_sight : (r : TaskRow) → Has k.tasks r → (b : ℕ) (acts : List Activation) → b < k.regs.stack_size → ((d : ℕ) → d ≤ b → record_of_disp d (stack_of_row k r) ≡ record_of_disp d acts) → ((x : Seen) → Has (seen_in r.slot acts) x → x.0.disp ≤ b)
      → Decides (is_in_sight k records r b p) (SeesEntered (seen_in r.slot acts ++ seen_from k r.job 15 r.critical (row_in_slot k.tasks r.parent)) p)
  unfolding is_in_sight
  in_sight r h b acts small same marks =
      let mine = enters_below k records p b r in
      let other = enters_outside k records p 15 r.critical (row_in_slot k.tasks r.parent) in
      subst (λ c. Decides c (SeesEntered (seen_in r.slot acts ++ seen_from k r.job 15 r.critical (row_in_slot k.tasks r.parent)) p)) (swap mine (is_outermost r.job p) other)
      (like (mine || (is_outermost r.job p || other))
      (sees_either p (seen_in r.slot acts) (seen_from k r.job 15 r.critical (row_in_slot k.tasks r.parent)))
      (sees_one p (seen_in r.slot acts) (seen_from k r.job 15 r.critical (row_in_slot k.tasks r.parent)))
      (Decides-or (enters_below k records p b r) (is_outermost r.job p || enters_outside k records p 15 r.critical (row_in_slot k.tasks r.parent)) (below_seen r h b acts small same marks)
      (outside_seen r.job 15 r.critical (row_in_slot k.tasks r.parent) (λ t e. (keyed_has (λ (z : TaskRow). z.slot) r.parent k.tasks t e).0))))
