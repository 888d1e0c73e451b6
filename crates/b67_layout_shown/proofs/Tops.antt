-- What is seen of a machine: the row of a slot and the top of a task.
use Rattle.std.proofs.Common.{◌≡◌, ◌≢◌, ℕ, [], ◌∷◌, true, false, map, ◌+◌, ◌*◌, ◌<◌, ◌≤◌, Bool, List, Some, None, drop, length, get_or, refl, sym, ◌∙◌, ap, arith}
use Rattle.std.specs.Prelude.{if◌then◌else◌, Option, option_map}
use Rattle.std.proofs.lemmas.Bool.{ne_eqb, eq-eqb}
use Rattle.std.proofs.lemmas.List.{at_drop_more, drop_all}
use Rattle.b67_model.specs.Keyed.{keyed}
use Rattle.b67_layout.specs.Rows as rows
use Rattle.b67_task.specs.declared.tables.TaskRow.{TaskRow}
use Rattle.b67_task.specs.Tables.{task_row}
use Rattle.b67_layout_shown.specs.Shown.{Sight, top_by, top_in}

module _ {A : Type 0} (key : A → ℕ) where
  -- the row sought isn't before the one come to
  pub record IsAhead (xs : List A) (n i : ℕ) : Type 0 where
    pub same : keyed key n xs ≡ keyed key n (drop i xs)

  pub all_ahead : (xs : List A) (n : ℕ) → IsAhead xs n 0
  all_ahead xs n = record { same = refl }

  pub here : (xs : List A) (n i : ℕ) (d : A) → IsAhead xs n i → i < length xs → key (get_or xs i d) ≡ n → Some (get_or xs i d) ≡ keyed key n xs
  here xs n i d h low e =
      sym (h.same ∙ at_drop_more (keyed key n) xs i d low ∙ ap (λ (b : Bool). if b then Some (get_or xs i d) else keyed key n (drop (i + 1) xs)) (eq-eqb (key (get_or xs i d)) n e))

  pub further : (xs : List A) (n i : ℕ) (d : A) → IsAhead xs n i → i < length xs → key (get_or xs i d) ≢ n → IsAhead xs n (i + 1)
  further xs n i d h low ne =
      record { same = h.same ∙ at_drop_more (keyed key n) xs i d low ∙ ap (λ (b : Bool). if b then Some (get_or xs i d) else keyed key n (drop (i + 1) xs)) (ne_eqb (key (get_or xs i d)) n ne) }

  pub none_left : (xs : List A) (n i : ℕ) → IsAhead xs n i → length xs ≤ i → None ≡ keyed key n xs
  none_left xs n i h past = sym (h.same ∙ ap (keyed key n) (drop_all i xs past))

-- the row of a slot, as the definitions see it
pub slot_mapped : (xs : List TaskRow) (n : ℕ) (found : Option TaskRow) → found ≡ keyed (λ (r : TaskRow). r.slot) n xs → option_map task_row found ≡ keyed (λ (r : rows.TaskRow). r.slot) n (map task_row xs)
slot_mapped [] n found e = ap (option_map task_row) e
slot_mapped (x ∷ xs) n found e = grind (arith, slot_mapped xs n)

-- the top of a task, which runs or doesn't
pub top_running : (k : Sight) (r : rows.TaskRow) → r.slot ≡ k.regs.slot → top_in k r ≡ top_by k r (k.regs.stacks + r.slot * k.regs.stack_size) true
top_running k r e = ap (top_by k r (k.regs.stacks + r.slot * k.regs.stack_size)) (eq-eqb r.slot k.regs.slot e)

pub top_resting : (k : Sight) (r : rows.TaskRow) → r.slot ≢ k.regs.slot → top_in k r ≡ top_by k r (k.regs.stacks + r.slot * k.regs.stack_size) false
top_resting k r e = ap (top_by k r (k.regs.stacks + r.slot * k.regs.stack_size)) (ne_eqb r.slot k.regs.slot e)
