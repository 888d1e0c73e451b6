-- Turns of the loops over cells, records and rows.
use Rattle.std.proofs.Common.{◌≡◌, ◌≢◌, ℕ, zero, suc, ◌+◌, ◌-◌, ◌<◌, ◌≤◌, Bool, true, false, List, map, length, drop, get_or, Option, Some, refl, sym, ◌∙◌, ap, arith}
use Rattle.std.specs.Prelude.{◌&&◌, ◌||◌, option_map, if◌then◌else◌}
use Rattle.std.proofs.lemmas.List.{at_drop_more}
use Rattle.b67_word.specs.Tagged.{Tagged, bits_at}
use Rattle.b67_stack.specs.Common.{StackPlace}
use Rattle.b67_layout.specs.Rows as rows
use Rattle.b67_task.specs.declared.tables.TaskRow.{TaskRow}
use Rattle.b67_task.specs.Tables.{task_row}
use Rattle.b67_layout_shown.specs.Reading.{word_seen_at}
use Rattle.b67_layout_shown.specs.Shown.{Sight}
use Rattle.b67_image_shape.specs.TableFacts.{row_in_slot}
use Rattle.b67_image_shape.specs.CellWalk.{enters_from, enters_outside, is_in_slot, row_holding, cell_stands, cells_stand, record_stands, stands_under, records_stand}

-- one more parent is looked at
pub enter_next : (k : Sight) (records : List ℕ) (p : StackPlace) (all : Bool) (left disp slot : ℕ) (o : Option TaskRow) (q : TaskRow) → all ≡ enters_outside k records p left disp (row_in_slot k.tasks slot) → 0 < left → option_map task_row o ≡ row_in_slot k.tasks slot → o ≡ Some q
    → enters_from k records p disp (task_row q) ≡ false → all ≡ enters_outside k records p (left - 1) q.critical (row_in_slot k.tasks q.parent)
enter_next k records p all left disp slot o q same some found is none = (let next : left ≡ suc (left - 1) = omega (arith, some) in
    same ∙ ap (λ n. enters_outside k records p n disp (row_in_slot k.tasks slot)) next
    ∙ ap (λ (w : Option rows.TaskRow). enters_outside k records p (suc (left - 1)) disp w) (sym found ∙ ap (option_map task_row) is)
    ∙ ap (λ (b : Bool). b || enters_outside k records p (left - 1) q.critical (row_in_slot k.tasks q.parent)) none)

-- one more row
pub holding_step : (k : Sight) (rs : List TaskRow) (at i : ℕ) (d : TaskRow) (b : Bool) → i < length rs → row_holding k at (map task_row rs) ≡ row_holding k at (map task_row (drop i rs)) → is_in_slot k at (task_row (get_or rs i d)) ≡ b
    → row_holding k at (map task_row rs) ≡ (if b then Some (task_row (get_or rs i d)) else row_holding k at (map task_row (drop (i + 1) rs)))
holding_step k rs at i d b low inv e =
    inv ∙ at_drop_more (λ xs. row_holding k at (map task_row xs)) rs i d low
    ∙ ap (λ (c : Bool). if c then Some (task_row (get_or rs i d)) else row_holding k at (map task_row (drop (i + 1) rs))) e

-- ---- cells

module _ (k : Sight) (records kinds : List ℕ) (row : rows.JobRow) (r : rows.TaskRow) (disp s from many left next : ℕ) (e : left ≡ next + 1) (inv : cells_stand k records kinds row r disp s from many ≡ cells_stand k records kinds row r disp s from left) where
  one_more : cells_stand k records kinds row r disp s from many ≡ (cell_stands k records kinds row r disp s (from + next) (word_seen_at k.core (from + next)) && cells_stand k records kinds row r disp s from next)
  one_more = inv ∙ ap (cells_stand k records kinds row r disp s from) (let z : left ≡ suc next = omega (arith, e) in z)

  pub cells_next : cell_stands k records kinds row r disp s (from + next) (word_seen_at k.core (from + next)) ≡ true → cells_stand k records kinds row r disp s from many ≡ cells_stand k records kinds row r disp s from next
  cells_next t = one_more ∙ ap (λ (b : Bool). b && cells_stand k records kinds row r disp s from next) t

  pub cells_stop : cell_stands k records kinds row r disp s (from + next) (word_seen_at k.core (from + next)) ≡ false → false ≡ cells_stand k records kinds row r disp s from many
  cells_stop t = sym (one_more ∙ ap (λ (b : Bool). b && cells_stand k records kinds row r disp s from next) t)

-- ---- records

module _ (k : Sight) (records kinds : List ℕ) (row : rows.JobRow) (r : rows.TaskRow) (base turns turn f s : ℕ) (all : Bool) (same : all ≡ records_stand k records kinds row r base (turns - turn) f s) where
  abbrev rest : ℕ → Bool
  rest d = records_stand k records kinds row r base (turns - (turn + 1)) (f - d) (f - 1)

  turn_is : turn < turns → all ≡ (record_stands k records kinds row r base f s && stands_under (bits_at (word_seen_at k.core f) 0 14) rest)
  unfolding records_stand
  turn_is low = let next : turns - turn ≡ suc (turns - (turn + 1)) = omega arith in same ∙ ap (λ n. records_stand k records kinds row r base n f s) next

  pub record_falls : turn < turns → record_stands k records kinds row r base f s ≡ false → false ≡ all
  record_falls low e = sym (turn_is low ∙ ap (λ (b : Bool). b && stands_under (bits_at (word_seen_at k.core f) 0 14) rest) e)

  goes : turn < turns → record_stands k records kinds row r base f s ≡ true → (w : Tagged) (back : ℕ) → w ≡ word_seen_at k.core f → back ≡ bits_at w 0 14 → all ≡ stands_under back rest
  goes low e w back is b = turn_is low ∙ ap (λ (c : Bool). c && stands_under (bits_at (word_seen_at k.core f) 0 14) rest) e ∙ ap (λ n. stands_under n rest) (sym (b ∙ ap (λ (v : Tagged). bits_at v 0 14) is))

  pub record_last : turn < turns → record_stands k records kinds row r base f s ≡ true → (w : Tagged) (back : ℕ) → w ≡ word_seen_at k.core f → back ≡ bits_at w 0 14 → back ≡ 0 → true ≡ all
  record_last low e w back is b z = sym (goes low e w back is b ∙ ap (λ n. stands_under n rest) z)

  pub record_next : turn < turns → record_stands k records kinds row r base f s ≡ true → (w : Tagged) (back : ℕ) → w ≡ word_seen_at k.core f → back ≡ bits_at w 0 14 → back ≢ 0 → (f2 s2 : ℕ) → f2 ≡ f - back → s2 ≡ f - 1 → all ≡ records_stand k records kinds row r base (turns - (turn + 1)) f2 s2
  record_next low e w zero is b ne f2 s2 fe se = absurd (ne refl)
  record_next low e w (suc d) is b ne f2 s2 fe se =
      goes low e w (suc d) is b ∙ sym (ap (λ n. records_stand k records kinds row r base (turns - (turn + 1)) n s2) fe ∙ ap (λ n. records_stand k records kinds row r base (turns - (turn + 1)) (f - suc d) n) se)

  pub records_end : turns ≤ turn → true ≡ all
  unfolding records_stand
  records_end h = (let none : turns - turn ≡ 0 = omega (arith, h) in sym (same ∙ ap (λ n. records_stand k records kinds row r base n f s) none))
