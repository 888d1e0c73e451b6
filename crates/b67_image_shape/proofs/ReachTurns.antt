-- Turns of the walks over marks.
use Rattle.std.proofs.Common.{◌≡◌, ◌≢◌, ℕ, zero, suc, ◌-◌, ◌<◌, ◌==◌, Bool, true, false, List, Option, Some, refl, sym, ◌∙◌, ap, arith}
use Rattle.std.specs.Prelude.{◌||◌, option_map}
use Rattle.std.proofs.lemmas.Bool.{eq-eqb, ne_eqb}
use Rattle.b67_word.specs.Tagged.{Tagged, bits_at}
use Rattle.b67_layout.specs.Rows as rows
use Rattle.b67_task.specs.declared.tables.TaskRow.{TaskRow}
use Rattle.b67_task.specs.Tables.{task_row}
use Rattle.b67_layout_shown.specs.Reading.{word_seen_at}
use Rattle.b67_layout_shown.specs.Shown.{Sight}
use Rattle.b67_image_shape.specs.TableFacts.{row_in_slot}
use Rattle.b67_image_shape.specs.Reaching.{marked_under, has_mark, kept_at, outside_at}

module _ (core : List Tagged) (at : ℕ) (all : Bool) (left f : ℕ) (same : all ≡ has_mark core left f at) where
  -- one more mark is looked at
  turn_is : (n : ℕ) → left ≡ suc n → all ≡ ((f == at) || marked_under (bits_at (word_seen_at core f) 0 14) (λ d. has_mark core n (f - d) at))
  unfolding has_mark
  turn_is n e = same ∙ ap (λ m. has_mark core m f at) e

  pub mark_found : 0 < left → f ≡ at → true ≡ all
  mark_found some e = (let next : left ≡ suc (left - 1) = omega (arith, some) in
      sym (turn_is (left - 1) next ∙ ap (λ (b : Bool). b || marked_under (bits_at (word_seen_at core f) 0 14) (λ d. has_mark core (left - 1) (f - d) at)) (eq-eqb f at e)))

  past : 0 < left → f ≢ at → (w : Tagged) (back : ℕ) → w ≡ word_seen_at core f → back ≡ bits_at w 0 14 → all ≡ marked_under back (λ d. has_mark core (left - 1) (f - d) at)
  past some ne w back is b = (let next : left ≡ suc (left - 1) = omega (arith, some) in
      turn_is (left - 1) next ∙ ap (λ (b : Bool). b || marked_under (bits_at (word_seen_at core f) 0 14) (λ d. has_mark core (left - 1) (f - d) at)) (ne_eqb f at ne)
      ∙ ap (λ n. marked_under n (λ d. has_mark core (left - 1) (f - d) at)) (sym (b ∙ ap (λ (v : Tagged). bits_at v 0 14) is)))

  pub mark_last : 0 < left → f ≢ at → (w : Tagged) (back : ℕ) → w ≡ word_seen_at core f → back ≡ bits_at w 0 14 → back ≡ 0 → false ≡ all
  mark_last some ne w back is b z = sym (past some ne w back is b ∙ ap (λ n. marked_under n (λ d. has_mark core (left - 1) (f - d) at)) z)

  pub mark_next : 0 < left → f ≢ at → (w : Tagged) (back : ℕ) → w ≡ word_seen_at core f → back ≡ bits_at w 0 14 → back ≢ 0 → all ≡ has_mark core (left - 1) (f - back) at
  mark_next some ne w zero is b z = absurd (z refl)
  mark_next some ne w (suc d) is b z = past some ne w (suc d) is b

  pub mark_none : left ≡ 0 → false ≡ all
  unfolding has_mark
  mark_none e = sym (same ∙ ap (λ m. has_mark core m f at) e)

-- one more parent is looked at
pub parent_next : (k : Sight) (at : ℕ) (all : Bool) (left disp slot : ℕ) (o : Option TaskRow) (p : TaskRow) → all ≡ outside_at k left disp (row_in_slot k.tasks slot) at → 0 < left → option_map task_row o ≡ row_in_slot k.tasks slot → o ≡ Some p → kept_at k disp (task_row p) at ≡ false
    → all ≡ outside_at k (left - 1) p.critical (row_in_slot k.tasks p.parent) at
parent_next k at all left disp slot o p same some found is kept = (let next : left ≡ suc (left - 1) = omega (arith, some) in
    same ∙ ap (λ n. outside_at k n disp (row_in_slot k.tasks slot) at) next
    ∙ ap (λ (q : Option rows.TaskRow). outside_at k (suc (left - 1)) disp q at) (sym found ∙ ap (option_map task_row) is)
    ∙ ap (λ (b : Bool). b || outside_at k (left - 1) p.critical (row_in_slot k.tasks p.parent) at) kept)
