-- The first ready task behind another, among more and more rows.
use Rattle.std.proofs.Common.{◌≡◌, ℕ, ◌+◌, ◌-◌, ◌^◌, ◌≤◌, ◌<◌, ◌⊎◌, true, false, List, length, Some, None, refl, sym, ◌∙◌, ap, arith, inl, inr, subst, get_or}
use Rattle.std.specs.List.{slice_get}
use Rattle.std.proofs.lemmas.Option.{get_or_from_slice_get, slice_get_within}
use Rattle.std.proofs.lemmas.Bool.{cases_lt, true≢false}
use Rattle.b67_model.specs.Schedule.{Who}
use Rattle.b67_task.specs.declared.tables.TheConstants.{NO_ROW}
use Rattle.b67_task.specs.declared.tables.TaskRow.{TaskRow}
use Rattle.b67_task.specs.Chosen.{who_of, is_ready_state, is_ready_row_of, is_sooner, IsReadyAt, IsNextAt, NextRow, IsDistance}
use Rattle.b67_task.proofs.Orders.{never_sooner, no_sooner, not_sooner}
use Rattle.b67_lemmas.proofs.Places.{get_within}

-- the nearest ready task among the first n rows, with its distance
pub record Found (n : ℕ) (rows : List TaskRow) (last : Who) (far best : ℕ) : Type 0 where
  pub next : IsNextAt n rows last best
  pub distance : IsDistance last next.who far

-- none of them is that of a ready task, or this one is the nearest
abbrev pub Nearest : ℕ → List TaskRow → Who → ℕ → ℕ → Type 0
Nearest n rows last far best = ((best ≡ NO_ROW) × (far ≡ 2 ^ 64 - 1) × ((k : ℕ) (w : Who) → k < n → IsReadyAt rows k w → ⊥)) ⊎ Found n rows last far best

pub nearest_as : (n : ℕ) (rows : List TaskRow) (last : Who) (far best m i : ℕ) → m ≡ far → i ≡ best → Nearest n rows last far best → Nearest n rows last m i
nearest_as n rows last far best m i e f h = subst (λ (v : ℕ). Nearest n rows last m v) (sym f) (subst (λ (v : ℕ). Nearest n rows last v best) (sym e) h)

-- the item that is read at a place within a list
pub seen : {A : Type 0} (xs : List A) (i : ℕ) (d : A) → i < length xs → slice_get xs i ≡ Some (get_or xs i d)
seen xs i d h = let (x, e) = get_within xs i h in e ∙ ap Some (sym (get_or_from_slice_get xs i x d e))

module _ (rows : List TaskRow) (k : ℕ) (row : TaskRow) (e : slice_get rows k ≡ Some row) where
  same_row : (w : Who) (a : IsReadyAt rows k w) → (is_ready_state row.state ≡ true) × (who_of row ≡ w)
  same_row w a = grind arith

  ready_here : is_ready_state row.state ≡ true → IsReadyAt rows k (who_of row)
  ready_here t = record { row = row; at = e; ready = t; is = refl }

  nobody : (w : Who) → is_ready_state row.state ≡ false → IsReadyAt rows k w → ⊥
  nobody w q a = true≢false (sym (same_row w a).0 ∙ q)

  -- what holds of the ready rows before k, and of this one, holds of all up to it
  one_more : (P : Who → Type 0) → ((j : ℕ) (w : Who) → j < k → IsReadyAt rows j w → P w) → ((w : Who) → IsReadyAt rows k w → P w) → (j : ℕ) (w : Who) → j < k + 1 → IsReadyAt rows j w → P w
  one_more P before here j w lt a = elim (cases_lt j k) [
    | inl low ↦ before j w low a
    | inr high ↦ let is : j ≡ k = omega (arith, high, lt) in here w (subst (λ (n : ℕ). IsReadyAt rows n w) is a)
  ]

  -- the row at k is looked at: it isn't that of a ready task
  pub passes : (last : Who) (far best : ℕ) → is_ready_state row.state ≡ false → Nearest k rows last far best → Nearest (k + 1) rows last far best
  passes last far best q (inl (none, most, h)) = inl (none, most, one_more (λ w. ⊥) h (λ w a. nobody w q a))
  passes last far best q (inr f) = inr (record {
    next = record { who = f.next.who; at = f.next.at; first = one_more (λ w. is_sooner last w f.next.who ≡ false) f.next.first (λ w a. absurd (nobody w q a)) };
    distance = f.distance;
  })

  -- it is farther than the nearest one
  pub stays : (last : Who) (far best more : ℕ) → far < more → IsDistance last (who_of row) more → Nearest k rows last far best → Nearest (k + 1) rows last far best
  stays last far best more lt d (inl (none, most, h)) = absurd (omega (arith, lt, d.is, most))
  stays last far best more lt d (inr f) = inr (record {
    next = record {
      who = f.next.who;
      at = f.next.at;
      first = one_more (λ w. is_sooner last w f.next.who ≡ false) f.next.first (λ w a. subst (λ (v : Who). is_sooner last v f.next.who ≡ false) (same_row w a).1 (no_sooner last f.next.who (who_of row) far more f.distance d (omega (arith, lt))));
    };
    distance = f.distance;
  })

  -- it is nearer
  pub takes : (last : Who) (far best less : ℕ) → is_ready_state row.state ≡ true → less ≤ far → IsDistance last (who_of row) less → Nearest k rows last far best → Nearest (k + 1) rows last less k
  takes last far best less t le d n = inr (record {
    next = record {
      who = who_of row;
      at = ready_here t;
      first = one_more (λ w. is_sooner last w (who_of row) ≡ false) (before n) (λ w a. subst (λ (v : Who). is_sooner last v (who_of row) ≡ false) (same_row w a).1 (never_sooner last (who_of row)));
    };
    distance = d;
  })
    where
      before : Nearest k rows last far best → (j : ℕ) (w : Who) → j < k → IsReadyAt rows j w → is_sooner last w (who_of row) ≡ false
      before (inl (none, most, h)) j w lt a = absurd (h j w lt a)
      before (inr f) j w lt a = not_sooner last w f.next.who (who_of row) (f.next.first j w lt a) (no_sooner last (who_of row) f.next.who less far d f.distance le)

  -- the only row is that of a ready task
  pub alone : (last : Who) → k ≡ 0 → is_ready_state row.state ≡ true → NextRow 1 rows last (Some k)
  alone last first t = record {
    who = who_of row;
    at = ready_here t;
    first = λ j w lt a. let is : j ≡ k = omega (arith, lt, first) in subst (λ (v : Who). is_sooner last v (who_of row) ≡ false) (same_row w (subst (λ (n : ℕ). IsReadyAt rows n w) is a)).1 (never_sooner last (who_of row));
  }

  -- or it isn't
  pub alone_not : (last : Who) → k ≡ 0 → is_ready_state row.state ≡ false → NextRow 1 rows last None
  alone_not last first q = λ j w lt a. let is : j ≡ k = omega (arith, lt, first) in nobody w q (subst (λ (n : ℕ). IsReadyAt rows n w) is a)

  -- the row at k is not that of a ready task of this name
  pub not_here : (who : Who) → is_ready_row_of who row ≡ false → ((j : ℕ) → j < k → IsReadyAt rows j who → ⊥) → (j : ℕ) → j < k + 1 → IsReadyAt rows j who → ⊥
  not_here who q none j lt a = grind arith

-- the row that is answered
pub no_row : (rows : List TaskRow) (last : Who) (far best : ℕ) → length rows ≤ 255 → best ≡ NO_ROW → Nearest (length rows) rows last far best → NextRow (length rows) rows last None
no_row rows last far best few is h = grind (arith, slice_get_within)

pub one_row : (rows : List TaskRow) (last : Who) (far best : ℕ) → (best ≡ NO_ROW → ⊥) → Nearest (length rows) rows last far best → NextRow (length rows) rows last (Some best)
one_row rows last far best is h = grind arith
