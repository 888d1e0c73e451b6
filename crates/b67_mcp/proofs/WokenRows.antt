-- The rows of tasks once a cell is caused.
use Rattle.std.proofs.Common.{◌≡◌, ◌≢◌, ℕ, ◌+◌, ◌<◌, ◌≤◌, List, [], ◌∷◌, ◌++◌, map, length, take, drop, get_or, slice_set, Bool, false, ◌&&◌, ◌==◌, refl, sym, ◌∙◌, ap, arith, inl, inr, add-one, take_all}
use Rattle.std.proofs.lemmas.List.{length-set, get_or-drop, drop-drop, drop-set-lt}
use Rattle.std.proofs.Math.Seq.{take-suc-set}
use Rattle.std.proofs.lemmas.Bool.{cases_Bool, eq-eqb, ne_eqb}
use Rattle.b67_task.proofs.EndContext.{one_more, all_done}
use Rattle.b67_task.specs.declared.tables.TaskRow.{TaskRow}
use Rattle.b67_task.specs.declared.tables.TaskState.{TaskState}
use Rattle.b67_task.specs.declared.tables.TaskState.TheVariants.{Ready, WaitsAt}
use Rattle.b67_mcp.specs.Woken.{woken_state, woken_row}

pub woken_there : (mark offset at other : ℕ) → at ≡ mark → other ≡ offset → Ready ≡ woken_state mark offset (WaitsAt at other)
woken_there mark offset at other e k = let one = eq-eqb at mark e in let two = eq-eqb other offset k in rw (one, two) refl

and_false : (a b : Bool) → b ≡ false → (a && b) ≡ false
and_false a b e = grind arith

pub other_mark : (mark offset at other : ℕ) → at ≢ mark → WaitsAt at other ≡ woken_state mark offset (WaitsAt at other)
other_mark mark offset at other ne = let no = ne_eqb at mark ne in rw no refl

pub other_offset : (mark offset at other : ℕ) → other ≢ offset → WaitsAt at other ≡ woken_state mark offset (WaitsAt at other)
other_offset mark offset at other ne = let no = and_false (at == mark) (other == offset) (ne_eqb other offset ne) in rw no refl

pub row_own : (job mark offset : ℕ) (row : TaskRow) (state : TaskState) → row.job ≡ job → state ≡ woken_state mark offset row.state → record row { state = state } ≡ woken_row job mark offset row
row_own job mark offset row state e is = let own = eq-eqb row.job job e in rw own (ap (λ (z : TaskState). record row { state = z }) is)

pub row_other : (job mark offset : ℕ) (row : TaskRow) → row.job ≢ job → row ≡ woken_row job mark offset row
row_other job mark offset row ne = let no = ne_eqb row.job job ne in rw no refl

-- its slot and its job stay
pub row_slot : (job mark offset : ℕ) (row : TaskRow) → (woken_row job mark offset row).slot ≡ row.slot
row_slot job mark offset row = elim (cases_Bool (row.job == job)) [ inl t ↦ rw t refl | inr t ↦ rw t refl ]

-- so many items of a list are changed, and the others are where they were
pub record Wakes {A : Type 0} (f : A → A) (old new : List A) (at : ℕ) : Type 0 where
  pub size : length new ≡ length old
  pub front : take at new ++ map f (drop at old) ≡ map f old
  pub rest : drop at new ≡ drop at old

module _ {A : Type 0} (f : A → A) (old : List A) where
  pub wakes_none : Wakes f old old 0
  wakes_none = record { size = refl; front = refl; rest = refl }

  -- the next item is the one that stood there
  same_item : (new : List A) (at : ℕ) (d : A) → Wakes f old new at → get_or new at d ≡ get_or old at d
  same_item new at d w =
      let here : at + 0 ≡ at = omega arith in
      ap (λ (n : ℕ). get_or new n d) (sym here)
      ∙ sym (get_or-drop at new 0 d)
      ∙ ap (λ (l : List A). get_or l 0 d) w.rest
      ∙ get_or-drop at old 0 d
      ∙ ap (λ (n : ℕ). get_or old n d) here

  pub wakes_more : (new : List A) (at : ℕ) (d v : A) → Wakes f old new at → at < length new → v ≡ f (get_or new at d) → Wakes f old (slice_set new at v) (at + 1)
  wakes_more new at d v w low is =
      let taken : take (at + 1) (slice_set new at v) ≡ take at new ++ f (get_or old at d) ∷ [] =
      ap (λ (n : ℕ). take n (slice_set new at v)) (add-one at)
      ∙ take-suc-set new at v low
      ∙ ap (λ (q : A). take at new ++ q ∷ []) (is ∙ ap f (same_item new at d w))
      in
      record {
        size = length-set new at v ∙ w.size;
        front = ap (λ (l : List A). l ++ map f (drop (at + 1) old)) taken ∙ one_more f old (take at new) at d (omega (arith, low, w.size)) w.front;
        rest = drop-set-lt (at + 1) new at v (omega arith) ∙ sym (drop-drop 1 at new) ∙ ap (λ (l : List A). drop 1 l) w.rest ∙ drop-drop 1 at old;
      }

  pub wakes_all : (new : List A) (at : ℕ) → Wakes f old new at → length new ≤ at → new ≡ map f old
  wakes_all new at w past = sym (take_all at new past) ∙ all_done f old (take at new) at (omega (arith, past, w.size)) w.front
