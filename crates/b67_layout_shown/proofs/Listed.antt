-- The arrays that a machine shows of a job are its own, under names by place.
use Rattle.std.proofs.Common.{◌≡◌, ℕ, zero, suc, ◌+◌, ◌<◌, ◌≤◌, Bool, true, false, List, [], ◌∷◌, ◌++◌, map, refl, sym, ◌∙◌, ap, arith, inl, inr, append_assoc}
use Rattle.std.specs.Prelude.{flat_map}
use Rattle.std.specs.List.{AllByRecursion}
use Rattle.b67_word.specs.Tagged.{Tagged}
use Rattle.b67_lemmas.specs.Lists.{Has}
use Rattle.b67_model.specs.Words as Words
use Rattle.b67_model.specs.Common.{Word, Operand, Name, Ref, Row, Element, Original, Proc, Intrinsic, Frame, Array, Task, Job, height, array, Starts, Known, known_of, OwnsArray, WordInOrder, FramesInOrder}
use Rattle.b67_stack.specs.Stacks.{StackPlace, stack_words}
use Rattle.b67_layout.specs.Common.{Placement, spot_in, shape, activations, TaskRow}
use Rattle.b67_layout.proofs.Frames.{height-is}
use Rattle.b67_layout_shown.specs.Reading.{word_seen_at, desc_in}
use Rattle.b67_layout_shown.specs.Places.{named, originals_from, originals_under, originals_among, rows_down, array_named}
use Rattle.b67_layout_shown.specs.Shown.{contents_by, array_shown, arrays_in, arrays_of, data_rows}
use Rattle.b67_layout_shown.proofs.Frames.{Named}

module _ (core : List Tagged) (plan : Placement) (j : ℕ) (job : Job) (array_name : ℕ → ℕ) (rename relabel : ℕ → ℕ) (numbers : ℕ → List ℕ)
    (arrays : (a : Array) → Has job.arrays a → array_name (plan.home j a.identity) ≡ relabel a.identity)
    (found : (a : Array) → Has job.arrays a → array job a.identity ≡ a)
    (held : (n : ℕ) → (let d = desc_in (word_seen_at core (plan.home j n)) in contents_by core d.length d.address d.present) ≡ numbers n) where
  abbrev F : ℕ → Array
  F n = array_named rename relabel numbers (array job n)

  one_shown : (n owner : ℕ) (writable : Bool) → (own : OwnsArray job.arrays owner n) → own.item.writable ≡ writable → array_shown core (array_name (plan.home j n)) (rename owner) writable (plan.home j n) ≡ F n
  one_shown n owner writable own w = grind arith

  cells_shown : (P : Starts) (spot : ℕ → StackPlace) (reach : List Known) (owner : ℕ) (cells : List Word) (more : List ℕ) → ((n : ℕ) (q : OwnsArray job.arrays owner n) → q.item.writable ≡ true)
      → AllByRecursion (WordInOrder P job.arrays reach owner) cells
      → arrays_in core (rename owner) array_name (map (shape plan j job spot) cells) ++ map F more ≡ map F (originals_from cells more)
  cells_shown P spot reach owner [] more writes h = refl
  cells_shown P spot reach owner (Operand bits ∷ cells) more writes h = cells_shown P spot reach owner cells more writes h.1
  cells_shown P spot reach owner (Name couple ∷ cells) more writes h = cells_shown P spot reach owner cells more writes h.1
  cells_shown P spot reach owner (Ref identity offset ∷ cells) more writes h = cells_shown P spot reach owner cells more writes h.1
  cells_shown P spot reach owner (Row b ∷ cells) more writes h = cells_shown P spot reach owner cells more writes h.1
  cells_shown P spot reach owner (Element b index ∷ cells) more writes h = cells_shown P spot reach owner cells more writes h.1
  cells_shown P spot reach owner (Original b ∷ cells) more writes h =
      ap (λ (x : Array). x ∷ (arrays_in core (rename owner) array_name (map (shape plan j job spot) cells) ++ map F more)) (one_shown b owner true h.0 (writes b h.0))
      ∙ ap (λ (xs : List Array). F b ∷ xs) (cells_shown P spot reach owner cells more writes h.1)
  cells_shown P spot reach owner (Proc segment level place ∷ cells) more writes h = cells_shown P spot reach owner cells more writes h.1
  cells_shown P spot reach owner (Intrinsic k ∷ cells) more writes h = cells_shown P spot reach owner cells more writes h.1
  cells_shown P spot reach owner (Words.Segment k ∷ cells) more writes h = cells_shown P spot reach owner cells more writes h.1

  pub frames_shown : (P : Starts) (k number : ℕ) (outer : ℕ → StackPlace) (outside : List Known) (fs : List Frame) (more : List ℕ)
      → ((owner n : ℕ) (q : OwnsArray job.arrays owner n) → 1 < owner → q.item.writable ≡ true) → ((f : Frame) → Has fs f → 1 < f.identity)
      → Named rename number fs → FramesInOrder P job.arrays outside fs
      → arrays_of core number array_name (activations plan j job k outer fs) ++ map F more ≡ map F (originals_under fs more)
  frames_shown P k number outer outside [] more writes high names h = refl
  frames_shown P k number outer outside (f ∷ below) more writes high names h =
      let up = height-is plan j job k outer below in
      let place : stack_words (activations plan j job k outer below) + 1 ≡ height below = omega (arith, up) in
      let owner : named number (stack_words (activations plan j job k outer below) + 1) ≡ rename f.identity = ap (named number) place ∙ sym names.0 in
      ap (λ o. (arrays_in core o array_name (map (shape plan j job (spot_in k outer (f ∷ below))) f.cells) ++ arrays_of core number array_name (activations plan j job k outer below)) ++ map F more) owner
      ∙ append_assoc (arrays_in core (rename f.identity) array_name (map (shape plan j job (spot_in k outer (f ∷ below))) f.cells)) (arrays_of core number array_name (activations plan j job k outer below)) (map F more)
      ∙ ap (λ (xs : List Array). arrays_in core (rename f.identity) array_name (map (shape plan j job (spot_in k outer (f ∷ below))) f.cells) ++ xs) (frames_shown P k number outer outside below more writes (λ g there. high g (inr there)) names.1 h.2)
      ∙ cells_shown P (spot_in k outer (f ∷ below)) (map known_of (f ∷ below) ++ outside) f.identity f.cells (originals_under below more) (λ n q. writes f.identity n q (high f (inl refl))) h.0.0

  -- of all tasks
  pub tasks_shown : (g : TaskRow → List Array) (rows : List TaskRow) (ts : List Task) (more : List ℕ) → map (λ (r : TaskRow). r.number) rows ≡ map (λ (t : Task). t.number) ts
      → ((r : TaskRow) (t : Task) (more : List ℕ) → Has rows r → Has ts t → r.number ≡ t.number → g r ++ map F more ≡ map F (originals_under t.frames more))
      → flat_map g rows ++ map F more ≡ map F (originals_among ts more)
  tasks_shown g [] [] more e h = refl
  tasks_shown g [] (t ∷ ts) more e h = let z : ⊥ = cc in absurd z
  tasks_shown g (r ∷ rows) [] more e h = let z : ⊥ = cc in absurd z
  tasks_shown g (r ∷ rows) (t ∷ ts) more e h = grind (arith, append_assoc, tasks_shown g rows ts more)

  -- of the dictionary
  pub rows_shown : (before n : ℕ) → rename 1 ≡ 1 → ((i : ℕ) → 1 ≤ i → i ≤ n → (q : OwnsArray job.arrays 1 i) × (q.item.writable ≡ false) × (plan.home j i ≡ before + i) × (array_name (plan.home j i) ≡ i))
      → data_rows core before n ≡ map F (rows_down n)
  rows_shown before zero one h = refl
  rows_shown before (suc n) one h =
      let q = h (suc n) (omega arith) (omega arith) in
      ap (λ a. array_shown core (suc n) 1 false a ∷ data_rows core before n) (sym q.2)
      ∙ ap (λ i. array_shown core i 1 false (plan.home j (suc n)) ∷ data_rows core before n) (sym q.3)
      ∙ ap (λ o. array_shown core (array_name (plan.home j (suc n))) o false (plan.home j (suc n)) ∷ data_rows core before n) (sym one)
      ∙ ap (λ (x : Array). x ∷ data_rows core before n) (one_shown (suc n) 1 false q.0 q.1)
      ∙ ap (λ (xs : List Array). F (suc n) ∷ xs) (rows_shown before n one (λ i low high. h i low (omega (arith, high))))
