-- Where the original of an array stands: in the dictionary, or in the frame that owns the array, at the array's home.
use Rattle.std.proofs.Common.{◌≡◌, ◌≢◌, ℕ, ◌+◌, ◌<◌, ◌≤◌, List, [], ◌∷◌, ◌++◌, map, length, Some, refl, sym, ◌∙◌, ap, arith, length-append, true, false, cond, inl, inr, ◌⊎◌, subst}
use Rattle.std.specs.List.{slice_get}
use Rattle.std.proofs.lemmas.Bool.{cases_Bool, cases_eq}
use Rattle.std.proofs.lemmas.Bool.Decides.{eqb_tells}
use Rattle.b67_word.specs.Tagged.{Tagged}
use Rattle.b67_lemmas.specs.Lists.{Has, total, how_many}
use Rattle.b67_lemmas.proofs.Members.{all_in, falls_same, has_append_left, has_append_right, has_map}
use Rattle.b67_model.specs.Words as Words
use Rattle.b67_model.specs.Common.{Word, Operand, Name, Ref, Row, Element, Original, Proc, Intrinsic, Frame, Array, Segment, Task, JobConstants, Job, Starts, Known, known_of, OwnsArray, WordInOrder, FramesInOrder, is_original_of, originals_in, originals_of, IsSegment, outer_of, rows_after, DictionaryWords, TaskInOrder, TasksInOrder}
use Rattle.b67_stack.specs.Shapes as Shapes
use Rattle.b67_stack.specs.Common.{Shape, LieDownward, StackPlace, Head, Marked, Entered, Activation, headed, words}
use Rattle.b67_layout.specs.Common.{Placement, spot_in, shape, head, activations}

-- a word of a shape lies at a place
pub record LiesAt (R : Shape → ℕ → Tagged → Type 0) (core : List Tagged) (from : ℕ) (xs : List Shape) (c : Shape) : Type 0 where
  pub at : ℕ
  pub low : from ≤ at
  pub up : at < from + length xs
  pub word : Tagged
  pub there : slice_get core at ≡ Some word
  pub fits : R c at word

pub lies_at : (R : Shape → ℕ → Tagged → Type 0) (core : List Tagged) (from : ℕ) (xs : List Shape) (c : Shape) → LieDownward R core from xs → Has xs c → LiesAt R core from xs c
lies_at R core from [] c l h = absurd h
lies_at R core from (a ∷ more) c l (inl e) = grind arith
lies_at R core from (a ∷ more) c l (inr h) = grind (arith, lies_at R core from more c l.1 h)

-- one of the upper words
pub lies_over : (R : Shape → ℕ → Tagged → Type 0) (core : List Tagged) (from : ℕ) (xs ys : List Shape) (c : Shape) → LieDownward R core from (xs ++ ys) → Has xs c → LiesAt R core (from + length ys) xs c
lies_over R core from [] ys c l h = absurd h
lies_over R core from (a ∷ more) ys c l (inl e) = grind (arith, length-append)
lies_over R core from (a ∷ more) ys c l (inr h) = grind (arith, lies_over R core from more ys c l.1 h)

-- the shape of an original is among the words of its stack
pub original_word : (plan : Placement) (j : ℕ) (job : Job) (k : ℕ) (outer : ℕ → StackPlace) (fs : List Frame) (g : Frame) (a : ℕ) → Has fs g → Has g.cells (Original a) → Has (words k (activations plan j job k outer fs)) (Shapes.Original (plan.home j a))
original_word plan j job k outer [] g a h w = absurd h
original_word plan j job k outer (f ∷ below) g a (inl e) w =
    let h : Head = head (spot_in k outer below) f.standing in
    let bs : List Activation = activations plan j job k outer below in
    has_append_left (map (shape plan j job (spot_in k outer (f ∷ below))) f.cells) (headed k h bs (words k bs)) (Shapes.Original (plan.home j a))
    (has_map (shape plan j job (spot_in k outer (f ∷ below))) f.cells (Original a) (subst (λ (x : Frame). Has x.cells (Original a)) (sym e) w))
original_word plan j job k outer (f ∷ below) g a (inr i) w = grind (arith, has_append_right, original_word plan j job k outer below g a i w)

-- a total that isn't 0 has an item that isn't
some_item : {A : Type 0} (weight : A → ℕ) (xs : List A) → total weight xs ≢ 0 → (x : A) × Has xs x × (weight x ≢ 0)
some_item weight [] ne = absurd (ne refl)
some_item weight (x ∷ xs) ne = grind (arith, some_item weight xs)

is_original : (a : ℕ) (w : Word) → is_original_of a w ≡ true → w ≡ Original a
is_original a w t = grind arith

some_original : (a : ℕ) (ws : List Word) → how_many (is_original_of a) ws ≢ 0 → Has ws (Original a)
some_original a ws ne = grind (arith, some_item)

owns : (P : Starts) (arrays : List Array) (outer : List Known) (fs : List Frame) (g : Frame) (a : ℕ) → FramesInOrder P arrays outer fs → Has fs g → Has g.cells (Original a) → OwnsArray arrays g.identity a
owns P arrays outer [] g a o h w = absurd h
owns P arrays outer (f ∷ below) g a o (inl e) w = grind (arith, all_in)
owns P arrays outer (f ∷ below) g a o (inr h) w = owns P arrays outer below g a o.2 h w

-- an original in the frame that owns the array
pub record InFrame (job : Job) (a : Array) : Type 0 where
  pub task : Task
  pub live : Has job.tasks task
  pub frame : Frame
  pub among : Has task.frames frame
  pub word : Has frame.cells (Original a.identity)
  pub owned : a.owner ≡ frame.identity

pub original_of : (constants : JobConstants) (job : Job) → TasksInOrder (IsSegment constants) constants job → (a : Array) → Has job.arrays a → Has constants.dictionary.cells (Original a.identity) ⊎ InFrame job a
original_of constants job o a h =
    let one = all_in (λ (b : Array). originals_of b.identity constants job ≡ 1) job.arrays a o.once h in
    elim (cases_eq (how_many (is_original_of a.identity) constants.dictionary.cells) 0) [
      | inl z ↦
          let t = some_item (λ (u : Task). originals_in a.identity u.frames) job.tasks (λ e. omega (arith, one, z, e)) in
          let g = some_item (λ (f : Frame). how_many (is_original_of a.identity) f.cells) t.0.frames t.2 in
          let w = some_original a.identity g.0.cells g.2 in
          let task = all_in (TaskInOrder (IsSegment constants) constants job) job.tasks t.0 o.tasks t.1 in
          let own = owns (IsSegment constants) job.arrays (outer_of job t.0) t.0.frames g.0 a.identity task.frames g.1 w in
          let same : own.item ≡ a = falls_same (λ (b : Array). b.identity) job.next_array job.arrays own.item a o.names own.live h own.named in
          inr (record { task = t.0; live = t.1; frame = g.0; among = g.1; word = w; owned = ap (λ (b : Array). b.owner) (sym same) ∙ own.owned })
      | inr n ↦ inl (some_original a.identity constants.dictionary.cells n)
    ]

row_number : (n a : ℕ) (ws : List Word) → rows_after n ws → Has ws (Original a) → (n ≤ a) × (a < n + length ws)
row_number n a [] r h = absurd h
row_number n a (w ∷ more) r (inl e) = let same : Original n ≡ Original a = sym r.0 ∙ e in let k : n ≡ a = cc in (omega arith, omega arith)
row_number n a (w ∷ more) r (inr h) = let i = row_number (n + 1) a more r.1 h in (omega arith, omega arith)

-- the number of a data row by the words of its dictionary
pub entry_number : (n : ℕ) (segments : List Segment) (words : List Word) (a : ℕ) → DictionaryWords n segments words → Has words (Original a) → (1 ≤ a) × (a + length segments ≤ length words)
entry_number n [] words a d h = let i = row_number 1 a words d h in (i.0, omega (arith, i.1))
entry_number n (s ∷ more) [] a d h = absurd d
entry_number n (s ∷ more) (w ∷ words) a d (inl e) = absurd (let z : Words.Segment n ≡ Original a = sym d.0 ∙ e in let f : ⊥ = cc in f)
entry_number n (s ∷ more) (w ∷ words) a d (inr h) = let i = entry_number (n + 1) more words a d.1 h in (i.0, omega (arith, i.1))
