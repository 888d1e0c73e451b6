-- An array's name by place is that of its only original; so these names fall in the order of places.
use Rattle.std.proofs.Common.{◌≡◌, ℕ, suc, ◌+◌, ◌^◌, ◌<◌, ◌≤◌, Bool, true, List, [], ◌∷◌, map, length, Option, Some, None, refl, sym, ◌∙◌, ap, subst, arith, inl, inr}
use Rattle.std.specs.Prelude.{◌⊎◌, if◌then◌else◌}
use Rattle.std.proofs.lemmas.Bool.{eq-eqb}
use Rattle.std.proofs.lemmas.Bool.Decides.{eqb_tells}
use Rattle.b67_lemmas.specs.Lists.{Has, total, how_many, Falls}
use Rattle.b67_lemmas.proofs.Members.{falls_more, total_has}
use Rattle.b67_model.specs.Words as Words
use Rattle.b67_model.specs.Common.{Word, Operand, Name, Ref, Row, Element, Original, Proc, Intrinsic, Frame, Task, head_words, height, is_original_of, originals_in}
use Rattle.b67_layout_shown.specs.Places.{named, or_else, cell_of_original, array_by, array_under, array_among, originals_from, originals_under, originals_among}
use Rattle.b67_layout_shown.proofs.Arrays.{cell_none, under_none}

-- ---- the only original is the one that is found

some_under : (number : ℕ) (fs : List Frame) (a n : ℕ) → array_under number fs a ≡ Some n → 1 ≤ originals_in a fs
some_under number fs a n e = grind (arith, under_none)

among_at : (tasks : List Task) (t : Task) (a n : ℕ) → Has tasks t → array_under t.number t.frames a ≡ Some n → total (λ (u : Task). originals_in a u.frames) tasks ≤ 1 → array_among tasks a ≡ n
among_at [] t a n there e once = absurd there
among_at (u ∷ more) t a n (inl same) e once = grind arith
among_at (u ∷ more) t a n (inr there) e once =
    let one = some_under t.number t.frames a n e in
    let all = total_has (λ (v : Task). originals_in a v.frames) more t there in
    ap (λ (o : Option ℕ). or_else o (array_among more a)) (under_none u.number u.frames a (omega (arith, one, all, once))) ∙ among_at more t a n there e (omega (arith, once))

-- ---- each original is named by its place

abbrev pub IsPlaced : (ℕ → ℕ) → ℕ → Word → Type 0
IsPlaced relabel n (Operand bits) = Unit {0}
IsPlaced relabel n (Name couple) = Unit {0}
IsPlaced relabel n (Ref identity offset) = Unit {0}
IsPlaced relabel n (Row a) = Unit {0}
IsPlaced relabel n (Element a index) = Unit {0}
IsPlaced relabel n (Original a) = relabel a ≡ n
IsPlaced relabel n (Proc segment level place) = Unit {0}
IsPlaced relabel n (Intrinsic number) = Unit {0}
IsPlaced relabel n (Words.Segment number) = Unit {0}

abbrev pub ArePlaced : (ℕ → ℕ) → ℕ → ℕ → List Word → Type 0
ArePlaced relabel number low [] = Unit {0}
ArePlaced relabel number low (w ∷ more) = IsPlaced relabel (named number (low + length more)) w × ArePlaced relabel number low more

abbrev pub PlacedUnder : (ℕ → ℕ) → ℕ → List Frame → Type 0
PlacedUnder relabel number [] = Unit {0}
PlacedUnder relabel number (f ∷ below) = ArePlaced relabel number (height below + head_words f.standing) f.cells × PlacedUnder relabel number below

module _ (relabel : ℕ → ℕ) (number : ℕ) where
  -- in cells, where no array has two originals here and deeper
  abbrev Finds : ℕ → List Word → (ℕ → Option ℕ) → Type 0
  Finds low cells deeper = (a n : ℕ) → array_by number (cell_of_original low cells a) (deeper a) ≡ Some n → relabel a ≡ n

  first_found : (low : ℕ) (b : ℕ) (more : List Word) (deeper : ℕ → Option ℕ) → Finds low (Original b ∷ more) deeper → relabel b ≡ named number (low + length more)
  first_found low b more deeper finds = finds b (named number (low + length more)) (ap (λ (t : Bool). array_by number (if t then Some (low + length more) else cell_of_original low more b) (deeper b)) (eq-eqb b b refl))

  some_more : (low : ℕ) (more : List Word) (deeper : ℕ → Option ℕ) (rest : ℕ → ℕ) → ((a : ℕ) → rest a ≡ 0 → deeper a ≡ None) → (a n : ℕ) → array_by number (cell_of_original low more a) (deeper a) ≡ Some n
      → 1 ≤ how_many (is_original_of a) more + rest a
  some_more low more deeper rest none a n e = grind (arith, cell_none)

  next_found : (low : ℕ) (b : ℕ) (more : List Word) (deeper : ℕ → Option ℕ) (rest : ℕ → ℕ) → ((a : ℕ) → rest a ≡ 0 → deeper a ≡ None) → ((a : ℕ) → how_many (is_original_of a) (Original b ∷ more) + rest a ≤ 1)
      → Finds low (Original b ∷ more) deeper → Finds low more deeper
  next_found low b more deeper rest none once finds a n e = elim (eqb_tells b a) [
    | inl q ↦
        let one = some_more low more deeper rest none a n e in
        let two : (if true then 1 else 0) + how_many (is_original_of a) more + rest a ≤ 1 = subst (λ (t : Bool). (if t then 1 else 0) + how_many (is_original_of a) more + rest a ≤ 1) q.0 (once a) in
        absurd (omega (arith, one, two))
    | inr q ↦ finds a n (ap (λ (t : Bool). array_by number (if t then Some (low + length more) else cell_of_original low more a) (deeper a)) q.0 ∙ e)
  ]

  fewer : (b : ℕ) (more : List Word) (rest : ℕ → ℕ) → ((a : ℕ) → how_many (is_original_of a) (Original b ∷ more) + rest a ≤ 1) → (a : ℕ) → how_many (is_original_of a) more + rest a ≤ 1
  fewer b more rest once a = let o = once a in omega (arith, o)

  placed_cells : (low : ℕ) (cells : List Word) (deeper : ℕ → Option ℕ) (rest : ℕ → ℕ) → ((a : ℕ) → rest a ≡ 0 → deeper a ≡ None) → ((a : ℕ) → how_many (is_original_of a) cells + rest a ≤ 1)
      → Finds low cells deeper → ArePlaced relabel number low cells
  placed_cells low [] deeper rest none once finds = tt
  placed_cells low (Operand bits ∷ more) deeper rest none once finds = (tt, placed_cells low more deeper rest none (λ a. let o = once a in omega (arith, o)) finds)
  placed_cells low (Name couple ∷ more) deeper rest none once finds = (tt, placed_cells low more deeper rest none (λ a. let o = once a in omega (arith, o)) finds)
  placed_cells low (Ref identity offset ∷ more) deeper rest none once finds = (tt, placed_cells low more deeper rest none (λ a. let o = once a in omega (arith, o)) finds)
  placed_cells low (Row b ∷ more) deeper rest none once finds = (tt, placed_cells low more deeper rest none (λ a. let o = once a in omega (arith, o)) finds)
  placed_cells low (Element b index ∷ more) deeper rest none once finds = (tt, placed_cells low more deeper rest none (λ a. let o = once a in omega (arith, o)) finds)
  placed_cells low (Original b ∷ more) deeper rest none once finds = (first_found low b more deeper finds, placed_cells low more deeper rest none (fewer b more rest once) (next_found low b more deeper rest none once finds))
  placed_cells low (Proc segment level place ∷ more) deeper rest none once finds = (tt, placed_cells low more deeper rest none (λ a. let o = once a in omega (arith, o)) finds)
  placed_cells low (Intrinsic k ∷ more) deeper rest none once finds = (tt, placed_cells low more deeper rest none (λ a. let o = once a in omega (arith, o)) finds)
  placed_cells low (Words.Segment k ∷ more) deeper rest none once finds = (tt, placed_cells low more deeper rest none (λ a. let o = once a in omega (arith, o)) finds)

  placed_frames : (fs : List Frame) → ((a : ℕ) → originals_in a fs ≤ 1) → ((a n : ℕ) → array_under number fs a ≡ Some n → relabel a ≡ n) → PlacedUnder relabel number fs
  placed_frames [] once finds = tt
  placed_frames (f ∷ below) once finds = (
    placed_cells (height below + head_words f.standing) f.cells (array_under number below) (λ a. originals_in a below) (λ a z. under_none number below a z) once finds,
    placed_frames below (λ a. let o = once a in omega (arith, o)) (λ a n e.
        let one = some_under number below a n e in
        let o = once a in
        finds a n (ap (λ (o : Option ℕ). array_by number o (array_under number below a)) (cell_none (height below + head_words f.standing) f.cells a (omega (arith, one, o))) ∙ e)),
  )

-- ---- so the names fall

module _ (relabel : ℕ → ℕ) (number : ℕ) where
  abbrev FallsTo : ℕ → List ℕ → Type 0
  FallsTo disp ns = Falls (named number disp) (map relabel ns)

  falls_from : (low : ℕ) (cells : List Word) (more : List ℕ) → ArePlaced relabel number low cells → FallsTo low more → FallsTo (low + length cells) (originals_from cells more)
  falls_from low [] more p h = falls_more (named number low) (named number (low + 0)) (map relabel more) (omega arith) h
  falls_from low (Operand bits ∷ cells) more p h = falls_more (named number (low + length cells)) (named number (low + suc (length cells))) (map relabel (originals_from cells more)) (omega arith) (falls_from low cells more p.1 h)
  falls_from low (Name couple ∷ cells) more p h = falls_more (named number (low + length cells)) (named number (low + suc (length cells))) (map relabel (originals_from cells more)) (omega arith) (falls_from low cells more p.1 h)
  falls_from low (Ref identity offset ∷ cells) more p h = falls_more (named number (low + length cells)) (named number (low + suc (length cells))) (map relabel (originals_from cells more)) (omega arith) (falls_from low cells more p.1 h)
  falls_from low (Row b ∷ cells) more p h = falls_more (named number (low + length cells)) (named number (low + suc (length cells))) (map relabel (originals_from cells more)) (omega arith) (falls_from low cells more p.1 h)
  falls_from low (Element b index ∷ cells) more p h = falls_more (named number (low + length cells)) (named number (low + suc (length cells))) (map relabel (originals_from cells more)) (omega arith) (falls_from low cells more p.1 h)
  falls_from low (Original b ∷ cells) more p h = grind (arith, falls_from low cells more p.1 h)
  falls_from low (Proc segment level place ∷ cells) more p h = falls_more (named number (low + length cells)) (named number (low + suc (length cells))) (map relabel (originals_from cells more)) (omega arith) (falls_from low cells more p.1 h)
  falls_from low (Intrinsic k ∷ cells) more p h = falls_more (named number (low + length cells)) (named number (low + suc (length cells))) (map relabel (originals_from cells more)) (omega arith) (falls_from low cells more p.1 h)
  falls_from low (Words.Segment k ∷ cells) more p h = falls_more (named number (low + length cells)) (named number (low + suc (length cells))) (map relabel (originals_from cells more)) (omega arith) (falls_from low cells more p.1 h)

  falls_under : (fs : List Frame) (more : List ℕ) → PlacedUnder relabel number fs → FallsTo 1 more → FallsTo (height fs) (originals_under fs more)
  falls_under [] more p h = h
  falls_under (f ∷ below) more p h =
      let rest = falls_under below more p.1 h in
      falls_more (named number (height below + head_words f.standing + length f.cells)) (named number (height (f ∷ below))) (map relabel (originals_from f.cells (originals_under below more))) (omega arith)
      (falls_from (height below + head_words f.standing) f.cells (originals_under below more) p.0 (falls_more (named number (height below)) (named number (height below + head_words f.standing)) (map relabel (originals_under below more)) (omega arith) rest))

module _ (relabel : ℕ → ℕ) where
  pub falls_among : (tasks : List Task) (next : ℕ) (rows : List ℕ) → 1 ≤ next → Falls next (map (λ (t : Task). t.number) tasks)
      → ((t : Task) → Has tasks t → (1 ≤ t.number) × (height t.frames < 2 ^ 14) × PlacedUnder relabel t.number t.frames)
      → Falls (named 1 0) (map relabel rows) → Falls (named next 0) (map relabel (originals_among tasks rows))
  falls_among [] next rows some falls each low = falls_more (named 1 0) (named next 0) (map relabel rows) (omega (arith, some)) low
  falls_among (t ∷ more) next rows some falls each low =
      let own = each t (inl refl) in
      let under = own.1 in
      let number = falls.0 in
      let rest = falls_among more t.number rows own.0 falls.1 (λ u there. each u (inr there)) low in
      falls_more (named t.number (height t.frames)) (named next 0) (map relabel (originals_under t.frames (originals_among more rows))) (omega (arith, under, number))
      (falls_under relabel t.number t.frames (originals_among more rows) own.2 (falls_more (named t.number 0) (named t.number 1) (map relabel (originals_among more rows)) (omega arith) rest))

pub placed_task : (tasks : List Task) (t : Task) → Has tasks t → ((a : ℕ) → total (λ (u : Task). originals_in a u.frames) tasks ≤ 1) → PlacedUnder (array_among tasks) t.number t.frames
placed_task tasks t there once = placed_frames (array_among tasks) t.number t.frames
    (λ a. let all = total_has (λ (u : Task). originals_in a u.frames) tasks t there in let o = once a in omega (arith, all, o))
    (λ a n e. among_at tasks t a n there e (once a))

-- ---- what is among the originals

from_more : (cells : List Word) (more : List ℕ) (a : ℕ) → Has more a → Has (originals_from cells more) a
from_more [] more a h = h
from_more (Operand bits ∷ cells) more a h = from_more cells more a h
from_more (Name couple ∷ cells) more a h = from_more cells more a h
from_more (Ref identity offset ∷ cells) more a h = from_more cells more a h
from_more (Row b ∷ cells) more a h = from_more cells more a h
from_more (Element b index ∷ cells) more a h = from_more cells more a h
from_more (Original b ∷ cells) more a h = inr (from_more cells more a h)
from_more (Proc segment level place ∷ cells) more a h = from_more cells more a h
from_more (Intrinsic k ∷ cells) more a h = from_more cells more a h
from_more (Words.Segment k ∷ cells) more a h = from_more cells more a h

from_cell : (cells : List Word) (more : List ℕ) (a : ℕ) → Has cells (Original a) → Has (originals_from cells more) a
from_cell [] more a h = absurd h
from_cell (w ∷ cells) more a (inl e) = subst (λ (v : Word). Has (originals_from (v ∷ cells) more) a) (sym e) (inl refl)
from_cell (Operand bits ∷ cells) more a (inr h) = from_cell cells more a h
from_cell (Name couple ∷ cells) more a (inr h) = from_cell cells more a h
from_cell (Ref identity offset ∷ cells) more a (inr h) = from_cell cells more a h
from_cell (Row b ∷ cells) more a (inr h) = from_cell cells more a h
from_cell (Element b index ∷ cells) more a (inr h) = from_cell cells more a h
from_cell (Original b ∷ cells) more a (inr h) = inr (from_cell cells more a h)
from_cell (Proc segment level place ∷ cells) more a (inr h) = from_cell cells more a h
from_cell (Intrinsic k ∷ cells) more a (inr h) = from_cell cells more a h
from_cell (Words.Segment k ∷ cells) more a (inr h) = from_cell cells more a h

under_more : (fs : List Frame) (more : List ℕ) (a : ℕ) → Has more a → Has (originals_under fs more) a
under_more [] more a h = h
under_more (f ∷ below) more a h = from_more f.cells (originals_under below more) a (under_more below more a h)

under_cell : (fs : List Frame) (more : List ℕ) (g : Frame) (a : ℕ) → Has fs g → Has g.cells (Original a) → Has (originals_under fs more) a
under_cell [] more g a there h = absurd there
under_cell (f ∷ below) more g a (inl e) h = from_cell f.cells (originals_under below more) a (subst (λ (x : Frame). Has x.cells (Original a)) (sym e) h)
under_cell (f ∷ below) more g a (inr there) h = from_more f.cells (originals_under below more) a (under_cell below more g a there h)

pub among_more : (tasks : List Task) (more : List ℕ) (a : ℕ) → Has more a → Has (originals_among tasks more) a
among_more [] more a h = h
among_more (t ∷ tasks) more a h = under_more t.frames (originals_among tasks more) a (among_more tasks more a h)

pub among_cell : (tasks : List Task) (more : List ℕ) (t : Task) (g : Frame) (a : ℕ) → Has tasks t → Has t.frames g → Has g.cells (Original a) → Has (originals_among tasks more) a
among_cell [] more t g a there k h = absurd there
among_cell (u ∷ tasks) more t g a (inl e) k h = under_cell u.frames (originals_among tasks more) g a (subst (λ (x : Task). Has x.frames g) (sym e) k) h
among_cell (u ∷ tasks) more t g a (inr there) k h = under_more u.frames (originals_among tasks more) a (among_cell tasks more t g a there k h)

-- and the other way round: each of them has an original in some frame, or is of the list
record HasOriginal (fs : List Frame) (a : ℕ) : Type 0 where
  pub frame : Frame
  pub among : Has fs frame
  pub word : Has frame.cells (Original a)

from_back : (cells : List Word) (more : List ℕ) (a : ℕ) → Has (originals_from cells more) a → Has cells (Original a) ⊎ Has more a
from_back [] more a h = inr h
from_back (Operand bits ∷ cells) more a h = elim (from_back cells more a h) [ inl k ↦ inl (inr k) | inr k ↦ inr k ]
from_back (Name couple ∷ cells) more a h = elim (from_back cells more a h) [ inl k ↦ inl (inr k) | inr k ↦ inr k ]
from_back (Ref identity offset ∷ cells) more a h = elim (from_back cells more a h) [ inl k ↦ inl (inr k) | inr k ↦ inr k ]
from_back (Row b ∷ cells) more a h = elim (from_back cells more a h) [ inl k ↦ inl (inr k) | inr k ↦ inr k ]
from_back (Element b index ∷ cells) more a h = elim (from_back cells more a h) [ inl k ↦ inl (inr k) | inr k ↦ inr k ]
from_back (Original b ∷ cells) more a (inl e) = inl (inl (ap Original e))
from_back (Original b ∷ cells) more a (inr h) = elim (from_back cells more a h) [ inl k ↦ inl (inr k) | inr k ↦ inr k ]
from_back (Proc segment level place ∷ cells) more a h = elim (from_back cells more a h) [ inl k ↦ inl (inr k) | inr k ↦ inr k ]
from_back (Intrinsic n ∷ cells) more a h = elim (from_back cells more a h) [ inl k ↦ inl (inr k) | inr k ↦ inr k ]
from_back (Words.Segment n ∷ cells) more a h = elim (from_back cells more a h) [ inl k ↦ inl (inr k) | inr k ↦ inr k ]

under_back : (fs : List Frame) (more : List ℕ) (a : ℕ) → Has (originals_under fs more) a → HasOriginal fs a ⊎ Has more a
under_back [] more a h = inr h
under_back (f ∷ below) more a h = grind (arith, from_back, under_back below more a)

pub record IsOriginalIn (tasks : List Task) (a : ℕ) : Type 0 where
  pub task : Task
  pub live : Has tasks task
  pub frame : Frame
  pub among : Has task.frames frame
  pub word : Has frame.cells (Original a)

pub among_back : (tasks : List Task) (more : List ℕ) (a : ℕ) → Has (originals_among tasks more) a → IsOriginalIn tasks a ⊎ Has more a
among_back [] more a h = inr h
among_back (t ∷ tasks) more a h = grind (arith, under_back, among_back tasks more a)
