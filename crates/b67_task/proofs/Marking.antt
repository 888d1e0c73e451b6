-- The marks of rows, one row after another.
use Rattle.std.proofs.Common.{◌≡◌, ◌≢◌, ℕ, zero, suc, ◌+◌, ◌<◌, ◌≤◌, max, List, [], ◌∷◌, length, drop, get_or, replicate, Some, refl, sym, ◌∙◌, ap, arith, ◌==◌}
use Rattle.std.specs.Prelude.{if◌then◌else◌}
use Rattle.std.specs.List.{slice_get}
use Rattle.std.proofs.lemmas.Bool.{ne_eqb}
use Rattle.std.proofs.lemmas.Option.{slice_get-get_or}
use Rattle.b67_lemmas.proofs.Places.{drop-get}
use Rattle.b67_task.specs.declared.tables.TaskRow.{TaskRow}
use Rattle.b67_task.specs.RowMarks.{top_critical, ShowsMarks, Raised}
use Rattle.b67_task.proofs.Kept.{drop_past}

pub raised_none : (old : List ℕ) (r : TaskRow) → 120 ≤ r.parent → Raised old old r
raised_none old r high k n low e = rw (ne_eqb r.parent k (λ q. omega (arith, q, high, low))) e

pub raised_by : (old new : List ℕ) (r : TaskRow) → ((v : ℕ) → slice_get old r.parent ≡ Some v → slice_get new r.parent ≡ Some (max v r.critical)) → ((q : ℕ) → q ≢ r.parent → slice_get new q ≡ slice_get old q) → Raised old new r
raised_by old new r own others k n low e = grind arith

-- the marks so far, with those of the rows that are left, are those of all rows
abbrev pub MarksSoFar : List ℕ → List TaskRow → List TaskRow → Type 0
MarksSoFar marks rest rows = (k : ℕ) → k < 120 → (n : ℕ) × (slice_get marks k ≡ Some n) × (max n (top_critical k rest) ≡ top_critical k rows)

each_is : {A : Type 0} (x : A) (n k : ℕ) → k < n → slice_get (replicate n x) k ≡ Some x
each_is x zero k low = absurd (omega (arith, low))
each_is x (suc n) zero low = refl
each_is x (suc n) (suc k) low = each_is x n k (omega (arith, low))

pub marks_first : (marks : List ℕ) (rows : List TaskRow) → marks ≡ replicate 120 0 → MarksSoFar marks rows rows
marks_first marks rows e k low = (0, ap (λ (l : List ℕ). slice_get l k) e ∙ each_is 0 120 k low, (let g : max 0 (top_critical k rows) ≡ top_critical k rows = omega arith in g))

step : (k n : ℕ) (r : TaskRow) (rest : List TaskRow) → (max (if r.parent == k then max n r.critical else n) (top_critical k rest)) ≡ max n (top_critical k (r ∷ rest))
step k n r rest = grind arith

pub marks_more : (marks new : List ℕ) (rows : List TaskRow) (at : ℕ) (d : TaskRow) → at < length rows → MarksSoFar marks (drop at rows) rows → Raised marks new (get_or rows at d) → MarksSoFar new (drop (at + 1) rows) rows
marks_more marks new rows at d low so raised k small =
    let (n, here, e) = so k small in
    let r = get_or rows at d in
    let next : at + 1 ≡ suc at = omega arith in (
      (if r.parent == k then max n r.critical else n),
      raised k n small here,
      ap (λ (i : ℕ). max (if r.parent == k then max n r.critical else n) (top_critical k (drop i rows))) next
          ∙ step k n r (drop (suc at) rows)
          ∙ ap (λ (l : List TaskRow). max n (top_critical k l)) (sym (drop-get rows at r (slice_get-get_or rows at d low)))
          ∙ e,
    )

pub marks_all : (marks : List ℕ) (rows : List TaskRow) (at : ℕ) → length rows ≤ at → MarksSoFar marks (drop at rows) rows → ShowsMarks marks rows
marks_all marks rows at past so k small =
    let (n, here, e) = so k small in
    grind (arith, drop_past)
