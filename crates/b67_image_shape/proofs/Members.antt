-- The jobs of what a machine shows, by their rows.
use Rattle.std.proofs.Common.{◌≡◌, ℕ, zero, suc, ◌+◌, ◌-◌, ◌<◌, ◌≤◌, Bool, List, [], ◌∷◌, map, length, Some, refl, sym, ◌∙◌, ap, subst, arith, inl, inr}
use Rattle.std.specs.Prelude.{if◌then◌else◌}
use Rattle.std.specs.List.{slice_get}
use Rattle.std.proofs.lemmas.Bool.{ne_eqb, eq-eqb}
use Rattle.b67_lemmas.specs.Lists.{Has}
use Rattle.b67_lemmas.proofs.Members.{has_map}
use Rattle.b67_model.specs.Keyed.{keyed}
use Rattle.b67_model.specs.Common.{SessionJob, NumberedFrom}
use Rattle.b67_layout.specs.Common.{Placement, TaskRow, Differ, JobRow, JobShows, JobsShow}
use Rattle.b67_layout_shown.specs.Shown.{Sight, member_in, members_from, dictionary_from, segments_of}

-- the row of a job that is shown
pub record RowOfMember (k : Sight) (n : ℕ) (rows : List JobRow) (y : SessionJob) : Type 0 where
  pub row : JobRow
  pub there : Has rows row
  pub found : slice_get rows (y.constants.number - n) ≡ Some row
  pub is : member_in k row y.constants.number ≡ y
  pub low : n ≤ y.constants.number
  pub high : y.constants.number < n + length rows
  pub dictionary : dictionary_from rows n y.constants.number ≡ row.dictionary
  pub segments : segments_of rows n y.constants.number ≡ row.segments
  pub shows : (plan : Placement) → JobsShow plan (members_from k n rows) rows → JobShows plan y row

pub row_of_member : (k : Sight) (n : ℕ) (rows : List JobRow) (y : SessionJob) → Has (members_from k n rows) y → RowOfMember k n rows y
row_of_member k n [] y h = absurd h
row_of_member k n (row ∷ more) y (inl e) = grind arith
row_of_member k n (row ∷ more) y (inr h) = grind (arith, ne_eqb, row_of_member k (n + 1) more y h)

pub member_numbered : (k : Sight) (n : ℕ) (rows : List JobRow) → NumberedFrom n (members_from k n rows)
member_numbered k n [] = tt
member_numbered k n (row ∷ more) = (refl, member_numbered k (n + 1) more)

pub members_long : (k : Sight) (n : ℕ) (rows : List JobRow) → length (members_from k n rows) ≡ length rows
members_long k n [] = refl
members_long k n (row ∷ more) = ap suc (members_long k (n + 1) more)

-- the row of a slot is found
pub row_in : (rs : List TaskRow) (r : TaskRow) → Differ (map (λ (q : TaskRow). q.slot) rs) → Has rs r → keyed (λ (q : TaskRow). q.slot) r.slot rs ≡ Some r
row_in [] r differ there = absurd there
row_in (q ∷ more) r differ (inl e) = subst (λ (p : TaskRow). keyed (λ (q : TaskRow). q.slot) p.slot (q ∷ more) ≡ Some p) e (rw (eq-eqb q.slot q.slot refl) refl)
row_in (q ∷ more) r differ (inr there) = rw (ne_eqb q.slot r.slot (λ e. differ.0 (subst (Has (map (λ (q : TaskRow). q.slot) more)) (sym e) (has_map (λ (q : TaskRow). q.slot) more r there)))) (row_in more r differ.1 there)

-- the job of a row
pub row_there : (k : Sight) (n : ℕ) (rows : List JobRow) (i : ℕ) (row : JobRow) → slice_get rows i ≡ Some row → Has (members_from k n rows) (member_in k row (n + i))
row_there k n [] i row e = absurd (let z : ⊥ = cc in z)
row_there k n (r ∷ more) zero row e = grind arith
row_there k n (r ∷ more) (suc i) row e = grind (arith, row_there k (n + 1) more i row e)
