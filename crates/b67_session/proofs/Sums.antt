-- What the opening of programs needs.
use Rattle.std.proofs.Common.{◌≡◌, ℕ, ◌+◌, ◌*◌, List, [], ◌∷◌, length, refl, ◌∙◌, ap, arith}
use Rattle.b67_backing.specs.Held.{sectors_for}
use Rattle.b67_lemmas.specs.Lists.{total}
use Rattle.b67_lemmas.proofs.Members.{total_reverse}
use Rattle.b67_lemmas.proofs.Sums.{sum_total}
use Rattle.b67_model.specs.Common.{Array, SessionJob, Program, row_arrays, need_at_opening, sectors_of, sectors}
use Rattle.b67_law.specs.Opening.{Opening, opened_from}
use Rattle.b67_law.proofs.OpenedRows.{entries_count}
use Rattle.b67_law.proofs.Opens.{jobs_count}
use Rattle.b67_load.specs.Objects.{sectors_of_program}
use Rattle.b67_session.specs.Opened.{dictionaries, programs_of}
use Rattle.b67_session.proofs.Plans.{count_is}

dictionaries_are : (n stack : ℕ) (openings : List Opening) → total (λ (m : SessionJob). 2 + length m.constants.dictionary.cells) (opened_from n stack openings) ≡ dictionaries (programs_of openings)
dictionaries_are n stack [] = refl
dictionaries_are n stack (o ∷ more) = omega (arith, entries_count o.program.segments o.program.rows, dictionaries_are (n + 1) stack more)

pub need_is : (stack : ℕ) (openings : List Opening) (programs : List Program) (count : ℕ) → programs_of openings ≡ programs → count ≡ length programs
    → 160 + dictionaries programs + count * stack ≡ need_at_opening stack (opened_from 1 stack openings)
need_is stack openings programs count same many = grind (arith, sum_total, dictionaries_are, count_is, jobs_count)

rows_are : (n : ℕ) (rows : List (List ℕ)) → total (λ (a : Array). sectors_for (length a.numbers)) (row_arrays n rows) ≡ total (λ (r : List ℕ). sectors_for (length r)) rows
rows_are n [] = refl
rows_are n (r ∷ more) = ap (λ k. sectors_for (length r) + k) (rows_are (n + 1) more)

sectors_are : (n stack : ℕ) (openings : List Opening) → total sectors_of (opened_from n stack openings) ≡ total sectors_of_program (programs_of openings)
sectors_are n stack [] = refl
sectors_are n stack (o ∷ more) = grind (arith, sum_total, total_reverse, rows_are, sectors_are (n + 1) stack more)

pub sectors_is : (stack : ℕ) (openings : List Opening) (programs : List Program) → programs_of openings ≡ programs
    → total sectors_of_program programs ≡ sectors (opened_from 1 stack openings)
sectors_is stack openings programs same = grind (arith, sum_total, sectors_are)
