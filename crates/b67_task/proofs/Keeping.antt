-- What calls keep, one after the other, and what is kept where nothing has changed.
use Rattle.std.proofs.Common.{◌≡◌, ℕ, ◌<◌, ◌^◌, List, length, Some, refl, ◌∙◌, ap, subst, slice_set, arith}
use Rattle.std.specs.List.{slice_get}
use Rattle.b67_lemmas.specs.Lists.{Has}
use Rattle.b67_lemmas.proofs.Members.{has_map, has_map_back}
use Rattle.b67_lemmas.proofs.Places.{at_mapped, map-slice_set, put_back}
use Rattle.b67_task.specs.declared.tables.JobRow.{JobRow}
use Rattle.b67_task.specs.declared.tables.Tasks.{Tasks}
use Rattle.b67_task.specs.declared.tables.Machine.{Machine}
use Rattle.b67_task.specs.Tables.{JobGiven, job_given, rows_given, Given, given_of, AreCountable}
use Rattle.b67_task.specs.Runs.{Keeps}

pub keeps_same : (k : Machine) → Keeps k k
keeps_same k = record { core = refl; sectors = refl; given = refl }

pub keeps_then : (old mid new : Machine) → Keeps old mid → Keeps mid new → Keeps old new
keeps_then old mid new a b = record { core = b.core ∙ a.core; sectors = b.sectors ∙ a.sectors; given = b.given ∙ a.given }

pub halt_kept : (old new : Machine) → Keeps old new → new.tasks.halt ≡ old.tasks.halt
halt_kept old new k = ap (λ (g : Given). g.halt) k.given

-- numbers of jobs that are those given are as many
pub countable_given : (rows new : List JobRow) → rows_given new ≡ rows_given rows → AreCountable rows → AreCountable new
countable_given rows new same few r h =
    let found = has_map_back job_given rows (job_given r) (subst (λ (l : List JobGiven). Has l (job_given r)) same (has_map job_given new r h)) in
    let as_many : length found.item.numbers ≡ length r.numbers = ap (λ (g : JobGiven). length g.numbers) found.is in
    let low : length found.item.numbers < 2 ^ 32 = few found.item found.among in
    omega (arith, low, as_many)

pub countable_kept : (old new : Machine) → Keeps old new → AreCountable old.tasks.jobs → AreCountable new.tasks.jobs
countable_kept old new k = countable_given old.tasks.jobs new.tasks.jobs (ap (λ (g : Given). g.jobs) k.given)

-- a row is put in the place of one of which the same was given
pub rows_put : (rows new : List JobRow) (i : ℕ) (r q : JobRow) → slice_get rows i ≡ Some r → new ≡ slice_set rows i q → job_given q ≡ job_given r → rows_given new ≡ rows_given rows
rows_put rows new i r q at is same =
    ap rows_given is ∙ map-slice_set job_given rows i q ∙ ap (slice_set (rows_given rows) i) same ∙ put_back (rows_given rows) i (job_given r) (at_mapped job_given rows i r at)

-- the tables but for the jobs have what was given
pub given_put : (old new : Tasks) → given_of new ≡ given_of (record old { jobs = new.jobs }) → rows_given new.jobs ≡ rows_given old.jobs → given_of new ≡ given_of old
given_put old new rest same = rest ∙ ap (λ (l : List JobGiven). record (given_of old) { jobs = l }) same
