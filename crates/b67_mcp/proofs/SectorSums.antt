-- An array of another length: its numbers, and the sectors that its session takes. These are few.
use Rattle.std.proofs.Common.{◌≡◌, ℕ, zero, suc, ◌+◌, ◌-◌, ◌*◌, ◌^◌, ◌<◌, ◌≤◌, List, ◌++◌, length, take, replicate, Option, Some, sym, ◌∙◌, ap, arith, Bool, true, subst, ⊎_elim}
use Rattle.std.specs.Prelude.{if◌then◌else◌, sum_by}
use Rattle.std.specs.List.{slice_get}
use Rattle.std.proofs.lemmas.List.{length-take-le, length-append, length-replicate, append-nil, take_all}
use Rattle.b67_word.specs.Tagged.{Tagged}
use Rattle.b67_lemmas.proofs.Keyed.{change_is}
use Rattle.b67_lemmas.proofs.Members.{total_change}
use Rattle.b67_lemmas.proofs.Sums.{sum_total}
use Rattle.b67_model.specs.Keyed.{keyed, change_keyed}
use Rattle.b67_model.specs.Common.{Array, Segment, Job, SessionJob, with_array, number_of, sectors_for, sectors_of, sectors, Session}
use Rattle.b67_stack.specs.declared.Cpu.{Cpu}
use Rattle.b67_stack.specs.Common.{stack_words, MachineView, slot_base, stack_of, Storage}
use Rattle.b67_layout.specs.Common.{IsInOrderButCounts, Placement, machine_view, RepresentsSession, with_job}
use Rattle.b67_overlay.proofs.Turning.{slot_high}
use Rattle.b67_task.specs.Sums.{sectors_at, core_sectors_from, sectors_of_slots}
use Rattle.b67_task.proofs.Sessions.{session_kept}

-- its first numbers; its numbers, with zeros behind them; and so many
pub resized_cut : (n : ℕ) (xs : List ℕ) → n ≤ length xs → take n xs ++ replicate (n - length xs) 0 ≡ take n xs
resized_cut n xs low = let none : n - length xs ≡ 0 = omega (arith, low) in ap (λ (i : ℕ). take n xs ++ replicate i 0) none ∙ append-nil (take n xs)

pub resized_grown : (n : ℕ) (xs : List ℕ) → length xs ≤ n → take n xs ++ replicate (n - length xs) 0 ≡ xs ++ replicate (n - length xs) 0
resized_grown n xs up = ap (λ (ys : List ℕ). ys ++ replicate (n - length xs) 0) (take_all n xs up)

pub resized_same : (n : ℕ) (xs : List ℕ) → length xs ≡ n → take n xs ++ replicate (n - length xs) 0 ≡ xs
resized_same n xs e = resized_cut n xs (omega (arith, e)) ∙ take_all n xs (omega (arith, e))

pub length_resized : (n : ℕ) (xs : List ℕ) → length (take n xs ++ replicate (n - length xs) 0) ≡ n
length_resized n xs = grind (arith, length-take-le, length-append, length-replicate, resized_grown)

-- another job in a session
pub job_sectors : (s : Session) (m : SessionJob) (job : Job) → keyed number_of m.constants.number s.jobs ≡ Some m
    → sectors (with_job s m job).jobs + sectors_of m ≡ sectors s.jobs + sectors_of (record m { progress = record m.progress { job = job } })
job_sectors s m job member =
    let after : SessionJob = record m { progress = record m.progress { job = job } } in
    let n : ℕ = m.constants.number in
    let jobs' : List SessionJob = change_keyed number_of n (λ (y : SessionJob). after) s.jobs in
    let changed : (with_job s m job).jobs ≡ jobs' = change_is number_of n (λ (y : SessionJob). record y { progress = record m.progress { job = job } }) m s.jobs member in
    let P : List SessionJob → Type 0 = λ jobs. sectors jobs + sectors_of m ≡ sectors s.jobs + sectors_of after in
    subst P (sym changed) (omega (arith, sum_total sectors_of jobs', sum_total sectors_of s.jobs, total_change number_of sectors_of n m after s.jobs member))

-- another array in a job
pub array_sectors : (m : SessionJob) (a : Array) (f : Array → Array) → keyed (λ (z : Array). z.identity) a.identity m.progress.job.arrays ≡ Some a
    → sectors_of (record m { progress = record m.progress { job = with_array m.progress.job a.identity f } }) + sectors_for (length a.numbers) ≡ sectors_of m + sectors_for (length (f a).numbers)
array_sectors m a f found =
    let key : Array → ℕ = λ z. z.identity in
    let weight : Array → ℕ = λ z. sectors_for (length z.numbers) in
    let arrays' : List Array = change_keyed key a.identity (λ (y : Array). f a) m.progress.job.arrays in
    let changed : (with_array m.progress.job a.identity f).arrays ≡ arrays' = change_is key a.identity f a m.progress.job.arrays found in
    let code : ℕ = sum_by (λ (g : Segment). sectors_for (length g.code)) m.constants.segments in
    let P : List Array → Type 0 = λ arrays. code + sum_by weight arrays + weight a ≡ sectors_of m + weight (f a) in
    subst P (sym changed) (omega (arith, sum_total weight arrays', sum_total weight m.progress.job.arrays, total_change key weight a.identity a (f a) m.progress.job.arrays found))

-- the session with such an array
pub session_sectors : (s : Session) (m : SessionJob) (a : Array) (f : Array → Array) → keyed number_of m.constants.number s.jobs ≡ Some m → keyed (λ (z : Array). z.identity) a.identity m.progress.job.arrays ≡ Some a
    → sectors (with_job s m (with_array m.progress.job a.identity f)).jobs + sectors_for (length a.numbers) ≡ sectors s.jobs + sectors_for (length (f a).numbers)
session_sectors s m a f member found = omega (arith, job_sectors s m (with_array m.progress.job a.identity f) member, array_sectors m a f found)

-- a job with the same arrays takes as many
pub same_sectors : (s : Session) (m : SessionJob) (job job' : Job) → keyed number_of m.constants.number s.jobs ≡ Some m → job'.arrays ≡ job.arrays → sectors (with_job s m job').jobs ≡ sectors (with_job s m job).jobs
same_sectors s m job job' member e = grind (arith, job_sectors)

at_few : (code : Bool) (o : Option Tagged) → sectors_at code o ≤ 2185
at_few code o = grind arith

from_few : (code : Bool) (core : List Tagged) (from n : ℕ) → core_sectors_from code core from n ≤ 2185 * n
from_few code core from zero = omega arith
from_few code core from (suc n) = omega (arith, from_few code core from n, at_few code (slice_get core (from + n)))

slots_few : (core : List Tagged) (p : MachineView) (n : ℕ) → ((k : ℕ) → k < n → stack_words (stack_of (p.slots k)) ≤ p.size) → sectors_of_slots core p n + 2185 * p.stacks ≤ 2185 * slot_base p n
slots_few core p zero f = let none : slot_base p 0 ≡ p.stacks = grind arith in omega (arith, none)
slots_few core p (suc k) f = grind (arith, from_few, slots_few core p k)

pub sectors_few : (x : Storage) (cpu : Cpu) (plan : Placement) (s : Session) → IsInOrderButCounts s → RepresentsSession x cpu plan s → sectors s.jobs < 2185 * 2 ^ 20
sectors_few x cpu plan s o h =
    let p : MachineView = machine_view plan s.jobs in
    let laid = h.holds.memory.slots.laid in
    let high : (k : ℕ) → k < p.peak → stack_words (stack_of (p.slots k)) ≤ p.size = λ k hk. ⊎_elim
    (λ (e : stack_words (stack_of (p.slots k)) ≡ 0). omega (arith, e))
    (λ (l : stack_words (stack_of (p.slots k)) < p.size). omega (arith, l))
    (slot_high p k (p.slots k) (laid.slots k hk)) in
    omega (arith, session_kept x cpu plan s o h, from_few true cpu.core 160 (plan.stacks - 160), slots_few cpu.core p plan.peak high, laid.low, laid.first, h.holds.memory.inside, h.holds.memory.directory.small)
