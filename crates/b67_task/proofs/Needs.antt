-- What the code reads is what the need is made of.
use Rattle.std.proofs.Common.{◌≡◌, ℕ, ◌+◌, ◌*◌, ◌^◌, ◌<◌, ◌≤◌, List, [], ◌∷◌, Option, map, length, sym, ◌∙◌, ap, arith, ⊎_elim}
use Rattle.std.specs.Prelude.{sum_by, max, nat_lt, if◌then◌else◌}
use Rattle.std.proofs.lemmas.List.{length-map}
use Rattle.std.proofs.lemmas.Bool.{cases_eq, eq-eqb, ne_eqb}
use Rattle.std.proofs.lemmas.Nat.{mul-le}
use Rattle.std.proofs.lemmas.List.Sums.{sum_by-cons}
use Rattle.b67_model.specs.Common.{Task, Job, SessionJob, array, Answer, Done, fixed, touched_of, started_by, area_of, need, code_of, step, live_tasks, number_of, Session}
use Rattle.b67_layout.specs.Common.{IsInOrderButCounts, Placement, DictionariesFollow, IsRunning}
use Rattle.b67_stack.specs.Represents.{Storage}
use Rattle.b67_task.specs.declared.tables.Machine.{Machine}
use Rattle.b67_task.specs.Tables.{MachineRepresents, task_row, job_row, counts_of}
use Rattle.b67_exec_cells.proofs.Codes.{short}
use Rattle.b67_task.specs.Needing.{array_area, need_with, touched_words, HasWords}
use Rattle.b67_layout.proofs.LiveRows.{rows_live}
use Rattle.b67_lemmas.proofs.Members.{keyed_has}

pub follow_all : (plan : Placement) (at : ℕ) (jobs : List SessionJob) → DictionariesFollow plan at jobs → at + sum_by (λ (m : SessionJob). 2 + length m.constants.dictionary.cells) jobs ≡ plan.stacks
follow_all plan at [] d = omega (arith, d)
follow_all plan at (m ∷ more) d = omega (
  arith,
  follow_all plan (at + (2 + length m.constants.dictionary.cells)) more d.1,
  sum_by-cons (λ (y : SessionJob). 2 + length y.constants.dictionary.cells) m more,
)

-- the numbers that the code reads
pub record Read (k : Machine) (s : Session) (m : SessionJob) (t : Task) : Type 0 where
  pub stacks : k.cpu.regs.stacks ≡ fixed s.jobs
  pub peak : k.cpu.regs.peak ≡ s.peak
  pub size : k.cpu.regs.stack_size ≡ m.constants.stack_size
  pub live : length k.tasks.rows.items ≡ live_tasks s.jobs
  pub low : k.cpu.regs.stacks < 2 ^ 20
  pub small : k.cpu.regs.stack_size < 2 ^ 14
  pub few : s.peak ≤ 120
  pub within : live_tasks s.jobs ≤ s.peak
  pub short : length (code_of m.constants t.segment) < 2 ^ 13

pub read : (x : Storage) (told : Option (List (List ℕ))) (k : Machine) (plan : Placement) (s : Session) (m : SessionJob) (t : Task) → IsInOrderButCounts s → MachineRepresents x told k plan s → IsRunning plan s.jobs m t → Read k s m t
read x told k plan s m t o h runs =
    let holds = h.session.holds in
    let slots = holds.memory.slots in
    record {
      stacks = slots.regs.stacks ∙ sym (follow_all plan 160 s.jobs holds.fits.dictionaries);
      peak = slots.regs.peak ∙ holds.fits.peak;
      size = slots.regs.size ∙ sym (holds.fits.sizes m (keyed_has number_of m.constants.number s.jobs m runs.member).0);
      live = sym (length-map k.tasks.rows.items task_row) ∙ rows_live plan s o holds.fits.rows (map task_row k.tasks.rows.items) (map job_row k.tasks.jobs) (counts_of k.tasks) h.tables;
      low = omega (arith, slots.regs.stacks, slots.laid.low, holds.memory.inside, holds.memory.directory.small);
      small = omega (arith, slots.regs.size, slots.laid.room);
      few = o.peak_high;
      within = o.peak_low;
      short = short x k.cpu plan s m t o h.session runs;
    }

pub area_low : (n : ℕ) → n < 2 ^ 16 → array_area n ≤ n + 2
area_low n h = ⊎_elim (λ (e : n ≡ 0). rw (eq-eqb n 0 e) (omega arith)) (λ (ne : n ≡ 0 → ⊥). rw (ne_eqb n 0 ne) (omega arith)) (cases_eq n 0)

area_same : (job : Job) (touched : Option ℕ) → HasWords job touched → area_of job touched ≡ array_area (touched_words job touched)
area_same job touched h = grind arith

-- what a step needs: without a new stack and the array where that much isn't there, else with both
pub need_whole : (core : ℕ) (s : Session) (m : SessionJob) (t : Task) → live_tasks s.jobs ≤ s.peak → (made : Answer Done) → made ≡ step m.constants m.progress.job t → HasWords m.progress.job (touched_of m.constants m.progress.job t made)
    → need core s m t ≡ (if nat_lt core (need_with s m t 0 0) then need_with s m t 0 0 else need_with s m t (started_by m.progress.job made) (touched_words m.progress.job (touched_of m.constants m.progress.job t made)))
need_whole core s m t low made is h = grind arith

module _ (k : Machine) (s : Session) (m : SessionJob) (t : Task) (r : Read k s m t) (stacks peak size : ℕ)
    (peak_is : peak ≡ max k.cpu.regs.peak (length k.tasks.rows.items + stacks)) (size_is : size ≡ k.cpu.regs.stack_size) where
  peak_same : peak ≡ max s.peak (live_tasks s.jobs + stacks)
  peak_same = peak_is ∙ ap (λ (n : ℕ). max n (length k.tasks.rows.items + stacks)) r.peak ∙ ap (λ (n : ℕ). max s.peak (n + stacks)) r.live

  -- the words of all stacks are few
  pub stacks_low : stacks ≤ 1 → peak * size ≤ 121 * 2 ^ 14
  stacks_low one = mul-le peak size 121 (2 ^ 14) (omega (arith, peak_same, one, r.few, r.within)) (omega (arith, size_is, r.small))

  pub need_is : (code words area : ℕ) → code ≡ length (code_of m.constants t.segment) → area ≡ array_area words → k.cpu.regs.stacks + peak * size + (code + 2) + area ≡ need_with s m t stacks words
  need_is code words area code_is area_is = grind arith

-- areas begin behind the dictionaries and the stacks of the slots used so far, so that without a new stack the need is
-- what lies below them, the running segment's area and the array's
module _ (x : Storage) (told : Option (List (List ℕ))) (k : Machine) (plan : Placement) (s : Session) (m : SessionJob) (t : Task) (o : IsInOrderButCounts s) (h : MachineRepresents x told k plan s) (runs : IsRunning plan s.jobs m t) where
  pub low_is : k.areas.low ≡ fixed s.jobs + s.peak * m.constants.stack_size
  low_is =
      let holds = h.session.holds in
      let slots = holds.memory.slots in
      let r = read x told k plan s m t o h runs in
      h.storage.low ∙ slots.laid.low
      ∙ ap (λ (n : ℕ). n + plan.peak * plan.size) (sym (follow_all plan 160 s.jobs holds.fits.dictionaries))
      ∙ ap (λ (n : ℕ). fixed s.jobs + n * plan.size) holds.fits.peak
      ∙ ap (λ (n : ℕ). fixed s.jobs + s.peak * n) (sym slots.regs.size ∙ r.size)

  pub need_above_low : (words : ℕ) → need_with s m t 0 words ≡ k.areas.low + (length (code_of m.constants t.segment) + 2) + array_area words
  need_above_low words = grind (arith, low_is)
