-- A call whose array was changed first: its machine represents the session with that array, and then for what its row makes.
use Rattle.std.proofs.Common.{◌≡◌, ℕ, zero, suc, ◌^◌, ◌<◌, ◌-◌, List, [], ◌∷◌, ◌++◌, take, Option, refl, subst, arith}
use Rattle.std.specs.List.{AllByRecursion}
use Rattle.b67_word.specs.declared.couples.Place.{Place}
use Rattle.b67_model.specs.Common.{Array, Task, SessionJob, with_task, with_array, all_zero, resized, answered, ArrayInOrder, Session}
use Rattle.b67_stack.specs.declared.Cpu.{Cpu}
use Rattle.b67_stack.specs.Represents.{Storage}
use Rattle.b67_layout.specs.Common.{IsInOrderButCounts, Placement, IsRunning, RepresentsSession, here, with_job}
use Rattle.b67_layout.proofs.Awaits.{with_job-twice}
use Rattle.b67_layout_step.proofs.Arrays.{Renumbers}
use Rattle.b67_law.proofs.Calls.{length_replicate, zeros_low}
use Rattle.b67_mcp.specs.Printed.{MayCut, CutSome, job_cut}
use Rattle.b67_task.specs.declared.tables.Machine.{Machine}
use Rattle.b67_task.specs.Tables.{MachineRepresents}
use Rattle.b67_mcp.proofs.Cut.{tables_cut, storage_same}
use Rattle.b67_mcp.proofs.Ordered.{order_renumbered}
use Rattle.b67_mcp.proofs.Renumbered.{still_runs}
use Rattle.b67_mcp.proofs.SectorSums.{length_resized}

-- such arrays are in order
pub zeros_fit : (a : Array) → ArrayInOrder a → ArrayInOrder (all_zero a)
zeros_fit a g = grind (arith, length_replicate, zeros_low)

first_low : (n : ℕ) (xs ys : List ℕ) → AllByRecursion (λ (m : ℕ). m < 2 ^ 48) xs → AllByRecursion (λ (m : ℕ). m < 2 ^ 48) ys → AllByRecursion (λ (m : ℕ). m < 2 ^ 48) (take n xs ++ ys)
first_low zero [] ys all more = more
first_low zero (x ∷ xs) ys all more = more
first_low (suc n) [] ys all more = more
first_low (suc n) (x ∷ xs) ys all more = (all.0, first_low n xs ys all.1 more)

pub resized_fit : (n : ℕ) → 0 < n → n < 2 ^ 16 → (a : Array) → ArrayInOrder a → ArrayInOrder (resized n a)
resized_fit n low high a g = grind (arith, length_resized, first_low, zeros_low)

module _ (plan : Placement) (s : Session) (m : SessionJob) (t : Task) (o : IsInOrderButCounts s) (runs : IsRunning plan s.jobs m t) (id : ℕ) (f : Array → Array) (keeps : Renumbers f) (fits : (x : Array) → ArrayInOrder x → ArrayInOrder (f x)) (may : MayCut m t)
    (y : Storage) (told : Option (List (List ℕ))) (mid : Machine) (stands : MachineRepresents y told mid plan (with_job s m (with_array m.progress.job id f))) where
  abbrev pub changed : SessionJob
  changed = record m { progress = record m.progress { job = with_array m.progress.job id f } }

  pub order_changed : IsInOrderButCounts (with_job s m (with_array m.progress.job id f))
  order_changed = order_renumbered m id f keeps fits s runs.member o

  pub runs_changed : IsRunning plan (with_job s m (with_array m.progress.job id f)).jobs (record m { progress = record m.progress { job = with_array m.progress.job id f } }) t
  runs_changed = still_runs plan s m t (with_array m.progress.job id f) runs refl

  pub may_changed : MayCut (record m { progress = record m.progress { job = with_array m.progress.job id f } }) t
  may_changed = record { marked = may.marked; plain = may.plain; free = may.free }

  pub cuts : CutSome mid.cpu
  cuts = record {
    runs = record { storage = y; plan = plan; session = with_job s m (with_array m.progress.job id f); member = changed; task = t; ordered = order_changed; stands = stands.session; running = runs_changed };
    may = may_changed;
  }

  -- once the call is cut
  pub stands_cut : (cpu : Cpu) (next : Place) → cpu.core ≡ mid.cpu.core
      → RepresentsSession y cpu plan (with_job (with_job s m (with_array m.progress.job id f)) (record m { progress = record m.progress { job = with_array m.progress.job id f } }) (job_cut (record m { progress = record m.progress { job = with_array m.progress.job id f } }) t next))
      → MachineRepresents y told (record mid { cpu = cpu }) plan (with_job s m (with_task (with_array m.progress.job id f) (answered (here m t next) [])))
  stands_cut cpu next core session =
      let s1 : Session = with_job s m (with_array m.progress.job id f) in
      let P : Session → Type 0 = λ z. MachineRepresents y told (record mid { cpu = cpu }) plan z in
      subst P (with_job-twice s m (with_array m.progress.job id f) (with_task (with_array m.progress.job id f) (answered (here m t next) []))) (record {
        session = session;
        storage = storage_same y told mid cpu.core core stands.storage;
        tables = tables_cut plan s1 changed t order_changed runs_changed may_changed next mid.tasks stands.tables;
      })
