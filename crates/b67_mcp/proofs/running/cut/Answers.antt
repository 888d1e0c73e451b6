use Rattle.std.proofs.Common.{List, length, ap, inl, refl, subst}
use Rattle.std.specs.List.{slice_get}
use Rattle.b67_word.specs.Tagged.{Tagged}
use Rattle.b67_word.specs.declared.couples.Place.{Place}
use Rattle.b67_layout.specs.Meets.{with_job}
use Rattle.b67_mcp.specs.Printed.{job_cut}
use Rattle.b67_task.specs.declared.tables.Machine.{Machine}
use Rattle.b67_task.specs.Tables.{MachineRepresents}
use Rattle.b67_mcp.proofs.Cut.{tables_cut, storage_same}
use Rattle.b67_mcp.proofs.running.cut.Goals as goal

pub cut_call-requires-clause-call : goal.cut_call-requires-clause-call
cut_call-requires-clause-call c =
    let q = c.requires.reads.runs in
    record { runs = record { storage = q.storage; plan = q.plan; session = q.session; member = q.member; task = q.task; ordered = q.ordered; stands = q.stands.session; running = q.running }; may = c.requires.may }

pub returns-clause-stands : goal.returns-clause-stands
returns-clause-stands c = λ x told plan s m t o h runs code may next behind.
    (let k = c.args.machine.now in
    let new : Machine = record k { cpu = c.cut_call.new.cpu; tasks = record k.tasks { printed = 0 } } in
    let P : Place → Type 0 = λ q. MachineRepresents x told new plan (with_job s m (job_cut m t q)) in
    subst P (c.next_place-next.ensures.behind x told plan s m t o h runs code next behind) (record {
      session = c.cut_call.ensures.stands x plan s m t o h.session runs may;
      storage = storage_same x told k c.cut_call.new.cpu.core c.cut_call.ensures.core h.storage;
      tables = tables_cut plan s m t o runs may c.next_place-next.result k.tasks h.tables;
    }))

pub returns-clause-kept : goal.returns-clause-kept
returns-clause-kept c = record { core = ap (λ (l : List Tagged). length l) c.cut_call.ensures.core; sectors = refl; given = refl }

pub returns-clause-changed : goal.returns-clause-changed
returns-clause-changed c = λ i. inl (ap (λ (l : List Tagged). slice_get l i) c.cut_call.ensures.core)
