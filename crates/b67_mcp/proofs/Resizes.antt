-- A call of RESIZE that found its array present: what it makes, touches and leaves.
use Rattle.std.proofs.Common.{◌≡◌, ◌≢◌, ℕ, ◌+◌, ◌-◌, ◌<◌, List, [], ◌++◌, length, take, replicate, Option, Some, None, Ok, Err, refl, sym, ◌∙◌, ap, arith, inl, inr, ⊎_elim}
use Rattle.b67_backing.specs.Held.{sectors_for}
use Rattle.b67_lemmas.specs.Lists.{Has}
use Rattle.b67_lemmas.proofs.Keyed.{changed_there}
use Rattle.b67_model.specs.Common.{Array, Task, SessionJob, with_array, resized, Done, Goes, step, Session}
use Rattle.b67_stack.specs.Common.{Location, Storage}
use Rattle.b67_exec_cells.specs.Running.{code_area}
use Rattle.b67_layout.specs.Common.{IsInOrderButCounts, Placement, IsRunning}
use Rattle.b67_mcp.specs.Lengthening.{ResizeMeets, job_resized}
use Rattle.b67_mcp.specs.declared.resize.Resizing.TheVariants as resizing
use Rattle.b67_task.specs.declared.tables.Machine.{Machine}
use Rattle.b67_task.specs.Tables.{MachineRepresents}
use Rattle.b67_mcp.specs.declared.ends.CallEnd.TheVariants as ends
use Rattle.b67_mcp.specs.declared.ends.Stop.{Stop}
use Rattle.b67_mcp.specs.declared.ends.Stop.TheVariants as stops
use Rattle.b67_mcp.specs.Called.{TouchesPresent, CallTouches, CallWrites, Lengthens}
use Rattle.b67_mcp.specs.Resizing.{LengthSet, ResizeAnswers}
use Rattle.b67_mcp.proofs.Callings.{Calling}
use Rattle.b67_mcp.proofs.Space.{code_elsewhere}
use Rattle.b67_mcp.proofs.Renumbered.{found}
use Rattle.b67_mcp.proofs.Lengthened.{resized_renumbers}
use Rattle.b67_mcp.proofs.SectorSums.{length_resized, same_sectors}

module _ (x : Storage) (told : Option (List (List ℕ))) (old : Machine) (plan : Placement) (s : Session) (m : SessionJob) (t : Task) (o : IsInOrderButCounts s) (h : MachineRepresents x told old plan s) (runs : IsRunning plan s.jobs m t)
    (k : Calling m t 18) (original before after : ℕ) (q : ResizeMeets x plan m t k.arguments (Ok (resizing.Lengths original before after))) where
  abbrev pub it : Array
  it = q.0.which.array

  pub makes : step m.constants m.progress.job t ≡ Ok (Goes (job_resized m t q.0.which.array.identity after k.next) [] (Some q.0.which.array.identity))
  makes = k.is ∙ q.0.makes k.next

  pub there_after : before < after → length q.0.which.array.numbers < length (resized after q.0.which.array).numbers
  there_after up = let long = length_resized after q.0.which.array.numbers in let is = q.1 in omega (arith, up, long, is)

  pub found_after : Has (with_array m.progress.job q.0.which.array.identity (resized after)).arrays (resized after q.0.which.array)
  found_after = changed_there (λ (z : Array). z.identity) q.0.which.array.identity (resized after) m.progress.job.arrays q.0.which.array (found x told old plan s h m t o runs q.0.which.array q.0.which.among (resized after) (resized_renumbers after))

  -- a greater length
  abbrev pub lengthens : before < after → Lengthens m t
  lengthens up = record {
    job = job_resized m t q.0.which.array.identity after k.next;
    touched = Some q.0.which.array.identity;
    is = makes;
    array = q.0.which.array;
    after = resized after q.0.which.array;
    among = q.0.which.among;
    still = found_after;
    same = refl;
    longer = there_after up;
  }

  pub touches : TouchesPresent x plan m t
  touches n e = grind arith

  pub touches_stopped : (stop : Stop) → CallTouches x plan m t (Err stop)
  touches_stopped stop = grind arith

  -- a stop
  pub refused : (d : Option (List (List ℕ))) (count : ℕ) (new : Machine) (stop : Stop) → code_area x plan m t ≢ None → before < after → LengthSet d count x plan s m q.0.which.array after (Err stop) old new → ResizeAnswers d count x plan s m t (Err stop) old new
  refused d count new (stops.BackingFull sum size) code up set =
      let long : sectors_for after ≡ sectors_for (length (take after q.0.which.array.numbers ++ replicate (after - length q.0.which.array.numbers) 0)) = ap sectors_for (sym (length_resized after q.0.which.array.numbers)) in
      record {
        refused = record { longer = lengthens up; storage = set.left.storage; stands = set.left.stands; others = set.left.others; tables = set.left.tables };
        wants = set.wants;
        free = set.free;
        short = ⊎_elim (λ l. inl l) (λ l. inr (record { longer = lengthens up; chain = l.chain; wants_is = l.wants_is ∙ long; free_is = l.free_is; fewer = l.fewer })) set.short;
        touches = refl;
        code = λ none. code (ap (λ (l : Location). l.area) (sym (set.left.others (plan.dictionary m.constants.number + 1 + t.segment) (code_elsewhere x old.cpu plan s m t o h.session runs q.0.which.array q.0.which.among))) ∙ none);
        room = set.room;
        sum_is = set.sum_is ∙ sym (same_sectors s m (with_array m.progress.job q.0.which.array.identity (resized after)) (job_resized m t q.0.which.array.identity after k.next) runs.member refl);
        size_is = set.size_is;
        exceeds = set.exceeds;
      }
  refused d count new stops.BackingFault code up set = record { longer = lengthens up; storage = set.storage; stands = set.stands; others = set.others; tables = set.tables }
  refused d count new (stops.NoCore need core) code up set = absurd set
  refused d count new stops.PrintFault code up set = absurd set

  -- the device may have been written only then
  pub writes_done : before < after → CallWrites x plan m t (Ok ends.Done)
  writes_done up = inl (lengthens up, touches)

  pub writes_stopped : (y : Storage) (d : Option (List (List ℕ))) (count : ℕ) (new : Machine) (stop : Stop) → before < after → LengthSet d count y plan s m q.0.which.array after (Err stop) old new → CallWrites x plan m t (Err stop)
  writes_stopped y d count new (stops.BackingFull sum size) up set = inl (lengthens up, touches)
  writes_stopped y d count new stops.BackingFault up set = inl (lengthens up, touches)
  writes_stopped y d count new (stops.NoCore need core) up set = absurd set
  writes_stopped y d count new stops.PrintFault up set = absurd set
