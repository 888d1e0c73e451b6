-- A session whose job has other tasks is in order but for its counts, if these are.
use Rattle.std.proofs.Common.{◌≡◌, ℕ, ◌-◌, ◌^◌, ◌<◌, List, [], ◌∷◌, flat_map, length, Option, Some, Ok, refl, sym, ◌∙◌, ap, arith, unwrap_or, subst, ◌==◌, ◌&&◌, ◌⊎◌}
use Rattle.std.specs.Option.{ok_or}
use Rattle.std.proofs.lemmas.Bool.Decides.{eqb_tells}
use Rattle.b67_word.specs.declared.couples.Place.{Place}
use Rattle.b67_word.specs.declared.faults.Fault.TheVariants.{InvalidAddress}
use Rattle.b67_lemmas.proofs.Members.{all_in, keyed_has, keyed_left, length_change, total_change}
use Rattle.b67_lemmas.proofs.Keyed.{change_is, all_change}
use Rattle.b67_lemmas.proofs.Sums.{sum_total}
use Rattle.b67_model.specs.Common.{Answer, Word, Operand, Frame, Condition, Ready, Task, Job, SessionJob, mcp, no_frame, frame, cell, with_cell, woken_at, number_of, Session, IsSegment, TasksInOrder, NumberedFrom}
use Rattle.b67_model.specs.Keyed.{keyed, change_keyed}
use Rattle.b67_law.proofs.Looks.{found_frame}
use Rattle.b67_law.proofs.Maps.{HoldsOperand, cell_stored, map_good, frames_refl}
use Rattle.b67_layout.specs.Common.{JobInOrderButCounts, IsInOrderButCounts, here, with_job}
use Rattle.b67_layout.proofs.LeftSettles.{numbered_course}
use Rattle.b67_mcp.proofs.Waking.{wake_job}

pub order_with : (s : Session) (m : SessionJob) (job : Job) → keyed number_of m.constants.number s.jobs ≡ Some m → IsInOrderButCounts s → TasksInOrder (IsSegment m.constants) m.constants job
    → job.next_task ≡ m.progress.job.next_task → length job.tasks ≡ length m.progress.job.tasks → IsInOrderButCounts (with_job s m job)
order_with s m job member o good next same =
    let there = (keyed_has number_of m.constants.number s.jobs m member).0 in
    let n : ℕ = m.constants.number in
    let Good : SessionJob → Type 0 = λ y. JobInOrderButCounts (IsSegment y.constants) y.constants y.progress in
    let after : SessionJob = record m { progress = record m.progress { job = job } } in
    let jobs' : List SessionJob = change_keyed number_of n (λ (y : SessionJob). after) s.jobs in
    let changed : (with_job s m job).jobs ≡ jobs' = change_is number_of n (λ (y : SessionJob). record y { progress = record m.progress { job = job } }) m s.jobs member in
    let own = all_in Good s.jobs m o.jobs there in
    let size : SessionJob → Type 0 = λ y. y.constants.stack_size ≡ o.one_size.0 in
    let alive : SessionJob → ℕ = λ y. length y.progress.job.tasks in
    let P : List SessionJob → Type 0 = λ jobs. IsInOrderButCounts (record s { jobs = jobs }) in
    subst P (sym changed) (record {
      few = omega (arith, o.few, length_change number_of n after s.jobs);
      numbered = subst (NumberedFrom 1) changed (numbered_course 1 n (record m.progress { job = job }) s.jobs o.numbered);
      one_size = (o.one_size.0, all_change size number_of n after s.jobs o.one_size.1 (all_in size s.jobs m o.one_size.1 there));
      jobs = all_change Good number_of n after s.jobs o.jobs (record { unchanging = own.unchanging; tasks = good; few_born = subst (λ (i : ℕ). i < 2 ^ 48) (sym next) own.few_born });
      peak_low = omega (arith, o.peak_low, sum_total alive s.jobs, sum_total alive jobs', total_change number_of alive n m after s.jobs member, same);
      peak_high = o.peak_high;
    })

woken_same : (f offset : ℕ) (c : Condition) → (woken_at f offset c ≡ c) ⊎ (woken_at f offset c ≡ Ready)
woken_same f offset c = grind arith

some_ok : (o : Option Word) (w : Word) → ◌≡◌ {A = Answer Word} (ok_or o InvalidAddress) (Ok w) → o ≡ Some w
some_ok o w e = grind arith

module _ (m : SessionJob) (t : Task) (q : Place) (order : TasksInOrder (IsSegment m.constants) m.constants m.progress.job) (f offset bits : ℕ) (own : 1 < f) (found : cell (here m t q) f offset ≡ Ok (Operand bits)) where
  -- whichever live frame has the identity holds an operand there
  holds : HoldsOperand m.progress.job f offset
  holds u live g among is w k =
      let here_g : frame (here m t q) f ≡ g = subst (λ (i : ℕ). frame (here m t q) i ≡ g) is
      (ap (λ (z : Option Frame). unwrap_or z no_frame) (keyed_left (λ (x : Frame). x.identity) g.identity (flat_map (λ (v : Task). v.frames) m.progress.job.tasks) (m.constants.dictionary ∷ mcp ∷ []) g
      (found_frame (IsSegment m.constants) m.constants m.progress.job order g (record { task = u; live = live; among = among })))) in
      grind (arith, eqb_tells)

  -- the job is in order with 1 stored there, and with its waiters ready
  pub caused_order : TasksInOrder (IsSegment m.constants) m.constants (wake_job (woken_at f offset) (with_cell m.progress.job f offset (Operand 1)))
  caused_order =
      let stored = cell_stored (IsSegment m.constants) m.constants m.progress.job f offset 1 (omega arith) holds order in
      map_good (IsSegment m.constants) m.constants (with_cell m.progress.job f offset (Operand 1)) (λ (u : Task). record u { condition = woken_at f offset u.condition }) (λ u. refl)
      (λ u k. record { number = refl; line = refl; critical = refl; segment = refl; place = refl; frames = frames_refl u.frames; condition = woken_same f offset u.condition }) stored
