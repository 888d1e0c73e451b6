-- The accidental entry on the machine's own registers.
use Rattle.std.proofs.Common.{◌≡◌, ℕ, ◌+◌, List, [], map, None, refl, sym, ap, arith, inl, inr, ⊎_elim, subst}
use Rattle.std.proofs.lemmas.Bool.{cases_eq}
use Rattle.b67_word.specs.declared.couples.Place.{Place}
use Rattle.b67_model.specs.Common.{Array, Answer, Done}
use Rattle.b67_layout.specs.Common.{IsInOrderButCounts, machine_view, stack_of_task, IsMade, Meets, with_job, RepresentsSession, RepresentsSessionBut}
use Rattle.b67_stack.specs.declared.Cpu.{Cpu}
use Rattle.b67_stack.specs.declared.Step.{Step}
use Rattle.b67_stack.specs.declared.Step.TheVariants as step
use Rattle.b67_stack.specs.MachineView.{PagedObject}
use Rattle.b67_layout.proofs.Gone.{no_objects_gone}
use Rattle.b67_layout.proofs.Starts.{runs_here}
use Rattle.b67_refer.specs.RunningContext.{RunningContext}
use Rattle.b67_refer.proofs.Scenes.{scene}
use Rattle.b67_stack.proofs.ClearHeads.{clear_settled}
use Rattle.b67_entry.specs.Procedures.{ReachesProc, CanEnter, RecordEntered, EntersOrFaults}

module _ (cpu : Cpu) (a : RunningContext cpu.core cpu.regs) where
  -- the scene with nothing to release
  abbrev pub plain_scene : IsInOrderButCounts a.session → RepresentsSession a.storage cpu a.plan a.session → RunningContext cpu.core cpu.regs
  plain_scene o h = scene [] a.storage cpu.core cpu.regs cpu.critical a.plan a.session a.member a.task o h.holds a.running

module _ (cpu : Cpu) (a : RunningContext cpu.core cpu.regs) (q : Place) (at f segment level : ℕ) (place : Place) (e : ReachesProc cpu a q at f segment level place) where
  pub plain_enters : CanEnter cpu cpu.regs (plain_scene cpu a e.ordered e.stands) q at f segment level place
  plain_enters = record {
    slot = refl;
    marks = refl;
    clear = λ room. clear_settled a.storage cpu.core cpu.regs (machine_view a.plan a.session.jobs) cpu.regs.slot (stack_of_task a.plan a.member.constants.number a.member.progress.job a.plan.running a.task) e.stands.holds.memory (runs_here a.storage cpu a.plan a.session a.member a.task e.stands a.running) room e.stands.holds.settled;
    procedure = record {
      own = e.procedure.own;
      offset = e.procedure.offset;
      cell = record { address = e.procedure.cell.address; names = e.procedure.cell.names; found = e.procedure.cell.found; word = e.procedure.cell.word; there = e.procedure.cell.there; stands = e.procedure.cell.stands };
    };
  }

  made : (new : Cpu) (answer : Answer Done) → RecordEntered (plain_scene cpu a e.ordered e.stands) new answer → IsMade a.storage a.plan a.session a.member cpu new answer
  made new answer d =
      let L : List PagedObject → Type 0 = λ left. RepresentsSessionBut left a.storage new a.plan (with_job a.session a.member d.job) in
      record {
        job = d.job;
        touched = None;
        is = d.is;
        present = tt;
        stands = subst L (sym (no_objects_gone a.plan a.member d.job (ap (map (λ (b : Array). b.identity)) d.arrays))) d.stands;
        changed = λ i. ⊎_elim
            (λ (z : i ≡ cpu.regs.s + 1). inr (inl (omega (arith, z, d.low), omega (arith, z, d.room))))
            (λ n. ⊎_elim
            (λ (z : i ≡ cpu.regs.s + 2). inr (inl (omega (arith, z, d.low), omega (arith, z, d.room))))
            (λ o. inl (d.changed i n o))
            (cases_eq i (cpu.regs.s + 2)))
            (cases_eq i (cpu.regs.s + 1));
      }

  pub plain_meets : (new : Cpu) (answered : Step) (answer : Answer Done) → EntersOrFaults (plain_scene cpu a e.ordered e.stands) answered cpu new answer → Meets a.storage a.plan a.session a.member answered cpu new answer
  plain_meets new step.Done answer d = made new answer d
  plain_meets new (step.Fault fault) answer d = d
  plain_meets new (step.Absent found) answer d = absurd d
  plain_meets new (step.Call n) answer d = absurd d
  plain_meets new step.Ended answer d = absurd d
