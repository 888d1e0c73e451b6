-- What steps print and why they stop, of any run over a device that tells.
use Rattle.std.proofs.Common.{◌≡◌, ◌≤◌, ◌<◌, ◌+◌, ◌⊎◌, inl, inr, ℕ, List, [], ◌++◌, length, take, refl, sym, ap, subst, ◌∙◌, arith, Option, Some, None}
use Rattle.std.specs.Prelude.{IfSome}
use Rattle.b67_io.specs.Line.{ended}
use Rattle.b67_model.specs.Common.{Session, RunLine, StepsFit, NextFits, TakesSectors, after, lines, run_text, need, need_next, live_tasks}
use Rattle.b67_law.specs.Turns.{IsNext}
use Rattle.b67_task.specs.declared.tables.Machine.{Machine}
use Rattle.b67_session_lines.specs.Stops.{Run}
use Rattle.b67_job.specs.declared.summaries.Closing.{Closing}
use Rattle.b67_job.specs.Device.{Device, DeviceTells}
use Rattle.b67_job.specs.Lines.{no_core_line, backing_full_line, backing_fault_line, summary}
use Rattle.b67_job.specs.Texts.{Text, whole_of}
use Rattle.b67_job.specs.Runs.{StandsAfter, StopsInRun, IsWithinHalt, IsHaltedAt, StopsOpened, all_end, halt_comes, step_wants_core, step_wants_sectors, step_fails, IsPrintingNext}
use Rattle.b67_promises.specs.Described as described
use Rattle.b67_promises.specs.Described.{BeginsLonger, MakesSteps, StopsAfter}
use Rattle.b67_promises.proofs.CallsDescribed.{fit_more, longer, longer_then, some_live, takes, within_next}
use Rattle.b67_promises.proofs.MoreCore.{next_need}

within_less : (o : Option ℕ) (steps : ℕ) → IfSome o (λ count. steps < count) → IfSome o (λ count. steps ≤ count)
within_less o steps h = grind arith

module _ {B : Type 0} (d : Device B) (tells : DeviceTells d) (core : ℕ) (r : Run) where
  abbrev lines_of : ℕ → List ℕ
  lines_of steps = run_text (lines steps r.session)

  text_so : (steps : ℕ) (s : Session) (printed : List RunLine) (text : Text) (line : List ℕ) → StandsAfter d steps r.session s printed → text ≡ record { front = run_text printed; last = line } → whole_of text ≡ lines_of steps ++ line
  text_so steps s printed text line comes is = ap whole_of is ∙ ap (λ (ls : List RunLine). run_text ls ++ line) (comes.lines_are tells)

  lives_so : (steps : ℕ) (k : Machine) (stop : StopsInRun d steps r.session k) → 0 < live_tasks (after steps r.session).jobs
  lives_so steps k stop = subst (λ (z : Session). 0 < live_tasks z.jobs) (stop.comes.session tells) (some_live stop.session stop.member stop.task stop.next)

  needs_so : (steps : ℕ) (k : Machine) (stop : StopsInRun d steps r.session k) → need_next core (after steps r.session) ≡ Some (need core stop.session stop.member stop.task)
  needs_so steps k stop = ap (need_next core) (sym (stop.comes.session tells)) ∙ next_need core stop.session stop.member stop.task stop.next

  -- such a status and such a text are due of a run that stops after so many steps
  pub record StopIsDue (steps due : ℕ) (whole : List ℕ) : Type 0 where
    pub not_halted : due ≡ 3 → ⊥
    pub within : IsWithinHalt r steps
    pub line : List ℕ
    pub stops : StopsAfter None core d.sectors r steps due line
    pub text : whole ≡ lines_of steps ++ line

  status_is : (due n : ℕ) → due ≡ n → (n ≡ 3 → ⊥) → due ≡ 3 → ⊥
  status_is due n e other three = other (sym e ∙ three)

  pub stop_so : (closing : Closing) → ((n : ℕ) → summary closing n ≡ []) → (steps : ℕ) (k : Machine) (due : ℕ) (text : Text) → StopsOpened d core steps r closing k due text → StopIsDue steps due (whole_of text) ⊎ ((due ≡ 3) × IsHaltedAt d steps r closing k text)
  stop_so closing none steps k due text (all_end z h) = inl (record {
    not_halted = status_is due 0 z (λ e. omega (arith, e));
    within = h.within;
    line = [];
    stops = described.no_task_lives z (subst (λ (x : Session). live_tasks x.jobs ≡ 0) (h.comes.session tells) h.rests.none) refl;
    text = text_so steps h.session h.printed text (summary closing k.tasks.made) h.comes h.text_is ∙ ap (λ (l : List ℕ). lines_of steps ++ l) (none k.tasks.made);
  })
  stop_so closing none steps k due text (halt_comes z h) = inr (z, h)
  stop_so closing none steps k due text (step_wants_core z h) =
      let line = ended (no_core_line (need core h.stop.session h.stop.member h.stop.task) core) in
      inl (record {
        not_halted = status_is due 4 z (λ e. omega (arith, e));
        within = within_less r.halt steps h.due;
        line = line;
        stops = described.next_wants_core (need core h.stop.session h.stop.member h.stop.task) z h.due (needs_so steps k h.stop) h.exceeds refl;
        text = text_so steps h.stop.session h.stop.printed text line h.stop.comes h.text_is;
      })
  stop_so closing none steps k due text (step_wants_sectors z h) =
      let line = ended (backing_full_line h.sum d.sectors) in
      let n = subst (λ (x : Session). IsNext x h.stop.member h.stop.task) (h.stop.comes.session tells) h.stop.next in
      let t = subst (λ (x : Session). TakesSectors x h.stop.member h.stop.task h.sum) (h.stop.comes.session tells) (takes h.tells) in
      inl (record {
        not_halted = status_is due 5 z (λ e. omega (arith, e));
        within = within_less r.halt steps h.due;
        line = line;
        stops = described.next_wants_sectors h.stop.member h.stop.task h.sum z h.due n t h.exceeds refl;
        text = text_so steps h.stop.session h.stop.printed text line h.stop.comes h.text_is;
      })
  stop_so closing none steps k due text (step_fails z failed h) = inl (record {
    not_halted = status_is due 6 z (λ e. omega (arith, e));
    within = within_less r.halt steps h.due;
    line = ended backing_fault_line;
    stops = described.device_fails z h.due (lives_so steps k h.stop) refl;
    text = text_so steps h.stop.session h.stop.printed text (ended backing_fault_line) h.stop.comes h.text_is;
  })

  -- the printer failed in the lines of so many steps
  pub record LinesAreCut (out : List ℕ) : Type 0 where
    pub steps : ℕ
    pub made : MakesSteps core r steps
    pub begins : BeginsLonger out (lines_of steps)

  pub cut_so : (steps : ℕ) (k : Machine) (text : Text) (count : ℕ) → StepsFit core steps r.session → count < length text.last → IsPrintingNext d core steps r k text → LinesAreCut (text.front ++ take count text.last)
  cut_so steps k text count fit proper (inl c) =
      let b = c.begins tells in
      let next : NextFits core (after steps r.session) = record { words = need core c.stop.session c.stop.member c.stop.task; needs = needs_so steps k c.stop; fits = c.room tells } in
      record {
        steps = steps + 1;
        made = record { within = within_next r.halt steps c.due; fit = fit_more core steps r.session fit next };
        begins = subst (λ (xs : List ℕ). BeginsLonger (text.front ++ take count text.last) xs) b.1 (longer_then (text.front ++ take count text.last) (whole_of text) b.0 (longer text.front text.last count proper));
      }
  cut_so steps k text count fit proper (inr c) = record {
    steps = steps;
    made = record { within = c.within; fit = fit };
    begins = subst (λ (xs : List ℕ). BeginsLonger (text.front ++ take count text.last) xs) (c.exact tells).all (longer text.front text.last count proper);
  }
