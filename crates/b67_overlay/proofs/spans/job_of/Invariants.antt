use Rattle.std.proofs.Common.{◌≡◌, ℕ, ◌+◌, ◌-◌, ◌<◌, ◌≤◌, List, length}
use Rattle.b67_stack.specs.MachineView.{MachineView}
use Rattle.b67_overlay.specs.Spans.{Families, ShowsFamilies, DictionariesLie, job_at}
use Rattle.b67_overlay.proofs.spans.job_of.Given as goal

abbrev pub invariant-dictionaries : goal.invariant-dictionaries
invariant-dictionaries l = record {
  small : l.job + 160 ≤ l.at;
  each : (p : MachineView) (f : Families) → ShowsFamilies l.core p f → p.stacks ≤ length l.core → l.fn.address < p.stacks
      → (rest : List ℕ) × DictionariesLie l.core p.stacks l.at rest × (job_at 160 f.entries 0 l.fn.address ≡ job_at l.at rest l.job l.fn.address);
}

abbrev pub decreases-dictionaries : goal.decreases-dictionaries
decreases-dictionaries l = l.address + 1 - l.at
