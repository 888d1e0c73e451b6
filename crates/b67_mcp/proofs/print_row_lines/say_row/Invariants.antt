use Rattle.std.proofs.Common.{◌≡◌, ◌≤◌, ◌*◌, ◌++◌, ℤ, List, Some, drop}
use Rattle.b67_model.specs.Lines.{task_name, row_text}
use Rattle.b67_mcp.specs.Texts.{values_of, still, FitsLine, IsPrinting}
use Rattle.b67_mcp.proofs.print_row_lines.say_row.Given as goal

abbrev pub invariant-loop-w : goal.invariant-loop-w
invariant-loop-w g l = record {
  short : FitsLine l.begun.line l.begun.room;
  start : l.begun.start ≤ 182 * l.w-index;
  later : g.K.Sink.faults l.fn.paper ≤ g.K.Sink.faults l.paper;
  left : (vs : List ℤ) × (values_of (drop l.w-index l.row) ≡ Some vs) × ((all : List ℤ) → values_of l.row ≡ Some all
      → IsPrinting g.K.Sink.taken l.fn.paper l.paper (task_name l.job l.task ++ row_text (task_name l.job l.task) 10 all) l.fn.printed l.printed l.begun.start (still (task_name l.job l.task) l.begun.line l.begun.room vs));
}
