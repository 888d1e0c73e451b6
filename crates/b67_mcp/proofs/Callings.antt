-- The operator that calls an intrinsic: its call on the stack, and the row that it makes.
use Rattle.std.proofs.Common.{◌≡◌, ℕ, List, [], ◌∷◌, reverse, Some, Ok, Err, refl, ◌∙◌, false, arith}
use Rattle.b67_word.specs.declared.couples.Place.{Place}
use Rattle.b67_model.specs.declared.operators.Op.{Op}
use Rattle.b67_model.specs.declared.operators.Op.TheVariants.{Plain}
use Rattle.b67_model.specs.declared.operators.Code.{Code}
use Rattle.b67_model.specs.declared.operators.Code.TheVariants.{Entr}
use Rattle.b67_model.specs.Common.{Answer, ◌>>=◌, Reading, Word, Standing, Marked, Entered, Task, SessionJob, OperatorContext, top, End, AtIntrinsic, follow_reference, is_original, intrinsic, reading_of, step, called_at, called_by, called_on, called}
use Rattle.b67_exec_cells.specs.Called as operators
use Rattle.b67_exec_cells.specs.Called.{called_in}
use Rattle.b67_layout.specs.Meets.{here}
use Rattle.b67_mcp.specs.Printed.{IsCall, CallSome}
use Rattle.b67_task.specs.declared.tables.Machine.{Machine}
use Rattle.b67_mcp.specs.Called.{CallsSome}
use Rattle.b67_mcp.specs.Running.{StandsAtEntr}

-- the call, and the row of the operator
pub record Calling (m : SessionJob) (t : Task) (n : ℕ) : Type 0 where
  pub next : Place
  pub reading : reading_of m.constants t ≡ Ok (Plain Entr, next)
  pub reference : Word
  pub arguments : List Word
  pub call : IsCall t reference arguments
  pub ends : follow_reference (here m t next) reference ≡ Ok (AtIntrinsic n)
  pub is : step m.constants m.progress.job t ≡ intrinsic n (here m t next) arguments

-- a reference that is followed is no original
plain_of : (h : OperatorContext) (w : Word) (end : End) → follow_reference h w ≡ Ok end → is_original w ≡ false
plain_of h w end e = grind arith

ends_at : (e : Answer End) (n : ℕ) → called_at e ≡ Some n → e ≡ Ok (AtIntrinsic n)
ends_at h n e = grind arith

module _ (m : SessionJob) (t : Task) (n : ℕ) (next : Place) (reading : reading_of m.constants t ≡ Ok (Plain Entr, next)) where
  with_cells : (cs : List Word) → reverse (top t.frames).cells ≡ cs → (top t.frames).standing ≡ Marked → called_by (here m t next) cs ≡ Some n → Calling m t n
  unfolding step
  with_cells [] e marked c = absurd cc
  with_cells (r ∷ arguments) e marked c =
      let h = here m t next in
      let end = ends_at (follow_reference h r) n c in
      grind (arith, plain_of)

  standing_in : (st : Standing) → (top t.frames).standing ≡ st → called_on (here m t next) st ≡ Some n → Calling m t n
  standing_in Marked e c = with_cells (reverse (top t.frames).cells) refl e c
  standing_in (Entered level environment back) e c = absurd cc

by_code : (m : SessionJob) (t : Task) (n : ℕ) (next : Place) (code : Code) → reading_of m.constants t ≡ Ok (Plain code, next) → called (Plain code) (here m t next) ≡ Some n → Calling m t n
by_code m t n next Entr e c = standing_in m t n next e (top t.frames).standing refl c
by_code m t n next _ e c = absurd cc

by_op : (m : SessionJob) (t : Task) (n : ℕ) (op : Op) (next : Place) → reading_of m.constants t ≡ Ok (op, next) → called op (here m t next) ≡ Some n → Calling m t n
by_op m t n (Plain code) next e c = by_code m t n next code e c
by_op m t n _ next e c = absurd cc

by_reading : (m : SessionJob) (t : Task) (n : ℕ) (r : Reading) → reading_of m.constants t ≡ r → operators.called_by_reading m t r ≡ Some n → Calling m t n
by_reading m t n (Ok read) e c = by_op m t n read.0 read.1 e c
by_reading m t n (Err why) e c = absurd cc

pub calling : (m : SessionJob) (t : Task) (n : ℕ) → called_in m t ≡ Some n → Calling m t n
calling m t n c = by_reading m t n (reading_of m.constants t) refl c

-- what a function that calls another asks of the machine
abbrev pub reads_of : (k : Machine) (n : ℕ) → CallsSome k n → StandsAtEntr k
reads_of k n q =
    let c = calling q.runs.member q.runs.task n q.called in
    record { runs = q.runs; code = q.code; next = c.next; behind = c.reading }

abbrev pub call_some : (k : Machine) (n : ℕ) → CallsSome k n → CallSome k.cpu
call_some k n q =
    let r = q.runs in
    let c = calling r.member r.task n q.called in
    record {
      runs = record { storage = r.storage; plan = r.plan; session = r.session; member = r.member; task = r.task; ordered = r.ordered; stands = r.stands.session; running = r.running };
      reference = c.reference;
      arguments = c.arguments;
      call = c.call;
    }
