-- LOAD and the stores, where a procedure at the end of a reference is still to be entered.
use Rattle.std.proofs.Common.{◌≡◌, ◌≢◌, ℕ, Bool, true, Ok, sym, subst}
use Rattle.b67_word.specs.declared.couples.Place.{Place}
use Rattle.b67_model.specs.Common.{Answer, Done, Task, SessionJob, cells_of}
use Rattle.b67_model.specs.Rows as rows
use Rattle.b67_stack.specs.declared.Cpu.{Cpu}
use Rattle.b67_stack.specs.declared.Step.{Step}
use Rattle.b67_stack.specs.declared.Step.TheVariants as step
use Rattle.b67_layout.specs.Common.{RepresentsSession, RunsSome, ForEach, here, Meets}
use Rattle.b67_fetch.specs.Fetches.{enters_at, top_end, EntersOrMeets}
use Rattle.b67_fetch.specs.Stores.{store_end}
use Rattle.b67_word.specs.Tagged.{Tagged}
use Rattle.b67_model.specs.Chase as Chase
use Rattle.b67_refer.specs.declared.ends.End.TheVariants as end
use Rattle.b67_refer.specs.Own.{LeadsTo}
use Rattle.b67_refer.specs.Ends.{EndMeets}
use Rattle.b67_exec.specs.Procedures.{EntersTop, IsCellFrom}
use Rattle.b67_exec.specs.Stores.{StoresInProc}
use Rattle.b67_exec.proofs.Entered.{met_by, called_by}

module _ (old mid : Cpu) (enters : SessionJob → Task → Bool) (row : SessionJob → Task → Answer Done) where
  -- what was answered, by whether a procedure is to be entered
  abbrev pub Fetched : Step → Type 0
  Fetched answered = ForEach old (λ x plan s m t. EntersOrMeets x plan s m answered old mid (enters m t) (row m t))

  -- it isn't
  pub met_each : (answered : Step) → ((n : ℕ) → answered ≢ step.Call n) → Fetched answered → ForEach old (λ x plan s m t. Meets x plan s m answered old mid (row m t))
  met_each answered other each x plan s m t ordered h runs = met_by x plan s m answered old mid (enters m t) (row m t) other (each x plan s m t ordered h runs)

  module _ (n : ℕ) (each : Fetched (step.Call n)) where
    -- it is: the task runs as before
    abbrev pub same_run : RunsSome old → RunsSome mid
    same_run q =
        let i = called_by q.storage q.plan q.session q.member n old mid (enters q.member q.task) (row q.member q.task) (each q.storage q.plan q.session q.member q.task q.ordered q.stands q.running) in
        record {
          storage = q.storage;
          plan = q.plan;
          session = q.session;
          member = q.member;
          task = q.task;
          ordered = q.ordered;
          stands = subst (λ (z : Cpu). RepresentsSession q.storage z q.plan q.session) (sym i.1) q.stands;
          running = q.running;
        }

    pub is_due : (q : RunsSome old) → enters q.member q.task ≡ true
    is_due q = (called_by q.storage q.plan q.session q.member n old mid (enters q.member q.task) (row q.member q.task) (each q.storage q.plan q.session q.member q.task q.ordered q.stands q.running)).0

    -- and what entering it makes is the operator's row
    pub entered_each : (answered : Step) (new : Cpu) → ForEach mid (λ x plan s m t. enters m t ≡ true → Meets x plan s m answered mid new (row m t)) → ForEach old (λ x plan s m t. Meets x plan s m answered old new (row m t))
    entered_each answered new made x plan s m t ordered h runs =
        let i = called_by x plan s m n old mid (enters m t) (row m t) (each x plan s m t ordered h runs) in
        subst (λ (z : Cpu). Meets x plan s m answered z new (row m t)) i.1 (made x plan s m t ordered (subst (λ (z : Cpu). RepresentsSession x z plan s) (sym i.1) h) runs i.0)

-- LOAD
abbrev pub load_enters : Place → SessionJob → Task → Bool
load_enters next m t = enters_at (top_end (here m t next) (cells_of (here m t next)))

abbrev pub load_row : Place → SessionJob → Task → Answer Done
load_row next m t = rows.load (here m t next) (cells_of (here m t next))

pub load_due : (old mid : Cpu) (next : Place) (n : ℕ) → Fetched old mid (load_enters next) (load_row next) (step.Call n) → RunsSome old → EntersTop mid
load_due old mid next n each q = record { runs = same_run old mid (load_enters next) (load_row next) n each q; place = next; enters = is_due old mid (load_enters next) (load_row next) n each q }

-- STOD, and STON
abbrev pub store_enters : Place → SessionJob → Task → Bool
store_enters next m t = enters_at (store_end (here m t next) (cells_of (here m t next)))

abbrev pub store_row : Bool → Place → SessionJob → Task → Answer Done
store_row keeps next m t = rows.store keeps (here m t next) (cells_of (here m t next))

pub store_due : (old mid : Cpu) (next : Place) (keeps : Bool) (n : ℕ) → Fetched old mid (store_enters next) (store_row keeps next) (step.Call n) → RunsSome old → StoresInProc mid
store_due old mid next keeps n each q = record { runs = same_run old mid (store_enters next) (store_row keeps next) n each q; place = next; enters = is_due old mid (store_enters next) (store_row keeps next) n each q }

-- where a word was followed to a procedure
pub cell_from : (cpu : Cpu) (w : Tagged) (cell : ℕ) → LeadsTo cpu.core cpu.regs cpu.display w (end.Proc cell) → IsCellFrom cpu w cell
cell_from cpu w cell leads a q f segment level place l =
    let P : Answer Chase.End → Type 0 = λ z. EndMeets a q (Ok (end.Proc cell)) z in
    subst P l.ends (leads a q l.shown l.at l.owner l.word l.stands)
