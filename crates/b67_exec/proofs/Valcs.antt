-- VALC: where its couple leads, and what is made there.
use Rattle.std.proofs.Common.{◌≡◌, ◌≢◌, ℕ, ◌^◌, ◌<◌, List, [], ◌++◌, length, true, Result, Ok, Err, refl, ap, subst}
use Rattle.b67_word.specs.Tagged.{Tagged}
use Rattle.b67_word.specs.declared.couples.Place.{Place}
use Rattle.b67_word.specs.declared.faults.Fault.{Fault}
use Rattle.b67_ctl.specs.Layout.{irw_word}
use Rattle.b67_model.specs.declared.operators.Op.TheVariants.{Valc}
use Rattle.b67_model.specs.Common.{Answer, ◌>>=◌, AtProc, Name, Word, follow, accident, back_to, evaluates, cells_of, Task, SessionJob, Session}
use Rattle.b67_model.specs.Chase as Chase
use Rattle.b67_stack.specs.declared.Cpu.{Cpu}
use Rattle.b67_stack.specs.declared.Step.{Step}
use Rattle.b67_stack.specs.declared.Step.TheVariants as step
use Rattle.b67_stack.specs.Represents.{Storage}
use Rattle.b67_layout.specs.Common.{IsInOrderButCounts, Placement, IsRunning, RepresentsSession, RunsSome, ForEach, here, Meets, cells}
use Rattle.b67_refer.specs.declared.ends.End.{End}
use Rattle.b67_refer.specs.declared.ends.End.TheVariants as end
use Rattle.b67_refer.specs.RunningContext.{RunningContext}
use Rattle.b67_refer.specs.Cells.{StandsFor}
use Rattle.b67_refer.specs.Ends.{EndMeets}
use Rattle.b67_refer.specs.Own.{FollowsTo}
use Rattle.b67_entry.specs.Procedures.{ReachesProc}
use Rattle.b67_entry.proofs.Evaluating.{fault_end, proc_end}
use Rattle.b67_exec_cells.specs.Tops.{NoOriginals}
use Rattle.b67_fetch.specs.Fetches.{IsEnd, SomeEnd, EntersOrMeets, is_procedure_end, value_at_end}
use Rattle.b67_fetch.proofs.Values.{here_scene, here_shown, followed_stands, couple_followed, finds_end, some_end, valc_row}
use Rattle.b67_exec.proofs.Entered.{reaches, valc_enters, met_at}
use Rattle.b67_exec.specs.Far.{RowAnswers}

-- what entering the procedure of a cell answers
abbrev pub EntersAt : Cpu → ℕ → Place → Step → Cpu → Type 0
EntersAt cpu cell back answered new = (a : RunningContext cpu.core cpu.regs) (q : Place) (f segment level : ℕ) (place : Place) → ReachesProc cpu a q cell f segment level place
    → Meets a.storage a.plan a.session a.member answered cpu new (accident (here a.member a.task q) (cells_of (here a.member a.task q)) (back_to (here a.member a.task q) true back) (AtProc f segment level place))

-- what pushing the value at an end answers
abbrev pub PushesValue : Cpu → End → Place → Step → Cpu → Type 0
PushesValue cpu found next answered new = ForEach cpu (λ x plan s m t. (gone rest : List Word) (e : Chase.End) → cells t ≡ gone ++ rest → length gone ≡ 0 → NoOriginals gone → IsEnd plan m cpu.core found e
    → EntersOrMeets x plan s m answered cpu new (is_procedure_end e) (value_at_end (here m t next) rest e))

module _ (cpu : Cpu) (couple : ℕ) (next : Place) (w : Tagged) (small : couple < 2 ^ 14) (is : w ≡ irw_word (record { couple = couple })) where
  -- the word may be followed
  pub couple_stands : (q : RunsSome cpu) → StandsFor (here_scene q.storage cpu q.plan q.session q.member q.task q.ordered q.stands q.running) 0 0 w (Name couple)
  couple_stands q = followed_stands q.storage cpu q.plan q.session q.member q.task q.ordered q.stands q.running w (Name couple) (couple_followed q.storage q.plan q.member q.task couple w small is)

  module _ (found : Result End Fault) (chased : FollowsTo cpu.core cpu.regs cpu.display w found) where
    module _ (x : Storage) (plan : Placement) (s : Session) (m : SessionJob) (t : Task) (ordered : IsInOrderButCounts s) (h : RepresentsSession x cpu plan s) (runs : IsRunning plan s.jobs m t) where
      abbrev a : RunningContext cpu.core cpu.regs
      a = here_scene x cpu plan s m t ordered h runs

      abbrev leads : Answer Chase.End
      leads = follow (here m t next) (Name couple)

      ends : (r : Result End Fault) → found ≡ r → EndMeets a next r leads
      ends r same =
          let i = couple_followed x plan m t couple w small is in
          subst (λ (z : Result End Fault). EndMeets a next z leads) same (chased a next (here_shown x cpu plan s m t ordered h runs) i.at i.owner (Name couple) (followed_stands x cpu plan s m t ordered h runs w (Name couple) i))

    -- a fault
    pub couple_faults : (fault : Fault) → found ≡ Err fault → RowAnswers (Valc couple) next cpu cpu (step.Fault fault)
    couple_faults fault same x plan s m t ordered h runs =
        let hh = here m t next in
        (ap (λ (e : Answer Chase.End). e >>= λ f. evaluates hh f) (fault_end (a x plan s m t ordered h runs) next fault (leads x plan s m t ordered h runs) (ends x plan s m t ordered h runs (Err fault) same)), refl)

    -- a procedure
    pub couple_reaches : (q : RunsSome cpu) (cell : ℕ) → found ≡ Ok (end.Proc cell) → (a : RunningContext cpu.core cpu.regs) × (p : Place) × (f : ℕ) × (segment : ℕ) × (level : ℕ) × (place : Place) × ReachesProc cpu a p cell f segment level place
    couple_reaches q cell same =
        let scene = a q.storage q.plan q.session q.member q.task q.ordered q.stands q.running in
        let (f, segment, level, place, e, p) = proc_end scene next cell (leads q.storage q.plan q.session q.member q.task q.ordered q.stands q.running) (ends q.storage q.plan q.session q.member q.task q.ordered q.stands q.running (Ok (end.Proc cell)) same) in
        (scene, next, f, segment, level, place, reaches q.storage cpu q.plan q.session q.member q.task q.ordered q.stands q.running next cell f segment level place p)

    pub couple_enters : (cell : ℕ) → found ≡ Ok (end.Proc cell) → (answered : Step) (new : Cpu) → EntersAt cpu cell next answered new → RowAnswers (Valc couple) next cpu new answered
    couple_enters cell same answered new enters x plan s m t ordered h runs =
        let scene = a x plan s m t ordered h runs in
        let (f, segment, level, place, e, p) = proc_end scene next cell (leads x plan s m t ordered h runs) (ends x plan s m t ordered h runs (Ok (end.Proc cell)) same) in
        valc_enters x cpu plan s m t ordered h runs next couple answered new (record { frame = f; segment = segment; level = level; place = place; is = e })
        (enters scene next f segment level place (reaches x cpu plan s m t ordered h runs next cell f segment level place p))

    -- a value
    pub couple_ends : (q : RunsSome cpu) (at : End) → found ≡ Ok at → SomeEnd cpu at
    couple_ends q at same =
        let E = leads q.storage q.plan q.session q.member q.task q.ordered q.stands q.running in
        some_end cpu q at E (finds_end q.storage cpu q.plan q.session q.member q.task q.ordered q.stands q.running next (Ok at) E (ends q.storage q.plan q.session q.member q.task q.ordered q.stands q.running (Ok at) same))

    pub couple_pushes : (at : End) → found ≡ Ok at → ((cell : ℕ) → at ≢ end.Proc cell) → (answered : Step) (new : Cpu) → PushesValue cpu at next answered new → RowAnswers (Valc couple) next cpu new answered
    couple_pushes at same other answered new pushes x plan s m t ordered h runs =
        let E = leads x plan s m t ordered h runs in
        let k = finds_end x cpu plan s m t ordered h runs next (Ok at) E (ends x plan s m t ordered h runs (Ok at) same) in
        met_at x plan s m answered cpu new at E (E >>= λ f. evaluates (here m t next) f) k other
        (valc_row x plan s m t next cpu answered new at E k (λ f is_end. pushes x plan s m t ordered h runs [] (cells t) f refl refl tt is_end))
