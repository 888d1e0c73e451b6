-- LOAD of a procedure: the top cell goes, and the procedure is entered in its place.
use Rattle.std.proofs.Common.{◌≡◌, ℕ, ◌-◌, ◌<◌, ◌≤◌, List, [], ◌∷◌, ◌++◌, map, length, Some, Ok, refl, sym, ◌∙◌, ap, arith, true, false, inl, ⊎_elim, subst}
use Rattle.std.specs.List.{slice_get}
use Rattle.b67_word.specs.Tagged.{Tagged}
use Rattle.b67_word.specs.declared.couples.Place.{Place}
use Rattle.b67_ctl.specs.Layout.{IsPlace}
use Rattle.b67_model.specs.Common.{Answer, ◌>>=◌, AtProc, follow, accident, back_to, Starts, Known, known_of, outer_of, is_original_of, IsSegment, CellsInOrder, FramesInOrder, is_original, Session, Frame, Array, Task, SessionJob, top, with_task, Done, cells_of, Word, Proc}
use Rattle.b67_model.specs.Chase as Chase
use Rattle.b67_layout.specs.Common.{IsInOrderButCounts, Placement, IsRunning, SessionHoldsBut, RepresentsSession, here, with_job, Meets, cells}
use Rattle.b67_lemmas.specs.Lists.{how_many}
use Rattle.b67_model.specs.Rows as rows
use Rattle.b67_stack.specs.declared.Cpu.{Cpu}
use Rattle.b67_stack.specs.declared.Step.{Step}
use Rattle.b67_stack.specs.Represents.{Storage}
use Rattle.b67_layout.proofs.Common.{task_with, running_in_order, cells_in_order}
use Rattle.b67_exec_cells.proofs.Put.{room, top_given, dropped_stands, dropped-fits}
use Rattle.b67_refer.specs.RunningContext.{RunningContext}
use Rattle.b67_refer.specs.Ends.{IsProcAt}
use Rattle.b67_entry.specs.Procedures.{CanEnter, EntersOrFaults, HoldsUnder}
use Rattle.b67_entry.proofs.Unasked.{rooms}
use Rattle.b67_entry.proofs.Environments.{holds_over}
use Rattle.b67_fetch.specs.Fetches.{enters_at, top_end}
use Rattle.b67_fetch.proofs.Values.{TopFollowed, top_followed, followed_plain, here_scene, here_shown, followed_stands}
use Rattle.b67_exec.proofs.Entries.{EntersOver, scene0, member0, task0, proc_moves, can_enter, entered}
use Rattle.b67_exec.specs.Procedures.{LeadsToProcedure}
use Rattle.b67_exec.proofs.Entered.{AtProcedure, at_procedure}

pub over_meets : (x : Storage) (plan : Placement) (s : Session) (m : SessionJob) (r : Step) (old new : Cpu) (answer : Answer Done) → EntersOver x plan s m r old old new answer → Meets x plan s m r old new answer
over_meets x plan s m r old new answer i = grind arith

-- no procedure's word is followed
not_proc : (m : SessionJob) (t : Task) (q : Place) (w : Word) (e : Chase.End) (g l : ℕ) (p : Place) → follow (here m t q) w ≡ Ok e → w ≡ Proc g l p → ⊥
not_proc m t q w e g l p is same = let f : follow (here m t q) (Proc g l p) ≡ Ok e = ap (follow (here m t q)) (sym same) ∙ is in let z : ⊥ = cc in z

-- the cells without the top one
tail_order : (P : Starts) (arrays : List Array) (outer : List Known) (fs : List Frame) (a : Word) (rest : List Word) → FramesInOrder P arrays outer fs → (top fs).cells ≡ a ∷ rest → CellsInOrder P arrays (map known_of fs ++ outer) (top fs).identity rest
tail_order P arrays outer [] a rest o e = absurd (let z : ⊥ = cc in z)
tail_order P arrays outer (f ∷ below) a rest o e = grind arith

originals_tail : (n : ℕ) (a : Word) (rest : List Word) → is_original a ≡ false → how_many (is_original_of n) (a ∷ rest) ≡ how_many (is_original_of n) rest
originals_tail n a rest e = grind arith

pub some_cells : (m : SessionJob) (t : Task) (q : Place) (cs : List Word) → enters_at (top_end (here m t q) cs) ≡ true → 1 ≤ length cs
some_cells m t q cs e = grind arith

module _ (x : Storage) (cpu : Cpu) (plan : Placement) (s : Session) (m : SessionJob) (t : Task) (ordered : IsInOrderButCounts s) (h : RepresentsSession x cpu plan s) (runs : IsRunning plan s.jobs m t) (q : Place)
    (enters : enters_at (top_end (here m t q) (cells t)) ≡ true) where
  -- the registers and their bounds
  pub bounds : (cpu.regs.s < length cpu.core) × (1 ≤ cpu.regs.s)
  bounds = let r = room x cpu plan s m t ordered h runs in (omega (arith, r.last, r.under, r.inside), omega (arith, r.mark, r.top))

  pub place_fits : IsPlace cpu.regs.place
  place_fits =
      let o = (running_in_order plan s m t ordered runs).1.place in
      subst IsPlace (sym (h.holds.running m t runs).place) (record { syllable = o.syllable_fits; word = o.word_fits })

  module _ (w : Tagged) (got : slice_get cpu.core cpu.regs.s ≡ Some w) where
    abbrev pub top_is : TopFollowed x plan m t w
    top_is = top_followed x cpu plan s m t w ordered runs (top_given x cpu plan s m t ordered h runs w got (some_cells m t q (cells t) enters))

    pub at_end : AtProcedure (follow (here m t q) top_is.word)
    at_end = at_procedure (follow (here m t q) top_is.word) (subst (λ cs. enters_at (top_end (here m t q) cs) ≡ true) top_is.is enters)

    pub leads : LeadsToProcedure cpu (here_scene x cpu plan s m t ordered h runs) q w at_end.frame at_end.segment at_end.level at_end.place
    leads = record {
      shown = here_shown x cpu plan s m t ordered h runs;
      at = top_is.followed.at;
      owner = top_is.followed.owner;
      word = top_is.word;
      stands = followed_stands x cpu plan s m t ordered h runs w top_is.word top_is.followed;
      ends = at_end.is;
    }

    plain : is_original top_is.word ≡ false
    plain = followed_plain x m t q top_is.word (AtProc at_end.frame at_end.segment at_end.level at_end.place) at_end.is

    -- the session without the top cell
    pub ordered_without : IsInOrderButCounts (with_job s m (with_task m.progress.job (task_with t top_is.rest t.place)))
    ordered_without =
        let i = running_in_order plan s m t ordered runs in
        cells_in_order plan s m t ordered runs top_is.rest t.place (tail_order (IsSegment m.constants) m.progress.job.arrays (outer_of m.progress.job t) t.frames top_is.word top_is.rest i.1.frames top_is.is)
        (λ n. sym (originals_tail n top_is.word top_is.rest plain) ∙ ap (how_many (is_original_of n)) (sym top_is.is))
        (dropped-fits x cpu plan s m t ordered h runs (top_is.word ∷ []) top_is.rest top_is.is) i.1.place.word_fits i.1.place.syllable_fits

    pub holds_without : SessionHoldsBut [] x cpu.core (record cpu.regs { s = cpu.regs.s - 1 }) cpu.critical plan (with_job s m (with_task m.progress.job (task_with t top_is.rest t.place)))
    holds_without =
        let d = (dropped_stands x cpu plan s m t ordered h runs 1 t.place (top_is.word ∷ []) top_is.rest top_is.is refl (plain, tt)).holds in
        let P : Place → Type 0 = λ p. SessionHoldsBut [] x cpu.core (record cpu.regs { s = cpu.regs.s - 1; place = p }) cpu.critical plan (with_job s m (with_task m.progress.job (task_with t top_is.rest t.place))) in
        subst P (sym (h.holds.running m t runs).place) d

    abbrev pub scene_without : RunningContext cpu.core (record cpu.regs { s = cpu.regs.s - 1 })
    scene_without = scene0 x cpu plan s m t ordered h runs top_is.rest ordered_without cpu (cpu.regs.s - 1) refl holds_without

    pub enters_without : (cell : ℕ) → IsProcAt (here_scene x cpu plan s m t ordered h runs) q cell at_end.frame at_end.segment at_end.level at_end.place
        → CanEnter cpu (record cpu.regs { s = cpu.regs.s - 1 }) scene_without q cell at_end.frame at_end.segment at_end.level at_end.place
    enters_without cell i =
        can_enter x cpu plan s m t ordered h runs top_is.rest ordered_without cpu (cpu.regs.s - 1) refl holds_without refl q cell at_end.frame at_end.segment at_end.level at_end.place
        (proc_moves x cpu plan s m t ordered h runs top_is.rest ordered_without cpu (cpu.regs.s - 1) refl holds_without q (top_is.word ∷ []) top_is.rest [] cell at_end.frame at_end.segment at_end.level at_end.place top_is.is refl
        (λ g l p k. ⊎_elim (λ (e : top_is.word ≡ Proc g l p). not_proc m t q top_is.word (AtProc at_end.frame at_end.segment at_end.level at_end.place) g l p at_end.is e) (λ z. z) k)
        (λ i v e tag. e) i)

    pub held_without : (cell : ℕ) → IsProcAt (here_scene x cpu plan s m t ordered h runs) q cell at_end.frame at_end.segment at_end.level at_end.place → HoldsUnder cpu (record cpu.regs { s = cpu.regs.s - 1 }) cpu.regs.level
    held_without cell i =
        holds_over cpu (here_scene x cpu plan s m t ordered h runs) (here_shown x cpu plan s m t ordered h runs) cpu (record cpu.regs { s = cpu.regs.s - 1 }) (record { stacks = refl; size = refl; dictionary = refl; last = refl })
        (rooms cpu (record cpu.regs { s = cpu.regs.s - 1 }) scene_without q cell at_end.frame at_end.segment at_end.level at_end.place (enters_without cell i).procedure).top refl (λ k out. refl)

    pub accident_without : (r : Step) (new : Cpu)
        → EntersOrFaults scene_without r cpu new (accident (here (member0 x cpu plan s m t ordered h runs top_is.rest ordered_without cpu (cpu.regs.s - 1) refl holds_without) (task0 x cpu plan s m t ordered h runs top_is.rest ordered_without cpu (cpu.regs.s - 1) refl holds_without) q)
        (cells_of (here (member0 x cpu plan s m t ordered h runs top_is.rest ordered_without cpu (cpu.regs.s - 1) refl holds_without) (task0 x cpu plan s m t ordered h runs top_is.rest ordered_without cpu (cpu.regs.s - 1) refl holds_without) q))
        (back_to (here (member0 x cpu plan s m t ordered h runs top_is.rest ordered_without cpu (cpu.regs.s - 1) refl holds_without) (task0 x cpu plan s m t ordered h runs top_is.rest ordered_without cpu (cpu.regs.s - 1) refl holds_without) q) false cpu.regs.place)
        (AtProc at_end.frame at_end.segment at_end.level at_end.place))
        → Meets x plan s m r cpu new (accident (here m t q) top_is.rest (back_to (here m t q) false t.place) (AtProc at_end.frame at_end.segment at_end.level at_end.place))
    accident_without r new i =
        let over = entered x cpu plan s m t ordered h runs top_is.rest ordered_without cpu (cpu.regs.s - 1) refl holds_without (λ k. inl refl) r new q false cpu.regs.place at_end.frame at_end.segment at_end.level at_end.place i in
        grind (arith, over_meets)

    pub load_row : (r : Step) (new : Cpu) → Meets x plan s m r cpu new (accident (here m t q) top_is.rest (back_to (here m t q) false t.place) (AtProc at_end.frame at_end.segment at_end.level at_end.place)) → Meets x plan s m r cpu new (rows.load (here m t q) (cells_of (here m t q)))
    load_row r new i =
        let E : Answer Chase.End → Type 0 = λ e. Meets x plan s m r cpu new (e >>= λ f. rows.load_at (here m t q) top_is.rest f) in
        let C : List Word → Type 0 = λ cs. Meets x plan s m r cpu new (rows.load (here m t q) cs) in
        subst C (sym top_is.is) (subst E (sym at_end.is) i)
