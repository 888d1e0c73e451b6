-- The first argument of a call of PROCESS, and where it leads.
use Rattle.std.proofs.Common.{◌≡◌, ◌≢◌, ℕ, List, [], ◌∷◌, take, Result, Ok, Err, refl, sym, ◌∙◌, false, subst, arith}
use Rattle.std.specs.List.{list_any}
use Rattle.b67_word.specs.Tagged.{Tagged}
use Rattle.b67_word.specs.declared.couples.Place.{Place}
use Rattle.b67_word.specs.declared.faults.Fault.{Fault}
use Rattle.b67_word.specs.declared.faults.Fault.TheVariants.{InvalidOperand}
use Rattle.b67_lemmas.specs.Lists.{Has}
use Rattle.b67_lemmas.proofs.Members.{all_from, any_none, has_append_cases}
use Rattle.b67_model.specs.Common.{Answer, Word, Proc, Task, SessionJob, AtProc, follow, is_original, IsSegment, reach_of, Session}
use Rattle.b67_model.specs.Chase as Chase
use Rattle.b67_layout.specs.Common.{IsInOrderButCounts, Placement, spots, IsRunning, RepresentsSession, here, cells}
use Rattle.b67_stack.specs.declared.Cpu.{Cpu}
use Rattle.b67_stack.specs.Represents.{Storage}
use Rattle.b67_layout.proofs.Fresh.{running_in_order}
use Rattle.b67_refer.specs.declared.ends.End.{End}
use Rattle.b67_refer.specs.declared.ends.End.TheVariants as end
use Rattle.b67_refer.specs.Ends.{IsReference, IsProcAt, EndMeets}
use Rattle.b67_law.proofs.Follows.{follow_same}
use Rattle.b67_entry.specs.Procedures.{ReachesProc}
use Rattle.b67_entry.proofs.Firsts.{refers, refers_not}
use Rattle.b67_entry.proofs.Leads.{ProcFound, proc_found, fault_found}
use Rattle.b67_mcp.specs.Calls.{IsCall}
use Rattle.b67_fetch.specs.Fetches.{IsFollowed}
use Rattle.b67_fetch.proofs.Values.{here_scene}
use Rattle.b67_mcp.specs.declared.process_asked.Asked.{Asked}
use Rattle.b67_mcp.specs.Asked.{admits, AdmitMeets, Asks, AskMeets}
use Rattle.b67_mcp.proofs.ProcessRows.{Parts, IsElsewhere, Admitted, admitted, not_led, faults, ends_elsewhere, refuses, answers_by}

-- an end in core that is no procedure
abbrev pub IsNoProc : End → Type 0
IsNoProc (end.Proc at) = ⊥
IsNoProc _ = Unit {0}

module _ (x : Storage) (cpu : Cpu) (plan : Placement) (s : Session) (m : SessionJob) (t : Task) (o : IsInOrderButCounts s) (h : RepresentsSession x cpu plan s) (runs : IsRunning plan s.jobs m t)
    (reference : Word) (arguments : List Word) (call : IsCall t reference arguments) (count : ℕ) (p : Parts t reference arguments call count) (v : Tagged) (i : IsFollowed x plan m t v p.first)
    (none : list_any is_original (take count (cells t)) ≡ false) where
  -- it is no reference
  pub leads_nowhere : v.tag ≢ 1 → AskMeets plan m t arguments (Err InvalidOperand)
  leads_nowhere ne = λ next. not_led t reference arguments call m count p none next InvalidOperand
      (refers_not (IsSegment m.constants) m.progress.job.arrays (reach_of m.progress.job t) i.owner x plan m.constants.number m.progress.job (spots plan m.constants.number m.progress.job t) i.at v (here m t next) p.first i.ordered i.is ne)

  module _ (tag : v.tag ≡ 1) where
    pub refers_first : IsReference p.first
    refers_first = refers (IsSegment m.constants) m.progress.job.arrays (reach_of m.progress.job t) i.owner x plan m.constants.number m.progress.job (spots plan m.constants.number m.progress.job t) i.at v p.first i.ordered i.is tag

    module _ (result : Result End Fault) (e : (q : Place) → EndMeets (here_scene x cpu plan s m t o h runs) q result (follow (here m t q) p.first)) where
      at_result : (q : Place) (found : Result End Fault) → result ≡ found → EndMeets (here_scene x cpu plan s m t o h runs) q found (follow (here m t q) p.first)
      at_result q found is = subst (λ (z : Result End Fault). EndMeets (here_scene x cpu plan s m t o h runs) q z (follow (here m t q) p.first)) is (e q)

      pub leads_fault : (fault : Fault) → result ≡ Err fault → AskMeets plan m t arguments (Err fault)
      leads_fault fault is = λ next. faults t reference arguments call m count p none refers_first next fault (fault_found (here_scene x cpu plan s m t o h runs) next fault (follow (here m t next) p.first) (at_result next (Err fault) is))

      elsewhere : (q : Place) (found : End) (answer : Answer Chase.End) → IsNoProc found → EndMeets (here_scene x cpu plan s m t o h runs) q (Ok found) answer → (z : Chase.End) × (answer ≡ Ok z) × IsElsewhere z
      elsewhere q found answer never k = grind arith

      pub leads_elsewhere : (found : End) → IsNoProc found → result ≡ Ok found → AskMeets plan m t arguments (Err InvalidOperand)
      leads_elsewhere found never is = λ next.
          (let (z, leads, away) = elsewhere next found (follow (here m t next) p.first) never (at_result next (Ok found) is) in
          ends_elsewhere t reference arguments call m count p none refers_first next z leads away)

      module _ (cell : ℕ) (is : result ≡ Ok (end.Proc cell)) where
        pub found_at : (q : Place) → ProcFound (here_scene x cpu plan s m t o h runs) q cell (follow (here m t q) p.first)
        found_at q = proc_found (here_scene x cpu plan s m t o h runs) q cell (follow (here m t q) p.first) (at_result q (Ok (end.Proc cell)) is)

        pub reached : (q : Place) → let b = found_at q in ReachesProc cpu (here_scene x cpu plan s m t o h runs) q cell b.f b.segment b.level b.place
        reached q = record { ordered = o; stands = h; procedure = (found_at q).procedure }

        plain_first : (w : Word) → IsReference w → is_original w ≡ false
        plain_first w k = grind arith

        plain_cell : (w : Word) → Has (cells t) w → is_original w ≡ false
        plain_cell w k = grind (arith, has_append_cases, any_none)

        asks : (f segment level : ℕ) (place : Place) → IsProcAt (here_scene x cpu plan s m t o h runs) t.place cell f segment level place → follow (here m t t.place) p.first ≡ Ok (AtProc f segment level place)
            → admits (here m t t.place) f level count ≡ Ok tt → Asks plan m t arguments cell count
        asks f segment level place at leads passes =
            let a : Admitted m t f level count = admitted m t f level count passes in
            record {
              f = f;
              segment = segment;
              level = level;
              place = place;
              reference = p.first;
              words = p.words;
              are = p.are;
              count_is = p.count_is;
              copied = p.copied;
              plain = λ w k. any_none is_original (take count (cells t)) w none k;
              proc = record { names = at.cell.names; own = at.own; offset = at.offset; found = at.cell.found; at_is = at.cell.address; level_is = a.level_is };
              room = a.room;
              may = record { marked = call.marked; plain = all_from (λ (w : Word). is_original w ≡ false) (cells t) plain_cell; free = a.free };
              makes = λ next. answers_by t reference arguments call m count p none refers_first f segment level place next (running_in_order plan s m t o runs).1.not_higher
                  (follow_same (here m t next) (here m t t.place) refl refl refl p.first ∙ leads) passes;
            }

        pub leads_proc : (found : Result Asked Fault) → ((q : Place) → let b = found_at q in AdmitMeets cell count (admits (here m t q) b.f b.level count) found) → AskMeets plan m t arguments found
        leads_proc (Err fault) k = λ next.
            (let b = found_at next in
            refuses t reference arguments call m count p none refers_first b.f b.segment b.level b.place next fault b.is (k next))
        leads_proc (Ok asked) k =
            let b = found_at t.place in
            let (is, passes) = k t.place in
            subst (λ (z : Asked). Asks plan m t arguments z.cell z.count) (sym is) (asks b.f b.segment b.level b.place b.procedure b.is passes)
