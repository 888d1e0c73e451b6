-- `holding` makes a value of no bytes in memory, at what the writer tells. It doesn't look at the writer.
use mathlib.Core.Path.{◌≡◌, refl}
use Prim.Native.Nat.{ℕ}
use mathlib.Core.List.{[], ◌∷◌}
use seplogic.Ra.Ura.{Ura}
use mir.Syntax.{Fn, Args, Dict, a_type, dcons, dnil, named}
use mir.MapTy.{inst_fn}
use mir.Val.{Val, vstruct, vcons, vnil, vptr}
use base.Logic.{SProp, ent, emp, via, fst∗}
use base.Fml.{Lft, Share, ftrue, flft}
use prog.Wp.{Calls, Loops, WpFn, Tables}
use types.Logic.{Logic}
use types.Kit.{‵, ◌⊛◌, ◌$◌, ◌∵◌, !, qed, move, keep, split, join, fjoin, suffices, done}
use types.Run.{no_more, and_then, returns, enter}
use types.Part.{agg}
use types.ByLocal.{alloc_all, pass_all, free_all, look_at, get, sets}
use contract.Monad.{fact}
use contract.Running.{tables, tables_of}
use sound.WpLaws.{WpFn-mono}
use denote.Builtin.{RefOf}
use denote.Exit.{yes}
use denote.Param.{bounded, param}
use denote.RattleType.{RattleType, owns}
use denote.Ref.{Bor, ShrRef, shr_vals, shr_Tells}
use denote.Shadow.{pure_i}
use denote.Signature.{plain}
use denote.Steps.{nothing}
use denote.Triple.Carry.{spared}
use denote.Triple.Clauses.{Clauses, Ended, closing}
use denote.Triple.Entry.{on_entry}
use denote.Triple.Spec.{Meets, triple_of}
use denote.Triple.Table.{entered, run_framed}
use denote.Triple.Walked.{says, stay_dropped, Stays, walk_of, ends_at, walked, Goes-dropped, walk_Meets}
use Rattle.std.specs.declared.io.Write.{Ghosts}
use Rattle.b67_recorded.specs.Telling.{known}
use Rattle.b67_recorded.specs.declared.record.Record.{Record}
use Rattle.b67_recorded.specs.contracts.record.Record as T
use Rattle.b67_recorded.specs.contracts.record.Record.holding.Key.{name as #it}
use Rattle.b67_recorded.proofs.record.Record.holding.Statement as stated
use Rattle.b67_recorded.proofs.record.Record.holding.Code as code

module _ (W : RattleType) (g : Ghosts W.Denot) (d : Dict) where
  abbrev args : Args
  args = bounded (a_type ∷ []) (W, tt) (dcons d dnil)

  abbrev function : Fn
  function = inst_fn args code.function

  abbrev ended : Ended
  ended = record { signature = record { lifetimes = 1; outlives = []; params = RefOf (0 ∷ []) tt (plain (λ _. param 0 W)) (λ _. tt) ∷ []; result = plain (λ _. T.the_row) }; kept = (yes, tt) }

  abbrev stayed : Stays ended.signature.params ended.kept
  stayed = (stay_dropped (RefOf (0 ∷ []) tt (plain (λ _. param 0 W)) (λ _. tt)) yes, tt)

  abbrev spec : {M : Type 1} {𝓤 : Ura M} (𝓛 : Logic 𝓤) → Clauses 𝓤 ended
  spec {𝓤 = 𝓤} 𝓛 κs a = record { ghost = Unit {0}; requires = λ _. emp 𝓤; ensures = λ _ r _. fact 𝓤 (r.bytes ≡ known (g.contents a.0.now)) }

module _ (W : RattleType) (g : Ghosts W.Denot) (d : Dict) {M : Type 1} {𝓤 : Ura M} (𝓛 : Logic 𝓤) where
  open 𝓛 use {H}

  module _ (κ : Lft) (q : Share) (b o : ℕ) (x : W.Denot) where
    abbrev writer : Bor W.Denot
    writer = record { ref_ptr = (b, o); now = x }

    abbrev v : Val
    v = vstruct (vcons (vstruct vnil) vnil)

    abbrev r : Record
    r = record { marker = record {}; bytes = known (g.contents x) }

    abbrev bound : (walk_of 𝓛 (ended W g d) (stayed W g d) (spec W g d 𝓛)).Ghost
    bound = (((κ, tt), (q, tt), tt, (writer, tt), (vptr b o ∷ [], tt)), tt)

    abbrev Post : Val → SProp 𝓤
    Post = (walk_of 𝓛 (ended W g d) (stayed W g d) (spec W g d 𝓛)).post bound

    walk : (C : Calls 𝓤 H) (Λ : Loops 𝓤 H) → ent 𝓤 (on_entry 𝓛 (ended W g d).signature (κ, tt) (q, tt) (writer, tt) (vptr b o ∷ [], tt)) (WpFn 𝓤 H C Λ (function W g d) (vptr b o ∷ []) Post)
    walk C Λ =
        qed 𝓛 ((‵ (flft κ q) ⊛ ‵ ftrue) ∷ ‵ (owns (ShrRef (named 0) κ (param 0 W) ∷ []) (writer, tt) (vptr b o ∷ [], tt)) ∷ []) ∵ split ! $ keep ! (0 ∷ []) $
        enter ! C Λ (function W g d) (vptr b o ∷ []) _ $ alloc_all ! (λ l. pass_all ! refl ((tt, tt), tt) $
        sets ! (agg ! (no_more !)) refl (tt, tt) $ sets ! (agg ! (and_then ! (get ! refl) (no_more !))) refl (tt, (tt, tt)) $
        returns ! (look_at ! 0 refl) $ free_all ! refl $ keep ! (0 ∷ []) $
        pure_i ! ((T.the_row).own_val r (v ∷ [])) ((λ vss. (tt, ((λ uss. (tt, tt)), tt))), tt) (((vstruct vnil ∷ [], tt), (refl, ((tt, (refl, tt)), tt))), tt) $
        suffices ! _ (ends_at 𝓛 (ended W g d) (stayed W g d) (spec W g d 𝓛) bound v r (tt, tt) (tt, tt)) $ says ! refl $
        nothing ! $ nothing ! $ fjoin ! $ join ! $ nothing ! $ move ! (2 ∷ 0 ∷ []) $ join ! $ join ! $ done !)

  meets : (𝓣 : Tables 𝓤 H) → Meets 𝓛 (ended W g d).signature (WpFn 𝓤 H 𝓣.C 𝓣.Λ (function W g d)) (closing 𝓛 (ended W g d) (spec W g d 𝓛))
  meets 𝓣 =
      walk_Meets 𝓛 (ended W g d) (stayed W g d) (Goes-dropped 𝓛 1 (RefOf (0 ∷ []) tt (plain (λ _. param 0 W)) (λ _. tt)) yes (λ κs x f. refl), tt) (spec W g d 𝓛) (WpFn 𝓤 H 𝓣.C 𝓣.Λ (function W g d)) (WpFn-mono 𝓤 H 𝓛.laws 𝓣 (function W g d))
      (walked 𝓛 (ended W g d) (stayed W g d) (spec W g d 𝓛) (WpFn 𝓤 H 𝓣.C 𝓣.Λ (function W g d)) (λ κs. (shr_vals, tt)) (λ κs. (shr_Tells (named 0) κs.0 (param 0 W), tt))
      (λ κs qs bounds a _ are. via 𝓤 _ (fst∗ 𝓤 _ (emp 𝓤)) (walk κs.0 qs.0 a.0.ref_ptr.0 a.0.ref_ptr.1 a.0.now 𝓣.C 𝓣.Λ)))

pub holding_spec : {M : Type 1} → stated.statement M
unfolding tables_of
holding_spec 𝓤 𝓛 𝓜 𝓡 wired W L g d met y =
    let 𝓣 : Tables 𝓤 𝓛.H = tables_of 𝓤 𝓛.H 𝓜 (tables 𝓤 𝓛.H 𝓜 𝓡 𝓡.env) in
    spared 𝓛 (ended W g d).signature (𝓡.run (𝓡.env (#it (args W g d)))) (run_framed 𝓤 𝓛.H 𝓜 𝓡 (𝓡.env (#it (args W g d)))) 1 (W.lives, tt) (closing 𝓛 (ended W g d) (spec W g d 𝓛))
    (entered 𝓤 𝓛.H (triple_of 𝓛 (ended W g d).signature (closing 𝓛 (ended W g d) (spec W g d 𝓛))) 𝓣.C 𝓣.Λ (#it (args W g d)) (function W g d) (code.unfolded 𝓤 𝓛.H 𝓜 𝓡 wired (W, tt) d) (meets W g d 𝓛 𝓣))
    ((y.0.0, y.0.1, tt, y.0.3, y.0.4), y.1)
