-- Ends that are told by the first cell.
use Rattle.std.proofs.Common.{◌≡◌, ℕ, ◌+◌, ◌-◌, ◌*◌, ◌^◌, ◌<◌, ◌≤◌, List, Option, Some, None, Result, Ok, Err, refl, sym, ap, ◌∙◌, arith, subst, length}
use Rattle.std.specs.List.{slice_get}
use Rattle.std.proofs.lemmas.Option.{same_Some, slice_get_within}
use Rattle.b67_word.specs.Tagged.{Tagged}
use Rattle.b67_word.specs.declared.couples.Place.{Place}
use Rattle.b67_ctl.specs.declared.registers.Regs.{Regs}
use Rattle.b67_ctl.specs.declared.programs.IntrinsicPcw.{IntrinsicPcw}
use Rattle.b67_ctl.specs.Layout.{intrinsic_word, IsIntrinsicPcw}
use Rattle.b67_model.specs.Chase as Chase
use Rattle.b67_model.specs.declared.limits.TheConstants.{MOST_LINKS}
use Rattle.b67_model.specs.Common.{Answer, Word, Leads, link_at, chase_on, cell, place_of, follow}
use Rattle.b67_layout.specs.Common.{here}
use Rattle.b67_refer.specs.RunningContext.{RunningContext, IsShown, live_of}
use Rattle.b67_refer.specs.LiveCells as live
use Rattle.b67_refer.specs.Cells.{StandsFor, FindsCell}
use Rattle.b67_refer.specs.Own.{NamesCell, LeadsTo}
use Rattle.b67_word.specs.declared.faults.Fault.{Fault}
use Rattle.b67_refer.specs.declared.ends.End.{End}
use Rattle.b67_refer.specs.declared.ends.End.TheVariants as end
use Rattle.b67_refer.specs.LiveEnds.{IsReference, LinkMeets}
use Rattle.b67_refer.specs.Ends.{HasTagAt, EndMeets}
use Rattle.b67_refer.proofs.Follows.{follows_reference}
use Rattle.b67_refer.proofs.Procs.{intrinsic_is, intrinsic_end, proc_end}
use Rattle.b67_refer.proofs.Names.{Rest, Turn, turn, turn_end, turn_fault, turn_on}

-- a reference to a cell whose word has tag 0 leads to that operand's cell
module _ (core : List Tagged) (r : Regs) (a : RunningContext core r) (q : Place) where
  operand_link : (at f offset : ℕ) (w : Word) → live.IsCellAt (live_of a) q at f offset w → HasTagAt core at 0 → LinkMeets (live_of a) q (Ok (Some (end.Cell at))) (link_at (here a.member a.task q) f offset w)
  operand_link at f offset w i t = grind arith

  pub own_ends : (at : ℕ) (v : Word) → IsReference v → FindsCell a q (Ok at) (place_of (here a.member a.task q) v) → HasTagAt core at 0 → EndMeets a q (Ok (end.Cell at)) (follow (here a.member a.task q) v)
  own_ends at v ref found tag =
      let t = turn core r (live_of a) q at v found in
      let e = turn_end core r (live_of a) q MOST_LINKS at v t (end.Cell at) (omega arith) (operand_link at t.frame t.offset t.word t.cell tag) in
      subst (λ (y : Answer Chase.End). EndMeets a q (Ok (end.Cell at)) y) (sym (follows_reference core r (live_of a) q v ref)) e

-- a cell that is there lies in core
pub cell_inside : (core : List Tagged) (r : Regs) (a : RunningContext core r) (q : Place) (f offset at : ℕ) → live.CellMeets (live_of a) q f offset (Ok at) (cell (here a.member a.task q) f offset) → at < length core
cell_inside core r a q f offset at = grind (arith, slice_get_within)

-- a chain goes on from the cell that its first reference names
module _ (core : List Tagged) (r : Regs) (a : RunningContext core r) (q : Place) (at : ℕ) (v : Word) (ref : IsReference v) (found : FindsCell a q (Ok at) (place_of (here a.member a.task q) v)) where
  abbrev pub first_turn : Turn core r (live_of a) q at v
  first_turn = turn core r (live_of a) q at v found

  abbrev pub First : Result (Option End) Fault → Type 0
  First link = LinkMeets (live_of a) q link (link_at (here a.member a.task q) first_turn.frame first_turn.offset first_turn.word)

  follows : (end : Result End Fault) → EndMeets a q end (chase_on (here a.member a.task q) MOST_LINKS (Leads v)) → EndMeets a q end (follow (here a.member a.task q) v)
  follows end e = subst (λ (y : Answer Chase.End). EndMeets a q end y) (sym (follows_reference core r (live_of a) q v ref)) e

  pub from_end : (end : End) → First (Ok (Some end)) → EndMeets a q (Ok end) (follow (here a.member a.task q) v)
  from_end end m = follows (Ok end) (turn_end core r (live_of a) q MOST_LINKS at v first_turn end (omega arith) m)

  pub from_fault : (fault : Fault) → First (Err fault) → EndMeets a q (Err fault) (follow (here a.member a.task q) v)
  from_fault fault m = follows (Err fault) (turn_fault core r (live_of a) q MOST_LINKS at v first_turn fault (omega arith) m)

  pub from_rest : (w : Tagged) → First (Ok None) → slice_get core at ≡ Some w → Rest core r (live_of a) q MOST_LINKS (MOST_LINKS - 1) v w
  from_rest w m there = turn_on core r (live_of a) q MOST_LINKS MOST_LINKS at v v w refl first_turn (omega arith) m there

  pub from_more : (w : Tagged) (rest : Rest core r (live_of a) q MOST_LINKS (MOST_LINKS - 1) v w) (links : ℕ) → links ≡ MOST_LINKS - 1 → (end : Result End Fault)
      → EndMeets a q end (chase_on (here a.member a.task q) links (Leads rest.word)) → EndMeets a q end (follow (here a.member a.task q) v)
  from_more w rest links few end e =
      let P : Answer Chase.End → Type 0 = λ y. EndMeets a q end y in
      let Q : ℕ → Type 0 = λ i. EndMeets a q end (chase_on (here a.member a.task q) i (Leads rest.word)) in
      follows end (subst P (sym rest.same) (subst Q few e))

-- the cell that a couple's word names, and the word in it
module _ (core : List Tagged) (r : Regs) (display : List ℕ) (w : Tagged) (at : ℕ) (names : NamesCell core r display w at) (v : Tagged) (there : slice_get core at ≡ Some v) where
  -- what the first link comes to is where the word leads
  first_leads : (end : End) → ((a : RunningContext core r) (q : Place) (f offset : ℕ) (x : Word) (c : live.IsCellAt (live_of a) q at f offset x) → c.word ≡ v → LinkMeets (live_of a) q (Ok (Some end)) (link_at (here a.member a.task q) f offset x))
      → LeadsTo core r display w end
  first_leads end each a q shown spot owner x stands =
      let n = names a q shown spot owner x stands in
      let t = first_turn core r a q at x n.0 n.1 in
      from_end core r a q at x n.0 n.1 end (each a q t.frame t.offset t.word t.cell (same_Some _ _ (sym t.cell.there ∙ there)))

  -- an operand's word
  pub named_operand : v.tag ≡ 0 → LeadsTo core r display w (end.Cell at)
  named_operand zero a q shown spot owner x stands = let n = names a q shown spot owner x stands in own_ends core r a q at x n.0 n.1 (v, there, zero)

  -- a word of tag 7 that isn't an intrinsic's
  pub named_procedure : v.tag ≡ 7 → ((p : IntrinsicPcw) → IsIntrinsicPcw p → v ≡ intrinsic_word p → ⊥) → LeadsTo core r display w (end.Proc at)
  named_procedure seven other = first_leads (end.Proc at) (λ a q f offset x c is.
      (let S : Tagged → Type 0 = λ y. live.StandsFor (live_of a) at f y x in
      proc_end core r (live_of a) q at f offset x v c (subst S is c.stands) seven other))

  -- an intrinsic's word
  module _ (p : IntrinsicPcw) (fits : IsIntrinsicPcw p) (is : v ≡ intrinsic_word p) where
    pub named_intrinsic : LeadsTo core r display w (end.Intrinsic p.number)
    named_intrinsic = first_leads (end.Intrinsic p.number) (λ a q f offset x c word. intrinsic_end core r (live_of a) q at f offset x p p.number c fits (word ∙ is) refl)

    -- whose number is that of an intrinsic of the MCP
    pub named_number : (a : RunningContext core r) → IsShown a display → (spot owner : ℕ) (x : Word) → StandsFor a spot owner w x → p.number ≤ 18
    named_number a shown spot owner x stands =
        let n = names a a.task.place shown spot owner x stands in
        let t = first_turn core r a a.task.place at x n.0 n.1 in
        (intrinsic_is core r (live_of a) a.task.place at t.frame t.cell.word t.word p t.cell.stands fits (same_Some _ _ (sym t.cell.there ∙ there) ∙ is)).1
