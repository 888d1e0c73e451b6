-- The cell of an operand at the end of a reference.
use Rattle.std.proofs.Common.{◌≡◌, ◌≢◌, ℕ, ◌-◌, List, [], ◌∷◌, length, Some, None, Ok, Err, refl, sym, ◌∙◌, ap, arith, subst}
use Rattle.b67_word.specs.Tagged.{Tagged}
use Rattle.b67_word.specs.declared.couples.Place.{Place}
use Rattle.b67_word.specs.declared.faults.Fault.{Fault}
use Rattle.b67_word.specs.declared.faults.Fault.TheVariants.{InvalidOperand}
use Rattle.b67_ctl.specs.declared.registers.Regs.{Regs}
use Rattle.std.proofs.lemmas.Bool.{eq-eqb, ne_eqb}
use Rattle.b67_model.specs.Common.{Answer, ◌>>=◌, Waits, waits_at, causes, answers, End, AtCell, follow, follow_reference, Word, Operand, Name, Ref, Row, Element, Original, Proc, Intrinsic, WaitsAt, Task, SessionJob, Session}
use Rattle.b67_model.specs.Words as Words
use Rattle.b67_stack.specs.declared.Cpu.{Cpu}
use Rattle.b67_stack.specs.Represents.{Storage}
use Rattle.b67_layout.specs.Common.{IsInOrderButCounts, Placement, IsRunning, frame_address, RepresentsSession, here, cells}
use Rattle.b67_layout_step.proofs.Stored.{operand_own}
use Rattle.b67_refer.specs.declared.ends.End as ends
use Rattle.b67_refer.specs.declared.ends.End.TheVariants as end
use Rattle.b67_refer.specs.RunningContext.{RunningContext}
use Rattle.b67_refer.specs.Cells.{StandsFor, IsCellAt}
use Rattle.b67_refer.specs.Ends.{EndMeets}
use Rattle.b67_fetch.proofs.Values.{TopFollowed, here_scene}
use Rattle.b67_mcp.specs.Calls.{IsCall}
use Rattle.b67_mcp.proofs.Ones.{one}
use Rattle.b67_mcp.specs.declared.cell_given.CellFound.{CellFound}
use Rattle.b67_mcp.specs.Arguments.{end_given, CellAtEnd, IsFoundCell, FindsOperand}

module _ {core : List Tagged} {r : Regs} (a : RunningContext core r) (q : Place) where
  -- a word that is no reference
  pub no_reference : (at owner : ℕ) (w : Tagged) (v : Word) → StandsFor a at owner w v → (w.tag ≡ 1 → ⊥) → CellAtEnd a q (Err InvalidOperand) (follow_reference (here a.member a.task q) v)
  no_reference at owner w v s other = grind arith

  -- a reference is followed as any word
  pub same_follow : (at owner : ℕ) (w : Tagged) (v : Word) → StandsFor a at owner w v → w.tag ≡ 1 → follow (here a.member a.task q) v ≡ follow_reference (here a.member a.task q) v
  same_follow at owner w (Operand bits) s tag = refl
  same_follow at owner w (Name c) s tag = refl
  same_follow at owner w (Ref g o) s tag = refl
  same_follow at owner w (Row b) s tag = refl
  same_follow at owner w (Element b i) s tag = absurd (let z = ap (λ (y : Tagged). y.tag) s.0.is in omega (arith, z, tag))
  same_follow at owner w (Original b) s tag = refl
  same_follow at owner w (Proc g l p) s tag = refl
  same_follow at owner w (Intrinsic n) s tag = refl
  same_follow at owner w (Words.Segment n) s tag = refl

  pub at_cell : (at : ℕ) (y : Answer End) → EndMeets a q (Ok (end.Cell at)) y → CellAtEnd a q (Ok at) y
  at_cell at y e = grind arith

  pub at_fault : (fault : Fault) (y : Answer End) → EndMeets a q (Err fault) y → CellAtEnd a q (Err fault) y
  at_fault fault y e = grind arith

  abbrev pub IsOther : ends.End → Type 0
  IsOther (end.Cell at) = ⊥
  IsOther _ = Unit {0}

  pub at_other : (found : ends.End) → IsOther found → (y : Answer End) → EndMeets a q (Ok found) y → CellAtEnd a q (Err InvalidOperand) y
  at_other found k y e = grind arith

  -- the cell that was found
  pub record CellHere (at : ℕ) (y : Answer End) : Type 0 where
    pub f : ℕ
    pub offset : ℕ
    pub bits : ℕ
    pub is : y ≡ Ok (AtCell f offset bits)
    pub cell : IsCellAt a q at f offset (Operand bits)

  pub cell_here : (at : ℕ) (y : Answer End) → CellAtEnd a q (Ok at) y → CellHere at y
  cell_here at y e = grind arith

-- the argument's end is that of the word on top
pub end_is : (x : Storage) (plan : Placement) (m : SessionJob) (t : Task) (reference : Word) (arguments : List Word) (call : IsCall t reference arguments) (q : Place) (w : Tagged) → length (cells t) ≡ 2 → (k : TopFollowed x plan m t w)
    → end_given (here m t q) arguments ≡ follow_reference (here m t q) k.word
end_is x plan m t reference arguments call q w two k =
    let o = one m t reference arguments call two in
    grind arith

module _ (x : Storage) (cpu : Cpu) (plan : Placement) (s : Session) (m : SessionJob) (t : Task) (o : IsInOrderButCounts s) (h : RepresentsSession x cpu plan s) (runs : IsRunning plan s.jobs m t) (q : Place) where
  pub finds_fault : (fault : Fault) (y : Answer End) → CellAtEnd (here_scene x cpu plan s m t o h runs) q (Err fault) y → FindsOperand plan m t cpu.core q (Err fault) y
  finds_fault fault y e = grind arith

  pub finds_cell : (at mark : ℕ) (y : Answer End) (k : CellHere (here_scene x cpu plan s m t o h runs) q at y) → mark ≡ frame_address plan m t k.f → FindsOperand plan m t cpu.core q (Ok (record { at = at; mark = mark; offset = at - mark })) y
  finds_cell at mark y k e =
      let found : CellFound = record { at = at; mark = mark; offset = at - mark } in
      let P : Answer End → Type 0 = λ z. FindsOperand plan m t cpu.core q (Ok found) z in
      let c = k.cell in
      subst P (sym k.is) (record {
        own = operand_own cpu.core cpu.regs (here_scene x cpu plan s m t o h runs) q at k.f k.offset k.bits k.cell;
        names = c.names;
        cell_is = c.found;
        mark = e;
        offset_is = (let there = c.address in omega (arith, e, there));
        at = (let there = c.address in omega (arith, e, there));
        there = c.there ∙ ap Some c.stands.0.0;
        small = c.stands.1;
      })

  -- what was found, where it was
  pub record FoundHere (found : CellFound) (y : Answer End) : Type 0 where
    pub f : ℕ
    pub offset : ℕ
    pub bits : ℕ
    pub is : y ≡ Ok (AtCell f offset bits)
    pub cell : IsFoundCell plan m t cpu.core q found f offset bits

  pub found_here : (found : CellFound) (y : Answer End) → FindsOperand plan m t cpu.core q (Ok found) y → FoundHere found y
  found_here found y e = grind arith

  pub wait_fault : (fault : Fault) (y : Answer End) → FindsOperand plan m t cpu.core q (Err fault) y → (y >>= waits_at (here m t q)) ≡ Err fault
  wait_fault fault y e = grind arith

  pub cause_fault : (fault : Fault) (y : Answer End) → FindsOperand plan m t cpu.core q (Err fault) y → (y >>= causes (here m t q)) ≡ Err fault
  cause_fault fault y e = grind arith

  -- the row of WAIT at a cell that holds 0, and at another
  pub wait_zero : (f offset bits : ℕ) → bits ≡ 0 → waits_at (here m t q) (AtCell f offset bits) ≡ Ok (Waits (WaitsAt f offset))
  wait_zero f offset bits e = let zero = eq-eqb bits 0 e in rw zero refl

  pub wait_other : (f offset bits : ℕ) → bits ≢ 0 → waits_at (here m t q) (AtCell f offset bits) ≡ answers (here m t q) m.progress.job [] [] None
  wait_other f offset bits e = let some = ne_eqb bits 0 e in rw some refl
