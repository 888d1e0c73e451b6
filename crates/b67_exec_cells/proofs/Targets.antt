-- Where a branch goes on.
use Rattle.std.proofs.Common.{◌≡◌, ◌≢◌, ℕ, ◌%◌, List, [], ◌∷◌, Ok, Err, None, refl, sym, ap, arith, Bool, true, false, subst, ◌==◌}
use Rattle.std.proofs.Math.Bool.{beq}
use Rattle.b67_word.specs.Tagged.{Tagged}
use Rattle.b67_word.specs.Operands.{bit}
use Rattle.b67_word.specs.declared.couples.Place.{Place}
use Rattle.b67_word.specs.declared.faults.Fault.{Fault}
use Rattle.b67_word.specs.declared.faults.Fault.TheVariants.{InvalidOperand}
use Rattle.b67_model.specs.Common.{Answer, Word, operand, Task, SessionJob, OperatorContext, Session, Done, leaves_cells, branches, branch_if}
use Rattle.b67_stack.specs.declared.Cpu.{Cpu}
use Rattle.b67_stack.specs.Represents.{Storage}
use Rattle.b67_layout.specs.Common.{Placement, here, IsMade, IsWordOf, cells, GivesTop}
use Rattle.b67_layout.proofs.PlainOperands.{plain_operand}
use Rattle.b67_exec_cells.proofs.Rows.{Drops, an_operand}

first_bit : (bits : ℕ) → bit 0 bits ≡ bits % 2
first_bit bits = omega arith

module _ (h : OperatorContext) (a : Word) (rest : List Word) (bits : ℕ) (target : Place) (e : operand a ≡ Ok bits) where
  -- by the first bit
  taken : (wanted b : Bool) → (bit 0 bits == 1) ≡ b → beq b wanted ≡ true → branch_if wanted h (a ∷ rest) target ≡ leaves_cells (branches h target) rest None
  taken wanted b q k = grind arith

  passed : (wanted b : Bool) → (bit 0 bits == 1) ≡ b → beq b wanted ≡ false → branch_if wanted h (a ∷ rest) target ≡ leaves_cells (branches h h.task.place) rest None
  passed wanted b q k = grind arith

module _ (x : Storage) (old : Cpu) (plan : Placement) (s : Session) (m : SessionJob) (t : Task) (wanted : Bool) (target q : Place) where
  pub branch_missing : (fault : Fault) → GivesTop x plan m t old (cells t) (Err fault) → branch_if wanted (here m t q) (cells t) target ≡ Err fault
  branch_missing fault given = grind arith

  pub branch_refused : (u : Tagged) → GivesTop x plan m t old (cells t) (Ok u) → u.tag ≢ 0 → branch_if wanted (here m t q) (cells t) target ≡ Err InvalidOperand
  branch_refused u given ne = grind arith

  module _ (new : Cpu) (u : Tagged) (given : GivesTop x plan m t old (cells t) (Ok u)) (is : u.tag ≡ 0) where
    pub branch_taken : beq (u.bits % 2 == 1) wanted ≡ true → Drops x old plan s m t target 1 new → IsMade x plan s m old new (branch_if wanted (here m t q) (cells t) target)
    branch_taken k drops = by_cells (cells t) refl given where
      by_cells : (cs : List Word) → cells t ≡ cs → GivesTop x plan m t old cs (Ok u) → IsMade x plan s m old new (branch_if wanted (here m t q) cs target)
      by_cells [] e g = absurd (let z : ⊥ = cc in z)
      by_cells (a ∷ rest) e g =
          let same : g.0 ≡ u = (let d = g.1 in cc) in
          let P : Tagged → Type 0 = λ v. IsWordOf x plan m t a old.regs.s v in
          let o : operand a ≡ Ok u.bits = an_operand x plan m t a old.regs.s u (subst P same g.2.is) is in
          let Q : Answer Done → Type 0 = λ an. IsMade x plan s m old new an in
          subst Q (sym (taken (here m t q) a rest u.bits target o wanted (u.bits % 2 == 1) (ap (λ (n : ℕ). n == 1) (first_bit u.bits)) k)) (drops (a ∷ []) rest e refl (plain_operand a u.bits o, tt))

    pub branch_passed : beq (u.bits % 2 == 1) wanted ≡ false → Drops x old plan s m t q 1 new → IsMade x plan s m old new (branch_if wanted (here m t q) (cells t) target)
    branch_passed k drops = by_cells (cells t) refl given where
      by_cells : (cs : List Word) → cells t ≡ cs → GivesTop x plan m t old cs (Ok u) → IsMade x plan s m old new (branch_if wanted (here m t q) cs target)
      by_cells [] e g = absurd (let z : ⊥ = cc in z)
      by_cells (a ∷ rest) e g =
          let same : g.0 ≡ u = (let d = g.1 in cc) in
          let P : Tagged → Type 0 = λ v. IsWordOf x plan m t a old.regs.s v in
          let o : operand a ≡ Ok u.bits = an_operand x plan m t a old.regs.s u (subst P same g.2.is) is in
          let Q : Answer Done → Type 0 = λ an. IsMade x plan s m old new an in
          subst Q (sym (passed (here m t q) a rest u.bits target o wanted (u.bits % 2 == 1) (ap (λ (n : ℕ). n == 1) (first_bit u.bits)) k)) (drops (a ∷ []) rest e refl (plain_operand a u.bits o, tt))
