-- Which of the two top cells is the value, where a store leads to a procedure.
use Rattle.std.proofs.Common.{◌≡◌, ◌≢◌, ℕ, ◌+◌, ◌-◌, ◌≤◌, List, [], ◌∷◌, Ok, Err, refl, sym, ◌∙◌, ap, Bool, true, subst, arith}
use Rattle.b67_word.specs.Tagged.{Tagged}
use Rattle.b67_word.specs.declared.couples.Place.{Place}
use Rattle.b67_word.specs.declared.faults.Fault.{Fault}
use Rattle.b67_model.specs.Common.{Answer, ◌>>=◌, in_order, follow, Task, SessionJob, OperatorContext, Word, Operand, operand}
use Rattle.b67_model.specs.Rows as rows
use Rattle.b67_stack.specs.declared.Cpu.{Cpu}
use Rattle.b67_stack.specs.Represents.{Storage}
use Rattle.b67_layout.specs.Common.{Placement, here, IsWordOf, IsAt, cells}
use Rattle.b67_exec_cells.specs.Tops.{GivesTwo}
use Rattle.b67_fetch.specs.Fetches.{enters_at, top_end}
use Rattle.b67_fetch.specs.Stores.{store_end}
use Rattle.b67_exec.proofs.Entered.{AtProcedure, at_procedure}
use Rattle.b67_exec.specs.Stores.{ValueOver}
use Rattle.b67_exec.proofs.Unders.{is_operand}
use Rattle.b67_exec_cells.proofs.Rows.{an_operand}

other_by : (x : Storage) (plan : Placement) (m : SessionJob) (t : Task) (w lower : Word) (at : ℕ) (v : Tagged) → IsWordOf x plan m t w at v → v.tag ≢ 0 → in_order w lower ≡ (w, lower)
other_by x plan m t w lower at v i ne = grind arith

-- what enters is an operand and an end
record Stored (h : OperatorContext) (value reference : Word) : Type 0 where
  pub bits : ℕ
  pub is : operand value ≡ Ok bits
  pub ends : enters_at (follow h reference) ≡ true

stored_by : (h : OperatorContext) (value reference : Word) (o : Answer ℕ) → operand value ≡ o → enters_at (o >>= λ (b : ℕ). follow h reference) ≡ true → Stored h value reference
stored_by h value reference (Ok bits) is e = record { bits = bits; is = is; ends = e }
stored_by h value reference (Err f) is e = absurd (let z : ⊥ = cc in z)

module _ (x : Storage) (cpu : Cpu) (plan : Placement) (m : SessionJob) (t : Task) (q : Place) (u v : Tagged) (enters : enters_at (store_end (here m t q) (cells t)) ≡ true) where
  -- two cells are there
  pub two_there : (f : Fault) → GivesTwo x plan m t cpu (cells t) (Err f) → ⊥
  two_there f given = grind arith

  pub value_over : GivesTwo x plan m t cpu (cells t) (Ok (u, v)) → cpu.regs.f + 2 ≤ cpu.regs.s → v.tag ≡ 0 → ValueOver cpu x plan m t q u v
  value_over given enough zero = by_cells (cells t) refl enters given where
    by_cells : (cs : List Word) → cells t ≡ cs → enters_at (store_end (here m t q) cs) ≡ true → GivesTwo x plan m t cpu cs (Ok (u, v)) → ValueOver cpu x plan m t q u v
    by_cells [] is e g = absurd (let z : ⊥ = cc in z)
    by_cells (b ∷ []) is e g = absurd (let z : ⊥ = cc in z)
    by_cells (b ∷ a ∷ rest) is e g =
        let pair : ◌≡◌ {A = Tagged × Tagged} (g.0, g.1) (u, v) = (let d = g.2 in cc) in
        let same_u : g.0 ≡ u = ap (λ (z : Tagged × Tagged). z.0) pair in
        let same_v : g.1 ≡ v = ap (λ (z : Tagged × Tagged). z.1) pair in
        let U : Tagged → Type 0 = λ z. IsAt x plan m t cpu.core a (cpu.regs.s - 1) z in
        let V : Tagged → Type 0 = λ z. IsAt x plan m t cpu.core b cpu.regs.s z in
        let at_u = subst U same_u g.3 in
        let at_v = subst V same_v g.4 in
        let o : operand b ≡ Ok v.bits = an_operand x plan m t b cpu.regs.s v at_v.is zero in
        let bw : b ≡ Operand v.bits = is_operand b v.bits o in
        let E : Word → Type 0 = λ z. enters_at (store_end (here m t q) (z ∷ a ∷ rest)) ≡ true in
        let p = at_procedure (follow (here m t q) a) (subst E bw e) in
        let B : Word → Type 0 = λ z. IsAt x plan m t cpu.core z cpu.regs.s v in
        record {
          bits = v.bits;
          reference = a;
          rest = rest;
          is = is ∙ ap (λ (z : Word). z ∷ a ∷ rest) bw;
          frame = p.frame;
          segment = p.segment;
          level = p.level;
          place = p.place;
          ends = p.is;
          under = at_u;
          over = subst B bw at_v;
          enough = enough;
        }

  -- the reference on top
  pub record OnTop : Type 0 where
    pub leads : enters_at (top_end (here m t q) (cells t)) ≡ true
    pub same : (keeps : Bool) → rows.store keeps (here m t q) (cells t) ≡ rows.load (here m t q) (cells t)

  row_by : (b a : Word) (rest : List Word) (keeps : Bool) (bits : ℕ) (p : AtProcedure (follow (here m t q) b)) → in_order b a ≡ (b, a) → operand a ≡ Ok bits → rows.store keeps (here m t q) (b ∷ a ∷ rest) ≡ rows.load (here m t q) (b ∷ a ∷ rest)
  row_by b a rest keeps bits p order o = grind arith

  pub on_top : GivesTwo x plan m t cpu (cells t) (Ok (u, v)) → v.tag ≢ 0 → OnTop
  on_top given other = by_cells (cells t) refl enters given where
    by_cells : (cs : List Word) → cells t ≡ cs → enters_at (store_end (here m t q) cs) ≡ true → GivesTwo x plan m t cpu cs (Ok (u, v)) → OnTop
    by_cells [] is e g = absurd (let z : ⊥ = cc in z)
    by_cells (b ∷ []) is e g = absurd (let z : ⊥ = cc in z)
    by_cells (b ∷ a ∷ rest) is e g =
        let pair : ◌≡◌ {A = Tagged × Tagged} (g.0, g.1) (u, v) = (let d = g.2 in cc) in
        let same_v : g.1 ≡ v = ap (λ (z : Tagged × Tagged). z.1) pair in
        let V : Tagged → Type 0 = λ z. IsAt x plan m t cpu.core b cpu.regs.s z in
        let at_v = subst V same_v g.4 in
        let order = other_by x plan m t b a cpu.regs.s v at_v.is other in
        let T : Word × Word → Type 0 = λ two. enters_at (operand two.1 >>= λ (n : ℕ). follow (here m t q) two.0) ≡ true in
        let k = stored_by (here m t q) a b (operand a) refl (subst T order e) in
        let p = at_procedure (follow (here m t q) b) k.ends in
        let C : List Word → Type 0 = λ cs. enters_at (top_end (here m t q) cs) ≡ true in
        let D : Bool → List Word → Type 0 = λ keeps cs. rows.store keeps (here m t q) cs ≡ rows.load (here m t q) cs in
        record {
          leads = subst C (sym is) k.ends;
          same = λ keeps. subst (D keeps) (sym is) (row_by b a rest keeps k.bits p order k.is);
        }
