-- A call with one argument.
use Rattle.std.proofs.Common.{◌≡◌, ℕ, suc, List, [], ◌∷◌, reverse, length, Result, Ok, refl, sym, ◌∙◌, ap, subst, arith}
use Rattle.std.proofs.lemmas.List.{length-reverse}
use Rattle.b67_word.specs.Tagged.{Tagged}
use Rattle.b67_word.specs.declared.faults.Fault.{Fault}
use Rattle.b67_model.specs.Common.{Answer, ◌>>=◌, Word, number, Task, SessionJob}
use Rattle.b67_model.specs.Words.{whole}
use Rattle.b67_stack.specs.declared.Cpu.{Cpu}
use Rattle.b67_stack.specs.Represents.{Storage}
use Rattle.b67_layout.specs.Common.{Placement, cells, GivesTop}
use Rattle.b67_exec_cells.proofs.Rows.{operand_seen}
use Rattle.b67_mcp.specs.Calls.{IsCall, OnlyCell, operand_number}

-- the top one of two cells
pub only_cell : (x : Storage) (plan : Placement) (m : SessionJob) (t : Task) (cpu : Cpu) (cs : List Word) → length cs ≡ 2 → (found : Result Tagged Fault) → GivesTop x plan m t cpu cs found → OnlyCell x plan m t cpu cs found
only_cell x plan m t cpu cs two found g = grind arith

module _ (m : SessionJob) (t : Task) (r : Word) (arguments : List Word) (call : IsCall t r arguments) where
  pub count : length (cells t) ≡ suc (length arguments)
  count = sym (length-reverse (cells t)) ∙ ap length call.cells

  -- the cells of a call with one argument
  pub record One : Type 0 where
    pub argument : Word
    pub arguments_are : arguments ≡ argument ∷ []
    pub cells_are : cells t ≡ argument ∷ r ∷ []

  pub one : length (cells t) ≡ 2 → One
  one two = by (cells t) refl two call.cells
    where
      by : (cs : List Word) → cells t ≡ cs → length cs ≡ 2 → reverse cs ≡ r ∷ arguments → One
      by [] e two rev = absurd cc
      by (b ∷ []) e two rev = absurd cc
      by (b ∷ a ∷ []) e two rev =
          let first : a ≡ r = cc in
          let rest : b ∷ [] ≡ arguments = cc in
          record { argument = b; arguments_are = sym rest; cells_are = e ∙ ap (λ (w : Word). b ∷ w ∷ []) first }
      by (b ∷ a ∷ w ∷ more) e two rev = absurd cc

  module _ (x : Storage) (plan : Placement) (cpu : Cpu) (two : length (cells t) ≡ 2) where
    pub value_is : (v : Tagged) → GivesTop x plan m t cpu (cells t) (Ok v) → operand_number v ≡ whole (one two).argument
    value_is v g =
        let P : List Word → Type 0 = λ cs. GivesTop x plan m t cpu cs (Ok v) in
        let (u, e, at) = subst P (one two).cells_are g in
        let same : v ≡ u = cc in
        ap operand_number same ∙ ap (λ (o : Answer ℕ). o >>= number) (operand_seen x plan m t cpu.regs.s u (one two).argument at.is)
