-- The one argument of a call of PRINTROW.
use Rattle.std.proofs.Common.{◌≡◌, ◌≢◌, ℕ, suc, List, [], ◌∷◌, length, Result, Ok, Err, sym, ◌∙◌, ap, subst, arith}
use Rattle.std.proofs.lemmas.List.{length-reverse}
use Rattle.b67_word.specs.Tagged.{Tagged}
use Rattle.b67_word.specs.declared.faults.Fault.{Fault}
use Rattle.b67_word.specs.declared.faults.Fault.TheVariants.{InvalidOperand}
use Rattle.b67_model.specs.Common.{Word, Row, Task, SessionJob, row_copy}
use Rattle.b67_stack.specs.Represents.{Storage}
use Rattle.b67_layout.specs.Common.{Placement, cells}
use Rattle.b67_fetch.proofs.Values.{TopFollowed}
use Rattle.b67_fetch.specs.Indexes.{FindsArray}
use Rattle.b67_mcp.specs.Printed.{IsCall}
use Rattle.b67_mcp.proofs.Ones.{one}
use Rattle.b67_mcp.specs.RowCalls.{CopyMeets, MissesCopy}

module _ (plan : Placement) (m : SessionJob) (t : Task) (r : Word) (arguments : List Word) (call : IsCall t r arguments) where
  count : length (cells t) ≡ suc (length arguments)
  count = sym (length-reverse (cells t)) ∙ ap length call.cells

  -- another number of arguments than one
  pub not_one : length (cells t) ≢ 2 → CopyMeets plan m t arguments (Err InvalidOperand)
  not_one ne next = grind (arith, count)

  by_word : (w : Word) → arguments ≡ w ∷ [] → (found : Result ℕ Fault) → FindsArray plan m found (row_copy w) → CopyMeets plan m t arguments found
  by_word w e found f = grind arith

  -- the top cell is the argument
  pub argument_meets : (x : Storage) (w : Tagged) (two : length (cells t) ≡ 2) (found : Result ℕ Fault) (a : TopFollowed x plan m t w) → FindsArray plan m found (row_copy a.word) → CopyMeets plan m t arguments found
  argument_meets x w two found a f =
      let o = one m t r arguments call two in
      grind (arith, by_word)

  -- another number of arguments is no array
  pub misses_not_one : (fault : Fault) → length (cells t) ≢ 2 → MissesCopy arguments (Err fault)
  misses_not_one fault ne a e = ne (count ∙ ap (λ (ws : List Word). suc (length ws)) e)

  -- nor is an argument that isn't copied
  pub argument_misses : (x : Storage) (w : Tagged) (two : length (cells t) ≡ 2) (found : Result ℕ Fault) (a : TopFollowed x plan m t w) → FindsArray plan m found (row_copy a.word) → MissesCopy arguments found
  argument_misses x w two (Ok original) a f = tt
  argument_misses x w two (Err fault) a f = λ n q.
      let o = one m t r arguments call two in
      let same : a.word ∷ a.rest ≡ o.argument ∷ r ∷ [] = sym a.is ∙ o.cells_are in
      let are : o.argument ∷ [] ≡ Row n ∷ [] = sym o.arguments_are ∙ q in
      let is : a.word ≡ Row n = cc in
      subst (λ (v : Word). FindsArray plan m (Err fault) (row_copy v)) is f
