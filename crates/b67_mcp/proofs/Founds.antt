-- What PRINTROW makes of the array that it found.
use Rattle.std.proofs.Common.{◌≡◌, ◌≢◌, ℕ, ◌+◌, ◌≤◌, ℤ, List, [], ◌∷◌, map, length, Option, Some, None, Err, sym, ◌∙◌, ap, arith, true, false}
use Rattle.std.specs.List.{slice_range}
use Rattle.std.proofs.lemmas.Bool.{false≢true}
use Rattle.std.proofs.lemmas.List.{length-reverse}
use Rattle.b67_word.specs.Tagged.{Tagged, word}
use Rattle.b67_word.specs.declared.couples.Place.{Place}
use Rattle.b67_word.specs.declared.faults.Fault.TheVariants.{Exponent, CriticalBlock}
use Rattle.b67_model.specs.Common.{Answer, ◌>>=◌, Word, Row, array, Frame, Task, SessionJob, OperatorContext, height, top, below_top, Values, Done, is_critical, answers, printrow}
use Rattle.b67_stack.specs.Represents.{Storage}
use Rattle.b67_layout.specs.Common.{Placement, here, area_held, cells}
use Rattle.b67_mcp.specs.Printed.{IsCall}
use Rattle.b67_mcp.proofs.Ones.{one}
use Rattle.b67_mcp.specs.Texts.{values_of, is_some}
use Rattle.b67_mcp.specs.RowCalls.{Copies, CopiesPresent, IsPrintedRow}
use Rattle.b67_mcp.proofs.RowWords.{answer_of, numbers_are}

-- the values, if they are some
pub some_of : (o : Option (List ℤ)) → is_some o ≡ true → (vs : List ℤ) × (o ≡ Some vs)
some_of o e = grind arith

pub none_of : (o : Option (List ℤ)) → is_some o ≡ false → o ≡ None
none_of o e = grind arith

pub two_cells : (t : Task) (r : Word) (arguments : List Word) (a : ℕ) → IsCall t r arguments → arguments ≡ Row a ∷ [] → length (cells t) ≡ 2
two_cells t r arguments a call are = sym (length-reverse (cells t)) ∙ ap length call.cells ∙ ap (λ (ws : List Word). length (r ∷ ws)) are

-- the array that was copied is the only one that the arguments can be
pub copies_present : (x : Storage) (plan : Placement) (m : SessionJob) (arguments : List Word) (original at : ℕ) (k : Copies plan m arguments original) → area_held x plan m.constants.number k.array ≡ Some at → CopiesPresent x plan m arguments
copies_present x plan m arguments original at k on a e = grind arith

pub lower : (fs : List Frame) → height (below_top fs) ≤ height fs
lower fs = grind arith

module _ (plan : Placement) (m : SessionJob) (t : Task) (r : Word) (arguments : List Word) (call : IsCall t r arguments) (original : ℕ) (c : Copies plan m arguments original)
    (core : List Tagged) (at count : ℕ) (lies : slice_range core at (at + count) ≡ map (word 0) (array m.progress.job c.array).numbers) where
  abbrev row_by : OperatorContext → Answer (List ℤ) → Answer Done
  row_by h a = a >>= λ vs. answers h h.job [] (Values vs ∷ []) (Some c.array)

  printed : (next : Place) → printrow (here m t next) arguments ≡ row_by (here m t next) (answer_of (values_of (slice_range core at (at + count))))
  printed next = ap (printrow (here m t next)) c.are ∙ ap (row_by (here m t next)) (numbers_are (array m.progress.job c.array).numbers ∙ ap (λ (ws : List Tagged). answer_of (values_of ws)) (sym lies))

  pub not_whole : is_some (values_of (slice_range core at (at + count))) ≡ false → (next : Place) → printrow (here m t next) arguments ≡ Err Exponent
  not_whole e next = printed next ∙ ap (λ (o : Option (List ℤ)). row_by (here m t next) (answer_of o)) (none_of (values_of (slice_range core at (at + count))) e)

  pub critical : is_some (values_of (slice_range core at (at + count))) ≡ true → is_critical m.progress.job (top t.frames).identity ≡ true → (next : Place) → printrow (here m t next) arguments ≡ Err CriticalBlock
  critical e z next = grind (arith, printed)

  pub row_is : at + count ≤ length core → is_some (values_of (slice_range core at (at + count))) ≡ true → is_critical m.progress.job (top t.frames).identity ≡ false → height t.frames ≤ m.constants.stack_size → length (cells t) ≡ 2
      → IsPrintedRow m t core arguments at count
  row_is inside e z fits two =
      let (vs, is) = some_of (values_of (slice_range core at (at + count))) e in
      let low : height (below_top t.frames) ≤ m.constants.stack_size = omega (arith, lower t.frames, fits) in
      let o = one m t r arguments call two in
      grind (arith, printed)
