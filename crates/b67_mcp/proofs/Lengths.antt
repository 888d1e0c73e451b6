-- What ARRAYDEC makes of its argument.
use Rattle.std.proofs.Common.{◌≡◌, ◌≢◌, ℕ, suc, ◌+◌, ◌<◌, ◌≤◌, ◌^◌, ℤ, List, [], ◌∷◌, length, Result, Ok, Err, None, refl, sym, ◌∙◌, ap, arith, true, false, subst}
use Rattle.std.specs.Result.{is_ok}
use Rattle.std.proofs.lemmas.Bool.{le-leb}
use Rattle.std.proofs.lemmas.List.{length-reverse}
use Rattle.b67_word.specs.Tagged.{Tagged}
use Rattle.b67_word.specs.declared.couples.Place.{Place}
use Rattle.b67_word.specs.declared.faults.Fault.{Fault}
use Rattle.b67_word.specs.declared.faults.Fault.TheVariants.{InvalidOperand, CriticalBlock}
use Rattle.b67_model.specs.Common.{Answer, ◌>>=◌, Word, Original, number, Task, SessionJob, height, top, below_top, with_top_cells, Done, is_critical, is_original, array_length, arraydec, answers}
use Rattle.b67_model.specs.Words.{whole}
use Rattle.b67_stack.specs.declared.Cpu.{Cpu}
use Rattle.b67_stack.specs.Represents.{Storage}
use Rattle.b67_layout.specs.Common.{Placement, here, cells, GivesTop}
use Rattle.b67_exec_cells.specs.Tops.{NoOriginals}
use Rattle.b67_mcp.specs.Printed.{IsCall}
use Rattle.b67_mcp.proofs.Ones.{one, value_is}
use Rattle.b67_mcp.specs.Declaring.{new_array, length_in, LengthMeets}
use Rattle.b67_mcp.proofs.Answering.{no_higher}

-- the length that a word of the state says
abbrev pub wanted : Word → Answer ℕ
wanted w = whole w >>= array_length

pub chain : (o : Answer ℤ) (K : ℕ → Answer Done) → (o >>= λ v. array_length v >>= K) ≡ ((o >>= array_length) >>= K)
chain o K = grind arith

pub plain_word : (w : Word) (n : ℕ) → wanted w ≡ Ok n → is_original w ≡ false
plain_word w n e = grind arith

module _ (m : SessionJob) (t : Task) (r : Word) (arguments : List Word) (call : IsCall t r arguments) where
  count : length (cells t) ≡ suc (length arguments)
  count = sym (length-reverse (cells t)) ∙ ap length call.cells

  -- another number of arguments than one
  pub not_one : length (cells t) ≢ 2 → LengthMeets m t arguments (Err InvalidOperand)
  not_one ne next = grind (arith, count)

  module _ (two : length (cells t) ≡ 2) where
    abbrev pub argument : Word
    argument = (one m t r arguments call two).argument

    pub length_is : (x : Storage) (plan : Placement) (cpu : Cpu) (v : Tagged) → GivesTop x plan m t cpu (cells t) (Ok v) → length_in v ≡ wanted argument
    length_is x plan cpu v g = ap (λ (o : Answer ℤ). o >>= array_length) (value_is m t r arguments call x plan cpu two v g)

    -- what is made of the length
    abbrev makes : Place → ℕ → Answer Done
    makes next n =
        answers (here m t next) (record m.progress.job { arrays = new_array m t n ∷ m.progress.job.arrays; next_array = m.progress.job.next_array + 1 }) (Original m.progress.job.next_array ∷ []) [] None

    row_is : (next : Place) → arraydec (here m t next) arguments ≡ (wanted argument >>= makes next)
    row_is next = ap (arraydec (here m t next)) (one m t r arguments call two).arguments_are ∙ chain (whole argument) (makes next)

    pub no_length : (fault : Fault) → wanted argument ≡ Err fault → LengthMeets m t arguments (Err fault)
    no_length fault e next = row_is next ∙ rw e refl

    pub critical : (n : ℕ) → wanted argument ≡ Ok n → is_critical m.progress.job (top t.frames).identity ≡ true → LengthMeets m t arguments (Err CriticalBlock)
    critical n e c next = row_is next ∙ rw e (rw c refl)

    pub lengths : (n : ℕ) → wanted argument ≡ Ok n → (0 < n) × (n < 2 ^ 16) → is_critical m.progress.job (top t.frames).identity ≡ false → height t.frames ≤ m.constants.stack_size → LengthMeets m t arguments (Ok n)
    lengths n e bounds c fits =
        let v : Word = Original m.progress.job.next_array in
        let high : ℕ = height (with_top_cells (below_top t.frames) (v ∷ (top (below_top t.frames)).cells)) in
        let low : high ≤ m.constants.stack_size = omega (arith, no_higher t.frames v (omega (arith, two)), fits) in (
          bounds.0,
          bounds.1,
          record { marked = call.marked; free = c; plain = subst NoOriginals (sym (one m t r arguments call two).cells_are) (plain_word argument n e, (call.plain, tt)) },
          λ next. row_is next ∙ rw e (rw c (rw (le-leb high m.constants.stack_size low) refl)),
        )

    -- by what the argument's word says
    pub decided : height t.frames ≤ m.constants.stack_size → (v : Tagged) (answer : Result ℕ Fault) → answer ≡ length_in v → length_in v ≡ wanted argument
        → ((n : ℕ) → answer ≡ Ok n → (0 < n) × (n < 2 ^ 16)) → ((n : ℕ) → answer ≡ Ok n → is_critical m.progress.job (top t.frames).identity ≡ false) → LengthMeets m t arguments answer
    decided fits v (Ok n) e is bounds free = lengths n (sym is ∙ sym e) (bounds n refl) (free n refl) fits
    decided fits v (Err fault) e is bounds free = no_length fault (sym is ∙ sym e)

    pub decided_critical : (v : Tagged) (answer : Result ℕ Fault) → answer ≡ length_in v → length_in v ≡ wanted argument → is_ok answer ≡ true → is_critical m.progress.job (top t.frames).identity ≡ true → LengthMeets m t arguments (Err CriticalBlock)
    decided_critical v (Ok n) e is ok c = critical n (sym is ∙ sym e) c
    decided_critical v (Err fault) e is ok c = absurd cc
