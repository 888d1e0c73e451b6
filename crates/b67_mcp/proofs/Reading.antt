-- What READ makes of its job.
use Rattle.std.proofs.Common.{◌≡◌, ◌≢◌, suc, ◌+◌, ◌≤◌, List, [], ◌∷◌, reverse, length, Ok, Err, refl, sym, ◌∙◌, ap, arith, true, false}
use Rattle.std.proofs.lemmas.List.{length-reverse}
use Rattle.b67_word.specs.Tagged.{Tagged, word}
use Rattle.b67_word.specs.declared.faults.Fault.TheVariants.{InvalidOperand, CriticalBlock}
use Rattle.b67_model.specs.Common.{Word, Task, SessionJob, height, top, is_critical, is_original, read_from, read}
use Rattle.b67_layout.specs.Common.{Placement, JobShows, here, cells}
use Rattle.b67_task.specs.declared.tables.JobRow.{JobRow}
use Rattle.b67_task.specs.Tables.{job_row}
use Rattle.b67_exec_cells.specs.Tops.{NoOriginals}
use Rattle.b67_mcp.specs.Printed.{IsCall}
use Rattle.b67_mcp.specs.Reads.{left_in, ReadMeets}

module _ (plan : Placement) (m : SessionJob) (t : Task) (r : Word) (arguments : List Word) (call : IsCall t r arguments) (old : JobRow) where
  count : length (cells t) ≡ suc (length arguments)
  count = sym (length-reverse (cells t)) ∙ ap length call.cells

  -- some argument
  pub not_none : length (cells t) ≢ 1 → ReadMeets plan m t arguments old old (Err InvalidOperand)
  not_none ne = grind (arith, count)

  module _ (one : length (cells t) ≡ 1) where
    no_argument : arguments ≡ []
    no_argument = by arguments count where
      by : (ws : List Word) → length (cells t) ≡ suc (length ws) → ws ≡ []
      by [] e = refl
      by (w ∷ more) e = absurd (omega (arith, e, one))

    plain : NoOriginals (cells t)
    plain = by (cells t) one call.cells where
      by : (cs : List Word) → length cs ≡ 1 → reverse cs ≡ r ∷ arguments → NoOriginals cs
      by [] n e = absurd (omega (arith, n))
      by (c ∷ []) n e = let same : c ≡ r = cc in (ap is_original same ∙ call.plain, tt)
      by (c ∷ d ∷ more) n e = absurd (omega (arith, n))

    pub critical : is_critical m.progress.job (top t.frames).identity ≡ true → ReadMeets plan m t arguments old old (Err CriticalBlock)
    critical c = (λ next. ap (read (here m t next)) no_argument ∙ rw c refl, refl)

    -- the number was taken
    pub taken : (new : JobRow) (w : Tagged) → is_critical m.progress.job (top t.frames).identity ≡ false → height t.frames ≤ m.constants.stack_size → JobShows plan m (job_row old)
        → w ≡ word 0 (read_from (left_in old)).0 → left_in new ≡ (read_from (left_in old)).1 → new ≡ record old { next_number = new.next_number } → ReadMeets plan m t arguments old new (Ok w)
    taken new w free fits shows is left same = grind (arith, plain, no_argument)
