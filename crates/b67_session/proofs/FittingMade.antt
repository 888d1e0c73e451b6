-- A step whose segment and array are present needs no more than core has.
use Rattle.std.proofs.Common.{◌≡◌, ℕ, ◌≤◌, length, Option, Some, None, sym, ◌∙◌, ap, arith, ⊎_elim, subst, refl}
use Rattle.std.specs.Prelude.{nat_lt, unwrap_or, if◌then◌else◌}
use Rattle.std.proofs.lemmas.Bool.{cases_Bool}
use Rattle.b67_lemmas.specs.Lists.{Has}
use Rattle.b67_lemmas.proofs.Members.{all_in, keyed_falls}
use Rattle.b67_model.specs.Common.{Array, Task, SessionJob, Answer, Done, no_array, array, step, touched_of, started_by, need, Session, ArrayInOrder}
use Rattle.b67_layout.specs.Common.{IsInOrderButCounts, Placement, IsRunning, RepresentsSession, area_held, TouchedIsPresent}
use Rattle.b67_stack.specs.declared.Cpu.{Cpu}
use Rattle.b67_stack.specs.Represents.{Storage}
use Rattle.b67_layout.proofs.Fresh.{running_in_order}
use Rattle.b67_exec_cells.specs.Running.{code_area}
use Rattle.b67_task.specs.Needing.{need_with, touched_words, HasWords}
use Rattle.b67_task.proofs.Needs.{need_whole}
use Rattle.b67_session.specs.Fits.{HasSpace, IsArrayOfJob, MadeFits}
use Rattle.b67_mcp.proofs.Space.{has_space}

-- whichever of two it is, where both are at most that
chosen : (core base full n : ℕ) → n ≡ (if nat_lt core base then base else full) → base ≤ core → full ≤ core → n ≤ core
chosen core base full n e low high = ⊎_elim (λ t. omega (arith, rw t at e, low)) (λ t. omega (arith, rw t at e, high)) (cases_Bool (nat_lt core base))

module _ (x : Storage) (cpu : Cpu) (plan : Placement) (s : Session) (m : SessionJob) (t : Task) (o : IsInOrderButCounts s) (h : RepresentsSession x cpu plan s) (runs : IsRunning plan s.jobs m t) (at : ℕ) (present : code_area x plan m t ≡ Some at) where
  space : HasSpace x plan s m t (length cpu.core)
  space = has_space x cpu plan s m t o h runs at present

  -- the array of an identity
  array_is : (a : Array) (n : ℕ) → Has m.progress.job.arrays a → a.identity ≡ n → array m.progress.job n ≡ a
  array_is a n among is =
      let names = (running_in_order plan s m t o runs).0.tasks.names in
      ap (array m.progress.job) (sym is) ∙ ap (λ (f : Option Array). unwrap_or f no_array) (keyed_falls (λ (y : Array). y.identity) m.progress.job.next_array m.progress.job.arrays a names among)

  touched_space : (touched : Option ℕ) → TouchedIsPresent x plan m.constants.number touched → IsArrayOfJob m.progress.job touched
      → HasWords m.progress.job touched × (need_with s m t 0 (touched_words m.progress.job touched) ≤ length cpu.core)
  touched_space None p q = (tt, space.code)
  touched_space (Some n) (there, held) (a, among, is) =
      let count : length (array m.progress.job n).numbers ≡ length a.numbers = ap (λ (y : Array). length y.numbers) (array_is a n among is) in
      let some = (all_in ArrayInOrder m.progress.job.arrays a (running_in_order plan s m t o runs).0.tasks.arrays among).length_low in
      let fits = space.array a there among (ap (area_held x plan m.constants.number) is ∙ held) in
      (λ e. omega (arith, e, count, some), subst (λ (w : ℕ). need_with s m t 0 w ≤ length cpu.core) (sym count) fits)

  need_fits : TouchedIsPresent x plan m.constants.number (touched_of m.constants m.progress.job t (step m.constants m.progress.job t)) → IsArrayOfJob m.progress.job (touched_of m.constants m.progress.job t (step m.constants m.progress.job t))
      → started_by m.progress.job (step m.constants m.progress.job t) ≡ 0 → need (length cpu.core) s m t ≤ length cpu.core
  need_fits p q none =
      let made : Answer Done = step m.constants m.progress.job t in
      let touched = touched_of m.constants m.progress.job t made in
      let words = touched_words m.progress.job touched in
      let (some, fits) = touched_space touched p q in
      chosen (length cpu.core) (need_with s m t 0 0) (need_with s m t (started_by m.progress.job made) words) (need (length cpu.core) s m t)
      (need_whole (length cpu.core) s m t o.peak_low made refl some) space.code
      (subst (λ (k : ℕ). need_with s m t k words ≤ length cpu.core) (sym none) fits)

pub made_fit : MadeFits
made_fit cpu x plan s m t o h runs at touched present is there among none = grind (arith, need_fits)
