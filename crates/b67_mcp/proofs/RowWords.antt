-- The words of a live array in core, and their values.
use Rattle.std.proofs.Common.{◌≡◌, ℕ, ◌+◌, ℤ, List, [], ◌∷◌, map, length, Option, Some, None, Ok, Err, refl, sym, ◌∙◌, ap, Bool, subst, arith}
use Rattle.std.specs.Prelude.{if◌then◌else◌}
use Rattle.std.specs.List.{slice_range}
use Rattle.std.proofs.lemmas.List.{length-map}
use Rattle.b67_word.specs.Common.{word}
use Rattle.b67_word.specs.declared.faults.Fault.TheVariants.{Exponent}
use Rattle.b67_model.specs.Common.{Answer, ◌>>=◌, number, array, Array, Task, SessionJob, numbers_of, number_of as number_of_member, Session}
use Rattle.b67_layout.specs.Common.{IsInOrderButCounts, Placement, array_object, IsRunning, RepresentsSession, area_held}
use Rattle.b67_stack.specs.declared.Cpu.{Cpu}
use Rattle.b67_stack.specs.Common.{LieUpward, Storage, Content}
use Rattle.b67_stack.proofs.Lies.{upward-range}
use Rattle.b67_exec_cells.proofs.Replaced.{array_object-has}
use Rattle.b67_exec_cells.specs.Elements.{HasElement}
use Rattle.b67_exec_cells.proofs.Arrays.{array_is, tag_by}
use Rattle.b67_mcp.specs.Texts.{values_with, values_of}
use Rattle.b67_lemmas.proofs.Members.{keyed_has}

-- the values of a row's numbers, or EXPONENT
abbrev pub answer_of : Option (List ℤ) → Answer (List ℤ)
answer_of None = Err Exponent
answer_of (Some vs) = Ok vs

joins : (b : Bool) (v : ℤ) (o : Option (List ℤ)) → ((if b then Ok v else Err Exponent) >>= λ n. answer_of o >>= λ ns. Ok (n ∷ ns)) ≡ answer_of (values_with (if b then Some v else None) o)
joins b v o = grind arith

pub numbers_are : (ns : List ℕ) → numbers_of ns ≡ answer_of (values_of (map (word 0) ns))
numbers_are [] = refl
numbers_are (n ∷ ns) = grind (arith, numbers_are ns)

module _ (x : Storage) (cpu : Cpu) (plan : Placement) (s : Session) (m : SessionJob) (t : Task) (ordered : IsInOrderButCounts s) (h : RepresentsSession x cpu plan s) (runs : IsRunning plan s.jobs m t) (n : ℕ) (e : HasElement m.progress.job n 0) where
  pub row_words : (at : ℕ) → area_held x plan m.constants.number n ≡ Some at → slice_range cpu.core at (at + length (array m.progress.job n).numbers) ≡ map (word 0) (array m.progress.job n).numbers
  row_words at held =
      let object = array_object plan m.constants.number e.item in
      let there = array_object-has plan s.jobs m e.item (keyed_has number_of_member m.constants.number s.jobs m runs.member).0 e.live in
      let stands = h.holds.memory.objects object there in
      let C : Option ℕ → Type 0 = λ o. Content x cpu.core object o (x.held object.home).chain in
      let area : (x.held object.home).area ≡ Some at = ap (λ (i : ℕ). (x.held (plan.home m.constants.number i)).area) e.named ∙ held in
      let up = (subst C area stands.content).0 in
      let U : ℕ → Type 0 = λ g. LieUpward cpu.core at (map (word g) e.item.numbers) in
      let up0 = subst U (tag_by e.item e.item.writable refl) up in
      let one : slice_range cpu.core at (at + length e.item.numbers) ≡ map (word 0) e.item.numbers = upward-range cpu.core at (length e.item.numbers) (map (word 0) e.item.numbers) (sym (length-map e.item.numbers (word 0))) up0 in
      let P : Array → Type 0 = λ a. slice_range cpu.core at (at + length a.numbers) ≡ map (word 0) a.numbers in
      subst P (sym (array_is x cpu plan s m t ordered h runs n 0 e)) one
