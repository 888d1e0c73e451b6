-- Every row makes only its own words and marks.
use Rattle.std.proofs.Common.{◌≡◌, ℕ, ◌+◌, ℤ, Bool, true, false, cond, eqb, leb, ltb, List, [], ◌∷◌, reverse, replicate, length, Option, Some, None, Ok, refl, sym, ap, ◌∙◌, subst, inl, inr, ◌⊎◌, arith}
use Rattle.b67_word.specs.declared.couples.Place.{Place}
use Rattle.b67_model.specs.declared.operators.Op.{Op}
use Rattle.b67_model.specs.declared.operators.Op.TheVariants.{Valc, Namc, Lt8, Lt16, Lt48, Mpcw, Brun, Brtr, Brfl, Bset, Brst, Isol, Insr, Plain}
use Rattle.b67_model.specs.declared.operators.Code.{Code}
use Rattle.b67_model.specs.declared.operators.Code.TheVariants as codes
use Rattle.b67_model.specs.Common.{Answer, needs, Binary, bset, brst, isol, insr, Word, Operand, Name, Ref, Row, Element, Original, operand, Return, Frame, Standing, Marked, Entered, Task, OperatorContext, top, below_top, with_task, called, called_on, called_by, called_at, with_cell, element, with_element, with_array, all_zero, resized, indexed, in_order, End, AtCell, AtElement, AtArray, AtProc, AtIntrinsic, chase, follow, Line, Done, Goes, top_of, cells_of, with_cells, leaves_cells, pushes, back_to, needs_level, answered, answers, array_length, arraydec, print, row_copy, printrow, read, child_of, starts, process, awaits, await, status, waits_at, wait, causes, cause, needs_writable, deallocate, resize, intrinsic, on_one, on_two, dlet, exch, dupl, on_cells, branches, branch_if, stff, load_at, load, indx, nxlv, store_at, store, entr_at, entr_with, entr, proc_of, plain, row, place_of, cell, follow_reference, stff_word, Class, OnTwo, OnOne, OnCells, Pushes, Idle, Own, class, by_class}
use Rattle.b67_law.proofs.Classes.{IsOnOperands}
use Rattle.b67_lemmas.specs.Lists.{Has}
use Rattle.b67_lemmas.proofs.Members.{has_reverse_back}
use Rattle.b67_model.specs.Words.{whole}
use Rattle.std.proofs.lemmas.Bool.{eqb-true}
use Rattle.b67_word.specs.declared.faults.Fault.TheVariants.{StackOverflow}
use Rattle.b67_law.proofs.Posts.{Post, post_ok, post_err, post_any, post_then, post_if, post_at, post_if_is, post_bind}
use Rattle.b67_law.specs.Made.{OperatorMakes, MakesMark, by_mkst, by_entr, by_retn, by_load, by_stod, by_ston, by_valc, HasWord, HasMark, EachRowMakesItsWords, by_process}
use Rattle.b67_law.proofs.WordSteps as S

module _ (W : Word → Type 0) (M : ℕ → Standing → Type 0) (numbers : (bits : ℕ) → W (Operand bits)) where
  abbrev Good : Answer Done → Type 0
  Good answer = S.Good W M numbers answer

  abbrev Kept : Done → Type 0
  Kept done = S.Kept W M numbers done

  abbrev Source : OperatorContext → Type 0
  Source h = S.Source W M numbers h

  abbrev AllW : List Word → Type 0
  AllW words = S.AllW W M numbers words

  branch_good : (wanted : Bool) (h : OperatorContext) (cells : List Word) (target : Place) → Source h → AllW cells → Good (branch_if wanted h cells target)
  branch_good wanted h [] target s words = post_err Kept _
  branch_good wanted h (a ∷ rest) target s words = post_any Kept (operand a) _ (λ x. S.cells_good W M numbers (branches h _) rest None (record { tasks = s.tasks; own = s.own }) (S.tail_words W M numbers a rest words))

  stff_keeps : (h : OperatorContext) → ((f offset : ℕ) → W (Ref f offset)) → (cells : List Word) → AllW cells → Post AllW (stff h cells)
  stff_keeps h refs [] all = post_err AllW _
  stff_keeps h refs (w ∷ rest) all = post_bind W AllW (stff_word h w) _ (by w) (λ v one. post_ok AllW _ (S.cons_words W M numbers v rest one (S.tail_words W M numbers w rest all)))
    where
      by : (w : Word) → Post W (stff_word h w)
      by (Ref f offset) = post_ok W _ (refs f offset)
      by (Name couple) = post_any W (place_of h (Name couple)) _ (λ at. post_any W (cell h at.0 at.1) _ (λ x. post_ok W _ (refs at.0 at.1)))
      by w = post_err W _

  load_at_good : (h : OperatorContext) (rest : List Word) (end : End) → Source h → S.Enters W M numbers → ((a : ℕ) → W (Row a)) → AllW rest → Good (load_at h rest end)
  load_at_good h rest (AtCell f offset bits) s enter rows words = S.cells_good W M numbers h (Operand bits ∷ rest) None s (S.cons_words W M numbers (Operand bits) rest (numbers bits) words)
  load_at_good h rest (AtElement a index) s enter rows words = S.cells_good W M numbers h (Operand (element h.job a index) ∷ rest) (Some a) s (S.cons_words W M numbers (Operand (element h.job a index)) rest (numbers (element h.job a index)) words)
  load_at_good h rest (AtArray a) s enter rows words = S.cells_good W M numbers h (Row a ∷ rest) None s (S.cons_words W M numbers (Row a) rest (rows a) words)
  load_at_good h rest (AtProc f segment level place) s enter rows words = S.accident_good W M numbers h rest (back_to h false h.at) (AtProc f segment level place) s enter words
  load_at_good h rest (AtIntrinsic n) s enter rows words = post_err Kept _

  load_good : (h : OperatorContext) (cells : List Word) → Source h → S.Enters W M numbers → ((a : ℕ) → W (Row a)) → AllW cells → Good (load h cells)
  load_good h cells s enter rows words = grind (arith, load_at_good)

  two_tail : (b a : Word) (rest : List Word) → AllW (b ∷ a ∷ rest) → AllW rest
  two_tail b a rest words = S.tail_words W M numbers a rest (S.tail_words W M numbers b (a ∷ rest) words)

  indx_good : (h : OperatorContext) (cells : List Word) → Source h → ((a index : ℕ) → W (Element a index)) → AllW cells → Good (indx h cells)
  indx_good h [] s elements words = post_err Kept _
  indx_good h (b ∷ []) s elements words = post_err Kept _
  indx_good h (b ∷ a ∷ rest) s elements words = post_any Kept (indexed h (in_order b a).0 (in_order b a).1) _ (λ at. S.cells_good W M numbers h (Element at.0 at.1 ∷ rest) None s (S.cons_words W M numbers (Element at.0 at.1) rest (elements at.0 at.1) (two_tail b a rest words)))

  nxlv_good : (h : OperatorContext) (cells : List Word) → Source h → AllW cells → Good (nxlv h cells)
  nxlv_good h [] s words = post_err Kept _
  nxlv_good h (b ∷ []) s words = post_err Kept _
  nxlv_good h (b ∷ a ∷ rest) s words = post_any Kept (indexed h (in_order b a).0 (in_order b a).1) _ (λ at. S.cells_good W M numbers h (Operand (element h.job at.0 at.1) ∷ rest) (Some at.0) s (S.cons_words W M numbers (Operand (element h.job at.0 at.1)) rest (numbers (element h.job at.0 at.1)) (two_tail b a rest words)))

  store_at_good : (h : OperatorContext) (rest kept : List Word) (bits : ℕ) (end : End) → Source h → S.Enters W M numbers → AllW rest → AllW kept → Good (store_at h rest kept bits end)
  store_at_good h rest kept bits (AtCell f offset old) s enter words keeps = post_ok Kept _ (S.stored_made W M numbers (with_task h.job (with_cells h kept)) f offset bits (S.task_made W M numbers h.job (with_cells h kept) s.tasks (S.cells_made W M numbers h.task.frames kept s.own keeps)))
  store_at_good h rest kept bits (AtElement a index) s enter words keeps = post_then Kept _ _ (S.result_good W M numbers h (with_element h.job a index bits) (with_cells h kept) [] (Some a) s.tasks (S.cells_made W M numbers h.task.frames kept s.own keeps))
  store_at_good h rest kept bits (AtProc f segment level place) s enter words keeps = S.accident_good W M numbers h (Operand bits ∷ rest) (back_to h false h.at) (AtProc f segment level place) s enter (S.cons_words W M numbers (Operand bits) rest (numbers bits) words)
  store_at_good h rest kept bits (AtArray a) s enter words keeps = post_err Kept _
  store_at_good h rest kept bits (AtIntrinsic n) s enter words keeps = post_err Kept _

  pair_word : (b a : Word) (rest : List Word) → AllW (b ∷ a ∷ rest) → W (in_order b a).1
  pair_word b a rest words = grind arith

  store_good : (keeps : Bool) (h : OperatorContext) (cells : List Word) → Source h → S.Enters W M numbers → AllW cells → Good (store keeps h cells)
  store_good keeps h [] s enter words = post_err Kept _
  store_good keeps h (b ∷ []) s enter words = post_err Kept _
  store_good keeps h (b ∷ a ∷ rest) s enter words = post_any Kept (operand (in_order b a).1) _ (λ bits. post_any Kept (follow h (in_order b a).0) _ (λ end. store_at_good h rest _ bits end s enter (two_tail b a rest words) (kept keeps)))
    where
      kept : (k : Bool) → AllW (cond k ((in_order b a).1 ∷ rest) rest)
      kept true = S.cons_words W M numbers (in_order b a).1 rest (pair_word b a rest words) (two_tail b a rest words)
      kept false = two_tail b a rest words

  none_good : (h : OperatorContext) (printed : List Line) (touched : Option ℕ) → Source h → Good (answers h h.job [] printed touched)
  none_good h printed touched s = S.answers_good W M numbers h h.job [] printed touched s s.tasks (S.no_words W M numbers)

  operand_good : (h : OperatorContext) (bits : ℕ) (ns : List ℤ) → Source h → Good (answers h (record h.job { numbers = ns }) (Operand bits ∷ []) [] None)
  operand_good h bits ns s = S.answers_good W M numbers h (record h.job { numbers = ns }) (Operand bits ∷ []) [] None s s.tasks (S.one_word W M numbers (Operand bits) (numbers bits))

  arraydec_good : (h : OperatorContext) (arguments : List Word) → Source h → ((a : ℕ) → W (Original a)) → Good (arraydec h arguments)
  arraydec_good h [] s originals = post_err Kept _
  arraydec_good h (w ∷ []) s originals = post_any Kept (whole w) _ (λ n. post_any Kept (array_length n) _ (λ len.
      S.answers_good W M numbers h (record h.job { arrays = record { identity = h.job.next_array; owner = (top (below_top h.task.frames)).identity; writable = true; numbers = replicate len 0 } ∷ h.job.arrays; next_array = h.job.next_array + 1 }) (Original h.job.next_array ∷ []) [] None s s.tasks (S.one_word W M numbers (Original h.job.next_array) (originals h.job.next_array))))
  arraydec_good h (w ∷ v ∷ more) s originals = post_err Kept _

  print_good : (h : OperatorContext) (arguments : List Word) → Source h → Good (print h arguments)
  print_good h arguments s = grind (arith, none_good)

  printrow_good : (h : OperatorContext) (arguments : List Word) → Source h → Good (printrow h arguments)
  printrow_good h arguments s = grind (arith, none_good)

  read_good : (h : OperatorContext) (arguments : List Word) → Source h → Good (read h arguments)
  read_good h arguments s = grind (arith, operand_good)

  -- PROCESS enters a Proc in a new task
  abbrev Started : Type 0
  Started = (n level environment : ℕ) → M n (Entered level environment None)

  starts_good : (h : OperatorContext) (words : List Word) (end : End) → Source h → Started → AllW words → Good (starts h words end)
  starts_good h words (AtProc f segment level place) s enter all =
      let child = child_of h words f segment level place in
      let frame : Frame = record { identity = h.job.next_frame; standing = Entered level f None; cells = reverse words } in
      let made : S.Made W M numbers frame = (λ w k. all w (has_reverse_back words w k), enter h.job.next_frame level f) in
      let tasks : S.TasksMade W M numbers (child ∷ h.job.tasks) = λ t k. elim k [
        | inl e ↦ subst (λ (u : Task). S.AllMade W M numbers u.frames) e (λ g j. elim j [ inl d ↦ subst (S.Made W M numbers) d made | inr x ↦ absurd x ])
        | inr m ↦ s.tasks t m
      ] in
      post_then Kept (needs_level h f level) _ (post_then Kept (needs (leb (3 + length words) h.constants.stack_size) StackOverflow) _ (post_if Kept (ltb (length h.job.tasks) 15) _ _
      (S.answers_good W M numbers h (record h.job { tasks = child ∷ h.job.tasks; next_task = h.job.next_task + 1; next_frame = h.job.next_frame + 1 }) (Operand h.job.next_task ∷ []) [] None s tasks (S.one_word W M numbers (Operand h.job.next_task) (numbers h.job.next_task)))
      (operand_good h 0 h.job.numbers s)))
  starts_good h words (AtCell f offset bits) s enter all = post_err Kept _
  starts_good h words (AtElement a index) s enter all = post_err Kept _
  starts_good h words (AtArray a) s enter all = post_err Kept _
  starts_good h words (AtIntrinsic n) s enter all = post_err Kept _

  process_good : (h : OperatorContext) (arguments : List Word) → Source h → Started → AllW arguments → Good (process h arguments)
  process_good h [] s enter all = post_err Kept _
  process_good h (r ∷ words) s enter all = post_then Kept _ _ (post_any Kept (follow_reference h r) _ (λ end. starts_good h words end s enter (S.tail_words W M numbers r words all)))

  awaits_good : (h : OperatorContext) (n : ℤ) → Source h → Good (awaits h n)
  awaits_good h n s = grind (arith, none_good)

  await_good : (h : OperatorContext) (arguments : List Word) → Source h → Good (await h arguments)
  await_good h arguments s = grind (arith, awaits_good)

  status_good : (h : OperatorContext) (arguments : List Word) → Source h → Good (status h arguments)
  status_good h arguments s = grind (arith, operand_good)

  waits_at_good : (h : OperatorContext) (end : End) → Source h → Good (waits_at h end)
  waits_at_good h end s = grind (arith, none_good)

  wait_good : (h : OperatorContext) (arguments : List Word) → Source h → Good (wait h arguments)
  wait_good h arguments s = grind (arith, waits_at_good)

  causes_good : (h : OperatorContext) (end : End) → Source h → Good (causes h end)
  causes_good h (AtCell f offset bits) s = post_then Kept _ _ (post_ok Kept _ (S.woken_made W M numbers (with_cell (with_task h.job (answered h [])) f offset (Operand 1)) f offset
      (S.stored_made W M numbers (with_task h.job (answered h [])) f offset 1 (S.task_made W M numbers h.job (answered h []) s.tasks (S.answered_made W M numbers h [] s (S.no_words W M numbers))))))
  causes_good h (AtElement a index) s = post_err Kept _
  causes_good h (AtArray a) s = post_err Kept _
  causes_good h (AtProc f segment level place) s = post_err Kept _
  causes_good h (AtIntrinsic n) s = post_err Kept _

  cause_good : (h : OperatorContext) (arguments : List Word) → Source h → Good (cause h arguments)
  cause_good h arguments s = grind (arith, causes_good)

  deallocate_good : (h : OperatorContext) (arguments : List Word) → Source h → Good (deallocate h arguments)
  deallocate_good h [] s = post_err Kept _
  deallocate_good h (w ∷ []) s = post_any Kept (row_copy w) _ (λ a. post_then Kept (needs_writable h a) _ (S.answers_good W M numbers h (with_array h.job a all_zero) [] [] None s s.tasks (S.no_words W M numbers)))
  deallocate_good h (w ∷ v ∷ more) s = post_err Kept _

  resize_good : (h : OperatorContext) (arguments : List Word) → Source h → Good (resize h arguments)
  resize_good h [] s = post_err Kept _
  resize_good h (r ∷ []) s = post_err Kept _
  resize_good h (r ∷ w ∷ []) s = post_any Kept (row_copy r) _ (λ a. post_any Kept (whole w) _ (λ n. post_any Kept (array_length n) _ (λ len.
      post_then Kept (needs_writable h a) _ (S.answers_good W M numbers h (with_array h.job a (resized len)) [] [] (Some a) s s.tasks (S.no_words W M numbers)))))
  resize_good h (r ∷ w ∷ v ∷ more) s = post_err Kept _

  -- what the call of an intrinsic makes, if it is this one
  pub record Calls (call : Option ℕ) : Type 0 where
    pub arraydec : call ≡ Some 8 → (a : ℕ) → W (Original a)
    pub process : call ≡ Some 12 → Started
    pub enters : call ≡ None → S.Enters W M numbers

  named : (k n : ℕ) (call : Option ℕ) → call ≡ Some n → eqb k n ≡ true → call ≡ Some k
  named k n call is e = is ∙ ap Some (sym (eqb-true k n e))

  intrinsic_good : (n : ℕ) (h : OperatorContext) (arguments : List Word) (call : Option ℕ) → call ≡ Some n → Source h → Calls call → AllW arguments → Good (intrinsic n h arguments)
  intrinsic_good n h arguments call is s made all =
      post_if_is Kept _ _ _ (λ e. arraydec_good h arguments s (made.arraydec (named 8 n call is e))) (λ _. post_if Kept _ _ _ (print_good h arguments s) (post_if Kept _ _ _ (printrow_good h arguments s) (post_if Kept _ _ _ (read_good h arguments s)
      (post_if_is Kept _ _ _ (λ e. process_good h arguments s (made.process (named 12 n call is e)) all) (λ _. post_if Kept _ _ _ (await_good h arguments s) (post_if Kept _ _ _ (status_good h arguments s) (post_if Kept _ _ _ (wait_good h arguments s) (post_if Kept _ _ _ (cause_good h arguments s)
      (post_if Kept _ _ _ (deallocate_good h arguments s) (post_if Kept _ _ _ (resize_good h arguments s) (post_err Kept _)))))))))))

  entr_at_good : (h : OperatorContext) (arguments : List Word) (end : End) (call : Option ℕ) → call ≡ called_at (Ok end) → Source h → Calls call → AllW arguments → Good (entr_at h arguments end)
  entr_at_good h arguments (AtIntrinsic n) call is s made all = intrinsic_good n h arguments call is s made all
  entr_at_good h arguments (AtProc f segment level place) call is s made all = S.enters_good W M numbers h arguments (AtProc f segment level place) s (made.enters is) (λ w k. all w (has_reverse_back arguments w k))
  entr_at_good h arguments (AtCell f offset bits) call is s made all = post_err Kept _
  entr_at_good h arguments (AtElement a index) call is s made all = post_err Kept _
  entr_at_good h arguments (AtArray a) call is s made all = post_err Kept _

  entr_with_good : (h : OperatorContext) (cells : List Word) (call : Option ℕ) → call ≡ called_by h cells → Source h → Calls call → AllW cells → Good (entr_with h cells)
  entr_with_good h cells call is s made all = grind (arith, entr_at_good)

  entr_good : (h : OperatorContext) (standing : Standing) (call : Option ℕ) → call ≡ called_on h standing → Source h → Calls call → Good (entr h standing)
  entr_good h Marked call is s made = entr_with_good h (reverse (cells_of h)) call is s made (λ w k. S.own_words W M numbers h s w (has_reverse_back (cells_of h) w k))
  entr_good h (Entered level environment back) call is s made = post_err Kept _

-- words that were there, or that an operator makes
abbrev WordOf : Op → OperatorContext → Word → Type 0
WordOf op h w = HasWord h.job.tasks w ⊎ OperatorMakes op (called op h) w

abbrev MarkOf : Op → OperatorContext → ℕ → Standing → Type 0
MarkOf op h n s = HasMark h.job.tasks n s ⊎ MakesMark op (called op h) s

module _ (op : Op) (h : OperatorContext) (found : Task) (live : Has h.job.tasks found) (frames : found.frames ≡ h.task.frames) where
  operands : (bits : ℕ) → WordOf op h (Operand bits)
  operands bits = inr tt

  abbrev Source' : Type 0
  Source' = S.Source (WordOf op h) (MarkOf op h) operands h

  frame_in : (t : Task) → Has h.job.tasks t → (f : Frame) → Has t.frames f → S.Made (WordOf op h) (MarkOf op h) operands f
  frame_in t k f j = grind arith

  source : Source'
  source = record { tasks = frame_in; own = λ f k. frame_in found live f (subst (λ fs. Has fs f) (sym frames) k) }

  abbrev Ok' : Answer Done → Type 0
  Ok' answer = S.Good (WordOf op h) (MarkOf op h) operands answer

  enters_by : ((level environment : ℕ) (back : Return) → MakesMark op (called op h) (Entered level environment (Some back))) → S.Enters (WordOf op h) (MarkOf op h) operands
  enters_by by n level environment back = inr (by level environment back)

  calls_by : op ≡ Plain codes.Entr → Calls (WordOf op h) (MarkOf op h) operands (called op h)
  calls_by e = record {
    arraydec = λ is a. inr (e, is);
    process = λ is n level environment. inr (by_process e is);
    enters = λ is n level environment back. inr (by_entr e is);
  }

  words' : S.AllW (WordOf op h) (MarkOf op h) operands (cells_of h)
  words' = S.own_words (WordOf op h) (MarkOf op h) operands h source

  still : Ok' (leaves_cells h (cells_of h) None)
  still = S.cells_good (WordOf op h) (MarkOf op h) operands h (cells_of h) None source words'

  push : (w : Word) → WordOf op h w → Ok' (pushes h w None)
  push w one = S.push_good (WordOf op h) (MarkOf op h) operands h w None source one

  on_one_good : (f : ℕ → Answer ℕ) → Ok' (on_cells (on_one f) h)
  on_one_good f = S.on_cells_good (WordOf op h) (MarkOf op h) operands h (on_one f) source (S.one_keeps (WordOf op h) (MarkOf op h) operands f)

  on_two_good : (f : Binary) → Ok' (on_cells (on_two f) h)
  on_two_good f = S.on_cells_good (WordOf op h) (MarkOf op h) operands h (on_two f) source (S.two_keeps (WordOf op h) (MarkOf op h) operands f)

  by_common : (c : Class) → IsOnOperands c → Ok' (by_class c h)
  by_common (OnTwo f) common = on_two_good f
  by_common (OnOne f) common = on_one_good f
  by_common (OnCells f) common = absurd common
  by_common (Pushes n) common = push (Operand n) (inr tt)
  by_common Idle common = still
  by_common (Own row) common = absurd common

  by_code : (code : Code) → op ≡ Plain code → Ok' (plain code h)
  by_code codes.Exit e = S.exit_good (WordOf op h) (MarkOf op h) operands h source
  by_code codes.Indx e = indx_good (WordOf op h) (MarkOf op h) operands h (cells_of h) source (λ a index. inr e) words'
  by_code codes.Retn e = S.retn_good (WordOf op h) (MarkOf op h) operands h (top_of h).standing (cells_of h) source (enters_by (λ level environment back. by_retn e)) words'
  by_code codes.Entr e = entr_good (WordOf op h) (MarkOf op h) operands h (top_of h).standing (called op h) (ap (λ o. called o h) e) source (calls_by e)
  by_code codes.Nxlv e = nxlv_good (WordOf op h) (MarkOf op h) operands h (cells_of h) source words'
  by_code codes.Mkst e = S.mkst_good (WordOf op h) (MarkOf op h) operands h source (λ n. inr (by_mkst e))
  by_code codes.Stff e = S.on_cells_good (WordOf op h) (MarkOf op h) operands h (stff h) source (stff_keeps (WordOf op h) (MarkOf op h) operands h (λ f offset. inr e))
  by_code codes.Dlet e = S.on_cells_good (WordOf op h) (MarkOf op h) operands h dlet source (S.dlet_keeps (WordOf op h) (MarkOf op h) operands)
  by_code codes.Exch e = S.on_cells_good (WordOf op h) (MarkOf op h) operands h exch source (S.exch_keeps (WordOf op h) (MarkOf op h) operands)
  by_code codes.Dupl e = S.on_cells_good (WordOf op h) (MarkOf op h) operands h dupl source (S.dupl_keeps (WordOf op h) (MarkOf op h) operands)
  by_code codes.Stod e = store_good (WordOf op h) (MarkOf op h) operands false h (cells_of h) source (enters_by (λ level environment back. by_stod e)) words'
  by_code codes.Ston e = store_good (WordOf op h) (MarkOf op h) operands true h (cells_of h) source (enters_by (λ level environment back. by_ston e)) words'
  by_code codes.Load e = load_good (WordOf op h) (MarkOf op h) operands h (cells_of h) source (enters_by (λ level environment back. by_load e)) (λ a. inr e) words'
  by_code codes.Nvld e = post_err (S.Kept (WordOf op h) (MarkOf op h) operands) _
  by_code code e = by_common (class code) tt

  by_op : (o : Op) → op ≡ o → Ok' (row o h)
  by_op (Valc couple) e = post_any (S.Kept (WordOf op h) (MarkOf op h) operands) (chase h (Name couple)) _ (λ end. S.evaluates_good (WordOf op h) (MarkOf op h) operands h end source (enters_by (λ level environment back. by_valc couple e)))
  by_op (Namc couple) e = push (Name couple) (inr e)
  by_op (Lt8 n) e = push (Operand n) (inr tt)
  by_op (Lt16 n) e = push (Operand n) (inr tt)
  by_op (Lt48 bits) e = push (Operand bits) (inr tt)
  by_op (Mpcw bits) e = post_then (S.Kept (WordOf op h) (MarkOf op h) operands) _ _ (push (proc_of bits) (inr (bits, e, refl)))
  by_op (Brun target) e = S.cells_good (WordOf op h) (MarkOf op h) operands (branches h target) (cells_of h) None (record { tasks = source.tasks; own = source.own }) words'
  by_op (Brtr target) e = branch_good (WordOf op h) (MarkOf op h) operands true h (cells_of h) target source words'
  by_op (Brfl target) e = branch_good (WordOf op h) (MarkOf op h) operands false h (cells_of h) target source words'
  by_op (Bset n) e = on_one_good (bset n)
  by_op (Brst n) e = on_one_good (brst n)
  by_op (Isol high width) e = on_one_good (isol high width)
  by_op (Insr high width) e = on_two_good (insr high width)
  by_op (Plain code) e = by_code code e

pub each_row_makes_its_words : EachRowMakesItsWords
each_row_makes_its_words op h found after printed touched live frames e f stands =
    let good = post_at (S.Kept (WordOf op h) (MarkOf op h) (operands op h found live frames)) (row op h) (Goes after printed touched) e (by_op op h found live frames op refl) in
    let made = good stands.task stands.live f stands.among in
    record { words = made.0; mark = made.1 }
