-- After each operator that goes on every task lives that lived before it.
use Rattle.std.proofs.Common.{◌≡◌, ℕ, ◌+◌, true, ℤ, pos, negsuc, List, [], ◌∷◌, length, map, reverse, replicate, Option, Some, None, Ok, refl, sym, ap, ◌∙◌, subst, inr, arith}
use Rattle.std.specs.Prelude.{◌==◌, nat_lt, nat_le}
use Rattle.std.proofs.lemmas.Option.{none-some}
use Rattle.b67_lemmas.specs.Lists.{Has}
use Rattle.b67_lemmas.proofs.Members.{map_change, map_map_key}
use Rattle.b67_word.specs.declared.faults.Fault.TheVariants.{StackOverflow}
use Rattle.b67_model.specs.declared.operators.Op.{Op}
use Rattle.b67_model.specs.declared.operators.Op.TheVariants.{Plain}
use Rattle.b67_model.specs.declared.operators.Code.TheVariants.{Entr}
use Rattle.b67_model.specs.Common.{Answer, ◌>>=◌, needs, needs_level, Word, Operand, Original, Array, Standing, Marked, Entered, Task, Job, OperatorContext, with_task, top, below_top, with_cell, with_cell_of, array, with_array, all_zero, resized, End, AtCell, AtElement, AtArray, AtProc, AtIntrinsic, follow_reference, Line, Value, Values, Done, Goes, Leaves, Waits, top_of, cells_of, answered, answers, array_length, arraydec, print, numbers_of, row_copy, printrow, read_from, read, child_of, starts, process, awaits, await, status_of, status, waits_at, wait, woken_at, wakes, causes, cause, needs_writable, deallocate, resize, intrinsic, entr_at, entr_with, entr, row, called_at, called_by, called_on, called}
use Rattle.b67_model.specs.Words.{whole}
use Rattle.b67_model.specs.Keyed.{keyed, change_keyed}
use Rattle.b67_law.proofs.Posts.{Post, post_ok, post_err, post_any, post_then, post_if, post_at}
use Rattle.b67_law.specs.Profiles.{Profile, profile, profiles, IsKnown}
use Rattle.b67_law.proofs.Lemmas.{rows_keep}

abbrev pub number_in : Task → ℕ
number_in t = t.number

abbrev pub task_numbers : List Task → List ℕ
task_numbers ts = map number_in ts

-- each of these numbers is among those
abbrev pub Stay : List ℕ → List ℕ → Type 0
Stay before after = (n : ℕ) → Has before n → Has after n

-- ---- the rows of intrinsics

module _ (before : List ℕ) where
  abbrev Keeps : Done → Type 0
  Keeps (Goes after printed touched) = Stay before (task_numbers after.tasks)
  Keeps Leaves = Unit {0}
  Keeps (Waits condition) = Unit {0}

  abbrev Good : Answer Done → Type 0
  Good answer = Post Keeps answer

  abbrev Source : OperatorContext → Type 0
  Source h = Stay before (task_numbers h.job.tasks)

  put : (t : Task) (ts : List Task) → Stay before (task_numbers ts) → Stay before (task_numbers (change_keyed number_in t.number (λ (u : Task). t) ts))
  put t ts s n h = subst (λ (ns : List ℕ). Has ns n) (sym (map_change number_in t.number t ts refl)) (s n h)

  answers_good : (h : OperatorContext) (job : Job) (words : List Word) (printed : List Line) (touched : Option ℕ) → Stay before (task_numbers job.tasks) → Good (answers h job words printed touched)
  answers_good h job words printed touched s = post_then Keeps _ _ (post_then Keeps _ _ (post_ok Keeps _ (put (answered h words) job.tasks s)))

  arraydec_good : (h : OperatorContext) (arguments : List Word) → Source h → Good (arraydec h arguments)
  arraydec_good h [] s = post_err Keeps _
  arraydec_good h (w ∷ []) s = post_any Keeps (whole w) _ (λ n. post_any Keeps (array_length n) _ (λ len.
      let made : Array = record { identity = h.job.next_array; owner = (top (below_top h.task.frames)).identity; writable = true; numbers = replicate len 0 } in
      answers_good h (record h.job { arrays = made ∷ h.job.arrays; next_array = h.job.next_array + 1 }) (Original h.job.next_array ∷ []) [] None s))
  arraydec_good h (w ∷ v ∷ more) s = post_err Keeps _

  print_good : (h : OperatorContext) (arguments : List Word) → Source h → Good (print h arguments)
  print_good h [] s = post_err Keeps _
  print_good h (w ∷ []) s = post_any Keeps (whole w) _ (λ n. answers_good h h.job [] (Value n ∷ []) None s)
  print_good h (w ∷ v ∷ more) s = post_err Keeps _

  printrow_good : (h : OperatorContext) (arguments : List Word) → Source h → Good (printrow h arguments)
  printrow_good h [] s = post_err Keeps _
  printrow_good h (w ∷ []) s =
      post_any Keeps (row_copy w) _ (λ a. post_any Keeps (numbers_of (array h.job a).numbers) _ (λ values. answers_good h h.job [] (Values values ∷ []) (Some a) s))
  printrow_good h (w ∷ v ∷ more) s = post_err Keeps _

  read_good : (h : OperatorContext) (arguments : List Word) → Source h → Good (read h arguments)
  read_good h [] s = answers_good h (record h.job { numbers = (read_from h.job.numbers).1 }) (Operand (read_from h.job.numbers).0 ∷ []) [] None s
  read_good h (w ∷ more) s = post_err Keeps _

  starts_good : (h : OperatorContext) (words : List Word) (end : End) → Source h → Good (starts h words end)
  starts_good h words (AtProc environment segment level place) s =
      let child : Task = child_of h words environment segment level place in
      let started : Job = record h.job { tasks = child ∷ h.job.tasks; next_task = h.job.next_task + 1; next_frame = h.job.next_frame + 1 } in
      post_then Keeps (needs_level h environment level) _
      (post_then Keeps (needs (nat_le (3 + length words) h.constants.stack_size) StackOverflow) _
      (post_if Keeps (nat_lt (length h.job.tasks) 15) _ _ (answers_good h started (Operand h.job.next_task ∷ []) [] None (λ n e. inr (s n e))) (answers_good h h.job (Operand 0 ∷ []) [] None s)))
  starts_good h words (AtCell f offset bits) s = post_err Keeps _
  starts_good h words (AtElement a index) s = post_err Keeps _
  starts_good h words (AtArray a) s = post_err Keeps _
  starts_good h words (AtIntrinsic n) s = post_err Keeps _

  process_good : (h : OperatorContext) (arguments : List Word) → Source h → Good (process h arguments)
  process_good h arguments s = grind (arith, starts_good)

  awaits_good : (h : OperatorContext) (n : ℤ) → Source h → Good (awaits h n)
  awaits_good h (pos n) s = post_if Keeps _ _ _ (post_ok Keeps _ tt) (answers_good h h.job [] [] None s)
  awaits_good h (negsuc n) s = answers_good h h.job [] [] None s

  await_good : (h : OperatorContext) (arguments : List Word) → Source h → Good (await h arguments)
  await_good h arguments s = grind (arith, awaits_good)

  status_good : (h : OperatorContext) (arguments : List Word) → Source h → Good (status h arguments)
  status_good h [] s = post_err Keeps _
  status_good h (w ∷ []) s = post_any Keeps (whole w) _ (λ n. answers_good h h.job (Operand (status_of h.job n) ∷ []) [] None s)
  status_good h (w ∷ v ∷ more) s = post_err Keeps _

  waits_at_good : (h : OperatorContext) (end : End) → Source h → Good (waits_at h end)
  waits_at_good h (AtCell f offset bits) s = post_if Keeps _ _ _ (post_ok Keeps _ tt) (answers_good h h.job [] [] None s)
  waits_at_good h (AtProc f segment level place) s = post_err Keeps _
  waits_at_good h (AtElement a index) s = post_err Keeps _
  waits_at_good h (AtArray a) s = post_err Keeps _
  waits_at_good h (AtIntrinsic n) s = post_err Keeps _

  wait_good : (h : OperatorContext) (arguments : List Word) → Source h → Good (wait h arguments)
  wait_good h arguments s = grind (arith, waits_at_good)

  woken : (f offset : ℕ) (job : Job) → Stay before (task_numbers job.tasks) → Stay before (task_numbers (wakes f offset (with_cell job f offset (Operand 1))).tasks)
  woken f offset job s n h =
      let stored : Task → Task = λ t. record t { frames = change_keyed (λ g. g.identity) f (with_cell_of offset (Operand 1)) t.frames } in
      let wake : Task → Task = λ t. record t { condition = woken_at f offset t.condition } in
      let same : task_numbers (map wake (map stored job.tasks)) ≡ task_numbers job.tasks = map_map_key number_in wake (map stored job.tasks) (λ t. refl) ∙ map_map_key number_in stored job.tasks (λ t. refl) in
      subst (λ (ns : List ℕ). Has ns n) (sym same) (s n h)

  causes_good : (h : OperatorContext) (end : End) → Source h → Good (causes h end)
  causes_good h (AtCell f offset bits) s =
      post_then Keeps _ _ (post_ok Keeps _ (woken f offset (with_task h.job (answered h [])) (put (answered h []) h.job.tasks s)))
  causes_good h (AtProc f segment level place) s = post_err Keeps _
  causes_good h (AtElement a index) s = post_err Keeps _
  causes_good h (AtArray a) s = post_err Keeps _
  causes_good h (AtIntrinsic n) s = post_err Keeps _

  cause_good : (h : OperatorContext) (arguments : List Word) → Source h → Good (cause h arguments)
  cause_good h arguments s = grind (arith, causes_good)

  deallocate_good : (h : OperatorContext) (arguments : List Word) → Source h → Good (deallocate h arguments)
  deallocate_good h [] s = post_err Keeps _
  deallocate_good h (w ∷ []) s = post_any Keeps (row_copy w) _ (λ a. post_then Keeps (needs_writable h a) _ (answers_good h (with_array h.job a all_zero) [] [] None s))
  deallocate_good h (w ∷ v ∷ more) s = post_err Keeps _

  resize_good : (h : OperatorContext) (arguments : List Word) → Source h → Good (resize h arguments)
  resize_good h [] s = post_err Keeps _
  resize_good h (r ∷ []) s = post_err Keeps _
  resize_good h (r ∷ w ∷ []) s =
      post_any Keeps (row_copy r) _ (λ a. post_any Keeps (whole w) _ (λ v. post_any Keeps (array_length v) _ (λ len. post_then Keeps (needs_writable h a) _ (answers_good h (with_array h.job a (resized len)) [] [] (Some a) s))))
  resize_good h (r ∷ w ∷ v ∷ more) s = post_err Keeps _

  intrinsic_good : (n : ℕ) (h : OperatorContext) (arguments : List Word) → Source h → Good (intrinsic n h arguments)
  intrinsic_good n h arguments s =
      let from_18 = post_if Keeps (18 == n) (resize h arguments) _ (resize_good h arguments s) (post_err Keeps _) in
      let from_17 = post_if Keeps (17 == n) (deallocate h arguments) _ (deallocate_good h arguments s) from_18 in
      let from_16 = post_if Keeps (16 == n) (cause h arguments) _ (cause_good h arguments s) from_17 in
      let from_15 = post_if Keeps (15 == n) (wait h arguments) _ (wait_good h arguments s) from_16 in
      let from_14 = post_if Keeps (14 == n) (status h arguments) _ (status_good h arguments s) from_15 in
      let from_13 = post_if Keeps (13 == n) (await h arguments) _ (await_good h arguments s) from_14 in
      let from_12 = post_if Keeps (12 == n) (process h arguments) _ (process_good h arguments s) from_13 in
      let from_11 = post_if Keeps (11 == n) (read h arguments) _ (read_good h arguments s) from_12 in
      let from_10 = post_if Keeps (10 == n) (printrow h arguments) _ (printrow_good h arguments s) from_11 in
      let from_9 = post_if Keeps (9 == n) (print h arguments) _ (print_good h arguments s) from_10 in
      post_if Keeps (8 == n) (arraydec h arguments) _ (arraydec_good h arguments s) from_9

  -- ---- the operators that call one

  at_good : (h : OperatorContext) (arguments : List Word) (end : End) (n : ℕ) → called_at (Ok end) ≡ Some n → Source h → Good (entr_at h arguments end)
  at_good h arguments end n e s = grind (arith, intrinsic_good)

  end_good : (h : OperatorContext) (arguments : List Word) (end : Answer End) (n : ℕ) → called_at end ≡ Some n → Source h → Good (end >>= entr_at h arguments)
  end_good h arguments end n e s = grind (arith, at_good)

  with_good_call : (h : OperatorContext) (cells : List Word) (n : ℕ) → called_by h cells ≡ Some n → Source h → Good (entr_with h cells)
  with_good_call h [] n e s = absurd (none-some n e)
  with_good_call h (r ∷ arguments) n e s = end_good h arguments (follow_reference h r) n e s

  entr_good : (h : OperatorContext) (standing : Standing) (n : ℕ) → called_on h standing ≡ Some n → Source h → Good (entr h standing)
  entr_good h Marked n e s = with_good_call h (reverse (cells_of h)) n e s
  entr_good h (Entered level environment back) n e s = absurd (none-some n e)

  row_good : (op : Op) (h : OperatorContext) (n : ℕ) → called op h ≡ Some n → Source h → Good (row op h)
  row_good (Plain Entr) h n e s = entr_good h (top_of h).standing n e s
  row_good _ h n e s = absurd (none-some n e)

-- ---- the others

by_profiles : (ts : List Task) → map (λ (p : Profile). p.number) (profiles ts) ≡ task_numbers ts
by_profiles [] = refl
by_profiles (t ∷ ts) = ap (λ (ns : List ℕ). t.number ∷ ns) (by_profiles ts)

profile_found : (n : ℕ) (ts : List Task) (t : Task) → keyed number_in n ts ≡ Some t → keyed (λ (p : Profile). p.number) n (profiles ts) ≡ Some (profile t)
profile_found n [] t e = absurd (none-some t e)
profile_found n (u ∷ ts) t e = grind (arith, profile_found n ts t)

-- each operator of a live task
pub rows_stay : (op : Op) (h : OperatorContext) (t : Task) → keyed number_in h.task.number h.job.tasks ≡ Some t → profile t ≡ profile h.task
    → (after : Job) (printed : List Line) (touched : Option ℕ) → row op h ≡ Ok (Goes after printed touched) → Stay (task_numbers h.job.tasks) (task_numbers after.tasks)
rows_stay op h t live same after printed touched is = by (called op h) refl
  where
    by : (o : Option ℕ) → called op h ≡ o → Stay (task_numbers h.job.tasks) (task_numbers after.tasks)
    by None e =
        let known : IsKnown h = profile_found h.task.number h.job.tasks t live ∙ ap Some same in
        let kept : profiles after.tasks ≡ profiles h.job.tasks = (rows_keep op h known e after printed touched is).0 in
        let numbers : task_numbers h.job.tasks ≡ task_numbers after.tasks = sym (by_profiles h.job.tasks) ∙ ap (map (λ (p : Profile). p.number)) (sym kept) ∙ by_profiles after.tasks in
        λ n m. subst (λ (ns : List ℕ). Has ns n) numbers m
    by (Some n) e = post_at (Keeps (task_numbers h.job.tasks)) (row op h) (Goes after printed touched) is (row_good (task_numbers h.job.tasks) op h n e (λ k m. m))
