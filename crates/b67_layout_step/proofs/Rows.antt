-- Each way in which rows are made: what it touches, and which arrays stay.
use Rattle.std.proofs.Common.{◌≡◌, ℕ, ◌+◌, ℤ, Bool, true, false, leb, ltb, List, [], ◌∷◌, reverse, replicate, length, Option, Some, None, refl, inl, ◌==◌, arith}
use Rattle.std.specs.List.{list_any}
use Rattle.std.proofs.lemmas.Bool.{eq-eqb}
use Rattle.b67_word.specs.declared.faults.Fault.TheVariants.{StackOverflow}
use Rattle.b67_word.specs.declared.couples.Place.{Place}
use Rattle.b67_model.specs.declared.operators.Op.{Op}
use Rattle.b67_model.specs.declared.operators.Op.TheVariants.{Valc, Namc, Lt8, Lt16, Lt48, Mpcw, Brun, Brtr, Brfl, Bset, Brst, Isol, Insr, Plain}
use Rattle.b67_model.specs.declared.operators.Code.{Code}
use Rattle.b67_model.specs.declared.operators.Code.TheVariants as codes
use Rattle.b67_model.specs.Common.{Answer, needs, same, bset, brst, isol, insr, Word, Operand, Name, Original, operand, Standing, Marked, Entered, Return, Array, Task, Job, OperatorContext, below_top, top, element, with_array, indexed, in_order, End, AtCell, AtElement, AtArray, AtProc, AtIntrinsic, chase, follow, follow_reference, Line, Done, Goes, Leaves, Waits, top_of, cells_of, result, with_cells, leaves_cells, pushes, accident, needs_level, evaluates, enters, left, leaves, returnable, returned, retn_word, answered, needs_free, answers, array_length, arraydec, print, row_copy, printrow, read, child_of, starts, process, awaits, await, status, waits_at, wait, causes, cause, deallocate, resize, intrinsic, CellRow, on_one, on_two, on_cells, branches, branch_if, stff, load_at, load, indx, nxlv, store_at, store, entr_at, entr_with, entr, proc_of, plain, row, array, Class, OnTwo, OnOne, OnCells, Pushes, Idle, Own, class, by_class}
use Rattle.b67_law.proofs.Classes.{IsCommon}
use Rattle.b67_model.specs.Keyed.{change_keyed}
use Rattle.b67_lemmas.specs.Lists.{Has}
use Rattle.b67_lemmas.proofs.Members.{any_some, has_reverse_back}
use Rattle.b67_model.specs.Words as Words
use Rattle.b67_model.specs.Words.{whole}
use Rattle.b67_law.proofs.Posts.{Post, post_ok, post_err, post_bind, post_any, post_then, post_if}
use Rattle.b67_layout_step.specs.Keeping.{is_leaving}
use Rattle.b67_layout_step.proofs.Words as W

-- an array of the identity stands in the list
abbrev pub Stands : List Array → ℕ → Type 0
Stands arrays n = list_any (λ (b : Array). b.identity == n) arrays ≡ true

pub stands_in : (arrays : List Array) (a : Array) → Has arrays a → Stands arrays a.identity
stands_in arrays a k = any_some (λ (b : Array). b.identity == a.identity) arrays a k (eq-eqb a.identity a.identity refl)

-- a fact of the arrays that are touched, and the arrays that stay where the premise holds
module _ (T : ℕ → Type 0) (first : List Array) (keeps : Type 0) where
  abbrev Stay : List Array → Type 0
  Stay arrays = (n : ℕ) → Stands first n → Stands arrays n

  abbrev Touches : Option ℕ → Type 0
  Touches None = Unit {0}
  Touches (Some a) = T a

  abbrev pub Keeps : Done → Type 0
  Keeps (Goes after printed touched) = Touches touched × (keeps → Stay after.arrays)
  Keeps Leaves = Unit {0}
  Keeps (Waits condition) = Unit {0}

  abbrev Good : Answer Done → Type 0
  Good answer = Post Keeps answer

  abbrev AllName : List Word → Type 0
  AllName words = W.AllName T words

  pub record Source (h : OperatorContext) : Type 0 where
    pub words : W.Holds T h
    pub arrays : keeps → Stay h.job.arrays

  own_names : (h : OperatorContext) → Source h → AllName (cells_of h)
  own_names h s = W.top_names T h.task.frames s.words.own

  result_good : (h : OperatorContext) (job : Job) (task : Task) (printed : List Line) (touched : Option ℕ) → Touches touched → (keeps → Stay job.arrays) → Good (result h job task printed touched)
  result_good h job task printed touched t a = post_then Keeps _ _ (post_ok Keeps _ (t, a))

  cells_good : (h : OperatorContext) (cells : List Word) (touched : Option ℕ) → Source h → Touches touched → Good (leaves_cells h cells touched)
  cells_good h cells touched s t = result_good h h.job (with_cells h cells) [] touched t s.arrays

  on_cells_good : (f : CellRow) (h : OperatorContext) → Source h → Good (on_cells f h)
  on_cells_good f h s = post_any Keeps (f (cells_of h)) _ (λ cells. cells_good h cells None s tt)

  push_good : (h : OperatorContext) (w : Word) → Source h → Good (pushes h w None)
  push_good h w s = cells_good h (w ∷ cells_of h) None s tt

  accident_good : (h : OperatorContext) (cells : List Word) (back : Return) (end : End) → Source h → Good (accident h cells back end)
  accident_good h cells back end s = grind arith

  evaluates_good : (h : OperatorContext) (end : End) → Source h → W.EndNames T end → Good (evaluates h end)
  evaluates_good h end s g = grind arith

  enters_good : (h : OperatorContext) (arguments : List Word) (end : End) → Source h → Good (enters h arguments end)
  enters_good h arguments end s = grind arith

  -- a frame is left, where no array has to stay
  left_source : (h : OperatorContext) (back : Return) → Source h → (keeps → false ≡ true) → Source (left h back)
  left_source h back s never = grind (arith, W.has_put)

  leaves_good : (h : OperatorContext) (standing : Standing) (go : OperatorContext → Bool → Answer Done) → ((back : Return) → Good (go (left h back) back.value)) → Good (leaves h standing go)
  leaves_good h standing go each = grind arith

  returned_good : (h : OperatorContext) (w : Word) (value : Bool) → Source h → W.Names T w → Good (returned h w value)
  returned_good h w false s g = push_good h w s
  returned_good h (Operand bits) true s g = push_good h (Operand bits) s
  returned_good h w true s g = post_bind (W.EndNames T) Keeps (follow h w) _ (W.follow_names T h s.words w g) (λ end is. evaluates_good h end s is)

  returnable_good : (job : Job) (n : ℕ) (w : Word) → W.Names T w → Post (W.Names T) (returnable job n w)
  returnable_good job n w g = grind arith

  retn_good : (h : OperatorContext) (standing : Standing) (cells : List Word) → Source h → (keeps → false ≡ true) → AllName cells → Good (retn_word h standing cells)
  retn_good h Marked cells s never all = post_err Keeps _
  retn_good h (Entered level environment back) [] s never all = post_err Keeps _
  retn_good h (Entered level environment back) (w ∷ cells) s never all =
      post_bind (W.Names T) Keeps (returnable h.job (top_of h).identity w) _ (returnable_good h.job (top_of h).identity w (all w (inl refl)))
      (λ v g. leaves_good h (Entered level environment back) (λ after value. returned after v value) (λ b. returned_good (left h b) v b.value (left_source h b s never) g))

  branch_good : (wanted : Bool) (h : OperatorContext) (cells : List Word) (target : Place) → Source h → Good (branch_if wanted h cells target)
  branch_good wanted h cells target s = grind arith

  load_at_good : (h : OperatorContext) (rest : List Word) (end : End) → Source h → W.EndNames T end → Good (load_at h rest end)
  load_at_good h rest end s g = grind (arith, cells_good)

  load_good : (h : OperatorContext) (cells : List Word) → Source h → AllName cells → Good (load h cells)
  load_good h [] s all = post_err Keeps _
  load_good h (w ∷ rest) s all = post_bind (W.EndNames T) Keeps (follow h w) _ (W.follow_names T h s.words w (all w (inl refl))) (λ end g. load_at_good h rest end s g)

  -- the reference of two words
  pair_names : (b a : Word) (rest : List Word) → AllName (b ∷ a ∷ rest) → W.Names T (in_order b a).0
  pair_names b a rest all = grind arith

  indx_good : (h : OperatorContext) (cells : List Word) → Source h → Good (indx h cells)
  indx_good h [] s = post_err Keeps _
  indx_good h (b ∷ []) s = post_err Keeps _
  indx_good h (b ∷ a ∷ rest) s = post_any Keeps (indexed h (in_order b a).0 (in_order b a).1) _ (λ at. cells_good h _ None s tt)

  nxlv_good : (h : OperatorContext) (cells : List Word) → Source h → AllName cells → Good (nxlv h cells)
  nxlv_good h [] s all = post_err Keeps _
  nxlv_good h (b ∷ []) s all = post_err Keeps _
  nxlv_good h (b ∷ a ∷ rest) s all =
      post_bind (W.OfPair T h s.words) Keeps (indexed h (in_order b a).0 (in_order b a).1) _ (W.indexed_names T h s.words (in_order b a).0 (in_order b a).1 (pair_names b a rest all))
      (λ at g. cells_good h (Operand (element h.job at.0 at.1) ∷ rest) (Some at.0) s g)

  -- a change of an array's numbers leaves the identities
  stored : (n : ℕ) (f : Array → Array) → ((x : Array) → (f x).identity ≡ x.identity) → (m : ℕ) (arrays : List Array) → list_any (λ (b : Array). b.identity == m) (change_keyed (λ (b : Array). b.identity) n f arrays) ≡ list_any (λ (b : Array). b.identity == m) arrays
  stored n f same m [] = refl
  stored n f same m (x ∷ xs) = grind (arith, stored n f same m xs)

  numbers_stay : (h : OperatorContext) (a : ℕ) (f : Array → Array) → ((x : Array) → (f x).identity ≡ x.identity) → Source h → keeps → Stay (with_array h.job a f).arrays
  numbers_stay h a f same s k n there = rw (stored a f same n h.job.arrays) (s.arrays k n there)

  store_at_good : (h : OperatorContext) (rest kept : List Word) (bits : ℕ) (end : End) → Source h → W.EndNames T end → Good (store_at h rest kept bits end)
  store_at_good h rest kept bits end s g = grind (arith, numbers_stay)

  store_good : (keep : Bool) (h : OperatorContext) (cells : List Word) → Source h → AllName cells → Good (store keep h cells)
  store_good keep h [] s all = post_err Keeps _
  store_good keep h (b ∷ []) s all = post_err Keeps _
  store_good keep h (b ∷ a ∷ rest) s all = post_any Keeps (operand (in_order b a).1) _ (λ bits.
      post_bind (W.EndNames T) Keeps (follow h (in_order b a).0) _ (W.follow_names T h s.words (in_order b a).0 (pair_names b a rest all)) (λ end g. store_at_good h rest _ bits end s g))

  -- the intrinsics
  answers_good : (h : OperatorContext) (job : Job) (words : List Word) (printed : List Line) (touched : Option ℕ) → Touches touched → (keeps → Stay job.arrays) → Good (answers h job words printed touched)
  answers_good h job words printed touched t a = post_then Keeps (needs_free h) _ (result_good h job (answered h words) printed touched t a)

  none_good : (h : OperatorContext) (words : List Word) → Source h → Good (answers h h.job words [] None)
  none_good h words s = answers_good h h.job words [] None tt s.arrays

  more_stay : (h : OperatorContext) (made : Array) → Source h → keeps → Stay (made ∷ h.job.arrays)
  more_stay h made s k n there = grind arith

  arraydec_good : (h : OperatorContext) (arguments : List Word) → Source h → Good (arraydec h arguments)
  arraydec_good h [] s = post_err Keeps _
  arraydec_good h (w ∷ []) s = post_any Keeps (whole w) _ (λ n. post_any Keeps (array_length n) _ (λ len.
      let made : Array = record { identity = h.job.next_array; owner = (top (below_top h.task.frames)).identity; writable = true; numbers = replicate len 0 } in
      answers_good h (record h.job { arrays = made ∷ h.job.arrays; next_array = h.job.next_array + 1 }) (Original h.job.next_array ∷ []) [] None tt (more_stay h made s)))
  arraydec_good h (w ∷ v ∷ more) s = post_err Keeps _

  print_good : (h : OperatorContext) (arguments : List Word) → Source h → Good (print h arguments)
  print_good h arguments s = grind arith

  copy_names : (w : Word) → W.Names T w → Post T (row_copy w)
  copy_names w g = grind arith

  printrow_good : (h : OperatorContext) (arguments : List Word) → Source h → AllName arguments → Good (printrow h arguments)
  printrow_good h arguments s all = grind (arith, copy_names)

  read_good : (h : OperatorContext) (arguments : List Word) → Source h → Good (read h arguments)
  read_good h arguments s = grind arith

  starts_good : (h : OperatorContext) (words : List Word) (end : End) → Source h → Good (starts h words end)
  starts_good h words (AtProc f segment level place) s =
      post_then Keeps (needs_level h f level) _ (post_then Keeps (needs (leb (3 + length words) h.constants.stack_size) StackOverflow) _ (post_if Keeps (ltb (length h.job.tasks) 15) _ _
      (answers_good h (record h.job { tasks = child_of h words f segment level place ∷ h.job.tasks; next_task = h.job.next_task + 1; next_frame = h.job.next_frame + 1 }) (Operand h.job.next_task ∷ []) [] None tt s.arrays)
      (none_good h (Operand 0 ∷ []) s)))
  starts_good h words (AtCell f offset bits) s = post_err Keeps _
  starts_good h words (AtElement a index) s = post_err Keeps _
  starts_good h words (AtArray a) s = post_err Keeps _
  starts_good h words (AtIntrinsic n) s = post_err Keeps _

  process_good : (h : OperatorContext) (arguments : List Word) → Source h → Good (process h arguments)
  process_good h [] s = post_err Keeps _
  process_good h (r ∷ words) s = post_then Keeps _ _ (post_any Keeps (follow_reference h r) _ (λ end. starts_good h words end s))

  awaits_good : (h : OperatorContext) (n : ℤ) → Source h → Good (awaits h n)
  awaits_good h n s = grind arith

  await_good : (h : OperatorContext) (arguments : List Word) → Source h → Good (await h arguments)
  await_good h arguments s = grind (arith, awaits_good)

  status_good : (h : OperatorContext) (arguments : List Word) → Source h → Good (status h arguments)
  status_good h arguments s = grind arith

  waits_at_good : (h : OperatorContext) (end : End) → Source h → Good (waits_at h end)
  waits_at_good h end s = grind arith

  wait_good : (h : OperatorContext) (arguments : List Word) → Source h → Good (wait h arguments)
  wait_good h [] s = post_err Keeps _
  wait_good h (r ∷ []) s = post_any Keeps (follow_reference h r) _ (λ end. waits_at_good h end s)
  wait_good h (r ∷ v ∷ more) s = post_err Keeps _

  causes_good : (h : OperatorContext) (end : End) → Source h → Good (causes h end)
  causes_good h end s = grind arith

  cause_good : (h : OperatorContext) (arguments : List Word) → Source h → Good (cause h arguments)
  cause_good h [] s = post_err Keeps _
  cause_good h (r ∷ []) s = post_any Keeps (follow_reference h r) _ (λ end. causes_good h end s)
  cause_good h (r ∷ v ∷ more) s = post_err Keeps _

  deallocate_good : (h : OperatorContext) (arguments : List Word) → Source h → Good (deallocate h arguments)
  deallocate_good h arguments s = grind (arith, numbers_stay)

  resize_good : (h : OperatorContext) (arguments : List Word) → Source h → AllName arguments → Good (resize h arguments)
  resize_good h arguments s all = grind (arith, copy_names, numbers_stay)

  intrinsic_good : (n : ℕ) (h : OperatorContext) (arguments : List Word) → Source h → AllName arguments → Good (intrinsic n h arguments)
  intrinsic_good n h arguments s all =
      post_if Keeps _ _ _ (arraydec_good h arguments s) (post_if Keeps _ _ _ (print_good h arguments s) (post_if Keeps _ _ _ (printrow_good h arguments s all) (post_if Keeps _ _ _ (read_good h arguments s)
      (post_if Keeps _ _ _ (process_good h arguments s) (post_if Keeps _ _ _ (await_good h arguments s) (post_if Keeps _ _ _ (status_good h arguments s) (post_if Keeps _ _ _ (wait_good h arguments s) (post_if Keeps _ _ _ (cause_good h arguments s)
      (post_if Keeps _ _ _ (deallocate_good h arguments s) (post_if Keeps _ _ _ (resize_good h arguments s all) (post_err Keeps _)))))))))))

  entr_at_good : (h : OperatorContext) (arguments : List Word) (end : End) → Source h → AllName arguments → Good (entr_at h arguments end)
  entr_at_good h arguments end s all = grind (arith, intrinsic_good)

  entr_with_good : (h : OperatorContext) (cells : List Word) → Source h → AllName cells → Good (entr_with h cells)
  entr_with_good h [] s all = post_err Keeps _
  entr_with_good h (r ∷ arguments) s all = post_any Keeps (follow_reference h r) _ (λ end. entr_at_good h arguments end s (W.tail_names T r arguments all))

  entr_good : (h : OperatorContext) (standing : Standing) → Source h → Good (entr h standing)
  entr_good h Marked s = entr_with_good h (reverse (cells_of h)) s (λ w k. own_names h s w (has_reverse_back (cells_of h) w k))
  entr_good h (Entered level environment back) s = post_err Keeps _

  class_good : (c : Class) (h : OperatorContext) → IsCommon c → Source h → Good (by_class c h)
  class_good (OnTwo f) h common s = on_cells_good (on_two f) h s
  class_good (OnOne f) h common s = on_cells_good (on_one f) h s
  class_good (OnCells f) h common s = on_cells_good f h s
  class_good (Pushes n) h common s = push_good h _ s
  class_good Idle h common s = cells_good h _ None s tt
  class_good (Own row) h common s = absurd common

  -- an operator whose step keeps the arrays leaves no record
  plain_good : (code : Code) (h : OperatorContext) → Source h → (keeps → is_leaving (Plain code) ≡ false) → Good (plain code h)
  plain_good codes.Exit h s e = leaves_good h (top_of h).standing _ (λ back. let k = left_source h back s (λ x. let f = e x in absurd cc) in result_good (left h back) (left h back).job (left h back).task [] None tt k.arrays)
  plain_good codes.Retn h s e = retn_good h (top_of h).standing (cells_of h) s (λ x. let f = e x in absurd cc) (own_names h s)
  plain_good codes.Entr h s e = entr_good h (top_of h).standing s
  plain_good codes.Indx h s e = indx_good h (cells_of h) s
  plain_good codes.Nxlv h s e = nxlv_good h (cells_of h) s (own_names h s)
  plain_good codes.Mkst h s e = grind arith
  plain_good codes.Stod h s e = store_good false h (cells_of h) s (own_names h s)
  plain_good codes.Ston h s e = store_good true h (cells_of h) s (own_names h s)
  plain_good codes.Load h s e = load_good h (cells_of h) s (own_names h s)
  plain_good codes.Nvld h s e = post_err Keeps _
  plain_good codes.Stff h s e = on_cells_good (stff h) h s
  plain_good code h s e = class_good (class code) h tt s

  pub row_good : (op : Op) (h : OperatorContext) → Source h → (keeps → is_leaving op ≡ false) → Good (row op h)
  row_good (Valc couple) h s e = post_bind (W.EndNames T) Keeps (chase h (Name couple)) _ (W.chase_names T h s.words (Name couple)) (λ end g. evaluates_good h end s g)
  row_good (Namc couple) h s e = push_good h _ s
  row_good (Lt8 n) h s e = push_good h _ s
  row_good (Lt16 n) h s e = push_good h _ s
  row_good (Lt48 bits) h s e = push_good h _ s
  row_good (Mpcw bits) h s e = post_then Keeps _ _ (push_good h (proc_of bits) s)
  row_good (Brun target) h s e = result_good (branches h target) h.job (with_cells (branches h target) (cells_of h)) [] None tt s.arrays
  row_good (Brtr target) h s e = branch_good true h (cells_of h) target s
  row_good (Brfl target) h s e = branch_good false h (cells_of h) target s
  row_good (Bset n) h s e = on_cells_good (on_one (bset n)) h s
  row_good (Brst n) h s e = on_cells_good (on_one (brst n)) h s
  row_good (Isol high width) h s e = on_cells_good (on_one (isol high width)) h s
  row_good (Insr high width) h s e = on_cells_good (on_two (insr high width)) h s
  row_good (Plain code) h s e = plain_good code h s e
