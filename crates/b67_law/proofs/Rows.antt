-- Every row keeps order.
use Rattle.std.proofs.Common.{◌≡◌, ℕ, ◌+◌, ◌^◌, ◌<◌, ◌≤◌, true, false, not, cond, eqb, leb, List, [], ◌∷◌, ◌++◌, reverse, length, None, refl, sym, ap, ◌∙◌, subst, arith, ltb, ◌/◌, ◌%◌, ◌+ℤ◌, ◌*ℤ◌}
use Rattle.std.specs.List.{list_any}
use Rattle.std.proofs.lemmas.Bool.{leb-true, not-true, ltb-true}
use Rattle.b67_lemmas.specs.Lists.{Has}
use Rattle.b67_lemmas.proofs.Members.{all_from, all_in, any_none, has_reverse_back, none_pass, reverse_cons, total_append, total_reverse}
use Rattle.b67_model.specs.Words as Words
use Rattle.b67_model.specs.Common.{Word, Operand, Name, Ref, Row, Element, Original, Proc, Intrinsic, Standing, Marked, OperatorContext, frame, level_of_frame, running, End, AtCell, AtElement, AtArray, AtProc, AtIntrinsic, follow_reference, top_of, cells_of, leaves_cells, pushes, is_critical, is_original, Starts, WordInOrder, CopiesAbove, is_original_of, operand, on_one, on_two, dlet, exch, dupl, branches, stff, answered, arraydec, print, printrow, read, child_of, starts, row_copy, process, await, status, wait, cause, deallocate, resize, number, intrinsic, entr_at, entr_with, entr, is_proc, proc_of, plain, row, bset, brst, isol, insr, may_be_last, Class, OnTwo, OnOne, OnCells, Pushes, Idle, Own, class, by_class, Entered, array, NoCopyUnder, is_copy_of}
use Rattle.b67_law.proofs.Classes.{IsOnOperands}
use Rattle.b67_law.proofs.Looks.{Run, reach}
use Rattle.b67_law.specs.Ends.{EndInOrder}
use Rattle.b67_law.proofs.Posts.{Post, post_err, post_bind, post_needs, post_if, post_if_is, post_more, post_both, post_any_at, post_ok}
use Rattle.b67_law.proofs.RowSteps.{Keeps, Good, Fit, AllFit, originals, own_fit, own_copies, result_good, cells_good, push_good, mkst_good}
use Rattle.b67_model.specs.Words.{whole}
use Rattle.b67_law.proofs.Cuts.{Cut, answers_operand, print_good, printrow_good, status_good, await_good}
use Rattle.b67_law.proofs.Chases.{follow_reference_in}
use Rattle.b67_law.proofs.Cells.{plain_word, operand_plain, two_plain, Followed, run_at, on_cells_good, one_keeps, two_keeps, dlet_keeps, exch_keeps, dupl_keeps, stff_keeps, go_good, branch_good, valc_good, load_good, indx_good, nxlv_good, followed}
use Rattle.std.proofs.lemmas.List.{reverse-reverse}
use Rattle.b67_model.specs.declared.operators.Op.{Op}
use Rattle.b67_model.specs.declared.operators.Op.TheVariants.{Valc, Namc, Lt8, Lt16, Lt48, Mpcw, Brun, Brtr, Brfl, Bset, Brst, Isol, Insr, Plain}
use Rattle.b67_model.specs.declared.operators.Code.{Code}
use Rattle.b67_model.specs.declared.operators.Code.TheVariants as codes
use Rattle.b67_law.specs.Parameters.{ParametersFit}
use Rattle.b67_law.specs.Keeping.{AfterFits}
use Rattle.b67_law.proofs.Cells as Cells
use Rattle.b67_law.proofs.Bounds as Bounds
use Rattle.b67_law.proofs.Stores.{store_good}
use Rattle.b67_law.proofs.Entries.{enters_good}
use Rattle.b67_law.proofs.Returns.{exit_good, retn_good}
use Rattle.b67_law.proofs.Calls.{read_good, wait_good, cause_good, arraydec_good}
use Rattle.b67_law.proofs.Lengths.{deallocate_good, resizes_good}
use Rattle.b67_law.proofs.Children.{started_good}
use Rattle.b67_law.proofs.Bounds.{bits_low}

above_left : (xs ys : List Word) → CopiesAbove (xs ++ ys) → CopiesAbove xs
above_left [] ys g = tt
above_left (x ∷ xs) ys g = grind (arith, total_append, above_left xs ys g.1)

row_copy_plain : (w : Word) → Post (λ a. is_original w ≡ false) (row_copy w)
row_copy_plain w = grind arith

whole_plain : (w : Word) → Post (λ n. is_original w ≡ false) (whole w)
whole_plain w = post_bind (λ bits. is_original w ≡ false) (λ n. is_original w ≡ false) (operand w) _ (operand_plain w) (λ bits e. post_any_at (number bits) (λ n. e))

-- the mark of a call: its first cell is a reference, and these are its arguments
pub record Call (P : Starts) (h : OperatorContext) (arguments : List Word) : Type 0 where
  pub run : Run P h
  pub marked : (top_of h).standing ≡ Marked
  pub fit : AllFit P h arguments
  pub above : CopiesAbove (reverse arguments)
  pub counts : (n : ℕ) → originals n (cells_of h) ≡ originals n arguments
  pub next : h.job.next_task < 2 ^ 48

each_call : (P : Starts) (h : OperatorContext) (n : ℕ) (arguments : List Word) → Good P h (arraydec h arguments) → Good P h (print h arguments) → Good P h (printrow h arguments) → Good P h (read h arguments) → Good P h (process h arguments) →
    Good P h (await h arguments) → Good P h (status h arguments) → Good P h (wait h arguments) → Good P h (cause h arguments) → Good P h (deallocate h arguments) → Good P h (resize h arguments) → Good P h (intrinsic n h arguments)
each_call P h n arguments a b c d e f g i j k l = grind (arith, post_if)

follow_reference_plain : (h : OperatorContext) (w : Word) → Post (λ end. is_original w ≡ false) (follow_reference h w)
follow_reference_plain h w = grind arith

reference_followed : (P : Starts) (h : OperatorContext) → Run P h → (owner : ℕ) (w : Word) → WordInOrder P h.job.arrays (reach h) owner w → Post (Followed P h w) (follow_reference h w)
reference_followed P h run owner w fit = post_more (λ end. EndInOrder P h end × (is_original w ≡ false)) (Followed P h w) (follow_reference h w) (λ end g. record { is = g.0; plain = g.1 })
    (post_both (EndInOrder P h) (λ end. is_original w ≡ false) (follow_reference h w) (follow_reference_in P h run owner w fit) (follow_reference_plain h w))

module _ (P : Starts) (h : OperatorContext) where
  cut_of : (arguments : List Word) → Call P h arguments → ((n : ℕ) → originals n arguments ≡ 0) → Cut P h
  cut_of arguments c none = record { run = c.run; marked = c.marked; none = λ n. c.counts n ∙ none n }

  starts_good : (words : List Word) (end : End) (c : Call P h words) → ((n : ℕ) → originals n words ≡ 0) → list_any is_original words ≡ false → EndInOrder P h end → AllFit P h words → Good P h (starts h words end)
  starts_good words (AtProc environment segment level place) c none plain is fit =
      post_needs (Keeps P h) (eqb (level_of_frame (frame h environment) + 1) level) _ _ (λ test.
      post_needs (Keeps P h) (leb (3 + length words) h.constants.stack_size) _ _ (λ low.
      post_if_is (Keeps P h) (ltb (length h.job.tasks) 15) _ _
      (λ few. post_needs (Keeps P h) (not (is_critical h.job (top_of h).identity)) _ _ (λ free.
      result_good P h h (record h.job { tasks = child_of h words environment segment level place ∷ h.job.tasks; next_task = h.job.next_task + 1; next_frame = h.job.next_frame + 1 }) (answered h (Operand h.job.next_task ∷ [])) [] None
      (λ high. started_good P h c.run c.marked c.next words environment segment level place (λ n. c.counts n ∙ none n) fit plain is test (leb-true (3 + length words) h.constants.stack_size low) (ltb-true (length h.job.tasks) 15 few) free high)))
      (λ many. answers_operand P h (cut_of words c none) 0 h.job.numbers [] None (omega arith) c.run.order.reads)))
  starts_good words (AtCell f offset bits) c none plain is fit = post_err (Keeps P h) _
  starts_good words (AtElement a index) c none plain is fit = post_err (Keeps P h) _
  starts_good words (AtArray a) c none plain is fit = post_err (Keeps P h) _
  starts_good words (AtIntrinsic n) c none plain is fit = post_err (Keeps P h) _

  process_good : (arguments : List Word) → Call P h arguments → Good P h (process h arguments)
  process_good [] c = post_err (Keeps P h) _
  process_good (r ∷ words) c = post_needs (Keeps P h) (not (list_any is_original words)) _ _ (λ t.
      let plain : list_any is_original words ≡ false = not-true (list_any is_original words) t in
      let none : (n : ℕ) → originals n words ≡ 0 = λ n. none_pass (is_original_of n) words (λ w k. plain_word w (any_none is_original words w plain k) n) in
      post_bind (Followed P h r) (Keeps P h) (follow_reference h r) _ (reference_followed P h c.run (top_of h).identity r c.fit.0) (λ end g.
      starts_good words end (record { run = c.run; marked = c.marked; fit = c.fit.1; above = above_init words r (subst CopiesAbove (reverse_cons r words) c.above); counts = λ n. c.counts n ∙ Cells.none_of r words n g.plain; next = c.next }) none plain g.is c.fit.1))
    where
      above_init : (words : List Word) (r : Word) → CopiesAbove (reverse words ++ (r ∷ [])) → CopiesAbove (reverse words)
      above_init words r g = above_left (reverse words) (r ∷ []) g

  one_good : (n : ℕ) (w : Word) → Call P h (w ∷ []) → is_original w ≡ false → Good P h (intrinsic n h (w ∷ []))
  one_good n w c plain =
      let cut = cut_of (w ∷ []) c (λ m. Cells.none_of w [] m plain) in
      each_call P h n (w ∷ []) (arraydec_good P h cut (w ∷ [])) (print_good P h cut (w ∷ [])) (printrow_good P h cut (w ∷ [])) (post_err (Keeps P h) _) (process_good (w ∷ []) c) (await_good P h cut (w ∷ [])) (status_good P h cut (w ∷ []))
      (wait_good P h cut (w ∷ []) c.fit) (cause_good P h cut (w ∷ []) c.fit)
      (deallocate_good P h cut (w ∷ [])) (post_err (Keeps P h) _)

  -- a row copy and a number are no originals
  resize_good : (r w : Word) → Call P h (r ∷ w ∷ []) → Good P h (resize h (r ∷ w ∷ []))
  resize_good r w c = post_bind (λ a. is_original r ≡ false) (Keeps P h) (row_copy r) _ (row_copy_plain r)
      (λ a p. post_bind (λ n. is_original w ≡ false) (Keeps P h) (whole w) _ (whole_plain w)
      (λ n q. resizes_good P h (cut_of (r ∷ w ∷ []) c (λ m. two_plain m r w [] q p)) a n))

  original_good : (n a : ℕ) → Call P h (Original a ∷ []) → Good P h (intrinsic n h (Original a ∷ []))
  original_good n a c = each_call P h n (Original a ∷ []) (post_err _ _) (post_err _ _) (post_err _ _) (post_err _ _) (process_good (Original a ∷ []) c) (post_err _ _) (post_err _ _) (post_err _ _) (post_err _ _) (post_err _ _) (post_err _ _)

  pub intrinsic_good : (n : ℕ) (arguments : List Word) → Call P h arguments → Good P h (intrinsic n h arguments)
  intrinsic_good n [] c =
      let cut = cut_of [] c (λ m. refl) in
      each_call P h n [] (post_err _ _) (post_err _ _) (post_err _ _) (read_good P h cut []) (post_err _ _) (post_err _ _) (post_err _ _) (post_err _ _) (post_err _ _) (post_err _ _) (post_err _ _)
  intrinsic_good n (Original a ∷ []) c = original_good n a c
  intrinsic_good n (Operand bits ∷ []) c = one_good n (Operand bits) c refl
  intrinsic_good n (Name couple ∷ []) c = one_good n (Name couple) c refl
  intrinsic_good n (Ref f offset ∷ []) c = one_good n (Ref f offset) c refl
  intrinsic_good n (Row a ∷ []) c = one_good n (Row a) c refl
  intrinsic_good n (Element a index ∷ []) c = one_good n (Element a index) c refl
  intrinsic_good n (Proc segment level place ∷ []) c = one_good n (Proc segment level place) c refl
  intrinsic_good n (Intrinsic m ∷ []) c = one_good n (Intrinsic m) c refl
  intrinsic_good n (Words.Segment m ∷ []) c = one_good n (Words.Segment m) c refl
  intrinsic_good n (w ∷ v ∷ []) c =
      each_call P h n (w ∷ v ∷ []) (post_err _ _) (post_err _ _) (post_err _ _) (post_err _ _) (process_good (w ∷ v ∷ []) c) (post_err _ _) (post_err _ _) (post_err _ _) (post_err _ _) (post_err _ _) (resize_good w v c)
  intrinsic_good n (w ∷ v ∷ u ∷ more) c =
      each_call P h n (w ∷ v ∷ u ∷ more) (post_err _ _) (post_err _ _) (post_err _ _) (post_err _ _) (process_good (w ∷ v ∷ u ∷ more) c) (post_err _ _) (post_err _ _) (post_err _ _) (post_err _ _) (post_err _ _) (post_err _ _)

  entr_at_good : (arguments : List Word) (end : End) → Call P h arguments → EndInOrder P h end → Good P h (entr_at h arguments end)
  entr_at_good arguments (AtIntrinsic n) c is = intrinsic_good n arguments c
  entr_at_good arguments (AtProc f segment level place) c is = enters_good P h arguments (AtProc f segment level place) c.run is c.marked (reversed_fit arguments c.fit) c.above (λ n. total_reverse (λ w. cond (is_original_of n w) 1 0) arguments ∙ sym (c.counts n))
    where
      reversed_fit : (words : List Word) → AllFit P h words → AllFit P h (reverse words)
      reversed_fit words fit = all_from (Fit P h) (reverse words) (λ w k. all_in (Fit P h) words w fit (has_reverse_back words w k))
  entr_at_good arguments (AtCell f offset bits) c is = post_err (Keeps P h) _
  entr_at_good arguments (AtElement a index) c is = post_err (Keeps P h) _
  entr_at_good arguments (AtArray a) c is = post_err (Keeps P h) _

  entr_with_good : Run P h → (top_of h).standing ≡ Marked → h.job.next_task < 2 ^ 48 → (cells : List Word) → reverse (cells_of h) ≡ cells → Good P h (entr_with h cells)
  entr_with_good run marked next [] are = post_err (Keeps P h) _
  entr_with_good run marked next (r ∷ arguments) are =
      let own = own_fit P h run in
      let fit : AllFit P h (r ∷ arguments) = all_from (Fit P h) (r ∷ arguments) (λ w k. all_in (Fit P h) (cells_of h) w own (has_reverse_back (cells_of h) w (subst (λ ws. Has ws w) (sym are) k))) in
      let back : cells_of h ≡ reverse arguments ++ (r ∷ []) = sym (reverse-reverse (cells_of h)) ∙ ap reverse are ∙ reverse_cons r arguments in
      post_bind (Followed P h r) (Keeps P h) (follow_reference h r) _ (reference_followed P h run (top_of h).identity r fit.0) (λ end g.
      entr_at_good arguments end (record {
        run = run;
        marked = marked;
        fit = fit.1;
        above = above_left (reverse arguments) (r ∷ []) (subst CopiesAbove back (own_copies P h run));
        counts = λ n. sym (total_reverse (λ w. cond (is_original_of n w) 1 0) (cells_of h)) ∙ ap (originals n) are ∙ Cells.none_of r arguments n g.plain;
        next = next;
      }) g.is)

  pub entr_good : Run P h → h.job.next_task < 2 ^ 48 → (s : Standing) → (top_of h).standing ≡ s → Good P h (entr h s)
  entr_good run next s e = grind (arith, entr_with_good)

module _ (P : Starts) (h : OperatorContext) (start : Run P (branches h h.at)) (next : h.job.next_task < 2 ^ 48) where
  -- the operators after which the next one may follow
  on_good : (code : Code) → AfterFits P h (Plain code) → may_be_last (Plain code) ≡ false → Run P h
  on_good code after goes = run_at P (branches h h.at) h.task.place start (after goes)

  push_operand : (bits : ℕ) → bits < 2 ^ 48 → Run P h → Good P h (pushes h (Operand bits) None)
  push_operand bits low run = push_good P h (Operand bits) None run low (λ n. refl)

  still_good : Run P h → Good P h (leaves_cells h (cells_of h) None)
  still_good run = cells_good P h (cells_of h) None run (own_fit P h run) (own_copies P h run) (λ n. refl)

  class_good : (c : Class) → Bounds.ClassFits c → IsOnOperands c → Run P h → Good P h (by_class c h)
  class_good (OnTwo f) fits common run = on_cells_good P h (on_two f) run (two_keeps P h f fits)
  class_good (OnOne f) fits common run = on_cells_good P h (on_one f) run (one_keeps P h f fits)
  class_good (OnCells f) fits common run = absurd common
  class_good (Pushes n) fits common run = push_operand n fits run
  class_good Idle fits common run = still_good run
  class_good (Own row) fits common run = absurd common

  plain_good : (code : Code) → AfterFits P h (Plain code) → Good P h (plain code h)
  plain_good codes.Exit after = exit_good P (branches h h.at) start
  plain_good codes.Indx after = indx_good P h (cells_of h) (on_good codes.Indx after refl) refl
  plain_good codes.Retn after = retn_good P (branches h h.at) start
  plain_good codes.Entr after = entr_good P h (on_good codes.Entr after refl) next (top_of h).standing refl
  plain_good codes.Nxlv after = nxlv_good P h (cells_of h) (on_good codes.Nxlv after refl) refl
  plain_good codes.Mkst after = mkst_good P h (on_good codes.Mkst after refl)
  plain_good codes.Stff after = on_cells_good P h (stff h) (on_good codes.Stff after refl) (stff_keeps P h (on_good codes.Stff after refl))
  plain_good codes.Dlet after = on_cells_good P h dlet (on_good codes.Dlet after refl) (dlet_keeps P h)
  plain_good codes.Exch after = on_cells_good P h exch (on_good codes.Exch after refl) (exch_keeps P h)
  plain_good codes.Dupl after = on_cells_good P h dupl (on_good codes.Dupl after refl) (dupl_keeps P h)
  plain_good codes.Stod after = store_good P false h (cells_of h) (on_good codes.Stod after refl) start.place refl
  plain_good codes.Ston after = store_good P true h (cells_of h) (on_good codes.Ston after refl) start.place refl
  plain_good codes.Load after = load_good P h (cells_of h) (on_good codes.Load after refl) start.place refl
  plain_good codes.Nvld after = post_err (Keeps P h) _
  plain_good code after = class_good (class code) (Bounds.class_fits code) tt (on_good code after refl)

  -- the operators but plain ones go on after themselves, or by a branch
  on : P h.task.segment (level_of_frame (running h.task.frames)) h.task.place → Run P h
  on goes = run_at P (branches h h.at) h.task.place start goes

  level_31 : (n : ℕ) → n % 2 ^ 5 ≤ 31
  level_31 n = omega arith

  pub row_good : (op : Op) → AfterFits P h op → ParametersFit P h op → Good P h (row op h)
  row_good (Valc couple) after fit = valc_good P h couple fit (on (after refl))
  row_good (Namc couple) after fit = push_good P h (Name couple) None (on (after refl)) fit (λ n. refl)
  row_good (Lt8 n) after fit = push_operand n fit (on (after refl))
  row_good (Lt16 n) after fit = push_operand n fit (on (after refl))
  row_good (Lt48 bits) after fit = push_operand bits fit (on (after refl))
  row_good (Mpcw bits) after fit = post_needs (Keeps P h) (is_proc h bits) _ _ (λ t. push_good P h (proc_of bits) None (on (after refl)) (level_31 (bits / 2 ^ 14), fit t) (λ n. refl))
  row_good (Brun target) after fit = go_good P (branches h h.at) target (cells_of h) start fit (own_fit P (branches h h.at) start) (own_copies P (branches h h.at) start) (λ n. refl)
  row_good (Brtr target) after fit = branch_good P true h (cells_of h) target (on (after refl)) fit refl
  row_good (Brfl target) after fit = branch_good P false h (cells_of h) target (on (after refl)) fit refl
  row_good (Bset n) after fit = on_cells_good P h _ (on (after refl)) (one_keeps P h (bset n) (Bounds.bset_fits n))
  row_good (Brst n) after fit = on_cells_good P h _ (on (after refl)) (one_keeps P h (brst n) (Bounds.brst_fits n))
  row_good (Isol high width) after fit = on_cells_good P h _ (on (after refl)) (one_keeps P h (isol high width) (Bounds.isol_fits high width))
  row_good (Insr high width) after fit = on_cells_good P h _ (on (after refl)) (two_keeps P h (insr high width) (Bounds.insr_fits high width))
  row_good (Plain code) after fit = plain_good code after
