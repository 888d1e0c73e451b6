-- Stores keep order.
use Rattle.std.proofs.Common.{◌≡◌, ◌≢◌, ℕ, zero, suc, ◌^◌, ◌<◌, ◌≤◌, Bool, true, false, cond, List, [], ◌∷◌, ◌++◌, map, reverse, length, Some, None, Ok, refl, sym, ap, ◌∙◌, subst, inl, inr, ◌⊎◌, arith, slice_set, flat_map, unwrap_or, ltb, ◌-◌, append-nil}
use Rattle.std.specs.List.{AllByRecursion, slice_get}
use Rattle.std.proofs.lemmas.Bool.Decides.{eqb_tells}
use Rattle.std.proofs.lemmas.Bool.{cases_Bool}
use Rattle.b67_model.specs.Keyed.{change_keyed}
use Rattle.b67_lemmas.specs.Lists.{Has}
use Rattle.b67_lemmas.proofs.Members.{all_in, has_change, has_get, has_map, has_map_back, keyed_has, keyed_left}
use Rattle.b67_model.specs.Common.{Word, Operand, Frame, Array, Task, OperatorContext, frame, top, with_top_cells, height, with_task, level_of_frame, running, array, End, AtCell, AtElement, AtArray, AtProc, AtIntrinsic, follow, top_of, cells_of, result, with_cells, back_to, Starts, known_of, CopiesAbove, ConditionInOrder, ArrayInOrder, is_original_of, originals_of, TasksInOrder, operand, cell, in_order, first_offset, cell_of, with_number, with_element, store_at, store, no_frame, mcp}
use Rattle.b67_law.proofs.Reaches.{Stays}
use Rattle.b67_law.proofs.Looks.{Run, own_order, running_cells, found_frame, IsFrame, above_one}
use Rattle.b67_law.proofs.Changes.{Change, outside, no_change, change_arrays, change_cells, changed, run_replaced}
use Rattle.b67_law.specs.Ends.{EndInOrder}
use Rattle.b67_law.proofs.Posts.{Post, post_ok, post_err, post_bind, post_needs}
use Rattle.b67_law.proofs.RowSteps.{Keeps, Good, Fit, AllFit, originals, SameOriginals, own_fit, own_copies, plain_above, originals_cells, result_good, accident_good}
use Rattle.b67_law.proofs.Maps.{IsOperand, HoldsOperand, cell_stored}
use Rattle.b67_law.proofs.Cells.{followed, Followed, pair, two_plain}
use Rattle.b67_law.proofs.Chases.{some_ok}
use Rattle.std.specs.Option.{ok_or}
use Rattle.std.proofs.lemmas.List.{reverse-append}
use Rattle.b67_word.specs.declared.faults.Fault.TheVariants.{InvalidAddress}

-- fewer cells are no higher
height_cells : (fs : List Frame) (cells : List Word) → length cells ≤ length (top fs).cells → height (with_top_cells fs cells) ≤ height fs
height_cells fs cells low = grind arith

-- other cells on top, without the test of the height
pub cells_low : (P : Starts) (h : OperatorContext) (cells : List Word) → Run P h → AllFit P h cells → CopiesAbove cells → SameOriginals cells (cells_of h) → length cells ≤ length (cells_of h) → TasksInOrder P h.constants (with_task h.job (with_cells h cells))
cells_low P h cells run fit above same low = changed P h (with_top_cells h.task.frames cells) h.job.next_frame h.task.segment h.task.place run (change_cells P h h.job.arrays h.task.frames h.job.next_frame cells (no_change P h run) (fit, above))
    (omega (arith, height_cells h.task.frames cells low, (own_order P h run).not_higher))
    (rw (running_cells h.task.frames cells) run.place)
    (λ n. originals_cells n h.task.frames cells (same n))

-- an array's element changes
pub change_has : (n : ℕ) (f : Array → Array) (xs : List Array) (a : Array) → Has xs a → ((x : Array) → Stays (f x ∷ []) x) → Stays (change_keyed (λ x. x.identity) n f xs) a
change_has n f [] a h same = absurd h
change_has n f (x ∷ xs) a h same = grind (arith, change_has n f xs a)

set_low : (xs : List ℕ) (i bits : ℕ) → bits < 2 ^ 48 → AllByRecursion (λ (n : ℕ). n < 2 ^ 48) xs → AllByRecursion (λ (n : ℕ). n < 2 ^ 48) (slice_set xs i bits)
set_low [] i bits low all = tt
set_low (x ∷ xs) zero bits low all = (low, all.1)
set_low (x ∷ xs) (suc i) bits low all = (all.0, set_low xs i bits low all.1)

set_length : (xs : List ℕ) (i bits : ℕ) → length (slice_set xs i bits) ≡ length xs
set_length [] i bits = refl
set_length (x ∷ xs) zero bits = refl
set_length (x ∷ xs) (suc i) bits = ap suc (set_length xs i bits)

number_kept : (index bits : ℕ) (a : Array) → bits < 2 ^ 48 → ArrayInOrder a → ArrayInOrder (with_number index bits a)
number_kept index bits a low g = grind (arith, set_length, set_low)

-- one array changes to another in order
pub arrays_changed : (n : ℕ) (f : Array → Array) (xs : List Array) → ((a : Array) → ArrayInOrder a → ArrayInOrder (f a)) → AllByRecursion ArrayInOrder xs → AllByRecursion ArrayInOrder (change_keyed (λ a. a.identity) n f xs)
arrays_changed n f [] fits all = tt
arrays_changed n f (x ∷ xs) fits all = grind (arith, arrays_changed n f xs fits all.1)

pub names_changed : (n : ℕ) (f : Array → Array) (xs : List Array) → ((a : Array) → (f a).identity ≡ a.identity) → map (λ (a : Array). a.identity) (change_keyed (λ a. a.identity) n f xs) ≡ map (λ (a : Array). a.identity) xs
names_changed n f [] same = refl
names_changed n f (x ∷ xs) same = grind (arith, names_changed n f xs same)

-- a fact of identities alone
pub by_names : (Q : ℕ → Type 0) (xs ys : List Array) → map (λ (a : Array). a.identity) xs ≡ map (λ (a : Array). a.identity) ys → AllByRecursion (λ (a : Array). Q a.identity) ys → (a : Array) → Has xs a → Q a.identity
by_names Q xs ys same all a h =
    let there : Has (map (λ (x : Array). x.identity) ys) a.identity = subst (λ ns. Has ns a.identity) same (has_map (λ (x : Array). x.identity) xs a h) in
    grind (arith, has_map_back, all_in)

pub element_stored : (P : Starts) (h : OperatorContext) (a index bits : ℕ) (cells : List Word) → Run P h → bits < 2 ^ 48 → AllFit P h cells → CopiesAbove cells → SameOriginals cells (cells_of h) → Good P h (result h (with_element h.job a index bits) (with_cells h cells) [] (Some a))
element_stored P h a index bits cells run low fit above same = result_good P h h (with_element h.job a index bits) (with_cells h cells) [] (Some a) (λ high.
    let arrays' : List Array = change_keyed (λ x. x.identity) a (with_number index bits) h.job.arrays in
    let stay : (x : Array) → Has h.job.arrays x → Stays arrays' x = λ x k. change_has a (with_number index bits) h.job.arrays x k (λ y. record { item = with_number index bits y; live = inl refl; named = refl; owned = refl }) in
    let c = change_cells P h h.job.arrays h.task.frames h.job.next_frame cells (no_change P h run) (fit, above) in
    let frames' = with_top_cells h.task.frames cells in
    let c' : Change P h arrays' frames' h.job.next_frame = change_arrays P h h.job.arrays arrays' frames' h.job.next_frame c (λ x k at. stay x k) in
    let new : Task = with_cells h cells in
    (run_replaced P h (with_task (record h.job { arrays = arrays' }) new) new run (record {
      number = refl;
      line = refl;
      critical = refl;
      tasks = refl;
      next_task = refl;
      next_frame = omega arith;
      frames = c'.order;
      returns = c'.returns;
      some = c'.some;
      falls = c'.falls;
      not_higher = high;
      place = rw (running_cells h.task.frames cells) run.place;
      condition = subst (ConditionInOrder (map known_of frames' ++ outside h)) (sym run.ready) tt;
      alike = c'.alike;
      stays = c'.stays;
      fewer = c'.fewer;
      kept = λ x k. record { case = inl (stay x k) };
      arrays = arrays_changed a (with_number index bits) h.job.arrays (λ x g. number_kept index bits x low g) run.order.arrays;
      once = λ x k. omega (arith, originals_cells x.identity h.task.frames cells (same x.identity), by_names (λ n. originals_of n h.constants h.job ≡ 1) arrays' h.job.arrays (names_changed a (with_number index bits) h.job.arrays (λ x. refl)) run.order.once x k);
      names = rw (names_changed a (with_number index bits) h.job.arrays (λ x. refl)) run.order.names;
      reads = run.order.reads;
    })).0)

-- a cell that holds an operand, in whichever live frame has the identity
pub operand_is : (w : Word) (bits : ℕ) → Operand bits ≡ w → IsOperand w
operand_is w bits e = subst IsOperand e tt

pub holds_operand : (P : Starts) (h : OperatorContext) (n offset bits : ℕ) → Run P h → cell h n offset ≡ Ok (Operand bits) → (f : Frame) → IsFrame h.job f → f.identity ≡ n → slice_get (reverse f.cells) (offset - 2) ≡ Some (Operand bits)
holds_operand P h n offset bits run e f live is =
    let high = above_one P h.constants h.job run.order live.task live.live f live.among in
    let there : frame h n ≡ f = subst (λ m. frame h m ≡ f) is (ap (λ o. unwrap_or o no_frame) (keyed_left (λ (x : Frame). x.identity) f.identity (flat_map (λ (t : Task). t.frames) h.job.tasks) (h.constants.dictionary ∷ mcp ∷ []) f (found_frame P h.constants h.job run.order f live))) in
    grind arith

pub same_item : (f : Frame) (i : ℕ) (w v : Word) → slice_get (reverse f.cells) i ≡ Some w → slice_get (reverse f.cells) i ≡ Some v → w ≡ v
same_item f i w v a b = let e : Some w ≡ Some v = sym a ∙ b in cc

-- below some words that stay, what takes the place of others are operands
kept_operand : (xs ys zs : List Word) (i : ℕ) (x w : Word) → slice_get (xs ++ ys) i ≡ Some x → IsOperand x → AllByRecursion IsOperand zs → slice_get (xs ++ zs) i ≡ Some w → IsOperand w
kept_operand [] ys zs i x w e is all k = all_in IsOperand zs w all (has_get zs i w k)
kept_operand (v ∷ xs) ys zs zero x w e is all k = let a : v ≡ x = cc in let b : v ≡ w = cc in subst IsOperand (sym a ∙ b) is
kept_operand (v ∷ xs) ys zs (suc i) x w e is all k = kept_operand xs ys zs i x w e is all k

-- the cells that a store keeps: those under the two words, maybe with an operand on them
pub record KeptCells (rest kept : List Word) : Type 0 where
  pub above : List Word
  pub are : reverse kept ≡ reverse rest ++ above
  pub operands : AllByRecursion IsOperand above

top_has : (fs : List Frame) → fs ≢ [] → Has fs (top fs)
top_has fs some = grind arith

cells_has : (fs : List Frame) (cells : List Word) (g : Frame) → Has (with_top_cells fs cells) g → (record (top fs) { cells = cells } ≡ g) ⊎ Has fs g
cells_has fs cells g k = grind arith

pub own_frame : (P : Starts) (h : OperatorContext) → Run P h → (f : Frame) → Has h.task.frames f → IsFrame h.job f
own_frame P h run f k = grind (arith, keyed_has)

store_holds : (P : Starts) (h : OperatorContext) (b a : Word) (rest kept : List Word) (n offset bits : ℕ) → Run P h → cell h n offset ≡ Ok (Operand bits) → cells_of h ≡ b ∷ a ∷ rest → KeptCells rest kept →
    HoldsOperand (with_task h.job (with_cells h kept)) n offset
store_holds P h b a rest kept n offset bits run e are keep t live f among is w k =
    elim (has_change (λ (u : Task). u.number) h.job.next_task h.task.number (with_cells h kept) h.job.tasks t run.order.numbers live) [
      | inl new ↦
          let here : Has (with_top_cells h.task.frames kept) f = subst (λ (u : Task). Has u.frames f) (sym new) among in
          elim (cells_has h.task.frames kept f here) [
            | inl top_one ↦
                let number : (top_of h).identity ≡ n = ap (λ (x : Frame). x.identity) top_one ∙ is in
                let old = holds_operand P h n offset bits run e (top_of h) (own_frame P h run (top_of h) (top_has h.task.frames (own_order P h run).some)) number in
                let old' : slice_get (reverse rest ++ (a ∷ b ∷ [])) (offset - 2) ≡ Some (Operand bits) =
                subst (λ ws. slice_get ws (offset - 2) ≡ Some (Operand bits)) (ap reverse are ∙ reverse-append (b ∷ a ∷ []) rest) old in
                let now : slice_get (reverse kept) (offset - 2) ≡ Some w = subst (λ (x : Frame). slice_get (reverse x.cells) (offset - 2) ≡ Some w) (sym top_one) k in
                kept_operand (reverse rest) (a ∷ b ∷ []) keep.above (offset - 2) (Operand bits) w old' tt keep.operands (subst (λ ws. slice_get ws (offset - 2) ≡ Some w) keep.are now)
            | inr old_one ↦ operand_is w bits (same_item f (offset - 2) (Operand bits) w (holds_operand P h n offset bits run e f (own_frame P h run f old_one) is) k)
          ]
      | inr old ↦ operand_is w bits (same_item f (offset - 2) (Operand bits) w (holds_operand P h n offset bits run e f (record { task = t; live = old.0; among = among }) is) k)
    ]

-- what a store leaves on the stack
pub record Leaves2 (P : Starts) (h : OperatorContext) (rest kept : List Word) : Type 0 where
  pub fit : AllFit P h kept
  pub above : CopiesAbove kept
  pub same : SameOriginals kept (cells_of h)
  pub low : length kept ≤ length (cells_of h)
  pub cells : KeptCells rest kept

store_at_good : (P : Starts) (h : OperatorContext) (b a : Word) (rest kept : List Word) (bits : ℕ) (end : End) → Run P h → P h.task.segment (level_of_frame (running h.task.frames)) h.at → EndInOrder P h end → bits < 2 ^ 48 →
    cells_of h ≡ b ∷ a ∷ rest → Leaves2 P h rest kept → AllFit P h rest → CopiesAbove rest → SameOriginals rest (cells_of h) → Good P h (store_at h rest kept bits end)
store_at_good P h b a rest kept bits (AtCell f offset old) run at is low are k fit above same =
    post_ok (Keeps P h) _ (cell_stored P h.constants (with_task h.job (with_cells h kept)) f offset bits low (store_holds P h b a rest kept f offset old run is.found are k.cells) (cells_low P h kept run k.fit k.above k.same k.low))
store_at_good P h b a rest kept bits (AtElement x index) run at is low are k fit above same =
    post_needs (Keeps P h) (array h.job x).writable _ _ (λ t. element_stored P h x index bits kept run low k.fit k.above k.same)
store_at_good P h b a rest kept bits (AtProc f segment level place) run at is low are k fit above same =
    accident_good P h (Operand bits ∷ rest) (back_to h false h.at) (AtProc f segment level place) run is (low, fit) (tt, above) (λ n. omega (arith, same n)) at
store_at_good P h b a rest kept bits (AtArray x) run at is low are k fit above same = post_err (Keeps P h) _
store_at_good P h b a rest kept bits (AtIntrinsic n) run at is low are k fit above same = post_err (Keeps P h) _

pub record IsOperandOf (w : Word) (bits : ℕ) : Type 0 where
  pub is : w ≡ Operand bits

operand_of : (w : Word) → Post (IsOperandOf w) (operand w)
operand_of w = grind arith

leaves_two : (P : Starts) (h : OperatorContext) (b a v : Word) (rest : List Word) (bits : ℕ) (keeps : Bool) → AllFit P h rest → Fit P h v → CopiesAbove rest → SameOriginals rest (cells_of h) → cells_of h ≡ b ∷ a ∷ rest → v ≡ Operand bits →
    Leaves2 P h rest (cond keeps (v ∷ rest) rest)
leaves_two P h b a v rest bits true fit one above same are is =
    let plain : (n : ℕ) → is_original_of n v ≡ false = λ n. rw is refl in
    record {
      fit = (one, fit);
      above = (plain_above v rest plain, above);
      same = λ n. let t = plain n in rw t (omega (arith, same n));
      low = rw are (omega arith);
      cells = record { above = v ∷ []; are = reverse-append (v ∷ []) rest; operands = (subst IsOperand (sym is) tt, tt) };
    }
leaves_two P h b a v rest bits false fit one above same are is = grind (arith, append-nil)

pub store_good : (P : Starts) (keeps : Bool) (h : OperatorContext) (cells : List Word) → Run P h → P h.task.segment (level_of_frame (running h.task.frames)) h.at → cells_of h ≡ cells → Good P h (store keeps h cells)
store_good P keeps h [] run at are = post_err (Keeps P h) _
store_good P keeps h (b ∷ []) run at are = post_err (Keeps P h) _
store_good P keeps h (b ∷ a ∷ rest) run at are =
    let fit : AllFit P h (b ∷ a ∷ rest) = subst (AllFit P h) are (own_fit P h run) in
    let above : CopiesAbove (b ∷ a ∷ rest) = subst CopiesAbove are (own_copies P h run) in
    let r = (in_order b a).0 in
    let v = (in_order b a).1 in
    let two = pair P h b a fit.0 fit.1.0 in
    post_bind (IsOperandOf v) (Keeps P h) (operand v) _ (operand_of v) (λ bits one.
    post_bind (Followed P h r) (Keeps P h) (follow h r) _ (followed P h run r two.first) (λ end g.
    let plain = two.plain g.plain (rw one.is refl) in
    let same : SameOriginals rest (cells_of h) = λ n. sym (two_plain n b a rest plain.0 plain.1) ∙ ap (originals n) (sym are) in
    let low : bits < 2 ^ 48 = subst (Fit P h) one.is two.second in
    store_at_good P h b a rest _ bits end run at g.is low are (leaves_two P h b a v rest bits keeps fit.1.1 two.second above.1.1 same are one.is) fit.1.1 above.1.1 same))
