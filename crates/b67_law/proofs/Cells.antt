-- Rows on the cells of the top frame, branches, loads and index rows keep order.
use Rattle.std.proofs.Common.{◌≡◌, ℕ, ◌^◌, ◌<◌, Bool, true, false, cond, List, [], ◌∷◌, Some, None, refl, sym, ap, ◌∙◌, subst, arith}
use Rattle.std.proofs.lemmas.Bool.{true≢false}
use Rattle.b67_word.specs.declared.couples.Place.{Place}
use Rattle.b67_model.specs.Common.{Answer, Word, Operand, Name, Ref, Row, Element, Original, Proc, Intrinsic, Task, OperatorContext, level_of_frame, running, array, element, End, AtCell, AtElement, AtArray, AtProc, AtIntrinsic, follow, top_of, cells_of, leaves_cells, back_to, is_original, Starts, CopiesAbove, is_original_of, operand, place_of, cell, Binary, indexed, in_order, CellRow, on_one, on_two, dlet, exch, dupl, on_cells, branches, branch_if, valc, stff_word, stff, load_at, load, indx, nxlv}
use Rattle.b67_model.specs.Words as Words
use Rattle.b67_law.proofs.Looks.{Run, reach}
use Rattle.b67_law.specs.Ends.{IsElement, EndInOrder}
use Rattle.b67_law.proofs.Chases.{follow_in, chase_in, place_in, indexed_in}
use Rattle.b67_law.proofs.Posts.{Post, post_ok, post_err, post_bind, post_any, post_more, post_both, post_any_at}
use Rattle.b67_law.proofs.RowSteps.{Keeps, Good, Fit, AllFit, originals, SameOriginals, own_fit, own_copies, plain_above, cells_good, accident_good, element_low, evaluates_good}

-- rows that keep operands in 48 bits
abbrev pub Fits1 : (ℕ → Answer ℕ) → Type 0
Fits1 f = (x : ℕ) → x < 2 ^ 48 → Post (λ y. y < 2 ^ 48) (f x)

abbrev pub Fits2 : Binary → Type 0
Fits2 f = (x y : ℕ) → x < 2 ^ 48 → y < 2 ^ 48 → Post (λ z. z < 2 ^ 48) (f x y)

-- cells that a row makes of others: all in order, with the same originals
pub record CellsKept (P : Starts) (h : OperatorContext) (cells cells' : List Word) : Type 0 where
  pub fit : AllFit P h cells'
  pub above : CopiesAbove cells'
  pub same : SameOriginals cells' cells

abbrev pub KeepsCells : Starts → OperatorContext → CellRow → Type 0
KeepsCells P h f = (cells : List Word) → AllFit P h cells → CopiesAbove cells → Post (CellsKept P h cells) (f cells)

pub on_cells_good : (P : Starts) (h : OperatorContext) (f : CellRow) → Run P h → KeepsCells P h f → Good P h (on_cells f h)
on_cells_good P h f run keeps = post_bind (CellsKept P h (cells_of h)) (Keeps P h) (f (cells_of h)) _ (keeps (cells_of h) (own_fit P h run) (own_copies P h run))
    (λ cells k. cells_good P h cells None run k.fit k.above k.same)

pub one_keeps : (P : Starts) (h : OperatorContext) (f : ℕ → Answer ℕ) → Fits1 f → KeepsCells P h (on_one f)
one_keeps P h f fits e all above = grind arith

pub two_keeps : (P : Starts) (h : OperatorContext) (f : Binary) → Fits2 f → KeepsCells P h (on_two f)
two_keeps P h f fits e all above = grind arith

-- a word that may be moved is no original
pub plain_word : (w : Word) → is_original w ≡ false → (n : ℕ) → is_original_of n w ≡ false
plain_word w e n = grind arith

-- what a plain word adds to a count
pub none_of : (w : Word) (below : List Word) (n : ℕ) → is_original w ≡ false → originals n (w ∷ below) ≡ originals n below
none_of w below n e = let t = plain_word w e n in rw t (omega arith)

pub dlet_keeps : (P : Starts) (h : OperatorContext) → KeepsCells P h dlet
dlet_keeps P h e all above = grind arith

pub exch_keeps : (P : Starts) (h : OperatorContext) → KeepsCells P h exch
exch_keeps P h [] all above = post_err _ _
exch_keeps P h (b ∷ []) all above = post_err _ _
exch_keeps P h (b ∷ a ∷ rest) all above = grind arith

pub dupl_keeps : (P : Starts) (h : OperatorContext) → KeepsCells P h dupl
dupl_keeps P h e all above = grind arith

abbrev IsRefFit : Starts → OperatorContext → Word → Type 0
IsRefFit P h v = Fit P h v × ((n : ℕ) → is_original_of n v ≡ false)

pub stff_keeps : (P : Starts) (h : OperatorContext) → Run P h → KeepsCells P h (stff h)
stff_keeps P h run [] all above = post_err _ _
stff_keeps P h run (Ref f offset ∷ rest) all above = post_ok _ _ (record { fit = all; above = above; same = λ n. refl })
stff_keeps P h run (Name couple ∷ rest) all above = post_bind (IsRefFit P h) (CellsKept P h (Name couple ∷ rest)) (stff_word h (Name couple)) _
    (post_bind _ (IsRefFit P h) (place_of h (Name couple)) _ (place_in P h run (Name couple) all.0) (λ at good. post_any (IsRefFit P h) (cell h at.0 at.1) _ (λ w. post_ok (IsRefFit P h) (Ref at.0 at.1) (good, λ n. refl))))
    (λ v good. post_ok (CellsKept P h (Name couple ∷ rest)) _ (record { fit = (good.0, all.1); above = (plain_above v rest good.1, above.1); same = λ n. let t = good.1 n in rw t (omega arith) }))
stff_keeps P h run (w ∷ rest) all above = post_err _ _

-- the running task at another place
pub run_at : (P : Starts) (h : OperatorContext) (target : Place) → Run P h → P h.task.segment (level_of_frame (running h.task.frames)) target → Run P (branches h target)
run_at P h target run starts = grind arith

pub go_good : (P : Starts) (h : OperatorContext) (target : Place) (cells : List Word) → Run P h → P h.task.segment (level_of_frame (running h.task.frames)) target → AllFit P h cells → CopiesAbove cells → SameOriginals cells (cells_of h) →
    Good P h (leaves_cells (branches h target) cells None)
go_good P h target cells run starts fit above same = cells_good P (branches h target) cells None (run_at P h target run starts) fit above same

pub operand_plain : (w : Word) → Post (λ bits. is_original w ≡ false) (operand w)
operand_plain w = grind arith

pub branch_good : (P : Starts) (wanted : Bool) (h : OperatorContext) (cells : List Word) (target : Place) → Run P h → P h.task.segment (level_of_frame (running h.task.frames)) target →
    cells_of h ≡ cells → Good P h (branch_if wanted h cells target)
branch_good P wanted h [] target run starts are = post_err (Keeps P h) _
branch_good P wanted h (a ∷ rest) target run starts are =
    let fit : AllFit P h (a ∷ rest) = subst (AllFit P h) are (own_fit P h run) in
    let above : CopiesAbove (a ∷ rest) = subst CopiesAbove are (own_copies P h run) in
    post_bind (λ x. is_original a ≡ false) (Keeps P h) (operand a) _ (operand_plain a)
    (λ x plain. go_good P h _ rest run (goes _) fit.1 above.1 (λ n. sym (none_of a rest n plain) ∙ ap (originals n) (sym are)))
  where
    goes : (b : Bool) → P h.task.segment (level_of_frame (running h.task.frames)) (cond b target h.task.place)
    goes true = starts
    goes false = run.place

pub valc_good : (P : Starts) (h : OperatorContext) (couple : ℕ) → couple < 2 ^ 14 → Run P h → Good P h (valc h couple)
valc_good P h couple low run = post_bind (EndInOrder P h) (Keeps P h) _ _ (chase_in P h run (Name couple) low) (λ end is. evaluates_good P h end run is)

follow_plain : (h : OperatorContext) (w : Word) → Post (λ end. is_original w ≡ false) (follow h w)
follow_plain h w = grind arith

-- what follows of a reference on the stack
pub record Followed (P : Starts) (h : OperatorContext) (w : Word) (end : End) : Type 0 where
  pub is : EndInOrder P h end
  pub plain : is_original w ≡ false

pub followed : (P : Starts) (h : OperatorContext) → Run P h → (w : Word) → Fit P h w → Post (Followed P h w) (follow h w)
followed P h run w fit = post_more (λ end. EndInOrder P h end × (is_original w ≡ false)) (Followed P h w) (follow h w) (λ end g. record { is = g.0; plain = g.1 })
    (post_both (EndInOrder P h) (λ end. is_original w ≡ false) (follow h w) (follow_in P h run (top_of h).identity w fit) (follow_plain h w))

load_at_good : (P : Starts) (h : OperatorContext) (rest : List Word) (end : End) → Run P h → P h.task.segment (level_of_frame (running h.task.frames)) h.at → EndInOrder P h end → AllFit P h rest → CopiesAbove rest → SameOriginals rest (cells_of h) →
    Good P h (load_at h rest end)
load_at_good P h rest (AtCell f offset bits) run at is fit above same = cells_good P h (Operand bits ∷ rest) None run (is.bound, fit) (tt, above) (λ n. omega (arith, same n))
load_at_good P h rest (AtElement a index) run at is fit above same = cells_good P h (Operand (element h.job a index) ∷ rest) (Some a) run (element_low P h run a index is.names, fit) (tt, above) (λ n. omega (arith, same n))
load_at_good P h rest (AtArray a) run at is fit above same = cells_good P h (Row a ∷ rest) None run (is, fit) (tt, above) (λ n. omega (arith, same n))
load_at_good P h rest (AtProc f segment level place) run at is fit above same = accident_good P h rest (back_to h false h.at) (AtProc f segment level place) run is fit above same at
load_at_good P h rest (AtIntrinsic n) run at is fit above same = post_err (Keeps P h) _

pub load_good : (P : Starts) (h : OperatorContext) (cells : List Word) → Run P h → P h.task.segment (level_of_frame (running h.task.frames)) h.at → cells_of h ≡ cells → Good P h (load h cells)
load_good P h [] run at are = post_err (Keeps P h) _
load_good P h (w ∷ rest) run at are =
    let fit : AllFit P h (w ∷ rest) = subst (AllFit P h) are (own_fit P h run) in
    grind (arith, own_copies, followed, load_at_good)

indexed_plain : (h : OperatorContext) (r i : Word) → Post (λ at. (is_original r ≡ false) × (is_original i ≡ false)) (indexed h r i)
indexed_plain h r i = grind arith

-- two words in the order that a row takes them
pub record Pair (P : Starts) (h : OperatorContext) (b a : Word) : Type 0 where
  pub first : Fit P h (in_order b a).0
  pub second : Fit P h (in_order b a).1
  pub plain : is_original (in_order b a).0 ≡ false → is_original (in_order b a).1 ≡ false → (is_original a ≡ false) × (is_original b ≡ false)

pub pair : (P : Starts) (h : OperatorContext) (b a : Word) → Fit P h b → Fit P h a → Pair P h b a
pair P h b a x y = grind arith

pub two_plain : (n : ℕ) (b a : Word) (rest : List Word) → is_original a ≡ false → is_original b ≡ false → originals n (b ∷ a ∷ rest) ≡ originals n rest
two_plain n b a rest p q = none_of b (a ∷ rest) n q ∙ none_of a rest n p

pub indexed_good : (P : Starts) (h : OperatorContext) (r i : Word) → Run P h → Fit P h r → Post (λ at. IsElement h (reach h) at.0 at.1 × ((is_original r ≡ false) × (is_original i ≡ false))) (indexed h r i)
indexed_good P h r i run fit = post_both (λ at. IsElement h (reach h) at.0 at.1) (λ at. (is_original r ≡ false) × (is_original i ≡ false)) (indexed h r i) (indexed_in P h run (top_of h).identity r i fit) (indexed_plain h r i)

pub indx_good : (P : Starts) (h : OperatorContext) (cells : List Word) → Run P h → cells_of h ≡ cells → Good P h (indx h cells)
indx_good P h [] run are = post_err (Keeps P h) _
indx_good P h (b ∷ []) run are = post_err (Keeps P h) _
indx_good P h (b ∷ a ∷ rest) run are =
    let fit : AllFit P h (b ∷ a ∷ rest) = subst (AllFit P h) are (own_fit P h run) in
    let above : CopiesAbove (b ∷ a ∷ rest) = subst CopiesAbove are (own_copies P h run) in
    let two = pair P h b a fit.0 fit.1.0 in
    post_bind _ (Keeps P h) _ _ (indexed_good P h (in_order b a).0 (in_order b a).1 run two.first)
    (λ at g. let plain = two.plain g.1.0 g.1.1 in
    cells_good P h (Element at.0 at.1 ∷ rest) None run (g.0.names, fit.1.1) (tt, above.1.1) (λ n. omega (arith, two_plain n b a rest plain.0 plain.1, ap (originals n) are)))

pub nxlv_good : (P : Starts) (h : OperatorContext) (cells : List Word) → Run P h → cells_of h ≡ cells → Good P h (nxlv h cells)
nxlv_good P h [] run are = post_err (Keeps P h) _
nxlv_good P h (b ∷ []) run are = post_err (Keeps P h) _
nxlv_good P h (b ∷ a ∷ rest) run are =
    let fit : AllFit P h (b ∷ a ∷ rest) = subst (AllFit P h) are (own_fit P h run) in
    let above : CopiesAbove (b ∷ a ∷ rest) = subst CopiesAbove are (own_copies P h run) in
    let two = pair P h b a fit.0 fit.1.0 in
    post_bind _ (Keeps P h) _ _ (indexed_good P h (in_order b a).0 (in_order b a).1 run two.first)
    (λ at g. let plain = two.plain g.1.0 g.1.1 in
    cells_good P h (Operand (element h.job at.0 at.1) ∷ rest) (Some at.0) run (element_low P h run at.0 at.1 g.0.names, fit.1.1) (tt, above.1.1) (λ n. omega (arith, two_plain n b a rest plain.0 plain.1, ap (originals n) are)))
