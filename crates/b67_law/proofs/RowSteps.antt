-- The common parts of rows keep order.
use Rattle.std.proofs.Common.{◌≡◌, ℕ, zero, suc, ◌+◌, ◌^◌, ◌<◌, ◌≤◌, true, false, eqb, leb, List, [], ◌∷◌, ◌++◌, map, Option, Some, None, get_or, refl, sym, ap, ◌∙◌, inl, inr, arith}
use Rattle.std.specs.List.{AllByRecursion}
use Rattle.std.proofs.lemmas.Bool.Decides.{eqb_tells}
use Rattle.std.proofs.lemmas.Bool.{true≢false, leb-true, eqb-true}
use Rattle.b67_word.specs.declared.couples.Place.{Place}
use Rattle.b67_word.specs.declared.faults.Fault.TheVariants.{StackOverflow}
use Rattle.b67_model.specs.Common.{Answer, Word, Operand, Name, Ref, Row, Element, Original, Proc, Intrinsic, Frame, Standing, Marked, Entered, Return, Array, Task, Job, OperatorContext, frame, top, with_top_cells, height, with_task, level_of_standing, level_of_frame, running, array, element, End, AtCell, AtElement, AtArray, AtProc, AtIntrinsic, Line, Done, Goes, Leaves, Waits, top_of, cells_of, result, with_cells, leaves_cells, pushes, mkst, accident, back_to, evaluates, Starts, Known, known_of, IsEntered, NamesArray, WordInOrder, EnvironmentInOrder, CellsInOrder, CopiesAbove, NoCopyUnder, FramesInOrder, ConditionInOrder, ArrayInOrder, is_original_of, originals_in, TasksInOrder}
use Rattle.b67_lemmas.specs.Lists.{Has, how_many}
use Rattle.b67_lemmas.proofs.Members.{all_in}
use Rattle.b67_model.specs.Words as Words
use Rattle.b67_law.proofs.Looks.{Run, reach, own_order, see, level_low, known_cells, running_cells, some_cells}
use Rattle.b67_law.proofs.Changes.{outside, no_change, change_cells, change_push, changed, fresh_frame}
use Rattle.b67_law.specs.Ends.{EndInOrder, IsProcOf}
use Rattle.b67_law.proofs.Chases.{array_is}
use Rattle.b67_law.proofs.Posts.{Post, post_ok, post_err, post_needs}

-- what the law says of a step
abbrev pub Keeps : Starts → OperatorContext → Done → Type 0
Keeps P h (Goes after printed touched) = TasksInOrder P h.constants after
Keeps P h Leaves = Unit {0}
Keeps P h (Waits condition) = ConditionInOrder (reach h) condition

abbrev pub Good : Starts → OperatorContext → Answer Done → Type 0
Good P h answer = Post (Keeps P h) answer

-- what may stand in the running task's top frame
abbrev pub Fit : Starts → OperatorContext → Word → Type 0
Fit P h w = WordInOrder P h.job.arrays (reach h) (top_of h).identity w

abbrev pub AllFit : Starts → OperatorContext → List Word → Type 0
AllFit P h words = AllByRecursion (Fit P h) words

-- the originals among words
abbrev pub originals : ℕ → List Word → ℕ
originals n words = how_many (is_original_of n) words

abbrev pub SameOriginals : List Word → List Word → Type 0
SameOriginals words others = (n : ℕ) → originals n words ≡ originals n others

pub top_words : (P : Starts) (arrays : List Array) (outer : List Known) (fs : List Frame) → FramesInOrder P arrays outer fs → CellsInOrder P arrays (map known_of fs ++ outer) (top fs).identity (top fs).cells
top_words P arrays outer [] g = (tt, tt)
top_words P arrays outer (f ∷ below) g = g.0

pub own_fit : (P : Starts) (h : OperatorContext) → Run P h → AllFit P h (cells_of h)
own_fit P h run = (top_words P h.job.arrays (outside h) h.task.frames (own_order P h run).frames).0

pub own_copies : (P : Starts) (h : OperatorContext) → Run P h → CopiesAbove (cells_of h)
own_copies P h run = (top_words P h.job.arrays (outside h) h.task.frames (own_order P h run).frames).1

-- a word that is no original may stand on anything
pub plain_above : (w : Word) (below : List Word) → ((n : ℕ) → is_original_of n w ≡ false) → NoCopyUnder w below
plain_above (Original a) below plain = elim (eqb_tells a a) [ inl e ↦ absurd (true≢false (sym e.0 ∙ plain a)) | inr e ↦ absurd (e.1 refl) ]
plain_above (Operand bits) below plain = tt
plain_above (Name couple) below plain = tt
plain_above (Ref identity offset) below plain = tt
plain_above (Row array) below plain = tt
plain_above (Element array index) below plain = tt
plain_above (Proc segment level place) below plain = tt
plain_above (Intrinsic number) below plain = tt
plain_above (Words.Segment number) below plain = tt

pub originals_cells : (n : ℕ) (fs : List Frame) (cells : List Word) → originals n cells ≡ originals n (top fs).cells → originals_in n (with_top_cells fs cells) ≡ originals_in n fs
originals_cells n fs cells e = grind arith

-- the result of a row
pub result_good : (P : Starts) (h k : OperatorContext) (job : Job) (task : Task) (printed : List Line) (touched : Option ℕ) → (height task.frames ≤ k.constants.stack_size → TasksInOrder P h.constants (with_task job task)) →
    Good P h (result k job task printed touched)
result_good P h k job task printed touched good = grind arith

pub cells_good : (P : Starts) (h : OperatorContext) (cells : List Word) (touched : Option ℕ) → Run P h → AllFit P h cells → CopiesAbove cells → SameOriginals cells (cells_of h) → Good P h (leaves_cells h cells touched)
cells_good P h cells touched run fit above same = result_good P h h h.job (with_cells h cells) [] touched
    (λ low. changed P h (with_top_cells h.task.frames cells) h.job.next_frame h.task.segment h.task.place run (change_cells P h h.job.arrays h.task.frames h.job.next_frame cells (no_change P h run) (fit, above)) low
    (rw (running_cells h.task.frames cells) run.place)
    (λ n. originals_cells n h.task.frames cells (same n)))

pub push_good : (P : Starts) (h : OperatorContext) (w : Word) (touched : Option ℕ) → Run P h → Fit P h w → ((n : ℕ) → is_original_of n w ≡ false) → Good P h (pushes h w touched)
push_good P h w touched run fit plain = cells_good P h (w ∷ cells_of h) touched run (fit, own_fit P h run) (plain_above w (cells_of h) plain, own_copies P h run) (λ n. let t = plain n in rw t (omega arith))

-- the environment of a Proc's frame
pub environment_of_proc : (P : Starts) (h : OperatorContext) (run : Run P h) (under : List Known) (f segment level : ℕ) (place : Place) → IsProcOf P (reach h) f segment level place →
    ((s : Standing) → IsEntered s → Has (reach h) (f, s) → Has under (f, s)) → eqb (level_of_frame (frame h f) + 1) level ≡ true → EnvironmentInOrder under level f
environment_of_proc P h run under f segment level place is keep test =
    let s = is.names.standing in
    let seen = see P h run f s is.names.among in
    grind arith

-- an accidental entry, over these cells
pub accident_good : (P : Starts) (h : OperatorContext) (cells : List Word) (back : Return) (end : End) → Run P h → EndInOrder P h end → AllFit P h cells → CopiesAbove cells → SameOriginals cells (cells_of h) →
    P back.segment (level_of_frame (running h.task.frames)) back.place → Good P h (accident h cells back end)
accident_good P h cells back (AtProc f segment level place) run is fit above same starts =
    let over = change_cells P h h.job.arrays h.task.frames h.job.next_frame cells (no_change P h run) (fit, above) in
    let fs = with_top_cells h.task.frames cells in
    post_needs (Keeps P h) (eqb (level_of_frame (frame h f) + 1) level) _ _
    (λ t. result_good P h h (record h.job { next_frame = h.job.next_frame + 1 }) _ [] None
    (λ low.
    let environment : EnvironmentInOrder (map known_of fs ++ outside h) level f =
    environment_of_proc P h run (map known_of fs ++ outside h) f segment level place is (λ s e k. rw (known_cells h.task.frames cells) k) t in
    changed P h (fresh_frame h (Entered level f (Some back)) ∷ fs) (h.job.next_frame + 1) segment place run
    (change_push P h h.job.arrays fs (Entered level f (Some back)) run over environment (some_cells h.task.frames cells (own_order P h run).some, rw (running_cells h.task.frames cells) starts))
    low is.starts (λ n. omega (arith, originals_cells n h.task.frames cells (same n)))))
accident_good P h cells back (AtCell f offset bits) run is fit above same starts = post_err (Keeps P h) _
accident_good P h cells back (AtElement a index) run is fit above same starts = post_err (Keeps P h) _
accident_good P h cells back (AtArray a) run is fit above same starts = post_err (Keeps P h) _
accident_good P h cells back (AtIntrinsic n) run is fit above same starts = post_err (Keeps P h) _

-- the numbers of an array in order
pub number_low : (xs : List ℕ) (i : ℕ) → AllByRecursion (λ (n : ℕ). n < 2 ^ 48) xs → get_or xs i 0 < 2 ^ 48
number_low [] i all = omega arith
number_low (x ∷ xs) zero all = all.0
number_low (x ∷ xs) (suc i) all = number_low xs i all.1

pub element_low : (P : Starts) (h : OperatorContext) → Run P h → (a index : ℕ) → NamesArray h.job.arrays (reach h) a → element h.job a index < 2 ^ 48
element_low P h run a index names =
    let low : get_or names.item.numbers index 0 < 2 ^ 48 = number_low names.item.numbers index (all_in ArrayInOrder h.job.arrays names.item run.order.arrays names.live).words in
    rw (array_is P h run a names) low

pub evaluates_good : (P : Starts) (h : OperatorContext) (end : End) → Run P h → EndInOrder P h end → Good P h (evaluates h end)
evaluates_good P h (AtCell f offset bits) run is = push_good P h (Operand bits) None run is.bound (λ n. refl)
evaluates_good P h (AtElement a index) run is = push_good P h (Operand (element h.job a index)) (Some a) run (element_low P h run a index is.names) (λ n. refl)
evaluates_good P h (AtProc f segment level place) run is = accident_good P h (cells_of h) (back_to h true h.task.place) (AtProc f segment level place) run is (own_fit P h run) (own_copies P h run) (λ n. refl) run.place
evaluates_good P h (AtArray a) run is = post_err (Keeps P h) _
evaluates_good P h (AtIntrinsic n) run is = post_err (Keeps P h) _

pub mkst_good : (P : Starts) (h : OperatorContext) → Run P h → Good P h (mkst h)
mkst_good P h run = result_good P h h (record h.job { next_frame = h.job.next_frame + 1 }) _ [] None
    (λ low. changed P h (fresh_frame h Marked ∷ h.task.frames) (h.job.next_frame + 1) h.task.segment h.task.place run
    (change_push P h h.job.arrays h.task.frames Marked run (no_change P h run) tt (own_order P h run).some) low run.place (λ n. omega arith))
