-- A row that left a frame: the task's top frame was entered, and the job has all arrays but that frame's.
use Rattle.std.proofs.Common.{◌≡◌, ◌≢◌, ℕ, List, [], ◌∷◌, Bool, true, false, Option, None, Ok, arith}
use Rattle.b67_word.specs.declared.couples.Place.{Place}
use Rattle.b67_model.specs.Common.{Answer, Word, Operand, Name, Ref, Row, Element, Original, Proc, Intrinsic, Array, Frame, Standing, Marked, Entered, Return, Task, Job, SessionJob, OperatorContext, top, End, follow, Line, Done, Goes, Leaves, Waits, top_of, leaves_cells, without_arrays_of, evaluates, leaves, exit, returnable, returned, retn_word, retn}
use Rattle.b67_model.specs.Words as Words
use Rattle.b67_law.proofs.Posts.{Post, post_ok, post_err, post_any, post_then}
use Rattle.b67_layout.specs.Meets.{here}
use Rattle.b67_layout.proofs.Objects.{others}

pub record IsEntered (standing : Standing) : Type 0 where
  pub level : ℕ
  pub environment : ℕ
  pub back : Option Return
  pub is : standing ≡ Entered level environment back

-- a frame that stands so was left, and these arrays stay
abbrev pub Leaving : Standing → List Array → Done → Type 0
Leaving standing arrays (Goes after printed touched) = IsEntered standing × (after.arrays ≡ arrays)
Leaving standing arrays Leaves = Unit {0}
Leaving standing arrays (Waits condition) = Unit {0}

module _ (standing : Standing) (arrays : List Array) (entered : IsEntered standing) where
  abbrev L : Done → Type 0
  L = Leaving standing arrays

  cells_left : (h : OperatorContext) (cells : List Word) (touched : Option ℕ) → h.job.arrays ≡ arrays → Post L (leaves_cells h cells touched)
  cells_left h cells touched e = post_then L _ _ (post_ok L _ (entered, e))

  evaluates_left : (h : OperatorContext) (end : End) → h.job.arrays ≡ arrays → Post L (evaluates h end)
  evaluates_left h end e = grind arith

  returned_left : (h : OperatorContext) (w : Word) (value : Bool) → h.job.arrays ≡ arrays → Post L (returned h w value)
  returned_left h w false e = cells_left h _ None e
  returned_left h (Operand bits) true e = cells_left h _ None e
  returned_left h (Name couple) true e = post_any L (follow h (Name couple)) _ (λ end. evaluates_left h end e)
  returned_left h (Ref f offset) true e = post_any L (follow h (Ref f offset)) _ (λ end. evaluates_left h end e)
  returned_left h (Row a) true e = post_any L (follow h (Row a)) _ (λ end. evaluates_left h end e)
  returned_left h (Element a index) true e = post_any L (follow h (Element a index)) _ (λ end. evaluates_left h end e)
  returned_left h (Original a) true e = post_any L (follow h (Original a)) _ (λ end. evaluates_left h end e)
  returned_left h (Proc segment level place) true e = post_any L (follow h (Proc segment level place)) _ (λ end. evaluates_left h end e)
  returned_left h (Intrinsic n) true e = post_any L (follow h (Intrinsic n)) _ (λ end. evaluates_left h end e)
  returned_left h (Words.Segment n) true e = post_any L (follow h (Words.Segment n)) _ (λ end. evaluates_left h end e)

-- what is left without the top frame
leaves_left : (h : OperatorContext) (standing : Standing) (go : OperatorContext → Bool → Answer Done)
    → ((k : OperatorContext) (value : Bool) → IsEntered standing → k.job.arrays ≡ (without_arrays_of (top_of h).identity h.job).arrays → Post (Leaving standing (without_arrays_of (top_of h).identity h.job).arrays) (go k value))
    → Post (Leaving standing (without_arrays_of (top_of h).identity h.job).arrays) (leaves h standing go)
leaves_left h standing go each = grind arith

exit_left : (h : OperatorContext) → Post (Leaving (top_of h).standing (without_arrays_of (top_of h).identity h.job).arrays) (exit h)
exit_left h = leaves_left h (top_of h).standing _ (λ k value entered e. post_then _ _ _ (post_ok _ _ (entered, e)))

retn_word_left : (h : OperatorContext) (standing : Standing) (cells : List Word) → Post (Leaving standing (without_arrays_of (top_of h).identity h.job).arrays) (retn_word h standing cells)
retn_word_left h Marked cells = post_err _ _
retn_word_left h (Entered level environment back) [] = post_err _ _
retn_word_left h (Entered level environment back) (w ∷ cells) =
    let arrays = (without_arrays_of (top_of h).identity h.job).arrays in
    post_any _ (returnable h.job (top_of h).identity w) _
    (λ v. leaves_left h (Entered level environment back) (λ after value. returned after v value) (λ k value entered e. returned_left (Entered level environment back) arrays entered k v value e))

-- the frame that a row left, and the arrays afterwards
pub record LeftFrame (t : Task) (old job : Job) : Type 0 where
  pub f : Frame
  pub below : List Frame
  pub frames : t.frames ≡ f ∷ below
  pub entered : IsEntered f.standing
  pub arrays : job.arrays ≡ others f.identity old.arrays

left_frame : (old job : Job) (t : Task) (fs : List Frame) (printed : List Line) (touched : Option ℕ) → t.frames ≡ fs → fs ≢ []
    → Leaving (top t.frames).standing (without_arrays_of (top t.frames).identity old).arrays (Goes job printed touched) → LeftFrame t old job
left_frame old job t fs printed touched e some l = grind arith

pub exit_frame : (m : SessionJob) (t : Task) (q : Place) → t.frames ≢ [] → (job : Job) (printed : List Line) (touched : Option ℕ) → exit (here m t q) ≡ Ok (Goes job printed touched) → LeftFrame t m.progress.job job
exit_frame m t q some job printed touched is = grind arith

pub retn_frame : (m : SessionJob) (t : Task) (q : Place) → t.frames ≢ [] → (job : Job) (printed : List Line) (touched : Option ℕ) → retn (here m t q) ≡ Ok (Goes job printed touched) → LeftFrame t m.progress.job job
retn_frame m t q some job printed touched is = grind (arith, retn_word_left)
