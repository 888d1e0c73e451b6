-- The laws: what a row keeps, and which array a step touches.
use Rattle.std.proofs.Common.{◌≡◌, ℕ, true, false, not, List, [], ◌∷◌, filter, Some, Ok, Err, refl, inl, inr, ◌==◌, arith}
use Rattle.std.specs.List.{list_any}
use Rattle.b67_word.specs.declared.couples.Place.{Place}
use Rattle.b67_lemmas.specs.Lists.{Has}
use Rattle.b67_lemmas.proofs.Members.{all_in}
use Rattle.b67_model.specs.Words as Words
use Rattle.b67_model.specs.Common.{Frame, Array, Task, JobConstants, Job, SessionJob, OperatorContext, Reading, Line, Goes, row, reading_of, step_by, step, Starts, IsSegment, Known, FramesInOrder, TasksInOrder}
use Rattle.b67_layout.specs.Orders.{JobInOrderButCounts}
use Rattle.b67_law.proofs.Posts.{Post, post_err, post_at}
use Rattle.b67_law.proofs.Kept.{here}
use Rattle.b67_layout_step.specs.Keeping.{RowsKeepArrays, StepsTouchArrays}
use Rattle.b67_layout_step.proofs.Words.{FramesName, Holds}
use Rattle.b67_layout_step.proofs.Rows.{Stands, stands_in, Keeps, Source, row_good}

none_gone : (new old : List Array) → ((a : Array) → Has old a → Stands new a.identity) → filter (λ (a : Array). not (list_any (λ (b : Array). b.identity == a.identity) new)) old ≡ []
none_gone new [] all = refl
none_gone new (a ∷ more) all = rw (all a (inl refl)) (none_gone new more (λ b k. all b (inr k)))

-- nothing is said of the arrays that are touched
abbrev Any : ℕ → Type 0
Any n = Unit {0}

any_source : (h : OperatorContext) → Source Any h.job.arrays (Unit {0}) h
any_source h = grind arith

pub keeps_arrays : RowsKeepArrays
keeps_arrays op h e after printed touched is =
    let kept = post_at (Keeps Any h.job.arrays (Unit {0})) (row op h) (Goes after printed touched) is (row_good Any h.job.arrays (Unit {0}) op h (any_source h) (λ k. e)) in
    none_gone after.arrays h.job.arrays (λ a k. kept.1 tt a.identity (stands_in h.job.arrays a k))

-- an array of the job
abbrev pub IsOf : Job → ℕ → Type 0
IsOf job n = (a : Array) × Has job.arrays a × (a.identity ≡ n)

frames_name : (P : Starts) (job : Job) (outer : List Known) (frames : List Frame) → FramesInOrder P job.arrays outer frames → FramesName (IsOf job) frames
frames_name P job outer [] g f k = absurd k
frames_name P job outer (x ∷ below) g f k = grind (arith, all_in, frames_name P job outer below g.2 f)

-- every word of a job in order names an array of it
pub order_holds : (P : Starts) (constants : JobConstants) (job : Job) (t : Task) (next : Place) → TasksInOrder P constants job → Has job.tasks t → Holds (IsOf job) (here constants job t next)
order_holds P constants job t next g k = grind (arith, frames_name, all_in)

by_reading : (P : Starts) (constants : JobConstants) (job : Job) (t : Task) → TasksInOrder P constants job → Has job.tasks t → (r : Reading) → Post (Keeps (IsOf job) job.arrays (true ≡ false)) (step_by constants job t r)
by_reading P constants job t g k (Err why) = post_err (Keeps (IsOf job) job.arrays (true ≡ false)) _
by_reading P constants job t g k (Ok read) = row_good (IsOf job) job.arrays (true ≡ false) read.0 (here constants job t read.1) (record { words = order_holds P constants job t read.1 g k; arrays = λ e n there. there }) (λ e. absurd cc)

-- the array that a step of a job in order touches
pub step_touches : (P : Starts) (constants : JobConstants) (job : Job) (t : Task) → TasksInOrder P constants job → Has job.tasks t → (after : Job) (printed : List Line) (touched : ℕ) → step constants job t ≡ Ok (Goes after printed (Some touched)) → IsOf job touched
unfolding step
step_touches P constants job t g k after printed touched is =
    (post_at (Keeps (IsOf job) job.arrays (true ≡ false)) (step_by constants job t (reading_of constants t)) (Goes after printed (Some touched)) is (by_reading P constants job t g k (reading_of constants t))).0

pub touches_arrays : StepsTouchArrays
touches_arrays s m t order here task after printed touched is =
    let g = all_in (λ (x : SessionJob). JobInOrderButCounts (IsSegment x.constants) x.constants x.progress) s.jobs m order.jobs here in
    step_touches (IsSegment m.constants) m.constants m.progress.job t g.tasks task after printed touched is
