-- The session whose view has other numbers in an object: what a device that tells nothing may have given back.
use Rattle.std.proofs.Common.{◌≡◌, ℕ, ◌+◌, ◌<◌, ◌^◌, ◌==◌, List, [], ◌∷◌, length, map, Option, Some, None, refl, sym, ◌∙◌, ap, true, false, subst, inl, inr, ⊎_elim, unwrap_or, arith}
use Rattle.std.specs.Prelude.{if◌then◌else◌, flat_map, option_map}
use Rattle.std.proofs.lemmas.Bool.{cases_Bool, eqb-true}
use Rattle.std.proofs.lemmas.List.{map-append}
use Rattle.std.specs.List.{AllByRecursion}
use Rattle.b67_lemmas.specs.Lists.{Has}
use Rattle.b67_lemmas.proofs.Members.{has_append_left, has_append_right, keyed_has}
use Rattle.b67_model.specs.Common.{Session, IsSegment, SegmentInOrder, ArrayInOrder, Word, Frame, Array, Task, Segment, JobConstants, Job, SessionJob, array, no_array, number_of}
use Rattle.b67_layout.specs.Common.{JobInOrderButCounts, IsInOrderButCounts, Slotted, Placement, spot_in, shape, head, activations, slot_with, slot_in, slot_by, array_object, code_objects, objects_of, machine_view}
use Rattle.b67_law.specs.Weaker.{Renumbers, Recoded, RefilledArray, Refilled, AllOtherNumbers}
use Rattle.b67_layout_step.proofs.OtherNumbers.{others_in_order}
use Rattle.b67_model.specs.Words as Words
use Rattle.b67_model.specs.Keyed.{keyed}
use Rattle.b67_stack.specs.Common.{Shape, StackPlace, Activation, PagedObject, MachineView, NoOriginalAboveTop, renumber, renumbered}
use Rattle.b67_area.specs.declared.kinds.Kind.TheVariants as kind

-- the segments of a dictionary, from number n on, with other code in that of a home
abbrev pub recoded : Placement → ℕ → ℕ → List ℕ → ℕ → List Segment → List Segment
recoded plan j home ns n [] = []
recoded plan j home ns n (s ∷ more) =
    (if plan.dictionary j + 1 + n == home then record s { code = ns } else s) ∷ recoded plan j home ns (n + 1) more

abbrev pub refilled : Placement → ℕ → ℕ → List ℕ → Array → Array
refilled plan j home ns a = if plan.home j a.identity == home then record a { numbers = ns } else a

abbrev pub setting_with : Placement → ℕ → List ℕ → JobConstants → JobConstants
setting_with plan home ns s = record s { segments = recoded plan s.number home ns 1 s.segments }

abbrev pub job_refilled : Placement → ℕ → ℕ → List ℕ → Job → Job
job_refilled plan j home ns job = record job { arrays = map (refilled plan j home ns) job.arrays }

abbrev pub member_with : Placement → ℕ → List ℕ → SessionJob → SessionJob
member_with plan home ns m = record {
  constants = setting_with plan home ns m.constants;
  progress = record m.progress { job = job_refilled plan m.constants.number home ns m.progress.job };
}

code_renumbered : (plan : Placement) (j home : ℕ) (ns : List ℕ) (n : ℕ) (segments : List Segment)
    → map (renumber home ns) (code_objects plan j n segments) ≡ code_objects plan j n (recoded plan j home ns n segments)
code_renumbered plan j home ns n [] = refl
code_renumbered plan j home ns n (s ∷ more) = grind (arith, code_renumbered plan j home ns (n + 1) more)

arrays_renumbered : (plan : Placement) (j home : ℕ) (ns : List ℕ) (arrays : List Array)
    → map (renumber home ns) (map (array_object plan j) arrays) ≡ map (array_object plan j) (map (refilled plan j home ns) arrays)
arrays_renumbered plan j home ns [] = refl
arrays_renumbered plan j home ns (a ∷ more) = grind (arith, arrays_renumbered plan j home ns more)

objects_renumbered : (plan : Placement) (home : ℕ) (ns : List ℕ) (m : SessionJob) → map (renumber home ns) (objects_of plan m) ≡ objects_of plan (member_with plan home ns m)
objects_renumbered plan home ns m = grind (arith, map-append, code_renumbered, arrays_renumbered)

all_renumbered : (plan : Placement) (home : ℕ) (ns : List ℕ) (jobs : List SessionJob)
    → map (renumber home ns) (flat_map (objects_of plan) jobs) ≡ flat_map (objects_of plan) (map (member_with plan home ns) jobs)
all_renumbered plan home ns [] = refl
all_renumbered plan home ns (m ∷ more) = grind (arith, map-append, objects_renumbered, all_renumbered plan home ns more)

-- the object of a home has as many numbers as before
abbrev pub Fitting : ℕ → List ℕ → List PagedObject → Type 0
Fitting home ns objects = (t : PagedObject) → Has objects t → t.home ≡ home → length ns ≡ length t.numbers

record SameShape (a b : Array) : Type 0 where
  pub writable : b.writable ≡ a.writable
  pub count : length b.numbers ≡ length a.numbers

module _ (plan : Placement) (j home : ℕ) (ns : List ℕ) where
  refilled_shape : (a : Array) → (plan.home j a.identity ≡ home → length ns ≡ length a.numbers) → SameShape a (refilled plan j home ns a)
  refilled_shape a fits = grind arith

  refilled_identity : (a : Array) → (refilled plan j home ns a).identity ≡ a.identity
  refilled_identity a = grind arith

  look : (i : ℕ) (arrays : List Array) → Fitting home ns (map (array_object plan j) arrays)
      → SameShape (unwrap_or (keyed (λ (a : Array). a.identity) i arrays) no_array) (unwrap_or (keyed (λ (a : Array). a.identity) i (map (refilled plan j home ns) arrays)) no_array)
  look i [] fits = record { writable = refl; count = refl }
  look i (a ∷ more) fits =
      let here = refilled_shape a (λ e. fits (array_object plan j a) (inl refl) e) in
      let same : ((refilled plan j home ns a).identity == i) ≡ (a.identity == i) = ap (λ (n : ℕ). n == i) (refilled_identity a) in
      ⊎_elim
      (λ (e : (a.identity == i) ≡ true). let u : ((refilled plan j home ns a).identity == i) ≡ true = same ∙ e in rw (e, u) here)
      (λ (e : (a.identity == i) ≡ false). let u : ((refilled plan j home ns a).identity == i) ≡ false = same ∙ e in rw (e, u) (look i more (λ t int. fits t (inr int))))
      (cases_Bool (a.identity == i))

  module _ (job : Job) (fits : Fitting home ns (map (array_object plan j) job.arrays)) where
    array_same : (i : ℕ) → SameShape (array job i) (array (job_refilled plan j home ns job) i)
    array_same i = look i job.arrays fits

    shape_same : (spot : ℕ → StackPlace) (w : Word) → shape plan j (job_refilled plan j home ns job) spot w ≡ shape plan j job spot w
    shape_same spot w = grind (arith, array_same)

    shapes_same : (spot : ℕ → StackPlace) (ws : List Word) → map (shape plan j (job_refilled plan j home ns job) spot) ws ≡ map (shape plan j job spot) ws
    shapes_same spot [] = refl
    shapes_same spot (w ∷ ws) = ap (λ (s : Shape). s ∷ map (shape plan j (job_refilled plan j home ns job) spot) ws) (shape_same spot w) ∙ ap (λ (ss : List Shape). shape plan j job spot w ∷ ss) (shapes_same spot ws)

    activations_same : (k : ℕ) (outer : ℕ → StackPlace) (fs : List Frame) → activations plan j (job_refilled plan j home ns job) k outer fs ≡ activations plan j job k outer fs
    activations_same k outer [] = refl
    activations_same k outer (f ∷ below) =
        let A : List Shape → List Activation → List Activation = λ cells rest. record { head = head (spot_in k outer below) f.standing; cells = cells } ∷ rest in
        ap (λ (cells : List Shape). A cells (activations plan j (job_refilled plan j home ns job) k outer below)) (shapes_same (spot_in k outer (f ∷ below)) f.cells)
        ∙ ap (A (map (shape plan j job (spot_in k outer (f ∷ below))) f.cells)) (activations_same k outer below)

    slot_with_same : (k : ℕ) (o : Option Task) → slot_with plan k j (job_refilled plan j home ns job) o ≡ slot_with plan k j job o
    slot_with_same k o = grind (arith, activations_same)

keyed_with : (plan : Placement) (home : ℕ) (ns : List ℕ) (j : ℕ) (jobs : List SessionJob)
    → keyed number_of j (map (member_with plan home ns) jobs) ≡ option_map (member_with plan home ns) (keyed number_of j jobs)
keyed_with plan home ns j [] = refl
keyed_with plan home ns j (m ∷ more) = grind (arith, keyed_with plan home ns j more)

-- the arrays of a job are among the objects
array_among : (plan : Placement) (jobs : List SessionJob) (m : SessionJob) → Has jobs m → (t : PagedObject) → Has (map (array_object plan m.constants.number) m.progress.job.arrays) t → Has (flat_map (objects_of plan) jobs) t
array_among plan [] m k t int = absurd k
array_among plan (y ∷ ys) m (inl e) t int = grind (arith, has_append_left, has_append_right)
array_among plan (y ∷ ys) m (inr k) t int = has_append_right (objects_of plan y) (flat_map (objects_of plan) ys) t (array_among plan ys m k t int)

module _ (plan : Placement) (home : ℕ) (ns : List ℕ) (jobs : List SessionJob) (fits : Fitting home ns (flat_map (objects_of plan) jobs)) where
  slot_in_same : (k j task : ℕ) (o : Option SessionJob) → keyed number_of j jobs ≡ o → slot_in plan k j task (option_map (member_with plan home ns) o) ≡ slot_in plan k j task o
  slot_in_same k j task None e = refl
  slot_in_same k j task (Some m) e =
      let number : m.constants.number ≡ j = (keyed_has number_of j jobs m e).1 in
      let among : Has jobs m = (keyed_has number_of j jobs m e).0 in
      let own : Fitting home ns (map (array_object plan m.constants.number) m.progress.job.arrays) = λ t int. fits t (array_among plan jobs m among t int) in
      let o = keyed (λ (t : Task). t.number) task m.progress.job.tasks in
      let P : ℕ → Type 0 = λ i. slot_with plan k i (job_refilled plan m.constants.number home ns m.progress.job) o ≡ slot_with plan k i m.progress.job o in
      subst P number (slot_with_same plan m.constants.number home ns m.progress.job own k o)

  slot_by_same : (k : ℕ) (o : Option Slotted) → slot_by plan (map (member_with plan home ns) jobs) k o ≡ slot_by plan jobs k o
  slot_by_same k None = refl
  slot_by_same k (Some r) = ap (slot_in plan k r.job r.task) (keyed_with plan home ns r.job jobs) ∙ slot_in_same k r.job r.task (keyed number_of r.job jobs) refl

  -- the view of the session with other numbers
  pub machine_view_renumbered : renumbered (machine_view plan jobs) home ns ≡ machine_view plan (map (member_with plan home ns) jobs)
  machine_view_renumbered = grind (arith, slot_by_same, all_renumbered)

module _ (plan : Placement) (home : ℕ) (ns : List ℕ) (bits : AllByRecursion (λ (n : ℕ). n < 2 ^ 48) ns) where
  recoded_other : (j n : ℕ) (segments : List Segment) → AllByRecursion SegmentInOrder segments → Fitting home ns (code_objects plan j n segments) → Recoded segments (recoded plan j home ns n segments)
  recoded_other j n [] order fits = tt
  recoded_other j n (s ∷ more) order fits =
      let object : PagedObject = record { home = plan.dictionary j + 1 + n; kind = kind.Code; numbers = s.code } in
      let here : Renumbers s.code (if plan.dictionary j + 1 + n == home then record s { code = ns } else s).code = ⊎_elim
      (λ (e : (plan.dictionary j + 1 + n == home) ≡ true). rw e (record { count = fits object (inl refl) (eqb-true (plan.dictionary j + 1 + n) home e); bits = bits }))
      (λ (e : (plan.dictionary j + 1 + n == home) ≡ false). rw e (record { count = refl; bits = order.0.words }))
      (cases_Bool (plan.dictionary j + 1 + n == home)) in
      (here, recoded_other j (n + 1) more order.1 (λ t int. fits t (inr int)))

  refilled_other : (j : ℕ) (arrays : List Array) → AllByRecursion ArrayInOrder arrays → Fitting home ns (map (array_object plan j) arrays) → Refilled arrays (map (refilled plan j home ns) arrays)
  refilled_other j [] order fits = tt
  refilled_other j (a ∷ more) order fits =
      let here : RefilledArray a (refilled plan j home ns a) = ⊎_elim
      (λ (e : (plan.home j a.identity == home) ≡ true). rw e (record { identity = refl; owner = refl; writable = refl; numbers = record { count = fits (array_object plan j a) (inl refl) (eqb-true (plan.home j a.identity) home e); bits = bits } }))
      (λ (e : (plan.home j a.identity == home) ≡ false). rw e (record { identity = refl; owner = refl; writable = refl; numbers = record { count = refl; bits = order.0.words } }))
      (cases_Bool (plan.home j a.identity == home)) in
      (here, refilled_other j more order.1 (λ t int. fits t (inr int)))

  pub others_from : (jobs : List SessionJob) → AllByRecursion (λ (m : SessionJob). JobInOrderButCounts (IsSegment m.constants) m.constants m.progress) jobs → Fitting home ns (flat_map (objects_of plan) jobs)
      → AllOtherNumbers jobs (map (member_with plan home ns) jobs)
  others_from [] order fits = tt
  others_from (m ∷ more) order fits = grind (arith, has_append_left, recoded_other, refilled_other, has_append_right, others_from more order.1)

renumbered_home : (home : ℕ) (ns : List ℕ) (t : PagedObject) → (renumber home ns t).home ≡ t.home
renumbered_home home ns t = ⊎_elim (λ (e : (t.home == home) ≡ true). rw e refl) (λ (e : (t.home == home) ≡ false). rw e refl) (cases_Bool (t.home == home))

renumbered_from : (home : ℕ) (ns : List ℕ) (ts : List PagedObject) (t : PagedObject) → Has (map (renumber home ns) ts) t → (u : PagedObject) × Has ts u × (t.home ≡ u.home)
renumbered_from home ns [] t k = absurd k
renumbered_from home ns (u ∷ us) t (inl e) = (u, inl refl, ap (λ (x : PagedObject). x.home) (sym e) ∙ renumbered_home home ns u)
renumbered_from home ns (u ∷ us) t (inr k) = let (v, inv, e) = renumbered_from home ns us t k in (v, inr inv, e)

pub settled_renumbered : (p : MachineView) (home : ℕ) (ns : List ℕ) → NoOriginalAboveTop p → NoOriginalAboveTop (renumbered p home ns)
settled_renumbered p home ns s t int k used low up = grind (arith, renumbered_from)

-- the session that the machine then represents
abbrev pub session_renumbered : Placement → ℕ → List ℕ → Session → Session
session_renumbered plan home ns s = record s { jobs = map (member_with plan home ns) s.jobs }

pub order_renumbered : (plan : Placement) (home : ℕ) (ns : List ℕ) (s : Session) → AllByRecursion (λ (n : ℕ). n < 2 ^ 48) ns → Fitting home ns (flat_map (objects_of plan) s.jobs)
    → IsInOrderButCounts s → IsInOrderButCounts (session_renumbered plan home ns s)
order_renumbered plan home ns s bits fits order = others_in_order s (map (member_with plan home ns) s.jobs) (others_from plan home ns bits s.jobs order.jobs fits) order
