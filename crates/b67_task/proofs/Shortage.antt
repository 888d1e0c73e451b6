-- A present array that keeps no chain is one of a job of the session.
use Rattle.std.proofs.Common.{◌≡◌, ℕ, ◌+◌, List, [], ◌∷◌, map, flat_map, refl, sym, ◌∙◌, ap, inl, inr, ◌⊎◌, arith}
use Rattle.b67_area.specs.declared.kinds.Kind.TheVariants as kind
use Rattle.b67_lemmas.specs.Lists.{Has}
use Rattle.b67_lemmas.proofs.Members.{has_append_cases, has_map_back}
use Rattle.b67_model.specs.State.{Array, Segment, SessionJob}
use Rattle.b67_stack.specs.MachineView.{PagedObject}
use Rattle.b67_stack.specs.Represents.{Storage}
use Rattle.b67_overlay.specs.AreasEvicted.{IsShortBy}
use Rattle.b67_layout.specs.Common.{Placement, array_object, code_objects, objects_of, machine_view}
use Rattle.b67_task.specs.Shortage.{IsShortOf}

-- an array of a job
pub record Owner (plan : Placement) (jobs : List SessionJob) (t : PagedObject) : Type 0 where
  pub member : SessionJob
  pub in_session : Has jobs member
  pub array : Array
  pub among : Has member.progress.job.arrays array
  pub is : array_object plan member.constants.number array ≡ t

code_kind : (plan : Placement) (j n : ℕ) (segments : List Segment) (t : PagedObject) → Has (code_objects plan j n segments) t → t.kind ≡ kind.Code
code_kind plan j n [] t h = absurd h
code_kind plan j n (s ∷ more) t (inl e) = ap (λ (u : PagedObject). u.kind) (sym e)
code_kind plan j n (s ∷ more) t (inr h) = code_kind plan j (n + 1) more t h

owner : (plan : Placement) (jobs : List SessionJob) (t : PagedObject) → t.kind ≡ kind.Array → Has (flat_map (objects_of plan) jobs) t → Owner plan jobs t
owner plan [] t k h = absurd h
owner plan (m ∷ more) t k h = either (has_append_cases (objects_of plan m) (flat_map (objects_of plan) more) t h) (owner plan more t k) where
  of : Has (code_objects plan m.constants.number 1 m.constants.segments) t ⊎ Has (map (array_object plan m.constants.number) m.progress.job.arrays) t → Owner plan (m ∷ more) t
  of (inl code) = let e : kind.Array ≡ kind.Code = sym k ∙ code_kind plan m.constants.number 1 m.constants.segments t code in absurd (let b : ⊥ = cc in b)
  of (inr filled) =
      let r = has_map_back (array_object plan m.constants.number) m.progress.job.arrays t filled in
      record { member = m; in_session = inl refl; array = r.item; among = r.among; is = r.is }

  either : Has (objects_of plan m) t ⊎ Has (flat_map (objects_of plan) more) t → (Has (flat_map (objects_of plan) more) t → Owner plan more t) → Owner plan (m ∷ more) t
  either (inl own) behind = of (has_append_cases (code_objects plan m.constants.number 1 m.constants.segments) (map (array_object plan m.constants.number) m.progress.job.arrays) t own)
  either (inr rest) behind = let r = behind rest in record { member = r.member; in_session = inr r.in_session; array = r.array; among = r.among; is = r.is }

pub short_of : (y : Storage) (plan : Placement) (jobs : List SessionJob) (wants free : ℕ) → IsShortBy y (machine_view plan jobs) wants free → IsShortOf y plan jobs wants free
short_of y plan jobs wants free w = grind (arith, owner)
