-- What is present lies in areas that are apart, above the stacks and within core.
use Rattle.std.proofs.Common.{◌≡◌, ◌≢◌, ℕ, ◌+◌, ◌-◌, ◌*◌, Bool, length, map, flat_map, Some, refl, ◌∙◌, ap, arith}
use Rattle.std.specs.Prelude.{if◌then◌else◌}
use Rattle.std.proofs.lemmas.Bool.{ne_eqb}
use Rattle.b67_area.specs.declared.kinds.Info.{Info}
use Rattle.b67_area.specs.declared.kinds.Kind.TheVariants as kind
use Rattle.b67_area.specs.Spans.{area_at}
use Rattle.b67_lemmas.specs.Lists.{Has}
use Rattle.b67_lemmas.proofs.Members.{all_in, keyed_has}
use Rattle.b67_lemmas.proofs.Places.{get_within}
use Rattle.b67_model.specs.Common.{Array, Task, SessionJob, code_of, fixed, number_of, Session, ArrayInOrder}
use Rattle.b67_layout.specs.Common.{IsInOrderButCounts, Placement, code_objects, objects_of, array_object, IsRunning, RepresentsSession, area_held}
use Rattle.b67_stack.specs.declared.Cpu.{Cpu}
use Rattle.b67_stack.specs.Common.{PagedObject, Storage, info_of}
use Rattle.b67_layout.proofs.Fresh.{running_in_order}
use Rattle.b67_exec_cells.proofs.Replaced.{array_object-has, member_objects, before}
use Rattle.b67_exec_cells.specs.Running.{code_area}
use Rattle.b67_exec_cells.proofs.Codes.{code_object}
use Rattle.b67_task.specs.Needing.{array_area, need_with}
use Rattle.b67_task.proofs.Needs.{follow_all}
use Rattle.b67_mcp.specs.Spaces.{HasSpace, PresentFits}
use Rattle.b67_mcp.proofs.Areas.{one_fits, two_fit}

-- an array is no segment
not_code : (b : Bool) → kind.Code ≡ (if b then kind.Array else kind.Row) → ⊥
not_code b e = grind arith

module _ (x : Storage) (cpu : Cpu) (plan : Placement) (s : Session) (m : SessionJob) (t : Task) (o : IsInOrderButCounts s) (h : RepresentsSession x cpu plan s) (runs : IsRunning plan s.jobs m t) where
  has_m : Has s.jobs m
  has_m = (keyed_has number_of m.constants.number s.jobs m runs.member).0

  -- the need is what lies below the areas, the running segment's area and the array's
  low_is : x.low ≡ fixed s.jobs + s.peak * m.constants.stack_size
  low_is = grind (arith, follow_all, has_m)

  need_is : (words : ℕ) → need_with s m t 0 words ≡ x.low + (length (code_of m.constants t.segment) + 2) + array_area words
  need_is words = grind (arith, low_is)

  -- the area of an object that is present
  area_is : (z : PagedObject) (at : ℕ) → Has (flat_map (objects_of plan) s.jobs) z → (x.held z.home).area ≡ Some at → area_at x.low x.spans at ≡ Some (info_of x z)
  area_is z at there e =
      let f = h.holds.memory.owned.of_held z.home at e in
      f.3 ∙ ap (λ (y : PagedObject). Some (info_of x y)) (h.holds.memory.slots.laid.differ f.0 z f.1 there f.2)

  -- that of the running segment
  code_is : (at : ℕ) → code_area x plan m t ≡ Some at → (a : Info) × (area_at x.low x.spans at ≡ Some a) × (a.kind ≡ kind.Code) × (a.words ≡ length (code_of m.constants t.segment))
  code_is at e =
      let place = (running_in_order plan s m t o runs).1.place in
      let found = get_within m.constants.segments (t.segment - 1) (omega (arith, place.from_one, place.within)) in
      let home = plan.dictionary m.constants.number + 1 + t.segment in
      let object : PagedObject = record { home = home; kind = kind.Code; numbers = found.0.code } in
      let there = member_objects plan s.jobs m object has_m
      (before (code_objects plan m.constants.number 1 m.constants.segments) (map (array_object plan m.constants.number) m.progress.job.arrays) object
      (code_object plan m.constants.number 1 m.constants.segments (t.segment - 1) home found.0 found.1 (omega (arith, place.from_one)))) in
      (info_of x object, area_is object at there e, refl, rw (found.1) refl)

  -- its descriptor stands elsewhere than the original of an array
  pub code_elsewhere : (a : Array) → Has m.progress.job.arrays a → plan.dictionary m.constants.number + 1 + t.segment ≢ plan.home m.constants.number a.identity
  code_elsewhere a among same =
      let place = (running_in_order plan s m t o runs).1.place in
      let found = get_within m.constants.segments (t.segment - 1) (omega (arith, place.from_one, place.within)) in
      let home = plan.dictionary m.constants.number + 1 + t.segment in
      let object : PagedObject = record { home = home; kind = kind.Code; numbers = found.0.code } in
      let there = member_objects plan s.jobs m object has_m
      (before (code_objects plan m.constants.number 1 m.constants.segments) (map (array_object plan m.constants.number) m.progress.job.arrays) object
      (code_object plan m.constants.number 1 m.constants.segments (t.segment - 1) home found.0 found.1 (omega (arith, place.from_one)))) in
      let both : object ≡ array_object plan m.constants.number a = h.holds.memory.slots.laid.differ object (array_object plan m.constants.number a) there (array_object-has plan s.jobs m a has_m among) same in
      not_code a.writable (ap (λ (z : PagedObject). z.kind) both)

  -- that of an array of the job
  array_is : (a : Array) (at : ℕ) → Has m.progress.job.arrays a → area_held x plan m.constants.number a.identity ≡ Some at → area_at x.low x.spans at ≡ Some (info_of x (array_object plan m.constants.number a))
  array_is a at among e = area_is (array_object plan m.constants.number a) at (array_object-has plan s.jobs m a has_m among) e

  array_words : (a : Array) → Has m.progress.job.arrays a → array_area (length a.numbers) ≡ length a.numbers + 2
  array_words a among =
      let some = (all_in ArrayInOrder m.progress.job.arrays a (running_in_order plan s m t o runs).0.tasks.arrays among).length_low in
      rw (ne_eqb (length a.numbers) 0 (λ e. omega (arith, e, some))) refl

  apart : (a : Array) (at there : ℕ) (i : Info) → area_at x.low x.spans at ≡ Some i → i.kind ≡ kind.Code → area_at x.low x.spans there ≡ Some (info_of x (array_object plan m.constants.number a)) → at ≢ there
  apart a at there i e k f same = grind arith

  pub has_space : (at : ℕ) → code_area x plan m t ≡ Some at → HasSpace x plan s m t (length cpu.core)
  has_space at present =
      let d = h.holds.memory.directory in
      let (i, e, k, n) = code_is at present in
      record {
        code = omega (arith, need_is 0, one_fits x.low x.spans at i e, n, d.all);
        array = λ a there among q.
            let f = array_is a there among q in
            omega (
              arith,
              need_is (length a.numbers),
              array_words a among,
              two_fit x.low x.spans at there i (info_of x (array_object plan m.constants.number a)) (apart a at there i e k f) e f,
              n,
              d.all,
            );
      }

pub present_fit : PresentFits
present_fit cpu x plan s m t o h runs at present = has_space x cpu plan s m t o h runs at present
