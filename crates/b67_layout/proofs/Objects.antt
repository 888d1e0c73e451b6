-- Where a job has fewer arrays, the objects of those that it has no more and all others are the objects of before.
use Rattle.std.proofs.Common.{◌≡◌, ℕ, List, ◌++◌, map, flat_map, Some, sym, ◌∙◌, not, inl, inr, subst, arith}
use Rattle.std.specs.Prelude.{filter, ◌==◌}
use Rattle.std.specs.List.{list_any}
use Rattle.std.proofs.lemmas.Bool.{cases_Bool, true≢false, not_from_false}
use Rattle.std.proofs.lemmas.Bool.Decides.{eqb_tells}
use Rattle.b67_word.specs.Tagged.{Tagged}
use Rattle.b67_ctl.specs.declared.registers.Regs.{Regs}
use Rattle.b67_lemmas.specs.Lists.{Has, Falls}
use Rattle.b67_lemmas.proofs.Members.{any_has, falls_same, has_append_cases, has_append_left, has_append_right, has_filter, has_filter_in, has_flat, has_flat_back, has_map, has_map_back, keyed_has}
use Rattle.b67_model.specs.Common.{Array, Job, JobProgress, SessionJob, number_of}
use Rattle.b67_model.specs.Keyed.{keyed}
use Rattle.b67_stack.specs.Common.{PagedObject, MachineView, Slot, Free, Running, Waiting, SlotFits, Storage, RepresentsSlot, Represents}
use Rattle.b67_layout.specs.Common.{Placement, objects_of, array_object, code_objects, gone, objects_gone}
use Rattle.b67_layout.proofs.MachineViews.{with_course, member-same}
use Rattle.b67_layout.proofs.Sessions.{change-has, change-kept}

-- the same objects, in another order or number
pub record SameObjects (old new : List PagedObject) : Type 0 where
  pub there : (t : PagedObject) → Has old t → Has new t
  pub back : (t : PagedObject) → Has new t → Has old t

-- the view with these objects
abbrev pub of_objects : MachineView → List PagedObject → MachineView
of_objects p objects = record { stacks = p.stacks; size = p.size; peak = p.peak; slots = p.slots; objects = objects }

-- a machine represents a view whatever the order of its objects
module _ (x : Storage) (core : List Tagged) (r : Regs) (p : MachineView) (new : List PagedObject) (same : SameObjects p.objects new) where
  fits : (k : ℕ) (s : Slot) → SlotFits p k s → SlotFits (of_objects p new) k s
  fits k s f = grind arith

  stands : (k : ℕ) (s : Slot) → RepresentsSlot core r p k s → RepresentsSlot core r (of_objects p new) k s
  stands k s f = grind arith

  pub Represents-objects : Represents x core r p → Represents x core r (of_objects p new)
  Represents-objects s = record {
    slots = record {
      laid = record {
        low = s.slots.laid.low;
        first = s.slots.laid.first;
        room = s.slots.laid.room;
        slots = λ k h. fits k (p.slots k) (s.slots.laid.slots k h);
        homes = λ t i. s.slots.laid.homes t (same.back t i);
        codes = λ t i. s.slots.laid.codes t (same.back t i);
        differ = λ t u i j. s.slots.laid.differ t u (same.back t i) (same.back u j);
        not_base = λ t i. s.slots.laid.not_base t (same.back t i);
        lengths = λ t i. s.slots.laid.lengths t (same.back t i);
      };
      regs = record { stacks = s.slots.regs.stacks; size = s.slots.regs.size; peak = s.slots.regs.peak };
      slots = λ k h. stands k (p.slots k) (s.slots.slots k h);
    };
    stacks = s.stacks;
    objects = λ t i. s.objects t (same.back t i);
    owned = record {
      of_area = λ at a e. let (t, i, h, q) = s.owned.of_area at a e in (t, same.there t i, h, q);
      of_held = λ home at e. let (t, i, h, q) = s.owned.of_held home at e in (t, same.there t i, h, q);
      of_chain = λ first e. let (t, i, h) = s.owned.of_chain first e in (t, same.there t i, h);
      no_zero = s.owned.no_zero;
      one_chain = λ t u i j. s.owned.one_chain t u (same.back t i) (same.back u j);
    };
    directory = s.directory;
    inside = s.inside;
  }

-- the arrays that a frame doesn't own
abbrev pub others : ℕ → List Array → List Array
others owner arrays = filter (λ (a : Array). not (a.owner == owner)) arrays

-- an array is among the others or gone
other_or_gone : (owner bound : ℕ) (old new : Job) → Falls bound (map (λ (a : Array). a.identity) old.arrays) → new.arrays ≡ others owner old.arrays → (a : Array) → Has old.arrays a → Has (gone old new ++ new.arrays) a
other_or_gone owner bound old new falls is a h = grind (arith, any_has, has_filter, falls_same, has_append_right, has_append_left, has_filter_in)

module _ (plan : Placement) (jobs : List SessionJob) (m : SessionJob) (c : JobProgress) (owner bound : ℕ) (found : keyed number_of m.constants.number jobs ≡ Some m)
    (falls : Falls bound (map (λ (a : Array). a.identity) m.progress.job.arrays)) (is : c.job.arrays ≡ others owner m.progress.job.arrays) where
  in_left : (t : PagedObject) → Has (objects_gone plan m c.job) t → Has (objects_of plan m) t
  in_left t h =
      let r = has_map_back (array_object plan m.constants.number) (gone m.progress.job c.job) t h in
      let old = (has_filter (λ (b : Array). not (list_any (λ (c : Array). c.identity == b.identity) c.job.arrays)) m.progress.job.arrays r.item r.among).0 in
      has_append_right (code_objects plan m.constants.number 1 m.constants.segments) (map (array_object plan m.constants.number) m.progress.job.arrays) t
      (subst (Has (map (array_object plan m.constants.number) m.progress.job.arrays)) r.is (has_map (array_object plan m.constants.number) m.progress.job.arrays r.item old))

  in_new : (t : PagedObject) → Has (objects_of plan (record m { progress = c })) t → Has (objects_of plan m) t
  in_new t h = elim (has_append_cases (code_objects plan m.constants.number 1 m.constants.segments) (map (array_object plan m.constants.number) c.job.arrays) t h) [
    | inl a ↦ has_append_left (code_objects plan m.constants.number 1 m.constants.segments) (map (array_object plan m.constants.number) m.progress.job.arrays) t a
    | inr b ↦
        let r = has_map_back (array_object plan m.constants.number) c.job.arrays t b in
        let old = (has_filter (λ (b : Array). not (b.owner == owner)) m.progress.job.arrays r.item (subst (λ (xs : List Array). Has xs r.item) is r.among)).0 in
        has_append_right (code_objects plan m.constants.number 1 m.constants.segments) (map (array_object plan m.constants.number) m.progress.job.arrays) t
        (subst (Has (map (array_object plan m.constants.number) m.progress.job.arrays)) r.is (has_map (array_object plan m.constants.number) m.progress.job.arrays r.item old))
  ]

  in_old : (t : PagedObject) → Has (objects_of plan m) t → Has (objects_gone plan m c.job ++ objects_of plan (record m { progress = c })) t
  in_old t h = elim (has_append_cases (code_objects plan m.constants.number 1 m.constants.segments) (map (array_object plan m.constants.number) m.progress.job.arrays) t h) [
    | inl a ↦ has_append_right (objects_gone plan m c.job) (objects_of plan (record m { progress = c })) t (has_append_left (code_objects plan m.constants.number 1 m.constants.segments) (map (array_object plan m.constants.number) c.job.arrays) t a)
    | inr b ↦
        let r = has_map_back (array_object plan m.constants.number) m.progress.job.arrays t b in
        elim (has_append_cases (gone m.progress.job c.job) c.job.arrays r.item (other_or_gone owner bound m.progress.job c.job falls is r.item r.among)) [
          | inl g ↦ has_append_left (objects_gone plan m c.job) (objects_of plan (record m { progress = c })) t (subst (Has (objects_gone plan m c.job)) r.is (has_map (array_object plan m.constants.number) (gone m.progress.job c.job) r.item g))
          | inr k ↦ has_append_right (objects_gone plan m c.job) (objects_of plan (record m { progress = c })) t
              (has_append_right (code_objects plan m.constants.number 1 m.constants.segments) (map (array_object plan m.constants.number) c.job.arrays) t
              (subst (Has (map (array_object plan m.constants.number) c.job.arrays)) r.is (has_map (array_object plan m.constants.number) c.job.arrays r.item k)))
        ]
  ]

  now : Has (with_course jobs m.constants.number c) (record m { progress = c })
  now = (keyed_has number_of m.constants.number (with_course jobs m.constants.number c) (record m { progress = c }) (member-same jobs m.constants.number c m found)).0

  -- all objects of before, with those of the arrays that are gone among those that are left
  pub objects-after : SameObjects (flat_map (objects_of plan) jobs) (objects_gone plan m c.job ++ flat_map (objects_of plan) (with_course jobs m.constants.number c))
  objects-after = record { there = there; back = back } where
    into : (t : PagedObject) → Has (objects_of plan m) t → Has (objects_gone plan m c.job ++ flat_map (objects_of plan) (with_course jobs m.constants.number c)) t
    into t h = elim (has_append_cases (objects_gone plan m c.job) (objects_of plan (record m { progress = c })) t (in_old t h)) [
      | inl a ↦ has_append_left (objects_gone plan m c.job) (flat_map (objects_of plan) (with_course jobs m.constants.number c)) t a
      | inr b ↦ has_append_right (objects_gone plan m c.job) (flat_map (objects_of plan) (with_course jobs m.constants.number c)) t (has_flat (objects_of plan) (with_course jobs m.constants.number c) (record m { progress = c }) t now b)
    ]

    there : (t : PagedObject) → Has (flat_map (objects_of plan) jobs) t → Has (objects_gone plan m c.job ++ flat_map (objects_of plan) (with_course jobs m.constants.number c)) t
    there t h =
        let r = has_flat_back (objects_of plan) jobs t h in
        elim (change-kept number_of m.constants.number (λ (y : SessionJob). record y { progress = c }) jobs m found r.item r.among) [
          | inl k ↦ has_append_right (objects_gone plan m c.job) (flat_map (objects_of plan) (with_course jobs m.constants.number c)) t (has_flat (objects_of plan) (with_course jobs m.constants.number c) r.item t k r.inside)
          | inr k ↦ into t (subst (λ (y : SessionJob). Has (objects_of plan y) t) k.0 r.inside)
        ]

    back : (t : PagedObject) → Has (objects_gone plan m c.job ++ flat_map (objects_of plan) (with_course jobs m.constants.number c)) t → Has (flat_map (objects_of plan) jobs) t
    back t h = elim (has_append_cases (objects_gone plan m c.job) (flat_map (objects_of plan) (with_course jobs m.constants.number c)) t h) [
      | inl a ↦ has_flat (objects_of plan) jobs m t (keyed_has number_of m.constants.number jobs m found).0 (in_left t a)
      | inr b ↦
          let r = has_flat_back (objects_of plan) (with_course jobs m.constants.number c) t b in
          elim (change-has number_of m.constants.number (λ (y : SessionJob). record y { progress = c }) jobs m found r.item r.among) [
            | inl k ↦ has_flat (objects_of plan) jobs r.item t k r.inside
            | inr e ↦ has_flat (objects_of plan) jobs m t (keyed_has number_of m.constants.number jobs m found).0 (in_new t (subst (λ (y : SessionJob). Has (objects_of plan y) t) e r.inside))
          ]
    ]
