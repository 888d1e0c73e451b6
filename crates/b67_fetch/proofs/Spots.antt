-- The spot of a frame by the address of its mark.
use Rattle.std.proofs.Common.{◌≡◌, ◌≢◌, ℕ, ◌+◌, ◌-◌, ◌*◌, ◌/◌, ◌%◌, ◌<◌, ◌≤◌, ◌^◌, List, [], ◌∷◌, length, find, option_map, unwrap_or, Option, None, Some, refl, sym, ◌∙◌, ap, arith}
use Rattle.std.specs.List.{slice_get}
use Rattle.std.proofs.lemmas.Nat.{div-mul-add, mod-mul-add}
use Rattle.std.proofs.lemmas.Option.{same_Some, slice_get_within}
use Rattle.b67_word.specs.Tagged.{Tagged}
use Rattle.b67_ctl.specs.declared.registers.Regs.{Regs}
use Rattle.b67_ctl.specs.declared.references.Sirw.{Sirw}
use Rattle.b67_ctl.specs.declared.vector.VectorWord.{VectorWord}
use Rattle.b67_ctl.specs.Vector.{task_word, IsVectorWord}
use Rattle.b67_model.specs.Common.{NamesEntered, reach_of, height, number_of, SessionJob}
use Rattle.b67_stack.specs.Stacks.{StackPlace}
use Rattle.b67_layout.specs.Placement.{Placement, Slotted, is_row_of, slot_of}
use Rattle.b67_layout.specs.Session.{RowsFit, vector_word}
use Rattle.b67_refer.specs.RunningContext.{RunningContext, live_of}
use Rattle.b67_refer.specs.Cells.{view, frame_at_core}
use Rattle.b67_refer.proofs.Seats.{seat}
use Rattle.b67_refer.proofs.Bases.{stacks_is, size_is}
use Rattle.b67_refer.proofs.Marks.{view_low}
use Rattle.b67_refer.proofs.Rule.{seat_address}
use Rattle.b67_refer.proofs.Unders.{seat_low, is_mcp, is_dictionary, is_task}
use Rattle.b67_lemmas.proofs.Members.{keyed_has, found-has}

-- the slot that a word of the vector names fits its field
slot_fits : (plan : Placement) (jobs : List SessionJob) (j n : ℕ) → RowsFit plan jobs → plan.peak ≤ 120 → slot_of plan j n < 2 ^ 10
slot_fits plan jobs j n fit few = by (find (is_row_of j n) plan.rows) refl where
  by : (o : Option Slotted) → find (is_row_of j n) plan.rows ≡ o → unwrap_or (option_map (λ (r : Slotted). r.slot) o) 255 < 2 ^ 10
  by None e = omega arith
  by (Some r) e = omega (arith, fit.below r (found-has (is_row_of j n) plan.rows r e).0, few)

-- the word of a live task in the vector has fields that fit
vector_fields : (plan : Placement) (jobs : List SessionJob) (j : ℕ) (parents : List ℕ) → RowsFit plan jobs → plan.peak ≤ 120 → j < 2 ^ 4 → (v : VectorWord) × IsVectorWord v × (vector_word plan j parents ≡ task_word v) × (v.job ≡ j)
vector_fields plan jobs j [] fit few small = (record { parent = 1023; job = j }, record { parent = omega arith; job = small }, refl, refl)
vector_fields plan jobs j (p ∷ more) fit few small = (record { parent = slot_of plan j p; job = j }, record { parent = slot_fits plan jobs j p fit few; job = small }, refl, refl)

module _ (core : List Tagged) (r : Regs) (a : RunningContext core r) (f base offset : ℕ) (n : NamesEntered (reach_of a.member.progress.job a.task) f) (e : base ≡ frame_at_core a f) where
  pub at_mcp : base ≡ 0 → ◌≡◌ {A = Sirw} (record { stack = 136; disp = 0; offset = offset }) (record { stack = (view a f).stack; disp = (view a f).disp; offset = offset })
  at_mcp zero =
      let is : f ≡ 0 = is_mcp core r (live_of a) f base n e zero in
      let spot : view a f ≡ record { stack = 136; disp = 0 } = ap (view a) is ∙ view_low core r (live_of a) 0 (omega arith) in
      ap (λ (z : StackPlace). let k : Sirw = record { stack = z.stack; disp = z.disp; offset = offset } in k) (sym spot)

  -- the word of the running slot in the stack vector
  pub vector_at : slice_get core (32 + r.slot) ≡ Some (vector_word a.plan a.member.constants.number a.task.parents)
  vector_at =
      let o = (a.holds.running a.member a.task a.running).slot in
      ap (λ (k : ℕ). slice_get core (32 + k)) o
      ∙ a.holds.vector.live a.member a.task (keyed_has number_of a.member.constants.number a.session.jobs a.member a.running.member).0 (keyed_has (λ u. u.number) a.task.number a.member.progress.job.tasks a.task a.running.task).0

  pub vector_inside : 32 + r.slot < length core
  vector_inside = slice_get_within core (32 + r.slot) (vector_word a.plan a.member.constants.number a.task.parents) vector_at

  pub job_is : (w : Tagged) (v : VectorWord) → slice_get core (32 + r.slot) ≡ Some w → ((e : VectorWord) → IsVectorWord e → w ≡ task_word e → v ≡ e) → v.job ≡ a.member.constants.number
  job_is w v got read =
      let few = a.ordered.few in
      let same : w ≡ vector_word a.plan a.member.constants.number a.task.parents = same_Some _ _ (sym got ∙ vector_at) in
      let (e, fits, is, job) = vector_fields a.plan a.session.jobs a.member.constants.number a.task.parents a.holds.fits.rows a.holds.fits.few (omega (arith, few)) in
      ap (λ (z : VectorWord). z.job) (read e fits (same ∙ is)) ∙ job

  pub at_dictionary : (job : ℕ) → base ≢ 0 → base ≡ r.dict → job ≡ a.member.constants.number → ◌≡◌ {A = Sirw} (record { stack = 127 + job; disp = 0; offset = offset }) (record { stack = (view a f).stack; disp = (view a f).disp; offset = offset })
  at_dictionary job some at j =
      let is : f ≡ 1 = is_dictionary core r (live_of a) f base n e some at in
      let spot : view a f ≡ record { stack = 127 + a.member.constants.number; disp = 0 } = ap (view a) is ∙ view_low core r (live_of a) 1 (omega arith) in
      ap (λ (k : ℕ). let z : Sirw = record { stack = 127 + k; disp = 0; offset = offset } in z) j ∙ ap (λ (z : StackPlace). let k : Sirw = record { stack = z.stack; disp = z.disp; offset = offset } in k) (sym spot)

  -- in a slot
  by_division : (size : ℕ) → base ≢ 0 → base ≢ r.dict → size ≡ r.stack_size → (r.stacks ≤ base) × ((base - r.stacks) / size ≡ (view a f).stack) × ((base - r.stacks) % size ≡ (view a f).disp) × (0 < size) × ((view a f).stack < 120) × ((view a f).disp < 2 ^ 14)
  by_division size some other is =
      let own = is_task core r (live_of a) f base n e some other in
      let b = seat core r (live_of a) f n.standing n.among own in
      let at = seat_address core r (live_of a) a.task.place f n.standing b n.entered own in
      let low = seat_low core r (live_of a) f n own in
      let k = stacks_is core r (live_of a) in
      let z : size ≡ a.plan.size = is ∙ size_is core r (live_of a) in
      let d : base - r.stacks ≡ b.slot * a.plan.size + height b.below = omega (arith, e, at, k) in
      grind (arith, div-mul-add)

  pub in_slots : base ≢ 0 → base ≢ r.dict → r.stacks ≤ base
  in_slots some other = (by_division r.stack_size some other refl).0

  -- the slot and the displacement that were found
  pub in_slot : (slot disp : ℕ) → base ≢ 0 → base ≢ r.dict → r.stacks + slot * r.stack_size + disp ≡ base → disp < r.stack_size → (slot ≡ (view a f).stack) × (disp ≡ (view a f).disp) × ((view a f).stack < 120) × ((view a f).disp < 2 ^ 14)
  in_slot slot disp some other at low =
      let s = by_division r.stack_size some other refl in
      let d : base - r.stacks ≡ slot * r.stack_size + disp = omega (arith, at) in
      (sym (ap (λ m. m / r.stack_size) d ∙ div-mul-add slot r.stack_size disp low) ∙ s.1, sym (ap (λ m. m % r.stack_size) d ∙ mod-mul-add slot r.stack_size disp low) ∙ s.2, s.4, s.5)

  pub slot_spot : (slot disp : ℕ) → base ≢ 0 → base ≢ r.dict → r.stacks + slot * r.stack_size + disp ≡ base → disp < r.stack_size → ◌≡◌ {A = Sirw} (record { stack = slot; disp = disp; offset = offset }) (record { stack = (view a f).stack; disp = (view a f).disp; offset = offset })
  slot_spot slot disp some other at low =
      let i = in_slot slot disp some other at low in
      ap (λ (k : ℕ). let z : Sirw = record { stack = k; disp = disp; offset = offset } in z) i.0 ∙ ap (λ (k : ℕ). let z : Sirw = record { stack = (view a f).stack; disp = k; offset = offset } in z) i.1
