use Rattle.std.proofs.Common.{◌≡◌, ℕ, ◌+◌, ◌*◌, ◌<◌, Some, ap, arith, sym, ◌∙◌}
use Rattle.std.specs.List.{slice_get}
use Rattle.std.proofs.lemmas.Option.{same_Some}
use Rattle.b67_ctl.specs.declared.vector.VectorWord.{VectorWord}
use Rattle.b67_stack.specs.Common.{stack_words, MachineView, slot_base, stack_of}
use Rattle.b67_overlay.specs.Turns.{Lies}
use Rattle.b67_overlay.specs.Spans.{Resident, Families, ShowsFamilies, parent_field, kin_word, holds}
use Rattle.b67_overlay.proofs.Families.{parent_low, base_here, whole_here, over_here, span_in_job, span_of_others, span_in_own, span_in_parent, span_nowhere}
use Rattle.b67_overlay.proofs.Turning.{stack_low}
use Rattle.b67_overlay.proofs.spans.span_of_task.Goals.{After-stack_top-upto, After-job_of, After-is_in_slot}
use Rattle.b67_overlay.proofs.spans.span_of_task.Goals as goal

base_is : (c : After-stack_top-upto) (low : ℕ) (p : MachineView) → Lies c.args.core.now c.args.regs.now low p → c.args.regs.now.stacks + c.from.result * c.from-2.result ≡ slot_base p c.args.slot
base_is c low p l = base_here c.args.core.now c.args.regs.now low p c.args.slot c.from.result c.from-2.result l c.from.ensures c.from-2.ensures

top_is : (c : After-stack_top-upto) (low : ℕ) (p : MachineView) → (l : Lies c.args.core.now c.args.regs.now low p) → c.args.slot < p.peak
    → c.stack_top-upto.result ≡ c.args.regs.now.stacks + c.from.result * c.from-2.result + stack_words (stack_of (p.slots c.args.slot))
top_is c low p l h = c.stack_top-upto.ensures low p l h (base_is c low p l)

pub stack_top-upto-requires : goal.stack_top-upto-requires
stack_top-upto-requires c =
    let (low, p, f, a, l, s, o, e) = c.requires in
    (low, p, l, (s.kin c.args.slot a e).used, base_here c.args.core.now c.args.regs.now low p c.args.slot c.from.result c.from-2.result l c.from.ensures c.from-2.ensures)

pub overflow_add-upto : goal.overflow_add-upto
overflow_add-upto c =
    let (low, p, f, a, l, s, o, e) = c.requires in
    let h = (s.kin c.args.slot a e).used in
    let st = (goal.at.overflow_add-upto c).After-stack_top-upto in
    omega (arith, top_is st low p l h, base_is st low p l, stack_low c.args.core.now c.args.regs.now low p c.args.slot l h, l.inside, l.small)

pub get-requires : goal.get-requires
get-requires c =
    let (low, p, f, a, l, s, o, e) = c.requires in
    omega (arith, (s.kin c.args.slot a e).used, s.few, c.from-then-original-regs.ensures, l.slots.laid.first, l.inside, l.slots.laid.low)

job_read : (c : After-job_of) (low : ℕ) (p : MachineView) (f : Families) (a : Resident) (l : Lies c.args.core.now c.args.regs.now low p) (s : ShowsFamilies c.args.core.now p f) → f.kin c.args.slot ≡ Some a
    → c.from-job.result ≡ a.job
job_read c low p f a l s e =
    let k = s.kin c.args.slot a e in
    let word = s.vector c.args.slot (omega (arith, k.used, s.few)) ∙ ap (λ o. Some (kin_word o)) e in
    let read = ap (λ (n : ℕ). slice_get c.args.core.now (32 + n)) (sym c.from-then-original-regs.ensures) ∙ c.get.ensures in
    let v : VectorWord = record { parent = parent_field a.parents; job = a.job } in
    let is = c.read-vector.ensures.value v (record { parent = parent_low f p.peak a.job a.parents s.few k.line; job = k.job }) (same_Some _ _ (sym read ∙ word)) in
    c.from-job.ensures ∙ ap (λ (w : VectorWord). w.job) is

pub returns-then-job_of-job : goal.returns-then-job_of-job
returns-then-job_of-job c = λ low p f a l s e.
    let h = (s.kin c.args.slot a e).used in
    let g = goal.at.returns-then-job_of-job c in
    let st = g.After-stack_top-upto in
    let under : c.args.original < p.stacks = omega (arith, c.if-original-regs.true, l.slots.regs.stacks) in
    let job = c.job_of.ensures p f s (omega (arith, l.inside, l.slots.laid.low)) under in
    whole_here p c.args.slot (c.args.regs.now.stacks + c.from.result * c.from-2.result) c.stack_top-upto.result (base_is st low p l) (top_is st low p l h)
    ∙ sym (span_in_job f p c.args.original c.args.slot a under (sym job ∙ c.if-job_of-job.true ∙ job_read g.After-job_of low p f a l s e))

pub returns-then-original-regs : goal.returns-then-original-regs
returns-then-original-regs c = λ low p f a l s e.
    let g = goal.at.returns-then-original-regs c in
    let under : c.args.original < p.stacks = omega (arith, c.if-original-regs.true, l.slots.regs.stacks) in
    let job = c.job_of.ensures p f s (omega (arith, l.inside, l.slots.laid.low)) under in
    sym (span_of_others f p c.args.original c.args.slot a under (λ z. c.if-job_of-job.false (job ∙ z ∙ sym (job_read g.After-job_of low p f a l s e))))

pub is_in_slot-requires : goal.is_in_slot-requires
is_in_slot-requires c =
    let (low, p, f, a, l, s, o, e) = c.requires in
    (c.args.core.now, low, p, l, omega (arith, (s.kin c.args.slot a e).used, c.from-3.ensures))

held : (c : After-is_in_slot) (low : ℕ) (p : MachineView) (l : Lies c.args.core.now c.args.regs.now low p) → c.args.slot < p.peak → c.is_in_slot.result ≡ holds p c.args.original c.args.slot
held c low p l h = c.is_in_slot.ensures c.args.core.now low p l (omega (arith, h, c.from-3.ensures)) ∙ ap (holds p c.args.original) c.from-3.ensures

pub returns-then-is_in_slot : goal.returns-then-is_in_slot
returns-then-is_in_slot c = λ low p f a l s e.
    let h = (s.kin c.args.slot a e).used in
    let g = goal.at.returns-then-is_in_slot c in
    let st = g.After-stack_top-upto in
    over_here p c.args.slot (c.args.regs.now.stacks + c.from.result * c.from-2.result) c.stack_top-upto.result (c.args.original + 1) (base_is st low p l) (top_is st low p l h)
    ∙ sym (span_in_own f p c.args.original c.args.slot a (omega (arith, c.if-original-regs.false, l.slots.regs.stacks)) (sym (held g.After-is_in_slot low p l h) ∙ c.if-is_in_slot.true))

pub returns-then-is_in_parent : goal.returns-then-is_in_parent
returns-then-is_in_parent c = λ low p f a l s e.
    let h = (s.kin c.args.slot a e).used in
    let g = goal.at.returns-then-is_in_parent c in
    let st = g.After-stack_top-upto in
    whole_here p c.args.slot (c.args.regs.now.stacks + c.from.result * c.from-2.result) c.stack_top-upto.result (base_is st low p l) (top_is st low p l h)
    ∙ sym (span_in_parent f p c.args.original c.args.slot a (omega (arith, c.if-original-regs.false, l.slots.regs.stacks)) (sym (held g.After-is_in_slot low p l h) ∙ c.if-is_in_slot.false) (sym (c.is_in_parent.ensures low p f a l s e) ∙ c.if-is_in_parent.true))

pub returns : goal.returns
returns c = λ low p f a l s e.
    let h = (s.kin c.args.slot a e).used in
    let g = goal.at.returns c in
    sym (span_nowhere f p c.args.original c.args.slot a (omega (arith, c.if-original-regs.false, l.slots.regs.stacks)) (sym (held g.After-is_in_slot low p l h) ∙ c.if-is_in_slot.false) (sym (c.is_in_parent.ensures low p f a l s e) ∙ c.if-is_in_parent.false))
