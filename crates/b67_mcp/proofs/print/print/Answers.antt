use Rattle.std.proofs.Common.{inl, ℤ, refl, ◌∙◌, [], ◌∷◌, None, subst, rules, w64, SFits, arith}
use Rattle.std.proofs.lemmas.Int.{to_z-of_z}
use Rattle.b67_session_lines.specs.Parts.{TookRest, TookMore}
use Rattle.b67_mcp.specs.Called.{printed_text}
use Rattle.b67_model.specs.Steps.{Value}
use Rattle.b67_mcp.specs.Printed.{job_cut}
use Rattle.b67_mcp.proofs.Callings.{calling, reads_of, call_some}
use Rattle.b67_mcp.proofs.Present.{faults_untouched, made_untouched}
use Rattle.b67_mcp.proofs.Sizes.{kept_printed}
use Rattle.b67_mcp.proofs.Still.{as_many, stands_peak}
use Rattle.b67_mcp.proofs.print.print.Goals as goal

pub print_value-requires : goal.print_value-requires
print_value-requires g c = call_some c.args.machine.now 9 c.requires

pub returns-in-Err-clause-row : goal.returns-in-Err-clause-row
returns-in-Err-clause-row g c = λ x told plan s m t o h runs code called count.
    (let k = calling m t 9 called in
    (k.is ∙ c.in-Err.ensures.row x plan s m t o h.session runs k.reference k.arguments k.call k.next, refl, refl))

pub say_value-requires : goal.say_value-requires
say_value-requires g c = reads_of c.args.machine.now 9 c.requires

pub returns-in-Err-say_value-clause-row : goal.returns-in-Err-say_value-clause-row
returns-in-Err-say_value-clause-row g c = λ x told plan s m t o h runs code called count.
    (let k = calling m t 9 called in
    let f : SFits w64 c.in-Ok.value = search rules in
    let r = c.in-Ok.ensures.row x plan s m t o h.session runs k.reference k.arguments k.call in
    (record { job = job_cut m t k.next; printed = Value c.in-Ok.value ∷ []; touched = None; is = k.is ∙ r.0 k.next; text = subst (λ (v : ℤ). TookMore g.K.Sink.taken c.args.paper.now c.say_value.new.paper (printed_text m t (Value v ∷ [])) c.args.machine.now.tasks.printed c.say_value.new.printed) (to_z-of_z w64 c.in-Ok.value f) (c.in-Err-say_value.ensures.part x told plan s m t o h runs code) }, refl))

pub cut-requires : goal.cut-requires
cut-requires g c =
    let q = c.requires.runs in
    let k = calling q.member q.task 9 c.requires.called in
    record { reads = reads_of c.args.machine.now 9 c.requires; may = (c.in-Ok.ensures.row q.storage q.plan q.session q.member q.task q.ordered q.stands.session q.running k.reference k.arguments k.call).1 }

pub returns-in-Ok-say_value-clause-row : goal.returns-in-Ok-say_value-clause-row
returns-in-Ok-say_value-clause-row g c = λ x told plan s m t o h runs code called count.
    (let k = calling m t 9 called in
    let f : SFits w64 c.in-Ok.value = search rules in
    let r = c.in-Ok.ensures.row x plan s m t o h.session runs k.reference k.arguments k.call in (
      record {
        job = job_cut m t k.next;
        printed = Value c.in-Ok.value ∷ [];
        touched = None;
        is = k.is ∙ r.0 k.next;
        storage = x;
        plan = plan;
        stands = stands_peak x told c.cut.new.machine plan s m (job_cut m t k.next) o.peak_low (as_many m t 9 k (inl (omega arith)) (job_cut m t k.next) (Value c.in-Ok.value ∷ []) None (k.is ∙ r.0 k.next))
            (c.cut.ensures.stands x told plan s m t o h runs code r.1 k.next k.reading);
        text = subst (λ (v : ℤ). TookRest g.K.Sink.taken c.args.paper.now c.say_value.new.paper (printed_text m t (Value v ∷ [])) c.args.machine.now.tasks.printed) (to_z-of_z w64 c.in-Ok.value f) (c.in-Ok-say_value.ensures.whole x told plan s m t o h runs code);
        reset = c.cut.ensures.printed;
      },
      λ no_process home none. refl,
    ))

pub returns-in-Err-clause-present : goal.returns-in-Err-clause-present
returns-in-Err-clause-present g c = λ x told plan s m t o h runs code called.
    (let k = calling m t 9 called in
    faults_untouched m t x plan 9 (λ e. absurd cc) k c.in-Err.fault (k.is ∙ c.in-Err.ensures.row x plan s m t o h.session runs k.reference k.arguments k.call k.next))

pub returns-in-Ok-say_value-clause-present : goal.returns-in-Ok-say_value-clause-present
returns-in-Ok-say_value-clause-present g c = λ x told plan s m t o h runs code called.
    (let k = calling m t 9 called in
    let r = c.in-Ok.ensures.row x plan s m t o h.session runs k.reference k.arguments k.call in
    made_untouched m t x plan (job_cut m t k.next) (Value c.in-Ok.value ∷ []) (k.is ∙ r.0 k.next))

pub returns-in-Err-say_value-clause-present : goal.returns-in-Err-say_value-clause-present
returns-in-Err-say_value-clause-present g c = λ x told plan s m t o h runs code called.
    (let k = calling m t 9 called in
    let r = c.in-Ok.ensures.row x plan s m t o h.session runs k.reference k.arguments k.call in
    made_untouched m t x plan (job_cut m t k.next) (Value c.in-Ok.value ∷ []) (k.is ∙ r.0 k.next))

pub returns-in-Err-say_value-clause-kept : goal.returns-in-Err-say_value-clause-kept
returns-in-Err-say_value-clause-kept g c = kept_printed c.args.machine.now c.say_value.new.printed

pub returns-in-Err-say_value-clause-changed : goal.returns-in-Err-say_value-clause-changed
returns-in-Err-say_value-clause-changed g c = λ i. inl refl

pub returns-in-Ok-say_value-clause-cause : goal.returns-in-Ok-say_value-clause-cause
returns-in-Ok-say_value-clause-cause g c = record { later = c.say_value.ensures.cause.later; failed = λ e. absurd cc }
