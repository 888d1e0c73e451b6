use Rattle.std.proofs.Common.{inl, [], ◌∷◌, Some, Ok, refl, ◌∙◌, ap, subst, arith}
use Rattle.b67_model.specs.Steps.{Values, Goes}
use Rattle.b67_stack.specs.declared.What.TheVariants as what
use Rattle.b67_mcp.specs.Printed.{job_cut}
use Rattle.b67_mcp.specs.declared.print_row.RowFound.{RowFound}
use Rattle.b67_mcp.specs.RowCalls.{RowMeets, RowTouches}
use Rattle.b67_mcp.proofs.Callings.{calling, reads_of, call_some}
use Rattle.b67_mcp.proofs.Touched.{touched_by_row}
use Rattle.b67_mcp.proofs.Present.{row_faults, row_made}
use Rattle.b67_mcp.proofs.Sizes.{kept_printed}
use Rattle.b67_mcp.proofs.Still.{as_many, stands_peak}
use Rattle.b67_mcp.proofs.print_row.print_row.Goals as goal

pub row_to_print-requires : goal.row_to_print-requires
row_to_print-requires g c = call_some c.args.machine.now 10 c.requires

pub returns-in-Err-clause-row : goal.returns-in-Err-clause-row
returns-in-Err-clause-row g c = λ x told plan s m t o h runs code called count.
    (let k = calling m t 10 called in
    (k.is ∙ c.in-Err.ensures.row x plan s m t o h.session runs k.reference k.arguments k.call k.next, refl, refl))

pub say_words-requires-clause-reads : goal.say_words-requires-clause-reads
say_words-requires-clause-reads g c = reads_of c.args.machine.now 10 c.requires

pub say_words-requires-clause-inside : goal.say_words-requires-clause-inside
say_words-requires-clause-inside g c =
    let q = c.requires.runs in
    let k = calling q.member q.task 10 c.requires.called in
    let P : RowFound → Type 0 = λ f. RowMeets q.storage q.plan q.member q.task c.args.machine.now.cpu.core k.arguments (Ok f) in
    (subst P c.in-Words.is (c.in-Ok.ensures.row q.storage q.plan q.session q.member q.task q.ordered q.stands.session q.running k.reference k.arguments k.call)).inside

pub say_words-requires-clause-whole : goal.say_words-requires-clause-whole
say_words-requires-clause-whole g c =
    let q = c.requires.runs in
    let k = calling q.member q.task 10 c.requires.called in
    let P : RowFound → Type 0 = λ f. RowMeets q.storage q.plan q.member q.task c.args.machine.now.cpu.core k.arguments (Ok f) in
    let row = subst P c.in-Words.is (c.in-Ok.ensures.row q.storage q.plan q.session q.member q.task q.ordered q.stands.session q.running k.reference k.arguments k.call) in
    (row.values, row.lies)

pub cut-requires : goal.cut-requires
cut-requires g c =
    let q = c.requires.runs in
    let k = calling q.member q.task 10 c.requires.called in
    let P : RowFound → Type 0 = λ f. RowMeets q.storage q.plan q.member q.task c.args.machine.now.cpu.core k.arguments (Ok f) in
    let row = subst P c.in-Words.is (c.in-Ok.ensures.row q.storage q.plan q.session q.member q.task q.ordered q.stands.session q.running k.reference k.arguments k.call) in
    record { reads = reads_of c.args.machine.now 10 c.requires; may = row.may }

pub returns-in-Absent-clause-row : goal.returns-in-Absent-clause-row
returns-in-Absent-clause-row g c = λ x told plan s m t o h runs code called count.
    (let k = calling m t 10 called in
    let P : RowFound → Type 0 = λ f. RowMeets x plan m t c.args.machine.now.cpu.core k.arguments (Ok f) in
    let row = subst P c.in-Absent.is (c.in-Ok.ensures.row x plan s m t o h.session runs k.reference k.arguments k.call) in
    (record { array = row.array; among = row.among; touched = touched_by_row m t k row.array.identity row.are; absent = row.absent; named = ap what.Array row.home }, refl, refl))

pub returns-in-Ok-say_words-clause-row : goal.returns-in-Ok-say_words-clause-row
returns-in-Ok-say_words-clause-row g c = λ x told plan s m t o h runs code called count.
    (let k = calling m t 10 called in
    let P : RowFound → Type 0 = λ f. RowMeets x plan m t c.args.machine.now.cpu.core k.arguments (Ok f) in
    let row = subst P c.in-Words.is (c.in-Ok.ensures.row x plan s m t o h.session runs k.reference k.arguments k.call) in (
      record {
        job = job_cut m t k.next;
        printed = Values row.values ∷ [];
        touched = Some row.array;
        is = k.is ∙ row.makes k.next;
        storage = x;
        plan = plan;
        stands = stands_peak x told c.cut.new.machine plan s m (job_cut m t k.next) o.peak_low (as_many m t 10 k (inl (omega arith)) (job_cut m t k.next) (Values row.values ∷ []) (Some row.array) (k.is ∙ row.makes k.next))
            (c.cut.ensures.stands x told plan s m t o h runs code row.may k.next k.reading);
        text = c.in-Ok-say_words.ensures.whole x told plan s m t o h runs code row.values row.lies;
        reset = c.cut.ensures.printed;
      },
      λ no_process home none. refl,
    ))

pub returns-in-Err-say_words-clause-row : goal.returns-in-Err-say_words-clause-row
returns-in-Err-say_words-clause-row g c = λ x told plan s m t o h runs code called count.
    (let k = calling m t 10 called in
    let P : RowFound → Type 0 = λ f. RowMeets x plan m t c.args.machine.now.cpu.core k.arguments (Ok f) in
    let row = subst P c.in-Words.is (c.in-Ok.ensures.row x plan s m t o h.session runs k.reference k.arguments k.call) in
    (record { job = job_cut m t k.next; printed = Values row.values ∷ []; touched = Some row.array; is = k.is ∙ row.makes k.next; text = c.in-Err-say_words.ensures.part x told plan s m t o h runs code row.values row.lies }, refl))

pub returns-in-Err-clause-present : goal.returns-in-Err-clause-present
returns-in-Err-clause-present g c = λ x told plan s m t o h runs code called.
    (let k = calling m t 10 called in
    row_faults m t x plan k (c.in-Err.ensures.present x plan s m t o h.session runs k.reference k.arguments k.call) c.in-Err.fault (k.is ∙ c.in-Err.ensures.row x plan s m t o h.session runs k.reference k.arguments k.call k.next))

pub returns-in-Ok-say_words-clause-present : goal.returns-in-Ok-say_words-clause-present
returns-in-Ok-say_words-clause-present g c = λ x told plan s m t o h runs code called.
    (let k = calling m t 10 called in
    let P : RowFound → Type 0 = λ f. RowMeets x plan m t c.args.machine.now.cpu.core k.arguments (Ok f) in
    let Q : RowFound → Type 0 = λ f. RowTouches x plan m k.arguments (Ok f) in
    let row = subst P c.in-Words.is (c.in-Ok.ensures.row x plan s m t o h.session runs k.reference k.arguments k.call) in
    let present = subst Q c.in-Words.is (c.in-Ok.ensures.present x plan s m t o h.session runs k.reference k.arguments k.call) in
    row_made m t x plan k present (Goes (job_cut m t k.next) (Values row.values ∷ []) (Some row.array)) (row.makes k.next))

pub returns-in-Err-say_words-clause-present : goal.returns-in-Err-say_words-clause-present
returns-in-Err-say_words-clause-present g c = λ x told plan s m t o h runs code called.
    (let k = calling m t 10 called in
    let P : RowFound → Type 0 = λ f. RowMeets x plan m t c.args.machine.now.cpu.core k.arguments (Ok f) in
    let Q : RowFound → Type 0 = λ f. RowTouches x plan m k.arguments (Ok f) in
    let row = subst P c.in-Words.is (c.in-Ok.ensures.row x plan s m t o h.session runs k.reference k.arguments k.call) in
    let present = subst Q c.in-Words.is (c.in-Ok.ensures.present x plan s m t o h.session runs k.reference k.arguments k.call) in
    row_made m t x plan k present (Goes (job_cut m t k.next) (Values row.values ∷ []) (Some row.array)) (row.makes k.next))

pub returns-in-Err-say_words-clause-kept : goal.returns-in-Err-say_words-clause-kept
returns-in-Err-say_words-clause-kept g c = kept_printed c.args.machine.now c.say_words.new.printed

pub returns-in-Err-say_words-clause-changed : goal.returns-in-Err-say_words-clause-changed
returns-in-Err-say_words-clause-changed g c = λ i. inl refl
