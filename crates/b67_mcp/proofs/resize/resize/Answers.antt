use Rattle.std.proofs.Common.{◌<◌, List, length, Some, None, Ok, refl, sym, ◌∙◌, ap, subst, ⊎_elim}
use Rattle.std.proofs.lemmas.Bool.{cases_lt}
use Rattle.b67_word.specs.Tagged.{Tagged}
use Rattle.b67_word.specs.declared.couples.Place.{Place}
use Rattle.b67_model.specs.Common.{Answer, Done, touched_of, SessionJob, with_array, resized}
use Rattle.b67_layout.specs.Meets.{with_job}
use Rattle.b67_layout.specs.Machine.{content_after}
use Rattle.b67_layout.proofs.Untold.{untold}
use Rattle.b67_mcp.specs.Lengthening.{job_resized, ResizeMeets}
use Rattle.b67_mcp.specs.declared.resize.Resizing.{Resizing}
use Rattle.b67_stack.specs.declared.What.TheVariants as what
use Rattle.b67_task.specs.declared.tables.Machine.{Machine}
use Rattle.b67_task.specs.declared.tables.Tasks.{Tasks}
use Rattle.b67_task.specs.Tables.{MachineRepresents}
use Rattle.b67_mcp.specs.Called.{is_resized}
use Rattle.b67_mcp.proofs.Callings.{calling, reads_of, call_some}
use Rattle.b67_mcp.proofs.Cutting.{resized_fit, order_changed, runs_changed, may_changed, cuts, stands_cut}
use Rattle.b67_mcp.proofs.Present.{faults_untouched}
use Rattle.b67_mcp.proofs.Renumbered.{stands_silent}
use Rattle.b67_mcp.proofs.Lengthened.{resized_renumbers}
use Rattle.b67_mcp.proofs.Resizes.{touches, touches_stopped, refused, writes_done, writes_stopped}
use Rattle.b67_mcp.proofs.resize.resize.Goals as goal

pub array_to_resize-requires : goal.array_to_resize-requires
array_to_resize-requires g c = call_some c.args.machine.now 18 c.requires.calls

pub returns-in-Err-clause-row : goal.returns-in-Err-clause-row
returns-in-Err-clause-row g c = λ x told plan s m t o h runs code called says.
    (let k = calling m t 18 called in (k.is ∙ c.in-Err.ensures.row x plan s m t o h.session runs k.reference k.arguments k.call k.next, refl))

pub returns-in-Err-clause-present : goal.returns-in-Err-clause-present
returns-in-Err-clause-present g c = λ x told plan s m t o h runs code called.
    (let k = calling m t 18 called in faults_untouched m t x plan 18 (λ e. absurd cc) k c.in-Err.fault (k.is ∙ c.in-Err.ensures.row x plan s m t o h.session runs k.reference k.arguments k.call k.next))

pub returns-in-Absent-clause-row : goal.returns-in-Absent-clause-row
returns-in-Absent-clause-row g c = λ x told plan s m t o h runs code called says.
    (let k = calling m t 18 called in
    let P : Resizing → Type 0 = λ f. ResizeMeets x plan m t k.arguments (Ok f) in
    let (words, r, absent) = subst P c.in-Absent.is (c.in-Ok.ensures.row x plan s m t o h.session runs k.reference k.arguments k.call) in
    let a = r.which.array in
    let touched = ap (λ (answer : Answer Done). touched_of m.constants m.progress.job t answer) (k.is ∙ r.makes k.next) in
    (record { array = a; among = r.which.among; touched = touched; absent = absent; named = ap what.Array r.which.home }, refl))

pub next_place-next-requires : goal.next_place-next-requires
next_place-next-requires g c = reads_of c.args.machine.now 18 c.requires.calls

pub set_length-requires-clause-array : goal.set_length-requires-clause-array
set_length-requires-clause-array g c =
    let w = c.requires.calls.runs in
    let k = calling w.member w.task 18 c.requires.calls.called in
    let P : Resizing → Type 0 = λ f. ResizeMeets w.storage w.plan w.member w.task k.arguments (Ok f) in
    let q = subst P c.in-Lengths.is (c.in-Ok.ensures.row w.storage w.plan w.session w.member w.task w.ordered w.stands.session w.running k.reference k.arguments k.call) in
    record { runs = w; array = q.0.which.array; among = q.0.which.among; home = q.0.which.home; writable = q.0.which.writable; long = q.1; present = q.2 }

pub set_length-requires-clause-length : goal.set_length-requires-clause-length
set_length-requires-clause-length g c =
    let w = c.requires.calls.runs in
    let k = calling w.member w.task 18 c.requires.calls.called in
    let P : Resizing → Type 0 = λ f. ResizeMeets w.storage w.plan w.member w.task k.arguments (Ok f) in
    let q = subst P c.in-Lengths.is (c.in-Ok.ensures.row w.storage w.plan w.session w.member w.task w.ordered w.stands.session w.running k.reference k.arguments k.call) in
    (q.0.some, q.0.few)

pub cut_call-requires-clause-call : goal.cut_call-requires-clause-call
cut_call-requires-clause-call g c =
    let w = c.requires.calls.runs in
    let old = c.args.machine.now in
    let x = untold w.storage in
    let h = stands_silent w.storage w.told old w.plan w.session w.stands in
    let k = calling w.member w.task 18 c.requires.calls.called in
    let P : Resizing → Type 0 = λ f. ResizeMeets x w.plan w.member w.task k.arguments (Ok f) in
    let q = subst P c.in-Lengths.is (c.in-Ok.ensures.row x w.plan w.session w.member w.task w.ordered h.session w.running k.reference k.arguments k.call) in
    let a = q.0.which.array in
    let n = c.in-Lengths.after in
    let set = c.in-Ok-set_length.ensures.row x None w.plan w.session w.member w.task w.ordered h w.running a q.0.which.among q.0.which.home q.0.which.writable q.1 q.2 tt in
    cuts w.plan w.session w.member w.task w.ordered w.running a.identity (resized n) (resized_renumbers n) (resized_fit n q.0.some q.0.few) q.0.may set.storage None c.set_length.new.machine set.stands

pub returns-in-Ok-set_length-clause-row : goal.returns-in-Ok-set_length-clause-row
returns-in-Ok-set_length-clause-row g c = λ x told plan s m t o h runs code called says.
    (let old = c.args.machine.now in
    let k = calling m t 18 called in
    let P : Resizing → Type 0 = λ f. ResizeMeets x plan m t k.arguments (Ok f) in
    let q = subst P c.in-Lengths.is (c.in-Ok.ensures.row x plan s m t o h.session runs k.reference k.arguments k.call) in
    let a = q.0.which.array in
    let n = c.in-Lengths.after in
    let set = c.in-Ok-set_length.ensures.row x told plan s m t o h runs a q.0.which.among q.0.which.home q.0.which.writable q.1 q.2 says in
    let y = set.storage in
    let stands = set.stands in
    let f = resized n in
    let keeps = resized_renumbers n in
    let fits = resized_fit n q.0.some q.0.few in
    let mid = c.set_length.new.machine in
    let d = content_after told (g.B.Backing.holds c.set_length.new.backing) in
    let m1 : SessionJob = record m { progress = record m.progress { job = with_array m.progress.job a.identity f } } in
    let order = order_changed plan s m t o runs a.identity f keeps fits q.0.may y d mid stands in
    let runs1 = runs_changed plan s m t o runs a.identity f keeps fits q.0.may y d mid stands in
    let may1 = may_changed plan s m t o runs a.identity f keeps fits q.0.may y d mid stands in
    let p = c.next_place-next.result in
    let same = c.next_place-next.ensures.behind x told plan s m t o h runs code k.next k.reading in
    let new : Machine = record mid { cpu = c.cut_call.new.cpu } in
    let S : Place → Type 0 = λ z. MachineRepresents y d new plan (with_job s m (job_resized m t a.identity n z)) in
    let touched = ap (λ (answer : Answer Done). touched_of m.constants m.progress.job t answer) (k.is ∙ q.0.makes k.next) in (
      record {
        job = job_resized m t a.identity n k.next;
        touched = Some a.identity;
        is = k.is ∙ q.0.makes k.next;
        storage = y;
        plan = plan;
        stands = subst S same (stands_cut plan s m t o runs a.identity f keeps fits q.0.may y d mid stands c.cut_call.new.cpu p c.cut_call.ensures.core
            (c.cut_call.ensures.stands y plan (with_job s m m1.progress.job) m1 t order stands.session runs1 may1));
        printed = ap (λ (ts : Tasks). ts.printed) set.tables;
      },
      λ no_process home none. set.others home (λ e. none (is_resized a called q.0.which.among touched (sym e))),
    ))

pub returns-in-Ok-set_length-clause-present : goal.returns-in-Ok-set_length-clause-present
returns-in-Ok-set_length-clause-present g c = λ x told plan s m t o h runs code called.
    (let k = calling m t 18 called in
    let P : Resizing → Type 0 = λ f. ResizeMeets x plan m t k.arguments (Ok f) in
    let q = subst P c.in-Lengths.is (c.in-Ok.ensures.row x plan s m t o h.session runs k.reference k.arguments k.call) in
    touches x told c.args.machine.now plan s m t o h runs k c.in-Lengths.original c.in-Lengths.before c.in-Lengths.after q)

pub returns-in-Ok-set_length-clause-quiet : goal.returns-in-Ok-set_length-clause-quiet
returns-in-Ok-set_length-clause-quiet g c = λ x told plan s m t o h runs code called none.
    (let k = calling m t 18 called in
    let P : Resizing → Type 0 = λ f. ResizeMeets x plan m t k.arguments (Ok f) in
    let q = subst P c.in-Lengths.is (c.in-Ok.ensures.row x plan s m t o h.session runs k.reference k.arguments k.call) in
    ⊎_elim
    (λ up. absurd (none (writes_done x told c.args.machine.now plan s m t o h runs k c.in-Lengths.original c.in-Lengths.before c.in-Lengths.after q up)))
    (λ down. (c.set_length.ensures.quiet down).1)
    (cases_lt c.in-Lengths.before c.in-Lengths.after))

pub returns-in-Ok-set_length-clause-kept : goal.returns-in-Ok-set_length-clause-kept
returns-in-Ok-set_length-clause-kept g c =
    let k = c.set_length.ensures.kept in
    record { core = ap (λ (core : List Tagged). length core) c.cut_call.ensures.core ∙ k.core; sectors = k.sectors; given = k.given }

pub returns-in-Err-set_length-clause-row : goal.returns-in-Err-set_length-clause-row
returns-in-Err-set_length-clause-row g c = λ x told plan s m t o h runs code called says.
    (let old = c.args.machine.now in
    let k = calling m t 18 called in
    let P : Resizing → Type 0 = λ f. ResizeMeets x plan m t k.arguments (Ok f) in
    let q = subst P c.in-Lengths.is (c.in-Ok.ensures.row x plan s m t o h.session runs k.reference k.arguments k.call) in
    let a = q.0.which.array in
    let set = c.in-Err-set_length.ensures.row x told plan s m t o h runs a q.0.which.among q.0.which.home q.0.which.writable q.1 q.2 says in
    let up : c.in-Lengths.before < c.in-Lengths.after = ⊎_elim (λ up. up) (λ down. absurd (let z : ⊥ = (let e = (c.in-Err-set_length.ensures.quiet down).0 in cc) in z)) (cases_lt c.in-Lengths.before c.in-Lengths.after) in
    let d = content_after told (g.B.Backing.holds c.set_length.new.backing) in
    refused x told old plan s m t o h runs k c.in-Lengths.original c.in-Lengths.before c.in-Lengths.after q d (g.B.Backing.size c.args.backing.now) c.set_length.new.machine c.in-Err-set_length.stop code up set)

pub returns-in-Err-set_length-clause-present : goal.returns-in-Err-set_length-clause-present
returns-in-Err-set_length-clause-present g c = λ x told plan s m t o h runs code called.
    (let k = calling m t 18 called in
    let P : Resizing → Type 0 = λ f. ResizeMeets x plan m t k.arguments (Ok f) in
    let q = subst P c.in-Lengths.is (c.in-Ok.ensures.row x plan s m t o h.session runs k.reference k.arguments k.call) in
    touches_stopped x told c.args.machine.now plan s m t o h runs k c.in-Lengths.original c.in-Lengths.before c.in-Lengths.after q c.in-Err-set_length.stop)

pub returns-in-Err-set_length-clause-quiet : goal.returns-in-Err-set_length-clause-quiet
returns-in-Err-set_length-clause-quiet g c = λ x told plan s m t o h runs code called none.
    (let old = c.args.machine.now in
    let k = calling m t 18 called in
    let P : Resizing → Type 0 = λ f. ResizeMeets x plan m t k.arguments (Ok f) in
    let q = subst P c.in-Lengths.is (c.in-Ok.ensures.row x plan s m t o h.session runs k.reference k.arguments k.call) in
    let a = q.0.which.array in
    let set = c.in-Err-set_length.ensures.row (untold x) None plan s m t o (stands_silent x told old plan s h) runs a q.0.which.among q.0.which.home q.0.which.writable q.1 q.2 tt in
    ⊎_elim
    (λ up. absurd (none (writes_stopped x told old plan s m t o h runs k c.in-Lengths.original c.in-Lengths.before c.in-Lengths.after q (untold x) None (g.B.Backing.size c.args.backing.now) c.set_length.new.machine c.in-Err-set_length.stop up set)))
    (λ down. (c.set_length.ensures.quiet down).1)
    (cases_lt c.in-Lengths.before c.in-Lengths.after))
