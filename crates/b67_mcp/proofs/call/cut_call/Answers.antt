use Rattle.std.proofs.Common.{◌∷◌, sym, ap, subst}
use Rattle.b67_model.specs.State.{Job}
use Rattle.b67_stack.specs.declared.Cpu.{Cpu}
use Rattle.b67_layout.specs.Common.{machine_view, RepresentsSession, with_job}
use Rattle.b67_mcp.specs.Calls.{job_cut}
use Rattle.b67_mcp.proofs.Cuts.{cut_of, job_is, on_top, under, on_stack, regs_cut, stands_cut}
use Rattle.b67_mcp.proofs.call.cut_call.Goals as goal

pub cut-requires : goal.cut-requires
cut-requires c =
    let r = c.requires.call.runs in
    let a = cut_of r.plan r.session r.member r.task r.ordered r.running c.requires.call.may in (
      r.storage,
      machine_view r.plan r.session.jobs,
      on_top r.storage c.args.cpu.now r.plan r.session r.member r.task r.ordered r.stands r.running a c.args.next c.requires.place ∷ under r.storage c.args.cpu.now r.plan r.session r.member r.task r.ordered r.stands r.running a c.args.next c.requires.place,
      r.stands.holds.memory,
      on_stack r.storage c.args.cpu.now r.plan r.session r.member r.task r.ordered r.stands r.running a c.args.next c.requires.place,
      λ z. cc,
    )

pub returns-clause-stands : goal.returns-clause-stands
returns-clause-stands c = λ x plan s m t o h runs may.
    (let old = c.args.cpu.now in
    let q = c.args.next in
    let a = cut_of plan s m t o runs may in
    let e = c.cut.ensures.row x (machine_view plan s.jobs) (on_top x old plan s m t o h runs a q c.requires.place ∷ under x old plan s m t o h runs a q c.requires.place) h.holds.memory (on_stack x old plan s m t o h runs a q c.requires.place) (λ z. cc) in
    let P : Cpu → Type 0 = λ v. RepresentsSession x (record v { regs = record v.regs { place = q } }) plan (with_job s m (job_cut m t q)) in
    let J : Job → Type 0 = λ j. RepresentsSession x (record old { regs = regs_cut x old plan s m t o h runs a q c.requires.place }) plan (with_job s m j) in
    subst P (sym e) (subst J (sym (job_is m t a q)) (stands_cut x old plan s m t o h runs a q c.requires.place)))

pub returns-clause-core : goal.returns-clause-core
returns-clause-core c =
    let r = c.requires.call.runs in
    let old = c.args.cpu.now in
    let q = c.args.next in
    let a = cut_of r.plan r.session r.member r.task r.ordered r.running c.requires.call.may in
    ap (λ (v : Cpu). v.core) (c.cut.ensures.row r.storage (machine_view r.plan r.session.jobs) (on_top r.storage old r.plan r.session r.member r.task r.ordered r.stands r.running a q c.requires.place ∷ under r.storage old r.plan r.session r.member r.task r.ordered r.stands r.running a q c.requires.place)
    r.stands.holds.memory (on_stack r.storage old r.plan r.session r.member r.task r.ordered r.stands r.running a q c.requires.place) (λ z. cc))
