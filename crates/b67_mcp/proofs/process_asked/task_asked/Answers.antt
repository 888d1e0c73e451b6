use Rattle.std.proofs.Common.{◌-◌, [], ◌∷◌, reverse, Ok, sym, ◌∙◌, ap, arith}
use Rattle.b67_refer.specs.RunningContext.{live_of}
use Rattle.b67_fetch.proofs.Values.{here_scene, here_shown, followed_stands}
use Rattle.b67_mcp.proofs.Cells.{counts}
use Rattle.b67_mcp.proofs.ProcessRows.{parts, no_argument, some_original}
use Rattle.b67_mcp.proofs.Led.{leads_nowhere, leads_fault, leads_elsewhere, found_at, reached, leads_proc}
use Rattle.b67_mcp.proofs.process_asked.task_asked.Goals as goal

pub returns-then-all-lt2 : goal.returns-then-all-lt2
returns-then-all-lt2 c = λ x plan s m t o h runs r arguments call. λ next.
    no_argument t r arguments call m next (omega (arith, c.count_cells-all.ensures.count x plan s m t o h runs, c.if-all-lt2.true))

pub any_original-requires : goal.any_original-requires
any_original-requires c =
    let q = c.requires.runs in
    record { runs = q; enough = omega (arith, c.count_cells-all.ensures.count q.storage q.plan q.session q.member q.task q.ordered q.stands q.running) }

pub returns-then-any_original : goal.returns-then-any_original
returns-then-any_original c = λ x plan s m t o h runs r arguments call. λ next.
    (let n = c.count_cells-all.ensures.count x plan s m t o h runs in
    let p = parts t r arguments call (c.count_cells-all.result - 2) (omega (arith, n, c.if-all-lt2.false)) in
    let any = c.any_original.ensures x plan s m t o h runs (omega (arith, n)) in
    some_original t r arguments call m (c.count_cells-all.result - 2) p (sym any ∙ c.if-any_original.true) next)

pub cell_under-first-requires : goal.cell_under-first-requires
cell_under-first-requires c =
    let q = c.requires.runs in
    record { runs = q; enough = omega (arith, c.count_cells-all.ensures.count q.storage q.plan q.session q.member q.task q.ordered q.stands q.running, c.if-all-lt2.false) }

pub returns-then-tag-ne1 : goal.returns-then-tag-ne1
returns-then-tag-ne1 c = λ x plan s m t o h runs r arguments call.
    let n = c.count_cells-all.ensures.count x plan s m t o h runs in
    let p = parts t r arguments call (c.count_cells-all.result - 2) (omega (arith, n, c.if-all-lt2.false)) in
    let none = sym (c.any_original.ensures x plan s m t o h runs (omega (arith, n))) ∙ c.if-any_original.false in
    let i = c.cell_under-first.ensures x plan s m t o h runs (reverse p.words) (r ∷ []) p.first p.stand p.over in
    leads_nowhere x c.args.cpu.now plan s m t o h runs r arguments call (c.count_cells-all.result - 2) p c.cell_under-first.result i none (λ z. c.if-tag-ne1.true (c.tag.ensures.value ∙ z))

pub chase-requires : goal.chase-requires
chase-requires c =
    let q = c.requires.runs in
    let now = c.args.cpu.now in
    let n = c.count_cells-all.ensures.count q.storage q.plan q.session q.member q.task q.ordered q.stands q.running in
    let p = parts q.task c.requires.reference c.requires.arguments c.requires.call (c.count_cells-all.result - 2) (omega (arith, n, c.if-all-lt2.false)) in
    let i = c.cell_under-first.ensures q.storage q.plan q.session q.member q.task q.ordered q.stands q.running (reverse p.words) (c.requires.reference ∷ []) p.first p.stand p.over in (
      live_of (here_scene q.storage now q.plan q.session q.member q.task q.ordered q.stands q.running),
      here_shown q.storage now q.plan q.session q.member q.task q.ordered q.stands q.running,
      i.at,
      i.owner,
      p.first,
      followed_stands q.storage now q.plan q.session q.member q.task q.ordered q.stands q.running c.cell_under-first.result p.first i,
    )

pub admit-requires-clause-procedure : goal.admit-requires-clause-procedure
admit-requires-clause-procedure c =
    let q = c.requires.runs in
    let now = c.args.cpu.now in
    let x = q.storage in let plan = q.plan in let s = q.session in let m = q.member in let t = q.task in let o = q.ordered in let h = q.stands in let runs = q.running in
    let r = c.requires.reference in let arguments = c.requires.arguments in let call = c.requires.call in
    let n = c.count_cells-all.ensures.count x plan s m t o h runs in
    let p = parts t r arguments call (c.count_cells-all.result - 2) (omega (arith, n, c.if-all-lt2.false)) in
    let none = sym (c.any_original.ensures x plan s m t o h runs (omega (arith, n))) ∙ c.if-any_original.false in
    let i = c.cell_under-first.ensures x plan s m t o h runs (reverse p.words) (r ∷ []) p.first p.stand p.over in
    let tag = sym c.tag.ensures.value ∙ c.if-tag-ne1.false in
    let is = c.in-Ok-Proc.is ∙ ap Ok c.in-Ok-Proc.field-0-is in
    let b = found_at x now plan s m t o h runs r arguments call (c.count_cells-all.result - 2) p c.cell_under-first.result i none tag c.chase.result
    (λ q. c.chase.ensures.running (here_scene x now plan s m t o h runs) q (here_shown x now plan s m t o h runs) i.at i.owner p.first (followed_stands x now plan s m t o h runs c.cell_under-first.result p.first i)) c.in-Ok-Proc.cell is t.place in
    (here_scene x now plan s m t o h runs, t.place, b.f, b.segment, b.level, b.place, record { ordered = o; stands = h; procedure = b.procedure })

pub admit-requires-clause-count : goal.admit-requires-clause-count
admit-requires-clause-count c =
    let q = c.requires.runs in
    let few = (counts q.storage c.args.cpu.now q.plan q.session q.member q.task q.ordered q.stands q.running).1 in
    omega (arith, c.count_cells-all.ensures.count q.storage q.plan q.session q.member q.task q.ordered q.stands q.running, few)

pub returns-in-Ok-Cell : goal.returns-in-Ok-Cell
returns-in-Ok-Cell c = λ x plan s m t o h runs r arguments call.
    let now = c.args.cpu.now in
    let n = c.count_cells-all.ensures.count x plan s m t o h runs in
    let p = parts t r arguments call (c.count_cells-all.result - 2) (omega (arith, n, c.if-all-lt2.false)) in
    let none = sym (c.any_original.ensures x plan s m t o h runs (omega (arith, n))) ∙ c.if-any_original.false in
    let i = c.cell_under-first.ensures x plan s m t o h runs (reverse p.words) (r ∷ []) p.first p.stand p.over in
    let tag = sym c.tag.ensures.value ∙ c.if-tag-ne1.false in
    leads_elsewhere x now plan s m t o h runs r arguments call (c.count_cells-all.result - 2) p c.cell_under-first.result i none tag c.chase.result
    (λ q. c.chase.ensures.running (here_scene x now plan s m t o h runs) q (here_shown x now plan s m t o h runs) i.at i.owner p.first (followed_stands x now plan s m t o h runs c.cell_under-first.result p.first i)) _ tt (c.in-Ok-Cell.is ∙ ap Ok c.in-Ok-Cell.field-0-is)

pub returns-in-Ok-Element : goal.returns-in-Ok-Element
returns-in-Ok-Element c = λ x plan s m t o h runs r arguments call.
    let now = c.args.cpu.now in
    let n = c.count_cells-all.ensures.count x plan s m t o h runs in
    let p = parts t r arguments call (c.count_cells-all.result - 2) (omega (arith, n, c.if-all-lt2.false)) in
    let none = sym (c.any_original.ensures x plan s m t o h runs (omega (arith, n))) ∙ c.if-any_original.false in
    let i = c.cell_under-first.ensures x plan s m t o h runs (reverse p.words) (r ∷ []) p.first p.stand p.over in
    let tag = sym c.tag.ensures.value ∙ c.if-tag-ne1.false in
    leads_elsewhere x now plan s m t o h runs r arguments call (c.count_cells-all.result - 2) p c.cell_under-first.result i none tag c.chase.result
    (λ q. c.chase.ensures.running (here_scene x now plan s m t o h runs) q (here_shown x now plan s m t o h runs) i.at i.owner p.first (followed_stands x now plan s m t o h runs c.cell_under-first.result p.first i)) _ tt (c.in-Ok-Element.is ∙ ap Ok c.in-Ok-Element.field-0-is)

pub returns-in-Ok-Array : goal.returns-in-Ok-Array
returns-in-Ok-Array c = λ x plan s m t o h runs r arguments call.
    let now = c.args.cpu.now in
    let n = c.count_cells-all.ensures.count x plan s m t o h runs in
    let p = parts t r arguments call (c.count_cells-all.result - 2) (omega (arith, n, c.if-all-lt2.false)) in
    let none = sym (c.any_original.ensures x plan s m t o h runs (omega (arith, n))) ∙ c.if-any_original.false in
    let i = c.cell_under-first.ensures x plan s m t o h runs (reverse p.words) (r ∷ []) p.first p.stand p.over in
    let tag = sym c.tag.ensures.value ∙ c.if-tag-ne1.false in
    leads_elsewhere x now plan s m t o h runs r arguments call (c.count_cells-all.result - 2) p c.cell_under-first.result i none tag c.chase.result
    (λ q. c.chase.ensures.running (here_scene x now plan s m t o h runs) q (here_shown x now plan s m t o h runs) i.at i.owner p.first (followed_stands x now plan s m t o h runs c.cell_under-first.result p.first i)) _ tt (c.in-Ok-Array.is ∙ ap Ok c.in-Ok-Array.field-0-is)

pub returns-in-Ok-Intrinsic : goal.returns-in-Ok-Intrinsic
returns-in-Ok-Intrinsic c = λ x plan s m t o h runs r arguments call.
    let now = c.args.cpu.now in
    let n = c.count_cells-all.ensures.count x plan s m t o h runs in
    let p = parts t r arguments call (c.count_cells-all.result - 2) (omega (arith, n, c.if-all-lt2.false)) in
    let none = sym (c.any_original.ensures x plan s m t o h runs (omega (arith, n))) ∙ c.if-any_original.false in
    let i = c.cell_under-first.ensures x plan s m t o h runs (reverse p.words) (r ∷ []) p.first p.stand p.over in
    let tag = sym c.tag.ensures.value ∙ c.if-tag-ne1.false in
    leads_elsewhere x now plan s m t o h runs r arguments call (c.count_cells-all.result - 2) p c.cell_under-first.result i none tag c.chase.result
    (λ q. c.chase.ensures.running (here_scene x now plan s m t o h runs) q (here_shown x now plan s m t o h runs) i.at i.owner p.first (followed_stands x now plan s m t o h runs c.cell_under-first.result p.first i)) _ tt (c.in-Ok-Intrinsic.is ∙ ap Ok c.in-Ok-Intrinsic.field-0-is)

pub returns-in-Err : goal.returns-in-Err
returns-in-Err c = λ x plan s m t o h runs r arguments call.
    let now = c.args.cpu.now in
    let n = c.count_cells-all.ensures.count x plan s m t o h runs in
    let p = parts t r arguments call (c.count_cells-all.result - 2) (omega (arith, n, c.if-all-lt2.false)) in
    let none = sym (c.any_original.ensures x plan s m t o h runs (omega (arith, n))) ∙ c.if-any_original.false in
    let i = c.cell_under-first.ensures x plan s m t o h runs (reverse p.words) (r ∷ []) p.first p.stand p.over in
    let tag = sym c.tag.ensures.value ∙ c.if-tag-ne1.false in
    leads_fault x now plan s m t o h runs r arguments call (c.count_cells-all.result - 2) p c.cell_under-first.result i none tag c.chase.result
    (λ q. c.chase.ensures.running (here_scene x now plan s m t o h runs) q (here_shown x now plan s m t o h runs) i.at i.owner p.first (followed_stands x now plan s m t o h runs c.cell_under-first.result p.first i)) c.in-Err.fault c.in-Err.is

pub returns-in-Ok-Proc : goal.returns-in-Ok-Proc
returns-in-Ok-Proc c = λ x plan s m t o h runs r arguments call.
    let now = c.args.cpu.now in
    let n = c.count_cells-all.ensures.count x plan s m t o h runs in
    let p = parts t r arguments call (c.count_cells-all.result - 2) (omega (arith, n, c.if-all-lt2.false)) in
    let none = sym (c.any_original.ensures x plan s m t o h runs (omega (arith, n))) ∙ c.if-any_original.false in
    let i = c.cell_under-first.ensures x plan s m t o h runs (reverse p.words) (r ∷ []) p.first p.stand p.over in
    let tag = sym c.tag.ensures.value ∙ c.if-tag-ne1.false in
    let is = c.in-Ok-Proc.is ∙ ap Ok c.in-Ok-Proc.field-0-is in
    leads_proc x now plan s m t o h runs r arguments call (c.count_cells-all.result - 2) p c.cell_under-first.result i none tag c.chase.result
    (λ q. c.chase.ensures.running (here_scene x now plan s m t o h runs) q (here_shown x now plan s m t o h runs) i.at i.owner p.first (followed_stands x now plan s m t o h runs c.cell_under-first.result p.first i)) c.in-Ok-Proc.cell is c.admit.result
    (λ q. let b = found_at x now plan s m t o h runs r arguments call (c.count_cells-all.result - 2) p c.cell_under-first.result i none tag c.chase.result
    (λ q. c.chase.ensures.running (here_scene x now plan s m t o h runs) q (here_shown x now plan s m t o h runs) i.at i.owner p.first (followed_stands x now plan s m t o h runs c.cell_under-first.result p.first i)) c.in-Ok-Proc.cell is q in
    c.admit.ensures.row (here_scene x now plan s m t o h runs) q b.f b.segment b.level b.place (reached x now plan s m t o h runs r arguments call (c.count_cells-all.result - 2) p c.cell_under-first.result i none tag c.chase.result
    (λ q. c.chase.ensures.running (here_scene x now plan s m t o h runs) q (here_shown x now plan s m t o h runs) i.at i.owner p.first (followed_stands x now plan s m t o h runs c.cell_under-first.result p.first i)) c.in-Ok-Proc.cell is q))
