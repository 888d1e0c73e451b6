use Rattle.std.proofs.Common.{[], refl, arith}
use Rattle.b67_model.specs.Common.{Name, follow, evaluates}
use Rattle.b67_layout.specs.Meets.{here}
use Rattle.b67_layout.specs.Tops.{cells}
use Rattle.b67_exec_cells.proofs.Put.{room}
use Rattle.b67_fetch.proofs.Values.{couple_followed, some_end, refused, valc_row}
use Rattle.b67_fetch.proofs.loading.valc.Goals as goal

pub end_of-requires : goal.end_of-requires
end_of-requires c =
    let q = c.requires.runs in
    record { runs = q; word = Name c.args.couple; followed = couple_followed q.storage q.plan q.member q.task c.args.couple c.word.result c.requires.couple c.word.ensures }

pub value-requires-clause-end : goal.value-requires-clause-end
value-requires-clause-end c =
    let q = c.requires.runs in
    some_end c.args.cpu.now q c.in-Ok.end (follow (here q.member q.task c.args.next) (Name c.args.couple))
    (c.in-Ok.ensures q.storage q.plan q.session q.member q.task q.ordered q.stands q.running c.args.next (Name c.args.couple) (couple_followed q.storage q.plan q.member q.task c.args.couple c.word.result c.requires.couple c.word.ensures))

pub value-requires-clause-cells : goal.value-requires-clause-cells
value-requires-clause-cells c = let q = c.requires.runs in let r = (room q.storage c.args.cpu.now q.plan q.session q.member q.task q.ordered q.stands q.running).top in omega (arith, r)

pub returns-in-Ok-clause-row : goal.returns-in-Ok-clause-row
returns-in-Ok-clause-row c = λ x plan s m t ordered h runs.
    let i = couple_followed x plan m t c.args.couple c.word.result c.requires.couple c.word.ensures in
    valc_row x plan s m t c.args.next c.args.cpu.now c.value.result c.value.new.cpu c.in-Ok.end (follow (here m t c.args.next) (Name c.args.couple)) (c.in-Ok.ensures x plan s m t ordered h runs c.args.next (Name c.args.couple) i)
    (λ f is. c.value.ensures.row x plan s m t ordered h runs [] (cells t) f refl refl tt is)

pub returns-in-Err-clause-row : goal.returns-in-Err-clause-row
returns-in-Err-clause-row c = λ x plan s m t ordered h runs.
    let i = couple_followed x plan m t c.args.couple c.word.result c.requires.couple c.word.ensures in
    refused x plan s m t c.args.next c.args.cpu.now (λ f. evaluates (here m t c.args.next) f) c.in-Err.fault (follow (here m t c.args.next) (Name c.args.couple)) (c.in-Err.ensures x plan s m t ordered h runs c.args.next (Name c.args.couple) i)
