use Rattle.std.proofs.Common.{arith}
use Rattle.std.proofs.lemmas.Bool.{not-false, not-true}
use Rattle.b67_entry.proofs.CopyRefusals.{read_desc, original_refused, is_copy, own_copy_refused, other_copy_passes}
use Rattle.b67_entry.proofs.refusals.copy_refusal.Goals as goal

pub returns-then-not-d : goal.returns-then-not-d
returns-then-not-d c = λ x plan s m t o h runs v b.
    let d = read_desc x c.args.cpu.now plan s m t o h runs v c.args.word b c.requires.tag c.read-d.result c.read-d.ensures in
    original_refused x c.args.cpu.now plan s m t o h runs v c.args.word b c.requires.tag c.read-d.result d.0 d.1 (not-true _ c.if-not-d.true)

pub owner-home-requires : goal.owner-home-requires
owner-home-requires c =
    let r = c.requires.run.0 in
    let d = read_desc r.storage c.args.cpu.now r.plan r.session r.member r.task r.ordered r.stands r.running c.requires.run.1 c.args.word c.requires.run.2 c.requires.tag c.read-d.result c.read-d.ensures in
    let q = is_copy r.storage c.args.cpu.now r.plan r.session r.member r.task r.ordered r.stands r.running c.requires.run.1 c.args.word c.requires.run.2 c.requires.tag c.read-d.result d.0 d.1 (not-false _ c.if-not-d.false) in
    (q.0, q.1)

pub returns-then-home-cpu : goal.returns-then-home-cpu
returns-then-home-cpu c = λ x plan s m t o h runs v b.
    (let d = read_desc x c.args.cpu.now plan s m t o h runs v c.args.word b c.requires.tag c.read-d.result c.read-d.ensures in
    let q = is_copy x c.args.cpu.now plan s m t o h runs v c.args.word b c.requires.tag c.read-d.result d.0 d.1 (not-false _ c.if-not-d.false) in
    let e = c.owner-home.ensures q.0 q.1 in
    other_copy_passes x c.args.cpu.now plan s m t o h runs v c.args.word b q.0 q.2 (λ low up. omega (arith, low, e, c.if-home-cpu.true)))

pub returns-then-home-cpu-2 : goal.returns-then-home-cpu-2
returns-then-home-cpu-2 c = λ x plan s m t o h runs v b.
    (let d = read_desc x c.args.cpu.now plan s m t o h runs v c.args.word b c.requires.tag c.read-d.result c.read-d.ensures in
    let q = is_copy x c.args.cpu.now plan s m t o h runs v c.args.word b c.requires.tag c.read-d.result d.0 d.1 (not-false _ c.if-not-d.false) in
    let e = c.owner-home.ensures q.0 q.1 in
    other_copy_passes x c.args.cpu.now plan s m t o h runs v c.args.word b q.0 q.2 (λ low up. omega (arith, up, e, c.if-home-cpu-2.true)))

pub returns : goal.returns
returns c = λ x plan s m t o h runs v b.
    (let d = read_desc x c.args.cpu.now plan s m t o h runs v c.args.word b c.requires.tag c.read-d.result c.read-d.ensures in
    let q = is_copy x c.args.cpu.now plan s m t o h runs v c.args.word b c.requires.tag c.read-d.result d.0 d.1 (not-false _ c.if-not-d.false) in
    let e = c.owner-home.ensures q.0 q.1 in
    own_copy_refused x c.args.cpu.now plan s m t o h runs v c.args.word b q.0 q.2 (omega (arith, e, c.if-home-cpu.false)) (omega (arith, e, c.if-home-cpu-2.false)))
