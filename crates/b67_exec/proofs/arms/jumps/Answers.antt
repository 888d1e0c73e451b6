use Rattle.std.proofs.Common.{ℕ, ◌+◌, ◌*◌, ◌%◌, ◌/◌, ◌^◌, [], refl, ap, subst, sym, true}
use Rattle.b67_model.specs.declared.operators.Op.{Op}
use Rattle.b67_model.specs.Common.{count_at}
use Rattle.b67_layout.specs.Tops.{cells}
use Rattle.b67_exec_cells.proofs.Rows.{marked}
use Rattle.b67_exec.specs.Near.{HoldsCode, branch_op}
use Rattle.b67_model.specs.Operators.{branch}
use Rattle.b67_model.specs.Operators.{form_of}
use Rattle.b67_exec.proofs.Wholes.{whole_branch}
use Rattle.b67_exec.proofs.Through.{inside_of, three_on, triple_to, drops_none, goes_to, branch_made, aimed}
use Rattle.b67_exec.proofs.arms.jumps.Goals as goal

pub behind-requires-2-clause-stands : goal.behind-requires-2-clause-stands
behind-requires-2-clause-stands c =
    let d = c.in-Some.ensures.next 0 (inside_of c.args.cpu.now c.args.reader.now 0 (branch (branch_op true true)) c.requires.runs c.requires.stands c.requires.begins) in
    (0 + 1, d.behind)

pub reads_whole-requires-clause-whole : goal.reads_whole-requires-clause-whole
reads_whole-requires-clause-whole c = whole_branch true true (form_of (c.args.reader.now.bits % 2 ^ 8)) c.requires.begins

pub reads_whole-requires-in-None-behind-clause-whole : goal.reads_whole-requires-in-None-behind-clause-whole
reads_whole-requires-in-None-behind-clause-whole c = whole_branch true true (form_of (c.args.reader.now.bits % 2 ^ 8)) c.requires.begins

pub reads_whole-requires-then-to-ge6-clause-whole : goal.reads_whole-requires-then-to-ge6-clause-whole
reads_whole-requires-then-to-ge6-clause-whole c = whole_branch true true (form_of (c.args.reader.now.bits % 2 ^ 8)) c.requires.begins

pub reader_to-requires-clause-code : goal.reader_to-requires-clause-code
reader_to-requires-clause-code c = c.requires.stands.code

pub drop_cells-requires-clause-cells : goal.drop_cells-requires-clause-cells
drop_cells-requires-clause-cells c = marked c.args.cpu.now c.requires.runs

pub returns : goal.returns
returns c =
    let old = c.args.cpu.now in
    let new = c.drop_cells.new.cpu in
    let before = c.args.reader.now in
    let to = c.target-to.result in
    let aim = c.reader_to.result in
    let r = c.requires.runs in
    let b = c.requires.stands in
    let d = c.in-Some.ensures.next 0 (inside_of old before 0 (branch (branch_op true true)) r b c.requires.begins) in
    let e = c.in-Some-behind.ensures.next (0 + 1) d in
    let op : ℕ → ℕ → Op = λ high low. branch_op true true (record { word = high % 32 * 256 + low; syllable = high / 32 }) in
    let there = aimed old aim to r c.if-to-ge6.false c.reader_to.ensures.at in
    branch_made old new before aim true true to (three_on old) r b
    (triple_to old before b op c.in-Some.second c.in-Some-behind.third c.first.result c.first-2.result (branch_op true true to) c.requires.begins d e c.first.ensures c.first-2.ensures (ap (branch_op true true) c.target-to.ensures))
    (λ x plan s m t ordered h runs. c.drop_cells.ensures.row x plan s m t ordered h runs [] (cells t) refl refl tt)
    (goes_to r.storage r.plan r.session r.member r.task old new to aim there (drops_none r.storage r.plan r.session r.member r.task old new to (c.drop_cells.ensures.row r.storage r.plan r.session r.member r.task r.ordered r.stands r.running)))
    (subst (HoldsCode old) (sym c.reader_to.ensures.code) b.code) (count_at to + 0) (c.reader_to.ensures.at r.storage r.plan r.session r.member r.task r.ordered r.stands r.running)
