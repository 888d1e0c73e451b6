use Rattle.std.proofs.Common.{◌≡◌, ℕ, ◌+◌, ◌*◌, ◌/◌, ◌%◌, ◌^◌, ◌==◌, refl, ap, ◌∙◌, subst, sym, false}
use Rattle.std.proofs.Math.Bool.{beq}
use Rattle.b67_word.specs.declared.couples.Place.{Place}
use Rattle.b67_model.specs.declared.operators.Op.{Op}
use Rattle.b67_model.specs.Common.{Answer, Done, count_at}
use Rattle.b67_layout.specs.Common.{here, IsMade}
use Rattle.b67_exec_cells.proofs.Rows.{Drops}
use Rattle.b67_exec_cells.proofs.Targets.{branch_taken, branch_passed}
use Rattle.b67_exec.specs.Near.{HoldsCode, branch_op, reader_place}
use Rattle.b67_model.specs.Operators.{branch}
use Rattle.b67_model.specs.Operators.{form_of}
use Rattle.b67_exec.proofs.Wholes.{whole_branch}
use Rattle.b67_exec.proofs.Through.{inside_of, three_on, triple_to, triple_through, drops_operand, goes_to, branch_made, branch_row, aimed}
use Rattle.b67_exec.proofs.arms.branches.Goals as goal

pub behind-requires-2-clause-stands : goal.behind-requires-2-clause-stands
behind-requires-2-clause-stands c =
    let d = c.in-Some.ensures.next 0 (inside_of c.args.cpu.now c.args.reader.now 0 (branch (branch_op false c.args.wanted)) c.requires.runs c.requires.stands c.requires.begins) in
    (0 + 1, d.behind)

pub reads_whole-requires-clause-whole : goal.reads_whole-requires-clause-whole
reads_whole-requires-clause-whole c = whole_branch false c.args.wanted (form_of (c.args.reader.now.bits % 2 ^ 8)) c.requires.begins

pub reads_whole-requires-in-None-behind-clause-whole : goal.reads_whole-requires-in-None-behind-clause-whole
reads_whole-requires-in-None-behind-clause-whole c = whole_branch false c.args.wanted (form_of (c.args.reader.now.bits % 2 ^ 8)) c.requires.begins

pub reads_whole-requires-in-Err-clause-whole : goal.reads_whole-requires-in-Err-clause-whole
reads_whole-requires-in-Err-clause-whole c = whole_branch false c.args.wanted (form_of (c.args.reader.now.bits % 2 ^ 8)) c.requires.begins

pub reads_whole-requires-then-tag-ne0-clause-whole : goal.reads_whole-requires-then-tag-ne0-clause-whole
reads_whole-requires-then-tag-ne0-clause-whole c = whole_branch false c.args.wanted (form_of (c.args.reader.now.bits % 2 ^ 8)) c.requires.begins

pub reads_whole-requires-then-to-ge6-clause-whole : goal.reads_whole-requires-then-to-ge6-clause-whole
reads_whole-requires-then-to-ge6-clause-whole c = whole_branch false c.args.wanted (form_of (c.args.reader.now.bits % 2 ^ 8)) c.requires.begins

pub reader_to-requires-clause-code : goal.reader_to-requires-clause-code
reader_to-requires-clause-code c = c.requires.stands.code

pub drop_cells-requires-clause-cells : goal.drop_cells-requires-clause-cells
drop_cells-requires-clause-cells c = c.in-Ok.ensures.above

pub returns-then-bits-wanted : goal.returns-then-bits-wanted
returns-then-bits-wanted c =
    let old = c.args.cpu.now in
    let new = c.drop_cells.new.cpu in
    let before = c.args.reader.now in
    let wanted = c.args.wanted in
    let to = c.target-to.result in
    let aim = c.reader_to.result in
    let top = c.in-Ok.top in
    let r = c.requires.runs in
    let b = c.requires.stands in
    let d = c.in-Some.ensures.next 0 (inside_of old before 0 (branch (branch_op false c.args.wanted)) r b c.requires.begins) in
    let e = c.in-Some-behind.ensures.next (0 + 1) d in
    let op : ℕ → ℕ → Op = λ high low. branch_op false wanted (record { word = high % 32 * 256 + low; syllable = high / 32 }) in
    let there = aimed old aim to r c.if-to-ge6.false c.reader_to.ensures.at in
    let plain = sym c.tag.ensures.value ∙ c.if-tag-ne0.false in
    let way = ap (λ (n : ℕ). beq (n % 2 == 1) wanted) (sym c.bits.ensures.value) ∙ c.if-bits-wanted.true in
    branch_made old new before aim false wanted to (three_on old) r b
    (triple_to old before b op c.in-Some.second c.in-Some-behind.third c.first.result c.first-then-bits-wanted.result (branch_op false wanted to) c.requires.begins d e c.first.ensures c.first-then-bits-wanted.ensures (ap (branch_op false wanted) c.target-to.ensures))
    (λ x plan s m t ordered h runs.
    let P : Answer Done → Type 0 = λ z. IsMade x plan s m old new z in
    subst P (branch_row wanted to (here m t (three_on old)))
    (branch_taken x old plan s m t wanted to (three_on old) new top (c.in-Ok.ensures.cell x plan s m t ordered h runs) plain way (c.drop_cells.ensures.row x plan s m t ordered h runs)))
    (goes_to r.storage r.plan r.session r.member r.task old new to aim there
    (drops_operand r.storage r.plan r.session r.member r.task old new to top (c.in-Ok.ensures.cell r.storage r.plan r.session r.member r.task r.ordered r.stands r.running) plain (c.drop_cells.ensures.row r.storage r.plan r.session r.member r.task r.ordered r.stands r.running)))
    (subst (HoldsCode old) (sym c.reader_to.ensures.code) b.code) (count_at to + 0) (c.reader_to.ensures.at r.storage r.plan r.session r.member r.task r.ordered r.stands r.running)

pub after-next-requires-clause-stands : goal.after-next-requires-clause-stands
after-next-requires-clause-stands c =
    let d = c.in-Some.ensures.next 0 (inside_of c.args.cpu.now c.args.reader.now 0 (branch (branch_op false c.args.wanted)) c.requires.runs c.requires.stands c.requires.begins) in
    let e = c.in-Some-behind.ensures.next (0 + 1) d in
    (0 + 1 + 1, e.behind)

pub drop_cells-requires-2-clause-cells : goal.drop_cells-requires-2-clause-cells
drop_cells-requires-2-clause-cells c = c.in-Ok.ensures.above

pub returns : goal.returns
returns c =
    let old = c.args.cpu.now in
    let new = c.drop_cells-2.new.cpu in
    let before = c.args.reader.now in
    let wanted = c.args.wanted in
    let next = c.after-next.result in
    let top = c.in-Ok.top in
    let r = c.requires.runs in
    let b = c.requires.stands in
    let d = c.in-Some.ensures.next 0 (inside_of old before 0 (branch (branch_op false c.args.wanted)) r b c.requires.begins) in
    let e = c.in-Some-behind.ensures.next (0 + 1) d in
    let f = c.after-next.ensures (0 + 1 + 1) e in
    let op : ℕ → ℕ → Op = λ high low. branch_op false wanted (record { word = high % 32 * 256 + low; syllable = high / 32 }) in
    let to : Place = record { word = (c.in-Some.second.bits % 2 ^ 8) % 32 * 256 + c.in-Some-behind.third.bits % 2 ^ 8; syllable = (c.in-Some.second.bits % 2 ^ 8) / 32 } in
    let q = reader_place next in
    let plain = sym c.tag.ensures.value ∙ c.if-tag-ne0.false in
    let way = ap (λ (n : ℕ). beq (n % 2 == 1) wanted) (sym c.bits.ensures.value) ∙ c.if-bits-wanted.false in
    let read = triple_through old before b op c.in-Some.second c.in-Some-behind.third next (c.in-Some.second.bits % 2 ^ 8) (c.in-Some-behind.third.bits % 2 ^ 8) (branch_op false wanted to) c.requires.begins d e f refl refl refl in
    let row = c.drop_cells-2.ensures.row in
    let there : c.place.result ≡ q = c.place.ensures in
    branch_made old new before next false wanted to q r b read.reads
    (λ x plan s m t ordered h runs.
    let P : Answer Done → Type 0 = λ z. IsMade x plan s m old new z in
    let D : Place → Type 0 = λ p. Drops x old plan s m t p 1 new in
    subst P (branch_row wanted to (here m t q))
    (branch_passed x old plan s m t wanted to q new top (c.in-Ok.ensures.cell x plan s m t ordered h runs) plain way (subst D there (row x plan s m t ordered h runs))))
    (goes_to r.storage r.plan r.session r.member r.task old new c.place.result next (sym there)
    (drops_operand r.storage r.plan r.session r.member r.task old new c.place.result top (c.in-Ok.ensures.cell r.storage r.plan r.session r.member r.task r.ordered r.stands r.running) plain (row r.storage r.plan r.session r.member r.task r.ordered r.stands r.running)))
    f.code (count_at r.task.place + (0 + 1 + 1 + 1)) (f.at r.storage r.plan r.session r.member r.task r.ordered r.stands r.running)
