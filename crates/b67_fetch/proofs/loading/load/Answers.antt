use Rattle.std.proofs.Common.{[], ◌∷◌, ◌+◌, ◌-◌, refl}
use Rattle.b67_model.specs.Words.{Row}
use Rattle.b67_model.specs.Chase.{follow}
use Rattle.b67_model.specs.Rows as rows
use Rattle.b67_layout.specs.Meets.{here}
use Rattle.b67_fetch.proofs.Values.{top_followed, some_end, holds_array, followed_plain, refused, load_missing, load_at_top, load_row, copy_row}
use Rattle.b67_stack.specs.declared.Step.TheVariants as step
use Rattle.b67_fetch.proofs.loading.load.Goals as goal

pub returns-in-Err-clause-row : goal.returns-in-Err-clause-row
returns-in-Err-clause-row c = λ x plan s m t ordered h runs. load_missing x plan s m t c.args.next c.args.cpu.now c.in-Err.fault (c.in-Err.ensures.cell x plan s m t ordered h runs)

pub end_of-requires : goal.end_of-requires
end_of-requires c =
    let q = c.requires in
    let a = top_followed q.storage c.args.cpu.now q.plan q.session q.member q.task c.in-Ok.word q.ordered q.running (c.in-Ok.ensures.cell q.storage q.plan q.session q.member q.task q.ordered q.stands q.running) in
    record { runs = q; word = a.word; followed = a.followed }

pub returns-in-Err-end_of-clause-row : goal.returns-in-Err-end_of-clause-row
returns-in-Err-end_of-clause-row c = λ x plan s m t ordered h runs.
    let a = top_followed x c.args.cpu.now plan s m t c.in-Ok.word ordered runs (c.in-Ok.ensures.cell x plan s m t ordered h runs) in
    load_at_top x plan s m t c.args.next c.args.cpu.now (step.Fault c.in-Err-end_of.fault) c.args.cpu.now a.word a.rest a.is
    (refused x plan s m t c.args.next c.args.cpu.now (λ f. rows.load_at (here m t c.args.next) a.rest f) c.in-Err-end_of.fault (follow (here m t c.args.next) a.word) (c.in-Err-end_of.ensures x plan s m t ordered h runs c.args.next a.word a.followed))

pub row_copy-copy-requires : goal.row_copy-copy-requires
row_copy-copy-requires c =
    let q = c.requires in
    let a = top_followed q.storage c.args.cpu.now q.plan q.session q.member q.task c.in-Ok.word q.ordered q.running (c.in-Ok.ensures.cell q.storage q.plan q.session q.member q.task q.ordered q.stands q.running) in (
      0,
      holds_array c.args.cpu.now c.in-Ok-end_of.end c.in-Array.original (some_end c.args.cpu.now q c.in-Ok-end_of.end (follow (here q.member q.task c.args.next) a.word)
          (c.in-Ok-end_of.ensures q.storage q.plan q.session q.member q.task q.ordered q.stands q.running c.args.next a.word a.followed)) c.in-Array.is,
    )

pub value-requires-clause-end : goal.value-requires-clause-end
value-requires-clause-end c =
    let q = c.requires in
    let a = top_followed q.storage c.args.cpu.now q.plan q.session q.member q.task c.in-Ok.word q.ordered q.running (c.in-Ok.ensures.cell q.storage q.plan q.session q.member q.task q.ordered q.stands q.running) in
    some_end c.args.cpu.now q c.in-Ok-end_of.end (follow (here q.member q.task c.args.next) a.word)
    (c.in-Ok-end_of.ensures q.storage q.plan q.session q.member q.task q.ordered q.stands q.running c.args.next a.word a.followed)

pub returns-in-Array-clause-row : goal.returns-in-Array-clause-row
returns-in-Array-clause-row c = λ x plan s m t ordered h runs.
    let old = c.args.cpu.now in
    let q = c.args.next in
    let a = top_followed x old plan s m t c.in-Ok.word ordered runs (c.in-Ok.ensures.cell x plan s m t ordered h runs) in
    load_at_top x plan s m t q old c.replace_cells.result c.replace_cells.new.cpu a.word a.rest a.is
    (copy_row x plan s m t q old a.rest c.replace_cells.result c.replace_cells.new.cpu c.in-Ok-end_of.end c.in-Array.original (follow (here m t q) a.word) c.in-Array.is (c.in-Ok-end_of.ensures x plan s m t ordered h runs q a.word a.followed)
    (λ f e n home el. c.replace_cells.ensures.row x plan s m t ordered h runs (a.word ∷ []) a.rest (Row n) a.is refl (followed_plain x m t q a.word f e, tt) (record { item = el.item; live = el.live; named = el.named })
    (c.row_copy-copy.ensures x plan s m t ordered h runs n 0 (old.regs.s - 1 + 1) home el)))

pub returns-in_default-clause-row : goal.returns-in_default-clause-row
returns-in_default-clause-row c = λ x plan s m t ordered h runs.
    let old = c.args.cpu.now in
    let q = c.args.next in
    let a = top_followed x old plan s m t c.in-Ok.word ordered runs (c.in-Ok.ensures.cell x plan s m t ordered h runs) in
    load_at_top x plan s m t q old c.value.result c.value.new.cpu a.word a.rest a.is
    (load_row x plan s m t q old a.rest c.value.result c.value.new.cpu c.in-Ok-end_of.end (follow (here m t q) a.word) (c.in-Ok-end_of.ensures x plan s m t ordered h runs q a.word a.followed) c.in_default.not-Array
    (λ f e is. c.value.ensures.row x plan s m t ordered h runs (a.word ∷ []) a.rest f a.is refl (followed_plain x m t q a.word f e, tt) is))
