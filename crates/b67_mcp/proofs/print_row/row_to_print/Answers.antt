use Rattle.std.proofs.Common.{ℕ, ◌+◌, ◌≤◌, List, [], ◌∷◌, length, sym, ◌∙◌, ap, arith}
use Rattle.std.proofs.lemmas.Result.{err_from_is_err_and}
use Rattle.std.specs.List.{slice_range}
use Rattle.std.proofs.lemmas.Bool.{not-false, not-true}
use Rattle.b67_word.specs.Tagged.{Tagged}
use Rattle.b67_ctl.specs.declared.descriptors.DataDesc.{DataDesc}
use Rattle.b67_model.specs.Words.{Row}
use Rattle.b67_layout.specs.Meets.{area_held}
use Rattle.b67_layout.proofs.Fresh.{running_in_order}
use Rattle.b67_exec_cells.proofs.Arrays.{absent, present, area-inside}
use Rattle.b67_mcp.specs.Texts.{values_of, is_some}
use Rattle.b67_mcp.proofs.RowWords.{row_words}
use Rattle.b67_mcp.proofs.Founds.{two_cells, not_whole, critical, row_is, copies_present}
use Rattle.b67_mcp.proofs.print_row.row_to_print.Goals as goal

pub array_descriptor-desc-requires : goal.array_descriptor-desc-requires
array_descriptor-desc-requires c =
    let q = c.requires.runs in
    let k = c.in_ok-original.ensures.row q.storage q.plan q.session q.member q.task q.ordered q.stands q.running c.requires.reference c.requires.arguments c.requires.call in
    (0, record { runs = q; number = k.array; home = k.home; element = k.some })

pub returns-then-not-desc-clause-row : goal.returns-then-not-desc-clause-row
returns-then-not-desc-clause-row c = λ x plan s m t o h runs r arguments call.
    (let k = c.in_ok-original.ensures.row x plan s m t o h runs r arguments call in
    let d = c.array_descriptor-desc.result in
    let is = c.array_descriptor-desc.ensures x plan s m t o h runs k.array 0 k.home k.some in
    record {
      array = k.some.item;
      among = k.some.live;
      are = k.are ∙ ap (λ (i : ℕ). Row i ∷ []) (sym k.some.named);
      home = k.home ∙ ap (plan.home m.constants.number) (sym k.some.named);
      absent = ap (area_held x plan m.constants.number) k.some.named ∙ absent x c.args.cpu.now plan s m t o h runs k.array 0 k.some d is (not-true d.present c.if-not-desc.true);
    })

pub words-requires : goal.words-requires
words-requires c =
    let q = c.requires.runs in
    let cpu = c.args.cpu.now in
    let k = c.in_ok-original.ensures.row q.storage q.plan q.session q.member q.task q.ordered q.stands q.running c.requires.reference c.requires.arguments c.requires.call in
    let d = c.array_descriptor-desc.result in
    let is = c.array_descriptor-desc.ensures q.storage q.plan q.session q.member q.task q.ordered q.stands q.running k.array 0 k.home k.some in
    let on = present q.storage cpu q.plan q.session q.member q.task q.ordered q.stands q.running k.array 0 k.some d is (not-false d.present c.if-not-desc.false) in
    let inside = area-inside q.storage cpu q.plan q.session q.member q.task q.ordered q.stands q.running k.array 0 k.some d.address on in
    omega (arith, inside, ap (λ (z : DataDesc). z.length) is)

pub returns-then-not-are_whole-clause-row : goal.returns-then-not-are_whole-clause-row
returns-then-not-are_whole-clause-row c = λ x plan s m t o h runs r arguments call.
    (let cpu = c.args.cpu.now in
    let k = c.in_ok-original.ensures.row x plan s m t o h runs r arguments call in
    let d = c.array_descriptor-desc.result in
    let is = c.array_descriptor-desc.ensures x plan s m t o h runs k.array 0 k.home k.some in
    let on = present x cpu plan s m t o h runs k.array 0 k.some d is (not-false d.present c.if-not-desc.false) in
    let lies = ap (λ (n : ℕ). slice_range cpu.core d.address (d.address + n)) (ap (λ (z : DataDesc). z.length) is) ∙ row_words x cpu plan s m t o h runs k.array k.some d.address on in
    let none = sym (ap (λ (ws : List Tagged). is_some (values_of ws)) c.words.ensures) ∙ sym c.are_whole.ensures ∙ c.if-not-are_whole.true in
    not_whole plan m t r arguments call c.in_ok-original.original k cpu.core d.address d.length lies none)

pub returns-then-not-are_whole-clause-present : goal.returns-then-not-are_whole-clause-present
returns-then-not-are_whole-clause-present c = λ x plan s m t o h runs r arguments call.
    (let k = c.in_ok-original.ensures.row x plan s m t o h runs r arguments call in
    let d = c.array_descriptor-desc.result in
    let is = c.array_descriptor-desc.ensures x plan s m t o h runs k.array 0 k.home k.some in
    copies_present x plan m arguments c.in_ok-original.original d.address k (present x c.args.cpu.now plan s m t o h runs k.array 0 k.some d is (not-false d.present c.if-not-desc.false)))

pub returns-then-is_critical-clause-row : goal.returns-then-is_critical-clause-row
returns-then-is_critical-clause-row c = λ x plan s m t o h runs r arguments call.
    (let cpu = c.args.cpu.now in
    let k = c.in_ok-original.ensures.row x plan s m t o h runs r arguments call in
    let d = c.array_descriptor-desc.result in
    let is = c.array_descriptor-desc.ensures x plan s m t o h runs k.array 0 k.home k.some in
    let on = present x cpu plan s m t o h runs k.array 0 k.some d is (not-false d.present c.if-not-desc.false) in
    let lies = ap (λ (n : ℕ). slice_range cpu.core d.address (d.address + n)) (ap (λ (z : DataDesc). z.length) is) ∙ row_words x cpu plan s m t o h runs k.array k.some d.address on in
    let some = sym (ap (λ (ws : List Tagged). is_some (values_of ws)) c.words.ensures) ∙ sym c.are_whole.ensures ∙ c.if-not-are_whole.false in
    critical plan m t r arguments call c.in_ok-original.original k cpu.core d.address d.length lies some (sym (c.is_critical.ensures x plan s m t o h runs) ∙ c.if-is_critical.true))

pub returns-then-is_critical-clause-present : goal.returns-then-is_critical-clause-present
returns-then-is_critical-clause-present c = λ x plan s m t o h runs r arguments call.
    (let k = c.in_ok-original.ensures.row x plan s m t o h runs r arguments call in
    let d = c.array_descriptor-desc.result in
    let is = c.array_descriptor-desc.ensures x plan s m t o h runs k.array 0 k.home k.some in
    copies_present x plan m arguments c.in_ok-original.original d.address k (present x c.args.cpu.now plan s m t o h runs k.array 0 k.some d is (not-false d.present c.if-not-desc.false)))

pub returns-clause-row : goal.returns-clause-row
returns-clause-row c = λ x plan s m t o h runs r arguments call.
    (let cpu = c.args.cpu.now in
    let k = c.in_ok-original.ensures.row x plan s m t o h runs r arguments call in
    let d = c.array_descriptor-desc.result in
    let is = c.array_descriptor-desc.ensures x plan s m t o h runs k.array 0 k.home k.some in
    let on = present x cpu plan s m t o h runs k.array 0 k.some d is (not-false d.present c.if-not-desc.false) in
    let long = ap (λ (z : DataDesc). z.length) is in
    let lies = ap (λ (n : ℕ). slice_range cpu.core d.address (d.address + n)) long ∙ row_words x cpu plan s m t o h runs k.array k.some d.address on in
    let some = sym (ap (λ (ws : List Tagged). is_some (values_of ws)) c.words.ensures) ∙ sym c.are_whole.ensures ∙ c.if-not-are_whole.false in
    let inside : d.address + d.length ≤ length cpu.core = (let i = area-inside x cpu plan s m t o h runs k.array 0 k.some d.address on in omega (arith, i, long)) in
    row_is plan m t r arguments call c.in_ok-original.original k cpu.core d.address d.length lies inside some (sym (c.is_critical.ensures x plan s m t o h runs) ∙ c.if-is_critical.false)
    (running_in_order plan s m t o runs).1.not_higher (two_cells t r arguments k.array call k.are))

pub returns-clause-present : goal.returns-clause-present
returns-clause-present c = λ x plan s m t o h runs r arguments call.
    (let k = c.in_ok-original.ensures.row x plan s m t o h runs r arguments call in
    let d = c.array_descriptor-desc.result in
    let is = c.array_descriptor-desc.ensures x plan s m t o h runs k.array 0 k.home k.some in
    copies_present x plan m arguments c.in_ok-original.original d.address k (present x c.args.cpu.now plan s m t o h runs k.array 0 k.some d is (not-false d.present c.if-not-desc.false)))

pub returns-in_err-original-clause-row : goal.returns-in_err-original-clause-row
returns-in_err-original-clause-row c =
    let failed = err_from_is_err_and c.from_residual.result c.from_residual.ensures.1 in
    rw (failed.1, failed.2) (λ x plan s m t o h runs r arguments call. c.in_err-original.ensures.row x plan s m t o h runs r arguments call)

pub returns-in_err-original-clause-present : goal.returns-in_err-original-clause-present
returns-in_err-original-clause-present c =
    let failed = err_from_is_err_and c.from_residual.result c.from_residual.ensures.1 in
    rw failed.1 (λ x plan s m t o h runs r arguments call. (λ a e. absurd (c.in_err-original.ensures.copies x plan s m t o h runs r arguments call a e)))
