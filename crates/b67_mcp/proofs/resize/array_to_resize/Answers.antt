use Rattle.std.proofs.Common.{sym, ◌∙◌}
use Rattle.std.proofs.lemmas.Result.{err_from_is_err_and}
use Rattle.std.proofs.lemmas.Bool.{not-false, not-true}
use Rattle.b67_layout.proofs.Fresh.{running_in_order}
use Rattle.b67_fetch.proofs.Items.{two_followed}
use Rattle.b67_mcp.proofs.Writables.{copy_of, element_of, pair_is, resize_not_two, resize_no_copy, resize_no_length, resize_protected, resize_critical, resizes_absent, resizes_present, length_seen, two_of_three}
use Rattle.b67_mcp.proofs.resize.array_to_resize.Goals as goal

pub returns-then-count_cells-ne3 : goal.returns-then-count_cells-ne3
returns-then-count_cells-ne3 c = record {
  row = λ x plan s m t o h runs r arguments call. (λ next. resize_not_two m t r arguments call next (λ e. c.if-count_cells-ne3.true (c.count_cells.ensures.count x plan s m t o h runs ∙ e)));
}

pub returns-in_err-copy : goal.returns-in_err-copy
returns-in_err-copy c =
    let failed = err_from_is_err_and c.from_residual.result c.from_residual.ensures.1 in
    rw (failed.1, failed.2) (record {
      row = λ x plan s m t o h runs r arguments call.
          absurd (two_of_three x plan m t c.args.cpu.now c.in_err-copy.field-0.0 (sym (c.count_cells.ensures.count x plan s m t o h runs) ∙ c.if-count_cells-ne3.false) (c.in_err-copy.ensures.cells x plan s m t o h runs));
    })

pub copied-requires : goal.copied-requires
copied-requires c =
    let q = c.requires.runs in
    let two = two_followed q.storage c.args.cpu.now q.plan q.session q.member q.task c.in_ok-copy.copy c.in_ok-copy.number q.ordered q.running (c.in_ok-copy.ensures.cells q.storage q.plan q.session q.member q.task q.ordered q.stands q.running) in
    record { runs = q; word = two.lower; followed = two.second }

pub returns-in_err-original : goal.returns-in_err-original
returns-in_err-original c =
    let failed = err_from_is_err_and c.from_residual-in_err-original.result c.from_residual-in_err-original.ensures.1 in
    rw (failed.1, failed.2) (record {
      row = λ x plan s m t o h runs r arguments call.
          (let u = c.in_ok-copy.copy in
          let v = c.in_ok-copy.number in
          let two = two_followed x c.args.cpu.now plan s m t u v o runs (c.in_ok-copy.ensures.cells x plan s m t o h runs) in
          let three = sym (c.count_cells.ensures.count x plan s m t o h runs) ∙ c.if-count_cells-ne3.false in
          let pair = pair_is m t r arguments call x plan u v three two in
          resize_no_copy m t r arguments call plan two.lower two.upper pair c.in_err-original.field-0.0 (c.in_err-original.ensures x plan s m t o h runs two.lower two.second));
    })

pub returns-in_err-after : goal.returns-in_err-after
returns-in_err-after c =
    let failed = err_from_is_err_and c.from_residual-in_err-after.result c.from_residual-in_err-after.ensures.1 in
    rw (failed.1, failed.2) (record {
      row = λ x plan s m t o h runs r arguments call.
          (let u = c.in_ok-copy.copy in
          let v = c.in_ok-copy.number in
          let two = two_followed x c.args.cpu.now plan s m t u v o runs (c.in_ok-copy.ensures.cells x plan s m t o h runs) in
          let three = sym (c.count_cells.ensures.count x plan s m t o h runs) ∙ c.if-count_cells-ne3.false in
          let pair = pair_is m t r arguments call x plan u v three two in
          let k = copy_of plan m two.lower c.in_ok-original.original (c.in_ok-original.ensures x plan s m t o h runs two.lower two.second) in
          resize_no_length m t r arguments call x c.args.cpu.now plan s o h runs two.lower c.in_ok-original.original k two.upper c.in_err-after.field-0.0 pair
          (sym (length_seen m t r arguments call x plan v two.upper two.top) ∙ sym c.in_err-after.ensures.value));
    })

pub array_descriptor-desc-requires : goal.array_descriptor-desc-requires
array_descriptor-desc-requires c =
    let q = c.requires.runs in
    let two = two_followed q.storage c.args.cpu.now q.plan q.session q.member q.task c.in_ok-copy.copy c.in_ok-copy.number q.ordered q.running (c.in_ok-copy.ensures.cells q.storage q.plan q.session q.member q.task q.ordered q.stands q.running) in
    let k = copy_of q.plan q.member two.lower c.in_ok-original.original (c.in_ok-original.ensures q.storage q.plan q.session q.member q.task q.ordered q.stands q.running two.lower two.second) in
    (0, record { runs = q; number = k.item.identity; home = k.home; element = element_of q.plan q.member two.lower c.in_ok-original.original k })

pub returns-then-desc : goal.returns-then-desc
returns-then-desc c = record {
  row = λ x plan s m t o h runs r arguments call.
      (let u = c.in_ok-copy.copy in
      let v = c.in_ok-copy.number in
      let two = two_followed x c.args.cpu.now plan s m t u v o runs (c.in_ok-copy.ensures.cells x plan s m t o h runs) in
      let three = sym (c.count_cells.ensures.count x plan s m t o h runs) ∙ c.if-count_cells-ne3.false in
      let pair = pair_is m t r arguments call x plan u v three two in
      let original = c.in_ok-original.original in
      let k = copy_of plan m two.lower original (c.in_ok-original.ensures x plan s m t o h runs two.lower two.second) in
      let is = c.array_descriptor-desc.ensures x plan s m t o h runs k.item.identity 0 k.home (element_of plan m two.lower original k) in
      resize_protected m t r arguments call x c.args.cpu.now plan s o h runs two.lower original k c.array_descriptor-desc.result is two.upper pair c.in_ok-after.after
      (sym (length_seen m t r arguments call x plan v two.upper two.top) ∙ sym c.in_ok-after.ensures.value) c.if-desc.true);
}

pub returns-then-is_critical : goal.returns-then-is_critical
returns-then-is_critical c = record {
  row = λ x plan s m t o h runs r arguments call.
      (let u = c.in_ok-copy.copy in
      let v = c.in_ok-copy.number in
      let two = two_followed x c.args.cpu.now plan s m t u v o runs (c.in_ok-copy.ensures.cells x plan s m t o h runs) in
      let three = sym (c.count_cells.ensures.count x plan s m t o h runs) ∙ c.if-count_cells-ne3.false in
      let pair = pair_is m t r arguments call x plan u v three two in
      let original = c.in_ok-original.original in
      let k = copy_of plan m two.lower original (c.in_ok-original.ensures x plan s m t o h runs two.lower two.second) in
      let is = c.array_descriptor-desc.ensures x plan s m t o h runs k.item.identity 0 k.home (element_of plan m two.lower original k) in
      resize_critical m t r arguments call x c.args.cpu.now plan s o h runs two.lower original k c.array_descriptor-desc.result is two.upper pair c.in_ok-after.after
      (sym (length_seen m t r arguments call x plan v two.upper two.top) ∙ sym c.in_ok-after.ensures.value) c.if-desc.false
      (sym (c.is_critical.ensures x plan s m t o h runs) ∙ c.if-is_critical.true));
}

pub returns-then-not-desc : goal.returns-then-not-desc
returns-then-not-desc c = record {
  row = λ x plan s m t o h runs r arguments call.
      (let u = c.in_ok-copy.copy in
      let v = c.in_ok-copy.number in
      let two = two_followed x c.args.cpu.now plan s m t u v o runs (c.in_ok-copy.ensures.cells x plan s m t o h runs) in
      let three = sym (c.count_cells.ensures.count x plan s m t o h runs) ∙ c.if-count_cells-ne3.false in
      let pair = pair_is m t r arguments call x plan u v three two in
      let original = c.in_ok-original.original in
      let k = copy_of plan m two.lower original (c.in_ok-original.ensures x plan s m t o h runs two.lower two.second) in
      let d = c.array_descriptor-desc.result in
      let is = c.array_descriptor-desc.ensures x plan s m t o h runs k.item.identity 0 k.home (element_of plan m two.lower original k) in
      resizes_absent m t r arguments call x c.args.cpu.now plan s o h runs two.lower original k d is two.upper pair c.in_ok-after.after
      (sym (length_seen m t r arguments call x plan v two.upper two.top) ∙ sym c.in_ok-after.ensures.value) c.in_ok-after.ensures.bounds c.if-desc.false
      (sym (c.is_critical.ensures x plan s m t o h runs) ∙ c.if-is_critical.false) (running_in_order plan s m t o runs).1.not_higher (not-true d.present c.if-not-desc.true));
}

pub returns : goal.returns
returns c = record {
  row = λ x plan s m t o h runs r arguments call.
      (let u = c.in_ok-copy.copy in
      let v = c.in_ok-copy.number in
      let two = two_followed x c.args.cpu.now plan s m t u v o runs (c.in_ok-copy.ensures.cells x plan s m t o h runs) in
      let three = sym (c.count_cells.ensures.count x plan s m t o h runs) ∙ c.if-count_cells-ne3.false in
      let pair = pair_is m t r arguments call x plan u v three two in
      let original = c.in_ok-original.original in
      let k = copy_of plan m two.lower original (c.in_ok-original.ensures x plan s m t o h runs two.lower two.second) in
      let d = c.array_descriptor-desc.result in
      let is = c.array_descriptor-desc.ensures x plan s m t o h runs k.item.identity 0 k.home (element_of plan m two.lower original k) in
      resizes_present m t r arguments call x c.args.cpu.now plan s o h runs two.lower original k d is two.upper pair c.in_ok-after.after
      (sym (length_seen m t r arguments call x plan v two.upper two.top) ∙ sym c.in_ok-after.ensures.value) c.in_ok-after.ensures.bounds c.if-desc.false
      (sym (c.is_critical.ensures x plan s m t o h runs) ∙ c.if-is_critical.false) (running_in_order plan s m t o runs).1.not_higher (not-false d.present c.if-not-desc.false));
}
