use Rattle.std.proofs.Common.{Err, sym, ◌∙◌, subst}
use Rattle.std.proofs.lemmas.Result.{err_from_is_err_and}
use Rattle.b67_word.specs.declared.faults.Fault.{Fault}
use Rattle.b67_layout.proofs.Fresh.{running_in_order}
use Rattle.b67_fetch.proofs.Values.{top_followed}
use Rattle.b67_mcp.specs.Lengthening.{EmptyMeets}
use Rattle.b67_mcp.proofs.Writables.{copy_of, element_of, only_is, empty_not_one, empty_no_copy, empty_protected, empty_critical, empties}
use Rattle.b67_mcp.proofs.deallocate.array_to_empty.Goals as goal

pub returns-in_err-w : goal.returns-in_err-w
returns-in_err-w c =
    let failed = err_from_is_err_and c.from_residual.result c.from_residual.ensures.1 in
    rw (failed.1, failed.2) (record {
      row = λ x plan s m t o h runs r arguments call.
          (let none = c.in_err-w.ensures x plan s m t o h runs in
          subst (λ (f : Fault). EmptyMeets plan m t arguments (Err f)) (sym none.1) (empty_not_one m t r arguments call plan none.0));
    })

pub copied-requires : goal.copied-requires
copied-requires c =
    let q = c.requires.runs in
    let there = (c.in_ok-w.ensures q.storage q.plan q.session q.member q.task q.ordered q.stands q.running).1 in
    let a = top_followed q.storage c.args.cpu.now q.plan q.session q.member q.task c.in_ok-w.w q.ordered q.running there in
    record { runs = q; word = a.word; followed = a.followed }

pub returns-in_err-original : goal.returns-in_err-original
returns-in_err-original c =
    let failed = err_from_is_err_and c.from_residual-in_err-original.result c.from_residual-in_err-original.ensures.1 in
    rw (failed.1, failed.2) (record {
      row = λ x plan s m t o h runs r arguments call.
          (let (two, there) = c.in_ok-w.ensures x plan s m t o h runs in
          let a = top_followed x c.args.cpu.now plan s m t c.in_ok-w.w o runs there in
          empty_no_copy m t r arguments call plan a.word (only_is m t r arguments call x plan c.in_ok-w.w two a) c.in_err-original.field-0.0 (c.in_err-original.ensures x plan s m t o h runs a.word a.followed));
    })

pub array_descriptor-desc-requires : goal.array_descriptor-desc-requires
array_descriptor-desc-requires c =
    let q = c.requires.runs in
    let there = (c.in_ok-w.ensures q.storage q.plan q.session q.member q.task q.ordered q.stands q.running).1 in
    let a = top_followed q.storage c.args.cpu.now q.plan q.session q.member q.task c.in_ok-w.w q.ordered q.running there in
    let k = copy_of q.plan q.member a.word c.in_ok-original.original (c.in_ok-original.ensures q.storage q.plan q.session q.member q.task q.ordered q.stands q.running a.word a.followed) in
    (0, record { runs = q; number = k.item.identity; home = k.home; element = element_of q.plan q.member a.word c.in_ok-original.original k })

pub returns-then-desc : goal.returns-then-desc
returns-then-desc c = record {
  row = λ x plan s m t o h runs r arguments call.
      (let (two, there) = c.in_ok-w.ensures x plan s m t o h runs in
      let a = top_followed x c.args.cpu.now plan s m t c.in_ok-w.w o runs there in
      let original = c.in_ok-original.original in
      let k = copy_of plan m a.word original (c.in_ok-original.ensures x plan s m t o h runs a.word a.followed) in
      let is = c.array_descriptor-desc.ensures x plan s m t o h runs k.item.identity 0 k.home (element_of plan m a.word original k) in
      empty_protected m t r arguments call x c.args.cpu.now plan s o h runs a.word original k c.array_descriptor-desc.result is (only_is m t r arguments call x plan c.in_ok-w.w two a) c.if-desc.true);
}

pub returns-then-is_critical : goal.returns-then-is_critical
returns-then-is_critical c = record {
  row = λ x plan s m t o h runs r arguments call.
      (let (two, there) = c.in_ok-w.ensures x plan s m t o h runs in
      let a = top_followed x c.args.cpu.now plan s m t c.in_ok-w.w o runs there in
      let original = c.in_ok-original.original in
      let k = copy_of plan m a.word original (c.in_ok-original.ensures x plan s m t o h runs a.word a.followed) in
      let is = c.array_descriptor-desc.ensures x plan s m t o h runs k.item.identity 0 k.home (element_of plan m a.word original k) in
      empty_critical m t r arguments call x c.args.cpu.now plan s o h runs a.word original k c.array_descriptor-desc.result is (only_is m t r arguments call x plan c.in_ok-w.w two a) c.if-desc.false
      (sym (c.is_critical.ensures x plan s m t o h runs) ∙ c.if-is_critical.true));
}

pub returns : goal.returns
returns c = record {
  row = λ x plan s m t o h runs r arguments call.
      (let (two, there) = c.in_ok-w.ensures x plan s m t o h runs in
      let a = top_followed x c.args.cpu.now plan s m t c.in_ok-w.w o runs there in
      let original = c.in_ok-original.original in
      let k = copy_of plan m a.word original (c.in_ok-original.ensures x plan s m t o h runs a.word a.followed) in
      let is = c.array_descriptor-desc.ensures x plan s m t o h runs k.item.identity 0 k.home (element_of plan m a.word original k) in
      empties m t r arguments call x c.args.cpu.now plan s o h runs a.word original k c.array_descriptor-desc.result is (only_is m t r arguments call x plan c.in_ok-w.w two a) c.if-desc.false
      (sym (c.is_critical.ensures x plan s m t o h runs) ∙ c.if-is_critical.false) (running_in_order plan s m t o runs).1.not_higher);
}
