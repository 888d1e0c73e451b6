use Rattle.std.proofs.Common.{refl}
use Rattle.b67_entry.proofs.Unasked.{rooms}
use Rattle.b67_entry.proofs.Environments.{holds_over}
use Rattle.b67_entry.proofs.Plain.{plain_scene, plain_enters, plain_meets}
use Rattle.b67_entry.proofs.enter.accident.Goals as goal

pub accident_on-requires-clause-procedure : goal.accident_on-requires-clause-procedure
accident_on-requires-clause-procedure c =
    let (a, q, f, segment, level, place, e) = c.requires.procedure in
    (plain_scene c.args.cpu.now a e.ordered e.stands, q, f, segment, level, place, plain_enters c.args.cpu.now a q c.args.cell f segment level place e)

pub accident_on-requires-clause-known : goal.accident_on-requires-clause-known
accident_on-requires-clause-known c =
    let (a, q, f, segment, level, place, e) = c.requires.procedure in
    let cpu = c.args.cpu.now in
    holds_over cpu a (e.stands.shows a.member a.task a.running) cpu cpu.regs (record { stacks = refl; size = refl; dictionary = refl; last = refl }) (rooms cpu cpu.regs a q c.args.cell f segment level place e.procedure).top refl (λ i h. refl)

pub returns : goal.returns
returns c = record {
  row = λ a q f segment level place e.
      plain_meets c.args.cpu.now a q c.args.cell f segment level place e c.accident_on.new.cpu c.accident_on.result _
      (c.accident_on.ensures.row (plain_scene c.args.cpu.now a e.ordered e.stands) q f segment level place (plain_enters c.args.cpu.now a q c.args.cell f segment level place e));
}
