use Rattle.std.proofs.Common.{refl}
use Rattle.std.proofs.lemmas.Bool.{false≢true}
use Rattle.b67_layout.proofs.Starts.{meets_runs}
use Rattle.b67_entry.proofs.Marking.{mkst_full, mkst_done}
use Rattle.b67_entry.proofs.enter.mkst.Goals as goal

pub mark-requires : goal.mark-requires
mark-requires c = let r = c.requires in meets_runs r.storage c.args.cpu.now r.plan r.session r.member r.task r.stands r.running

pub returns-in-Ok-clause-row : goal.returns-in-Ok-clause-row
returns-in-Ok-clause-row c = λ x plan s m t o h runs. rw c.in-Ok.ensures.ok (mkst_done x c.args.cpu.now plan s m t c.args.next o h runs (λ full. false≢true (c.in-Ok.ensures.full.1 full)))

pub returns-in-Ok-clause-stays : goal.returns-in-Ok-clause-stays
returns-in-Ok-clause-stays c = λ e. rw c.in-Ok.ensures.ok (record { dict = refl; segment = refl; place = refl })

pub returns-in-Err-clause-row : goal.returns-in-Err-clause-row
returns-in-Err-clause-row c = λ x plan s m t o h runs. (mkst_full x c.args.cpu.now plan s m t c.args.next o h runs (c.in-Err.ensures.full.0 refl), c.in-Err.ensures.err)
