use Rattle.std.proofs.Common.{◌≡◌, Result, Err, List, map, refl, ap, subst}
use Rattle.b67_codefile.specs.declared.file.Codefile.{Codefile}
use Rattle.b67_codefile.specs.Meaning.{program_of}
use Rattle.b67_session.specs.Opens.{IsOpened}
use Rattle.b67_session.specs.Stops.{Stop}
use Rattle.b67_session.proofs.InitialOpens.{uncalled}
use Rattle.b67_job.specs.declared.searching.SearchFault.{SearchFault}
use Rattle.b67_job.specs.Searches.{FailsInDeck}
use Rattle.b67_job.proofs.Decks.{after_more}
use Rattle.b67_job.proofs.Served.{loaded_in_range}
use Rattle.b67_job.proofs.LookedAt.{begins, finds, fails}
use Rattle.b67_job.proofs.searching.find_in_deck.Goals as goal

same_fault : {A : Type 0} {a b : SearchFault} → ◌≡◌ {A = Result A SearchFault} (Err a) (Err b) → a ≡ b
same_fault e = cc

pub open_machine-requires-clause-range : goal.open_machine-requires-clause-range
open_machine-requires-clause-range g c = (loaded_in_range g.S.Source.left g.S.Source.faults c.args.deck.now c.admit.new.source c.in-Ok.loaded c.in-Ok.ensures.answer).0

pub open_machine-requires-clause-each : goal.open_machine-requires-clause-each
open_machine-requires-clause-each g c = rw c.as_slice-programs.ensures (loaded_in_range g.S.Source.left g.S.Source.faults c.args.deck.now c.admit.new.source c.in-Ok.loaded c.in-Ok.ensures.answer).1

pub find-requires-clause-begins : goal.find-requires-clause-begins
find-requires-clause-begins g c =
    begins g.S.Source.left g.S.Source.faults c.args.deck.now c.admit.new.source g.B.Backing.holds g.B.Backing.size g.B.Backing.calls g.B.Backing.faults c.args.backing.now c.open_machine.new.backing c.args.core c.in-Ok.loaded c.as_slice-programs.result.now c.in-Ok-open_machine.machine
    c.as_slice-programs.ensures c.in-Ok.ensures.answer c.know_programs.ensures c.in-Ok-open_machine.ensures.opens c.open_machine.ensures.device

pub returns-in-Ok-find-clause-least : goal.returns-in-Ok-find-clause-least
returns-in-Ok-find-clause-least g c = λ tells.
    finds g.S.Source.left g.S.Source.faults c.args.deck.now c.admit.new.source g.B.Backing.holds g.B.Backing.size g.B.Backing.calls g.B.Backing.faults c.args.backing.now c.open_machine.new.backing c.args.core c.in-Ok.loaded c.as_slice-programs.result.now c.in-Ok-open_machine.machine
    c.as_slice-programs.ensures c.in-Ok.ensures.answer c.know_programs.ensures c.in-Ok-open_machine.ensures.opens c.open_machine.ensures.device c.args.what c.args.places.now c.args.from c.args.most c.in-Ok-find.found tells
    (c.in-Ok-find.ensures.least _ _) (c.in-Ok-find.ensures.comes _ _)

pub returns-in-Ok-find-clause-device : goal.returns-in-Ok-find-clause-device
returns-in-Ok-find-clause-device g c = after_more c.open_machine.ensures.device c.find.ensures.leaves.served

pub returns-in-Err-clause-fails : goal.returns-in-Err-clause-fails
returns-in-Err-clause-fails g c = λ fault e.
    subst (λ (z : SearchFault). FailsInDeck g.S.Source.left g.S.Source.faults c.args.deck.now c.admit.new.source g.B.Backing.holds g.B.Backing.size g.B.Backing.faults c.args.backing.now c.args.backing.now c.args.core c.args.what c.args.places.now c.args.from c.args.most z) (same_fault e)
    (c.in-Err.ensures.answer, refl)

pub returns-in-Err-clause-device : goal.returns-in-Err-clause-device
returns-in-Err-clause-device g c = uncalled g.B.Backing.holds g.B.Backing.size g.B.Backing.calls g.B.Backing.faults c.args.backing.now

pub returns-in-Err-open_machine-clause-fails : goal.returns-in-Err-open_machine-clause-fails
returns-in-Err-open_machine-clause-fails g c = λ fault e.
    subst (λ (z : SearchFault). FailsInDeck g.S.Source.left g.S.Source.faults c.args.deck.now c.admit.new.source g.B.Backing.holds g.B.Backing.size g.B.Backing.faults c.args.backing.now c.open_machine.new.backing c.args.core c.args.what c.args.places.now c.args.from c.args.most z) (same_fault e) (
      c.in-Ok.loaded,
      c.in-Ok.ensures.answer,
      subst (λ (fs : List Codefile). IsOpened g.B.Backing.holds g.B.Backing.size g.B.Backing.faults c.in-Ok.loaded.deck (map program_of fs) c.args.core c.args.backing.now c.open_machine.new.backing (Err c.in-Err-open_machine.fault))
          c.as_slice-programs.ensures c.in-Err-open_machine.ensures.opens,
    )

pub returns-clause-device : goal.returns-clause-device
returns-clause-device g c = after_more c.open_machine.ensures.device c.find.ensures.leaves.served

pub returns-clause-fails : goal.returns-clause-fails
returns-clause-fails g c = λ fault e.
    subst (λ (z : SearchFault). FailsInDeck g.S.Source.left g.S.Source.faults c.args.deck.now c.admit.new.source g.B.Backing.holds g.B.Backing.size g.B.Backing.faults c.args.backing.now c.find.new.backing c.args.core c.args.what c.args.places.now c.args.from c.args.most z) (same_fault e) (
      c.in-Ok.loaded,
      c.in-Ok.ensures.answer,
      fails g.S.Source.left g.S.Source.faults c.args.deck.now c.admit.new.source g.B.Backing.holds g.B.Backing.size g.B.Backing.calls g.B.Backing.faults c.args.backing.now c.open_machine.new.backing c.args.core c.in-Ok.loaded c.as_slice-programs.result.now c.in-Ok-open_machine.machine
          c.as_slice-programs.ensures c.in-Ok.ensures.answer c.know_programs.ensures c.in-Ok-open_machine.ensures.opens c.open_machine.ensures.device c.args.what c.args.places.now c.args.from c.args.most c.in-Err-find.stop c.find.new.backing c.find.new.machine
          (λ f. c.in-Err-find.ensures.leaves.device_failed (ap (λ (x : Stop). Err x) f)) (λ f. c.in-Err-find.ensures.leaves.unprinted (ap (λ (x : Stop). Err x) f)) (λ known says stands. c.in-Err-find.ensures.stops _ _ c.in-Err-find.stop known says stands refl),
    )
