use Rattle.std.proofs.Common.{◌≡◌, ◌+◌, length, map, refl, ap, ◌∙◌, arith}
use Rattle.std.proofs.lemmas.List.{length-replicate}
use Rattle.b67_word.specs.Tagged.{word}
use Rattle.b67_backing.specs.Shelf.{all_free}
use Rattle.b67_codefile.specs.Meaning.{program_of}
use Rattle.b67_session.specs.Decks.{openings_of}
use Rattle.b67_session.specs.Opens.{need_of, sectors_of_all}
use Rattle.b67_session.proofs.Decks.{each_countable}
use Rattle.b67_session.proofs.InitialOpens.{uncalled}
use Rattle.b67_session.proofs.Opens.{programs_are, free_are, machine_opens}
use Rattle.b67_session.proofs.opening.open_machine.Goals as goal

pub returns-then-need-core_words-clause-opens : goal.returns-then-need-core_words-clause-opens
returns-then-need-core_words-clause-opens g c =
    let need : c.opening_need-need.result ≡ need_of c.args.deck.now (map program_of c.args.programs.now) =
    c.opening_need-need.ensures.need (openings_of c.args.deck.now.jobs (map program_of c.args.programs.now)) (programs_are c.args.deck.now c.args.programs.now c.requires.each) in
    (need, refl, omega (arith, need, c.if-need-core_words.true), refl)

pub returns-then-sum-count-clause-opens : goal.returns-then-sum-count-clause-opens
returns-then-sum-count-clause-opens g c =
    let os = openings_of c.args.deck.now.jobs (map program_of c.args.programs.now) in
    let same = programs_are c.args.deck.now c.args.programs.now c.requires.each in
    let need : c.opening_need-need.result ≡ need_of c.args.deck.now (map program_of c.args.programs.now) = c.opening_need-need.ensures.need os same in
    let sum : c.opening_sectors-sum.result ≡ sectors_of_all c.args.deck.now (map program_of c.args.programs.now) = c.opening_sectors-sum.ensures.sum c.args.deck.now.stack os same in
    (omega (arith, need, c.if-need-core_words.false), sum, c.sectors-count.ensures.value, omega (arith, sum, c.if-sum-count.true, c.sectors-count.ensures.value), refl)

pub set_up-requires-clause-sectors : goal.set_up-requires-clause-sectors
set_up-requires-clause-sectors g c = record {
  known = (all_free c.sectors-count.result, c.in_ok-sectors.ensures.1);
  same = omega (arith, c.in_ok-sectors.ensures.0, c.sectors-count.ensures.value);
  room = omega (arith, c.opening_sectors-sum.ensures.value, c.if-sum-count.false, free_are c.in_ok-sectors.sectors c.sectors-count.result c.in_ok-sectors.ensures.1);
}

pub returns-in-Ok-clause-opens : goal.returns-in-Ok-clause-opens
returns-in-Ok-clause-opens g c =
    let os = openings_of c.args.deck.now.jobs (map program_of c.args.programs.now) in
    let same = programs_are c.args.deck.now c.args.programs.now c.requires.each in
    let need : c.opening_need-need.result ≡ need_of c.args.deck.now (map program_of c.args.programs.now) = c.opening_need-need.ensures.need os same in
    let sum : c.opening_sectors-sum.result ≡ sectors_of_all c.args.deck.now (map program_of c.args.programs.now) = c.opening_sectors-sum.ensures.sum c.args.deck.now.stack os same in (
      omega (arith, need, c.if-need-core_words.false),
      omega (arith, sum, c.if-sum-count.false, c.sectors-count.ensures.value),
      machine_opens c.args.deck.now c.args.programs.now _ _
          (record { cpu = c.in-Ok.initial.cpu; areas = c.in-Ok.initial.areas; sectors = c.set_up.new.sectors; tasks = c.in_ok-tasks.tasks })
          c.args.core_words (g.B.Backing.size c.args.backing.now) c.requires.range c.requires.each c.in_ok-tasks.ensures.loaded
          (c.in-Ok.ensures.opens (all_free c.sectors-count.result) c.in_ok-sectors.ensures.1 refl)
          c.in_ok-tasks.ensures.shows c.in_ok-tasks.ensures.given c.in_ok-tasks.ensures.printed
          (c.in-Ok.ensures.len ∙ (ap length c.in_ok-core.ensures ∙ length-replicate c.args.core_words (word 0 0)))
          (c.set_up.ensures.count ∙ c.in_ok-sectors.ensures.0 ∙ ap (λ n. n + 1) c.sectors-count.ensures.value) (each_countable c.in_ok-tasks.tasks.jobs c.in_ok-tasks.ensures.countable),
    )

pub returns-in-Err-clause-opens : goal.returns-in-Err-clause-opens
returns-in-Err-clause-opens g c =
    let os = openings_of c.args.deck.now.jobs (map program_of c.args.programs.now) in
    let same = programs_are c.args.deck.now c.args.programs.now c.requires.each in
    let need : c.opening_need-need.result ≡ need_of c.args.deck.now (map program_of c.args.programs.now) = c.opening_need-need.ensures.need os same in
    let sum : c.opening_sectors-sum.result ≡ sectors_of_all c.args.deck.now (map program_of c.args.programs.now) = c.opening_sectors-sum.ensures.sum c.args.deck.now.stack os same in
    (omega (arith, need, c.if-need-core_words.false), omega (arith, sum, c.if-sum-count.false, c.sectors-count.ensures.value), c.in-Err.ensures.cause.failed)

pub returns-in_err-core-clause-device : goal.returns-in_err-core-clause-device
returns-in_err-core-clause-device g c = uncalled g.B.Backing.holds g.B.Backing.size g.B.Backing.calls g.B.Backing.faults c.args.backing.now

pub returns-in_err-sectors-clause-device : goal.returns-in_err-sectors-clause-device
returns-in_err-sectors-clause-device g c = uncalled g.B.Backing.holds g.B.Backing.size g.B.Backing.calls g.B.Backing.faults c.args.backing.now

pub returns-in_err-tasks-clause-device : goal.returns-in_err-tasks-clause-device
returns-in_err-tasks-clause-device g c = uncalled g.B.Backing.holds g.B.Backing.size g.B.Backing.calls g.B.Backing.faults c.args.backing.now

pub returns-then-need-core_words-clause-device : goal.returns-then-need-core_words-clause-device
returns-then-need-core_words-clause-device g c = uncalled g.B.Backing.holds g.B.Backing.size g.B.Backing.calls g.B.Backing.faults c.args.backing.now

pub returns-then-sum-count-clause-device : goal.returns-then-sum-count-clause-device
returns-then-sum-count-clause-device g c = uncalled g.B.Backing.holds g.B.Backing.size g.B.Backing.calls g.B.Backing.faults c.args.backing.now
