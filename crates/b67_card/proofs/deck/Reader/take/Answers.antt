use Rattle.std.proofs.Common.{map, refl, subst, ◌∙◌}
use Rattle.b67_model_text.specs.declared.deck.Stand.{Stand}
use Rattle.b67_model_text.specs.Deck.{command_in}
use Rattle.b67_card.specs.Said.{said_command}
use Rattle.b67_card.specs.Contents.{AddsCard, jobs_told}
use Rattle.b67_card.proofs.JobsLaw.{front_of_none}
use Rattle.b67_card.proofs.Taking.{taken}
use Rattle.b67_card.proofs.deck.Reader.take.Goals as goal

pub returns : goal.returns
returns c = λ before knows.
    let placed = c.in_ok-take.ensures (map command_in before) knows.shape in
    let told = c.add.ensures (jobs_told before) knows.contents (λ none. knows.shape.stand ∙ front_of_none before knows.accepted none) in
    let here : AddsCard c.add.result _ c.args.number (said_command c.in_ok-command.command) (jobs_told before) c.add.new.self = subst (λ (s : Stand). AddsCard c.add.result s c.args.number (said_command c.in_ok-command.command) (jobs_told before) c.add.new.self) knows.shape.stand told in
    taken c.add.result before (record { number = c.args.number; text = c.args.text.now }) (said_command c.in_ok-command.command) (record { shape = c.take.new.self; contents = c.add.new.self; last = c.args.number }) c.in_ok-command.ensures placed.0 placed.1 refl knows.accepted here
