use Rattle.std.proofs.Common.{map, ◌∙◌, ap}
use Rattle.std.proofs.lemmas.List.{length-map}
use Rattle.b67_codefile.specs.Meaning.{program_of}
use Rattle.b67_session.specs.Tables.{opening_rows}
use Rattle.b67_session.specs.Decks.{openings_of, jobs_given}
use Rattle.b67_session.proofs.Decks.{tables_given, tables_have}
use Rattle.b67_session.proofs.opening_tables.opening_tasks.Goals as goal

pub returns-clause-shows : goal.returns-clause-shows
returns-clause-shows c =
    tables_given c.args.deck.now (map program_of c.args.programs.now) _ _ c.in_ok-switches.switches c.requires.range
    (length-map c.args.programs.now program_of ∙ c.requires.each)
    c.first_rows.ensures
    (c.in_ok-jobs.ensures.rows ∙ ap (λ js. opening_rows 160 (openings_of js (map program_of c.args.programs.now))) c.as_slice.ensures)
    c.in_ok-switches.ensures

pub returns-clause-given : goal.returns-clause-given
returns-clause-given c = tables_have c.args.deck.now _ c.in_ok-jobs.jobs c.in_ok-switches.ensures (c.in_ok-jobs.ensures.given ∙ ap jobs_given c.as_slice.ensures)
