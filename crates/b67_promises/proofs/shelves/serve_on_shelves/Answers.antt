use Rattle.std.proofs.Common.{ℕ, List, Option, Some, None, refl, sym, ap}
use Rattle.std.proofs.lemmas.Option.{none-some}
use Rattle.b67_io.specs.Free.{free_left}
use Rattle.b67_job.specs.Command.{backing_path}
use Rattle.b67_promises.specs.Paging.{FileIsTold}
use Rattle.b67_promises.proofs.shelves.serve_on_shelves.Goals as goal

-- a shelf tells what the file of each path holds
is_told : {R : Type 0} (held : R → List (List ℕ)) (now : R) (named : Option (List ℕ)) → FileIsTold (λ (d : R) (path : List ℕ). Some (held d)) now named
is_told held now (Some path) = λ e. none-some _ (sym e)
is_told held now None = tt

pub returns-clause-decks : goal.returns-clause-decks
returns-clause-decks c = λ w w' same few.
    c.serve_twice.ensures.decks (free_left c.args.input.now) w w' refl (ap Some same) few (is_told (λ s. s.held) c.args.shelf.now (backing_path c.args.words.now)) (is_told (λ s. s.held) c.args.other_shelf.now (backing_path c.args.other_words.now))

pub returns-clause-call : goal.returns-clause-call
returns-clause-call c = c.serve_twice.ensures.call

pub returns-clause-other_call : goal.returns-clause-other_call
returns-clause-other_call c = c.serve_twice.ensures.other_call
