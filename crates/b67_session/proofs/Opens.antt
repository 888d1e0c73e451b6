-- The machine that was set up, with its tables, represents the opening state of a deck's session.
use Rattle.std.proofs.Common.{◌+◌, ◌≡◌, ℕ, List, length, map, Option, ◌∙◌}
use Rattle.std.specs.List.{AllByRecursion}
use Rattle.std.proofs.lemmas.List.{length-map}
use Rattle.b67_backing.specs.Shelf.{Table, IsShelf, all_free}
use Rattle.b67_backing.proofs.News.{length-row}
use Rattle.b67_model_text.specs.declared.deck.Deck.{Deck}
use Rattle.b67_codefile.specs.declared.file.Codefile.{Codefile}
use Rattle.b67_codefile.specs.Meaning.{program_of}
use Rattle.b67_lemmas.specs.Lists.{Has}
use Rattle.b67_stack.specs.Represents.{Storage}
use Rattle.b67_session.specs.Opened.{opening_plan, programs_of}
use Rattle.b67_session.specs.InitialOpens.{Opens}
use Rattle.b67_task.specs.declared.tables.JobRow.{JobRow}
use Rattle.b67_task.specs.declared.tables.Machine.{Machine}
use Rattle.b67_task.specs.Tables.{switch_of, TasksShow}
use Rattle.b67_session.specs.Decks.{openings_of, session_of, deck_given, given_of, DeckInRange, IsLoaded, IsCountable}
use Rattle.b67_session.specs.Opens.{OpensAs}
use Rattle.b67_session.proofs.Decks.{deck_within, programs_back}

-- the programs of a deck's openings
pub programs_are : (d : Deck) (fs : List Codefile) → length fs ≡ length d.jobs → programs_of (openings_of d.jobs (map program_of fs)) ≡ map program_of fs
programs_are d fs each = programs_back d.jobs (map program_of fs) (length-map fs program_of ∙ each)

-- all sectors are free
pub free_are : (t : Table) (n : ℕ) → IsShelf t (all_free n) → t.free ≡ n
free_are t n is = is.count ∙ length-row 1 n

pub machine_opens : (d : Deck) (fs : List Codefile) (told : Option (List (List ℕ))) (x : Storage) (k : Machine) (core sectors : ℕ) → DeckInRange d → length fs ≡ length d.jobs → AllByRecursion IsLoaded fs
    → Opens k.areas k.sectors told x k.cpu d.stack (map program_of fs)
    → TasksShow (opening_plan d.stack (map program_of fs)) (session_of d (map program_of fs)) k.tasks
    → given_of k.tasks ≡ deck_given d → k.tasks.printed ≡ 0 → length k.cpu.core ≡ core
    → length k.sectors.links ≡ sectors + 1 → ((r : JobRow) → Has k.tasks.jobs r → IsCountable r) → OpensAs told d (map program_of fs) core sectors k
machine_opens d fs told x k core sectors range each loaded opens shows given printed len links countable = record {
  storage = x;
  stands = record {
    session = opens.session d.quantum (map switch_of d.switches) (openings_of d.jobs (map program_of fs)) (programs_are d fs each) (deck_within d fs range loaded);
    storage = opens.storage;
    tables = shows;
  };
  given = given;
  printed = printed;
  core_size = len;
  sized = links;
  countable = countable;
}
