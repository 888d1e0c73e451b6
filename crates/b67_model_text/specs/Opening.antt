-- The session that a deck opens with a program for each job, and what it takes as it opens.
use Rattle.std.specs.Prelude.{ℕ, List, [], ◌∷◌, map}
use Rattle.b67_model.specs.Common.{Opening, Program, Session, Switch, need_at_opening, opening, sectors}
use Rattle.b67_model_text.specs.declared.deck.Deck.{Deck}
use Rattle.b67_model_text.specs.declared.deck.Job.{Job}
use Rattle.b67_model_text.specs.declared.deck.Switch as text

-- a switch as the deck names it
abbrev pub switch_of : text.Switch → Switch
switch_of w = record { count = w.count; to = record { job = w.job; task = w.task } }

-- a job with its program
abbrev pub opening_of : Job → Program → Opening
opening_of j p = record { program = p; limit = j.limit; numbers = j.numbers }

abbrev pub openings_of : List Job → List Program → List Opening
openings_of [] ps = []
openings_of (j ∷ js) [] = []
openings_of (j ∷ js) (p ∷ ps) = opening_of j p ∷ openings_of js ps

-- the state in which a deck's session opens, with a program for each job
abbrev pub session_of : Deck → List Program → Session
session_of d ps = opening d.stack d.quantum (map switch_of d.switches) (openings_of d.jobs ps)

-- the opening's need of core, and the sectors of its programs
abbrev pub need_of : Deck → List Program → ℕ
need_of d ps = need_at_opening d.stack (session_of d ps).jobs

abbrev pub sectors_of_all : Deck → List Program → ℕ
sectors_of_all d ps = sectors (session_of d ps).jobs
