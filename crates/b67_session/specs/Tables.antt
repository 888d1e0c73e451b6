-- The rows of tasks and jobs, and the counts, of a session that opens.
use Rattle.std.specs.Prelude.{ℕ, ◌+◌, List, [], ◌∷◌, length}
use Rattle.b67_task.specs.declared.tables.TheConstants.{NO_PARENT, NO_ROW}
use Rattle.b67_model.specs.Program.{Program}
use Rattle.b67_model.specs.Schedule.{Switch}
use Rattle.b67_law.specs.Opening.{Opening}
use Rattle.b67_layout.specs.Rows.{IsReady, TaskRow, JobRow, JobCounts}
use Rattle.b67_session.specs.Opened.{dictionary_words}

-- the first task of a job, in slot k
abbrev pub first_row : ℕ → TaskRow
first_row k = record { job = k + 1; number = 1; slot = k; parent = NO_PARENT; critical = 0; state = IsReady; segment = 2; place = record { word = 0; syllable = 0 } }

-- those of jobs, from slot k on
abbrev pub first_rows : ℕ → List Program → List TaskRow
first_rows k [] = []
first_rows k (p ∷ more) = first_row k ∷ first_rows (k + 1) more

-- a job whose dictionary begins at an address
abbrev pub opening_row : ℕ → Opening → JobRow
opening_row at o = record {
  dictionary = at;
  segments = length o.program.segments;
  rows = length o.program.rows;
  limit = o.limit;
  made = 0;
  next_task = 2;
  numbers = o.numbers;
  next_number = 0;
}

abbrev pub opening_rows : ℕ → List Opening → List JobRow
opening_rows at [] = []
opening_rows at (o ∷ more) = opening_row at o ∷ opening_rows (at + dictionary_words o.program) more

abbrev pub opening_counts : ℕ → List Switch → JobCounts
opening_counts quantum switches =
    record { quantum = quantum; made = 0; turn = 0; last_job = 0; last_number = 0; switches = switches; next_switch = 0; running = NO_ROW }
