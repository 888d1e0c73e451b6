use Rattle.std.proofs.Common.{◌≡◌, ◌+◌, ◌*◌, ◌≤◌, ◌++◌, map, drop}
use Rattle.std.specs.List.{AllByRecursion}
use Rattle.b67_codefile.specs.Meaning.{program_of}
use Rattle.b67_session.specs.Tables.{opening_rows}
use Rattle.b67_task.specs.Tables.{job_row}
use Rattle.b67_session.specs.Decks.{openings_of, jobs_given, rows_given, IsLoaded, IsCountable}
use Rattle.b67_session.proofs.opening_tables.opening_rows.Given as goal

abbrev pub invariant-jobs : goal.invariant-jobs
invariant-jobs l = record {
  rows : map job_row l.rows ++ opening_rows l.at (openings_of (drop l.k l.jobs) (map program_of (drop l.k l.programs))) ≡ opening_rows 160 (openings_of l.jobs (map program_of l.programs));
  given : rows_given l.rows ++ jobs_given (drop l.k l.jobs) ≡ jobs_given l.jobs;
  countable : AllByRecursion IsCountable l.rows;
  room : l.at ≤ 160 + l.k * 257;
  loaded : AllByRecursion IsLoaded (drop l.k l.programs) → AllByRecursion IsLoaded l.programs;
}
