-- Options and requests without where their texts lie in memory; the numbers that a command names.
use Rattle.std.specs.Prelude.{◌≤◌, ◌<◌, ◌^◌}
use Rattle.b67_job.specs.declared.command.CommandLine.{CommandLine}
use Rattle.b67_job.specs.declared.command.CommandLine.TheVariants as lines
use Rattle.b67_job.specs.declared.command.Options as options
use Rattle.b67_job.specs.declared.command.Request as request
use Rattle.b67_job.specs.Command.{Options, Request}
use Rattle.b67_model.specs.declared.limits.TheConstants.{LEAST_CORE}

abbrev pub seen_options : options.Options → Options
seen_options o = record { core = o.core.now; path = o.path.now }

abbrev pub seen_request : request.Request → Request
seen_request r = record { core = r.core; path = r.path.now }

-- the numbers of a command that opens a session are within their ranges
abbrev pub AreInRange : CommandLine → Type 0
AreInRange (lines.Run core) = (LEAST_CORE ≤ core) × (core < 2 ^ 20)
AreInRange (lines.Image core) = (LEAST_CORE ≤ core) × (core < 2 ^ 20)
AreInRange lines.Resume = Unit {0}
AreInRange lines.Dump = Unit {0}
AreInRange lines.Asm = Unit {0}
AreInRange lines.Check = Unit {0}
AreInRange lines.Convert = Unit {0}
AreInRange (lines.Bind pairs) = Unit {0}
AreInRange (lines.Exercise seed size core) = (seed ≤ 2147483647) × (1 ≤ size) × (size ≤ 500) × (LEAST_CORE ≤ core) × (core < 2 ^ 20)
