-- The status that tells why a search answers nothing: that of a run which stops so.
use Rattle.std.specs.Prelude.{ℕ}
use Rattle.b67_job.specs.declared.admit_fault.AdmitFault.{AdmitFault}
use Rattle.b67_job.specs.declared.admit_fault.AdmitFault.TheVariants as admits
use Rattle.b67_session.specs.Stops.{Stop}
use Rattle.b67_session.specs.Stops as stops
use Rattle.b67_job.specs.Finishing.{refused_status}
use Rattle.b67_job.specs.declared.searching.SearchFault.{SearchFault}
use Rattle.b67_job.specs.declared.searching.SearchFault.TheVariants as reasons

abbrev pub unadmitted_status : AdmitFault → ℕ
unadmitted_status (admits.Refused refusal) = 2
unadmitted_status admits.SourceFault = 7
unadmitted_status admits.Memory = 9

abbrev pub stopped_status : Stop → ℕ
stopped_status (stops.NoCore need core) = 4
stopped_status (stops.BackingFull sum sectors) = 5
stopped_status stops.BackingFault = 6
stopped_status stops.PrintFault = 8

abbrev pub search_status : SearchFault → ℕ
search_status (reasons.Admit fault) = unadmitted_status fault
search_status (reasons.Open fault) = refused_status fault
search_status (reasons.Stop stop) = stopped_status stop
