-- The program that a codefile holds.
use Rattle.std.specs.Prelude.{map}
use Rattle.b67_word.specs.Tagged.{contents}
use Rattle.b67_model.specs.State as state
use Rattle.b67_model.specs.Program.{Program}
use Rattle.b67_codefile.specs.declared.file.Segment.{Segment}
use Rattle.b67_codefile.specs.declared.file.Codefile.{Codefile}

-- a segment without the tags of its words
abbrev pub segment_of : Segment → state.Segment
segment_of s = record { level = s.level; entries = s.entries; code = contents s.code }

-- the program of a file, whichever its version
abbrev pub program_of : Codefile → Program
program_of f = record { segments = map segment_of f.segments; rows = map contents f.rows }
