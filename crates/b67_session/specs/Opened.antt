-- Where a machine keeps the objects of a session that opens: the dictionaries lie in a row, the first task of each job has
-- the slot before the job's number, and no task runs.
use Rattle.std.specs.Prelude.{ℕ, ◌+◌, ◌-◌, List, [], ◌∷◌, ◌++◌, length, map, take, Option, Some, None, slice_get}
use Rattle.b67_ctl.specs.declared.registers.TheConstants.{NO_SLOT}
use Rattle.b67_ctl.specs.declared.map.TheConstants.{DICTIONARY_STACKS, FIRST_DICTIONARY}
use Rattle.b67_lemmas.specs.Lists.{total}
use Rattle.b67_model.specs.Program.{Program}
use Rattle.b67_law.specs.Opening.{Opening}
use Rattle.b67_stack.specs.Common.{Entered, Activation, PagedObject}
use Rattle.b67_layout.specs.Placement.{Slotted, Placement}
use Rattle.b67_load.specs.Objects.{entries_of, program_objects}

-- the words of a program's dictionary, and of the dictionaries of programs
abbrev pub dictionary_words : Program → ℕ
dictionary_words p = 2 + entries_of p

abbrev pub dictionaries : List Program → ℕ
dictionaries programs = total dictionary_words programs

-- where the dictionary of a job begins, by the job's number
abbrev pub dictionary_at : List Program → ℕ → ℕ
dictionary_at programs job = FIRST_DICTIONARY + dictionaries (take (job - 1) programs)

abbrev pub segments_in : Option Program → ℕ
segments_in None = 0
segments_in (Some p) = length p.segments

-- the first tasks' slots, from one on
abbrev pub slots_from : ℕ → List Program → List Slotted
slots_from k [] = []
slots_from k (p ∷ more) = record { job = k + 1; task = 1; slot = k } ∷ slots_from (k + 1) more

abbrev pub opening_plan : ℕ → List Program → Placement
opening_plan stack programs = record {
  stacks = FIRST_DICTIONARY + dictionaries programs;
  size = stack;
  peak = length programs;
  rows = slots_from 0 programs;
  running = NO_SLOT;
  dictionary = dictionary_at programs;
  home = λ job n. dictionary_at programs job + 1 + segments_in (slice_get programs (job - 1)) + n;
}

-- the objects of programs whose dictionaries lie in a row from an address on
abbrev pub objects_from : ℕ → List Program → List PagedObject
objects_from at [] = []
objects_from at (p ∷ more) = program_objects at p ++ objects_from (at + dictionary_words p) more

-- the stack of a job's first task
abbrev pub first_stack : ℕ → List Activation
first_stack job = record { head = Entered 2 (record { stack = DICTIONARY_STACKS + job; disp = 0 }) None; cells = [] } ∷ []

abbrev pub programs_of : List Opening → List Program
programs_of openings = map (λ (o : Opening). o.program) openings
