-- The first rule that is broken.
use Rattle.std.specs.Prelude.{◌≡◌, ℕ, Bool, List, [], ◌++◌, Option, None, Some, Result, Ok, Err, find, option_map, if◌then◌else◌}
use Rattle.b67_word.specs.declared.couples.Place.{Place}
use Rattle.b67_model.specs.Loader.{Entry, Listed, Refusal, place_of_entry, same_place, stands_before, origin, broken_at, broken_in, first_of}
use Rattle.b67_codefile.specs.declared.file.Segment.{Segment}
use Rattle.b67_codefile.specs.declared.file.Codefile.{Codefile}
use Rattle.b67_codefile.specs.Meaning.{segment_of, program_of}
use Rattle.b67_load.specs.declared.rules.Broken.{Broken}
use Rattle.b67_load.specs.declared.fault.LoadFault.{LoadFault}
use Rattle.b67_load.specs.declared.fault.LoadFault.TheVariants.{Refused, Memory}
use Rattle.b67_load.specs.Order.{IsFirst}

-- a segment of a file, with its number and its listing
abbrev pub listed : Codefile → ℕ → Segment → List Entry → Listed
listed file number s entries = record { program = program_of file; number = number; segment = segment_of s; entries = entries }

-- the rules at an entry, each with whether it is broken
abbrev pub rules_at : Listed → Entry → List (ℕ × Bool)
rules_at l e = if same_place (place_of_entry e) origin then broken_at l e ++ broken_in l else broken_at l e

abbrev pub first_broken : List (ℕ × Bool) → Option ℕ
first_broken rules = option_map (λ r. r.0) (find (λ r. r.1) rules)

-- a rule that is broken at a place of a segment
abbrev pub refusal_at : ℕ → Broken → Refusal
refusal_at number b = record { segment = number; place = b.place; rule = b.rule }

-- rule 11 is broken at an entry's place
abbrev pub wrong_at : Place → Broken
wrong_at place = record { place = place; rule = 11 }

-- what is broken first: at one place a rule of the listing comes before rule 11
abbrev pub earlier : Option Broken → Option Place → Option Broken
earlier None wrong = option_map wrong_at wrong
earlier (Some b) None = Some b
earlier (Some b) (Some place) = Some (if stands_before place b.place then wrong_at place else b)

-- there is no refusal, or the first one of all is told, unless memory ran out
abbrev pub Finds : {X : Type 0} → Result X LoadFault → List Refusal → Type 0
Finds (Ok done) refusals = refusals ≡ []
Finds (Err (Refused segment place reason)) refusals = first_of refusals ≡ Some (record { segment = segment; place = place; rule = reason })
Finds (Err Memory) refusals = Unit {0}

-- the same by the order of refusals
abbrev pub FindsFirst : {X : Type 0} → Result X LoadFault → List Refusal → Type 0
FindsFirst (Ok done) refusals = refusals ≡ []
FindsFirst (Err (Refused segment place reason)) refusals = IsFirst refusals (record { segment = segment; place = place; rule = reason })
FindsFirst (Err Memory) refusals = Unit {0}
