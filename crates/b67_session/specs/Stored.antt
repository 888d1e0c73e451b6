-- What isn't core of a machine in which nothing is present.
use Rattle.std.specs.Prelude.{ℕ, ◌-◌, ◌%◌, ◌^◌, List, [], length, Option, Some, None}
use Rattle.b67_word.specs.Tagged.{Tagged}
use Rattle.b67_area.specs.Spans.{left}
use Rattle.b67_backing.specs.Shelf.{Shelf}
use Rattle.std.specs.List.{slice_get}
use Rattle.b67_stack.specs.Common.{Locations, at_rest, Storage}

-- the sector that an absent descriptor names
abbrev pub sector_named : Option Tagged → ℕ
sector_named None = 0
sector_named (Some w) = w.bits % 2 ^ 20

-- each object is held where its descriptor says
abbrev pub held_in : List Tagged → Locations
held_in core home = at_rest (sector_named (slice_get core home))

-- one hole from `low` to the end of core, if there is a word left, and no area
abbrev pub absent_storage : List Tagged → ℕ → Shelf → Option (List (List ℕ)) → Storage
absent_storage core low shelf told =
    record { held = held_in core; low = low; spans = left (length core - low) []; shelf = shelf; device = told }
