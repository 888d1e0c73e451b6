-- How the objects of what a machine shows are held, read off its words.
use Rattle.std.specs.Prelude.{ℕ, ◌+◌, ◌==◌, Bool, true, false, List, length, Some, None, if◌then◌else◌}
use Rattle.std.specs.List.{list_any}
use Rattle.b67_word.specs.Tagged.{Tagged, bits_at}
use Rattle.b67_area.specs.Spans.{Span}
use Rattle.b67_stack.specs.Shapes.{Location, Locations, nowhere}
use Rattle.b67_stack.specs.MachineView.{PagedObject, MachineView}
use Rattle.b67_layout.specs.Layout.{machine_view}
use Rattle.b67_task.specs.declared.tables.Machine.{Machine}
use Rattle.b67_layout_shown.specs.Reading.{word_seen_at, is_set}
use Rattle.b67_layout_shown.specs.Areas.{spans_in}
use Rattle.b67_layout_shown.specs.Shown.{Sight, shown, placed}
use Rattle.b67_layout_shown.specs.Machines.{sight_of}

-- what the descriptor at an address says: a present object's chain stands in its area's tail
abbrev pub location_by : List Tagged → Tagged → Bool → Location
location_by core w true = record { area = Some (bits_at w 0 20); chain = bits_at (word_seen_at core (bits_at w 0 20 + bits_at w 20 20)) 0 20 }
location_by core w false = record { area = None; chain = bits_at w 0 20 }

abbrev pub location_in : List Tagged → ℕ → Location
location_in core home = let w = word_seen_at core home in location_by core w (is_set w 47)

abbrev pub is_home_of : ℕ → PagedObject → Bool
is_home_of home t = t.home == home

-- an address of no object holds nothing
abbrev pub held_by_objects : List Tagged → List PagedObject → Locations
held_by_objects core objects home = if list_any (is_home_of home) objects then location_in core home else nowhere

-- the view that a machine shows
abbrev pub view_in : Sight → MachineView
view_in k = machine_view (placed k) (shown k).jobs

abbrev pub view_of : Machine → MachineView
view_of k = view_in (sight_of k)

abbrev pub held_of : Sight → Locations
held_of k = held_by_objects k.core (view_in k).objects

-- as many as core has words
abbrev pub spans_of : List Tagged → ℕ → List Span
spans_of core low = spans_in core (length core) low
