-- The order of refusals.
use Rattle.std.specs.Prelude.{◌≡◌, ◌⊎◌, ◌<◌, List}
use Rattle.std.specs.List.{AllByRecursion}
use Rattle.b67_word.specs.declared.couples.Place.{Place}
use Rattle.b67_lemmas.specs.Lists.{Has}
use Rattle.b67_model.specs.Loader.{Refusal}
use Rattle.b67_load.specs.declared.fault.LoadFault.{LoadFault}
use Rattle.b67_load.specs.declared.fault.LoadFault.TheVariants.{Refused, Memory}

-- a place stands before another: by word, then by syllable
abbrev pub StandsBefore : Place → Place → Type 0
StandsBefore a b = (a.word < b.word) ⊎ ((a.word ≡ b.word) × (a.syllable < b.syllable))

-- a refusal comes before another: by segment, then by place, then by rule
abbrev pub ComesBefore : Refusal → Refusal → Type 0
ComesBefore a b = (a.segment < b.segment) ⊎ ((a.segment ≡ b.segment) × (StandsBefore a.place b.place ⊎ ((a.place ≡ b.place) × (a.rule < b.rule))))

-- no refusal comes before this one
abbrev pub IsLeast : List Refusal → Refusal → Type 0
IsLeast refusals least = AllByRecursion (λ r. (r ≡ least) ⊎ ComesBefore least r) refusals

-- a refusal of the list, before which no other comes
pub record IsFirst (refusals : List Refusal) (first : Refusal) : Type 0 where
  pub among : Has refusals first
  pub least : IsLeast refusals first

-- what is told is the least refusal
abbrev pub TellsLeast : LoadFault → List Refusal → Type 0
TellsLeast (Refused segment place reason) refusals = IsLeast refusals (record { segment = segment; place = place; rule = reason })
TellsLeast Memory refusals = Unit {0}
