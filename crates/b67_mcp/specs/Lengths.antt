-- Machines in which an array has another length, or is in no area and no chain.
use Rattle.std.specs.Prelude.{◌≡◌, ◌≢◌, ℕ, ◌+◌, ◌-◌, ◌<◌, ◌≤◌, ◌==◌, ◌⊎◌, zero, List, ◌++◌, length, take, replicate, Option, Some, None, Result, Ok, Err, if◌then◌else◌}
use Rattle.b67_area.specs.declared.Areas.{Areas}
use Rattle.b67_area.specs.declared.Kind.TheVariants.{Array}
use Rattle.b67_area.specs.Spans.{Span, without, keeping, shortened}
use Rattle.b67_backing.specs.Shelf.{Table, Shelf, chain_of, given}
use Rattle.b67_backing.specs.Held.{sectors_for}
use Rattle.b67_backing.specs.declared.SpaceFault.{SpaceFault}
use Rattle.b67_backing.specs.declared.SpaceFault.TheVariants as spaces
use Rattle.b67_lemmas.specs.Lists.{Has}
use Rattle.b67_stack.specs.declared.Cpu.{Cpu}
use Rattle.b67_stack.specs.Common.{nowhere, PagedObject, MachineView, Storage, with_held, TakesPlace}
use Rattle.b67_layout.specs.Machine.{content_after, HasHole}
use Rattle.b67_overlay.specs.Spans.{MachineCanPage}

-- an array of a view, by the address of its original
pub record IsArray (p : MachineView) (home : ℕ) (t : PagedObject) : Type 0 where
  pub there : Has p.objects t
  pub is : t.home ≡ home
  pub kind : t.kind ≡ Array

-- a chain's first sector, or 0 for none
abbrev pub IsChain : Shelf → ℕ → Type 0
IsChain s first = (first ≡ 0) ⊎ (1 ≤ length (chain_of first s.chains))

-- the sectors where a chain, if any, is free, and the spans where an area, if any, is a hole
abbrev pub freed_chain : ℕ → Shelf → Shelf
freed_chain first s = if first == 0 then s else given first s

abbrev pub freed_area : ℕ → Option ℕ → List Span → List Span
freed_area low None ss = ss
freed_area low (Some at) ss = without low at ss

-- the object with zeros, with its first numbers, and with zeros after its numbers up to a length
abbrev pub zeroed : PagedObject → PagedObject
zeroed t = record t { numbers = replicate (length t.numbers) zero }

abbrev pub cut_to : ℕ → PagedObject → PagedObject
cut_to words t = record t { numbers = take words t.numbers }

abbrev pub grown_to : ℕ → PagedObject → PagedObject
grown_to words t = record t { numbers = t.numbers ++ replicate (words - length t.numbers) zero }

-- the storage where an array is in no area and no chain
abbrev pub emptied : Storage → PagedObject → Storage
emptied x t = record x {
  held = with_held x.held t.home nowhere;
  spans = freed_area x.low (x.held t.home).area x.spans;
  shelf = freed_chain (x.held t.home).chain x.shelf;
}

-- the storage where an array has its first words alone, in its area and in no chain
abbrev pub shorter : Storage → PagedObject → ℕ → ℕ → Storage
shorter x t at words = record x {
  held = with_held x.held t.home (record { area = Some at; chain = 0 });
  spans = keeping x.low at 0 (shortened x.low at words x.spans);
  shelf = freed_chain (x.held t.home).chain x.shelf;
}

-- another storage, in which all but one object are held as they were
pub record OthersStay (x y : Storage) (home : ℕ) (told : Option (List (List ℕ))) : Type 0 where
  pub low : y.low ≡ x.low
  pub others : (q : ℕ) → q ≢ home → y.held q ≡ x.held q
  pub device : y.device ≡ content_after x.device told

-- the array keeps no chain and needs more sectors than are free; or its chain lacks more than are free for so many words
abbrev pub IsLackingFor : Storage → PagedObject → ℕ → ℕ → ℕ → Type 0
IsLackingFor y t words wants free =
    (free ≡ length y.shelf.free) × (free < wants)
    × ((((y.held t.home).chain ≡ 0) × ((y.held t.home).area ≢ None) × (wants ≡ sectors_for (length t.numbers)))
    ⊎ (((y.held t.home).chain ≢ 0) × (sectors_for (length t.numbers) + wants ≡ sectors_for words)))

-- the array is in its area still, or the hole that it left has room for it
abbrev pub KeepsRoom : Storage → PagedObject → Type 0
KeepsRoom y t = (y.held t.home).area ≡ None → HasHole (length t.numbers + 2) y.spans

-- by what was answered: the array is longer, and absent; or the same view stands, after a want of sectors in a storage that lacks them
abbrev pub LengthenMeets : Storage → MachineView → PagedObject → ℕ → Result (Unit {0}) SpaceFault → Cpu → Areas → Table → Option (List (List ℕ)) → Type 0
LengthenMeets x p t words (Ok done) cpu areas table told =
    (y : Storage) × OthersStay x y t.home told × ((y.held t.home).area ≡ None)
    × ((objects : List PagedObject) → TakesPlace p.objects objects t (grown_to words t) → MachineCanPage y cpu areas table told (record p { objects = objects }))
LengthenMeets x p t words (Err (spaces.BackingFull wants free)) cpu areas table told =
    (y : Storage) × OthersStay x y t.home told × MachineCanPage y cpu areas table told p × IsLackingFor y t words wants free × KeepsRoom y t
LengthenMeets x p t words (Err spaces.BackingFault) cpu areas table told =
    (y : Storage) × OthersStay x y t.home told × MachineCanPage y cpu areas table told p
LengthenMeets x p t words (Err (spaces.NoCore need core)) cpu areas table told = ⊥
