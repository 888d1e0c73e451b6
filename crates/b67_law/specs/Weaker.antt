-- The order of a session without its places, and with other numbers in its segments and arrays.
use Rattle.std.specs.Prelude.{◌≡◌, ℕ, ◌<◌, ◌^◌, List, [], ◌∷◌, length}
use Rattle.std.specs.List.{AllByRecursion}
use Rattle.b67_model.specs.Common.{Array, Segment, SessionJob, Session, IsInOrder, IsInOrderButPlaces}

abbrev pub StartsAreSegments : Type 0
StartsAreSegments = (s : Session) → IsInOrder s → IsInOrderButPlaces s

-- other numbers, as many as before
pub record Renumbers (old new : List ℕ) : Type 0 where
  pub count : length new ≡ length old
  pub bits : AllByRecursion (λ (n : ℕ). n < 2 ^ 48) new

-- the same segments, with other code
abbrev pub Recoded : List Segment → List Segment → Type 0
Recoded [] [] = Unit {0}
Recoded (a ∷ more) (b ∷ others) = Renumbers a.code b.code × Recoded more others
Recoded _ _ = ⊥

pub record RefilledArray (a b : Array) : Type 0 where
  pub identity : b.identity ≡ a.identity
  pub owner : b.owner ≡ a.owner
  pub writable : b.writable ≡ a.writable
  pub numbers : Renumbers a.numbers b.numbers

abbrev pub Refilled : List Array → List Array → Type 0
Refilled [] [] = Unit {0}
Refilled (a ∷ more) (b ∷ others) = RefilledArray a b × Refilled more others
Refilled _ _ = ⊥

-- the same member but for the words of its segments and the numbers of its arrays
pub record OtherNumbers (m n : SessionJob) : Type 0 where
  pub segments : Recoded m.constants.segments n.constants.segments
  pub arrays : Refilled m.progress.job.arrays n.progress.job.arrays
  pub rest : n ≡ record m {
    constants = record m.constants { segments = n.constants.segments };
    progress = record m.progress { job = record m.progress.job { arrays = n.progress.job.arrays } };
  }

abbrev pub AllOtherNumbers : List SessionJob → List SessionJob → Type 0
AllOtherNumbers [] [] = Unit {0}
AllOtherNumbers (m ∷ ms) (n ∷ ns) = OtherNumbers m n × AllOtherNumbers ms ns
AllOtherNumbers _ _ = ⊥

abbrev pub OtherNumbersKeepOrder : Type 0
OtherNumbersKeepOrder = (s : Session) (jobs : List SessionJob) → AllOtherNumbers s.jobs jobs → IsInOrderButPlaces s → IsInOrderButPlaces (record s { jobs = jobs })
