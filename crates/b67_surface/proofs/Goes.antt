-- The machine that a run leaves may be given to a slice.
use Rattle.std.proofs.Common.{◌≡◌, inl, inr, ◌+◌, ℕ, List, length, Option, None, Some, IfSome, refl, sym, subst}
use Rattle.std.proofs.lemmas.Option.{same_Some}
use denote.Ref.{Bor}
use Rattle.b67_task.specs.declared.tables.Machine.{Machine}
use Rattle.b67_job.specs.Device.{Device}
use Rattle.b67_session.specs.Slices.{IsOpen}
use Rattle.b67_job.specs.Due.{IsOpenedOrResumed}

module _ {S B : Type 0} {words : List (Bor (List ℕ))} {left : S → Option (List ℕ)} {source_faults : S → ℕ} {deck deck' : S} (d : Device B) where
  goes_on : (k : Machine) → IsOpenedOrResumed words left source_faults deck deck' d k → IsOpen d.now k
  goes_on k (inl h) = h.3.goes_on
  goes_on k (inr h) = subst (IsOpen d.now) (same_Some h.k k (sym h.is)) h.gone.goes_on

  sized : (k : Machine) → IsOpenedOrResumed words left source_faults deck deck' d k → d.sectors_now + 1 ≡ length k.sectors.links
  sized k (inl h) = h.3.sized
  sized k (inr h) = subst (λ (k : Machine). d.sectors_now + 1 ≡ length k.sectors.links) (same_Some h.k k (sym h.is)) h.gone.sized

  pub open_if : (machine : Option Machine) → ((k : Machine) → machine ≡ Some k → IsOpenedOrResumed words left source_faults deck deck' d k) → IfSome machine (λ k. IsOpen d.now k)
  open_if None opens = tt
  open_if (Some k) opens = goes_on k (opens k refl)

  pub sized_if : (machine : Option Machine) → ((k : Machine) → machine ≡ Some k → IsOpenedOrResumed words left source_faults deck deck' d k) → IfSome machine (λ k. d.sectors_now + 1 ≡ length k.sectors.links)
  sized_if None opens = tt
  sized_if (Some k) opens = sized k (opens k refl)
