-- The jobs and slots of a session that opens, by their places in the list of programs.
use Rattle.std.proofs.Common.{◌≡◌, ℕ, zero, suc, ◌+◌, List, [], ◌∷◌, Some, refl, ◌∙◌, ap, arith, subst, inl, inr}
use Rattle.std.specs.List.{slice_get}
use Rattle.std.specs.Prelude.{find}
use Rattle.std.proofs.lemmas.Option.{none-some}
use Rattle.b67_lemmas.specs.Lists.{Has}
use Rattle.b67_model.specs.Keyed.{keyed}
use Rattle.b67_model.specs.Common.{SessionJob, Program, opened, number_of}
use Rattle.b67_law.specs.Opening.{Opening, opened_from}
use Rattle.b67_layout.specs.Placement.{Slotted, is_row_of}
use Rattle.b67_session.specs.Opened.{slots_from}

-- the job with a number
abbrev pub member : ℕ → ℕ → Opening → SessionJob
member stack j o = opened j o.program stack o.limit o.numbers

pub for_members : (P : SessionJob → Type 0) (stack n : ℕ) (openings : List Opening) →
    ((k j : ℕ) (o : Opening) → slice_get openings k ≡ Some o → j ≡ n + k → P (member stack j o)) →
    (m : SessionJob) → Has (opened_from n stack openings) m → P m
for_members P stack n [] h m i = absurd i
for_members P stack n (o ∷ more) h m (inl e) = subst P e (h 0 n o refl (omega arith))
for_members P stack n (o ∷ more) h m (inr i) = for_members P stack (n + 1) more (λ k j p e f. h (suc k) j p e (omega (arith, f))) m i

pub member_at : (stack n : ℕ) (openings : List Opening) (k j : ℕ) (o : Opening) → slice_get openings k ≡ Some o → j ≡ n + k →
    keyed number_of j (opened_from n stack openings) ≡ Some (member stack j o)
member_at stack n [] k j o e f = absurd (none-some o e)
member_at stack n (p ∷ more) zero j o e f = grind arith
member_at stack n (p ∷ more) (suc k) j o e f = grind (arith, member_at stack (n + 1) more k j o e)

pub has_member : (stack n : ℕ) (openings : List Opening) (k j : ℕ) (o : Opening) → slice_get openings k ≡ Some o → j ≡ n + k →
    Has (opened_from n stack openings) (member stack j o)
has_member stack n [] k j o e f = absurd (none-some o e)
has_member stack n (p ∷ more) zero j o e f = grind arith
has_member stack n (p ∷ more) (suc k) j o e f = inr (has_member stack (n + 1) more k j o e (omega (arith, f)))

-- the slot of a first task
abbrev pub slotted : ℕ → Slotted
slotted s = record { job = s + 1; task = 1; slot = s }

pub for_slots : (P : Slotted → Type 0) (n : ℕ) (programs : List Program) →
    ((k s : ℕ) (p : Program) → slice_get programs k ≡ Some p → s ≡ n + k → P (slotted s)) →
    (r : Slotted) → Has (slots_from n programs) r → P r
for_slots P n [] h r i = absurd i
for_slots P n (p ∷ more) h r (inl e) = subst P e (h 0 n p refl (omega arith))
for_slots P n (p ∷ more) h r (inr i) = for_slots P (n + 1) more (λ k s q e f. h (suc k) s q e (omega (arith, f))) r i

pub has_slot : (n : ℕ) (programs : List Program) (k s : ℕ) (p : Program) → slice_get programs k ≡ Some p → s ≡ n + k → Has (slots_from n programs) (slotted s)
has_slot n [] k s p e f = absurd (none-some p e)
has_slot n (q ∷ more) zero s p e f = let is : n ≡ s = omega (arith, f) in inl (ap slotted is)
has_slot n (q ∷ more) (suc k) s p e f = inr (has_slot (n + 1) more k s p e (omega (arith, f)))

pub slot_at_place : (n : ℕ) (programs : List Program) (k s : ℕ) (p : Program) → slice_get programs k ≡ Some p → s ≡ n + k →
    keyed (λ (r : Slotted). r.slot) s (slots_from n programs) ≡ Some (slotted s)
slot_at_place n [] k s p e f = absurd (none-some p e)
slot_at_place n (q ∷ more) zero s p e f = grind arith
slot_at_place n (q ∷ more) (suc k) s p e f = grind (arith, slot_at_place (n + 1) more k s p e)

pub slot_of_job : (n : ℕ) (programs : List Program) (k s : ℕ) (p : Program) → slice_get programs k ≡ Some p → s ≡ n + k →
    find (is_row_of (s + 1) 1) (slots_from n programs) ≡ Some (slotted s)
slot_of_job n [] k s p e f = absurd (none-some p e)
slot_of_job n (q ∷ more) zero s p e f = grind arith
slot_of_job n (q ∷ more) (suc k) s p e f = grind (arith, slot_of_job (n + 1) more k s p e)
