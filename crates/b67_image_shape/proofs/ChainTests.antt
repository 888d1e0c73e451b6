-- Turns of the tests of chains.
use Rattle.std.proofs.Common.{◌≡◌, ◌≢◌, ℕ, suc, ◌+◌, ◌-◌, ◌<◌, ◌≤◌, ◌==◌, Bool, true, false, List, length, get_or, sym, ◌∙◌, ap, arith, ⊎_elim}
use Rattle.std.proofs.lemmas.Bool.{cases_eq, cond-true, cond-false, eq-eqb, ne_eqb}
use Rattle.b67_backing.specs.Links.{sector_link, AreInside, AreLed}
use Rattle.b67_backing.proofs.Marks.{mark-true, mark-false}
use Rattle.b67_image_shape.specs.Chains.{IsChainHead, IsSectorChain, run_test, AreClaimed}

-- ---- which sectors are led to

-- ---- the walk behind a sector

pub record RunsOn (links : List ℕ) (first behind turn at : ℕ) : Type 0 where
  pub low : 1 ≤ at
  pub high : at ≤ length links
  pub same : run_test links behind first ≡ run_test links (behind - turn) at

pub run_starts : (links : List ℕ) (first behind : ℕ) → 1 ≤ first → first ≤ length links → RunsOn links first behind 0 first
run_starts links first behind low high = let all : behind ≡ behind - 0 = omega arith in record { low = low; high = high; same = ap (λ n. run_test links n first) all }

turn_is : (links : List ℕ) (behind turn at : ℕ) → turn < behind → run_test links (behind - turn) at ≡ run_test links (suc (behind - (turn + 1))) at
turn_is links behind turn at low = let next : behind - turn ≡ suc (behind - (turn + 1)) = omega arith in ap (λ n. run_test links n at) next

pub run_ends : (links : List ℕ) (first behind turn at : ℕ) → RunsOn links first behind turn at → turn < behind → sector_link links at ≡ at → false ≡ run_test links behind first
run_ends links first behind turn at r low e = sym (r.same ∙ turn_is links behind turn at low ∙ cond-true (sector_link links at == at) _ _ (eq-eqb (sector_link links at) at e))

pub run_stops : (links : List ℕ) (first behind turn at : ℕ) → RunsOn links first behind turn at → turn < behind → sector_link links at ≢ at → sector_link links at ≡ 0 → false ≡ run_test links behind first
run_stops links first behind turn at r low ne z = sym (r.same ∙ turn_is links behind turn at low ∙ cond-false (sector_link links at == at) _ _ (ne_eqb (sector_link links at) at ne) ∙ cond-true (sector_link links at == 0) _ _ (eq-eqb (sector_link links at) 0 z))

pub run_on : (links : List ℕ) (first behind turn at : ℕ) → AreInside links → RunsOn links first behind turn at → turn < behind → sector_link links at ≢ at → sector_link links at ≢ 0 → RunsOn links first behind (turn + 1) (sector_link links at)
run_on links first behind turn at inside r low ne some = grind (arith, turn_is, cond-false, ne_eqb)

pub run_done : (links : List ℕ) (first behind turn at : ℕ) → RunsOn links first behind turn at → behind ≤ turn → (sector_link links at == at) ≡ run_test links behind first
run_done links first behind turn at r h = let none : behind - turn ≡ 0 = omega (arith, h) in sym (r.same ∙ ap (λ n. run_test links n at) none)

-- ---- heads

pub head_is : (links : List ℕ) (led : List Bool) (n : ℕ) → AreLed links led → n ≢ 0 → n ≤ length links → sector_link links n ≢ 0 → get_or led n false ≡ false → IsChainHead links n
head_is links led n a some high linked free = grind arith

pub no_head : (links : List ℕ) (led : List Bool) (n : ℕ) → AreLed links led → get_or led n false ≡ true → IsChainHead links n → ⊥
no_head links led n a e h = let (p, f) = a.only n (mark-true led n e) in h.unled p f

pub chain_of_run : (links : List ℕ) (n many : ℕ) → 1 ≤ many → IsChainHead links n → true ≡ run_test links (many - 1) n → IsSectorChain links n many
chain_of_run links n many some h e = record { head = h; behind = many - 1; many_is = omega (arith, some); runs = sym e }

pub run_of_chain : (links : List ℕ) (n many : ℕ) → 1 ≤ many → false ≡ run_test links (many - 1) n → IsSectorChain links n many → ⊥
run_of_chain links n many some e c = grind arith

-- ---- claims

pub claims_next : (links : List ℕ) (claimed : List Bool) (i : ℕ) → ((n : ℕ) → n ≤ i → IsChainHead links n → get_or claimed n false ≡ true) → (IsChainHead links (i + 1) → get_or claimed (i + 1) false ≡ true) → (n : ℕ) → n ≤ i + 1 → IsChainHead links n → get_or claimed n false ≡ true
claims_next links claimed i before this n le h = ⊎_elim (λ e. rw e (this (rw e at h))) (λ ne. before n (omega (arith, le, ne)) h) (cases_eq n (i + 1))

pub not_claimed : (links : List ℕ) (claimed : List Bool) (n : ℕ) → IsChainHead links n → get_or claimed n false ≡ false → AreClaimed links claimed → ⊥
not_claimed links claimed n h e all = let z : true ≡ false = sym (all n h) ∙ e in let y : ⊥ = cc in y
