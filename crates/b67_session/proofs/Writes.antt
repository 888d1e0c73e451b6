-- What several writes to core leave.
use Rattle.std.proofs.Common.{◌≡◌, ◌≢◌, ℕ, ◌+◌, ◌*◌, ◌<◌, ◌≤◌, ◌^◌, ◌⊎◌, List, length, Some, refl, sym, ◌∙◌, ap, arith, ⊎_elim}
use Rattle.std.specs.List.{slice_get, slice_set}
use Rattle.b67_core.proofs.Writes.{slice_get-set_same, slice_get-set_other}
use Rattle.b67_word.specs.Tagged.{Tagged, word}
use Rattle.b67_session.specs.Words.{first_vector_word, FirstTaskLies}
use Rattle.b67_model.specs.declared.limits.TheConstants.{MOST_JOBS}

-- a word is written
pub record Puts (old new : List Tagged) (at : ℕ) (w : Tagged) : Type 0 where
  pub is : new ≡ slice_set old at w
  pub inside : at < length old

at_put : (old new : List Tagged) (at i : ℕ) (w v : Tagged) → Puts old new at w → i ≡ at → w ≡ v → slice_get new i ≡ Some v
at_put old new at i w v p e f = ap (slice_get new) e ∙ (ap (λ c. slice_get c at) p.is ∙ (slice_get-set_same old at w p.inside ∙ ap Some f))

off_put : (old new : List Tagged) (at i : ℕ) (w : Tagged) → Puts old new at w → i ≢ at → slice_get new i ≡ slice_get old i
off_put old new at i w p e = ap (λ c. slice_get c i) p.is ∙ slice_get-set_other old at i w e

module _ (a b c d e : List Tagged) (at k j : ℕ) (v t m z : Tagged) (first : Puts a b j v) (second : Puts b c at t) (third : Puts c d (at + 1) m) (fourth : Puts d e (at + 2) z) (place : j ≡ 32 + k) (above : 160 ≤ at) (few : k < MOST_JOBS) where
  pub task_lies : v ≡ first_vector_word (k + 1) → t ≡ word 3 (2 * 2 ^ 20 + 2 * 2 ^ 14 + 1) → m ≡ word 3 (2 ^ 47 + 2 ^ 46 + (127 + (k + 1)) * 2 ^ 36 + 2 * 2 ^ 14) → z ≡ word 3 0 → FirstTaskLies e at k
  task_lies vector top mark back = record {
    slot = record {
      top = off_put d e (at + 2) at z fourth (λ q. omega (arith, q)) ∙ (off_put c d (at + 1) at m third (λ q. omega (arith, q)) ∙ at_put b c at at t _ second refl top);
      mark = off_put d e (at + 2) (at + 1) z fourth (λ q. omega (arith, q)) ∙ at_put c d (at + 1) (at + 1) m _ third refl mark;
      back = at_put d e (at + 2) (at + 2) z _ fourth refl back;
    };
    vector = off_put d e (at + 2) (32 + k) z fourth (λ q. omega (arith, q)) ∙ (off_put c d (at + 1) (32 + k) m third (λ q. omega (arith, q)) ∙ (off_put b c at (32 + k) t second (λ q. omega (arith, q)) ∙ at_put a b j (32 + k) v _ first (sym place) vector));
  }

  pub task_outside : (i : ℕ) → i ≢ 32 + k → (i < at) ⊎ (at + 3 ≤ i) → slice_get e i ≡ slice_get a i
  task_outside i other out =
      let low : i ≢ at = λ q. ⊎_elim (λ (l : i < at). omega (arith, q)) (λ (l : at + 3 ≤ i). omega (arith, q)) out in
      let mid : i ≢ at + 1 = λ q. ⊎_elim (λ (l : i < at). omega (arith, q)) (λ (l : at + 3 ≤ i). omega (arith, q)) out in
      let high : i ≢ at + 2 = λ q. ⊎_elim (λ (l : i < at). omega (arith, q)) (λ (l : at + 3 ≤ i). omega (arith, q)) out in
      off_put d e (at + 2) i z fourth high ∙ (off_put c d (at + 1) i m third mid ∙ (off_put b c at i t second low ∙ off_put a b j i v first (λ q. other (q ∙ place))))
