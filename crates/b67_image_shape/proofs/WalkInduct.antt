-- Induction along a walk down a stack that passes: each activation record that is read stands at its place.
use Rattle.std.proofs.Common.{◌≡◌, ℕ, zero, suc, ◌+◌, ◌-◌, ◌<◌, ◌≤◌, ◌==◌, Bool, true, false, List, [], ◌∷◌, length, refl, arith}
use Rattle.std.specs.Prelude.{◌&&◌, nat_lt, nat_le}
use Rattle.std.proofs.lemmas.Bool.{eqb-true, ltb-true, leb-true}
use Rattle.b67_word.specs.Tagged.{Tagged}
use Rattle.b67_ctl.specs.declared.marks.Mscw.{Mscw}
use Rattle.b67_stack.specs.Common.{Activation, stack_words}
use Rattle.b67_layout_shown.specs.Reading.{word_seen_at, mscw_in, activation_by, below_by, stack_seen}
use Rattle.b67_image_shape.specs.StackWalk.{record_fits, level_under, under_fits, walk_test}
use Rattle.b67_image_shape.proofs.Walked.{walk_stands}

halves : (a b : Bool) → (a && b) ≡ true → (a ≡ true) × (b ≡ true)
halves a b e = grind arith

abbrev pub back_at : List Tagged → ℕ → ℕ
back_at core f = (mscw_in (word_seen_at core f)).back

-- the activation record of the mark at f, which reaches up to s
abbrev pub record_seen : List Tagged → ℕ → ℕ → Activation
record_seen core f s = activation_by core f s (mscw_in (word_seen_at core f)) (mscw_in (word_seen_at core f)).entered

-- where it stands, over those below it
pub record StandsHere (core : List Tagged) (base f s : ℕ) (below : List Activation) : Type 0 where
  pub low : base < f
  pub high : f ≤ s
  pub under : suc base + stack_words below ≡ f
  pub top : base + stack_words (record_seen core f s ∷ below) ≡ s

-- the records below, and the walk over them, by the distance of the next mark
abbrev pub records_under : List Tagged → ℕ → ℕ → ℕ → List Activation
records_under core n f b = below_by b (λ d. stack_seen core n (f - d) (f - 1))

abbrev rest_walks : List Tagged → ℕ → ℕ → ℕ → ℕ → ℕ → ℕ → ℕ → Bool
rest_walks core base k segments n level f d = walk_test core base k segments n (level_under core level f (mscw_in (word_seen_at core f)).entered) (f - d) (f - 1)

module _ (core : List Tagged) (base k segments : ℕ) (Q : ℕ → ℕ → ℕ → List Activation → Type 0) (bottom : (n f s : ℕ) → s < length core → back_at core f ≡ 0 → StandsHere core base f s [] → f ≡ base + 1 → Q (suc n) f s (record_seen core f s ∷ [])) (step : (n f s d : ℕ) → s < length core → back_at core f ≡ suc d → StandsHere core base f s (stack_seen core n (f - suc d) (f - 1)) → base + suc d < f → Q n (f - suc d) (f - 1) (stack_seen core n (f - suc d) (f - 1)) → Q (suc n) f s (record_seen core f s ∷ stack_seen core n (f - suc d) (f - 1))) where
  high_of : (level f s : ℕ) (m : Mscw) (e : Bool) → record_fits core k segments level f s m e ≡ true → f ≤ s
  high_of level f s m e t = grind arith

  pub walk_induct : (n level f s : ℕ) → s < length core → walk_test core base k segments n level f s ≡ true → Q n f s (stack_seen core n f s)
  unfolding walk_test stack_seen
  walk_induct zero level f s inside t = absurd (let z : ⊥ = cc in z)
  walk_induct (suc n) level f s inside t =
      let m = mscw_in (word_seen_at core f) in
      let more = λ (d : ℕ). walk_test core base k segments n (level_under core level f m.entered) (f - d) (f - 1) in
      let p = halves (nat_lt base f) (record_fits core k segments level f s m m.entered && under_fits base f m.back m.entered more) t in
      let q = halves (record_fits core k segments level f s m m.entered) (under_fits base f m.back m.entered more) p.1 in
      let stands = walk_stands core base k segments (suc n) level f s inside t in
      let low = ltb-true base f p.0 in
      let high = high_of level f s (mscw_in (word_seen_at core f)) (mscw_in (word_seen_at core f)).entered q.0 in
      by (λ lv f2 s2 i w. walk_induct n lv f2 s2 i w) (back_at core f) refl low high stands.mark stands.top q.1
    where
      by : ((lv f2 s2 : ℕ) → s2 < length core → walk_test core base k segments n lv f2 s2 ≡ true → Q n f2 s2 (stack_seen core n f2 s2)) → (b : ℕ) → back_at core f ≡ b → base < f → f ≤ s → base + (stack_words (records_under core n f b) + 1) ≡ f → base + stack_words (record_seen core f s ∷ records_under core n f b) ≡ s → under_fits base f b (mscw_in (word_seen_at core f)).entered (rest_walks core base k segments n level f) ≡ true
          → Q (suc n) f s (record_seen core f s ∷ records_under core n f b)
      by rec zero e low high mark top u =
          let at = eqb-true f (base + 1) (halves (f == base + 1) _ u).0 in
          bottom n f s inside e (record { low = low; high = high; under = omega (arith, mark); top = top }) at
      by rec (suc d) e low high mark top u =
          let p = halves (nat_lt (base + suc d) f) (rest_walks core base k segments n level f (suc d)) u in
          step n f s d inside e (record { low = low; high = high; under = omega (arith, mark); top = top }) (ltb-true (base + suc d) f p.0)
          (rec (level_under core level f (mscw_in (word_seen_at core f)).entered) (f - suc d) (f - 1) (omega (arith, inside, high)) p.1)
