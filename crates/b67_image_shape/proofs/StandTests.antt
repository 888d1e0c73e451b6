-- The tests of a task's stack.
use Rattle.std.proofs.Common.{◌≡◌, ◌≢◌, ℕ, ◌+◌, ◌-◌, ◌<◌, ◌≤◌, ◌^◌, ◌==◌, Bool, true, false, length, refl, sym, ◌∙◌, ap, arith, ⊎_elim}
use Rattle.std.specs.Prelude.{◌&&◌}
use Rattle.std.proofs.lemmas.Bool.{cases_eq, eq-eqb, ne_eqb, eqb-true}
use Rattle.b67_word.specs.Tagged.{Tagged, bits_at}
use Rattle.b67_ctl.specs.Layout.{toscw_word}
use Rattle.b67_layout.specs.Rows.{TaskRow}
use Rattle.b67_layout_shown.specs.Reading.{word_seen_at}
use Rattle.b67_layout_shown.specs.Shown.{Sight, top_in}
use Rattle.b67_image_shape.specs.Items.{base_at}
use Rattle.b67_image_shape.specs.StackWalk.{walk_test}
use Rattle.b67_image_shape.specs.TaskWalk.{toscw_in, level_by, level_in, TopStands, registers_fit, is_toscw, top_fits_by, top_fits, is_segment_place, TaskStands}
use Rattle.b67_image_shape.proofs.Fits.{same_is, is_same}
use Rattle.b67_image_shape.proofs.Walked.{walk_stands, stands_walk}

halves : (a b : Bool) → (a && b) ≡ true → (a ≡ true) × (b ≡ true)
halves a b e = grind arith

joined : (a b : Bool) → a ≡ true → b ≡ true → (a && b) ≡ true
joined a b e f = ap (λ x. x && b) e ∙ f

no_both : (b : Bool) → b ≡ false → b ≡ true → ⊥
no_both b e f = let z : true ≡ false = sym f ∙ e in let y : ⊥ = cc in y

module _ (k : Sight) (r : TaskRow) where
  -- ---- what is read of the top

  pub level_runs : r.slot ≡ k.regs.slot → k.regs.level ≡ level_in k r
  level_runs e = sym (ap (level_by k r) (eq-eqb r.slot k.regs.slot e))

  pub level_waits : (base part : ℕ) (w : Tagged) → r.slot ≢ k.regs.slot → base ≡ base_at k r → w ≡ word_seen_at k.core base → part ≡ bits_at w 14 5 → part ≡ level_in k r
  level_waits base part w ne b e p = grind arith

  pub top_runs_fit : (base : ℕ) (b : Bool) → r.slot ≡ k.regs.slot → base ≡ base_at k r → b ≡ registers_fit k.regs base → b ≡ top_fits k r
  top_runs_fit base b e at is = is ∙ ap (registers_fit k.regs) at ∙ sym (ap (top_fits_by k r) (eq-eqb r.slot k.regs.slot e))

  pub top_waits_fit : (base : ℕ) (w : Tagged) (b : Bool) → r.slot ≢ k.regs.slot → base ≡ base_at k r → w ≡ word_seen_at k.core base → b ≡ is_toscw w → b ≡ top_fits k r
  top_waits_fit base w b ne at e is = is ∙ ap is_toscw e ∙ ap (λ n. is_toscw (word_seen_at k.core n)) at ∙ sym (ap (top_fits_by k r) (ne_eqb r.slot k.regs.slot ne))

  -- ---- the top

  top_stands : top_fits k r ≡ true → TopStands k r
  top_stands t = grind (arith, halves, eq-eqb, eqb-true, same_is, ne_eqb)

  stands_top : TopStands k r → top_fits k r ≡ true
  stands_top t = grind arith

  -- ---- all of it

  walk_here : (segments base turns level f s : ℕ) → base ≡ base_at k r → turns ≡ k.regs.stack_size → level ≡ level_in k r → f ≡ (top_in k r).f → s ≡ (top_in k r).s
      → walk_test k.core base r.slot segments turns level f s ≡ walk_test k.core (base_at k r) r.slot segments k.regs.stack_size (level_in k r) (top_in k r).f (top_in k r).s
  walk_here segments base turns level f s a b c d e = rw (a, b, c, d, e) refl

  pub low_falls : (segments base size s : ℕ) → base ≡ base_at k r → size ≡ k.regs.stack_size → s ≡ (top_in k r).s → base + size ≤ s → TaskStands k segments r → ⊥
  low_falls segments base size s a b e high t = let low = t.low in omega (arith, low, a, b, e, high)

  pub top_falls : (segments : ℕ) → top_fits k r ≡ false → TaskStands k segments r → ⊥
  top_falls segments e t = no_both (top_fits k r) e (stands_top t.top)

  pub walk_falls : (segments base turns level f s : ℕ) (b : Bool) → k.regs.stack_size < 2 ^ 14 → base ≡ base_at k r → turns ≡ k.regs.stack_size → level ≡ level_in k r → f ≡ (top_in k r).f → s ≡ (top_in k r).s → b ≡ walk_test k.core base r.slot segments turns level f s → b ≡ false → TaskStands k segments r → ⊥
  walk_falls segments base turns level f s b room a c d e g is fails t = grind (arith, no_both, walk_here, stands_walk)

  pub place_falls : (segments : ℕ) (b : Bool) → b ≡ is_segment_place segments ((top_in k r).segment - 1) (top_in k r).place → b ≡ false → TaskStands k segments r → ⊥
  place_falls segments b is fails t = no_both b fails (is ∙ t.place)

  pub stands_if : (segments base size turns level f s : ℕ) (b p : Bool) → base_at k r + k.regs.stack_size ≤ length k.core → base ≡ base_at k r → size ≡ k.regs.stack_size → turns ≡ k.regs.stack_size → level ≡ level_in k r → f ≡ (top_in k r).f → s ≡ (top_in k r).s
      → s < base + size → top_fits k r ≡ true → b ≡ walk_test k.core base r.slot segments turns level f s → b ≡ true → p ≡ is_segment_place segments ((top_in k r).segment - 1) (top_in k r).place → p ≡ true → TaskStands k segments r
  stands_if segments base size turns level f s b p inside a z c d e g high top is passes at place = grind (arith, top_stands, walk_stands, walk_here)
