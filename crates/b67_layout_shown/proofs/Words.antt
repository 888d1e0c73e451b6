-- A cell's word is read back, under names by place.
use Rattle.std.proofs.Common.{◌≡◌, ℕ, ◌+◌, ◌-◌, ◌*◌, ◌^◌, ◌<◌, List, [], ◌∷◌, map, length, refl, ◌∙◌, ap, subst, arith}
use Rattle.std.specs.List.{AllByRecursion}
use Rattle.b67_word.specs.Tagged.{word, bits_at}
use Rattle.b67_lemmas.specs.Lists.{Has}
use Rattle.b67_model.specs.Words as Words
use Rattle.b67_model.specs.Common.{Word, Name, Ref, Proc, JobConstants, Job, Array, Known, IsSegment, NamesEntered, NamesArray, OwnsArray, WordInOrder}
use Rattle.b67_stack.specs.Stacks.{StackPlace}
use Rattle.b67_layout.specs.Placement.{Placement}
use Rattle.b67_layout.specs.Layout.{shape}
use Rattle.b67_layout_shown.specs.Reading.{is_set}
use Rattle.b67_layout_shown.specs.Shown.{reference_by, word_seen}
use Rattle.b67_layout_shown.specs.Places.{word_by}
use Rattle.b67_layout_shown.proofs.Bits.{sirw_46, sirw_36, sirw_20, sirw_0, irw_46, irw_0}

-- where an activation record stands fits a reference, and its place is read as a name
pub record PlaceIsRead (frame : StackPlace → ℕ) (rename : ℕ → ℕ) (spot : ℕ → StackPlace) (identity : ℕ) : Type 0 where
  pub stack : (spot identity).stack < 2 ^ 10
  pub disp : (spot identity).disp < 2 ^ 16
  pub is : frame (spot identity) ≡ rename identity

module _ (plan : Placement) (j : ℕ) (constants : JobConstants) (job : Job) (spot : ℕ → StackPlace) (reach : List Known)
    (frame : StackPlace → ℕ) (array : ℕ → ℕ) (rename relabel : ℕ → ℕ)
    (few : length constants.segments < 2 ^ 13)
    (frames : (identity : ℕ) → NamesEntered reach identity → PlaceIsRead frame rename spot identity)
    (arrays : (a : Array) → Has job.arrays a → array (plan.home j a.identity) ≡ relabel a.identity) where
  stuffed : (k d o n : ℕ) → k < 2 ^ 10 → d < 2 ^ 16 → o < 2 ^ 13 → frame (record { stack = k; disp = d }) ≡ n
      → reference_by (word 1 (2 ^ 46 + k * 2 ^ 36 + d * 2 ^ 20 + o)) frame (is_set (word 1 (2 ^ 46 + k * 2 ^ 36 + d * 2 ^ 20 + o)) 46) ≡ Ref n o
  stuffed k d o n kh dh oh e = rw (sirw_46 k d o kh dh oh, sirw_36 k d o kh dh oh, sirw_20 k d o kh dh oh, sirw_0 k d o kh dh oh, e) refl

  plain : (c : ℕ) → c < 2 ^ 14 → reference_by (word 1 c) frame (is_set (word 1 c) 46) ≡ Name c
  plain c h = rw (irw_46 c h, irw_0 c h) refl

  procedure : (s w l g : ℕ) → s < 2 ^ 3 → w < 2 ^ 13 → l < 2 ^ 5 → g + 1 < 2 ^ 14 → let v = word 7 (s * 2 ^ 33 + w * 2 ^ 20 + l * 2 ^ 14 + (g + 1)) in
      Proc (bits_at v 0 14 - 1) (bits_at v 14 5) (record { word = bits_at v 20 13; syllable = bits_at v 33 3 }) ≡ Proc g l (record { word = w; syllable = s })
  procedure s w l g sh wh lh gh = grind arith

  owned : (owner a : ℕ) → OwnsArray job.arrays owner a → array (plan.home j a) ≡ relabel a
  owned owner a o = subst (λ n. array (plan.home j n) ≡ relabel n) o.named (arrays o.item o.live)

  copied : (a : ℕ) → NamesArray job.arrays reach a → array (plan.home j a) ≡ relabel a
  copied a o = subst (λ n. array (plan.home j n) ≡ relabel n) o.named (arrays o.item o.live)

  pub word_read : (owner : ℕ) (w : Word) → WordInOrder (IsSegment constants) job.arrays reach owner w → word_seen frame array (shape plan j job spot w) ≡ word_by rename relabel w
  word_read owner w o = grind arith

  pub words_read : (owner : ℕ) (ws : List Word) → AllByRecursion (WordInOrder (IsSegment constants) job.arrays reach owner) ws → map (word_seen frame array) (map (shape plan j job spot) ws) ≡ map (word_by rename relabel) ws
  words_read owner [] o = refl
  words_read owner (w ∷ ws) o = ap (λ x. x ∷ map (word_seen frame array) (map (shape plan j job spot) ws)) (word_read owner w o.0) ∙ ap (λ xs. word_by rename relabel w ∷ xs) (words_read owner ws o.1)
