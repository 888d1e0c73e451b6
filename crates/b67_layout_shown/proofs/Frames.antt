-- The activation records of a task are read back, under names by place.
use Rattle.std.proofs.Common.{◌≡◌, ◌≢◌, ℕ, ◌+◌, ◌^◌, ◌<◌, ◌≤◌, ◌==◌, Bool, true, false, List, [], ◌∷◌, ◌++◌, map, length, refl, sym, ◌∙◌, ap, subst, arith, inl, inr}
use Rattle.std.specs.Prelude.{◌⊎◌, if◌then◌else◌}
use Rattle.std.proofs.lemmas.Bool.Decides.{eqb_tells}
use Rattle.b67_lemmas.specs.Lists.{Has}
use Rattle.b67_model.specs.Common.{Word, Standing, Frame, JobConstants, Job, Array, head_words, height, Known, known_of, IsSegment, NamesEntered, StandsInOrder, FramesInOrder}
use Rattle.b67_stack.specs.Stacks.{StackPlace, stack_words}
use Rattle.b67_layout.specs.Common.{Placement, spot_in, shape, head, activations}
use Rattle.b67_layout.proofs.Frames.{height-is}
use Rattle.b67_layout_shown.specs.Shown.{word_seen, standing_of, frames_of}
use Rattle.b67_layout_shown.specs.Places.{named, standing_by, frame_by}
use Rattle.b67_layout_shown.proofs.Words.{PlaceIsRead, words_read}

pub head_some : (s : Standing) → 1 ≤ head_words s
head_some s = grind arith

-- each frame is renamed by its place
abbrev pub Named : (ℕ → ℕ) → ℕ → List Frame → Type 0
Named rename number [] = Unit {0}
Named rename number (f ∷ below) = (rename f.identity ≡ named number (height below)) × Named rename number below

module _ (plan : Placement) (j : ℕ) (constants : JobConstants) (job : Job) (k number : ℕ) (outer : ℕ → StackPlace) (outside : List Known)
    (frame : StackPlace → ℕ) (array : ℕ → ℕ) (rename relabel : ℕ → ℕ)
    (few : length constants.segments < 2 ^ 13)
    (arrays : (a : Array) → Has job.arrays a → array (plan.home j a.identity) ≡ relabel a.identity)
    (slot : k < 2 ^ 10)
    (bound : ℕ) (small : bound < 2 ^ 16)
    (own : (disp : ℕ) → disp < bound → frame (record { stack = k; disp = disp }) ≡ named number disp)
    (out : (identity : ℕ) → NamesEntered outside identity → PlaceIsRead frame rename outer identity) where
  pub spots_read : (fs : List Frame) → Named rename number fs → height fs ≤ bound → (identity : ℕ) → NamesEntered (map known_of fs ++ outside) identity → PlaceIsRead frame rename (spot_in k outer fs) identity
  spots_read [] names low identity h = out identity h
  spots_read (f ∷ below) names low identity h = by (f.identity == identity) (eqb_tells f.identity identity) (spots_read below names.1 (omega (arith, low)) identity) where
    words : 1 ≤ head_words f.standing
    words = head_some f.standing

    deeper : f.identity ≢ identity → Has (known_of f ∷ (map known_of below ++ outside)) (identity, h.standing) → Has (map known_of below ++ outside) (identity, h.standing)
    deeper differ (inl e) = absurd (differ (ap (λ (k : Known). k.0) e))
    deeper differ (inr among) = among

    by : (t : Bool) → ((f.identity == identity ≡ true) × (f.identity ≡ identity)) ⊎ ((f.identity == identity ≡ false) × (f.identity ≢ identity))
        → (NamesEntered (map known_of below ++ outside) identity → PlaceIsRead frame rename (spot_in k outer below) identity) → PlaceIsRead frame rename (spot_in k outer (f ∷ below)) identity
    by t (inl q) rest =
        let P : StackPlace → Type 0 = λ p. (p.stack < 2 ^ 10) × (p.disp < 2 ^ 16) × (frame p ≡ rename identity) in
        let here : P (record { stack = k; disp = height below }) = (slot, omega (arith, small, low, words), own (height below) (omega (arith, low, words)) ∙ sym names.0 ∙ ap rename q.1) in
        let there : P (spot_in k outer (f ∷ below) identity) = subst (λ (b : Bool). P (if b then record { stack = k; disp = height below } else spot_in k outer below identity)) (sym q.0) here in
        record { stack = there.0; disp = there.1; is = there.2 }
    by t (inr q) rest =
        let P : StackPlace → Type 0 = λ p. (p.stack < 2 ^ 10) × (p.disp < 2 ^ 16) × (frame p ≡ rename identity) in
        let r = rest (record { standing = h.standing; among = deeper q.1 h.among; entered = h.entered }) in
        let there : P (spot_in k outer (f ∷ below) identity) = subst (λ (b : Bool). P (if b then record { stack = k; disp = height below } else spot_in k outer below identity)) (sym q.0) (r.stack, r.disp, r.is) in
        record { stack = there.0; disp = there.1; is = there.2 }

  standing_read : (below : List Frame) → Named rename number below → height below ≤ bound → (s : Standing) → StandsInOrder (map known_of below ++ outside) s → standing_of frame (head (spot_in k outer below) s) ≡ standing_by rename s
  standing_read below names low s o = grind (arith, spots_read)

  pub frames_read : (fs : List Frame) → FramesInOrder (IsSegment constants) job.arrays outside fs → Named rename number fs → height fs ≤ bound
      → frames_of number frame array (activations plan j job k outer fs) ≡ map (frame_by rename relabel) fs
  frames_read [] o names low = refl
  frames_read (f ∷ below) o names low =
      let high = height-is plan j job k outer below in
      let place : stack_words (activations plan j job k outer below) + 1 ≡ height below = omega (arith, high) in
      let identity : named number (stack_words (activations plan j job k outer below) + 1) ≡ rename f.identity = ap (named number) place ∙ sym names.0 in
      let standing = standing_read below names.1 (omega (arith, low)) f.standing o.1 in
      let cells = words_read plan j constants job (spot_in k outer (f ∷ below)) (map known_of (f ∷ below) ++ outside) frame array rename relabel few (spots_read (f ∷ below) names low) arrays f.identity f.cells o.0.0 in
      let rest = frames_read below o.2 names.1 (omega (arith, low)) in
      ap (λ (n : ℕ). record { identity = n; standing = standing_of frame (head (spot_in k outer below) f.standing); cells = map (word_seen frame array) (map (shape plan j job (spot_in k outer (f ∷ below))) f.cells) } ∷ frames_of number frame array (activations plan j job k outer below)) identity
      ∙ ap (λ (s : Standing). record { identity = rename f.identity; standing = s; cells = map (word_seen frame array) (map (shape plan j job (spot_in k outer (f ∷ below))) f.cells) } ∷ frames_of number frame array (activations plan j job k outer below)) standing
      ∙ ap (λ (ws : List Word). record { identity = rename f.identity; standing = standing_by rename f.standing; cells = ws } ∷ frames_of number frame array (activations plan j job k outer below)) cells
      ∙ ap (λ (fs : List Frame). frame_by rename relabel f ∷ fs) rest
