-- which writes keep the directory: into an area, and below `low` but for words 152 to 159
use Rattle.std.proofs.Common.{◌≡◌, ℕ, ◌+◌, ◌<◌, ◌≤◌, List, [], ◌∷◌, length, Some, refl, ◌∙◌, arith, inl, ⊎_elim, ◌⊎◌, slice_set}
use Rattle.std.specs.List.{slice_get}
use Rattle.std.proofs.Math.ListN.{length-set}
use Rattle.b67_word.specs.Tagged.{Tagged}
use Rattle.b67_area.specs.declared.kinds.Info.{Info}
use Rattle.b67_area.specs.Spans.{Span, Area, Hole, area_at}
use Rattle.b67_area.specs.Words.{hole_high}
use Rattle.b67_area.specs.Directory.{Laid, IsDirectory}
use Rattle.b67_area.proofs.Climbs.{area_at-low}
use Rattle.b67_core.proofs.Writes.{slice_get-set_other}

-- the words of heads and tails, and the first words of holes
abbrev pub Controls : ℕ → List Span → ℕ → Type 0
Controls at [] i = ⊥
Controls at (Area a ∷ ss) i = (i ≡ at) ⊎ ((i ≡ at + (a.words + 1)) ⊎ Controls (at + (a.words + 2)) ss i)
Controls at (Hole n ∷ ss) i = (i ≡ at) ⊎ Controls (at + n) ss i

pub Laid-same : (core new : List Tagged) (b h at : ℕ) (ss : List Span) → ((i : ℕ) → (i ≡ b) ⊎ Controls at ss i → slice_get new i ≡ slice_get core i) → Laid core b h at ss → Laid new b h at ss
Laid-same core new b h at [] same l = same b (inl refl) ∙ l
Laid-same core new b h at (Area a ∷ ss) same l = grind (arith, Laid-same core new b h (at + (a.words + 2)) ss)
Laid-same core new b h at (Hole n ∷ ss) same l = grind (arith, Laid-same core new at (hole_high n) (at + n) ss)

pub IsDirectory-same : (core new : List Tagged) (low : ℕ) (ss : List Span) → length new ≡ length core → ((i : ℕ) → (152 ≤ i) × (i < 160) → slice_get new i ≡ slice_get core i) → ((i : ℕ) → Controls low ss i → slice_get new i ≡ slice_get core i) → IsDirectory core low ss → IsDirectory new low ss
IsDirectory-same core new low ss len heads same d = grind (arith, Laid-same)

pub controls_above : (at : ℕ) (ss : List Span) (i : ℕ) → Controls at ss i → at ≤ i
controls_above at [] i c = absurd c
controls_above at (Area a ∷ ss) i c = ⊎_elim (λ e. omega arith) (λ d. ⊎_elim (λ e. omega arith) (λ r. omega (arith, controls_above (at + (a.words + 2)) ss i r)) d) c
controls_above at (Hole n ∷ ss) i c = ⊎_elim (λ e. omega arith) (λ r. omega (arith, controls_above (at + n) ss i r)) c

-- a word of an area is none of them
pub area-control : (at : ℕ) (ss : List Span) (x : ℕ) (a : Info) (i : ℕ) → area_at at ss x ≡ Some a → x ≤ i → i < x + a.words → Controls at ss i → ⊥
area-control at [] x a i e low high c = c
area-control at (Area b ∷ ss) x a i e low high c = grind (arith, controls_above, area_at-low, area-control (at + (b.words + 2)) ss x a i)
area-control at (Hole n ∷ ss) x a i e low high c = grind (arith, area_at-low, area-control (at + n) ss x a i e low high)

pub IsDirectory-set_area : (core : List Tagged) (low : ℕ) (ss : List Span) (x : ℕ) (a : Info) (i : ℕ) (w : Tagged) → IsDirectory core low ss → area_at low ss x ≡ Some a → x ≤ i → i < x + a.words → IsDirectory (slice_set core i w) low ss
IsDirectory-set_area core low ss x a i w d e down up = grind (arith, IsDirectory-same, length-set, slice_get-set_other, area_at-low, area-control)

pub IsDirectory-set_below : (core : List Tagged) (low : ℕ) (ss : List Span) (i : ℕ) (w : Tagged) → IsDirectory core low ss → i < low → (i < 152) ⊎ (160 ≤ i) → IsDirectory (slice_set core i w) low ss
IsDirectory-set_below core low ss i w d under out = grind (arith, IsDirectory-same, length-set, slice_get-set_other, controls_above)

-- the words of an area, from its first word on
pub IsDirectory-area_words : (core new : List Tagged) (low : ℕ) (ss : List Span) (x : ℕ) (a : Info) → IsDirectory core low ss → area_at low ss x ≡ Some a → length new ≡ length core → ((i : ℕ) → (i < x) ⊎ (x + a.words ≤ i) → slice_get new i ≡ slice_get core i) → IsDirectory new low ss
IsDirectory-area_words core new low ss x a d e len same = grind (arith, IsDirectory-same, area_at-low, area-control)

-- the words below the areas, but for words 152 to 159
pub IsDirectory-below_words : (core new : List Tagged) (low : ℕ) (ss : List Span) → IsDirectory core low ss → length new ≡ length core → ((i : ℕ) → (low ≤ i) ⊎ ((152 ≤ i) × (i < 160)) → slice_get new i ≡ slice_get core i) → IsDirectory new low ss
IsDirectory-below_words core new low ss d len same = grind (arith, IsDirectory-same, controls_above)
