-- A literal of an admitted program names a segment.
use Rattle.std.proofs.Common.{◌≡◌, ℕ, ◌+◌, ◌-◌, ◌<◌, ◌≤◌, true, false, ltb, length, Option, refl, sym, inl, inr, arith}
use Rattle.std.specs.List.{slice_get}
use Rattle.std.proofs.lemmas.Bool.{cases_Bool, ltb-false, true≢false}
use Rattle.std.proofs.lemmas.Option.{slice_get_within}
use Rattle.b67_model.specs.Common.{Segment, OperatorContext, Program, holds_of, named_level, has_stray_bits, is_proc}
use Rattle.b67_law.proofs.Places.{level_of_segment}

some_within : (p : Program) (disp : ℕ) → 2 ≤ disp → (o : Option Segment) → slice_get p.segments (disp - 2) ≡ o → holds_of (level_of_segment o) (λ level. true) ≡ true → disp < length p.segments + 2
some_within p disp low o is e = grind (arith, slice_get_within)

-- a displacement of which a segment stands
named_within : (p : Program) (disp : ℕ) → holds_of (named_level p disp) (λ level. true) ≡ true → (1 < disp) × (disp < length p.segments + 2)
named_within p disp e = elim (cases_Bool (ltb disp 2)) [
  | inl t ↦ let no : false ≡ true = rw t at e in absurd (true≢false (sym no))
  | inr t ↦
      let low : 2 ≤ disp = ltb-false disp 2 t in
      (omega (arith, low), some_within p disp low (slice_get p.segments (disp - 2)) refl (rw t at e))
]

-- a literal that the rules let pass is one that MPCW takes
pub literal_passes : (p : Program) (h : OperatorContext) (bits : ℕ) → h.constants.segments ≡ p.segments → has_stray_bits p bits ≡ false → is_proc h bits ≡ true
literal_passes p h bits same passes = grind (arith, named_within)
