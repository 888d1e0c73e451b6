use Rattle.std.proofs.Common.{◌≡◌, ℕ, List, [], ◌∷◌, Option, Some, refl, sym, ◌∙◌, ap, subst}
use Rattle.b67_word.specs.Tagged.{Tagged}
use Rattle.b67_area.specs.declared.kinds.Info.{Info}
use Rattle.b67_area.specs.declared.kinds.Kind.TheVariants.{Array, Row, Code}
use Rattle.b67_area.specs.declared.directory.Areas.{Areas}
use Rattle.b67_area.specs.Spans.{Span, Area, Hole, fresh, area_at, without}
use Rattle.b67_area.specs.Directory.{IsDirectory}
use Rattle.b67_surface.proofs.area_rows.freed.Goals as goal

-- the directory before each call
abbrev four : List Span
four = Area (fresh Array 5 170) ∷ Area (fresh Row 5 171) ∷ Area (fresh Code 5 172) ∷ Area (fresh Array 1 173) ∷ []

abbrev three : List Span
three = Area (fresh Array 5 170) ∷ Hole 7 ∷ Area (fresh Code 5 172) ∷ Area (fresh Array 1 173) ∷ []

abbrev two : List Span
two = Hole 14 ∷ Area (fresh Code 5 172) ∷ Area (fresh Array 1 173) ∷ []

abbrev one : List Span
one = Hole 21 ∷ Area (fresh Array 1 173) ∷ []

-- what a call says of the area at x
abbrev Frees : List Tagged → List Tagged → ℕ → ℕ → Type 0
Frees core new low x = (ts : List Span) (b : Info) → IsDirectory core low ts → area_at low ts x ≡ Some b → IsDirectory new low (without low x ts)

here : (core : List Tagged) (low x : ℕ) (ss : List Span) (a : Info) → low ≡ 232 → IsDirectory core 232 ss → area_at 232 ss x ≡ Some a → (ts : List Span) × (b : Info) × IsDirectory core low ts × (area_at low ts x ≡ Some b)
here core low x ss a e d r = let P : ℕ → Type 0 = λ k. (ts : List Span) × (b : Info) × IsDirectory core k ts × (area_at k ts x ≡ Some b) in subst P (sym e) (ss, a, d, r)

next : (core new : List Tagged) (low x : ℕ) (ss : List Span) (a : Info) → low ≡ 232 → IsDirectory core 232 ss → area_at 232 ss x ≡ Some a → Frees core new low x → IsDirectory new 232 (without 232 x ss)
next core new low x ss a e d r row = subst (λ (k : ℕ). Frees core new k x) e row ss a d r

first : (core new : List Tagged) (low : ℕ) → low ≡ 232 → IsDirectory core 232 four → Frees core new low 240 → IsDirectory new 232 three
first core new low e d row = next core new low 240 four (fresh Row 5 171) e d refl row

second : (core new : List Tagged) (low : ℕ) → low ≡ 232 → IsDirectory core 232 three → Frees core new low 233 → IsDirectory new 232 two
second core new low e d row = next core new low 233 three (fresh Array 5 170) e d refl row

third : (core new : List Tagged) (low : ℕ) → low ≡ 232 → IsDirectory core 232 two → Frees core new low 247 → IsDirectory new 232 one
third core new low e d row = next core new low 247 two (fresh Code 5 172) e d refl row

pub free-requires : goal.free-requires
free-requires c = here c.args.core.now c.args.areas.now.low 240 four (fresh Row 5 171) c.requires.low c.requires.directory refl

pub free-requires-2 : goal.free-requires-2
free-requires-2 c =
    let d = first c.args.core.now c.free.new.core c.args.areas.now.low c.requires.low c.requires.directory c.free.ensures.row in
    let low = ap (λ (a : Areas). a.low) c.free.ensures.same ∙ c.requires.low in
    here c.free.new.core c.free.new.self.low 233 three (fresh Array 5 170) low d refl

pub free-requires-3 : goal.free-requires-3
free-requires-3 c =
    let d = first c.args.core.now c.free.new.core c.args.areas.now.low c.requires.low c.requires.directory c.free.ensures.row in
    let low = ap (λ (a : Areas). a.low) c.free.ensures.same ∙ c.requires.low in
    let d2 = second c.free.new.core c.free-2.new.core c.free.new.self.low low d c.free-2.ensures.row in
    let low2 = ap (λ (a : Areas). a.low) c.free-2.ensures.same ∙ low in
    here c.free-2.new.core c.free-2.new.self.low 247 two (fresh Code 5 172) low2 d2 refl

pub free-requires-4 : goal.free-requires-4
free-requires-4 c =
    let d = first c.args.core.now c.free.new.core c.args.areas.now.low c.requires.low c.requires.directory c.free.ensures.row in
    let low = ap (λ (a : Areas). a.low) c.free.ensures.same ∙ c.requires.low in
    let d2 = second c.free.new.core c.free-2.new.core c.free.new.self.low low d c.free-2.ensures.row in
    let low2 = ap (λ (a : Areas). a.low) c.free-2.ensures.same ∙ low in
    let d3 = third c.free-2.new.core c.free-3.new.core c.free-2.new.self.low low2 d2 c.free-3.ensures.row in
    let low3 = ap (λ (a : Areas). a.low) c.free-3.ensures.same ∙ low2 in
    here c.free-3.new.core c.free-3.new.self.low 254 one (fresh Array 1 173) low3 d3 refl

pub returns : goal.returns
returns c =
    let d = first c.args.core.now c.free.new.core c.args.areas.now.low c.requires.low c.requires.directory c.free.ensures.row in
    let low = ap (λ (a : Areas). a.low) c.free.ensures.same ∙ c.requires.low in
    let d2 = second c.free.new.core c.free-2.new.core c.free.new.self.low low d c.free-2.ensures.row in
    let low2 = ap (λ (a : Areas). a.low) c.free-2.ensures.same ∙ low in
    let d3 = third c.free-2.new.core c.free-3.new.core c.free-2.new.self.low low2 d2 c.free-3.ensures.row in
    let low3 = ap (λ (a : Areas). a.low) c.free-3.ensures.same ∙ low2 in
    record {
      low = ap (λ (a : Areas). a.low) c.free-4.ensures.same ∙ low3;
      directory = next c.free-3.new.core c.free-4.new.core c.free-3.new.self.low 254 one (fresh Array 1 173) low3 d3 refl c.free-4.ensures.row;
    }
