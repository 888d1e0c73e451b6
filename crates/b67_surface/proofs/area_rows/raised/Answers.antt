use Rattle.std.proofs.Common.{◌≡◌, ℕ, ◌-◌, ◌<◌, List, [], ◌∷◌, length, Some, sym, ◌∙◌, ap, subst}
use Rattle.std.proofs.lemmas.Option.{none-some}
use Rattle.b67_word.specs.Tagged.{Tagged}
use Rattle.b67_area.specs.declared.kinds.Info.{Info}
use Rattle.b67_area.specs.declared.kinds.Kind.TheVariants.{Code}
use Rattle.b67_area.specs.declared.directory.Areas.{Areas}
use Rattle.b67_area.specs.Spans.{Span, Area, Hole, fresh, fill, area_at, cut, left}
use Rattle.b67_area.specs.Directory.{IsDirectory}
use Rattle.b67_surface.proofs.area_rows.raised.Goals as goal

-- one hole that is raised
cut_at : (core new : List Tagged) (low : ℕ) → low ≡ 232 → IsDirectory core 232 (Hole 24 ∷ [])
    → ((ss : List Span) → IsDirectory core low ss → ((x : ℕ) (a : Info) → area_at low ss x ≡ Some a → 240 < x) → IsDirectory new 240 (cut (240 - low) ss)) → IsDirectory new 240 (Hole 16 ∷ [])
cut_at core new low e d row =
    let P : ℕ → Type 0 = λ k. (ss : List Span) → IsDirectory core k ss → ((x : ℕ) (a : Info) → area_at k ss x ≡ Some a → 240 < x) → IsDirectory new 240 (cut (240 - k) ss) in
    subst P e row (Hole 24 ∷ []) d (λ x a z. absurd (none-some a z))

-- the same directory below another name
named : (core : List Tagged) (low : ℕ) (ss : List Span) → low ≡ 240 → IsDirectory core 240 ss → IsDirectory core low ss
named core low ss e d = subst (λ (k : ℕ). IsDirectory core k ss) (sym e) d

filled : (core new : List Tagged) (low : ℕ) (a : Info) (ss : List Span) → low ≡ 240 → IsDirectory core 240 ss → ((ts : List Span) → IsDirectory core low ts → IsDirectory new low (fill a ts)) → IsDirectory new 240 (fill a ss)
filled core new low a ss e d row = let P : ℕ → Type 0 = λ k. (ts : List Span) → IsDirectory core k ts → IsDirectory new k (fill a ts) in subst P e row ss d

emptied : (core new : List Tagged) (low size : ℕ) (ss : List Span) → low ≡ 240 → size ≡ 256 → IsDirectory core 240 ss → ((ts : List Span) → IsDirectory core low ts → IsDirectory new low (left (size - low) [])) → IsDirectory new 240 (Hole 16 ∷ [])
emptied core new low size ss e n d row =
    let P : ℕ → Type 0 = λ k. (ts : List Span) → IsDirectory core k ts → IsDirectory new k (left (size - k) []) in
    subst (λ (k : ℕ). IsDirectory new 240 (left (k - 240) [])) n (subst P e row ss d)

-- one area over all of core, as after both places
abbrev full : List Span
full = Area (fresh Code 14 170) ∷ []

pub place-requires-clause-directory : goal.place-requires-clause-directory
place-requires-clause-directory g c =
    let d = cut_at c.args.core.now c.raise.new.core c.args.areas.now.low c.requires.low c.requires.directory c.raise.ensures.row in
    (Hole 16 ∷ [], named c.raise.new.core c.raise.new.self.low (Hole 16 ∷ []) (ap (λ (a : Areas). a.low) c.raise.ensures.low) d)

pub place-requires-2-clause-directory : goal.place-requires-2-clause-directory
place-requires-2-clause-directory g c =
    let d = cut_at c.args.core.now c.raise.new.core c.args.areas.now.low c.requires.low c.requires.directory c.raise.ensures.row in
    let low = ap (λ (a : Areas). a.low) c.raise.ensures.low in
    let e = filled c.raise.new.core c.place.new.core c.raise.new.self.low (fresh Code 14 170) (Hole 16 ∷ []) low d (λ ts z. (c.place.ensures.row ts z).1) in
    (full, named c.place.new.core c.place.new.self.low full (ap (λ (a : Areas). a.low) c.place.ensures.same ∙ low) e)

pub clear-requires : goal.clear-requires
clear-requires g c =
    let d = cut_at c.args.core.now c.raise.new.core c.args.areas.now.low c.requires.low c.requires.directory c.raise.ensures.row in
    let low = ap (λ (a : Areas). a.low) c.raise.ensures.low in
    let e = filled c.raise.new.core c.place.new.core c.raise.new.self.low (fresh Code 14 170) (Hole 16 ∷ []) low d (λ ts z. (c.place.ensures.row ts z).1) in
    let low2 = ap (λ (a : Areas). a.low) c.place.ensures.same ∙ low in
    let f = filled c.place.new.core c.place-2.new.core c.place.new.self.low (fresh Code 1 171) full low2 e (λ ts z. (c.place-2.ensures.row ts z).1) in
    (full, named c.place-2.new.core c.place-2.new.self.low full (ap (λ (a : Areas). a.low) c.place-2.ensures.same ∙ low2) f)

pub returns-clause-directory : goal.returns-clause-directory
returns-clause-directory g c =
    let d = cut_at c.args.core.now c.raise.new.core c.args.areas.now.low c.requires.low c.requires.directory c.raise.ensures.row in
    let low = ap (λ (a : Areas). a.low) c.raise.ensures.low in
    let e = filled c.raise.new.core c.place.new.core c.raise.new.self.low (fresh Code 14 170) (Hole 16 ∷ []) low d (λ ts z. (c.place.ensures.row ts z).1) in
    let low2 = ap (λ (a : Areas). a.low) c.place.ensures.same ∙ low in
    let f = filled c.place.new.core c.place-2.new.core c.place.new.self.low (fresh Code 1 171) full low2 e (λ ts z. (c.place-2.ensures.row ts z).1) in
    let low3 = ap (λ (a : Areas). a.low) c.place-2.ensures.same ∙ low2 in
    emptied c.place-2.new.core c.clear.new.core c.place-2.new.self.low (length c.place-2.new.core) full low3 (c.place-2.ensures.len ∙ c.place.ensures.len ∙ c.raise.ensures.len ∙ c.requires.size) f c.clear.ensures.row
