-- The original of a copy, from the head of its area or from the copy itself.
use Rattle.std.proofs.Common.{◌≡◌, ℕ, ◌+◌, ◌-◌, ◌<◌, List, [], ◌∷◌, length, Some, sym, ◌∙◌, ap, arith, Bool, true, false, ◌==◌, ⊎_elim, subst}
use Rattle.std.specs.Prelude.{MatchBool}
use Rattle.std.specs.List.{slice_get}
use Rattle.std.proofs.lemmas.Bool.{cases_Bool, eqb-true}
use Rattle.std.proofs.lemmas.Option.{same_Some, none-some}
use Rattle.b67_word.specs.Tagged.{Tagged}
use Rattle.b67_ctl.specs.declared.areas.AreaHead.{AreaHead}
use Rattle.b67_ctl.specs.declared.descriptors.DataDesc.{DataDesc}
use Rattle.b67_ctl.specs.Areas.{area_head_word, IsAreaHead}
use Rattle.b67_area.specs.declared.Info.{Info}
use Rattle.b67_area.specs.declared.Kind.{Kind}
use Rattle.b67_area.specs.Spans.{Span, Area, Hole, area_at}
use Rattle.b67_area.specs.Words.{kind_number, head_word}
use Rattle.b67_area.specs.Directory.{IsInfo, AreSpans, Laid}
use Rattle.b67_area.proofs.Laws.{area_inside}
use Rattle.b67_stack.specs.Shapes.{copy_desc}
use Rattle.b67_stack.specs.Represents.{info_of}
use Rattle.b67_stack.proofs.Homes.{SameDesc, same_desc}
use Rattle.b67_refer.specs.Ends.{IsCopyOf}

-- an area's head and what it holds
area_head : (core : List Tagged) (b h at : ℕ) (ss : List Span) (x : ℕ) (i : Info) → Laid core b h at ss → AreSpans ss → area_at at ss x ≡ Some i → (slice_get core (x - 1) ≡ Some (head_word i)) × IsInfo i
area_head core b h at [] x i l s e = absurd (none-some i e)
area_head core b h at (Area c ∷ ss) x i l s e = ⊎_elim
    (λ (t : (at + 1 == x) ≡ true).
    (let same : c ≡ i = same_Some c i (rw t at e) in
    let is : x - 1 ≡ at = (let z = eqb-true (at + 1) x t in omega (arith, z)) in
    (ap (slice_get core) is ∙ l.0 ∙ ap (λ (z : Info). Some (head_word z)) same, subst IsInfo same s.0)))
    (λ (t : (at + 1 == x) ≡ false). area_head core b h (at + (c.words + 2)) ss x i l.2 s.1 (rw t at e))
    (cases_Bool (at + 1 == x))
area_head core b h at (Hole n ∷ ss) x i l s e = area_head core at (Rattle.b67_area.specs.Words.hole_high n) (at + n) ss x i l.1 s.2 e

kind_small : (k : Kind) → kind_number k < 3
kind_small k = grind arith

module _ (core : List Tagged) (copy : DataDesc) (home : ℕ) (c : IsCopyOf core copy home) where
  same : SameDesc copy (copy_desc c.copied c.is.number c.is.present c.is.address)
  same = same_desc copy (copy_desc c.copied c.is.number c.is.present c.is.address) c.fits c.is.fits c.is.is

  -- the head before the area of a present copy
  pub present_owner : copy.present ≡ true → (h : AreaHead) × IsAreaHead h × (slice_get core (copy.address - 1) ≡ Some (area_head_word h)) × (h.owner ≡ home) × (0 < copy.address) × (copy.address < length core)
  present_owner e =
      let p : c.is.present ≡ true = sym same.present ∙ e in
      let t : (c.storage.held home).area ≡ Some c.is.address = (let P : Bool → Type 0 = λ b. MatchBool b ((c.storage.held home).area ≡ Some c.is.address) (c.is.address ≡ home) in subst P p c.is.to) in
      let o = c.stands.owned.of_held home c.is.address t in
      let d = c.stands.directory in
      let i : Info = info_of c.storage o.0 in
      let w = area_head core 152 0 c.storage.low c.storage.spans c.is.address i d.laid d.spans o.3 in
      let z = area_inside core c.storage.low c.storage.spans c.is.address i d o.3 in
      let is = same.address in
      let small = d.small in (
        record { kind = kind_number i.kind; words = i.words; owner = i.owner },
        record { kind = kind_small i.kind; words = omega (arith, z.1, small); owner = w.1.owner },
        ap (λ n. slice_get core (n - 1)) is ∙ w.0,
        o.2,
        omega (arith, z.0, is),
        omega (arith, z.1, is),
      )
