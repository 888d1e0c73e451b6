use Rattle.std.proofs.Common.{◌≡◌, ◌<◌, ◌++◌, ◌∷◌, ℕ, List, [], length, sym, ap, subst, ◌∙◌, arith}
use Rattle.b67_image.specs.Punching.{Punched}
use Rattle.b67_image.specs.Text.{card_lines}
use Rattle.b67_image.proofs.Chunks.{punched_byte, punched_full}
use Rattle.b67_image.proofs.punch.Hand.punch_one.Goals as goal

pub returns-then-len-lt2048-clause-row : goal.returns-then-len-lt2048-clause-row
returns-then-len-lt2048-clause-row g c =
    let e : c.push.new.self.items ≡ c.args.self.now ++ c.args.byte ∷ [] = c.push.ensures.items ∙ ap (λ (h : List ℕ). h ++ c.args.byte ∷ []) c.self.view_is in
    let short : length c.args.self.now < 2047 = omega (arith, ap length c.self.view_is, c.push.ensures.len, c.len.ensures.value, c.if-len-lt2048.true) in
    let p = punched_byte g.K.Sink.taken c.args.sink.now c.args.self.now c.args.byte short in
    (e ∙ p.0, p.1)

pub returns-clause-row : goal.returns-clause-row
returns-clause-row g c =
    let e : c.push.new.self.items ≡ c.args.self.now ++ c.args.byte ∷ [] = c.push.ensures.items ∙ ap (λ (h : List ℕ). h ++ c.args.byte ∷ []) c.self.view_is in
    let full : length c.args.self.now ≡ 2047 = omega (arith, ap length c.self.view_is, c.push.ensures.len, c.len.ensures.value, c.if-len-lt2048.false, c.self.invariant) in
    let text : c.as_slice-2.result.now ≡ card_lines (c.args.self.now ++ c.args.byte ∷ []) = c.as_slice-2.ensures.value ∙ c.cards_of-cards.ensures ∙ ap card_lines (c.as_slice.ensures.value ∙ e) in
    subst (λ (hand : List ℕ). Punched g.K.Sink.taken c.args.sink.now c.put_text.new.sink c.args.self.now hand c.put_text.result (c.args.byte ∷ [])) (sym c.new-self-inside.ensures)
    (punched_full g.K.Sink.taken c.args.sink.now c.put_text.new.sink c.args.self.now c.args.byte c.as_slice-2.result.now c.put_text.result full text c.put_text.ensures.whole c.put_text.ensures.part)
