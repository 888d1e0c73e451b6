use Rattle.std.proofs.Common.{◌≡◌, ◌++◌, codes, true, false, sym, ap, ◌∙◌, append-nil}
use Rattle.std.specs.Prelude.{◌==◌}
use Rattle.std.proofs.lemmas.Bool.{eq-eqb, ne_eqb}
use Rattle.b67_dump.specs.Dump.{beside, hex_number}
use Rattle.b67_dump.proofs.Lined.{two}
use Rattle.b67_dump.proofs.lines.with_plain.Goals as goal

pub returns-then-tag-eq0 : goal.returns-then-tag-eq0
returns-then-tag-eq0 c = λ row.
    let a : (c.args.w.tag == 0) ≡ true = eq-eqb c.args.w.tag 0 (sym c.tag-tag.ensures.value ∙ c.if-tag-eq0.true) in
    rw a (two c.args.line (codes "NUM ") (hex_number 12 c.bits.result) c.with_hex.ensures.text c.with_text.ensures.text ∙ ap (λ n. c.args.line ++ beside (codes "NUM") (hex_number 12 n)) c.bits.ensures.value)

pub returns-then-tag-eq1 : goal.returns-then-tag-eq1
returns-then-tag-eq1 c = λ row.
    let a : (c.args.w.tag == 0) ≡ false = ne_eqb c.args.w.tag 0 (λ e. c.if-tag-eq0.false (c.tag-tag.ensures.value ∙ e)) in
    let b : (c.args.w.tag == 1) ≡ true = eq-eqb c.args.w.tag 1 (sym c.tag-tag.ensures.value ∙ c.if-tag-eq1.true) in
    rw (a, b) (c.with_reference.ensures row)

pub returns-then-tag-eq7 : goal.returns-then-tag-eq7
returns-then-tag-eq7 c = λ row.
    let a : (c.args.w.tag == 0) ≡ false = ne_eqb c.args.w.tag 0 (λ e. c.if-tag-eq0.false (c.tag-tag.ensures.value ∙ e)) in
    let b : (c.args.w.tag == 1) ≡ false = ne_eqb c.args.w.tag 1 (λ e. c.if-tag-eq1.false (c.tag-tag.ensures.value ∙ e)) in
    let d : (c.args.w.tag == 7) ≡ true = eq-eqb c.args.w.tag 7 (sym c.tag-tag.ensures.value ∙ c.if-tag-eq7.true) in
    rw (a, b, d) c.with_procedure.ensures

pub returns : goal.returns
returns c = λ row.
    let a : (c.args.w.tag == 0) ≡ false = ne_eqb c.args.w.tag 0 (λ e. c.if-tag-eq0.false (c.tag-tag.ensures.value ∙ e)) in
    let b : (c.args.w.tag == 1) ≡ false = ne_eqb c.args.w.tag 1 (λ e. c.if-tag-eq1.false (c.tag-tag.ensures.value ∙ e)) in
    let d : (c.args.w.tag == 7) ≡ false = ne_eqb c.args.w.tag 7 (λ e. c.if-tag-eq7.false (c.tag-tag.ensures.value ∙ e)) in
    rw (a, b, d) (sym (append-nil c.args.line))
