use Rattle.b67_overlay.proofs.Example.{set_then, is_family}
use Rattle.b67_surface.proofs.spans_rows.family.Goals as goal

pub returns : goal.returns
returns c =
    let c1 = set_then c.set.new.self _ _ 32 c.of.result _ c.set.ensures.value c.in_ok-core.ensures c.of.ensures in
    let c2 = set_then c.set-2.new.self _ _ 33 c.of-2.result _ c.set-2.ensures.value c1 c.of-2.ensures in
    let c3 = set_then c.set-3.new.self _ _ 34 c.of-3.result _ c.set-3.ensures.value c2 c.of-3.ensures in
    let c4 = set_then c.set-4.new.self _ _ 35 c.of-4.result _ c.set-4.ensures.value c3 c.of-4.ensures in
    let c5 = set_then c.set-5.new.self _ _ 161 c.of-5.result _ c.set-5.ensures.value c4 c.of-5.ensures in
    let c6 = set_then c.set-6.new.self _ _ 165 c.of-6.result _ c.set-6.ensures.value c5 c.of-6.ensures in
    let c7 = set_then c.set-7.new.self _ _ 183 c.word.result _ c.set-7.ensures.value c6 c.word.ensures in
    let c8 = set_then c.set-8.new.self _ _ 199 c.word-2.result _ c.set-8.ensures.value c7 c.word-2.ensures in
    let c9 = set_then c.set-9.new.self _ _ 215 c.word-3.result _ c.set-9.ensures.value c8 c.word-3.ensures in
    is_family c.set-9.new.self c9
