use Rattle.b67_refer.proofs.activation.enclosure_of.Goals as goal

pub enclosure_at-requires : goal.enclosure_at-requires
enclosure_at-requires c =
    let (a, q, f, segment, level, place, p) = c.requires in
    (a, q, c.args.cell, f, segment, level, place, p, c.mark_under-mark.ensures a q f segment level place p)

pub returns-clause-home : goal.returns-clause-home
returns-clause-home c = λ a q f segment level place p. c.enclosure_at.ensures.home a q c.args.cell f segment level place p (c.mark_under-mark.ensures a q f segment level place p)
