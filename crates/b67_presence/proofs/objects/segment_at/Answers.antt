use Rattle.std.proofs.Common.{sym, ◌∙◌, ap}
use Rattle.std.proofs.lemmas.Option.{same_Some}
use Rattle.b67_ctl.specs.declared.descriptors.SegDesc.{SegDesc}
use Rattle.b67_presence.proofs.Descriptors.{segment_here}
use Rattle.b67_presence.proofs.objects.segment_at.Goals as goal

pub get-requires : goal.get-requires
get-requires c =
    let (x, r, p, t, at, s, k) = c.requires in
    (segment_here x c.args.core.now r p c.args.code at t s k).inside

pub returns : goal.returns
returns c = λ x r p t at s k.
    let h = segment_here x c.args.core.now r p c.args.code at t s k in
    let is = c.read.ensures h.desc h.fits (same_Some _ _ (sym c.get.ensures ∙ h.word)) in
    (ap (λ (d : SegDesc). d.words) is ∙ h.words, ap (λ (d : SegDesc). d.address) is ∙ h.address)
