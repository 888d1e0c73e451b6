use Rattle.b67_layout_spans.proofs.FullDevice.{short_full}
use Rattle.b67_presence.proofs.full.short_is_full.Goals as goal

pub returns : goal.returns
returns c = short_full
