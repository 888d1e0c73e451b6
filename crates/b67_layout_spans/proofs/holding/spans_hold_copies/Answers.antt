use Rattle.b67_layout_spans.proofs.Sessions.{spans_hold}
use Rattle.b67_layout_spans.proofs.holding.spans_hold_copies.Goals as goal

pub returns : goal.returns
returns c = spans_hold
