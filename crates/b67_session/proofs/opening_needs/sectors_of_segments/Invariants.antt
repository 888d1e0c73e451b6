use Rattle.std.proofs.Common.{◌≡◌, ◌+◌, ◌*◌, ◌≤◌, length, map, drop}
use Rattle.b67_backing.specs.Held.{sectors_for}
use Rattle.b67_codefile.specs.Meaning.{segment_of}
use Rattle.b67_lemmas.specs.Lists.{total}
use Rattle.b67_model.specs.State.{Segment}
use Rattle.b67_session.proofs.opening_needs.sectors_of_segments.Given as goal

abbrev pub invariant-segments : goal.invariant-segments
invariant-segments l =
    (l.sectors + total (λ (s : Segment). sectors_for (length s.code)) (map segment_of (drop l.segment-index l.segments)) ≡ total (λ (s : Segment). sectors_for (length s.code)) (map segment_of l.segments))
    × (l.sectors ≤ l.segment-index * 2185)
