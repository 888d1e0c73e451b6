use Rattle.std.proofs.Common.{◌+◌, ◌-◌, ℕ, List, Bool, length, get_or, slice_set, refl, subst, arith}
use Rattle.std.specs.Bool.{OnTrue}
use Rattle.b67_backing.specs.Links.{AreLinksOf, unlinked}
use Rattle.b67_backing.proofs.Threads.{made_zero, down_free, down_linked, down_last, shelf_at, told_at, threads_same}
use Rattle.b67_backing.proofs.sectors.Sectors.of_links.Goals.{then-link-eq0, else-link-eq0+then-link-n, else-link-eq0+else-link-n}
use Rattle.b67_backing.proofs.sectors.Sectors.of_links.Goals as goal

pub down-init : goal.down-init
down-init c = record { threads = made_zero c.args.links.now _ _ (omega arith) (c.in_ok-table.ensures.items_if_clones_equal (λ y e. omega (arith, e))); few = omega arith }

pub down-preserved : goal.down-preserved
down-preserved c = elim c.if-link-eq0.branch [
  | then-link-eq0 w ↦
      record {
        threads = threads_same c.args.links.now c.if-link-eq0.table.items (slice_set c.down.table.items (length c.args.links.now - c.down.k) c.down.first) (length c.args.links.now - (c.down.k + 1)) c.if-link-eq0.first _ c.if-link-eq0.free _ (rw w.table-is refl) w.first-is w.free-is
            (down_free c.args.links.now c.down.table.items (length c.args.links.now - (c.down.k + 1)) (length c.args.links.now - c.down.k) (length c.args.links.now - c.down.k - 1) c.down.first c.down.free (omega (arith, c.down-test.true)) (omega (arith, c.down-test.true)) (omega (arith, c.down-test.true)) w.if-link-eq0.true c.down.invariant.threads);
        few = omega (arith, w.free-is, c.down.invariant.few);
      }
  | else-link-eq0+then-link-n w ↦
      record {
        threads = threads_same c.args.links.now c.if-link-eq0.table.items (slice_set c.down.table.items (length c.args.links.now - c.down.k) (get_or c.args.links.now (length c.args.links.now - c.down.k - 1) 0)) (length c.args.links.now - (c.down.k + 1)) c.if-link-eq0.first _ c.if-link-eq0.free _ (rw w.table-is refl) w.first-is w.free-is
            (down_linked c.args.links.now c.down.table.items (length c.args.links.now - (c.down.k + 1)) (length c.args.links.now - c.down.k) (length c.args.links.now - c.down.k - 1) c.down.first c.down.free (omega (arith, c.down-test.true)) (omega (arith, c.down-test.true)) (omega (arith, c.down-test.true)) w.if-link-eq0.false w.if-link-n.true c.down.invariant.threads);
        few = omega (arith, w.free-is, c.down.invariant.few);
      }
  | else-link-eq0+else-link-n w ↦
      record {
        threads = threads_same c.args.links.now c.if-link-eq0.table.items c.down.table.items (length c.args.links.now - (c.down.k + 1)) c.if-link-eq0.first _ c.if-link-eq0.free _ (rw w.table-is refl) w.first-is w.free-is
            (down_last c.args.links.now c.down.table.items (length c.args.links.now - (c.down.k + 1)) (length c.args.links.now - c.down.k) (length c.args.links.now - c.down.k - 1) c.down.first c.down.free (omega (arith, c.down-test.true)) (omega (arith, c.down-test.true)) (omega (arith, c.down-test.true)) w.if-link-n.false c.down.invariant.threads);
        few = omega (arith, w.free-is, c.down.invariant.few);
      }
]

pub invariant_of-result : goal.invariant_of-result
invariant_of-result c =
    let h = subst (λ (b : Bool). OnTrue b ((ks : List (List ℕ)) × AreLinksOf c.args.links.now ks)) c.if-not-held.false c.in_ok-held.ensures.some in
    (record { free = unlinked 1 c.args.links.now; chains = h.0 }, shelf_at c.args.links.now c.down.table.items (length c.args.links.now - c.down.k) c.down.first c.down.free (omega (arith, c.down-test.false)) c.down.invariant.threads h.0 h.1)

pub returns-clause-each : goal.returns-clause-each
returns-clause-each c = λ ks a. shelf_at c.args.links.now c.down.table.items (length c.args.links.now - c.down.k) c.down.first c.down.free (omega (arith, c.down-test.false)) c.down.invariant.threads ks a

pub returns-clause-told : goal.returns-clause-told
returns-clause-told c =
    let h = subst (λ (b : Bool). OnTrue b ((ks : List (List ℕ)) × AreLinksOf c.args.links.now ks)) c.if-not-held.false c.in_ok-held.ensures.some in
    told_at c.args.links.now c.down.table.items (length c.args.links.now - c.down.k) c.down.first c.down.free (omega (arith, c.down-test.false)) c.down.invariant.threads h.0 h.1
