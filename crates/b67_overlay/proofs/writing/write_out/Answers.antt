use Rattle.std.proofs.Common.{rules, ◌≡◌, ℕ, List, arith, sym, ◌∙◌, ap, subst, ⊎_elim}
use Rattle.b67_backing.specs.Shelf.{Shelf, IsShelf, HasChain, taken, chain_of}
use Rattle.b67_backing.specs.Held.{Changes, SameBut, sectors_for}
use Rattle.b67_overlay.proofs.Answered.{ok_err, fault_full}
use Rattle.b67_overlay.proofs.Chains.{given_taken, new_out}
use Rattle.b67_layout.specs.Machine.{DeviceAfterCalls}
use Rattle.b67_overlay.proofs.writing.write_out.Given.{Over}
use Rattle.b67_overlay.proofs.writing.write_out.Goals.{In-Some, After-save-in-Some}
use Rattle.b67_overlay.proofs.writing.write_out.Goals as goal

-- once sectors are taken
took : (g : Over) (c : In-Some g) (st : Shelf) → IsShelf c.args.sectors.now st → HasChain c.take.new.self (taken (sectors_for c.args.words) st) c.in-Some.first (sectors_for c.args.words)
took g c st sh = subst (λ (n : ℕ). HasChain c.take.new.self (taken n st) c.in-Some.first n) c.sectors_needed-wants.ensures (c.in-Some.ensures.chain st sh)

-- once they were written
wrote : (g : Over) (c : After-save-in-Some g) (st : Shelf) → HasChain c.take.new.self (taken (sectors_for c.args.words) st) c.in-Some.first (sectors_for c.args.words) → DeviceAfterCalls g.B.Backing.holds g.B.Backing.size g.B.Backing.calls g.B.Backing.faults c.args.backing.now c.save-in-Some.new.backing
wrote g c st h =
    let e = c.save-in-Some.ensures in
    record {
      size = e.device.size;
      calls = e.device.calls.later;
      faults = e.device.cause.later;
      tells = record { told = λ x is. let (y, i, same) = (e.others (taken (sectors_for c.args.words) st) h).told x is in (y, i, same.count) };
    }

pub save-requires-clause-chain : goal.save-requires-clause-chain
save-requires-clause-chain g c = let (st, sh, k) = c.requires.chain in ⊎_elim (λ (z : c.args.kept ≡ 0). absurd (c.if-kept-ne0.true z)) (λ (h : HasChain c.args.sectors.now st c.args.kept (sectors_for c.args.words)). (st, h)) k

pub save-requires-in-Some-clause-chain : goal.save-requires-in-Some-clause-chain
save-requires-in-Some-clause-chain g c = let (st, sh, k) = c.requires.chain in (taken (sectors_for c.args.words) st, took g (goal.at.save-requires-in-Some-clause-chain g c).In-Some st sh)

pub give-requires : goal.give-requires
give-requires g c =
    let (st, sh, k) = c.requires.chain in
    let h = took g (goal.at.give-requires g c).In-Some st sh in
    (taken (sectors_for c.args.words) st, h.shelf, omega (arith, h.many))

pub returns-in-Ok-clause-row : goal.returns-in-Ok-clause-row
returns-in-Ok-clause-row g c = λ st sh. record {
  written = search rules;
  room = λ z. absurd (c.if-kept-ne0.true z);
  refused = tt;
  full = λ wants free. (λ e. absurd (ok_err e), λ h. absurd (c.if-kept-ne0.true h.0));
}

pub returns-in-Err-clause-row : goal.returns-in-Err-clause-row
returns-in-Err-clause-row g c = λ st sh. record {
  written = tt;
  room = tt;
  refused = search rules;
  full = λ wants free. (λ e. absurd (fault_full e), λ h. absurd (c.if-kept-ne0.true h.0));
}

pub returns-in-None-clause-row : goal.returns-in-None-clause-row
returns-in-None-clause-row g c = λ st sh. record {
  written = tt;
  room = tt;
  refused = search rules;
  full = search rules;
}

pub returns-in-Ok-save-clause-row : goal.returns-in-Ok-save-clause-row
returns-in-Ok-save-clause-row g c = λ st sh. record {
  written = search rules;
  room = λ z. omega (arith, (c.in-Some.ensures.row st sh).0, c.sectors_needed-wants.ensures);
  refused = tt;
  full = λ wants free. (λ e. absurd (ok_err e), λ h. absurd (omega (arith, h.1, (c.in-Some.ensures.row st sh).0, c.sectors_needed-wants.ensures)));
}

pub returns-in-Err-save-clause-row : goal.returns-in-Err-save-clause-row
returns-in-Err-save-clause-row g c = λ st sh. record {
  written = tt;
  room = tt;
  refused = λ k.
      let n = sectors_for c.args.words in
      let h = took g (goal.at.returns-in-Err-save-clause-row g c).In-Some st sh in
      let row = c.in-Some.ensures.row st sh in
      let back = given_taken n c.in-Some.first st (omega arith) (omega (arith, row.0, c.sectors_needed-wants.ensures)) row.1 in
      let S : Shelf → Type 0 = λ z. IsShelf c.give.new.self z in
      let C : List ℕ → Type 0 = λ z. Changes g.B.Backing.holds c.args.backing.now c.save-in-Some.new.backing (SameBut z) in
      (subst S back (c.give.ensures.row (taken n st) h.shelf (omega (arith, h.many))), subst C (sym (new_out st c.args.kept c.args.words c.if-kept-ne0.false ∙ ap (λ (f : ℕ). chain_of f (taken n st).chains) (sym row.1))) (c.in-Err-save.ensures.others (taken n st) h));
  full = λ wants free. (λ e. absurd (fault_full e), λ h. absurd (omega (arith, h.1, (c.in-Some.ensures.row st sh).0, c.sectors_needed-wants.ensures)));
}

pub returns-in-Ok-save-clause-device : goal.returns-in-Ok-save-clause-device
returns-in-Ok-save-clause-device g c =
    let (st, sh, k) = c.requires.chain in
    let at = goal.at.returns-in-Ok-save-clause-device g c in
    wrote g at.After-save-in-Some st (took g at.In-Some st sh)

pub returns-in-Err-save-clause-device : goal.returns-in-Err-save-clause-device
returns-in-Err-save-clause-device g c =
    let (st, sh, k) = c.requires.chain in
    let at = goal.at.returns-in-Err-save-clause-device g c in
    wrote g at.After-save-in-Some st (took g at.In-Some st sh)
