use Rattle.std.proofs.Common.{◌≡◌, ℕ, List, length, take, map, arith, subst}
use Rattle.b67_word.specs.Numbers.{number}
use Rattle.b67_backing.specs.Shelf.{HasChain, chain_of, taken}
use Rattle.b67_backing.specs.Held.{Changes, SameBut, Stores, sectors_for}
use Rattle.b67_load.proofs.Shelves.{first_small, last_taken}
use Rattle.b67_load.proofs.installing.store_words.Goals as goal

pub unreachable-requires : goal.unreachable-requires
unreachable-requires g c =
    let (st, s) = c.requires.sectors.known in
    omega (arith, c.in-None.ensures.row st s, s.count, c.requires.sectors.room)

pub store-requires-clause-chain : goal.store-requires-clause-chain
store-requires-clause-chain g c =
    let (st, s) = c.requires.sectors.known in
    (taken (sectors_for (length c.args.words.now)) st, subst (λ (m : ℕ). HasChain c.take.new.self (taken m st) c.in-Some.first m) c.sectors_needed.ensures (c.in-Some.ensures.chain st s))

pub returns-in-Ok-clause-small : goal.returns-in-Ok-clause-small
returns-in-Ok-clause-small g c =
    let (st, s) = c.requires.sectors.known in
    first_small c.take.new.self (taken (sectors_for (length c.args.words.now)) st) c.in-Some.first (sectors_for (length c.args.words.now)) (subst (λ (m : ℕ). HasChain c.take.new.self (taken m st) c.in-Some.first m) c.sectors_needed.ensures (c.in-Some.ensures.chain st s)) (omega (arith, c.requires.some))

pub returns-in-Ok-clause-stores : goal.returns-in-Ok-clause-stores
returns-in-Ok-clause-stores g c = λ st s.
    let n : ℕ = sectors_for (length c.args.words.now) in
    subst (λ (k : List ℕ). Changes g.B.Backing.holds c.args.backing.now c.store.new.backing (Stores k (map number c.args.words.now)))
    (subst (λ (m : ℕ). chain_of c.in-Some.first (taken m st).chains ≡ take m st.free) c.sectors_needed.ensures (last_taken c.in-Some.first c.sectors_needed.result st (c.in-Some.ensures.chains st c.in-Some.first s)))
    (c.in-Ok.ensures.stores (taken n st) (subst (λ (m : ℕ). HasChain c.take.new.self (taken m st) c.in-Some.first m) c.sectors_needed.ensures (c.in-Some.ensures.chain st s)))

pub returns-in-Ok-clause-others : goal.returns-in-Ok-clause-others
returns-in-Ok-clause-others g c = λ st s.
    let n : ℕ = sectors_for (length c.args.words.now) in
    subst (λ (k : List ℕ). Changes g.B.Backing.holds c.args.backing.now c.store.new.backing (SameBut k))
    (subst (λ (m : ℕ). chain_of c.in-Some.first (taken m st).chains ≡ take m st.free) c.sectors_needed.ensures (last_taken c.in-Some.first c.sectors_needed.result st (c.in-Some.ensures.chains st c.in-Some.first s)))
    (c.in-Ok.ensures.others (taken n st) (subst (λ (m : ℕ). HasChain c.take.new.self (taken m st) c.in-Some.first m) c.sectors_needed.ensures (c.in-Some.ensures.chain st s)))

pub returns-in-Err-clause-others : goal.returns-in-Err-clause-others
returns-in-Err-clause-others g c = λ st s.
    let n : ℕ = sectors_for (length c.args.words.now) in
    subst (λ (k : List ℕ). Changes g.B.Backing.holds c.args.backing.now c.store.new.backing (SameBut k))
    (subst (λ (m : ℕ). chain_of c.in-Some.first (taken m st).chains ≡ take m st.free) c.sectors_needed.ensures (last_taken c.in-Some.first c.sectors_needed.result st (c.in-Some.ensures.chains st c.in-Some.first s)))
    (c.in-Err.ensures.others (taken n st) (subst (λ (m : ℕ). HasChain c.take.new.self (taken m st) c.in-Some.first m) c.sectors_needed.ensures (c.in-Some.ensures.chain st s)))
