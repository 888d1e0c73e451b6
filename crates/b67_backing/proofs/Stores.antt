use Rattle.std.proofs.Common.{◌≡◌, ℕ, zero, suc, ◌+◌, ◌-◌, ◌*◌, ◌^◌, ◌<◌, ◌≤◌, List, [], ◌∷◌, length, Option, Some, refl, sym, ◌∙◌, ap, arith, inl, inr, ⊎_elim, ◌⊎◌, subst, option_map, min}
use Rattle.std.specs.List.{slice_get}
use Rattle.std.proofs.lemmas.Bool.{cases_lt}
use Rattle.b67_backing.proofs.Tallies.{AllBelow}
use Rattle.b67_backing.proofs.Walks.{all_below}
use Rattle.std.proofs.lemmas.Option.{same_Some}
use Rattle.b67_word.specs.Tagged.{Tagged}
use Rattle.b67_backing.specs.Shelf.{Table, Shelf, IsShelf, HasChain, Linked, times, first, chain_of}
use Rattle.b67_backing.specs.Held.{Tells, Becomes, Changes, Counts, SameBut, Sets, Holds, Fills, number_at, under, sector}
use Rattle.b67_backing.proofs.Links.{one-same, one-other, times-cons, link_first, linked_within, uses-split, chain_there, rest}

abbrev pub AreLinked : List ℕ → List ℕ → Type 0
AreLinked links [] = Unit {0}
AreLinked links (c ∷ cs) = Linked links c cs

-- sectors of a chain that a walk has still before it
pub record Ahead (links : List ℕ) (k : List ℕ) (n j at : ℕ) (rest : List ℕ) : Type 0 where
  pub at_is : at ≡ first rest
  pub linked : AreLinked links rest
  pub once : (m : ℕ) → times m rest ≤ 1
  pub zero : times 0 rest ≡ 0
  pub inside : (m : ℕ) → times m k ≡ 0 → times m rest ≡ 0
  pub many : length rest + j ≡ n

pub times-past : (m n : ℕ) (cs : List ℕ) → AllBelow n cs → n ≤ m → times m cs ≡ 0
times-past m n [] a h = refl
times-past m n (c ∷ cs) a h = omega (arith, one-other m c (λ e. omega arith), times-past m n cs a.1 h)

chain_once : (t : Table) (x : ℕ) (st : Shelf) → IsShelf t st → 1 ≤ length (chain_of x st.chains) → (m : ℕ) → times m (chain_of x st.chains) ≤ 1
chain_once t x st s has m =
    let k = chain_there t.links x st.chains s.chains has in
    grind (arith, all_below, uses-split, times-past)

-- the walk begins
pub ahead_first : (t : Table) (x : ℕ) (st : Shelf) → IsShelf t st → 1 ≤ length (chain_of x st.chains) → Ahead t.links (chain_of x st.chains) (length (chain_of x st.chains)) 0 x (chain_of x st.chains)
ahead_first t x st s has =
    let k = chain_there t.links x st.chains s.chains has in
    grind (arith, uses-split, chain_once)

pub ahead_pos : (links k : List ℕ) (n j at : ℕ) (rest : List ℕ) → Ahead links k n j at rest → j < n → (1 ≤ at) × (at < length links)
ahead_pos links k n j at e a h = grind (arith, linked_within)

-- it goes on
pub ahead_next : (links k : List ℕ) (n j at next c : ℕ) (cs : List ℕ) → Ahead links k n j at (c ∷ cs) → slice_get links at ≡ Some next → Ahead links k n (j + 1) next cs
ahead_next links k n j at next c cs a r = grind arith

-- what was written so far: once the rest is written too, the chain holds these numbers
abbrev pub Missing : List ℕ → List ℕ → ℕ → List ℕ → List (List ℕ) → Type 0
Missing k rest p ns h = (b : List (List ℕ)) → SameBut rest h b → Fills b rest p ns → Fills b k 0 ns

-- the sectors at a turn of a write, against those before all turns
pub record Written (k rest : List ℕ) (p : ℕ) (ns : List ℕ) (old new : List (List ℕ)) : Type 0 where
  pub same : SameBut k old new
  pub missing : Missing k rest p ns new

-- a write at a turn: the sectors before the walk, and how many calls there were
pub record Storing {D : Type 0} (holds : D → Option (List (List ℕ))) (links k : List ℕ) (n j at : ℕ) (ns : List ℕ) (old now : D) : Type 0 where
  pub rest : List ℕ
  pub ahead : Ahead links k n j at rest
  pub changed : Changes holds old now (Written k rest (30 * j) ns)

pub same_but-refl : (k : List ℕ) (h : List (List ℕ)) → SameBut k h h
same_but-refl k h = record { count = refl; others = λ m _ _. refl }

pub storing_first : {D : Type 0} (holds : D → Option (List (List ℕ))) (t : Table) (x : ℕ) (st : Shelf) (ns : List ℕ) (n : ℕ) (d : D) → HasChain t st x n → 1 ≤ n → Storing holds t.links (chain_of x st.chains) n 0 x ns d d
storing_first holds t x st ns n d c some = record {
  rest = chain_of x st.chains;
  ahead = subst (λ (m : ℕ). Ahead t.links (chain_of x st.chains) m 0 x (chain_of x st.chains)) c.many (ahead_first t x st c.shelf (omega (arith, c.many)));
  changed = record { told = λ h e. (h, e, record { same = same_but-refl (chain_of x st.chains) h; missing = λ b same st. st }) };
}

one_head : (i c : ℕ) (cs : List ℕ) → times i (c ∷ cs) ≡ 0 → times i (c ∷ []) ≡ 0
one_head i c cs z = omega arith

written_next : (k : List ℕ) (c : ℕ) (cs : List ℕ) (p : ℕ) (ns buf : List ℕ) (old now new : List (List ℕ)) → 1 ≤ c → times c cs ≡ 0 → ((m : ℕ) → times m k ≡ 0 → times m (c ∷ []) ≡ 0) → Written k (c ∷ cs) p ns old now → Sets c buf now new → ((i : ℕ) → i < 30 → slice_get buf i ≡ Some (number_at ns (p + i))) → Written k cs (p + 30) ns old new
written_next k c cs p ns buf old now new low z inside w s f = grind arith

pub storing_next : {D : Type 0} (holds : D → Option (List (List ℕ))) (links k : List ℕ) (n j at next : ℕ) (ns buf : List ℕ) (old now new : D) → j < n → Storing holds links k n j at ns old now → Changes holds now new (Sets at buf) → ((i : ℕ) → i < 30 → slice_get buf i ≡ Some (number_at ns (30 * j + i))) → slice_get links at ≡ Some next → Storing holds links k n (j + 1) next ns old new
storing_next holds links k n j at next ns buf old now new h s w f r = by_rest s.rest s.ahead s.changed where
  by_rest : (rest : List ℕ) → Ahead links k n j at rest → Changes holds old now (Written k rest (30 * j) ns) → Storing holds links k n (j + 1) next ns old new
  by_rest [] a ch = absurd (omega (arith, a.many))
  by_rest (c ∷ cs) a ch =
      let pos = (ahead_pos links k n j at (c ∷ cs) a h).0 in
      let p : 30 * j + 30 ≡ 30 * (j + 1) = omega arith in
      record {
        rest = cs;
        ahead = ahead_next links k n j at next c cs a r;
        changed = record {
          told = λ x e.
              let (y, is, wr) = ch.told x e in
              let (z, new_is, st) = w.told y is in
              let sets : Sets c buf y z = subst (λ (i : ℕ). Sets i buf y z) a.at_is st in
              (z, new_is, subst (λ (q : ℕ). Written k cs q ns x z) p (written_next k c cs (30 * j) ns buf x y z (omega (arith, a.at_is)) (omega (arith, a.once c, one-same c)) (λ m t. one_head m c cs (a.inside m t)) wr sets f));
        };
      }

-- a count that rose at a turn or before it
pub counts_next : {D : Type 0} (calls : D → ℕ) (old now new : D) → calls old ≤ calls now → Counts calls now new → Counts calls old new
counts_next calls old now new l c = record { later = omega (arith, c.later); rose = omega (arith, c.rose) }

-- what was read so far: the rest still holds the numbers, and core has those below p
abbrev pub Given : ℕ → ℕ → ℕ → List Tagged → List ℕ → List ℕ → ℕ → List (List ℕ) → Type 0
Given tag words at core k rest p h =
    (ns : List ℕ) → length ns ≡ words → Holds h k 0 ns → Holds h rest p ns × ((i : ℕ) → i < p → i < words → slice_get core (at + i) ≡ option_map (under tag) (slice_get ns i))

-- a read at a turn
pub record Restoring {D : Type 0} (holds : D → Option (List (List ℕ))) (links k : List ℕ) (n j from tag words at : ℕ) (core : List Tagged) (old now : D) : Type 0 where
  pub rest : List ℕ
  pub ahead : Ahead links k n j from rest
  pub given : Tells holds old (Given tag words at core k rest (30 * j))

pub restoring_first : {D : Type 0} (holds : D → Option (List (List ℕ))) (t : Table) (x : ℕ) (st : Shelf) (n tag words at : ℕ) (core : List Tagged) (d : D) → HasChain t st x n → 1 ≤ n → Restoring holds t.links (chain_of x st.chains) n 0 x tag words at core d d
restoring_first holds t x st n tag words at core d c some = record {
  rest = chain_of x st.chains;
  ahead = subst (λ (m : ℕ). Ahead t.links (chain_of x st.chains) m 0 x (chain_of x st.chains)) c.many (ahead_first t x st c.shelf (omega (arith, c.many)));
  given = record { told = λ h e ns l st. (st, λ i z _. absurd (omega arith)) };
}

given_next : (tag words at : ℕ) (core new : List Tagged) (k : List ℕ) (c : ℕ) (cs : List ℕ) (p n : ℕ) (buf : List ℕ) (h : List (List ℕ)) → n ≡ min (words - p) 30 → sector h c ≡ Some buf → ((i : ℕ) → i < n → slice_get new (at + p + i) ≡ option_map (under tag) (slice_get buf i)) → ((i : ℕ) → (i < at + p) ⊎ (at + p + n ≤ i) → slice_get new i ≡ slice_get core i) → Given tag words at core k (c ∷ cs) p h → Given tag words at new k cs (p + 30) h
given_next tag words at core new k c cs p n buf h en s v out g = λ ns e st.
    let (front, below) = g ns e st in (
      front.1,
      λ i low inside. ⊎_elim
          (λ l. out (at + i) (inl (omega arith)) ∙ below i l inside)
          (λ l.
          let there : at + i ≡ at + p + (i - p) = omega arith in
          let same : buf ≡ front.0.0 = same_Some buf front.0.0 (sym s ∙ front.0.1) in
          let back : p + (i - p) ≡ i = omega arith in
          ap (slice_get new) there ∙ v (i - p) (omega arith) ∙ ap (option_map (under tag)) (ap (λ (b : List ℕ). slice_get b (i - p)) same ∙ front.0.2 (i - p) (omega arith) (omega arith) ∙ ap (slice_get ns) back))
          (cases_lt i p),
    )

pub restoring_next : {D : Type 0} (holds : D → Option (List (List ℕ))) (links k : List ℕ) (n j from next tag words at : ℕ) (core after : List Tagged) (m : ℕ) (buf : List ℕ) (old now new : D) → j < n → Restoring holds links k n j from tag words at core old now → Becomes holds old now (λ all. all) → Tells holds now (λ all. sector all from ≡ Some buf) → m ≡ min (words - 30 * j) 30 → ((i : ℕ) → i < m → slice_get after (at + 30 * j + i) ≡ option_map (under tag) (slice_get buf i)) → ((i : ℕ) → (i < at + 30 * j) ⊎ (at + 30 * j + m ≤ i) → slice_get after i ≡ slice_get core i) → slice_get links from ≡ Some next → Restoring holds links k n (j + 1) next tag words at after old new
restoring_next holds links k n j from next tag words at core after m buf old now new h s same read e v out r = by_rest s.rest s.ahead s.given where
  by_rest : (rest : List ℕ) → Ahead links k n j from rest → Tells holds old (Given tag words at core k rest (30 * j)) → Restoring holds links k n (j + 1) next tag words at after old new
  by_rest [] a g = absurd (omega (arith, a.many))
  by_rest (c ∷ cs) a g =
      let p : 30 * j + 30 ≡ 30 * (j + 1) = omega arith in
      record {
        rest = cs;
        ahead = ahead_next links k n j from next c cs a r;
        given = record {
          told = λ x is.
              let there : sector x c ≡ Some buf = subst (λ (i : ℕ). sector x i ≡ Some buf) a.at_is (read.told x (same.told x is)) in
              subst (λ (q : ℕ). Given tag words at after k cs q x) p (given_next tag words at core after k c cs (30 * j) m buf x e there v out (g.told x is));
        };
      }

pub becomes_next : {D A : Type 0} (tell : D → Option A) (old now new : D) → Becomes tell old now (λ all. all) → Becomes tell now new (λ all. all) → Becomes tell old new (λ all. all)
becomes_next tell old now new a b = record { told = λ x e. b.told x (a.told x e) }

pub low_word : (tag : ℕ) (core : List Tagged) (at i : ℕ) (xs : List ℕ) → slice_get core at ≡ option_map (under tag) (slice_get xs i) → i < length xs → (w : Tagged) × (slice_get core at ≡ Some w) × (w.bits < 2 ^ 48)
low_word tag core at i xs e h = let (n, is) = there xs i h in (under tag n, e ∙ ap (option_map (under tag)) is, omega arith) where
  there : (xs : List ℕ) (i : ℕ) → i < length xs → (n : ℕ) × (slice_get xs i ≡ Some n)
  there [] i h = absurd (omega arith)
  there (x ∷ xs) zero h = (x, refl)
  there (x ∷ xs) (suc i) h = there xs i (omega arith)

pub tagged : (tag : ℕ) (core : List Tagged) (at i : ℕ) (xs : List ℕ) → slice_get core at ≡ option_map (under tag) (slice_get xs i) → i < length xs → (w : Tagged) × (slice_get core at ≡ Some w) × (w.tag ≡ tag)
tagged tag core at i xs e h = let (n, is) = there xs i h in (under tag n, e ∙ ap (option_map (under tag)) is, refl) where
  there : (xs : List ℕ) (i : ℕ) → i < length xs → (n : ℕ) × (slice_get xs i ≡ Some n)
  there [] i h = absurd (omega arith)
  there (x ∷ xs) zero h = (x, refl)
  there (x ∷ xs) (suc i) h = there xs i (omega arith)
