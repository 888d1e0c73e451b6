-- Numbers with zeros after them in the sectors of a chain.
use Rattle.std.proofs.Common.{◌≡◌, ℕ, zero, suc, ◌+◌, ◌*◌, ◌<◌, ◌≤◌, List, [], ◌∷◌, ◌++◌, length, map, replicate, get_or, Some, refl, sym, ◌∙◌, ap, arith}
use Rattle.std.specs.List.{slice_get}
use Rattle.b67_word.specs.Tagged.{Tagged}
use Rattle.b67_word.specs.Numbers.{number}
use Rattle.b67_backing.specs.Shelf.{times}
use Rattle.b67_backing.specs.Held.{SameBut, Holds, Fills, number_at}
use Rattle.b67_backing.proofs.Links.{one-same}

-- the number at a place, within the list and past it
pub number_at-within : (ns : List ℕ) (i : ℕ) → i < length ns → slice_get ns i ≡ Some (number_at ns i)
number_at-within [] i h = absurd (omega arith)
number_at-within (n ∷ ns) zero h = refl
number_at-within (n ∷ ns) (suc i) h = number_at-within ns i (omega arith)

pub number_at-past : (ns : List ℕ) (i : ℕ) → length ns ≤ i → number_at ns i ≡ 0
number_at-past [] i h = refl
number_at-past (n ∷ ns) zero h = absurd (omega arith)
number_at-past (n ∷ ns) (suc i) h = number_at-past ns i (omega arith)

pub number_at-index : (ws : List Tagged) (i : ℕ) (d : Tagged) → i < length ws → number (get_or ws i d) ≡ number_at (map number ws) i
number_at-index [] i d h = absurd (omega arith)
number_at-index (w ∷ ws) zero d h = refl
number_at-index (w ∷ ws) (suc i) d h = number_at-index ws i d (omega arith)

number_at-zeros : (k i : ℕ) → number_at (replicate k zero) i ≡ 0
number_at-zeros zero i = refl
number_at-zeros (suc k) zero = refl
number_at-zeros (suc k) (suc i) = number_at-zeros k i

pub number_at-more : (ns : List ℕ) (k i : ℕ) → number_at (ns ++ replicate k zero) i ≡ number_at ns i
number_at-more [] k i = number_at-zeros k i
number_at-more (n ∷ ns) k zero = refl
number_at-more (n ∷ ns) k (suc i) = number_at-more ns k i

pub Fills-holds : (all : List (List ℕ)) (cs : List ℕ) (at : ℕ) (ns : List ℕ) → Fills all cs at ns → Holds all cs at ns
Fills-holds all [] at ns h = h
Fills-holds all (c ∷ cs) at ns h = ((h.0.0, h.0.1, λ i low inside. h.0.2 i low ∙ sym (number_at-within ns (at + i) inside)), Fills-holds all cs (at + 30) ns h.1)

-- sectors of zeros hold what is past a list
past_holds : (all : List (List ℕ)) (cs : List ℕ) (p at : ℕ) (ns : List ℕ) → length ns ≤ at → Fills all cs p [] → Holds all cs at ns
past_holds all [] p at ns low h = low
past_holds all (c ∷ cs) p at ns low h = ((h.0.0, h.0.1, λ i small inside. absurd (omega arith)), past_holds all cs (p + 30) (at + 30) ns (omega arith) h.1)

past_fills : (all : List (List ℕ)) (cs : List ℕ) (p at : ℕ) (ns more : List ℕ) → length ns ≤ at → length more ≤ at + 30 * length cs → ((i : ℕ) → number_at more i ≡ number_at ns i) → Fills all cs p [] → Fills all cs at more
past_fills all [] p at ns more low fits same h = omega arith
past_fills all (c ∷ cs) p at ns more low fits same h = grind (arith, number_at-past, past_fills all cs (p + 30) (at + 30) ns more)

-- a chain goes on through sectors of zeros
pub Holds-on : (ks cs : List ℕ) (at : ℕ) (ns : List ℕ) (old new : List (List ℕ)) → SameBut ks old new → ((c : ℕ) → 1 ≤ times c cs → (1 ≤ c) × (times c ks ≡ 0)) → Fills new ks 0 [] → Holds old cs at ns → Holds new (cs ++ ks) at ns
Holds-on ks [] at ns old new s apart z h = past_holds new ks 0 at ns h z
Holds-on ks (c ∷ cs) at ns old new s apart z h = grind (arith, Holds-on ks cs (at + 30) ns old new s)

pub Fills-on : (ks cs : List ℕ) (at : ℕ) (ns more : List ℕ) (old new : List (List ℕ)) → SameBut ks old new → ((c : ℕ) → 1 ≤ times c cs → (1 ≤ c) × (times c ks ≡ 0)) → Fills new ks 0 [] → length more ≤ at + 30 * (length cs + length ks) → ((i : ℕ) → number_at more i ≡ number_at ns i) → Fills old cs at ns → Fills new (cs ++ ks) at more
Fills-on ks [] at ns more old new s apart z fits same h = past_fills new ks 0 at ns more h (omega arith) same z
Fills-on ks (c ∷ cs) at ns more old new s apart z fits same h = grind (arith, Fills-on ks cs (at + 30) ns more old new s)
