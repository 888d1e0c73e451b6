-- Drawing one item after the other, as a loop does.
use Rattle.std.proofs.Common.{◌≡◌, ℕ, zero, suc, ◌+◌, ◌-◌, ◌<◌, ◌≤◌, List, [], ◌∷◌, ◌++◌, refl, sym, ap, ◌∙◌, append_assoc, append-nil, length, arith}
use Rattle.std.specs.List.{AllByRecursion}
use Rattle.b67_gen.specs.declared.stores.Store.{Store}
use Rattle.b67_gen.specs.Generated.{drawn, below, after_draws, lengths, drawn_store, stores}

-- so many lengths are drawn, and what is still drawn from this state makes them all
pub record DrawsLengths (first : ℕ) (front : List ℕ) (count i x : ℕ) : Type 0 where
  pub all : front ++ lengths (count - i) x ≡ lengths count first
  pub state : after_draws (count - i) x ≡ after_draws count first

pub lengths_go_on : (first : ℕ) (front : List ℕ) (count i x : ℕ) → i < count → DrawsLengths first front count i x → DrawsLengths first (front ++ (50 + below 200 (drawn x)) ∷ []) count (i + 1) (drawn x)
lengths_go_on first front count i x lt d =
    let k : count - i ≡ suc (count - (i + 1)) = omega (arith, lt) in
    let more = lengths (count - (i + 1)) (drawn x) in
    record {
      all = append_assoc front ((50 + below 200 (drawn x)) ∷ []) more ∙ ap (λ n. front ++ lengths n x) (sym k) ∙ d.all;
      state = ap (λ n. after_draws n x) (sym k) ∙ d.state;
    }

-- the same of stores
pub record DrawsStores (arrays : List ℕ) (first : ℕ) (front : List Store) (count i x : ℕ) : Type 0 where
  pub all : front ++ stores arrays (count - i) x ≡ stores arrays count first

pub stores_go_on : (arrays : List ℕ) (first : ℕ) (front : List Store) (count i x : ℕ) → i < count → DrawsStores arrays first front count i x → DrawsStores arrays first (front ++ drawn_store arrays x ∷ []) count (i + 1) (after_draws 3 x)
stores_go_on arrays first front count i x lt d =
    let k : count - i ≡ suc (count - (i + 1)) = omega (arith, lt) in
    let more = stores arrays (count - (i + 1)) (after_draws 3 x) in
    record { all = append_assoc front (drawn_store arrays x ∷ []) more ∙ ap (λ n. front ++ stores arrays n x) (sym k) ∙ d.all }

pub stores_end : (arrays : List ℕ) (first : ℕ) (front : List Store) (count i x : ℕ) → count ≤ i → DrawsStores arrays first front count i x → front ≡ stores arrays count first
stores_end arrays first front count i x le d =
    let k : count - i ≡ 0 = omega (arith, le) in
    sym (append-nil front) ∙ ap (λ n. front ++ stores arrays n x) (sym k) ∙ d.all

-- no array is empty
pub lengths_positive : (n x : ℕ) → AllByRecursion (λ (words : ℕ). 0 < words) (lengths n x)
lengths_positive zero x = tt
lengths_positive (suc n) x = (omega arith, lengths_positive n (drawn x))

pub lengths_many : (n x : ℕ) → length (lengths n x) ≡ n
lengths_many zero x = refl
lengths_many (suc n) x = ap suc (lengths_many n (drawn x))
