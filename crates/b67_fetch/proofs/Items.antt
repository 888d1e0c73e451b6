-- The element that two words give.
use Rattle.std.proofs.Common.{◌≡◌, ◌≢◌, ℕ, ◌-◌, ◌<◌, List, [], ◌∷◌, ◌++◌, map, length, Result, Ok, Err, refl, sym, ◌∙◌, ap, arith, false, subst, inl, inr}
use Rattle.std.specs.Prelude.{◌^◌}
use Rattle.std.specs.List.{AllByRecursion}
use Rattle.std.proofs.lemmas.Bool.Decides.{nat_tests}
use Rattle.b67_word.specs.Tagged.{Tagged, word}
use Rattle.b67_word.specs.declared.couples.Place.{Place}
use Rattle.b67_word.specs.declared.faults.Fault.{Fault}
use Rattle.b67_word.specs.declared.faults.Fault.TheVariants.{StackUnderflow}
use Rattle.b67_arith.specs.OnWords.{operand_bits}
use Rattle.b67_model.specs.Common.{Answer, ◌>>=◌, Word, operand, number, array, array_of, index_below, indexed, in_order, is_original, Array, Frame, Task, SessionJob, top, Session, Done, Starts, IsSegment, Known, known_of, outer_of, FramesInOrder, WordInOrder}
use Rattle.b67_layout.specs.Common.{IsInOrderButCounts, Placement, IsRunning, RepresentsSession, here, Meets, RunsSome, IsWordOf, cells}
use Rattle.b67_ctl.specs.declared.descriptors.DataDesc.{DataDesc}
use Rattle.b67_stack.specs.declared.Cpu.{Cpu}
use Rattle.b67_stack.specs.declared.Step.{Step}
use Rattle.b67_stack.specs.Represents.{Storage}
use Rattle.b67_layout.proofs.Fresh.{running_in_order}
use Rattle.b67_exec_cells.specs.Tops.{GivesTwo, NoOriginals}
use Rattle.b67_exec_cells.specs.Elements.{HasElement, HoldsElement, original_desc}
use Rattle.b67_exec_cells.proofs.Arrays.{array_is}
use Rattle.b67_exec_cells.proofs.Rows.{operand_seen}
use Rattle.b67_fetch.specs.Fetches.{IsFollowed, MayFollow}
use Rattle.b67_fetch.specs.Stores.{Choice}
use Rattle.b67_fetch.specs.Indexes.{FindsArray, index_in, FindsItem, FindsTopItem}

abbrev pair : ℕ → ℕ → Answer (ℕ × ℕ)
pair n k = Ok (n, k)

refused : {A : Type 0} → (f g : Fault) → f ≡ g → ◌≡◌ {A = Answer A} (Err g) (Err f)
refused f g e = rw e refl

first_word : Result (Tagged × Tagged) Fault → Tagged
first_word (Ok p) = p.0
first_word (Err f) = word 0 0

second_word : Result (Tagged × Tagged) Fault → Tagged
second_word (Ok p) = p.1
second_word (Err f) = word 0 0

-- the word of an operand
bits_is : (w : Tagged) → w.tag ≡ 0 → operand_bits w ≡ Ok w.bits
bits_is w e = rw e refl

index_ok : (len n bits k : ℕ) → Ok k ≡ index_in len bits → ((number bits >>= λ z. index_below len z >>= pair n) ≡ pair n k) × (k < len)
index_ok len n bits k e = grind (arith, nat_tests)

index_err : (len n bits : ℕ) (f : Fault) → Err f ≡ index_in len bits → (number bits >>= λ z. index_below len z >>= pair n) ≡ Err f
index_err len n bits f e = grind arith

pub index_natural : (len bits : ℕ) → bits < 2 ^ 39 → bits < len → Ok bits ≡ index_in len bits
index_natural len bits low below = grind arith

module _ (plan : Placement) (m : SessionJob) (t : Task) (q : Place) where
  abbrev row : Answer ℕ → Answer ℕ → Answer (ℕ × ℕ)
  row o ao = o >>= λ bits. ao >>= λ a. number bits >>= λ z. index_below (length (array m.progress.job a).numbers) z >>= pair a

  pub array_fault : (v i : Word) (index : Tagged) (fault : Fault) → index.tag ≡ 0 → operand_bits index ≡ operand i → FindsArray plan m (Err fault) (array_of (here m t q) v) → FindsItem plan m (Err fault) (indexed (here m t q) v i)
  array_fault v i index fault zero same found = subst (λ (o : Answer ℕ). FindsItem plan m (Err fault) (row o (array_of (here m t q) v))) (sym (bits_is index zero) ∙ same) (by (array_of (here m t q) v) found)
    where
      by : (ao : Answer ℕ) → FindsArray plan m (Err fault) ao → FindsItem plan m (Err fault) (row (Ok index.bits) ao)
      by (Err g) f = f
      by (Ok a) f = absurd f

  pub holds_found : (cpu : Cpu) (runs : RunsSome cpu) (original : ℕ) (ao : Answer ℕ) → FindsArray runs.plan runs.member (Ok original) ao → HoldsElement cpu original 0
  holds_found cpu runs original (Ok n) f = record { runs = runs; number = n; home = f.0; element = f.1 }
  holds_found cpu runs original (Err g) f = absurd f

  module _ (x : Storage) (cpu : Cpu) (s : Session) (ordered : IsInOrderButCounts s) (h : RepresentsSession x cpu plan s) (runs : IsRunning plan s.jobs m t) (v i : Word) (index : Tagged) (original : ℕ) (d : DataDesc)
      (zero : index.tag ≡ 0) (same : operand_bits index ≡ operand i) (found : FindsArray plan m (Ok original) (array_of (here m t q) v))
      (desc : (n k : ℕ) → original ≡ plan.home m.constants.number n → HasElement m.progress.job n k → d ≡ original_desc x plan m n) where
    length_is : (n : ℕ) → original ≡ plan.home m.constants.number n → HasElement m.progress.job n 0 → d.length ≡ length (array m.progress.job n).numbers
    length_is n home e = ap (λ (z : DataDesc). z.length) (desc n 0 home e)

    abbrev Found : Result (ℕ × ℕ) Fault → Answer ℕ → Type 0
    Found r o = FindsItem plan m r (row o (array_of (here m t q) v))

    pub found_index : (k : ℕ) → Ok k ≡ index_in d.length index.bits → FindsItem plan m (Ok (original, k)) (indexed (here m t q) v i)
    found_index k e = subst (Found (Ok (original, k))) (sym (bits_is index zero) ∙ same) (by (array_of (here m t q) v) found)
      where
        by : (ao : Answer ℕ) → FindsArray plan m (Ok original) ao → FindsItem plan m (Ok (original, k)) (row (Ok index.bits) ao)
        by (Err g) f = absurd f
        by (Ok n) f =
            let ok = index_ok (length (array m.progress.job n).numbers) n index.bits k (e ∙ ap (λ (l : ℕ). index_in l index.bits) (length_is n f.0 f.1)) in
            let item-is = array_is x cpu plan s m t ordered h runs n 0 f.1 in
            subst (FindsItem plan m (Ok (original, k))) (sym ok.0)
            (f.0, refl, record { item = f.1.item; live = f.1.live; named = f.1.named; inside = subst (λ (a : Array). k < length a.numbers) item-is ok.1 })

    pub no_index : (fault : Fault) → Err fault ≡ index_in d.length index.bits → FindsItem plan m (Err fault) (indexed (here m t q) v i)
    no_index fault e = subst (Found (Err fault)) (sym (bits_is index zero) ∙ same) (by (array_of (here m t q) v) found)
      where
        by : (ao : Answer ℕ) → FindsArray plan m (Ok original) ao → FindsItem plan m (Err fault) (row (Ok index.bits) ao)
        by (Err g) f = absurd f
        by (Ok n) f = subst (FindsItem plan m (Err fault)) (sym (index_err (length (array m.progress.job n).numbers) n index.bits fault (e ∙ ap (λ (l : ℕ). index_in l index.bits) (length_is n f.0 f.1)))) refl

  indexed_plain : (v i : Word) (p : ℕ × ℕ) → indexed (here m t q) v i ≡ Ok p → (is_original v ≡ false) × (is_original i ≡ false)
  indexed_plain v i p e = grind arith

  two_plain : (b a : Word) (p : ℕ × ℕ) → indexed (here m t q) (in_order b a).0 (in_order b a).1 ≡ Ok p → NoOriginals (b ∷ a ∷ [])
  two_plain b a p e = grind arith

  -- the two top cells that give an element
  pub record ItemOnTop (found : ℕ × ℕ) : Type 0 where
    pub upper : Word
    pub lower : Word
    pub rest : List Word
    pub item : ℕ × ℕ
    pub is : cells t ≡ upper ∷ lower ∷ rest
    pub given : indexed (here m t q) (in_order upper lower).0 (in_order upper lower).1 ≡ Ok item
    pub plain : NoOriginals (upper ∷ lower ∷ [])
    pub home : found.0 ≡ plan.home m.constants.number item.0
    pub index : found.1 ≡ item.1
    pub element : HasElement m.progress.job item.0 item.1

  pub item_on_top : (found : ℕ × ℕ) → FindsTopItem plan m (here m t q) (cells t) (Ok found) → ItemOnTop found
  item_on_top found f = by (cells t) refl f
    where
      by_item : (b a : Word) (rest : List Word) → cells t ≡ b ∷ a ∷ rest → (an : Answer (ℕ × ℕ)) → indexed (here m t q) (in_order b a).0 (in_order b a).1 ≡ an → FindsItem plan m (Ok found) an → ItemOnTop found
      by_item b a rest e (Err g) i f = absurd f
      by_item b a rest e (Ok item) i f = record { upper = b; lower = a; rest = rest; item = item; is = e; given = i; plain = two_plain b a item i; home = f.0; index = f.1; element = f.2 }

      by : (cs : List Word) → cells t ≡ cs → FindsTopItem plan m (here m t q) cs (Ok found) → ItemOnTop found
      by [] e f = absurd (let z : ⊥ = cc in z)
      by (b ∷ []) e f = absurd (let z : ⊥ = cc in z)
      by (b ∷ a ∷ rest) e f = by_item b a rest e (indexed (here m t q) (in_order b a).0 (in_order b a).1) refl f

  -- the same where the search found the fault
  pub no_item : (R : List Word → Answer Done) (F : ℕ × ℕ → List Word → Answer Done) (fault : Fault) → R [] ≡ Err StackUnderflow → ((b : Word) → R (b ∷ []) ≡ Err StackUnderflow)
      → ((b a : Word) (rest : List Word) → R (b ∷ a ∷ rest) ≡ (indexed (here m t q) (in_order b a).0 (in_order b a).1 >>= λ at. F at rest))
      → FindsTopItem plan m (here m t q) (cells t) (Err fault) → R (cells t) ≡ Err fault
  no_item R F fault none one two f = by (cells t) f
    where
      by_item : (rest : List Word) (an : Answer (ℕ × ℕ)) → FindsItem plan m (Err fault) an → (an >>= λ at. F at rest) ≡ Err fault
      by_item rest (Err g) f = refused fault g f
      by_item rest (Ok item) f = absurd f

      by : (cs : List Word) → FindsTopItem plan m (here m t q) cs (Err fault) → R cs ≡ Err fault
      by [] f = let same : fault ≡ StackUnderflow = (let e = f in cc) in none ∙ refused fault StackUnderflow same
      by (b ∷ []) f = let same : fault ≡ StackUnderflow = (let e = f in cc) in one b ∙ refused fault StackUnderflow same
      by (b ∷ a ∷ rest) f = two b a rest ∙ by_item rest (indexed (here m t q) (in_order b a).0 (in_order b a).1) f

  pub row_at_item : (x : Storage) (s : Session) (old new : Cpu) (r : Step) (R : List Word → Answer Done) (F : ℕ × ℕ → List Word → Answer Done) (found : ℕ × ℕ) (i : ItemOnTop found)
      → ((b a : Word) (rest : List Word) → R (b ∷ a ∷ rest) ≡ (indexed (here m t q) (in_order b a).0 (in_order b a).1 >>= λ at. F at rest))
      → Meets x plan s m r old new (F i.item i.rest) → Meets x plan s m r old new (R (cells t))
  row_at_item x s old new r R F found i two meets = grind arith

-- the two top cells, which may be followed
pub record TwoFollowed (x : Storage) (plan : Placement) (m : SessionJob) (t : Task) (u v : Tagged) : Type 0 where
  pub upper : Word
  pub lower : Word
  pub rest : List Word
  pub is : cells t ≡ upper ∷ lower ∷ rest
  pub top : IsFollowed x plan m t v upper
  pub second : IsFollowed x plan m t u lower

two_order : (P : Starts) (arrays : List Array) (outer : List Known) (fs : List Frame) (b a : Word) (rest : List Word) → FramesInOrder P arrays outer fs → (top fs).cells ≡ b ∷ a ∷ rest
    → WordInOrder P arrays (map known_of fs ++ outer) (top fs).identity b × WordInOrder P arrays (map known_of fs ++ outer) (top fs).identity a
two_order P arrays outer [] b a rest o e = absurd (let z : ⊥ = cc in z)
two_order P arrays outer (f ∷ below) b a rest o e =
    let A : List Word → Type 0 = λ cs. AllByRecursion (WordInOrder P arrays (map known_of (f ∷ below) ++ outer) f.identity) cs in
    let all = subst A e o.0.0 in (all.0, all.1.0)

pub two_followed : (x : Storage) (cpu : Cpu) (plan : Placement) (s : Session) (m : SessionJob) (t : Task) (u v : Tagged) → IsInOrderButCounts s → IsRunning plan s.jobs m t → GivesTwo x plan m t cpu (cells t) (Ok (u, v)) → TwoFollowed x plan m t u v
unfolding first_word second_word
two_followed x cpu plan s m t u v ordered runs given = by_cells (cells t) refl given where
  by_cells : (cs : List Word) → cells t ≡ cs → GivesTwo x plan m t cpu cs (Ok (u, v)) → TwoFollowed x plan m t u v
  by_cells [] e g = absurd (let z : ⊥ = cc in z)
  by_cells (b ∷ []) e g = absurd (let z : ⊥ = cc in z)
  by_cells (b ∷ a ∷ rest) e g =
      let same-u : g.0 ≡ u = sym (ap first_word g.2) in
      let same-v : g.1 ≡ v = sym (ap second_word g.2) in
      let o = two_order (IsSegment m.constants) m.progress.job.arrays (outer_of m.progress.job t) t.frames b a rest (running_in_order plan s m t ordered runs).1.frames e in
      record {
        upper = b;
        lower = a;
        rest = rest;
        is = e;
        top = record { at = cpu.regs.s; owner = (top t.frames).identity; is = subst (λ (w : Tagged). IsWordOf x plan m t b cpu.regs.s w) same-v g.4.is; ordered = o.0 };
        second = record { at = cpu.regs.s - 1; owner = (top t.frames).identity; is = subst (λ (w : Tagged). IsWordOf x plan m t a (cpu.regs.s - 1) w) same-u g.3.is; ordered = o.1 };
      }

module _ (x : Storage) (plan : Placement) (m : SessionJob) (t : Task) where
  -- which of them is the index
  index_above : (v : Tagged) (b a : Word) (at : ℕ) → IsWordOf x plan m t b at v → v.tag ≡ 0 → in_order b a ≡ (a, b)
  index_above v b a at f z = grind arith

  index_below_it : (v : Tagged) (b a : Word) (at : ℕ) → IsWordOf x plan m t b at v → v.tag ≢ 0 → in_order b a ≡ (b, a)
  index_below_it v b a at f z = grind arith

  by_order : (q : Place) (found : Result (ℕ × ℕ) Fault) (u v : Tagged) (two : TwoFollowed x plan m t u v) (pair : Word × Word) → in_order two.upper two.lower ≡ pair
      → FindsItem plan m found (indexed (here m t q) pair.0 pair.1) → FindsTopItem plan m (here m t q) (cells t) found
  by_order q found u v two pair e i = grind arith

  pub above : (q : Place) (found : Result (ℕ × ℕ) Fault) (u v : Tagged) (two : TwoFollowed x plan m t u v) → v.tag ≡ 0
      → FindsItem plan m found (indexed (here m t q) two.lower two.upper) → FindsTopItem plan m (here m t q) (cells t) found
  above q found u v two z i = by_order q found u v two (two.lower, two.upper) (index_above v two.upper two.lower two.top.at two.top.is z) i

  pub below : (q : Place) (found : Result (ℕ × ℕ) Fault) (u v : Tagged) (two : TwoFollowed x plan m t u v) → v.tag ≢ 0
      → FindsItem plan m found (indexed (here m t q) two.upper two.lower) → FindsTopItem plan m (here m t q) (cells t) found
  below q found u v two z i = by_order q found u v two (two.upper, two.lower) (index_below_it v two.upper two.lower two.top.at two.top.is z) i

  -- the one that was chosen is followed, and the other is the index
  pub chosen_item : (q : Place) (found : Result (ℕ × ℕ) Fault) (words chosen : Tagged × Tagged) (two : TwoFollowed x plan m t words.0 words.1) → Choice words chosen
      → ((v i : Word) → IsFollowed x plan m t chosen.0 v → operand_bits chosen.1 ≡ operand i → FindsItem plan m found (indexed (here m t q) v i)) → FindsTopItem plan m (here m t q) (cells t) found
  chosen_item q found words chosen two h each = grind (arith, operand_seen)

  pub fewer : (q : Place) (cpu : Cpu) (fault : Fault) → GivesTwo x plan m t cpu (cells t) (Err fault) → FindsTopItem plan m (here m t q) (cells t) (Err fault)
  fewer q cpu fault given = grind arith

pub follows_one : (cpu : Cpu) (q : RunsSome cpu) (words chosen : Tagged × Tagged) → TwoFollowed q.storage q.plan q.member q.task words.0 words.1 → Choice words chosen → MayFollow cpu chosen.0
follows_one cpu q words chosen two (inl (z, same)) = subst (λ (p : Tagged × Tagged). MayFollow cpu p.0) (sym same) (record { runs = q; word = two.lower; followed = two.second })
follows_one cpu q words chosen two (inr (z, same)) = subst (λ (p : Tagged × Tagged). MayFollow cpu p.0) (sym same) (record { runs = q; word = two.upper; followed = two.top })

pub holds_item : (cpu : Cpu) (runs : RunsSome cpu) (q : Place) (found : ℕ × ℕ) → FindsTopItem runs.plan runs.member (here runs.member runs.task q) (cells runs.task) (Ok found) → HoldsElement cpu found.0 found.1
holds_item cpu runs q found f =
    let i = item_on_top runs.plan runs.member runs.task q found f in
    record { runs = runs; number = i.item.0; home = i.home; element = subst (HasElement runs.member.progress.job i.item.0) (sym i.index) i.element }
