-- Texts that are put one after the other.
use Rattle.std.proofs.Common.{◌≡◌, ℕ, zero, suc, ◌+◌, ◌<◌, ◌≤◌, List, [], ◌++◌, length, Ok, Err, sym, ap, subst, ◌∙◌, append-nil, append_assoc, length-append, arith}
use Rattle.std.specs.Prelude.{Option, Result, ⊤, slice_get, Some, map, option_map}
use Rattle.std.specs.Result.{IsErr}
use Rattle.std.proofs.Math.Seq.{take-append-add}
use Rattle.std.proofs.lemmas.List.{take-append-le}
use Rattle.std.proofs.lemmas.Option.{slice_get-map}
use Rattle.b67_word.specs.declared.faults.Failed.{Failed}
use Rattle.b67_io.specs.Told.{Took, TookPart}
use Rattle.b67_io.proofs.Joined.{Took-none, Took-then}
use Rattle.b67_dump.specs.Put.{PutsText}

module _ {K : Type 0} (taken : K → Option (List ℕ)) (faults : K → ℕ) where
  part_after : (a b c : K) (x y : List ℕ) → Took taken a b x → TookPart taken b c y → TookPart taken a c (x ++ y)
  part_after a b c x y p q = record {
    count = length x + q.count;
    proper = let proper = q.proper in rw (length-append x y) (omega arith);
    first = subst (Took taken a c) (sym (take-append-add x y q.count)) (Took-then p q.first);
  }

  part_before : (a b : K) (x y : List ℕ) → TookPart taken a b x → TookPart taken a b (x ++ y)
  part_before a b x y p = grind (arith, length-append, take-append-le)

  pub puts_none : (now : K) → PutsText taken faults now now (Ok tt) []
  puts_none now = record { whole = Took-none taken now; part = tt; cause = record { later = omega arith; failed = tt } }

  -- one text, and then all of another, or a beginning of it
  pub puts_then : (a b c : K) (r : Result ⊤ Failed) (x y : List ℕ) → PutsText taken faults a b (Ok tt) x → PutsText taken faults b c r y → PutsText taken faults a c r (x ++ y)
  puts_then a b c (Ok done) x y p q = grind (arith, Took-then)
  puts_then a b c (Err failed) x y p q = grind (arith, part_after)

  -- a beginning of a text is one of a longer text
  pub puts_stop : (a b : K) (failed : Failed) (x whole : List ℕ) → (rest : List ℕ) × (whole ≡ x ++ rest) → PutsText taken faults a b (Err failed) x → PutsText taken faults a b (Err failed) whole
  puts_stop a b failed x whole (rest, e) p = subst (PutsText taken faults a b (Err failed)) (sym e) (record { whole = tt; part = part_before a b x rest p.part; cause = p.cause })

  -- a failure that is passed on
  pub puts_passed : (a b : K) (r : Result ⊤ Failed) (failed : Failed) (text : List ℕ) → IsErr r → PutsText taken faults a b (Err failed) text → PutsText taken faults a b r text
  puts_passed a b r failed text is p = grind arith

  pub puts_as : (a b : K) (r : Result ⊤ Failed) (x y : List ℕ) → x ≡ y → PutsText taken faults a b r x → PutsText taken faults a b r y
  puts_as a b r x y e p = subst (PutsText taken faults a b r) e p

-- a text that grows at its end has each earlier one at its beginning
pub grows : (text piece : ℕ → List ℕ) → ((i : ℕ) → text (suc i) ≡ text i ++ piece i) → (n m : ℕ) → (rest : List ℕ) × (text (n + m) ≡ text n ++ rest)
grows text piece step n zero = let e : n + 0 ≡ n = omega arith in ([], ap text e ∙ sym (append-nil (text n)))
grows text piece step n (suc m) =
    let e : n + suc m ≡ suc (n + m) = omega arith in
    let one = grows text piece step n m in
    (one.0 ++ piece (n + m), ap text e ∙ step (n + m) ∙ ap (λ t. t ++ piece (n + m)) one.1 ∙ append_assoc (text n) one.0 (piece (n + m)))

-- the same of texts that grow as a number falls
pub falls : (text piece : ℕ → List ℕ) (count : ℕ) → ((i : ℕ) → i < count → text i ≡ text (suc i) ++ piece i) → (i : ℕ) → i ≤ count → (rest : List ℕ) × (text 0 ≡ text i ++ rest)
falls text piece count step zero le = ([], sym (append-nil (text 0)))
falls text piece count step (suc i) le = grind (arith, append_assoc, falls text piece count step i)

pub got_mapped : {X Y : Type 0} (f : X → Y) (xs : List X) (i : ℕ) (x : X) → slice_get xs i ≡ Some x → slice_get (map f xs) i ≡ Some (f x)
got_mapped f xs i x e = slice_get-map f xs i ∙ ap (option_map f) e
