-- Reading one item after the other, as a loop does.
use Rattle.std.proofs.Common.{◌≡◌, ℕ, suc, ◌-◌, ◌+◌, ◌≤◌, ◌<◌, List, [], ◌∷◌, ◌++◌, length, take, Some, None, refl, sym, ap, subst, ◌∙◌, append_assoc, arith, slice_set}
use Rattle.std.specs.Prelude.{Option}
use Rattle.std.proofs.lemmas.List.{append-nil, take_all, take_more_set}
use Rattle.b67_image.specs.declared.flaw.Flaw.{Flaw}
use Rattle.b67_image.specs.declared.flaw.Flaw.TheVariants.{Bad, Memory}
use Rattle.b67_image.specs.Giving.{◌>>=◌, ReadingFails, ItemReader, read_many}

-- what was read before, and what is still read
abbrev pub with_front : {X : Type 0} → List X → Option (List X × List ℕ) → Option (List X × List ℕ)
with_front front read = read >>= λ x. Some (front ++ x.0, x.1)

-- what is left of a count of items, read behind those in front, is what the whole count is at all the bytes
pub record Continues {X : Type 0} (read : ItemReader X) (front : List X) (count i : ℕ) (bytes : List ℕ) (total : Option (List X × List ℕ)) : Type 0 where
  pub so_far : with_front front (read_many read (count - i) bytes) ≡ total

regroup : {X : Type 0} (front : List X) (n : X) (read : Option (List X × List ℕ)) → with_front front (read >>= λ x. Some (n ∷ x.0, x.1)) ≡ with_front (front ++ n ∷ []) read
regroup {X} front n (Some x) = ap (λ (ns : List X). Some (ns, x.1)) (simp append_assoc)
regroup front n None = refl

pub goes_on : {X : Type 0} (read : ItemReader X) (front : List X) (count i : ℕ) (bytes : List ℕ) (n : X) (after : List ℕ) (total : Option (List X × List ℕ)) → i < count → read bytes ≡ Some (n, after)
    → Continues read front count i bytes total → Continues read (front ++ n ∷ []) count (i + 1) after total
unfolding read_many
goes_on read front count i bytes n after total lt h c =
    let k : count - i ≡ suc (count - (i + 1)) = omega arith in
    let one : with_front front (read_many read (count - i) bytes) ≡ with_front (front ++ n ∷ []) (read_many read (count - (i + 1)) after) = rw (k, h) (regroup front n (read_many read (count - (i + 1)) after)) in
    record { so_far = sym one ∙ c.so_far }

pub ends : {X : Type 0} (read : ItemReader X) (e : Flaw) (front : List X) (count i : ℕ) (bytes : List ℕ) (total : Option (List X × List ℕ)) → i < count → ReadingFails e (read bytes)
    → Continues read front count i bytes total → ReadingFails e total
unfolding read_many
ends read Memory front count i bytes total lt h c = tt
ends read Bad front count i bytes total lt h c =
    let k : count - i ≡ suc (count - (i + 1)) = omega arith in
    let one : with_front front (read_many read (count - i) bytes) ≡ None = rw (k, h) refl in
    sym c.so_far ∙ one

pub is_done : {X : Type 0} (read : ItemReader X) (front : List X) (count i : ℕ) (bytes : List ℕ) (total : Option (List X × List ℕ)) → count ≤ i → Continues read front count i bytes total → total ≡ Some (front, bytes)
unfolding read_many
is_done {X} read front count i bytes total le c =
    let k : count - i ≡ 0 = omega arith in
    let one : with_front front (read_many read (count - i) bytes) ≡ Some (front, bytes) = rw k (ap (λ (ns : List X). Some (ns, bytes)) (append-nil front)) in
    sym c.so_far ∙ one

-- before anything is read
pub begins : {X : Type 0} (read : ItemReader X) (count : ℕ) (bytes : List ℕ) → Continues read [] count 0 bytes (read_many read count bytes)
begins read count bytes = record { so_far = begins_at read (read_many read (count - 0) bytes) (read_many read count bytes) (ap (λ (n : ℕ). read_many read n bytes) (omega arith)) }
  where
    begins_at : {X : Type 0} (read : ItemReader X) (a b : Option (List X × List ℕ)) → a ≡ b → with_front [] a ≡ b
    begins_at read (Some x) b e = e
    begins_at read None b e = e

-- items that are written into places, one after the other
pub writes_on : {X : Type 0} (read : ItemReader X) (xs : List X) (count i : ℕ) (bytes : List ℕ) (n : X) (after : List ℕ) (total : Option (List X × List ℕ)) → i < count → i < length xs → read bytes ≡ Some (n, after)
    → Continues read (take i xs) count i bytes total → Continues read (take (i + 1) (slice_set xs i n)) count (i + 1) after total
writes_on {X} read xs count i bytes n after total lt inside h c =
    let e : take (i + 1) (slice_set xs i n) ≡ take i xs ++ n ∷ [] = take_more_set xs i n inside in
    subst (λ (front : List X). Continues read front count (i + 1) after total) (sym e) (goes_on read (take i xs) count i bytes n after total lt h c)

pub written : {X : Type 0} (read : ItemReader X) (xs : List X) (count i : ℕ) (bytes : List ℕ) (total : Option (List X × List ℕ)) → count ≤ i → length xs ≤ i → Continues read (take i xs) count i bytes total → total ≡ Some (xs, bytes)
written {X} read xs count i bytes total le inside c =
    is_done read (take i xs) count i bytes total le c ∙ ap (λ (ns : List X). Some (ns, bytes)) (take_all i xs inside)
