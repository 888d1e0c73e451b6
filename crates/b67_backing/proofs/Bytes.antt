-- Numbers and sectors read from the bytes of a file.
use Rattle.std.proofs.Common.{◌≡◌, ◌≢◌, ℕ, zero, suc, ◌+◌, ◌-◌, ◌*◌, ◌^◌, ◌<◌, ◌≤◌, ◌⊎◌, ◌==◌, List, [], ◌∷◌, ◌++◌, length, drop, Option, Some, None, Result, Ok, Err, Bool, true≢false, IsTrue, IfOk, IfSome, is_ok, IfOk, IfSome, OnOk, OnErr, refl, sym, ◌∙◌, ap, ap₂, subst, arith, inl, inr, ⊎_elim, slice_index}
use Rattle.std.specs.List.{slice_get, flat_map}
use Rattle.std.proofs.lemmas.Bool.{cases_Bool, cond-true, cond-false, eq-eqb, eqb-true, cases_lt}
use Rattle.std.proofs.lemmas.Option.{same_Some, none-some, slice_get_past}
use Rattle.std.proofs.lemmas.List.{get_or-drop, get_or-append-add}
use Rattle.std.specs.Result.{result_ok}
use Rattle.byteorder.specs.Endian.{big_from, big_bytes, IsRead, big_number}
use Rattle.byteorder.specs.Numbers.{big_number-reads_back, length-bytes_high_first}
use Rattle.b67_backing.specs.File.{LiesAt, SameBytesBut, Overwrites, Puts, KeepsBytes, of_length, numbers_from, sectors_from, told_sectors, file_sectors}
use Rattle.b67_backing.specs.Held.{Tells, Becomes, Changes, SameBut, Sets}
use Rattle.b67_backing.proofs.Links.{times-cons}

-- equal bytes make equal numbers
pub same_number : (n i j : ℕ) (xs ys : List ℕ) → ((k : ℕ) → k < n → slice_index xs (i + k) ≡ slice_index ys (j + k)) → big_from i n xs ≡ big_from j n ys
same_number zero i j xs ys h = refl
same_number (suc n) i j xs ys h =
    let here : slice_index xs i ≡ slice_index ys j = ap (slice_index xs) (omega arith) ∙ h 0 (omega arith) ∙ ap (slice_index ys) (omega arith) in
    let rest = same_number n (suc i) (suc j) xs ys (λ k l. ap (slice_index xs) {x = suc i + k} {y = i + suc k} (omega arith) ∙ h (suc k) (omega arith) ∙ ap (slice_index ys) {x = j + suc k} {y = suc j + k} (omega arith)) in
    rw (here, rest) refl

-- the bytes of numbers, one after the other, are read as these numbers
pub bytes_read_back : (xs : List ℕ) (i : ℕ) → i < length xs → ((k : ℕ) → slice_index xs k < 2 ^ 64) → big_from (8 * i) 8 (flat_map (big_bytes 8) xs) ≡ slice_index xs i
bytes_read_back [] i h f = absurd (omega arith)
bytes_read_back (x ∷ xs) zero h f = big_number-reads_back 8 x (flat_map (big_bytes 8) xs) (f 0)
bytes_read_back (x ∷ xs) (suc i) h f =
    same_number 8 (8 * suc i) (8 * i) (big_bytes 8 x ++ flat_map (big_bytes 8) xs) (flat_map (big_bytes 8) xs)
    (λ k l. ap (slice_index (big_bytes 8 x ++ flat_map (big_bytes 8) xs)) {x = 8 * suc i + k} {y = length (big_bytes 8 x) + (8 * i + k)} (omega (arith, length-bytes_high_first 8 x))
    ∙ get_or-append-add (big_bytes 8 x) (flat_map (big_bytes 8) xs) (8 * i + k) 0)
    ∙ bytes_read_back xs i (omega arith) (λ k. f (suc k))

at_place : (p q : ℕ) (bytes : List ℕ) → p ≡ q → big_from p 8 bytes ≡ big_from q 8 bytes
at_place p q bytes e = ap (λ (i : ℕ). big_from i 8 bytes) e

pub numbers_are : (n at : ℕ) (bytes xs : List ℕ) → length xs ≡ n → ((i : ℕ) → i < n → slice_index xs i ≡ big_from (at + 8 * i) 8 bytes) → numbers_from n at bytes ≡ xs
unfolding numbers_from
numbers_are zero at bytes [] l h = refl
numbers_are zero at bytes (x ∷ xs) l h = absurd (omega (arith, l))
numbers_are (suc n) at bytes [] l h = absurd (omega (arith, l))
numbers_are (suc n) at bytes (x ∷ xs) l h =
    let head : big_from at 8 bytes ≡ x = at_place at (at + 8 * 0) bytes (omega arith) ∙ sym (h 0 (omega arith)) in
    let tail = numbers_are n (at + 8) bytes xs (omega (arith, l)) (λ i k. h (suc i) (omega arith) ∙ at_place (at + 8 * suc i) (at + 8 + 8 * i) bytes (omega arith)) in
    ap₂ (λ (a : ℕ) (rest : List ℕ). a ∷ rest) head tail

pub same_numbers : (n i j : ℕ) (xs ys : List ℕ) → ((k : ℕ) → k < 8 * n → slice_index xs (i + k) ≡ slice_index ys (j + k)) → numbers_from n i xs ≡ numbers_from n j ys
unfolding numbers_from
same_numbers zero i j xs ys h = refl
same_numbers (suc n) i j xs ys h =
    let head = same_number 8 i j xs ys (λ k l. h k (omega arith)) in
    let tail = same_numbers n (i + 8) (j + 8) xs ys (λ k l. ap (slice_index xs) {x = i + 8 + k} {y = i + (8 + k)} (omega arith) ∙ h (8 + k) (omega arith) ∙ ap (slice_index ys) {x = j + (8 + k)} {y = j + 8 + k} (omega arith)) in
    ap₂ (λ (a : ℕ) (rest : List ℕ). a ∷ rest) head tail

pub sector_get : (n i at : ℕ) (bytes : List ℕ) → i < n → slice_get (sectors_from n at bytes) i ≡ Some (numbers_from 30 (at + 240 * i) bytes)
unfolding sectors_from
sector_get zero i at bytes h = absurd (omega arith)
sector_get (suc n) zero at bytes h = ap (λ (p : ℕ). Some (numbers_from 30 p bytes)) {x = at} {y = at + 240 * 0} (omega arith)
sector_get (suc n) (suc i) at bytes h = sector_get n i (at + 240) bytes (omega arith) ∙ ap (λ (p : ℕ). Some (numbers_from 30 p bytes)) {x = at + 240 + 240 * i} {y = at + 240 * suc i} (omega arith)

pub count_sectors : (n at : ℕ) (bytes : List ℕ) → length (sectors_from n at bytes) ≡ n
unfolding sectors_from
count_sectors zero at bytes = refl
count_sectors (suc n) at bytes = let rest = count_sectors n (at + 240) bytes in omega (arith, rest)

-- what is told is the sectors of a file of the full length
pub told_split : (told : Option (List ℕ)) (all : List (List ℕ)) → told_sectors told ≡ Some all → (bytes : List ℕ) × (told ≡ Some bytes) × (length bytes ≡ 15728640) × (all ≡ sectors_from 65536 0 bytes)
unfolding told_sectors
told_split told all e = grind arith

pub told_join : (bytes : List ℕ) → length bytes ≡ 15728640 → told_sectors (Some bytes) ≡ Some (sectors_from 65536 0 bytes)
unfolding told_sectors
told_join bytes l = cond-true (length bytes == 15728640) _ _ (eq-eqb (length bytes) 15728640 l)

-- the bytes of a sector that were read are its numbers
pub sector_read : (told : Option (List ℕ)) (n : ℕ) (part xs : List ℕ) → 1 ≤ n → n ≤ 65536 → length part ≡ 240 → length xs ≡ 30
    → ((bytes : List ℕ) → told ≡ Some bytes → LiesAt (240 * (n - 1)) part bytes) → IsRead big_number 8 part xs
    → (all : List (List ℕ)) → told_sectors told ≡ Some all → slice_get all (n - 1) ≡ Some xs
sector_read told n part xs low high lp lx lies reads all e = grind (arith, told_split, get_or-drop, numbers_are, sector_get)

-- the bytes of a sector that were written are its numbers
pub sector_written : (n : ℕ) (part xs new : List ℕ) → 1 ≤ n → n ≤ 65536 → length part ≡ 240 → length xs ≡ 30
    → LiesAt (240 * (n - 1)) part new → ((i : ℕ) → i < 30 → big_from (8 * i) 8 part ≡ slice_index xs i)
    → slice_get (sectors_from 65536 0 new) (n - 1) ≡ Some xs
sector_written n part xs new low high lp lx at is = grind (arith, numbers_are, sector_get)

-- other sectors hold what they held
pub sectors_same : (n : ℕ) (old new : List ℕ) → 1 ≤ n → SameBytesBut (240 * (n - 1)) 240 old new → SameBut (n ∷ []) (sectors_from 65536 0 old) (sectors_from 65536 0 new)
sectors_same n old new low same = record {
  count = count_sectors 65536 0 new ∙ sym (count_sectors 65536 0 old);
  others = λ m l z. ⊎_elim
      (λ h. sector_get 65536 (m - 1) 0 new h ∙ ap Some (same_numbers 30 (0 + 240 * (m - 1)) (0 + 240 * (m - 1)) new old (λ k b. same.others (0 + 240 * (m - 1) + k) (apart m k l (times-cons m n [] z).0 b))) ∙ sym (sector_get 65536 (m - 1) 0 old h))
      (λ h. slice_get_past (sectors_from 65536 0 new) (m - 1) (omega (arith, count_sectors 65536 0 new, h)) ∙ sym (slice_get_past (sectors_from 65536 0 old) (m - 1) (omega (arith, count_sectors 65536 0 old, h))))
      (cases_lt (m - 1) 65536);
} where
  apart : (m k : ℕ) → 1 ≤ m → m ≢ n → k < 8 * 30 → (0 + 240 * (m - 1) + k < 240 * (n - 1)) ⊎ (240 * (n - 1) + 240 ≤ 0 + 240 * (m - 1) + k)
  apart m k l ne b = ⊎_elim (λ h. inl (omega arith)) (λ h. inr (omega arith)) (cases_lt m n)

-- an empty file that was filled up, or couldn't be
pub filled_kept : {D U E : Type 0} (tell : D → Option (List ℕ)) (old new : D) (result : Result U E) → Tells tell old (λ all. length all ≡ 0)
    → OnOk result (Becomes tell old new (of_length 15728640)) → OnErr result (Becomes tell old new (λ all. all)) → Changes tell old new KeepsBytes
filled_kept tell old new (Ok u) empty set same = record { told = λ x e. (of_length 15728640 x, set.told x e, record { kept = λ h. absurd (h (empty.told x e)) }) }
filled_kept tell old new (Err x) empty set same = record { told = λ x e. (x, same.told x e, record { kept = λ h. refl }) }

pub on_ok : {U E : Type 0} {P Q : Type 0} (result : Result U E) → OnOk result P → (P → Q) → OnOk result Q
on_ok result p f = grind arith

-- the same of a file that may be missing
pub told_of_some : {D U E : Type 0} {P : List (List ℕ) → Type 0} (tell : D → Option (List ℕ)) (old : Option D) (file : D) (result : Result U E) (done : Bool) → old ≡ Some file → done ≡ is_ok result
    → OnOk result (Tells (λ d. told_sectors (tell d)) file P) → IsTrue done → Tells (file_sectors tell) old P
unfolding file_sectors
told_of_some {P = P} tell old file (Ok u) done is ok t was = record { told = λ all e. t.told all (ap (file_sectors tell) (sym is) ∙ e) }
told_of_some tell old file (Err x) done is ok t was = absurd (true≢false (sym was ∙ ok))

pub becomes_of_some : {D : Type 0} (tell : D → Option (List ℕ)) (old : Option D) (file new : D) → old ≡ Some file
    → Becomes tell file new (λ all. all) → Becomes (file_sectors tell) old (Some new) (λ all. all)
unfolding file_sectors
becomes_of_some tell old file new is b = grind (arith, told_split)

pub changes_of_some : {D : Type 0} {R : List (List ℕ) → List (List ℕ) → Type 0} (tell : D → Option (List ℕ)) (old : Option D) (file new : D) → old ≡ Some file
    → Changes (λ d. told_sectors (tell d)) file new R → Changes (file_sectors tell) old (Some new) R
unfolding file_sectors
changes_of_some tell old file new is c = record { told = λ all e. c.told all (ap (file_sectors tell) (sym is) ∙ e) }

pub if_done : {U E P Q : Type 0} (result : Result U E) (done : Bool) → done ≡ is_ok result → OnOk result P → (P → Q) → IsTrue done → Q
if_done result done ok p f was = grind arith

-- a write to a sector of a file of the full length
pub sector_puts : {D : Type 0} (tell : D → Option (List ℕ)) (old new : D) (n : ℕ) (part xs : List ℕ) → 1 ≤ n → n ≤ 65536 → length part ≡ 240 → length xs ≡ 30
    → Changes tell old new (Overwrites (240 * (n - 1)) (length part)) → Changes tell old new (Puts (240 * (n - 1)) part) → ((i : ℕ) → i < 30 → big_from (8 * i) 8 part ≡ slice_index xs i)
    → Changes (λ d. told_sectors (tell d)) old new (Sets n xs)
sector_puts tell old new n part xs low high lp lx over puts is = record {
  told = λ all e.
      let (bytes, t, l, all_is) = told_split (tell old) all e in
      let (after, u, o) = over.told bytes t in
      let (after2, v, p) = puts.told bytes t in
      let one : after2 ≡ after = same_Some after2 after (sym v ∙ u) in
      let same = o.within (omega (arith, l, lp)) in
      let at : LiesAt (240 * (n - 1)) part after = subst (λ (b : List ℕ). LiesAt (240 * (n - 1)) part b) one (p.within (omega (arith, l, lp))) in
      let but : SameBytesBut (240 * (n - 1)) 240 bytes after = subst (λ (k : ℕ). SameBytesBut (240 * (n - 1)) k bytes after) lp same in (
        sectors_from 65536 0 after,
        ap told_sectors u ∙ told_join after (omega (arith, same.count, l)),
        record { same = subst (λ (a : List (List ℕ)). SameBut (n ∷ []) a (sectors_from 65536 0 after)) (sym all_is) (sectors_same n bytes after low but); set = sector_written n part xs after low high lp lx at is },
      );
}

pub sector_leaves : {D : Type 0} (tell : D → Option (List ℕ)) (old new : D) (n : ℕ) (part : List ℕ) → 1 ≤ n → n ≤ 65536 → length part ≡ 240
    → Changes tell old new (Overwrites (240 * (n - 1)) (length part)) → Changes (λ d. told_sectors (tell d)) old new (SameBut (n ∷ []))
sector_leaves tell old new n part low high lp over = record {
  told = λ all e.
      let (bytes, t, l, all_is) = told_split (tell old) all e in
      let (after, u, o) = over.told bytes t in
      let same = o.within (omega (arith, l, lp)) in
      let but : SameBytesBut (240 * (n - 1)) 240 bytes after = subst (λ (k : ℕ). SameBytesBut (240 * (n - 1)) k bytes after) lp same in (
        sectors_from 65536 0 after,
        ap told_sectors u ∙ told_join after (omega (arith, same.count, l)),
        subst (λ (a : List (List ℕ)). SameBut (n ∷ []) a (sectors_from 65536 0 after)) (sym all_is) (sectors_same n bytes after low but),
      );
}

-- a file of the full length that tells its bytes tells its sectors
pub opened_tells : {D E : Type 0} (tell : D → Option (List ℕ)) (result : Result D E) → IfOk result (λ d. Tells tell d (λ bytes. length bytes ≡ 15728640))
    → IfSome (result_ok result) (λ d. Tells tell d (λ bytes. file_sectors tell (result_ok result) ≡ Some (sectors_from 65536 0 bytes)))
unfolding file_sectors
opened_tells tell result t = grind (arith, told_join)
