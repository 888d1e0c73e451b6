-- Cards of 32 bytes, 64 at once, as bytes come one after the other.
use Rattle.std.proofs.Common.{◌≡◌, ℕ, zero, suc, ◌+◌, ◌*◌, ◌-◌, ◌/◌, ◌<◌, ◌≤◌, List, [], ◌∷◌, ◌++◌, length, map, take, drop, get_or, Ok, Err, refl, sym, ap, subst, ◌∙◌, append-nil, append_assoc, length-append, length-drop, arith}
use Rattle.std.specs.Prelude.{Option, Result, ⊤, OnOk, OnErr}
use Rattle.std.specs.List.{flat_map, range_with_len}
use Rattle.std.specs.Result.{IsErr}
use Rattle.std.proofs.Math.Seq.{take-append-add, take-add}
use Rattle.std.proofs.lemmas.Grind.{flat_map-append}
use Rattle.std.proofs.lemmas.List.Concat.{flat_map-cons}
use Rattle.std.proofs.lemmas.List.{take_all, drop_all, drop-drop, take-append-le, drop-append-le, take-append-drop, length-take, get_or-take, get_or-drop}
use Rattle.std.proofs.lemmas.List.FromFn.{map-range_with_len_more}
use Rattle.b67_word.specs.declared.faults.Failed.{Failed}
use Rattle.b67_io.specs.Line.{ended}
use Rattle.b67_io.specs.Told.{Took, TookPart}
use Rattle.b67_io.proofs.Joined.{Took-none, Took-then}
use Rattle.b67_model_text.specs.Hex.{hex_text}
use Rattle.b67_image.specs.Text.{card_lines}
use Rattle.b67_image.specs.Punching.{first_cards, full_cards, left_over, Punched}

-- one text, and then a part of another
pub TookPart-then : {K : Type 0} {taken : K → Option (List ℕ)} {a b c : K} {x y : List ℕ} → Took taken a b x → TookPart taken b c y → TookPart taken a c (x ++ y)
TookPart-then {taken = taken} {a = a} {c = c} {x = x} {y = y} p q = record {
  count = length x + q.count;
  proper = let proper = q.proper in rw (length-append x y) (omega arith);
  first = subst (Took taken a c) (sym (take-append-add x y q.count)) (Took-then p q.first);
}

-- one card more
card_more : (bytes : List ℕ) (n : ℕ) → first_cards bytes (n + 1) ≡ first_cards bytes n ++ ended (hex_text (take 32 (drop (32 * n) bytes)))
card_more bytes n =
    let f : ℕ → List ℕ = λ i. hex_text (take 32 (drop (32 * i) bytes)) in
    ap (flat_map ended) (map-range_with_len_more f 0 n n (omega arith))
    ∙ flat_map-append ended (map f (range_with_len 0 n)) (f n ∷ [])
    ∙ ap (λ (more : List ℕ). first_cards bytes n ++ more) (append-nil (ended (f n)))

-- the first cards of bytes are not changed by more bytes
cards_front : (xs ys : List ℕ) (n : ℕ) → 32 * n ≤ length xs → first_cards (xs ++ ys) n ≡ first_cards xs n
cards_front xs ys zero le = refl
cards_front xs ys (suc n) le =
    let e : suc n ≡ n + 1 = omega arith in
    let piece : take 32 (drop (32 * n) (xs ++ ys)) ≡ take 32 (drop (32 * n) xs) =
    ap (take 32) (drop-append-le (32 * n) xs ys (omega arith)) ∙ take-append-le 32 (drop (32 * n) xs) ys (omega (arith, length-drop (32 * n) xs)) in
    ap (first_cards (xs ++ ys)) e
    ∙ card_more (xs ++ ys) n
    ∙ ap (λ (front : List ℕ). front ++ ended (hex_text (take 32 (drop (32 * n) (xs ++ ys))))) (cards_front xs ys n (omega arith))
    ∙ ap (λ (bytes : List ℕ). first_cards xs n ++ ended (hex_text bytes)) piece
    ∙ sym (card_more xs n)
    ∙ ap (first_cards xs) (sym e)

-- cards, and the cards behind them
pub cards_part : (bytes : List ℕ) (m n : ℕ) → first_cards bytes (m + n) ≡ first_cards bytes m ++ first_cards (drop (32 * m) bytes) n
cards_part bytes m zero = let e : m + 0 ≡ m = omega arith in ap (first_cards bytes) e ∙ sym (append-nil (first_cards bytes m))
cards_part bytes m (suc n) =
    let e : m + suc n ≡ (m + n) + 1 = omega arith in
    let f : suc n ≡ n + 1 = omega arith in
    let at : 32 * m + 32 * n ≡ 32 * (m + n) = omega arith in
    let piece : take 32 (drop (32 * (m + n)) bytes) ≡ take 32 (drop (32 * n) (drop (32 * m) bytes)) = ap (take 32) (sym (drop-drop (32 * n) (32 * m) bytes ∙ ap (λ (k : ℕ). drop k bytes) at)) in
    ap (first_cards bytes) e
    ∙ card_more bytes (m + n)
    ∙ ap (λ (front : List ℕ). front ++ ended (hex_text (take 32 (drop (32 * (m + n)) bytes)))) (cards_part bytes m n)
    ∙ append_assoc (first_cards bytes m) (first_cards (drop (32 * m) bytes) n) (ended (hex_text (take 32 (drop (32 * (m + n)) bytes))))
    ∙ ap (λ (piece : List ℕ). first_cards bytes m ++ (first_cards (drop (32 * m) bytes) n ++ ended (hex_text piece))) piece
    ∙ ap (λ (more : List ℕ). first_cards bytes m ++ more) (sym (card_more (drop (32 * m) bytes) n))
    ∙ ap (λ (k : ℕ). first_cards bytes m ++ first_cards (drop (32 * m) bytes) k) (sym f)

-- few bytes fill nothing, and 2,048 fill 64 cards
pub full_none : (xs : List ℕ) → length xs < 2048 → full_cards xs ≡ []
unfolding full_cards
full_none xs lt = let z : length xs / 2048 ≡ 0 = omega arith in rw z refl

pub left_none : (xs : List ℕ) → length xs < 2048 → left_over xs ≡ xs
unfolding left_over
left_none xs lt = let z : length xs / 2048 ≡ 0 = omega arith in rw z refl

pub full_one : (xs : List ℕ) → length xs ≡ 2048 → full_cards xs ≡ card_lines xs
unfolding full_cards
full_one xs len = let same : 64 * (length xs / 2048) ≡ (length xs + 31) / 32 = omega arith in ap (first_cards xs) same

pub left_one : (xs : List ℕ) → length xs ≡ 2048 → left_over xs ≡ []
unfolding left_over
left_one xs len = let one : length xs / 2048 ≡ 1 = omega arith in rw one (drop_all 2048 xs (omega arith))

-- the bytes behind the first 64 cards, so many times
behind_cards : (xs : List ℕ) (m : ℕ) → drop (32 * (64 * m)) xs ≡ drop (2048 * m) xs
behind_cards xs m = let at : 32 * (64 * m) ≡ 2048 * m = omega arith in ap (λ (n : ℕ). drop n xs) at

-- more bytes
pub full_then : (xs ys : List ℕ) → full_cards (xs ++ ys) ≡ full_cards xs ++ full_cards (left_over xs ++ ys)
unfolding full_cards left_over
full_then xs ys =
    let m : ℕ = length xs / 2048 in
    let rest : List ℕ = drop (2048 * m) xs ++ ys in
    let count : 64 * (length (xs ++ ys) / 2048) ≡ 64 * m + 64 * (length rest / 2048) = omega (arith, length-append xs ys, length-append (drop (2048 * m) xs) ys, length-drop (2048 * m) xs) in
    ap (first_cards (xs ++ ys)) count
    ∙ cards_part (xs ++ ys) (64 * m) (64 * (length rest / 2048))
    ∙ ap (λ (front : List ℕ). front ++ first_cards (drop (32 * (64 * m)) (xs ++ ys)) (64 * (length rest / 2048))) (cards_front xs ys (64 * m) (omega arith))
    ∙ ap (λ (bytes : List ℕ). first_cards xs (64 * m) ++ first_cards bytes (64 * (length rest / 2048))) (behind_cards (xs ++ ys) m ∙ drop-append-le (2048 * m) xs ys (omega arith))

pub left_then : (xs ys : List ℕ) → left_over (xs ++ ys) ≡ left_over (left_over xs ++ ys)
unfolding left_over
left_then xs ys =
    let m : ℕ = length xs / 2048 in
    let behind : drop (2048 * m) (xs ++ ys) ≡ drop (2048 * m) xs ++ ys = drop-append-le (2048 * m) xs ys (omega arith) in
    let k : ℕ = length (drop (2048 * m) xs ++ ys) / 2048 in
    let at : 2048 * (length (xs ++ ys) / 2048) ≡ 2048 * m + 2048 * k = omega (arith, length-append xs ys, length-append (drop (2048 * m) xs) ys, length-drop (2048 * m) xs) in
    ap (λ (n : ℕ). drop n (xs ++ ys)) at ∙ sym (drop-drop (2048 * k) (2048 * m) (xs ++ ys)) ∙ ap (drop (2048 * k)) behind

-- all cards
pub cards_are : (bytes : List ℕ) → card_lines bytes ≡ full_cards bytes ++ card_lines (left_over bytes)
unfolding full_cards left_over
cards_are bytes =
    let m : ℕ = length bytes / 2048 in
    let rest : List ℕ = drop (2048 * m) bytes in
    let count : (length bytes + 31) / 32 ≡ 64 * m + (length rest + 31) / 32 = omega (arith, length-drop (2048 * m) bytes) in
    ap (first_cards bytes) count
    ∙ cards_part bytes (64 * m) ((length rest + 31) / 32)
    ∙ ap (λ (left : List ℕ). first_cards bytes (64 * m) ++ first_cards left ((length rest + 31) / 32)) (behind_cards bytes m)

-- the first card of some bytes, and those of the others
pub card_then : (bytes : List ℕ) → 0 < length bytes → card_lines bytes ≡ ended (hex_text (take 32 bytes)) ++ card_lines (drop 32 bytes)
card_then bytes some =
    let n : ℕ = (length (drop 32 bytes) + 31) / 32 in
    let count : (length bytes + 31) / 32 ≡ 1 + n = omega (arith, length-drop 32 bytes) in
    ap (first_cards bytes) count ∙ cards_part bytes 1 n ∙ ap (λ (front : List ℕ). front ++ first_cards (drop 32 bytes) n) (card_more bytes 0)

-- ---- what is printed

-- a part of a text is a part of a longer one
pub TookPart-longer : {K : Type 0} {taken : K → Option (List ℕ)} {a b : K} (x y : List ℕ) → TookPart taken a b x → TookPart taken a b (x ++ y)
TookPart-longer {taken = taken} {a = a} {b = b} x y p = record {
  count = p.count;
  proper = let lt = p.proper in omega (arith, length-append x y);
  first = subst (Took taken a b) (sym (take-append-le p.count x y (let lt = p.proper in omega arith))) p.first;
}

pub punched_none : {K : Type 0} (taken : K → Option (List ℕ)) (now : K) (hand : List ℕ) → length hand < 2048 → Punched taken now now hand hand (Ok tt) []
punched_none taken now hand lt =
    let e : hand ++ [] ≡ hand = append-nil hand in
    (sym (ap left_over e ∙ left_none hand lt), subst (Took taken now now) (sym (ap full_cards e ∙ full_none hand lt)) (Took-none taken now))

-- bytes, and then more of them
pub punched_then : {K : Type 0} (taken : K → Option (List ℕ)) (a b c : K) (hand mid now : List ℕ) (r : Result ⊤ Failed) (x y : List ℕ) → Punched taken a b hand mid (Ok tt) x → Punched taken b c mid now r y → Punched taken a c hand now r (x ++ y)
punched_then taken a b c hand mid now (Ok done) x y p q =
    let cut : hand ++ (x ++ y) ≡ (hand ++ x) ++ y = sym (append_assoc hand x y) in
    let left : left_over (hand ++ (x ++ y)) ≡ left_over (mid ++ y) = ap left_over cut ∙ left_then (hand ++ x) y ∙ ap (λ (h : List ℕ). left_over (h ++ y)) (sym p.0) in
    let full : full_cards (hand ++ (x ++ y)) ≡ full_cards (hand ++ x) ++ full_cards (mid ++ y) = ap full_cards cut ∙ full_then (hand ++ x) y ∙ ap (λ (h : List ℕ). full_cards (hand ++ x) ++ full_cards (h ++ y)) (sym p.0) in
    (q.0 ∙ sym left, subst (Took taken a c) (sym full) (Took-then p.1 q.1))
punched_then taken a b c hand mid now (Err failed) x y p q =
    let cut : hand ++ (x ++ y) ≡ (hand ++ x) ++ y = sym (append_assoc hand x y) in
    let full : full_cards (hand ++ (x ++ y)) ≡ full_cards (hand ++ x) ++ full_cards (mid ++ y) = ap full_cards cut ∙ full_then (hand ++ x) y ∙ ap (λ (h : List ℕ). full_cards (hand ++ x) ++ full_cards (h ++ y)) (sym p.0) in
    subst (TookPart taken a c) (sym full) (TookPart-then p.1 q)

-- a failure within the first of two
pub punched_stop : {K : Type 0} (taken : K → Option (List ℕ)) (a b : K) (hand now : List ℕ) (r : Result ⊤ Failed) (x y more : List ℕ) → IsErr r → y ≡ x → TookPart taken a b (full_cards (hand ++ y)) → Punched taken a b hand now r (x ++ more)
punched_stop taken a b hand now (Ok done) x y more is same p = absurd (let z : ⊥ = cc in z)
punched_stop taken a b hand now (Err e) x y more is same p =
    let cut : hand ++ (x ++ more) ≡ (hand ++ x) ++ more = sym (append_assoc hand x more) in
    let full : full_cards (hand ++ (x ++ more)) ≡ full_cards (hand ++ x) ++ full_cards (left_over (hand ++ x) ++ more) = ap full_cards cut ∙ full_then (hand ++ x) more in
    let part : TookPart taken a b (full_cards (hand ++ x)) = subst (λ (bytes : List ℕ). TookPart taken a b (full_cards (hand ++ bytes))) same p in
    subst (TookPart taken a b) (sym full) (TookPart-longer (full_cards (hand ++ x)) (full_cards (left_over (hand ++ x) ++ more)) part)

-- the same bytes in other words
pub punched_is : {K : Type 0} (taken : K → Option (List ℕ)) (a b : K) (hand now : List ℕ) (r : Result ⊤ Failed) (x y : List ℕ) → x ≡ y → Punched taken a b hand now r x → Punched taken a b hand now r y
punched_is taken a b hand now r x y e p = subst (λ (bytes : List ℕ). Punched taken a b hand now r bytes) e p

-- ---- items of a list

-- a turn takes one item off those that are left
pub item_at : {X : Type 0} (f : X → List ℕ) (xs : List X) (d : X) (i : ℕ) → i < length xs → flat_map f (take (i + 1) xs) ≡ flat_map f (take i xs) ++ f (get_or xs i d)
item_at f [] d i lt = absurd (omega arith)
item_at f (x ∷ xs) d zero lt = flat_map-cons f x [] ∙ append-nil (f x)
item_at f (x ∷ xs) d (suc i) lt =
    let e : suc i + 1 ≡ suc (i + 1) = omega arith in
    rw e (flat_map-cons f x (take (i + 1) xs) ∙ ap (λ (t : List ℕ). f x ++ t) (item_at f xs d i (omega arith)) ∙ sym (append_assoc (f x) (flat_map f (take i xs)) (f (get_or xs i d))) ∙ ap (λ (t : List ℕ). t ++ f (get_or xs i d)) (sym (flat_map-cons f x (take i xs))))

-- the items are those before, that one, and those behind
pub items_are : {X : Type 0} (f : X → List ℕ) (xs : List X) (i : ℕ) → flat_map f (take i xs) ++ flat_map f (drop i xs) ≡ flat_map f xs
items_are f xs i = sym (flat_map-append f (take i xs) (drop i xs)) ∙ ap (flat_map f) (take-append-drop i xs)

-- ---- what a hand does

pub punched_byte : {K : Type 0} (taken : K → Option (List ℕ)) (now : K) (hand : List ℕ) (b : ℕ) → length hand < 2047 → Punched taken now now hand (hand ++ b ∷ []) (Ok tt) (b ∷ [])
punched_byte taken now hand b lt =
    let short : length (hand ++ b ∷ []) < 2048 = omega (arith, length-append hand (b ∷ [])) in
    (sym (left_none (hand ++ b ∷ []) short), subst (Took taken now now) (sym (full_none (hand ++ b ∷ []) short)) (Took-none taken now))

pub punched_full : {K : Type 0} (taken : K → Option (List ℕ)) (old new : K) (hand : List ℕ) (b : ℕ) (text : List ℕ) (r : Result ⊤ Failed) → length hand ≡ 2047 → text ≡ card_lines (hand ++ b ∷ [])
    → OnOk r (Took taken old new text) → OnErr r (TookPart taken old new text) → Punched taken old new hand [] r (b ∷ [])
punched_full taken old new hand b text (Ok done) len is whole part =
    let full : length (hand ++ b ∷ []) ≡ 2048 = omega (arith, length-append hand (b ∷ [])) in
    (sym (left_one (hand ++ b ∷ []) full), subst (Took taken old new) (is ∙ sym (full_one (hand ++ b ∷ []) full)) whole)
punched_full taken old new hand b text (Err failed) len is whole part =
    let full : length (hand ++ b ∷ []) ≡ 2048 = omega (arith, length-append hand (b ∷ [])) in
    subst (TookPart taken old new) (is ∙ sym (full_one (hand ++ b ∷ []) full)) part

-- one byte after the other
pub one_on : (xs : List ℕ) (i : ℕ) → i < length xs → take (i + 1) xs ≡ take i xs ++ get_or xs i 0 ∷ []
one_on [] i lt = absurd (omega arith)
one_on (x ∷ xs) zero lt = refl
one_on (x ∷ xs) (suc i) lt = let e : suc i + 1 ≡ suc (i + 1) = omega arith in ap (λ (n : ℕ). take n (x ∷ xs)) e ∙ ap (λ (ys : List ℕ). x ∷ ys) (one_on xs i (omega arith))

pub byte_on : {K : Type 0} (taken : K → Option (List ℕ)) (a b c : K) (hand mid now xs : List ℕ) (i : ℕ) → i < length xs → Punched taken a b hand mid (Ok tt) (take i xs) → Punched taken b c mid now (Ok tt) (get_or xs i 0 ∷ [])
    → Punched taken a c hand now (Ok tt) (take (i + 1) xs)
byte_on taken a b c hand mid now xs i lt p q =
    subst (λ (ys : List ℕ). Punched taken a c hand now (Ok tt) ys) (sym (one_on xs i lt)) (punched_then taken a b c hand mid now (Ok tt) (take i xs) (get_or xs i 0 ∷ []) p q)

pub byte_stop : {K : Type 0} (taken : K → Option (List ℕ)) (a b c : K) (hand mid now xs : List ℕ) (i : ℕ) (r : Result ⊤ Failed) → IsErr r → i < length xs → Punched taken a b hand mid (Ok tt) (take i xs) → TookPart taken b c (full_cards (mid ++ get_or xs i 0 ∷ []))
    → Punched taken a c hand now r xs
byte_stop taken a b c hand mid now xs i (Ok done) is lt p q = absurd (let z : ⊥ = cc in z)
byte_stop taken a b c hand mid now xs i (Err e) is lt p q =
    let front : Punched taken a c hand now (Err e) (take (i + 1) xs) = subst (λ (ys : List ℕ). Punched taken a c hand now (Err e) ys) (sym (one_on xs i lt)) (punched_then taken a b c hand mid now (Err e) (take i xs) (get_or xs i 0 ∷ []) p q) in
    subst (λ (ys : List ℕ). Punched taken a c hand now (Err e) ys) (take-append-drop (i + 1) xs) (punched_stop taken a c hand now (Err e) (take (i + 1) xs) (take (i + 1) xs) (drop (i + 1) xs) refl refl front)

pub bytes_end : {K : Type 0} (taken : K → Option (List ℕ)) (a b : K) (hand now xs : List ℕ) (i : ℕ) → length xs ≤ i → Punched taken a b hand now (Ok tt) (take i xs) → Punched taken a b hand now (Ok tt) xs
bytes_end taken a b hand now xs i le p = subst (λ (ys : List ℕ). Punched taken a b hand now (Ok tt) ys) (take_all i xs le) p

-- one item after the other, behind a head
pub item_on : {X : Type 0} {K : Type 0} (f : X → List ℕ) (taken : K → Option (List ℕ)) (a b c : K) (hand mid now head : List ℕ) (xs : List X) (d : X) (i : ℕ) → i < length xs
    → Punched taken a b hand mid (Ok tt) (head ++ flat_map f (take i xs)) → Punched taken b c mid now (Ok tt) (f (get_or xs i d)) → Punched taken a c hand now (Ok tt) (head ++ flat_map f (take (i + 1) xs))
item_on f taken a b c hand mid now head xs d i lt p q =
    let e : (head ++ flat_map f (take i xs)) ++ f (get_or xs i d) ≡ head ++ flat_map f (take (i + 1) xs) = append_assoc head (flat_map f (take i xs)) (f (get_or xs i d)) ∙ ap (λ (t : List ℕ). head ++ t) (sym (item_at f xs d i lt)) in
    subst (λ (ys : List ℕ). Punched taken a c hand now (Ok tt) ys) e (punched_then taken a b c hand mid now (Ok tt) (head ++ flat_map f (take i xs)) (f (get_or xs i d)) p q)

pub item_stop : {X : Type 0} {K : Type 0} (f : X → List ℕ) (taken : K → Option (List ℕ)) (a b c : K) (hand mid now head : List ℕ) (xs : List X) (d : X) (i : ℕ) (r : Result ⊤ Failed) (y : List ℕ) → IsErr r → y ≡ f (get_or xs i d) → i < length xs
    → Punched taken a b hand mid (Ok tt) (head ++ flat_map f (take i xs)) → TookPart taken b c (full_cards (mid ++ y)) → Punched taken a c hand now r (head ++ flat_map f xs)
item_stop f taken a b c hand mid now head xs d i (Ok done) y is same lt p q = absurd (let z : ⊥ = cc in z)
item_stop f taken a b c hand mid now head xs d i (Err e) y is same lt p q =
    let one : (head ++ flat_map f (take i xs)) ++ f (get_or xs i d) ≡ head ++ flat_map f (take (i + 1) xs) = append_assoc head (flat_map f (take i xs)) (f (get_or xs i d)) ∙ ap (λ (t : List ℕ). head ++ t) (sym (item_at f xs d i lt)) in
    let item : Punched taken b c mid now (Err e) (f (get_or xs i d)) = punched_is taken b c mid now (Err e) y (f (get_or xs i d)) same q in
    let front = punched_stop taken a c hand now (Err e) (head ++ flat_map f (take (i + 1) xs)) (head ++ flat_map f (take (i + 1) xs)) (flat_map f (drop (i + 1) xs)) refl refl (subst (λ (ys : List ℕ). Punched taken a c hand now (Err e) ys) one (punched_then taken a b c hand mid now (Err e) (head ++ flat_map f (take i xs)) (f (get_or xs i d)) p item)) in
    subst (λ (ys : List ℕ). Punched taken a c hand now (Err e) ys) (append_assoc head (flat_map f (take (i + 1) xs)) (flat_map f (drop (i + 1) xs)) ∙ ap (λ (t : List ℕ). head ++ t) (items_are f xs (i + 1))) front

pub items_end : {X : Type 0} {K : Type 0} (f : X → List ℕ) (taken : K → Option (List ℕ)) (a b : K) (hand now head : List ℕ) (xs : List X) (i : ℕ) → length xs ≤ i
    → Punched taken a b hand now (Ok tt) (head ++ flat_map f (take i xs)) → Punched taken a b hand now (Ok tt) (head ++ flat_map f xs)
items_end {X} f taken a b hand now head xs i le p = subst (λ (ys : List X). Punched taken a b hand now (Ok tt) (head ++ flat_map f ys)) (take_all i xs le) p

-- so many items behind those before
pub window_length : (xs : List ℕ) (i m : ℕ) → i + m ≤ length xs → length (take m (drop i xs)) ≡ m
window_length xs i m le = omega (arith, le, length-take m (drop i xs), length-drop i xs)

pub window_at : (xs : List ℕ) (i m k : ℕ) → k < m → get_or (take m (drop i xs)) k 0 ≡ get_or xs (i + k) 0
window_at xs i m k lt = get_or-take m (drop i xs) k 0 lt ∙ get_or-drop i xs k 0

windows_are : {X : Type 0} (f : X → List ℕ) (head : List ℕ) (xs : List X) (i m : ℕ) → (head ++ flat_map f (take i xs)) ++ flat_map f (take m (drop i xs)) ≡ head ++ flat_map f (take (i + m) xs)
windows_are {X} f head xs i m =
    append_assoc head (flat_map f (take i xs)) (flat_map f (take m (drop i xs)))
    ∙ ap (λ (t : List ℕ). head ++ t) (sym (flat_map-append f (take i xs) (take m (drop i xs))) ∙ ap (λ (ys : List X). flat_map f ys) (sym (take-add i m xs)))

pub window_on : {X : Type 0} {K : Type 0} (f : X → List ℕ) (taken : K → Option (List ℕ)) (a b c : K) (hand mid now head : List ℕ) (xs : List X) (i m : ℕ)
    → Punched taken a b hand mid (Ok tt) (head ++ flat_map f (take i xs)) → Punched taken b c mid now (Ok tt) (flat_map f (take m (drop i xs))) → Punched taken a c hand now (Ok tt) (head ++ flat_map f (take (i + m) xs))
window_on f taken a b c hand mid now head xs i m p q =
    subst (λ (ys : List ℕ). Punched taken a c hand now (Ok tt) ys) (windows_are f head xs i m) (punched_then taken a b c hand mid now (Ok tt) (head ++ flat_map f (take i xs)) (flat_map f (take m (drop i xs))) p q)

pub window_stop : {X : Type 0} {K : Type 0} (f : X → List ℕ) (taken : K → Option (List ℕ)) (a b c : K) (hand mid now head : List ℕ) (xs : List X) (i m : ℕ) (r : Result ⊤ Failed) → IsErr r
    → Punched taken a b hand mid (Ok tt) (head ++ flat_map f (take i xs)) → TookPart taken b c (full_cards (mid ++ flat_map f (take m (drop i xs)))) → Punched taken a c hand now r (head ++ flat_map f xs)
window_stop f taken a b c hand mid now head xs i m (Ok done) is p q = absurd (let z : ⊥ = cc in z)
window_stop f taken a b c hand mid now head xs i m (Err e) is p q =
    let front : Punched taken a c hand now (Err e) (head ++ flat_map f (take (i + m) xs)) =
    subst (λ (ys : List ℕ). Punched taken a c hand now (Err e) ys) (windows_are f head xs i m) (punched_then taken a b c hand mid now (Err e) (head ++ flat_map f (take i xs)) (flat_map f (take m (drop i xs))) p q) in
    subst (λ (ys : List ℕ). Punched taken a c hand now (Err e) ys) (append_assoc head (flat_map f (take (i + m) xs)) (flat_map f (drop (i + m) xs)) ∙ ap (λ (t : List ℕ). head ++ t) (items_are f xs (i + m)))
    (punched_stop taken a c hand now (Err e) (head ++ flat_map f (take (i + m) xs)) (head ++ flat_map f (take (i + m) xs)) (flat_map f (drop (i + m) xs)) refl refl front)
