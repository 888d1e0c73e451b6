-- A printed image is read among other lines.
use Rattle.std.proofs.Common.{◌≡◌, ℕ, zero, suc, ◌+◌, ◌-◌, ◌≤◌, Bool, true, false, cond, not, List, [], ◌∷◌, ◌++◌, length, take, map, Option, Result, Ok, refl, sym, ap, subst, ◌∙◌, append_assoc, append-nil, arith}
use Rattle.std.specs.Prelude.{filter, nat_lt, ◌==◌}
use Rattle.std.specs.List.{slice_split, enumerate_from, onto_first, flat_map, suffix_len, AllByRecursion}
use Rattle.std.specs.Str.{bytes_eq}
use Rattle.std.specs.Str.Lines.{lines, lines_of_parts, strip_carriage_return}
use Rattle.std.proofs.lemmas.Bool.{ne_eqb, le-ltb}
use Rattle.std.proofs.lemmas.List.Concat.{flat_map-cons}
use Rattle.b67_io.specs.Line.{ended}
use Rattle.b67_model_text.specs.declared.card.Card.{Card}
use Rattle.b67_model_text.specs.Answers.{◌>>=◌}
use Rattle.b67_model_text.specs.Deck.{Refusal}
use Rattle.b67_model_text.specs.Cards.{card_of, is_empty, is_space, trimmed, cards}
use Rattle.b67_model_text.specs.Hex.{digit_bytes}
use Rattle.b67_model_text.proofs.Answers.{err-ok, after_both}
use Rattle.b67_card.proofs.Lines.{cards_from, is_newline}
use Rattle.b67_image.specs.Text.{limit, first_card, last_card, card_lines, image_text_of, refused_card, within_image_limit, found_from, is_digits, bytes_from, bytes_of}
use Rattle.b67_image.specs.Parts.{ImageParts}
use Rattle.b67_image.specs.Meaning.{parts_told, told_in}
use Rattle.b67_image.proofs.Again.{IsByte, text_again}
use Rattle.b67_promises.specs.Halts.{HasNoMark}

-- ---- lines of two texts

-- a text has a first part
some_part : (xs : List ℕ) → (y : List ℕ) × (more : List (List ℕ)) × (slice_split is_newline xs ≡ y ∷ more)
some_part [] = ([], [], refl)
some_part (x ∷ xs) = part_of (is_newline x)
  where
    onto : (ps : List (List ℕ)) → (y : List ℕ) × (more : List (List ℕ)) × (onto_first x ps ≡ y ∷ more)
    onto [] = (x ∷ [], [], refl)
    onto (p ∷ ps) = (x ∷ p, ps, refl)

    part_of : (b : Bool) → (y : List ℕ) × (more : List (List ℕ)) × (cond b ([] ∷ slice_split is_newline xs) (onto_first x (slice_split is_newline xs)) ≡ y ∷ more)
    part_of true = ([], slice_split is_newline xs, refl)
    part_of false = onto (slice_split is_newline xs)

split_line : (t rest : List ℕ) → HasNoMark t → slice_split is_newline (t ++ 10 ∷ rest) ≡ t ∷ slice_split is_newline rest
split_line [] rest p = refl
split_line (x ∷ t) rest p = grind (arith, split_line t rest p.1)

first_line : (t rest : List ℕ) → HasNoMark t → lines (ended t ++ rest) ≡ strip_carriage_return t ∷ lines rest
first_line t rest p =
    let s = some_part rest in
    ap lines (append_assoc t (10 ∷ []) rest)
    ∙ ap lines_of_parts (split_line t rest p ∙ ap (λ (ps : List (List ℕ)). t ∷ ps) s.2)
    ∙ ap (λ (ps : List (List ℕ)). strip_carriage_return t ∷ lines_of_parts ps) (sym s.2)

-- the parts of a text with an end of a line, with another one behind it and without
split_more : (z tail : List ℕ)
    → (p : List ℕ) × (ps : List (List ℕ)) × (slice_split is_newline (z ++ 10 ∷ tail) ≡ (p ∷ ps) ++ slice_split is_newline tail) × (slice_split is_newline (z ++ 10 ∷ []) ≡ (p ∷ ps) ++ [] ∷ [])
split_more [] tail = ([], [], refl, refl)
split_more (x ∷ z) tail = by (is_newline x) (split_more z tail)
  where
    by : (b : Bool)
        → ((p : List ℕ) × (ps : List (List ℕ)) × (slice_split is_newline (z ++ 10 ∷ tail) ≡ (p ∷ ps) ++ slice_split is_newline tail) × (slice_split is_newline (z ++ 10 ∷ []) ≡ (p ∷ ps) ++ [] ∷ []))
        → (p : List ℕ) × (ps : List (List ℕ))
        × (cond b ([] ∷ slice_split is_newline (z ++ 10 ∷ tail)) (onto_first x (slice_split is_newline (z ++ 10 ∷ tail))) ≡ (p ∷ ps) ++ slice_split is_newline tail)
        × (cond b ([] ∷ slice_split is_newline (z ++ 10 ∷ [])) (onto_first x (slice_split is_newline (z ++ 10 ∷ []))) ≡ (p ∷ ps) ++ [] ∷ [])
    by true h = ([], h.0 ∷ h.1, ap (λ (qs : List (List ℕ)). [] ∷ qs) h.2, ap (λ (qs : List (List ℕ)). [] ∷ qs) h.3)
    by false h = (x ∷ h.0, h.1, ap (onto_first x) h.2, ap (onto_first x) h.3)

parts_lines : (p : List ℕ) (ps : List (List ℕ)) (y : List ℕ) (more : List (List ℕ)) → lines_of_parts ((p ∷ ps) ++ y ∷ more) ≡ map strip_carriage_return (p ∷ ps) ++ lines_of_parts (y ∷ more)
parts_lines p [] y more = refl
parts_lines p (q ∷ ps) y more = ap (λ (ls : List (List ℕ)). strip_carriage_return p ∷ ls) (parts_lines q ps y more)

lines_behind : (z tail : List ℕ) → lines (z ++ 10 ∷ tail) ≡ lines (z ++ 10 ∷ []) ++ lines tail
lines_behind z tail =
    let h = split_more z tail in
    let s = some_part tail in
    grind (arith, parts_lines, append-nil)

-- ---- cards

-- the cards of lines, of which the first has this number
abbrev cards_at : ℕ → List (List ℕ) → List Card
cards_at n ls = filter (λ (c : Card). not (is_empty c.text)) (map card_of (enumerate_from n ls))

-- an image with these bytes is found among cards
abbrev pub Finds : List ℕ → ℕ → List Card → Type 0
Finds bytes last cs = (f : ℕ × List Card) × (found_from last cs ≡ Ok f) × (bytes_from f.0 f.1 ≡ Ok bytes)

abbrev numbered : ℕ → List ℕ → Card
numbered n t = record { number = n; text = t }

-- the bytes are those of the texts, whatever the numbers and what stands behind them
bytes_again : (ls more : List (List ℕ)) (n m last last' : ℕ) (bytes : List ℕ) → bytes_from last (cards_at n ls) ≡ Ok bytes → bytes_from last' (cards_at m (ls ++ more)) ≡ Ok bytes
unfolding bytes_from
bytes_again [] more n m last last' bytes e = err-ok _ bytes _ e
bytes_again (l ∷ ls) more n m last last' bytes e = by_empty (λ a b c h. bytes_again ls more (n + 1) (m + 1) a b c h) (is_empty (trimmed l)) (trimmed l) e
  where
    by_digits : ((c : List ℕ) → bytes_from n (cards_at (n + 1) ls) ≡ Ok c → bytes_from m (cards_at (m + 1) (ls ++ more)) ≡ Ok c) → (x : List ℕ) (d : Bool)
        → cond d (bytes_from n (cards_at (n + 1) ls) >>= λ (b : List ℕ). Ok (digit_bytes x ++ b)) (refused_card n 2) ≡ Ok bytes
        → cond d (bytes_from m (cards_at (m + 1) (ls ++ more)) >>= λ (b : List ℕ). Ok (digit_bytes x ++ b)) (refused_card m 2) ≡ Ok bytes
    by_digits next x true e =
        let h = after_both (bytes_from n (cards_at (n + 1) ls)) (λ (b : List ℕ). Ok (digit_bytes x ++ b)) bytes e in
        rw (next h.0 h.1) h.2
    by_digits next x false e = err-ok _ bytes _ e

    by_end : ((c : List ℕ) → bytes_from n (cards_at (n + 1) ls) ≡ Ok c → bytes_from m (cards_at (m + 1) (ls ++ more)) ≡ Ok c) → (x : List ℕ) (c : Bool)
        → cond c (Ok []) (cond (is_digits x) (bytes_from n (cards_at (n + 1) ls) >>= λ (b : List ℕ). Ok (digit_bytes x ++ b)) (refused_card n 2)) ≡ Ok bytes
        → cond c (Ok []) (cond (is_digits x) (bytes_from m (cards_at (m + 1) (ls ++ more)) >>= λ (b : List ℕ). Ok (digit_bytes x ++ b)) (refused_card m 2)) ≡ Ok bytes
    by_end next x true e = e
    by_end next x false e = by_digits next x (is_digits x) e

    by_empty : ((a b : ℕ) (c : List ℕ) → bytes_from a (cards_at (n + 1) ls) ≡ Ok c → bytes_from b (cards_at (m + 1) (ls ++ more)) ≡ Ok c) → (b : Bool) (x : List ℕ)
        → bytes_from last (cond (not b) (numbered n x ∷ cards_at (n + 1) ls) (cards_at (n + 1) ls)) ≡ Ok bytes
        → bytes_from last' (cond (not b) (numbered m x ∷ cards_at (m + 1) (ls ++ more)) (cards_at (m + 1) (ls ++ more))) ≡ Ok bytes
    by_empty next true x e = next last last' bytes e
    by_empty next false x e = by_end (next n m) x (bytes_eq x last_card) e

same_found : (f g : ℕ × List Card) (bytes : List ℕ) → ◌≡◌ {A = Result (ℕ × List Card) Refusal} (Ok f) (Ok g) → bytes_from g.0 g.1 ≡ Ok bytes → bytes_from f.0 f.1 ≡ Ok bytes
same_found f g bytes e h = let same : f ≡ g = cc in subst (λ (x : ℕ × List Card). bytes_from x.0 x.1 ≡ Ok bytes) (sym same) h

found_again : (ls more : List (List ℕ)) (n m last last' : ℕ) (bytes : List ℕ) → Finds bytes last (cards_at n ls) → Finds bytes last' (cards_at m (ls ++ more))
unfolding found_from
found_again [] more n m last last' bytes h = err-ok _ h.0 _ h.1
found_again (l ∷ ls) more n m last last' bytes h = by_empty (λ a b f. found_again ls more (n + 1) (m + 1) a b bytes f) (is_empty (trimmed l)) (trimmed l) h
  where
    by_first : (Finds bytes n (cards_at (n + 1) ls) → Finds bytes m (cards_at (m + 1) (ls ++ more))) → (c : Bool)
        → ((f : ℕ × List Card) × (cond c (Ok (n, cards_at (n + 1) ls)) (found_from n (cards_at (n + 1) ls)) ≡ Ok f) × (bytes_from f.0 f.1 ≡ Ok bytes))
        → (f : ℕ × List Card) × (cond c (Ok (m, cards_at (m + 1) (ls ++ more))) (found_from m (cards_at (m + 1) (ls ++ more))) ≡ Ok f) × (bytes_from f.0 f.1 ≡ Ok bytes)
    by_first next true h = ((m, cards_at (m + 1) (ls ++ more)), refl, bytes_again ls more (n + 1) (m + 1) n m bytes (same_found (n, cards_at (n + 1) ls) h.0 bytes h.1 h.2))
    by_first next false h = next h

    by_empty : ((a b : ℕ) → Finds bytes a (cards_at (n + 1) ls) → Finds bytes b (cards_at (m + 1) (ls ++ more))) → (b : Bool) (x : List ℕ)
        → Finds bytes last (cond (not b) (numbered n x ∷ cards_at (n + 1) ls) (cards_at (n + 1) ls))
        → Finds bytes last' (cond (not b) (numbered m x ∷ cards_at (m + 1) (ls ++ more)) (cards_at (m + 1) (ls ++ more)))
    by_empty next true x h = next last last' h
    by_empty next false x h = by_first (next n m) (bytes_eq x first_card) h

-- ---- an image with a text behind it

pub found_image : (bytes tail : List ℕ) → AllByRecursion IsByte bytes → (k last : ℕ) → Finds bytes last (cards_from k (image_text_of bytes ++ tail))
found_image bytes tail all k last =
    let z : List ℕ = ended first_card ++ (card_lines bytes ++ last_card) in
    let one : image_text_of bytes ≡ z ++ 10 ∷ [] =
    ap (λ (t : List ℕ). ended first_card ++ t) (sym (append_assoc (card_lines bytes) last_card (10 ∷ []))) ∙ sym (append_assoc (ended first_card) (card_lines bytes ++ last_card) (10 ∷ [])) in
    let both : image_text_of bytes ++ tail ≡ z ++ 10 ∷ tail = ap (λ (t : List ℕ). t ++ tail) one ∙ append_assoc z (10 ∷ []) tail in
    let ls : lines (image_text_of bytes ++ tail) ≡ lines (image_text_of bytes) ++ lines tail = ap lines both ∙ lines_behind z tail ∙ ap (λ (t : List ℕ). lines t ++ lines tail) (sym one) in
    let f = after_both (found_from 0 (cards (image_text_of bytes))) (λ (g : ℕ × List Card). bytes_from g.0 g.1 >>= λ (b : List ℕ). Ok (g.0, b)) (1, bytes) (text_again bytes all) in
    let b = after_both (bytes_from f.0.0 f.0.1) (λ (c : List ℕ). Ok (f.0.0, c)) (1, bytes) f.2 in
    let base : Finds bytes 0 (cards_at 1 (lines (image_text_of bytes))) = (f.0, f.1, b.1 ∙ ap Ok (second f.0.0 b.0 b.2)) in
    subst (λ (x : List (List ℕ)). Finds bytes last (cards_at k x)) (sym ls) (found_again (lines (image_text_of bytes)) (lines tail) 1 k 0 last bytes base)
  where
    second : (n : ℕ) (c : List ℕ) → ◌≡◌ {A = Result (ℕ × List ℕ) Refusal} (Ok (n, c)) (Ok (1, bytes)) → c ≡ bytes
    second n c e = let same : ◌≡◌ {A = ℕ × List ℕ} (n, c) (1, bytes) = cc in ap (λ (p : ℕ × List ℕ). p.1) same

-- ---- with other lines before it

taken_other : (n : ℕ) (t : List ℕ) → HasNoMark t → HasNoMark (take n t)
taken_other zero t p = tt
taken_other (suc n) [] p = tt
taken_other (suc n) (x ∷ t) p = (p.0, taken_other n t p.1)

stripped_other : (t : List ℕ) → HasNoMark t → HasNoMark (strip_carriage_return t)
stripped_other t p = grind (arith, taken_other)

trimmed_other : (t : List ℕ) → HasNoMark t → HasNoMark (trimmed t)
trimmed_other t p = taken_other (length t - suffix_len is_space t) t p

not_first : (t : List ℕ) → HasNoMark t → bytes_eq t first_card ≡ false
not_first [] p = refl
not_first (x ∷ t) p = rw (ne_eqb x 63 p.0.1) refl

pub found_behind : (ts : List (List ℕ)) (rest bytes : List ℕ) → AllByRecursion HasNoMark ts → ((k last : ℕ) → Finds bytes last (cards_from k rest)) → (n last : ℕ) → Finds bytes last (cards_from n (flat_map ended ts ++ rest))
unfolding found_from
found_behind [] rest bytes all h n last = h n last
found_behind (t ∷ ts) rest bytes all h n last =
    let ls : lines (flat_map ended (t ∷ ts) ++ rest) ≡ strip_carriage_return t ∷ lines (flat_map ended ts ++ rest) =
    ap lines (ap (λ (x : List ℕ). x ++ rest) (flat_map-cons ended t ts) ∙ append_assoc (ended t) (flat_map ended ts) rest) ∙ first_line t (flat_map ended ts ++ rest) all.0 in
    let other = trimmed_other (strip_carriage_return t) (stripped_other t all.0) in
    subst (λ (x : List (List ℕ)). Finds bytes last (cards_at n x)) (sym ls)
    (by_empty (is_empty (trimmed (strip_carriage_return t))) (trimmed (strip_carriage_return t)) (not_first (trimmed (strip_carriage_return t)) other) (λ k l. found_behind ts rest bytes all.1 h k l))
  where
    by_first : (c : Bool) (cs : List Card) → c ≡ false → Finds bytes n cs → (f : ℕ × List Card) × (cond c (Ok (n, cs)) (found_from n cs) ≡ Ok f) × (bytes_from f.0 f.1 ≡ Ok bytes)
    by_first true cs e f = absurd (let z : ⊥ = cc in z)
    by_first false cs e f = f

    by_empty : (b : Bool) (x : List ℕ) → bytes_eq x first_card ≡ false → ((k l : ℕ) → Finds bytes l (cards_at k (lines (flat_map ended ts ++ rest))))
        → Finds bytes last (cond (not b) (numbered n x ∷ cards_at (n + 1) (lines (flat_map ended ts ++ rest))) (cards_at (n + 1) (lines (flat_map ended ts ++ rest))))
    by_empty true x e next = next (n + 1) last
    by_empty false x e next = by_first (bytes_eq x first_card) (cards_at (n + 1) (lines (flat_map ended ts ++ rest))) e (next (n + 1) n)

-- ---- the whole text

few_enough : (text : List ℕ) → length text ≤ limit → within_image_limit text ≡ Ok tt
few_enough text le = let short : nat_lt limit (length text) ≡ false = le-ltb limit (length text) le in rw short refl

told_by : (sectors : Option ℕ) (text bytes : List ℕ) (p : ImageParts) (f : ℕ × List Card) → within_image_limit text ≡ Ok tt → found_from 0 (cards text) ≡ Ok f → bytes_from f.0 f.1 ≡ Ok bytes → parts_told sectors bytes ≡ Ok p
    → told_in sectors text ≡ Ok (f.0, p)
told_by sectors text bytes p f w e g h = rw (w, e, g, h) refl

pub bytes_among : (ts : List (List ℕ)) (tail bytes : List ℕ) → AllByRecursion HasNoMark ts → AllByRecursion IsByte bytes
    → (card : ℕ) × (bytes_of (flat_map ended ts ++ (image_text_of bytes ++ tail)) ≡ Ok (card, bytes))
bytes_among ts tail bytes other all =
    let f = found_behind ts (image_text_of bytes ++ tail) bytes other (found_image bytes tail all) 1 0 in
    (f.0.0, rw (f.1, f.2) refl)

pub told_among : (sectors : Option ℕ) (ts : List (List ℕ)) (tail bytes : List ℕ) (p : ImageParts) → AllByRecursion HasNoMark ts → AllByRecursion IsByte bytes → parts_told sectors bytes ≡ Ok p
    → length (flat_map ended ts ++ (image_text_of bytes ++ tail)) ≤ limit → (card : ℕ) × (told_in sectors (flat_map ended ts ++ (image_text_of bytes ++ tail)) ≡ Ok (card, p))
told_among sectors ts tail bytes p other all told few =
    let text : List ℕ = flat_map ended ts ++ (image_text_of bytes ++ tail) in
    let f = found_behind ts (image_text_of bytes ++ tail) bytes other (found_image bytes tail all) 1 0 in
    (f.0.0, told_by sectors text bytes p f.0 (few_enough text few) f.1 f.2 told)
