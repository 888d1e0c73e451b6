-- Syllables, six at a time.
use Rattle.std.proofs.Common.{◌≡◌, ℕ, ◌+◌, ◌-◌, ◌*◌, ◌^◌, ◌<◌, ◌≤◌, List, [], ◌∷◌, ◌++◌, length, take, drop, get_or, refl, sym, ap, subst, ◌∙◌, append_assoc, arith}
use Rattle.std.specs.List.{AllByRecursion}
use Rattle.std.proofs.lemmas.List.{length-drop, length-append, map-append}
use Rattle.b67_word.specs.Tagged.{Tagged, contents}
use Rattle.b67_codefile.specs.Spelling.{HasTag}
use Rattle.b67_model_text.specs.Encoding.{packed_words}
use Rattle.b67_asm.proofs.Program.{rest_is}

pub six_more : (xs : List ℕ) → 6 ≤ length xs → packed_words xs ≡ (((((get_or xs 0 0 * 256 + get_or xs 1 0) * 256 + get_or xs 2 0) * 256 + get_or xs 3 0) * 256 + get_or xs 4 0) * 256 + get_or xs 5 0) ∷ packed_words (drop 6 xs)
six_more [] le = absurd (omega arith)
six_more (a ∷ []) le = absurd (omega arith)
six_more (a ∷ b ∷ []) le = absurd (omega arith)
six_more (a ∷ b ∷ c ∷ []) le = absurd (omega arith)
six_more (a ∷ b ∷ c ∷ d ∷ []) le = absurd (omega arith)
six_more (a ∷ b ∷ c ∷ d ∷ e ∷ []) le = absurd (omega arith)
six_more (a ∷ b ∷ c ∷ d ∷ e ∷ f ∷ more) le = refl

pub no_six : (xs : List ℕ) → length xs < 6 → packed_words xs ≡ []
no_six [] lt = refl
no_six (a ∷ []) lt = refl
no_six (a ∷ b ∷ []) lt = refl
no_six (a ∷ b ∷ c ∷ []) lt = refl
no_six (a ∷ b ∷ c ∷ d ∷ []) lt = refl
no_six (a ∷ b ∷ c ∷ d ∷ e ∷ []) lt = refl
no_six (a ∷ b ∷ c ∷ d ∷ e ∷ f ∷ more) lt = absurd (omega arith)

pub next_word : (words : List Tagged) (w : Tagged) (rest all : List ℕ) (new : List Tagged) → 6 ≤ length rest → new ≡ words ++ w ∷ [] → w.bits ≡ ((((get_or rest 0 0 * 256 + get_or rest 1 0) * 256 + get_or rest 2 0) * 256 + get_or rest 3 0) * 256 + get_or rest 4 0) * 256 + get_or rest 5 0 → contents words ++ packed_words rest ≡ packed_words all → contents new ++ packed_words (take (length rest - 6) (drop 6 rest)) ≡ packed_words all
next_word words w rest all new le grown bits h =
    let cut = ap packed_words (rest_is 6 rest) in
    let more : packed_words rest ≡ w.bits ∷ packed_words (drop 6 rest) = six_more rest le ∙ ap (λ (n : ℕ). n ∷ packed_words (drop 6 rest)) (sym bits) in
    ap (λ (l : List Tagged). contents l ++ packed_words (take (length rest - 6) (drop 6 rest))) grown ∙ ap (λ (l : List ℕ). contents (words ++ w ∷ []) ++ l) cut ∙ ap (λ (l : List ℕ). l ++ packed_words (drop 6 rest)) (map-append (λ (t : Tagged). t.bits) words (w ∷ [])) ∙ append_assoc (contents words) (w.bits ∷ []) (packed_words (drop 6 rest)) ∙ ap (λ (l : List ℕ). contents words ++ l) (sym more) ∙ h

all_one : (P : Tagged → Type 0) (xs : List Tagged) (x : Tagged) → AllByRecursion P xs → P x → AllByRecursion P (xs ++ x ∷ [])
all_one P [] x h p = (p, tt)
all_one P (y ∷ ys) x h p = (h.0, all_one P ys x h.1 p)

pub all_behind : (xs : List Tagged) (x : Tagged) (new : List Tagged) → new ≡ xs ++ x ∷ [] → AllByRecursion (HasTag 3) xs → HasTag 3 x → AllByRecursion (HasTag 3) new
all_behind xs x new e h p = subst (AllByRecursion (HasTag 3)) (sym e) (all_one (HasTag 3) xs x h p)

pub fewer : (xs : List Tagged) (x : Tagged) (rest : List ℕ) (new : List Tagged) (n : ℕ) → 6 ≤ length rest → new ≡ xs ++ x ∷ [] → 6 * length xs + length rest ≡ n → 6 * length new + length (take (length rest - 6) (drop 6 rest)) ≡ n
fewer xs x rest new n le e h = omega (arith, ap length e, length-append xs (x ∷ []), ap length (rest_is 6 rest), length-drop 6 rest)

pub below : (a b : ℕ) → a ≡ b → b < 2 ^ 48 → a < 2 ^ 48
below a b e h = subst (λ (n : ℕ). n < 2 ^ 48) (sym e) h
