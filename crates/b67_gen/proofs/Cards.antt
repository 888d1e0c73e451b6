-- Putting the cards of one item after the other on lines, as a loop does.
use Rattle.std.proofs.Common.{◌≡◌, ℕ, ◌+◌, ◌*◌, ◌<◌, ◌≤◌, List, [], ◌∷◌, ◌++◌, length, drop, get_or, refl, sym, ap, ◌∙◌, append_assoc, append-nil, add-one, drop-cons}
use Rattle.std.proofs.lemmas.List.{drop_all}
use Rattle.std.specs.List.{flat_map}
use Rattle.std.proofs.lemmas.Grind.{flat_map-append}
use Rattle.b67_io.specs.Line.{ended}
use Rattle.b67_gen.specs.declared.stores.Store.{Store}
use Rattle.b67_gen.specs.Generated.{after_draws, lengths, stores, on_lines, cards_over, generated_text}

-- the cards of all items are on lines after what stood before
pub lines_of_two : (a b : List (List ℕ)) → on_lines (a ++ b) ≡ on_lines a ++ on_lines b
lines_of_two a b = flat_map-append ended a b

-- a turn takes one item off those that are left
pub one_off : {X : Type 0} (f : X → List (List ℕ)) (before now : List ℕ) (x : X) (more : List X) → now ≡ before ++ on_lines (f x) → before ++ on_lines (flat_map f (x ∷ more)) ≡ now ++ on_lines (flat_map f more)
one_off f before now x more e =
    ap (λ (t : List ℕ). before ++ t) (lines_of_two (f x) (flat_map f more))
    ∙ sym (append_assoc before (on_lines (f x)) (on_lines (flat_map f more)))
    ∙ ap (λ (t : List ℕ). t ++ on_lines (flat_map f more)) (sym e)

-- the cards of an exercise, part by part
pub part_by_part : (a b c d e f : List (List ℕ)) → on_lines (a ++ b ++ c ++ d ++ e ++ f) ≡ on_lines a ++ on_lines b ++ on_lines c ++ on_lines d ++ on_lines e ++ on_lines f
part_by_part a b c d e f =
    rw (lines_of_two (a ++ b ++ c ++ d ++ e) f, lines_of_two (a ++ b ++ c ++ d) e, lines_of_two (a ++ b ++ c) d, lines_of_two (a ++ b) c, lines_of_two a b) refl

-- texts that are put one after the other
pub three : (a b c : List ℕ) (t x y z : List ℕ) → x ≡ t ++ a → y ≡ x ++ b → z ≡ y ++ c → z ≡ t ++ (a ++ (b ++ c))
three a b c t x y z d e f = f ∙ ap (λ (s : List ℕ). s ++ c) (e ∙ ap (λ (s : List ℕ). s ++ b) d) ∙ append_assoc (t ++ a) b c ∙ append_assoc t a (b ++ c)

pub four : (a b c d : List ℕ) (t x y z w : List ℕ) → x ≡ t ++ a → y ≡ x ++ b → z ≡ y ++ c → w ≡ z ++ d → w ≡ t ++ (a ++ (b ++ (c ++ d)))
four a b c d t x y z w e f g h = three b c d x y z w f g h ∙ ap (λ (s : List ℕ). s ++ (b ++ (c ++ d))) e ∙ append_assoc t a (b ++ (c ++ d))

pub six : (a b c d e f : List ℕ) (t0 t1 t2 t3 t4 t5 t6 : List ℕ) → t0 ≡ [] → t1 ≡ t0 ++ a → t2 ≡ t1 ++ b → t3 ≡ t2 ++ c → t4 ≡ t3 ++ d → t5 ≡ t4 ++ e → t6 ≡ t5 ++ f → t6 ≡ a ++ b ++ c ++ d ++ e ++ f
six a b c d e f t0 t1 t2 t3 t4 t5 t6 e0 e1 e2 e3 e4 e5 e6 =
    e6 ∙ ap (λ (s : List ℕ). s ++ f) (e5 ∙ ap (λ (s : List ℕ). s ++ e) (e4 ∙ ap (λ (s : List ℕ). s ++ d) (e3 ∙ ap (λ (s : List ℕ). s ++ c) (e2 ∙ ap (λ (s : List ℕ). s ++ b) (e1 ∙ ap (λ (s : List ℕ). s ++ a) e0)))))

-- the text of an exercise over what is drawn
pub generated_is : (seed size : ℕ) (arrays : List ℕ) (all : List Store) → arrays ≡ lengths size seed → all ≡ stores (lengths size seed) (4 * size) (after_draws size seed) → on_lines (cards_over arrays all) ≡ generated_text seed size
unfolding generated_text
generated_is seed size arrays all a s = rw (a, s) refl

-- a turn of a loop over items
pub turn : {X : Type 0} (f : X → List (List ℕ)) (xs : List X) (d : X) (i : ℕ) (first before now : List ℕ) → i < length xs → now ≡ before ++ on_lines (f (get_or xs i d))
    → first ++ on_lines (flat_map f xs) ≡ before ++ on_lines (flat_map f (drop i xs)) → first ++ on_lines (flat_map f xs) ≡ now ++ on_lines (flat_map f (drop (i + 1) xs))
turn {X} f xs d i first before now lt e h =
    let here : drop i xs ≡ get_or xs i d ∷ drop (i + 1) xs = rw (add-one i) (drop-cons xs i d lt) in
    h ∙ ap (λ (ys : List X). before ++ on_lines (flat_map f ys)) here ∙ one_off f before now (get_or xs i d) (drop (i + 1) xs) e

-- and what it leaves
pub all_put : {X : Type 0} (f : X → List (List ℕ)) (xs : List X) (i : ℕ) (first now : List ℕ) → length xs ≤ i → first ++ on_lines (flat_map f xs) ≡ now ++ on_lines (flat_map f (drop i xs)) → now ≡ first ++ on_lines (flat_map f xs)
all_put {X} f xs i first now le h = sym (h ∙ ap (λ (ys : List X). now ++ on_lines (flat_map f ys)) (drop_all i xs le) ∙ append-nil now)
