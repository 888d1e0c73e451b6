-- Each text of an exercise has a deck.
use Rattle.std.proofs.Common.{◌≡◌, ℕ, zero, suc, ◌+◌, ◌-◌, ◌*◌, ◌/◌, ◌^◌, ◌<◌, ◌≤◌, true, false, ltb, List, [], ◌∷◌, ◌++◌, length, get_or, map, Ok, refl, sym, ap, ◌∙◌, append_assoc, arith}
use Rattle.std.specs.Prelude.{nat_le, codes, decimal, reverse}
use Rattle.std.specs.List.{AllByRecursion, list_all, flat_map}
use Rattle.std.specs.Char.{is_ascii_digit}
use Rattle.std.specs.Str.{all_ascii_digits}
use Rattle.std.proofs.Math.Seq.{get_or-append_right}
use Rattle.std.proofs.lemmas.Bool.{and_parts, and_from, leb-true, le-leb, ltb-true}
use Rattle.std.proofs.lemmas.List.{length-append}
use Rattle.std.proofs.lemmas.Nat.{mod_below}
use Rattle.std.proofs.Math.Nat.{mod-le, div-le_of_le-mul}
use Rattle.std.proofs.lemmas.List.Folds.{list_all-append}
use Rattle.std.proofs.lemmas.Fmt.{digits_decimal, decimal_nonempty, length-decimal-le}
use Rattle.std.proofs.lemmas.Str.Parse.{tells_all_ascii_digits, numerals_by_value}
use Rattle.b67_io.specs.Line.{ended}
use Rattle.b67_model_text.specs.declared.card.Card.{Card}
use Rattle.b67_model_text.specs.declared.deck.Stand.TheVariants.{InAsm}
use Rattle.b67_model_text.specs.Command.{is_command, is_printable, said, Stack, Job, Asm, End, Plain}
use Rattle.b67_model_text.specs.Placing.{stand}
use Rattle.b67_model_text.specs.Deck.{Said, command_in, said_after, sayings, limit, deck, deck_of}
use Rattle.b67_model_text.specs.declared.deck.Deck.{Deck}
use Rattle.b67_card.proofs.Lines.{cards_from}
use Rattle.b67_card.proofs.OwnLines.{IsWholeLine, card_of_line}
use Rattle.b67_gen.specs.Generated.{drawn, below, after_draws, lengths, stores, literal_card, cell_card, making, storing, adding, front_cards, printing, end_cards, cards_over, on_lines, generated_text}
use Rattle.b67_gen.specs.declared.stores.Store.{Store}
use Rattle.b67_gen.proofs.Drawing.{lengths_many}
use Rattle.b67_gen.proofs.Cards.{part_by_part}

-- ---- a line of its own

-- a line that a deck takes whole as a card
pub record IsLine (t : List ℕ) : Type 0 where
  pub short : length t ≤ 80
  pub some : 0 < length t
  pub printable : list_all is_printable t ≡ true
  pub last : 32 < get_or t (length t - 1) 0

whole_line : (t : List ℕ) → IsLine t → IsWholeLine t
whole_line t l = record { some = l.some; printable = l.printable; last = l.last }

-- it is the first card
pub first_card : (n : ℕ) (t rest : List ℕ) → IsLine t → cards_from n (ended t ++ rest) ≡ record { number = n; text = t } ∷ cards_from (n + 1) rest
first_card n t rest l = card_of_line n t rest (whole_line t l)

-- ---- what plain lines say

pub record IsPlainLine (t : List ℕ) : Type 0 where
  pub line : IsLine t
  pub plain : is_command t ≡ false

says_plain : (t : List ℕ) → IsPlainLine t → said t ≡ Ok (Plain t)
says_plain t l = rw (le-leb (length t) 80 l.line.short, l.line.printable, l.plain) refl

takes_plain : (before : List Said) (n : ℕ) (t : List ℕ) → stand (map command_in before) ≡ InAsm → said t ≡ Ok (Plain t) → said_after before (record { number = n; text = t }) ≡ Ok (record { number = n; command = Plain t })
takes_plain before n t e s = rw (s, e) refl

goes_on : (before : List Said) (card : Card) (s : Said) (more : List Card) → said_after before card ≡ Ok s → sayings before (card ∷ more) ≡ sayings (s ∷ before) more
goes_on before card s more e = rw e refl

-- lines among assembly cards are taken
pub record Takes (before : List Said) (n : ℕ) (text rest : List ℕ) : Type 0 where
  pub behind : List Said
  pub number : ℕ
  pub stands : stand (map command_in behind) ≡ InAsm
  pub same : sayings before (cards_from n (text ++ rest)) ≡ sayings behind (cards_from number rest)

pub takes_lines : (before : List Said) (n : ℕ) (ts : List (List ℕ)) (rest : List ℕ) → stand (map command_in before) ≡ InAsm → AllByRecursion IsPlainLine ts → Takes before n (on_lines ts) rest
takes_lines before n [] rest e all = record { behind = before; number = n; stands = e; same = refl }
takes_lines before n (t ∷ ts) rest e all =
    let s : Said = record { number = n; command = Plain t } in
    let more = takes_lines (s ∷ before) (n + 1) ts rest e all.1 in
    record {
      behind = more.behind;
      number = more.number;
      stands = more.stands;
      same = ap (λ (x : List ℕ). sayings before (cards_from n x)) (append_assoc (ended t) (on_lines ts) rest)
          ∙ ap (sayings before) (first_card n t (on_lines ts ++ rest) all.0.line)
          ∙ goes_on before (record { number = n; text = t }) s (cards_from (n + 1) (on_lines ts ++ rest)) (takes_plain before n t e (says_plain t all.0))
          ∙ more.same;
    }

-- lines after lines
pub takes_more : (before : List Said) (n : ℕ) (a : List ℕ) (ts : List (List ℕ)) (rest : List ℕ) → Takes before n a (on_lines ts ++ rest) → AllByRecursion IsPlainLine ts → Takes before n (a ++ on_lines ts) rest
takes_more before n a ts rest t all =
    let more = takes_lines t.behind t.number ts rest t.stands all in
    record {
      behind = more.behind;
      number = more.number;
      stands = more.stands;
      same = ap (λ (x : List ℕ). sayings before (cards_from n x)) (append_assoc a (on_lines ts) rest) ∙ t.same ∙ more.same;
    }

-- ---- the lines of an exercise

digits_printable : (ds : List ℕ) → all_ascii_digits ds ≡ true → list_all is_printable ds ≡ true
digits_printable [] e = refl
digits_printable (d ∷ ds) e =
    let both = and_parts (is_ascii_digit d) (all_ascii_digits ds) e in
    let range = and_parts (nat_le 48 d) (nat_le d 57) both.0 in
    let low : 48 ≤ d = leb-true 48 d range.0 in
    let high : d ≤ 57 = leb-true d 57 range.1 in
    and_from (is_printable d) (list_all is_printable ds) (and_from (nat_le 32 d) (nat_le d 126) (le-leb 32 d (omega (arith, low))) (le-leb d 126 (omega (arith, high)))) (digits_printable ds both.1)

digits_last : (ds : List ℕ) (i : ℕ) → all_ascii_digits ds ≡ true → i < length ds → 32 < get_or ds i 0
digits_last [] i e lt = absurd (omega (arith, lt))
digits_last (d ∷ ds) zero e lt =
    let low : 48 ≤ d = leb-true 48 d (and_parts (nat_le 48 d) (nat_le d 57) (and_parts (is_ascii_digit d) (all_ascii_digits ds) e).0).0 in
    omega (arith, low)
digits_last (d ∷ ds) (suc i) e lt = digits_last ds i (and_parts (is_ascii_digit d) (all_ascii_digits ds) e).1 (omega (arith, lt))

-- a short front and a number
numbered : (front : List ℕ) (n : ℕ) → length front ≤ 60 → list_all is_printable front ≡ true → n < 2 ^ 31 → IsLine (front ++ decimal n)
numbered front n short printable small =
    let fits : n < 2 ^ 64 = omega (arith, small) in
    let ds = decimal n in
    let digits : all_ascii_digits ds ≡ true = digits_decimal (numerals_by_value (λ (xs : List ℕ). all_ascii_digits xs ≡ true) tells_all_ascii_digits) n fits in
    let few : length ds ≤ 20 = length-decimal-le 20 n (omega arith) (omega (arith, small)) fits in
    let some : 0 < length ds = decimal_nonempty n fits in
    let long : length (front ++ ds) ≡ length front + length ds = length-append front ds in
    let at : get_or (front ++ ds) (length (front ++ ds) - 1) 0 ≡ get_or ds (length (front ++ ds) - 1 - length front) 0 = get_or-append_right front ds (length (front ++ ds) - 1) 0 (omega (arith, long, some)) in
    let inside : length (front ++ ds) - 1 - length front < length ds = omega (arith, long, some) in
    let last = digits_last ds (length (front ++ ds) - 1 - length front) digits inside in
    record {
      short = omega (arith, long, short, few);
      some = omega (arith, long, some);
      printable = list_all-append is_printable front ds ∙ and_from (list_all is_printable front) (list_all is_printable ds) printable (digits_printable ds digits);
      last = rw at last;
    }

drawn_small : (m x : ℕ) → below m (drawn x) ≤ 32768
drawn_small m x =
    let low : drawn x < 2 ^ 31 = mod_below (x * 1103515245 + 12345) (2 ^ 31) (omega arith) in
    let part : drawn x / 65536 ≤ 32768 = div-le_of_le-mul 65536 (omega (arith, low)) in
    let rest : below m (drawn x) ≤ drawn x / 65536 = mod-le (drawn x / 65536) m in
    omega (arith, part, rest)

-- a line by its tests
closed : (t : List ℕ) → nat_le (length t) 80 ≡ true → ltb 0 (length t) ≡ true → list_all is_printable t ≡ true → ltb 32 (get_or t (length t - 1) 0) ≡ true → IsLine t
closed t a b c d = record { short = leb-true (length t) 80 a; some = ltb-true 0 (length t) b; printable = c; last = ltb-true 32 (get_or t (length t - 1) 0) d }

literal_plain : (n : ℕ) → n < 2 ^ 31 → IsPlainLine (literal_card n)
literal_plain n small = record { line = numbered (codes "LT16 ") n (omega arith) refl small; plain = refl }

cell_plain : (array : ℕ) → array ≤ 32768 → IsPlainLine (cell_card array)
cell_plain array small = record { line = numbered (codes "NAMC 2,") (array + 2) (omega arith) refl (omega (arith, small)); plain = refl }

making_plain : (n : ℕ) → n < 2 ^ 31 → AllByRecursion IsPlainLine (making n)
making_plain n small = (
  record { line = closed (codes "MKST") refl refl refl refl; plain = refl },
  (record { line = closed (codes "NAMC 0,8") refl refl refl refl; plain = refl }, (literal_plain n small, (record { line = closed (codes "ENTR") refl refl refl refl; plain = refl }, tt))),
)

pub record IsSmall (s : Store) : Type 0 where
  pub array : s.array ≤ 32768
  pub index : s.index ≤ 32768
  pub value : s.value ≤ 32768

storing_plain : (s : Store) → IsSmall s → AllByRecursion IsPlainLine (storing s)
storing_plain s small =
    let value = small.value in
    let index = small.index in (
      literal_plain s.value (omega (arith, value)),
      (
        cell_plain s.array small.array,
        (
          literal_plain s.index (omega (arith, index)),
          (record { line = closed (codes "INDX") refl refl refl refl; plain = refl }, (record { line = closed (codes "STOD") refl refl refl refl; plain = refl }, tt)),
        ),
      ),
    )

adding_plain : (s : Store) → IsSmall s → AllByRecursion IsPlainLine (adding s)
adding_plain s small =
    let index = small.index in (
      cell_plain s.array small.array,
      (literal_plain s.index (omega (arith, index)), (record { line = closed (codes "NXLV") refl refl refl refl; plain = refl }, (record { line = closed (codes "ADD") refl refl refl refl; plain = refl }, tt))),
    )

all_of_both : {X : Type 0} (P : X → Type 0) (a b : List X) → AllByRecursion P a → AllByRecursion P b → AllByRecursion P (a ++ b)
all_of_both P [] b h k = k
all_of_both P (x ∷ a) b h k = (h.0, all_of_both P a b h.1 k)

all_plain : {X : Type 0} (f : X → List (List ℕ)) (P : X → Type 0) → ((x : X) → P x → AllByRecursion IsPlainLine (f x)) → (xs : List X) → AllByRecursion P xs → AllByRecursion IsPlainLine (flat_map f xs)
all_plain f P h [] all = tt
all_plain f P h (x ∷ xs) all = all_of_both IsPlainLine (f x) (flat_map f xs) (h x all.0) (all_plain f P h xs all.1)

lengths_small : (n x : ℕ) → AllByRecursion (λ (words : ℕ). words < 2 ^ 31) (lengths n x)
lengths_small zero x = tt
lengths_small (suc n) x = (let small = drawn_small 200 x in omega (arith, small), lengths_small n (drawn x))

stores_small : (arrays : List ℕ) (n x : ℕ) → AllByRecursion IsSmall (stores arrays n x)
stores_small arrays zero x = tt
stores_small arrays (suc n) x = (
  record {
    array = drawn_small (length arrays) x;
    index = drawn_small (get_or arrays (below (length arrays) (drawn x)) 1) (drawn x);
    value = drawn_small 1000 (drawn (drawn x));
  },
  stores_small arrays n (after_draws 3 x),
)

stores_many : (arrays : List ℕ) (n x : ℕ) → length (stores arrays n x) ≡ n
stores_many arrays zero x = refl
stores_many arrays (suc n) x = ap suc (stores_many arrays n (after_draws 3 x))

-- ---- the whole text

abbrev said_first : List Said
said_first = record { number = 3; command = Asm } ∷ record { number = 2; command = Job (codes "EXERCISE") } ∷ record { number = 1; command = Stack 1024 } ∷ []

abbrev first_lines : List ℕ
first_lines = codes "?STACK 1024\n?JOB EXERCISE\n?ASM\n"

takes_first : (rest : List ℕ) → Takes [] 1 first_lines rest
takes_first rest = record {
  behind = said_first;
  number = 4;
  stands = refl;
  same = ap (sayings []) (first_card 1 (codes "?STACK 1024") (codes "?JOB EXERCISE\n?ASM\n" ++ rest) (closed (codes "?STACK 1024") refl refl refl refl))
      ∙ goes_on [] (record { number = 1; text = codes "?STACK 1024" }) (record { number = 1; command = Stack 1024 }) (cards_from 2 (codes "?JOB EXERCISE\n?ASM\n" ++ rest)) refl
      ∙ ap (sayings (record { number = 1; command = Stack 1024 } ∷ [])) (first_card 2 (codes "?JOB EXERCISE") (codes "?ASM\n" ++ rest) (closed (codes "?JOB EXERCISE") refl refl refl refl))
      ∙ goes_on (record { number = 1; command = Stack 1024 } ∷ []) (record { number = 2; text = codes "?JOB EXERCISE" }) (record { number = 2; command = Job (codes "EXERCISE") }) (cards_from 3 (codes "?ASM\n" ++ rest)) refl
      ∙ ap (sayings (record { number = 2; command = Job (codes "EXERCISE") } ∷ record { number = 1; command = Stack 1024 } ∷ [])) (first_card 3 (codes "?ASM") rest (closed (codes "?ASM") refl refl refl refl))
      ∙ goes_on (record { number = 2; command = Job (codes "EXERCISE") } ∷ record { number = 1; command = Stack 1024 } ∷ []) (record { number = 3; text = codes "?ASM" }) (record { number = 3; command = Asm }) (cards_from 4 rest) refl;
}

last_card : (before : List Said) (n : ℕ) → stand (map command_in before) ≡ InAsm → sayings before (cards_from n (codes "?END\n")) ≡ Ok (reverse (record { number = n; command = End } ∷ before))
last_card before n e = rw e refl

abbrev segment_line : List (List ℕ)
segment_line = codes "SEGMENT MAIN 2" ∷ []

abbrev last_lines : List (List ℕ)
last_lines = codes "ENTR" ∷ codes "EXIT" ∷ []

segment_plain : AllByRecursion IsPlainLine segment_line
segment_plain = (record { line = closed (codes "SEGMENT MAIN 2") refl refl refl refl; plain = refl }, tt)

printing_plain : AllByRecursion IsPlainLine printing
printing_plain = (
  record { line = closed (codes "MKST") refl refl refl refl; plain = refl },
  (record { line = closed (codes "NAMC 0,9") refl refl refl refl; plain = refl }, (record { line = closed (codes "ZERO") refl refl refl refl; plain = refl }, tt)),
)

last_plain : AllByRecursion IsPlainLine last_lines
last_plain = (record { line = closed (codes "ENTR") refl refl refl refl; plain = refl }, (record { line = closed (codes "EXIT") refl refl refl refl; plain = refl }, tt))

-- plain lines, and the cards around them, are accepted
module _ (m s a : List (List ℕ)) (making_all : AllByRecursion IsPlainLine m) (storing_all : AllByRecursion IsPlainLine s) (adding_all : AllByRecursion IsPlainLine a) where
  t1 : (rest : List ℕ) → Takes [] 1 (first_lines ++ on_lines segment_line) rest
  t1 rest = takes_more [] 1 first_lines segment_line rest (takes_first (on_lines segment_line ++ rest)) segment_plain

  t2 : (rest : List ℕ) → Takes [] 1 (first_lines ++ on_lines segment_line ++ on_lines m) rest
  t2 rest = takes_more [] 1 (first_lines ++ on_lines segment_line) m rest (t1 (on_lines m ++ rest)) making_all

  t3 : (rest : List ℕ) → Takes [] 1 (first_lines ++ on_lines segment_line ++ on_lines m ++ on_lines s) rest
  t3 rest = takes_more [] 1 (first_lines ++ on_lines segment_line ++ on_lines m) s rest (t2 (on_lines s ++ rest)) storing_all

  t4 : (rest : List ℕ) → Takes [] 1 (first_lines ++ on_lines segment_line ++ on_lines m ++ on_lines s ++ on_lines printing) rest
  t4 rest = takes_more [] 1 (first_lines ++ on_lines segment_line ++ on_lines m ++ on_lines s) printing rest (t3 (on_lines printing ++ rest)) printing_plain

  t5 : (rest : List ℕ) → Takes [] 1 (first_lines ++ on_lines segment_line ++ on_lines m ++ on_lines s ++ on_lines printing ++ on_lines a) rest
  t5 rest = takes_more [] 1 (first_lines ++ on_lines segment_line ++ on_lines m ++ on_lines s ++ on_lines printing) a rest (t4 (on_lines a ++ rest)) adding_all

  t6 : (rest : List ℕ) → Takes [] 1 (first_lines ++ on_lines segment_line ++ on_lines m ++ on_lines s ++ on_lines printing ++ on_lines a ++ on_lines last_lines) rest
  t6 rest = takes_more [] 1 (first_lines ++ on_lines segment_line ++ on_lines m ++ on_lines s ++ on_lines printing ++ on_lines a) last_lines rest (t5 (on_lines last_lines ++ rest)) last_plain

  pub accepted : (said : List Said) × (sayings [] (cards_from 1 (on_lines (front_cards ++ m ++ s ++ printing ++ a ++ end_cards))) ≡ Ok said)
  accepted =
      let all = t6 (codes "?END\n") in
      let before = on_lines front_cards ++ on_lines m ++ on_lines s ++ on_lines printing ++ on_lines a in
      let same : on_lines (front_cards ++ m ++ s ++ printing ++ a ++ end_cards) ≡ (before ++ on_lines last_lines) ++ codes "?END\n" = part_by_part front_cards m s printing a end_cards ∙ sym (append_assoc before (on_lines last_lines) (codes "?END\n")) in
      (reverse (record { number = all.number; command = End } ∷ all.behind), ap (λ (x : List ℕ). sayings [] (cards_from 1 x)) same ∙ all.same ∙ last_card all.behind all.number all.stands)

-- ---- its length

lines_short : (ts : List (List ℕ)) → AllByRecursion IsPlainLine ts → length (on_lines ts) ≤ 81 * length ts
lines_short [] all = omega arith
lines_short (t ∷ ts) all =
    let rest = lines_short ts all.1 in
    let short = all.0.line.short in
    let both : length (ended t ++ on_lines ts) ≡ length (ended t) + length (on_lines ts) = length-append (ended t) (on_lines ts) in
    let one : length (ended t) ≡ length t + 1 = length-append t (10 ∷ []) in
    omega (arith, rest, short, both, one)

cards_many : {X : Type 0} (f : X → List (List ℕ)) (k : ℕ) → ((x : X) → length (f x) ≡ k) → (xs : List X) → length (flat_map f xs) ≡ k * length xs
cards_many f k each [] = omega arith
cards_many f k each (x ∷ xs) = length-append (f x) (flat_map f xs) ∙ (let one = each x in let rest = cards_many f k each xs in omega (arith, one, rest))

six_long : (a b c d e f : List ℕ) → length (a ++ b ++ c ++ d ++ e ++ f) ≡ length a + length b + length c + length d + length e + length f
six_long a b c d e f =
    let five = length-append (a ++ b ++ c ++ d ++ e) f in
    let four = length-append (a ++ b ++ c ++ d) e in
    let three = length-append (a ++ b ++ c) d in
    let two = length-append (a ++ b) c in
    let one = length-append a b in
    omega (arith, five, four, three, two, one)

has_deck : (text : List ℕ) (all : List Said) → length text ≤ limit → sayings [] (cards_from 1 text) ≡ Ok all → deck_of text ≡ Ok (deck all)
has_deck text all few e =
    let within : ltb limit (length text) ≡ false = grind arith in
    rw (within, e) refl

-- the text of an exercise over these arrays and stores has a deck
over_has_deck : (size : ℕ) (arrays : List ℕ) (all : List Store) → size ≤ 500 → length arrays ≡ size → length all ≡ 4 * size → AllByRecursion (λ (words : ℕ). words < 2 ^ 31) arrays → AllByRecursion IsSmall all
    → (d : Deck) × (deck_of (on_lines (cards_over arrays all)) ≡ Ok d)
over_has_deck size arrays all few some many small fit =
    let m = all_plain making (λ (words : ℕ). words < 2 ^ 31) (λ n h. making_plain n h) arrays small in
    let s = all_plain storing IsSmall (λ x h. storing_plain x h) all fit in
    let a = all_plain adding IsSmall (λ x h. adding_plain x h) all fit in
    let taken = accepted (flat_map making arrays) (flat_map storing all) (flat_map adding all) m s a in
    let long_m = lines_short (flat_map making arrays) m in
    let long_s = lines_short (flat_map storing all) s in
    let long_a = lines_short (flat_map adding all) a in
    let count_m = cards_many making 4 (λ n. refl) arrays in
    let count_s = cards_many storing 5 (λ x. refl) all in
    let count_a = cards_many adding 4 (λ x. refl) all in
    let first : length (on_lines front_cards) ≡ 46 = refl in
    let middle : length (on_lines printing) ≡ 19 = refl in
    let last : length (on_lines end_cards) ≡ 15 = refl in
    let parts = six_long (on_lines front_cards) (on_lines (flat_map making arrays)) (on_lines (flat_map storing all)) (on_lines printing) (on_lines (flat_map adding all)) (on_lines end_cards) in
    let whole = ap length (part_by_part front_cards (flat_map making arrays) (flat_map storing all) printing (flat_map adding all) end_cards) in
    let short : length (on_lines (cards_over arrays all)) ≤ limit = omega (arith, few, some, many, long_m, long_s, long_a, count_m, count_s, count_a, first, middle, last, parts, whole) in
    (deck taken.0, has_deck (on_lines (cards_over arrays all)) taken.0 short taken.1)

pub generated_has_deck : (seed size : ℕ) → size ≤ 500 → (d : Deck) × (deck_of (generated_text seed size) ≡ Ok d)
unfolding generated_text
generated_has_deck seed size few =
    over_has_deck size (lengths size seed) (stores (lengths size seed) (4 * size) (after_draws size seed)) few (lengths_many size seed) (stores_many (lengths size seed) (4 * size) (after_draws size seed))
    (lengths_small size seed) (stores_small (lengths size seed) (4 * size) (after_draws size seed))
