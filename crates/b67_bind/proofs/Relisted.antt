-- The listing of code in which the literals of MPCWs are changed.
use Rattle.std.proofs.Common.{◌≡◌, ℕ, zero, suc, ◌+◌, ◌-◌, ◌*◌, ◌/◌, ◌%◌, ◌^◌, ◌<◌, ◌≤◌, Bool, true, false, cond, ltb, ◌&&◌, List, [], ◌∷◌, length, map, Option, Some, None, Ok, Err, refl, sym, ap, subst, ◌∙◌, arith, ◌⊎◌, inl, inr}
use Rattle.std.specs.Prelude.{drop, option_map, slice_get, slice_index, unwrap_or}
use Rattle.std.specs.List.{AllByRecursion}
use Rattle.std.proofs.Math.Nat.{le_refl}
use Rattle.std.proofs.lemmas.Bool.{ltb-true, lt-ltb, and_parts, and_from}
use Rattle.std.proofs.lemmas.Option.{none-some, slice_get-get_or, unwrap_or-slice_get}
use Rattle.b67_word.specs.declared.couples.Place.{Place}
use Rattle.b67_lemmas.proofs.Joins.{all_by}
use Rattle.b67_model.specs.declared.operators.Op.{Op}
use Rattle.b67_model.specs.declared.operators.Op.TheVariants as op
use Rattle.b67_model.specs.declared.operators.Undecodable.{Undecodable}
use Rattle.b67_model.specs.declared.operators.Undecodable.TheVariants.{BadPlace, NotAdmitted, PastEnd}
use Rattle.b67_model.specs.declared.operators.Mnemonic.{Mnemonic}
use Rattle.b67_model.specs.declared.operators.Mnemonic.TheVariants as names
use Rattle.b67_model.specs.declared.operators.TheConstants.{OPERATORS}
use Rattle.b67_model.specs.Operators.{form_of_name}
use Rattle.b67_model.specs.Common.{Form, Alone, OneMore, TwoMore, Literal, Reading, operators, form_in, form_of, syllable, place_at, count_at, ends_at, reads, operator_at, Entry, At, Break, entries_from, origin, listing, place_of_entry, proc_bits}
use Rattle.b67_load.proofs.Operator.{IsPlaceIn, operator_at-inside, operator_at-is}
use Rattle.b67_bind.specs.Reasons.{proc_in}
use Rattle.b67_bind.specs.Bound.{literal_of, change_one, change_literals, change_op, change_entry}
use Rattle.b67_bind.proofs.Literals.{changed-here, literal-is, one-other, literals-length, literals-other, literals-alike, StandFrom, literals-later}

-- ---- no operator makes a PCW but MPCW, and its literal is the PCW

abbrev MakesNone : (ℕ → Op) → Type 0
MakesNone make = (n : ℕ) → proc_bits (make n) ≡ None

abbrev FormMakes : Form → Type 0
FormMakes (Alone code) = Unit {0}
FormMakes (OneMore make) = MakesNone make
FormMakes (TwoMore make) = (n : ℕ) → MakesNone (make n)
FormMakes (Literal make) = MakesNone make ⊎ ((n : ℕ) → make n ≡ op.Mpcw n)

abbrev AnyMakes : Option Form → Type 0
AnyMakes None = Unit {0}
AnyMakes (Some form) = FormMakes form

form_in-makes : (rows : List (ℕ × Form)) (first : ℕ) → AllByRecursion (λ row. FormMakes row.1) rows → AnyMakes (form_in rows first)
form_in-makes [] first h = tt
form_in-makes (row ∷ rows) first h = grind (arith, form_in-makes rows first h.1)

name_makes : (name : Mnemonic) → FormMakes (form_of_name name)
name_makes (names.Plain code) = tt
name_makes names.Valc = λ n. refl
name_makes names.Namc = λ n. refl
name_makes names.Brun = λ a b. refl
name_makes names.Brtr = λ a b. refl
name_makes names.Brfl = λ a b. refl
name_makes names.Lt8 = λ n. refl
name_makes names.Lt16 = λ a b. refl
name_makes names.Lt48 = inl (λ n. refl)
name_makes names.Mpcw = inr (λ n. refl)
name_makes names.Bset = λ n. refl
name_makes names.Brst = λ n. refl
name_makes names.Isol = λ a b. refl
name_makes names.Insr = λ a b. refl

table_makes : {A : Type 0} (rows : List (ℕ × A × Mnemonic)) → AllByRecursion (λ (row : ℕ × Form). FormMakes row.1) (map (λ row. (row.0, form_of_name row.2)) rows)
table_makes [] = tt
table_makes (row ∷ rows) = (name_makes row.2, table_makes rows)

operators_make : AllByRecursion (λ row. FormMakes row.1) operators
operators_make = table_makes (drop 2 OPERATORS)

form_of-makes : (first : ℕ) → AnyMakes (form_of first)
form_of-makes first = valc (ltb first 0x40)
  where
    namc : (b : Bool) → AnyMakes (cond b (Some (OneMore (λ low. op.Namc ((first - 0x40) * 256 + low)))) (form_in operators first))
    namc true = λ n. refl
    namc false = form_in-makes operators first operators_make

    valc : (b : Bool) → AnyMakes (cond b (Some (OneMore (λ low. op.Valc (first * 256 + low)))) (cond (ltb first 0x80) (Some (OneMore (λ low. op.Namc ((first - 0x40) * 256 + low)))) (form_in operators first)))
    valc true = λ n. refl
    valc false = namc (ltb first 0x80)

unchanged : (f : ℕ → ℕ) (o : Op) → proc_bits o ≡ None → change_op f o ≡ o
unchanged f o e = grind arith

-- ---- words that agree

index-same : (xs ys : List ℕ) (k : ℕ) → slice_get xs k ≡ slice_get ys k → slice_index xs k ≡ slice_index ys k
index-same xs ys k e = sym (unwrap_or-slice_get xs k 0) ∙ ap (λ (o : Option ℕ). unwrap_or o 0) e ∙ unwrap_or-slice_get ys k 0

syllable-same : (xs ys : List ℕ) (n : ℕ) → slice_get xs (n / 6) ≡ slice_get ys (n / 6) → syllable xs n ≡ syllable ys n
syllable-same xs ys n e = ap (λ (w : ℕ). (w / 256 ^ (5 - n % 6)) % 256) (index-same xs ys (n / 6) e)

-- an operator that makes no PCW leaves every word as it is
one-none : (f : ℕ → ℕ) (o : Option ℕ) (word : ℕ) (code : List ℕ) → o ≡ None → change_one f (option_map (λ (bits : ℕ). word + 1) o) code ≡ code
one-none f o word code e = ap (λ (p : Option ℕ). change_one f (option_map (λ (bits : ℕ). word + 1) p) code) e

-- ---- an operator is read again

-- an operator that ends at a syllable, and the place behind it
record Ends (code : List ℕ) (end : ℕ) (o op : Op) (next : Place) : Type 0 where
  op_is : op ≡ o
  next_is : next ≡ place_at end
  within : end ≤ 6 * length code
  again : (other : List ℕ) (p : Op) → length other ≡ length code → ends_at other end p ≡ Ok (p, next)

ends-again : (code : List ℕ) (end : ℕ) (o p : Op) (next : Place) → ends_at code end o ≡ Ok (p, next) → Ends code end o p next
ends-again code end o p next e = grind arith

-- code' agrees with code from a word to another but for one literal
abbrev AgreesTo : (ℕ → ℕ) → (code other : List ℕ) → Option ℕ → (low high : ℕ) → Type 0
AgreesTo f code other literal low high = (k : ℕ) → low ≤ k → k ≤ high → slice_get other k ≡ slice_get (change_one f literal code) k

abbrev literal_in : ℕ → Op → Option ℕ
literal_in n o = option_map (λ (bits : ℕ). n / 6 + 1) (proc_bits o)

plain-again : (f : ℕ → ℕ) (code other : List ℕ) (n end : ℕ) (o o' p : Op) (next : Place) → length other ≡ length code → ends_at code end o ≡ Ok (p, next) → proc_bits o ≡ None
    → (AgreesTo f code other None (n / 6) next.word → o' ≡ o)
    → AgreesTo f code other (literal_in n p) (n / 6) next.word → ends_at other end o' ≡ Ok (change_op f p, next)
plain-again f code other n end o o' p next len e none same agree =
    let r : Ends code end o p next = ends-again code end o p next e in
    let still : proc_bits p ≡ None = ap proc_bits r.op_is ∙ none in
    let plain : AgreesTo f code other None (n / 6) next.word = λ k low high. agree k low high ∙ ap (λ (ws : List ℕ). slice_get ws k) (one-none f (proc_bits p) (n / 6) code still) in
    let is : o' ≡ change_op f p = same plain ∙ sym r.op_is ∙ sym (unchanged f p still) in
    r.again other o' len ∙ ap (λ (x : Op). done x) is
  where
    done : Op → Reading
    done x = Ok (x, next)

literal-again : (f : ℕ → ℕ) (code other : List ℕ) (n : ℕ) (make : ℕ → Op) (p : Op) (next : Place) → length other ≡ length code → ((m : ℕ) → make m ≡ op.Mpcw m)
    → ends_at code (6 * (n / 6 + 2)) (make (slice_index code (n / 6 + 1))) ≡ Ok (p, next)
    → AgreesTo f code other (literal_in n p) (n / 6) next.word → ends_at other (6 * (n / 6 + 2)) (make (slice_index other (n / 6 + 1))) ≡ Ok (change_op f p, next)
literal-again f code other n make p next len makes e agree = grind (arith, slice_get-get_or, changed-here)

reads-again : (f : ℕ → ℕ) (code other : List ℕ) (n : ℕ) (form : Option Form) (p : Op) (next : Place) → AnyMakes form → length other ≡ length code → reads code n form ≡ Ok (p, next)
    → AgreesTo f code other (literal_in n p) (n / 6) next.word → reads other n form ≡ Ok (change_op f p, next)
reads-again f code other n None p next h len e agree = absurd cc
reads-again f code other n (Some (Alone c)) p next h len e agree = plain-again f code other n (n + 1) (op.Plain c) (op.Plain c) p next len e refl (λ a. refl) agree
reads-again f code other n (Some (OneMore make)) p next h len e agree = grind (arith, syllable-same)
reads-again f code other n (Some (TwoMore make)) p next h len e agree = grind (arith, syllable-same)
reads-again f code other n (Some (Literal make)) p next (inl h) len e agree = grind (arith, index-same)
reads-again f code other n (Some (Literal make)) p next (inr h) len e agree = literal-again f code other n make p next len h e agree

reads-literal : (code : List ℕ) (n k : ℕ) (form : Option Form) (p : Op) (next : Place) → AnyMakes form → reads code n form ≡ Ok (p, next) → literal_in n p ≡ Some k → k < next.word
reads-literal code n k form p next h e l = grind arith

-- where nothing is read, nothing is read again
ends-none : (code other : List ℕ) (end : ℕ) (o p : Op) (why : Undecodable) → length other ≡ length code → ends_at code end o ≡ Err why → ends_at other end p ≡ Err why
ends-none code other end o p why len e = grind arith

reads-none : (code other : List ℕ) (n : ℕ) (form : Option Form) (why : Undecodable) → length other ≡ length code → reads code n form ≡ Err why → reads other n form ≡ Err why
reads-none code other n None why len e = e
reads-none code other n (Some (Alone c)) why len e = ends-none code other (n + 1) _ _ why len e
reads-none code other n (Some (OneMore make)) why len e = ends-none code other (n + 2) _ _ why len e
reads-none code other n (Some (TwoMore make)) why len e = ends-none code other (n + 3) _ _ why len e
reads-none code other n (Some (Literal make)) why len e = ends-none code other (6 * (n / 6 + 2)) _ _ why len e

-- ---- at a place

read_test : (code : List ℕ) (at : Place) (b : Bool) → (ltb at.syllable 6 && ltb at.word (length code)) ≡ b → operator_at code at ≡ cond b (reads code (count_at at) (form_of (syllable code (count_at at)))) (Err BadPlace)
read_test code at b t = rw t refl

same_first : (f : ℕ → ℕ) (code other : List ℕ) (at : Place) → at.syllable < 6 → slice_get other at.word ≡ slice_get code at.word → syllable other (count_at at) ≡ syllable code (count_at at)
same_first f code other at lt e = grind (arith, syllable-same)

literal_place : (at : Place) (p : Op) → at.syllable < 6 → literal_of (At at p) ≡ literal_in (count_at at) p
literal_place at p lt = grind arith

later_word : (code : List ℕ) (at : Place) (p : Op) (next : Place) → operator_at code at ≡ Ok (p, next) → at.word ≤ next.word
later_word code at p next e = let is = operator_at-is code at (p, next) e in omega (arith, is.after, is.syllable)

inside_of : (code : List ℕ) (at : Place) (p : Op) (next : Place) → operator_at code at ≡ Ok (p, next) → IsPlaceIn code at
inside_of code at p next e = operator_at-inside code at (Ok (p, next)) (λ x. absurd cc) e

test_of : (code : List ℕ) (at : Place) → IsPlaceIn code at → (ltb at.syllable 6 && ltb at.word (length code)) ≡ true
test_of code at h = and_from (ltb at.syllable 6) (ltb at.word (length code)) (lt-ltb at.syllable 6 h.syllable) (lt-ltb at.word (length code) h.word)

other_read : (f : ℕ → ℕ) (code other : List ℕ) (at : Place) → IsPlaceIn code at → length other ≡ length code → slice_get other at.word ≡ slice_get code at.word
    → operator_at other at ≡ reads other (count_at at) (form_of (syllable code (count_at at)))
other_read f code other at inside len e = grind (arith, test_of, same_first)

own_read : (code : List ℕ) (at : Place) → IsPlaceIn code at → operator_at code at ≡ reads code (count_at at) (form_of (syllable code (count_at at)))
own_read code at inside = read_test code at true (test_of code at inside)

literal_before : (code : List ℕ) (at : Place) (p : Op) (next : Place) (k : ℕ) → operator_at code at ≡ Ok (p, next) → literal_of (At at p) ≡ Some k → k < next.word
literal_before code at p next k e l =
    let inside = inside_of code at p next e in
    reads-literal code (count_at at) k (form_of (syllable code (count_at at))) p next (form_of-makes (syllable code (count_at at))) (sym (own_read code at inside) ∙ e) (sym (literal_place at p inside.syllable) ∙ l)

read_again : (f : ℕ → ℕ) (code other : List ℕ) (at : Place) (p : Op) (next : Place) → operator_at code at ≡ Ok (p, next) → length other ≡ length code
    → AgreesTo f code other (literal_of (At at p)) at.word next.word → operator_at other at ≡ Ok (change_op f p, next)
read_again f code other at p next e len agree =
    let inside = inside_of code at p next e in
    let word : at.word ≡ count_at at / 6 = omega (arith, inside.syllable) in
    let first : slice_get other at.word ≡ slice_get code at.word =
    agree at.word (omega arith) (later_word code at p next e) ∙ one-other f (literal_of (At at p)) at.word code (λ l. own at.word (literal-is (proc_bits p) at.word at.word l)) in
    let there : AgreesTo f code other (literal_in (count_at at) p) (count_at at / 6) next.word =
    λ k low high. agree k (omega (arith, word, low)) high ∙ ap (λ (l : Option ℕ). slice_get (change_one f l code) k) (literal_place at p inside.syllable) in
    other_read f code other at inside len first ∙
    reads-again f code other (count_at at) (form_of (syllable code (count_at at))) p next (form_of-makes (syllable code (count_at at))) len (sym (own_read code at inside) ∙ e) there
  where
    own : (n : ℕ) → n ≡ n + 1 → ⊥
    own n e = omega (arith, e)

break_again : (f : ℕ → ℕ) (code other : List ℕ) (at : Place) (why : Undecodable) → operator_at code at ≡ Err why → length other ≡ length code → slice_get other at.word ≡ slice_get code at.word → operator_at other at ≡ Err why
break_again f code other at why e len same = at_test (ltb at.syllable 6 && ltb at.word (length code)) refl
  where
    at_test : (b : Bool) → (ltb at.syllable 6 && ltb at.word (length code)) ≡ b → operator_at other at ≡ Err why
    at_test true t =
        let both = and_parts (ltb at.syllable 6) (ltb at.word (length code)) t in
        let inside : IsPlaceIn code at = record { word = ltb-true at.word (length code) both.1; syllable = ltb-true at.syllable 6 both.0 } in
        other_read f code other at inside len same ∙ reads-none code other (count_at at) (form_of (syllable code (count_at at))) why len (sym (own_read code at inside) ∙ e)
    at_test false t = read_test other at false (rw len t) ∙ sym (read_test code at false t) ∙ e

-- ---- the listing

stand_from : (n : ℕ) (code : List ℕ) (at : Place) (read : Reading) → operator_at code at ≡ read → StandFrom at.word (entries_from n code at read)
stand_from zero code at read e = tt
stand_from (suc n) code at (Err BadPlace) e = tt
stand_from (suc n) code at (Err NotAdmitted) e = (le_refl at.word, tt)
stand_from (suc n) code at (Err PastEnd) e = (le_refl at.word, tt)
stand_from (suc n) code at (Ok read) e =
    let more : StandFrom read.1.word (entries_from n code read.1 (operator_at code read.1)) = stand_from n code read.1 (operator_at code read.1) refl in
    let later : at.word ≤ read.1.word = later_word code at read.0 read.1 e in
    (le_refl at.word, all_by (λ (x : Entry). read.1.word ≤ (place_of_entry x).word) (λ (x : Entry). at.word ≤ (place_of_entry x).word) (λ x h. omega (arith, h, later)) _ more)

abbrev AgreesFrom : (ℕ → ℕ) → (code other : List ℕ) → List Entry → ℕ → Type 0
AgreesFrom f code other entries low = (k : ℕ) → low ≤ k → slice_get other k ≡ slice_get (change_literals f entries code) k

relisted : (f : ℕ → ℕ) (n : ℕ) (code other : List ℕ) (at : Place) (read : Reading) → operator_at code at ≡ read → length other ≡ length code → AgreesFrom f code other (entries_from n code at read) at.word
    → entries_from n other at (operator_at other at) ≡ map (change_entry f) (entries_from n code at read)
relisted f zero code other at read e len agree = refl
relisted f (suc n) code other at (Err BadPlace) e len agree = ap (entries_from (suc n) other at) (break_again f code other at BadPlace e len (agree at.word (le_refl at.word)))
relisted f (suc n) code other at (Err NotAdmitted) e len agree = ap (entries_from (suc n) other at) (break_again f code other at NotAdmitted e len (agree at.word (le_refl at.word)))
relisted f (suc n) code other at (Err PastEnd) e len agree = ap (entries_from (suc n) other at) (break_again f code other at PastEnd e len (agree at.word (le_refl at.word)))
relisted f (suc n) code other at (Ok read) e len agree =
    let p : Op = read.0 in
    let next : Place = read.1 in
    let more : List Entry = entries_from n code next (operator_at code next) in
    let one : List ℕ = change_one f (literal_of (At at p)) code in
    let later : at.word ≤ next.word = later_word code at p next e in
    let here : AgreesTo f code other (literal_of (At at p)) at.word next.word =
    λ k low high. agree k low ∙ literals-other f more k one (literals-later more next.word k (stand_from n code next (operator_at code next) refl) high) in
    let there : AgreesFrom f code other more next.word =
    λ k low. agree k (omega (arith, later, low)) ∙ literals-alike f more k one code (one-other f (literal_of (At at p)) k code (λ l. not_before k next.word (literal_before code at p next k e l) low)) in
    ap (entries_from (suc n) other at) (read_again f code other at p next e len here) ∙ ap (λ (es : List Entry). At at (change_op f p) ∷ es) (relisted f n code other next (operator_at code next) refl len there)
  where
    not_before : (k m : ℕ) → k < m → m ≤ k → ⊥
    not_before k m a b = omega (arith, a, b)

-- the listing of code with its literals changed is the listing with its PCWs changed
pub listing-changed : (f : ℕ → ℕ) (code : List ℕ) → listing (change_literals f (listing code) code) ≡ map (change_entry f) (listing code)
listing-changed f code =
    let other : List ℕ = change_literals f (listing code) code in
    let len : length other ≡ length code = literals-length f (listing code) code in
    ap (λ (n : ℕ). entries_from (6 * n) other origin (operator_at other origin)) len ∙ relisted f (6 * length code) code other origin (operator_at code origin) refl len (λ k low. refl)

-- ---- the PCW of an MPCW is the word behind it

reads-word : (code : List ℕ) (n bits : ℕ) (form : Option Form) (p : Op) (next : Place) → AnyMakes form → reads code n form ≡ Ok (p, next) → proc_bits p ≡ Some bits → slice_get code (n / 6 + 1) ≡ Some bits
reads-word code n bits form p next h e b = grind (arith, slice_get-get_or)

pub record HoldsLiteral (code : List ℕ) (e : Entry) : Type 0 where
  pub word : (bits : ℕ) → proc_in e ≡ Some bits → slice_get code ((place_of_entry e).word + 1) ≡ Some bits

literal_holds : (code : List ℕ) (at : Place) (p : Op) (next : Place) → operator_at code at ≡ Ok (p, next) → HoldsLiteral code (At at p)
literal_holds code at p next e =
    let inside = inside_of code at p next e in
    let word : count_at at / 6 ≡ at.word = omega (arith, inside.syllable) in
    record {
      word = λ bits is. subst (λ (k : ℕ). slice_get code (k + 1) ≡ Some bits) word
          (reads-word code (count_at at) bits (form_of (syllable code (count_at at))) p next (form_of-makes (syllable code (count_at at))) (sym (own_read code at inside) ∙ e) is);
    }

break_holds : (code : List ℕ) (at : Place) (why : Undecodable) → HoldsLiteral code (Break at why)
break_holds code at why = record { word = λ bits is. absurd (none-some bits is) }

literals_hold : (n : ℕ) (code : List ℕ) (at : Place) (read : Reading) → operator_at code at ≡ read → AllByRecursion (HoldsLiteral code) (entries_from n code at read)
literals_hold zero code at read e = tt
literals_hold (suc n) code at (Err BadPlace) e = tt
literals_hold (suc n) code at (Err NotAdmitted) e = (break_holds code at NotAdmitted, tt)
literals_hold (suc n) code at (Err PastEnd) e = (break_holds code at PastEnd, tt)
literals_hold (suc n) code at (Ok read) e = (literal_holds code at read.0 read.1 e, literals_hold n code read.1 (operator_at code read.1) refl)

pub listing-literals : (code : List ℕ) → AllByRecursion (HoldsLiteral code) (listing code)
listing-literals code = literals_hold (6 * length code) code origin (operator_at code origin) refl
