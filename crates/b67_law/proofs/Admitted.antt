-- What admission says of listings: an operator stands wherever one may go on.
use Rattle.std.proofs.Common.{◌≡◌, ◌≢◌, ℕ, zero, suc, ◌+◌, ◌*◌, ◌/◌, ◌<◌, Bool, true, false, cond, eqb, ltb, leb, ◌&&◌, not, List, [], ◌∷◌, ◌++◌, length, Option, Some, None, Ok, Err, refl, sym, ap, ◌∙◌, subst, inl, inr, arith}
use Rattle.std.specs.List.{slice_get, slice_index}
use Rattle.std.proofs.lemmas.Bool.Decides.{eqb_tells}
use Rattle.std.proofs.lemmas.Bool.{cases_Bool, true≢false, ltb-false, eqb-true, not-false}
use Rattle.b67_word.specs.declared.couples.Place.{Place}
use Rattle.b67_model.specs.declared.operators.Op.{Op}
use Rattle.b67_model.specs.declared.operators.Op.TheVariants.{Plain}
use Rattle.b67_model.specs.declared.operators.Undecodable.TheVariants.{BadPlace, NotAdmitted, PastEnd}
use Rattle.b67_lemmas.specs.Lists.{Has}
use Rattle.b67_lemmas.proofs.Members.{has_append_left}
use Rattle.b67_model.specs.Common.{Segment, Form, Alone, OneMore, TwoMore, Literal, form_of, syllable, Reading, ends_at, reads, operator_at, place_of_bits, Program, Entry, At, Break, entries_from, origin, listing, place_of_entry, same_place, is_start, Listed, is_last, broken_at, broken_in, Refusal, refused, refusals_of, wrong_entries, refusals_from, IsAdmitted}

-- nothing is refused of two lists where nothing is of their whole
none_left : {A : Type 0} (xs ys : List A) → (xs ++ ys) ≡ [] → xs ≡ []
none_left [] ys e = refl
none_left (x ∷ xs) ys e = cc

none_right : {A : Type 0} (xs ys : List A) → (xs ++ ys) ≡ [] → ys ≡ []
none_right [] ys e = e
none_right (x ∷ xs) ys e = cc

tests_false : (number : ℕ) (place : Place) (tests : List (ℕ × Bool)) (t : ℕ × Bool) → refused number place tests ≡ [] → Has tests t → t.1 ≡ false
tests_false number place [] t e h = absurd h
tests_false number place (x ∷ tests) t e h = grind (arith, tests_false number place tests t)

-- no rule is broken at an entry of the listing, and each entry of the segment is a start
pub record Sound (l : Listed) : Type 0 where
  pub rules : (e : Entry) → Has l.entries e → (t : ℕ × Bool) → Has (broken_at l e) t → t.1 ≡ false
  pub starts : (bits : ℕ) → Has l.segment.entries bits → is_start l.entries (place_of_bits bits) ≡ true

entries_sound : (l : Listed) (entries : List Entry) → refusals_of l entries ≡ [] → (e : Entry) → Has entries e → (t : ℕ × Bool) → Has (broken_at l e) t → t.1 ≡ false
entries_sound l [] none e h t k = absurd h
entries_sound l (x ∷ more) none e h t k =
    let tests : List (ℕ × Bool) = cond (same_place (place_of_entry x) origin) (broken_at l x ++ broken_in l) (broken_at l x) in
    let first = none_left (refused l.number (place_of_entry x) tests) (refusals_of l more) none in
    elim h [
      | inl is ↦
          let k' : Has (broken_at l x) t = subst (λ (y : Entry). Has (broken_at l y) t) (sym is) k in
          tests_false l.number (place_of_entry x) tests t first (by x t k' (same_place (place_of_entry x) origin))
      | inr m ↦ entries_sound l more (none_right (refused l.number (place_of_entry x) tests) (refusals_of l more) none) e m t k
    ]
  where
    by : (x : Entry) (t : ℕ × Bool) → Has (broken_at l x) t → (b : Bool) → Has (cond b (broken_at l x ++ broken_in l) (broken_at l x)) t
    by x t k true = has_append_left (broken_at l x) (broken_in l) t k
    by x t k false = k

starts_sound : (l : Listed) (entries : List ℕ) → wrong_entries l entries ≡ [] → (bits : ℕ) → Has entries bits → is_start l.entries (place_of_bits bits) ≡ true
starts_sound l [] none bits h = absurd h
starts_sound l (e ∷ more) none bits h = grind (arith, starts_sound l more)

abbrev pub listed : Program → ℕ → Segment → Listed
listed p n s = record { program = p; number = n; segment = s; entries = listing s.code }

own_sound : (l : Listed) → refusals_of l l.entries ++ wrong_entries l l.segment.entries ≡ [] → Sound l
own_sound l none = grind (arith, entries_sound, none_left, starts_sound)

segments_sound : (p : Program) (n : ℕ) (segments : List Segment) (i : ℕ) (s : Segment) → refusals_from p n segments ≡ [] → slice_get segments i ≡ Some s → (m : ℕ) × Sound (listed p m s)
segments_sound p n [] i s none e = cc
segments_sound p n (x ∷ more) zero s none e =
    let same : x ≡ s = cc in
    let l = listed p n x in
    (n, subst (λ (y : Segment). Sound (listed p n y)) same (own_sound l (none_left (refusals_of l l.entries ++ wrong_entries l x.entries) (refusals_from p (n + 1) more) none)))
segments_sound p n (x ∷ more) (suc i) s none e = grind (arith, none_right, segments_sound p (n + 1) more i s)

pub admitted_sound : (p : Program) (i : ℕ) (s : Segment) → IsAdmitted p → slice_get p.segments i ≡ Some s → (m : ℕ) × Sound (listed p m s)
admitted_sound p i s admitted e = elim (cases_Bool (eqb (length p.segments) 0)) [
  | inl t ↦ let one : List Refusal = record { segment = 0; place = origin; rule = 10 } ∷ [] in let no : one ≡ [] = rw t at admitted in cc
  | inr t ↦ segments_sound p 1 p.segments i s (rw t at admitted) e
]

eqb_self : (n : ℕ) → eqb n n ≡ true
eqb_self n = elim (eqb_tells n n) [ inl e ↦ e.0 | inr e ↦ absurd (e.1 refl) ]

place_self : (a : Place) → same_place a a ≡ true
place_self a = rw (eqb_self a.word, eqb_self a.syllable) refl

place_same : (a b : Place) → same_place a b ≡ true → a ≡ b
place_same a b e = grind arith

-- what stands at a place of a listing
pub data StandsAt (entries : List Entry) (place : Place) : Type 0 where
  operator : (op : Op) → Has entries (At place op) → StandsAt entries place
  refused_1 : Has entries (Break place NotAdmitted) → StandsAt entries place
  refused_2 : Has entries (Break place PastEnd) → StandsAt entries place

stands_more : (e : Entry) (entries : List Entry) (place : Place) → StandsAt entries place → StandsAt (e ∷ entries) place
stands_more e entries place (operator op h) = operator op (inr h)
stands_more e entries place (refused_1 h) = refused_1 (inr h)
stands_more e entries place (refused_2 h) = refused_2 (inr h)

tail_stands : (code : List ℕ) (at next : Place) (op : Op) (n : ℕ) (read : Reading) → is_last (At at op ∷ entries_from n code next read) at ≡ false → StandsAt (entries_from n code next read) next
tail_stands code at next op zero read e = absurd (true≢false (sym (place_self at) ∙ e))
tail_stands code at next op (suc n) (Err BadPlace) e = absurd (true≢false (sym (place_self at) ∙ e))
tail_stands code at next op (suc n) (Err NotAdmitted) e = refused_1 (inl refl)
tail_stands code at next op (suc n) (Err PastEnd) e = refused_2 (inl refl)
tail_stands code at next op (suc n) (Ok read) e = operator read.0 (inl refl)

-- an operator of a listing is read at its place, and what comes after it stands there too
pub record Entered (code : List ℕ) (entries : List Entry) (place : Place) (op : Op) : Type 0 where
  pub next : Place
  pub reads : operator_at code place ≡ Ok (op, next)
  pub goes_on : is_last entries place ≡ false → StandsAt entries next

last_tail : (e : Entry) (entries : List Entry) (x : Entry) (place : Place) → Has entries x → is_last (e ∷ entries) place ≡ is_last entries place
last_tail e entries x place h = grind arith

pub entered : (n : ℕ) (code : List ℕ) (at : Place) (read : Reading) (place : Place) (op : Op) → read ≡ operator_at code at → Has (entries_from n code at read) (At place op) → Entered code (entries_from n code at read) place op
entered zero code at read place op e h = absurd h
entered (suc n) code at (Err BadPlace) place op e h = absurd h
entered (suc n) code at (Err NotAdmitted) place op e h = elim h [ inl is ↦ absurd (let z : ⊥ = cc in z) | inr x ↦ absurd x ]
entered (suc n) code at (Err PastEnd) place op e h = elim h [ inl is ↦ absurd (let z : ⊥ = cc in z) | inr x ↦ absurd x ]
entered (suc n) code at (Ok read) place op e h = elim h [
  | inl is ↦
      let same_at : at ≡ place = cc in
      let same_op : read.0 ≡ op = cc in
      let here : Entered code (entries_from (suc n) code at (Ok read)) at read.0 = record { next = read.1; reads = sym e; goes_on = λ l. stands_more (At at read.0) (entries_from n code read.1 (operator_at code read.1)) read.1 (tail_stands code at read.1 read.0 n (operator_at code read.1) l) } in
      subst (λ (o : Op). Entered code (entries_from (suc n) code at (Ok read)) place o) same_op (subst (λ (q : Place). Entered code (entries_from (suc n) code at (Ok read)) q read.0) same_at here)
  | inr m ↦
      let rest = entries_from n code read.1 (operator_at code read.1) in
      let r = entered n code read.1 (operator_at code read.1) place op refl m in
      record { next = r.next; reads = r.reads; goes_on = λ l. stands_more (At at read.0) rest r.next (r.goes_on (sym (last_tail (At at read.0) rest (At place op) place m) ∙ l)) }
]

-- no break is at a bad place
pub no_bad : (n : ℕ) (code : List ℕ) (at : Place) (read : Reading) (place : Place) → Has (entries_from n code at read) (Break place BadPlace) → ⊥
no_bad zero code at read place h = h
no_bad (suc n) code at (Err BadPlace) place h = h
no_bad (suc n) code at (Err NotAdmitted) place h = elim h [ inl is ↦ cc | inr x ↦ x ]
no_bad (suc n) code at (Err PastEnd) place h = elim h [ inl is ↦ cc | inr x ↦ x ]
no_bad (suc n) code at (Ok read) place h = elim h [ inl is ↦ cc | inr m ↦ no_bad n code read.1 (operator_at code read.1) place m ]

-- in a sound listing an operator stands wherever something does
pub stands_sound : (l : Listed) → Sound l → (place : Place) → StandsAt l.entries place → (op : Op) × Has l.entries (At place op)
stands_sound l sound place (operator op h) = (op, h)
stands_sound l sound place (refused_1 h) = absurd (true≢false (sound.rules (Break place NotAdmitted) h (1, true) (inl refl)))
stands_sound l sound place (refused_2 h) = absurd (true≢false (sound.rules (Break place PastEnd) h (2, true) (inl refl)))

-- a start of a listing
pub start_stands : (code : List ℕ) (place : Place) (entries : List Entry) → ((e : Entry) → Has entries e → Has (listing code) e) → is_start entries place ≡ true → StandsAt (listing code) place
start_stands code place [] among e = absurd (true≢false (sym e))
start_stands code place (x ∷ entries) among e = elim (cases_Bool (same_place (place_of_entry x) place)) [
  | inl t ↦ at x (among x (inl refl)) (place_same (place_of_entry x) place t)
  | inr t ↦ start_stands code place entries (λ y h. among y (inr h)) (rw t at e)
]
  where
    at : (x : Entry) → Has (listing code) x → place_of_entry x ≡ place → StandsAt (listing code) place
    at (At q op) h is = operator op (subst (λ (r : Place). Has (listing code) (At r op)) is h)
    at (Break q NotAdmitted) h is = refused_1 (subst (λ (r : Place). Has (listing code) (Break r NotAdmitted)) is h)
    at (Break q PastEnd) h is = refused_2 (subst (λ (r : Place). Has (listing code) (Break r PastEnd)) is h)
    at (Break q BadPlace) h is = absurd (no_bad (6 * length code) code origin (operator_at code origin) q h)

-- a segment with words begins with something
pub ends_good : (code : List ℕ) (end : ℕ) (op : Op) → ends_at code end op ≢ Err BadPlace
ends_good code end op = elim (cases_Bool (leb end (6 * length code))) [ inl t ↦ rw t (λ e. cc) | inr t ↦ rw t (λ e. cc) ]

pub reads_good : (code : List ℕ) (n : ℕ) (form : Option Form) → reads code n form ≢ Err BadPlace
reads_good code n form = grind arith

first_stands : (code : List ℕ) (n : ℕ) → 0 < n → (read : Reading) → read ≢ Err BadPlace → StandsAt (entries_from n code origin read) origin
first_stands code zero some read good = absurd (omega (arith, some))
first_stands code (suc n) some (Err BadPlace) good = absurd (good refl)
first_stands code (suc n) some (Err NotAdmitted) good = refused_1 (inl refl)
first_stands code (suc n) some (Err PastEnd) good = refused_2 (inl refl)
first_stands code (suc n) some (Ok read) good = operator read.0 (inl refl)

pub origin_stands : (code : List ℕ) → 0 < length code → StandsAt (listing code) origin
origin_stands code some = first_stands code (6 * length code) (omega (arith, some)) (operator_at code origin) good where
  good : operator_at code origin ≢ Err BadPlace
  good = elim (cases_Bool (ltb 0 (length code))) [
    | inl t ↦ rw t (reads_good code 0 (form_of (syllable code 0)))
    | inr t ↦ absurd (omega (arith, ltb-false 0 (length code) t, some))
  ]
