-- A segment that breaks no rule, and one that is alike but for the PCWs of its MPCWs.
use Rattle.std.proofs.Common.{◌≡◌, ℕ, zero, suc, ◌+◌, ◌*◌, ◌≤◌, Bool, true, false, not, cond, eqb, ltb, ◌&&◌, lit<, List, [], ◌∷◌, ◌++◌, length, map, Option, Some, None, Err, Ok, refl, sym, ap, subst, ◌∙◌, arith, inl, inr}
use Rattle.std.specs.Prelude.{option_map, slice_get}
use Rattle.std.specs.List.{AllByRecursion}
use Rattle.std.proofs.lemmas.Option.{none-some}
use Rattle.b67_word.specs.declared.couples.Place.{Place}
use Rattle.b67_word.specs.Couples.{couple}
use Rattle.b67_lemmas.specs.Lists.{Has}
use Rattle.b67_model.specs.declared.operators.Op.{Op}
use Rattle.b67_model.specs.declared.operators.Undecodable.TheVariants.{BadPlace, NotAdmitted, PastEnd}
use Rattle.b67_model.specs.Common.{Segment, Reading, operator_at, place_of_bits, Program, Entry, At, Break, entries_from, listing, origin, place_of_entry, same_place, is_start, is_last, is_outside, target_of, couple_bits, proc_bits, may_be_last, holds_of, holds_at, has_stray_bits, breaks_rule_8, broken_at, broken_in, Listed, Refusal, refused, refusals_of, wrong_entries, refusals_from, IsAdmitted}
use Rattle.b67_load.specs.Broken.{rules_at}
use Rattle.b67_load.proofs.Operator.{operator_at-reads}
use Rattle.b67_bind.specs.Reasons.{proc_in}
use Rattle.b67_bind.specs.Bound.{change_op, change_entry}

-- ---- tests of which none is broken

abbrev pub AllFalse : List (ℕ × Bool) → Type 0
AllFalse tests = AllByRecursion (λ (t : ℕ × Bool). t.1 ≡ false) tests

nothing : {A : Type 0} (x : A) (xs : List A) → x ∷ xs ≡ [] → ⊥
nothing x xs e = cc

abbrev told : ℕ → Place → ℕ × Bool → Refusal
told number place t = record { segment = number; place = place; rule = t.0 }

pub refused-none : (number : ℕ) (place : Place) (tests : List (ℕ × Bool)) → refused number place tests ≡ [] → AllFalse tests
refused-none number place [] e = tt
refused-none number place (t ∷ tests) e = grind (arith, refused-none number place tests)

pub none-refused : (number : ℕ) (place : Place) (tests : List (ℕ × Bool)) → AllFalse tests → refused number place tests ≡ []
none-refused number place [] h = refl
none-refused number place (t ∷ tests) h = rw (h.0) (none-refused number place tests h.1)

all-left : (xs ys : List (ℕ × Bool)) → AllFalse (xs ++ ys) → AllFalse xs
all-left [] ys h = tt
all-left (x ∷ xs) ys h = (h.0, all-left xs ys h.1)

all-right : (xs ys : List (ℕ × Bool)) → AllFalse (xs ++ ys) → AllFalse ys
all-right [] ys h = h
all-right (x ∷ xs) ys h = all-right xs ys h.1

pub append-none : {A : Type 0} (xs ys : List A) → xs ++ ys ≡ [] → (xs ≡ []) × (ys ≡ [])
append-none [] ys e = (refl, e)
append-none (x ∷ xs) ys e = absurd (nothing x (xs ++ ys) e)

pub both-none : {A : Type 0} (xs ys : List A) → xs ≡ [] → ys ≡ [] → xs ++ ys ≡ []
both-none xs ys e f = ap (λ zs. zs ++ ys) e ∙ f

-- ---- of an entry

pub entry-own : (l : Listed) (e : Entry) → AllFalse (rules_at l e) → AllFalse (broken_at l e)
entry-own l e h = at_test (same_place (place_of_entry e) origin) h
  where
    at_test : (b : Bool) → AllFalse (cond b (broken_at l e ++ broken_in l) (broken_at l e)) → AllFalse (broken_at l e)
    at_test true h = all-left (broken_at l e) (broken_in l) h
    at_test false h = h

entry-whole : (l : Listed) (e : Entry) → AllFalse (broken_at l e) → AllFalse (broken_in l) → AllFalse (rules_at l e)
entry-whole l e h k = grind arith

-- ---- of a segment

-- a segment of a program, with its listing
abbrev pub listed_in : Program → ℕ → Segment → Listed
listed_in p n s = record { program = p; number = n; segment = s; entries = listing s.code }

pub record IsClean (l : Listed) : Type 0 where
  pub places : refusals_of l l.entries ≡ []
  pub entries : wrong_entries l l.segment.entries ≡ []

-- the rules on a segment's level stand at its first entry
first-entry : (l : Listed) (n : ℕ) (code : List ℕ) (read : Reading) → (read ≡ Err BadPlace → ⊥) → refusals_of l (entries_from (suc n) code origin read) ≡ [] → AllFalse (broken_in l)
first-entry l n code (Err BadPlace) other e = absurd (other refl)
first-entry l n code (Err NotAdmitted) other e = all-right (broken_at l (Break origin NotAdmitted)) (broken_in l) (refused-none l.number origin (broken_at l (Break origin NotAdmitted) ++ broken_in l) (append-none _ [] e).0)
first-entry l n code (Err PastEnd) other e = all-right (broken_at l (Break origin PastEnd)) (broken_in l) (refused-none l.number origin (broken_at l (Break origin PastEnd) ++ broken_in l) (append-none _ [] e).0)
first-entry l n code (Ok read) other e =
    all-right (broken_at l (At origin read.0)) (broken_in l) (refused-none l.number origin (broken_at l (At origin read.0) ++ broken_in l) (append-none _ (refusals_of l (entries_from n code read.1 (operator_at code read.1))) e).0)

pub level-clean : (p : Program) (n : ℕ) (s : Segment) → 1 ≤ length s.code → IsClean (listed_in p n s) → AllFalse (broken_in (listed_in p n s))
level-clean p n s some h =
    let l : Listed = listed_in p n s in
    at_fuel (6 * length s.code) (omega arith) h.places
  where
    inside : operator_at s.code origin ≡ Err BadPlace → ⊥
    inside e = operator_at-reads s.code origin BadPlace (record { word = some; syllable = lit< tt }) e refl

    at_fuel : (fuel : ℕ) → 1 ≤ fuel → refusals_of (listed_in p n s) (entries_from fuel s.code origin (operator_at s.code origin)) ≡ [] → AllFalse (broken_in (listed_in p n s))
    at_fuel zero le e = absurd (omega arith)
    at_fuel (suc k) le e = first-entry (listed_in p n s) k s.code (operator_at s.code origin) inside e

-- ---- of a program

pub segments-clean : (p : Program) (n i : ℕ) (segments : List Segment) (s : Segment) → refusals_from p n segments ≡ [] → slice_get segments i ≡ Some s → IsClean (listed_in p (n + i) s)
segments-clean p n i [] s e at = absurd (none-some s at)
segments-clean p n zero (t ∷ more) s e at = grind (arith, append-none)
segments-clean p n (suc i) (t ∷ more) s e at = grind (arith, append-none, segments-clean p (n + 1) i more s)

pub clean-segments : (p : Program) (n : ℕ) (segments : List Segment) → ((i : ℕ) (s : Segment) → slice_get segments i ≡ Some s → IsClean (listed_in p (n + i) s)) → refusals_from p n segments ≡ []
clean-segments p n [] h = refl
clean-segments p n (t ∷ more) h =
    let own : IsClean (listed_in p n t) = subst (λ (m : ℕ). IsClean (listed_in p m t)) (here n) (h zero t refl) in
    both-none _ (refusals_from p (n + 1) more) (both-none (refusals_of (listed_in p n t) (listing t.code)) (wrong_entries (listed_in p n t) t.entries) own.places own.entries)
    (clean-segments p (n + 1) more (λ i s at. subst (λ (m : ℕ). IsClean (listed_in p m s)) (next n i) (h (suc i) s at)))
  where
    here : (n : ℕ) → n + zero ≡ n
    here n = omega arith

    next : (n i : ℕ) → n + suc i ≡ n + 1 + i
    next n i = omega arith

pub program-clean : (p : Program) (i : ℕ) (s : Segment) → IsAdmitted p → slice_get p.segments i ≡ Some s → IsClean (listed_in p (1 + i) s)
program-clean p i s e at = segments-clean p 1 i p.segments s (at_test (eqb (length p.segments) 0) e) at
  where
    at_test : (b : Bool) → cond b (record { segment = 0; place = origin; rule = 10 } ∷ []) (refusals_from p 1 p.segments) ≡ [] → refusals_from p 1 p.segments ≡ []
    at_test true e = absurd (nothing _ _ e)
    at_test false e = e

pub some-segments : (p : Program) → IsAdmitted p → eqb (length p.segments) 0 ≡ false
some-segments p e = grind arith

pub clean-program : (p : Program) → eqb (length p.segments) 0 ≡ false → ((i : ℕ) (s : Segment) → slice_get p.segments i ≡ Some s → IsClean (listed_in p (1 + i) s)) → IsAdmitted p
clean-program p some h = rw some (clean-segments p 1 p.segments h)

-- ---- a segment that is alike but for the PCWs of its MPCWs

pub record Alike (f : ℕ → ℕ) (l m : Listed) : Type 0 where
  pub words : length m.segment.code ≡ length l.segment.code
  pub level : m.segment.level ≡ l.segment.level
  pub own : m.segment.entries ≡ l.segment.entries
  pub entries : m.entries ≡ map (change_entry f) l.entries

changed-target : (f : ℕ → ℕ) (o : Op) → target_of (change_op f o) ≡ target_of o
changed-target f o = grind arith

changed-couple : (f : ℕ → ℕ) (o : Op) → couple_bits (change_op f o) ≡ couple_bits o
changed-couple f o = grind arith

changed-last : (f : ℕ → ℕ) (o : Op) → may_be_last (change_op f o) ≡ may_be_last o
changed-last f o = grind arith

changed-proc : (f : ℕ → ℕ) (o : Op) → proc_bits (change_op f o) ≡ option_map f (proc_bits o)
changed-proc f o = grind arith

changed-place : (f : ℕ → ℕ) (e : Entry) → place_of_entry (change_entry f e) ≡ place_of_entry e
changed-place f e = grind arith

changed-start : (f : ℕ → ℕ) (entries : List Entry) (place : Place) → is_start (map (change_entry f) entries) place ≡ is_start entries place
changed-start f [] place = refl
changed-start f (e ∷ more) place = rw (changed-place f e, changed-start f more place) refl

changed-end : (f : ℕ → ℕ) (entries : List Entry) (place : Place) → is_last (map (change_entry f) entries) place ≡ is_last entries place
changed-end f [] place = refl
changed-end f (e ∷ []) place = rw (changed-place f e) refl
changed-end f (e ∷ d ∷ more) place = changed-end f (d ∷ more) place

outside-alike : (f : ℕ → ℕ) (l m : Listed) (place : Place) → Alike f l m → is_outside m.segment place ≡ is_outside l.segment place
outside-alike f l m place a = rw (a.words) refl

start-alike : (f : ℕ → ℕ) (l m : Listed) (place : Place) → Alike f l m → is_start m.entries place ≡ is_start l.entries place
start-alike f l m place a = ap (λ (es : List Entry). is_start es place) a.entries ∙ changed-start f l.entries place

end-alike : (f : ℕ → ℕ) (l m : Listed) (place : Place) → Alike f l m → is_last m.entries place ≡ is_last l.entries place
end-alike f l m place a = ap (λ (es : List Entry). is_last es place) a.entries ∙ changed-end f l.entries place

-- a PCW that breaks no rule goes over into one that breaks none
abbrev pub ProcGoesOver : (ℕ → ℕ) → Listed → Listed → ℕ → Type 0
ProcGoesOver f l m bits = has_stray_bits l.program bits ≡ false → breaks_rule_8 l bits ≡ false → (has_stray_bits m.program (f bits) ≡ false) × (breaks_rule_8 m (f bits) ≡ false)

abbrev misses : Listed → Place → Bool
misses l target = not (is_outside l.segment target) && not (is_start l.entries target)

abbrev is_high : Listed → ℕ → Bool
is_high l bits = ltb l.segment.level (couple bits l.segment.level).level

pub entry-alike : (f : ℕ → ℕ) (l m : Listed) (e : Entry) → Alike f l m → ((bits : ℕ) → proc_in e ≡ Some bits → ProcGoesOver f l m bits) → AllFalse (broken_at l e) → AllFalse (broken_at m (change_entry f e))
entry-alike f l m (Break place NotAdmitted) a procs h = h
entry-alike f l m (Break place PastEnd) a procs h = h
entry-alike f l m (Break place BadPlace) a procs h = h
entry-alike f l m (At place o) a procs h =
    let start : holds_at (target_of (change_op f o)) (misses m) ≡ false = ap (λ (t : Option Place). holds_at t (misses m)) (changed-target f o) ∙ targets (target_of o) h.0 in
    let leaves : holds_at (target_of (change_op f o)) (is_outside m.segment) ≡ false = ap (λ (t : Option Place). holds_at t (is_outside m.segment)) (changed-target f o) ∙ outside (target_of o) h.1.0 in
    let last : (is_last m.entries place && not (may_be_last (change_op f o))) ≡ false = rw (end-alike f l m place a, changed-last f o) h.1.1.0 in
    let couple : holds_of (couple_bits (change_op f o)) (is_high m) ≡ false = ap (λ (c : Option ℕ). holds_of c (is_high m)) (changed-couple f o) ∙ couples (couple_bits o) h.1.1.1.0 in
    let both = on_procs (proc_bits o) (λ bits is. procs bits is) h.1.1.1.1.0 h.1.1.1.1.1.0 in
    (start, (leaves, (last, (couple, (ap (λ (c : Option ℕ). holds_of c (has_stray_bits m.program)) (changed-proc f o) ∙ both.0, (ap (λ (c : Option ℕ). holds_of c (breaks_rule_8 m)) (changed-proc f o) ∙ both.1, tt))))))
  where
    targets : (t : Option Place) → holds_at t (misses l) ≡ false → holds_at t (misses m) ≡ false
    targets None h = refl
    targets (Some place) h = rw (outside-alike f l m place a, start-alike f l m place a) h

    outside : (t : Option Place) → holds_at t (is_outside l.segment) ≡ false → holds_at t (is_outside m.segment) ≡ false
    outside None h = refl
    outside (Some place) h = outside-alike f l m place a ∙ h

    couples : (c : Option ℕ) → holds_of c (is_high l) ≡ false → holds_of c (is_high m) ≡ false
    couples None h = refl
    couples (Some bits) h = rw (a.level) h

    on_procs : (c : Option ℕ) → ((bits : ℕ) → c ≡ Some bits → ProcGoesOver f l m bits) → holds_of c (has_stray_bits l.program) ≡ false → holds_of c (breaks_rule_8 l) ≡ false
        → (holds_of (option_map f c) (has_stray_bits m.program) ≡ false) × (holds_of (option_map f c) (breaks_rule_8 m) ≡ false)
    on_procs None go s r = (refl, refl)
    on_procs (Some bits) go s r = go bits refl s r

places-alike : (f : ℕ → ℕ) (l m : Listed) (entries : List Entry) → Alike f l m → AllFalse (broken_in m) → ((e : Entry) (bits : ℕ) → Has entries e → proc_in e ≡ Some bits → ProcGoesOver f l m bits)
    → refusals_of l entries ≡ [] → refusals_of m (map (change_entry f) entries) ≡ []
places-alike f l m [] a level procs none = refl
places-alike f l m (e ∷ more) a level procs none =
    let parts = append-none (refused l.number (place_of_entry e) (rules_at l e)) (refusals_of l more) none in
    let own : AllFalse (broken_at m (change_entry f e)) = entry-alike f l m e a (λ bits is. procs e bits (inl refl) is) (entry-own l e (refused-none l.number (place_of_entry e) (rules_at l e) parts.0)) in
    both-none (refused m.number (place_of_entry (change_entry f e)) (rules_at m (change_entry f e))) (refusals_of m (map (change_entry f) more))
    (none-refused m.number (place_of_entry (change_entry f e)) (rules_at m (change_entry f e)) (entry-whole m (change_entry f e) own level))
    (places-alike f l m more a level (λ d bits h is. procs d bits (inr h) is) parts.1)

wrong-alike : (f : ℕ → ℕ) (l m : Listed) (entries : List ℕ) → Alike f l m → wrong_entries l entries ≡ [] → wrong_entries m entries ≡ []
wrong-alike f l m [] a none = refl
wrong-alike f l m (e ∷ more) a none =
    let place : Place = place_of_bits e in
    let parts = append-none (refused l.number place ((11, not (is_start l.entries place)) ∷ [])) (wrong_entries l more) none in
    let tests : AllFalse ((11, not (is_start l.entries place)) ∷ []) = refused-none l.number place ((11, not (is_start l.entries place)) ∷ []) parts.0 in
    both-none (refused m.number place ((11, not (is_start m.entries place)) ∷ [])) (wrong_entries m more)
    (none-refused m.number place ((11, not (is_start m.entries place)) ∷ []) (rw (start-alike f l m place a) tests.0, tt)) (wrong-alike f l m more a parts.1)

-- it breaks no rule either
pub alike-clean : (f : ℕ → ℕ) (l m : Listed) → Alike f l m → AllFalse (broken_in m) → ((e : Entry) (bits : ℕ) → Has l.entries e → proc_in e ≡ Some bits → ProcGoesOver f l m bits) → IsClean l → IsClean m
alike-clean f l m a level procs clean = record {
  places = subst (λ (es : List Entry). refusals_of m es ≡ []) (sym a.entries) (places-alike f l m l.entries a level procs clean.places);
  entries = subst (λ (es : List ℕ). wrong_entries m es ≡ []) (sym a.own) (wrong-alike f l m l.segment.entries a clean.entries);
}
