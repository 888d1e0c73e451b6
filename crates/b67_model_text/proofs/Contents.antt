-- What the cards of a segment add, card by card, and where their labels stand.
use Rattle.std.proofs.Common.{◌⊎◌, inl, inr, ◌≡◌, ℕ, ◌+◌, ◌-◌, ◌*◌, ◌/◌, ◌%◌, ◌≤◌, ◌<◌, Bool, true, false, not, refl, sym, ◌∙◌, ap, subst, arith, cond, Option, Some, None, List, [], ◌∷◌, ◌++◌, length, min, Result, Ok, Err}
use Rattle.std.specs.Prelude.{nat_le, nat_lt, ◌&&◌, ◌==◌}
use Rattle.std.specs.Option.{option_map, option_and_then}
use Rattle.std.specs.List.{cons_option, list_any}
use Rattle.std.specs.Str.{bytes_eq}
use Rattle.std.proofs.lemmas.Bool.{leb-true, ltb-true, and_parts}
use Rattle.std.proofs.lemmas.Option.{same_Some, none-some}
use Rattle.std.proofs.lemmas.List.{length-append, length-replicate}
use Rattle.b67_word.specs.Couples.{couple_bits}
use Rattle.b67_model.specs.declared.operators.Op.{Op}
use Rattle.b67_model.specs.declared.operators.Op.TheVariants.{Valc, Namc, Lt8, Lt16, Lt48, Mpcw, Brun, Brtr, Brfl, Bset, Brst, Isol, Insr, Plain}
use Rattle.b67_model.specs.Encoding.{syllable_after}
use Rattle.b67_model_text.specs.declared.assembly.Call as call
use Rattle.b67_model_text.specs.declared.assembly.Call.TheVariants as calls
use Rattle.b67_model_text.specs.declared.assembly.Branch as branch
use Rattle.b67_model_text.specs.declared.assembly.Branch.TheVariants as branches
use Rattle.b67_model_text.specs.declared.assembly.Sketch as sketch
use Rattle.b67_model_text.specs.declared.assembly.Sketch.TheVariants.{Whole, OutOfRange, Couple as Coupled, Row as RowCoupled, Jump, Pcw, PcwAt}
use Rattle.b67_model_text.specs.declared.assembly.Statement as statement
use Rattle.b67_model_text.specs.declared.assembly.Statement.TheVariants as statements
use Rattle.b67_model_text.specs.declared.assembly.Line.{Line}
use Rattle.b67_model_text.specs.Answers.{Answer, ◌>>=◌}
use Rattle.b67_model_text.specs.Deck.{of_card}
use Rattle.b67_model_text.specs.Encoding.{filling, six_syllables}
use Rattle.b67_model_text.specs.Asm.{Scope, SegmentContent, after_sketch, is_in_range, pcw_in, pcw_at, label_in, row_in, call_operator, branch_to, denoted, is_first_label, has_names, has_label, has_entry, misplaced, fitted, entered, after_operator, card_operator, meaning, labels, label_at, syllable_after_card}
use Rattle.b67_model_text.specs.Pass.{Added, AddedOperator, AddedEntry, entry_added, added_by, syllable_behind, entries_behind, with_added, pass_content}
use Rattle.b67_model_text.proofs.Answers.{after_both, after_needs, err-ok}
use Rattle.b67_model.specs.declared.limits.TheConstants.{MOST_SEGMENT}

pub same_Ok : {A R : Type 0} (a b : A) → ◌≡◌ {A = Result A R} (Ok a) (Ok b) → a ≡ b
same_Ok a b e = cc

pub of_card_ok : {A : Type 0} (number : ℕ) (r : Answer A) (a : A) → of_card number r ≡ Ok a → r ≡ Ok a
of_card_ok number (Ok x) a e = let is : x ≡ a = cc in ap (λ y. Ok y) is
of_card_ok number (Err reason) a e = err-ok (record { card = number; reason = reason }) a _ e

pub mapped : {A B : Type 0} (f : A → B) (o : Option A) (b : B) → option_map f o ≡ Some b → (a : A) × (o ≡ Some a) × (f a ≡ b)
mapped f None b e = absurd (none-some b e)
mapped f (Some a) b e = (a, refl, same_Some (f a) b e)

-- ---- what a card adds

-- a card that has its operator at syllable n
pub record Taken (x : Scope) (n : ℕ) (label : Option (List ℕ)) (own : sketch.Sketch) (op : Op) : Type 0 where
  pub in_range : is_in_range own ≡ true
  pub first : is_first_label x.labels n label ≡ true
  pub denotes : denoted x own ≡ Some op
  pub room : after_operator n op ≤ 6 * MOST_SEGMENT
  pub enters : has_entry x.names own ≡ true

fits_there : (n : ℕ) (o : Option Op) (op : Op) → fitted n o ≡ Ok op → (o ≡ Some op) × (after_operator n op ≤ 6 * MOST_SEGMENT)
fits_there n None op e = err-ok 8 op _ (after_needs (nat_le (n + 2) (6 * MOST_SEGMENT)) 7 (Err 8) op e).1
fits_there n (Some own) op e =
    let t = after_needs (nat_le (after_operator n own) (6 * MOST_SEGMENT)) 7 (Ok own) op e in
    let is : own ≡ op = same_Ok own op t.1 in
    (ap (λ o. Some o) is, subst (λ o. after_operator n o ≤ 6 * MOST_SEGMENT) is (leb-true (after_operator n own) (6 * MOST_SEGMENT) t.0))

pub taken_of : (x : Scope) (n : ℕ) (label : Option (List ℕ)) (own : sketch.Sketch) (op : Op) → card_operator x n label own ≡ Ok op → Taken x n label own op
taken_of x n label own op e =
    let a = after_needs (is_in_range own) 3 _ op e in
    let b = after_needs (is_first_label x.labels n label) 4 _ op a.1 in
    let c = after_needs (has_names x.names own && has_label x.labels own) 5 _ op b.1 in
    let d = after_both (fitted n (denoted x own)) (entered x.names own) op c.1 in
    let f = after_needs (has_entry x.names own) 11 (Ok d.0) op d.2 in
    let is : d.0 ≡ op = same_Ok d.0 op f.1 in
    let g = fits_there n (denoted x own) op (d.1 ∙ ap (λ o. Ok o) is) in
    record { in_range = a.0; first = b.0; denotes = g.0; room = g.1; enters = f.0 }

pub record AddsOperator (x : Scope) (n : ℕ) (l : Line) (added : Added) : Type 0 where
  pub label : Option (List ℕ)
  pub own : sketch.Sketch
  pub op : Op
  pub says : l.says ≡ Ok (statements.Operator label own)
  pub taken : Taken x n label own op
  pub is : AddedOperator op ≡ added

pub record AddsEntry (x : Scope) (entries : List ℕ) (l : Line) (added : Added) : Type 0 where
  pub label : List ℕ
  pub syllable : ℕ
  pub says : l.says ≡ Ok (statements.Entry label)
  pub found : x.labels label ≡ Some syllable
  pub above : 0 < syllable
  pub fresh : list_any (λ m. m == syllable) entries ≡ false
  pub few : length entries < 255
  pub is : AddedEntry syllable ≡ added

above_zero : (n : ℕ) → not (n == 0) ≡ true → 0 < n
above_zero n e = grind arith

not_true : (b : Bool) → not b ≡ true → b ≡ false
not_true true e = absurd (let z : ⊥ = cc in z)
not_true false e = refl

entry_of : (x : Scope) (entries : List ℕ) (l : Line) (label : List ℕ) (o : Option ℕ) (added : Added) → l.says ≡ Ok (statements.Entry label) → x.labels label ≡ o → entry_added entries o ≡ Ok added → AddsEntry x entries l added
entry_of x entries l label None added says found e = err-ok 5 added _ e
entry_of x entries l label (Some n) added says found e =
    let a = after_needs (not (n == 0) && not (list_any (λ m. m == n) entries) && nat_lt (length entries) 255) 10 (Ok (AddedEntry n)) added e in
    let b = and_parts (not (n == 0) && not (list_any (λ m. m == n) entries)) (nat_lt (length entries) 255) a.0 in
    let c = and_parts (not (n == 0)) (not (list_any (λ m. m == n) entries)) b.0 in
    record {
      label = label;
      syllable = n;
      says = says;
      found = found;
      above = above_zero n c.0;
      fresh = not_true (list_any (λ m. m == n) entries) c.1;
      few = ltb-true (length entries) 255 b.1;
      is = same_Ok (AddedEntry n) added a.1;
    }

abbrev pub Adds : Scope → ℕ → List ℕ → Line → Added → Type 0
Adds x n entries l added = AddsOperator x n l added ⊎ AddsEntry x entries l added

adds_of : (x : Scope) (n : ℕ) (entries : List ℕ) (l : Line) (s : statement.Statement) (added : Added) → l.says ≡ Ok s → added_by x n entries s ≡ Ok added → Adds x n entries l added
adds_of x n entries l (statements.Operator label own) added says e =
    let a = after_both (card_operator x n label own) (λ op. Ok (AddedOperator op)) added e in
    inl (record { label = label; own = own; op = a.0; says = says; taken = taken_of x n label own a.0 a.1; is = same_Ok (AddedOperator a.0) added a.2 })
adds_of x n entries l (statements.Entry label) added says e = inr (entry_of x entries l label (x.labels label) added says refl e)
adds_of x n entries l (statements.Segment name level) added says e = err-ok (misplaced x.names (statements.Segment name level)) added _ e
adds_of x n entries l (statements.Row name) added says e = err-ok (misplaced x.names (statements.Row name)) added _ e
adds_of x n entries l (statements.Values first more) added says e = err-ok (misplaced x.names (statements.Values first more)) added _ e

-- the first card of these, and the cards behind it
pub record Headed (x : Scope) (n : ℕ) (entries : List ℕ) (l : Line) (more : List Line) (content : SegmentContent) : Type 0 where
  pub added : Added
  pub rest : SegmentContent
  pub adds : Adds x n entries l added
  pub behind_it : pass_content x (syllable_behind n added) (entries_behind entries added) more ≡ Ok rest
  pub all : with_added added rest ≡ content

pub headed : (x : Scope) (n : ℕ) (entries : List ℕ) (l : Line) (more : List Line) (content : SegmentContent) → pass_content x n entries (l ∷ more) ≡ Ok content → Headed x n entries l more content
headed x n entries l more content e =
    let a = after_both (of_card l.number (l.says >>= added_by x n entries)) (λ added. pass_content x (syllable_behind n added) (entries_behind entries added) more >>= λ rest. Ok (with_added added rest)) content e in
    let b = after_both (pass_content x (syllable_behind n a.0) (entries_behind entries a.0) more) (λ rest. Ok (with_added a.0 rest)) content a.2 in
    let c = after_both l.says (added_by x n entries) a.0 (of_card_ok l.number (l.says >>= added_by x n entries) a.0 a.1) in
    record { added = a.0; rest = b.0; adds = adds_of x n entries l c.0 a.0 c.1 c.2; behind_it = b.1; all = same_Ok (with_added a.0 b.0) content b.2 }

-- ---- the syllable behind a card

filled_length : (n : ℕ) → length (filling n) ≡ (6 - n % 6) % 6
filled_length n = length-replicate ((6 - n % 6) % 6) 0xFF

literal_next : (s n bits : ℕ) → 6 * (n / 6 + 2) ≡ n + length ((s ∷ []) ++ (filling (n + 1) ++ six_syllables bits))
literal_next s n bits = omega (arith, length-append (filling (n + 1)) (six_syllables bits), filled_length (n + 1))

-- the syllable behind an operator, as it is counted and as it is laid
pub next_is : (op : Op) (n : ℕ) → syllable_after op n ≡ after_operator n op
next_is (Valc bits) n = refl
next_is (Namc bits) n = refl
next_is (Lt8 bits) n = refl
next_is (Lt16 bits) n = refl
next_is (Lt48 bits) n = literal_next 0xBE n bits
next_is (Mpcw bits) n = literal_next 0xBF n bits
next_is (Brun place) n = refl
next_is (Brtr place) n = refl
next_is (Brfl place) n = refl
next_is (Bset bits) n = refl
next_is (Brst bits) n = refl
next_is (Isol high width) n = refl
next_is (Insr high width) n = refl
next_is (Plain code) n = refl

called_after : (c : call.Call) (bits n : ℕ) → syllable_after (call_operator c bits) n ≡ n + 2
called_after calls.Value bits n = refl
called_after calls.Name bits n = refl

branch_after : (b : branch.Branch) (m n : ℕ) → syllable_after (branch_to b m) n ≡ n + 3
branch_after branches.Always m n = refl
branch_after branches.IfTrue m n = refl
branch_after branches.IfFalse m n = refl

-- the syllable behind an operator, before and after its names are known
pub behind_is : (x : Scope) (s : sketch.Sketch) (op : Op) (n : ℕ) → denoted x s ≡ Some op → after_sketch s n ≡ after_operator n op
behind_is x s op n e = counted x s op n e ∙ next_is op n
  where
    counted : (x : Scope) (s : sketch.Sketch) (op : Op) (n : ℕ) → denoted x s ≡ Some op → after_sketch s n ≡ syllable_after op n
    counted x (Whole own) op n e = ap (λ o. syllable_after o n) (same_Some own op e)
    counted x OutOfRange op n e = absurd (none-some op e)
    counted x (Coupled c couple) op n e =
        let m = mapped (call_operator c) (option_and_then (couple_bits (min x.level 31)) couple) op e in
        sym (called_after c m.0 n) ∙ ap (λ o. syllable_after o n) m.2
    counted x (RowCoupled c row) op n e =
        let m = mapped (call_operator c) (option_and_then (λ number. couple_bits (min x.level 31) (record { level = 1; disp = x.segments + number + 2 })) (row_in (x.names.means row))) op e in
        sym (called_after c m.0 n) ∙ ap (λ o. syllable_after o n) m.2
    counted x (Jump b label) op n e =
        let m = mapped (branch_to b) (x.labels label) op e in
        sym (branch_after b m.0 n) ∙ ap (λ o. syllable_after o n) m.2
    counted x (Pcw segment) op n e =
        let m = mapped Mpcw (pcw_in (x.names.means segment)) op e in
        ap (λ o. syllable_after o n) m.2
    counted x (PcwAt segment label) op n e =
        let m = mapped Mpcw (pcw_at (pcw_in (x.names.means segment)) (label_in x.names (x.names.means segment) label)) op e in
        ap (λ o. syllable_after o n) m.2

-- the labels behind a card, as they are looked for and as its operator is laid
pub labels_behind : (x : Scope) (n : ℕ) (entries : List ℕ) (l : Line) (more : List Line) (added : Added) → Adds x n entries l added → labels n (l ∷ more) ≡ cons_option (label_at n l.says) (labels (syllable_behind n added) more)
labels_behind x n entries l more added (inl a) =
    let after : syllable_after_card n l.says ≡ syllable_behind n added = ap (syllable_after_card n) a.says ∙ behind_is x a.own a.op n a.taken.denotes ∙ ap (syllable_behind n) a.is in
    ap (λ (k : ℕ). cons_option (label_at n l.says) (labels k more)) after
labels_behind x n entries l more added (inr a) =
    let after : syllable_after_card n l.says ≡ syllable_behind n added = ap (syllable_after_card n) a.says ∙ ap (syllable_behind n) a.is in
    ap (λ (k : ℕ). cons_option (label_at n l.says) (labels k more)) after

-- ---- labels stand within the longest segment

one_small : (n : ℕ) (o : Option (List ℕ × ℕ)) (rest : List (List ℕ × ℕ)) (q : List ℕ) (m : ℕ) → o ≡ None ⊎ ((text : List ℕ) × (o ≡ Some (text, n)) × (n ≤ 6 * MOST_SEGMENT)) → (meaning rest q ≡ Some m → m ≤ 6 * MOST_SEGMENT) → meaning (cons_option o rest) q ≡ Some m → m ≤ 6 * MOST_SEGMENT
one_small n o rest q m (inl none) go e = go (subst (λ (o : Option (List ℕ × ℕ)). meaning (cons_option o rest) q ≡ Some m) none e)
one_small n o rest q m (inr some) go e = by_test (bytes_eq q some.0) (subst (λ (o : Option (List ℕ × ℕ)). meaning (cons_option o rest) q ≡ Some m) some.1 e)
  where
    by_test : (b : Bool) → cond b (Some n) (meaning rest q) ≡ Some m → m ≤ 6 * MOST_SEGMENT
    by_test true e = omega (arith, same_Some n m e, some.2)
    by_test false e = go e

label_of : (n : ℕ) (label : Option (List ℕ)) → n ≤ 6 * MOST_SEGMENT → option_map {U = List ℕ × ℕ} (λ text. (text, n)) label ≡ None ⊎ ((text : List ℕ) × (option_map {U = List ℕ × ℕ} (λ text. (text, n)) label ≡ Some (text, n)) × (n ≤ 6 * MOST_SEGMENT))
label_of n None low = inl refl
label_of n (Some text) low = inr (text, refl, low)

here_small : (x : Scope) (n : ℕ) (entries : List ℕ) (l : Line) (added : Added) → Adds x n entries l added → label_at n l.says ≡ None ⊎ ((text : List ℕ) × (label_at n l.says ≡ Some (text, n)) × (n ≤ 6 * MOST_SEGMENT))
here_small x n entries l added (inl a) =
    subst (λ (s : Answer statement.Statement). label_at n s ≡ None ⊎ ((text : List ℕ) × (label_at n s ≡ Some (text, n)) × (n ≤ 6 * MOST_SEGMENT))) (sym a.says) (label_of n a.label (omega (arith, a.taken.room)))
here_small x n entries l added (inr a) = inl (ap (label_at n) a.says)

pub label_small : (x : Scope) (n : ℕ) (entries : List ℕ) (lines : List Line) (content : SegmentContent) (q : List ℕ) (m : ℕ) → pass_content x n entries lines ≡ Ok content → meaning (labels n lines) q ≡ Some m → m ≤ 6 * MOST_SEGMENT
label_small x n entries [] content q m e is = absurd (none-some m is)
label_small x n entries (l ∷ more) content q m e is =
    let h = headed x n entries l more content e in
    one_small n (label_at n l.says) (labels (syllable_behind n h.added) more) q m (here_small x n entries l h.added h.adds)
    (λ there. label_small x (syllable_behind n h.added) (entries_behind entries h.added) more h.rest q m h.behind_it there)
    (subst (λ (rows : List (List ℕ × ℕ)). meaning rows q ≡ Some m) (labels_behind x n entries l more h.added h.adds) is)
