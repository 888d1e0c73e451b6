-- Definitions and labels, card by card.
use Rattle.std.proofs.Common.{◌≡◌, ◌<◌, ◌≤◌, ◌+◌, ◌-◌, ◌*◌, ℕ, zero, suc, Bool, true, false, List, [], ◌∷◌, length, take, drop, get_or, ◌||◌, ◌&&◌, not, ◌++◌, Option, Result, Ok, Err, append_assoc, refl, sym, ap, subst, ◌∙◌, arith}
use Rattle.std.specs.Prelude.{slice_get, unwrap_or}
use Rattle.std.proofs.Math.Seq.{drop-cons}
use Rattle.std.proofs.lemmas.List.{append-nil, length-append}
use Rattle.std.specs.Option.{option_or}
use Rattle.std.specs.List.{cons_option, list_any}
use Rattle.b67_model_text.specs.declared.assembly.Line.{Line}
use Rattle.b67_model_text.specs.declared.assembly.Named.{Named}
use Rattle.b67_model_text.specs.declared.assembly.Statement as statement
use Rattle.b67_model_text.specs.declared.assembly.Statement.TheVariants as statements
use Rattle.b67_model_text.specs.Answers.{Answer, ◌>>=◌}
use Rattle.b67_model_text.specs.Asm.{meaning, definition, definitions, segments_behind, rows_behind, labels, label_at, syllable_after_card, names_entry, with_cards, cards_of_segments, own, is_entry, is_place, Scope, SegmentContent, content_of, after_operator}
use Rattle.b67_model_text.specs.Pass.{Added, AddedOperator, AddedEntry, syllable_behind, entries_behind, with_added, pass_content}
use Rattle.b67_model_text.specs.Deck.{Refusal, of_card}
use Rattle.b67_model_text.specs.Encoding.{laid_one, laid}
use Rattle.b67_model_text.proofs.Pass.{content_is}
use Rattle.b67_asm.specs.Putting.{laid_added, line_added, put_behind, code_weight, code_count}
use Rattle.b67_asm.specs.Names.{label_entries}
use Rattle.b67_asm.specs.declared.names.Labels.{Labels}
use Rattle.b67_asm.specs.Scope.{begins_segment, HoldsLabels, HoldLabels, label_syllable, is_entry_of}
use Rattle.b67_asm.proofs.NamesLaw.{grown, or_rest}
use Rattle.b67_asm.proofs.Program.{rest_is}
use Rattle.b67_model.specs.declared.limits.TheConstants.{MOST_SEGMENT}

pub drop_item : {A : Type 0} (xs : List A) (i : ℕ) (x : A) → i < length xs → x ≡ get_or xs i x → drop i xs ≡ x ∷ drop (i + 1) xs
drop_item xs i x lt e =
    let one : suc i ≡ i + 1 = omega arith in
    drop-cons xs i x lt ∙ ap (λ z. z ∷ drop (suc i) xs) (sym e) ∙ ap (λ (n : ℕ). x ∷ drop n xs) one

pub names_grown : (old new all : List (List ℕ × Named)) (lines : List Line) (item : Line) (i s r s' r' : ℕ) → i < length lines → item ≡ get_or lines i item → s' ≡ segments_behind s item.says → r' ≡ rows_behind r item.says → ((q : List ℕ) → meaning new q ≡ option_or (meaning old q) (meaning (cons_option (definition s r item.says) []) q)) → ((q : List ℕ) → option_or (meaning old q) (meaning (definitions s r (drop i lines)) q) ≡ meaning all q) → (q : List ℕ) → option_or (meaning new q) (meaning (definitions s' r' (drop (i + 1) lines)) q) ≡ meaning all q
names_grown old new all lines item i s r s' r' lt is es er step before q =
    let cons = drop_item lines i item lt is in
    ap (λ (n : ℕ). option_or (meaning new q) (meaning (definitions n r' (drop (i + 1) lines)) q)) es ∙ ap (λ (n : ℕ). option_or (meaning new q) (meaning (definitions (segments_behind s item.says) n (drop (i + 1) lines)) q)) er ∙ grown old new (definition s r item.says) (definitions (segments_behind s item.says) (rows_behind r item.says) (drop (i + 1) lines)) all step (λ p. ap (λ (ls : List Line). option_or (meaning old p) (meaning (definitions s r ls) p)) (sym cons) ∙ before p) q

pub labels_grown : (old new all : List (List ℕ × ℕ)) (lines : List Line) (item : Line) (i n n' : ℕ) → i < length lines → item ≡ get_or lines i item → n' ≡ syllable_after_card n item.says → ((q : List ℕ) → meaning new q ≡ option_or (meaning old q) (meaning (cons_option (label_at n item.says) []) q)) → ((q : List ℕ) → option_or (meaning old q) (meaning (labels n (drop i lines)) q) ≡ meaning all q) → (q : List ℕ) → option_or (meaning new q) (meaning (labels n' (drop (i + 1) lines)) q) ≡ meaning all q
labels_grown old new all lines item i n n' lt is en step before q =
    let cons = drop_item lines i item lt is in
    ap (λ (m : ℕ). option_or (meaning new q) (meaning (labels m (drop (i + 1) lines)) q)) en ∙ grown old new (label_at n item.says) (labels (syllable_after_card n item.says) (drop (i + 1) lines)) all step (λ p. ap (λ (ls : List Line). option_or (meaning old p) (meaning (labels n ls) p)) (sym cons) ∙ before p) q

pub entries_grown : (old new : Bool) (lines : List Line) (item : Line) (i : ℕ) (q : List ℕ) (all : Bool) → i < length lines → item ≡ get_or lines i item → new ≡ (old || names_entry q item.says) → (old || list_any (λ (l : Line). names_entry q l.says) (drop i lines)) ≡ all → (new || list_any (λ (l : Line). names_entry q l.says) (drop (i + 1) lines)) ≡ all
entries_grown old new lines item i q all lt is step before =
    or_rest old (names_entry q item.says) (list_any (λ (l : Line). names_entry q l.says) (drop (i + 1) lines)) new all step (ap (λ (ls : List Line). old || list_any (λ (l : Line). names_entry q l.says) ls) (sym (drop_item lines i item lt is)) ∙ before)

-- ---- the labels of all segments

pub hold_more : (held : List Labels) (done : List (List Line)) (labels : Labels) (lines : List Line) → HoldLabels held done → HoldsLabels labels lines → HoldLabels (held ++ labels ∷ []) (done ++ lines ∷ [])
hold_more [] [] labels lines h one = (one, tt)
hold_more [] (d ∷ done) labels lines h one = absurd h
hold_more (x ∷ held) [] labels lines h one = absurd h
hold_more (x ∷ held) (d ∷ done) labels lines h one = (h.0, hold_more held done labels lines h.1 one)

pub begun : (says : Answer statement.Statement) (cards : List Line) (rest : List (List Line)) → begins_segment says ≡ true → with_cards says cards rest ≡ cards ∷ rest
begun (Ok (statements.Segment name level)) cards rest e = refl
begun (Ok (statements.Row name)) cards rest e = absurd (let z : ⊥ = cc in z)
begun (Ok (statements.Values first more)) cards rest e = absurd (let z : ⊥ = cc in z)
begun (Ok (statements.Operator label own)) cards rest e = absurd (let z : ⊥ = cc in z)
begun (Ok (statements.Entry label)) cards rest e = absurd (let z : ⊥ = cc in z)
begun (Err reason) cards rest e = absurd (let z : ⊥ = cc in z)

pub not_begun : (says : Answer statement.Statement) (cards : List Line) (rest : List (List Line)) → begins_segment says ≡ false → with_cards says cards rest ≡ rest
not_begun (Ok (statements.Segment name level)) cards rest e = absurd (let z : ⊥ = cc in z)
not_begun (Ok (statements.Row name)) cards rest e = refl
not_begun (Ok (statements.Values first more)) cards rest e = refl
not_begun (Ok (statements.Operator label own)) cards rest e = refl
not_begun (Ok (statements.Entry label)) cards rest e = refl
not_begun (Err reason) cards rest e = refl

-- the labels of the first segments are held, and with the others they are all
abbrev pub HeldSoFar : List Labels → (rest all : List Line) → Type 0
HeldSoFar held rest all = (done : List (List Line)) × HoldLabels held done × (done ++ cards_of_segments rest ≡ cards_of_segments all)

pub one_held : (held now : List Labels) (labels : Labels) (l : Line) (more all : List Line) → HeldSoFar held (l ∷ more) all → begins_segment l.says ≡ true → HoldsLabels labels (own more) → now ≡ held ++ labels ∷ [] → HeldSoFar now more all
one_held held now labels l more all h begins one grown =
    let cards = ap (λ (rest : List (List Line)). h.0 ++ rest) (begun l.says (own more) (cards_of_segments more) begins) in
    (h.0 ++ own more ∷ [], subst (λ (ls : List Labels). HoldLabels ls (h.0 ++ own more ∷ [])) (sym grown) (hold_more held h.0 labels (own more) h.1 one), append_assoc h.0 (own more ∷ []) (cards_of_segments more) ∙ sym cards ∙ h.2)

pub one_held_behind : (held now : List Labels) (labels : Labels) (rest all : List Line) (item : Line) (lines : List Line) → 1 ≤ length rest → item ≡ get_or rest 0 item → lines ≡ own (take (length rest - 1) (drop 1 rest)) → begins_segment item.says ≡ true → HoldsLabels labels lines → now ≡ held ++ labels ∷ [] → HeldSoFar held rest all → HeldSoFar now (take (length rest - 1) (drop 1 rest)) all
one_held_behind held now labels [] all item lines some is o begins one grown h = absurd (omega (arith, some))
one_held_behind held now labels (l ∷ more) all item lines some is o begins one grown h =
    let cut : take (length (l ∷ more) - 1) more ≡ more = rest_is 1 (l ∷ more) in
    subst (λ (ls : List Line). HeldSoFar now ls all) (sym cut)
    (one_held held now labels l more all h (ap (λ (x : Line). begins_segment x.says) (sym is) ∙ begins) (subst (HoldsLabels labels) (o ∙ ap own cut) one) grown)

pub none_held : (held : List Labels) (l : Line) (more all : List Line) → HeldSoFar held (l ∷ more) all → begins_segment l.says ≡ false → HeldSoFar held more all
none_held held l more all h begins = (h.0, h.1, ap (λ (rest : List (List Line)). h.0 ++ rest) (sym (not_begun l.says (own more) (cards_of_segments more) begins)) ∙ h.2)

-- a label's syllable is that of the segment's own cards
pub syllable_is : (held : List Labels) (cards : List (List Line)) (n : ℕ) (q : List ℕ) → HoldLabels held cards → label_syllable (slice_get held n) q ≡ meaning (labels 0 (unwrap_or (slice_get cards n) [])) q
syllable_is [] [] n q h = refl
syllable_is [] (d ∷ cards) n q h = absurd h
syllable_is (x ∷ held) [] n q h = absurd h
syllable_is (x ∷ held) (d ∷ cards) zero q h = h.0.places q
syllable_is (x ∷ held) (d ∷ cards) (suc n) q h = syllable_is held cards n q h.1

pub entry_is : (held : List Labels) (cards : List (List Line)) (n : ℕ) (q : List ℕ) → HoldLabels held cards → is_entry_of (slice_get held n) q ≡ is_entry (unwrap_or (slice_get cards n) []) q
entry_is [] [] n q h = refl
entry_is [] (d ∷ cards) n q h = absurd h
entry_is (x ∷ held) [] n q h = absurd h
entry_is (x ∷ held) (d ∷ cards) zero q h = ap (λ (b : Bool). b && not (is_place 0 (meaning (label_entries x.places.entries) q))) (h.0.entries q) ∙ ap (λ (o : Option ℕ). list_any (λ (l : Line). names_entry q l.says) d && not (is_place 0 o)) (h.0.places q)
entry_is (x ∷ held) (d ∷ cards) (suc n) q h = entry_is held cards n q h.1

-- ---- the content of a segment, card by card

behind_length : (added : Added) (out new : List ℕ) → new ≡ out ++ laid_added (length out) added → length new ≡ syllable_behind (length out) added
behind_length (AddedOperator op) out new e = ap length e ∙ length-append out (laid_one (length out) op)
behind_length (AddedEntry m) out new e = ap length e ∙ ap length (append-nil out)

abbrev answered : List ℕ → List ℕ → Result (List ℕ × List ℕ) Refusal
answered syllables entries = Ok (syllables, entries)

put_rest : (added : Added) (out new : List ℕ) → new ≡ out ++ laid_added (length out) added → (r : Result SegmentContent Refusal) → put_behind out (r >>= λ rest. Ok (with_added added rest)) ≡ put_behind new r
put_rest (AddedOperator op) out new e (Ok c) =
    let len = behind_length (AddedOperator op) out new e in
    let words : out ++ (laid_one (length out) op ++ laid (after_operator (length out) op) c.operators) ≡ new ++ laid (length new) c.operators =
    sym (append_assoc out (laid_one (length out) op) (laid (after_operator (length out) op) c.operators)) ∙ ap (λ (z : List ℕ). z ++ laid (after_operator (length out) op) c.operators) (sym e) ∙ ap (λ (k : ℕ). new ++ laid k c.operators) (sym len) in
    ap (λ (z : List ℕ). answered z c.entries) words
put_rest (AddedEntry m) out new e (Ok c) = let same : new ≡ out = e ∙ append-nil out in ap (λ (z : List ℕ). put_behind z (Ok c)) (sym same)
put_rest (AddedOperator op) out new e (Err refusal) = refl
put_rest (AddedEntry m) out new e (Err refusal) = refl

pub line_put : (x : Scope) (lines : List Line) (item : Line) (i : ℕ) (out new entries entries' : List ℕ) (added : Added) (all : Result (List ℕ × List ℕ) Refusal) → i < length lines → item ≡ get_or lines i item → line_added x (length out) entries item ≡ Ok added → new ≡ out ++ laid_added (length out) added → entries' ≡ entries_behind entries added
    → put_behind out (pass_content x (length out) entries (drop i lines)) ≡ all → put_behind new (pass_content x (length new) entries' (drop (i + 1) lines)) ≡ all
line_put x lines item i out new entries entries' added all lt is e n s before =
    let more = drop (i + 1) lines in
    let cons = drop_item lines i item lt is in
    ap (λ (k : ℕ). put_behind new (pass_content x k entries' more)) (behind_length added out new n)
    ∙ ap (λ (z : List ℕ). put_behind new (pass_content x (syllable_behind (length out) added) z more)) s
    ∙ sym (put_rest added out new n (pass_content x (syllable_behind (length out) added) (entries_behind entries added) more))
    ∙ ap (λ (a : Answer Added). put_behind out (of_card item.number a >>= λ added. pass_content x (syllable_behind (length out) added) (entries_behind entries added) more >>= λ rest. Ok (with_added added rest))) (sym e)
    ∙ ap (λ (ls : List Line). put_behind out (pass_content x (length out) entries ls)) (sym cons)
    ∙ before

-- nothing is written yet
pub first_put : (x : Scope) (lines : List Line) (out entries : List ℕ) → out ≡ [] → entries ≡ [] → (length out ≤ 6 * MOST_SEGMENT) × (code_count lines ≤ length out + code_count lines) × (put_behind out (pass_content x (length out) entries lines) ≡ put_behind [] (content_of x lines))
first_put x lines out entries o e = (
  omega (arith, ap length o),
  omega arith,
  ap (λ (z : List ℕ). put_behind z (pass_content x (length z) entries lines)) o ∙ ap (λ (z : List ℕ). put_behind [] (pass_content x 0 z lines)) e ∙ ap (put_behind []) (sym (content_is x lines)),
)

pub count_put : (lines : List Line) (item : Line) (i n m : ℕ) → i < length lines → item ≡ get_or lines i item → n + code_weight item ≤ m → code_count lines ≤ n + code_count (drop i lines) → code_count lines ≤ m + code_count (drop (i + 1) lines)
count_put lines item i n m lt is grows before = omega (arith, ap code_count (drop_item lines i item lt is), grows, before)
