-- What is read for a segment's cards.
use Rattle.std.proofs.Common.{◌⊎◌, inl, inr, ◌≡◌, ℕ, zero, suc, ◌+◌, ◌-◌, ◌*◌, ◌/◌, ◌%◌, ◌^◌, ◌<◌, ◌≤◌, Bool, true, false, refl, sym, ◌∙◌, ap, subst, arith, cond, Option, Some, None, List, [], ◌∷◌, length, map, replicate, min, Ok}
use Rattle.std.specs.Option.{option_map}
use Rattle.std.specs.List.{AllByRecursion, cons_option}
use Rattle.std.specs.Str.{bytes_eq}
use Rattle.std.proofs.lemmas.Bool.{eqb-true}
use Rattle.std.proofs.lemmas.Option.{same_Some, none-some}
use Rattle.std.proofs.lemmas.Slice.Eq.{bytes_eq-Decides}
use Rattle.b67_word.specs.declared.couples.Place.{Place}
use Rattle.b67_model.specs.declared.operators.Op.{Op}
use Rattle.b67_model.specs.declared.operators.Op.TheVariants.{Mpcw, Plain}
use Rattle.b67_model.specs.declared.operators.Code.TheVariants.{Nvld}
use Rattle.b67_model.specs.Common.{place_at, place_of_bits, Entry, origin, listing}
use Rattle.b67_model_text.specs.declared.assembly.Branch.TheVariants as branches
use Rattle.b67_model_text.specs.declared.assembly.Sketch as sketch
use Rattle.b67_model_text.specs.declared.assembly.Sketch.TheVariants.{Whole, OutOfRange, Couple as Coupled, Row as RowCoupled, Jump, Pcw, PcwAt}
use Rattle.b67_model_text.specs.declared.assembly.Statement as statement
use Rattle.b67_model_text.specs.declared.assembly.Statement.TheVariants as statements
use Rattle.b67_model_text.specs.declared.assembly.Named.TheVariants as means
use Rattle.b67_model_text.specs.declared.assembly.Line.{Line}
use Rattle.b67_model_text.specs.Answers.{Answer}
use Rattle.b67_model_text.specs.Encoding.{code_words}
use Rattle.b67_model_text.specs.Asm.{Names, Scope, SegmentContent, is_place, is_first_label, pcw_in, label_in, syllable_bits, pcw_at, denoted, after_operator, content_of, meaning, labels, label_at}
use Rattle.b67_model_text.specs.Pass.{Added, AddedOperator, syllable_behind, entries_behind, with_added, pass_content}
use Rattle.b67_model_text.proofs.Contents.{same_Ok, mapped, Adds, headed, labels_behind, label_small}
use Rattle.b67_model_text.proofs.Pass.{content_is}
use Rattle.b67_law_examples.specs.Operators.{AllHaveBits, filled, listed_entries}
use Rattle.b67_law_examples.specs.Listing.{begins_at, HasLabel, Labels, IsLabelled, IsListed, LabelStandsAt, GoesTo, IsFilled, AreFilled, Reads, AreRead}
use Rattle.b67_law_examples.proofs.Laying.{listing_is}
use Rattle.b67_law_examples.proofs.Denoting.{AreSmall, pcw_small, at_label, denoted_bits}
use Rattle.b67_law_examples.proofs.Entries.{are_entered}
use Rattle.b67_model.specs.declared.limits.TheConstants.{MOST_SEGMENT}

operators_bits : (x : Scope) (n : ℕ) (entries : List ℕ) (lines : List Line) (content : SegmentContent) → AreSmall x.names → pass_content x n entries lines ≡ Ok content → AllHaveBits content.operators
operators_bits x n entries [] content small e = subst (λ (c : SegmentContent). AllHaveBits c.operators) (same_Ok _ content e) tt
operators_bits x n entries (l ∷ more) content small e =
    let h = headed x n entries l more content e in
    subst (λ (c : SegmentContent). AllHaveBits c.operators) h.all
    (by h.added h.rest h.adds (operators_bits x (syllable_behind n h.added) (entries_behind entries h.added) more h.rest small h.behind_it))
  where
    by : (added : Added) (rest : SegmentContent) → Adds x n entries l added → AllHaveBits rest.operators → AllHaveBits (with_added added rest).operators
    by added rest (inl a) h = subst (λ (z : Added). AllHaveBits (with_added z rest).operators) a.is (denoted_bits x a.own a.op small a.taken.in_range a.taken.denotes, h)
    by added rest (inr a) h = subst (λ (z : Added). AllHaveBits (with_added z rest).operators) a.is h

abbrev pub LabelsAreSmall : (List ℕ → Option ℕ) → Type 0
LabelsAreSmall labels = (q : List ℕ) (m : ℕ) → labels q ≡ Some m → m ≤ 6 * MOST_SEGMENT

-- the labels of all segments
abbrev pub AllLabelsAreSmall : Names → Type 0
AllLabelsAreSmall names = (number : ℕ) → LabelsAreSmall (names.label number)

stands_there : (n : ℕ) (o : Option ℕ) → is_place n o ≡ true → option_map place_at o ≡ Some (place_at n)
stands_there n o e = grind arith

stands_at : (labels : List ℕ → Option ℕ) (n : ℕ) (label : Option (List ℕ)) → is_first_label labels n label ≡ true → LabelStandsAt labels label (place_at n)
stands_at h n label e = grind arith

place_is : (a b : Place) → a.word ≡ b.word → a.syllable ≡ b.syllable → a ≡ b
place_is a b w s = λ i. record { word = w i; syllable = s i }

-- the place in a procedure's bits
first_place : (bits : ℕ) → bits < 2 ^ 19 → place_of_bits (bits / 2 ^ 20) ≡ origin
first_place bits low = place_is (place_of_bits (bits / 2 ^ 20)) origin (omega (arith, low)) (omega (arith, low))

goes_to : (x : Scope) (s : sketch.Sketch) (op : Op) → AreSmall x.names → AllLabelsAreSmall x.names → LabelsAreSmall x.labels → denoted x s ≡ Some op → GoesTo x s op
goes_to x (Jump b label) op small all own e = grind arith
goes_to x (Whole op') op small all own e = tt
goes_to x OutOfRange op small all own e = tt
goes_to x (Coupled c couple) op small all own e = tt
goes_to x (RowCoupled c row) op small all own e = tt
goes_to x (Pcw segment) op small all own e =
    let m = mapped Mpcw (pcw_in (x.names.means segment)) op e in
    ap begins_at (sym m.2) ∙ ap Some (first_place m.0 (pcw_small (x.names.means segment) m.0 (small segment) m.1))
goes_to x (PcwAt segment label) op small all own e =
    let m = mapped Mpcw (pcw_at (pcw_in (x.names.means segment)) (label_in x.names (x.names.means segment) label)) op e in
    grind arith

-- NVLD up to a whole word
filling_each : (k n : ℕ) → AllByRecursion IsFilled (listed_entries n (replicate k (Plain Nvld)))
filling_each zero n = tt
filling_each (suc k) n = (refl, filling_each k (after_operator n (Plain Nvld)))

filling_few : (k n : ℕ) → length (listed_entries n (replicate k (Plain Nvld))) ≡ k
filling_few zero n = refl
filling_few (suc k) n = omega (arith, filling_few k (after_operator n (Plain Nvld)))

filling_is : (n : ℕ) → AreFilled (listed_entries n (replicate ((6 - n % 6) % 6) (Plain Nvld)))
filling_is n = record { few = omega (arith, filling_few ((6 - n % 6) % 6) n); each = filling_each ((6 - n % 6) % 6) n }

-- the listing of a content's operators from syllable n on
abbrev listed : ℕ → SegmentContent → List Entry
listed n content = listed_entries n (filled n content.operators)

are_read : (x : Scope) (n : ℕ) (entries : List ℕ) (lines : List Line) (content : SegmentContent) → AreSmall x.names → AllLabelsAreSmall x.names → LabelsAreSmall x.labels → pass_content x n entries lines ≡ Ok content → AreRead x lines (listed n content)
are_read x n entries [] content small all own e = subst (λ (c : SegmentContent). AreRead x [] (listed n c)) (same_Ok _ content e) (filling_is n)
are_read x n entries (l ∷ more) content small all own e =
    let h = headed x n entries l more content e in
    subst (λ (c : SegmentContent). AreRead x (l ∷ more) (listed n c)) h.all
    (by h.added h.rest h.adds (are_read x (syllable_behind n h.added) (entries_behind entries h.added) more h.rest small all own h.behind_it))
  where
    by : (added : Added) (rest : SegmentContent) → Adds x n entries l added → AreRead x more (listed (syllable_behind n added) rest) → AreRead x (l ∷ more) (listed n (with_added added rest))
    by added rest (inl a) h =
        let there : AreRead x more (listed (after_operator n a.op) rest) = subst (λ (z : Added). AreRead x more (listed (syllable_behind n z) rest)) (sym a.is) h in
        subst (λ (z : Added). Reads x l l.says (listed n (with_added z rest)) (AreRead x more)) a.is
        (subst (λ (s : Answer statement.Statement). Reads x l s (listed n (with_added (AddedOperator a.op) rest)) (AreRead x more)) (sym a.says) (
          record {
            label = a.label;
            sketch = a.own;
            says = a.says;
            denotes = a.taken.denotes;
            stands = stands_at x.labels n a.label a.taken.first;
            goes = goes_to x a.own a.op small all own a.taken.denotes;
            enters = a.taken.enters;
          },
          there,
        ))
    by added rest (inr a) h =
        let there : AreRead x more (listed n rest) = subst (λ (z : Added). AreRead x more (listed (syllable_behind n z) rest)) (sym a.is) h in
        subst (λ (z : Added). Reads x l l.says (listed n (with_added z rest)) (AreRead x more)) a.is
        (subst (λ (s : Answer statement.Statement). Reads x l s (listed n rest) (AreRead x more)) (sym a.says) there)

-- a label that means a place stands on a card that is read there
labelled : (x : Scope) (n : ℕ) (entries : List ℕ) (lines : List Line) (content : SegmentContent) (q : List ℕ) (m : ℕ) → pass_content x n entries lines ≡ Ok content → meaning (labels n lines) q ≡ Some m → IsLabelled q (place_at m) lines (listed n content)
labelled x n entries [] content q m e is = absurd (none-some m is)
labelled x n entries (l ∷ more) content q m e is =
    let h = headed x n entries l more content e in
    subst (λ (c : SegmentContent). IsLabelled q (place_at m) (l ∷ more) (listed n c)) h.all
    (by h.added h.rest h.adds (λ there. labelled x (syllable_behind n h.added) (entries_behind entries h.added) more h.rest q m h.behind_it there)
    (subst (λ (rows : List (List ℕ × ℕ)). meaning rows q ≡ Some m) (labels_behind x n entries l more h.added h.adds) is))
  where
    by_test : (rows : List (List ℕ × ℕ)) (rest : List Entry) (own : sketch.Sketch) (text : List ℕ) → l.says ≡ Ok (statements.Operator (Some text) own) → (meaning rows q ≡ Some m → IsLabelled q (place_at m) more rest) → (b : Bool) → bytes_eq q text ≡ b → cond b (Some n) (meaning rows q) ≡ Some m → (HasLabel q l × (place_at n ≡ place_at m)) ⊎ IsLabelled q (place_at m) more rest
    by_test rows rest own text says go true t e =
        let same : text ≡ q = sym ((bytes_eq-Decides q text).0 t) in
        inl ((own, says ∙ ap (λ z. Ok (statements.Operator (Some z) own)) same), ap place_at (same_Some n m e))
    by_test rows rest own text says go false t e = inr (go e)

    by_label : (rows : List (List ℕ × ℕ)) (rest : List Entry) (own : sketch.Sketch) (label : Option (List ℕ)) → l.says ≡ Ok (statements.Operator label own) → (meaning rows q ≡ Some m → IsLabelled q (place_at m) more rest) → meaning (cons_option (option_map (λ text. (text, n)) label) rows) q ≡ Some m → (HasLabel q l × (place_at n ≡ place_at m)) ⊎ IsLabelled q (place_at m) more rest
    by_label rows rest own None says go e = inr (go e)
    by_label rows rest own (Some text) says go e = by_test rows rest own text says go (bytes_eq q text) refl e

    by : (added : Added) (rest : SegmentContent) → Adds x n entries l added → (meaning (labels (syllable_behind n added) more) q ≡ Some m → IsLabelled q (place_at m) more (listed (syllable_behind n added) rest))
        → meaning (cons_option (label_at n l.says) (labels (syllable_behind n added) more)) q ≡ Some m → IsLabelled q (place_at m) (l ∷ more) (listed n (with_added added rest))
    by added rest (inl a) go is =
        let go' : meaning (labels (after_operator n a.op) more) q ≡ Some m → IsLabelled q (place_at m) more (listed (after_operator n a.op) rest) =
        subst (λ (z : Added). meaning (labels (syllable_behind n z) more) q ≡ Some m → IsLabelled q (place_at m) more (listed (syllable_behind n z) rest)) (sym a.is) go in
        let is' : meaning (cons_option (option_map (λ text. (text, n)) a.label) (labels (after_operator n a.op) more)) q ≡ Some m =
        subst (λ (s : Answer statement.Statement). meaning (cons_option (label_at n s) (labels (after_operator n a.op) more)) q ≡ Some m) a.says
        (subst (λ (z : Added). meaning (cons_option (label_at n l.says) (labels (syllable_behind n z) more)) q ≡ Some m) (sym a.is) is) in
        subst (λ (z : Added). Labels q (place_at m) l l.says (listed n (with_added z rest)) (IsLabelled q (place_at m) more)) a.is
        (subst (λ (s : Answer statement.Statement). Labels q (place_at m) l s (listed n (with_added (AddedOperator a.op) rest)) (IsLabelled q (place_at m) more)) (sym a.says)
        (by_label (labels (after_operator n a.op) more) (listed (after_operator n a.op) rest) a.own a.label a.says go' is'))
    by added rest (inr a) go is =
        let go' : meaning (labels n more) q ≡ Some m → IsLabelled q (place_at m) more (listed n rest) =
        subst (λ (z : Added). meaning (labels (syllable_behind n z) more) q ≡ Some m → IsLabelled q (place_at m) more (listed (syllable_behind n z) rest)) (sym a.is) go in
        let is' : meaning (labels n more) q ≡ Some m =
        subst (λ (s : Answer statement.Statement). meaning (cons_option (label_at n s) (labels n more)) q ≡ Some m) a.says
        (subst (λ (z : Added). meaning (cons_option (label_at n l.says) (labels (syllable_behind n z) more)) q ≡ Some m) (sym a.is) is) in
        subst (λ (z : Added). Labels q (place_at m) l l.says (listed n (with_added z rest)) (IsLabelled q (place_at m) more)) a.is
        (subst (λ (s : Answer statement.Statement). Labels q (place_at m) l s (listed n rest) (IsLabelled q (place_at m) more)) (sym a.says) (go' is'))

-- a segment's cards
pub segment_read : (x : Scope) (lines : List Line) (content : SegmentContent) → AreSmall x.names → AllLabelsAreSmall x.names → x.labels ≡ (λ label. meaning (labels 0 lines) label) → content_of x lines ≡ Ok content
    → IsListed x lines (record { level = x.level; entries = map syllable_bits content.entries; code = code_words content.operators })
segment_read x lines content small all same is =
    let e : pass_content x 0 [] lines ≡ Ok content = sym (content_is x lines) ∙ is in
    let known : (q : List ℕ) (m : ℕ) → x.labels q ≡ Some m → meaning (labels 0 lines) q ≡ Some m = λ q m is. sym (ap (λ (f : List ℕ → Option ℕ). f q) same) ∙ is in
    let own : LabelsAreSmall x.labels = λ q m is. label_small x 0 [] lines content q m e (known q m is) in
    let code : listing (code_words content.operators) ≡ listed 0 content = listing_is content.operators (operators_bits x 0 [] lines content small e) in
    record {
      read = subst (AreRead x lines) (sym code) (are_read x 0 [] lines content small all own e);
      labelled = λ q m is. subst (IsLabelled q (place_at m) lines) (sym code) (labelled x 0 [] lines content q m e (known q m is));
      entered = are_entered x lines content own e;
    }
