-- Lines of endings that are printed one after the other.
use Rattle.std.proofs.Common.{◌≡◌, ◌≤◌, ◌<◌, ◌+◌, ℕ, suc, List, [], ◌∷◌, ◌++◌, length, Option, sym, ◌∙◌, ap, arith, subst, append_assoc, length-append, append-nil, get_or}
use Rattle.std.specs.Prelude.{codes, take, drop}
use Rattle.std.proofs.lemmas.List.{take_all, drop_all, take_more, map-append}
use Rattle.std.proofs.lemmas.Option.{slice_get-get_or}
use Rattle.b67_word.specs.declared.faults.Ending.{Ending}
use Rattle.b67_io.specs.Line.{ended}
use Rattle.b67_io.specs.Told.{Continues}
use Rattle.b67_io.proofs.Joined.{Continues-then}
use Rattle.b67_model.specs.Common.{all_with, task_name, ending_name}
use Rattle.b67_session_lines.specs.Parts.{TookRest, TookMore}
use Rattle.b67_lemmas.proofs.Places.{drop-get}
use Rattle.b67_session.specs.Texts.{endings_text}

-- Of a text so many first bytes were printed before, and so many are now. Lines of so many bytes are printed, and these are
-- still to come
pub record IsPrinting {K : Type 0} (taken : K → Option (List ℕ)) (old now : K) (text : List ℕ) (before printed start : ℕ) (rest : List ℕ) : Type 0 where
  pub lines : List ℕ
  pub long : length lines ≡ start
  pub past : start ≤ printed
  pub later : before ≤ printed
  pub continues : Continues taken old now text before printed
  pub same : text ≡ lines ++ rest

module _ {K : Type 0} (taken : K → Option (List ℕ)) (old mid : K) (text line rest : List ℕ) (was printed start : ℕ) (p : IsPrinting taken old mid text was printed start (ended line ++ rest)) where
  -- the text with its next line written out
  whole : text ≡ p.lines ++ ended line ++ rest
  whole = p.same ∙ sym (append_assoc p.lines (ended line) rest)

  long : length (ended line) ≡ length line + 1
  long = length-append line (10 ∷ [])

  -- one line more
  pub printing_then : (new : K) (now : ℕ) → Continues taken mid new (p.lines ++ ended line ++ rest) printed now → printed ≤ now → start + (length line + 1) ≤ now
      → IsPrinting taken old new text was now (start + (length line + 1)) rest
  printing_then new now q later past = record {
    lines = p.lines ++ ended line;
    long = length-append p.lines (ended line) ∙ omega (arith, p.long, long);
    past = past;
    later = let low = p.later in omega (arith, later);
    continues = Continues-then p.continues (subst (λ (l : List ℕ). Continues taken mid new l printed now) (sym whole) q);
    same = whole;
  }

  pub more_then : (new : K) (now : ℕ) → Continues taken mid new (p.lines ++ ended line ++ rest) printed now → printed ≤ now → now < start + (length line + 1) → TookMore taken old new text was now
  more_then new now q later low = record {
    continues = Continues-then p.continues (subst (λ (l : List ℕ). Continues taken mid new l printed now) (sym whole) q);
    later = let was_low = p.later in omega (arith, later);
    proper = subst (λ (l : List ℕ). now < length l) (sym whole) (omega (arith, low, p.long, long, length-append (p.lines ++ ended line) rest, length-append p.lines (ended line)));
  }

-- all lines are printed
pub rest_then : {K : Type 0} (taken : K → Option (List ℕ)) (old new : K) (text : List ℕ) (was printed start : ℕ) → IsPrinting taken old new text was printed start [] → TookRest taken old new text was
rest_then taken old new text was printed start p = grind (arith, append-nil, take_all)

-- ---- the list

-- an item of the list is the next line
pub next_line : (job i : ℕ) (xs : List (ℕ × Ending)) (d : ℕ × Ending) (line : List ℕ) → i < length xs → line ≡ task_name job (get_or xs i d).0 ++ codes " " ++ ending_name (get_or xs i d).1
    → endings_text job (drop i xs) ≡ ended line ++ endings_text job (drop (i + 1) xs)
next_line job i xs d line low is =
    let e : ℕ × Ending = get_or xs i d in
    let next : suc i ≡ i + 1 = omega arith in
    ap (endings_text job) (drop-get xs i e (slice_get-get_or xs i d low))
    ∙ ap (λ (l : List ℕ). ended l ++ endings_text job (drop (suc i) xs)) (sym is)
    ∙ ap (λ (n : ℕ). ended line ++ endings_text job (drop n xs)) next

-- behind the last one there is none
pub no_line : (job i : ℕ) (xs : List (ℕ × Ending)) → length xs ≤ i → endings_text job (drop i xs) ≡ []
no_line job i xs past = ap (endings_text job) (drop_all i xs past)

-- ---- tasks that end in one way

pub ended_more : (ending : Ending) (list : List (ℕ × Ending)) (ns : List ℕ) (at d : ℕ) → at < length ns → list ≡ all_with ending (take at ns)
    → list ++ (get_or ns at d, ending) ∷ [] ≡ all_with ending (take (at + 1) ns)
ended_more ending list ns at d low e =
    ap (λ (l : List (ℕ × Ending)). l ++ (get_or ns at d, ending) ∷ []) e
    ∙ sym (ap (all_with ending) (take_more ns at d low) ∙ map-append (λ (n : ℕ). (n, ending)) (take at ns) (get_or ns at d ∷ []))

pub ended_all : (ending : Ending) (list : List (ℕ × Ending)) (ns : List ℕ) (at : ℕ) → length ns ≤ at → list ≡ all_with ending (take at ns) → list ≡ all_with ending ns
ended_all ending list ns at past e = e ∙ ap (all_with ending) (take_all at ns past)
