-- What is printed of a row, and what is still to be printed.
use Rattle.std.proofs.Common.{◌≡◌, ◌≤◌, ◌<◌, ◌+◌, ◌-◌, ℕ, ℤ, List, [], ◌∷◌, ◌++◌, length, Option, sym, ◌∙◌, arith, subst, append_assoc, length-append, append-nil, Result}
use Rattle.std.specs.Prelude.{max, OnOk, OnErr}
use Rattle.std.proofs.lemmas.List.{take_all}
use Rattle.b67_io.specs.Line.{ended}
use Rattle.b67_io.specs.Told.{Continues}
use Rattle.b67_io.proofs.Joined.{Continues-none, Continues-then}
use Rattle.b67_session_lines.specs.Parts.{TookRest, TookMore}
use Rattle.b67_model.specs.Lines.{value_text}
use Rattle.b67_mcp.specs.Texts.{still, IsPrinting}

module _ (name : List ℕ) (v : ℤ) (vs : List ℤ) (line : List ℕ) where
  -- where there is room
  pub on_line : (room : ℕ) → 0 < room → still name line room (v ∷ vs) ≡ still name (line ++ value_text v) (room - 1) vs
  on_line room low = grind (arith, append_assoc)

  -- where there is none
  pub on_next : (room : ℕ) → room ≡ 0 → still name line room (v ∷ vs) ≡ ended line ++ still name (name ++ value_text v) 9 vs
  on_next room e = grind (arith, append_assoc)

cut_in : {K : Type 0} (taken : K → Option (List ℕ)) (old new : K) (before line after : List ℕ) (was printed : ℕ) → was ≤ printed → printed < length before + length line
    → Continues taken old new (before ++ line ++ after) was printed → TookMore taken old new (before ++ line ++ after) was printed
cut_in taken old new before line after was printed later low goes = grind (arith, length-append)

-- what was printed up to a line, and then a value on it
module _ {K : Type 0} (taken : K → Option (List ℕ)) (old new : K) (name : List ℕ) (v : ℤ) (vs : List ℤ) (line before : List ℕ) (was : ℕ) (past : length before ≤ was) where
  pub adds_here : (line' : List ℕ) (room : ℕ) → 0 < room → line' ≡ line ++ value_text v
      → IsPrinting taken old old (before ++ still name line room (v ∷ vs)) was was (length before) (still name line' (room - 1) vs)
  adds_here line' room low is = grind (arith, Continues-none, on_line)

  -- or on the next one, once the rest of the line is printed
  pub adds_next : (room printed start : ℕ) (line' : List ℕ) → room ≡ 0 → start ≡ length before + length (ended line) → printed ≡ max was start → line' ≡ name ++ value_text v
      → ((after : List ℕ) → Continues taken old new (before ++ ended line ++ after) was printed)
      → IsPrinting taken old new (before ++ still name line room (v ∷ vs)) was printed start (still name line' 9 vs)
  adds_next room printed start line' none long most is goes = grind (arith, on_next, append_assoc, length-append)

  pub adds_cut : (room printed : ℕ) → room ≡ 0 → was ≤ printed → printed < length before + length (ended line)
      → ((after : List ℕ) → Continues taken old new (before ++ ended line ++ after) was printed)
      → TookMore taken old new (before ++ still name line room (v ∷ vs)) was printed
  adds_cut room printed none later low goes = grind (arith, on_next, append_assoc, cut_in)

-- the turns of the loop over the values of a row
module _ {K : Type 0} (taken : K → Option (List ℕ)) (old mid : K) (text : List ℕ) (was printed start : ℕ) (rest : List ℕ) (p : IsPrinting taken old mid text was printed start rest) where
  abbrev pub Goes_on : K → ℕ → ℕ → List ℕ → Type 0
  Goes_on new now start' rest' = IsPrinting taken mid new (p.lines ++ rest) printed now start' rest'

  pub printing_then : (new : K) (now start' : ℕ) (rest' : List ℕ) → Goes_on new now start' rest' → IsPrinting taken old new text was now start' rest'
  printing_then new now start' rest' q = record {
    lines = q.lines;
    long = q.long;
    past = q.past;
    later = let a = p.later in let b = q.later in omega arith;
    continues = Continues-then p.continues (subst (λ (l : List ℕ). Continues taken mid new l printed now) (sym p.same) q.continues);
    same = p.same ∙ q.same;
  }

  pub more_then : (new : K) (now : ℕ) → TookMore taken mid new (p.lines ++ rest) printed now → TookMore taken old new text was now
  more_then new now q = record {
    continues = Continues-then p.continues (subst (λ (l : List ℕ). Continues taken mid new l printed now) (sym p.same) q.continues);
    later = let a = p.later in let b = q.later in omega arith;
    proper = subst (λ (l : List ℕ). now < length l) (sym p.same) q.proper;
  }

  -- the last line was printed
  pub rest_then : (new : K) (now : ℕ) → now ≡ max printed (start + length rest) → Continues taken mid new (p.lines ++ rest) printed now → TookRest taken old new text was
  rest_then new now most q =
      let all = Continues-then p.continues (subst (λ (l : List ℕ). Continues taken mid new l printed now) (sym p.same) q) in
      grind (arith, length-append, take_all)

-- a text with nothing behind
pub goes_last : {K : Type 0} (taken : K → Option (List ℕ)) (old new : K) (before line : List ℕ) (was now : ℕ) → Continues taken old new (before ++ line ++ []) was now → Continues taken old new (before ++ line) was now
goes_last taken old new before line was now h = subst (λ (l : List ℕ). Continues taken old new l was now) (append-nil (before ++ line)) h

pub on_ok : {T E : Type 0} (r : Result T E) (P Q : Type 0) → (P → Q) → OnOk r P → OnOk r Q
on_ok r P Q f h = grind arith

pub on_err : {T E : Type 0} (r : Result T E) (P Q : Type 0) → (P → Q) → OnErr r P → OnErr r Q
on_err r P Q f h = grind arith
