-- Texts that are printed in parts, one after the other.
use Rattle.std.proofs.Common.{◌≡◌, ℕ, List, [], ◌++◌, take, Option, sym, ap, ◌∙◌, arith, append-nil, append_assoc, length-append}
use Rattle.std.proofs.lemmas.List.{take-append-le}
use Rattle.b67_io.proofs.Joined.{Took-then}
use Rattle.b67_session_lines.specs.Parts.{TookRest, TookMore}
use Rattle.b67_model.specs.Lines.{run_text}
use Rattle.b67_model.specs.Run.{RunLine}
use Rattle.b67_session.specs.Slices.{Prints}
use Rattle.b67_session.proofs.Texts.{run_text-append}

-- nothing was printed
pub prints_none : {K : Type 0} (taken : K → Option (List ℕ)) (now new : K) (text : List ℕ) (before after : ℕ) → new ≡ now → after ≡ before → Prints taken now new text before [] text after
prints_none taken now new text before after e same = grind (arith, append-nil)

-- the rest of these lines
pub prints_rest : {K : Type 0} (taken : K → Option (List ℕ)) (old new : K) (text was_due is_due : List ℕ) (before after : ℕ) (printed : List RunLine) → was_due ≡ text → text ≡ run_text printed → after ≡ 0
    → TookRest taken old new text before → Prints taken old new was_due before printed is_due after
prints_rest taken old new text was_due is_due before after printed was is none h = grind (arith, append-nil)

-- a part of what is due
pub prints_more : {K : Type 0} (taken : K → Option (List ℕ)) (old new : K) (text due : List ℕ) (before after : ℕ) → due ≡ text → TookMore taken old new text before after → Prints taken old new due before [] due after
prints_more taken old new text due before after is h = grind arith

-- one after the other
pub prints_then : {K : Type 0} (taken : K → Option (List ℕ)) (a b c : K) (x y z : List ℕ) (i j k : ℕ) (one two : List RunLine) → Prints taken a b x i one y j → Prints taken b c y j two z k → Prints taken a c x i (one ++ two) z k
prints_then taken a b c x y z i j k one two p q = record {
  text = p.text ++ q.text;
  took = Took-then p.took q.took;
  same = sym (append_assoc (take i x) p.text q.text) ∙ ap (λ (xs : List ℕ). xs ++ q.text) p.same ∙ append_assoc (run_text one) (take j y) q.text
      ∙ ap (λ (xs : List ℕ). run_text one ++ xs) q.same ∙ sym (append_assoc (run_text one) (run_text two) (take k z)) ∙ ap (λ (xs : List ℕ). xs ++ take k z) (sym (run_text-append one two));
}

-- where nothing of what is due next is printed, that may be anything
pub prints_before : {K : Type 0} (taken : K → Option (List ℕ)) (a b : K) (x y z : List ℕ) (i j : ℕ) (one : List RunLine) → j ≡ 0 → Prints taken a b x i one y j → Prints taken a b x i one z j
prints_before taken a b x y z i j one none p = record { text = p.text; took = p.took; same = p.same ∙ ap (λ (n : ℕ). run_text one ++ take n y) none ∙ sym (ap (λ (n : ℕ). run_text one ++ take n z) none) }

-- a part of a text is a part of one that goes on
pub TookMore-more : {K : Type 0} {taken : K → Option (List ℕ)} {a b : K} (x y : List ℕ) (before after : ℕ) → TookMore taken a b x before after → TookMore taken a b (x ++ y) before after
TookMore-more x y before after p = grind (arith, take-append-le, length-append)
