-- What the row of PROCESS makes of its arguments.
use Rattle.std.proofs.Common.{◌≡◌, ◌≢◌, ◌==◌, eqb, ℕ, suc, ◌+◌, ◌<◌, ◌≤◌, List, [], ◌∷◌, ◌++◌, reverse, take, length, Bool, true, false, Ok, Err, refl, sym, ◌∙◌, ap, arith}
use Rattle.std.specs.Prelude.{nat_le, nat_lt, not, if◌then◌else◌}
use Rattle.std.specs.List.{list_any}
use Rattle.std.proofs.lemmas.Bool.{le-leb, ne_eqb, eq-eqb, false≢true, true≢false}
use Rattle.std.proofs.lemmas.List.{length-reverse, reverse-reverse}
use Rattle.b67_word.specs.declared.couples.Place.{Place}
use Rattle.b67_word.specs.declared.faults.Fault.{Fault}
use Rattle.b67_word.specs.declared.faults.Fault.TheVariants.{InvalidOperand, StackOverflow, CriticalBlock}
use Rattle.b67_model.specs.Common.{Answer, ◌>>=◌, ◌>>◌, needs, Word, Operand, Task, SessionJob, OperatorContext, top, below_top, frame, height, with_top_cells, level_of_frame, End, AtCell, AtElement, AtArray, AtProc, AtIntrinsic, follow, follow_reference, Done, is_critical, is_original, child_of, starts, process}
use Rattle.b67_layout.specs.Meets.{here}
use Rattle.b67_refer.specs.Ends.{IsReference}
use Rattle.b67_layout.specs.Tops.{cells}
use Rattle.b67_mcp.specs.Calls.{IsCall}
use Rattle.b67_mcp.proofs.Answering.{no_higher}
use Rattle.b67_entry.proofs.Firsts.{same_follow}
use Rattle.b67_task.specs.Starts.{child}
use Rattle.b67_mcp.specs.Asked.{answer_by, admits}
use Rattle.b67_mcp.proofs.FirstWords.{take_front, any_turned, turned_two}

-- three tests after each other
abbrev three : Bool → Bool → Bool → Fault → Fault → Fault → Answer (Unit {0})
three a b c f g k = needs a f >> (needs b g >> needs c k)

three_first : (a b c : Bool) (f g k : Fault) → a ≡ false → three a b c f g k ≡ Err f
three_first a b c f g k e = grind arith

three_second : (a b c : Bool) (f g k : Fault) → a ≡ true → b ≡ false → three a b c f g k ≡ Err g
three_second a b c f g k e z = grind arith

three_third : (a b c : Bool) (f g k : Fault) → a ≡ true → b ≡ true → c ≡ false → three a b c f g k ≡ Err k
three_third a b c f g k d e z = grind arith

three_pass : (a b c : Bool) (f g k : Fault) → a ≡ true → b ≡ true → c ≡ true → three a b c f g k ≡ Ok tt
three_pass a b c f g k d e z = grind arith

passed : (a b c : Bool) (f g k : Fault) → three a b c f g k ≡ Ok tt → (a ≡ true) × (b ≡ true) × (c ≡ true)
passed a b c f g k e = grind arith

-- where the third test stands before each of two answers
abbrev under_three : Bool → Bool → Bool → Fault → Fault → Fault → Bool → Answer Done → Answer Done → Answer Done
under_three a b c f g k few one two = needs a f >> (needs b g >> (if few then needs c k >> one else needs c k >> two))

under_fault : (a b c : Bool) (f g k : Fault) (few : Bool) (one two : Answer Done) (fault : Fault) → three a b c f g k ≡ Err fault → under_three a b c f g k few one two ≡ Err fault
under_fault a b c f g k few one two fault e = grind arith

under_pass : (a b c : Bool) (f g k : Fault) (few : Bool) (one two : Answer Done) → three a b c f g k ≡ Ok tt → under_three a b c f g k few one two ≡ (if few then one else two)
under_pass a b c f g k few one two e = grind arith

-- the three tests of a start
module _ (h : OperatorContext) (f level count : ℕ) where
  pub not_level : level_of_frame (frame h f) + 1 ≢ level → admits h f level count ≡ Err InvalidOperand
  not_level ne = three_first _ _ _ InvalidOperand StackOverflow CriticalBlock (ne_eqb (level_of_frame (frame h f) + 1) level ne)

  module _ (is : level_of_frame (frame h f) + 1 ≡ level) where
    at_level : eqb (level_of_frame (frame h f) + 1) level ≡ true
    at_level = eq-eqb (level_of_frame (frame h f) + 1) level is

    pub no_room : nat_le (3 + count) h.constants.stack_size ≡ false → admits h f level count ≡ Err StackOverflow
    no_room over = three_second _ _ _ InvalidOperand StackOverflow CriticalBlock at_level over

    module _ (room : nat_le (3 + count) h.constants.stack_size ≡ true) where
      pub is_depended_on : is_critical h.job (top h.task.frames).identity ≡ true → admits h f level count ≡ Err CriticalBlock
      is_depended_on c = three_third _ _ _ InvalidOperand StackOverflow CriticalBlock at_level room (ap not c)

      pub all_three : is_critical h.job (top h.task.frames).identity ≡ false → admits h f level count ≡ Ok tt
      all_three c = three_pass _ _ _ InvalidOperand StackOverflow CriticalBlock at_level room (ap not c)

-- what passed tests say
pub record Admitted (m : SessionJob) (t : Task) (f level count : ℕ) : Type 0 where
  pub level_is : level_of_frame (frame (here m t t.place) f) + 1 ≡ level
  pub room : 3 + count ≤ m.constants.stack_size
  pub free : is_critical m.progress.job (top t.frames).identity ≡ false

pub admitted : (m : SessionJob) (t : Task) (f level count : ℕ) → admits (here m t t.place) f level count ≡ Ok tt → Admitted m t f level count
admitted m t f level count e = grind arith

-- an end that is no procedure
abbrev pub IsElsewhere : End → Type 0
IsElsewhere (AtProc f segment level place) = ⊥
IsElsewhere _ = Unit {0}

-- a call by its cells
module _ (t : Task) (reference : Word) (arguments : List Word) (call : IsCall t reference arguments) where
  count_is : length (cells t) ≡ suc (length arguments)
  count_is = sym (length-reverse (cells t)) ∙ ap length call.cells

  -- it has no argument
  pub no_argument : (m : SessionJob) (next : Place) → length (cells t) < 2 → process (here m t next) arguments ≡ Err InvalidOperand
  no_argument m next few = grind (arith, count_is)

  -- the first argument, and the later ones, which stand above it
  pub record Parts (count : ℕ) : Type 0 where
    pub first : Word
    pub words : List Word
    pub are : arguments ≡ first ∷ words
    pub stand : cells t ≡ reverse words ++ first ∷ reference ∷ []
    pub count_is : count ≡ length words
    pub over : length (reverse words) ≡ count
    pub copied : take count (cells t) ≡ reverse words

  parts_by : (count : ℕ) → length (cells t) ≡ count + 2 → (ws : List Word) → arguments ≡ ws → Parts count
  parts_by count two [] e = absurd (omega (arith, two, count_is, ap length e))
  parts_by count two (r ∷ words) e =
      let stand : cells t ≡ reverse words ++ r ∷ reference ∷ [] = sym (reverse-reverse (cells t)) ∙ ap reverse (call.cells ∙ ap (λ (ws : List Word). reference ∷ ws) e) ∙ turned_two reference r words in
      let long : length (reverse words) ≡ length words = length-reverse words in
      let n : count ≡ length words = omega (arith, two, count_is, ap length e) in
      record {
        first = r;
        words = words;
        are = e;
        stand = stand;
        count_is = n;
        over = long ∙ sym n;
        copied = ap (λ (k : ℕ). take k (cells t)) (n ∙ sym long) ∙ ap (take (length (reverse words))) stand ∙ take_front (reverse words) (r ∷ reference ∷ []);
      }

  pub parts : (count : ℕ) → length (cells t) ≡ count + 2 → Parts count
  parts count two = parts_by count two arguments refl

  module _ (m : SessionJob) (count : ℕ) (p : Parts count) where
    any_is : list_any is_original (take count (cells t)) ≡ list_any is_original p.words
    any_is = ap (list_any is_original) p.copied ∙ any_turned is_original p.words

    abbrev by_test : Place → Bool → Answer End → Answer Done
    by_test next b end = needs (not b) InvalidOperand >> (end >>= λ found. starts (here m t next) p.words found)

    row_is : (next : Place) → process (here m t next) arguments ≡ by_test next (list_any is_original p.words) (follow_reference (here m t next) p.first)
    row_is next = ap (process (here m t next)) p.are

    -- a later one is an original
    pub some_original : list_any is_original (take count (cells t)) ≡ true → (next : Place) → process (here m t next) arguments ≡ Err InvalidOperand
    some_original some next = row_is next ∙ ap (λ (b : Bool). by_test next b (follow_reference (here m t next) p.first)) (sym any_is ∙ some)

    module _ (none : list_any is_original (take count (cells t)) ≡ false) where
      -- where the first one leads
      led : (next : Place) (end : Answer End) → follow_reference (here m t next) p.first ≡ end → process (here m t next) arguments ≡ (end >>= λ found. starts (here m t next) p.words found)
      led next end leads = row_is next ∙ ap (λ (b : Bool). by_test next b (follow_reference (here m t next) p.first)) (sym any_is ∙ none) ∙ ap (λ (e : Answer End). e >>= λ found. starts (here m t next) p.words found) leads

      -- it is no reference
      pub not_led : (next : Place) (fault : Fault) → follow_reference (here m t next) p.first ≡ Err fault → process (here m t next) arguments ≡ Err fault
      not_led next fault leads = led next (Err fault) leads

      module _ (refers : IsReference p.first) where
        pub faults : (next : Place) (fault : Fault) → follow (here m t next) p.first ≡ Err fault → process (here m t next) arguments ≡ Err fault
        faults next fault leads = led next (Err fault) (same_follow (here m t next) p.first refers ∙ leads)

        ends : (next : Place) (end : End) → follow (here m t next) p.first ≡ Ok end → process (here m t next) arguments ≡ starts (here m t next) p.words end
        ends next end leads = led next (Ok end) (same_follow (here m t next) p.first refers ∙ leads)

        -- at no procedure
        pub ends_elsewhere : (next : Place) (end : End) → follow (here m t next) p.first ≡ Ok end → IsElsewhere end → process (here m t next) arguments ≡ Err InvalidOperand
        ends_elsewhere next end leads else_where = ends next end leads ∙ by end else_where where
          by : (e : End) → IsElsewhere e → starts (here m t next) p.words e ≡ Err InvalidOperand
          by (AtCell f offset bits) z = refl
          by (AtElement a index) z = refl
          by (AtArray a) z = refl
          by (AtProc f segment level place) z = absurd z
          by (AtIntrinsic n) z = refl

        module _ (f segment level : ℕ) (place : Place) where
          abbrev under : OperatorContext → ℕ → Answer Done → Answer Done → Answer Done
          under h n one two =
              under_three (level_of_frame (frame h f) + 1 == level) (nat_le (3 + n) h.constants.stack_size) (not (is_critical h.job (top h.task.frames).identity)) InvalidOperand StackOverflow CriticalBlock
              (nat_lt (length h.job.tasks) 15) one two

          pub refuses : (next : Place) (fault : Fault) → follow (here m t next) p.first ≡ Ok (AtProc f segment level place) → admits (here m t next) f level count ≡ Err fault → process (here m t next) arguments ≡ Err fault
          refuses next fault leads e =
              let e' : admits (here m t next) f level (length p.words) ≡ Err fault = ap (admits (here m t next) f level) (sym p.count_is) ∙ e in
              ends next (AtProc f segment level place) leads ∙ under_fault _ _ _ InvalidOperand StackOverflow CriticalBlock (nat_lt (length m.progress.job.tasks) 15) _ _ fault e'

          -- the call is answered
          pub answers_by : (next : Place) → height t.frames ≤ m.constants.stack_size → follow (here m t next) p.first ≡ Ok (AtProc f segment level place) → admits (here m t next) f level count ≡ Ok tt
              → process (here m t next) arguments ≡ answer_by (nat_lt (length m.progress.job.tasks) 15) m t (child m t count f segment level place) next
          answers_by next fits leads e =
              let e' : admits (here m t next) f level (length p.words) ≡ Ok tt = ap (admits (here m t next) f level) (sym p.count_is) ∙ e in
              let some : 1 ≤ length (cells t) = omega (arith, count_is) in
              let high : Word → ℕ = λ v. height (with_top_cells (below_top t.frames) (v ∷ (top (below_top t.frames)).cells)) in
              let low : (v : Word) → nat_le (high v) m.constants.stack_size ≡ true = λ v. le-leb (high v) m.constants.stack_size (omega (arith, no_higher t.frames v some, fits)) in
              let few = nat_lt (length m.progress.job.tasks) 15 in
              let made : List Word → Task = λ ws. child_of (here m t t.place) ws f segment level place in
              let words_are : p.words ≡ reverse (take count (cells t)) = sym (reverse-reverse p.words) ∙ ap reverse (sym p.copied) in
              ends next (AtProc f segment level place) leads
              ∙ under_pass _ _ _ InvalidOperand StackOverflow CriticalBlock few _ _ e'
              ∙ rw (low (Operand m.progress.job.next_task)) (rw (low (Operand 0)) (ap (λ (ws : List Word). answer_by few m t (made ws) next) words_are))
