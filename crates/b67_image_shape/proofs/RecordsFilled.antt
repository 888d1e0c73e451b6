-- The table that is filled is the table of records.
use Rattle.std.proofs.Common.{◌≡◌, ◌≢◌, ℕ, zero, suc, ◌+◌, ◌-◌, ◌*◌, ◌%◌, ◌<◌, ◌≤◌, ◌^◌, ◌==◌, Bool, true, false, List, [], ◌∷◌, ◌++◌, length, take, drop, get_or, replicate, refl, sym, ◌∙◌, ap, subst, arith, inl, inr, ⊎_elim}
use Rattle.std.specs.Prelude.{◌⊎◌}
use Rattle.std.proofs.lemmas.Bool.{cases_lt, eqb-true, eqb-false}
use Rattle.std.proofs.lemmas.List.{get_or-replicate, length-replicate}
use Rattle.b67_word.specs.Tagged.{Tagged, bits_at}
use Rattle.b67_lemmas.specs.Lists.{Has}
use Rattle.b67_lemmas.proofs.Members.{all_in}
use Rattle.b67_stack.specs.Common.{Activation, stack_words}
use Rattle.b67_layout.specs.Rows.{TaskRow}
use Rattle.b67_layout_shown.specs.Reading.{word_seen_at, mscw_in, activation_by, stack_seen}
use Rattle.b67_layout_shown.specs.Shown.{Sight, top_in, stack_of_row}
use Rattle.b67_image_shape.specs.TableFacts.{AreApart, RowsApart, TableFacts}
use Rattle.b67_image_shape.specs.FixedWords.{FixedFacts}
use Rattle.b67_image_shape.specs.Held.{location_in}
use Rattle.b67_image_shape.specs.Items.{base_at, StackFactsBy}
use Rattle.b67_image_shape.specs.NearStacks.{NearStacks}
use Rattle.b67_image_shape.specs.StackWalk.{walk_test}
use Rattle.b67_image_shape.specs.TaskWalk.{level_in}
use Rattle.b67_image_shape.specs.RecordTable.{record_code, record_of_disp, IsRecordTable, filled_range, code_by, fill_under, records_down, records_of_row, records_of_rows}
use Rattle.b67_image_shape.proofs.Rows.{of_row, row_fact}
use Rattle.b67_image_shape.proofs.EachTask.{task_at}
use Rattle.b67_image_shape.proofs.StandTurns.{slot_inside}
use Rattle.b67_image_shape.proofs.TaskWalked.{tasks_stand}
use Rattle.b67_image_shape.proofs.Walked.{stands_walk}
use Rattle.b67_image_shape.proofs.Filling.{filled_long, filled_in, filled_out}
use Rattle.b67_image_shape.proofs.RecordsSeen.{low_record, top_record, no_record}
use Rattle.b67_image_shape.proofs.WalkInduct.{back_at, record_seen, StandsHere, walk_induct}

-- ---- the records of one stack

module _ (core : List Tagged) (base : ℕ) where
  -- each address of a stack gets its record, and no other changes
  pub record Fills (n f s : ℕ) (acts : List Activation) : Type 0 where
    pub long : (xs : List ℕ) → length (records_down core base n f s xs) ≡ length xs
    pub inside : (xs : List ℕ) (i : ℕ) → s < length xs → base < i → i ≤ s → get_or (records_down core base n f s xs) i 0 ≡ record_of_disp (i - base) acts
    pub outside : (xs : List ℕ) (i : ℕ) → (i ≤ base) ⊎ (s < i) → get_or (records_down core base n f s xs) i 0 ≡ get_or xs i 0

  abbrev here : ℕ → ℕ → List ℕ → List ℕ
  here f s xs = filled_range (code_by base f (word_seen_at core f)) f (s + 1 - f) xs

  code_seen : (f s : ℕ) (below : List Activation) → StandsHere core base f s below → f < base + 2 ^ 14 → code_by base f (word_seen_at core f) ≡ record_code (stack_words below + 1) (record_seen core f s).head
  code_seen f s below st small = grind arith

  at_top : (f s i : ℕ) (a : Activation) (below : List Activation) → suc base + stack_words below ≡ f → base + stack_words (a ∷ below) ≡ s → f ≤ i → i ≤ s → record_of_disp (i - base) (a ∷ below) ≡ record_code (stack_words below + 1) a.head
  at_top f s i a below under top low high = grind arith

  at_below : (f i : ℕ) (a : Activation) (below : List Activation) → suc base + stack_words below ≡ f → i < f → record_of_disp (i - base) (a ∷ below) ≡ record_of_disp (i - base) below
  at_below f i a below under low = low_record (i - base) a below (omega (arith, under, low))

  open_bottom : (n f s : ℕ) (xs : List ℕ) → back_at core f ≡ 0 → records_down core base (suc n) f s xs ≡ here f s xs
  unfolding records_down
  open_bottom n f s xs e = ap (λ b. fill_under b (λ d ys. records_down core base n (f - d) (f - 1) ys) (here f s xs)) e

  open_more : (n f s d : ℕ) (xs : List ℕ) → back_at core f ≡ suc d → records_down core base (suc n) f s xs ≡ records_down core base n (f - suc d) (f - 1) (here f s xs)
  unfolding records_down
  open_more n f s d xs e = ap (λ b. fill_under b (λ d ys. records_down core base n (f - d) (f - 1) ys) (here f s xs)) e

  here_long : (f s : ℕ) (xs : List ℕ) → length (here f s xs) ≡ length xs
  here_long f s xs = filled_long (code_by base f (word_seen_at core f)) f (s + 1 - f) xs

  here_in : (f s i : ℕ) (xs : List ℕ) (below : List Activation) → StandsHere core base f s below → s < base + 2 ^ 14 → s < length xs → f ≤ i → i ≤ s → get_or (here f s xs) i 0 ≡ record_of_disp (i - base) (record_seen core f s ∷ below)
  here_in f s i xs below st room inside low high = grind (arith, filled_in, code_seen, at_top)

  here_out : (f s i : ℕ) (xs : List ℕ) → f ≤ s → (i < f) ⊎ (s < i) → get_or (here f s xs) i 0 ≡ get_or xs i 0
  here_out f s i xs up h = grind (arith, filled_out)

  abbrev Q : ℕ → ℕ → ℕ → List Activation → Type 0
  Q n f s acts = s < base + 2 ^ 14 → Fills n f s acts

  fills_bottom : (n f s : ℕ) → s < length core → back_at core f ≡ 0 → StandsHere core base f s [] → f ≡ base + 1 → Q (suc n) f s (record_seen core f s ∷ [])
  fills_bottom n f s inside e st at room = record {
    long = λ xs. ap (λ (ys : List ℕ). length ys) (open_bottom n f s xs e) ∙ here_long f s xs;
    inside = λ xs i short low high. ap (λ (ys : List ℕ). get_or ys i 0) (open_bottom n f s xs e) ∙ here_in f s i xs [] st room short (omega (arith, at, low)) high;
    outside = λ xs i h. ap (λ (ys : List ℕ). get_or ys i 0) (open_bottom n f s xs e) ∙ here_out f s i xs st.high (apart h);
  }
    where
      apart : {i : ℕ} → (i ≤ base) ⊎ (s < i) → (i < f) ⊎ (s < i)
      apart (inl h) = inl (omega (arith, h, at))
      apart (inr h) = inr h

  fills_more : (n f s d : ℕ) → s < length core → back_at core f ≡ suc d → StandsHere core base f s (stack_seen core n (f - suc d) (f - 1)) → base + suc d < f → Q n (f - suc d) (f - 1) (stack_seen core n (f - suc d) (f - 1))
      → Q (suc n) f s (record_seen core f s ∷ stack_seen core n (f - suc d) (f - 1))
  fills_more n f s d inside e st far rec room = record {
    long = λ xs. ap (λ (ys : List ℕ). length ys) (open_more n f s d xs e) ∙ more.long (here f s xs) ∙ here_long f s xs;
    inside = λ xs i short low high. ap (λ (ys : List ℕ). get_or ys i 0) (open_more n f s d xs e) ∙ ⊎_elim
        (λ (h : i < f).
        let long = here_long f s xs in
        more.inside (here f s xs) i (omega (arith, long, short, up)) low (omega (arith, h)) ∙ sym (at_below f i (record_seen core f s) (stack_seen core n (f - suc d) (f - 1)) st.under h))
        (λ (h : f ≤ i). more.outside (here f s xs) i (inr (omega (arith, h, far))) ∙ here_in f s i xs (stack_seen core n (f - suc d) (f - 1)) st room short h high)
        (cases_lt i f);
    outside = λ xs i h. ap (λ (ys : List ℕ). get_or ys i 0) (open_more n f s d xs e) ∙ more.outside (here f s xs) i (lower h) ∙ here_out f s i xs st.high (apart h);
  }
    where
      up : f ≤ s
      up = st.high

      more : Fills n (f - suc d) (f - 1) (stack_seen core n (f - suc d) (f - 1))
      more = rec (omega (arith, up, room))

      lower : {i : ℕ} → (i ≤ base) ⊎ (s < i) → (i ≤ base) ⊎ (f - 1 < i)
      lower (inl h) = inl h
      lower (inr h) = inr (omega (arith, h, up))

      apart : {i : ℕ} → (i ≤ base) ⊎ (s < i) → (i < f) ⊎ (s < i)
      apart (inl h) = inl (omega (arith, h, far))
      apart (inr h) = inr h

  pub fills : (k segments n level f s : ℕ) → s < length core → s < base + 2 ^ 14 → walk_test core base k segments n level f s ≡ true → Fills n f s (stack_seen core n f s)
  fills k segments n level f s inside room t = walk_induct core base k segments Q fills_bottom fills_more n level f s inside t room

-- ---- places outside

record_low : (acts : List Activation) → record_of_disp 0 acts ≡ 0
record_low [] = refl
record_low (a ∷ below) = low_record 0 a below (omega arith) ∙ record_low below

take_front : (xs ys : List ℕ) → take (length xs) (xs ++ ys) ≡ xs
take_front [] ys = refl
take_front (x ∷ xs) ys = ap (λ (zs : List ℕ). x ∷ zs) (take_front xs ys)

-- ---- the walk down the stack of a row

pub record RowWalks (k : Sight) (r : TaskRow) : Type 0 where
  pub segments : ℕ
  pub high : (top_in k r).s < base_at k r + k.regs.stack_size
  pub inside : base_at k r + k.regs.stack_size ≤ length k.core
  pub top : base_at k r + stack_words (stack_of_row k r) ≡ (top_in k r).s
  pub small : k.regs.stack_size < 2 ^ 14
  pub walk : walk_test k.core (base_at k r) r.slot segments k.regs.stack_size (level_in k r) (top_in k r).f (top_in k r).s ≡ true

module _ (k : Sight) (facts : TableFacts k) (low size : ℕ) (fixed : FixedFacts k low size) (near : NearStacks k) where
  pub row_walks : (r : TaskRow) → Has k.tasks r → RowWalks k r
  row_walks r h =
      let o = of_row k facts r h in
      let slot = (row_fact k facts r h).slot in
      let l = fixed.begins in
      let inside = fixed.inside in
      let room = slot_inside k.regs.stacks r.slot k.regs.stack_size k.regs.peak low (length k.core) slot l inside in
      let t = (tasks_stand k (of_row k facts r h).row r.job r fixed.stack_high room).1 (task_at k facts (StackFactsBy (location_in k.core) k) near r h) in
      let small = fixed.stack_high in
      let high = t.low in
      record {
        segments = (of_row k facts r h).row.segments;
        high = t.low;
        inside = room;
        top = t.stands.top;
        small = fixed.stack_high;
        walk = stands_walk k.core (base_at k r) r.slot (of_row k facts r h).row.segments k.regs.stack_size (level_in k r) (top_in k r).f (top_in k r).s (omega (arith, high, small)) t.stands;
      }

  row_fills : (r : TaskRow) → Has k.tasks r → Fills k.core (base_at k r) k.regs.stack_size (top_in k r).f (top_in k r).s (stack_of_row k r)
  row_fills r h =
      let w = row_walks r h in
      grind (arith, fills, row_walks)

  pub slots_apart : (r q : TaskRow) → r.slot < q.slot → base_at k r + k.regs.stack_size ≤ base_at k q
  slots_apart r q h = slot_inside k.regs.stacks r.slot k.regs.stack_size q.slot (base_at k q) (base_at k q) h refl (omega arith)

  -- what one row's stack fills in is its own slot
  row_own : (r : TaskRow) → Has k.tasks r → (xs : List ℕ) → length xs ≡ length k.core → ((d : ℕ) → d < k.regs.stack_size → get_or xs (base_at k r + d) 0 ≡ 0) → (d : ℕ) → d < k.regs.stack_size → get_or (records_of_row k r xs) (base_at k r + d) 0 ≡ record_of_disp d (stack_of_row k r)
  row_own r h xs long none zero low = (row_fills r h).outside xs (base_at k r + 0) (inl (omega arith)) ∙ none 0 low ∙ sym (record_low (stack_of_row k r))
  row_own r h xs long none (suc d) low =
      let w = row_walks r h in
      let high = w.high in
      let inside = w.inside in
      let top = w.top in
      let at : base_at k r + suc d - base_at k r ≡ suc d = omega arith in ⊎_elim
      (λ (past : (top_in k r).s < base_at k r + suc d). (row_fills r h).outside xs (base_at k r + suc d) (inr past) ∙ none (suc d) low ∙ sym (no_record (suc d) (stack_of_row k r) (omega (arith, past, top))))
      (λ (under : base_at k r + suc d ≤ (top_in k r).s). (row_fills r h).inside xs (base_at k r + suc d) (omega (arith, high, inside, long)) (omega arith) under ∙ ap (λ n. record_of_disp n (stack_of_row k r)) at)
      (cases_lt (top_in k r).s (base_at k r + suc d))

  row_other : (r q : TaskRow) → Has k.tasks r → Has k.tasks q → r.slot ≢ q.slot → (xs : List ℕ) (d : ℕ) → d < k.regs.stack_size → get_or (records_of_row k q xs) (base_at k r + d) 0 ≡ get_or xs (base_at k r + d) 0
  row_other r q hr hq ne xs d low = ⊎_elim
      (λ (lt : r.slot < q.slot). let far = slots_apart r q lt in (row_fills q hq).outside xs (base_at k r + d) (inl (omega (arith, far, low))))
      (λ (le : q.slot ≤ r.slot).
      let far = slots_apart q r (⊎_elim (λ lt. lt) (λ up. absurd (ne (omega (arith, up, le)))) (cases_lt q.slot r.slot)) in
      let high = (row_walks q hq).high in
      (row_fills q hq).outside xs (base_at k r + d) (inr (omega (arith, far, high))))
      (cases_lt r.slot q.slot)

  rows_long : (rs : List TaskRow) → ((q : TaskRow) → Has rs q → Has k.tasks q) → (xs : List ℕ) → length (records_of_rows k rs xs) ≡ length xs
  rows_long [] live xs = refl
  rows_long (r ∷ more) live xs = rows_long more (λ q h. live q (inr h)) (records_of_row k r xs) ∙ (row_fills r (live r (inl refl))).long xs

  rows_other : (rs : List TaskRow) → ((q : TaskRow) → Has rs q → Has k.tasks q) → (r : TaskRow) → Has k.tasks r → ((q : TaskRow) → Has rs q → r.slot ≢ q.slot) → (xs : List ℕ) (d : ℕ) → d < k.regs.stack_size
      → get_or (records_of_rows k rs xs) (base_at k r + d) 0 ≡ get_or xs (base_at k r + d) 0
  rows_other [] live r hr apart xs d low = refl
  rows_other (q ∷ more) live r hr apart xs d low = rows_other more (λ p h. live p (inr h)) r hr (λ p h. apart p (inr h)) (records_of_row k q xs) d low ∙ row_other r q hr (live q (inl refl)) (apart q (inl refl)) xs d low

  rows_own : (rs : List TaskRow) → ((q : TaskRow) → Has rs q → Has k.tasks q) → RowsApart rs → (xs : List ℕ) → length xs ≡ length k.core → (r : TaskRow) → Has rs r → ((d : ℕ) → d < k.regs.stack_size → get_or xs (base_at k r + d) 0 ≡ 0)
      → (d : ℕ) → d < k.regs.stack_size → get_or (records_of_rows k rs xs) (base_at k r + d) 0 ≡ record_of_disp d (stack_of_row k r)
  rows_own [] live apart xs long r h none d low = absurd h
  rows_own (q ∷ more) live apart xs long r (inl e) none d low = grind (arith, get_or, rows_other, all_in, row_own)
  rows_own (q ∷ more) live apart xs long r (inr h) none d low =
      rows_own more (λ p g. live p (inr g)) apart.1 (records_of_row k q xs) ((row_fills q (live q (inl refl))).long xs ∙ long) r h
      (λ e small. row_other r q (live r (inr h)) (live q (inl refl)) (λ z. (all_in (AreApart q) more r apart.0 h).0 (sym z)) xs e small ∙ none e small) d low

  -- a table of zeros that is filled
  pub records_right : (xs ys : List ℕ) → xs ≡ replicate (length k.core) 0 → ys ≡ records_of_rows k k.tasks xs → IsRecordTable k ys
  records_right xs ys zeros is =
      let long : length xs ≡ length k.core = ap (λ (zs : List ℕ). length zs) zeros ∙ length-replicate {A = ℕ} (length k.core) 0 in
      record {
        many = ap (λ (zs : List ℕ). length zs) is ∙ rows_long k.tasks (λ q h. h) xs ∙ long;
        each = λ r h d low.
            let high = (row_walks r h).inside in
            ap (λ (zs : List ℕ). get_or zs (base_at k r + d) 0) is
            ∙ rows_own k.tasks (λ q g. g) facts.apart xs long r h
            (λ e small. ap (λ (zs : List ℕ). get_or zs (base_at k r + e) 0) zeros ∙ get_or-replicate {A = ℕ} (length k.core) (base_at k r + e) 0 0 (omega (arith, small, high))) d low;
      }

  -- and one that was lent
  pub records_lent : (xs zs : List ℕ) (n : ℕ) → n ≡ length xs → xs ≡ replicate (length k.core) 0 → zs ≡ records_of_rows k k.tasks xs → IsRecordTable k (take n (zs ++ drop (length zs) xs))
  records_lent xs zs n long zeros is = grind (arith, rows_long, records_right, take_front)
