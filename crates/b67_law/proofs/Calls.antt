-- Reading, waiting, waking and declaring keep order.
use Rattle.std.proofs.Common.{◌≡◌, ◌≢◌, ℕ, zero, suc, ◌+◌, ◌^◌, ◌<◌, ◌≤◌, Bool, true, false, not, cond, eqb, List, [], ◌∷◌, ◌++◌, map, length, None, Ok, refl, sym, ap, ◌∙◌, subst, inl, inr, ◌⊎◌, arith, ◌-◌, ℤ, pos, negsuc, nat_abs, replicate, ltb, ◌&&◌}
use Rattle.std.specs.List.{AllByRecursion}
use Rattle.std.proofs.lemmas.Bool.Decides.{eqb_tells}
use Rattle.std.proofs.lemmas.Bool.{true≢false, ltb-true}
use Rattle.b67_lemmas.specs.Lists.{Has, how_many}
use Rattle.b67_lemmas.proofs.Members.{all_in, falls_low, has_change, has_map, none_pass, total_zero}
use Rattle.b67_model.specs.Words as Words
use Rattle.b67_model.specs.Common.{Word, Operand, Name, Ref, Row, Element, Original, Proc, Intrinsic, Frame, Array, Condition, Ready, Awaits, WaitsAt, Task, JobConstants, Job, OperatorContext, top, below_top, with_top_cells, height, with_task, array, End, AtCell, AtElement, AtArray, AtProc, AtIntrinsic, follow_reference, Waits, top_of, is_critical, Starts, Known, known_of, outer_of, OwnsArray, WordInOrder, FramesInOrder, ConditionInOrder, TaskInOrder, is_original_of, originals_in, originals_of, TasksInOrder, cell, with_cell, answered, answers, array_length, arraydec, read_from, read, waits_at, wait, woken_at, causes, cause, number, is_copy_of, EntryInOrder}
use Rattle.b67_law.proofs.Reaches.{Stays}
use Rattle.b67_law.proofs.Looks.{reach, own_order, own_high, running_cells}
use Rattle.b67_law.proofs.Changes.{Change, outside, change_arrays, change_cells, run_replaced}
use Rattle.b67_law.specs.Ends.{EndInOrder}
use Rattle.b67_law.proofs.Posts.{Post, post_ok, post_err, post_bind, post_any, post_needs, post_if, post_if_is}
use Rattle.b67_law.proofs.RowSteps.{Keeps, Good, top_words, AllFit, originals, result_good}
use Rattle.b67_word.specs.Operands.{bits_of}
use Rattle.b67_model.specs.Words.{whole}
use Rattle.b67_law.proofs.Entries.{running_marked}
use Rattle.b67_law.proofs.Cuts.{Cut, below_of, cut_change, cut_low, answers_none, answers_operand}
use Rattle.b67_law.proofs.Bounds.{bits_low}
use Rattle.b67_law.proofs.Chases.{follow_reference_in}
use Rattle.b67_law.proofs.Maps.{HoldsOperand, cell_stored, map_good, frames_refl}
use Rattle.b67_law.proofs.Stores.{holds_operand, same_item, operand_is, own_frame}

pub length_replicate : (n : ℕ) → length {A = ℕ} (replicate n 0) ≡ n
length_replicate zero = refl
length_replicate (suc n) = ap suc (length_replicate n)

pub zeros_low : (n : ℕ) → AllByRecursion (λ (m : ℕ). m < 2 ^ 48) (replicate n 0)
zeros_low zero = tt
zeros_low (suc n) = (omega arith, zeros_low n)

-- an identity that no array has yet has no original and no copy
module _ (P : Starts) (constants : JobConstants) (job : Job) (g : TasksInOrder P constants job) where
  array_low : (a : Array) → Has job.arrays a → a.identity < job.next_array
  array_low a k = falls_low job.next_array (map (λ (x : Array). x.identity) job.arrays) a.identity g.names (has_map (λ (x : Array). x.identity) job.arrays a k)

  no_original : (reach : List Known) (owner : ℕ) (w : Word) → WordInOrder P job.arrays reach owner w → is_original_of job.next_array w ≡ false
  no_original h owner w f = grind (arith, array_low)

  no_copy : (reach : List Known) (owner : ℕ) (w : Word) → WordInOrder P job.arrays reach owner w → is_copy_of job.next_array w ≡ false
  no_copy h owner w f = grind (arith, array_low)

  frames_none : (outer : List Known) (fs : List Frame) → FramesInOrder P job.arrays outer fs → originals_in job.next_array fs ≡ 0
  frames_none outer [] f = refl
  frames_none outer (x ∷ fs) f = grind (arith, none_pass, no_original, all_in, frames_none outer fs f.2)

  entry_none : (w : Word) → EntryInOrder job.arrays w → is_original_of job.next_array w ≡ false
  entry_none w f = grind (arith, array_low)

  pub none_yet : originals_of job.next_array constants job ≡ 0
  none_yet = grind (arith, entry_none, all_in, total_zero, frames_none)

module _ (P : Starts) (h : OperatorContext) (cut : Cut P h) where
  pub read_good : (arguments : List Word) → Good P h (read h arguments)
  read_good [] = by h.job.numbers cut.run.order.reads where
    by : (ns : List ℤ) → AllByRecursion (λ n. nat_abs n < 2 ^ 39) ns → Good P h (answers h (record h.job { numbers = (read_from ns).1 }) (Operand (read_from ns).0 ∷ []) [] None)
    by [] all = answers_operand P h cut 0x800000000000 [] [] None (omega arith) tt
    by (v ∷ vs) all = answers_operand P h cut (bits_of v) vs [] None (bits_low v all.0) all.1
  read_good (w ∷ more) = post_err (Keeps P h) _

  waits_at_good : (end : End) → EndInOrder P h end → Good P h (waits_at h end)
  waits_at_good (AtCell f offset bits) is = post_if (Keeps P h) _ _ _ (post_ok (Keeps P h) (Waits (WaitsAt f offset)) (is.names, is.low)) (answers_none P h cut [] None)
  waits_at_good (AtElement a index) is = post_err (Keeps P h) _
  waits_at_good (AtArray a) is = post_err (Keeps P h) _
  waits_at_good (AtProc f segment level place) is = post_err (Keeps P h) _
  waits_at_good (AtIntrinsic n) is = post_err (Keeps P h) _

  pub wait_good : (arguments : List Word) → AllFit P h arguments → Good P h (wait h arguments)
  wait_good arguments fit = grind (arith, follow_reference_in, waits_at_good)

  below_has : (fs : List Frame) (f : Frame) → Has (below_top fs) f → Has fs f
  below_has fs f k = grind arith

  cut_holds : (n offset bits : ℕ) → cell h n offset ≡ Ok (Operand bits) → HoldsOperand (with_task h.job (answered h [])) n offset
  cut_holds n offset bits e t live f among is w k =
      elim (has_change (λ (u : Task). u.number) h.job.next_task h.task.number (answered h []) h.job.tasks t cut.run.order.numbers live) [
        | inl new ↦
            let here : Has (below_top h.task.frames) f = subst (λ (u : Task). Has u.frames f) (sym new) among in
            operand_is w bits (same_item f (offset - 2) (Operand bits) w (holds_operand P h n offset bits cut.run e f (own_frame P h cut.run f (below_has h.task.frames f here)) is) k)
        | inr old ↦ operand_is w bits (same_item f (offset - 2) (Operand bits) w (holds_operand P h n offset bits cut.run e f (record { task = t; live = old.0; among = among }) is) k)
      ]

  woken_same : (f offset : ℕ) (c : Condition) → (woken_at f offset c ≡ c) ⊎ (woken_at f offset c ≡ Ready)
  woken_same f offset c = grind arith

  causes_good : (end : End) → EndInOrder P h end → Good P h (causes h end)
  causes_good (AtCell f offset bits) is = post_needs (Keeps P h) (not (is_critical h.job (top_of h).identity)) _ _ (λ free.
      let stored = cell_stored P h.constants (with_task h.job (answered h [])) f offset 1 (omega arith) (cut_holds f offset bits is.found) (cut_low P h cut free) in
      post_ok (Keeps P h) _ (map_good P h.constants (with_cell (with_task h.job (answered h [])) f offset (Operand 1)) (λ (t : Task). record t { condition = woken_at f offset t.condition }) (λ t. refl)
      (λ t k. record { number = refl; line = refl; critical = refl; segment = refl; place = refl; frames = frames_refl t.frames; condition = woken_same f offset t.condition }) stored))
  causes_good (AtElement a index) is = post_err (Keeps P h) _
  causes_good (AtArray a) is = post_err (Keeps P h) _
  causes_good (AtProc f segment level place) is = post_err (Keeps P h) _
  causes_good (AtIntrinsic n) is = post_err (Keeps P h) _

  pub cause_good : (arguments : List Word) → AllFit P h arguments → Good P h (cause h arguments)
  cause_good arguments fit = grind (arith, follow_reference_in, causes_good)

  -- an array is declared, owned by the frame below the mark
  pub below_high : not (is_critical h.job (top_of h).identity) ≡ true → 1 < (top (below_top h.task.frames)).identity
  below_high free = by (below_top h.task.frames) (cut_change P h cut free).some (below_has h.task.frames) where
    by : (fs : List Frame) → fs ≢ [] → ((f : Frame) → Has fs f → Has h.task.frames f) → 1 < (top fs).identity
    by [] some in_all = absurd (some refl)
    by (f ∷ fs) some in_all = own_high P h cut.run f (in_all f (inl refl))

  declared : (len : ℕ) → 0 < len → len < 65536 → (free : not (is_critical h.job (top_of h).identity) ≡ true) → height (answered h (Original h.job.next_array ∷ [])).frames ≤ h.constants.stack_size →
      let made : Array = record { identity = h.job.next_array; owner = (top (below_top h.task.frames)).identity; writable = true; numbers = replicate len 0 } in
      TasksInOrder P h.constants (with_task (record h.job { arrays = made ∷ h.job.arrays; next_array = h.job.next_array + 1 }) (answered h (Original h.job.next_array ∷ [])))
  declared len low high free fits =
      let below = below_top h.task.frames in
      let made : Array = record { identity = h.job.next_array; owner = (top below).identity; writable = true; numbers = replicate len 0 } in
      let arrays' : List Array = made ∷ h.job.arrays in
      let job' : Job = record h.job { arrays = arrays'; next_array = h.job.next_array + 1 } in
      let cells = Original h.job.next_array ∷ (top below).cells in
      let stay : (x : Array) → Has h.job.arrays x → Stays arrays' x = λ x k. record { item = x; live = inr k; named = refl; owned = refl } in
      let c = cut_change P h cut free in
      let c' : Change P h arrays' below h.job.next_frame = change_arrays P h h.job.arrays arrays' below h.job.next_frame c (λ x k at. stay x k) in
      let old_words = top_words P h.job.arrays (outside h) below c.order in
      let new_words = top_words P arrays' (outside h) below c'.order in
      let uncopied : how_many (is_copy_of h.job.next_array) (top below).cells ≡ 0 =
      none_pass (is_copy_of h.job.next_array) (top below).cells (λ w k. no_copy P h.constants h.job cut.run.order (map known_of below ++ outside h) (top below).identity w (all_in (WordInOrder P h.job.arrays (map known_of below ++ outside h) (top below).identity) (top below).cells w old_words.0 k)) in
      let owns : OwnsArray arrays' (top below).identity h.job.next_array = record { item = made; live = inl refl; named = refl; owned = refl } in
      let c'' : Change P h arrays' (with_top_cells below cells) h.job.next_frame = change_cells P h arrays' below h.job.next_frame cells c' ((owns, new_words.0), (uncopied, new_words.1)) in
      let new : Task = answered h (Original h.job.next_array ∷ []) in
      let counted : (n : ℕ) → originals_in n (with_top_cells below cells) ≡ cond (eqb h.job.next_array n) 1 0 + originals_in n h.task.frames =
      λ n. originals_more n below cells (cond (eqb h.job.next_array n) 1 0) c.some refl ∙ ap (λ m. cond (eqb h.job.next_array n) 1 0 + m) (below_of P h cut c n) in
      let own_none : originals_in h.job.next_array h.task.frames ≡ 0 = frames_none P h.constants h.job cut.run.order (outside h) h.task.frames (own_order P h cut.run).frames in
      let owner_high = below_high free in
      (run_replaced P h (with_task job' new) new cut.run (record {
        number = refl;
        line = refl;
        critical = refl;
        tasks = refl;
        next_task = refl;
        next_frame = omega arith;
        frames = c''.order;
        returns = c''.returns;
        some = c''.some;
        falls = c''.falls;
        not_higher = fits;
        place = rw (running_cells below cells ∙ sym (running_marked h.task.frames cut.marked)) cut.run.place;
        condition = subst (ConditionInOrder (map known_of (with_top_cells below cells) ++ outside h)) (sym cut.run.ready) tt;
        alike = c''.alike;
        stays = c''.stays;
        fewer = c''.fewer;
        kept = λ x k. record { case = inl (stay x k) };
        arrays = (
          record {
            length_low = rw (length_replicate len) low;
            length_high = rw (length_replicate len) (omega (arith, high));
            words = zeros_low len;
            writes = (λ e. absurd (true≢false e), λ e. absurd (omega (arith, e, owner_high)));
          },
          cut.run.order.arrays,
        );
        once = λ x k. elim k [
          | inl e ↦ let same : h.job.next_array ≡ x.identity = ap (λ (y : Array). y.identity) e in
              subst (λ n. originals_in n (with_top_cells below cells) + originals_of n h.constants h.job ≡ originals_in n h.task.frames + 1) same
              (let here = counted h.job.next_array in elim (eqb_tells h.job.next_array h.job.next_array) [
                | inl y ↦ let one : originals_in h.job.next_array (with_top_cells below cells) ≡ 1 + originals_in h.job.next_array h.task.frames = rw y.0 at here in omega (arith, one, own_none, none_yet P h.constants h.job cut.run.order)
                | inr z ↦ absurd (z.1 refl)
              ])
          | inr m ↦ let here = counted x.identity in elim (eqb_tells h.job.next_array x.identity) [
            | inl y ↦ absurd (omega (arith, y.1, array_low P h.constants h.job cut.run.order x m))
            | inr z ↦ let none : originals_in x.identity (with_top_cells below cells) ≡ 0 + originals_in x.identity h.task.frames = rw z.0 at here in omega (arith, none, all_in (λ (y : Array). originals_of y.identity h.constants h.job ≡ 1) h.job.arrays x cut.run.order.once m)
          ]
        ];
        names = (omega arith, cut.run.order.names);
        reads = cut.run.order.reads;
      })).0
    where
      originals_more : (n : ℕ) (fs : List Frame) (cells : List Word) (more : ℕ) → fs ≢ [] → originals n cells ≡ more + originals n (top fs).cells → originals_in n (with_top_cells fs cells) ≡ more + originals_in n fs
      originals_more n [] cells more some e = absurd (some refl)
      originals_more n (f ∷ fs) cells more some e = omega (arith, e)

  pub length_fits : (n : ℤ) → Post (λ len. (0 < len) × (len < 65536)) (array_length n)
  length_fits n = grind arith

  abbrev made_of : ℕ → Array
  made_of len = record { identity = h.job.next_array; owner = (top (below_top h.task.frames)).identity; writable = true; numbers = replicate len 0 }

  pub arraydec_good : (arguments : List Word) → Good P h (arraydec h arguments)
  arraydec_good [] = post_err (Keeps P h) _
  arraydec_good (w ∷ []) = post_any (Keeps P h) (whole w) _ (λ n. post_bind (λ len. (0 < len) × (len < 65536)) (Keeps P h) (array_length n) _ (length_fits n)
      (λ len g. post_needs (Keeps P h) (not (is_critical h.job (top_of h).identity)) _ _ (λ free. result_good P h h (record h.job { arrays = made_of len ∷ h.job.arrays; next_array = h.job.next_array + 1 }) (answered h (Original h.job.next_array ∷ [])) [] None (λ fits. declared len g.0 g.1 free fits))))
  arraydec_good (w ∷ v ∷ more) = post_err (Keeps P h) _
