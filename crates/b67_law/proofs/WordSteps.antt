-- What rows may put into frames: words of one kind, and marks of one kind.
use Rattle.std.proofs.Common.{◌≡◌, ℕ, zero, suc, ◌+◌, ◌-◌, Bool, true, false, List, [], ◌∷◌, reverse, Option, Some, None, slice_set, refl, subst, inl, inr, ◌⊎◌, arith}
use Rattle.b67_model.specs.Common.{Answer, Word, Operand, Frame, Standing, Marked, Entered, Return, Task, Job, OperatorContext, top, below_top, with_top_cells, with_task, with_cell_of, with_cell, Binary, element, End, AtCell, AtElement, AtArray, AtProc, AtIntrinsic, follow, Line, Done, Goes, Leaves, Waits, top_of, cells_of, result, with_frames, with_cells, leaves_cells, pushes, mkst, accident, back_to, evaluates, enters, left, leaves, exit, returnable, returned, retn_word, answered, answers, wakes, CellRow, on_one, on_two, movable, dlet, exch, dupl, on_cells}
use Rattle.b67_model.specs.Keyed.{change_keyed}
use Rattle.b67_lemmas.specs.Lists.{Has}
use Rattle.b67_lemmas.proofs.Members.{has_map_back, has_reverse_back}
use Rattle.b67_model.specs.Words as Words
use Rattle.b67_law.proofs.Posts.{Post, post_ok, post_err, post_bind, post_any, post_then}

has_changed : {A : Type 0} (key : A → ℕ) (n : ℕ) (change : A → A) (xs : List A) (x : A) → Has (change_keyed key n change xs) x → ((y : A) × Has xs y × (change y ≡ x)) ⊎ Has xs x
has_changed key n change [] x h = absurd h
has_changed key n change (y ∷ ys) x h = grind (arith, has_changed key n change ys x)

has_set : (xs : List Word) (i : ℕ) (w v : Word) → Has (slice_set xs i w) v → (w ≡ v) ⊎ Has xs v
has_set [] i w v h = inr h
has_set (x ∷ xs) zero w v h = elim h [ inl e ↦ inl e | inr m ↦ inr (inr m) ]
has_set (x ∷ xs) (suc i) w v h = elim h [ inl e ↦ inr (inl e) | inr m ↦ elim (has_set xs i w v m) [ inl e ↦ inl e | inr k ↦ inr (inr k) ] ]

module _ (W : Word → Type 0) (M : ℕ → Standing → Type 0) (numbers : (bits : ℕ) → W (Operand bits)) where
  abbrev pub AllW : List Word → Type 0
  AllW words = (w : Word) → Has words w → W w

  abbrev pub Made : Frame → Type 0
  Made f = AllW f.cells × M f.identity f.standing

  abbrev pub AllMade : List Frame → Type 0
  AllMade frames = (f : Frame) → Has frames f → Made f

  abbrev pub TasksMade : List Task → Type 0
  TasksMade tasks = (t : Task) → Has tasks t → AllMade t.frames

  -- the running task's frames, and those of all
  pub record Source (h : OperatorContext) : Type 0 where
    pub tasks : TasksMade h.job.tasks
    pub own : AllMade h.task.frames

  abbrev pub Kept : Done → Type 0
  Kept (Goes after printed touched) = TasksMade after.tasks
  Kept Leaves = Unit {0}
  Kept (Waits condition) = Unit {0}

  abbrev pub Good : Answer Done → Type 0
  Good answer = Post Kept answer

  pub task_made : (job : Job) (task : Task) → TasksMade job.tasks → AllMade task.frames → TasksMade (with_task job task).tasks
  task_made job task all own t h = grind (arith, has_changed)

  pub result_good : (h : OperatorContext) (job : Job) (task : Task) (printed : List Line) (touched : Option ℕ) → TasksMade job.tasks → AllMade task.frames → Good (result h job task printed touched)
  result_good h job task printed touched all own = post_then Kept _ _ (post_ok Kept _ (task_made job task all own))

  pub top_words : (fs : List Frame) → AllMade fs → AllW (top fs).cells
  top_words [] all w h = absurd h
  top_words (f ∷ below) all w h = (all f (inl refl)).0 w h

  pub cells_made : (fs : List Frame) (cells : List Word) → AllMade fs → AllW cells → AllMade (with_top_cells fs cells)
  cells_made [] cells all words g h = absurd h
  cells_made (f ∷ below) cells all words g h = grind arith

  pub below_made : (fs : List Frame) → AllMade fs → AllMade (below_top fs)
  below_made [] all f h = absurd h
  below_made (x ∷ below) all f h = all f (inr h)

  pub cons_words : (w : Word) (words : List Word) → W w → AllW words → AllW (w ∷ words)
  cons_words w words one all v h = elim h [ inl e ↦ subst W e one | inr m ↦ all v m ]

  pub cells_good : (h : OperatorContext) (cells : List Word) (touched : Option ℕ) → Source h → AllW cells → Good (leaves_cells h cells touched)
  cells_good h cells touched s words = result_good h h.job (with_cells h cells) [] touched s.tasks (cells_made h.task.frames cells s.own words)

  pub own_words : (h : OperatorContext) → Source h → AllW (cells_of h)
  own_words h s = top_words h.task.frames s.own

  pub push_good : (h : OperatorContext) (w : Word) (touched : Option ℕ) → Source h → W w → Good (pushes h w touched)
  push_good h w touched s one = cells_good h (w ∷ cells_of h) touched s (cons_words w (cells_of h) one (own_words h s))

  abbrev pub Enters : Type 0
  Enters = (n level environment : ℕ) (back : Return) → M n (Entered level environment (Some back))

  pub accident_good : (h : OperatorContext) (cells : List Word) (back : Return) (end : End) → Source h → Enters → AllW cells → Good (accident h cells back end)
  accident_good h cells back (AtProc f segment level place) s enter words =
      let fs = with_top_cells h.task.frames cells in
      let fresh : Frame = record { identity = h.job.next_frame; standing = Entered level f (Some back); cells = [] } in
      let own : AllMade (fresh ∷ fs) = λ g k. elim k [ inl e ↦ subst Made e (λ w x. absurd x, enter h.job.next_frame level f back) | inr m ↦ cells_made h.task.frames cells s.own words g m ] in
      post_then Kept _ _ (result_good h (record h.job { next_frame = h.job.next_frame + 1 }) (record h.task { frames = fresh ∷ fs; segment = segment; place = place }) [] None s.tasks own)
  accident_good h cells back (AtCell f offset bits) s enter words = post_err Kept _
  accident_good h cells back (AtElement a index) s enter words = post_err Kept _
  accident_good h cells back (AtArray a) s enter words = post_err Kept _
  accident_good h cells back (AtIntrinsic n) s enter words = post_err Kept _

  pub evaluates_good : (h : OperatorContext) (end : End) → Source h → Enters → Good (evaluates h end)
  evaluates_good h (AtCell f offset bits) s enter = push_good h (Operand bits) None s (numbers bits)
  evaluates_good h (AtElement a index) s enter = push_good h (Operand (element h.job a index)) (Some a) s (numbers (element h.job a index))
  evaluates_good h (AtProc f segment level place) s enter = accident_good h (cells_of h) (back_to h true h.task.place) (AtProc f segment level place) s enter (own_words h s)
  evaluates_good h (AtArray a) s enter = post_err Kept _
  evaluates_good h (AtIntrinsic n) s enter = post_err Kept _

  pub mkst_good : (h : OperatorContext) → Source h → ((n : ℕ) → M n Marked) → Good (mkst h)
  mkst_good h s mark =
      let fresh : Frame = record { identity = h.job.next_frame; standing = Marked; cells = [] } in
      let own : AllMade (fresh ∷ h.task.frames) = λ g k. elim k [ inl e ↦ subst Made e (λ w x. absurd x, mark h.job.next_frame) | inr m ↦ s.own g m ] in
      result_good h (record h.job { next_frame = h.job.next_frame + 1 }) (with_frames h (fresh ∷ h.task.frames)) [] None s.tasks own

  pub enters_good : (h : OperatorContext) (arguments : List Word) (end : End) → Source h → Enters → AllW (reverse arguments) → Good (enters h arguments end)
  enters_good h arguments (AtProc f segment level place) s enter words =
      let back = back_to h false h.task.place in
      let entered : Frame = record (top_of h) { standing = Entered level f (Some back); cells = reverse arguments } in
      let own : AllMade (entered ∷ below_top h.task.frames) = λ g k. elim k [ inl e ↦ subst Made e (words, enter (top_of h).identity level f back) | inr m ↦ below_made h.task.frames s.own g m ] in
      post_then Kept _ _ (result_good h h.job (record h.task { frames = entered ∷ below_top h.task.frames; segment = segment; place = place }) [] None s.tasks own)
  enters_good h arguments (AtCell f offset bits) s enter words = post_err Kept _
  enters_good h arguments (AtElement a index) s enter words = post_err Kept _
  enters_good h arguments (AtArray a) s enter words = post_err Kept _
  enters_good h arguments (AtIntrinsic n) s enter words = post_err Kept _

  left_made : (h : OperatorContext) (back : Return) → Source h → Source (left h back)
  left_made h back s =
      let own = below_made h.task.frames s.own in
      record { tasks = task_made h.job (record h.task { frames = below_top h.task.frames; segment = back.segment; place = back.place }) s.tasks own; own = own }

  pub leaves_good : (h : OperatorContext) (standing : Standing) (go : OperatorContext → Bool → Answer Done) → Source h → ((back : Return) → Source (left h back) → Good (go (left h back) back.value)) → Good (leaves h standing go)
  leaves_good h Marked go s each = post_err Kept _
  leaves_good h (Entered level environment None) go s each = post_then Kept _ _ (post_ok Kept Leaves tt)
  leaves_good h (Entered level environment (Some back)) go s each = post_then Kept _ _ (each back (left_made h back s))

  pub exit_good : (h : OperatorContext) → Source h → Good (exit h)
  exit_good h s = leaves_good h (top_of h).standing _ s (λ back k. result_good (left h back) (left h back).job (left h back).task [] None k.tasks k.own)

  returned_good : (h : OperatorContext) (w : Word) (value : Bool) → Source h → Enters → W w → Good (returned h w value)
  returned_good h w false s enter one = push_good h w None s one
  returned_good h (Operand bits) true s enter one = push_good h (Operand bits) None s one
  returned_good h w true s enter one = post_any Kept (follow h w) _ (λ end. evaluates_good h end s enter)

  returnable_same : (job : Job) (n : ℕ) (w : Word) → W w → Post W (returnable job n w)
  returnable_same job n w one = grind arith

  pub retn_good : (h : OperatorContext) (standing : Standing) (cells : List Word) → Source h → Enters → AllW cells → Good (retn_word h standing cells)
  retn_good h Marked cells s enter words = post_err Kept _
  retn_good h (Entered level environment back) [] s enter words = post_err Kept _
  retn_good h (Entered level environment back) (w ∷ cells) s enter words =
      post_bind W Kept (returnable h.job (top_of h).identity w) _ (returnable_same h.job (top_of h).identity w (words w (inl refl)))
      (λ v one. leaves_good h (Entered level environment back) (λ after value. returned after v value) s (λ b k. returned_good (left h b) v b.value k enter one))

  -- rows on cells
  pub on_cells_good : (h : OperatorContext) (f : CellRow) → Source h → ((cells : List Word) → AllW cells → Post AllW (f cells)) → Good (on_cells f h)
  on_cells_good h f s keeps = post_bind AllW Kept (f (cells_of h)) _ (keeps (cells_of h) (own_words h s)) (λ cells words. cells_good h cells None s words)

  pub tail_words : (w : Word) (words : List Word) → AllW (w ∷ words) → AllW words
  tail_words w words all v h = all v (inr h)

  pub one_keeps : (f : ℕ → Answer ℕ) (cells : List Word) → AllW cells → Post AllW (on_one f cells)
  one_keeps f cells all = grind arith

  pub two_keeps : (f : Binary) (cells : List Word) → AllW cells → Post AllW (on_two f cells)
  two_keeps f cells all = grind arith

  pub dlet_keeps : (cells : List Word) → AllW cells → Post AllW (dlet cells)
  dlet_keeps cells all = grind arith

  pub exch_keeps : (cells : List Word) → AllW cells → Post AllW (exch cells)
  exch_keeps [] all = post_err AllW _
  exch_keeps (b ∷ []) all = post_err AllW _
  exch_keeps (b ∷ a ∷ rest) all = post_any AllW (movable a) _ (λ u. post_any AllW (movable b) _ (λ v. post_ok AllW _
      (cons_words a (b ∷ rest) (all a (inr (inl refl))) (cons_words b rest (all b (inl refl)) (tail_words a rest (tail_words b (a ∷ rest) all))))))

  pub dupl_keeps : (cells : List Word) → AllW cells → Post AllW (dupl cells)
  dupl_keeps cells all = grind arith

  -- a store puts an operand
  pub stored_made : (job : Job) (n offset bits : ℕ) → TasksMade job.tasks → TasksMade (with_cell job n offset (Operand bits)).tasks
  stored_made job n offset bits all t h =
      let r = has_map_back (λ (u : Task). record u { frames = change_keyed (λ f. f.identity) n (with_cell_of offset (Operand bits)) u.frames }) job.tasks t h in
      subst (λ (u : Task). AllMade u.frames) r.is (λ f k. elim (has_changed (λ (x : Frame). x.identity) n (with_cell_of offset (Operand bits)) r.item.frames f k) [
        | inl c ↦ subst Made c.2 (
          λ w j. elim (has_set (reverse c.0.cells) (offset - 2) (Operand bits) w (has_reverse_back (slice_set (reverse c.0.cells) (offset - 2) (Operand bits)) w j)) [
            | inl e ↦ subst W e (numbers bits)
            | inr m ↦ (all r.item r.among c.0 c.1).0 w (has_reverse_back c.0.cells w m)
          ],
          (all r.item r.among c.0 c.1).1,
        )
        | inr m ↦ all r.item r.among f m
      ])

  pub woken_made : (job : Job) (f offset : ℕ) → TasksMade job.tasks → TasksMade (wakes f offset job).tasks
  woken_made job f offset all t h = grind (arith, has_map_back)

  -- an intrinsic's answer
  pub answered_made : (h : OperatorContext) (words : List Word) → Source h → AllW words → AllMade (answered h words).frames
  answered_made h [] s all = below_made h.task.frames s.own
  answered_made h (w ∷ more) s all = let below = below_made h.task.frames s.own in cells_made (below_top h.task.frames) (w ∷ (top (below_top h.task.frames)).cells) below (cons_words w (top (below_top h.task.frames)).cells (all w (inl refl)) (top_words (below_top h.task.frames) below))

  pub answers_good : (h : OperatorContext) (job : Job) (words : List Word) (printed : List Line) (touched : Option ℕ) → Source h → TasksMade job.tasks → AllW words → Good (answers h job words printed touched)
  answers_good h job words printed touched s all ws = post_then Kept _ _ (result_good h job (answered h words) printed touched all (answered_made h words s ws))

  pub no_words : AllW []
  no_words w h = absurd h

  pub one_word : (w : Word) → W w → AllW (w ∷ [])
  one_word w one v h = elim h [ inl e ↦ subst W e one | inr x ↦ absurd x ]
