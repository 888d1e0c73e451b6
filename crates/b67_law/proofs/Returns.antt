-- Leaving, and the word that is returned.
use Rattle.std.proofs.Common.{◌≡◌, ◌≢◌, ℕ, Bool, true, false, not, eqb, List, [], ◌∷◌, ◌++◌, map, Option, Some, None, Ok, refl, sym, ap, ◌∙◌, subst, inl, inr, arith}
use Rattle.std.proofs.lemmas.Bool.Decides.{eqb_tells}
use Rattle.std.proofs.lemmas.Bool.{true≢false}
use Rattle.b67_model.specs.Common.{Answer, Word, Operand, Name, Ref, Row, Element, Original, Proc, Intrinsic, Frame, Standing, Marked, Entered, Return, Array, Task, Job, OperatorContext, with_task, array, element, owner_of, End, AtCell, AtElement, AtArray, AtProc, AtIntrinsic, follow, Line, Done, Goes, Leaves, Waits, top_of, cells_of, result, with_cells, is_critical, evaluates, left, leaves, exit, returnable, returned, retn_word, retn, Starts, Known, known_of, IsEntered, NamesEntered, NamesArray, is_original_of, TasksInOrder}
use Rattle.b67_lemmas.specs.Lists.{Has}
use Rattle.b67_lemmas.proofs.Members.{change_twice, has_filter_in}
use Rattle.b67_model.specs.Words as Words
use Rattle.b67_law.proofs.Reaches.{alike_has, alike_under}
use Rattle.b67_law.proofs.Looks.{Run, reach}
use Rattle.b67_law.proofs.Changes.{outside}
use Rattle.b67_law.specs.Ends.{EndInOrder}
use Rattle.b67_law.proofs.Chases.{follow_in, array_is}
use Rattle.b67_law.proofs.Posts.{Post, post_ok, post_err, post_bind, post_any, post_then, post_needs, post_more, post_both, post_is, post_at}
use Rattle.b67_law.proofs.RowSteps.{Keeps, Good, Fit, AllFit, own_fit, result_good, push_good, evaluates_good}
use Rattle.b67_law.proofs.Entries.{taken_apart, Left, left_good, parted, below_is, top_is}

-- a step that doesn't wait
abbrev pub NoWait : Done → Type 0
NoWait (Goes after printed touched) = Unit {0}
NoWait Leaves = Unit {0}
NoWait (Waits condition) = ⊥

result_no_wait : (k : OperatorContext) (job : Job) (task : Task) (printed : List Line) (touched : Option ℕ) → Post NoWait (result k job task printed touched)
result_no_wait k job task printed touched = post_then NoWait _ _ (post_ok NoWait _ tt)

evaluates_no_wait : (k : OperatorContext) (end : End) → Post NoWait (evaluates k end)
evaluates_no_wait k end = grind arith

returned_no_wait : (k : OperatorContext) (w : Word) (value : Bool) → Post NoWait (returned k w value)
returned_no_wait k w false = result_no_wait k k.job (with_cells k (w ∷ cells_of k)) [] None
returned_no_wait k (Operand bits) true = result_no_wait k k.job (with_cells k (Operand bits ∷ cells_of k)) [] None
returned_no_wait k w true = post_any NoWait (follow k w) _ (λ end. evaluates_no_wait k end)

-- a word that goes to another frame: it is in order there and no original
pub record Moves (P : Starts) (k : OperatorContext) (w : Word) : Type 0 where
  pub fit : Fit P k w
  pub plain : (n : ℕ) → is_original_of n w ≡ false

returned_good : (P : Starts) (k : OperatorContext) (w : Word) (value : Bool) → Run P k → Moves P k w → Good P k (returned k w value)
returned_good P k w false run m = push_good P k w None run m.fit m.plain
returned_good P k (Operand bits) true run m = push_good P k (Operand bits) None run m.fit m.plain
returned_good P k w true run m = post_bind (EndInOrder P k) (Keeps P k) (follow k w) _ (follow_in P k run (top_of k).identity w m.fit) (λ end is. evaluates_good P k end run is)

keeps_from : (P : Starts) (h k : OperatorContext) (done : Done) → k.constants ≡ h.constants → (Keeps P k done × NoWait done) → Keeps P h done
keeps_from P h k done same g = grind arith

-- the same, seen from the state before the frame was left
returned_before : (P : Starts) (h k : OperatorContext) (w : Word) (value : Bool) → k.constants ≡ h.constants → Run P k → Moves P k w → Good P h (returned k w value)
returned_before P h k w value same run m = post_more (λ d. Keeps P k d × NoWait d) (Keeps P h) (returned k w value) (λ d g. keeps_from P h k d same g)
    (post_both (Keeps P k) NoWait (returned k w value) (returned_good P k w value run m) (returned_no_wait k w value))

module _ (P : Starts) (h : OperatorContext) (run : Run P h) where
  pub leaves_good : (standing : Standing) → (top_of h).standing ≡ standing → (go : OperatorContext → Bool → Answer Done) → ((back : Return) → Left P h back → Good P h (go (left h back) back.value)) → Good P h (leaves h standing go)
  leaves_good Marked e go each = post_err (Keeps P h) _
  leaves_good (Entered level environment None) e go each = post_then (Keeps P h) _ _ (post_ok (Keeps P h) Leaves tt)
  leaves_good (Entered level environment (Some back)) e go each =
      let p = taken_apart P h run in
      let whole = parted P h run p in
      grind (arith, left_good)

  pub exit_good : Good P h (exit h)
  exit_good = leaves_good (top_of h).standing refl _ (λ back l. result_good P h (left h back) (left h back).job (left h back).task [] None (λ low. same_job back l))
    where
      -- the task stands in the job already
      same_job : (back : Return) → Left P h back → TasksInOrder P h.constants (with_task (left h back).job (left h back).task)
      same_job back l = rw (change_twice (λ (t : Task). t.number) h.task.number (left h back).task (left h back).task h.job.tasks refl) l.run.order

  -- what was entered in reach before, but for the frame that was left
  narrower : (back : Return) → Left P h back → (n : ℕ) (s : Standing) → IsEntered s → n ≢ (top_of h).identity → Has (reach h) (n, s) → Has (reach (left h back)) (n, s)
  narrower back l n s e other k =
      let p = taken_apart P h run in
      let there : Has (map known_of (p.f ∷ p.below) ++ outside h) (n, s) = subst (λ fs. Has (map known_of fs ++ outside h) (n, s)) p.are k in
      let under : Has (map known_of p.below ++ outside h) (n, s) = elim there [
        | inl is ↦ absurd (other (sym (ap (λ (x : Known). x.0) is) ∙ ap (λ (x : Frame). x.identity) (sym (top_is h p))))
        | inr m ↦ m
      ] in
      let now : Has (map known_of p.below ++ outside (left h back)) (n, s) =
      alike_has (map known_of p.below ++ outside h) (map known_of p.below ++ outside (left h back)) n s (alike_under (outside h) (outside (left h back)) p.below l.outer) e under in
      subst (λ fs. Has (map known_of fs ++ outside (left h back)) (n, s)) (sym (below_is h p)) now

  names_still : (back : Return) → Left P h back → (n : ℕ) → n ≢ (top_of h).identity → NamesEntered (reach h) n → NamesEntered (reach (left h back)) n
  names_still back l n other g = record { standing = g.standing; among = narrower back l n g.standing g.entered other g.among; entered = g.entered }

  array_still : (back : Return) → Left P h back → (a : ℕ) → not (eqb (owner_of h.job a) (top_of h).identity) ≡ true → NamesArray h.job.arrays (reach h) a → NamesArray (left h back).job.arrays (reach (left h back)) a
  array_still back l a test g =
      let n = (top_of h).identity in
      let is : array h.job a ≡ g.item = array_is P h run a g in
      let other : not (eqb g.item.owner n) ≡ true = subst (λ (x : Array). not (eqb x.owner n) ≡ true) is test in
      let apart : g.item.owner ≢ n = λ e. elim (eqb_tells g.item.owner n) [ inl s ↦ true≢false (sym other ∙ rw s.0 refl) | inr s ↦ s.1 e ] in
      record {
        item = g.item;
        live = has_filter_in (λ (x : Array). not (eqb x.owner n)) h.job.arrays g.item g.live other;
        named = g.named;
        owner = names_still back l g.item.owner apart g.owner;
      }

  not_eqb : (a b : ℕ) → not (eqb a b) ≡ true → a ≢ b
  not_eqb a b test e = elim (eqb_tells a b) [ inl s ↦ true≢false (sym test ∙ rw s.0 refl) | inr s ↦ s.1 e ]

  returnable_good : (back : Return) → Left P h back → (w : Word) → Fit P h w → Post (Moves P (left h back)) (returnable h.job (top_of h).identity w)
  returnable_good back l (Ref f offset) g = post_needs (Moves P (left h back)) (not (eqb f (top_of h).identity)) _ _
      (λ t. post_ok (Moves P (left h back)) (Ref f offset) (record { fit = (names_still back l f (not_eqb f (top_of h).identity t) g.0, g.1); plain = λ n. refl }))
  returnable_good back l (Row a) g = grind (arith, array_still)
  returnable_good back l (Element a index) g = grind (arith, array_still)
  returnable_good back l (Original a) g = post_err (Moves P (left h back)) _
  returnable_good back l (Name couple) g = post_err (Moves P (left h back)) _
  returnable_good back l (Operand bits) g = post_ok (Moves P (left h back)) _ (record { fit = g; plain = λ n. refl })
  returnable_good back l (Proc segment level place) g = post_ok (Moves P (left h back)) _ (record { fit = g; plain = λ n. refl })
  returnable_good back l (Intrinsic number) g = absurd g
  returnable_good back l (Words.Segment number) g = absurd g

  retn_word_good : (standing : Standing) → (top_of h).standing ≡ standing → (cells : List Word) → AllFit P h cells → Good P h (retn_word h standing cells)
  retn_word_good Marked e cells fit = post_err (Keeps P h) _
  retn_word_good (Entered level environment back) e [] fit = post_err (Keeps P h) _
  retn_word_good (Entered level environment back) e (w ∷ cells) fit = post_bind (λ v. returnable h.job (top_of h).identity w ≡ Ok v) (Keeps P h) (returnable h.job (top_of h).identity w) _ (post_is (returnable h.job (top_of h).identity w))
      (λ v is. leaves_good (Entered level environment back) e (λ after value. returned after v value)
      (λ b l. returned_before P h (left h b) v b.value refl l.run (post_at (Moves P (left h b)) (returnable h.job (top_of h).identity w) v is (returnable_good b l w fit.0))))

  pub retn_good : Good P h (retn h)
  retn_good = retn_word_good (top_of h).standing refl (cells_of h) (own_fit P h run)
