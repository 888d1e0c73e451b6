-- A frame that no live task depends on is in nobody's reach but its own, so nobody else names its arrays.
use Rattle.std.proofs.Common.{◌≡◌, ◌≢◌, ℕ, List, [], ◌∷◌, ◌++◌, map, Option, Some, None, refl, sym, ◌∙◌, ap, arith, true, false, not, inl, inr, subst, unwrap_or}
use Rattle.std.specs.Prelude.{◌==◌}
use Rattle.std.specs.List.{AllByRecursion}
use Rattle.std.proofs.lemmas.Bool.Decides.{eqb_tells}
use Rattle.std.proofs.lemmas.Option.{same_Some}
use Rattle.b67_lemmas.specs.Lists.{Has, Falls}
use Rattle.b67_lemmas.proofs.Members.{any_none, falls_filter, has_append_cases, has_filter_in, has_map, keyed_falls, keyed_has}
use Rattle.b67_model.specs.Words as Words
use Rattle.b67_model.specs.Common.{Word, Operand, Name, Ref, Row, Element, Original, Proc, Intrinsic, Frame, Array, Task, JobConstants, Job, array, no_array, is_critical, Starts, Known, known_of, from_frame, frames_of_task, critical_of, outer_reach, known_numbers, NamesArray, WordInOrder, FramesInOrder, frames_named}
use Rattle.b67_model.specs.Keyed.{keyed}
use Rattle.b67_law.proofs.Replaced.{numbers_append, has_counts, from_counts}
use Rattle.b67_stack.specs.Common.{Shape, StackPlace, Activation}
use Rattle.b67_layout.specs.Common.{Placement, spot_in, shape, head, activations}
use Rattle.b67_layout.proofs.Common.{others, IsOnTop, high, elsewhere}
use Rattle.b67_layout.proofs.NamedFirst.{under}

-- on which no live task depends
pub record MayLeave (constants : JobConstants) (job : Job) (t : Task) (f : Frame) (below : List Frame) : Type 0 where
  pub top : IsOnTop constants job t f below
  pub free : is_critical job f.identity ≡ false

module _ (constants : JobConstants) (job : Job) (t : Task) (f : Frame) (below : List Frame) (may : MayLeave constants job t f below) where
  pub uncritical : (u : Task) → Has job.tasks u → u.critical ≢ f.identity
  uncritical u h e = grind (arith, any_none)

  in_parent : (c parent : ℕ) (o : Option Task) → keyed (λ (u : Task). u.number) parent job.tasks ≡ o → c ≢ f.identity → Has (known_numbers (map known_of (from_frame c (frames_of_task o)))) f.identity → ⊥
  in_parent c parent None e ne h = h
  in_parent c parent (Some q) e ne h =
      let k = keyed_has (λ (u : Task). u.number) parent job.tasks q e in
      elim (eqb_tells q.number t.number) [
        | inl s ↦
            let at : keyed (λ (u : Task). u.number) t.number job.tasks ≡ Some q = ap (λ (n : ℕ). keyed (λ (u : Task). u.number) n job.tasks) (sym s.1 ∙ k.1) ∙ e in
            let same : q ≡ t = same_Some q t (sym at ∙ may.top.there) in
            let mine : Has (known_numbers (map known_of (from_frame c (f ∷ below)))) f.identity = subst (λ (fs : List Frame). Has (known_numbers (map known_of (from_frame c fs))) f.identity) (ap (λ (u : Task). u.frames) same ∙ may.top.frames) h in
            elim (eqb_tells f.identity c) [
              | inl z ↦ ne (sym z.1)
              | inr z ↦
                  let lower : Has (known_numbers (map known_of (from_frame c below))) f.identity = rw z.0 at mine in
                  let one = has_counts f.identity (from_frame c below) lower in
                  omega (arith, one, from_counts f.identity c below, under constants job t f below may.top)
            ]
        | inr s ↦
            let one = has_counts f.identity (from_frame c q.frames) h in
            omega (arith, one, from_counts f.identity c q.frames, elsewhere constants job t f below may.top q k.0 s.1)
      ]

  critical_apart : (parent : ℕ) (o : Option Task) → keyed (λ (u : Task). u.number) parent job.tasks ≡ o → critical_of o ≢ f.identity
  critical_apart parent None e = λ z. omega (arith, z, high constants job t f below may.top)
  critical_apart parent (Some q) e = uncritical q (keyed_has (λ (u : Task). u.number) parent job.tasks q e).0

  pub outside : (c : ℕ) (parents : List ℕ) → c ≢ f.identity → Has (known_numbers (outer_reach job c parents)) f.identity → ⊥
  outside c [] ne (inl e) = omega (arith, e, high constants job t f below may.top)
  outside c [] ne (inr (inl e)) = omega (arith, e, high constants job t f below may.top)
  outside c [] ne (inr (inr k)) = k
  outside c (parent ∷ more) ne h =
      let o = keyed (λ (u : Task). u.number) parent job.tasks in
      let here = map known_of (from_frame c (frames_of_task o)) in
      elim (has_append_cases (known_numbers here) (known_numbers (outer_reach job (critical_of o) more)) f.identity (subst (λ (ns : List ℕ). Has ns f.identity) (numbers_append here (outer_reach job (critical_of o) more)) h)) [
        | inl a ↦ in_parent c parent o refl ne a
        | inr b ↦ outside (critical_of o) more (critical_apart parent o refl) b
      ]

  -- nor in the reach of other frames
  pub not_in_reach : (c : ℕ) (parents : List ℕ) (fs : List Frame) → c ≢ f.identity → frames_named f.identity fs ≡ 0 → Has (known_numbers (map known_of fs ++ outer_reach job c parents)) f.identity → ⊥
  not_in_reach c parents fs ne none h = grind (arith, has_append_cases, numbers_append, has_counts, outside)

-- the array that a word names is the same
abbrev pub SameArray : Job → Job → Word → Type 0
SameArray new old (Operand bits) = Unit {0}
SameArray new old (Name couple) = Unit {0}
SameArray new old (Ref identity offset) = Unit {0}
SameArray new old (Row a) = array new a ≡ array old a
SameArray new old (Element a index) = array new a ≡ array old a
SameArray new old (Original a) = Unit {0}
SameArray new old (Proc segment level place) = Unit {0}
SameArray new old (Intrinsic number) = Unit {0}
SameArray new old (Words.Segment number) = Unit {0}

abbrev pub SameArrays : Job → Job → List Frame → Type 0
SameArrays new old fs = AllByRecursion (λ (g : Frame). AllByRecursion (SameArray new old) g.cells) fs

module _ (new old : Job) (owner : ℕ) (is : new.arrays ≡ others owner old.arrays) (falls : Falls old.next_array (map (λ (a : Array). a.identity) old.arrays)) where
  -- an array of another owner is found as before
  pub array_stays : (a : Array) → Has old.arrays a → a.owner ≢ owner → array new a.identity ≡ array old a.identity
  array_stays a h ne =
      let test : not (a.owner == owner) ≡ true = elim (eqb_tells a.owner owner) [ inl e ↦ absurd (ne e.1) | inr e ↦ ap not e.0 ] in
      let one = keyed_falls (λ (b : Array). b.identity) old.next_array old.arrays a falls h in
      let two = keyed_falls (λ (b : Array). b.identity) old.next_array (others owner old.arrays) a (falls_filter (λ (b : Array). b.identity) (λ (b : Array). not (b.owner == owner)) old.next_array old.arrays falls) (has_filter_in (λ (b : Array). not (b.owner == owner)) old.arrays a h test) in
      ap (λ (xs : List Array). unwrap_or (keyed (λ (b : Array). b.identity) a.identity xs) no_array) is ∙ ap (λ (o : Option Array). unwrap_or o no_array) (two ∙ sym one)

  by_name : (reach : List Known) (a : ℕ) → (Has (known_numbers reach) owner → ⊥) → NamesArray old.arrays reach a → array new a ≡ array old a
  by_name reach a none n =
      let ne : n.item.owner ≢ owner = λ e. none (subst (Has (known_numbers reach)) e (has_map (λ (k : Known). k.0) reach (n.item.owner, n.owner.standing) n.owner.among)) in
      subst (λ (i : ℕ). array new i ≡ array old i) n.named (array_stays n.item n.live ne)

  pub word_stays : (P : Starts) (reach : List Known) (home : ℕ) (w : Word) → (Has (known_numbers reach) owner → ⊥) → WordInOrder P old.arrays reach home w → SameArray new old w
  word_stays P reach home w none g = grind (arith, by_name)

  words_stay : (P : Starts) (reach : List Known) (home : ℕ) (ws : List Word) → (Has (known_numbers reach) owner → ⊥) → AllByRecursion (WordInOrder P old.arrays reach home) ws → AllByRecursion (SameArray new old) ws
  words_stay P reach home [] none g = tt
  words_stay P reach home (w ∷ ws) none g = (word_stays P reach home w none g.0, words_stay P reach home ws none g.1)

  -- frames from whose reach the owner is absent
  pub frames_stay : (P : Starts) (outer : List Known) (fs : List Frame) → (Has (known_numbers (map known_of fs ++ outer)) owner → ⊥) → FramesInOrder P old.arrays outer fs → SameArrays new old fs
  frames_stay P outer [] none g = tt
  frames_stay P outer (h ∷ hs) none g = (words_stay P (map known_of (h ∷ hs) ++ outer) h.identity h.cells none g.0.0, frames_stay P outer hs (λ k. none (inr k)) g.2)

-- then their words are the same
module _ (plan : Placement) (j : ℕ) (new old : Job) where
  pub shape-same : (spot : ℕ → StackPlace) (w : Word) → SameArray new old w → shape plan j new spot w ≡ shape plan j old spot w
  shape-same spot w e = grind arith

  pub shapes-same : (spot : ℕ → StackPlace) (ws : List Word) → AllByRecursion (SameArray new old) ws → map (shape plan j new spot) ws ≡ map (shape plan j old spot) ws
  shapes-same spot [] e = refl
  shapes-same spot (w ∷ ws) e = ap (λ (s : Shape). s ∷ map (shape plan j new spot) ws) (shape-same spot w e.0) ∙ ap (λ (ss : List Shape). shape plan j old spot w ∷ ss) (shapes-same spot ws e.1)

  pub activations-same : (k : ℕ) (outer : ℕ → StackPlace) (fs : List Frame) → SameArrays new old fs → activations plan j new k outer fs ≡ activations plan j old k outer fs
  activations-same k outer [] e = refl
  activations-same k outer (g ∷ below) e =
      let A : List Shape → Activation = λ ss. record { head = head (spot_in k outer below) g.standing; cells = ss } in
      ap (λ (ss : List Shape). A ss ∷ activations plan j new k outer below) (shapes-same (spot_in k outer (g ∷ below)) g.cells e.0)
      ∙ ap (λ (under : List Activation). A (map (shape plan j old (spot_in k outer (g ∷ below))) g.cells) ∷ under) (activations-same k outer below e.1)
