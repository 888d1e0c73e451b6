-- The words of a new task's stack: its arguments are copied from the top of its parent's.
use Rattle.std.proofs.Common.{◌≡◌, ◌≢◌, ℕ, suc, ◌+◌, ◌<◌, List, [], ◌∷◌, ◌++◌, map, length, Some, None, refl, sym, ◌∙◌, ap, arith, false, inl, inr, subst}
use Rattle.std.specs.List.{slice_get}
use Rattle.std.proofs.lemmas.Bool.{eq-eqb, ne_eqb}
use Rattle.std.proofs.lemmas.List.{length-map, length-append}
use Rattle.b67_word.specs.Tagged.{Tagged}
use Rattle.b67_ctl.specs.Layout.{mscw_word, rcw_word}
use Rattle.b67_lemmas.specs.Lists.{Has}
use Rattle.b67_model.specs.Words as Words
use Rattle.b67_model.specs.Common.{Word, Original, Frame, Job, is_original, from_frame}
use Rattle.b67_stack.specs.Shapes as Shapes
use Rattle.b67_stack.specs.Common.{Locations, Shape, Fits, LieDownward, StackPlace, Head, Entered, mark_of, return_of, headed}
use Rattle.b67_task.specs.Joining.{Sees}
use Rattle.b67_layout.specs.Common.{Placement, spot_in, shape}

-- words that were copied lie elsewhere with other shapes that they fit too
pub LieDownward-copied : (R : Shape → ℕ → Tagged → Type 0) (core new : List Tagged) (from to : ℕ) (sh sh' : Word → Shape) (xs : List Word) (ys zs : List Shape)
    → ((i : ℕ) → i < length xs → slice_get new (to + length zs + i) ≡ slice_get core (from + length ys + i))
    → ((x : Word) → Has xs x → (at at' : ℕ) (w : Tagged) → R (sh x) at w → R (sh' x) at' w)
    → LieDownward R core from (map sh xs ++ ys) → LieDownward R new to zs → LieDownward R new to (map sh' xs ++ zs)
LieDownward-copied R core new from to sh sh' [] ys zs copied fits old rest = rest
LieDownward-copied R core new from to sh sh' (x ∷ xs) ys zs copied fits old rest =
    let a : length (map sh xs ++ ys) ≡ length xs + length ys = length-append (map sh xs) ys ∙ ap (λ (n : ℕ). n + length ys) (length-map xs sh) in
    let b : length (map sh' xs ++ zs) ≡ length xs + length zs = length-append (map sh' xs) zs ∙ ap (λ (n : ℕ). n + length zs) (length-map xs sh') in
    let (w, there, fit) = old.0 in
    let there' : slice_get core (from + length ys + length xs) ≡ Some w = ap (slice_get core) (let e : from + length ys + length xs ≡ from + length (map sh xs ++ ys) = omega (arith, a) in e) ∙ there in
    let here : slice_get new (to + length (map sh' xs ++ zs)) ≡ Some w = ap (slice_get new) (let e : to + length (map sh' xs ++ zs) ≡ to + length zs + length xs = omega (arith, b) in e) ∙ copied (length xs) (omega arith) ∙ there' in (
      (w, here, fits x (inl refl) (from + length (map sh xs ++ ys)) (to + length (map sh' xs ++ zs)) w fit),
      LieDownward-copied R core new from to sh sh' xs ys zs (λ i low. copied i (omega (arith, low))) (λ y h. fits y (inr h)) old.1 rest,
    )

-- a word but an original fits wherever it lies
pub fits_anywhere : (held : Locations) (c : Shape) (at at' : ℕ) (w : Tagged) → ((home : ℕ) → c ≢ Shapes.Original home) → Fits held c at w → Fits held c at' w
fits_anywhere held c at at' w plain f = grind arith

-- a shape depends on the spots of the frames that the word names
pub shape_seen : (plan : Placement) (j : ℕ) (job : Job) (spot spot' : ℕ → StackPlace) (w : Word) → Sees (λ (f : ℕ). spot' f ≡ spot f) w → shape plan j job spot' w ≡ shape plan j job spot w
shape_seen plan j job spot spot' w e = grind arith

plain_shape : (plan : Placement) (j : ℕ) (job : Job) (spot : ℕ → StackPlace) (w : Word) → is_original w ≡ false → (home : ℕ) → shape plan j job spot w ≢ Shapes.Original home
plain_shape plan j job spot w p home e = grind arith

-- from the parent's critical frame, the one under the call's mark, its spots are those that the parent sees, but for the mark
pub seen_below : (k : ℕ) (outer : ℕ → StackPlace) (f g : Frame) (below : List Frame) (id : ℕ) → f.identity ≢ g.identity → f.identity ≢ id
    → spot_in k outer (from_frame g.identity (f ∷ g ∷ below)) id ≡ spot_in k outer (f ∷ g ∷ below) id
seen_below k outer f g below id apart other = rw (ne_eqb f.identity g.identity apart, eq-eqb g.identity g.identity refl, ne_eqb f.identity id other) refl

-- The stack of a new task: a mark on its environment, a return to nowhere, and its arguments.
module _ (held : Locations) (core new : List Tagged) (plan : Placement) (j : ℕ) (job : Job) (k base : ℕ) (outer : ℕ → StackPlace) (f : Frame) (level environment from : ℕ) (seen : ℕ → StackPlace) (rest under : List Shape) where
  -- f is the child's only frame; its arguments lie in core from an address up, under other words of their stack
  abbrev pub child_spot : ℕ → StackPlace
  child_spot = spot_in k outer (f ∷ [])

  abbrev pub child_head : Head
  child_head = Entered level (outer environment) None

  abbrev pub child_words : List Shape
  child_words = map (shape plan j job child_spot) f.cells ++ headed k child_head [] []

  pub child_lies : slice_get new (base + 1) ≡ Some (mscw_word (mark_of k child_head [])) → slice_get new (base + 2) ≡ Some (rcw_word (return_of None []))
      → ((i : ℕ) → i < length f.cells → slice_get new (base + 3 + i) ≡ slice_get core (from + length under + i))
      → ((w : Word) → Has f.cells w → (is_original w ≡ false) × Sees (λ (id : ℕ). child_spot id ≡ seen id) w)
      → LieDownward (Fits held) core from (map (shape plan j job seen) f.cells ++ under)
      → LieDownward (Fits held) new (suc base) child_words
  child_lies mark back copied fine old =
      LieDownward-copied (Fits held) core new from (suc base) (shape plan j job seen) (shape plan j job child_spot) f.cells under (headed k child_head [] [])
      (λ i low. ap (slice_get new) (let e : suc base + 2 + i ≡ base + 3 + i = omega arith in e) ∙ copied i low)
      (λ x h at at' w fit.
      let g = fine x h in
      let moved : Fits held (shape plan j job seen x) at' w = fits_anywhere held (shape plan j job seen x) at at' w (plain_shape plan j job seen x g.0) fit in
      subst (λ (c : Shape). Fits held c at' w) (sym (shape_seen plan j job seen child_spot x g.1)) moved)
      old (
        (rcw_word (return_of None []), ap (slice_get new) (let e : suc base + 1 ≡ base + 2 = omega arith in e) ∙ back, (refl, λ e. absurd cc)),
        ((mscw_word (mark_of k child_head []), ap (slice_get new) (let e : suc base + 0 ≡ base + 1 = omega arith in e) ∙ mark, (refl, λ e. absurd cc)), tt),
      )
