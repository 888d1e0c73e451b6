-- The frame is left and a word is put on the caller's: the machine represents the session afterwards.
use Rattle.std.proofs.Common.{◌≡◌, ◌≢◌, ℕ, List, ◌∷◌, map, Ok, sym, ◌∙◌, ap, Bool, false, not, inl, inr, subst, arith}
use Rattle.std.specs.Prelude.{◌==◌}
use Rattle.std.proofs.lemmas.Bool.{true≢false}
use Rattle.std.proofs.lemmas.Bool.Decides.{eqb_tells}
use Rattle.b67_word.specs.declared.faults.Fault.TheVariants.{Uplevel}
use Rattle.b67_lemmas.specs.Lists.{Has, Falls}
use Rattle.b67_model.specs.Common.{◌>>◌, needs, Word, Ref, Row, Element, Frame, Array, JobConstants, Job, array, owner_of, returnable, IsSegment, Known, NamesArray, WordInOrder}
use Rattle.b67_stack.specs.Common.{Shape, StackPlace, PagedObject, CopiesName, MayPush}
use Rattle.b67_layout.specs.Common.{Placement, spot_in, shape}
use Rattle.b67_layout.proofs.Nowhere.{SameArray, array_stays}
use Rattle.b67_layout.proofs.Objects.{others}
use Rattle.b67_entry.proofs.CopyRefusals.{found_array}

-- a word that may be returned from a frame
module _ (job : Job) (id : ℕ) where
  abbrev Passes : Word → Type 0
  Passes v = returnable job id v ≡ Ok v

  needed : (b : Bool) (v : Word) → (needs (not b) Uplevel >> Ok v) ≡ Ok v → b ≡ false
  needed b v e = grind arith

  -- it isn't a reference into the frame
  pub other_frame : (g offset : ℕ) → returnable job id (Ref g offset) ≡ Ok (Ref g offset) → g ≢ id
  other_frame g offset e z = elim (eqb_tells g id) [ inl s ↦ true≢false (sym s.0 ∙ needed (g == id) (Ref g offset) e) | inr s ↦ s.1 z ]

  -- nor a copy of an array of the frame
  pub other_row : (a : ℕ) → returnable job id (Row a) ≡ Ok (Row a) → owner_of job a ≢ id
  other_row a e z = elim (eqb_tells (owner_of job a) id) [ inl s ↦ true≢false (sym s.0 ∙ needed (owner_of job a == id) (Row a) e) | inr s ↦ s.1 z ]

  pub other_element : (a i : ℕ) → returnable job id (Element a i) ≡ Ok (Element a i) → owner_of job a ≢ id
  other_element a i e z = elim (eqb_tells (owner_of job a) id) [ inl s ↦ true≢false (sym s.0 ∙ needed (owner_of job a == id) (Element a i) e) | inr s ↦ s.1 z ]

  -- it is seen from the frames below as from the frame
  pub shape_below : (plan : Placement) (j k : ℕ) (outer : ℕ → StackPlace) (f : Frame) (below : List Frame) (v : Word) → f.identity ≡ id → returnable job id v ≡ Ok v
      → shape plan j job (spot_in k outer (f ∷ below)) v ≡ shape plan j job (spot_in k outer below) v
  shape_below plan j k outer f below v is e = grind arith

  -- it may be put on a stack
  pub may_push : (plan : Placement) (j : ℕ) (spot : ℕ → StackPlace) (objects : List PagedObject) (shapes : List Shape) (v : Word) → CopiesName objects shapes → Has shapes (shape plan j job spot v) → returnable job id v ≡ Ok v → MayPush objects (shape plan j job spot v)
  may_push plan j spot objects shapes v copies h e = grind arith

  -- and its array stays
  kept : (new : Job) (reach : List Known) (a : ℕ) → NamesArray job.arrays reach a → new.arrays ≡ others id job.arrays → Falls job.next_array (map (λ (b : Array). b.identity) job.arrays) → owner_of job a ≢ id → array new a ≡ array job a
  kept new reach a n is falls ne =
      let same = found_array job reach a n falls in
      subst (λ (i : ℕ). array new i ≡ array job i) n.named (array_stays new job id is falls n.item n.live (λ e. ne (ap (λ (b : Array). b.owner) same ∙ e)))

  pub array_kept : (new : Job) (constants : JobConstants) (reach : List Known) (v : Word) → WordInOrder (IsSegment constants) job.arrays reach id v → new.arrays ≡ others id job.arrays → Falls job.next_array (map (λ (b : Array). b.identity) job.arrays) → returnable job id v ≡ Ok v → SameArray new job v
  array_kept new constants reach v g is falls e = grind (arith, kept)
