-- The marks of a stack, by a walk over words and by what is seen.
use Rattle.std.proofs.Common.{◌≡◌, ◌≢◌, ℕ, zero, suc, ◌+◌, ◌-◌, ◌<◌, ◌≤◌, ◌==◌, Bool, true, false, List, [], ◌∷◌, length, refl, sym, ◌∙◌, ap, subst, arith, inl, inr}
use Rattle.std.specs.Prelude.{◌⊎◌, ◌&&◌, ◌||◌, nat_lt, nat_le, if◌then◌else◌}
use Rattle.std.proofs.lemmas.Bool.{ltb-true, leb-true}
use Rattle.std.proofs.lemmas.Bool.Decides.{Decides-or, eqb_tells}
use Rattle.b67_word.specs.Tagged.{Tagged}
use Rattle.b67_ctl.specs.declared.marks.Mscw.{Mscw}
use Rattle.b67_lemmas.specs.Lists.{Has}
use Rattle.b67_stack.specs.Common as stack
use Rattle.b67_stack.specs.Common.{Head, Activation, StackPlace, stack_words}
use Rattle.b67_layout_shown.specs.Reading.{word_seen_at, is_set, mscw_in, activation_by, below_by, stack_seen}
use Rattle.b67_layout_shown.specs.Seen.{Seen, seen_in, from_disp}
use Rattle.b67_image_shape.specs.Deciding.{Decides}
use Rattle.b67_image_shape.specs.StackWalk.{record_fits, level_under, under_fits, walk_test}
use Rattle.b67_image_shape.specs.Reaching.{marked_under, has_mark}
use Rattle.b67_image_shape.proofs.Deciding.{same_number, like, nothing}
use Rattle.b67_image_shape.proofs.Fits.{both}
use Rattle.b67_image_shape.proofs.Walked.{walk_stands}

abbrev pub is_entered_head : Head → Bool
is_entered_head stack.Marked = false
is_entered_head (stack.Entered level environment back) = true

-- one of these marks stands at an address over a base
abbrev pub MarkAt : ℕ → List Seen → ℕ → Type 0
MarkAt base xs at = (x : Seen) × Has xs x × (base + x.0.disp ≡ at)

-- ---- the walk

module _ (base slot f at : ℕ) where
  under : (back : ℕ) (e : Bool) (fits more : ℕ → Bool) (rest : ℕ → List Activation) → ((d : ℕ) → fits d ≡ true → Decides (more d) (MarkAt base (seen_in slot (rest d)) at)) → under_fits base f back e fits ≡ true
      → Decides (marked_under back more) (MarkAt base (seen_in slot (below_by back rest)) at)
  under back e fits more rest go t = grind arith

  one : (a : Activation) (below : List Activation) (more : Bool) → base + (stack_words below + 1) ≡ f → Decides more (MarkAt base (seen_in slot below) at) → Decides ((f == at) || more) (MarkAt base (seen_in slot (a ∷ below)) at)
  one a below more e d = like ((f == at) || more) to from (Decides-or (f == at) more (same_number f at) d) where
    to : (f ≡ at) ⊎ MarkAt base (seen_in slot below) at → MarkAt base (seen_in slot (a ∷ below)) at
    to (inl z) = ((record { stack = slot; disp = stack_words below + 1 }, a.head), inl refl, e ∙ z)
    to (inr (x, h, is)) = (x, inr h, is)

    from : MarkAt base (seen_in slot (a ∷ below)) at → (f ≡ at) ⊎ MarkAt base (seen_in slot below) at
    from (x, inl z, is) = inl (sym e ∙ ap (λ (y : Seen). base + y.0.disp) z ∙ is)
    from (x, inr h, is) = inr (x, h, is)

record_high : (core : List Tagged) (slot segments level f s : ℕ) (m : Mscw) (e : Bool) → record_fits core slot segments level f s m e ≡ true → f ≤ s
record_high core slot segments level f s m e t = grind arith

head_is : (core : List Tagged) (f s : ℕ) (e : Bool) → is_entered_head (activation_by core f s (mscw_in (word_seen_at core f)) e).head ≡ e
head_is core f s e = grind arith

module _ (core : List Tagged) (base slot segments : ℕ) where
  -- the walk finds a mark exactly if it is seen
  pub mark_seen : (n level f s : ℕ) → s < length core → walk_test core base slot segments n level f s ≡ true → (at : ℕ) → Decides (has_mark core n f at) (MarkAt base (seen_in slot (stack_seen core n f s)) at)
  unfolding walk_test stack_seen has_mark
  mark_seen zero level f s inside t at = absurd (let z : ⊥ = cc in z)
  mark_seen (suc n) level f s inside t at =
      let m = mscw_in (word_seen_at core f) in
      let fits = λ (d : ℕ). walk_test core base slot segments n (level_under core level f m.entered) (f - d) (f - 1) in
      let p = both (nat_lt base f) (record_fits core slot segments level f s m m.entered && under_fits base f m.back m.entered fits) t in
      let q = both (record_fits core slot segments level f s m m.entered) (under_fits base f m.back m.entered fits) p.1 in
      let high = record_high core slot segments level f s m m.entered q.0 in
      one base slot f at (activation_by core f s (mscw_in (word_seen_at core f)) (mscw_in (word_seen_at core f)).entered) (below_by (mscw_in (word_seen_at core f)).back (λ d. stack_seen core n (f - d) (f - 1)))
      (marked_under (mscw_in (word_seen_at core f)).back (λ d. has_mark core n (f - d) at)) (walk_stands core base slot segments (suc n) level f s inside t).mark
      (under base slot f at (mscw_in (word_seen_at core f)).back (mscw_in (word_seen_at core f)).entered
      (λ d. walk_test core base slot segments n (level_under core level f (mscw_in (word_seen_at core f)).entered) (f - d) (f - 1)) (λ d. has_mark core n (f - d) at) (λ d. stack_seen core n (f - d) (f - 1))
      (λ d u. mark_seen n (level_under core level f (mscw_in (word_seen_at core f)).entered) (f - d) (f - 1) (omega (arith, high, inside)) u at) q.1)

  -- a mark that is seen is entered exactly if its word says so
  pub entered_seen : (n level f s : ℕ) → s < length core → walk_test core base slot segments n level f s ≡ true → (x : Seen) → Has (seen_in slot (stack_seen core n f s)) x → is_entered_head x.1 ≡ is_set (word_seen_at core (base + x.0.disp)) 46
  unfolding walk_test stack_seen
  entered_seen zero level f s inside t x h = absurd h
  entered_seen (suc n) level f s inside t x h =
      let m = mscw_in (word_seen_at core f) in
      let fits = λ (d : ℕ). walk_test core base slot segments n (level_under core level f m.entered) (f - d) (f - 1) in
      let p = both (nat_lt base f) (record_fits core slot segments level f s m m.entered && under_fits base f m.back m.entered fits) t in
      let q = both (record_fits core slot segments level f s m m.entered) (under_fits base f m.back m.entered fits) p.1 in
      let high = record_high core slot segments level f s m m.entered q.0 in
      by (mscw_in (word_seen_at core f)).back (mscw_in (word_seen_at core f)).entered (λ d. walk_test core base slot segments n (level_under core level f (mscw_in (word_seen_at core f)).entered) (f - d) (f - 1)) (λ d. stack_seen core n (f - d) (f - 1))
      (λ d u x h. entered_seen n (level_under core level f (mscw_in (word_seen_at core f)).entered) (f - d) (f - 1) (omega (arith, high, inside)) u x h) q.1 (walk_stands core base slot segments (suc n) level f s inside t).mark h
    where
      by : (back : ℕ) (e : Bool) (fits : ℕ → Bool) (rest : ℕ → List Activation) → ((d : ℕ) → fits d ≡ true → (x : Seen) → Has (seen_in slot (rest d)) x → is_entered_head x.1 ≡ is_set (word_seen_at core (base + x.0.disp)) 46) → under_fits base f back e fits ≡ true
          → base + (stack_words (below_by back rest) + 1) ≡ f → Has (seen_in slot (activation_by core f s (mscw_in (word_seen_at core f)) (mscw_in (word_seen_at core f)).entered ∷ below_by back rest)) x → is_entered_head x.1 ≡ is_set (word_seen_at core (base + x.0.disp)) 46
      by back e fits rest go t mark (inl z) =
          ap (λ (y : Seen). is_entered_head y.1) (sym z) ∙ head_is core f s (mscw_in (word_seen_at core f)).entered ∙ ap (λ i. is_set (word_seen_at core i) 46) (sym mark ∙ ap (λ (y : Seen). base + y.0.disp) z)
      by zero e fits rest go t mark (inr g) = absurd g
      by (suc d) e fits rest go t mark (inr g) = go (suc d) (both (nat_lt (base + suc d) f) (fits (suc d)) t).1 x g

-- ---- places

pub seen_stack : (n : ℕ) (acts : List Activation) (x : Seen) → Has (seen_in n acts) x → x.0.stack ≡ n
seen_stack n [] x h = absurd h
seen_stack n (a ∷ below) x (inl e) = ap (λ (y : Seen). y.0.stack) (sym e)
seen_stack n (a ∷ below) x (inr h) = seen_stack n below x h

pub seen_low : (n : ℕ) (acts : List Activation) (x : Seen) → Has (seen_in n acts) x → x.0.disp ≤ stack_words acts
seen_low n [] x h = absurd h
seen_low n (a ∷ below) x (inl e) = grind arith
seen_low n (a ∷ below) x (inr h) = (let low = seen_low n below x h in omega (arith, low))

-- ---- marks from a displacement down

abbrev pub HasDisp : ℕ → List Activation → ℕ → Type 0
HasDisp n acts disp = (x : Seen) × Has (seen_in n acts) x × (x.0.disp ≡ disp)

pub from_cut : (n disp : ℕ) (acts : List Activation) (x : Seen) → Has (seen_in n (from_disp disp acts)) x → HasDisp n acts disp × Has (seen_in n acts) x × (x.0.disp ≤ disp)
from_cut n disp [] x h = absurd h
from_cut n disp (a ∷ below) x h = elim (eqb_tells (stack_words below + 1) disp) [
  | inl q ↦ here q.1 (subst (λ (b : Bool). Has (seen_in n (if b then a ∷ below else from_disp disp below)) x) q.0 h)
  | inr q ↦ (let ((y, hy, is), hx, low) = from_cut n disp below x (subst (λ (b : Bool). Has (seen_in n (if b then a ∷ below else from_disp disp below)) x) q.0 h) in ((y, inr hy, is), inr hx, low))
] where
  here : stack_words below + 1 ≡ disp → Has (seen_in n (a ∷ below)) x → HasDisp n (a ∷ below) disp × Has (seen_in n (a ∷ below)) x × (x.0.disp ≤ disp)
  here e (inl z) = (((record { stack = n; disp = stack_words below + 1 }, a.head), inl refl, e), inl z, (let at : stack_words below + 1 ≡ x.0.disp = ap (λ (y : Seen). y.0.disp) z in omega (arith, at, e)))
  here e (inr g) = (((record { stack = n; disp = stack_words below + 1 }, a.head), inl refl, e), inr g, (let low = seen_low n below x g in omega (arith, low, e)))

pub from_in : (n disp : ℕ) (acts : List Activation) (x : Seen) → HasDisp n acts disp → Has (seen_in n acts) x → x.0.disp ≤ disp → Has (seen_in n (from_disp disp acts)) x
from_in n disp [] x d h low = absurd h
from_in n disp (a ∷ below) x d h low = grind (arith, eqb_tells, seen_low, from_in n disp below x)
