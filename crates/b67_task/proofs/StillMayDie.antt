-- The tasks of several slots die, one after another: what may die still may after the first deaths.
use Rattle.std.proofs.Common.{◌≡◌, ◌≢◌, ℕ, ◌+◌, ◌*◌, ◌<◌, ◌≤◌, List, [], ◌∷◌, ◌++◌, length, drop, Some, refl, sym, ◌∙◌, ap, arith, inl, inr, ◌⊎◌, ⊎_elim, subst, suc, ◌-◌, slice_index_or}
use Rattle.std.specs.List.{slice_get}
use Rattle.std.proofs.Math.ListN.{drop_of_length-le}
use Rattle.std.proofs.lemmas.List.{append_assoc, append-nil, drop_more, length-drop}
use Rattle.std.proofs.lemmas.Bool.{cases_lt, cases_eq}
use Rattle.b67_word.specs.Tagged.{Tagged, word}
use Rattle.b67_ctl.specs.declared.registers.Regs.{Regs}
use Rattle.b67_lemmas.specs.Lists.{Has}
use Rattle.b67_lemmas.proofs.Members.{has_append_left, has_append_right, has_append_cases, has_map, has_map_back}
use Rattle.b67_stack.specs.Common.{PagedObject, MachineView, slot_base, Storage}
use Rattle.b67_stack.proofs.Bases.{base-apart}
use Rattle.b67_task.specs.Released.{HasHome, Released}
use Rattle.b67_task.proofs.Remaining.{Released-then}
use Rattle.b67_task.specs.Vacated.{put_out, died, MayDie}
use Rattle.b67_task.specs.DeathsInTurn.{Death, MayAllDie, all_died, slots_of, HasGone, SameInside, SameButSlot, SameButSlots, ZeroVector, all_put_out, Buried}

may_die_same : (p : MachineView) (core new : List Tagged) (k : ℕ) (gone rest : List PagedObject) → SameInside p core new → MayDie p core k gone rest → MayDie p new k gone rest
may_die_same p core new k gone rest same may = grind arith

pub all_same : (p : MachineView) (core new : List Tagged) (ds : List Death) → SameInside p core new → MayAllDie p core ds → MayAllDie p new ds
unfolding MayAllDie
all_same p core new [] same m = tt
all_same p core new (d ∷ ds) same m = (may_die_same p core new d.slot d.gone d.rest same m.0, all_same (died p d.slot d.rest) core new ds same m.1)

-- the words in the slots are below the areas, and none is a slot's first
inside_same : (low : ℕ) (core new : List Tagged) (p : MachineView) (k : ℕ) → 160 ≤ slot_base p 0 → slot_base p p.peak ≤ low → 0 < p.size → k < 120 → SameButSlot low p k core new → SameInside p core new
inside_same low core new p k first below some few same q i hq down up =
    same i
    (omega (arith, up, base-apart p q p.peak hq, below))
    (λ e. omega (arith, e, down, first))
    (λ e. ⊎_elim
    (λ (a : q < k). omega (arith, e, up, base-apart p q k a))
    (λ (a : k ≤ q). ⊎_elim
    (λ (b : k < q). omega (arith, e, down, base-apart p k q b, some))
    (λ (b : q ≤ k). omega (arith, e, down, ap (slot_base p) (let z : q ≡ k = omega (arith, a, b) in z)))
    (cases_lt k q))
    (cases_lt q k))
    (λ e. omega (arith, e, down, first, few))

-- the next of the slots
pub record Head (slots : List ℕ) (i : ℕ) (more : List Death) : Type 0 where
  pub gone : List PagedObject
  pub rest : List PagedObject
  pub others : List Death
  pub is : more ≡ record { slot = slice_index_or slots i 0; gone = gone; rest = rest } ∷ others
  pub left : slots_of others ≡ drop (i + 1) slots

pub head : (slots : List ℕ) (i : ℕ) (more : List Death) → i < length slots → slots_of more ≡ drop i slots → Head slots i more
head slots i [] inside e = absurd (let z : 0 ≡ suc (length (drop (i + 1) slots)) = ap (λ (xs : List ℕ). length xs) (e ∙ drop_more slots i 0 inside) in omega (arith, z))
head slots i (d ∷ ds) inside e =
    let f = e ∙ drop_more slots i 0 inside in
    record {
      gone = d.gone;
      rest = d.rest;
      others = ds;
      is = ap (λ (k : ℕ). let w : Death = record { slot = k; gone = d.gone; rest = d.rest } in w ∷ ds) (ap (λ (xs : List ℕ). slice_index_or xs 0 0) f);
      left = ap (λ (xs : List ℕ). drop 1 xs) f;
    }

-- at the end
pub all_buried : (x y : Storage) (p q : MachineView) (core now : List Tagged) (all done more : List Death) (slots : List ℕ) (i : ℕ) → length slots ≤ i → slots_of more ≡ drop i slots → Buried x y p q core now all done more → Released (HasGone all) x y × (q ≡ all_died p all) × SameButSlots x.low p (slots_of all) core now × ZeroVector (slots_of all) now
unfolding all_died
all_buried x y p q core now all done [] slots i out e b = grind (arith, append-nil)
all_buried x y p q core now all done (d ∷ ds) slots i out e b = absurd (let z : suc (length (slots_of ds)) ≡ length slots - i = ap (λ (xs : List ℕ). length xs) e ∙ length-drop i slots in omega (arith, z, out))

-- one more
module _ (x y z : Storage) (p q : MachineView) (core now new : List Tagged) (all done more : List Death) (d : Death) (b : Buried x y p q core now all done (d ∷ more)) where
  abbrev q' : MachineView
  q' = died q d.slot d.rest

  pub may : MayDie q now d.slot d.gone d.rest
  unfolding MayAllDie
  may = b.may.0

  abbrev one : List Death
  one = d ∷ []

  left : (home : ℕ) → HasGone done home → HasGone (done ++ one) home
  left home g = (g.0, has_append_left done one g.0 g.1, g.2)

  right : (home : ℕ) → HasHome d.gone home → HasGone (done ++ one) home
  right home g = (d, has_append_right done one d (inl refl), g)

  parts : (home : ℕ) → HasGone (done ++ one) home → HasGone done home ⊎ HasHome d.gone home
  parts home g = grind (arith, has_append_cases)

  -- an object that stays is one that was there
  was : (t : PagedObject) → Has d.rest t → Has q.objects t
  was t h = may.back t (has_append_right d.gone d.rest t h)

  going : (t : PagedObject) → Has d.gone t → Has q.objects t
  going t h = may.back t (has_append_left d.gone d.rest t h)

  apart : (home : ℕ) → HasGone done home → HasHome d.gone home → ⊥
  apart home g h = b.apart home g h.0 (going h.0 h.1) h.2

  still : (home : ℕ) → HasGone (done ++ one) home → (t : PagedObject) → Has d.rest t → t.home ≢ home
  still home g t i e = ⊎_elim
      (λ (h : HasGone done home). b.apart home h t (was t i) e)
      (λ (h : HasHome d.gone home). may.alone h.0 t h.1 i (e ∙ sym h.2))
      (parts home g)

  base_is : (k : ℕ) → slot_base q k ≡ slot_base p k
  base_is k = ap (λ (n : ℕ). n + k * q.size) b.stacks ∙ ap (λ (n : ℕ). p.stacks + k * n) b.size

  new_slot : Has (slots_of (done ++ one)) d.slot
  new_slot = has_map (λ (v : Death). v.slot) (done ++ one) d (has_append_right done one d (inl refl))

  old_slot : (k : ℕ) → Has (slots_of done) k → Has (slots_of (done ++ one)) k
  old_slot k i =
      let v = has_map_back (λ (v : Death). v.slot) done k i in
      subst (Has (slots_of (done ++ one))) v.is (has_map (λ (v : Death). v.slot) (done ++ one) v.item (has_append_left done one v.item v.among))

  old_of : (k : ℕ) → k ≢ d.slot → Has (slots_of (done ++ one)) k → Has (slots_of done) k
  old_of k n i =
      let v = has_map_back (λ (v : Death). v.slot) (done ++ one) k i in
      ⊎_elim
      (λ (w : Has done v.item). subst (Has (slots_of done)) v.is (has_map (λ (v : Death). v.slot) done v.item w))
      (λ (w : Has one v.item). ⊎_elim (λ (e : d ≡ v.item). absurd (n (sym v.is ∙ ap (λ (u : Death). u.slot) (sym e)))) (λ (z : ⊥). absurd z) w)
      (has_append_cases done one v.item v.among)

  pub buried_more : 160 ≤ slot_base q 0 → slot_base q q.peak ≤ y.low → Released (HasHome d.gone) y z → SameButSlot y.low q d.slot now new → slice_get new (32 + d.slot) ≡ Some (word 0 0) → Buried x z p q' core new all (done ++ one) more
  unfolding MayAllDie all_died
  buried_more first below released same zero =
      let within = inside_same y.low now new q d.slot first below (omega (arith, may.room)) (omega (arith, may.used, may.few)) same in
      record {
        whole = append_assoc done one more ∙ b.whole;
        may = all_same q' now new more within b.may.1;
        end = b.end;
        released = Released-then (HasGone done) (HasHome d.gone) (HasGone (done ++ one)) x y z apart parts left right b.released released;
        apart = still;
        stacks = b.stacks;
        size = b.size;
        peak = b.peak;
        below = λ i up dir others.
            same i (omega (arith, up, b.released.low)) dir (λ e. (others d.slot new_slot).0 (e ∙ base_is d.slot)) (λ e. (others d.slot new_slot).1 e)
            ∙ b.below i up dir (λ k i. others k (old_slot k i));
        zero = λ k i. elim (cases_eq k d.slot) [
          | inl e ↦ ap (λ (n : ℕ). slice_get new (32 + n)) e ∙ zero
          | inr n ↦
              let was : Has (slots_of done) k = old_of k n i in
              same (32 + k) (omega (arith, first, below, b.few k was)) (λ e. omega (arith, e, b.few k was)) (λ e. omega (arith, e, first, b.few k was)) (λ e. omega (arith, n, e)) ∙ b.zero k was
        ];
        few = λ k i. elim (cases_eq k d.slot) [ inl e ↦ omega (arith, e, may.used, may.few) | inr n ↦ b.few k (old_of k n i) ];
      }

-- the registers
pub next_put_out : (r : Regs) (slots : List ℕ) (i : ℕ) → i < length slots → all_put_out (put_out r (slice_index_or slots i 0)) (drop (i + 1) slots) ≡ all_put_out r (drop i slots)
unfolding all_put_out
next_put_out r slots i inside = ap (all_put_out r) (sym (drop_more slots i 0 inside))

pub last_put_out : (r : Regs) (slots : List ℕ) (i : ℕ) → length slots ≤ i → r ≡ all_put_out r (drop i slots)
unfolding all_put_out
last_put_out r slots i out = ap (all_put_out r) (sym (drop_of_length-le slots out))
