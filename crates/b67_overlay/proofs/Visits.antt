-- A walk over areas from the lowest up.
use Rattle.std.proofs.Common.{◌≡◌, ◌≢◌, ℕ, ◌+◌, ◌-◌, ◌^◌, ◌<◌, ◌≤◌, List, [], ◌∷◌, Option, Some, None, refl, sym, ◌∙◌, arith, inl, inr, ◌⊎◌, ⊎_elim, ◌==◌}
use Rattle.std.proofs.lemmas.Bool.{cases_Bool, cases_eq, cond-true, cond-false, eq-eqb, ne_eqb, eqb-true}
use Rattle.std.proofs.lemmas.Option.{same_Some, none-some}
use Rattle.b67_area.specs.declared.Info.{Info}
use Rattle.b67_area.specs.Spans.{Span, Area, Hole, area_at, first_area, area_after, without}
use Rattle.b67_area.proofs.Climbs.{area_at-low}
use Rattle.b67_area.proofs.Laws.{area_at-without}
use Rattle.b67_overlay.specs.AreasEvicted.{Remains}

-- a place from which the walk goes on: there is an area, and all others that are left lie above it
pub record IsNext (low : ℕ) (ss : List Span) (x z : ℕ) : Type 0 where
  pub info : Info
  pub there : area_at low ss z ≡ Some info
  pub above : x < z
  pub others : (b : ℕ) (i : Info) → area_at low ss b ≡ Some i → (b ≤ x) ⊎ (z ≤ b)

first_none : (at : ℕ) (ss : List Span) → first_area at ss ≡ None → (b : ℕ) (i : Info) → area_at at ss b ≡ Some i → ⊥
first_none at [] e b i f = none-some i f
first_none at (Area a ∷ ss) e b i f = none-some (at + 1) (sym e)
first_none at (Hole n ∷ ss) e b i f = first_none (at + n) ss e b i f

pub first_some : (at : ℕ) (ss : List Span) (z x : ℕ) → x ≤ at → first_area at ss ≡ Some z → IsNext at ss x z
first_some at [] z x h e = absurd (none-some z e)
first_some at (Area a ∷ ss) z x h e =
    let is = same_Some (at + 1) z e in
    record {
      info = a;
      there = cond-true (at + 1 == z) _ _ (eq-eqb (at + 1) z is);
      above = omega arith;
      others = λ b i f. inr (⊎_elim
          (λ t. omega (arith, eqb-true (at + 1) b t))
          (λ t. omega (arith, area_at-low (at + (a.words + 2)) ss b i (rw t at f)))
          (cases_Bool (at + 1 == b)));
    }
first_some at (Hole n ∷ ss) z x h e =
    let r = first_some (at + n) ss z x (omega arith) e in
    record { info = r.info; there = r.there; above = r.above; others = r.others }

pub after_some : (at : ℕ) (ss : List Span) (x z : ℕ) (a : Info) → area_at at ss x ≡ Some a → area_after at ss x ≡ Some z → IsNext at ss x z
after_some at [] x z a e f = absurd (none-some a e)
after_some at (Hole n ∷ ss) x z a e f =
    let r = after_some (at + n) ss x z a e f in
    record { info = r.info; there = r.there; above = r.above; others = r.others }
after_some at (Area c ∷ ss) x z a e f = ⊎_elim
    (λ t.
    let r = first_some (at + (c.words + 2)) ss z x (omega (arith, eqb-true (at + 1) x t)) (rw t at f) in
    lift (eqb-true (at + 1) x t) r)
    (λ t. let low = area_at-low (at + (c.words + 2)) ss x a (rw t at e) in lift_on low (after_some (at + (c.words + 2)) ss x z a (rw t at e) (rw t at f)))
    (cases_Bool (at + 1 == x)) where
      whole : (b : ℕ) → at + 1 < b → area_at at (Area c ∷ ss) b ≡ area_at (at + (c.words + 2)) ss b
      whole b h = cond-false (at + 1 == b) _ _ (ne_eqb (at + 1) b (λ q. omega arith))

      lift_on : at + (c.words + 2) < x → IsNext (at + (c.words + 2)) ss x z → IsNext at (Area c ∷ ss) x z
      lift_on low r = record {
        info = r.info;
        there = whole z (omega (arith, r.above)) ∙ r.there;
        above = r.above;
        others = λ b i g. ⊎_elim
            (λ t. inl (omega (arith, eqb-true (at + 1) b t)))
            (λ t. r.others b i (rw t at g))
            (cases_Bool (at + 1 == b));
      }

      lift : at + 1 ≡ x → IsNext (at + (c.words + 2)) ss x z → IsNext at (Area c ∷ ss) x z
      lift is r = record {
        info = r.info;
        there = whole z (omega (arith, area_at-low (at + (c.words + 2)) ss z r.info r.there)) ∙ r.there;
        above = r.above;
        others = λ b i g. ⊎_elim
            (λ t. inl (omega (arith, eqb-true (at + 1) b t)))
            (λ t. r.others b i (rw t at g))
            (cases_Bool (at + 1 == b));
      }

after_none : (at : ℕ) (ss : List Span) (x : ℕ) (a : Info) → area_at at ss x ≡ Some a → area_after at ss x ≡ None → (b : ℕ) (i : Info) → area_at at ss b ≡ Some i → b ≤ x
after_none at [] x a e f b i g = absurd (none-some a e)
after_none at (Hole n ∷ ss) x a e f b i g = after_none (at + n) ss x a e f b i g
after_none at (Area c ∷ ss) x a e f b i g = ⊎_elim
    (λ t. ⊎_elim
    (λ u. omega (arith, eqb-true (at + 1) x t, eqb-true (at + 1) b u))
    (λ u. absurd (first_none (at + (c.words + 2)) ss (rw t at f) b i (rw u at g)))
    (cases_Bool (at + 1 == b)))
    (λ t. ⊎_elim
    (λ u. omega (arith, eqb-true (at + 1) b u, area_at-low (at + (c.words + 2)) ss x a (rw t at e)))
    (λ u. after_none (at + (c.words + 2)) ss x a (rw t at e) (rw t at f) b i (rw u at g))
    (cases_Bool (at + 1 == b)))
    (cases_Bool (at + 1 == x))

-- the walk begins
pub Remains-first : (low : ℕ) (ss : List Span) (spare : ℕ) → Remains low ss spare (first_area low ss)
Remains-first low ss spare = by (first_area low ss) refl where
  by : (o : Option ℕ) → first_area low ss ≡ o → Remains low ss spare o
  by None e = λ b i f. absurd (first_none low ss e b i f)
  by (Some z) e = let r = first_some low ss z 0 (omega arith) e in ((r.info, r.there), λ b i f. ⊎_elim (λ (h : b ≤ 0). absurd (omega (arith, area_at-low low ss b i f))) (λ (h : z ≤ b). inr h) (r.others b i f))

-- it passes the spare area
pub Remains-past : (low : ℕ) (ss : List Span) (spare at : ℕ) → at ≡ spare → Remains low ss spare (Some at) → Remains low ss spare (area_after low ss at)
Remains-past low ss spare at is r = by (area_after low ss at) refl where
  by : (o : Option ℕ) → area_after low ss at ≡ o → Remains low ss spare o
  by None e = λ b i f. ⊎_elim (λ (q : b ≡ spare). q) (λ (h : at ≤ b). omega (arith, after_none low ss at r.0.0 r.0.1 e b i f)) (r.1 b i f)
  by (Some z) e =
      let n = after_some low ss at z r.0.0 r.0.1 e in (
        (n.info, n.there),
        λ b i f. ⊎_elim (λ (q : b ≡ spare). inl q) (λ (h : at ≤ b). ⊎_elim (λ (l : b ≤ at). inl (omega arith)) (λ (g : z ≤ b). inr g) (n.others b i f)) (r.1 b i f),
      )

-- it goes on where an area was
pub Remains-gone : (low : ℕ) (ss : List Span) (spare at : ℕ) → at ≢ spare → Remains low ss spare (Some at) → Remains low (without low at ss) spare (area_after low ss at)
Remains-gone low ss spare at n r = by (area_after low ss at) refl where
  was : (b : ℕ) (i : Info) → area_at low (without low at ss) b ≡ Some i → (area_at low ss b ≡ Some i) × (at ≢ b)
  was b i f = ⊎_elim
      (λ (q : at ≡ b). absurd (none-some i (sym (cond-true (at == b) _ _ (eq-eqb at b q)) ∙ sym (area_at-without low at ss b) ∙ f)))
      (λ (m : at ≡ b → ⊥). let z : (area_at low ss b ≡ Some i) × (at ≢ b) = (sym (cond-false (at == b) _ _ (ne_eqb at b m)) ∙ sym (area_at-without low at ss b) ∙ f, m) in z)
      (cases_eq at b)

  by : (o : Option ℕ) → area_after low ss at ≡ o → Remains low (without low at ss) spare o
  by None e = λ b i f. let w = was b i f in ⊎_elim (λ (q : b ≡ spare). q) (λ (h : at ≤ b). absurd (w.1 (omega (arith, after_none low ss at r.0.0 r.0.1 e b i w.0)))) (r.1 b i w.0)
  by (Some z) e =
      let m = after_some low ss at z r.0.0 r.0.1 e in (
        (m.info, area_at-without low at ss z ∙ cond-false (at == z) _ _ (ne_eqb at z (λ q. omega (arith, m.above))) ∙ m.there),
        λ b i f. let w = was b i f in ⊎_elim (λ (q : b ≡ spare). inl q) (λ (h : at ≤ b). ⊎_elim (λ (l : b ≤ at). absurd (w.1 (omega arith))) (λ (g : z ≤ b). inr g) (m.others b i w.0)) (r.1 b i w.0),
      )

-- how far a walk has still to go
abbrev pub left_of : Option ℕ → ℕ
left_of None = 0
left_of (Some at) = 2 ^ 20 - at

pub walk_falls : (low : ℕ) (ss : List Span) (at : ℕ) (a : Info) → area_at low ss at ≡ Some a → at < 2 ^ 20 → left_of (area_after low ss at) < left_of (Some at)
walk_falls low ss at a e small = by (area_after low ss at) refl where
  by : (o : Option ℕ) → area_after low ss at ≡ o → left_of o < left_of (Some at)
  by None f = omega arith
  by (Some z) f = omega (arith, (after_some low ss at z a e f).above)
