-- Holes: which have room, and an area that is placed and freed again.
use Rattle.std.proofs.Common.{◌≡◌, ℕ, zero, suc, ◌+◌, ◌-◌, ◌<◌, ◌≤◌, List, [], ◌∷◌, Option, Some, None, refl, sym, ◌∙◌, ap, arith, inl, inr, ⊎_elim, ◌==◌}
use Rattle.std.proofs.lemmas.Bool.{cond-true, cond-false, eq-eqb, ne_eqb, cases_lt, le-leb, lt-leb}
use Rattle.std.proofs.lemmas.Option.{same_Some, none-some}
use Rattle.b67_area.specs.declared.kinds.Info.{Info}
use Rattle.b67_area.specs.Spans.{Span, Area, Hole, left, spot, address, fill, join, without}
use Rattle.b67_area.specs.Directory.{AreSpans, NoHole}
use Rattle.b67_layout.specs.Machine.{HasHole}

pub spot_none : (n at : ℕ) (ss : List Span) → spot n at ss ≡ None → HasHole n ss → ⊥
spot_none n at [] e h = h
spot_none n at (Area a ∷ ss) e h = spot_none n (at + (a.words + 2)) ss e h
spot_none n at (Hole m ∷ ss) e h = ⊎_elim
    (λ (l : m < n). ⊎_elim (λ (g : n ≤ m). absurd (omega arith)) (λ (r : HasHole n ss). spot_none n (at + m) ss (rw (lt-leb n m l) at e) r) h)
    (λ (l : n ≤ m). none-some at (sym (rw (le-leb n m l) at e)))
    (cases_lt m n)

pub spot_room : (n at : ℕ) (ss : List Span) (z : ℕ) → spot n at ss ≡ Some z → HasHole n ss
spot_room n at [] z e = absurd (none-some z e)
spot_room n at (Area a ∷ ss) z e = spot_room n (at + (a.words + 2)) ss z e
spot_room n at (Hole m ∷ ss) z e = ⊎_elim
    (λ (l : m < n). inr (spot_room n (at + m) ss z (rw (lt-leb n m l) at e)))
    (λ (l : n ≤ m). inl l)
    (cases_lt m n)

pub no_place : (n at : ℕ) (ss : List Span) → None ≡ address (spot n at ss) → HasHole n ss → ⊥
no_place n at ss e = by (spot n at ss) refl where
  by : (o : Option ℕ) → spot n at ss ≡ o → HasHole n ss → ⊥
  by None z h = spot_none n at ss z h
  by (Some b) z h = none-some (b + 1) (e ∙ ap address z)

pub place_spot : (n at : ℕ) (ss : List Span) (x : ℕ) → Some x ≡ address (spot n at ss) → (b : ℕ) × (spot n at ss ≡ Some b) × (x ≡ b + 1)
place_spot n at ss x e = by (spot n at ss) refl where
  by : (o : Option ℕ) → spot n at ss ≡ o → (b : ℕ) × (spot n at ss ≡ Some b) × (x ≡ b + 1)
  by None z = absurd (none-some x (sym (e ∙ ap address z)))
  by (Some b) z = (b, z, same_Some x (b + 1) (e ∙ ap address z))

pub place_room : (n at : ℕ) (ss : List Span) (x : ℕ) → Some x ≡ address (spot n at ss) → HasHole n ss
place_room n at ss x e = let p = place_spot n at ss x e in spot_room n at ss p.0 p.1

spot_low : (n at : ℕ) (ss : List Span) (z : ℕ) → spot n at ss ≡ Some z → at ≤ z
spot_low n at [] z e = absurd (none-some z e)
spot_low n at (Area a ∷ ss) z e = omega (arith, spot_low n (at + (a.words + 2)) ss z e)
spot_low n at (Hole m ∷ ss) z e = ⊎_elim
    (λ (l : m < n). omega (arith, spot_low n (at + m) ss z (rw (lt-leb n m l) at e)))
    (λ (l : n ≤ m). omega (arith, same_Some at z (rw (le-leb n m l) at e)))
    (cases_lt m n)

join_alone : (n : ℕ) (ss : List Span) → NoHole ss → join n ss ≡ Hole n ∷ ss
join_alone n [] h = refl
join_alone n (Area a ∷ ss) h = refl
join_alone n (Hole m ∷ ss) h = absurd h

join_left : (n k : ℕ) (ss : List Span) → NoHole ss → join n (left k ss) ≡ Hole (n + k) ∷ ss
join_left n zero ss h = let e : n ≡ n + 0 = omega arith in join_alone n ss h ∙ ap (λ (m : ℕ). Hole m ∷ ss) e
join_left n (suc k) ss h = refl

-- an area that is placed and freed
pub without_fill : (a : Info) (at : ℕ) (ss : List Span) (z : ℕ) → spot (a.words + 2) at ss ≡ Some z → AreSpans ss → without at (z + 1) (fill a ss) ≡ ss
without_fill a at [] z e s = absurd (none-some z e)
without_fill a at (Area b ∷ ss) z e s =
    let low = spot_low (a.words + 2) (at + (b.words + 2)) ss z e in
    cond-false (at + 1 == z + 1) _ _ (ne_eqb (at + 1) (z + 1) (λ q. omega arith)) ∙ ap (λ (r : List Span). Area b ∷ r) (without_fill a (at + (b.words + 2)) ss z e s.1)
without_fill a at (Hole m ∷ ss) z e s = ⊎_elim
    (λ (l : m < a.words + 2).
    let t = lt-leb (a.words + 2) m l in
    rw t (ap (join m) (without_fill a (at + m) ss z (rw t at e) s.2) ∙ join_alone m ss s.1))
    (λ (l : a.words + 2 ≤ m).
    let t = le-leb (a.words + 2) m l in
    let is : at ≡ z = same_Some at z (rw t at e) in
    let sum : a.words + 2 + (m - (a.words + 2)) ≡ m = omega arith in
    rw t (cond-true (at + 1 == z + 1) _ _ (eq-eqb (at + 1) (z + 1) (ap (λ (k : ℕ). k + 1) is)) ∙ join_left (a.words + 2) (m - (a.words + 2)) ss s.1 ∙ ap (λ (k : ℕ). Hole k ∷ ss) sum))
    (cases_lt m (a.words + 2))
