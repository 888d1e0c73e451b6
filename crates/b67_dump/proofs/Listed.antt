-- Records and cells in lists, by their identity.
use Rattle.std.proofs.Common.{◌≡◌, ◌≢◌, ℕ, zero, suc, ◌+◌, ◌≤◌, ◌==◌, Bool, List, [], ◌∷◌, ◌++◌, map, length, Option, Some, None, refl, ◌∙◌, ap, arith, inl, inr}
use Rattle.std.specs.Prelude.{◌⊎◌, if◌then◌else◌}
use Rattle.std.proofs.lemmas.Bool.{ne_eqb}
use Rattle.std.proofs.lemmas.Bool.Decides.{eqb_tells}
use Rattle.b67_lemmas.specs.Lists.{Has, total, Falls}
use Rattle.b67_lemmas.proofs.Members.{total_has, falls_low, falls_more}
use Rattle.b67_model.specs.Common.{Frame, Task, height, array, from_frame, Known, known_of, known_numbers, identities, frames_named}
use Rattle.b67_stack.specs.Common.{StackPlace}
use Rattle.b67_layout.specs.Common.{spot_in}
use Rattle.b67_layout_shown.specs.Shown.{row_cells, segment_cells}
use Rattle.b67_dump.specs.Dump.{LiveRecord, record_by, record_among, offset_of_original}

pub is_there : (c : ℕ) (fs : List Frame) → Has (identities fs) c ⊎ ((d : ℕ) → Has (identities fs) d → d ≢ c)
is_there c [] = inr (λ d h. absurd h)
is_there c (f ∷ below) = elim (eqb_tells f.identity c) [
  | inl q ↦ inl (inl q.1)
  | inr q ↦ elim (is_there c below) [
    | inl h ↦ inl (inr h)
    | inr n ↦ inr (differ q.1 n)
  ]
] where
  differ : f.identity ≢ c → ((d : ℕ) → Has (identities below) d → d ≢ c) → (d : ℕ) → Has (identities (f ∷ below)) d → d ≢ c
  differ ne n d (inl e) = λ z. ne (e ∙ z)
  differ ne n d (inr h) = n d h

pub spot_out : (k : ℕ) (outer : ℕ → StackPlace) (fs : List Frame) (c : ℕ) → ((d : ℕ) → Has (identities fs) d → d ≢ c) → spot_in k outer fs c ≡ outer c
spot_out k outer [] c h = refl
spot_out k outer (f ∷ below) c h =
    ap (λ (b : Bool). if b then record { stack = k; disp = height below } else spot_in k outer below c) (ne_eqb f.identity c (h f.identity (inl refl))) ∙ spot_out k outer below c (λ d i. h d (inr i))

pub own_or_outer : (fs : List Frame) (outer : List Known) (k : Known) → Has (map known_of fs ++ outer) k → Has (identities fs) k.0 ⊎ Has outer k
own_or_outer [] outer k h = inr h
own_or_outer (f ∷ below) outer k (inl e) = inl (inl (ap (λ (z : Known). z.0) e))
own_or_outer (f ∷ below) outer k (inr h) = elim (own_or_outer below outer k h) [ inl i ↦ inl (inr i) | inr o ↦ inr o ]

pub from_short : (c : ℕ) (fs : List Frame) → length (from_frame c fs) ≤ length fs
from_short c [] = omega arith
from_short c (f ∷ below) = grind (arith, from_short c below)

pub from_height : (c : ℕ) (fs : List Frame) → height (from_frame c fs) ≤ height fs
from_height c [] = omega arith
from_height c (f ∷ below) = grind (arith, from_height c below)

-- from a record down, and from there from another one down
pub from_twice : (c crit bound : ℕ) (fs : List Frame) → Falls bound (identities fs) → Has (identities (from_frame crit fs)) c → (from_frame c (from_frame crit fs) ≡ from_frame c fs) × Has (identities fs) c
from_twice c crit bound [] falls h = absurd h
from_twice c crit bound (f ∷ below) falls h = grind (arith, falls_low, from_twice c crit f.identity below falls.1)

pub from_falls : (crit bound : ℕ) (fs : List Frame) → Falls bound (identities fs) → Falls bound (identities (from_frame crit fs))
from_falls crit bound [] falls = tt
from_falls crit bound (f ∷ below) falls = grind (arith, falls_more, from_falls crit f.identity below falls.1)

found_from : (number c : ℕ) (fs : List Frame) (more : Option LiveRecord) → Has (identities fs) c → record_by number (from_frame c fs) more ≡ Some (record { task = number; down = from_frame c fs })
found_from number c [] more h = absurd h
found_from number c (f ∷ below) more h = grind (arith, found_from number c below more)

none_from : (c : ℕ) (fs : List Frame) → frames_named c fs ≡ 0 → from_frame c fs ≡ []
none_from c [] h = refl
none_from c (f ∷ below) h = grind (arith, none_from c below)

some_named : (c : ℕ) (fs : List Frame) → Has (identities fs) c → 1 ≤ frames_named c fs
some_named c [] h = absurd h
some_named c (f ∷ below) h = grind (arith, some_named c below)

pub among_live : (ts : List Task) (u : Task) (c : ℕ) → Has ts u → Has (identities u.frames) c → total (λ (t : Task). frames_named c t.frames) ts ≤ 1
    → record_among ts c ≡ Some (record { task = u.number; down = from_frame c u.frames })
among_live [] u c there h once = absurd there
among_live (v ∷ ts) u c (inl e) h once = grind (arith, found_from)
among_live (v ∷ ts) u c (inr there) h once =
    let one = some_named c u.frames h in
    let all = total_has (λ (t : Task). frames_named c t.frames) ts u there in
    ap (λ fs. record_by v.number fs (record_among ts c)) (none_from c v.frames (omega (arith, one, all, once))) ∙ among_live ts u c there h (omega (arith, once))

pub among_none : (ts : List Task) (c : ℕ) → ((t : Task) → Has ts t → frames_named c t.frames ≡ 0) → record_among ts c ≡ None
among_none [] c h = refl
among_none (t ∷ ts) c h = ap (λ fs. record_by t.number fs (record_among ts c)) (none_from c t.frames (h t (inl refl))) ∙ among_none ts c (λ u i. h u (inr i))

pub falls_front : (bound : ℕ) (xs ys : List ℕ) → Falls bound (xs ++ ys) → Falls bound xs
falls_front bound [] ys f = tt
falls_front bound (x ∷ xs) ys f = (f.0, falls_front x xs ys f.1)

pub known_split : (fs : List Frame) (outer : List Known) → known_numbers (map known_of fs ++ outer) ≡ identities fs ++ known_numbers outer
known_split [] outer = refl
known_split (f ∷ below) outer = ap (λ ns. f.identity ∷ ns) (known_split below outer)

segments_long : (n : ℕ) → length (segment_cells n) ≡ n
segments_long zero = refl
segments_long (suc n) = ap suc (segments_long n)

pub words_long : (rows n : ℕ) → length (row_cells rows ++ segment_cells n) ≡ rows + n
words_long zero n = let long = segments_long n in omega (arith, long)
words_long (suc rows) n = let rest = words_long rows n in omega (arith, rest)

pub offset_rows : (rows n array : ℕ) → 1 ≤ array → array ≤ rows → offset_of_original array (row_cells rows ++ segment_cells n) ≡ 1 + n + array
offset_rows zero n array low high = absurd (omega (arith, low, high))
offset_rows (suc rows) n array low high = grind (arith, words_long, offset_rows rows n array low)
