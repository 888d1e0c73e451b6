-- What the table of records says of the marks that are seen.
use Rattle.std.proofs.Common.{◌≡◌, ℕ, ◌+◌, ◌*◌, ◌/◌, ◌<◌, ◌≤◌, Bool, true, List, [], ◌∷◌, length, refl, sym, ◌∙◌, ap, subst, arith, inl, inr, ⊎_elim}
use Rattle.std.specs.Prelude.{nat_le, if◌then◌else◌}
use Rattle.std.proofs.lemmas.Bool.{cases_lt, le-leb, lt-leb}
use Rattle.b67_lemmas.specs.Lists.{Has}
use Rattle.b67_stack.specs.Common as stack
use Rattle.b67_stack.specs.Common.{Head, Activation, StackPlace, stack_words}
use Rattle.b67_layout_shown.specs.Seen.{Seen, seen_in}
use Rattle.b67_image_shape.specs.RecordTable.{record_code, record_of_disp}
use Rattle.b67_image_shape.proofs.MarksSeen.{is_entered_head, seen_low, HasDisp}

-- ---- the record of a displacement

pub low_record : (d : ℕ) (a : Activation) (below : List Activation) → d ≤ stack_words below → record_of_disp d (a ∷ below) ≡ record_of_disp d below
low_record d a below h = ap (λ (b : Bool). if b then record_of_disp d below else (if nat_le d (stack_words (a ∷ below)) then record_code (stack_words below + 1) a.head else 0)) (le-leb d (stack_words below) h)

pub top_record : (d : ℕ) (a : Activation) (below : List Activation) → stack_words below < d → d ≤ stack_words (a ∷ below) → record_of_disp d (a ∷ below) ≡ record_code (stack_words below + 1) a.head
top_record d a below low high = grind arith

-- a record has its mark
pub mark_inside : (a : Activation) (below : List Activation) → stack_words below + 1 ≤ stack_words (a ∷ below)
mark_inside a below = grind arith

pub no_record : (d : ℕ) (acts : List Activation) → stack_words acts < d → record_of_disp d acts ≡ 0
no_record d [] h = refl
no_record d (a ∷ below) h = grind arith

-- ---- codes

pub half_code : (d : ℕ) (h : Head) → record_code d h / 2 ≡ d
half_code d h = grind arith

pub entered_code : (d : ℕ) (h : Head) → is_entered_head h ≡ true → record_code d h ≡ d * 2 + 1
entered_code d h e = grind arith

code_entered : (m d : ℕ) (h : Head) → record_code m h ≡ d * 2 + 1 → (is_entered_head h ≡ true) × (m ≡ d)
code_entered m d h e = grind arith

-- ---- marks

pub code_seen : (n : ℕ) (acts : List Activation) (x : Seen) → Has (seen_in n acts) x → (record_of_disp x.0.disp acts ≡ record_code x.0.disp x.1) × (0 < x.0.disp)
code_seen n [] x h = absurd h
code_seen n (a ∷ below) x (inl e) = grind arith
code_seen n (a ∷ below) x (inr h) = let (e, some) = code_seen n below x h in (low_record x.0.disp a below (seen_low n below x h) ∙ e, some)

-- an entered mark of a displacement
pub entered_there : (n d : ℕ) (acts : List Activation) → record_of_disp d acts ≡ d * 2 + 1 → (h : Head) × Has (seen_in n acts) (record { stack = n; disp = d }, h) × (is_entered_head h ≡ true)
entered_there n d [] e = absurd (omega (arith, e))
entered_there n d (a ∷ below) e = ⊎_elim
    (λ (low : stack_words below < d). ⊎_elim
    (λ (past : stack_words (a ∷ below) < d). absurd (let z = no_record d (a ∷ below) past in omega (arith, z, e)))
    (λ (high : d ≤ stack_words (a ∷ below)). (let (t, is) = code_entered (stack_words below + 1) d a.head (sym (top_record d a below low high) ∙ e) in (a.head, inl (ap (λ m. (record { stack = n; disp = m }, a.head)) is), t)))
    (cases_lt (stack_words (a ∷ below)) d))
    (λ (le : d ≤ stack_words below). let (h, there, t) = entered_there n d below (sym (low_record d a below le) ∙ e) in (h, inr there, t))
    (cases_lt (stack_words below) d)

-- a mark of a displacement
pub mark_there : (n d : ℕ) (acts : List Activation) → 0 < d → record_of_disp d acts / 2 ≡ d → HasDisp n acts d
mark_there n d [] some e = absurd (omega (arith, some, e))
mark_there n d (a ∷ below) some e = ⊎_elim
    (λ (low : stack_words below < d). ⊎_elim
    (λ (past : stack_words (a ∷ below) < d). absurd (let z = no_record d (a ∷ below) past in omega (arith, z, e, some)))
    (λ (high : d ≤ stack_words (a ∷ below)).
    let is : stack_words below + 1 ≡ d = sym (half_code (stack_words below + 1) a.head) ∙ ap (λ m. m / 2) (sym (top_record d a below low high)) ∙ e in
    ((record { stack = n; disp = stack_words below + 1 }, a.head), inl refl, is))
    (cases_lt (stack_words (a ∷ below)) d))
    (λ (le : d ≤ stack_words below). let (x, there, is) = mark_there n d below some (ap (λ m. m / 2) (sym (low_record d a below le)) ∙ e) in (x, inr there, is))
    (cases_lt (stack_words below) d)

pub there_mark : (n d : ℕ) (acts : List Activation) → HasDisp n acts d → (0 < d) × (record_of_disp d acts / 2 ≡ d) × (d ≤ stack_words acts)
there_mark n d acts (x, h, e) = grind (arith, code_seen, seen_low, half_code)

-- a record's mark stands no higher than what is in it
pub half_low : (d : ℕ) (acts : List Activation) → record_of_disp d acts / 2 ≤ d
half_low d [] = omega arith
half_low d (a ∷ below) = grind (arith, ⊎_elim, no_record, top_record, half_code, cases_lt, low_record, half_low d below)
