-- Switches matter only where two tasks are ready at once.
use Rattle.std.proofs.Common.{◌≡◌, ◌≤◌, ◌<◌, ◌+◌, ℕ, zero, suc, ◌&&◌, ◌||◌, ◌==◌, List, [], ◌∷◌, ◌++◌, length, refl, ap, subst, ◌∙◌, arith, ◌⊎◌, inl, inr, Option, Some, None}
use Rattle.std.specs.Prelude.{flat_map}
use Rattle.b67_model.specs.Common.{SessionJob, Who, Session, Choice, ready_of, ready, choice, RunLine, StepResult, moment_by, moment_for, next, lines_from, after, after_from}
use Rattle.b67_promises.specs.Switches.{DifferInTurns, NeverTwoReady, SwitchesNeedTwo, RunsNeedTwo}

-- ---- one ready task is chosen

-- the one that is chosen, if any, is this one
abbrev IsOnly : Option Choice → Who → Type 0
IsOnly None who = ⊥
IsOnly (Some c) who = c.who ≡ who

only_chosen : (s : Session) (who : Who) → ready s ≡ who ∷ [] → IsOnly (choice s) who
only_chosen s who e = grind arith

none_chosen : (s : Session) → ready s ≡ [] → choice s ≡ None
none_chosen s e = grind arith

-- ---- a step

-- two steps print the same, and lead to sessions that differ in turns
abbrev Alike : Option StepResult → Option StepResult → Type 0
Alike None None = Unit {0}
Alike (Some m) (Some n) = (n.lines ≡ m.lines) × DifferInTurns m.session n.session
Alike _ _ = ⊥

module _ (s t : Session) (d : DifferInTurns s t) where
  by_member : (c c' : Choice) → c'.who ≡ c.who → (o : Option SessionJob) → Alike (moment_by s c o) (moment_by t c' o)
  by_member c c' e o = grind arith

  by_choices : (o o' : Option Choice) → ((who : Who) × IsOnly o who × IsOnly o' who) ⊎ ((o ≡ None) × (o' ≡ None)) → Alike (moment_for s o) (moment_for t o')
  by_choices o o' h = grind arith

  by_ready : (whos : List Who) → ready s ≡ whos → length whos ≤ 1 → ((who : Who) × IsOnly (choice s) who × IsOnly (choice t) who) ⊎ ((choice s ≡ None) × (choice t ≡ None))
  by_ready [] e few = inr (none_chosen s e, none_chosen t (ap (flat_map ready_of) d.jobs ∙ e))
  by_ready (who ∷ []) e few = inl (who, only_chosen s who e, only_chosen t who (ap (flat_map ready_of) d.jobs ∙ e))
  by_ready (who ∷ other ∷ more) e few = absurd (omega (arith, few))

  same_step : length (ready s) ≤ 1 → Alike (next s) (next t)
  unfolding next
  same_step few = by_choices (choice s) (choice t) (by_ready (ready s) refl few)

-- ---- a run

abbrev pub RunAlike : ℕ → Session → Session → Option StepResult → Option StepResult → Type 0
RunAlike n s t o o' = (lines_from n o' ≡ lines_from n o) × DifferInTurns (after_from n s o) (after_from n t o')

after_next : (n : ℕ) (s : Session) (m : StepResult) → next s ≡ Some m → after (suc n) s ≡ after n m.session
after_next n s m e = ap (after_from (suc n) s) e

later : (n : ℕ) (s : Session) (m : StepResult) → next s ≡ Some m → NeverTwoReady (suc n) s → NeverTwoReady n m.session
later n s m e few k less = subst (λ (z : Session). length (ready z) ≤ 1) (after_next k s m e) (few (suc k) (omega (arith, less)))

by_steps : (n : ℕ) (s t : Session) → DifferInTurns s t → NeverTwoReady (suc n) s → ((u v : Session) → DifferInTurns u v → NeverTwoReady n u → RunAlike n u v (next u) (next v))
    → (o o' : Option StepResult) → next s ≡ o → Alike o o' → RunAlike (suc n) s t o o'
by_steps n s t d few rest None None e a = (refl, d)
by_steps n s t d few rest (Some m) (Some m') e a =
    let more = rest m.session m'.session a.1 (later n s m e few) in
    (ap (λ (ls : List RunLine). ls ++ lines_from n (next m'.session)) a.0 ∙ ap (λ (ls : List RunLine). m.lines ++ ls) more.0, more.1)
by_steps n s t d few rest None (Some m') e a = absurd a
by_steps n s t d few rest (Some m) None e a = absurd a

pub run_alike : (n : ℕ) (s t : Session) → DifferInTurns s t → NeverTwoReady n s → RunAlike n s t (next s) (next t)
run_alike zero s t d few = (refl, d)
run_alike (suc n) s t d few = by_steps n s t d few (λ u v. run_alike n u v) (next s) (next t) refl (same_step s t d (few 0 (omega arith)))

pub switches_need_two : SwitchesNeedTwo
switches_need_two steps s t d few = run_alike steps s t d few

-- ---- how it stops

pub runs_need_two : RunsNeedTwo
runs_need_two r q d halt few status text h = grind (arith, run_alike)
