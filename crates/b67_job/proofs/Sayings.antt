-- The cards that are read are in range, and each stands where it may.
use Rattle.std.proofs.Common.{◌≡◌, ℕ, ◌+◌, ◌<◌, ◌≤◌, Bool, true, false, List, [], ◌∷◌, length, map, reverse, Option, Some, None, Ok, Err, Result, refl, sym, ap, subst, arith}
use Rattle.std.specs.Prelude.{nat_lt, not, ◌||◌, ⊤, slice_get}
use Rattle.std.specs.List.{AllByRecursion, filter_map, cons_option}
use mathlib.Core.List.{reverse_aux}
use Rattle.std.proofs.lemmas.Option.{same_Some, none-some}
use Rattle.std.proofs.lemmas.Bool.{ltb-true}
use Rattle.b67_model_text.specs.declared.card.Card.{Card}
use Rattle.b67_model_text.specs.declared.deck.Switch as text
use Rattle.b67_model_text.specs.Answers.{Answer, ◌>>=◌, ◌>>◌, needs}
use Rattle.b67_model_text.specs.Command.{Command, Switch, Job, said}
use Rattle.b67_model_text.specs.Placing.{stand, may_stand, lacks_program, is_repeated, rises, has_room, arranged, is_well_formed, placed_card, is_above, first_found, switch_in, name_in}
use Rattle.b67_model_text.specs.Deck.{Said, Refusal, of_card, command_in, said_after, sayings, is_between, number_of_last}
use Rattle.b67_model_text.proofs.Answers.{after_both, after_needs, err-ok}
use Rattle.b67_model.specs.InOrder.{SwitchesRise}
use Rattle.b67_task.specs.Tables.{switch_of}
use Rattle.b67_job.proofs.Commands.{CommandInRange, said_in_range}
use Rattle.b67_model.specs.declared.limits.TheConstants.{MOST_JOBS, MOST_SWITCHES}

-- a card behind those before it
pub record Stood (before : List Command) (c : Command) : Type 0 where
  pub range : CommandInRange c
  pub rises : rises before c ≡ true
  pub room : has_room before c ≡ Ok tt

-- each of them, the nearest first
abbrev pub AllStood : List Said → Type 0
AllStood [] = Unit {0}
AllStood (s ∷ before) = Stood (map command_in before) s.command × AllStood before

stood : (before : List Command) (text : List ℕ) (c : Command) → said text ≡ Ok c → (u : ⊤) → placed_card before c ≡ Ok u → Stood before c
stood before text c is u e =
    let both = after_both (arranged before c) (λ (v : ⊤). is_well_formed (stand before) c) u e in
    let a = after_needs (may_stand (stand before) c || lacks_program (stand before) c) 5 _ both.0 both.1 in
    let b = after_needs (not (is_repeated before c)) 6 _ both.0 a.1 in
    let d = after_needs (rises before c) 7 _ both.0 b.1 in
    let r = after_both (has_room before c) (λ (v : ⊤). needs (not (lacks_program (stand before) c)) 10) both.0 d.1 in
    record { range = said_in_range text c is; rises = d.0; room = r.1 }

given_card : {A : Type 0} (number : ℕ) (r : Answer A) (a : A) → of_card number r ≡ Ok a → r ≡ Ok a
given_card number (Ok x) a e = let is : x ≡ a = cc in ap (λ y. Ok y) is
given_card number (Err reason) a e = err-ok (record { card = number; reason = reason }) a _ e

stood_card : (before : List Said) (card : Card) (s : Said) → said_after before card ≡ Ok s → Stood (map command_in before) s.command
stood_card before card s e =
    let c = after_both (said card.text) (λ (c : Command). placed_card (map command_in before) c >>= λ (u : ⊤). Ok (record { number = card.number; command = c })) s e in
    let p = after_both (placed_card (map command_in before) c.0) (λ (u : ⊤). Ok (record { number = card.number; command = c.0 })) s c.2 in
    let is : c.0 ≡ s.command = by_ok c.0 p.2 in
    subst (Stood (map command_in before)) is (stood (map command_in before) card.text c.0 c.1 p.0 p.1)
  where
    by_ok : (c : Command) → ◌≡◌ {A = Answer Said} (Ok (record { number = card.number; command = c })) (Ok s) → c ≡ s.command
    by_ok c e = let z : ◌≡◌ {A = Said} (record { number = card.number; command = c }) s = cc in ap (λ (x : Said). x.command) z

-- all cards of a deck
pub record Read (said : List Said) : Type 0 where
  pub all : List Said
  pub stood : AllStood all
  pub is : said ≡ reverse all

pub read : (before : List Said) (cards : List Card) (said : List Said) → AllStood before → sayings before cards ≡ Ok said → Read said
read before [] said h e = by_end (of_card (number_of_last before) (needs (is_between (stand (map command_in before))) 13)) e
  where
    by_end : (r : Result ⊤ Refusal) → (r >> Ok (reverse before)) ≡ Ok said → Read said
    by_end (Ok u) e = let is : reverse before ≡ said = cc in record { all = before; stood = h; is = sym is }
    by_end (Err r) e = err-ok r said _ e
read before (card ∷ more) said h e =
    let s = after_both (of_card card.number (said_after before card)) (λ (s : Said). sayings (s ∷ before) more) said e in
    read (s.0 ∷ before) more said (stood_card before card s.0 (given_card card.number (said_after before card) s.0 s.1), h) s.2

-- what holds of each of them in either order
pub in_range_onto : (before acc : List Said) → AllStood before → AllByRecursion (λ (s : Said). CommandInRange s.command) acc → AllByRecursion (λ (s : Said). CommandInRange s.command) (reverse_aux before acc)
in_range_onto [] acc h k = k
in_range_onto (s ∷ before) acc h k = in_range_onto before (s ∷ acc) h.1 (h.0.range, k)

-- switches rise
abbrev pub switches_of : List Said → List text.Switch
switches_of said = filter_map (λ (s : Said). switch_in s.command) said

abbrev pub Follows : Option text.Switch → List text.Switch → Type 0
Follows None ws = Unit {0}
Follows (Some w) [] = Unit {0}
Follows (Some w) (v ∷ vs) = w.count < v.count

rise_more : (w : text.Switch) (vs : List text.Switch) → Follows (Some w) vs → SwitchesRise (map switch_of vs) → SwitchesRise (map switch_of (w ∷ vs))
rise_more w [] f h = tt
rise_more w (v ∷ vs) f h = (f, h)

above : (before : List Command) (c : Command) (w : text.Switch) → rises before c ≡ true → switch_in c ≡ Some w → is_above (first_found switch_in before) w.count ≡ true
above before (Switch count job task) w h e = subst (λ (v : text.Switch). is_above (first_found switch_in before) v.count ≡ true) (same_Some (record { count = count; job = job; task = task }) w e) h
above before _ w h e = absurd (none-some w e)

follows : (o : Option text.Switch) (w : text.Switch) (vs : List text.Switch) → is_above o w.count ≡ true → Follows o (w ∷ vs)
follows None w vs h = tt
follows (Some v) w vs h = ltb-true v.count w.count h

-- before no switch
pub follows_none : (o : Option text.Switch) → Follows o []
follows_none None = tt
follows_none (Some w) = tt

pub rise_onto : (before acc : List Said) → AllStood before → SwitchesRise (map switch_of (switches_of acc)) → Follows (first_found switch_in (map command_in before)) (switches_of acc)
    → SwitchesRise (map switch_of (switches_of (reverse_aux before acc)))
rise_onto [] acc h k f = k
rise_onto (s ∷ before) acc h k f = by_switch (λ k f. rise_onto before (s ∷ acc) h.1 k f) (switch_in s.command) refl
  where
    by_switch : (SwitchesRise (map switch_of (switches_of (s ∷ acc))) → Follows (first_found switch_in (map command_in before)) (switches_of (s ∷ acc)) → SwitchesRise (map switch_of (switches_of (reverse_aux before (s ∷ acc)))))
        → (o : Option text.Switch) → switch_in s.command ≡ o → SwitchesRise (map switch_of (switches_of (reverse_aux before (s ∷ acc))))
    by_switch next None e =
        next
        (subst (λ (o : Option text.Switch). SwitchesRise (map switch_of (cons_option o (switches_of acc)))) (sym e) k)
        (subst (λ (o : Option text.Switch). Follows (first_found switch_in (map command_in before)) (cons_option o (switches_of acc))) (sym e)
        (subst (λ (o : Option text.Switch). Follows (slice_get (cons_option o (filter_map switch_in (map command_in before))) 0) (switches_of acc)) e f))
    by_switch next (Some w) e =
        next
        (subst (λ (o : Option text.Switch). SwitchesRise (map switch_of (cons_option o (switches_of acc)))) (sym e)
        (rise_more w (switches_of acc) (subst (λ (o : Option text.Switch). Follows (slice_get (cons_option o (filter_map switch_in (map command_in before))) 0) (switches_of acc)) e f) k))
        (subst (λ (o : Option text.Switch). Follows (first_found switch_in (map command_in before)) (cons_option o (switches_of acc))) (sym e)
        (follows (first_found switch_in (map command_in before)) w (switches_of acc) (above (map command_in before) s.command w h.0.rises e)))

-- at most 100,000 of them
switch_room : (before : List Command) (c : Command) (w : text.Switch) → has_room before c ≡ Ok tt → switch_in c ≡ Some w → length (filter_map switch_in before) < MOST_SWITCHES
switch_room before (Switch count job task) w h e = by_test (nat_lt (length (filter_map switch_in before)) MOST_SWITCHES) refl h
  where
    by_test : (b : Bool) → nat_lt (length (filter_map switch_in before)) MOST_SWITCHES ≡ b → needs b 8 ≡ Ok tt → length (filter_map switch_in before) < MOST_SWITCHES
    by_test true t e = ltb-true (length (filter_map switch_in before)) MOST_SWITCHES t
    by_test false t e = err-ok 8 tt _ e
switch_room before _ w h e = absurd (none-some w e)

same_switches : (before : List Said) → filter_map switch_in (map command_in before) ≡ switches_of before
same_switches [] = refl
same_switches (s ∷ before) = ap (λ ws. cons_option (switch_in s.command) ws) (same_switches before)

pub few_switches : (before : List Said) → AllStood before → length (switches_of before) ≤ MOST_SWITCHES
few_switches [] h = omega arith
few_switches (s ∷ before) h = by_switch (few_switches before h.1) (switch_in s.command) refl
  where
    by_switch : length (switches_of before) ≤ MOST_SWITCHES → (o : Option text.Switch) → switch_in s.command ≡ o → length (switches_of (s ∷ before)) ≤ MOST_SWITCHES
    by_switch few None e = subst (λ (o : Option text.Switch). length (cons_option o (switches_of before)) ≤ MOST_SWITCHES) (sym e) few
    by_switch few (Some w) e =
        subst (λ (o : Option text.Switch). length (cons_option o (switches_of before)) ≤ MOST_SWITCHES) (sym e)
        (omega (arith, switch_room (map command_in before) s.command w h.0.room e, ap length (same_switches before)))

-- at most eight jobs
abbrev pub jobs_in : List Said → ℕ
jobs_in said = length (filter_map (λ (s : Said). name_in s.command) said)

room_for : (before : List Command) (c : Command) (name : List ℕ) → has_room before c ≡ Ok tt → name_in c ≡ Some name → length (filter_map name_in before) < 8
room_for before (Job n) name h e = by_test (nat_lt (length (filter_map name_in before)) MOST_JOBS) refl h
  where
    by_test : (b : Bool) → nat_lt (length (filter_map name_in before)) MOST_JOBS ≡ b → needs b 9 ≡ Ok tt → length (filter_map name_in before) < MOST_JOBS
    by_test true t e = ltb-true (length (filter_map name_in before)) MOST_JOBS t
    by_test false t e = err-ok 9 tt _ e
room_for before _ name h e = absurd (none-some name e)

same_names : (before : List Said) → filter_map name_in (map command_in before) ≡ filter_map (λ (s : Said). name_in s.command) before
same_names [] = refl
same_names (s ∷ before) = ap (λ ns. cons_option (name_in s.command) ns) (same_names before)

pub few_jobs : (before : List Said) → AllStood before → jobs_in before ≤ MOST_JOBS
few_jobs [] h = omega arith
few_jobs (s ∷ before) h = by_name (few_jobs before h.1) (name_in s.command) refl
  where
    by_name : jobs_in before ≤ 8 → (o : Option (List ℕ)) → name_in s.command ≡ o → jobs_in (s ∷ before) ≤ 8
    by_name few None e = subst (λ (o : Option (List ℕ)). length (cons_option o (filter_map (λ (s : Said). name_in s.command) before)) ≤ 8) (sym e) few
    by_name few (Some name) e =
        subst (λ (o : Option (List ℕ)). length (cons_option o (filter_map (λ (s : Said). name_in s.command) before)) ≤ 8) (sym e)
        (omega (arith, room_for (map command_in before) s.command name h.0.room e, ap length (same_names before)))

one_longer : {A : Type 0} (o : Option A) (xs ys : List A) → length (cons_option o xs) + length ys ≡ length xs + length (cons_option o ys)
one_longer None xs ys = refl
one_longer (Some n) xs ys = omega arith

pub jobs_onto : (before acc : List Said) → jobs_in (reverse_aux before acc) ≡ jobs_in before + jobs_in acc
jobs_onto [] acc = omega arith
jobs_onto (s ∷ before) acc = omega (
  arith,
  jobs_onto before (s ∷ acc),
  one_longer (name_in s.command) (filter_map (λ (s : Said). name_in s.command) before) (filter_map (λ (s : Said). name_in s.command) acc),
)

pub switches_onto : (before acc : List Said) → length (switches_of (reverse_aux before acc)) ≡ length (switches_of before) + length (switches_of acc)
switches_onto [] acc = omega arith
switches_onto (s ∷ before) acc = omega (arith, switches_onto before (s ∷ acc), one_longer (switch_in s.command) (switches_of before) (switches_of acc))
