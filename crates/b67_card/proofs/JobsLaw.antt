-- The jobs of an accepted deck are those that its cards tell one after the other.
use Rattle.std.proofs.Common.{◌≡◌, ℕ, Bool, true, false, ◌||◌, not, List, [], ◌∷◌, ◌++◌, map, ℤ, Ok, Err, refl, sym, ap, subst, ◌∙◌, append_assoc}
use Rattle.std.specs.Prelude.{reverse, unwrap_or, ⊤}
use Rattle.std.proofs.lemmas.List.{reverse-append, reverse-reverse, append-nil}
use Rattle.b67_model_text.specs.declared.card.Card.{Card}
use Rattle.b67_model_text.specs.declared.deck.Stand.{Stand}
use Rattle.b67_model_text.specs.declared.deck.Stand.TheVariants.{Front, Begun, Limited, InAsm, InHex, InData, Ended}
use Rattle.b67_model_text.specs.declared.deck.Job as declared
use Rattle.b67_model_text.specs.declared.deck.Body.{Body}
use Rattle.b67_model_text.specs.declared.deck.Body.TheVariants.{Cards, Bytes}
use Rattle.b67_model_text.specs.Answers.{Answer, ◌>>=◌, ◌>>◌, needs}
use Rattle.b67_model_text.specs.Command.{Command, Stack, Quantum, Halt, Switch, Job, Limit, Asm, Hex, Data, End, Plain}
use Rattle.b67_model_text.specs.Placing.{stand_after, stand, may_stand, lacks_program, is_repeated, rises, has_room, arranged, numbers}
use Rattle.b67_model_text.specs.Deck.{Said, command_in, body, bytes_in, numbers_in, program, data_numbers, limit_behind, job_of, own_cards, jobs}
use Rattle.b67_card.specs.Contents.{to_newest, new_job, with_card, with_text, with_limit, with_program, jobs_with, jobs_told}
use Rattle.b67_card.specs.Reader.{IsAccepted}

-- ---- each card may stand where it stands

abbrev Follows : Stand → List Said → Type 0
Follows s [] = Unit {0}
Follows s (t ∷ more) = (may_stand s t.command ≡ true) × Follows (stand_after s t.command) more

-- what the cards from a stand on add to these jobs
abbrev run : Stand → List declared.Job → List Said → List declared.Job
run s js [] = js
run s js (t ∷ more) = run (stand_after s t.command) (jobs_with s t.number t.command js) more

abbrev with_body : List Card → Body → Body
with_body more (Cards cards) = Cards (cards ++ more)
with_body more (Bytes bytes) = Bytes (bytes ++ bytes_in more)

-- the job once its further cards are read from a stand on
abbrev finished : Stand → List Said → declared.Job → declared.Job
finished Begun own j = record j { limit = limit_behind j.limit own; body_card = (unwrap_or (program own) (j.body_card, j.program)).0; program = (unwrap_or (program own) (j.body_card, j.program)).1; numbers = j.numbers ++ unwrap_or (data_numbers own) [] }
finished Limited own j = record j { body_card = (unwrap_or (program own) (j.body_card, j.program)).0; program = (unwrap_or (program own) (j.body_card, j.program)).1; numbers = j.numbers ++ unwrap_or (data_numbers own) [] }
finished InAsm own j = record j { program = with_body (body own) j.program; numbers = j.numbers ++ unwrap_or (data_numbers own) [] }
finished InHex own j = record j { program = with_body (body own) j.program; numbers = j.numbers ++ unwrap_or (data_numbers own) [] }
finished InData own j = record j { numbers = j.numbers ++ numbers_in (body own) }
finished Front own j = j
finished Ended own j = j

abbrev Says : Stand → List Said → Type 0
Says s more = (js : List declared.Job) → Follows s more → run s js more ≡ reverse (jobs more) ++ to_newest (finished s (own_cards more)) js

abbrev said : ℕ → Command → Said
said n c = record { number = n; command = c }

-- ---- small laws

reverse_cons : {A : Type 0} (x : A) (xs ys : List A) → reverse (x ∷ xs) ++ ys ≡ reverse xs ++ x ∷ ys
reverse_cons x xs ys = ap (λ l. l ++ ys) (reverse-append (x ∷ []) xs) ∙ append_assoc (reverse xs) (x ∷ []) ys

newest_same : (f : declared.Job → declared.Job) → ((j : declared.Job) → f j ≡ j) → (js : List declared.Job) → to_newest f js ≡ js
newest_same f same [] = refl
newest_same f same (j ∷ js) = ap (λ k. k ∷ js) (same j)

newest_both : (f g h : declared.Job → declared.Job) → ((j : declared.Job) → f (g j) ≡ h j) → (js : List declared.Job) → to_newest f (to_newest g js) ≡ to_newest h js
newest_both f g h same [] = refl
newest_both f g h same (j ∷ js) = ap (λ k. k ∷ js) (same j)

newest_one : (f h : declared.Job → declared.Job) → ((j : declared.Job) → f j ≡ h j) → (js : List declared.Job) → to_newest f js ≡ to_newest h js
newest_one f h same [] = refl
newest_one f h same (j ∷ js) = ap (λ k. k ∷ js) (same j)

body_more : (card : Card) (more : List Card) (p : Body) → with_body more (with_card card p) ≡ with_body (card ∷ more) p
body_more card more (Cards cards) = ap Cards (append_assoc cards (card ∷ []) more)
body_more card more (Bytes bytes) = ap Bytes (append_assoc bytes _ (bytes_in more))

body_none : (p : Body) → with_body [] p ≡ p
body_none (Cards cards) = ap Cards (append-nil cards)
body_none (Bytes bytes) = ap Bytes (append-nil bytes)

-- behind ?END come no cards of the job
none_own : (more : List Said) → Follows Ended more → own_cards more ≡ []
none_own [] f = refl
none_own (t ∷ more) f = only t.command f.0
  where
    only : (c : Command) → may_stand Ended c ≡ true → own_cards (said t.number c ∷ more) ≡ []
    only (Job name) ok = refl
    only (Stack n) ok = absurd cc
    only (Quantum n) ok = absurd cc
    only (Halt n) ok = absurd cc
    only (Switch count job task) ok = absurd cc
    only (Limit n) ok = absurd cc
    only Asm ok = absurd cc
    only Hex ok = absurd cc
    only Data ok = absurd cc
    only End ok = absurd cc
    only (Plain text) ok = absurd cc

-- ---- one card

job_begun : (n : ℕ) (name : List ℕ) (js : List declared.Job) (more : List Said) → Says Begun more → Follows Begun more → run Begun (new_job n name ∷ js) more ≡ reverse (jobs (said n (Job name) ∷ more)) ++ js
job_begun n name js more ih f = ih (new_job n name ∷ js) f ∙ sym (reverse_cons (job_of n name (own_cards more)) (jobs more) js)

abbrev One : Stand → Type 0
One s = (n : ℕ) (c : Command) (js : List declared.Job) (more : List Said) → ((t : Stand) → Says t more) → may_stand s c ≡ true → Follows (stand_after s c) more → run (stand_after s c) (jobs_with s n c js) more ≡ reverse (jobs (said n c ∷ more)) ++ to_newest (finished s (own_cards (said n c ∷ more))) js

same_front : (s : Stand) (own : List Said) → ((j : declared.Job) → finished s own j ≡ j) → (xs js : List declared.Job) → xs ++ js ≡ xs ++ to_newest (finished s own) js
same_front s own same xs js = ap (λ l. xs ++ l) (sym (newest_same (finished s own) same js))

at_front : One Front
at_front n (Stack k) js more ih ok f = ih Front js f
at_front n (Quantum k) js more ih ok f = ih Front js f
at_front n (Halt k) js more ih ok f = ih Front js f
at_front n (Switch count job task) js more ih ok f = ih Front js f
at_front n (Job name) js more ih ok f = job_begun n name js more (ih Begun) f ∙ same_front Front [] (λ j. refl) _ js
at_front n (Limit k) js more ih ok f = absurd cc
at_front n Asm js more ih ok f = absurd cc
at_front n Hex js more ih ok f = absurd cc
at_front n Data js more ih ok f = absurd cc
at_front n End js more ih ok f = absurd cc
at_front n (Plain text) js more ih ok f = absurd cc

at_end : One Ended
at_end n (Job name) js more ih ok f = job_begun n name js more (ih Begun) f ∙ same_front Ended [] (λ j. refl) _ js
at_end n (Stack k) js more ih ok f = absurd cc
at_end n (Quantum k) js more ih ok f = absurd cc
at_end n (Halt k) js more ih ok f = absurd cc
at_end n (Switch count job task) js more ih ok f = absurd cc
at_end n (Limit k) js more ih ok f = absurd cc
at_end n Asm js more ih ok f = absurd cc
at_end n Hex js more ih ok f = absurd cc
at_end n Data js more ih ok f = absurd cc
at_end n End js more ih ok f = absurd cc
at_end n (Plain text) js more ih ok f = absurd cc

-- a card of a job changes the newest job alone
within : (s t : Stand) (n : ℕ) (g : declared.Job → declared.Job) (js : List declared.Job) (more own : List Said) → Says t more → Follows t more → ((j : declared.Job) → finished t (own_cards more) (g j) ≡ finished s own j) → run t (to_newest g js) more ≡ reverse (jobs more) ++ to_newest (finished s own) js
within s t n g js more own ih f same = ih (to_newest g js) f ∙ ap (λ l. reverse (jobs more) ++ l) (newest_both (finished t (own_cards more)) g (finished s own) same js)

-- a card that adds nothing
kept : (s t : Stand) (js : List declared.Job) (more own : List Said) → Says t more → Follows t more → ((j : declared.Job) → finished t (own_cards more) j ≡ finished s own j) → run t js more ≡ reverse (jobs more) ++ to_newest (finished s own) js
kept s t js more own ih f same = ih js f ∙ ap (λ l. reverse (jobs more) ++ l) (newest_one (finished t (own_cards more)) (finished s own) same js)

begun : One Begun
begun n (Limit k) js more ih ok f = within Begun Limited n (with_limit k) js more (said n (Limit k) ∷ own_cards more) (ih Limited) f (λ j. refl)
begun n Asm js more ih ok f = within Begun InAsm n (with_program n (Cards [])) js more (said n Asm ∷ own_cards more) (ih InAsm) f (λ j. refl)
begun n Hex js more ih ok f = within Begun InHex n (with_program n (Bytes [])) js more (said n Hex ∷ own_cards more) (ih InHex) f (λ j. refl)
begun n (Stack k) js more ih ok f = absurd cc
begun n (Quantum k) js more ih ok f = absurd cc
begun n (Halt k) js more ih ok f = absurd cc
begun n (Switch count job task) js more ih ok f = absurd cc
begun n (Job name) js more ih ok f = absurd cc
begun n Data js more ih ok f = absurd cc
begun n End js more ih ok f = absurd cc
begun n (Plain text) js more ih ok f = absurd cc

limited : One Limited
limited n Asm js more ih ok f = within Limited InAsm n (with_program n (Cards [])) js more (said n Asm ∷ own_cards more) (ih InAsm) f (λ j. refl)
limited n Hex js more ih ok f = within Limited InHex n (with_program n (Bytes [])) js more (said n Hex ∷ own_cards more) (ih InHex) f (λ j. refl)
limited n (Stack k) js more ih ok f = absurd cc
limited n (Quantum k) js more ih ok f = absurd cc
limited n (Halt k) js more ih ok f = absurd cc
limited n (Switch count job task) js more ih ok f = absurd cc
limited n (Job name) js more ih ok f = absurd cc
limited n (Limit k) js more ih ok f = absurd cc
limited n Data js more ih ok f = absurd cc
limited n End js more ih ok f = absurd cc
limited n (Plain text) js more ih ok f = absurd cc

-- a body that its cards fill, and that ends
plain_same : (n : ℕ) (text : List ℕ) (own : List Said) (j : declared.Job) → record j { program = with_body (body own) (with_card (record { number = n; text = text }) j.program); numbers = j.numbers ++ unwrap_or (data_numbers own) [] } ≡ record j { program = with_body (body (said n (Plain text) ∷ own)) j.program; numbers = j.numbers ++ unwrap_or (data_numbers own) [] }
plain_same n text own j = ap (λ (p : Body). record j { program = p; numbers = j.numbers ++ unwrap_or (data_numbers own) [] }) (body_more (record { number = n; text = text }) (body own) j.program)

data_same : (more : List ℤ) (j : declared.Job) → record j { numbers = j.numbers ++ more } ≡ record j { program = with_body [] j.program; numbers = j.numbers ++ more }
data_same more j = ap (λ (p : Body). record j { program = p; numbers = j.numbers ++ more }) (sym (body_none j.program))

end_same : (own : List Said) (j : declared.Job) → own ≡ [] → j ≡ record j { program = with_body [] j.program; numbers = j.numbers ++ unwrap_or (data_numbers own) [] }
end_same own j e = rw e (ap (λ (ns : List ℤ). record j { numbers = ns }) (sym (append-nil j.numbers)) ∙ data_same [] j)

in_asm : One InAsm
in_asm n (Plain text) js more ih ok f = within InAsm InAsm n (with_text InAsm (record { number = n; text = text })) js more (said n (Plain text) ∷ own_cards more) (ih InAsm) f (λ j. plain_same n text (own_cards more) j)
in_asm n Data js more ih ok f = kept InAsm InData js more (said n Data ∷ own_cards more) (ih InData) f (λ j. data_same (numbers_in (body (own_cards more))) j)
in_asm n End js more ih ok f = kept InAsm Ended js more (said n End ∷ own_cards more) (ih Ended) f (λ j. end_same (own_cards more) j (none_own more f))
in_asm n (Stack k) js more ih ok f = absurd cc
in_asm n (Quantum k) js more ih ok f = absurd cc
in_asm n (Halt k) js more ih ok f = absurd cc
in_asm n (Switch count job task) js more ih ok f = absurd cc
in_asm n (Job name) js more ih ok f = absurd cc
in_asm n (Limit k) js more ih ok f = absurd cc
in_asm n Asm js more ih ok f = absurd cc
in_asm n Hex js more ih ok f = absurd cc

in_hex : One InHex
in_hex n (Plain text) js more ih ok f = within InHex InHex n (with_text InHex (record { number = n; text = text })) js more (said n (Plain text) ∷ own_cards more) (ih InHex) f (λ j. plain_same n text (own_cards more) j)
in_hex n Data js more ih ok f = kept InHex InData js more (said n Data ∷ own_cards more) (ih InData) f (λ j. data_same (numbers_in (body (own_cards more))) j)
in_hex n End js more ih ok f = kept InHex Ended js more (said n End ∷ own_cards more) (ih Ended) f (λ j. end_same (own_cards more) j (none_own more f))
in_hex n (Stack k) js more ih ok f = absurd cc
in_hex n (Quantum k) js more ih ok f = absurd cc
in_hex n (Halt k) js more ih ok f = absurd cc
in_hex n (Switch count job task) js more ih ok f = absurd cc
in_hex n (Job name) js more ih ok f = absurd cc
in_hex n (Limit k) js more ih ok f = absurd cc
in_hex n Asm js more ih ok f = absurd cc
in_hex n Hex js more ih ok f = absurd cc

in_data : One InData
in_data n (Plain text) js more ih ok f = within InData InData n (with_text InData (record { number = n; text = text })) js more (said n (Plain text) ∷ own_cards more) (ih InData) f (λ j. ap (λ (ns : List ℤ). record j { numbers = ns }) (append_assoc j.numbers (unwrap_or (numbers text) []) (numbers_in (body (own_cards more)))))
in_data n End js more ih ok f = kept InData Ended js more (said n End ∷ own_cards more) (ih Ended) f (λ j. ap (λ (ns : List ℤ). record j { numbers = ns }) (sym (append-nil j.numbers)))
in_data n (Stack k) js more ih ok f = absurd cc
in_data n (Quantum k) js more ih ok f = absurd cc
in_data n (Halt k) js more ih ok f = absurd cc
in_data n (Switch count job task) js more ih ok f = absurd cc
in_data n (Job name) js more ih ok f = absurd cc
in_data n (Limit k) js more ih ok f = absurd cc
in_data n Asm js more ih ok f = absurd cc
in_data n Hex js more ih ok f = absurd cc
in_data n Data js more ih ok f = absurd cc

one : (s : Stand) → One s
one Front = at_front
one Begun = begun
one Limited = limited
one InAsm = in_asm
one InHex = in_hex
one InData = in_data
one Ended = at_end

-- ---- all cards

none_finished : (s : Stand) (j : declared.Job) → finished s [] j ≡ j
none_finished Front j = refl
none_finished Ended j = refl
none_finished Begun j = ap (λ (ns : List ℤ). record j { numbers = ns }) (append-nil j.numbers)
none_finished Limited j = ap (λ (ns : List ℤ). record j { numbers = ns }) (append-nil j.numbers)
none_finished InAsm j = sym (end_same [] j refl)
none_finished InHex j = sym (end_same [] j refl)
none_finished InData j = ap (λ (ns : List ℤ). record j { numbers = ns }) (append-nil j.numbers)

all_say : (more : List Said) (s : Stand) → Says s more
all_say [] s js f = sym (newest_same (finished s []) (none_finished s) js)
all_say (t ∷ more) s js f = one s t.number t.command js more (all_say more) f.0 f.1

-- ---- from the first card on

may_stand_if : (m l r q : Bool) (room : Answer ⊤) → (needs (m || l) 5 >> (needs r 6 >> (needs q 7 >> (room >>= λ _. needs (not l) 10)))) ≡ Ok tt → m ≡ true
may_stand_if true l r q room e = refl
may_stand_if false false r q room e = absurd cc
may_stand_if false true false q room e = absurd cc
may_stand_if false true true false room e = absurd cc
may_stand_if false true true true (Err reason) e = absurd cc
may_stand_if false true true true (Ok done) e = absurd cc

may : (before : List Command) (c : Command) → arranged before c ≡ Ok tt → may_stand (stand before) c ≡ true
may before c e = may_stand_if (may_stand (stand before) c) (lacks_program (stand before) c) (not (is_repeated before c)) (rises before c) (has_room before c) e

follows_front : (before more : List Said) → IsAccepted (map command_in before) → Follows (stand (map command_in before)) more → Follows Front (reverse before ++ more)
follows_front [] more accepted f = f
follows_front (s ∷ before) more accepted f =
    subst (Follows Front) (sym (reverse_cons s before more)) (follows_front before (s ∷ more) accepted.1 (may (map command_in before) s.command accepted.0, f))

told_front : (before more : List Said) → run (stand (map command_in before)) (jobs_told before) more ≡ run Front [] (reverse before ++ more)
told_front [] more = refl
told_front (s ∷ before) more = told_front before (s ∷ more) ∙ ap (run Front []) (sym (reverse_cons s before more))

-- the jobs of all cards are those that the cards tell
pub jobs_are_told : (before : List Said) → IsAccepted (map command_in before) → jobs (reverse before) ≡ reverse (jobs_told before)
jobs_are_told before accepted =
    let all = reverse before in
    let f : Follows Front (all ++ []) = follows_front before [] accepted tt in
    let same : all ++ [] ≡ all = append-nil all in
    let law : run Front [] all ≡ reverse (jobs all) ++ [] = all_say all Front [] (subst (Follows Front) same f) in
    let told : jobs_told before ≡ reverse (jobs all) = told_front before [] ∙ ap (run Front []) same ∙ law ∙ append-nil (reverse (jobs all)) in
    sym (ap reverse told ∙ reverse-reverse (jobs all))

-- ---- a job is begun where cards of jobs stand

newest_nil : (f : declared.Job → declared.Job) (js : List declared.Job) → to_newest f js ≡ [] → js ≡ []
newest_nil f [] e = refl
newest_nil f (j ∷ js) e = absurd cc

front_only : (s : Stand) (c : Command) → s ≡ Front → may_stand Front c ≡ false → may_stand s c ≡ true → ⊥
front_only s c e wrong ok = let yes : may_stand Front c ≡ true = subst (λ t. may_stand t c ≡ true) e ok in cc

none_begun : (s : Stand) (n : ℕ) (c : Command) (js : List declared.Job) → (js ≡ [] → s ≡ Front) → may_stand s c ≡ true → jobs_with s n c js ≡ [] → stand_after s c ≡ Front
none_begun s n (Stack k) js ih ok e = ih e
none_begun s n (Quantum k) js ih ok e = ih e
none_begun s n (Halt k) js ih ok e = ih e
none_begun s n (Switch count job task) js ih ok e = ih e
none_begun s n (Job name) js ih ok e = absurd cc
none_begun s n (Limit k) js ih ok e = absurd (front_only s (Limit k) (ih (newest_nil (with_limit k) js e)) refl ok)
none_begun s n Asm js ih ok e = absurd (front_only s Asm (ih (newest_nil (with_program n (Cards [])) js e)) refl ok)
none_begun s n Hex js ih ok e = absurd (front_only s Hex (ih (newest_nil (with_program n (Bytes [])) js e)) refl ok)
none_begun s n Data js ih ok e = absurd (front_only s Data (ih e) refl ok)
none_begun s n End js ih ok e = absurd (front_only s End (ih e) refl ok)
none_begun s n (Plain text) js ih ok e = ih (newest_nil (with_text s (record { number = n; text = text })) js e)

pub front_of_none : (before : List Said) → IsAccepted (map command_in before) → jobs_told before ≡ [] → stand (map command_in before) ≡ Front
front_of_none [] accepted e = refl
front_of_none (s ∷ before) accepted e = none_begun (stand (map command_in before)) s.number s.command (jobs_told before) (front_of_none before accepted.1) (may (map command_in before) s.command accepted.0) e
