-- What a card says is in range.
use Rattle.std.proofs.Common.{◌≡◌, ℕ, ◌≤◌, Bool, true, false, List, [], ◌∷◌, length, Option, Some, None, Ok, refl, ap, subst, arith, ⊎_elim, cond}
use Rattle.std.specs.Prelude.{nat_le, nat_lt, ◌&&◌, ◌||◌, IsTrue, ⊤}
use Rattle.std.specs.List.{list_all}
use Rattle.std.specs.Char.{is_ascii, is_ascii_uppercase, is_ascii_digit}
use Rattle.std.specs.Option.{option_map, option_and_then}
use Rattle.std.proofs.lemmas.Option.{same_Some, none-some}
use Rattle.std.proofs.lemmas.Bool.{and_parts, and_from, or_cases, leb-true, ltb-true, lt-ltb}
use Rattle.b67_model_text.specs.declared.deck.Keyword as keyword
use Rattle.b67_model_text.specs.declared.deck.Keyword.TheVariants as keywords
use Rattle.b67_model_text.specs.Answers.{or_reason}
use Rattle.b67_model_text.specs.Cards.{words_in_card, natural, is_name, name_in, is_empty}
use Rattle.b67_model_text.specs.Command.{Command, Stack, Quantum, Halt, Switch, Job, Limit, Asm, Hex, Data, End, Plain, keyword_of, number_in, one_number, parted, target, switch, says, job_named, job, alone, command_of, is_command, plain_card, said}
use Rattle.b67_model_text.proofs.Answers.{after_both, err-ok}
use Rattle.b67_image.specs.Within.{IsSwitch}
use Rattle.b67_model.specs.declared.limits.TheConstants.{LEAST_STACK, MOST_STACK, MOST_JOBS, MOST_QUANTUM, MOST_LIMIT, MOST_NUMBER, MOST_MADE}

pub record NumberWithin (low high n : ℕ) : Type 0 where
  pub from : low ≤ n
  pub upto : n ≤ high

pub record NameWithin (name : List ℕ) : Type 0 where
  pub is : is_name name ≡ true
  pub short : length name ≤ 16
  pub ascii : IsTrue (list_all is_ascii name)

abbrev pub CommandInRange : Command → Type 0
CommandInRange (Stack n) = NumberWithin LEAST_STACK MOST_STACK n
CommandInRange (Quantum n) = NumberWithin 1 MOST_QUANTUM n
CommandInRange (Switch count job task) = IsSwitch (record { count = count; job = job; task = task })
CommandInRange (Job name) = NameWithin name
CommandInRange (Limit n) = NumberWithin 1 MOST_LIMIT n
CommandInRange _ = Unit {0}

pub number_within : (low high n : ℕ) (text : List ℕ) → number_in low high text ≡ Some n → NumberWithin low high n
number_within low high n text e = by_natural (natural text) e
  where
    by_test : (m : ℕ) (b : Bool) → (nat_le low m && nat_le m high) ≡ b → cond b (Some m) None ≡ Some n → NumberWithin low high n
    by_test m true t e =
        let both = and_parts (nat_le low m) (nat_le m high) t in
        let is : m ≡ n = same_Some m n e in
        record { from = omega (arith, is, leb-true low m both.0); upto = omega (arith, is, leb-true m high both.1) }
    by_test m false t e = absurd (none-some n e)

    by_natural : (o : Option ℕ) → option_and_then (λ (m : ℕ). cond (nat_le low m && nat_le m high) (Some m) None) o ≡ Some n → NumberWithin low high n
    by_natural None e = absurd (none-some n e)
    by_natural (Some m) e = by_test m (nat_le low m && nat_le m high) refl e

one_within : (low high n : ℕ) (ps : List (List ℕ)) → one_number low high ps ≡ Some n → NumberWithin low high n
one_within low high n [] e = absurd (none-some n e)
one_within low high n (word ∷ more) e = by_test (is_empty more) e
  where
    by_test : (b : Bool) → cond b (number_in low high word) None ≡ Some n → NumberWithin low high n
    by_test true e = number_within low high n word e
    by_test false e = absurd (none-some n e)

-- letters and digits are ASCII
upper_ascii : (b : ℕ) → is_ascii_uppercase b ≡ true → is_ascii b ≡ true
upper_ascii b e = lt-ltb b 128 (omega (arith, leb-true b 90 (and_parts (nat_le 65 b) (nat_le b 90) e).1))

digit_ascii : (b : ℕ) → is_ascii_digit b ≡ true → is_ascii b ≡ true
digit_ascii b e = lt-ltb b 128 (omega (arith, leb-true b 57 (and_parts (nat_le 48 b) (nat_le b 57) e).1))

letters_ascii : (bs : List ℕ) → list_all (λ c. is_ascii_uppercase c || is_ascii_digit c) bs ≡ true → list_all is_ascii bs ≡ true
letters_ascii [] e = refl
letters_ascii (b ∷ more) e =
    let both = and_parts (is_ascii_uppercase b || is_ascii_digit b) (list_all (λ c. is_ascii_uppercase c || is_ascii_digit c) more) e in
    and_from (is_ascii b) (list_all is_ascii more)
    (⊎_elim (λ u. upper_ascii b u) (λ d. digit_ascii b d) (or_cases (is_ascii_uppercase b) (is_ascii_digit b) both.0))
    (letters_ascii more both.1)

name_within : (name word : List ℕ) → name_in word ≡ Some name → NameWithin name
name_within name word e = by_test (is_name word) refl e
  where
    of_name : (bs : List ℕ) → is_name bs ≡ true → NameWithin bs
    of_name [] t = absurd (let z : ⊥ = cc in z)
    of_name (b ∷ more) t =
        let outer = and_parts (is_ascii_uppercase b && list_all (λ c. is_ascii_uppercase c || is_ascii_digit c) more) (nat_lt (length more) 16) t in
        let inner = and_parts (is_ascii_uppercase b) (list_all (λ c. is_ascii_uppercase c || is_ascii_digit c) more) outer.0 in
        record {
          is = t;
          short = omega (arith, ltb-true (length more) 16 outer.1);
          ascii = and_from (is_ascii b) (list_all is_ascii more) (upper_ascii b inner.0) (letters_ascii more inner.1);
        }

    by_test : (t : Bool) → is_name word ≡ t → cond t (Some word) None ≡ Some name → NameWithin name
    by_test true t e = subst NameWithin (same_Some word name e) (of_name word t)
    by_test false t e = absurd (none-some name e)

-- what a keyword says
mapped : {A : Type 0} (f : A → Command) (P : A → Type 0) (o : Option A) (c : Command) → ((a : A) → o ≡ Some a → P a) → ((a : A) → P a → CommandInRange (f a)) → option_map f o ≡ Some c → CommandInRange c
mapped f P None c h k e = absurd (none-some c e)
mapped f P (Some a) c h k e = subst CommandInRange (same_Some (f a) c e) (k a (h a refl))

alone_in : (d c : Command) (ps : List (List ℕ)) → CommandInRange d → alone d ps ≡ Some c → CommandInRange c
alone_in d c ps h e = by_test (is_empty ps) e
  where
    by_test : (b : Bool) → cond b (Some d) None ≡ Some c → CommandInRange c
    by_test true e = subst CommandInRange (same_Some d c e) h
    by_test false e = absurd (none-some c e)

job_in : (ps : List (List ℕ)) (c : Command) → job ps ≡ Some c → CommandInRange c
job_in [] c e = absurd (none-some c e)
job_in (word ∷ more) c e = by_test (is_empty more) e
  where
    by_test : (b : Bool) → cond b (job_named word) None ≡ Some c → CommandInRange c
    by_test true e = mapped Job NameWithin (name_in word) c (λ name i. name_within name word i) (λ name h. h) e
    by_test false e = absurd (none-some c e)

-- whom a switch names
record TargetWithin (t : ℕ × ℕ) : Type 0 where
  pub job : NumberWithin 1 MOST_JOBS t.0
  pub task : NumberWithin 1 MOST_NUMBER t.1

abbrev target_of : ℕ → ℕ → ℕ × ℕ
target_of job = λ task. (job, task)

by_task : (job : ℕ) (t : ℕ × ℕ) → NumberWithin 1 MOST_JOBS job → (o : Option ℕ) → ((n : ℕ) → o ≡ Some n → NumberWithin 1 MOST_NUMBER n) → option_map (target_of job) o ≡ Some t → TargetWithin t
by_task job t h None k e = absurd (none-some t e)
by_task job t h (Some n) k e = subst TargetWithin (same_Some (target_of job n) t e) (record { job = h; task = k n refl })

by_job : (word : List ℕ) (t : ℕ × ℕ) (o : Option ℕ) → ((n : ℕ) → o ≡ Some n → NumberWithin 1 MOST_JOBS n) → option_and_then (λ (job : ℕ). option_map (target_of job) (number_in 1 MOST_NUMBER word)) o ≡ Some t → TargetWithin t
by_job word t None k e = absurd (none-some t e)
by_job word t (Some n) k e = by_task n t (k n refl) (number_in 1 MOST_NUMBER word) (λ m i. number_within 1 MOST_NUMBER m word i) e

by_parts : (t : ℕ × ℕ) (o : Option (List ℕ × List ℕ)) → option_and_then (λ (p : List ℕ × List ℕ). option_and_then (λ (job : ℕ). option_map (target_of job) (number_in 1 MOST_NUMBER p.1)) (number_in 1 MOST_JOBS p.0)) o ≡ Some t → TargetWithin t
by_parts t None e = absurd (none-some t e)
by_parts t (Some p) e = by_job p.1 t (number_in 1 MOST_JOBS p.0) (λ n i. number_within 1 MOST_JOBS n p.0 i) e

target_within : (word : List ℕ) (t : ℕ × ℕ) → target word ≡ Some t → TargetWithin t
target_within word t e = by_parts t (parted 46 word) e

switch_in_range : (ps : List (List ℕ)) (c : Command) → switch ps ≡ Some c → CommandInRange c
switch_in_range [] c e = absurd (none-some c e)
switch_in_range (a ∷ []) c e = absurd (none-some c e)
switch_in_range (a ∷ w ∷ []) c e = by_count (number_in 0 MOST_MADE a) (λ n i. number_within 0 MOST_MADE n a i) e
  where
    by_count : (o : Option ℕ) → ((n : ℕ) → o ≡ Some n → NumberWithin 0 MOST_MADE n) → option_and_then (λ (n : ℕ). option_map (λ (t : ℕ × ℕ). Switch n t.0 t.1) (target w)) o ≡ Some c → CommandInRange c
    by_count None k e = absurd (none-some c e)
    by_count (Some n) k e =
        mapped (λ (t : ℕ × ℕ). Switch n t.0 t.1) TargetWithin (target w) c (λ t i. target_within w t i)
        (λ t h. record { count = (k n refl).upto; job_low = h.job.from; job_high = h.job.upto; task_low = h.task.from; task_high = h.task.upto }) e
switch_in_range (a ∷ w ∷ v ∷ more) c e = absurd (none-some c e)

says_in_range : (k : keyword.Keyword) (ps : List (List ℕ)) (c : Command) → says k ps ≡ Some c → CommandInRange c
says_in_range keywords.Stack ps c e = mapped Stack (NumberWithin LEAST_STACK MOST_STACK) (one_number LEAST_STACK MOST_STACK ps) c (λ n i. one_within LEAST_STACK MOST_STACK n ps i) (λ n h. h) e
says_in_range keywords.Quantum ps c e = mapped Quantum (NumberWithin 1 MOST_QUANTUM) (one_number 1 MOST_QUANTUM ps) c (λ n i. one_within 1 MOST_QUANTUM n ps i) (λ n h. h) e
says_in_range keywords.Halt ps c e = mapped Halt (λ n. Unit {0}) (one_number 1 MOST_MADE ps) c (λ n i. tt) (λ n h. tt) e
says_in_range keywords.Switch ps c e = switch_in_range ps c e
says_in_range keywords.Job ps c e = job_in ps c e
says_in_range keywords.Limit ps c e = mapped Limit (NumberWithin 1 MOST_LIMIT) (one_number 1 MOST_LIMIT ps) c (λ n i. one_within 1 MOST_LIMIT n ps i) (λ n h. h) e
says_in_range keywords.Asm ps c e = alone_in Asm c ps tt e
says_in_range keywords.Hex ps c e = alone_in Hex c ps tt e
says_in_range keywords.Data ps c e = alone_in Data c ps tt e
says_in_range keywords.End ps c e = alone_in End c ps tt e

given : {A : Type 0} (o : Option A) (reason : ℕ) (a : A) → or_reason o reason ≡ Ok a → o ≡ Some a
given None reason a e = err-ok reason a _ e
given (Some x) reason a e = let is : x ≡ a = cc in ap (λ y. Some y) is

command_in_range : (ws : List (List ℕ)) (c : Command) → command_of ws ≡ Ok c → CommandInRange c
command_in_range [] c e = err-ok 3 c _ e
command_in_range (key ∷ ps) c e =
    let k = after_both (or_reason (keyword_of key) 3) (λ k. or_reason (says k ps) 4) c e in
    says_in_range k.0 ps c (given (says k.0 ps) 4 c k.2)

pub said_in_range : (text : List ℕ) (c : Command) → said text ≡ Ok c → CommandInRange c
said_in_range text c e = by_test (is_command text) (after_both (plain_card text) (λ (u : ⊤). cond (is_command text) (command_of (words_in_card text)) (Ok (Plain text))) c e).2
  where
    by_test : (b : Bool) → cond b (command_of (words_in_card text)) (Ok (Plain text)) ≡ Ok c → CommandInRange c
    by_test true e = command_in_range (words_in_card text) c e
    by_test false e = let is : Plain text ≡ c = cc in subst CommandInRange is tt
