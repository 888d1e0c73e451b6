-- Decks whose cards say the same, but for the program of one job.
use Rattle.std.proofs.Common.{◌≡◌, ℕ, Bool, true, false, not, cond, List, [], ◌∷◌, ◌++◌, map, refl, sym, ap, subst, ◌∙◌, ◌⊎◌, inl, inr, Option, Some, None, unwrap_or, arith}
use Rattle.std.specs.Prelude.{ℤ, is_some}
use Rattle.std.specs.List.{AllByRecursion, AllZip, filter_map, cons_option, flat_map}
use Rattle.std.specs.Option.{option_map, option_or, option_to_list}
use Rattle.std.proofs.lemmas.List.Elements.{filter_map-append}
use Rattle.std.proofs.lemmas.List.Folds.{flat_map-map}
use Rattle.b67_model_text.specs.declared.card.Card.{Card}
use Rattle.b67_model_text.specs.declared.deck.Deck.{Deck}
use Rattle.b67_model_text.specs.declared.deck.Body.{Body}
use Rattle.b67_model_text.specs.declared.deck.Body.TheVariants.{Cards, Bytes}
use Rattle.b67_model_text.specs.declared.deck.Job as declared
use Rattle.b67_model_text.specs.Cards.{leading}
use Rattle.b67_model_text.specs.Hex.{digit_bytes}
use Rattle.b67_model_text.specs.Command.{Command, Asm, Hex, Plain}
use Rattle.b67_model_text.specs.Placing.{stack_in, quantum_in, halt_in, switch_in, name_in, numbers}
use Rattle.b67_model_text.specs.Deck.{Said, command_in, limit_in, is_plain, body, bytes_in, numbers_in, program_at, program, numbers_at, data_numbers, limit_behind, job_of, is_job, own_cards, jobs, deck}
use Rattle.b67_promises.proofs.Renumbered.{texts_of}

-- ---- cards that say the same, whatever their numbers

abbrev pub SaySame : List Said → List Said → Type 0
SaySame xs ys = map command_in xs ≡ map command_in ys

abbrev plain_texts : List Command → List (List ℕ)
plain_texts [] = []
plain_texts (Plain text ∷ more) = text ∷ plain_texts more
plain_texts (_ ∷ more) = []

one_text : (n : ℕ) (c : Command) (xs : List Said) → texts_of (body xs) ≡ plain_texts (map command_in xs) → texts_of (body (record { number = n; command = c } ∷ xs)) ≡ plain_texts (c ∷ map command_in xs)
one_text n c xs e = grind arith

body_texts : (xs : List Said) → texts_of (body xs) ≡ plain_texts (map command_in xs)
body_texts [] = refl
body_texts (x ∷ xs) = one_text x.number x.command xs (body_texts xs)

body_same : (xs ys : List Said) → SaySame xs ys → texts_of (body xs) ≡ texts_of (body ys)
body_same xs ys e = body_texts xs ∙ ap plain_texts e ∙ sym (body_texts ys)

pub numbers_by_text : (cs ds : List Card) → texts_of cs ≡ texts_of ds → numbers_in cs ≡ numbers_in ds
numbers_by_text cs ds e =
    let of_text : List ℕ → List ℤ = λ t. unwrap_or (numbers t) [] in
    sym (flat_map-map of_text (λ (c : Card). c.text) cs) ∙ ap (flat_map of_text) e ∙ flat_map-map of_text (λ (c : Card). c.text) ds

pub bytes_by_text : (cs : List Card) → bytes_in cs ≡ flat_map digit_bytes (texts_of cs)
bytes_by_text cs = sym (flat_map-map digit_bytes (λ (c : Card). c.text) cs)

-- ---- programs that are alike

-- of two bodies
pub record Relation : Type 1 where
  pub alike : Body → Body → Type 0
  pub cards : (cs ds : List Card) → texts_of cs ≡ texts_of ds → alike (Cards cs) (Cards ds)
  pub bytes : (bs : List ℕ) → alike (Bytes bs) (Bytes bs)

-- ---- a body in place of another

abbrev pub IsBegin : Command → Type 0
IsBegin Asm = Unit {0}
IsBegin Hex = Unit {0}
IsBegin _ = ⊥

abbrev pub IsPlain : Command → Type 0
IsPlain (Plain text) = Unit {0}
IsPlain _ = ⊥

abbrev pub ArePlain : List Said → Type 0
ArePlain ss = AllByRecursion (λ (s : Said). IsPlain s.command) ss

-- the cards of a body behind the card that begins it, and those behind
pub record Placed (start : Said) (own rest : List Said) : Type 0 where
  pub begins : IsBegin start.command
  pub plain : ArePlain own
  pub stop : leading is_plain rest ≡ []

module _ (R : Relation) where
  abbrev pub BodiesAlike : Option Body → Option Body → Type 0
  BodiesAlike None None = Unit {0}
  BodiesAlike (Some a) (Some b) = R.alike a b
  BodiesAlike _ _ = ⊥

  abbrev pub ProgramsAlike : Option (ℕ × Body) → Option (ℕ × Body) → Type 0
  ProgramsAlike None None = Unit {0}
  ProgramsAlike (Some a) (Some b) = R.alike a.1 b.1
  ProgramsAlike _ _ = ⊥

  pub record JobsAlike (j k : declared.Job) : Type 0 where
    pub name : k.name ≡ j.name
    pub limit : k.limit ≡ j.limit
    pub numbers : k.numbers ≡ j.numbers
    pub program : R.alike j.program k.program

  -- the cards of a job
  pub record OwnAlike (xs ys : List Said) : Type 0 where
    pub limit : (default : ℕ) → limit_behind default ys ≡ limit_behind default xs
    pub numbers : data_numbers ys ≡ data_numbers xs
    pub program : ProgramsAlike (program xs) (program ys)

  -- ---- the same cards

  data_at : (c : Command) (xs ys : List Said) → texts_of (body xs) ≡ texts_of (body ys) → numbers_at c ys ≡ numbers_at c xs
  data_at c xs ys e = grind (arith, numbers_by_text)

  bodies_at : (c : Command) (xs ys : List Said) → texts_of (body xs) ≡ texts_of (body ys) → BodiesAlike (program_at c xs) (program_at c ys)
  bodies_at c xs ys e = grind (arith, bytes_by_text)

  first_program : (n m : ℕ) (a b : Option Body) (p q : Option (ℕ × Body)) → BodiesAlike a b → ProgramsAlike p q → ProgramsAlike (option_or (option_map (λ x. (n, x)) a) p) (option_or (option_map (λ x. (m, x)) b) q)
  first_program n m a b p q h k = grind arith

  -- a card before alike ones
  one_before : (x y : Said) (xs ys : List Said) → y.command ≡ x.command → texts_of (body xs) ≡ texts_of (body ys) → OwnAlike xs ys → OwnAlike (x ∷ xs) (y ∷ ys)
  one_before x y xs ys c e h = record {
    limit = λ default. ap (λ (d : Command). unwrap_or (limit_in d) default) c;
    numbers = ap (λ (d : Command). option_or (numbers_at d ys) (data_numbers ys)) c ∙ ap (λ (o : Option (List ℤ)). option_or o (data_numbers ys)) (data_at x.command xs ys e)
        ∙ ap (λ (o : Option (List ℤ)). option_or (numbers_at x.command xs) o) h.numbers;
    program = first_program x.number y.number (program_at x.command xs) (program_at y.command ys) (program xs) (program ys)
        (subst (λ (d : Command). BodiesAlike (program_at x.command xs) (program_at d ys)) (sym c) (bodies_at x.command xs ys e)) h.program;
  }

  abbrev first_command : List Command → Command → Command
  first_command [] c = c
  first_command (d ∷ more) c = d

  abbrev rest_commands : List Command → List Command
  rest_commands [] = []
  rest_commands (d ∷ more) = more

  pub own_same : (xs ys : List Said) → SaySame xs ys → OwnAlike xs ys
  own_same [] [] e = record { limit = λ default. refl; numbers = refl; program = tt }
  own_same [] (y ∷ ys) e = absurd (let z : ⊥ = cc in z)
  own_same (x ∷ xs) [] e = absurd (let z : ⊥ = cc in z)
  own_same (x ∷ xs) (y ∷ ys) e =
      let c : y.command ≡ x.command = ap (λ (cs : List Command). first_command cs Asm) (sym e) in
      let rest : SaySame xs ys = ap rest_commands e in
      one_before x y xs ys c (body_same xs ys rest) (own_same xs ys rest)

  same_own_cards : (xs ys : List Said) → SaySame xs ys → SaySame (own_cards xs) (own_cards ys)
  same_own_cards [] [] e = refl
  same_own_cards [] (y ∷ ys) e = absurd (let z : ⊥ = cc in z)
  same_own_cards (x ∷ xs) [] e = absurd (let z : ⊥ = cc in z)
  same_own_cards (x ∷ xs) (y ∷ ys) e = grind (arith, same_own_cards xs ys (ap rest_commands e))

  one_job : (n m : ℕ) (o : Option (List ℕ)) (xs ys : List Said) (js ks : List declared.Job) → OwnAlike xs ys → AllZip JobsAlike js ks
      → AllZip JobsAlike (option_to_list (option_map (λ name. job_of n name xs) o) ++ js) (option_to_list (option_map (λ name. job_of m name ys) o) ++ ks)
  one_job n m o xs ys js ks h k = grind arith

  pub jobs_same : (xs ys : List Said) → SaySame xs ys → AllZip JobsAlike (jobs xs) (jobs ys)
  jobs_same [] [] e = tt
  jobs_same [] (y ∷ ys) e = absurd (let z : ⊥ = cc in z)
  jobs_same (x ∷ xs) [] e = absurd (let z : ⊥ = cc in z)
  jobs_same (x ∷ xs) (y ∷ ys) e =
      let c : x.command ≡ y.command = ap (λ (cs : List Command). first_command cs Asm) e in
      let rest : SaySame xs ys = ap rest_commands e in
      subst (λ (d : Command). AllZip JobsAlike (jobs (x ∷ xs)) (option_to_list (option_map (λ name. job_of y.number name (own_cards ys)) (name_in d)) ++ jobs ys)) c
      (one_job x.number y.number (name_in x.command) (own_cards xs) (own_cards ys) (jobs xs) (jobs ys) (own_same (own_cards xs) (own_cards ys) (same_own_cards xs ys rest)) (jobs_same xs ys rest))

  -- ---- cards before others that are alike

  stopped : (front x : List Said) → leading is_plain x ≡ [] → leading is_plain (front ++ x) ≡ leading is_plain front
  stopped [] x e = e
  stopped (s ∷ front) x e = grind (arith, stopped front x e)

  pub own_before : (front xs ys : List Said) → leading is_plain xs ≡ [] → leading is_plain ys ≡ [] → OwnAlike xs ys → OwnAlike (front ++ xs) (front ++ ys)
  own_before [] xs ys e f h = h
  own_before (s ∷ front) xs ys e f h = grind (arith, stopped, own_before front xs ys e f h)

  -- the cards of the last job in front end there, or go on
  own_cases : (front : List Said) → ((z : List Said) → own_cards (front ++ z) ≡ own_cards front) ⊎ ((z : List Said) → own_cards (front ++ z) ≡ front ++ own_cards z)
  own_cases [] = inr (λ z. refl)
  own_cases (s ∷ front) = by_test (not (is_job s)) (own_cases front)
    where
      by_test : (b : Bool) → ((z : List Said) → own_cards (front ++ z) ≡ own_cards front) ⊎ ((z : List Said) → own_cards (front ++ z) ≡ front ++ own_cards z)
          → ((z : List Said) → cond b (s ∷ own_cards (front ++ z)) [] ≡ cond b (s ∷ own_cards front) []) ⊎ ((z : List Said) → cond b (s ∷ own_cards (front ++ z)) [] ≡ s ∷ (front ++ own_cards z))
      by_test true (inl e) = inl (λ z. ap (λ (xs : List Said). s ∷ xs) (e z))
      by_test true (inr e) = inr (λ z. ap (λ (xs : List Said). s ∷ xs) (e z))
      by_test false e = inl (λ z. refl)

  -- what is alike of all cards behind a front
  pub record TailsAlike (xs ys : List Said) : Type 0 where
    pub stop : leading is_plain (own_cards xs) ≡ []
    pub other_stop : leading is_plain (own_cards ys) ≡ []
    pub own : OwnAlike (own_cards xs) (own_cards ys)
    pub jobs_alike : AllZip JobsAlike (jobs xs) (jobs ys)

  own_behind : (front xs ys : List Said) → TailsAlike xs ys → OwnAlike (own_cards (front ++ xs)) (own_cards (front ++ ys))
  own_behind front xs ys h = by_case (own_cases front)
    where
      by_case : ((z : List Said) → own_cards (front ++ z) ≡ own_cards front) ⊎ ((z : List Said) → own_cards (front ++ z) ≡ front ++ own_cards z) → OwnAlike (own_cards (front ++ xs)) (own_cards (front ++ ys))
      by_case (inl e) = own_same (own_cards (front ++ xs)) (own_cards (front ++ ys)) (ap (map command_in) (e xs ∙ sym (e ys)))
      by_case (inr e) =
          subst (λ (l : List Said). OwnAlike l (own_cards (front ++ ys))) (sym (e xs))
          (subst (λ (l : List Said). OwnAlike (front ++ own_cards xs) l) (sym (e ys)) (own_before front (own_cards xs) (own_cards ys) h.stop h.other_stop h.own))

  pub jobs_behind : (front xs ys : List Said) → TailsAlike xs ys → AllZip JobsAlike (jobs (front ++ xs)) (jobs (front ++ ys))
  jobs_behind [] xs ys h = h.jobs_alike
  jobs_behind (s ∷ front) xs ys h =
      one_job s.number s.number (name_in s.command) (own_cards (front ++ xs)) (own_cards (front ++ ys)) (jobs (front ++ xs)) (jobs (front ++ ys)) (own_behind front xs ys h) (jobs_behind front xs ys h)

  -- ---- decks

  pub record DecksAlike (d e : Deck) : Type 0 where
    pub stack : e.stack ≡ d.stack
    pub quantum : e.quantum ≡ d.quantum
    pub halt : e.halt ≡ d.halt
    pub switches : e.switches ≡ d.switches
    pub jobs_alike : AllZip JobsAlike d.jobs e.jobs

  -- run cards stand neither in a body nor at its beginning
  pub record RunCardsAlike (xs ys : List Said) : Type 0 where
    pub stacks : filter_map (λ (s : Said). stack_in s.command) ys ≡ filter_map (λ (s : Said). stack_in s.command) xs
    pub quanta : filter_map (λ (s : Said). quantum_in s.command) ys ≡ filter_map (λ (s : Said). quantum_in s.command) xs
    pub halts : filter_map (λ (s : Said). halt_in s.command) ys ≡ filter_map (λ (s : Said). halt_in s.command) xs
    pub switches : filter_map (λ (s : Said). switch_in s.command) ys ≡ filter_map (λ (s : Said). switch_in s.command) xs

  behind : {B : Type 0} (f : Said → Option B) (front xs ys : List Said) → filter_map f ys ≡ filter_map f xs → filter_map f (front ++ ys) ≡ filter_map f (front ++ xs)
  behind f front xs ys e = filter_map-append f front ys ∙ ap (λ l. filter_map f front ++ l) e ∙ sym (filter_map-append f front xs)

  pub decks_alike : (front xs ys : List Said) → RunCardsAlike xs ys → TailsAlike xs ys → DecksAlike (deck (front ++ xs)) (deck (front ++ ys))
  decks_alike front xs ys r h = grind (arith, behind, jobs_behind)

  -- ---- a body in place of another

  abbrev Passes : {B : Type 0} → (Command → Option B) → Type 0
  Passes f = ((c : Command) → IsBegin c → f c ≡ None) × ((c : Command) → IsPlain c → f c ≡ None)

  passed : {B : Type 0} (f : Command → Option B) → Passes f → (start : Said) (own rest : List Said) → Placed start own rest → filter_map (λ (s : Said). f s.command) (start ∷ (own ++ rest)) ≡ filter_map (λ (s : Said). f s.command) rest
  passed f none start own rest p = ap (λ o. cons_option o (filter_map (λ (s : Said). f s.command) (own ++ rest))) (none.0 start.command p.begins) ∙ over own p.plain
    where
      over : (own : List Said) → ArePlain own → filter_map (λ (s : Said). f s.command) (own ++ rest) ≡ filter_map (λ (s : Said). f s.command) rest
      over [] all = refl
      over (s ∷ own) all = ap (λ o. cons_option o (filter_map (λ (x : Said). f x.command) (own ++ rest))) (none.1 s.command all.0) ∙ over own all.1

  stack_passes : Passes stack_in
  stack_passes = grind arith

  quantum_passes : Passes quantum_in
  quantum_passes = grind arith

  halt_passes : Passes halt_in
  halt_passes = grind arith

  switch_passes : Passes switch_in
  switch_passes = grind arith

  name_passes : Passes name_in
  name_passes = grind arith

  by_command : {B : Type 0} (f : Command → Option B) (xs : List Said) → filter_map (λ (s : Said). f s.command) xs ≡ filter_map f (map command_in xs)
  by_command f [] = refl
  by_command f (s ∷ xs) = ap (cons_option (f s.command)) (by_command f xs)

  run_cards : {B : Type 0} (f : Command → Option B) → Passes f → (start start' : Said) (own own' rest rest' : List Said) → Placed start own rest → Placed start' own' rest' → SaySame rest rest'
      → filter_map (λ (s : Said). f s.command) (start' ∷ (own' ++ rest')) ≡ filter_map (λ (s : Said). f s.command) (start ∷ (own ++ rest))
  run_cards f none start start' own own' rest rest' p p' e = grind (arith, passed, by_command)

  run_cards_alike : (start start' : Said) (own own' rest rest' : List Said) → Placed start own rest → Placed start' own' rest' → SaySame rest rest' → RunCardsAlike (start ∷ (own ++ rest)) (start' ∷ (own' ++ rest'))
  run_cards_alike start start' own own' rest rest' p p' e = record {
    stacks = run_cards stack_in stack_passes start start' own own' rest rest' p p' e;
    quanta = run_cards quantum_in quantum_passes start start' own own' rest rest' p p' e;
    halts = run_cards halt_in halt_passes start start' own own' rest rest' p p' e;
    switches = run_cards switch_in switch_passes start start' own own' rest rest' p p' e;
  }

  -- ---- the job of such a body

  no_job : (s : Said) → name_in s.command ≡ None → (xs : List Said) → own_cards (s ∷ xs) ≡ s ∷ own_cards xs
  no_job s e xs = ap (λ (o : Option (List ℕ)). cond (not (is_some o)) (s ∷ own_cards xs) []) e

  own_over : (own rest : List Said) → ArePlain own → own_cards (own ++ rest) ≡ own ++ own_cards rest
  own_over [] rest all = refl
  own_over (s ∷ own) rest all = no_job s (name_passes.1 s.command all.0) (own ++ rest) ∙ ap (λ (xs : List Said). s ∷ xs) (own_over own rest all.1)

  own_placed : (start : Said) (own rest : List Said) → Placed start own rest → own_cards (start ∷ (own ++ rest)) ≡ start ∷ (own ++ own_cards rest)
  own_placed start own rest p = no_job start (name_passes.0 start.command p.begins) (own ++ rest) ∙ ap (λ (xs : List Said). start ∷ xs) (own_over own rest p.plain)

  pub own_stop : (rest : List Said) → leading is_plain rest ≡ [] → leading is_plain (own_cards rest) ≡ []
  own_stop [] e = refl
  own_stop (s ∷ rest) e = grind arith

  jobs_over : (start : Said) (own rest : List Said) → Placed start own rest → jobs (start ∷ (own ++ rest)) ≡ jobs rest
  jobs_over start own rest p = one start (own ++ rest) (name_passes.0 start.command p.begins) ∙ over own p.plain
    where
      one : (s : Said) (xs : List Said) → name_in s.command ≡ None → jobs (s ∷ xs) ≡ jobs xs
      one s xs e = ap (λ (o : Option (List ℕ)). option_to_list (option_map (λ name. job_of s.number name (own_cards xs)) o) ++ jobs xs) e

      over : (own : List Said) → ArePlain own → jobs (own ++ rest) ≡ jobs rest
      over [] all = refl
      over (s ∷ own) all = one s (own ++ rest) (name_passes.1 s.command all.0) ∙ over own all.1

  -- what stands behind plain cards
  numbers_over : (own rest : List Said) → ArePlain own → data_numbers (own ++ rest) ≡ data_numbers rest
  numbers_over [] rest all = refl
  numbers_over (s ∷ own) rest all = grind (arith, numbers_over own rest all.1)

  begin_numbers : (c : Command) (xs : List Said) → IsBegin c → numbers_at c xs ≡ None
  begin_numbers c xs t = grind arith

  begin_limit : (c : Command) → IsBegin c → limit_in c ≡ None
  begin_limit c t = grind arith

  begin_body : (c : Command) (xs : List Said) → IsBegin c → (b : Body) × (program_at c xs ≡ Some b)
  begin_body Asm xs t = (Cards (body xs), refl)
  begin_body Hex xs t = (Bytes (bytes_in (body xs)), refl)
  begin_body _ xs t = absurd t

  -- two bodies behind the cards that begin them, before cards that say the same
  pub record Replaced (start start' : Said) (own own' rest rest' : List Said) : Type 0 where
    pub one : Placed start own rest
    pub other : Placed start' own' rest'
    pub same : SaySame rest rest'
    pub alike : BodiesAlike (program_at start.command (own ++ own_cards rest)) (program_at start'.command (own' ++ own_cards rest'))

  module _ (start start' : Said) (own own' rest rest' : List Said) (h : Replaced start start' own own' rest rest') where
    behind_alike : OwnAlike (own_cards rest) (own_cards rest')
    behind_alike = own_same (own_cards rest) (own_cards rest') (same_own_cards rest rest' h.same)

    no_numbers : (s : Said) (ss zs : List Said) → IsBegin s.command → ArePlain ss → data_numbers (s ∷ (ss ++ zs)) ≡ data_numbers zs
    no_numbers s ss zs b all = ap (λ (o : Option (List ℤ)). option_or o (data_numbers (ss ++ zs))) (begin_numbers s.command (ss ++ zs) b) ∙ numbers_over ss zs all

    no_limit : (s : Said) (ss : List Said) → IsBegin s.command → (default : ℕ) → limit_behind default (s ∷ ss) ≡ default
    no_limit s ss b default = ap (λ (o : Option ℕ). unwrap_or o default) (begin_limit s.command b)

    begun : (a b : Option Body) (p q : Option (ℕ × Body)) (x y : Body) → a ≡ Some x → b ≡ Some y → BodiesAlike a b → ProgramsAlike (option_or (option_map (λ z. (start.number, z)) a) p) (option_or (option_map (λ z. (start'.number, z)) b) q)
    begun a b p q x y e f h = grind arith

    own_replaced : OwnAlike (start ∷ (own ++ own_cards rest)) (start' ∷ (own' ++ own_cards rest'))
    own_replaced =
        let one = begin_body start.command (own ++ own_cards rest) h.one.begins in
        let other = begin_body start'.command (own' ++ own_cards rest') h.other.begins in
        record {
          limit = λ default. no_limit start' (own' ++ own_cards rest') h.other.begins default ∙ sym (no_limit start (own ++ own_cards rest) h.one.begins default);
          numbers = no_numbers start' own' (own_cards rest') h.other.begins h.other.plain ∙ behind_alike.numbers ∙ sym (no_numbers start own (own_cards rest) h.one.begins h.one.plain);
          program = begun (program_at start.command (own ++ own_cards rest)) (program_at start'.command (own' ++ own_cards rest')) (program (own ++ own_cards rest)) (program (own' ++ own_cards rest')) one.0 other.0 one.1 other.1 h.alike;
        }

    pub tails_alike : TailsAlike (start ∷ (own ++ rest)) (start' ∷ (own' ++ rest'))
    tails_alike = grind (arith, own_placed, own_replaced, jobs_over, jobs_same)

    -- their decks behind any cards
    pub replaced_alike : (front : List Said) → DecksAlike (deck (front ++ start ∷ (own ++ rest))) (deck (front ++ start' ∷ (own' ++ rest')))
    replaced_alike front = decks_alike front (start ∷ (own ++ rest)) (start' ∷ (own' ++ rest')) (run_cards_alike start start' own own' rest rest' h.one h.other h.same) tails_alike
