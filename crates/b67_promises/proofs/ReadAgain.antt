-- A deck that is read is read with other hexadecimal cards in the place of one job's body.
use Rattle.std.proofs.Common.{◌≡◌, ◌≤◌, ◌<◌, ◌+◌, ℕ, Bool, true, false, cond, not, List, [], ◌∷◌, ◌++◌, length, map, refl, sym, ap, subst, ◌∙◌, arith, Option, Some, None, Result, Ok, Err, codes}
use Rattle.std.specs.Prelude.{reverse, ◌||◌, ◌==◌, ⊤}
use Rattle.std.specs.List.{AllByRecursion, filter_map}
use Rattle.std.specs.Str.Lines.{lines}
use Rattle.std.proofs.lemmas.Bool.{ltb-true}
use Rattle.b67_model_text.specs.declared.card.Card.{Card}
use Rattle.b67_model_text.specs.declared.deck.Deck.{Deck}
use Rattle.b67_model_text.specs.declared.deck.Stand.{Stand}
use Rattle.b67_model_text.specs.declared.deck.Stand.TheVariants.{Front, Begun, Limited, InAsm, InHex, InData, Ended}
use Rattle.b67_model_text.specs.Answers.{Answer, ◌>>=◌, ◌>>◌, needs}
use Rattle.b67_model_text.specs.Cards.{cards}
use Rattle.b67_model_text.specs.Hex.{is_hex}
use Rattle.b67_model_text.specs.Command.{Command, Stack, Quantum, Halt, Switch, Job, Limit, Asm, Hex, Data, End, Plain, is_command, plain_card, said}
use Rattle.b67_model_text.specs.Placing.{stand, stand_after, may_stand, lacks_program, stack_in, quantum_in, halt_in, switch_in, name_in, is_repeated, rises, has_room, is_well_formed, placed_card}
use Rattle.b67_model_text.specs.Deck.{Said, command_in, text_in, said_after, of_card, is_between, number_of_last, ended_deck, sayings, within_limit, deck, deck_of, limit}
use Rattle.b67_model_text.proofs.Answers.{err-ok}
use Rattle.b67_promises.specs.Cards.{BeginsCommand}
use Rattle.b67_promises.proofs.Renumbered.{texts_of}
use Rattle.b67_promises.proofs.Bodies.{IsBegin}
use Rattle.b67_promises.proofs.TurnCards.{cards_at, placed_first, deck_said}
use Rattle.b67_promises.proofs.BodyCards.{IsNoCommand, IsHead, HasBody, cards_of_body, marked_card, command_said, plain_said, same_command, same_lines}

-- ---- a card by what stands before it

-- what is refused of a card, by where it stands, whether it is repeated or doesn't rise, and its room
abbrev placed_by : Stand → Bool → Bool → Answer ⊤ → Command → Answer ⊤
placed_by s again above room c = do
  _ ← do
    needs (may_stand s c || lacks_program s c) 5
    needs (not again) 6
    needs above 7
    _ ← room
    needs (not (lacks_program s c)) 10
  is_well_formed s c

-- the same run cards and jobs stand before
record SameRun (xs ys : List Command) : Type 0 where
  stacks : filter_map stack_in ys ≡ filter_map stack_in xs
  quanta : filter_map quantum_in ys ≡ filter_map quantum_in xs
  halts : filter_map halt_in ys ≡ filter_map halt_in xs
  switches : filter_map switch_in ys ≡ filter_map switch_in xs
  names : filter_map name_in ys ≡ filter_map name_in xs

same_again : (xs : List Command) → SameRun xs xs
same_again xs = record { stacks = refl; quanta = refl; halts = refl; switches = refl; names = refl }

one_more : (xs ys : List Command) (c : Command) → SameRun xs ys → SameRun (c ∷ xs) (c ∷ ys)
one_more xs ys c h = grind arith

turned : (xs ys : List Command) → SameRun xs ys → SameRun ys xs
turned xs ys h = record { stacks = sym h.stacks; quanta = sym h.quanta; halts = sym h.halts; switches = sym h.switches; names = sym h.names }

same_then : (xs ys zs : List Command) → SameRun xs ys → SameRun ys zs → SameRun xs zs
same_then xs ys zs h k = record { stacks = k.stacks ∙ h.stacks; quanta = k.quanta ∙ h.quanta; halts = k.halts ∙ h.halts; switches = k.switches ∙ h.switches; names = k.names ∙ h.names }

-- a plain card before is no run card
behind_plain : (xs ys : List Command) (text : List ℕ) → SameRun (Plain text ∷ xs) ys → SameRun xs ys
behind_plain xs ys text h = record { stacks = h.stacks; quanta = h.quanta; halts = h.halts; switches = h.switches; names = h.names }

placed_same : (xs ys : List Command) → SameRun xs ys → (s : Stand) (c : Command) → placed_by s (is_repeated ys c) (rises ys c) (has_room ys c) c ≡ placed_by s (is_repeated xs c) (rises xs c) (has_room xs c) c
placed_same xs ys h s c = grind arith

placed_is : (xs : List Command) (c : Command) → placed_card xs c ≡ placed_by (stand xs) (is_repeated xs c) (rises xs c) (has_room xs c) c
placed_is xs c = refl

-- ---- a card is read

-- it says this and may stand behind these cards
record Read (before : List Said) (card : Card) (c : Command) : Type 0 where
  says : said card.text ≡ Ok c
  placed : placed_card (map command_in before) c ≡ Ok tt

reads : (before : List Said) (card : Card) (more : List Card) (a : List Said) → sayings before (card ∷ more) ≡ Ok a
    → (c : Command) × Read before card c × (sayings (record { number = card.number; command = c } ∷ before) more ≡ Ok a)
reads before card more a e = let p = placed_first before card more a e in (p.0, record { says = p.1; placed = p.3 }, p.4)

goes_on : (before : List Said) (card : Card) (more : List Card) (c : Command) → Read before card c → sayings before (card ∷ more) ≡ sayings (record { number = card.number; command = c } ∷ before) more
goes_on before card more c r = rw (r.says, r.placed) refl

abbrev IsRead : List Said → List Card → Type 0
IsRead before cs = (a : List Said) × (sayings before cs ≡ Ok a)

one_read : (before : List Said) (card : Card) (more : List Card) (c : Command) → Read before card c → IsRead (record { number = card.number; command = c } ∷ before) more → IsRead before (card ∷ more)
one_read before card more c r rest = (rest.0, goes_on before card more c r ∙ rest.1)

-- ---- the same cards behind others with the same run cards, at the same stand

abbrev stand_of : List Said → Stand
stand_of before = stand (map command_in before)

abbrev Same : List Said → List Said → Type 0
Same xs ys = SameRun (map command_in xs) (map command_in ys)

again : (xs ys : List Said) (card other : Card) (c : Command) → other.text ≡ card.text → Same xs ys → stand_of ys ≡ stand_of xs → Read xs card c → Read ys other c
again xs ys card other c t h s r = grind (arith, placed_is)

ends_again : (xs ys : List Said) (a : List Said) → stand_of ys ≡ stand_of xs → sayings xs [] ≡ Ok a → IsRead ys []
ends_again xs ys a s e = subst (λ (z : Stand). (b : List Said) × ((of_card (number_of_last ys) (needs (is_between z) 13) >> Ok (reverse ys)) ≡ Ok b)) (sym s) (by_test (is_between (stand_of xs)) e)
  where
    by_test : (b : Bool) → (of_card (number_of_last xs) (needs b 13) >> Ok (reverse xs)) ≡ Ok a → (c : List Said) × ((of_card (number_of_last ys) (needs b 13) >> Ok (reverse ys)) ≡ Ok c)
    by_test true e = (reverse ys, refl)
    by_test false e = err-ok (record { card = number_of_last xs; reason = 13 }) a _ e

read_again : (cs ds : List Card) (xs ys a : List Said) → texts_of ds ≡ texts_of cs → Same xs ys → stand_of ys ≡ stand_of xs → sayings xs cs ≡ Ok a → IsRead ys ds
read_again [] [] xs ys a t h s e = ends_again xs ys a s e
read_again [] (d ∷ ds) xs ys a t h s e = absurd (let z : ⊥ = cc in z)
read_again (c ∷ cs) [] xs ys a t h s e = absurd (let z : ⊥ = cc in z)
read_again (c ∷ cs) (d ∷ ds) xs ys a t h s e =
    let first : d.text ≡ c.text = cc in
    let rest : texts_of ds ≡ texts_of cs = cc in
    let r = reads xs c cs a e in
    let x : Said = record { number = c.number; command = r.0 } in
    let y : Said = record { number = d.number; command = r.0 } in
    one_read ys d ds r.0 (again xs ys c d r.0 first h s r.1)
    (read_again cs ds (x ∷ xs) (y ∷ ys) a rest (one_more (map command_in xs) (map command_in ys) r.0 h) (ap (λ (z : Stand). stand_after z r.0) s) r.2)

-- ---- a front, and what is read behind it

record Led (cs more : List Card) (before : List Said) (a : List Said) : Type 0 where
  middle : List Said
  reads_more : sayings middle more ≡ Ok a
  reads_other : (other : List Card) → IsRead middle other → IsRead before (cs ++ other)

led : (cs more : List Card) (before a : List Said) → sayings before (cs ++ more) ≡ Ok a → Led cs more before a
led [] more before a e = record { middle = before; reads_more = e; reads_other = λ other r. r }
led (c ∷ cs) more before a e =
    let r = reads before c (cs ++ more) a e in
    let rest = led cs more (record { number = c.number; command = r.0 } ∷ before) a r.2 in
    record { middle = rest.middle; reads_more = rest.reads_more; reads_other = λ other k. one_read before c (cs ++ other) r.0 r.1 (rest.reads_other other k) }

-- ---- where a body begins, one of digits may begin

abbrev IsInBody : Stand → Type 0
IsInBody InAsm = Unit {0}
IsInBody InHex = Unit {0}
IsInBody _ = ⊥

-- behind a card that begins a body, and behind ?HEX in its place
record Begins (xs : List Command) (c : Command) : Type 0 where
  placed : placed_card xs c ≡ Ok tt → placed_card xs Hex ≡ Ok tt
  in_body : IsInBody (stand (c ∷ xs))
  same : SameRun (c ∷ xs) (Hex ∷ xs)

begins : (xs : List Command) (c : Command) → IsBegin c → Begins xs c
begins xs c b = grind arith

-- ---- cards of a body

-- behind plain cards the stand and the run cards are the same
record Through (more : List Card) (before a : List Said) : Type 0 where
  middle : List Said
  reads_more : sayings middle more ≡ Ok a
  same : Same before middle
  stands : stand_of middle ≡ stand_of before

through : (cs more : List Card) (before a : List Said) → AllByRecursion IsNoCommand (texts_of cs) → sayings before (cs ++ more) ≡ Ok a → Through more before a
through [] more before a all e = record { middle = before; reads_more = e; same = same_again (map command_in before); stands = refl }
through (c ∷ cs) more before a all e =
    let r = reads before c (cs ++ more) a e in
    let is : r.0 ≡ Plain c.text = plain_said c.text r.0 all.0 r.1.says in
    let x : Said = record { number = c.number; command = Plain c.text } in
    let e' : sayings (x ∷ before) (cs ++ more) ≡ Ok a = subst (λ (d : Command). sayings (record { number = c.number; command = d } ∷ before) (cs ++ more) ≡ Ok a) is r.2 in
    let rest = through cs more (x ∷ before) a all.1 e' in
    record { middle = rest.middle; reads_more = rest.reads_more; same = behind_plain (map command_in before) (map command_in rest.middle) c.text rest.same; stands = rest.stands }

-- a card of hexadecimal digits
pub record IsHexCard (text : List ℕ) : Type 0 where
  pub plain : plain_card text ≡ Ok tt
  pub no_command : is_command text ≡ false
  pub hex : is_hex text ≡ true

hex_says : (text : List ℕ) → IsHexCard text → said text ≡ Ok (Plain text)
hex_says text h = rw (h.plain, h.no_command) refl

hex_placed : (xs : List Command) (text : List ℕ) → IsHexCard text → stand xs ≡ InHex → placed_card xs (Plain text) ≡ Ok tt
hex_placed xs text h s = rw (s, h.hex) refl

takes_body : (cs more : List Card) (before : List Said) → AllByRecursion IsHexCard (texts_of cs) → stand_of before ≡ InHex
    → ((middle : List Said) → Same before middle → stand_of middle ≡ InHex → IsRead middle more) → IsRead before (cs ++ more)
takes_body [] more before all s go = go before (same_again (map command_in before)) s
takes_body (c ∷ cs) more before all s go =
    let x : Said = record { number = c.number; command = Plain c.text } in
    one_read before c (cs ++ more) (Plain c.text) (record { says = hex_says c.text all.0; placed = hex_placed (map command_in before) c.text all.0 s })
    (takes_body cs more (x ∷ before) all.1 s (λ middle same stands. go middle (behind_plain (map command_in before) (map command_in middle) c.text same) stands))

-- ---- the command that ends a body

-- it ends one of either kind
ends_either : (s : Stand) (b above : Bool) (room : Answer ⊤) (c : Command) → IsInBody s → text_in c ≡ None → placed_by s b above room c ≡ Ok tt
    → (placed_by InHex b above room c ≡ Ok tt) × (stand_after InHex c ≡ stand_after s c)
ends_either InHex b above room c i none e = (e, refl)
ends_either InAsm b above room Data i none e = (e, refl)
ends_either InAsm b above room End i none e = (e, refl)
ends_either InAsm b above room (Stack n) i none e = absurd (let z : ⊥ = cc in z)
ends_either InAsm b above room (Quantum n) i none e = absurd (let z : ⊥ = cc in z)
ends_either InAsm b above room (Halt n) i none e = absurd (let z : ⊥ = cc in z)
ends_either InAsm b above room (Switch count job task) i none e = absurd (let z : ⊥ = cc in z)
ends_either InAsm b above room (Job name) i none e = absurd (let z : ⊥ = cc in z)
ends_either InAsm b above room (Limit n) i none e = absurd (let z : ⊥ = cc in z)
ends_either InAsm b above room Asm i none e = absurd (let z : ⊥ = cc in z)
ends_either InAsm b above room Hex i none e = absurd (let z : ⊥ = cc in z)
ends_either InAsm b above room (Plain text) i none e = absurd (let z : ⊥ = cc in z)
ends_either Front b above room c i none e = absurd i
ends_either Begun b above room c i none e = absurd i
ends_either Limited b above room c i none e = absurd i
ends_either InData b above room c i none e = absurd i
ends_either Ended b above room c i none e = absurd i

-- the command and all behind it are read behind a body of digits as behind the first one
behind_body : (t : List ℕ) (n m : ℕ) (cs ds : List Card) (xs ys a : List Said) → texts_of ds ≡ texts_of cs → Same xs ys → IsInBody (stand_of xs) → stand_of ys ≡ InHex
    → sayings xs (record { number = n; text = 63 ∷ t } ∷ cs) ≡ Ok a → IsRead ys (record { number = m; text = 63 ∷ t } ∷ ds)
behind_body t n m cs ds xs ys a same h i s e =
    let card : Card = record { number = n; text = 63 ∷ t } in
    let other : Card = record { number = m; text = 63 ∷ t } in
    let r = reads xs card cs a e in
    let c : Command = r.0 in
    let before = map command_in xs in
    let before' = map command_in ys in
    let both = ends_either (stand before) (is_repeated before c) (rises before c) (has_room before c) c i (command_said t c r.1.says) (sym (placed_is before c) ∙ r.1.placed) in
    let placed : placed_card before' c ≡ Ok tt = placed_is before' c ∙ ap (λ (z : Stand). placed_by z (is_repeated before' c) (rises before' c) (has_room before' c) c) s ∙ placed_same before before' h InHex c ∙ both.0 in
    let x : Said = record { number = n; command = c } in
    let y : Said = record { number = m; command = c } in
    one_read ys other ds c (record { says = r.1.says; placed = placed })
    (read_again cs ds (x ∷ xs) (y ∷ ys) a same (one_more before before' c h) (ap (λ (z : Stand). stand_after z c) s ∙ both.1) r.2)

-- the same by lines
behind_lines : (next : List ℕ) (rest : List (List ℕ)) (n m : ℕ) (xs ys a : List Said) → BeginsCommand next → Same xs ys → IsInBody (stand_of xs) → stand_of ys ≡ InHex
    → sayings xs (cards_at n (next ∷ rest)) ≡ Ok a → IsRead ys (cards_at m (next ∷ rest))
behind_lines next rest n m xs ys a b h i s e =
    let t = marked_card next b in
    let r = behind_body t.0 n m (cards_at (n + 1) rest) (cards_at (m + 1) rest) xs ys a (same_lines (m + 1) (n + 1) rest) h i s (ap (sayings xs) (sym (t.1 n rest)) ∙ e) in
    (r.0, ap (sayings ys) (t.1 m rest) ∙ r.1)

-- ---- a text

within_is : (text : List ℕ) → length text ≤ limit → within_limit text ≡ Ok tt
within_is text fits = grind (arith, ltb-true)

-- the other text has cards of digits in the place of the body
pub read_with : (text other : List ℕ) (front_lines : List (List ℕ)) (head : List ℕ) (own own' : List (List ℕ)) (next : List ℕ) (rest : List (List ℕ)) (command : Command) (d : Deck)
    → HasBody text front_lines head own next rest → HasBody other front_lines (codes "?HEX") own' next rest → IsHead head command → IsBegin command
    → ((n : ℕ) → AllByRecursion IsHexCard (texts_of (cards_at n own'))) → length other ≤ limit → deck_of text ≡ Ok d → (e : Deck) × (deck_of other ≡ Ok e)
read_with text other front_lines head own own' next rest command d h h' is begin digits fits one =
    let n = 1 + length front_lines in
    let m = n + 1 + length own in
    let m' = n + 1 + length own' in
    let a = deck_said text d one in
    let own_cards = cards_at (n + 1) own in
    let own_cards' = cards_at (n + 1) own' in
    let head_card : Card = record { number = n; text = head } in
    let hex_card : Card = record { number = n; text = codes "?HEX" } in
    let more = cards_at m (next ∷ rest) in
    let more' = cards_at m' (next ∷ rest) in
    let f = led (cards_at 1 front_lines) (head_card ∷ (own_cards ++ more)) [] a.0 (ap (sayings []) (sym (cards_of_body text front_lines head own next rest h.is is.0 is.1)) ∙ a.1) in
    let r = reads f.middle head_card (own_cards ++ more) a.0 f.reads_more in
    let same : r.0 ≡ command = same_command head r.0 command r.1.says is.2 in
    let start : Said = record { number = n; command = command } in
    let start' : Said = record { number = n; command = Hex } in
    let before = map command_in f.middle in
    let b = begins before command begin in
    let placed : placed_card before command ≡ Ok tt = subst (λ (c : Command). placed_card before c ≡ Ok tt) same r.1.placed in
    let read_own : sayings (start ∷ f.middle) (own_cards ++ more) ≡ Ok a.0 = subst (λ (c : Command). sayings (record { number = n; command = c } ∷ f.middle) (own_cards ++ more) ≡ Ok a.0) same r.2 in
    let t = through own_cards more (start ∷ f.middle) a.0 (h.plain (n + 1)) read_own in
    let in_body : IsInBody (stand_of t.middle) = subst IsInBody (sym t.stands) b.in_body in
    let read : IsRead [] (cards_at 1 front_lines ++ (hex_card ∷ (own_cards' ++ more'))) = f.reads_other (hex_card ∷ (own_cards' ++ more'))
    (one_read f.middle hex_card (own_cards' ++ more') Hex (record { says = refl; placed = b.placed placed })
    (takes_body own_cards' more' (start' ∷ f.middle) (digits (n + 1)) refl
    (λ middle kept stands.
    behind_lines next rest m m' t.middle middle a.0 h.ends (same_then (map command_in t.middle) (map command_in (start ∷ f.middle)) (map command_in middle) (turned (map command_in (start ∷ f.middle)) (map command_in t.middle) t.same) (same_then (map command_in (start ∷ f.middle)) (map command_in (start' ∷ f.middle)) (map command_in middle) b.same kept)) in_body stands t.reads_more)))
    in
    let said_is : sayings [] (cards other) ≡ Ok read.0 = ap (sayings []) (cards_of_body other front_lines (codes "?HEX") own' next rest h'.is refl refl) ∙ read.1 in
    (deck read.0, rw (within_is other fits, said_is) refl)
