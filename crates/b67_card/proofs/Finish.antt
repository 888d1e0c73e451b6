-- The deck of accepted cards, by what the reader knows of them.
use Rattle.std.proofs.Common.{◌≡◌, List, [], ◌∷◌, ◌++◌, map, true, Option, Some, None, Ok, refl, sym, ap, ◌∙◌}
use Rattle.std.specs.Prelude.{reverse, slice_get}
use Rattle.std.specs.List.{filter_map, cons_option}
use Rattle.std.specs.Option.{option_to_list}
use Rattle.std.proofs.lemmas.List.{reverse-append, reverse-reverse, append-nil}
use Rattle.std.proofs.lemmas.List.Elements.{filter_map-append}
use Rattle.b67_model_text.specs.declared.deck.Job as declared
use Rattle.b67_model_text.specs.Command.{Command}
use Rattle.b67_card.specs.Meaning.{deck_behind}
use Rattle.b67_model_text.specs.Placing.{stand, first_found, stack_in, quantum_in, halt_in, switch_in}
use Rattle.b67_model_text.specs.Deck.{Said, command_in, is_between, jobs, deck}
use Rattle.b67_card.specs.Shape.{Shows, deck_shaped}
use Rattle.b67_card.specs.Contents.{jobs_told}
use Rattle.b67_card.specs.Reader.{IsAccepted, Knows}
use Rattle.b67_card.specs.declared.shape.Shape.{Shape}
use Rattle.b67_card.specs.declared.deck.Reader.{Reader}
use Rattle.b67_card.proofs.JobsLaw.{jobs_are_told}

filter_map_back : {X Y : Type 0} (f : X → Option Y) (xs : List X) → filter_map f (reverse xs) ≡ reverse (filter_map f xs)
filter_map_back f [] = refl
filter_map_back f (x ∷ xs) = ap (filter_map f) (reverse-append (x ∷ []) xs) ∙ filter_map-append f (reverse xs) (x ∷ []) ∙ ap (λ l. l ++ cons_option (f x) []) (filter_map_back f xs) ∙ at (f x) (filter_map f xs)
  where
    at : {Z : Type 0} (o : Option Z) (ys : List Z) → reverse ys ++ cons_option o [] ≡ reverse (cons_option o ys)
    at None ys = append-nil (reverse ys)
    at (Some y) ys = sym (reverse-append (y ∷ []) ys)

of_commands : {Y : Type 0} (f : Command → Option Y) (xs : List Said) → filter_map (λ s. f s.command) xs ≡ filter_map f (map command_in xs)
of_commands f [] = refl
of_commands f (s ∷ xs) = ap (cons_option (f s.command)) (of_commands f xs)

in_order : {Y : Type 0} (f : Command → Option Y) (before : List Said) → filter_map (λ s. f s.command) (reverse before) ≡ reverse (filter_map f (map command_in before))
in_order f before = filter_map_back (λ s. f s.command) before ∙ ap reverse (of_commands f before)

lone : {Y : Type 0} (o : Option Y) → slice_get (reverse (option_to_list o)) 0 ≡ o
lone None = refl
lone (Some y) = refl

first_in_order : {Y : Type 0} (f : Command → Option Y) (o : Option Y) (before : List Said) → filter_map f (map command_in before) ≡ option_to_list o → first_found (λ s. f s.command) (reverse before) ≡ o
first_in_order f o before e = ap (λ l. slice_get l 0) (in_order f before ∙ ap reverse e) ∙ lone o

pub deck_is : (s : Shape) (all : List declared.Job) (before : List Said) → Shows s (map command_in before) → IsAccepted (map command_in before) → jobs_told before ≡ reverse all → deck (reverse before) ≡ deck_shaped s all
deck_is s all before shows accepted told =
    let stack = first_in_order stack_in s.stack before shows.stack in
    let quantum = first_in_order quantum_in s.quantum before shows.quantum in
    let halt = first_in_order halt_in s.halt before shows.halt in
    let switches = in_order switch_in before ∙ sym shows.switches in
    let same_jobs : jobs (reverse before) ≡ all = jobs_are_told before accepted ∙ ap reverse told ∙ reverse-reverse all in
    rw (stack, quantum, halt, switches, same_jobs) refl

pub deck_behind_is : (r : Reader) (all : List declared.Job) (before : List Said) → Knows r before → is_between r.shape.stand ≡ true → jobs_told before ≡ reverse all → deck_behind before ≡ Ok (deck_shaped r.shape all)
deck_behind_is r all before knows between told =
    let open_end : is_between (stand (map command_in before)) ≡ true = ap is_between (sym knows.shape.stand) ∙ between in
    rw open_end (ap Ok (deck_is r.shape all before knows.shape knows.accepted told))
