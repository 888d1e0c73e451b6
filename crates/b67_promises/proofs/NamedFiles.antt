-- Which commands name a file.
use Rattle.std.proofs.Common.{◌≡◌, ℕ, List, [], ◌∷◌, codes, cond, sym, Bool, true, false, Option, Some, None}
use Rattle.std.specs.Option.{option_map, option_and_then, option_or}
use Rattle.std.proofs.lemmas.Option.{none-some}
use denote.Ref.{Bor}
use Rattle.b67_model.specs.declared.limits.TheConstants.{LEAST_CORE, MOST_CORE}
use Rattle.b67_model_text.specs.Command.{number_in}
use Rattle.b67_bind.specs.declared.pairs.Pair.{Pair}
use Rattle.b67_job.specs.declared.command.CommandLine.{CommandLine}
use Rattle.b67_job.specs.declared.command.CommandLine.TheVariants as commands
use Rattle.b67_job.specs.Command.{Request, request, exercise, resumed_path, bind, pairs_in, one_word, command_line_of, backing_path}

-- ---- it names none

abbrev pub NamesNone : Option CommandLine → Type 0
NamesNone (Some (commands.Run core)) = ⊥
NamesNone (Some (commands.Image core)) = ⊥
NamesNone (Some commands.Resume) = ⊥
NamesNone _ = Unit {0}

none_of_two : (o x : Option CommandLine) → NamesNone o → NamesNone x → NamesNone (option_or o x)
none_of_two None x a b = b
none_of_two (Some c) x a b = a

none_one : (a b c d : Bool) → NamesNone (cond a (Some commands.Asm) (cond b (Some commands.Check) (cond c (Some commands.Convert) (cond d (Some commands.Dump) None))))
none_one true b c d = tt
none_one false true c d = tt
none_one false false true d = tt
none_one false false false true = tt
none_one false false false false = tt

none_bind : (b : Bool) (o : Option (List Pair)) → NamesNone (cond b (option_map commands.Bind o) None)
none_bind true (Some pairs) = tt
none_bind true None = tt
none_bind false o = tt

none_exercise : (b : Bool) (seed size core : Option ℕ) → NamesNone (cond b (option_and_then (λ (s : ℕ). option_and_then (λ (n : ℕ). option_map (commands.Exercise s n) core) size) seed) None)
none_exercise false seed size core = tt
none_exercise true None size core = tt
none_exercise true (Some s) None core = tt
none_exercise true (Some s) (Some n) None = tt
none_exercise true (Some s) (Some n) (Some k) = tt

none_resume : (o : Option (List ℕ)) (x : Option CommandLine) → o ≡ None → NamesNone x → NamesNone (option_or (option_map (λ (path : List ℕ). commands.Resume) o) x)
none_resume None x e n = n
none_resume (Some path) x e n = absurd (none-some path (sym e))

none_request : (r i : Option Request) (x : Option CommandLine) → option_or (option_map (λ (q : Request). q.path) r) (option_or (option_map (λ (q : Request). q.path) i) None) ≡ None → NamesNone x
    → NamesNone (option_or (option_map (λ (q : Request). commands.Run q.core) r) (option_or (option_map (λ (q : Request). commands.Image q.core) i) x))
none_request (Some q) i x e n = absurd (none-some q.path (sym e))
none_request None (Some q) x e n = absurd (none-some q.path (sym e))
none_request None None x e n = n

pub names_none : (words : List (Bor (List ℕ))) → backing_path words ≡ None → NamesNone (command_line_of words)
names_none [] e = tt
names_none (a ∷ []) e = none_of_two (one_word (a ∷ [])) (bind (a ∷ [])) (none_one _ _ _ _) (none_bind _ (pairs_in []))
names_none (a ∷ b ∷ []) e = none_bind _ _
names_none (a ∷ b ∷ c ∷ []) e = none_resume (resumed_path (a ∷ b ∷ c ∷ [])) (bind (a ∷ b ∷ c ∷ [])) e (none_bind _ _)
names_none (a ∷ b ∷ c ∷ d ∷ []) e = none_bind _ _
names_none (a ∷ b ∷ c ∷ d ∷ f ∷ []) e =
    let ws = a ∷ b ∷ c ∷ d ∷ f ∷ [] in
    none_request (request (codes "run") ws) (request (codes "image") ws) (option_or (exercise ws) (bind ws)) e (none_of_two (exercise ws) (bind ws) (none_exercise _ (number_in 0 2147483647 b.now) (number_in 1 500 c.now) (number_in LEAST_CORE MOST_CORE f.now)) (none_bind _ _))
names_none (a ∷ b ∷ c ∷ d ∷ f ∷ g ∷ more) e = none_bind _ _

-- ---- it names one

abbrev pub NamesOne : Option CommandLine → Type 0
NamesOne (Some (commands.Run core)) = Unit {0}
NamesOne (Some (commands.Image core)) = Unit {0}
NamesOne (Some commands.Resume) = Unit {0}
NamesOne _ = ⊥

one_resume : (path : List ℕ) (o : Option (List ℕ)) (x : Option CommandLine) → o ≡ Some path → NamesOne (option_or (option_map (λ (q : List ℕ). commands.Resume) o) x)
one_resume path (Some q) x e = tt
one_resume path None x e = absurd (none-some path e)

one_request : (path : List ℕ) (r i : Option Request) (x : Option CommandLine) → option_or (option_map (λ (q : Request). q.path) r) (option_or (option_map (λ (q : Request). q.path) i) None) ≡ Some path
    → NamesOne (option_or (option_map (λ (q : Request). commands.Run q.core) r) (option_or (option_map (λ (q : Request). commands.Image q.core) i) x))
one_request path (Some q) i x e = tt
one_request path None (Some q) x e = tt
one_request path None None x e = absurd (none-some path e)

pub names_one : (words : List (Bor (List ℕ))) (path : List ℕ) → backing_path words ≡ Some path → NamesOne (command_line_of words)
names_one [] path e = absurd (none-some path e)
names_one (a ∷ []) path e = absurd (none-some path e)
names_one (a ∷ b ∷ []) path e = absurd (none-some path e)
names_one (a ∷ b ∷ c ∷ []) path e = one_resume path (resumed_path (a ∷ b ∷ c ∷ [])) (bind (a ∷ b ∷ c ∷ [])) e
names_one (a ∷ b ∷ c ∷ d ∷ []) path e = absurd (none-some path e)
names_one (a ∷ b ∷ c ∷ d ∷ f ∷ []) path e =
    let ws = a ∷ b ∷ c ∷ d ∷ f ∷ [] in
    one_request path (request (codes "run") ws) (request (codes "image") ws) (option_or (exercise ws) (bind ws)) e
names_one (a ∷ b ∷ c ∷ d ∷ f ∷ g ∷ more) path e = absurd (none-some path e)
