-- The words of a command.
use Rattle.std.specs.Prelude.{ℕ, ◌&&◌, nat_le, List, [], ◌∷◌, length, codes, Option, Some, None, if◌then◌else◌}
use Rattle.std.specs.Option.{option_map, option_and_then, option_or}
use Rattle.std.specs.Str.{bytes_eq}
use denote.Ref.{Bor}
use Rattle.b67_model_text.specs.Command.{number_in, parted}
pub use Rattle.b67_job.specs.Told.{is_path}
use Rattle.b67_bind.specs.declared.pairs.Pair.{Pair}
use Rattle.b67_job.specs.declared.command.CommandLine.{CommandLine}
use Rattle.b67_job.specs.declared.command.CommandLine.TheVariants as lines
use Rattle.b67_model.specs.declared.limits.TheConstants.{LEAST_CORE, MOST_CORE}

-- what a run is asked for: its words of core, and the path of its backing
pub record Request : Type 0 where
  pub core : ℕ
  pub path : List ℕ

-- the texts that stand behind the two options
pub record Options : Type 0 where
  pub core : List ℕ
  pub path : List ℕ

-- both options, in either order
abbrev pub options : List ℕ → List ℕ → List ℕ → List ℕ → Option Options
options first a second b =
    if bytes_eq first (codes "--core") && bytes_eq second (codes "--backing") then Some (record { core = a; path = b })
    else (if bytes_eq first (codes "--backing") && bytes_eq second (codes "--core") then Some (record { core = b; path = a }) else None)

abbrev pub requested : Options → Option Request
requested o = if is_path o.path then option_map (λ n. record { core = n; path = o.path }) (number_in LEAST_CORE MOST_CORE o.core) else None

-- what the words ask for, where they are this name and both options
abbrev pub request : List ℕ → List (Bor (List ℕ)) → Option Request
request name (word ∷ first ∷ a ∷ second ∷ b ∷ []) =
    if bytes_eq word.now name then option_and_then requested (options first.now a.now second.now b.now) else None
request name _ = None

-- an exercise of this seed and size, over these words of core
abbrev pub exercise_by : List ℕ → List ℕ → List ℕ → Option CommandLine
exercise_by seed size core =
    option_and_then (λ s. option_and_then (λ n. option_map (lines.Exercise s n) (number_in LEAST_CORE MOST_CORE core)) (number_in 1 500 size)) (number_in 0 2147483647 seed)

-- what the words ask for, where they are `exercise`, a seed and a size, and the option
abbrev pub exercise : List (Bor (List ℕ)) → Option CommandLine
exercise (word ∷ seed ∷ size ∷ option ∷ core ∷ []) =
    if bytes_eq word.now (codes "exercise") && bytes_eq option.now (codes "--core") then exercise_by seed.now size.now core.now else None
exercise _ = None

-- a pair of segments, which is written H=P
abbrev pub pair_in : List ℕ → Option Pair
pair_in word = option_and_then (λ p. option_and_then (λ host. option_map (λ part. record { host = host; part = part }) (number_in 1 255 p.1)) (number_in 1 255 p.0)) (parted 61 word)

abbrev pub pairs_in : List (Bor (List ℕ)) → Option (List Pair)
pairs_in [] = Some []
pairs_in (word ∷ more) = option_and_then (λ a. option_map (λ rest. a ∷ rest) (pairs_in more)) (pair_in word.now)

-- what the words ask for, where they are `bind` and 1 to 255 pairs
abbrev pub bind : List (Bor (List ℕ)) → Option CommandLine
bind [] = None
bind (word ∷ more) =
    if bytes_eq word.now (codes "bind") && nat_le 1 (length more) && nat_le (length more) 255 then option_map lines.Bind (pairs_in more) else None

-- the path that the words name, where they are `resume` and the one option
abbrev pub resumed_path : List (Bor (List ℕ)) → Option (List ℕ)
resumed_path (word ∷ option ∷ path ∷ []) =
    if bytes_eq word.now (codes "resume") && bytes_eq option.now (codes "--backing") && is_path path.now then Some path.now else None
resumed_path _ = None

-- what the words ask for, where they are so
abbrev pub resume : List (Bor (List ℕ)) → Option CommandLine
resume words = option_map (λ path. lines.Resume) (resumed_path words)

-- the commands of one word
abbrev pub one_word : List (Bor (List ℕ)) → Option CommandLine
one_word (word ∷ []) =
    if bytes_eq word.now (codes "asm") then Some lines.Asm
    else (if bytes_eq word.now (codes "check") then Some lines.Check
    else (if bytes_eq word.now (codes "convert") then Some lines.Convert
    else (if bytes_eq word.now (codes "dump") then Some lines.Dump else None)))
one_word _ = None

-- the command that the words are
abbrev pub command_line_of : List (Bor (List ℕ)) → Option CommandLine
command_line_of words =
    option_or (one_word words)
    (option_or (option_map (λ r. lines.Run r.core) (request (codes "run") words))
    (option_or (option_map (λ r. lines.Image r.core) (request (codes "image") words)) (option_or (exercise words) (option_or (resume words) (bind words)))))

-- the path that the words name
abbrev pub backing_path : List (Bor (List ℕ)) → Option (List ℕ)
backing_path words =
    option_or (option_map (λ r. r.path) (request (codes "run") words)) (option_or (option_map (λ r. r.path) (request (codes "image") words)) (resumed_path words))
