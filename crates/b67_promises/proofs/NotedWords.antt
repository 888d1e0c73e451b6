-- What words ask for is known by their texts.
use Rattle.std.proofs.Common.{◌≡◌, ℕ, List, [], ◌∷◌, length, map, codes, cond, refl, sym, ap, ◌∙◌, Bool, Option, None}
use Rattle.std.specs.Prelude.{◌&&◌, nat_le}
use Rattle.std.specs.Option.{option_map, option_and_then, option_or}
use Rattle.std.specs.Str.{bytes_eq}
use Rattle.std.proofs.lemmas.List.{length-map}
use denote.Ref.{Bor}
use Rattle.b67_bind.specs.declared.pairs.Pair.{Pair}
use Rattle.b67_job.specs.declared.command.CommandLine.{CommandLine}
use Rattle.b67_job.specs.declared.command.CommandLine.TheVariants as commands
use Rattle.b67_job.specs.Command.{Request, request, exercise, resume, pair_in, pairs_in, bind, one_word, command_line_of, backing_path}
use Rattle.b67_promises.specs.Paging.{texts}

-- words that have these texts
abbrev bare : List ℕ → Bor (List ℕ)
bare text = record { ref_ptr = (0, 0); now = text }

abbrev bared : List (List ℕ) → List (Bor (List ℕ))
bared ts = map bare ts

many : (words : List (Bor (List ℕ))) → length (bared (texts words)) ≡ length words
many words = length-map (texts words) bare ∙ length-map words (λ (word : Bor (List ℕ)). word.now)

same_pairs : (words : List (Bor (List ℕ))) → pairs_in (bared (texts words)) ≡ pairs_in words
same_pairs [] = refl
same_pairs (word ∷ more) = ap (λ (o : Option (List Pair)). option_and_then (λ (a : Pair). option_map (λ (rest : List Pair). a ∷ rest) o) (pair_in word.now)) (same_pairs more)

abbrev binds : Bool → ℕ → Option (List Pair) → Option CommandLine
binds named n o = cond (named && nat_le 1 n && nat_le n 255) (option_map commands.Bind o) None

same_bind : (words : List (Bor (List ℕ))) → bind (bared (texts words)) ≡ bind words
same_bind [] = refl
same_bind (word ∷ more) =
    ap (λ (n : ℕ). binds (bytes_eq word.now (codes "bind")) n (pairs_in (bared (texts more)))) (many more)
    ∙ ap (λ (o : Option (List Pair)). binds (bytes_eq word.now (codes "bind")) (length more) o) (same_pairs more)

-- what words ask for, where they may ask for this behind all others
abbrev others : List (Bor (List ℕ)) → Option CommandLine → Option CommandLine
others words o =
    option_or (one_word words)
    (option_or (option_map (λ (r : Request). commands.Run r.core) (request (codes "run") words))
    (option_or (option_map (λ (r : Request). commands.Image r.core) (request (codes "image") words)) (option_or (exercise words) (option_or (resume words) o))))

by_texts : (words : List (Bor (List ℕ))) → command_line_of (bared (texts words)) ≡ command_line_of words
by_texts [] = refl
by_texts (a ∷ []) = ap (others (a ∷ [])) (same_bind (a ∷ []))
by_texts (a ∷ b ∷ []) = ap (others (a ∷ b ∷ [])) (same_bind (a ∷ b ∷ []))
by_texts (a ∷ b ∷ c ∷ []) = ap (others (a ∷ b ∷ c ∷ [])) (same_bind (a ∷ b ∷ c ∷ []))
by_texts (a ∷ b ∷ c ∷ d ∷ []) = ap (others (a ∷ b ∷ c ∷ d ∷ [])) (same_bind (a ∷ b ∷ c ∷ d ∷ []))
by_texts (a ∷ b ∷ c ∷ d ∷ e ∷ []) = ap (others (a ∷ b ∷ c ∷ d ∷ e ∷ [])) (same_bind (a ∷ b ∷ c ∷ d ∷ e ∷ []))
by_texts (a ∷ b ∷ c ∷ d ∷ e ∷ f ∷ more) = ap (others (a ∷ b ∷ c ∷ d ∷ e ∷ f ∷ more)) (same_bind (a ∷ b ∷ c ∷ d ∷ e ∷ f ∷ more))

path_by_texts : (words : List (Bor (List ℕ))) → backing_path (bared (texts words)) ≡ backing_path words
path_by_texts [] = refl
path_by_texts (a ∷ []) = refl
path_by_texts (a ∷ b ∷ []) = refl
path_by_texts (a ∷ b ∷ c ∷ []) = refl
path_by_texts (a ∷ b ∷ c ∷ d ∷ []) = refl
path_by_texts (a ∷ b ∷ c ∷ d ∷ e ∷ []) = refl
path_by_texts (a ∷ b ∷ c ∷ d ∷ e ∷ f ∷ more) = refl

module _ (words words' : List (Bor (List ℕ))) (same : texts words' ≡ texts words) where
  pub same_line : command_line_of words' ≡ command_line_of words
  same_line = sym (by_texts words') ∙ ap (λ (ts : List (List ℕ)). command_line_of (bared ts)) same ∙ by_texts words

  pub same_path : backing_path words' ≡ backing_path words
  same_path = sym (path_by_texts words') ∙ ap (λ (ts : List (List ℕ)). backing_path (bared ts)) same ∙ path_by_texts words
