-- The program of cards, part by part.
use Rattle.std.proofs.Common.{◌≡◌, ◌-◌, ℕ, List, [], ◌++◌, map, length, take, drop, Result, Ok, Err, refl, ap, ◌∙◌, arith}
use Rattle.std.proofs.lemmas.List.{append-nil, take_all, length-drop}
use Rattle.b67_word.specs.Tagged.{contents}
use Rattle.b67_model.specs.State as state
use Rattle.b67_model.specs.Program.{Program}
use Rattle.b67_codefile.specs.declared.file.Codefile.{Codefile}
use Rattle.b67_codefile.specs.Meaning.{segment_of, program_of}
use Rattle.b67_model_text.specs.Deck.{Refusal}
use Rattle.b67_asm.specs.Blocks.{program_after}

pub rest_is : {A : Type 0} (n : ℕ) (s : List A) → take (length s - n) (drop n s) ≡ drop n s
rest_is n s = take_all (length s - n) (drop n s) (omega (arith, length-drop n s))

pub none_before : (version : ℕ) (answer : Result Program Refusal) → program_after (record { version = version; segments = []; rows = [] }) answer ≡ answer
none_before version (Ok p) = refl
none_before version (Err refusal) = refl

pub none_behind : (f : Codefile) → program_after f (Ok (record { segments = []; rows = [] })) ≡ Ok (program_of f)
none_behind f = ap (λ (xs : List state.Segment). Ok (record { segments = xs; rows = map contents f.rows ++ [] })) (append-nil (map segment_of f.segments)) ∙ ap (λ (xs : List (List ℕ)). Ok (record { segments = map segment_of f.segments; rows = xs })) (append-nil (map contents f.rows))
