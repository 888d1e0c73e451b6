-- How a refusal is told, with what last line a call ends, and which words are paths.
use Rattle.std.specs.Prelude.{ℕ, ◌==◌, not, Bool, false, List, [], ◌∷◌, ◌++◌, codes, decimal}
use Rattle.b67_io.specs.Line.{ended}
use Rattle.b67_job.specs.declared.refusal.Refusal.{Refusal}
use Rattle.b67_job.specs.declared.refusal.Refusal.TheVariants as refusal

-- a card and its reason
abbrev pub card_text : List ℕ → ℕ → ℕ → List ℕ
card_text kind card reason = kind ++ decimal card ++ codes " REASON " ++ decimal reason

-- the line of a refusal, without its end
abbrev pub refusal_line : Refusal → List ℕ
refusal_line (refusal.Deck card reason) = card_text (codes "DECK ") card reason
refusal_line (refusal.Asm card reason) = card_text (codes "ASM ") card reason
refusal_line (refusal.Codefile card reason byte) = card_text (codes "CODEFILE ") card reason ++ codes " BYTE " ++ decimal byte
refusal_line (refusal.Load card reason segment place) =
    card_text (codes "LOAD ") card reason ++ codes " SEGMENT " ++ decimal segment ++ codes " AT " ++ decimal place.word ++ codes ":" ++ decimal place.syllable
refusal_line (refusal.Bind pair reason) = card_text (codes "BIND ") pair reason

abbrev pub refusal_text : Refusal → List ℕ
refusal_text r = ended (refusal_line r)

-- ---- the last lines of calls, without their ends

abbrev pub no_core_line : ℕ → ℕ → List ℕ
no_core_line need core = codes "NO CORE " ++ decimal need ++ codes " " ++ decimal core

abbrev pub backing_full_line : ℕ → ℕ → List ℕ
backing_full_line sum sectors = codes "BACKING FULL " ++ decimal sum ++ codes " " ++ decimal sectors

abbrev pub backing_fault_line : List ℕ
backing_fault_line = codes "BACKING FAULT"

abbrev pub memory_line : List ℕ
memory_line = codes "NO MEMORY"

abbrev pub memory_text : List ℕ
memory_text = ended memory_line

abbrev pub reading_text : List ℕ
reading_text = ended (codes "READING FAULT")

-- ---- the words of a command

-- a path isn't empty and doesn't begin with a minus sign
abbrev pub is_path : List ℕ → Bool
is_path [] = false
is_path (b ∷ more) = not (b == 45)
