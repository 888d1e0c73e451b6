-- What is printed on cards: the programs that it holds, and decks that hold it.
use Rattle.std.specs.Prelude.{ℕ, ◌≡◌, ◌<◌, ◌⊎◌, List, [], ◌∷◌, ◌++◌, take, codes, get_or, Option, Ok}
use Rattle.std.specs.List.{AllByRecursion}
use Rattle.std.specs.Str.Lines.{lines}
use denote.Ref.{Bor}
use Rattle.b67_io.specs.Told.{Took}
use Rattle.b67_promises.specs.Paging.{texts}
use Rattle.b67_model.specs.Program.{Program}
use Rattle.b67_model_text.specs.declared.deck.Deck.{Deck}
use Rattle.b67_model_text.specs.declared.deck.Body.TheVariants.{Bytes}
use Rattle.b67_codefile.specs.declared.file.Codefile.{Codefile}
use Rattle.b67_codefile.specs.Reading.{file_of}
use Rattle.b67_codefile.specs.Spelling.{spelling, IsWithin}
use Rattle.b67_job.specs.Admitting.{deck_prepared, program_in}
use Rattle.b67_job.specs.Verdicts.{codefile_of}
use Rattle.b67_session.specs.Decks.{session_of}

-- the one word is `asm`
abbrev pub AsksForAsm : List (Bor (List ℕ)) → Type 0
AsksForAsm words = texts words ≡ codes "asm" ∷ []

-- the one word is `convert`
abbrev pub AsksForConvert : List (Bor (List ℕ)) → Type 0
AsksForConvert words = texts words ≡ codes "convert" ∷ []

-- the first word is `bind`
abbrev pub AsksForBind : List (Bor (List ℕ)) → Type 0
AsksForBind words = take 1 (texts words) ≡ codes "bind" ∷ []

-- the one word is `check`
abbrev pub AsksForCheck : List (Bor (List ℕ)) → Type 0
AsksForCheck words = texts words ≡ codes "check" ∷ []

-- the line is a command of a deck
abbrev pub BeginsCommand : List ℕ → Type 0
BeginsCommand line = take 1 line ≡ codes "?"

-- Two texts have the same lines, but for the body of one job, which ends before a command. In the one text it is a source, behind
-- the line `head`; in the other it is what was printed of the source, behind ?HEX.
pub record HoldPrinted (head bytes other source printed : List ℕ) : Type 0 where
  pub front : List (List ℕ)
  pub next : List ℕ
  pub rest : List (List ℕ)
  pub is : lines bytes ≡ front ++ (head ∷ (lines source ++ next ∷ rest))
  pub other_is : lines other ≡ front ++ (codes "?HEX" ∷ (lines printed ++ next ∷ rest))
  pub ends : BeginsCommand next

-- Two texts have the same lines, but for the body of one job: in the one any lines, none of which is a command, behind ?ASM or ?HEX;
-- in the other what was printed, behind ?HEX. The body ends before a command.
pub record HoldsInstead (bytes other printed : List ℕ) : Type 0 where
  pub front : List (List ℕ)
  pub head : List ℕ
  pub body : List (List ℕ)
  pub next : List ℕ
  pub rest : List (List ℕ)
  pub is : lines bytes ≡ front ++ (head ∷ (body ++ next ∷ rest))
  pub other_is : lines other ≡ front ++ (codes "?HEX" ∷ (lines printed ++ next ∷ rest))
  pub begins : (head ≡ codes "?ASM") ⊎ (head ≡ codes "?HEX")
  pub plain : AllByRecursion (λ (line : List ℕ). BeginsCommand line → ⊥) body
  pub ends : BeginsCommand next

-- a call of `check` accepts its deck, or memory was refused to it
pub data IsTakenText (status : ℕ) : Type 0 where
  accepted : status ≡ 0 → IsTakenText status
  memory_wanted : status ≡ 9 → IsTakenText status

-- it accepts its deck, and prints the text that another call printed; or memory was refused to it
pub data IsAcceptedAlike {K L : Type 0} (taken : K → Option (List ℕ)) (old new : K) (taken' : L → Option (List ℕ)) (old' new' : L) (status : ℕ) : Type 0 where
  accepted_alike : (text : List ℕ) → status ≡ 0 → Took taken old new text → Took taken' old' new' text → IsAcceptedAlike taken old new taken' old' new' status
  memory_wanted_alike : status ≡ 9 → IsAcceptedAlike taken old new taken' old' new' status

-- the bytes of a program's codefile, in either version, are read back as that program
abbrev pub CodefilesHoldPrograms : Type 0
CodefilesHoldPrograms = (version card : ℕ) (p : Program) → IsWithin (codefile_of version p) → program_in card (Bytes (spelling (codefile_of version p))) ≡ Ok p

-- what `convert` makes of the bytes of a codefile, that of version 2 with the same segments and rows, holds the same program
abbrev pub ConvertingKeepsPrograms : Type 0
ConvertingKeepsPrograms =
    (card : ℕ) (bytes : List ℕ) (f : Codefile) → ((i : ℕ) → get_or bytes i 0 < 256) → file_of bytes ≡ Ok f → program_in card (Bytes (spelling (record f { version = 2 }))) ≡ program_in card (Bytes bytes)

-- the decks of two texts, with their programs, open one session and have one halt, whatever gives their programs
pub record DecksOpenOneSession (bytes other : List ℕ) : Type 0 where
  pub d : Deck
  pub ps : List Program
  pub e : Deck
  pub qs : List Program
  pub is : deck_prepared bytes ≡ Ok (d, ps)
  pub other_is : deck_prepared other ≡ Ok (e, qs)
  pub same : session_of e qs ≡ session_of d ps
  pub halt : e.halt ≡ d.halt
