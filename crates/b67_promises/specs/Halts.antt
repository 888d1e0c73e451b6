-- A deck that halts, what its image tells, and the same deck without its halt.
use Rattle.std.specs.Prelude.{ℕ, ◌≡◌, Option, List, [], ◌∷◌, ◌++◌, take, codes, decimal, ◌≢◌, ◌≤◌, true, length, Some, Result, Ok}
use Rattle.std.specs.Str.Lines.{lines}
use denote.Ref.{Bor}
use Rattle.b67_io.specs.Line.{ended}
use Rattle.b67_io.specs.Told.{Took}
use Rattle.b67_promises.specs.Paging.{texts, IsCutFrom}
use Rattle.std.specs.List.{flat_map, AllByRecursion}
use Rattle.b67_model.specs.Common.{RunLine, lines as lines_of, live_after, run_text}
use Rattle.b67_job.specs.Admitting.{Prepared, deck_prepared, run_of}
use Rattle.b67_task.specs.declared.tables.Machine.{Machine}
use Rattle.b67_layout_shown.specs.Machines.{RepresentsOne}
use Rattle.b67_session_lines.specs.Stops.{halted_line}
use Rattle.b67_image.specs.Text.{limit}
use Rattle.b67_image.specs.Parts.{parts_of}
use Rattle.b67_image.specs.Within.{ArePartsWithin}
use Rattle.b67_image.specs.Image.{image_text}
use Rattle.b67_image.specs.declared.fault.ImageFault.{ImageFault}
use Rattle.b67_image.specs.Meaning.{is_wanted, told_in, IsMeant}
use Rattle.b67_image.specs.Laws.{IsReadAs}

-- ---- images

-- no byte of it is a question mark or ends a line
abbrev pub HasNoMark : List ℕ → Type 0
HasNoMark text = AllByRecursion (λ (b : ℕ). (b ≢ 10) × (b ≢ 63)) text

-- a text of such lines, each with its end
pub record AreOtherLines (text : List ℕ) : Type 0 where
  pub each : List (List ℕ)
  pub is : text ≡ flat_map ended each
  pub other : AllByRecursion HasNoMark each

-- lines of a run are no cards of an image
abbrev pub LinesAreOther : Type 0
LinesAreOther = (printed : List RunLine) → AreOtherLines (run_text printed)

-- what `image` prints of a run that halts: the lines of the steps, the image, and the line of the halt
abbrev pub text_of_halt : List RunLine → Machine → ℕ → List ℕ
text_of_halt printed m count = run_text printed ++ (image_text m ++ ended (halted_line count))

-- A text is read as this machine: it tells the machine's parts, and if the machine represents a session, no answer to it is a
-- refusal
pub record IsReadIn (sectors : Option ℕ) (text : List ℕ) (m : Machine) : Type 0 where
  pub card : ℕ
  pub told : told_in sectors text ≡ Ok (card, parts_of m)
  pub taken : RepresentsOne m → (result : Result Machine ImageFault) → IsMeant result (told_in sectors text) → IsReadAs m result

-- that text is read as the machine, if its numbers are within their ranges, the text within the limit, and it has as many sectors as
-- are wanted
abbrev pub ImagesOfRunsAreRead : Type 0
ImagesOfRunsAreRead =
    (sectors : Option ℕ) (printed : List RunLine) (count : ℕ) (m : Machine) → ArePartsWithin (parts_of m) → is_wanted sectors (length (parts_of m).links) ≡ true → length (text_of_halt printed m count) ≤ limit
    → IsReadIn sectors (text_of_halt printed m count) m

-- Read over a device of so many sectors, a text tells the parts of the machine that a call has left, and no answer to it is a
-- refusal.
pub record IsReadBack (sectors : ℕ) (text : List ℕ) (machine : Option Machine) : Type 0 where
  pub m : Machine
  pub is : machine ≡ Some m
  pub card : ℕ
  pub told : told_in (Some sectors) text ≡ Ok (card, parts_of m)
  pub taken : (result : Result Machine ImageFault) → IsMeant result (told_in (Some sectors) text) → IsReadAs m result

-- ---- decks and calls

-- the first word is `image`
abbrev pub AsksForImage : List (Bor (List ℕ)) → Type 0
AsksForImage words = take 1 (texts words) ≡ codes "image" ∷ []

-- the words are `image --core N --backing` and a path
abbrev pub AsksForImageIn : ℕ → List (Bor (List ℕ)) → Type 0
AsksForImageIn core words = take 4 (texts words) ≡ codes "image" ∷ codes "--core" ∷ decimal core ∷ codes "--backing" ∷ []

-- the first word is `resume`
abbrev pub AsksForResume : List (Bor (List ℕ)) → Type 0
AsksForResume words = take 1 (texts words) ≡ codes "resume" ∷ []

-- Two texts have the same lines, but that one of the first is a ?HALT card, and an empty line, which is no card, stands in its place.
pub record DifferInHalt (bytes other : List ℕ) : Type 0 where
  pub front : List (List ℕ)
  pub count : List ℕ
  pub rest : List (List ℕ)
  pub is : lines bytes ≡ front ++ (codes "?HALT" ++ count) ∷ rest
  pub other_is : lines other ≡ front ++ [] ∷ rest

-- What a halted run printed is lines, none with a question mark, and then an image and more. These lines and what the resumed
-- run printed are together the whole text.
pub record PrintTogether (halted resumed whole : List ℕ) : Type 0 where
  pub front : List ℕ
  pub rest : List ℕ
  pub halts : halted ≡ front ++ (ended (codes "?IMAGE") ++ rest)
  pub other : AreOtherLines front
  pub together : whole ≡ front ++ resumed

-- the printers of two runs have taken such texts, the first of which is known
pub record ResumePrints {L M : Type 0} (halted : List ℕ) (taken : L → Option (List ℕ)) (old new : L) (taken' : M → Option (List ℕ)) (old' new' : M) : Type 0 where
  pub resumed : List ℕ
  pub whole : List ℕ
  pub printed : Took taken old new resumed
  pub printed' : Took taken' old' new' whole
  pub parts : PrintTogether halted resumed whole

-- The same where the resumed run has stopped in any way: these lines and what it printed are a beginning of the whole text, and at
-- most one line.
pub record ResumeBegins {L M : Type 0} (halted : List ℕ) (taken : L → Option (List ℕ)) (old new : L) (taken' : M → Option (List ℕ)) (old' new' : M) : Type 0 where
  pub resumed : List ℕ
  pub whole : List ℕ
  pub printed : Took taken old new resumed
  pub printed' : Took taken' old' new' whole
  pub front : List ℕ
  pub rest : List ℕ
  pub halts : halted ≡ front ++ (ended (codes "?IMAGE") ++ rest)
  pub other : AreOtherLines front
  pub begins : IsCutFrom whole (front ++ resumed)

-- A halted run of this deck printed this text, and now a printer took the rest. The steps of the deck's session, which its halt
-- doesn't change, come to the end of all tasks, and their lines are those of the halted run and the rest together.
pub record PrintsTheRest {L : Type 0} (bytes halted : List ℕ) (taken : L → Option (List ℕ)) (old new : L) : Type 0 where
  pub p : Prepared
  pub deck : deck_prepared bytes ≡ Ok p
  pub steps : ℕ
  pub over : live_after steps (run_of p).session ≡ 0
  pub resumed : List ℕ
  pub printed : Took taken old new resumed
  pub parts : PrintTogether halted resumed (run_text (lines_of steps (run_of p).session))
