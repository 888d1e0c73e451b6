-- What the loader makes: the words, marks and returns of an opening state.
use Rattle.std.specs.Prelude.{◌≡◌, ◌↔◌, ℕ, ◌<◌, ◌≤◌, List, [], length, None}
use Rattle.b67_lemmas.specs.Lists.{Has}
use Rattle.b67_model.specs.Words as Words
use Rattle.b67_model.specs.Common.{Word, Operand, Name, Ref, Row, Element, Original, Proc, Intrinsic, Frame, Entered, Task, SessionJob, Program, Switch}
use Rattle.b67_law.specs.Opening.{Opening, opening}

-- the words that the loader makes of a program: one for each segment, and an original for each data row
abbrev pub LoaderMakes : Program → Word → Type 0
LoaderMakes p (Operand bits) = ⊥
LoaderMakes p (Name couple) = ⊥
LoaderMakes p (Ref frame offset) = ⊥
LoaderMakes p (Row array) = ⊥
LoaderMakes p (Element array index) = ⊥
LoaderMakes p (Original array) = (0 < array) × (array ≤ length p.rows)
LoaderMakes p (Proc segment level place) = ⊥
LoaderMakes p (Intrinsic number) = ⊥
LoaderMakes p (Words.Segment number) = (0 < number) × (number ≤ length p.segments)

-- a job as the loader makes it: the words of its dictionary, and no other; the dictionary's mark; and the mark of the
-- outer block's frame, which has no return
pub record MadeByLoader (p : Program) (m : SessionJob) : Type 0 where
  pub dictionary : (w : Word) → Has m.constants.dictionary.cells w ↔ LoaderMakes p w
  pub dictionary_mark : m.constants.dictionary.standing ≡ Entered 1 0 None
  pub outer_block : (t : Task) (f : Frame) → Has m.progress.job.tasks t → Has t.frames f → f.identity ≡ 2
  pub no_words : (t : Task) (f : Frame) → Has m.progress.job.tasks t → Has t.frames f → f.cells ≡ []
  pub mark : (t : Task) (f : Frame) → Has m.progress.job.tasks t → Has t.frames f → f.standing ≡ Entered 2 1 None

-- the program of one of the openings
pub record OpenedByLoader (openings : List Opening) (m : SessionJob) : Type 0 where
  pub opens : Opening
  pub among : Has openings opens
  pub made : MadeByLoader opens.program m

-- each job of an opening state
abbrev pub OpeningsMadeByLoader : Type 0
OpeningsMadeByLoader =
    (stack quantum : ℕ) (switches : List Switch) (openings : List Opening) (m : SessionJob) → Has (opening stack quantum switches openings).jobs m → OpenedByLoader openings m
