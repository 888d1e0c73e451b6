-- Each item of the order, by another object that a place must be and by other arrays that are named alike.
use Rattle.std.proofs.Common.{◌≡◌, ℕ, ◌≤◌, List, [], ◌∷◌, ◌++◌, map, Option, Some, None, refl, sym, ◌∙◌, ap, subst, arith}
use Rattle.std.specs.List.{AllByRecursion}
use Rattle.b67_word.specs.declared.couples.Place.{Place}
use Rattle.b67_model.specs.Keyed.{keyed}
use Rattle.b67_lemmas.specs.Lists.{Falls}
use Rattle.b67_model.specs.Words as Words
use Rattle.b67_model.specs.Common.{Word, Operand, Name, Ref, Row, Element, Original, Proc, Intrinsic, Frame, Standing, Marked, Entered, Array, Task, JobConstants, Job, height, Starts, Known, known_of, known_numbers, from_frame, frames_of_task, critical_of, outer_reach, outer_of, reach_of, NamesArray, OwnsArray, WordInOrder, FramesInOrder, ReturnsInOrder, StackInOrder, BirthInOrder, ConditionInOrder, TaskInOrder}

module _ (P Q : Starts) (up : (segment level : ℕ) (place : Place) → P segment level place → Q segment level place) where
  returns_up : (s : Standing) (below : List Frame) → ReturnsInOrder P s below → ReturnsInOrder Q s below
  returns_up s below h = grind arith

  stack_up : (fs : List Frame) → StackInOrder P fs → StackInOrder Q fs
  stack_up [] h = h
  stack_up (f ∷ below) h = (returns_up f.standing below h.0, stack_up below h.1)

  module _ (old new : List Array) (names : (reach : List Known) (a : ℕ) → NamesArray old reach a → NamesArray new reach a) (owns : (owner a : ℕ) → OwnsArray old owner a → OwnsArray new owner a) where
    word_up : (reach : List Known) (owner : ℕ) (w : Word) → WordInOrder P old reach owner w → WordInOrder Q new reach owner w
    word_up reach owner w h = grind arith

    words_up : (reach : List Known) (owner : ℕ) (ws : List Word) → AllByRecursion (WordInOrder P old reach owner) ws → AllByRecursion (WordInOrder Q new reach owner) ws
    words_up reach owner [] h = h
    words_up reach owner (w ∷ ws) h = (word_up reach owner w h.0, words_up reach owner ws h.1)

    frames_up : (outer : List Known) (fs : List Frame) → FramesInOrder P old outer fs → FramesInOrder Q new outer fs
    frames_up outer [] h = h
    frames_up outer (f ∷ below) h = ((words_up (map known_of (f ∷ below) ++ outer) f.identity f.cells h.0.0, h.0.1), h.1, frames_up outer below h.2)

outer_same : (job job' : Job) → job'.tasks ≡ job.tasks → (c : ℕ) (parents : List ℕ) → outer_reach job' c parents ≡ outer_reach job c parents
outer_same job job' e c [] = refl
outer_same job job' e c (parent ∷ more) = grind arith

birth_same : (job job' : Job) → job'.tasks ≡ job.tasks → (t : Task) (parents : List ℕ) → BirthInOrder job t parents → BirthInOrder job' t parents
birth_same job job' e t parents h = grind arith

pub task_up : (P Q : Starts) (up : (segment level : ℕ) (place : Place) → P segment level place → Q segment level place)
    (constants setting' : JobConstants) (job job' : Job) → job'.tasks ≡ job.tasks → job'.next_frame ≡ job.next_frame → setting'.stack_size ≡ constants.stack_size
    → (names : (reach : List Known) (a : ℕ) → NamesArray job.arrays reach a → NamesArray job'.arrays reach a) (owns : (owner a : ℕ) → OwnsArray job.arrays owner a → OwnsArray job'.arrays owner a)
    → (t : Task) → TaskInOrder P constants job t → TaskInOrder Q setting' job' t
task_up P Q up constants setting' job job' tasks next size names owns t h = grind (arith, frames_up, stack_up)
