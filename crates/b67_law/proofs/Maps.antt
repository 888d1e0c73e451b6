-- Changes of all tasks at once, which leave their frames but for operands: stores into cells, and who waits.
use Rattle.std.proofs.Common.{◌≡◌, ◌≢◌, ℕ, zero, suc, ◌-◌, ◌^◌, ◌<◌, Bool, true, false, eqb, List, [], ◌∷◌, ◌++◌, map, reverse, length, Some, None, refl, sym, ap, ◌∙◌, subst, inl, inr, ◌⊎◌, arith, slice_set}
use Rattle.std.specs.List.{slice_get}
use Rattle.std.proofs.lemmas.List.{reverse-reverse, length-map}
use Rattle.std.proofs.lemmas.Bool.Decides.{eqb_tells}
use Rattle.b67_model.specs.Keyed.{change_keyed}
use Rattle.b67_lemmas.specs.Lists.{Has, how_many, Falls}
use Rattle.b67_lemmas.proofs.Members.{all_from, all_in, has_map_back, keyed_has, keyed_map, map_map_key, reverse_cons, total_map, total_same}
use Rattle.b67_model.specs.Words as Words
use Rattle.b67_model.specs.Common.{Word, Operand, Name, Ref, Row, Element, Original, Proc, Intrinsic, Frame, Standing, Marked, Entered, Array, Ready, Task, JobConstants, Job, height, level_of_frame, running, running_from, with_cell_of, with_cell, Starts, Known, known_of, from_frame, outer_of, reach_of, known_numbers, identities, WordInOrder, StandsInOrder, is_copy_of, NoCopyUnder, CellsInOrder, FramesInOrder, StackInOrder, ReturnsInOrder, BirthInOrder, ConditionInOrder, TaskInOrder, is_original_of, originals_in, originals_of, frames_named, TasksInOrder}
use Rattle.b67_model.specs.Environment as Environment
use Rattle.b67_model.specs.State as State
use Rattle.b67_law.proofs.Reaches.{Alike, alike_same, Follows}
use Rattle.b67_law.proofs.Replaced.{birth_same, task_kept}

abbrev pub IsOperand : Word → Type 0
IsOperand (Operand bits) = Unit {0}
IsOperand _ = ⊥

abbrev IsShort : Word → Type 0
IsShort (Operand bits) = bits < 2 ^ 48
IsShort _ = ⊥

-- the same word, or an operand for an operand
abbrev SameWord : Word → Word → Type 0
SameWord w v = (w ≡ v) ⊎ (IsOperand w × IsShort v)

abbrev pub SameCells : List Word → List Word → Type 0
SameCells [] [] = Unit {0}
SameCells [] (v ∷ vs) = ⊥
SameCells (w ∷ ws) [] = ⊥
SameCells (w ∷ ws) (v ∷ vs) = SameWord w v × SameCells ws vs

same_refl : (ws : List Word) → SameCells ws ws
same_refl [] = tt
same_refl (w ∷ ws) = (inl refl, same_refl ws)

same_append : (ws vs xs ys : List Word) → SameCells ws vs → SameCells xs ys → SameCells (ws ++ xs) (vs ++ ys)
same_append [] [] xs ys a b = b
same_append [] (v ∷ vs) xs ys a b = absurd a
same_append (w ∷ ws) [] xs ys a b = absurd a
same_append (w ∷ ws) (v ∷ vs) xs ys a b = (a.0, same_append ws vs xs ys a.1 b)

same_reverse : (ws vs : List Word) → SameCells ws vs → SameCells (reverse ws) (reverse vs)
same_reverse [] [] a = tt
same_reverse [] (v ∷ vs) a = absurd a
same_reverse (w ∷ ws) [] a = absurd a
same_reverse (w ∷ ws) (v ∷ vs) a = rw (reverse_cons w ws, reverse_cons v vs) (same_append (reverse ws) (reverse vs) (w ∷ []) (v ∷ []) (same_reverse ws vs a.1) (a.0, tt))

same_set : (ws : List Word) (i bits : ℕ) → bits < 2 ^ 48 → ((w : Word) → slice_get ws i ≡ Some w → IsOperand w) → SameCells ws (slice_set ws i (Operand bits))
same_set [] i bits low at = tt
same_set (w ∷ ws) zero bits low at = (inr (at w refl, low), same_refl ws)
same_set (w ∷ ws) (suc i) bits low at = (inl refl, same_set ws i bits low at)

word_same : (P : Starts) (arrays : List Array) (reach : List Known) (owner : ℕ) (w v : Word) → SameWord w v → WordInOrder P arrays reach owner w → WordInOrder P arrays reach owner v
word_same P arrays reach owner w v s g = grind arith

-- what doesn't see operands
both_operands : {A : Type 0} (f : Word → A) (w v : Word) (none : A) → ((bits : ℕ) → f (Operand bits) ≡ none) → IsOperand w → IsShort v → f w ≡ f v
both_operands f w v none plain x y = grind arith

seen_same : {A : Type 0} (f : Word → A) (none : A) → ((bits : ℕ) → f (Operand bits) ≡ none) → (w v : Word) → SameWord w v → f w ≡ f v
seen_same f none plain w v s = elim s [ inl e ↦ ap f e | inr o ↦ both_operands f w v none plain o.0 o.1 ]

count_same : (test : Word → Bool) → ((bits : ℕ) → test (Operand bits) ≡ false) → (ws vs : List Word) → SameCells ws vs → how_many test ws ≡ how_many test vs
count_same test plain [] [] s = refl
count_same test plain [] (v ∷ vs) s = absurd s
count_same test plain (w ∷ ws) [] s = absurd s
count_same test plain (w ∷ ws) (v ∷ vs) s = let e = seen_same test false plain w v s.0 in rw e (omega (arith, count_same test plain ws vs s.1))

no_copy_same : (w v : Word) (ws vs : List Word) → SameWord w v → SameCells ws vs → NoCopyUnder w ws → NoCopyUnder v vs
no_copy_same w v ws vs s cells g = grind (arith, count_same)

cells_same : (P : Starts) (arrays : List Array) (reach : List Known) (owner : ℕ) (ws vs : List Word) → SameCells ws vs → CellsInOrder P arrays reach owner ws → CellsInOrder P arrays reach owner vs
cells_same P arrays reach owner [] [] s g = g
cells_same P arrays reach owner [] (v ∷ vs) s g = absurd s
cells_same P arrays reach owner (w ∷ ws) [] s g = absurd s
cells_same P arrays reach owner (w ∷ ws) (v ∷ vs) s g = grind (arith, no_copy_same, cells_same P arrays reach owner ws vs s.1 (g.0.1, g.1.1))

cells_length : (ws vs : List Word) → SameCells ws vs → length ws ≡ length vs
cells_length [] [] s = refl
cells_length [] (v ∷ vs) s = absurd s
cells_length (w ∷ ws) [] s = absurd s
cells_length (w ∷ ws) (v ∷ vs) s = ap suc (cells_length ws vs s.1)

pub record SameFrame (f g : Frame) : Type 0 where
  pub identity : f.identity ≡ g.identity
  pub standing : f.standing ≡ g.standing
  pub cells : SameCells f.cells g.cells

abbrev pub SameFrames : List Frame → List Frame → Type 0
SameFrames [] [] = Unit {0}
SameFrames [] (g ∷ gs) = ⊥
SameFrames (f ∷ fs) [] = ⊥
SameFrames (f ∷ fs) (g ∷ gs) = SameFrame f g × SameFrames fs gs

pub frames_refl : (fs : List Frame) → SameFrames fs fs
frames_refl [] = tt
frames_refl (f ∷ fs) = (record { identity = refl; standing = refl; cells = same_refl f.cells }, frames_refl fs)

frames_known : (fs gs : List Frame) → SameFrames fs gs → map known_of fs ≡ map known_of gs
frames_known [] [] s = refl
frames_known [] (g ∷ gs) s = absurd s
frames_known (f ∷ fs) [] s = absurd s
frames_known (f ∷ fs) (g ∷ gs) s = grind (arith, frames_known fs gs s.1)

from_same : (c : ℕ) (fs gs : List Frame) → SameFrames fs gs → SameFrames (from_frame c fs) (from_frame c gs)
from_same c [] [] s = tt
from_same c [] (g ∷ gs) s = absurd s
from_same c (f ∷ fs) [] s = absurd s
from_same c (f ∷ fs) (g ∷ gs) s = grind (arith, from_same c fs gs s.1)

frames_order : (P : Starts) (arrays : List Array) (outer : List Known) (fs gs : List Frame) → SameFrames fs gs → FramesInOrder P arrays outer fs → FramesInOrder P arrays outer gs
frames_order P arrays outer [] [] s o = tt
frames_order P arrays outer [] (g ∷ gs) s o = absurd s
frames_order P arrays outer (f ∷ fs) [] s o = absurd s
frames_order P arrays outer (f ∷ fs) (g ∷ gs) s o =
    let whole : map known_of (f ∷ fs) ++ outer ≡ map known_of (g ∷ gs) ++ outer = ap (λ ks. ks ++ outer) (frames_known (f ∷ fs) (g ∷ gs) s) in
    let under : map known_of fs ++ outer ≡ map known_of gs ++ outer = ap (λ ks. ks ++ outer) (frames_known fs gs s.1) in
    let words = cells_same P arrays (map known_of (f ∷ fs) ++ outer) f.identity f.cells g.cells s.0.cells o.0 in (
      subst (λ n. CellsInOrder P arrays (map known_of (g ∷ gs) ++ outer) n g.cells) s.0.identity (subst (λ reach. CellsInOrder P arrays reach f.identity g.cells) whole words),
      subst (StandsInOrder (map known_of gs ++ outer)) s.0.standing (subst (λ reach. StandsInOrder reach f.standing) under o.1),
      frames_order P arrays outer fs gs s.1 o.2,
    )

level_same : (s : Standing) (f g r q : Frame) → f.standing ≡ g.standing → level_of_frame r ≡ level_of_frame q → level_of_frame (running_from s f r) ≡ level_of_frame (running_from s g q)
level_same s f g r q a b = grind arith

running_same : (fs gs : List Frame) → SameFrames fs gs → level_of_frame (running fs) ≡ level_of_frame (running gs)
running_same [] [] s = refl
running_same [] (g ∷ gs) s = absurd s
running_same (f ∷ fs) [] s = absurd s
running_same (f ∷ fs) (g ∷ gs) s = level_same f.standing f g (running fs) (running gs) s.0.standing (running_same fs gs s.1) ∙ ap (λ t. level_of_frame (running_from t g (running gs))) s.0.standing

none_same : (fs gs : List Frame) → SameFrames fs gs → (fs ≡ [] → gs ≡ []) × (fs ≢ [] → gs ≢ [])
none_same [] [] s = (λ e. refl, λ n. n)
none_same [] (g ∷ gs) s = absurd s
none_same (f ∷ fs) [] s = absurd s
none_same (f ∷ fs) (g ∷ gs) s = (λ e. absurd (let z : ⊥ = cc in z), λ n. λ e. cc)

returns_same : (P : Starts) (s : Standing) (fs gs : List Frame) → SameFrames fs gs → ReturnsInOrder P s fs → ReturnsInOrder P s gs
returns_same P h fs gs s g = grind (arith, running_same)

stack_same : (P : Starts) (fs gs : List Frame) → SameFrames fs gs → StackInOrder P fs → StackInOrder P gs
stack_same P [] [] s o = tt
stack_same P [] (g ∷ gs) s o = absurd s
stack_same P (f ∷ fs) [] s o = absurd s
stack_same P (f ∷ fs) (g ∷ gs) s o = (subst (λ t. ReturnsInOrder P t gs) s.0.standing (returns_same P f.standing fs gs s.1 o.0), stack_same P fs gs s.1 o.1)

height_same : (fs gs : List Frame) → SameFrames fs gs → height fs ≡ height gs
height_same [] [] s = refl
height_same [] (g ∷ gs) s = absurd s
height_same (f ∷ fs) [] s = absurd s
height_same (f ∷ fs) (g ∷ gs) s = grind (arith, cells_length, height_same fs gs s.1)

named_same : (n : ℕ) (fs gs : List Frame) → SameFrames fs gs → frames_named n fs ≡ frames_named n gs
named_same n [] [] s = refl
named_same n [] (g ∷ gs) s = absurd s
named_same n (f ∷ fs) [] s = absurd s
named_same n (f ∷ fs) (g ∷ gs) s = rw s.0.identity (omega (arith, named_same n fs gs s.1))

originals_same : (n : ℕ) (fs gs : List Frame) → SameFrames fs gs → originals_in n fs ≡ originals_in n gs
originals_same n [] [] s = refl
originals_same n [] (g ∷ gs) s = absurd s
originals_same n (f ∷ fs) [] s = absurd s
originals_same n (f ∷ fs) (g ∷ gs) s = omega (arith, count_same (is_original_of n) (λ b. refl) f.cells g.cells s.0.cells, originals_same n fs gs s.1)

-- a task with the same frames, that waits no more or for the same as before
pub record SameTask (P : Starts) (t u : Task) : Type 0 where
  pub number : u.number ≡ t.number
  pub line : u.parents ≡ t.parents
  pub critical : u.critical ≡ t.critical
  pub segment : u.segment ≡ t.segment
  pub place : u.place ≡ t.place
  pub frames : SameFrames t.frames u.frames
  pub condition : (u.condition ≡ t.condition) ⊎ (u.condition ≡ Ready)

abbrev pub mapped : (Task → Task) → Job → Job
mapped change job = record job { tasks = map change job.tasks }

module _ (P : Starts) (constants : JobConstants) (job : Job) (change : Task → Task) (numbers : (t : Task) → (change t).number ≡ t.number)
    (each : (t : Task) → Has job.tasks t → SameTask P t (change t)) (g : TasksInOrder P constants job) where
  task_of : (t : Task) → Has job.tasks t → TaskInOrder P constants job t
  task_of t h = all_in (TaskInOrder P constants job) job.tasks t g.tasks h

  map_follows : Follows job (mapped change job) (λ n. Unit {0})
  map_follows n q lives e =
      let live = (keyed_has (λ t. t.number) n job.tasks q e).0 in
      let s = each q live in
      let known : (fs gs : List Frame) → SameFrames fs gs → Alike (map known_of fs) (map known_of gs) = λ fs gs same. subst (Alike (map known_of fs)) (frames_known fs gs same) (alike_same (map known_of fs)) in
      record {
        item = change q;
        found = keyed_map (λ (t : Task). t.number) n change job.tasks q numbers e;
        critical = s.critical;
        line = s.line;
        alike = λ t h. known (from_frame t.critical q.frames) (from_frame t.critical (change q).frames) (from_same t.critical q.frames (change q).frames s.frames);
        stays = λ t h k. subst (λ ns. Has ns t.critical) (ids q.frames (change q).frames s.frames) k;
      }
    where
      ids : (fs gs : List Frame) → SameFrames fs gs → identities fs ≡ identities gs
      ids [] [] s = refl
      ids [] (g ∷ gs) s = absurd s
      ids (f ∷ fs) [] s = absurd s
      ids (f ∷ fs) (g ∷ gs) s = ap (λ n. n ∷ identities fs) s.0.identity ∙ ap (λ ns. g.identity ∷ ns) (ids fs gs s.1)

  map_task : (t : Task) → Has job.tasks t → TaskInOrder P constants (mapped change job) (change t)
  map_task t h =
      let s = each t h in
      let own = task_of t h in
      let kept : TaskInOrder P constants (mapped change job) t = task_kept P constants job (mapped change job) (λ n. Unit {0}) map_follows (λ u k. (task_of u k).birth) (omega arith) t h (λ n k. tt)
      (λ a k at. record { item = a; live = k; named = refl; owned = refl }) own in
      grind (arith, frames_known, frames_order, stack_same, height_same, running_same, birth_same)

  each_task : (u : Task) → Has (map change job.tasks) u → TaskInOrder P constants (mapped change job) u
  each_task u h = let r = has_map_back change job.tasks u h in subst (TaskInOrder P constants (mapped change job)) r.is (map_task r.item r.among)

  pub map_good : TasksInOrder P constants (mapped change job)
  map_good = record {
    tasks = all_from (TaskInOrder P constants (mapped change job)) (map change job.tasks) each_task;
    apart = λ n. rw (total_map change (λ (t : Task). frames_named n t.frames) job.tasks)
        (rw (sym (total_same (λ (t : Task). frames_named n t.frames) (λ (t : Task). frames_named n (change t).frames) job.tasks (λ t h. named_same n t.frames (change t).frames (each t h).frames))) (g.apart n));
    arrays = g.arrays;
    once = all_from (λ (a : Array). originals_of a.identity constants (mapped change job) ≡ 1) job.arrays (λ a k.
        rw (total_map change (λ (t : Task). originals_in a.identity t.frames) job.tasks)
        (rw (sym (total_same (λ (t : Task). originals_in a.identity t.frames) (λ (t : Task). originals_in a.identity (change t).frames) job.tasks (λ t h. originals_same a.identity t.frames (change t).frames (each t h).frames)))
        (all_in (λ (x : Array). originals_of x.identity constants job ≡ 1) job.arrays a g.once k)));
    entries = g.entries;
    numbers = rw (map_map_key (λ (t : Task). t.number) change job.tasks numbers) g.numbers;
    names = g.names;
    few = rw (length-map job.tasks change) g.few;
    reads = g.reads;
  }

-- a store into a cell of the first frame of an identity
frame_stored : (offset bits : ℕ) (f : Frame) → bits < 2 ^ 48 → ((w : Word) → slice_get (reverse f.cells) (offset - 2) ≡ Some w → IsOperand w) → SameFrame f (with_cell_of offset (Operand bits) f)
frame_stored offset bits f low at = record {
  identity = refl;
  standing = refl;
  cells = subst (λ ws. SameCells ws (reverse (slice_set (reverse f.cells) (offset - 2) (Operand bits)))) (reverse-reverse f.cells) (same_reverse (reverse f.cells) (slice_set (reverse f.cells) (offset - 2) (Operand bits)) (same_set (reverse f.cells) (offset - 2) bits low at));
}

abbrev pub HoldsOperand : Job → ℕ → ℕ → Type 0
HoldsOperand job n offset = (t : Task) → Has job.tasks t → (f : Frame) → Has t.frames f → f.identity ≡ n → (w : Word) → slice_get (reverse f.cells) (offset - 2) ≡ Some w → IsOperand w

frames_stored : (n offset bits : ℕ) (fs : List Frame) → bits < 2 ^ 48 → ((f : Frame) → Has fs f → f.identity ≡ n → (w : Word) → slice_get (reverse f.cells) (offset - 2) ≡ Some w → IsOperand w) →
    SameFrames fs (change_keyed (λ f. f.identity) n (with_cell_of offset (Operand bits)) fs)
frames_stored n offset bits [] low at = tt
frames_stored n offset bits (f ∷ fs) low at = elim (eqb_tells f.identity n) [
  | inl e ↦ rw e.0 (frame_stored offset bits f low (at f (inl refl) e.1), frames_refl fs)
  | inr e ↦ rw e.0 (record { identity = refl; standing = refl; cells = same_refl f.cells }, frames_stored n offset bits fs low (λ g h. at g (inr h)))
]

pub cell_stored : (P : Starts) (constants : JobConstants) (job : Job) (n offset bits : ℕ) → bits < 2 ^ 48 → HoldsOperand job n offset → TasksInOrder P constants job → TasksInOrder P constants (with_cell job n offset (Operand bits))
cell_stored P constants job n offset bits low at g = map_good P constants job (λ (t : Task). record t { frames = change_keyed (λ f. f.identity) n (with_cell_of offset (Operand bits)) t.frames }) (λ t. refl)
    (λ t h. record { number = refl; line = refl; critical = refl; segment = refl; place = refl; frames = frames_stored n offset bits t.frames low (at t h); condition = inl refl }) g
