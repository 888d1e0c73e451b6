-- Names by place: each live activation record has its own, and its spot is read as its name.
use Rattle.std.proofs.Common.{◌≡◌, ◌≢◌, ℕ, ◌≤◌, ◌==◌, List, [], ◌∷◌, ◌++◌, map, Option, Some, None, refl, sym, ◌∙◌, ap, subst, arith, inl, inr}
use Rattle.std.specs.Prelude.{if◌then◌else◌}
use Rattle.b67_lemmas.specs.Lists.{Has, total, Falls}
use Rattle.b67_lemmas.proofs.Members.{falls_low, all_in, total_has}
use Rattle.b67_model.specs.Common.{Frame, JobConstants, Task, Job, height, Starts, Known, known_of, known_numbers, identities, frames_named, TasksInOrder}
use Rattle.b67_law.proofs.Replaced.{numbers_append, has_counts}
use Rattle.b67_layout_shown.specs.Places.{named, or_else, name_under, name_among}
use Rattle.b67_layout_shown.proofs.Frames.{Named}

-- ---- lists of frames

-- what falls in front of another list falls
falls_front : (bound : ℕ) (xs ys : List ℕ) → Falls bound (xs ++ ys) → Falls bound xs
falls_front bound [] ys f = tt
falls_front bound (x ∷ xs) ys f = (f.0, falls_front x xs ys f.1)

pub numbers-known : (fs : List Frame) → known_numbers (map known_of fs) ≡ identities fs
numbers-known [] = refl
numbers-known (f ∷ below) = ap (λ ns. f.identity ∷ ns) (numbers-known below)

-- the identities of a task's own frames fall
own_falls : (bound : ℕ) (fs : List Frame) (outer : List Known) → Falls bound (known_numbers (map known_of fs ++ outer)) → Falls bound (identities fs)
own_falls bound fs outer h = grind (arith, numbers-known, falls_front, numbers_append)

-- a task's frames are named by their own places
Under : ℕ → List Frame → List Frame → Type 0
Under number whole [] = Unit {0}
Under number whole (f ∷ below) = (name_under number whole f.identity ≡ Some (named number (height below))) × Under number whole below

under_all : (number : ℕ) (whole : List Frame) (bound : ℕ) (fs : List Frame) → Falls bound (identities fs) → ((n : ℕ) → Has (identities fs) n → name_under number whole n ≡ name_under number fs n) → Under number whole fs
unfolding Under
under_all number whole bound [] falls same = tt
under_all number whole bound (f ∷ below) falls same = grind (arith, falls_low, under_all number whole f.identity below falls.1)

-- ---- tasks

under_none : (number identity : ℕ) (fs : List Frame) → frames_named identity fs ≡ 0 → name_under number fs identity ≡ None
under_none number identity [] h = refl
under_none number identity (f ∷ below) h = grind (arith, under_none number identity below)

pub some_counts : (identity : ℕ) (fs : List Frame) → Has (identities fs) identity → 1 ≤ frames_named identity fs
some_counts identity fs h = has_counts identity fs (subst (λ (ns : List ℕ). Has ns identity) (sym (numbers-known fs)) h)

-- where no two live frames have an identity, that of a task's frame is found in that task
among_is : (identity n : ℕ) (tasks : List Task) (t : Task) → Has tasks t → Has (identities t.frames) identity → name_under t.number t.frames identity ≡ Some n
    → total (λ (u : Task). frames_named identity u.frames) tasks ≤ 1 → name_among tasks identity ≡ n
among_is identity n [] t there h e once = absurd there
among_is identity n (u ∷ more) t (inl same) h e once = grind arith
among_is identity n (u ∷ more) t (inr there) h e once =
    let one = some_counts identity t.frames h in
    let all = total_has (λ (u : Task). frames_named identity u.frames) more t there in
    ap (λ (o : Option ℕ). or_else o (name_among more identity)) (under_none u.number identity u.frames (omega (arith, one, all, once)))
    ∙ among_is identity n more t there h e (omega (arith, once))

-- of an identity that no live frame has the name is the dictionary's or the MCP's
pub among_none : (identity : ℕ) (tasks : List Task) → ((t : Task) → Has tasks t → frames_named identity t.frames ≡ 0) → name_among tasks identity ≡ (if identity == 1 then 1 else 0)
among_none identity [] none = refl
among_none identity (u ∷ more) none = grind (arith, under_none, among_none identity more)

named_tail : (tasks : List Task) (t : Task) → Has tasks t → ((identity : ℕ) → total (λ (u : Task). frames_named identity u.frames) tasks ≤ 1)
    → (fs : List Frame) → ((n : ℕ) → Has (identities fs) n → Has (identities t.frames) n) → Under t.number t.frames fs → Named (name_among tasks) t.number fs
unfolding Under
named_tail tasks t there once [] inside under = tt
named_tail tasks t there once (f ∷ below) inside under = grind (arith, among_is, named_tail tasks t there once below)

-- the frames of a live task are named by their places
pub named_frames : (P : Starts) (constants : JobConstants) (job : Job) (t : Task) → TasksInOrder P constants job → Has job.tasks t → Named (name_among job.tasks) t.number t.frames
named_frames P constants job t order there = grind (arith, all_in, named_tail, under_all, own_falls)
