-- Where the marks of frames are: what the changes of frames keep of it.
use Rattle.std.proofs.Common.{◌≡◌, ◌≢◌, ℕ, List, [], ◌∷◌, map, Some, refl, sym, ◌∙◌, ap, arith, inl, inr}
use Rattle.std.specs.Prelude.{◌==◌, if◌then◌else◌}
use Rattle.std.proofs.lemmas.Bool.{cases_Bool}
use Rattle.std.proofs.lemmas.List.{length-reverse}
use Rattle.std.proofs.Math.ListN.{length-set}
use Rattle.b67_model.specs.Common.{Word, Standing, Frame, Task, height, words_of, with_top_cells, below_top, top, with_cell_of, from_frame}
use Rattle.b67_model.specs.Keyed.{keyed, change_keyed}
use Rattle.b67_law.specs.Profiles.{profile}

-- the identity of each frame, and how high its mark stands
abbrev pub At : Type 0
At = ℕ × ℕ

abbrev pub places : List Frame → List At
places [] = []
places (f ∷ below) = (f.identity, height below) ∷ places below

pub top_from : (c : ℕ) (fs : List Frame) (cells : List Word) → places (from_frame c (with_top_cells fs cells)) ≡ places (from_frame c fs)
top_from c fs cells = grind arith

-- the frames below the top one, which has another identity
pub drop_from : (c : ℕ) (fs : List Frame) → (fs ≢ [] → (top fs).identity ≢ c) → from_frame c (below_top fs) ≡ from_frame c fs
drop_from c fs ne = grind arith

pub enter_from : (c : ℕ) (fs : List Frame) (standing : Standing) (cells : List Word) → fs ≢ [] → places (from_frame c (record (top fs) { standing = standing; cells = cells } ∷ below_top fs)) ≡ places (from_frame c fs)
enter_from c fs standing cells some = grind arith

-- a store leaves each frame its identity and its length
stored_length : (offset : ℕ) (w : Word) (f : Frame) → words_of (with_cell_of offset w f) ≡ words_of f
stored_length offset w f = grind (arith, length-reverse, length-set)

abbrev stored : ℕ → ℕ → Word → List Frame → List Frame
stored identity offset w fs = change_keyed (λ (f : Frame). f.identity) identity (with_cell_of offset w) fs

stored_height : (identity offset : ℕ) (w : Word) (fs : List Frame) → height (stored identity offset w fs) ≡ height fs
stored_height identity offset w [] = refl
stored_height identity offset w (f ∷ below) = grind (arith, stored_length, stored_height identity offset w below)

pub stored_places : (identity offset : ℕ) (w : Word) (fs : List Frame) → places (stored identity offset w fs) ≡ places fs
stored_places identity offset w [] = refl
stored_places identity offset w (f ∷ below) = grind (arith, stored_height, stored_places identity offset w below)

-- what is seen from a frame down depends on these alone
abbrev pub from_places : ℕ → List At → List At
from_places c [] = []
from_places c (p ∷ ps) = if p.0 == c then p ∷ ps else from_places c ps

pub from_are : (c : ℕ) (fs : List Frame) → places (from_frame c fs) ≡ from_places c (places fs)
from_are c [] = refl
from_are c (f ∷ below) = elim (cases_Bool (f.identity == c)) [ inl e ↦ rw e refl | inr e ↦ rw e (from_are c below) ]

pub stored_from : (c identity offset : ℕ) (w : Word) (fs : List Frame) → places (from_frame c (stored identity offset w fs)) ≡ places (from_frame c fs)
stored_from c identity offset w fs = from_are c (stored identity offset w fs) ∙ ap (from_places c) (stored_places identity offset w fs) ∙ sym (from_are c fs)

-- what a task that makes no operator keeps
pub record IsAlike (u v : Task) : Type 0 where
  pub segment : v.segment ≡ u.segment
  pub place : v.place ≡ u.place
  pub frames : places v.frames ≡ places u.frames

-- what an operator of the task of a number leaves of each task, where others depend on frames of D
pub record Same (D : ℕ → Type 0) (n : ℕ) (u v : Task) : Type 0 where
  pub profile : profile v ≡ profile u
  pub from : (c : ℕ) → D c → places (from_frame c v.frames) ≡ places (from_frame c u.frames)
  pub other : u.number ≢ n → IsAlike u v

abbrev pub AllSame : (ℕ → Type 0) → ℕ → List Task → List Task → Type 0
AllSame D n [] [] = Unit {0}
AllSame D n (u ∷ us) (v ∷ vs) = Same D n u v × AllSame D n us vs
AllSame D n _ _ = ⊥

pub all_same : (D : ℕ → Type 0) (n : ℕ) (us : List Task) → AllSame D n us us
all_same D n [] = tt
all_same D n (u ∷ us) = (record { profile = refl; from = λ c d. refl; other = λ ne. record { segment = refl; place = refl; frames = refl } }, all_same D n us)

-- another task in the place of the one of the number
pub put : (D : ℕ → Type 0) (n : ℕ) (t v : Task) → Same D n t v → (us vs : List Task) → AllSame D n us vs → keyed (λ (u : Task). u.number) n us ≡ Some t
    → AllSame D n us (change_keyed (λ (u : Task). u.number) n (λ (u : Task). v) vs)
put D n t v s [] [] a e = tt
put D n t v s [] (y ∷ vs) a e = absurd a
put D n t v s (u ∷ us) [] a e = absurd a
put D n t v s (u ∷ us) (y ∷ vs) a e = grind (arith, put D n t v s us vs a.1)

-- a store into any task's frame
pub store_same : (D : ℕ → Type 0) (n identity offset : ℕ) (w : Word) (us vs : List Task) → AllSame D n us vs
    → AllSame D n us (map (λ (t : Task). record t { frames = stored identity offset w t.frames }) vs)
store_same D n identity offset w [] [] a = tt
store_same D n identity offset w [] (y ∷ vs) a = absurd a
store_same D n identity offset w (u ∷ us) [] a = absurd a
store_same D n identity offset w (u ∷ us) (y ∷ vs) a = grind (arith, stored_from, stored_places, store_same D n identity offset w us vs a.1)
