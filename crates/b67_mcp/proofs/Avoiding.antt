-- The words of a job in order name arrays of smaller identities than the next one.
use Rattle.std.proofs.Common.{◌≡◌, ◌≢◌, ℕ, ◌+◌, ◌<◌, ◌≤◌, List, [], ◌∷◌, ◌++◌, map, length, reverse, ◌∙◌, arith, inr}
use Rattle.std.specs.List.{AllByRecursion}
use Rattle.std.proofs.lemmas.List.{length-reverse}
use Rattle.b67_lemmas.specs.Lists.{Has, Falls}
use Rattle.b67_lemmas.proofs.Members.{all_from, all_in, falls_low, has_map, has_reverse_back}
use Rattle.b67_model.specs.Words as Words
use Rattle.b67_model.specs.Common.{Word, Operand, Name, Ref, Row, Element, Original, Proc, Intrinsic, Frame, Array, Segment, Task, JobConstants, Job, JobProgress, Starts, Known, known_of, outer_of, WordInOrder, FramesInOrder, EntryInOrder, DictionaryWords, rows_after, TaskInOrder}
use Rattle.b67_layout.specs.Orders.{JobInOrderButCounts}

-- a word that names no array of an identity
abbrev pub Avoids : ℕ → Word → Type 0
Avoids n (Row a) = a ≢ n
Avoids n (Element a index) = a ≢ n
Avoids n (Original a) = a ≢ n
Avoids n (Operand bits) = Unit {0}
Avoids n (Name couple) = Unit {0}
Avoids n (Ref frame offset) = Unit {0}
Avoids n (Proc segment level place) = Unit {0}
Avoids n (Intrinsic number) = Unit {0}
Avoids n (Words.Segment number) = Unit {0}

abbrev pub FramesAvoid : ℕ → List Frame → Type 0
FramesAvoid n fs = AllByRecursion (λ (f : Frame). AllByRecursion (Avoids n) f.cells) fs

-- a job whose words and arrays have no array of an identity
pub record JobAvoids (n : ℕ) (job : Job) : Type 0 where
  pub tasks : (t : Task) → Has job.tasks t → FramesAvoid n t.frames
  pub arrays : AllByRecursion (λ (a : Array). a.identity ≢ n) job.arrays

module _ (P : Starts) (arrays : List Array) (n : ℕ) (falls : Falls n (map (λ (a : Array). a.identity) arrays)) where
  smaller : (a : Array) → Has arrays a → a.identity < n
  smaller a h = falls_low n (map (λ (b : Array). b.identity) arrays) a.identity falls (has_map (λ (b : Array). b.identity) arrays a h)

  below : (a : Array) (i : ℕ) → Has arrays a → a.identity ≡ i → i < n
  below a i h e = omega (arith, smaller a h, e)

  other : (i : ℕ) → i < n → i ≢ n
  other i small e = omega (arith, small, e)

  word_avoids : (reach : List Known) (owner : ℕ) (w : Word) → WordInOrder P arrays reach owner w → Avoids n w
  word_avoids reach owner w g = grind (arith, below)

  words_avoid : (reach : List Known) (owner : ℕ) (ws : List Word) → AllByRecursion (WordInOrder P arrays reach owner) ws → AllByRecursion (Avoids n) ws
  words_avoid reach owner [] g = tt
  words_avoid reach owner (w ∷ ws) g = (word_avoids reach owner w g.0, words_avoid reach owner ws g.1)

  frames_avoid : (outer : List Known) (fs : List Frame) → FramesInOrder P arrays outer fs → FramesAvoid n fs
  frames_avoid outer [] g = tt
  frames_avoid outer (f ∷ fs) g = (words_avoid (map known_of (f ∷ fs) ++ outer) f.identity f.cells g.0.0, frames_avoid outer fs g.2)

-- the originals of a dictionary's data rows
row_there : (i k : ℕ) (ws : List Word) → rows_after i ws → i ≤ k → k < i + length ws → Has ws (Original k)
row_there i k [] g low high = absurd (omega (arith, low, high))
row_there i k (w ∷ ws) g low high = grind (arith, row_there (i + 1) k ws g.1)

entry_there : (g k : ℕ) (segments : List Segment) (ws : List Word) → DictionaryWords g segments ws → 1 ≤ k → k + length segments ≤ length ws → Has ws (Original k)
entry_there g k [] ws d low high = row_there 1 k ws d low (omega (arith, high))
entry_there g k (s ∷ more) [] d low high = absurd d
entry_there g k (s ∷ more) (w ∷ ws) d low high = inr (entry_there (g + 1) k more ws d.1 low (omega (arith, high)))

module _ (P : Starts) (constants : JobConstants) (c : JobProgress) (o : JobInOrderButCounts P constants c) where
  pub job_avoids : JobAvoids c.job.next_array c.job
  job_avoids = record {
    tasks = λ t h. frames_avoid P c.job.arrays c.job.next_array o.tasks.names (outer_of c.job t) t.frames (all_in (TaskInOrder P constants c.job) c.job.tasks t o.tasks.tasks h).frames;
    arrays = all_from (λ (a : Array). a.identity ≢ c.job.next_array) c.job.arrays (λ a h e. (let small = smaller P c.job.arrays c.job.next_array o.tasks.names a h in let z : ⊥ = omega (arith, small, e) in z));
  }

  pub row_avoids : (k : ℕ) → 1 ≤ k → k + length constants.segments ≤ length constants.dictionary.cells → k ≢ c.job.next_array
  row_avoids k low high e =
      let there = entry_there 1 k constants.segments (reverse constants.dictionary.cells) o.unchanging.dictionary low (omega (arith, high, length-reverse constants.dictionary.cells)) in
      let own = all_in (EntryInOrder c.job.arrays) constants.dictionary.cells (Original k) o.tasks.entries (has_reverse_back constants.dictionary.cells (Original k) there) in
      let z : ⊥ = omega (arith, below P c.job.arrays c.job.next_array o.tasks.names own.item k own.live own.named, e) in
      z
