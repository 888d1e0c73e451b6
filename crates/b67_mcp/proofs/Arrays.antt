-- A call that answers with the original of a new array.
use Rattle.std.proofs.Common.{◌≡◌, ◌≢◌, ℕ, zero, suc, ◌+◌, ◌<◌, ◌≤◌, ◌^◌, List, [], ◌∷◌, length, refl, sym, ◌∙◌, ap, arith, false, inl, inr, subst, replicate}
use Rattle.std.proofs.lemmas.List.{length-replicate}
use Rattle.std.proofs.lemmas.Bool.{eq-eqb}
use Rattle.std.proofs.lemmas.Option.{same_Some}
use Rattle.b67_word.specs.Tagged.{Tagged}
use Rattle.b67_word.specs.declared.couples.Place.{Place}
use Rattle.b67_area.specs.declared.Kind.TheVariants.{Array}
use Rattle.b67_ctl.specs.Descriptors.{data_word}
use Rattle.b67_lemmas.specs.Lists.{Has}
use Rattle.b67_lemmas.proofs.Members.{change_twice, keyed_has}
use Rattle.b67_model.specs.Common.{Original, Frame, Task, SessionJob, below_top, number_of, Session, answered, IsSegment}
use Rattle.b67_model.specs.Keyed.{keyed}
use Rattle.b67_layout.specs.Common.{JobInOrderButCounts, IsInOrderButCounts, Placement, IsRunning, RepresentsSession, here, with_job}
use Rattle.b67_stack.specs.declared.Cpu.{Cpu}
use Rattle.b67_stack.specs.Common.{IsOriginal, nowhere, AreZero, home_desc, home_word_of, Storage, pushed}
use Rattle.b67_layout.proofs.Common.{running_in_order, change-has, with_job-twice}
use Rattle.b67_mcp.specs.Printed.{MayCut, job_cut}
use Rattle.b67_mcp.specs.Declaring.{storage_without, with_home, new_array, job_declared}
use Rattle.b67_mcp.proofs.Answering.{task_cut, member_cut, runs_cut, higher}
use Rattle.b67_mcp.proofs.Avoiding.{FramesAvoid, JobAvoids, job_avoids, row_avoids}
use Rattle.b67_mcp.proofs.Replanned.{stands-there}
use Rattle.b67_mcp.proofs.Declaring.{Declares, stands_declared}
use Rattle.b67_law.proofs.Numbered.{keyed_member}

home_here : (plan : Placement) (j n at : ℕ) → (with_home plan j n at).home j n ≡ at
home_here plan j n at = rw (eq-eqb j j refl, eq-eqb n n refl) refl

all_zero : (n : ℕ) → AreZero (replicate n 0)
all_zero zero = tt
all_zero (suc n) = (refl, all_zero n)

below_avoids : (n : ℕ) (fs : List Frame) → FramesAvoid n fs → FramesAvoid n (below_top fs)
below_avoids h fs a = grind arith

-- the word of an original that was never touched
is_original_word : (n : ℕ) → n < 2 ^ 16 → IsOriginal (data_word (home_desc false n nowhere))
is_original_word n small = record { desc = home_desc false n nowhere; fits = record { words = omega (arith, small); address = omega arith; indexed = λ z. absurd (let b : ⊥ = cc in b) }; own = refl; is = refl }

module _ (x : Storage) (old mid : Cpu) (plan : Placement) (s : Session) (m : SessionJob) (t : Task) (q : Place) (o : IsInOrderButCounts s) (h : RepresentsSession x old plan s) (runs : IsRunning plan s.jobs m t) (may : MayCut m t)
    (cut : (there : Placement) → RepresentsSession x old there s → IsRunning there s.jobs m t → RepresentsSession x mid there (with_job s m (job_cut m t q))) where
  abbrev n : ℕ
  n = m.progress.job.next_array

  abbrev there : Placement
  there = with_home plan m.constants.number n (mid.regs.s + 1)

  order : JobInOrderButCounts (IsSegment m.constants) m.constants m.progress
  order = (running_in_order plan s m t o runs).0

  only : (y : SessionJob) → Has s.jobs y → y.constants.number ≡ m.constants.number → y ≡ m
  only y i e = same_Some y m (sym (keyed_member 1 s.jobs y o.numbered i) ∙ ap (λ (k : ℕ). keyed number_of k s.jobs) e ∙ runs.member)

  avoids : JobAvoids n m.progress.job
  avoids = job_avoids (IsSegment m.constants) m.constants m.progress order

  stands : RepresentsSession x old there s
  stands = stands-there plan m.constants.number n (mid.regs.s + 1) x old s h
      (λ y i e. subst (λ (z : SessionJob). JobAvoids n z.progress.job) (sym (only y i e)) avoids)
      (λ y i e. subst (λ (z : SessionJob). (k : ℕ) → 1 ≤ k → k + length z.constants.segments ≤ length z.constants.dictionary.cells → k ≢ n) (sym (only y i e)) (row_avoids (IsSegment m.constants) m.constants m.progress order))

  runs_there : IsRunning there s.jobs m t
  runs_there = record { member = runs.member; task = runs.task; slot = runs.slot }

  cut_there : RepresentsSession x mid there (with_job s m (job_cut m t q))
  cut_there = cut there stands runs_there

  avoids_cut : JobAvoids n (job_cut m t q)
  avoids_cut = record {
    tasks = λ u i. elim (change-has (λ (v : Task). v.number) t.number (λ (v : Task). task_cut m t q) m.progress.job.tasks t runs.task u i) [
      | inl k ↦ avoids.tasks u k
      | inr e ↦ subst (λ (v : Task). FramesAvoid n v.frames) (sym e) (below_avoids n t.frames (avoids.tasks t (keyed_has (λ (v : Task). v.number) t.number m.progress.job.tasks t runs.task).0))
    ];
    arrays = avoids.arrays;
  }

  pub array_answered : (len : ℕ) (w : Tagged) → 0 < len → len < 2 ^ 16 → w ≡ data_word (home_desc false len nowhere)
      → RepresentsSession (storage_without x (mid.regs.s + 1)) (pushed mid w) (with_home plan m.constants.number m.progress.job.next_array (mid.regs.s + 1)) (with_job s m (job_declared m t len q))
  array_answered len w some small is =
      let long : length (replicate len 0) ≡ len = length-replicate len 0 in
      let d : Declares there (member_cut m t q) (task_cut m t q) (job_declared m t len q) (new_array m t len) (mid.regs.s + 1) = record {
        arrays = refl;
        tasks = sym (change_twice (λ (u : Task). u.number) t.number (task_cut m t q) (answered (here m t q) (Original n ∷ [])) m.progress.job.tasks refl);
        home = home_here plan m.constants.number n (mid.regs.s + 1);
        writable = refl;
        zeros = all_zero len;
        long = (omega (arith, long, some), omega (arith, long, small));
        avoids = avoids_cut;
      } in
      let made = stands_declared x mid there (with_job s m (job_cut m t q)) (member_cut m t q) (task_cut m t q) cut_there (runs_cut x old mid there s m t q o stands runs_there may cut_there) (job_declared m t len q) (new_array m t len) d
      w (subst IsOriginal (sym is) (is_original_word len small)) (is ∙ ap (λ (i : ℕ). home_word_of Array i nowhere) (sym long)) (higher x old mid there s m t q o stands runs_there may cut_there) in
      subst (λ (k : Session). RepresentsSession (storage_without x (mid.regs.s + 1)) (pushed mid w) there k) (with_job-twice s m (job_cut m t q) (job_declared m t len q)) made
