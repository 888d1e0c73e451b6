-- What a session's view doesn't show depends on few parts of its jobs.
use Rattle.std.proofs.Common.{◌≡◌, ℕ, zero, suc, ◌+◌, ◌-◌, List, [], ◌∷◌, ◌++◌, length, Option, Some, None, refl, sym, ◌∙◌, ap, true, false, ⊎_elim, inl, inr, subst, arith, unwrap_or}
use Rattle.std.specs.Prelude.{◌==◌, flat_map, if◌then◌else◌}
use Rattle.std.specs.List.{slice_get, list_any}
use Rattle.std.proofs.lemmas.Bool.{cases_Bool}
use Rattle.b67_word.specs.Tagged.{Tagged, word}
use Rattle.b67_ctl.specs.declared.registers.Regs.{Regs}
use Rattle.b67_lemmas.specs.Lists.{Has}
use Rattle.b67_model.specs.State as State
use Rattle.b67_model.specs.Common.{Frame, Task, Job, SessionJob, OperatorContext, all_frames, frame, environment_of, outward, running_level, running, frame_at, from_frame, frames_of_task, critical_of, number_of}
use Rattle.b67_model.specs.Keyed.{keyed}
use Rattle.b67_stack.specs.Stacks.{StackPlace}
use Rattle.b67_layout.specs.Common.{Placement, slot_of, spot_in, outer_spots, spots, address_of, RowsFit, DictionariesFollow, RowHomes, RepresentsDictionary, RepresentsTask, IsRunning, ShowsDisplay, critical_mark}

-- the same number, stack size and dictionary, as many segments, and the same tasks
pub record Alike (m n : SessionJob) : Type 0 where
  pub number : n.constants.number ≡ m.constants.number
  pub stack_size : n.constants.stack_size ≡ m.constants.stack_size
  pub dictionary : n.constants.dictionary ≡ m.constants.dictionary
  pub count : length n.constants.segments ≡ length m.constants.segments
  pub tasks : n.progress.job.tasks ≡ m.progress.job.tasks

abbrev pub AllAlike : List SessionJob → List SessionJob → Type 0
AllAlike [] [] = Unit {0}
AllAlike (m ∷ ms) (n ∷ ns) = Alike m n × AllAlike ms ns
AllAlike _ _ = ⊥

pub back : (m n : SessionJob) → Alike m n → Alike n m
back m n e = record { number = sym e.number; stack_size = sym e.stack_size; dictionary = sym e.dictionary; count = sym e.count; tasks = sym e.tasks }

pub backs : (ms ns : List SessionJob) → AllAlike ms ns → AllAlike ns ms
backs [] [] e = tt
backs (m ∷ ms) (n ∷ ns) e = (back m n e.0, backs ms ns e.1)
backs [] (n ∷ ns) e = absurd e
backs (m ∷ ms) [] e = absurd e

pub record Twin (ms : List SessionJob) (n : SessionJob) : Type 0 where
  pub member : SessionJob
  pub among : Has ms member
  pub alike : Alike member n

pub twin : (ms ns : List SessionJob) → AllAlike ms ns → (n : SessionJob) → Has ns n → Twin ms n
twin [] [] e n k = absurd k
twin (m ∷ ms) (y ∷ ns) e n (inl is) = record { member = m; among = inl refl; alike = subst (Alike m) is e.0 }
twin (m ∷ ms) (y ∷ ns) e n (inr k) = let t = twin ms ns e.1 n k in record { member = t.member; among = inr t.among; alike = t.alike }
twin [] (y ∷ ns) e n k = absurd e
twin (m ∷ ms) [] e n k = absurd e

abbrev AlikeOption : Option SessionJob → Option SessionJob → Type 0
AlikeOption None None = Unit {0}
AlikeOption (Some m) (Some n) = Alike m n
AlikeOption _ _ = ⊥

alike_keyed : (j : ℕ) (ms ns : List SessionJob) → AllAlike ms ns → AlikeOption (keyed number_of j ms) (keyed number_of j ns)
alike_keyed j [] [] e = tt
alike_keyed j (m ∷ ms) (n ∷ ns) e = grind (arith, alike_keyed j ms ns e.1)
alike_keyed j [] (n ∷ ns) e = absurd e
alike_keyed j (m ∷ ms) [] e = absurd e

-- spots and critical marks read no more of a job than its tasks
pub outer_same : (plan : Placement) (j : ℕ) (job job' : Job) → job'.tasks ≡ job.tasks → (c : ℕ) (parents : List ℕ) → outer_spots plan j job' c parents ≡ outer_spots plan j job c parents
outer_same plan j job job' e c [] = refl
outer_same plan j job job' e c (parent ∷ more) = grind arith

pub critical_same : (job job' : Job) → job'.tasks ≡ job.tasks → (fs : List Frame) → critical_mark job' fs ≡ critical_mark job fs
critical_same job job' e [] = refl
critical_same job job' e (f ∷ below) = grind arith

outward_same : (h h' : OperatorContext) → all_frames h' ≡ all_frames h → (links : ℕ) (g : Frame) → outward h' links g ≡ outward h links g
outward_same h h' e zero g = refl
outward_same h h' e (suc links) g = grind arith

module _ (m n : SessionJob) (e : Alike m n) where
  pub has_task : (u : Task) → Has n.progress.job.tasks u → Has m.progress.job.tasks u
  has_task u k = let Q : List Task → Type 0 = λ ts. Has ts u in subst Q e.tasks k

  pub dictionary_alike : (core : List Tagged) (plan : Placement) → RepresentsDictionary core plan m → RepresentsDictionary core plan n
  dictionary_alike core plan h = grind arith

  pub row_homes_alike : (plan : Placement) → RowHomes plan m → RowHomes plan n
  row_homes_alike plan h i low up = grind arith

  pub task_stands_alike : (r : Regs) (plan : Placement) (t : Task) → RepresentsTask r plan m t → RepresentsTask r plan n t
  task_stands_alike r plan t h = grind arith

  here_m : Task → OperatorContext
  here_m t = record { constants = m.constants; job = m.progress.job; task = t; at = t.place }

  here_n : Task → OperatorContext
  here_n t = record { constants = n.constants; job = n.progress.job; task = t; at = t.place }

  frames_alike : (t : Task) → all_frames (here_n t) ≡ all_frames (here_m t)
  unfolding here_m here_n
  frames_alike t = grind arith

  pub shows_alike : (display : List ℕ) (plan : Placement) (t : Task) → ShowsDisplay display plan m t → ShowsDisplay display plan n t
  unfolding here_m here_n
  shows_alike display plan t h i up = grind arith

module _ (plan : Placement) (ms ns : List SessionJob) (e : AllAlike ms ns) where
  pub rows_alike : RowsFit plan ms → RowsFit plan ns
  rows_alike fit = record {
    live = λ r in_r.
        let (y, u, in_y, ej, in_u, et) = fit.live r in_r in
        let t = twin ns ms (backs ms ns e) y in_y in
        (t.member, u, t.among, sym t.alike.number ∙ ej, has_task t.member y t.alike u in_u, et);
    slotted = λ n u in_n in_u.
        let t = twin ms ns e n in_n in
        let (r, in_r, ej, et) = fit.slotted t.member u t.among (has_task t.member n t.alike u in_u) in
        (r, in_r, ej ∙ sym t.alike.number, et);
    below = fit.below;
    differ = fit.differ;
    tasks_differ = fit.tasks_differ;
  }

pub dictionaries_alike : (plan : Placement) (at : ℕ) (ms ns : List SessionJob) → AllAlike ms ns → DictionariesFollow plan at ms → DictionariesFollow plan at ns
dictionaries_alike plan at [] [] e h = h
dictionaries_alike plan at (m ∷ ms) (n ∷ ns) e h = grind (arith, dictionaries_alike plan (at + (2 + length m.constants.dictionary.cells)) ms ns e.1 h.1)
dictionaries_alike plan at [] (n ∷ ns) e h = absurd e
dictionaries_alike plan at (m ∷ ms) [] e h = absurd e

-- the running task of the one list is that of the other
pub record TwinRuns (plan : Placement) (ms : List SessionJob) (n : SessionJob) (t : Task) : Type 0 where
  pub member : SessionJob
  pub alike : Alike member n
  pub runs : IsRunning plan ms member t

pub running_twin : (plan : Placement) (ms ns : List SessionJob) → AllAlike ms ns → (n : SessionJob) (t : Task) → IsRunning plan ns n t → TwinRuns plan ms n t
running_twin plan ms ns e n t r = by (keyed number_of n.constants.number ms) refl
    (let S : Option SessionJob → Type 0 = λ o. AlikeOption (keyed number_of n.constants.number ms) o in subst S r.member (alike_keyed n.constants.number ms ns e))
  where
    by : (o : Option SessionJob) → keyed number_of n.constants.number ms ≡ o → AlikeOption o (Some n) → TwinRuns plan ms n t
    by None at k = absurd k
    by (Some m) at k = record {
      member = m;
      alike = k;
      runs = record {
        member = ap (λ (i : ℕ). keyed number_of i ms) (sym k.number) ∙ at;
        task = ap (λ (ts : List Task). keyed (λ (u : Task). u.number) t.number ts) (sym k.tasks) ∙ r.task;
        slot = r.slot ∙ ap (λ (i : ℕ). slot_of plan i t.number) k.number;
      };
    }
