-- What the code that builds a stack finds and makes, by the session that the machine represents.
use Rattle.std.proofs.Common.{◌≡◌, ◌≢◌, ℕ, suc, ◌+◌, ◌-◌, ◌*◌, ◌^◌, ◌<◌, ◌≤◌, List, [], ◌∷◌, length, not, Some, None, refl, sym, ◌∙◌, ap, arith, true, false, ◌==◌, inl, inr, ◌⊎◌, ⊎_elim, subst, slice_set}
use Rattle.std.specs.Prelude.{max}
use Rattle.std.specs.List.{slice_get}
use Rattle.b67_word.specs.Tagged.{Tagged, word}
use Rattle.b67_core.proofs.Writes.{slice_get-set_same, slice_get-set_other}
use Rattle.b67_ctl.specs.declared.marks.Mscw.{Mscw}
use Rattle.b67_ctl.specs.declared.marks.Toscw.{Toscw}
use Rattle.b67_ctl.specs.Layout.{mscw_word, toscw_word}
use Rattle.b67_lemmas.specs.Lists.{Has}
use Rattle.b67_model.specs.Common.{Task, Job, SessionJob, Session, NumberedFrom}
use Rattle.b67_stack.specs.declared.Cpu.{Cpu}
use Rattle.b67_stack.specs.Common.{StackPlace, Entered, mark_of, mark_place, activations_below, RunsOn, slot_base, Storage}
use Rattle.b67_layout.specs.Common.{Placement, slot_of, machine_view, stack_of_task, vector_word, critical_mark, RepresentsSession}
use Rattle.b67_layout.proofs.Starts.{runs_here}
use Rattle.b67_task.specs.Born.{with_task_at}
use Rattle.b67_task.specs.Joining.{MayBuild, session_joined}
use Rattle.b67_task.proofs.OneMore.{slot_of-other}
use Rattle.b67_lemmas.proofs.Members.{keyed_has}
use Rattle.b67_task.proofs.Started.{Built, slot_apart, enough, slot_low, running_small, below_some, under_place, mark_now, RepresentsSession-started}

numbered_high : (k : ℕ) (jobs : List SessionJob) (y : SessionJob) → NumberedFrom k jobs → Has jobs y → y.constants.number < k + length jobs
numbered_high k [] y n h = absurd h
numbered_high k (x ∷ xs) y n (inl e) = omega (arith, n.0, ap (λ (z : SessionJob). z.constants.number) e)
numbered_high k (x ∷ xs) y n (inr h) = omega (arith, numbered_high (k + 1) xs y n.1 h)

module _ (x : Storage) (cpu : Cpu) (plan : Placement) (s : Session) (m : SessionJob) (t : Task) (job' : Job) (child : Task) (k j env_stack env_disp level count : ℕ)
    (b : MayBuild x cpu plan s m t job' child k j env_stack env_disp level count) where
  abbrev base : ℕ
  base = slot_base (machine_view plan s.jobs) k

  pub on_stack : RunsOn (machine_view plan s.jobs) cpu.regs.slot (stack_of_task plan m.constants.number m.progress.job plan.running t)
  on_stack = runs_here x cpu plan s m t b.stands b.running

  pub two_marks : activations_below (stack_of_task plan m.constants.number m.progress.job plan.running t) ≢ []
  two_marks = below_some x cpu plan s m t job' child k b.ordered b.stands b.running b.joins b.calls

  pub few_words : (cpu.regs.s < 2 ^ 20 - 1) × (cpu.regs.s + 1 ≤ length cpu.core)
  few_words = grind (arith, on_stack)

  pub base_is : (a c : ℕ) → a ≡ k → c ≡ cpu.regs.stack_size → cpu.regs.stacks + a * c ≡ slot_base (machine_view plan s.jobs) k
  base_is a c ea ec = grind arith

  pub few_copied : count ≤ cpu.regs.s + 1
  few_copied = omega (arith, enough x cpu plan s m t job' child k b.ordered b.stands b.running b.joins b.calls, b.count_is)

  pub apart : (at from : ℕ) → at ≡ slot_base (machine_view plan s.jobs) k → (cpu.regs.s + 1 - count + count ≤ at) ⊎ (at + (3 + count) ≤ cpu.regs.s + 1 - count)
  apart at from e = ⊎_elim
      (λ (a : suc cpu.regs.s ≤ base). inl (omega (arith, a, e, few_copied)))
      (λ (a : base + plan.size ≤ suc cpu.regs.s - length b.calls.only.cells). inr (omega (arith, a, e, b.calls.room, b.count_is)))
      (slot_apart x cpu plan s m t job' child k b.ordered b.stands b.running b.joins b.calls)

  pub slot_small : cpu.regs.slot < 120
  slot_small = running_small x cpu plan s m t job' child k b.ordered b.stands b.running b.joins b.calls

  pub job_small : j < 9
  job_small = omega (arith, numbered_high 1 s.jobs m b.ordered.numbered (keyed_has (λ (y : SessionJob). y.constants.number) m.constants.number s.jobs m b.running.member).0, b.ordered.few, b.job_is)

  slot_is : cpu.regs.slot ≡ slot_of plan m.constants.number t.number
  slot_is = (b.stands.holds.running m t b.running).slot

  module _ (new mid : List Tagged) (critical : List ℕ) (at under vector : ℕ) (top : Toscw) (mark : Mscw) (start : at ≡ slot_base (machine_view plan s.jobs) k)
      (top_is : top ≡ record { s = 2 + count; level = level; f = 1 })
      (mark_is : mark ≡ record { far = not (env_stack == k); entered = true; env_stack = env_stack; env_disp = env_disp; value = false; level = level; back = 0 })
      (under_is : under ≡ mark_place (activations_below (stack_of_task plan m.constants.number m.progress.job plan.running t)))
      (vector_is : vector ≡ 2 ^ 46 + cpu.regs.slot * 2 ^ 36 + j * 2 ^ 16)
      (built_top : slice_get mid at ≡ Some (toscw_word top)) (built_mark : slice_get mid (at + 1) ≡ Some (mscw_word mark)) (built_back : slice_get mid (at + 2) ≡ Some (word 3 0))
      (cells : (i : ℕ) → i < count → slice_get mid (at + 3 + i) ≡ slice_get cpu.core (cpu.regs.s + 1 - count + i))
      (outside : (i : ℕ) → (i < at) ⊎ (at + (3 + count) ≤ i) → slice_get mid i ≡ slice_get cpu.core i) (len : length mid ≡ length cpu.core)
      (written : new ≡ slice_set mid (32 + k) (word 3 vector)) (len' : length new ≡ length mid)
      (own : (v : ℕ) → slice_get cpu.critical cpu.regs.slot ≡ Some v → slice_get critical cpu.regs.slot ≡ Some (max v under))
      (others : (q : ℕ) → q ≢ cpu.regs.slot → slice_get critical q ≡ slice_get cpu.critical q) where
    abbrev after : Cpu
    after = record cpu { core = new; critical = critical }

    low : 160 ≤ at
    low = omega (arith, start, slot_low x cpu plan s m t job' child k b.ordered b.stands b.running b.joins b.calls)

    small : 32 + k < 152
    small = omega (arith, b.joins.inside, b.stands.holds.fits.few)

    kept : (i : ℕ) → i ≢ 32 + k → slice_get new i ≡ slice_get mid i
    kept i ne = ap (λ (c : List Tagged). slice_get c i) written ∙ slice_get-set_other mid (32 + k) i (word 3 vector) ne

    at_base : (P : ℕ → Type 0) → P at → P (slot_base (machine_view plan s.jobs) k)
    at_base P q = subst P start q

    vector_there : slice_get new (32 + k) ≡ Some (word 3 vector)
    vector_there = grind (arith, slice_get-set_same)

    built : Built cpu after plan m t job' child k (slot_base (machine_view plan s.jobs) k) (length b.calls.only.cells) b.calls.level b.calls.spot
    built = record {
      len = len' ∙ len;
      regs = refl;
      display = refl;
      outside = λ i ne out. kept i ne ∙ outside i (⊎_elim (λ (a : i < base). inl (omega (arith, a, start))) (λ (a : base + plan.size ≤ i). inr (omega (arith, a, start, b.calls.room, b.count_is))) out);
      top = at_base (λ n. slice_get new n ≡ Some (toscw_word (record { s = 2 + length b.calls.only.cells; level = b.calls.level; f = 1 })))
          (kept at (λ e. omega (arith, e, low, small)) ∙ built_top ∙ ap (λ (w : Toscw). Some (toscw_word w)) top_is
          ∙ ap (λ (n : ℕ). Some (toscw_word (record { s = 2 + n; level = level; f = 1 }))) (sym b.count_is) ∙ ap (λ (n : ℕ). Some (toscw_word (record { s = 2 + length b.calls.only.cells; level = n; f = 1 }))) (sym b.level_is));
      mark = at_base (λ n. slice_get new (n + 1) ≡ Some (mscw_word (mark_of k (Entered b.calls.level b.calls.spot None) [])))
          (kept (at + 1) (λ e. omega (arith, e, low, small)) ∙ built_mark ∙ ap (λ (w : Mscw). Some (mscw_word w)) mark_is
          ∙ ap (λ (n : ℕ). Some (mscw_word (mark_of k (Entered n (record { stack = env_stack; disp = env_disp }) None) []))) (sym b.level_is)
          ∙ ap (λ (q : StackPlace). Some (mscw_word (mark_of k (Entered b.calls.level q None) []))) (sym b.spot_is));
      back = at_base (λ n. slice_get new (n + 2) ≡ Some (word 3 0)) (kept (at + 2) (λ e. omega (arith, e, low, small)) ∙ built_back);
      copied = λ i up.
          let e : cpu.regs.s + 1 - count + i ≡ cpu.regs.s + 1 - length b.calls.only.cells + i = omega (arith, b.count_is) in
          at_base (λ n. slice_get new (n + 3 + i) ≡ slice_get cpu.core (cpu.regs.s + 1 - length b.calls.only.cells + i))
          (kept (at + 3 + i) (λ z. omega (arith, z, low, small)) ∙ cells i (omega (arith, up, b.count_is)) ∙ ap (slice_get cpu.core) e);
      vector = vector_there ∙ ap (λ (n : ℕ). Some (word 3 n)) vector_is ∙ vector_parent;
      others = λ q ne. others q (λ e. ne (e ∙ slot_is));
      own = subst (λ (n : ℕ). slice_get critical n ≡ Some (critical_mark job' t.frames)) slot_is
          (own (critical_mark m.progress.job t.frames) (ap (slice_get cpu.critical) slot_is ∙ b.stands.holds.critical.live m t (keyed_has (λ (y : SessionJob). y.constants.number) m.constants.number s.jobs m b.running.member).0 has_t)
          ∙ ap (λ (n : ℕ). Some (max (critical_mark m.progress.job t.frames) n)) (under_is ∙ under_place x cpu plan s m t job' child k b.ordered b.stands b.running b.joins b.calls)
          ∙ ap Some (sym (mark_now x cpu plan s m t job' child k b.ordered b.stands b.running b.joins b.calls)));
    } where
      has_t : Has m.progress.job.tasks t
      has_t = (keyed_has (λ (u : Task). u.number) t.number m.progress.job.tasks t b.running.task).0

      vector_parent : Some (word 3 (2 ^ 46 + cpu.regs.slot * 2 ^ 36 + j * 2 ^ 16)) ≡ Some (vector_word (with_task_at plan m.constants.number child.number k plan.peak) m.constants.number child.parents)
      vector_parent =
          ap (λ (n : ℕ). Some (word 3 (2 ^ 46 + n * 2 ^ 36 + j * 2 ^ 16))) (slot_is ∙ sym (slot_of-other plan m.constants.number child.number k plan.peak m.constants.number t.number (λ e. b.joins.newest t has_t)))
          ∙ ap (λ (n : ℕ). Some (word 3 (2 ^ 46 + slot_of (with_task_at plan m.constants.number child.number k plan.peak) m.constants.number t.number * 2 ^ 36 + n * 2 ^ 16))) (sym b.job_is)
          ∙ ap (λ (ps : List ℕ). Some (vector_word (with_task_at plan m.constants.number child.number k plan.peak) m.constants.number ps)) (sym b.calls.line)

    pub child_built : RepresentsSession x (record cpu { core = new; critical = critical }) (with_task_at plan m.constants.number child.number k plan.peak) (session_joined plan s m job')
    child_built = RepresentsSession-started x cpu plan s m t job' child k b.ordered b.stands b.running b.joins b.calls after built
