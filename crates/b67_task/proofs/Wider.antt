-- The machine with one slot more represents the session whose peak is one higher.
use Rattle.std.proofs.Common.{◌≡◌, ◌≢◌, ℕ, ◌+◌, ◌<◌, ◌≤◌, List, [], ◌∷◌, length, Some, refl, sym, ◌∙◌, ap, arith, inl, inr, subst}
use Rattle.std.specs.List.{slice_get}
use Rattle.b67_ctl.specs.declared.registers.Regs.{Regs}
use Rattle.b67_lemmas.specs.Lists.{Has}
use Rattle.b67_model.specs.Common.{Task, SessionJob, Session}
use Rattle.b67_stack.specs.declared.Cpu.{Cpu}
use Rattle.b67_stack.specs.Common.{MachineView, NoOriginalAboveTop, Storage, Represents}
use Rattle.b67_layout.specs.Common.{Placement, slot_of, machine_view, DictionariesFollow, RepresentsDictionary, vector_word, IsRunning, SessionHolds, RepresentsSession}
use Rattle.b67_layout.proofs.Rows.{slot_below}
use Rattle.b67_layout.proofs.Sessions.{dictionary_below}
use Rattle.b67_task.specs.Born.{with_peak}

module _ (plan : Placement) (n : ℕ) where
  abbrev wide : Placement
  wide = with_peak plan n

  pub machine_view-wide : (jobs : List SessionJob) → machine_view (with_peak plan n) jobs ≡ record (machine_view plan jobs) { peak = n }
  machine_view-wide jobs = grind arith

  follow-wide : (at : ℕ) (jobs : List SessionJob) → DictionariesFollow plan at jobs → DictionariesFollow wide at jobs
  follow-wide at [] d = d
  follow-wide at (m ∷ rest) d = (d.0, follow-wide (at + (2 + length m.constants.dictionary.cells)) rest d.1)

  vector-wide : (i : ℕ) (parents : List ℕ) → vector_word plan i parents ≡ vector_word wide i parents
  vector-wide i parents = grind arith

module _ (x y : Storage) (cpu new : Cpu) (plan : Placement) (s : Session) (h : RepresentsSession x cpu plan s) (n : ℕ) (wider : plan.peak ≤ n) (few : n ≤ 120)
    (regs : new.regs ≡ record cpu.regs { peak = new.regs.peak }) (critical : new.critical ≡ cpu.critical) (display : new.display ≡ cpu.display)
    (words : (i : ℕ) → i < plan.stacks → i ≢ 152 → slice_get new.core i ≡ slice_get cpu.core i)
    (memory : Represents y new.core new.regs (record (machine_view plan s.jobs) { peak = n })) (settled : NoOriginalAboveTop (record (machine_view plan s.jobs) { peak = n })) where
  o : SessionHolds x cpu.core cpu.regs cpu.critical plan s
  o = h.holds

  low : 160 ≤ plan.stacks
  low = o.memory.slots.laid.first

  back : (m : SessionJob) (t : Task) → IsRunning (with_peak plan n) s.jobs m t → IsRunning plan s.jobs m t
  back m t r = record { member = r.member; task = r.task; slot = r.slot }

  dictionary : (m : SessionJob) → Has s.jobs m → RepresentsDictionary new.core (with_peak plan n) m
  dictionary m i =
      let d = dictionary_below plan 160 s.jobs m o.fits.dictionaries i in
      let up = above 160 s.jobs o.fits.dictionaries i in
      let w = o.dictionaries m i in
      record {
        mark = words (plan.dictionary m.constants.number) (omega (arith, d)) (λ e. omega (arith, e, up)) ∙ w.mark;
        entries = words (plan.dictionary m.constants.number + 1) (omega (arith, d)) (λ e. omega (arith, e, up)) ∙ w.entries;
      }
    where
      above : (at : ℕ) (jobs : List SessionJob) → DictionariesFollow plan at jobs → Has jobs m → at ≤ plan.dictionary m.constants.number
      above at [] d k = absurd k
      above at (w ∷ ws) d (inl e) = let P : SessionJob → Type 0 = λ q. at ≤ plan.dictionary q.constants.number in subst P e (omega (arith, d.0))
      above at (w ∷ ws) d (inr k) = omega (arith, above (at + (2 + length w.constants.dictionary.cells)) ws d.1 k)

  of_regs : (f : Regs → ℕ) → f (record cpu.regs { peak = new.regs.peak }) ≡ f cpu.regs → f new.regs ≡ f cpu.regs
  of_regs f e = ap f regs ∙ e

  holds : SessionHolds y new.core new.regs new.critical (with_peak plan n) (record s { peak = n })
  holds = record {
    fits = record {
      rows = record { live = o.fits.rows.live; slotted = o.fits.rows.slotted; below = λ r i. omega (arith, o.fits.rows.below r i, wider); differ = o.fits.rows.differ; tasks_differ = o.fits.rows.tasks_differ };
      peak = refl;
      few = few;
      sizes = o.fits.sizes;
      dictionaries = follow-wide plan n 160 s.jobs o.fits.dictionaries;
      row_homes = o.fits.row_homes;
    };
    memory = subst (λ (p : MachineView). Represents y new.core new.regs p) (sym (machine_view-wide plan n s.jobs)) memory;
    settled = subst NoOriginalAboveTop (sym (machine_view-wide plan n s.jobs)) settled;
    dictionaries = dictionary;
    mcp = record { mark = words 0 (omega (arith, low)) (λ e. omega (arith, e)) ∙ o.mcp.mark; intrinsics = λ i a b. words i (omega (arith, low, b)) (λ e. omega (arith, e, b)) ∙ o.mcp.intrinsics i a b };
    vector = record {
      live = λ m t i k. (let small : slot_of plan m.constants.number t.number < 120 = omega (arith, slot_below plan s.jobs m t o.fits.rows i k, o.fits.few) in
          words (32 + slot_of plan m.constants.number t.number) (omega (arith, small, low)) (λ e. omega (arith, e, small)) ∙ o.vector.live m t i k ∙ ap Some (vector-wide plan n m.constants.number t.parents));
      free = λ k small others. words (32 + k) (omega (arith, small, low)) (λ e. omega (arith, e, small)) ∙ o.vector.free k small others;
    };
    critical = record {
      live = λ m t i k. ap (λ (ns : List ℕ). slice_get ns (slot_of plan m.constants.number t.number)) critical ∙ o.critical.live m t i k;
      free = λ k small others. ap (λ (ns : List ℕ). slice_get ns k) critical ∙ o.critical.free k small others;
    };
    live = λ ne. let (m, t, r) = o.live ne in (m, t, record { member = r.member; task = r.task; slot = r.slot });
    running = λ m t r.
        let q = o.running m t (back m t r) in
        record {
          slot = of_regs (λ z. z.slot) refl ∙ q.slot;
          dict = of_regs (λ z. z.dict) refl ∙ q.dict;
          entries = of_regs (λ z. z.entries) refl ∙ q.entries;
          segment = of_regs (λ z. z.segment) refl ∙ q.segment;
          place = ap (λ (z : Regs). z.place) regs ∙ q.place;
        };
    none = λ e. of_regs (λ z. z.slot) refl ∙ o.none e;
  }

  pub RepresentsSession-wider : RepresentsSession y new (with_peak plan n) (record s { peak = n })
  RepresentsSession-wider = grind (arith, holds)
