-- The parts that are laid out in core represent the session that opens.
use Rattle.std.proofs.Common.{◌≡◌, ◌≢◌, ℕ, suc, ◌+◌, ◌*◌, ◌<◌, ◌≤◌, ⊎_elim, List, length, Some, refl, sym, ◌∙◌, ap, arith, subst}
use Rattle.std.specs.List.{slice_get}
use Rattle.std.proofs.lemmas.Bool.{cases_lt}
use Rattle.std.proofs.lemmas.Option.{slice_get_within}
use Rattle.b67_word.specs.Tagged.{word}
use Rattle.b67_area.specs.Directory.{IsDirectory}
use Rattle.b67_lemmas.specs.Lists.{Has}
use Rattle.b67_lemmas.proofs.Members.{keyed_has}
use Rattle.b67_lemmas.proofs.Places.{at_mapped, get_within}
use Rattle.b67_model.specs.Common.{Task, SessionJob, Program, Switch, number_of}
use Rattle.b67_law.specs.Opening.{Opening, opened_from, opening, DeckWithin}
use Rattle.b67_law.proofs.OpenedRows.{entries_count}
use Rattle.b67_stack.specs.declared.Cpu.{Cpu}
use Rattle.b67_stack.specs.Common.{Fits, LieDownward, words, PagedObject, Slot, Waiting, stack_of, MachineView, slot_base, SlotFits, IsLaidOut, NoOriginalAboveTop, Storage, RepresentsSlot, RepresentsObject, Owned, Represents}
use Rattle.b67_layout.specs.Common.{Placement, slot_of, machine_view, RepresentsDictionary, RepresentsMcp, vector_word, RepresentsVector, RepresentsCritical, critical_mark, IsRunning, RepresentsSession}
use Rattle.b67_session.specs.Opened.{dictionaries, opening_plan, objects_from, first_stack, programs_of}
use Rattle.b67_session.specs.Words.{SlotLies, SlotsLie, HeadsLie}
use Rattle.b67_session.proofs.Members.{member, for_members, slotted, has_slot}
use Rattle.b67_session.proofs.Heads.{head_at}
use Rattle.b67_session.proofs.Objects.{Within, object_within, is_object, homes_differ, dictionary_is, from_machine_view, to_machine_view, objects_long}
use Rattle.b67_session.proofs.Slots.{slot_is, slot_number, first_fits, first_stands, first_lies}
use Rattle.b67_session.proofs.Plans.{first_task, for_tasks, count_is, plan_fits}

-- what is laid out
pub record Parts (x : Storage) (cpu : Cpu) (stack : ℕ) (programs : List Program) : Type 0 where
  pub heads : HeadsLie cpu.core 160 programs
  pub objects : (t : PagedObject) → Has (objects_from 160 programs) t → RepresentsObject x cpu.core t
  pub owned : Owned x (objects_from 160 programs)
  pub mcp : RepresentsMcp cpu.core
  pub slots : SlotsLie cpu.core (160 + dictionaries programs) stack (length programs)
  pub free : (k : ℕ) → length programs ≤ k → k < 120 → slice_get cpu.core (32 + k) ≡ Some (word 0 0)
  pub critical : (k : ℕ) → k < 120 → slice_get cpu.critical k ≡ Some 0
  pub idle : cpu.regs.slot ≡ 255
  pub stacks : cpu.regs.stacks ≡ 160 + dictionaries programs
  pub size : cpu.regs.stack_size ≡ stack
  pub peak : cpu.regs.peak ≡ length programs
  pub low : x.low ≡ 160 + dictionaries programs + length programs * stack
  pub directory : IsDirectory cpu.core x.low x.spans
  pub inside : x.low ≤ length cpu.core

owned_same : (x : Storage) (xs ys : List PagedObject) → ((t : PagedObject) → Has xs t → Has ys t) → ((t : PagedObject) → Has ys t → Has xs t) → Owned x xs → Owned x ys
owned_same x xs ys to from o = record {
  of_area = λ at a e. let r = o.of_area at a e in (r.0, to r.0 r.1, r.2, r.3);
  of_held = λ home at e. let r = o.of_held home at e in (r.0, to r.0 r.1, r.2, r.3);
  of_chain = λ first some. let r = o.of_chain first some in (r.0, to r.0 r.1, r.2);
  no_zero = o.no_zero;
  one_chain = λ t u int inu some e. o.one_chain t u (from t int) (from u inu) some e;
}

module _ (x : Storage) (cpu : Cpu) (stack quantum : ℕ) (switches : List Switch) (openings : List Opening) (within : DeckWithin stack switches openings) (parts : Parts x cpu stack (programs_of openings)) where
  abbrev plan : Placement
  plan = opening_plan stack (programs_of openings)

  abbrev jobs : List SessionJob
  jobs = opened_from 1 stack openings

  abbrev p : MachineView
  p = machine_view plan jobs

  -- an opening for each slot
  for_each_slot : (P : ℕ → Slot → Type 0) → ((k : ℕ) → k < 8 → SlotLies cpu.core (slot_base p k) (k + 1) → P k (Waiting (first_stack (k + 1)))) → (k : ℕ) → k < p.peak → P k (p.slots k)
  for_each_slot P h k low =
      let few : k < length openings = omega (arith, low, count_is openings) in
      let small : k < 8 = omega (arith, few, within.few) in
      let o = get_within openings k few in
      subst (P k) (sym (slot_is stack openings k o.0 o.1 small)) (h k small ((parts.slots.tasks k low).slot))

  home_low : (t : PagedObject) → Has p.objects t → Within 162 (160 + dictionaries (programs_of openings)) t
  home_low t h = object_within (programs_of openings) t (is_object (programs_of openings) t (from_machine_view stack openings t h))

  laid : IsLaidOut x.low p
  laid = record {
    low = parts.low;
    first = omega arith;
    room = within.stack_high;
    slots = for_each_slot (SlotFits p) (λ k small lies. first_fits p k (k + 1) within.stack_low (omega (arith, small)));
    homes = λ t h. (omega (arith, (home_low t h).low), omega (arith, (home_low t h).high, parts.low));
    codes = λ t h e. (home_low t h).high;
    differ = λ t u h k e. homes_differ (programs_of openings) t u (is_object (programs_of openings) t (from_machine_view stack openings t h)) (is_object (programs_of openings) u (from_machine_view stack openings u k)) e;
    not_base = λ t h k small e. omega (arith, (home_low t h).high, e);
    lengths = λ t h. objects_long 160 openings t within.each (from_machine_view stack openings t h);
  }

  other_slot : (k : ℕ) → k < 8 → cpu.regs.slot ≢ k
  other_slot k small e = omega (arith, e, small, parts.idle)

  stands : Represents x cpu.core cpu.regs p
  stands = record {
    slots = record {
      laid = laid;
      regs = record { stacks = parts.stacks; size = parts.size; peak = parts.peak };
      slots = for_each_slot (RepresentsSlot cpu.core cpu.regs p) (λ k small lies. first_stands cpu.core cpu.regs p k (k + 1) (other_slot k small) lies);
    };
    stacks = for_each_slot (λ k s. LieDownward (Fits x.held) cpu.core (suc (slot_base p k)) (words k (stack_of s))) (λ k small lies. first_lies x.held cpu.core p k (k + 1) small lies);
    objects = λ t h. parts.objects t (from_machine_view stack openings t h);
    owned = owned_same x (objects_from 160 (programs_of openings)) p.objects (to_machine_view stack openings) (from_machine_view stack openings) parts.owned;
    directory = parts.directory;
    inside = parts.inside;
  }

  settled : NoOriginalAboveTop p
  settled t h k small low up = absurd (omega (arith, (home_low t h).high, low))

  dictionary : (m : SessionJob) → Has jobs m → RepresentsDictionary cpu.core plan m
  dictionary = for_members (RepresentsDictionary cpu.core plan) stack 1 openings (λ k j o e f.
      let head = head_at cpu.core 160 (programs_of openings) k o.program parts.heads (at_mapped (λ (q : Opening). q.program) openings k o e) in
      let at = dictionary_is stack openings k j o e f in
      record {
        mark = ap (slice_get cpu.core) at ∙ head.mark;
        entries = ap (λ i. slice_get cpu.core (i + 1)) at ∙ head.entries ∙ ap (λ n. Some (word 0 n)) (sym (entries_count o.program.segments o.program.rows));
      })

  -- of each live task, by the place of its job
  for_places : (P : SessionJob → Task → Type 0) → ((k : ℕ) (o : Opening) → slice_get openings k ≡ Some o → k < 8 → k < length (programs_of openings) → slot_of plan (k + 1) 1 ≡ k → P (member stack (k + 1) o) first_task) →
      (m : SessionJob) (t : Task) → Has jobs m → Has m.progress.job.tasks t → P m t
  for_places P h = for_tasks P stack openings (λ k j o e f.
      let inside : k < length openings = within_list k o e in
      let small : k < 8 = omega (arith, inside, within.few) in
      subst (λ i. P (member stack i o) first_task) (let z : k + 1 ≡ j = omega (arith, f) in z) (h k o e small (omega (arith, inside, count_is openings)) (slot_number stack openings k o e small)))
    where
      within_list : (k : ℕ) (o : Opening) → slice_get openings k ≡ Some o → k < length openings
      within_list k o e = slice_get_within openings k o e

  vector : RepresentsVector cpu.core plan jobs
  vector = record {
    live = for_places (λ m t. slice_get cpu.core (32 + slot_of plan m.constants.number t.number) ≡ Some (vector_word plan m.constants.number t.parents))
        (λ k o e small low is. ap (λ i. slice_get cpu.core (32 + i)) is ∙ (parts.slots.tasks k low).vector);
    free = λ k small none. ⊎_elim
        (λ (low : k < length (programs_of openings)). let q = get_within (programs_of openings) k low in absurd (none (slotted k) (has_slot 0 (programs_of openings) k k q.0 q.1 (omega arith)) refl))
        (λ (past : length (programs_of openings) ≤ k). parts.free k past small)
        (cases_lt k (length (programs_of openings)));
  }

  critical : RepresentsCritical cpu.critical plan jobs
  critical = record {
    live = for_places (λ m t. slice_get cpu.critical (slot_of plan m.constants.number t.number) ≡ Some (critical_mark m.progress.job t.frames))
        (λ k o e small low is. ap (slice_get cpu.critical) is ∙ parts.critical k (omega (arith, small)));
    free = λ k small none. parts.critical k small;
  }

  nobody : (m : SessionJob) (t : Task) → IsRunning plan jobs m t → ⊥
  nobody m t r = for_places (λ n u. slot_of plan n.constants.number u.number ≢ 255)
      (λ k o e small low is z. omega (arith, small, is, z))
      m t (keyed_has number_of m.constants.number jobs m r.member).0 (keyed_has (λ (u : Task). u.number) t.number m.progress.job.tasks t r.task).0 (sym r.slot)

  pub opening_stands : RepresentsSession x cpu plan (opening stack quantum switches openings)
  opening_stands = record {
    holds = record {
      fits = plan_fits stack quantum switches openings within.few;
      memory = stands;
      settled = settled;
      dictionaries = dictionary;
      mcp = parts.mcp;
      vector = vector;
      critical = critical;
      live = λ n. absurd (n refl);
      running = λ m t r. absurd (nobody m t r);
      none = λ e. parts.idle;
    };
    shows = λ m t r. absurd (nobody m t r);
  }
