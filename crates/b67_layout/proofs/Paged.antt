-- A machine represents a session that is alike, where areas came or went or operators were counted.
use Rattle.std.proofs.Common.{◌≡◌, ◌≢◌, ℕ, ◌+◌, ◌*◌, ◌<◌, ◌≤◌, ◌^◌, List, length, Option, Some, None, refl, sym, ◌∙◌, ap, arith, Bool, true, false, subst, inl, inr}
use Rattle.std.specs.List.{slice_get}
use Rattle.std.proofs.lemmas.Option.{same_Some}
use Rattle.b67_word.specs.Tagged.{Tagged, word}
use Rattle.b67_ctl.specs.Layout.{flag_bit}
use Rattle.b67_area.specs.declared.kinds.Kind.{Kind}
use Rattle.b67_area.specs.declared.kinds.Kind.TheVariants.{Array, Row, Code}
use Rattle.b67_area.proofs.Laws.{area_inside}
use Rattle.b67_ctl.specs.declared.registers.Regs.{Regs}
use Rattle.b67_lemmas.specs.Lists.{Has}
use Rattle.b67_model.specs.State.{SessionJob}
use Rattle.b67_model.specs.Schedule.{Session}
use Rattle.b67_stack.specs.declared.Cpu.{Cpu}
use Rattle.b67_stack.specs.Common.{Location, PagedObject, MachineView, NoOriginalAboveTop, home_word_of, is_present, address_or, Storage, Represents, info_of, LowWordsStayed}
use Rattle.b67_stack.proofs.Homes.{chain_small}
use Rattle.b67_layout.specs.Common.{Placement, slot_of, machine_view, RepresentsDictionary, vector_word, with_objects, ShowsDisplay, SessionHoldsBut, RepresentsSessionBut}
use Rattle.b67_layout.proofs.Rows.{slot_below}
use Rattle.b67_layout.proofs.Sessions.{dictionary_below, dictionary_above}
use Rattle.b67_layout.proofs.Alike.{AllAlike, backs, twin, has_task, dictionary_alike, row_homes_alike, task_stands_alike, shows_alike, critical_same, rows_alike, dictionaries_alike, running_twin}

-- the mark of a dictionary, and its number of entries, are no originals and no segment descriptors
abbrev mark_bits : ℕ
mark_bits = 2 ^ 47 + 2 ^ 46 + 136 * 2 ^ 36 + 1 * 2 ^ 14

too_high : (p : Bool) (n a : ℕ) → n < 2 ^ 16 → a < 2 ^ 20 → flag_bit p * 2 ^ 47 + n * 2 ^ 20 + a ≡ mark_bits → ⊥
too_high p n a hn ha e = grind arith

not_operand : (k : Kind) (n b : ℕ) (h : Location) → home_word_of k n h ≡ word 0 b → ⊥
not_operand k n b h e = grind arith

module _ (x : Storage) (core : List Tagged) (r : Regs) (p : MachineView) (s : Represents x core r p) (t : PagedObject) (int : Has p.objects t) where
  address_small : (a : Option ℕ) → (x.held t.home).area ≡ a → address_or a (x.held t.home).chain < 2 ^ 20
  address_small None e = chain_small x core t (x.held t.home).area (x.held t.home).chain (s.objects t int).content
  address_small (Some b) e =
      let o = s.owned.of_held t.home b e in
      omega (arith, (area_inside core x.low x.spans b (info_of x o.0) s.directory o.3).1, s.directory.small)

  short : length t.numbers < 2 ^ 16
  short = (s.slots.laid.lengths t int).1

  no_mark : (i : ℕ) → slice_get core i ≡ Some (word 3 mark_bits) → t.home ≢ i
  no_mark i get e = grind (arith, address_small)

  no_operand : (i b : ℕ) → slice_get core i ≡ Some (word 0 b) → t.home ≢ i
  no_operand i b get e = not_operand t.kind (length t.numbers) b (x.held t.home) (same_Some _ _ (sym (s.objects t int).home ∙ ap (slice_get core) e ∙ get))

module _ (left left' : List PagedObject) (x x' : Storage) (cpu cpu' : Cpu) (plan : Placement) (s s' : Session)
    (h : RepresentsSessionBut left x cpu plan s) (alike : AllAlike s.jobs s'.jobs) (peak : s'.peak ≡ s.peak)
    (regs : cpu'.regs ≡ cpu.regs) (display : cpu'.display ≡ cpu.display) (critical : cpu'.critical ≡ cpu.critical)
    (memory : Represents x' cpu'.core cpu.regs (with_objects left' (machine_view plan s'.jobs))) (settled : NoOriginalAboveTop (machine_view plan s'.jobs))
    (stayed : LowWordsStayed (with_objects left (machine_view plan s.jobs)) cpu.core cpu'.core) where
  abbrev o : SessionHoldsBut left x cpu.core cpu.regs cpu.critical plan s
  o = h.holds

  low : 160 ≤ plan.stacks
  low = h.holds.memory.slots.laid.first

  -- words of the MCP
  mcp_word : (i : ℕ) → i < 152 → slice_get cpu'.core i ≡ slice_get cpu.core i
  mcp_word i small = stayed i (omega (arith, small, low)) (inl small) (λ t int e. absurd (let home = (h.holds.memory.slots.laid.homes t int).0 in let z : ⊥ = omega (arith, home, e, small) in z))

  dictionary_same : (y : SessionJob) → Has s.jobs y → RepresentsDictionary cpu'.core plan y
  dictionary_same y in_y =
      let d = dictionary_below plan 160 s.jobs y h.holds.fits.dictionaries in_y in
      let up = dictionary_above plan 160 s.jobs y h.holds.fits.dictionaries in_y in
      let o = h.holds.dictionaries y in_y in
      let at = plan.dictionary y.constants.number in
      record {
        mark = stayed at (omega (arith, d)) (inr (omega (arith, up))) (λ t int. no_mark x cpu.core cpu.regs (with_objects left (machine_view plan s.jobs)) h.holds.memory t int at o.mark) ∙ o.mark;
        entries = stayed (at + 1) (omega (arith, d)) (inr (omega (arith, up))) (λ t int. no_operand x cpu.core cpu.regs (with_objects left (machine_view plan s.jobs)) h.holds.memory t int (at + 1) (length y.constants.dictionary.cells) o.entries) ∙ o.entries;
      }

  pub SessionHolds-over : SessionHoldsBut left' x' cpu'.core cpu.regs cpu.critical plan s'
  SessionHolds-over = record {
    fits = record {
      rows = rows_alike plan s.jobs s'.jobs alike h.holds.fits.rows;
      peak = h.holds.fits.peak ∙ sym peak;
      few = h.holds.fits.few;
      sizes = λ n in_n. let t = twin s.jobs s'.jobs alike n in_n in t.alike.stack_size ∙ h.holds.fits.sizes t.member t.among;
      dictionaries = dictionaries_alike plan 160 s.jobs s'.jobs alike h.holds.fits.dictionaries;
      row_homes = λ n in_n. let t = twin s.jobs s'.jobs alike n in_n in row_homes_alike t.member n t.alike plan (h.holds.fits.row_homes t.member t.among);
    };
    memory = memory;
    settled = settled;
    dictionaries = λ n in_n. let t = twin s.jobs s'.jobs alike n in_n in dictionary_alike t.member n t.alike cpu'.core plan (dictionary_same t.member t.among);
    mcp = record { mark = mcp_word 0 (omega arith) ∙ h.holds.mcp.mark; intrinsics = λ n a b. mcp_word n (omega (arith, b)) ∙ h.holds.mcp.intrinsics n a b };
    vector = record {
      live = λ n u in_n in_u.
          let t = twin s.jobs s'.jobs alike n in_n in
          let in_m = has_task t.member n t.alike u in_u in
          ap (λ (i : ℕ). slice_get cpu'.core (32 + slot_of plan i u.number)) t.alike.number
          ∙ mcp_word (32 + slot_of plan t.member.constants.number u.number) (omega (arith, slot_below plan s.jobs t.member u h.holds.fits.rows t.among in_m, h.holds.fits.few))
          ∙ h.holds.vector.live t.member u t.among in_m
          ∙ ap (λ (i : ℕ). Some (vector_word plan i u.parents)) (sym t.alike.number);
      free = λ k small others. mcp_word (32 + k) (omega (arith, small)) ∙ h.holds.vector.free k small others;
    };
    critical = record {
      live = λ n u in_n in_u.
          let t = twin s.jobs s'.jobs alike n in_n in
          ap (λ (i : ℕ). slice_get cpu.critical (slot_of plan i u.number)) t.alike.number
          ∙ h.holds.critical.live t.member u t.among (has_task t.member n t.alike u in_u)
          ∙ ap Some (sym (critical_same t.member.progress.job n.progress.job t.alike.tasks u.frames));
      free = h.holds.critical.free;
    };
    live = λ z. let (y, t, r) = h.holds.live z in let k = running_twin plan s'.jobs s.jobs (backs s.jobs s'.jobs alike) y t r in (k.member, t, k.runs);
    running = λ n t r. let k = running_twin plan s.jobs s'.jobs alike n t r in task_stands_alike k.member n k.alike cpu.regs plan t (h.holds.running k.member t k.runs);
    none = h.holds.none;
  }

  pub RepresentsSession-over : RepresentsSessionBut left' x' cpu' plan s'
  RepresentsSession-over =
      let P : Regs → List ℕ → Type 0 = λ r marks. SessionHoldsBut left' x' cpu'.core r marks plan s' in
      record {
        holds = subst (λ (r : Regs). P r cpu'.critical) (sym regs) (subst (P cpu.regs) (sym critical) SessionHolds-over);
        shows = λ n t r.
            let k = running_twin plan s.jobs s'.jobs alike n t r in
            subst (λ (d : List ℕ). ShowsDisplay d plan n t) (sym display) (shows_alike k.member n k.alike cpu.display plan t (h.shows k.member t k.runs));
      }
