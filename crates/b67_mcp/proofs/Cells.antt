-- Cells of the top activation record that are read, wherever they stand.
use Rattle.std.proofs.Common.{◌≡◌, ◌≢◌, ℕ, ◌+◌, ◌-◌, ◌<◌, ◌≤◌, ◌^◌, List, [], ◌∷◌, ◌++◌, map, length, Some, refl, sym, ◌∙◌, ap, arith, false, inl, subst}
use Rattle.std.specs.Prelude.{not}
use Rattle.std.specs.List.{slice_get}
use Rattle.std.proofs.lemmas.List.{length-map}
use Rattle.std.proofs.lemmas.Option.{same_Some}
use Rattle.b67_word.specs.Tagged.{Tagged}
use Rattle.b67_ctl.specs.Layout.{flag_bit}
use Rattle.b67_word.specs.declared.couples.Place.{Place}
use Rattle.b67_ctl.specs.declared.descriptors.DataDesc.{DataDesc}
use Rattle.b67_ctl.specs.Descriptors.{data_word, IsDataDesc}
use Rattle.b67_lemmas.specs.Lists.{Has}
use Rattle.b67_lemmas.proofs.Members.{all_in, has_append_right}
use Rattle.b67_model.specs.Common.{Word, Frame, Array, Task, SessionJob, top, is_original, Starts, IsSegment, Known, known_of, outer_of, WordInOrder, FramesInOrder, Session}
use Rattle.b67_layout.specs.Common.{IsInOrderButCounts, Placement, machine_view, IsRunning, RepresentsSession, cells}
use Rattle.b67_stack.specs.declared.Cpu.{Cpu}
use Rattle.b67_stack.specs.Common.{Fits, top_mark, Storage}
use Rattle.b67_layout.proofs.Fresh.{running_in_order}
use Rattle.b67_refer.specs.RunningContext.{RunningContext, live_of}
use Rattle.b67_entry.specs.Procedures.{ReachesProc}
use Rattle.b67_refer.proofs.Links.{Described}
use Rattle.b67_exec_cells.proofs.Put as Put
use Rattle.b67_exec_cells.proofs.Replaced.{word_under}
use Rattle.b67_fetch.specs.Fetches.{IsFollowed}
use Rattle.b67_fetch.proofs.Values.{here_scene}
use Rattle.b67_fetch.proofs.Found.{desc_is}

pub cell_order : (P : Starts) (arrays : List Array) (outer : List Known) (fs : List Frame) (w : Word) → FramesInOrder P arrays outer fs → Has (top fs).cells w → WordInOrder P arrays (map known_of fs ++ outer) (top fs).identity w
cell_order P arrays outer fs w g h = grind (arith, all_in)

module _ (x : Storage) (cpu : Cpu) (plan : Placement) (s : Session) (m : SessionJob) (t : Task) (ordered : IsInOrderButCounts s) (h : RepresentsSession x cpu plan s) (runs : IsRunning plan s.jobs m t) where
  -- the word that is read under some cells is followed as the next cell
  pub followed_at : (over rest : List Word) (w : Word) (above : ℕ) (v : Tagged) → cells t ≡ over ++ w ∷ rest → length over ≡ above → slice_get cpu.core (cpu.regs.s - above) ≡ Some v → IsFollowed x plan m t v w
  followed_at over rest w above v e many got =
      let shaped = Put.shaped x cpu plan s m t ordered h runs in
      let d = word_under x cpu.core cpu.regs (machine_view plan s.jobs) plan.running (Put.stack x cpu plan s m t ordered h runs) h.holds.memory (Put.runs_here x cpu plan s m t ordered h runs) (map shaped over) (shaped w) (map shaped rest) (Put.tops x cpu plan s m t ordered h runs over (w ∷ rest) e) in
      let at : cpu.regs.s - length (map shaped over) ≡ cpu.regs.s - above = ap (λ (k : ℕ). cpu.regs.s - k) (length-map over shaped ∙ many) in
      let same : d.0 ≡ v = same_Some d.0 v (sym d.1 ∙ ap (slice_get cpu.core) at ∙ got) in
      let P : ℕ → Type 0 = λ k. Fits x.held (shaped w) k v in
      let Q : Tagged → Type 0 = λ u. Fits x.held (shaped w) (cpu.regs.s - length (map shaped over)) u in
      let there : Has (cells t) w = subst (λ (cs : List Word). Has cs w) (sym e) (has_append_right over (w ∷ rest) w (inl refl)) in
      record {
        at = cpu.regs.s - above;
        owner = (top t.frames).identity;
        is = Put.shown x cpu plan s m t ordered h runs w (cpu.regs.s - above) v (subst P at (subst Q same d.2));
        ordered = cell_order (IsSegment m.constants) m.progress.job.arrays (outer_of m.progress.job t) t.frames w (running_in_order plan s m t ordered runs).1.frames there;
      }

  -- S stands above them, inside core
  pub reaches : (above : ℕ) → above + 1 ≤ length (cells t) → (above ≤ cpu.regs.s) × (cpu.regs.s - above < length cpu.core)
  reaches above enough =
      let stack = Put.stack x cpu plan s m t ordered h runs in
      let c = Put.counted x cpu plan s m t ordered h runs (top_mark cpu.regs.slot stack) (flag_bit (top_mark cpu.regs.slot stack).entered) refl refl in
      grind (arith, Put.room)

  -- F stands under them, and the cells are few
  pub counts : (cpu.regs.f + length (cells t) ≤ cpu.regs.s) × (length (cells t) < 2 ^ 20)
  counts =
      let stack = Put.stack x cpu plan s m t ordered h runs in
      let c = Put.counted x cpu plan s m t ordered h runs (top_mark cpu.regs.slot stack) (flag_bit (top_mark cpu.regs.slot stack).entered) refl refl in
      grind (arith, Put.room)

  module _ (w : Tagged) (v : Word) (i : IsFollowed x plan m t w v) where
    plain_by : (u : Word) → u ≡ v → w.tag ≢ 5 → is_original u ≡ false
    plain_by u e ne = grind arith

    pub plain_tag : w.tag ≢ 5 → is_original v ≡ false
    plain_tag ne = plain_by v refl ne

    by_desc : (d : DataDesc) → Described cpu.core cpu.regs (live_of (here_scene x cpu plan s m t ordered h runs)) i.at i.owner v d → not d.copy ≡ is_original v
    by_desc d h = grind arith

    -- by the descriptor that is read
    pub copy_tells : (five : w.tag ≡ 5) (d : DataDesc) → ((e : DataDesc) → IsDataDesc e → w ≡ data_word e → d ≡ e) → not d.copy ≡ is_original v
    copy_tells five d read = by_desc d (desc_is x cpu plan s m t ordered h runs w v i five d read)

-- a slot's size in the registers is that of a stack
pub sizes : (cpu : Cpu) (a : RunningContext cpu.core cpu.regs) (q : Place) (at f segment level : ℕ) (place : Place) → ReachesProc cpu a q at f segment level place → cpu.regs.stack_size ≡ a.member.constants.stack_size
sizes cpu a q at f segment level place e = e.stands.holds.memory.slots.regs.size ∙ sym (Put.size-is a.storage cpu a.plan a.session a.member a.task e.ordered e.stands a.running)
