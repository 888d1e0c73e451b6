-- The cells of procedures and of intrinsics.
use Rattle.std.proofs.Common.{◌≡◌, ℕ, ◌<◌, ◌≤◌, List, length, Some, Ok, sym, ◌∙◌, ap, arith, ⊎_elim}
use Rattle.std.specs.Option.{ok_or}
use Rattle.std.proofs.lemmas.Bool.{cases_lt}
use Rattle.std.proofs.lemmas.List.{length-reverse}
use Rattle.b67_word.specs.Tagged.{Tagged}
use Rattle.b67_word.specs.declared.couples.Place.{Place}
use Rattle.b67_word.specs.declared.faults.Fault.TheVariants.{InvalidAddress}
use Rattle.b67_ctl.specs.declared.registers.Regs.{Regs}
use Rattle.b67_ctl.specs.declared.programs.IntrinsicPcw.{IntrinsicPcw}
use Rattle.b67_ctl.specs.Layout.{intrinsic_word, IsIntrinsicPcw}
use Rattle.b67_lemmas.proofs.Members.{all_in}
use Rattle.b67_model.specs.Words as Words
use Rattle.b67_model.specs.Common.{Word, Operand, Name, Ref, Row, Element, Original, Proc, Intrinsic, Frame, mcp, frame, cell_of, EntryInOrder, link_at}
use Rattle.b67_law.proofs.Chases.{cell_has}
use Rattle.b67_layout.specs.Meets.{here}
use Rattle.b67_layout.proofs.Sessions.{words_enough}
use Rattle.b67_refer.specs.declared.ends.End.TheVariants as end
use Rattle.b67_refer.specs.RunningContext.{LiveContext}
use Rattle.b67_refer.specs.LiveCells.{StandsFor, IsCellAt}
use Rattle.b67_refer.specs.LiveEnds.{LinkMeets}
use Rattle.b67_refer.proofs.Marks.{frame_dictionary, frame_mcp}

abbrev IsNoProc : Word → Type 0
IsNoProc (Proc segment level place) = ⊥
IsNoProc _ = Unit {0}

no_entry : (arrays : List Rattle.b67_model.specs.State.Array) (segment level : ℕ) (place : Place) → EntryInOrder arrays (Proc segment level place) → ⊥
no_entry arrays segment level place e = e

module _ (core : List Tagged) (r : Regs) (a : LiveContext core r) (q : Place) where
  -- a procedure's cell lies in a frame of a task
  pub proc_own : (at f offset segment level : ℕ) (place : Place) → IsCellAt a q at f offset (Proc segment level place) → 1 < f
  proc_own at f offset segment level place c = ⊎_elim
      (λ (own : 1 < f). own)
      (λ (low : f ≤ 1). absurd (⊎_elim
      (λ (z : f < 1).
      (let is : f ≡ 0 = omega (arith, z) in
      let h = cell_has mcp offset (Proc segment level place) (sym (ap (λ (g : Frame). ok_or (cell_of g offset) InvalidAddress) (ap (frame (here a.member a.runner q)) is ∙ frame_mcp core r a q)) ∙ c.found) in
      all_in IsNoProc mcp.cells (Proc segment level place) (tt, (tt, (tt, (tt, (tt, (tt, (tt, (tt, (tt, (tt, (tt, tt))))))))))) h))
      (λ (z : 1 ≤ f).
      (let is : f ≡ 1 = omega (arith, z, low) in
      let h = cell_has a.member.constants.dictionary offset (Proc segment level place) (sym (ap (λ (g : Frame). ok_or (cell_of g offset) InvalidAddress) (ap (frame (here a.member a.runner q)) is ∙ frame_dictionary core r a q)) ∙ c.found) in
      no_entry a.member.progress.job.arrays segment level place (all_in (EntryInOrder a.member.progress.job.arrays) a.member.constants.dictionary.cells (Proc segment level place) a.ordered.tasks.entries h)))
      (cases_lt f 1)))
      (cases_lt 1 f)

  pub segments_few : length a.member.constants.segments ≤ 255
  segments_few = grind (arith, words_enough, length-reverse)

  -- a word that is that of an intrinsic
  pub intrinsic_is : (at owner : ℕ) (v : Tagged) (w : Word) (p : IntrinsicPcw) → StandsFor a at owner v w → IsIntrinsicPcw p → v ≡ intrinsic_word p → (w ≡ Intrinsic p.number) × (p.number ≤ 18)
  intrinsic_is at owner v w p s i e = grind (arith, segments_few)

  pub intrinsic_end : (at f offset : ℕ) (w : Word) (p : IntrinsicPcw) (k : ℕ) (c : IsCellAt a q at f offset w) → IsIntrinsicPcw p → c.word ≡ intrinsic_word p → k ≡ p.number → LinkMeets a q (Ok (Some (end.Intrinsic k))) (link_at (here a.member a.runner q) f offset w)
  intrinsic_end at f offset w p k c i e z =
      let is = intrinsic_is at f c.word w p c.stands i e in
      grind arith

  -- another word of tag 7 is that of a procedure
  pub proc_end : (at f offset : ℕ) (w : Word) (v : Tagged) → IsCellAt a q at f offset w → StandsFor a at f v w → v.tag ≡ 7 → ((p : IntrinsicPcw) → IsIntrinsicPcw p → v ≡ intrinsic_word p → ⊥) → LinkMeets a q (Ok (Some (end.Proc at))) (link_at (here a.member a.runner q) f offset w)
  proc_end at f offset (Operand bits) v c s t other = absurd (let z = ap (λ (x : Tagged). x.tag) s.0.0 in omega (arith, z, t))
  proc_end at f offset (Name d) v c s t other = absurd (let z = ap (λ (x : Tagged). x.tag) s.0.0 in omega (arith, z, t))
  proc_end at f offset (Ref g d) v c s t other = absurd (let z = ap (λ (x : Tagged). x.tag) s.0.0 in omega (arith, z, t))
  proc_end at f offset (Row b) v c s t other = absurd (let z = ap (λ (x : Tagged). x.tag) s.0.is in omega (arith, z, t))
  proc_end at f offset (Element b d) v c s t other = absurd (let z = ap (λ (x : Tagged). x.tag) s.0.is in omega (arith, z, t))
  proc_end at f offset (Original b) v c s t other = absurd (let z = ap (λ (x : Tagged). x.tag) s.0.1.is in omega (arith, z, t))
  proc_end at f offset (Proc segment level place) v c s t other = record { own = proc_own at f offset segment level place c; offset = offset; cell = c }
  proc_end at f offset (Intrinsic n) v c s t other = absurd (other (record { number = n }) (record { number = omega (arith, s.2) }) s.0)
  proc_end at f offset (Words.Segment n) v c s t other = absurd (omega (arith, s, t))
