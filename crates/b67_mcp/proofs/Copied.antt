-- The array that a word copies whole.
use Rattle.std.proofs.Common.{◌≡◌, ℕ, Ok, Err, sym, ◌∙◌, true, false, subst, arith}
use Rattle.std.proofs.lemmas.Bool.{true≢false, false≢true}
use Rattle.b67_word.specs.Tagged.{Tagged}
use Rattle.b67_word.specs.declared.faults.Fault.TheVariants.{InvalidOperand}
use Rattle.b67_ctl.specs.declared.descriptors.DataDesc.{DataDesc}
use Rattle.b67_model.specs.Common.{Word, Task, SessionJob, row_copy, Session}
use Rattle.b67_layout.specs.Common.{IsInOrderButCounts, Placement, IsRunning, RepresentsSession}
use Rattle.b67_refer.specs.Ends.{IsCopyOf}
use Rattle.b67_refer.proofs.Items.{not_empty}
use Rattle.b67_refer.proofs.Links.{Described, own, row, item}
use Rattle.b67_stack.specs.declared.Cpu.{Cpu}
use Rattle.b67_stack.specs.Represents.{Storage}
use Rattle.b67_refer.specs.RunningContext.{live_of}
use Rattle.b67_fetch.specs.Fetches.{IsFollowed}
use Rattle.b67_fetch.proofs.Values.{here_scene}
use Rattle.b67_fetch.specs.Indexes.{FindsArray}

module _ (x : Storage) (cpu : Cpu) (plan : Placement) (s : Session) (m : SessionJob) (t : Task) (ordered : IsInOrderButCounts s) (h : RepresentsSession x cpu plan s) (runs : IsRunning plan s.jobs m t) (w : Tagged) (v : Word) (i : IsFollowed x plan m t w v) where
  pub copy_found : (d : DataDesc) (original : ℕ) → Described cpu.core cpu.regs (live_of (here_scene x cpu plan s m t ordered h runs)) i.at i.owner v d → d.copy ≡ true → d.indexed ≡ false
      → ((home : ℕ) → IsCopyOf cpu.core d home → original ≡ home) → FindsArray plan m (Ok original) (row_copy v)
  copy_found d original (own b e c k o) z y found = absurd (false≢true (sym c ∙ z))
  copy_found d original (item b n e c j k l o) z y found = absurd (true≢false (sym j ∙ y))
  copy_found d original (row b e c j k o) z y found =
      let P : Word → Type 0 = λ u. FindsArray plan m (Ok original) (row_copy u) in
      subst P (sym e) (found (plan.home m.constants.number b) k, record { item = o.item; live = o.live; named = o.named; inside = not_empty cpu.core cpu.regs (live_of (here_scene x cpu plan s m t ordered h runs)) b o })

  -- no copy of a whole array
  pub no_copy : (d : DataDesc) → Described cpu.core cpu.regs (live_of (here_scene x cpu plan s m t ordered h runs)) i.at i.owner v d → (d.copy ≡ true → d.indexed ≡ false → ⊥) → FindsArray plan m (Err InvalidOperand) (row_copy v)
  no_copy d h none = grind arith
