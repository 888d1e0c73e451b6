-- The array that a word leads to.
use Rattle.std.proofs.Common.{◌≡◌, ◌≢◌, ℕ, List, Ok, Err, refl, sym, ◌∙◌, ap, true, false, subst, arith}
use Rattle.std.proofs.lemmas.Bool.{true≢false, false≢true}
use Rattle.b67_word.specs.Tagged.{Tagged}
use Rattle.b67_word.specs.declared.couples.Place.{Place}
use Rattle.b67_word.specs.declared.faults.Fault.{Fault}
use Rattle.b67_word.specs.declared.faults.Fault.TheVariants.{InvalidOperand}
use Rattle.b67_ctl.specs.declared.descriptors.DataDesc.{DataDesc}
use Rattle.b67_ctl.specs.Descriptors.{data_word, IsDataDesc}
use Rattle.b67_model.specs.Common.{Answer, ◌>>=◌, Word, Row, Element, Task, SessionJob, follow, array_of, array_at, Session}
use Rattle.b67_model.specs.Chase as Chase
use Rattle.b67_layout.specs.Common.{IsInOrderButCounts, Placement, IsRunning, RepresentsSession, here}
use Rattle.b67_refer.specs.declared.ends.End.{End}
use Rattle.b67_refer.specs.Ends.{IsCopyOf}
use Rattle.b67_refer.proofs.Items.{not_empty}
use Rattle.b67_refer.proofs.Links.{Described, own, row, item, described}
use Rattle.b67_stack.specs.declared.Cpu.{Cpu}
use Rattle.b67_stack.specs.Represents.{Storage}
use Rattle.b67_refer.specs.RunningContext.{live_of}
use Rattle.b67_fetch.specs.Fetches.{IsFollowed, FindsEnd}
use Rattle.b67_fetch.proofs.Values.{here_scene, followed_stands}
use Rattle.b67_fetch.specs.Indexes.{array_in, FindsArray}

module _ (x : Storage) (plan : Placement) (m : SessionJob) (t : Task) (q : Place) where
  -- a word that is no descriptor is followed
  not_row : (w : Tagged) (v : Word) → IsFollowed x plan m t w v → w.tag ≢ 5 → array_of (here m t q) v ≡ (follow (here m t q) v >>= array_at)
  not_row w (Row a) i ne = absurd (ne (ap (λ (z : Tagged). z.tag) i.is.is))
  not_row w (Element a k) i ne = absurd (ne (ap (λ (z : Tagged). z.tag) i.is.is))
  not_row w _ i ne = refl

  -- by the end of the reference
  at_end : (core : List Tagged) (found : End) (e : Answer Chase.End) → FindsEnd plan m core (Ok found) e → FindsArray plan m (array_in found) (e >>= array_at)
  at_end core found e i = grind arith

  refused : (core : List Tagged) (fault : Fault) (e : Answer Chase.End) → FindsEnd plan m core (Err fault) e → FindsArray plan m (Err fault) (e >>= array_at)
  refused core fault e i = grind arith

  pub found_end : (core : List Tagged) (w : Tagged) (v : Word) (found : End) → IsFollowed x plan m t w v → w.tag ≢ 5 → FindsEnd plan m core (Ok found) (follow (here m t q) v) → FindsArray plan m (array_in found) (array_of (here m t q) v)
  found_end core w v found i ne e = subst (FindsArray plan m (array_in found)) (sym (not_row w v i ne)) (at_end core found (follow (here m t q) v) e)

  pub found_fault : (core : List Tagged) (w : Tagged) (v : Word) (fault : Fault) → IsFollowed x plan m t w v → w.tag ≢ 5 → FindsEnd plan m core (Err fault) (follow (here m t q) v) → FindsArray plan m (Err fault) (array_of (here m t q) v)
  found_fault core w v fault i ne e = subst (FindsArray plan m (Err fault)) (sym (not_row w v i ne)) (refused core fault (follow (here m t q) v) e)

-- a descriptor
module _ (x : Storage) (cpu : Cpu) (plan : Placement) (s : Session) (m : SessionJob) (t : Task) (ordered : IsInOrderButCounts s) (h : RepresentsSession x cpu plan s) (runs : IsRunning plan s.jobs m t) (w : Tagged) (v : Word) (i : IsFollowed x plan m t w v) (five : w.tag ≡ 5) where
  abbrev pub Desc : DataDesc → Type 0
  Desc d = Described cpu.core cpu.regs (live_of (here_scene x cpu plan s m t ordered h runs)) i.at i.owner v d

  pub desc : (d : DataDesc) × IsDataDesc d × (w ≡ data_word d) × Desc d
  desc = described cpu.core cpu.regs (live_of (here_scene x cpu plan s m t ordered h runs)) i.at i.owner w v (followed_stands x cpu plan s m t ordered h runs w v i) five

  -- the one that is read
  pub desc_is : (d : DataDesc) → ((e : DataDesc) → IsDataDesc e → w ≡ data_word e → d ≡ e) → Desc d
  desc_is d read = subst Desc (sym (read desc.0 desc.1 desc.2)) desc.3

  pub row_copied : (d : DataDesc) → Desc d → d.copy ≡ true → d.indexed ≡ false → (home : ℕ) × IsCopyOf cpu.core d home
  row_copied d (own b e c k o) z y = absurd (false≢true (sym c ∙ z))
  row_copied d (row b e c j k o) z y = (plan.home m.constants.number b, k)
  row_copied d (item b n e c j k l o) z y = absurd (true≢false (sym j ∙ y))

  pub row_found : (q : Place) (d : DataDesc) (original : ℕ) → Desc d → d.copy ≡ true → d.indexed ≡ false → ((home : ℕ) → IsCopyOf cpu.core d home → original ≡ home) → FindsArray plan m (Ok original) (array_of (here m t q) v)
  row_found q d original (own b e c k o) z y found = absurd (false≢true (sym c ∙ z))
  row_found q d original (item b n e c j k l o) z y found = absurd (true≢false (sym j ∙ y))
  row_found q d original (row b e c j k o) z y found =
      let P : Word → Type 0 = λ u. FindsArray plan m (Ok original) (array_of (here m t q) u) in
      subst P (sym e) (found (plan.home m.constants.number b) k, record { item = o.item; live = o.live; named = o.named; inside = not_empty cpu.core cpu.regs (live_of (here_scene x cpu plan s m t ordered h runs)) b o })

  -- no row copy
  pub no_row : (q : Place) (d : DataDesc) → Desc d → (d.copy ≡ true → d.indexed ≡ false → ⊥) → FindsArray plan m (Err InvalidOperand) (array_of (here m t q) v)
  no_row q d h none = grind arith
