-- The word of an element's copy of its array's descriptor.
use Rattle.std.proofs.Common.{◌≡◌, ℕ, ◌<◌, ◌^◌, refl, sym, ◌∙◌, ap, arith, Bool, true, false, subst}
use Rattle.b67_word.specs.Tagged.{Tagged}
use Rattle.b67_ctl.specs.declared.descriptors.DataDesc.{DataDesc}
use Rattle.b67_ctl.specs.Descriptors.{data_word, IsDataDesc}
use Rattle.b67_model.specs.Common.{Element, Task, SessionJob, Session}
use Rattle.b67_layout.specs.Common.{IsInOrderButCounts, Placement, IsRunning, RepresentsSession, IsWordOf}
use Rattle.b67_stack.specs.declared.Cpu.{Cpu}
use Rattle.b67_stack.specs.Represents.{Storage}
use Rattle.b67_exec_cells.specs.Elements.{HasElement, original_desc}
use Rattle.b67_exec_cells.proofs.Arrays as arrays

abbrev pub item_desc : DataDesc → Bool → ℕ → ℕ → DataDesc
item_desc d present index address = record { present = present; copy = true; indexed = true; read_only = d.read_only; length = index; address = address }

module _ (x : Storage) (cpu : Cpu) (plan : Placement) (s : Session) (m : SessionJob) (t : Task) (ordered : IsInOrderButCounts s) (h : RepresentsSession x cpu plan s) (runs : IsRunning plan s.jobs m t) (n index : ℕ) (e : HasElement m.progress.job n index) where
  small : index < 2 ^ 20
  small = let i = arrays.inside x cpu plan s m t ordered h runs n index e in let l = arrays.long x cpu plan s m t ordered h runs n index e in omega (arith, i, l)

  low : plan.home m.constants.number n < 2 ^ 20
  low = let i = arrays.home-inside x cpu plan s m t ordered h runs n index e in let b = arrays.bound x cpu plan s m t ordered h runs n index e in omega (arith, i, b)

  pub item-fits : (d : DataDesc) → d ≡ original_desc x plan m n → IsDataDesc (item_desc d d.present index d.address)
  item-fits d is = record {
    words = small;
    address = subst (λ (z : DataDesc). z.address < 2 ^ 20) (sym is) (arrays.desc-fits x cpu plan s m t ordered h runs n index e).address;
    indexed = λ z. refl;
  }

  pub home-fits : (d : DataDesc) (original : ℕ) → original ≡ plan.home m.constants.number n → IsDataDesc (item_desc d d.present index original)
  home-fits d original at = record { words = small; address = (let l = low in omega (arith, at, l)); indexed = λ z. refl }

  pub present-item : (d : DataDesc) (w : Tagged) (at : ℕ) → d ≡ original_desc x plan m n → d.present ≡ true → w ≡ data_word (item_desc d d.present index d.address) → IsWordOf x plan m t (Element n index) at w
  present-item d w at is on made = record {
    number = index;
    numbered = refl;
    present = true;
    address = d.address;
    fits = record { words = small; address = (item-fits d is).address; indexed = λ z. refl };
    is = made ∙ ap (λ (b : Bool). data_word (item_desc d b index d.address)) on ∙ ap (λ (z : DataDesc). data_word (item_desc z true index d.address)) is;
    to = arrays.present x cpu plan s m t ordered h runs n index e d is on;
  }

  pub absent-item : (d : DataDesc) (w : Tagged) (at : ℕ) → d ≡ original_desc x plan m n → d.present ≡ false → w ≡ data_word (item_desc d d.present index (plan.home m.constants.number n)) → IsWordOf x plan m t (Element n index) at w
  absent-item d w at is off made = grind (arith, small, low)
