-- What is held at an address where no object is known is no matter of a view.
use Rattle.std.proofs.Common.{◌≡◌, ◌≢◌, ℕ, suc, ◌<◌, List, length, Some, None, sym, ◌∙◌, ap, inl, inr, subst, arith}
use Rattle.std.proofs.lemmas.Bool.{cases_eq}
use Rattle.b67_word.specs.Tagged.{Tagged}
use Rattle.b67_area.specs.declared.Info.{Info}
use Rattle.b67_ctl.specs.declared.registers.Regs.{Regs}
use Rattle.b67_lemmas.specs.Lists.{Has}
use Rattle.b67_stack.specs.Common.{Location, Fits, nowhere, words, PagedObject, MachineView, slot_base, stack_of, Storage, StacksLie, RepresentsObject, Owned, Represents, info_of}
use Rattle.b67_stack.proofs.Lies.{Lie-each}
use Rattle.b67_stack.proofs.Helds.{held-other, held-same}
use Rattle.b67_layout.proofs.Words.{copy_other}
use Rattle.b67_mcp.specs.Declaring.{storage_without}

module _ (x : Storage) (core : List Tagged) (r : Regs) (p : MachineView) (at : ℕ) (s : Represents x core r p) (apart : (t : PagedObject) → Has p.objects t → t.home ≢ at) where
  abbrev y : Storage
  y = storage_without x at

  other : (t : PagedObject) → Has p.objects t → y.held t.home ≡ x.held t.home
  other t i = held-other x.held at nowhere t.home (apart t i)

  no_area : (a : ℕ) → (x.held at).area ≡ Some a → ⊥
  no_area a e = let (t, i, h, q) = s.owned.of_held at a e in apart t i h

  stacks : StacksLie y.held core p
  stacks k h = Lie-each (Fits x.held) (Fits y.held) core core (suc (slot_base p k)) (words k (stack_of (p.slots k)))
      (λ c i v there low high get fit. (v, get, copy_other x.held at nowhere c i v no_area fit)) (s.stacks k h)

  object : (t : PagedObject) → Has p.objects t → RepresentsObject y core t
  object t i = grind arith

  info : (t : PagedObject) → Has p.objects t → info_of x t ≡ info_of y t
  info t i = ap (λ (k : ℕ). let b : Info = record { kind = t.kind; words = length t.numbers; owner = t.home; kept = k } in b) (ap (λ (g : Location). g.chain) (sym (other t i)))

  area_of : (t : PagedObject) → Has p.objects t → (y.held t.home).area ≡ (x.held t.home).area
  area_of t i = ap (λ (g : Location). g.area) (other t i)

  chain_in : (t : PagedObject) → Has p.objects t → (y.held t.home).chain ≡ (x.held t.home).chain
  chain_in t i = ap (λ (g : Location). g.chain) (other t i)

  owned : Owned y p.objects
  owned = record {
    of_area = λ a b e. let (t, i, h, q) = s.owned.of_area a b e in (t, i, area_of t i ∙ h, q ∙ info t i);
    of_held = λ home a e. elim (cases_eq home at) [
      | inl z ↦ absurd (let n : None ≡ Some a = sym (ap (λ (g : Location). g.area) (ap y.held z ∙ held-same x.held at nowhere)) ∙ e in let b : ⊥ = cc in b)
      | inr z ↦
          let (t, i, h, q) = s.owned.of_held home a (sym (ap (λ (g : Location). g.area) (held-other x.held at nowhere home z)) ∙ e) in
          (t, i, h, q ∙ ap Some (info t i))
    ];
    of_chain = λ first e. let (t, i, h) = s.owned.of_chain first e in (t, i, chain_in t i ∙ h);
    no_zero = s.owned.no_zero;
    one_chain = λ t u i j some e. s.owned.one_chain t u i j (subst (λ (n : ℕ). 0 < n) (chain_in t i) some) (sym (chain_in t i) ∙ e ∙ chain_in u j);
  }

  pub Represents-unheld : Represents (storage_without x at) core r p
  Represents-unheld = grind (arith, stacks, object, owned)
