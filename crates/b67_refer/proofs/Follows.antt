-- Words that are no references, and element copies.
use Rattle.std.proofs.Common.{◌≡◌, ℕ, List, Result, Err, refl, sym, ◌∙◌, arith, true, false, subst}
use Rattle.std.proofs.lemmas.Bool.{false≢true}
use Rattle.b67_word.specs.Tagged.{Tagged}
use Rattle.b67_word.specs.declared.couples.Place.{Place}
use Rattle.b67_word.specs.declared.faults.Fault.TheVariants.{InvalidOperand}
use Rattle.b67_ctl.specs.declared.registers.Regs.{Regs}
use Rattle.b67_ctl.specs.declared.descriptors.DataDesc.{DataDesc}
use Rattle.b67_ctl.specs.Descriptors.{data_word, IsDataDesc}
use Rattle.b67_model.specs.Words as Words
use Rattle.b67_model.specs.Common.{Word, Operand, Name, Ref, Row, Element, Original, Proc, Intrinsic, element_end, chase, follow, NamesArray}
use Rattle.b67_layout.specs.Meets.{here}
use Rattle.b67_refer.specs.declared.ends.End.{End}
use Rattle.b67_word.specs.declared.faults.Fault.{Fault}
use Rattle.b67_refer.specs.RunningContext.{LiveContext}
use Rattle.b67_refer.specs.LiveCells.{reach, StandsFor}
use Rattle.b67_refer.specs.LiveEnds.{IsReference, EndMeets}
use Rattle.b67_refer.specs.Ends.{IsCopyOf}
use Rattle.b67_refer.proofs.Links.{Described, own, row, item, described}

module _ (core : List Tagged) (r : Regs) (a : LiveContext core r) where
  pub is_reference : (at owner : ℕ) (w : Tagged) (v : Word) → StandsFor a at owner w v → w.tag ≡ 1 → IsReference v
  is_reference at owner w v s t = grind arith

  module _ (q : Place) where
    pub follows_reference : (v : Word) → IsReference v → follow (here a.member a.runner q) v ≡ chase (here a.member a.runner q) v
    follows_reference (Name c) ref = refl
    follows_reference (Ref g d) ref = refl
    follows_reference (Operand b) ref = absurd ref
    follows_reference (Row b) ref = absurd ref
    follows_reference (Element b d) ref = absurd ref
    follows_reference (Original b) ref = absurd ref
    follows_reference (Proc g l p) ref = absurd ref
    follows_reference (Intrinsic n) ref = absurd ref
    follows_reference (Words.Segment n) ref = absurd ref

    pub follows_none : (at owner : ℕ) (w : Tagged) (v : Word) → StandsFor a at owner w v → (w.tag ≡ 1 → ⊥) → (w.tag ≡ 5 → ⊥) → EndMeets a q (Err InvalidOperand) (follow (here a.member a.runner q) v)
    follows_none at owner w v s one five = grind arith

    -- a whole array isn't followed
    pub follows_whole : (at owner : ℕ) (v : Word) (d : DataDesc) → Described core r a at owner v d → d.indexed ≡ false → EndMeets a q (Err InvalidOperand) (follow (here a.member a.runner q) v)
    follows_whole at owner v d h z = grind arith

    pub follows_item : (at owner : ℕ) (v : Word) (d : DataDesc) (original : ℕ) (found : Result End Fault) → Described core r a at owner v d → IsDataDesc d → d.indexed ≡ true → ((home : ℕ) → IsCopyOf core d home → original ≡ home)
        → ((n : ℕ) → original ≡ a.plan.home a.member.constants.number n → NamesArray a.member.progress.job.arrays (reach a) n → EndMeets a q found (element_end (here a.member a.runner q) n d.length))
        → EndMeets a q found (follow (here a.member a.runner q) v)
    follows_item at owner v d original found (own b e c h o) fits z is each = absurd (false≢true (sym c ∙ fits.indexed z))
    follows_item at owner v d original found (row b e c i h o) fits z is each = absurd (false≢true (sym i ∙ z))
    follows_item at owner v d original found (item b x e c i k h o) fits z is each =
        let E : ℕ → Type 0 = λ n. EndMeets a q found (element_end (here a.member a.runner q) b n) in
        let P : Word → Type 0 = λ y. EndMeets a q found (follow (here a.member a.runner q) y) in
        subst P (sym e) (subst E k (each b (is (a.plan.home a.member.constants.number b) h) o))

  pub item_copied : (at owner : ℕ) (v : Word) (d : DataDesc) → Described core r a at owner v d → IsDataDesc d → d.indexed ≡ true → (home : ℕ) × IsCopyOf core d home
  item_copied at owner v d (own b e c h o) fits z = absurd (false≢true (sym c ∙ fits.indexed z))
  item_copied at owner v d (row b e c i h o) fits z = absurd (false≢true (sym i ∙ z))
  item_copied at owner v d (item b x e c i k h o) fits z = (a.plan.home a.member.constants.number b, h)

  pub item_named : (at owner : ℕ) (v : Word) (d : DataDesc) (original : ℕ) → Described core r a at owner v d → IsDataDesc d → d.indexed ≡ true → ((home : ℕ) → IsCopyOf core d home → original ≡ home)
      → (n : ℕ) × (original ≡ a.plan.home a.member.constants.number n) × NamesArray a.member.progress.job.arrays (reach a) n
  item_named at owner v d original (own b e c h o) fits z is = absurd (false≢true (sym c ∙ fits.indexed z))
  item_named at owner v d original (row b e c i h o) fits z is = absurd (false≢true (sym i ∙ z))
  item_named at owner v d original (item b x e c i k h o) fits z is = (b, is (a.plan.home a.member.constants.number b) h, o)

  pub word_described : (at owner : ℕ) (w : Tagged) (v : Word) (d : DataDesc) → StandsFor a at owner w v → w.tag ≡ 5 → ((x : DataDesc) → IsDataDesc x → w ≡ data_word x → d ≡ x) → Described core r a at owner v d × IsDataDesc d
  word_described at owner w v d s t known =
      let k = described core r a at owner w v s t in
      let same : k.0 ≡ d = sym (known k.0 k.1 k.2) in
      (subst (Described core r a at owner v) same k.3, subst IsDataDesc same k.1)
