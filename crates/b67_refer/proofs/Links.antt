-- What the words of cells come to, and one turn of a chain of references.
use Rattle.std.proofs.Common.{◌≡◌, ℕ, List, Some, None, Result, Ok, Err, refl, sym, ◌∙◌, ap, arith, true, false, subst}
use Rattle.std.specs.List.{slice_get}
use Rattle.std.proofs.lemmas.Bool.{true≢false, false≢true}
use Rattle.b67_word.specs.Tagged.{Tagged}
use Rattle.b67_word.specs.declared.couples.Place.{Place}
use Rattle.b67_ctl.specs.declared.registers.Regs.{Regs}
use Rattle.b67_ctl.specs.declared.descriptors.DataDesc.{DataDesc}
use Rattle.b67_ctl.specs.Descriptors.{data_word, IsDataDesc}
use Rattle.b67_model.specs.Words as Words
use Rattle.b67_model.specs.Common.{Word, Operand, Name, Ref, Row, Element, Original, Proc, Intrinsic, Answer, Stops, element_end, link_at, follow, NamesEntered, NamesArray, OwnsArray}
use Rattle.b67_model.specs.Chase as Chase
use Rattle.b67_layout.specs.Meets.{here}
use Rattle.b67_stack.specs.Shapes.{Copied, copy_desc, IsCopy}
use Rattle.b67_refer.specs.declared.ends.End.{End}
use Rattle.b67_refer.specs.declared.ends.End.TheVariants as end
use Rattle.b67_word.specs.declared.faults.Fault.{Fault}
use Rattle.b67_refer.specs.RunningContext.{LiveContext}
use Rattle.b67_refer.specs.LiveCells.{reach, StandsFor, IsCellAt}
use Rattle.b67_refer.specs.LiveEnds.{EndMeets, LinkMeets, on_link}
use Rattle.b67_refer.specs.Ends.{IsCopyOf, HasTagAt}
use Rattle.b67_refer.proofs.Bases.{viewed}

module _ (core : List Tagged) (r : Regs) (a : LiveContext core r) where
  -- a copy by its descriptor
  pub copy_of : (c : Copied) (home : ℕ) (v : Tagged) (d : DataDesc) → IsDataDesc d → v ≡ data_word d → IsCopy a.storage.held c home v → IsCopyOf core d home
  copy_of c home v d fits e is = record { storage = a.storage; registers = r; machine_view = viewed core r a; stands = a.holds.memory; copied = c; fits = fits; is = subst (λ (w : Tagged). IsCopy a.storage.held c home w) e is }

  -- a data descriptor among the words that represent something: an original, a row copy or an element copy
  pub data Described (at owner : ℕ) (w : Word) (d : DataDesc) : Type 0 where
    own : (array : ℕ) → w ≡ Original array → d.copy ≡ false → at ≡ a.plan.home a.member.constants.number array → OwnsArray a.member.progress.job.arrays owner array → Described at owner w d
    row : (array : ℕ) → w ≡ Row array → d.copy ≡ true → d.indexed ≡ false → IsCopyOf core d (a.plan.home a.member.constants.number array) → NamesArray a.member.progress.job.arrays (reach a) array → Described at owner w d
    item : (array index : ℕ) → w ≡ Element array index → d.copy ≡ true → d.indexed ≡ true → d.length ≡ index → IsCopyOf core d (a.plan.home a.member.constants.number array) → NamesArray a.member.progress.job.arrays (reach a) array → Described at owner w d

  pub described : (at owner : ℕ) (v : Tagged) (w : Word) → StandsFor a at owner v w → v.tag ≡ 5 → (d : DataDesc) × IsDataDesc d × (v ≡ data_word d) × Described at owner w d
  described at owner v (Operand bits) s t = absurd (let z = ap (λ (x : Tagged). x.tag) s.0.0 in omega (arith, z, t))
  described at owner v (Name c) s t = absurd (let z = ap (λ (x : Tagged). x.tag) s.0.0 in omega (arith, z, t))
  described at owner v (Ref g d) s t = absurd (let z = ap (λ (x : Tagged). x.tag) s.0.0 in omega (arith, z, t))
  described at owner v (Row b) s t =
      let f = s.0 in
      let c : Copied = record { index = None; read_only = Rattle.std.specs.Prelude.not (Rattle.b67_model.specs.Arrays.array a.member.progress.job b).writable } in
      (copy_desc c f.number f.present f.address, f.fits, f.is, row b refl refl refl (copy_of c (a.plan.home a.member.constants.number b) v (copy_desc c f.number f.present f.address) f.fits f.is f) s.1)
  described at owner v (Element b i) s t =
      let f = s.0 in
      let c : Copied = record { index = Some i; read_only = Rattle.std.specs.Prelude.not (Rattle.b67_model.specs.Arrays.array a.member.progress.job b).writable } in
      (copy_desc c f.number f.present f.address, f.fits, f.is, item b i refl refl refl f.numbered (copy_of c (a.plan.home a.member.constants.number b) v (copy_desc c f.number f.present f.address) f.fits f.is f) s.1)
  described at owner v (Original b) s t = let f = s.0.1 in (f.desc, f.fits, f.is, own b refl f.own s.0.0 s.1)
  described at owner v (Proc g l p) s t = absurd (let z = ap (λ (x : Tagged). x.tag) s.0.0 in omega (arith, z, t))
  described at owner v (Intrinsic n) s t = absurd (let z = ap (λ (x : Tagged). x.tag) s.0 in omega (arith, z, t))
  described at owner v (Words.Segment n) s t = absurd (omega (arith, s, t))

  module _ (q : Place) (at f offset : ℕ) where
    -- the end at a descriptor
    pub end_own : (w : Word) (d : DataDesc) → NamesEntered (reach a) f → Described at f w d → d.copy ≡ false → LinkMeets a q (Ok (Some (end.Array at))) (link_at (here a.member a.runner q) f offset w)
    end_own w d n h z = grind arith

    pub end_row : (w : Word) (d : DataDesc) (original : ℕ) → Described at f w d → d.copy ≡ true → d.indexed ≡ false → ((home : ℕ) → IsCopyOf core d home → original ≡ home) → LinkMeets a q (Ok (Some (end.Array original))) (link_at (here a.member a.runner q) f offset w)
    end_row w d original (own b e c h o) z y found = absurd (false≢true (sym c ∙ z))
    end_row w d original (row b e c i h o) z y found = let P : Word → Type 0 = λ x. LinkMeets a q (Ok (Some (end.Array original))) (link_at (here a.member a.runner q) f offset x) in subst P (sym e) (record { home = found (a.plan.home a.member.constants.number b) h; names = o })
    end_row w d original (item b x e c i k h o) z y found = absurd (true≢false (sym i ∙ y))

    pub end_item : (w : Word) (d : DataDesc) (found : Result End Fault) → Described at f w d → d.copy ≡ true → d.indexed ≡ true → EndMeets a q found (follow (here a.member a.runner q) w)
        → LinkMeets a q (on_link found) (link_at (here a.member a.runner q) f offset w)
    end_item w d found (own b e c h o) z y m = absurd (false≢true (sym c ∙ z))
    end_item w d found (row b e c i h o) z y m = absurd (false≢true (sym i ∙ y))
    end_item w d found (item b x e c i k h o) z y m =
        let F : Word → Type 0 = λ v. EndMeets a q found (follow (here a.member a.runner q) v) in
        let P : Word → Type 0 = λ v. LinkMeets a q (on_link found) (link_at (here a.member a.runner q) f offset v) in
        subst P (sym e) (linked found (element_end (here a.member a.runner q) b x) (subst F e m))
      where
        linked : (r : Result End Fault) (end : Answer Chase.End) → EndMeets a q r end → LinkMeets a q (on_link r) (Stops end)
        linked (Ok r) (Ok end) m = m
        linked (Err x) (Err y) m = m
        linked (Ok r) (Err y) m = absurd m
        linked (Err x) (Ok end) m = absurd m

  pub copied : (at owner : ℕ) (w : Word) (d : DataDesc) → Described at owner w d → d.copy ≡ true → (home : ℕ) × IsCopyOf core d home
  copied at owner w d h z = grind arith

  -- the descriptor that a cell's word is
  pub cell_described : (q : Place) (at f offset : ℕ) (w : Word) (v : Tagged) → IsCellAt a q at f offset w → HasTagAt core at 5 → slice_get core at ≡ Some v → (d : DataDesc) × IsDataDesc d × (v ≡ data_word d) × Described at f w d
  cell_described q at f offset w v c t there = grind (arith, described)

  pub read_described : (q : Place) (at f offset : ℕ) (w : Word) (v : Tagged) (d : DataDesc) → IsCellAt a q at f offset w → HasTagAt core at 5 → slice_get core at ≡ Some v
      → ((x : DataDesc) → IsDataDesc x → v ≡ data_word x → d ≡ x) → Described at f w d
  read_described q at f offset w v d c t there known =
      let k = cell_described q at f offset w v c t there in
      subst (Described at f w) (sym (known k.0 k.1 k.2)) k.3
