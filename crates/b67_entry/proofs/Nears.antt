-- The displacement that a couple's word names.
use Rattle.std.proofs.Common.{◌≡◌, ℕ, ◌∙◌, ap}
use Rattle.b67_word.specs.Tagged.{Tagged}
use Rattle.b67_word.specs.Couples.{couple}
use Rattle.b67_word.specs.declared.couples.Couple.{Couple}
use Rattle.b67_ctl.specs.declared.references.Irw.{Irw}
use Rattle.b67_ctl.specs.Layout.{irw_word}

pub near_disp : (name : Irw) (w : Tagged) (bits level : ℕ) (c : Couple) (disp : ℕ) → w ≡ irw_word name → bits ≡ w.bits → c ≡ couple bits level → disp ≡ c.disp → disp ≡ (couple name.couple level).disp
near_disp name w bits level c disp is read split at = at ∙ ap (λ (k : Couple). k.disp) split ∙ ap (λ (b : ℕ). (couple b level).disp) (read ∙ ap (λ (v : Tagged). v.bits) is)
