-- What a first syllable begins.
use Rattle.std.specs.Prelude.{ℕ, ◌+◌, ◌*◌, ◌%◌, Option, Some, None}
use Rattle.b67_model.specs.declared.operators.Op.TheVariants.{Valc, Namc, Lt8, Lt16, Lt48, Mpcw, Brun, Brtr, Brfl}
use Rattle.b67_model.specs.declared.operators.Code.TheVariants as codes
use Rattle.b67_model.specs.Operators.{Form, Alone, OneMore, TwoMore, Literal, branch}
use Rattle.b67_exec.specs.declared.firsts.Near.{Near}
use Rattle.b67_exec.specs.declared.firsts.Near.TheVariants as near

abbrev pub near_form : Near → ℕ → Option Form
near_form near.Other first = None
near_form (near.Far code) first = Some (Alone code)
near_form near.Valc first = Some (OneMore (λ low. Valc (first % 64 * 256 + low)))
near_form near.Namc first = Some (OneMore (λ low. Namc (first % 64 * 256 + low)))
near_form near.Lt8 first = Some (OneMore Lt8)
near_form near.Lt16 first = Some (TwoMore (λ high low. Lt16 (high * 256 + low)))
near_form near.Lt48 first = Some (Literal Lt48)
near_form near.Mpcw first = Some (Literal Mpcw)
near_form near.Zero first = Some (Alone codes.Zero)
near_form near.One first = Some (Alone codes.One)
near_form near.Add first = Some (Alone codes.Add)
near_form near.Subt first = Some (Alone codes.Subt)
near_form near.Less first = Some (Alone codes.Less)
near_form near.Greq first = Some (Alone codes.Greq)
near_form near.Grtr first = Some (Alone codes.Grtr)
near_form near.Lseq first = Some (Alone codes.Lseq)
near_form near.Equl first = Some (Alone codes.Equl)
near_form near.Neql first = Some (Alone codes.Neql)
near_form near.Push first = Some (Alone codes.Push)
near_form near.Dlet first = Some (Alone codes.Dlet)
near_form near.Exch first = Some (Alone codes.Exch)
near_form near.Dupl first = Some (Alone codes.Dupl)
near_form near.Brfl first = Some (branch Brfl)
near_form near.Brtr first = Some (branch Brtr)
near_form near.Brun first = Some (branch Brun)
near_form near.Indx first = Some (Alone codes.Indx)
near_form near.Nxlv first = Some (Alone codes.Nxlv)
near_form near.Mkst first = Some (Alone codes.Mkst)
near_form near.Stff first = Some (Alone codes.Stff)
near_form near.Stod first = Some (Alone codes.Stod)
near_form near.Ston first = Some (Alone codes.Ston)
near_form near.Load first = Some (Alone codes.Load)
near_form near.Entr first = Some (Alone codes.Entr)
near_form near.Exit first = Some (Alone codes.Exit)
near_form near.Retn first = Some (Alone codes.Retn)
