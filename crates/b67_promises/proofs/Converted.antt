-- A codefile in version 2 holds the same program.
use Rattle.std.proofs.Common.{◌≡◌, length, inr, refl, sym, ap, ◌∙◌, Ok}
use Rattle.b67_codefile.specs.declared.file.Codefile.{Codefile}
use Rattle.b67_codefile.specs.Spelling.{spelling, IsWithin}
use Rattle.b67_codefile.specs.Reading.{told}
use Rattle.b67_codefile.proofs.Forms.{reading_again}
use Rattle.b67_codefile.proofs.Found.{is_found}
use Rattle.b67_job.specs.Admitting.{of_file}
use Rattle.b67_promises.specs.Cards.{ConvertingKeepsPrograms}

in_second : (f : Codefile) → IsWithin f → IsWithin (record f { version = 2 })
in_second f h = record { version = inr refl; count = h.count; segments = h.segments; rows = h.rows; plain = λ one. let z : ⊥ = cc in absurd z }

pub converting_keeps_programs : ConvertingKeepsPrograms
converting_keeps_programs card bytes f small e =
    let second : Codefile = record f { version = 2 } in
    let found : IsWithin f × (bytes ≡ spelling f) = is_found bytes (Ok f) small e in
    let within = found.0 in
    ap (λ r. of_file card (told (length (spelling second)) r)) (reading_again second (in_second f within)) ∙ ap (of_file card) (sym e)
