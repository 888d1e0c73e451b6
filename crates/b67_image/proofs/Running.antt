-- What a run asks of a machine that was read.
use Rattle.std.proofs.Common.{◌≡◌, ℕ, ◌+◌, ◌-◌, ◌≤◌, true, List, length, Option, Some, None, Result, Ok, Err, ◌∙◌, ap, arith}
use Rattle.std.specs.List.{AllByRecursion}
use Rattle.std.specs.Prelude.{IfOk}
use Rattle.std.proofs.lemmas.Bool.{eqb-true}
use Rattle.b67_lemmas.proofs.Members.{all_in}
use Rattle.b67_backing.specs.Shelf.{Table}
use Rattle.b67_backing.specs.Links.{links_in}
use Rattle.b67_backing.proofs.Linkings.{links_in-length}
use Rattle.b67_task.specs.declared.tables.JobRow.{JobRow}
use Rattle.b67_task.specs.declared.tables.Machine.{Machine}
use Rattle.b67_task.specs.Tables.{AreCountable}
use Rattle.b67_image.specs.declared.fault.ImageFault.{ImageFault}
use Rattle.b67_image.specs.Parts.{ImageParts, parts_of}
use Rattle.b67_image.specs.Within.{IsJob, ArePartsWithin}
use Rattle.b67_image.specs.Meaning.{is_wanted, told_in, HasWanted, CanBeRun, IsMeant}
use Rattle.b67_image.proofs.Meant.{wanted_in, within_read}

pub few_numbers : (jobs : List JobRow) → AllByRecursion IsJob jobs → AreCountable jobs
few_numbers jobs all r there = let few = (all_in IsJob jobs r all there).numbers.few in omega (arith, few)

has_wanted : (sectors : Option ℕ) (t : Table) → 2 ≤ length t.links → is_wanted sectors (length (links_in t)) ≡ true → HasWanted sectors t
has_wanted None t some e = tt
has_wanted (Some wanted) t some e =
    let count : length t.links - 1 + 1 ≡ length t.links = omega (arith, some) in
    let long : length (links_in t) ≡ length t.links - 1 = links_in-length t (length t.links - 1) count in
    let is : length (links_in t) ≡ wanted = eqb-true (length (links_in t)) wanted e in
    omega (arith, some, long, is)

pub can_be_run : (sectors : Option ℕ) (text : List ℕ) (r : Result Machine ImageFault) → IsMeant r (told_in sectors text) → IfOk r (CanBeRun sectors)
can_be_run sectors text (Ok m) (found, told, shows) =
    let within : ArePartsWithin (parts_of m) = within_read sectors text (Ok m) (found, told, shows) in
    let wanted : is_wanted sectors (length (parts_of m).links) ≡ true = ap (λ (p : ImageParts). is_wanted sectors (length p.links)) shows.parts ∙ wanted_in sectors text found.0 found.1 told in
    record { countable = few_numbers m.tasks.jobs within.jobs.each; sized = has_wanted sectors m.sectors shows.stands.stands.storage.shelf.some wanted }
can_be_run sectors text (Err fault) h = tt
