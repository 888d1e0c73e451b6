-- An image that is written is read.
use Rattle.std.proofs.Common.{◌≡◌, ℕ, ◌≤◌, true, false, List, length, Option, Result, Ok, Err, refl, sym, ap, ◌∙◌, inl, inr}
use Rattle.std.specs.Prelude.{nat_lt}
use Rattle.std.proofs.lemmas.Bool.{le-ltb}
use Rattle.b67_model_text.specs.Answers.{◌>>◌, needs}
use Rattle.b67_model_text.specs.Deck.{Refusal}
use Rattle.b67_task.specs.declared.tables.Machine.{Machine}
use Rattle.b67_layout_shown.specs.Machines.{RepresentsOne}
use Rattle.b67_image.specs.declared.fault.ImageFault.{ImageFault}
use Rattle.b67_image.specs.declared.fault.ImageFault.TheVariants.{Card, SourceFault, Memory}
use Rattle.b67_image.specs.Text.{limit, image_text_of, within_image_limit}
use Rattle.b67_image.proofs.Again.{text_again}
use Rattle.b67_image.specs.Parts.{ImageParts, parts_of}
use Rattle.b67_image.specs.Spelling.{image_bytes}
use Rattle.b67_image.specs.Within.{ArePartsWithin}
use Rattle.b67_image.specs.Image.{image_text}
use Rattle.b67_image.specs.Meaning.{is_wanted, parts_told, IsMeant}
use Rattle.b67_image.specs.Laws.{IsReadAs, ImagesAreRead, SessionsAreRead}
use Rattle.b67_image.proofs.Forms.{parts_again}
use Rattle.b67_image.proofs.Shapes.{shape_again, header_again}
use Rattle.b67_image.proofs.Octets.{octets}

as_wanted : (sectors : Option ℕ) (p : ImageParts) → is_wanted sectors (length p.links) ≡ true → (needs (is_wanted sectors (length p.links)) 7 >> Ok p) ≡ Ok p
as_wanted sectors p e = rw e refl

pub told_again : (sectors : Option ℕ) (p : ImageParts) → is_wanted sectors (length p.links) ≡ true → ArePartsWithin p → parts_told sectors (image_bytes p) ≡ Ok p
unfolding parts_told
told_again sectors p wanted h = rw (header_again p, shape_again p h, parts_again p h) (as_wanted sectors p wanted)

few_enough : (text : List ℕ) → length text ≤ limit → within_image_limit text ≡ Ok tt
few_enough text le = let short : nat_lt limit (length text) ≡ false = le-ltb limit (length text) le in rw short refl

pub image_again : ImagesAreRead
unfolding image_text
image_again sectors m h =
    rw (few_enough (image_text_of (image_bytes (parts_of m))) h.short, text_again (image_bytes (parts_of m)) (octets (parts_of m) h.within).all, told_again sectors (parts_of m) h.wanted h.within) refl

-- ---- where the machine represents a session

same_parts : (n m : ℕ) (p q : ImageParts) → ◌≡◌ {A = Result (ℕ × ImageParts) Refusal} (Ok (n, p)) (Ok (m, q)) → p ≡ q
same_parts n m p q e = let same : ◌≡◌ {A = ℕ × ImageParts} (n, p) (m, q) = cc in ap (λ (f : ℕ × ImageParts). f.1) same

no_refusal : (n : ℕ) (p : ImageParts) (r : Refusal) → ◌≡◌ {A = Result (ℕ × ImageParts) Refusal} (Ok (n, p)) (Err r) → ⊥
no_refusal n p r e = cc

-- an answer to a text that tells the parts of a machine of a session
pub read_as : (card : ℕ) (m : Machine) (told : Result (ℕ × ImageParts) Refusal) → told ≡ Ok (card, parts_of m) → RepresentsOne m → (result : Result Machine ImageFault) → IsMeant result told → IsReadAs m result
read_as card m told e one (Ok k) (found, is, shows) = shows.parts ∙ same_parts found.0 card found.1 (parts_of m) (sym is ∙ e)
read_as card m told e one (Err (Card n reason)) (inl is) = no_refusal card (parts_of m) (record { card = n; reason = reason }) (sym e ∙ is)
read_as card m told e one (Err (Card n reason)) (inr (eight, (p, is, none))) = none m (same_parts card n (parts_of m) p (sym e ∙ is)) one
read_as card m told e one (Err SourceFault) h = h
read_as card m told e one (Err Memory) h = tt

pub session_again : SessionsAreRead
session_again sectors m one h result means = read_as 1 m _ (image_again sectors m h) one result means
