-- What reading an image answers, from what its parts answer.
use Rattle.std.proofs.Common.{◌≡◌, ◌≤◌, ◌+◌, ℕ, List, length, take, Option, Result, Ok, Err, refl, sym, ap, subst, ◌∙◌, arith, inl, inr, false}
use Rattle.std.specs.Prelude.{count_by, ◌==◌, nat_lt}
use Rattle.std.proofs.lemmas.Bool.{le-ltb}
use Rattle.b67_io.specs.Told.{Gave, GaveAll}
use Rattle.b67_card.specs.Reading.{IsAnswerUpTo}
use Rattle.b67_card.proofs.Whole.{first_of_all, first_and_more}
use Rattle.b67_card.specs.declared.reading.ReadFault.{ReadFault}
use Rattle.b67_card.specs.declared.reading.ReadFault.TheVariants.{TooLong}
use Rattle.b67_card.specs.declared.command.Refused.{Refused}
use Rattle.b67_card.specs.declared.command.Refused.TheVariants as refused
use Rattle.b67_model_text.specs.Answers.{◌>>=◌}
use Rattle.b67_model_text.specs.Deck.{of_card}
use Rattle.b67_backing.specs.Shelf.{Table, Shelf, IsShelf}
use Rattle.b67_backing.specs.Links.{AreLinksOf, links_in, unlinked}
use Rattle.b67_model_text.specs.declared.deck.Switch.{Switch}
use Rattle.b67_task.specs.declared.tables.TaskRow.{TaskRow}
use Rattle.b67_task.specs.declared.tables.JobRow.{JobRow}
use Rattle.b67_task.specs.declared.tables.Tasks.{Tasks}
use Rattle.b67_task.specs.declared.tables.Machine.{Machine}
use Rattle.b67_image.specs.Parts.{ToldCounts, ImageParts, parts_of, told_counts}
use Rattle.b67_image.specs.declared.parts.Found.{Found}
use Rattle.b67_image.specs.Found.{counts_found, found_parts, HaveTables}
use Rattle.b67_image.specs.Text.{limit, within_image_limit, bytes_of}
use Rattle.b67_image.specs.Cards.{AreBytes}
use Rattle.b67_image.specs.declared.fault.ImageFault.{ImageFault}
use Rattle.b67_image.specs.declared.fault.ImageFault.TheVariants.{Card, SourceFault, Memory}
use Rattle.b67_layout_shown.specs.Machines.{RepresentsOne}
use Rattle.b67_image.specs.Meaning.{IsTold, of_image, IsMeant, IsImageRead, ShowsNone, ShowsParts, parts_told, told_in}
use Rattle.b67_image.proofs.Unseen.{none_linked, represents_one}

too_long : (sectors : Option ℕ) (front : List ℕ) → length front ≡ limit + 1 → told_in sectors front ≡ Err (record { card = count_by (λ b. b == 10) (take limit front) + 1; reason = 9 })
too_long sectors front len = rw len refl

pub read_to_end : {S : Type 0} (left : S → Option (List ℕ)) (faults : S → ℕ) (old new : S) (sectors : Option ℕ) (text : List ℕ) (result : Result Machine ImageFault) → GaveAll left old new text → length text ≤ limit → IsMeant result (told_in sectors text)
    → IsImageRead left faults old new sectors result
read_to_end left faults old new sectors text (Ok m) all le e = (text, all, e)
read_to_end left faults old new sectors text (Err (Card card reason)) all le e = (text, first_of_all left old new (limit + 1) text (omega arith) all, e)
read_to_end left faults old new sectors text (Err SourceFault) all le e = absurd e
read_to_end left faults old new sectors text (Err Memory) all le e = tt

pub read_too_long : {S : Type 0} (left : S → Option (List ℕ)) (faults : S → ℕ) (old new : S) (sectors : Option ℕ) (card : ℕ) (front : List ℕ) → Gave left old new front → length front ≡ limit + 1
    → card ≡ count_by (λ b. b == 10) (take limit front) + 1 → IsImageRead left faults old new sectors (Err (Card card 9))
read_too_long left faults old new sectors card front gave len at =
    (front, first_and_more left old new (limit + 1) front len gave, inl (too_long sectors front len ∙ ap (λ (n : ℕ). Err (record { card = n; reason = 9 })) (sym at)))

-- the same by what reading up to the limit answers
pub read_past : {S : Type 0} (left : S → Option (List ℕ)) (faults : S → ℕ) (old new : S) (sectors : Option ℕ) (card most : ℕ) (read : Result (List ℕ) ReadFault) (result : Result Machine ImageFault) → most ≡ limit → read ≡ Err (TooLong card) → result ≡ Err (Card card 9)
    → IsAnswerUpTo most left faults old new read → IsImageRead left faults old new sectors result
read_past left faults old new sectors card most read result e is told h =
    let at : IsAnswerUpTo most left faults old new (Err (TooLong card)) = subst (IsAnswerUpTo most left faults old new) is h in
    subst (IsImageRead left faults old new sectors) (sym told) (past most e at)
  where
    past : (m : ℕ) → m ≡ limit → IsAnswerUpTo m left faults old new (Err (TooLong card)) → IsImageRead left faults old new sectors (Err (Card card 9))
    past m e at = read_too_long left faults old new sectors card at.0 at.1 (at.2 ∙ ap (λ (n : ℕ). n + 1) e) (at.3 ∙ ap (λ (n : ℕ). count_by (λ b. b == 10) (take n at.0) + 1) e)

-- ---- a text within the limit

few_enough : (text : List ℕ) → length text ≤ limit → within_image_limit text ≡ Ok tt
few_enough text le = let short : nat_lt limit (length text) ≡ false = le-ltb limit (length text) le in rw short refl

told_bytes : (sectors : Option ℕ) (text : List ℕ) (card : ℕ) (bytes : List ℕ) → length text ≤ limit → bytes_of text ≡ Ok (card, bytes) → told_in sectors text ≡ (of_card card (parts_told sectors bytes) >>= λ p. Ok (card, p))
told_bytes sectors text card bytes le e = rw (few_enough text le, e) refl

pub meant : (sectors : Option ℕ) (text : List ℕ) (card : ℕ) (bytes : List ℕ) (told : Result Machine Refused) → length text ≤ limit → bytes_of text ≡ Ok (card, bytes) → IsTold told (parts_told sectors bytes) → IsMeant (of_image card told) (told_in sectors text)
meant sectors text card bytes (Ok m) le e (p, is, shows) = ((card, p), told_bytes sectors text card bytes le e ∙ rw is refl, shows)
meant sectors text card bytes (Err (refused.Reason r)) le e (inl is) = inl (told_bytes sectors text card bytes le e ∙ rw is refl)
meant sectors text card bytes (Err (refused.Reason r)) le e (inr (eight, (p, is, none))) = inr (eight, (p, told_bytes sectors text card bytes le e ∙ rw is refl, none))
meant sectors text card bytes (Err refused.Memory) le e h = tt

pub unmeant : (sectors : Option ℕ) (text : List ℕ) (fault : ImageFault) → length text ≤ limit → AreBytes (Err fault) (bytes_of text) → IsMeant (Err fault) (told_in sectors text)
unmeant sectors text (Card n r) le e = inl (rw (few_enough text le, e) refl)
unmeant sectors text SourceFault le e = absurd e
unmeant sectors text Memory le e = tt

-- ---- the machine of parts

-- the machine of parts that were found, over these sectors and tables
abbrev pub machine_found : Found → Table → Tasks → Machine
machine_found f s t = record { cpu = record { core = f.core; regs = f.regs; display = f.display; critical = f.critical }; areas = f.areas; sectors = s; tasks = t }

pub parts_found : (f : Found) (s : Table) (t : Tasks) → links_in s ≡ f.links → HaveTables (counts_found f.counts) f.switches f.jobs f.rows.items t → parts_of (machine_found f s t) ≡ found_parts f
parts_found f s t told h =
    let of : List ℕ → ToldCounts → List Switch → List JobRow → List TaskRow → ImageParts =
    λ ls k ws js rs. record { core = f.core; regs = f.regs; display = f.display; critical = f.critical; areas = f.areas; links = ls; counts = k; switches = ws; jobs = js; rows = rs } in
    ap (λ (ls : List ℕ). of ls (told_counts t) t.switches t.jobs t.rows.items) told
    ∙ ap (λ (k : ToldCounts). of f.links k t.switches t.jobs t.rows.items) h.counts
    ∙ ap (λ (ws : List Switch). of f.links (counts_found f.counts) ws t.jobs t.rows.items) h.switches
    ∙ ap (λ (js : List JobRow). of f.links (counts_found f.counts) f.switches js t.rows.items) h.jobs
    ∙ ap (λ (rs : List TaskRow). of f.links (counts_found f.counts) f.switches f.jobs rs) h.rows

-- what is known of the sectors of these links
pub record AreSectorsOf (links : List ℕ) (s : Table) : Type 0 where
  pub some : (ks : List (List ℕ)) × AreLinksOf links ks
  pub each : (ks : List (List ℕ)) → AreLinksOf links ks → IsShelf s (record { free = unlinked 1 links; chains = ks })
  pub told : links_in s ≡ links

-- they have a shelf
pub shelf_of : (links : List ℕ) (s : Table) → AreSectorsOf links s → (st : Shelf) × IsShelf s st
shelf_of links s a = (record { free = unlinked 1 links; chains = a.some.0 }, a.each a.some.0 a.some.1)

pub sectors_of : (links found : List ℕ) (s : Table) → links ≡ found → ((ks : List (List ℕ)) × AreLinksOf links ks)
    → ((ks : List (List ℕ)) → AreLinksOf links ks → IsShelf s (record { free = unlinked 1 links; chains = ks })) → links_in s ≡ links → AreSectorsOf found s
sectors_of links found s e some each told = subst (λ (ls : List ℕ). AreSectorsOf ls s) e (record { some = some; each = each; told = told })

pub made : (f : Found) (s : Table) (t : Tasks) → AreSectorsOf f.links s → HaveTables (counts_found f.counts) f.switches f.jobs f.rows.items t → RepresentsOne (machine_found f s t) → ShowsParts (found_parts f) (machine_found f s t)
made f s t a h one = record { parts = parts_found f s t a.told h; stands = one; halt = h.halt; printed = h.printed; chains = a.some; sectors = a.each }

pub none_made : (f : Found) (s : Table) (t : Tasks) → AreSectorsOf f.links s → HaveTables (counts_found f.counts) f.switches f.jobs f.rows.items t → (RepresentsOne (machine_found f s t) → ⊥) → ShowsNone (found_parts f)
none_made f s t a h none m e one = none (represents_one (found_parts f) m (machine_found f s t) e (parts_found f s t a.told h) a.each one)

pub none_found : (f : Found) (links : List ℕ) → links ≡ f.links → ((ks : List (List ℕ)) → AreLinksOf links ks → ⊥) → ShowsNone (found_parts f)
none_found f links e none = none_linked (found_parts f) (subst (λ (ls : List ℕ). (ks : List (List ℕ)) → AreLinksOf ls ks → ⊥) e none)
