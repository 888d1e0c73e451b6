-- The dictionaries of programs are installed one after the other.
use Rattle.std.proofs.Common.{◌≡◌, ℕ, zero, suc, ◌+◌, ◌<◌, ◌≤◌, List, [], ◌∷◌, length, map, take, drop, get_or, Option, Some, refl, sym, ◌∙◌, ap, subst, arith, inl}
use Rattle.std.specs.List.{slice_get}
use Rattle.std.proofs.lemmas.Option.{none-some}
use Rattle.std.proofs.lemmas.List.{drop_more, drop_all}
use Rattle.b67_word.specs.Tagged.{Tagged}
use Rattle.b67_backing.specs.Shelf.{Shelf, IsShelf}
use Rattle.b67_codefile.specs.declared.file.Codefile.{Codefile}
use Rattle.b67_codefile.specs.Meaning.{program_of}
use Rattle.b67_lemmas.specs.Lists.{total}
use Rattle.b67_model.specs.Program.{Program}
use Rattle.b67_load.specs.Objects.{program_objects, entries_of, sectors_of_program}
use Rattle.b67_load.specs.StoredObjects.{stocked}
use Rattle.b67_load.specs.Writing.{Parts, Spares, Writes, Installed}
use Rattle.b67_load.proofs.Steps.{sectors-objects}
use Rattle.b67_load.proofs.Writing.{writes_none, writes_both, spares-refl, spares_both, spares_wider}
use Rattle.b67_session.specs.Opened.{dictionary_words, dictionaries, objects_from}
use Rattle.b67_session.specs.Words.{HeadLies, HeadsLie}
use Rattle.b67_session.proofs.Objects.{objects_within}

pub head_at : (core : List Tagged) (at : ℕ) (programs : List Program) (k : ℕ) (p : Program) → HeadsLie core at programs → slice_get programs k ≡ Some p → HeadLies core (at + dictionaries (take k programs)) (entries_of p)
head_at core at [] k p h e = absurd (none-some p e)
head_at core at (q ∷ more) zero p h e = grind arith
head_at core at (q ∷ more) (suc k) p h e = grind (arith, head_at core (at + dictionary_words q) more k p h.1 e)

-- words of heads that stay
pub heads_same : (old new : List Tagged) (at : ℕ) (programs : List Program) → ((i : ℕ) → at ≤ i → i < at + dictionaries programs → slice_get new i ≡ slice_get old i) → HeadsLie old at programs → HeadsLie new at programs
heads_same old new at [] same h = tt
heads_same old new at (p ∷ more) same h = grind (arith, heads_same old new (at + dictionary_words p) more)

module _ {D : Type 0} (tell : D → Option (List (List ℕ))) where
  -- a program was installed
  pub record Installs (at : ℕ) (p : Program) (old new : Parts D) : Type 0 where
    pub head : HeadLies new.core at (entries_of p)
    pub writes : Writes tell (program_objects at p) old new
    pub spares : Spares tell at (dictionary_words p) old new

  pub installs : (at : ℕ) (p : Program) (old new : Parts D) → (st : Shelf) × IsShelf old.table st → Installed tell at p old new → Spares tell at (dictionary_words p) old new → Installs at p old new
  installs at p old new known i spares =
      let d = i.dictionary known.0 known.1 in
      record {
        head = record { mark = d.mark; entries = d.entries };
        writes = record { shelf = i.shelf; descriptors = λ s is. (i.dictionary s is).descriptors; stocks = i.stocks; left = omega (arith, i.left, sectors-objects at p) };
        spares = spares;
      }

  -- these programs are still to be installed
  pub record Installing (at : ℕ) (all rest : List Program) (start now : Parts D) : Type 0 where
    pub low : 160 ≤ at
    pub high : at + dictionaries rest ≡ 160 + dictionaries all
    pub room : total sectors_of_program rest ≤ now.table.free
    pub known : (st : Shelf) × IsShelf now.table st
    pub spares : Spares tell 160 (dictionaries all) start now
    pub writes : (end : Parts D) → Writes tell (objects_from at rest) now end → Spares tell at (dictionaries rest) now end → Writes tell (objects_from 160 all) start end
    pub heads : (core : List Tagged) → ((i : ℕ) → i < at → slice_get core i ≡ slice_get now.core i) → HeadsLie core at rest → HeadsLie core 160 all

  pub installing_next : (at : ℕ) (all rest : List Program) (p : Program) (more : List Program) (start now next : Parts D) → rest ≡ p ∷ more
      → Installing at all rest start now → Installs at p now next → Installing (at + dictionary_words p) all more start next
  installing_next at all rest p more start now next e g step = by_cons (subst (λ (r : List Program). Installing at all r start now) e g) where
    by_cons : Installing at all (p ∷ more) start now → Installing (at + dictionary_words p) all more start next
    by_cons g = record {
      low = omega (arith, g.low);
      high = omega (arith, g.high);
      room = omega (arith, g.room, step.writes.left, sectors-objects at p);
      known = (stocked (program_objects at p) g.known.0, step.writes.shelf g.known.0 g.known.1);
      spares = spares_both tell 160 (dictionaries all) start now next g.spares (spares_wider tell at (dictionary_words p) 160 (dictionaries all) now next g.low (omega (arith, g.high)) step.spares);
      writes = λ end v r. g.writes end
          (writes_both tell (program_objects at p) (objects_from (at + dictionary_words p) more) (at + dictionary_words p) (dictionaries more) now next end step.writes v r (λ t h. inl (objects_within at p t h).high))
          (spares_both tell at (dictionary_words p + dictionaries more) now next end
          (spares_wider tell at (dictionary_words p) at (dictionary_words p + dictionaries more) now next (omega arith) (omega arith) step.spares)
          (spares_wider tell (at + dictionary_words p) (dictionaries more) at (dictionary_words p + dictionaries more) next end (omega arith) (omega arith) r));
      heads = λ core same h. g.heads core (λ i below. same i (omega (arith, below)) ∙ step.spares.outside i (inl below))
          (record { mark = same at (omega arith) ∙ step.head.mark; entries = same (at + 1) (omega arith) ∙ step.head.entries }, h);
    }

  pub installing_failed : (at : ℕ) (all rest : List Program) (p : Program) (more : List Program) (start now next : Parts D) → rest ≡ p ∷ more
      → Installing at all rest start now → Spares tell at (dictionary_words p) now next → Spares tell 160 (dictionaries all) start next
  installing_failed at all rest p more start now next e g s =
      spares_both tell 160 (dictionaries all) start now next g.spares
      (spares_wider tell at (dictionary_words p) 160 (dictionaries all) now next g.low (omega (arith, g.high, ap dictionaries e)) s)

  pub installing_all : (at : ℕ) (all rest : List Program) (start now : Parts D) → rest ≡ [] → Installing at all rest start now
      → (at ≡ 160 + dictionaries all) × HeadsLie now.core 160 all × Writes tell (objects_from 160 all) start now
  installing_all at all rest start now e g = by_nil (subst (λ (r : List Program). Installing at all r start now) e g) where
    by_nil : Installing at all [] start now → (at ≡ 160 + dictionaries all) × HeadsLie now.core 160 all × Writes tell (objects_from 160 all) start now
    by_nil g = (omega (arith, g.high), g.heads now.core (λ i h. refl) tt, g.writes now (writes_none tell now) (spares-refl tell at 0 now))

-- the first of the programs that are left
pub programs_step : (files : List Codefile) (i : ℕ) (f : Codefile) → f ≡ get_or files i f → i < length files → map program_of (drop i files) ≡ program_of f ∷ map program_of (drop (i + 1) files)
programs_step files i f e h = ap (map program_of) (drop_more files i f h) ∙ ap (λ (x : Codefile). program_of x ∷ map program_of (drop (i + 1) files)) (sym e)

pub programs_end : (files : List Codefile) (i : ℕ) → length files ≤ i → map program_of (drop i files) ≡ []
programs_end files i h = ap (map program_of) (drop_all i files h)
