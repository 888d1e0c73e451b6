-- The objects, areas and chains of a machine, by the table that marks its objects.
use Rattle.std.proofs.Common.{ℕ, List, sym, ◌∙◌, ap, subst, inl, inr}
use Rattle.b67_area.specs.declared.Kind.{Kind}
use Rattle.b67_area.specs.declared.Kind.TheVariants.{Array, Row, Code}
use Rattle.b67_backing.specs.Shelf.{Shelf, IsShelf}
use Rattle.b67_backing.specs.Held.{sectors_for}
use Rattle.b67_backing.specs.Links.{links_in, AreLinksOf, TellChains}
use Rattle.b67_lemmas.specs.Lists.{Has}
use Rattle.b67_stack.specs.Common.{Location, PagedObject}
use Rattle.b67_task.specs.declared.tables.Machine.{Machine}
use Rattle.b67_image_shape.specs.Held.{view_of, location_in}
use Rattle.b67_image_shape.specs.Items.{HasChainSectors, Chained}
use Rattle.b67_image_shape.specs.ObjectMarks.{AreMarked, AreKept, desc_at, HasChainOr}
use Rattle.b67_image_shape.specs.ObjectLaws.{KeptFacts, ObjectsAreTested}
use Rattle.b67_image_shape.specs.Chains.{IsSectorChain}
use Rattle.b67_image_shape.proofs.ObjectMarks.{held_at, many_numbers, long, home_there, words_there, present_there, area_owned, has_sectors, chain_owned, chain_once, kept_again}

module _ (tell : TellChains) (k : Machine) (kinds : List ℕ) (marked : AreMarked k.cpu.core kinds (view_of k).objects) where
  module _ (shelf : Shelf) (is : IsShelf k.sectors shelf) (kept : AreKept k.cpu.core k.areas.low kinds (links_in k.sectors)) where
    a : AreLinksOf (links_in k.sectors) shelf.chains
    a = tell k.sectors shelf is

    sectors : (t : PagedObject) → Has (view_of k).objects t → IsSectorChain (links_in k.sectors) (location_in k.cpu.core t.home).chain (sectors_for (desc_at k.cpu.core t.home).length) → HasChainSectors shelf t (location_in k.cpu.core t.home).chain
    sectors t h c =
        let n = many_numbers k.cpu.core k.areas.low kinds (links_in k.sectors) (view_of k).objects marked t h in
        let s = has_sectors k.cpu.core k.areas.low kinds (links_in k.sectors) (view_of k).objects marked kept shelf.chains a (location_in k.cpu.core t.home).chain (desc_at k.cpu.core t.home).length c in
        (s.0, s.1 ∙ ap sectors_for (sym n))

    by_kind : (t : PagedObject) → Has (view_of k).objects t → (kind : Kind) → HasChainOr (links_in k.sectors) kind (location_in k.cpu.core t.home).chain (desc_at k.cpu.core t.home).length → Chained shelf t kind (location_in k.cpu.core t.home).chain
    by_kind t h Array (inl z) = inl z
    by_kind t h Array (inr c) = inr (sectors t h c)
    by_kind t h Row c = sectors t h c
    by_kind t h Code c = sectors t h c

    facts : KeptFacts k
    facts = record {
      objects = λ t h. record {
        home = home_there k.cpu.core k.areas.low kinds (links_in k.sectors) (view_of k).objects marked kept t h;
        words = λ at e. words_there k.cpu.core k.areas.low kinds (links_in k.sectors) (view_of k).objects marked kept t at h e;
      };
      long = long k.cpu.core k.areas.low kinds (links_in k.sectors) (view_of k).objects marked kept;
      areas = record {
        directory = kept.areas.directory;
        owned = area_owned k.cpu.core k.areas.low kinds (links_in k.sectors) (view_of k).objects marked kept;
        present = present_there k.cpu.core k.areas.low kinds (links_in k.sectors) (view_of k).objects marked kept;
      };
      chains = record {
        shelf = shelf;
        is = is;
        each = λ t h.
            subst (λ (l : Location). Chained shelf t t.kind l.chain) (sym (held_at k.cpu.core (view_of k).objects t h)) (by_kind t h t.kind (kept.objects t.home t.kind (marked.each t h)).chain);
        owned = chain_owned k.cpu.core k.areas.low kinds (links_in k.sectors) (view_of k).objects marked kept shelf.chains a;
        once = chain_once k.cpu.core k.areas.low kinds (links_in k.sectors) (view_of k).objects marked kept;
      };
    }

  back : KeptFacts k → AreKept k.cpu.core k.areas.low kinds (links_in k.sectors)
  back f =
      kept_again k.cpu.core k.areas.low kinds (links_in k.sectors) (view_of k).objects marked f.long
      (λ t h. (f.objects t h).home)
      (λ t at h e. (f.objects t h).words at e)
      f.areas.directory
      f.areas.owned
      f.areas.present
      f.chains.shelf (tell k.sectors f.chains.shelf f.chains.is)
      f.chains.each
      f.chains.owned
      f.chains.once

pub objects_tested : TellChains → ObjectsAreTested
objects_tested tell k kinds shelf is marked = (λ kept. facts tell k kinds marked shelf is kept, back tell k kinds marked)
