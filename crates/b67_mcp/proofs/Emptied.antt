-- An array that is in no area and no chain.
use Rattle.std.proofs.Common.{◌≡◌, ◌≢◌, ℕ, zero, suc, ◌<◌, ◌≤◌, ◌^◌, List, length, Some, None, refl, sym, ◌∙◌, ap, arith, inr, slice_set, replicate}
use Rattle.std.specs.List.{slice_get}
use Rattle.std.proofs.lemmas.List.{length-set, length-replicate}
use Rattle.std.proofs.lemmas.Option.{none-some}
use Rattle.b67_word.specs.Tagged.{Tagged}
use Rattle.b67_core.proofs.Writes.{slice_get-set_same, slice_get-set_other}
use Rattle.b67_area.specs.declared.Kind.TheVariants.{Array}
use Rattle.b67_area.specs.Spans.{without}
use Rattle.b67_area.proofs.Climbs.{area_at-low}
use Rattle.b67_area.proofs.Separation.{IsDirectory-set_below}
use Rattle.b67_backing.specs.Shelf.{Table, IsShelf}
use Rattle.b67_lemmas.specs.Lists.{Has}
use Rattle.b67_ctl.specs.declared.registers.Regs.{Regs}
use Rattle.b67_stack.specs.Common.{nowhere, PagedObject, MachineView, slot_base, home_word_of, AreZero, Storage, Represents, info_of, LowWordsStayed, TakesPlace}
use Rattle.b67_layout.specs.Machine.{IsPresent}
use Rattle.b67_stack.proofs.Unchanged.{area_of_object, home_below}
use Rattle.b67_layout.proofs.Words.{StacksLie-home, original_word}
use Rattle.b67_stack.proofs.Reheld.{storage_with}
use Rattle.b67_layout.proofs.Changed.{Changed, Represents-changed}
use Rattle.b67_overlay.specs.Turns.{Hides}
use Rattle.b67_overlay.proofs.Dropping.{Freed, size2, here3, stays3, body3, other_area, stacks3, area_of3, bases3, word3}
use Rattle.b67_mcp.specs.Lengths.{zeroed, emptied, freed_chain}
use Rattle.b67_mcp.proofs.Freeing.{of_left, no_zero_left, other_left}

zeros : (n : ℕ) → AreZero (replicate n zero)
zeros zero = tt
zeros (suc n) = (refl, zeros n)

module _ (x : Storage) (core : List Tagged) (r : Regs) (p : MachineView) (s : Represents x core r p) (t : PagedObject) (int : Has p.objects t) (array : t.kind ≡ Array) (table : Table) (sh : IsShelf table x.shelf)
    (objects : List PagedObject) (re : TakesPlace p.objects objects t (zeroed t)) where
  -- the word of the original
  abbrev word : Tagged
  word = home_word_of t.kind (length t.numbers) nowhere

  word_is : word ≡ home_word_of t.kind (length (zeroed t).numbers) nowhere
  word_is = ap (λ (n : ℕ). home_word_of t.kind n nowhere) (sym (length-replicate (length t.numbers) zero))

  below : (160 ≤ t.home) × (t.home < x.low)
  below = home_below x core r p s t int

  -- out of an area
  module _ (area : ℕ) (at : IsPresent x p area t) (mid new : List Tagged) (hd : Hides x core mid p t nowhere) (f : Freed x.low area x.spans (slice_set mid t.home (home_word_of t.kind (length t.numbers) nowhere)) new) where
    small : 0 < 2 ^ 20
    small = omega arith

    from_area : Changed x core new p t (zeroed t) nowhere (without x.low area x.spans) (freed_chain (x.held t.home).chain x.shelf) x.device
    from_area = record {
      bases = bases3 x x core r p s area t at 0 mid hd small new f;
      stacks = stacks3 x x core r p s area t at 0 mid hd small new f;
      home = here3 x x core r p s area t at 0 mid hd small new f ∙ ap Some word_is;
      content = inr (refl, array, zeros (length t.numbers));
      others = λ u inu m. record {
        word = word3 x x core r p s area t at 0 mid hd small new f u inu m;
        body = λ b e q down high. body3 x x core r p s area t at 0 mid hd small new f b (info_of x u) (area_of_object x core r p s u inu b e) (other_area x x core r p s area t at 0 mid hd small new f u inu m b e) q down high;
        chain = other_left x core r p s t int table sh (storage_with x t.home nowhere (without x.low area x.spans) (freed_chain (x.held t.home).chain x.shelf) x.device) refl refl u inu m;
      };
      area_of = λ b i e. inr (area_of3 x x core r p s area t at 0 mid hd small new f b i e);
      area_here = λ b e. absurd (none-some b e);
      area_stays = λ b i e m. stays3 x x core r p s area t at 0 mid hd small new f b i e (λ q. m (at.present ∙ ap Some q));
      chains_of = λ g some. inr (of_left x core r p s t int table sh g some);
      no_zero = no_zero_left x core r p s t int table sh;
      own_chain = λ u inu m some. absurd (omega (arith, some));
      directory = f.directory;
      size = f.size ∙ size2 x x core r p s area t at 0 mid hd;
    }

    pub emptied_area : Represents (emptied x t) new r (record p { objects = objects })
    emptied_area =
        let it = Represents-changed x core new r p objects t (zeroed t) nowhere (without x.low area x.spans) (freed_chain (x.held t.home).chain x.shelf) x.device int s re from_area in
        grind arith

  -- it was absent
  module _ (absent : (x.held t.home).area ≡ None) where
    abbrev new2 : List Tagged
    new2 = slice_set core t.home (home_word_of t.kind (length t.numbers) nowhere)

    other2 : (i : ℕ) → i ≢ t.home → slice_get (slice_set core t.home (home_word_of t.kind (length t.numbers) nowhere)) i ≡ slice_get core i
    other2 i n = slice_get-set_other core t.home i word n

    here2 : slice_get (slice_set core t.home (home_word_of t.kind (length t.numbers) nowhere)) t.home ≡ Some word
    here2 = slice_get-set_same core t.home word (omega (arith, below.1, s.inside))

    none_held : (b : ℕ) → (x.held t.home).area ≢ Some b
    none_held b e = none-some b (sym absent ∙ e)

    from_absent : Changed x core (slice_set core t.home (home_word_of t.kind (length t.numbers) nowhere)) p t (zeroed t) nowhere x.spans (freed_chain (x.held t.home).chain x.shelf) x.device
    from_absent = record {
      bases = λ k hk. other2 (slot_base p k) (λ e. s.slots.laid.not_base t int k hk (sym e));
      stacks = StacksLie-home x core r p s t int new2 nowhere word absent (λ i low up n. other2 i n) here2 (λ n. original_word t.kind (length t.numbers) nowhere n (let l = (s.slots.laid.lengths t int).1 in omega (arith, l)) (omega arith) (λ b e. absurd (none-some b e)));
      home = here2 ∙ ap Some word_is;
      content = inr (refl, array, zeros (length t.numbers));
      others = λ u inu m. record {
        word = other2 u.home m;
        body = λ b e q down high. other2 q (λ z. let l = area_at-low x.low x.spans b (info_of x u) (area_of_object x core r p s u inu b e) in omega (arith, l, z, below.1, down));
        chain = other_left x core r p s t int table sh (storage_with x t.home nowhere x.spans (freed_chain (x.held t.home).chain x.shelf) x.device) refl refl u inu m;
      };
      area_of = λ b i e. inr (e, none_held b);
      area_here = λ b e. absurd (none-some b e);
      area_stays = λ b i e m. e;
      chains_of = λ g some. inr (of_left x core r p s t int table sh g some);
      no_zero = no_zero_left x core r p s t int table sh;
      own_chain = λ u inu m some. absurd (omega (arith, some));
      directory = IsDirectory-set_below core x.low x.spans t.home word s.directory below.1 (inr below.0);
      size = length-set core t.home word;
    }

    pub emptied_absent : Represents (emptied x t) (slice_set core t.home (home_word_of t.kind (length t.numbers) nowhere)) r (record p { objects = objects })
    emptied_absent =
        let it = Represents-changed x core new2 r p objects t (zeroed t) nowhere x.spans (freed_chain (x.held t.home).chain x.shelf) x.device int s re from_absent in
        grind arith

-- the words below the slots
pub stayed_absent : (p : MachineView) (t : PagedObject) → Has p.objects t → (core : List Tagged) (home : ℕ) (w : Tagged) → t.home ≡ home → LowWordsStayed p core (slice_set core home w)
stayed_absent p t int core home w is = λ i low out apart. slice_get-set_other core home i w (λ e. apart t int (is ∙ sym e))
