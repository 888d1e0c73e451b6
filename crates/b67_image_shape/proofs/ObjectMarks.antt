-- Objects, areas and chains belong together exactly if they do by the table of marks.
use Rattle.std.proofs.Common.{◌≡◌, ◌≢◌, ℕ, ◌+◌, ◌/◌, ◌<◌, Bool, true, false, List, [], ◌∷◌, map, length, Some, None, refl, sym, ◌∙◌, ap, subst, arith, inl, inr}
use Rattle.std.specs.Prelude.{◌||◌, if◌then◌else◌, slice_index}
use Rattle.std.specs.List.{slice_get, list_any}
use Rattle.std.proofs.lemmas.Bool.{eq-eqb}
use Rattle.std.proofs.lemmas.Option.{same_Some}
use Rattle.b67_word.specs.Tagged.{Tagged, word}
use Rattle.b67_area.specs.declared.Info.{Info}
use Rattle.b67_area.specs.declared.Kind.{Kind}
use Rattle.b67_area.specs.declared.Kind.TheVariants.{Array, Row, Code}
use Rattle.b67_area.specs.Spans.{area_at}
use Rattle.b67_area.specs.Directory.{IsDirectory}
use Rattle.b67_backing.specs.Shelf.{Shelf, chain_of}
use Rattle.b67_backing.specs.Held.{sectors_for}
use Rattle.b67_backing.specs.Links.{AreLinksOf}
use Rattle.b67_lemmas.specs.Lists.{Has}
use Rattle.b67_stack.specs.Common.{Location, nowhere, PagedObject, tag_of, object_words, home_word, home_word_of, LieUpward}
use Rattle.b67_layout_shown.specs.Reading.{word_seen_at, is_set}
use Rattle.b67_layout_shown.specs.Shown.{contents_by}
use Rattle.b67_layout_shown.proofs.Stacks.{word_is}
use Rattle.b67_image_shape.specs.Held.{location_by, location_in, is_home_of, held_by_objects, spans_of}
use Rattle.b67_image_shape.specs.Chains.{IsSectorChain}
use Rattle.b67_image_shape.specs.Items.{HasChainSectors, Chained}
use Rattle.b67_image_shape.specs.ObjectMarks.{kind_code, desc_at, AreMarked, described, longest, info_at, HasArea, HasChainOr, ObjectFits, AreaFits, AreKept, AreLong}
use Rattle.b67_image_shape.proofs.ChainHeads.{head_some, some_head, chain_is, is_chain}
use Rattle.b67_image_shape.proofs.ObjectWords.{there, made_again, contents_length, lie_up, up_tags, kept_read}

-- ---- homes

any_home : (objects : List PagedObject) (t : PagedObject) → Has objects t → list_any (is_home_of t.home) objects ≡ true
any_home [] t h = absurd h
any_home (u ∷ more) t (inl e) = ap (λ b. b || list_any (is_home_of t.home) more) (eq-eqb u.home t.home (ap (λ (v : PagedObject). v.home) e))
any_home (u ∷ more) t (inr h) = grind (arith, any_home more t h)

pub held_at : (core : List Tagged) (objects : List PagedObject) (t : PagedObject) → Has objects t → held_by_objects core objects t.home ≡ location_in core t.home
held_at core objects t h = ap (λ (b : Bool). if b then location_in core t.home else nowhere) (any_home objects t h)

pub code_some : (kind : Kind) → kind_code kind ≢ 0
code_some kind e = grind arith

pub code_same : (a b : Kind) → kind_code a ≡ kind_code b → a ≡ b
code_same a b e = grind arith

-- an area stands where a present descriptor says
area_is : (core : List Tagged) (i at : ℕ) → (location_in core i).area ≡ Some at → (is_set (word_seen_at core i) 47 ≡ true) × ((desc_at core i).address ≡ at)
area_is core i at e = grind arith

is_area : (core : List Tagged) (i : ℕ) → is_set (word_seen_at core i) 47 ≡ true → (location_in core i).area ≡ Some (desc_at core i).address
is_area core i q = ap (λ b. (location_by core (word_seen_at core i) b).area) q

-- ---- from the table

module _ (core : List Tagged) (low : ℕ) (kinds links : List ℕ) (objects : List PagedObject) (marked : AreMarked core kinds objects) where
  -- an object has as many numbers as its descriptor says
  pub many_numbers : (t : PagedObject) → Has objects t → length t.numbers ≡ (desc_at core t.home).length
  many_numbers t h = ap length (marked.numbers t h) ∙ contents_length core (desc_at core t.home).length (desc_at core t.home).address (desc_at core t.home).present

  -- what its area says
  info_same : (t : PagedObject) → Has objects t → info_at core t.home t.kind ≡ record { kind = t.kind; words = length t.numbers; owner = t.home; kept = (held_by_objects core objects t.home).chain }
  info_same t h = grind (arith, many_numbers, held_at)

  module _ (kept : AreKept core low kinds links) where
    fits : (t : PagedObject) → Has objects t → ObjectFits core low links t.home t.kind
    fits t h = kept.objects t.home t.kind (marked.each t h)

    pub long : AreLong objects
    long t h =
        let f = fits t h in
        grind (arith, many_numbers)

    -- its word
    pub home_there : (t : PagedObject) → Has objects t → slice_get core t.home ≡ Some (home_word t (held_by_objects core objects t.home))
    home_there t h = grind (arith, there, made_again, many_numbers, held_at)

    has_area : (t : PagedObject) (at : ℕ) → Has objects t → (held_by_objects core objects t.home).area ≡ Some at → (is_set (word_seen_at core t.home) 47 ≡ true) × ((desc_at core t.home).address ≡ at)
    has_area t at h e = area_is core t.home at (sym (ap (λ (l : Location). l.area) (held_at core objects t h)) ∙ e)

    pub present_there : (t : PagedObject) (at : ℕ) → Has objects t → (held_by_objects core objects t.home).area ≡ Some at
        → area_at low (spans_of core low) at ≡ Some (record { kind = t.kind; words = length t.numbers; owner = t.home; kept = (held_by_objects core objects t.home).chain })
    present_there t at h e =
        let (p, q) = has_area t at h e in
        sym (ap (area_at low (spans_of core low)) q) ∙ ((fits t h).present p).area ∙ ap Some (info_same t h)

    -- its words
    pub words_there : (t : PagedObject) (at : ℕ) → Has objects t → (held_by_objects core objects t.home).area ≡ Some at → LieUpward core at (object_words t)
    words_there t at h e =
        let (p, q) = has_area t at h e in
        let f = fits t h in
        let a = f.present p in
        let d = desc_at core t.home in
        let (k, high) = kept_read core low (spans_of core low) d.address (info_at core t.home t.kind) kept.areas.directory a.area in
        grind (arith, lie_up)

    -- each area's object
    pub area_owned : (at : ℕ) (a : Info) → area_at low (spans_of core low) at ≡ Some a
        → (t : PagedObject) × Has objects t × ((held_by_objects core objects t.home).area ≡ Some at) × (a ≡ record { kind = t.kind; words = length t.numbers; owner = t.home; kept = (held_by_objects core objects t.home).chain })
    area_owned at a e =
        let f = kept.areas.areas at a e in
        grind (arith, code_some, held_at, is_area, same_Some, present_there)

    -- ---- chains

    module _ (chains : List (List ℕ)) (a : AreLinksOf links chains) where
      pub has_sectors : (n words : ℕ) → IsSectorChain links n (sectors_for words) → (0 < n) × (length (chain_of n chains) ≡ sectors_for words)
      has_sectors n words c = let low = c.head.low in (omega (arith, low), chain_is links chains a n (sectors_for words) c)

      pub chain_owned : (n : ℕ) → 0 < length (chain_of n chains) → (t : PagedObject) × Has objects t × ((held_by_objects core objects t.home).chain ≡ n)
      chain_owned n some =
          let (i, there, e) = kept.all n (some_head links chains a n some) in
          grind (arith, there, held_at)

    pub chain_once : (t u : PagedObject) → Has objects t → Has objects u → 0 < (held_by_objects core objects t.home).chain → (held_by_objects core objects t.home).chain ≡ (held_by_objects core objects u.home).chain → t.home ≡ u.home
    chain_once t u h g some e = grind (arith, held_at, code_some)

  -- ---- to the table

  module _ (long : AreLong objects)
      (homes : (t : PagedObject) → Has objects t → slice_get core t.home ≡ Some (home_word t (held_by_objects core objects t.home)))
      (words : (t : PagedObject) (at : ℕ) → Has objects t → (held_by_objects core objects t.home).area ≡ Some at → LieUpward core at (object_words t))
      (directory : IsDirectory core low (spans_of core low))
      (owned : (at : ℕ) (a : Info) → area_at low (spans_of core low) at ≡ Some a → (t : PagedObject) × Has objects t × ((held_by_objects core objects t.home).area ≡ Some at) × (a ≡ record { kind = t.kind; words = length t.numbers; owner = t.home; kept = (held_by_objects core objects t.home).chain }))
      (present : (t : PagedObject) (at : ℕ) → Has objects t → (held_by_objects core objects t.home).area ≡ Some at → area_at low (spans_of core low) at ≡ Some (record { kind = t.kind; words = length t.numbers; owner = t.home; kept = (held_by_objects core objects t.home).chain }))
      (shelf : Shelf) (a : AreLinksOf links shelf.chains)
      (each : (t : PagedObject) → Has objects t → Chained shelf t t.kind (held_by_objects core objects t.home).chain)
      (chain : (n : ℕ) → 0 < length (chain_of n shelf.chains) → (t : PagedObject) × Has objects t × ((held_by_objects core objects t.home).chain ≡ n))
      (once : (t u : PagedObject) → Has objects t → Has objects u → 0 < (held_by_objects core objects t.home).chain → (held_by_objects core objects t.home).chain ≡ (held_by_objects core objects u.home).chain → t.home ≡ u.home) where
    word_again : (t : PagedObject) → Has objects t → word_seen_at core t.home ≡ described t.kind (desc_at core t.home)
    word_again t h = grind (arith, word_is, held_at, many_numbers, made_again)

    area_again : (t : PagedObject) → Has objects t → (desc_at core t.home).present ≡ true → HasArea core low t.home t.kind
    area_again t h p =
        let d = desc_at core t.home in
        let at : (held_by_objects core objects t.home).area ≡ Some d.address = ap (λ (l : Location). l.area) (held_at core objects t h) ∙ is_area core t.home p in
        let numbers : t.numbers ≡ contents_by core d.length d.address true = marked.numbers t h ∙ ap (contents_by core d.length d.address) p in
        record {
          area = present t d.address h at ∙ ap Some (sym (info_same t h));
          tags = up_tags core (tag_of t.kind) d.address d.length (subst (λ (ns : List ℕ). LieUpward core d.address (map (word (tag_of t.kind)) ns)) numbers (words t d.address h at));
        }

    sectors_some : (n : ℕ) → 0 < n → 0 < (n + 29) / 30
    sectors_some n h = omega (arith, h)

    sectors_again : (t : PagedObject) → Has objects t → HasChainSectors shelf t (location_in core t.home).chain → IsSectorChain links (location_in core t.home).chain (sectors_for (desc_at core t.home).length)
    sectors_again t h s =
        let n = many_numbers t h in
        let some = (long t h).0 in
        is_chain links shelf.chains a (location_in core t.home).chain (sectors_for (desc_at core t.home).length) (sectors_some (desc_at core t.home).length (subst (λ k. 0 < k) n some)) (s.1 ∙ ap sectors_for n)

    chain_by : (t : PagedObject) → Has objects t → (kind : Kind) → Chained shelf t kind (location_in core t.home).chain → HasChainOr links kind (location_in core t.home).chain (desc_at core t.home).length
    chain_by t h Array (inl z) = inl z
    chain_by t h Array (inr s) = inr (sectors_again t h s)
    chain_by t h Row s = sectors_again t h s
    chain_by t h Code s = sectors_again t h s

    fits_again : (t : PagedObject) → Has objects t → ObjectFits core low links t.home t.kind
    fits_again t h =
        let n = many_numbers t h in
        record {
          word = word_again t h;
          some = subst (λ k. 0 < k) n (long t h).0;
          few = subst (λ k. k < longest t.kind) n (long t h).1;
          present = area_again t h;
          chain = chain_by t h t.kind (subst (λ (l : Location). Chained shelf t t.kind l.chain) (held_at core objects t h) (each t h));
        }

    -- what an area says that is an object's
    area_fits : (at : ℕ) (a : Info) (t : PagedObject) → Has objects t → (held_by_objects core objects t.home).area ≡ Some at → a ≡ record { kind = t.kind; words = length t.numbers; owner = t.home; kept = (held_by_objects core objects t.home).chain } → AreaFits core kinds at a
    area_fits at a t h e is = grind (arith, area_is, held_at, many_numbers)

    pub kept_again : AreKept core low kinds links
    kept_again = record {
      areas = record { directory = directory; areas = λ at a e. let (t, h, area, is) = owned at a e in area_fits at a t h area is };
      objects = λ i kind e.
          let (t, h, is) = marked.only i (λ z. code_some kind (sym e ∙ z)) in
          let same : t.kind ≡ kind = code_same t.kind kind (sym (marked.each t h) ∙ ap (slice_index kinds) is ∙ e) in
          subst (λ k. ObjectFits core low links i k) same (subst (λ j. ObjectFits core low links j t.kind) is (fits_again t h));
      one = λ i j p q some e.
          let (t, h, ti) = marked.only i p in
          let (u, g, uj) = marked.only j q in
          let th : (held_by_objects core objects t.home).chain ≡ (location_in core i).chain = ap (λ (l : Location). l.chain) (held_at core objects t h) ∙ ap (λ k. (location_in core k).chain) ti in
          let uh : (held_by_objects core objects u.home).chain ≡ (location_in core j).chain = ap (λ (l : Location). l.chain) (held_at core objects u g) ∙ ap (λ k. (location_in core k).chain) uj in
          sym ti ∙ once t u h g (subst (λ n. 0 < n) (sym th) some) (th ∙ e ∙ sym uh) ∙ uj;
      all = λ n head.
          let (t, h, e) = chain n (head_some links shelf.chains a n head) in
          (t.home, λ z. code_some t.kind (sym (marked.each t h) ∙ z), sym (ap (λ (l : Location). l.chain) (held_at core objects t h)) ∙ e);
    }
