-- Turns of the tests of objects.
use Rattle.std.proofs.Common.{◌≡◌, ◌≢◌, ℕ, ◌+◌, ◌<◌, ◌≤◌, ◌==◌, Bool, true, false, List, [], ◌∷◌, length, get_or, slice_set, Some, refl, sym, ◌∙◌, ap, subst, arith, inl, inr, ⊎_elim, get_or-set_same, get_or-set_other}
use Rattle.std.specs.List.{slice_get}
use Rattle.std.proofs.lemmas.Bool.{eq-eqb, ne_eqb, cases_eq, cases_lt, cond-true, cond-false, cases_Bool}
use Rattle.std.proofs.lemmas.List.{get_or_past}
use Rattle.std.proofs.lemmas.Option.{same_Some}
use Rattle.std.proofs.Math.ListN.{length-set}
use Rattle.b67_word.specs.Tagged.{Tagged, word, bits_at}
use Rattle.b67_area.specs.declared.Info.{Info}
use Rattle.b67_area.specs.declared.Kind.{Kind}
use Rattle.b67_area.specs.declared.Kind.TheVariants.{Array, Row, Code}
use Rattle.b67_area.specs.Spans.{Span, Area, Hole, area_at}
use Rattle.b67_area.proofs.Climbs.{area_at-low}
use Rattle.b67_backing.specs.Held.{sectors_for}
use Rattle.b67_stack.specs.Common.{tag_of}
use Rattle.b67_layout_shown.specs.Reading.{word_seen_at, desc_in}
use Rattle.b67_layout_shown.proofs.Stacks.{word_is}
use Rattle.b67_image_shape.specs.Held.{location_by, location_in, spans_of}
use Rattle.b67_image_shape.specs.Chains.{IsSectorChain, AreClaimed}
use Rattle.b67_image_shape.specs.ObjectMarks.{kind_code, desc_at, described, info_at, HaveTag, HasArea, HasChainOr, ObjectFits, AreKept, ObjectsClaim}
use Rattle.b67_image_shape.specs.AreaWalk.{Houses, IsHoused, AreasWalked}
use Rattle.b67_image_shape.proofs.ObjectWords.{kept_read}
use Rattle.b67_image_shape.proofs.ObjectMarks.{code_some, code_same}

-- ---- words

pub again_same : (core : List Tagged) (at : ℕ) (kind : Kind) (w again : Tagged) (t b : ℕ) → slice_get core at ≡ Some w → again ≡ described kind (desc_in w) → t ≡ again.tag → b ≡ again.bits → w ≡ word t b → word_seen_at core at ≡ described kind (desc_at core at)
again_same core at kind w again t b e ae te be is = grind arith

pub again_other : (core : List Tagged) (at : ℕ) (kind : Kind) (w again : Tagged) (t b : ℕ) → slice_get core at ≡ Some w → again ≡ described kind (desc_in w) → t ≡ again.tag → b ≡ again.bits → (w ≡ word t b → ⊥) → word_seen_at core at ≡ described kind (desc_at core at) → ⊥
again_other core at kind w again t b e ae te be never is = grind arith

pub tags_next : (core : List Tagged) (at j tag : ℕ) (w : Tagged) → ((i : ℕ) → i < j → (word_seen_at core (at + i)).tag ≡ tag) → slice_get core (at + j) ≡ Some w → w.tag ≡ tag → (i : ℕ) → i < j + 1 → (word_seen_at core (at + i)).tag ≡ tag
tags_next core at j tag w before e is i low = grind arith

-- a field of a descriptor
pub present_is : (core : List Tagged) (at p : ℕ) (w : Tagged) → slice_get core at ≡ Some w → p ≡ bits_at w 47 1 → p ≡ 1 → (desc_at core at).present ≡ true
present_is core at p w e pb one = eq-eqb (bits_at (word_seen_at core at) 47 1) 1 (ap (λ (v : Tagged). bits_at v 47 1) (word_is core at w e) ∙ sym pb ∙ one)

pub absent_is : (core : List Tagged) (at p : ℕ) (w : Tagged) → slice_get core at ≡ Some w → p ≡ bits_at w 47 1 → p ≢ 1 → (desc_at core at).present ≡ false
absent_is core at p w e pb other = ne_eqb (bits_at (word_seen_at core at) 47 1) 1 (λ z. other (pb ∙ sym (ap (λ (v : Tagged). bits_at v 47 1) (word_is core at w e)) ∙ z))

pub length_is : (core : List Tagged) (at n : ℕ) (w : Tagged) → slice_get core at ≡ Some w → n ≡ bits_at w 20 20 → (desc_at core at).length ≡ n
length_is core at n w e b = ap (λ (v : Tagged). bits_at v 20 20) (word_is core at w e) ∙ sym b

pub address_is : (core : List Tagged) (at n : ℕ) (w : Tagged) → slice_get core at ≡ Some w → n ≡ bits_at w 0 20 → (desc_at core at).address ≡ n
address_is core at n w e b = ap (λ (v : Tagged). bits_at v 0 20) (word_is core at w e) ∙ sym b

-- ---- areas

houses_at : (at : ℕ) (ss : List Span) (i : ℕ) → Houses ss i → (x : ℕ) × (a : Info) × (area_at at ss x ≡ Some a) × (a.owner ≡ i)
houses_at at [] i h = absurd h
houses_at at (Area a ∷ ss) i (inl e) = (at + 1, a, cond-true (at + 1 == at + 1) _ _ (eq-eqb (at + 1) (at + 1) refl), e)
houses_at at (Area a ∷ ss) i (inr h) = grind (arith, area_at-low, cond-false, ne_eqb, houses_at (at + (a.words + 2)) ss i h)
houses_at at (Hole n ∷ ss) i h = houses_at (at + n) ss i h

at_houses : (at : ℕ) (ss : List Span) (x : ℕ) (a : Info) → area_at at ss x ≡ Some a → Houses ss a.owner
at_houses at [] x a e = absurd (let z : ⊥ = cc in z)
at_houses at (Area b ∷ ss) x a e = grind (arith, ⊎_elim, same_Some, cond-true, cond-false, cases_Bool, at_houses (at + (b.words + 2)) ss x a)
at_houses at (Hole n ∷ ss) x a e = at_houses (at + n) ss x a e

module _ (core : List Tagged) (low : ℕ) (kinds : List ℕ) (housed : List Bool) (walked : AreasWalked core low kinds housed) (i : ℕ) (kind : Kind) (marked : get_or kinds i 0 ≡ kind_code kind) (present : (desc_at core i).present ≡ true) where
  -- a present object whose area was met has it
  pub housed_area : IsHoused housed i → area_at low (spans_of core low) (desc_at core i).address ≡ Some (info_at core i kind)
  housed_area h =
      let (x, a, e, o) = houses_at low (spans_of core low) i (walked.only i h) in
      grind (arith, code_same, get_or, kept_read)

  -- and lies in core
  pub area_inside : area_at low (spans_of core low) (desc_at core i).address ≡ Some (info_at core i kind) → (desc_at core i).address + (desc_at core i).length < length core
  area_inside e = (kept_read core low (spans_of core low) (desc_at core i).address (info_at core i kind) walked.fit.directory e).1

pub not_housed : (core : List Tagged) (low : ℕ) (kinds : List ℕ) (housed : List Bool) (i : ℕ) (kind : Kind) → AreasWalked core low kinds housed → get_or housed i false ≡ false → HasArea core low i kind → ⊥
not_housed core low kinds housed i kind walked e h =
    let yes_housed = walked.marked i (at_houses low (spans_of core low) (desc_at core i).address (info_at core i kind) h.area) in
    grind arith

pub area_made : (core : List Tagged) (low i : ℕ) (kind : Kind) (address words tag : ℕ) → (desc_at core i).address ≡ address → (desc_at core i).length ≡ words → tag ≡ tag_of kind
    → area_at low (spans_of core low) (desc_at core i).address ≡ Some (info_at core i kind) → HaveTag core address words tag → HasArea core low i kind
area_made core low i kind address words tag a n t e h = grind arith

pub tags_of_area : (core : List Tagged) (low i : ℕ) (kind : Kind) (address words tag : ℕ) → (desc_at core i).address ≡ address → (desc_at core i).length ≡ words → tag ≡ tag_of kind → HasArea core low i kind → HaveTag core address words tag
tags_of_area core low i kind address words tag a n t h j m = ap (λ k. (word_seen_at core (k + j)).tag) (sym a) ∙ h.tags j (subst (λ k. j < k) (sym n) m) ∙ sym t

-- ---- chains

pub chain_present : (core : List Tagged) (i n : ℕ) → (desc_at core i).present ≡ true → n ≡ bits_at (word_seen_at core ((desc_at core i).address + (desc_at core i).length)) 0 20 → n ≡ (location_in core i).chain
chain_present core i n p e = e ∙ sym (ap (λ b. (location_by core (word_seen_at core i) b).chain) p)

pub chain_read : (core : List Tagged) (i address words n : ℕ) (w : Tagged) → (desc_at core i).address ≡ address → (desc_at core i).length ≡ words → slice_get core (address + words) ≡ Some w → n ≡ bits_at w 0 20
    → n ≡ bits_at (word_seen_at core ((desc_at core i).address + (desc_at core i).length)) 0 20
chain_read core i address words n w a l e b = grind arith

pub chain_absent : (core : List Tagged) (i n : ℕ) → (desc_at core i).present ≡ false → n ≡ (desc_at core i).address → n ≡ (location_in core i).chain
chain_absent core i n p e = e ∙ sym (ap (λ b. (location_by core (word_seen_at core i) b).chain) p)

pub sectors_some : (words n : ℕ) → 1 ≤ words → n ≡ sectors_for words → 1 ≤ n
sectors_some words n h e = omega (arith, h, e)

no_first : (links : List ℕ) (first many : ℕ) → first ≡ 0 → IsSectorChain links first many → ⊥
no_first links first many z c = let low = c.head.low in omega (arith, z, low)

pub row_needs : (links : List ℕ) (first words : ℕ) → first ≡ 0 → HasChainOr links Row first words → ⊥
row_needs links first words z c = no_first links first (sectors_for words) z c

pub code_needs : (links : List ℕ) (first words : ℕ) → first ≡ 0 → HasChainOr links Code first words → ⊥
code_needs links first words z c = no_first links first (sectors_for words) z c

pub chain_or : (links : List ℕ) (kind : Kind) (first words : ℕ) → IsSectorChain links first (sectors_for words) → HasChainOr links kind first words
chain_or links kind first words c = grind arith

pub or_chain : (links : List ℕ) (kind : Kind) (first words : ℕ) → first ≢ 0 → HasChainOr links kind first words → IsSectorChain links first (sectors_for words)
or_chain links kind first words ne c = grind arith

-- the chain that an object must have, by numbers that were read
pub chain_told : (core : List Tagged) (links : List ℕ) (i : ℕ) (kind : Kind) (first words : ℕ) → first ≡ (location_in core i).chain → (desc_at core i).length ≡ words → HasChainOr links kind first words → HasChainOr links kind (location_in core i).chain (desc_at core i).length
chain_told core links i kind first words e n h = subst (λ k. HasChainOr links kind k (desc_at core i).length) e (subst (HasChainOr links kind first) (sym n) h)

pub chain_of_told : (core : List Tagged) (links : List ℕ) (i : ℕ) (kind : Kind) (first words : ℕ) → first ≡ (location_in core i).chain → (desc_at core i).length ≡ words → HasChainOr links kind (location_in core i).chain (desc_at core i).length → HasChainOr links kind first words
chain_of_told core links i kind first words e n h = subst (HasChainOr links kind first) n (subst (λ k. HasChainOr links kind k (desc_at core i).length) (sym e) h)

pub first_inside : (core : List Tagged) (low : ℕ) (links : List ℕ) (i : ℕ) (kind : Kind) (first : ℕ) → first ≡ (location_in core i).chain → first ≢ 0 → ObjectFits core low links i kind → first ≤ length links
first_inside core low links i kind first e some f = grind arith

-- ---- all objects

pub claims_first : (core : List Tagged) (low : ℕ) (kinds links : List ℕ) (claimed : List Bool) → length claimed ≡ length links + 1 → ((i : ℕ) → get_or claimed i false ≡ false) → ObjectsClaim core low kinds links 0 claimed
claims_first core low kinds links claimed many none = grind arith

module _ (core : List Tagged) (low : ℕ) (kinds links : List ℕ) (n : ℕ) (claimed : List Bool) where
  pub claims_skip : ObjectsClaim core low kinds links n claimed → get_or kinds n 0 ≡ 0 → ObjectsClaim core low kinds links (n + 1) claimed
  claims_skip c z = record {
    many = c.many;
    objects = λ i kind h e. ⊎_elim (λ q. absurd (code_some kind (sym e ∙ ap (λ j. get_or kinds j 0) q ∙ z))) (λ ne. c.objects i kind (omega (arith, h, ne)) e) (cases_eq i n);
    one = λ i j h g p q s e. ⊎_elim
        (λ t. absurd (p (ap (λ k. get_or kinds k 0) t ∙ z)))
        (λ ne. ⊎_elim (λ t. absurd (q (ap (λ k. get_or kinds k 0) t ∙ z))) (λ me. c.one i j (omega (arith, h, ne)) (omega (arith, g, me)) p q s e) (cases_eq j n))
        (cases_eq i n);
    marked = λ i h p s. ⊎_elim (λ q. absurd (p (ap (λ j. get_or kinds j 0) q ∙ z))) (λ ne. c.marked i (omega (arith, h, ne)) p s) (cases_eq i n);
    only = λ m e. let (i, h, p, q) = c.only m e in (i, omega (arith, h), p, q);
  }

  module _ (c : ObjectsClaim core low kinds links n claimed) (kind : Kind) (here : get_or kinds n 0 ≡ kind_code kind) (fits : ObjectFits core low links n kind) where
    objects_next : (i : ℕ) (k : Kind) → i < n + 1 → get_or kinds i 0 ≡ kind_code k → ObjectFits core low links i k
    objects_next i k h e = ⊎_elim
        (λ q.
        let same : kind ≡ k = code_same kind k (sym here ∙ ap (λ j. get_or kinds j 0) (sym q) ∙ e) in
        subst (λ j. ObjectFits core low links j k) (sym q) (subst (λ (v : Kind). ObjectFits core low links n v) same fits))
        (λ ne. c.objects i k (omega (arith, h, ne)) e)
        (cases_eq i n)

    pub claims_plain : (location_in core n).chain ≡ 0 → ObjectsClaim core low kinds links (n + 1) claimed
    claims_plain z = record {
      many = c.many;
      objects = objects_next;
      one = λ i j h g p q s e. ⊎_elim
          (λ t. absurd (let zero_i : (location_in core i).chain ≡ 0 = ap (λ k. (location_in core k).chain) t ∙ z in omega (arith, s, zero_i)))
          (λ ne. ⊎_elim
          (λ t. absurd (let zero_j : (location_in core j).chain ≡ 0 = ap (λ k. (location_in core k).chain) t ∙ z in omega (arith, s, e, zero_j)))
          (λ me. c.one i j (omega (arith, h, ne)) (omega (arith, g, me)) p q s e)
          (cases_eq j n))
          (cases_eq i n);
      marked = λ i h p s. ⊎_elim (λ t. absurd (let zero_i : (location_in core i).chain ≡ 0 = ap (λ k. (location_in core k).chain) t ∙ z in omega (arith, s, zero_i))) (λ ne. c.marked i (omega (arith, h, ne)) p s) (cases_eq i n);
      only = λ m e. let (i, h, p, q) = c.only m e in (i, omega (arith, h), p, q);
    }

    module _ (first : ℕ) (first_is : first ≡ (location_in core n).chain) (some : first ≢ 0) (high : first ≤ length links) (free : get_or claimed first false ≡ false) where
      -- no object before has this chain
      apart : (i : ℕ) → i < n → get_or kinds i 0 ≢ 0 → 0 < (location_in core i).chain → (location_in core i).chain ≡ first → ⊥
      apart i h p s e = grind arith

      set_here : get_or (slice_set claimed first true) first false ≡ true
      set_here = let h : first < length claimed = omega (arith, high, c.many) in rw get_or-set_same refl

      set_other : (m : ℕ) → m ≢ first → get_or (slice_set claimed first true) m false ≡ get_or claimed m false
      set_other m ne = rw get_or-set_other refl

      pub claims_more : ObjectsClaim core low kinds links (n + 1) (slice_set claimed first true)
      claims_more = record {
        many = length-set claimed first true ∙ c.many;
        objects = objects_next;
        one = λ i j h g p q s e. ⊎_elim
            (λ t. ⊎_elim
            (λ u. t ∙ sym u)
            (λ me. absurd (apart j (omega (arith, g, me)) q (omega (arith, s, e)) (sym e ∙ ap (λ k. (location_in core k).chain) t ∙ sym first_is)))
            (cases_eq j n))
            (λ ne. ⊎_elim
            (λ u. absurd (apart i (omega (arith, h, ne)) p s (e ∙ ap (λ k. (location_in core k).chain) u ∙ sym first_is)))
            (λ me. c.one i j (omega (arith, h, ne)) (omega (arith, g, me)) p q s e)
            (cases_eq j n))
            (cases_eq i n);
        marked = λ i h p s. ⊎_elim
            (λ t. ap (λ k. get_or (slice_set claimed first true) k false) (ap (λ k. (location_in core k).chain) t ∙ sym first_is) ∙ set_here)
            (λ ne. set_other (location_in core i).chain (apart i (omega (arith, h, ne)) p s) ∙ c.marked i (omega (arith, h, ne)) p s)
            (cases_eq i n);
        only = λ m e. ⊎_elim
            (λ t. (n, omega arith, (λ z. code_some kind (sym here ∙ z)), sym first_is ∙ sym t))
            (λ ne. let (i, h, p, q) = c.only m (sym (set_other m ne) ∙ e) in (i, omega (arith, h), p, q))
            (cases_eq m first);
      }

  -- two objects with one chain
  pub claims_met : ObjectsClaim core low kinds links n claimed → (kind : Kind) → get_or kinds n 0 ≡ kind_code kind → (first : ℕ) → first ≡ (location_in core n).chain → first ≢ 0 → get_or claimed first false ≡ true → AreKept core low kinds links → ⊥
  claims_met c kind here first first_is some met k = grind arith

pub kept_from : (core : List Tagged) (low : ℕ) (kinds links : List ℕ) (housed claimed : List Bool) → length kinds ≡ length core → AreasWalked core low kinds housed → ObjectsClaim core low kinds links (length core) claimed → AreClaimed links claimed → AreKept core low kinds links
kept_from core low kinds links housed claimed many walked c all = record {
  areas = walked.fit;
  objects = λ i kind e. c.objects i kind (inside i (λ z. code_some kind (sym e ∙ z))) e;
  one = λ i j p q s e. c.one i j (inside i p) (inside j q) p q s e;
  all = λ n h. let (i, low_i, p, q) = c.only n (all n h) in (i, p, q);
}
  where
    inside : (i : ℕ) → get_or kinds i 0 ≢ 0 → i < length core
    inside i p = ⊎_elim (λ lt. lt) (λ past. absurd (p (get_or_past kinds i 0 (omega (arith, many, past))))) (cases_lt i (length core))

pub claimed_all : (core : List Tagged) (low : ℕ) (kinds links : List ℕ) (claimed : List Bool) → length kinds ≡ length core → ObjectsClaim core low kinds links (length core) claimed → AreKept core low kinds links → AreClaimed links claimed
claimed_all core low kinds links claimed many c k n h = grind (arith, get_or, ⊎_elim, get_or_past, cases_lt)
