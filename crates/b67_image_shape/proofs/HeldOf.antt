-- The objects of a view that core represents are held as their descriptors and areas say.
use Rattle.std.proofs.Common.{◌≡◌, ℕ, ◌+◌, ◌*◌, ◌/◌, ◌%◌, ◌^◌, ◌<◌, ◌≤◌, Bool, true, false, List, [], ◌∷◌, length, Option, Some, None, refl, sym, ◌∙◌, ap, subst, arith, inl, inr}
use Rattle.std.specs.Prelude.{if◌then◌else◌}
use Rattle.std.specs.List.{slice_get, list_any}
use Rattle.std.proofs.lemmas.Bool.{cases_Bool, eq-eqb, eqb-true}
use Rattle.std.proofs.lemmas.Bool.Decides.{eqb_tells}
use Rattle.std.proofs.lemmas.Option.{same_Some}
use Rattle.b67_word.specs.Tagged.{Tagged, bits_at}
use Rattle.b67_ctl.specs.declared.descriptors.DataDesc.{DataDesc}
use Rattle.b67_ctl.specs.declared.registers.Regs.{Regs}
use Rattle.b67_area.specs.declared.Info.{Info}
use Rattle.b67_area.specs.declared.Kind.{Kind}
use Rattle.b67_area.specs.declared.Kind.TheVariants as kind
use Rattle.b67_area.specs.Spans.{Span, Area, Hole, wide, end, area_at}
use Rattle.b67_area.specs.Words.{tail_word}
use Rattle.b67_area.specs.Directory.{IsInfo, AreSpans, Laid}
use Rattle.b67_lemmas.specs.Lists.{Has}
use Rattle.b67_lemmas.proofs.Members.{any_some, any_none, any_has}
use Rattle.b67_stack.specs.Common.{Location, nowhere, PagedObject, MachineView, is_present, address_or, home_desc, home_word, home_word_of, Storage, Represents, Content, info_of}
use Rattle.b67_layout_shown.specs.Reading.{word_seen_at, is_set}
use Rattle.b67_layout_shown.proofs.Bits.{desc_read, seg_read}
use Rattle.b67_layout_shown.proofs.Stacks.{word_is}
use Rattle.b67_image_shape.specs.Held.{location_by, location_in, is_home_of, held_by_objects}

-- ---- areas

pub end_above : (at : ℕ) (ss : List Span) → at ≤ end at ss
end_above at [] = omega arith
end_above at (s ∷ ss) = let low = end_above (at + wide s) ss in omega (arith, low)

pub spans_few : (at : ℕ) (ss : List Span) → AreSpans ss → at + length ss ≤ end at ss
spans_few at [] a = omega arith
spans_few at (Area i ∷ ss) a = let more = spans_few (at + (i.words + 2)) ss a.1 in omega (arith, more)
spans_few at (Hole n ∷ ss) a = let more = spans_few (at + n) ss a.2 in let some = a.0 in omega (arith, more, some)

-- an area's tail stands behind it
pub record HasTail (core : List Tagged) (to x : ℕ) (a : Info) : Type 0 where
  pub tail : slice_get core (x + a.words) ≡ Some (tail_word a)
  pub info : IsInfo a
  pub below : x + a.words < to

pub has_tail : (core : List Tagged) (b h at : ℕ) (ss : List Span) (x : ℕ) (a : Info) → Laid core b h at ss → AreSpans ss → area_at at ss x ≡ Some a → HasTail core (end at ss) x a
has_tail core b h at [] x a l s e = absurd (let z : ⊥ = cc in z)
has_tail core b h at (Hole n ∷ ss) x a l s e = has_tail core at _ (at + n) ss x a l.1 s.2 e
has_tail core b h at (Area i ∷ ss) x a l s e = grind (arith, eqb_tells, same_Some, end_above, has_tail core b h (at + (i.words + 2)) ss x a l.2 s.1)

tail_kept : (w f : ℕ) → w < 2 ^ 20 → f < 2 ^ 20 → (w * 2 ^ 20 + f) / 2 ^ 0 % 2 ^ 20 ≡ f
tail_kept w f wh fh = omega arith

-- ---- descriptors

-- what a word says of presence, length and address
pub record Says (w : Tagged) (present : Bool) (n address : ℕ) : Type 0 where
  pub present_is : is_set w 47 ≡ present
  pub length_is : bits_at w 20 20 ≡ n
  pub address_is : bits_at w 0 20 ≡ address

home_says : (kd : Kind) (n : ℕ) (h : Location) → n < 2 ^ 20 → address_or h.area h.chain < 2 ^ 20 → Says (home_word_of kd n h) (is_present h.area) n (address_or h.area h.chain)
home_says kd n h small low = grind arith

module _ (x : Storage) (core : List Tagged) (r : Regs) (p : MachineView) (stands : Represents x core r p) where
  -- the area of a present object, with its tail
  area_tail : (t : PagedObject) (at : ℕ) → (x.held t.home).area ≡ Some at → (u : PagedObject) × Has p.objects u × (u.home ≡ t.home) × HasTail core (length core) at (info_of x u)
  area_tail t at e =
      let (u, hu, home, area) = stands.owned.of_held t.home at e in
      (u, hu, home, subst (λ z. HasTail core z at (info_of x u)) stands.directory.all (has_tail core 152 0 x.low x.spans at (info_of x u) stands.directory.laid stands.directory.spans area))

  pub address_small : (t : PagedObject) → Has p.objects t → address_or (x.held t.home).area (x.held t.home).chain < 2 ^ 20
  address_small t there = by (x.held t.home).area refl (stands.objects t there).content where
    by : (o : Option ℕ) → (x.held t.home).area ≡ o → Content x core t o (x.held t.home).chain → address_or o (x.held t.home).chain < 2 ^ 20
    by None e (inl h) = h.chain.small
    by None e (inr h) = let z = h.0 in omega (arith, z)
    by (Some at) e h = let (u, hu, home, tail) = area_tail t at e in let low = tail.below in let small = stands.directory.small in omega (arith, low, small)

  says : (t : PagedObject) → Has p.objects t → Says (word_seen_at core t.home) (is_present (x.held t.home).area) (length t.numbers) (address_or (x.held t.home).area (x.held t.home).chain)
  says t there = grind (arith, word_is, home_says, address_small)

  -- it is held as its descriptor and its area's tail say
  pub location_is : (t : PagedObject) → Has p.objects t → ((location_in core t.home).area ≡ (x.held t.home).area) × ((location_in core t.home).chain ≡ (x.held t.home).chain)
  location_is t there = by (x.held t.home).area refl (says t there) where
    by : (o : Option ℕ) → (x.held t.home).area ≡ o → Says (word_seen_at core t.home) (is_present o) (length t.numbers) (address_or o (x.held t.home).chain)
        → ((location_in core t.home).area ≡ o) × ((location_in core t.home).chain ≡ (x.held t.home).chain)
    by None e s = (
      ap (λ (b : Bool). (location_by core (word_seen_at core t.home) b).area) s.present_is,
      ap (λ (b : Bool). (location_by core (word_seen_at core t.home) b).chain) s.present_is ∙ s.address_is,
    )
    by (Some at) e s =
        let (u, hu, home, tail) = area_tail t at e in
        let same : u ≡ t = stands.slots.laid.differ u t hu there home in
        let q = subst (λ (v : PagedObject). HasTail core (length core) at (info_of x v)) same tail in
        let info = q.info in
        let low = q.below in
        let small = stands.directory.small in
        let kept : bits_at (word_seen_at core (at + length t.numbers)) 0 20 ≡ (x.held t.home).chain =
        ap (λ (w : Tagged). bits_at w 0 20) (word_is core (at + length t.numbers) (tail_word (info_of x t)) q.tail) ∙ tail_kept (length t.numbers) (x.held t.home).chain (omega (arith, low, small)) info.kept in (
          ap (λ (b : Bool). (location_by core (word_seen_at core t.home) b).area) s.present_is ∙ ap Some s.address_is,
          ap (λ (b : Bool). (location_by core (word_seen_at core t.home) b).chain) s.present_is
              ∙ ap (λ a. bits_at (word_seen_at core (a + bits_at (word_seen_at core t.home) 20 20)) 0 20) s.address_is
              ∙ ap (λ n. bits_at (word_seen_at core (at + n)) 0 20) s.length_is ∙ kept,
        )

  there_held : (t : PagedObject) → Has p.objects t → held_by_objects core p.objects t.home ≡ location_in core t.home
  there_held t there = ap (λ (b : Bool). if b then location_in core t.home else nowhere) (any_some (is_home_of t.home) p.objects t there (eq-eqb t.home t.home refl))

  -- so the locations that are read are those of the storage, where there are objects, and nowhere else are areas
  pub chain_same : (t : PagedObject) → Has p.objects t → (held_by_objects core p.objects t.home).chain ≡ (x.held t.home).chain
  chain_same t there = ap (λ (l : Location). l.chain) (there_held t there) ∙ (location_is t there).1

  pub area_same : (home : ℕ) → (held_by_objects core p.objects home).area ≡ (x.held home).area
  area_same home = elim (cases_Bool (list_any (is_home_of home) p.objects)) [
    | inl e ↦ (let (t, there, at) = any_there p.objects e in subst (λ h. (held_by_objects core p.objects h).area ≡ (x.held h).area) at (ap (λ (l : Location). l.area) (there_held t there) ∙ (location_is t there).0))
    | inr e ↦ ap (λ (b : Bool). (if b then location_in core home else nowhere).area) e ∙ none e (x.held home).area refl
  ] where
    any_there : (ts : List PagedObject) → list_any (is_home_of home) ts ≡ true → (t : PagedObject) × Has ts t × (t.home ≡ home)
    any_there ts e = let (t, there, at) = any_has (is_home_of home) ts e in (t, there, eqb-true t.home home at)

    none : list_any (is_home_of home) p.objects ≡ false → (o : Option ℕ) → (x.held home).area ≡ o → None ≡ o
    none away None e = refl
    none away (Some at) e =
        let (u, hu, is, area) = stands.owned.of_held home at e in
        absurd (let no = any_none (is_home_of home) p.objects u away hu in let yes = eq-eqb u.home home is in let z : ⊥ = cc in z)
