-- Giving arrays back writes no word but the directory's first and those of holes.
use Rattle.std.proofs.Common.{◌≡◌, ℕ, ◌+◌, ◌<◌, ◌≤◌, ◌==◌, List, [], ◌∷◌, ◌++◌, length, Option, Some, refl, sym, ◌∙◌, ap, arith, inl, inr, ◌⊎◌, ⊎_elim}
use Rattle.std.specs.List.{slice_get}
use Rattle.std.proofs.lemmas.Bool.{cases_eq, cases_lt, eq-eqb, ne_eqb, cases_Bool, eqb-true}
use Rattle.std.proofs.lemmas.List.{length-map}
use Rattle.std.proofs.lemmas.Option.{same_Some, none-some, slice_get_past}
use Rattle.b67_word.specs.Tagged.{Tagged}
use Rattle.b67_area.specs.declared.Areas.{Areas}
use Rattle.b67_area.specs.declared.kinds.Info.{Info}
use Rattle.b67_area.specs.Spans.{Span, Area, Hole, end, area_at, InHole}
use Rattle.b67_area.specs.Words.{head_word, tail_word}
use Rattle.b67_area.specs.Directory.{Laid}
use Rattle.b67_area.proofs.Climbs.{area_at-low}
use Rattle.b67_backing.specs.Shelf.{Table}
use Rattle.b67_lemmas.specs.Lists.{Has}
use Rattle.b67_lemmas.proofs.Members.{has_append_right}
use Rattle.b67_model.specs.Schedule.{Session}
use Rattle.b67_stack.specs.declared.Cpu.{Cpu}
use Rattle.b67_stack.specs.Common.{Location, LieUpward, PagedObject, MachineView, object_words, Storage, Represents, Content, info_of}
use Rattle.b67_stack.proofs.Unchanged.{area_of_object}
use Rattle.b67_layout.specs.Common.{Placement, machine_view, with_objects, RepresentsStorage}
use Rattle.b67_task.specs.LeftArrays.{IsLeft, AreReleased}
use Rattle.b67_task.proofs.Settled.{are_left}
use Rattle.b67_session.specs.Makes.{MayFree}

-- an area's words, its head and its tail are as they were
abbrev Same : List Tagged → List Tagged → ℕ → Info → Type 0
Same old new b a = (i : ℕ) → b ≤ i + 1 → i ≤ b + a.words → slice_get new i ≡ slice_get old i

-- head and tail of an area
laid_at : (core : List Tagged) (link high at : ℕ) (ss : List Span) → Laid core link high at ss → (b : ℕ) (a : Info) → area_at at ss b ≡ Some a
    → ((i : ℕ) → i + 1 ≡ b → slice_get core i ≡ Some (head_word a)) × ((i : ℕ) → i ≡ b + a.words → slice_get core i ≡ Some (tail_word a))
laid_at core link high at [] l b a e = absurd (none-some a e)
laid_at core link high at (Hole n ∷ ss) l b a e = laid_at core at _ (at + n) ss l.1 b a e
laid_at core link high at (Area c ∷ ss) l b a e = ⊎_elim
    (λ t.
    let here : c ≡ a = same_Some c a (rw t at e) in
    let start = eqb-true (at + 1) b t in
    let words = ap (λ (k : Info). k.words) here in (
      λ i q. ap (slice_get core) (let z : i ≡ at = omega (arith, q, start) in z) ∙ l.0 ∙ ap (λ (k : Info). Some (head_word k)) here,
      λ i q. ap (slice_get core) (let z : i ≡ at + (c.words + 1) = omega (arith, q, start, words) in z) ∙ l.1 ∙ ap (λ (k : Info). Some (tail_word k)) here,
    ))
    (λ t. laid_at core link high (at + (c.words + 2)) ss l.2 b a (rw t at e))
    (cases_Bool (at + 1 == b))

-- words that lie in both
same_lie : (old new : List Tagged) (at : ℕ) (ws : List Tagged) → LieUpward old at ws → LieUpward new at ws → (i : ℕ) → at ≤ i → i < at + length ws → slice_get new i ≡ slice_get old i
same_lie old new at [] o n i low up = absurd (omega (arith, low, up))
same_lie old new at (w ∷ ws) o n i low up = grind (arith, same_lie old new (at + 1) ws o.1 n.1 i)

first_here : (at : ℕ) (c : Info) (ss : List Span) → area_at at (Area c ∷ ss) (at + 1) ≡ Some c
first_here at c ss = rw (eq-eqb (at + 1) (at + 1) refl) refl

later : (at : ℕ) (c : Info) (ss : List Span) (b : ℕ) (a : Info) → area_at (at + (c.words + 2)) ss b ≡ Some a → area_at at (Area c ∷ ss) b ≡ Some a
later at c ss b a e = rw (ne_eqb (at + 1) b (λ q. omega (arith, q, area_at-low (at + (c.words + 2)) ss b a e))) e

-- where each area is as it was, all words but those of holes are
outside_holes : (old new : List Tagged) (at : ℕ) (ss : List Span) → ((b : ℕ) (a : Info) → area_at at ss b ≡ Some a → Same old new b a) → (i : ℕ) → at ≤ i → i < end at ss
    → (slice_get new i ≡ slice_get old i) ⊎ InHole at ss i
outside_holes old new at [] each i low up = absurd (omega (arith, low, up))
outside_holes old new at (Hole n ∷ ss) each i low up = grind (arith, outside_holes old new (at + n) ss each i)
outside_holes old new at (Area c ∷ ss) each i low up = ⊎_elim
    (λ (h : i < at + (c.words + 2)). inl (each (at + 1) c (first_here at c ss) i (omega (arith, low)) (omega (arith, h))))
    (λ (h : at + (c.words + 2) ≤ i). outside_holes old new (at + (c.words + 2)) ss (λ b a e. each b a (later at c ss b a e)) i h up)
    (cases_lt i (at + (c.words + 2)))

module _ (left : List PagedObject) (x : Storage) (cpu new : Cpu) (plan : Placement) (s : Session) (from upto : ℕ) (l : IsLeft left x cpu plan s from upto) (areas after : Areas) (table now : Table) (told : Option (List (List ℕ)))
    (b : RepresentsStorage areas table told cpu.core x) (r : AreReleased left x cpu new after now told plan s) (same : after ≡ areas) where
  abbrev y : Storage
  y = r.storage

  abbrev p : MachineView
  p = machine_view plan s.jobs

  was : Represents x cpu.core cpu.regs (with_objects left p)
  was = l.stands.holds.memory

  is : Represents y new.core new.regs p
  is = r.stands.holds.memory

  lengths : length new.core ≡ length cpu.core
  lengths = sym r.beside.size ∙ ap (λ (a : Areas). a.size) same ∙ b.size

  -- an object that stays is held as it was
  module _ (t : PagedObject) (there : Has p.objects t) where
    still : Has (left ++ p.objects) t
    still = has_append_right left p.objects t there

    held_same : y.held t.home ≡ x.held t.home
    held_same = r.released.others t.home (λ g. (are_left left x cpu plan s from upto l).alone g.0 t g.1 there (sym g.2))

    info_same : info_of y t ≡ info_of x t
    info_same = ap (λ (h : Location). record { kind = t.kind; words = length t.numbers; owner = t.home; kept = h.chain }) held_same

  words_in : (z : Storage) (core : List Tagged) (t : PagedObject) (o : Option ℕ) (first at : ℕ) → Content z core t o first → o ≡ Some at → LieUpward core at (object_words t)
  words_in z core t o first at c e = grind arith

  -- an area that stays
  area_same : (at : ℕ) (a : Info) → area_at y.low y.spans at ≡ Some a → Same cpu.core new.core at a
  area_same at a e i low up =
      let (t, there, held, info) = is.owned.of_area at a e in
      let held_x : (x.held t.home).area ≡ Some at = ap (λ (h : Location). h.area) (sym (held_same t there)) ∙ held in
      let info_x : a ≡ info_of x t = info ∙ info_same t there in
      let e_x : area_at x.low x.spans at ≡ Some a = area_of_object x cpu.core cpu.regs (with_objects left p) was t (still t there) at held_x ∙ ap Some (sym info_x) in
      let (head, tail) = laid_at cpu.core 152 0 x.low x.spans was.directory.laid at a e_x in
      let (head', tail') = laid_at new.core 152 0 y.low y.spans is.directory.laid at a e in
      let words : a.words ≡ length t.numbers = ap (λ (k : Info). k.words) info in
      let count : length (object_words t) ≡ length t.numbers = length-map t.numbers _ in
      let body : at ≤ i → i < at + a.words → slice_get new.core i ≡ slice_get cpu.core i = λ d u.
      same_lie cpu.core new.core at (object_words t)
      (words_in x cpu.core t (x.held t.home).area (x.held t.home).chain at (was.objects t (still t there)).content held_x)
      (words_in y new.core t (y.held t.home).area (y.held t.home).chain at (is.objects t there).content held) i d (omega (arith, u, words, count)) in
      ⊎_elim
      (λ (g : i + 1 ≡ at). head' i g ∙ sym (head i g))
      (λ (n : i + 1 ≡ at → ⊥). ⊎_elim
      (λ (g : i ≡ at + a.words). tail' i g ∙ sym (tail i g))
      (λ (k : i ≡ at + a.words → ⊥). body (omega (arith, low, n)) (omega (arith, up, k)))
      (cases_eq i (at + a.words)))
      (cases_eq (i + 1) at)

  pub only_holes : (i : ℕ) → (slice_get new.core i ≡ slice_get cpu.core i) ⊎ MayFree y i
  only_holes i = by (cases_lt i y.low) (cases_lt i (length new.core)) where
    by : (i < y.low) ⊎ (y.low ≤ i) → (i < length new.core) ⊎ (length new.core ≤ i) → (slice_get new.core i ≡ slice_get cpu.core i) ⊎ MayFree y i
    by (inl h) o = ⊎_elim (λ e. inr (inl e)) (λ n. inl (r.below i (omega (arith, h, r.released.low)) n)) (cases_eq i 152)
    by (inr h) (inl u) = ⊎_elim (λ e. inl e) (λ k. inr (inr k)) (outside_holes cpu.core new.core y.low y.spans area_same i h (omega (arith, u, is.directory.all)))
    by (inr h) (inr u) = inl (slice_get_past new.core i u ∙ sym (slice_get_past cpu.core i (omega (arith, u, lengths))))
