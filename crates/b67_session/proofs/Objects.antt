-- The objects of a session that opens are those of its programs; no two have one home.
use Rattle.std.proofs.Common.{◌≡◌, ℕ, zero, suc, ◌+◌, ◌-◌, ◌<◌, ◌≤◌, ◌^◌, ⊎_elim, List, [], ◌∷◌, length, map, reverse, take, Some, refl, sym, ◌∙◌, ap, arith, subst, inl, inr}
use Rattle.std.specs.List.{slice_get, flat_map, AllByRecursion}
use Rattle.std.specs.Prelude.{◌⊎◌}
use Rattle.std.proofs.lemmas.Option.{same_Some, none-some}
use Rattle.std.proofs.lemmas.Bool.{cases_order}
use Rattle.b67_lemmas.specs.Lists.{Has}
use Rattle.b67_lemmas.proofs.Members.{has_append_cases, has_append_left, has_append_right, has_flat as has_flat_map, has_map, has_reverse, has_reverse_back}
use Rattle.b67_lemmas.proofs.Places.{at_mapped, mapped_at}
use Rattle.b67_lemmas.proofs.Sums.{total_before, total_within}
use Rattle.b67_model.specs.Common.{Segment, SessionJob, Program, row_arrays, SegmentInOrder}
use Rattle.b67_law.specs.Opening.{Opening, RowWithin, OpeningWithin, opened_from}
use Rattle.b67_stack.specs.MachineView.{PagedObject}
use Rattle.b67_layout.specs.Common.{Placement, array_object, code_objects, objects_of}
use Rattle.b67_load.specs.Objects.{code_from, rows_from, program_objects as objects_at}
use Rattle.b67_session.specs.Opened.{dictionary_words, dictionaries, segments_in, opening_plan, objects_from, programs_of}
use Rattle.b67_session.proofs.Lists.{has_mapped, has_flat}
use Rattle.b67_session.proofs.Members.{member, for_members, has_member}

-- an object of one of these programs
pub record IsObject (programs : List Program) (t : PagedObject) : Type 0 where
  pub place : ℕ
  pub program : Program
  pub found : slice_get programs place ≡ Some program
  pub among : Has (objects_at (160 + dictionaries (take place programs)) program) t

-- where objects stand
pub record Within (from upto : ℕ) (t : PagedObject) : Type 0 where
  pub low : from ≤ t.home
  pub high : t.home < upto

segments_within : (at : ℕ) (ss : List Segment) (t : PagedObject) → Has (code_from at ss) t → Within at (at + length ss) t
segments_within at [] t h = absurd h
segments_within at (s ∷ more) t (inl e) = let is : at ≡ t.home = ap (λ (u : PagedObject). u.home) e in record { low = omega (arith, is); high = omega (arith, is) }
segments_within at (s ∷ more) t (inr h) = let w = segments_within (at + 1) more t h in record { low = omega (arith, w.low); high = omega (arith, w.high) }

rows_within : (at : ℕ) (rs : List (List ℕ)) (t : PagedObject) → Has (rows_from at rs) t → Within at (at + length rs) t
rows_within at [] t h = absurd h
rows_within at (r ∷ more) t (inl e) = let is : at ≡ t.home = ap (λ (u : PagedObject). u.home) e in record { low = omega (arith, is); high = omega (arith, is) }
rows_within at (r ∷ more) t (inr h) = let w = rows_within (at + 1) more t h in record { low = omega (arith, w.low); high = omega (arith, w.high) }

pub objects_within : (at : ℕ) (p : Program) (t : PagedObject) → Has (objects_at at p) t → Within (at + 2) (at + dictionary_words p) t
objects_within at p t h = grind (arith, segments_within, rows_within, has_append_cases)

segments_differ : (at : ℕ) (ss : List Segment) (t u : PagedObject) → Has (code_from at ss) t → Has (code_from at ss) u → t.home ≡ u.home → t ≡ u
segments_differ at [] t u h k e = absurd h
segments_differ at (s ∷ more) t u (inl a) (inl b) e = sym a ∙ b
segments_differ at (s ∷ more) t u (inl a) (inr k) e = absurd (omega (arith, e, ap (λ (x : PagedObject). x.home) a, (segments_within (at + 1) more u k).low))
segments_differ at (s ∷ more) t u (inr h) (inl b) e = absurd (omega (arith, e, ap (λ (x : PagedObject). x.home) b, (segments_within (at + 1) more t h).low))
segments_differ at (s ∷ more) t u (inr h) (inr k) e = segments_differ (at + 1) more t u h k e

rows_differ : (at : ℕ) (rs : List (List ℕ)) (t u : PagedObject) → Has (rows_from at rs) t → Has (rows_from at rs) u → t.home ≡ u.home → t ≡ u
rows_differ at [] t u h k e = absurd h
rows_differ at (s ∷ more) t u (inl a) (inl b) e = sym a ∙ b
rows_differ at (s ∷ more) t u (inl a) (inr k) e = absurd (omega (arith, e, ap (λ (x : PagedObject). x.home) a, (rows_within (at + 1) more u k).low))
rows_differ at (s ∷ more) t u (inr h) (inl b) e = absurd (omega (arith, e, ap (λ (x : PagedObject). x.home) b, (rows_within (at + 1) more t h).low))
rows_differ at (s ∷ more) t u (inr h) (inr k) e = rows_differ (at + 1) more t u h k e

objects_differ : (at : ℕ) (p : Program) (t u : PagedObject) → Has (objects_at at p) t → Has (objects_at at p) u → t.home ≡ u.home → t ≡ u
objects_differ at p t u h k e = grind (arith, segments_differ, segments_within, rows_within, has_append_cases, rows_differ)

-- of several programs
pub object_within : (programs : List Program) (t : PagedObject) → IsObject programs t → Within 162 (160 + dictionaries programs) t
object_within programs t i = grind (arith, objects_within, total_within)

apart : (programs : List Program) (t u : PagedObject) (i : IsObject programs t) (j : IsObject programs u) → i.place < j.place → t.home < u.home
apart programs t u i j less =
    let a = objects_within (160 + dictionaries (take i.place programs)) i.program t i.among in
    let b = objects_within (160 + dictionaries (take j.place programs)) j.program u j.among in
    omega (arith, a.high, b.low, total_before dictionary_words programs i.place j.place i.program i.found less)

pub homes_differ : (programs : List Program) (t u : PagedObject) → IsObject programs t → IsObject programs u → t.home ≡ u.home → t ≡ u
homes_differ programs t u i j e = ⊎_elim
    (λ (s : i.place ≡ j.place).
    let p : i.program ≡ j.program = same_Some i.program j.program (sym i.found ∙ (ap (slice_get programs) s ∙ j.found)) in
    let at = λ (n : ℕ). 160 + dictionaries (take n programs) in
    let m : Has (objects_at (at j.place) i.program) t = subst (λ n. Has (objects_at (at n) i.program) t) s i.among in
    let n : Has (objects_at (at j.place) j.program) t = subst (λ q. Has (objects_at (at j.place) q) t) p m in
    objects_differ (at j.place) j.program t u n j.among e)
    (λ (s : (i.place < j.place) ⊎ (j.place < i.place)). ⊎_elim
    (λ (l : i.place < j.place). absurd (omega (arith, e, apart programs t u i j l)))
    (λ (l : j.place < i.place). absurd (omega (arith, e, apart programs u t j i l)))
    s)
    (cases_order i.place j.place)

-- as the view lists them
codes_are : (plan : Placement) (j n at : ℕ) (ss : List Segment) → at ≡ plan.dictionary j + 1 + n → code_objects plan j n ss ≡ code_from at ss
codes_are plan j n at [] e = refl
codes_are plan j n at (s ∷ more) e = grind (arith, codes_are plan j (n + 1) (at + 1) more)

rows_are : (plan : Placement) (j n at base : ℕ) (rs : List (List ℕ)) → ((i : ℕ) → plan.home j i ≡ base + i) → at ≡ base + n → map (array_object plan j) (row_arrays n rs) ≡ rows_from at rs
rows_are plan j n at base [] h e = refl
rows_are plan j n at base (r ∷ more) h e = grind (arith, rows_are plan j (n + 1) (at + 1) base more h)

-- the objects in a row are those of the programs
is_object_at : (at at' : ℕ) (p : Program) (t : PagedObject) → at ≡ at' → Has (objects_at at p) t → Has (objects_at at' p) t
is_object_at at at' p t e h = subst (λ a. Has (objects_at a p) t) e h

pub among_all : (at : ℕ) (programs : List Program) (k : ℕ) (p : Program) (t : PagedObject) → slice_get programs k ≡ Some p → Has (objects_at (at + dictionaries (take k programs)) p) t → Has (objects_from at programs) t
among_all at [] k p t e h = absurd (none-some p e)
among_all at (q ∷ more) zero p t e h = grind (arith, has_append_left)
among_all at (q ∷ more) (suc k) p t e h = grind (arith, has_append_right, among_all (at + dictionary_words q) more k p t e)

record Among (at : ℕ) (programs : List Program) (t : PagedObject) : Type 0 where
  place : ℕ
  program : Program
  found : slice_get programs place ≡ Some program
  among : Has (objects_at (at + dictionaries (take place programs)) program) t

from_all : (at : ℕ) (programs : List Program) (t : PagedObject) → Has (objects_from at programs) t → Among at programs t
from_all at [] t h = absurd h
from_all at (p ∷ more) t h = ⊎_elim
    (λ (m : Has (objects_at at p) t). record { place = 0; program = p; found = refl; among = is_object_at at (at + 0) p t (omega arith) m })
    (λ (m : Has (objects_from (at + dictionary_words p) more) t).
    let a = from_all (at + dictionary_words p) more t m in
    record {
      place = suc a.place;
      program = a.program;
      found = a.found;
      among = is_object_at (at + dictionary_words p + dictionaries (take a.place more)) (at + (dictionary_words p + dictionaries (take a.place more))) a.program t (omega arith) a.among;
    })
    (has_append_cases (objects_at at p) (objects_from (at + dictionary_words p) more) t h)

pub is_object : (programs : List Program) (t : PagedObject) → Has (objects_from 160 programs) t → IsObject programs t
is_object programs t h = let a = from_all 160 programs t h in record { place = a.place; program = a.program; found = a.found; among = a.among }

-- as the view has them
module _ (stack : ℕ) (openings : List Opening) (k j : ℕ) (o : Opening) (found : slice_get openings k ≡ Some o) (numbered : j ≡ 1 + k) where
  before : j - 1 ≡ k
  before = omega (arith, numbered)

  pub dictionary_is : (opening_plan stack (programs_of openings)).dictionary j ≡ 160 + dictionaries (take k (programs_of openings))
  dictionary_is = ap (λ n. 160 + dictionaries (take n (programs_of openings))) before

  segments_are : segments_in (slice_get (programs_of openings) (j - 1)) ≡ length o.program.segments
  segments_are = ap (λ n. segments_in (slice_get (programs_of openings) n)) before ∙ ap segments_in (at_mapped (λ (x : Opening). x.program) openings k o found)

  pub home_is : (i : ℕ) → (opening_plan stack (programs_of openings)).home j i ≡ 160 + dictionaries (take k (programs_of openings)) + 1 + length o.program.segments + i
  home_is i = omega (arith, dictionary_is, segments_are)

  codes_of : code_objects (opening_plan stack (programs_of openings)) j 1 o.program.segments ≡ code_from (160 + dictionaries (take k (programs_of openings)) + 2) o.program.segments
  codes_of = codes_are (opening_plan stack (programs_of openings)) j 1 (160 + dictionaries (take k (programs_of openings)) + 2) o.program.segments (omega (arith, dictionary_is))

  rows_of : map (array_object (opening_plan stack (programs_of openings)) j) (row_arrays 1 o.program.rows) ≡ rows_from (160 + dictionaries (take k (programs_of openings)) + (2 + length o.program.segments)) o.program.rows
  rows_of = rows_are (opening_plan stack (programs_of openings)) j 1 (160 + dictionaries (take k (programs_of openings)) + (2 + length o.program.segments)) (160 + dictionaries (take k (programs_of openings)) + 1 + length o.program.segments) o.program.rows home_is (omega arith)

  pub member_objects : (t : PagedObject) → Has (objects_of (opening_plan stack (programs_of openings)) (member stack j o)) t → Has (objects_at (160 + dictionaries (take k (programs_of openings))) o.program) t
  member_objects t h =
      let plan = opening_plan stack (programs_of openings) in
      let at = 160 + dictionaries (take k (programs_of openings)) in
      let codes = code_from (at + 2) o.program.segments in
      let rows = rows_from (at + (2 + length o.program.segments)) o.program.rows in
      ⊎_elim
      (λ (m : Has (code_objects plan j 1 o.program.segments) t). has_append_left codes rows t (subst (λ ts. Has ts t) codes_of m))
      (λ (m : Has (map (array_object plan j) (reverse (row_arrays 1 o.program.rows))) t).
      let a = has_mapped (array_object plan j) (reverse (row_arrays 1 o.program.rows)) t m in
      let b : Has (map (array_object plan j) (row_arrays 1 o.program.rows)) (array_object plan j a.0) = has_map (array_object plan j) (row_arrays 1 o.program.rows) a.0 (has_reverse_back (row_arrays 1 o.program.rows) a.0 a.1) in
      has_append_right codes rows t (subst (λ u. Has rows u) a.2 (subst (λ ts. Has ts (array_object plan j a.0)) rows_of b)))
      (has_append_cases (code_objects plan j 1 o.program.segments) (map (array_object plan j) (reverse (row_arrays 1 o.program.rows))) t h)

  pub objects_member : (t : PagedObject) → Has (objects_at (160 + dictionaries (take k (programs_of openings))) o.program) t → Has (objects_of (opening_plan stack (programs_of openings)) (member stack j o)) t
  objects_member t h =
      let plan = opening_plan stack (programs_of openings) in
      let at = 160 + dictionaries (take k (programs_of openings)) in
      let codes = code_from (at + 2) o.program.segments in
      let rows = rows_from (at + (2 + length o.program.segments)) o.program.rows in
      let listed = map (array_object plan j) (reverse (row_arrays 1 o.program.rows)) in
      ⊎_elim
      (λ (m : Has codes t). has_append_left (code_objects plan j 1 o.program.segments) listed t (subst (λ ts. Has ts t) (sym codes_of) m))
      (λ (m : Has rows t).
      let a = has_mapped (array_object plan j) (row_arrays 1 o.program.rows) t (subst (λ ts. Has ts t) (sym rows_of) m) in
      has_append_right (code_objects plan j 1 o.program.segments) listed t
      (subst (λ u. Has listed u) a.2 (has_map (array_object plan j) (reverse (row_arrays 1 o.program.rows)) a.0 (has_reverse (row_arrays 1 o.program.rows) a.0 a.1))))
      (has_append_cases codes rows t h)

-- the view's objects and those in a row are the same
pub from_machine_view : (stack : ℕ) (openings : List Opening) (t : PagedObject) →
    Has (flat_map (objects_of (opening_plan stack (programs_of openings))) (opened_from 1 stack openings)) t → Has (objects_from 160 (programs_of openings)) t
from_machine_view stack openings t h =
    let plan = opening_plan stack (programs_of openings) in
    let m = has_flat (objects_of plan) (opened_from 1 stack openings) t h in
    for_members (λ (x : SessionJob). Has (objects_of plan x) t → Has (objects_from 160 (programs_of openings)) t) stack 1 openings
    (λ k j o e f i. among_all 160 (programs_of openings) k o.program t (at_mapped (λ (x : Opening). x.program) openings k o e) (member_objects stack openings k j o e f t i))
    m.0 m.1 m.2

pub to_machine_view : (stack : ℕ) (openings : List Opening) (t : PagedObject) →
    Has (objects_from 160 (programs_of openings)) t → Has (flat_map (objects_of (opening_plan stack (programs_of openings))) (opened_from 1 stack openings)) t
to_machine_view stack openings t h =
    let plan = opening_plan stack (programs_of openings) in
    let i = is_object (programs_of openings) t h in
    let o = mapped_at (λ (x : Opening). x.program) openings i.place i.program i.found in
    has_flat_map (objects_of plan) (opened_from 1 stack openings) (member stack (1 + i.place) o.0) t
    (has_member stack 1 openings i.place (1 + i.place) o.0 o.1 refl)
    (objects_member stack openings i.place (1 + i.place) o.0 o.1 refl t (subst (λ p. Has (objects_at (160 + dictionaries (take i.place (programs_of openings))) p) t) (sym o.2) i.among))

-- each has a length
codes_long : (at : ℕ) (ss : List Segment) (t : PagedObject) → AllByRecursion SegmentInOrder ss → Has (code_from at ss) t → (0 < length t.numbers) × (length t.numbers < 2 ^ 16)
codes_long at [] t h k = absurd k
codes_long at (s ∷ more) t h (inl e) = let l : length s.code ≡ length t.numbers = ap (λ (u : PagedObject). length u.numbers) e in (omega (arith, l, h.0.length_low), omega (arith, l, h.0.length_high))
codes_long at (s ∷ more) t h (inr k) = codes_long (at + 1) more t h.1 k

rows_long : (at : ℕ) (rs : List (List ℕ)) (t : PagedObject) → AllByRecursion RowWithin rs → Has (rows_from at rs) t → (0 < length t.numbers) × (length t.numbers < 2 ^ 16)
rows_long at [] t h k = absurd k
rows_long at (r ∷ more) t h (inl e) = let l : length r ≡ length t.numbers = ap (λ (u : PagedObject). length u.numbers) e in (omega (arith, l, h.0.length_low), omega (arith, l, h.0.length_high))
rows_long at (r ∷ more) t h (inr k) = rows_long (at + 1) more t h.1 k

pub objects_long : (at : ℕ) (openings : List Opening) (t : PagedObject) → AllByRecursion OpeningWithin openings → Has (objects_from at (programs_of openings)) t → (0 < length t.numbers) × (length t.numbers < 2 ^ 16)
objects_long at [] t h k = absurd k
objects_long at (o ∷ more) t h k = grind (arith, codes_long, rows_long, has_append_cases, objects_long (at + dictionary_words o.program) more t h.1)
