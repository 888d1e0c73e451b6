-- Where references of the running task lead.
use Rattle.std.proofs.Common.{◌≡◌, ◌≢◌, ℕ, zero, suc, ◌-◌, ◌^◌, ◌<◌, ◌≤◌, ltb, leb, List, [], ◌∷◌, map, reverse, length, ℤ, pos, negsuc, Option, Some, None, unwrap_or, Ok, Err, refl, sym, ap, subst, inl, inr, arith}
use Rattle.std.specs.Option.{ok_or}
use Rattle.std.proofs.lemmas.Bool.{cases_Bool, leb-true, ltb-true}
use Rattle.b67_word.specs.declared.couples.Couple.{Couple}
use Rattle.b67_word.specs.declared.faults.Fault.{Fault}
use Rattle.b67_word.specs.declared.faults.Fault.TheVariants.{InvalidAddress}
use Rattle.b67_word.specs.Couples.{couple}
use Rattle.b67_model.specs.Common.{Answer, no_array, array, array_at, array_of, index_below, indexed, Word, Operand, Name, Ref, Row, Element, Original, Proc, Intrinsic, operand, number, Frame, Standing, Marked, Entered, Array, OperatorContext, frame, level_of_standing, level_of_frame, environment_of, running, running_from, outward, running_level, first_offset, cell_of, cell, named, place_of, End, AtCell, AtElement, AtArray, AtProc, AtIntrinsic, Link, Stops, Leads, element_end, link_at, link_in, link_from, link, chase_on, chase, follow, follow_reference, Starts, Known, known_of, IsEntered, NamesEntered, NamesArray, WordInOrder, StackInOrder, ReturnsInOrder}
use Rattle.b67_model.specs.Keyed.{keyed}
use Rattle.b67_lemmas.specs.Lists.{Has}
use Rattle.b67_lemmas.proofs.Members.{has_append_left, has_get, has_map, has_reverse_back, keyed_falls}
use Rattle.b67_model.specs.Words as Words
use Rattle.b67_law.specs.Ends.{IsElement, EndInOrder}
use Rattle.b67_law.proofs.Looks.{SeenWord, Run, reach, own_order, see, closed, level_low, own_high}
use Rattle.b67_law.proofs.Posts.{Post, post_ok, post_err, post_bind, post_any, post_if_is}
use Rattle.b67_model.specs.declared.limits.TheConstants.{MOST_LINKS}

-- what a reference may be
abbrev pub RefInOrder : List Known → Word → Type 0
RefInOrder reach (Name couple) = couple < 2 ^ 14
RefInOrder reach (Ref identity offset) = NamesEntered reach identity × (offset < 2 ^ 12)
RefInOrder reach _ = Unit {0}

abbrev pub PlaceInOrder : List Known → (ℕ × ℕ) → Type 0
PlaceInOrder reach at = NamesEntered reach at.0 × (at.1 < 2 ^ 12)

abbrev LinkInOrder : Starts → OperatorContext → Link → Type 0
LinkInOrder P h (Stops end) = Post (EndInOrder P h) end
LinkInOrder P h (Leads w) = RefInOrder (reach h) w

pub running_in : (P : Starts) (fs : List Frame) → StackInOrder P fs → fs ≢ [] → Has fs (running fs) × IsEntered (running fs).standing
running_in P [] g some = absurd (some refl)
running_in P (f ∷ below) g some = grind (arith, running_in P below g.1)

-- couples of a task reach offsets of twelve bits
disp_low : (bits level : ℕ) → 2 ≤ level → (couple bits level).disp < 2 ^ 12
disp_low bits level low = grind arith

pub some_ok : {A : Type 0} (o : Option A) (fault : Fault) (x : A) → ok_or o fault ≡ Ok x → o ≡ Some x
some_ok o fault x e = grind arith

pub cell_has : (f : Frame) (offset : ℕ) (w : Word) → ok_or (cell_of f offset) InvalidAddress ≡ Ok w → Has f.cells w
cell_has f offset w e = grind (arith, has_reverse_back, has_get)

module _ (P : Starts) (h : OperatorContext) (run : Run P h) where
  pub running_known : Has (reach h) (known_of (running h.task.frames)) × IsEntered (running h.task.frames).standing
  running_known =
      let own = own_order P h run in
      let r = running_in P h.task.frames own.returns own.some in
      (has_append_left (map known_of h.task.frames) _ (known_of (running h.task.frames)) (has_map known_of h.task.frames (running h.task.frames) r.0), r.1)

  pub running_low : 2 ≤ running_level h
  running_low =
      let own = own_order P h run in
      let r = running_in P h.task.frames own.returns own.some in
      level_low P h run (running h.task.frames).identity (running h.task.frames).standing running_known.0 running_known.1 (own_high P h run (running h.task.frames) r.0)

  -- environment links stay in reach
  outward_in : (links : ℕ) (f : Frame) → Has (reach h) (known_of f) → IsEntered f.standing → links ≤ level_of_frame f → NamesEntered (reach h) (outward h links f).identity
  outward_in zero f k e low = record { standing = f.standing; among = k; entered = e }
  outward_in (suc links) f k e low =
      let out = closed P h run f.identity f.standing k e (omega (arith, low)) in
      let environment = environment_of f.standing in
      let seen = see P h run environment out.standing out.among in
      let is : (environment, out.standing) ≡ known_of (frame h environment) = λ i. (sym seen.identity i, sym seen.standing i) in
      let known : Has (reach h) (known_of (frame h environment)) = subst (Has (reach h)) is out.among in
      let entered : IsEntered (frame h environment).standing = subst IsEntered (sym seen.standing) out.entered in
      let level : level_of_frame (frame h environment) ≡ level_of_standing out.standing = ap level_of_standing seen.standing in
      outward_in links (frame h environment) known entered (omega (arith, low, level, out.level_below))

  pub named_in : (c : Couple) → c.disp < 2 ^ 12 → Post (PlaceInOrder (reach h)) (named h c)
  named_in c low = post_if_is (PlaceInOrder (reach h)) (leb c.level (running_level h)) _ _
      (λ t. post_ok (PlaceInOrder (reach h)) _ (outward_in (running_level h - c.level) (running h.task.frames) running_known.0 running_known.1 (omega arith), low))
      (λ t. post_err (PlaceInOrder (reach h)) _)

  pub place_in : (w : Word) → RefInOrder (reach h) w → Post (PlaceInOrder (reach h)) (place_of h w)
  place_in (Name bits) g = named_in (couple bits (running_level h)) (disp_low bits (running_level h) running_low)
  place_in (Ref identity offset) g = post_ok (PlaceInOrder (reach h)) _ g
  place_in (Operand bits) g = post_err (PlaceInOrder (reach h)) _
  place_in (Row array) g = post_err (PlaceInOrder (reach h)) _
  place_in (Element array index) g = post_err (PlaceInOrder (reach h)) _
  place_in (Original array) g = post_err (PlaceInOrder (reach h)) _
  place_in (Proc segment level place) g = post_err (PlaceInOrder (reach h)) _
  place_in (Intrinsic number) g = post_err (PlaceInOrder (reach h)) _
  place_in (Words.Segment number) g = post_err (PlaceInOrder (reach h)) _

  -- the index is tested as it is used
  element_in : (a index : ℕ) → NamesArray h.job.arrays (reach h) a → Post (EndInOrder P h) (element_end h a index)
  element_in a index g = grind arith

  link_word : (f offset : ℕ) → PlaceInOrder (reach h) (f, offset) → (w : Word) → cell h f offset ≡ Ok w → SeenWord P h.job.arrays (reach h) f w → LinkInOrder P h (link_at h f offset w)
  link_word f offset at w e g = grind arith

  link_cell : (f offset : ℕ) → PlaceInOrder (reach h) (f, offset) → (a : Answer Word) → cell h f offset ≡ a → LinkInOrder P h (link_in h f offset a)
  link_cell f offset at (Err fault) e = post_err (EndInOrder P h) fault
  link_cell f offset at (Ok w) e = link_word f offset at w e ((see P h run f at.0.standing at.0.among).words w (cell_has (frame h f) offset w e))

  link_place : (a : Answer (ℕ × ℕ)) → Post (PlaceInOrder (reach h)) a → LinkInOrder P h (link_from h a)
  link_place a g = grind (arith, link_cell)

  chase_links : (links : ℕ) (l : Link) → LinkInOrder P h l → Post (EndInOrder P h) (chase_on h links l)
  chase_links links (Stops end) g = g
  chase_links zero (Leads w) g = post_err (EndInOrder P h) _
  chase_links (suc links) (Leads w) g = chase_links links (link h w) (link_place (place_of h w) (place_in w g))

  pub chase_in : (w : Word) → RefInOrder (reach h) w → Post (EndInOrder P h) (chase h w)
  chase_in w g = chase_links MOST_LINKS (Leads w) g

  pub follow_in : (owner : ℕ) (w : Word) → WordInOrder P h.job.arrays (reach h) owner w → Post (EndInOrder P h) (follow h w)
  follow_in owner (Name couple) g = chase_in (Name couple) g
  follow_in owner (Ref f offset) g = chase_in (Ref f offset) g
  follow_in owner (Element a index) g = element_in a index g
  follow_in owner (Operand bits) g = post_err (EndInOrder P h) _
  follow_in owner (Row array) g = post_err (EndInOrder P h) _
  follow_in owner (Original array) g = post_err (EndInOrder P h) _
  follow_in owner (Proc segment level place) g = post_err (EndInOrder P h) _
  follow_in owner (Intrinsic number) g = post_err (EndInOrder P h) _
  follow_in owner (Words.Segment number) g = post_err (EndInOrder P h) _

  pub follow_reference_in : (owner : ℕ) (w : Word) → WordInOrder P h.job.arrays (reach h) owner w → Post (EndInOrder P h) (follow_reference h w)
  follow_reference_in owner (Name couple) g = chase_in (Name couple) g
  follow_reference_in owner (Ref f offset) g = chase_in (Ref f offset) g
  follow_reference_in owner (Element array index) g = post_err (EndInOrder P h) _
  follow_reference_in owner (Operand bits) g = post_err (EndInOrder P h) _
  follow_reference_in owner (Row array) g = post_err (EndInOrder P h) _
  follow_reference_in owner (Original array) g = post_err (EndInOrder P h) _
  follow_reference_in owner (Proc segment level place) g = post_err (EndInOrder P h) _
  follow_reference_in owner (Intrinsic number) g = post_err (EndInOrder P h) _
  follow_reference_in owner (Words.Segment number) g = post_err (EndInOrder P h) _

  abbrev pub IsArray : ℕ → Type 0
  IsArray array = NamesArray h.job.arrays (reach h) array

  array_at_in : (end : End) → EndInOrder P h end → Post IsArray (array_at end)
  array_at_in end g = grind arith

  pub array_of_in : (owner : ℕ) (w : Word) → WordInOrder P h.job.arrays (reach h) owner w → Post IsArray (array_of h w)
  array_of_in owner (Row array) g = post_ok IsArray array g
  array_of_in owner (Name couple) g = post_bind (EndInOrder P h) IsArray (chase h (Name couple)) _ (chase_in (Name couple) g) array_at_in
  array_of_in owner (Ref f offset) g = post_bind (EndInOrder P h) IsArray (chase h (Ref f offset)) _ (chase_in (Ref f offset) g) array_at_in
  array_of_in owner (Operand bits) g = post_err IsArray _
  array_of_in owner (Element array index) g = post_err IsArray _
  array_of_in owner (Original array) g = post_err IsArray _
  array_of_in owner (Proc segment level place) g = post_err IsArray _
  array_of_in owner (Intrinsic number) g = post_err IsArray _
  array_of_in owner (Words.Segment number) g = post_err IsArray _

  -- the array of an identity is the one that is named
  pub array_is : (n : ℕ) (a : NamesArray h.job.arrays (reach h) n) → array h.job n ≡ a.item
  array_is n a = grind (arith, keyed_falls)

  abbrev pub IsIndexed : (ℕ × ℕ) → Type 0
  IsIndexed at = IsElement h (reach h) at.0 at.1

  index_in : (a : ℕ) (g : IsArray a) (n : ℤ) → Post (λ index. IsIndexed (a, index)) (index_below (length (array h.job a).numbers) n)
  index_in a g n = grind arith

  pub indexed_in : (owner : ℕ) (r i : Word) → WordInOrder P h.job.arrays (reach h) owner r → Post IsIndexed (indexed h r i)
  indexed_in owner r i g = post_any IsIndexed (operand i) _ (λ bits. post_bind IsArray IsIndexed (array_of h r) _ (array_of_in owner r g)
      (λ a is. post_any IsIndexed (number bits) _ (λ n. post_bind (λ index. IsIndexed (a, index)) IsIndexed (index_below (length (array h.job a).numbers) n) _ (index_in a is n) (λ index e. post_ok IsIndexed (a, index) e))))

pub ok_some : (o : Option Word) (w : Word) → ok_or o InvalidAddress ≡ Ok w → o ≡ Some w
ok_some o w e = grind arith
