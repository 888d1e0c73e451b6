-- Objects written one after the other.
use Rattle.std.proofs.Common.{◌≡◌, ℕ, ◌+◌, ◌<◌, ◌≤◌, ◌⊎◌, List, [], ◌∷◌, ◌++◌, length, take, map, Option, Some, refl, sym, ◌∙◌, ap, subst, arith, inl, ⊎_elim, slice_set, length-drop}
use Rattle.std.specs.List.{slice_get, AllByRecursion}
use Rattle.b67_word.specs.Common.{Tagged, word, contents, number}
use Rattle.b67_core.proofs.Writes.{slice_get-set_same, slice_get-set_other}
use Rattle.b67_codefile.specs.Spelling.{HasTag}
use Rattle.b67_backing.specs.Shelf.{Shelf, IsShelf, first, taken}
use Rattle.b67_backing.specs.Held.{Changes, SameBut, Stores, sectors_for}
use Rattle.b67_backing.proofs.News.{first_take}
use Rattle.b67_lemmas.specs.Lists.{Has}
use Rattle.b67_lemmas.proofs.Members.{has_append_cases, total_append}
use Rattle.b67_stack.specs.Common.{PagedObject, object_words, home_word, at_rest}
use Rattle.b67_load.specs.Objects.{object_sectors, sectors_of_objects}
use Rattle.b67_load.specs.StoredObjects.{placed, stocked, descriptor, DescriptorsStand, WordsRest, WritesFreeSectors, SameOutside}
use Rattle.b67_load.specs.Writing.{Parts, Spares, Writes}
use Rattle.b67_load.proofs.Shelves.{keeps_taken, keeps_both, stocked-append, placed-append, stocked_has, placed_chain, placed_object, holds_stay, chain_apart, times-take_drop, none_more}

same_but_both : (ms ns : List ℕ) (a b c : List (List ℕ)) → ((m : ℕ) → Has ns m → Has ms m) → SameBut ms a b → SameBut ns b c → SameBut ms a c
same_but_both ms ns a b c more s t = record { count = t.count ∙ s.count; others = λ m low out. t.others m low (none_more ms ns m (more m) out) ∙ s.others m low out }

-- the words of a list with one tag are those of their bits
pub words_back : (tag : ℕ) (ws : List Tagged) → AllByRecursion (HasTag tag) ws → map (word tag) (contents ws) ≡ ws
words_back tag [] h = refl
words_back tag (w ∷ ws) h = grind (arith, words_back tag ws h.1)

-- a word that was written to core
pub word_set : (core new : List Tagged) (at : ℕ) (w v : Tagged) → at < length core → new ≡ slice_set core at w → w ≡ v → slice_get new at ≡ Some v
word_set core new at w v inside e f = ap (λ (c : List Tagged). slice_get c at) e ∙ slice_get-set_same core at w inside ∙ ap Some f

pub outside_set : (core new : List Tagged) (at : ℕ) (w : Tagged) → new ≡ slice_set core at w → SameOutside at (at + 1) core new
outside_set core new at w e i h = ap (λ (c : List Tagged). slice_get c i) e ∙ slice_get-set_other core at i w (λ q. ⊎_elim (λ (l : i < at). omega arith) (λ (l : at + 1 ≤ i). omega arith) h)

module _ {D : Type 0} (tell : D → Option (List (List ℕ))) where
  pub spares-refl : (at n : ℕ) (a : Parts D) → Spares tell at n a a
  spares-refl at n a = grind arith

  pub spares_both : (at n : ℕ) (a b c : Parts D) → Spares tell at n a b → Spares tell at n b c → Spares tell at n a c
  spares_both at n a b c s t = record {
    outside = λ i h. t.outside i h ∙ s.outside i h;
    len = t.len ∙ s.len;
    links = t.links ∙ s.links;
    chains = λ st is.
        let (mid, there, k) = s.chains st is in
        let (end, so, l) = t.chains mid there in
        (end, so, keeps_both st mid end k l);
    others = λ st is. record {
      told = λ x e.
          let (mid, there, k) = s.chains st is in
          let (y, told, one) = (s.others st is).told x e in
          let (z, then, two) = (t.others mid there).told y told in
          (z, then, same_but_both st.free mid.free x y z k.free one two);
    };
  }

  pub spares_wider : (at n from upto : ℕ) (a b : Parts D) → from ≤ at → at + n ≤ from + upto → Spares tell at n a b → Spares tell from upto a b
  spares_wider at n from upto a b low high s = grind arith

  -- one object's chain is taken, and maybe a word of core written
  pub spares_taken : (at n : ℕ) (a b : Parts D) → SameOutside at (at + 1) a.core b.core → length b.core ≡ length a.core → length b.table.links ≡ length a.table.links
      → 1 ≤ n → n ≤ a.table.free
      → ((s : Shelf) → IsShelf a.table s → IsShelf b.table (taken n s))
      → ((s : Shelf) → IsShelf a.table s → Changes tell a.device b.device (SameBut (take n s.free)))
      → Spares tell at 1 a b
  spares_taken at n a b out len links some fits shelf others = grind (arith, keeps_taken, times-take_drop)

  pub writes_none : (a : Parts D) → Writes tell [] a a
  writes_none a = grind arith

  -- one object is written
  pub writes_one : (t : PagedObject) (a b : Parts D)
      → ((s : Shelf) → IsShelf a.table s → IsShelf b.table (taken (object_sectors t) s))
      → ((s : Shelf) → IsShelf a.table s → slice_get b.core t.home ≡ Some (descriptor (record { object = t; chain = take (object_sectors t) s.free })))
      → ((s : Shelf) → IsShelf a.table s → Changes tell a.device b.device (Stores (take (object_sectors t) s.free) (map number (object_words t))))
      → b.table.free + object_sectors t ≡ a.table.free
      → Writes tell (t ∷ []) a b
  writes_one t a b shelf desc stores left = grind (arith, times-take_drop)

  -- an object whose words were put on a shelf, and its descriptor into core
  pub written : (t : PagedObject) (ws : List Tagged) (x : ℕ) (a b : Parts D) → (s : Shelf) × IsShelf a.table s
      → object_words t ≡ ws → length t.numbers ≡ length ws → 1 ≤ length ws → sectors_for (length ws) ≤ a.table.free
      → ((s : Shelf) → IsShelf a.table s → IsShelf b.table (taken (sectors_for (length ws)) s))
      → ((s : Shelf) → IsShelf a.table s → Changes tell a.device b.device (Stores (take (sectors_for (length ws)) s.free) (map number ws)))
      → ((s : Shelf) → IsShelf a.table s → x ≡ first s.free)
      → slice_get b.core t.home ≡ Some (home_word t (at_rest x))
      → Writes tell (t ∷ []) a b
  written t ws x a b known words long some fits shelf stores firsts word_is =
      let n : sectors_for (length ws) ≡ object_sectors t = ap sectors_for (sym long) in
      writes_one t a b
      (λ s is. subst (λ (m : ℕ). IsShelf b.table (taken m s)) n (shelf s is))
      (λ s is. word_is ∙ ap (λ (m : ℕ). Some (home_word t (at_rest m))) (firsts s is ∙ sym (first_take (object_sectors t) s.free (omega (arith, long)))))
      (λ s is. rw words (subst (λ (m : ℕ). Changes tell a.device b.device (Stores (take m s.free) (map number ws))) n (stores s is)))
      (let (s, is) = known in omega (arith, (shelf s is).count, is.count, length-drop (sectors_for (length ws)) s.free, n))

  -- what is written after objects leaves them, if their descriptors lie elsewhere
  pub writes_both : (xs ys : List PagedObject) (at n : ℕ) (a b c : Parts D) → Writes tell xs a b → Writes tell ys b c → Spares tell at n b c
      → ((t : PagedObject) → Has xs t → (t.home < at) ⊎ (at + n ≤ t.home)) → Writes tell (xs ++ ys) a c
  writes_both xs ys at n a b c w v s apart = record {
    shelf = λ st is. rw (stocked-append xs ys st) (v.shelf (stocked xs st) (w.shelf st is));
    descriptors = λ st is. rw (placed-append xs ys st) (both_stand st is);
    stocks = λ st is. record {
      told = λ x e.
          let (y, told, one) = (w.stocks st is).told x e in
          let (z, then, two) = (v.stocks (stocked xs st) (w.shelf st is)).told y told in (
            z,
            then,
            record {
              same = same_but_both st.free (stocked xs st).free x y z (λ m h. stocked_has m xs st h) one.same two.same;
              rest = rw (placed-append xs ys st) (both_rest st is y z one two);
            },
          );
    };
    left = omega (arith, w.left, v.left, total_append object_sectors xs ys);
  } where
    both_stand : (st : Shelf) → IsShelf a.table st → DescriptorsStand c.core (placed xs st.free ++ placed ys (stocked xs st).free)
    both_stand st is r h = ⊎_elim
        (λ (k : Has (placed xs st.free) r). s.outside r.object.home (apart r.object (placed_object xs st.free r k)) ∙ w.descriptors st is r k)
        (λ (k : Has (placed ys (stocked xs st).free) r). v.descriptors (stocked xs st) (w.shelf st is) r k)
        (has_append_cases (placed xs st.free) (placed ys (stocked xs st).free) r h)

    both_rest : (st : Shelf) → IsShelf a.table st → (y z : List (List ℕ)) → {x : List (List ℕ)} → WritesFreeSectors xs st.free x y → WritesFreeSectors ys (stocked xs st).free y z
        → WordsRest z (placed xs st.free ++ placed ys (stocked xs st).free)
    both_rest st is y z one two r h = ⊎_elim
        (λ (k : Has (placed xs st.free) r).
        holds_stay (stocked xs st).free r.chain y z 0 (map number (object_words r.object)) two.same
        (λ d i. let p = chain_apart b.table (stocked xs st) r.chain d (w.shelf st is) (placed_chain xs st r k) i in (p.low, p.not_free))
        (one.rest r k))
        (λ (k : Has (placed ys (stocked xs st).free) r). two.rest r k)
        (has_append_cases (placed xs st.free) (placed ys (stocked xs st).free) r h)

  -- a loop over objects whose descriptors follow each other: what is written so far, with what is still written, is what
  -- all of it writes
  pub record Going (base upto at : ℕ) (all rest : List PagedObject) (start now : Parts D) : Type 0 where
    pub low : base ≤ at
    pub high : at + length rest ≡ base + upto
    pub room : sectors_of_objects rest ≤ now.table.free
    pub spares : Spares tell base upto start now
    pub writes : (end : Parts D) → Writes tell rest now end → Spares tell at (length rest) now end → Writes tell all start end

  pub going_first : (base : ℕ) (all : List PagedObject) (upto : ℕ) (start : Parts D) → length all ≡ upto → sectors_of_objects all ≤ start.table.free → Going base upto base all all start start
  going_first base all upto start e room = record { low = omega arith; high = omega arith; room = room; spares = spares-refl base upto start; writes = λ end w s. w }

  pub going_next : (base upto at : ℕ) (all : List PagedObject) (t : PagedObject) (rest more : List PagedObject) (start now next : Parts D) → rest ≡ t ∷ more → t.home ≡ at
      → Going base upto at all rest start now → Writes tell (t ∷ []) now next → Spares tell at 1 now next → Going base upto (at + 1) all more start next
  going_next base upto at all t rest more start now next e home g w s = by_cons (subst (λ (r : List PagedObject). Going base upto at all r start now) e g) where
    by_cons : Going base upto at all (t ∷ more) start now → Going base upto (at + 1) all more start next
    by_cons g = record {
      low = omega (arith, g.low);
      high = omega (arith, g.high);
      room = omega (arith, g.room, w.left);
      spares = spares_both base upto start now next g.spares (spares_wider at 1 base upto now next g.low (omega (arith, g.high)) s);
      writes = λ end v r. g.writes end
          (writes_both (t ∷ []) more (at + 1) (length more) now next end w v r (λ u h. ⊎_elim (λ (q : t ≡ u). inl (let k : u.home ≡ at = ap (λ (x : PagedObject). x.home) (sym q) ∙ home in omega (arith, k))) (λ k. absurd k) h))
          (spares_both at (length (t ∷ more)) now next end (spares_wider at 1 at (length (t ∷ more)) now next (omega arith) (omega arith) s) (spares_wider (at + 1) (length more) at (length (t ∷ more)) next end (omega arith) (omega arith) r));
    }

  pub going_all : (base upto at : ℕ) (all rest : List PagedObject) (start now : Parts D) → rest ≡ [] → Going base upto at all rest start now → Writes tell all start now
  going_all base upto at all rest start now e g = by_nil (subst (λ (r : List PagedObject). Going base upto at all r start now) e g) where
    by_nil : Going base upto at all [] start now → Writes tell all start now
    by_nil g = g.writes now (writes_none now) (spares-refl at 0 now)

  pub going_failed : (base upto at : ℕ) (all : List PagedObject) (t : PagedObject) (rest more : List PagedObject) (start now next : Parts D) → rest ≡ t ∷ more
      → Going base upto at all rest start now → Spares tell at 1 now next → Spares tell base upto start next
  going_failed base upto at all t rest more start now next e g s =
      spares_both base upto start now next g.spares (spares_wider at 1 base upto now next g.low (omega (arith, g.high, ap length e)) s)
