-- The session that a view shows after objects were read: with other numbers where the device tells nothing.
use Rattle.std.proofs.Common.{◌≡◌, ◌≢◌, ℕ, ◌+◌, List, [], ◌∷◌, length, map, None, refl, sym, ◌∙◌, ap, subst, inl, inr, ⊎_elim, arith}
use Rattle.std.specs.Prelude.{flat_map}
use Rattle.std.specs.List.{AllByRecursion}
use Rattle.b67_word.specs.Tagged.{Tagged}
use Rattle.b67_ctl.specs.declared.registers.Regs.{Regs}
use Rattle.b67_lemmas.specs.Lists.{Has}
use Rattle.b67_lemmas.proofs.Members.{has_append_cases, has_map_back}
use Rattle.b67_model.specs.Common.{Array, Segment, SessionJob, Session, IsSegment, SegmentInOrder, ArrayInOrder}
use Rattle.b67_layout.specs.Common.{JobInOrderButCounts, IsInOrderButCounts, Placement, array_object, code_objects, objects_of, machine_view}
use Rattle.b67_law.specs.Weaker.{AllOtherNumbers}
use Rattle.b67_layout_step.proofs.OtherNumbers.{others_in_order}
use Rattle.b67_stack.specs.Common.{PagedObject, MachineView, NoOriginalAboveTop, Storage, Represents, renumbered}
use Rattle.b67_layout.specs.Machine.{AreBits}
use Rattle.b67_layout_step.proofs.Renumbered.{member_with, others_from, Fitting, machine_view_renumbered, settled_renumbered}
use Rattle.b67_presence.specs.Brings.{IsReadable, ReadBack}
use Rattle.b67_presence.proofs.Ways.{none_or}
use Rattle.b67_presence.proofs.Others.{others_same, others_then}

-- each number of a session in order is one of a word
code_bits : (plan : Placement) (j n : ℕ) (segments : List Segment) → AllByRecursion SegmentInOrder segments → (t : PagedObject) → Has (code_objects plan j n segments) t → AreBits t.numbers
code_bits plan j n [] o t i = absurd i
code_bits plan j n (s ∷ more) o t (inl e) = let P : PagedObject → Type 0 = λ u. AreBits u.numbers in subst P e o.0.words
code_bits plan j n (s ∷ more) o t (inr i) = code_bits plan j (n + 1) more o.1 t i

array_bits : (plan : Placement) (j : ℕ) (arrays : List Array) → AllByRecursion ArrayInOrder arrays → (t : PagedObject) → Has (map (array_object plan j) arrays) t → AreBits t.numbers
array_bits plan j [] o t i = absurd i
array_bits plan j (a ∷ more) o t (inl e) = let P : PagedObject → Type 0 = λ u. AreBits u.numbers in subst P e o.0.words
array_bits plan j (a ∷ more) o t (inr i) = array_bits plan j more o.1 t i

abbrev InOrder : List SessionJob → Type 0
InOrder jobs = AllByRecursion (λ (m : SessionJob). JobInOrderButCounts (IsSegment m.constants) m.constants m.progress) jobs

all_bits : (plan : Placement) (jobs : List SessionJob) → InOrder jobs → (t : PagedObject) → Has (flat_map (objects_of plan) jobs) t → AreBits t.numbers
all_bits plan [] o t i = absurd i
all_bits plan (m ∷ more) o t i = grind (arith, code_bits, array_bits, has_append_cases, all_bits plan more o.1 t)

pub object_bits : (plan : Placement) (s : Session) → IsInOrderButCounts s → (t : PagedObject) → Has (flat_map (objects_of plan) s.jobs) t → AreBits t.numbers
object_bits plan s o t i = all_bits plan s.jobs o.jobs t i

pub readable : (x : Storage) (plan : Placement) (s : Session) → IsInOrderButCounts s → IsReadable x (machine_view plan s.jobs)
readable x plan s o = inr (object_bits plan s o)

-- a view shows the session of other numbers, which are the same where the device tells its sectors
pub record Sees (x : Storage) (plan : Placement) (jobs : List SessionJob) (q : MachineView) : Type 0 where
  pub seen : List SessionJob
  pub others : AllOtherNumbers jobs seen
  pub same : x.device ≢ None → seen ≡ jobs
  pub is : q ≡ machine_view plan seen
  pub settled : NoOriginalAboveTop (machine_view plan jobs) → NoOriginalAboveTop q

abbrev pub sees_none : (x : Storage) (plan : Placement) (s : Session) → IsInOrderButCounts s → Sees x plan s.jobs (machine_view plan s.jobs)
sees_none x plan s o = record { seen = s.jobs; others = others_same s o; same = λ n. refl; is = refl; settled = λ z. z }

module _ (x : Storage) (plan : Placement) (s : Session) (o : IsInOrderButCounts s) (q : MachineView) (t : PagedObject) (r : ReadBack x (machine_view plan s.jobs) q t)
    (fits : Fitting t.home r.numbers (flat_map (objects_of plan) s.jobs)) (bits : AreBits t.numbers) where
  pub sees_read : Sees x plan s.jobs q
  sees_read = ⊎_elim
      (λ (e : x.device ≡ None).
      let it : Sees x plan s.jobs q = record {
        seen = map (member_with plan t.home r.numbers) s.jobs;
        others = others_from plan t.home r.numbers (r.bits bits) s.jobs o.jobs fits;
        same = λ n. absurd (n e);
        is = r.is ∙ machine_view_renumbered plan t.home r.numbers s.jobs fits;
        settled = λ z. let P : MachineView → Type 0 = λ p. NoOriginalAboveTop p in subst P (sym r.is) (settled_renumbered (machine_view plan s.jobs) t.home r.numbers z);
      } in
      it)
      (λ (n : x.device ≢ None).
      let it : Sees x plan s.jobs q = record {
        seen = s.jobs;
        others = others_same s o;
        same = λ z. refl;
        is = r.same n;
        settled = λ z. let P : MachineView → Type 0 = λ p. NoOriginalAboveTop p in subst P (sym (r.same n)) z;
      } in
      it)
      (none_or x.device)

read_fits : (p q : MachineView) (home : ℕ) (ns : List ℕ) (also : ℕ) (ms : List ℕ) → q ≡ renumbered p home ns → Fitting home ns p.objects → Fitting also ms p.objects → Fitting also ms q.objects
read_fits p q home ns also ms is fits too = grind (arith, has_map_back)

-- one object of each home
pub fitting : (x : Storage) (core : List Tagged) (r : Regs) (p : MachineView) → Represents x core r p → (t : PagedObject) → Has p.objects t → (ns : List ℕ) → length ns ≡ length t.numbers → Fitting t.home ns p.objects
fitting x core r p s t int ns count u inu e = count ∙ ap (λ (v : PagedObject). length v.numbers) (sym (s.slots.laid.differ u t inu int e))

-- two objects were read
module _ (x : Storage) (core : List Tagged) (r : Regs) (plan : Placement) (s : Session) (o : IsInOrderButCounts s) (h : Represents x core r (machine_view plan s.jobs)) (t c : PagedObject)
    (int : Has (flat_map (objects_of plan) s.jobs) t) (inc : Has (flat_map (objects_of plan) s.jobs) c) (read q : MachineView) (first : ReadBack x (machine_view plan s.jobs) read t) (second : ReadBack x read q c) where
  pub sees_one : Sees x plan s.jobs read
  sees_one = sees_read x plan s o read t first (fitting x core r (machine_view plan s.jobs) h t int first.numbers first.count) (object_bits plan s o t int)

  pub sees_both : Sees x plan s.jobs q
  sees_both =
      let k = sees_one in
      let s' : Session = record s { jobs = k.seen } in
      let o' : IsInOrderButCounts s' = others_in_order s k.seen k.others o in
      let fits_t : Fitting t.home first.numbers (flat_map (objects_of plan) s.jobs) = fitting x core r (machine_view plan s.jobs) h t int first.numbers first.count in
      let fits_c : Fitting c.home second.numbers (flat_map (objects_of plan) s.jobs) = fitting x core r (machine_view plan s.jobs) h c inc second.numbers second.count in
      let fits : Fitting c.home second.numbers read.objects = read_fits (machine_view plan s.jobs) read t.home first.numbers c.home second.numbers first.is fits_t fits_c in
      let P : MachineView → Type 0 = λ z. (r : ReadBack x z q c) × Fitting c.home r.numbers z.objects in
      let (second', fits') = subst P k.is (second, fits) in
      let l = sees_read x plan s' o' q c second' fits' (object_bits plan s o c inc) in
      record {
        seen = l.seen;
        others = others_then s.jobs k.seen l.seen k.others l.others;
        same = λ n. l.same n ∙ k.same n;
        is = l.is;
        settled = λ z. let Q : MachineView → Type 0 = λ p. NoOriginalAboveTop p in l.settled (subst Q k.is (k.settled z));
      }
