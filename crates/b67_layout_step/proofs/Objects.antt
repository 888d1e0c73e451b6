-- The objects of a session with another number in an array: one of them is replaced.
use Rattle.std.proofs.Common.{◌≡◌, ◌≢◌, ℕ, ◌<◌, ◌^◌, length, List, [], ◌∷◌, map, flat_map, Some, refl, sym, ◌∙◌, ap, Bool, ⊎_elim, inl, inr, ◌⊎◌, subst, arith}
use Rattle.std.proofs.lemmas.Bool.{cases_eq}
use Rattle.std.proofs.lemmas.Option.{same_Some}
use Rattle.b67_word.specs.Tagged.{Tagged}
use Rattle.b67_area.specs.declared.Kind.TheVariants as kind
use Rattle.b67_ctl.specs.declared.registers.Regs.{Regs}
use Rattle.b67_lemmas.specs.Lists.{Has}
use Rattle.b67_lemmas.proofs.Members.{falls_same, has_append_cases, has_append_left, has_append_right, has_flat, has_flat_back, has_map, has_map_back, keyed_has}
use Rattle.b67_lemmas.proofs.Keyed.{changed_there}
use Rattle.b67_model.specs.Keyed.{keyed, change_keyed}
use Rattle.b67_model.specs.Common.{Array, Job, JobProgress, SessionJob, with_array, number_of, Session}
use Rattle.b67_layout.specs.Common.{IsInOrderButCounts, Placement, array_object, code_objects, objects_of, machine_view, PlanFits}
use Rattle.b67_stack.specs.Common.{PagedObject, Storage, Represents, TakesPlace}
use Rattle.b67_layout.proofs.Common.{job_in_order, with_course, member-same, change-has, change-kept, numbered_course, code_kind}
use Rattle.b67_layout_step.proofs.Arrays.{Renumbers}
use Rattle.b67_layout_step.proofs.Homes.{one_home}
use Rattle.b67_law.proofs.Numbered.{keyed_member}

pub identities_kept : (id : ℕ) (f : Array → Array) → Renumbers f → (xs : List Array) → map (λ (a : Array). a.identity) (change_keyed (λ (a : Array). a.identity) id f xs) ≡ map (λ (a : Array). a.identity) xs
identities_kept id f keeps [] = refl
identities_kept id f keeps (x ∷ xs) = grind (arith, identities_kept id f keeps xs)

array_kind : (plan : Placement) (j : ℕ) (a : Array) → (array_object plan j a).kind ≢ kind.Code
array_kind plan j a = grind arith

module _ (x : Storage) (core : List Tagged) (r : Regs) (plan : Placement) (s : Session) (o : IsInOrderButCounts s) (fits : PlanFits plan s) (memory : Represents x core r (machine_view plan s.jobs))
    (m : SessionJob) (member : keyed number_of m.constants.number s.jobs ≡ Some m) (a : Array) (found : keyed (λ (z : Array). z.identity) a.identity m.progress.job.arrays ≡ Some a) (f : Array → Array) (keeps : Renumbers f) where
  abbrev j : ℕ
  j = m.constants.number

  abbrev key : Array → ℕ
  key = λ (z : Array). z.identity

  abbrev job' : Job
  job' = with_array m.progress.job a.identity f

  abbrev c : JobProgress
  c = record m.progress { job = with_array m.progress.job a.identity f }

  abbrev moved : SessionJob
  moved = record m { progress = record m.progress { job = with_array m.progress.job a.identity f } }

  abbrev jobs' : List SessionJob
  jobs' = with_course s.jobs m.constants.number (record m.progress { job = with_array m.progress.job a.identity f })

  abbrev pub t : PagedObject
  t = array_object plan m.constants.number a

  abbrev a' : Array
  a' = f a

  has_m : Has s.jobs m
  has_m = (keyed_has number_of m.constants.number s.jobs m member).0

  has_a : Has m.progress.job.arrays a
  has_a = (keyed_has (λ (z : Array). z.identity) a.identity m.progress.job.arrays a found).0

  has_new : Has (with_array m.progress.job a.identity f).arrays (f a)
  has_new = changed_there (λ (z : Array). z.identity) a.identity f m.progress.job.arrays a found

  pub old_object : Has (machine_view plan s.jobs).objects (array_object plan m.constants.number a)
  old_object = has_flat (objects_of plan) s.jobs m t has_m (has_append_right (code_objects plan j 1 m.constants.segments) (map (array_object plan j) m.progress.job.arrays) t (has_map (array_object plan j) m.progress.job.arrays a has_a))

  moved_there : Has jobs' moved
  moved_there = (keyed_has number_of m.constants.number jobs' moved (member-same s.jobs m.constants.number c m member)).0

  -- an array of the changed job: the changed one, or another of before
  array_of : (b : Array) → Has (with_array m.progress.job a.identity f).arrays b → (b ≡ f a) ⊎ (Has m.progress.job.arrays b × (b.identity ≢ a.identity))
  array_of b h = grind (arith, falls_same, has_new, change-has, identities_kept, job_in_order, has_m)

  -- a member of the changed session: the changed one, or another of before
  member_of : (y : SessionJob) → Has jobs' y → (y ≡ moved) ⊎ (Has s.jobs y × (y.constants.number ≢ m.constants.number))
  member_of y h = ⊎_elim
      (λ (e : y.constants.number ≡ m.constants.number). inl (
      let there = keyed_member 1 jobs' y (numbered_course 1 m.constants.number c s.jobs o.numbered) h in
      same_Some y moved (sym there ∙ ap (λ (n : ℕ). keyed number_of n jobs') e ∙ member-same s.jobs m.constants.number c m member)))
      (λ (ne : y.constants.number ≡ m.constants.number → ⊥). inr (⊎_elim (λ k. k) (λ (e : y ≡ moved). absurd (ne (ap (λ (z : SessionJob). z.constants.number) e))) (change-has number_of m.constants.number (λ (z : SessionJob). record z { progress = c }) s.jobs m member y h), ne))
      (cases_eq y.constants.number m.constants.number)

  -- code has another address
  code_apart : (y : SessionJob) → Has s.jobs y → (u : PagedObject) → Has (code_objects plan y.constants.number 1 y.constants.segments) u → u.home ≢ t.home
  code_apart y h u k e = grind (arith, has_flat, has_append_left, old_object, code_kind)

  other_array : (y : SessionJob) (b : Array) → Has s.jobs y → Has y.progress.job.arrays b → (y ≡ m → b.identity ≢ a.identity) → plan.home y.constants.number b.identity ≢ plan.home j a.identity
  other_array y b hy hb ne e = let one = one_home x core r plan s o fits memory y m b a hy has_m hb has_a e in ne one.0 one.1

  in_moved : (u : PagedObject) → Has (objects_of plan moved) u → (u ≡ array_object plan m.constants.number (f a)) ⊎ (Has (objects_of plan m) u × (u.home ≢ t.home))
  in_moved u h = ⊎_elim
      (λ k. inr (has_append_left (code_objects plan j 1 m.constants.segments) (map (array_object plan j) m.progress.job.arrays) u k, code_apart m has_m u k))
      (λ k. (let b = has_map_back (array_object plan j) job'.arrays u k in ⊎_elim
      (λ (e : b.item ≡ a'). inl (sym b.is ∙ ap (array_object plan j) e))
      (λ q. inr (
        has_append_right (code_objects plan j 1 m.constants.segments) (map (array_object plan j) m.progress.job.arrays) u (subst (Has (map (array_object plan j) m.progress.job.arrays)) b.is (has_map (array_object plan j) m.progress.job.arrays b.item q.0)),
        λ e. other_array m b.item has_m q.0 (λ z. q.1) (ap (λ (z : PagedObject). z.home) b.is ∙ e),
      ))
      (array_of b.item b.among)))
      (has_append_cases (code_objects plan j 1 m.constants.segments) (map (array_object plan j) job'.arrays) u h)

  in_other : (y : SessionJob) (u : PagedObject) → Has s.jobs y → y.constants.number ≢ m.constants.number → Has (objects_of plan y) u → u.home ≢ t.home
  in_other y u hy ne h = ⊎_elim
      (λ k. code_apart y hy u k)
      (λ k e. (let b = has_map_back (array_object plan y.constants.number) y.progress.job.arrays u k in
      other_array y b.item hy b.among (λ z n. ne (ap (λ (w : SessionJob). w.constants.number) z)) (ap (λ (z : PagedObject). z.home) b.is ∙ e)))
      (has_append_cases (code_objects plan y.constants.number 1 y.constants.segments) (map (array_object plan y.constants.number) y.progress.job.arrays) u h)

  kept_in : (u : PagedObject) → Has (objects_of plan m) u → u.home ≢ t.home → Has (objects_of plan moved) u
  kept_in u h ne = ⊎_elim
      (λ k. has_append_left (code_objects plan j 1 m.constants.segments) (map (array_object plan j) job'.arrays) u k)
      (λ k. (let b = has_map_back (array_object plan j) m.progress.job.arrays u k in ⊎_elim
      (λ q. has_append_right (code_objects plan j 1 m.constants.segments) (map (array_object plan j) job'.arrays) u (subst (Has (map (array_object plan j) job'.arrays)) b.is (has_map (array_object plan j) job'.arrays b.item q)))
      (λ q. absurd (ne (ap (λ (z : PagedObject). z.home) (sym b.is ∙ ap (array_object plan j) q.0))))
      (change-kept (λ (z : Array). z.identity) a.identity f m.progress.job.arrays a found b.item b.among)))
      (has_append_cases (code_objects plan j 1 m.constants.segments) (map (array_object plan j) m.progress.job.arrays) u h)

  pub replaces : 0 < length (f a).numbers → length (f a).numbers < 2 ^ 16
      → TakesPlace (flat_map (objects_of plan) s.jobs) (flat_map (objects_of plan) (with_course s.jobs m.constants.number (record m.progress { job = with_array m.progress.job a.identity f }))) (array_object plan m.constants.number a) (array_object plan m.constants.number (f a))
  replaces some few = record {
    home = ap (plan.home m.constants.number) (keeps.identity a);
    kind = ap (λ (w : Bool). Rattle.std.specs.Prelude.if◌then◌else◌ w kind.Array kind.Row) (keeps.writable a);
    some = some;
    few = few;
    new = has_flat (objects_of plan) jobs' moved (array_object plan m.constants.number (f a)) moved_there
        (has_append_right (code_objects plan j 1 m.constants.segments) (map (array_object plan j) job'.arrays) (array_object plan m.constants.number (f a)) (has_map (array_object plan j) job'.arrays a' has_new));
    each = λ u h. (let f = has_flat_back (objects_of plan) jobs' u h in ⊎_elim
        (λ (e : f.item ≡ moved). ⊎_elim inl (λ q. inr (has_flat (objects_of plan) s.jobs m u has_m q.0, q.1)) (in_moved u (subst (λ (y : SessionJob). Has (objects_of plan y) u) e f.inside)))
        (λ q. inr (has_flat (objects_of plan) s.jobs f.item u q.0 f.inside, in_other f.item u q.0 q.1 f.inside))
        (member_of f.item f.among));
    kept = λ u h ne. (let f = has_flat_back (objects_of plan) s.jobs u h in ⊎_elim
        (λ k. has_flat (objects_of plan) jobs' f.item u k f.inside)
        (λ k. has_flat (objects_of plan) jobs' moved u k.1 (kept_in u (subst (λ (y : SessionJob). Has (objects_of plan y) u) k.0 f.inside) ne))
        (change-kept number_of m.constants.number (λ (z : SessionJob). record z { progress = c }) s.jobs m member f.item f.among));
  }
