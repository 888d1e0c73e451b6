-- A machine of a parent and a child: a job whose first task has given birth to a second one. The child runs in slot 1, and its
-- outermost activation record has the parent's as its environment; the parent waits in slot 0.
use Rattle.std.proofs.Common.{◌≡◌, zero, suc, ◌≢◌, ℕ, ◌+◌, ◌-◌, ◌*◌, ◌<◌, ◌≤◌, ◌^◌, ◌==◌, List, [], ◌∷◌, ◌++◌, length, Some, None, refl, sym, ◌∙◌, ap, arith, inl, inr, ⊎_elim, subst, replicate}
use Rattle.std.specs.Prelude.{if◌then◌else◌, map}
use Rattle.std.specs.List.{slice_get}
use Rattle.std.proofs.lemmas.Option.{none-some, same_Some}
use Rattle.std.proofs.lemmas.Bool.{cases_eq, eq-eqb, ne_eqb}
use Rattle.b67_word.specs.Common.{Tagged, word, number}
use Rattle.b67_area.specs.declared.Info.{Info}
use Rattle.b67_area.specs.declared.Kind.TheVariants as kind
use Rattle.b67_area.specs.Spans.{Span, Area, Hole, area_at}
use Rattle.b67_area.specs.Words.{head_word, tail_word, link_word, hole_high}
use Rattle.b67_area.specs.Directory.{IsDirectory}
use Rattle.b67_backing.specs.Shelf.{chain_of}
use Rattle.b67_backing.specs.Held.{number_at}
use Rattle.b67_ctl.specs.declared.registers.Regs.{Regs}
use Rattle.b67_lemmas.specs.Lists.{Has}
use Rattle.b67_model.specs.Common.{Entered, Ready, Task, Job, SessionJob, frame_at, Program, opened, number_of, Session, IsSegment, SettingInOrder, TaskInOrder, TasksInOrder, frames_in_job}
use Rattle.b67_stack.specs.declared.Cpu.{Cpu}
use Rattle.b67_stack.specs.Common.{Location, nowhere, Fits, LieDownward, stack_words, words, PagedObject, object_words, MachineView, stack_of, IsLaidOut, SlotFits, slot_base, Storage, RepresentsSlots, RepresentsSlot, StacksLie, RepresentsObjects, RepresentsObject, Owned, Represents, HoldsIn, info_of}
use Rattle.b67_lemmas.proofs.Members.{keyed_has}
use Rattle.b67_layout.specs.Common.{Placement, Slotted, slot_of, machine_view, PlanFits, RowsFit, IsRunning, RepresentsDictionary, RepresentsVector, RepresentsCritical, RepresentsTask, vector_word, critical_mark, frame_address, ShowsDisplay, SessionHolds, RepresentsSession, IsInOrderButCounts}
use Rattle.b67_layout.specs.Families.{RunsChild}

-- ---- the session

-- MKST, NAMC 0,9, LT8 2, LT8 3, ADD, ENTR, EXIT
abbrev code : List ℕ
code = 0xae4009b202b2 ∷ 0x0380aba3ffff ∷ []

abbrev program : Program
program = record { segments = record { level = 2; entries = []; code = code } ∷ []; rows = [] }

abbrev parent : Task
parent = record { number = 1; parents = []; critical = 0; frames = record { identity = 2; standing = Entered 2 1 None; cells = [] } ∷ []; segment = 1; place = record { word = 0; syllable = 0 }; condition = Ready }

abbrev child : Task
child = record { number = 2; parents = 1 ∷ []; critical = 2; frames = record { identity = 3; standing = Entered 3 2 None; cells = [] } ∷ []; segment = 1; place = record { word = 0; syllable = 0 }; condition = Ready }

abbrev job : Job
job = record { arrays = []; tasks = child ∷ parent ∷ []; numbers = []; next_task = 3; next_frame = 4; next_array = 1 }

abbrev member : SessionJob
member = let m = opened 1 program 64 1000 [] in record m { progress = record { job = job; made = 1; ended = [] } }

abbrev pub session : Session
session = record { jobs = member ∷ []; made = 1; last = record { job = 1; task = 1 }; turn = 1; switches = []; quantum = 100; peak = 2 }

abbrev parent_row : Slotted
parent_row = record { job = 1; task = 1; slot = 0 }

abbrev child_row : Slotted
child_row = record { job = 1; task = 2; slot = 1 }

abbrev pub plan : Placement
plan = record { stacks = 163; size = 64; peak = 2; rows = child_row ∷ parent_row ∷ []; running = 1; dictionary = λ j. 160; home = λ j a. 0 }

-- ---- the machine

abbrev info : Info
info = record { kind = kind.Code; words = 2; owner = 162; kept = 1 }

abbrev spans : List Span
spans = Area info ∷ Hole 25 ∷ []

abbrev here : Location
here = record { area = Some 292; chain = 1 }

abbrev held : ℕ → Location
held q = if q == 162 then here else nowhere

abbrev pub storage : Storage
storage = record {
  held = held;
  low = 291;
  spans = spans;
  shelf = record { free = []; chains = (1 ∷ []) ∷ [] };
  device = Some (((3 * 2 ^ 48 + 0xae4009b202b2) ∷ (3 * 2 ^ 48 + 0x0380aba3ffff) ∷ replicate 28 0) ∷ []);
}

abbrev zeros : ℕ → List Tagged
zeros n = replicate n (word 0 0)

-- up to the two words of the stack vector
abbrev mcp_words : List Tagged
mcp_words =
    word 3 (2 ^ 46) ∷ zeros 7
    ++ word 7 (2 ^ 19 + 8) ∷ word 7 (2 ^ 19 + 9) ∷ word 7 (2 ^ 19 + 10) ∷ word 7 (2 ^ 19 + 11) ∷ word 7 (2 ^ 19 + 12) ∷ word 7 (2 ^ 19 + 13) ∷ word 7 (2 ^ 19 + 14) ∷ word 7 (2 ^ 19 + 15) ∷ word 7 (2 ^ 19 + 16) ∷ word 7 (2 ^ 19 + 17) ∷ word 7 (2 ^ 19 + 18) ∷ zeros 13
    ++ word 3 (2 ^ 46 + 1023 * 2 ^ 36 + 1 * 2 ^ 16) ∷ word 3 (2 ^ 46 + 0 * 2 ^ 36 + 1 * 2 ^ 16) ∷ []

-- from word 152: the link to the hole, the dictionary, the two stacks, the area and the hole
abbrev after_vector : List Tagged
after_vector =
    link_word 0 295 ∷ zeros 7
    ++ word 3 (2 ^ 47 + 2 ^ 46 + 136 * 2 ^ 36 + 1 * 2 ^ 14) ∷ word 0 1 ∷ word 3 (2 ^ 47 + 2 * 2 ^ 20 + 292)
    ∷ word 3 (2 * 2 ^ 20 + 2 * 2 ^ 14 + 1) ∷ word 3 (2 ^ 47 + 2 ^ 46 + 128 * 2 ^ 36 + 2 * 2 ^ 14) ∷ word 3 0 ∷ zeros 61
    ++ word 0 0 ∷ word 3 (2 ^ 47 + 2 ^ 46 + 1 * 2 ^ 20 + 3 * 2 ^ 14) ∷ word 3 0 ∷ zeros 61
    ++ head_word info ∷ word 3 0xae4009b202b2 ∷ word 3 0x0380aba3ffff ∷ tail_word info
    ∷ link_word (hole_high 25) 0 ∷ zeros 24

abbrev core : List Tagged
core = mcp_words ++ (zeros 118 ++ after_vector)

abbrev regs : Regs
regs = record { s = 229; f = 228; bosr = 227; losr = 290; slot = 1; level = 3; segment = 2; place = record { word = 0; syllable = 0 }; dict = 160; entries = 1; stacks = 163; stack_size = 64; peak = 2 }

abbrev pub machine : Cpu
machine = record { core = core; regs = regs; display = 0 ∷ 160 ∷ 164 ∷ 228 ∷ replicate 28 0; critical = 1 ∷ replicate 119 0 }

-- ---- what is shown of core

abbrev p : MachineView
p = machine_view plan session.jobs

abbrev object : PagedObject
object = record { home = 162; kind = kind.Code; numbers = code }

-- facts for each number of a range
abbrev AllFrom : (ℕ → Type 0) → ℕ → ℕ → Type 0
AllFrom P from zero = Unit {0}
AllFrom P from (suc n) = P from × AllFrom P (from + 1) n

all_from : (P : ℕ → Type 0) (from n : ℕ) → AllFrom P from n → (i : ℕ) → from ≤ i → i < from + n → P i
all_from P from zero a i low up = absurd (omega arith)
all_from P from (suc n) a i low up = grind (arith, all_from P (from + 1) n a.1 i)

get-past : {A : Type 0} (xs ys : List A) (i k : ℕ) → k ≡ length xs + i → slice_get (xs ++ ys) k ≡ slice_get ys i
get-past [] ys i k e = ap (slice_get ys) (let z : k ≡ i = omega arith in z)
get-past (x ∷ xs) ys i zero e = absurd (omega arith)
get-past (x ∷ xs) ys i (suc k) e = get-past xs ys i k (omega arith)

get-replicate : {A : Type 0} (n : ℕ) (x : A) (ys : List A) (i : ℕ) → i < n → slice_get (replicate n x ++ ys) i ≡ Some x
get-replicate zero x ys i h = absurd (omega arith)
get-replicate (suc n) x ys zero h = refl
get-replicate (suc n) x ys (suc i) h = get-replicate n x ys i (omega arith)

get-only : {A : Type 0} (n : ℕ) (x : A) (i : ℕ) → i < n → slice_get (replicate n x) i ≡ Some x
get-only zero x i h = absurd (omega arith)
get-only (suc n) x zero h = refl
get-only (suc n) x (suc i) h = get-only n x i (omega arith)

-- what holds of the one item, of both of two, and of both slots
only : {A : Type 0} (x : A) (P : A → Type 0) → P x → (y : A) → Has (x ∷ []) y → P y
only x P h y e = grind arith

both : {A : Type 0} (x y : A) (P : A → Type 0) → P x → P y → (z : A) → Has (x ∷ y ∷ []) z → P z
both x y P h k z e = grind arith

two_slots : (P : ℕ → Type 0) → P 0 → P 1 → (k : ℕ) → k < 2 → P k
two_slots P h g k small = grind arith

laid : IsLaidOut 291 p
laid = grind arith

slots : RepresentsSlots core regs 291 p
slots = record {
  laid = laid;
  regs = record { stacks = refl; size = refl; peak = refl };
  slots = two_slots (λ k. RepresentsSlot core regs p k (p.slots k)) ((λ e. omega (arith, e)), refl) (record { slot = refl; first = refl; last = refl; top = refl; mark = refl; level = refl });
}

stacks : StacksLie held core p
stacks = two_slots (λ k. LieDownward (Fits held) core (suc (slot_base p k)) (words k (stack_of (p.slots k))))
    ((word 3 0, refl, (refl, λ e. omega (arith, e))), ((word 3 (2 ^ 47 + 2 ^ 46 + 128 * 2 ^ 36 + 2 * 2 ^ 14), refl, (refl, λ e. omega (arith, e))), tt))
    ((word 3 0, refl, (refl, λ e. omega (arith, e))), ((word 3 (2 ^ 47 + 2 ^ 46 + 1 * 2 ^ 20 + 3 * 2 ^ 14), refl, (refl, λ e. omega (arith, e))), tt))

held_in : HoldsIn storage object 1
held_in = record {
  chain = record { some = omega arith; small = omega arith; sectors = refl };
  told = (
    (
      (3 * 2 ^ 48 + 0xae4009b202b2) ∷ (3 * 2 ^ 48 + 0x0380aba3ffff) ∷ replicate 28 0,
      refl,
      λ i small. all_from (λ q. slice_get ((3 * 2 ^ 48 + 0xae4009b202b2) ∷ (3 * 2 ^ 48 + 0x0380aba3ffff) ∷ replicate 28 0) q ≡ Some (number_at (map number (object_words object)) (0 + q))) 0 30 (refl, (refl, (refl, (refl, (refl, (refl, (refl, (refl, (refl, (refl, (refl, (refl, (refl, (refl, (refl, (refl, (refl, (refl, (refl, (refl, (refl, (refl, (refl, (refl, (refl, (refl, (refl, (refl, (refl, (refl, tt)))))))))))))))))))))))))))))) i (omega arith) (omega arith),
    ),
    omega arith,
  );
}

objects : RepresentsObjects storage core p.objects
objects = only object (λ u. RepresentsObject storage core u) (record { home = refl; content = ((refl, (refl, tt)), held_in) })

areas : (at : ℕ) (a : Info) → area_at 291 spans at ≡ Some a → (t : PagedObject) × Has p.objects t × ((held t.home).area ≡ Some at) × (a ≡ info_of storage t)
areas at a e = ⊎_elim
    (λ (z : 292 ≡ at). let there : Some info ≡ Some a = rw (eq-eqb 292 at z) at e in (object, inl refl, ap Some z, sym (same_Some info a there)))
    (λ (z : 292 ≡ at → ⊥). let none : None ≡ Some a = rw (ne_eqb 292 at z) at e in absurd (none-some a none))
    (cases_eq 292 at)

by_held : (home at : ℕ) → (held home).area ≡ Some at → (t : PagedObject) × Has p.objects t × (t.home ≡ home) × (area_at 291 spans at ≡ Some (info_of storage t))
by_held home at e = ⊎_elim
    (λ (z : home ≡ 162). let there : (held 162).area ≡ Some at = ap (λ n. (held n).area) (sym z) ∙ e in
    let is : 292 ≡ at = same_Some 292 at there in (object, inl refl, sym z, ap (area_at 291 spans) (sym is)))
    (λ (z : home ≡ 162 → ⊥). let absent : None ≡ Some at = rw (ne_eqb home 162 z) at e in absurd (none-some at absent))
    (cases_eq home 162)

chains : (first : ℕ) → 0 < length (chain_of first storage.shelf.chains) → (t : PagedObject) × Has p.objects t × ((held t.home).chain ≡ first)
chains first some = ⊎_elim
    (λ (z : 1 ≡ first). (object, inl refl, z))
    (λ (z : 1 ≡ first → ⊥). let none : 0 < 0 = rw (ne_eqb 1 first z) at some in absurd (omega arith))
    (cases_eq 1 first)

owned : Owned storage p.objects
owned = grind (arith, areas, by_held, chains)

directory : IsDirectory core 291 spans
directory = record {
  laid = (refl, refl, (refl, refl));
  zeros = λ i low up. all_from (λ q. slice_get core q ≡ Some (word 0 0)) 153 7 (refl, (refl, (refl, (refl, (refl, (refl, (refl, tt))))))) i (omega arith) (omega arith);
  all = refl;
  spans = (record { words = omega arith; owner = omega arith; kept = omega arith }, (omega arith, tt, tt));
  above = omega arith;
  small = omega arith;
}

stands : Represents storage core regs p
stands = record { slots = slots; stacks = stacks; objects = objects; owned = owned; directory = directory; inside = omega arith }

-- ---- the session over it

-- what each live task is
for_tasks : (P : SessionJob → Task → Type 0) → P member child → P member parent → (m : SessionJob) (t : Task) → Has session.jobs m → Has m.progress.job.tasks t → P m t
for_tasks P c h m t inm int = only member (λ x. (u : Task) → Has x.progress.job.tasks u → P x u) (both child parent (P member) c h) m inm t int

rows_fit : RowsFit plan session.jobs
rows_fit = record {
  live = both child_row parent_row (λ r. (m : SessionJob) × (t : Task) × Has session.jobs m × (m.constants.number ≡ r.job) × Has m.progress.job.tasks t × (t.number ≡ r.task))
      (member, child, inl refl, refl, inl refl, refl) (member, parent, inl refl, refl, inr (inl refl), refl);
  slotted = for_tasks (λ m t. (r : Slotted) × Has plan.rows r × (r.job ≡ m.constants.number) × (r.task ≡ t.number)) (child_row, inl refl, refl, refl) (parent_row, inr (inl refl), refl, refl);
  below = both child_row parent_row (λ r. r.slot < 2) (omega arith) (omega arith);
  differ = λ a b ina inb. both child_row parent_row (λ x. x.slot ≡ b.slot → x ≡ b)
      (both child_row parent_row (λ y. child_row.slot ≡ y.slot → child_row ≡ y) (λ e. refl) (λ e. absurd (omega (arith, e))) b inb)
      (both child_row parent_row (λ y. parent_row.slot ≡ y.slot → parent_row ≡ y) (λ e. absurd (omega (arith, e))) (λ e. refl) b inb) a ina;
  tasks_differ = λ a b ina inb. both child_row parent_row (λ x. x.job ≡ b.job → x.task ≡ b.task → x ≡ b)
      (both child_row parent_row (λ y. child_row.job ≡ y.job → child_row.task ≡ y.task → child_row ≡ y) (λ j e. refl) (λ j e. absurd (omega (arith, e))) b inb)
      (both child_row parent_row (λ y. parent_row.job ≡ y.job → parent_row.task ≡ y.task → parent_row ≡ y) (λ j e. absurd (omega (arith, e))) (λ j e. refl) b inb) a ina;
}

fits : PlanFits plan session
fits = grind (arith, rows_fit)

-- a slot that no task has is neither
above_both : (k : ℕ) → ((r : Slotted) → Has plan.rows r → r.slot ≢ k) → 2 ≤ k
above_both k h =
    let one : 1 ≢ k = h child_row (inl refl) in
    let zero : 0 ≢ k = h parent_row (inr (inl refl)) in
    omega (arith, one, zero)

vector : RepresentsVector core plan session.jobs
vector = record {
  live = for_tasks (λ m t. slice_get core (32 + slot_of plan m.constants.number t.number) ≡ Some (vector_word plan m.constants.number t.parents)) refl refl;
  free = λ k small others. let n = above_both k others in get-past mcp_words (zeros 118 ++ after_vector) (k - 2) (32 + k) (omega (arith, n)) ∙ get-replicate 118 (word 0 0) after_vector (k - 2) (omega (arith, n));
}

critical : RepresentsCritical machine.critical plan session.jobs
critical = record {
  live = for_tasks (λ m t. slice_get machine.critical (slot_of plan m.constants.number t.number) ≡ Some (critical_mark m.progress.job t.frames)) refl refl;
  free = λ k small others. let n = above_both k others in get-past (1 ∷ []) (replicate 119 0) (k - 1) k (omega (arith, n)) ∙ get-only 119 0 (k - 1) (omega (arith, n));
}

-- the child runs
runs : IsRunning plan session.jobs member child
runs = record { member = refl; task = refl; slot = refl }

-- what is so of the child is so of each task that runs
for_running : (P : SessionJob → Task → Type 0) → P member child → (m : SessionJob) (t : Task) → IsRunning plan session.jobs m t → P m t
for_running P h m t r = grind arith

holds : SessionHolds storage core regs machine.critical plan session
holds = record {
  fits = fits;
  memory = stands;
  settled = only object (λ t. (k : ℕ) → k < 2 → slot_base p k ≤ t.home → t.home < slot_base p k + p.size → t.home ≤ slot_base p k + stack_words (stack_of (p.slots k)))
      (two_slots (λ k. slot_base p k ≤ 162 → 162 < slot_base p k + p.size → 162 ≤ slot_base p k + stack_words (stack_of (p.slots k))) (λ low up. absurd (omega arith)) (λ low up. absurd (omega arith)));
  dictionaries = only member (RepresentsDictionary core plan) (record { mark = refl; entries = refl });
  mcp = record { mark = refl; intrinsics = λ n low up. all_from (λ q. slice_get core q ≡ Some (word 7 (2 ^ 19 + q))) 8 11 (refl, (refl, (refl, (refl, (refl, (refl, (refl, (refl, (refl, (refl, (refl, tt))))))))))) n low (omega arith) };
  vector = vector;
  critical = critical;
  live = λ n. (member, child, runs);
  running = for_running (RepresentsTask regs plan) (record { slot = refl; dict = refl; entries = refl; segment = refl; place = refl });
  none = λ e. omega (arith, e);
}

pub represented : RepresentsSession storage machine plan session
represented = record {
  holds = holds;
  shows = for_running (ShowsDisplay machine.display plan)
      (λ n up. all_from (λ q. slice_get machine.display q ≡ Some (frame_address plan member child (frame_at (record { constants = member.constants; job = member.progress.job; task = child; at = child.place }) q).identity)) 0 4 (refl, (refl, (refl, (refl, tt)))) n (omega arith) (omega arith));
}

pub runs_child : RunsChild machine plan session
runs_child = record {
  member = member;
  parent = parent;
  child = child;
  in_session = inl refl;
  lives = inr (inl refl);
  running = runs;
  born = refl;
  waits = λ e. omega (arith, e);
  mark = 1;
  marked = refl;
  set = omega arith;
}

-- ---- its order

setting : SettingInOrder member.constants
setting = grind arith

child_in_order : TaskInOrder (IsSegment member.constants) member.constants job child
child_in_order = record {
  frames = (
    (tt, tt),
    record { low = omega arith; high = omega arith; standing = Entered 2 1 None; among = inl refl; entered = tt; level_below = refl },
    tt,
  );
  returns = (refl, tt);
  some = λ e. cc;
  falls = (omega arith, (omega arith, (omega arith, (omega arith, tt))));
  not_higher = omega arith;
  place = record { from_one = omega arith; within = omega arith; word_fits = omega arith; syllable_fits = omega arith };
  birth = record { parent = parent; found = refl; line = refl; older = omega arith; is_critical = inl refl };
  condition = tt;
}

parent_in_order : TaskInOrder (IsSegment member.constants) member.constants job parent
parent_in_order = record {
  frames = (
    (tt, tt),
    record { low = omega arith; high = omega arith; standing = Entered 1 0 None; among = inl refl; entered = tt; level_below = refl },
    tt,
  );
  returns = (refl, tt);
  some = λ e. cc;
  falls = (omega arith, (omega arith, (omega arith, tt)));
  not_higher = omega arith;
  place = record { from_one = omega arith; within = omega arith; word_fits = omega arith; syllable_fits = omega arith };
  birth = (refl, refl);
  condition = tt;
}

-- each frame has an identity of its own
apart : (identity : ℕ) → frames_in_job identity job ≤ 1
apart identity = grind arith

in_order : TasksInOrder (IsSegment member.constants) member.constants job
in_order = grind (arith, child_in_order, parent_in_order)

pub ordered : IsInOrderButCounts session
ordered = grind (arith, in_order)
