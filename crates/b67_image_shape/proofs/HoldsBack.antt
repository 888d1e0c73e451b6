-- A machine that has all items represents what it shows.
use Rattle.std.proofs.Common.{◌≡◌, ◌≢◌, ℕ, zero, suc, ◌+◌, ◌-◌, ◌*◌, ◌^◌, ◌<◌, ◌==◌, Bool, true, false, List, [], ◌∷◌, ◌++◌, length, take, Option, Some, None, refl, sym, ◌∙◌, ap, subst, arith}
use Rattle.std.specs.Prelude.{if◌then◌else◌}
use Rattle.std.specs.List.{AllByRecursion, slice_get}
use Rattle.std.proofs.lemmas.Bool.{eq-eqb, ne_eqb}
use Rattle.b67_word.specs.Tagged.{Tagged, word}
use Rattle.b67_lemmas.specs.Lists.{Has}
use Rattle.b67_lemmas.proofs.Members.{keyed_has, has_map, has_get, find_none}
use Rattle.b67_model.specs.Common.{Task, SessionJob, Switch, number_of}
use Rattle.b67_stack.specs.Common.{NoOriginalAboveTop, Storage, Represents}
use Rattle.b67_layout.specs.Common.{Slotted, slot_of, TaskRow, JobRow, TaskShows, JobsShow, RunningRow, TablesShow, parent_slot, vector_word, DictionariesFollow, RowHomes, RepresentsDictionary, RepresentsVector, RepresentsCritical, RepresentsTask, IsRunning, critical_mark, SessionHolds}
use Rattle.b67_layout_shown.specs.Shown.{Sight, Top, top_by, top_in, parents_by, segments_from, row_cells, segment_cells, dictionary_from, segments_of, task_in, member_in, members_from, shown, placed}
use Rattle.b67_layout_shown.specs.Machines.{sight_of, RepresentsShown}
use Rattle.b67_task.specs.declared.tables.Machine.{Machine}
use Rattle.b67_image_shape.specs.TableFacts.{row_in_slot, BornBy, TableFacts}
use Rattle.b67_image_shape.specs.FixedWords.{DictionaryFacts, DictionariesStandIn, link_to, vector_of, FixedFacts, CriticalMarks}
use Rattle.b67_image_shape.specs.Held.{view_in}
use Rattle.b67_image_shape.specs.Items.{EachTask, base_at, StackFacts, ReachFacts, ShownItems}
use Rattle.b67_image_shape.proofs.Members.{row_of_member}
use Rattle.b67_image_shape.proofs.Rows.{image, of_row, row_fact, found_row, member_found, task_found, rows_fit, slot_is, slots_differ}
use Rattle.b67_image_shape.proofs.EachTask.{task_at, by_row}
use Rattle.b67_image_shape.proofs.Critical.{critical_is, greatest_free}
use Rattle.b67_image_shape.proofs.Sources.{dictionary_lies, home_row}
use Rattle.b67_image_shape.proofs.Memory.{storage_with, memory, settled}
use Rattle.b67_image_shape.proofs.OrderBack.{words_long, order_back}

segments_long : (core : List Tagged) (at n : ℕ) → length (segments_from core at n) ≡ n
segments_long core at zero = refl
segments_long core at (suc n) = ap suc (segments_long core (at + 1) n)

all_taken : {A : Type 0} (P : A → Type 0) (xs : List A) (n : ℕ) → AllByRecursion P (take n xs) → (i : ℕ) (x : A) → i < n → slice_get xs i ≡ Some x → P x
all_taken P [] n h i x low e = absurd (let z : ⊥ = cc in z)
all_taken P (y ∷ xs) zero h i x low e = absurd (omega (arith, low))
all_taken P (y ∷ xs) (suc n) h zero x low e = (let same : y ≡ x = cc in subst P same h.0)
all_taken P (y ∷ xs) (suc n) h (suc i) x low e = all_taken P xs n h.1 i x (omega (arith, low)) e

dictionary_fact : (core : List Tagged) (stacks at : ℕ) (rows : List JobRow) (i : ℕ) (row : JobRow) → DictionariesStandIn core stacks at rows → slice_get rows i ≡ Some row → DictionaryFacts core row.dictionary row
dictionary_fact core stacks at [] i row d e = absurd (let z : ⊥ = cc in z)
dictionary_fact core stacks at (r ∷ more) zero row d e = (let same : r ≡ row = cc in subst (λ (w : JobRow). DictionaryFacts core w.dictionary w) same (subst (λ a. DictionaryFacts core a r) (sym d.0.place) d.0))
dictionary_fact core stacks at (r ∷ more) (suc i) row d e = dictionary_fact core stacks (at + (2 + (r.segments + r.rows))) more i row d.1 e

-- the dictionary of a job, by the place of its row
pub dictionary_at : (n : ℕ) (rows : List JobRow) (i : ℕ) (row : JobRow) → slice_get rows i ≡ Some row → dictionary_from rows n (n + i) ≡ row.dictionary
dictionary_at n [] i row e = absurd (let z : ⊥ = cc in z)
dictionary_at n (r ∷ more) zero row e = grind arith
dictionary_at n (r ∷ more) (suc i) row e = grind (arith, ne_eqb, dictionary_at (n + 1) more i row e)

-- what each row's dictionary is, from a number on
abbrev Dictionaries : Sight → ℕ → List JobRow → Type 0
Dictionaries k n rows = (i : ℕ) (row : JobRow) → slice_get rows i ≡ Some row → dictionary_from k.jobs 1 (n + i) ≡ row.dictionary

next_dictionaries : (k : Sight) (n : ℕ) (r : JobRow) (more : List JobRow) → Dictionaries k n (r ∷ more) → Dictionaries k (n + 1) more
next_dictionaries k n r more h i row e = (let at : n + 1 + i ≡ n + suc i = omega arith in ap (dictionary_from k.jobs 1) at ∙ h (suc i) row e)

first_dictionary : (k : Sight) (n : ℕ) (r : JobRow) (more : List JobRow) → Dictionaries k n (r ∷ more) → dictionary_from k.jobs 1 n ≡ r.dictionary
first_dictionary k n r more h = (let at : n ≡ n + 0 = omega arith in ap (dictionary_from k.jobs 1) at ∙ h 0 r refl)

follow : (k : Sight) (n at : ℕ) (rows : List JobRow) → Dictionaries k n rows → DictionariesStandIn k.core k.regs.stacks at rows → DictionariesFollow (placed k) at (members_from k n rows)
follow k n at [] h d = d
follow k n at (row ∷ more) h d =
    let long : row.segments + row.rows ≡ length (row_cells row.rows ++ segment_cells row.segments) = (let w = words_long row.rows row.segments in omega (arith, w)) in (
      first_dictionary k n row more h ∙ d.0.place,
      subst (λ q. DictionariesFollow (placed k) (at + (2 + q)) (members_from k (n + 1) more)) long (follow k (n + 1) (at + (2 + (row.segments + row.rows))) more (next_dictionaries k n row more h) d.1),
    )

jobs_show : (k : Sight) (n : ℕ) (rows : List JobRow) → Dictionaries k n rows → JobsShow (placed k) (members_from k n rows) rows
jobs_show k n [] h = tt
jobs_show k n (row ∷ more) h =
    let w = words_long row.rows row.segments in (
      record { dictionary = sym (first_dictionary k n row more h); segments = sym (segments_long k.core (row.dictionary + 2) row.segments); rows = omega (arith, w); limit = refl; made = refl; next_task = refl; numbers = refl },
      jobs_show k (n + 1) more (next_dictionaries k n row more h),
    )

module _ (k : Sight) (facts : TableFacts k) (low size : ℕ) (fixed : FixedFacts k low size) (stacks : EachTask k (StackFacts k)) (reach : EachTask k (ReachFacts k)) where
  abbrev of : (r : TaskRow) → Has k.tasks r → JobRow
  of r h = (of_row k facts r h).row

  dictionaries : Dictionaries k 1 k.jobs
  dictionaries i row e = dictionary_at 1 k.jobs i row e

  dictionary_of : (r : TaskRow) (h : Has k.tasks r) → dictionary_from k.jobs 1 r.job ≡ (of_row k facts r h).row.dictionary
  dictionary_of r h =
      let some = (row_fact k facts r h).from_one in
      let at : r.job ≡ 1 + (r.job - 1) = omega (arith, some) in
      ap (dictionary_from k.jobs 1) at ∙ dictionary_at 1 k.jobs (r.job - 1) (of_row k facts r h).row (of_row k facts r h).found

  -- ---- parents

  -- a row's parent: none, or the task in a slot
  parent : (r : TaskRow) (h : Has k.tasks r) → (o : Option TaskRow) → row_in_slot k.tasks r.parent ≡ o → BornBy r o → (r.parent ≡ parent_slot (placed k) r.job (parents_by k.tasks 15 o)) × (vector_word (placed k) r.job (parents_by k.tasks 15 o) ≡ word 3 (2 ^ 46 + link_to o * 2 ^ 36 + r.job * 2 ^ 16))
  parent r h o e b = grind (arith, keyed_has, slot_is)

  -- ---- where a task goes on

  runs : (r : TaskRow) (h : Has k.tasks r) → r.slot ≡ k.regs.slot → (k.regs.segment ≡ (task_in k (of_row k facts r h).row r.job r).segment + 1) × (k.regs.place ≡ (task_in k (of_row k facts r h).row r.job r).place)
  runs r h e =
      let top : top_in k r ≡ top_by k r (base_at k r) true = ap (top_by k r (base_at k r)) (eq-eqb r.slot k.regs.slot e) in
      let some = (task_at k facts (StackFacts k) stacks r h).place.from_one in
      grind arith

  waits : (r : TaskRow) (h : Has k.tasks r) → r.slot ≢ k.regs.slot → (r.segment ≡ (task_in k (of_row k facts r h).row r.job r).segment + 1) × (r.place ≡ (task_in k (of_row k facts r h).row r.job r).place)
  waits r h ne =
      let top : top_in k r ≡ top_by k r (base_at k r) false = ap (top_by k r (base_at k r)) (ne_eqb r.slot k.regs.slot ne) in
      let some = (task_at k facts (StackFacts k) stacks r h).place.from_one in
      grind arith

  -- ---- tables

  task_shows : (r : TaskRow) (h : Has k.tasks r) → TaskShows (placed k) (member_in k (of_row k facts r h).row r.job) (task_in k (of_row k facts r h).row r.job r) r
  task_shows r h =
      let q = task_at k facts (ReachFacts k) reach r h in
      record {
        job = refl;
        number = refl;
        slot = sym (slot_is k facts r h);
        parent = (parent r h (row_in_slot k.tasks r.parent) refl (row_fact k facts r h).born).0;
        critical = q.critical;
        state = q.state;
        segment = λ ne. (waits r h ne).0;
        place = λ ne. (waits r h ne).1;
      }

  pub tables_back : TablesShow (placed k) (shown k) k.tasks k.jobs k.counts
  tables_back = record {
    tasks = λ r h. (let o = of_row k facts r h in (member_in k o.row r.job, task_in k o.row r.job r, o.among, o.live, task_shows r h));
    each = by_row k facts (λ m t. (r : TaskRow) × Has k.tasks r × TaskShows (placed k) m t r) (λ r h. (r, h, task_shows r h));
    once = slots_differ k.tasks facts.apart;
    jobs = jobs_show k 1 k.jobs dictionaries;
    counts = record {
      quantum = refl;
      made = refl;
      turn = refl;
      last_job = refl;
      last_number = refl;
      switches = refl;
      next = facts.counts.next;
      past = λ i w low e. all_taken (λ (w : Switch). w.count < k.counts.made) k.counts.switches k.counts.next_switch facts.counts.past i w low e;
      running = facts.counts.running;
    };
  }

  -- ---- what core and registers hold

  dictionary_there : (m : SessionJob) → Has (shown k).jobs m → RepresentsDictionary k.core (placed k) m
  dictionary_there m hm =
      let r = row_of_member k 1 k.jobs m hm in
      let d = dictionary_fact k.core k.regs.stacks 160 k.jobs (m.constants.number - 1) r.row fixed.dictionaries r.found in
      grind (arith, words_long)

  home_there : (m : SessionJob) → Has (shown k).jobs m → RowHomes (placed k) m
  home_there m hm n some high =
      let r = row_of_member k 1 k.jobs m hm in
      grind (arith, dictionary_lies, words_long, segments_long, home_row)

  none_at : (n : ℕ) → ((w : Slotted) → Has (placed k).rows w → w.slot ≢ n) → row_in_slot k.tasks n ≡ None
  none_at n none = find_none (λ (r : TaskRow). r.slot == n) k.tasks (λ r h. ne_eqb r.slot n (none (image r) (has_map image k.tasks r h)))

  slot_few : (r : TaskRow) → Has k.tasks r → r.slot < 120
  slot_few r h = (let s = (row_fact k facts r h).slot in let p = facts.peak in omega (arith, s, p))

  vector : RepresentsVector k.core (placed k) (shown k).jobs
  vector = record {
    live = by_row k facts (λ m t. slice_get k.core (32 + slot_of (placed k) m.constants.number t.number) ≡ Some (vector_word (placed k) m.constants.number t.parents)) (λ r h.
        ap (λ n. slice_get k.core (32 + n)) (slot_is k facts r h) ∙ fixed.slots r.slot (slot_few r h) ∙ ap (λ (o : Option TaskRow). Some (vector_of k.tasks o)) (found_row k facts r h)
        ∙ ap Some (sym (parent r h (row_in_slot k.tasks r.parent) refl (row_fact k facts r h).born).1));
    free = λ n low none. fixed.slots n low ∙ ap (λ (o : Option TaskRow). Some (vector_of k.tasks o)) (none_at n none);
  }

  critical_there : (critical : List ℕ) → CriticalMarks critical k.tasks → RepresentsCritical critical (placed k) (shown k).jobs
  critical_there critical marks = record {
    live = by_row k facts (λ m t. slice_get critical (slot_of (placed k) m.constants.number t.number) ≡ Some (critical_mark m.progress.job t.frames)) (λ r h.
        ap (slice_get critical) (slot_is k facts r h) ∙ marks r.slot (slot_few r h) ∙ ap Some (sym (critical_is k facts stacks reach fixed.stack_high r h)));
    free = λ n low none. marks n low ∙ ap Some (greatest_free k facts n low (none_at n none));
  }

  is_running : (r : TaskRow) (h : Has k.tasks r) → r.slot ≡ k.regs.slot → IsRunning (placed k) (shown k).jobs (member_in k (of_row k facts r h).row r.job) (task_in k (of_row k facts r h).row r.job r)
  is_running r h e = record { member = member_found k facts r h; task = task_found k facts r h; slot = sym e ∙ sym (slot_is k facts r h) }

  live_one : k.regs.slot ≢ 255 → (m : SessionJob) × (t : Task) × IsRunning (placed k) (shown k).jobs m t
  live_one some = by (slice_get k.tasks k.counts.running) refl facts.counts.running where
    by : (o : Option TaskRow) → slice_get k.tasks k.counts.running ≡ o → RunningRow (placed k) o k.counts.running → (m : SessionJob) × (t : Task) × IsRunning (placed k) (shown k).jobs m t
    by None e run = absurd (some run.1)
    by (Some r) e run =
        let h = has_get k.tasks k.counts.running r e in
        (member_in k (of_row k facts r h).row r.job, task_in k (of_row k facts r h).row r.job r, is_running r h run.1)

  runs_there : (m : SessionJob) (t : Task) → IsRunning (placed k) (shown k).jobs m t → RepresentsTask k.regs (placed k) m t
  runs_there m t run =
      let hm = (keyed_has number_of m.constants.number (shown k).jobs m run.member).0 in
      let ht = (keyed_has (λ (v : Task). v.number) t.number m.progress.job.tasks t run.task).0 in
      by_row k facts (λ m t. k.regs.slot ≡ slot_of (placed k) m.constants.number t.number → RepresentsTask k.regs (placed k) m t) (λ r h e.
      let o = of_row k facts r h in
      let slot : r.slot ≡ k.regs.slot = sym (slot_is k facts r h) ∙ sym e in
      let d = o.told.1 slot in
      let w = words_long o.row.rows o.row.segments in
      let n = d.1 in
      record { slot = e; dict = d.0 ∙ sym (dictionary_of r h); entries = omega (arith, w, n); segment = (runs r h slot).0; place = (runs r h slot).1 }) m t hm ht run.slot

  sizes : (m : SessionJob) → Has (shown k).jobs m → m.constants.stack_size ≡ k.regs.stack_size
  sizes m hm = let r = row_of_member k 1 k.jobs m hm in ap (λ (y : SessionJob). y.constants.stack_size) (sym r.is)

  pub holds_back : (x : Storage) (critical : List ℕ) → Represents x k.core k.regs (view_in k) → NoOriginalAboveTop (view_in k) → CriticalMarks critical k.tasks → SessionHolds x k.core k.regs critical (placed k) (shown k)
  holds_back x critical mem set marks = record {
    fits = record { rows = rows_fit k facts; peak = refl; few = facts.peak; sizes = sizes; dictionaries = follow k 1 160 k.jobs dictionaries fixed.dictionaries; row_homes = home_there };
    memory = mem;
    settled = set;
    dictionaries = dictionary_there;
    mcp = fixed.mcp;
    vector = vector;
    critical = critical_there critical marks;
    live = live_one;
    running = runs_there;
    none = λ e. e;
  }

-- ---- the machine

pub shown_back : (k : Machine) → ShownItems k → RepresentsShown k
shown_back k i =
    let s = sight_of k in
    let c = i.chains in
    let x = storage_with (sight_of k) k.areas.low c.shelf in
    record {
      storage = storage_with (sight_of k) k.areas.low c.shelf;
      ordered = order_back (sight_of k) i.tables k.areas.low k.areas.size i.fixed i.stacks i.reach i.cells i.objects;
      stands = record {
        session = record {
          holds = holds_back (sight_of k) i.tables k.areas.low k.areas.size i.fixed i.stacks i.reach (storage_with (sight_of k) k.areas.low c.shelf) k.cpu.critical
              (memory (sight_of k) i.tables k.areas.low k.areas.size i.fixed i.stacks i.cells i.objects i.areas c.shelf k.sectors c.is c.each c.owned c.once)
              (settled (sight_of k) i.tables k.areas.low k.areas.size i.fixed i.stacks i.cells i.objects) i.critical;
          shows = i.display;
        };
        storage = record { low = refl; size = i.fixed.all; shelf = c.is; device = refl };
        tables = tables_back (sight_of k) i.tables k.areas.low k.areas.size i.fixed i.stacks i.reach;
      };
    }
