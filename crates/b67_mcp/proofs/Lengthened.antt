-- The machine with an array emptied or of another length, and the stops of a RESIZE to a greater one.
use Rattle.std.proofs.Common.{◌≡◌, ◌≢◌, ℕ, ◌+◌, ◌-◌, ◌^◌, ◌<◌, ◌≤◌, List, ◌++◌, flat_map, length, take, replicate, Option, Some, None, Ok, Err, refl, sym, ◌∙◌, ap, arith, Bool, true, subst, inl, inr, ⊎_elim}
use Rattle.std.specs.Prelude.{if◌then◌else◌}
use Rattle.std.proofs.lemmas.List.{length-replicate}
use Rattle.b67_area.specs.declared.Areas.{Areas}
use Rattle.b67_area.specs.declared.kinds.Kind.TheVariants as kind
use Rattle.b67_backing.specs.Shelf.{Table}
use Rattle.b67_backing.specs.Held.{sectors_for}
use Rattle.b67_backing.specs.declared.refusals.SpaceFault.{SpaceFault}
use Rattle.b67_backing.specs.declared.refusals.SpaceFault.TheVariants as space
use Rattle.b67_lemmas.specs.Lists.{Has}
use Rattle.b67_lemmas.proofs.Keyed.{change_same}
use Rattle.b67_lemmas.proofs.Members.{keyed_has}
use Rattle.b67_model.specs.Common.{Array, Task, SessionJob, with_array, all_zero, resized, number_of, sectors, Session}
use Rattle.b67_stack.specs.declared.Cpu.{Cpu}
use Rattle.b67_stack.specs.Common.{PagedObject, Storage, LowWordsStayed, TakesPlace}
use Rattle.b67_stack.proofs.Helds.{held-other}
use Rattle.b67_layout.specs.Common.{IsInOrderButCounts, Placement, array_object, objects_of, machine_view, IsRunning, with_job, area_held}
use Rattle.b67_layout.specs.Machine.{IsPresent, PagingKeeps, Says, content_after}
use Rattle.b67_overlay.specs.Spans.{MachineCanPage}
use Rattle.b67_mcp.proofs.PassedSpans.{copies_of, view_of}
use Rattle.b67_layout_step.proofs.Arrays.{Renumbers}
use Rattle.b67_exec_cells.proofs.Replaced.{array_object-has}
use Rattle.b67_mcp.proofs.PassedSpans.{short_full, within}
use Rattle.b67_task.specs.declared.tables.Machine.{Machine}
use Rattle.b67_task.specs.Tables.{MachineRepresents}
use Rattle.b67_task.specs.Needing.{StandsOrdered}
use Rattle.b67_mcp.specs.Lengths.{IsArray, zeroed, cut_to, grown_to, emptied, shorter, OthersStay, LengthenMeets}
use Rattle.b67_mcp.specs.declared.ends.Stop.{Stop}
use Rattle.b67_mcp.specs.declared.ends.Stop.TheVariants as stops
use Rattle.b67_mcp.specs.Running.{Keeps}
use Rattle.b67_mcp.specs.Resizing.{session_resized, SumsTo, StopsAt, LengthSet}
use Rattle.b67_mcp.proofs.Told.{told_is}
use Rattle.b67_mcp.proofs.Renumbered.{found, takes, stands_renumbered, stands_moved}
use Rattle.b67_mcp.proofs.SectorSums.{resized_cut, resized_grown, resized_same, length_resized, session_sectors}

pub zeros_renumber : Renumbers all_zero
zeros_renumber = record { identity = λ a. refl; owner = λ a. refl; writable = λ a. refl }

pub resized_renumbers : (n : ℕ) → Renumbers (resized n)
resized_renumbers n = record { identity = λ a. refl; owner = λ a. refl; writable = λ a. refl }

pub area_of : (o : Option ℕ) → o ≢ None → (at : ℕ) × (o ≡ Some at)
area_of o n = grind arith

-- what paging keeps of a machine
pub kept_by : (k : Machine) (cpu : Cpu) (areas : Areas) (table : Table) → PagingKeeps k.cpu cpu k.areas areas k.sectors table → Keeps k (record { cpu = cpu; areas = areas; sectors = table; tasks = k.tasks })
kept_by k cpu areas table kept = record { core = kept.len; sectors = kept.count; given = refl }

-- a stop for a want of space is one of two
pub stop_faults : (k : Machine) (before after : ℕ) (fault : SpaceFault) (stop : Stop) → StopsAt k before after fault stop → stop ≡ stops.BackingFault → fault ≡ space.BackingFault
stop_faults k before after fault stop is e = grind arith

pub stop_silent : (k : Machine) (before after : ℕ) (fault : SpaceFault) (stop : Stop) → StopsAt k before after fault stop → stop ≢ stops.PrintFault
stop_silent k before after fault stop is e = grind arith

module _ (x : Storage) (told : Option (List (List ℕ))) (k : Machine) (plan : Placement) (s : Session) (m : SessionJob) (t : Task) (o : IsInOrderButCounts s) (h : MachineRepresents x told k plan s) (runs : IsRunning plan s.jobs m t)
    (a : Array) (among : Has m.progress.job.arrays a) where
  abbrev object : PagedObject
  object = array_object plan m.constants.number a

  has_m : Has s.jobs m
  has_m = (keyed_has number_of m.constants.number s.jobs m runs.member).0

  there : Has (machine_view plan s.jobs).objects (array_object plan m.constants.number a)
  there = array_object-has plan s.jobs m a has_m among

  pub is_array : (original : ℕ) → original ≡ plan.home m.constants.number a.identity → a.writable ≡ true → IsArray (machine_view plan s.jobs) original (array_object plan m.constants.number a)
  is_array original home writable = record { there = there; is = sym home; kind = ap (λ (w : Bool). if w then kind.Array else kind.Row) writable }

  pub is_present : (at : ℕ) → area_held x plan m.constants.number a.identity ≡ Some at → IsPresent x (machine_view plan s.jobs) at (array_object plan m.constants.number a)
  is_present at e = record { there = there; present = e }

  -- over what the device tells
  pub seen_over : (now : Option (List (List ℕ))) → Says told now → MachineCanPage x k.cpu k.areas k.sectors now (machine_view plan s.jobs)
  seen_over now says = record { stands = h.session.holds.memory; low = h.storage.low; shelf = h.storage.shelf; device = subst (λ (d : Option (List (List ℕ))). Says d now) h.storage.device says; copies = copies_of x k.cpu plan s o h.session }

  few_numbers : (0 < length a.numbers) × (length a.numbers < 2 ^ 16)
  few_numbers = h.session.holds.memory.slots.laid.lengths (array_object plan m.constants.number a) there

  -- DEALLOCATE
  abbrev pub objects_zeroed : List PagedObject
  objects_zeroed = flat_map (objects_of plan) (with_job s m (with_array m.progress.job a.identity all_zero)).jobs

  zeros_long : length {A = ℕ} (replicate (length a.numbers) 0) ≡ length a.numbers
  zeros_long = length-replicate {A = ℕ} (length a.numbers) 0

  pub zero_place : TakesPlace (machine_view plan s.jobs).objects (flat_map (objects_of plan) (with_job s m (with_array m.progress.job a.identity all_zero)).jobs) (array_object plan m.constants.number a) (zeroed (array_object plan m.constants.number a))
  zero_place = takes x told k plan s h m t o runs a among all_zero zeros_renumber (omega (arith, zeros_long, few_numbers.0)) (omega (arith, zeros_long, few_numbers.1))

  pub stands_emptied : (cpu : Cpu) (areas : Areas) (table : Table) → PagingKeeps k.cpu cpu k.areas areas k.sectors table → LowWordsStayed (machine_view plan s.jobs) k.cpu.core cpu.core
      → MachineCanPage (emptied x (array_object plan m.constants.number a)) cpu areas table told (record (machine_view plan s.jobs) { objects = objects_zeroed })
      → MachineRepresents (emptied x (array_object plan m.constants.number a)) told (record { cpu = cpu; areas = areas; sectors = table; tasks = k.tasks }) plan (with_job s m (with_array m.progress.job a.identity all_zero))
  stands_emptied cpu areas table kept stayed view =
      let y : Storage = emptied x (array_object plan m.constants.number a) in
      let new : Machine = record { cpu = cpu; areas = areas; sectors = table; tasks = k.tasks } in
      subst (λ (d : Option (List (List ℕ))). MachineRepresents y d new plan (with_job s m (with_array m.progress.job a.identity all_zero))) (sym h.storage.device)
      (stands_renumbered x told k plan s h m t o runs a among all_zero zeros_renumber y told cpu areas table kept stayed (omega (arith, zeros_long, few_numbers.0)) (omega (arith, zeros_long, few_numbers.1)) view)

  -- RESIZE
  module _ (words : ℕ) (some : 0 < words) (few : words < 2 ^ 16) where
    abbrev pub objects_resized : List PagedObject
    objects_resized = flat_map (objects_of plan) (session_resized s m a words).jobs

    long : length (take words a.numbers ++ replicate (words - length a.numbers) 0) ≡ words
    long = length_resized words a.numbers

    place : TakesPlace (machine_view plan s.jobs).objects objects_resized (array_object plan m.constants.number a) (array_object plan m.constants.number (resized words a))
    place = takes x told k plan s h m t o runs a among (resized words) (resized_renumbers words) (omega (arith, long, some)) (omega (arith, long, few))

    numbered : (ns : List ℕ) → take words a.numbers ++ replicate (words - length a.numbers) 0 ≡ ns
        → TakesPlace (machine_view plan s.jobs).objects objects_resized (array_object plan m.constants.number a) (record (array_object plan m.constants.number a) { numbers = ns })
    numbered ns e = subst (λ (l : List ℕ). TakesPlace (machine_view plan s.jobs).objects objects_resized (array_object plan m.constants.number a) (record (array_object plan m.constants.number a) { numbers = l })) e place

    pub cut_place : words < length a.numbers → TakesPlace (machine_view plan s.jobs).objects (flat_map (objects_of plan) (session_resized s m a words).jobs) (array_object plan m.constants.number a) (cut_to words (array_object plan m.constants.number a))
    cut_place low = numbered (take words a.numbers) (resized_cut words a.numbers (omega (arith, low)))

    pub grown_place : length a.numbers < words → TakesPlace (machine_view plan s.jobs).objects (flat_map (objects_of plan) (session_resized s m a words).jobs) (array_object plan m.constants.number a) (grown_to words (array_object plan m.constants.number a))
    grown_place up = numbered (a.numbers ++ replicate (words - length a.numbers) 0) (resized_grown words a.numbers (omega (arith, up)))

    -- the machine with such an array
    stands_by : (y : Storage) (now : Option (List (List ℕ))) (cpu : Cpu) (areas : Areas) (table : Table) → PagingKeeps k.cpu cpu k.areas areas k.sectors table → LowWordsStayed (machine_view plan s.jobs) k.cpu.core cpu.core
        → MachineCanPage y cpu areas table now (record (machine_view plan s.jobs) { objects = objects_resized })
        → MachineRepresents y y.device (record { cpu = cpu; areas = areas; sectors = table; tasks = k.tasks }) plan (session_resized s m a words)
    stands_by y now cpu areas table kept stayed view =
        stands_renumbered x told k plan s h m t o runs a among (resized words) (resized_renumbers words) y now cpu areas table kept stayed (omega (arith, long, some)) (omega (arith, long, few)) view

    -- where it is shorter, or as long
    pub set_shorter : (at count : ℕ) (now : Option (List (List ℕ))) (cpu : Cpu) (areas : Areas) (table : Table) → PagingKeeps k.cpu cpu k.areas areas k.sectors table → LowWordsStayed (machine_view plan s.jobs) k.cpu.core cpu.core → Says told now
        → MachineCanPage (shorter x (array_object plan m.constants.number a) at words) cpu areas table told (record (machine_view plan s.jobs) { objects = objects_resized })
        → LengthSet (content_after told now) count x plan s m a words (Ok tt) k (record { cpu = cpu; areas = areas; sectors = table; tasks = k.tasks })
    set_shorter at count now cpu areas table kept stayed says view =
        let y : Storage = shorter x (array_object plan m.constants.number a) at words in
        let new : Machine = record { cpu = cpu; areas = areas; sectors = table; tasks = k.tasks } in
        record {
          storage = y;
          stands = subst (λ (d : Option (List (List ℕ))). MachineRepresents y d new plan (session_resized s m a words)) (sym h.storage.device ∙ sym (told_is told now says)) (stands_by y told cpu areas table kept stayed view);
          others = λ q other. held-other x.held (plan.home m.constants.number a.identity) (record { area = Some at; chain = 0 }) q other;
          tables = refl;
        }

    same_session : length a.numbers ≡ words → session_resized s m a words ≡ s
    same_session e =
        let numbers : resized words a ≡ a = ap (λ (ns : List ℕ). let b : Array = record a { numbers = ns } in b) (resized_same words a.numbers e) in
        let key : Array → ℕ = λ z. z.identity in
        let arrays : (with_array m.progress.job a.identity (resized words)).arrays ≡ m.progress.job.arrays =
        change_same key a.identity (resized words) m.progress.job.arrays a (found x told k plan s h m t o runs a among (resized words) (resized_renumbers words)) numbers in
        grind (arith, change_same)

    pub set_same : (count : ℕ) (now : Option (List (List ℕ))) → length a.numbers ≡ words → Says told now → LengthSet (content_after told now) count x plan s m a words (Ok tt) k k
    set_same count now e says = grind (arith, same_session)

    module _ (count : ℕ) (now : Option (List (List ℕ))) (cpu : Cpu) (areas : Areas) (table : Table) (kept : PagingKeeps k.cpu cpu k.areas areas k.sectors table) (stayed : LowWordsStayed (machine_view plan s.jobs) k.cpu.core cpu.core) where
      abbrev new : Machine
      new = record { cpu = cpu; areas = areas; sectors = table; tasks = k.tasks }

      told_by : (y : Storage) → OthersStay x y (plan.home m.constants.number a.identity) now → y.device ≡ content_after told now
      told_by y others = others.device ∙ ap (λ (d : Option (List (List ℕ))). content_after d now) (sym h.storage.device)

      pub set_longer : length a.numbers < words → LengthenMeets x (machine_view plan s.jobs) (array_object plan m.constants.number a) words (Ok tt) cpu areas table now
          → LengthSet (content_after told now) count x plan s m a words (Ok tt) k (record { cpu = cpu; areas = areas; sectors = table; tasks = k.tasks })
      set_longer up (y, others, gone, stands) =
          record {
            storage = y;
            stands = subst (λ (d : Option (List (List ℕ))). MachineRepresents y d new plan (session_resized s m a words)) (told_by y others) (stands_by y now cpu areas table kept stayed (stands objects_resized (grown_place up)));
            others = others.others;
            tables = refl;
          }

      left : (y : Storage) → OthersStay x y (plan.home m.constants.number a.identity) now → MachineCanPage y cpu areas table now (machine_view plan s.jobs)
          → MachineRepresents y (content_after told now) (record { cpu = cpu; areas = areas; sectors = table; tasks = k.tasks }) plan s
      left y others view = subst (λ (d : Option (List (List ℕ))). MachineRepresents y d new plan s) (told_by y others) (stands_moved x told k plan s h y now cpu areas table kept stayed view)

      -- the sectors of the session with such an array
      sum_of : (sum before : ℕ) → length a.numbers ≡ before → (y : Storage) (d : Option (List (List ℕ))) → MachineRepresents y d (record { cpu = cpu; areas = areas; sectors = table; tasks = k.tasks }) plan s
          → SumsTo (record { cpu = cpu; areas = areas; sectors = table; tasks = k.tasks }) before words sum → sum ≡ sectors (session_resized s m a words).jobs
      sum_of sum before e y d stands sums =
          let f : Array → Array = resized words in
          let z : sectors_for (length a.numbers) ≡ sectors_for before = ap sectors_for e in
          let w : sectors_for (length (take words a.numbers ++ replicate (words - length a.numbers) 0)) ≡ sectors_for words = ap sectors_for long in
          omega (arith, sums y d plan s o stands, session_sectors s m a f runs.member (found x told k plan s h m t o runs a among f (resized_renumbers words)), z, w)

      pub set_refused : (before : ℕ) (fault : SpaceFault) (stop : Stop) → length a.numbers ≡ before → before < words → count + 1 ≡ length table.links
          → LengthenMeets x (machine_view plan s.jobs) (array_object plan m.constants.number a) words (Err fault) cpu areas table now
          → StopsAt (record { cpu = cpu; areas = areas; sectors = table; tasks = k.tasks }) before words fault stop
          → a.writable ≡ true
          → LengthSet (content_after told now) count x plan s m a words (Err stop) k (record { cpu = cpu; areas = areas; sectors = table; tasks = k.tasks })
      set_refused before (space.BackingFull wants free) stop e up size (y, others, view, (free_is, fewer, lacking), room) (sum, device, is, sums, size_is) writable =
          let S : Stop → Type 0 = λ z. LengthSet (content_after told now) count x plan s m a words (Err z) k new in
          let stands = left y others view in
          let is_sum = sum_of sum before e y (content_after told now) stands sums in
          let plain = view_of y cpu areas table now (machine_view plan s.jobs) view in
          let all = within y cpu areas table now plan s plain in
          let of_before : sectors_for (length a.numbers) ≡ sectors_for before = ap sectors_for e in
          let of_sum = sums y (content_after told now) plan s o stands in
          let more : sectors_for before ≤ sectors_for words = omega (arith, up) in
          let above : count < sum = ⊎_elim
          (λ l. (let low = short_full y cpu areas table now plan s wants free count plain
          (let there' = area_of (area_held y plan m.constants.number a.identity) l.1 in
          record {
            object = array_object plan m.constants.number a;
            at = there'.0;
            present = record { there = there; present = there'.1 };
            short = record { kind = ap (λ (w : Bool). if w then kind.Array else kind.Row) writable; none = l.0; few = omega (arith, free_is, fewer, l.2) };
            wants_is = l.2;
            free_is = free_is;
          }) size in omega (arith, low, of_sum, more)))
          (λ l. omega (arith, all, free_is, fewer, size, of_sum, of_before, l.1))
          lacking in
          subst S (sym is) (record {
            left = record { storage = y; stands = stands; others = others.others; tables = refl };
            wants = wants;
            free = free;
            short = ⊎_elim
                (λ l. inl (record { member = m; in_session = has_m; array = a; among = among; present = l.1; unkept = l.0; wants_is = l.2; free_is = free_is; fewer = fewer }))
                (λ l. inr (record { chain = l.0; wants_is = l.1; free_is = free_is; fewer = fewer }))
                lacking;
            room = room;
            sum_is = is_sum;
            size_is = omega (arith, size, size_is);
            exceeds = above;
          })
      set_refused before space.BackingFault stop e up size (y, others, view) is writable = grind (arith, left)
      set_refused before (space.NoCore need core) stop e up size l is writable = absurd is

      -- the machine represents some session then
      pub stands_after : (fault : SpaceFault) → LengthenMeets x (machine_view plan s.jobs) (array_object plan m.constants.number a) words (Err fault) cpu areas table now → StandsOrdered (record { cpu = cpu; areas = areas; sectors = table; tasks = k.tasks })
      stands_after (space.BackingFull wants free) (y, others, view, lacking, room) = grind (arith, left)
      stands_after space.BackingFault (y, others, view) = record { storage = y; told = content_after told now; plan = plan; session = s; ordered = o; stands = left y others view }
      stands_after (space.NoCore need core) l = absurd l
