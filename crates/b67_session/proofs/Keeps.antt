-- Each way in which rows are made keeps where the frames stand that others depend on, what a task shows that makes no
-- operator, the next task's number and the numbers that are left to read.
use Rattle.std.proofs.Common.{subst, ◌≡◌, ◌≢◌, ℕ, ◌+◌, ◌<◌, ◌≤◌, Bool, true, false, List, [], ◌∷◌, reverse, Option, Some, None, Ok, refl, sym, ap, ◌∙◌, arith}
use Rattle.std.specs.Prelude.{not, ℤ}
use Rattle.std.proofs.lemmas.Bool.{not-true}
use Rattle.b67_word.specs.declared.couples.Place.{Place}
use Rattle.b67_model.specs.declared.operators.Op.{Op}
use Rattle.b67_model.specs.declared.operators.Op.TheVariants.{Valc, Namc, Lt8, Lt16, Lt48, Mpcw, Brun, Brtr, Brfl, Bset, Brst, Isol, Insr, Plain}
use Rattle.b67_model.specs.declared.operators.Code.{Code}
use Rattle.b67_model.specs.declared.operators.Code.TheVariants as codes
use Rattle.b67_model.specs.Common.{Answer, ◌>>=◌, same, bset, brst, isol, insr, Word, Operand, Name, operand, Frame, Standing, Marked, Entered, Return, Task, Job, SessionJob, OperatorContext, with_task, below_top, top, with_top_cells, End, AtCell, AtElement, AtArray, AtProc, AtIntrinsic, chase, follow, follow_reference, with_element, Line, Done, Goes, Leaves, Waits, top_of, cells_of, result, with_cells, leaves_cells, pushes, is_critical, without_arrays_of, accident, needs_level, back_to, evaluates, enters, left, leaves, returnable, returned, retn_word, CellRow, on_one, on_two, on_cells, branches, branch_if, stff, load_at, load, indx, nxlv, store_at, store, entr_at, entr_with, entr, plain, row, from_frame, called_at, called_by, called_on, called, Class, OnTwo, OnOne, OnCells, Pushes, Idle, Own, class, by_class}
use Rattle.b67_law.proofs.Classes.{IsCommon}
use Rattle.b67_model.specs.Keyed.{keyed, change_keyed}
use Rattle.b67_law.proofs.Posts.{Post, post_ok, post_err, post_any, post_then, post_needs, post_at}
use Rattle.b67_law.specs.Profiles.{Profile, profile}
use Rattle.b67_layout.specs.Meets.{here}
use Rattle.b67_session.proofs.Places.{places, top_from, drop_from, enter_from, Same, AllSame, all_same, put, store_same}

-- what a row leaves of a job whose tasks, next number and numbers were these: others depend on frames of D
abbrev pub Keeps : (D : ℕ → Type 0) (first : List Task) (n next : ℕ) (numbers : List ℤ) → Done → Type 0
Keeps D first n next numbers (Goes after printed touched) = AllSame D n first after.tasks × (after.next_task ≡ next) × (after.numbers ≡ numbers)
Keeps D first n next numbers Leaves = Unit {0}
Keeps D first n next numbers (Waits condition) = Unit {0}

-- a job and its task on the way, from the first ones
module _ (D : ℕ → Type 0) (first : List Task) (own : Task) (known : keyed (λ (u : Task). u.number) own.number first ≡ Some own) (next_number : ℕ) (reads : List ℤ) (bound : ℕ) (low : (c : ℕ) → D c → c < bound) where
  abbrev Good : Answer Done → Type 0
  Good answer = Post (Keeps D first own.number next_number reads) answer

  abbrev K : Done → Type 0
  K = Keeps D first own.number next_number reads

  record OwnSame (u : Task) : Type 0 where
    pub profile : profile u ≡ profile own
    pub from : (c : ℕ) → D c → places (from_frame c u.frames) ≡ places (from_frame c own.frames)

  record JobSame (job : Job) : Type 0 where
    pub tasks : AllSame D own.number first job.tasks
    pub next : job.next_task ≡ next_number
    pub numbers : job.numbers ≡ reads
    pub up : bound ≤ job.next_frame

  record Source (h : OperatorContext) : Type 0 where
    pub job : JobSame h.job
    pub task : OwnSame h.task

  with_good : (job : Job) (task : Task) → JobSame job → OwnSame task → AllSame D own.number first (with_task job task).tasks
  with_good job task s o =
      let n : task.number ≡ own.number = ap (λ (p : Profile). p.number) o.profile in
      let same : Same D own.number own task = record { profile = o.profile; from = o.from; other = λ ne. absurd (ne refl) } in
      let P : ℕ → Type 0 = λ k. AllSame D own.number first (change_at k task job.tasks) in
      subst P (sym n) (put D own.number own task same first job.tasks s.tasks known) where
        change_at : ℕ → Task → List Task → List Task
        change_at k v vs = change_keyed (λ (u : Task). u.number) k (λ (u : Task). v) vs

  result_good : (h : OperatorContext) (job : Job) (task : Task) (printed : List Line) (touched : Option ℕ) → JobSame job → OwnSame task → Good (result h job task printed touched)
  result_good h job task printed touched s o = post_then K _ _ (post_ok K _ (with_good job task s o, s.next, s.numbers))

  -- the task with other cells, and elsewhere
  top_same : (u : Task) (cells : List Word) → OwnSame u → OwnSame (record u { frames = with_top_cells u.frames cells })
  top_same u cells o = record { profile = o.profile; from = λ c d. top_from c u.frames cells ∙ o.from c d }

  moved : (u : Task) (segment : ℕ) (place : Place) → OwnSame u → OwnSame (record u { segment = segment; place = place })
  moved u segment place o = record { profile = o.profile; from = o.from }

  more : (job : Job) → JobSame job → JobSame (record job { next_frame = job.next_frame + 1 })
  more job s = let up = s.up in record { tasks = s.tasks; next = s.next; numbers = s.numbers; up = omega arith }

  pushed : (job : Job) (u : Task) (g : Frame) → g.identity ≡ job.next_frame → JobSame job → OwnSame u → OwnSame (record u { frames = g ∷ u.frames })
  pushed job u g is s o = grind arith

  cells_good : (h : OperatorContext) (cells : List Word) (touched : Option ℕ) → Source h → Good (leaves_cells h cells touched)
  cells_good h cells touched s = result_good h h.job (with_cells h cells) [] touched s.job (top_same h.task cells s.task)

  on_cells_good : (f : CellRow) (h : OperatorContext) → Source h → Good (on_cells f h)
  on_cells_good f h s = post_any K (f (cells_of h)) _ (λ cells. cells_good h cells None s)

  push_good : (h : OperatorContext) (w : Word) (touched : Option ℕ) → Source h → Good (pushes h w touched)
  push_good h w touched s = cells_good h (w ∷ cells_of h) touched s

  branches_good : (h : OperatorContext) (target : Place) → Source h → Source (branches h target)
  branches_good h target s = record { job = s.job; task = moved h.task h.task.segment target s.task }

  accident_good : (h : OperatorContext) (cells : List Word) (back : Return) (end : End) → Source h → Good (accident h cells back end)
  accident_good h cells back (AtProc f segment level place) s =
      let entered : Frame = record { identity = h.job.next_frame; standing = Entered level f (Some back); cells = [] } in
      let under : Task = record h.task { frames = with_top_cells h.task.frames cells } in
      post_then K (needs_level h f level) _
      (result_good h (record h.job { next_frame = h.job.next_frame + 1 }) (record h.task { frames = entered ∷ with_top_cells h.task.frames cells; segment = segment; place = place }) [] None (more h.job s.job)
      (moved (record under { frames = entered ∷ under.frames }) segment place (pushed h.job under entered refl s.job (top_same h.task cells s.task))))
  accident_good h cells back (AtCell f offset bits) s = post_err K _
  accident_good h cells back (AtElement a index) s = post_err K _
  accident_good h cells back (AtArray a) s = post_err K _
  accident_good h cells back (AtIntrinsic n) s = post_err K _

  evaluates_good : (h : OperatorContext) (end : End) → Source h → Good (evaluates h end)
  evaluates_good h (AtCell f offset bits) s = cells_good h _ None s
  evaluates_good h (AtElement a index) s = cells_good h _ (Some a) s
  evaluates_good h (AtProc f segment level place) s = accident_good h _ _ (AtProc f segment level place) s
  evaluates_good h (AtArray a) s = post_err K _
  evaluates_good h (AtIntrinsic n) s = post_err K _

  enters_good : (h : OperatorContext) (arguments : List Word) (end : End) → h.task.frames ≢ [] → Source h → Good (enters h arguments end)
  enters_good h arguments (AtProc f segment level place) some s =
      let standing = Entered level f (Some (back_to h false h.task.place)) in
      let entered : Frame = record (top_of h) { standing = standing; cells = reverse arguments } in
      post_then K (needs_level h f level) _ (result_good h h.job (record h.task { frames = entered ∷ below_top h.task.frames; segment = segment; place = place }) [] None s.job
      (record { profile = s.task.profile; from = λ c d. enter_from c h.task.frames standing (reverse arguments) some ∙ s.task.from c d }))
  enters_good h arguments (AtCell f offset bits) some s = post_err K _
  enters_good h arguments (AtElement a index) some s = post_err K _
  enters_good h arguments (AtArray a) some s = post_err K _
  enters_good h arguments (AtIntrinsic n) some s = post_err K _

  -- a frame that is left is none of those
  abbrev Apart : OperatorContext → Type 0
  Apart h = (c : ℕ) → D c → is_critical h.job (top_of h).identity ≡ false → c ≢ (top_of h).identity

  leaves_good : (h : OperatorContext) (standing : Standing) (go : OperatorContext → Bool → Answer Done) → Apart h → Source h → ((k : OperatorContext) (value : Bool) → Source k → Good (go k value)) → Good (leaves h standing go)
  leaves_good h Marked go apart s each = post_err K _
  leaves_good h (Entered level environment None) go apart s each = post_then K _ _ (post_ok K _ tt)
  leaves_good h (Entered level environment (Some back)) go apart s each =
      post_needs K (not (is_critical h.job (top_of h).identity)) _ _ (λ free.
      let task : Task = record h.task { frames = below_top h.task.frames; segment = back.segment; place = back.place } in
      let under : OwnSame task = record { profile = s.task.profile; from = λ c d. ap places (drop_from c h.task.frames (λ some e. apart c d (not-true _ free) (sym e))) ∙ s.task.from c d } in
      let job : Job = without_arrays_of (top_of h).identity h.job in
      let js : JobSame job = record { tasks = s.job.tasks; next = s.job.next; numbers = s.job.numbers; up = s.job.up } in
      each (left h back) back.value (record { job = record { tasks = with_good job task js under; next = s.job.next; numbers = s.job.numbers; up = s.job.up }; task = under }))

  returned_good : (h : OperatorContext) (w : Word) (value : Bool) → Source h → Good (returned h w value)
  returned_good h w false s = cells_good h _ None s
  returned_good h (Operand bits) true s = cells_good h _ None s
  returned_good h w true s = post_any K (follow h w) _ (λ end. evaluates_good h end s)

  retn_good : (h : OperatorContext) (standing : Standing) (cells : List Word) → Apart h → Source h → Good (retn_word h standing cells)
  retn_good h Marked cells apart s = post_err K _
  retn_good h (Entered level environment back) [] apart s = post_err K _
  retn_good h (Entered level environment back) (w ∷ cells) apart s =
      post_any K (returnable h.job (top_of h).identity w) _
      (λ v. leaves_good h (Entered level environment back) (λ after value. returned after v value) apart s (λ k value from. returned_good k v value from))

  branch_good : (wanted : Bool) (h : OperatorContext) (cells : List Word) (target : Place) → Source h → Good (branch_if wanted h cells target)
  branch_good wanted h [] target s = post_err K _
  branch_good wanted h (a ∷ rest) target s = post_any K (operand a) _ (λ x. cells_good (branches h _) rest None (branches_good h _ s))

  load_at_good : (h : OperatorContext) (rest : List Word) (end : End) → Source h → Good (load_at h rest end)
  load_at_good h rest (AtCell f offset bits) s = cells_good h _ None s
  load_at_good h rest (AtElement a index) s = cells_good h _ (Some a) s
  load_at_good h rest (AtArray a) s = cells_good h _ None s
  load_at_good h rest (AtProc f segment level place) s = accident_good h rest _ (AtProc f segment level place) s
  load_at_good h rest (AtIntrinsic n) s = post_err K _

  load_good : (h : OperatorContext) (cells : List Word) → Source h → Good (load h cells)
  load_good h cells s = grind (arith, load_at_good)

  indx_good : (h : OperatorContext) (cells : List Word) → Source h → Good (indx h cells)
  indx_good h cells s = grind (arith, cells_good)

  nxlv_good : (h : OperatorContext) (cells : List Word) → Source h → Good (nxlv h cells)
  nxlv_good h cells s = grind (arith, cells_good)

  store_at_good : (h : OperatorContext) (rest kept : List Word) (bits : ℕ) (end : End) → Source h → Good (store_at h rest kept bits end)
  store_at_good h rest kept bits (AtCell f offset old) s =
      post_ok K _ (store_same D own.number f offset (Operand bits) first (with_task h.job (with_cells h kept)).tasks (with_good h.job (with_cells h kept) s.job (top_same h.task kept s.task)), s.job.next, s.job.numbers)
  store_at_good h rest kept bits (AtElement a index) s = post_then K _ _ (result_good h (with_element h.job a index bits) (with_cells h kept) [] (Some a) (record { tasks = s.job.tasks; next = s.job.next; numbers = s.job.numbers; up = s.job.up }) (top_same h.task kept s.task))
  store_at_good h rest kept bits (AtProc f segment level place) s = accident_good h (Operand bits ∷ rest) _ (AtProc f segment level place) s
  store_at_good h rest kept bits (AtArray a) s = post_err K _
  store_at_good h rest kept bits (AtIntrinsic n) s = post_err K _

  store_good : (keeps : Bool) (h : OperatorContext) (cells : List Word) → Source h → Good (store keeps h cells)
  store_good keeps h cells s = grind (arith, store_at_good)

  entr_at_good : (h : OperatorContext) (arguments : List Word) (end : End) → h.task.frames ≢ [] → Source h → called_at (Ok end) ≡ None → Good (entr_at h arguments end)
  entr_at_good h arguments (AtProc f segment level place) some s e = enters_good h arguments (AtProc f segment level place) some s
  entr_at_good h arguments (AtCell f offset bits) some s e = post_err K _
  entr_at_good h arguments (AtElement a index) some s e = post_err K _
  entr_at_good h arguments (AtArray a) some s e = post_err K _
  entr_at_good h arguments (AtIntrinsic n) some s e = absurd cc

  entr_end : (h : OperatorContext) (arguments : List Word) (end : Answer End) → h.task.frames ≢ [] → Source h → called_at end ≡ None → Good (end >>= entr_at h arguments)
  entr_end h arguments end some s e = grind (arith, entr_at_good)

  entr_with_good : (h : OperatorContext) (cells : List Word) → h.task.frames ≢ [] → Source h → called_by h cells ≡ None → Good (entr_with h cells)
  entr_with_good h [] some s e = post_err K _
  entr_with_good h (r ∷ arguments) some s e = entr_end h arguments (follow_reference h r) some s e

  entr_good : (h : OperatorContext) (standing : Standing) → h.task.frames ≢ [] → Source h → called_on h standing ≡ None → Good (entr h standing)
  entr_good h standing some s e = grind (arith, entr_with_good)

  class_good : (c : Class) (h : OperatorContext) → IsCommon c → Source h → Good (by_class c h)
  class_good (OnTwo f) h common s = on_cells_good (on_two f) h s
  class_good (OnOne f) h common s = on_cells_good (on_one f) h s
  class_good (OnCells f) h common s = on_cells_good f h s
  class_good (Pushes n) h common s = push_good h _ None s
  class_good Idle h common s = cells_good h _ None s
  class_good (Own row) h common s = absurd common

  plain_good : (code : Code) (h : OperatorContext) → h.task.frames ≢ [] → Apart h → Source h → called (Plain code) h ≡ None → Good (plain code h)
  plain_good codes.Exit h some apart s e = leaves_good h (top_of h).standing _ apart s (λ k value from. result_good k k.job k.task [] None from.job from.task)
  plain_good codes.Retn h some apart s e = retn_good h (top_of h).standing (cells_of h) apart s
  plain_good codes.Entr h some apart s e = entr_good h (top_of h).standing some s e
  plain_good codes.Indx h some apart s e = indx_good h (cells_of h) s
  plain_good codes.Nxlv h some apart s e = nxlv_good h (cells_of h) s
  plain_good codes.Mkst h some apart s e =
      let marked : Frame = record { identity = h.job.next_frame; standing = Marked; cells = [] } in
      result_good h (record h.job { next_frame = h.job.next_frame + 1 }) (record h.task { frames = marked ∷ h.task.frames }) [] None (more h.job s.job) (pushed h.job h.task marked refl s.job s.task)
  plain_good codes.Stod h some apart s e = store_good false h (cells_of h) s
  plain_good codes.Ston h some apart s e = store_good true h (cells_of h) s
  plain_good codes.Load h some apart s e = load_good h (cells_of h) s
  plain_good codes.Nvld h some apart s e = post_err K _
  plain_good codes.Stff h some apart s e = on_cells_good (stff h) h s
  plain_good code h some apart s e = class_good (class code) h tt s

  row_good : (op : Op) (h : OperatorContext) → h.task.frames ≢ [] → Apart h → Source h → called op h ≡ None → Good (row op h)
  row_good (Valc couple) h some apart s e = post_any K (chase h (Name couple)) _ (λ end. evaluates_good h end s)
  row_good (Namc couple) h some apart s e = push_good h _ None s
  row_good (Lt8 n) h some apart s e = push_good h _ None s
  row_good (Lt16 n) h some apart s e = push_good h _ None s
  row_good (Lt48 bits) h some apart s e = push_good h _ None s
  row_good (Mpcw bits) h some apart s e = post_then K _ _ (push_good h _ None s)
  row_good (Brun target) h some apart s e = cells_good (branches h target) _ None (branches_good h _ s)
  row_good (Brtr target) h some apart s e = branch_good true h (cells_of h) target s
  row_good (Brfl target) h some apart s e = branch_good false h (cells_of h) target s
  row_good (Bset n) h some apart s e = on_cells_good (on_one (bset n)) h s
  row_good (Brst n) h some apart s e = on_cells_good (on_one (brst n)) h s
  row_good (Isol high width) h some apart s e = on_cells_good (on_one (isol high width)) h s
  row_good (Insr high width) h some apart s e = on_cells_good (on_two (insr high width)) h s
  row_good (Plain code) h some apart s e = plain_good code h some apart s e

-- an operator of a live task that calls no intrinsic. Of D may be what lies below the next frame and isn't left
pub row_keeps : (D : ℕ → Type 0) (op : Op) (m : SessionJob) (t : Task) (q : Place) → keyed (λ (u : Task). u.number) t.number m.progress.job.tasks ≡ Some t → t.frames ≢ []
    → ((c : ℕ) → D c → c < m.progress.job.next_frame) → ((c : ℕ) → D c → is_critical m.progress.job (top t.frames).identity ≡ false → c ≢ (top t.frames).identity)
    → called op (here m t q) ≡ None → (after : Job) (printed : List Line) (touched : Option ℕ) → row op (here m t q) ≡ Ok (Goes after printed touched)
    → AllSame D t.number m.progress.job.tasks after.tasks × (after.next_task ≡ m.progress.job.next_task) × (after.numbers ≡ m.progress.job.numbers)
row_keeps D op m t q known some low apart e after printed touched is =
    let job = m.progress.job in
    post_at (Keeps D job.tasks t.number job.next_task job.numbers) (row op (here m t q)) (Goes after printed touched) is
    (row_good D job.tasks t known job.next_task job.numbers job.next_frame low op (here m t q) some apart
    (record { job = record { tasks = all_same D t.number job.tasks; next = refl; numbers = refl; up = omega arith }; task = record { profile = refl; from = λ c d. refl } }) e)
