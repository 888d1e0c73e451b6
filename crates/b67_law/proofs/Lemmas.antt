-- Each way in which rows are made keeps the profiles.
use Rattle.std.proofs.Common.{◌≡◌, ℕ, ◌+◌, Bool, true, false, List, [], ◌∷◌, reverse, map, Option, Some, None, Ok, refl, ap, ◌∙◌, arith, subst, Err, sym, ⊎_elim}
use Rattle.std.specs.Prelude.{◌==◌, not, filter}
use Rattle.b67_word.specs.declared.couples.Place.{Place}
use Rattle.b67_model.specs.declared.operators.Op.{Op}
use Rattle.b67_model.specs.declared.operators.Op.TheVariants.{Valc, Namc, Lt8, Lt16, Lt48, Mpcw, Brun, Brtr, Brfl, Bset, Brst, Isol, Insr, Plain}
use Rattle.b67_model.specs.declared.operators.Code.{Code}
use Rattle.b67_model.specs.declared.operators.Code.TheVariants as codes
use Rattle.b67_model.specs.Common.{Answer, ◌>>=◌, same, bset, brst, isol, insr, Word, Operand, Name, operand, Array, Frame, Standing, Marked, Entered, Return, Task, Job, OperatorContext, with_task, below_top, with_top_cells, with_cell_of, End, AtCell, AtElement, AtArray, AtProc, AtIntrinsic, chase, follow, follow_reference, with_number, with_element, Line, Done, Goes, Leaves, Waits, top_of, cells_of, result, with_cells, leaves_cells, pushes, without_arrays_of, accident, needs_level, back_to, evaluates, enters, left, leaves, returnable, returned, retn_word, CellRow, on_one, on_two, on_cells, branches, branch_if, stff, load_at, load, indx, nxlv, store_at, store, entr_at, entr_with, entr, plain, row, called_at, called_by, called_on, called, Class, OnTwo, OnOne, OnCells, Pushes, Idle, Own, class, by_class, indexed, in_order, Value, answered, print}
use Rattle.b67_law.proofs.Classes.{IsCommon}
use Rattle.b67_model.specs.Keyed.{keyed, change_keyed}
use Rattle.b67_law.proofs.Posts.{Post, post_ok, post_err, post_any, post_then, post_at}
use Rattle.b67_law.specs.Profiles.{Profile, profile, profiles, RowsKeepProfiles}
use Rattle.std.proofs.lemmas.Bool.{cases_Bool}
use Rattle.std.proofs.lemmas.Option.{same_Some}
use Rattle.b67_model.specs.Words.{whole}

-- another task of the same profile in a task's place
pub profiles_put : (n : ℕ) (t : Task) (ts : List Task) → keyed (λ (p : Profile). p.number) n (profiles ts) ≡ Some (profile t)
    → profiles (change_keyed (λ (u : Task). u.number) n (λ (u : Task). t) ts) ≡ profiles ts
profiles_put n t [] e = refl
profiles_put n t (u ∷ us) e = grind (arith, profiles_put n t us)

-- a store changes no profile
stored : (identity offset : ℕ) (w : Word) (ts : List Task)
    → profiles (map (λ (t : Task). record t { frames = change_keyed (λ f. f.identity) identity (with_cell_of offset w) t.frames }) ts) ≡ profiles ts
stored identity offset w [] = refl
stored identity offset w (t ∷ ts) = ap (λ (ps : List Profile). profile t ∷ ps) (stored identity offset w ts)

-- a job and its task on the way, from the first ones
module _ (none : Type 0) (first : List Profile) (own : Profile) (known : keyed (λ (p : Profile). p.number) own.number first ≡ Some own) where
  abbrev Keeps : Done → Type 0
  Keeps (Goes after printed touched) = (profiles after.tasks ≡ first) × (none → after.arrays ≡ [])
  Keeps Leaves = Unit {0}
  Keeps (Waits condition) = Unit {0}

  abbrev Good : Answer Done → Type 0
  Good answer = Post Keeps answer

  record Source (h : OperatorContext) : Type 0 where
    pub tasks : profiles h.job.tasks ≡ first
    pub task : profile h.task ≡ own
    pub arrays : none → h.job.arrays ≡ []

  with_good : (job : Job) (task : Task) → profiles job.tasks ≡ first → profile task ≡ own → profiles (with_task job task).tasks ≡ first
  with_good job task tasks same = grind (arith, profiles_put)

  result_good : (h : OperatorContext) (job : Job) (task : Task) (printed : List Line) (touched : Option ℕ) → profiles job.tasks ≡ first → profile task ≡ own → (none → job.arrays ≡ []) → Good (result h job task printed touched)
  result_good h job task printed touched tasks same arrays = post_then Keeps _ _ (post_ok Keeps _ (with_good job task tasks same, arrays))

  cells_good : (h : OperatorContext) (cells : List Word) (touched : Option ℕ) → Source h → Good (leaves_cells h cells touched)
  cells_good h cells touched s = result_good h h.job (with_cells h cells) [] touched s.tasks s.task s.arrays

  on_cells_good : (f : CellRow) (h : OperatorContext) → Source h → Good (on_cells f h)
  on_cells_good f h s = post_any Keeps (f (cells_of h)) _ (λ cells. cells_good h cells None s)

  push_good : (h : OperatorContext) (w : Word) (touched : Option ℕ) → Source h → Good (pushes h w touched)
  push_good h w touched s = cells_good h (w ∷ cells_of h) touched s

  accident_good : (h : OperatorContext) (cells : List Word) (back : Return) (end : End) → Source h → Good (accident h cells back end)
  accident_good h cells back (AtProc f segment level place) s =
      let entered : Frame = record { identity = h.job.next_frame; standing = Entered level f (Some back); cells = [] } in
      post_then Keeps (needs_level h f level) _
      (result_good h (record h.job { next_frame = h.job.next_frame + 1 }) (record h.task { frames = entered ∷ with_top_cells h.task.frames cells; segment = segment; place = place }) [] None s.tasks s.task s.arrays)
  accident_good h cells back (AtCell f offset bits) s = post_err Keeps _
  accident_good h cells back (AtElement a index) s = post_err Keeps _
  accident_good h cells back (AtArray a) s = post_err Keeps _
  accident_good h cells back (AtIntrinsic n) s = post_err Keeps _

  evaluates_good : (h : OperatorContext) (end : End) → Source h → Good (evaluates h end)
  evaluates_good h (AtCell f offset bits) s = cells_good h _ None s
  evaluates_good h (AtElement a index) s = cells_good h _ (Some a) s
  evaluates_good h (AtProc f segment level place) s = accident_good h _ _ (AtProc f segment level place) s
  evaluates_good h (AtArray a) s = post_err Keeps _
  evaluates_good h (AtIntrinsic n) s = post_err Keeps _

  enters_good : (h : OperatorContext) (arguments : List Word) (end : End) → Source h → Good (enters h arguments end)
  enters_good h arguments (AtProc f segment level place) s =
      let entered : Frame = record (top_of h) { standing = Entered level f (Some (back_to h false h.task.place)); cells = reverse arguments } in
      post_then Keeps (needs_level h f level) _ (result_good h h.job (record h.task { frames = entered ∷ below_top h.task.frames; segment = segment; place = place }) [] None s.tasks s.task s.arrays)
  enters_good h arguments (AtCell f offset bits) s = post_err Keeps _
  enters_good h arguments (AtElement a index) s = post_err Keeps _
  enters_good h arguments (AtArray a) s = post_err Keeps _
  enters_good h arguments (AtIntrinsic n) s = post_err Keeps _

  leaves_good : (h : OperatorContext) (standing : Standing) (go : OperatorContext → Bool → Answer Done) → Source h → ((k : OperatorContext) (value : Bool) → Source k → Good (go k value)) → Good (leaves h standing go)
  leaves_good h Marked go s each = post_err Keeps _
  leaves_good h (Entered level environment None) go s each = post_then Keeps _ _ (post_ok Keeps _ tt)
  leaves_good h (Entered level environment (Some back)) go s each =
      post_then Keeps _ _ (each (left h back) back.value
      (record { tasks = with_good (without_arrays_of (top_of h).identity h.job) (record h.task { frames = below_top h.task.frames; segment = back.segment; place = back.place }) s.tasks s.task; task = s.task; arrays = λ n. ap (filter (λ (a : Array). not (a.owner == (top_of h).identity))) (s.arrays n) }))

  returned_good : (h : OperatorContext) (w : Word) (value : Bool) → Source h → Good (returned h w value)
  returned_good h w false s = cells_good h _ None s
  returned_good h (Operand bits) true s = cells_good h _ None s
  returned_good h w true s = post_any Keeps (follow h w) _ (λ end. evaluates_good h end s)

  retn_good : (h : OperatorContext) (standing : Standing) (cells : List Word) → Source h → Good (retn_word h standing cells)
  retn_good h Marked cells s = post_err Keeps _
  retn_good h (Entered level environment back) [] s = post_err Keeps _
  retn_good h (Entered level environment back) (w ∷ cells) s =
      post_any Keeps (returnable h.job (top_of h).identity w) _
      (λ v. leaves_good h (Entered level environment back) (λ after value. returned after v value) s (λ k value from. returned_good k v value from))

  branch_good : (wanted : Bool) (h : OperatorContext) (cells : List Word) (target : Place) → Source h → Good (branch_if wanted h cells target)
  branch_good wanted h [] target s = post_err Keeps _
  branch_good wanted h (a ∷ rest) target s = post_any Keeps (operand a) _ (λ x. cells_good (branches h _) rest None (record { tasks = s.tasks; task = s.task; arrays = s.arrays }))

  load_at_good : (h : OperatorContext) (rest : List Word) (end : End) → Source h → Good (load_at h rest end)
  load_at_good h rest (AtCell f offset bits) s = cells_good h _ None s
  load_at_good h rest (AtElement a index) s = cells_good h _ (Some a) s
  load_at_good h rest (AtArray a) s = cells_good h _ None s
  load_at_good h rest (AtProc f segment level place) s = accident_good h rest _ (AtProc f segment level place) s
  load_at_good h rest (AtIntrinsic n) s = post_err Keeps _

  load_good : (h : OperatorContext) (cells : List Word) → Source h → Good (load h cells)
  load_good h cells s = grind (arith, load_at_good)

  indx_good : (h : OperatorContext) (cells : List Word) → Source h → Good (indx h cells)
  indx_good h cells s = grind (arith, cells_good)

  nxlv_good : (h : OperatorContext) (cells : List Word) → Source h → Good (nxlv h cells)
  nxlv_good h cells s = grind (arith, cells_good)

  store_at_good : (h : OperatorContext) (rest kept : List Word) (bits : ℕ) (end : End) → Source h → Good (store_at h rest kept bits end)
  store_at_good h rest kept bits (AtCell f offset old) s =
      post_ok Keeps _ (stored f offset (Operand bits) (with_task h.job (with_cells h kept)).tasks ∙ with_good h.job (with_cells h kept) s.tasks s.task, s.arrays)
  store_at_good h rest kept bits (AtElement a index) s = post_then Keeps _ _ (result_good h (with_element h.job a index bits) (with_cells h kept) [] (Some a) s.tasks s.task (λ n. ap (change_keyed (λ (b : Array). b.identity) a (with_number index bits)) (s.arrays n)))
  store_at_good h rest kept bits (AtProc f segment level place) s = accident_good h (Operand bits ∷ rest) _ (AtProc f segment level place) s
  store_at_good h rest kept bits (AtArray a) s = post_err Keeps _
  store_at_good h rest kept bits (AtIntrinsic n) s = post_err Keeps _

  store_good : (keeps : Bool) (h : OperatorContext) (cells : List Word) → Source h → Good (store keeps h cells)
  store_good keeps h cells s = grind (arith, store_at_good)

  entr_at_good : (h : OperatorContext) (arguments : List Word) (end : End) → Source h → called_at (Ok end) ≡ None → Good (entr_at h arguments end)
  entr_at_good h arguments (AtProc f segment level place) s e = enters_good h arguments (AtProc f segment level place) s
  entr_at_good h arguments (AtCell f offset bits) s e = post_err Keeps _
  entr_at_good h arguments (AtElement a index) s e = post_err Keeps _
  entr_at_good h arguments (AtArray a) s e = post_err Keeps _
  entr_at_good h arguments (AtIntrinsic n) s e = absurd cc

  entr_end : (h : OperatorContext) (arguments : List Word) (end : Answer End) → Source h → called_at end ≡ None → Good (end >>= entr_at h arguments)
  entr_end h arguments end s e = grind (arith, entr_at_good)

  entr_with_good : (h : OperatorContext) (cells : List Word) → Source h → called_by h cells ≡ None → Good (entr_with h cells)
  entr_with_good h [] s e = post_err Keeps _
  entr_with_good h (r ∷ arguments) s e = entr_end h arguments (follow_reference h r) s e

  entr_good : (h : OperatorContext) (standing : Standing) → Source h → called_on h standing ≡ None → Good (entr h standing)
  entr_good h standing s e = grind (arith, entr_with_good)

  class_good : (c : Class) (h : OperatorContext) → IsCommon c → Source h → Good (by_class c h)
  class_good (OnTwo f) h common s = on_cells_good (on_two f) h s
  class_good (OnOne f) h common s = on_cells_good (on_one f) h s
  class_good (OnCells f) h common s = on_cells_good f h s
  class_good (Pushes n) h common s = push_good h _ None s
  class_good Idle h common s = cells_good h _ None s
  class_good (Own row) h common s = absurd common

  plain_good : (code : Code) (h : OperatorContext) → Source h → called (Plain code) h ≡ None → Good (plain code h)
  plain_good codes.Exit h s e = leaves_good h (top_of h).standing _ s (λ k value from. result_good k k.job k.task [] None from.tasks from.task from.arrays)
  plain_good codes.Retn h s e = retn_good h (top_of h).standing (cells_of h) s
  plain_good codes.Entr h s e = entr_good h (top_of h).standing s e
  plain_good codes.Indx h s e = indx_good h (cells_of h) s
  plain_good codes.Nxlv h s e = nxlv_good h (cells_of h) s
  plain_good codes.Mkst h s e =
      let marked : Frame = record { identity = h.job.next_frame; standing = Marked; cells = [] } in
      result_good h (record h.job { next_frame = h.job.next_frame + 1 }) (record h.task { frames = marked ∷ h.task.frames }) [] None s.tasks s.task s.arrays
  plain_good codes.Stod h s e = store_good false h (cells_of h) s
  plain_good codes.Ston h s e = store_good true h (cells_of h) s
  plain_good codes.Load h s e = load_good h (cells_of h) s
  plain_good codes.Nvld h s e = post_err Keeps _
  plain_good codes.Stff h s e = on_cells_good (stff h) h s
  plain_good code h s e = class_good (class code) h tt s

  row_good : (op : Op) (h : OperatorContext) → Source h → called op h ≡ None → Good (row op h)
  row_good (Valc couple) h s e = post_any Keeps (chase h (Name couple)) _ (λ end. evaluates_good h end s)
  row_good (Namc couple) h s e = push_good h _ None s
  row_good (Lt8 n) h s e = push_good h _ None s
  row_good (Lt16 n) h s e = push_good h _ None s
  row_good (Lt48 bits) h s e = push_good h _ None s
  row_good (Mpcw bits) h s e = post_then Keeps _ _ (push_good h _ None s)
  row_good (Brun target) h s e = cells_good (branches h target) _ None (record { tasks = s.tasks; task = s.task; arrays = s.arrays })
  row_good (Brtr target) h s e = branch_good true h (cells_of h) target s
  row_good (Brfl target) h s e = branch_good false h (cells_of h) target s
  row_good (Bset n) h s e = on_cells_good (on_one (bset n)) h s
  row_good (Brst n) h s e = on_cells_good (on_one (brst n)) h s
  row_good (Isol high width) h s e = on_cells_good (on_one (isol high width)) h s
  row_good (Insr high width) h s e = on_cells_good (on_two (insr high width)) h s
  row_good (Plain code) h s e = plain_good code h s e

abbrev NoArrays : OperatorContext → Type 0
NoArrays h = h.job.arrays ≡ []

pub rows_keep : RowsKeepProfiles
rows_keep op h known e after printed touched is =
    post_at (Keeps (NoArrays h) (profiles h.job.tasks) (profile h.task) known) (row op h) (Goes after printed touched) is
    (row_good (NoArrays h) (profiles h.job.tasks) (profile h.task) known op h (record { tasks = refl; task = refl; arrays = λ n. n }) e)
