-- Identities only grow, and the next number of a task by one at most: a law of all rows, by one rule for each way in which rows are made.
use Rattle.std.proofs.Common.{◌≡◌, ℕ, ◌+◌, ◌≤◌, Bool, true, false, ℤ, pos, negsuc, List, [], ◌∷◌, reverse, Option, Some, None, refl, arith}
use Rattle.b67_word.specs.declared.couples.Place.{Place}
use Rattle.b67_model.specs.declared.operators.Op.{Op}
use Rattle.b67_model.specs.declared.operators.Op.TheVariants.{Valc, Brun, Brtr, Brfl, Plain}
use Rattle.b67_model.specs.declared.operators.Code.{Code}
use Rattle.b67_model.specs.declared.operators.Code.TheVariants.{Exit, Indx, Retn, Entr, Nxlv, Mkst, Stod, Ston, Load}
use Rattle.b67_model.specs.Common.{Answer, Word, Operand, Standing, Marked, Entered, Return, Task, Job, OperatorContext, End, AtCell, AtElement, AtArray, AtProc, AtIntrinsic, follow, Line, Done, Goes, Leaves, Waits, top_of, cells_of, result, with_cells, leaves_cells, pushes, mkst, accident, evaluates, enters, left, leaves, exit, returnable, returned, retn_word, answers, arraydec, print, printrow, read, starts, process, awaits, await, status, waits_at, wait, causes, cause, deallocate, resize, intrinsic, CellRow, on_cells, branch_if, valc, load_at, load, indx, nxlv, store_at, store, entr_at, entr_with, entr, plain, row}
use Rattle.b67_law.proofs.Posts.{Post, post_any, post_err, post_if, post_ok, post_then}

-- what the law says of a step
pub record Grown (before after : Job) : Type 0 where
  pub frames : before.next_frame ≤ after.next_frame
  pub arrays : before.next_array ≤ after.next_array
  pub tasks : before.next_task ≤ after.next_task
  pub one : after.next_task ≤ before.next_task + 1

-- of a step's job
abbrev pub Keeps : Job → Done → Type 0
Keeps job (Goes after printed touched) = Grown job after
Keeps job Leaves = Unit {0}
Keeps job (Waits condition) = Unit {0}

abbrev pub Good : OperatorContext → Answer Done → Type 0
Good h answer = Post (Keeps h.job) answer

result_good : (h : OperatorContext) (k : OperatorContext) (job : Job) (task : Task) (printed : List Line) (touched : Option ℕ) → Grown h.job job → Good h (result k job task printed touched)
result_good h k job task printed touched kept = post_then (Keeps h.job) _ _ (post_ok (Keeps h.job) _ (record { frames = kept.frames; arrays = kept.arrays; tasks = kept.tasks; one = kept.one }))

same : (job : Job) → Grown job job
same job = record { frames = omega arith; arrays = omega arith; tasks = omega arith; one = omega arith }

cells_good : (h k : OperatorContext) (cells : List Word) (touched : Option ℕ) → Grown h.job k.job → Good h (leaves_cells k cells touched)
cells_good h k cells touched kept = result_good h k k.job (with_cells k cells) [] touched kept

-- all rows on cells at once
on_cells_good : (f : CellRow) (h : OperatorContext) → Good h (on_cells f h)
on_cells_good f h = post_any (Keeps h.job) (f (cells_of h)) _ (λ cells. cells_good h h cells None (same h.job))

push_good : (h : OperatorContext) (w : Word) (touched : Option ℕ) → Good h (pushes h w touched)
push_good h w touched = cells_good h h (w ∷ cells_of h) touched (same h.job)

accident_good : (h k : OperatorContext) (cells : List Word) (back : Return) (end : End) → Grown h.job k.job → Good h (accident k cells back end)
accident_good h k cells back end kept = grind arith

evaluates_good : (h k : OperatorContext) (end : End) → Grown h.job k.job → Good h (evaluates k end)
evaluates_good h k end kept = grind arith

enters_good : (h : OperatorContext) (arguments : List Word) (end : End) → Good h (enters h arguments end)
enters_good h arguments end = grind arith

leaves_good : (h : OperatorContext) (standing : Standing) (go : OperatorContext → Bool → Answer Done) → ((k : OperatorContext) (value : Bool) → Grown h.job k.job → Good h (go k value)) → Good h (leaves h standing go)
leaves_good h standing go each = grind arith

returned_good : (h k : OperatorContext) (w : Word) (value : Bool) → Grown h.job k.job → Good h (returned k w value)
returned_good h k w false kept = cells_good h k _ None kept
returned_good h k (Operand bits) true kept = cells_good h k _ None kept
returned_good h k w true kept = post_any (Keeps h.job) (follow k w) _ (λ end. evaluates_good h k end kept)

retn_good : (h : OperatorContext) (standing : Standing) (cells : List Word) → Good h (retn_word h standing cells)
retn_good h Marked cells = post_err (Keeps h.job) _
retn_good h (Entered level environment back) [] = post_err (Keeps h.job) _
retn_good h (Entered level environment back) (w ∷ cells) =
    post_any (Keeps h.job) (returnable h.job (top_of h).identity w) _
    (λ v. leaves_good h (Entered level environment back) (λ after value. returned after v value) (λ k value kept. returned_good h k v value kept))

grown_not : (job after : Job) → after.next_frame ≡ job.next_frame → after.next_array ≡ job.next_array → after.next_task ≡ job.next_task → Grown job after
grown_not job after f a t = record { frames = omega (arith, f); arrays = omega (arith, a); tasks = omega (arith, t); one = omega (arith, t) }

grown_array : (job after : Job) → after.next_frame ≡ job.next_frame → after.next_array ≡ job.next_array + 1 → after.next_task ≡ job.next_task → Grown job after
grown_array job after f a t = record { frames = omega (arith, f); arrays = omega (arith, a); tasks = omega (arith, t); one = omega (arith, t) }

grown_task : (job after : Job) → after.next_frame ≡ job.next_frame + 1 → after.next_array ≡ job.next_array → after.next_task ≡ job.next_task + 1 → Grown job after
grown_task job after f a t = record { frames = omega (arith, f); arrays = omega (arith, a); tasks = omega (arith, t); one = omega (arith, t) }

ruleset steps_rules = (refl, grown_not, grown_array, grown_task, post_if, post_then, post_any, post_ok, post_err, result_good, cells_good, on_cells_good, push_good, accident_good, evaluates_good, enters_good, leaves_good, returned_good, retn_good, same)

mkst_good : (h : OperatorContext) → Good h (mkst h)
mkst_good h = let up : Grown h.job (record h.job { next_frame = h.job.next_frame + 1 }) = record { frames = omega arith; arrays = omega arith; tasks = omega arith; one = omega arith } in search (steps_rules, up)

exit_good : (h : OperatorContext) → Good h (exit h)
exit_good h = leaves_good h (top_of h).standing _ (λ k value kept. result_good h k k.job k.task [] None kept)

branch_good : (wanted : Bool) (h : OperatorContext) (cells : List Word) (target : Place) → Good h (branch_if wanted h cells target)
branch_good wanted h cells target = grind arith

valc_good : (h : OperatorContext) (couple : ℕ) → Good h (valc h couple)
valc_good h couple = search steps_rules

load_at_good : (h : OperatorContext) (rest : List Word) (end : End) → Good h (load_at h rest end)
load_at_good h rest end = grind arith

load_good : (h : OperatorContext) (cells : List Word) → Good h (load h cells)
load_good h cells = grind (arith, load_at_good)

indx_good : (h : OperatorContext) (cells : List Word) → Good h (indx h cells)
indx_good h cells = grind arith

nxlv_good : (h : OperatorContext) (cells : List Word) → Good h (nxlv h cells)
nxlv_good h cells = grind arith

store_at_good : (h : OperatorContext) (rest kept : List Word) (bits : ℕ) (end : End) → Good h (store_at h rest kept bits end)
store_at_good h rest kept bits end = grind arith

store_good : (keeps : Bool) (h : OperatorContext) (cells : List Word) → Good h (store keeps h cells)
store_good keeps h cells = grind (arith, store_at_good)

answers_good : (h : OperatorContext) (job : Job) (words : List Word) (printed : List Line) (touched : Option ℕ) → Grown h.job job → Good h (answers h job words printed touched)
answers_good h job words printed touched kept = search steps_rules

starts_good : (h : OperatorContext) (words : List Word) (end : End) → Good h (starts h words end)
starts_good h words (AtProc f segment level place) = search (steps_rules, answers_good)
starts_good h words (AtCell f offset bits) = search steps_rules
starts_good h words (AtElement a index) = search steps_rules
starts_good h words (AtArray a) = search steps_rules
starts_good h words (AtIntrinsic n) = search steps_rules

arraydec_good : (h : OperatorContext) (arguments : List Word) → Good h (arraydec h arguments)
arraydec_good h arguments = grind arith

print_good : (h : OperatorContext) (arguments : List Word) → Good h (print h arguments)
print_good h arguments = grind arith

read_good : (h : OperatorContext) (arguments : List Word) → Good h (read h arguments)
read_good h arguments = grind arith

process_good : (h : OperatorContext) (arguments : List Word) → Good h (process h arguments)
process_good h arguments = grind (arith, starts_good)

printrow_good : (h : OperatorContext) (arguments : List Word) → Good h (printrow h arguments)
printrow_good h arguments = grind arith

awaits_good : (h : OperatorContext) (n : ℤ) → Good h (awaits h n)
awaits_good h n = grind arith

await_good : (h : OperatorContext) (arguments : List Word) → Good h (await h arguments)
await_good h arguments = grind arith

status_good : (h : OperatorContext) (arguments : List Word) → Good h (status h arguments)
status_good h arguments = grind arith

waits_at_good : (h : OperatorContext) (end : End) → Good h (waits_at h end)
waits_at_good h end = grind arith

wait_good : (h : OperatorContext) (arguments : List Word) → Good h (wait h arguments)
wait_good h arguments = grind arith

causes_good : (h : OperatorContext) (end : End) → Good h (causes h end)
causes_good h end = grind arith

cause_good : (h : OperatorContext) (arguments : List Word) → Good h (cause h arguments)
cause_good h arguments = grind arith

deallocate_good : (h : OperatorContext) (arguments : List Word) → Good h (deallocate h arguments)
deallocate_good h arguments = grind arith

resize_good : (h : OperatorContext) (arguments : List Word) → Good h (resize h arguments)
resize_good h arguments = grind arith

intrinsic_good : (n : ℕ) (h : OperatorContext) (arguments : List Word) → Good h (intrinsic n h arguments)
intrinsic_good n h arguments = search (steps_rules, arraydec_good, print_good, printrow_good, read_good, process_good, await_good, status_good, wait_good, cause_good, deallocate_good, resize_good) depth 17

entr_at_good : (h : OperatorContext) (arguments : List Word) (end : End) → Good h (entr_at h arguments end)
entr_at_good h arguments end = grind (arith, intrinsic_good)

entr_with_good : (h : OperatorContext) (cells : List Word) → Good h (entr_with h cells)
entr_with_good h cells = grind (arith, entr_at_good)

entr_good : (h : OperatorContext) (standing : Standing) → Good h (entr h standing)
entr_good h standing = grind (arith, entr_with_good)

plain_good : (code : Code) (h : OperatorContext) → Good h (plain code h)
plain_good Exit h = exit_good h
plain_good Indx h = indx_good h (cells_of h)
plain_good Retn h = retn_good h (top_of h).standing (cells_of h)
plain_good Entr h = entr_good h (top_of h).standing
plain_good Nxlv h = nxlv_good h (cells_of h)
plain_good Mkst h = mkst_good h
plain_good Stod h = store_good false h (cells_of h)
plain_good Ston h = store_good true h (cells_of h)
plain_good Load h = load_good h (cells_of h)
plain_good code h = search steps_rules

pub row_good : (op : Op) (h : OperatorContext) → Good h (row op h)
row_good (Valc couple) h = valc_good h couple
row_good (Brun target) h = search steps_rules
row_good (Brtr target) h = branch_good true h (cells_of h) target
row_good (Brfl target) h = branch_good false h (cells_of h) target
row_good (Plain code) h = plain_good code h
row_good op h = search steps_rules
