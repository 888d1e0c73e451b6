-- No row but NVLD's faults INVALID OPERATOR, and MPCW's at a literal that the loader refuses.
use Rattle.std.proofs.Common.{◌≡◌, ◌≢◌, ℕ, zero, suc, ℤ, ◌+ℤ◌, ◌*ℤ◌, neg_ℤ, Bool, true, false, cond, List, [], ◌∷◌, length, Option, None, Ok, Err, refl, inl, arith}
use Rattle.std.specs.Prelude.{int_div, int_rem}
use Rattle.b67_word.specs.declared.couples.Place.{Place}
use Rattle.b67_word.specs.declared.faults.Fault.{Fault}
use Rattle.b67_word.specs.declared.faults.Fault.TheVariants.{InvalidOperator, InvalidOperand, InvalidAddress, InvalidIndex, Loop, Exponent, IntegerOverflow, DivideByZero, MemoryProtect, MarkPending, Uplevel, CriticalBlock, StackUnderflow, StackOverflow}
use Rattle.b67_model.specs.declared.operators.Op.TheVariants.{Valc, Namc, Lt8, Lt16, Lt48, Mpcw, Brun, Brtr, Brfl, Bset, Brst, Isol, Insr, Plain}
use Rattle.b67_model.specs.declared.operators.Code.{Code}
use Rattle.b67_model.specs.declared.operators.Code.TheVariants as codes
use Rattle.b67_model.specs.Common.{Answer, ◌>>=◌, ◌>>◌, needs, Word, Operand, Name, Ref, Row, Element, operand, number, to_operand, Standing, Marked, Entered, Task, Job, OperatorContext, place_of, End, AtCell, AtElement, AtArray, AtProc, AtIntrinsic, Link, Stops, Leads, element_end, link_from, link, chase_on, chase, follow, follow_reference, array, array_at, array_of, index_below, indexed, Binary, on_numbers, compared, divided, bset, brst, isol, insr, Line, Done, top_of, cells_of, result, with_cells, leaves_cells, pushes, evaluates, enters, leaves, exit, returnable, returned, retn_word, answers, array_length, arraydec, print, row_copy, numbers_of, printrow, read, starts, process, awaits, await, status, waits_at, wait, causes, cause, deallocate, resize, intrinsic, CellRow, on_one, on_two, dlet, exch, dupl, on_cells, branches, branch_if, valc, stff, load_at, load, indx, nxlv, store_at, store, entr_at, entr_with, entr, plain, Class, OnTwo, OnOne, OnCells, Pushes, Idle, Own, class, by_class}
use Rattle.b67_law.proofs.Classes.{IsOnOperands}
use Rattle.b67_model.specs.Words as Words
use Rattle.b67_model.specs.Words.{whole}
use Rattle.b67_law.specs.Faults.{InvalidOperatorIsNvld}
use Rattle.b67_model.specs.declared.limits.TheConstants.{MOST_LINKS}

-- any answer but that fault
abbrev Apart : {A : Type 0} → Answer A → Type 0
Apart (Ok x) = Unit {0}
Apart (Err fault) = fault ≢ InvalidOperator

pub record Other {A : Type 0} (a : Answer A) : Type 0 where
  pub by : Apart a

o_ok : {A : Type 0} (x : A) → Other (Ok x)
o_ok x = record { by = tt }

o_err : {A : Type 0} (fault : Fault) → fault ≢ InvalidOperator → Other {A = A} (Err fault)
o_err fault ne = record { by = ne }

o_bind : {A B : Type 0} (a : Answer A) (go : A → Answer B) → Other a → ((x : A) → Other (go x)) → Other (a >>= go)
o_bind a go first each = grind arith

o_then : {B : Type 0} (test : Bool) (fault : Fault) (rest : Answer B) → fault ≢ InvalidOperator → Other rest → Other (needs test fault >> rest)
o_then test fault rest ne holds = grind arith

o_if : {A : Type 0} (test : Bool) (a b : Answer A) → Other a → Other b → Other (cond test a b)
o_if test a b x y = grind arith

operand_ne : InvalidOperand ≢ InvalidOperator
operand_ne e = cc

address_ne : InvalidAddress ≢ InvalidOperator
address_ne e = cc

index_ne : InvalidIndex ≢ InvalidOperator
index_ne e = cc

loop_ne : Loop ≢ InvalidOperator
loop_ne e = cc

exponent_ne : Exponent ≢ InvalidOperator
exponent_ne e = cc

overflow_ne : IntegerOverflow ≢ InvalidOperator
overflow_ne e = cc

zero_ne : DivideByZero ≢ InvalidOperator
zero_ne e = cc

protect_ne : MemoryProtect ≢ InvalidOperator
protect_ne e = cc

pending_ne : MarkPending ≢ InvalidOperator
pending_ne e = cc

uplevel_ne : Uplevel ≢ InvalidOperator
uplevel_ne e = cc

critical_ne : CriticalBlock ≢ InvalidOperator
critical_ne e = cc

under_ne : StackUnderflow ≢ InvalidOperator
under_ne e = cc

over_ne : StackOverflow ≢ InvalidOperator
over_ne e = cc

ruleset other = (o_ok, o_err, o_bind, o_then, o_if, operand_ne, address_ne, index_ne, loop_ne, exponent_ne, overflow_ne, zero_ne, protect_ne, pending_ne, uplevel_ne, critical_ne, under_ne, over_ne)

operand_o : (w : Word) → Other (operand w)
operand_o w = grind arith

number_o : (bits : ℕ) → Other (number bits)
number_o bits = search other

whole_o : (w : Word) → Other (whole w)
whole_o w = o_bind (operand w) _ (operand_o w) number_o

to_operand_o : (v : ℤ) → Other (to_operand v)
to_operand_o v = search other

numbers_o : (f : ℤ → ℤ → Answer ℤ) → ((x y : ℤ) → Other (f x y)) → (a b : ℕ) → Other (on_numbers f a b)
numbers_o f each a b = o_bind (number a) _ (number_o a) (λ x. o_bind (number b) _ (number_o b) (λ y. o_bind (f x y) _ (each x y) to_operand_o))

compared_o : (test : ℤ → ℤ → Bool) (a b : ℕ) → Other (compared test a b)
compared_o test a b = o_bind (number a) _ (number_o a) (λ x. o_bind (number b) _ (number_o b) (λ y. o_ok _))

divided_o : (f : ℤ → ℤ → ℤ) (x y : ℤ) → Other (divided f x y)
divided_o f x y = search other

one_o : (f : ℕ → Answer ℕ) → ((x : ℕ) → Other (f x)) → (cells : List Word) → Other (on_one f cells)
one_o f each cells = grind arith

two_o : (f : Binary) → ((x y : ℕ) → Other (f x y)) → (cells : List Word) → Other (on_two f cells)
two_o f each cells = grind arith

dlet_o : (cells : List Word) → Other (dlet cells)
dlet_o cells = grind arith

exch_o : (cells : List Word) → Other (exch cells)
exch_o cells = grind arith

dupl_o : (cells : List Word) → Other (dupl cells)
dupl_o cells = grind arith

place_o : (h : OperatorContext) (w : Word) → Other (place_of h w)
place_o h w = grind arith

abbrev LinkOther : Link → Type 0
LinkOther (Stops end) = Other end
LinkOther (Leads w) = Unit {0}

element_o : (h : OperatorContext) (a index : ℕ) → Other (element_end h a index)
element_o h a index = o_if _ _ _ (o_ok _) (o_err _ index_ne)

from_o : (h : OperatorContext) (a : Answer (ℕ × ℕ)) → Other a → LinkOther (link_from h a)
from_o h a g = grind arith

links_o : (h : OperatorContext) (links : ℕ) (l : Link) → LinkOther l → Other (chase_on h links l)
links_o h links (Stops end) g = g
links_o h zero (Leads w) g = o_err _ loop_ne
links_o h (suc links) (Leads w) g = links_o h links (link h w) (from_o h (place_of h w) (place_o h w))

chase_o : (h : OperatorContext) (w : Word) → Other (chase h w)
chase_o h w = links_o h MOST_LINKS (Leads w) tt

follow_o : (h : OperatorContext) (w : Word) → Other (follow h w)
follow_o h (Name couple) = chase_o h (Name couple)
follow_o h (Ref f offset) = chase_o h (Ref f offset)
follow_o h (Element a index) = element_o h a index
follow_o h w = o_err _ operand_ne

reference_o : (h : OperatorContext) (w : Word) → Other (follow_reference h w)
reference_o h (Name couple) = chase_o h (Name couple)
reference_o h (Ref f offset) = chase_o h (Ref f offset)
reference_o h w = o_err _ operand_ne

array_at_o : (end : End) → Other (array_at end)
array_at_o end = grind arith

array_of_o : (h : OperatorContext) (w : Word) → Other (array_of h w)
array_of_o h (Row a) = o_ok a
array_of_o h (Name couple) = o_bind (chase h (Name couple)) _ (chase_o h (Name couple)) array_at_o
array_of_o h (Ref f offset) = o_bind (chase h (Ref f offset)) _ (chase_o h (Ref f offset)) array_at_o
array_of_o h w = o_err _ operand_ne

index_o : (len : ℕ) (n : ℤ) → Other (index_below len n)
index_o len n = grind arith

indexed_o : (h : OperatorContext) (r i : Word) → Other (indexed h r i)
indexed_o h r i = o_bind (operand i) _ (operand_o i) (λ bits. o_bind (array_of h r) _ (array_of_o h r) (λ a. o_bind (number bits) _ (number_o bits) (λ n. o_bind (index_below (length (array h.job a).numbers) n) _ (index_o (length (array h.job a).numbers) n) (λ index. o_ok _))))

result_o : (h : OperatorContext) (job : Job) (task : Task) (printed : List Line) (touched : Option ℕ) → Other (result h job task printed touched)
result_o h job task printed touched = search other

on_cells_o : (f : CellRow) (h : OperatorContext) → Other (f (cells_of h)) → Other (on_cells f h)
on_cells_o f h g = o_bind (f (cells_of h)) _ g (λ cells. result_o h h.job (with_cells h cells) [] None)

ruleset steps = (other, result_o, on_cells_o, chase_o, follow_o, reference_o, operand_o, number_o, whole_o, indexed_o)

evaluates_o : (h : OperatorContext) (end : End) → Other (evaluates h end)
evaluates_o h end = grind arith

enters_o : (h : OperatorContext) (arguments : List Word) (end : End) → Other (enters h arguments end)
enters_o h arguments end = grind arith

leaves_o : (h : OperatorContext) (standing : Standing) (go : OperatorContext → Bool → Answer Done) → ((k : OperatorContext) (value : Bool) → Other (go k value)) → Other (leaves h standing go)
leaves_o h standing go each = grind arith

returned_o : (h : OperatorContext) (w : Word) (value : Bool) → Other (returned h w value)
returned_o h w false = search steps
returned_o h (Operand bits) true = search steps
returned_o h w true = o_bind (follow h w) _ (follow_o h w) (λ end. evaluates_o h end)

returnable_o : (job : Job) (n : ℕ) (w : Word) → Other (returnable job n w)
returnable_o job n w = grind arith

retn_o : (h : OperatorContext) (standing : Standing) (cells : List Word) → Other (retn_word h standing cells)
retn_o h Marked cells = o_err _ pending_ne
retn_o h (Entered level environment back) [] = o_err _ under_ne
retn_o h (Entered level environment back) (w ∷ cells) = o_bind (returnable h.job (top_of h).identity w) _ (returnable_o h.job (top_of h).identity w) (λ v. leaves_o h (Entered level environment back) (λ after value. returned after v value) (λ k value. returned_o k v value))

exit_o : (h : OperatorContext) → Other (exit h)
exit_o h = leaves_o h (top_of h).standing _ (λ k value. result_o k k.job k.task [] None)

branch_o : (wanted : Bool) (h : OperatorContext) (cells : List Word) (target : Place) → Other (branch_if wanted h cells target)
branch_o wanted h cells target = grind arith

stff_o : (h : OperatorContext) (cells : List Word) → Other (stff h cells)
stff_o h cells = grind arith

load_at_o : (h : OperatorContext) (rest : List Word) (end : End) → Other (load_at h rest end)
load_at_o h rest end = grind arith

load_o : (h : OperatorContext) (cells : List Word) → Other (load h cells)
load_o h cells = grind (arith, follow_o, load_at_o)

indx_o : (h : OperatorContext) (cells : List Word) → Other (indx h cells)
indx_o h [] = o_err _ under_ne
indx_o h (b ∷ []) = o_err _ under_ne
indx_o h (b ∷ a ∷ rest) = search steps

nxlv_o : (h : OperatorContext) (cells : List Word) → Other (nxlv h cells)
nxlv_o h [] = o_err _ under_ne
nxlv_o h (b ∷ []) = o_err _ under_ne
nxlv_o h (b ∷ a ∷ rest) = search steps

store_at_o : (h : OperatorContext) (rest kept : List Word) (bits : ℕ) (end : End) → Other (store_at h rest kept bits end)
store_at_o h rest kept bits end = grind arith

store_o : (keeps : Bool) (h : OperatorContext) (cells : List Word) → Other (store keeps h cells)
store_o keeps h cells = grind (arith, follow_o, store_at_o)

answers_o : (h : OperatorContext) (job : Job) (words : List Word) (printed : List Line) (touched : Option ℕ) → Other (answers h job words printed touched)
answers_o h job words printed touched = search steps

length_o : (n : ℤ) → Other (array_length n)
length_o n = grind arith

row_o : (w : Word) → Other (row_copy w)
row_o w = grind arith

numbers_of_o : (xs : List ℕ) → Other (numbers_of xs)
numbers_of_o [] = o_ok _
numbers_of_o (bits ∷ more) = o_bind (number bits) _ (number_o bits) (λ n. o_bind (numbers_of more) _ (numbers_of_o more) (λ ns. o_ok _))

ruleset calls = (steps, answers_o, length_o, row_o, numbers_of_o)

arraydec_o : (h : OperatorContext) (arguments : List Word) → Other (arraydec h arguments)
arraydec_o h arguments = grind arith

print_o : (h : OperatorContext) (arguments : List Word) → Other (print h arguments)
print_o h arguments = grind arith

printrow_o : (h : OperatorContext) (arguments : List Word) → Other (printrow h arguments)
printrow_o h [] = o_err _ operand_ne
printrow_o h (w ∷ []) = search calls depth 8
printrow_o h (w ∷ v ∷ more) = o_err _ operand_ne

read_o : (h : OperatorContext) (arguments : List Word) → Other (read h arguments)
read_o h arguments = grind arith

starts_o : (h : OperatorContext) (words : List Word) (end : End) → Other (starts h words end)
starts_o h words (AtProc f segment level place) = search calls depth 8
starts_o h words (AtCell f offset bits) = o_err _ operand_ne
starts_o h words (AtElement a index) = o_err _ operand_ne
starts_o h words (AtArray a) = o_err _ operand_ne
starts_o h words (AtIntrinsic n) = o_err _ operand_ne

process_o : (h : OperatorContext) (arguments : List Word) → Other (process h arguments)
process_o h [] = o_err _ operand_ne
process_o h (r ∷ words) = search (calls, starts_o) depth 8

awaits_o : (h : OperatorContext) (n : ℤ) → Other (awaits h n)
awaits_o h n = grind arith

await_o : (h : OperatorContext) (arguments : List Word) → Other (await h arguments)
await_o h arguments = grind (arith, awaits_o)

status_o : (h : OperatorContext) (arguments : List Word) → Other (status h arguments)
status_o h arguments = grind arith

waits_at_o : (h : OperatorContext) (end : End) → Other (waits_at h end)
waits_at_o h end = grind arith

wait_o : (h : OperatorContext) (arguments : List Word) → Other (wait h arguments)
wait_o h [] = o_err _ operand_ne
wait_o h (w ∷ []) = search (calls, waits_at_o)
wait_o h (w ∷ v ∷ more) = o_err _ operand_ne

causes_o : (h : OperatorContext) (end : End) → Other (causes h end)
causes_o h end = grind arith

cause_o : (h : OperatorContext) (arguments : List Word) → Other (cause h arguments)
cause_o h [] = o_err _ operand_ne
cause_o h (w ∷ []) = search (calls, causes_o)
cause_o h (w ∷ v ∷ more) = o_err _ operand_ne

deallocate_o : (h : OperatorContext) (arguments : List Word) → Other (deallocate h arguments)
deallocate_o h arguments = grind arith

resize_o : (h : OperatorContext) (arguments : List Word) → Other (resize h arguments)
resize_o h [] = o_err _ operand_ne
resize_o h (r ∷ []) = o_err _ operand_ne
resize_o h (r ∷ w ∷ []) = search calls depth 10
resize_o h (r ∷ w ∷ v ∷ more) = o_err _ operand_ne

intrinsic_o : (n : ℕ) (h : OperatorContext) (arguments : List Word) → Other (intrinsic n h arguments)
intrinsic_o n h arguments = search (other, arraydec_o, print_o, printrow_o, read_o, process_o, await_o, status_o, wait_o, cause_o, deallocate_o, resize_o) depth 17

entr_at_o : (h : OperatorContext) (arguments : List Word) (end : End) → Other (entr_at h arguments end)
entr_at_o h arguments (AtIntrinsic n) = intrinsic_o n h arguments
entr_at_o h arguments (AtProc f segment level place) = enters_o h arguments (AtProc f segment level place)
entr_at_o h arguments (AtCell f offset bits) = o_err _ operand_ne
entr_at_o h arguments (AtElement a index) = o_err _ operand_ne
entr_at_o h arguments (AtArray a) = o_err _ operand_ne

entr_with_o : (h : OperatorContext) (cells : List Word) → Other (entr_with h cells)
entr_with_o h cells = grind (arith, reference_o, entr_at_o)

entr_o : (h : OperatorContext) (standing : Standing) → Other (entr h standing)
entr_o h standing = grind (arith, entr_with_o)

one_at : (h : OperatorContext) (f : ℕ → Answer ℕ) → ((x : ℕ) → Other (f x)) → Other (on_cells (on_one f) h)
one_at h f each = on_cells_o (on_one f) h (one_o f each (cells_of h))

two_at : (h : OperatorContext) (f : Binary) → ((x y : ℕ) → Other (f x y)) → Other (on_cells (on_two f) h)
two_at h f each = on_cells_o (on_two f) h (two_o f each (cells_of h))

-- what an operator of the class makes of operands faults otherwise
abbrev ClassOther : Class → Type 0
ClassOther (OnTwo f) = (x y : ℕ) → Other (f x y)
ClassOther (OnOne f) = (x : ℕ) → Other (f x)
ClassOther _ = Unit {0}

operands_o : (code : Code) → ClassOther (class code)
operands_o codes.Add = numbers_o (λ x y. Ok (x +ℤ y)) (λ x y. o_ok _)
operands_o codes.Subt = numbers_o (λ x y. Ok (x +ℤ neg_ℤ y)) (λ x y. o_ok _)
operands_o codes.Mult = numbers_o (λ x y. Ok (x *ℤ y)) (λ x y. o_ok _)
operands_o codes.Idiv = numbers_o (divided int_div) (divided_o int_div)
operands_o codes.Rdiv = numbers_o (divided int_rem) (divided_o int_rem)
operands_o codes.Less = compared_o _
operands_o codes.Greq = compared_o _
operands_o codes.Grtr = compared_o _
operands_o codes.Lseq = compared_o _
operands_o codes.Equl = compared_o _
operands_o codes.Neql = compared_o _
operands_o codes.Chsn = λ x. o_bind (number x) _ (number_o x) (λ v. o_ok _)
operands_o codes.Land = λ x y. o_ok _
operands_o codes.Lor = λ x y. o_ok _
operands_o codes.Leqv = λ x y. o_ok _
operands_o codes.Lnot = λ x. o_ok _
operands_o codes.Same = λ x y. o_ok _
operands_o _ = tt

class_o : (c : Class) (h : OperatorContext) → ClassOther c → IsOnOperands c → Other (by_class c h)
class_o (OnTwo f) h each common = two_at h f each
class_o (OnOne f) h each common = one_at h f each
class_o (OnCells f) h each common = absurd common
class_o (Pushes n) h each common = search steps
class_o Idle h each common = search steps
class_o (Own row) h each common = absurd common

plain_o : (code : Code) (h : OperatorContext) → code ≢ codes.Nvld → Other (plain code h)
plain_o codes.Exit h ne = exit_o h
plain_o codes.Indx h ne = indx_o h (cells_of h)
plain_o codes.Retn h ne = retn_o h (top_of h).standing (cells_of h)
plain_o codes.Entr h ne = entr_o h (top_of h).standing
plain_o codes.Nxlv h ne = nxlv_o h (cells_of h)
plain_o codes.Stff h ne = on_cells_o (stff h) h (stff_o h (cells_of h))
plain_o codes.Dlet h ne = on_cells_o dlet h (dlet_o (cells_of h))
plain_o codes.Exch h ne = on_cells_o exch h (exch_o (cells_of h))
plain_o codes.Dupl h ne = on_cells_o dupl h (dupl_o (cells_of h))
plain_o codes.Stod h ne = store_o false h (cells_of h)
plain_o codes.Ston h ne = store_o true h (cells_of h)
plain_o codes.Load h ne = load_o h (cells_of h)
plain_o codes.Mkst h ne = search steps
plain_o codes.Nvld h ne = absurd (ne refl)
plain_o code h ne = class_o (class code) h (operands_o code) tt

never : {A : Type 0} (a : Answer A) → Other a → a ≡ Err InvalidOperator → ⊥
never a g e = grind arith

pub invalid_operator_is_nvld : InvalidOperatorIsNvld
invalid_operator_is_nvld (Plain codes.Nvld) h e = inl refl
invalid_operator_is_nvld (Plain code) h e = absurd (never (plain code h) (plain_o code h (λ s. cc)) e)
invalid_operator_is_nvld (Mpcw bits) h e = grind arith
invalid_operator_is_nvld (Valc couple) h e = absurd (never (valc h couple) (o_bind (chase h (Name couple)) _ (chase_o h (Name couple)) (λ end. evaluates_o h end)) e)
invalid_operator_is_nvld (Namc couple) h e = absurd (never (pushes h (Name couple) None) (search steps) e)
invalid_operator_is_nvld (Lt8 n) h e = absurd (never (pushes h (Operand n) None) (search steps) e)
invalid_operator_is_nvld (Lt16 n) h e = absurd (never (pushes h (Operand n) None) (search steps) e)
invalid_operator_is_nvld (Lt48 n) h e = absurd (never (pushes h (Operand n) None) (search steps) e)
invalid_operator_is_nvld (Brun target) h e = absurd (never (leaves_cells (branches h target) (cells_of h) None) (search steps) e)
invalid_operator_is_nvld (Brtr target) h e = absurd (never (branch_if true h (cells_of h) target) (branch_o true h (cells_of h) target) e)
invalid_operator_is_nvld (Brfl target) h e = absurd (never (branch_if false h (cells_of h) target) (branch_o false h (cells_of h) target) e)
invalid_operator_is_nvld (Bset n) h e = absurd (never (on_cells (on_one (bset n)) h) (one_at h (bset n) (λ x. search other)) e)
invalid_operator_is_nvld (Brst n) h e = absurd (never (on_cells (on_one (brst n)) h) (one_at h (brst n) (λ x. search other)) e)
invalid_operator_is_nvld (Isol high width) h e = absurd (never (on_cells (on_one (isol high width)) h) (one_at h (isol high width) (λ x. search other)) e)
invalid_operator_is_nvld (Insr high width) h e = absurd (never (on_cells (on_two (insr high width)) h) (two_at h (insr high width) (λ x y. search other)) e)
