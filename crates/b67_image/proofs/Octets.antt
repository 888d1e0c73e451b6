-- What is spelled are bytes.
use Rattle.std.proofs.Common.{◌≡◌, ℕ, zero, suc, ◌<◌, true, ◌&&◌, ◌||◌, List, [], ◌∷◌, ◌++◌, length, arith}
use Rattle.std.specs.Prelude.{nat_lt}
use Rattle.std.specs.Int.{byte_at, bytes_high_first}
use Rattle.std.specs.List.{flat_map, list_all, AllByRecursion}
use Rattle.std.specs.Char.{is_ascii_uppercase, is_ascii_digit}
use Rattle.std.proofs.lemmas.Bool.{and_parts}
use Rattle.std.proofs.lemmas.Bool.Decides.{nat_tests}
use Rattle.std.proofs.lemmas.List.Concat.{flat_map-cons}
use Rattle.b67_model_text.specs.Cards.{is_name}
use Rattle.b67_task.specs.declared.tables.TaskState.{TaskState}
use Rattle.b67_task.specs.declared.tables.TaskState.TheVariants.{Ready, Awaits, WaitsAt}
use Rattle.b67_task.specs.declared.tables.TaskRow.{TaskRow}
use Rattle.b67_task.specs.declared.tables.JobRow.{JobRow}
use Rattle.b67_lemmas.proofs.Joins.{all_by}
use Rattle.b67_image.proofs.Again.{IsByte}
use Rattle.b67_image.specs.Parts.{ImageParts}
use Rattle.b67_image.specs.Spelling.{one_byte, two_bytes, four_bytes, eight_bytes, image_header, listed_bytes, signed_bytes, tagged_bytes, regs_bytes, areas_bytes, counts_bytes, switch_bytes, name_bytes, job_front, job_numbers, job_bytes, state_bytes, task_row_bytes, cpu_bytes, tables_bytes, image_bytes}
use Rattle.b67_image.specs.Within.{IsJob, ArePartsWithin}

abbrev Raw : List ℕ → Type 0
Raw bytes = AllByRecursion IsByte bytes

pub record Are (bytes : List ℕ) : Type 0 where
  pub all : Raw bytes

joined : (xs ys : List ℕ) → Raw xs → Raw ys → Raw (xs ++ ys)
joined [] ys a b = b
joined (x ∷ xs) ys a b = (a.0, joined xs ys a.1 b)

both : (xs ys : List ℕ) → Are xs → Are ys → Are (xs ++ ys)
both xs ys a b = record { all = joined xs ys a.all b.all }

high_first : (k n : ℕ) → Raw (bytes_high_first k n)
high_first zero n = tt
high_first (suc k) n = (at k n, high_first k n)
  where
    at : (k n : ℕ) → byte_at k n < 256
    at zero n = omega arith
    at (suc k) n = omega arith

one : (n : ℕ) → Are (one_byte n)
one n = record { all = high_first 1 n }

two : (n : ℕ) → Are (two_bytes n)
two n = record { all = high_first 2 n }

four : (n : ℕ) → Are (four_bytes n)
four n = record { all = high_first 4 n }

eight : (n : ℕ) → Are (eight_bytes n)
eight n = record { all = high_first 8 n }

many : {X : Type 0} (spell : X → List ℕ) (P : X → Type 0) → ((x : X) → P x → Are (spell x)) → (xs : List X) → AllByRecursion P xs → Are (flat_map spell xs)
many spell P each [] all = record { all = tt }
many spell P each (x ∷ xs) all = rw (flat_map-cons spell x xs) (both (spell x) (flat_map spell xs) (each x all.0) (many spell P each xs all.1))

abbrev Any : {X : Type 0} → X → Type 0
Any x = Unit {0}

any : {X : Type 0} (xs : List X) → AllByRecursion (λ (x : X). Any x) xs
any [] = tt
any (x ∷ xs) = (tt, any xs)

list : {X : Type 0} (spell : X → List ℕ) → ((x : X) → Are (spell x)) → (xs : List X) → Are (listed_bytes spell xs)
list {X} spell each xs = both (four_bytes (length xs)) (flat_map spell xs) (four (length xs)) (many spell (λ (x : X). Any x) (λ x u. each x) xs (any xs))

name_char : (b : ℕ) → (is_ascii_uppercase b || is_ascii_digit b) ≡ true → b < 256
name_char b e = grind (arith, nat_tests)

first_char : (b : ℕ) → is_ascii_uppercase b ≡ true → b < 256
first_char b e = grind (arith, nat_tests)

chars : (xs : List ℕ) → list_all (λ c. is_ascii_uppercase c || is_ascii_digit c) xs ≡ true → Raw xs
chars [] e = tt
chars (x ∷ xs) e = let h = and_parts (is_ascii_uppercase x || is_ascii_digit x) (list_all (λ c. is_ascii_uppercase c || is_ascii_digit c) xs) e in (name_char x h.0, chars xs h.1)

name : (xs : List ℕ) → is_name xs ≡ true → Are xs
name [] e = record { all = tt }
name (b ∷ more) e =
    let outer = and_parts (is_ascii_uppercase b && list_all (λ c. is_ascii_uppercase c || is_ascii_digit c) more) (nat_lt (length more) 16) e in
    let inner = and_parts (is_ascii_uppercase b) (list_all (λ c. is_ascii_uppercase c || is_ascii_digit c) more) outer.0 in
    record { all = (first_char b inner.0, chars more inner.1) }

-- a job whose name is bytes
abbrev pub HasNameBytes : JobRow → Type 0
HasNameBytes j = Are j.name

job : (j : JobRow) → HasNameBytes j → Are (job_bytes j)
job j h =
    both (name_bytes j.name) (job_front j ++ job_numbers j)
    (both (one_byte (length j.name)) j.name (one (length j.name)) h)
    (both (job_front j) (job_numbers j)
    (both (four_bytes j.dict) _ (four j.dict) (both (two_bytes j.segments) _ (two j.segments) (both (two_bytes j.rows) _ (two j.rows) (both (eight_bytes j.limit) _ (eight j.limit) (both (eight_bytes j.made) (four_bytes j.next_task) (eight j.made) (four j.next_task))))))
    (both (listed_bytes signed_bytes j.numbers) (four_bytes j.next_number) (list signed_bytes (λ z. eight _) j.numbers) (four j.next_number)))

state : (s : TaskState) → Are (state_bytes s)
state Ready = both (one_byte 0) _ (one 0) (both (four_bytes 0) (two_bytes 0) (four 0) (two 0))
state (Awaits n) = both (one_byte 1) _ (one 1) (both (four_bytes n) (two_bytes 0) (four n) (two 0))
state (WaitsAt mark offset) = both (one_byte 2) _ (one 2) (both (four_bytes mark) (two_bytes offset) (four mark) (two offset))

row : (r : TaskRow) → Are (task_row_bytes r)
row r =
    both (one_byte r.job) _ (one r.job) (both (four_bytes r.number) _ (four r.number) (both (one_byte r.slot) _ (one r.slot) (both (one_byte r.parent) _ (one r.parent) (both (two_bytes r.critical) _ (two r.critical)
    (both (state_bytes r.state) _ (state r.state) (both (two_bytes r.segment) _ (two r.segment) (both (two_bytes r.place.word) (one_byte r.place.syllable) (two r.place.word) (one r.place.syllable))))))))

pub octets_by : (p : ImageParts) → AllByRecursion HasNameBytes p.jobs → Are (image_bytes p)
unfolding image_bytes
octets_by p h = both (eight_bytes image_header) _ (eight image_header) (both (cpu_bytes p) _ cpu (both (areas_bytes p.areas) _ (both (four_bytes p.areas.size) (four_bytes p.areas.low) (four p.areas.size) (four p.areas.low)) (both (listed_bytes four_bytes p.links) (tables_bytes p) (list four_bytes four p.links) tables)))
  where
    regs : Are (regs_bytes p.regs)
    regs =
        both (four_bytes p.regs.s) _ (four p.regs.s) (both (four_bytes p.regs.f) _ (four p.regs.f) (both (four_bytes p.regs.bosr) _ (four p.regs.bosr) (both (four_bytes p.regs.losr) _ (four p.regs.losr)
        (both (one_byte p.regs.slot) _ (one p.regs.slot) (both (one_byte p.regs.level) _ (one p.regs.level) (both (two_bytes p.regs.segment) _ (two p.regs.segment)
        (both (two_bytes p.regs.place.word ++ one_byte p.regs.place.syllable) _ (both (two_bytes p.regs.place.word) (one_byte p.regs.place.syllable) (two p.regs.place.word) (one p.regs.place.syllable))
        (both (four_bytes p.regs.dict) _ (four p.regs.dict) (both (two_bytes p.regs.entries) _ (two p.regs.entries) (both (four_bytes p.regs.stacks) _ (four p.regs.stacks) (both (two_bytes p.regs.stack_size) (one_byte p.regs.peak) (two p.regs.stack_size) (one p.regs.peak))))))))))))

    cpu : Are (cpu_bytes p)
    cpu =
        both (listed_bytes tagged_bytes p.core) _ (list tagged_bytes (λ w. eight _) p.core) (both (regs_bytes p.regs) _ regs
        (both (flat_map four_bytes p.display) (flat_map two_bytes p.critical) (many four_bytes (λ (n : ℕ). Any n) (λ n u. four n) p.display (any p.display)) (many two_bytes (λ (n : ℕ). Any n) (λ n u. two n) p.critical (any p.critical))))

    counts : Are (counts_bytes p.counts)
    counts =
        both (four_bytes p.counts.quantum) _ (four p.counts.quantum) (both (eight_bytes p.counts.made) _ (eight p.counts.made) (both (four_bytes p.counts.turn) _ (four p.counts.turn) (both (one_byte p.counts.last_job) _ (one p.counts.last_job)
        (both (four_bytes p.counts.last_number) _ (four p.counts.last_number) (both (one_byte p.counts.running) (four_bytes p.counts.next_switch) (one p.counts.running) (four p.counts.next_switch))))))

    tables : Are (tables_bytes p)
    tables =
        both (counts_bytes p.counts) _ counts (both (listed_bytes switch_bytes p.switches) _ (list switch_bytes (λ w. both (eight_bytes w.count) _ (eight w.count) (both (one_byte w.job) (four_bytes w.task) (one w.job) (four w.task))) p.switches)
        (both (listed_bytes job_bytes p.jobs) (listed_bytes task_row_bytes p.rows) (both (four_bytes (length p.jobs)) (flat_map job_bytes p.jobs) (four (length p.jobs)) (many job_bytes HasNameBytes job p.jobs h)) (list task_row_bytes row p.rows)))

pub octets : (p : ImageParts) → ArePartsWithin p → Are (image_bytes p)
octets p h = octets_by p (all_by IsJob HasNameBytes (λ j own. name j.name own.name) p.jobs h.jobs.each)
