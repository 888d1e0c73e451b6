-- Tasks in order of their jobs and numbers.
use Rattle.std.proofs.Common.{◌≡◌, ℕ, ◌+◌, ◌-◌, ◌^◌, ◌%◌, ◌<◌, ◌≤◌, nat_lt, Bool, true, false, refl, ◌∙◌, arith}
use Rattle.std.proofs.lemmas.Bool.{true≢false}
use Rattle.std.proofs.lemmas.Bool.Decides.{nat_tests}
use Rattle.b67_model.specs.Schedule.{Who, is_same, is_before}
use Rattle.b67_task.specs.Chosen.{in_circle, is_sooner, place_of, FitsTypes, IsDistance}

pub before_job : (a b : Who) → a.job < b.job → is_before a b ≡ true
before_job a b h = grind (arith, nat_tests)

pub before_task : (a b : Who) → a.job ≡ b.job → a.task < b.task → is_before a b ≡ true
before_task a b e h = grind (arith, nat_tests)

pub never_sooner : (last a : Who) → is_sooner last a a ≡ false
never_sooner last a = grind (arith, nat_tests)

not_before : (a b c : Who) → is_before a b ≡ false → is_before b c ≡ false → is_before a c ≡ false
not_before a b c h k = grind (arith, nat_tests)

not_in_circle : (x y z ab bc ac : Bool) → (ab ≡ false → bc ≡ false → ac ≡ false) → in_circle x y ab ≡ false → in_circle y z bc ≡ false → in_circle x z ac ≡ false
not_in_circle x y z ab bc ac t h k = grind arith

pub not_sooner : (last a b c : Who) → is_sooner last a b ≡ false → is_sooner last b c ≡ false → is_sooner last a c ≡ false
not_sooner last a b c = not_in_circle (is_before last a) (is_before last b) (is_before last c) (is_before a b) (is_before b c) (is_before a c) (not_before a b c)

-- of a task that isn't sooner than this one: both come after the last one; neither does
pub after_too : (last a b : Who) → is_before last a ≡ true → is_before last b ≡ true → is_sooner last a b ≡ false → is_before a b ≡ false
after_too last a b h k q = let t : is_before a b ≡ false = rw (h, k) at q in t

pub after_neither : (last a b : Who) → is_before last b ≡ false → is_sooner last a b ≡ false → is_before last a ≡ false
after_neither last a b k q = grind arith

pub before_neither : (last a b : Who) → is_before last b ≡ false → is_sooner last a b ≡ false → is_before a b ≡ false
before_neither last a b k q = grind arith

before_is : (a b : Who) → FitsTypes a → FitsTypes b → is_before a b ≡ nat_lt (place_of a) (place_of b)
before_is a b h k = grind (arith, nat_tests, h.job, h.task, k.job, k.task)

-- places in the circle behind a place, by how far they stand behind it
ahead : (l a m : ℕ) → l < 2 ^ 40 → a < 2 ^ 40 → m ≡ (a + (2 ^ 64 - (l + 1))) % 2 ^ 64 → l < a → m + l + 1 ≡ a
ahead l a m p q e h = omega arith

around : (l a m : ℕ) → l < 2 ^ 40 → a < 2 ^ 40 → m ≡ (a + (2 ^ 64 - (l + 1))) % 2 ^ 64 → a ≤ l → m + l + 1 ≡ a + 2 ^ 64
around l a m p q e h = omega arith

places_in_circle : (l a b m n : ℕ) → l < 2 ^ 40 → a < 2 ^ 40 → b < 2 ^ 40 → m ≡ (a + (2 ^ 64 - (l + 1))) % 2 ^ 64 → n ≡ (b + (2 ^ 64 - (l + 1))) % 2 ^ 64 → m ≤ n
    → in_circle (nat_lt l b) (nat_lt l a) (nat_lt b a) ≡ false
places_in_circle l a b m n p q r e f le = grind arith

-- whoever isn't nearer doesn't come sooner
pub no_sooner : (last a b : Who) (m n : ℕ) → IsDistance last a m → IsDistance last b n → m ≤ n → is_sooner last b a ≡ false
no_sooner last a b m n h k le = grind (arith, before_is, places_in_circle)

-- nobody comes before the task of the next number
not_between : (x y before : Bool) → y ≡ true → (x ≡ true → before ≡ false) → in_circle x y before ≡ false
not_between x y before e h = grind arith

behind_both : (last a : Who) → is_before last a ≡ true → is_before a (record { job = last.job; task = last.task + 1 }) ≡ false
behind_both last a h = grind (arith, nat_tests, h)

pub none_sooner : (last a : Who) → is_sooner last a (record { job = last.job; task = last.task + 1 }) ≡ false
none_sooner last a =
    let next : Who = record { job = last.job; task = last.task + 1 } in
    not_between (is_before last a) (is_before last next) (is_before a next) (before_task last next refl (omega arith)) (behind_both last a)

pub same_is : (a b : Who) → is_same a b ≡ true → a ≡ b
same_is a b h = grind arith

pub is_self : (a : Who) → is_same a a ≡ true
is_self a = grind (arith, nat_tests)
