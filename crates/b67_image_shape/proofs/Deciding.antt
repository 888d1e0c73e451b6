-- Tests of lists and numbers decide.
use Rattle.std.proofs.Common.{◌≡◌, ◌≢◌, ℕ, ◌+◌, ◌<◌, ◌≤◌, ◌==◌, Bool, true, false, List, [], ◌∷◌, refl, sym, subst, inl, inr, lt-ltb, le-leb, eq-eqb, eqb-true}
use Rattle.std.specs.Prelude.{◌&&◌, ◌||◌, not, nat_lt, nat_le, ◌⊎◌}
use Rattle.std.specs.Bool.{OnTrue, OnFalse}
use Rattle.std.specs.List.{AllByRecursion, list_all, list_any}
use Rattle.std.proofs.lemmas.Bool.{ltb-true, leb-true}
use Rattle.std.proofs.lemmas.Bool.Decides.{Decides-and, Decides-or, Decides-not, Decides-like}
use Rattle.b67_lemmas.specs.Lists.{Has}
use Rattle.b67_layout.specs.Rows.{JobRow}
use Rattle.b67_image_shape.specs.Deciding.{Decides}
use Rattle.b67_image_shape.specs.TableFacts.{EachJob}
use Rattle.b67_image_shape.specs.TableTests.{jobs_pass}
use Rattle.std.proofs.Common.{arith}

pub same_number : (a b : ℕ) → Decides (a == b) (a ≡ b)
same_number a b = (eqb-true a b, eq-eqb a b)

pub other_number : (a b : ℕ) → Decides (not (a == b)) (a ≢ b)
other_number a b = Decides-not (a == b) (same_number a b)

pub less : (a b : ℕ) → Decides (nat_lt a b) (a < b)
less a b = (ltb-true a b, lt-ltb a b)

pub at_most : (a b : ℕ) → Decides (nat_le a b) (a ≤ b)
at_most a b = (leb-true a b, le-leb a b)

pub both : {P Q : Type 0} (x y : Bool) → Decides x P → Decides y Q → Decides (x && y) (P × Q)
both x y d e = Decides-and x y d e

pub like : {P Q : Type 0} (x : Bool) → (P → Q) → (Q → P) → Decides x P → Decides x Q
like x f g d = Decides-like x f g d

-- the last test of several is the answer
pub on_true : {P Q : Type 0} (b : Bool) → (P → Q) → OnTrue b P → OnTrue b Q
on_true b f h = grind arith

pub on_false : {P Q : Type 0} (b : Bool) → (P → Q) → OnFalse b P → OnFalse b Q
on_false b f h = grind arith

pub yes : {P : Type 0} → P → Decides true P
yes p = (λ e. p, λ q. refl)

pub nothing : {P : Type 0} → (P → ⊥) → Decides false P
nothing n = (λ e. absurd (let z : ⊥ = cc in z), λ p. absurd (n p))

pub each : {A : Type 0} (test : A → Bool) (P : A → Type 0) → ((x : A) → Decides (test x) (P x)) → (xs : List A) → Decides (list_all test xs) (AllByRecursion P xs)
each test P d [] = (λ e. tt, λ h. refl)
each test P d (x ∷ xs) = both (test x) (list_all test xs) (d x) (each test P d xs)

pub some : {A : Type 0} (test : A → Bool) (P : A → Type 0) → ((x : A) → Decides (test x) (P x)) → (xs : List A) → Decides (list_any test xs) ((x : A) × Has xs x × P x)
some test P d [] = (λ e. absurd (let z : ⊥ = cc in z), λ (x, h, p). absurd h)
some {A} test P d (x ∷ xs) = grind (arith, like, Decides-or, some test P d xs)

pub each_job : (test : ℕ → JobRow → Bool) (P : ℕ → JobRow → Type 0) → ((j : ℕ) (row : JobRow) → Decides (test j row) (P j row)) → (j : ℕ) (rows : List JobRow) → Decides (jobs_pass test j rows) (EachJob P j rows)
each_job test P d j [] = (λ e. tt, λ h. refl)
each_job test P d j (row ∷ more) = both (test j row) (jobs_pass test (j + 1) more) (d j row) (each_job test P d (j + 1) more)
