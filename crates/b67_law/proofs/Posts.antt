-- What holds of an answer's value, by the ways in which answers are made.
use Rattle.std.proofs.Common.{◌≡◌, refl, subst, Bool, true, false, Ok, Err, cond, arith}
use Rattle.b67_word.specs.declared.faults.Fault.{Fault}
use Rattle.b67_model.specs.Answers.{Answer, ◌>>=◌, ◌>>◌, needs}

-- the fact of an answer's value
abbrev pub of_value : {A : Type 0} → (A → Type 0) → Answer A → Type 0
of_value P (Ok x) = P x
of_value P (Err fault) = Unit {0}

pub record Post {A : Type 0} (P : A → Type 0) (a : Answer A) : Type 0 where
  pub by : of_value P a

pub post_ok : {A : Type 0} (P : A → Type 0) (x : A) → P x → Post P (Ok x)
post_ok P x holds = record { by = holds }

pub post_err : {A : Type 0} (P : A → Type 0) (fault : Fault) → Post P (Err fault)
post_err P fault = record { by = tt }

-- a value that meets a fact of its own leads on
pub post_bind : {A B : Type 0} (Q : A → Type 0) (P : B → Type 0) (a : Answer A) (go : A → Answer B) → Post Q a → ((x : A) → Q x → Post P (go x)) → Post P (a >>= go)
post_bind Q P a go first each = grind arith

pub post_any : {A B : Type 0} (P : B → Type 0) (a : Answer A) (go : A → Answer B) → ((x : A) → Post P (go x)) → Post P (a >>= go)
post_any P a go each = grind arith

pub post_then : {B : Type 0} (P : B → Type 0) (a : Answer (Unit {0})) (rest : Answer B) → Post P rest → Post P (a >> rest)
post_then P a rest holds = grind arith

-- a test that a row needs holds from there on
pub post_needs : {B : Type 0} (P : B → Type 0) (test : Bool) (fault : Fault) (rest : Answer B) → (test ≡ true → Post P rest) → Post P (needs test fault >> rest)
post_needs P test fault rest holds = grind arith

pub post_if : {A : Type 0} (P : A → Type 0) (test : Bool) (a b : Answer A) → Post P a → Post P b → Post P (cond test a b)
post_if P test a b x y = grind arith

pub post_if_is : {A : Type 0} (P : A → Type 0) (test : Bool) (a b : Answer A) → (test ≡ true → Post P a) → (test ≡ false → Post P b) → Post P (cond test a b)
post_if_is P test a b x y = grind arith

pub post_more : {A : Type 0} (P Q : A → Type 0) (a : Answer A) → ((x : A) → P x → Q x) → Post P a → Post Q a
post_more P Q a more holds = grind arith

pub post_both : {A : Type 0} (P Q : A → Type 0) (a : Answer A) → Post P a → Post Q a → Post (λ x. P x × Q x) a
post_both P Q a p q = grind arith

-- the value with the equation that gives it
pub post_is : {A : Type 0} (a : Answer A) → Post (λ x. a ≡ Ok x) a
post_is a = grind arith

pub post_at : {A : Type 0} (P : A → Type 0) (a : Answer A) (x : A) → a ≡ Ok x → Post P a → P x
post_at P a x e g = let there : Post P (Ok x) = subst (Post P) e g in there.by

pub post_any_at : {A : Type 0} {P : A → Type 0} (a : Answer A) → ((x : A) → P x) → Post P a
post_any_at a each = grind arith
