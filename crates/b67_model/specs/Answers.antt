-- An answer is a value or a fault, and answers follow each other until the first fault.
use Rattle.std.specs.Prelude.{Bool, true, false, Result, Ok, Err, ⊤}
use Rattle.b67_word.specs.declared.faults.Fault.{Fault}

abbrev pub Answer : Type 0 → Type 0
Answer A = Result A Fault

-- goes on with the value
infixl 10 ◌>>=◌
abbrev pub ◌>>=◌ : {A B R : Type 0} → Result A R → (A → Result B R) → Result B R
Ok a >>= go = go a
Err why >>= go = Err why

infixl 10 ◌>>◌
abbrev pub ◌>>◌ : {B R : Type 0} → Result ⊤ R → Result B R → Result B R
Ok a >> rest = rest
Err why >> rest = Err why

-- nothing where the test holds, else the fault
abbrev pub needs : Bool → Fault → Answer ⊤
needs true fault = Ok tt
needs false fault = Err fault
