-- Sessions with other numbers: what they share.
use Rattle.std.proofs.Common.{◌≡◌, ℕ, List, [], ◌∷◌, Option, Some, None, refl, sym, ◌∙◌, ap, subst, arith}
use Rattle.b67_model.specs.Common.{Task, SessionJob, number_of}
use Rattle.b67_model.specs.Keyed.{keyed}
use Rattle.b67_law.specs.Weaker.{OtherNumbers, AllOtherNumbers}
use Rattle.b67_law.proofs.Sessions.{recoded_count}
use Rattle.b67_layout.specs.Common.{Placement, slot_of, IsRunning}
use Rattle.b67_layout.proofs.Alike.{Alike, AllAlike}

pub other_alike : (m n : SessionJob) → OtherNumbers m n → Alike m n
other_alike m n h = grind (arith, recoded_count)

pub others_alike : (ms ns : List SessionJob) → AllOtherNumbers ms ns → AllAlike ms ns
others_alike [] [] h = tt
others_alike (m ∷ ms) (n ∷ ns) h = (other_alike m n h.0, others_alike ms ns h.1)
others_alike [] (n ∷ ns) h = absurd h
others_alike (m ∷ ms) [] h = absurd h

abbrev OtherOption : Option SessionJob → Option SessionJob → Type 0
OtherOption None None = Unit {0}
OtherOption (Some m) (Some n) = OtherNumbers m n
OtherOption _ _ = ⊥

others_keyed : (j : ℕ) (ms ns : List SessionJob) → AllOtherNumbers ms ns → OtherOption (keyed number_of j ms) (keyed number_of j ns)
others_keyed j [] [] e = tt
others_keyed j (m ∷ ms) (n ∷ ns) e = grind (arith, others_keyed j ms ns e.1)
others_keyed j [] (n ∷ ns) e = absurd e
others_keyed j (m ∷ ms) [] e = absurd e

-- the running task runs in the other session too
pub record RunsOther (plan : Placement) (ns : List SessionJob) (m : SessionJob) (t : Task) : Type 0 where
  pub member : SessionJob
  pub other : OtherNumbers m member
  pub runs : IsRunning plan ns member t

pub others_running : (plan : Placement) (ms ns : List SessionJob) → AllOtherNumbers ms ns → (m : SessionJob) (t : Task) → IsRunning plan ms m t → RunsOther plan ns m t
others_running plan ms ns e m t r = by (keyed number_of m.constants.number ns) refl
    (let S : Option SessionJob → Type 0 = λ o. OtherOption o (keyed number_of m.constants.number ns) in subst S r.member (others_keyed m.constants.number ms ns e))
  where
    by : (o : Option SessionJob) → keyed number_of m.constants.number ns ≡ o → OtherOption (Some m) o → RunsOther plan ns m t
    by None at k = absurd k
    by (Some n) at k = let a = other_alike m n k in record {
      member = n;
      other = k;
      runs = record {
        member = ap (λ (i : ℕ). keyed number_of i ns) a.number ∙ at;
        task = ap (λ (ts : List Task). keyed (λ (u : Task). u.number) t.number ts) a.tasks ∙ r.task;
        slot = r.slot ∙ ap (λ (i : ℕ). slot_of plan i t.number) (sym a.number);
      };
    }
