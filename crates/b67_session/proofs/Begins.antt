-- The first operator of a turn, alone or with others behind it.
use Rattle.std.proofs.Common.{◌≡◌, ◌≢◌, List, [], ◌∷◌, ◌++◌, length, ℕ, ◌+◌, ◌-◌, ◌≤◌, refl, sym, ◌∙◌, subst, arith, inl, inr}
use Rattle.std.proofs.lemmas.Bool.{cases_lt}
use Rattle.std.proofs.lemmas.List.{length-append}
use Rattle.b67_stack.specs.declared.Cpu.{Cpu}
use Rattle.b67_stack.specs.declared.Step.{Step}
use Rattle.b67_stack.specs.declared.Step.TheVariants.{Done}
use Rattle.b67_exec.specs.Near.{StopsHere}
use Rattle.b67_task.specs.declared.tables.Machine.{Machine}
use Rattle.b67_task.specs.Runs.{RunsTask}
use Rattle.b67_session.specs.Makes.{MakesOne, MakesEach}
use Rattle.b67_session.specs.InTurn.{BeginsWith, SaysWhyFewer}

pub begins_none : (made : ℕ) (k : Machine) → made ≡ 0 → BeginsWith made k k
begins_none made k e = record { none = λ z. refl; one = λ z. absurd (omega (arith, e, z)); between = []; count = sym e; each = refl }

pub begins_as : (made other : ℕ) (old new : Machine) → other ≡ made → BeginsWith made old new → BeginsWith other old new
begins_as made other old new e b = subst (λ (n : ℕ). BeginsWith n old new) (sym e) b

pub begins_same : (made : ℕ) (old now new : Machine) → new ≡ now → BeginsWith made old now → BeginsWith made old new
begins_same made old now new same b = subst (λ (k : Machine). BeginsWith made old k) (sym same) b

-- one operator more, where a try before it changed nothing
pub begins_more : (made more : ℕ) (old now tried new : Machine) → more ≡ made + 1 → tried ≡ now → MakesOne tried new → BeginsWith made old now → BeginsWith more old new
begins_more made more old now tried new e same h b = record {
  none = λ z. absurd (omega (arith, e, z));
  one = λ z. let first : tried ≡ old = same ∙ b.none (omega (arith, e, z)) in subst (λ (k : Machine). MakesOne k new) first h;
  between = now ∷ b.between;
  count = let few = b.count in omega (arith, few, e);
  each = (subst (λ (k : Machine). MakesOne k new) same h, b.each);
}

each_then : (ys xs : List Machine) (old now new : Machine) → MakesEach xs old now → MakesEach ys now new → MakesEach (ys ++ xs) old new
each_then [] xs old now new h same = subst (MakesEach xs old) (sym same) h
each_then (k ∷ ys) xs old now new h (one, more) = (one, each_then ys xs old now k h more)

-- two parts of a turn
pub begins_then : (made more : ℕ) (old now new : Machine) → BeginsWith made old now → BeginsWith more now new → BeginsWith (made + more) old new
begins_then made more old now new b c = record {
  none = λ z. c.none (omega (arith, z)) ∙ b.none (omega (arith, z));
  one = λ z. elim (cases_lt 0 made) [
    | inl some ↦ subst (λ (k : Machine). MakesOne old k) (sym (c.none (omega (arith, z, some)))) (b.one (omega (arith, z, some)))
    | inr none ↦ subst (λ (k : Machine). MakesOne k new) (b.none (omega (arith, none))) (c.one (omega (arith, z, none)))
  ];
  between = c.between ++ b.between;
  count = let few = b.count in let others = c.count in omega (arith, length-append c.between b.between, few, others);
  each = each_then c.between b.between old now new b.each c.each;
}

-- a task runs before each operator of a turn: before the first one, and then while the turn lasts
pub begins_runs : (most left : ℕ) (old now : Machine) → 1 ≤ left → left ≤ most → BeginsWith (most - left) old now → RunsTask old → (2 ≤ most → RunsTask now) → RunsTask now
begins_runs most left old now some few b runs later = elim (cases_lt 1 most) [
  | inl two ↦ later (omega (arith, two))
  | inr one ↦ subst RunsTask (sym (b.none (omega (arith, one, some, few)))) runs
]

-- a reason other than the one before is that of the operator at the running place
pub why_here : (asked made : ℕ) (cpu : Cpu) (before after : Step) → made ≤ asked → before ≡ Done → SaysWhyFewer asked made cpu before after → after ≢ Done → StopsHere cpu after
why_here asked made cpu before after few done says other = grind arith
