-- What rows make of the words that are read.
use Rattle.std.proofs.Common.{◌≡◌, ◌≢◌, ℕ, ◌+◌, ◌-◌, ◌≤◌, length, List, [], ◌∷◌, ◌++◌, Result, Ok, Err, None, refl, sym, ◌∙◌, ap, arith, true, false, subst, ◌==◌}
use Rattle.std.proofs.lemmas.Bool.{eq-eqb, ne_eqb}
use Rattle.b67_word.specs.Tagged.{Tagged, word}
use Rattle.b67_word.specs.declared.couples.Place.{Place}
use Rattle.b67_word.specs.declared.faults.Fault.{Fault}
use Rattle.b67_word.specs.declared.faults.Fault.TheVariants.{StackUnderflow, InvalidOperand}
use Rattle.b67_model.specs.Common.{Answer, ◌>>=◌, Word, Operand, operand, Frame, Array, Task, Job, SessionJob, top, Starts, IsSegment, Known, outer_of, FramesInOrder, WordInOrder, Binary, Done, leaves_cells, is_original, Session, CellRow, on_one, on_two, on_cells, dlet, dupl}
use Rattle.b67_layout.specs.Common.{IsInOrderButCounts, Placement, IsRunning, here, IsMade, Meets, RunsSome, IsWordOf, cells, GivesTop}
use Rattle.b67_arith.specs.OnWords.{operand_bits, on_word, on_words}
use Rattle.b67_stack.specs.declared.Cpu.{Cpu}
use Rattle.b67_stack.specs.declared.Step.{Step}
use Rattle.b67_stack.specs.Represents.{Storage}
use Rattle.b67_layout.proofs.Fresh.{running_in_order}
use Rattle.b67_exec_cells.specs.Tops.{GivesTwo, MayStand, NoOriginals}
use Rattle.b67_exec_cells.proofs.Put.{room}

-- the bits of a word are those of the cell, if that is an operand
module _ (x : Storage) (plan : Placement) (m : SessionJob) (t : Task) (at : ℕ) (v : Tagged) where
  pub operand_seen : (w : Word) → IsWordOf x plan m t w at v → operand_bits v ≡ operand w
  operand_seen w f = grind arith

-- what an answer on words says of the row
abbrev pub SaysOne : (ℕ → Answer ℕ) → Word → Result Tagged Fault → Type 0
SaysOne f a (Ok w) = (z : ℕ) × (w ≡ word 0 z) × (is_original a ≡ false) × ((rest : List Word) → on_one f (a ∷ rest) ≡ Ok (Operand z ∷ rest))
SaysOne f a (Err fault) = (rest : List Word) → on_one f (a ∷ rest) ≡ Err fault

abbrev pub SaysTwo : Binary → Word → Word → Result Tagged Fault → Type 0
SaysTwo f a b (Ok w) = (z : ℕ) × (w ≡ word 0 z) × (is_original a ≡ false) × (is_original b ≡ false) × ((rest : List Word) → on_two f (b ∷ a ∷ rest) ≡ Ok (Operand z ∷ rest))
SaysTwo f a b (Err fault) = (rest : List Word) → on_two f (b ∷ a ∷ rest) ≡ Err fault

one_by : (f : ℕ → Answer ℕ) (a : Word) (oa : Answer ℕ) → operand a ≡ oa → SaysOne f a (oa >>= λ x. f x >>= λ z. Ok (word 0 z))
one_by f a oa e = grind arith

two_by : (f : Binary) (a b : Word) (oa ob : Answer ℕ) → operand a ≡ oa → operand b ≡ ob → SaysTwo f a b (oa >>= λ x. ob >>= λ y. f x y >>= λ z. Ok (word 0 z))
two_by f a b oa ob ea eb = grind arith

pub says_one : (f : ℕ → Answer ℕ) (a : Word) (u : Tagged) (r : Result Tagged Fault) → operand_bits u ≡ operand a → r ≡ on_word f u → SaysOne f a r
says_one f a u r e is = let P : Result Tagged Fault → Type 0 = λ q. SaysOne f a q in subst P (sym is) (one_by f a (operand_bits u) (sym e))

pub says_two : (f : Binary) (a b : Word) (u v : Tagged) (r : Result Tagged Fault) → operand_bits u ≡ operand a → operand_bits v ≡ operand b → r ≡ on_words f u v → SaysTwo f a b r
says_two f a b u v r ea eb is = let P : Result Tagged Fault → Type 0 = λ q. SaysTwo f a b q in subst P (sym is) (two_by f a b (operand_bits u) (operand_bits v) (sym ea) (sym eb))

-- the top activation record begins below S
pub marked : (cpu : Cpu) → RunsSome cpu → cpu.regs.f + 0 ≤ cpu.regs.s
marked cpu q = let r = (room q.storage cpu q.plan q.session q.member q.task q.ordered q.stands q.running).top in omega (arith, r)

-- the words of the top cells are in order
in_order : (P : Starts) (arrays : List Array) (outer : List Known) (fs : List Frame) (a : Word) (rest : List Word) → FramesInOrder P arrays outer fs → (top fs).cells ≡ a ∷ rest
    → (reach : List Known) × (owner : ℕ) × WordInOrder P arrays reach owner a
in_order P arrays outer fs a rest o e = grind arith

may_stand : (P : Starts) (job : Job) (reach : List Known) (owner : ℕ) (w : Word) → WordInOrder P job.arrays reach owner w → is_original w ≡ false → MayStand job w
may_stand P job reach owner w o n = grind arith

-- the top cell may be put on the stack again
pub top_may_stand : (plan : Placement) (s : Session) (m : SessionJob) (t : Task) → IsInOrderButCounts s → IsRunning plan s.jobs m t → (a : Word) (rest : List Word) → cells t ≡ a ∷ rest → is_original a ≡ false → MayStand m.progress.job a
top_may_stand plan s m t ordered runs a rest e n =
    let o = in_order (IsSegment m.constants) m.progress.job.arrays (outer_of m.progress.job t) t.frames a rest (running_in_order plan s m t ordered runs).1.frames e in
    may_stand (IsSegment m.constants) m.progress.job o.0 o.1 a o.2 n

-- so may the two top ones
two_in_order : (P : Starts) (arrays : List Array) (outer : List Known) (fs : List Frame) (b a : Word) (rest : List Word) → FramesInOrder P arrays outer fs → (top fs).cells ≡ b ∷ a ∷ rest
    → (reach : List Known) × (owner : ℕ) × WordInOrder P arrays reach owner a
two_in_order P arrays outer fs b a rest o e = grind arith

pub two_may_stand : (plan : Placement) (s : Session) (m : SessionJob) (t : Task) → IsInOrderButCounts s → IsRunning plan s.jobs m t → (b a : Word) (rest : List Word) → cells t ≡ b ∷ a ∷ rest → is_original b ≡ false → is_original a ≡ false
    → MayStand m.progress.job a × MayStand m.progress.job b
two_may_stand plan s m t ordered runs b a rest e nb na =
    let o = two_in_order (IsSegment m.constants) m.progress.job.arrays (outer_of m.progress.job t) t.frames b a rest (running_in_order plan s m t ordered runs).1.frames e in
    (may_stand (IsSegment m.constants) m.progress.job o.0 o.1 a o.2 na, top_may_stand plan s m t ordered runs b (a ∷ rest) e nb)

-- the bits of no operand
pub no_operand : (x : Storage) (plan : Placement) (m : SessionJob) (t : Task) (w : Word) (at : ℕ) (v : Tagged) → IsWordOf x plan m t w at v → v.tag ≢ 0 → operand w ≡ Err InvalidOperand
no_operand x plan m t w at v f ne = sym (operand_seen x plan m t at v w f) ∙ (let e : (v.tag == 0) ≡ false = ne_eqb v.tag 0 ne in rw e refl)

pub an_operand : (x : Storage) (plan : Placement) (m : SessionJob) (t : Task) (w : Word) (at : ℕ) (v : Tagged) → IsWordOf x plan m t w at v → v.tag ≡ 0 → operand w ≡ Ok v.bits
an_operand x plan m t w at v f e = sym (operand_seen x plan m t at v w f) ∙ (let q : (v.tag == 0) ≡ true = eq-eqb v.tag 0 e in rw q refl)

-- where a word stands matters for originals alone
pub elsewhere : (x : Storage) (plan : Placement) (m : SessionJob) (t : Task) (w : Word) (at other : ℕ) (v : Tagged) → is_original w ≡ false → IsWordOf x plan m t w at v → IsWordOf x plan m t w other v
elsewhere x plan m t w at other v n f = grind arith

module _ (x : Storage) (old : Cpu) (plan : Placement) (s : Session) (m : SessionJob) (t : Task) (q : Place) where
  -- what a row on cells goes on with
  goes : Answer (List Word) → Answer Done
  goes answer = answer >>= λ cs. leaves_cells (here m t q) cs None

  -- too few cells
  pub top_missing : (f : CellRow) (fault : Fault) → f [] ≡ Err StackUnderflow → GivesTop x plan m t old (cells t) (Err fault) → on_cells f (here m t q) ≡ Err fault
  top_missing f fault none given = grind arith

  pub two_missing : (f : CellRow) (fault : Fault) → f [] ≡ Err StackUnderflow → ((b : Word) → f (b ∷ []) ≡ Err StackUnderflow) → GivesTwo x plan m t old (cells t) (Err fault) → on_cells f (here m t q) ≡ Err fault
  two_missing f fault none one given = grind arith

  -- what `replace_cells` says of a word
  abbrev pub Replaces : ℕ → Tagged → Step → Cpu → Type 0
  Replaces count w r new = (gone rest : List Word) (v : Word) → cells t ≡ gone ++ rest → length gone ≡ count → NoOriginals gone → MayStand m.progress.job v → IsWordOf x plan m t v (old.regs.s - count + 1) w
      → Meets x plan s m r old new (leaves_cells (here m t q) (v ∷ rest) None)

  -- and `drop_cells`
  abbrev pub Drops : ℕ → Cpu → Type 0
  Drops count new = (gone rest : List Word) → cells t ≡ gone ++ rest → length gone ≡ count → NoOriginals gone → IsMade x plan s m old new (leaves_cells (here m t q) rest None)

  module _ (r : Step) (new : Cpu) where
    met : (answer other : Answer (List Word)) → answer ≡ other → Meets x plan s m r old new (other >>= λ cs. leaves_cells (here m t q) cs None) → Meets x plan s m r old new (answer >>= λ cs. leaves_cells (here m t q) cs None)
    met answer other e h = let P : Answer (List Word) → Type 0 = λ an. Meets x plan s m r old new (an >>= λ cs. leaves_cells (here m t q) cs None) in subst P (sym e) h

    pub one_done : (f : ℕ → Answer ℕ) (u w : Tagged) → GivesTop x plan m t old (cells t) (Ok u) → Ok w ≡ on_word f u → Replaces 1 w r new → Meets x plan s m r old new (on_cells (on_one f) (here m t q))
    one_done f u w given is replaces = by_cells (cells t) refl given where
      by_cells : (cs : List Word) → cells t ≡ cs → GivesTop x plan m t old cs (Ok u) → Meets x plan s m r old new (on_one f cs >>= λ ds. leaves_cells (here m t q) ds None)
      by_cells [] e g = absurd (let z : ⊥ = cc in z)
      by_cells (a ∷ rest) e g =
          let same : u ≡ g.0 = (let d = g.1 in cc) in
          let says = says_one f a g.0 (Ok w) (operand_seen x plan m t old.regs.s g.0 a g.2.is) (is ∙ ap (on_word f) same) in
          met (on_one f (a ∷ rest)) (Ok (Operand says.0 ∷ rest)) (says.3 rest) (replaces (a ∷ []) rest (Operand says.0) e refl (says.2, tt) tt (says.1, λ z. omega (arith, z)))

    pub two_done : (f : Binary) (u v w : Tagged) → GivesTwo x plan m t old (cells t) (Ok (u, v)) → Ok w ≡ on_words f u v → Replaces 2 w r new → Meets x plan s m r old new (on_cells (on_two f) (here m t q))
    two_done f u v w given is replaces = by_cells (cells t) refl given where
      by_cells : (cs : List Word) → cells t ≡ cs → GivesTwo x plan m t old cs (Ok (u, v)) → Meets x plan s m r old new (on_two f cs >>= λ ds. leaves_cells (here m t q) ds None)
      by_cells [] e g = absurd (let z : ⊥ = cc in z)
      by_cells (b ∷ []) e g = absurd (let z : ⊥ = cc in z)
      by_cells (b ∷ a ∷ rest) e g =
          let pair : ◌≡◌ {A = Tagged × Tagged} (u, v) (g.0, g.1) = (let d = g.2 in cc) in
          let same_u : u ≡ g.0 = ap (λ (z : Tagged × Tagged). z.0) pair in
          let same_v : v ≡ g.1 = ap (λ (z : Tagged × Tagged). z.1) pair in
          let says = says_two f a b g.0 g.1 (Ok w) (operand_seen x plan m t (old.regs.s - 1) g.0 a g.3.is) (operand_seen x plan m t old.regs.s g.1 b g.4.is) (is ∙ ap (λ (z : Tagged). on_words f z v) same_u ∙ ap (on_words f g.0) same_v) in
          met (on_two f (b ∷ a ∷ rest)) (Ok (Operand says.0 ∷ rest)) (says.4 rest) (replaces (b ∷ a ∷ []) rest (Operand says.0) e refl (says.3, (says.2, tt)) tt (says.1, λ z. omega (arith, z)))

  pub one_refused : (f : ℕ → Answer ℕ) (u : Tagged) (fault : Fault) → GivesTop x plan m t old (cells t) (Ok u) → Err fault ≡ on_word f u → on_cells (on_one f) (here m t q) ≡ Err fault
  one_refused f u fault given is = grind arith

  pub two_refused : (f : Binary) (u v : Tagged) (fault : Fault) → GivesTwo x plan m t old (cells t) (Ok (u, v)) → Err fault ≡ on_words f u v → on_cells (on_two f) (here m t q) ≡ Err fault
  two_refused f u v fault given is = grind arith

  -- an original on top
  pub original_refused : (f : CellRow) (u : Tagged) → ((a : Word) (rest : List Word) → is_original a ≡ true → f (a ∷ rest) ≡ Err InvalidOperand) → GivesTop x plan m t old (cells t) (Ok u)
      → ((w : Word) → IsWordOf x plan m t w old.regs.s u → is_original w ≡ true) → on_cells f (here m t q) ≡ Err InvalidOperand
  original_refused f u refuses given own = grind arith

  pub dropped_top : (new : Cpu) (u : Tagged) → GivesTop x plan m t old (cells t) (Ok u) → ((w : Word) → IsWordOf x plan m t w old.regs.s u → is_original w ≡ false) → Drops 1 new
      → IsMade x plan s m old new (on_cells dlet (here m t q))
  dropped_top new u given plain drops = by_cells (cells t) refl given where
    by_cells : (cs : List Word) → cells t ≡ cs → GivesTop x plan m t old cs (Ok u) → IsMade x plan s m old new (dlet cs >>= λ ds. leaves_cells (here m t q) ds None)
    by_cells [] e g = absurd (let z : ⊥ = cc in z)
    by_cells (a ∷ rest) e g =
        let same : g.0 ≡ u = (let d = g.1 in cc) in
        let P : Tagged → Type 0 = λ v. IsWordOf x plan m t a old.regs.s v in
        let n : is_original a ≡ false = plain a (subst P same g.2.is) in
        rw n (drops (a ∷ []) rest e refl (n, tt))

  pub doubled_top : IsInOrderButCounts s → IsRunning plan s.jobs m t → (r : Step) (new : Cpu) (u : Tagged) → GivesTop x plan m t old (cells t) (Ok u) → ((w : Word) → IsWordOf x plan m t w old.regs.s u → is_original w ≡ false) → Replaces 0 u r new
      → Meets x plan s m r old new (on_cells dupl (here m t q))
  doubled_top ordered runs r new u given plain replaces = by_cells (cells t) refl given where
    by_cells : (cs : List Word) → cells t ≡ cs → GivesTop x plan m t old cs (Ok u) → Meets x plan s m r old new (dupl cs >>= λ ds. leaves_cells (here m t q) ds None)
    by_cells [] e g = absurd (let z : ⊥ = cc in z)
    by_cells (a ∷ rest) e g =
        let same : g.0 ≡ u = (let d = g.1 in cc) in
        let P : Tagged → Type 0 = λ v. IsWordOf x plan m t a old.regs.s v in
        let f = subst P same g.2.is in
        let n : is_original a ≡ false = plain a f in
        rw n (replaces [] (a ∷ rest) a e refl tt (top_may_stand plan s m t ordered runs a rest e n) (elsewhere x plan m t a old.regs.s (old.regs.s - 0 + 1) u n f))
