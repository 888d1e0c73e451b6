-- The two top cells: which of them is the operand, and which one is followed.
use Rattle.std.proofs.Common.{◌≡◌, ◌≢◌, ℕ, ◌-◌, List, [], ◌∷◌, ◌++◌, map, Ok, Err, refl, sym, ◌∙◌, ap, arith, false, inl, inr, subst}
use Rattle.b67_word.specs.Tagged.{Tagged, word}
use Rattle.b67_word.specs.declared.faults.Fault.TheVariants.{InvalidOperand}
use Rattle.b67_model.specs.Common.{in_order, End, follow, IsSegment, known_of, outer_of, FramesInOrder, WordInOrder, is_original, Word, Operand, Name, Ref, Row, Element, Original, Proc, Intrinsic, operand, Session, Frame, Task, SessionJob, OperatorContext, top}
use Rattle.b67_layout.specs.Common.{IsInOrderButCounts, Placement, IsRunning, IsWordOf, IsAt, cells}
use Rattle.b67_lemmas.specs.Lists.{Has}
use Rattle.b67_lemmas.proofs.Members.{all_in}
use Rattle.b67_model.specs.Words as Words
use Rattle.b67_stack.specs.declared.Cpu.{Cpu}
use Rattle.b67_stack.specs.Represents.{Storage}
use Rattle.b67_layout.proofs.Fresh.{running_in_order}
use Rattle.b67_exec_cells.specs.Tops.{GivesTwo, NoOriginals}
use Rattle.b67_fetch.specs.Fetches.{IsFollowed}
use Rattle.b67_fetch.specs.Stores.{Choice}

module _ (x : Storage) (plan : Placement) (m : SessionJob) (t : Task) where
  -- a word of tag 0 is an operand's
  zero_tag : (b : Word) (at : ℕ) (v : Tagged) → IsWordOf x plan m t b at v → v.tag ≡ 0 → (bits : ℕ) × (b ≡ Operand bits) × (v ≡ word 0 bits)
  zero_tag b at v i z = grind arith

  other_tag : (b : Word) (at : ℕ) (v : Tagged) → IsWordOf x plan m t b at v → v.tag ≢ 0 → operand b ≡ Err InvalidOperand
  other_tag b at v i z = grind arith

  -- the two words in order, in core
  pub record Chosen (old : Cpu) (b a : Word) (chosen : Tagged × Tagged) : Type 0 where
    pub at : ℕ
    pub to : IsAt x plan m t old.core (in_order b a).0 at chosen.0
    pub place : ℕ
    pub from : IsAt x plan m t old.core (in_order b a).1 place chosen.1

  upper : (old : Cpu) (b a : Word) (u v : Tagged) (i k : ℕ) → IsAt x plan m t old.core a i u → IsAt x plan m t old.core b k v → v.tag ≡ 0 → Chosen old b a (u, v)
  upper old b a u v i k ia ib z =
      let o = zero_tag b k v ib.is z in
      let P : Word → Type 0 = λ w. IsAt x plan m t old.core w k v → Chosen old w a (u, v) in
      subst P (sym o.1) (λ ib. record { at = i; to = ia; place = k; from = ib }) ib

  lower : (old : Cpu) (b a : Word) (u v : Tagged) (i k : ℕ) → IsAt x plan m t old.core a i u → IsAt x plan m t old.core b k v → v.tag ≢ 0 → Chosen old b a (v, u)
  lower old (Operand bits) a u v i k ia ib z = absurd (z (ap (λ (w : Tagged). w.tag) ib.is.0))
  lower old (Name c) a u v i k ia ib z = record { at = k; to = ib; place = i; from = ia }
  lower old (Ref g d) a u v i k ia ib z = record { at = k; to = ib; place = i; from = ia }
  lower old (Row b) a u v i k ia ib z = record { at = k; to = ib; place = i; from = ia }
  lower old (Element b n) a u v i k ia ib z = record { at = k; to = ib; place = i; from = ia }
  lower old (Original b) a u v i k ia ib z = record { at = k; to = ib; place = i; from = ia }
  lower old (Proc g l p) a u v i k ia ib z = record { at = k; to = ib; place = i; from = ia }
  lower old (Intrinsic n) a u v i k ia ib z = record { at = k; to = ib; place = i; from = ia }
  lower old (Words.Segment n) a u v i k ia ib z = record { at = k; to = ib; place = i; from = ia }

  -- two cells or more, of which two words were chosen
  pub record Given (old : Cpu) (chosen : Tagged × Tagged) : Type 0 where
    pub first : Word
    pub second : Word
    pub rest : List Word
    pub is : cells t ≡ first ∷ second ∷ rest
    pub two : Chosen old first second chosen

  given_by : (old : Cpu) (two chosen : Tagged × Tagged) (ws : List Word) → cells t ≡ ws → GivesTwo x plan m t old ws (Ok two) → Choice two chosen → Given old chosen
  given_by old two chosen [] e g c = absurd (let z : ⊥ = cc in z)
  given_by old two chosen (b ∷ []) e g c = absurd (let z : ⊥ = cc in z)
  given_by old two chosen (b ∷ a ∷ rest) e (u, v, is, ia, ib) c = record { first = b; second = a; rest = rest; is = e; two = by c } where
    same : two ≡ (u, v)
    same = cc

    by : Choice two chosen → Chosen old b a chosen
    by (inl (z, s)) = subst (Chosen old b a) (sym (s ∙ same)) (upper old b a u v (old.regs.s - 1) old.regs.s ia ib (sym (ap (λ (p : Tagged × Tagged). p.1.tag) same) ∙ z))
    by (inr (z, s)) = subst (Chosen old b a) (sym (s ∙ ap (λ (p : Tagged × Tagged). (p.1, p.0)) same)) (lower old b a u v (old.regs.s - 1) old.regs.s ia ib (λ y. z (ap (λ (p : Tagged × Tagged). p.1.tag) same ∙ y)))

  pub given : (old : Cpu) (two chosen : Tagged × Tagged) → GivesTwo x plan m t old (cells t) (Ok two) → Choice two chosen → Given old chosen
  given old two chosen g c = given_by old two chosen (cells t) refl g c

  -- the word that is stored
  pub is_operand : (old : Cpu) (chosen : Tagged × Tagged) (g : Given old chosen) → chosen.1.tag ≡ 0 → (bits : ℕ) × ((in_order g.first g.second).1 ≡ Operand bits) × (chosen.1 ≡ word 0 bits)
  is_operand old chosen g z = zero_tag (in_order g.first g.second).1 g.two.place chosen.1 g.two.from.is z

  pub no_operand : (old : Cpu) (chosen : Tagged × Tagged) (g : Given old chosen) → chosen.1.tag ≢ 0 → operand (in_order g.first g.second).1 ≡ Err InvalidOperand
  no_operand old chosen g z = other_tag (in_order g.first g.second).1 g.two.place chosen.1 g.two.from.is z

has_first : (b a : Word) (rest : List Word) → Has (b ∷ a ∷ rest) (in_order b a).0
has_first b a rest = grind arith

-- the word that is followed
module _ (x : Storage) (plan : Placement) (s : Session) (m : SessionJob) (t : Task) (o : IsInOrderButCounts s) (runs : IsRunning plan s.jobs m t) where
  words_of : (fs : List Frame) → FramesInOrder (IsSegment m.constants) m.progress.job.arrays (outer_of m.progress.job t) fs → (w : Word) → Has (top fs).cells w → WordInOrder (IsSegment m.constants) m.progress.job.arrays (map known_of fs ++ outer_of m.progress.job t) (top fs).identity w
  words_of fs g w k = grind (arith, all_in)

  pub followed : (old : Cpu) (chosen : Tagged × Tagged) (g : Given x plan m t old chosen) → IsFollowed x plan m t chosen.0 (in_order g.first g.second).0
  followed old chosen g =
      let w = (in_order g.first g.second).0 in
      let k : Has (cells t) w = subst (λ (ws : List Word). Has ws w) (sym g.is) (has_first g.first g.second g.rest) in
      record { at = g.two.at; owner = (top t.frames).identity; is = g.two.to.is; ordered = words_of t.frames (running_in_order plan s m t o runs).1.frames w k }

plain_operand : (w : Word) (bits : ℕ) → w ≡ Operand bits → is_original w ≡ false
plain_operand w bits e = ap is_original e

-- nor is any of the two, where one was followed and the other is an operand
pub plain_two : (h : OperatorContext) (b a : Word) (e : End) (bits : ℕ) → follow h (in_order b a).0 ≡ Ok e → (in_order b a).1 ≡ Operand bits → NoOriginals (b ∷ a ∷ [])
plain_two h b a e bits f o = grind arith
