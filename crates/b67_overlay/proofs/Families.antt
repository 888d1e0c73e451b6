-- The stack vector and the dictionaries as the search reads them.
use Rattle.std.proofs.Common.{◌≡◌, ◌≢◌, ℕ, ◌+◌, ◌*◌, ◌^◌, ◌<◌, ◌≤◌, Bool, true, false, not, ◌&&◌, List, [], ◌∷◌, length, Option, Some, None, refl, sym, ◌∙◌, ap, arith}
use Rattle.std.specs.Prelude.{nat_lt}
use Rattle.std.specs.List.{slice_get, list_any}
use Rattle.std.proofs.lemmas.Bool.{cond-true, cond-false, lt-ltb, le-ltb, eq-eqb, ne_eqb}
use Rattle.std.proofs.lemmas.Option.{same_Some}
use Rattle.b67_word.specs.Tagged.{Tagged, word, bits_at}
use Rattle.b67_ctl.specs.declared.registers.Regs.{Regs}
use Rattle.b67_stack.specs.Common.{stack_words, MachineView, slot_base, stack_of}
use Rattle.b67_stack.proofs.Bases.{base-apart}
use Rattle.b67_overlay.specs.Turns.{Lies}
use Rattle.b67_overlay.specs.declared.spans.Span.{Span}
use Rattle.b67_overlay.specs.Spans.{Resident, Families, parent_field, kin_word, LineStands, ResidentFits, DictionariesLie, ShowsFamilies, job_at, holds, span_of_kin, up_from, whole_stack}

-- fields of words
pub entries_field : (n : ℕ) (w : Tagged) → n < 2 ^ 20 → Some w ≡ Some (word 0 n) → bits_at w 0 20 ≡ n
entries_field n w h e = ap (λ (v : Tagged). bits_at v 0 20) (same_Some _ _ e) ∙ omega arith

pub parent_low : (f : Families) (peak job : ℕ) (parents : List ℕ) → peak ≤ 120 → LineStands f peak job parents → parent_field parents < 2 ^ 10
parent_low f peak job [] few line = omega arith
parent_low f peak job (slot ∷ more) few line = omega (arith, line.0)

-- a word with a tag is that of a live task
pub lives_here : (f : Families) (k : ℕ) (o : Option Resident) (w : Tagged) → w.tag ≢ 0 → Some w ≡ Some (kin_word o) → f.kin k ≡ o → (a : Resident) × (f.kin k ≡ Some a)
lives_here f k None w tag e is = absurd (tag (ap (λ (v : Tagged). v.tag) (same_Some _ _ e)))
lives_here f k (Some a) w tag e is = (a, is)

pub nobody_here : (f : Families) (p : MachineView) (original k : ℕ) (o : Option Resident) (w : Tagged) → w.tag ≡ 0 → Some w ≡ Some (kin_word o) → span_of_kin f p original k o ≡ None
nobody_here f p original k None w tag e = refl
nobody_here f p original k (Some a) w tag e = let z : ◌≡◌ {A = ℕ} 3 0 = sym (ap (λ (v : Tagged). v.tag) (same_Some _ _ e)) ∙ tag in absurd (omega arith)

-- dictionaries lie below slot 0
pub dictionaries_up : (core : List Tagged) (stacks at : ℕ) (rest : List ℕ) → DictionariesLie core stacks at rest → at ≤ stacks
dictionaries_up core stacks at [] d = omega arith
dictionaries_up core stacks at (n ∷ more) d = omega (arith, dictionaries_up core stacks (at + (2 + n)) more d.1)

-- an address below slot 0 that a dictionary begins at or below is in it or past it
pub record NextDictionary (core : List Tagged) (stacks at before i : ℕ) (rest : List ℕ) : Type 0 where
  pub entries : ℕ
  pub more : List ℕ
  pub read : slice_get core (at + 1) ≡ Some (word 0 entries)
  pub lie : DictionariesLie core stacks (at + (2 + entries)) more
  pub up : at + (2 + entries) ≤ stacks
  pub counted : job_at at rest before i ≡ job_at (at + (2 + entries)) more (before + 1) i

pub next_dictionary : (core : List Tagged) (stacks at before i : ℕ) (rest : List ℕ) → DictionariesLie core stacks at rest → at ≤ i → i < stacks → NextDictionary core stacks at before i rest
next_dictionary core stacks at before i [] d low high = absurd (omega arith)
next_dictionary core stacks at before i (n ∷ more) d low high = record {
  entries = n;
  more = more;
  read = d.0;
  lie = d.1;
  up = dictionaries_up core stacks (at + (2 + n)) more d.1;
  counted = cond-false (nat_lt i at) _ _ (le-ltb i at low);
}

pub job_found : (at before i : ℕ) (rest : List ℕ) → i < at → job_at at rest before i ≡ before
job_found at before i [] h = refl
job_found at before i (n ∷ more) h = cond-true (nat_lt i at) _ _ (lt-ltb i at h)

-- a slot in use lies below the areas
pub slot_low : (core : List Tagged) (r : Regs) (low : ℕ) (p : MachineView) (k : ℕ) → Lies core r low p → k < p.peak → slot_base p k + p.size ≤ low
slot_low core r low p k l h = omega (arith, base-apart p k p.peak h, l.slots.laid.low)

pub is_held : (p : MachineView) (i k : ℕ) → slot_base p k ≤ i → i < slot_base p k + p.size → holds p i k ≡ true
is_held p i k low high = rw (le-ltb i (slot_base p k) low, lt-ltb i (slot_base p k + p.size) high) refl

pub not_held_under : (p : MachineView) (i k : ℕ) → i < slot_base p k → holds p i k ≡ false
not_held_under p i k low = rw (lt-ltb i (slot_base p k) low) refl

pub not_held_over : (p : MachineView) (i k : ℕ) → slot_base p k + p.size ≤ i → holds p i k ≡ false
not_held_over p i k high = rw (le-ltb i (slot_base p k) (omega arith), le-ltb i (slot_base p k + p.size) high) refl

-- the span of a live task by the tests
module _ (f : Families) (p : MachineView) (original k : ℕ) (a : Resident) where
  pub span_in_job : original < p.stacks → (job_at 160 f.entries 0 original ≡ a.job) → span_of_kin f p original k (Some a) ≡ Some (whole_stack p k)
  span_in_job low same = rw (lt-ltb original p.stacks low, eq-eqb (job_at 160 f.entries 0 original) a.job same) refl

  pub span_of_others : original < p.stacks → (job_at 160 f.entries 0 original ≢ a.job) → span_of_kin f p original k (Some a) ≡ None
  span_of_others low ne = rw (lt-ltb original p.stacks low, ne_eqb (job_at 160 f.entries 0 original) a.job ne) refl

  pub span_in_own : p.stacks ≤ original → holds p original k ≡ true → span_of_kin f p original k (Some a) ≡ Some (up_from p k (original + 1))
  span_in_own high own = rw (le-ltb original p.stacks high, own) refl

  pub span_in_parent : p.stacks ≤ original → holds p original k ≡ false → list_any (holds p original) a.parents ≡ true → span_of_kin f p original k (Some a) ≡ Some (whole_stack p k)
  span_in_parent high own some = rw (le-ltb original p.stacks high, own, some) refl

  pub span_nowhere : p.stacks ≤ original → holds p original k ≡ false → list_any (holds p original) a.parents ≡ false → span_of_kin f p original k (Some a) ≡ None
  span_nowhere high own some = rw (le-ltb original p.stacks high, own, some) refl

-- where the walk over parents stands: at a slot, with those that are left above it
pub record Walk (p : MachineView) (f : Families) (i : ℕ) (a : Resident) (child n : ℕ) : Type 0 where
  pub parents : List ℕ
  pub kin : f.kin child ≡ Some (record { job = a.job; parents = parents })
  pub line : LineStands f p.peak a.job parents
  pub few : length parents + n < 120
  pub used : child < p.peak
  pub any : list_any (holds p i) a.parents ≡ list_any (holds p i) parents

pub walk_first : (p : MachineView) (f : Families) (i : ℕ) (a : Resident) (k child : ℕ) → ResidentFits f p.peak k a → f.kin k ≡ Some a → child ≡ k → Walk p f i a child 0
walk_first p f i a k child fits e is = rw is (let w : Walk p f i a k 0 = record { parents = a.parents; kin = e; line = fits.line; few = omega (arith, fits.few); used = fits.used; any = refl } in w)

module _ (core : List Tagged) (p : MachineView) (f : Families) (s : ShowsFamilies core p f) (i : ℕ) (a : Resident) (child n : ℕ) (w : Walk p f i a child n) where
  parent_word : slice_get core (32 + child) ≡ Some (kin_word (Some (record { job = a.job; parents = w.parents })))
  parent_word = s.vector child (omega (arith, w.used, s.few)) ∙ ap (λ (o : Option Resident). Some (kin_word o)) w.kin

  parent_small : parent_field w.parents < 2 ^ 10
  parent_small = parent_low f p.peak a.job w.parents s.few w.line

  -- the parent that is read
  pub parent_read : (parent : ℕ) → ((b : Resident) → b.job < 2 ^ 4 → parent_field b.parents < 2 ^ 10 → slice_get core (32 + child) ≡ Some (kin_word (Some b)) → parent ≡ parent_field b.parents) → a.job < 2 ^ 4 → parent ≡ parent_field w.parents
  parent_read parent reads job = reads (record { job = a.job; parents = w.parents }) job parent_small parent_word

  pub walk_end : parent_field w.parents ≡ 1023 → false ≡ list_any (holds p i) a.parents
  walk_end e = sym (w.any ∙ by w.parents w.line e) where
    by : (parents : List ℕ) → LineStands f p.peak a.job parents → parent_field parents ≡ 1023 → list_any (holds p i) parents ≡ false
    by [] line e = refl
    by (slot ∷ more) line e = absurd (omega (arith, line.0, e, s.few))

  module _ (parent : ℕ) (is : parent ≡ parent_field w.parents) (ne : parent ≢ 1023) where
    pub walk_used : parent < p.peak
    walk_used = by w.parents w.line is where
      by : (parents : List ℕ) → LineStands f p.peak a.job parents → parent ≡ parent_field parents → parent < p.peak
      by [] line e = absurd (ne e)
      by (slot ∷ more) line e = omega (arith, line.0, e)

    pub walk_found : holds p i parent ≡ true → true ≡ list_any (holds p i) a.parents
    walk_found h = sym (w.any ∙ by w.parents is) where
      by : (parents : List ℕ) → parent ≡ parent_field parents → list_any (holds p i) parents ≡ true
      by [] e = absurd (ne e)
      by (slot ∷ more) e = rw (ap (holds p i) (sym e) ∙ h) refl

    pub walk_on : holds p i parent ≡ false → Walk p f i a parent (n + 1)
    walk_on h = by w.parents w.line w.few w.any is where
      by : (parents : List ℕ) → LineStands f p.peak a.job parents → length parents + n < 120 → list_any (holds p i) a.parents ≡ list_any (holds p i) parents → parent ≡ parent_field parents → Walk p f i a parent (n + 1)
      by [] line few any e = absurd (ne e)
      by (slot ∷ more) line few any e = record {
        parents = more;
        kin = ap f.kin e ∙ line.1;
        line = line.2;
        few = omega (arith, few);
        used = omega (arith, line.0, e);
        any = any ∙ rw (ap (holds p i) (sym e) ∙ h) refl;
      }

-- a slot's base and its whole span, as they are computed
pub base_here : (core : List Tagged) (r : Regs) (low : ℕ) (p : MachineView) (k a b : ℕ) → Lies core r low p → a ≡ k → b ≡ r.stack_size → r.stacks + a * b ≡ slot_base p k
base_here core r low p k a b l ea eb = rw (ea, eb, l.slots.regs.size, l.slots.regs.stacks) refl

pub in_slot_over : (core : List Tagged) (r : Regs) (low : ℕ) (p : MachineView) (k i size : ℕ) → Lies core r low p → size ≡ r.stack_size → r.stacks + k * size ≤ i → nat_lt i (r.stacks + k * size + size) ≡ holds p i k
in_slot_over core r low p k i size l e under =
    let b : r.stacks + k * size ≡ slot_base p k = base_here core r low p k k size l refl e in
    let z : size ≡ p.size = e ∙ l.slots.regs.size in
    ap (λ (n : ℕ). nat_lt i n) (ap (λ (m : ℕ). m + size) b ∙ ap (λ (m : ℕ). slot_base p k + m) z)
    ∙ sym (ap (λ (t : Bool). not t && nat_lt i (slot_base p k + p.size)) (le-ltb i (slot_base p k) (omega (arith, under, b))))

pub in_slot_under : (core : List Tagged) (r : Regs) (low : ℕ) (p : MachineView) (k i size : ℕ) → Lies core r low p → size ≡ r.stack_size → i < r.stacks + k * size → false ≡ holds p i k
in_slot_under core r low p k i size l e under = sym (not_held_under p i k (omega (arith, under, base_here core r low p k k size l refl e)))

pub over_here : (p : MachineView) (k base top from : ℕ) → base ≡ slot_base p k → top ≡ base + stack_words (stack_of (p.slots k)) → ◌≡◌ {A = Option Span} (Some (record { from = from; upto = top + 1 })) (Some (up_from p k from))
over_here p k base top from b t = rw (t, b) refl

pub whole_here : (p : MachineView) (k base top : ℕ) → base ≡ slot_base p k → top ≡ base + stack_words (stack_of (p.slots k)) → ◌≡◌ {A = Option Span} (Some (record { from = base + 1; upto = top + 1 })) (Some (whole_stack p k))
whole_here p k base top b t = rw (t, b) refl
