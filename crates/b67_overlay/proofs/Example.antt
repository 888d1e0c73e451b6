-- The core of the test of spans, by its words.
use Rattle.std.proofs.Common.{◌≡◌, ◌≢◌, ℕ, zero, suc, ◌+◌, ◌<◌, ◌≤◌, List, [], ◌∷◌, length, replicate, Option, Some, None, refl, sym, ◌∙◌, ap, arith, slice_set, subst}
use Rattle.std.specs.List.{slice_get, AllByRecursion}
use Rattle.std.proofs.lemmas.Option.{same_Some, none-some, slice_get-get_or}
use Rattle.std.proofs.lemmas.List.{get_or-replicate}
use Rattle.b67_word.specs.Tagged.{Tagged, word}
use Rattle.b67_core.proofs.Writes.{slice_get-set_other}
use Rattle.b67_ctl.specs.declared.registers.Regs.{Regs}
use Rattle.b67_ctl.specs.Layout.{toscw_word}
use Rattle.b67_lemmas.proofs.Members.{all_in}
use Rattle.b67_stack.specs.Common.{Shape, Is, Original, Copy, Activation, Entered, IsStack, stack_words, words, toscw_of, MachineView, Slot, Free, Running, Waiting, SlotFits, CopiesName, RepresentsSlot}
use Rattle.b67_overlay.specs.Turns.{Lies}
use Rattle.b67_overlay.specs.Spans.{Resident, Families, ResidentFits, kin_word, ShowsFamilies}

-- a task entered at level 2 with some cells
abbrev stack : ℕ → List Activation
stack n = record { head = Entered 2 (record { stack = 128; disp = 0 }) None; cells = replicate n (Is (word 0 0)) } ∷ []

abbrev in_slot : ℕ → Slot
in_slot zero = Running (stack 6)
in_slot (suc zero) = Waiting (stack 3)
in_slot (suc (suc zero)) = Waiting (stack 1)
in_slot (suc (suc (suc zero))) = Waiting (stack 0)
in_slot (suc (suc (suc (suc k)))) = Free

abbrev kin_in : ℕ → Option Resident
kin_in zero = Some (record { job = 1; parents = [] })
kin_in (suc zero) = Some (record { job = 1; parents = 0 ∷ [] })
kin_in (suc (suc zero)) = Some (record { job = 2; parents = [] })
kin_in (suc (suc (suc zero))) = Some (record { job = 1; parents = 1 ∷ 0 ∷ [] })
kin_in (suc (suc (suc (suc k)))) = None

abbrev pub example : MachineView
example = record { stacks = 167; size = 16; peak = 5; slots = in_slot; objects = [] }

abbrev pub family : Families
family = record { kin = kin_in; entries = 2 ∷ 1 ∷ [] }

abbrev pub blank : List Tagged
blank = replicate 256 (word 0 0)

abbrev pub vectors : List Tagged → List Tagged
vectors core =
    slice_set (slice_set (slice_set (slice_set core 32 (kin_word (kin_in 0))) 33 (kin_word (kin_in 1))) 34 (kin_word (kin_in 2))) 35 (kin_word (kin_in 3))

abbrev pub tops : List Tagged → List Tagged
tops core = slice_set (slice_set (slice_set core 183 (toscw_word (toscw_of (stack 3)))) 199 (toscw_word (toscw_of (stack 1)))) 215 (toscw_word (toscw_of (stack 0)))

abbrev pub core_of : List Tagged
core_of = tops (slice_set (slice_set (vectors blank) 161 (word 0 2)) 165 (word 0 1))

abbrev pub regs_of : Regs
regs_of = record { s = 175; f = 168; bosr = 167; losr = 182; slot = 0; level = 2; segment = 2; place = record { word = 0; syllable = 0 }; dict = 160; entries = 2; stacks = 167; stack_size = 16; peak = 5 }

-- words of the core
skip : (core : List Tagged) (at i : ℕ) (w : Tagged) → i ≢ at → slice_get (slice_set core at w) i ≡ slice_get core i
skip core at i w ne = slice_get-set_other core at i w ne

blank_word : (i : ℕ) → i < 256 → slice_get blank i ≡ Some (word 0 0)
blank_word i h = let l : length blank ≡ 256 = refl in slice_get-get_or blank i (word 0 0) (omega (arith, l, h)) ∙ ap Some (get_or-replicate 256 i (word 0 0) (word 0 0) h)

no_vector : (i : ℕ) → 36 ≤ i → i < 152 → slice_get core_of i ≡ Some (word 0 0)
no_vector i low high =
    let v0 = slice_set blank 32 (kin_word (kin_in 0)) in
    let v1 = slice_set v0 33 (kin_word (kin_in 1)) in
    let v2 = slice_set v1 34 (kin_word (kin_in 2)) in
    let v3 = slice_set v2 35 (kin_word (kin_in 3)) in
    let d0 = slice_set v3 161 (word 0 2) in
    let d1 = slice_set d0 165 (word 0 1) in
    let t0 = slice_set d1 183 (toscw_word (toscw_of (stack 3))) in
    let t1 = slice_set t0 199 (toscw_word (toscw_of (stack 1))) in
    skip t1 215 i (toscw_word (toscw_of (stack 0))) (λ e. omega (arith, e, high)) ∙ skip t0 199 i (toscw_word (toscw_of (stack 1))) (λ e. omega (arith, e, high)) ∙ skip d1 183 i (toscw_word (toscw_of (stack 3))) (λ e. omega (arith, e, high))
    ∙ skip d0 165 i (word 0 1) (λ e. omega (arith, e, high)) ∙ skip v3 161 i (word 0 2) (λ e. omega (arith, e, high))
    ∙ skip v2 35 i (kin_word (kin_in 3)) (λ e. omega (arith, e, low)) ∙ skip v1 34 i (kin_word (kin_in 2)) (λ e. omega (arith, e, low)) ∙ skip v0 33 i (kin_word (kin_in 1)) (λ e. omega (arith, e, low)) ∙ skip blank 32 i (kin_word (kin_in 0)) (λ e. omega (arith, e, low))
    ∙ blank_word i (omega (arith, high))

vector : (k : ℕ) → k < 120 → slice_get core_of (32 + k) ≡ Some (kin_word (kin_in k))
vector zero h = refl
vector (suc zero) h = refl
vector (suc (suc zero)) h = refl
vector (suc (suc (suc zero))) h = refl
vector (suc (suc (suc (suc k)))) h = no_vector (32 + suc (suc (suc (suc k)))) (omega arith) (omega (arith, h))

kin_fits : (k : ℕ) (a : Resident) → kin_in k ≡ Some a → ResidentFits family 5 k a
kin_fits zero a e = subst (ResidentFits family 5 0) (same_Some _ _ e) (record { used = omega arith; job = omega arith; few = omega arith; line = tt })
kin_fits (suc zero) a e = subst (ResidentFits family 5 1) (same_Some _ _ e) (record { used = omega arith; job = omega arith; few = omega arith; line = (omega arith, refl, tt) })
kin_fits (suc (suc zero)) a e = subst (ResidentFits family 5 2) (same_Some _ _ e) (record { used = omega arith; job = omega arith; few = omega arith; line = tt })
kin_fits (suc (suc (suc zero))) a e = subst (ResidentFits family 5 3) (same_Some _ _ e) (record { used = omega arith; job = omega arith; few = omega arith; line = (omega arith, refl, (omega arith, refl, tt)) })
kin_fits (suc (suc (suc (suc k)))) a e = absurd (none-some a e)

shown : ShowsFamilies core_of example family
shown = record { few = omega arith; vector = vector; kin = kin_fits; dictionaries = (refl, (refl, refl)) }

-- the stacks
abbrev IsPlain : Shape → Type 0
IsPlain (Is w) = Unit {0}
IsPlain (Original home) = ⊥
IsPlain (Copy c home) = ⊥

plain : (k n : ℕ) → AllByRecursion IsPlain (words k (stack n)) → CopiesName [] (words k (stack n))
plain k n all c home h = absurd (all_in IsPlain (words k (stack n)) (Copy c home) all h)

is_stack : (n : ℕ) → stack_words (stack n) < 16 → IsStack 16 (stack n)
is_stack n small = record { some = λ e. let b : ⊥ = cc in b; heads = ((omega arith, omega arith, omega arith, refl), tt); fits = small }

fits : (k : ℕ) → k < 5 → SlotFits example k (in_slot k)
fits zero h = (is_stack 6 (omega arith), plain 0 6 (tt, (tt, (tt, (tt, (tt, (tt, (tt, (tt, tt)))))))))
fits (suc zero) h = (is_stack 3 (omega arith), plain 1 3 (tt, (tt, (tt, (tt, (tt, tt))))))
fits (suc (suc zero)) h = (is_stack 1 (omega arith), plain 2 1 (tt, (tt, (tt, tt))))
fits (suc (suc (suc zero))) h = (is_stack 0 (omega arith), plain 3 0 (tt, (tt, tt)))
fits (suc (suc (suc (suc k)))) h = tt

slots : (k : ℕ) → k < 5 → RepresentsSlot core_of regs_of example k (in_slot k)
slots zero h = record { slot = refl; first = refl; last = refl; top = refl; mark = refl; level = refl }
slots (suc zero) h = (λ e. omega (arith, e), refl)
slots (suc (suc zero)) h = (λ e. omega (arith, e), refl)
slots (suc (suc (suc zero))) h = (λ e. omega (arith, e), refl)
slots (suc (suc (suc (suc zero)))) h = (λ e. omega (arith, e), refl)
slots (suc (suc (suc (suc (suc k))))) h = absurd (omega (arith, h))

lies : Lies core_of regs_of 247 example
lies = record {
  slots = record {
    laid = record {
      low = refl;
      first = omega arith;
      room = omega arith;
      slots = fits;
      homes = λ t h. absurd h;
      codes = λ t h. absurd h;
      differ = λ t u h. absurd h;
      not_base = λ t h. absurd h;
      lengths = λ t h. absurd h;
    };
    regs = record { stacks = refl; size = refl; peak = refl };
    slots = slots;
  };
  inside = (let l : length core_of ≡ 256 = refl in omega (arith, l));
  small = (let l : length core_of ≡ 256 = refl in omega (arith, l));
  base = λ k h. omega (arith, h);
}

pub is_family : (core : List Tagged) → core ≡ core_of → (p : MachineView) × (f : Families) × Lies core regs_of 247 p × ShowsFamilies core p f
is_family core is =
    (example, family, subst (λ (z : List Tagged). Lies z regs_of 247 example) (sym is) lies, subst (λ (z : List Tagged). ShowsFamilies z example family) (sym is) shown)

pub set_then : (new old base : List Tagged) (at : ℕ) (w v : Tagged) → new ≡ slice_set old at w → old ≡ base → w ≡ v → new ≡ slice_set base at v
set_then new old base at w v is same word_is = is ∙ ap (λ (z : List Tagged). slice_set z at w) same ∙ ap (λ (z : Tagged). slice_set base at z) word_is
