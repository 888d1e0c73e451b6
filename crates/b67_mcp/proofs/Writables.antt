-- The array whose whole copy is an argument, and what DEALLOCATE and RESIZE make of it.
use Rattle.std.proofs.Common.{◌≡◌, ◌≢◌, ℕ, suc, ◌<◌, ◌≤◌, ◌^◌, List, [], ◌∷◌, reverse, length, Some, Ok, Err, refl, sym, ◌∙◌, ap, arith, true, false, subst, take}
use Rattle.std.specs.List.{AllByRecursion}
use Rattle.std.proofs.lemmas.Bool.{le-leb, not-false, not-true}
use Rattle.std.proofs.lemmas.Option.{none-some}
use Rattle.std.proofs.lemmas.List.{length-reverse}
use Rattle.b67_word.specs.Tagged.{Tagged}
use Rattle.b67_word.specs.declared.couples.Place.{Place}
use Rattle.b67_word.specs.declared.faults.Fault.{Fault}
use Rattle.b67_word.specs.declared.faults.Fault.TheVariants.{InvalidOperand, MemoryProtect, CriticalBlock}
use Rattle.b67_ctl.specs.declared.descriptors.DataDesc.{DataDesc}
use Rattle.b67_lemmas.specs.Lists.{Has}
use Rattle.b67_model.specs.Common.{Answer, ◌>>=◌, ◌>>◌, Word, Row, number, array, with_array, resized, Array, Task, SessionJob, height, top, below_top, Done, is_critical, is_original, row_copy, array_length, needs_writable, answers, deallocate, resize, Session}
use Rattle.b67_model.specs.Words.{whole}
use Rattle.b67_stack.specs.declared.Cpu.{Cpu}
use Rattle.b67_stack.specs.Represents.{Storage}
use Rattle.b67_layout.specs.Common.{IsInOrderButCounts, Placement, IsRunning, RepresentsSession, here, cells}
use Rattle.b67_exec_cells.specs.Elements.{HasElement, original_desc}
use Rattle.b67_exec_cells.specs.Tops.{GivesTwo}
use Rattle.b67_exec_cells.proofs.Arrays.{array_is, absent, present}
use Rattle.b67_exec_cells.proofs.Rows.{operand_seen}
use Rattle.b67_fetch.specs.Fetches.{IsFollowed}
use Rattle.b67_fetch.specs.Indexes.{FindsArray}
use Rattle.b67_fetch.proofs.Values.{TopFollowed}
use Rattle.b67_fetch.proofs.Items.{TwoFollowed}
use Rattle.b67_mcp.specs.Printed.{IsCall}
use Rattle.b67_mcp.specs.Declaring.{length_in}
use Rattle.b67_mcp.specs.Lengthening.{EmptyMeets, Resizes, ResizeMeets}
use Rattle.b67_mcp.specs.declared.resize.Resizing.TheVariants as resizing
use Rattle.b67_mcp.proofs.Ones.{one}
use Rattle.b67_mcp.proofs.Founds.{lower}
use Rattle.b67_mcp.proofs.Lengths.{wanted, chain}

-- a word that copies an array whole, whose original has this address
pub record CopyOf (plan : Placement) (m : SessionJob) (v : Word) (original : ℕ) : Type 0 where
  pub item : Array
  pub live : Has m.progress.job.arrays item
  pub is : v ≡ Row item.identity
  pub home : original ≡ plan.home m.constants.number item.identity
  pub some : 0 < length item.numbers

pub copy_of : (plan : Placement) (m : SessionJob) (v : Word) (original : ℕ) → FindsArray plan m (Ok original) (row_copy v) → CopyOf plan m v original
copy_of plan m v original f = grind arith

pub no_copy : (plan : Placement) (m : SessionJob) (v : Word) (fault : Fault) → FindsArray plan m (Err fault) (row_copy v) → row_copy v ≡ Err fault
no_copy plan m v fault f = grind arith

-- the array has an element
abbrev pub element_of : (plan : Placement) (m : SessionJob) (v : Word) (original : ℕ) (k : CopyOf plan m v original) → HasElement m.progress.job k.item.identity 0
element_of plan m v original k = record { item = k.item; live = k.live; named = refl; inside = k.some }

-- the one argument of a call
pub record Only (t : Task) (r : Word) (arguments : List Word) (v : Word) : Type 0 where
  pub are : arguments ≡ v ∷ []
  pub cells_are : cells t ≡ v ∷ r ∷ []

-- the two arguments of a call
pub record Pair (t : Task) (r : Word) (arguments : List Word) (v w : Word) : Type 0 where
  pub are : arguments ≡ v ∷ w ∷ []
  pub cells_are : cells t ≡ w ∷ v ∷ r ∷ []

module _ (m : SessionJob) (t : Task) (r : Word) (arguments : List Word) (call : IsCall t r arguments) where
  count : length (cells t) ≡ suc (length arguments)
  count = sym (length-reverse (cells t)) ∙ ap length call.cells

  -- the top one of two cells is the only argument
  pub only_is : (x : Storage) (plan : Placement) (w : Tagged) → length (cells t) ≡ 2 → (a : TopFollowed x plan m t w) → Only t r arguments a.word
  only_is x plan w two a =
      let o = one m t r arguments call two in
      grind arith

  -- the two top ones of three cells are the arguments
  pub pair_is : (x : Storage) (plan : Placement) (u w : Tagged) → length (cells t) ≡ 3 → (a : TwoFollowed x plan m t u w) → Pair t r arguments a.lower a.upper
  pair_is x plan u w three a = by a.rest (a.is) (ap length (sym a.is) ∙ three) (ap reverse (sym a.is) ∙ call.cells)
    where
      by : (rest : List Word) → cells t ≡ a.upper ∷ a.lower ∷ rest → length (a.upper ∷ a.lower ∷ rest) ≡ 3 → reverse (a.upper ∷ a.lower ∷ rest) ≡ r ∷ arguments → Pair t r arguments a.lower a.upper
      by [] e n rev = absurd cc
      by (b ∷ []) e n rev =
          let first : b ≡ r = cc in
          let rest : arguments ≡ a.lower ∷ a.upper ∷ [] = cc in
          record { are = rest; cells_are = e ∙ ap (λ (v : Word). a.upper ∷ a.lower ∷ v ∷ []) first }
      by (b ∷ d ∷ more) e n rev = absurd cc

  -- another number of arguments
  pub empty_not_one : (plan : Placement) → length (cells t) ≢ 2 → EmptyMeets plan m t arguments (Err InvalidOperand)
  empty_not_one plan ne next = grind (arith, count)

  pub resize_not_two : (next : Place) → length (cells t) ≢ 3 → resize (here m t next) arguments ≡ Err InvalidOperand
  resize_not_two next ne = grind (arith, count)

  -- an argument that isn't copied
  pub empty_no_copy : (plan : Placement) (v : Word) → Only t r arguments v → (fault : Fault) → FindsArray plan m (Err fault) (row_copy v) → EmptyMeets plan m t arguments (Err fault)
  empty_no_copy plan v o fault f next = ap (deallocate (here m t next)) o.are ∙ rw (no_copy plan m v fault f) refl

  pub resize_no_copy : (plan : Placement) (v w : Word) → Pair t r arguments v w → (fault : Fault) → FindsArray plan m (Err fault) (row_copy v) → (next : Place) → resize (here m t next) arguments ≡ Err fault
  resize_no_copy plan v w o fault f next = ap (resize (here m t next)) o.are ∙ rw (no_copy plan m v fault f) refl

  -- what is made of the new length
  abbrev sizes : Place → ℕ → ℕ → Answer Done
  sizes next a len = needs_writable (here m t next) a >> answers (here m t next) (with_array m.progress.job a (resized len)) [] [] (Some a)

  module _ (x : Storage) (cpu : Cpu) (plan : Placement) (s : Session) (o : IsInOrderButCounts s) (h : RepresentsSession x cpu plan s) (runs : IsRunning plan s.jobs m t) (v : Word) (original : ℕ) (k : CopyOf plan m v original) where
    module _ (d : DataDesc) (is : d ≡ original_desc x plan m k.item.identity) where
      protected : d.read_only ≡ true → (array m.progress.job k.item.identity).writable ≡ false
      protected on = not-true (array m.progress.job k.item.identity).writable (ap (λ (z : DataDesc). z.read_only) (sym is) ∙ on)

      writable : d.read_only ≡ false → (array m.progress.job k.item.identity).writable ≡ true
      writable off = not-false (array m.progress.job k.item.identity).writable (ap (λ (z : DataDesc). z.read_only) (sym is) ∙ off)

      same_array : array m.progress.job k.item.identity ≡ k.item
      same_array = array_is x cpu plan s m t o h runs k.item.identity 0 (element_of plan m v original k)

      which_writable : d.read_only ≡ false → k.item.writable ≡ true
      which_writable off = ap (λ (a : Array). a.writable) (sym same_array) ∙ writable off

      low : height t.frames ≤ m.constants.stack_size → height (below_top t.frames) ≤ m.constants.stack_size
      low fits = omega (arith, lower t.frames, fits)

      -- DEALLOCATE
      module _ (only : Only t r arguments v) where
        emptied : (next : Place) → deallocate (here m t next) arguments ≡ deallocate (here m t next) (Row k.item.identity ∷ [])
        emptied next = ap (deallocate (here m t next)) (only.are ∙ ap (λ (w : Word). w ∷ []) k.is)

        pub empty_protected : d.read_only ≡ true → EmptyMeets plan m t arguments (Err MemoryProtect)
        empty_protected on next = emptied next ∙ rw (protected on) refl

        pub empty_critical : d.read_only ≡ false → is_critical m.progress.job (top t.frames).identity ≡ true → EmptyMeets plan m t arguments (Err CriticalBlock)
        empty_critical off z next = emptied next ∙ rw (writable off) (rw z refl)

        pub empties : d.read_only ≡ false → is_critical m.progress.job (top t.frames).identity ≡ false → height t.frames ≤ m.constants.stack_size → EmptyMeets plan m t arguments (Ok original)
        empties off z fits =
            let P : List Word → Type 0 = λ ws. AllByRecursion (λ (w : Word). is_original w ≡ false) ws in
            record {
              which = record { array = k.item; among = k.live; home = k.home; writable = which_writable off };
              named = ap (λ (ws : List Word). take 1 ws) only.cells_are ∙ ap (λ (w : Word). w ∷ []) k.is;
              may = record { marked = call.marked; free = z; plain = subst P (sym only.cells_are) (ap is_original k.is, (call.plain, tt)) };
              makes = λ next. emptied next ∙ rw (writable off) (rw z (rw (le-leb (height (below_top t.frames)) m.constants.stack_size (low fits)) refl));
            }

      -- RESIZE
      module _ (w : Word) (pair : Pair t r arguments v w) where
        resizes : (next : Place) → resize (here m t next) arguments ≡ (wanted w >>= sizes next k.item.identity)
        resizes next = ap (resize (here m t next)) (pair.are ∙ ap (λ (u : Word). u ∷ w ∷ []) k.is) ∙ chain (whole w) (sizes next k.item.identity)

        pub resize_protected : (n : ℕ) → wanted w ≡ Ok n → d.read_only ≡ true → (next : Place) → resize (here m t next) arguments ≡ Err MemoryProtect
        resize_protected n e on next = resizes next ∙ rw e (rw (protected on) refl)

        pub resize_critical : (n : ℕ) → wanted w ≡ Ok n → d.read_only ≡ false → is_critical m.progress.job (top t.frames).identity ≡ true → (next : Place) → resize (here m t next) arguments ≡ Err CriticalBlock
        resize_critical n e off z next = resizes next ∙ rw e (rw (writable off) (rw z refl))

        plain_pair : (n : ℕ) → wanted w ≡ Ok n → AllByRecursion (λ (u : Word). is_original u ≡ false) (cells t)
        plain_pair n e = grind arith

        abbrev resized_to : (n : ℕ) → wanted w ≡ Ok n → (0 < n) × (n < 2 ^ 16) → d.read_only ≡ false → is_critical m.progress.job (top t.frames).identity ≡ false → height t.frames ≤ m.constants.stack_size → Resizes plan m t arguments original n
        resized_to n e bounds off z fits =
            record {
              which = record { array = k.item; among = k.live; home = k.home; writable = which_writable off };
              may = record { marked = call.marked; free = z; plain = plain_pair n e };
              some = bounds.0;
              few = bounds.1;
              makes = λ next. resizes next ∙ rw e (rw (writable off) (rw z (rw (le-leb (height (below_top t.frames)) m.constants.stack_size (low fits)) refl)));
            }

        -- the array is absent, or present with so many words
        pub resizes_absent : (n : ℕ) → wanted w ≡ Ok n → (0 < n) × (n < 2 ^ 16) → d.read_only ≡ false → is_critical m.progress.job (top t.frames).identity ≡ false → height t.frames ≤ m.constants.stack_size → d.present ≡ false
            → ResizeMeets x plan m t arguments (Ok (resizing.Absent original))
        resizes_absent n e bounds off z fits away = (n, resized_to n e bounds off z fits, absent x cpu plan s m t o h runs k.item.identity 0 (element_of plan m v original k) d is away)

        pub resizes_present : (n : ℕ) → wanted w ≡ Ok n → (0 < n) × (n < 2 ^ 16) → d.read_only ≡ false → is_critical m.progress.job (top t.frames).identity ≡ false → height t.frames ≤ m.constants.stack_size → d.present ≡ true
            → ResizeMeets x plan m t arguments (Ok (resizing.Lengths original d.length n))
        resizes_present n e bounds off z fits on = (
          resized_to n e bounds off z fits,
          ap (λ (a : Array). length a.numbers) (sym same_array) ∙ ap (λ (y : DataDesc). y.length) (sym is),
          λ none. none-some d.address (sym none ∙ present x cpu plan s m t o h runs k.item.identity 0 (element_of plan m v original k) d is on),
        )

    -- a length that is none
    pub resize_no_length : (w : Word) (fault : Fault) → Pair t r arguments v w → wanted w ≡ Err fault → (next : Place) → resize (here m t next) arguments ≡ Err fault
    resize_no_length w fault pair e next = ap (resize (here m t next)) (pair.are ∙ ap (λ (u : Word). u ∷ w ∷ []) k.is) ∙ chain (whole w) (sizes next k.item.identity) ∙ rw e refl

  -- the length that a word of core says is its word's
  pub length_seen : (x : Storage) (plan : Placement) (w : Tagged) (v : Word) → IsFollowed x plan m t w v → length_in w ≡ wanted v
  length_seen x plan w v f = ap (λ (q : Answer ℕ). (q >>= number) >>= array_length) (operand_seen x plan m t f.at w v f.is)

-- three cells are no fewer than two
pub two_of_three : (x : Storage) (plan : Placement) (m : SessionJob) (t : Task) (cpu : Cpu) (fault : Fault) → length (cells t) ≡ 3 → GivesTwo x plan m t cpu (cells t) (Err fault) → ⊥
two_of_three x plan m t cpu fault three given = grind arith
