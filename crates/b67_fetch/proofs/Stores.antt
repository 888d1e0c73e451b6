-- What STOD and STON do by the end that was found, against their rows.
use Rattle.std.proofs.Common.{◌≡◌, ℕ, ◌+◌, ◌-◌, ◌<◌, ◌≤◌, List, [], ◌∷◌, length, Option, Some, Result, Ok, Err, refl, sym, ◌∙◌, ap, arith, Bool, true, false, subst}
use Rattle.std.specs.Prelude.{if◌then◌else◌, nat_le, unwrap_or}
use Rattle.std.proofs.lemmas.Option.{slice_get_within}
use Rattle.b67_word.specs.Tagged.{Tagged, word}
use Rattle.b67_word.specs.declared.couples.Place.{Place}
use Rattle.b67_word.specs.declared.faults.Fault.{Fault}
use Rattle.b67_word.specs.declared.faults.Fault.TheVariants.{InvalidOperand, MemoryProtect}
use Rattle.b67_model.specs.Common.{Answer, ◌>>=◌, array, no_array, with_element, in_order, AtCell, AtElement, follow, Word, Operand, operand, Array, Task, SessionJob, height, with_top_cells, with_task, Session, Done, Goes, cells_of, with_cells, store_at}
use Rattle.b67_model.specs.Keyed.{keyed}
use Rattle.b67_model.specs.Chase as Chase
use Rattle.b67_layout.specs.Common.{IsInOrderButCounts, Placement, IsRunning, RepresentsSession, here, IsMade, Meets, cells}
use Rattle.b67_model.specs.Rows as rows
use Rattle.b67_stack.specs.declared.Cpu.{Cpu}
use Rattle.b67_stack.specs.declared.Step.{Step}
use Rattle.b67_stack.specs.declared.Step.TheVariants as step
use Rattle.b67_stack.specs.Represents.{Storage}
use Rattle.b67_layout.proofs.Fresh.{running_in_order}
use Rattle.b67_refer.specs.declared.ends.End.{End}
use Rattle.b67_refer.specs.declared.ends.End.TheVariants as end
use Rattle.b67_refer.specs.RunningContext.{live_of}
use Rattle.b67_refer.specs.Cells.{IsCellAt}
use Rattle.b67_refer.specs.Ends.{EndMeets, IsElementOf}
use Rattle.b67_refer.proofs.Items.{array_is as item_is}
use Rattle.b67_exec_cells.specs.Tops.{GivesTwo, NoOriginals}
use Rattle.b67_exec_cells.proofs.Put.{fitting, room}
use Rattle.b67_exec_cells.specs.Elements.{HasElement, HoldsElement}
use Rattle.b67_exec_cells.proofs.Arrays.{area-inside}
use Rattle.b67_fetch.specs.Fetches.{enters_at, EntersOrMeets}
use Rattle.b67_fetch.proofs.Values.{here_scene}
use Rattle.b67_fetch.specs.Stores.{store_end, ElementAt, stored}
use Rattle.b67_fetch.proofs.Cells as Cells
use Rattle.b67_fetch.proofs.Elements as Elements
use Rattle.b67_fetch.proofs.Words.{Given, plain_two}
use Rattle.b67_lemmas.proofs.Members.{keyed_falls}

-- what is answered at an end that nothing is stored into
abbrev pub Unstored : Result End Fault → Step → Type 0
Unstored (Err fault) answered = answered ≡ step.Fault fault
Unstored (Ok (end.Proc cell)) answered = answered ≡ step.Call 255
Unstored (Ok (end.Array original)) answered = answered ≡ step.Fault MemoryProtect
Unstored (Ok (end.Intrinsic n)) answered = answered ≡ step.Fault MemoryProtect
Unstored _ answered = ⊥

module _ (x : Storage) (old : Cpu) (plan : Placement) (s : Session) (m : SessionJob) (t : Task) (o : IsInOrderButCounts s) (h : RepresentsSession x old plan s) (runs : IsRunning plan s.jobs m t) (q : Place) (keeps : Bool) where
  -- the cells that are left
  abbrev kept : ℕ → List Word → List Word
  kept bits rest = if keeps then Operand bits ∷ rest else rest

  -- what is shown, for the cells of the task, and for the word that is followed
  abbrev ForCells : Step → Cpu → List Word → Type 0
  ForCells r new ws = EntersOrMeets x plan s m r old new (enters_at (store_end (here m t q) ws)) (rows.store keeps (here m t q) ws)

  abbrev ForEnd : Step → Cpu → List Word → ℕ → Answer Chase.End → Type 0
  ForEnd r new rest bits e = EntersOrMeets x plan s m r old new (enters_at e) (e >>= store_at (here m t q) rest (kept bits rest) bits)

  abbrev ForPair : Step → Cpu → List Word → Word × Word → Type 0
  ForPair r new rest p = EntersOrMeets x plan s m r old new (enters_at (operand p.1 >>= λ bits. follow (here m t q) p.0))
      (operand p.1 >>= λ bits. (follow (here m t q) p.0 >>= store_at (here m t q) rest (if keeps then p.1 ∷ rest else rest) bits))

  by_pair : (r : Step) (new : Cpu) (rest : List Word) (p : Word × Word) (bits : ℕ) → p.1 ≡ Operand bits → ForEnd r new rest bits (follow (here m t q) p.0) → ForPair r new rest p
  by_pair r new rest p bits e f = let P : Word → Type 0 = λ w. ForPair r new rest (p.0, w) in subst P (sym e) f

  -- no cells to store
  pub missing : (new : Cpu) (fault : Fault) → new ≡ old → GivesTwo x plan m t old (cells t) (Err fault) → ForCells (step.Fault fault) new (cells_of (here m t q))
  missing new fault same g = grind arith

  module _ (chosen : Tagged × Tagged) (g : Given x plan m t old chosen) where
    -- none of the two is an operand
    pub refused : (new : Cpu) → new ≡ old → operand (in_order g.first g.second).1 ≡ Err InvalidOperand → ForCells (step.Fault InvalidOperand) new (cells_of (here m t q))
    refused new same e = grind arith

    -- one is
    pub followed_end : (r : Step) (new : Cpu) (bits : ℕ) → (in_order g.first g.second).1 ≡ Operand bits → ForEnd r new g.rest bits (follow (here m t q) (in_order g.first g.second).0) → ForCells r new (cells_of (here m t q))
    followed_end r new bits e f = subst (ForCells r new) (sym g.is) (by_pair r new g.rest (in_order g.first g.second) bits e f)

  -- an element that was found is one of the job
  of_item : (original n index : ℕ) → IsElementOf (here_scene x old plan s m t o h runs) q original n index → HasElement m.progress.job n index
  of_item original n index e =
      let names = e.array_of.names in
      record { item = names.item; live = names.live; named = names.named; inside = subst (λ (z : Array). index < length z.numbers) (item_is old.core old.regs (live_of (here_scene x old plan s m t o h runs)) n names) e.inside }

  -- by the end that was found
  module _ (r : Step) (new : Cpu) (rest : List Word) (bits : ℕ) where
    pub at_other : (found : Result End Fault) (y : Answer Chase.End) → EndMeets (here_scene x old plan s m t o h runs) q found y → Unstored found r → new ≡ old → ForEnd r new rest bits y
    at_other (Err fault) y e other same = grind arith
    at_other (Ok (end.Proc at)) y e other same = grind arith
    at_other (Ok (end.Array original)) y e other same = grind arith
    at_other (Ok (end.Intrinsic n)) y e other same = grind arith
    at_other (Ok _) y e other same = absurd other

    at_cell : (at : ℕ) (w : Word) (y : Answer Chase.End) → follow (here m t q) w ≡ y → EndMeets (here_scene x old plan s m t o h runs) q (Ok (end.Cell at)) y
        → ((f offset b : ℕ) → follow (here m t q) w ≡ Ok (AtCell f offset b) → IsCellAt (here_scene x old plan s m t o h runs) q at f offset (Operand b) → Meets x plan s m r old new (store_at (here m t q) rest (kept bits rest) bits (AtCell f offset b))) → ForEnd r new rest bits y
    at_cell at w y z e done = grind arith

    at_element : (original index : ℕ) (w : Word) (y : Answer Chase.End) → follow (here m t q) w ≡ y → EndMeets (here_scene x old plan s m t o h runs) q (Ok (end.Element original index)) y
        → ((n : ℕ) → follow (here m t q) w ≡ Ok (AtElement n index) → original ≡ plan.home m.constants.number n → HasElement m.progress.job n index → Meets x plan s m r old new (store_at (here m t q) rest (kept bits rest) bits (AtElement n index))) → ForEnd r new rest bits y
    at_element original index w (Ok (AtElement n i)) z e done =
        let P : ℕ → Type 0 = λ k. follow (here m t q) w ≡ Ok (AtElement n k) → (HasElement m.progress.job n k) → Meets x plan s m r old new (store_at (here m t q) rest (kept bits rest) bits (AtElement n k)) in
        subst P e.0 (λ z has. done n z e.1.array_of.home has) z (of_item original n i e.1)
    at_element original index w _ z e done = absurd e

  -- an array of the job, by its identity
  found : (n index : ℕ) (e : HasElement m.progress.job n index) → keyed (λ (z : Array). z.identity) e.item.identity m.progress.job.arrays ≡ Some e.item
  found n index e = keyed_falls (λ (z : Array). z.identity) m.progress.job.next_array m.progress.job.arrays e.item (running_in_order plan s m t o runs).0.tasks.names e.live

  array_is : (n index : ℕ) (e : HasElement m.progress.job n index) → array m.progress.job n ≡ e.item
  array_is n index e = ap (λ (k : ℕ). array m.progress.job k) (sym e.named) ∙ ap (λ (z : Option Array). unwrap_or z no_array) (found n index e)

  -- where the word goes lies in core
  pub cell_inside : (at : ℕ) (y : Answer Chase.End) → EndMeets (here_scene x old plan s m t o h runs) q (Ok (end.Cell at)) y → at < length old.core
  cell_inside at y e = grind (arith, slice_get_within)

  element_in : (n index original at : ℕ) (e : HasElement m.progress.job n index) → ElementAt x plan m n original index (Ok at) → at < length old.core
  element_in n index original at e (w, (area, held, is)) =
      let i = area-inside x old plan s m t o h runs n index e area held in
      let long = ap (λ (z : Array). length z.numbers) (array_is n index e) in
      omega (arith, i, long, is, e.inside)

  -- the element that was found
  record Named (original index : ℕ) : Type 0 where
    number : ℕ
    home : original ≡ plan.home m.constants.number number
    element : HasElement m.progress.job number index

  named : (original index : ℕ) (y : Answer Chase.End) → EndMeets (here_scene x old plan s m t o h runs) q (Ok (end.Element original index)) y → Named original index
  named original index (Ok (AtElement n i)) e =
      let P : ℕ → Type 0 = λ k. HasElement m.progress.job n k in
      record { number = n; home = e.1.array_of.home; element = subst P (sym e.0) (of_item original n i e.1) }
  named original index _ e = absurd e

  pub holds : (original index : ℕ) (y : Answer Chase.End) → EndMeets (here_scene x old plan s m t o h runs) q (Ok (end.Element original index)) y → HoldsElement old original index
  holds original index y e =
      let n = named original index y e in
      record { runs = record { storage = x; plan = plan; session = s; member = m; task = t; ordered = o; stands = h; running = runs }; number = n.number; home = n.home; element = n.element }

  pub element_inside : (original index at : ℕ) (y : Answer Chase.End) → EndMeets (here_scene x old plan s m t o h runs) q (Ok (end.Element original index)) y
      → ((n : ℕ) → original ≡ plan.home m.constants.number n → HasElement m.progress.job n index → ElementAt x plan m n original index (Ok at)) → at < length old.core
  element_inside original index at y e places = let n = named original index y e in element_in n.number index original at n.element (places n.number n.home n.element)

  module _ (b c : Word) (rest : List Word) (is : cells t ≡ b ∷ c ∷ rest) (enough : old.regs.f + 2 ≤ old.regs.s) (bits : ℕ) where
    fits_kept : nat_le (height (with_top_cells t.frames (Operand bits ∷ rest))) m.constants.stack_size ≡ true
    fits_kept = let g = room x old plan s m t o h runs in let low = g.last in fitting x old plan s m t o h runs 2 (old.regs.s - 2 + 1) (b ∷ c ∷ []) rest (Operand bits) is refl enough refl (omega (arith, low, enough))

    fits : (k : Bool) → nat_le (height (with_top_cells t.frames (if k then Operand bits ∷ rest else rest))) m.constants.stack_size ≡ true
    fits k = grind (arith, fits_kept)

    cell_made : (k : Bool) (at f offset w : ℕ) → IsCellAt (here_scene x old plan s m t o h runs) q at f offset (Operand w) → NoOriginals (b ∷ c ∷ [])
        → IsMade x plan s m old (stored old at (word 0 bits) k q) (store_at (here m t q) rest (if k then Operand bits ∷ rest else rest) bits (AtCell f offset w))
    cell_made false at f offset w cell plain = Cells.dropped x old plan s m t o h runs q at f offset w bits cell b c rest is plain
    cell_made true at f offset w cell plain = Cells.kept x old plan s m t o h runs q at f offset w bits cell b c rest is plain enough

    -- the job that is left by a store into an element
    abbrev Answered : Bool → ℕ → ℕ → Answer Done
    Answered k n i = Ok (Goes (with_task (with_element m.progress.job n i bits) (with_cells (here m t q) (if k then Operand bits ∷ rest else rest))) [] (Some n))

    made_by_array : (k : Bool) (z : Array) → keyed (λ (w : Array). w.identity) z.identity m.progress.job.arrays ≡ Some z → z.writable ≡ true → (i area : ℕ) → i < length z.numbers → (x.held (plan.home m.constants.number z.identity)).area ≡ Some area → NoOriginals (b ∷ c ∷ [])
        → IsMade x plan s m old (stored old (area + i) (word 0 bits) k q) (Answered k z.identity i)
    made_by_array false z there writable i area low held plain = Elements.dropped x old plan s m t o h runs q z there writable i bits area low held b c rest is plain
    made_by_array true z there writable i area low held plain = Elements.kept x old plan s m t o h runs q z there writable i bits area low held b c rest is plain enough

    answered : (n i : ℕ) → (array m.progress.job n).writable ≡ true → store_at (here m t q) rest (if keeps then Operand bits ∷ rest else rest) bits (AtElement n i) ≡ Answered keeps n i
    answered n i w = rw w (rw (fits keeps) refl)

    element_made : (n index original at : ℕ) (e : HasElement m.progress.job n index) → ElementAt x plan m n original index (Ok at) → NoOriginals (b ∷ c ∷ [])
        → IsMade x plan s m old (stored old at (word 0 bits) keeps q) (store_at (here m t q) rest (kept bits rest) bits (AtElement n index))
    element_made n index original at e (w, (area, held, place)) plain =
        let writable : e.item.writable ≡ true = ap (λ (z : Array). z.writable) (sym (array_is n index e)) ∙ w in
        let held' : (x.held (plan.home m.constants.number e.item.identity)).area ≡ Some area = ap (λ (k : ℕ). (x.held (plan.home m.constants.number k)).area) e.named ∙ held in
        let made = made_by_array keeps e.item (found n index e) writable index area e.inside held' plain in
        let P : ℕ → Type 0 = λ k. IsMade x plan s m old (stored old (area + index) (word 0 bits) keeps q) (Answered keeps k index) in
        let Q : ℕ → Type 0 = λ k. IsMade x plan s m old (stored old k (word 0 bits) keeps q) (Answered keeps n index) in
        let R : Answer Done → Type 0 = λ y. IsMade x plan s m old (stored old at (word 0 bits) keeps q) y in
        subst R (sym (answered n index w)) (subst Q (sym place) (subst P e.named made))

    element_refused : (n index original : ℕ) (r : Step) (new : Cpu) → new ≡ old → original ≡ plan.home m.constants.number n → ElementAt x plan m n original index (Err r)
        → Meets x plan s m r old new (store_at (here m t q) rest (kept bits rest) bits (AtElement n index))
    element_refused n index original r new same home z = grind (arith, answered)

    module _ (op : (in_order b c).1 ≡ Operand bits) where
      pub cell_done : (at : ℕ) → EndMeets (here_scene x old plan s m t o h runs) q (Ok (end.Cell at)) (follow (here m t q) (in_order b c).0)
          → EntersOrMeets x plan s m step.Done old (stored old at (word 0 bits) keeps q) (enters_at (follow (here m t q) (in_order b c).0)) (follow (here m t q) (in_order b c).0 >>= store_at (here m t q) rest (if keeps then Operand bits ∷ rest else rest) bits)
      cell_done at e = at_cell step.Done (stored old at (word 0 bits) keeps q) rest bits at (in_order b c).0 (follow (here m t q) (in_order b c).0) refl e
          (λ f offset w z cell. cell_made keeps at f offset w cell (plain_two (here m t q) b c (AtCell f offset w) bits z op))

      pub element_done : (original index at : ℕ) → EndMeets (here_scene x old plan s m t o h runs) q (Ok (end.Element original index)) (follow (here m t q) (in_order b c).0)
          → ((n : ℕ) → original ≡ plan.home m.constants.number n → HasElement m.progress.job n index → ElementAt x plan m n original index (Ok at))
          → EntersOrMeets x plan s m step.Done old (stored old at (word 0 bits) keeps q) (enters_at (follow (here m t q) (in_order b c).0)) (follow (here m t q) (in_order b c).0 >>= store_at (here m t q) rest (if keeps then Operand bits ∷ rest else rest) bits)
      element_done original index at e places = at_element step.Done (stored old at (word 0 bits) keeps q) rest bits original index (in_order b c).0 (follow (here m t q) (in_order b c).0) refl e
          (λ n z home has. element_made n index original at has (places n home has) (plain_two (here m t q) b c (AtElement n index) bits z op))

      pub element_not : (original index : ℕ) (r : Step) (new : Cpu) → new ≡ old → EndMeets (here_scene x old plan s m t o h runs) q (Ok (end.Element original index)) (follow (here m t q) (in_order b c).0)
          → ((n : ℕ) → original ≡ plan.home m.constants.number n → HasElement m.progress.job n index → ElementAt x plan m n original index (Err r))
          → EntersOrMeets x plan s m r old new (enters_at (follow (here m t q) (in_order b c).0)) (follow (here m t q) (in_order b c).0 >>= store_at (here m t q) rest (if keeps then Operand bits ∷ rest else rest) bits)
      element_not original index r new same e places = at_element r new rest bits original index (in_order b c).0 (follow (here m t q) (in_order b c).0) refl e
          (λ n z home has. element_refused n index original r new same home (places n home has))
