-- What is read through references, against the rows.
use Rattle.std.proofs.Common.{◌≡◌, ◌≢◌, ℕ, ◌+◌, ◌-◌, ◌<◌, ◌≤◌, ◌^◌, List, [], ◌∷◌, ◌++◌, map, length, Option, Some, None, Result, Ok, Err, refl, sym, ◌∙◌, ap, arith, Bool, true, false, subst, inl, inr, ⊎_elim}
use Rattle.std.specs.Prelude.{nat_le}
use Rattle.b67_ctl.specs.Layout.{irw_word}
use Rattle.b67_word.specs.Tagged.{Tagged}
use Rattle.b67_word.specs.declared.couples.Place.{Place}
use Rattle.b67_word.specs.declared.faults.Fault.{Fault}
use Rattle.b67_word.specs.declared.faults.Fault.TheVariants.{StackOverflow}
use Rattle.b67_model.specs.Common.{Answer, ◌>>=◌, ◌>>◌, needs, evaluates, is_original, AtCell, AtElement, AtArray, AtProc, AtIntrinsic, follow, Word, Name, Row, Frame, Array, Task, Job, SessionJob, top, with_top_cells, height, with_task, Starts, IsSegment, Known, known_of, outer_of, reach_of, FramesInOrder, WordInOrder, Session, Done, Goes, leaves_cells}
use Rattle.b67_model.specs.Chase as Chase
use Rattle.b67_layout.specs.Common.{IsInOrderButCounts, Placement, IsRunning, RepresentsSession, here, TouchedIsPresent, IsTouched, IsMade, FindsAbsent, Meets, RunsSome, area_held, IsWordOf, cells, GivesTop}
use Rattle.b67_model.specs.Rows as rows
use Rattle.b67_refer.specs.declared.ends.End.{End}
use Rattle.b67_refer.specs.declared.ends.End.TheVariants as end
use Rattle.b67_refer.specs.RunningContext.{RunningContext, IsShown, live_of}
use Rattle.b67_refer.specs.Cells.{StandsFor}
use Rattle.b67_refer.specs.Ends.{EndMeets, EndIs}
use Rattle.b67_refer.proofs.Scenes.{scene}
use Rattle.b67_stack.specs.declared.Cpu.{Cpu}
use Rattle.b67_stack.specs.declared.Step.{Step}
use Rattle.b67_stack.specs.declared.Step.TheVariants as step
use Rattle.b67_stack.specs.declared.What.TheVariants as what
use Rattle.b67_stack.specs.Represents.{Storage}
use Rattle.b67_layout.proofs.Whole.{task_with}
use Rattle.b67_layout.proofs.Fresh.{running_in_order}
use Rattle.b67_refer.proofs.Items.{array_is, not_empty}
use Rattle.b67_exec_cells.specs.Elements.{HasElement, HoldsElement}
use Rattle.b67_exec_cells.proofs.Put.{fitting}
use Rattle.b67_fetch.specs.Fetches.{IsFollowed, IsEnd, SomeEnd, FindsEnd, value_at_end, is_procedure_end, enters_at, EntersOrMeets, top_end}

-- the scene of a machine that represents a session
module _ (x : Storage) (cpu : Cpu) (plan : Placement) (s : Session) (m : SessionJob) (t : Task) (ordered : IsInOrderButCounts s) (h : RepresentsSession x cpu plan s) (runs : IsRunning plan s.jobs m t) where
  abbrev pub here_scene : RunningContext cpu.core cpu.regs
  here_scene = scene [] x cpu.core cpu.regs cpu.critical plan s m t ordered h.holds runs

  pub here_shown : IsShown here_scene cpu.display
  here_shown = h.shows m t runs

  -- a word that may be followed
  stands_for : (w : Tagged) (at owner : ℕ) (v : Word) → IsWordOf x plan m t v at w → WordInOrder (IsSegment m.constants) m.progress.job.arrays (reach_of m.progress.job t) owner v → StandsFor here_scene at owner w v
  stands_for w at owner v f o = grind arith

  pub followed_stands : (w : Tagged) (v : Word) (i : IsFollowed x plan m t w v) → StandsFor here_scene i.at i.owner w v
  followed_stands w v i = stands_for w i.at i.owner v i.is i.ordered

  end_is : (q : Place) (found : End) (e : Chase.End) → EndIs here_scene q found e → IsEnd plan m cpu.core found e
  end_is q (end.Cell at) (AtCell f offset bits) i = i.there ∙ ap Some i.stands.0.0
  end_is q (end.Element original index) (AtElement n k) i = let o = i.1.array_of in
      (i.0, o.home, record { item = o.names.item; live = o.names.live; named = o.names.named; inside = subst (λ (z : Array). k < length z.numbers) (array_is cpu.core cpu.regs (live_of here_scene) n o.names) i.1.inside })
  end_is q (end.Array original) (AtArray n) i = (
    i.home,
    record {
      item = i.names.item;
      live = i.names.live;
      named = i.names.named;
      inside = not_empty cpu.core cpu.regs (live_of here_scene) n i.names;
    },
  )
  end_is q (end.Proc at) (AtProc f segment level place) i = tt
  end_is q (end.Intrinsic n) (AtIntrinsic k) i = tt
  end_is q (end.Cell at) (AtElement n k) i = i
  end_is q (end.Cell at) (AtArray n) i = i
  end_is q (end.Cell at) (AtProc f segment level place) i = i
  end_is q (end.Cell at) (AtIntrinsic n) i = i
  end_is q (end.Element original index) (AtCell f offset bits) i = i
  end_is q (end.Element original index) (AtArray n) i = i
  end_is q (end.Element original index) (AtProc f segment level place) i = i
  end_is q (end.Element original index) (AtIntrinsic n) i = i
  end_is q (end.Array original) (AtCell f offset bits) i = i
  end_is q (end.Array original) (AtElement n k) i = i
  end_is q (end.Array original) (AtProc f segment level place) i = i
  end_is q (end.Array original) (AtIntrinsic n) i = i
  end_is q (end.Proc at) (AtCell f offset bits) i = i
  end_is q (end.Proc at) (AtElement n k) i = i
  end_is q (end.Proc at) (AtArray n) i = i
  end_is q (end.Proc at) (AtIntrinsic n) i = i
  end_is q (end.Intrinsic n) (AtCell f offset bits) i = i
  end_is q (end.Intrinsic n) (AtElement k d) i = i
  end_is q (end.Intrinsic n) (AtArray k) i = i
  end_is q (end.Intrinsic n) (AtProc f segment level place) i = i

  pub finds_end : (q : Place) (found : Result End Fault) (e : Answer Chase.End) → EndMeets here_scene q found e → FindsEnd plan m cpu.core found e
  finds_end q found e i = grind (arith, end_is)

-- a row that touched an array that is present
module _ (x : Storage) (plan : Placement) (s : Session) (m : SessionJob) (t : Task) (old new : Cpu) (q : Place) (cs : List Word) (n : ℕ) (present : TouchedIsPresent x plan m.constants.number (Some n)) where
  abbrev row_by : Bool → Option ℕ → Answer Done
  row_by b touched = needs b StackOverflow >> Ok (Goes (with_task m.progress.job (task_with t cs q)) [] touched)

  made_by : (b : Bool) → IsMade x plan s m old new (row_by b None) → IsMade x plan s m old new (row_by b (Some n))
  made_by true i =
      let same : ◌≡◌ {A = Job} i.job (with_task m.progress.job (task_with t cs q)) = (let e = i.is in cc) in
      let none : i.touched ≡ None = (let e = i.is in cc) in
      record {
        job = i.job;
        touched = Some n;
        is = ap (λ (j : Job). Ok (Goes j [] (Some n))) (sym same);
        present = present;
        stands = i.stands;
        changed = λ k. ⊎_elim (λ e. inl e) (λ c. ⊎_elim (λ a. inr (inl a)) (λ b. ⊎_elim (λ l. inr (inr (inl l))) (λ (z : IsTouched x plan m i.touched k). absurd (let P : Option ℕ → Type 0 = λ o. IsTouched x plan m o k in subst P none z)) b) c) (i.changed k);
      }
  made_by false i = absurd (let z : ⊥ = (let e = i.is in cc) in z)

  meets_by : (b : Bool) (r : Step) → Meets x plan s m r old new (row_by b None) → Meets x plan s m r old new (row_by b (Some n))
  meets_by b r i = grind (arith, made_by)

  pub meets_touching : (r : Step) → Meets x plan s m r old new (leaves_cells (here m t q) cs None) → Meets x plan s m r old new (leaves_cells (here m t q) cs (Some n))
  meets_touching r i = meets_by (nat_le (height (with_top_cells t.frames cs)) m.constants.stack_size) r i

overflow_by : (m : SessionJob) (t : Task) (q : Place) (cs : List Word) (touched : Option ℕ) (b : Bool) → (needs b StackOverflow >> Ok (Goes (with_task m.progress.job (task_with t cs q)) [] None)) ≡ Err StackOverflow
    → (needs b StackOverflow >> Ok (Goes (with_task m.progress.job (task_with t cs q)) [] touched)) ≡ Err StackOverflow
overflow_by m t q cs touched b e = grind arith

pub overflow_touching : (m : SessionJob) (t : Task) (q : Place) (cs : List Word) (touched : Option ℕ) → leaves_cells (here m t q) cs None ≡ Err StackOverflow → leaves_cells (here m t q) cs touched ≡ Err StackOverflow
overflow_touching m t q cs touched e = overflow_by m t q cs touched (nat_le (height (with_top_cells t.frames cs)) m.constants.stack_size) e

-- an absent element
pub absent_element : (x : Storage) (old : Cpu) (plan : Placement) (s : Session) (m : SessionJob) (t : Task) (ordered : IsInOrderButCounts s) (h : RepresentsSession x old plan s) (runs : IsRunning plan s.jobs m t)
    (count original : ℕ) (q : Place) (gone rest : List Word) (n : ℕ) (v : Word) → cells t ≡ gone ++ rest → length gone ≡ count → old.regs.f + count ≤ old.regs.s → old.regs.s - count < old.regs.losr
    → original ≡ plan.home m.constants.number n → area_held x plan m.constants.number n ≡ None
    → FindsAbsent x plan m (what.Array original) (leaves_cells (here m t q) (v ∷ rest) (Some n))
absent_element x old plan s m t ordered h runs count original q gone rest n v e len enough inside home absent =
    let test = fitting x old plan s m t ordered h runs count (old.regs.s - count + 1) gone rest v e len enough refl (omega (arith, inside)) in
    record { job = with_task m.progress.job (task_with t (v ∷ rest) q); touched = n; is = rw test refl; absent = absent; named = ap what.Array home }

-- an element that was found
holds_by : (cpu : Cpu) (runs : RunsSome cpu) (original index : ℕ) (e : Chase.End) → IsEnd runs.plan runs.member cpu.core (end.Element original index) e → HoldsElement cpu original index
holds_by cpu runs original index (AtElement n i) is = record { runs = runs; number = n; home = is.1; element = (let P : ℕ → Type 0 = λ k. HasElement runs.member.progress.job n k in subst P (sym is.0) is.2) }
holds_by cpu runs original index (AtCell f offset bits) is = absurd is
holds_by cpu runs original index (AtArray n) is = absurd is
holds_by cpu runs original index (AtProc f segment level place) is = absurd is
holds_by cpu runs original index (AtIntrinsic n) is = absurd is

pub holds_element : (cpu : Cpu) (found : End) (original index : ℕ) (q : SomeEnd cpu found) → found ≡ end.Element original index → HoldsElement cpu original index
holds_element cpu found original index q e = let P : End → Type 0 = λ z. IsEnd q.runs.plan q.runs.member cpu.core z q.end in holds_by cpu q.runs original index q.end (subst P e q.is)

array_by : (cpu : Cpu) (runs : RunsSome cpu) (original : ℕ) (e : Chase.End) → IsEnd runs.plan runs.member cpu.core (end.Array original) e → HoldsElement cpu original 0
array_by cpu runs original (AtArray n) is = record { runs = runs; number = n; home = is.0; element = is.1 }
array_by cpu runs original (AtCell f offset bits) is = absurd is
array_by cpu runs original (AtElement n i) is = absurd is
array_by cpu runs original (AtProc f segment level place) is = absurd is
array_by cpu runs original (AtIntrinsic n) is = absurd is

pub holds_array : (cpu : Cpu) (found : End) (original : ℕ) (q : SomeEnd cpu found) → found ≡ end.Array original → HoldsElement cpu original 0
holds_array cpu found original q e = let P : End → Type 0 = λ z. IsEnd q.runs.plan q.runs.member cpu.core z q.end in array_by cpu q.runs original q.end (subst P e q.is)

-- an end that was found is one
some_by : (cpu : Cpu) (runs : RunsSome cpu) (found : End) (e : Answer Chase.End) → FindsEnd runs.plan runs.member cpu.core (Ok found) e → SomeEnd cpu found
some_by cpu runs found (Ok e) is = record { runs = runs; end = e; is = is }
some_by cpu runs found (Err f) is = absurd is

pub some_end : (cpu : Cpu) (runs : RunsSome cpu) (found : End) (e : Answer Chase.End) → FindsEnd runs.plan runs.member cpu.core (Ok found) e → SomeEnd cpu found
some_end cpu runs found e is = some_by cpu runs found e is

-- the top cell may be followed
pub record TopFollowed (x : Storage) (plan : Placement) (m : SessionJob) (t : Task) (w : Tagged) : Type 0 where
  pub word : Word
  pub rest : List Word
  pub is : cells t ≡ word ∷ rest
  pub followed : IsFollowed x plan m t w word

top_order : (P : Starts) (arrays : List Array) (outer : List Known) (fs : List Frame) (a : Word) (rest : List Word) → FramesInOrder P arrays outer fs → (top fs).cells ≡ a ∷ rest → WordInOrder P arrays (map known_of fs ++ outer) (top fs).identity a
top_order P arrays outer fs a rest o e = grind arith

pub top_followed : (x : Storage) (cpu : Cpu) (plan : Placement) (s : Session) (m : SessionJob) (t : Task) (w : Tagged) → IsInOrderButCounts s → IsRunning plan s.jobs m t → GivesTop x plan m t cpu (cells t) (Ok w) → TopFollowed x plan m t w
top_followed x cpu plan s m t w ordered runs given = by_cells (cells t) refl given where
  by_cells : (cs : List Word) → cells t ≡ cs → GivesTop x plan m t cpu cs (Ok w) → TopFollowed x plan m t w
  by_cells [] e g = absurd (let z : ⊥ = cc in z)
  by_cells (a ∷ rest) e g =
      let same : g.0 ≡ w = (let d = g.1 in cc) in
      let W : Tagged → Type 0 = λ v. IsWordOf x plan m t a cpu.regs.s v in
      record {
        word = a;
        rest = rest;
        is = e;
        followed = record { at = cpu.regs.s; owner = (top t.frames).identity; is = subst W same g.2.is; ordered = top_order (IsSegment m.constants) m.progress.job.arrays (outer_of m.progress.job t) t.frames a rest (running_in_order plan s m t ordered runs).1.frames e };
      }

-- the word of a couple
pub couple_followed : (x : Storage) (plan : Placement) (m : SessionJob) (t : Task) (couple : ℕ) (w : Tagged) → couple < 2 ^ 14 → w ≡ irw_word (record { couple = couple }) → IsFollowed x plan m t w (Name couple)
couple_followed x plan m t couple w small is = record { at = 0; owner = 0; is = (is, λ z. omega (arith, z)); ordered = small }

-- what is followed is no original
pub followed_plain : (x : Storage) (m : SessionJob) (t : Task) (q : Place) (w : Word) (e : Chase.End) → follow (here m t q) w ≡ Ok e → is_original w ≡ false
followed_plain x m t q w e is = grind arith

module _ (x : Storage) (plan : Placement) (s : Session) (m : SessionJob) (t : Task) (q : Place) (old : Cpu) where
  -- what a fault of following makes
  pub refused : (row : Chase.End → Answer Done) (fault : Fault) (e : Answer Chase.End) → FindsEnd plan m old.core (Err fault) e → EntersOrMeets x plan s m (step.Fault fault) old old (enters_at e) (e >>= row)
  refused row fault e is = grind arith

  pub valc_row : (r : Step) (new : Cpu) (found : End) (e : Answer Chase.End) → FindsEnd plan m old.core (Ok found) e
      → ((f : Chase.End) → IsEnd plan m old.core found f → EntersOrMeets x plan s m r old new (is_procedure_end f) (value_at_end (here m t q) (cells t) f))
      → EntersOrMeets x plan s m r old new (enters_at e) (e >>= λ f. evaluates (here m t q) f)
  valc_row r new found e is value = grind arith

  pub load_row : (rest : List Word) (r : Step) (new : Cpu) (found : End) (e : Answer Chase.End) → FindsEnd plan m old.core (Ok found) e → ((o : ℕ) → found ≢ end.Array o)
      → ((f : Chase.End) → e ≡ Ok f → IsEnd plan m old.core found f → EntersOrMeets x plan s m r old new (is_procedure_end f) (value_at_end (here m t q) rest f))
      → EntersOrMeets x plan s m r old new (enters_at e) (e >>= λ f. rows.load_at (here m t q) rest f)
  load_row rest r new found e is other value = grind arith

  -- at an array
  copy_by : (rest : List Word) (r : Step) (new : Cpu) (original : ℕ) (e : Chase.End) → IsEnd plan m old.core (end.Array original) e
      → ((n : ℕ) → original ≡ plan.home m.constants.number n → HasElement m.progress.job n 0 → Meets x plan s m r old new (leaves_cells (here m t q) (Row n ∷ rest) None))
      → EntersOrMeets x plan s m r old new (is_procedure_end e) (rows.load_at (here m t q) rest e)
  copy_by rest r new original e is row = grind arith

  pub copy_row : (rest : List Word) (r : Step) (new : Cpu) (found : End) (original : ℕ) (e : Answer Chase.End) → found ≡ end.Array original → FindsEnd plan m old.core (Ok found) e
      → ((f : Chase.End) → e ≡ Ok f → (n : ℕ) → original ≡ plan.home m.constants.number n → HasElement m.progress.job n 0 → Meets x plan s m r old new (leaves_cells (here m t q) (Row n ∷ rest) None))
      → EntersOrMeets x plan s m r old new (enters_at e) (e >>= λ f. rows.load_at (here m t q) rest f)
  copy_row rest r new found original (Ok e) same is row = let P : End → Type 0 = λ z. IsEnd plan m old.core z e in copy_by rest r new original e (subst P same is) (row e refl)
  copy_row rest r new found original (Err g) same is row = absurd is

  -- LOAD without a cell
  pub load_missing : (fault : Fault) → GivesTop x plan m t old (cells t) (Err fault) → EntersOrMeets x plan s m (step.Fault fault) old old (enters_at (top_end (here m t q) (cells t))) (rows.load (here m t q) (cells t))
  load_missing fault given = grind arith

  -- by the cells
  pub load_at_top : (r : Step) (new : Cpu) (a : Word) (rest : List Word) → cells t ≡ a ∷ rest
      → EntersOrMeets x plan s m r old new (enters_at (follow (here m t q) a)) (follow (here m t q) a >>= λ f. rows.load_at (here m t q) rest f)
      → EntersOrMeets x plan s m r old new (enters_at (top_end (here m t q) (cells t))) (rows.load (here m t q) (cells t))
  load_at_top r new a rest e i = let P : List Word → Type 0 = λ cs. EntersOrMeets x plan s m r old new (enters_at (top_end (here m t q) cs)) (rows.load (here m t q) cs) in subst P (sym e) i
