-- A near operator: other cells on the running stack, and the same segment, held as it was.
use Rattle.std.proofs.Common.{◌≡◌, ◌≢◌, ℕ, ◌+◌, ◌-◌, Bool, true, false, List, [], ◌∷◌, ◌++◌, map, flat_map, length, Option, Some, None, Ok, refl, sym, ◌∙◌, ap, subst, arith}
use Rattle.std.specs.List.{slice_get, slice_range}
use Rattle.std.proofs.lemmas.List.{length-map}
use Rattle.std.proofs.lemmas.Option.{same_Some}
use Rattle.b67_word.specs.Tagged.{Tagged, word, contents}
use Rattle.b67_word.specs.declared.couples.Place.{Place}
use Rattle.b67_word.specs.declared.faults.Fault.{Fault}
use Rattle.b67_word.specs.declared.faults.Fault.TheVariants.{InvalidOperator}
use Rattle.b67_area.specs.declared.Kind.TheVariants as kind
use Rattle.b67_ctl.specs.Layout.{flag_bit}
use Rattle.b67_ctl.specs.declared.descriptors.SegDesc.{SegDesc}
use Rattle.b67_ctl.specs.Descriptors.{seg_word, IsSegDesc}
use Rattle.b67_lemmas.specs.Lists.{Has}
use Rattle.b67_lemmas.proofs.Keyed.{keyed-change_same}
use Rattle.b67_lemmas.proofs.Members.{change_found, has_append_right, keyed_has}
use Rattle.b67_lemmas.proofs.Places.{get_within}
use Rattle.b67_lemmas.specs.Keyed.{keyed}
use Rattle.b67_model.specs.declared.operators.Op.{Op}
use Rattle.b67_model.specs.declared.operators.Op.TheVariants.{Namc, Lt8, Lt16, Lt48, Mpcw, Plain}
use Rattle.b67_model.specs.declared.operators.Code.{Code}
use Rattle.b67_model.specs.declared.operators.Code.TheVariants as codes
use Rattle.b67_model.specs.Common.{Answer, ◌>>=◌, ◌>>◌, needs, is_proc, proc_of, cells_of, Word, Done, Goes, Line, Task, Job, SessionJob, Session, Segment, with_task, leaves_cells, OperatorContext, row, called, code_of, number_of}
use Rattle.b67_stack.specs.declared.Cpu.{Cpu}
use Rattle.b67_stack.specs.declared.Step.{Step}
use Rattle.b67_stack.specs.declared.Step.TheVariants as answers
use Rattle.b67_stack.specs.Common.{PagedObject, Storage, Content}
use Rattle.b67_stack.proofs.Lies.{upward-range}
use Rattle.b67_layout.specs.Common.{Placement, IsInOrderButCounts, IsRunning, RepresentsSession, RepresentsSessionBut, RunsSome, here, with_job, objects_gone, IsMade, Meets, code_objects, objects_of, array_object}
use Rattle.b67_layout.proofs.Common.{task_with, running_in_order}
use Rattle.b67_exec_cells.specs.Running.{code_held, code_desc, GivesSegment}
use Rattle.b67_exec_cells.proofs.Codes.{code_object, code-read, present, word-is, desc-fits}
use Rattle.b67_exec_cells.proofs.Replaced.{before, member_objects}
use Rattle.b67_entry.specs.Procedures.{CallsOrMeets}
use Rattle.b67_layout_step.specs.Keeping.{is_leaving}
use Rattle.b67_exec.specs.Operators.{is_quick}
use Rattle.b67_exec.specs.Near.{HoldsCode, is_straight, branch_op}

-- ---- what was answered

-- an operator that was made calls no intrinsic
pub made_near : (x : Storage) (plan : Placement) (s : Session) (m : SessionJob) (old new : Cpu) (calls : Option ℕ) (answer : Answer Done) → CallsOrMeets x plan s m answers.Done old new calls answer → IsMade x plan s m old new answer
made_near x plan s m old new calls answer i = grind arith

-- after another answer nothing has changed
pub unmet : (x : Storage) (plan : Placement) (s : Session) (m : SessionJob) (answered : Step) (old new : Cpu) (answer : Answer Done) → answered ≢ answers.Done → Meets x plan s m answered old new answer → new ≡ old
unmet x plan s m answered old new answer other i = grind arith

pub unmade : (x : Storage) (plan : Placement) (s : Session) (m : SessionJob) (answered : Step) (old new : Cpu) (calls : Option ℕ) (answer : Answer Done) → answered ≢ answers.Done → CallsOrMeets x plan s m answered old new calls answer → new ≡ old
unmade x plan s m answered old new calls answer other i = grind arith

-- ---- the rows

module _ (m : SessionJob) (t : Task) (job : Job) (printed : List Line) (touched : Option ℕ) (Goes_to : Place → Type 0) where
  -- the running task goes on with other cells in its top frame, at such a place
  pub record LeavesCells : Type 0 where
    pub cells : List Word
    pub place : Place
    pub is : job ≡ with_task m.progress.job (task_with t cells place)
    pub goes : Goes_to place

  pub leaves : (q : Place) → Goes_to q → (cs : List Word) → leaves_cells (here m t q) cs None ≡ Ok (Goes job printed touched) → LeavesCells
  leaves q goes cs e = grind arith

  by_cells : (q : Place) → Goes_to q → (r : Answer (List Word)) → (r >>= λ ds. leaves_cells (here m t q) ds None) ≡ Ok (Goes job printed touched) → LeavesCells
  by_cells q goes r e = grind arith

  by_code : (q : Place) → Goes_to q → (code : Code) → is_quick code ≡ true → row (Plain code) (here m t q) ≡ Ok (Goes job printed touched) → LeavesCells
  by_code q goes codes.Zero near e = leaves q goes _ e
  by_code q goes codes.One near e = leaves q goes _ e
  by_code q goes codes.Push near e = leaves q goes _ e
  by_code q goes codes.Add near e = by_cells q goes _ e
  by_code q goes codes.Subt near e = by_cells q goes _ e
  by_code q goes codes.Less near e = by_cells q goes _ e
  by_code q goes codes.Greq near e = by_cells q goes _ e
  by_code q goes codes.Grtr near e = by_cells q goes _ e
  by_code q goes codes.Lseq near e = by_cells q goes _ e
  by_code q goes codes.Equl near e = by_cells q goes _ e
  by_code q goes codes.Neql near e = by_cells q goes _ e
  by_code q goes codes.Dlet near e = by_cells q goes _ e
  by_code q goes codes.Exch near e = by_cells q goes _ e
  by_code q goes codes.Dupl near e = by_cells q goes _ e
  by_code q goes _ near e = absurd (let z : ⊥ = cc in z)

  by_needs : (q : Place) → Goes_to q → (fits : Bool) (fault : Fault) (cs : List Word) → (needs fits fault >> leaves_cells (here m t q) cs None) ≡ Ok (Goes job printed touched) → LeavesCells
  by_needs q goes fits fault cs e = grind arith

  -- an operator that goes on behind it
  pub straight_leaves : (q : Place) → Goes_to q → (op : Op) → is_straight op ≡ true → row op (here m t q) ≡ Ok (Goes job printed touched) → LeavesCells
  straight_leaves q goes (Namc couple) near e = leaves q goes _ e
  straight_leaves q goes (Lt8 n) near e = leaves q goes _ e
  straight_leaves q goes (Lt16 n) near e = leaves q goes _ e
  straight_leaves q goes (Lt48 n) near e = leaves q goes _ e
  straight_leaves q goes (Mpcw n) near e = by_needs q goes (is_proc (here m t q) n) InvalidOperator (proc_of n ∷ cells_of (here m t q)) e
  straight_leaves q goes (Plain code) near e = by_code q goes code near e
  straight_leaves q goes _ near e = absurd (let z : ⊥ = cc in z)

-- ---- descriptors

same_bit : (a b : Bool) → flag_bit a ≡ flag_bit b → a ≡ b
same_bit a b e = grind arith

same_fields : (a b : SegDesc) → a.present ≡ b.present → a.words ≡ b.words → a.address ≡ b.address → a ≡ b
same_fields a b present words address = grind arith

-- a word is one descriptor's
pub same_desc : (a b : SegDesc) → IsSegDesc a → IsSegDesc b → seg_word a ≡ seg_word b → a ≡ b
same_desc a b p q e = grind arith

-- ---- the segment

-- the member with another job
member_after : (s : Session) (m : SessionJob) (job : Job) → keyed number_of m.constants.number s.jobs ≡ Some m
    → keyed number_of m.constants.number (with_job s m job).jobs ≡ Some (record m { progress = record m.progress { job = job } })
member_after s m job there = keyed-change_same number_of m.constants.number (λ (y : SessionJob). record y { progress = record m.progress { job = job } }) (λ y. refl) s.jobs m there

module _ (x : Storage) (old new : Cpu) (plan : Placement) (s : Session) (m : SessionJob) (t : Task) (ordered : IsInOrderButCounts s) (h : RepresentsSession x old plan s) (runs : IsRunning plan s.jobs m t)
    (left : List PagedObject) (job : Job) (stands : RepresentsSessionBut left x new plan (with_job s m job)) (dict_is : new.regs.dict ≡ old.regs.dict) (segment_is : new.regs.segment ≡ old.regs.segment) where
  abbrev member : SessionJob
  member = record m { progress = record m.progress { job = job } }

  segment : (g : Segment) × (slice_get m.constants.segments (t.segment - 1) ≡ Some g)
  segment = let o = (running_in_order plan s m t ordered runs).1.place in get_within m.constants.segments (t.segment - 1) (omega (arith, o.from_one, o.within))

  code-is : code_of m.constants t.segment ≡ segment.0.code
  code-is = rw (segment.1) refl

  abbrev object : PagedObject
  object = record { home = plan.dictionary m.constants.number + 1 + t.segment; kind = kind.Code; numbers = segment.0.code }

  there : Has (left ++ flat_map (objects_of plan) (with_job s m job).jobs) object
  there =
      let o = (running_in_order plan s m t ordered runs).1.place in
      has_append_right left (flat_map (objects_of plan) (with_job s m job).jobs) object
      (member_objects plan (with_job s m job).jobs member object (keyed_has number_of m.constants.number (with_job s m job).jobs member (member_after s m job runs.member)).0
      (before (code_objects plan m.constants.number 1 m.constants.segments) (map (array_object plan m.constants.number) job.arrays) object
      (code_object plan m.constants.number 1 m.constants.segments (t.segment - 1) (plan.dictionary m.constants.number + 1 + t.segment) segment.0 segment.1 (omega (arith, o.from_one)))))

  -- the running segment's descriptor stands where it stood
  pub word_after : slice_get new.core (new.regs.dict + new.regs.segment) ≡ Some (seg_word (code_desc x plan m t))
  word_after = grind (arith, there)

  contents-words : (tag : ℕ) (ns : List ℕ) → contents (map (word tag) ns) ≡ ns
  contents-words tag [] = refl
  contents-words tag (n ∷ ns) = ap (λ ms. n ∷ ms) (contents-words tag ns)

  -- and so do its words
  pub words_after : (desc : SegDesc) (words : List Tagged) → GivesSegment x plan m t (Some desc) → words ≡ slice_range new.core desc.address (desc.address + desc.words) → contents words ≡ code_of m.constants t.segment
  words_after desc words given is =
      let C : Option ℕ → Type 0 = λ o. Content x new.core object o (code_held x plan m t).chain in
      let up = (subst C (present x old plan s m t ordered h runs desc given.0 given.1) (stands.holds.memory.objects object there).content).0 in
      grind (arith, length-map, upward-range, contents-words)

-- ---- what stays

-- where the segment is the same, so are its descriptor and its code
module _ (old new : Cpu) (desc : SegDesc) (r : RunsSome old) (answer : Answer Done) (k : IsMade r.storage r.plan r.session r.member old new answer)
    (dict_is : new.regs.dict ≡ old.regs.dict) (segment_is : new.regs.segment ≡ old.regs.segment) (code : HoldsCode old desc) where
  abbrev left : List PagedObject
  left = objects_gone r.plan r.member k.job

  given : GivesSegment r.storage r.plan r.member r.task (Some desc)
  given = code r.storage r.plan r.session r.member r.task r.ordered r.stands r.running

  pub holds_on : HoldsCode new desc
  holds_on x plan s m t ordered h runs =
      let before_is = word_after r.storage old new r.plan r.session r.member r.task r.ordered r.stands r.running left k.job k.stands dict_is segment_is in
      let now_is = word-is x new plan s m t ordered h runs in
      let one : seg_word (code_desc r.storage r.plan r.member r.task) ≡ seg_word (code_desc x plan m t) = same_Some _ _ (sym before_is ∙ now_is) in
      (given.0 ∙ same_desc (code_desc r.storage r.plan r.member r.task) (code_desc x plan m t) (desc-fits r.storage old r.plan r.session r.member r.task r.ordered r.stands r.running) (desc-fits x new plan s m t ordered h runs) one, given.1)

  pub code_on : (x : Storage) (plan : Placement) (s : Session) (m : SessionJob) (t : Task) → IsInOrderButCounts s → RepresentsSession x new plan s → IsRunning plan s.jobs m t → code_of r.member.constants r.task.segment ≡ code_of m.constants t.segment
  code_on x plan s m t ordered h runs =
      let now = holds_on x plan s m t ordered h runs in
      let words : List Tagged = slice_range new.core desc.address (desc.address + desc.words) in
      let length-is : words ≡ slice_range new.core desc.address (desc.address + length (code_of m.constants t.segment)) = ap (λ (n : ℕ). slice_range new.core desc.address (desc.address + n)) (ap (λ (d : SegDesc). d.words) now.0) in
      sym (words_after r.storage old new r.plan r.session r.member r.task r.ordered r.stands r.running left k.job k.stands dict_is segment_is desc words given refl)
      ∙ code-read x new plan s m t ordered h runs desc.address words (present x new plan s m t ordered h runs desc now.0 now.1) length-is

-- with other cells alone the task goes on in its segment
module _ (old new : Cpu) (r : RunsSome old) (answer : Answer Done) (k : IsMade r.storage r.plan r.session r.member old new answer) (Goes_to : Place → Type 0)
    (l : LeavesCells r.member r.task k.job [] k.touched Goes_to) where
  abbrev task : Task
  task = task_with r.task l.cells l.place

  abbrev job : Job
  job = with_task r.member.progress.job task

  shows : RepresentsSessionBut (objects_gone r.plan r.member k.job) r.storage new r.plan (with_job r.session r.member job)
  shows = let S : Job → Type 0 = λ j. RepresentsSessionBut (objects_gone r.plan r.member k.job) r.storage new r.plan (with_job r.session r.member j) in subst S l.is k.stands

  found_member : IsRunning r.plan (with_job r.session r.member job).jobs (record r.member { progress = record r.member.progress { job = job } }) task
  found_member = grind (arith, member_after, change_found)

  pub place_on : new.regs.place ≡ l.place
  place_on = (shows.holds.running _ _ found_member).place

  pub dict_on : new.regs.dict ≡ old.regs.dict
  dict_on = let now = shows.holds.running _ _ found_member in let before_it = r.stands.holds.running r.member r.task r.running in omega (arith, now.dict, before_it.dict)

  pub segment_on : new.regs.segment ≡ old.regs.segment
  segment_on = let now = shows.holds.running _ _ found_member in let before_it = r.stands.holds.running r.member r.task r.running in omega (arith, now.segment, before_it.segment)

-- a near operator leaves no activation record and calls no intrinsic
code_stays : (code : Code) → is_quick code ≡ true → is_leaving (Plain code) ≡ false
code_stays code near = grind arith

pub straight_stays : (op : Op) → is_straight op ≡ true → is_leaving op ≡ false
straight_stays op near = grind arith

pub straight_calls : (op : Op) → is_straight op ≡ true → (h : OperatorContext) → called op h ≡ None
straight_calls op near h = grind arith

pub branch_stays : (always wanted : Bool) (target : Place) → is_leaving (branch_op always wanted target) ≡ false
branch_stays always wanted target = grind arith

pub branch_calls : (always wanted : Bool) (target : Place) (h : OperatorContext) → called (branch_op always wanted target) h ≡ None
branch_calls always wanted target h = grind arith
