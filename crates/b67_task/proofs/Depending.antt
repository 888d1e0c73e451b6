-- On which marks of a slot the rows' tasks depend.
use Rattle.std.proofs.Common.{◌≡◌, ℕ, ◌+◌, ◌<◌, ◌≤◌, List, [], ◌∷◌, map, Option, Bool, true, false, refl, sym, ◌∙◌, ap, arith, inl, inr, ⊎_elim, subst, ◌==◌}
use Rattle.std.specs.Prelude.{◌&&◌}
use Rattle.std.specs.List.{list_any}
use Rattle.std.proofs.lemmas.Bool.{cases_Bool, cases_eq, eq-eqb, ne_eqb, eqb-true, true≢false}
use Rattle.b67_lemmas.specs.Lists.{Has}
use Rattle.b67_lemmas.proofs.Members.{any_has, any_some, has_map, has_map_back, total_has}
use Rattle.b67_model.specs.Common.{Standing, Frame, Task, SessionJob, head_words, height, is_critical, Session, IsSegment, TasksInOrder, identities, frames_named}
use Rattle.b67_law.proofs.Looks.{above_one}
use Rattle.b67_stack.specs.Stacks.{StackPlace}
use Rattle.b67_stack.specs.Represents.{Storage}
use Rattle.b67_layout.specs.Common.{IsInOrderButCounts, Placement, slot_of, spot_in, base_spot}
use Rattle.b67_layout.specs.Rows as rows
use Rattle.b67_layout.proofs.Fresh.{job_in_order}
use Rattle.b67_layout.proofs.Rows.{slot_below}
use Rattle.b67_task.specs.declared.tables.TaskRow.{TaskRow}
use Rattle.b67_task.specs.declared.tables.Machine.{Machine}
use Rattle.b67_task.specs.Tables as tables
use Rattle.b67_task.specs.Tables.{MachineRepresents, counts_of, job_row}
use Rattle.b67_task.proofs.Owners.{counted}
use Rattle.b67_task.proofs.TopMarks.{Under, one_frame, one_slot, one_task, under_of, under_row}
use Rattle.b67_task.specs.Marks.{MarkStandsAt, IsMarkAt, depends_on}

-- ---- marks of frames

some_words : (s : Standing) → 1 ≤ head_words s
some_words s = grind arith

mark_low : (fs : List Frame) (f : Frame) (mark : ℕ) → MarkStandsAt fs f mark → mark < height fs
mark_low [] f mark h = absurd h
mark_low (g ∷ below) f mark (inl e) = omega (arith, e.1, some_words g.standing)
mark_low (g ∷ below) f mark (inr h) = omega (arith, mark_low below f mark h)

mark_among : (fs : List Frame) (f : Frame) (mark : ℕ) → MarkStandsAt fs f mark → Has fs f
mark_among [] f mark h = absurd h
mark_among (g ∷ below) f mark (inl e) = inl e.0
mark_among (g ∷ below) f mark (inr h) = inr (mark_among below f mark h)

-- at a mark there is one frame
one_mark : (fs : List Frame) (f g : Frame) (mark : ℕ) → MarkStandsAt fs f mark → MarkStandsAt fs g mark → f ≡ g
one_mark [] f g mark a b = absurd a
one_mark (h ∷ below) f g mark (inl a) (inl b) = sym a.0 ∙ b.0
one_mark (h ∷ below) f g mark (inl a) (inr b) = absurd (let low = mark_low below g mark b in let w : ⊥ = omega (arith, low, a.1) in w)
one_mark (h ∷ below) f g mark (inr a) (inl b) = absurd (let low = mark_low below f mark a in let w : ⊥ = omega (arith, low, b.1) in w)
one_mark (h ∷ below) f g mark (inr a) (inr b) = one_mark below f g mark a b

-- the frame that is found by its identity
record Found (fs : List Frame) (identity mark : ℕ) : Type 0 where
  pub frame : Frame
  pub is : frame.identity ≡ identity
  pub there : MarkStandsAt fs frame mark

found : (k : ℕ) (outer : ℕ → StackPlace) (fs : List Frame) (c : ℕ) → Has (identities fs) c → Found fs c (spot_in k outer fs c).disp
found k outer [] c i = absurd i
found k outer (f ∷ below) c i = grind (arith, found k outer below c)

-- no identity is twice among the frames, so a frame is found at its mark
own_mark : (k : ℕ) (outer : ℕ → StackPlace) (fs : List Frame) (f : Frame) (mark : ℕ) → MarkStandsAt fs f mark → frames_named f.identity fs ≤ 1 → (spot_in k outer fs f.identity).disp ≡ mark
own_mark k outer [] f mark h once = absurd h
own_mark k outer (g ∷ below) f mark h once = elim (cases_eq g.identity f.identity) [
  | inl e ↦
      (let few : 1 + frames_named f.identity below ≤ 1 = rw (eq-eqb g.identity f.identity e) at once in
      rw (eq-eqb g.identity f.identity e)
      (⊎_elim
      (λ (a : (g ≡ f) × (mark ≡ height below)). sym a.1)
      (λ (b : MarkStandsAt below f mark).
      absurd (let again = counted f.identity below (has_map (λ (z : Frame). z.identity) below f (mark_among below f mark b)) in let w : ⊥ = omega (arith, few, again) in w))
      h))
  | inr ne ↦
      (let few : 0 + frames_named f.identity below ≤ 1 = rw (ne_eqb g.identity f.identity ne) at once in
      rw (ne_eqb g.identity f.identity ne)
      (⊎_elim
      (λ (a : (g ≡ f) × (mark ≡ height below)). absurd (ne (ap (λ (z : Frame). z.identity) a.0)))
      (λ (b : MarkStandsAt below f mark). own_mark k outer below f mark b (omega (arith, few)))
      h))
]

both_and : (a b : Bool) → (a && b) ≡ true → (a ≡ true) × (b ≡ true)
both_and a b e = grind arith

-- ---- rows

module _ (x : Storage) (told : Option (List (List ℕ))) (k : Machine) (plan : Placement) (s : Session) (o : IsInOrderButCounts s) (h : MachineRepresents x told k plan s) where
  good : (y : SessionJob) → Has s.jobs y → TasksInOrder (IsSegment y.constants) y.constants y.progress.job
  good y i = (job_in_order s y o i).tasks

  abbrev rs : List TaskRow
  rs = k.tasks.rows.items

  -- whose mark it is, if a row's task depends on it
  record Depended (slot mark : ℕ) : Type 0 where
    pub member : SessionJob
    pub task : Task
    pub frame : Frame
    pub at : IsMarkAt plan s member task frame slot mark
    pub critical : is_critical member.progress.job frame.identity ≡ true

  depended : (slot mark : ℕ) → slot < 120 → list_any (depends_on slot mark) rs ≡ true → Depended slot mark
  depended slot mark low e =
      let (q, in_q, t) = any_has (depends_on slot mark) rs e in
      let both = both_and (q.parent == slot) (q.critical == mark) t in
      let parent : q.parent ≡ slot = eqb-true q.parent slot both.0 in
      let at : q.critical ≡ mark = eqb-true q.critical mark both.1 in
      let (y, u, in_y, in_u, w, p) = under_row plan s o.numbered h.session.holds.fits.rows h.session.holds.fits.few good rs (map job_row k.tasks.jobs) (counts_of k.tasks) h.tables slot low q in_q parent in
      let f = found (slot_of plan y.constants.number p.parent.number) (base_spot y.constants.number) p.parent.frames u.critical p.critical in
      record {
        member = y;
        task = p.parent;
        frame = f.frame;
        at = record {
          member = in_y;
          live = p.live;
          stack = sym parent ∙ w.parent ∙ p.slot;
          stands = subst (MarkStandsAt p.parent.frames f.frame) (sym p.disp ∙ sym w.critical ∙ at) f.there;
        };
        critical = any_some (λ (v : Task). v.critical == f.frame.identity) y.progress.job.tasks u in_u (eq-eqb u.critical f.frame.identity (sym f.is));
      }

  -- a mark of a slot is that of one frame
  same_frame : (m n : SessionJob) (t u : Task) (f g : Frame) (slot mark : ℕ) → IsMarkAt plan s m t f slot mark → IsMarkAt plan s n u g slot mark → is_critical n.progress.job g.identity ≡ is_critical m.progress.job f.identity
  same_frame m n t u f g slot mark a b =
      let one = one_slot plan s o.numbered h.session.holds.fits.rows h.session.holds.fits.few good rs (map job_row k.tasks.jobs) (counts_of k.tasks) h.tables n m u t b.member a.member b.live a.live (sym b.stack ∙ a.stack) in
      let live : Has m.progress.job.tasks u = subst (λ (z : SessionJob). Has z.progress.job.tasks u) one.0 b.live in
      let same : u ≡ t = one_task plan s o.numbered h.session.holds.fits.rows h.session.holds.fits.few good rs (map job_row k.tasks.jobs) (counts_of k.tasks) h.tables m a.member u t live a.live one.1 in
      grind (arith, one_mark)

  -- a row shows who depends on a frame
  shown : (m : SessionJob) (t : Task) (f : Frame) (slot mark : ℕ) → IsMarkAt plan s m t f slot mark → is_critical m.progress.job f.identity ≡ true → list_any (depends_on slot mark) rs ≡ true
  shown m t f slot mark a e =
      let (u, in_u, at) = any_has (λ (v : Task). v.critical == f.identity) m.progress.job.tasks e in
      let is : u.critical ≡ f.identity = eqb-true u.critical f.identity at in
      let among = mark_among t.frames f mark a.stands in
      let named = has_map (λ (z : Frame). z.identity) t.frames f among in
      let high = above_one (IsSegment m.constants) m.constants m.progress.job (good m a.member) t a.live f among in
      let j = m.constants.number in
      ⊎_elim
      (λ (n : (u.parents ≡ []) × (u.critical ≡ 0)). absurd (let z : ⊥ = omega (arith, n.1, is, high) in z))
      (λ (p : Under plan s o.numbered h.session.holds.fits.rows h.session.holds.fits.few good rs (map job_row k.tasks.jobs) (counts_of k.tasks) h.tables m u).
      (let same : p.parent ≡ t = one_frame plan s o.numbered h.session.holds.fits.rows h.session.holds.fits.few good rs (map job_row k.tasks.jobs) (counts_of k.tasks) h.tables m a.member p.parent t p.live a.live f.identity (subst (Has (identities p.parent.frames)) is p.critical) named in
      let (row, in_row, sh) = h.tables.each m u a.member in_u in
      let b = has_map_back tables.task_row rs row in_row in
      let parent : b.item.parent ≡ slot = ap (λ (z : rows.TaskRow). z.parent) b.is ∙ sh.parent ∙ p.slot ∙ ap (λ (v : Task). slot_of plan j v.number) same ∙ sym a.stack in
      let once : frames_named f.identity t.frames ≤ 1 =
      (let all = (good m a.member).apart f.identity in let own = total_has (λ (v : Task). frames_named f.identity v.frames) m.progress.job.tasks t a.live in omega (arith, all, own)) in
      let critical : b.item.critical ≡ mark =
      ap (λ (z : rows.TaskRow). z.critical) b.is ∙ sh.critical ∙ p.disp ∙ ap (λ (v : Task). (spot_in (slot_of plan j v.number) (base_spot j) v.frames u.critical).disp) same
      ∙ ap (λ (n : ℕ). (spot_in (slot_of plan j t.number) (base_spot j) t.frames n).disp) is
      ∙ own_mark (slot_of plan j t.number) (base_spot j) t.frames f mark a.stands once in
      any_some (depends_on slot mark) rs b.item b.among (rw (eq-eqb b.item.parent slot parent, eq-eqb b.item.critical mark critical) refl)))
      (under_of plan s o.numbered h.session.holds.fits.rows h.session.holds.fits.few good rs (map job_row k.tasks.jobs) (counts_of k.tasks) h.tables m u a.member in_u u.parents refl)

  slot_low : (m : SessionJob) (t : Task) (f : Frame) (slot mark : ℕ) → IsMarkAt plan s m t f slot mark → slot < 120
  slot_low m t f slot mark a = omega (arith, a.stack, slot_below plan s.jobs m t h.session.holds.fits.rows a.member a.live, h.session.holds.fits.few)

  -- the rows tell whether a live task depends on a frame
  pub mark_told : (m : SessionJob) (t : Task) (f : Frame) (slot mark : ℕ) → IsMarkAt plan s m t f slot mark → list_any (depends_on slot mark) rs ≡ is_critical m.progress.job f.identity
  mark_told m t f slot mark a = elim (cases_Bool (list_any (depends_on slot mark) rs)) [
    | inl e ↦
        (let d = depended slot mark (slot_low m t f slot mark a) e in
        e ∙ sym d.critical ∙ same_frame m d.member t d.task f d.frame slot mark a d.at)
    | inr e ↦ elim (cases_Bool (is_critical m.progress.job f.identity)) [
      | inl c ↦ absurd (true≢false (sym (shown m t f slot mark a c) ∙ e))
      | inr c ↦ e ∙ sym c
    ]
  ]

  pub none_told : (slot mark : ℕ) → slot < 120 → ((m : SessionJob) (t : Task) (f : Frame) → IsMarkAt plan s m t f slot mark → ⊥) → list_any (depends_on slot mark) rs ≡ false
  none_told slot mark low none = elim (cases_Bool (list_any (depends_on slot mark) rs)) [
    | inl e ↦ (let d = depended slot mark low e in absurd (none d.member d.task d.frame d.at))
    | inr e ↦ e
  ]

  -- beyond the last slot there are no marks
  pub no_slot : (m : SessionJob) (t : Task) (f : Frame) (slot mark : ℕ) → 120 ≤ slot → IsMarkAt plan s m t f slot mark → ⊥
  no_slot m t f slot mark high a = omega (arith, high, slot_low m t f slot mark a)
