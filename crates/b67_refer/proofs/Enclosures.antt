-- The activation record of a stack in which a procedure's cell lies, met on the way down its marks.
use Rattle.std.proofs.Common.{◌≡◌, ℕ, ◌+◌, ◌-◌, ◌<◌, ◌≤◌, List, Some, Ok, refl, sym, ◌∙◌, ap, arith, ◌⊎◌, ⊎_elim, inl, inr, subst}
use Rattle.std.specs.List.{slice_get}
use Rattle.std.proofs.lemmas.Option.{same_Some}
use Rattle.std.proofs.lemmas.Bool.{cases_lt}
use Rattle.b67_word.specs.Tagged.{Tagged}
use Rattle.b67_word.specs.declared.couples.Place.{Place}
use Rattle.b67_ctl.specs.declared.registers.Regs.{Regs}
use Rattle.b67_ctl.specs.declared.marks.Mscw.{Mscw}
use Rattle.b67_ctl.specs.declared.programs.IntrinsicPcw.{IntrinsicPcw}
use Rattle.b67_ctl.specs.declared.references.Irw.{Irw}
use Rattle.b67_ctl.specs.Layout.{mscw_word, IsMscw, irw_word, IsIrw, intrinsic_word, IsIntrinsicPcw}
use Rattle.b67_word.specs.Couples.{couple}
use Rattle.b67_word.specs.declared.couples.Couple.{Couple}
use Rattle.b67_model.specs.Common.{Answer, Word, Name, Proc, height, cell, named, place_of, link_at, running_level, OperatorContext}
use Rattle.b67_layout.specs.Meets.{here}
use Rattle.b67_refer.specs.RunningContext.{RunningContext, IsShown, live_of}
use Rattle.b67_refer.specs.Cells.{frame_at_core, StandsFor, IsCellAt, FindsCell}
use Rattle.b67_refer.specs.LiveCells.{IsUnder}
use Rattle.b67_refer.specs.LiveCells as live
use Rattle.b67_refer.specs.LiveEnds.{LinkMeets}
use Rattle.b67_refer.specs.Own.{NamesCell}
use Rattle.b67_refer.specs.declared.ends.End.TheVariants as end
use Rattle.b67_refer.proofs.Chains.{level_is}
use Rattle.b67_refer.proofs.Names.{couple_stands}
use Rattle.b67_refer.proofs.Procs.{proc_end}
use Rattle.b67_refer.specs.Ends.{IsProcAt}
use Rattle.b67_refer.proofs.Seats.{seat}
use Rattle.b67_refer.proofs.Rule.{cells_end, seat_address, no_mark_under, return_tag}
use Rattle.b67_refer.proofs.Scans.{mark_there, bounds}
use Rattle.b67_refer.proofs.Walks.{Spans, top_spans, slot_spans, has_mark, plain, down}

module _ (core : List Tagged) (r : Regs) (a : RunningContext core r) where
  -- a mark of a stack, and the one over it or the place over the top. Under the lowest mark there is none
  pub record Between (mark past : ℕ) : Type 0 where
    pub over : ℕ
    pub spans : Spans core r (live_of a) mark over
    pub is : (past ≡ over) ⊎ (past ≡ mark)

  pub between_start : Between r.f (r.s + 1)
  between_start = record { over = r.s + 1; spans = top_spans core r (live_of a); is = inl refl }

  -- in the stack of the procedure's frame
  pub cell_under : (q : Place) (cell f segment level : ℕ) (place : Place) (p : IsProcAt a q cell f segment level place) → (top : ℕ) × IsUnder (live_of a) cell top
  cell_under q cell f segment level place p =
      let b = seat core r (live_of a) f p.cell.names.standing p.cell.names.among p.own in
      let z = cells_end core r (live_of a) q f p.cell.names.standing b p.cell.names.entered p.own in
      let at = seat_address core r (live_of a) q f p.cell.names.standing b p.cell.names.entered p.own in
      let i = (bounds core r a q cell f segment level place p).1 in
      let c = p.cell.address in (
        b.top,
        record {
          slot = b.slot;
          disp = height b.below + p.offset;
          low = omega (arith, z, at, i, b.part.low, b.part.room);
          at = omega (arith, c, at);
          is = b.top_is;
        },
      )

  pub between_under : (q : Place) (cell f segment level : ℕ) (place : Place) (p : IsProcAt a q cell f segment level place) (mark past : ℕ)
      → ((top : ℕ) (under : IsUnder (live_of a) cell top) → mark ≡ under.is.mark) → ((top : ℕ) → IsUnder (live_of a) cell top → past ≡ top + 1) → Between mark past
  unfolding cell_under
  between_under q cell f segment level place p mark past is ends =
      let b = seat core r (live_of a) f p.cell.names.standing p.cell.names.among p.own in
      let c = cell_under q cell f segment level place p in
      let S : ℕ → Type 0 = λ m. Spans core r (live_of a) m (c.0 + 1) in
      record { over = c.0 + 1; spans = subst S (sym (is c.0 c.1)) (slot_spans core r (live_of a) cell c.0 c.1 b.held.holder b.held.live b.held.slot); is = inl (ends c.0 c.1) }

  pub between_at : (m n p o : ℕ) → m ≡ n → p ≡ o → Between n o → Between m p
  between_at m n p o e i b = grind arith

  pub between_mark : (mark past : ℕ) → Between mark past → (m : Mscw) × IsMscw m × (slice_get core mark ≡ Some (mscw_word m))
  between_mark mark past b = has_mark core r (live_of a) mark b.over b.spans

  pub between_down : (mark past : ℕ) → Between mark past → (m : Mscw) → ((k : Mscw) → IsMscw k → slice_get core mark ≡ Some (mscw_word k) → m ≡ k) → (m.back ≤ mark) × Between (mark - m.back) mark
  between_down mark past b m read =
      let d = down core r (live_of a) mark b.over b.spans m read in
      let S : ℕ → Type 0 = λ n. Spans core r (live_of a) n b.over in (
        d.0,
        ⊎_elim
            (λ (z : mark - m.back ≡ mark). (let w : Between (mark - m.back) mark = record { over = b.over; spans = subst S (sym z) b.spans; is = inr (sym z) } in w))
            (λ z. (let w : Between (mark - m.back) mark = record { over = mark; spans = z; is = inl refl } in w))
            d.1,
      )

  module _ (q : Place) (cell f segment level : ℕ) (place : Place) (p : IsProcAt a q cell f segment level place) where
    -- no word from the first cell up to the procedure's has tag 3
    cells_plain : (k : ℕ) (w : Tagged) → 2 ≤ k → k ≤ p.offset → slice_get core (frame_at_core a f + k) ≡ Some w → w.tag ≡ 3 → ⊥
    cells_plain k w low up there tag = no_mark_under core r (live_of a) q f p.cell.names.standing (seat core r (live_of a) f p.cell.names.standing p.cell.names.among p.own) p.cell.names.entered p.own p.offset k (Proc segment level place) w p.cell.found low up there tag

    -- an entered record with the procedure's cell is that of the frame
    pub encloses : (mark past : ℕ) (w : Tagged) → Between mark past → mark < cell → cell < past → slice_get core (mark + 1) ≡ Some w → w.tag ≡ 3 → mark ≡ frame_at_core a f
    encloses mark past w b under inside return tag =
        let at = p.cell.address in
        let two = (bounds core r a q cell f segment level place p).0 in
        let m = has_mark core r (live_of a) mark b.over b.spans in
        let k = mark_there core r a q cell f segment level place p in
        let t = return_tag core r (live_of a) q f p.cell.names.standing (seat core r (live_of a) f p.cell.names.standing p.cell.names.among p.own) p.cell.names.entered p.own in
        let end : cell < b.over = ⊎_elim (λ z. omega (arith, z, inside)) (λ z. omega (arith, z, inside, under)) b.is in
        elim (cases_lt (frame_at_core a f) mark) [
          | inl low ↦ absurd (elim (cases_lt (frame_at_core a f + 1) mark) [
            | inl far ↦ (let i : frame_at_core a f + (mark - frame_at_core a f) ≡ mark = omega (arith, low) in cells_plain (mark - frame_at_core a f) (mscw_word m.0) (omega (arith, far)) (omega (arith, at, under)) (ap (slice_get core) i ∙ m.2) refl)
            | inr near ↦ (let i : frame_at_core a f + 2 ≡ mark + 1 = omega (arith, low, near) in cells_plain 2 w (omega arith) two (ap (slice_get core) i ∙ return) tag)
          ])
          | inr high ↦ elim (cases_lt mark (frame_at_core a f)) [
            | inl more ↦ absurd (elim (cases_lt (mark + 1) (frame_at_core a f)) [
              | inl far ↦ plain core r (live_of a) mark b.over b.spans (frame_at_core a f) (mscw_word k.0) (omega (arith, far)) (omega (arith, end, at, two)) k.2 refl
              | inr near ↦ plain core r (live_of a) mark b.over b.spans (frame_at_core a f + 1) t.0 (omega (arith, more)) (omega (arith, end, at, two)) t.1 t.2
            ])
            | inr same ↦ omega (arith, high, same)
          ]
        ]

    -- the frame of another name of the cell is the same
    module _ (h other ring : ℕ) (start : Place) (o : IsProcAt a q cell h other ring start) where
      not_under : frame_at_core a f < frame_at_core a h → ⊥
      not_under low =
          let at = p.cell.address in
          let end = o.cell.address in
          let two = (bounds core r a q cell h other ring start o).0 in
          let m = mark_there core r a q cell h other ring start o in
          let t = return_tag core r (live_of a) q h o.cell.names.standing (seat core r (live_of a) h o.cell.names.standing o.cell.names.among o.own) o.cell.names.entered o.own in
          elim (cases_lt (frame_at_core a f + 1) (frame_at_core a h)) [
            | inl far ↦ (let i : frame_at_core a f + (frame_at_core a h - frame_at_core a f) ≡ frame_at_core a h = omega (arith, low) in cells_plain (frame_at_core a h - frame_at_core a f) (mscw_word m.0) (omega (arith, far)) (omega (arith, at, end, two)) (ap (slice_get core) i ∙ m.2) refl)
            | inr near ↦ (let i : frame_at_core a f + 2 ≡ frame_at_core a h + 1 = omega (arith, low, near) in cells_plain 2 t.0 (omega arith) (omega (arith, at, end, two, i)) (ap (slice_get core) i ∙ t.1) t.2)
          ]

pub one_home : (core : List Tagged) (r : Regs) (a : RunningContext core r) (q : Place) (cell f segment level : ℕ) (place : Place) → IsProcAt a q cell f segment level place
    → (h other ring : ℕ) (start : Place) → IsProcAt a q cell h other ring start → frame_at_core a f ≡ frame_at_core a h
one_home core r a q cell f segment level place p h other ring start o = elim (cases_lt (frame_at_core a f) (frame_at_core a h)) [
  | inl low ↦ absurd (not_under core r a q cell f segment level place p h other ring start o low)
  | inr high ↦ elim (cases_lt (frame_at_core a h) (frame_at_core a f)) [
    | inl more ↦ absurd (not_under core r a q cell h other ring start o f segment level place p more)
    | inr same ↦ omega (arith, high, same)
  ]
]

-- the cell that was found for a couple is at its displacement
module _ (core : List Tagged) (r : Regs) (a : RunningContext core r) (q : Place) where
  pub record CoupleCell (at : ℕ) (answer : Answer (ℕ × ℕ)) : Type 0 where
    pub frame : ℕ
    pub offset : ℕ
    pub word : Word
    pub is : answer ≡ Ok (frame, offset)
    pub cell : IsCellAt a q at frame offset word

  couple_cell : (at : ℕ) (answer : Answer (ℕ × ℕ)) → FindsCell a q (Ok at) answer → CoupleCell at answer
  couple_cell at answer found = grind arith

  proc_link : (at f offset : ℕ) (w : Word) → LinkMeets (live_of a) q (Ok (Some (end.Proc at))) (link_at (here a.member a.task q) f offset w)
      → (segment : ℕ) × (level : ℕ) × (place : Place) × IsProcAt a q at f segment level place
  proc_link at f offset w m = grind arith

  at_disp : (h : OperatorContext) (c : Couple) (frame offset : ℕ) → named h c ≡ Ok (frame, offset) → offset ≡ c.disp
  at_disp h c frame offset is = grind arith

  named_offset : (bits frame offset : ℕ) → place_of (here a.member a.task q) (Name bits) ≡ Ok (frame, offset) → offset ≡ (couple bits r.level).disp
  named_offset bits frame offset is = at_disp (here a.member a.task q) (couple bits (running_level (here a.member a.task q))) frame offset is ∙ ap (λ (n : ℕ). (couple bits n).disp) (sym (level_is core r a))

-- the mark of the frame of a near procedure is that many words under its cell as the couple's displacement says
pub named_home : (core : List Tagged) (r : Regs) (display : List ℕ) (w : Tagged) (at : ℕ) → NamesCell core r display w at → (v : Tagged) → slice_get core at ≡ Some v → v.tag ≡ 7
    → ((p : IntrinsicPcw) → IsIntrinsicPcw p → v ≡ intrinsic_word p → ⊥) → (name : Irw) → IsIrw name → w ≡ irw_word name → (a : RunningContext core r) (q : Place) → IsShown a display
    → (f segment level : ℕ) (place : Place) → IsProcAt a q at f segment level place → at ≡ frame_at_core a f + (couple name.couple r.level).disp
named_home core r display w at names v there tag other name fits is a q shown f segment level place p =
    let n = names a q shown 0 0 (Name name.couple) (couple_stands core r (live_of a) w name fits is) in
    let c = couple_cell core r a q at (place_of (here a.member a.task q) (Name name.couple)) n.1 in
    let held = subst (λ (z : Tagged). live.StandsFor (live_of a) at c.frame z c.word) (same_Some _ _ (sym c.cell.there ∙ there)) c.cell.stands in
    let (s, l, g, o) = proc_link core r a q at c.frame c.offset c.word (proc_end core r (live_of a) q at c.frame c.offset c.word v c.cell held tag other) in
    let same = one_home core r a q at f segment level place p c.frame s l g o in
    let d = named_offset core r a q name.couple c.frame c.offset c.is in
    omega (arith, same, d, c.cell.address)
