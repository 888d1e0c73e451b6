-- The cell that a reference word names, and one turn of a chain.
use Rattle.std.proofs.Common.{◌≡◌, ℕ, zero, suc, ◌+◌, ◌-◌, ◌<◌, ◌≤◌, ◌^◌, List, Some, None, Result, Ok, Err, refl, sym, ◌∙◌, ap, arith, ⊎_elim, ◌⊎◌, subst, Bool}
use Rattle.std.specs.List.{slice_get}
use Rattle.std.proofs.lemmas.Bool.{cases_lt}
use Rattle.std.proofs.lemmas.Option.{same_Some}
use Rattle.b67_word.specs.Tagged.{Tagged}
use Rattle.b67_word.specs.declared.couples.Place.{Place}
use Rattle.b67_word.specs.declared.couples.Couple.{Couple}
use Rattle.b67_word.specs.Couples.{couple}
use Rattle.b67_word.specs.declared.faults.Fault.{Fault}
use Rattle.b67_word.specs.declared.faults.Fault.TheVariants.{Loop}
use Rattle.b67_ctl.specs.declared.registers.Regs.{Regs}
use Rattle.b67_ctl.specs.declared.references.Irw.{Irw}
use Rattle.b67_ctl.specs.Layout.{irw_word, IsIrw, sirw_word, IsSirw}
use Rattle.b67_model.specs.Common.{Answer, Word, Operand, Name, Ref, Row, Element, Original, Proc, Intrinsic, height, cell, named, place_of, Stops, Leads, link_at, link_in, link_from, link, chase_on, NamesEntered}
use Rattle.b67_model.specs.Words as Words
use Rattle.b67_stack.specs.Stacks.{StackPlace}
use Rattle.b67_layout.specs.Placement.{base_spot}
use Rattle.b67_layout.specs.Meets.{here}
use Rattle.b67_refer.specs.declared.ends.End.{End}
use Rattle.b67_refer.specs.RunningContext.{LiveContext, live_of, running_of, FromEither}
use Rattle.b67_refer.specs.LiveCells.{reach, view, StandsFor, IsCellAt, CellMeets, FindsCell}
use Rattle.b67_refer.specs.LiveEnds.{IsReference, EndMeets, LinkMeets}
use Rattle.b67_refer.proofs.Seats.{seat}
use Rattle.b67_refer.proofs.Unders.{seat_low}
use Rattle.b67_refer.proofs.Marks.{stack_known, view_low}
use Rattle.b67_refer.proofs.Chains.{level_is}
use Rattle.b67_refer.proofs.SeenFrom.{eye, seen, either}

module _ (core : List Tagged) (r : Regs) (a : LiveContext core r) where
  -- the fields of a reference's spot fit its word
  spot_fits : (g offset : ℕ) → NamesEntered (reach a) g → offset < 2 ^ 12 → IsSirw (record { stack = (view a g).stack; disp = (view a g).disp; offset = offset })
  spot_fits g offset n low =
      let k = stack_known core r a g n.standing n.among in
      let few = a.holds.fits.few in
      let number = a.ordered.few in
      record {
        stack = ⊎_elim (λ (u : (view a g).stack < a.plan.peak). omega (arith, u, few)) (λ o. ⊎_elim (λ e. omega (arith, e, number)) (λ e. omega (arith, e)) o) k;
        disp = disp_fits;
        offset = omega (arith, low);
      } where
        by_base : (z : StackPlace) → z ≡ base_spot a.member.constants.number g → z.disp < 2 ^ 16
        by_base z e = subst (λ (y : StackPlace). y.disp < 2 ^ 16) (sym e) (by_test (Rattle.std.proofs.Common.eqb g 1)) where
          by_test : (b : Rattle.std.proofs.Common.Bool) → (let y : StackPlace = Rattle.std.proofs.Common.cond b (record { stack = 127 + a.member.constants.number; disp = 0 }) (record { stack = 136; disp = 0 }) in y).disp < 2 ^ 16
          by_test Rattle.std.proofs.Common.true = omega arith
          by_test Rattle.std.proofs.Common.false = omega arith

        disp_fits : (view a g).disp < 2 ^ 16
        disp_fits = ⊎_elim
            (λ (own : 1 < g).
            (let b = seat core r a g n.standing n.among own in
            let small = a.holds.memory.slots.laid.room in
            let low = seat_low core r a g n own in
            let e : (view a g).disp ≡ height b.below = ap (λ (z : StackPlace). z.disp) b.spot in
            omega (arith, e, low, small)))
            (λ (low : g ≤ 1). by_base (view a g) (view_low core r a g low))
            (cases_lt 1 g)

  -- an IRW is that of a couple, and another reference an SIRW
  pub irw_is : (at owner : ℕ) (w : Tagged) (v : Word) (i : Irw) → StandsFor a at owner w v → IsReference v → IsIrw i → w ≡ irw_word i → v ≡ Name i.couple
  irw_is at owner w v i s ref fits e = grind arith

  -- and each IRW stands for its couple
  pub couple_stands : (w : Tagged) (i : Irw) → IsIrw i → w ≡ irw_word i → StandsFor a 0 0 w (Name i.couple)
  couple_stands w i fits e = ((e, λ five. omega (arith, five)), fits.couple)

  -- a stuffed reference of a frame
  pub record Stuffed (w : Tagged) (v : Word) : Type 0 where
    pub frame : ℕ
    pub offset : ℕ
    pub names : NamesEntered (reach a) frame
    pub word : v ≡ Ref frame offset
    pub fits : IsSirw (record { stack = (view a frame).stack; disp = (view a frame).disp; offset = offset })
    pub is : w ≡ sirw_word (record { stack = (view a frame).stack; disp = (view a frame).disp; offset = offset })

  pub stuffed : (at owner : ℕ) (w : Tagged) (v : Word) → StandsFor a at owner w v → IsReference v → ((i : Irw) → IsIrw i → w ≡ irw_word i → ⊥) → Stuffed w v
  stuffed at owner w (Name c) s ref other = absurd (other (record { couple = c }) (record { couple = s.1 }) s.0.0)
  stuffed at owner w (Ref g d) s ref other = record { frame = g; offset = d; names = s.1.0; word = refl; fits = spot_fits g d s.1.0 s.1.1; is = s.0.0 }
  stuffed at owner w (Operand b) s ref other = absurd ref
  stuffed at owner w (Row b) s ref other = absurd ref
  stuffed at owner w (Element b d) s ref other = absurd ref
  stuffed at owner w (Original b) s ref other = absurd ref
  stuffed at owner w (Proc g l p) s ref other = absurd ref
  stuffed at owner w (Intrinsic n) s ref other = absurd ref
  stuffed at owner w (Words.Segment n) s ref other = absurd ref

  module _ (q : Place) where
    pub finds_name : (v : Word) (bits : ℕ) (c : Couple) (found : Result ℕ Fault) → v ≡ Name bits → c ≡ couple bits r.level → FindsCell (live_of (running_of a)) q found (named (here a.member a.runner q) c)
        → FindsCell (live_of (running_of a)) q found (place_of (here a.member a.runner q) v)
    finds_name v bits c found e is h =
        let P : Word → Type 0 = λ x. FindsCell (live_of (running_of a)) q found (place_of (here a.member a.runner q) x) in
        let Q : Couple → Type 0 = λ x. FindsCell (live_of (running_of a)) q found (named (here a.member a.runner q) x) in
        subst P (sym e) (subst Q (is ∙ ap (couple bits) (level_is core r (running_of a))) h)

    pub finds_ref : (v : Word) (g d : ℕ) (found : Result ℕ Fault) → v ≡ Ref g d → CellMeets a q g d found (cell (here a.member a.runner q) g d) → FindsCell a q found (place_of (here a.member a.runner q) v)
    finds_ref v g d found e h = let P : Word → Type 0 = λ x. FindsCell a q found (place_of (here a.member a.runner q) x) in subst P (sym e) h

    -- a cell that isn't there ends the chain
    pub turn_err : (n : ℕ) (v : Word) (fault : Fault) → 0 < n → FindsCell a q (Err fault) (place_of (here a.member a.runner q) v) → chase_on (here a.member a.runner q) n (Leads v) ≡ Err fault
    turn_err zero v fault some h = absurd (omega (arith, some))
    turn_err (suc n) v fault some h = ap (chase_on (here a.member a.runner q) n) (by_place (place_of (here a.member a.runner q) v) h) where
      by_cell : (f offset : ℕ) (y : Answer Word) → CellMeets a q f offset (Err fault) y → link_in (here a.member a.runner q) f offset y ≡ Stops (Err fault)
      by_cell f offset (Err y) h = ap (λ z. Stops (Err z)) (sym h)
      by_cell f offset (Ok w) h = absurd h

      by_place : (y : Answer (ℕ × ℕ)) → FindsCell a q (Err fault) y → link_from (here a.member a.runner q) y ≡ Stops (Err fault)
      by_place (Err y) h = let z : y ≡ fault = cc in ap (λ x. Stops (Err x)) z
      by_place (Ok at) h = by_cell at.0 at.1 (cell (here a.member a.runner q) at.0 at.1) h

    -- the cell that was found, and what its word comes to
    pub record Turn (at : ℕ) (v : Word) : Type 0 where
      pub frame : ℕ
      pub offset : ℕ
      pub word : Word
      pub cell : IsCellAt a q at frame offset word
      pub is : link (here a.member a.runner q) v ≡ link_at (here a.member a.runner q) frame offset word

    pub turn : (at : ℕ) (v : Word) → FindsCell a q (Ok at) (place_of (here a.member a.runner q) v) → Turn at v
    turn at v h = by_place (place_of (here a.member a.runner q) v) refl h where
      by_cell : (f offset : ℕ) (y : Answer Word) → link (here a.member a.runner q) v ≡ link_in (here a.member a.runner q) f offset y → CellMeets a q f offset (Ok at) y → Turn at v
      by_cell f offset (Err y) e h = absurd h
      by_cell f offset (Ok w) e h = record { frame = f; offset = offset; word = w; cell = h; is = e }

      by_place : (y : Answer (ℕ × ℕ)) → place_of (here a.member a.runner q) v ≡ y → FindsCell a q (Ok at) y → Turn at v
      by_place (Err y) e h = absurd (let z : ⊥ = cc in z)
      by_place (Ok p) e h = by_cell p.0 p.1 (cell (here a.member a.runner q) p.0 p.1) (ap (link_from (here a.member a.runner q)) e) h

    -- an end or a fault ends the chain
    pub turn_end : (n at : ℕ) (v : Word) (t : Turn at v) (found : End) → 0 < n → LinkMeets a q (Ok (Some found)) (link_at (here a.member a.runner q) t.frame t.offset t.word) → EndMeets a q (Ok found) (chase_on (here a.member a.runner q) n (Leads v))
    turn_end n at v t found some h = grind arith

    pub turn_fault : (n at : ℕ) (v : Word) (t : Turn at v) (fault : Fault) → 0 < n → LinkMeets a q (Err fault) (link_at (here a.member a.runner q) t.frame t.offset t.word) → EndMeets a q (Err fault) (chase_on (here a.member a.runner q) n (Leads v))
    turn_fault n at v t fault some h = grind arith

    leads : (f offset : ℕ) (w : Word) → LinkMeets a q (Ok None) (link_at (here a.member a.runner q) f offset w) → IsReference w × (link_at (here a.member a.runner q) f offset w ≡ Leads w)
    leads f offset w h = grind arith

    -- what is still to be followed of a chain
    pub record Rest (whole links : ℕ) (first : Word) (w : Tagged) : Type 0 where
      pub at : ℕ
      pub owner : ℕ
      pub word : Word
      pub stands : StandsFor a at owner w word
      pub reference : IsReference word
      pub same : chase_on (here a.member a.runner q) whole (Leads first) ≡ chase_on (here a.member a.runner q) links (Leads word)

    pub turn_on : (whole n at : ℕ) (first word : Word) (v : Tagged) → chase_on (here a.member a.runner q) whole (Leads first) ≡ chase_on (here a.member a.runner q) n (Leads word) → (t : Turn at word) → 0 < n
        → LinkMeets a q (Ok None) (link_at (here a.member a.runner q) t.frame t.offset t.word) → slice_get core at ≡ Some v → Rest whole (n - 1) first v
    turn_on whole zero at first word v same t some h there = absurd (omega (arith, some))
    turn_on whole (suc n) at first word v same t some h there =
        let k = leads t.frame t.offset t.word h in
        let is : t.cell.word ≡ v = same_Some _ _ (sym t.cell.there ∙ there) in
        let P : Tagged → Type 0 = λ x. StandsFor a at t.frame x t.word in
        let m : n ≡ suc n - 1 = omega arith in
        record {
          at = at;
          owner = t.frame;
          word = t.word;
          stands = subst P is t.cell.stands;
          reference = k.0;
          same = same ∙ ap (chase_on (here a.member a.runner q) n) (t.is ∙ k.1) ∙ ap (λ i. chase_on (here a.member a.runner q) i (Leads t.word)) m;
        }

    pub turn_last : (whole n : ℕ) (first : Word) (w : Tagged) → n ≡ 0 → Rest whole n first w → EndMeets a q (Err Loop) (chase_on (here a.member a.runner q) whole (Leads first))
    turn_last whole n first w none l = grind arith

-- a turn of a chain whose words are seen from one of two tasks
module _ (core : List Tagged) (r : Regs) (a : LiveContext core r) (q : Place) (whole n : ℕ) (first : Word) (w : Tagged) where
  abbrev pub SomeRest : Type 0
  SomeRest = (own : Bool) × Rest core r (eye a own) q whole n first w

  -- the cell that is named next, and from where it is seen
  pub record CellFound (at : ℕ) : Type 0 where
    pub own : Bool
    pub rest : Rest core r (eye a own) q whole n first w
    pub next : Bool
    pub turned : Turn core r (eye a next) q at rest.word

  pub cell_found : (at : ℕ) (l : SomeRest) → FromEither (λ (d : LiveContext core r). FindsCell d q (Ok at) (place_of (here a.member a.runner q) l.1.word)) (eye a l.0) → CellFound at
  cell_found at l found =
      let (next, h) = seen a (λ (d : LiveContext core r). FindsCell d q (Ok at) (place_of (here a.member a.runner q) l.1.word)) l.0 found in
      record { own = l.0; rest = l.1; next = next; turned = turn core r (eye a next) q at l.1.word h }

  -- an end is that of the whole chain
  pub ends_chain : (own next : Bool) (l : Rest core r (eye a own) q whole n first w) (found : Result End Fault) → EndMeets (eye a next) q found (chase_on (here a.member a.runner q) n (Leads l.word))
      → FromEither (λ (d : LiveContext core r). EndMeets d q found (chase_on (here a.member a.runner q) whole (Leads first))) a
  ends_chain own next l found e =
      either a (λ (d : LiveContext core r). EndMeets d q found (chase_on (here a.member a.runner q) whole (Leads first))) next
      (subst (λ (y : Answer Rattle.b67_model.specs.Chase.End). EndMeets (eye a next) q found y) (sym l.same) e)

  -- a cell that isn't there
  pub ends_missing : (l : SomeRest) (fault : Fault) → 0 < n → FromEither (λ (d : LiveContext core r). FindsCell d q (Err fault) (place_of (here a.member a.runner q) l.1.word)) (eye a l.0)
      → FromEither (λ (d : LiveContext core r). EndMeets d q (Err fault) (chase_on (here a.member a.runner q) whole (Leads first))) a
  ends_missing l fault some found =
      let (next, h) = seen a (λ (d : LiveContext core r). FindsCell d q (Err fault) (place_of (here a.member a.runner q) l.1.word)) l.0 found in
      ends_chain l.0 next l.1 (Err fault) (subst (λ (y : Answer Rattle.b67_model.specs.Chase.End). EndMeets (eye a next) q (Err fault) y) (sym (turn_err core r (eye a next) q n l.1.word fault some h)) refl)
