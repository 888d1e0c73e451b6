-- The cells of a frame in a slot: which words of core they are, and where they end.
use Rattle.std.proofs.Common.{◌≡◌, ℕ, zero, suc, ◌+◌, ◌-◌, ◌<◌, ◌≤◌, List, [], ◌∷◌, ◌++◌, map, reverse, length, Option, Some, None, Ok, Err, refl, sym, ◌∙◌, ap, arith, true, false, ◌==◌, ◌⊎◌, ⊎_elim, inl, inr, subst, length-append}
use Rattle.std.specs.Prelude.{if◌then◌else◌, nat_lt}
use Rattle.std.specs.List.{slice_get}
use Rattle.std.specs.Option.{ok_or}
use Rattle.std.proofs.lemmas.Bool.{cases_Bool, cases_lt, eqb-false, ne_eqb, lt-ltb, le-ltb}
use Rattle.std.proofs.lemmas.Option.{same_Some, none-some}
use Rattle.std.proofs.lemmas.List.{length-map, length-reverse}
use Rattle.b67_word.specs.Tagged.{Tagged}
use Rattle.b67_word.specs.declared.couples.Place.{Place}
use Rattle.b67_word.specs.declared.faults.Fault.TheVariants.{InvalidAddress}
use Rattle.b67_ctl.specs.declared.registers.Regs.{Regs}
use Rattle.b67_ctl.specs.Layout.{sirw_word}
use Rattle.b67_lemmas.specs.Lists.{Has}
use Rattle.b67_lemmas.proofs.Members.{all_in, has_get, has_map, has_reverse_back, reverse_cons}
use Rattle.b67_lemmas.proofs.Places.{same_test}
use Rattle.b67_model.specs.Common.{Answer, Word, Operand, Name, Ref, Row, Element, Original, Proc, Intrinsic, Frame, Standing, Array, Job, height, first_offset, cell_of, cell, Starts, Known, known_of, known_numbers, reach_of, IsEntered, IsSegment, WordInOrder}
use Rattle.b67_model.specs.Words as Words
use Rattle.b67_model.specs.State as State
use Rattle.b67_law.proofs.Reaches.{Wider, word_wider}
use Rattle.b67_stack.specs.Common.{Locations, Shape, Is, Fits, LieDownward, StackPlace, stack_words, headed, words}
use Rattle.b67_stack.proofs.Lies.{Lie-under}
use Rattle.b67_stack.proofs.Heights.{words-length}
use Rattle.b67_layout.specs.Common.{Placement, spot_in, spots, address_of, shape, head, frame_address, here}
use Rattle.b67_layout.proofs.Frames.{height-is}
use Rattle.b67_refer.specs.RunningContext.{LiveContext}
use Rattle.b67_refer.specs.LiveCells.{StandsFor, CellMeets}
use Rattle.b67_refer.proofs.Slots.{base, acts}
use Rattle.b67_refer.proofs.Seats.{Seat}
use Rattle.b67_refer.proofs.Marks.{slot_address, frame_seat}

err_ok : (w : Word) → ◌≡◌ {A = Answer Word} (Err InvalidAddress) (Ok w) → ⊥
err_ok w e = cc

-- an item by its number from the end
abbrev from_end : {A : Type 0} → List A → ℕ → Option A
from_end [] i = None
from_end (x ∷ xs) i = if i == length xs then Some x else from_end xs i

get_last : {A : Type 0} (xs : List A) (y : A) (i : ℕ) → slice_get (xs ++ y ∷ []) i ≡ (if i == length xs then Some y else slice_get xs i)
get_last [] y zero = refl
get_last [] y (suc i) = let t = ne_eqb (suc i) 0 (λ e. omega (arith, e)) in rw t refl
get_last (x ∷ xs) y zero = let t = ne_eqb 0 (suc (length xs)) (λ e. omega (arith, e)) in rw t refl
get_last (x ∷ xs) y (suc i) = get_last xs y i ∙ ap (λ b. if b then Some y else slice_get xs i) (same_test i (length xs))

pub get_reverse : {A : Type 0} (xs : List A) (i : ℕ) → slice_get (reverse xs) i ≡ from_end xs i
get_reverse [] i = refl
get_reverse (x ∷ xs) i = grind (arith, reverse_cons, get_last, length-reverse, get_reverse xs i)

-- each number below the length has an item, and no other
pub end_some : {A : Type 0} (xs : List A) (i : ℕ) → i < length xs → (x : A) × (from_end xs i ≡ Some x)
end_some [] i low = absurd (omega (arith, low))
end_some (x ∷ xs) i low = ⊎_elim
    (λ (t : (i == length xs) ≡ true). (x, rw t refl))
    (λ (t : (i == length xs) ≡ false). (let ne = eqb-false i (length xs) t in let r = end_some xs i (omega (arith, low, ne)) in (r.0, rw t r.1)))
    (cases_Bool (i == length xs))

end_none : {A : Type 0} (xs : List A) (i : ℕ) → length xs ≤ i → from_end xs i ≡ None
end_none [] i high = refl
end_none (x ∷ xs) i high = grind (arith, end_none xs i)

-- the word of a cell that lies over others
pub end_lies : {A : Type 0} (R : Shape → ℕ → Tagged → Type 0) (core : List Tagged) (from : ℕ) (g : A → Shape) (xs : List A) (under : List Shape) (i : ℕ) (x : A) → LieDownward R core from (map g xs ++ under) → from_end xs i ≡ Some x
    → (v : Tagged) × (slice_get core (from + length under + i) ≡ Some v) × R (g x) (from + length under + i) v
end_lies R core from g [] under i x l e = absurd (none-some x e)
end_lies R core from g (y ∷ xs) under i x l e = grind (arith, length-append, length-map, end_lies R core from g xs under i x l.1)

-- no word that a cell may hold has tag 3
pub word_tag : (P : Starts) (arrays : List Array) (reach : List Known) (owner : ℕ) (held : Locations) (plan : Placement) (j : ℕ) (job : Job) (spot : ℕ → StackPlace) (w : Word) (i : ℕ) (v : Tagged) → WordInOrder P arrays reach owner w → Fits held (shape plan j job spot w) i v → v.tag ≡ 3 → ⊥
word_tag P arrays reach owner held plan j job spot w i v o f e = grind arith

-- a shape reads the spots of the frame that its word names alone
same_shape : (P : Starts) (arrays : List Array) (reach : List Known) (owner : ℕ) (plan : Placement) (j : ℕ) (job : Job) (spot spot' : ℕ → StackPlace) (w : Word) → WordInOrder P arrays reach owner w → ((g : ℕ) → Has (known_numbers reach) g → spot g ≡ spot' g)
    → shape plan j job spot' w ≡ shape plan j job spot w
same_shape P arrays reach owner plan j job spot spot' (Operand bits) o same = refl
same_shape P arrays reach owner plan j job spot spot' (Name couple) o same = refl
same_shape P arrays reach owner plan j job spot spot' (Ref g d) o same =
    let there : Has (known_numbers reach) g = has_map (λ (k : Known). k.0) reach (g, o.0.standing) o.0.among in
    ap (λ (z : StackPlace). Is (sirw_word (record { stack = z.stack; disp = z.disp; offset = d }))) (sym (same g there))
same_shape P arrays reach owner plan j job spot spot' (Row b) o same = refl
same_shape P arrays reach owner plan j job spot spot' (Element b d) o same = refl
same_shape P arrays reach owner plan j job spot spot' (Original b) o same = refl
same_shape P arrays reach owner plan j job spot spot' (Proc s l p) o same = refl
same_shape P arrays reach owner plan j job spot spot' (Intrinsic n) o same = refl
same_shape P arrays reach owner plan j job spot spot' (Words.Segment n) o same = refl

module _ (core : List Tagged) (r : Regs) (a : LiveContext core r) where
  -- a word in order represents itself
  pub word_stands : (at owner : ℕ) (v : Tagged) (w : Word) → Fits a.storage.held (shape a.plan a.member.constants.number a.member.progress.job (spots a.plan a.member.constants.number a.member.progress.job a.task) w) at v
      → WordInOrder (IsSegment a.member.constants) a.member.progress.job.arrays (reach_of a.member.progress.job a.task) owner w → StandsFor a at owner v w
  word_stands at owner v w f o = grind arith

  module _ (q : Place) (f : ℕ) (s : Standing) (b : Seat core r a (spots a.plan a.member.constants.number a.member.progress.job a.task) (reach_of a.member.progress.job a.task) f s) (e : IsEntered s) (own : 1 < f) where
    -- the address of the frame's mark
    pub seat_address : frame_address a.plan a.member a.task f ≡ base core r a b.slot + height b.below
    seat_address = ap (address_of a.plan) b.spot ∙ slot_address core r a b.slot (height b.below) b.top_is.used

    entered : IsEntered b.frame.standing
    entered = subst IsEntered (sym b.stands) e

    abbrev under : List Shape
    under = headed b.slot (head (spot_in b.slot b.outer b.below) b.frame.standing) (acts core r a b.slot b.outer b.below) (words b.slot (acts core r a b.slot b.outer b.below))

    under_high : suc (base core r a b.slot) + length under ≡ frame_address a.plan a.member a.task f + 2
    under_high = grind (arith, words-length, height-is, seat_address)

    -- where the cells end
    pub cells_end : base core r a b.slot + stack_words (acts core r a b.slot b.outer (b.frame ∷ b.below)) + 1 ≡ frame_address a.plan a.member a.task f + 2 + length b.frame.cells
    cells_end = grind (arith, height-is, seat_address, length-map)

    -- the word of a cell
    pub record CellWord (offset : ℕ) (w : Word) : Type 0 where
      pub word : Tagged
      pub there : slice_get core (frame_address a.plan a.member a.task f + offset) ≡ Some word
      pub stands : StandsFor a (frame_address a.plan a.member a.task f + offset) f word w
      pub no_mark : word.tag ≡ 3 → ⊥

    wide : Wider (map known_of (b.frame ∷ b.below) ++ b.known) (reach_of a.member.progress.job a.task) a.member.progress.job.arrays a.member.progress.job.arrays
    wide = record { entered = λ n z i k. b.among (n, z) k; kept = λ x k at. record { item = x; live = k; named = refl; owned = refl } }

    here_known : Has (known_numbers (reach_of a.member.progress.job a.task)) b.frame.identity
    here_known = has_map (λ (k : Known). k.0) (reach_of a.member.progress.job a.task) (known_of b.frame) (b.among (known_of b.frame) (inl refl))

    pub cell_in : (i : ℕ) (w : Word) → from_end b.frame.cells i ≡ Some w → CellWord (2 + i) w
    cell_in i w there =
        let arrays = a.member.progress.job.arrays in
        let P = IsSegment a.member.constants in
        let known = map known_of (b.frame ∷ b.below) ++ b.known in
        let reach = reach_of a.member.progress.job a.task in
        let spot = spot_in b.slot b.outer (b.frame ∷ b.below) in
        let has : Has b.frame.cells w = has_reverse_back b.frame.cells w (has_get (reverse b.frame.cells) i w (get_reverse b.frame.cells i ∙ there)) in
        let first : WordInOrder P arrays known b.frame.identity w = all_in (WordInOrder P arrays known b.frame.identity) b.frame.cells w b.order.0.0 has in
        let order : WordInOrder P arrays reach f w = subst (λ (n : ℕ). WordInOrder P arrays reach n w) b.named (word_wider P known reach arrays arrays b.frame.identity wide here_known w first) in
        let l = end_lies (Fits a.storage.held) core (suc (base core r a b.slot)) (shape a.plan a.member.constants.number a.member.progress.job spot) b.frame.cells under i w b.part.lies there in
        let at : suc (base core r a b.slot) + length under + i ≡ frame_address a.plan a.member a.task f + (2 + i) = (let u = under_high in omega (arith, u)) in
        let shapes : shape a.plan a.member.constants.number a.member.progress.job spot w ≡ shape a.plan a.member.constants.number a.member.progress.job (spots a.plan a.member.constants.number a.member.progress.job a.task) w =
        sym (same_shape P arrays known b.frame.identity a.plan a.member.constants.number a.member.progress.job spot (spots a.plan a.member.constants.number a.member.progress.job a.task) w first (λ g h. sym (b.sees g h))) in
        let fits : Fits a.storage.held (shape a.plan a.member.constants.number a.member.progress.job (spots a.plan a.member.constants.number a.member.progress.job a.task) w) (frame_address a.plan a.member a.task f + (2 + i)) l.0 =
        subst (λ (z : Shape). Fits a.storage.held z (frame_address a.plan a.member a.task f + (2 + i)) l.0) shapes (subst (λ (n : ℕ). Fits a.storage.held (shape a.plan a.member.constants.number a.member.progress.job spot w) n l.0) at l.2) in
        record {
          word = l.0;
          there = ap (slice_get core) (sym at) ∙ l.1;
          stands = word_stands (frame_address a.plan a.member a.task f + (2 + i)) f l.0 w fits order;
          no_mark = word_tag P arrays reach f a.storage.held a.plan a.member.constants.number a.member.progress.job (spots a.plan a.member.constants.number a.member.progress.job a.task) w (frame_address a.plan a.member a.task f + (2 + i)) l.0 order fits;
        }

    -- the model's look-up by the number from the frame's end
    look : (offset : ℕ) → cell (here a.member a.task q) f offset ≡ ok_or (if nat_lt offset 2 then None else from_end b.frame.cells (offset - 2)) InvalidAddress
    look offset =
        let ne : (b.frame.identity == 0) ≡ false = ne_eqb b.frame.identity 0 (λ z. (let n = b.named in omega (arith, z, n, own))) in
        let first : first_offset b.frame ≡ 2 = rw ne refl in
        ap (λ (g : Frame). ok_or (cell_of g offset) InvalidAddress) (frame_seat core r a q f s b)
        ∙ ap (λ (n : ℕ). ok_or (if nat_lt offset n then None else slice_get (reverse b.frame.cells) (offset - n)) InvalidAddress) first
        ∙ ap (λ (o : Option Word). ok_or (if nat_lt offset 2 then None else o) InvalidAddress) (get_reverse b.frame.cells (offset - 2))

    pub none : (offset : ℕ) → (offset < 2) ⊎ (2 + length b.frame.cells ≤ offset) → cell (here a.member a.task q) f offset ≡ Err InvalidAddress
    none offset far = look offset ∙ ⊎_elim
        (λ (low : offset < 2). (let t : nat_lt offset 2 ≡ true = lt-ltb offset 2 low in rw t refl))
        (λ (past : 2 + length b.frame.cells ≤ offset).
        (let t : nat_lt offset 2 ≡ false = le-ltb offset 2 (omega (arith, past)) in
        let n : from_end b.frame.cells (offset - 2) ≡ None = end_none b.frame.cells (offset - 2) (omega (arith, past)) in rw t (rw n refl)))
        far

    -- past the top of the stack, or before the first cell
    pub misses : (offset : ℕ) → (offset < 2) ⊎ (b.top < frame_address a.plan a.member a.task f + offset) → cell (here a.member a.task q) f offset ≡ Err InvalidAddress
    misses offset far = none offset (⊎_elim inl (λ (past : b.top < frame_address a.plan a.member a.task f + offset). inr (let z = cells_end in let low = b.part.low in omega (arith, z, low, past))) far)

    -- a word of tag 3 from the first cell's place on lies behind the cells
    pub marks : (offset k : ℕ) (w : Tagged) → frame_address a.plan a.member a.task f + 2 ≤ k → k ≤ frame_address a.plan a.member a.task f + offset → slice_get core k ≡ Some w → w.tag ≡ 3 → cell (here a.member a.task q) f offset ≡ Err InvalidAddress
    marks offset k w low up there tag = none offset (inr (⊎_elim
        (λ (inside : k < frame_address a.plan a.member a.task f + 2 + length b.frame.cells).
        (let i = k - (frame_address a.plan a.member a.task f + 2) in
        let x = end_some b.frame.cells i (omega (arith, low, inside)) in
        let c = cell_in i x.0 x.1 in
        let at : k ≡ frame_address a.plan a.member a.task f + (2 + i) = omega (arith, low) in
        absurd (c.no_mark (ap (λ (z : Tagged). z.tag) (same_Some _ _ (sym c.there ∙ ap (slice_get core) (sym at) ∙ there)) ∙ tag))))
        (λ (past : frame_address a.plan a.member a.task f + 2 + length b.frame.cells ≤ k). omega (arith, past, up))
        (cases_lt k (frame_address a.plan a.member a.task f + 2 + length b.frame.cells))))

    -- else the cell is there
    lands_inside : (offset : ℕ) → 2 ≤ offset → offset < 2 + length b.frame.cells → CellMeets a q f offset (Ok (frame_address a.plan a.member a.task f + offset)) (cell (here a.member a.task q) f offset)
    lands_inside offset low inside =
        let x = end_some b.frame.cells (offset - 2) (omega (arith, low, inside)) in
        let c = cell_in (offset - 2) x.0 x.1 in
        let at : 2 + (offset - 2) ≡ offset = omega (arith, low) in
        let t : nat_lt offset 2 ≡ false = le-ltb offset 2 low in
        grind (arith, look)

    pub lands : (offset : ℕ) → 2 ≤ offset → frame_address a.plan a.member a.task f + offset ≤ b.top
        → ((k : ℕ) (w : Tagged) → frame_address a.plan a.member a.task f + 2 ≤ k → k ≤ frame_address a.plan a.member a.task f + offset → slice_get core k ≡ Some w → w.tag ≡ 3 → ⊥)
        → CellMeets a q f offset (Ok (frame_address a.plan a.member a.task f + offset)) (cell (here a.member a.task q) f offset)
    lands offset low up plain = ⊎_elim
        (λ (inside : offset < 2 + length b.frame.cells). lands_inside offset low inside)
        (λ (past : 2 + length b.frame.cells ≤ offset). absurd (⊎_elim
        (λ (z : base core r a b.slot + stack_words (acts core r a b.slot b.outer (b.frame ∷ b.below)) ≡ b.top). (let y = cells_end in omega (arith, z, y, past, up)))
        (λ z. (let y = cells_end in let at : suc (base core r a b.slot) + stack_words (acts core r a b.slot b.outer (b.frame ∷ b.below)) ≡ frame_address a.plan a.member a.task f + 2 + length b.frame.cells = omega (arith, y) in
        plain (suc (base core r a b.slot) + stack_words (acts core r a b.slot b.outer (b.frame ∷ b.below))) z.0 (omega (arith, at)) (omega (arith, at, past)) z.1 z.2))
        b.part.above))
        (cases_lt offset (2 + length b.frame.cells))

    -- over the mark of an entered frame stands its return word
    pub return_tag : (w : Tagged) × (slice_get core (frame_address a.plan a.member a.task f + 1) ≡ Some w) × (w.tag ≡ 3)
    return_tag =
        let k = b.slot in
        let below = acts core r a k b.outer b.below in
        let cells = map (shape a.plan a.member.constants.number a.member.progress.job (spot_in k b.outer (b.frame ∷ b.below))) b.frame.cells in
        by_standing b.frame.standing entered (Lie-under (Fits a.storage.held) core (suc (base core r a k)) cells (headed k (head (spot_in k b.outer b.below) b.frame.standing) below (words k below)) b.part.lies) where
          at : suc (base core r a b.slot) + suc (length (words b.slot (acts core r a b.slot b.outer b.below))) ≡ frame_address a.plan a.member a.task f + 1
          at =
              let n = words-length b.slot (acts core r a b.slot b.outer b.below) in
              let h = height-is a.plan a.member.constants.number a.member.progress.job b.slot b.outer b.below in
              let z = seat_address in
              omega (arith, n, h, z)

          by_standing : (z : Standing) → IsEntered z → LieDownward (Fits a.storage.held) core (suc (base core r a b.slot)) (headed b.slot (head (spot_in b.slot b.outer b.below) z) (acts core r a b.slot b.outer b.below) (words b.slot (acts core r a b.slot b.outer b.below)))
              → (w : Tagged) × (slice_get core (frame_address a.plan a.member a.task f + 1) ≡ Some w) × (w.tag ≡ 3)
          by_standing State.Marked i l = absurd i
          by_standing (State.Entered level environment back) i l = (l.0.0, ap (slice_get core) (sym at) ∙ l.0.1, ap (λ (x : Tagged). x.tag) l.0.2.0)

    -- a cell that is there lies among the cells
    pub inside : (offset : ℕ) (w : Word) → cell (here a.member a.task q) f offset ≡ Ok w → (2 ≤ offset) × (offset < 2 + length b.frame.cells)
    inside offset w found = grind (arith, none)

    -- no word from the first cell to that one has tag 3
    pub no_mark_under : (offset j : ℕ) (w : Word) (v : Tagged) → cell (here a.member a.task q) f offset ≡ Ok w → 2 ≤ j → j ≤ offset → slice_get core (frame_address a.plan a.member a.task f + j) ≡ Some v → v.tag ≡ 3 → ⊥
    no_mark_under offset j w v found low up there tag =
        let i = inside offset w found in
        let x = end_some b.frame.cells (j - 2) (omega (arith, low, up, i.1)) in
        let c = cell_in (j - 2) x.0 x.1 in
        grind (arith, same_Some)
