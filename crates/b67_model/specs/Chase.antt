-- Where a reference leads: a relation on whole chains, and the function that it determines.
use Rattle.std.specs.Prelude.{◌≡◌, ℕ, zero, suc, ◌≤◌, ◌↔◌, nat_lt, length, if◌then◌else◌, Ok, Err}
use Rattle.b67_word.specs.declared.faults.Fault.TheVariants.{InvalidOperand, InvalidIndex, Loop}
use Rattle.b67_word.specs.declared.couples.Place.{Place}
use Rattle.b67_model.specs.Answers.{Answer}
use Rattle.b67_model.specs.Words.{Word, Operand, Name, Ref, Row, Element, Original, Proc, Intrinsic, Segment}
use Rattle.b67_model.specs.State.{OperatorContext}
use Rattle.b67_model.specs.Cells.{cell, place_of}
use Rattle.b67_model.specs.Arrays.{array}
use Rattle.b67_model.specs.declared.limits.TheConstants.{MOST_LINKS}

pub data End : Type 0 where
  AtCell : (frame offset bits : ℕ) → End
  AtElement : (array index : ℕ) → End
  AtArray : (array : ℕ) → End
  AtProc : (frame segment level : ℕ) (place : Place) → End
  AtIntrinsic : (number : ℕ) → End

-- what one link comes to: an end or a fault, or a reference to follow in turn
pub data Link : Type 0 where
  Stops : (end : Answer End) → Link
  Leads : (reference : Word) → Link

-- an element copy's index is tested against the array's length as it is now
abbrev pub element_end : OperatorContext → ℕ → ℕ → Answer End
element_end h a index = if nat_lt index (length (array h.job a).numbers) then Ok (AtElement a index) else Err InvalidIndex

-- by the word in the cell
abbrev pub link_at : OperatorContext → ℕ → ℕ → Word → Link
link_at h f offset (Operand bits) = Stops (Ok (AtCell f offset bits))
link_at h f offset (Name couple) = Leads (Name couple)
link_at h f offset (Ref g other) = Leads (Ref g other)
link_at h f offset (Element a index) = Stops (element_end h a index)
link_at h f offset (Original a) = Stops (Ok (AtArray a))
link_at h f offset (Row a) = Stops (Ok (AtArray a))
link_at h f offset (Proc segment level place) = Stops (Ok (AtProc f segment level place))
link_at h f offset (Intrinsic number) = Stops (Ok (AtIntrinsic number))
link_at h f offset (Segment number) = Stops (Err InvalidOperand)

abbrev pub link_in : OperatorContext → ℕ → ℕ → Answer Word → Link
link_in h f offset (Err fault) = Stops (Err fault)
link_in h f offset (Ok w) = link_at h f offset w

abbrev pub link_from : OperatorContext → Answer (ℕ × ℕ) → Link
link_from h (Err fault) = Stops (Err fault)
link_from h (Ok at) = link_in h at.0 at.1 (cell h at.0 at.1)

abbrev pub link : OperatorContext → Word → Link
link h w = link_from h (place_of h w)

-- a chain of so many links from a reference to its end
pub data Chain (h : OperatorContext) : Word → Answer End → ℕ → Type 0 where
  last : {w : Word} {end : Answer End} → link h w ≡ Stops end → Chain h w end 1
  onward : {w v : Word} {end : Answer End} {links : ℕ} → link h w ≡ Leads v → Chain h v end links → Chain h w end (suc links)

-- so many links lead from a reference to another one
pub data Path (h : OperatorContext) : Word → Word → ℕ → Type 0 where
  here : {w : Word} → Path h w w 0
  further : {w v u : Word} {links : ℕ} → link h w ≡ Leads v → Path h v u links → Path h w u (suc links)

-- the end of a reference: of a chain of at most 1,024 links, or LOOP where one more would be followed
pub data ComesTo (h : OperatorContext) (w : Word) : Answer End → Type 0 where
  ends : (end : Answer End) (links : ℕ) → links ≤ MOST_LINKS → Chain h w end links → ComesTo h w end
  loops : (v : Word) → Path h w v MOST_LINKS → ComesTo h w (Err Loop)

-- the end after at most so many more links
abbrev pub chase_on : OperatorContext → ℕ → Link → Answer End
chase_on h links (Stops end) = end
chase_on h zero (Leads w) = Err Loop
chase_on h (suc links) (Leads w) = chase_on h links (link h w)

abbrev pub chase : OperatorContext → Word → Answer End
chase h w = chase_on h MOST_LINKS (Leads w)

-- the end of a reference or an element copy
abbrev pub follow : OperatorContext → Word → Answer End
follow h (Name couple) = chase h (Name couple)
follow h (Ref f offset) = chase h (Ref f offset)
follow h (Element a index) = element_end h a index
follow h _ = Err InvalidOperand

-- the end of a reference alone
abbrev pub follow_reference : OperatorContext → Word → Answer End
follow_reference h (Name couple) = chase h (Name couple)
follow_reference h (Ref f offset) = chase h (Ref f offset)
follow_reference h _ = Err InvalidOperand

-- the function and the relation say the same
abbrev pub ChaseIsRelation : Type 0
ChaseIsRelation = (h : OperatorContext) (w : Word) (end : Answer End) → ComesTo h w end ↔ (chase h w ≡ end)
