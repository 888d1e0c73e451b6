-- What a reference's word names, and where a word leads.
use Rattle.std.specs.Prelude.{ℕ, List, Result, Ok}
use Rattle.b67_word.specs.Tagged.{Tagged}
use Rattle.b67_word.specs.declared.couples.Place.{Place}
use Rattle.b67_word.specs.declared.faults.Fault.{Fault}
use Rattle.b67_ctl.specs.declared.registers.Regs.{Regs}
use Rattle.b67_model.specs.Common.{Word, place_of, follow}
use Rattle.b67_layout.specs.Meets.{here}
use Rattle.b67_refer.specs.declared.ends.End.{End}
use Rattle.b67_refer.specs.RunningContext.{RunningContext, IsShown}
use Rattle.b67_refer.specs.Cells.{StandsFor, FindsCell}
use Rattle.b67_refer.specs.LiveEnds.{IsReference}
use Rattle.b67_refer.specs.Ends.{EndMeets}

-- a reference's word names the cell at an address
abbrev pub NamesCell : (core : List Tagged) (r : Regs) (display : List ℕ) (w : Tagged) (cell : ℕ) → Type 0
NamesCell core r display w cell = (a : RunningContext core r) (q : Place) → IsShown a display → (at owner : ℕ) (v : Word) → StandsFor a at owner w v
    → IsReference v × FindsCell a q (Ok cell) (place_of (here a.member a.task q) v)

-- where a word leads, or why it leads nowhere
abbrev pub FollowsTo : (core : List Tagged) (r : Regs) (display : List ℕ) (w : Tagged) → Result End Fault → Type 0
FollowsTo core r display w found = (a : RunningContext core r) (q : Place) → IsShown a display → (at owner : ℕ) (v : Word) → StandsFor a at owner w v
    → EndMeets a q found (follow (here a.member a.task q) v)

-- a word leads to an end
abbrev pub LeadsTo : (core : List Tagged) (r : Regs) (display : List ℕ) (w : Tagged) → End → Type 0
LeadsTo core r display w end = FollowsTo core r display w (Ok end)

-- a word leads to an end, whatever the display shows
abbrev pub EndsAt : (core : List Tagged) (r : Regs) (w : Tagged) → End → Type 0
EndsAt core r w end = (a : RunningContext core r) (q : Place) (at owner : ℕ) (v : Word) → StandsFor a at owner w v → EndMeets a q (Ok end) (follow (here a.member a.task q) v)
