-- What the tests together tell of a machine.
use Rattle.std.proofs.Common.{◌≡◌, ℕ, Bool, true, false, ◌-◌, ◌<◌, ◌≤◌, List, length, sym, ◌∙◌, ap, subst, arith, inl, inr}
use Rattle.std.specs.Bool.{OnTrue, OnFalse}
use Rattle.std.specs.Prelude.{◌⊎◌}
use Rattle.std.proofs.lemmas.Bool.{cases_Bool, OnTrue_at, OnFalse_at}
use Rattle.b67_ctl.specs.declared.map.TheConstants.{FIRST_DICTIONARY}
use Rattle.b67_backing.specs.Shelf.{Table, Shelf, IsShelf}
use Rattle.b67_backing.specs.Links.{links_in, AreInside, TellChains}
use Rattle.b67_backing.proofs.Heads.{inside_of}
use Rattle.b67_backing.proofs.Linkings.{links_in-length}
use Rattle.b67_layout_shown.specs.Machines.{sight_of, RepresentsOne, MachinesAreShown}
use Rattle.b67_task.specs.declared.tables.Machine.{Machine}
use Rattle.b67_image_shape.specs.CellWalk.{AreSmall}
use Rattle.b67_image_shape.specs.Deciding.{Decides}
use Rattle.b67_image_shape.specs.FixedWords.{FixedFacts, CriticalMarks}
use Rattle.b67_image_shape.specs.Held.{view_of}
use Rattle.b67_image_shape.specs.Items.{EachTask, ReachFacts, CellFacts, ShownItems}
use Rattle.b67_image_shape.specs.Laws.{ItemsAreExact}
use Rattle.b67_image_shape.specs.NearStacks.{NearStacks, NearStacksSuffice, StacksAreNear}
use Rattle.b67_image_shape.specs.ObjectLaws.{KeptFacts, ObjectsAreTested}
use Rattle.b67_image_shape.specs.ObjectMarks.{AreMarked, AreKept}
use Rattle.b67_image_shape.specs.Reaching.{reaches, ReachesAreDecided}
use Rattle.b67_image_shape.specs.Shape.{ShowsRunning, IsToldDisplay}
use Rattle.b67_image_shape.specs.Shaping.{FrontFacts}
use Rattle.b67_image_shape.specs.TableFacts.{TableFacts}
use Rattle.b67_image_shape.proofs.Deciding.{like}
use Rattle.b67_image_shape.proofs.DisplayTold.{ButDisplay, with_display, display_told}
use Rattle.b67_image_shape.proofs.Lengths.{long_facts, facts_long}
use Rattle.b67_image_shape.proofs.Sources.{dictionaries_low}

-- objects, areas and chains begin above the first dictionary
pub low_enough : (k : Machine) → FrontFacts k → FIRST_DICTIONARY ≤ k.areas.low
low_enough k f = grind (arith, dictionaries_low)

module _ (shown : MachinesAreShown) (exact : ItemsAreExact) (k : Machine) where
  -- a machine that represents a session has all items
  pub items : RepresentsOne k → ShownItems k
  items one = (exact k).0 ((shown k).0 one)

  pub one_front : StacksAreNear → RepresentsOne k → FrontFacts k
  one_front near one =
      let i = items one in
      record { tables = i.tables; fixed = i.fixed; critical = i.critical; stacks = near (sight_of k) i.tables i.stacks; reach = i.reach }

  pub one_kept : RepresentsOne k → KeptFacts k
  one_kept one =
      let i = items one in
      record { objects = i.objects.objects; long = facts_long (sight_of k) i.tables i.objects.jobs; areas = i.areas; chains = i.chains }

-- the items but the display
pub but_display : (k : Machine) → NearStacksSuffice → AreSmall k.cpu.core → FrontFacts k → EachTask (sight_of k) (CellFacts (sight_of k)) → KeptFacts k → ButDisplay k
but_display k suffice small f cells kept = grind (arith, long_facts)

pub told : (k : Machine) → ButDisplay k → IsToldDisplay k
told k b = display_told k b

pub one_stands : MachinesAreShown → ItemsAreExact → (k : Machine) → ButDisplay k → ShowsRunning k → RepresentsOne k
one_stands shown exact k b d = (shown k).1 ((exact k).1 (with_display k b d))

-- ---- the tests of the front

-- what a test that passed tells, and what one that failed refuses
pub passes : {P : Type 0} (test b : Bool) → Decides test P → b ≡ test → b ≡ true → P
passes test b d e t = d.0 (sym e ∙ t)

pub fails : {P : Type 0} (test b : Bool) → Decides test P → b ≡ test → b ≡ false → P → ⊥
fails test b d e f p = (let z : true ≡ false = sym (d.1 p) ∙ sym e ∙ f in let y : ⊥ = cc in y)

-- the last of them decides
pub front_told : (k : Machine) (b : Bool) → b ≡ reaches (sight_of k) → ReachesAreDecided → TableFacts (sight_of k) → FixedFacts (sight_of k) k.areas.low k.areas.size → CriticalMarks k.cpu.critical (sight_of k).tasks → NearStacks (sight_of k) → Decides b (FrontFacts k)
front_told k b e decided tables fixed critical stacks =
    like b (λ r. record { tables = tables; fixed = fixed; critical = critical; stacks = stacks; reach = r }) (λ f. f.reach)
    (subst (λ c. Decides c (EachTask (sight_of k) (ReachFacts (sight_of k)))) (sym e) (decided (sight_of k) k.areas.low k.areas.size tables fixed stacks))

-- ---- Booleans that decide

pub granted : {P : Type 0} (b : Bool) → Decides b P → b ≡ true → P
granted b d e = d.0 e

pub denied : {P : Type 0} (b : Bool) → Decides b P → b ≡ false → P → ⊥
denied b d f p = (let z : true ≡ false = sym (d.1 p) ∙ f in let y : ⊥ = cc in y)

pub decides_by : {P : Type 0} (b : Bool) → OnTrue b P → OnFalse b (P → ⊥) → Decides b P
decides_by {P} b held refuted = grind arith

-- ---- links

pub links_inside : (t : Table) (st : Shelf) (links : List ℕ) → TellChains → IsShelf t st → links ≡ links_in t → AreInside links
links_inside t st links tell is e = subst AreInside (sym e) (inside_of (links_in t) st.chains (tell t st is))

pub links_few : (t : Table) (st : Shelf) (links : List ℕ) → IsShelf t st → links ≡ links_in t → length links < 1048576
links_few t st links is e =
    let some = is.some in
    let small = is.small in
    let long = links_in-length t (length t.links - 1) (omega (arith, some)) in
    grind arith

-- objects, areas and chains belong together exactly if the test passes
pub kept_told : (k : Machine) (kinds links : List ℕ) (b : Bool) (st : Shelf) → IsShelf k.sectors st → ObjectsAreTested → AreMarked k.cpu.core kinds (view_of k).objects → links ≡ links_in k.sectors → OnTrue b (AreKept k.cpu.core k.areas.low kinds links)
    → OnFalse b (AreKept k.cpu.core k.areas.low kinds links → ⊥) → Decides b (KeptFacts k)
kept_told k kinds links b st is tested marked e held refuted =
    let t = tested k kinds st is marked in
    like b t.0 t.1 (subst (λ ls. Decides b (AreKept k.cpu.core k.areas.low kinds ls)) e (decides_by b held refuted))
