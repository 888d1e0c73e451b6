-- The top activation record of a task, with other cells: its stack, its height, and its words in core.
use Rattle.std.proofs.Common.{◌≡◌, ◌≢◌, ℕ, ◌+◌, ◌-◌, ◌≤◌, List, [], ◌∷◌, ◌++◌, map, length, Some, refl, sym, ap, arith, inl, inr, Bool, false, slice_set, subst}
use Rattle.std.specs.Prelude.{flat_map}
use Rattle.std.specs.List.{slice_get}
use Rattle.b67_word.specs.Tagged.{Tagged}
use Rattle.b67_word.specs.declared.couples.Place.{Place}
use Rattle.b67_area.specs.declared.Kind.TheVariants.{Code}
use Rattle.b67_ctl.specs.declared.registers.Regs.{Regs}
use Rattle.b67_lemmas.specs.Lists.{Has}
use Rattle.b67_model.specs.Common.{Word, Original, Frame, Job, SessionJob, top, with_top_cells, height, is_original}
use Rattle.b67_model.specs.State as State
use Rattle.b67_stack.specs.Shapes as Shapes
use Rattle.b67_stack.specs.Common.{Shape, Fits, StackPlace, Activation, PagedObject, MachineView, NoOriginalAboveTop, RunsOn, IsArrayAt, Storage, Represents, with_stack, stack_with_cells, top_cells, MayPush}
use Rattle.b67_stack.proofs.Cells.{cell_word, Represents-drop, Represents-cells, with_stack-twice}
use Rattle.b67_stack.proofs.Pushes.{RunsOn-with}
use Rattle.b67_stack.proofs.Slots.{running_fits}
use Rattle.b67_layout.specs.Common.{Placement, spot_in, shape, activations, array_object, objects_of}
use Rattle.b67_layout.proofs.Settles as Settles
use Rattle.b67_layout.proofs.Settles.{Settled-drop, Settled-more}
use Rattle.b67_exec_cells.specs.Tops.{IsLive, MayStand, NoOriginals}

-- the cells of the top frame are those of the top activation record
pub cells-are : (plan : Placement) (j : ℕ) (job : Job) (k : ℕ) (outer : ℕ → StackPlace) (fs : List Frame)
    → top_cells (activations plan j job k outer fs) ≡ map (shape plan j job (spot_in k outer fs)) (top fs).cells
cells-are plan j job k outer fs = grind arith

-- how high the stack is with other cells
pub height-with : (fs : List Frame) (cs : List Word) → fs ≢ [] → height (with_top_cells fs cs) + length (top fs).cells ≡ height fs + length cs
height-with fs cs some = grind arith

-- words without originals have shapes without
original_shape : (plan : Placement) (j : ℕ) (job : Job) (spot : ℕ → StackPlace) (w : Word) (home : ℕ) → is_original w ≡ false → shape plan j job spot w ≡ Shapes.Original home → ⊥
original_shape plan j job spot w home e s = grind arith

pub shapes_plain : (plan : Placement) (j : ℕ) (job : Job) (spot : ℕ → StackPlace) (ws : List Word) → NoOriginals ws → Settles.NoOriginals (map (shape plan j job spot) ws)
shapes_plain plan j job spot [] plain home h = h
shapes_plain plan j job spot (w ∷ ws) plain home (inl e) = original_shape plan j job spot w home plain.0 e
shapes_plain plan j job spot (w ∷ ws) plain home (inr h) = shapes_plain plan j job spot ws plain.1 home h

-- a live array is an object of the view
mapped : (plan : Placement) (j : ℕ) (xs : List State.Array) (a : State.Array) → Has xs a → Has (map (array_object plan j) xs) (array_object plan j a)
mapped plan j [] a h = h
mapped plan j (b ∷ more) a (inl e) = inl (ap (array_object plan j) e)
mapped plan j (b ∷ more) a (inr h) = inr (mapped plan j more a h)

behind : (xs ys : List PagedObject) (z : PagedObject) → Has ys z → Has (xs ++ ys) z
behind [] ys z h = h
behind (x ∷ xs) ys z h = inr (behind xs ys z h)

pub before : (xs ys : List PagedObject) (z : PagedObject) → Has xs z → Has (xs ++ ys) z
before [] ys z h = absurd h
before (x ∷ xs) ys z (inl e) = inl e
before (x ∷ xs) ys z (inr h) = inr (before xs ys z h)

pub member_objects : (plan : Placement) (jobs : List SessionJob) (m : SessionJob) (z : PagedObject) → Has jobs m → Has (objects_of plan m) z → Has (flat_map (objects_of plan) jobs) z
member_objects plan [] m z h i = absurd h
member_objects plan (y ∷ more) m z (inl e) i = let P : SessionJob → Type 0 = λ n. Has (objects_of plan n) z in before (objects_of plan y) (flat_map (objects_of plan) more) z (subst P (sym e) i)
member_objects plan (y ∷ more) m z (inr h) i = behind (objects_of plan y) (flat_map (objects_of plan) more) z (member_objects plan more m z h i)

pub array_object-has : (plan : Placement) (jobs : List SessionJob) (m : SessionJob) (a : State.Array) → Has jobs m → Has m.progress.job.arrays a → Has (flat_map (objects_of plan) jobs) (array_object plan m.constants.number a)
array_object-has plan jobs m a h i = grind (arith, member_objects, behind, mapped)

not_code : (plan : Placement) (j i : ℕ) (o : ℕ) (b : Bool) (ns : List ℕ) → (array_object plan j (record { identity = i; owner = o; writable = b; numbers = ns })).kind ≢ Code
not_code plan j i o b ns = grind arith

live_home : (plan : Placement) (jobs : List SessionJob) (m : SessionJob) (n : ℕ) → Has jobs m → IsLive m.progress.job n → IsArrayAt (flat_map (objects_of plan) jobs) (plan.home m.constants.number n)
live_home plan jobs m n h l =
    (array_object plan m.constants.number l.item, array_object-has plan jobs m l.item h l.live, ap (plan.home m.constants.number) l.named, not_code plan m.constants.number l.item.identity l.item.owner l.item.writable l.item.numbers)

pub may_push : (plan : Placement) (jobs : List SessionJob) (m : SessionJob) (spot : ℕ → StackPlace) (w : Word) → Has jobs m → MayStand m.progress.job w → MayPush (flat_map (objects_of plan) jobs) (shape plan m.constants.number m.progress.job spot w)
may_push plan jobs m spot w h may = grind (arith, live_home)

module _ (x : Storage) (core : List Tagged) (r : Regs) (p : MachineView) (k : ℕ) where
  -- cells less
  pub Represents-less : (stack : List Activation) → Represents x core r p → RunsOn p k stack → (gone rest : List Shape) (q : Place) → top_cells stack ≡ gone ++ rest → Settles.NoOriginals gone → NoOriginalAboveTop p
      → Represents x core (record r { s = r.s - length gone; place = q }) (with_stack p k (stack_with_cells stack rest)) × NoOriginalAboveTop (with_stack p k (stack_with_cells stack rest))
  Represents-less [] s u gone rest q e plain settled = absurd ((running_fits x core r p k [] s u).0.some refl)
  Represents-less (a ∷ below) s u gone rest q e plain settled =
      (Represents-drop x core r p k a below s u gone rest q e, Settled-drop x core r p k a below s u gone rest e plain settled)

  -- one cell in the place of others
  pub Represents-put : (stack : List Activation) → Represents x core r p → RunsOn p k stack → (gone rest : List Shape) (c : Shape) (w : Tagged) (i : ℕ) (q : Place) → top_cells stack ≡ gone ++ rest
      → i ≡ r.s - length gone + 1 → i ≤ r.losr → Settles.NoOriginals gone → NoOriginalAboveTop p → MayPush p.objects c → Fits x.held c i w
      → Represents x (slice_set core i w) (record r { s = i; place = q }) (with_stack p k (stack_with_cells stack (c ∷ rest))) × NoOriginalAboveTop (with_stack p k (stack_with_cells stack (c ∷ rest)))
  Represents-put [] s u gone rest c w i q e at room plain settled may fit = absurd ((running_fits x core r p k [] s u).0.some refl)
  Represents-put (a ∷ below) s u gone rest c w i q e at room plain settled may fit =
      let less = Settled-drop x core r p k a below s u gone rest e plain settled in
      let p1 : MachineView = with_stack p k (record a { cells = rest } ∷ below) in
      let more : NoOriginalAboveTop (with_stack p1 k (record a { cells = c ∷ rest } ∷ below)) =
      Settled-more p1 k (record a { cells = rest } ∷ below) (record a { cells = c ∷ rest } ∷ below) (RunsOn-with p k (a ∷ below) (record a { cells = rest } ∷ below) u) (omega arith) less in
      (Represents-cells x core r p k a below s u gone rest c w i q e at room less may fit, subst NoOriginalAboveTop (with_stack-twice p k (record a { cells = rest } ∷ below) (record a { cells = c ∷ rest } ∷ below)) more)

-- a cell's word, by the cells above it
pub word_under : (x : Storage) (core : List Tagged) (r : Regs) (p : MachineView) (k : ℕ) (stack : List Activation) → Represents x core r p → RunsOn p k stack → (above : List Shape) (c : Shape) (rest : List Shape) → top_cells stack ≡ above ++ c ∷ rest
    → (v : Tagged) × (slice_get core (r.s - length above) ≡ Some v) × Fits x.held c (r.s - length above) v
word_under x core r p k [] s u above c rest e = absurd ((running_fits x core r p k [] s u).0.some refl)
word_under x core r p k (a ∷ below) s u above c rest e = cell_word x core r p k a below s u above c rest e
