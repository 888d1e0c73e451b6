-- The view of a session doesn't show where an array's original stands that no word names.
use Rattle.std.proofs.Common.{◌≡◌, ◌≢◌, ℕ, ◌+◌, ◌≤◌, List, [], ◌∷◌, ◌++◌, map, length, Option, Some, None, refl, sym, ◌∙◌, ap, ◌==◌, inl, inr, subst, arith}
use Rattle.std.specs.Prelude.{if◌then◌else◌, flat_map}
use Rattle.std.specs.List.{AllByRecursion}
use Rattle.b67_area.specs.declared.Kind.TheVariants as kind
use Rattle.b67_lemmas.specs.Lists.{Has}
use Rattle.b67_lemmas.proofs.Members.{keyed_has}
use Rattle.b67_model.specs.Common.{Word, Frame, Array, Segment, Task, Job, SessionJob, frame_at, number_of, Session}
use Rattle.b67_model.specs.Keyed.{keyed}
use Rattle.b67_stack.specs.declared.Cpu.{Cpu}
use Rattle.b67_stack.specs.Common.{Shape, StackPlace, Activation, PagedObject, Slot, Running, Waiting, MachineView, NoOriginalAboveTop, Storage, Represents}
use Rattle.b67_layout.specs.Common.{Placement, Slotted, slot_of, spot_in, outer_spots, address_of, shape, head, activations, stack_of_task, slot_with, slot_in, slot_by, slot_at, code_objects, array_object, objects_of, machine_view, PlanFits, vector_word, IsRunning, RepresentsSession}
use Rattle.b67_mcp.specs.Declaring.{with_home}
use Rattle.b67_mcp.proofs.Avoiding.{Avoids, FramesAvoid, JobAvoids}

module _ (plan : Placement) (j n at : ℕ) where
  abbrev there : Placement
  there = with_home plan j n at

  pub outer_spots-there : (i : ℕ) (job : Job) (parents : List ℕ) (c id : ℕ) → outer_spots (with_home plan j n at) i job c parents id ≡ outer_spots plan i job c parents id
  outer_spots-there i job [] c id = refl
  outer_spots-there i job (parent ∷ more) c id = grind arith

  module _ (i : ℕ) where
    shapes-there : (job : Job) (spot : ℕ → StackPlace) (ws : List Word) → (i ≡ j → AllByRecursion (Avoids n) ws) → map (shape there i job spot) ws ≡ map (shape plan i job spot) ws
    shapes-there job spot [] ne = refl
    shapes-there job spot (w ∷ ws) ne = grind (arith, shapes-there job spot ws)

    activations-there : (job : Job) (q : ℕ) (outer : ℕ → StackPlace) (fs : List Frame) → (i ≡ j → FramesAvoid n fs) → activations there i job q outer fs ≡ activations plan i job q outer fs
    activations-there job q outer [] ne = refl
    activations-there job q outer (f ∷ below) ne =
        let A : List Shape → Activation = λ cs. record { head = head (spot_in q outer below) f.standing; cells = cs } in
        ap (λ (cs : List Shape). A cs ∷ activations there i job q outer below) (shapes-there job (spot_in q outer (f ∷ below)) f.cells (λ e. (ne e).0))
        ∙ ap (λ (under : List Activation). A (map (shape plan i job (spot_in q outer (f ∷ below))) f.cells) ∷ under) (activations-there job q outer below (λ e. (ne e).1))

    stack-there : (job : Job) (q : ℕ) (t : Task) → (i ≡ j → FramesAvoid n t.frames) → stack_of_task there i job q t ≡ stack_of_task plan i job q t
    stack-there job q t ne = grind (arith, activations-there)

    slot-there : (job : Job) (q : ℕ) (o : Option Task) → ((t : Task) → o ≡ Some t → i ≡ j → FramesAvoid n t.frames) → slot_with there q i job o ≡ slot_with plan q i job o
    slot-there job q None ne = refl
    slot-there job q (Some t) ne =
        let S : List Activation → Slot = λ st. if q == plan.running then Running st else Waiting st in
        ap S (stack-there job q t (ne t refl))

    code-there : (k : ℕ) (segments : List Segment) → code_objects there i k segments ≡ code_objects plan i k segments
    code-there k [] = refl
    code-there k (g ∷ more) = ap (λ (ts : List PagedObject). record { home = plan.dictionary i + 1 + k; kind = kind.Code; numbers = g.code } ∷ ts) (code-there (k + 1) more)

    arrays-there : (arrays : List Array) → (i ≡ j → AllByRecursion (λ (a : Array). a.identity ≢ n) arrays) → map (array_object there i) arrays ≡ map (array_object plan i) arrays
    arrays-there [] ne = refl
    arrays-there (a ∷ more) ne = grind (arith, arrays-there more)

  module _ (jobs : List SessionJob) (avoid : (y : SessionJob) → Has jobs y → y.constants.number ≡ j → JobAvoids n y.progress.job) where
    slots-there : (q : ℕ) → slot_at there jobs q ≡ slot_at plan jobs q
    slots-there q = by_row (keyed (λ (r : Slotted). r.slot) q plan.rows) where
      by_member : (r : Slotted) (o : Option SessionJob) → keyed number_of r.job jobs ≡ o → slot_in there q r.job r.task o ≡ slot_in plan q r.job r.task o
      by_member r None e = refl
      by_member r (Some y) e =
          let k = keyed_has number_of r.job jobs y e in
          slot-there r.job y.progress.job q (keyed (λ (t : Task). t.number) r.task y.progress.job.tasks)
          (λ t found same. (avoid y k.0 (k.1 ∙ same)).tasks t (keyed_has (λ (u : Task). u.number) r.task y.progress.job.tasks t found).0)

      by_row : (o : Option Slotted) → slot_by there jobs q o ≡ slot_by plan jobs q o
      by_row None = refl
      by_row (Some r) = by_member r (keyed number_of r.job jobs) refl

    objects-there : (ms : List SessionJob) → ((y : SessionJob) → Has ms y → Has jobs y) → flat_map (objects_of there) ms ≡ flat_map (objects_of plan) ms
    objects-there [] in_jobs = refl
    objects-there (y ∷ more) in_jobs =
        ap (λ (ts : List PagedObject). (ts ++ map (array_object there y.constants.number) y.progress.job.arrays) ++ flat_map (objects_of there) more) (code-there y.constants.number 1 y.constants.segments)
        ∙ ap (λ (ts : List PagedObject). (code_objects plan y.constants.number 1 y.constants.segments ++ ts) ++ flat_map (objects_of there) more) (arrays-there y.constants.number y.progress.job.arrays (λ e. (avoid y (in_jobs y (inl refl)) e).arrays))
        ∙ ap (λ (ts : List PagedObject). objects_of plan y ++ ts) (objects-there more (λ z h. in_jobs z (inr h)))

    pub machine_view-there : machine_view (with_home plan j n at) jobs ≡ machine_view plan jobs
    machine_view-there = grind (arith, slots-there, objects-there)

  vector-there : (i : ℕ) (parents : List ℕ) → vector_word plan i parents ≡ vector_word there i parents
  vector-there i parents = grind arith

  module _ (x : Storage) (cpu : Cpu) (s : Session) (h : RepresentsSession x cpu plan s) (avoid : (y : SessionJob) → Has s.jobs y → y.constants.number ≡ j → JobAvoids n y.progress.job)
      (rows : (y : SessionJob) → Has s.jobs y → y.constants.number ≡ j → (k : ℕ) → 1 ≤ k → k + length y.constants.segments ≤ length y.constants.dictionary.cells → k ≢ n) where
    abbrev back : (y : SessionJob) (t : Task) → IsRunning there s.jobs y t → IsRunning plan s.jobs y t
    back y t r = record { member = r.member; task = r.task; slot = r.slot }

    fits-there : PlanFits there s
    fits-there = grind arith

    -- the machine represents the session by that plan too
    pub stands-there : RepresentsSession x cpu (with_home plan j n at) s
    stands-there =
        let o = h.holds in
        let same = machine_view-there s.jobs avoid in
        record {
          holds = record {
            fits = fits-there;
            memory = subst (λ (p : MachineView). Represents x cpu.core cpu.regs p) (sym same) o.memory;
            settled = subst NoOriginalAboveTop (sym same) o.settled;
            dictionaries = λ y i. record { mark = (o.dictionaries y i).mark; entries = (o.dictionaries y i).entries };
            mcp = o.mcp;
            vector = record { live = λ y t i k. o.vector.live y t i k ∙ ap Some (vector-there y.constants.number t.parents); free = o.vector.free };
            critical = record { live = o.critical.live; free = o.critical.free };
            live = λ ne. let (y, t, r) = o.live ne in (y, t, record { member = r.member; task = r.task; slot = r.slot });
            running = λ y t r. let q = o.running y t (back y t r) in record { slot = q.slot; dict = q.dict; entries = q.entries; segment = q.segment; place = q.place };
            none = o.none;
          };
          shows = λ y t r k up.
              let id = (frame_at (record { constants = y.constants; job = y.progress.job; task = t; at = t.place }) k).identity in
              let outer : outer_spots there y.constants.number y.progress.job t.critical t.parents ≡ outer_spots plan y.constants.number y.progress.job t.critical t.parents = λ z b. outer_spots-there y.constants.number y.progress.job t.parents t.critical b z in
              h.shows y t (back y t r) k up ∙ ap (λ (q : ℕ → StackPlace). Some (address_of plan (spot_in (slot_of plan y.constants.number t.number) q t.frames id))) (sym outer);
        }
