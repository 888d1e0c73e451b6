-- The two top cells exchanged.
use Rattle.std.proofs.Common.{◌≡◌, ◌≢◌, ℕ, ◌+◌, ◌-◌, ◌≤◌, List, [], ◌∷◌, length, map, Ok, Err, None, refl, sym, ◌∙◌, ap, arith, inl, inr, true, false, subst, slice_set, ⊎_elim, ◌⊎◌}
use Rattle.std.proofs.lemmas.Bool.{cases_eq}
use Rattle.b67_word.specs.Tagged.{Tagged}
use Rattle.b67_word.specs.declared.couples.Place.{Place}
use Rattle.b67_word.specs.declared.faults.Fault.TheVariants.{InvalidOperand}
use Rattle.b67_core.proofs.Writes.{slice_get-set_other}
use Rattle.b67_ctl.specs.declared.registers.Regs.{Regs}
use Rattle.b67_model.specs.Common.{Answer, ◌>>=◌, Word, Task, SessionJob, number_of, Session, Done, leaves_cells, on_cells, exch, is_original}
use Rattle.b67_layout.specs.Common.{IsInOrderButCounts, Placement, spot_in, outer_spots, machine_view, IsRunning, RepresentsSession, here, IsMade, IsWordOf, cells}
use Rattle.b67_stack.specs.declared.Cpu.{Cpu}
use Rattle.b67_stack.specs.Common.{Shape, Fits, Activation, MachineView, RunsOn, NoOriginalAboveTop, Storage, Represents, with_stack, stack_with_cells, top_cells, MayPush}
use Rattle.b67_stack.proofs.Cells.{with_stack-twice}
use Rattle.b67_stack.proofs.Pushes.{RunsOn-with}
use Rattle.b67_stack.proofs.Slots.{running_fits}
use Rattle.b67_layout.proofs.Settles as Settles
use Rattle.b67_exec_cells.specs.Tops.{GivesTwo, MayStand}
use Rattle.b67_exec_cells.proofs.Replaced.{Represents-put, shapes_plain, may_push, height-with}
use Rattle.b67_exec_cells.proofs.Put.{stack, shaped, runs_here, room, tops, seen, made_cells}
use Rattle.b67_layout.proofs.Fresh.{running_in_order}
use Rattle.b67_exec_cells.proofs.Rows.{elsewhere, two_may_stand}
use Rattle.b67_lemmas.proofs.Members.{keyed_has}

cells-twice : (st : List Activation) (cs ds : List Shape) → stack_with_cells (stack_with_cells st cs) ds ≡ stack_with_cells st ds
cells-twice st cs ds = grind arith

cells-now : (st : List Activation) (cs : List Shape) → st ≢ [] → top_cells (stack_with_cells st cs) ≡ cs
cells-now st cs some = grind arith

-- two cells in the place of two
module _ (x : Storage) (core : List Tagged) (r : Regs) (p : MachineView) (k : ℕ) (st : List Activation) (s : Represents x core r p) (u : RunsOn p k st) where
  pub Represents-two : (b a : Shape) (rest : List Shape) (v w : Tagged) (q : Place) → top_cells st ≡ b ∷ a ∷ rest → 2 ≤ r.s → r.s ≤ r.losr → Settles.NoOriginals (b ∷ a ∷ []) → NoOriginalAboveTop p → MayPush p.objects a → MayPush p.objects b
      → Fits x.held b (r.s - 1) v → Fits x.held a r.s w
      → Represents x (slice_set (slice_set core (r.s - 1) v) r.s w) (record r { place = q }) (with_stack p k (stack_with_cells st (a ∷ b ∷ rest))) × NoOriginalAboveTop (with_stack p k (stack_with_cells st (a ∷ b ∷ rest)))
  Represents-two b a rest v w q e two room plain settled may_a may_b fit_b fit_a =
      let r1 : Regs = record r { s = r.s - 1; place = q } in
      let st1 : List Activation = stack_with_cells st (b ∷ rest) in
      let p1 : MachineView = with_stack p k st1 in
      let one = Represents-put x core r p k st s u (b ∷ a ∷ []) rest b v (r.s - 1) q e (omega (arith, two)) (omega (arith, room)) plain settled may_b fit_b in
      let some = (running_fits x core r p k st s u).0.some in
      let here_at : r.s ≡ r1.s - 0 + 1 = omega (arith, two) in
      let both = Represents-put x (slice_set core (r.s - 1) v) r1 p1 k st1 one.0 (RunsOn-with p k st st1 u) [] (b ∷ rest) a w r.s q (cells-now st (b ∷ rest) some) here_at room (λ home h. h) one.1 may_a fit_a in
      let same : with_stack p1 k (stack_with_cells st1 (a ∷ b ∷ rest)) ≡ with_stack p k (stack_with_cells st (a ∷ b ∷ rest)) =
      with_stack-twice p k st1 (stack_with_cells st1 (a ∷ b ∷ rest)) ∙ ap (with_stack p k) (cells-twice st (b ∷ rest) (a ∷ b ∷ rest)) in
      let P : MachineView → Type 0 = λ z. Represents x (slice_set (slice_set core (r.s - 1) v) r.s w) (record r { place = q }) z in
      (subst P same both.0, subst NoOriginalAboveTop same both.1)

module _ (x : Storage) (old : Cpu) (plan : Placement) (s : Session) (m : SessionJob) (t : Task) (ordered : IsInOrderButCounts s) (h : RepresentsSession x old plan s) (runs : IsRunning plan s.jobs m t) where
  pub exchanged : (u v : Tagged) (q : Place) (b a : Word) (rest : List Word) → cells t ≡ b ∷ a ∷ rest → old.regs.f + 2 ≤ old.regs.s → is_original a ≡ false → is_original b ≡ false → MayStand m.progress.job a → MayStand m.progress.job b
      → IsWordOf x plan m t a old.regs.s u → IsWordOf x plan m t b (old.regs.s - 1) v
      → IsMade x plan s m old (record old { core = slice_set (slice_set old.core (old.regs.s - 1) v) old.regs.s u; regs = record old.regs { place = q } }) (leaves_cells (here m t q) (a ∷ b ∷ rest) None)
  exchanged u v q b a rest e enough plain_a plain_b may_a may_b fit_a fit_b =
      let g = room x old plan s m t ordered h runs in
      let has_m = (keyed_has number_of m.constants.number s.jobs m runs.member).0 in
      let spot = spot_in plan.running (outer_spots plan m.constants.number m.progress.job t.critical t.parents) t.frames in
      let sh = shaped x old plan s m t ordered h runs in
      let d = Represents-two x old.core old.regs (machine_view plan s.jobs) plan.running (stack x old plan s m t ordered h runs) h.holds.memory (runs_here x old plan s m t ordered h runs) (sh b) (sh a) (map sh rest) v u q
      (tops x old plan s m t ordered h runs (b ∷ a ∷ []) rest e) (omega (arith, g.low, g.mark, g.top)) g.last
      (shapes_plain plan m.constants.number m.progress.job spot (b ∷ a ∷ []) (plain_b, (plain_a, tt))) h.holds.settled (may_push plan s.jobs m spot a has_m may_a) (may_push plan s.jobs m spot b has_m may_b)
      (seen x old plan s m t ordered h runs b (old.regs.s - 1) v fit_b) (seen x old plan s m t ordered h runs a old.regs.s u fit_a) in
      let i = (running_in_order plan s m t ordered runs).1 in
      let tall = height-with t.frames (a ∷ b ∷ rest) i.some in
      let longer = ap length e in
      made_cells x old plan s m t ordered h runs (record old { core = slice_set (slice_set old.core (old.regs.s - 1) v) old.regs.s u; regs = record old.regs { place = q } }) q (a ∷ b ∷ rest) refl refl
      (record { slot = refl; dict = refl; entries = refl; segment = refl; place = refl })
      (λ n. ⊎_elim (λ (z : n ≡ old.regs.s). inr (omega (arith, z, g.mark, g.top), omega (arith, z, g.last)))
      (λ (z : n ≡ old.regs.s → ⊥). ⊎_elim (λ (y : n ≡ old.regs.s - 1). inr (omega (arith, y, enough, g.mark), omega (arith, y, g.last)))
      (λ (y : n ≡ old.regs.s - 1 → ⊥). inl (slice_get-set_other (slice_set old.core (old.regs.s - 1) v) old.regs.s n u z ∙ slice_get-set_other old.core (old.regs.s - 1) n v y)) (cases_eq n (old.regs.s - 1))) (cases_eq n old.regs.s))
      d (omega (arith, tall, longer, i.not_higher))

  -- the row of EXCH by the words that were read
  pub exchanges : (u v : Tagged) (q : Place) → GivesTwo x plan m t old (cells t) (Ok (u, v)) → old.regs.f + 2 ≤ old.regs.s
      → ((w : Word) (at : ℕ) → IsWordOf x plan m t w at u → is_original w ≡ false) → ((w : Word) (at : ℕ) → IsWordOf x plan m t w at v → is_original w ≡ false)
      → IsMade x plan s m old (record old { core = slice_set (slice_set old.core (old.regs.s - 1) v) old.regs.s u; regs = record old.regs { place = q } }) (on_cells exch (here m t q))
  exchanges u v q given enough plain_u plain_v = by_cells (cells t) refl given where
    by_cells : (cs : List Word) → cells t ≡ cs → GivesTwo x plan m t old cs (Ok (u, v))
        → IsMade x plan s m old (record old { core = slice_set (slice_set old.core (old.regs.s - 1) v) old.regs.s u; regs = record old.regs { place = q } }) (exch cs >>= λ ds. leaves_cells (here m t q) ds None)
    by_cells [] e g = absurd (let z : ⊥ = cc in z)
    by_cells (b ∷ []) e g = absurd (let z : ⊥ = cc in z)
    by_cells (b ∷ a ∷ rest) e g =
        let pair : ◌≡◌ {A = Tagged × Tagged} (g.0, g.1) (u, v) = (let d = g.2 in cc) in
        let same_u : g.0 ≡ u = ap (λ (z : Tagged × Tagged). z.0) pair in
        let same_v : g.1 ≡ v = ap (λ (z : Tagged × Tagged). z.1) pair in
        let A : Tagged → Type 0 = λ w. IsWordOf x plan m t a (old.regs.s - 1) w in
        let B : Tagged → Type 0 = λ w. IsWordOf x plan m t b old.regs.s w in
        let fit_a = subst A same_u g.3.is in
        let fit_b = subst B same_v g.4.is in
        let na : is_original a ≡ false = plain_u a (old.regs.s - 1) fit_a in
        let nb : is_original b ≡ false = plain_v b old.regs.s fit_b in
        let may = two_may_stand plan s m t ordered runs b a rest e nb na in
        let P : Answer Done → Type 0 = λ an. IsMade x plan s m old (record old { core = slice_set (slice_set old.core (old.regs.s - 1) v) old.regs.s u; regs = record old.regs { place = q } }) an in
        let row : (exch (b ∷ a ∷ rest) >>= λ ds. leaves_cells (here m t q) ds None) ≡ leaves_cells (here m t q) (a ∷ b ∷ rest) None = rw na (rw nb refl) in
        subst P (sym row) (exchanged u v q b a rest e enough na nb may.0 may.1 (elsewhere x plan m t a (old.regs.s - 1) old.regs.s u na fit_a) (elsewhere x plan m t b old.regs.s (old.regs.s - 1) v nb fit_b))

-- an original among the two
pub exchange_refused : (x : Storage) (old : Cpu) (plan : Placement) (m : SessionJob) (t : Task) (u v : Tagged) (q : Place) → GivesTwo x plan m t old (cells t) (Ok (u, v))
    → ((w : Word) (at : ℕ) → IsWordOf x plan m t w at u → is_original w ≡ true) ⊎ ((w : Word) (at : ℕ) → IsWordOf x plan m t w at v → is_original w ≡ true) → on_cells exch (here m t q) ≡ Err InvalidOperand
exchange_refused x old plan m t u v q given own = grind arith
