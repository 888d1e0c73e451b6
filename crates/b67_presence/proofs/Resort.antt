-- The last resort: the code gives way too, and comes back behind the object.
use Rattle.std.proofs.Common.{◌≡◌, ◌≢◌, ℕ, ◌+◌, ◌≤◌, ◌==◌, ⊎_elim, inl, inr, List, [], ◌∷◌, length, Option, Some, None, refl, sym, ◌∙◌, ap, arith, subst, Result, OnOk, OnErr}
use Rattle.std.proofs.lemmas.Option.{none-some}
use Rattle.std.proofs.lemmas.Bool.{cases_eq, cond-true, cond-false, eq-eqb, ne_eqb}
use Rattle.b67_word.specs.Tagged.{Tagged}
use Rattle.b67_area.specs.declared.Areas.{Areas}
use Rattle.b67_area.specs.declared.Info.{Info}
use Rattle.b67_area.specs.declared.Kind.TheVariants.{Array, Code}
use Rattle.b67_area.specs.Spans.{Hole, area_at, fresh, without}
use Rattle.b67_area.proofs.Laws.{area_at-without}
use Rattle.b67_backing.specs.Shelf.{Table}
use Rattle.b67_ctl.specs.declared.registers.Regs.{Regs}
use Rattle.b67_lemmas.specs.Lists.{Has}
use Rattle.b67_stack.specs.declared.Cpu.{Cpu}
use Rattle.b67_stack.specs.Common.{Location, PagedObject, MachineView, Storage, Represents, info_of, LowWordsStayed}
use Rattle.b67_layout.specs.Machine.{IsAbsent, IsPresent, HasHole, AreBits}
use Rattle.b67_layout.proofs.Untold.{untold, Represents-untold}
use Rattle.b67_overlay.specs.Spans.{MachineCanPage}
use Rattle.b67_stack.proofs.Helds.{held-same, held-other}
use Rattle.b67_layout.proofs.Renumbered.{renumbered-same, kept_there, Stayed-renumbered}
use Rattle.b67_overlay.specs.Overlaid.{overlaid, chain_out}
use Rattle.b67_layout.proofs.Retold.{retold-same}
use Rattle.b67_presence.specs.Brought.{brought}
use Rattle.b67_presence.specs.Brings.{IsReadable, ReadBack, ReadIn, IsCode, BothIn, MayWait, need_both, IsAlone}
use Rattle.b67_presence.proofs.Beside.{both_fit}
use Rattle.b67_presence.proofs.Rooms.{one_hole, first_room, second_room}

pub Reads-none : (x y : Storage) (core : List Tagged) (r : Regs) (p : MachineView) (c : PagedObject) → Represents y core r p → Has p.objects c → ReadBack x p p c
Reads-none x y core r p c s int = record { numbers = c.numbers; count = refl; bits = λ b. b; is = sym (renumbered-same y core r p s c int); same = λ n. refl }

pub there_after : (x : Storage) (p q : MachineView) (t c : PagedObject) → ReadBack x p q t → Has p.objects c → c.home ≢ t.home → Has q.objects c
there_after x p q t c r int n = let P : MachineView → Type 0 = λ z. Has z.objects c in subst P (sym r.is) (kept_there p t.home r.numbers c int n)

-- a view that was read is read again
pub readable_on : (x y : Storage) (p q : MachineView) (t : PagedObject) → ReadBack x p q t → (x.device ≡ None → y.device ≡ None) → IsReadable x p → IsReadable y q
readable_on x y p q t r none k = grind arith

-- the same words stay, whichever numbers were read
pub Stayed-read : (x : Storage) (p q : MachineView) (t : PagedObject) → ReadBack x p q t → (core new : List Tagged) → LowWordsStayed q core new → LowWordsStayed p core new
Stayed-read x p q t r core new s = let P : MachineView → Type 0 = λ z. LowWordsStayed z core new in Stayed-renumbered p t.home r.numbers core new (subst P r.is s)

-- a promise of what is brought in, under a premise that the answer doesn't tell
pub ok_under : {T E : Type 0} (R B : Type 0) (result : Result T E) → (R → OnOk result B) → OnOk result (R → B)
ok_under R B result f = grind arith

pub err_under : {T E : Type 0} (R B : Type 0) (result : Result T E) → (R → OnErr result B) → OnErr result (R → B)
err_under R B result f = grind arith

-- paging over a storage that says nothing of the device
pub paging_untold : {x : Storage} {cpu : Cpu} {areas : Areas} {table : Table} {told : Option (List (List ℕ))} {p : MachineView} → MachineCanPage x cpu areas table told p → MachineCanPage (untold x) cpu areas table told p
paging_untold {x} {cpu} {p} m = record { stands = Represents-untold x cpu.core cpu.regs p m.stands; low = m.low; shelf = m.shelf; device = tt; copies = m.copies }

pub absent_untold : {x : Storage} {p : MachineView} {home : ℕ} {t : PagedObject} → IsAbsent x p home t → IsAbsent (untold x) p home t
absent_untold a = record { there = a.there; is = a.is; absent = a.absent }

pub code_untold : {x : Storage} {p : MachineView} {home at : ℕ} {c : PagedObject} → IsCode x p home at c → IsCode (untold x) p home at c
code_untold k = record { there = k.there; is = k.is; kind = k.kind; present = k.present }

module _ {x : Storage} {cpu : Cpu} {areas : Areas} {table : Table} {told : Option (List (List ℕ))} {p : MachineView} {home code spare : ℕ} {t c : PagedObject} (m : MachineCanPage x cpu areas table told p) (a : IsAbsent x p home t) (k : IsCode x p code spare c) where
  pub differ : c.home ≢ t.home
  differ e = none-some spare (sym a.absent ∙ ap (λ q. (x.held q).area) (sym a.is ∙ sym e ∙ k.is) ∙ k.present)

  pub present_code : IsPresent x p spare c
  present_code = record { there = k.there; present = ap (λ q. (x.held q).area) k.is ∙ k.present }

  pub no_array : c.kind ≢ Array
  no_array e = let z : Array ≡ Code = sym e ∙ k.kind in absurd (let b : ⊥ = cc in b)

  -- an area for the code and a hole for the object are in core
  pub room_beside : HasHole (length t.numbers + 2) x.spans → need_both x c t ≤ length cpu.core
  room_beside room =
      let f = m.stands.owned.of_held c.home spare present_code.present in
      let same : f.0 ≡ c = m.stands.slots.laid.differ f.0 c f.1 k.there f.2 in
      let is : area_at x.low x.spans spare ≡ Some (info_of x c) = f.3 ∙ ap (λ (u : PagedObject). Some (info_of x u)) same in
      omega (arith, both_fit x.low (length t.numbers + 2) x.spans spare (info_of x c) is room, m.stands.directory.all)

  abbrev pub y : Storage
  y = overlaid x c spare told

  device_same : (overlaid x c spare told).device ≡ x.device
  device_same = retold-same x.device told m.device

  held_t : (overlaid x c spare told).held home ≡ x.held home
  held_t = held-other x.held c.home (record { area = None; chain = chain_out x.shelf (x.held c.home).chain }) home (λ e. differ (sym e ∙ sym a.is))

  pub absent_t : IsAbsent (overlaid x c spare told) p home t
  absent_t = record { there = a.there; is = a.is; absent = ap (λ (h : Location). h.area) held_t ∙ a.absent }

  pub absent_c : IsAbsent (overlaid x c spare told) p code c
  absent_c = record { there = k.there; is = k.is; absent = ap (λ q. ((overlaid x c spare told).held q).area) (sym k.is) ∙ ap (λ (h : Location). h.area) (held-same x.held c.home (record { area = None; chain = chain_out x.shelf (x.held c.home).chain })) }

  pub readable_y : IsReadable x p → IsReadable (overlaid x c spare told) p
  readable_y r = ⊎_elim (λ (e : x.device ≡ None). inl (device_same ∙ e)) (λ (f : (u : PagedObject) → Has p.objects u → AreBits u.numbers). inr f) r

  module _ {new : Cpu} {after : Areas} {now : Option (List (List ℕ))} (rd : ReadIn (overlaid x c spare told) p t new after table now) where
    abbrev z : Storage
    z = brought (overlaid x c spare told) t rd.at

    held_z : (q : ℕ) → q ≢ t.home → (brought (overlaid x c spare told) t rd.at).held q ≡ (overlaid x c spare told).held q
    held_z q n = held-other (overlaid x c spare told).held t.home (record { area = Some rd.at; chain = ((overlaid x c spare told).held t.home).chain }) q n

    here_z : ((brought (overlaid x c spare told) t rd.at).held t.home).area ≡ Some rd.at
    here_z = ap (λ (h : Location). h.area) (held-same (overlaid x c spare told).held t.home (record { area = Some rd.at; chain = ((overlaid x c spare told).held t.home).chain }))

    pub absent_z : IsAbsent (brought (overlaid x c spare told) t rd.at) rd.machine_view code c
    absent_z = record {
      there = there_after (overlaid x c spare told) p rd.machine_view t c rd.reads k.there differ;
      is = k.is;
      absent = ap (λ (h : Location). h.area) (held_z code (λ e. differ (k.is ∙ e))) ∙ absent_c.absent;
    }

    pub reads_x : ReadBack x p rd.machine_view t
    reads_x = record { numbers = rd.reads.numbers; count = rd.reads.count; bits = rd.reads.bits; is = rd.reads.is; same = λ n. rd.reads.same (λ e. n (sym device_same ∙ e)) }

    pub readable_z : IsReadable x p → IsReadable (brought (overlaid x c spare told) t rd.at) rd.machine_view
    readable_z r = readable_on x (brought (overlaid x c spare told) t rd.at) p rd.machine_view t reads_x (λ e. device_same ∙ e) r

    pub waits_second : {last : Cpu} {done : Areas} {end : Option (List (List ℕ))} → MachineCanPage (brought (overlaid x c spare told) t rd.at) last done table end rd.machine_view → MayWait x p t c last done table end
    waits_second ms = record {
      storage = brought (overlaid x c spare told) t rd.at;
      machine_view = rd.machine_view;
      low = refl;
      untold = λ e. device_same ∙ e;
      told_still = λ n e. n (sym device_same ∙ e);
      lacks = inr (ap (λ (q : ℕ). ((brought (overlaid x c spare told) t rd.at).held q).area) k.is ∙ absent_z.absent);
      reads = reads_x;
      stands = ms;
    }

    pub both_in : {last : Cpu} {done : Areas} {end : Option (List (List ℕ))} → ReadIn (brought (overlaid x c spare told) t rd.at) rd.machine_view c last done table end → BothIn x p t c last done table end
    both_in rc =
        let h : Location = record { area = Some rc.at; chain = ((brought (overlaid x c spare told) t rd.at).held c.home).chain } in
        let held = (brought (overlaid x c spare told) t rd.at).held in
        let is_c : ((brought (brought (overlaid x c spare told) t rd.at) c rc.at).held c.home).area ≡ Some rc.at = ap (λ (g : Location). g.area) (held-same held c.home h) in
        let is_t : ((brought (brought (overlaid x c spare told) t rd.at) c rc.at).held t.home).area ≡ Some rd.at = ap (λ (g : Location). g.area) (held-other held c.home h t.home (λ q. differ (sym q))) ∙ here_z in
        record {
          storage = brought (brought (overlaid x c spare told) t rd.at) c rc.at;
          read = rd.machine_view;
          machine_view = rc.machine_view;
          low = refl;
          untold = λ e. device_same ∙ e;
          told_still = λ n e. n (sym device_same ∙ e);
          object = λ e. none-some rd.at (sym e ∙ is_t);
          code = λ e. none-some rc.at (sym e ∙ is_c);
          reads = reads_x;
          reads_code = record { numbers = rc.reads.numbers; count = rc.reads.count; bits = rc.reads.bits; is = rc.reads.is; same = λ n. rc.reads.same (λ e. n (sym device_same ∙ e)) };
          stands = rc.stands;
        }

  module _ (alone : IsAlone x spare) {core : List Tagged} (size : length core ≡ length cpu.core) (fits : need_both x c t ≤ length cpu.core) (s : Represents (overlaid x c spare told) core cpu.regs p) where
    nothing : (b : ℕ) (i : Info) → area_at x.low (without x.low spare x.spans) b ≡ Some i → ⊥
    nothing b i e = ⊎_elim
        (λ (q : spare ≡ b). none-some i (sym (cond-true (spare == b) _ _ (eq-eqb spare b q)) ∙ sym (area_at-without x.low spare x.spans b) ∙ e))
        (λ (n : spare ≡ b → ⊥). n (sym (alone b i (sym (cond-false (spare == b) _ _ (ne_eqb spare b n)) ∙ sym (area_at-without x.low spare x.spans b) ∙ e))))
        (cases_eq spare b)

    hole : (h : ℕ) × (without x.low spare x.spans ≡ Hole h ∷ []) × (x.low + h ≡ length core)
    hole = one_hole core x.low (without x.low spare x.spans) s.directory nothing (omega (arith, size))

    pub room_t : HasHole (length t.numbers + 2) (overlaid x c spare told).spans
    room_t = let (h, is, e) = hole in first_room (length t.numbers + 2) h (without x.low spare x.spans) is (omega (arith, size))

    pub room_c : (at : ℕ) → HasHole (length c.numbers + 2) (brought (overlaid x c spare told) t at).spans
    room_c at = let (h, is, e) = hole in second_room (length c.numbers + 2) x.low at ((overlaid x c spare told).held t.home).chain h (fresh t.kind (length t.numbers) t.home) (without x.low spare x.spans) is (omega arith) (omega (arith, size))

  pub waits_first : {last : Cpu} {done : Areas} {end : Option (List (List ℕ))} → MachineCanPage (overlaid x c spare told) last done table end p → MayWait x p t c last done table end
  waits_first {last} ms = record {
    storage = overlaid x c spare told;
    machine_view = p;
    low = refl;
    untold = λ e. device_same ∙ e;
    told_still = λ n e. n (sym device_same ∙ e);
    lacks = inl (ap (λ (q : ℕ). ((overlaid x c spare told).held q).area) a.is ∙ absent_t.absent);
    reads = Reads-none x (overlaid x c spare told) last.core last.regs p t ms.stands a.there;
    stands = ms;
  }
