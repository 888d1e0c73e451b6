-- The words that the tables tell stand in core, if the machine represents what it shows.
use Rattle.std.proofs.Common.{◌≡◌, ◌≢◌, ℕ, ◌+◌, ◌*◌, ◌^◌, ◌<◌, ◌==◌, List, [], ◌∷◌, map, length, Option, Some, None, refl, sym, ◌∙◌, ap, subst, arith, inl, inr}
use Rattle.std.specs.List.{slice_get}
use Rattle.std.proofs.lemmas.Bool.{ne_eqb, eq-eqb}
use Rattle.std.proofs.lemmas.Option.{none-some}
use Rattle.b67_word.specs.Tagged.{word}
use Rattle.b67_lemmas.specs.Lists.{Has}
use Rattle.b67_lemmas.proofs.Members.{keyed_has, has_map_back, find_none}
use Rattle.b67_model.specs.Common.{Task, SessionJob, BirthInOrder, IsInOrderButPlaces}
use Rattle.b67_stack.specs.Common.{Free, RepresentsSlot, Storage}
use Rattle.b67_layout.specs.Common.{Slotted, slot_of, slot_by, slot_at, machine_view, SessionHolds, TaskRow, JobRow, TablesShow, DictionariesFollow, JobsShow, parent_slot, vector_word}
use Rattle.b67_layout.proofs.Rows.{finds}
use Rattle.b67_layout_shown.specs.Shown.{Sight, member_in, members_from, shown, placed}
use Rattle.b67_image_shape.specs.TableFacts.{row_in_slot}
use Rattle.b67_image_shape.specs.FixedWords.{DictionariesStandIn, link_to, vector_of, FreeSlot, SlotsHaveRoom, FixedFacts}
use Rattle.b67_image_shape.proofs.Members.{row_in}
use Rattle.b67_image_shape.proofs.TablesOf.{job_order, task_order, no_row}

-- an item that is found by its number is there, and none is if none is found
pub none_there : (tasks : List TaskRow) (n : ℕ) → row_in_slot tasks n ≡ None → (r : TaskRow) → Has tasks r → r.slot ≢ n
none_there tasks n e r h z = let f = finds (λ (q : TaskRow). q.slot == n) tasks r h (eq-eqb r.slot n z) in none-some f.item (sym e ∙ f.found)

module _ (k : Sight) (x : Storage) (critical : List ℕ) (ordered : IsInOrderButPlaces (shown k)) (holds : SessionHolds x k.core k.regs critical (placed k) (shown k))
    (tables : TablesShow (placed k) (shown k) k.tasks k.jobs k.counts) where
  abbrev image : TaskRow → Slotted
  image r = record { job = r.job; task = r.number; slot = r.slot }

  room : (rows : List JobRow) → ((y : SessionJob) → Has (members_from k 1 rows) y → Has (shown k).jobs y) → SlotsHaveRoom k.regs.stack_size rows
  room [] inside = tt
  room (row ∷ more) inside = (job_order k x critical ordered holds tables (member_in k row 1) (inside (member_in k row 1) (inl refl))).unchanging.stack_low

  -- ---- dictionaries

  follow : (n at : ℕ) (rows : List JobRow) → ((y : SessionJob) → Has (members_from k n rows) y → Has (shown k).jobs y) → JobsShow (placed k) (members_from k n rows) rows
      → DictionariesFollow (placed k) at (members_from k n rows) → DictionariesStandIn k.core k.regs.stacks at rows
  follow n at [] inside shows d = d
  follow n at (row ∷ more) inside shows d =
      let there = inside (member_in k row n) (inl refl) in
      let o = (job_order k x critical ordered holds tables (member_in k row n) there).unchanging in
      let q = holds.dictionaries (member_in k row n) there in
      let sh = shows.0 in
      let long : length (member_in k row n).constants.dictionary.cells ≡ row.segments + row.rows = sym sh.rows in
      let few = o.entries in (
        record {
          place = sh.dictionary ∙ d.0;
          few = omega (arith, few, long);
          mark = ap (slice_get k.core) (sym d.0) ∙ q.mark;
          entries = ap (λ a. slice_get k.core (a + 1)) (sym d.0) ∙ q.entries ∙ ap (λ a. Some (word 0 a)) long;
        },
        subst (λ a. DictionariesStandIn k.core k.regs.stacks (at + (2 + a)) more) long
            (follow (n + 1) (at + (2 + length (member_in k row n).constants.dictionary.cells)) more (λ y h. inside y (inr h)) shows.1 d.1),
      )

  -- ---- slots

  links : (r : TaskRow) (m : SessionJob) → Has (shown k).jobs m → (t : Task) (ps : List ℕ) → BirthInOrder m.progress.job t ps → r.parent ≡ parent_slot (placed k) m.constants.number ps → r.job ≡ m.constants.number
      → vector_word (placed k) m.constants.number ps ≡ vector_of k.tasks (Some r)
  links r m hm t [] b ep ej = grind (arith, no_row)
  links r m hm t (p ∷ above) b ep ej =
      let found = keyed_has (λ (v : Task). v.number) p m.progress.job.tasks b.parent b.found in
      let (q, hq, shq) = tables.each m b.parent hm found.0 in
      let slot : slot_of (placed k) m.constants.number p ≡ q.slot = ap (slot_of (placed k) m.constants.number) (sym found.1) ∙ sym shq.slot in
      let at = ap (row_in_slot k.tasks) (ep ∙ slot) ∙ row_in k.tasks q tables.once hq in
      ap (λ j. word 3 (2 ^ 46 + slot_of (placed k) m.constants.number p * 2 ^ 36 + j * 2 ^ 16)) (sym ej)
      ∙ ap (λ i. word 3 (2 ^ 46 + i * 2 ^ 36 + r.job * 2 ^ 16)) slot
      ∙ ap (λ (o : Option TaskRow). word 3 (2 ^ 46 + link_to o * 2 ^ 36 + r.job * 2 ^ 16)) (sym at)

  slots : (n : ℕ) → n < 120 → (o : Option TaskRow) → row_in_slot k.tasks n ≡ o → slice_get k.core (32 + n) ≡ Some (vector_of k.tasks o)
  slots n low None e = holds.vector.free n low (λ r h z. (let b = has_map_back image k.tasks r h in none_there k.tasks n e b.item b.among (ap (λ (w : Slotted). w.slot) b.is ∙ z)))
  slots n low (Some r) e =
      let f = keyed_has (λ (q : TaskRow). q.slot) n k.tasks r e in
      let (m, t, hm, ht, sh) = tables.tasks r f.0 in
      ap (λ i. slice_get k.core (32 + i)) (sym f.1 ∙ sh.slot) ∙ holds.vector.live m t hm ht ∙ ap Some (links r m hm t t.parents (task_order k x critical ordered holds tables m t hm ht).birth sh.parent sh.job)

  free_at : (n : ℕ) → row_in_slot k.tasks n ≡ None → slot_at (placed k) (shown k).jobs n ≡ Free
  free_at n e =
      ap (slot_by (placed k) (shown k).jobs n) (find_none (λ (r : Slotted). r.slot == n) (map image k.tasks) (λ r h. ne_eqb r.slot n (λ z. (let b = has_map_back image k.tasks r h in none_there k.tasks n e b.item b.among (ap (λ (w : Slotted). w.slot) b.is ∙ z)))))

  free : (n : ℕ) → n < k.regs.peak → (o : Option TaskRow) → row_in_slot k.tasks n ≡ o → FreeSlot k.core (k.regs.stacks + n * k.regs.stack_size) o
  free n low (Some r) e = tt
  free n low None e = (subst (RepresentsSlot k.core k.regs (machine_view (placed k) (shown k).jobs) n) (free_at n e) (holds.memory.slots.slots n low)).1

  pub fixed_of : (low size : ℕ) → low ≡ x.low → size ≡ length k.core → FixedFacts k low size
  fixed_of low size el es = grind (arith, room, follow, slots, free)
