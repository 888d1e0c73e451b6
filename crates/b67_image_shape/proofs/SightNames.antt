-- Names in a task's reach, by the places that are seen.
use Rattle.std.proofs.Common.{◌≡◌, ℕ, zero, suc, ◌+◌, ◌^◌, ◌<◌, ◌≤◌, true, List, [], ◌∷◌, ◌++◌, map, Option, Some, None, refl, sym, ◌∙◌, ap, subst, arith, inl, inr}
use Rattle.std.specs.Prelude.{◌⊎◌}
use Rattle.std.proofs.lemmas.List.{map-append, append_cancel_left}
use Rattle.b67_lemmas.specs.Lists.{Has}
use Rattle.b67_lemmas.proofs.Members.{keyed_has, has_append_cases, has_map, has_map_back}
use Rattle.b67_model.specs.Common.{Known, known_of, outer_of, IsEntered, NamesEntered}
use Rattle.b67_stack.specs.Common as stack
use Rattle.b67_stack.specs.Common.{Head, Activation, StackPlace, stack_words}
use Rattle.b67_layout.specs.Common.{spot_in, outer_spots, TaskRow, JobRow}
use Rattle.b67_layout_shown.specs.Places.{named}
use Rattle.b67_layout_shown.specs.Seen.{Seen, seen_in, from_disp, base_seen, seen_from, known_seen, ReachIsSeen}
use Rattle.b67_layout_shown.specs.Shown.{Sight, frame_seen, standing_of, array_homed, frames_of, stack_of_row, parents_by, critical_by, task_in, job_seen, placed}
use Rattle.b67_image_shape.specs.TableFacts.{row_in_slot, TableFacts}
use Rattle.b67_image_shape.specs.FixedWords.{FixedFacts}
use Rattle.b67_image_shape.specs.Held.{location_in}
use Rattle.b67_image_shape.specs.NearStacks.{NearStacks}
use Rattle.b67_image_shape.proofs.Rows.{of_row, same_number}
use Rattle.b67_image_shape.proofs.Sources.{number_some}
use Rattle.b67_image_shape.proofs.Spots.{job_low, slot_few, parent_job, rows_sound, in_slot, dictionary_name, mcp_name, short, spots_in, outer_are}
use Rattle.b67_image_shape.proofs.MarksSeen.{is_entered_head, seen_stack, seen_low, from_cut}
use Rattle.b67_image_shape.proofs.SightSeen.{SeesEntered}

-- ---- heads

pub entered_back : (frame : StackPlace → ℕ) (h : Head) → IsEntered (standing_of frame h) → is_entered_head h ≡ true
entered_back h g e = grind arith

pub entered_forth : (frame : StackPlace → ℕ) (h : Head) → is_entered_head h ≡ true → IsEntered (standing_of frame h)
entered_forth h g e = grind arith

module _ (k : Sight) (facts : TableFacts k) (low size : ℕ) (fixed : FixedFacts k low size) (near : NearStacks k) (seen : ReachIsSeen) (r : TaskRow) (h : Has k.tasks r) where
  abbrev pub row : JobRow
  row = (of_row k facts r h).row

  abbrev pub frame : StackPlace → ℕ
  frame = frame_seen k.tasks r.job

  abbrev pub array : ℕ → ℕ
  array = array_homed k.regs k.tasks (of_row k facts r h).row

  abbrev pub out : List Seen
  out = seen_from k r.job 15 r.critical (row_in_slot k.tasks r.parent)

  abbrev pub outer : List Known
  outer = outer_of (job_seen k (of_row k facts r h).row r.job) (task_in k (of_row k facts r h).row r.job r)

  abbrev pub outers : ℕ → StackPlace
  outers = outer_spots (placed k) r.job (job_seen k (of_row k facts r h).row r.job) (critical_by k.tasks r.critical (row_in_slot k.tasks r.parent)) (parents_by k.tasks 15 (row_in_slot k.tasks r.parent))

  few : r.job < 9
  few = job_low (location_in k.core) k facts near fixed.stack_high r h

  -- ---- reach

  own_seen : (acts : List Activation) → map known_of (frames_of r.number frame array acts) ≡ map (known_seen k r.job) (seen_in r.slot acts)
  own_seen [] = refl
  own_seen (a ∷ below) = grind (arith, in_slot, own_seen below)

  outer_is : outer ≡ map (known_seen k r.job) out
  outer_is =
      let all = seen k (of_row k facts r h).row r.job (rows_sound (location_in k.core) k facts near fixed.stack_high (of_row k facts r h).row r.job (of_row k facts r h).found few) r h refl in
      append_cancel_left (map (known_seen k r.job) (seen_in r.slot (stack_of_row k r))) outer (map (known_seen k r.job) out)
      (ap (λ ks. ks ++ outer) (sym (own_seen (stack_of_row k r))) ∙ all ∙ map-append (known_seen k r.job) (seen_in r.slot (stack_of_row k r)) out)

  pub reach_is : (acts : List Activation) → map known_of (frames_of r.number frame array acts) ++ outer ≡ map (known_seen k r.job) (seen_in r.slot acts ++ out)
  reach_is acts = grind (arith, own_seen, outer_is, map-append)

  -- ---- spots

  pub spot_is : (acts : List Activation) (x : Seen) → Has (seen_in r.slot acts ++ out) x → spot_in r.slot outers (frames_of r.number frame array acts) (frame x.0) ≡ x.0
  spot_is acts x there =
      spots_in (location_in k.core) k facts near fixed.stack_high r.job r h array outers out
      (outer_are (location_in k.core) k facts near fixed.stack_high (of_row k facts r h).row r.job (of_row k facts r h).found few 15 r.critical (row_in_slot k.tasks r.parent) r.number (number_some k facts r h)
      (λ p e. (let b = parent_job (location_in k.core) k facts near fixed.stack_high r p h e in ((keyed_has (λ (z : TaskRow). z.slot) r.parent k.tasks p e).0, b.0, b.1))))
      acts x there

  -- ---- places

  -- a place that is seen: the dictionary's or the MCP's, or one of a live task of the job
  pub record InTask (x : Seen) : Type 0 where
    pub q : TaskRow
    pub there : Has k.tasks q
    pub job : q.job ≡ r.job
    pub mark : Has (seen_in q.slot (stack_of_row k q)) x
    pub stack_is : x.0.stack ≡ q.slot
    pub disp : x.0.disp ≤ stack_words (stack_of_row k q)

  abbrev pub PlaceOf : Seen → Type 0
  PlaceOf x = Has (base_seen r.job) x ⊎ InTask x

  from_place : (n disp : ℕ) (o : Option TaskRow) → ((p : TaskRow) → o ≡ Some p → Has k.tasks p × (p.job ≡ r.job)) → (x : Seen) → Has (seen_from k r.job n disp o) x → PlaceOf x
  from_place zero disp o live x g = inl g
  from_place (suc n) disp None live x g = inl g
  from_place (suc n) disp (Some p) live x g = elim (has_append_cases (seen_in p.slot (from_disp disp (stack_of_row k p))) (seen_from k r.job n p.critical (row_in_slot k.tasks p.parent)) x g) [
    | inl z ↦
        let mine = (from_cut p.slot disp (stack_of_row k p) x z).1 in
        inr (record { q = p; there = (live p refl).0; job = (live p refl).1; mark = mine; stack_is = seen_stack p.slot (stack_of_row k p) x mine; disp = seen_low p.slot (stack_of_row k p) x mine })
    | inr z ↦
        from_place n p.critical (row_in_slot k.tasks p.parent)
        (λ q e. ((keyed_has (λ (w : TaskRow). w.slot) p.parent k.tasks q e).0, (parent_job (location_in k.core) k facts near fixed.stack_high p q (live p refl).0 e).0 ∙ (live p refl).1)) x z
  ]

  pub place_of : (acts : List Activation) → ((x : Seen) → Has (seen_in r.slot acts) x → Has (seen_in r.slot (stack_of_row k r)) x) → (x : Seen) → Has (seen_in r.slot acts ++ out) x → PlaceOf x
  place_of acts lift x g = elim (has_append_cases (seen_in r.slot acts) out x g) [
    | inl z ↦ inr (record { q = r; there = h; job = refl; mark = lift x z; stack_is = seen_stack r.slot acts x z; disp = seen_low r.slot (stack_of_row k r) x (lift x z) })
    | inr z ↦ from_place 15 r.critical (row_in_slot k.tasks r.parent) (λ q e. ((keyed_has (λ (w : TaskRow). w.slot) r.parent k.tasks q e).0, (parent_job (location_in k.core) k facts near fixed.stack_high r q h e).0)) x z
  ]

  pub words_small : (q : TaskRow) → Has k.tasks q → stack_words (stack_of_row k q) < 2 ^ 14
  words_small q hq = short (location_in k.core) k facts near fixed.stack_high q hq

  -- its numbers are small
  pub place_small : (x : Seen) → PlaceOf x → (x.0.stack < 2 ^ 10) × (x.0.disp < 2 ^ 14)
  place_small x h = grind (arith, few, slot_few, words_small)

  -- the name of a place in a live task of the job is that of no other
  pub same_place : (q : TaskRow) (hq : Has k.tasks q) → q.job ≡ r.job → (m : ℕ) → m < 2 ^ 14 → (x : Seen) → PlaceOf x → frame x.0 ≡ named q.number m → x.0 ≡ record { stack = q.slot; disp = m }
  same_place q hq job m small x h name = grind (arith, dictionary_name, number_some, mcp_name, few, words_small, in_slot, same_number)

  -- ---- entered marks

  pub names_seen : (xs : List Seen) (p : StackPlace) → SeesEntered xs p → NamesEntered (map (known_seen k r.job) xs) (frame p)
  names_seen xs p (q, there, t) = record { standing = standing_of frame q; among = has_map (known_seen k r.job) xs (p, q) there; entered = entered_forth frame q t }

  pub seen_named : (xs : List Seen) (n : ℕ) → NamesEntered (map (known_seen k r.job) xs) n → (x : Seen) × Has xs x × (frame x.0 ≡ n) × (is_entered_head x.1 ≡ true)
  seen_named xs n e = grind (arith, has_map_back, entered_back)
