-- The stack of a task stands exactly if its words are those of what is read of them.
use Rattle.std.proofs.Common.{◌≡◌, ◌≢◌, ℕ, zero, suc, ◌+◌, ◌-◌, ◌*◌, ◌<◌, ◌≤◌, ◌^◌, List, [], ◌∷◌, length, Some, None, refl, sym, ◌∙◌, ap, subst, arith, ⊎_elim}
use Rattle.std.proofs.lemmas.Bool.{cases_eq, eq-eqb, ne_eqb}
use Rattle.b67_word.specs.Tagged.{Tagged, word, bits_at}
use Rattle.b67_ctl.specs.Layout.{toscw_word}
use Rattle.b67_model.specs.Common.{Frame, JobConstants, IsSegment, StackInOrder, ReturnsInOrder, level_of_frame, running}
use Rattle.b67_stack.specs.Common as stack
use Rattle.b67_stack.specs.Common.{Fits, Head, HeadFits, HeadsFit, Activation, stack_words, mark_place, stack_level, toscw_of, words, RepresentsRunning}
use Rattle.b67_layout.specs.Rows.{TaskRow, JobRow}
use Rattle.b67_layout_shown.specs.Reading.{word_seen_at}
use Rattle.b67_layout_shown.proofs.Stacks.{word_is}
use Rattle.b67_layout_shown.specs.Shown.{Sight, standing_of, frames_of, frame_seen, array_homed, segments_from, constants_in, task_in, stack_of_row, top_by, top_in}
use Rattle.b67_image_shape.specs.Held.{location_in}
use Rattle.b67_image_shape.specs.Items.{base_at, TopFacts, StackFactsBy}
use Rattle.b67_image_shape.specs.StackWalk.{ReturnsTo, HaveReturns}
use Rattle.b67_image_shape.specs.TaskWalk.{level_by, level_in, is_segment_place, TaskStands, TasksStand}
use Rattle.b67_image_shape.proofs.Fits.{there}
use Rattle.b67_image_shape.proofs.StackDecided.{segment_decided}
use Rattle.b67_image_shape.proofs.Walked.{heads_read, level_small}

-- ---- returns

module _ (c : JobConstants) (number : ℕ) (frame : stack.StackPlace → ℕ) (array : ℕ → ℕ) where
  abbrev frames : List Activation → List Frame
  frames = frames_of number frame array

  no_frames : (acts : List Activation) → acts ≡ [] → frames acts ≡ []
  no_frames acts e = ap frames e

  no_acts : (acts : List Activation) → frames acts ≡ [] → acts ≡ []
  no_acts [] e = refl
  no_acts (a ∷ below) e = absurd (let z : ⊥ = cc in z)

  return_in : (h : Head) (below : List Activation) → HeadFits h below → ReturnsTo (length c.segments) h below → ReturnsInOrder (IsSegment c) (standing_of frame h) (frames below)
  return_in h below f r = grind (arith, no_acts, no_frames)

  in_return : (h : Head) (below : List Activation) → ReturnsInOrder (IsSegment c) (standing_of frame h) (frames below) → ReturnsTo (length c.segments) h below
  in_return h below r = grind (arith, no_frames, no_acts)

  returns_in : (acts : List Activation) → HeadsFit acts → HaveReturns (length c.segments) acts → StackInOrder (IsSegment c) (frames acts)
  returns_in [] f r = tt
  returns_in (a ∷ below) f r = (return_in a.head below f.0 r.0, returns_in below f.1 r.1)

  in_returns : (acts : List Activation) → StackInOrder (IsSegment c) (frames acts) → HaveReturns (length c.segments) acts
  in_returns [] r = tt
  in_returns (a ∷ below) r = (in_return a.head below r.0, in_returns below r.1)

pub segments_long : (core : List Tagged) (at n : ℕ) → length (segments_from core at n) ≡ n
segments_long core at zero = refl
segments_long core at (suc n) = ap suc (segments_long core (at + 1) n)

-- ---- the top of stack word

mark_low : (acts : List Activation) → mark_place acts ≤ stack_words acts
mark_low h = grind arith

toscw_read : (s l f : ℕ) → s < 2 ^ 14 → l < 2 ^ 5 → f < 2 ^ 14 → let w = word 3 (s * 2 ^ 20 + l * 2 ^ 14 + f) in (bits_at w 20 16 ≡ s) × (bits_at w 14 5 ≡ l) × (bits_at w 0 14 ≡ f)
toscw_read s l f a b d = (omega (arith, a, b, d), omega (arith, a, b, d), omega (arith, a, b, d))

toscw_same : (s l f a b d : ℕ) → s ≡ a → l ≡ b → f ≡ d → toscw_word (record { s = s; level = l; f = f }) ≡ toscw_word (record { s = a; level = b; f = d })
toscw_same s l f a b d x y z = rw (x, y, z) refl

module _ (k : Sight) (row : JobRow) (job : ℕ) (r : TaskRow) (small : k.regs.stack_size < 2 ^ 14) (inside : base_at k r + k.regs.stack_size ≤ length k.core) where
  abbrev acts : List Activation
  acts = stack_of_row k r

  abbrev w : Tagged
  w = word_seen_at k.core (base_at k r)

  heads : HeadsFit acts
  heads = heads_read k.core k.regs.stack_size (top_in k r).f (top_in k r).s

  abbrev c : JobConstants
  c = constants_in k row job

  many : length c.segments ≡ row.segments
  many = segments_long k.core (row.dictionary + 2) row.segments

  -- what the top is if the task runs, and if it doesn't
  runs_s : r.slot ≡ k.regs.slot → ((top_in k r).s ≡ k.regs.s) × ((top_in k r).f ≡ k.regs.f) × (level_in k r ≡ k.regs.level)
  runs_s e = let t = eq-eqb r.slot k.regs.slot e in (ap (λ b. (top_by k r (base_at k r) b).s) t, ap (λ b. (top_by k r (base_at k r) b).f) t, ap (level_by k r) t)

  waits_s : r.slot ≢ k.regs.slot → ((top_in k r).s ≡ base_at k r + bits_at w 20 16) × ((top_in k r).f ≡ base_at k r + bits_at w 0 14) × (level_in k r ≡ bits_at w 14 5)
  waits_s ne = let t = ne_eqb r.slot k.regs.slot ne in (ap (λ b. (top_by k r (base_at k r) b).s) t, ap (λ b. (top_by k r (base_at k r) b).f) t, ap (level_by k r) t)

  -- ---- there

  there_top : TaskStands k row.segments r → TopFacts k r acts
  there_top t = grind (arith, runs_s, waits_s, there, toscw_same)

  forth : TaskStands k row.segments r → StackFactsBy (location_in k.core) k row job r
  forth t =
      let low = t.low in
      let top = t.stands.top in
      record {
        fits = record { some = t.stands.some; heads = heads; fits = omega (arith, low, top) };
        top = there_top t;
        lie = t.stands.lie;
        returns = returns_in (constants_in k row job) r.number (frame_seen k.tasks job) (array_homed k.regs k.tasks row) (stack_of_row k r) heads (subst (λ n. HaveReturns n (stack_of_row k r)) (sym many) t.stands.returns);
        place = (segment_decided (constants_in k row job) (task_in k row job r).segment (level_of_frame (running (task_in k row job r).frames)) (task_in k row job r).place).0 (ap (λ n. is_segment_place n ((top_in k r).segment - 1) (top_in k r).place) many ∙ t.place);
      }

  -- ---- back

  abbrev Tops : Type 0
  Tops = (base_at k r + stack_words acts ≡ (top_in k r).s) × (base_at k r + mark_place acts ≡ (top_in k r).f) × (stack_level acts ≡ level_in k r)

  is_toscw : (f : StackFactsBy (location_in k.core) k row job r) → r.slot ≢ k.regs.slot → (w ≡ toscw_word (toscw_of acts)) × (bits_at w 20 16 ≡ stack_words acts) × (bits_at w 14 5 ≡ stack_level acts) × (bits_at w 0 14 ≡ mark_place acts)
  is_toscw f ne = grind (arith, word_is, mark_low, toscw_read, level_small, heads)

  tops : StackFactsBy (location_in k.core) k row job r → Tops
  tops f = grind (arith, ⊎_elim, runs_s, waits_s, is_toscw, cases_eq)

  back : StackFactsBy (location_in k.core) k row job r → TaskStands k row.segments r
  back f =
      let (s, m, l) = tops f in
      let fits = f.fits.fits in
      record {
        low = omega (arith, fits, s);
        top = record {
          runs = λ e. let q = f.top.runs e in (q.first, q.last);
          waits = λ ne.
              let (z, a, b, d) = is_toscw f ne in
              z ∙ toscw_same (stack_words acts) (stack_level acts) (mark_place acts) (bits_at w 20 16) (bits_at w 14 5) (bits_at w 0 14) (sym a) (sym b) (sym d);
        };
        stands = record {
          some = f.fits.some;
          top = s;
          mark = m;
          level_is = l;
          lie = f.lie;
          returns = subst (λ n. HaveReturns n (stack_of_row k r)) many (in_returns (constants_in k row job) r.number (frame_seen k.tasks job) (array_homed k.regs k.tasks row) (stack_of_row k r) f.returns);
        };
        place = sym (ap (λ n. is_segment_place n ((top_in k r).segment - 1) (top_in k r).place) many) ∙ (segment_decided (constants_in k row job) (task_in k row job r).segment (level_of_frame (running (task_in k row job r).frames)) (task_in k row job r).place).1 f.place;
      }

pub tasks_stand : TasksStand
tasks_stand k row job r small inside = (forth k row job r small inside, back k row job r small inside)
