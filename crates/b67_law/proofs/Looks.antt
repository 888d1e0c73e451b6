-- What the running task sees: the frames of its reach, by their identities.
use Rattle.std.proofs.Common.{◌≡◌, ℕ, ◌+◌, ◌^◌, ◌<◌, ◌≤◌, cond, eqb, List, [], ◌∷◌, ◌++◌, map, flat_map, Some, None, unwrap_or, refl, sym, ap, ◌∙◌, subst, inl, inr, arith, ◌≢◌}
use Rattle.std.specs.List.{AllByRecursion}
use Rattle.std.proofs.lemmas.Bool.Decides.{eqb_tells}
use Rattle.b67_model.specs.Keyed.{keyed}
use Rattle.b67_lemmas.specs.Lists.{Has, how_many}
use Rattle.b67_lemmas.proofs.Members.{all_in, falls_above, has_append_cases, has_append_left, has_append_right, has_flat, has_map, has_map_back, keyed_has, keyed_left, keyed_once, keyed_right, none_pass, total_flat, total_zero}
use Rattle.b67_model.specs.Words as Words
use Rattle.b67_model.specs.Common.{Word, Operand, Name, Ref, Row, Element, Original, Proc, Intrinsic, Frame, Standing, Marked, Entered, Array, Ready, Task, JobConstants, Job, OperatorContext, mcp, no_frame, all_frames, frame, with_top_cells, top, below_top, level_of_standing, level_of_frame, environment_of, running_from, running, Starts, Known, known_of, from_frame, base, outer_reach, outer_of, reach_of, known_numbers, IsEntered, NamesEntered, NamesArray, OwnsArray, WordInOrder, StandsInOrder, CellsInOrder, FramesInOrder, ParentInOrder, BirthInOrder, TaskInOrder, frames_named, SettingInOrder, TasksInOrder, StackInOrder, ReturnsInOrder}
use Rattle.b67_model.specs.Environment as Environment
use Rattle.b67_law.proofs.Reaches.{Wider, words_wider, stands_wider, known_number}
use Rattle.b67_law.proofs.Replaced.{numbers_append, birth_same}

pub record IsFrame (job : Job) (f : Frame) : Type 0 where
  pub task : Task
  pub live : Has job.tasks task
  pub among : Has task.frames f

-- the frames of a reach, all in order on one another
pub record Line (P : Starts) (job : Job) (reach : List Known) : Type 0 where
  pub frames : List Frame
  pub is : reach ≡ map known_of frames ++ base
  pub order : FramesInOrder P job.arrays base frames
  pub live : (f : Frame) → Has frames f → IsFrame job f

reach_append : (fs gs : List Frame) (ks : List Known) → map known_of fs ++ (map known_of gs ++ ks) ≡ map known_of (fs ++ gs) ++ ks
reach_append [] gs ks = refl
reach_append (f ∷ fs) gs ks = ap (λ rest. known_of f ∷ rest) (reach_append fs gs ks)

frames_append : (P : Starts) (arrays : List Array) (outer : List Known) (fs gs : List Frame) → outer ≡ map known_of gs ++ base → FramesInOrder P arrays base gs → FramesInOrder P arrays outer fs → FramesInOrder P arrays base (fs ++ gs)
frames_append P arrays outer [] gs is under g = under
frames_append P arrays outer (f ∷ fs) gs is under g =
    let whole : map known_of (f ∷ fs) ++ outer ≡ map known_of ((f ∷ fs) ++ gs) ++ base = ap (λ o. map known_of (f ∷ fs) ++ o) is ∙ reach_append (f ∷ fs) gs base in
    let rest : map known_of fs ++ outer ≡ map known_of (fs ++ gs) ++ base = ap (λ o. map known_of fs ++ o) is ∙ reach_append fs gs base in (
      subst (λ reach. CellsInOrder P arrays reach f.identity f.cells) whole g.0,
      subst (λ reach. StandsInOrder reach f.standing) rest g.1,
      frames_append P arrays outer fs gs is under g.2,
    )

from_order : (P : Starts) (arrays : List Array) (outer : List Known) (c : ℕ) (fs : List Frame) → FramesInOrder P arrays outer fs → FramesInOrder P arrays outer (from_frame c fs)
from_order P arrays outer c [] g = tt
from_order P arrays outer c (f ∷ fs) g = elim (eqb_tells f.identity c) [ inl t ↦ rw t.0 g | inr t ↦ rw t.0 (from_order P arrays outer c fs g.2) ]

pub from_has : (c : ℕ) (fs : List Frame) (f : Frame) → Has (from_frame c fs) f → Has fs f
from_has c [] f h = h
from_has c (g ∷ fs) f h = elim (eqb_tells g.identity c) [ inl t ↦ rw t.0 at h | inr t ↦ inr (from_has c fs f (rw t.0 at h)) ]

both_live : (job : Job) (fs gs : List Frame) → ((f : Frame) → Has fs f → IsFrame job f) → ((f : Frame) → Has gs f → IsFrame job f) → (f : Frame) → Has (fs ++ gs) f → IsFrame job f
both_live job fs gs a b f h = elim (has_append_cases fs gs f h) [ inl x ↦ a f x | inr y ↦ b f y ]

module _ (P : Starts) (constants : JobConstants) (job : Job) (g : TasksInOrder P constants job) where
  order_of : (t : Task) → Has job.tasks t → TaskInOrder P constants job t
  order_of t h = all_in (TaskInOrder P constants job) job.tasks t g.tasks h

  line_outer : (t : Task) → Has job.tasks t → (parents : List ℕ) → t.parents ≡ parents → Line P job (outer_reach job t.critical parents)
  line_outer t here [] line = record { frames = []; is = refl; order = tt; live = λ f h. absurd h }
  line_outer t here (p ∷ more) line =
      let birth : ParentInOrder job t p more = subst (BirthInOrder job t) line (order_of t here).birth in
      let q = birth.parent in
      let there : Has job.tasks q = (keyed_has (λ u. u.number) p job.tasks q birth.found).0 in
      let rest : Line P job (outer_reach job q.critical more) = line_outer q there more birth.line in
      let fs = from_frame t.critical q.frames in
      let order_q : FramesInOrder P job.arrays (outer_reach job q.critical more) q.frames = subst (λ ps. FramesInOrder P job.arrays (outer_reach job q.critical ps) q.frames) birth.line (order_of q there).frames in
      rw birth.found (record {
        frames = fs ++ rest.frames;
        is = ap (λ o. map known_of fs ++ o) rest.is ∙ reach_append fs rest.frames base;
        order = frames_append P job.arrays (outer_reach job q.critical more) fs rest.frames rest.is rest.order (from_order P job.arrays (outer_reach job q.critical more) t.critical q.frames order_q);
        live = both_live job fs rest.frames (λ f h. record { task = q; live = there; among = from_has t.critical q.frames f h }) rest.live;
      })

  pub line_of : (t : Task) → Has job.tasks t → Line P job (reach_of job t)
  line_of t here =
      let rest : Line P job (outer_of job t) = line_outer t here t.parents refl in
      record {
        frames = t.frames ++ rest.frames;
        is = ap (λ o. map known_of t.frames ++ o) rest.is ∙ reach_append t.frames rest.frames base;
        order = frames_append P job.arrays (outer_of job t) t.frames rest.frames rest.is rest.order (order_of t here).frames;
        live = both_live job t.frames rest.frames (λ f h. record { task = t; live = here; among = h }) rest.live;
      }

  -- every frame of a task has an identity above the dictionary's
  pub above_one : (t : Task) → Has job.tasks t → (f : Frame) → Has t.frames f → 1 < f.identity
  above_one t here f h =
      let rest : Line P job (outer_of job t) = line_outer t here t.parents refl in
      let ones : Has (known_numbers (outer_of job t)) 1 =
      rw rest.is (rw (numbers_append (map known_of rest.frames) base) (has_append_right (known_numbers (map known_of rest.frames)) (known_numbers base) 1 (inl refl))) in
      let falls = rw numbers_append at (order_of t here).falls in
      falls_above job.next_frame (known_numbers (map known_of t.frames)) (known_numbers (outer_of job t)) f.identity 1 falls
      (has_map (λ (k : Known). k.0) (map known_of t.frames) (known_of f) (has_map known_of t.frames f h)) ones

  none_low : (n : ℕ) → n ≤ 1 → how_many (λ (f : Frame). eqb f.identity n) (flat_map (λ (t : Task). t.frames) job.tasks) ≡ 0
  none_low n low = rw (total_flat (λ (t : Task). t.frames) (λ (f : Frame). cond (eqb f.identity n) 1 0) job.tasks)
      (total_zero (λ (t : Task). frames_named n t.frames) job.tasks (λ t here. none_pass (λ (f : Frame). eqb f.identity n) t.frames (λ f h. elim (eqb_tells f.identity n) [
        | inl e ↦ absurd (omega (arith, above_one t here f h, e.1, low))
        | inr e ↦ e.0
      ])))

  -- a live frame is found by its identity
  pub found_frame : (f : Frame) → IsFrame job f → keyed (λ (x : Frame). x.identity) f.identity (flat_map (λ (t : Task). t.frames) job.tasks) ≡ Some f
  found_frame f live = keyed_once (λ (x : Frame). x.identity) f.identity (flat_map (λ (t : Task). t.frames) job.tasks) f
      (rw (total_flat (λ (t : Task). t.frames) (λ (x : Frame). cond (eqb x.identity f.identity) 1 0) job.tasks) (g.apart f.identity))
      (has_flat (λ (t : Task). t.frames) job.tasks live.task f live.live live.among) refl

-- a word that a reference may come to
abbrev pub SeenWord : Starts → List Array → List Known → ℕ → Word → Type 0
SeenWord P arrays reach owner (Operand bits) = bits < 2 ^ 48
SeenWord P arrays reach owner (Name couple) = couple < 2 ^ 14
SeenWord P arrays reach owner (Ref identity offset) = NamesEntered reach identity × (offset < 2 ^ 12)
SeenWord P arrays reach owner (Row array) = NamesArray arrays reach array
SeenWord P arrays reach owner (Element array index) = NamesArray arrays reach array
SeenWord P arrays reach owner (Original array) = OwnsArray arrays owner array
SeenWord P arrays reach owner (Proc segment level place) = (level ≤ 31) × P segment level place × (1 < owner)
SeenWord P arrays reach owner (Intrinsic number) = Unit {0}
SeenWord P arrays reach owner (Words.Segment number) = Unit {0}

word_seen : (P : Starts) (arrays : List Array) (reach : List Known) (owner : ℕ) (w : Word) → 1 < owner → WordInOrder P arrays reach owner w → SeenWord P arrays reach owner w
word_seen P arrays h owner w high g = grind arith

-- a frame of a list in order: its words and its environment by the whole list
line_words : (P : Starts) (arrays : List Array) (outer : List Known) (fs : List Frame) (f : Frame) → FramesInOrder P arrays outer fs → Has fs f →
    AllByRecursion (WordInOrder P arrays (map known_of fs ++ outer) f.identity) f.cells × StandsInOrder (map known_of fs ++ outer) f.standing
line_words P arrays outer [] f g h = absurd h
line_words P arrays outer (x ∷ fs) f g h = elim h [
  | inl e ↦ subst (λ (y : Frame). AllByRecursion (WordInOrder P arrays (map known_of (x ∷ fs) ++ outer) y.identity) y.cells × StandsInOrder (map known_of (x ∷ fs) ++ outer) y.standing) e
      (g.0.0, stands_wider (map known_of fs ++ outer) (map known_of (x ∷ fs) ++ outer) x.standing (λ n t e k. inr k) g.1)
  | inr m ↦
      let r = line_words P arrays outer fs f g.2 m in
      let wide : Wider (map known_of fs ++ outer) (map known_of (x ∷ fs) ++ outer) arrays arrays =
      record { entered = λ n s e k. inr k; kept = λ a k at. record { item = a; live = k; named = refl; owned = refl } } in
      let at : Has (known_numbers (map known_of (x ∷ fs) ++ outer)) f.identity = known_number (map known_of (x ∷ fs) ++ outer) f.identity f.standing (inr (has_append_left (map known_of fs) outer (known_of f) (has_map known_of fs f m))) in (
        words_wider P (map known_of fs ++ outer) (map known_of (x ∷ fs) ++ outer) arrays arrays f.identity wide at f.cells r.0,
        stands_wider (map known_of fs ++ outer) (map known_of (x ∷ fs) ++ outer) f.standing (λ n t e k. inr k) r.1,
      )
]

-- the running task of a job in order; it may stand past the operator already
pub record Run (P : Starts) (h : OperatorContext) : Type 0 where
  pub unchanging : SettingInOrder h.constants
  pub order : TasksInOrder P h.constants h.job
  pub found : Task
  pub running : keyed (λ t. t.number) h.task.number h.job.tasks ≡ Some found
  pub same : record found { segment = h.task.segment; place = h.task.place } ≡ h.task
  pub place : P h.task.segment (level_of_frame (Environment.running h.task.frames)) h.task.place
  pub ready : h.task.condition ≡ Ready

abbrev pub reach : OperatorContext → List Known
reach h = reach_of h.job h.task

pub own_order : (P : Starts) (h : OperatorContext) (run : Run P h) → TaskInOrder P h.constants h.job h.task
own_order P h run =
    let found = all_in (TaskInOrder P h.constants h.job) h.job.tasks run.found run.order.tasks (keyed_has (λ t. t.number) h.task.number h.job.tasks run.found run.running).0 in
    grind (arith, birth_same)

-- what the running task's reach shows at an identity
pub record Seen (P : Starts) (h : OperatorContext) (n : ℕ) (s : Standing) : Type 0 where
  pub identity : (frame h n).identity ≡ n
  pub standing : (frame h n).standing ≡ s
  pub words : (w : Word) → Has (frame h n).cells w → SeenWord P h.job.arrays (reach h) n w
  pub outer : 1 < n → StandsInOrder (reach h) s

module _ (P : Starts) (h : OperatorContext) (run : Run P h) where
  line : Line P h.job (reach h)
  line =
      let r : Line P h.job (reach_of h.job run.found) = line_of P h.constants h.job run.order run.found (keyed_has (λ t. t.number) h.task.number h.job.tasks run.found run.running).0 in
      grind arith

  see_live : (f : Frame) → Has line.frames f → Seen P h f.identity f.standing
  see_live f here =
      let live = line.live f here in
      let is : frame h f.identity ≡ f = ap (λ o. unwrap_or o no_frame) (keyed_left (λ (x : Frame). x.identity) f.identity (flat_map (λ (t : Task). t.frames) h.job.tasks) (h.constants.dictionary ∷ mcp ∷ []) f (found_frame P h.constants h.job run.order f live)) in
      let r = line_words P h.job.arrays base line.frames f line.order here in
      let high = above_one P h.constants h.job run.order live.task live.live f live.among in
      grind (arith, all_in)

  dictionary_found : frame h 1 ≡ h.constants.dictionary
  dictionary_found =
      let here : keyed (λ (x : Frame). x.identity) 1 (h.constants.dictionary ∷ mcp ∷ []) ≡ Some h.constants.dictionary = rw run.unchanging.named refl in
      let all : keyed (λ (x : Frame). x.identity) 1 (all_frames h) ≡ Some h.constants.dictionary =
      keyed_right (λ (x : Frame). x.identity) 1 (flat_map (λ (t : Task). t.frames) h.job.tasks) (h.constants.dictionary ∷ mcp ∷ []) (none_low P h.constants h.job run.order 1 (omega arith)) ∙ here in
      ap (λ o. unwrap_or o no_frame) all

  mcp_found : frame h 0 ≡ mcp
  mcp_found =
      let here : keyed (λ (x : Frame). x.identity) 0 (h.constants.dictionary ∷ mcp ∷ []) ≡ Some mcp = rw run.unchanging.named refl in
      let all : keyed (λ (x : Frame). x.identity) 0 (all_frames h) ≡ Some mcp =
      keyed_right (λ (x : Frame). x.identity) 0 (flat_map (λ (t : Task). t.frames) h.job.tasks) (h.constants.dictionary ∷ mcp ∷ []) (none_low P h.constants h.job run.order 0 (omega arith)) ∙ here in
      ap (λ o. unwrap_or o no_frame) all

  see_dictionary : Seen P h 1 (Entered 1 0 None)
  see_dictionary = grind (arith, dictionary_found, all_in)

  see_mcp : Seen P h 0 (Entered 0 0 None)
  see_mcp = grind (arith, mcp_found)

  see_base : (n : ℕ) (s : Standing) → Has base (n, s) → Seen P h n s
  see_base n s k = grind (arith, see_dictionary, see_mcp)

  pub see : (n : ℕ) (s : Standing) → Has (reach h) (n, s) → Seen P h n s
  see n s k = elim (has_append_cases (map known_of line.frames) base (n, s) (rw line.is at k)) [
    | inl a ↦ let r = has_map_back known_of line.frames (n, s) a in subst (λ (x : Known). Seen P h x.0 x.1) r.is (see_live r.item r.among)
    | inr b ↦ see_base n s b
  ]

-- what an entered frame's environment is
pub record Outer (h : OperatorContext) (s : Standing) : Type 0 where
  pub standing : Standing
  pub among : Has (reach h) (environment_of s, standing)
  pub entered : IsEntered standing
  pub level_below : level_of_standing standing + 1 ≡ level_of_standing s

outer_of_standing : (h : OperatorContext) (s : Standing) → IsEntered s → StandsInOrder (reach h) s → Outer h s
outer_of_standing h s e g = grind arith

low_of_standing : (under : List Known) (s : Standing) → IsEntered s → StandsInOrder under s → 2 ≤ level_of_standing s
low_of_standing under s e g = grind arith

module _ (P : Starts) (h : OperatorContext) (run : Run P h) where
  base_in : (n : ℕ) (s : Standing) → Has base (n, s) → Has (reach h) (n, s)
  base_in n s k = rw (line P h run).is (has_append_right (map known_of (line P h run).frames) base (n, s) k)

  closed_base : (n : ℕ) (s : Standing) → Has base (n, s) → 1 ≤ level_of_standing s → Outer h s
  closed_base n s k low = elim k [
    | inl e ↦ subst (λ (x : Known). Outer h x.1) e (record { standing = Entered 0 0 None; among = base_in 0 (Entered 0 0 None) (inr (inl refl)); entered = tt; level_below = refl })
    | inr m ↦ elim m [
      | inl e ↦ let zeros : 0 ≡ level_of_standing s = ap (λ (x : Known). level_of_standing x.1) e in absurd (omega (arith, zeros, low))
      | inr x ↦ absurd x
    ]
  ]

  pub closed : (n : ℕ) (s : Standing) → Has (reach h) (n, s) → IsEntered s → 1 ≤ level_of_standing s → Outer h s
  closed n s k e low = elim (has_append_cases (map known_of (line P h run).frames) base (n, s) (rw (line P h run).is at k)) [
    | inl a ↦
        let r = has_map_back known_of (line P h run).frames (n, s) a in
        let live = (line P h run).live r.item r.among in
        let high = above_one P h.constants h.job run.order live.task live.live r.item live.among in
        let number : r.item.identity ≡ n = ap (λ (x : Known). x.0) r.is in
        outer_of_standing h s e ((see P h run n s k).outer (omega (arith, high, number)))
    | inr b ↦ closed_base n s b low
  ]

  pub level_low : (n : ℕ) (s : Standing) → Has (reach h) (n, s) → IsEntered s → 1 < n → 2 ≤ level_of_standing s
  level_low n s k e high = low_of_standing (reach h) s e ((see P h run n s k).outer high)

  pub own_high : (f : Frame) → Has h.task.frames f → 1 < f.identity
  own_high f k =
      let there : Has run.found.frames f = subst (λ (t : Task). Has t.frames f) (sym run.same) k in
      above_one P h.constants h.job run.order run.found (keyed_has (λ t. t.number) h.task.number h.job.tasks run.found run.running).0 f there

pub known_cells : (fs : List Frame) (cells : List Word) → map known_of (with_top_cells fs cells) ≡ map known_of fs
known_cells fs cells = grind arith

pub some_cells : (fs : List Frame) (cells : List Word) → fs ≢ [] → with_top_cells fs cells ≢ []
some_cells fs cells some = grind arith

-- a frame's cells don't count where it runs, nor in what is known of it
pub level_from : (s : Standing) (f g r : Frame) → level_of_frame f ≡ level_of_frame g → level_of_frame (running_from s f r) ≡ level_of_frame (running_from s g r)
level_from s f g r e = grind arith

pub running_cells : (fs : List Frame) (cells : List Word) → level_of_frame (running (with_top_cells fs cells)) ≡ level_of_frame (running fs)
running_cells fs cells = grind arith

pub below_some : (P : Starts) (fs : List Frame) → StackInOrder P fs → fs ≢ [] → (top fs).standing ≡ Marked → below_top fs ≢ []
below_some P fs g some marked = grind arith

-- what an entered frame is in reach of a marked one lies below it
pub below_marked : (fs : List Frame) (outer : List Known) (n : ℕ) (s : Standing) → (top fs).standing ≡ Marked → IsEntered s → Has (map known_of fs ++ outer) (n, s) → Has (map known_of (below_top fs) ++ outer) (n, s)
below_marked fs outer n s marked e k = grind arith
