-- A task's frames with another word in a cell of one of them.
use Rattle.std.proofs.Common.{◌≡◌, ℕ, zero, suc, ◌+◌, ◌-◌, ◌<◌, List, [], ◌∷◌, ◌++◌, map, reverse, length, refl, sym, ◌∙◌, ap, arith, Bool, true, false, cond, ◌==◌, ⊎_elim, subst, slice_set}
use Rattle.std.specs.Prelude.{if◌then◌else◌}
use Rattle.std.proofs.lemmas.Bool.{cases_Bool, eq-eqb, ne_eqb}
use Rattle.std.proofs.lemmas.List.{length-map, length-reverse}
use Rattle.b67_word.specs.Tagged.{word}
use Rattle.b67_model.specs.Keyed.{change_keyed}
use Rattle.b67_lemmas.specs.Lists.{Has}
use Rattle.b67_lemmas.proofs.Members.{reverse_cons}
use Rattle.b67_lemmas.proofs.Places.{same_test}
use Rattle.b67_model.specs.Common.{Word, Operand, Frame, Standing, Task, Job, no_frame, height, with_cell, known_of, identities, from_frame, IsEntered, frames_named}
use Rattle.b67_model.specs.State as State
use Rattle.b67_stack.specs.Common.{Shape, Is, StackPlace, Activation, head_size, stack_words}
use Rattle.b67_layout.specs.Common.{Placement, spot_in, shape, head, activations}
use Rattle.b67_layout_step.proofs.Puts.{put, put_length, put_map, Puts, within, lower}

set_last : {A : Type 0} (ys : List A) (x w : A) (i : ℕ) → slice_set (ys ++ x ∷ []) i w ≡ slice_set ys i w ++ (if i == length ys then w else x) ∷ []
set_last [] x w zero = refl
set_last [] x w (suc i) = let t = ne_eqb (suc i) 0 (λ e. omega (arith, e)) in ap (λ (b : Bool). (if b then w else x) ∷ []) (sym t)
set_last (z ∷ ys) x w zero = let t = ne_eqb 0 (suc (length ys)) (λ e. omega (arith, e)) in ap (λ (b : Bool). w ∷ (ys ++ (if b then w else x) ∷ [])) (sym t)
set_last (z ∷ ys) x w (suc i) = ap (λ zs. z ∷ zs) (set_last ys x w i) ∙ ap (λ (b : Bool). z ∷ (slice_set ys i w ++ (if b then w else x) ∷ [])) (same_test i (length ys))

reverse_last : {A : Type 0} (ys : List A) (x : A) → reverse (ys ++ x ∷ []) ≡ x ∷ reverse ys
reverse_last [] x = refl
reverse_last (y ∷ ys) x = reverse_cons y (ys ++ x ∷ []) ∙ ap (λ zs. zs ++ y ∷ []) (reverse_last ys x) ∙ ap (λ zs. x ∷ zs) (sym (reverse_cons y ys))

-- the cells from the top down, with another one by its number from the first
pub stored_cells : {A : Type 0} (i : ℕ) (w : A) (cs : List A) → reverse (slice_set (reverse cs) i w) ≡ put i w cs
stored_cells i w [] = refl
stored_cells i w (x ∷ xs) = grind (arith, reverse_cons, set_last, reverse_last, length-reverse, stored_cells i w xs)

abbrev pub put_frame : ℕ → Word → Frame → Frame
put_frame i w f = record f { cells = put i w f.cells }

abbrev pub put_frames : ℕ → ℕ → Word → List Frame → List Frame
put_frames id i w fs = change_keyed (λ (f : Frame). f.identity) id (put_frame i w) fs

-- the job with a word stored, by the frames of its tasks
abbrev pub put_job : Job → ℕ → ℕ → Word → Job
put_job job id i w = record job { tasks = map (λ (t : Task). record t { frames = put_frames id i w t.frames }) job.tasks }

pub with_cell_is : (job : Job) (id offset : ℕ) (w : Word) → with_cell job id offset w ≡ put_job job id (offset - 2) w
with_cell_is job id offset w = grind (arith, stored_cells)

-- the frames under the first one of an identity, and that one
abbrev pub frames_under : ℕ → List Frame → List Frame
frames_under id [] = []
frames_under id (f ∷ fs) = if f.identity == id then fs else frames_under id fs

abbrev pub frame_found : ℕ → List Frame → Frame
frame_found id [] = no_frame
frame_found id (f ∷ fs) = if f.identity == id then f else frame_found id fs

module _ (id i : ℕ) (w : Word) where
  pub put_known : (fs : List Frame) → map known_of (put_frames id i w fs) ≡ map known_of fs
  put_known [] = refl
  put_known (f ∷ fs) = grind (arith, put_known fs)

  pub put_height : (fs : List Frame) → height (put_frames id i w fs) ≡ height fs
  put_height [] = refl
  put_height (f ∷ fs) = grind (arith, put_length, put_height fs)

  spot_by : (k : ℕ) (outer : ℕ → StackPlace) (fs : List Frame) (g : ℕ) → spot_in k outer (put_frames id i w fs) g ≡ spot_in k outer fs g
  spot_by k outer [] g = refl
  spot_by k outer (f ∷ fs) g = grind (arith, put_height, spot_by k outer fs g)

  pub put_spot : (k : ℕ) (outer : ℕ → StackPlace) (fs : List Frame) → spot_in k outer (put_frames id i w fs) ≡ spot_in k outer fs
  put_spot k outer fs = λ z g. spot_by k outer fs g z

  -- frames from one down are found where they were
  from_by : (c k : ℕ) (outer : ℕ → StackPlace) (fs : List Frame) (g : ℕ) → spot_in k outer (from_frame c (put_frames id i w fs)) g ≡ spot_in k outer (from_frame c fs) g
  from_by c k outer [] g = refl
  from_by c k outer (f ∷ fs) g = grind (arith, put_height, spot_by, from_by c k outer fs g)

  pub put_from : (c k : ℕ) (outer : ℕ → StackPlace) (fs : List Frame) → spot_in k outer (from_frame c (put_frames id i w fs)) ≡ spot_in k outer (from_frame c fs)
  put_from c k outer fs = λ z g. from_by c k outer fs g z

  -- frames without that one stay
  pub put_none : (fs : List Frame) → frames_named id fs ≡ 0 → put_frames id i w fs ≡ fs
  put_none [] n = refl
  put_none (f ∷ fs) n = grind (arith, put_none fs)

  module _ (plan : Placement) (j : ℕ) (job : Job) (k : ℕ) (outer : ℕ → StackPlace) where
    entered_size : (spot : ℕ → StackPlace) (s : Standing) → IsEntered s → head_size (head spot s) ≡ 2
    entered_size spot s e = grind arith

    -- the activation records, where the word is that of a cell of an entered frame
    pub put_activations : (bits : ℕ) → w ≡ Operand bits → (fs : List Frame) → Has (identities fs) id → IsEntered (frame_found id fs).standing → i < length (frame_found id fs).cells
        → Puts (Is (word 0 bits)) (stack_words (activations plan j job k outer (frames_under id fs)) + 2 + i) (activations plan j job k outer fs) (activations plan j job k outer (put_frames id i w fs))
    put_activations bits is [] has e low = absurd has
    put_activations bits is (f ∷ fs) has e low = ⊎_elim
        (λ (t : (f.identity == id) ≡ true).
        (let e' : IsEntered f.standing = rw t at e in
        let low' : i < length f.cells = rw t at low in
        let g = shape plan j job (spot_in k outer (f ∷ fs)) in
        let A : Activation = record { head = head (spot_in k outer fs) f.standing; cells = map g f.cells } in
        let p : Puts (Is (word 0 bits)) (stack_words (activations plan j job k outer fs) + head_size A.head + i) (A ∷ activations plan j job k outer fs) ((let B : Activation = record { head = A.head; cells = put i (Is (word 0 bits)) A.cells } in B) ∷ activations plan j job k outer fs) =
        within A (activations plan j job k outer fs) i (let n = length-map f.cells g in omega (arith, n, low')) in
        let cells : put i (Is (word 0 bits)) (map g f.cells) ≡ map g (put i w f.cells) = ap (λ (v : Word). put i (g v) (map g f.cells)) (sym is) ∙ sym (put_map g i w f.cells) in
        let size = entered_size (spot_in k outer fs) f.standing e' in
        let P : List Shape → Type 0 = λ cs. Puts (Is (word 0 bits)) (stack_words (activations plan j job k outer fs) + head_size A.head + i) (A ∷ activations plan j job k outer fs) ((let B : Activation = record { head = A.head; cells = cs } in B) ∷ activations plan j job k outer fs) in
        let Q : ℕ → Type 0 = λ n. Puts (Is (word 0 bits)) (stack_words (activations plan j job k outer fs) + n + i) (A ∷ activations plan j job k outer fs) ((let B : Activation = record { head = A.head; cells = map g (put i w f.cells) } in B) ∷ activations plan j job k outer fs) in
        let found = subst Q size (subst P cells p) in
        rw t found))
        (λ (t : (f.identity == id) ≡ false).
        (let has' : Has (identities fs) id = ⊎_elim (λ z. absurd (let y : ⊥ = (let q : (f.identity == id) ≡ true = eq-eqb f.identity id z in let u : false ≡ true = sym t ∙ q in cc) in y)) (λ h. h) has in
        let r = put_activations bits is fs has' (rw t at e) (rw t at low) in
        let A : (ℕ → StackPlace) → (ℕ → StackPlace) → Activation = λ o q. record { head = head o f.standing; cells = map (shape plan j job q) f.cells } in
        let inner : spot_in k outer (f ∷ put_frames id i w fs) ≡ spot_in k outer (f ∷ fs) = λ z g. (ap (λ (n : ℕ). cond (f.identity == g) (let s : StackPlace = record { stack = k; disp = n } in s) (spot_in k outer (put_frames id i w fs) g)) (put_height fs)
        ∙ ap (λ (s : StackPlace). cond (f.identity == g) (let s : StackPlace = record { stack = k; disp = height fs } in s) s) (spot_by k outer fs g)) z in
        let same : A (spot_in k outer (put_frames id i w fs)) (spot_in k outer (f ∷ put_frames id i w fs)) ≡ A (spot_in k outer fs) (spot_in k outer (f ∷ fs)) =
        ap (λ o. A o (spot_in k outer (f ∷ put_frames id i w fs))) (put_spot k outer fs) ∙ ap (A (spot_in k outer fs)) inner in
        let more = lower (A (spot_in k outer fs) (spot_in k outer (f ∷ fs))) r in
        let P : Activation → Type 0 = λ a. Puts (Is (word 0 bits)) (stack_words (activations plan j job k outer (frames_under id fs)) + 2 + i) (activations plan j job k outer (f ∷ fs)) (a ∷ activations plan j job k outer (put_frames id i w fs)) in
        let found = subst P (sym same) more in
        rw t found))
        (cases_Bool (f.identity == id))
