-- Every identity that frames of a job name is below the next one, so a new frame is looked up by none of them.
use Rattle.std.proofs.Common.{◌≡◌, ◌≢◌, ℕ, List, [], ◌∷◌, ◌++◌, flat_map, Some, refl, sym, ◌∙◌, ap, true, false, cond, ◌==◌, ⊎_elim}
use Rattle.std.proofs.lemmas.Bool.{cases_Bool, ne_eqb}
use Rattle.std.proofs.lemmas.Option.{same_Some}
use Rattle.b67_model.specs.Keyed.{keyed, change_keyed}
use Rattle.b67_model.specs.State.{Frame, Task}

-- the frame of an identity, where a task got one more of another identity
pub frame_past : (n : ℕ) (f : Frame) (more : List Frame) (number : ℕ) (t t' : Task) → t'.frames ≡ f ∷ t.frames → f.identity ≡ n → (ts : List Task) → keyed (λ (u : Task). u.number) number ts ≡ Some t → (id : ℕ) → id ≢ n
    → keyed (λ (g : Frame). g.identity) id (flat_map (λ (u : Task). u.frames) (change_keyed (λ (u : Task). u.number) number (λ u. t') ts) ++ more) ≡ keyed (λ (g : Frame). g.identity) id (flat_map (λ (u : Task). u.frames) ts ++ more)
frame_past n f more number t t' is named [] k id ne = refl
frame_past n f more number t t' is named (y ∷ ys) k id ne = ⊎_elim
    (λ (q : (y.number == number) ≡ true).
    let same : y ≡ t = same_Some y t (rw q at k) in
    rw q (rw (is, sym same) (rw (ne_eqb f.identity id (λ e. ne (sym e ∙ named))) refl)))
    (λ (q : (y.number == number) ≡ false).
    let at : keyed (λ (u : Task). u.number) number ys ≡ Some t = rw q at k in
    rw q (past y.frames (flat_map (λ (u : Task). u.frames) (change_keyed (λ (u : Task). u.number) number (λ u. t') ys)) (flat_map (λ (u : Task). u.frames) ys) (frame_past n f more number t t' is named ys at id ne)))
    (cases_Bool (y.number == number)) where
      past : (fs xs ys : List Frame) → keyed (λ (g : Frame). g.identity) id (xs ++ more) ≡ keyed (λ (g : Frame). g.identity) id (ys ++ more) → keyed (λ (g : Frame). g.identity) id ((fs ++ xs) ++ more) ≡ keyed (λ (g : Frame). g.identity) id ((fs ++ ys) ++ more)
      past [] xs ys e = e
      past (g ∷ fs) xs ys e = ap (λ r. cond (g.identity == id) (Some g) r) (past fs xs ys e)
