-- A frame without an original owns no array.
use Rattle.std.proofs.Common.{◌≡◌, ◌≢◌, ℕ, List, [], ◌∷◌, refl, sym, ap, ◌∙◌, subst, inl, inr, arith, false, true}
use Rattle.std.specs.List.{AllByRecursion}
use Rattle.std.proofs.lemmas.Bool.{cases_eq}
use Rattle.std.proofs.lemmas.Bool.Decides.{eqb_tells}
use Rattle.b67_lemmas.specs.Lists.{Has}
use Rattle.b67_lemmas.proofs.Members.{all_in, falls_same}
use Rattle.b67_model.specs.Common.{Word, Original, Frame, Array, Task, JobConstants, Job, is_original, EntryInOrder, frames_named}
use Rattle.b67_layout.proofs.Common.{others, IsOnTop, high, live, elsewhere, original_of}
use Rattle.b67_layout.proofs.NamedFirst.{under}

named_has : (n : ℕ) (fs : List Frame) (g : Frame) → Has fs g → g.identity ≡ n → frames_named n fs ≢ 0
named_has n [] g h e z = h
named_has n (f ∷ below) g (inl is) e z = grind arith
named_has n (f ∷ below) g (inr h) e z = grind (arith, named_has n below g h e)

no_original : (ws : List Word) (a : ℕ) → AllByRecursion (λ (w : Word). is_original w ≡ false) ws → Has ws (Original a) → ⊥
no_original [] a h k = k
no_original (w ∷ ws) a h (inl e) = let z : true ≡ false = ap is_original (sym e) ∙ h.0 in cc
no_original (w ∷ ws) a h (inr k) = no_original ws a h.1 k

module _ (constants : JobConstants) (job : Job) (t : Task) (f : Frame) (below : List Frame) (top : IsOnTop constants job t f below) (plain : AllByRecursion (λ (w : Word). is_original w ≡ false) f.cells) where
  not_owner : (a : Array) → Has job.arrays a → a.owner ≢ f.identity
  not_owner a int e = elim (original_of constants job top.order a int) [
    | inl k ↦
        let own = all_in (EntryInOrder job.arrays) constants.dictionary.cells (Original a.identity) top.order.entries k in
        let same : own.item ≡ a = falls_same (λ (b : Array). b.identity) job.next_array job.arrays own.item a top.order.names own.live int own.named in
        let one : a.owner ≡ 1 = ap (λ (b : Array). b.owner) (sym same) ∙ own.owned in
        let z : ⊥ = omega (arith, one, e, high constants job t f below top) in z
    | inr g ↦ elim (cases_eq g.task.number t.number) [
      | inl n ↦
          let own : g.task ≡ t = same_task g.task g.live n in
          let there : Has (f ∷ below) g.frame = subst (λ (fs : List Frame). Has fs g.frame) top.frames (subst (λ (u : Task). Has u.frames g.frame) own g.among) in
          elim there [
            | inl is ↦ no_original f.cells a.identity plain (subst (λ (k : Frame). Has k.cells (Original a.identity)) (sym is) g.word)
            | inr k ↦ named_has f.identity below g.frame k (sym g.owned ∙ e) (under constants job t f below top)
          ]
      | inr n ↦ named_has f.identity g.task.frames g.frame g.among (sym g.owned ∙ e) (elsewhere constants job t f below top g.task g.live n)
    ]
  ]
    where
      same_task : (u : Task) → Has job.tasks u → u.number ≡ t.number → u ≡ t
      same_task u h n = falls_same (λ (v : Task). v.number) job.next_task job.tasks u t top.order.numbers h (live constants job t f below top) n

  all_others : (xs : List Array) → ((a : Array) → Has xs a → a.owner ≢ f.identity) → xs ≡ others f.identity xs
  all_others [] h = refl
  all_others (a ∷ more) h = elim (eqb_tells a.owner f.identity) [
    | inl t ↦ absurd (h a (inl refl) t.1)
    | inr t ↦ rw t.0 (ap (λ (xs : List Array). a ∷ xs) (all_others more (λ b k. h b (inr k))))
  ]

  pub arrays_stay : job.arrays ≡ others f.identity job.arrays
  arrays_stay = all_others job.arrays not_owner
