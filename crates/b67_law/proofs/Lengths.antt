-- Deallocating and resizing keep order: an array changes its numbers, and no word of a frame says how long it is.
use Rattle.std.proofs.Common.{◌≡◌, ℕ, ℤ, zero, suc, ◌-◌, ◌^◌, ◌<◌, not, List, [], ◌∷◌, ◌++◌, map, take, replicate, length, Option, Some, None, refl, sym, ap, subst, inl, arith}
use Rattle.std.specs.List.{AllByRecursion}
use Rattle.b67_model.specs.Keyed.{change_keyed}
use Rattle.b67_lemmas.specs.Lists.{Has}
use Rattle.b67_model.specs.Common.{Word, Array, Task, OperatorContext, below_top, with_task, array, with_array, all_zero, resized, top_of, is_critical, answered, answers, array_length, row_copy, deallocate, resizes, Starts, known_of, ConditionInOrder, ArrayInOrder, originals_of}
use Rattle.b67_law.proofs.Reaches.{Stays}
use Rattle.b67_law.proofs.Changes.{Change, outside, change_arrays, run_replaced}
use Rattle.b67_law.proofs.Posts.{post_err, post_bind, post_any, post_needs}
use Rattle.b67_law.proofs.RowSteps.{Keeps, Good, result_good}
use Rattle.b67_law.proofs.Entries.{running_marked}
use Rattle.b67_law.proofs.Stores.{change_has, arrays_changed, names_changed, by_names}
use Rattle.b67_law.proofs.Cuts.{Cut, below_of, cut_change, low_below}
use Rattle.b67_law.proofs.Calls.{length_replicate, zeros_low, length_fits}

resized_length : (n : ℕ) (xs : List ℕ) → length (take n xs ++ replicate (n - length xs) 0) ≡ n
resized_length zero [] = refl
resized_length zero (x ∷ xs) = let none : 0 - suc (length xs) ≡ 0 = omega arith in rw none refl
resized_length (suc n) [] = let all : suc n - 0 ≡ suc n = omega arith in rw all (length_replicate (suc n))
resized_length (suc n) (x ∷ xs) = let rest : suc n - suc (length xs) ≡ n - length xs = omega arith in rw rest (ap suc (resized_length n xs))

resized_low : (n : ℕ) (xs : List ℕ) → AllByRecursion (λ (m : ℕ). m < 2 ^ 48) xs → AllByRecursion (λ (m : ℕ). m < 2 ^ 48) (take n xs ++ replicate (n - length xs) 0)
resized_low zero [] all = tt
resized_low zero (x ∷ xs) all = let none : 0 - suc (length xs) ≡ 0 = omega arith in rw none tt
resized_low (suc n) [] all = let whole : suc n - 0 ≡ suc n = omega arith in rw whole (zeros_low (suc n))
resized_low (suc n) (x ∷ xs) all = let rest : suc n - suc (length xs) ≡ n - length xs = omega arith in rw rest (all.0, resized_low n xs all.1)

zero_kept : (a : Array) → ArrayInOrder a → ArrayInOrder (all_zero a)
zero_kept a g = grind (arith, length_replicate, zeros_low)

resized_kept : (n : ℕ) → 0 < n → n < 65536 → (a : Array) → ArrayInOrder a → ArrayInOrder (resized n a)
resized_kept n low high a g = grind (arith, resized_length, resized_low)

module _ (P : Starts) (h : OperatorContext) (cut : Cut P h) where
  -- the mark is cut, and an array has other numbers
  array_answers : (a : ℕ) (f : Array → Array) (touched : Option ℕ) → ((x : Array) → (f x).identity ≡ x.identity) → ((x : Array) → (f x).owner ≡ x.owner) → ((x : Array) → ArrayInOrder x → ArrayInOrder (f x)) →
      Good P h (answers h (with_array h.job a f) [] [] touched)
  array_answers a f touched named owned fits = post_needs (Keeps P h) (not (is_critical h.job (top_of h).identity)) _ _
      (λ free. result_good P h h (with_array h.job a f) (answered h []) [] touched (λ high.
      let below = below_top h.task.frames in
      let arrays' : List Array = change_keyed (λ (x : Array). x.identity) a f h.job.arrays in
      let stay : (x : Array) → Has h.job.arrays x → Stays arrays' x = λ x k. change_has a f h.job.arrays x k (λ y. record { item = f y; live = inl refl; named = named y; owned = owned y }) in
      let c = cut_change P h cut free in
      let c' : Change P h arrays' below h.job.next_frame = change_arrays P h h.job.arrays arrays' below h.job.next_frame c (λ x k at. stay x k) in
      let new : Task = answered h [] in
      let same = names_changed a f h.job.arrays named in
      (run_replaced P h (with_task (with_array h.job a f) new) new cut.run (record {
        number = refl;
        line = refl;
        critical = refl;
        tasks = refl;
        next_task = refl;
        next_frame = omega arith;
        frames = c'.order;
        returns = c'.returns;
        some = c'.some;
        falls = c'.falls;
        not_higher = low_below P h cut;
        place = rw (sym (running_marked h.task.frames cut.marked)) cut.run.place;
        condition = subst (ConditionInOrder (map known_of below ++ outside h)) (sym cut.run.ready) tt;
        alike = c'.alike;
        stays = c'.stays;
        fewer = c'.fewer;
        kept = λ x k. record { case = inl (stay x k) };
        arrays = arrays_changed a f h.job.arrays fits cut.run.order.arrays;
        once = λ x k. omega (arith, below_of P h cut c x.identity, by_names (λ n. originals_of n h.constants h.job ≡ 1) arrays' h.job.arrays same cut.run.order.once x k);
        names = rw same cut.run.order.names;
        reads = cut.run.order.reads;
      })).0))

  pub deallocate_good : (arguments : List Word) → Good P h (deallocate h arguments)
  deallocate_good [] = post_err (Keeps P h) _
  deallocate_good (w ∷ []) = post_any (Keeps P h) (row_copy w) _ (λ a. post_needs (Keeps P h) (array h.job a).writable _ _ (λ t. array_answers a all_zero None (λ x. refl) (λ x. refl) zero_kept))
  deallocate_good (w ∷ v ∷ more) = post_err (Keeps P h) _

  -- the array and the number of a RESIZE
  pub resizes_good : (a : ℕ) (n : ℤ) → Good P h (resizes h a n)
  resizes_good a n = post_bind (λ len. (0 < len) × (len < 65536)) (Keeps P h) (array_length n) _ (length_fits P h cut n)
      (λ len g. post_needs (Keeps P h) (array h.job a).writable _ _ (λ t. array_answers a (resized len) (Some a) (λ x. refl) (λ x. refl) (resized_kept len g.0 g.1)))
