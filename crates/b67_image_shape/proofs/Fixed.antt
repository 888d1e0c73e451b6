-- The words that the tables tell pass their test exactly if they stand there.
use Rattle.std.proofs.Common.{◌≡◌, ℕ, ◌+◌, ◌-◌, ◌*◌, ◌^◌, ◌<◌, ◌==◌, Bool, List, [], ◌∷◌, length, Option, Some, None, refl, ap, subst, arith}
use Rattle.std.specs.Prelude.{◌&&◌, nat_lt, nat_le}
use Rattle.std.specs.List.{slice_get}
use Rattle.std.proofs.lemmas.Option.{same_Some}
use Rattle.std.proofs.lemmas.Bool.Decides.{Decides-below_and}
use Rattle.b67_word.specs.Tagged.{Tagged, word}
use Rattle.b67_layout.specs.Rows.{TaskRow, JobRow}
use Rattle.b67_layout.specs.Session.{RepresentsMcp}
use Rattle.b67_image_shape.specs.Deciding.{Decides}
use Rattle.b67_image_shape.specs.TableFacts.{row_in_slot}
use Rattle.b67_image_shape.specs.FixedWords.{DictionaryFacts, DictionariesStandIn, vector_of, FreeSlot, SlotsHaveRoom, greatest}
use Rattle.b67_image_shape.specs.FixedTests.{found_number, found_word, word_is, all_below, is_intrinsic, mcp_test, dictionary_test, dictionaries_test, slot_test, free_test, base_test, room_test, fixed_test, mark_test}
use Rattle.b67_image_shape.specs.Laws.{FixedWordsAreTested, CriticalMarksAreTested}
use Rattle.b67_image_shape.proofs.Deciding.{same_number, less, at_most, both, like, yes, nothing}
use Rattle.b67_image_shape.proofs.Fits.{same_is, is_same}
use Rattle.b67_model.specs.declared.limits.TheConstants.{MOST_PARTS}

pub found_number_is : (o : Option ℕ) (n : ℕ) → Decides (found_number o n) (o ≡ Some n)
found_number_is o n = grind arith

pub found_word_is : (o : Option Tagged) (w : Tagged) → Decides (found_word o w) (o ≡ Some w)
found_word_is o w = grind arith

pub word_there : (core : List Tagged) (at : ℕ) (w : Tagged) → Decides (word_is core at w) (slice_get core at ≡ Some w)
word_there core at w = found_word_is (slice_get core at) w

pub each_below : (test : ℕ → Bool) (P : ℕ → Type 0) → ((n : ℕ) → Decides (test n) (P n)) → (n : ℕ) → Decides (all_below test n) ((i : ℕ) → i < n → P i)
each_below test P d n = Decides-below_and test P (all_below test) d refl (λ m. refl) n

-- ---- the MCP

mcp : (core : List Tagged) → Decides (mcp_test core) (RepresentsMcp core)
mcp core =
    like (mcp_test core) to (λ m. (m.mark, λ i low. m.intrinsics (8 + i) (omega arith) (omega (arith, low))))
    (both (word_is core 0 (word 3 (2 ^ 46))) (all_below (is_intrinsic core) 11) (word_there core 0 (word 3 (2 ^ 46)))
    (each_below (is_intrinsic core) (λ i. slice_get core (8 + i) ≡ Some (word 7 (2 ^ 19 + (8 + i)))) (λ i. word_there core (8 + i) (word 7 (2 ^ 19 + (8 + i)))) 11)) where
      to : (slice_get core 0 ≡ Some (word 3 (2 ^ 46))) × ((i : ℕ) → i < 11 → slice_get core (8 + i) ≡ Some (word 7 (2 ^ 19 + (8 + i)))) → RepresentsMcp core
      to (a, b) = record {
        mark = a;
        intrinsics = λ n low high.
            let is : 8 + (n - 8) ≡ n = omega (arith, low) in
            subst (λ m. slice_get core m ≡ Some (word 7 (2 ^ 19 + m))) is (b (n - 8) (omega (arith, low, high)));
      }

-- ---- dictionaries

dictionary : (core : List Tagged) (at : ℕ) (row : JobRow) → Decides (dictionary_test core at row) (DictionaryFacts core at row)
dictionary core at row =
    let m = word 3 (2 ^ 47 + 2 ^ 46 + 136 * 2 ^ 36 + 1 * 2 ^ 14) in
    let n = word 0 (row.segments + row.rows) in
    like (dictionary_test core at row) (λ (a, (b, (c, d))). record { place = a; few = b; mark = c; entries = d }) (λ h. (h.place, (h.few, (h.mark, h.entries))))
    (both (row.dictionary == at) (nat_le (row.segments + row.rows) MOST_PARTS && (word_is core at m && word_is core (at + 1) n)) (same_number row.dictionary at)
    (both (nat_le (row.segments + row.rows) MOST_PARTS) (word_is core at m && word_is core (at + 1) n) (at_most (row.segments + row.rows) MOST_PARTS)
    (both (word_is core at m) (word_is core (at + 1) n) (word_there core at m) (word_there core (at + 1) n))))

dictionaries : (core : List Tagged) (stacks at : ℕ) (rows : List JobRow) → Decides (dictionaries_test core stacks at rows) (DictionariesStandIn core stacks at rows)
dictionaries core stacks at [] = same_number at stacks
dictionaries core stacks at (row ∷ more) = both (dictionary_test core at row) (dictionaries_test core stacks (at + (2 + (row.segments + row.rows))) more) (dictionary core at row) (dictionaries core stacks (at + (2 + (row.segments + row.rows))) more)

-- ---- slots

free : (core : List Tagged) (base : ℕ) (o : Option TaskRow) → Decides (free_test core base o) (FreeSlot core base o)
free core base o = grind arith

room : (size : ℕ) (rows : List JobRow) → Decides (room_test size rows) (SlotsHaveRoom size rows)
room size rows = grind arith

pub fixed_decided : FixedWordsAreTested
fixed_decided k low size =
    let base = λ (n : ℕ). k.regs.stacks + n * k.regs.stack_size in
    let t9 = all_below (base_test k) k.regs.peak in
    let t8 = all_below (slot_test k.core k.tasks) 120 && t9 in
    let t7 = dictionaries_test k.core k.regs.stacks 160 k.jobs && t8 in
    let t6 = mcp_test k.core && t7 in
    let t5 = (size == length k.core) && t6 in
    let t4 = nat_le low (length k.core) && t5 in
    let t3 = (low == k.regs.stacks + k.regs.peak * k.regs.stack_size) && t4 in
    let t2 = nat_lt k.regs.stack_size (2 ^ 14) && t3 in
    like (fixed_test k low size)
    (λ (a, (b, (c, (d, (e, (f, (g, (h, i)))))))). record { stack_low = a; stack_high = b; begins = c; inside = d; all = e; mcp = f; dictionaries = g; slots = h; free = i })
    (λ h. (h.stack_low, (h.stack_high, (h.begins, (h.inside, (h.all, (h.mcp, (h.dictionaries, (h.slots, h.free)))))))))
    (both (room_test k.regs.stack_size k.jobs) t2 (room k.regs.stack_size k.jobs)
    (both (nat_lt k.regs.stack_size (2 ^ 14)) t3 (less k.regs.stack_size (2 ^ 14))
    (both (low == k.regs.stacks + k.regs.peak * k.regs.stack_size) t4 (same_number low (k.regs.stacks + k.regs.peak * k.regs.stack_size))
    (both (nat_le low (length k.core)) t5 (at_most low (length k.core))
    (both (size == length k.core) t6 (same_number size (length k.core))
    (both (mcp_test k.core) t7 (mcp k.core)
    (both (dictionaries_test k.core k.regs.stacks 160 k.jobs) t8 (dictionaries k.core k.regs.stacks 160 k.jobs)
    (both (all_below (slot_test k.core k.tasks) 120) t9
    (each_below (slot_test k.core k.tasks) (λ n. slice_get k.core (32 + n) ≡ Some (vector_of k.tasks (row_in_slot k.tasks n))) (λ n. word_there k.core (32 + n) (vector_of k.tasks (row_in_slot k.tasks n))) 120)
    (each_below (base_test k) (λ n. FreeSlot k.core (base n) (row_in_slot k.tasks n)) (λ n. free k.core (base n) (row_in_slot k.tasks n)) k.regs.peak)))))))))

pub critical_decided : CriticalMarksAreTested
critical_decided critical tasks = each_below (mark_test critical tasks) (λ n. slice_get critical n ≡ Some (greatest tasks n)) (λ n. found_number_is (slice_get critical n) (greatest tasks n)) 120
