-- Whether a sector holds these numbers, by the test of two lists.
use Rattle.std.proofs.Common.{◌≡◌, ◌≤◌, ◌<◌, ◌+◌, ◌-◌, ◌++◌, ℕ, List, sym, ap, arith, ◌∙◌, Some, Bool, nat_eq, length, replicate, zero, IsTrue, slice_index_or}
use Rattle.std.specs.Prelude.{◌↔◌}
use Rattle.std.proofs.lemmas.List.{length-append, length-replicate, get_or_append_left, get_or-append-add, get_or-replicate}
use Rattle.std.proofs.lemmas.Option.{same_Some, slice_get-get_or}
use Rattle.b67_backing.specs.Held.{blank}
use lib.Pointwise.{pointwise, bytes_decides}
use Rattle.b67_backing.specs.Device.{sector}
use Rattle.b67_recorded.specs.Mirror.{mirrored}

module _ (xs ys : List ℕ) (all : List (List ℕ)) (n : ℕ) (r : Bool) (is : sector all n ≡ Some xs) where
  pub tested : r ≡ pointwise nat_eq xs ys → IsTrue r ↔ (sector all n ≡ Some ys)
  tested e = (λ t. is ∙ ap Some ((bytes_decides xs ys).0 (sym e ∙ t)), λ s. e ∙ (bytes_decides xs ys).1 (same_Some xs ys (sym is ∙ s)))

  pub tested_back : r ≡ pointwise nat_eq ys xs → IsTrue r ↔ (sector all n ≡ Some ys)
  tested_back e = (λ t. is ∙ ap Some (sym ((bytes_decides ys xs).0 (sym e ∙ t))), λ s. e ∙ (bytes_decides ys xs).1 (sym (same_Some xs ys (sym is ∙ s))))

-- a sector that was written, or copied; and one behind all of these
module _ (size : ℕ) (held : List (List ℕ)) (n : ℕ) where
  abbrev behind_them : List (List ℕ)
  behind_them = blank (size - length held)

  pub within : (x : List ℕ) → 1 ≤ n → n ≤ length held → x ≡ slice_index_or held (n - 1) x → sector (mirrored size held) n ≡ Some x
  within x low few e =
      let lt : n - 1 < length held = omega (arith, low, few) in
      slice_get-get_or (held ++ behind_them) (n - 1) x (omega (arith, lt, length-append held behind_them)) ∙ ap Some (get_or_append_left held behind_them x (n - 1) lt ∙ sym e)

  pub behind : length held < n → n ≤ size → sector (mirrored size held) n ≡ Some (replicate 30 zero)
  behind more high =
      let zeros : List ℕ = replicate 30 zero in
      let k : ℕ = n - 1 - length held in
      let at : n - 1 ≡ length held + k = omega (arith, more) in
      let lt : k < size - length held = omega (arith, more, high) in
      let long = length-replicate (size - length held) zeros in
      slice_get-get_or (held ++ behind_them) (n - 1) zeros (omega (arith, more, high, long, length-append held behind_them))
      ∙ ap Some (ap (λ (i : ℕ). slice_index_or (held ++ behind_them) i zeros) at ∙ get_or-append-add held behind_them k zeros ∙ get_or-replicate (size - length held) k zeros zeros lt)
