-- A display that is like the one made again is that of the running task, and the other way round.
use Rattle.std.proofs.Common.{◌≡◌, ℕ, ◌+◌, ◌<◌, ◌≤◌, true, List, Some, sym, ◌∙◌, ap, arith}
use Rattle.std.specs.List.{slice_get, slice_index}
use Rattle.std.proofs.lemmas.Option.{get_or_from_slice_get}
use Rattle.b67_word.specs.Tagged.{Tagged}
use Rattle.b67_ctl.specs.declared.registers.Regs.{Regs}
use Rattle.b67_model.specs.Common.{level_of_frame, running, frame_at}
use Rattle.b67_layout.specs.Common.{frame_address}
use Rattle.b67_refer.specs.RunningContext.{RunningContext, IsShown}
use Rattle.b67_refer.proofs.Chains.{level_is, level_small}
use Rattle.b67_image_shape.specs.Deciding.{Decides}
use Rattle.b67_image_shape.specs.FixedTests.{all_below}
use Rattle.b67_image_shape.specs.Displays.{alike_at}
use Rattle.b67_image_shape.proofs.Fixed.{found_number_is, each_below}

pub level_fits : (core : List Tagged) (r : Regs) → RunningContext core r → r.level + 1 ≤ 32
level_fits core r a = (let e = level_is core r a in let s = level_small core r a in omega (arith, e, s))

alike_decided : (display shown : List ℕ) (n : ℕ) → Decides (all_below (alike_at display shown) n) ((i : ℕ) → i < n → slice_get display i ≡ Some (slice_index shown i))
alike_decided display shown n = each_below (alike_at display shown) (λ i. slice_get display i ≡ Some (slice_index shown i)) (λ i. found_number_is (slice_get display i) (slice_index shown i)) n

module _ (core : List Tagged) (r : Regs) (a : RunningContext core r) (display shown : List ℕ) (made : IsShown a shown) where
  abbrev address : ℕ → ℕ
  address n = frame_address a.plan a.member a.task (frame_at (record { constants = a.member.constants; job = a.member.progress.job; task = a.task; at = a.task.place }) n).identity

  index_is : (n : ℕ) → n ≤ level_of_frame (running a.task.frames) → slice_index shown n ≡ address n
  index_is n low = get_or_from_slice_get shown n (address n) 0 (made n low)

  pub alike_shows : all_below (alike_at display shown) (r.level + 1) ≡ true → IsShown a display
  alike_shows e n low = (let l = level_is core r a in (alike_decided display shown (r.level + 1)).0 e n (omega (arith, low, l)) ∙ ap Some (index_is n low))

  pub shows_alike : IsShown a display → all_below (alike_at display shown) (r.level + 1) ≡ true
  shows_alike d = (alike_decided display shown (r.level + 1)).1 (λ n low. (let l = level_is core r a in let up : n ≤ level_of_frame (running a.task.frames) = omega (arith, low, l) in d n up ∙ ap Some (sym (index_is n up))))
