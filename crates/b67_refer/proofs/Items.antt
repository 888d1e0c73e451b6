-- The original of an array that the running task may name, and the length that it says.
use Rattle.std.proofs.Common.{◌≡◌, ℕ, ◌<◌, ◌≤◌, List, map, length, Some, Ok, Err, refl, sym, ◌∙◌, ap, arith, Bool, false, not}
use Rattle.std.specs.Prelude.{nat_lt}
use Rattle.std.specs.List.{slice_get}
use Rattle.std.proofs.lemmas.Bool.{le-ltb}
use Rattle.b67_word.specs.Tagged.{Tagged}
use Rattle.b67_word.specs.declared.couples.Place.{Place}
use Rattle.b67_word.specs.declared.faults.Fault.TheVariants.{InvalidIndex}
use Rattle.b67_ctl.specs.declared.registers.Regs.{Regs}
use Rattle.b67_ctl.specs.declared.descriptors.DataDesc.{DataDesc}
use Rattle.b67_ctl.specs.Descriptors.{data_word, IsDataDesc}
use Rattle.b67_lemmas.specs.Lists.{Has}
use Rattle.b67_model.specs.Common.{Array, array, element_end, NamesArray, ArrayInOrder}
use Rattle.b67_lemmas.proofs.Members.{has_append_right, has_map, all_in, keyed_falls}
use Rattle.b67_stack.specs.Common.{Location, PagedObject, home_desc, home_word, RepresentsObject}
use Rattle.b67_stack.proofs.Homes.{chain_small}
use Rattle.b67_layout.specs.Common.{Placement, array_object, code_objects, here}
use Rattle.b67_refer.specs.declared.ends.End.TheVariants as end
use Rattle.b67_refer.specs.RunningContext.{LiveContext}
use Rattle.b67_refer.specs.LiveCells.{reach}
use Rattle.b67_refer.specs.LiveEnds.{EndMeets}
use Rattle.b67_refer.proofs.Bases.{viewed}
use Rattle.b67_refer.proofs.Fixed.{area_small, desc_fits, has_object}

home_by : (plan : Placement) (j : ℕ) (a : Array) (b : Bool) (h : Location) → a.writable ≡ b → home_word (array_object plan j a) h ≡ data_word (home_desc (not a.writable) (length a.numbers) h)
home_by plan j a b h e = grind arith

module _ (core : List Tagged) (r : Regs) (a : LiveContext core r) (n : ℕ) (names : NamesArray a.member.progress.job.arrays (reach a) n) where
  pub array_is : array a.member.progress.job n ≡ names.item
  array_is = grind (arith, keyed_falls)

  pub not_empty : 0 < length names.item.numbers
  not_empty = (all_in ArrayInOrder a.member.progress.job.arrays names.item a.ordered.tasks.arrays names.live).length_low

  abbrev object : PagedObject
  object = array_object a.plan a.member.constants.number names.item

  there : Has (viewed core r a).objects object
  there = has_object core r a object (has_append_right (code_objects a.plan a.member.constants.number 1 a.member.constants.segments) (map (array_object a.plan a.member.constants.number) a.member.progress.job.arrays) object (has_map (array_object a.plan a.member.constants.number) a.member.progress.job.arrays names.item names.live))

  abbrev pub desc : DataDesc
  desc = home_desc (not names.item.writable) (length names.item.numbers) (a.storage.held object.home)

  stands : RepresentsObject a.storage core object
  stands = a.holds.memory.objects object there

  pub word_is : slice_get core (a.plan.home a.member.constants.number n) ≡ Some (data_word desc)
  word_is = ap (λ (i : ℕ). slice_get core (a.plan.home a.member.constants.number i)) (sym names.named) ∙ stands.home
      ∙ ap Some (home_by a.plan a.member.constants.number names.item names.item.writable (a.storage.held object.home) refl)

  pub desc_is : IsDataDesc desc
  desc_is = desc_fits a.storage core r (viewed core r a) a.holds.memory object there (not names.item.writable) (length names.item.numbers) (a.storage.held object.home).area (a.storage.held object.home).chain
      (omega (arith, (a.holds.memory.slots.laid.lengths object there).1))
      (chain_small a.storage core object (a.storage.held object.home).area (a.storage.held object.home).chain stands.content)
      (area_small a.storage core r (viewed core r a) a.holds.memory object there)

  pub length_is : (d : DataDesc) → d ≡ desc → d.length ≡ length (array a.member.progress.job n).numbers
  length_is d e = ap (λ (z : DataDesc). z.length) e ∙ ap (λ (z : Array). length z.numbers) (sym array_is)

  module _ (q : Place) (d : DataDesc) (is : d ≡ desc) (original index : ℕ) (home : original ≡ a.plan.home a.member.constants.number n) where
    pub past : d.length ≤ index → EndMeets a q (Err InvalidIndex) (element_end (here a.member a.runner q) n index)
    past high = let t : nat_lt index (length (array a.member.progress.job n).numbers) ≡ false = le-ltb index (length (array a.member.progress.job n).numbers) (omega (arith, high, length_is d is)) in rw t refl

    pub within : index < d.length → EndMeets a q (Ok (end.Element original index)) (element_end (here a.member a.runner q) n index)
    within low = grind (arith, length_is)
