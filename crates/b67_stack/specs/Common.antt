-- The definitions of stacks and views that others cite, passed on from one place. Declares nothing.
pub use Rattle.b67_stack.specs.Changes.{MayPush, Runs, activations_below, marked, new_mark, pushed, top_cells, stack_with_cells, with_stack}
pub use Rattle.b67_stack.specs.HeldOtherwise.{ChainStays, LowWordsStayed, TakesPlace, renumber, renumbered, with_held}
pub use Rattle.b67_stack.specs.MachineView.{AreZero, CopiesName, Free, IsArrayAt, IsLaidOut, MachineView, NoOriginalAboveTop, PagedObject, Running, RunsOn, Slot, SlotFits, Waiting, address_or, home_desc, home_word, home_word_of, is_present, slot_base, stack_of, tag_of, with_slot, object_words}
pub use Rattle.b67_stack.specs.Represents.{AbsentContent, Content, HoldsIn, KeptChain, ObjectHasChain, Owned, Represents, RepresentsObject, RepresentsObjects, RepresentsRegs, RepresentsRunning, RepresentsSlot, RepresentsSlots, StacksLie, Storage, Told, info_of}
pub use Rattle.b67_stack.specs.Shapes.{Copied, Copy, Fits, Is, IsCopy, IsNumber, IsOriginal, LieDownward, LieUpward, Location, Locations, Original, Shape, at_rest, copy_desc, is_indexed, nowhere}
pub use Rattle.b67_stack.specs.Stacks.{Activation, Entered, Head, HeadFits, HeadsFit, IsStack, Marked, ReturnFits, StackPlace, head_size, headed, level_from, mark_of, mark_place, return_of, stack_level, size, stack_words, top_mark, top_size, toscw_of, wants_value, words}
