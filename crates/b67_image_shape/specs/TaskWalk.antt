-- A task's stack by its words: its top, the walk down it, and where it goes on.
use Rattle.std.specs.Prelude.{◌≡◌, ◌≢◌, ℕ, ◌+◌, ◌-◌, ◌^◌, ◌<◌, ◌≤◌, length, ◌==◌, Bool, true, false, ◌&&◌, nat_lt, nat_le}
use Rattle.b67_word.specs.Tagged.{Tagged, bits_at}
use Rattle.b67_word.specs.declared.couples.Place.{Place}
use Rattle.b67_ctl.specs.Layout.{toscw_word}
use Rattle.b67_ctl.specs.declared.marks.Toscw.{Toscw}
use Rattle.b67_ctl.specs.declared.registers.Regs.{Regs}
use Rattle.b67_model.specs.declared.limits.TheConstants.{MOST_STACK}
use Rattle.b67_layout.specs.Rows.{TaskRow, JobRow}
use Rattle.b67_layout_shown.specs.Reading.{word_seen_at}
use Rattle.b67_layout_shown.specs.Shown.{Sight, top_in, stack_of_row}
use Rattle.b67_image_shape.specs.Fitting.{same}
use Rattle.b67_image_shape.specs.Held.{location_in}
use Rattle.b67_image_shape.specs.Items.{base_at, StackFactsBy}
use Rattle.b67_image_shape.specs.StackWalk.{Stands}

abbrev pub toscw_in : Tagged → Toscw
toscw_in w = record { s = bits_at w 20 16; level = bits_at w 14 5; f = bits_at w 0 14 }

-- the level at the top, of the registers or of the top of stack word
abbrev pub level_by : Sight → TaskRow → Bool → ℕ
level_by k r true = k.regs.level
level_by k r false = (toscw_in (word_seen_at k.core (base_at k r))).level

abbrev pub level_in : Sight → TaskRow → ℕ
level_in k r = level_by k r (r.slot == k.regs.slot)

-- the registers have the slot, or the top of stack word is one
pub record TopStands (k : Sight) (r : TaskRow) : Type 0 where
  pub runs : r.slot ≡ k.regs.slot → (k.regs.bosr ≡ base_at k r) × (k.regs.losr + 1 ≡ base_at k r + k.regs.stack_size)
  pub waits : r.slot ≢ k.regs.slot → word_seen_at k.core (base_at k r) ≡ toscw_word (toscw_in (word_seen_at k.core (base_at k r)))

-- the same as a Boolean
abbrev pub registers_fit : Regs → ℕ → Bool
registers_fit r base = (r.bosr == base) && (r.losr + 1 == base + r.stack_size)

abbrev pub is_toscw : Tagged → Bool
is_toscw w = same w (toscw_word (toscw_in w))

abbrev pub top_fits_by : Sight → TaskRow → Bool → Bool
top_fits_by k r true = registers_fit k.regs (base_at k r)
top_fits_by k r false = is_toscw (word_seen_at k.core (base_at k r))

abbrev pub top_fits : Sight → TaskRow → Bool
top_fits k r = top_fits_by k r (r.slot == k.regs.slot)

-- a place of one of so many segments
abbrev pub is_segment_place : ℕ → ℕ → Place → Bool
is_segment_place segments segment place = nat_lt 0 segment && (nat_le segment segments && (nat_lt place.word (2 ^ 13) && nat_lt place.syllable (2 ^ 3)))

-- a task's stack stands, if each array is held as its original says
pub record TaskStands (k : Sight) (segments : ℕ) (r : TaskRow) : Type 0 where
  pub low : (top_in k r).s < base_at k r + k.regs.stack_size
  pub top : TopStands k r
  pub stands : Stands k.core (base_at k r) r.slot segments (level_in k r) (top_in k r).f (top_in k r).s (stack_of_row k r)
  pub place : is_segment_place segments ((top_in k r).segment - 1) (top_in k r).place ≡ true

-- that is what is asked of it
abbrev pub TasksStand : Type 0
TasksStand =
    (k : Sight) (row : JobRow) (job : ℕ) (r : TaskRow) → k.regs.stack_size < MOST_STACK + 1 → base_at k r + k.regs.stack_size ≤ length k.core
    → (TaskStands k row.segments r → StackFactsBy (location_in k.core) k row job r) × (StackFactsBy (location_in k.core) k row job r → TaskStands k row.segments r)
