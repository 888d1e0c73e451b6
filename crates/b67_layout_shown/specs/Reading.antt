-- The activation records that stand in core below a top, read back from its words.
use Rattle.std.specs.Prelude.{ℕ, zero, suc, Bool, true, false, ◌+◌, ◌-◌, ◌==◌, List, [], ◌∷◌, Option, Some, None, unwrap_or, slice_get}
use Rattle.b67_word.specs.Tagged.{Tagged, word, bits_at}
use Rattle.b67_ctl.specs.declared.descriptors.DataDesc.{DataDesc}
use Rattle.b67_ctl.specs.declared.marks.Mscw.{Mscw}
use Rattle.b67_ctl.specs.declared.marks.Rcw.{Rcw}
use Rattle.b67_model.specs.State.{Return}
use Rattle.b67_stack.specs.Common.{Shape, Is, Original, Copy, Marked, Entered, Activation}

-- the word at an address
abbrev pub word_seen_at : List Tagged → ℕ → Tagged
word_seen_at core i = unwrap_or (slice_get core i) (word 0 0)

-- a bit of a word
abbrev pub is_set : Tagged → ℕ → Bool
is_set w n = bits_at w n 1 == 1

-- the fields that a mark, a return word or a data descriptor has, whatever the word is
abbrev pub mscw_in : Tagged → Mscw
mscw_in w = record { far = is_set w 47; entered = is_set w 46; env_stack = bits_at w 36 10; env_disp = bits_at w 20 16; value = is_set w 19; level = bits_at w 14 5; back = bits_at w 0 14 }

abbrev pub rcw_in : Tagged → Rcw
rcw_in w = record { place = record { word = bits_at w 20 13; syllable = bits_at w 33 3 }; level = bits_at w 14 5; segment = bits_at w 0 14 }

abbrev pub desc_in : Tagged → DataDesc
desc_in w = record { present = is_set w 47; copy = is_set w 46; indexed = is_set w 45; read_only = is_set w 43; length = bits_at w 20 20; address = bits_at w 0 20 }

-- the original that a copy names: an absent one has its address, a present one that of an area, whose head has it
abbrev pub home_by : List Tagged → ℕ → Bool → ℕ
home_by core address true = bits_at (word_seen_at core (address - 1)) 0 20
home_by core address false = address

abbrev pub index_by : ℕ → Bool → Option ℕ
index_by length true = Some length
index_by length false = None

-- the shape of the word at an address
abbrev pub descriptor_by : List Tagged → ℕ → DataDesc → Bool → Shape
descriptor_by core at d true = Copy (record { index = index_by d.length d.indexed; read_only = d.read_only }) (home_by core d.address d.present)
descriptor_by core at d false = Original at

abbrev pub shape_by : List Tagged → ℕ → Tagged → Bool → Shape
shape_by core at w true = descriptor_by core at (desc_in w) (desc_in w).copy
shape_by core at w false = Is w

abbrev pub shape_in : List Tagged → ℕ → Tagged → Shape
shape_in core at w = shape_by core at w (w.tag == 5)

-- n cells from an address up, given from the top down
abbrev pub cells_in : List Tagged → ℕ → ℕ → List Shape
cells_in core from zero = []
cells_in core from (suc n) = shape_in core (from + n) (word_seen_at core (from + n)) ∷ cells_in core from n

-- what is returned to. The bottom mark, which stands on no other, has no return
abbrev pub return_by : Bool → Rcw → ℕ → Option Return
return_by value r zero = None
return_by value r (suc back) = Some (record { value = value; segment = r.segment - 1; place = r.place })

-- the activation record of the mark at f, which reaches up to s
abbrev pub activation_by : List Tagged → ℕ → ℕ → Mscw → Bool → Activation
activation_by core f s m true =
    record { head = Entered m.level (record { stack = m.env_stack; disp = m.env_disp }) (return_by m.value (rcw_in (word_seen_at core (f + 1))) m.back); cells = cells_in core (f + 2) (s - (f + 1)) }
activation_by core f s m false = record { head = Marked; cells = cells_in core (f + 1) (s - f) }

-- the activation records below a mark, which says how far below it the next one stands, 0 for none
abbrev pub below_by : ℕ → (ℕ → List Activation) → List Activation
below_by zero below = []
below_by (suc d) below = below (suc d)

-- at most n activation records from the mark at f down, of which the first one reaches up to s
unfoldable pub stack_seen : List Tagged → ℕ → ℕ → ℕ → List Activation
stack_seen core zero f s = []
stack_seen core (suc n) f s =
    let m = mscw_in (word_seen_at core f) in activation_by core f s m m.entered ∷ below_by m.back (λ d. stack_seen core n (f - d) (f - 1))
