-- Arrays, their elements, and how they change.
use Rattle.std.specs.Prelude.{ℕ, ◌-◌, ◌++◌, false, [], length, take, replicate, unwrap_or, slice_index, slice_set}
use Rattle.b67_model.specs.Keyed.{keyed, change_keyed}
use Rattle.b67_model.specs.State.{Array, Job}

-- what represents an array that no identity names
abbrev pub no_array : Array
no_array = record { identity = 0; owner = 0; writable = false; numbers = [] }

abbrev pub array : Job → ℕ → Array
array job identity = unwrap_or (keyed (λ a. a.identity) identity job.arrays) no_array

abbrev pub owner_of : Job → ℕ → ℕ
owner_of job identity = (array job identity).owner

abbrev pub element : Job → ℕ → ℕ → ℕ
element job identity index = slice_index (array job identity).numbers index

abbrev pub with_number : ℕ → ℕ → Array → Array
with_number index bits a = record a { numbers = slice_set a.numbers index bits }

abbrev pub with_element : Job → ℕ → ℕ → ℕ → Job
with_element job identity index bits =
    record job { arrays = change_keyed (λ a. a.identity) identity (with_number index bits) job.arrays }

abbrev pub with_array : Job → ℕ → (Array → Array) → Job
with_array job identity change = record job { arrays = change_keyed (λ a. a.identity) identity change job.arrays }

abbrev pub all_zero : Array → Array
all_zero a = record a { numbers = replicate (length a.numbers) 0 }

-- the array with another length: its first numbers, and zeros where it becomes longer
abbrev pub resized : ℕ → Array → Array
resized n a = record a { numbers = take n a.numbers ++ replicate (n - length a.numbers) 0 }
