-- The words of the stack vector.
use Rattle.std.specs.Prelude.{◌+◌, ◌*◌, ◌^◌, ◌<◌}
use Rattle.b67_word.specs.Tagged.{Tagged, word}
use Rattle.b67_ctl.specs.declared.vector.VectorWord.{VectorWord}

-- the word of a slot in which a task lives
abbrev pub task_word : VectorWord → Tagged
task_word v = word 3 (2 ^ 46 + v.parent * 2 ^ 36 + v.job * 2 ^ 16)

pub record IsVectorWord (v : VectorWord) : Type 0 where
  pub parent : v.parent < 2 ^ 10
  pub job : v.job < 2 ^ 4
