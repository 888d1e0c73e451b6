-- How many segments a job has.
use Rattle.std.proofs.Common.{◌≤◌, length, reverse, arith}
use Rattle.std.proofs.lemmas.List.{length-reverse}
use Rattle.b67_model.specs.State.{JobConstants}
use Rattle.b67_model.specs.InOrder.{SettingInOrder}
use Rattle.b67_layout.proofs.Sessions.{words_enough}

pub few_segments : (constants : JobConstants) → SettingInOrder constants → length constants.segments ≤ 255
few_segments constants g = omega (arith, words_enough 1 constants.segments (reverse constants.dictionary.cells) g.dictionary, length-reverse constants.dictionary.cells, g.entries)
