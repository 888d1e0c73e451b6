-- The activation record in which a procedure's cell lies.
use Rattle.std.proofs.Common.{◌≡◌, ℕ, ◌<◌, ◌≤◌, ◌^◌, List, arith}
use Rattle.b67_word.specs.Tagged.{Tagged}
use Rattle.b67_word.specs.declared.couples.Place.{Place}
use Rattle.b67_ctl.specs.declared.registers.Regs.{Regs}
use Rattle.b67_lemmas.specs.Lists.{Has}
use Rattle.b67_model.specs.Common.{Standing, frame, level_of_standing, level_of_frame, Known, reach_of, IsEntered, NamesEntered, StandsInOrder}
use Rattle.b67_layout.specs.Placement.{spots}
use Rattle.b67_layout.specs.Meets.{here}
use Rattle.b67_layout.proofs.Frames.{height-is}
use Rattle.b67_refer.specs.RunningContext.{RunningContext, live_of}
use Rattle.b67_refer.proofs.Seats.{seat}
use Rattle.b67_refer.proofs.Marks.{frame_known}

low_by : (under : List Known) (s : Standing) → IsEntered s → StandsInOrder under s → 2 ≤ level_of_standing s
low_by under s e g = grind arith

high_by : (under : List Known) (s : Standing) → IsEntered s → StandsInOrder under s → level_of_standing s ≤ 31
high_by under s e g = grind arith

module _ (core : List Tagged) (r : Regs) (a : RunningContext core r) (q : Place) where
  -- what an entered record of the running task's reach is
  pub record Site (f : ℕ) : Type 0 where
    pub standing : Standing
    pub among : Has (reach_of a.member.progress.job a.task) (f, standing)
    pub entered : IsEntered standing
    pub low : 2 ≤ level_of_standing standing
    pub high : level_of_standing standing ≤ 31
    pub level : level_of_frame (frame (here a.member a.task q) f) ≡ level_of_standing standing
    pub stack_fits : (spots a.plan a.member.constants.number a.member.progress.job a.task f).stack < 2 ^ 10
    pub disp_fits : (spots a.plan a.member.constants.number a.member.progress.job a.task f).disp < 2 ^ 16

  pub site : (f : ℕ) → NamesEntered (reach_of a.member.progress.job a.task) f → 1 < f → Site f
  site f names own =
      let s = names.standing in
      let b = seat core r (live_of a) f s names.among own in
      let known = frame_known core r (live_of a) q f s names.among in
      grind (arith, height-is)
