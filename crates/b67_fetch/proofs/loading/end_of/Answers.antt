use Rattle.b67_refer.specs.RunningContext.{live_of}
use Rattle.b67_fetch.proofs.Values.{here_scene, here_shown, followed_stands, finds_end}
use Rattle.b67_model.specs.Chase.{follow}
use Rattle.b67_layout.specs.Meets.{here}
use Rattle.b67_fetch.proofs.loading.end_of.Goals as goal

pub chase-requires : goal.chase-requires
chase-requires c =
    let q = c.requires.runs in
    let i = c.requires.followed in (
      live_of (here_scene q.storage c.args.cpu.now q.plan q.session q.member q.task q.ordered q.stands q.running),
      here_shown q.storage c.args.cpu.now q.plan q.session q.member q.task q.ordered q.stands q.running,
      i.at,
      i.owner,
      c.requires.word,
      followed_stands q.storage c.args.cpu.now q.plan q.session q.member q.task q.ordered q.stands q.running c.args.w c.requires.word i,
    )

pub returns : goal.returns
returns c = λ x plan s m t ordered h runs q v i.
    let a = here_scene x c.args.cpu.now plan s m t ordered h runs in
    finds_end x c.args.cpu.now plan s m t ordered h runs q c.chase.result (follow (here m t q) v)
    (c.chase.ensures.running a q (here_shown x c.args.cpu.now plan s m t ordered h runs) i.at i.owner v (followed_stands x c.args.cpu.now plan s m t ordered h runs c.args.w v i))
