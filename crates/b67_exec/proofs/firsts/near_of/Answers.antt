use Rattle.b67_exec.proofs.NearTable.{near_says, far_says, other_says}
use Rattle.b67_exec.proofs.firsts.near_of.Goals as goal

pub returns-clause-form : goal.returns-clause-form
returns-clause-form c = λ f e. near_says c.args.first c.near_in.result f c.near_in.ensures e

pub returns-clause-far : goal.returns-clause-far
returns-clause-far c = λ code is. far_says c.args.first c.near_in.result code c.near_in.ensures is

pub returns-clause-whole : goal.returns-clause-whole
returns-clause-whole c = λ is. other_says c.args.first c.near_in.result c.near_in.ensures is
