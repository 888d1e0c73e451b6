use Rattle.std.proofs.Common.{refl}
use Rattle.b67_promises.proofs.shipped.program.Goals as goal

pub returns-clause-described : goal.returns-clause-described
returns-clause-described c = λ core words w is. c.program_described.ensures.described core 65536 words w is (λ file. refl)

pub returns-clause-call : goal.returns-clause-call
returns-clause-call c = c.program_described.ensures.call

pub returns-clause-alone : goal.returns-clause-alone
returns-clause-alone c = c.program_described.ensures.alone

pub returns-clause-over_file : goal.returns-clause-over_file
returns-clause-over_file c = c.program_described.ensures.over_file

pub returns-clause-causes : goal.returns-clause-causes
returns-clause-causes c = c.program_described.ensures.causes

pub returns-clause-complete : goal.returns-clause-complete
returns-clause-complete c = λ core words w is. c.program_described.ensures.complete core 65536 words w is (λ file. refl)
