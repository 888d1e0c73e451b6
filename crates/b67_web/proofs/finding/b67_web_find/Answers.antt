use Rattle.std.proofs.Common.{List, subst}
use Rattle.b67_program.specs.Passed.{CodePlace}
use Rattle.b67_program.specs.Found.{IsFoundInMemory}
use Rattle.b67_web.specs.Asked.{is_answered}
use Rattle.b67_web.proofs.finding.b67_web_find.Goals as goal

pub returns-in-Ok-Some : goal.returns-in-Ok-Some
returns-in-Ok-Some c =
    is_answered c.in-Ok-Some.asked.what c.in-Ok-Some.asked.places.items c.find_in_memory-answer.result
    (rw c.in-Ok-Some.field-0-is at c.in-Ok-Some.ensures.some)
    (subst (λ (ps : List CodePlace). IsFoundInMemory c.args.text.now c.args.core c.args.sectors c.in-Ok-Some.asked.what ps c.args.from c.args.most c.find_in_memory-answer.result) c.as_slice-at.ensures.value c.find_in_memory-answer.ensures)
    c.tell.ensures
