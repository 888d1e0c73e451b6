use Rattle.b67_fetch.proofs.Values.{holds_element}
use Rattle.b67_fetch.proofs.loading.value.Goals as goal

pub put_element-requires-clause-holds : goal.put_element-requires-clause-holds
put_element-requires-clause-holds c = holds_element c.args.cpu.now c.args.end c.in-Element.original c.in-Element.index c.requires.end c.in-Element.is
