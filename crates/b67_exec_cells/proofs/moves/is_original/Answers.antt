use Rattle.b67_exec_cells.proofs.Originals.{tells_original}
use Rattle.b67_exec_cells.proofs.moves.is_original.Goals as goal

pub returns : goal.returns
returns c = λ x plan m t v at f. tells_original c.args.w c.is_original.result c.is_original.ensures.known c.is_original.ensures.other x plan m t v at f
