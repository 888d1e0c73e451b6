use Rattle.b67_law.proofs.MadeRows.{each_row_makes_its_words}
use Rattle.b67_law.proofs.words.each_row_makes_its_words.Goals as goal

pub returns : goal.returns
returns c = each_row_makes_its_words
