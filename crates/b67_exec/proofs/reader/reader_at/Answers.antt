use Rattle.std.proofs.Common.{◌+◌, subst, sym}
use Rattle.b67_word.specs.declared.couples.Place.{Place}
use Rattle.b67_ctl.specs.declared.descriptors.SegDesc.{SegDesc}
use Rattle.b67_model.specs.Common.{code_of, count_at}
use Rattle.b67_exec.specs.Near.{HoldsCode, ReaderAt}
use Rattle.b67_exec.proofs.reader.reader_at.Goals as goal

pub returns-clause-reader : goal.returns-clause-reader
returns-clause-reader c = record {
  code = (let P : SegDesc → Type 0 = λ d. HoldsCode c.args.cpu.now d in subst P (sym c.reader_to.ensures.code) c.requires.code);
  in_word = c.if-at-ge6.false;
  at = λ x plan s m t ordered h runs.
      let P : Place → Type 0 = λ p. ReaderAt c.reader_to.result (code_of m.constants t.segment) (count_at p + 0) in
      subst P (h.holds.running m t runs).place (c.reader_to.ensures.at x plan s m t ordered h runs);
}
