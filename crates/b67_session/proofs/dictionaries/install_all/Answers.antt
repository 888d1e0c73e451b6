use Rattle.std.proofs.Common.{rules, ℕ, ◌+◌, ◌∙◌, map, drop, sym, arith, subst}
use Rattle.b67_codefile.specs.Meaning.{program_of}
use Rattle.b67_session.proofs.Heads.{Installing, installs, installing_next, installing_failed, installing_all, programs_step, programs_end}
use Rattle.b67_session.proofs.dictionaries.install_all.Goals as goal

pub returns-in_err-install-clause-spares : goal.returns-in_err-install-clause-spares
returns-in_err-install-clause-spares g c =
    installing_failed g.B.Backing.holds c.programs.at (map program_of c.args.programs.now) _ _ _ _ _ _
    (programs_step c.args.programs.now c.programs.program-index c.program-item.result c.program-item.is c.programs-test.true)
    c.programs.invariant.installing
    c.install.ensures.spares

pub programs-preserved : goal.programs-preserved
programs-preserved g c = record {
  installing =
      subst (λ (n : ℕ). Installing g.B.Backing.holds (c.programs.at + n) (map program_of c.args.programs.now) (map program_of (drop (c.programs.program-index + 1) c.args.programs.now))
      (record { core = c.args.cpu.now.core; table = c.args.sectors.now; device = c.args.backing.now })
      (record { core = c.install.new.cpu.core; table = c.install.new.sectors; device = c.install.new.backing }))
      (sym c.dictionary_words-at.ensures.value)
      (installing_next g.B.Backing.holds c.programs.at (map program_of c.args.programs.now) _ _ _ _ _ _
      (programs_step c.args.programs.now c.programs.program-index c.program-item.result c.program-item.is c.programs-test.true)
      c.programs.invariant.installing
      (installs g.B.Backing.holds c.programs.at (program_of c.program-item.result)
      (record { core = c.programs.cpu.core; table = c.programs.sectors; device = c.programs.backing })
      (record { core = c.install.new.cpu.core; table = c.install.new.sectors; device = c.install.new.backing })
      c.programs.invariant.installing.known
      c.in_ok-install.ensures.installed c.install.ensures.spares));
  cpu = search rules;
  size = c.install.ensures.device.size ∙ c.programs.invariant.size;
  faults = omega (arith, c.programs.invariant.faults, c.install.ensures.device.cause.later);
  calls = omega (arith, c.programs.invariant.calls, c.install.ensures.device.calls);
}

pub returns-clause-installed : goal.returns-clause-installed
returns-clause-installed g c =
    let (_, heads, writes) = installing_all g.B.Backing.holds c.programs.at (map program_of c.args.programs.now) _ _ _
    (programs_end c.args.programs.now c.programs.program-index c.programs-test.false)
    c.programs.invariant.installing in
    record { heads = heads; writes = writes }
