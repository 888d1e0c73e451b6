-- A core of five slots, in which the spans of originals are tested.
use Rattle.b67_stack.specs.declared.Cpu.{Cpu}
use Rattle.b67_stack.specs.MachineView.{MachineView}
use Rattle.b67_overlay.specs.Turns.{Lies}
use Rattle.b67_overlay.specs.Spans.{Families, ShowsFamilies}

-- core shows some families, and its slots end at word 247
abbrev pub IsFamily : Cpu → Type 0
IsFamily cpu = (p : MachineView) × (f : Families) × Lies cpu.core cpu.regs 247 p × ShowsFamilies cpu.core p f
