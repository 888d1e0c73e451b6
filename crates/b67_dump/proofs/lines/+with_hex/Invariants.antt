use Rattle.b67_dump.proofs.lines.+with_hex.Given as goal

-- proposed from what the function passes where it calls itself
abbrev pub decreases-with_hex : goal.decreases-with_hex
decreases-with_hex l = l.digits
