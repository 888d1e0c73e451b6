-- Why a step isn't made, for the crates above.
pub use Rattle.b67_mcp.specs.declared.ends.Stop.{Stop}
pub use Rattle.b67_mcp.specs.declared.ends.Stop.TheVariants.{NoCore, BackingFull, BackingFault, PrintFault}
