use Rattle.b67_mcp.proofs.Space.{present_fit}
use Rattle.b67_session.proofs.fits.present_fits.Goals as goal

pub returns : goal.returns
returns c = present_fit
