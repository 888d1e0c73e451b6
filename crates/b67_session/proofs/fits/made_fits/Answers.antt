use Rattle.b67_session.proofs.FittingMade.{made_fit}
use Rattle.b67_session.proofs.fits.made_fits.Goals as goal

pub returns : goal.returns
returns c = made_fit
