use Rattle.std.proofs.Common.{◌∙◌, map, ap}
use Rattle.b67_load.specs.Listing.{seen}
use Rattle.b67_load.proofs.Starts.{last_found}
use Rattle.b67_load.proofs.listing.Listing.is_last.Goals as goal

pub returns-in-Some : goal.returns-in-Some
returns-in-Some c = c.same_place.ensures ∙ last_found c.deref.result.now c.args.self.now c.args.place c.in-Some.entry.now (ap (map seen) c.deref.ensures.value ∙ c.self.view_is) c.in-Some.ensures.value
