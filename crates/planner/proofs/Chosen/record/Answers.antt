-- `planner::Chosen::record` meets its contract: the place is one of the sheet's. Assumes nothing.
use Rattle.planner.proofs.PlacesLaws.{place-read}
use Rattle.planner.proofs.Chosen.record.Goals as goal

pub returns : goal.returns
returns c = place-read c.args.self c.requires c.record.ensures
