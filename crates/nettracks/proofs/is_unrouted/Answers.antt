-- `nettracks::is_unrouted` meets its contract: `all` over the bytes. Assumes nothing.
use Rattle.std.proofs.Common.{rules, tests, eqb, ◌∙◌}
use Rattle.std.proofs.lemmas.Iterator.{YieldsList-from_slice}
use Rattle.std.proofs.lemmas.Iterator.Search.{all_from_yields_List}
use Rattle.nettracks.specs.NetTracks.{no_track}
use Rattle.nettracks.proofs.NetTracksLaws.{unrouted-all}
use Rattle.nettracks.proofs.is_unrouted.Goals as goal

pub returns : goal.returns
returns c =
    all_from_yields_List (λ t. eqb t no_track) _ _ _ c.all.ensures.ran (YieldsList-from_slice c.args.ts.now c.iter.ensures.rest) (λ x b q k. search (rules, tests))
    ∙ unrouted-all c.args.ts.now
