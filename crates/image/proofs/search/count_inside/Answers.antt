use Rattle.std.proofs.Common.{rules, tests, nat_eq}
use Rattle.std.proofs.lemmas.Iterator.Consumers.{YieldsList-from_filter, YieldsList-at, count_from_yields_List}
use Rattle.image.proofs.Listing.{records_yield}
use Rattle.image.proofs.search.count_inside.Goals as goal

pub returns : goal.returns
returns c = count_from_yields_List c.filter.result _ c.count.ensures.ran (YieldsList-from_filter _ (λ e. nat_eq c.args.partition e.partition) (YieldsList-at c.filter.ensures.source (records_yield c.of.result c.args.image.now c.of.ensures)) c.filter.ensures.closure (λ x b q k. search (rules, tests)))
