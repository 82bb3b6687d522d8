use Rattle.std.proofs.Common.{◌≡◌, Option, Some, None, sym, rules, tests, nat_eq}
use Rattle.std.specs.Option.{option_map}
use Rattle.std.proofs.lemmas.Iterator.Consumers.{YieldsList-from_filter, YieldsList-at, nth_from_yields_List}
use Rattle.store.specs.Entries.{Entry}
use Rattle.image.specs.Promises.{entry_in, Shows}
use Rattle.image.specs.declared.field.Record.{Record}
use Rattle.image.proofs.Listing.{records_yield}
use Rattle.image.proofs.search.nth_inside.Goals as goal

shown : (r : Option Record) (o : Option Entry) → option_map entry_in r ≡ o → Shows r o
shown None o h = sym h
shown (Some r) o h = sym h

pub returns : goal.returns
returns c = shown c.nth.result _ (nth_from_yields_List {s = c.filter.result} c.nth.result c.nth.new.self c.args.k c.nth.ensures.ran (YieldsList-from_filter _ (λ e. nat_eq c.args.partition e.partition) (YieldsList-at c.filter.ensures.source (records_yield c.of.result c.args.image.now c.of.ensures)) c.filter.ensures.closure (λ x b q k. search (rules, tests))))
