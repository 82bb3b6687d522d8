use Rattle.std.proofs.Common.{◌≡◌, ◌∙◌, length, rules, arith}
use Rattle.std.proofs.lemmas.Iterator.{YieldsList-from_map}
use Rattle.std.proofs.lemmas.Iterator.Consumers.{YieldsList-at, sum_by_from_yields_List, fits_by_from_yields_list}
use Rattle.names.specs.Names.{class}
use Rattle.image.specs.Format.{weight, encoded}
use Rattle.image.specs.Lawful.{used_encoded}
use Rattle.image.specs.Reading.{listed}
use Rattle.image.proofs.Listing.{records_yield, encoded_within}
use Rattle.image.proofs.search.records_end.Goals as goal

pub sum-requires-clause-fits : goal.sum-requires-clause-fits
sum-requires-clause-fits c =
    let es = listed class c.args.image.now in
    fits_by_from_yields_list (λ e. weight (length e.name)) es c.map.result _ (YieldsList-from_map _ (λ e. weight (length e.name)) (YieldsList-at c.map.ensures.source (records_yield c.of.result c.args.image.now c.of.ensures)) c.map.ensures.closure (λ x r q k. search rules))
    (omega (arith, used_encoded es, encoded_within c.args.image.now))

pub returns : goal.returns
returns c =
    let es = listed class c.args.image.now in
    let total : c.sum.result ≡ length (encoded es) = sum_by_from_yields_List (λ e. weight (length e.name)) es c.map.result _ c.sum.ensures.ran (YieldsList-from_map _ (λ e. weight (length e.name)) (YieldsList-at c.map.ensures.source (records_yield c.of.result c.args.image.now c.of.ensures)) c.map.ensures.closure (λ x r q k. search rules)) ∙ used_encoded es in
    record { value = total; bound = omega (arith, total, encoded_within c.args.image.now) }
