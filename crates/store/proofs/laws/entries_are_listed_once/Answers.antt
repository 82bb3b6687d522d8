use Rattle.store.proofs.LawFacts.{listed_once}
use Rattle.store.proofs.laws.entries_are_listed_once.Goals as goal

pub returns : goal.returns
returns c = listed_once
