use Rattle.store.proofs.LawFacts.{unanswered}
use Rattle.store.proofs.laws.bad_keys_are_unanswered.Goals as goal

pub returns : goal.returns
returns c = unanswered
