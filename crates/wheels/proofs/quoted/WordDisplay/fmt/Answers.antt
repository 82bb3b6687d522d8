use Rattle.std.proofs.Common.{rules}
use Rattle.wheels.specs.Texts.{alphanumeric}
use Rattle.wheels.proofs.quoted.WordDisplay.fmt.Goals as goal

pub returns-clause-writes : goal.returns-clause-writes
returns-clause-writes g c = c.write_escaped.ensures alphanumeric (λ b r post. search rules)
