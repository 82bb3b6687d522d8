use Rattle.std.proofs.Common.{codes, refl, rules}
use Rattle.std.proofs.Output.{has_written_append, has_written_of_eq}
use Rattle.std.proofs.lemmas.List.{append_assoc}
use Rattle.wheels.specs.Escapes.{escaped}
use Rattle.wheels.specs.Texts.{plain}
use Rattle.wheels.proofs.quoted.QuotedDisplay.fmt.Goals as goal

pub returns-clause-writes : goal.returns-clause-writes
returns-clause-writes g c at ok =
    let took = g.W.Write.write_str_gives in
    let start = c.args.f.now in
    let end = c.write_str-2.new.self in
    let opened = c.in_ok-write_str.ensures.writes at refl in
    let inner = c.in_ok-write_escaped.ensures plain (λ b r post. search rules) opened.plain refl in
    let closed = c.write_str-2.ensures.writes inner.plain ok in
    has_written_of_eq took start _ _ end
    (append_assoc (codes "\"") (escaped plain c.args.self.now.0.now) (codes "\""))
    (has_written_append took start _ c.write_escaped.new.f _ end (has_written_append took start _ c.write_str.new.self _ c.write_escaped.new.f opened inner) closed)
