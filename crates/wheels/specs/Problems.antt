-- What is wrong with a word of the arguments, in words.
use Rattle.std.specs.Prelude.{ℕ, List, codes}
use Rattle.wheels.specs.declared.fault.Problem.{Problem}
use Rattle.wheels.specs.declared.fault.Problem.TheVariants.{NoCommand, Missing, TooMany, NoNumber, TooLarge, NoPartition}

abbrev pub problem_words : Problem → List ℕ
problem_words NoCommand = codes "is no command"
problem_words Missing = codes "is missing"
problem_words TooMany = codes "is one argument too many"
problem_words NoNumber = codes "is no decimal number"
problem_words TooLarge = codes "has more than 64 bits"
problem_words NoPartition = codes "is no partition: those are 0 to 511"
