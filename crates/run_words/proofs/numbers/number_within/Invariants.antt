use Rattle.std.proofs.Common.{◌≡◌, ◌≤◌, drop}
use Rattle.run_words.specs.Numbers.{number_behind}
use Rattle.run_words.proofs.numbers.number_within.Given as goal

abbrev pub invariant-digits : goal.invariant-digits
invariant-digits l = (number_behind l.number (drop l.byte-index l.word) ≡ number_behind 0 l.word) × (l.number ≤ l.most)
