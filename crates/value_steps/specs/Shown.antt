-- What a reference in an answer points to.
use Rattle.value_steps.specs.Common.{Result, Ok, Err}
use Rattle.std.specs.Borrow.{Bor}

abbrev pub shown : {A E : Type 0} → Result (Bor A) E → Result A E
shown (Ok x) = Ok x.now
shown (Err e) = Err e
