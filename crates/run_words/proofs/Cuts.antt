-- Options taken off words.
use Rattle.std.proofs.Common.{◌≡◌, ℕ, List}
use Rattle.std.specs.List.{list_all}
use Rattle.run_words.specs.Words.{cut, is_known}

-- the options of words are known where those of the rest are, and both have the same programs behind them
pub record SameBehind (words rest : List (List ℕ)) : Type 0 where
  pub known : list_all (λ g. is_known g.name) (cut rest).given ≡ list_all (λ g. is_known g.name) (cut words).given
  pub programs : (cut rest).programs ≡ (cut words).programs
