-- The names that most files here cite, passed on from one place. Declares nothing.
pub use Rattle.std.proofs.Common.{Bool, List, None, Option, Some, [], ap, arith, cond, false, inl, inr, refl, subst, suc, sym, true, zero, ℕ, ⊎_elim, ◌∙◌}
pub use Rattle.std.proofs.lemmas.Bool.{cases_eq}
pub use Rattle.std.proofs.lemmas.Option.{cond_some, same_Some}
pub use Rattle.grammar_forms.specs.Good.{Covers, Good}
pub use Rattle.grammar_forms.specs.Reader.{Reader, more, or_else}
pub use Rattle.grammar_forms.specs.Rule.{Either, LiesInside, Row, Then, all_in, apart}
