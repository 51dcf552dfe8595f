-- What causes that there is no program is the only cause.
use Rattle.std.proofs.Common.{◌≡◌, ℕ, List, refl, sym, ap, ◌∙◌, subst}
use Rattle.std.proofs.lemmas.Option.{same_Some}
use Rattle.span_text.specs.declared.spot.Spot.{Spot}
use Rattle.epl_tree.specs.declared.unit.Unit.{Unit as Tree}
use Rattle.epl_syntax.specs.Trees.{AreTrees, IsUnread, IsUnparsed}
use Rattle.epl_syntax.proofs.Faults.{one_trees, none_without, one_lex, one_syntax, lex_apart}
use Rattle.type_table.specs.declared.fault.CheckFault.{CheckFault}
use Rattle.type_table.specs.declared.fault.CheckFault.TheVariants as fault
use Rattle.stmt_check.specs.Programs.{IsProgram as IsTyped, IsFault as IsTypingFault}
use Rattle.built_forms.specs.Units.{unbuilt}
use Rattle.program_reader.specs.declared.fault.ProgramFault.{ProgramFault}
use Rattle.program_reader.specs.declared.fault.ProgramFault.TheVariants.{Lex, Syntax, Typing, Unbuilt, Memory}
use Rattle.program_reader.specs.Programs.{IsCause, IsMistyped, IsUnbuilt, HasOneCause}
use Rattle.program_reader.proofs.Only.{fault_only, fault_apart}

-- a typing fault as one of a program
abbrev as_program_fault : CheckFault → ProgramFault
as_program_fault (fault.Typing code file spot) = Typing code file spot
as_program_fault fault.Memory = Memory

module _ (texts : List (List ℕ)) where
  -- files with trees have no lex fault and no syntax fault
  read_apart : (trees : List Tree) (file : ℕ) (spot : Spot) → AreTrees texts trees → IsCause texts (Lex file spot) → ⊥
  read_apart trees file spot k f = none_without texts file (λ bytes. IsUnread bytes spot) trees f k

  parsed_apart : (trees : List Tree) (file : ℕ) (spot : Spot) → AreTrees texts trees → IsCause texts (Syntax file spot) → ⊥
  parsed_apart trees file spot k f = none_without texts file (λ bytes. IsUnparsed bytes spot) trees f k

  -- an accepted program has no typing fault
  typed_apart : (code file place : ℕ) (one other : Spot) → IsMistyped texts code file one → IsUnbuilt texts place other → ⊥
  typed_apart code file place one other f k =
      fault_apart f.trees (fault.Typing code file one) k.program f.fault
      (subst (λ (us : List Tree). IsTyped us k.program) (one_trees texts k.trees f.trees k.are_trees f.are_trees) k.typed)

  lex_only : (file : ℕ) (spot : Spot) → IsCause texts (Lex file spot) → (other : ProgramFault) → (other ≡ Memory → ⊥) → IsCause texts other → other ≡ Lex file spot
  lex_only file spot f (Lex place at) isnt k = let same = one_lex texts place file at spot k f in λ i. Lex (same.0 i) (same.1 i)
  lex_only file spot f (Syntax place at) isnt k = absurd (lex_apart texts file place spot at f k)
  lex_only file spot f (Typing code place at) isnt k = absurd (read_apart k.trees file spot k.are_trees f)
  lex_only file spot f (Unbuilt place at) isnt k = absurd (read_apart k.trees file spot k.are_trees f)
  lex_only file spot f Memory isnt k = absurd (isnt refl)

  syntax_only : (file : ℕ) (spot : Spot) → IsCause texts (Syntax file spot) → (other : ProgramFault) → (other ≡ Memory → ⊥) → IsCause texts other → other ≡ Syntax file spot
  syntax_only file spot f (Lex place at) isnt k = absurd (lex_apart texts place file at spot k f)
  syntax_only file spot f (Syntax place at) isnt k = let same = one_syntax texts place file at spot k f in λ i. Syntax (same.0 i) (same.1 i)
  syntax_only file spot f (Typing code place at) isnt k = absurd (parsed_apart k.trees file spot k.are_trees f)
  syntax_only file spot f (Unbuilt place at) isnt k = absurd (parsed_apart k.trees file spot k.are_trees f)
  syntax_only file spot f Memory isnt k = absurd (isnt refl)

  typing_only : (code file : ℕ) (spot : Spot) → IsMistyped texts code file spot → (other : ProgramFault) → (other ≡ Memory → ⊥) → IsCause texts other → other ≡ Typing code file spot
  typing_only code file spot f (Lex place at) isnt k = absurd (read_apart f.trees place at f.are_trees k)
  typing_only code file spot f (Syntax place at) isnt k = absurd (parsed_apart f.trees place at f.are_trees k)
  typing_only code file spot f (Typing number place at) isnt k =
      ap as_program_fault
      (fault_only f.trees (fault.Typing number place at) (fault.Typing code file spot)
      (subst (λ (us : List Tree). IsTypingFault us (fault.Typing number place at)) (one_trees texts k.trees f.trees k.are_trees f.are_trees) k.fault)
      f.fault)
  typing_only code file spot f (Unbuilt place at) isnt k = absurd (typed_apart code file place spot at f k)
  typing_only code file spot f Memory isnt k = absurd (isnt refl)

  unbuilt_only : (file : ℕ) (spot : Spot) → IsUnbuilt texts file spot → (other : ProgramFault) → (other ≡ Memory → ⊥) → IsCause texts other → other ≡ Unbuilt file spot
  unbuilt_only file spot f (Lex place at) isnt k = absurd (read_apart f.trees place at f.are_trees k)
  unbuilt_only file spot f (Syntax place at) isnt k = absurd (parsed_apart f.trees place at f.are_trees k)
  unbuilt_only file spot f (Typing code place at) isnt k = absurd (typed_apart code place file at spot k f)
  unbuilt_only file spot f (Unbuilt place at) isnt k =
      ap (λ (form : ℕ × Spot). Unbuilt form.0 form.1)
      (same_Some (place, at) (file, spot) (sym k.unbuilt_is ∙ ap unbuilt (one_trees texts k.trees f.trees k.are_trees f.are_trees) ∙ f.unbuilt_is))
  unbuilt_only file spot f Memory isnt k = absurd (isnt refl)

  pub one_cause : (why : ProgramFault) → IsCause texts why → HasOneCause texts why
  one_cause (Lex file spot) k = lex_only file spot k
  one_cause (Syntax file spot) k = syntax_only file spot k
  one_cause (Typing code file spot) k = typing_only code file spot k
  one_cause (Unbuilt file spot) k = unbuilt_only file spot k
  one_cause Memory k = tt
