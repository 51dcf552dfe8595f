-- What the steps tell is what the whole tells.
use Rattle.std.proofs.Common.{IsErrAnd, ◌≡◌, ℕ, List, Option, Result, Ok, Err, None, sym, ◌∙◌, subst}
use Rattle.std.proofs.lemmas.Option.{none-some}
use Rattle.span_text.specs.declared.spot.Spot.{Spot}
use Rattle.epl_tree.specs.declared.unit.Unit.{Unit as Tree}
use Rattle.type_table.specs.declared.fault.CheckFault.TheVariants as fault
use Rattle.typed_program.specs.declared.program.Program.{Program}
use Rattle.typed_program.specs.Typed.{Typed}
use Rattle.stmt_check.specs.Programs.{IsProgram as IsTyped}
use Rattle.built_forms.specs.Units.{unbuilt}
use Rattle.program_reader.specs.declared.fault.ProgramFault.{ProgramFault}
use Rattle.program_reader.specs.declared.fault.ProgramFault.TheVariants.{Lex, Syntax, Typing, Unbuilt, Memory}
use Rattle.program_reader.specs.Programs.{IsProgram, IsMistyped, IsUnbuilt, TellsProgram}
use Rattle.epl_syntax.specs.Trees.{AreOnlyTrees}
use Rattle.program_reader.specs.Steps.{TreesRead, ProgramTold, BuiltTold}
use Rattle.program_reader.proofs.Only.{program_only, fault_apart}
use Rattle.program_reader.proofs.Causes.{one_cause}

-- an accepted program is built, or this is why not
pub built_told : (trees : List Tree) (form : Option (ℕ × Spot)) (program : Program) → form ≡ unbuilt trees → IsTyped trees program → Typed program → (r : Result Program ProgramFault) → BuiltTold form program r → ProgramTold trees r
built_told trees form program found is typed (Ok p) t = (subst (IsTyped trees) (sym t.0) is, subst Typed (sym t.0) typed, sym found ∙ t.1)
built_told trees form program found is typed (Err (Lex file spot)) t = absurd t
built_told trees form program found is typed (Err (Syntax file spot)) t = absurd t
built_told trees form program found is typed (Err (Typing code file spot)) t = absurd t
built_told trees form program found is typed (Err (Unbuilt file spot)) t = (program, is, sym found ∙ t)
built_told trees form program found is typed (Err Memory) t = absurd t

pub trees_refused : (texts : List (List ℕ)) (why : ProgramFault) → TreesRead texts (Err why) → TellsProgram texts (Err why)
trees_refused texts (Lex file spot) t = (t.0, λ q k. t.1 k.trees k.are_trees, one_cause texts (Lex file spot) t.0)
trees_refused texts (Syntax file spot) t = (t.0, λ q k. t.1 k.trees k.are_trees, one_cause texts (Syntax file spot) t.0)
trees_refused texts (Typing code file spot) t = absurd t
trees_refused texts (Unbuilt file spot) t = absurd t
trees_refused texts Memory t = (tt, tt, tt)

-- so does the refusal that passes it on
pub refused_told : (texts : List (List ℕ)) (why : ProgramFault) (r : Result Program ProgramFault) → IsErrAnd r (λ e. e ≡ why) → TreesRead texts (Err why) → TellsProgram texts r
refused_told texts why (Ok p) h t = absurd h
refused_told texts why (Err e) h t = subst (λ (w : ProgramFault). TellsProgram texts (Err w)) (sym h) (trees_refused texts why t)

module _ (texts : List (List ℕ)) (trees : List Tree) (only : AreOnlyTrees texts trees) where
  typed_at : (q : Program) → IsProgram texts q → IsTyped trees q
  typed_at q k = subst (λ (us : List Tree). IsTyped us q) (only.1 k.trees k.are_trees) k.typed

  built_at : (q : Program) → IsProgram texts q → unbuilt trees ≡ None
  built_at q k = subst (λ (us : List Tree). unbuilt us ≡ None) (only.1 k.trees k.are_trees) k.built

  pub program_told : (r : Result Program ProgramFault) → ProgramTold trees r → TellsProgram texts r
  program_told (Ok p) t = (record { trees = trees; are_trees = only.0; typed = t.0; built = t.2 }, λ q k. program_only trees p q t.0 (typed_at q k))
  program_told (Err (Lex file spot)) t = absurd t
  program_told (Err (Syntax file spot)) t = absurd t
  program_told (Err (Typing code file spot)) t =
      let cause : IsMistyped texts code file spot = record { trees = trees; are_trees = only.0; fault = t } in
      (cause, λ q k. fault_apart trees (fault.Typing code file spot) q t (typed_at q k), one_cause texts (Typing code file spot) cause)
  program_told (Err (Unbuilt file spot)) t =
      let cause : IsUnbuilt texts file spot = record { trees = trees; are_trees = only.0; program = t.0; typed = t.1; unbuilt_is = t.2 } in
      (cause, λ q k. absurd (none-some _ (sym (built_at q k) ∙ t.2)), one_cause texts (Unbuilt file spot) cause)
  program_told (Err Memory) t = (tt, tt, tt)
