-- Durations and templates of events as they are written:
--   template = [ "unmatched" | "completed" ] NAME "(" [ constraint { "," constraint } ] ")"
--              { "as" NAME | "within" "(" duration ")" } .
--   duration = DECIMAL | sum .
-- `as` and `within` stand at most once each.
use Rattle.std.specs.Prelude.{ℕ, List, [], ◌∷◌, Option, Some, None}
use Rattle.grammar_forms.specs.Rule.{Form, Made, Then, Either, Optional, Behind, Within, Separated}
use Rattle.epl_lexer.specs.declared.token.Token.{Token}
use Rattle.epl_lexer.specs.declared.token.Kind.TheVariants as kind
use Rattle.epl_tree.specs.declared.name.Name.{Name}
use Rattle.epl_tree.specs.declared.event.Constraint.{Constraint}
use Rattle.epl_tree.specs.declared.event.Duration.{Duration}
use Rattle.epl_tree.specs.declared.event.DurationNode.{DurationNode}
use Rattle.epl_tree.specs.declared.event.DurationNode.TheVariants as d
use Rattle.epl_tree.specs.declared.event.Mode.{Mode}
use Rattle.epl_tree.specs.declared.event.Mode.TheVariants as mode
use Rattle.epl_tree.specs.declared.event.Template.{Template}
use Rattle.epl_tree.specs.declared.event.TemplateClause.{TemplateClause}
use Rattle.epl_tree.specs.declared.event.TemplateClause.TheVariants as clause
use Rattle.span_text.specs.declared.spot.Spot.{Spot}
use Rattle.primary_parser.specs.Tokens.{row_of, Takes}
use Rattle.primary_parser.specs.Words.{parenthesis, closing_parenthesis, comma}
use Rattle.primary_parser.specs.Rules.{Placed, Enclosed, listed}
use Rattle.primary_parser.specs.Grammar.{IsSumAlone}
use Rattle.template_parser.specs.Words.{as_word, completed_word, unmatched_word, within_word}
use Rattle.template_parser.specs.Constraints.{IsConstraint}

-- A name that is declared, with its spot.
abbrev pub declared : Spot → List ℕ → Name
declared spot text = record { spot = spot; text = text }

-- A duration with its spot.
abbrev pub duration : Spot → DurationNode → Duration
duration spot node = record { spot = spot; node = node }

-- One clause, or two in the order in which they are written.
abbrev pub clauses_of : TemplateClause × Option TemplateClause → List TemplateClause
clauses_of (first, None) = first ∷ []
clauses_of (first, Some second) = first ∷ second ∷ []

-- A template of a mode, from its name with its constraints and from its clauses.
abbrev pub template_of : Mode → (List ℕ × List Constraint) × Option (List TemplateClause) → Template
template_of mode x = record { mode = mode; event = x.0.0; constraints = x.0.1; clauses = listed x.1 }

module _ (tokens : List Token) where
  abbrev pub IsDuration : Form Duration
  IsDuration = Placed tokens duration (Either (Made d.Decimal (Takes tokens kind.Decimal)) (Made d.Seconds (IsSumAlone tokens)))

  -- A duration in parentheses.
  abbrev pub IsSpan : Form Duration
  IsSpan = Within (row_of tokens) parenthesis closing_parenthesis IsDuration

  abbrev pub IsAs : Form TemplateClause
  IsAs = Made clause.As (Behind (row_of tokens) as_word (Placed tokens declared (Takes tokens kind.Name)))

  abbrev pub IsWithin : Form TemplateClause
  IsWithin = Made clause.Within (Behind (row_of tokens) within_word IsSpan)

  -- `as`, `within` or both, in either order.
  abbrev pub IsClauses : Form (List TemplateClause)
  IsClauses = Either (Made clauses_of (Then IsAs (Optional IsWithin))) (Made clauses_of (Then IsWithin (Optional IsAs)))

  abbrev pub IsConstraints : Form (List Constraint)
  IsConstraints =
      Enclosed (row_of tokens) parenthesis closing_parenthesis (Separated (row_of tokens) comma (IsConstraint tokens))

  -- A template without its mode.
  abbrev pub IsPattern : Form ((List ℕ × List Constraint) × Option (List TemplateClause))
  IsPattern = Then (Then (Takes tokens kind.Name) IsConstraints) (Optional IsClauses)

  abbrev pub IsTemplate : Form Template
  IsTemplate =
      Either (Made (template_of mode.Unmatched) (Behind (row_of tokens) unmatched_word IsPattern))
      (Either (Made (template_of mode.Completed) (Behind (row_of tokens) completed_word IsPattern))
      (Made (template_of mode.Ordinary) IsPattern))
