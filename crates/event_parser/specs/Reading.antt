-- Event expressions read from left to right, each repetition as far as it goes.
use Rattle.std.specs.Prelude.{ℕ, zero, suc, List, None}
use Rattle.grammar_forms.specs.Reader.{Reader, none, made, or_else, behind, within}
use Rattle.epl_lexer.specs.declared.token.Token.{Token}
use Rattle.epl_tree.specs.declared.event.EventExpr.{EventExpr}
use Rattle.epl_tree.specs.declared.event.EventNode.{EventNode}
use Rattle.epl_tree.specs.declared.event.EventNode.TheVariants as n
use Rattle.primary_parser.specs.Tokens.{row_of}
use Rattle.primary_parser.specs.Words.{parenthesis, closing_parenthesis, and_word, not_word, or_word, xor_word}
use Rattle.primary_parser.specs.Reader.{placed, joined}
use Rattle.event_parser.specs.declared.part.EventPart.{EventPart}
use Rattle.event_parser.specs.declared.part.EventPart.TheVariants as part
use Rattle.template_parser.specs.Words.{arrow, all_word, wait_word}
use Rattle.event_parser.specs.Grammar.{event, followed_of, or_of, xor_of, and_of}
use Rattle.template_parser.specs.Reading.{span, template_at}

module _ (tokens : List Token) where
  unfoldable pub waiting : Reader EventNode
  waiting at = made n.Wait (behind (row_of tokens) wait_word (span tokens) at)

  module _ (deeper : EventPart → Reader EventExpr) where
    unfoldable pub group : Reader EventNode
    group at = made (λ x. n.Group x None) (within (row_of tokens) parenthesis closing_parenthesis (deeper part.Whole) at)

    unfoldable pub atom : Reader EventNode
    atom at = or_else (group at) (or_else (waiting at) (made n.Template (template_at tokens at)))

    unfoldable pub repeated : Reader EventNode
    repeated at = made n.All (behind (row_of tokens) all_word (deeper part.Prefixed) at)

    unfoldable pub negated : Reader EventNode
    negated at = made n.Not (behind (row_of tokens) not_word (deeper part.Prefixed) at)

    unfoldable pub unary_node : Reader EventNode
    unary_node at = or_else (repeated at) (or_else (negated at) (atom at))

    unfoldable pub unary : Reader EventExpr
    unary at = placed tokens event at (unary_node at)

    unfoldable pub conjunction : Reader EventExpr
    conjunction at = placed tokens and_of at (joined (row_of tokens) and_word unary at)

    unfoldable pub exclusive : Reader EventExpr
    exclusive at = placed tokens xor_of at (joined (row_of tokens) xor_word conjunction at)

    unfoldable pub disjunction : Reader EventExpr
    disjunction at = placed tokens or_of at (joined (row_of tokens) or_word exclusive at)

    unfoldable pub whole : Reader EventExpr
    whole at = placed tokens followed_of at (joined (row_of tokens) arrow disjunction at)

    abbrev pub part_of : EventPart → Reader EventExpr
    part_of part.Whole = whole
    part_of part.Prefixed = unary

  -- A part that nests at most so deep.
  unfoldable pub event_at : ℕ → EventPart → Reader EventExpr
  event_at zero part = none
  event_at (suc depth) part = part_of (event_at depth) part
