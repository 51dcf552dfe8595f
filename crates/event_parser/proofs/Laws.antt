-- Each rule of event expressions is read just as the grammar says.
use Rattle.std.proofs.Common.{ℕ, zero, suc, List, ◌++◌, None, refl}
use Rattle.grammar_forms.specs.Reader.{Reader}
use Rattle.grammar_forms.specs.Good.{Good}
use Rattle.grammar_forms.proofs.Good.{good_none, good_made, good_either, good_in}
use Rattle.grammar_forms.proofs.Joined.{good_behind, good_within}
use Rattle.epl_lexer.specs.declared.token.Token.{Token}
use Rattle.epl_tree.specs.declared.event.EventExpr.{EventExpr}
use Rattle.epl_tree.specs.declared.event.EventNode.TheVariants as n
use Rattle.primary_parser.specs.Tokens.{row_of}
use Rattle.primary_parser.specs.Words.{parenthesis, closing_parenthesis, and_word, not_word, or_word, xor_word}
use Rattle.expr_parser.proofs.Items.{inside, good_placed, good_joined}
use Rattle.event_parser.specs.declared.part.EventPart.{EventPart}
use Rattle.event_parser.specs.declared.part.EventPart.TheVariants as part
use Rattle.template_parser.specs.Words.{arrow, all_word, wait_word}
use Rattle.event_parser.specs.Grammar as tree
use Rattle.event_parser.specs.Grammar.{IsAtom, IsUnary, IsConjunction, IsExclusive, IsDisjunction, IsWhole, IsPart, IsEventAt, IsEvent}
use Rattle.event_parser.specs.Reading.{waiting, group, atom, repeated, negated, unary_node, unary, conjunction, exclusive, disjunction, whole, part_of, event_at}
use Rattle.template_parser.proofs.TemplateLaws.{clause_words, template_starts, good_span, good_template}

-- what may begin an event expression
abbrev pub starts : List ℕ
starts = all_word ++ (not_word ++ (parenthesis ++ (wait_word ++ template_starts)))

-- what may extend each
abbrev pub conjunction_ext : List ℕ
conjunction_ext = clause_words ++ and_word

abbrev pub exclusive_ext : List ℕ
exclusive_ext = conjunction_ext ++ xor_word

abbrev pub disjunction_ext : List ℕ
disjunction_ext = exclusive_ext ++ or_word

abbrev pub whole_ext : List ℕ
whole_ext = disjunction_ext ++ arrow

abbrev pub ext_of : EventPart → List ℕ
ext_of part.Whole = whole_ext
ext_of part.Prefixed = clause_words

module _ (tokens : List Token) where
  module _ {Deeper : EventPart → EventExpr → ℕ → ℕ → Type 0} {deeper : EventPart → Reader EventExpr} (inner : (p : EventPart) → Good (row_of tokens) (Deeper p) (deeper p) starts (ext_of p)) where
    good_atom : Good (row_of tokens) (IsAtom tokens Deeper) (atom tokens deeper) (parenthesis ++ (wait_word ++ template_starts)) clause_words
    unfolding atom group waiting
    good_atom =
        good_either
        (good_made (λ x. n.Group x None)
        (good_within (inner part.Whole) parenthesis closing_parenthesis (inside tokens parenthesis refl) (inside tokens closing_parenthesis refl) refl refl))
        (good_either (good_made n.Wait (good_behind (good_span tokens) wait_word (inside tokens wait_word refl) refl))
        (good_made n.Template (good_template tokens)) refl)
        refl

    good_unary : Good (row_of tokens) (IsUnary tokens Deeper) (unary tokens deeper) starts clause_words
    unfolding unary unary_node repeated negated
    good_unary =
        good_in starts clause_words
        (good_placed tokens tree.event
        (good_either (good_made n.All (good_behind (inner part.Prefixed) all_word (inside tokens all_word refl) refl))
        (good_either (good_made n.Not (good_behind (inner part.Prefixed) not_word (inside tokens not_word refl) refl))
        good_atom refl) refl))
        refl refl

    good_conjunction : Good (row_of tokens) (IsConjunction tokens Deeper) (conjunction tokens deeper) starts conjunction_ext
    unfolding conjunction
    good_conjunction = good_in starts conjunction_ext (good_placed tokens tree.and_of (good_joined tokens and_word refl good_unary refl refl)) refl refl

    good_exclusive : Good (row_of tokens) (IsExclusive tokens Deeper) (exclusive tokens deeper) starts exclusive_ext
    unfolding exclusive
    good_exclusive = good_in starts exclusive_ext (good_placed tokens tree.xor_of (good_joined tokens xor_word refl good_conjunction refl refl)) refl refl

    good_disjunction : Good (row_of tokens) (IsDisjunction tokens Deeper) (disjunction tokens deeper) starts disjunction_ext
    unfolding disjunction
    good_disjunction = good_in starts disjunction_ext (good_placed tokens tree.or_of (good_joined tokens or_word refl good_exclusive refl refl)) refl refl

    good_whole : Good (row_of tokens) (IsWhole tokens Deeper) (whole tokens deeper) starts whole_ext
    unfolding whole
    good_whole = good_in starts whole_ext (good_placed tokens tree.followed_of (good_joined tokens arrow refl good_disjunction refl refl)) refl refl

    good_part : (p : EventPart) → Good (row_of tokens) (IsPart tokens Deeper p) (part_of tokens deeper p) starts (ext_of p)
    good_part part.Whole = good_whole
    good_part part.Prefixed = good_unary

  -- each part at each depth
  pub good_event : (depth : ℕ) (p : EventPart) → Good (row_of tokens) (IsEventAt tokens depth p) (event_at tokens depth p) starts (ext_of p)
  unfolding event_at IsEventAt
  good_event zero p = good_none (row_of tokens) starts (ext_of p)
  good_event (suc depth) p = good_part (good_event depth) p

  -- an event expression that stands alone
  pub good_event_alone : Good (row_of tokens) (IsEvent tokens) (event_at tokens 200 part.Whole) starts whole_ext
  unfolding IsEvent
  good_event_alone = good_event 200 part.Whole
